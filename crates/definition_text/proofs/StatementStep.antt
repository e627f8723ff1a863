-- A printed statement, read behind a draft, gives the draft that its step gives.
use Rattle.std.proofs.Common.{◌≡◌, ℕ, ◌+◌, true, false, List, [], ◌∷◌, ◌++◌, map, None, Result, Ok, codes, refl, ap, ◌∙◌, arith}
use Rattle.std.specs.List.{list_all, list_any}
use Rattle.std.specs.Str.Lines.{lines}
use Rattle.hal_schema.specs.declared.raw.RawDbd.{RawDbd}
use Rattle.dbd_reader.specs.declared.word.Word.{Word}
use Rattle.dbd_reader.specs.declared.word.Word.TheVariants as words
use Rattle.dbd_reader.specs.declared.operand.Operand.{Operand}
use Rattle.hal_schema.specs.declared.text_fault.TextFault.{TextFault}
use Rattle.dbd_reader.specs.declared.draft.Draft.{Draft}
use Rattle.dbd_reader.specs.declared.statement.Statement.{Statement}
use Rattle.dbd_reader.specs.Words.{is_dark, statement_word, from_word, word_of, operands_of}
use Rattle.dbd_reader.specs.Operands.{operands_in, has_twins}
use Rattle.dbd_reader.specs.Statements.{statements}
use Rattle.dbd_reader.specs.Verdicts.{verdict, breaks, checked}
use Rattle.dbd_reader.specs.Definition.{step, worded, at_line, judged, concluded, definition}
use Rattle.definition_printer.specs.Wrapped.{wrapped}
use Rattle.definition_text.specs.RawDbd.{lines_in}
use Rattle.definition_text.proofs.StatementLines.{laid, operands_behind}
use Rattle.definition_text.proofs.Printed.{Printed, operands_text, ArePrinted, operands_solid, operands_run}
use Rattle.definition_text.proofs.Pieced.{IsWord, IsBody, dark_of, wrapped_read}
use Rattle.definition_text.proofs.OperandsRead.{operand_of, operands_back}

-- ---- the words of statements that have operands

pub record Names (word : List ℕ) (named : Word) : Type 0 where
  pub whole : IsWord word
  pub steps : (draft : Draft) (n m : ℕ) (front : List ℕ)
      → worded draft (laid n (word ++ 32 ∷ front) m) (word_of (word ++ 32 ∷ front)) ≡ step draft named n (operands_in named (operands_of (word ++ 32 ∷ front)))

pub names_dbd : Names (codes "DBD") words.Dbd
unfolding worded word_of from_word statement_word
names_dbd = record {
  whole = record { head = record { kept = λ front. refl; behind = λ front. refl }; plain = λ row. refl; short = omega arith; prints = refl; whole = refl };
  steps = λ draft n m front. refl;
}

pub names_segm : Names (codes "SEGM") words.Segm
unfolding worded word_of from_word statement_word
names_segm = record {
  whole = record { head = record { kept = λ front. refl; behind = λ front. refl }; plain = λ row. refl; short = omega arith; prints = refl; whole = refl };
  steps = λ draft n m front. refl;
}

pub names_field : Names (codes "FIELD") words.Field
unfolding worded word_of from_word statement_word
names_field = record {
  whole = record { head = record { kept = λ front. refl; behind = λ front. refl }; plain = λ row. refl; short = omega arith; prints = refl; whole = refl };
  steps = λ draft n m front. refl;
}

pub names_lchild : Names (codes "LCHILD") words.Lchild
unfolding worded word_of from_word statement_word
names_lchild = record {
  whole = record { head = record { kept = λ front. refl; behind = λ front. refl }; plain = λ row. refl; short = omega arith; prints = refl; whole = refl };
  steps = λ draft n m front. refl;
}

pub names_xdfld : Names (codes "XDFLD") words.Xdfld
unfolding worded word_of from_word statement_word
names_xdfld = record {
  whole = record { head = record { kept = λ front. refl; behind = λ front. refl }; plain = λ row. refl; short = omega arith; prints = refl; whole = refl };
  steps = λ draft n m front. refl;
}

-- ---- one statement

-- what a text says that stands behind a draft, its first line being that of a number
abbrev pub reads : ℕ → Draft → List ℕ → ℕ → Result (RawDbd × ℕ) TextFault
reads n draft text last = definition draft (statements n None (lines text)) last

-- reading goes on behind this draft
pub record GoesOn (draft : Draft) : Type 0 where
  pub same : (m : ℕ) (more : Draft → Result (RawDbd × ℕ) TextFault) → concluded (Ok draft) m more ≡ more draft

judged_step : (n m : ℕ) (draft next : Draft) (word : List ℕ) (named : Word) (text : List ℕ) → Names word named → list_all is_dark text ≡ true → step draft named n (operands_in named text) ≡ Ok next
    → judged draft (laid n (word ++ 32 ∷ text) m) ≡ Ok next
unfolding judged
judged_step n m draft next word named text names dark h =
    ap (at_line n None) (names.steps draft n m text ∙ ap (λ (t : List ℕ). step draft named n (operands_in named t)) (operands_behind word text names.whole.head dark) ∙ h)

text_reads : (n last : ℕ) (draft next : Draft) (word : List ℕ) (named : Word) (text rest : List ℕ) → Names word named → IsBody text → step draft named n (operands_in named text) ≡ Ok next → GoesOn next
    → reads n draft (wrapped (word ++ 32 ∷ text) ++ rest) last ≡ reads (n + lines_in (wrapped (word ++ 32 ∷ text))) next rest last
unfolding definition
text_reads n last draft next word named text rest names body h goes =
    let m : ℕ = n + lines_in (wrapped (word ++ 32 ∷ text)) in
    let more : Draft → Result (RawDbd × ℕ) TextFault = λ d. definition d (statements m None (lines rest)) last in
    ap (λ (ss : List Statement). definition draft ss last) (wrapped_read n word text rest names.whole body)
    ∙ ap (λ (r : Result Draft TextFault). concluded r m more) (judged_step n m draft next word named text names (dark_of text body.solid) h) ∙ goes.same m more

pub statement_reads : (n last : ℕ) (draft next : Draft) (word : List ℕ) (named : Word) (o : Printed) (os : List Printed) (rest : List ℕ) → Names word named → ArePrinted (o ∷ os)
    → step draft named n (operand_of named o ∷ map (operand_of named) os) ≡ Ok next → GoesOn next
    → reads n draft (wrapped (word ++ 32 ∷ operands_text o os) ++ rest) last ≡ reads (n + lines_in (wrapped (word ++ 32 ∷ operands_text o os))) next rest last
statement_reads n last draft next word named o os rest names printed h goes =
    text_reads n last draft next word named (operands_text o os) rest names (record { solid = operands_solid o os printed; runs = operands_run o os printed })
    (ap (step draft named n) (operands_back named o os printed) ∙ h) goes

-- ---- operands that break no rule

abbrev pub AreGood : Word → List Operand → Type 0
AreGood word [] = Unit {0}
AreGood word (o ∷ os) = (verdict word o ≡ Ok tt) × AreGood word os

none_breaks : (rule : ℕ) (word : Word) (os : List Operand) → AreGood word os → list_any (breaks rule word) os ≡ false
none_breaks rule word [] h = refl
none_breaks rule word (o ∷ os) h = rw h.0 (none_breaks rule word os h.1)

pub checked_good : (word : Word) (os : List Operand) → AreGood word os → has_twins os ≡ false → checked word os ≡ Ok tt
unfolding checked
checked_good word os h twins = rw (none_breaks 18 word os h, none_breaks 15 word os h, twins, none_breaks 17 word os h) refl
