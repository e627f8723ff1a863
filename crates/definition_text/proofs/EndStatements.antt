-- DBDGEN, FINISH and END, as they are printed, end a definition.
use Rattle.std.proofs.Common.{◌≡◌, ℕ, ◌+◌, ◌≤◌, true, false, List, [], ◌∷◌, ◌++◌, length, Some, None, Result, Ok, codes, refl, ap, ◌∙◌, arith, append_assoc}
use Rattle.std.specs.List.{list_all}
use Rattle.std.specs.Str.Lines.{lines}
use Rattle.hal_schema.specs.declared.raw.RawType.{RawType}
use Rattle.hal_schema.specs.declared.raw.RawDbd.{RawDbd}
use Rattle.dbd_reader.specs.declared.word.Word.{Word}
use Rattle.dbd_reader.specs.declared.word.Word.TheVariants as words
use Rattle.hal_schema.specs.declared.text_fault.TextFault.{TextFault}
use Rattle.dbd_reader.specs.declared.draft.Draft.{Draft}
use Rattle.dbd_reader.specs.declared.draft.Draft.TheVariants as drafts
use Rattle.dbd_reader.specs.declared.statement.Statement.{Statement}
use Rattle.hal_base.specs.Bytes.{is_printable}
use Rattle.dbd_reader.specs.Lines.{is_comment}
use Rattle.dbd_reader.specs.Words.{statement_word, from_word, word_of, operands_of}
use Rattle.dbd_reader.specs.Operands.{operands_in, has_twins}
use Rattle.dbd_reader.specs.Statements.{goes_on, statements}
use Rattle.dbd_reader.specs.Verdicts.{checked}
use Rattle.dbd_reader.specs.Definition.{with_type, at_segment, at_end, at_finish, step, worded, at_line, judged, concluded, definition}
use Rattle.definition_printer.specs.Wrapped.{pieces, on_lines, wrapped}
use Rattle.definition_printer.specs.Dbd.{end_text}
use Rattle.definition_text.proofs.StatementLines.{laid, row_line, begun_row, begun_here, ended_here}
use Rattle.definition_text.proofs.StatementStep.{reads}

-- a statement word that stands alone on its line
record StandsAlone (word : List ℕ) (named : Word) : Type 0 where
  text : wrapped word ≡ word ++ 10 ∷ []
  plain : is_comment word ≡ false
  prints : list_all is_printable word ≡ true
  short : length word ≤ 71
  ends : (n m : ℕ) → goes_on (laid n word m) ≡ false
  steps : (draft : Draft) (n m : ℕ) → worded draft (laid n word m) (word_of word) ≡ step draft named n []

alone_dbdgen : StandsAlone (codes "DBDGEN") words.Dbdgen
unfolding wrapped on_lines pieces goes_on worded word_of from_word statement_word operands_of operands_in
alone_dbdgen = record { text = refl; plain = refl; prints = refl; short = omega arith; ends = λ n m. refl; steps = λ draft n m. refl }

alone_finish : StandsAlone (codes "FINISH") words.Finish
unfolding wrapped on_lines pieces goes_on worded word_of from_word statement_word operands_of operands_in
alone_finish = record { text = refl; plain = refl; prints = refl; short = omega arith; ends = λ n m. refl; steps = λ draft n m. refl }

alone_end : StandsAlone (codes "END") words.End
unfolding wrapped on_lines pieces goes_on worded word_of from_word statement_word operands_of operands_in
alone_end = record { text = refl; plain = refl; prints = refl; short = omega arith; ends = λ n m. refl; steps = λ draft n m. refl }

alone_read : (n : ℕ) (word : List ℕ) (named : Word) (rest : List ℕ) → StandsAlone word named → statements n None (lines (wrapped word ++ rest)) ≡ laid n word (n + 1) ∷ statements (n + 1) None (lines rest)
alone_read n word named rest a =
    let text : wrapped word ++ rest ≡ word ++ 10 ∷ rest = ap (λ (t : List ℕ). t ++ rest) a.text ∙ append_assoc word (10 ∷ []) rest in
    ap (λ (t : List ℕ). statements n None (lines t)) text
    ∙ ap (statements n None) (row_line word rest a.prints)
    ∙ begun_here n word (lines rest) a.plain
    ∙ ap (λ (s : Statement). statements (n + 1) (Some s) (lines rest)) (begun_row n word a.prints a.short)
    ∙ ended_here (n + 1) (laid n word (n + 1)) (lines rest) (a.ends n (n + 1))

judged_alone : (n m : ℕ) (draft next : Draft) (word : List ℕ) (named : Word) → StandsAlone word named → step draft named n [] ≡ Ok next → judged draft (laid n word m) ≡ Ok next
unfolding judged
judged_alone n m draft next word named a h = ap (at_line n None) (a.steps draft n m ∙ h)

-- what is concluded from the draft behind the word
alone_reads : (n last : ℕ) (draft next : Draft) (word : List ℕ) (named : Word) (rest : List ℕ) → StandsAlone word named → step draft named n [] ≡ Ok next
    → reads n draft (wrapped word ++ rest) last ≡ concluded (Ok next) (n + 1) (λ d. reads (n + 1) d rest last)
unfolding definition
alone_reads n last draft next word named rest a h =
    let more : Draft → Result (RawDbd × ℕ) TextFault = λ d. definition d (statements (n + 1) None (lines rest)) last in
    ap (λ (ss : List Statement). definition draft ss last) (alone_read n word named rest a) ∙ ap (λ (r : Result Draft TextFault). concluded r (n + 1) more) (judged_alone n (n + 1) draft next word named a h)

gen_step : (n : ℕ) (dbd : RawDbd) (segm : RawType) → step (drafts.Segment dbd segm) words.Dbdgen n [] ≡ Ok (drafts.Generated (with_type dbd segm))
unfolding step at_segment checked has_twins
gen_step n dbd segm = refl

finish_step : (n : ℕ) (dbd : RawDbd) → step (drafts.Generated dbd) words.Finish n [] ≡ Ok (drafts.Finished dbd)
unfolding step at_end checked has_twins
finish_step n dbd = refl

end_step : (n : ℕ) (dbd : RawDbd) → step (drafts.Finished dbd) words.End n [] ≡ Ok (drafts.Ended dbd)
unfolding step at_finish checked has_twins
end_step n dbd = refl

pub end_reads : (n last : ℕ) (dbd : RawDbd) (segm : RawType) (rest : List ℕ) → reads n (drafts.Segment dbd segm) (end_text ++ rest) last ≡ Ok (with_type dbd segm, n + 3)
end_reads n last dbd segm rest =
    let gen : List ℕ = wrapped (codes "DBDGEN") in
    let finish : List ℕ = wrapped (codes "FINISH") in
    let the_end : List ℕ = wrapped (codes "END") in
    let whole : RawDbd = with_type dbd segm in
    let three : n + 1 + 1 + 1 ≡ n + 3 = omega arith in
    let text : end_text ++ rest ≡ gen ++ (finish ++ (the_end ++ rest)) = append_assoc (gen ++ finish) the_end rest ∙ append_assoc gen finish (the_end ++ rest) in
    ap (λ (t : List ℕ). reads n (drafts.Segment dbd segm) t last) text
    ∙ alone_reads n last (drafts.Segment dbd segm) (drafts.Generated whole) (codes "DBDGEN") words.Dbdgen (finish ++ (the_end ++ rest)) alone_dbdgen (gen_step n dbd segm)
    ∙ alone_reads (n + 1) last (drafts.Generated whole) (drafts.Finished whole) (codes "FINISH") words.Finish (the_end ++ rest) alone_finish (finish_step (n + 1) whole)
    ∙ alone_reads (n + 1 + 1) last (drafts.Finished whole) (drafts.Ended whole) (codes "END") words.End rest alone_end (end_step (n + 1 + 1) whole)
    ∙ ap (λ (m : ℕ). Ok (whole, m)) three
