-- What is spelled is read: operators, clauses and SSAs.
use Rattle.std.proofs.Common.{◌≡◌, ℕ, zero, suc, ◌<◌, ◌≤◌, Bool, true, false, nat_lt, ◌==◌, List, [], ◌∷◌, ◌++◌, length, map, Option, Some, None, Ok, refl, sym, ap, subst, ◌∙◌, append_assoc, arith, inl, inr, length-append}
use Rattle.std.specs.List.{list_all, take_while}
use Rattle.std.proofs.lemmas.Bool.Decides.{nat_tests}
use Rattle.hal_base.specs.Name.{is_name, is_name_byte, upper}
use Rattle.call_text.specs.declared.line.Clause.{Clause}
use Rattle.call_text.specs.Words.{is_blank, past, in_word}
use Rattle.call_text.specs.Printed.{is_sign}
use Rattle.call_text.specs.Spelling.{IsRoom, SpellsName, SpellsSigns, SpellsOperatorWord, SpellsOperator, SpellsClause, StandsBefore, is_connector, SpellsClauses}
use Rattle.call_text.specs.Reading.{begins_blank, operator_word_at, operator_at, clause_at, connector_at, clause_and_connector_at, clauses_at}
use Rattle.call_text.proofs.Loops.{onto}
use Rattle.call_text.proofs.Runs.{both, Stops, past_run, take_run, name_bytes, letters_bytes, in_words}
use Rattle.call_text.proofs.Stopping.{other_byte, sign_no_word, word_no_sign, stops_run, stops_gap, stops_room, word_blank, value_no_blank, value_no_sign}
use Rattle.call_text.proofs.Again.{name_again, past_gap, value_again}

abbrev pub is_quote : ℕ → Bool
is_quote b = b == 39

-- ---- operators

record OperatorRead (text op rest : List ℕ) : Type 0 where
  after : List ℕ
  read : operator_at (past is_blank text) ≡ Ok (op, after)
  next : past is_blank after ≡ rest

some_signs : (signs : List ℕ) → 0 < length signs → (length signs == 0) ≡ false
some_signs [] h = absurd (omega arith)
some_signs (b ∷ signs) h = grind (arith, nat_tests)

signs_again : (text op rest : List ℕ) → SpellsSigns text op → Stops is_blank rest → Stops is_sign rest → OperatorRead (text ++ rest) op rest
unfolding operator_at
signs_again text op rest h no_blank no_sign =
    let tail = h.after ++ rest in
    let regrouped : text ++ rest ≡ h.before ++ (h.signs ++ tail) = ap (λ (t : List ℕ). t ++ rest) h.whole ∙ simp append_assoc in
    let begins : Stops is_blank (h.signs ++ tail) = stops_run is_blank is_sign (λ b p. other_byte 32 is_sign refl b p) h.signs tail h.some h.all in
    let skipped : past is_blank (text ++ rest) ≡ h.signs ++ tail = ap (past is_blank) regrouped ∙ past_gap h.before (h.signs ++ tail) h.before_is begins in
    let ends : Stops is_sign tail = stops_gap is_sign refl h.after rest h.after_is no_sign in
    record {
      after = tail;
      read = ap operator_at skipped ∙ rw (take_run is_sign h.signs tail h.all ends, past_run is_sign h.signs tail h.all ends, some_signs h.signs h.some, ← h.printed) refl;
      next = past_gap h.after rest h.after_is no_blank;
    }

pub room_begins : (room rest : List ℕ) → IsRoom room → begins_blank (room ++ rest) ≡ true
room_begins [] rest h = absurd (omega (arith, h.some))
room_begins (b ∷ room) rest h = (both (b == 32) (list_all is_blank room) h.blanks).0

some_word : (word : List ℕ) → 0 < length word → nat_lt 0 (length word) ≡ true
some_word word h = grind (arith, nat_tests)

word_operator_again : (text op rest : List ℕ) → SpellsOperatorWord text op → Stops is_blank rest → OperatorRead (text ++ rest) op rest
unfolding operator_at operator_word_at
word_operator_again text op rest h no_blank =
    let tail = h.after ++ rest in
    let bytes : list_all in_word h.word ≡ true = in_words h.word (letters_bytes (map upper h.word) h.all) in
    let regrouped : text ++ rest ≡ h.before ++ (h.word ++ tail) = ap (λ (t : List ℕ). t ++ rest) h.whole ∙ simp append_assoc in
    let begins : Stops is_blank (h.word ++ tail) = stops_run is_blank in_word word_blank h.word tail h.some bytes in
    let skipped : past is_blank (text ++ rest) ≡ h.word ++ tail = ap (past is_blank) regrouped ∙ past_gap h.before (h.word ++ tail) h.before_is.blanks begins in
    let unsigned : Stops is_sign (h.word ++ tail) = stops_run is_sign in_word word_no_sign h.word tail h.some bytes in
    let none : take_while is_sign (h.word ++ tail) ≡ [] = take_run is_sign [] (h.word ++ tail) refl unsigned in
    let ends : Stops in_word tail = stops_room in_word refl h.after rest h.after_is in
    record {
      after = tail;
      read = ap operator_at skipped ∙ rw (none, take_run in_word h.word tail bytes ends, past_run in_word h.word tail bytes ends, some_word h.word h.some, h.all, room_begins h.after rest h.after_is, ← h.printed) refl;
      next = past_gap h.after rest h.after_is.blanks no_blank;
    }

operator_again : (text op rest : List ℕ) → SpellsOperator text op → Stops is_blank rest → Stops is_sign rest → OperatorRead (text ++ rest) op rest
operator_again text op rest (inl h) no_blank no_sign = signs_again text op rest h no_blank no_sign
operator_again text op rest (inr h) no_blank no_sign = word_operator_again text op rest h no_blank

operator_no_word : (text op rest : List ℕ) → SpellsOperator text op → Stops in_word (text ++ rest)
operator_no_word text op rest (inl h) =
    let regrouped : text ++ rest ≡ h.before ++ (h.signs ++ (h.after ++ rest)) = ap (λ (t : List ℕ). t ++ rest) h.whole ∙ simp append_assoc in
    subst (Stops in_word) (sym regrouped) (stops_gap in_word refl h.before (h.signs ++ (h.after ++ rest)) h.before_is (stops_run in_word is_sign sign_no_word h.signs (h.after ++ rest) h.some h.all))
operator_no_word text op rest (inr h) =
    let regrouped : text ++ rest ≡ h.before ++ (h.word ++ (h.after ++ rest)) = ap (λ (t : List ℕ). t ++ rest) h.whole ∙ simp append_assoc in
    subst (Stops in_word) (sym regrouped) (stops_room in_word refl h.before (h.word ++ (h.after ++ rest)) h.before_is)

-- ---- clauses

pub clause_again : (text : List ℕ) (clause : Clause) (rest : List ℕ) → SpellsClause text clause → Stops is_quote rest → clause_at clause.or (text ++ rest) ≡ Ok (clause, rest)
unfolding clause_at
clause_again text clause rest h stops =
    let tail = h.value ++ rest in
    let regrouped : text ++ rest ≡ h.field ++ (h.op ++ tail) = ap (λ (t : List ℕ). t ++ rest) h.whole ∙ simp append_assoc in
    let o = operator_again h.op clause.op tail h.op_is (value_no_blank h.value clause.value rest h.value_is) (value_no_sign h.value clause.value rest h.value_is) in
    ap (clause_at clause.or) regrouped ∙ rw (name_again h.field clause.field (h.op ++ tail) h.field_is (operator_no_word h.op clause.op tail h.op_is), o.read, o.next, value_again h.value clause.value rest h.value_is stops) refl

pub name_some : (text name rest : List ℕ) → SpellsName text name → Stops is_blank (text ++ rest)
name_some [] name rest h =
    let empty : name ≡ [] = sym h.spelled in
    let no : is_name [] ≡ true = subst (λ (n : List ℕ). is_name n ≡ true) empty h.is in
    absurd cc
name_some (b ∷ text) name rest h =
    let all : list_all in_word (b ∷ text) ≡ true = in_words (b ∷ text) (subst (λ (n : List ℕ). list_all is_name_byte n ≡ true) (sym h.spelled) (name_bytes name h.is)) in
    word_blank b (both (in_word b) (list_all in_word text) all).0

clause_no_blank : (text : List ℕ) (clause : Clause) (rest : List ℕ) → SpellsClause text clause → Stops is_blank (text ++ rest)
clause_no_blank text clause rest h =
    let regrouped : text ++ rest ≡ h.field ++ ((h.op ++ h.value) ++ rest) = ap (λ (t : List ℕ). t ++ rest) h.whole ∙ append_assoc h.field (h.op ++ h.value) rest in
    subst (Stops is_blank) (sym regrouped) (name_some h.field clause.field ((h.op ++ h.value) ++ rest) h.field_is)

-- ---- clauses in parentheses

-- a byte that no gap and no quote is
connector_stops : (or : Bool) (sign : ℕ) → is_connector or sign ≡ true → (is_blank sign ≡ false) × (is_quote sign ≡ false)
connector_stops true sign h = (other_byte 32 (is_connector true) refl sign h, other_byte 39 (is_connector true) refl sign h)
connector_stops false sign h = (other_byte 32 (is_connector false) refl sign h, other_byte 39 (is_connector false) refl sign h)

connector_again : (or : Bool) (sign : ℕ) (rest : List ℕ) → is_connector or sign ≡ true → connector_at (sign ∷ rest) ≡ Ok (Some or, rest)
unfolding connector_at
connector_again true sign rest h = rw (other_byte 41 (is_connector true) refl sign h, other_byte 38 (is_connector true) refl sign h, other_byte 42 (is_connector true) refl sign h, h) refl
connector_again false sign rest h = rw (other_byte 41 (is_connector false) refl sign h, h) refl

closing_again : (rest : List ℕ) → connector_at (41 ∷ rest) ≡ Ok (None, rest)
unfolding connector_at
closing_again rest = refl

-- a clause, and the byte behind its gaps
stands_again : (text : List ℕ) (or : Bool) (clause : Clause) (sign : ℕ) (rest more : List ℕ) (next : Option Bool) → StandsBefore text or clause (sign ∷ rest) → is_blank sign ≡ false → is_quote sign ≡ false → connector_at (sign ∷ (rest ++ more)) ≡ Ok (next, rest ++ more)
    → clause_and_connector_at or (text ++ more) ≡ Ok (clause, next, rest ++ more)
unfolding clause_and_connector_at
stands_again text or clause sign rest more next h no_blank no_quote joins =
    let tail = sign ∷ (rest ++ more) in
    let regrouped : text ++ more ≡ h.before ++ (h.written ++ (h.after ++ tail)) = ap (λ (t : List ℕ). t ++ more) h.whole ∙ simp append_assoc in
    let skipped : past is_blank (text ++ more) ≡ h.written ++ (h.after ++ tail) = ap (past is_blank) regrouped ∙ past_gap h.before (h.written ++ (h.after ++ tail)) h.before_is (clause_no_blank h.written clause (h.after ++ tail) h.spells) in
    let read : clause_at or (h.written ++ (h.after ++ tail)) ≡ Ok (clause, h.after ++ tail) = subst (λ (o : Bool). clause_at o (h.written ++ (h.after ++ tail)) ≡ Ok (clause, h.after ++ tail)) h.joined (clause_again h.written clause (h.after ++ tail) h.spells (stops_gap is_quote refl h.after tail h.after_is no_quote)) in
    let behind_it : past is_blank (h.after ++ tail) ≡ tail = past_gap h.after tail h.after_is no_blank in
    rw (skipped, read, behind_it, joins) refl

-- each clause takes a byte at least
stands_longer : (text : List ℕ) (or : Bool) (clause : Clause) (rest : List ℕ) → StandsBefore text or clause rest → length rest ≤ length text
stands_longer text or clause rest h = omega (arith, ap length h.whole, length-append h.before (h.written ++ (h.after ++ rest)), length-append h.written (h.after ++ rest), length-append h.after rest)

pub clauses_again : (n : ℕ) (text : List ℕ) (or : Bool) (first : Clause) (others : List Clause) (more : List ℕ) → SpellsClauses text or first others → length text ≤ n → clauses_at n (Some or) (text ++ more) ≡ Ok (first ∷ others, more)
unfolding clauses_at
clauses_again zero text or first [] more h fits =
    let longer = stands_longer text or first (41 ∷ []) h in
    absurd (omega arith)
clauses_again (suc n) text or first [] more h fits =
    let read = stands_again text or first 41 [] more None h refl refl (closing_again more) in
    rw (read) (closed n first more)
  where
    closed : (n : ℕ) (first : Clause) (more : List ℕ) → onto first (clauses_at n None more) ≡ Ok (first ∷ [], more)
    closed zero first more = refl
    closed (suc n) first more = refl
clauses_again zero text or first (next ∷ others) more h fits =
    let longer = stands_longer text or first (h.0 ∷ h.1) h.3 in
    absurd (omega arith)
clauses_again (suc n) text or first (next ∷ others) more h fits =
    let longer = stands_longer text or first (h.0 ∷ h.1) h.3 in
    let stops = connector_stops next.or h.0 h.2 in
    let read = stands_again text or first h.0 h.1 more (Some next.or) h.3 stops.0 stops.1 (connector_again next.or h.0 (h.1 ++ more) h.2) in
    rw (read, clauses_again n h.1 next.or next others more h.4 (omega arith)) refl
