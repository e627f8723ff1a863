-- What is printed spells what was printed: operators, clauses, SSAs and lines.
use Rattle.hal_base.specs.Bytes.{is_printable}
use Rattle.std.proofs.Common.{◌≡◌, ℕ, ◌<◌, Bool, true, false, cond, List, [], ◌∷◌, ◌++◌, length, map, refl, sym, ap, subst, ◌∙◌, append_assoc, arith, inl, inr, codes}
use Rattle.std.specs.List.{list_all, flat_map}
use Rattle.std.specs.Str.{bytes_eq}
use Rattle.std.proofs.lemmas.List.{append-nil}
use Rattle.std.proofs.lemmas.Bool.Decides.{nat_tests}
use Rattle.hal_base.specs.Name.{upper}
use Rattle.call_text.specs.declared.line.Clause.{Clause}
use Rattle.call_text.specs.Words.{is_letter, printed_operator}
use Rattle.call_text.specs.Printing.{printed_value}
use Rattle.call_text.specs.Printed.{is_sign, operator_text, bytes_of, clause_text, connector, joined_clause}
use Rattle.call_text.specs.Plain.{plain_clause}
use Rattle.call_text.specs.Spelling.{SpellsOperatorWord, SpellsOperator, SpellsClause, StandsBefore, is_connector, SpellsClauses}
use Rattle.call_text.proofs.Runs.{both, all_weaker, letters_bytes}
use Rattle.call_text.proofs.Stopping.{other_byte}
use Rattle.call_text.proofs.ValuesPrinted.{Prints, prints_both, map_same, name_spells, name_prints, value_printed}

-- ---- operators

pub record PrintsOperator (op : List ℕ) : Type 0 where
  pub spells : SpellsOperator (operator_text op) op
  pub prints : Prints (operator_text op)

signs_print : (op : List ℕ) → 0 < length op → list_all is_sign op ≡ true → op ≡ printed_operator op → Prints op → PrintsOperator op
signs_print op some all printed prints = record {
  spells = rw all (inl (record { before = []; signs = op; after = []; whole = sym (append-nil op); before_is = refl; after_is = refl; some = some; all = all; printed = printed }));
  prints = rw all prints;
}

letter_no_sign : (b : ℕ) → is_letter b ≡ true → is_sign b ≡ false
letter_no_sign b h = rw (other_byte 61 is_letter refl b h, other_byte 60 is_letter refl b h, other_byte 62 is_letter refl b h, other_byte 33 is_letter refl b h) refl

letters_no_signs : (op : List ℕ) → 0 < length op → list_all is_letter op ≡ true → list_all is_sign op ≡ false
letters_no_signs [] some all = absurd (omega arith)
letters_no_signs (b ∷ op) some all = rw (letter_no_sign b (both (is_letter b) (list_all is_letter op) all).0) refl

letter_prints : (b : ℕ) → is_letter b ≡ true → is_printable b ≡ true
letter_prints b h = grind (arith, h)

word_print : (op : List ℕ) → 0 < length op → list_all is_letter op ≡ true → op ≡ printed_operator op → PrintsOperator op
word_print op some all printed =
    let same : map upper op ≡ op = map_same op (letters_bytes op all) in
    let word : SpellsOperatorWord (32 ∷ op ++ 32 ∷ []) op = record {
      before = 32 ∷ [];
      word = op;
      after = 32 ∷ [];
      whole = refl;
      before_is = record { blanks = refl; some = omega arith };
      after_is = record { blanks = refl; some = omega arith };
      some = some;
      all = rw same all;
      printed = printed ∙ ap printed_operator (sym same);
    } in
    record {
      spells = rw (letters_no_signs op some all) (inr word);
      prints = rw (letters_no_signs op some all) (prints_both op (32 ∷ []) (all_weaker is_letter is_printable letter_prints op all) refl);
    }

-- the printed spelling of an operator is a known one, or as it stands
printed_cases : (P : List ℕ → Type 0) → P (codes "=") → P (codes ">") → P (codes "<") → P (codes ">=") → P (codes "<=") → (op : List ℕ) → (op ≡ printed_operator op → P op) → P (printed_operator op)
printed_cases P eq gt lt ge le op other =
    by_case (bytes_eq op (codes "EQ")) (bytes_eq op (codes "GT")) (bytes_eq op (codes "LT")) (bytes_eq op (codes "GE")) (bytes_eq op (codes "=>")) (bytes_eq op (codes "LE")) (bytes_eq op (codes "=<")) refl
  where
    by_case : (a b c d e f g : Bool) → printed_operator op ≡ cond a (codes "=") (cond b (codes ">") (cond c (codes "<") (cond d (codes ">=") (cond e (codes ">=") (cond f (codes "<=") (cond g (codes "<=") op)))))) → P (printed_operator op)
    by_case true b c d e f g is = subst P (sym is) eq
    by_case false true c d e f g is = subst P (sym is) gt
    by_case false false true d e f g is = subst P (sym is) lt
    by_case false false false true e f g is = subst P (sym is) ge
    by_case false false false false true f g is = subst P (sym is) ge
    by_case false false false false false true g is = subst P (sym is) le
    by_case false false false false false false true is = subst P (sym is) le
    by_case false false false false false false false is = subst P (sym is) (other (sym is))

sign_prints : (b : ℕ) → is_sign b ≡ true → is_printable b ≡ true
sign_prints b h = grind (arith, nat_tests, h)

known : (op : List ℕ) → (op ≡ printed_operator op → PrintsOperator op) → PrintsOperator (printed_operator op)
known op other = printed_cases PrintsOperator
    (signs_print (codes "=") (omega arith) refl refl refl)
    (signs_print (codes ">") (omega arith) refl refl refl)
    (signs_print (codes "<") (omega arith) refl refl refl)
    (signs_print (codes ">=") (omega arith) refl refl refl)
    (signs_print (codes "<=") (omega arith) refl refl refl)
    op other

pub operator_printed : (text op : List ℕ) → SpellsOperator text op → PrintsOperator op
operator_printed text op (inl h) = subst PrintsOperator (sym h.printed) (known h.signs (λ e. signs_print h.signs h.some h.all e (all_weaker is_sign is_printable sign_prints h.signs h.all)))
operator_printed text op (inr h) = subst PrintsOperator (sym h.printed) (known (map upper h.word) (λ e. word_print (map upper h.word) (map_some h.word h.some) h.all e))
  where
    map_some : (word : List ℕ) → 0 < length word → 0 < length (map upper word)
    map_some [] some = some
    map_some (b ∷ word) some = omega arith

-- ---- clauses

pub record PrintsClause (clause : Clause) : Type 0 where
  pub spells : SpellsClause (clause_text clause) (plain_clause clause)
  pub prints : Prints (clause_text clause)

pub clause_printed : (text : List ℕ) (clause : Clause) → SpellsClause text clause → PrintsClause clause
unfolding clause_text
clause_printed text clause h =
    let o = operator_printed h.op clause.op h.op_is in
    let v = value_printed h.value clause.value h.value_is in
    let value = printed_value (bytes_of clause.value) in
    record {
      spells = record {
        field = clause.field;
        op = operator_text clause.op;
        value = value;
        whole = append_assoc clause.field (operator_text clause.op) value;
        field_is = name_spells h.field clause.field h.field_is;
        op_is = o.spells;
        value_is = v.spells;
      };
      prints = prints_both (clause.field ++ operator_text clause.op) value (prints_both clause.field (operator_text clause.op) (name_prints h.field clause.field h.field_is) o.prints) v.prints;
    }

-- the clauses behind the first, and the closing parenthesis
abbrev pub closing : List Clause → List ℕ
closing more = flat_map joined_clause more ++ 41 ∷ []

stands_printed : (text : List ℕ) (or : Bool) (clause : Clause) (rest printed : List ℕ) → StandsBefore text or clause rest → StandsBefore (clause_text clause ++ printed) or (plain_clause clause) printed
stands_printed text or clause rest printed h = record {
  before = [];
  written = clause_text clause;
  after = [];
  whole = refl;
  before_is = refl;
  after_is = refl;
  spells = (clause_printed h.written clause h.spells).spells;
  joined = h.joined;
}

connector_printed : (or : Bool) → (is_connector or (connector or) ≡ true) × (is_printable (connector or) ≡ true)
connector_printed true = (refl, refl)
connector_printed false = (refl, refl)

pub record PrintsClauses (or : Bool) (first : Clause) (more : List Clause) : Type 0 where
  pub spells : SpellsClauses (clause_text first ++ closing more) or (plain_clause first) (map plain_clause more)
  pub prints : Prints (clause_text first ++ closing more)

pub clauses_printed : (text : List ℕ) (or : Bool) (first : Clause) (more : List Clause) → SpellsClauses text or first more → PrintsClauses or first more
clauses_printed text or first [] h = record {
  spells = stands_printed text or first (41 ∷ []) (41 ∷ []) h;
  prints = prints_both (clause_text first) (41 ∷ []) (clause_printed h.written first h.spells).prints refl;
}
clauses_printed text or first (next ∷ more) h =
    let sign = connector_printed next.or in
    let inner = clauses_printed h.1 next.or next more h.4 in
    let regrouped : closing (next ∷ more) ≡ connector next.or ∷ (clause_text next ++ closing more) = ap (λ (t : List ℕ). connector next.or ∷ t) (append_assoc (clause_text next) (flat_map joined_clause more) (41 ∷ [])) in
    record {
      spells = subst (λ (t : List ℕ). SpellsClauses (clause_text first ++ t) or (plain_clause first) (map plain_clause (next ∷ more))) (sym regrouped)
          (connector next.or, clause_text next ++ closing more, sign.0, stands_printed text or first (h.0 ∷ h.1) (connector next.or ∷ (clause_text next ++ closing more)) h.3, inner.spells);
      prints = subst (λ (t : List ℕ). Prints (clause_text first ++ t)) (sym regrouped)
          (prints_both (clause_text first) (connector next.or ∷ (clause_text next ++ closing more)) (clause_printed h.3.written first h.3.spells).prints (rw sign.1 inner.prints));
    }
