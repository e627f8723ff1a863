-- What is read is spelled so: operators, clauses and SSAs.
use Rattle.hal_base.specs.Reading.{◌>>=◌}
use Rattle.hal_base.specs.Bytes.{is_printable}
use Rattle.std.proofs.Common.{◌≡◌, ℕ, zero, suc, ◌<◌, ◌&&◌, ◌||◌, Bool, true, false, cond, nat_lt, ◌==◌, List, [], ◌∷◌, ◌++◌, length, map, Option, Some, None, Result, Ok, Err, refl, sym, ap, subst, ◌∙◌, append_assoc, arith, inl, inr}
use Rattle.std.specs.List.{list_all, take_while}
use Rattle.std.proofs.lemmas.Bool.{eqb-true}
use Rattle.std.proofs.lemmas.Bool.Decides.{nat_tests}
use Rattle.std.proofs.lemmas.List.Sums.{take_while-cons}
use Rattle.hal_base.specs.Name.{upper}
use Rattle.call_text.specs.declared.fault.Fault.{Fault}
use Rattle.call_text.specs.declared.fault.Fault.TheVariants as faults
use Rattle.call_text.specs.declared.line.Clause.{Clause}
use Rattle.call_text.specs.declared.line.Ssa.{Ssa}
use Rattle.call_text.specs.Words.{is_blank, past, in_word, is_letter, is_word, printed_operator, begins_with}
use Rattle.call_text.specs.Printed.{is_sign}
use Rattle.call_text.specs.Spelling.{IsRoom, SpellsWord, SpellsOperator, SpellsClause, StandsBefore, is_connector, SpellsClauses, SpellsQualification, SpellsCodes, SpellsSsa, SpellsSsas}
use Rattle.call_text.specs.Reading.{name_at, word_at, value_at, begins_blank, operator_word_at, operator_at, clause_at, connector_at, clause_and_connector_at, clauses_at, codes_at, behind, qualification_at, ssa_at, begins_word, begins_ssa, ssas_at}
use Rattle.call_text.proofs.Loops.{onto}
use Rattle.call_text.proofs.Runs.{both, Stops}
use Rattle.call_text.proofs.ValuesPrinted.{Prints}
use Rattle.call_text.proofs.Taken.{bind_ok, passed, ok_is, parts_of, all_of_run, blanks_of, past_prints, prints_parts, Taken, WordTaken, run_begins, name_taken, word_taken, room_of, value_taken}

-- ---- operators

-- an operator with the blanks round it; `after` is what reading it leaves
pub record OperatorTaken (text op after : List ℕ) : Type 0 where
  pub written : List ℕ
  pub whole : text ≡ written ++ past is_blank after
  pub spells : SpellsOperator written op

signs_taken : (text op after : List ℕ) → (length (take_while is_sign (past is_blank text)) == 0) ≡ false → printed_operator (take_while is_sign (past is_blank text)) ≡ op → past is_sign (past is_blank text) ≡ after → OperatorTaken text op after
signs_taken text op after some op_is after_is =
    let before = take_while is_blank text in
    let inner = past is_blank text in
    let signs = take_while is_sign inner in
    let gap = take_while is_blank after in
    let parts : inner ≡ signs ++ (gap ++ past is_blank after) = parts_of is_sign inner ∙ ap (λ (t : List ℕ). signs ++ t) after_is ∙ ap (λ (t : List ℕ). signs ++ t) (parts_of is_blank after) in
    record {
      written = before ++ (signs ++ gap);
      whole = parts_of is_blank text ∙ ap (λ (t : List ℕ). before ++ t) parts ∙ simp append_assoc;
      spells = inl (record { before = before; signs = signs; after = gap; whole = refl; before_is = blanks_of text; after_is = blanks_of after; some = grind (arith, nat_tests, some); all = all_of_run is_sign inner; printed = sym op_is });
    }

take_blank : (b : ℕ) (text : List ℕ) → is_blank b ≡ true → take_while is_blank (b ∷ text) ≡ b ∷ take_while is_blank text
take_blank b text h = take_while-cons is_blank b text ∙ rw h refl

begins_room : (text : List ℕ) → begins_blank text ≡ true → IsRoom (take_while is_blank text)
begins_room [] h = absurd cc
begins_room (b ∷ text) h = record { blanks = blanks_of (b ∷ text); some = omega (arith, ap length (take_blank b text h)) }

word_operator_taken : (text op after : List ℕ) → Stops in_word text → operator_word_at (past is_blank text) ≡ Ok (op, after) → OperatorTaken text op after
unfolding operator_word_at
word_operator_taken text op after stops e =
    let before = take_while is_blank text in
    let inner = past is_blank text in
    let word = take_while in_word inner in
    let p = passed (nat_lt 0 (length word) && list_all is_letter (map upper word) && begins_blank (past in_word inner)) faults.Form (printed_operator (map upper word), past in_word inner) (op, after) e in
    let outer = both (nat_lt 0 (length word) && list_all is_letter (map upper word)) (begins_blank (past in_word inner)) p.0 in
    let tests = both (nat_lt 0 (length word)) (list_all is_letter (map upper word)) outer.0 in
    let op_is : printed_operator (map upper word) ≡ op = ap (λ (x : List ℕ × List ℕ). x.0) p.1 in
    let after_is : past in_word inner ≡ after = ap (λ (x : List ℕ × List ℕ). x.1) p.1 in
    let gap = take_while is_blank after in
    let some : 0 < length word = grind (arith, nat_tests, tests.0) in
    let parts : inner ≡ word ++ (gap ++ past is_blank after) = parts_of in_word inner ∙ ap (λ (t : List ℕ). word ++ t) after_is ∙ ap (λ (t : List ℕ). word ++ t) (parts_of is_blank after) in
    record {
      written = before ++ (word ++ gap);
      whole = parts_of is_blank text ∙ ap (λ (t : List ℕ). before ++ t) parts ∙ simp append_assoc;
      spells = inr (record {
        before = before;
        word = word;
        after = gap;
        whole = refl;
        before_is = room_of text stops (run_begins inner some);
        after_is = begins_room after (ap begins_blank (sym after_is) ∙ outer.1);
        some = some;
        all = tests.1;
        printed = sym op_is;
      });
    }

operator_taken : (text op after : List ℕ) → Stops in_word text → operator_at (past is_blank text) ≡ Ok (op, after) → OperatorTaken text op after
unfolding operator_at
operator_taken text op after stops e = by_case (length (take_while is_sign (past is_blank text)) == 0) refl e
  where
    by_case : (v : Bool) → (length (take_while is_sign (past is_blank text)) == 0) ≡ v → cond v (operator_word_at (past is_blank text)) (Ok (printed_operator (take_while is_sign (past is_blank text)), past is_sign (past is_blank text))) ≡ Ok (op, after) → OperatorTaken text op after
    by_case true is h = word_operator_taken text op after stops h
    by_case false is h =
        let made : (printed_operator (take_while is_sign (past is_blank text)), past is_sign (past is_blank text)) ≡ (op, after) = ok_is (printed_operator (take_while is_sign (past is_blank text)), past is_sign (past is_blank text)) (op, after) h in
        signs_taken text op after is (ap (λ (x : List ℕ × List ℕ). x.0) made) (ap (λ (x : List ℕ × List ℕ). x.1) made)

-- ---- clauses

pub record ClauseTaken (or : Bool) (text : List ℕ) (clause : Clause) (rest : List ℕ) : Type 0 where
  pub taken : Taken (λ w. SpellsClause w clause) text rest
  pub joined : clause.or ≡ or

clause_taken : (or : Bool) (text : List ℕ) (clause : Clause) (rest : List ℕ) → Prints text → clause_at or text ≡ Ok (clause, rest) → ClauseTaken or text clause rest
unfolding clause_at
clause_taken or text clause rest prints e =
    let a = bind_ok (name_at text) (λ field. operator_at (past is_blank field.1) >>= λ op. value_at (past is_blank op.1) >>= λ value. Ok (record { field = field.0; op = op.0; value = value.0; or = or }, value.1)) (clause, rest) e in
    let b = bind_ok (operator_at (past is_blank a.0.1)) (λ op. value_at (past is_blank op.1) >>= λ value. Ok (record { field = a.0.0; op = op.0; value = value.0; or = or }, value.1)) (clause, rest) a.2 in
    let c = bind_ok (value_at (past is_blank b.0.1)) (λ value. Ok (record { field = a.0.0; op = b.0.0; value = value.0; or = or }, value.1)) (clause, rest) b.2 in
    let field = name_taken text a.0.0 a.0.1 prints a.1 in
    let op = operator_taken a.0.1 b.0.0 b.0.1 field.stops b.1 in
    let inner : Prints (past is_blank b.0.1) = (prints_parts op.written (past is_blank b.0.1) a.0.1 op.whole field.taken.prints).1 in
    let value = value_taken (past is_blank b.0.1) c.0.0 c.0.1 inner c.1 in
    let written = field.taken.written ++ (op.written ++ value.written) in
    let whole : text ≡ written ++ c.0.1 = field.taken.whole ∙ ap (λ (t : List ℕ). field.taken.written ++ t) (op.whole ∙ ap (λ (t : List ℕ). op.written ++ t) value.whole) ∙ simp append_assoc in
    let read : Clause = record { field = a.0.0; op = b.0.0; value = c.0.0; or = or } in
    let spells : SpellsClause written read = record { field = field.taken.written; op = op.written; value = value.written; whole = refl; field_is = field.taken.spells; op_is = op.spells; value_is = value.spells } in
    let made : (read, c.0.1) ≡ (clause, rest) = ok_is (read, c.0.1) (clause, rest) c.2 in
    subst (λ (x : Clause × List ℕ). ClauseTaken or text x.0 x.1) made (record { taken = record { written = written; whole = whole; spells = spells; prints = value.prints }; joined = refl })

-- ---- clauses in parentheses

abbrev pair_of : Option Bool → List ℕ → Option Bool × List ℕ
pair_of next rest = (next, rest)

abbrev next_of : Option Bool → List ℕ → Result (Option Bool × List ℕ) Fault
next_of next rest = Ok (next, rest)

abbrev triple : Clause → Option Bool → List ℕ → Clause × Option Bool × List ℕ
triple clause next rest = (clause, next, rest)

record ConnectorTaken (text : List ℕ) (next : Option Bool) (rest : List ℕ) : Type 0 where
  sign : ℕ
  whole : text ≡ sign ∷ rest
  closes : next ≡ None → sign ≡ 41
  joins : (or : Bool) → next ≡ Some or → is_connector or sign ≡ true

connector_taken : (text : List ℕ) (next : Option Bool) (rest : List ℕ) → connector_at text ≡ Ok (next, rest) → ConnectorTaken text next rest
unfolding connector_at
connector_taken [] next rest e = absurd cc
connector_taken (b ∷ tail) next rest e = by_case (b == 41) (b == 38 || b == 42) (b == 124 || b == 43) refl refl refl e
  where
    by_case : (u v w : Bool) → (b == 41) ≡ u → (b == 38 || b == 42) ≡ v → (b == 124 || b == 43) ≡ w → cond u (next_of None tail) (cond v (next_of (Some false) tail) (cond w (next_of (Some true) tail) (Err faults.Form))) ≡ Ok (next, rest) → ConnectorTaken (b ∷ tail) next rest
    by_case true v w hu hv hw h =
        let made : pair_of (None) tail ≡ pair_of next rest = ok_is (pair_of (None) tail) (pair_of next rest) h in
        subst (λ (x : Option Bool × List ℕ). ConnectorTaken (b ∷ tail) x.0 x.1) made (record { sign = b; whole = refl; closes = λ _. eqb-true b 41 hu; joins = λ or k. absurd cc })
    by_case false true w hu hv hw h =
        let made : pair_of (Some false) tail ≡ pair_of next rest = ok_is (pair_of (Some false) tail) (pair_of next rest) h in
        subst (λ (x : Option Bool × List ℕ). ConnectorTaken (b ∷ tail) x.0 x.1) made (record { sign = b; whole = refl; closes = λ k. absurd cc; joins = λ or k. (let is : false ≡ or = cc in subst (λ (o : Bool). is_connector o b ≡ true) is hv) })
    by_case false false true hu hv hw h =
        let made : pair_of (Some true) tail ≡ pair_of next rest = ok_is (pair_of (Some true) tail) (pair_of next rest) h in
        subst (λ (x : Option Bool × List ℕ). ConnectorTaken (b ∷ tail) x.0 x.1) made (record { sign = b; whole = refl; closes = λ k. absurd cc; joins = λ or k. (let is : true ≡ or = cc in subst (λ (o : Bool). is_connector o b ≡ true) is hw) })
    by_case false false false hu hv hw h = absurd cc

-- a clause with the gaps round it and the byte behind them
pub record JoinedTaken (or : Bool) (text : List ℕ) (clause : Clause) (next : Option Bool) (rest : List ℕ) : Type 0 where
  pub front : List ℕ
  pub sign : ℕ
  pub whole : text ≡ front ++ (sign ∷ rest)
  pub stands : (more : List ℕ) → StandsBefore (front ++ more) or clause more
  pub closes : next ≡ None → sign ≡ 41
  pub joins : (o : Bool) → next ≡ Some o → is_connector o sign ≡ true
  pub prints : Prints rest

pub joined_taken : (or : Bool) (text : List ℕ) (clause : Clause) (next : Option Bool) (rest : List ℕ) → Prints text → clause_and_connector_at or text ≡ Ok (clause, next, rest) → JoinedTaken or text clause next rest
unfolding clause_and_connector_at
joined_taken or text clause next rest prints e =
    let a = bind_ok (clause_at or (past is_blank text)) (λ c. connector_at (past is_blank c.1) >>= λ n. Ok (c.0, n.0, n.1)) (clause, next, rest) e in
    let b = bind_ok (connector_at (past is_blank a.0.1)) (λ n. Ok (a.0.0, n.0, n.1)) (clause, next, rest) a.2 in
    joined or text a.0.0 a.0.1 b.0.0 b.0.1 clause next rest prints a.1 b.1 (ok_is (triple a.0.0 b.0.0 b.0.1) (triple clause next rest) b.2)
  where
    joined : (or : Bool) (text : List ℕ) (c : Clause) (behind_c : List ℕ) (n : Option Bool) (r : List ℕ) (clause : Clause) (next : Option Bool) (rest : List ℕ) → Prints text → clause_at or (past is_blank text) ≡ Ok (c, behind_c) → connector_at (past is_blank behind_c) ≡ Ok (n, r) → triple c n r ≡ triple clause next rest → JoinedTaken or text clause next rest
    joined or text c behind_c n r clause next rest prints read connects made =
        let t = clause_taken or (past is_blank text) c behind_c (past_prints text prints) read in
        let k = connector_taken (past is_blank behind_c) n r connects in
        let before = take_while is_blank text in
        let after = take_while is_blank behind_c in
        let front = before ++ (t.taken.written ++ after) in
        let whole : text ≡ front ++ (k.sign ∷ r) = parts_of is_blank text ∙ ap (λ (x : List ℕ). before ++ x) (t.taken.whole ∙ ap (λ (x : List ℕ). t.taken.written ++ x) (parts_of is_blank behind_c ∙ ap (λ (x : List ℕ). after ++ x) k.whole)) ∙ simp append_assoc in
        let left : Prints (k.sign ∷ r) = (prints_parts front (k.sign ∷ r) text whole prints).1 in
        subst (λ (x : Clause × Option Bool × List ℕ). JoinedTaken or text x.0 x.1 x.2) made (record {
          front = front;
          sign = k.sign;
          whole = whole;
          stands = λ more. record { before = before; written = t.taken.written; after = after; whole = simp append_assoc; before_is = blanks_of text; after_is = blanks_of behind_c; spells = t.taken.spells; joined = t.joined };
          closes = k.closes;
          joins = k.joins;
          prints = (prints_parts (k.sign ∷ []) r (k.sign ∷ r) refl left).1;
        })

record ClausesTaken (or : Bool) (text : List ℕ) (clauses : List Clause) (rest : List ℕ) : Type 0 where
  first : Clause
  more : List Clause
  is : clauses ≡ first ∷ more
  inside : List ℕ
  whole : text ≡ inside ++ rest
  spells : SpellsClauses inside or first more
  first_is : first.or ≡ or
  prints : Prints rest

clauses_none : (n : ℕ) (text : List ℕ) → clauses_at n None text ≡ Ok ([], text)
unfolding clauses_at
clauses_none zero text = refl
clauses_none (suc n) text = refl

abbrev ReadClauses : Type 0
ReadClauses = List Clause × List ℕ

abbrev some_clauses : List Clause → List ℕ → ReadClauses
some_clauses clauses rest = (clauses, rest)

clauses_grow : (n : ℕ) (or : Bool) (text : List ℕ) (clause : Clause) (next : Option Bool) (behind_it : List ℕ) (more : List Clause) (rest : List ℕ) → JoinedTaken or text clause next behind_it → clauses_at n next behind_it ≡ Ok (more, rest) → ((o : Bool) → clauses_at n (Some o) behind_it ≡ Ok (more, rest) → ClausesTaken o behind_it more rest) → ClausesTaken or text (clause ∷ more) rest
clauses_grow n or text clause None behind_it more rest j e further =
    let made : some_clauses [] behind_it ≡ some_clauses more rest = ok_is (some_clauses [] behind_it) (some_clauses more rest) (sym (clauses_none n behind_it) ∙ e) in
    let sign_is : j.sign ≡ 41 = j.closes refl in
    let whole : text ≡ (j.front ++ 41 ∷ []) ++ behind_it = j.whole ∙ ap (λ (s : ℕ). j.front ++ (s ∷ behind_it)) sign_is ∙ sym (append_assoc j.front (41 ∷ []) behind_it) in
    let stands = j.stands (41 ∷ []) in
    subst (λ (x : ReadClauses). ClausesTaken or text (clause ∷ x.0) x.1) made (record { first = clause; more = []; is = refl; inside = j.front ++ 41 ∷ []; whole = whole; spells = stands; first_is = stands.joined; prints = j.prints })
clauses_grow n or text clause (Some o) behind_it more rest j e further =
    let ih = further o e in
    let sign_is : is_connector ih.first.or j.sign ≡ true = subst (λ (b : Bool). is_connector b j.sign ≡ true) (sym ih.first_is) (j.joins o refl) in
    let spelled : SpellsClauses ih.inside ih.first.or ih.first ih.more = subst (λ (b : Bool). SpellsClauses ih.inside b ih.first ih.more) (sym ih.first_is) ih.spells in
    let stands = j.stands (j.sign ∷ ih.inside) in
    record {
      first = clause;
      more = ih.first ∷ ih.more;
      is = ap (λ (m : List Clause). clause ∷ m) ih.is;
      inside = j.front ++ (j.sign ∷ ih.inside);
      whole = j.whole ∙ ap (λ (t : List ℕ). j.front ++ (j.sign ∷ t)) ih.whole ∙ sym (append_assoc j.front (j.sign ∷ ih.inside) rest);
      spells = (j.sign, ih.inside, sign_is, stands, spelled);
      first_is = stands.joined;
      prints = ih.prints;
    }

clauses_taken : (n : ℕ) (or : Bool) (text : List ℕ) (clauses : List Clause) (rest : List ℕ) → Prints text → clauses_at n (Some or) text ≡ Ok (clauses, rest) → ClausesTaken or text clauses rest
unfolding clauses_at
clauses_taken zero or text clauses rest prints e = absurd cc
clauses_taken (suc n) or text clauses rest prints e =
    let a = bind_ok (clause_and_connector_at or text) (λ first. clauses_at n first.1 first.2 >>= λ more. Ok (first.0 ∷ more.0, more.1)) (clauses, rest) e in
    let b = bind_ok (clauses_at n a.0.1 a.0.2) (λ more. Ok (a.0.0 ∷ more.0, more.1)) (clauses, rest) a.2 in
    let made : some_clauses (a.0.0 ∷ b.0.0) b.0.1 ≡ some_clauses clauses rest = ok_is (some_clauses (a.0.0 ∷ b.0.0) b.0.1) (some_clauses clauses rest) b.2 in
    let j = joined_taken or text a.0.0 a.0.1 a.0.2 prints a.1 in
    subst (λ (x : ReadClauses). ClausesTaken or text x.0 x.1) made (clauses_grow n or text a.0.0 a.0.1 a.0.2 b.0.0 b.0.1 j b.1 (λ o h. clauses_taken n o a.0.2 b.0.0 b.0.1 j.prints h))

-- ---- the parts of an SSA

begins_is : (byte : ℕ) (text : List ℕ) → begins_with byte text ≡ true → text ≡ byte ∷ behind text
begins_is byte [] h = absurd cc
begins_is byte (b ∷ text) h = ap (λ (x : ℕ). x ∷ text) (eqb-true b byte h)

in_parentheses : (text : List ℕ) (clauses : List Clause) (rest : List ℕ) → past is_blank text ≡ 40 ∷ behind (past is_blank text) → ClausesTaken false (behind (past is_blank text)) clauses rest → Taken (λ w. SpellsQualification w clauses) text rest
in_parentheses text clauses rest opens c =
    let gap = take_while is_blank text in
    let written = gap ++ 40 ∷ c.inside in
    let whole : text ≡ written ++ rest = parts_of is_blank text ∙ ap (λ (t : List ℕ). gap ++ t) (opens ∙ ap (λ (t : List ℕ). 40 ∷ t) c.whole) ∙ sym (append_assoc gap (40 ∷ c.inside) rest) in
    subst (λ (cs : List Clause). Taken (λ w. SpellsQualification w cs) text rest) (sym c.is) (record { written = written; whole = whole; spells = (gap, c.inside, blanks_of text, c.spells, refl); prints = c.prints })

qualification_taken : (text : List ℕ) (clauses : List Clause) (rest : List ℕ) → Prints text → qualification_at text ≡ Ok (clauses, rest) → Taken (λ w. SpellsQualification w clauses) text rest
unfolding qualification_at
qualification_taken text clauses rest prints e = by_case (begins_with 40 (past is_blank text)) refl e
  where
    by_case : (v : Bool) → begins_with 40 (past is_blank text) ≡ v → cond v (clauses_at (length text) (Some false) (behind (past is_blank text))) (Ok (some_clauses [] text)) ≡ Ok (some_clauses clauses rest) → Taken (λ w. SpellsQualification w clauses) text rest
    by_case true is h =
        let opens = begins_is 40 (past is_blank text) is in
        let inner : Prints (behind (past is_blank text)) = (prints_parts (40 ∷ []) (behind (past is_blank text)) (past is_blank text) opens (past_prints text prints)).1 in
        in_parentheses text clauses rest opens (clauses_taken (length text) false (behind (past is_blank text)) clauses rest inner h)
    by_case false is h =
        let made : some_clauses [] text ≡ some_clauses clauses rest = ok_is (some_clauses [] text) (some_clauses clauses rest) h in
        subst (λ (x : ReadClauses). Taken (λ w. SpellsQualification w x.0) text x.1) made (record { written = []; whole = refl; spells = refl; prints = prints })

abbrev ReadWord : Type 0
ReadWord = List ℕ × List ℕ

abbrev some_word : List ℕ → List ℕ → ReadWord
some_word word rest = (word, rest)

starred : (tail code rest : List ℕ) → WordTaken (λ w. SpellsWord w code) tail rest → Taken (λ w. SpellsCodes w code) (42 ∷ tail) rest
starred tail [] rest t = let no_word : is_word [] ≡ true = t.taken.spells.is in absurd cc
starred tail (c ∷ code) rest t = record { written = 42 ∷ t.taken.written; whole = ap (λ (x : List ℕ). 42 ∷ x) t.taken.whole; spells = (t.taken.written, t.taken.spells, refl); prints = t.taken.prints }

pub codes_taken : (text code rest : List ℕ) → Prints text → codes_at text ≡ Ok (code, rest) → Taken (λ w. SpellsCodes w code) text rest
unfolding codes_at
codes_taken [] code rest prints e =
    let made : some_word [] [] ≡ some_word code rest = ok_is (some_word [] []) (some_word code rest) e in
    subst (λ (x : ReadWord). Taken (λ w. SpellsCodes w x.0) [] x.1) made (record { written = []; whole = refl; spells = refl; prints = refl })
codes_taken (b ∷ tail) code rest prints e = by_case (b == 42) refl e
  where
    by_case : (v : Bool) → (b == 42) ≡ v → cond v (word_at tail) (Ok (some_word [] (b ∷ tail))) ≡ Ok (some_word code rest) → Taken (λ w. SpellsCodes w code) (b ∷ tail) rest
    by_case true is h =
        let inner = both (is_printable b) (list_all is_printable tail) prints in
        subst (λ (x : ℕ). Taken (λ w. SpellsCodes w code) (x ∷ tail) rest) (sym (eqb-true b 42 is)) (starred tail code rest (word_taken tail code rest inner.1 h))
    by_case false is h =
        let made : some_word [] (b ∷ tail) ≡ some_word code rest = ok_is (some_word [] (b ∷ tail)) (some_word code rest) h in
        subst (λ (x : ReadWord). Taken (λ w. SpellsCodes w x.0) (b ∷ tail) x.1) made (record { written = []; whole = refl; spells = refl; prints = prints })

abbrev ReadSsa : Type 0
ReadSsa = Ssa × List ℕ

abbrev some_ssa : Ssa → List ℕ → ReadSsa
some_ssa ssa rest = (ssa, rest)

pub ssa_taken : (text : List ℕ) (ssa : Ssa) (rest : List ℕ) → Prints text → ssa_at text ≡ Ok (ssa, rest) → Taken (λ w. SpellsSsa w ssa) text rest
unfolding ssa_at
ssa_taken text ssa rest prints e =
    let a = bind_ok (name_at text) (λ seg. codes_at seg.1 >>= λ code. qualification_at code.1 >>= λ clauses. Ok (record { seg = seg.0; codes = code.0; clauses = clauses.0 }, clauses.1)) (ssa, rest) e in
    let b = bind_ok (codes_at a.0.1) (λ code. qualification_at code.1 >>= λ clauses. Ok (record { seg = a.0.0; codes = code.0; clauses = clauses.0 }, clauses.1)) (ssa, rest) a.2 in
    let c = bind_ok (qualification_at b.0.1) (λ clauses. Ok (record { seg = a.0.0; codes = b.0.0; clauses = clauses.0 }, clauses.1)) (ssa, rest) b.2 in
    let seg = name_taken text a.0.0 a.0.1 prints a.1 in
    let code = codes_taken a.0.1 b.0.0 b.0.1 seg.taken.prints b.1 in
    let clauses = qualification_taken b.0.1 c.0.0 c.0.1 code.prints c.1 in
    let written = seg.taken.written ++ (code.written ++ clauses.written) in
    let whole : text ≡ written ++ c.0.1 = seg.taken.whole ∙ ap (λ (t : List ℕ). seg.taken.written ++ t) (code.whole ∙ ap (λ (t : List ℕ). code.written ++ t) clauses.whole) ∙ simp append_assoc in
    let read : Ssa = record { seg = a.0.0; codes = b.0.0; clauses = c.0.0 } in
    let spells : SpellsSsa written read = record { seg = seg.taken.written; code = code.written; clauses = clauses.written; whole = refl; seg_is = seg.taken.spells; code_is = code.spells; clauses_is = clauses.spells } in
    let made : some_ssa read c.0.1 ≡ some_ssa ssa rest = ok_is (some_ssa read c.0.1) (some_ssa ssa rest) c.2 in
    subst (λ (x : ReadSsa). Taken (λ w. SpellsSsa w x.0) text x.1) made (record { written = written; whole = whole; spells = spells; prints = clauses.prints })

abbrev ReadSsas : Type 0
ReadSsas = List Ssa × List ℕ

abbrev some_ssas : List Ssa → List ℕ → ReadSsas
some_ssas ssas rest = (ssas, rest)

abbrev ssas_read : List Ssa → List ℕ → Result ReadSsas Fault
ssas_read ssas rest = Ok (ssas, rest)

no_ssas : (text : List ℕ) (ssas : List Ssa) (rest : List ℕ) → Prints text → ssas_read [] text ≡ ssas_read ssas rest → Taken (λ w. SpellsSsas w ssas) text rest
no_ssas text ssas rest prints e =
    let made : some_ssas [] text ≡ some_ssas ssas rest = ok_is (some_ssas [] text) (some_ssas ssas rest) e in
    subst (λ (x : ReadSsas). Taken (λ w. SpellsSsas w x.0) text x.1) made (record { written = []; whole = refl; spells = refl; prints = prints })

more_ssas : (text : List ℕ) (ssa : Ssa) (behind_it : List ℕ) (ssas : List Ssa) (rest : List ℕ) → begins_blank text ≡ true → Taken (λ w. SpellsSsa w ssa) (past is_blank text) behind_it → Taken (λ w. SpellsSsas w ssas) behind_it rest → Taken (λ w. SpellsSsas w (ssa ∷ ssas)) text rest
more_ssas text ssa behind_it ssas rest blank first more =
    let room = take_while is_blank text in
    record {
      written = room ++ (first.written ++ more.written);
      whole = parts_of is_blank text ∙ ap (λ (t : List ℕ). room ++ t) (first.whole ∙ ap (λ (t : List ℕ). first.written ++ t) more.whole) ∙ simp append_assoc;
      spells = (room, first.written, more.written, begins_room text blank, first.spells, more.spells, refl);
      prints = more.prints;
    }

pub ssas_taken : (n : ℕ) (text : List ℕ) (ssas : List Ssa) (rest : List ℕ) → Prints text → ssas_at n text ≡ Ok (ssas, rest) → Taken (λ w. SpellsSsas w ssas) text rest
unfolding ssas_at
ssas_taken zero text ssas rest prints e = no_ssas text ssas rest prints e
ssas_taken (suc n) text ssas rest prints e = by_case (begins_ssa text) refl (λ (t : List ℕ) (s : List Ssa) (r : List ℕ) p h. ssas_taken n t s r p h) e
  where
    by_case : (v : Bool) → begins_ssa text ≡ v → ((t : List ℕ) (s : List Ssa) (r : List ℕ) → Prints t → ssas_at n t ≡ Ok (s, r) → Taken (λ w. SpellsSsas w s) t r) → cond v (ssa_at (past is_blank text) >>= λ ssa. onto ssa.0 (ssas_at n ssa.1)) (Ok (some_ssas [] text)) ≡ Ok (some_ssas ssas rest) → Taken (λ w. SpellsSsas w ssas) text rest
    by_case true is further h =
        let a = bind_ok (ssa_at (past is_blank text)) (λ ssa. onto ssa.0 (ssas_at n ssa.1)) (some_ssas ssas rest) h in
        let b = bind_ok (ssas_at n a.0.1) (λ more. Ok (some_ssas (a.0.0 ∷ more.0) more.1)) (some_ssas ssas rest) a.2 in
        let first = ssa_taken (past is_blank text) a.0.0 a.0.1 (past_prints text prints) a.1 in
        let more = further a.0.1 b.0.0 b.0.1 first.prints b.1 in
        let made : some_ssas (a.0.0 ∷ b.0.0) b.0.1 ≡ some_ssas ssas rest = ok_is (some_ssas (a.0.0 ∷ b.0.0) b.0.1) (some_ssas ssas rest) b.2 in
        subst (λ (x : ReadSsas). Taken (λ w. SpellsSsas w x.0) text x.1) made (more_ssas text a.0.0 a.0.1 b.0.0 b.0.1 (both (begins_blank text) (begins_word (past is_blank text)) is).0 first more)
    by_case false is further h = no_ssas text ssas rest prints h
