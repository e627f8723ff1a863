-- Reading one part after the other, as a loop does.
use Rattle.hal_base.specs.Reading.{◌>>=◌}
use Rattle.std.proofs.Common.{◌≡◌, ℕ, zero, suc, ◌+◌, ◌-◌, ◌*◌, ◌<◌, ◌&&◌, arith, Bool, true, false, cond, ◌==◌, List, [], ◌∷◌, ◌++◌, Option, Some, None, Result, Ok, Err, refl, sym, ap, ◌∙◌, append_assoc}
use Rattle.std.proofs.lemmas.List.{append-nil}
use Rattle.call_text.specs.declared.fault.Fault.{Fault}
use Rattle.call_text.specs.declared.fault.Fault.TheVariants as faults
use Rattle.call_text.specs.declared.fault.ReadError.{ReadError}
use Rattle.call_text.specs.declared.fault.ReadError.TheVariants as errors
use Rattle.call_text.specs.declared.line.Clause.{Clause}
use Rattle.call_text.specs.declared.line.Ssa.{Ssa}
use Rattle.call_text.specs.Words.{is_blank, past, is_hex, hex_value}
use Rattle.call_text.specs.Reading.{Fails, clause_and_connector_at, clauses_at, begins_ssa, ssa_at, ssas_at, text_byte_at, text_at, close_at, pair_at, pairs_at}

-- what was read before, and what is still read
abbrev pub with_front : {A : Type 0} → List A → Result (List A × List ℕ) Fault → Result (List A × List ℕ) Fault
with_front front read = read >>= λ x. Ok (front ++ x.0, x.1)

-- one is read, and then the others
abbrev pub onto : {A : Type 0} → A → Result (List A × List ℕ) Fault → Result (List A × List ℕ) Fault
onto a read = read >>= λ x. Ok (a ∷ x.0, x.1)

-- one more was read
pub front_more : {A : Type 0} (front : List A) (a : A) (read : Result (List A × List ℕ) Fault) → with_front front (onto a read) ≡ with_front (front ++ a ∷ []) read
front_more {A = A} front a (Ok x) = ap (λ (xs : List A). Ok (xs, x.1)) (simp append_assoc)
front_more front a (Err f) = refl

pub front_all : {A : Type 0} (front : List A) (rest : List ℕ) → with_front front (Ok ([], rest)) ≡ Ok (front, rest)
front_all {A = A} front rest = ap (λ (xs : List A). Ok (xs, rest)) (append-nil front)

-- ---- text

abbrev text_from : Option ℕ → List ℕ → Result (List ℕ × List ℕ) Fault
text_from None rest = Ok ([], rest)
text_from (Some b) rest = onto b (text_at rest)

abbrev text_next : Result (Option ℕ × List ℕ) Fault → Result (List ℕ × List ℕ) Fault
text_next (Ok next) = text_from next.0 next.1
text_next (Err f) = Err f

text_step : (text : List ℕ) → text_at text ≡ text_next (text_byte_at text)
unfolding text_at
text_step [] = refl
text_step (b ∷ []) = one (b == 39)
  where
    one : (v : Bool) → cond v (Ok ([], [])) (Err faults.Value) ≡ text_next (cond v (Ok (None, [])) (Ok (Some b, [])))
    one true = refl
    one false = refl
text_step (b ∷ c ∷ rest) = two (b == 39) (c == 39)
  where
    two : (v w : Bool) → cond v (cond w (onto 39 (text_at rest)) (Ok ([], c ∷ rest))) (onto b (text_at (c ∷ rest))) ≡ text_next (cond v (cond w (Ok (Some 39, rest)) (Ok (None, c ∷ rest))) (Ok (Some b, c ∷ rest)))
    two true true = refl
    two true false = refl
    two false w = refl

pub text_goes_on : (front text : List ℕ) (b : ℕ) (rest : List ℕ) (total : Result (List ℕ × List ℕ) Fault) → text_byte_at text ≡ Ok (Some b, rest) → with_front front (text_at text) ≡ total → with_front (front ++ b ∷ []) (text_at rest) ≡ total
text_goes_on front text b rest total h so_far =
    let step : text_at text ≡ onto b (text_at rest) = text_step text ∙ rw h refl in
    sym (front_more front b (text_at rest)) ∙ ap (with_front front) (sym step) ∙ so_far

pub text_closes : (front text rest : List ℕ) (total : Result (List ℕ × List ℕ) Fault) → text_byte_at text ≡ Ok (None, rest) → with_front front (text_at text) ≡ total → total ≡ Ok (front, rest)
text_closes front text rest total h so_far =
    let step : text_at text ≡ Ok ([], rest) = text_step text ∙ rw h refl in
    sym so_far ∙ ap (with_front front) step ∙ front_all front rest

pub text_ends : (e : ReadError) (front text : List ℕ) (total : Result (List ℕ × List ℕ) Fault) → Fails e (text_byte_at text) → with_front front (text_at text) ≡ total → Fails e total
text_ends errors.Memory front text total h so_far = tt
text_ends (errors.Fault f) front text total h so_far =
    let step : text_at text ≡ Err f = text_step text ∙ rw h refl in
    sym so_far ∙ ap (with_front front) step

-- ---- pairs of hexadecimal digits

abbrev pairs_from : List ℕ → Option (ℕ × List ℕ) → Result (List ℕ × List ℕ) Fault
pairs_from text None = close_at text
pairs_from text (Some pair) = onto pair.0 (pairs_at pair.1)

pairs_step : (text : List ℕ) → pairs_at text ≡ pairs_from text (pair_at text)
unfolding pairs_at
pairs_step [] = refl
pairs_step (a ∷ []) = refl
pairs_step (a ∷ b ∷ rest) =
    elim (is_hex a && is_hex b) as (λ v. cond v (onto (16 * hex_value a + hex_value b) (pairs_at rest)) (close_at (a ∷ b ∷ rest)) ≡ pairs_from (a ∷ b ∷ rest) (cond v (Some (16 * hex_value a + hex_value b, rest)) None)) [ true ↦ refl | false ↦ refl ]

pub pairs_go_on : (front text : List ℕ) (b : ℕ) (rest : List ℕ) (total : Result (List ℕ × List ℕ) Fault) → Some (b, rest) ≡ pair_at text → with_front front (pairs_at text) ≡ total → with_front (front ++ b ∷ []) (pairs_at rest) ≡ total
pairs_go_on front text b rest total h so_far =
    let step : pairs_at text ≡ onto b (pairs_at rest) = pairs_step text ∙ rw (← h) refl in
    sym (front_more front b (pairs_at rest)) ∙ ap (with_front front) (sym step) ∙ so_far

-- nothing more was read: the closing quote decides
pub pairs_stop : (front text : List ℕ) (total : Result (List ℕ × List ℕ) Fault) → None ≡ pair_at text → with_front front (pairs_at text) ≡ total → with_front front (close_at text) ≡ total
pairs_stop front text total h so_far =
    let step : pairs_at text ≡ close_at text = pairs_step text ∙ rw (← h) refl in
    ap (with_front front) (sym step) ∙ so_far

pub pairs_close : (front text rest : List ℕ) (total : Result (List ℕ × List ℕ) Fault) → close_at text ≡ Ok ([], rest) → with_front front (close_at text) ≡ total → total ≡ Ok (front, rest)
pairs_close front text rest total h so_far = sym so_far ∙ ap (with_front front) h ∙ front_all front rest

pub pairs_end : (e : ReadError) (front text : List ℕ) (total : Result (List ℕ × List ℕ) Fault) → Fails e (close_at text) → with_front front (close_at text) ≡ total → Fails e total
pairs_end errors.Memory front text total h so_far = tt
pairs_end (errors.Fault f) front text total h so_far = sym so_far ∙ ap (with_front front) h

-- ---- clauses

abbrev ClausesRead : Type 0
ClausesRead = Result (List Clause × List ℕ) Fault

clauses_then : ℕ → Result (Clause × Option Bool × List ℕ) Fault → ClausesRead
clauses_then n first = first >>= λ x. onto x.0 (clauses_at n x.1 x.2)

clauses_step : (n : ℕ) (or : Bool) (text : List ℕ) → clauses_at (suc n) (Some or) text ≡ clauses_then n (clause_and_connector_at or text)
unfolding clauses_at clauses_then
clauses_step n or text = refl

pub clauses_go_on : (front : List Clause) (left : ℕ) (or : Bool) (text : List ℕ) (clause : Clause) (next : Option Bool) (rest : List ℕ) (total : ClausesRead) → 0 < left → clause_and_connector_at or text ≡ Ok (clause, next, rest) → with_front front (clauses_at left (Some or) text) ≡ total → with_front (front ++ clause ∷ []) (clauses_at (left - 1) next rest) ≡ total
unfolding clauses_then
clauses_go_on front left or text clause next rest total some h so_far =
    let k : left ≡ suc (left - 1) = omega arith in
    let step : clauses_at left (Some or) text ≡ onto clause (clauses_at (left - 1) next rest) = ap (λ (n : ℕ). clauses_at n (Some or) text) k ∙ clauses_step (left - 1) or text ∙ rw h refl in
    sym (front_more front clause (clauses_at (left - 1) next rest)) ∙ ap (with_front front) (sym step) ∙ so_far

pub clauses_end : (e : ReadError) (front : List Clause) (left : ℕ) (or : Bool) (text : List ℕ) (total : ClausesRead) → 0 < left → Fails e (clause_and_connector_at or text) → with_front front (clauses_at left (Some or) text) ≡ total → Fails e total
unfolding clauses_then
clauses_end errors.Memory front left or text total some h so_far = tt
clauses_end (errors.Fault f) front left or text total some h so_far =
    let k : left ≡ suc (left - 1) = omega arith in
    let step : clauses_at left (Some or) text ≡ Err f = ap (λ (n : ℕ). clauses_at n (Some or) text) k ∙ clauses_step (left - 1) or text ∙ rw h refl in
    sym so_far ∙ ap (with_front front) step

pub clauses_many : (front : List Clause) (or : Bool) (text : List ℕ) (total : ClausesRead) → with_front front (clauses_at 0 (Some or) text) ≡ total → total ≡ Err faults.Form
unfolding clauses_at
clauses_many front or text total so_far = sym so_far

pub clauses_close : (front : List Clause) (left : ℕ) (text : List ℕ) (total : ClausesRead) → with_front front (clauses_at left None text) ≡ total → total ≡ Ok (front, text)
unfolding clauses_at
clauses_close front zero text total so_far = sym so_far ∙ front_all front text
clauses_close front (suc n) text total so_far = sym so_far ∙ front_all front text

-- ---- SSAs

abbrev SsasRead : Type 0
SsasRead = Result (List Ssa × List ℕ) Fault

ssas_then : ℕ → Result (Ssa × List ℕ) Fault → SsasRead
ssas_then n first = first >>= λ x. onto x.0 (ssas_at n x.1)

ssas_step : (n : ℕ) (text : List ℕ) → begins_ssa text ≡ true → ssas_at (suc n) text ≡ ssas_then n (ssa_at (past is_blank text))
unfolding ssas_at ssas_then
ssas_step n text begins = rw begins refl

pub ssas_go_on : (front : List Ssa) (left : ℕ) (text : List ℕ) (ssa : Ssa) (rest : List ℕ) (total : SsasRead) → 0 < left → begins_ssa text ≡ true → ssa_at (past is_blank text) ≡ Ok (ssa, rest) → with_front front (ssas_at left text) ≡ total → with_front (front ++ ssa ∷ []) (ssas_at (left - 1) rest) ≡ total
unfolding ssas_then
ssas_go_on front left text ssa rest total some begins h so_far =
    let k : left ≡ suc (left - 1) = omega arith in
    let step : ssas_at left text ≡ onto ssa (ssas_at (left - 1) rest) = ap (λ (n : ℕ). ssas_at n text) k ∙ ssas_step (left - 1) text begins ∙ rw h refl in
    sym (front_more front ssa (ssas_at (left - 1) rest)) ∙ ap (with_front front) (sym step) ∙ so_far

pub ssas_end : (e : ReadError) (front : List Ssa) (left : ℕ) (text : List ℕ) (total : SsasRead) → 0 < left → begins_ssa text ≡ true → Fails e (ssa_at (past is_blank text)) → with_front front (ssas_at left text) ≡ total → Fails e total
unfolding ssas_then
ssas_end errors.Memory front left text total some begins h so_far = tt
ssas_end (errors.Fault f) front left text total some begins h so_far =
    let k : left ≡ suc (left - 1) = omega arith in
    let step : ssas_at left text ≡ Err f = ap (λ (n : ℕ). ssas_at n text) k ∙ ssas_step (left - 1) text begins ∙ rw h refl in
    sym so_far ∙ ap (with_front front) step

pub ssas_none_left : (front : List Ssa) (text : List ℕ) (total : SsasRead) → with_front front (ssas_at 0 text) ≡ total → total ≡ Ok (front, text)
unfolding ssas_at
ssas_none_left front text total so_far = sym so_far ∙ front_all front text

pub ssas_stop : (front : List Ssa) (left : ℕ) (text : List ℕ) (total : SsasRead) → begins_ssa text ≡ false → with_front front (ssas_at left text) ≡ total → total ≡ Ok (front, text)
unfolding ssas_at
ssas_stop front zero text total begins so_far = sym so_far ∙ front_all front text
ssas_stop front (suc n) text total begins so_far =
    let step : ssas_at (suc n) text ≡ Ok ([], text) = rw begins refl in
    sym so_far ∙ ap (with_front front) step ∙ front_all front text
