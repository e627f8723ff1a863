-- Operands, one byte after the other.
use Rattle.std.proofs.Common.{◌≡◌, ℕ, suc, ◌+◌, ◌<◌, ◌≤◌, Bool, true, false, cond, List, [], ◌∷◌, ◌++◌, length, take, drop, get_or, refl, sym, ap, ◌∙◌, arith, append_assoc}
use Rattle.std.proofs.Math.Seq.{drop-cons}
use Rattle.std.specs.List.{onto_first}
use Rattle.std.proofs.lemmas.List.{append-nil, drop_all}
use Rattle.dbd_reader.specs.Operands.{quoted_behind, folded_byte, folded, depth_behind, parts_here, pieces_from}

drop_on : (text : List ℕ) (i : ℕ) → i < length text → drop i text ≡ get_or text i 0 ∷ drop (i + 1) text
drop_on text i within = drop-cons text i 0 within ∙ ap (λ (n : ℕ). get_or text i 0 ∷ drop n text) (let e : suc i ≡ i + 1 = omega arith in e)

one_more : (front : List ℕ) (b : ℕ) (rest : List ℕ) → (front ++ b ∷ []) ++ rest ≡ front ++ b ∷ rest
one_more front b rest = simp append_assoc

pub folded_on : (out text total : List ℕ) (quoted : Bool) (i : ℕ) → i < length text → out ++ folded quoted (drop i text) ≡ total → (out ++ folded_byte quoted (get_or text i 0) ∷ []) ++ folded (quoted_behind quoted (get_or text i 0)) (drop (i + 1) text) ≡ total
unfolding folded
folded_on out text total quoted i within so_far =
    let b = get_or text i 0 in
    one_more out (folded_byte quoted b) (folded (quoted_behind quoted b) (drop (i + 1) text)) ∙ sym (ap (λ (l : List ℕ). out ++ folded quoted l) (drop_on text i within)) ∙ so_far

pub folded_end : (out text total : List ℕ) (quoted : Bool) (i : ℕ) → length text ≤ i → out ++ folded quoted (drop i text) ≡ total → out ≡ total
unfolding folded
folded_end out text total quoted i past so_far =
    sym (append-nil out) ∙ sym (ap (λ (l : List ℕ). out ++ folded quoted l) (drop_all i text past)) ∙ so_far

-- the pieces with bytes before the first
abbrev pub before : List ℕ → List (List ℕ) → List (List ℕ)
before front [] = []
before front (piece ∷ more) = (front ++ piece) ∷ more

before-nil : (list : List (List ℕ)) → before [] list ≡ list
before-nil [] = refl
before-nil (piece ∷ more) = refl

before-onto : (front : List ℕ) (b : ℕ) (list : List (List ℕ)) → 0 < length list → before front (onto_first b list) ≡ before (front ++ b ∷ []) list
before-onto front b [] some = absurd (omega arith)
before-onto front b (piece ∷ more) some = ap (λ (l : List ℕ). l ∷ more) (sym (one_more front b piece))

onto-some : (b : ℕ) (list : List (List ℕ)) → 0 < length (onto_first b list)
onto-some b [] = omega arith
onto-some b (piece ∷ more) = omega arith

some_pieces : (depth : ℕ) (quoted : Bool) (text : List ℕ) → 0 < length (pieces_from depth quoted text)
unfolding pieces_from
some_pieces depth quoted [] = omega arith
some_pieces depth quoted (b ∷ rest) = by_cases (parts_here depth quoted b)
  where
    by_cases : (v : Bool) → 0 < length (cond v ([] ∷ pieces_from depth quoted rest) (onto_first b (pieces_from (depth_behind depth quoted b) (quoted_behind quoted b) rest)))
    by_cases true = omega arith
    by_cases false = onto-some b (pieces_from (depth_behind depth quoted b) (quoted_behind quoted b) rest)

pub piece_ends : (list : List (List ℕ)) (piece text : List ℕ) (total : List (List ℕ)) (depth : ℕ) (quoted : Bool) (i : ℕ) → i < length text → parts_here depth quoted (get_or text i 0) ≡ true
    → list ++ before piece (pieces_from depth quoted (drop i text)) ≡ total → (list ++ piece ∷ []) ++ before [] (pieces_from depth quoted (drop (i + 1) text)) ≡ total
unfolding pieces_from
piece_ends list piece text total depth quoted i within parts so_far =
    let rest = pieces_from depth quoted (drop (i + 1) text) in
    let step : pieces_from depth quoted (drop i text) ≡ [] ∷ rest = ap (pieces_from depth quoted) (drop_on text i within) ∙ rw parts refl in
    let first : before piece ([] ∷ rest) ≡ piece ∷ rest = ap (λ (l : List ℕ). l ∷ rest) (append-nil piece) in
    let shape : (list ++ piece ∷ []) ++ before [] rest ≡ list ++ piece ∷ rest = ap (λ (l : List (List ℕ)). (list ++ piece ∷ []) ++ l) (before-nil rest) ∙ simp append_assoc in
    shape ∙ sym (ap (λ (l : List (List ℕ)). list ++ l) (ap (before piece) step ∙ first)) ∙ so_far

pub piece_grows : (list : List (List ℕ)) (piece text : List ℕ) (total : List (List ℕ)) (depth : ℕ) (quoted : Bool) (i : ℕ) → i < length text → parts_here depth quoted (get_or text i 0) ≡ false
    → list ++ before piece (pieces_from depth quoted (drop i text)) ≡ total
    → list ++ before (piece ++ get_or text i 0 ∷ []) (pieces_from (depth_behind depth quoted (get_or text i 0)) (quoted_behind quoted (get_or text i 0)) (drop (i + 1) text)) ≡ total
unfolding pieces_from
piece_grows list piece text total depth quoted i within whole so_far =
    let b = get_or text i 0 in
    let rest = pieces_from (depth_behind depth quoted b) (quoted_behind quoted b) (drop (i + 1) text) in
    let step : pieces_from depth quoted (drop i text) ≡ onto_first b rest = ap (pieces_from depth quoted) (drop_on text i within) ∙ rw whole refl in
    let some : 0 < length rest = some_pieces (depth_behind depth quoted b) (quoted_behind quoted b) (drop (i + 1) text) in
    sym (ap (λ (l : List (List ℕ)). list ++ l) (ap (before piece) step ∙ before-onto piece b rest some)) ∙ so_far

pub pieces_end : (list : List (List ℕ)) (piece text : List ℕ) (total : List (List ℕ)) (depth : ℕ) (quoted : Bool) (i : ℕ) → length text ≤ i
    → list ++ before piece (pieces_from depth quoted (drop i text)) ≡ total → list ++ piece ∷ [] ≡ total
unfolding pieces_from
pieces_end list piece text total depth quoted i past so_far =
    let step : pieces_from depth quoted (drop i text) ≡ [] ∷ [] = ap (pieces_from depth quoted) (drop_all i text past) in
    sym (ap (λ (l : List (List ℕ)). list ++ l) (ap (before piece) step ∙ ap (λ (l : List ℕ). l ∷ []) (append-nil piece))) ∙ so_far
