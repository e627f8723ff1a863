-- The first piece of a text, the pieces behind it, and how they stand on lines.
use Rattle.std.proofs.Common.{◌≡◌, ℕ, zero, suc, ◌+◌, ◌<◌, ◌≤◌, Bool, true, false, ◌==◌, List, [], ◌∷◌, ◌++◌, length, take, drop, refl, sym, ap, ◌∙◌, arith, append_assoc}
use Rattle.std.proofs.lemmas.List.{take_all, drop_all}
use Rattle.std.specs.List.{position_or_len, onto_first}
use Rattle.definition_printer.specs.Wrapped.{pieces, line_end, room_behind, on_lines}

abbrev comma_at : List ℕ → ℕ
comma_at text = position_or_len (λ b. b == 44) text

first_by : (v : Bool) (b : ℕ) (rest : List ℕ) (k : ℕ) → (b == 44) ≡ v → comma_at (b ∷ rest) ≡ k → ((j : ℕ) → comma_at rest ≡ j → j < length rest → pieces rest ≡ take (suc j) rest ∷ pieces (drop (suc j) rest))
    → k < length (b ∷ rest) → pieces (b ∷ rest) ≡ take (suc k) (b ∷ rest) ∷ pieces (drop (suc k) (b ∷ rest))
unfolding pieces
first_by true b rest zero same e more h = rw same refl
first_by true b rest (suc j) same e more h =
    let none : 0 ≡ suc j = rw same at e in
    absurd (omega (arith, none))
first_by false b rest zero same e more h =
    let some : 1 + comma_at rest ≡ 0 = rw same at e in
    absurd (omega (arith, some))
first_by false b rest (suc j) same e more h =
    let some : 1 + comma_at rest ≡ suc j = rw same at e in
    let here : comma_at rest ≡ j = omega (arith, some) in
    let short : j < length rest = omega arith in
    rw (same, more j here short) refl

piece_first : (text : List ℕ) (k : ℕ) → comma_at text ≡ k → k < length text → pieces text ≡ take (suc k) text ∷ pieces (drop (suc k) text)
piece_first [] k e h = absurd (omega arith)
piece_first (b ∷ rest) k e h = first_by (b == 44) b rest k refl e (piece_first rest) h

pub split_first : (text front back : List ℕ) (len : ℕ) → len ≡ comma_at text → len < length text → front ≡ take (len + 1) text → back ≡ drop (len + 1) text → pieces text ≡ front ∷ pieces back
split_first text front back len e h f b =
    let one : len + 1 ≡ suc len = omega arith in
    rw (f, b, one) (piece_first text len (sym e) h)

last_by : (v : Bool) (b : ℕ) (rest : List ℕ) → (b == 44) ≡ v → (0 < length rest → length rest ≤ comma_at rest → pieces rest ≡ rest ∷ []) → length (b ∷ rest) ≤ comma_at (b ∷ rest) → pieces (b ∷ rest) ≡ (b ∷ rest) ∷ []
unfolding pieces
last_by true b rest same more h =
    let none : suc (length rest) ≤ 0 = rw same at h in
    absurd (omega (arith, none))
last_by false b [] same more h = rw same refl
last_by false b (d ∷ rest) same more h =
    let long : suc (length (d ∷ rest)) ≤ 1 + comma_at (d ∷ rest) = rw same at h in
    let some : 0 < length (d ∷ rest) = omega arith in
    let all : length (d ∷ rest) ≤ comma_at (d ∷ rest) = omega (arith, long) in
    rw same (ap (onto_first b) (more some all))

piece_last : (text : List ℕ) → 0 < length text → length text ≤ comma_at text → pieces text ≡ text ∷ []
piece_last [] h e = absurd (omega arith)
piece_last (b ∷ rest) h e = last_by (b == 44) b rest refl (piece_last rest) e

pub split_last : (text front back : List ℕ) (len : ℕ) → len ≡ comma_at text → 0 < length text → length text ≤ len → front ≡ take len text → back ≡ drop len text → pieces text ≡ front ∷ pieces back
unfolding pieces
split_last text front back len e some h f b =
    let all : length text ≤ comma_at text = omega (arith, e) in
    rw (f, b, take_all len text h, drop_all len text h) (piece_last text some all)

pub one_more : (out : List ℕ) (room : ℕ) (text piece behind total : List ℕ) → pieces text ≡ piece ∷ pieces behind → out ++ on_lines room (pieces text) ≡ total
    → ((out ++ line_end room (length piece)) ++ piece) ++ on_lines (room_behind room (length piece)) (pieces behind) ≡ total
unfolding on_lines
one_more out room text piece behind total e h =
    let front : List ℕ = line_end room (length piece) in
    let back : List ℕ = on_lines (room_behind room (length piece)) (pieces behind) in
    let so_far : out ++ ((front ++ piece) ++ back) ≡ total = rw e at h in
    ap (λ (xs : List ℕ). xs ++ back) (append_assoc out front piece) ∙ append_assoc out (front ++ piece) back ∙ so_far

pub no_more : (out : List ℕ) (room : ℕ) (text total : List ℕ) → length text ≡ 0 → out ++ on_lines room (pieces text) ≡ total → out ++ 10 ∷ [] ≡ total
unfolding on_lines pieces
no_more out room [] total e h = h
no_more out room (b ∷ rest) total e h = absurd (omega (arith, e))
