-- A text that is cut anywhere: its lines are those that had ended before the cut, and those of what follows.
use Rattle.std.proofs.Common.{◌≡◌, ℕ, Bool, true, false, cond, eqb, List, [], ◌∷◌, ◌++◌, map, refl, sym, ap, ◌∙◌}
use Rattle.std.specs.List.{onto_first}
use Rattle.std.specs.Str.Lines.{lines, lines_of_parts, strip_carriage_return}
use Rattle.script_runs.specs.Lines.{parts_of, ended_parts, last_part, ended_lines, rest_of}

-- all parts but the last
abbrev pub front_parts : List (List ℕ) → List (List ℕ)
front_parts [] = []
front_parts (p ∷ []) = []
front_parts (p ∷ q ∷ more) = p ∷ front_parts (q ∷ more)

-- there is always a part
first_step : (t : Bool) (x : ℕ) (ps : List (List ℕ)) → (p : List ℕ) × (qs : List (List ℕ)) × (cond t ([] ∷ ps) (onto_first x ps) ≡ p ∷ qs)
first_step true x ps = ([], ps, refl)
first_step false x [] = (x ∷ [], [], refl)
first_step false x (p ∷ ps) = (x ∷ p, ps, refl)

some_part : (xs : List ℕ) → (p : List ℕ) × (ps : List (List ℕ)) × (parts_of xs ≡ p ∷ ps)
some_part [] = ([], [], refl)
some_part (x ∷ xs) = first_step (eqb x 10) x (parts_of xs)

-- one more byte before a text whose parts are known
before_end : (p : List ℕ) (ps qs : List (List ℕ)) (b : List ℕ) → qs ≡ front_parts (p ∷ ps) ++ parts_of (last_part (p ∷ ps) ++ b)
    → [] ∷ qs ≡ front_parts ([] ∷ p ∷ ps) ++ parts_of (last_part ([] ∷ p ∷ ps) ++ b)
before_end p ps qs b e = ap (λ (l : List (List ℕ)). [] ∷ l) e

onto : (x : ℕ) (p : List ℕ) (ps qs : List (List ℕ)) (b : List ℕ) → eqb x 10 ≡ false → qs ≡ front_parts (p ∷ ps) ++ parts_of (last_part (p ∷ ps) ++ b)
    → onto_first x qs ≡ front_parts ((x ∷ p) ∷ ps) ++ parts_of (last_part ((x ∷ p) ∷ ps) ++ b)
onto x p [] qs b differs e = ap (onto_first x) e ∙ sym (ap (λ t. cond t ([] ∷ parts_of (p ++ b)) (onto_first x (parts_of (p ++ b)))) differs)
onto x p (q ∷ ps) qs b differs e = ap (onto_first x) e

cut_step : (t : Bool) (x : ℕ) (xs b : List ℕ) (p : List ℕ) (ps : List (List ℕ)) → eqb x 10 ≡ t → parts_of xs ≡ p ∷ ps
    → parts_of (xs ++ b) ≡ front_parts (p ∷ ps) ++ parts_of (last_part (p ∷ ps) ++ b)
    → cond t ([] ∷ parts_of (xs ++ b)) (onto_first x (parts_of (xs ++ b))) ≡ front_parts (cond t ([] ∷ p ∷ ps) (onto_first x (p ∷ ps))) ++ parts_of (last_part (cond t ([] ∷ p ∷ ps) (onto_first x (p ∷ ps))) ++ b)
cut_step true x xs b p ps ends first e = before_end p ps (parts_of (xs ++ b)) b e
cut_step false x xs b p ps differs first e = onto x p ps (parts_of (xs ++ b)) b differs e

-- the parts of a text that is cut: those before the cut but the last, which goes on behind it
pub parts-append : (a b : List ℕ) → parts_of (a ++ b) ≡ front_parts (parts_of a) ++ parts_of (rest_of a ++ b)
parts-append [] b = refl
parts-append (x ∷ xs) b =
    let first = some_part xs in
    let e : parts_of (xs ++ b) ≡ front_parts (first.0 ∷ first.1) ++ parts_of (last_part (first.0 ∷ first.1) ++ b) = rw first.2 at (parts-append xs b) in
    rw first.2 (cut_step (eqb x 10) x xs b first.0 first.1 refl first.2 e)

ended_front : (ps : List (List ℕ)) → ended_parts ps ≡ map strip_carriage_return (front_parts ps)
ended_front [] = refl
ended_front (p ∷ []) = refl
ended_front (p ∷ q ∷ more) = ap (λ (l : List (List ℕ)). strip_carriage_return p ∷ l) (ended_front (q ∷ more))

ended_joined : (fs : List (List ℕ)) (q : List ℕ) (qs : List (List ℕ)) → ended_parts (fs ++ q ∷ qs) ≡ map strip_carriage_return fs ++ ended_parts (q ∷ qs)
ended_joined [] q qs = refl
ended_joined (f ∷ []) q qs = refl
ended_joined (f ∷ g ∷ fs) q qs = ap (λ (l : List (List ℕ)). strip_carriage_return f ∷ l) (ended_joined (g ∷ fs) q qs)

lines_joined : (fs : List (List ℕ)) (q : List ℕ) (qs : List (List ℕ)) → lines_of_parts (fs ++ q ∷ qs) ≡ map strip_carriage_return fs ++ lines_of_parts (q ∷ qs)
lines_joined [] q qs = refl
lines_joined (f ∷ []) q qs = refl
lines_joined (f ∷ g ∷ fs) q qs = ap (λ (l : List (List ℕ)). strip_carriage_return f ∷ l) (lines_joined (g ∷ fs) q qs)

last_joined : (fs : List (List ℕ)) (q : List ℕ) (qs : List (List ℕ)) → last_part (fs ++ q ∷ qs) ≡ last_part (q ∷ qs)
last_joined [] q qs = refl
last_joined (f ∷ []) q qs = refl
last_joined (f ∷ g ∷ fs) q qs = last_joined (g ∷ fs) q qs

pub ended-append : (a b : List ℕ) → ended_lines (a ++ b) ≡ ended_lines a ++ ended_lines (rest_of a ++ b)
ended-append a b =
    let next = some_part (rest_of a ++ b) in
    let cut : parts_of (a ++ b) ≡ front_parts (parts_of a) ++ next.0 ∷ next.1 = rw next.2 at (parts-append a b) in
    rw (cut, next.2) (ended_joined (front_parts (parts_of a)) next.0 next.1 ∙ ap (λ (l : List (List ℕ)). l ++ ended_parts (next.0 ∷ next.1)) (sym (ended_front (parts_of a))))

pub lines-append : (a b : List ℕ) → lines (a ++ b) ≡ ended_lines a ++ lines (rest_of a ++ b)
lines-append a b =
    let next = some_part (rest_of a ++ b) in
    let cut : parts_of (a ++ b) ≡ front_parts (parts_of a) ++ next.0 ∷ next.1 = rw next.2 at (parts-append a b) in
    rw (cut, next.2) (lines_joined (front_parts (parts_of a)) next.0 next.1 ∙ ap (λ (l : List (List ℕ)). l ++ lines_of_parts (next.0 ∷ next.1)) (sym (ended_front (parts_of a))))

pub rest-append : (a b : List ℕ) → rest_of (a ++ b) ≡ rest_of (rest_of a ++ b)
rest-append a b =
    let next = some_part (rest_of a ++ b) in
    let cut : parts_of (a ++ b) ≡ front_parts (parts_of a) ++ next.0 ∷ next.1 = rw next.2 at (parts-append a b) in
    rw (cut, next.2) (last_joined (front_parts (parts_of a)) next.0 next.1)

-- the text has no line end
abbrev pub IsOpenLine : List ℕ → Type 0
IsOpenLine line = parts_of line ≡ line ∷ []

rest_onto : (x : ℕ) (p : List ℕ) (ps : List (List ℕ)) → eqb x 10 ≡ false → IsOpenLine (last_part (p ∷ ps)) → IsOpenLine (last_part ((x ∷ p) ∷ ps))
rest_onto x p [] differs e = ap (λ t. cond t ([] ∷ parts_of p) (onto_first x (parts_of p))) differs ∙ ap (onto_first x) e
rest_onto x p (q ∷ ps) differs e = e

rest_step : (t : Bool) (x : ℕ) (p : List ℕ) (ps : List (List ℕ)) → eqb x 10 ≡ t → IsOpenLine (last_part (p ∷ ps)) → IsOpenLine (last_part (cond t ([] ∷ p ∷ ps) (onto_first x (p ∷ ps))))
rest_step true x p ps ends e = e
rest_step false x p ps differs e = rest_onto x p ps differs e

-- what stands behind the last line end has none
pub rest_open : (a : List ℕ) → IsOpenLine (rest_of a)
rest_open [] = refl
rest_open (x ∷ xs) =
    let first = some_part xs in
    let e : IsOpenLine (last_part (first.0 ∷ first.1)) = rw first.2 at (rest_open xs) in
    rw first.2 (rest_step (eqb x 10) x first.0 first.1 refl e)

open_tail : (t : Bool) (x : ℕ) (xs p : List ℕ) (ps : List (List ℕ)) → eqb x 10 ≡ t → parts_of xs ≡ p ∷ ps → cond t ([] ∷ p ∷ ps) (onto_first x (p ∷ ps)) ≡ (x ∷ xs) ∷ [] → (eqb x 10 ≡ false) × IsOpenLine xs
open_tail true x xs p ps ends first e = cc
open_tail false x xs p ps differs first e = let same : p ≡ xs = cc in let none : ps ≡ [] = cc in (differs, first ∙ ap (λ (l : List ℕ). l ∷ ps) same ∙ ap (λ (l : List (List ℕ)). xs ∷ l) none)

open_shorter : (x : ℕ) (xs : List ℕ) → IsOpenLine (x ∷ xs) → (eqb x 10 ≡ false) × IsOpenLine xs
open_shorter x xs e =
    let first = some_part xs in
    let h : cond (eqb x 10) ([] ∷ first.0 ∷ first.1) (onto_first x (first.0 ∷ first.1)) ≡ (x ∷ xs) ∷ [] = rw first.2 at e in
    open_tail (eqb x 10) x xs first.0 first.1 refl first.2 h

-- a line end behind it ends it
pub open_ended : (line : List ℕ) → IsOpenLine line → parts_of (line ++ 10 ∷ []) ≡ line ∷ [] ∷ []
open_ended [] e = refl
open_ended (x ∷ xs) e =
    let h = open_shorter x xs e in
    ap (λ t. cond t ([] ∷ parts_of (xs ++ 10 ∷ [])) (onto_first x (parts_of (xs ++ 10 ∷ [])))) h.0 ∙ ap (onto_first x) (open_ended xs h.1)

-- any other byte goes on
pub open_longer : (line : List ℕ) (b : ℕ) → eqb b 10 ≡ false → IsOpenLine line → IsOpenLine (line ++ b ∷ [])
open_longer [] b differs e = ap (λ t. cond t ([] ∷ [] ∷ []) ((b ∷ []) ∷ [])) differs
open_longer (x ∷ xs) b differs e =
    let h = open_shorter x xs e in
    ap (λ t. cond t ([] ∷ parts_of (xs ++ b ∷ [])) (onto_first x (parts_of (xs ++ b ∷ [])))) h.0 ∙ ap (onto_first x) (open_longer xs b differs h.1)

-- what one more byte does to a line without end
pub longer_ended : (line : List ℕ) (b : ℕ) → eqb b 10 ≡ false → IsOpenLine line → ended_lines (line ++ b ∷ []) ≡ []
longer_ended line b differs e = ap ended_parts (open_longer line b differs e)

pub longer_rest : (line : List ℕ) (b : ℕ) → eqb b 10 ≡ false → IsOpenLine line → rest_of (line ++ b ∷ []) ≡ line ++ b ∷ []
longer_rest line b differs e = ap last_part (open_longer line b differs e)

pub ended_ended : (line : List ℕ) → IsOpenLine line → ended_lines (line ++ 10 ∷ []) ≡ strip_carriage_return line ∷ []
ended_ended line e = ap ended_parts (open_ended line e)

pub ended_rest : (line : List ℕ) → IsOpenLine line → rest_of (line ++ 10 ∷ []) ≡ []
ended_rest line e = ap last_part (open_ended line e)
