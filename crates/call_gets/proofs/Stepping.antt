-- From element to element of a view in which no two have one place.
use Rattle.std.proofs.Common.{◌≡◌, ℕ, zero, suc, ◌+◌, ◌≤◌, take, drop, Bool, true, false, cond, List, [], ◌∷◌, ◌++◌, Option, Some, refl, sym, ap, ◌∙◌}
use Rattle.std.specs.Prelude.{nat_le, nat_lt, find, slice_get, IfSome}
use Rattle.std.specs.List.{list_all, position_or_len}
use Rattle.std.proofs.lemmas.Bool.{and_from, leb-true, leb-false, lt-ltb}
use Rattle.std.proofs.lemmas.List.{append_assoc}
use Rattle.position_state.specs.declared.session.Anchor.{Anchor}
use Rattle.position_state.specs.declared.session.Anchor.TheVariants.{Front, At}
use Rattle.position_state.specs.declared.spot.Spot.{Spot}
use Rattle.position_state.specs.View.{is_at, behind, is_place_of}
use Rattle.position_state.specs.Looks.{found_at}
use Rattle.view_laws.specs.Views.{IsInItsPlace}
use Rattle.call_gets.specs.Scan.{IsFound, from_on}

-- what the law of places says of one view
abbrev pub Differ : List Spot → Type 0
Differ view = (front rest : List Spot) (spot : Spot) → view ≡ front ++ spot ∷ rest → IsInItsPlace view front spot rest

pub record Parts (view : List Spot) (s : Spot) : Type 0 where
  pub front : List Spot
  pub rest : List Spot
  pub is : view ≡ front ++ s ∷ rest

found_parts : (p : Spot → Bool) (view : List Spot) (s : Spot) → find p view ≡ Some s → Parts view s
found_parts p [] s e = absurd (let no : ⊥ = cc in no)
found_parts p (x ∷ xs) s e = by (p x) (λ k. found_parts p xs s k) e
  where
    by : (b : Bool) → (find p xs ≡ Some s → Parts xs s) → cond b (Some x) (find p xs) ≡ Some s → Parts (x ∷ xs) s
    by true rest k = record { front = []; rest = xs; is = let same : x ≡ s = cc in ap (λ (t : Spot). t ∷ xs) same }
    by false rest k = let r = rest k in record { front = x ∷ r.front; rest = r.rest; is = ap (λ (ys : List Spot). x ∷ ys) r.is }

pub place_parts : (at : Anchor) (view : List Spot) (s : Spot) → found_at at view ≡ Some s → Parts view s
place_parts Front view s e = absurd (let no : ⊥ = cc in no)
place_parts (At name root entry) view s e = found_parts (is_at (At name root entry)) view s e

pub place_of_found : (view : List Spot) (s : Spot) → Differ view → IsFound view s → is_place_of view s.at ≡ true
place_of_found view s d f = let p = place_parts s.at view s f in (d p.front p.rest s p.is).place

-- what is behind a place ends the view
pub record Ends (view behind : List Spot) : Type 0 where
  pub front : List Spot
  pub is : view ≡ front ++ behind

pub ends_behind : (view : List Spot) (s : Spot) → Differ view → IsFound view s → Ends view (behind s.at view)
ends_behind view s d f =
    let p = place_parts s.at view s f in
    let q = d p.front p.rest s p.is in
    record { front = p.front ++ s ∷ []; is = p.is ∙ sym (append_assoc p.front (s ∷ []) p.rest) ∙ ap (λ r. (p.front ++ s ∷ []) ++ r) (sym q.follows) }

pub ends_front : (view : List Spot) → Ends view (behind Front view)
ends_front view = record { front = []; is = refl }

take_drop : (n : ℕ) (xs : List Spot) → xs ≡ take n xs ++ drop n xs
take_drop zero xs = refl
take_drop (suc n) [] = refl
take_drop (suc n) (x ∷ xs) = ap (λ (ys : List Spot). x ∷ ys) (take_drop n xs)

pub ends_any : (view : List Spot) (at : Anchor) → Ends view (behind at view)
ends_any view Front = ends_front view
ends_any view (At name root entry) =
    let n : ℕ = position_or_len (is_at (At name root entry)) view + 1 in
    record { front = take n view; is = take_drop n view }

-- ---- to the next element

pub record Next (view behind : List Spot) (next : Option Spot) : Type 0 where
  pub is : behind ≡ from_on view next
  pub found : IfSome next (IsFound view)

pub next_of : (view behind : List Spot) → Differ view → Ends view behind → Next view behind (slice_get behind 0)
next_of view [] d e = record { is = refl; found = tt }
next_of view (x ∷ xs) d e =
    let q = d e.front xs x e.is in
    record { is = ap (λ (r : List Spot). x ∷ r) (sym q.follows); found = q.found }

-- ---- past what is deeper

pub record Passed (view behind : List Spot) (level : ℕ) (next : Option Spot) : Type 0 where
  pub deep : List Spot
  pub is : behind ≡ deep ++ from_on view next
  pub deeper : list_all (λ x. nat_lt level x.level) deep ≡ true
  pub high : IfSome next (λ t. t.level ≤ level)
  pub found : IfSome next (IsFound view)

pub passed : (view behind : List Spot) (level : ℕ) → Differ view → Ends view behind → Passed view behind level (find (λ other. nat_le other.level level) behind)
passed view [] level d e = record { deep = []; is = refl; deeper = refl; high = tt; found = tt }
passed view (x ∷ xs) level d e =
    by (nat_le x.level level) refl (passed view xs level d (record { front = e.front ++ x ∷ []; is = e.is ∙ sym (append_assoc e.front (x ∷ []) xs) }))
  where
    by : (b : Bool) → nat_le x.level level ≡ b → Passed view xs level (find (λ other. nat_le other.level level) xs)
        → Passed view (x ∷ xs) level (cond b (Some x) (find (λ other. nat_le other.level level) xs))
    by true h rest =
        let q = d e.front xs x e.is in
        record { deep = []; is = ap (λ (r : List Spot). x ∷ r) (sym q.follows); deeper = refl; high = leb-true x.level level h; found = q.found }
    by false h rest = record {
      deep = x ∷ rest.deep;
      is = ap (λ (r : List Spot). x ∷ r) rest.is;
      deeper = and_from (nat_lt level x.level) (list_all (λ y. nat_lt level y.level) rest.deep) (lt-ltb level x.level (leb-false x.level level h)) rest.deeper;
      high = rest.high;
      found = rest.found;
    }
