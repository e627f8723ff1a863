-- How often a GNP looks: no more than its parent's record has elements, twice.
use Rattle.std.proofs.Common.{◌≡◌, ℕ, ◌+◌, ◌*◌, ◌≤◌, Bool, true, false, cond, ◌&&◌, List, [], ◌∷◌, ◌++◌, length, Option, Some, refl, sym, ap, subst, ◌∙◌, arith}
use Rattle.std.specs.Prelude.{find, nat_lt, All}
use Rattle.std.specs.List.{count_by, list_all}
use Rattle.std.specs.Option.{option_map_or}
use Rattle.std.specs.declared.cmp.Ordering.TheVariants.{Equal}
use Rattle.std.proofs.lemmas.Bool.{and_parts, ltb-true, lt-ltb}
use Rattle.std.proofs.lemmas.List.{append_assoc}
use Rattle.std.proofs.lemmas.List.Elements.{All-filter, All-nil, All-push}
use Rattle.std.proofs.lemmas.List.Folds.{list_all-append}
use Rattle.std.proofs.lemmas.List.Sums.{sum_by-append, sum_by-cons}
use Rattle.hal_base.specs.declared.place.Ilk.{Ilk}
use Rattle.hal_schema.specs.declared.row.Row.{Row}
use Rattle.hal_schema.specs.declared.schema.Schema.{Schema}
use Rattle.hal_schema.specs.Paths.{path_with, path_after}
use Rattle.hal_schema.specs.Roots.{root_cmp}
use Rattle.position_state.specs.declared.session.Anchor.{Anchor}
use Rattle.position_state.specs.declared.session.Anchor.TheVariants.{Front, At}
use Rattle.position_state.specs.declared.spot.Spot.{Spot}
use Rattle.position_state.specs.View.{is_at, is_place_of, root_named, behind}
use Rattle.position_state.specs.declared.session.Session.{Session}
use Rattle.position_state.specs.Looks.{WalkView, found_at}
use Rattle.call_text.specs.declared.line.Call.{Call}
use Rattle.view_laws.specs.Views.{is_keyed}
use Rattle.call_gets.specs.Below.{IsSmall, IsWithinParent, deeper_around, deeper_at, record_cmp, rows_around}
use Rattle.call_gets.specs.Keyed.{rows_under}
use Rattle.dli_calls.specs.Gets.{paths_behind}
use Rattle.dli_calls.specs.Meets.{on_paths}
use Rattle.call_gets.specs.Passed.{IsWithinPassed, begins_at, passed}
use Rattle.call_gets.specs.Scan.{IsFound, LooksWithin, inside_ahead, level_at, path_of, plain_view}
use Rattle.call_gets.proofs.ByRecord.{ahead_under}
use Rattle.call_gets.proofs.Looking.{told_at, where_told}
use Rattle.call_gets.proofs.Parting.{later_parts, on_level, parted}
use Rattle.call_gets.proofs.Records.{Ordered, at_found, sides}
use Rattle.call_gets.proofs.Rising.{is_own}
use Rattle.call_gets.proofs.Rooted.{one_deep}
use Rattle.call_gets.proofs.Skipping.{level, kept}
use Rattle.call_gets.proofs.Stepping.{Differ, ends_any, place_of_found, place_parts}

-- ---- elements of a path are of what it was carried along

count_kept : (p : Spot → Bool) (l : ℕ) (xs : List Spot) → count_by p (kept l xs) ≤ count_by p xs
count_kept p l [] = omega arith
count_kept p l (x ∷ xs) = by (nat_lt x.level l) (count_kept p l xs)
  where
    by : (b : Bool) → count_by p (kept l xs) ≤ count_by p xs → count_by p (cond b (x ∷ kept l xs) (kept l xs)) ≤ count_by p (x ∷ xs)
    by true rest = omega (arith, rest, sum_by-cons (λ y. cond (p y) 1 0) x (kept l xs), sum_by-cons (λ y. cond (p y) 1 0) x xs)
    by false rest = omega (arith, rest, sum_by-cons (λ y. cond (p y) 1 0) x xs)

count_path : (p : Spot → Bool) (path ys : List Spot) → count_by p (path_after level path ys) ≤ count_by p path + count_by p ys
count_path p path [] = omega arith
count_path p path (x ∷ xs) =
    let f : Spot → ℕ = λ y. cond (p y) 1 0 in
    omega (
      arith,
      count_path p (path_with level path x) xs,
      sum_by-append f (kept x.level path) (x ∷ []),
      count_kept p x.level path,
      sum_by-cons f x xs,
      sum_by-cons f x [],
    )

count_all : (p : Spot → Bool) (xs : List Spot) → list_all p xs ≡ true → count_by p xs ≡ length xs
count_all p [] h = refl
count_all p (x ∷ xs) h =
    let a = and_parts (p x) (list_all p xs) h in
    let one : cond (p x) 1 0 ≡ 1 = ap {B = ℕ} (λ b. cond b 1 0) a.0 in
    omega (arith, sum_by-cons (λ y. cond (p y) 1 0) x xs, one, count_all p xs a.1)

-- what is deeper than a lower level is fewer
pub inside_more : (m : ℕ) (ys : List Spot) → 1 ≤ m → inside_ahead (Some m) ys ≤ inside_ahead (Some 1) ys
inside_more m [] h = omega arith
inside_more m (x ∷ xs) h = by (nat_lt m x.level) refl (inside_more m xs h)
  where
    by : (b : Bool) → nat_lt m x.level ≡ b → inside_ahead (Some m) xs ≤ inside_ahead (Some 1) xs → cond b (1 + inside_ahead (Some m) xs) 0 ≤ cond (nat_lt 1 x.level) (1 + inside_ahead (Some 1) xs) 0
    by true e rest =
        let on : cond (nat_lt 1 x.level) (1 + inside_ahead (Some 1) xs) 0 ≡ 1 + inside_ahead (Some 1) xs = ap (λ b. cond b (1 + inside_ahead (Some 1) xs) 0) (lt-ltb 1 x.level (omega (arith, h, ltb-true m x.level e))) in
        omega (arith, on, rest)
    by false e rest = omega arith

-- ---- the record of a place

abbrev pub around : Anchor → List Spot → ℕ
around at view = length (path_of at view) + inside_ahead (Some 1) (behind at view)

few_of : (schema : Schema) (view : List Spot) (name : Ilk) (root : List ℕ) (entry : Option (List ℕ)) → Differ view → Ordered schema view → is_place_of view (At name root entry) ≡ true → around (At name root entry) view ≤ rows_under root view
few_of schema view name root entry d o h =
    let at : Anchor = At name root entry in
    let s = sides schema view name root entry d o h in
    let path : List Spot = path_after level [] s.front in
    let size : length (path_of at view) ≡ length path = ap (λ (ys : List Spot). length ys) s.path in
    omega (
      arith,
      size,
      count_all (is_own root) path s.own,
      count_path (is_own root) [] s.front,
      ahead_under schema.types root (behind at view) s.goes.keyed s.goes.together,
      sum_by-append (λ y. cond (is_own root y) 1 0) s.front (behind at view),
      ap (λ (ys : List Spot). rows_under root ys) s.is,
    )

pub few_at : (schema : Schema) (view : List Spot) (parent : Anchor) (q : Spot) → Differ view → Ordered schema view → IsFound view q → found_at parent view ≡ Some q → around q.at view ≤ rows_around parent view
few_at schema view parent q d o i f = by q.at i refl (place_of_found view q d i)
  where
    by : (a : Anchor) → found_at a view ≡ Some q → q.at ≡ a → is_place_of view a ≡ true → around a view ≤ rows_around parent view
    by Front k e h = absurd (let no : ⊥ = cc in no)
    by (At n r t) k e h =
        let rows : rows_around parent view ≡ rows_under r view = ap (λ (p : Option Spot). option_map_or (λ (spot : Spot). rows_under (root_named spot.at) view) p 0) f ∙ ap (λ (a : Anchor). rows_under (root_named a) view) e in
        omega (arith, rows, few_of schema view n r t d o h)

pub few_beside : (schema : Schema) (view : List Spot) (at parent : Anchor) (q : Spot) → Differ view → Ordered schema view → ((a b : List ℕ) → root_cmp schema a b ≡ Equal → a ≡ b) → is_place_of view at ≡ true → found_at parent view ≡ Some q
    → record_cmp schema at q ≡ Equal → around at view ≤ rows_around parent view
few_beside schema view Front parent q d o exact h f e = absurd (let no : ⊥ = cc in no)
few_beside schema view (At n r t) parent q d o exact h f e =
    let rows : rows_around parent view ≡ rows_under r view =
    ap (λ (p : Option Spot). option_map_or (λ (spot : Spot). rows_under (root_named spot.at) view) p 0) f ∙ ap (λ k. rows_under k view) (sym (exact r (root_named q.at) e)) in
    omega (arith, rows, few_of schema view n r t d o h)

-- ---- levels

pub deep_found : (schema : Schema) (view : List Spot) (q : Spot) → Ordered schema view → IsFound view q → 1 ≤ q.level
deep_found schema view q o f =
    let p = place_parts q.at view q f in
    let a = and_parts (list_all (is_keyed schema.types) p.front) (is_keyed schema.types q && list_all (is_keyed schema.types) p.rest)
    (sym (list_all-append (is_keyed schema.types) p.front (q ∷ p.rest)) ∙ ap (list_all (is_keyed schema.types)) (sym p.is) ∙ o.keyed) in
    let b = and_parts (is_keyed schema.types q) (list_all (is_keyed schema.types) p.rest) a.1 in
    omega (arith, ltb-true 0 q.level (one_deep schema.types q b.0))

pub deep_level : (schema : Schema) (view : List Spot) (parent : Anchor) (path : List Spot) (m : ℕ) → Ordered schema view → All (IsFound view) path → level_at path parent ≡ Some m → 1 ≤ m
deep_level schema view parent path m o all e = let l = on_level view parent path m all e in omega (arith, l.same, deep_found schema view l.one o l.found)

-- ---- what is looked at is of the parent's record

pub deeper_is : (view : List Spot) (parent : Anchor) (q : Spot) → found_at parent view ≡ Some q → deeper_at parent view ≡ deeper_around q view
deeper_is view parent q f = ap (λ (p : Option Spot). option_map_or (λ (spot : Spot). deeper_around spot view) p 0) f

found_is_shown : (view : List Spot) (parent : Anchor) (q : Spot) → Differ view → found_at parent view ≡ Some q → IsFound view q
found_is_shown view parent q d f = let p = place_parts parent view q f in (d p.front p.rest q p.is).found

pub few_deeper : (schema : Schema) (view : List Spot) (parent : Anchor) (q : Spot) → Differ view → Ordered schema view → found_at parent view ≡ Some q → deeper_around q view ≤ rows_around parent view
few_deeper schema view parent q d o f =
    let i = found_is_shown view parent q d f in
    omega (arith, few_at schema view parent q d o i f, inside_more q.level (behind q.at view) (deep_found schema view q o i))

pub small_one : (schema : Schema) (view : List Spot) (at parent : Anchor) (q : Spot) → Differ view → Ordered schema view → ((a b : List ℕ) → root_cmp schema a b ≡ Equal → a ≡ b) → is_place_of view at ≡ true
    → All (IsFound view) (path_of at view) → found_at parent view ≡ Some q → record_cmp schema at q ≡ Equal → IsSmall view at parent
small_one schema view at parent q d o exact h all f e = record {
  around = few_beside schema view at parent q d o exact h f e;
  deeper = omega (arith, deeper_is view parent q f, few_deeper schema view parent q d o f);
  level = where_told (level_at (path_of at view) parent) (λ m. 1 ≤ m) (λ m k. deep_level schema view parent (path_of at view) m o all k);
}

shown_along : (view a path ys b : List Spot) → Differ view → view ≡ a ++ (ys ++ b) → All (IsFound view) path → All (IsFound view) (path_after level path ys)
shown_along view a path [] b d e all = all
shown_along view a path (x ∷ xs) b d e all =
    shown_along view (a ++ x ∷ []) (path_with level path x) xs b d (e ∙ sym (append_assoc a (x ∷ []) (xs ++ b)))
    (All-push (IsFound view) (kept x.level path) x (All-filter (λ (y : Spot). nat_lt y.level x.level) (IsFound view) path all) (d a (xs ++ b) x e).found)

pub path_shown : (view : List Spot) (at : Anchor) → Differ view → is_place_of view at ≡ true → All (IsFound view) (path_of at view)
path_shown view at d h = let p = parted view at d h in subst (All (IsFound view)) (sym p.path) (shown_along view [] [] p.front (behind at view) d p.is (All-nil (IsFound view)))

-- the element that stands later is the one that is found
pub later_found_at : (view : List Spot) (at parent : Anchor) (x : Spot) → Differ view → Some x ≡ find (is_at parent) (behind at view) → found_at parent view ≡ Some x
later_found_at view at parent x d e =
    let l = later_parts view at parent x d e in
    let ends = ends_any view at in
    at_found view parent x l.on (l.placed ends.front ends.is).found

-- ---- the call

pub parent_few : (n : ℕ) (schema : Schema) (session : Session) (call : Call) (old new : WalkView) → new.looks ≤ old.looks + n → IsWithinParent n schema session call old new
parent_few n schema session call old new few = λ e.
    where_told session.parent (λ parent. LooksWithin call.ssas old new (λ rows. n + 2 * rows_around parent (plain_view schema rows)))
    (λ parent k h. where_told old.forest (λ (rows : List Row). new.looks ≤ old.looks + (n + 2 * rows_around parent (plain_view schema rows))) (λ rows t. omega (arith, few)))

pub parent_more : (schema : Schema) (session : Session) (call : Call) (old mid new : WalkView) → IsWithinParent 5 schema session call old mid → new.looks ≤ mid.looks + 1 → IsWithinParent 6 schema session call old new
parent_more schema session call old mid new within few = λ e.
    where_told session.parent (λ parent. LooksWithin call.ssas old new (λ rows. 6 + 2 * rows_around parent (plain_view schema rows)))
    (λ parent k h. where_told old.forest (λ (rows : List Row). new.looks ≤ old.looks + (6 + 2 * rows_around parent (plain_view schema rows)))
    (λ rows t. omega (
      arith,
      few,
      told_at old.forest rows (λ (r : List Row). mid.looks ≤ old.looks + (5 + 2 * rows_around parent (plain_view schema r))) t
          (told_at session.parent parent (λ parent. LooksWithin call.ssas old mid (λ rows. 5 + 2 * rows_around parent (plain_view schema rows))) k (within e) h),
    )))

pub passed_none : (schema : Schema) (session : Session) (call : Call) (old new : WalkView) → new.looks ≤ old.looks → IsWithinPassed 4 schema session call old new
passed_none schema session call old new few = λ e off h.
    where_told old.forest (λ (rows : List Row). let view = plain_view schema rows in
    new.looks ≤ old.looks + (4 + length (path_of (begins_at call session) view) + passed schema view call.ssas (paths_behind (begins_at call session) (on_paths view)))) (λ rows t. omega (arith, few))

pub passed_more : (schema : Schema) (session : Session) (call : Call) (old mid new : WalkView) → IsWithinPassed 3 schema session call old mid → new.looks ≤ mid.looks + 1 → IsWithinPassed 4 schema session call old new
passed_more schema session call old mid new within few = λ e off h.
    where_told old.forest (λ (rows : List Row). let view = plain_view schema rows in
    new.looks ≤ old.looks + (4 + length (path_of (begins_at call session) view) + passed schema view call.ssas (paths_behind (begins_at call session) (on_paths view))))
    (λ rows t. omega (
      arith,
      few,
      told_at old.forest rows (λ (r : List Row). let view = plain_view schema r in
          mid.looks ≤ old.looks + (3 + length (path_of (begins_at call session) view) + passed schema view call.ssas (paths_behind (begins_at call session) (on_paths view)))) t (within e off h),
    ))
