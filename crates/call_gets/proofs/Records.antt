-- Which record a parent is in: before a place, at it, or behind it.
use Rattle.std.proofs.Common.{◌≡◌, ℕ, ◌==◌, Bool, true, false, not, cond, ◌&&◌, ◌||◌, List, [], ◌∷◌, ◌++◌, Option, None, Some, refl, sym, ap, subst, ◌∙◌}
use Rattle.std.specs.Prelude.{find, filter, IsTrue}
use Rattle.std.specs.List.{list_all, list_any}
use Rattle.std.specs.Option.{option_map, option_map_or, option_or}
use Rattle.std.specs.Cmp.{IsTotalOrder}
use Rattle.std.specs.declared.cmp.Ordering.TheVariants.{Less, Equal, Greater}
use Rattle.std.specs.Ordering.{is_gt, is_lt, ordering_reverse}
use Rattle.std.specs.Str.{bytes_eq}
use Rattle.std.proofs.lemmas.Bool.{true≢false, false_from_ne_true, and_parts, or_parts}
use Rattle.std.proofs.lemmas.Cmp.{tied_itself}
use Rattle.std.proofs.lemmas.List.{append_assoc, append-nil}
use Rattle.std.proofs.lemmas.List.Folds.{find-append}
use Rattle.std.proofs.lemmas.Slice.Eq.{bytes_eq-Decides}
use Rattle.hal_base.specs.declared.place.Ilk.{Ilk}
use Rattle.hal_schema.specs.declared.schema.Schema.{Schema}
use Rattle.hal_schema.specs.declared.row.Row.{Row}
use Rattle.hal_schema.specs.Forest.{all_pairs, is_forest}
use Rattle.hal_schema.specs.Paths.{path_with, path_after, with_paths}
use Rattle.hal_schema.specs.Roots.{root_cmp}
use Rattle.call_text.specs.declared.line.Ssa.{Ssa}
use Rattle.position_state.specs.declared.session.Anchor.{Anchor}
use Rattle.position_state.specs.declared.session.Anchor.TheVariants.{Front, At}
use Rattle.position_state.specs.declared.spot.Spot.{Spot}
use Rattle.position_state.specs.View.{is_at, is_place_of, root_named, same_place, behind}
use Rattle.position_state.specs.Looks.{WalkView, found_at, tells_forest}
use Rattle.dli_calls.specs.Meets.{meets, on_paths}
use Rattle.dli_calls.specs.Gets.{OnPath, is_below_parent}
use Rattle.view_laws.specs.Views.{RecordsStandTogether, RootsAreKeyed, RootsRise, TypesGoDown, goes_down, in_root_order, is_keyed, stand_together}
use Rattle.call_gets.specs.Below.{IsInRecord, in_record, record_cmp}
use Rattle.call_gets.specs.Scan.{IsFound, level_at, met_below, path_of, plain_view}
use Rattle.call_gets.proofs.Finding.{paths_are}
use Rattle.call_gets.proofs.Looking.{forest_at}
use Rattle.call_gets.proofs.Parting.{along_none, parted, path_join}
use Rattle.call_gets.proofs.Rising.{Stacked, all_behind, is_later, is_own, later_past, not_before, not_behind, past_record, placed_in, record_parts}
use Rattle.call_gets.proofs.Rooted.{is_root}
use Rattle.call_gets.proofs.Routing.{routed}
use Rattle.call_gets.proofs.Skipping.{level, all_on}
use Rattle.call_gets.proofs.Stepping.{Differ}
use Rattle.call_gets.proofs.Within.{AnyParts, any_parts, found_of, gone}

-- ---- the element at a place

pub at_found : (view : List Spot) (parent : Anchor) (z : Spot) → is_at parent z ≡ true → IsFound view z → found_at parent view ≡ Some z
at_found view Front z h f = by z.at h f
  where
    by : (a : Anchor) → same_place Front a ≡ true → found_at a view ≡ Some z → found_at Front view ≡ Some z
    by Front k e = e
    by (At n r e) k f = absurd (let no : ⊥ = cc in no)
at_found view (At n r e) z h f = found_of view (At n r e) z h f

-- among a part of the view none at the place passes what the element that is found there fails
not_at : (view a ys b : List Spot) (parent : Anchor) (q : Spot) (ok : Spot → Bool) → Differ view → view ≡ a ++ (ys ++ b) → found_at parent view ≡ Some q → ok q ≡ false → list_any (λ y. is_at parent y && ok y) ys ≡ false
not_at view a ys b parent q ok d e f h = false_from_ne_true (list_any (λ y. is_at parent y && ok y) ys) (λ t. by (any_parts (λ y. is_at parent y && ok y) ys t))
  where
    by : AnyParts (λ y. is_at parent y && ok y) ys → ⊥
    by p =
        let split : view ≡ (a ++ p.front) ++ p.one ∷ (p.rest ++ b) =
        e ∙ ap (λ (zs : List Spot). a ++ (zs ++ b)) p.is ∙ ap (λ (zs : List Spot). a ++ zs) (append_assoc p.front (p.one ∷ p.rest) b) ∙ sym (append_assoc a p.front (p.one ∷ (p.rest ++ b))) in
        let m = and_parts (is_at parent p.one) (ok p.one) p.passes in
        let same : Some p.one ≡ Some q = sym (at_found view parent p.one m.0 (d (a ++ p.front) (p.rest ++ b) p.one split).found) ∙ f in
        let one : p.one ≡ q = cc in
        true≢false (sym m.1 ∙ ap ok one ∙ h)

none_there : (view a ys b : List Spot) (parent : Anchor) → Differ view → view ≡ a ++ (ys ++ b) → found_at parent view ≡ None → list_any (is_at parent) ys ≡ false
none_there view a ys b parent d e f = false_from_ne_true (list_any (is_at parent) ys) (λ t. by (any_parts (is_at parent) ys t))
  where
    by : AnyParts (is_at parent) ys → ⊥
    by p =
        let split : view ≡ (a ++ p.front) ++ p.one ∷ (p.rest ++ b) =
        e ∙ ap (λ (zs : List Spot). a ++ (zs ++ b)) p.is ∙ ap (λ (zs : List Spot). a ++ zs) (append_assoc p.front (p.one ∷ p.rest) b) ∙ sym (append_assoc a p.front (p.one ∷ (p.rest ++ b))) in
        let same : Some p.one ≡ None = sym (at_found view parent p.one p.passes (d (a ++ p.front) (p.rest ++ b) p.one split).found) ∙ f in
        let none : ⊥ = cc in none

both : (test ok : Spot → Bool) (ys : List Spot) → list_all ok ys ≡ true → list_any test ys ≡ list_any (λ y. test y && ok y) ys
both test ok [] h = refl
both test ok (y ∷ ys) h =
    let a = and_parts (ok y) (list_all ok ys) h in
    ap (λ b. b || list_any test ys) (by (test y) (ok y) a.0) ∙ ap (λ b. (test y && ok y) || b) (both test ok ys a.1)
  where
    by : (t o : Bool) → o ≡ true → t ≡ (t && o)
    by true true h = refl
    by true false h = absurd (let no : ⊥ = cc in no)
    by false o h = refl

no_find : (test : Spot → Bool) (xs : List Spot) → list_any test xs ≡ false → find test xs ≡ None
no_find test [] h = refl
no_find test (x ∷ xs) h =
    let a = or_parts (test x) (list_any test xs) h in
    ap (λ b. cond b (Some x) (find test xs)) a.0 ∙ no_find test xs a.1

found_is : (view : List Spot) (parent : Anchor) (q : Spot) → found_at parent view ≡ Some q → find (is_at parent) view ≡ Some q
found_is view Front q e = absurd (let no : ⊥ = cc in no)
found_is view (At n r e) q h = h

or_later : (o p : Option Spot) → o ≡ None → option_or o p ≡ p
or_later None p e = refl
or_later (Some x) p e = absurd (let no : ⊥ = cc in no)

no_level : (path : List Spot) (parent : Anchor) → list_any (is_at parent) path ≡ false → level_at path parent ≡ None
no_level path parent h = ap (option_map (λ (s : Spot). s.level)) (no_find (is_at parent) path h)

-- nothing is below a place where nothing is found
pub below_nothing : (schema : Schema) (view : List Spot) (ssas : List Ssa) (at parent : Anchor) → Differ view → is_place_of view at ≡ true → found_at parent view ≡ None → None ≡ met_below schema ssas at parent view
below_nothing schema view ssas at parent d h f =
    let p = parted view at d h in
    let low : list_any (is_at parent) p.front ≡ false = none_there view [] p.front (behind at view) parent d p.is f in
    let high : list_any (is_at parent) (behind at view) ≡ false = none_there view p.front (behind at view) [] parent d (p.is ∙ ap (λ (ys : List Spot). p.front ++ ys) (sym (append-nil (behind at view)))) f in
    let path : list_any (is_at parent) (path_of at view) ≡ false = ap (list_any (is_at parent)) p.path ∙ along_none (is_at parent) [] p.front refl low in
    sym (ap (λ (ps : List OnPath). find (meets schema None view ssas) (filter (is_below_parent (Some parent)) ps)) (paths_are view at d h)
    ∙ ap (find (meets schema None view ssas)) (gone parent (path_of at view) (behind at view) path high))

-- ---- a view in the root order

pub record Ordered (schema : Schema) (view : List Spot) : Type 0 where
  pub total : IsTotalOrder (root_cmp schema)
  pub keyed : list_all (is_keyed schema.types) view ≡ true
  pub together : stand_together [] view ≡ true
  pub order : all_pairs (in_root_order schema) view ≡ true
  pub down : list_all (λ (p : OnPath). goes_down schema.types None p.0) (on_paths view) ≡ true

pub ordered : RootsAreKeyed → RootsRise → RecordsStandTogether → TypesGoDown → ((s : Schema) → IsTotalOrder (root_cmp s)) → (a : WalkView) (schema : Schema) (rows : List Row) → IsTrue (tells_forest a) → a.schema ≡ schema → a.forest ≡ Some rows
    → Ordered schema (plain_view schema rows)
ordered keyed rise together down total a schema rows told so e =
    let forest : is_forest schema rows ≡ true = ap (λ (s : Schema). is_forest s rows) (sym so) ∙ forest_at a rows told e in
    record { total = total schema; keyed = keyed schema rows forest; together = together schema rows forest; order = rise schema rows forest; down = down schema rows forest }

root_first : (schema : Schema) (x : Spot) (xs : List Spot) → list_all (λ (p : OnPath). goes_down schema.types None p.0) (on_paths (x ∷ xs)) ≡ true → is_root x ≡ true
root_first schema x xs h =
    let goes : List Spot → Bool = goes_down schema.types None in
    let a = and_parts (goes (x ∷ [])) (all_on goes (with_paths level (x ∷ []) xs)) h in
    (and_parts (x.code == 1) true a.0).0

-- the sides of a place: the elements up to it, and those behind it
pub record Sides (schema : Schema) (view : List Spot) (root : List ℕ) (at : Anchor) : Type 0 where
  pub front : List Spot
  pub is : view ≡ front ++ behind at view
  pub path : path_of at view ≡ path_after level [] front
  pub low : list_all (not_behind schema root) front ≡ true
  pub own : list_all (is_own root) (path_after level [] front) ≡ true
  pub goes : Stacked schema root (behind at view)

pub sides : (schema : Schema) (view : List Spot) (name : Ilk) (root : List ℕ) (entry : Option (List ℕ)) → Differ view → Ordered schema view → is_place_of view (At name root entry) ≡ true → Sides schema view root (At name root entry)
sides schema view name root entry d o h = by (found_at at view) refl
  where
    at : Anchor
    at = At name root entry

    by : (f : Option Spot) → found_at at view ≡ f → Sides schema view root at
    by None e = absurd (let no : false ≡ true = ap (λ o. option_map_or (λ (s : Spot). bytes_eq root (root_named s.at)) o false) (sym e) ∙ h in let none : ⊥ = cc in none)
    by (Some s) e =
        let r = routed view at s d e in
        let named : root ≡ root_named s.at = (bytes_eq-Decides root (root_named s.at)).0 (ap (λ o. option_map_or (λ (s : Spot). bytes_eq root (root_named s.at)) o false) (sym e) ∙ h) in
        let split : view ≡ r.front ++ s ∷ behind at view = r.split in
        let p = placed_in schema o.total r.front (behind at view) s (subst (λ (ys : List Spot). list_all (is_keyed schema.types) ys ≡ true) split o.keyed) (subst (λ (ys : List Spot). stand_together [] ys ≡ true) split o.together)
        (subst (λ (ys : List Spot). all_pairs (in_root_order schema) ys ≡ true) split o.order)
        (λ x xs k. root_first schema x xs (subst (λ (ys : List Spot). list_all (λ (p : OnPath). goes_down schema.types None p.0) (on_paths ys) ≡ true) (split ∙ k) o.down)) in
        record {
          front = r.front ++ s ∷ [];
          is = split ∙ sym (append_assoc r.front (s ∷ []) (behind at view));
          path = r.path ∙ ap (λ (ys : List Spot). path_with level (path_after level [] ys) s) r.precedes ∙ sym (path_join [] r.front (s ∷ []));
          low = ap (λ key. list_all (not_behind schema key) (r.front ++ s ∷ [])) named ∙ p.low;
          own = ap (λ key. list_all (is_own key) (path_after level [] (r.front ++ s ∷ []))) named ∙ p.own;
          goes = subst (λ key. Stacked schema key (behind at view)) (sym named) p.goes;
        }

-- ---- the parent's record is a later one

pub record Ahead (view : List Spot) (at parent : Anchor) (q : Spot) : Type 0 where
  pub apart : level_at (path_of at view) parent ≡ None
  pub later : Some q ≡ find (is_at parent) (behind at view)

ahead_of : (view front : List Spot) (at parent : Anchor) (q : Spot) → view ≡ front ++ behind at view → path_of at view ≡ path_after level [] front → found_at parent view ≡ Some q → list_any (is_at parent) front ≡ false → Ahead view at parent q
ahead_of view front at parent q e p f low = record {
  apart = no_level (path_of at view) parent (ap (list_any (is_at parent)) p ∙ along_none (is_at parent) [] front refl low);
  later = sym (found_is view parent q f) ∙ ap (find (is_at parent)) e ∙ find-append (is_at parent) front (behind at view)
      ∙ or_later (find (is_at parent) front) (find (is_at parent) (behind at view)) (no_find (is_at parent) front low);
}

turned : (schema : Schema) → IsTotalOrder (root_cmp schema) → (a b : List ℕ) → root_cmp schema a b ≡ Less → is_gt (root_cmp schema b a) ≡ true
turned schema o a b e = ap is_gt (o.antisymm b a ∙ ap ordering_reverse e)

pub ahead : (schema : Schema) (view : List Spot) (at parent : Anchor) (q : Spot) → Differ view → Ordered schema view → is_place_of view at ≡ true → found_at parent view ≡ Some q → record_cmp schema at q ≡ Less → Ahead view at parent q
ahead schema view Front parent q d o h f e = ahead_of view [] Front parent q refl refl f refl
ahead schema view (At name root entry) parent q d o h f e =
    let s = sides schema view name root entry d o h in
    let off : not_behind schema root q ≡ false = ap (λ b. not b) (turned schema o.total root (root_named q.at) e) in
    ahead_of view s.front (At name root entry) parent q s.is s.path f
    (both (is_at parent) (not_behind schema root) s.front s.low ∙ not_at view [] s.front (behind (At name root entry) view) parent q (not_behind schema root) d s.is f off)

-- ---- it is an earlier one

pub behind_all : (schema : Schema) (view : List Spot) (ssas : List Ssa) (at parent : Anchor) (q : Spot) → Differ view → Ordered schema view → is_place_of view at ≡ true → found_at parent view ≡ Some q → record_cmp schema at q ≡ Greater
    → None ≡ met_below schema ssas at parent view
behind_all schema view ssas Front parent q d o h f e = absurd (let no : ⊥ = cc in no)
behind_all schema view ssas (At name root entry) parent q d o h f e =
    let at : Anchor = At name root entry in
    let s = sides schema view name root entry d o h in
    let test : Spot → Bool = is_at parent in
    let far : not_before schema root q ≡ false = ap (λ r. not (is_gt r)) e in
    let other : is_own root q ≡ false =
    false_from_ne_true (is_own root q) (λ t. let same : Greater ≡ Equal = sym e ∙ ap (root_cmp schema root) ((bytes_eq-Decides (root_named q.at) root).0 t) ∙ tied_itself o.total root in let none : ⊥ = cc in none) in
    let high : list_any test (behind at view) ≡ false =
    both test (not_before schema root) (behind at view) (all_behind schema o.total root (behind at view) s.goes)
    ∙ not_at view s.front (behind at view) [] parent q (not_before schema root) d (s.is ∙ ap (λ (ys : List Spot). s.front ++ ys) (sym (append-nil (behind at view)))) f far in
    let path : list_any test (path_of at view) ≡ false =
    ap (list_any test) s.path ∙ both test (is_own root) (path_after level [] s.front) s.own
    ∙ along_none (λ y. test y && is_own root y) [] s.front refl (not_at view [] s.front (behind at view) parent q (is_own root) d s.is f other) in
    sym (ap (λ (ps : List OnPath). find (meets schema None view ssas) (filter (is_below_parent (Some parent)) ps)) (paths_are view at d h)
    ∙ ap (find (meets schema None view ssas)) (gone parent (path_of at view) (behind at view) path high))

-- ---- it is the same

or_first : (o : Option Spot) → option_or o None ≡ o
or_first None = refl
or_first (Some x) = refl

pub in_one : (schema : Schema) (view : List Spot) (at parent : Anchor) (q : Spot) → Differ view → Ordered schema view → is_place_of view at ≡ true → found_at parent view ≡ Some q → record_cmp schema at q ≡ Equal → IsInRecord view at parent
in_one schema view Front parent q d o h f e = absurd (let no : ⊥ = cc in no)
in_one schema view (At name root entry) parent q d o h f e =
    let at : Anchor = At name root entry in
    let s = sides schema view name root entry d o h in
    let ys : List Spot = behind at view in
    let off : is_later schema root q ≡ false = ap is_lt e in
    let none : list_any (is_at parent) (past_record ys) ≡ false =
    both (is_at parent) (is_later schema root) (past_record ys) (later_past schema o.total root ys s.goes)
    ∙ not_at view (s.front ++ in_record ys) (past_record ys) [] parent q (is_later schema root) d
    (s.is ∙ ap (λ (zs : List Spot). s.front ++ zs) (record_parts ys ∙ ap (λ (zs : List Spot). in_record ys ++ zs) (sym (append-nil (past_record ys)))) ∙ sym (append_assoc s.front (in_record ys) (past_record ys ++ []))) f off in
    ap (find (is_at parent)) (record_parts ys) ∙ find-append (is_at parent) (in_record ys) (past_record ys)
    ∙ ap (option_or (find (is_at parent) (in_record ys))) (no_find (is_at parent) (past_record ys) none) ∙ or_first (find (is_at parent) (in_record ys))
