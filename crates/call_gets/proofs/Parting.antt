-- The view parted at a place and at a later one: what is below the later one is what is deeper behind it.
use Rattle.std.proofs.Common.{◌≡◌, ℕ, ◌==◌, Bool, true, false, not, cond, ◌&&◌, ◌||◌, List, [], ◌∷◌, ◌++◌, Option, None, Some, refl, sym, ap, subst, ◌∙◌}
use Rattle.std.specs.Prelude.{filter, find, All}
use Rattle.std.specs.List.{list_all, list_any}
use Rattle.std.specs.Option.{option_map, option_map_or}
use Rattle.std.specs.Str.{bytes_eq}
use Rattle.std.proofs.lemmas.Bool.{true≢false, false_from_ne_true, and_from, or_parts, or_from, or_left, or_right, eq-eqb}
use Rattle.std.proofs.lemmas.List.{append_assoc}
use Rattle.std.proofs.lemmas.List.Elements.{All-head, All-tail, filter-append}
use Rattle.std.proofs.lemmas.List.Folds.{list_any-append, list_all-append}
use Rattle.hal_schema.specs.declared.schema.Schema.{Schema}
use Rattle.hal_schema.specs.Paths.{path_with, path_after, with_paths}
use Rattle.call_text.specs.declared.line.Ssa.{Ssa}
use Rattle.position_state.specs.declared.session.Anchor.{Anchor}
use Rattle.position_state.specs.declared.session.Anchor.TheVariants.{Front, At}
use Rattle.position_state.specs.declared.spot.Spot.{Spot}
use Rattle.position_state.specs.View.{is_at, is_place_of, root_named, behind}
use Rattle.position_state.specs.Looks.{found_at}
use Rattle.dli_calls.specs.Meets.{meets}
use Rattle.dli_calls.specs.Gets.{OnPath, is_below_parent}
use Rattle.view_laws.specs.Views.{IsInItsPlace}
use Rattle.call_gets.specs.Scan.{IsFound, first_inside, level_at, met_behind, met_below, path_of}
use Rattle.call_gets.proofs.Stepping.{Differ, ends_any}
use Rattle.call_gets.proofs.Skipping.{level, kept}
use Rattle.call_gets.proofs.Routing.{routed}
use Rattle.call_gets.proofs.Finding.{paths_are}
use Rattle.call_gets.proofs.Within.{of_level, within, gone, levels_at, along_any, none_behind, none_fails, same_as, any_agree}

-- ---- paths along two lists

pub path_join : (path xs ys : List Spot) → path_after level path (xs ++ ys) ≡ path_after level (path_after level path xs) ys
path_join path [] ys = refl
path_join path (x ∷ xs) ys = path_join (path_with level path x) xs ys

with_join : (path xs ys : List Spot) → with_paths level path (xs ++ ys) ≡ with_paths level path xs ++ with_paths level (path_after level path xs) ys
with_join path [] ys = refl
with_join path (x ∷ xs) ys = ap (λ (ps : List OnPath). (path_with level path x, x) ∷ ps) (with_join (path_with level path x) xs ys)

pub along_none : (test : Spot → Bool) (path xs : List Spot) → list_any test path ≡ false → list_any test xs ≡ false → list_any test (path_after level path xs) ≡ false
along_none test path xs a b = false_from_ne_true (list_any test (path_after level path xs)) (λ t. true≢false (sym (along_any test path xs t) ∙ or_from (list_any test path) (list_any test xs) a b))

-- ---- tests along lists

pub find_none : (test : Spot → Bool) (xs : List Spot) → find test xs ≡ None → list_any test xs ≡ false
find_none test [] e = refl
find_none test (x ∷ xs) e = by (test x) (find_none test xs) e
  where
    by : (b : Bool) → (find test xs ≡ None → list_any test xs ≡ false) → cond b (Some x) (find test xs) ≡ None → (b || list_any test xs) ≡ false
    by true rest k = absurd (let no : ⊥ = cc in no)
    by false rest k = rest k

none_of : (o : Option Spot) → option_map (λ (s : Spot). s.level) o ≡ None → o ≡ None
none_of None e = refl
none_of (Some s) e = absurd (let no : ⊥ = cc in no)

none_level : (test : Spot → Bool) (m : ℕ) (xs : List Spot) → list_any test xs ≡ false → list_all (of_level test m) xs ≡ true
none_level test m [] h = refl
none_level test m (x ∷ xs) h =
    let a = or_parts (test x) (list_any test xs) h in
    and_from (of_level test m x) (list_all (of_level test m) xs) (ap (λ b. not b || (x.level == m)) a.0) (none_level test m xs a.1)

record FirstParts (test : Spot → Bool) (xs : List Spot) (s : Spot) : Type 0 where
  mid : List Spot
  rest : List Spot
  is : xs ≡ mid ++ s ∷ rest
  none : list_any test mid ≡ false
  on : test s ≡ true

first_parts : (test : Spot → Bool) (xs : List Spot) (s : Spot) → find test xs ≡ Some s → FirstParts test xs s
first_parts test [] s e = absurd (let no : ⊥ = cc in no)
first_parts test (x ∷ xs) s e = by (test x) refl (first_parts test xs s) e
  where
    by : (b : Bool) → test x ≡ b → (find test xs ≡ Some s → FirstParts test xs s) → cond b (Some x) (find test xs) ≡ Some s → FirstParts test (x ∷ xs) s
    by true h rest k =
        let same : x ≡ s = cc in
        record { mid = []; rest = xs; is = ap (λ (t : Spot). t ∷ xs) same; none = refl; on = ap test (sym same) ∙ h }
    by false h rest k =
        let r = rest k in
        record { mid = x ∷ r.mid; rest = r.rest; is = ap (λ (ys : List Spot). x ∷ ys) r.is; none = or_from (test x) (list_any test r.mid) h r.none; on = r.on }

-- the element of a path that is at a place
pub record OnLevel (view : List Spot) (at : Anchor) (path : List Spot) (m : ℕ) : Type 0 where
  pub one : Spot
  pub on : is_at at one ≡ true
  pub found : IsFound view one
  pub any : list_any (is_at at) path ≡ true
  pub same : one.level ≡ m

pub on_level : (view : List Spot) (at : Anchor) (path : List Spot) (m : ℕ) → All (IsFound view) path → level_at path at ≡ Some m → OnLevel view at path m
on_level view at [] m all e = absurd (let no : ⊥ = cc in no)
on_level view at (z ∷ zs) m all e = by (is_at at z) refl (on_level view at zs m (All-tail (IsFound view) z zs all)) e
  where
    by : (b : Bool) → is_at at z ≡ b → (level_at zs at ≡ Some m → OnLevel view at zs m) → option_map (λ (s : Spot). s.level) (cond b (Some z) (find (is_at at) zs)) ≡ Some m → OnLevel view at (z ∷ zs) m
    by true h rest k =
        let same : z.level ≡ m = cc in
        record { one = z; on = h; found = All-head (IsFound view) z zs all; any = ap (λ b. b || list_any (is_at at) zs) h; same = same }
    by false h rest k =
        let r = rest k in
        record { one = r.one; on = r.on; found = r.found; any = ap (λ b. b || list_any (is_at at) zs) h ∙ r.any; same = r.same }

-- ---- the view parted at a place

pub record Parted (view : List Spot) (at : Anchor) : Type 0 where
  pub front : List Spot
  pub is : view ≡ front ++ behind at view
  pub path : path_of at view ≡ path_after level [] front

pub parted : (view : List Spot) (at : Anchor) → Differ view → is_place_of view at ≡ true → Parted view at
parted view Front d h = record { front = []; is = refl; path = refl }
parted view (At name root entry) d h = by (found_at (At name root entry) view) refl
  where
    by : (o : Option Spot) → found_at (At name root entry) view ≡ o → Parted view (At name root entry)
    by None e = absurd (let no : false ≡ true = ap (λ o. option_map_or (λ (s : Spot). bytes_eq root (root_named s.at)) o false) (sym e) ∙ h in let none : ⊥ = cc in none)
    by (Some s) e =
        let r = routed view (At name root entry) s d e in
        record {
          front = r.front ++ s ∷ [];
          is = r.split ∙ sym (append_assoc r.front (s ∷ []) (behind (At name root entry) view));
          path = r.path ∙ ap (λ (ys : List Spot). path_with level (path_after level [] ys) s) r.precedes ∙ sym (path_join [] r.front (s ∷ []));
        }

-- where the parent is on the path to the place, what is below it behind the place is what is deeper there
pub below_on : (schema : Schema) (view : List Spot) (ssas : List Ssa) (at parent : Anchor) (m : ℕ) → Differ view → is_place_of view at ≡ true → All (IsFound view) (path_of at view) → level_at (path_of at view) parent ≡ Some m
    → met_behind schema ssas (Some m) at view ≡ met_below schema ssas at parent view
below_on schema view ssas at parent m d h all e =
    let test : OnPath → Bool = meets schema None view ssas in
    let path : List Spot = path_of at view in
    let p = parted view at d h in
    let o = on_level view parent path m all e in
    let levels : list_all (of_level (is_at parent) m) path ≡ true = subst (λ l. list_all (of_level (is_at parent) l) path ≡ true) o.same (levels_at view parent o.one path o.on o.found all) in
    let ahead : list_any (is_at parent) p.front ≡ true = along_any (is_at parent) [] p.front (ap (list_any (is_at parent)) (sym p.path) ∙ o.any) in
    sym (within parent test m path (behind at view) o.any levels (none_behind view parent p.front (behind at view) d p.is ahead))
    ∙ ap (λ (ps : List OnPath). find test (filter (is_below_parent (Some parent)) ps)) (sym (paths_are view at d h))

-- where it is neither there nor behind, nothing is below it
pub below_none : (schema : Schema) (view : List Spot) (ssas : List Ssa) (at parent : Anchor) → Differ view → is_place_of view at ≡ true → level_at (path_of at view) parent ≡ None → None ≡ find (is_at parent) (behind at view)
    → None ≡ met_below schema ssas at parent view
below_none schema view ssas at parent d h off e =
    let test : OnPath → Bool = meets schema None view ssas in
    let path : List Spot = path_of at view in
    sym (ap (λ (ps : List OnPath). find test (filter (is_below_parent (Some parent)) ps)) (paths_are view at d h)
    ∙ ap (find test) (gone parent path (behind at view) (find_none (is_at parent) path (none_of (find (is_at parent) path) off)) (find_none (is_at parent) (behind at view) (sym e))))

-- ---- a later place

pub record Later (view : List Spot) (at parent : Anchor) (q : Spot) : Type 0 where
  pub mid : List Spot
  pub rest : List Spot
  pub is : behind at view ≡ mid ++ q ∷ rest
  pub none : list_any (is_at parent) mid ≡ false
  pub on : is_at parent q ≡ true
  pub placed : (front : List Spot) → view ≡ front ++ behind at view → IsInItsPlace view (front ++ mid) q rest

pub later_parts : (view : List Spot) (at parent : Anchor) (q : Spot) → Differ view → Some q ≡ find (is_at parent) (behind at view) → Later view at parent q
later_parts view at parent q d e =
    let f = first_parts (is_at parent) (behind at view) q (sym e) in
    record {
      mid = f.mid;
      rest = f.rest;
      is = f.is;
      none = f.none;
      on = f.on;
      placed = λ front split. d (front ++ f.mid) f.rest q (split ∙ ap (λ (ys : List Spot). front ++ ys) f.is ∙ sym (append_assoc front f.mid (q ∷ f.rest)));
    }

pub later_stands : (view : List Spot) (at parent : Anchor) (q : Spot) → Differ view → Some q ≡ find (is_at parent) (behind at view) → is_place_of view q.at ≡ true
later_stands view at parent q d e = let ends = ends_any view at in ((later_parts view at parent q d e).placed ends.front ends.is).place

-- what of the view behind one place is below a later one is what is behind the later one and below it
below_behind : (parent : Anchor) (path mid rest : List Spot) (q : Spot) → list_any (is_at parent) path ≡ false → list_any (is_at parent) mid ≡ false → is_at parent q ≡ true → list_any (is_at parent) (path_with level (path_after level path mid) q) ≡ true
    → filter (is_below_parent (Some parent)) (with_paths level path (mid ++ q ∷ rest)) ≡ filter (is_below_parent (Some parent)) (with_paths level (path_with level (path_after level path mid) q) rest)
below_behind parent path mid rest q off none on any =
    let below : OnPath → Bool = is_below_parent (Some parent) in
    let next : List Spot = path_with level (path_after level path mid) q in
    let more : List OnPath = filter below (with_paths level next rest) in
    ap (filter below) (with_join path mid (q ∷ rest))
    ∙ filter-append below (with_paths level path mid) ((next, q) ∷ with_paths level next rest)
    ∙ ap (λ (ps : List OnPath). ps ++ filter below ((next, q) ∷ with_paths level next rest)) (gone parent path mid off none)
    ∙ ap (λ b. cond (b && not (is_at parent q)) ((next, q) ∷ more) more) any
    ∙ ap (λ b. cond (not b) ((next, q) ∷ more) more) on

-- where the parent stands behind the place, what is below it is what is deeper behind the parent
pub below_later : (schema : Schema) (view : List Spot) (ssas : List Ssa) (at parent : Anchor) (q : Spot) → Differ view → is_place_of view at ≡ true → level_at (path_of at view) parent ≡ None → Some q ≡ find (is_at parent) (behind at view)
    → met_behind schema ssas (Some q.level) q.at view ≡ met_below schema ssas at parent view
below_later schema view ssas at parent q d h off e =
    let test : OnPath → Bool = meets schema None view ssas in
    let below : OnPath → Bool = is_below_parent (Some parent) in
    let path : List Spot = path_of at view in
    let p = parted view at d h in
    let l = later_parts view at parent q d e in
    let w = l.placed p.front p.is in
    let r = routed view q.at q d w.found in
    let high : List Spot = path_after level path l.mid in
    let next : List Spot = path_with level high q in
    let none : list_any (is_at parent) path ≡ false = find_none (is_at parent) path (none_of (find (is_at parent) path) off) in
    let clear : list_any (is_at parent) (kept q.level high) ≡ false = none_fails (is_at parent) q.level high (along_none (is_at parent) path l.mid none l.none) in
    let any : list_any (is_at parent) next ≡ true =
    list_any-append (is_at parent) (kept q.level high) (q ∷ []) ∙ or_right (list_any (is_at parent) (kept q.level high)) (is_at parent q || false) (or_left (is_at parent q) false l.on) in
    let levels : list_all (of_level (is_at parent) q.level) next ≡ true =
    list_all-append (of_level (is_at parent) q.level) (kept q.level high) (q ∷ [])
    ∙ and_from (list_all (of_level (is_at parent) q.level) (kept q.level high)) (of_level (is_at parent) q.level q && true) (none_level (is_at parent) q.level (kept q.level high) clear)
    (and_from (of_level (is_at parent) q.level q) true (or_right (not (is_at parent q)) (q.level == q.level) (eq-eqb q.level q.level refl)) refl) in
    let last : list_any (is_at parent) l.rest ≡ false = any_agree (is_at parent) (is_at q.at) (λ x. same_as parent q.at x.at l.on) l.rest ∙ w.alone in
    let there : path_of q.at view ≡ next =
    r.path ∙ ap (λ (ys : List Spot). path_with level (path_after level [] ys) q) w.precedes
    ∙ ap (λ (ys : List Spot). path_with level ys q) (path_join [] p.front l.mid ∙ ap (λ (ys : List Spot). path_after level ys l.mid) (sym p.path)) in
    ap (λ (ys : List Spot). first_inside (Some q.level) test (with_paths level ys (behind q.at view))) there
    ∙ ap (λ (ys : List Spot). first_inside (Some q.level) test (with_paths level next ys)) w.follows
    ∙ sym (within parent test q.level next l.rest any levels last)
    ∙ ap (find test) (sym (below_behind parent path l.mid l.rest q none l.none l.on any) ∙ ap (λ (ys : List Spot). filter below (with_paths level path ys)) (sym l.is))
    ∙ ap (λ (ps : List OnPath). find test (filter below ps)) (sym (paths_are view at d h))
