-- In the list of trees of records parents stand first: each path by levels is one by parents.
use Rattle.std.proofs.Common.{◌≡◌, ℕ, suc, ◌+◌, ◌≤◌, ◌==◌, nat_lt, Bool, true, false, cond, List, [], ◌∷◌, ◌++◌, map, Option, None, Some, option_and_then, refl, sym, ap, subst, ◌∙◌, arith}
use Rattle.std.specs.Prelude.{filter}
use Rattle.std.specs.List.{list_all, enumerate_from, slice_get, AllByRecursion}
use Rattle.std.specs.Option.{option_map_or}
use Rattle.std.proofs.lemmas.Bool.{and_parts, and_from, eq-eqb, ltb-true, leb-true, lt-ltb, le-ltb, false≢true}
use Rattle.std.proofs.lemmas.List.{append-nil}
use Rattle.std.proofs.lemmas.List.Elements.{filter-append}
use Rattle.std.proofs.lemmas.List.Folds.{list_all-append}
use Rattle.hal_base.specs.declared.place.Ilk.{Ilk}
use Rattle.hal_schema.specs.declared.row.Row.{Row}
use Rattle.hal_schema.specs.declared.schema.Schema.{Schema}
use Rattle.hal_schema.specs.declared.schema.SegType.{SegType}
use Rattle.hal_schema.specs.Facts.{SchemasAreKept}
use Rattle.hal_schema.specs.SegType.{type_of, parent_code, level_of, is_child}
use Rattle.hal_schema.specs.Row.{same_name, row_level}
use Rattle.hal_schema.specs.Paths.{path_with, path_after, with_paths}
use Rattle.hal_schema.specs.Forest.{is_child_of, is_path, rows_are_below_parents}
use Rattle.hal_schema.proofs.RowNames.{name_itself}
use Rattle.forest_laws.proofs.Lists.{all_append, all_weaker, filter_all, all_filtered}
use Rattle.forest_laws.proofs.Carried.{with_append}
use Rattle.record_walk.specs.Tree.{Occurrence, Twins, no_segment, segment, Chains, no_chain, chain, child_codes, are_of, are_chains_of, are_roots}
use Rattle.record_walk.specs.Listing.{Placed, placed, list_of, list_in, rows_of}
use Rattle.record_walk.specs.Parents.{ParentsStandFirst}
use Rattle.record_walk.proofs.Levels.{Deepens, AtLevel, child_is, children_level, typed, is_deep, deep, deep_in, ones, roots_typed, ones_level}
use Rattle.record_walk.proofs.OnLists.{deepens}
use Rattle.record_walk.proofs.ByName.{append_rows}

-- ---- child types

abbrev HaveParent : List SegType → ℕ → List ℕ → Type 0
HaveParent types code codes = AllByRecursion (λ c. parent_code types c ≡ Some code) codes

codes_parents : (types : List SegType) (code n : ℕ) (ts : List SegType) → ((k : ℕ) (t : SegType) → slice_get ts k ≡ Some t → type_of types (n + k) ≡ Some t)
    → HaveParent types code (map (λ (p : ℕ × SegType). p.0) (filter (λ (p : ℕ × SegType). is_child code p.1) (enumerate_from n ts)))
codes_parents types code n [] h = tt
codes_parents types code n (t ∷ ts) h =
    by (is_child code t) refl (codes_parents types code (n + 1) ts (λ k u e. let same : n + 1 + k ≡ n + suc k = omega arith in ap (type_of types) same ∙ h (suc k) u e))
  where
    by : (b : Bool) → is_child code t ≡ b → HaveParent types code (map (λ (p : ℕ × SegType). p.0) (filter (λ (p : ℕ × SegType). is_child code p.1) (enumerate_from (n + 1) ts)))
        → HaveParent types code
        (map (λ (p : ℕ × SegType). p.0) (cond b ((n, t) ∷ filter (λ (p : ℕ × SegType). is_child code p.1) (enumerate_from (n + 1) ts)) (filter (λ (p : ℕ × SegType). is_child code p.1) (enumerate_from (n + 1) ts))))
    by false e all = all
    by true e all =
        let same : n + 0 ≡ n = omega arith in
        let is : type_of types n ≡ Some t = ap (type_of types) (sym same) ∙ h 0 t refl in
        (ap (λ (o : Option SegType). option_and_then (λ u. u.parent) o) is ∙ child_is t.parent code e, all)

children_parents : (types : List SegType) (code : ℕ) → HaveParent types code (child_codes types code)
children_parents types code = codes_parents types code 1 types (λ k t e. let same : 1 + k ≡ suc k = omega arith in ap (type_of types) same ∙ e)

-- ---- paths that are carried along

-- what is of a higher level than n
abbrev higher : (Row → ℕ) → ℕ → List Row → List Row
higher level n path = filter (λ a. nat_lt (level a) n) path

higher_twice : (level : Row → ℕ) (n m : ℕ) (path : List Row) → n ≤ m → higher level n (higher level m path) ≡ higher level n path
higher_twice level n m [] le = refl
higher_twice level n m (x ∷ path) le = by (nat_lt (level x) m) refl (nat_lt (level x) n) refl (higher_twice level n m path le)
  where
    by : (b : Bool) → nat_lt (level x) m ≡ b → (c : Bool) → nat_lt (level x) n ≡ c → higher level n (higher level m path) ≡ higher level n path
        → higher level n (cond b (x ∷ higher level m path) (higher level m path)) ≡ cond c (x ∷ higher level n path) (higher level n path)
    by true e c f rest = ap (λ (d : Bool). cond d (x ∷ higher level n (higher level m path)) (higher level n (higher level m path))) f ∙ ap (λ l. cond c (x ∷ l) l) rest
    by false e true f rest = absurd (false≢true (sym e ∙ lt-ltb (level x) m (let l = ltb-true (level x) n f in omega (arith, l, le))))
    by false e false f rest = rest

-- rows at least so deep leave nothing above
pub no_trace : (types : List SegType) (n : ℕ) (path : List Row) (list : List Placed) → list_all (is_deep types n) list ≡ true → higher (row_level types) n (path_after (row_level types) path (rows_of list)) ≡ higher (row_level types) n path
no_trace types n path [] h = refl
no_trace types n path (p ∷ list) h =
    let level = row_level types in
    let a = and_parts (is_deep types n p) (list_all (is_deep types n) list) h in
    let low : n ≤ level p.row = leb-true n (level p.row) a.0 in
    let off : nat_lt (level p.row) n ≡ false = le-ltb (level p.row) n low in
    no_trace types n (path_with level path p.row) list a.1 ∙ filter-append (λ r. nat_lt (level r) n) (higher level (level p.row) path) (p.row ∷ [])
    ∙ ap (λ (b : Bool). higher level n (higher level (level p.row) path) ++ cond b (p.row ∷ []) []) off ∙ append-nil (higher level n (higher level (level p.row) path)) ∙ higher_twice level n (level p.row) path low

-- ---- a path goes on with a child

path_on : (types : List SegType) (above : Option Row) (xs : List Row) (r row : Row) → is_path types above (xs ++ r ∷ []) ≡ true → is_child_of types (Some r) row ≡ true → is_path types above ((xs ++ r ∷ []) ++ row ∷ []) ≡ true
path_on types above [] r row h child =
    let a = and_parts (is_child_of types above r) true h in
    and_from (is_child_of types above r) (is_path types (Some r) (row ∷ [])) a.0 (and_from (is_child_of types (Some r) row) true child refl)
path_on types above (x ∷ xs) r row h child =
    let a = and_parts (is_child_of types above x) (is_path types (Some x) (xs ++ r ∷ [])) h in
    and_from (is_child_of types above x) (is_path types (Some x) ((xs ++ r ∷ []) ++ row ∷ [])) a.0 (path_on types (Some x) xs r row a.1 child)

-- with what of the path is of a higher level each child of the parent has a path by parents
abbrev Leads : List SegType → ℕ → List Row → Option Row → Type 0
Leads types n path parent = (row : Row) → is_child_of types parent row ≡ true → is_path types None (higher (row_level types) n path ++ row ∷ []) ≡ true

abbrev is_led : List SegType → List Row × Row → Bool
is_led types p = is_path types None p.0

-- rows of these types below a parent of this name are its children
abbrev AreChildren : List SegType → Option Row → Option Ilk → List ℕ → Type 0
AreChildren types parent name codes = AllByRecursion (λ c. (s : Occurrence) → s.code ≡ c → is_child_of types parent (placed name s).row ≡ true) codes

below_children : (types : List SegType) (r : Row) (codes : List ℕ) → HaveParent types r.code codes → AreChildren types (Some r) (Some r.name) codes
below_children types r [] h = tt
below_children types r (c ∷ codes) h = (
  λ s e. and_from (option_map_or (same_name r.name) (Some r.name) false) (option_map_or (λ parent. parent == r.code) (parent_code types s.code) false) (name_itself r.name)
      (ap (λ (n : ℕ). option_map_or (λ parent. parent == r.code) (parent_code types n) false) e ∙ ap (λ (o : Option ℕ). option_map_or (λ parent. parent == r.code) o false) (h.0) ∙ eq-eqb r.code r.code refl),
  below_children types r codes (h.1),
)

-- what a row's path keeps of a path, and the row itself
highs : (types : List SegType) (n : ℕ) (path : List Row) (r : Row) → row_level types r ≡ n → list_all (λ a. nat_lt (row_level types a) (n + 1)) (path_with (row_level types) path r) ≡ true
highs types n path r at =
    let level = row_level types in
    list_all-append (λ a. nat_lt (level a) (n + 1)) (higher level (level r) path) (r ∷ [])
    ∙ and_from (list_all (λ a. nat_lt (level a) (n + 1)) (higher level (level r) path)) (list_all (λ a. nat_lt (level a) (n + 1)) (r ∷ []))
    (all_weaker (λ a. nat_lt (level a) (level r)) (λ a. nat_lt (level a) (n + 1)) (λ a h. let l = ltb-true (level a) (level r) h in lt-ltb (level a) (n + 1) (omega (arith, l, at))) (higher level (level r) path) (all_filtered (λ a. nat_lt (level a) (level r)) path))
    (and_from (nat_lt (level r) (n + 1)) true (lt-ltb (level r) (n + 1) (omega (arith, at))) refl)

shed : (types : List SegType) (n : ℕ) (path : List Row) (r : Row) → row_level types r ≡ n → higher (row_level types) n (path_with (row_level types) path r) ≡ higher (row_level types) n path
shed types n path r at =
    let level = row_level types in
    filter-append (λ a. nat_lt (level a) n) (higher level (level r) path) (r ∷ []) ∙ ap (λ (b : Bool). higher level n (higher level (level r) path) ++ cond b (r ∷ []) []) (le-ltb (level r) n (omega (arith, at)))
    ∙ append-nil (higher level n (higher level (level r) path)) ∙ higher_twice level n (level r) path (omega (arith, at))

mutual
  led : (types : List SegType) → Deepens types → (code : ℕ) (parent : Option Row) (name : Option Ilk) (path : List Row) (twins : Twins) → are_of types code twins ≡ true → ((s : Occurrence) → s.code ≡ code → is_child_of types parent (placed name s).row ≡ true)
      → Leads types (level_of types code) path parent → list_all (is_led types) (with_paths (row_level types) path (rows_of (list_of name twins))) ≡ true
  led types deepens code parent name path no_segment h child leads = refl
  led types deepens code parent name path (segment s below next) h child leads =
      let level = row_level types in
      let t = typed types code s below next h in
      let r : Row = (placed name s).row in
      let under : List Placed = list_in (Some s.name) below in
      let at : level_of types s.code ≡ level_of types code = ap (level_of types) t.code_is in
      let first : List Row = path_with level path r in
      let same : first ≡ higher level (level_of types code) path ++ r ∷ [] = ap (λ (n : ℕ). higher level n path ++ r ∷ []) at in
      let own : is_path types None first ≡ true = subst (λ (l : List Row). is_path types None l ≡ true) (sym same) (leads r (child s t.code_is)) in
      let all_higher : list_all (λ a. nat_lt (level a) (level_of types code + 1)) first ≡ true = highs types (level_of types code) path r at in
      let deeper : Leads types (level_of types code + 1) first (Some r) = λ row c.
      subst (λ (l : List Row). is_path types None (l ++ row ∷ []) ≡ true) (sym (filter_all (λ a. nat_lt (level a) (level_of types code + 1)) first all_higher))
      (path_on types None (higher level (level r) path) r row own c) in
      let lows : list_all (is_deep types (level_of types code)) under ≡ true =
      deep_in types deepens (level_of types code) (level_of types code + 1) (child_codes types code) (children_level types deepens code) (Some s.name) below t.under (omega arith) in
      let after : higher level (level_of types code) (path_after level first (rows_of under)) ≡ higher level (level_of types code) path = no_trace types (level_of types code) first under lows ∙ shed types (level_of types code) path r at in
      let kids = led_in types deepens (level_of types code + 1) (child_codes types code) (children_level types deepens code) (Some r) (Some s.name) first below t.under
      (below_children types r (child_codes types code) (subst (λ (n : ℕ). HaveParent types n (child_codes types code)) (sym t.code_is) (children_parents types code))) deeper in
      let rest = led types deepens code parent name (path_after level first (rows_of under)) next t.later child (λ row c. subst (λ (l : List Row). is_path types None (l ++ row ∷ []) ≡ true) (sym after) (leads row c)) in
      and_from (is_path types None first) (list_all (is_led types) (with_paths level first (rows_of (under ++ list_of name next)))) own
      (ap (λ (l : List Row). list_all (is_led types) (with_paths level first l)) (append_rows under (list_of name next))
      ∙ ap (list_all (is_led types)) (with_append level first (rows_of under) (rows_of (list_of name next)))
      ∙ all_append (is_led types) (with_paths level first (rows_of under)) (with_paths level (path_after level first (rows_of under)) (rows_of (list_of name next))) kids rest)

  led_in : (types : List SegType) → Deepens types → (n : ℕ) (codes : List ℕ) → AtLevel types n codes → (parent : Option Row) (name : Option Ilk) (path : List Row) (chains : Chains) → are_chains_of types codes chains ≡ true → AreChildren types parent name codes
      → Leads types n path parent → list_all (is_led types) (with_paths (row_level types) path (rows_of (list_in name chains))) ≡ true
  led_in types deepens n [] all parent name path no_chain h child leads = refl
  led_in types deepens n [] all parent name path (chain twins more) h child leads = absurd (false≢true h)
  led_in types deepens n (code ∷ codes) all parent name path no_chain h child leads = refl
  led_in types deepens n (code ∷ codes) all parent name path (chain twins more) h child leads =
      let level = row_level types in
      let p = and_parts (are_of types code twins) (are_chains_of types codes more) h in
      let at = all.0 in
      let rows : List Placed = list_of name twins in
      let one = led types deepens code parent name path twins p.0 (child.0) (subst (λ (m : ℕ). Leads types m path parent) (sym at) leads) in
      let after = no_trace types n path rows (deep types deepens n code name twins p.0 (omega (arith, at))) in
      let others = led_in types deepens n codes (all.1) parent name (path_after level path (rows_of rows)) more p.1 (child.1) (λ row c. subst (λ (l : List Row). is_path types None (l ++ row ∷ []) ≡ true) (sym after) (leads row c)) in
      ap (λ (l : List Row). list_all (is_led types) (with_paths level path l)) (append_rows rows (list_in name more)) ∙ ap (list_all (is_led types)) (with_append level path (rows_of rows) (rows_of (list_in name more)))
      ∙ all_append (is_led types) (with_paths level path (rows_of rows)) (with_paths level (path_after level path (rows_of rows)) (rows_of (list_in name more))) one others

root_children : (types : List SegType) (chains : Chains) → AreChildren types None None (ones chains)
unfolding ones
root_children types no_chain = tt
root_children types (chain twins more) = (λ s e. and_from (s.code == 1) true (eq-eqb s.code 1 e) refl, root_children types more)

pub below_parents : SchemasAreKept → (schema : Schema) (trees : Chains) → are_roots schema.types trees ≡ true → rows_are_below_parents schema.types (rows_of (list_in None trees)) ≡ true
below_parents kept schema trees h =
    led_in schema.types (deepens kept schema) (level_of schema.types 1) (ones trees) (ones_level schema.types trees) None None [] trees (roots_typed schema.types trees h) (root_children schema.types trees)
    (λ row c. and_from (is_child_of schema.types None row) true c refl)

pub parents_stand_first : SchemasAreKept → ParentsStandFirst
parents_stand_first kept schema cells firsts trees r = below_parents kept schema trees r.typed
