-- A new row below an element of the view: its parent among the rows, its keys, and that it may be inserted.
use Rattle.std.proofs.Common.{◌≡◌, ℕ, ◌==◌, Bool, true, false, not, cond, ◌&&◌, ◌||◌, List, [], ◌∷◌, ◌++◌, Option, None, Some, refl, sym, ap, ◌∙◌}
use Rattle.std.specs.Prelude.{codes, length, nat_lt, is_some, is_none, find, option_and_then, IfSome}
use Rattle.std.specs.List.{list_all, list_any}
use Rattle.std.specs.Option.{option_map, option_map_or}
use Rattle.std.specs.Str.{bytes_eq}
use Rattle.std.proofs.lemmas.Bool.{and_from, eqb-true, eq-eqb, false_from_ne_true}
use Rattle.std.proofs.lemmas.Slice.Eq.{bytes_eq-Decides}
use Rattle.std.proofs.lemmas.List.{append-nil}
use Rattle.std.proofs.lemmas.List.Concat.{flat_map-append}
use Rattle.std.proofs.lemmas.Option.{same_Some}
use Rattle.hal_base.specs.declared.place.Ilk.{Ilk}
use Rattle.hal_schema.specs.declared.row.Row.{Row}
use Rattle.hal_schema.specs.declared.schema.IndexDef.{IndexDef}
use Rattle.hal_schema.specs.declared.schema.Schema.{Schema}
use Rattle.hal_schema.specs.declared.schema.SegType.{SegType}
use Rattle.hal_schema.specs.Entry.{entries_of, entry_key, is_taken}
use Rattle.hal_schema.specs.Insertion.{enters_freely, has_free_key, has_parent_in, new_path}
use Rattle.hal_schema.specs.Paths.{concatenated_key, path_with, paths_of, with_paths}
use Rattle.hal_schema.specs.Roots.{partition_of}
use Rattle.hal_schema.specs.Row.{is_parent, same_name, row_key, row_level}
use Rattle.hal_schema.specs.SegType.{is_parent_code, type_of}
use Rattle.position_state.specs.declared.session.Anchor.{Anchor}
use Rattle.position_state.specs.declared.session.Anchor.TheVariants.{Front, At}
use Rattle.position_state.specs.declared.spot.Spot.{Spot}
use Rattle.position_state.specs.declared.session.Session.{Session}
use Rattle.position_state.specs.declared.spot.Change.TheVariants.{Insert}
use Rattle.position_state.specs.Lawful.{IsLawful, is_under, names_its_root}
use Rattle.position_state.specs.Looks.{found_at}
use Rattle.position_state.specs.View.{is_at, plain_element, root_key_of, root_named, view_of}
use Rattle.dli_calls.specs.declared.decision.Decision.{Decision}
use Rattle.dli_calls.specs.Changes.{name_at, need_of_insert, no_name}
use Rattle.call_gets.specs.Scan.{IsFound, plain_view}
use Rattle.call_changes.specs.Inserts.{StandsBelow, enters_by, inserted_below, is_high_root, key_below, placed_below, root_below, row_below}
use Rattle.hal_schema.specs.SegType.{key_in}
use Rattle.call_changes.specs.Outcome.{refused_with}
use Rattle.call_changes.proofs.Replacing.{OnPath, and_true, find_map, name_turned}

-- the row of an element of the view, with its path
pub record ParentRow (schema : Schema) (rows : List Row) (spot : Spot) : Type 0 where
  pub p : OnPath
  pub is : spot ≡ plain_element schema.types p.0 p.1
  pub found : find (λ (q : OnPath). same_name q.1.name p.1.name) (paths_of schema.types rows) ≡ Some p

find_as : (test mine : OnPath → Bool) → ((p : OnPath) → test p ≡ mine p) → (ps : List OnPath) → find test ps ≡ find mine ps
find_as test mine same ps = ap (λ (t : OnPath → Bool). find t ps) (λ i p. same p i)

pub parent_row : (schema : Schema) (rows : List Row) (spot : Spot) → IsFound (plain_view schema rows) spot → ParentRow schema rows spot
parent_row schema rows spot f = by spot.at refl f
  where
    elem : OnPath → Spot
    elem p = plain_element schema.types p.0 p.1

    found : (o : Option OnPath) → option_map elem o ≡ Some spot → find (λ (q : OnPath). is_at spot.at (elem q)) (paths_of schema.types rows) ≡ o → ParentRow schema rows spot
    found None e k = absurd (let no : ⊥ = cc in no)
    found (Some p) e k =
        let is : spot ≡ elem p = sym (same_Some (elem p) spot e) in
        record {
          p = p;
          is = is;
          found = sym (find_as (λ (q : OnPath). is_at (elem p).at (elem q)) (λ (q : OnPath). same_name q.1.name p.1.name) (λ q. and_true (same_name p.1.name q.1.name) ∙ name_turned p.1.name q.1.name) (paths_of schema.types rows))
              ∙ ap (λ (s : Spot). find (λ (q : OnPath). is_at s.at (elem q)) (paths_of schema.types rows)) (sym is) ∙ k;
        }

    by : (at : Anchor) → spot.at ≡ at → found_at spot.at (view_of schema None rows) ≡ Some spot → ParentRow schema rows spot
    by Front e h = absurd (let no : None ≡ Some spot = ap (λ (a : Anchor). found_at a (view_of schema None rows)) (sym e) ∙ h in let none : ⊥ = cc in none)
    by (At name root entry) e h =
        found (find (λ (q : OnPath). is_at spot.at (elem q)) (paths_of schema.types rows))
        (sym (find_map (is_at spot.at) (λ (q : OnPath). is_at spot.at (elem q)) elem (λ p. refl) (paths_of schema.types rows))
        ∙ ap (λ (a : Anchor). find (is_at a) (view_of schema None rows)) e ∙ ap (λ (a : Anchor). found_at a (view_of schema None rows)) (sym e) ∙ h) refl

-- a row with this content below this element, under a name
abbrev pub row_named_so : Ilk → ℕ → Option Spot → List ℕ → Row
row_named_so name code parent content = record { name = name; code = code; parent = option_and_then (λ (spot : Spot). name_at spot.at) parent; content = content }

find_none : (ps : List OnPath) → find (λ (q : OnPath). false) ps ≡ None
find_none [] = refl
find_none (p ∷ ps) = find_none ps

new_keys : (schema : Schema) (rows : List Row) (name : Ilk) (code : ℕ) (parent : Option Spot) (content : List ℕ) → IfSome parent (IsFound (plain_view schema rows))
    → concatenated_key schema.types (new_path schema.types rows (row_named_so name code parent content)) ≡ key_below schema.types code parent content
new_keys schema rows name code None content f =
    ap (λ (o : Option OnPath). concatenated_key schema.types (option_map_or (λ (p : OnPath). p.0) o [] ++ row_named_so name code None content ∷ [])) (find_none (paths_of schema.types rows))
    ∙ append-nil (key_in schema.types code content)
new_keys schema rows name code (Some spot) content f =
    let p = parent_row schema rows spot f in
    let new : Row = row_named_so name code (Some spot) content in
    let named : new.parent ≡ Some p.p.1.name = ap (λ (s : Spot). name_at s.at) p.is in
    ap (λ (o : Option Ilk). concatenated_key schema.types (option_map_or (λ (q : OnPath). q.0) (find (λ (q : OnPath). option_map_or (same_name q.1.name) o false) (paths_of schema.types rows)) [] ++ new ∷ [])) named
    ∙ ap (λ (o : Option OnPath). concatenated_key schema.types (option_map_or (λ (q : OnPath). q.0) o [] ++ new ∷ [])) p.found
    ∙ flat_map-append (row_key schema.types) p.p.0 (new ∷ [])
    ∙ ap (λ (keys : List ℕ). concatenated_key schema.types p.p.0 ++ keys) (append-nil (key_in schema.types code content))
    ∙ ap (λ (s : Spot). s.key ++ key_in schema.types code content) (sym p.is)

enters_as : (types : List SegType) (rows : List Row) (code : ℕ) (content keys other : List ℕ) (index : IndexDef) → keys ≡ other
    → (not (code == index.source) || option_map_or (λ key. not (is_taken key (entries_of types index rows))) (entry_key index content keys) true) ≡ enters_by types rows code other content index
enters_as types rows code content keys other index same =
    ap (λ (keys : List ℕ). not (code == index.source) || option_map_or (λ key. not (is_taken key (entries_of types index rows))) (entry_key index content keys) true) same
    ∙ by (code == index.source)
  where
    by : (s : Bool) → (not s || option_map_or (λ key. not (is_taken key (entries_of types index rows))) (entry_key index content other) true)
        ≡ option_map_or (λ key. not (is_taken key (entries_of types index rows))) (cond s (Some (option_map_or (λ key. key) (entry_key index content other) [])) None) true
    by true = refl
    by false = refl

pub enters_is : (schema : Schema) (rows : List Row) (name : Ilk) (code : ℕ) (parent : Option Spot) (content : List ℕ) → IfSome parent (IsFound (plain_view schema rows))
    → list_all (enters_freely schema.types rows (row_named_so name code parent content)) schema.indexes ≡ list_all (enters_by schema.types rows code (key_below schema.types code parent content) content) schema.indexes
enters_is schema rows name code parent content f =
    ap (λ (test : IndexDef → Bool). list_all test schema.indexes) (λ i index. enters_as schema.types rows code content _ _ index (new_keys schema rows name code parent content f) i)

-- ---- the change is lawful

find_row : (level : Row → ℕ) (test : Row → Bool) (path rows : List Row) → option_map (λ (p : OnPath). p.1) (find (λ (p : OnPath). test p.1) (with_paths level path rows)) ≡ find test rows
find_row level test path [] = refl
find_row level test path (row ∷ rows) = by (test row) (find_row level test (path_with level path row) rows)
  where
    by : (b : Bool) → option_map (λ (p : OnPath). p.1) (find (λ (p : OnPath). test p.1) (with_paths level (path_with level path row) rows)) ≡ find test rows
        → option_map (λ (p : OnPath). p.1) (cond b (Some (path_with level path row, row)) (find (λ (p : OnPath). test p.1) (with_paths level (path_with level path row) rows))) ≡ cond b (Some row) (find test rows)
    by true rest = refl
    by false rest = rest

any_found : {X : Type 0} (test more : X → Bool) (xs : List X) (x : X) → find test xs ≡ Some x → more x ≡ true → list_any (λ (y : X). test y && more y) xs ≡ true
any_found test more [] x h m = absurd (let no : ⊥ = cc in no)
any_found {X} test more (y ∷ ys) x h m = by (test y) h (λ k. any_found test more ys x k m)
  where
    by : (b : Bool) → cond b (Some y) (find test ys) ≡ Some x → (find test ys ≡ Some x → list_any (λ (y : X). test y && more y) ys ≡ true) → ((b && more y) || list_any (λ (y : X). test y && more y) ys) ≡ true
    by true k rest = ap (λ b. b || list_any (λ (y : X). test y && more y) ys) (ap more (same_Some y x k) ∙ m)
    by false k rest = rest k

not_root : (code : ℕ) (parent : Option Spot) (spot : Spot) → parent ≡ Some spot → (code ≡ 1 → parent ≡ None) → (code == 1) ≡ false
not_root code parent spot is root = false_from_ne_true (code == 1) (λ h. let no : None ≡ Some spot = sym (root (eqb-true code 1 h)) ∙ is in let none : ⊥ = cc in none)

parent_there : (schema : Schema) (rows : List Row) (name : Ilk) (code : ℕ) (content : List ℕ) (spot : Spot) → StandsBelow schema rows code (Some spot)
    → option_map_or (λ (above : Row). is_parent_code schema.types above.code code) (find (λ (row : Row). is_parent row (row_named_so name code (Some spot) content)) rows) false ≡ true
parent_there schema rows name code content spot below =
    let p = parent_row schema rows spot below.found in
    ap (λ (o : Option Ilk). option_map_or (λ (above : Row). is_parent_code schema.types above.code code) (find (λ (row : Row). option_map_or (same_name row.name) o false) rows) false) (ap (λ (s : Spot). name_at s.at) p.is)
    ∙ ap (λ (o : Option Row). option_map_or (λ (above : Row). is_parent_code schema.types above.code code) o false)
    (sym (find_row (row_level schema.types) (λ (row : Row). same_name row.name p.p.1.name) [] rows) ∙ ap (λ (o : Option OnPath). option_map (λ (p : OnPath). p.1) o) p.found)
    ∙ ap (λ (o : Option ℕ). option_map_or (λ parent. parent == p.p.1.code) o false) below.above
    ∙ eq-eqb spot.code p.p.1.code (ap (λ (s : Spot). s.code) p.is)

selected_by : (a b : Bool) → (a && not b) ≡ false → (not a || b) ≡ true
selected_by true true h = refl
selected_by true false h = sym h
selected_by false b h = refl

none_some : (o : Option ℕ) → is_none o ≡ not (is_some o)
none_some None = refl
none_some (Some x) = refl

-- what is known of a new row that nothing refuses
pub record IsFree (schema : Schema) (rows : List Row) (code : ℕ) (parent : Option Spot) (content : List ℕ) : Type 0 where
  pub below : StandsBelow schema rows code parent
  pub long : option_map_or (λ (t : SegType). length content == t.bytes) (type_of schema.types code) false ≡ true
  pub low : is_high_root schema code content ≡ false
  pub twin : has_free_key schema rows (row_below code parent content) ≡ true
  pub enters : list_all (enters_freely schema.types rows (row_below code parent content)) schema.indexes ≡ true

pub new_lawful : (schema : Schema) (rows : List Row) (code : ℕ) (parent : Option Spot) (content : List ℕ) → IsFree schema rows code parent content
    → IsLawful schema rows (Insert (row_below code parent content).parent (root_below schema.types code parent content) code content)
new_lawful schema rows code parent content f = λ name new. (
  and_from _ _
      (and_from _ _ (and_from _ _ (and_from _ _ (and_from _ _ f.long new) (has_parent name parent refl f.below)) f.twin)
      (selected_by (code == 1) (is_some (partition_of schema (key_in schema.types code content))) (ap (λ b. code == 1 && b) (sym (none_some (partition_of schema (key_in schema.types code content)))) ∙ f.low)))
      (enters_is schema rows name code parent content f.below.found ∙ sym (enters_is schema rows no_name code parent content f.below.found) ∙ f.enters),
  names parent f.below,
)
  where
    has_parent : (name : Ilk) (o : Option Spot) → parent ≡ o → StandsBelow schema rows code o
        → has_parent_in schema.types rows (row_named_so name code o content) ≡ true
    has_parent name None e b = ap (λ b. cond b (is_none (row_named_so name code None content).parent) (option_map_or (λ (above : Row). is_parent_code schema.types above.code code) (find (λ (row : Row). is_parent row (row_named_so name code None content)) rows) false)) (eq-eqb code 1 (b.none refl))
    has_parent name (Some spot) e b =
        ap (λ r. cond r (is_none (row_named_so name code (Some spot) content).parent) (option_map_or (λ (above : Row). is_parent_code schema.types above.code code) (find (λ (row : Row). is_parent row (row_named_so name code (Some spot) content)) rows) false)) (not_root code (Some spot) spot refl b.root)
        ∙ parent_there schema rows name code content spot b

    names : (o : Option Spot) → StandsBelow schema rows code o → names_its_root schema rows (row_below code o content) (root_below schema.types code o content) ≡ true
    names None b = (bytes_eq-Decides (key_in schema.types code content) (key_in schema.types code content)).1 refl
    names (Some spot) b =
        let p = parent_row schema rows spot b.found in
        ap (λ (s : Spot). option_map_or (λ parent. is_under schema rows parent (root_named s.at)) (name_at s.at) (bytes_eq (key_in schema.types code content) (root_named s.at))) p.is
        ∙ any_found (λ (q : OnPath). same_name q.1.name p.p.1.name) (λ (q : OnPath). bytes_eq (root_key_of schema.types q.0) (root_key_of schema.types p.p.0)) (paths_of schema.types rows) p.p p.found
        ((bytes_eq-Decides (root_key_of schema.types p.p.0) (root_key_of schema.types p.p.0)).1 refl)

pub placed_lawful : (schema : Schema) (rows : List Row) (free : ℕ) (session : Session) (code : ℕ) (parent : Option Spot) (content : List ℕ) → StandsBelow schema rows code parent
    → option_map_or (λ (t : SegType). length content == t.bytes) (type_of schema.types code) false ≡ true → is_high_root schema code content ≡ false
    → IsLawful schema rows (placed_below schema rows free session code parent content).change
placed_lawful schema rows free session code parent content below long low = by (has_free_key schema rows (row_below code parent content)) (list_all (enters_freely schema.types rows (row_below code parent content)) schema.indexes) (nat_lt free (need_of_insert schema)) refl refl
  where
    by : (twin enters room : Bool) → has_free_key schema rows (row_below code parent content) ≡ twin → list_all (enters_freely schema.types rows (row_below code parent content)) schema.indexes ≡ enters
        → (let d : Decision = cond (not twin) (refused_with (codes "II") None session) (cond (not enters) (refused_with (codes "NI") None session) (cond room (refused_with (codes "+R") (Some (need_of_insert schema)) session) (inserted_below schema session code parent content))) in IsLawful schema rows d.change)
    by false enters room t e = refl
    by true false room t e = refl
    by true true true t e = refl
    by true true false t e = new_lawful schema rows code parent content (record { below = below; long = long; low = low; twin = t; enters = e })

-- ---- what is decided

abbrev pub placed_by : Schema → Session → ℕ → Option Spot → List ℕ → Bool → Bool → Bool → Decision
placed_by schema session code parent content twin takes room =
    cond twin (refused_with (codes "II") None session) (cond takes (refused_with (codes "NI") None session) (cond room (refused_with (codes "+R") (Some (need_of_insert schema)) session) (inserted_below schema session code parent content)))

pub placed_is : (schema : Schema) (rows : List Row) (free : ℕ) (session : Session) (code : ℕ) (parent : Option Spot) (content : List ℕ) (twin takes room : Bool) → not (has_free_key schema rows (row_below code parent content)) ≡ twin
    → not (list_all (enters_freely schema.types rows (row_below code parent content)) schema.indexes) ≡ takes → nat_lt free (need_of_insert schema) ≡ room
    → placed_by schema session code parent content twin takes room ≡ placed_below schema rows free session code parent content
placed_is schema rows free session code parent content twin takes room t e r = λ i. placed_by schema session code parent content (sym t i) (sym e i) (sym r i)
