-- The root set grows by a row: what that leaves, and how long the row is.
use Rattle.std.proofs.Common.{◌≡◌, ℕ, suc, ◌+◌, ◌-◌, ◌^◌, ◌<◌, ◌≤◌, false, List, [], length, drop, Option, Some, refl, sym, ap, subst, ◌∙◌, arith, cond, Bool, ⊎_elim}
use Rattle.std.specs.Prelude.{option_and_then, slice_get}
use Rattle.std.specs.Option.{option_map_or}
use Rattle.std.proofs.lemmas.List.{length-take, length-drop}
use Rattle.hal_base.specs.ShelfCalls.{ShelfView, OnlyGrows}
use Rattle.hal_schema.specs.declared.schema.KeyField.{KeyField}
use Rattle.hal_schema.specs.declared.schema.Schema.{Schema}
use Rattle.hal_schema.specs.declared.schema.SegType.{SegType}
use Rattle.hal_schema.specs.Facts.{SchemasAreKept}
use Rattle.hal_schema.specs.SegType.{type_of, key_bytes, portion}
use Rattle.free_space.specs.Side.{lettered}
use Rattle.free_space.specs.SideCalls.{IsTold, StandsForSide}
use Rattle.free_space.specs.SideLaws.{OthersLeaveASide, StaysBeside}
use Rattle.std.specs.Int.{w32, to_be_bytes}
use Rattle.keyed_sets.specs.declared.row.RowShape.{RowShape}
use Rattle.keyed_sets.specs.declared.set.KeyedSet.{KeyedSet}
use Rattle.keyed_sets.specs.Calls.{Grows, StaysOpen, PutsIn}
use Rattle.keyed_sets.specs.Layout.{Row, HasShape}
use Rattle.keyed_sets.specs.Map.{RowsRise, with_row, rows_of}
use Rattle.record_walk.specs.Side.{key_of}
use Rattle.record_tree.specs.declared.new_row.NewRow.{NewRow}
use Rattle.record_tree.specs.declared.records.Records.{Records}
use Rattle.record_tree.specs.Sides.{root_set, root_shape}
use Rattle.record_tree.specs.Standing.{StandsForRecords}
use Rattle.record_tree.specs.Placing.{FitsType, IsNewRoot, unplaced}
use Rattle.record_tree.specs.Changing.{ChangesSide}
use Rattle.record_tree.proofs.RootRows.{Alike}
use Rattle.record_tree.proofs.Frames.{roots_apart, told_back}
use Rattle.record_tree.specs.Storing.{StoresCell, segment_for, named_cell}
use Rattle.record_tree.proofs.Storing.{fits_of}
use Rattle.record_tree.proofs.Rooted.{IsRooted, puts_row}

-- ---- what it leaves

pub record RootsGrow (mid : Records) (s f : Type 0) (b c : ShelfView) : Type 0 where
  pub changes : ChangesSide 1 mid s f b c
  pub beside : StaysBeside mid.cells b c
  pub back : IsTold mid.cells c → IsTold mid.cells b
  pub places : (place : ℕ) → place < 10 → c.places (lettered mid.cells.first place) ≡ b.places (lettered mid.cells.first place)

roots_grown : {s f : Type 0} (count : ℕ) → OthersLeaveASide → (mid : Records) (b c : ShelfView) → Alike b → Alike c → mid.roots.set ≡ root_set mid.cells.first → StandsForSide mid.cells b → count ≤ 1 → OnlyGrows count mid.roots.set s f b c → RootsGrow mid s f b c
roots_grown count law mid b c before after set stands few leaves = record {
  changes = record {
    keeps = leaves.keeps;
    pages = λ other apart. leaves.grown.others other (λ e. apart.roots (sym e));
    places = λ other apart. leaves.grown.other_places other (λ e. apart.roots (sym e));
    untold = λ other none. after mid.roots.set other (leaves.grown.untold (before other mid.roots.set none));
    count = count;
    few = few;
    enough = leaves.grown.enough;
    free = leaves.grown.free;
  };
  beside = law.grown mid.cells count mid.roots.set b c stands (λ place below e. roots_apart mid.cells.first place stands.first below (e ∙ set)) leaves.grown;
  back = λ told. told_back b c mid.roots.set before after leaves.grown.untold mid.cells.first told;
  places = λ place below. leaves.grown.other_places (lettered mid.cells.first place) (λ e. roots_apart mid.cells.first place stands.first below (e ∙ set));
}

pub roots_grow : {s f : Type 0} → OthersLeaveASide → (mid : Records) (b c : ShelfView) → Alike b → Alike c → mid.roots.set ≡ root_set mid.cells.first → StandsForSide mid.cells b → Grows mid.roots s f b c → RootsGrow mid s f b c
roots_grow law mid b c before after set stands grows =
    ⊎_elim (λ none. roots_grown 0 law mid b c before after set stands (omega arith) none) (λ one. roots_grown 1 law mid b c before after set stands (omega arith) one) grows.changes

-- ---- how long the row is

portion_long : (start bytes : ℕ) (content : List ℕ) → 1 ≤ start → start + bytes ≤ length content + 1 → length (portion start bytes content) ≡ bytes
portion_long start bytes content some within =
    let front = length-take (start - 1 + bytes - (start - 1)) (drop (start - 1) content) in
    let rest = length-drop (start - 1) content in
    omega (arith, front, rest, some, within)

pub root_long : SchemasAreKept → (schema : Schema) (content : List ℕ) → FitsType schema (unplaced 1 content) → length (key_of schema (unplaced 1 content)) ≡ key_bytes schema.types 1
root_long kept schema content fits =
    let root = (kept schema).root_key in
    let t : SegType = root.0 in
    let k : KeyField = root.1 in
    let field = (((kept schema).types 1 t root.2).key k root.3).field in
    let f = fits_of schema 1 content fits in
    let long : length content ≡ t.bytes = f.long ∙ ap (λ (o : Option SegType). option_map_or (λ (u : SegType). u.bytes) o 0) (sym (at_root f.k f.code_is f.t f.at) ∙ root.2) in
    ap (λ (o : Option SegType). length (option_map_or (λ (j : KeyField). portion j.start j.bytes content) (option_and_then (λ (u : SegType). u.key) o) [])) root.2
    ∙ ap (λ (o : Option KeyField). length (option_map_or (λ (j : KeyField). portion j.start j.bytes content) o [])) root.3
    ∙ portion_long k.start k.bytes content field.from (let within = field.within in omega (arith, within, long))
    ∙ sym (ap (λ (o : Option SegType). option_map_or (λ (j : KeyField). j.bytes) (option_and_then (λ (u : SegType). u.key) o) 0) root.2 ∙ ap (λ (o : Option KeyField). option_map_or (λ (j : KeyField). j.bytes) o 0) root.3)
  where
    at_root : (n : ℕ) → 1 ≡ suc n → (t : SegType) → slice_get schema.types n ≡ Some t → type_of schema.types 1 ≡ Some t
    at_root n e t is = ap (slice_get schema.types) (zero_is n e) ∙ is
      where
        zero_is : (m : ℕ) → 1 ≡ suc m → 0 ≡ m
        zero_is m e = omega (arith, e)

-- the key in PHIDAM
pub key_long : SchemasAreKept → (schema : Schema) (code : ℕ) (content : List ℕ) → schema.phdam ≡ false → code ≡ 1 → FitsType schema (unplaced code content) → length (key_of schema (unplaced 1 content)) ≡ (root_shape schema).key
key_long kept schema code content kind one fits =
    root_long kept schema content (subst (λ (n : ℕ). FitsType schema (unplaced n content)) one fits) ∙ sym (ap (λ (b : Bool). cond b 4 (key_bytes schema.types 1)) kind)

-- ---- the row is put

pub shaped_row : SchemasAreKept → (records mid : Records) (new : NewRow) (twin at : ℕ) (a b : ShelfView) (key body : List ℕ) → StandsForRecords records a → StoresCell records mid (named_cell records new twin at) a b at → new.code ≡ 1
    → FitsType records.schema (segment_for new) → key ≡ key_of records.schema (unplaced 1 new.content) → length body ≡ 4 → HasShape mid.roots.shape (key, body)
shaped_row kept records mid new twin at a b key body stands st one fits is four =
    let shape : mid.roots.shape ≡ root_shape records.schema = ap (λ (r : KeyedSet). r.shape) st.roots ∙ stands.of.shape in
    record {
      key = ap (λ (l : List ℕ). length l) is ∙ key_long kept records.schema new.code new.content stands.of.kind one fits ∙ sym (ap (λ (s : RowShape). s.key) shape);
      body = four ∙ sym (ap (λ (s : RowShape). s.body) shape);
    }

pub own_root_key : (schema : Schema) (new : NewRow) → new.code ≡ 1 → key_of schema (unplaced 1 new.content) ≡ key_of schema (segment_for new)
own_root_key schema new one = ap (λ (n : ℕ). key_of schema (unplaced n new.content)) (sym one)

pub is_rooted : ((shape : RowShape) (pages : List (List ℕ)) → RowsRise (rows_of shape pages)) → ((row : Row) (rows : List Row) → RowsRise rows → RowsRise (with_row row rows)) → {s f : Type 0} (records mid : Records) (roots : KeyedSet) (new : NewRow) (at : ℕ) (a b c : ShelfView)
    → Alike b → (key body : List ℕ) → key ≡ key_of records.schema (unplaced 1 new.content) → body ≡ to_be_bytes w32 at → StandsForRecords records a → IsNewRoot records a (segment_for new) → StoresCell records mid (named_cell records new 0 at) a b at → RootsGrow mid s f b c
    → StaysOpen mid.roots roots c → PutsIn mid.roots (key, body) b c → at < 2 ^ 32 → IsRooted records mid (record mid { roots = roots }) new at a b c
is_rooted of_pages put records mid roots new at a b c alike key body key_is body_is stands root st grow opened puts small = record {
  stands = stands;
  root = root;
  stored = st;
  schema = refl;
  place = refl;
  first = refl;
  cells = refl;
  beside = grow.beside;
  roots = opened;
  back = grow.back;
  puts = λ told. puts_row of_pages put mid roots (key_of records.schema (segment_for new), to_be_bytes w32 at) b c alike opened.set opened.shape
      (subst (λ (k : List ℕ). PutsIn mid.roots (k, to_be_bytes w32 at) b c) (key_is ∙ own_root_key records.schema new root.code) (subst (λ (l : List ℕ). PutsIn mid.roots (key, l) b c) body_is puts)) told;
  small = small;
}
