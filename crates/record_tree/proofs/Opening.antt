-- A side that was opened.
use Rattle.std.proofs.Common.{◌≡◌, ℕ, zero, suc, ◌<◌, Bool, false, cond, List, [], ◌∷◌, length, Option, None, Some, Result, Ok, Err, inl, inr, refl, sym, ap, subst, ◌∙◌, arith}
use Rattle.std.specs.Prelude.{slice_get, IsSome, IfSome}
use Rattle.std.specs.Option.{ForSome}
use Rattle.hal_base.specs.declared.pages.SetId.{SetId}
use Rattle.hal_base.specs.declared.place.Shape.{Shape}
use Rattle.hal_base.specs.ShelfCalls.{ShelfView, SameShelf, OnlyReads}
use Rattle.hal_base.proofs.ShelfLemmas.{same_then, reads_then, reads_more, reads_as}
use Rattle.hal_schema.specs.declared.schema.Schema.{Schema}
use Rattle.hal_schema.specs.SegType.{key_bytes}
use Rattle.free_space.specs.declared.side.SideCells.{SideCells}
use Rattle.free_space.specs.Side.{lettered, side_cell}
use Rattle.free_space.specs.SideCalls.{StandsForSide, SideBreaksAt, side_pages}
use Rattle.free_space.specs.Store.{AreTiled, Knows}
use Rattle.keyed_sets.specs.declared.row.RowShape.{RowShape}
use Rattle.keyed_sets.specs.Calls.{IsOpened}
use Rattle.keyed_sets.specs.Rule.{KeepsRule, BreaksAt, Breaks}
use Rattle.record_tree.specs.declared.records.Records.{Records}
use Rattle.record_tree.specs.Sides.{part_number, first_set, root_set, root_shape, root_rows, letters_of, shapes_of}
use Rattle.record_tree.specs.Standing.{IsOfSide, StandsForRecords, KeepsSide, BreaksSide, all_pages, cells_seen, rows_seen}
use Rattle.record_tree.proofs.Staying.{cells_same, side_as, side_same}

-- one fault, in two results
pub one_fault : {T U E : Type 0} (r : Result T E) (s : Result U E) (x e fault : E) → r ≡ Err x → s ≡ Err e → e ≡ x → (r ≡ Err fault → s ≡ Err fault) × (s ≡ Err fault → r ≡ Err fault)
one_fault r s x e fault first second same = (λ is. cc, λ is. cc)

pub ok_not_err : {T E : Type 0} (r : Result T E) (t : T) (e : E) → r ≡ Ok t → r ≡ Err e → ⊥
ok_not_err r t e ok err = cc

some_at : {X : Type 0} (xs : List X) (k : ℕ) → k < length xs → (x : X) × (slice_get xs k ≡ Some x)
some_at [] k lt = absurd (omega (arith, lt))
some_at (x ∷ xs) zero lt = (x, refl)
some_at (x ∷ xs) (suc k) lt = some_at xs k (omega (arith, lt))

pub tiled_of : (side : SideCells) (shelf : ShelfView) → StandsForSide side shelf → (place : ℕ) (pages : List (List ℕ)) → place < 10 → shelf.pages (lettered side.first place) ≡ Some pages → AreTiled side.shapes pages
tiled_of side shelf stands place pages below told =
    let ten = stands.ten in
    let (store, at) = some_at side.stores.items place (omega (arith, ten, below)) in
    let l = stands.each place store at in
    let knows : Knows store.shapes store.spaces.pages.items pages = l.stands.told pages (ap shelf.pages l.set ∙ told) in
    subst (λ (s : List Shape). AreTiled s pages) l.shapes knows.tiled

rule_of : (o : Option (List (List ℕ))) (P : List (List ℕ) → Type 0) (pages : List (List ℕ)) → o ≡ Some pages → ForSome o P → P pages
rule_of o P pages is holds = holds pages is

pub opened_for : (records : Records) (old mid new : ShelfView) → IsOfSide records → StandsForSide records.cells mid → IsOpened records.roots new → SameShelf old mid → SameShelf mid new → KeepsSide records.schema records.place records.first old → StandsForRecords records new
opened_for records old mid new of cells roots first second keeps = record {
  of = of;
  cells = side_same records.cells mid new cells second;
  roots = roots;
  side = λ told. side_as schema records.place (side_cell records.first (shapes_of schema) old) (cells_seen records new) (root_rows (root_shape schema) (old.pages (root_set records.first))) (rows_seen records new)
      (cells_same records.cells.first records.cells.shapes old new same.pages ∙ ap (λ (s : SetId). side_cell s records.cells.shapes old) of.first ∙ ap (λ (l : List Shape). side_cell records.first l old) of.shapes)
      (ap (root_rows records.roots.shape) (same.pages records.roots.set) ∙ ap (λ (s : SetId). root_rows records.roots.shape (old.pages s)) of.roots ∙ ap (λ (s : RowShape). root_rows s (old.pages (root_set records.first))) of.shape)
      (keeps (record {
        told = subst (λ (s : SetId). IsSome (old.pages s)) of.first (subst (λ (o : Option (List (List ℕ))). IsSome o) (same.pages records.cells.first) told);
        tiled = λ place pages below is. subst (λ (l : List Shape). AreTiled l pages) of.shapes
            (tiled_of records.cells mid cells place pages below (first.pages (lettered records.cells.first place) ∙ ap (λ (s : SetId). old.pages (lettered s place)) of.first ∙ is));
        rows = λ pages is. subst (λ (s : RowShape). KeepsRule s pages) of.shape
            (rule_of (new.pages records.roots.set) (KeepsRule records.roots.shape) pages (same.pages records.roots.set ∙ ap old.pages of.roots ∙ is) roots.rule);
      }));
}
  where
    schema : Schema
    schema = records.schema

    same : SameShelf old new
    same = same_then first second

-- ---- what opening reads, and where it stops

abbrev pub row_shape : ℕ → RowShape
row_shape key = record { key = key; body = 4 }

shape_is : (schema : Schema) (key : ℕ) → key ≡ key_bytes schema.types 1 → schema.phdam ≡ false → row_shape key ≡ root_shape schema
shape_is schema key long kind = ap row_shape (long ∙ sym (ap (λ (b : Bool). cond {A = ℕ} b 4 (key_bytes schema.types 1)) kind))

pub reads_cells : {s f : Type 0} {a b : ShelfView} (first set : SetId) → first ≡ set → OnlyReads (side_pages first a) s f a b → OnlyReads (all_pages set a) s f a b
reads_cells {s} {f} {a} {b} first set is reads = subst (λ (x : SetId). OnlyReads (all_pages x a) s f a b) is (reads_more reads (omega arith))

pub reads_both : {s t u f g h : Type 0} {a b c : ShelfView} (first set roots : SetId) → first ≡ set → roots ≡ root_set first → OnlyReads (side_pages first a) s f a b → OnlyReads (length (b.places roots)) t g b c → (s → t → u) → (g → h) → (h → g) → OnlyReads (all_pages set a) u h a c
reads_both {s} {t} {u} {f} {g} {h} {a} {b} {c} first set roots is root first_reads then_reads then to from =
    let many : length (b.places roots) ≡ length (a.places (root_set first)) = ap (λ (l : List ℕ). length l) (first_reads.same.places roots ∙ ap a.places root) in
    subst (λ (x : SetId). OnlyReads (all_pages x a) u h a c) is
    (reads_as (reads_more (reads_then (side_pages first a) (length (b.places roots)) first_reads then_reads then) (omega (arith, many))) to from)

pub breaks_cells : (schema : Schema) (first set : SetId) (shapes : List Shape) (shelf : ShelfView) (n offset : ℕ) → first ≡ set → shapes ≡ shapes_of schema → SideBreaksAt first shapes shelf n offset → BreaksSide schema set shelf n offset
breaks_cells schema first set shapes shelf n offset is of breaks = inl (subst (λ (x : SetId). SideBreaksAt x (shapes_of schema) shelf n offset) is (subst (λ (l : List Shape). SideBreaksAt first l shelf n offset) of breaks))

told_at : (o q : Option (List (List ℕ))) (P Q : List (List ℕ) → Type 0) → o ≡ q → ((pages : List (List ℕ)) → P pages → Q pages) → IfSome o P → IfSome q Q
told_at None q P Q is to holds = subst (λ (p : Option (List (List ℕ))). IfSome p Q) is tt
told_at (Some pages) q P Q is to holds = subst (λ (p : Option (List (List ℕ))). IfSome p Q) is (to pages holds)

pub breaks_roots : (schema : Schema) (first set roots : SetId) (key : ℕ) (cells : SideCells) (old mid : ShelfView) (n offset : ℕ) → first ≡ set → roots ≡ root_set first → key ≡ key_bytes schema.types 1 → schema.phdam ≡ false
    → cells.first ≡ first → cells.shapes ≡ shapes_of schema → StandsForSide cells mid → SameShelf old mid → IfSome (mid.pages roots) (Breaks key 4 n offset) → BreaksSide schema set old n offset
breaks_roots schema first set roots key cells old mid n offset is root long kind cells_first shapes stands same breaks = inr (record {
  tiled = λ place pages below told. subst (λ (l : List Shape). AreTiled l pages) shapes
      (tiled_of cells mid stands place pages below (same.pages (lettered cells.first place) ∙ ap (λ (x : SetId). old.pages (lettered x place)) (cells_first ∙ is) ∙ told));
  breaks = told_at (mid.pages roots) (old.pages (root_set set)) (Breaks key 4 n offset) (λ pages. BreaksAt (root_shape schema) pages n offset)
      (same.pages roots ∙ ap old.pages (root ∙ ap root_set is)) (λ pages b. subst (λ (s : RowShape). BreaksAt s pages n offset) (shape_is schema key long kind) b) breaks;
})

-- ---- the object

pub is_of_side : (records : Records) (schema : Schema) (place number side key : ℕ) → records.schema ≡ schema → records.place ≡ place → records.first ≡ first_set schema place number side → schema.phdam ≡ false
    → records.cells.first ≡ records.first → records.cells.letters ≡ letters_of schema → records.cells.shapes ≡ shapes_of schema → records.roots.set ≡ root_set records.first → records.roots.shape ≡ row_shape key → key ≡ key_bytes schema.types 1
    → IsOfSide records
is_of_side records schema place number side key schema_is place_is first_is kind cells_first letters shapes roots shape long = record {
  part = ap (λ (s : SetId). s.part) first_is ∙ sym (ap (λ (s : Schema). part_number s records.place) schema_is ∙ ap (part_number schema) place_is);
  first = cells_first;
  letters = letters ∙ ap letters_of (sym schema_is);
  shapes = shapes ∙ ap shapes_of (sym schema_is);
  roots = roots;
  shape = shape ∙ shape_is schema key long kind ∙ ap root_shape (sym schema_is);
  kind = ap (λ (s : Schema). s.phdam) schema_is ∙ kind;
}
