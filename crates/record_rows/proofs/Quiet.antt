-- On a shelf that tells nothing each place is one, but for what is asked of a root's key.
use Rattle.std.proofs.Common.{◌≡◌, ℕ, nat_lt, Bool, true, false, List, Option, None, Some, refl, sym, ap, subst, ◌∙◌, if◌then◌else◌}
use Rattle.std.specs.Prelude.{slice_index, IsSome}
use Rattle.std.specs.Option.{option_map, option_map_or}
use Rattle.std.proofs.lemmas.Bool.{false≢true}
use Rattle.hal_base.specs.declared.pages.SetId.{SetId}
use Rattle.hal_base.specs.declared.place.Shape.{Shape}
use Rattle.hal_base.specs.ShelfCalls.{ShelfView}
use Rattle.hal_schema.specs.declared.schema.Schema.{Schema}
use Rattle.segment_blocks.specs.declared.tile.Cell.{Cell}
use Rattle.free_space.specs.Side.{lettered, place_at, cell_in, side_cell}
use Rattle.free_space.specs.SideCalls.{IsTold}
use Rattle.record_walk.specs.Orders.{child_place}
use Rattle.record_walk.specs.Side.{alone, seen, key_of}
use Rattle.record_tree.specs.declared.place.Place.{Place}
use Rattle.record_tree.specs.declared.records.Records.{Records}
use Rattle.record_tree.specs.Finding.{BelongsTo}
use Rattle.record_tree.specs.Placing.{IsPlace, IsPlaceLast, led_to, unplaced}
use Rattle.record_tree.specs.Standing.{cells_seen}

abbrev TellsNothing : ShelfView → Type 0
TellsNothing shelf = (set : SetId) → shelf.pages set ≡ None

untold : (records : Records) (shelf : ShelfView) → TellsNothing shelf → IsTold records.cells shelf → ⊥
untold records shelf quiet told = false≢true (subst (λ (o : Option (List (List ℕ))). IsSome o) (quiet records.cells.first) told)

no_cell : (first : SetId) (shapes : List Shape) (shelf : ShelfView) (at : ℕ) → TellsNothing shelf → side_cell first shapes shelf at ≡ None
unfolding side_cell
no_cell first shapes shelf at quiet = by (nat_lt (place_at at) 10)
  where
    by : (b : Bool) → (if b then cell_in shapes (lettered first (place_at at)) (shelf.pages (lettered first (place_at at))) at else None) ≡ None
    by true = ap (λ (o : Option (List (List ℕ))). cell_in shapes (lettered first (place_at at)) o at) (quiet (lettered first (place_at at)))
    by false = refl

none_seen : (phdam : Bool) (cells : ℕ → Option Cell) (at : ℕ) → cells at ≡ None → seen phdam cells at ≡ None
none_seen true cells at none = none
none_seen false cells at none = ap (option_map alone) none

seen_none : (records : Records) (shelf : ShelfView) → TellsNothing shelf → (at : ℕ) → seen records.schema.phdam (cells_seen records shelf) at ≡ None
seen_none records shelf quiet at = none_seen records.schema.phdam (cells_seen records shelf) at (no_cell records.cells.first records.cells.shapes shelf at quiet)

abbrev MayStand : Records → Place → (code : ℕ) → List ℕ → Type 0
MayStand records place code content = place.parent ≡ None → (code ≡ 1) × BelongsTo records.schema records.place (key_of records.schema (unplaced 1 content))

-- from what was asked of the definition
pub may_stand : (records : Records) (schema : Schema) (place : Place) (code : ℕ) (content : List ℕ) → records.schema ≡ schema → records.place ≡ 0 → (place.parent ≡ None → code ≡ 1) → (place.parent ≡ None → BelongsTo schema 0 (key_of schema (unplaced 1 content)))
    → MayStand records place code content
may_stand records schema place code content same at root belongs none =
    (root none, subst (λ (n : ℕ). BelongsTo records.schema n (key_of records.schema (unplaced 1 content))) (sym at) (subst (λ (s : Schema). BelongsTo s 0 (key_of s (unplaced 1 content))) (sym same) (belongs none)))

own_code : (records : Records) (code : ℕ) (content : List ℕ) → code ≡ 1 → BelongsTo records.schema records.place (key_of records.schema (unplaced 1 content)) → BelongsTo records.schema records.place (key_of records.schema (unplaced code content))
own_code records code content one belongs = subst (λ (n : ℕ). BelongsTo records.schema records.place (key_of records.schema (unplaced n content))) (sym one) belongs

pub quiet_place : (records : Records) (shelf : ShelfView) (place : Place) (code : ℕ) (content : List ℕ) → TellsNothing shelf → MayStand records place code content → IsPlace records shelf place (unplaced code content)
quiet_place records shelf place code content quiet may = record {
  below = λ above e. record {
    parent = λ told. absurd (untold records shelf quiet told);
    twin = λ at is told. absurd (untold records shelf quiet told);
    before = λ at is trees walks. absurd (untold records shelf quiet walks.told);
    next = λ cell some there. absurd (let none : None ≡ Some cell = sym (seen_none records shelf quiet _) ∙ there in cc);
  };
  root = λ none. record {
    code = (may none).0;
    belongs = own_code records code content (may none).0 (may none).1;
    free = λ trees walks. absurd (untold records shelf quiet walks.told);
  };
}

led_nowhere : (records : Records) (shelf : ShelfView) → TellsNothing shelf → (above : ℕ) (prior : Option ℕ) (code : ℕ) → led_to records shelf above prior code ≡ 0
led_nowhere records shelf quiet above None code = ap (λ (o : Option Cell). option_map_or (λ cell. slice_index cell.children (child_place records.schema.types code)) o 0) (seen_none records shelf quiet above)
led_nowhere records shelf quiet above (Some at) code = ap (λ (o : Option Cell). option_map_or (λ cell. cell.twin) o 0) (seen_none records shelf quiet at)

pub quiet_last : (records : Records) (shelf : ShelfView) (place : Place) (code : ℕ) (content : List ℕ) → TellsNothing shelf → MayStand records place code content → IsPlaceLast records shelf place (unplaced code content)
quiet_last records shelf place code content quiet may = record {
  below = λ above e. (record { parent = λ told. absurd (untold records shelf quiet told); twin = λ at is told. absurd (untold records shelf quiet told) }, led_nowhere records shelf quiet above place.prior code);
  root = λ none. record {
    code = (may none).0;
    belongs = own_code records code content (may none).0 (may none).1;
    free = λ trees walks. absurd (untold records shelf quiet walks.told);
  };
}
