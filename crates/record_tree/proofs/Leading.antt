-- Where the pointers of a side lead.
use Rattle.std.proofs.Common.{◌≡◌, ◌≢◌, ℕ, ◌<◌, ◌==◌, Bool, true, false, List, map, length, Option, None, Some, refl, sym, ap, subst, ◌∙◌, arith}
use Rattle.std.specs.Prelude.{slice_index, slice_get, option_and_then, IfSome, if◌then◌else◌}
use Rattle.std.specs.Option.{option_map, option_map_or}
use Rattle.std.proofs.lemmas.Bool.{eqb-false}
use Rattle.hal_base.specs.ShelfCalls.{ShelfView}
use Rattle.hal_schema.specs.declared.schema.Schema.{Schema}
use Rattle.hal_schema.specs.Row.{is_parent, are_twins}
use Rattle.hal_schema.specs.SegType.{parent_code}
use Rattle.segment_blocks.specs.declared.tile.Cell.{Cell}
use Rattle.free_space.specs.SideCalls.{IsTold}
use Rattle.record_walk.specs.Tree.{Chains, times_in, child_codes}
use Rattle.record_walk.specs.Listing.{list_in}
use Rattle.record_walk.specs.Pointers.{Pointer, Behind, Below, Root}
use Rattle.record_walk.specs.Changes.{leads_to}
use Rattle.record_walk.specs.Leads.{ChildrenAreFirst, PointersLeadOn, TwinsAreNext, pointed, stand_so, behind_span_at, first_home_of}
use Rattle.record_walk.specs.Orders.{child_place, ChildPlaces}
use Rattle.record_walk.specs.Records.{code_behind}
use Rattle.record_walk.specs.Side.{RootRow, seen, IsWalked}
use Rattle.record_walk.specs.Spans.{AreRecords, IsIn}
use Rattle.record_tree.specs.declared.records.Records.{Records}
use Rattle.record_tree.specs.Finding.{FindsChild, FindsTwins, FindsTwin, first_child}
use Rattle.record_tree.specs.Standing.{StandsForRecords, Walks, HoldsRow, cells_seen, rows_seen}
use Rattle.record_tree.proofs.Seen.{some_is, seen_at, cell_at}

abbrev pub homes : List RootRow → List ℕ
homes rows = map (λ (row : RootRow). row.home) rows

-- a walked side's trees are records
pub records_of : (schema : Schema) (place : ℕ) (cells : ℕ → Option Cell) (rows : List RootRow) (trees : Chains) → IsWalked schema place cells rows trees → AreRecords schema (seen schema.phdam cells) (homes rows) trees
records_of schema place cells rows trees w = record { from = record { hang = w.hangs; first = w.rows_lead }; typed = w.typed; once = w.once }

behind_is : (a b : ℕ) → Some a ≡ Some b → a ≡ b
behind_is a b e = some_is a b e

-- the pointer to the next twin of a met cell, and to its first child, stand in the side
pub in_twin : (cells : ℕ → Option Cell) (firsts : List ℕ) (trees : Chains) (at : ℕ) → 0 < times_in at trees → IsIn (Behind at) cells firsts trees
in_twin cells firsts trees at met = record {
  met = λ home e. subst (λ (n : ℕ). 0 < times_in n trees) (behind_is at home e) met;
  child = λ above place cell e. absurd (let wrong : Behind at ≡ Below above place = e in cc);
  row = λ place e. absurd (let wrong : Behind at ≡ Root place = e in cc);
}

below_above : (a k b l : ℕ) → Below a k ≡ Below b l → (a ≡ b) × (k ≡ l)
below_above a k b l e = (cc, cc)

pub in_child : (cells : ℕ → Option Cell) (firsts : List ℕ) (trees : Chains) (at place : ℕ) (cell : Cell) → 0 < times_in at trees → cells at ≡ Some cell → place < length cell.children → IsIn (Below at place) cells firsts trees
in_child cells firsts trees at place cell met stands lt = record {
  met = λ home e. subst (λ (n : ℕ). 0 < times_in n trees) (behind_is at home e) met;
  child = λ above k other e is.
      let same = below_above at place above k e in
      let one : cell ≡ other = some_is cell other (sym stands ∙ ap cells same.0 ∙ is) in
      subst (λ (c : Cell). k < length c.children) one (subst (λ (n : ℕ). n < length cell.children) same.1 lt);
  row = λ k e. absurd (let wrong : Below at place ≡ Root k = e in cc);
}

-- a cell that isn't copied is met, in the trees that hang
pub record Met (records : Records) (shelf : ShelfView) (at : ℕ) : Type 0 where
  pub trees : Chains
  pub walks : Walks records shelf trees
  pub met : 0 < times_in at trees

pub met_of : (records : Records) (shelf : ShelfView) → StandsForRecords records shelf → IsTold records.cells shelf → (at : ℕ) (cell : Cell) → cells_seen records shelf at ≡ Some cell → cell.copied ≡ false → Met records shelf at
met_of records shelf stands told at cell is un =
    let side = stands.side told in
    record { trees = side.0; walks = record { told = told; side = side.1 }; met = side.1.walked.all_met at cell is un }

-- the cell to which a pointer leads
pub record LedTo (records : Records) (shelf : ShelfView) (to code : ℕ) : Type 0 where
  pub cell : Cell
  pub stands : cells_seen records shelf to ≡ Some cell
  pub uncopied : cell.copied ≡ false
  pub code_is : cell.code ≡ code

pub led : PointersLeadOn → (records : Records) (shelf : ShelfView) (trees : Chains) → Walks records shelf trees → (pointer : Pointer) (to code : ℕ) → IsIn pointer (seen records.schema.phdam (cells_seen records shelf)) (homes (rows_seen records shelf)) trees
    → leads_to pointer (seen records.schema.phdam (cells_seen records shelf)) (homes (rows_seen records shelf)) ≡ to → 0 < to → code_behind records.schema.types pointer (seen records.schema.phdam (cells_seen records shelf)) ≡ Some code → LedTo records shelf to code
led law records shelf trees walks pointer to code within is some coded =
    let cells = seen records.schema.phdam (cells_seen records shelf) in
    let r = records_of records.schema records.place (cells_seen records shelf) (rows_seen records shelf) trees walks.side.walked in
    let l = law.on records.schema cells (homes (rows_seen records shelf)) trees pointer r within (subst (λ (n : ℕ). 0 < n) (sym is) some) in
    let there = cell_at records.schema.phdam (cells_seen records shelf) to l.cell (ap cells (sym is) ∙ l.stands) in
    record {
      cell = there.cell;
      stands = there.is;
      uncopied = sym there.of.copied ∙ l.uncopied;
      code_is = sym there.of.code ∙ some_is l.cell.code code (sym l.code ∙ coded);
    }

-- an address that is not 0
pub if_pointed : (to : ℕ) (P : ℕ → Type 0) → (0 < to → P to) → IfSome (pointed to) P
if_pointed to P holds = by (to == 0) refl
  where
    by : (b : Bool) → (to == 0) ≡ b → IfSome (if b then None else Some to) P
    by true e = tt
    by false e = holds (let off = eqb-false to 0 e in omega (arith, off))

-- ---- a child, and a twin

-- what is known of a cell that was read at a row's address
pub record Read (records : Records) (shelf : ShelfView) (at : ℕ) (P : Cell → Type 0) (cell : Cell) : Type 0 where
  pub stands : cells_seen records shelf at ≡ Some cell
  pub uncopied : cell.copied ≡ false
  pub holds : P cell

pub read_of : (records : Records) (shelf : ShelfView) (at : ℕ) (P : Cell → Type 0) (cell : Cell) → HoldsRow records shelf at P → IsTold records.cells shelf → cells_seen records shelf at ≡ Some cell → Read records shelf at P cell
read_of records shelf at P cell row told is =
    let (other, there, (un, holds)) = row told in
    let same : other ≡ cell = some_is other cell (sym there ∙ is) in
    record { stands = is; uncopied = ap (λ (c : Cell). c.copied) (sym same) ∙ un; holds = subst P same holds }

pub child_leads : (records : Records) (shelf : ShelfView) (at code : ℕ) (cell : Cell) → cells_seen records shelf at ≡ Some cell
    → leads_to (Below at (child_place records.schema.types code)) (seen records.schema.phdam (cells_seen records shelf)) (homes (rows_seen records shelf)) ≡ slice_index cell.children (child_place records.schema.types code)
child_leads records shelf at code cell is =
    let s = seen_at records.schema.phdam (cells_seen records shelf) at cell is in
    ap (λ (o : Option Cell). option_map_or (λ c. slice_index c.children (child_place records.schema.types code)) o 0) s.is ∙ ap (λ (l : List ℕ). slice_index l (child_place records.schema.types code)) s.of.children

pub child_in : (records : Records) (shelf : ShelfView) (trees : Chains) → Walks records shelf trees → (at code : ℕ) (cell : Cell) → cells_seen records shelf at ≡ Some cell → cell.copied ≡ false → child_place records.schema.types code < length cell.children
    → IsIn (Below at (child_place records.schema.types code)) (seen records.schema.phdam (cells_seen records shelf)) (homes (rows_seen records shelf)) trees
child_in records shelf trees walks at code cell is un lt =
    let s = seen_at records.schema.phdam (cells_seen records shelf) at cell is in
    in_child (seen records.schema.phdam (cells_seen records shelf)) (homes (rows_seen records shelf)) trees at (child_place records.schema.types code) s.other (walks.side.walked.all_met at cell is un) s.is
    (subst (λ (l : List ℕ). child_place records.schema.types code < length l) (sym s.of.children) lt)

pub child_coded : ChildPlaces → (records : Records) (shelf : ShelfView) (at code : ℕ) (cell : Cell) → cells_seen records shelf at ≡ Some cell → parent_code records.schema.types code ≡ Some cell.code
    → code_behind records.schema.types (Below at (child_place records.schema.types code)) (seen records.schema.phdam (cells_seen records shelf)) ≡ Some code
child_coded places records shelf at code cell is up =
    let types = records.schema.types in
    let s = seen_at records.schema.phdam (cells_seen records shelf) at cell is in
    ap (option_and_then (λ (c : Cell). slice_get (child_codes types c.code) (child_place types code))) s.is ∙ ap (λ (n : ℕ). slice_get (child_codes types n) (child_place types code)) s.of.code ∙ places.place types cell.code code up

child_leads_on : ChildPlaces → PointersLeadOn → (records : Records) (shelf : ShelfView) → StandsForRecords records shelf → (at code : ℕ) (cell : Cell) → HoldsRow records shelf at (λ c. parent_code records.schema.types code ≡ Some c.code)
    → (IsTold records.cells shelf → cells_seen records shelf at ≡ Some cell) → child_place records.schema.types code < length cell.children → (found : Option ℕ) → found ≡ pointed (first_child records.schema code cell)
    → FindsTwins records shelf at (first_child records.schema code) (λ _. code) is_parent found
child_leads_on places law records shelf stands at code cell row fact lt found e = subst (λ (o : Option ℕ). FindsTwins records shelf at (first_child records.schema code) (λ _. code) is_parent o) (sym e) (record {
  is = λ told other is. ap (λ (c : Cell). pointed (first_child records.schema code c)) (some_is cell other (sym (fact told) ∙ is));
  row = if_pointed (first_child records.schema code cell) (λ home. (other : Cell) → cells_seen records shelf at ≡ Some other → HoldsRow records shelf home (λ c. c.code ≡ code)) (λ some other is told.
      let read = read_of records shelf at (λ c. parent_code records.schema.types code ≡ Some c.code) cell row told (fact told) in
      let m = met_of records shelf stands told at cell read.stands read.uncopied in
      let r = led law records shelf m.trees m.walks (Below at (child_place records.schema.types code)) (first_child records.schema code cell) code (child_in records shelf m.trees m.walks at code cell read.stands read.uncopied lt)
      (child_leads records shelf at code cell read.stands) some (child_coded places records shelf at code cell read.stands read.holds) in
      (r.cell, r.stands, (r.uncopied, r.code_is)));
  beside = if_pointed (first_child records.schema code cell) (λ home. (trees : Chains) → Walks records shelf trees → stand_so is_parent at home (list_in None trees) ≡ true) (λ some trees walks.
      let read = read_of records shelf at (λ c. parent_code records.schema.types code ≡ Some c.code) cell row walks.told (fact walks.told) in
      let leads = child_leads records shelf at code cell read.stands in
      subst (λ (n : ℕ). stand_so is_parent at n (list_in None trees) ≡ true) leads
      (law.child records.schema (seen records.schema.phdam (cells_seen records shelf)) (homes (rows_seen records shelf)) trees at (child_place records.schema.types code)
      (records_of records.schema records.place (cells_seen records shelf) (rows_seen records shelf) trees walks.side.walked) (child_in records shelf trees walks at code cell read.stands read.uncopied lt) (subst (λ (n : ℕ). 0 < n) (sym leads) some)));
})

pub child_found : ChildPlaces → PointersLeadOn → ChildrenAreFirst → (records : Records) (shelf : ShelfView) → StandsForRecords records shelf → (at code : ℕ) (cell : Cell) → HoldsRow records shelf at (λ c. parent_code records.schema.types code ≡ Some c.code)
    → (IsTold records.cells shelf → cells_seen records shelf at ≡ Some cell) → child_place records.schema.types code < length cell.children → (found : Option ℕ) → found ≡ pointed (first_child records.schema code cell) → FindsChild records shelf at code found
child_found places law firsts records shelf stands at code cell row fact lt found e = record {
  leads = child_leads_on places law records shelf stands at code cell row fact lt found e;
  first = λ trees walks.
      let read = read_of records shelf at (λ c. parent_code records.schema.types code ≡ Some c.code) cell row walks.told (fact walks.told) in
      e ∙ ap pointed (sym (child_leads records shelf at code cell read.stands))
      ∙ firsts records.schema (seen records.schema.phdam (cells_seen records shelf)) (homes (rows_seen records shelf)) trees at (child_place records.schema.types code) code
      (records_of records.schema records.place (cells_seen records shelf) (rows_seen records shelf) trees walks.side.walked) (child_in records shelf trees walks at code cell read.stands read.uncopied lt)
      (child_coded places records shelf at code cell read.stands read.holds);
}

pub twin_leads : (records : Records) (shelf : ShelfView) (at : ℕ) (cell : Cell) → cells_seen records shelf at ≡ Some cell → cell.code ≢ 1
    → leads_to (Behind at) (seen records.schema.phdam (cells_seen records shelf)) (homes (rows_seen records shelf)) ≡ cell.twin
twin_leads records shelf at cell is off =
    let s = seen_at records.schema.phdam (cells_seen records shelf) at cell is in
    ap (λ (o : Option Cell). option_map_or (λ c. c.twin) o 0) s.is ∙ s.of.twin off

pub twin_coded : (records : Records) (shelf : ShelfView) (at : ℕ) (cell : Cell) → cells_seen records shelf at ≡ Some cell → code_behind records.schema.types (Behind at) (seen records.schema.phdam (cells_seen records shelf)) ≡ Some cell.code
twin_coded records shelf at cell is =
    let s = seen_at records.schema.phdam (cells_seen records shelf) at cell is in
    ap (option_map (λ (c : Cell). c.code)) s.is ∙ ap (λ (n : ℕ). Some n) s.of.code

twin_leads_on : PointersLeadOn → (records : Records) (shelf : ShelfView) → StandsForRecords records shelf → (at : ℕ) (cell : Cell) → HoldsRow records shelf at (λ c. c.code ≢ 1)
    → (IsTold records.cells shelf → cells_seen records shelf at ≡ Some cell) → (found : Option ℕ) → found ≡ pointed cell.twin → FindsTwins records shelf at (λ c. c.twin) (λ c. c.code) are_twins found
twin_leads_on law records shelf stands at cell row fact found e = subst (λ (o : Option ℕ). FindsTwins records shelf at (λ c. c.twin) (λ c. c.code) are_twins o) (sym e) (record {
  is = λ told other is. ap (λ (c : Cell). pointed c.twin) (some_is cell other (sym (fact told) ∙ is));
  row = if_pointed cell.twin (λ home. (other : Cell) → cells_seen records shelf at ≡ Some other → HoldsRow records shelf home (λ c. c.code ≡ other.code)) (λ some other is told.
      let read = read_of records shelf at (λ c. c.code ≢ 1) cell row told (fact told) in
      let m = met_of records shelf stands told at cell read.stands read.uncopied in
      let r = led law records shelf m.trees m.walks (Behind at) cell.twin cell.code (in_twin (seen records.schema.phdam (cells_seen records shelf)) (homes (rows_seen records shelf)) m.trees at m.met)
      (twin_leads records shelf at cell read.stands read.holds) some (twin_coded records shelf at cell read.stands) in
      (r.cell, r.stands, (r.uncopied, r.code_is ∙ ap (λ (c : Cell). c.code) (some_is cell other (sym (fact told) ∙ is)))));
  beside = if_pointed cell.twin (λ home. (trees : Chains) → Walks records shelf trees → stand_so are_twins at home (list_in None trees) ≡ true) (λ some trees walks.
      let read = read_of records shelf at (λ c. c.code ≢ 1) cell row walks.told (fact walks.told) in
      let leads = twin_leads records shelf at cell read.stands read.holds in
      subst (λ (n : ℕ). stand_so are_twins at n (list_in None trees) ≡ true) leads
      (law.twin records.schema (seen records.schema.phdam (cells_seen records shelf)) (homes (rows_seen records shelf)) trees at
      (records_of records.schema records.place (cells_seen records shelf) (rows_seen records shelf) trees walks.side.walked) (walks.side.walked.all_met at cell read.stands read.uncopied) (subst (λ (n : ℕ). 0 < n) (sym leads) some)));
})

pub twin_found : PointersLeadOn → TwinsAreNext → (records : Records) (shelf : ShelfView) → StandsForRecords records shelf → (at : ℕ) (cell : Cell) → HoldsRow records shelf at (λ c. c.code ≢ 1)
    → (IsTold records.cells shelf → cells_seen records shelf at ≡ Some cell) → (found : Option ℕ) → found ≡ pointed cell.twin → FindsTwin records shelf at found
twin_found law nexts records shelf stands at cell row fact found e = record {
  leads = twin_leads_on law records shelf stands at cell row fact found e;
  next = λ other is trees walks.
      let same : cell ≡ other = some_is cell other (sym (fact walks.told) ∙ is) in
      let read = read_of records shelf at (λ c. c.code ≢ 1) cell row walks.told (fact walks.told) in
      let s = seen_at records.schema.phdam (cells_seen records shelf) at cell read.stands in
      let off : s.other.code ≢ 1 = λ one. read.holds (sym s.of.code ∙ one) in
      let r = records_of records.schema records.place (cells_seen records shelf) (rows_seen records shelf) trees walks.side.walked in
      e ∙ ap pointed (sym (s.of.twin read.holds))
      ∙ nexts records.schema (seen records.schema.phdam (cells_seen records shelf)) (homes (rows_seen records shelf)) trees at s.other r (walks.side.walked.all_met at cell read.stands read.uncopied) s.is off
      ∙ ap (λ (n : ℕ). first_home_of n (behind_span_at records.schema.types (list_in None trees) at)) (s.of.code ∙ ap (λ (c : Cell). c.code) same);
}
