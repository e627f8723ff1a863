-- A stored cell to which the pointer was set.
use Rattle.std.proofs.Common.{◌≡◌, ◌≢◌, ℕ, ◌-◌, ◌<◌, ◌≤◌, false, List, [], length, take, Option, None, Some, refl, sym, ap, subst, ◌∙◌, arith}
use Rattle.std.specs.Prelude.{slice_index, count_by, IsSome}
use Rattle.std.specs.Option.{option_map, option_map_or}
use Rattle.hal_base.specs.declared.pages.SetId.{SetId}
use Rattle.hal_base.specs.ShelfCalls.{ShelfView, SameShelf}
use Rattle.hal_schema.specs.declared.schema.Schema.{Schema}
use Rattle.hal_schema.specs.Facts.{SchemasAreKept}
use Rattle.hal_schema.specs.SegType.{parent_code, is_child}
use Rattle.hal_schema.specs.declared.schema.SegType.{SegType}
use Rattle.std.proofs.lemmas.List.Sums.{count_by-le-length}
use Rattle.std.proofs.lemmas.List.{length-take}
use Rattle.segment_blocks.specs.declared.tile.Cell.{Cell}
use Rattle.free_space.specs.Map.{Adds, Alters}
use Rattle.free_space.specs.Side.{place_at}
use Rattle.free_space.specs.SideCalls.{StandsForSide, IsTold, Holds, Turns}
use Rattle.free_space.specs.SideLaws.{NoneAtZero}
use Rattle.keyed_sets.specs.declared.set.KeyedSet.{KeyedSet}
use Rattle.record_walk.specs.Tree.{Occurrence, Chains}
use Rattle.record_walk.specs.Pointers.{Pointer}
use Rattle.record_walk.specs.Changes.{stands_in, leads_to, set_in_cell, new_cell}
use Rattle.record_walk.specs.Orders.{child_place, ChildPlaces}
use Rattle.record_walk.specs.Records.{code_behind}
use Rattle.record_walk.specs.Side.{RootRow, seen, IsWalked, IsSideOf}
use Rattle.record_walk.specs.SideChanges.{ChangedSides, SetsPointer, leads_in, set_in_root_rows, kinds_of}
use Rattle.record_walk.specs.Spans.{IsIn}
use Rattle.record_tree.specs.declared.new_row.NewRow.{NewRow}
use Rattle.record_tree.specs.declared.records.Records.{Records}
use Rattle.record_tree.specs.Sides.{part_number, root_set, root_shape, root_rows, letters_of, shapes_of}
use Rattle.record_tree.specs.Standing.{IsOfSide, StandsForRecords, Walks, HoldsRow, cells_seen, rows_seen}
use Rattle.record_tree.specs.Placing.{HasPointer, pointer_at}
use Rattle.record_tree.specs.Changing.{CellComes, at_home}
use Rattle.record_tree.specs.Storing.{StoresCell, ReadsPointer, HasChildPlace, Joins, pointer_home, joined_trees, segment_for, row_cell, named_cell}
use Rattle.record_tree.proofs.Seen.{some_is}
use Rattle.record_tree.proofs.Staying.{cells_same}
use Rattle.record_tree.proofs.Leading.{homes, read_of, in_twin, child_in, child_leads, child_coded, twin_leads, twin_coded}
use Rattle.record_tree.proofs.Frames.{within_ten}
use Rattle.record_tree.proofs.Storing.{Beside}

-- ---- what was read

-- a type that has a parent is not the root's
pub has_parent : SchemasAreKept → (schema : Schema) (code above : ℕ) → parent_code schema.types code ≡ Some above → code ≢ 1
has_parent kept schema code above is one =
    let none : None ≡ Some above = sym (kept schema).root ∙ ap (parent_code schema.types) (sym one) ∙ is in
    cc

-- the cell of the prior twin, and the cell above
pub record TwinAt (records : Records) (shelf : ShelfView) (at code : ℕ) (cell : Cell) : Type 0 where
  pub stands : cells_seen records shelf at ≡ Some cell
  pub uncopied : cell.copied ≡ false
  pub code_is : cell.code ≡ code
  pub dependent : code ≢ 1

pub twin_at : SchemasAreKept → (records : Records) (shelf : ShelfView) (above at code : ℕ) (cell : Cell) → HasPointer records shelf above (Some at) code → IsTold records.cells shelf → cells_seen records shelf at ≡ Some cell
    → TwinAt records shelf at code cell
twin_at kept records shelf above at code cell p told is =
    let (up, there, (un, parent)) = p.parent told in
    let read = read_of records shelf at (λ c. c.code ≡ code) cell (p.twin at refl) told is in
    record { stands = is; uncopied = read.uncopied; code_is = read.holds; dependent = has_parent kept records.schema code up.code parent }

pub reads_twin : SchemasAreKept → (records : Records) (shelf : ShelfView) (above at code : ℕ) (cell : Cell) → HasPointer records shelf above (Some at) code → (IsTold records.cells shelf → cells_seen records shelf at ≡ Some cell)
    → ReadsPointer records shelf above (Some at) code cell.twin
reads_twin kept records shelf above at code cell p found = record {
  is = λ told.
      let t = twin_at kept records shelf above at code cell p told (found told) in
      sym (twin_leads records shelf at cell (found told) (λ one. t.dependent (sym t.code_is ∙ one)));
  place = λ told.
      let t = twin_at kept records shelf above at code cell p told (found told) in
      (cell, found told, (t.uncopied, λ none. absurd (let wrong : Some at ≡ None = none in cc)));
}

pub reads_child : (records : Records) (shelf : ShelfView) (above code to : ℕ) (cell : Cell) → HasPointer records shelf above None code → (IsTold records.cells shelf → cells_seen records shelf above ≡ Some cell)
    → child_place records.schema.types code < length cell.children → to ≡ slice_index cell.children (child_place records.schema.types code) → ReadsPointer records shelf above None code to
reads_child records shelf above code to cell p found lt is = record {
  is = λ told. is ∙ sym (child_leads records shelf above code cell (found told));
  place = λ told.
      let read = read_of records shelf above (λ c. parent_code records.schema.types code ≡ Some c.code) cell p.parent told (found told) in
      (cell, found told, (read.uncopied, λ none. lt));
}

-- ---- the pointer

child_upto : (types : List SegType) (above : Option ℕ) (n : ℕ) → option_map_or (λ parent. count_by (is_child parent) (take n types)) above 0 ≤ n
child_upto types None n = omega arith
child_upto types (Some parent) n =
    let few = count_by-le-length (is_child parent) (take n types) in
    let front = length-take n types in
    omega (arith, few, front)

-- a child's place is below its code
pub child_below : (types : List SegType) (code : ℕ) → 0 < code → child_place types code < code
child_below types code some = let upto = child_upto types (parent_code types code) (code - 1) in omega (arith, upto, some)

-- what is so of the pointer to a dependent, wherever it stands
pub record IsDependents (pointer : Pointer) (home : ℕ) : Type 0 where
  pub stands : stands_in pointer ≡ Some home
  pub rows : (to : ℕ) (rows : List RootRow) → set_in_root_rows pointer to rows ≡ rows
  pub leads : (cells : ℕ → Option Cell) (firsts : List ℕ) → leads_to pointer cells [] ≡ leads_to pointer cells firsts

pub is_dependents : (schema : Schema) (above : ℕ) (prior : Option ℕ) (code : ℕ) → IsDependents (pointer_at schema above code prior) (pointer_home above prior)
is_dependents schema above None code = record { stands = refl; rows = λ to rows. refl; leads = λ cells firsts. refl }
is_dependents schema above (Some at) code = record { stands = refl; rows = λ to rows. refl; leads = λ cells firsts. refl }

-- and beside trees that hang
pub record IsMet (records : Records) (shelf : ShelfView) (pointer : Pointer) (code : ℕ) (trees : Chains) : Type 0 where
  pub within : IsIn pointer (seen records.schema.phdam (cells_seen records shelf)) (homes (rows_seen records shelf)) trees
  pub coded : code_behind records.schema.types pointer (seen records.schema.phdam (cells_seen records shelf)) ≡ Some code
  pub dependent : code ≢ 1

pub is_met : SchemasAreKept → ChildPlaces → (records : Records) (shelf : ShelfView) (above : ℕ) (prior : Option ℕ) (code : ℕ) → HasPointer records shelf above prior code
    → HoldsRow records shelf (pointer_home above prior) (HasChildPlace records.schema prior code) → (trees : Chains) → Walks records shelf trees → IsMet records shelf (pointer_at records.schema above code prior) code trees
is_met kept places records shelf above None code p holds trees walks =
    let (cell, is, (un, has)) = holds walks.told in
    let read = read_of records shelf above (λ c. parent_code records.schema.types code ≡ Some c.code) cell p.parent walks.told is in
    record {
      within = child_in records shelf trees walks above code cell is un (has refl);
      coded = child_coded places records shelf above code cell is read.holds;
      dependent = has_parent kept records.schema code cell.code read.holds;
    }
is_met kept places records shelf above (Some at) code p holds trees walks =
    let (cell, is, (un, has)) = holds walks.told in
    let t = twin_at kept records shelf above at code cell p walks.told is in
    record {
      within = in_twin (seen records.schema.phdam (cells_seen records shelf)) (homes (rows_seen records shelf)) trees at (walks.side.walked.all_met at cell is un);
      coded = twin_coded records shelf at cell is ∙ ap (λ (n : ℕ). Some n) t.code_is;
      dependent = t.dependent;
    }

-- ---- the cells

-- a cell came to a free address, and then one that stands was changed
pub record AddsThenAlters (at home : ℕ) (cell : Cell) (change : Cell → Cell) (old now : ℕ → Option Cell) : Type 0 where
  pub apart : at ≢ home
  pub free : old at ≡ None
  pub stands : now at ≡ Some cell
  pub changed : now home ≡ option_map change (old home)
  pub others : (other : ℕ) → other ≢ at → other ≢ home → now other ≡ old other

pub adds_then_alters : (at home : ℕ) (cell there : Cell) (change : Cell → Cell) (old mid now : ℕ → Option Cell) → old home ≡ Some there → Adds at cell old mid → Alters home change mid now → AddsThenAlters at home cell change old now
adds_then_alters at home cell there change old mid now is adds alters =
    let off : at ≢ home = λ e. let none : None ≡ Some there = sym adds.free ∙ ap old e ∙ is in cc in
    record {
      apart = off;
      free = adds.free;
      stands = alters.elsewhere at off ∙ adds.stands;
      changed = alters.altered ∙ ap (option_map change) (adds.elsewhere home (λ e. off (sym e)));
      others = λ other a b. alters.elsewhere other b ∙ adds.elsewhere other a;
    }

pub cell_comes : (schema : Schema) (pointer : Pointer) (home : ℕ) (new : Occurrence) (to : ℕ) (old now : ℕ → Option Cell) → stands_in pointer ≡ Some home → to ≡ leads_to pointer (seen schema.phdam old) []
    → AddsThenAlters new.home home (new_cell new (kinds_of schema new) to) (set_in_cell pointer new.home) old now → CellComes schema pointer new old now
cell_comes schema pointer home new to old now stands leads a = record {
  free = a.free;
  stands = a.stands ∙ ap (λ (n : ℕ). Some (new_cell new (kinds_of schema new) n)) leads;
  others = record {
    set = λ other e. subst (λ (n : ℕ). now n ≡ option_map (set_in_cell pointer new.home) (old n)) (some_is home other (sym stands ∙ e)) a.changed;
    others = λ other off e. a.others other off (λ same. e (stands ∙ ap (λ (n : ℕ). Some n) (sym same)));
  };
}

-- ---- the side

pub of_side_stays : (before now : Records) → now.schema ≡ before.schema → now.place ≡ before.place → now.first ≡ before.first → now.cells.first ≡ before.cells.first → now.cells.letters ≡ before.cells.letters
    → now.cells.shapes ≡ before.cells.shapes → now.roots.set ≡ before.roots.set → now.roots.shape ≡ before.roots.shape → IsOfSide before → IsOfSide now
of_side_stays before now schema place first cells letters shapes roots shape of = record {
  part = ap (λ (s : SetId). s.part) first ∙ of.part ∙ sym (ap (λ (s : Schema). part_number s now.place) schema ∙ ap (part_number before.schema) place);
  first = cells ∙ of.first ∙ sym first;
  letters = letters ∙ of.letters ∙ ap letters_of (sym schema);
  shapes = shapes ∙ of.shapes ∙ ap shapes_of (sym schema);
  roots = roots ∙ of.roots ∙ ap root_set (sym first);
  shape = shape ∙ of.shape ∙ ap root_shape (sym schema);
  kind = ap (λ (s : Schema). s.phdam) schema ∙ of.kind;
}

pub side_under : (schema new_schema : Schema) (place new_place : ℕ) (cells : ℕ → Option Cell) (rows : List RootRow) (trees : Chains) → new_schema ≡ schema → new_place ≡ place → IsSideOf schema place cells rows trees
    → IsSideOf new_schema new_place cells rows trees
side_under schema new_schema place new_place cells rows trees s p side =
    subst (λ (x : Schema). IsSideOf x new_place cells rows trees) (sym s) (subst (λ (n : ℕ). IsSideOf schema n cells rows trees) (sym p) side)

-- what is known once the pointer is set
pub record IsJoined (records mid : Records) (above : ℕ) (prior : Option ℕ) (new : NewRow) (to at : ℕ) (a b c : ShelfView) : Type 0 where
  pub stands : StandsForRecords records a
  pub pointer : HasPointer records a above prior new.code
  pub reads : ReadsPointer records a above prior new.code to
  pub stored : StoresCell records mid (named_cell records new to at) a b at
  pub beside : Beside mid b c
  pub side : StandsForSide mid.cells c
  pub set : Turns mid.cells mid.cells b c (Alters (pointer_home above prior) (set_in_cell (pointer_at mid.schema above new.code prior) at))

altered : (records mid : Records) (above : ℕ) (prior : Option ℕ) (new : NewRow) (to at : ℕ) (a b c : ShelfView) → IsJoined records mid above prior new to at a b c → (told : IsTold records.cells a) → (there : Cell) → cells_seen records a (pointer_home above prior) ≡ Some there
    → AddsThenAlters at (pointer_home above prior) (named_cell records new to at) (set_in_cell (pointer_at records.schema above new.code prior) at) (cells_seen records a) (cells_seen mid c)
altered records mid above prior new to at a b c j told there is =
    let (stored, adds) = j.stored.adds told in
    let (now, alters) = j.set stored in
    adds_then_alters at (pointer_home above prior) (named_cell records new to at) there (set_in_cell (pointer_at records.schema above new.code prior) at) (cells_seen records a) (cells_seen mid b) (cells_seen mid c) is adds
    (subst (λ (s : Schema). Alters (pointer_home above prior) (set_in_cell (pointer_at s above new.code prior) at) (cells_seen mid b) (cells_seen mid c)) j.stored.schema alters)

walked_now : ChangedSides → NoneAtZero → SchemasAreKept → ChildPlaces → (records mid : Records) (above : ℕ) (prior : Option ℕ) (new : NewRow) (to at : ℕ) (a b c : ShelfView) → IsJoined records mid above prior new to at a b c
    → (trees : Chains) → Walks records a trees → IsWalked records.schema records.place (cells_seen mid c) (rows_seen records a) (joined_trees records above prior new at trees)
walked_now law zero kept places records mid above prior new to at a b c j trees walks =
    let (there, is, (un, has)) = j.reads.place walks.told in
    let pointer : Pointer = pointer_at records.schema above new.code prior in
    let d = is_dependents records.schema above prior new.code in
    let m = is_met kept places records a above prior new.code j.pointer j.reads.place trees walks in
    let s = altered records mid above prior new to at a b c j walks.told there is in
    let off : at ≢ 0 = zero mid.cells b at (named_cell records new to at) j.stored.cells.stands (j.stored.adds walks.told).1.stands in
    let occurrence : Occurrence = at_home records new.name (segment_for new) at in
    let sets : SetsPointer pointer at (cells_seen records a) (cells_seen mid c) (λ home. home ≢ at) = record {
      set = λ home e.
          let one : pointer_home above prior ≡ home = some_is (pointer_home above prior) home (sym d.stands ∙ e) in
          subst (λ (n : ℕ). cells_seen mid c n ≡ option_map (set_in_cell pointer at) (cells_seen records a n)) one s.changed;
      others = λ home away elsewhere. s.others home away (λ e. elsewhere (d.stands ∙ ap (λ (n : ℕ). Some n) (sym e)));
    } in
    let stands : cells_seen mid c at ≡ Some (new_cell occurrence (kinds_of records.schema occurrence) (leads_in records.schema pointer (cells_seen records a) (rows_seen records a))) =
    s.stands ∙ ap (λ (n : ℕ). Some (row_cell records.schema occurrence n)) (j.reads.is walks.told ∙ d.leads (seen records.schema.phdam (cells_seen records a)) (homes (rows_seen records a))) in
    subst (λ (rows : List RootRow). IsWalked records.schema records.place (cells_seen mid c) rows (joined_trees records above prior new at trees)) (d.rows at (rows_seen records a))
    (law.inserts records.schema records.place (cells_seen records a) (cells_seen mid c) (rows_seen records a) trees pointer occurrence walks.side.walked m.within (omega (arith, off)) s.free m.coded (λ one. absurd (m.dependent one)) stands sets)

pub side_joined : ChangedSides → NoneAtZero → SchemasAreKept → ChildPlaces → (records mid : Records) (above : ℕ) (prior : Option ℕ) (new : NewRow) (to at : ℕ) (a b c : ShelfView) → IsJoined records mid above prior new to at a b c
    → (trees : Chains) → Walks records a trees → IsSideOf mid.schema mid.place (cells_seen mid c) (rows_seen mid c) (joined_trees records above prior new at trees)
side_joined law zero kept places records mid above prior new to at a b c j trees walks =
    side_under records.schema mid.schema records.place mid.place (cells_seen mid c) (rows_seen mid c) (joined_trees records above prior new at trees) j.stored.schema j.stored.place
    (subst (λ (rows : List RootRow). IsSideOf records.schema records.place (cells_seen mid c) rows (joined_trees records above prior new at trees)) (sym (j.beside.rows ∙ j.stored.rows))
    (record { walked = walked_now law zero kept places records mid above prior new to at a b c j trees walks; rows_are_used = walks.side.rows_are_used }))

pub joins : ChangedSides → NoneAtZero → SchemasAreKept → ChildPlaces → (records mid : Records) (above : ℕ) (prior : Option ℕ) (new : NewRow) (to at : ℕ) (a b c : ShelfView) → IsJoined records mid above prior new to at a b c
    → Joins records mid above prior new a c at
joins law zero kept places records mid above prior new to at a b c j = record {
  stays = record {
    schema = j.stored.schema;
    place = j.stored.place;
    first = j.stored.first;
    stands = record {
      of = of_side_stays records mid j.stored.schema j.stored.place j.stored.first j.stored.cells.first j.stored.cells.letters j.stored.cells.shapes (ap (λ (r : KeyedSet). r.set) j.stored.roots) (ap (λ (r : KeyedSet). r.shape) j.stored.roots) j.stands.of;
      cells = j.side;
      roots = j.beside.opened;
      side = λ told.
          let was : IsTold records.cells a = j.stored.back (j.beside.back told) in
          let side = j.stands.side was in
          let trees : Chains = side.0 in
          (joined_trees records above prior new at trees, side_joined law zero kept places records mid above prior new to at a b c j trees (record { told = was; side = side.1 }));
    };
  };
  place = j.reads.place;
  trees = λ trees walks. record {
    told = (j.set (j.stored.adds walks.told).0).0;
    side = side_joined law zero kept places records mid above prior new to at a b c j trees walks;
  };
  cells = λ told.
      let (there, is, (un, has)) = j.reads.place told in
      let d = is_dependents records.schema above prior new.code in
      cell_comes records.schema (pointer_at records.schema above new.code prior) (pointer_home above prior) (at_home records new.name (segment_for new) at) to (cells_seen records a) (cells_seen mid c) d.stands (j.reads.is told)
      (altered records mid above prior new to at a b c j told there is);
}

-- ---- the pointer after the cell was stored

pub pointer_stored : (records mid : Records) (above : ℕ) (prior : Option ℕ) (new : NewRow) (to at : ℕ) (a b : ShelfView) → ReadsPointer records a above prior new.code to → StoresCell records mid (named_cell records new to at) a b at
    → Holds mid.cells b (pointer_home above prior) (HasChildPlace mid.schema prior new.code)
pointer_stored records mid above prior new to at a b r st told =
    let was = st.back told in
    let (cell, is, (un, has)) = r.place was in
    let adds = (st.adds was).1 in
    let off : pointer_home above prior ≢ at = λ e. let none : None ≡ Some cell = sym adds.free ∙ ap (cells_seen records a) (sym e) ∙ is in cc in
    (cell, adds.elsewhere (pointer_home above prior) off ∙ is, subst (λ (s : Schema). HasChildPlace s prior new.code cell) (sym st.schema) has)

pub pointer_within : (records mid : Records) (above : ℕ) (prior : Option ℕ) (new : NewRow) (to at : ℕ) (a b : ShelfView) → ReadsPointer records a above prior new.code to → StoresCell records mid (named_cell records new to at) a b at
    → IsTold mid.cells b → place_at (pointer_home above prior) < 10
pointer_within records mid above prior new to at a b r st told =
    let (cell, is, has) = pointer_stored records mid above prior new to at a b r st told in
    within_ten mid.cells.first mid.cells.shapes b (pointer_home above prior) cell is

-- ---- from a shelf that was only read

pub walks_same : (records : Records) (old new : ShelfView) → SameShelf old new → (trees : Chains) → Walks records old trees → Walks records new trees
walks_same records old new same trees walks = record {
  told = subst (λ (o : Option (List (List ℕ))). IsSome o) (sym (same.pages records.cells.first)) walks.told;
  side = subst (λ (rows : List RootRow). IsSideOf records.schema records.place (cells_seen records new) rows trees) (sym (ap (root_rows records.roots.shape) (same.pages records.roots.set)))
      (subst (λ (cells : ℕ → Option Cell). IsSideOf records.schema records.place cells (rows_seen records old) trees) (sym (cells_same records.cells.first records.cells.shapes old new same.pages)) walks.side);
}

pub told_same : (records : Records) (old new : ShelfView) → SameShelf old new → IsTold records.cells old → IsTold records.cells new
told_same records old new same told = subst (λ (o : Option (List (List ℕ))). IsSome o) (sym (same.pages records.cells.first)) told

pub holds_same : (records : Records) (old new : ShelfView) (at : ℕ) (P : Cell → Type 0) → SameShelf old new → HoldsRow records new at P → HoldsRow records old at P
holds_same records old new at P same row told =
    let (cell, is, holds) = row (told_same records old new same told) in
    (cell, ap (λ (cells : ℕ → Option Cell). cells at) (sym (cells_same records.cells.first records.cells.shapes old new same.pages)) ∙ is, holds)

same_back : {old new : ShelfView} → SameShelf old new → SameShelf new old
same_back same = record { pages = λ set. sym (same.pages set); places = λ set. sym (same.places set); free = sym same.free }

pub holds_on : (records : Records) (old new : ShelfView) (at : ℕ) (P : Cell → Type 0) → SameShelf old new → HoldsRow records old at P → HoldsRow records new at P
holds_on records old new at P same row = holds_same records new old at P (same_back same) row

pub pointer_on : (records : Records) (old new : ShelfView) (above : ℕ) (prior : Option ℕ) (code : ℕ) → SameShelf old new → HasPointer records old above prior code → HasPointer records new above prior code
pointer_on records old new above prior code same p = record {
  parent = holds_on records old new above (λ cell. parent_code records.schema.types code ≡ Some cell.code) same p.parent;
  twin = λ at is. holds_on records old new at (λ cell. cell.code ≡ code) same (p.twin at is);
}

pub reads_on : (records : Records) (old new : ShelfView) (above : ℕ) (prior : Option ℕ) (code to : ℕ) → SameShelf old new → ReadsPointer records old above prior code to → ReadsPointer records new above prior code to
reads_on records old new above prior code to same r = record {
  is = λ told. r.is (told_same records new old (same_back same) told)
      ∙ ap (λ (cells : ℕ → Option Cell). leads_to (pointer_at records.schema above code prior) (seen records.schema.phdam cells) []) (sym (cells_same records.cells.first records.cells.shapes old new same.pages));
  place = holds_on records old new (pointer_home above prior) (HasChildPlace records.schema prior code) same r.place;
}

pub joins_same : (records now : Records) (above : ℕ) (prior : Option ℕ) (new : NewRow) (at : ℕ) (old one later : ShelfView) → SameShelf old one → Joins records now above prior new one later at → Joins records now above prior new old later at
joins_same records now above prior new at old one later same j = record {
  stays = j.stays;
  place = holds_same records old one (pointer_home above prior) (HasChildPlace records.schema prior new.code) same j.place;
  trees = λ trees walks. j.trees trees (walks_same records old one same trees walks);
  cells = λ told. subst (λ (cells : ℕ → Option Cell). CellComes records.schema (pointer_at records.schema above new.code prior) (at_home records new.name (segment_for new) at) cells (cells_seen now later)) (cells_same records.cells.first records.cells.shapes old one same.pages) (j.cells (told_same records old one same told));
}
