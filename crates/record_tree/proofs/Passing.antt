-- A pointer that is set past a row.
use Rattle.std.proofs.Common.{◌≡◌, ◌≢◌, ℕ, zero, suc, ◌<◌, Bool, true, false, cond, List, [], ◌∷◌, length, map, Option, None, Some, refl, sym, ap, subst, ◌∙◌, arith}
use Rattle.std.specs.Prelude.{slice_index, slice_set, IfSome, IsSomeAnd, ⊤}
use Rattle.std.specs.Int.{w32, from_be_bytes}
use Rattle.std.specs.List.{remove}
use Rattle.std.specs.Option.{option_map}
use Rattle.std.specs.Str.{bytes_eq}
use Rattle.std.proofs.lemmas.Bool.{eq-eqb}
use Rattle.hal_base.specs.ShelfCalls.{ShelfView, SameShelf, ChangedIn}
use Rattle.segment_blocks.specs.declared.tile.Cell.{Cell}
use Rattle.free_space.specs.Map.{Alters}
use Rattle.free_space.specs.SideCalls.{StandsForSide, Finds, Holds, IsTold, Turns, SameCells, set_at}
use Rattle.free_space.specs.SideLaws.{IsApart, OthersLeaveASide, StaysBeside}
use Rattle.keyed_sets.specs.declared.row.RowShape.{RowShape}
use Rattle.keyed_sets.specs.declared.set.KeyedSet.{KeyedSet}
use Rattle.keyed_sets.specs.Calls.{StaysOpen, Removes}
use Rattle.keyed_sets.specs.Calls.{Finds as FindsRow}
use Rattle.keyed_sets.specs.Layout.{Row}
use Rattle.keyed_sets.specs.Map.{lookup, without_row, rows_of}
use Rattle.record_walk.specs.Tree.{Chains}
use Rattle.record_walk.specs.Changes.{stands_in, set_in_cell}
use Rattle.record_walk.specs.Orders.{child_place}
use Rattle.record_walk.specs.Pointers.{Pointer, Behind, Below, Root}
use Rattle.record_walk.specs.Side.{RootRow, alone, seen}
use Rattle.record_walk.specs.SideChanges.{SetsPointer}
use Rattle.record_walk.specs.Spans.{IsIn}
use Rattle.record_tree.specs.declared.records.Records.{Records}
use Rattle.record_tree.specs.Descending.{Parts, PartsFrom}
use Rattle.record_tree.specs.Finding.{first_child}
use Rattle.record_tree.specs.Sides.{root_row, root_rows, root_set}
use Rattle.record_tree.specs.Standing.{StandsForRecords, HoldsRow, Walks, cells_seen, rows_seen}
use Rattle.record_tree.proofs.CellFrames.{told_same, cells_as}
use Rattle.record_tree.proofs.Frames.{root_pages, roots_apart}
use Rattle.record_tree.proofs.Leading.{homes, in_twin, child_in, child_leads, twin_leads}
use Rattle.record_tree.proofs.RootRows.{Alike, in_row, told_pages}
use Rattle.record_tree.proofs.Seen.{some_is}
use Rattle.record_tree.proofs.Staying.{set_beside, side_same}

-- ---- a pointer in a cell

sets_in : (pointer : Pointer) (at to : ℕ) (cells now : ℕ → Option Cell) → stands_in pointer ≡ Some at → Alters at (set_in_cell pointer to) cells now → SetsPointer pointer to cells now (λ _. ⊤)
sets_in pointer at to cells now stands alters = record {
  set = λ home e. let same : at ≡ home = some_is at home (sym stands ∙ e) in subst (λ (h : ℕ). now h ≡ option_map (set_in_cell pointer to) (cells h)) same alters.altered;
  others = λ home any off. alters.elsewhere home (λ e. off (stands ∙ ap (λ (h : ℕ). Some h) (sym e)));
}

-- where a pointer of a cell was set, the rest of the side is as it was
from_cell : (records : Records) (old new : ShelfView) (pointer : Pointer) (holder at : ℕ) (cell : Cell) (P : Cell → Type 0) → Alike old → Alike new → StandsForRecords records old → HoldsRow records old holder P → StandsForSide records.cells new → ChangedIn (set_at records.cells holder) old new
    → Turns records.cells records.cells old new (λ cells now. SetsPointer pointer (alone cell).twin cells now (λ _. ⊤))
    → ((trees : Chains) → Walks records old trees → rows_seen records new ≡ rows_seen records old → Parts records.schema pointer at (alone cell).twin (cells_seen records old) (cells_seen records new) (rows_seen records old) (rows_seen records new) trees)
    → PartsFrom records records pointer at cell old new
from_cell records old new pointer holder at cell P before after stands row cells changed turns parts =
    let pages = root_pages records old new holder P before after stands row changed in
    record {
      schema = refl;
      place = refl;
      first = refl;
      same_cells = refl;
      cells = cells;
      set = refl;
      shape = refl;
      roots = set_beside records.roots old new stands.roots pages (changed.places records.roots.set);
      told = λ told. (turns told).0;
      parts = λ trees walks. parts trees walks (ap (root_rows records.roots.shape) pages);
    }

turned : (records : Records) (old new : ShelfView) (pointer : Pointer) (holder to twin : ℕ) → stands_in pointer ≡ Some holder → to ≡ twin → Turns records.cells records.cells old new (Alters holder (set_in_cell pointer to))
    → Turns records.cells records.cells old new (λ cells now. SetsPointer pointer twin cells now (λ _. ⊤))
turned records old new pointer holder to twin stands same turns told =
    let t = turns told in
    (t.0, sets_in pointer holder twin (cells_seen records old) (cells_seen records new) stands (subst (λ (n : ℕ). Alters holder (set_in_cell pointer n) (cells_seen records old) (cells_seen records new)) same t.1))

pub parts_behind : (records : Records) (old new : ShelfView) (prior at to : ℕ) (cell : Cell) → Alike old → Alike new → StandsForRecords records old → HoldsRow records old prior (λ c. (c.code ≢ 1) × (c.twin ≡ at)) → StandsForSide records.cells new → ChangedIn (set_at records.cells prior) old new
    → to ≡ (alone cell).twin → Turns records.cells records.cells old new (Alters prior (λ c. record c { twin = to })) → PartsFrom records records (Behind prior) at cell old new
parts_behind records old new prior at to cell before after stands row cells changed same alters =
    let turns = turned records old new (Behind prior) prior to (alone cell).twin refl same alters in
    from_cell records old new (Behind prior) prior at cell (λ c. (c.code ≢ 1) × (c.twin ≡ at)) before after stands row cells changed turns (λ trees walks rows.
    let (own, there, (un, (off, leads))) = row walks.told in
    let sets = (turns walks.told).1 in
    record {
      pointer = Behind prior;
      holder = refl;
      single = λ k e. absurd (let wrong : Behind prior ≡ Root k = e in cc);
      within = in_twin (seen records.schema.phdam (cells_seen records old)) (homes (rows_seen records old)) trees prior (walks.side.walked.all_met prior own there un);
      leads = twin_leads records old prior own there off ∙ leads;
      sets = sets;
      sets_shown = sets;
      rows_are = rows;
    })

pub within_of : (xs : List ℕ) (k at : ℕ) → slice_index xs k ≡ at → at ≢ 0 → k < length xs
within_of [] k at e some = absurd (some (sym e))
within_of (x ∷ xs) zero at e some = omega arith
within_of (x ∷ xs) (suc k) at e some = let lt = within_of xs k at e some in omega (arith, lt)

pub place_within : (records : Records) (shelf : ShelfView) (above place at code : ℕ) → (IsTold records.cells shelf → at ≢ 0) → place ≡ child_place records.schema.types code → HoldsRow records shelf above (λ c. first_child records.schema code c ≡ at)
    → Holds records.cells shelf above (λ c. place < length c.children)
place_within records shelf above place at code some is row told =
    let (cell, there, (un, leads)) = row told in
    (cell, there, subst (λ (n : ℕ). n < length cell.children) (sym is) (within_of cell.children (child_place records.schema.types code) at leads (some told)))

pub parts_below : (records : Records) (old new : ShelfView) (above place at to : ℕ) (cell : Cell) → (IsTold records.cells old → at ≢ 0) → Alike old → Alike new → StandsForRecords records old → HoldsRow records old above (λ c. first_child records.schema cell.code c ≡ at) → StandsForSide records.cells new
    → ChangedIn (set_at records.cells above) old new → place ≡ child_place records.schema.types cell.code → to ≡ (alone cell).twin → Turns records.cells records.cells old new (Alters above (λ c. record c { children = slice_set c.children place to }))
    → PartsFrom records records (Below above (child_place records.schema.types cell.code)) at cell old new
parts_below records old new above place at to cell some before after stands row cells changed is same alters =
    let place_is : ℕ = child_place records.schema.types cell.code in
    let turns = turned records old new (Below above (child_place records.schema.types cell.code)) above to (alone cell).twin refl same
    (subst (λ (n : ℕ). Turns records.cells records.cells old new (Alters above (λ c. record c { children = slice_set c.children n to }))) is alters) in
    from_cell records old new (Below above (child_place records.schema.types cell.code)) above at cell (λ c. first_child records.schema cell.code c ≡ at) before after stands row cells changed turns (λ trees walks rows.
    let (own, there, (un, leads)) = row walks.told in
    let sets = (turns walks.told).1 in
    record {
      pointer = Below above (child_place records.schema.types cell.code);
      holder = refl;
      single = λ k e. absurd (let wrong : Below above (child_place records.schema.types cell.code) ≡ Root k = e in cc);
      within = child_in records old trees walks above cell.code own there un (within_of own.children (child_place records.schema.types cell.code) at leads (some walks.told));
      leads = child_leads records old above cell.code own there ∙ leads;
      sets = sets;
      sets_shown = sets;
      rows_are = rows;
    })

-- ---- a row of the root set

record RowGone (at : ℕ) (rows later : List Row) : Type 0 where
  pub k : ℕ
  pub within : k < length (homes (map root_row rows))
  pub leads : slice_index (homes (map root_row rows)) k ≡ at
  pub rest : map root_row later ≡ remove (map root_row rows) k

row_gone : (key body : List ℕ) (at : ℕ) (rows : List Row) → lookup key rows ≡ Some body → from_be_bytes w32 body ≡ at → RowGone at rows (without_row key rows)
row_gone key body at [] e leads = absurd (let none : None ≡ Some body = e in cc)
row_gone key body at (row ∷ rows) e leads = by (bytes_eq (row.0) key) e (λ f. row_gone key body at rows f leads)
  where
    by : (b : Bool) → cond b (Some (row.1)) (lookup key rows) ≡ Some body → (lookup key rows ≡ Some body → RowGone at rows (without_row key rows)) → RowGone at (row ∷ rows) (cond b rows (row ∷ without_row key rows))
    by true f rest = record { k = 0; within = omega arith; leads = ap (from_be_bytes w32) (some_is (row.1) body f) ∙ leads; rest = refl }
    by false f rest =
        let g = rest f in
        let lt = g.within in
        record { k = suc g.k; within = omega (arith, lt); leads = g.leads; rest = ap (λ (l : List RootRow). root_row row ∷ l) g.rest }

if_at : {X : Type 0} (o : Option X) (x : X) (P : X → Type 0) → o ≡ Some x → IfSome o P → P x
if_at {X} o x P is holds = subst (λ (p : Option X). IfSome p P) is holds

both_told : (o q : Option (List (List ℕ))) (pages : List (List ℕ)) (P : List (List ℕ) → List (List ℕ) → Type 0) → o ≡ Some pages → IfSome o (λ before. IsSomeAnd q (λ after. P before after)) → (after : List (List ℕ)) × (q ≡ Some after) × P pages after
both_told o q pages P is holds = by q refl (if_at o pages (λ before. IsSomeAnd q (λ after. P before after)) is holds)
  where
    by : (r : Option (List (List ℕ))) → q ≡ r → IsSomeAnd r (λ after. P pages after) → (after : List (List ℕ)) × (q ≡ Some after) × P pages after
    by None e h = absurd h
    by (Some after) e h = (after, e, h)

rows_told : (shape : RowShape) (o : Option (List (List ℕ))) (pages : List (List ℕ)) → o ≡ Some pages → root_rows shape o ≡ map root_row (rows_of shape pages)
rows_told shape o pages is = ap (root_rows shape) is

-- what the walk sees of a root has no twin
single_root : (cell : Cell) → cell.code ≡ 1 → (alone cell).twin ≡ 0
single_root cell e = ap (λ (b : Bool). (cond b (record cell { twin = 0 }) cell).twin) (eq-eqb cell.code 1 e)

no_set : (k to : ℕ) (cells now : ℕ → Option Cell) → SameCells cells now → SetsPointer (Root k) to cells now (λ _. ⊤)
no_set k to cells now same = record { set = λ home e. absurd (let none : None ≡ Some home = e in cc); others = λ home any off. same home }

pub parts_root : OthersLeaveASide → (records now : Records) (old mid new : ShelfView) (at : ℕ) (cell : Cell) (key body : List ℕ) → Alike old → StandsForRecords records old → (IsTold records.cells old → cell.code ≡ 1) → SameShelf old mid
    → now.schema ≡ records.schema → now.place ≡ records.place → now.first ≡ records.first → now.cells ≡ records.cells → StaysOpen records.roots now.roots new
    → IfSome (old.pages records.roots.set) (λ pages. Some body ≡ lookup key (rows_of records.roots.shape pages)) → from_be_bytes w32 body ≡ at → Removes records.roots mid new key true → ChangedIn records.roots.set mid new
    → PartsFrom records now (Root 0) at cell old new
parts_root law records now old mid new at cell key body before stands of_root same schema place first cells opened found leads removes changed =
    let apart : IsApart records.cells records.roots.set = λ k below e. roots_apart records.cells.first k stands.cells.first below (e ∙ stands.of.roots ∙ ap root_set (sym stands.of.first)) in
    let beside : StaysBeside records.cells mid new = law.changed records.cells records.roots.set mid new (side_same records.cells old mid stands.cells same) apart changed in
    let stay : SameCells (cells_seen records old) (cells_seen records new) = λ home. beside.cells home ∙ ap (λ (f : ℕ → Option Cell). f home) (cells_as records.cells old mid same) in
    record {
      schema = schema;
      place = place;
      first = first;
      same_cells = cells;
      cells = beside.stands;
      set = opened.set;
      shape = opened.shape;
      roots = opened.opened;
      told = λ told. beside.told (told_same records.cells old mid same told);
      parts = λ trees walks.
          let (pages, is) = told_pages records.cells.first records.roots.set old before walks.told in
          let (after, later, rest) = both_told (mid.pages records.roots.set) (new.pages records.roots.set) pages (λ a b. rows_of records.roots.shape b ≡ without_row key (rows_of records.roots.shape a)) (same.pages records.roots.set ∙ is) removes.changes.rows in
          let g = row_gone key body at (rows_of records.roots.shape pages) (sym (if_at (old.pages records.roots.set) pages (λ p. Some body ≡ lookup key (rows_of records.roots.shape p)) is found)) leads in
          let rows : rows_seen records old ≡ map root_row (rows_of records.roots.shape pages) = rows_told records.roots.shape (old.pages records.roots.set) pages is in
          record {
            pointer = Root g.k;
            holder = refl;
            single = λ k e. single_root cell (of_root walks.told);
            within = subst (λ (l : List RootRow). IsIn (Root g.k) (seen records.schema.phdam (cells_seen records old)) (homes l) trees) (sym rows)
                (in_row (seen records.schema.phdam (cells_seen records old)) (homes (map root_row (rows_of records.roots.shape pages))) trees g.k g.within);
            leads = ap (λ (l : List RootRow). slice_index (homes l) g.k) rows ∙ g.leads;
            sets = no_set g.k (alone cell).twin (cells_seen records old) (cells_seen records new) stay;
            sets_shown = no_set 0 (alone cell).twin (cells_seen records old) (cells_seen records new) stay;
            rows_are = rows_told now.roots.shape (new.pages now.roots.set) after (ap new.pages opened.set ∙ later) ∙ ap (λ (s : RowShape). map root_row (rows_of s after)) opened.shape ∙ ap (map root_row) rest ∙ g.rest
                ∙ ap (λ (l : List RootRow). remove l g.k) (sym rows);
          };
    }

-- the same, after the set was read
pub parts_root_read : OthersLeaveASide → (records now : Records) (roots : KeyedSet) (old mid new : ShelfView) (at : ℕ) (cell : Cell) (key body : List ℕ) (found : Option (List ℕ)) (done : Bool) → Alike old → StandsForRecords records old → HoldsRow records old at (λ c. c.code ≡ 1)
    → Finds records.cells old at (Some cell) → SameShelf old mid → now.schema ≡ records.schema → now.place ≡ records.place → now.first ≡ records.first → now.cells ≡ records.cells → roots ≡ records.roots → StaysOpen roots now.roots new
    → FindsRow records.roots old key found → found ≡ Some body → from_be_bytes w32 body ≡ at → Removes roots mid new key done → done ≡ true → ChangedIn roots.set mid new → PartsFrom records now (Root 0) at cell old new
parts_root_read law records now roots old mid new at cell key body found done before stands row standing same schema place first cells kept opened finds is leads removes was changed =
    parts_root law records now old mid new at cell key body before stands of_root same schema place first cells (subst (λ (r : KeyedSet). StaysOpen r now.roots new) kept opened)
    (subst (λ (o : Option (List ℕ)). IfSome (old.pages records.roots.set) (λ pages. o ≡ lookup key (rows_of records.roots.shape pages))) is finds.is) leads
    (subst (λ (r : KeyedSet). Removes r mid new key true) kept (subst (λ (b : Bool). Removes roots mid new key b) was removes)) (subst (λ (r : KeyedSet). ChangedIn r.set mid new) kept changed)
  where
    of_root : IsTold records.cells old → cell.code ≡ 1
    of_root told =
        let (own, there, (un, code)) = row told in
        ap (λ (c : Cell). c.code) (some_is cell own (sym (standing told) ∙ there)) ∙ code
