-- A new root of a side: its cell came, and a row of the root set leads to it.
use Rattle.std.proofs.Common.{◌≡◌, ◌≢◌, ℕ, ◌<◌, ◌≤◌, ◌==◌, ◌^◌, true, false, List, map, length, insert, Option, None, Some, refl, sym, ap, subst, ◌∙◌, arith}
use Rattle.std.specs.Prelude.{find, slice_get, IfSome, IsSomeAnd}
use Rattle.std.specs.Int.{w32, from_be_bytes, to_be_bytes}
use Rattle.std.specs.Option.{option_map, option_map_or}
use Rattle.std.proofs.lemmas.Bool.{eq-eqb, lt-ltb}
use Rattle.std.proofs.lemmas.Nat.{from_be_bytes-to_be_bytes_4}
use Rattle.hal_base.specs.ShelfCalls.{ShelfView}
use Rattle.hal_schema.specs.declared.schema.Schema.{Schema}
use Rattle.hal_schema.specs.Insertion.{inserted as inserted_into}
use Rattle.free_space.specs.declared.side.SideCells.{SideCells}
use Rattle.free_space.specs.SideCalls.{StandsForSide, IsTold, cells_of}
use Rattle.free_space.specs.SideLaws.{NoneAtZero, StaysBeside}
use Rattle.keyed_sets.specs.declared.row.RowShape.{RowShape}
use Rattle.keyed_sets.specs.declared.set.KeyedSet.{KeyedSet}
use Rattle.keyed_sets.specs.Calls.{StaysOpen, PutsIn}
use Rattle.keyed_sets.specs.Layout.{Row}
use Rattle.keyed_sets.specs.Map.{RowsRise, lookup, with_row, rows_of}
use Rattle.record_walk.specs.Tree.{Occurrence, Chains, firsts_of}
use Rattle.record_walk.specs.Listing.{Placed, placed, list_in, rows_of as rows_in}
use Rattle.record_walk.specs.ByKey.{RootsGoByRows}
use Rattle.record_walk.specs.Changes.{new_cell}
use Rattle.record_walk.specs.Firsts.{FirstRootsAreInserted}
use Rattle.record_walk.specs.Orders.{RootsGoByKey}
use Rattle.record_walk.specs.Pointers.{Behind, Root}
use Rattle.record_walk.specs.Roots.{RowsComeAndGo, with_row as with_chain_row}
use Rattle.record_walk.specs.Side.{RootRow, seen, key_of, belongs, are_keyed, IsWalked, IsSideOf}
use Rattle.record_walk.specs.SideChanges.{ChangedSides, FitsAsRoot, SetsPointer, kinds_of, leads_in, set_home}
use Rattle.record_walk.specs.Spans.{NewSegmentsAreListed, ComesIn, IsIn}
use Rattle.record_tree.specs.declared.new_row.NewRow.{NewRow}
use Rattle.record_tree.specs.declared.records.Records.{Records}
use Rattle.record_tree.specs.Sides.{root_row, root_rows}
use Rattle.record_tree.specs.Standing.{StandsForRecords, Walks, cells_seen, rows_seen}
use Rattle.record_tree.specs.Finding.{is_key}
use Rattle.record_tree.specs.Placing.{IsNewRoot}
use Rattle.record_tree.specs.Changing.{RowComes, at_home}
use Rattle.record_tree.specs.Storing.{StoresCell, ComesAsRoot, segment_for, row_cell, named_cell}
use Rattle.record_tree.proofs.Seen.{some_is}
use Rattle.record_tree.proofs.Leading.{homes, records_of}
use Rattle.record_tree.proofs.RootRows.{Alike, found_row, looked_up, told_pages, in_row, length_homes}
use Rattle.record_tree.proofs.Joining.{of_side_stays, side_under}
use Rattle.record_tree.proofs.Rooting.{row_place, row_placed, place_within, rooted, rooted_rise, own_key, insert_at, insert_leads, insert_set, insert_used, insert_longer}

-- ---- the rows

-- the rows of the root set before and after, where they are told
pub record PutsRow (mid now : Records) (row : Row) (b c : ShelfView) : Type 0 where
  pub rows : List Row
  pub before : rows_seen mid b ≡ map root_row rows
  pub after : rows_seen now c ≡ map root_row (with_row row rows)
  pub rise : RowsRise (with_row row rows)

pub puts_row : ((shape : RowShape) (pages : List (List ℕ)) → RowsRise (rows_of shape pages)) → ((row : Row) (rows : List Row) → RowsRise rows → RowsRise (with_row row rows)) → (mid : Records) (roots : KeyedSet) (row : Row) (b c : ShelfView)
    → Alike b → roots.set ≡ mid.roots.set → roots.shape ≡ mid.roots.shape → PutsIn mid.roots row b c → IsTold mid.cells b → PutsRow mid (record mid { roots = roots }) row b c
puts_row of_pages put mid roots row b c alike set shape puts told =
    let (pages, is) = told_pages mid.cells.first mid.roots.set b alike told in
    let rows : List Row = rows_of mid.roots.shape pages in
    let (after, there, now) = some_and (c.pages mid.roots.set) (λ after. rows_of mid.roots.shape after ≡ with_row row rows) (if_at (b.pages mid.roots.set) pages (λ before. IsSomeAnd (c.pages mid.roots.set) (λ after. rows_of mid.roots.shape after ≡ with_row row (rows_of mid.roots.shape before))) is puts.rows) in
    record {
      rows = rows;
      before = ap (root_rows mid.roots.shape) is;
      after = ap (λ (s : RowShape). root_rows s (c.pages roots.set)) shape ∙ ap (root_rows mid.roots.shape) (ap c.pages set ∙ there) ∙ ap (map root_row) now;
      rise = put row rows (of_pages mid.roots.shape pages);
    }
  where
    if_at : {X : Type 0} (o : Option X) (x : X) (P : X → Type 0) → o ≡ Some x → IfSome o P → P x
    if_at {X} o x P is holds = subst (λ (p : Option X). IfSome p P) is holds

    some_and : {X : Type 0} (o : Option X) (P : X → Type 0) → IsSomeAnd o P → (x : X) × (o ≡ Some x) × P x
    some_and None P holds = absurd holds
    some_and (Some x) P holds = (x, refl, holds)

-- no row has the key of a new root
pub absent : RootsGoByRows → (records : Records) (shelf : ShelfView) (new : Occurrence) (rows : List Row) (trees : Chains) → StandsForRecords records shelf → IsNewRoot records shelf new → Walks records shelf trees → rows_seen records shelf ≡ map root_row rows
    → lookup (key_of records.schema new) rows ≡ None
absent law records shelf new rows trees stands root walks is =
    looked_up (key_of records.schema new) rows
    ∙ none_in (find (λ (row : Row). is_key (key_of records.schema new) (row.0)) rows)
    (ap (option_map (λ (r : RootRow). r.home)) (sym (found_row (is_key (key_of records.schema new)) rows)) ∙ ap (λ (l : List RootRow). option_map (λ (r : RootRow). r.home) (find (λ (r : RootRow). is_key (key_of records.schema new) r.key) l)) (sym is)
    ∙ sym ((law records.schema records.place (cells_seen records shelf) (rows_seen records shelf) trees stands.of.kind walks.side).found (is_key (key_of records.schema new))) ∙ root.free trees walks)
  where
    none_in : (o : Option Row) → option_map (λ (r : RootRow). r.home) (option_map root_row o) ≡ None → option_map (λ (row : Row). row.1) o ≡ None
    none_in None e = refl
    none_in (Some row) e = let wrong : Some (from_be_bytes w32 (row.1)) ≡ None = e in cc

-- ---- what is known once the row is put

pub record IsRooted (records mid now : Records) (new : NewRow) (at : ℕ) (a b c : ShelfView) : Type 0 where
  pub stands : StandsForRecords records a
  pub root : IsNewRoot records a (segment_for new)
  pub stored : StoresCell records mid (named_cell records new 0 at) a b at
  pub schema : now.schema ≡ mid.schema
  pub place : now.place ≡ mid.place
  pub first : now.first ≡ mid.first
  pub cells : now.cells ≡ mid.cells
  pub beside : StaysBeside mid.cells b c
  pub roots : StaysOpen mid.roots now.roots c
  pub back : IsTold mid.cells c → IsTold mid.cells b
  pub puts : IsTold mid.cells b → PutsRow mid now (key_of records.schema (segment_for new), to_be_bytes w32 at) b c
  pub small : at < 2 ^ 32

cells_now : (records mid now : Records) (new : NewRow) (at : ℕ) (a b c : ShelfView) → IsRooted records mid now new at a b c → (home : ℕ) → cells_seen now c home ≡ cells_seen mid b home
cells_now records mid now new at a b c r home = ap (λ (s : SideCells). cells_of s c home) r.cells ∙ r.beside.cells home

-- the side with the row, and with the root
pub record RootedSide (records now : Records) (new : NewRow) (at : ℕ) (a c : ShelfView) (trees : Chains) : Type 0 where
  pub later : Chains
  pub side : IsSideOf records.schema records.place (cells_seen now c) (rows_seen now c) later
  pub comes : RowComes records.schema None (at_home records new.name (segment_for new) at) (list_in None trees) (list_in None later)

pub rooted_side : ChangedSides → FirstRootsAreInserted → NewSegmentsAreListed → NoneAtZero → RootsGoByKey → RootsGoByRows → RowsComeAndGo → (records mid now : Records) (new : NewRow) (at : ℕ) (a b c : ShelfView) → IsRooted records mid now new at a b c
    → (trees : Chains) → Walks records a trees → RootedSide records now new at a c trees
rooted_side law inserted listed zero by_key by_rows come records mid now new at a b c r trees walks =
    let (stored, adds) = r.stored.adds walks.told in
    let put = r.puts stored in
    let schema : Schema = records.schema in
    let cells = cells_seen records a in
    let later = cells_seen now c in
    let rows : List RootRow = rows_seen records a in
    let key : List ℕ = key_of schema (segment_for new) in
    let body : List ℕ = to_be_bytes w32 at in
    let seen_rows : rows_seen records a ≡ map root_row put.rows = sym r.stored.rows ∙ put.before in
    let none : lookup key put.rows ≡ None = absent by_rows records a (segment_for new) put.rows trees r.stands r.root walks seen_rows in
    let k : ℕ = row_place (key, body) put.rows in
    let upto : k ≤ length rows = subst (λ (l : List RootRow). k ≤ length l) (sym seen_rows) (place_within (key, body) put.rows) in
    let bare : RootRow = record { key = key; home = 0 } in
    let with_bare : List RootRow = insert rows k bare in
    let occurrence : Occurrence = at_home records new.name (segment_for new) at in
    let kinds : ℕ = kinds_of schema occurrence in
    let own : belongs schema records.place occurrence ≡ true = ap (λ (o : Option ℕ). option_map_or (λ p. p == records.place) o false) r.root.belongs ∙ eq-eqb records.place records.place refl in
    let walked : IsWalked schema records.place cells with_bare (with_chain_row k trees) = law.row_comes schema records.place cells rows trees k key walks.side.walked upto in
    let within : IsIn (Root k) (seen schema.phdam cells) (homes with_bare) (with_chain_row k trees) =
    in_row (seen schema.phdam cells) (homes with_bare) (with_chain_row k trees) k (let longer = insert_longer rows k bare upto in let many = length_homes with_bare in omega (arith, longer, many)) in
    let empty : leads_in schema (Root k) cells with_bare ≡ 0 = insert_leads rows k bare upto in
    let rising = rooted_rise by_key schema records.place occurrence kinds (key, body) r.stands.of.kind refl own put.rows trees none put.rise
    (subst (λ (l : List RootRow). are_keyed schema l trees ≡ true) seen_rows walks.side.walked.rows_are_keyed) walks.side.walked.roots_belong walks.side.walked.roots_are_rising in
    let fits : FitsAsRoot schema records.place cells with_bare (Root k) occurrence (rooted occurrence kinds k trees) = record {
      belongs = own;
      at_head = λ n row e is.
          let one : bare ≡ row = some_is bare row (sym (insert_at rows k bare upto) ∙ ap (slice_get with_bare) (root_at k n e) ∙ is) in
          own_key schema occurrence r.stands.of.kind ∙ ap (λ (x : RootRow). x.key) one;
      behind = λ prior cell e is. absurd (let wrong : Root k ≡ Behind prior = e in cc);
      rising = rising;
      chained = λ prior e. absurd (let wrong : Root k ≡ Behind prior = e in cc);
      single = λ kind. empty;
    } in
    let off : at ≢ 0 = zero mid.cells b at (named_cell records new 0 at) r.stored.cells.stands adds.stands in
    let now_at : (home : ℕ) → later home ≡ cells_seen mid b home = cells_now records mid now new at a b c r in
    let stands : later at ≡ Some (new_cell occurrence kinds (leads_in schema (Root k) cells with_bare)) = now_at at ∙ adds.stands ∙ ap (λ (n : ℕ). Some (row_cell schema occurrence n)) (sym empty) in
    let sets : SetsPointer (Root k) at cells later (λ home. home ≢ at) = record {
      set = λ home e. absurd (let wrong : None ≡ Some home = e in cc);
      others = λ home away e. now_at home ∙ adds.elsewhere home away;
    } in
    let came : IsWalked schema records.place later (set_home k at with_bare) (rooted occurrence kinds k trees) =
    law.inserts schema records.place cells later with_bare (with_chain_row k trees) (Root k) occurrence walked within (omega (arith, off)) adds.free (ap (λ (n : ℕ). Some n) (sym r.root.code)) (λ one. fits) stands sets in
    let is_set = insert_set rows k at bare upto in
    let rows_are : insert rows k (record { key = key; home = at }) ≡ rows_seen now c =
    ap (λ (l : List RootRow). insert l k (record { key = key; home = at })) seen_rows
    ∙ ap (λ (n : ℕ). insert (map root_row put.rows) k (record { key = key; home = n })) (sym (from_be_bytes-to_be_bytes_4 at r.small)) ∙ sym (row_placed (key, body) put.rows none) ∙ sym put.after in
    let used = insert_used rows k (record { key = key; home = at }) walks.side.rows_are_used (lt-ltb 0 at (omega (arith, off))) in
    let many = length_homes rows in
    let same = (come.come schema (seen schema.phdam cells) (homes rows) trees k (records_of schema records.place cells rows trees walks.side.walked) (omega (arith, upto, many))).list in
    let long : length (firsts_of (with_chain_row k trees)) ≡ length with_bare = ap (λ (l : List ℕ). length l) walked.rows_lead ∙ length_homes with_bare in
    let longer = insert_longer rows k bare upto in
    record {
      later = rooted occurrence kinds k trees;
      side = subst (λ (l : List RootRow). IsSideOf schema records.place later l (rooted occurrence kinds k trees)) rows_are
          (record { walked = subst (λ (l : List RootRow). IsWalked schema records.place later l (rooted occurrence kinds k trees)) is_set came; rows_are_used = used });
      comes = record {
        comes = subst (λ (l : List Placed). ComesIn schema.types occurrence l (list_in None (rooted occurrence kinds k trees))) same
            (listed schema (seen schema.phdam cells) (homes with_bare) (with_chain_row k trees) (Root k) occurrence kinds (records_of schema records.place cells with_bare (with_chain_row k trees) walked) within);
        inserted = λ names rise. inserted schema (with_chain_row k trees) k occurrence kinds walked.typed (omega (arith, long, longer)) r.root.code rising
            ∙ ap (λ (l : List Placed). inserted_into schema (rows_in l) (placed None occurrence).row) same;
      };
    }
  where
    root_at : (k n : ℕ) → Root k ≡ Root n → k ≡ n
    root_at k n e = cc

pub comes_as_root : ChangedSides → FirstRootsAreInserted → NewSegmentsAreListed → NoneAtZero → RootsGoByKey → RootsGoByRows → RowsComeAndGo → (records mid now : Records) (new : NewRow) (at : ℕ) (a b c : ShelfView) → IsRooted records mid now new at a b c
    → ComesAsRoot records now new a c at
comes_as_root law first listed zero by_key by_rows come records mid now new at a b c r = record {
  stays = record {
    schema = r.schema ∙ r.stored.schema;
    place = r.place ∙ r.stored.place;
    first = r.first ∙ r.stored.first;
    stands = record {
      of = of_side_stays records now (r.schema ∙ r.stored.schema) (r.place ∙ r.stored.place) (r.first ∙ r.stored.first) (ap (λ (s : SideCells). s.first) r.cells ∙ r.stored.cells.first) (ap (λ (s : SideCells). s.letters) r.cells ∙ r.stored.cells.letters)
          (ap (λ (s : SideCells). s.shapes) r.cells ∙ r.stored.cells.shapes) (r.roots.set ∙ ap (λ (s : KeyedSet). s.set) r.stored.roots) (r.roots.shape ∙ ap (λ (s : KeyedSet). s.shape) r.stored.roots) r.stands.of;
      cells = subst (λ (s : SideCells). StandsForSide s c) (sym r.cells) r.beside.stands;
      roots = r.roots.opened;
      side = λ told.
          let was : IsTold records.cells a = r.stored.back (r.back (subst (λ (s : SideCells). IsTold s c) r.cells told)) in
          let side = r.stands.side was in
          let s = rooted_side law first listed zero by_key by_rows come records mid now new at a b c r (side.0) (record { told = was; side = side.1 }) in
          (s.later, under s.later s.side);
    };
  };
  list = λ trees walks.
      let s = rooted_side law first listed zero by_key by_rows come records mid now new at a b c r trees walks in
      record {
        trees = s.later;
        walks = record { told = subst (λ (s : SideCells). IsTold s c) (sym r.cells) (r.beside.told (r.stored.adds walks.told).0); side = under s.later s.side };
        leads = s.comes;
      };
  cells = λ told.
      let adds = (r.stored.adds told).1 in
      let now_at = cells_now records mid now new at a b c r in
      record {
        free = adds.free;
        stands = now_at at ∙ adds.stands;
        others = record {
          set = λ other e. absurd (let none : None ≡ Some other = e in cc);
          others = λ other away e. now_at other ∙ adds.elsewhere other away;
        };
      };
}
  where
    under : (later : Chains) → IsSideOf records.schema records.place (cells_seen now c) (rows_seen now c) later → IsSideOf now.schema now.place (cells_seen now c) (rows_seen now c) later
    under later side = side_under records.schema now.schema records.place now.place (cells_seen now c) (rows_seen now c) later (r.schema ∙ r.stored.schema) (r.place ∙ r.stored.place) side
