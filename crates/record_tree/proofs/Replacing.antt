-- A content that was replaced.
use Rattle.std.proofs.Common.{◌≡◌, ℕ, List, sym, ap, subst}
use Rattle.hal_base.specs.ShelfCalls.{ShelfView, ChangedIn}
use Rattle.free_space.specs.Map.{Alters}
use Rattle.free_space.specs.SideCalls.{StandsForSide, IsTold, Turns, set_at}
use Rattle.record_walk.specs.Tree.{Chains}
use Rattle.record_walk.specs.Pointers.{with_content_at}
use Rattle.record_walk.specs.Changes.{set_content}
use Rattle.record_walk.specs.Side.{RootRow, seen, IsSideOf}
use Rattle.record_walk.specs.SideChanges.{ChangedSides}
use Rattle.record_walk.specs.Spans.{ReplacedContentIsListed}
use Rattle.record_tree.specs.declared.records.Records.{Records}
use Rattle.record_tree.specs.Sides.{root_rows}
use Rattle.record_tree.specs.Standing.{StandsForRecords, HoldsRow, cells_seen, rows_seen}
use Rattle.record_tree.specs.Placing.{KeepsKey}
use Rattle.record_tree.specs.Changing.{Replaces}
use Rattle.record_tree.proofs.Leading.{homes, records_of, read_of}
use Rattle.record_tree.proofs.RootRows.{Alike}
use Rattle.record_tree.proofs.Staying.{set_beside}
use Rattle.record_tree.proofs.Frames.{told_back, root_pages}

side_now : ChangedSides → (records : Records) (old new : ShelfView) (at : ℕ) (content : List ℕ) → HoldsRow records old at (KeepsKey records.schema at content) → Alters at (set_content content) (cells_seen records old) (cells_seen records new)
    → rows_seen records new ≡ rows_seen records old → (trees : Chains) → IsTold records.cells old → IsSideOf records.schema records.place (cells_seen records old) (rows_seen records old) trees
    → IsSideOf records.schema records.place (cells_seen records new) (rows_seen records new) (with_content_at at content trees)
side_now law records old new at content row alters rows trees told side =
    subst (λ (l : List RootRow). IsSideOf records.schema records.place (cells_seen records new) l (with_content_at at content trees)) (sym rows) (record {
      walked = law.replaces records.schema records.place (cells_seen records old) (cells_seen records new) (rows_seen records old) trees at content side.walked alters.altered alters.elsewhere
          (λ cell is one. (read_of records old at (KeepsKey records.schema at content) cell row told is).holds.key one);
      rows_are_used = side.rows_are_used;
    })

pub replaced_list : ChangedSides → ReplacedContentIsListed → (records : Records) (old new : ShelfView) (at : ℕ) (content : List ℕ) → HoldsRow records old at (KeepsKey records.schema at content)
    → Turns records.cells records.cells old new (Alters at (set_content content)) → rows_seen records new ≡ rows_seen records old → Replaces records at content old new
replaced_list law listed records old new at content row turns rows = record {
  list = λ trees walks.
      let (told, alters) = turns walks.told in
      let (cell, there, (un, keeps)) = row walks.told in
      record {
        trees = with_content_at at content trees;
        walks = record { told = told; side = side_now law records old new at content row alters rows trees walks.told walks.side };
        leads = listed records.schema (seen records.schema.phdam (cells_seen records old)) (homes (rows_seen records old)) trees at content
            (records_of records.schema records.place (cells_seen records old) (rows_seen records old) trees walks.side.walked) (walks.side.walked.all_met at cell there un);
      };
  cells = λ told. (turns told).1;
}

pub replaced_stands : ChangedSides → (records : Records) (old new : ShelfView) (at : ℕ) (content : List ℕ) → Alike old → Alike new → StandsForRecords records old → HoldsRow records old at (KeepsKey records.schema at content)
    → ChangedIn (set_at records.cells at) old new → StandsForSide records.cells new → Turns records.cells records.cells old new (Alters at (set_content content)) → StandsForRecords records new
replaced_stands law records old new at content before after stands row changed cells turns =
    let pages = root_pages records old new at (KeepsKey records.schema at content) before after stands row changed in
    record {
      of = stands.of;
      cells = cells;
      roots = set_beside records.roots old new stands.roots pages (changed.places records.roots.set);
      side = λ told.
          let was : IsTold records.cells old = told_back old new (set_at records.cells at) before after changed.untold records.cells.first told in
          let side = stands.side was in
          (with_content_at at content (side.0), side_now law records old new at content row (turns was).1 (ap (root_rows records.roots.shape) pages) (side.0) was (side.1));
    }
