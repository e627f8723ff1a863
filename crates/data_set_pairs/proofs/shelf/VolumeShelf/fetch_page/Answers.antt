use Rattle.std.proofs.Common.{◌≡◌, ◌∙◌, reverse, take, refl, ap, sym, subst, arith, List, Some, slice_get}
use Rattle.std.specs.Option.{option_map}
use Rattle.data_set_pairs.specs.Shelf.{blocks_at}
use Rattle.data_set_pairs.specs.ShelfLaw.{free_stays}
use Rattle.std.proofs.lemmas.Result.{on_ok_weaker}
use Rattle.data_set_pairs.specs.declared.place.PagePlace.{PagePlace}
use Rattle.data_set_pairs.specs.Table.{places_of}
use Rattle.data_set_pairs.specs.Kept.{last_states, last_pages, last_free}
use Rattle.data_set_pairs.proofs.Staged.{place_number, table_counted, laid_counted, fetched_page}
use Rattle.data_set_pairs.proofs.shelf.VolumeShelf.fetch_page.Goals as goal

pub fetch-requires-clause-below : goal.fetch-requires-clause-below
fetch-requires-clause-below g c =
    let v = c.args.self.now in
    (place_number v.control (g.B.Blocks.seen v.blocks).number v.table.pages.items (reverse v.table.free.items) c.args.set c.args.n c.block_at-block.result v.in_table (subst (λ (l : List PagePlace). slice_get (places_of c.args.set l) c.args.n ≡ Some c.block_at-block.result) c.deref.ensures.value c.block_at-block.ensures)).to

pub invariant_of-self : goal.invariant_of-self
invariant_of-self g c =
    let v = c.args.self.now in
    let same = c.fetch.ensures.leaves.0.number in
    record {
      control_is = v.control_is;
      near = omega (arith, v.near, same);
      in_table = table_counted v.control (g.B.Blocks.seen c.fetch.new.self).number (g.B.Blocks.seen v.blocks).number v.table.pages.items (reverse v.table.free.items) same v.in_table;
      laid = λ list is. laid_counted v.indexes v.control (g.B.Blocks.seen c.fetch.new.self).number (g.B.Blocks.seen v.blocks).number v.states.items v.table.pages.items (reverse v.table.free.items) list same (v.laid list (sym c.fetch.ensures.list.0 ∙ is));
      as_many = v.as_many;
      kept_in_table = table_counted v.control (g.B.Blocks.seen c.fetch.new.self).number (g.B.Blocks.seen v.blocks).number (last_pages v.kept_table v.table) (reverse (last_free v.kept_table v.table)) same v.kept_in_table;
      kept_laid = λ live list is. laid_counted v.indexes v.control (g.B.Blocks.seen c.fetch.new.self).number (g.B.Blocks.seen v.blocks).number (last_states v.kept_states v.states) (last_pages v.kept_table v.table) (reverse (last_free v.kept_table v.table)) list same (v.kept_laid c.requires.live list (sym c.fetch.ensures.leaves.0.committed ∙ is));
    }

pub returns-clause-page : goal.returns-clause-page
returns-clause-page g c =
    let v = c.args.self.now in
    on_ok_weaker c.fetch.result (fetched_page (places_of c.args.set v.table.pages.items) (g.B.Blocks.seen v.blocks).list c.args.n c.block_at-block.result c.fetch.new.into (subst (λ (l : List PagePlace). slice_get (places_of c.args.set l) c.args.n ≡ Some c.block_at-block.result) c.deref.ensures.value c.block_at-block.ensures)) c.fetch.ensures.block

pub returns-clause-leaves : goal.returns-clause-leaves
returns-clause-leaves g c =
    let v = c.args.self.now in
    record {
      keeps = record {
        is_steady = (record { is_steady = c.fetch.ensures.leaves.1; same = c.fetch.ensures.leaves.0; faults = c.fetch.ensures.faults.later }, refl, ap (option_map (take v.control)) c.fetch.ensures.list.0, free_stays (reverse v.table.free.items) (reverse v.table.free.items) (g.B.Blocks.seen v.blocks).list (g.B.Blocks.seen c.fetch.new.self).list refl c.fetch.ensures.list.0);
        takes = λ set kind. refl;
        faults = c.fetch.ensures.faults;
        fetches = c.fetch.ensures.leaves.0.fetches;
      };
      same = record { pages = λ set. ap (option_map (blocks_at (places_of set v.table.pages.items))) c.fetch.ensures.list.0; places = λ set. refl; free = refl };
      few = omega (arith, c.fetch.ensures.fetches);
    }
