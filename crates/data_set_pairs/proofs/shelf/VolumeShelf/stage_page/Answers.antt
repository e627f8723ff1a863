use Rattle.std.proofs.Common.{◌≡◌, ◌∙◌, ⊎_elim, List, Some, reverse, take, length, sym, subst, refl, ap, arith, rules, slice_get, slice_set}
use Rattle.std.specs.Option.{option_map}
use Rattle.std.proofs.lemmas.Result.{on_ok_weaker, on_err_weaker}
use Rattle.data_set_pairs.specs.declared.place.PagePlace.{PagePlace}
use Rattle.data_set_pairs.specs.Table.{places_of}
use Rattle.data_set_pairs.specs.Shelf.{blocks_at}
use Rattle.data_set_pairs.specs.Kept.{last_states, last_pages, last_free}
use Rattle.data_set_pairs.proofs.Staged.{done_or_not, staged_untold, place_number, table_counted, laid_counted, Staging, laid_staged, not_free, page_staged, others_staged, control_staged}
use Rattle.data_set_pairs.specs.ShelfLaw.{free_stays}
use Rattle.data_set_pairs.proofs.FreeSteps.{free_staged}
use Rattle.data_set_pairs.proofs.shelf.VolumeShelf.stage_page.Goals as goal

pub stage-requires-clause-below : goal.stage-requires-clause-below
stage-requires-clause-below g c =
    let v = c.args.self.now in
    (place_number v.control (g.B.Blocks.seen v.blocks).number v.table.pages.items (reverse v.table.free.items) c.args.set c.args.n c.block_at-block.result v.in_table (subst (λ (l : List PagePlace). slice_get (places_of c.args.set l) c.args.n ≡ Some c.block_at-block.result) c.deref.ensures.value c.block_at-block.ensures)).to

pub invariant_of-self : goal.invariant_of-self
invariant_of-self g c =
    let v = c.args.self.now in
    let same = c.stage.ensures.leaves.0.number in
    let long : length c.args.from.now ≡ 4096 = search (rules, c.told-from) in
    let context : Staging v.indexes v.control (g.B.Blocks.seen v.blocks).number v.states.items v.table.pages.items (reverse v.table.free.items) (g.B.Blocks.seen v.blocks).list c.args.set c.args.n c.block_at-block.result c.args.from.now = record { table = v.in_table; few = omega (arith, v.control_is); laid = v.laid; at = (subst (λ (l : List PagePlace). slice_get (places_of c.args.set l) c.args.n ≡ Some c.block_at-block.result) c.deref.ensures.value c.block_at-block.ensures); long = long; head = c.requires.head } in
    record {
      control_is = v.control_is;
      near = omega (arith, v.near, same);
      in_table = table_counted v.control (g.B.Blocks.seen c.stage.new.self).number (g.B.Blocks.seen v.blocks).number v.table.pages.items (reverse v.table.free.items) same v.in_table;
      laid = λ list is. laid_counted v.indexes v.control (g.B.Blocks.seen c.stage.new.self).number (g.B.Blocks.seen v.blocks).number v.states.items v.table.pages.items (reverse v.table.free.items) list same
          (⊎_elim (λ done. laid_staged v.indexes v.control (g.B.Blocks.seen v.blocks).number v.states.items v.table.pages.items (reverse v.table.free.items) (g.B.Blocks.seen v.blocks).list (g.B.Blocks.seen c.stage.new.self).list c.args.set c.args.n c.block_at-block.result c.args.from.now context done list is) (λ kept. v.laid list (sym kept ∙ is)) (done_or_not c.stage.result c.stage.ensures.list (on_err_weaker c.stage.result (λ kept. kept.0) c.stage.ensures.unchanged)));
      as_many = v.as_many;
      kept_in_table = table_counted v.control (g.B.Blocks.seen c.stage.new.self).number (g.B.Blocks.seen v.blocks).number (last_pages v.kept_table v.table) (reverse (last_free v.kept_table v.table)) same v.kept_in_table;
      kept_laid = λ live list is. laid_counted v.indexes v.control (g.B.Blocks.seen c.stage.new.self).number (g.B.Blocks.seen v.blocks).number (last_states v.kept_states v.states) (last_pages v.kept_table v.table) (reverse (last_free v.kept_table v.table)) list same (v.kept_laid c.requires.live list (sym c.stage.ensures.leaves.0.committed ∙ is));
    }

pub returns-clause-page : goal.returns-clause-page
returns-clause-page g c =
    let v = c.args.self.now in
    let long : length c.args.from.now ≡ 4096 = search (rules, c.told-from) in
    let context : Staging v.indexes v.control (g.B.Blocks.seen v.blocks).number v.states.items v.table.pages.items (reverse v.table.free.items) (g.B.Blocks.seen v.blocks).list c.args.set c.args.n c.block_at-block.result c.args.from.now = record { table = v.in_table; few = omega (arith, v.control_is); laid = v.laid; at = (subst (λ (l : List PagePlace). slice_get (places_of c.args.set l) c.args.n ≡ Some c.block_at-block.result) c.deref.ensures.value c.block_at-block.ensures); long = long; head = c.requires.head } in
    on_ok_weaker c.stage.result (page_staged v.indexes v.control (g.B.Blocks.seen v.blocks).number v.states.items v.table.pages.items (reverse v.table.free.items) (g.B.Blocks.seen v.blocks).list (g.B.Blocks.seen c.stage.new.self).list c.args.set c.args.n c.block_at-block.result c.args.from.now context) c.stage.ensures.list

pub returns-clause-unchanged : goal.returns-clause-unchanged
returns-clause-unchanged g c =
    let v = c.args.self.now in
    on_err_weaker c.stage.result (λ kept. record { pages = λ set. ap (option_map (blocks_at (places_of set v.table.pages.items))) kept.0; places = λ set. refl; free = refl }) c.stage.ensures.unchanged

pub returns-clause-leaves : goal.returns-clause-leaves
returns-clause-leaves g c =
    let v = c.args.self.now in
    let long : length c.args.from.now ≡ 4096 = search (rules, c.told-from) in
    let context : Staging v.indexes v.control (g.B.Blocks.seen v.blocks).number v.states.items v.table.pages.items (reverse v.table.free.items) (g.B.Blocks.seen v.blocks).list c.args.set c.args.n c.block_at-block.result c.args.from.now = record { table = v.in_table; few = omega (arith, v.control_is); laid = v.laid; at = (subst (λ (l : List PagePlace). slice_get (places_of c.args.set l) c.args.n ≡ Some c.block_at-block.result) c.deref.ensures.value c.block_at-block.ensures); long = long; head = c.requires.head } in
    let from = (place_number v.control (g.B.Blocks.seen v.blocks).number v.table.pages.items (reverse v.table.free.items) c.args.set c.args.n c.block_at-block.result v.in_table (subst (λ (l : List PagePlace). slice_get (places_of c.args.set l) c.args.n ≡ Some c.block_at-block.result) c.deref.ensures.value c.block_at-block.ensures)).from in
    record {
      keeps = record {
        is_steady = (
          record { is_steady = c.stage.ensures.leaves.1; same = c.stage.ensures.leaves.0; faults = c.stage.ensures.faults.later },
          refl,
          ⊎_elim (λ done. control_staged v.control c.block_at-block.result (g.B.Blocks.seen v.blocks).list (g.B.Blocks.seen c.stage.new.self).list c.args.from.now from done) (λ kept. ap (option_map (take v.control)) kept) (done_or_not c.stage.result c.stage.ensures.list (on_err_weaker c.stage.result (λ kept. kept.0) c.stage.ensures.unchanged)),
          ⊎_elim (λ done. free_staged (reverse v.table.free.items) (g.B.Blocks.seen v.blocks).list (g.B.Blocks.seen c.stage.new.self).list c.block_at-block.result c.args.from.now done (not_free v.indexes v.control (g.B.Blocks.seen v.blocks).number v.states.items v.table.pages.items (reverse v.table.free.items) (g.B.Blocks.seen v.blocks).list c.args.set c.args.n c.block_at-block.result c.args.from.now context)) (λ kept. free_stays (reverse v.table.free.items) (reverse v.table.free.items) (g.B.Blocks.seen v.blocks).list (g.B.Blocks.seen c.stage.new.self).list refl kept) (done_or_not c.stage.result c.stage.ensures.list (on_err_weaker c.stage.result (λ kept. kept.0) c.stage.ensures.unchanged)),
        );
        takes = λ set kind. refl;
        faults = c.stage.ensures.faults;
        fetches = c.stage.ensures.leaves.0.fetches;
      };
      changed = record {
        others = λ other apart. ⊎_elim (λ done. others_staged v.indexes v.control (g.B.Blocks.seen v.blocks).number v.states.items v.table.pages.items (reverse v.table.free.items) (g.B.Blocks.seen v.blocks).list (g.B.Blocks.seen c.stage.new.self).list c.args.set other c.args.n c.block_at-block.result c.args.from.now context done apart) (λ kept. ap (option_map (blocks_at (places_of other v.table.pages.items))) kept) (done_or_not c.stage.result c.stage.ensures.list (on_err_weaker c.stage.result (λ kept. kept.0) c.stage.ensures.unchanged));
        untold = λ none. staged_untold (λ list. slice_set list c.block_at-block.result c.args.from.now) (blocks_at (places_of c.args.set v.table.pages.items)) (g.B.Blocks.seen v.blocks).list (g.B.Blocks.seen c.stage.new.self).list c.stage.result c.stage.ensures.list (on_err_weaker c.stage.result (λ kept. kept.0) c.stage.ensures.unchanged) none;
        places = λ set. refl;
        free = refl;
      };
    }
