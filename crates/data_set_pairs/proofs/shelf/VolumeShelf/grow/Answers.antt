use Rattle.std.proofs.Common.{◌≡◌, ◌∙◌, ◌-◌, ◌*◌, ◌^◌, ◌<◌, ◌≤◌, ◌∷◌, ℕ, List, Err, reverse, take, length, sym, subst, ap, arith, ◌++◌, [], drop, refl}
use Rattle.std.specs.Option.{option_map}
use Rattle.hal_base.specs.Pages.{empty_page}
use Rattle.hal_base.specs.declared.outcome.PageFault.TheVariants as page
use Rattle.hal_base.specs.declared.outcome.StageFault.TheVariants.{Failed}
use Rattle.std.proofs.lemmas.List.{length-map}
use Rattle.data_set_pairs.specs.declared.place.PagePlace.{PagePlace}
use Rattle.std.specs.Prelude.{IsErrOf}
use Rattle.data_set_pairs.specs.StaysLaw.{stays_none}
use Rattle.data_set_pairs.specs.Table.{HasPlace, IsFront, IsTable, pages_of, places_of}
use Rattle.data_set_pairs.specs.Volume.{IsLaidOut}
use Rattle.data_set_pairs.specs.Shelf.{blocks_at}
use Rattle.data_set_pairs.specs.ShelfLaw.{few_pages, free_stays}
use Rattle.data_set_pairs.proofs.FreeSteps.{free_taken}
use Rattle.data_set_pairs.specs.Kept.{last_states, last_pages, last_free}
use Rattle.data_set_pairs.proofs.Staged.{table_counted, laid_counted, control_staged}
use Rattle.data_set_pairs.proofs.Keeping.{fails_done, fails_page, is_done, not_failed, pages_kept, free_kept, table_moved, laid_moved, standing_same}
use Rattle.data_set_pairs.proofs.Growing.{Growing, IsNew, grown, is_new, laid_grown, least_within, others_grown, pages_grown, places_grown, places_other, table_grown}
use Rattle.data_set_pairs.proofs.shelf.VolumeShelf.grow.Goals as goal

pub overflow_cast-page : goal.overflow_cast-page
overflow_cast-page g c =
    let v = c.args.self.now in
    let least : (reverse v.table.free.items) ≡ c.in-Some.block ∷ reverse (take (length v.table.free.items - 1) v.table.free.items) = c.in-Some.ensures.some in
    let count : c.count_of-page.result ≡ length (pages_of c.args.set v.table.pages.items) = c.count_of-page.ensures ∙ ap (λ (l : List PagePlace). length (pages_of c.args.set l)) (c.deref.ensures.value ∙ c.make_room.ensures.pages) in
    let low : c.count_of-page.result < 2 ^ 16 = omega (arith, count, few_pages v.control (g.B.Blocks.seen v.blocks).number v.table.pages.items (reverse v.table.free.items) c.args.set v.in_table v.near, length-map (pages_of c.args.set v.table.pages.items) (λ (p : PagePlace). p.block), ap length least) in
    omega (arith, low)

pub stage-requires-clause-below : goal.stage-requires-clause-below
stage-requires-clause-below g c =
    let v = c.args.self.now in
    (least_within v.control (g.B.Blocks.seen v.blocks).number v.table.pages.items (reverse v.table.free.items) (reverse (take (length v.table.free.items - 1) v.table.free.items)) c.in-Some.block v.in_table c.in-Some.ensures.some).to

pub invariant_of-self-2 : goal.invariant_of-self-2
invariant_of-self-2 g c =
    let v = c.args.self.now in
    let least : (reverse v.table.free.items) ≡ c.in-Some.block ∷ reverse (take (length v.table.free.items - 1) v.table.free.items) = c.in-Some.ensures.some in
    let count : c.count_of-page.result ≡ length (pages_of c.args.set v.table.pages.items) = c.count_of-page.ensures ∙ ap (λ (l : List PagePlace). length (pages_of c.args.set l)) (c.deref.ensures.value ∙ c.make_room.ensures.pages) in
    let low : c.count_of-page.result < 2 ^ 16 = omega (arith, count, few_pages v.control (g.B.Blocks.seen v.blocks).number v.table.pages.items (reverse v.table.free.items) c.args.set v.in_table v.near, length-map (pages_of c.args.set v.table.pages.items) (λ (p : PagePlace). p.block), ap length least) in
    let taken : c.add.new.self.free.items ≡ take (length v.table.free.items - 1) v.table.free.items = c.add.ensures.free ∙ ap (λ (l : List ℕ). take (length l - 1) l) c.make_room.ensures.free in
    let rest : (reverse v.table.free.items) ≡ c.in-Some.block ∷ reverse c.add.new.self.free.items = least ∙ ap (λ (l : List ℕ). c.in-Some.block ∷ reverse l) (sym taken) in
    let pages : c.add.new.self.pages.items ≡ grown v.table.pages.items c.add.ensures.pages.0 c.args.set c.count_of-page.result c.in-Some.block = c.add.ensures.pages.2 ∙ ap (λ (l : List PagePlace). grown l c.add.ensures.pages.0 c.args.set c.count_of-page.result c.in-Some.block) c.make_room.ensures.pages in
    let few : length v.states.items ≤ 32 * v.control = omega (arith, v.control_is) in
    let place : HasPlace c.args.set = record { part = omega arith; number = omega arith; letter = omega arith } in
    let new = subst (IsNew v.indexes v.states.items c.args.set c.count_of-page.result) (sym c.empty_page.ensures) (is_new v.indexes v.states.items c.args.set c.args.kind c.count_of-page.result place low c.requires.takes) in
    let s : Growing v.indexes v.control (g.B.Blocks.seen v.blocks).number v.states.items v.table.pages.items (reverse v.table.free.items) (reverse c.add.new.self.free.items) (g.B.Blocks.seen v.blocks).list c.args.set c.count_of-page.result c.in-Some.block c.add.ensures.pages.0 c.empty_page.result = record { table = v.in_table; few = few; laid = v.laid; least = rest; place = place; count = count; front = subst (λ (l : List PagePlace). IsFront c.args.set l c.add.ensures.pages.0) c.make_room.ensures.pages c.add.ensures.pages.1; new = new } in
    let there = not_failed c.make_room.result c.is_err.result c.is_err.ensures.value c.if-is_err.false c.make_room.ensures.there in
    let last_p : last_pages c.make_room.new.kept c.add.new.self ≡ (last_pages v.kept_table v.table) = pages_kept c.make_room.new.kept c.add.new.self c.make_room.new.table there ∙ c.make_room.ensures.last_pages in
    let last_f : last_free c.make_room.new.kept c.add.new.self ≡ (last_free v.kept_table v.table) = free_kept c.make_room.new.kept c.add.new.self c.make_room.new.table there ∙ c.make_room.ensures.last_free in
    record {
      control_is = v.control_is;
      near = omega (arith, v.near, c.stage.ensures.leaves.0.number);
      in_table = subst (λ (l : List PagePlace). IsTable v.control (g.B.Blocks.seen c.stage.new.self).number l (reverse c.add.new.self.free.items)) (sym pages) (table_counted v.control (g.B.Blocks.seen c.stage.new.self).number (g.B.Blocks.seen v.blocks).number (grown v.table.pages.items c.add.ensures.pages.0 c.args.set c.count_of-page.result c.in-Some.block) (reverse c.add.new.self.free.items) c.stage.ensures.leaves.0.number (table_grown v.indexes v.control (g.B.Blocks.seen v.blocks).number v.states.items v.table.pages.items (reverse v.table.free.items) (reverse c.add.new.self.free.items) (g.B.Blocks.seen v.blocks).list c.args.set c.count_of-page.result c.in-Some.block c.add.ensures.pages.0 c.empty_page.result s));
      laid = λ list is. subst (λ (l : List PagePlace). IsLaidOut v.indexes v.control (g.B.Blocks.seen c.stage.new.self).number v.states.items l (reverse c.add.new.self.free.items) list) (sym pages) (laid_counted v.indexes v.control (g.B.Blocks.seen c.stage.new.self).number (g.B.Blocks.seen v.blocks).number v.states.items (grown v.table.pages.items c.add.ensures.pages.0 c.args.set c.count_of-page.result c.in-Some.block) (reverse c.add.new.self.free.items) list c.stage.ensures.leaves.0.number (laid_grown v.indexes v.control (g.B.Blocks.seen v.blocks).number v.states.items v.table.pages.items (reverse v.table.free.items) (reverse c.add.new.self.free.items) (g.B.Blocks.seen v.blocks).list (g.B.Blocks.seen c.stage.new.self).list c.args.set c.count_of-page.result c.in-Some.block c.add.ensures.pages.0 c.empty_page.result s (is_done c.stage.result c.in_default-stage.not-Err c.stage.ensures.list) list is));
      as_many = v.as_many;
      kept_in_table = table_moved v.control (g.B.Blocks.seen c.stage.new.self).number (last_pages v.kept_table v.table) (last_pages c.make_room.new.kept c.add.new.self) (last_free v.kept_table v.table) (last_free c.make_room.new.kept c.add.new.self) last_p last_f (table_counted v.control (g.B.Blocks.seen c.stage.new.self).number (g.B.Blocks.seen v.blocks).number (last_pages v.kept_table v.table) (reverse (last_free v.kept_table v.table)) c.stage.ensures.leaves.0.number v.kept_in_table);
      kept_laid = λ live list is. laid_moved v.indexes v.control (g.B.Blocks.seen c.stage.new.self).number (last_states v.kept_states v.states) (last_pages v.kept_table v.table) (last_pages c.make_room.new.kept c.add.new.self) (last_free v.kept_table v.table) (last_free c.make_room.new.kept c.add.new.self) list last_p last_f (laid_counted v.indexes v.control (g.B.Blocks.seen c.stage.new.self).number (g.B.Blocks.seen v.blocks).number (last_states v.kept_states v.states) (last_pages v.kept_table v.table) (reverse (last_free v.kept_table v.table)) list c.stage.ensures.leaves.0.number (v.kept_laid c.requires.live list (sym c.stage.ensures.leaves.0.committed ∙ is)));
    }

pub returns-clause-page : goal.returns-clause-page
returns-clause-page g c =
    let v = c.args.self.now in
    let least : (reverse v.table.free.items) ≡ c.in-Some.block ∷ reverse (take (length v.table.free.items - 1) v.table.free.items) = c.in-Some.ensures.some in
    let count : c.count_of-page.result ≡ length (pages_of c.args.set v.table.pages.items) = c.count_of-page.ensures ∙ ap (λ (l : List PagePlace). length (pages_of c.args.set l)) (c.deref.ensures.value ∙ c.make_room.ensures.pages) in
    let low : c.count_of-page.result < 2 ^ 16 = omega (arith, count, few_pages v.control (g.B.Blocks.seen v.blocks).number v.table.pages.items (reverse v.table.free.items) c.args.set v.in_table v.near, length-map (pages_of c.args.set v.table.pages.items) (λ (p : PagePlace). p.block), ap length least) in
    let taken : c.add.new.self.free.items ≡ take (length v.table.free.items - 1) v.table.free.items = c.add.ensures.free ∙ ap (λ (l : List ℕ). take (length l - 1) l) c.make_room.ensures.free in
    let rest : (reverse v.table.free.items) ≡ c.in-Some.block ∷ reverse c.add.new.self.free.items = least ∙ ap (λ (l : List ℕ). c.in-Some.block ∷ reverse l) (sym taken) in
    let pages : c.add.new.self.pages.items ≡ grown v.table.pages.items c.add.ensures.pages.0 c.args.set c.count_of-page.result c.in-Some.block = c.add.ensures.pages.2 ∙ ap (λ (l : List PagePlace). grown l c.add.ensures.pages.0 c.args.set c.count_of-page.result c.in-Some.block) c.make_room.ensures.pages in
    let few : length v.states.items ≤ 32 * v.control = omega (arith, v.control_is) in
    let place : HasPlace c.args.set = record { part = omega arith; number = omega arith; letter = omega arith } in
    let new = subst (IsNew v.indexes v.states.items c.args.set c.count_of-page.result) (sym c.empty_page.ensures) (is_new v.indexes v.states.items c.args.set c.args.kind c.count_of-page.result place low c.requires.takes) in
    let s : Growing v.indexes v.control (g.B.Blocks.seen v.blocks).number v.states.items v.table.pages.items (reverse v.table.free.items) (reverse c.add.new.self.free.items) (g.B.Blocks.seen v.blocks).list c.args.set c.count_of-page.result c.in-Some.block c.add.ensures.pages.0 c.empty_page.result = record { table = v.in_table; few = few; laid = v.laid; least = rest; place = place; count = count; front = subst (λ (l : List PagePlace). IsFront c.args.set l c.add.ensures.pages.0) c.make_room.ensures.pages c.add.ensures.pages.1; new = new } in
    ap (λ (l : List PagePlace). option_map (blocks_at (places_of c.args.set l)) (g.B.Blocks.seen c.stage.new.self).list) pages ∙ subst (λ (x : List ℕ). option_map (blocks_at (places_of c.args.set (grown v.table.pages.items c.add.ensures.pages.0 c.args.set c.count_of-page.result c.in-Some.block))) (g.B.Blocks.seen c.stage.new.self).list ≡ option_map (λ pages. pages ++ x ∷ []) (option_map (blocks_at (places_of c.args.set v.table.pages.items)) (g.B.Blocks.seen v.blocks).list)) c.empty_page.ensures (pages_grown v.indexes v.control (g.B.Blocks.seen v.blocks).number v.states.items v.table.pages.items (reverse v.table.free.items) (reverse c.add.new.self.free.items) (g.B.Blocks.seen v.blocks).list (g.B.Blocks.seen c.stage.new.self).list c.args.set c.count_of-page.result c.in-Some.block c.add.ensures.pages.0 c.empty_page.result s (is_done c.stage.result c.in_default-stage.not-Err c.stage.ensures.list))

pub returns-clause-leaves : goal.returns-clause-leaves
returns-clause-leaves g c =
    let v = c.args.self.now in
    let least : (reverse v.table.free.items) ≡ c.in-Some.block ∷ reverse (take (length v.table.free.items - 1) v.table.free.items) = c.in-Some.ensures.some in
    let count : c.count_of-page.result ≡ length (pages_of c.args.set v.table.pages.items) = c.count_of-page.ensures ∙ ap (λ (l : List PagePlace). length (pages_of c.args.set l)) (c.deref.ensures.value ∙ c.make_room.ensures.pages) in
    let low : c.count_of-page.result < 2 ^ 16 = omega (arith, count, few_pages v.control (g.B.Blocks.seen v.blocks).number v.table.pages.items (reverse v.table.free.items) c.args.set v.in_table v.near, length-map (pages_of c.args.set v.table.pages.items) (λ (p : PagePlace). p.block), ap length least) in
    let taken : c.add.new.self.free.items ≡ take (length v.table.free.items - 1) v.table.free.items = c.add.ensures.free ∙ ap (λ (l : List ℕ). take (length l - 1) l) c.make_room.ensures.free in
    let rest : (reverse v.table.free.items) ≡ c.in-Some.block ∷ reverse c.add.new.self.free.items = least ∙ ap (λ (l : List ℕ). c.in-Some.block ∷ reverse l) (sym taken) in
    let pages : c.add.new.self.pages.items ≡ grown v.table.pages.items c.add.ensures.pages.0 c.args.set c.count_of-page.result c.in-Some.block = c.add.ensures.pages.2 ∙ ap (λ (l : List PagePlace). grown l c.add.ensures.pages.0 c.args.set c.count_of-page.result c.in-Some.block) c.make_room.ensures.pages in
    let few : length v.states.items ≤ 32 * v.control = omega (arith, v.control_is) in
    let place : HasPlace c.args.set = record { part = omega arith; number = omega arith; letter = omega arith } in
    let new = subst (IsNew v.indexes v.states.items c.args.set c.count_of-page.result) (sym c.empty_page.ensures) (is_new v.indexes v.states.items c.args.set c.args.kind c.count_of-page.result place low c.requires.takes) in
    let s : Growing v.indexes v.control (g.B.Blocks.seen v.blocks).number v.states.items v.table.pages.items (reverse v.table.free.items) (reverse c.add.new.self.free.items) (g.B.Blocks.seen v.blocks).list c.args.set c.count_of-page.result c.in-Some.block c.add.ensures.pages.0 c.empty_page.result = record { table = v.in_table; few = few; laid = v.laid; least = rest; place = place; count = count; front = subst (λ (l : List PagePlace). IsFront c.args.set l c.add.ensures.pages.0) c.make_room.ensures.pages c.add.ensures.pages.1; new = new } in
    record {
      others = λ other apart. ap (λ (l : List PagePlace). option_map (blocks_at (places_of other l)) (g.B.Blocks.seen c.stage.new.self).list) pages ∙ others_grown v.indexes v.control (g.B.Blocks.seen v.blocks).number v.states.items v.table.pages.items (reverse v.table.free.items) (reverse c.add.new.self.free.items) (g.B.Blocks.seen v.blocks).list (g.B.Blocks.seen c.stage.new.self).list c.args.set other c.count_of-page.result c.in-Some.block c.add.ensures.pages.0 c.empty_page.result s (is_done c.stage.result c.in_default-stage.not-Err c.stage.ensures.list) apart;
      untold = λ none. ap (λ (l : List PagePlace). option_map (blocks_at (places_of c.args.set l)) (g.B.Blocks.seen c.stage.new.self).list) pages ∙ subst (λ (x : List ℕ). option_map (blocks_at (places_of c.args.set (grown v.table.pages.items c.add.ensures.pages.0 c.args.set c.count_of-page.result c.in-Some.block))) (g.B.Blocks.seen c.stage.new.self).list ≡ option_map (λ pages. pages ++ x ∷ []) (option_map (blocks_at (places_of c.args.set v.table.pages.items)) (g.B.Blocks.seen v.blocks).list)) c.empty_page.ensures (pages_grown v.indexes v.control (g.B.Blocks.seen v.blocks).number v.states.items v.table.pages.items (reverse v.table.free.items) (reverse c.add.new.self.free.items) (g.B.Blocks.seen v.blocks).list (g.B.Blocks.seen c.stage.new.self).list c.args.set c.count_of-page.result c.in-Some.block c.add.ensures.pages.0 c.empty_page.result s (is_done c.stage.result c.in_default-stage.not-Err c.stage.ensures.list)) ∙ ap (option_map (λ pages. pages ++ empty_page c.args.kind c.args.set c.count_of-page.result ∷ [])) none;
      other_places = λ other apart. ap (places_of other) pages ∙ places_other c.args.set other v.table.pages.items c.add.ensures.pages.0 c.count_of-page.result c.in-Some.block apart;
      placed = ap (places_of c.args.set) pages ∙ places_grown c.args.set v.table.pages.items c.add.ensures.pages.0 c.count_of-page.result c.in-Some.block s.front ∙ ap (λ (l : List ℕ). places_of c.args.set v.table.pages.items ++ take 1 l) (sym rest);
      free = ap (drop 1) (sym rest);
      enough = omega (arith, ap length rest);
    }

pub returns-clause-keeps : goal.returns-clause-keeps
returns-clause-keeps g c =
    let v = c.args.self.now in
    let least : (reverse v.table.free.items) ≡ c.in-Some.block ∷ reverse (take (length v.table.free.items - 1) v.table.free.items) = c.in-Some.ensures.some in
    let taken : c.add.new.self.free.items ≡ take (length v.table.free.items - 1) v.table.free.items = c.add.ensures.free ∙ ap (λ (l : List ℕ). take (length l - 1) l) c.make_room.ensures.free in
    let rest : (reverse v.table.free.items) ≡ c.in-Some.block ∷ reverse c.add.new.self.free.items = least ∙ ap (λ (l : List ℕ). c.in-Some.block ∷ reverse l) (sym taken) in
    let there = not_failed c.make_room.result c.is_err.result c.is_err.ensures.value c.if-is_err.false c.make_room.ensures.there in
    let last_p : last_pages c.make_room.new.kept c.add.new.self ≡ (last_pages v.kept_table v.table) = pages_kept c.make_room.new.kept c.add.new.self c.make_room.new.table there ∙ c.make_room.ensures.last_pages in
    let last_f : last_free c.make_room.new.kept c.add.new.self ≡ (last_free v.kept_table v.table) = free_kept c.make_room.new.kept c.add.new.self c.make_room.new.table there ∙ c.make_room.ensures.last_free in
    let from = (least_within v.control (g.B.Blocks.seen v.blocks).number v.table.pages.items (reverse v.table.free.items) (reverse (take (length v.table.free.items - 1) v.table.free.items)) c.in-Some.block v.in_table c.in-Some.ensures.some).from in
    record {
      is_steady = (
        record { is_steady = c.stage.ensures.leaves.1; same = c.stage.ensures.leaves.0; faults = c.stage.ensures.faults.later },
        standing_same v.indexes v.control v.states.items (last_states v.kept_states v.states) (last_pages v.kept_table v.table) (last_pages c.make_room.new.kept c.add.new.self) (last_free v.kept_table v.table) (last_free c.make_room.new.kept c.add.new.self) last_p last_f,
        control_staged v.control c.in-Some.block (g.B.Blocks.seen v.blocks).list (g.B.Blocks.seen c.stage.new.self).list c.empty_page.result from (is_done c.stage.result c.in_default-stage.not-Err c.stage.ensures.list),
        free_taken v.control c.in-Some.block (reverse v.table.free.items) (reverse c.add.new.self.free.items) (g.B.Blocks.seen v.blocks).list (g.B.Blocks.seen c.stage.new.self).list c.empty_page.result rest v.in_table.rise (is_done c.stage.result c.in_default-stage.not-Err c.stage.ensures.list),
      );
      takes = λ set kind. refl;
      faults = fails_done c.stage.result Failed c.count_of-page.result page.Failed c.in_default-stage.not-Err c.stage.ensures.faults;
      fetches = c.stage.ensures.leaves.0.fetches;
    }

pub invariant_of-self-in-Err-1 : goal.invariant_of-self-in-Err-1
invariant_of-self-in-Err-1 g c =
    let v = c.args.self.now in
    record {
      control_is = v.control_is;
      near = omega (arith, v.near, c.stage.ensures.leaves.0.number);
      in_table = table_moved v.control (g.B.Blocks.seen c.stage.new.self).number v.table.pages.items c.make_room.new.table.pages.items v.table.free.items c.make_room.new.table.free.items c.make_room.ensures.pages c.make_room.ensures.free (table_counted v.control (g.B.Blocks.seen c.stage.new.self).number (g.B.Blocks.seen v.blocks).number v.table.pages.items (reverse v.table.free.items) c.stage.ensures.leaves.0.number v.in_table);
      laid = λ list is. laid_moved v.indexes v.control (g.B.Blocks.seen c.stage.new.self).number v.states.items v.table.pages.items c.make_room.new.table.pages.items v.table.free.items c.make_room.new.table.free.items list c.make_room.ensures.pages c.make_room.ensures.free (laid_counted v.indexes v.control (g.B.Blocks.seen c.stage.new.self).number (g.B.Blocks.seen v.blocks).number v.states.items v.table.pages.items (reverse v.table.free.items) list c.stage.ensures.leaves.0.number (v.laid list (sym c.in-Err.ensures.unchanged.0 ∙ is)));
      as_many = v.as_many;
      kept_in_table = table_moved v.control (g.B.Blocks.seen c.stage.new.self).number (last_pages v.kept_table v.table) (last_pages c.make_room.new.kept c.make_room.new.table) (last_free v.kept_table v.table) (last_free c.make_room.new.kept c.make_room.new.table) c.make_room.ensures.last_pages c.make_room.ensures.last_free (table_counted v.control (g.B.Blocks.seen c.stage.new.self).number (g.B.Blocks.seen v.blocks).number (last_pages v.kept_table v.table) (reverse (last_free v.kept_table v.table)) c.stage.ensures.leaves.0.number v.kept_in_table);
      kept_laid = λ live list is. laid_moved v.indexes v.control (g.B.Blocks.seen c.stage.new.self).number (last_states v.kept_states v.states) (last_pages v.kept_table v.table) (last_pages c.make_room.new.kept c.make_room.new.table) (last_free v.kept_table v.table) (last_free c.make_room.new.kept c.make_room.new.table) list c.make_room.ensures.last_pages c.make_room.ensures.last_free (laid_counted v.indexes v.control (g.B.Blocks.seen c.stage.new.self).number (g.B.Blocks.seen v.blocks).number (last_states v.kept_states v.states) (last_pages v.kept_table v.table) (reverse (last_free v.kept_table v.table)) list c.stage.ensures.leaves.0.number (v.kept_laid c.requires.live list (sym c.stage.ensures.leaves.0.committed ∙ is)));
    }

pub returns-in-Err-clause-keeps : goal.returns-in-Err-clause-keeps
returns-in-Err-clause-keeps g c =
    let v = c.args.self.now in
    record {
      is_steady = (record { is_steady = c.stage.ensures.leaves.1; same = c.stage.ensures.leaves.0; faults = c.stage.ensures.faults.later }, standing_same v.indexes v.control v.states.items (last_states v.kept_states v.states) (last_pages v.kept_table v.table) (last_pages c.make_room.new.kept c.make_room.new.table) (last_free v.kept_table v.table) (last_free c.make_room.new.kept c.make_room.new.table) c.make_room.ensures.last_pages c.make_room.ensures.last_free, ap (option_map (take v.control)) c.in-Err.ensures.unchanged.0, free_stays (reverse v.table.free.items) (reverse c.make_room.new.table.free.items) (g.B.Blocks.seen v.blocks).list (g.B.Blocks.seen c.stage.new.self).list (ap (λ (l : List ℕ). reverse l) c.make_room.ensures.free) c.in-Err.ensures.unchanged.0);
      takes = λ set kind. refl;
      faults = fails_page c.stage.result c.in-Err.fault c.from.result c.in-Err.is c.from.ensures c.stage.ensures.faults;
      fetches = c.stage.ensures.leaves.0.fetches;
    }

pub returns-in-Err-clause-leaves : goal.returns-in-Err-clause-leaves
returns-in-Err-clause-leaves g c =
    let v = c.args.self.now in
    record {
      pages = λ set. ap (λ (l : List PagePlace). option_map (blocks_at (places_of set l)) (g.B.Blocks.seen c.stage.new.self).list) c.make_room.ensures.pages ∙ ap (option_map (blocks_at (places_of set v.table.pages.items))) c.in-Err.ensures.unchanged.0;
      places = λ set. ap (places_of set) c.make_room.ensures.pages;
      free = ap (λ (l : List ℕ). reverse l) c.make_room.ensures.free;
    }

pub returns-then-is_err-clause-keeps : goal.returns-then-is_err-clause-keeps
returns-then-is_err-clause-keeps g c =
    let v = c.args.self.now in
    record {
      is_steady = (stays_none (g.B.Blocks.seen v.blocks) (g.met.B.Blocks.steady_none v.blocks), standing_same v.indexes v.control v.states.items (last_states v.kept_states v.states) (last_pages v.kept_table v.table) (last_pages c.make_room.new.kept c.make_room.new.table) (last_free v.kept_table v.table) (last_free c.make_room.new.kept c.make_room.new.table) c.make_room.ensures.last_pages c.make_room.ensures.last_free, refl, free_stays (reverse v.table.free.items) (reverse c.make_room.new.table.free.items) (g.B.Blocks.seen v.blocks).list (g.B.Blocks.seen v.blocks).list (ap (λ (l : List ℕ). reverse l) c.make_room.ensures.free) refl);
      takes = λ set kind. refl;
      faults = record { later = omega arith; cause = λ is. absurd (wrong is); alive = λ _. c.requires.live; dead = λ is. absurd (wrong is) };
      fetches = omega arith;
    }
  where
    wrong : IsErrOf {T = ℕ} (Err page.Memory) page.Failed → ⊥
    wrong is = cc
