use Rattle.std.proofs.Common.{◌<◌, ℕ, List, length, set, refl, ap}
use Rattle.std.proofs.lemmas.List.Elements.{All-set}
use Rattle.std.proofs.lemmas.Result.{on_ok_weaker}
use Rattle.keyed_sets.specs.declared.index.First.{First}
use Rattle.keyed_sets.specs.Layout.{Row}
use Rattle.keyed_sets.specs.Reading.{home_page}
use Rattle.keyed_sets.specs.Standing.{no_first}
use Rattle.keyed_sets.specs.Writing.{first_at}
use Rattle.keyed_sets.proofs.FitSet.{head_told, heads_written, fit_told}
use Rattle.keyed_sets.proofs.Fits.{fit_puts, fit_stands}
use Rattle.keyed_sets.proofs.Heads.{heads_unchanged}
use Rattle.keyed_sets.proofs.Steps.{opened_as, opened_still, either}
use Rattle.keyed_sets.proofs.set.KeyedSet.fit_row.Goals as goal

pub put_page-requires-clause-head : goal.put_page-requires-clause-head
put_page-requires-clause-head g c =
    let self = c.args.self.now in
    head_told self c.args.key.now c.args.spot c.args.page.now c.set_row.new.page (g.H.Shelf.seen c.args.shelf.now) c.requires.opened c.requires.sought (λ rise. (c.set_row.ensures.puts rise (c.requires.sought.place rise)).head)

pub returns-clause-puts : goal.returns-clause-puts
returns-clause-puts g c =
    let self = c.args.self.now in
    let before = g.H.Shelf.seen c.args.shelf.now in
    let after = g.H.Shelf.seen c.put_page.new.shelf in
    let row : Row = (c.args.key.now, c.args.body.now) in
    let page = c.args.page.now in
    let page2 = c.set_row.new.page in
    let spot = c.args.spot in
    on_ok_weaker c.put_page.result (λ w.
    fit_puts self.shape (before.pages self.set) (after.pages self.set) self.index.firsts.items self.index.empty.items spot.home (first_at spot.home self.index.firsts.items) page page2 spot.at row
    (fit_told self row spot page page2 before after self.some c.requires.opened c.requires.sought c.requires.takes c.set_row.ensures.puts w.pages)) c.put_page.ensures.written

pub returns-clause-opened : goal.returns-clause-opened
returns-clause-opened g c =
    let self = c.args.self.now in
    let before = g.H.Shelf.seen c.args.shelf.now in
    let after = g.H.Shelf.seen c.put_page.new.shelf in
    let row : Row = (c.args.key.now, c.args.body.now) in
    let page = c.args.page.now in
    let page2 = c.set_row.new.page in
    let spot = c.args.spot in
    let firsts : List First = self.index.firsts.items in
    let count : ℕ = length (before.places self.set) in
    record {
      set = refl;
      shape = refl;
      opened = either c.put_page.result c.put_page.ensures.written c.put_page.ensures.unchanged (λ w.
          let f = w.some c.set_row.ensures.some in
          let first : First = record { key = f.0; page = home_page self spot } in
          opened_as _ after (set firsts spot.home first) self.index.empty.items count f.2 f.3 (ap (λ (l : List ℕ). length l) (c.put_page.ensures.leaves.changed.places self.set))
          (All-set (λ (f : First). f.page < count) firsts spot.home first (c.requires.opened.firsts_within spot.home no_first c.requires.sought.within) c.requires.opened.firsts_within) c.requires.opened.empty_within
          (fit_stands self.shape (before.pages self.set) (after.pages self.set) firsts self.index.empty.items spot.home (first_at spot.home firsts) page page2 spot.at row f.0
          (fit_told self row spot page page2 before after self.some c.requires.opened c.requires.sought c.requires.takes c.set_row.ensures.puts w.pages) f.1))
          (λ u. opened_still self _ before after refl refl u.0 u.1 u.2 c.requires.opened);
    }

pub returns-clause-leaves : goal.returns-clause-leaves
returns-clause-leaves g c =
    let self = c.args.self.now in
    let before = g.H.Shelf.seen c.args.shelf.now in
    let after = g.H.Shelf.seen c.put_page.new.shelf in
    record {
      changes = c.put_page.ensures.leaves;
      heads = either c.put_page.result c.put_page.ensures.written c.put_page.ensures.unchanged
          (λ w. heads_written self c.args.key.now c.args.spot c.args.page.now c.set_row.new.page before after c.requires.opened c.requires.sought (λ rise. (c.set_row.ensures.puts rise (c.requires.sought.place rise)).head) w.pages)
          (λ u. heads_unchanged self.set before after (u.2.pages self.set));
    }
