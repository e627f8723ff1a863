use Rattle.std.proofs.Common.{◌≡◌, ◌∙◌, ℕ, List, Some, sym}
use Rattle.std.proofs.lemmas.Bool.{both_ways}
use Rattle.keyed_sets.specs.Rule.{capacity, tables}
use Rattle.keyed_sets.specs.Goes.{IsBegun, IsFull}
use Rattle.keyed_sets.specs.Reading.{home_page}
use Rattle.keyed_sets.proofs.Spots.{IsFullAt, at_told, begins_at, fills_at}
use Rattle.keyed_sets.proofs.Joined.{writes_grow}
use Rattle.keyed_sets.proofs.Steps.{fails_still}
use Rattle.keyed_sets.proofs.Told.{where_told}
use Rattle.keyed_sets.proofs.set.KeyedSet.put_at.Goals as goal

pub returns-then-spot-clause-leaves : goal.returns-then-spot-clause-leaves
returns-then-spot-clause-leaves g c = writes_grow c.args.self.now c.fit_row.ensures.leaves

pub returns-then-spot-clause-fails : goal.returns-then-spot-clause-fails
returns-then-spot-clause-fails g c =
    fails_still c.fit_row.result c.args.self.now (c.args.key.now, c.args.body.now) (g.H.Shelf.seen c.args.shelf.now) (g.H.Shelf.seen c.fit_row.new.shelf) c.fit_row.ensures.unchanged c.fit_row.ensures.room

pub begin_page-requires-clause-begins : goal.begin_page-requires-clause-begins
begin_page-requires-clause-begins g c =
    let self = c.args.self.now in
    let before = g.H.Shelf.seen c.args.shelf.now in
    let key = c.args.key.now in
    let spot = c.args.spot in
    let page = c.args.page.now in
    let at : (pages : List (List ℕ)) → before.pages self.set ≡ Some pages → IsFullAt self key spot page pages = λ pages is. record {
      at = at_told self key spot page before c.requires.opened c.requires.sought pages is;
      none = c.if-spot.false;
      full = λ room. both_ways c.has_room.result c.if-has_room.false (c.has_room.ensures.1 room);
      some = self.some;
    } in
    let ends = c.comes_last.ensures.0 c.if-comes_last.true in
    where_told (before.pages self.set) (λ pages. IsBegun (capacity self.shape) key (tables self.shape pages)) (λ pages is. begins_at self key spot page pages (at pages is) (ends.0 ∙ c.len-pages.ensures ∙ self.index.firsts.ok.0) (ends.1 ∙ c.count_in.ensures))

pub split_page-requires-clause-full : goal.split_page-requires-clause-full
split_page-requires-clause-full g c =
    let self = c.args.self.now in
    let before = g.H.Shelf.seen c.args.shelf.now in
    let key = c.args.key.now in
    let spot = c.args.spot in
    let page = c.args.page.now in
    let at : (pages : List (List ℕ)) → before.pages self.set ≡ Some pages → IsFullAt self key spot page pages = λ pages is. record {
      at = at_told self key spot page before c.requires.opened c.requires.sought pages is;
      none = c.if-spot.false;
      full = λ room. both_ways c.has_room.result c.if-has_room.false (c.has_room.ensures.1 room);
      some = self.some;
    } in
    where_told (before.pages self.set) (λ pages. IsFull (capacity self.shape) key (tables self.shape pages) (home_page self spot)) (λ pages is. fills_at self key spot page pages (at pages is) c.requires.sought.upto
    (λ ends. both_ways c.comes_last.result c.if-comes_last.false (c.comes_last.ensures.1 (ends.0 ∙ sym (c.len-pages.ensures ∙ self.index.firsts.ok.0), ends.1 ∙ sym c.count_in.ensures))))
