use Rattle.std.proofs.Common.{◌≡◌, ◌∙◌, inl, refl, sym, Err}
use Rattle.std.proofs.lemmas.Result.{on_ok_weaker, on_err_weaker, err_from_is_err_and}
use Rattle.hal_base.specs.declared.outcome.PageFault.TheVariants.{NoRoom}
use Rattle.hal_base.proofs.ShelfLemmas.{keeps_as, same_changed, reads_as, reads_changes, changes_then, changes_grows}
use Rattle.keyed_sets.specs.Layout.{Row, count_of}
use Rattle.keyed_sets.specs.Places.{NeedsPage, NoneEmpty}
use Rattle.keyed_sets.specs.Rule.{capacity, tables}
use Rattle.keyed_sets.specs.Goes.{IsFull}
use Rattle.keyed_sets.specs.Reading.{home_page}
use Rattle.keyed_sets.proofs.Heads.{heads_told, heads_unchanged}
use Rattle.keyed_sets.proofs.SecondSet.{Splitting, many_rows, opened_spared, grows_by, left_spared, fails_spared, fails_made, can_halve, halves_put, halves_opened, halves_heads, left_opened, left_heads, left_puts}
use Rattle.keyed_sets.proofs.Steps.{either, left_none, spared}
use Rattle.keyed_sets.proofs.Told.{told_both, any_err}
use Rattle.keyed_sets.proofs.set.KeyedSet.split_page.Goals as goal

pub split_rows-requires-clause-many : goal.split_rows-requires-clause-many
split_rows-requires-clause-many g c = many_rows c.args.self.now.shape (count_of c.args.page.now) c.args.self.now.short c.requires.no_room

pub returns-in_err-make_page-clause-leaves : goal.returns-in_err-make_page-clause-leaves
returns-in_err-make_page-clause-leaves g c =
    let self = c.args.self.now in
    let before = g.H.Shelf.seen c.args.shelf.now in
    let mid = g.H.Shelf.seen c.make_page.new.shelf in
    let u = c.in_err-make_page.ensures.unchanged in
    let p = err_from_is_err_and c.from_residual.result c.from_residual.ensures.1 in
    record {
      changes = inl (changes_grows (record { keeps = keeps_as c.make_page.ensures.keeps (λ is. cc) (λ is. cc); changed = same_changed self.set u.1 }));
      heads = heads_unchanged self.set before mid (u.1.pages self.set);
    }

pub returns-in_err-make_page-clause-fails : goal.returns-in_err-make_page-clause-fails
returns-in_err-make_page-clause-fails g c =
    let self = c.args.self.now in
    let before = g.H.Shelf.seen c.args.shelf.now in
    let mid = g.H.Shelf.seen c.make_page.new.shelf in
    let u = c.in_err-make_page.ensures.unchanged in
    let row : Row = (c.args.key.now, c.args.body.now) in
    let p = err_from_is_err_and c.from_residual.result c.from_residual.ensures.1 in
    fails_made c.from_residual.result self row before mid u.1 (left_none self row before mid (u.1.pages self.set)) (λ is. let failed : c.make_page.result ≡ Err NoRoom = cc in c.make_page.ensures.room failed)
    (λ none. told_both (before.pages self.set) (λ pages. IsFull (capacity self.shape) c.args.key.now (tables self.shape pages) (home_page self c.args.spot)) (λ pages. NeedsPage (capacity self.shape) c.args.key.now (tables self.shape pages)) c.requires.full
    (λ pages is full. NoneEmpty (home_page self c.args.spot) full.home full.full (sym (c.requires.opened.empty pages is) ∙ none)))

pub returns-in_err-read_empty-clause-opened : goal.returns-in_err-read_empty-clause-opened
returns-in_err-read_empty-clause-opened g c =
    let self = c.args.self.now in
    let before = g.H.Shelf.seen c.args.shelf.now in
    let mid = g.H.Shelf.seen c.make_page.new.shelf in
    let one = c.make_page.new.self in
    let made = spared self one before mid c.requires.opened (g.met.H.Shelf.pages_are c.args.shelf.now self.set) c.in_ok-make_page.ensures.made in
    let sp = made.1 in
    let read = g.H.Shelf.seen c.read_empty.new.shelf in
    record { set = refl; shape = refl; opened = opened_spared self _ one.empty.items before mid read made.0 sp refl refl c.make_page.ensures.firsts refl c.read_empty.ensures.leaves.same }

pub returns-in_err-read_empty-clause-leaves : goal.returns-in_err-read_empty-clause-leaves
returns-in_err-read_empty-clause-leaves g c =
    let self = c.args.self.now in
    let before = g.H.Shelf.seen c.args.shelf.now in
    let mid = g.H.Shelf.seen c.make_page.new.shelf in
    let one = c.make_page.new.self in
    let made = spared self one before mid c.requires.opened (g.met.H.Shelf.pages_are c.args.shelf.now self.set) c.in_ok-make_page.ensures.made in
    let sp = made.1 in
    let read = g.H.Shelf.seen c.read_empty.new.shelf in
    let p = err_from_is_err_and c.from_residual-in_err-read_empty.result c.from_residual-in_err-read_empty.ensures.1 in
    record {
      changes = grows_by self one c.in_ok-make_page.ensures.made c.make_page.ensures.keeps (reads_changes self.set (reads_as c.read_empty.ensures.leaves (λ is. cc) (λ is. cc))) (g.met.H.Shelf.steady_then c.args.shelf.now c.make_page.new.shelf c.read_empty.new.shelf);
      heads = heads_told self.set before read made.0 (c.read_empty.ensures.leaves.same.pages self.set ∙ sp.pages) sp.heads;
    }

pub returns-in_err-read_empty-clause-fails : goal.returns-in_err-read_empty-clause-fails
returns-in_err-read_empty-clause-fails g c =
    let self = c.args.self.now in
    let before = g.H.Shelf.seen c.args.shelf.now in
    let mid = g.H.Shelf.seen c.make_page.new.shelf in
    let one = c.make_page.new.self in
    let made = spared self one before mid c.requires.opened (g.met.H.Shelf.pages_are c.args.shelf.now self.set) c.in_ok-make_page.ensures.made in
    let sp = made.1 in
    let read = g.H.Shelf.seen c.read_empty.new.shelf in
    let row : Row = (c.args.key.now, c.args.body.now) in
    let p = err_from_is_err_and c.from_residual-in_err-read_empty.result c.from_residual-in_err-read_empty.ensures.1 in
    fails_spared c.from_residual-in_err-read_empty.result self row before read (any_err c.from_residual-in_err-read_empty.result (left_spared self row one.empty.items before mid read made.0 sp (c.read_empty.ensures.leaves.same.pages self.set)))
    (λ is. let failed : c.read_empty.result ≡ Err NoRoom = cc in c.read_empty.ensures.room failed)

pub put_halves-requires-clause-halves : goal.put_halves-requires-clause-halves
put_halves-requires-clause-halves g c =
    let self = c.args.self.now in
    let before = g.H.Shelf.seen c.args.shelf.now in
    let mid = g.H.Shelf.seen c.make_page.new.shelf in
    let one = c.make_page.new.self in
    let made = spared self one before mid c.requires.opened (g.met.H.Shelf.pages_are c.args.shelf.now self.set) c.in_ok-make_page.ensures.made in
    let sp = made.1 in
    let read = g.H.Shelf.seen c.read_empty.new.shelf in
    let row : Row = (c.args.key.now, c.args.body.now) in
    let page = c.args.page.now in
    let page2 = c.split_rows.new.page in
    let second = c.read_empty.new.page in
    let second2 = c.split_rows.new.second in
    let same = c.read_empty.ensures.leaves.same in
    let s : Splitting self row c.args.spot one before mid made.0 page page2 second second2 = record {
      opened = c.requires.opened;
      some = self.some;
      short = self.short;
      sought = c.requires.sought;
      full = c.requires.full;
      spared = sp;
      there = c.in_ok-read_empty.ensures.page;
      split = c.split_rows.ensures.split;
    } in
    can_halve self row c.args.spot one before mid read made.0 page page2 second second2 s c.make_page.ensures.firsts same c.split_rows.ensures.kept c.split_rows.ensures.moved

pub returns-clause-puts : goal.returns-clause-puts
returns-clause-puts g c =
    let self = c.args.self.now in
    let before = g.H.Shelf.seen c.args.shelf.now in
    let mid = g.H.Shelf.seen c.make_page.new.shelf in
    let one = c.make_page.new.self in
    let made = spared self one before mid c.requires.opened (g.met.H.Shelf.pages_are c.args.shelf.now self.set) c.in_ok-make_page.ensures.made in
    let sp = made.1 in
    let read = g.H.Shelf.seen c.read_empty.new.shelf in
    let row : Row = (c.args.key.now, c.args.body.now) in
    let page = c.args.page.now in
    let page2 = c.split_rows.new.page in
    let second = c.read_empty.new.page in
    let second2 = c.split_rows.new.second in
    let same = c.read_empty.ensures.leaves.same in
    let s : Splitting self row c.args.spot one before mid made.0 page page2 second second2 = record {
      opened = c.requires.opened;
      some = self.some;
      short = self.short;
      sought = c.requires.sought;
      full = c.requires.full;
      spared = sp;
      there = c.in_ok-read_empty.ensures.page;
      split = c.split_rows.ensures.split;
    } in
    let after = g.H.Shelf.seen c.put_halves.new.shelf in
    let two = c.put_halves.new.self in
    on_ok_weaker c.put_halves.result (λ w. halves_put self row c.args.spot one two before mid read after made.0 page page2 second second2 s c.make_page.ensures.firsts (same.pages self.set) w) c.put_halves.ensures.written

pub returns-clause-opened : goal.returns-clause-opened
returns-clause-opened g c =
    let self = c.args.self.now in
    let before = g.H.Shelf.seen c.args.shelf.now in
    let mid = g.H.Shelf.seen c.make_page.new.shelf in
    let one = c.make_page.new.self in
    let made = spared self one before mid c.requires.opened (g.met.H.Shelf.pages_are c.args.shelf.now self.set) c.in_ok-make_page.ensures.made in
    let sp = made.1 in
    let read = g.H.Shelf.seen c.read_empty.new.shelf in
    let row : Row = (c.args.key.now, c.args.body.now) in
    let page = c.args.page.now in
    let page2 = c.split_rows.new.page in
    let second = c.read_empty.new.page in
    let second2 = c.split_rows.new.second in
    let same = c.read_empty.ensures.leaves.same in
    let s : Splitting self row c.args.spot one before mid made.0 page page2 second second2 = record {
      opened = c.requires.opened;
      some = self.some;
      short = self.short;
      sought = c.requires.sought;
      full = c.requires.full;
      spared = sp;
      there = c.in_ok-read_empty.ensures.page;
      split = c.split_rows.ensures.split;
    } in
    let after = g.H.Shelf.seen c.put_halves.new.shelf in
    let two = c.put_halves.new.self in
    let places = c.put_halves.ensures.leaves.changed.places self.set in
    record {
      set = refl;
      shape = refl;
      opened = either c.put_halves.result c.put_halves.ensures.written c.put_halves.ensures.left
          (λ w. halves_opened self _ row c.args.spot one two before mid read after made.0 page page2 second second2 s c.make_page.ensures.firsts refl refl refl same places w)
          (λ l. left_opened self _ row c.args.spot one two before mid read after made.0 page page2 second second2 s c.make_page.ensures.firsts refl refl refl same places l);
    }

pub returns-clause-leaves : goal.returns-clause-leaves
returns-clause-leaves g c =
    let self = c.args.self.now in
    let before = g.H.Shelf.seen c.args.shelf.now in
    let mid = g.H.Shelf.seen c.make_page.new.shelf in
    let one = c.make_page.new.self in
    let made = spared self one before mid c.requires.opened (g.met.H.Shelf.pages_are c.args.shelf.now self.set) c.in_ok-make_page.ensures.made in
    let sp = made.1 in
    let read = g.H.Shelf.seen c.read_empty.new.shelf in
    let row : Row = (c.args.key.now, c.args.body.now) in
    let page = c.args.page.now in
    let page2 = c.split_rows.new.page in
    let second = c.read_empty.new.page in
    let second2 = c.split_rows.new.second in
    let same = c.read_empty.ensures.leaves.same in
    let s : Splitting self row c.args.spot one before mid made.0 page page2 second second2 = record {
      opened = c.requires.opened;
      some = self.some;
      short = self.short;
      sought = c.requires.sought;
      full = c.requires.full;
      spared = sp;
      there = c.in_ok-read_empty.ensures.page;
      split = c.split_rows.ensures.split;
    } in
    let after = g.H.Shelf.seen c.put_halves.new.shelf in
    let two = c.put_halves.new.self in
    record {
      changes = grows_by self one c.in_ok-make_page.ensures.made c.make_page.ensures.keeps
          (changes_then (reads_changes self.set c.read_empty.ensures.leaves) c.put_halves.ensures.leaves (g.met.H.Shelf.steady_then c.make_page.new.shelf c.read_empty.new.shelf c.put_halves.new.shelf))
          (g.met.H.Shelf.steady_then c.args.shelf.now c.make_page.new.shelf c.put_halves.new.shelf);
      heads = either c.put_halves.result c.put_halves.ensures.written c.put_halves.ensures.left (λ w. halves_heads self row c.args.spot one two before mid read after made.0 page page2 second second2 s c.make_page.ensures.firsts (same.pages self.set) w) (λ l. left_heads self row c.args.spot one two before mid read after made.0 page page2 second second2 s c.make_page.ensures.firsts (same.pages self.set) l);
    }

pub returns-clause-fails : goal.returns-clause-fails
returns-clause-fails g c =
    let self = c.args.self.now in
    let before = g.H.Shelf.seen c.args.shelf.now in
    let mid = g.H.Shelf.seen c.make_page.new.shelf in
    let one = c.make_page.new.self in
    let made = spared self one before mid c.requires.opened (g.met.H.Shelf.pages_are c.args.shelf.now self.set) c.in_ok-make_page.ensures.made in
    let sp = made.1 in
    let read = g.H.Shelf.seen c.read_empty.new.shelf in
    let row : Row = (c.args.key.now, c.args.body.now) in
    let page = c.args.page.now in
    let page2 = c.split_rows.new.page in
    let second = c.read_empty.new.page in
    let second2 = c.split_rows.new.second in
    let same = c.read_empty.ensures.leaves.same in
    let s : Splitting self row c.args.spot one before mid made.0 page page2 second second2 = record {
      opened = c.requires.opened;
      some = self.some;
      short = self.short;
      sought = c.requires.sought;
      full = c.requires.full;
      spared = sp;
      there = c.in_ok-read_empty.ensures.page;
      split = c.split_rows.ensures.split;
    } in
    let after = g.H.Shelf.seen c.put_halves.new.shelf in
    let two = c.put_halves.new.self in
    fails_spared c.put_halves.result self row before after (on_err_weaker c.put_halves.result (λ l. left_puts self row c.args.spot one two before mid read after made.0 page page2 second second2 s c.make_page.ensures.firsts (same.pages self.set) l) c.put_halves.ensures.left) c.put_halves.ensures.room
