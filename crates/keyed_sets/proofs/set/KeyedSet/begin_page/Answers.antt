use Rattle.std.proofs.Common.{◌≡◌, ◌∙◌, ◌<◌, ◌++◌, ◌∷◌, [], ℕ, List, length, inl, refl, sym, ap, subst, Err}
use Rattle.std.specs.Prelude.{insert}
use Rattle.std.specs.List.{remove}
use Rattle.std.proofs.lemmas.Option.{slice_get-get_or}
use Rattle.std.proofs.lemmas.Result.{on_ok_weaker, on_err_weaker, err_from_is_err_and}
use Rattle.hal_base.specs.declared.outcome.PageFault.TheVariants.{NoRoom}
use Rattle.hal_base.proofs.ShelfLemmas.{keeps_as, same_then, same_changed, reads_as, reads_changes, changes_then, changes_grows}
use Rattle.keyed_sets.specs.declared.index.First.{First}
use Rattle.keyed_sets.specs.Layout.{Row, count_of}
use Rattle.keyed_sets.specs.Places.{NeedsPage}
use Rattle.keyed_sets.specs.Rule.{capacity, tables}
use Rattle.keyed_sets.specs.Goes.{IsBegun}
use Rattle.keyed_sets.specs.Writing.{number_at}
use Rattle.keyed_sets.proofs.Begins.{begun_told, begun_index, room_first, put_within, fewer_within}
use Rattle.keyed_sets.proofs.Heads.{heads_told, heads_unchanged}
use Rattle.keyed_sets.proofs.Spots.{begun_needs}
use Rattle.keyed_sets.proofs.SecondSet.{insert_last, opened_spared, grows_by, left_spared, fails_spared, fails_made, begun_of, begun_heads}
use Rattle.keyed_sets.proofs.Steps.{opened_as, either, left_none, spared}
use Rattle.keyed_sets.proofs.Told.{told_both, any_err}
use Rattle.keyed_sets.proofs.set.KeyedSet.begin_page.Goals as goal

pub insert_row-requires-clause-room : goal.insert_row-requires-clause-room
insert_row-requires-clause-room g c = room_first c.args.self.now.shape (count_of c.read_empty.new.page) c.in_ok-read_empty.ensures.none c.args.self.now.short

pub returns-in_err-make_page-clause-leaves : goal.returns-in_err-make_page-clause-leaves
returns-in_err-make_page-clause-leaves g c =
    let self = c.args.self.now in
    let before = g.H.Shelf.seen c.args.shelf.now in
    let mid = g.H.Shelf.seen c.make_page.new.shelf in
    let u = c.in_err-make_page.ensures.unchanged in
    let p = err_from_is_err_and c.from_residual.result c.from_residual.ensures.1 in
    record {
      changes = inl (changes_grows (record { keeps = keeps_as c.make_page.ensures.keeps (λ is. cc) (λ is. cc); changed = same_changed self.set u.1 }));
      heads = heads_unchanged self.set before mid (u.1.pages self.set);
    }

pub returns-in_err-make_page-clause-fails : goal.returns-in_err-make_page-clause-fails
returns-in_err-make_page-clause-fails g c =
    let self = c.args.self.now in
    let before = g.H.Shelf.seen c.args.shelf.now in
    let mid = g.H.Shelf.seen c.make_page.new.shelf in
    let u = c.in_err-make_page.ensures.unchanged in
    let row : Row = (c.args.key.now, c.args.body.now) in
    let p = err_from_is_err_and c.from_residual.result c.from_residual.ensures.1 in
    fails_made c.from_residual.result self row before mid u.1 (left_none self row before mid (u.1.pages self.set)) (λ is. let failed : c.make_page.result ≡ Err NoRoom = cc in c.make_page.ensures.room failed)
    (λ none. told_both (before.pages self.set) (λ pages. IsBegun (capacity self.shape) c.args.key.now (tables self.shape pages)) (λ pages. NeedsPage (capacity self.shape) c.args.key.now (tables self.shape pages)) c.requires.begins
    (λ pages is begun. begun_needs (capacity self.shape) c.args.key.now (tables self.shape pages) begun (sym (c.requires.opened.empty pages is) ∙ none)))

pub returns-in_err-read_empty-clause-opened : goal.returns-in_err-read_empty-clause-opened
returns-in_err-read_empty-clause-opened g c =
    let self = c.args.self.now in
    let before = g.H.Shelf.seen c.args.shelf.now in
    let mid = g.H.Shelf.seen c.make_page.new.shelf in
    let one = c.make_page.new.self in
    let made = spared self one before mid c.requires.opened (g.met.H.Shelf.pages_are c.args.shelf.now self.set) c.in_ok-make_page.ensures.made in
    let sp = made.1 in
    let read = g.H.Shelf.seen c.read_empty.new.shelf in
    record { set = refl; shape = refl; opened = opened_spared self _ one.empty.items before mid read made.0 sp refl refl c.make_page.ensures.firsts refl c.read_empty.ensures.leaves.same }

pub returns-in_err-read_empty-clause-leaves : goal.returns-in_err-read_empty-clause-leaves
returns-in_err-read_empty-clause-leaves g c =
    let self = c.args.self.now in
    let before = g.H.Shelf.seen c.args.shelf.now in
    let mid = g.H.Shelf.seen c.make_page.new.shelf in
    let one = c.make_page.new.self in
    let made = spared self one before mid c.requires.opened (g.met.H.Shelf.pages_are c.args.shelf.now self.set) c.in_ok-make_page.ensures.made in
    let sp = made.1 in
    let read = g.H.Shelf.seen c.read_empty.new.shelf in
    let p = err_from_is_err_and c.from_residual-in_err-read_empty.result c.from_residual-in_err-read_empty.ensures.1 in
    record {
      changes = grows_by self one c.in_ok-make_page.ensures.made c.make_page.ensures.keeps (reads_changes self.set (reads_as c.read_empty.ensures.leaves (λ is. cc) (λ is. cc))) (g.met.H.Shelf.steady_then c.args.shelf.now c.make_page.new.shelf c.read_empty.new.shelf);
      heads = heads_told self.set before read made.0 (c.read_empty.ensures.leaves.same.pages self.set ∙ sp.pages) sp.heads;
    }

pub returns-in_err-read_empty-clause-fails : goal.returns-in_err-read_empty-clause-fails
returns-in_err-read_empty-clause-fails g c =
    let self = c.args.self.now in
    let before = g.H.Shelf.seen c.args.shelf.now in
    let mid = g.H.Shelf.seen c.make_page.new.shelf in
    let one = c.make_page.new.self in
    let made = spared self one before mid c.requires.opened (g.met.H.Shelf.pages_are c.args.shelf.now self.set) c.in_ok-make_page.ensures.made in
    let sp = made.1 in
    let read = g.H.Shelf.seen c.read_empty.new.shelf in
    let row : Row = (c.args.key.now, c.args.body.now) in
    let p = err_from_is_err_and c.from_residual-in_err-read_empty.result c.from_residual-in_err-read_empty.ensures.1 in
    fails_spared c.from_residual-in_err-read_empty.result self row before read (any_err c.from_residual-in_err-read_empty.result (left_spared self row one.empty.items before mid read made.0 sp (c.read_empty.ensures.leaves.same.pages self.set)))
    (λ is. let failed : c.read_empty.result ≡ Err NoRoom = cc in c.read_empty.ensures.room failed)

pub add_page-requires-clause-below : goal.add_page-requires-clause-below
add_page-requires-clause-below g c =
    let self = c.args.self.now in
    let before = g.H.Shelf.seen c.args.shelf.now in
    let mid = g.H.Shelf.seen c.make_page.new.shelf in
    let one = c.make_page.new.self in
    let made = spared self one before mid c.requires.opened (g.met.H.Shelf.pages_are c.args.shelf.now self.set) c.in_ok-make_page.ensures.made in
    let sp = made.1 in
    let read = g.H.Shelf.seen c.read_empty.new.shelf in
    subst (λ (l : List ℕ). number_at one.empty.items < length l) (sym (c.read_empty.ensures.leaves.same.places self.set)) (sp.within 0 0 sp.some)

pub returns-clause-puts : goal.returns-clause-puts
returns-clause-puts g c =
    let self = c.args.self.now in
    let before = g.H.Shelf.seen c.args.shelf.now in
    let mid = g.H.Shelf.seen c.make_page.new.shelf in
    let one = c.make_page.new.self in
    let made = spared self one before mid c.requires.opened (g.met.H.Shelf.pages_are c.args.shelf.now self.set) c.in_ok-make_page.ensures.made in
    let sp = made.1 in
    let read = g.H.Shelf.seen c.read_empty.new.shelf in
    let after = g.H.Shelf.seen c.add_page.new.shelf in
    let row : Row = (c.args.key.now, c.args.body.now) in
    let page = c.read_empty.new.page in
    let page2 = c.insert_row.new.page in
    let same = c.read_empty.ensures.leaves.same in
    let there = c.in_ok-read_empty.ensures.page in
    on_ok_weaker c.add_page.result (λ a.
    begun_told self.shape (before.pages self.set) (mid.pages self.set) (after.pages self.set) self.index.firsts.items self.index.firsts.items self.index.empty.items one.empty.items page page2 row
    (begun_of self row one before mid read after made.0 page page2 c.requires.opened self.some self.short sp (same.pages self.set) there c.in_ok-read_empty.ensures.none c.insert_row.ensures c.requires.begins a.pages)) c.add_page.ensures.added

pub returns-clause-opened : goal.returns-clause-opened
returns-clause-opened g c =
    let self = c.args.self.now in
    let before = g.H.Shelf.seen c.args.shelf.now in
    let mid = g.H.Shelf.seen c.make_page.new.shelf in
    let one = c.make_page.new.self in
    let made = spared self one before mid c.requires.opened (g.met.H.Shelf.pages_are c.args.shelf.now self.set) c.in_ok-make_page.ensures.made in
    let sp = made.1 in
    let read = g.H.Shelf.seen c.read_empty.new.shelf in
    let after = g.H.Shelf.seen c.add_page.new.shelf in
    let row : Row = (c.args.key.now, c.args.body.now) in
    let page = c.read_empty.new.page in
    let page2 = c.insert_row.new.page in
    let same = c.read_empty.ensures.leaves.same in
    let there = c.in_ok-read_empty.ensures.page in
    let firsts : List First = self.index.firsts.items in
    let n : ℕ = number_at one.empty.items in
    let count : ℕ = length (mid.places self.set) in
    record {
      set = refl;
      shape = refl;
      opened = either c.add_page.result c.add_page.ensures.added c.add_page.ensures.unchanged (λ a.
          let first : First = record { key = a.key; page = n } in
          opened_as _ after (insert firsts (length firsts) first) (remove one.empty.items 0) count (a.firsts ∙ ap (λ (l : List First). l ++ first ∷ []) c.make_page.ensures.firsts ∙ insert_last firsts first) a.empty
          (ap (λ (l : List ℕ). length l) (c.add_page.ensures.leaves.changed.places self.set ∙ same.places self.set)) (put_within firsts (length firsts) first count (sp.within 0 0 sp.some) sp.firsts_within) (fewer_within one.empty.items count sp.within)
          (begun_index self.shape (before.pages self.set) (mid.pages self.set) (after.pages self.set) firsts firsts self.index.empty.items one.empty.items page page2 row a.key n
          (begun_of self row one before mid read after made.0 page page2 c.requires.opened self.some self.short sp (same.pages self.set) there c.in_ok-read_empty.ensures.none c.insert_row.ensures c.requires.begins a.pages)
          (slice_get-get_or one.empty.items 0 0 sp.some) a.starts))
          (λ u. opened_spared self _ one.empty.items before mid after made.0 sp refl refl (u.0 ∙ c.make_page.ensures.firsts) u.1 (same_then same u.2));
    }

pub returns-clause-leaves : goal.returns-clause-leaves
returns-clause-leaves g c =
    let self = c.args.self.now in
    let before = g.H.Shelf.seen c.args.shelf.now in
    let mid = g.H.Shelf.seen c.make_page.new.shelf in
    let one = c.make_page.new.self in
    let made = spared self one before mid c.requires.opened (g.met.H.Shelf.pages_are c.args.shelf.now self.set) c.in_ok-make_page.ensures.made in
    let sp = made.1 in
    let read = g.H.Shelf.seen c.read_empty.new.shelf in
    let after = g.H.Shelf.seen c.add_page.new.shelf in
    let row : Row = (c.args.key.now, c.args.body.now) in
    let page = c.read_empty.new.page in
    let page2 = c.insert_row.new.page in
    let same = c.read_empty.ensures.leaves.same in
    let there = c.in_ok-read_empty.ensures.page in
    record {
      changes = grows_by self one c.in_ok-make_page.ensures.made c.make_page.ensures.keeps
          (changes_then (reads_changes self.set c.read_empty.ensures.leaves) c.add_page.ensures.leaves (g.met.H.Shelf.steady_then c.make_page.new.shelf c.read_empty.new.shelf c.add_page.new.shelf))
          (g.met.H.Shelf.steady_then c.args.shelf.now c.make_page.new.shelf c.add_page.new.shelf);
      heads = either c.add_page.result c.add_page.ensures.added c.add_page.ensures.unchanged
          (λ a. begun_heads self one before mid read after made.0 page page2 sp (same.pages self.set) there c.insert_row.ensures.head a.pages)
          (λ u. heads_told self.set before after made.0 (u.2.pages self.set ∙ same.pages self.set ∙ sp.pages) sp.heads);
    }

pub returns-clause-fails : goal.returns-clause-fails
returns-clause-fails g c =
    let self = c.args.self.now in
    let before = g.H.Shelf.seen c.args.shelf.now in
    let mid = g.H.Shelf.seen c.make_page.new.shelf in
    let one = c.make_page.new.self in
    let made = spared self one before mid c.requires.opened (g.met.H.Shelf.pages_are c.args.shelf.now self.set) c.in_ok-make_page.ensures.made in
    let sp = made.1 in
    let read = g.H.Shelf.seen c.read_empty.new.shelf in
    let after = g.H.Shelf.seen c.add_page.new.shelf in
    let row : Row = (c.args.key.now, c.args.body.now) in
    let page = c.read_empty.new.page in
    let page2 = c.insert_row.new.page in
    let same = c.read_empty.ensures.leaves.same in
    let there = c.in_ok-read_empty.ensures.page in
    fails_spared c.add_page.result self row before after (on_err_weaker c.add_page.result (λ u. left_spared self row one.empty.items before mid after made.0 sp (u.2.pages self.set ∙ same.pages self.set)) c.add_page.ensures.unchanged) c.add_page.ensures.room
