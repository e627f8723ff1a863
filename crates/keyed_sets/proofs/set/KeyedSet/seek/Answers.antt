use Rattle.std.proofs.Common.{◌<◌, List, length, subst}
use Rattle.std.proofs.lemmas.Option.{slice_get-get_or}
use Rattle.std.proofs.lemmas.Bool.{both_ways}
use Rattle.keyed_sets.specs.declared.index.First.{First}
use Rattle.keyed_sets.specs.Standing.{no_first}
use Rattle.keyed_sets.specs.Writing.{first_at}
use Rattle.keyed_sets.proofs.OpenSets.{opened_stands}
use Rattle.keyed_sets.proofs.Sought.{goes_told}
use Rattle.keyed_sets.proofs.set.KeyedSet.seek.Goals as goal

pub returns-clause-sought : goal.returns-clause-sought
returns-clause-sought g c =
    let self = c.args.self.now in
    let home = c.home_of-home.result in
    let firsts = self.index.firsts.items in
    let lt : home < length firsts = subst (λ (l : List First). home < length l) c.deref.ensures.value c.home_of-home.ensures.within in
    let seen = g.H.Shelf.seen c.args.shelf.now in
    record {
      within = lt;
      read = c.in_ok-read_page.ensures.read;
      goes = goes_told self.shape (seen.pages self.set) firsts c.deref.result.now self.index.empty.items c.args.key.now home (first_at home firsts) (opened_stands self seen c.requires.opened) c.deref.ensures.value c.home_of-home.ensures.goes (slice_get-get_or firsts home no_first lt);
      upto = c.place_in-at.ensures.within;
      place = c.place_in-at.ensures.place;
      found = λ is. c.holds_key-found.ensures.holds.0 is;
      missing = λ is there. both_ways c.holds_key-found.result is (c.holds_key-found.ensures.holds.1 there);
    }
