use Rattle.std.proofs.Common.{◌≡◌, ◌∙◌}
use Rattle.keyed_sets.specs.Map.{lookup, rows_of}
use Rattle.keyed_sets.proofs.Spots.{at_told, found_at, nothing_found}
use Rattle.keyed_sets.proofs.Told.{where_told}
use Rattle.keyed_sets.proofs.set.KeyedSet.get.Goals as goal

pub returns-then-not-has_rows-clause-found : goal.returns-then-not-has_rows-clause-found
returns-then-not-has_rows-clause-found g c =
    let self = c.args.self.now in
    record { is = nothing_found self (g.H.Shelf.seen c.args.shelf.now) c.args.key.now c.requires.opened (c.has_rows.ensures.none c.if-not-has_rows.true); long = tt }

pub returns-clause-found : goal.returns-clause-found
returns-clause-found g c =
    let self = c.args.self.now in
    let seen = g.H.Shelf.seen c.args.shelf.now in
    let page = c.seek.new.page in
    record {
      is = where_told (seen.pages self.set) (λ pages. c.in_ok-body.body ≡ lookup c.args.key.now (rows_of self.shape pages)) (λ pages is.
          c.in_ok-body.ensures.body ∙ found_at self c.args.key.now c.in_ok-spot.spot page pages (at_told self c.args.key.now c.in_ok-spot.spot page seen c.requires.opened c.in_ok-spot.ensures.sought pages is));
      long = c.in_ok-body.ensures.long;
    }
