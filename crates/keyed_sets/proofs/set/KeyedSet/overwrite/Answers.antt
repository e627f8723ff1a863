use Rattle.std.proofs.Common.{◌∙◌, List, ℕ, length, Some, refl, sym, ap, subst}
use Rattle.std.proofs.lemmas.Bool.{not-true}
use Rattle.std.proofs.lemmas.Result.{err_from_is_err_and}
use Rattle.hal_base.specs.declared.outcome.PageFault.TheVariants.{Failed}
use Rattle.hal_base.proofs.ShelfLemmas.{same_none}
use Rattle.keyed_sets.specs.Layout.{Row}
use Rattle.keyed_sets.specs.Places.{Puts}
use Rattle.keyed_sets.proofs.Found.{found_some, not_some, shaped_over, over_told, written, not_written}
use Rattle.keyed_sets.proofs.Joined.{read_leaves, read_writes}
use Rattle.keyed_sets.proofs.Spots.{nothing_found, none_found}
use Rattle.keyed_sets.proofs.Told.{ok_not_err, one_fault, flipped}
use Rattle.keyed_sets.proofs.set.KeyedSet.overwrite.Goals as goal

pub returns-then-not-has_rows-clause-written : goal.returns-then-not-has_rows-clause-written
returns-then-not-has_rows-clause-written g c =
    let self = c.args.self.now in
    let key = c.args.key.now in
    let before = g.H.Shelf.seen c.args.shelf.now in
    not_written self key c.args.offset c.args.part.now before before (not_some self key before (nothing_found self before key c.requires.opened (c.has_rows.ensures.none c.if-not-has_rows.true))) (same_none before)

pub returns-then-not-spot-clause-written : goal.returns-then-not-spot-clause-written
returns-then-not-spot-clause-written g c =
    let self = c.args.self.now in
    let key = c.args.key.now in
    let spot = c.in_ok-spot.spot in
    let before = g.H.Shelf.seen c.args.shelf.now in
    not_written self key c.args.offset c.args.part.now before (g.H.Shelf.seen c.seek.new.shelf)
    (not_some self key before (none_found self key spot c.seek.new.page before c.requires.opened c.in_ok-spot.ensures.sought (not-true spot.found c.if-not-spot.true))) c.seek.ensures.leaves.same

pub returns-then-not-spot-clause-leaves : goal.returns-then-not-spot-clause-leaves
returns-then-not-spot-clause-leaves g c =
    read_leaves c.args.self.now c.seek.ensures.leaves (λ is. absurd (ok_not_err c.seek.result c.in_ok-spot.spot Failed c.in_ok-spot.was is)) (λ is. cc)

pub fit_row-requires-clause-shaped : goal.fit_row-requires-clause-shaped
fit_row-requires-clause-shaped g c =
    let spot = c.in_ok-spot.spot in
    let sought = c.in_ok-spot.ensures.sought in
    shaped_over c.args.self.now.shape c.seek.new.page spot.at c.args.key.now c.as_slice.result.now sought.read.place c.seek.array_long (sought.found (flipped spot.found c.if-not-spot.false)) (ap (λ (l : List ℕ). length l) c.as_slice.ensures ∙ c.in_ok-body.ensures.long)

pub returns-in_err-body-clause-leaves : goal.returns-in_err-body-clause-leaves
returns-in_err-body-clause-leaves g c =
    let p = err_from_is_err_and c.from_residual-in_err-body.result c.from_residual-in_err-body.ensures.1 in
    read_leaves c.args.self.now c.seek.ensures.leaves (λ is. absurd (ok_not_err c.seek.result c.in_ok-spot.spot Failed c.in_ok-spot.was is)) (λ is. let first = p.1 in let second = p.2 in cc)

pub returns-in_err-fit_row-clause-leaves : goal.returns-in_err-fit_row-clause-leaves
returns-in_err-fit_row-clause-leaves g c =
    let self = c.args.self.now in
    let p = err_from_is_err_and c.from_residual-in_err-fit_row.result c.from_residual-in_err-fit_row.ensures.1 in
    let q = one_fault c.fit_row.result c.from_residual-in_err-fit_row.result _ p.0 Failed c.in_err-fit_row.was p.1 p.2 in
    read_writes self c.seek.ensures.leaves c.fit_row.ensures.leaves q.0 q.1 (g.met.H.Shelf.steady_then c.args.shelf.now c.seek.new.shelf c.fit_row.new.shelf)

pub returns-clause-written : goal.returns-clause-written
returns-clause-written g c =
    let self = c.args.self.now in
    let key = c.args.key.now in
    let spot = c.in_ok-spot.spot in
    let sought = c.in_ok-spot.ensures.sought in
    let page = c.seek.new.page in
    let found = flipped spot.found c.if-not-spot.false in
    let body = c.as_slice.result.now in
    let row : Row = (key, body) in
    let before = g.H.Shelf.seen c.args.shelf.now in
    let after = g.H.Shelf.seen c.fit_row.new.shelf in
    written self key c.args.offset c.args.part.now before after (found_some self key spot page before c.requires.opened sought found)
    (over_told self key spot page c.args.offset c.args.part.now body before before after c.requires.opened sought found c.seek.array_long (c.in_ok-body.ensures.body ∙ ap Some (sym c.as_slice.ensures))
    (subst (λ o. Puts self.shape row o (after.pages self.set)) (c.seek.ensures.leaves.same.pages self.set) c.in_ok-fit_row.ensures.puts) refl)

pub returns-clause-leaves : goal.returns-clause-leaves
returns-clause-leaves g c =
    let self = c.args.self.now in
    read_writes self c.seek.ensures.leaves c.fit_row.ensures.leaves (λ is. absurd (ok_not_err c.fit_row.result c.in_ok-fit_row.field-0 Failed c.in_ok-fit_row.was is)) (λ is. cc) (g.met.H.Shelf.steady_then c.args.shelf.now c.seek.new.shelf c.fit_row.new.shelf)
