use Rattle.std.proofs.Common.{subst}
use Rattle.std.proofs.lemmas.Result.{err_from_is_err_and}
use Rattle.hal_base.specs.declared.outcome.PageFault.TheVariants.{Failed}
use Rattle.keyed_sets.specs.Layout.{Row}
use Rattle.keyed_sets.specs.Places.{Puts}
use Rattle.keyed_sets.proofs.Found.{begins_first, found_some, not_some, inserted, not_inserted}
use Rattle.keyed_sets.proofs.Joined.{grown_as, read_leaves, writes_grow}
use Rattle.keyed_sets.proofs.Spots.{nothing_in, nothing_found, none_found}
use Rattle.keyed_sets.proofs.SecondSet.{read_grows}
use Rattle.keyed_sets.proofs.Told.{ok_not_err, one_fault}
use Rattle.keyed_sets.proofs.set.KeyedSet.insert.Goals as goal

pub begin_page-requires-clause-begins : goal.begin_page-requires-clause-begins
begin_page-requires-clause-begins g c =
    let self = c.args.self.now in
    let seen = g.H.Shelf.seen c.args.shelf.now in
    begins_first self seen c.args.key.now (nothing_in self seen c.args.key.now c.requires.opened (c.has_rows.ensures.none c.if-not-has_rows.true))

pub returns-in_err-begin_page-clause-leaves : goal.returns-in_err-begin_page-clause-leaves
returns-in_err-begin_page-clause-leaves g c =
    let p = err_from_is_err_and c.from_residual.result c.from_residual.ensures.1 in
    let q = one_fault c.begin_page.result c.from_residual.result _ p.0 Failed c.in_err-begin_page.was p.1 p.2 in
    grown_as c.args.self.now c.begin_page.ensures.leaves q.0 q.1

pub returns-then-not-has_rows-clause-inserted : goal.returns-then-not-has_rows-clause-inserted
returns-then-not-has_rows-clause-inserted g c =
    let self = c.args.self.now in
    let key = c.args.key.now in
    let before = g.H.Shelf.seen c.args.shelf.now in
    inserted self (key, c.args.body.now) before (g.H.Shelf.seen c.begin_page.new.shelf)
    (not_some self key before (nothing_found self before key c.requires.opened (c.has_rows.ensures.none c.if-not-has_rows.true))) c.in_ok-begin_page.ensures.puts

pub returns-in_err-spot-clause-leaves : goal.returns-in_err-spot-clause-leaves
returns-in_err-spot-clause-leaves g c =
    let p = err_from_is_err_and c.from_residual-in_err-spot.result c.from_residual-in_err-spot.ensures.1 in
    let q = one_fault c.seek.result c.from_residual-in_err-spot.result _ p.0 Failed c.in_err-spot.was p.1 p.2 in
    writes_grow c.args.self.now (read_leaves c.args.self.now c.seek.ensures.leaves q.0 q.1)

pub returns-then-spot-clause-inserted : goal.returns-then-spot-clause-inserted
returns-then-spot-clause-inserted g c =
    let self = c.args.self.now in
    let key = c.args.key.now in
    let before = g.H.Shelf.seen c.args.shelf.now in
    not_inserted self (key, c.args.body.now) before (g.H.Shelf.seen c.seek.new.shelf)
    (found_some self key c.in_ok-spot.spot c.seek.new.page before c.requires.opened c.in_ok-spot.ensures.sought c.if-spot.true) c.seek.ensures.leaves.same

pub returns-then-spot-clause-leaves : goal.returns-then-spot-clause-leaves
returns-then-spot-clause-leaves g c =
    writes_grow c.args.self.now (read_leaves c.args.self.now c.seek.ensures.leaves (λ is. absurd (ok_not_err c.seek.result c.in_ok-spot.spot Failed c.in_ok-spot.was is)) (λ is. cc))

pub returns-in_err-put_at-clause-leaves : goal.returns-in_err-put_at-clause-leaves
returns-in_err-put_at-clause-leaves g c =
    let self = c.args.self.now in
    let p = err_from_is_err_and c.from_residual-in_err-put_at.result c.from_residual-in_err-put_at.ensures.1 in
    let q = one_fault c.put_at.result c.from_residual-in_err-put_at.result _ p.0 Failed c.in_err-put_at.was p.1 p.2 in
    grown_as self (read_grows self c.seek.ensures.leaves c.put_at.ensures.leaves (g.met.H.Shelf.steady_then c.args.shelf.now c.seek.new.shelf c.put_at.new.shelf)) q.0 q.1

pub returns-clause-inserted : goal.returns-clause-inserted
returns-clause-inserted g c =
    let self = c.args.self.now in
    let key = c.args.key.now in
    let row : Row = (key, c.args.body.now) in
    let before = g.H.Shelf.seen c.args.shelf.now in
    let after = g.H.Shelf.seen c.put_at.new.shelf in
    inserted self row before after (not_some self key before (none_found self key c.in_ok-spot.spot c.seek.new.page before c.requires.opened c.in_ok-spot.ensures.sought c.if-spot.false))
    (subst (λ o. Puts self.shape row o (after.pages self.set)) (c.seek.ensures.leaves.same.pages self.set) c.in_ok-put_at.ensures.puts)
