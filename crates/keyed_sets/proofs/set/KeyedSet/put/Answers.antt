use Rattle.std.proofs.lemmas.Result.{err_from_is_err_and}
use Rattle.hal_base.specs.declared.outcome.PageFault.TheVariants.{Failed}
use Rattle.keyed_sets.proofs.Found.{begins_first}
use Rattle.keyed_sets.proofs.Spots.{nothing_in}
use Rattle.keyed_sets.proofs.Joined.{read_leaves, writes_grow}
use Rattle.keyed_sets.proofs.SecondSet.{read_grows, fails_after}
use Rattle.keyed_sets.proofs.Told.{one_fault}
use Rattle.keyed_sets.proofs.set.KeyedSet.put.Goals as goal

pub begin_page-requires-clause-begins : goal.begin_page-requires-clause-begins
begin_page-requires-clause-begins g c =
    let self = c.args.self.now in
    let seen = g.H.Shelf.seen c.args.shelf.now in
    begins_first self seen c.args.key.now (nothing_in self seen c.args.key.now c.requires.opened (c.has_rows.ensures.none c.if-not-has_rows.true))

pub returns-in_err-spot-clause-leaves : goal.returns-in_err-spot-clause-leaves
returns-in_err-spot-clause-leaves g c =
    let p = err_from_is_err_and c.from_residual.result c.from_residual.ensures.1 in
    let q = one_fault c.seek.result c.from_residual.result _ p.0 Failed c.in_err-spot.was p.1 p.2 in
    writes_grow c.args.self.now (read_leaves c.args.self.now c.seek.ensures.leaves q.0 q.1)

pub returns-clause-leaves : goal.returns-clause-leaves
returns-clause-leaves g c =
    read_grows c.args.self.now c.seek.ensures.leaves c.put_at.ensures.leaves (g.met.H.Shelf.steady_then c.args.shelf.now c.seek.new.shelf c.put_at.new.shelf)

pub returns-clause-fails : goal.returns-clause-fails
returns-clause-fails g c =
    fails_after c.put_at.result c.args.self.now (c.args.key.now, c.args.body.now) (g.H.Shelf.seen c.args.shelf.now) (g.H.Shelf.seen c.seek.new.shelf) (g.H.Shelf.seen c.put_at.new.shelf) c.seek.ensures.leaves.same c.put_at.ensures.fails
