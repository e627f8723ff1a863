use Rattle.std.proofs.Common.{arith}
use Rattle.keyed_sets.proofs.Nexts.{IsUnder, gives_below, gives_nothing}
use Rattle.keyed_sets.proofs.set.KeyedSet.before.Goals as goal

pub returns-then-at-eq0-clause-row : goal.returns-then-at-eq0-clause-row
returns-then-at-eq0-clause-row g c =
    let self = c.args.self.now in
    let u : IsUnder self c.args.key.now c.deref.result.now c.starts_below-at.result = record { is = c.deref.ensures.value; within = c.starts_below-at.ensures.within; below = c.starts_below-at.ensures.below; from = c.starts_below-at.ensures.from } in
    gives_nothing self (g.H.Shelf.seen c.args.shelf.now) c.args.key.now c.deref.result.now c.starts_below-at.result c.requires.opened u c.if-at-eq0.true

pub returns-clause-row : goal.returns-clause-row
returns-clause-row g c =
    let self = c.args.self.now in
    let u : IsUnder self c.args.key.now c.deref.result.now c.starts_below-at.result = record { is = c.deref.ensures.value; within = c.starts_below-at.ensures.within; below = c.starts_below-at.ensures.below; from = c.starts_below-at.ensures.from } in
    gives_below self (g.H.Shelf.seen c.args.shelf.now) c.args.key.now c.deref.result.now c.starts_below-at.result c.in_ok-row.row c.requires.opened u (omega (arith, c.if-at-eq0.false)) c.in_ok-row.ensures.row
