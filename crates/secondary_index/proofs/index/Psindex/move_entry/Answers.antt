use Rattle.std.proofs.Common.{◌∙◌, Err, ap}
use Rattle.std.proofs.lemmas.Result.{err_from_is_err_and}
use Rattle.secondary_index.specs.Changes.{TakesOut, MoveFails, StaysThere}
use Rattle.secondary_index.proofs.Adds.{err_is}
use Rattle.secondary_index.proofs.Moving.{moves, move_fails, moves_leave}
use Rattle.secondary_index.proofs.index.Psindex.move_entry.Goals as goal

pub returns-in_err-remove-clause-fails : goal.returns-in_err-remove-clause-fails
returns-in_err-remove-clause-fails g c =
    let id = c.args.self.now.rows in
    let before = g.H.Shelf.seen c.args.shelf.now in
    let after = g.H.Shelf.seen c.remove.new.shelf in
    let p = err_from_is_err_and c.from_residual.result c.from_residual.ensures.1 in
    err_is c.from_residual.result p.0 (MoveFails id c.args.old.now c.args.entry.now before after) p.1
    (StaysThere _ p.2 (λ is. c.remove.ensures.fails.1 (c.in_err-remove.was ∙ ap Err is)) c.in_err-remove.ensures.fails.0)

pub returns-clause-moved : goal.returns-clause-moved
returns-clause-moved g c =
    let id = c.args.self.now.rows in
    let between = c.remove.new.self in
    let a = g.H.Shelf.seen c.args.shelf.now in
    let b = g.H.Shelf.seen c.remove.new.shelf in
    let out : TakesOut id c.args.old.now a b = record { was = c.in_ok-remove.field-0; rows = c.in_ok-remove.ensures.removed; changed = c.remove.ensures.leaves.changes.changed } in
    moves c.add.result id between c.args.old.now c.args.entry.now a b (g.H.Shelf.seen c.add.new.shelf) c.remove.ensures.opened.set c.remove.ensures.opened.shape out c.add.ensures.not_taken c.add.ensures.added

pub returns-clause-leaves : goal.returns-clause-leaves
returns-clause-leaves g c =
    let id = c.args.self.now.rows in
    let a = g.H.Shelf.seen c.args.shelf.now in
    let b = g.H.Shelf.seen c.remove.new.shelf in
    let out : TakesOut id c.args.old.now a b = record { was = c.in_ok-remove.field-0; rows = c.in_ok-remove.ensures.removed; changed = c.remove.ensures.leaves.changes.changed } in
    moves_leave id c.remove.new.self c.args.old.now a b (g.H.Shelf.seen c.add.new.shelf) c.remove.ensures.opened.set out c.remove.ensures.leaves c.add.ensures.leaves
    (g.met.H.Shelf.steady_then c.args.shelf.now c.remove.new.shelf c.add.new.shelf)

pub returns-clause-fails : goal.returns-clause-fails
returns-clause-fails g c =
    let id = c.args.self.now.rows in
    let a = g.H.Shelf.seen c.args.shelf.now in
    let b = g.H.Shelf.seen c.remove.new.shelf in
    let out : TakesOut id c.args.old.now a b = record { was = c.in_ok-remove.field-0; rows = c.in_ok-remove.ensures.removed; changed = c.remove.ensures.leaves.changes.changed } in
    move_fails c.add.result id c.remove.new.self c.args.old.now c.args.entry.now a b (g.H.Shelf.seen c.add.new.shelf) c.remove.ensures.opened.set c.remove.ensures.opened.shape out c.add.ensures.fails
