use Rattle.std.proofs.Common.{◌∙◌, sym, refl}
use Rattle.block_journal.proofs.Made.{made_waits, made_later}
use Rattle.block_journal.proofs.OpeningSteps.{redo_start, redone_between, filled_redone}
use Rattle.block_journal.proofs.redo.settle.Goals as goal

pub returns-in_err-read_gate-clause-stops : goal.returns-in_err-read_gate-clause-stops
returns-in_err-read_gate-clause-stops g c = made_waits (redo_start c.args.first c.args.count c.requires.exact) c.read_gate.ensures.leaves.stops

pub returns-in_err-fill-clause-stops : goal.returns-in_err-fill-clause-stops
returns-in_err-fill-clause-stops g c = made_later (redo_start c.args.first c.args.count c.requires.exact) c.read_gate.ensures.leaves.same c.read_gate.ensures.leaves.stops c.fill.ensures.stops

pub returns-then-branch-clause-stops : goal.returns-then-branch-clause-stops
returns-then-branch-clause-stops g c = made_later (redo_start c.args.first c.args.count c.requires.exact) c.read_gate.ensures.leaves.same c.read_gate.ensures.leaves.stops c.redo.ensures.stops

pub returns-in_ok-fill-clause-done : goal.returns-in_ok-fill-clause-done
returns-in_ok-fill-clause-done g c = redone_between c.read_gate.ensures.leaves.same refl (filled_redone c.in_ok-fill.ensures.ready c.fill.ensures.told (λ y told. sym (c.in_ok-read_gate.ensures.gate y (sym c.read_gate.ensures.leaves.same ∙ told)) ∙ c.if-branch.false))

pub returns-in_ok-fill-clause-stops : goal.returns-in_ok-fill-clause-stops
returns-in_ok-fill-clause-stops g c = made_later (redo_start c.args.first c.args.count c.requires.exact) c.read_gate.ensures.leaves.same c.read_gate.ensures.leaves.stops c.fill.ensures.stops
