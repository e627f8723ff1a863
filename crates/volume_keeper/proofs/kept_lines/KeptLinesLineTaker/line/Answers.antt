use Rattle.std.proofs.Common.{◌∙◌}
use Rattle.std.proofs.lemmas.Result.{err_from_is_err_and}
use Rattle.volume_keeper.proofs.Lines.{held_by, cut_in_stage, cut_in_keep, cut_in_tell, took_line}
use Rattle.volume_keeper.proofs.kept_lines.KeptLinesLineTaker.line.Goals as goal

pub returns-in_err-staged-clause-cut : goal.returns-in_err-staged-clause-cut
returns-in_err-staged-clause-cut g c =
    let k = g.K.Keeper in
    let ka = c.args.self.now.keeper in
    let kb = c.stage.new.self.keeper in
    let said = c.in_err-staged.ensures in
    let p = err_from_is_err_and c.from_residual.result c.from_residual.ensures.1 in
    rw (p.1, p.2) (cut_in_stage (k.meaning (k.schema ka)) c.args.script c.args.number c.args.text.now (k.seen ka) (k.seen kb) c.in_err-staged.field-0.0
    (record { held = g.met.K.Keeper.held ka; exact = g.met.K.Keeper.exact ka }) c.requires said.leaves.0 said.memory said.says_none said.faults)

pub returns-in_err-keep-clause-cut : goal.returns-in_err-keep-clause-cut
returns-in_err-keep-clause-cut g c =
    let k = g.K.Keeper in
    let ka = c.args.self.now.keeper in
    let kb = c.stage.new.self.keeper in
    let kc = c.keep.new.self.keeper in
    let said = c.in_ok-staged.ensures in
    let p = err_from_is_err_and c.from_residual-in_err-keep.result c.from_residual-in_err-keep.ensures.1 in
    rw (p.1, p.2) (cut_in_keep (k.meaning (k.schema ka)) c.args.script c.args.number c.args.text.now (k.seen ka) (k.seen kb) (k.seen kc) c.in_ok-staged.staged c.in_err-keep.field-0.0
    (record { held = g.met.K.Keeper.held ka; exact = g.met.K.Keeper.exact ka }) c.requires said.staged said.leaves.0
    (held_by k.meaning (k.schema ka) (k.schema kb) (k.seen kb) said.leaves.2 (g.met.K.Keeper.held kb) (said.faults.alive (λ e. absurd cc)))
    c.in_err-keep.ensures.keeps)

pub returns-in_err-tell-clause-cut : goal.returns-in_err-tell-clause-cut
returns-in_err-tell-clause-cut g c =
    let k = g.K.Keeper in
    let ka = c.args.self.now.keeper in
    let kb = c.stage.new.self.keeper in
    let kc = c.keep.new.self.keeper in
    let kd = c.tell.new.self.keeper in
    let said = c.in_ok-staged.ensures in
    let kept = c.in_ok-keep.ensures in
    let p = err_from_is_err_and c.from_residual-in_err-tell.result c.from_residual-in_err-tell.ensures.1 in
    rw (p.1, p.2, c.in_err-tell.ensures.fault) (cut_in_tell (k.meaning (k.schema ka)) c.args.script c.args.number c.args.text.now (k.seen ka) (k.seen kb) (k.seen kc) (k.seen kd) c.in_ok-staged.staged c.in_ok-keep.field-0 c.in_err-tell.field-0.0
    (record { held = g.met.K.Keeper.held ka; exact = g.met.K.Keeper.exact ka }) c.requires said.staged said.leaves.0
    (held_by k.meaning (k.schema ka) (k.schema kb) (k.seen kb) said.leaves.2 (g.met.K.Keeper.held kb) (said.faults.alive (λ e. absurd cc)))
    kept.keeps
    (held_by k.meaning (k.schema ka) (k.schema kc) (k.seen kc) (kept.leaves.1 ∙ said.leaves.2) (g.met.K.Keeper.held kc) (kept.keeps.faults.alive (λ e. absurd cc)))
    (rw c.as_slice.ensures at c.in_err-tell.ensures.says))

pub returns-clause-took : goal.returns-clause-took
returns-clause-took g c =
    let k = g.K.Keeper in
    let ka = c.args.self.now.keeper in
    let kb = c.stage.new.self.keeper in
    let kc = c.keep.new.self.keeper in
    let kd = c.tell.new.self.keeper in
    let said = c.in_ok-staged.ensures in
    let kept = c.in_ok-keep.ensures in
    took_line (k.meaning (k.schema ka)) c.args.script c.args.number c.args.text.now (k.seen ka) (k.seen kb) (k.seen kc) (k.seen kd) c.in_ok-staged.staged c.in_ok-keep.field-0 c.in_ok-tell.field-0
    (record { held = g.met.K.Keeper.held ka; exact = g.met.K.Keeper.exact ka }) c.requires said.staged said.leaves.0
    (held_by k.meaning (k.schema ka) (k.schema kb) (k.seen kb) said.leaves.2 (g.met.K.Keeper.held kb) (said.faults.alive (λ e. absurd cc)))
    kept.keeps
    (held_by k.meaning (k.schema ka) (k.schema kc) (k.seen kc) (kept.leaves.1 ∙ said.leaves.2) (g.met.K.Keeper.held kc) (kept.keeps.faults.alive (λ e. absurd cc)))
    (rw c.as_slice.ensures at c.in_ok-tell.ensures.says)
