use Rattle.std.proofs.lemmas.Result.{err_from_is_err_and}
use Rattle.hal_desk.specs.Outside.{site_view}
use Rattle.hal_desk.specs.Lists.{state_of}
use Rattle.hal_desk.proofs.Events.{looked}
use Rattle.hal_desk.proofs.list_taker.ListTakerLineTaker.rows.Goals as goal

pub returns-in_err-copied_rows-clause-looks : goal.returns-in_err-copied_rows-clause-looks
returns-in_err-copied_rows-clause-looks g c =
    let p = err_from_is_err_and c.from_residual.result c.from_residual.ensures.1 in
    rw (p.1, p.2) (looked _ (site_view g.T.Site c.args.self.now.site) (state_of c.args.self.now.list) (λ e. cc) (λ e. cc))
