use Rattle.std.proofs.Common.{◌≡◌, ◌==◌, true, arith}
use Rattle.std.proofs.lemmas.Bool.{eq-eqb}
use Rattle.hal_loader.proofs.Judgements.{level_judged, root_judged}
use Rattle.hal_loader.proofs.row.judge.Goals as goal

pub returns-in-Some-clause-judges : goal.returns-in-Some-clause-judges
returns-in-Some-clause-judges g c =
    level_judged c.args.schema.now c.args.said.now.code c.args.parent c.args.key.now c.args.below.now c.in-Some.code (g.R.RowTaker.seen c.args.into.now).rows c.in-Some.ensures

pub returns-in-Some-2-clause-judges : goal.returns-in-Some-2-clause-judges
returns-in-Some-2-clause-judges g c =
    let one : c.args.said.now.code ≡ 1 = omega arith in
    let is : (c.args.said.now.code == 1) ≡ true = eq-eqb c.args.said.now.code 1 one in
    root_judged c.args.schema.now c.args.said.now.code c.args.parent c.args.key.now c.args.below.now c.in-Some-2.code (g.R.RowTaker.seen c.args.into.now).rows c.in_default.ensures is (rw c.in-Some-2.is at c.in_ok-code.ensures.answers)
