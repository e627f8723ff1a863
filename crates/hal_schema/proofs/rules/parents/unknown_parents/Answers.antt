use Rattle.std.proofs.Common.{ℕ, List, arith}
use Rattle.std.proofs.lemmas.Grind.{common_steps}
use Rattle.hal_schema.specs.declared.fault.Place.{Place}
use Rattle.hal_schema.specs.declared.raw.RawType.{RawType}
use Rattle.hal_schema.specs.Places.{statement, when}
use Rattle.hal_schema.specs.Rules.{is_unknown_parent}
use Rattle.hal_schema.proofs.Numbered.{numbered_more}
use Rattle.hal_schema.proofs.rules.parents.unknown_parents.Goals as goal

pub loop-i-preserved : goal.loop-i-preserved
loop-i-preserved c =
    let types = c.args.types.now in
    let g : ℕ × RawType → List Place = λ t. when (is_unknown_parent types t.0 t.1.parent) (statement t.1.line) in
    let more = numbered_more g types c.loop-i.i c.index-types-i.result c.loop-i-test.true c.index-types-i.is in
    grind (arith, common_steps)
