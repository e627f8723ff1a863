use Rattle.std.proofs.Common.{ℕ, nat_lt, List, arith}
use Rattle.std.proofs.lemmas.Grind.{common_steps}
use Rattle.hal_schema.specs.declared.fault.Place.{Place}
use Rattle.hal_schema.specs.declared.raw.RawType.{RawType}
use Rattle.hal_schema.specs.Places.{statement, when}
use Rattle.hal_schema.specs.SegType.{level_of}
use Rattle.hal_schema.specs.Raw.{types_of}
use Rattle.hal_schema.proofs.Numbered.{numbered_more}
use Rattle.hal_schema.proofs.rules.counts.levels_passed.Goals as goal

pub loop-i-preserved : goal.loop-i-preserved
loop-i-preserved c =
    let types = c.args.types.now in
    let g : ℕ × RawType → List Place = λ t. when (nat_lt 15 (level_of (types_of types) t.0)) (statement t.1.line) in
    let more = numbered_more g types c.loop-i.i c.index-types-i.result c.loop-i-test.true c.index-types-i.is in
    grind (arith, common_steps)
