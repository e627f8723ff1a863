use Rattle.hal_schema.specs.Rules.{sizes_in}
use Rattle.hal_schema.proofs.KeptTypes.{nil_at}
use Rattle.hal_schema.proofs.build.build_types.Goals as goal

pub build_type-requires-clause-sizes : goal.build_type-requires-clause-sizes
build_type-requires-clause-sizes c = nil_at sizes_in c.args.types.now c.loop-t.t-index c.t-item.result c.requires.sizes c.loop-t-test.true c.t-item.is
