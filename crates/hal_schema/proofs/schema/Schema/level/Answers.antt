use Rattle.hal_schema.proofs.Kept.{counts_from, level_within}
use Rattle.hal_schema.proofs.schema.Schema.level.Goals as goal

pub level_in-requires-clause-levels : goal.level_in-requires-clause-levels
level_in-requires-clause-levels c =
    let s = c.args.self.now in
    rw c.as_slice.ensures (level_within s.types c.args.code (counts_from s.types s.indexes s.parts s.counts).levels c.requires.above c.requires.known)
