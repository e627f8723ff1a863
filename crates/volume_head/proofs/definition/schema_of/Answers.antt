use Rattle.volume_head.proofs.OneSchema.{not_printed}
use Rattle.volume_head.proofs.definition.schema_of.Goals as goal

pub returns-in_default-clause-none : goal.returns-in_default-clause-none
returns-in_default-clause-none c = λ schema of. absurd (c.in_default.not-Some schema (c.in_ok-schema.ensures schema of.reads))

pub returns-else-branch-clause-none : goal.returns-else-branch-clause-none
returns-else-branch-clause-none c = λ schema of. not_printed c.args.text.now c.in-Some.schema schema c.in_ok-schema.field-0 c.in_ok-prints_as.field-0 c.in-Some.is (c.in_ok-schema.ensures schema of.reads) c.in_ok-prints_as.ensures.same c.if-branch.false of
