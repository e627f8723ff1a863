use Rattle.volume_head.proofs.OneSchema.{built, not_broken}
use Rattle.volume_head.proofs.definition.said_by.Goals as goal

pub returns-in_default : goal.returns-in_default
returns-in_default c = λ schema of. absurd (c.in_default.not-Some of.raw (c.in_ok-raw.ensures.found schema of))

pub returns-in-Ok : goal.returns-in-Ok
returns-in-Ok c = λ schema of. built c.args.text.now c.in-Ok.schema schema c.in-Some.raw c.in_ok-raw.field-0 of (c.in_ok-raw.ensures.found schema of) c.in-Some.is c.in-Ok.ensures.schema

pub returns-in-Err-Rule : goal.returns-in-Err-Rule
returns-in-Err-Rule c = λ schema of. absurd (not_broken c.args.text.now schema c.in-Some.raw c.in_ok-raw.field-0 of (c.in_ok-raw.ensures.found schema of) c.in-Some.is (rw c.in-Err-Rule.field-0-is at c.in-Err-Rule.ensures.broken))
