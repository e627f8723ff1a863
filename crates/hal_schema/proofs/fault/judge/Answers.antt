use Rattle.std.proofs.Common.{◌≡◌, None, sym, ap, ◌∙◌}
use Rattle.hal_schema.specs.Places.{least}
use Rattle.hal_schema.proofs.Least.{least-none}
use Rattle.hal_schema.proofs.fault.judge.Goals as goal

pub returns-in-None-clause-kept : goal.returns-in-None-clause-kept
returns-in-None-clause-kept c = least-none c.args.places.now (ap least (sym c.as_slice.ensures) ∙ (let e : least c.as_slice.result.now ≡ None = cc in e))
