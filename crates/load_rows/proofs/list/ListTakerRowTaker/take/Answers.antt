use Rattle.std.proofs.Common.{refl, arith}
use Rattle.load_rows.proofs.list.ListTakerRowTaker.take.Goals as goal

pub returns-in-Ok-clause-faults : goal.returns-in-Ok-clause-faults
returns-in-Ok-clause-faults c = record {
  later = omega arith;
  cause = λ failed. absurd (c.in-Ok.ensures.never failed);
  alive = λ calm. refl;
  dead = λ failed. absurd (c.in-Ok.ensures.never failed);
}
