use Rattle.keyed_sets.proofs.MapLaws.{put_over, one_body}
use Rattle.keyed_sets.proofs.laws.a_row_is_put_over_another.Goals as goal

pub returns-clause-over : goal.returns-clause-over
returns-clause-over c = put_over

pub returns-clause-one : goal.returns-clause-one
returns-clause-one c = one_body
