use Rattle.keyed_sets.proofs.MapLaws.{put_lookup, removed_lookup}
use Rattle.keyed_sets.proofs.laws.each_change_is_of_one_key.Goals as goal

pub returns-clause-put : goal.returns-clause-put
returns-clause-put c = put_lookup

pub returns-clause-removed : goal.returns-clause-removed
returns-clause-removed c = removed_lookup
