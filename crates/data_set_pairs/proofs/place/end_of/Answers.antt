use Rattle.std.proofs.Common.{nat_le, rules}
use Rattle.std.proofs.lemmas.List.Sorted.{IsPartitionedBy-leb, IsPartitionPoint-from_clause}
use Rattle.data_set_pairs.specs.declared.place.PagePlace.{PagePlace}
use Rattle.data_set_pairs.specs.Table.{set_rank}
use Rattle.data_set_pairs.proofs.TableSteps.{parts_by_rank}
use Rattle.data_set_pairs.proofs.place.end_of.Goals as goal

pub returns-clause-parts : goal.returns-clause-parts
returns-clause-parts c =
    let pages = c.args.pages.now in
    let rank = set_rank c.args.set in
    let point = IsPartitionPoint-from_clause (λ (p : PagePlace). nat_le (set_rank p.set) rank) pages c.partition_point.result c.partition_point.ensures.partitioned (IsPartitionedBy-leb (λ (p : PagePlace). set_rank p.set) pages rank c.requires) (λ a r q k. search rules) in
    parts_by_rank pages rank c.partition_point.result point
