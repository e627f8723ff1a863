use Rattle.std.proofs.Common.{rules}
use Rattle.std.proofs.lemmas.List.Sorted.{IsPartitionPoint-from_clause}
use Rattle.keyed_sets.specs.Layout.{is_below}
use Rattle.keyed_sets.specs.declared.index.First.{First}
use Rattle.keyed_sets.proofs.Members.{parted_below}
use Rattle.keyed_sets.proofs.index.starts_below.Goals as goal

pub returns-clause-below : goal.returns-clause-below
returns-clause-below c = λ rise k d low high.
    let point = IsPartitionPoint-from_clause (λ (first : First). is_below first.key c.args.key.now) c.args.firsts.now c.partition_point.result c.partition_point.ensures.partitioned
    (parted_below (λ (first : First). first.key) c.args.key.now c.args.firsts.now rise) (λ a r f h. search rules) in
    point.0 k d low high

pub returns-clause-from : goal.returns-clause-from
returns-clause-from c = λ rise k d low high.
    let point = IsPartitionPoint-from_clause (λ (first : First). is_below first.key c.args.key.now) c.args.firsts.now c.partition_point.result c.partition_point.ensures.partitioned
    (parted_below (λ (first : First). first.key) c.args.key.now c.args.firsts.now rise) (λ a r f h. search rules) in
    point.1 k d low high
