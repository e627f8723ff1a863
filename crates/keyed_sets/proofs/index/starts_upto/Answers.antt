use Rattle.std.proofs.Common.{not, rules}
use Rattle.std.proofs.lemmas.Bool.{not-true, not-false}
use Rattle.std.proofs.lemmas.List.Sorted.{IsPartitionPoint-from_clause}
use Rattle.keyed_sets.specs.Layout.{is_below}
use Rattle.keyed_sets.specs.declared.index.First.{First}
use Rattle.keyed_sets.proofs.Members.{parted}
use Rattle.keyed_sets.proofs.index.starts_upto.Goals as goal

pub returns-clause-upto : goal.returns-clause-upto
returns-clause-upto c = λ rise k d low high.
    let point = IsPartitionPoint-from_clause (λ (first : First). not (is_below c.args.key.now first.key)) c.args.firsts.now c.partition_point.result c.partition_point.ensures.partitioned
    (parted (λ (first : First). first.key) c.args.key.now c.args.firsts.now rise) (λ a r f h. search rules) in
    not-true _ (point.0 k d low high)

pub returns-clause-above : goal.returns-clause-above
returns-clause-above c = λ rise k d low high.
    let point = IsPartitionPoint-from_clause (λ (first : First). not (is_below c.args.key.now first.key)) c.args.firsts.now c.partition_point.result c.partition_point.ensures.partitioned
    (parted (λ (first : First). first.key) c.args.key.now c.args.firsts.now rise) (λ a r f h. search rules) in
    not-false _ (point.1 k d low high)
