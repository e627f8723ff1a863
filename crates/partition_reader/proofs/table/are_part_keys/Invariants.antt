use Rattle.std.proofs.Common.{◌≡◌}
use Rattle.toml.specs.View.{members_view}
use Rattle.partition_reader.specs.Tables.{all_keys, is_part_key}
use Rattle.partition_reader.proofs.table.are_part_keys.Given as goal

abbrev pub invariant-loop-key : goal.invariant-loop-key
invariant-loop-key l =
    (goal.iterator-loop-key).can_next l.key-iterator × (goal.iterator-loop-key).is_finite l.key-iterator
    × (all_keys is_part_key (members_view l.key-iterator) ≡ all_keys is_part_key (members_view l.table.entries))
