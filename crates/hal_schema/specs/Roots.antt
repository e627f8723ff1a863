-- The order of roots: first their partitions, then for PHDAM their anchors, then their keys.
use Rattle.std.specs.Prelude.{ℕ, ◌+◌, ◌*◌, ◌%◌, ◌^◌, List, length, Option, fold, position, unwrap_or, if◌then◌else◌}
use Rattle.std.specs.List.{slice_get}
use Rattle.std.specs.Option.{option_map_or}
use Rattle.std.specs.declared.cmp.Ordering.{Ordering}
use Rattle.std.specs.Ordering.{nat_cmp, is_le, on, then_cmp}
use Rattle.hal_schema.specs.declared.schema.Schema.{Schema}
use Rattle.hal_schema.specs.Keys.{key_cmp}

-- the place of the partition with the least high key that isn't below the key; none where the key is above every high key
abbrev pub partition_of : Schema → List ℕ → Option ℕ
partition_of schema key = position (λ part. is_le (key_cmp key part.high)) schema.parts

-- which of so many root anchors a key has
abbrev pub anchor_of : ℕ → List ℕ → ℕ
anchor_of anchors key = fold (λ hash byte. (31 * hash + byte) % 2 ^ 32) 0 key % anchors

-- the place of a key's partition; behind them all where it has none
abbrev pub partition_place : Schema → List ℕ → ℕ
partition_place schema key = unwrap_or (partition_of schema key) (length schema.parts)

-- the key's anchor in its partition; the records of a PHIDAM partition have none
abbrev pub anchor_place : Schema → List ℕ → ℕ
anchor_place schema key = if schema.phdam then option_map_or (λ part. anchor_of part.anchors key) (slice_get schema.parts (partition_place schema key)) 0 else 0

abbrev pub root_cmp : Schema → List ℕ → List ℕ → Ordering
root_cmp schema = then_cmp (on (partition_place schema) nat_cmp) (then_cmp (on (anchor_place schema) nat_cmp) key_cmp)
