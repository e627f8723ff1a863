use Rattle.std.proofs.Common.{◌≡◌, ◌<◌, ◌≤◌, ◌+◌, ◌*◌, length}
use Rattle.hal_schema.specs.SegType.{path_key_bytes}
use Rattle.hal_schema.proofs.Ancestry.{path_above}
use Rattle.hal_schema.proofs.rules.indexes.path_bytes.Given as goal

abbrev pub invariant-loop-parent : goal.invariant-loop-parent
invariant-loop-parent l = (0 < l.at) × (l.at ≤ length l.types) × (l.bytes + 65535 * l.at ≤ 65535 * (l.code + 1)) × (l.bytes + path_above l.types l.at ≡ path_key_bytes l.types l.code)

abbrev pub decreases-loop-parent : goal.decreases-loop-parent
decreases-loop-parent l = l.at
