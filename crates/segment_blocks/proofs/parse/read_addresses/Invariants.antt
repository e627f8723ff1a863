use Rattle.std.proofs.Common.{◌≡◌, ◌*◌, ◌-◌, ◌++◌, drop}
use Rattle.segment_blocks.specs.Reading.{addresses_in}
use Rattle.segment_blocks.proofs.parse.read_addresses.Given as goal

-- the addresses so far, and those in the rest
abbrev pub invariant-loop-i : goal.invariant-loop-i
invariant-loop-i l = l.addresses ++ addresses_in (l.count - l.i) (drop (4 * l.i) l.bytes) ≡ addresses_in l.count l.bytes
