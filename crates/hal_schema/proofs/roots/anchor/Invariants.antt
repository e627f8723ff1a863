use Rattle.std.proofs.Common.{◌≡◌, ◌+◌, ◌*◌, ◌%◌, ◌^◌, ◌<◌, take, fold}
use Rattle.hal_schema.proofs.roots.anchor.Given as goal

abbrev pub invariant-loop-byte : goal.invariant-loop-byte
invariant-loop-byte l = (l.hash < 2 ^ 32) × (l.hash ≡ fold (λ hash byte. (31 * hash + byte) % 2 ^ 32) 0 (take l.byte-index l.key))
