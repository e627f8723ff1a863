use Rattle.std.proofs.Common.{◌≡◌, true, nat_lt, take}
use Rattle.std.specs.List.{list_all}
use Rattle.hal_schema.proofs.build.copied.Given as goal

abbrev pub invariant-loop-byte : goal.invariant-loop-byte
invariant-loop-byte l = (l.key ≡ take l.byte-index l.high) × (list_all (λ b. nat_lt b 256) l.key ≡ true)
