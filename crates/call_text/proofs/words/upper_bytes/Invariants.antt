use Rattle.std.proofs.Common.{◌≡◌, map, take}
use Rattle.hal_base.specs.Name.{upper}
use Rattle.call_text.proofs.words.upper_bytes.Given as goal

abbrev pub invariant-loop-byte : goal.invariant-loop-byte
invariant-loop-byte l = l.bytes ≡ map upper (take l.byte-index l.text)
