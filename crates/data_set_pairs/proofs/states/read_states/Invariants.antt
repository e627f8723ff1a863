use Rattle.std.proofs.Common.{◌≡◌, ◌*◌, length, min}
use Rattle.std.specs.Prelude.{IfSome, IsTrue}
use Rattle.data_set_pairs.specs.Reading.{HasFirstStates}
use Rattle.data_set_pairs.specs.Stays.{Looks}
use Rattle.data_set_pairs.proofs.states.read_states.Given as goal

abbrev pub invariant-loop-number : goal.invariant-loop-number
invariant-loop-number g l = record {
  many : length l.states.items ≡ min (32 * l.number) (length l.schema.parts);
  states : IfSome (g.B.Blocks.seen l.fn.blocks).list (λ list. HasFirstStates l.schema list (32 * l.number) l.states.items);
  looks : Looks (g.B.Blocks.steady l.fn.blocks l.blocks) (g.B.Blocks.seen l.fn.blocks) (g.B.Blocks.seen l.blocks);
  live : IsTrue (g.B.Blocks.seen l.blocks).live;
}
