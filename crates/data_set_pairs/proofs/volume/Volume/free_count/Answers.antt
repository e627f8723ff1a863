use Rattle.std.proofs.Common.{rules}
use Rattle.data_set_pairs.proofs.VolumeSteps.{free_told}
use Rattle.data_set_pairs.proofs.volume.Volume.free_count.Goals as goal

pub returns-clause-told : goal.returns-clause-told
returns-clause-told g c =
    let v = c.args.self.now in
    free_told v.indexes v.control (g.B.Blocks.seen v.blocks).number v.states.items v.table.pages.items v.table.free.items (g.B.Blocks.seen v.blocks).list c.len.result v.laid (search rules)
