use Rattle.std.proofs.Common.{drop, reverse, slice_set}
use Rattle.data_set_pairs.proofs.Standing.{numbered_known, told_then}
use Rattle.data_set_pairs.proofs.Stepping.{goes_on, known_step, numbered_step}
use Rattle.data_set_pairs.proofs.volume.Volume.may_go_on.Goals as goal

pub returns-clause-known : goal.returns-clause-known
returns-clause-known g c =
    let v = c.args.self.now in
    told_then (g.B.Blocks.seen v.blocks).list c.requires.known (λ list is known. known_step v.indexes v.states.items (slice_set v.states.items c.args.place c.args.state.now) (drop v.control list) (goes_on v.indexes v.states.items c.args.place c.args.state.now c.requires.goes_on) known)

pub returns-clause-numbered : goal.returns-clause-numbered
returns-clause-numbered g c =
    let v = c.args.self.now in
    told_then (g.B.Blocks.seen v.blocks).list c.requires.known (λ list is known. numbered_step v.indexes v.states.items (slice_set v.states.items c.args.place c.args.state.now) (drop v.control list) (goes_on v.indexes v.states.items c.args.place c.args.state.now c.requires.goes_on) known
    (numbered_known v.indexes v.control (g.B.Blocks.seen v.blocks).number v.states.items v.table.pages.items (reverse v.table.free.items) list v.in_table (v.laid list is) known))
