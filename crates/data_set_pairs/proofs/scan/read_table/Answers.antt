use Rattle.std.proofs.Common.{◌≡◌, ◌∙◌, sym}
use Rattle.std.proofs.lemmas.Bool.{true≢false}
use Rattle.data_set_pairs.proofs.ScanTable.{table_made}
use Rattle.data_set_pairs.proofs.Numbering.{told_numbered, told_broken, table_stands}
use Rattle.data_set_pairs.proofs.scan.read_table.Goals as goal

pub returns-then-settle-clause-table : goal.returns-then-settle-clause-table
returns-then-settle-clause-table g c = table_made c.args.indexes c.args.states.now c.args.control (g.B.Blocks.seen c.args.blocks.now).number (g.B.Blocks.seen c.args.blocks.now).list c.in_ok-table.table.pages.items c.settle.new.pages.items c.in_ok-table.table.free.items c.in_ok-table.ensures.table c.settle.ensures.same c.settle.ensures.order (c.settle.ensures.run.0 c.if-settle.true)

pub returns-then-settle-clause-stands : goal.returns-then-settle-clause-stands
returns-then-settle-clause-stands g c = table_stands c.args.indexes c.args.states.now c.args.control (g.B.Blocks.seen c.args.blocks.now).number (g.B.Blocks.seen c.args.blocks.now).list c.in_ok-table.table.pages.items c.settle.new.pages.items c.in_ok-table.table.free.items c.in_ok-table.ensures.table c.settle.ensures.same

pub returns-then-settle-clause-numbered : goal.returns-then-settle-clause-numbered
returns-then-settle-clause-numbered g c = told_numbered c.args.indexes c.args.states.now c.args.control (g.B.Blocks.seen c.args.blocks.now).number (g.B.Blocks.seen c.args.blocks.now).list c.in_ok-table.table.pages.items c.settle.new.pages.items c.in_ok-table.table.free.items c.in_ok-table.ensures.table c.settle.ensures.same (c.settle.ensures.run.0 c.if-settle.true)

pub returns-else-settle-clause-broken : goal.returns-else-settle-clause-broken
returns-else-settle-clause-broken g c = λ rule is.
    let two : rule ≡ 2 = cc in
    told_broken c.args.indexes c.args.states.now c.args.control (g.B.Blocks.seen c.args.blocks.now).number rule (g.B.Blocks.seen c.args.blocks.now).list c.in_ok-table.table.pages.items c.settle.new.pages.items c.in_ok-table.table.free.items two c.in_ok-table.ensures.table c.settle.ensures.same c.settle.ensures.order (λ run. true≢false (sym (c.settle.ensures.run.1 run) ∙ c.if-settle.false))
