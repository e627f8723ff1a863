use Rattle.std.proofs.lemmas.List.{drop_all}
use Rattle.std.proofs.lemmas.Result.{err_from_is_err_and}
use Rattle.partition_reader.proofs.Parts.{parts_go_on, parts_fail, parts_end}
use Rattle.partition_reader.proofs.table.parts_of_tables.Goals as goal

pub returns-in_err-part_in : goal.returns-in_err-part_in
returns-in_err-part_in c =
    let s = c.loop-table in
    let p = err_from_is_err_and c.from_residual.result c.from_residual.ensures.1 in
    rw (p.1, p.2) (parts_fail c.args.tables.now s.table-index c.table-item.result s.place s.parts c.in_err-part_in.field-0.0 _ c.loop-table-test.true c.table-item.is c.in_err-part_in.ensures s.invariant)

pub loop-table-preserved : goal.loop-table-preserved
loop-table-preserved c =
    let s = c.loop-table in
    rw (c.in_ok-push.ensures.ok, c.next_place-place.ensures) (parts_go_on c.args.tables.now s.table-index c.table-item.result s.place s.parts c.in_ok-part_in.field-0 _ c.loop-table-test.true c.table-item.is c.in_ok-part_in.ensures s.invariant)

pub returns : goal.returns
returns c =
    let s = c.loop-table in
    parts_end c.args.tables.now s.table-index s.place s.parts _ (drop_all s.table-index c.args.tables.now c.loop-table-test.false) s.invariant
