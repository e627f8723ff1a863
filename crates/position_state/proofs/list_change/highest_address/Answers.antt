use Rattle.position_state.proofs.Changing.{named_pushed}
use Rattle.position_state.proofs.Steps.{left_is}
use Rattle.position_state.proofs.list_change.highest_address.Goals as goal

pub loop-row-preserved : goal.loop-row-preserved
loop-row-preserved c =
    named_pushed c.args.rows.now c.loop-row.row-index c.loop-row.highest c.higher-highest.result c.row-item.result c.loop-row.invariant
    (left_is c.args.rows.now c.loop-row.row-index c.row-item.result c.loop-row-test.true c.row-item.is) c.higher-highest.ensures.first c.higher-highest.ensures.second
