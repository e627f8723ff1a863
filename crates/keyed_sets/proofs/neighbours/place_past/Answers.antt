use Rattle.std.proofs.Common.{◌≡◌, ◌+◌, List, subst, true, arith}
use Rattle.std.specs.List.{AllWithin}
use Rattle.std.proofs.lemmas.Bool.{both_ways}
use Rattle.keyed_sets.specs.Layout.{Row, rows_in, is_below}
use Rattle.keyed_sets.proofs.Rows.{length-rows_in}
use Rattle.keyed_sets.proofs.Members.{rise_all}
use Rattle.keyed_sets.proofs.NextRows.{past_found, past_missing}
use Rattle.keyed_sets.proofs.neighbours.place_past.Goals as goal

pub overflow_add-result : goal.overflow_add-result
overflow_add-result c = omega (arith, c.holds_key.ensures.short c.if-holds_key.true)

pub returns-then-holds_key-clause-upto : goal.returns-then-holds_key-clause-upto
returns-then-holds_key-clause-upto c = λ rise.
    let rows : List Row = rows_in c.args.shape c.args.page.now in
    let holds = c.holds_key.ensures.holds.0 c.if-holds_key.true in
    (past_found rows c.place_in-at.result c.args.key.now (rise_all rows rise) (c.place_in-at.ensures.place rise) (omega (arith, holds.within, length-rows_in c.args.shape c.args.page.now)) holds.is).0

pub returns-then-holds_key-clause-above : goal.returns-then-holds_key-clause-above
returns-then-holds_key-clause-above c = λ rise.
    let rows : List Row = rows_in c.args.shape c.args.page.now in
    let holds = c.holds_key.ensures.holds.0 c.if-holds_key.true in
    subst (AllWithin (λ (row : Row). is_below c.args.key.now (row.0) ≡ true) rows (c.place_in-at.result + 1)) (length-rows_in c.args.shape c.args.page.now)
    (past_found rows c.place_in-at.result c.args.key.now (rise_all rows rise) (c.place_in-at.ensures.place rise) (omega (arith, holds.within, length-rows_in c.args.shape c.args.page.now)) holds.is).1

pub returns-else-holds_key-clause-upto : goal.returns-else-holds_key-clause-upto
returns-else-holds_key-clause-upto c = λ rise.
    let rows : List Row = rows_in c.args.shape c.args.page.now in
    (past_missing rows c.place_in-at.result c.args.key.now (rise_all rows rise) (c.place_in-at.ensures.place rise)
    (λ there. both_ways c.holds_key.result c.if-holds_key.false (c.holds_key.ensures.holds.1 (record { within = omega (arith, there.0, length-rows_in c.args.shape c.args.page.now); is = there.1 })))).0

pub returns-else-holds_key-clause-above : goal.returns-else-holds_key-clause-above
returns-else-holds_key-clause-above c = λ rise.
    let rows : List Row = rows_in c.args.shape c.args.page.now in
    subst (AllWithin (λ (row : Row). is_below c.args.key.now (row.0) ≡ true) rows c.place_in-at.result) (length-rows_in c.args.shape c.args.page.now)
    (past_missing rows c.place_in-at.result c.args.key.now (rise_all rows rise) (c.place_in-at.ensures.place rise)
    (λ there. both_ways c.holds_key.result c.if-holds_key.false (c.holds_key.ensures.holds.1 (record { within = omega (arith, there.0, length-rows_in c.args.shape c.args.page.now); is = there.1 })))).1
