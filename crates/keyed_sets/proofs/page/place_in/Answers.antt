use Rattle.std.proofs.Common.{◌+◌, ◌-◌, ◌/◌, ◌<◌, List, length, sym, ◌∙◌, arith}
use Rattle.std.proofs.lemmas.List.Sums.{prefix_len-le-length}
use Rattle.keyed_sets.specs.Layout.{Row, rows_in, is_below}
use Rattle.keyed_sets.proofs.Rows.{length-rows_in}
use Rattle.keyed_sets.proofs.Places.{place_above, place_upto}
use Rattle.keyed_sets.proofs.page.place_in.Goals as goal

pub loop-low-init : goal.loop-low-init
loop-low-init c =
    let rows : List Row = rows_in c.args.shape c.args.page.now in
    record {
      order = omega arith;
      within = omega (arith, c.count_in-high.ensures);
      from = λ rise. omega arith;
      upto = λ rise. omega (arith, prefix_len-le-length (λ (row : Row). is_below (row.0) c.args.key.now) rows, length-rows_in c.args.shape c.args.page.now, c.count_in-high.ensures);
    }

pub loop-low-preserved-then-is_below : goal.loop-low-preserved-then-is_below
loop-low-preserved-then-is_below c =
    let rows : List Row = rows_in c.args.shape c.args.page.now in
    let l = c.loop-low in
    let i = l.invariant in
    let lt : l.low + (l.high - l.low) / 2 < length rows = omega (arith, length-rows_in c.args.shape c.args.page.now, i.within, c.loop-low-test.true) in
    record {
      order = omega (arith, c.loop-low-test.true);
      within = i.within;
      from = λ rise. omega (arith, place_above c.args.key.now rows (l.low + (l.high - l.low) / 2) c.key_at.result.now rise lt c.key_at.ensures.key (sym c.is_below.ensures ∙ c.if-is_below.true));
      upto = i.upto;
    }

pub loop-low-preserved : goal.loop-low-preserved
loop-low-preserved c =
    let rows : List Row = rows_in c.args.shape c.args.page.now in
    let l = c.loop-low in
    let i = l.invariant in
    let lt : l.low + (l.high - l.low) / 2 < length rows = omega (arith, length-rows_in c.args.shape c.args.page.now, i.within, c.loop-low-test.true) in
    record {
      order = omega (arith, i.order);
      within = omega (arith, i.within, c.loop-low-test.true);
      from = i.from;
      upto = λ rise. place_upto c.args.key.now rows (l.low + (l.high - l.low) / 2) c.key_at.result.now lt c.key_at.ensures.key (sym c.is_below.ensures ∙ c.if-is_below.false);
    }
