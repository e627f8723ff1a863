use Rattle.std.proofs.Common.{◌≡◌, ℕ, ◌+◌, ◌-◌, ◌<◌, ◌≤◌, List, ◌*◌, length, get_or, take, drop, sym, ap, ◌∙◌, arith}
use Rattle.std.proofs.lemmas.List.{drop-drop}
use Rattle.keyed_sets.specs.Layout.{Row, row_length, rows_from}
use Rattle.keyed_sets.proofs.Rows.{length-rows_from, end_monotone}
use Rattle.keyed_sets.proofs.Rising.{none, walked_key, rising_on, rising_off, rising_last}
use Rattle.keyed_sets.proofs.check.rising_in.Goals as goal

pub key_from-last-requires : goal.key_from-last-requires
key_from-last-requires c =
    let before : c.loop-at.at - 1 + 1 ≤ c.args.count = omega (arith, c.loop-at.invariant.from, c.loop-at-test.true) in
    omega (arith, end_monotone c.args.shape (c.loop-at.at - 1 + 1) c.args.count before, c.requires)

pub key_from-next-requires : goal.key_from-next-requires
key_from-next-requires c =
    let before : c.loop-at.at + 1 ≤ c.args.count = omega (arith, c.loop-at-test.true) in
    omega (arith, end_monotone c.args.shape (c.loop-at.at + 1) c.args.count before, c.requires)

pub loop-at-preserved : goal.loop-at-preserved
loop-at-preserved c =
    let body : List ℕ = drop 16 c.args.page.now in
    let rows : List Row = rows_from c.args.shape c.args.count body in
    let k : ℕ = c.loop-at.at - 1 in
    let lt : c.loop-at.at < length rows = omega (arith, length-rows_from c.args.shape c.args.count body, c.loop-at-test.true) in
    let first : (get_or rows k none).0 ≡ c.key_from-last.result.now =
    walked_key c.args.shape c.args.count body k (omega (arith, c.loop-at-test.true)) ∙ ap (take c.args.shape.key) (drop-drop (row_length c.args.shape * k) 16 c.args.page.now) ∙ sym c.key_from-last.ensures in
    let second : (get_or rows c.loop-at.at none).0 ≡ c.key_from-next.result.now =
    walked_key c.args.shape c.args.count body c.loop-at.at c.loop-at-test.true ∙ ap (take c.args.shape.key) (drop-drop (row_length c.args.shape * c.loop-at.at) 16 c.args.page.now) ∙ sym c.key_from-next.ensures in
    record {
      from = omega (arith, c.loop-at.invariant.from);
      most = λ some. omega (arith, c.loop-at-test.true);
      empty = λ nothing. absurd (omega (arith, nothing, c.loop-at-test.true));
      walked = rising_on rows k c.loop-at.at (c.loop-at.at + 1 - 1) _ _ _ (omega (arith, c.loop-at.invariant.from)) (omega arith) lt first second (sym c.is_below.ensures ∙ c.if-not-is_below.false) c.loop-at.invariant.walked;
    }

pub returns-then-not-is_below : goal.returns-then-not-is_below
returns-then-not-is_below c =
    let body : List ℕ = drop 16 c.args.page.now in
    let rows : List Row = rows_from c.args.shape c.args.count body in
    let k : ℕ = c.loop-at.at - 1 in
    let lt : c.loop-at.at < length rows = omega (arith, length-rows_from c.args.shape c.args.count body, c.loop-at-test.true) in
    let first : (get_or rows k none).0 ≡ c.key_from-last.result.now =
    walked_key c.args.shape c.args.count body k (omega (arith, c.loop-at-test.true)) ∙ ap (take c.args.shape.key) (drop-drop (row_length c.args.shape * k) 16 c.args.page.now) ∙ sym c.key_from-last.ensures in
    let second : (get_or rows c.loop-at.at none).0 ≡ c.key_from-next.result.now =
    walked_key c.args.shape c.args.count body c.loop-at.at c.loop-at-test.true ∙ ap (take c.args.shape.key) (drop-drop (row_length c.args.shape * c.loop-at.at) 16 c.args.page.now) ∙ sym c.key_from-next.ensures in
    rising_off rows k c.loop-at.at _ _ _ (omega (arith, c.loop-at.invariant.from)) lt first second (sym c.is_below.ensures ∙ c.if-not-is_below.true) c.loop-at.invariant.walked

pub returns : goal.returns
returns c =
    let body : List ℕ = drop 16 c.args.page.now in
    rising_last (rows_from c.args.shape c.args.count body) (c.loop-at.at - 1) _ c.args.count (length-rows_from c.args.shape c.args.count body)
    (λ nothing. omega (arith, c.loop-at.invariant.empty nothing))
    (λ some. omega (arith, c.loop-at.invariant.most some, c.loop-at.invariant.from, c.loop-at-test.false))
    c.loop-at.invariant.walked
