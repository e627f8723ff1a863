use Rattle.std.proofs.Common.{◌≡◌, ◌∙◌, ◌<◌, ◌≤◌, ◌+◌, ◌-◌, ◌/◌, ℕ, List, take, drop, sym, ap, subst, arith}
use Rattle.std.specs.Prelude.{insert}
use Rattle.keyed_sets.specs.Layout.{Row, rows_in, count_of, PutsRows}
use Rattle.keyed_sets.specs.PageFacts.{middle}
use Rattle.keyed_sets.specs.Places.{lower_half, upper_half}
use Rattle.keyed_sets.proofs.Rows.{length-rows_in, end_monotone}
use Rattle.keyed_sets.proofs.Putting.{some_put, taken_count, left_count, inserts}
use Rattle.keyed_sets.proofs.page_edits.split_rows.Goals as goal

over : (a f h : ℕ) → f < a → f ≡ h → a ≤ h → ⊥
over a f h lt is le = absurd (omega arith)

under : (a f h : ℕ) → a ≤ f → f ≡ h → h < a → ⊥
under a f h le is lt = absurd (omega arith)

pub insert_row-requires-clause-room : goal.insert_row-requires-clause-room
insert_row-requires-clause-room c =
    let n = c.count_in-count.result in
    let left = left_count c.args.shape c.args.second.now c.move_rows.new.second (rows_in c.args.shape c.args.page.now) (n - n / 2) c.move_rows.ensures.moved in
    omega (arith, end_monotone c.args.shape (count_of c.move_rows.new.second + 1) (count_of c.args.page.now) (omega (arith, left, length-rows_in c.args.shape c.args.page.now, c.count_in-count.ensures, c.requires.many)), c.requires.place)

pub insert_row-requires-clause-within : goal.insert_row-requires-clause-within
insert_row-requires-clause-within c =
    let n = c.count_in-count.result in
    omega (arith, left_count c.args.shape c.args.second.now c.move_rows.new.second (rows_in c.args.shape c.args.page.now) (n - n / 2) c.move_rows.ensures.moved, length-rows_in c.args.shape c.args.page.now, c.count_in-count.ensures, c.requires.within)

kept_count : (n : ℕ) (m : ℕ) → m ≡ n - n / 2 → 1 < n → m + 1 ≤ n
kept_count n m is some = omega (arith, is, some)

pub insert_row-requires-else-at-from-clause-room : goal.insert_row-requires-else-at-from-clause-room
insert_row-requires-else-at-from-clause-room c =
    let n = c.count_in-count.result in
    let taken = taken_count c.args.shape c.args.page.now c.move_rows.new.page (rows_in c.args.shape c.args.page.now) (n - n / 2) c.move_rows.ensures.kept (omega (arith, length-rows_in c.args.shape c.args.page.now, c.count_in-count.ensures)) in
    let less : count_of c.move_rows.new.page + 1 ≤ count_of c.args.page.now = omega (arith, kept_count n (count_of c.move_rows.new.page) taken (omega (arith, c.requires.many, c.count_in-count.ensures)), c.count_in-count.ensures) in
    omega (arith, end_monotone c.args.shape (count_of c.move_rows.new.page + 1) (count_of c.args.page.now) less, c.requires.place)

pub insert_row-requires-else-at-from-clause-within : goal.insert_row-requires-else-at-from-clause-within
insert_row-requires-else-at-from-clause-within c =
    let n = c.count_in-count.result in
    omega (arith, taken_count c.args.shape c.args.page.now c.move_rows.new.page (rows_in c.args.shape c.args.page.now) (n - n / 2) c.move_rows.ensures.kept (omega (arith, length-rows_in c.args.shape c.args.page.now, c.count_in-count.ensures)), c.if-at-from.false)

pub returns-then-at-from-clause-split : goal.returns-then-at-from-clause-split
returns-then-at-from-clause-split c =
    let rows : List Row = rows_in c.args.shape c.args.page.now in
    let n = c.count_in-count.result in
    let same : n - n / 2 ≡ middle rows = ap (λ (k : ℕ). k - k / 2) (c.count_in-count.ensures ∙ sym (length-rows_in c.args.shape c.args.page.now)) in
    record {
      many = c.requires.many;
      up = λ lt. (
        subst (λ (k : ℕ). PutsRows c.args.shape c.args.page.now c.move_rows.new.page (take k rows)) same c.move_rows.ensures.kept,
        subst (λ (k : ℕ). PutsRows c.args.shape c.args.second.now c.insert_row.new.page (insert (upper_half rows) k (c.args.key.now, c.args.body.now))) (ap (λ (k : ℕ). c.args.at - k) same)
            (inserts c.args.shape c.args.second.now c.move_rows.new.second c.insert_row.new.page (c.args.at - (n - n / 2)) (c.args.key.now, c.args.body.now) (upper_half rows)
            (subst (λ (k : ℕ). PutsRows c.args.shape c.args.second.now c.move_rows.new.second (drop k rows)) same c.move_rows.ensures.moved) c.insert_row.ensures),
      );
      down = λ le. absurd (over c.args.at (n - n / 2) (middle rows) c.if-at-from.true same le);
    }

pub returns-then-at-from-clause-kept : goal.returns-then-at-from-clause-kept
returns-then-at-from-clause-kept c =
    let n = c.count_in-count.result in
    (c.move_rows.ensures.kept.place, omega (arith, taken_count c.args.shape c.args.page.now c.move_rows.new.page (rows_in c.args.shape c.args.page.now) (n - n / 2) c.move_rows.ensures.kept (omega (arith, length-rows_in c.args.shape c.args.page.now, c.count_in-count.ensures)), c.count_in-count.ensures, c.requires.many))

pub returns-then-at-from-clause-moved : goal.returns-then-at-from-clause-moved
returns-then-at-from-clause-moved c =
    let n = c.count_in-count.result in
    (c.insert_row.ensures.place, some_put c.args.shape c.move_rows.new.second c.insert_row.new.page (c.args.at - (n - n / 2)) (c.args.key.now, c.args.body.now) (rows_in c.args.shape c.move_rows.new.second) c.insert_row.ensures)

pub returns-else-at-from-clause-split : goal.returns-else-at-from-clause-split
returns-else-at-from-clause-split c =
    let rows : List Row = rows_in c.args.shape c.args.page.now in
    let n = c.count_in-count.result in
    let same : n - n / 2 ≡ middle rows = ap (λ (k : ℕ). k - k / 2) (c.count_in-count.ensures ∙ sym (length-rows_in c.args.shape c.args.page.now)) in
    record {
      many = c.requires.many;
      up = λ lt. absurd (under c.args.at (n - n / 2) (middle rows) c.if-at-from.false same lt);
      down = λ le. (
        inserts c.args.shape c.args.page.now c.move_rows.new.page c.insert_row-else-at-from.new.page c.args.at (c.args.key.now, c.args.body.now) (lower_half rows)
            (subst (λ (k : ℕ). PutsRows c.args.shape c.args.page.now c.move_rows.new.page (take k rows)) same c.move_rows.ensures.kept) c.insert_row-else-at-from.ensures,
        subst (λ (k : ℕ). PutsRows c.args.shape c.args.second.now c.move_rows.new.second (drop k rows)) same c.move_rows.ensures.moved,
      );
    }

pub returns-else-at-from-clause-kept : goal.returns-else-at-from-clause-kept
returns-else-at-from-clause-kept c = (c.insert_row-else-at-from.ensures.place, some_put c.args.shape c.move_rows.new.page c.insert_row-else-at-from.new.page c.args.at (c.args.key.now, c.args.body.now) (rows_in c.args.shape c.move_rows.new.page) c.insert_row-else-at-from.ensures)

pub returns-else-at-from-clause-moved : goal.returns-else-at-from-clause-moved
returns-else-at-from-clause-moved c =
    let n = c.count_in-count.result in
    (c.move_rows.ensures.moved.place, omega (arith, left_count c.args.shape c.args.second.now c.move_rows.new.second (rows_in c.args.shape c.args.page.now) (n - n / 2) c.move_rows.ensures.moved, length-rows_in c.args.shape c.args.page.now, c.count_in-count.ensures, c.requires.many))
