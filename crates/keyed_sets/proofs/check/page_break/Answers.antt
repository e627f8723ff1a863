use Rattle.std.proofs.Common.{◌≡◌, ◌≤◌, Bool, true, false, min, ap, ◌∙◌, arith}
use Rattle.keyed_sets.specs.Layout.{count_of, end_of}
use Rattle.keyed_sets.specs.Rule.{capacity}
use Rattle.keyed_sets.proofs.Rising.{capacity_place}
use Rattle.keyed_sets.proofs.Breaks.{is_row_page, breaks_by_kind, breaks_at_row, breaks_behind}
use Rattle.keyed_sets.proofs.check.page_break.Goals as goal

false_is : (b : Bool) → b ≡ false → b ≡ true → ⊥
false_is b is is_not = cc

pub returns-then-page-ne2-clause-broken : goal.returns-then-page-ne2-clause-broken
returns-then-page-ne2-clause-broken c = breaks_by_kind c.args.shape c.args.page.now c.if-page-ne2.true

pub rising_in-rising-requires : goal.rising_in-rising-requires
rising_in-rising-requires c = capacity_place c.args.shape c.min-placed.result (omega (arith, c.min-placed.ensures, c.capacity.ensures))

pub overflow_cast-result : goal.overflow_cast-result
overflow_cast-result c =
    let rising : c.from.result ≡ c.rising_in-rising.result = omega (arith, c.from.ensures) in
    let ends : c.end_of.result ≡ end_of c.args.shape c.rising_in-rising.result = c.end_of.ensures ∙ ap (end_of c.args.shape) rising in
    let within : c.rising_in-rising.result ≤ capacity c.args.shape = omega (arith, c.if-rising-placed.true, c.min-placed.ensures, c.capacity.ensures) in
    omega (arith, ends, capacity_place c.args.shape c.rising_in-rising.result within)

pub returns-then-rising-placed-clause-broken : goal.returns-then-rising-placed-clause-broken
returns-then-rising-placed-clause-broken c =
    let placed : c.min-placed.result ≡ min (count_of c.args.page.now) (capacity c.args.shape) = omega (arith, c.min-placed.ensures, c.capacity.ensures, c.count_in.ensures) in
    let rising : c.from.result ≡ c.rising_in-rising.result = omega (arith, c.from.ensures) in
    breaks_at_row c.args.shape c.args.page.now c.min-placed.result c.rising_in-rising.result c.end_of.result c.requires c.if-page-ne2.false placed c.rising_in-rising.ensures
    c.if-rising-placed.true (c.end_of.ensures ∙ ap (end_of c.args.shape) rising)

pub ends_with-requires : goal.ends_with-requires
ends_with-requires c = capacity_place c.args.shape c.min-placed.result (omega (arith, c.min-placed.ensures, c.capacity.ensures))

pub returns-then-not-ends_with-clause-broken : goal.returns-then-not-ends_with-clause-broken
returns-then-not-ends_with-clause-broken c =
    let placed : c.min-placed.result ≡ min (count_of c.args.page.now) (capacity c.args.shape) = omega (arith, c.min-placed.ensures, c.capacity.ensures, c.count_in.ensures) in
    breaks_behind c.args.shape c.args.page.now c.min-placed.result c.rising_in-rising.result c.requires c.if-page-ne2.false placed c.rising_in-rising.ensures c.if-rising-placed.false
    (λ p. false_is c.ends_with.result c.if-not-ends_with.true (c.ends_with.ensures.1 p))

pub returns-clause-sound : goal.returns-clause-sound
returns-clause-sound c =
    let placed : c.min-placed.result ≡ min (count_of c.args.page.now) (capacity c.args.shape) = omega (arith, c.min-placed.ensures, c.capacity.ensures, c.count_in.ensures) in
    let whole = c.ends_with.ensures.0 c.if-not-ends_with.false in
    is_row_page c.args.shape c.args.page.now c.min-placed.result c.rising_in-rising.result c.if-page-ne2.false placed c.rising_in-rising.ensures c.if-rising-placed.false whole.0 whole.1
