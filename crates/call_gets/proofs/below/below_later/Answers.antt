use Rattle.std.proofs.Common.{◌≡◌, ◌≤◌, ◌+◌, List, None, Some, sym, subst, ◌∙◌, arith}
use Rattle.std.specs.Prelude.{find}
use Rattle.std.specs.Option.{option_map}
use Rattle.hal_schema.specs.declared.row.Row.{Row}
use Rattle.hal_schema.specs.declared.schema.Schema.{Schema}
use Rattle.position_state.specs.View.{is_at, behind}
use Rattle.call_gets.specs.Below.{deeper_around, deeper_at, in_record}
use Rattle.call_gets.specs.Scan.{IsGot, LooksWithin, inside_ahead, met_behind, met_below, on_its_path, plain_view}
use Rattle.call_gets.proofs.Looking.{where_told, told_at, stands_at, differ_told, place_told}
use Rattle.call_gets.proofs.Counting.{deeper_is, later_found_at}
use Rattle.call_gets.proofs.Finding.{if_ok}
use Rattle.call_gets.proofs.Parting.{later_stands, below_none, below_later}
use Rattle.call_gets.proofs.below.below_later.Goals as goal

pub first_deeper-requires-clause-there : goal.first_deeper-requires-clause-there
first_deeper-requires-clause-there g c =
    let a = g.W.Walk.seen c.args.walk.now in
    let b = g.W.Walk.seen c.later.new.walk in
    let schema = c.args.schema.now in
    stands_at a b schema c.in-Some.spot.at c.later.ensures.looked.schema c.later.ensures.looked.forest c.requires.schema
    (λ rows k. later_stands (plain_view schema rows) c.args.at.now c.args.parent.now c.in-Some.spot (differ_told c.places_differ.ensures a schema rows (g.met.W.Walk.keeps_forest c.args.walk.now) c.requires.schema k)
    (sym c.in-Some.is ∙ subst (λ (s : Schema). c.in_ok-later.field-0 ≡ find (is_at c.args.parent.now) (in_record (behind c.args.at.now (plain_view s rows)))) c.requires.schema
    (told_at a.forest rows (λ (r : List Row). c.in_ok-later.field-0 ≡ find (is_at c.args.parent.now) (in_record (behind c.args.at.now (plain_view a.schema r)))) k c.in_ok-later.ensures.later) ∙ sym (c.requires.within rows k)))

pub returns-in-None-clause-got : goal.returns-in-None-clause-got
returns-in-None-clause-got g c =
    let a = g.W.Walk.seen c.args.walk.now in
    let schema = c.args.schema.now in
    let ssas = c.args.ssas.now in
    let at = c.args.at.now in
    let parent = c.args.parent.now in
    where_told a.forest (λ (rows : List Row). None ≡ met_below schema ssas at parent (plain_view schema rows))
    (λ rows k. below_none schema (plain_view schema rows) ssas at parent (differ_told c.places_differ.ensures a schema rows (g.met.W.Walk.keeps_forest c.args.walk.now) c.requires.schema k)
    (place_told a schema rows at c.requires.schema k c.requires.there) (c.requires.apart rows k)
    (sym c.in-None.is ∙ subst (λ (s : Schema). c.in_ok-later.field-0 ≡ find (is_at parent) (in_record (behind at (plain_view s rows)))) c.requires.schema
    (told_at a.forest rows (λ (r : List Row). c.in_ok-later.field-0 ≡ find (is_at parent) (in_record (behind at (plain_view a.schema r)))) k c.in_ok-later.ensures.later) ∙ sym (c.requires.within rows k)))

pub returns-in-Some-clause-got : goal.returns-in-Some-clause-got
returns-in-Some-clause-got g c =
    let a = g.W.Walk.seen c.args.walk.now in
    let b = g.W.Walk.seen c.later.new.walk in
    let schema = c.args.schema.now in
    let ssas = c.args.ssas.now in
    let at = c.args.at.now in
    let parent = c.args.parent.now in
    let spot = c.in-Some.spot in
    if_ok c.first_deeper.result (IsGot schema b (met_behind schema ssas (Some spot.level) spot.at)) (IsGot schema a (met_below schema ssas at parent))
    (λ met h. where_told a.forest (λ (rows : List Row). option_map on_its_path met ≡ met_below schema ssas at parent (plain_view schema rows))
    (λ rows k. told_at b.forest rows (λ (r : List Row). option_map on_its_path met ≡ met_behind schema ssas (Some spot.level) spot.at (plain_view schema r)) (c.later.ensures.looked.forest ∙ k) h
    ∙ below_later schema (plain_view schema rows) ssas at parent spot (differ_told c.places_differ.ensures a schema rows (g.met.W.Walk.keeps_forest c.args.walk.now) c.requires.schema k)
    (place_told a schema rows at c.requires.schema k c.requires.there) (c.requires.apart rows k)
    (sym c.in-Some.is ∙ subst (λ (s : Schema). c.in_ok-later.field-0 ≡ find (is_at parent) (in_record (behind at (plain_view s rows)))) c.requires.schema
    (told_at a.forest rows (λ (r : List Row). c.in_ok-later.field-0 ≡ find (is_at parent) (in_record (behind at (plain_view a.schema r)))) k c.in_ok-later.ensures.later) ∙ sym (c.requires.within rows k))))
    c.first_deeper.ensures.met

pub returns-in-None-clause-few : goal.returns-in-None-clause-few
returns-in-None-clause-few g c = λ h.
    let a = g.W.Walk.seen c.args.walk.now in
    let b = g.W.Walk.seen c.later.new.walk in
    let schema = c.args.schema.now in
    let at = c.args.at.now in
    let parent = c.args.parent.now in
    where_told a.forest (λ (rows : List Row). let view = plain_view schema rows in b.looks ≤ a.looks + (3 + (inside_ahead (Some 1) (behind at view) + deeper_at parent view)))
    (λ rows k. omega (
      arith,
      subst (λ (s : Schema). b.looks ≤ a.looks + (1 + inside_ahead (Some 1) (behind at (plain_view s rows)))) c.requires.schema
          (told_at a.forest rows (λ (r : List Row). b.looks ≤ a.looks + (1 + inside_ahead (Some 1) (behind at (plain_view a.schema r)))) k c.in_ok-later.ensures.few),
    ))

pub returns-in-Some-clause-few : goal.returns-in-Some-clause-few
returns-in-Some-clause-few g c =
    let a = g.W.Walk.seen c.args.walk.now in
    let b = g.W.Walk.seen c.later.new.walk in
    let new = g.W.Walk.seen c.first_deeper.new.walk in
    let schema = c.args.schema.now in
    let ssas = c.args.ssas.now in
    let at = c.args.at.now in
    let parent = c.args.parent.now in
    let spot = c.in-Some.spot in
    if_ok c.first_deeper.result (λ met. LooksWithin ssas b new (λ rows. 2 + deeper_around spot (plain_view schema rows)))
    (λ met. LooksWithin ssas a new (λ rows. let view = plain_view schema rows in 3 + (inside_ahead (Some 1) (behind at view) + deeper_at parent view)))
    (λ met few h. where_told a.forest (λ (rows : List Row). let view = plain_view schema rows in new.looks ≤ a.looks + (3 + (inside_ahead (Some 1) (behind at view) + deeper_at parent view)))
    (λ rows k. let view = plain_view schema rows in
    let there = later_found_at view at parent spot (differ_told c.places_differ.ensures a schema rows (g.met.W.Walk.keeps_forest c.args.walk.now) c.requires.schema k)
    (sym c.in-Some.is ∙ subst (λ (s : Schema). c.in_ok-later.field-0 ≡ find (is_at parent) (in_record (behind at (plain_view s rows)))) c.requires.schema
    (told_at a.forest rows (λ (r : List Row). c.in_ok-later.field-0 ≡ find (is_at parent) (in_record (behind at (plain_view a.schema r)))) k c.in_ok-later.ensures.later) ∙ sym (c.requires.within rows k)) in
    omega (
      arith,
      deeper_is view parent spot there,
      told_at b.forest rows (λ (r : List Row). new.looks ≤ b.looks + (2 + deeper_around spot (plain_view schema r))) (c.later.ensures.looked.forest ∙ k) (few h),
      subst (λ (s : Schema). b.looks ≤ a.looks + (1 + inside_ahead (Some 1) (behind at (plain_view s rows)))) c.requires.schema
          (told_at a.forest rows (λ (r : List Row). b.looks ≤ a.looks + (1 + inside_ahead (Some 1) (behind at (plain_view a.schema r)))) k c.in_ok-later.ensures.few),
    )))
    c.first_deeper.ensures.few
