use Rattle.std.proofs.Common.{◌≡◌, ◌≤◌, ◌+◌, ◌*◌, length, List, Some, sym, ap, subst, ◌∙◌, arith}
use Rattle.std.specs.Prelude.{All}
use Rattle.std.specs.Option.{option_map}
use Rattle.hal_schema.specs.declared.row.Row.{Row}
use Rattle.hal_schema.specs.declared.schema.Schema.{Schema}
use Rattle.position_state.specs.declared.spot.Spot.{Spot}
use Rattle.position_state.specs.View.{behind}
use Rattle.call_gets.specs.Below.{deeper_at, rows_around}
use Rattle.call_gets.proofs.Counting.{inside_more}
use Rattle.call_gets.specs.Scan.{IsFound, IsGot, IsPath, LooksWithin, inside_ahead, level_at, met_behind, met_below, on_its_path, path_of, plain_view}
use Rattle.call_gets.proofs.Looking.{where_told, told_at, differ_told, place_told}
use Rattle.call_gets.proofs.Finding.{if_ok}
use Rattle.call_gets.proofs.Parting.{below_on}
use Rattle.call_gets.proofs.below.below_here.Goals as goal

pub below_later-requires-clause-apart : goal.below_later-requires-clause-apart
below_later-requires-clause-apart g c = λ rows e.
    let a = g.W.Walk.seen c.args.walk.now in
    let p = subst (λ (s : Schema). IsPath (plain_view s rows) c.args.at.now c.in_ok-path.path.items) c.requires.schema
    (told_at a.forest rows (λ (r : List Row). IsPath (plain_view a.schema r) c.args.at.now c.in_ok-path.path.items) (sym c.path_to.ensures.looked.forest ∙ e) c.in_ok-path.ensures.path) in
    ap (λ (path : List Spot). level_at path c.args.parent.now) (sym p.same) ∙ ap (λ (path : List Spot). level_at path c.args.parent.now) (sym c.deref.ensures.value) ∙ sym c.level_at.ensures ∙ c.in-None.is

pub first_from-requires-clause-path : goal.first_from-requires-clause-path
first_from-requires-clause-path g c = λ rows e.
    let a = g.W.Walk.seen c.args.walk.now in
    subst (λ (s : Schema). IsPath (plain_view s rows) c.args.at.now c.in_ok-path.path.items) c.requires.schema
    (told_at a.forest rows (λ (r : List Row). IsPath (plain_view a.schema r) c.args.at.now c.in_ok-path.path.items) (sym c.path_to.ensures.looked.forest ∙ e) c.in_ok-path.ensures.path)

pub returns-in-None-clause-got : goal.returns-in-None-clause-got
returns-in-None-clause-got g c =
    let a = g.W.Walk.seen c.args.walk.now in
    let b = g.W.Walk.seen c.path_to.new.walk in
    let schema = c.args.schema.now in
    let wanted = met_below schema c.args.ssas.now c.args.at.now c.args.parent.now in
    if_ok c.below_later.result (IsGot schema b wanted) (IsGot schema a wanted)
    (λ met h. where_told a.forest (λ (rows : List Row). option_map on_its_path met ≡ wanted (plain_view schema rows))
    (λ rows k. told_at b.forest rows (λ (r : List Row). option_map on_its_path met ≡ wanted (plain_view schema r)) (c.path_to.ensures.looked.forest ∙ k) h))
    c.below_later.ensures.got

pub returns-in-Some-clause-got : goal.returns-in-Some-clause-got
returns-in-Some-clause-got g c =
    let a = g.W.Walk.seen c.args.walk.now in
    let b = g.W.Walk.seen c.path_to.new.walk in
    let schema = c.args.schema.now in
    let ssas = c.args.ssas.now in
    let at = c.args.at.now in
    let parent = c.args.parent.now in
    if_ok c.first_from.result (IsGot schema b (met_behind schema ssas (Some c.in-Some.level) at)) (IsGot schema a (met_below schema ssas at parent))
    (λ met h. where_told a.forest (λ (rows : List Row). option_map on_its_path met ≡ met_below schema ssas at parent (plain_view schema rows))
    (λ rows k.
    let view = plain_view schema rows in
    let p = subst (λ (s : Schema). IsPath (plain_view s rows) at c.in_ok-path.path.items) c.requires.schema
    (told_at a.forest rows (λ (r : List Row). IsPath (plain_view a.schema r) at c.in_ok-path.path.items) k c.in_ok-path.ensures.path) in
    told_at b.forest rows (λ (r : List Row). option_map on_its_path met ≡ met_behind schema ssas (Some c.in-Some.level) at (plain_view schema r)) (c.path_to.ensures.looked.forest ∙ k) h
    ∙ below_on schema view ssas at parent c.in-Some.level (differ_told c.places_differ.ensures a schema rows (g.met.W.Walk.keeps_forest c.args.walk.now) c.requires.schema k)
    (place_told a schema rows at c.requires.schema k c.requires.there) (subst (All (IsFound view)) p.same p.found)
    (ap (λ (path : List Spot). level_at path parent) (sym p.same) ∙ ap (λ (path : List Spot). level_at path parent) (sym c.deref.ensures.value) ∙ sym c.level_at.ensures ∙ c.in-Some.is)))
    c.first_from.ensures.met

pub below_later-requires-clause-within : goal.below_later-requires-clause-within
below_later-requires-clause-within g c = λ rows e. c.requires.within rows (sym c.path_to.ensures.looked.forest ∙ e)

pub returns-in-None-clause-few : goal.returns-in-None-clause-few
returns-in-None-clause-few g c =
    let a = g.W.Walk.seen c.args.walk.now in
    let b = g.W.Walk.seen c.path_to.new.walk in
    let new = g.W.Walk.seen c.below_later.new.walk in
    let schema = c.args.schema.now in
    let ssas = c.args.ssas.now in
    let at = c.args.at.now in
    let parent = c.args.parent.now in
    if_ok c.below_later.result (λ met. LooksWithin ssas b new (λ rows. let view = plain_view schema rows in 3 + (inside_ahead (Some 1) (behind at view) + deeper_at parent view))) (λ met. LooksWithin ssas a new (λ rows. 4 + 2 * rows_around parent (plain_view schema rows)))
    (λ met few h. where_told a.forest (λ (rows : List Row). new.looks ≤ a.looks + (4 + 2 * rows_around parent (plain_view schema rows)))
    (λ rows k.
    let p = subst (λ (s : Schema). IsPath (plain_view s rows) at c.in_ok-path.path.items) c.requires.schema
    (told_at a.forest rows (λ (r : List Row). IsPath (plain_view a.schema r) at c.in_ok-path.path.items) k c.in_ok-path.ensures.path) in
    let size = ap (λ (ys : List Spot). length ys) p.same in
    let small = c.requires.small rows k in
    let told = told_at b.forest rows (λ (r : List Row). let view = plain_view schema r in new.looks ≤ b.looks + (3 + (inside_ahead (Some 1) (behind at view) + deeper_at parent view))) (c.path_to.ensures.looked.forest ∙ k) (few h) in
    omega (arith, size, c.in_ok-path.ensures.few, told, small.around, small.deeper)))
    c.below_later.ensures.few

pub returns-in-Some-clause-few : goal.returns-in-Some-clause-few
returns-in-Some-clause-few g c =
    let a = g.W.Walk.seen c.args.walk.now in
    let b = g.W.Walk.seen c.path_to.new.walk in
    let new = g.W.Walk.seen c.first_from.new.walk in
    let schema = c.args.schema.now in
    let ssas = c.args.ssas.now in
    let at = c.args.at.now in
    let parent = c.args.parent.now in
    if_ok c.first_from.result (λ met. LooksWithin ssas b new (λ rows. let view = plain_view schema rows in 1 + inside_ahead (Some c.in-Some.level) (behind at view))) (λ met. LooksWithin ssas a new (λ rows. 4 + 2 * rows_around parent (plain_view schema rows)))
    (λ met few h. where_told a.forest (λ (rows : List Row). new.looks ≤ a.looks + (4 + 2 * rows_around parent (plain_view schema rows)))
    (λ rows k.
    let p = subst (λ (s : Schema). IsPath (plain_view s rows) at c.in_ok-path.path.items) c.requires.schema
    (told_at a.forest rows (λ (r : List Row). IsPath (plain_view a.schema r) at c.in_ok-path.path.items) k c.in_ok-path.ensures.path) in
    let size = ap (λ (ys : List Spot). length ys) p.same in
    let small = c.requires.small rows k in
    let told = told_at b.forest rows (λ (r : List Row). let view = plain_view schema r in new.looks ≤ b.looks + (1 + inside_ahead (Some c.in-Some.level) (behind at view))) (c.path_to.ensures.looked.forest ∙ k) (few h) in
    let on = ap (λ (path : List Spot). level_at path parent) (sym p.same) ∙ ap (λ (path : List Spot). level_at path parent) (sym c.deref.ensures.value) ∙ sym c.level_at.ensures ∙ c.in-Some.is in
    let deep = told_at (level_at (path_of at (plain_view schema rows)) parent) c.in-Some.level (λ m. 1 ≤ m) on small.level in
    omega (arith, size, c.in_ok-path.ensures.few, told, small.around, inside_more c.in-Some.level (behind at (plain_view schema rows)) deep)))
    c.first_from.ensures.few
