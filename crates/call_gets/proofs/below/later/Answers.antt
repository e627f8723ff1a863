use Rattle.std.proofs.Common.{◌≤◌, ◌+◌, List, Some, refl, sym, ◌∙◌}
use Rattle.hal_schema.specs.declared.row.Row.{Row}
use Rattle.position_state.specs.declared.walk.WalkFault.TheVariants.{Failed}
use Rattle.position_state.specs.View.{behind}
use Rattle.position_state.specs.Looks.{first_behind}
use Rattle.call_gets.specs.Scan.{inside_ahead, plain_view}
use Rattle.call_gets.proofs.Finds.{LaterFew, LaterLeft, few_begins, few_goes, few_left, later_begins, later_goes}
use Rattle.call_gets.proofs.Looking.{one_more, on_one, on_then, on_as, ok_not_err, where_told, told_at, shows_for, differ_told}
use Rattle.call_gets.proofs.below.later.Goals as goal

pub loop-look-init : goal.loop-look-init
loop-look-init g c =
    let a = g.W.Walk.seen c.args.walk.now in
    record {
      live = c.after.ensures.looked.faults.alive (λ is. ok_not_err c.after.result c.in_ok-next.next Failed c.in_ok-next.was is);
      looked = on_as (on_one c.after.ensures.looked) (λ is. ok_not_err c.after.result c.in_ok-next.next Failed c.in_ok-next.was is) (λ never. absurd never);
      few = where_told a.forest (λ (rows : List Row). LaterFew (plain_view a.schema rows) c.args.at.now c.in_ok-next.next a.looks (g.W.Walk.seen c.after.new.self).looks)
          (λ rows e. few_begins (plain_view a.schema rows) c.args.at.now c.in_ok-next.next a.looks (g.W.Walk.seen c.after.new.self).looks (differ_told c.places_differ.ensures a a.schema rows (g.met.W.Walk.keeps_forest c.args.walk.now) refl e)
          (shows_for a a a.schema rows (first_behind c.args.at.now) c.in_ok-next.next refl refl refl e c.in_ok-next.ensures.shows) (one_more c.after.ensures.looked));
      left = where_told a.forest (λ (rows : List Row). LaterLeft (plain_view a.schema rows) c.args.at.now c.args.place.now c.in_ok-next.next)
          (λ rows e. later_begins (plain_view a.schema rows) c.args.at.now c.args.place.now c.in_ok-next.next (differ_told c.places_differ.ensures a a.schema rows (g.met.W.Walk.keeps_forest c.args.walk.now) refl e)
          (shows_for a a a.schema rows (first_behind c.args.at.now) c.in_ok-next.next refl refl refl e c.in_ok-next.ensures.shows));
    }

pub loop-look-preserved : goal.loop-look-preserved
loop-look-preserved g c =
    let a = g.W.Walk.seen c.args.walk.now in
    let b = g.W.Walk.seen c.loop-look.walk in
    let i = c.loop-look.invariant in
    record {
      live = c.after-in-loop-look.ensures.looked.faults.alive (λ is. ok_not_err c.after-in-loop-look.result c.in_ok-next-2.next Failed c.in_ok-next-2.was is);
      looked = on_as (on_then i.looked (on_one c.after-in-loop-look.ensures.looked)) (λ is. ok_not_err c.after-in-loop-look.result c.in_ok-next-2.next Failed c.in_ok-next-2.was is) (λ never. absurd never);
      few = where_told a.forest (λ (rows : List Row). LaterFew (plain_view a.schema rows) c.args.at.now c.in_ok-next-2.next a.looks (g.W.Walk.seen c.after-in-loop-look.new.self).looks)
          (λ rows e. let view = plain_view a.schema rows in few_goes view c.args.at.now c.args.place.now c.loop-look.next c.in-Some.spot c.in_ok-next-2.next a.looks b.looks (g.W.Walk.seen c.after-in-loop-look.new.self).looks
          (differ_told c.places_differ.ensures a a.schema rows (g.met.W.Walk.keeps_forest c.args.walk.now) refl e)
          (told_at a.forest rows (λ (r : List Row). LaterLeft (plain_view a.schema r) c.args.at.now c.args.place.now c.loop-look.next) e i.left)
          (told_at a.forest rows (λ (r : List Row). LaterFew (plain_view a.schema r) c.args.at.now c.loop-look.next a.looks b.looks) e i.few) c.in-Some.is (sym c.is_inside.ensures ∙ c.if-not-is_inside.false)
          (shows_for a b a.schema rows (first_behind c.in-Some.spot.at) c.in_ok-next-2.next i.looked.schema i.looked.forest refl e c.in_ok-next-2.ensures.shows) (one_more c.after-in-loop-look.ensures.looked));
      left = where_told a.forest (λ (rows : List Row). LaterLeft (plain_view a.schema rows) c.args.at.now c.args.place.now c.in_ok-next-2.next)
          (λ rows e. later_goes (plain_view a.schema rows) c.args.at.now c.args.place.now c.loop-look.next c.in-Some.spot c.in_ok-next-2.next (differ_told c.places_differ.ensures a a.schema rows (g.met.W.Walk.keeps_forest c.args.walk.now) refl e)
          (told_at a.forest rows (λ (r : List Row). LaterLeft (plain_view a.schema r) c.args.at.now c.args.place.now c.loop-look.next) e i.left) c.in-Some.is (sym c.is_inside.ensures ∙ c.if-not-is_inside.false) (sym c.is_same_place.ensures ∙ c.if-is_same_place.false)
          (shows_for a b a.schema rows (first_behind c.in-Some.spot.at) c.in_ok-next-2.next i.looked.schema i.looked.forest refl e c.in_ok-next-2.ensures.shows));
    }

pub returns-in_default-clause-few : goal.returns-in_default-clause-few
returns-in_default-clause-few g c =
    let a = g.W.Walk.seen c.args.walk.now in
    let b = g.W.Walk.seen c.loop-look.walk in
    where_told a.forest (λ (rows : List Row). b.looks ≤ a.looks + (1 + inside_ahead (Some 1) (behind c.args.at.now (plain_view a.schema rows))))
    (λ rows e. few_left (plain_view a.schema rows) c.args.at.now c.loop-look.next a.looks b.looks (told_at a.forest rows (λ (r : List Row). LaterFew (plain_view a.schema r) c.args.at.now c.loop-look.next a.looks b.looks) e c.loop-look.invariant.few))

pub returns-then-not-is_inside-clause-few : goal.returns-then-not-is_inside-clause-few
returns-then-not-is_inside-clause-few g c =
    let a = g.W.Walk.seen c.args.walk.now in
    let b = g.W.Walk.seen c.loop-look.walk in
    where_told a.forest (λ (rows : List Row). b.looks ≤ a.looks + (1 + inside_ahead (Some 1) (behind c.args.at.now (plain_view a.schema rows))))
    (λ rows e. few_left (plain_view a.schema rows) c.args.at.now c.loop-look.next a.looks b.looks (told_at a.forest rows (λ (r : List Row). LaterFew (plain_view a.schema r) c.args.at.now c.loop-look.next a.looks b.looks) e c.loop-look.invariant.few))

pub returns-then-is_same_place-clause-few : goal.returns-then-is_same_place-clause-few
returns-then-is_same_place-clause-few g c =
    let a = g.W.Walk.seen c.args.walk.now in
    let b = g.W.Walk.seen c.loop-look.walk in
    where_told a.forest (λ (rows : List Row). b.looks ≤ a.looks + (1 + inside_ahead (Some 1) (behind c.args.at.now (plain_view a.schema rows))))
    (λ rows e. few_left (plain_view a.schema rows) c.args.at.now c.loop-look.next a.looks b.looks (told_at a.forest rows (λ (r : List Row). LaterFew (plain_view a.schema r) c.args.at.now c.loop-look.next a.looks b.looks) e c.loop-look.invariant.few))
