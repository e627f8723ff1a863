use Rattle.std.proofs.Common.{◌≡◌, ◌==◌, true, false, List, refl, sym, ◌∙◌, arith}
use Rattle.std.specs.Str.{bytes_eq}
use Rattle.std.proofs.lemmas.Bool.{and_parts, eqb-true}
use Rattle.hal_schema.specs.declared.row.Row.{Row}
use Rattle.hal_schema.specs.SegType.{key_in}
use Rattle.position_state.specs.declared.walk.WalkFault.TheVariants.{Failed}
use Rattle.position_state.specs.Looks.{first_behind, past}
use Rattle.position_state.specs.View.{behind}
use Rattle.call_gets.specs.Scan.{IsFound, plain_view}
use Rattle.call_gets.proofs.Looking.{on_one, on_then, on_as, ok_not_err, where_told, told_at, shows_for, stands_at, differ_told}
use Rattle.call_gets.proofs.Stepping.{place_of_found}
use Rattle.call_changes.specs.Inserts.{any_deep, is_keyed_so}
use Rattle.call_changes.proofs.Passing.{ChildrenLeft, children_begin, children_end, children_go, children_hit, children_low}
use Rattle.call_changes.proofs.twins.has_child_with.Goals as goal

pub after-requires-clause-there : goal.after-requires-clause-there
after-requires-clause-there g c =
    let a = g.W.Walk.seen c.args.walk.now in
    stands_at a a c.args.schema.now c.args.above.now.at refl refl c.requires.schema
    (λ rows e. place_of_found (plain_view c.args.schema.now rows) c.args.above.now (differ_told c.places_differ.ensures a c.args.schema.now rows (g.met.W.Walk.keeps_forest c.args.walk.now) c.requires.schema e) (c.requires.shown rows e))

pub loop-look-init : goal.loop-look-init
loop-look-init g c =
    let a = g.W.Walk.seen c.args.walk.now in
    let schema = c.args.schema.now in
    let above = c.args.above.now in
    record {
      live = c.after.ensures.looked.faults.alive (λ is. ok_not_err c.after.result c.in_ok-next.next Failed c.in_ok-next.was is);
      looked = on_as (on_one c.after.ensures.looked) (λ is. ok_not_err c.after.result c.in_ok-next.next Failed c.in_ok-next.was is) (λ never. absurd never);
      left = where_told a.forest (λ (rows : List Row). ChildrenLeft (plain_view schema rows) (is_keyed_so schema.types c.args.code c.args.key.now) above.level above.at c.in_ok-next.next)
          (λ rows e. children_begin (plain_view schema rows) (is_keyed_so schema.types c.args.code c.args.key.now) above.level above.at c.in_ok-next.next
          (differ_told c.places_differ.ensures a schema rows (g.met.W.Walk.keeps_forest c.args.walk.now) c.requires.schema e)
          (shows_for a a schema rows (first_behind above.at) c.in_ok-next.next refl refl c.requires.schema e c.in_ok-next.ensures.shows));
    }

pub returns-in_default-clause-has : goal.returns-in_default-clause-has
returns-in_default-clause-has g c =
    let a = g.W.Walk.seen c.args.walk.now in
    let i = c.loop-look.invariant in
    let schema = c.args.schema.now in
    let above = c.args.above.now in
    where_told a.forest (λ (rows : List Row). false ≡ any_deep above.level (is_keyed_so schema.types c.args.code c.args.key.now) (behind above.at (plain_view schema rows)))
    (λ rows e. children_end (plain_view schema rows) (is_keyed_so schema.types c.args.code c.args.key.now) above.level above.at c.loop-look.next
    (told_at a.forest rows (λ (r : List Row). ChildrenLeft (plain_view schema r) (is_keyed_so schema.types c.args.code c.args.key.now) above.level above.at c.loop-look.next) e i.left) c.in_default.is)

pub returns-then-spot-above-clause-has : goal.returns-then-spot-above-clause-has
returns-then-spot-above-clause-has g c =
    let a = g.W.Walk.seen c.args.walk.now in
    let i = c.loop-look.invariant in
    let schema = c.args.schema.now in
    let above = c.args.above.now in
    where_told a.forest (λ (rows : List Row). false ≡ any_deep above.level (is_keyed_so schema.types c.args.code c.args.key.now) (behind above.at (plain_view schema rows)))
    (λ rows e. children_low (plain_view schema rows) (is_keyed_so schema.types c.args.code c.args.key.now) above.level above.at c.loop-look.next c.in-Some.spot
    (told_at a.forest rows (λ (r : List Row). ChildrenLeft (plain_view schema r) (is_keyed_so schema.types c.args.code c.args.key.now) above.level above.at c.loop-look.next) e i.left) c.in-Some.is c.if-spot-above.true)

pub returns-then-is_keyed_so-clause-has : goal.returns-then-is_keyed_so-clause-has
returns-then-is_keyed_so-clause-has g c =
    let a = g.W.Walk.seen c.args.walk.now in
    let i = c.loop-look.invariant in
    let schema = c.args.schema.now in
    let above = c.args.above.now in
    where_told a.forest (λ (rows : List Row). true ≡ any_deep above.level (is_keyed_so schema.types c.args.code c.args.key.now) (behind above.at (plain_view schema rows)))
    (λ rows e. children_hit (plain_view schema rows) (is_keyed_so schema.types c.args.code c.args.key.now) above.level above.at c.loop-look.next c.in-Some.spot
    (told_at a.forest rows (λ (r : List Row). ChildrenLeft (plain_view schema r) (is_keyed_so schema.types c.args.code c.args.key.now) above.level above.at c.loop-look.next) e i.left) c.in-Some.is
    (omega (arith, c.if-spot-above.false)) (sym c.is_keyed_so.ensures ∙ c.if-is_keyed_so.true))

pub past-requires-clause-there : goal.past-requires-clause-there
past-requires-clause-there g c =
    let a = g.W.Walk.seen c.args.walk.now in
    let b = g.W.Walk.seen c.loop-look.walk in
    let i = c.loop-look.invariant in
    let schema = c.args.schema.now in
    let above = c.args.above.now in
    stands_at a b schema c.in-Some.spot.at i.looked.schema i.looked.forest c.requires.schema
    (λ rows e. place_of_found (plain_view schema rows) c.in-Some.spot (differ_told c.places_differ.ensures a schema rows (g.met.W.Walk.keeps_forest c.args.walk.now) c.requires.schema e)
    (told_at c.loop-look.next c.in-Some.spot (IsFound (plain_view schema rows)) c.in-Some.is
    (told_at a.forest rows (λ (r : List Row). ChildrenLeft (plain_view schema r) (is_keyed_so schema.types c.args.code c.args.key.now) above.level above.at c.loop-look.next) e i.left).found))

pub loop-look-preserved : goal.loop-look-preserved
loop-look-preserved g c =
    let a = g.W.Walk.seen c.args.walk.now in
    let b = g.W.Walk.seen c.loop-look.walk in
    let i = c.loop-look.invariant in
    let schema = c.args.schema.now in
    let above = c.args.above.now in
    let code = c.args.code in
    let key = c.args.key.now in
    record {
      live = c.past.ensures.looked.faults.alive (λ is. ok_not_err c.past.result c.in_ok-next-2.next Failed c.in_ok-next-2.was is);
      looked = on_as (on_then i.looked (on_one c.past.ensures.looked)) (λ is. ok_not_err c.past.result c.in_ok-next-2.next Failed c.in_ok-next-2.was is) (λ never. absurd never);
      left = where_told a.forest (λ (rows : List Row). ChildrenLeft (plain_view schema rows) (is_keyed_so schema.types code key) above.level above.at c.in_ok-next-2.next)
          (λ rows e. children_go schema.types (plain_view schema rows) code above.level (is_keyed_so schema.types code key) above.at c.loop-look.next c.in-Some.spot c.in_ok-next-2.next
          (record { differ = differ_told c.places_differ.ensures a schema rows (g.met.W.Walk.keeps_forest c.args.walk.now) c.requires.schema e; levels = c.levels_are_of_types.ensures schema rows })
          (record { level = c.requires.level rows e; only = λ z h. eqb-true z.code code (and_parts (z.code == code) (bytes_eq (key_in schema.types code z.content) key) h).0 })
          (told_at a.forest rows (λ (r : List Row). ChildrenLeft (plain_view schema r) (is_keyed_so schema.types code key) above.level above.at c.loop-look.next) e i.left) c.in-Some.is
          (omega (arith, c.if-spot-above.false)) (sym c.is_keyed_so.ensures ∙ c.if-is_keyed_so.false)
          (shows_for a b schema rows (past c.in-Some.spot) c.in_ok-next-2.next i.looked.schema i.looked.forest c.requires.schema e c.in_ok-next-2.ensures.shows));
    }
