use Rattle.std.proofs.Common.{◌≡◌, ℕ, ◌+◌, ◌*◌, ◌==◌, Bool, true, false, cond, ◌&&◌, ◌||◌, length, List, Option, None, refl, sym, ap, subst, ◌∙◌, arith}
use Rattle.std.specs.Prelude.{find, IfSome}
use Rattle.std.specs.Option.{option_map}
use Rattle.std.proofs.lemmas.Bool.{true≢false, and_parts, or_from, or_parts}
use Rattle.hal_schema.specs.declared.row.Row.{Row}
use Rattle.call_text.specs.declared.line.Ssa.{Ssa}
use Rattle.position_state.specs.declared.session.Anchor.{Anchor}
use Rattle.position_state.specs.declared.session.Anchor.TheVariants.{Front}
use Rattle.position_state.specs.View.{view_of, is_place_of}
use Rattle.dli_calls.specs.Meets.{meets, on_paths}
use Rattle.dli_calls.specs.Gets.{got, is_next, is_unique, paths_behind}
use Rattle.call_gets.specs.Below.{IsWithinParent, rows_around}
use Rattle.call_gets.specs.Keyed.{keyed_path, rows_under}
use Rattle.call_gets.specs.Passed.{IsWithinPassed, LooksClimbing}
use Rattle.call_gets.specs.Scan.{IsGot, LooksWithin, met_below, on_its_path, plain_view}
use Rattle.call_gets.specs.Shown.{IsGiven, given}
use Rattle.call_gets.proofs.Looking.{where_told, told_at, stands_at}
use Rattle.call_gets.proofs.Finding.{if_ok, ok_any, got_unique, got_next, got_below, got_nowhere}
use Rattle.call_gets.proofs.ByKey.{not_keyed}
use Rattle.call_gets.proofs.ByRecord.{none_told, not_path, some_told, within_few}
use Rattle.call_gets.proofs.Counting.{parent_few}
use Rattle.call_gets.proofs.gets.got.Goals as goal

pub first_behind-requires-clause-there : goal.first_behind-requires-clause-there
first_behind-requires-clause-there g c =
    let a = g.W.Walk.seen c.args.walk.now in
    stands_at a a c.args.schema.now c.args.session.now.anchor refl refl c.requires.schema
    (λ rows e. ap (λ (o : Option _). is_place_of (view_of c.args.schema.now o rows) c.args.session.now.anchor) (sym c.requires.plain) ∙ (c.requires.stands rows e).anchor)

pub first_below-requires-clause-there : goal.first_below-requires-clause-there
first_below-requires-clause-there g c =
    let a = g.W.Walk.seen c.args.walk.now in
    stands_at a a c.args.schema.now c.args.session.now.anchor refl refl c.requires.schema
    (λ rows e. ap (λ (o : Option _). is_place_of (view_of c.args.schema.now o rows) c.args.session.now.anchor) (sym c.requires.plain) ∙ (c.requires.stands rows e).anchor)

pub returns-then-is_unique-clause-got : goal.returns-then-is_unique-clause-got
returns-then-is_unique-clause-got g c =
    let a = g.W.Walk.seen c.args.walk.now in
    let schema = c.args.schema.now in
    let call = c.args.call.now in
    if_ok c.first_of_all.result (IsGiven schema call.ssas a (λ view. find (meets schema None view call.ssas) (on_paths view)))
    (λ met. IfSome a.forest (λ (rows : List Row). option_map (given schema call.ssas) (option_map on_its_path met) ≡ option_map (given schema call.ssas) (got schema rows call c.args.session.now)))
    (λ met h. where_told a.forest (λ (rows : List Row). option_map (given schema call.ssas) (option_map on_its_path met) ≡ option_map (given schema call.ssas) (got schema rows call c.args.session.now))
    (λ rows k. told_at a.forest rows (λ (r : List Row). option_map (given schema call.ssas) (option_map on_its_path met) ≡ option_map (given schema call.ssas) (find (meets schema None (plain_view schema r) call.ssas) (on_paths (plain_view schema r)))) k h
    ∙ ap (option_map (given schema call.ssas)) (got_unique schema rows call c.args.session.now (find (meets schema None (plain_view schema rows) call.ssas) (on_paths (plain_view schema rows))) c.requires.plain (sym c.is_unique.ensures ∙ c.if-is_unique.true) refl)))
    c.first_of_all.ensures.got

pub returns-then-is_next-clause-got : goal.returns-then-is_next-clause-got
returns-then-is_next-clause-got g c =
    let a = g.W.Walk.seen c.args.walk.now in
    let schema = c.args.schema.now in
    let call = c.args.call.now in
    let at = c.args.session.now.anchor in
    if_ok c.first_behind.result (IsGiven schema c.as_slice-ssas.result.now a (λ view. find (meets schema None view c.as_slice-ssas.result.now) (paths_behind at (on_paths view))))
    (λ met. IfSome a.forest (λ (rows : List Row). option_map (given schema call.ssas) (option_map on_its_path met) ≡ option_map (given schema call.ssas) (got schema rows call c.args.session.now)))
    (λ met h. where_told a.forest (λ (rows : List Row). option_map (given schema call.ssas) (option_map on_its_path met) ≡ option_map (given schema call.ssas) (got schema rows call c.args.session.now))
    (λ rows k. subst (λ (ssas : List Ssa). option_map (given schema ssas) (option_map on_its_path met) ≡ option_map (given schema ssas) (find (meets schema None (plain_view schema rows) ssas) (paths_behind at (on_paths (plain_view schema rows))))) c.as_slice-ssas.ensures
    (told_at a.forest rows (λ (r : List Row). option_map (given schema c.as_slice-ssas.result.now) (option_map on_its_path met) ≡ option_map (given schema c.as_slice-ssas.result.now) (find (meets schema None (plain_view schema r) c.as_slice-ssas.result.now) (paths_behind at (on_paths (plain_view schema r))))) k h)
    ∙ ap (option_map (given schema call.ssas)) (got_next schema rows call c.args.session.now (find (meets schema None (plain_view schema rows) call.ssas) (paths_behind at (on_paths (plain_view schema rows)))) c.requires.plain (sym c.is_unique.ensures ∙ c.if-is_unique.false) (sym c.is_next.ensures ∙ c.if-is_next.true) refl)))
    c.first_behind.ensures.got

pub returns-in-None-clause-got : goal.returns-in-None-clause-got
returns-in-None-clause-got g c =
    let given_of = option_map (given c.args.schema.now c.args.call.now.ssas) in
    where_told (g.W.Walk.seen c.args.walk.now).forest (λ (rows : List Row). None ≡ given_of (got c.args.schema.now rows c.args.call.now c.args.session.now))
    (λ rows k. ap given_of (got_nowhere c.args.schema.now rows c.args.call.now c.args.session.now c.requires.plain (sym c.is_unique.ensures ∙ c.if-is_unique.false) (sym c.is_next.ensures ∙ c.if-is_next.false) c.in-None.is))

pub returns-in-Some-clause-got : goal.returns-in-Some-clause-got
returns-in-Some-clause-got g c =
    let a = g.W.Walk.seen c.args.walk.now in
    let schema = c.args.schema.now in
    let call = c.args.call.now in
    let at = c.args.session.now.anchor in
    let parent = c.in-Some.parent in
    if_ok c.first_below.result (IsGot schema a (met_below schema c.as_slice-ssas.result.now at parent))
    (λ met. IfSome a.forest (λ (rows : List Row). option_map (given schema call.ssas) (option_map on_its_path met) ≡ option_map (given schema call.ssas) (got schema rows call c.args.session.now)))
    (λ met h. where_told a.forest (λ (rows : List Row). option_map (given schema call.ssas) (option_map on_its_path met) ≡ option_map (given schema call.ssas) (got schema rows call c.args.session.now))
    (λ rows k. ap (option_map (given schema call.ssas)) (got_below schema rows call c.args.session.now parent (option_map on_its_path met) c.requires.plain (sym c.is_unique.ensures ∙ c.if-is_unique.false) (sym c.is_next.ensures ∙ c.if-is_next.false) c.in-Some.is
    (told_at a.forest rows (λ (r : List Row). option_map on_its_path met ≡ met_below schema c.as_slice-ssas.result.now at parent (plain_view schema r)) k h
    ∙ ap (λ (ssas : List Ssa). met_below schema ssas at parent (plain_view schema rows)) c.as_slice-ssas.ensures))))
    c.first_below.ensures.got

-- without an SSA it is one look

none_of : (u n b : Bool) → (u || n) && b ≡ true → u ≡ false → n ≡ false → ⊥
none_of u n b e uf nf = true≢false (sym (and_parts (u || n) b e).0 ∙ or_from u n uf nf)

pub returns-then-is_unique-clause-few : goal.returns-then-is_unique-clause-few
returns-then-is_unique-clause-few g c = λ e.
    let call = c.args.call.now in
    c.first_of_all.ensures.few (and_parts (is_unique call || is_next call) (length call.ssas == 0) e).1

pub returns-then-is_next-clause-few : goal.returns-then-is_next-clause-few
returns-then-is_next-clause-few g c = λ e.
    let call = c.args.call.now in
    c.first_behind.ensures.few (ap (λ (ssas : List Ssa). length ssas == 0) c.as_slice-ssas.ensures ∙ (and_parts (is_unique call || is_next call) (length call.ssas == 0) e).1)

pub returns-in-None-clause-few : goal.returns-in-None-clause-few
returns-in-None-clause-few g c = λ e.
    absurd (none_of (is_unique c.args.call.now) (is_next c.args.call.now) (length c.args.call.now.ssas == 0) e (sym c.is_unique.ensures ∙ c.if-is_unique.false) (sym c.is_next.ensures ∙ c.if-is_next.false))

pub returns-in-Some-clause-few : goal.returns-in-Some-clause-few
returns-in-Some-clause-few g c = λ e.
    absurd (none_of (is_unique c.args.call.now) (is_next c.args.call.now) (length c.args.call.now.ssas == 0) e (sym c.is_unique.ensures ∙ c.if-is_unique.false) (sym c.is_next.ensures ∙ c.if-is_next.false))

pub returns-then-is_next-clause-keyed : goal.returns-then-is_next-clause-keyed
returns-then-is_next-clause-keyed g c = λ e. absurd (true≢false (sym e ∙ not_keyed c.args.schema.now c.args.call.now (sym c.is_unique.ensures ∙ c.if-is_unique.false)))

pub returns-in-None-clause-keyed : goal.returns-in-None-clause-keyed
returns-in-None-clause-keyed g c = λ e. absurd (true≢false (sym e ∙ not_keyed c.args.schema.now c.args.call.now (sym c.is_unique.ensures ∙ c.if-is_unique.false)))

pub returns-in-Some-clause-keyed : goal.returns-in-Some-clause-keyed
returns-in-Some-clause-keyed g c = λ e. absurd (true≢false (sym e ∙ not_keyed c.args.schema.now c.args.call.now (sym c.is_unique.ensures ∙ c.if-is_unique.false)))

pub returns-then-is_unique-clause-keyed : goal.returns-then-is_unique-clause-keyed
returns-then-is_unique-clause-keyed g c = λ e. c.first_of_all.ensures.keyed e

pub returns-then-is_next-clause-within : goal.returns-then-is_next-clause-within
returns-then-is_next-clause-within g c =
    none_told (keyed_path c.args.schema.now c.args.call.now)
    (λ (key : List ℕ). LooksWithin c.args.call.now.ssas (g.W.Walk.seen c.args.walk.now) (g.W.Walk.seen c.first_behind.new.walk) (λ rows. 2 + rows_under key (plain_view c.args.schema.now rows)))
    (not_path c.args.schema.now c.args.call.now (sym c.is_unique.ensures ∙ c.if-is_unique.false))

pub returns-in-None-clause-within : goal.returns-in-None-clause-within
returns-in-None-clause-within g c = let a = g.W.Walk.seen c.args.walk.now in within_few c.args.schema.now c.args.call.now a a (omega arith)

pub returns-in-Some-clause-within : goal.returns-in-Some-clause-within
returns-in-Some-clause-within g c =
    none_told (keyed_path c.args.schema.now c.args.call.now)
    (λ (key : List ℕ). LooksWithin c.args.call.now.ssas (g.W.Walk.seen c.args.walk.now) (g.W.Walk.seen c.first_below.new.walk) (λ rows. 2 + rows_under key (plain_view c.args.schema.now rows)))
    (not_path c.args.schema.now c.args.call.now (sym c.is_unique.ensures ∙ c.if-is_unique.false))

-- a GNP looks at its parent's record

pub returns-then-is_unique-clause-below : goal.returns-then-is_unique-clause-below
returns-then-is_unique-clause-below g c =
    let call = c.args.call.now in
    ok_any c.first_of_all.result (λ met. IsWithinParent 5 c.args.schema.now c.args.session.now call (g.W.Walk.seen c.args.walk.now) (g.W.Walk.seen c.first_of_all.new.walk))
    (λ met e. absurd (true≢false (sym (sym c.is_unique.ensures ∙ c.if-is_unique.true) ∙ (or_parts (is_unique call) (is_next call) e).0)))

pub returns-then-is_next-clause-below : goal.returns-then-is_next-clause-below
returns-then-is_next-clause-below g c =
    let call = c.args.call.now in
    ok_any c.first_behind.result (λ met. IsWithinParent 5 c.args.schema.now c.args.session.now call (g.W.Walk.seen c.args.walk.now) (g.W.Walk.seen c.first_behind.new.walk))
    (λ met e. absurd (true≢false (sym (sym c.is_next.ensures ∙ c.if-is_next.true) ∙ (or_parts (is_unique call) (is_next call) e).1)))

pub returns-in-None-clause-below : goal.returns-in-None-clause-below
returns-in-None-clause-below g c =
    let a = g.W.Walk.seen c.args.walk.now in parent_few 5 c.args.schema.now c.args.session.now c.args.call.now a a (omega arith)

pub returns-in-Some-clause-below : goal.returns-in-Some-clause-below
returns-in-Some-clause-below g c =
    let a = g.W.Walk.seen c.args.walk.now in
    let new = g.W.Walk.seen c.first_below.new.walk in
    let schema = c.args.schema.now in
    let parent = c.in-Some.parent in
    if_ok c.first_below.result (λ met. LooksWithin c.as_slice-ssas.result.now a new (λ rows. 5 + 2 * rows_around parent (plain_view schema rows)))
    (λ met. IsWithinParent 5 schema c.args.session.now c.args.call.now a new)
    (λ met few e. some_told c.args.session.now.parent parent (λ parent. LooksWithin c.args.call.now.ssas a new (λ rows. 5 + 2 * rows_around parent (plain_view schema rows))) c.in-Some.is
    (subst (λ (ssas : List Ssa). LooksWithin ssas a new (λ rows. 5 + 2 * rows_around parent (plain_view schema rows))) c.as_slice-ssas.ensures few))
    c.first_below.ensures.few

-- a GU and a GN look at what they pass

pub returns-then-is_unique-clause-passing : goal.returns-then-is_unique-clause-passing
returns-then-is_unique-clause-passing g c =
    let a = g.W.Walk.seen c.args.walk.now in
    let new = g.W.Walk.seen c.first_of_all.new.walk in
    let schema = c.args.schema.now in
    let call = c.args.call.now in
    let session = c.args.session.now in
    if_ok c.first_of_all.result (λ met. keyed_path schema call ≡ None → LooksClimbing 3 schema call.ssas Front a new) (λ met. IsWithinPassed 3 schema session call a new)
    (λ met few e off. subst (λ (at : Anchor). LooksClimbing 3 schema call.ssas at a new) (ap (λ b. cond b Front session.anchor) (sym (sym c.is_unique.ensures ∙ c.if-is_unique.true))) (few off))
    c.first_of_all.ensures.passing

pub returns-then-is_next-clause-passing : goal.returns-then-is_next-clause-passing
returns-then-is_next-clause-passing g c =
    let a = g.W.Walk.seen c.args.walk.now in
    let new = g.W.Walk.seen c.first_behind.new.walk in
    let schema = c.args.schema.now in
    let call = c.args.call.now in
    let session = c.args.session.now in
    if_ok c.first_behind.result (λ met. LooksClimbing 3 schema c.as_slice-ssas.result.now session.anchor a new) (λ met. IsWithinPassed 3 schema session call a new)
    (λ met few e off. subst (λ (at : Anchor). LooksClimbing 3 schema call.ssas at a new) (ap (λ b. cond b Front session.anchor) (sym (sym c.is_unique.ensures ∙ c.if-is_unique.false)))
    (subst (λ (ssas : List Ssa). LooksClimbing 3 schema ssas session.anchor a new) c.as_slice-ssas.ensures few))
    c.first_behind.ensures.passing

pub returns-in-None-clause-passing : goal.returns-in-None-clause-passing
returns-in-None-clause-passing g c = λ e.
    let call = c.args.call.now in
    absurd (true≢false (sym e ∙ or_from (is_unique call) (is_next call) (sym c.is_unique.ensures ∙ c.if-is_unique.false) (sym c.is_next.ensures ∙ c.if-is_next.false)))

pub returns-in-Some-clause-passing : goal.returns-in-Some-clause-passing
returns-in-Some-clause-passing g c =
    let call = c.args.call.now in
    ok_any c.first_below.result (λ met. IsWithinPassed 3 c.args.schema.now c.args.session.now call (g.W.Walk.seen c.args.walk.now) (g.W.Walk.seen c.first_below.new.walk))
    (λ met e. absurd (true≢false (sym e ∙ or_from (is_unique call) (is_next call) (sym c.is_unique.ensures ∙ c.if-is_unique.false) (sym c.is_next.ensures ∙ c.if-is_next.false))))
