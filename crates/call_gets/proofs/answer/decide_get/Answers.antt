use Rattle.std.proofs.Common.{◌≡◌, ℕ, ◌+◌, ◌≤◌, List, Option, sym, ap, ◌∙◌, arith}
use Rattle.std.specs.Prelude.{IfSome}
use Rattle.std.specs.Option.{option_map}
use Rattle.std.proofs.lemmas.Bool.{true≢false}
use Rattle.hal_schema.specs.declared.row.Row.{Row}
use Rattle.dli_calls.specs.declared.decision.Decision.{Decision}
use Rattle.dli_calls.specs.Decided.{decision_of, found}
use Rattle.dli_calls.specs.Gets.{got}
use Rattle.call_gets.specs.declared.scan.Met.{Met}
use Rattle.call_gets.specs.Keyed.{keyed_path, rows_under}
use Rattle.call_gets.specs.Scan.{LooksWithin, on_its_path, plain_view}
use Rattle.call_gets.specs.Shown.{given}
use Rattle.call_gets.proofs.Deciding.{only_get, decided_text, decided_content, decided_high, decided_none, decided_found, not_unseen}
use Rattle.call_gets.proofs.Finding.{if_ok, ok_any}
use Rattle.call_gets.proofs.ByKey.{keyed_unique}
use Rattle.call_gets.proofs.ByRecord.{path_is_unique, within_few}
use Rattle.call_gets.proofs.Giving.{given_none, given_some, found_alike}
use Rattle.call_gets.proofs.Looking.{where_told, told_at}
use Rattle.call_gets.specs.Below.{IsWithinParent}
use Rattle.call_gets.specs.Passed.{IsWithinPassed}
use Rattle.call_gets.proofs.Counting.{parent_few, parent_more, passed_more, passed_none}
use Rattle.call_gets.proofs.answer.decide_get.Goals as goal

pub returns-in-Some-clause-decided : goal.returns-in-Some-clause-decided
returns-in-Some-clause-decided g c =
    where_told (g.W.Walk.seen c.args.walk.now).forest (λ (rows : List Row). (free : ℕ) → c.in_ok-refused.field-0 ≡ decision_of c.args.schema.now rows free c.args.session.now c.args.call.now)
    (λ rows e free. decided_text c.args.schema.now rows free c.args.session.now c.args.call.now c.in-Some.status c.in_ok-refused.field-0 (sym c.text_refusal.ensures ∙ c.in-Some.is) c.in_ok-refused.ensures)

pub returns-then-is_some-clause-decided : goal.returns-then-is_some-clause-decided
returns-then-is_some-clause-decided g c =
    where_told (g.W.Walk.seen c.args.walk.now).forest (λ (rows : List Row). (free : ℕ) → c.in_ok-refused-2.field-0 ≡ decision_of c.args.schema.now rows free c.args.session.now c.args.call.now)
    (λ rows e free. decided_content c.args.schema.now rows free c.args.session.now c.args.call.now c.in_ok-refused-2.field-0
    (record { only = only_get c.args.call.now c.requires.get; plain = c.requires.plain; text = sym c.text_refusal.ensures ∙ c.in_default.is })
    (sym c.is_some.ensures ∙ c.if-is_some.true) c.in_ok-refused-2.ensures)

pub returns-then-branch-clause-decided : goal.returns-then-branch-clause-decided
returns-then-branch-clause-decided g c =
    where_told (g.W.Walk.seen c.args.walk.now).forest (λ (rows : List Row). (free : ℕ) → c.in_ok-refused-3.field-0 ≡ decision_of c.args.schema.now rows free c.args.session.now c.args.call.now)
    (λ rows e free. decided_high c.args.schema.now rows free c.args.session.now c.args.call.now c.in_ok-refused-3.field-0
    (record { only = only_get c.args.call.now c.requires.get; plain = c.requires.plain; text = sym c.text_refusal.ensures ∙ c.in_default.is })
    (sym c.is_some.ensures ∙ c.if-is_some.false) (sym c.in_ok-asks_for_high_root.ensures ∙ c.if-branch.true) c.in_ok-refused-3.ensures)

pub returns-in_ok-refused-in-None-clause-decided : goal.returns-in_ok-refused-in-None-clause-decided
returns-in_ok-refused-in-None-clause-decided g c =
    let a = g.W.Walk.seen c.args.walk.now in
    where_told a.forest (λ (rows : List Row). (free : ℕ) → c.in_ok-refused-in-None.field-0 ≡ decision_of c.args.schema.now rows free c.args.session.now c.args.call.now)
    (λ rows e free. decided_none c.args.schema.now rows free c.args.session.now c.args.call.now c.status_of_none.result c.in_ok-refused-in-None.field-0
    (record { only = only_get c.args.call.now c.requires.get; plain = c.requires.plain; text = sym c.text_refusal.ensures ∙ c.in_default.is })
    (sym c.is_some.ensures ∙ c.if-is_some.false) (sym c.in_ok-asks_for_high_root.ensures ∙ c.if-branch.false)
    (given_none c.args.schema.now c.args.call.now.ssas (got c.args.schema.now rows c.args.call.now c.args.session.now)
    (ap (λ (o : Option Met). option_map (given c.args.schema.now c.args.call.now.ssas) (option_map on_its_path o)) (sym c.in-None.is)
    ∙ told_at a.forest rows (λ (r : List Row). option_map (given c.args.schema.now c.args.call.now.ssas) (option_map on_its_path c.in_ok-got.field-0)
    ≡ option_map (given c.args.schema.now c.args.call.now.ssas) (got c.args.schema.now r c.args.call.now c.args.session.now)) e c.in_ok-got.ensures.got))
    c.status_of_none.ensures c.in_ok-refused-in-None.ensures)

pub returns-in-Some-2-clause-decided : goal.returns-in-Some-2-clause-decided
returns-in-Some-2-clause-decided g c =
    let a = g.W.Walk.seen c.args.walk.now in
    let b = g.W.Walk.seen c.got.new.walk in
    let schema = c.args.schema.now in
    let session = c.args.session.now in
    let call = c.args.call.now in
    if_ok c.found.result (λ (d : Decision). IfSome b.forest (λ (rows : List Row). d ≡ found schema rows session call (on_its_path c.in-Some-2.met)))
    (λ (d : Decision). IfSome a.forest (λ (rows : List Row). (free : ℕ) → d ≡ decision_of schema rows free session call))
    (λ d h. where_told a.forest (λ (rows : List Row). (free : ℕ) → d ≡ decision_of schema rows free session call)
    (λ rows e free.
    let same = given_some schema call.ssas (on_its_path c.in-Some-2.met) (got schema rows call session)
    (ap (λ (o : Option Met). option_map (given schema call.ssas) (option_map on_its_path o)) (sym c.in-Some-2.is)
    ∙ told_at a.forest rows (λ (r : List Row). option_map (given schema call.ssas) (option_map on_its_path c.in_ok-got.field-0) ≡ option_map (given schema call.ssas) (got schema r call session)) e c.in_ok-got.ensures.got) in
    decided_found schema rows free session call same.one d
    (record { only = only_get call c.requires.get; plain = c.requires.plain; text = sym c.text_refusal.ensures ∙ c.in_default.is })
    (sym c.is_some.ensures ∙ c.if-is_some.false) (sym c.in_ok-asks_for_high_root.ensures ∙ c.if-branch.false)
    same.is
    (told_at b.forest rows (λ (r : List Row). d ≡ found schema r session call (on_its_path c.in-Some-2.met)) (c.got.ensures.looked.forest ∙ e) h
    ∙ found_alike schema rows session call (on_its_path c.in-Some-2.met) same.one same.same)))
    c.found.ensures.found

-- without an SSA there are two looks at most

pub returns-in_ok-refused-in-None-clause-few : goal.returns-in_ok-refused-in-None-clause-few
returns-in_ok-refused-in-None-clause-few g c = λ e. omega (arith, c.got.ensures.few e)

pub returns-in-Some-2-clause-few : goal.returns-in-Some-2-clause-few
returns-in-Some-2-clause-few g c = λ e. omega (arith, c.got.ensures.few e, c.found.ensures.few)

-- a get by the root's key has one look at most

pub returns-in_ok-refused-in-None-clause-keyed : goal.returns-in_ok-refused-in-None-clause-keyed
returns-in_ok-refused-in-None-clause-keyed g c = λ e. c.got.ensures.keyed e

pub returns-in-Some-2-clause-keyed : goal.returns-in-Some-2-clause-keyed
returns-in-Some-2-clause-keyed g c = λ e. omega (arith, c.got.ensures.keyed e, c.found.ensures.unique (keyed_unique c.args.schema.now c.args.call.now e))

-- a get that goes on below the root of a key looks at one record

pub returns-in_ok-refused-in-None-clause-within : goal.returns-in_ok-refused-in-None-clause-within
returns-in_ok-refused-in-None-clause-within g c = c.got.ensures.within

pub returns-in-Some-2-clause-within : goal.returns-in-Some-2-clause-within
returns-in-Some-2-clause-within g c =
    let a = g.W.Walk.seen c.args.walk.now in
    let b = g.W.Walk.seen c.got.new.walk in
    let new = g.W.Walk.seen c.found.new.walk in
    let schema = c.args.schema.now in
    let call = c.args.call.now in
    where_told (keyed_path schema call) (λ (key : List ℕ). LooksWithin call.ssas a new (λ rows. 2 + rows_under key (plain_view schema rows)))
    (λ key e h. where_told a.forest (λ (rows : List Row). new.looks ≤ a.looks + (2 + rows_under key (plain_view schema rows)))
    (λ rows k. omega (
      arith,
      c.found.ensures.unique (path_is_unique schema call key e),
      told_at a.forest rows (λ (r : List Row). b.looks ≤ a.looks + (2 + rows_under key (plain_view schema r))) k
          (told_at (keyed_path schema call) key (λ (key : List ℕ). LooksWithin call.ssas a b (λ rows. 2 + rows_under key (plain_view schema rows))) e c.got.ensures.within h),
    )))

pub returns-in-Some-clause-within : goal.returns-in-Some-clause-within
returns-in-Some-clause-within g c = let a = g.W.Walk.seen c.args.walk.now in within_few c.args.schema.now c.args.call.now a a (omega arith)

pub returns-then-is_some-clause-within : goal.returns-then-is_some-clause-within
returns-then-is_some-clause-within g c = let a = g.W.Walk.seen c.args.walk.now in within_few c.args.schema.now c.args.call.now a a (omega arith)

pub returns-then-branch-clause-within : goal.returns-then-branch-clause-within
returns-then-branch-clause-within g c = let a = g.W.Walk.seen c.args.walk.now in within_few c.args.schema.now c.args.call.now a a (omega arith)

-- a GNP looks at its parent's record

pub returns-in_ok-refused-in-None-clause-below : goal.returns-in_ok-refused-in-None-clause-below
returns-in_ok-refused-in-None-clause-below g c =
    let b = g.W.Walk.seen c.got.new.walk in
    parent_more c.args.schema.now c.args.session.now c.args.call.now (g.W.Walk.seen c.args.walk.now) b b c.in_ok-got.ensures.below (omega arith)

pub returns-in-Some-2-clause-below : goal.returns-in-Some-2-clause-below
returns-in-Some-2-clause-below g c =
    let a = g.W.Walk.seen c.args.walk.now in
    let new = g.W.Walk.seen c.found.new.walk in
    ok_any c.found.result (λ d. IsWithinParent 6 c.args.schema.now c.args.session.now c.args.call.now a new)
    (λ d. parent_more c.args.schema.now c.args.session.now c.args.call.now a (g.W.Walk.seen c.got.new.walk) new c.in_ok-got.ensures.below c.found.ensures.few)

pub returns-in-Some-clause-below : goal.returns-in-Some-clause-below
returns-in-Some-clause-below g c = let a = g.W.Walk.seen c.args.walk.now in parent_few 6 c.args.schema.now c.args.session.now c.args.call.now a a (omega arith)

pub returns-then-is_some-clause-below : goal.returns-then-is_some-clause-below
returns-then-is_some-clause-below g c = let a = g.W.Walk.seen c.args.walk.now in parent_few 6 c.args.schema.now c.args.session.now c.args.call.now a a (omega arith)

pub returns-then-branch-clause-below : goal.returns-then-branch-clause-below
returns-then-branch-clause-below g c = let a = g.W.Walk.seen c.args.walk.now in parent_few 6 c.args.schema.now c.args.session.now c.args.call.now a a (omega arith)

-- a GU and a GN look at what they pass

pub returns-in_ok-refused-in-None-clause-passing : goal.returns-in_ok-refused-in-None-clause-passing
returns-in_ok-refused-in-None-clause-passing g c =
    let b = g.W.Walk.seen c.got.new.walk in
    passed_more c.args.schema.now c.args.session.now c.args.call.now (g.W.Walk.seen c.args.walk.now) b b c.in_ok-got.ensures.passing (omega arith)

pub returns-in-Some-2-clause-passing : goal.returns-in-Some-2-clause-passing
returns-in-Some-2-clause-passing g c =
    let a = g.W.Walk.seen c.args.walk.now in
    let new = g.W.Walk.seen c.found.new.walk in
    ok_any c.found.result (λ d. IsWithinPassed 4 c.args.schema.now c.args.session.now c.args.call.now a new)
    (λ d. passed_more c.args.schema.now c.args.session.now c.args.call.now a (g.W.Walk.seen c.got.new.walk) new c.in_ok-got.ensures.passing c.found.ensures.few)

pub returns-in-Some-clause-passing : goal.returns-in-Some-clause-passing
returns-in-Some-clause-passing g c = let a = g.W.Walk.seen c.args.walk.now in passed_none c.args.schema.now c.args.session.now c.args.call.now a a (omega arith)

pub returns-then-is_some-clause-passing : goal.returns-then-is_some-clause-passing
returns-then-is_some-clause-passing g c = let a = g.W.Walk.seen c.args.walk.now in passed_none c.args.schema.now c.args.session.now c.args.call.now a a (omega arith)

pub returns-then-branch-clause-passing : goal.returns-then-branch-clause-passing
returns-then-branch-clause-passing g c = let a = g.W.Walk.seen c.args.walk.now in passed_none c.args.schema.now c.args.session.now c.args.call.now a a (omega arith)

-- a call that comes to a look is not refused unseen

pub returns-in_ok-refused-in-None-clause-unseen : goal.returns-in_ok-refused-in-None-clause-unseen
returns-in_ok-refused-in-None-clause-unseen g c = λ e. absurd (true≢false (sym e ∙ not_unseen c.args.schema.now c.args.session.now c.args.call.now
    (record { only = only_get c.args.call.now c.requires.get; plain = c.requires.plain; text = sym c.text_refusal.ensures ∙ c.in_default.is })
    (sym c.is_some.ensures ∙ c.if-is_some.false) (sym c.in_ok-asks_for_high_root.ensures ∙ c.if-branch.false)))

pub returns-in-Some-2-clause-unseen : goal.returns-in-Some-2-clause-unseen
returns-in-Some-2-clause-unseen g c = λ e. absurd (true≢false (sym e ∙ not_unseen c.args.schema.now c.args.session.now c.args.call.now
    (record { only = only_get c.args.call.now c.requires.get; plain = c.requires.plain; text = sym c.text_refusal.ensures ∙ c.in_default.is })
    (sym c.is_some.ensures ∙ c.if-is_some.false) (sym c.in_ok-asks_for_high_root.ensures ∙ c.if-branch.false)))
