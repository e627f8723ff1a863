use Rattle.std.proofs.Common.{◌≡◌, ℕ, true, false, not, List, Some, refl, sym, ap, ◌∙◌, arith}
use Rattle.std.specs.Prelude.{codes, nat_lt}
use Rattle.std.specs.List.{list_all}
use Rattle.std.proofs.lemmas.Bool.{le-ltb, lt-ltb}
use Rattle.hal_schema.specs.declared.row.Row.{Row}
use Rattle.hal_schema.specs.Insertion.{enters_freely, has_free_key}
use Rattle.dli_calls.specs.Changes.{need_of_insert, no_name}
use Rattle.call_changes.specs.Inserts.{enters_by, placed_below, row_below}
use Rattle.call_changes.specs.Outcome.{refused_with}
use Rattle.call_changes.proofs.Looking.{told_at, where_told}
use Rattle.call_changes.proofs.Placing.{enters_is, placed_is}
use Rattle.call_changes.proofs.insert.insert_below.Goals as goal

pub returns-then-branch-clause-placed : goal.returns-then-branch-clause-placed
returns-then-branch-clause-placed g c =
    let a = g.W.Walk.seen c.args.walk.now in
    let schema = c.args.schema.now in
    let session = c.args.session.now in
    let code = c.args.code in
    let parent = c.args.parent.now in
    let content = c.args.content in
    where_told a.forest (λ (rows : List Row). c.in_ok-refused.field-0 ≡ placed_below schema rows a.free session code parent content)
    (λ rows e. c.in_ok-refused.ensures
    ∙ placed_is schema rows a.free session code parent content true (not (list_all (enters_freely schema.types rows (row_below code parent content)) schema.indexes)) (nat_lt a.free (need_of_insert schema))
    (sym (told_at a.forest rows (λ (r : List Row). c.in_ok-has_equal_twin.field-0 ≡ not (has_free_key schema r (row_below code parent content))) e c.in_ok-has_equal_twin.ensures.has) ∙ c.if-branch.true) refl refl)

pub returns-then-not-branch-clause-placed : goal.returns-then-not-branch-clause-placed
returns-then-not-branch-clause-placed g c =
    let a = g.W.Walk.seen c.args.walk.now in
    let b = g.W.Walk.seen c.has_equal_twin.new.walk in
    let schema = c.args.schema.now in
    let session = c.args.session.now in
    let code = c.args.code in
    let parent = c.args.parent.now in
    let content = c.args.content in
    where_told a.forest (λ (rows : List Row). c.in_ok-refused-2.field-0 ≡ placed_below schema rows a.free session code parent content)
    (λ rows e. c.in_ok-refused-2.ensures
    ∙ placed_is schema rows a.free session code parent content false true (nat_lt a.free (need_of_insert schema))
    (sym (told_at a.forest rows (λ (r : List Row). c.in_ok-has_equal_twin.field-0 ≡ not (has_free_key schema r (row_below code parent content))) e c.in_ok-has_equal_twin.ensures.has) ∙ c.if-branch.false)
    (ap not (enters_is schema rows no_name code parent content (c.requires.below rows e).found
    ∙ ap (λ (keys : List ℕ). list_all (enters_by schema.types rows code keys content) schema.indexes) (sym c.in_ok-keys.ensures)
    ∙ sym (told_at b.forest rows (λ (r : List Row). c.in_ok-enters_all.field-0 ≡ list_all (enters_by schema.types r code c.in_ok-keys.keys content) schema.indexes) (c.has_equal_twin.ensures.looked.forest ∙ e) c.in_ok-enters_all.ensures.enters)
    ∙ c.if-not-branch.true)) refl)

pub returns-then-free-need-clause-placed : goal.returns-then-free-need-clause-placed
returns-then-free-need-clause-placed g c =
    let a = g.W.Walk.seen c.args.walk.now in
    let b = g.W.Walk.seen c.has_equal_twin.new.walk in
    let schema = c.args.schema.now in
    let session = c.args.session.now in
    let code = c.args.code in
    let parent = c.args.parent.now in
    let content = c.args.content in
    where_told a.forest (λ (rows : List Row). c.in_ok-refused_for_room.field-0 ≡ placed_below schema rows a.free session code parent content)
    (λ rows e. c.in_ok-refused_for_room.ensures ∙ ap (λ n. refused_with (codes "+R") (Some n) session) c.need_of_insert-need.ensures
    ∙ placed_is schema rows a.free session code parent content false false true
    (sym (told_at a.forest rows (λ (r : List Row). c.in_ok-has_equal_twin.field-0 ≡ not (has_free_key schema r (row_below code parent content))) e c.in_ok-has_equal_twin.ensures.has) ∙ c.if-branch.false)
    (ap not (enters_is schema rows no_name code parent content (c.requires.below rows e).found
    ∙ ap (λ (keys : List ℕ). list_all (enters_by schema.types rows code keys content) schema.indexes) (sym c.in_ok-keys.ensures)
    ∙ sym (told_at b.forest rows (λ (r : List Row). c.in_ok-enters_all.field-0 ≡ list_all (enters_by schema.types r code c.in_ok-keys.keys content) schema.indexes) (c.has_equal_twin.ensures.looked.forest ∙ e) c.in_ok-enters_all.ensures.enters)
    ∙ c.if-not-branch.false))
    (lt-ltb a.free (need_of_insert schema) (omega (arith, c.free.ensures, c.has_equal_twin.ensures.looked.free, c.enters_all.ensures.looked.free, c.if-free-need.true, c.need_of_insert-need.ensures))))

pub returns-clause-placed : goal.returns-clause-placed
returns-clause-placed g c =
    let a = g.W.Walk.seen c.args.walk.now in
    let b = g.W.Walk.seen c.has_equal_twin.new.walk in
    let schema = c.args.schema.now in
    let session = c.args.session.now in
    let code = c.args.code in
    let parent = c.args.parent.now in
    let content = c.args.content in
    where_told a.forest (λ (rows : List Row). c.in_ok-inserted.field-0 ≡ placed_below schema rows a.free session code parent content)
    (λ rows e. c.in_ok-inserted.ensures
    ∙ placed_is schema rows a.free session code parent content false false false
    (sym (told_at a.forest rows (λ (r : List Row). c.in_ok-has_equal_twin.field-0 ≡ not (has_free_key schema r (row_below code parent content))) e c.in_ok-has_equal_twin.ensures.has) ∙ c.if-branch.false)
    (ap not (enters_is schema rows no_name code parent content (c.requires.below rows e).found
    ∙ ap (λ (keys : List ℕ). list_all (enters_by schema.types rows code keys content) schema.indexes) (sym c.in_ok-keys.ensures)
    ∙ sym (told_at b.forest rows (λ (r : List Row). c.in_ok-enters_all.field-0 ≡ list_all (enters_by schema.types r code c.in_ok-keys.keys content) schema.indexes) (c.has_equal_twin.ensures.looked.forest ∙ e) c.in_ok-enters_all.ensures.enters)
    ∙ c.if-not-branch.false))
    (le-ltb a.free (need_of_insert schema) (omega (arith, c.free.ensures, c.has_equal_twin.ensures.looked.free, c.enters_all.ensures.looked.free, c.if-free-need.false, c.need_of_insert-need.ensures))))
