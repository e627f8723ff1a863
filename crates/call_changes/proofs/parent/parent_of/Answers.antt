use Rattle.std.proofs.Common.{◌≡◌, List, Option, None, length, sym, ap, ◌∙◌}
use Rattle.std.specs.Prelude.{find, IfSome}
use Rattle.std.specs.Option.{option_map}
use Rattle.hal_schema.specs.declared.row.Row.{Row}
use Rattle.call_text.specs.declared.line.Ssa.{Ssa}
use Rattle.position_state.specs.declared.spot.Spot.{Spot}
use Rattle.dli_calls.specs.Changes.{all_but_last, parent_by_anchor}
use Rattle.dli_calls.specs.Gets.{OnPath}
use Rattle.dli_calls.specs.Meets.{meets, on_paths}
use Rattle.call_changes.specs.Inserts.{wanted_parent}
use Rattle.call_gets.specs.Scan.{plain_view}
use Rattle.call_changes.proofs.Looking.{if_ok, told_at, where_told}
use Rattle.call_changes.proofs.Parenting.{wanted_lone, wanted_path, wanted_root}
use Rattle.call_changes.proofs.parent.parent_of.Goals as goal

pub returns-then-code-eq1-clause-parent : goal.returns-then-code-eq1-clause-parent
returns-then-code-eq1-clause-parent g c =
    let a = g.W.Walk.seen c.args.walk.now in
    where_told a.forest (λ (rows : List Row). None ≡ wanted_parent c.args.schema.now rows c.args.call.now c.args.session.now)
    (λ rows e. wanted_root c.args.schema.now rows c.args.session.now c.args.call.now c.args.code c.requires.code c.if-code-eq1.true)

pub returns-then-ssas-eq1-clause-parent : goal.returns-then-ssas-eq1-clause-parent
returns-then-ssas-eq1-clause-parent g c =
    let a = g.W.Walk.seen c.args.walk.now in
    let schema = c.args.schema.now in
    let session = c.args.session.now in
    let call = c.args.call.now in
    if_ok c.parent_by_anchor.result (λ (o : Option Spot). IfSome a.forest (λ (rows : List Row). o ≡ parent_by_anchor schema rows c.args.code session))
    (λ (o : Option Spot). IfSome a.forest (λ (rows : List Row). o ≡ wanted_parent schema rows call session))
    (λ o h. where_told a.forest (λ (rows : List Row). o ≡ wanted_parent schema rows call session)
    (λ rows e. told_at a.forest rows (λ (r : List Row). o ≡ parent_by_anchor schema r c.args.code session) e h
    ∙ wanted_lone schema rows session call c.args.code c.requires.code c.if-code-eq1.false (ap (λ (l : List Ssa). length l) (sym c.as_slice-ssas.ensures) ∙ c.if-ssas-eq1.true)))
    c.parent_by_anchor.ensures.parent

pub returns-clause-parent : goal.returns-clause-parent
returns-clause-parent g c =
    let a = g.W.Walk.seen c.args.walk.now in
    let schema = c.args.schema.now in
    let session = c.args.session.now in
    let call = c.args.call.now in
    let ssas = c.all_but_last.result.now in
    if_ok c.first_that_meets.result (λ (o : Option Spot). IfSome a.forest (λ (rows : List Row). o ≡ option_map (λ (p : OnPath). p.1) (find (meets schema None (plain_view schema rows) ssas) (on_paths (plain_view schema rows)))))
    (λ (o : Option Spot). IfSome a.forest (λ (rows : List Row). o ≡ wanted_parent schema rows call session))
    (λ o h. where_told a.forest (λ (rows : List Row). o ≡ wanted_parent schema rows call session)
    (λ rows e. told_at a.forest rows (λ (r : List Row). o ≡ option_map (λ (p : OnPath). p.1) (find (meets schema None (plain_view schema r) ssas) (on_paths (plain_view schema r)))) e h
    ∙ ap (λ (l : List Ssa). option_map (λ (p : OnPath). p.1) (find (meets schema None (plain_view schema rows) l) (on_paths (plain_view schema rows)))) (c.all_but_last.ensures ∙ ap all_but_last c.as_slice-ssas.ensures)
    ∙ wanted_path schema rows session call c.args.code c.requires.code c.if-code-eq1.false (λ one. c.if-ssas-eq1.false (ap (λ (l : List Ssa). length l) c.as_slice-ssas.ensures ∙ one))))
    c.first_that_meets.ensures.met
