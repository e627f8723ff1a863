use Rattle.std.proofs.Common.{◌≡◌, ◌∙◌, ◌||◌, ap, ap₂, codes}
use Rattle.std.proofs.lemmas.Result.{IfOk-weaker}
use Rattle.clap.specs.Words.{App, app_of, new_app, with_rule, with_subcommand}
use Rattle.hal_desk.specs.Grammar.{required}
use Rattle.hal_desk.proofs.grammar.with_count.Goals as goal

pub returns : goal.returns
returns c =
    let one : app_of c.in_ok-row.row ≡ with_rule (new_app c.args.name.now) (required (codes "volume")) =
    c.in_ok-row.ensures.shape c.required.ensures.1 ∙ ap₂ with_rule c.new-row.ensures.app c.required.ensures.0 in
    let two : app_of c.in_ok-row-2.row ≡ with_rule (with_rule (new_app c.args.name.now) (required (codes "volume"))) (required (codes "count")) =
    c.in_ok-row-2.ensures.shape c.required-2.ensures.1 ∙ ap₂ with_rule one c.required-2.ensures.0 in
    let three : app_of c.in_ok-row-3.row
    ≡ with_rule (with_rule (with_rule (new_app c.args.name.now) (required (codes "volume"))) (required (codes "count"))) (required (codes "number")) =
    c.in_ok-row-3.ensures.shape c.required-3.ensures.1 ∙ ap₂ with_rule two c.required-3.ensures.0 in
    let global = c.in_ok-row.ensures.globals ∙ ap₂ ◌||◌ c.new-row.ensures.local c.required.ensures.1 in
    let global2 = c.in_ok-row-2.ensures.globals ∙ ap₂ ◌||◌ global c.required-2.ensures.1 in
    let global3 = c.in_ok-row-3.ensures.globals ∙ ap₂ ◌||◌ global2 c.required-3.ensures.1 in
    IfOk-weaker c.subcommand.result _ _ (λ r h. h.shape global3 ∙ ap (λ (a : App). with_subcommand (app_of c.args.command) a.top) three) c.subcommand.ensures
