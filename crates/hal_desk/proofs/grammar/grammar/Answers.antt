use Rattle.std.proofs.Common.{◌∙◌, ap, codes, true, ℕ, List}
use Rattle.std.proofs.lemmas.Result.{IfOk-weaker}
use Rattle.clap.specs.Words.{App, Shape, with_subcommand}
use Rattle.clap.specs.Simple.{app_of_fields, on_top}
use Rattle.hal_desk.specs.Grammar.{count_row, part_row, volume_row}
use Rattle.hal_desk.proofs.grammar.grammar.Goals as goal

abbrev volume : List ℕ → App → App
volume name a = with_subcommand a (volume_row name)

pub returns : goal.returns
returns c =
    let one = ap app_of_fields c.no_binary_name.ensures ∙ ap (on_top (λ (s : Shape). record s { no_binary_name = true })) c.new.ensures.app in
    let two = ap app_of_fields c.disable_help_flag.ensures ∙ ap (on_top (λ (s : Shape). record s { disable_help_flag = true })) one in
    let three = ap app_of_fields c.disable_help_subcommand.ensures ∙ ap (on_top (λ (s : Shape). record s { disable_help_subcommand = true })) two in
    let four = ap app_of_fields c.subcommand_required-command.ensures ∙ ap (on_top (λ (s : Shape). record s { subcommand_required = true })) three in
    let a = c.in_ok-command.ensures ∙ ap (volume (codes "define")) four in
    let b = c.in_ok-command-2.ensures ∙ ap (volume (codes "load")) a in
    let d = c.in_ok-command-3.ensures ∙ ap (volume (codes "unload")) b in
    let e = c.in_ok-command-4.ensures ∙ ap (volume (codes "call")) d in
    let f = c.in_ok-command-5.ensures ∙ ap (volume (codes "report")) e in
    let g = c.in_ok-command-6.ensures ∙ ap (λ (x : App). with_subcommand x (part_row (codes "reorg"))) f in
    let h = c.in_ok-command-7.ensures ∙ ap (λ (x : App). with_subcommand x (count_row (codes "make"))) g in
    IfOk-weaker c.with_count-2.result _ _ (λ r i. i ∙ ap (λ (x : App). with_subcommand x (count_row (codes "exercise"))) h) c.with_count-2.ensures
