use Rattle.std.proofs.Common.{◌≡◌, ◌∙◌, ap, map, sym}
use Rattle.std.specs.String.{string_bytes}
use Rattle.clap.specs.Words.{App, app_of, fault_of, is_simple, is_simple_and_free, subcommand_of}
use Rattle.hal_desk.specs.Grammar.{grammar}
use Rattle.hal_desk.proofs.Parsed.{is_free, not_memory}
use Rattle.hal_desk.proofs.grammar.parse.Goals as goal

pub returns-in-Ok-try_get_matches_from : goal.returns-in-Ok-try_get_matches_from
returns-in-Ok-try_get_matches_from c =
    let words = map string_bytes c.args.words.now in
    let is : app_of c.in-Ok.grammar ≡ grammar = c.in-Ok.ensures in (
      ap (λ (a : App). fault_of a words) (sym is) ∙ c.in-Ok-try_get_matches_from.ensures.kinds (ap is_simple_and_free is ∙ is_free),
      (c.in-Ok-try_get_matches_from.ensures.matches (ap is_simple is)).1 ∙ ap (λ (a : App). subcommand_of a words) is,
    )

pub returns : goal.returns
returns c =
    let words = map string_bytes c.args.words.now in
    let is : app_of c.in-Ok.grammar ≡ grammar = c.in-Ok.ensures in
    λ e. not_memory (fault_of (app_of c.in-Ok.grammar) words) c.in-Err-try_get_matches_from.error
    (c.in-Err-try_get_matches_from.ensures.kinds (ap is_simple_and_free is ∙ is_free))
    (λ m. c.in_default.not-OutOfMemory (c.kind.ensures ∙ m)) (ap (λ (a : App). fault_of a words) is ∙ e)
