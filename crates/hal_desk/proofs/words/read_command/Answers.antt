use Rattle.std.proofs.Common.{◌≡◌, ◌∙◌, map, true}
use Rattle.std.specs.List.{list_all}
use Rattle.std.specs.String.{string_bytes}
use Rattle.std.proofs.lemmas.Result.{IfOk-weaker}
use Rattle.hal_desk.specs.Words.{is_word}
use Rattle.hal_desk.proofs.Parsed.{parsed_none, parsed_some}
use Rattle.hal_desk.proofs.words.read_command.Goals as goal

pub returns-in-Ok-None : goal.returns-in-Ok-None
returns-in-Ok-None c =
    let all : list_all is_word (map string_bytes c.args.words.now) ≡ true = cc in
    parsed_none (map string_bytes c.args.words.now) c.in-Ok-None.field-0 c.in-Ok-None.field-0-is c.in-Ok-None.ensures all

pub returns-in-Ok-Some : goal.returns-in-Ok-Some
returns-in-Ok-Some c =
    let all : list_all is_word (map string_bytes c.args.words.now) ≡ true = cc in
    IfOk-weaker c.of_matches.result _ _ (λ r e. e ∙ parsed_some (map string_bytes c.args.words.now)
    c.in-Ok-Some.field-0 c.in-Ok-Some.matches c.in-Ok-Some.field-0-is c.in-Ok-Some.ensures all) c.of_matches.ensures
