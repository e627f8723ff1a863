use Rattle.std.proofs.Common.{rules, ◌≡◌, map, Some, None}
use Rattle.std.specs.String.{string_bytes}
use Rattle.hal_desk.specs.Words.{command_of}
use Rattle.hal_desk.proofs.Commands.{nothing_done, ends_well, same_did, same_well}
use Rattle.hal_desk.proofs.desk.run.Goals as goal

pub returns-in-Err-clause-did : goal.returns-in-Err-clause-did
returns-in-Err-clause-did g c = nothing_done _ _

pub returns-in-Ok-None-clause-did : goal.returns-in-Ok-None-clause-did
returns-in-Ok-None-clause-did g c =
    let e : None ≡ command_of (map string_bytes c.args.words.now) = search rules in
    same_did None _ _ _ _ e c.say_line.ensures.says

pub returns-in-Ok-Some-clause-complete : goal.returns-in-Ok-Some-clause-complete
returns-in-Ok-Some-clause-complete g c = λ text tells within reads says.
    let e : Some c.in-Ok-Some.command ≡ command_of (map string_bytes c.args.words.now) = search rules in
    same_well (Some c.in-Ok-Some.command) _ _ e (ends_well (Some c.in-Ok-Some.command) _ _ _ text c.obey.ensures.did tells within reads says)
