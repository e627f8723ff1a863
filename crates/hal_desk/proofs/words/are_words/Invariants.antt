use Rattle.std.proofs.Common.{◌≡◌, map, take, true}
use Rattle.std.specs.List.{list_all}
use Rattle.std.specs.String.{string_bytes}
use Rattle.hal_desk.specs.Words.{is_word}
use Rattle.hal_desk.proofs.words.are_words.Given as goal

abbrev pub invariant-loop-word : goal.invariant-loop-word
invariant-loop-word l = list_all is_word (map string_bytes (take l.word-index l.words)) ≡ true
