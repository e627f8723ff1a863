use Rattle.std.proofs.Common.{ap, sym, ◌∙◌}
use Rattle.std.specs.String.{string_bytes}
use Rattle.hal_desk.specs.Words.{is_word}
use Rattle.hal_desk.proofs.WordLemmas.{one_fails}
use Rattle.hal_desk.proofs.words.are_words.Goals as goal

pub returns-then-not-is_word : goal.returns-then-not-is_word
returns-then-not-is_word c =
    one_fails is_word string_bytes c.args.words.now c.loop-word.word-index c.word-item.result c.loop-word-test.true c.word-item.is
    (ap is_word (sym c.as_bytes.ensures.value) ∙ sym c.is_word.ensures ∙ c.if-not-is_word.true)
