use Rattle.std.proofs.Common.{rules, tests, sym, ◌∙◌}
use Rattle.std.proofs.lemmas.Iterator.{YieldsList-from_slice}
use Rattle.std.proofs.lemmas.Iterator.Search.{all_from_yields_List}
use Rattle.std.proofs.lemmas.List.Folds.{list_all-map}
use Rattle.hal_base.specs.Name.{upper}
use Rattle.call_text.specs.Words.{is_letter_or_digit}
use Rattle.call_text.proofs.words.all_letters_or_digits.Goals as goal

pub returns : goal.returns
returns c =
    all_from_yields_List (λ y. is_letter_or_digit (upper y)) _ _ c.all.result c.all.ensures.ran (YieldsList-from_slice c.args.text.now cc) (λ x b q k. search (rules, tests))
    ∙ sym (list_all-map is_letter_or_digit upper c.args.text.now)
