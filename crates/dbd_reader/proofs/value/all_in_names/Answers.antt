use Rattle.std.proofs.Common.{rules, tests, sym, ◌∙◌}
use Rattle.std.proofs.lemmas.Iterator.{YieldsList-from_slice}
use Rattle.std.proofs.lemmas.Iterator.Search.{all_from_yields_List}
use Rattle.std.proofs.lemmas.List.Folds.{list_all-map}
use Rattle.hal_base.specs.Name.{is_name_byte, upper}
use Rattle.dbd_reader.proofs.value.all_in_names.Goals as goal

pub returns : goal.returns
returns c =
    all_from_yields_List (λ y. is_name_byte (upper y)) _ _ c.all.result c.all.ensures.ran (YieldsList-from_slice c.args.text.now cc) (λ x b q k. search (rules, tests))
    ∙ sym (list_all-map is_name_byte upper c.args.text.now)
