-- Forests that there are.
use Rattle.std.proofs.Common.{[], refl}
use Rattle.hal_schema.specs.declared.schema.IndexDef.{IndexDef}
use Rattle.hal_schema.specs.Forest.{entries_differ}
use Rattle.forest_laws.specs.Examples.{EmptyIsForest, IsExample}
use Rattle.forest_laws.proofs.Lists.{all_each}
use Rattle.forest_laws.proofs.Parents.{forest_from}

pub empty_is_forest : EmptyIsForest
empty_is_forest schema =
    forest_from schema []
    (record {
      named = refl;
      long = refl;
      placed = refl;
      types = refl;
      twins = refl;
      selected = refl;
      indexed = all_each (λ (index : IndexDef). entries_differ schema.types [] index) (λ index. refl) schema.indexes;
    })

pub example_is_forest : IsExample
example_is_forest = record { forest = refl; others = refl; come = refl; made = refl; cut = refl; may_change = refl; changed = refl; key_changed = refl; key_taken = refl }
