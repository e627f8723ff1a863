use Rattle.std.proofs.Common.{◌≡◌}
use Rattle.std.specs.declared.cmp.Ordering.{Ordering}
use Rattle.std.specs.declared.cmp.Ordering.TheVariants.{Less, Equal, Greater}
use Rattle.std.specs.Ordering.{ordering_then, nat_cmp}
use Rattle.std.specs.FinMap.{slice_cmp-IsAntisymmetric, nat_cmp-IsAntisymmetric}
use Rattle.std.proofs.lemmas.Cmp.{then_total, on_total, nat_cmp_total, nat_list_cmp_total}
use Rattle.hal_schema.specs.Roots.{partition_place, anchor_place}
use Rattle.hal_schema.specs.Keys.{key_cmp}
use Rattle.hal_schema.proofs.roots.root_order_is_total.Goals as goal

pub returns-clause-total : goal.returns-clause-total
returns-clause-total c = λ schema.
    then_total (on_total (partition_place schema) nat_cmp_total) (then_total (on_total (anchor_place schema) nat_cmp_total) nat_list_cmp_total)

second_equal : (o p : Ordering) → ordering_then o p ≡ Equal → p ≡ Equal
second_equal Less p e = cc
second_equal Equal p e = e
second_equal Greater p e = cc

pub returns-clause-exact : goal.returns-clause-exact
returns-clause-exact c = λ schema a b e.
    slice_cmp-IsAntisymmetric nat_cmp-IsAntisymmetric a b
    (second_equal (nat_cmp (anchor_place schema a) (anchor_place schema b)) (key_cmp a b)
    (second_equal (nat_cmp (partition_place schema a) (partition_place schema b)) (ordering_then (nat_cmp (anchor_place schema a) (anchor_place schema b)) (key_cmp a b)) e))
