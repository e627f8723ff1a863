use Rattle.std.proofs.Common.{◌≡◌, true, map, take}
use Rattle.std.specs.List.{list_all}
use Rattle.hal_base.specs.Name.{is_field_name, upper}
use Rattle.dbd_reader.proofs.field_value.fields_of.Given as goal

abbrev pub invariant-loop-item : goal.invariant-loop-item
invariant-loop-item l = record {
  names : l.names ≡ map (map upper) (take l.item-index l.items);
  all : list_all (λ name. is_field_name (map upper name)) (take l.item-index l.items) ≡ true;
}
