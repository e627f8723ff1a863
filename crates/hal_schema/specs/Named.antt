-- A raw definition whose own names (the database, RMNAME's module, the types, each index with its segment and its XDFLD) are plain, and whose fields' names are plain
-- or those of a portion of the concatenated key. Names that only point elsewhere (PARENT, an index's target and source, SRCH, SUBSEQ) aren't looked at: the rules of a definition do that.
use Rattle.std.specs.Prelude.{Bool, true, ◌&&◌}
use Rattle.std.specs.List.{list_all}
use Rattle.std.specs.Option.{option_map_or}
use Rattle.hal_base.specs.Name.{is_name, is_field_name}
use Rattle.hal_schema.specs.declared.raw.RawType.{RawType}
use Rattle.hal_schema.specs.declared.raw.RawIndex.{RawIndex}
use Rattle.hal_schema.specs.declared.raw.RawDbd.{RawDbd}
use Rattle.hal_schema.specs.declared.raw.RawParts.{RawParts}

abbrev pub raw_type_is_named : RawType → Bool
raw_type_is_named t = is_name t.name && list_all (λ f. is_field_name f.name) t.fields

abbrev pub raw_index_is_named : RawIndex → Bool
raw_index_is_named i = is_name i.seg && is_name i.name && is_name i.xdfld

abbrev pub dbd_is_named : RawDbd → Bool
dbd_is_named dbd = is_name dbd.name && option_map_or is_name dbd.rm true && list_all raw_type_is_named dbd.types && list_all raw_index_is_named dbd.indexes

abbrev pub parts_are_named : RawParts → Bool
parts_are_named parts = list_all (λ p. is_name p.name) parts.parts
