-- What a schema keeps of its names, one by one.
use Rattle.std.proofs.Common.{true, ◌&&◌, IsTrue}
use Rattle.std.specs.List.{list_all}
use Rattle.std.specs.Option.{option_map_or}
use Rattle.std.proofs.lemmas.Bool.{and_parts}
use Rattle.hal_base.specs.Name.{is_name}
use Rattle.hal_schema.specs.declared.schema.PartDef.{PartDef}
use Rattle.hal_schema.specs.declared.schema.Schema.{Schema}
use Rattle.hal_schema.specs.Lawful.{type_is_named, index_is_named, module_is_kept}

pub record IsPlain (s : Schema) : Type 0 where
  pub name : IsTrue (is_name s.name)
  pub rm : IsTrue (option_map_or is_name s.rm true)
  pub types : IsTrue (list_all type_is_named s.types)
  pub indexes : IsTrue (list_all index_is_named s.indexes)
  pub module_kept : IsTrue (module_is_kept s.phdam s.rm s.anch s.rbn)

pub plain : (s : Schema) → IsPlain s
plain s =
    let parts = list_all (λ (p : PartDef). is_name p.name) s.parts in
    let indexes = list_all index_is_named s.indexes in
    let types = list_all type_is_named s.types in
    let rm = option_map_or is_name s.rm true in
    let a = and_parts (is_name s.name && rm && types && indexes) parts s.names in
    let b = and_parts (is_name s.name && rm && types) indexes a.0 in
    let c = and_parts (is_name s.name && rm) types b.0 in
    let d = and_parts (is_name s.name) rm c.0 in
    record { name = d.0; rm = d.1; types = c.1; indexes = b.1; module_kept = s.module_kept }
