-- Schemas with the same parts are the same: what they keep is a matter of their parts.
use Rattle.std.proofs.Common.{◌≡◌, ℕ, Bool, List, Option, IsTrue, refl, sym, ap, ◌∙◌, subst}
use Rattle.std.proofs.Math.Bool.{Bool-set}
use Rattle.std.specs.List.{list_all}
use Rattle.hal_schema.specs.declared.raw.RawSchema.{RawSchema}
use Rattle.hal_schema.specs.declared.schema.SegType.{SegType}
use Rattle.hal_schema.specs.declared.schema.IndexDef.{IndexDef}
use Rattle.hal_schema.specs.declared.schema.PartDef.{PartDef}
use Rattle.hal_schema.specs.declared.schema.Schema.{Schema}
use Rattle.hal_schema.specs.Built.{IsSchemaOf}
use Rattle.hal_schema.specs.Lawful.{parents_are_before, type_names_differ, index_names_differ, part_names_differ, part_numbers_differ, field_names_differ, counts_are_kept, fields_fit, keys_are_fields, root_key_is_unique, letters_are_known, indexes_are_kept, highs_rise, part_is_kept, blocks_are_kept, names_are_kept, module_is_kept, part_is_stored}

record Parts : Type 0 where
  name : List ℕ
  phdam : Bool
  rm : Option (List ℕ)
  anch : ℕ
  rbn : ℕ
  types : List SegType
  indexes : List IndexDef
  parts : List PartDef
  blocks : ℕ

record Kept (p : Parts) : Type 0 where
  parents : IsTrue (parents_are_before p.types)
  type_names : IsTrue (type_names_differ p.types)
  index_names : IsTrue (index_names_differ p.indexes)
  part_names : IsTrue (part_names_differ p.parts)
  part_numbers : IsTrue (part_numbers_differ p.parts)
  field_names : IsTrue (field_names_differ p.types p.indexes)
  counts : IsTrue (counts_are_kept p.types p.indexes p.parts)
  fields : IsTrue (fields_fit p.types)
  keys : IsTrue (keys_are_fields p.types)
  root_key : IsTrue (root_key_is_unique p.types)
  letters : IsTrue (letters_are_known p.types)
  kept_indexes : IsTrue (indexes_are_kept p.types p.indexes)
  highs : IsTrue (highs_rise p.types p.parts)
  kept_parts : IsTrue (list_all (part_is_kept p.phdam) p.parts)
  kept_blocks : IsTrue (blocks_are_kept p.blocks)
  names : IsTrue (names_are_kept p.name p.rm p.types p.indexes p.parts)
  module_kept : IsTrue (module_is_kept p.phdam p.rm p.anch p.rbn)
  stored_parts : IsTrue (list_all part_is_stored p.parts)

kept_once : (p : Parts) → IsProp (Kept p)
kept_once p = hlevel Bool-set

abbrev parts_of : Schema → Parts
parts_of s = record { name = s.name; phdam = s.phdam; rm = s.rm; anch = s.anch; rbn = s.rbn; types = s.types; indexes = s.indexes; parts = s.parts; blocks = s.blocks }

abbrev kept_of : (s : Schema) → Kept (parts_of s)
kept_of s = record {
  parents = s.parents;
  type_names = s.type_names;
  index_names = s.index_names;
  part_names = s.part_names;
  part_numbers = s.part_numbers;
  field_names = s.field_names;
  counts = s.counts;
  fields = s.fields;
  keys = s.keys;
  root_key = s.root_key;
  letters = s.letters;
  kept_indexes = s.kept_indexes;
  highs = s.highs;
  kept_parts = s.kept_parts;
  kept_blocks = s.kept_blocks;
  names = s.names;
  module_kept = s.module_kept;
  stored_parts = s.stored_parts;
}

abbrev with_kept : (p : Parts) → Kept p → Schema
with_kept p k = record {
  name = p.name;
  phdam = p.phdam;
  rm = p.rm;
  anch = p.anch;
  rbn = p.rbn;
  types = p.types;
  indexes = p.indexes;
  parts = p.parts;
  blocks = p.blocks;
  parents = k.parents;
  type_names = k.type_names;
  index_names = k.index_names;
  part_names = k.part_names;
  part_numbers = k.part_numbers;
  field_names = k.field_names;
  counts = k.counts;
  fields = k.fields;
  keys = k.keys;
  root_key = k.root_key;
  letters = k.letters;
  kept_indexes = k.kept_indexes;
  highs = k.highs;
  kept_parts = k.kept_parts;
  kept_blocks = k.kept_blocks;
  names = k.names;
  module_kept = k.module_kept;
  stored_parts = k.stored_parts;
}

same_parts : (p q : Parts) (k : Kept p) (l : Kept q) → p ≡ q → with_kept p k ≡ with_kept q l
same_parts p q k l e = subst (λ (r : Parts). (m : Kept r) → with_kept p k ≡ with_kept r m) e (λ m. ap (with_kept p) (kept_once p k m)) l

pub same_schema : (raw : RawSchema) (a b : Schema) → IsSchemaOf raw a → IsSchemaOf raw b → a ≡ b
same_schema raw a b h g =
    let name : a.name ≡ b.name = h.name ∙ sym g.name in
    let phdam : a.phdam ≡ b.phdam = h.phdam ∙ sym g.phdam in
    let rm : a.rm ≡ b.rm = h.rm ∙ sym g.rm in
    let anch : a.anch ≡ b.anch = h.anch ∙ sym g.anch in
    let rbn : a.rbn ≡ b.rbn = h.rbn ∙ sym g.rbn in
    let types : a.types ≡ b.types = h.types ∙ sym g.types in
    let indexes : a.indexes ≡ b.indexes = h.indexes ∙ sym g.indexes in
    let parts : a.parts ≡ b.parts = h.parts ∙ sym g.parts in
    let blocks : a.blocks ≡ b.blocks = h.blocks ∙ sym g.blocks in
    same_parts (parts_of a) (parts_of b) (kept_of a) (kept_of b) (rw (name, phdam, rm, anch, rbn, types, indexes, parts, blocks) refl)
