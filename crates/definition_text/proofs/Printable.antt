-- What a schema keeps makes its partitions printable.
use Rattle.std.proofs.Common.{◌≡◌, ℕ, zero, suc, ◌+◌, ◌<◌, ◌^◌, true, nat_lt, List, [], ◌∷◌, length, Option, Some, IsTrue, refl, ap, ◌∙◌, arith}
use Rattle.std.specs.Prelude.{option_and_then}
use Rattle.std.proofs.lemmas.Bool.{and_parts, ltb-true}
use Rattle.std.specs.List.{list_all, slice_get, AllByRecursion}
use Rattle.std.specs.Option.{option_map_or}
use Rattle.hal_base.specs.Name.{is_name}
use Rattle.hal_schema.specs.declared.schema.KeyField.{KeyField}
use Rattle.hal_schema.specs.declared.schema.SegType.{SegType}
use Rattle.hal_schema.specs.declared.schema.PartDef.{PartDef}
use Rattle.hal_schema.specs.declared.schema.Schema.{Schema}
use Rattle.hal_schema.specs.SegType.{key_bytes}
use Rattle.hal_schema.specs.Facts.{IsKept, KeepsPart, SchemasAreKept}
use Rattle.hal_schema.specs.Lawful.{part_is_stored}
use Rattle.hex.specs.Hex.{IsBytes}

-- A partition as its type holds it, with a name that is no `/CK` name, and a high key of one byte or more.
pub record IsPrintable (p : PartDef) : Type 0 where
  pub name : IsTrue (is_name p.name)
  pub some : 0 < length p.high
  pub bytes : IsBytes p.high
  pub number : p.number < 2 ^ 32
  pub anchors : p.anchors < 2 ^ 32
  pub fbff : p.fbff < 2 ^ 32
  pub fspf : p.fspf < 2 ^ 32

abbrev pub ArePrintable : Schema → Type 0
ArePrintable s = (s.blocks < 2 ^ 32) × AllByRecursion IsPrintable s.parts

bytes_from : (s : List ℕ) → list_all (λ b. nat_lt b 256) s ≡ true → IsBytes s
bytes_from [] h i = omega arith
bytes_from (b ∷ s) h zero =
    let (here, more) = and_parts (nat_lt b 256) (list_all (λ b. nat_lt b 256) s) h in
    ltb-true b 256 here
bytes_from (b ∷ s) h (suc i) =
    let (here, more) = and_parts (nat_lt b 256) (list_all (λ b. nat_lt b 256) s) h in
    bytes_from s more i

-- ---- the root key

key_some : (s : Schema) → IsKept s → 0 < key_bytes s.types 1
key_some s kept =
    let r = kept.root_key in
    let some = ((kept.types 1 r.0 r.2).key r.1 r.3).field.some in
    let long : key_bytes s.types 1 ≡ r.1.bytes =
    ap (λ (o : Option SegType). option_map_or (λ k. k.bytes) (option_and_then (λ t. t.key) o) 0) r.2 ∙ ap (λ (o : Option KeyField). option_map_or (λ k. k.bytes) o 0) r.3 in
    omega (arith, some, long)

-- ---- the partitions

part_printable : (s : Schema) (p : PartDef) → 0 < key_bytes s.types 1 → KeepsPart s p → is_name p.name ≡ true → part_is_stored p ≡ true → IsPrintable p
part_printable s p some kept name stored =
    let (anchors, bytes) = and_parts (nat_lt p.anchors 4294967296) (list_all (λ b. nat_lt b 256) p.high) stored in
    let high = kept.high in
    let number = kept.number_to in
    let fbff = kept.free_blocks in
    let fspf = kept.free_space in
    record {
      name = name;
      some = omega (arith, high, some);
      bytes = bytes_from p.high bytes;
      number = omega (arith, number);
      anchors = ltb-true p.anchors 4294967296 anchors;
      fbff = omega (arith, fbff);
      fspf = omega (arith, fspf);
    }

parts_printable : (s : Schema) (parts : List PartDef) → 0 < key_bytes s.types 1 → ((place : ℕ) (p : PartDef) → slice_get parts place ≡ Some p → KeepsPart s p) → list_all (λ (p : PartDef). is_name p.name) parts ≡ true → list_all part_is_stored parts ≡ true
    → AllByRecursion IsPrintable parts
parts_printable s [] some kept names stored = tt
parts_printable s (p ∷ parts) some kept names stored =
    let a = and_parts (is_name p.name) (list_all (λ (p : PartDef). is_name p.name) parts) names in
    let b = and_parts (part_is_stored p) (list_all part_is_stored parts) stored in
    (part_printable s p some (kept 0 p refl) a.0 b.0, parts_printable s parts some (λ place q e. kept (suc place) q e) a.1 b.1)

pub printable : SchemasAreKept → (s : Schema) → ArePrintable s
printable all s =
    let kept = all s in
    let names = (and_parts _ (list_all (λ (p : PartDef). is_name p.name) s.parts) s.names).1 in
    let few = kept.few_blocks in
    (omega (arith, few), parts_printable s s.parts (key_some s kept) kept.parts names s.stored_parts)
