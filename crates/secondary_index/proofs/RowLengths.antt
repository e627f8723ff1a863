-- How long the rows of an index are, by what every schema keeps.
use Rattle.std.proofs.Common.{◌≡◌, ◌∙◌, ℕ, ◌+◌, ◌<◌, ◌≤◌, List, [], ◌∷◌, length, Option, Some, refl, sym, ap, subst, arith}
use Rattle.std.specs.Prelude.{sum_by, option_and_then}
use Rattle.std.specs.List.{slice_get}
use Rattle.std.specs.Option.{option_map_or}
use Rattle.std.proofs.lemmas.List.Sums.{sum_by-cons}
use Rattle.hal_schema.specs.declared.schema.Field.{Field}
use Rattle.hal_schema.specs.declared.schema.KeyField.{KeyField}
use Rattle.hal_schema.specs.declared.schema.SegType.{SegType}
use Rattle.hal_schema.specs.declared.schema.IndexDef.{IndexDef}
use Rattle.hal_schema.specs.declared.schema.Schema.{Schema}
use Rattle.hal_schema.specs.SegType.{key_bytes, entry_bytes}
use Rattle.hal_schema.specs.Facts.{SchemasAreKept}
use Rattle.keyed_sets.specs.declared.row.RowShape.{RowShape}
use Rattle.secondary_index.specs.Entries.{index_shape}

abbrev pub total : List Field → ℕ
total fields = sum_by (λ (f : Field). f.bytes) fields

some_sum : (fields : List Field) → 1 ≤ length fields → ((f : Field) → slice_get fields 0 ≡ Some f → 1 ≤ f.bytes) → 0 < sum_by (λ (f : Field). f.bytes) fields
some_sum [] some each = absurd (omega (arith, some))
some_sum (f ∷ fields) some each =
    omega (arith, sum_by-cons (λ (f : Field). f.bytes) f fields, each f refl)

pub root_short : SchemasAreKept → (schema : Schema) → key_bytes schema.types 1 ≤ 100
root_short kept schema =
    let root = (kept schema).root_key in
    let t : SegType = root.0 in
    let k : KeyField = root.1 in
    let is : key_bytes schema.types 1 ≡ k.bytes =
    ap (λ (o : Option SegType). option_map_or (λ (k : KeyField). k.bytes) (option_and_then (λ (t : SegType). t.key) o) 0) root.2 ∙ ap (λ (o : Option KeyField). option_map_or (λ (k : KeyField). k.bytes) o 0) root.3 in
    subst (λ (n : ℕ). n ≤ 100) (sym is) (((kept schema).types 1 t root.2).key k root.3).short

pub some_key : SchemasAreKept → (schema : Schema) (place : ℕ) (def : IndexDef) → slice_get schema.indexes place ≡ Some def → 0 < entry_bytes def
some_key kept schema place def is =
    let keeps = ((kept schema).indexes place def is).1 in
    let search = some_sum def.search keeps.some_search (λ f at. (keeps.search 0 f at).some) in
    omega (arith, search)

pub short_key : SchemasAreKept → (schema : Schema) (place : ℕ) (def : IndexDef) → slice_get schema.indexes place ≡ Some def → entry_bytes def ≤ 240
short_key kept schema place def is = ((kept schema).indexes place def is).1.short

abbrev pub shape_with : ℕ → ℕ → RowShape
shape_with key body = record { key = key; body = body }

pub shape_is : (schema : Schema) (def other : IndexDef) (search subseq root : ℕ) → def ≡ other → search ≡ sum_by (λ (f : Field). f.bytes) def.search → subseq ≡ sum_by (λ (f : Field). f.bytes) def.subseq → root ≡ key_bytes schema.types 1
    → shape_with (search + subseq) (16 + root) ≡ index_shape schema other
shape_is schema def other search subseq root same one two three = cc
