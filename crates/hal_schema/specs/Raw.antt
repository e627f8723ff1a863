-- What a raw definition says: its types, indexes and partitions.
use Rattle.std.specs.Prelude.{ℕ, ◌+◌, ◌*◌, ◌==◌, nat_lt, Bool, List, [], ◌∷◌, Option, None, Some, option_and_then, map, filter_map, find, position}
use Rattle.std.specs.Prelude.{is_some, unwrap_or, if◌then◌else◌}
use Rattle.std.specs.Option.{option_map}
use Rattle.std.specs.Ordering.{is_lt}
use Rattle.std.specs.Str.{bytes_eq}
use Rattle.hal_schema.specs.declared.schema.Field.{Field}
use Rattle.hal_schema.specs.declared.schema.KeyField.{KeyField}
use Rattle.hal_schema.specs.declared.schema.SegType.{SegType}
use Rattle.hal_schema.specs.declared.schema.IndexDef.{IndexDef}
use Rattle.hal_schema.specs.declared.schema.PartDef.{PartDef}
use Rattle.hal_schema.specs.declared.raw.RawField.{RawField}
use Rattle.hal_schema.specs.declared.raw.RawType.{RawType}
use Rattle.hal_schema.specs.declared.raw.RawIndex.{RawIndex}
use Rattle.hal_schema.specs.declared.raw.RawPart.{RawPart}
use Rattle.hal_schema.specs.declared.raw.RawDbd.{RawDbd}
use Rattle.hal_schema.specs.SegType.{type_of}
use Rattle.hal_schema.specs.Keys.{key_cmp}

-- the code of the first type of a name
abbrev pub code_of : List RawType → List ℕ → Option ℕ
code_of types name = option_map (λ place. place + 1) (position (λ t. bytes_eq t.name name) types)

abbrev pub field_of : RawField → Field
field_of f = record { name = f.name; start = f.start; bytes = f.bytes }

abbrev pub is_sequence_field : RawField → Bool
is_sequence_field f = nat_lt 0 f.seq

abbrev pub key_field : List RawField → Option KeyField
key_field fields = option_map (λ f. record { start = f.start; bytes = f.bytes; unique = f.seq == 1 }) (find is_sequence_field fields)

abbrev pub seg_type : List RawType → RawType → SegType
seg_type types t = record {
  name = t.name;
  parent = option_and_then (code_of types) t.parent;
  bytes = t.bytes;
  key = key_field t.fields;
  first = t.first;
  letter = t.letter;
  fields = map field_of t.fields;
}

-- the types in the order of the definition
abbrev pub types_of : List RawType → List SegType
types_of types = map (seg_type types) types

abbrev pub code_named : List SegType → List ℕ → Option ℕ
code_named types name = option_map (λ place. place + 1) (position (λ t. bytes_eq t.name name) types)

-- the fields of these names, none where one of them is unknown
abbrev pub fields_named : List Field → List (List ℕ) → Option (List Field)
fields_named fields [] = Some []
fields_named fields (name ∷ names) =
    option_and_then (λ f. option_map (λ fs. f ∷ fs) (fields_named fields names)) (find (λ f. bytes_eq f.name name) fields)

-- the index over these types, none where a name is unknown
abbrev pub index_of : List SegType → RawIndex → Option IndexDef
index_of types i = option_and_then (λ target. option_and_then (λ source. option_and_then (λ t. option_and_then (λ search. option_and_then (λ subseq. Some (record {
  seg = i.seg;
  name = i.name;
  xdfld = i.xdfld;
  target = target;
  source = source;
  search = search;
  subseq = subseq;
})) (fields_named t.fields i.subseq)) (fields_named t.fields i.search)) (type_of types source)) (code_named types i.source)) (code_named types i.target)

-- an item among others, behind those that go before it
abbrev pub put_in_order : {X : Type 0} → (X → X → Bool) → X → List X → List X
put_in_order goes x [] = x ∷ []
put_in_order goes x (y ∷ ys) = if goes y x then y ∷ put_in_order goes x ys else x ∷ y ∷ ys

abbrev pub in_order : {X : Type 0} → (X → X → Bool) → List X → List X
in_order goes [] = []
in_order goes (x ∷ xs) = put_in_order goes x (in_order goes xs)

-- by the codes of their targets, and under one target in raw order
abbrev pub target_below : IndexDef → IndexDef → Bool
target_below i j = nat_lt i.target j.target

abbrev pub indexes_of : List SegType → List RawIndex → List IndexDef
indexes_of types indexes = in_order target_below (filter_map (index_of types) indexes)

-- a PHIDAM schema has no RMNAME
abbrev pub rm_of : RawDbd → Option (List ℕ)
rm_of dbd = if dbd.phdam then dbd.rm else None

-- and one without RMNAME has one anchor point and one block
abbrev pub anch_of : RawDbd → ℕ
anch_of dbd = if is_some (rm_of dbd) then dbd.anch else 1

abbrev pub rbn_of : RawDbd → ℕ
rbn_of dbd = if is_some (rm_of dbd) then dbd.rbn else 1

-- a partition that names no anchors has those of the schema
abbrev pub anchors_of : RawDbd → RawPart → ℕ
anchors_of dbd p = unwrap_or p.anchors (anch_of dbd * rbn_of dbd)

abbrev pub part_of : RawDbd → RawPart → PartDef
part_of dbd p = record { name = p.name; number = p.number; high = p.high; anchors = anchors_of dbd p; fbff = p.fbff; fspf = p.fspf }

-- by their high keys
abbrev pub high_below : PartDef → PartDef → Bool
high_below p q = is_lt (key_cmp p.high q.high)

abbrev pub parts_of : RawDbd → List RawPart → List PartDef
parts_of dbd parts = in_order high_below (map (part_of dbd) parts)
