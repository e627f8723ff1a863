-- A text is the definition of one schema at most.
use Rattle.std.proofs.Common.{◌≡◌, ℕ, List, ◌++◌, drop, Bool, true, false, Result, Ok, None, Some, Option, sym, ◌∙◌, ap, subst}
use Rattle.hal_schema.specs.declared.raw.RawSchema.{RawSchema}
use Rattle.hal_schema.specs.declared.schema.Schema.{Schema}
use Rattle.hal_schema.specs.declared.fault.Place.{Place}
use Rattle.hal_schema.specs.Built.{IsSchemaOf}
use Rattle.hal_schema.specs.Rules.{first_fault}
use Rattle.partition_reader.specs.Partitions.{partitions_of}
use Rattle.definition_printer.specs.Dbd.{dbd_text}
use Rattle.definition_printer.specs.Partitions.{partitions_text}
use Rattle.definition_text.specs.Builds.{IsDefinitionOf}
use Rattle.volume_head.specs.Head.{canonical_text}
use Rattle.volume_head.specs.Definition.{IsCanonical}

none_some : {X : Type 0} {x : X} (o : Option X) → o ≡ None → o ≡ Some x → ⊥
none_some None is some = cc
none_some (Some x) is some = cc

-- both texts as one
pub canonical_of : (text : List ℕ) (schema : Schema) → text ≡ dbd_text schema → (all : List ℕ) → all ≡ text ++ partitions_text schema → IsDefinitionOf (text ++ partitions_text schema) schema → IsCanonical all schema
unfolding canonical_text
canonical_of text schema is all joined of = record {
  is = joined ∙ ap (λ (t : List ℕ). t ++ partitions_text schema) is;
  reads = subst (λ (t : List ℕ). IsDefinitionOf t schema) (sym joined) of;
}

-- what a text says in two ways is one
one_ok : {X E : Type 0} {a b : X} {r : Result X E} → r ≡ Ok a → r ≡ Ok b → a ≡ b
one_ok x y = cc

one_some : {X : Type 0} {a b : X} {o : Option X} → o ≡ Some a → o ≡ Some b → a ≡ b
one_some x y = cc

same_behind : (text : List ℕ) (a b : Schema) (x : IsDefinitionOf text a) (y : IsDefinitionOf text b) → x.behind ≡ y.behind
same_behind text a b x y = ap (λ read. read.1) (one_ok x.dbd y.dbd)

same_parts : (text : List ℕ) (a b : Schema) (x : IsDefinitionOf text a) (y : IsDefinitionOf text b) → x.raw.parts ≡ y.raw.parts
same_parts text a b x y = one_ok x.parts (ap (λ (n : ℕ). partitions_of (drop n text)) (same_behind text a b x y) ∙ y.parts)

same_raw : (text : List ℕ) (a b : Schema) (x : IsDefinitionOf text a) (y : IsDefinitionOf text b) → x.raw ≡ y.raw
same_raw text a b x y =
    let d = one_ok x.dbd y.dbd in
    let p = same_parts text a b x y in
    (λ i. record { dbd = (d i).0; parts = p i })

pub one_schema : (text : List ℕ) (a b : Schema) → IsDefinitionOf text a → IsDefinitionOf text b → a ≡ b
one_schema text a b x y = y.builds.alone a (subst (λ (raw : RawSchema). IsSchemaOf raw a) (same_raw text a b x y) x.builds.said)

-- what the raw definition of a text builds
pub built : (text : List ℕ) (made schema : Schema) (raw : RawSchema) (found : Option RawSchema) (of : IsDefinitionOf text schema) → found ≡ Some of.raw → found ≡ Some raw → IsSchemaOf raw made → Some made ≡ Some schema
built text made schema raw found of is was says = ap (λ (s : Schema). Some s) (of.builds.alone made (subst (λ (r : RawSchema). IsSchemaOf r made) (one_some was is) says))

pub not_broken : (text : List ℕ) (schema : Schema) (raw : RawSchema) (found : Option RawSchema) (of : IsDefinitionOf text schema) → found ≡ Some of.raw → found ≡ Some raw → {P : ℕ × Place} → first_fault raw ≡ Some P → ⊥
not_broken text schema raw found of is was broken = none_some (first_fault raw) (ap first_fault (one_some was is) ∙ of.builds.kept) broken

-- a text that isn't printed of what it says is the canonical text of none
pub not_printed : (text : List ℕ) (made schema : Schema) (found : Option Schema) (same : Bool) → found ≡ Some made → found ≡ Some schema → (IsCanonical text made → same ≡ true) → same ≡ false → IsCanonical text schema → ⊥
not_printed text made schema found same was is printed differs of =
    let agrees : same ≡ true = printed (subst (λ (s : Schema). IsCanonical text s) (one_some is was) of) in
    let both : true ≡ false = sym agrees ∙ differs in
    cc
