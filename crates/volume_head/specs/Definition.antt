-- Which schema an image is the volume of: soundness rule 1, in its part on the head and the definition. The bytes of
-- the gate's block are not looked at here.
use Rattle.std.specs.Prelude.{◌≡◌, ℕ, ◌*◌, ◌^◌, ◌<◌, ◌≤◌, List, length, take, drop}
use Rattle.hal_schema.specs.declared.schema.Schema.{Schema}
use Rattle.definition_text.specs.Builds.{IsDefinitionOf}
use Rattle.volume_head.specs.Head.{canonical_text, blocks_for, in_blocks, head_of, most_text}

-- a text that is the canonical one of this schema, and as a definition is that of this schema
pub record IsCanonical (text : List ℕ) (schema : Schema) : Type 0 where
  pub is : text ≡ canonical_text schema
  pub reads : IsDefinitionOf text schema

-- no schema has this canonical text
abbrev pub IsNoCanonical : List ℕ → Type 0
IsNoCanonical text = (schema : Schema) → IsCanonical text schema → ⊥

-- the head and the definition behind the gate are those of this schema, and the definition says this schema
pub record IsVolumeOf (schema : Schema) (image : List ℕ) : Type 0 where
  pub head : take 4096 image ≡ head_of schema
  pub short : length (canonical_text schema) ≤ most_text
  pub definition : take (4096 * blocks_for (length (canonical_text schema))) (drop 8192 image) ≡ in_blocks (canonical_text schema)
  pub reads : IsDefinitionOf (canonical_text schema) schema

-- no schema is so: the image breaks soundness rule 1 in its part on the head and the definition
abbrev pub BreaksFront : List ℕ → Type 0
BreaksFront image = (schema : Schema) → IsVolumeOf schema image → ⊥

-- an image is the volume of one schema at most
abbrev pub AreOfOneSchema : Type 0
AreOfOneSchema = (image : List ℕ) (a b : Schema) → IsVolumeOf a image → IsVolumeOf b image → a ≡ b

-- the canonical text of a schema is short enough for the head; its two free numbers are of 32 bits
abbrev pub AreShort : Type 0
AreShort = (schema : Schema) → schema.anch < 2 ^ 32 → schema.rbn < 2 ^ 32 → length (canonical_text schema) ≤ most_text
