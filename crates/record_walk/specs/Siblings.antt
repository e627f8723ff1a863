-- Siblings rise in the list of records: the children of a parent stand by their types, and twins by their keys.
use Rattle.std.specs.Prelude.{◌≡◌, Bool, true, ◌&&◌, None}
use Rattle.std.specs.List.{list_all}
use Rattle.hal_schema.specs.declared.row.Row.{Row}
use Rattle.hal_schema.specs.declared.schema.Schema.{Schema}
use Rattle.hal_schema.specs.Forest.{all_pairs, names_apart, may_follow, types_rise, twins_rise}
use Rattle.record_walk.specs.Tree.{Occurrence, Twins, no_segment, segment, Chains, no_chain, chain, are_roots}
use Rattle.record_walk.specs.Listing.{placed, list_in, rows_of}
use Rattle.record_walk.specs.Side.{heads_of, heads_in, roots_rise}

-- what of a segment's row is compared with twins: its code and its content
abbrev pub row_of : Occurrence → Row
row_of s = (placed None s).row

-- Of the rules of a sound volume 7, in its part on twins: each may stand behind those before it. Unique keys rise, other keys never fall, and unkeyed
-- twins stand as they
-- came.
abbrev mutual
  pub twins_follow : Schema → Twins → Bool
  twins_follow schema no_segment = true
  twins_follow schema (segment s below next) =
      list_all (λ t. may_follow schema (row_of s) (row_of t)) (heads_of next) && twins_follow_in schema below && twins_follow schema next

  pub twins_follow_in : Schema → Chains → Bool
  twins_follow_in schema no_chain = true
  twins_follow_in schema (chain twins more) = twins_follow schema twins && twins_follow_in schema more

-- In the list the children of a parent stand by their types, whatever their keys are; and twins stand in order just where those of each chain and the
-- roots of all chains do.
pub record SiblingsOf (schema : Schema) (trees : Chains) : Type 0 where
  pub types : types_rise (rows_of (list_in None trees)) ≡ true
  pub twins : twins_rise schema (rows_of (list_in None trees)) ≡ (roots_rise schema (heads_in trees) && twins_follow_in schema trees)

abbrev pub SiblingsRise : Type 0
SiblingsRise = (schema : Schema) (trees : Chains) → are_roots schema.types trees ≡ true
    → all_pairs names_apart (rows_of (list_in None trees)) ≡ true → SiblingsOf schema trees
