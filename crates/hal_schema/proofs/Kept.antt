-- What the tests of a checked definition say, part by part.
use Rattle.std.proofs.Common.{◌≡◌, ℕ, zero, suc, ◌+◌, ◌<◌, ◌≤◌, true, nat_le, IsTrue, List, length, get_or, Some, None, subst, ◌⊎◌, inl, inr, arith}
use Rattle.std.proofs.lemmas.Option.{slice_get_cases}
use Rattle.std.specs.List.{list_all, enumerate_from, slice_get}
use Rattle.std.proofs.lemmas.Bool.{and_parts, leb-true}
use Rattle.hal_schema.specs.declared.schema.SegType.{SegType}
use Rattle.hal_schema.specs.declared.schema.IndexDef.{IndexDef}
use Rattle.hal_schema.specs.declared.schema.PartDef.{PartDef}
use Rattle.hal_schema.specs.SegType.{level_of}
use Rattle.hal_schema.specs.Lawful.{counts_are_kept}
use Rattle.hal_schema.proofs.Ancestry.{all_places}

pub record Counts (types : List SegType) (indexes : List IndexDef) (parts : List PartDef) : Type 0 where
  pub some : 1 ≤ length types
  pub few : length types ≤ 255
  pub levels : list_all (λ t. nat_le (level_of types t.0) 15) (enumerate_from 1 types) ≡ true
  pub few_indexes : length indexes ≤ 16
  pub some_parts : 1 ≤ length parts
  pub few_parts : length parts ≤ 100

pub counts_from : (types : List SegType) (indexes : List IndexDef) (parts : List PartDef) → IsTrue (counts_are_kept types indexes parts) → Counts types indexes parts
counts_from types indexes parts h =
    let a = and_parts _ _ h in
    let b = and_parts _ _ a.0 in
    let c = and_parts _ _ b.0 in
    let d = and_parts _ _ c.0 in
    let e = and_parts _ _ d.0 in
    let f = and_parts _ _ e.0 in
    record {
      some = leb-true _ _ f.0;
      few = leb-true _ _ f.1;
      levels = e.1;
      few_indexes = leb-true _ _ c.1;
      some_parts = leb-true _ _ b.1;
      few_parts = leb-true _ _ a.1;
    }

-- no type is deeper than 15
pub level_kept : (types : List SegType) (c : ℕ) (t : SegType) → list_all (λ t. nat_le (level_of types t.0) 15) (enumerate_from 1 types) ≡ true → slice_get types c ≡ Some t → level_of types (1 + c) ≤ 15
level_kept types c t h e = leb-true _ _ (all_places (λ (p : ℕ × SegType). nat_le (level_of types p.0) 15) types 1 c t h e)

pub level_within : (types : List SegType) (c : ℕ) → list_all (λ t. nat_le (level_of types t.0) 15) (enumerate_from 1 types) ≡ true → 0 < c → c ≤ length types → level_of types c ≤ 15
level_within types zero h z l = absurd (omega arith)
level_within types (suc k) h z l = by (slice_get_cases types k).1
  where
    by : ((x : SegType) × (k < length types) × (slice_get types k ≡ Some x) × (get_or types k x ≡ x)) ⊎ ((length types ≤ k) × (slice_get types k ≡ None)) → level_of types (suc k) ≤ 15
    by (inl t) = let m : 1 + k ≡ suc k = omega arith in subst (λ c. level_of types c ≤ 15) m (level_kept types k t.0 h t.2)
    by (inr n) = absurd (omega arith)
