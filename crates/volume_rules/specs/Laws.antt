-- What the rules say together, and what a delta keeps.
use Rattle.std.specs.Prelude.{◌≡◌, ◌≢◌, ◌↔◌, ℕ, ◌≤◌, Bool, true, List, Some}
use Rattle.hal_schema.specs.declared.schema.SegType.{SegType}
use Rattle.volume_rules.specs.View.{Home, Segment, View, Stands, generation_in, segment_key}
use Rattle.volume_rules.specs.Target.{Pointer, target_of, bears, leads_home}
use Rattle.volume_rules.specs.Rules.{KeepsHomes, KeepsRule6, KeepsRule8, KeepsRule9, KeepsRule10, KeepsRules}
use Rattle.volume_rules.specs.Tests.{ListKey, Covers, keeps_rules}
use Rattle.volume_rules.specs.Delta.{Delta, IsLawful, Follows, after}

-- each root that isn't copied stands in the generation of its key
abbrev pub RootsStand : Type 0
RootsStand = (types : List SegType) (view : View) → KeepsHomes view → KeepsRule10 types view
    → (home : Home) (s : Segment) → Stands view home s → s.code ≡ 1 → generation_in view (segment_key types s) ≡ home.number

-- a pointer whose own target stands at a home
pub record Leading (view : View) (p : Pointer) (own : Home) : Type 0 where
  -- it leads home exactly where its number isn't above the generation and what it gives is its own target's home
  pub exactly : leads_home view p ≡ true ↔ ((p.eps.number ≤ generation_in view p.root) × (target_of view p ≡ Some own))
  -- that home is then of the generation of its root
  pub generation : leads_home view p ≡ true → own.number ≡ generation_in view p.root
  -- with the number of that generation it gives its own address, and no row of the list is looked at
  pub direct : p.eps.number ≡ generation_in view p.root → target_of view p ≡ Some (record { number = generation_in view p.root; addr = p.eps.addr })
  -- with another number its target has moved since it got its name
  pub moved : leads_home view p ≡ true → p.eps.number ≢ generation_in view p.root → p.eps.name.number ≢ generation_in view p.root

abbrev pub PointersLeadHome : Type 0
PointersLeadHome = (is_target : ℕ → Bool) (view : View) → KeepsRule6 view → KeepsRule9 is_target view
    → (p : Pointer) (own : Home) → bears view p.eps.name p.code own ≡ true → Leading view p own

abbrev pub DeltasKeepHomes : Type 0
DeltasKeepHomes = (types : List SegType) (is_target : ℕ → Bool) (view : View) (d : Delta) → IsLawful types is_target view d
    → KeepsHomes view → KeepsHomes (after view d)

abbrev pub DeltasKeepRule6 : Type 0
DeltasKeepRule6 = (types : List SegType) (is_target : ℕ → Bool) (view : View) (d : Delta) → IsLawful types is_target view d
    → KeepsHomes view → KeepsRule6 view → KeepsRule6 (after view d)

abbrev pub DeltasKeepRule9 : Type 0
DeltasKeepRule9 = (types : List SegType) (is_target : ℕ → Bool) (view : View) (d : Delta) → IsLawful types is_target view d
    → KeepsRule6 view → KeepsRule9 is_target view → KeepsRule9 is_target (after view d)

abbrev pub DeltasKeepRule10 : Type 0
DeltasKeepRule10 = (types : List SegType) (is_target : ℕ → Bool) (view : View) (d : Delta) → IsLawful types is_target view d
    → KeepsHomes view → KeepsRule10 types view → KeepsRule10 types (after view d)

abbrev pub DeltasKeepRule8 : Type 0
DeltasKeepRule8 = (types : List SegType) (is_target : ℕ → Bool) (view : View) (d : Delta) (old new : List Pointer) → IsLawful types is_target view d
    → Follows is_target view d old new → KeepsRule6 view → KeepsRule9 is_target view → KeepsRule9 is_target (after view d) → KeepsRule8 is_target view old
    → KeepsRule8 is_target (after view d) new

-- a lawful delta keeps the rules: 6, then 9, then 10, then 8
abbrev pub DeltasKeepRules : Type 0
DeltasKeepRules = (types : List SegType) (is_target : ℕ → Bool) (view : View) (d : Delta) (old new : List Pointer) → IsLawful types is_target view d
    → Follows is_target view d old new → KeepsRules types is_target view old → KeepsRules types is_target (after view d) new

-- the tests tell that the rules are kept
abbrev pub TestsTell : Type 0
TestsTell = (types : List SegType) (is_target : ℕ → Bool) (view : View) (pointers : List Pointer) (homes : List Home) (keys : List ListKey)
    → Covers view homes keys → keeps_rules types is_target view pointers homes keys ≡ true → KeepsRules types is_target view pointers

-- and where they are kept, the tests pass, over whatever homes and names
abbrev pub RulesPassTests : Type 0
RulesPassTests = (types : List SegType) (is_target : ℕ → Bool) (view : View) (pointers : List Pointer) (homes : List Home) (keys : List ListKey)
    → KeepsRules types is_target view pointers → keeps_rules types is_target view pointers homes keys ≡ true
