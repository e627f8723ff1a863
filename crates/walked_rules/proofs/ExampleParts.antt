-- The example's partitions keep the rules 4, 5 and 7.
use Rattle.std.proofs.Common.{◌≡◌, ℕ, zero, suc, ◌==◌, Bool, true, false, ◌||◌, List, [], ◌∷◌, map, Option, None, Some, refl, sym, ap, subst, ◌∙◌, arith}
use Rattle.std.specs.List.{list_all, slice_get}
use Rattle.std.specs.Option.{option_map}
use Rattle.std.proofs.lemmas.Bool.{eqb-true, false≢true}
use Rattle.hal_schema.specs.declared.schema.Schema.{Schema}
use Rattle.hal_schema.specs.Forest.{all_pairs, names_apart}
use Rattle.hal_schema.specs.Row.{same_name}
use Rattle.hal_schema.proofs.RowNames.{name_is}
use Rattle.segment_blocks.specs.declared.tile.Cell.{Cell}
use Rattle.forest_laws.proofs.Lists.{among_passes}
use Rattle.forest_laws.proofs.Names.{same_some}
use Rattle.record_walk.specs.Tree.{Chains}
use Rattle.record_walk.specs.Listing.{list_in, rows_of}
use Rattle.record_walk.specs.Side.{RootRow, IsSideOf}
use Rattle.record_walk.specs.Siblings.{twins_follow_in}
use Rattle.record_walk.specs.Examples.{phidam, phdam, cells_in, example_cells, two_rows, one_row, two_trees, one_tree, name_at, AreSides}
use Rattle.record_walk.specs.ChangeExamples.{SidesMakeForests}
use Rattle.volume_rules.specs.View.{Home, Homed, Segment, Stands, is_live}
use Rattle.volume_rules.specs.Rules.{KeepsRule6}
use Rattle.volume_rules.specs.Volume.{RowsStand, stands_in}
use Rattle.volume_rules.proofs.SidesKept.{at_row}
use Rattle.walked_rules.specs.Parts.{WalkedPart, IsWalkedPart, homed, view_of}
use Rattle.walked_rules.specs.Laws.{WalkedRowsStand, WalkedPartsKeepRule4, WalkedPartsKeepRule7, NamesDiffer, TwinsFollow, KeepsTheRest, IsPartAt, WalkedVolumesAreForests}
use Rattle.walked_rules.proofs.OnViews.{passing, rows_at, cell_of}
use Rattle.walked_rules.specs.Examples.{idle, idle_phidam, idle_phdam, moving, KeepsWalkedRules, WalkedExamples}

-- what is true of the numbers 1 and 2 is true of those that are live
live_numbers : (P : ℕ → Type 0) → P 1 → P 2 → (number : ℕ) → is_live moving.state number ≡ true → P number
live_numbers P one two number live = by (number == 1) refl live
  where
    by : (b : Bool) → (number == 1) ≡ b → (b || number == 2) ≡ true → P number
    by true e h = subst P (sym (eqb-true number 1 e)) one
    by false e h = subst P (sym (eqb-true number 2 h)) two

moving_walked : SidesMakeForests → IsWalkedPart phidam moving
moving_walked forests = live_numbers (λ number. IsSideOf phidam 0 (moving.cells number) (moving.roots number) (moving.trees number)) (forests.in_order.each.1.0) (forests.in_order.each.0)

-- ---- rule 6 of an idle partition whose cells bear their own homes as names

abbrev bears_its_home : Homed → Bool
bears_its_home r = same_name r.row.name (name_at r.addr)

record Born (home : Home) (s : Segment) : Type 0 where
  pub number : home.number ≡ 1
  pub name : s.name ≡ name_at home.addr

module _ (cells : ℕ → Option Cell) (rows : List RootRow) (trees : Chains) (stand : RowsStand (view_of (idle cells rows trees))) (own : list_all bears_its_home (map homed (list_in None trees)) ≡ true) where
  born : (home : Home) (s : Segment) → Stands (view_of (idle cells rows trees)) home s → Born home s
  born home s stands =
      let live = (cell_of (idle cells rows trees) home s stands.here).live in
      let one : home.number ≡ 1 = only (home.number == 1) refl live in
      let r = passing (λ q. q.addr == home.addr) ((view_of (idle cells rows trees)).rows home.number) (stand.met home s stands) in
      let at : r.item.addr ≡ home.addr = eqb-true r.item.addr home.addr r.passes in
      let a = at_row (view_of (idle cells rows trees)) home.number home.addr r.item (among_passes (stands_in (view_of (idle cells rows trees)) home.number) r.item ((view_of (idle cells rows trees)).rows home.number) r.among (stand.stand home.number)) at in
      let same : s ≡ a.s = same_some s a.s (sym stands.here ∙ a.here) in
      let named = among_passes bears_its_home r.item ((view_of (idle cells rows trees)).rows home.number) r.among (ap (list_all bears_its_home) (rows_at (idle cells rows trees) home.number live) ∙ own) in
      record { number = one; name = ap (λ (x : Segment). x.name) same ∙ a.words.name ∙ name_is r.item.row.name (name_at r.item.addr) named ∙ ap name_at at }
    where
      only : (b : Bool) → (home.number == 1) ≡ b → (b || false) ≡ true → home.number ≡ 1
      only true e h = eqb-true home.number 1 e
      only false e h = absurd (false≢true h)

  rule6 : KeepsRule6 (view_of (idle cells rows trees))
  rule6 = record {
    distinct = λ a b s t at bt e.
        let x = born a s at in
        let y = born b t bt in
        let addr : a.addr ≡ b.addr = ap (λ n. n.addr) (sym x.name ∙ e ∙ y.name) in
        let number : a.number ≡ b.number = x.number ∙ sym y.number in
        λ i. record { number = number i; addr = addr i };
    part = λ home s stands. ap (λ n. n.part) (born home s stands).name;
    low = λ home s stands. let n = ap (λ n. n.number) (born home s stands).name in omega (arith, n);
    high = λ home s stands. let n = ap (λ n. n.number) (born home s stands).name in let h = (born home s stands).number in omega (arith, n, h);
    own = λ home s stands live.
        let x = born home s stands in
        let number : s.name.number ≡ home.number = ap (λ n. n.number) x.name ∙ sym x.number in
        let addr : s.name.addr ≡ home.addr = ap (λ n. n.addr) x.name in
        (λ i. option_map (λ (t : Segment). t.name) ((view_of (idle cells rows trees)).segments (record { number = number i; addr = addr i }))) ∙ ap (option_map (λ (t : Segment). t.name)) stands.here;
  }

module _ (rule4 : WalkedPartsKeepRule4) (rule5 : WalkedRowsStand) (rule7 : WalkedPartsKeepRule7) (volumes : WalkedVolumesAreForests) where
  keeps : (schema : Schema) (p : WalkedPart) → IsWalkedPart schema p → slice_get schema.parts p.place ≡ Some p.part → NamesDiffer p → TwinsFollow schema p → KeepsWalkedRules schema p
  keeps schema p walked defined names follow = record { rule4 = rule4 schema p walked defined; rule5 = rule5 schema p walked; rule7 = rule7 schema p walked names follow }

  phidam_rest : AreSides → KeepsTheRest phidam idle_phidam
  phidam_rest sides = record {
    defined = refl;
    numbered = refl;
    cursor = refl;
    rule6 = rule6 (cells_in (example_cells 144)) two_rows two_trees (rule5 phidam idle_phidam (λ number live. sides.phidam_side)) refl;
    rule10 = record { output = λ home s moves. absurd (false≢true moves); input = λ home s moves. absurd (false≢true moves) };
    twins = λ number live. refl;
    lengths = λ number live. refl;
  }

  -- the only partition of its volume
  alone : AreSides → (place : ℕ) (p : WalkedPart) → slice_get (idle_phidam ∷ []) place ≡ Some p → IsPartAt phidam place p
  alone sides zero p here = subst (IsPartAt phidam 0) (same_some idle_phidam p here) (record { stands = refl; walked = λ number live. sides.phidam_side; rest = phidam_rest sides })
  alone sides (suc place) p here = cc

  pub walked_examples : AreSides → SidesMakeForests → WalkedExamples
  walked_examples sides forests = record {
    phidam_keeps = keeps phidam idle_phidam (λ number live. sides.phidam_side) refl (λ number live. refl) (λ number live. refl);
    phdam_keeps = keeps phdam idle_phdam (λ number live. sides.phdam_side) refl (λ number live. refl) (λ number live. refl);
    moving_keeps = keeps phidam moving (moving_walked forests) refl (live_numbers (λ number. all_pairs names_apart (rows_of (list_in None (moving.trees number))) ≡ true) refl refl)
        (live_numbers (λ number. twins_follow_in phidam (moving.trees number) ≡ true) refl refl);
    phidam_rest = phidam_rest sides;
    phdam_rest = record {
      defined = refl;
      numbered = refl;
      cursor = refl;
      rule6 = rule6 (cells_in (example_cells 96)) one_row one_tree (rule5 phdam idle_phdam (λ number live. sides.phdam_side)) refl;
      rule10 = record { output = λ home s moves. absurd (false≢true moves); input = λ home s moves. absurd (false≢true moves) };
      twins = λ number live. refl;
      lengths = λ number live. refl;
    };
    phidam_volume = volumes phidam (idle_phidam ∷ []) [] (λ place p here. alone sides place p here);
    output_rows = refl;
    input_rows = refl;
    no_rows = refl;
    output_root = refl;
    input_root = refl;
    copied_root = refl;
    anchor_root = refl;
    entries = refl;
    hangs = refl;
    other_key = refl;
  }
