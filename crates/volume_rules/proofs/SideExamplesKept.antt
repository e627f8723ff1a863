-- The sides of the example volumes.
use Rattle.std.proofs.Common.{◌≡◌, ℕ, zero, suc, ◌==◌, Bool, true, false, ◌&&◌, ◌||◌, cond, not, List, [], ◌∷◌, Option, None, Some, refl, sym, ap, subst, ◌∙◌}
use Rattle.std.specs.Prelude.{codes}
use Rattle.std.specs.List.{list_all, slice_get}
use Rattle.std.specs.Option.{option_map_or}
use Rattle.std.specs.Str.{bytes_eq}
use Rattle.std.proofs.lemmas.Bool.{and_parts, eqb-true, eq-eqb}
use Rattle.std.proofs.lemmas.Slice.Eq.{bytes_eq-Decides}
use Rattle.hal_base.specs.declared.place.PartState.{PartState}
use Rattle.hal_schema.specs.declared.schema.PartDef.{PartDef}
use Rattle.hal_schema.specs.Forest.{all_pairs, in_twin_order}
use Rattle.forest_laws.specs.Examples.{example_schema}
use Rattle.volume_rules.specs.View.{Home, Homed, Segment, View}
use Rattle.volume_rules.specs.Tests.{at_each_home}
use Rattle.volume_rules.specs.Sides.{root_row_key, leads_to_root, KeepsRule4, KeepsRule7, belongs_to}
use Rattle.volume_rules.specs.SideForest.{KeepsSides}
use Rattle.volume_rules.specs.Examples.{Placed, ListRow, home, segment_at, view_of, homes_of, first_part, second_part, idle, active, second_cells, second_view, idle_cells, idle_view, active_cells, active_list, active_view}
use Rattle.volume_rules.specs.SideExamples.{RootRow, roots_in, idle_roots, active_roots, SidesAreKept, SidesAreBroken}
use Rattle.volume_rules.proofs.ExamplesKept.{apart, each_apart, cells_cover, are_kept}
use Rattle.volume_rules.proofs.Tested.{at_this}

asked : (p t : Bool) → (not p || t) ≡ true → p ≡ true → t ≡ true
asked true t h e = h
asked false t h e = cc

-- what a test over the cells of a partition finds
in_cells : (part : PartDef) (state : PartState) (cells : List Placed) (listed : List ListRow) (test : Home → Segment → Bool)
    → at_each_home (view_of part state cells listed) test (homes_of cells) ≡ true → (home : Home) (s : Segment) → segment_at cells home ≡ Some s → test home s ≡ true
in_cells part state cells listed test h home s here = at_this (view_of part state cells listed) test (homes_of cells) h home s here (cells_cover cells home s here)

-- ---- root sets

each_root : (test : ℕ → List ℕ → ℕ → Bool) (rows : List RootRow) → list_all (λ (r : RootRow). test r.number r.key r.addr) rows ≡ true → (number : ℕ) (key : List ℕ) (addr : ℕ) → roots_in rows number key ≡ Some addr
    → test number key addr ≡ true
each_root test [] all number key addr h = cc
each_root test (r ∷ rows) all number key addr h =
    let p = and_parts (test r.number r.key r.addr) (list_all (λ (r : RootRow). test r.number r.key r.addr) rows) all in
    go (number == r.number && bytes_eq key r.key) refl h p.0 (each_root test rows p.1 number key addr)
  where
    go : (b : Bool) → (number == r.number && bytes_eq key r.key) ≡ b → cond b (Some r.addr) (roots_in rows number key) ≡ Some addr → test r.number r.key r.addr ≡ true
        → (roots_in rows number key ≡ Some addr → test number key addr ≡ true) → test number key addr ≡ true
    go true e h first more =
        let q = and_parts (number == r.number) (bytes_eq key r.key) e in
        let n : r.number ≡ number = sym (eqb-true number r.number q.0) in
        let k : r.key ≡ key = sym ((bytes_eq-Decides key r.key).0 q.1) in
        let a : r.addr ≡ addr = ap (λ (o : Option ℕ). option_map_or (λ a. a) o r.addr) h in
        (λ i. test (sym n i) (sym k i) (sym a i)) ∙ first
    go false e h first more = more h

addr_is : (addr : ℕ) (o : Option ℕ) → option_map_or (λ a. a == addr) o false ≡ true → o ≡ Some addr
addr_is addr None h = cc
addr_is addr (Some a) h = ap {B = Option ℕ} Some (eqb-true a addr h)

rule4 : (part : PartDef) (state : PartState) (cells : List Placed) (listed : List ListRow) (rows : List RootRow) → list_all (λ (r : RootRow). leads_to_root example_schema (view_of part state cells listed) r.number r.key r.addr) rows ≡ true
    → at_each_home (view_of part state cells listed)
    (λ home s. s.copied || not (s.code == 1) || option_map_or (λ a. a == home.addr) (roots_in rows home.number (root_row_key example_schema (view_of part state cells listed) s)) false) (homes_of cells) ≡ true
    → KeepsRule4 example_schema (view_of part state cells listed) (roots_in rows)
rule4 part state cells listed rows lead each = record {
  lead = each_root (leads_to_root example_schema (view_of part state cells listed)) rows lead;
  each = λ phidam home s stands root.
      addr_is home.addr (roots_in rows home.number (root_row_key example_schema (view_of part state cells listed) s))
      (by s.copied (s.code == 1) (option_map_or (λ a. a == home.addr) (roots_in rows home.number (root_row_key example_schema (view_of part state cells listed) s)) false)
      (in_cells part state cells listed (λ home s. s.copied || not (s.code == 1) || option_map_or (λ a. a == home.addr) (roots_in rows home.number (root_row_key example_schema (view_of part state cells listed) s)) false) each home s stands.here)
      stands.uncopied (eq-eqb s.code 1 root));
}
  where
    by : (copied root t : Bool) → (copied || not root || t) ≡ true → copied ≡ false → root ≡ true → t ≡ true
    by false true t h c r = h
    by true root t h c r = cc
    by false false t h c r = cc

-- ---- order

rule7 : (part : PartDef) (state : PartState) (cells : List Placed) (listed : List ListRow) (place : ℕ)
    → at_each_home (view_of part state cells listed) (λ home s. not (s.code == 1) || belongs_to example_schema place s) (homes_of cells) ≡ true
    → all_pairs (apart (λ (a b : Homed). in_twin_order example_schema a.row b.row)) cells ≡ true → KeepsRule7 example_schema place (view_of part state cells listed)
rule7 part state cells listed place belong order = record {
  belong = λ home s stands root.
      asked (s.code == 1) (belongs_to example_schema place s) (in_cells part state cells listed (λ home s. not (s.code == 1) || belongs_to example_schema place s) belong home s stands.here) (eq-eqb s.code 1 root);
  twins = each_apart (λ (a b : Homed). in_twin_order example_schema a.row b.row) cells order;
}

two : (one other : View) → KeepsSides example_schema 0 one → KeepsSides example_schema 1 other → (place : ℕ) (view : View) → slice_get (one ∷ other ∷ []) place ≡ Some view → KeepsSides example_schema place view
two one other a b zero view at = let same : one ≡ view = ap (λ (o : Option View). option_map_or (λ v. v) o one) at in subst (KeepsSides example_schema 0) same a
two one other a b (suc zero) view at = let same : other ≡ view = ap (λ (o : Option View). option_map_or (λ v. v) o one) at in subst (KeepsSides example_schema 1) same b
two one other a b (suc (suc place)) view at = cc

second_kept : KeepsSides example_schema 1 second_view
second_kept = record {
  defined = refl;
  numbered = refl;
  cursor = refl;
  rows = are_kept.idle.rows.1.0;
  rule6 = are_kept.idle.rules.1.0.rule6;
  rule7 = rule7 second_part (idle 2) second_cells [] 1 refl refl;
  rule10 = are_kept.idle.rules.1.0.rule10;
  sequence = refl;
}

pub sides_are_kept : SidesAreKept
sides_are_kept = record {
  idle_rule4 = rule4 first_part (idle 1) idle_cells [] idle_roots refl refl;
  active_rule4 = rule4 first_part (active 1 (codes "001")) active_cells active_list active_roots refl refl;
  idle_sides = two idle_view second_view
      (record {
        defined = refl;
        numbered = refl;
        cursor = refl;
        rows = are_kept.idle.rows.0;
        rule6 = are_kept.idle.rules.0.rule6;
        rule7 = rule7 first_part (idle 1) idle_cells [] 0 refl refl;
        rule10 = are_kept.idle.rules.0.rule10;
        sequence = refl;
      })
      second_kept;
  active_sides = two active_view second_view
      (record {
        defined = refl;
        numbered = refl;
        cursor = refl;
        rows = are_kept.active.rows.0;
        rule6 = are_kept.active.rules.0.rule6;
        rule7 = rule7 first_part (active 1 (codes "001")) active_cells active_list 0 refl refl;
        rule10 = are_kept.active.rules.0.rule10;
        sequence = refl;
      })
      second_kept;
}

no : true ≡ false → ⊥
no h = cc

pub sides_are_broken : SidesAreBroken
sides_are_broken = record {
  no_row = λ kept. (let h : None ≡ Some 128 = kept.each refl (home 1 128) _ (record { here = refl; uncopied = refl }) refl in cc);
  other_key = λ kept. no (sym (kept.lead 1 (codes "002") 16 refl));
  to_dependent = λ kept. no (sym (kept.lead 1 (codes "01") 48 refl));
  to_copied = λ kept. no (sym (kept.lead 1 (codes "001") 16 refl));
  lost = λ kept. no (sym (kept.met (home 1 16) _ (record { here = refl; uncopied = refl })));
  twice = λ kept. no (sym (kept.once 1));
  of_nothing = λ kept. no (sym (kept.stand 1));
  elsewhere = λ kept. no (sym (kept.belong (home 1 16) _ (record { here = refl; uncopied = refl }) refl));
  falls = λ kept. no (sym (kept.twins 1));
}
