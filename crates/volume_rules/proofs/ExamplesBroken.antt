-- Partitions that break a rule and no lower one.
use Rattle.std.proofs.Common.{◌≡◌, true, [], ◌∷◌, refl, ap, arith}
use Rattle.std.specs.Prelude.{codes}
use Rattle.volume_rules.specs.View.{Home}
use Rattle.volume_rules.specs.Rules.{KeepsHomes, KeepsRule6, KeepsRule9}
use Rattle.volume_rules.specs.Tests.{homes_stand, names_differ, names_stand, moved_are_listed, listed_are_moved}
use Rattle.volume_rules.specs.Examples.{Example, shown, example, homes_of, keys_of, idle, active, home, name, one_root, in_both_sides, hole_in_the_input, moved_before, passed_over, anchored, not_yet_copied, copied_too_early, list_row, r1, g1, idle_cells, active_cells, active_list, is_indexed, without_index, AreBroken}
use Rattle.volume_rules.proofs.ExamplesKept.{covers}
use Rattle.volume_rules.proofs.Tested.{homes_tell, rule6_tells, rule9_tells}

homes_kept : (e : Example) → homes_stand (shown e) (homes_of e.cells) ≡ true → KeepsHomes (shown e)
homes_kept e h = homes_tell [] is_indexed (shown e) (homes_of e.cells) (keys_of e.listed) (covers e.part e.state e.cells e.listed) h

rule6_kept : (e : Example) → names_differ (shown e) (homes_of e.cells) ≡ true → names_stand (shown e) (homes_of e.cells) ≡ true → KeepsRule6 (shown e)
rule6_kept e a b = rule6_tells [] is_indexed (shown e) (homes_of e.cells) (keys_of e.listed) (covers e.part e.state e.cells e.listed) a b

rule9_kept : (e : Example) → moved_are_listed without_index (shown e) (homes_of e.cells) ≡ true → listed_are_moved without_index (shown e) (keys_of e.listed) ≡ true
    → KeepsRule9 without_index (shown e)
rule9_kept e a b = rule9_tells [] without_index (shown e) (homes_of e.cells) (keys_of e.listed) (covers e.part e.state e.cells e.listed) a b

pub are_broken : AreBroken
are_broken = record {
  copied_idle = λ k. (let e = k.moving (home 1 16) _ refl refl in cc);
  dead = λ k. (let e = k.live (home 1 16) _ refl in cc);
  to_come = λ k. (let e = k.live (home 2 16) _ refl in cc);
  in_output = λ k. (let e = k.input (home 2 16) _ refl refl in absurd (omega (arith, e)));
  two_of_a_name = (homes_kept in_both_sides refl, λ k. (let e = k.distinct (home 2 16) (home 1 16) _ _ (record { here = refl; uncopied = refl }) (record { here = refl; uncopied = refl }) refl in let n : 2 ≡ 1 = ap (λ (h : Home). h.number) e in absurd (omega (arith, n))));
  other_part = (homes_kept (one_root (name 2 1 16)) refl, λ k. absurd (omega (arith, k.part (home 1 16) _ (record { here = refl; uncopied = refl }))));
  no_number = (homes_kept (one_root (name 1 0 16)) refl, λ k. absurd (omega (arith, k.low (home 1 16) _ (record { here = refl; uncopied = refl }))));
  number_to_come = (homes_kept (one_root (name 1 2 16)) refl, λ k. absurd (omega (arith, k.high (home 1 16) _ (record { here = refl; uncopied = refl }))));
  not_its_own = (homes_kept (one_root (name 1 1 96)) refl, λ k. (let e = k.own (home 1 16) _ (record { here = refl; uncopied = refl }) refl in cc));
  no_old_cell = (homes_kept hole_in_the_input refl, λ k. (let e = k.own (home 2 16) _ (record { here = refl; uncopied = refl }) refl in cc));
  wrong_address = (homes_kept (example (idle 1) idle_cells []) refl, rule6_kept (example (idle 1) idle_cells []) refl refl, λ k. cc);
  from_tomorrow = (homes_kept (moved_before (list_row r1 1 (home 2 64) ∷ [])) refl, rule6_kept (moved_before (list_row r1 1 (home 2 64) ∷ [])) refl refl, λ k. cc);
  taken_early = (homes_kept (moved_before (list_row r1 1 (home 2 64) ∷ [])) refl, rule6_kept (moved_before (list_row r1 1 (home 2 64) ∷ [])) refl refl, λ k. cc);
  other_side = (homes_kept passed_over refl, rule6_kept passed_over refl refl, λ k. cc);
  not_listed = (homes_kept (moved_before []) refl, rule6_kept (moved_before []) refl refl, refl, λ k. (let e = k.each (home 2 64) _ (record { here = refl; uncopied = refl }) refl (λ n. omega (arith, n)) in cc));
  listed_unmoved = (homes_kept (example (idle 1) idle_cells (list_row r1 1 (home 1 16) ∷ [])) refl, rule6_kept (example (idle 1) idle_cells (list_row r1 1 (home 1 16) ∷ [])) refl refl, refl, λ k. k.moved r1 1 (home 1 16) refl refl);
  listed_elsewhere = (homes_kept (moved_before (list_row r1 1 (home 2 96) ∷ [])) refl, rule6_kept (moved_before (list_row r1 1 (home 2 96) ∷ [])) refl refl, refl, λ k. (let e = k.stands r1 1 (home 2 96) refl in cc));
  listed_other_type = (homes_kept (example (active 1 (codes "001")) active_cells (list_row g1 3 (home 2 96) ∷ active_list)) refl, rule6_kept (example (active 1 (codes "001")) active_cells (list_row g1 3 (home 2 96) ∷ active_list)) refl refl, refl, λ k. (let e = k.target g1 3 (home 2 96) refl in cc));
  behind_cursor = (homes_kept not_yet_copied refl, rule6_kept not_yet_copied refl refl, refl, rule9_kept not_yet_copied refl refl, λ k. (let e = k.input (home 1 16) _ refl refl (record { here = refl; uncopied = refl }) refl in cc));
  before_cursor = (homes_kept copied_too_early refl, rule6_kept copied_too_early refl refl, refl, rule9_kept copied_too_early refl refl, λ k. (let e = k.output (home 2 16) _ refl refl refl refl in cc));
  first_anchors = (
    homes_kept (anchored 1 1) refl,
    rule6_kept (anchored 1 1) refl refl,
    refl,
    rule9_kept (anchored 1 1) refl refl,
    λ k. (let e = k.input (home 1 16) _ refl refl (record { here = refl; uncopied = refl }) refl in cc),
  );
  last_anchors = (homes_kept (anchored 2 2) refl, rule6_kept (anchored 2 2) refl refl, refl, rule9_kept (anchored 2 2) refl refl, λ k. (let e = k.output (home 2 128) _ refl refl refl refl in cc));
}
