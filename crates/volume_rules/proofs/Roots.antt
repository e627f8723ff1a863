-- Rule 10 says in which generation a root stands, and a lawful delta keeps it.
use Rattle.std.proofs.Common.{◌≡◌, ℕ, ◌+◌, ◌==◌, Bool, true, false, ◌&&◌, ◌||◌, cond, Some, refl, sym, ap, ◌∙◌, arith}
use Rattle.std.proofs.lemmas.Bool.{eqb-true}
use Rattle.volume_rules.specs.View.{Home, Segment, Stands, is_moving, has_passed, generation_in, segment_key}
use Rattle.volume_rules.specs.Rules.{KeepsHomes}
use Rattle.volume_rules.specs.Delta.{after}
use Rattle.volume_rules.specs.Laws.{DeltasKeepRule10, RootsStand}
use Rattle.volume_rules.proofs.Homes.{deltas_keep_homes}
use Rattle.volume_rules.proofs.Reading.{Origin, same, came, fresh, origin_of}

-- a generation, by whether the partition moves and whether its cursor has passed a key
abbrev by_tests : ℕ → Bool → Bool → ℕ
by_tests number moving passed = cond (moving && passed) (number + 1) number

passed_where : (number : ℕ) (moving passed : Bool) → moving ≡ true → by_tests number moving passed ≡ number + 1 → passed ≡ true
passed_where number true true m e = refl
passed_where number true false m e = absurd (omega arith)
passed_where number false passed m e = cc

behind_where : (number : ℕ) (moving passed : Bool) → moving ≡ true → by_tests number moving passed ≡ number → passed ≡ false
behind_where number true true m e = absurd (omega arith)
behind_where number true false m e = refl
behind_where number false passed m e = cc

live_where : (number at : ℕ) (moving passed : Bool) → (at == number || moving && at == number + 1) ≡ true → (moving ≡ true → at ≡ number + 1 → passed ≡ true) → (moving ≡ true → at ≡ number → passed ≡ false)
    → by_tests number moving passed ≡ at
live_where number at moving passed live output input = go (at == number) refl live
  where
    own : (m p : Bool) → m ≡ moving → p ≡ passed → at ≡ number → by_tests number m p ≡ at
    own true true m p e = let f : passed ≡ false = input (sym m) e in cc
    own true false m p e = sym e
    own false p m q e = sym e

    next : (m p : Bool) → m ≡ moving → p ≡ passed → (m && at == number + 1) ≡ true → by_tests number m p ≡ at
    next true true m p e = sym (eqb-true at (number + 1) e)
    next true false m p e = let t : passed ≡ true = output (sym m) (eqb-true at (number + 1) e) in cc
    next false p m q e = cc

    go : (b : Bool) → (at == number) ≡ b → (b || moving && at == number + 1) ≡ true → by_tests number moving passed ≡ at
    go true e h = own moving passed refl refl (eqb-true at number e)
    go false e h = next moving passed refl refl h

pub roots_stand : RootsStand
roots_stand types view homes rule home s stands root =
    live_where view.state.number home.number (is_moving view.state) (has_passed view.part.anchors view.state.cursor (segment_key types s)) (homes.live home s stands.here)
    (λ moving at. rule.output home s moving at stands.here root)
    (λ moving at. rule.input home s moving at stands root)

pub deltas_keep_rule_10 : DeltasKeepRule10
deltas_keep_rule_10 types is_target view d lawful homes rule = record {
  output = λ home s moving at here root.
      passed_where d.state.number (is_moving d.state) (has_passed view.part.anchors d.state.cursor (segment_key types s)) moving
      (stood home s (record { here = here; uncopied = output_uncopied home s at here s.copied refl }) root ∙ at);
  input = λ home s moving at stands root.
      behind_where d.state.number (is_moving d.state) (has_passed view.part.anchors d.state.cursor (segment_key types s)) moving (stood home s stands root ∙ at);
}
  where
    homes_now : KeepsHomes (after view d)
    homes_now = deltas_keep_homes types is_target view d lawful homes

    output_uncopied : (home : Home) (s : Segment) → home.number ≡ d.state.number + 1 → (after view d).segments home ≡ Some s → (b : Bool) → s.copied ≡ b → b ≡ false
    output_uncopied home s at here true e = let input : home.number ≡ d.state.number = homes_now.input home s here e in absurd (omega (arith, at, input))
    output_uncopied home s at here false e = refl

    stood : (home : Home) (s : Segment) → Stands (after view d) home s → s.code ≡ 1 → generation_in (after view d) (segment_key types s) ≡ home.number
    stood home s stands root = by (origin_of types is_target view d lawful home s stands)
      where
        by : Origin types is_target view d home s → generation_in (after view d) (segment_key types s) ≡ home.number
        by (same x) =
            let root_old : x.old.code ≡ 1 = sym x.code ∙ root in
            ap (generation_in (after view d)) (x.key root) ∙ x.owed.behind x.stood.uncopied root_old ∙ roots_stand types view homes rule home x.old x.stood root_old
        by (came x) =
            let is : Some x.owed.stood ≡ Some s = sym x.owed.stands.here ∙ x.stood.here in
            let at : x.owed.stood ≡ s = cc in
            ap (λ (t : Segment). generation_in (after view d) (segment_key types t)) (sym at) ∙ x.owed.root (ap (λ (t : Segment). t.code) at ∙ root)
        by (fresh x owed) = owed.root root
