-- The switch is lawful.
use Rattle.std.proofs.Common.{◌≡◌, ℕ, ◌+◌, ◌==◌, Bool, true, false, ◌&&◌, ◌||◌, cond, Some, refl, sym, ap, ◌∙◌, arith}
use Rattle.std.proofs.lemmas.Bool.{eqb-true, eq-eqb, ne_eqb, or_left, or_from}
use Rattle.volume_rules.specs.View.{Home, Segment, is_moving, is_live}
use Rattle.volume_rules.specs.Target.{Pointer, target_of, bears}
use Rattle.volume_rules.specs.Delta.{Stays, Dropped, Owes, OwesPointer}
use Rattle.volume_rules.specs.Events.{switch, switched}
use Rattle.volume_rules.specs.EventLaws.{SwitchesAreLawful}
use Rattle.volume_rules.proofs.Leading.{number_of}
use Rattle.volume_rules.proofs.Pointing.{borne_at}
use Rattle.volume_rules.proofs.Roots.{roots_stand}

pub switches_are_lawful : SwitchesAreLawful
switches_are_lawful types is_target view old new moving emptied kept carried = record {
  lawful = record {
    state = record {
      part = refl;
      opened = λ number before now was live.
          (let at : number ≡ view.state.number + 1 = now_only number now in
          let no_ : true ≡ false = sym (next_live number at) ∙ was in
          cc);
      moving = λ moves live. (let no_ : true ≡ false = sym live ∙ left in cc);
      input = λ moves live. (let no_ : true ≡ false = sym live ∙ left in cc);
    };
    fates = λ h. fate h (h.number == view.state.number) refl;
    listings = λ name code. tt;
  };
  follows = record { each = carried; kept = λ p h among direct target own. points p h target own (h.number == view.state.number) refl };
}
  where
    now_only : (number : ℕ) → is_live (switched view.state) number ≡ true → number ≡ view.state.number + 1
    now_only number h = go (number == view.state.number + 1) refl h
      where
        go : (b : Bool) → (number == view.state.number + 1) ≡ b → (b || false) ≡ true → number ≡ view.state.number + 1
        go true e h = eqb-true number (view.state.number + 1) e
        go false e h = cc

    next_live : (number : ℕ) → number ≡ view.state.number + 1 → is_live view.state number ≡ true
    next_live number at =
        let next : (number == view.state.number + 1) ≡ true = eq-eqb number (view.state.number + 1) at in
        let own : (number == view.state.number) ≡ false = ne_eqb number view.state.number (λ e. omega (arith, at, e)) in
        λ i. (own i || moving i && next i)

    -- the old number is none that is live
    left : is_live (switched view.state) view.state.number ≡ false
    left = or_from (view.state.number == view.state.number + 1) false (ne_eqb view.state.number (view.state.number + 1) (λ e. omega (arith, e))) refl

    -- what isn't in the input is in the output
    in_output : (h : Home) (s : Segment) → view.segments h ≡ Some s → (h.number == view.state.number) ≡ false → h.number ≡ view.state.number + 1
    in_output h s here out = go (is_moving view.state) (ap (λ b. b || is_moving view.state && h.number == view.state.number + 1) (sym out) ∙ kept.homes.live h s here)
      where
        go : (m : Bool) → (m && h.number == view.state.number + 1) ≡ true → h.number ≡ view.state.number + 1
        go true e = eqb-true h.number (view.state.number + 1) e
        go false e = cc

    fate : (h : Home) (b : Bool) → (h.number == view.state.number) ≡ b → Owes types is_target view (switch view) h (cond b Dropped Stays)
    fate h true e =
        let at : h.number ≡ view.state.number = eqb-true h.number view.state.number e in
        λ s here. record {
          dead = λ copied. ap (is_live (switched view.state)) at ∙ left;
          listing = λ un target away. absurd (emptied h s (record { here = here; uncopied = un }) at);
        }
    fate h false e =
        λ s here.
        (let at = in_output h s here e in
        record {
          live = or_left (h.number == view.state.number + 1) false (eq-eqb h.number (view.state.number + 1) at);
          behind = λ un root. sym at ∙ sym (roots_stand types view kept.homes kept.rule10 h s (record { here = here; uncopied = un }) root);
          listing = λ un target. refl;
        })

    points : (p : Pointer) (h : Home) → target_of view p ≡ Some h → bears view p.eps.name p.code h ≡ true → (b : Bool) → (h.number == view.state.number) ≡ b → OwesPointer view (switch view) p (cond b Dropped Stays)
    points p h target own true e = let b = borne_at view p.eps.name p.code h own in emptied h b.s b.stands (eqb-true h.number view.state.number e)
    points p h target own false e = let b = borne_at view p.eps.name p.code h own in sym (in_output h b.s b.stands.here e) ∙ number_of view p h target
