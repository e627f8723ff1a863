-- A lawful delta keeps rule 6.
use Rattle.std.proofs.Common.{◌≡◌, ℕ, ◌≤◌, Bool, true, false, List, Option, None, Some, refl, sym, ap, subst, ◌∙◌, arith}
use Rattle.std.specs.Option.{option_map}
use Rattle.hal_base.specs.declared.place.Ilk.{Ilk}
use Rattle.hal_schema.specs.declared.schema.SegType.{SegType}
use Rattle.volume_rules.specs.View.{Home, Segment, View, Stands, born_at, is_live, name_at}
use Rattle.volume_rules.specs.Rules.{KeepsHomes, KeepsRule6}
use Rattle.volume_rules.specs.Delta.{Dropped, Left, Delta, after, IsLawful, Owes, OwesFresh, OwesDropped}
use Rattle.volume_rules.specs.Laws.{DeltasKeepRule6}
use Rattle.volume_rules.proofs.Reading.{remains, Origin, same, came, fresh, origin_of, still_borne}

module _ (types : List SegType) (is_target : ℕ → Bool) (view : View) (d : Delta) (lawful : IsLawful types is_target view d) (homes : KeepsHomes view) (rule : KeepsRule6 view) where
  -- the name of a new segment was borne by none
  unborne : (home : Home) (s : Segment) → OwesFresh types view d home s → (other : Home) (t : Segment) → Stands view other t → s.name ≡ t.name → ⊥
  unborne home s owed other t stands e =
      let number : home.number ≡ t.name.number = ap (λ (n : Ilk). n.number) (sym owed.name ∙ e) in
      let live : is_live view.state t.name.number ≡ true = ap (is_live view.state) (sym number) ∙ owed.was_live in
      let own : name_at view (born_at t.name) ≡ Some t.name = rule.own other t stands live in
      let back : born_at t.name ≡ home = ap born_at (sym e ∙ owed.name) in
      let none : name_at view home ≡ None = ap (option_map (λ (s : Segment). s.name)) owed.free in
      let some : name_at view home ≡ Some t.name = ap (name_at view) (sym back) ∙ own in
      cc

  distinct : (a b : Home) (s t : Segment) → Stands (after view d) a s → Stands (after view d) b t → s.name ≡ t.name → a ≡ b
  distinct a b s t on_a on_b e = by (origin_of types is_target view d lawful a s on_a) (origin_of types is_target view d lawful b t on_b)
    where
      by : Origin types is_target view d a s → Origin types is_target view d b t → a ≡ b
      by (same x) (same y) = rule.distinct a b x.old y.old x.stood y.stood (sym x.name ∙ e ∙ y.name)
      by (same x) (came y) =
          let at : a ≡ y.from = rule.distinct a y.from x.old t x.stood y.stood (sym x.name ∙ e) in
          let left : d.fate a ≡ Left b = ap d.fate at ∙ y.owed.left in
          let no : true ≡ false = sym x.fate ∙ ap remains left in
          cc
      by (same x) (fresh y owed) = absurd (unborne b t owed a x.old x.stood (sym e ∙ x.name))
      by (came x) (same y) =
          let at : x.from ≡ b = rule.distinct x.from b s y.old x.stood y.stood (e ∙ y.name) in
          let left : d.fate b ≡ Left a = ap d.fate (sym at) ∙ x.owed.left in
          let no : true ≡ false = sym y.fate ∙ ap remains left in
          cc
      by (came x) (came y) =
          let at : x.from ≡ y.from = rule.distinct x.from y.from s t x.stood y.stood e in
          let left : Left a ≡ Left b = sym x.owed.left ∙ ap d.fate at ∙ y.owed.left in
          cc
      by (came x) (fresh y owed) = absurd (unborne b t owed x.from s x.stood (sym e))
      by (fresh x owed) (same y) = absurd (unborne a s owed b y.old y.stood (e ∙ y.name))
      by (fresh x owed) (came y) = absurd (unborne a s owed y.from t y.stood e)
      by (fresh x owed) (fresh y owed_b) = ap born_at (sym owed.name ∙ e ∙ owed_b.name)

  part : (home : Home) (s : Segment) → Stands (after view d) home s → s.name.part ≡ d.state.part
  part home s stands = by (origin_of types is_target view d lawful home s stands)
    where
      by : Origin types is_target view d home s → s.name.part ≡ d.state.part
      by (same x) = ap (λ (n : Ilk). n.part) x.name ∙ rule.part home x.old x.stood ∙ sym lawful.state.part
      by (came x) = rule.part x.from s x.stood ∙ sym lawful.state.part
      by (fresh x owed) = ap (λ (n : Ilk). n.part) owed.name ∙ sym lawful.state.part

  low : (home : Home) (s : Segment) → Stands (after view d) home s → 1 ≤ s.name.number
  low home s stands = by (origin_of types is_target view d lawful home s stands)
    where
      by : Origin types is_target view d home s → 1 ≤ s.name.number
      by (same x) = subst (λ (n : Ilk). 1 ≤ n.number) (sym x.name) (rule.low home x.old x.stood)
      by (came x) = rule.low x.from s x.stood
      by (fresh x owed) = subst (λ (n : Ilk). 1 ≤ n.number) (sym owed.name) owed.low

  high : (home : Home) (s : Segment) → Stands (after view d) home s → s.name.number ≤ home.number
  high home s stands = by (origin_of types is_target view d lawful home s stands)
    where
      by : Origin types is_target view d home s → s.name.number ≤ home.number
      by (same x) = subst (λ (n : Ilk). n.number ≤ home.number) (sym x.name) (rule.high home x.old x.stood)
      by (came x) = let low = rule.high x.from s x.stood in let up = x.owed.higher in omega (arith, low, up)
      by (fresh x owed) = subst (λ (n : Ilk). n.number ≤ home.number) (sym owed.name) (let same : home.number ≤ home.number = omega arith in same)

  -- the name of a segment that stood and that isn't dropped
  own_old : (home : Home) (s : Segment) → Stands view home s → (d.fate home ≡ Dropped → ⊥) → is_live d.state s.name.number ≡ true → name_at (after view d) (born_at s.name) ≡ Some s.name
  own_old home s stands kept live = by (is_live view.state s.name.number) refl
    where
      -- its own home isn't dropped: an uncopied bearer of this name there is this very segment, and a copied one is of a dead generation
      bearer : name_at view (born_at s.name) ≡ Some s.name → (o : Option Segment) → view.segments (born_at s.name) ≡ o → d.fate (born_at s.name) ≡ Dropped → ⊥
      bearer borne None none gone = let no : name_at view (born_at s.name) ≡ None = ap (option_map (λ (s : Segment). s.name)) none in cc
      bearer borne (Some t) some gone = go t.copied refl
        where
          owed : OwesDropped is_target d (born_at s.name) t
          owed = subst (Owes types is_target view d (born_at s.name)) gone (lawful.fates (born_at s.name)) t some

          named : t.name ≡ s.name
          named = let a : Some t.name ≡ Some s.name = sym (ap (option_map (λ (s : Segment). s.name)) some) ∙ borne in cc

          go : (copied : Bool) → t.copied ≡ copied → ⊥
          go true e = let dead : is_live d.state s.name.number ≡ false = owed.dead e in cc
          go false e =
              let here : born_at s.name ≡ home = rule.distinct (born_at s.name) home t s (record { here = some; uncopied = e }) stands named in
              kept (ap d.fate (sym here) ∙ gone)

      by : (was : Bool) → is_live view.state s.name.number ≡ was → name_at (after view d) (born_at s.name) ≡ Some s.name
      by true was =
          let borne = rule.own home s stands was in
          still_borne types is_target view d lawful (born_at s.name) s.name borne (bearer borne (view.segments (born_at s.name)) refl)
      by false was =
          let below = lawful.state.opened s.name.number home.number live was (homes.live home s stands.here) in
          let high = rule.high home s stands in
          absurd (omega (arith, below, high))

  own : (home : Home) (s : Segment) → Stands (after view d) home s → is_live d.state s.name.number ≡ true → name_at (after view d) (born_at s.name) ≡ Some s.name
  own home s stands live = by (origin_of types is_target view d lawful home s stands)
    where
      by : Origin types is_target view d home s → name_at (after view d) (born_at s.name) ≡ Some s.name
      by (same x) =
          let kept : d.fate home ≡ Dropped → ⊥ = λ gone. (let no : true ≡ false = sym x.fate ∙ ap remains gone in cc) in
          subst (λ (n : Ilk). name_at (after view d) (born_at n) ≡ Some n) (sym x.name)
          (own_old home x.old x.stood kept (ap (λ (n : Ilk). is_live d.state n.number) (sym x.name) ∙ live))
      by (came x) =
          let kept : d.fate x.from ≡ Dropped → ⊥ = λ gone. (let no : Left home ≡ Dropped = sym x.owed.left ∙ gone in cc) in
          own_old x.from s x.stood kept live
      by (fresh x owed) =
          let back : home ≡ born_at s.name = ap born_at (sym owed.name) in
          ap (name_at (after view d)) (sym back) ∙ ap (option_map (λ (s : Segment). s.name)) stands.here

pub deltas_keep_rule_6 : DeltasKeepRule6
deltas_keep_rule_6 types is_target view d lawful homes rule = record {
  distinct = distinct types is_target view d lawful homes rule;
  part = part types is_target view d lawful homes rule;
  low = low types is_target view d lawful homes rule;
  high = high types is_target view d lawful homes rule;
  own = own types is_target view d lawful homes rule;
}
