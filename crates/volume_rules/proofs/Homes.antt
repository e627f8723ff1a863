-- A lawful delta keeps cells in live generations, and copied ones in the input.
use Rattle.std.proofs.Common.{◌≡◌, ℕ, Bool, true, false, List, Option, None, Some, refl, sym, ap, ◌∙◌}
use Rattle.std.specs.Option.{option_map}
use Rattle.hal_schema.specs.declared.schema.SegType.{SegType}
use Rattle.volume_rules.specs.View.{Home, Segment, View, is_live, is_moving}
use Rattle.volume_rules.specs.Rules.{KeepsHomes}
use Rattle.volume_rules.specs.Delta.{Fate, Stays, Dropped, Rewritten, Fresh, Moved, Left, Delta, after, segment_after, with_content, marked, Owes, IsLawful}
use Rattle.volume_rules.specs.Laws.{DeltasKeepHomes}

module _ (types : List SegType) (is_target : ℕ → Bool) (view : View) (d : Delta) (lawful : IsLawful types is_target view d) (homes : KeepsHomes view) where
  -- what a segment of the new view has: a live home, and if it is copied one in the input
  record Placed (home : Home) (s : Segment) : Type 0 where
    live : is_live d.state home.number ≡ true
    moving : s.copied ≡ true → is_moving d.state ≡ true
    input : s.copied ≡ true → home.number ≡ d.state.number

  kept : (home : Home) (old s : Segment) → view.segments home ≡ Some old → s.copied ≡ old.copied → is_live d.state home.number ≡ true → Placed home s
  kept home old s here e live =
      let at : old.copied ≡ true → is_live d.state view.state.number ≡ true = λ copied. ap (is_live d.state) (sym (homes.input home old here copied)) ∙ live in
      record {
        live = live;
        moving = λ copied. lawful.state.moving (homes.moving home old here (sym e ∙ copied)) (at (sym e ∙ copied));
        input = λ copied. homes.input home old here (sym e ∙ copied) ∙ sym (lawful.state.input (homes.moving home old here (sym e ∙ copied)) (at (sym e ∙ copied)));
      }

  uncopied : (home : Home) (s : Segment) → s.copied ≡ false → is_live d.state home.number ≡ true → Placed home s
  uncopied home s un live = record { live = live; moving = λ copied. cc; input = λ copied. cc }

  placed : (home : Home) (s : Segment) → (after view d).segments home ≡ Some s → Placed home s
  placed home s here = go (d.fate home) refl (lawful.fates home) here
    where
      rewritten : (content : List ℕ) → Owes types is_target view d home (Rewritten content) → (o : Option Segment) → view.segments home ≡ o → option_map (with_content content) o ≡ Some s → Placed home s
      rewritten content owed None h here = cc
      rewritten content owed (Some old) h here =
          let is : with_content content old ≡ s = cc in
          kept home old s h (sym (ap (λ (x : Segment). x.copied) is)) (owed old h).0.live

      left : (to : Home) → Owes types is_target view d home (Left to) → (o : Option Segment) → view.segments home ≡ o → option_map marked o ≡ Some s → Placed home s
      left to owed None h here = cc
      left to owed (Some old) h here =
          let o = owed old h in
          record { live = o.live; moving = λ copied. o.moving; input = λ copied. o.input }

      go : (f : Fate) → d.fate home ≡ f → Owes types is_target view d home f → segment_after view.segments home f ≡ Some s → Placed home s
      go Stays e owed here = kept home s s here refl (owed s here).live
      go Dropped e owed here = cc
      go (Rewritten content) e owed here = rewritten content owed (view.segments home) refl here
      go (Fresh new) e owed here =
          let is : new ≡ s = cc in
          uncopied home s (ap (λ (x : Segment). x.copied) (sym is) ∙ owed.uncopied) owed.live
      go (Moved from) e owed here =
          let is : Some owed.stood ≡ Some s = sym owed.stands.here ∙ here in
          let same : owed.stood ≡ s = cc in
          uncopied home s (ap (λ (x : Segment). x.copied) (sym same) ∙ owed.stands.uncopied) owed.live
      go (Left to) e owed here = left to owed (view.segments home) refl here

pub deltas_keep_homes : DeltasKeepHomes
deltas_keep_homes types is_target view d lawful homes = record {
  live = λ home s here. (placed types is_target view d lawful homes home s here).live;
  moving = λ home s here. (placed types is_target view d lawful homes home s here).moving;
  input = λ home s here. (placed types is_target view d lawful homes home s here).input;
}
