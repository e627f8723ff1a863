-- Where an uncopied segment comes from, and where a bearer of a name goes: the two questions of every lemma on deltas.
use Rattle.std.proofs.Common.{◌≡◌, ℕ, Bool, true, false, List, Option, None, Some, refl, sym, ap, subst, ◌∙◌}
use Rattle.std.specs.Option.{option_map}
use Rattle.hal_base.specs.declared.place.Ilk.{Ilk}
use Rattle.hal_schema.specs.declared.schema.SegType.{SegType}
use Rattle.volume_rules.specs.View.{Home, Segment, View, Stands, name_at, segment_key}
use Rattle.volume_rules.specs.Delta.{Fate, Stays, Dropped, Rewritten, Fresh, Moved, Left, Delta, after, segment_after, with_content, marked, Owes, OwesStay, OwesFresh, OwesMoved, IsLawful}

-- the fates in which an uncopied segment stays one
abbrev pub remains : Fate → Bool
remains Stays = true
remains (Rewritten content) = true
remains _ = false

-- a segment of the old view that is still there, with its name and its type
pub record Same (types : List SegType) (is_target : ℕ → Bool) (view : View) (d : Delta) (home : Home) (s : Segment) : Type 0 where
  pub old : Segment
  pub stood : Stands view home old
  pub name : s.name ≡ old.name
  pub code : s.code ≡ old.code
  pub key : s.code ≡ 1 → segment_key types s ≡ segment_key types old
  pub fate : remains (d.fate home) ≡ true
  pub owed : OwesStay types is_target view d home old

pub record Came (types : List SegType) (view : View) (d : Delta) (home : Home) (s : Segment) : Type 0 where
  pub from : Home
  pub fate : d.fate home ≡ Moved from
  pub owed : OwesMoved types view d home from
  pub stood : Stands view from s

pub data Origin (types : List SegType) (is_target : ℕ → Bool) (view : View) (d : Delta) (home : Home) (s : Segment) : Type 0 where
  same : Same types is_target view d home s → Origin types is_target view d home s
  came : Came types view d home s → Origin types is_target view d home s
  fresh : d.fate home ≡ Fresh s → OwesFresh types view d home s → Origin types is_target view d home s

pub origin_of : (types : List SegType) (is_target : ℕ → Bool) (view : View) (d : Delta) → IsLawful types is_target view d
    → (home : Home) (s : Segment) → Stands (after view d) home s → Origin types is_target view d home s
origin_of types is_target view d lawful home s stands = go (d.fate home) refl (lawful.fates home) stands.here
  where
    rewritten : (content : List ℕ) → d.fate home ≡ Rewritten content → Owes types is_target view d home (Rewritten content) → (o : Option Segment) → view.segments home ≡ o
        → option_map (with_content content) o ≡ Some s → Origin types is_target view d home s
    rewritten content e owed None h here = cc
    rewritten content e owed (Some old) h here =
        let is : with_content content old ≡ s = cc in
        same
        (record {
          old = old;
          stood = record { here = h; uncopied = ap (λ (x : Segment). x.copied) is ∙ stands.uncopied };
          name = sym (ap (λ (x : Segment). x.name) is);
          code = sym (ap (λ (x : Segment). x.code) is);
          key = λ root. ap (segment_key types) (sym is) ∙ (owed old h).1 (ap (λ (x : Segment). x.code) is ∙ root);
          fate = ap remains e;
          owed = (owed old h).0;
        })

    left : (to : Home) (o : Option Segment) → option_map marked o ≡ Some s → Origin types is_target view d home s
    left to None here = cc
    left to (Some old) here =
        let is : marked old ≡ s = cc in
        let copied : true ≡ s.copied = ap (λ (x : Segment). x.copied) is in
        let no : s.copied ≡ false = stands.uncopied in
        cc

    go : (f : Fate) → d.fate home ≡ f → Owes types is_target view d home f → segment_after view.segments home f ≡ Some s → Origin types is_target view d home s
    go Stays e owed here =
        same
        (record {
          old = s;
          stood = record { here = here; uncopied = stands.uncopied };
          name = refl;
          code = refl;
          key = λ root. refl;
          fate = ap remains e;
          owed = owed s here;
        })
    go Dropped e owed here = cc
    go (Rewritten content) e owed here = rewritten content e owed (view.segments home) refl here
    go (Fresh new) e owed here =
        let is : new ≡ s = cc in
        fresh (e ∙ ap Fresh is) (subst (OwesFresh types view d home) is owed)
    go (Moved from) e owed here = came (record { from = from; fate = e; owed = owed; stood = record { here = here; uncopied = stands.uncopied } })
    go (Left to) e owed here = left to (view.segments home) here

-- a name that is borne at a home is borne there still, unless its bearer is dropped
pub still_borne : (types : List SegType) (is_target : ℕ → Bool) (view : View) (d : Delta) → IsLawful types is_target view d
    → (home : Home) (name : Ilk) → name_at view home ≡ Some name → (d.fate home ≡ Dropped → ⊥) → name_at (after view d) home ≡ Some name
still_borne types is_target view d lawful home name borne kept = go (d.fate home) refl (lawful.fates home) (view.segments home) refl borne
  where
    go : (f : Fate) → d.fate home ≡ f → Owes types is_target view d home f → (o : Option Segment) → view.segments home ≡ o → option_map (λ (s : Segment). s.name) o ≡ Some name
        → option_map (λ (s : Segment). s.name) (segment_after view.segments home f) ≡ Some name
    go Stays e owed o h borne = ap (option_map (λ (s : Segment). s.name)) h ∙ borne
    go Dropped e owed o h borne = absurd (kept e)
    go (Rewritten content) e owed None h borne = cc
    go (Rewritten content) e owed (Some s) h borne = ap (λ (o : Option Segment). option_map (λ (s : Segment). s.name) (option_map (with_content content) o)) h ∙ borne
    go (Fresh new) e owed None h borne = cc
    go (Fresh new) e owed (Some s) h borne = let none : view.segments home ≡ None = owed.free in cc
    go (Moved from) e owed None h borne = cc
    go (Moved from) e owed (Some s) h borne = let none : view.segments home ≡ None = owed.free in cc
    go (Left to) e owed None h borne = cc
    go (Left to) e owed (Some s) h borne = ap (λ (o : Option Segment). option_map (λ (s : Segment). s.name) (option_map marked o)) h ∙ borne
