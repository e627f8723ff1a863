-- The tests of a partition tell that its rules are kept.
use Rattle.std.proofs.Common.{◌≡◌, ℕ, ◌+◌, ◌==◌, nat_le, Bool, true, false, ◌&&◌, ◌||◌, not, List, [], ◌∷◌, Option, None, Some, refl, sym, ap, subst, ◌∙◌}
use Rattle.std.specs.List.{list_all, list_any}
use Rattle.std.specs.Option.{option_map_or}
use Rattle.std.proofs.lemmas.Bool.{and_parts, eqb-true, eq-eqb, leb-true}
use Rattle.hal_base.specs.declared.place.Ilk.{Ilk}
use Rattle.hal_schema.specs.declared.schema.SegType.{SegType}
use Rattle.hal_schema.specs.Row.{same_name}
use Rattle.hal_schema.proofs.RowNames.{name_is, name_from}
use Rattle.volume_rules.specs.View.{Home, Segment, View, Stands, same_home, born_at, name_at, is_moving, is_live, has_passed, segment_key}
use Rattle.volume_rules.specs.Target.{Pointer, bears, leads_home}
use Rattle.volume_rules.specs.Rules.{KeepsHomes, KeepsRule6, KeepsRule9, KeepsRule10}
use Rattle.volume_rules.specs.Tests.{ListKey, Covers, at_each_home, homes_stand, names_differ, names_stand, is_own_name, is_at, moved_are_listed, listed_are_moved, roots_are_parted}
use Rattle.volume_rules.specs.Laws.{TestsTell}
use Rattle.volume_rules.proofs.Homing.{home_is}

-- what holds of each home holds of one among them
pub at_this : (view : View) (test : Home → Segment → Bool) (homes : List Home) → at_each_home view test homes ≡ true → (home : Home) (s : Segment) → view.segments home ≡ Some s → list_any (same_home home) homes ≡ true
    → test home s ≡ true
at_this view test [] all home s here among = cc
at_this view test (h ∷ homes) all home s here among =
    let parts = and_parts (option_map_or (test h) (view.segments h) true) (at_each_home view test homes) all in
    go (same_home home h) refl among parts.0 (at_this view test homes parts.1 home s here)
  where
    go : (b : Bool) → same_home home h ≡ b → (b || list_any (same_home home) homes) ≡ true → option_map_or (test h) (view.segments h) true ≡ true → (list_any (same_home home) homes ≡ true → test home s ≡ true)
        → test home s ≡ true
    go true e among first more =
        let at : home ≡ h = home_is home h e in
        let here_h : view.segments h ≡ Some s = ap view.segments (sym at) ∙ here in
        let at_h : test h s ≡ true = sym (ap (λ (o : Option Segment). option_map_or (test h) o true) here_h) ∙ first in
        ap (λ (h : Home). test h s) at ∙ at_h
    go false e among first more = more among

-- a test that passes copied segments, at one that isn't copied
own : (copied test : Bool) → (copied || test) ≡ true → copied ≡ false → test ≡ true
own true test h e = cc
own false test h e = h

met : (asked test : Bool) → (not asked || test) ≡ true → asked ≡ true → test ≡ true
met true test h e = h
met false test h e = cc

named : (name : Ilk) (borne : Option Ilk) → is_own_name name borne ≡ true → borne ≡ Some name
named name None h = cc
named name (Some n) h = ap {B = Option Ilk} Some (sym (name_is name n h))

at_it : (home : Home) (listed : Option Home) → is_at home listed ≡ true → listed ≡ Some home
at_it home None h = cc
at_it home (Some l) h = ap {B = Option Home} Some (sym (home_is home l h))

module _ (types : List SegType) (is_target : ℕ → Bool) (view : View) (homes : List Home) (keys : List ListKey) (covers : Covers view homes keys) where
  -- what holds of each home holds of each segment
  all_of : (test : Home → Segment → Bool) → at_each_home view test homes ≡ true → (home : Home) (s : Segment) → view.segments home ≡ Some s → test home s ≡ true
  all_of test h home s here = at_this view test homes h home s here (covers.cells home s here)

  pub homes_tell : homes_stand view homes ≡ true → KeepsHomes view
  homes_tell h = record {
    live = λ home s here. (parts home s here).0;
    moving = λ home s here copied. (input home s here copied).0;
    input = λ home s here copied. eqb-true home.number view.state.number (input home s here copied).1;
  }
    where
      parts : (home : Home) (s : Segment) → view.segments home ≡ Some s → (is_live view.state home.number ≡ true) × ((not s.copied || is_moving view.state && home.number == view.state.number) ≡ true)
      parts home s here =
          and_parts (is_live view.state home.number) (not s.copied || is_moving view.state && home.number == view.state.number)
          (all_of (λ home s. is_live view.state home.number && (not s.copied || is_moving view.state && home.number == view.state.number)) h home s here)

      input : (home : Home) (s : Segment) → view.segments home ≡ Some s → s.copied ≡ true → (is_moving view.state ≡ true) × ((home.number == view.state.number) ≡ true)
      input home s here copied =
          and_parts (is_moving view.state) (home.number == view.state.number) (met s.copied (is_moving view.state && home.number == view.state.number) (parts home s here).1 copied)

  pub rule6_tells : names_differ view homes ≡ true → names_stand view homes ≡ true → KeepsRule6 view
  rule6_tells differ stand = record {
    distinct = distinct;
    part = λ home s stands. eqb-true s.name.part view.state.part (p1 home s stands).0;
    low = λ home s stands. leb-true 1 s.name.number (p1 home s stands).1;
    high = λ home s stands. leb-true s.name.number home.number (p2 home s stands).1;
    own = λ home s stands live.
        named s.name (name_at view (born_at s.name)) (met (is_live view.state s.name.number) (is_own_name s.name (name_at view (born_at s.name))) (p3 home s stands).1 live);
  }
    where
      distinct : (a b : Home) (s t : Segment) → Stands view a s → Stands view b t → s.name ≡ t.name → a ≡ b
      distinct a b s t on_a on_b e =
          let inner : at_each_home view (λ b t. t.copied || not (same_name s.name t.name) || same_home a b) homes ≡ true =
          own s.copied (at_each_home view (λ b t. t.copied || not (same_name s.name t.name) || same_home a b) homes)
          (all_of (λ a s. s.copied || at_each_home view (λ b t. t.copied || not (same_name s.name t.name) || same_home a b) homes) differ a s on_a.here) on_a.uncopied in
          let apart : (t.copied || not (same_name s.name t.name) || same_home a b) ≡ true = all_of (λ b t. t.copied || not (same_name s.name t.name) || same_home a b) inner b t on_b.here in
          home_is a b (unless t.copied (same_name s.name t.name) (same_home a b) apart on_b.uncopied (name_from s.name t.name e))
        where
          unless : (copied same at : Bool) → (copied || not same || at) ≡ true → copied ≡ false → same ≡ true → at ≡ true
          unless false true at h e f = h
          unless true same at h e f = cc
          unless false false at h e f = cc

      p3 : (home : Home) (s : Segment) → Stands view home s
          → ((s.name.part == view.state.part && nat_le 1 s.name.number && nat_le s.name.number home.number) ≡ true) × ((not (is_live view.state s.name.number) || is_own_name s.name (name_at view (born_at s.name))) ≡ true)
      p3 home s stands =
          and_parts (s.name.part == view.state.part && nat_le 1 s.name.number && nat_le s.name.number home.number) (not (is_live view.state s.name.number) || is_own_name s.name (name_at view (born_at s.name)))
          (own s.copied (s.name.part == view.state.part && nat_le 1 s.name.number && nat_le s.name.number home.number && (not (is_live view.state s.name.number) || is_own_name s.name (name_at view (born_at s.name))))
          (all_of (λ home s. s.copied || s.name.part == view.state.part && nat_le 1 s.name.number && nat_le s.name.number home.number && (not (is_live view.state s.name.number) || is_own_name s.name (name_at view (born_at s.name)))) stand home s stands.here)
          stands.uncopied)

      p2 : (home : Home) (s : Segment) → Stands view home s → ((s.name.part == view.state.part && nat_le 1 s.name.number) ≡ true) × (nat_le s.name.number home.number ≡ true)
      p2 home s stands = and_parts (s.name.part == view.state.part && nat_le 1 s.name.number) (nat_le s.name.number home.number) (p3 home s stands).0

      p1 : (home : Home) (s : Segment) → Stands view home s → ((s.name.part == view.state.part) ≡ true) × (nat_le 1 s.name.number ≡ true)
      p1 home s stands = and_parts (s.name.part == view.state.part) (nat_le 1 s.name.number) (p2 home s stands).0

  pub rule9_tells : moved_are_listed is_target view homes ≡ true → listed_are_moved is_target view keys ≡ true → KeepsRule9 is_target view
  rule9_tells moved listed = record {
    each = λ home s stands target away.
        at_it home (view.listed s.name s.code)
        (unless s.copied (is_target s.code) (s.name.number == home.number) (is_at home (view.listed s.name s.code))
        (all_of (λ home s. s.copied || not (is_target s.code) || s.name.number == home.number || is_at home (view.listed s.name s.code)) moved home s stands.here) stands.uncopied target
        (λ e. away (eqb-true s.name.number home.number e)));
    stands = λ name code home h. (p1 name code home h).0;
    target = λ name code home h. (p1 name code home h).1;
    moved = λ name code home h at. turned (name.number == home.number) (p2 name code home h).1 (eq-eqb name.number home.number at);
  }
    where
      unless : (copied target home at : Bool) → (copied || not target || home || at) ≡ true → copied ≡ false → target ≡ true → (home ≡ true → ⊥) → at ≡ true
      unless false true false at h e f g = h
      unless false true true at h e f g = absurd (g refl)
      unless true target home at h e f g = cc
      unless false false home at h e f g = cc

      turned : (b : Bool) → not b ≡ true → b ≡ true → ⊥
      turned true h e = cc
      turned false h e = cc

      at_key : (ks : List ListKey) → listed_are_moved is_target view ks ≡ true → (name : Ilk) (code : ℕ) → list_any (λ k. same_name name k.name && code == k.code) ks ≡ true
          → option_map_or (λ home. bears view name code home && is_target code && not (name.number == home.number)) (view.listed name code) true ≡ true
      at_key [] h name code among = cc
      at_key (k ∷ ks) h name code among =
          let parts = and_parts (option_map_or (λ home. bears view k.name k.code home && is_target k.code && not (k.name.number == home.number)) (view.listed k.name k.code) true) (listed_are_moved is_target view ks) h in
          go (same_name name k.name && code == k.code) refl among parts.0 (at_key ks parts.1 name code)
        where
          go : (b : Bool) → (same_name name k.name && code == k.code) ≡ b → (b || list_any (λ k. same_name name k.name && code == k.code) ks) ≡ true
              → option_map_or (λ home. bears view k.name k.code home && is_target k.code && not (k.name.number == home.number)) (view.listed k.name k.code) true ≡ true
              → (list_any (λ k. same_name name k.name && code == k.code) ks ≡ true → option_map_or (λ home. bears view name code home && is_target code && not (name.number == home.number)) (view.listed name code) true ≡ true)
              → option_map_or (λ home. bears view name code home && is_target code && not (name.number == home.number)) (view.listed name code) true ≡ true
          go true e among first more =
              let parts = and_parts (same_name name k.name) (code == k.code) e in
              let at_name : k.name ≡ name = sym (name_is name k.name parts.0) in
              let at_code : k.code ≡ code = sym (eqb-true code k.code parts.1) in
              subst (λ (c : ℕ). option_map_or (λ home. bears view name c home && is_target c && not (name.number == home.number)) (view.listed name c) true ≡ true) at_code
              (subst (λ (n : Ilk). option_map_or (λ home. bears view n k.code home && is_target k.code && not (n.number == home.number)) (view.listed n k.code) true ≡ true) at_name first)
          go false e among first more = more among

      p2 : (name : Ilk) (code : ℕ) (home : Home) → view.listed name code ≡ Some home → ((bears view name code home && is_target code) ≡ true) × (not (name.number == home.number) ≡ true)
      p2 name code home h =
          and_parts (bears view name code home && is_target code) (not (name.number == home.number))
          (sym (ap (λ (o : Option Home). option_map_or (λ home. bears view name code home && is_target code && not (name.number == home.number)) o true) h) ∙ at_key keys listed name code (covers.rows name code home h))

      p1 : (name : Ilk) (code : ℕ) (home : Home) → view.listed name code ≡ Some home → (bears view name code home ≡ true) × (is_target code ≡ true)
      p1 name code home h = and_parts (bears view name code home) (is_target code) (p2 name code home h).0

  pub rule10_tells : roots_are_parted types view homes ≡ true → KeepsRule10 types view
  rule10_tells h = record {
    output = λ home s moving at here root.
        passes (is_moving view.state) (s.code == 1) (home.number == view.state.number + 1) (passed s) s.copied (home.number == view.state.number) (asked home s here) moving (eq-eqb s.code 1 root)
        (eq-eqb home.number (view.state.number + 1) at);
    input = λ home s moving at stands root.
        waits (is_moving view.state) (s.code == 1) (home.number == view.state.number + 1) (passed s) s.copied (home.number == view.state.number) (asked home s stands.here) moving (eq-eqb s.code 1 root) stands.uncopied
        (eq-eqb home.number view.state.number at);
  }
    where
      passed : Segment → Bool
      passed s = has_passed view.part.anchors view.state.cursor (segment_key types s)

      asked : (home : Home) (s : Segment) → view.segments home ≡ Some s
          → (not (is_moving view.state) || not (s.code == 1)
          || (not (home.number == view.state.number + 1) || has_passed view.part.anchors view.state.cursor (segment_key types s))
          && (s.copied || not (home.number == view.state.number) || not (has_passed view.part.anchors view.state.cursor (segment_key types s))))
          ≡ true
      asked home s here = all_of _ h home s here

      passes : (moving root output passed copied input : Bool) → (not moving || not root || (not output || passed) && (copied || not input || not passed)) ≡ true → moving ≡ true → root ≡ true → output ≡ true → passed ≡ true
      passes true true true true copied input h m r o = refl
      passes true true true false copied input h m r o = cc
      passes true true false passed copied input h m r o = cc
      passes true false output passed copied input h m r o = cc
      passes false root output passed copied input h m r o = cc

      waits : (moving root output passed copied input : Bool) → (not moving || not root || (not output || passed) && (copied || not input || not passed)) ≡ true → moving ≡ true → root ≡ true → copied ≡ false → input ≡ true → passed ≡ false
      waits true true output passed false true h m r c i = by output passed h
        where
          by : (output passed : Bool) → ((not output || passed) && (not passed)) ≡ true → passed ≡ false
          by output false h = refl
          by true true h = cc
          by false true h = cc
      waits true true output passed false false h m r c i = cc
      waits true true output passed true input h m r c i = cc
      waits true false output passed copied input h m r c i = cc
      waits false root output passed copied input h m r c i = cc

pub tests_tell : TestsTell
tests_tell types is_target view pointers homes keys covers h =
    let lead = list_all (λ (p : Pointer). is_target p.code && leads_home view p) pointers in
    let a = homes_stand view homes in
    let b = names_differ view homes in
    let c = names_stand view homes in
    let e = moved_are_listed is_target view homes in
    let f = listed_are_moved is_target view keys in
    let g = roots_are_parted types view homes in
    let p6 = and_parts (a && b && c && lead && e && f) g h in
    let p5 = and_parts (a && b && c && lead && e) f p6.0 in
    let p4 = and_parts (a && b && c && lead) e p5.0 in
    let p3 = and_parts (a && b && c) lead p4.0 in
    let p2 = and_parts (a && b) c p3.0 in
    let p1 = and_parts a b p2.0 in
    record {
      homes = homes_tell types is_target view homes keys covers p1.0;
      rule6 = rule6_tells types is_target view homes keys covers p1.1 p2.1;
      rule8 = p3.1;
      rule9 = rule9_tells types is_target view homes keys covers p4.1 p5.1;
      rule10 = rule10_tells types is_target view homes keys covers p6.1;
    }
