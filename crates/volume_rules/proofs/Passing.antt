-- A partition that keeps its rules passes the tests, over whatever homes and names.
use Rattle.std.proofs.Common.{◌≡◌, ℕ, ◌+◌, ◌==◌, nat_le, Bool, true, false, ◌&&◌, ◌||◌, not, List, [], ◌∷◌, Option, None, Some, refl, sym, subst, ◌∙◌}
use Rattle.std.specs.List.{list_all}
use Rattle.std.specs.Option.{option_map_or}
use Rattle.std.proofs.lemmas.Bool.{and_from, eqb-true, eq-eqb, ne_eqb, le-leb, not_from_false}
use Rattle.hal_base.specs.declared.place.Ilk.{Ilk}
use Rattle.hal_schema.specs.declared.schema.SegType.{SegType}
use Rattle.hal_schema.specs.Row.{same_name}
use Rattle.hal_schema.proofs.RowNames.{name_is, name_from}
use Rattle.volume_rules.specs.View.{Home, Segment, View, Stands, same_home, born_at, name_at, is_moving, is_live, has_passed, segment_key}
use Rattle.volume_rules.specs.Target.{Pointer, bears, leads_home}
use Rattle.volume_rules.specs.Rules.{KeepsHomes, KeepsRule6, KeepsRule9, KeepsRule10}
use Rattle.volume_rules.specs.Tests.{ListKey, at_each_home, homes_stand, names_differ, names_stand, name_stands, has_own_home, is_own_name, is_at, moved_are_listed, listed_are_moved, row_stands, roots_are_parted}
use Rattle.volume_rules.specs.Laws.{RulesPassTests}
use Rattle.volume_rules.proofs.Homing.{home_itself}

-- what holds of every segment is found at each home
at_all : (view : View) (test : Home → Segment → Bool) (homes : List Home) → ((home : Home) (s : Segment) → view.segments home ≡ Some s → test home s ≡ true) → at_each_home view test homes ≡ true
at_all view test [] each = refl
at_all view test (h ∷ homes) each = and_from (option_map_or (test h) (view.segments h) true) (at_each_home view test homes) (go (view.segments h) refl) (at_all view test homes each)
  where
    go : (o : Option Segment) → view.segments h ≡ o → option_map_or (test h) o true ≡ true
    go None e = refl
    go (Some s) e = each h s e

-- a test that passes copied segments passes where one that isn't copied does
unless_copied : (copied test : Bool) → (copied ≡ false → test ≡ true) → (copied || test) ≡ true
unless_copied true test h = refl
unless_copied false test h = h refl

module _ (types : List SegType) (is_target : ℕ → Bool) (view : View) (homes : List Home) where
  homes_pass : KeepsHomes view → homes_stand view homes ≡ true
  homes_pass kept = at_all view (λ home s. is_live view.state home.number && (not s.copied || is_moving view.state && home.number == view.state.number)) homes
      (λ home s here. and_from (is_live view.state home.number) (not s.copied || is_moving view.state && home.number == view.state.number) (kept.live home s here) (input home s here s.copied refl))
    where
      input : (home : Home) (s : Segment) → view.segments home ≡ Some s → (b : Bool) → s.copied ≡ b → (not b || is_moving view.state && home.number == view.state.number) ≡ true
      input home s here false e = refl
      input home s here true e = and_from (is_moving view.state) (home.number == view.state.number) (kept.moving home s here e) (eq-eqb home.number view.state.number (kept.input home s here e))

  names_pass : KeepsRule6 view → names_differ view homes ≡ true
  names_pass rule = at_all view (λ a s. s.copied || at_each_home view (λ b t. t.copied || not (same_name s.name t.name) || same_home a b) homes) homes
      (λ a s here. unless_copied s.copied (at_each_home view (λ b t. t.copied || not (same_name s.name t.name) || same_home a b) homes)
      (λ un. at_all view (λ b t. t.copied || not (same_name s.name t.name) || same_home a b) homes
      (λ b t at. by t.copied (same_name s.name t.name) (same_home a b)
      (λ unc same. subst (λ (h : Home). same_home a h ≡ true) (rule.distinct a b s t (record { here = here; uncopied = un }) (record { here = at; uncopied = unc }) (name_is s.name t.name same)) (home_itself a)))))
    where
      by : (copied same at : Bool) → (copied ≡ false → same ≡ true → at ≡ true) → (copied || not same || at) ≡ true
      by true same at h = refl
      by false false at h = refl
      by false true at h = h refl refl

  own_names_pass : KeepsRule6 view → names_stand view homes ≡ true
  own_names_pass rule = at_all view (λ home s. s.copied || name_stands view home s.name) homes
      (λ home s here. unless_copied s.copied (name_stands view home s.name) (λ un. stands home s (record { here = here; uncopied = un })))
    where
      own : (home : Home) (s : Segment) → Stands view home s → (b : Bool) → is_live view.state s.name.number ≡ b → (not b || is_own_name s.name (name_at view (born_at s.name))) ≡ true
      own home s on false e = refl
      own home s on true e = subst (λ (o : Option Ilk). is_own_name s.name o ≡ true) (sym (rule.own home s on e)) (name_from s.name s.name refl)

      stands : (home : Home) (s : Segment) → Stands view home s → name_stands view home s.name ≡ true
      stands home s on =
          and_from (s.name.part == view.state.part && nat_le 1 s.name.number && nat_le s.name.number home.number) (has_own_home view s.name)
          (and_from (s.name.part == view.state.part && nat_le 1 s.name.number) (nat_le s.name.number home.number)
          (and_from (s.name.part == view.state.part) (nat_le 1 s.name.number) (eq-eqb s.name.part view.state.part (rule.part home s on)) (le-leb 1 s.name.number (rule.low home s on)))
          (le-leb s.name.number home.number (rule.high home s on)))
          (own home s on (is_live view.state s.name.number) refl)

  moved_pass : KeepsRule9 is_target view → moved_are_listed is_target view homes ≡ true
  moved_pass rule = at_all view (λ home s. s.copied || not (is_target s.code) || s.name.number == home.number || is_at home (view.listed s.name s.code)) homes
      (λ home s here. by s.copied (is_target s.code) (s.name.number == home.number) (is_at home (view.listed s.name s.code))
      (λ un target away. subst (λ (o : Option Home). is_at home o ≡ true)
      (sym (rule.each home s (record { here = here; uncopied = un }) target (λ at. (let no_ : true ≡ false = sym (eq-eqb s.name.number home.number at) ∙ away in cc)))) (home_itself home)))
    where
      by : (copied target own at : Bool) → (copied ≡ false → target ≡ true → own ≡ false → at ≡ true) → (copied || not target || own || at) ≡ true
      by true target own at h = refl
      by false false own at h = refl
      by false true true at h = refl
      by false true false at h = h refl refl refl

  listed_pass : KeepsRule9 is_target view → (keys : List ListKey) → listed_are_moved is_target view keys ≡ true
  listed_pass rule [] = refl
  listed_pass rule (k ∷ keys) =
      and_from (option_map_or (row_stands is_target view k) (view.listed k.name k.code) true) (listed_are_moved is_target view keys) (go (view.listed k.name k.code) refl) (listed_pass rule keys)
    where
      go : (o : Option Home) → view.listed k.name k.code ≡ o → option_map_or (row_stands is_target view k) o true ≡ true
      go None e = refl
      go (Some home) e =
          and_from (bears view k.name k.code home && is_target k.code) (not (k.name.number == home.number))
          (and_from (bears view k.name k.code home) (is_target k.code) (rule.stands k.name k.code home e) (rule.target k.name k.code home e))
          (not_from_false (k.name.number == home.number) (ne_eqb k.name.number home.number (rule.moved k.name k.code home e)))

  parted_pass : KeepsRule10 types view → roots_are_parted types view homes ≡ true
  parted_pass rule = at_all view
      (λ home s. not (is_moving view.state) || not (s.code == 1)
      || (not (home.number == view.state.number + 1) || passed s) && (s.copied || not (home.number == view.state.number) || not (passed s)))
      homes
      (λ home s here. by (is_moving view.state) (s.code == 1) (home.number == view.state.number + 1) (passed s) s.copied (home.number == view.state.number)
      (λ moving root at. rule.output home s moving (eqb-true home.number (view.state.number + 1) at) here (eqb-true s.code 1 root))
      (λ moving root un at. rule.input home s moving (eqb-true home.number view.state.number at) (record { here = here; uncopied = un }) (eqb-true s.code 1 root)))
    where
      passed : Segment → Bool
      passed s = has_passed view.part.anchors view.state.cursor (segment_key types s)

      second : (copied input p : Bool) → (copied ≡ false → input ≡ true → p ≡ false) → (copied || not input || not p) ≡ true
      second true input p h = refl
      second false false p h = refl
      second false true p h = not_from_false p (h refl refl)

      first : (output p : Bool) → (output ≡ true → p ≡ true) → (not output || p) ≡ true
      first false p h = refl
      first true p h = h refl

      by : (moving root output p copied input : Bool) → (moving ≡ true → root ≡ true → output ≡ true → p ≡ true) → (moving ≡ true → root ≡ true → copied ≡ false → input ≡ true → p ≡ false)
          → (not moving || not root || (not output || p) && (copied || not input || not p)) ≡ true
      by false root output p copied input h g = refl
      by true false output p copied input h g = refl
      by true true output p copied input h g =
          and_from (not output || p) (copied || not input || not p) (first output p (h refl refl)) (second copied input p (g refl refl))

pub rules_pass_tests : RulesPassTests
rules_pass_tests types is_target view pointers homes keys kept =
    let lead = list_all (λ (p : Pointer). is_target p.code && leads_home view p) pointers in
    let a = homes_stand view homes in
    let b = names_differ view homes in
    let c = names_stand view homes in
    let e = moved_are_listed is_target view homes in
    let f = listed_are_moved is_target view keys in
    let g = roots_are_parted types view homes in
    and_from (a && b && c && lead && e && f) g
    (and_from (a && b && c && lead && e) f
    (and_from (a && b && c && lead) e
    (and_from (a && b && c) lead
    (and_from (a && b) c (and_from a b (homes_pass types is_target view homes kept.homes) (names_pass types is_target view homes kept.rule6)) (own_names_pass types is_target view homes kept.rule6))
    kept.rule8)
    (moved_pass types is_target view homes kept.rule9))
    (listed_pass types is_target view homes kept.rule9 keys))
    (parted_pass types is_target view homes kept.rule10)
