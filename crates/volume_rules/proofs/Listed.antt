-- A lawful delta keeps rule 9.
use Rattle.std.proofs.Common.{◌≡◌, ◌≢◌, ℕ, ◌<◌, ◌≤◌, Bool, true, false, List, None, Some, refl, sym, ap, subst, ◌∙◌, arith}
use Rattle.std.specs.Option.{option_map, option_map_or}
use Rattle.std.proofs.lemmas.Bool.{and_parts}
use Rattle.hal_base.specs.declared.place.Ilk.{Ilk}
use Rattle.hal_schema.specs.declared.schema.SegType.{SegType}
use Rattle.volume_rules.specs.View.{Home, Segment, View, Stands}
use Rattle.volume_rules.specs.Target.{bears}
use Rattle.volume_rules.specs.Rules.{KeepsRule6, KeepsRule9}
use Rattle.volume_rules.specs.Delta.{Fate, Stays, Dropped, Rewritten, Fresh, Moved, Left, Listing, Keeps, Unlists, Lists, Delta, after, segment_after, listed_after, with_content, Owes, OwesListing, source_of, IsLawful}
use Rattle.volume_rules.specs.Laws.{DeltasKeepRule9}
use Rattle.volume_rules.proofs.Reading.{Origin, same, came, fresh, origin_of}
use Rattle.volume_rules.proofs.Pointing.{Borne, borne_at, bears_from}

module _ (types : List SegType) (is_target : ℕ → Bool) (view : View) (d : Delta) (lawful : IsLawful types is_target view d) (names : KeepsRule6 view) (rule : KeepsRule9 is_target view) where
  each : (home : Home) (s : Segment) → Stands (after view d) home s → is_target s.code ≡ true → s.name.number ≢ home.number → (after view d).listed s.name s.code ≡ Some home
  each home s stands target away = by (origin_of types is_target view d lawful home s stands)
    where
      by : Origin types is_target view d home s → (after view d).listed s.name s.code ≡ Some home
      by (same x) =
          let target_old : is_target x.old.code ≡ true = ap is_target (sym x.code) ∙ target in
          let away_old : x.old.name.number ≢ home.number = λ e. away (ap (λ (n : Ilk). n.number) x.name ∙ e) in
          let listed : view.listed x.old.name x.old.code ≡ Some home = rule.each home x.old x.stood target_old away_old in
          let keeps : d.listing x.old.name x.old.code ≡ Keeps = x.owed.listing x.stood.uncopied target_old in
          let old : (after view d).listed x.old.name x.old.code ≡ Some home = ap (listed_after (view.listed x.old.name x.old.code)) keeps ∙ listed in
          ap (λ (n : Ilk). (after view d).listed n s.code) x.name ∙ ap (λ (c : ℕ). (after view d).listed x.old.name c) x.code ∙ old
      by (came x) =
          let left = subst (Owes types is_target view d x.from) x.owed.left (lawful.fates x.from) s x.stood.here in
          ap (listed_after (view.listed s.name s.code)) (left.listing x.stood.uncopied target)
      by (fresh x owed) = absurd (away (ap (λ (n : Ilk). n.number) owed.name))

  -- what is said of a row of the new list
  record Listed (name : Ilk) (code : ℕ) (home : Home) : Type 0 where
    stands : bears (after view d) name code home ≡ true
    target : is_target code ≡ true
    moved : name.number ≢ home.number

  -- an old row that stays
  kept : (name : Ilk) (code : ℕ) (home : Home) → d.listing name code ≡ Keeps → view.listed name code ≡ Some home → Listed name code home
  kept name code home keeps listed =
      let target = rule.target name code home listed in
      let away = rule.moved name code home listed in
      let b = borne_at view name code home (rule.stands name code home listed) in
      let target_b : is_target b.s.code ≡ true = ap is_target b.code_is ∙ target in
      let keeps_b : d.listing b.s.name b.s.code ≡ Keeps = ap (λ (n : Ilk). d.listing n b.s.code) b.name_is ∙ ap (d.listing name) b.code_is ∙ keeps in
      record { stands = go (d.fate home) refl b target_b keeps_b away (lawful.fates home); target = target; moved = away }
    where
      -- the segment there, with other content or with none
      bears_still : (s : Segment) → (after view d).segments home ≡ Some s → s.copied ≡ false → s.code ≡ code → s.name ≡ name → bears (after view d) name code home ≡ true
      bears_still s here uncopied c n = bears_from (after view d) name code home (record { s = s; stands = record { here = here; uncopied = uncopied }; code_is = c; name_is = n })

      go : (f : Fate) → d.fate home ≡ f → (b : Borne view name code home) → is_target b.s.code ≡ true → d.listing b.s.name b.s.code ≡ Keeps → name.number ≢ home.number → Owes types is_target view d home f
          → bears (after view d) name code home ≡ true
      go Stays e b target keeps away owed = bears_still b.s (ap (segment_after view.segments home) e ∙ b.stands.here) b.stands.uncopied b.code_is b.name_is
      go Dropped e b target keeps away owed =
          let away_b : b.s.name.number ≢ home.number = λ at. away (ap (λ (n : Ilk). n.number) (sym b.name_is) ∙ at) in
          let gone : d.listing b.s.name b.s.code ≡ Unlists = (owed b.s b.stands.here).listing b.stands.uncopied target away_b in
          let no : Keeps ≡ Unlists = sym keeps ∙ gone in
          cc
      go (Rewritten content) e b target keeps away owed =
          bears_still (with_content content b.s) (ap (segment_after view.segments home) e ∙ ap (option_map (with_content content)) b.stands.here) b.stands.uncopied b.code_is b.name_is
      go (Fresh new) e b target keeps away owed = let no : None ≡ Some b.s = sym owed.free ∙ b.stands.here in cc
      go (Moved from) e b target keeps away owed = let no : None ≡ Some b.s = sym owed.free ∙ b.stands.here in cc
      go (Left to) e b target keeps away owed =
          let gone : d.listing b.s.name b.s.code ≡ Lists to = (owed b.s b.stands.here).listing b.stands.uncopied target in
          let no : Keeps ≡ Lists to = sym keeps ∙ gone in
          cc

  -- a new row is that of a segment that has moved there
  new : (name : Ilk) (code : ℕ) (home : Home) → OwesListing is_target view d name code (Lists home) → Listed name code home
  new name code home owed =
      let parts = and_parts (is_target code) (option_map_or (bears view name code) (source_of (d.fate home)) false) owed in
      go parts.0 (d.fate home) refl parts.1 (lawful.fates home)
    where
      go : is_target code ≡ true → (f : Fate) → d.fate home ≡ f → option_map_or (bears view name code) (source_of f) false ≡ true → Owes types is_target view d home f → Listed name code home
      go target Stays e borne owed = cc
      go target Dropped e borne owed = cc
      go target (Rewritten content) e borne owed = cc
      go target (Fresh s) e borne owed = cc
      go target (Left to) e borne owed = cc
      go target (Moved from) e borne owed =
          let b = borne_at view name code from borne in
          let high : name.number ≤ from.number = subst (λ (n : Ilk). n.number ≤ from.number) b.name_is (names.high from b.s b.stands) in
          let up : from.number < home.number = owed.higher in
          record {
            stands = bears_from (after view d) name code home
                (record { s = b.s; stands = record { here = ap (segment_after view.segments home) e ∙ b.stands.here; uncopied = b.stands.uncopied }; code_is = b.code_is; name_is = b.name_is });
            target = target;
            moved = λ at. omega (arith, high, up, at);
          }

  listed : (name : Ilk) (code : ℕ) (home : Home) → (after view d).listed name code ≡ Some home → Listed name code home
  listed name code home h = go (d.listing name code) refl (lawful.listings name code) h
    where
      go : (l : Listing) → d.listing name code ≡ l → OwesListing is_target view d name code l → listed_after (view.listed name code) l ≡ Some home → Listed name code home
      go Keeps e owed h = kept name code home e h
      go Unlists e owed h = cc
      go (Lists to) e owed h =
          let at : to ≡ home = cc in
          new name code home (subst (λ (to : Home). OwesListing is_target view d name code (Lists to)) at owed)

pub deltas_keep_rule_9 : DeltasKeepRule9
deltas_keep_rule_9 types is_target view d lawful names rule = record {
  each = each types is_target view d lawful names rule;
  stands = λ name code home h. (listed types is_target view d lawful names rule name code home h).stands;
  target = λ name code home h. (listed types is_target view d lawful names rule name code home h).target;
  moved = λ name code home h. (listed types is_target view d lawful names rule name code home h).moved;
}
