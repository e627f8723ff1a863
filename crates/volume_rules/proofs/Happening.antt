-- Events that there are.
use Rattle.std.proofs.Common.{◌≡◌, ℕ, ◌==◌, Bool, true, false, cond, ◌||◌, not, List, [], ◌∷◌, Some, refl, ap, subst, arith}
use Rattle.std.specs.Prelude.{codes, filter}
use Rattle.std.specs.List.{list_all}
use Rattle.std.specs.Str.{bytes_eq}
use Rattle.std.proofs.lemmas.Bool.{eqb-true, eq-eqb, or_right}
use Rattle.std.proofs.lemmas.Slice.Eq.{bytes_eq-Decides}
use Rattle.hal_base.specs.declared.place.Cursor.TheVariants.{At}
use Rattle.hal_schema.specs.Facts.{SchemasAreKept}
use Rattle.forest_laws.specs.Entries.{EntriesAreOfSources}
use Rattle.forest_laws.specs.Examples.{example_schema}
use Rattle.volume_rules.specs.View.{Home, Segment, View, generation_of, generation_in, segment_key}
use Rattle.volume_rules.specs.Target.{Pointer, bears, same_pointer, is_among}
use Rattle.volume_rules.specs.Tests.{at_each_home}
use Rattle.volume_rules.specs.Delta.{Delta, after}
use Rattle.volume_rules.specs.Events.{IsEvent, is_moved, MayBeCopied, switch, IsEmptied}
use Rattle.volume_rules.specs.Volume.{pointers_of, forest_of}
use Rattle.volume_rules.specs.Hanging.{record_key}
use Rattle.volume_rules.specs.Examples.{home, cell, r1, homes_of, keys_of, first_part, active, idle_cells, idle_view, idle_volume, is_indexed, rows_at, active_cells}
use Rattle.volume_rules.specs.Applied.{idle_pointers, first_moves, start, begun, first_unit, copied, heal, healed_pointers, new_root, with_new_root, other_content, first_span, without_span, emptied_cells, emptied_list, emptied, Keeps, CanHappen}
use Rattle.volume_rules.proofs.Calls.{insertions_are_lawful, replacements_are_lawful, deletions_are_lawful, turns_are_lawful, reorganizations_turn}
use Rattle.volume_rules.proofs.ExamplesKept.{cells_cover, covers, are_kept}
use Rattle.volume_rules.proofs.Hanging.{pointers_hang}
use Rattle.volume_rules.proofs.Homing.{each_at}
use Rattle.volume_rules.proofs.Leading.{at_each}
use Rattle.volume_rules.proofs.Switch.{switches_are_lawful}
use Rattle.volume_rules.proofs.Tested.{at_this, tests_tell}
use Rattle.volume_rules.proofs.Together.{deltas_keep_rules}
use Rattle.volume_rules.proofs.Units.{units_are_lawful}

not_true : (b : Bool) → not b ≡ true → b ≡ false
not_true true h = cc
not_true false h = refl

kept_by : (view : View) (d : Delta) (old new : List Pointer) → IsEvent example_schema.types is_indexed view d old new → Keeps view old → Keeps (after view d) new
kept_by view d old new event kept = deltas_keep_rules example_schema.types is_indexed view d old new event.lawful event.follows kept

-- what a test over the cells of the example finds
in_idle : (test : Home → Segment → Bool) → at_each_home idle_view test (homes_of idle_cells) ≡ true → (home : Home) (s : Segment) → idle_view.segments home ≡ Some s → test home s ≡ true
in_idle test h home s here = at_this idle_view test (homes_of idle_cells) h home s here (cells_cover idle_cells home s here)

among_filter : (keep : Pointer → Bool) (pointers : List Pointer) (p : Pointer) → is_among (filter keep pointers) p ≡ true → is_among pointers p ≡ true
among_filter keep [] p h = h
among_filter keep (q ∷ pointers) p h = go (keep q) h (among_filter keep pointers p)
  where
    go : (b : Bool) → is_among (cond b (q ∷ filter keep pointers) (filter keep pointers)) p ≡ true → (is_among (filter keep pointers) p ≡ true → is_among pointers p ≡ true) → (same_pointer p q || is_among pointers p) ≡ true
    go false h more = or_right (same_pointer p q) (is_among pointers p) (more h)
    go true h more = both (same_pointer p q) h
      where
        both : (b : Bool) → (b || is_among (filter keep pointers) p) ≡ true → (b || is_among pointers p) ≡ true
        both true h = refl
        both false h = more h

-- the record of a home of the example
abbrev record_in : Home → List ℕ
record_in home = record_key example_schema.types (forest_of idle_volume) idle_view home

may_be_copied : SchemasAreKept → EntriesAreOfSources → MayBeCopied example_schema.types begun record_in first_moves (At (codes "001")) idle_pointers
may_be_copied kept sources = record {
  moving = refl;
  each = refl;
  apart = refl;
  whole = λ home s stands.
      eqb-true (generation_of begun.part (record begun.state { cursor = At (codes "001") }) (record_in home)) (cond (is_moved first_moves home) 2 (generation_in begun (record_in home)))
      (in_idle (λ home s. generation_of begun.part (record begun.state { cursor = At (codes "001") }) (record_in home) == cond (is_moved first_moves home) 2 (generation_in begun (record_in home))) refl home s stands.here);
  roots = λ home s stands root.
      (bytes_eq-Decides (segment_key example_schema.types s) (record_in home)).0
      (asked (s.code == 1) (bytes_eq (segment_key example_schema.types s) (record_in home))
      (in_idle (λ home s. not (s.code == 1) || bytes_eq (segment_key example_schema.types s) (record_in home)) refl home s stands.here) (ap (λ c. c == 1) root));
  hung = λ p home among target own.
      pointers_hang kept sources example_schema idle_volume idle_view p home are_kept.idle.forest are_kept.idle.entries
      (among_filter (λ p. p.eps.part == 1) (pointers_of example_schema.indexes idle_volume.indexes) p among) own;
}
  where
    asked : (b t : Bool) → (not b || t) ≡ true → b ≡ true → t ≡ true
    asked true t h e = h
    asked false t h e = cc

-- the state before a switch
emptied_kept : Keeps emptied healed_pointers
emptied_kept = tests_tell _ _ _ _ (homes_of emptied_cells) (keys_of emptied_list) (covers first_part (active 1 (codes "300")) emptied_cells emptied_list) refl

is_emptied : IsEmptied emptied
is_emptied home s stands at =
    none s.copied (home.number == 1)
    (at_this emptied (λ home s. s.copied || not (home.number == 1)) (homes_of emptied_cells) refl home s stands.here (cells_cover emptied_cells home s stands.here)) stands.uncopied (eq-eqb home.number 1 at)
  where
    none : (copied input : Bool) → (copied || not input) ≡ true → copied ≡ false → input ≡ true → ⊥
    none true input h c i = cc
    none false true h c i = cc
    none false false h c i = cc

abbrev gone : List Home
gone = home 1 16 ∷ home 1 48 ∷ home 1 96 ∷ home 1 80 ∷ []

pub can_happen : SchemasAreKept → EntriesAreOfSources → CanHappen
can_happen kept sources =
    let types = example_schema.types in
    let idle = are_kept.idle.rules.0 in
    let begins = kept_by idle_view start idle_pointers idle_pointers
    (turns_are_lawful types is_indexed idle_view _ idle_pointers idle_pointers ((reorganizations_turn idle_view.part idle_view.state).start refl) idle refl) idle in
    let copies = kept_by begun first_unit idle_pointers idle_pointers
    (units_are_lawful types is_indexed begun record_in first_moves (At (codes "001")) (rows_at active_cells) idle_pointers idle_pointers (may_be_copied kept sources) begins refl) begins in
    record {
      begins = begins;
      copies = copies;
      heals = kept_by copied heal idle_pointers healed_pointers
          (turns_are_lawful types is_indexed copied copied.state idle_pointers healed_pointers (reorganizations_turn copied.part copied.state).heal copies refl) copies;
      comes = kept_by idle_view new_root idle_pointers with_new_root
          (insertions_are_lawful types is_indexed idle_view (home 1 200) _ (rows_at idle_cells) idle_pointers with_new_root
          (record { free = refl; name = refl; uncopied = refl; low = omega arith; live = refl; root = λ root. refl }) idle refl) idle;
      changes = kept_by idle_view other_content idle_pointers idle_pointers
          (replacements_are_lawful types is_indexed idle_view (home 1 16) (codes "001zz") (rows_at idle_cells) idle_pointers idle_pointers (λ s here root. changed s here) idle refl) idle;
      goes = kept_by idle_view first_span idle_pointers without_span
          (deletions_are_lawful types is_indexed idle_view gone (rows_at idle_cells) idle_pointers without_span
          (record {
            uncopied = λ home s among here. not_true s.copied (in_idle (λ home s. not s.copied) refl home s here);
            unpointed = λ p home on out.
                not_true (bears idle_view p.eps.name p.code home)
                (each_at (λ h. not (bears idle_view p.eps.name p.code h)) gone (at_each (λ p. list_all (λ h. not (bears idle_view p.eps.name p.code h)) gone) without_span refl p on) home out);
          }) idle refl) idle;
      all_copied = emptied_kept;
      switches = kept_by emptied (switch emptied) healed_pointers healed_pointers (switches_are_lawful types is_indexed emptied healed_pointers healed_pointers refl is_emptied emptied_kept refl) emptied_kept;
    }
  where
    changed : (s : Segment) → idle_view.segments (home 1 16) ≡ Some s → segment_key example_schema.types (record s { content = codes "001zz" }) ≡ segment_key example_schema.types s
    changed s here =
        let is : cell 1 r1 (codes "001aa") ≡ s = cc in
        subst (λ (s : Segment). segment_key example_schema.types (record s { content = codes "001zz" }) ≡ segment_key example_schema.types s) is refl
