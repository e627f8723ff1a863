-- The places of the plain view of a forest, and what is left of one.
use Rattle.std.proofs.Common.{◌≡◌, Bool, true, false, not, cond, List, [], ◌∷◌, Option, None, Some, ◌⊎◌, inl, inr, refl, sym, ap, ◌∙◌}
use Rattle.std.specs.Prelude.{filter, find, IfSome}
use Rattle.std.specs.List.{list_any, last_or, AllByRecursion}
use Rattle.std.specs.Option.{option_map_or}
use Rattle.std.specs.Str.{bytes_eq}
use Rattle.std.proofs.lemmas.Slice.Eq.{bytes_eq-Decides}
use Rattle.position_state.specs.declared.session.Anchor.{Anchor}
use Rattle.position_state.specs.declared.session.Anchor.TheVariants.{Front, At}
use Rattle.position_state.specs.declared.spot.Spot.{Spot}
use Rattle.position_state.specs.View.{is_at, up_to, all_up_to, root_named}
use Rattle.position_state.specs.KeepLaws.{RowsArePlaces, IsOfBoth, AnchorsAreOfBoth}
use Rattle.position_state.proofs.KeepLaws.{last_passes}
use Rattle.position_state.proofs.Apart.{IsFoundIn, all_themselves, last_each}
use Rattle.position_state.proofs.Shown.{shown, any_new, shown_apart}
use Rattle.position_state.proofs.Deleting.{forest_names, found_plain, under_found}
use Rattle.position_state.proofs.Leaving.{found_under, row_at_place}

pub rows_are_places : RowsArePlaces
rows_are_places schema rows name root h = (
  λ u.
      let t = under_found schema.types name root [] rows (forest_names schema rows h).0 u in
      ap (λ o. option_map_or (λ (s : Spot). bytes_eq root (root_named s.at)) o false) t.found ∙ (bytes_eq-Decides root (root_named t.spot.at)).1 (ap root_named t.at),
  row_at_place schema rows (At name root None),
)

up_to_each : (P : Spot → Type 0) (at : Anchor) (xs : List Spot) → AllByRecursion P xs → AllByRecursion P (all_up_to at xs)
up_to_each P at [] h = h
up_to_each P at (x ∷ xs) h = (h.0, by (is_at at x) (up_to_each P at xs h.1))
  where
    by : (b : Bool) → AllByRecursion P (all_up_to at xs) → AllByRecursion P (cond b [] (all_up_to at xs))
    by true rest = tt
    by false rest = rest

each_up_to : (P : Spot → Type 0) (at : Anchor) (xs : List Spot) → AllByRecursion P xs → AllByRecursion P (up_to at xs)
each_up_to P Front xs h = tt
each_up_to P (At name root entry) xs h = up_to_each P (At name root entry) xs h

pub anchors_are_of_both : AnchorsAreOfBoth
anchors_are_of_both schema rows new at h =
    by (last_or None (filter there (up_to at view)))
    (last_each (IsFoundIn view) there (up_to at view) None tt (each_up_to (IsFoundIn view) at view (all_themselves view (shown_apart schema.types [] rows (forest_names schema rows h).0))))
    (last_passes there (up_to at view) None refl)
  where
    view : List Spot
    view = shown schema.types [] rows

    there : Spot → Bool
    there spot = list_any (is_at spot.at) (shown schema.types [] new)

    by : (o : Option Spot) → IfSome o (IsFoundIn view) → option_map_or there o true ≡ true
        → (option_map_or (λ (spot : Spot). spot.at) o Front ≡ Front) ⊎ IsOfBoth schema rows new (option_map_or (λ (spot : Spot). spot.at) o Front)
    by None f t = inl refl
    by (Some s) f t =
        let p = found_plain schema.types (is_at s.at) [] rows s f in
        inr
        (record {
          name = p.name;
          root = p.root;
          is = p.is;
          before = found_under schema.types p.name p.root None [] rows s (ap (λ a. find (is_at a) view) (sym p.is) ∙ f) (sym (ap root_named p.is));
          behind = any_new schema.types p.name p.root [] new ∙ ap not (ap (λ a. list_any (is_at a) (shown schema.types [] new)) (sym p.is) ∙ t);
        })
