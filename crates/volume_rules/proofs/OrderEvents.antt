-- Events that bring no row leave the order of the rows.
use Rattle.std.proofs.Common.{◌≡◌, ℕ, ◌==◌, Bool, true, false, ◌&&◌, ◌||◌, cond, not, List, [], ◌∷◌, Option, None, Some, refl, ◌∙◌}
use Rattle.std.specs.List.{list_all, list_any}
use Rattle.std.specs.Str.{bytes_eq}
use Rattle.std.proofs.lemmas.Bool.{and_from, eq-eqb, or_left, or_right}
use Rattle.std.proofs.lemmas.Slice.Eq.{bytes_eq-Decides}
use Rattle.hal_base.specs.declared.place.Ilk.{Ilk}
use Rattle.hal_schema.specs.declared.row.Row.{Row}
use Rattle.hal_schema.specs.declared.schema.Schema.{Schema}
use Rattle.hal_schema.specs.declared.schema.SegType.{SegType}
use Rattle.hal_schema.specs.Forest.{all_pairs, in_twin_order}
use Rattle.hal_schema.specs.Row.{same_parent, row_key}
use Rattle.hal_schema.proofs.RowNames.{name_from}
use Rattle.volume_rules.specs.View.{Homed, View}
use Rattle.volume_rules.specs.Delta.{Stays, Dropped}
use Rattle.volume_rules.specs.Events.{among}
use Rattle.volume_rules.specs.Sides.{OwesBelonging, is_twin_like, stood_so, are_in_order}
use Rattle.volume_rules.specs.SideEvents.{home_of, rows_without, EventsKeepOrder}
use Rattle.volume_rules.proofs.RowEvents.{any_self, pairs_filtered}
use Rattle.volume_rules.proofs.SidesKept.{pairs_weaker, all_weaker}

parent_itself : (p : Option Ilk) → same_parent p p ≡ true
parent_itself None = refl
parent_itself (Some a) = name_from a a refl

like_itself : (types : List SegType) (a : Row) → is_twin_like types a a ≡ true
like_itself types a =
    and_from (a.code == a.code && same_parent a.parent a.parent) (bytes_eq (row_key types a) (row_key types a))
    (and_from (a.code == a.code) (same_parent a.parent a.parent) (eq-eqb a.code a.code refl) (parent_itself a.parent)) ((bytes_eq-Decides (row_key types a) (row_key types a)).1 refl)

-- each two rows of a list stand so in it
pairs_self : (types : List SegType) (rows : List Homed) → all_pairs (stood_so types rows) rows ≡ true
pairs_self types [] = refl
pairs_self types (x ∷ rows) =
    and_from (list_all (stood_so types (x ∷ rows) x) rows) (all_pairs (stood_so types (x ∷ rows)) rows)
    (all_weaker (λ b. list_any (λ y. is_twin_like types y.row b.row) rows) (stood_so types (x ∷ rows) x) (λ b h. first b h) rows
    (any_self (λ y b. is_twin_like types y.row b.row) (λ b. like_itself types b.row) rows))
    (pairs_weaker (stood_so types rows) (stood_so types (x ∷ rows))
    (λ a b h. or_right (list_any (λ y. is_twin_like types x.row a.row && is_twin_like types y.row b.row) rows) (stood_so types rows a b) h) rows (pairs_self types rows))
  where
    both : (rows : List Homed) (b : Homed) → list_any (λ y. is_twin_like types y.row b.row) rows ≡ true → list_any (λ y. is_twin_like types x.row x.row && is_twin_like types y.row b.row) rows ≡ true
    both rows b h = (λ i. list_any (λ y. like_itself types x.row i && is_twin_like types y.row b.row) rows) ∙ h

    first : (b : Homed) → list_any (λ y. is_twin_like types y.row b.row) rows ≡ true → stood_so types (x ∷ rows) x b ≡ true
    first b h = or_left (list_any (λ y. is_twin_like types x.row x.row && is_twin_like types y.row b.row) rows) (stood_so types rows x b) (both rows b h)

in_order : (schema : Schema) (view : View) (number : ℕ) (rows : List Homed) → all_pairs (stood_so schema.types (view.rows number)) rows ≡ true → are_in_order schema view number rows ≡ true
in_order schema view number rows h =
    pairs_weaker (stood_so schema.types (view.rows number))
    (λ a b. stood_so schema.types (view.rows number) a b || stood_so schema.types (view.rows view.state.number) a b || in_twin_order schema a.row b.row)
    (λ a b k.
    or_left (stood_so schema.types (view.rows number) a b || stood_so schema.types (view.rows view.state.number) a b) (in_twin_order schema a.row b.row)
    (or_left (stood_so schema.types (view.rows number) a b) (stood_so schema.types (view.rows view.state.number) a b) k)) rows h

pub events_keep_order : EventsKeepOrder
events_keep_order schema place view = record {
  turn = λ state. record { fates = λ home. tt; order = λ number. in_order schema view number (view.rows number) (pairs_self schema.types (view.rows number)) };
  delete = λ homes. record {
    fates = λ home. owes (among homes home);
    order = λ number.
        in_order schema view number (rows_without view homes number)
        (pairs_filtered (λ r. not (among homes (home_of number r))) (stood_so schema.types (view.rows number)) (view.rows number) (pairs_self schema.types (view.rows number)));
  };
  switched = record {
    fates = λ home. owes (home.number == view.state.number);
    order = λ number. in_order schema view number (view.rows number) (pairs_self schema.types (view.rows number));
  };
}
  where
    owes : (b : Bool) → OwesBelonging schema place (cond b Dropped Stays)
    owes true = tt
    owes false = tt
