-- The sides of a walked partition are in hierarchic sequence.
use Rattle.std.proofs.Common.{◌≡◌, ℕ, zero, suc, ◌+◌, ◌==◌, Bool, true, false, not, cond, ◌&&◌, ◌||◌, List, [], ◌∷◌, map, Option, None, Some, is_some, refl, sym, ap, subst, ◌∙◌}
use Rattle.std.specs.List.{list_all, slice_get}
use Rattle.std.specs.Option.{option_map_or}
use Rattle.std.proofs.lemmas.Bool.{and_from, eqb-true, false≢true}
use Rattle.hal_schema.specs.Facts.{SchemasAreKept}
use Rattle.hal_schema.specs.Forest.{all_pairs, names_apart, has_length, rows_are_named, rows_are_below_parents, types_rise, twins_rise, is_selected}
use Rattle.hal_schema.specs.Roots.{partition_of}
use Rattle.hal_schema.specs.Row.{row_key}
use Rattle.forest_laws.specs.Joining.{is_in_sequence}
use Rattle.forest_laws.proofs.Lists.{Among, among_passes, all_among}
use Rattle.record_walk.specs.Listing.{Placed, list_in, rows_of}
use Rattle.record_walk.specs.Side.{heads_in, key_of, belongs, roots_rise, seen}
use Rattle.record_walk.specs.Siblings.{twins_follow_in, SiblingsRise}
use Rattle.record_walk.specs.Parents.{ParentsStandFirst}
use Rattle.record_walk.proofs.Joined.{rows_pass}
use Rattle.forest_laws.proofs.Names.{same_some}
use Rattle.volume_rules.specs.View.{View, is_live, is_moving}
use Rattle.volume_rules.specs.SideForest.{KeepsSides, SidesAreAForest}
use Rattle.walked_rules.specs.Parts.{WalkedPart, view_of, side_at, volume_of}
use Rattle.walked_rules.specs.Laws.{WalkedRowsStand, WalkedPartsKeepRule7, WalkedNamesDiffer, WalkedSidesAreKept, WalkedVolumesAreForests}
use Rattle.walked_rules.proofs.RootsOfWalks.{root_rows}
use Rattle.walked_rules.proofs.ListsOfWalks.{own_lives, output_lives, part_sides}

pub walked_sides_are_kept : SchemasAreKept → WalkedRowsStand → WalkedPartsKeepRule7 → WalkedNamesDiffer → SiblingsRise → ParentsStandFirst → WalkedSidesAreKept
walked_sides_are_kept kept rows rule7 names siblings parents schema p walked rest = record {
  defined = rest.defined;
  numbered = rest.numbered;
  cursor = rest.cursor;
  rows = rows schema p walked;
  rule6 = rest.rule6;
  rule7 = rule7 schema p walked (names schema p walked rest.rule6) rest.twins;
  rule10 = rest.rule10;
  sequence = ap (list_all (is_in_sequence schema)) (part_sides p) ∙ both (is_moving p.state) refl;
}
  where
    selected : (number : ℕ) → is_live p.state number ≡ true → (q : Placed) → Among q (list_in None (p.trees number)) → is_selected schema q.row ≡ true
    selected number live q a = by (q.row.code == 1) refl
      where
        some : (o : Option ℕ) → option_map_or (λ n. n == p.place) o false ≡ true → is_some o ≡ true
        some None h = absurd (false≢true h)
        some (Some n) h = refl

        by : (b : Bool) → (q.row.code == 1) ≡ b → (not b || is_some (partition_of schema (row_key schema.types q.row))) ≡ true
        by false e = refl
        by true e =
            let w = (walked number live).walked in
            let r = root_rows kept schema (p.trees number) w.typed q a (eqb-true q.row.code 1 e) in
            ap (λ (x : Placed). is_some (partition_of schema (row_key schema.types x.row))) (sym r.is)
            ∙ some (partition_of schema (key_of schema r.root)) (among_passes (belongs schema p.place) r.root (heads_in (p.trees number)) r.among w.roots_belong)

    sequence : (number : ℕ) → is_live p.state number ≡ true → is_in_sequence schema (rows_of (list_in None (p.trees number))) ≡ true
    sequence number live =
        let w = (walked number live).walked in
        let list : List Placed = list_in None (p.trees number) in
        let apart = names schema p walked rest.rule6 number live in
        let order = siblings schema (p.trees number) w.typed apart in
        and_from (rows_are_named schema.types (rows_of list) && rows_are_below_parents schema.types (rows_of list) && types_rise (rows_of list) && twins_rise schema (rows_of list)) (list_all (is_selected schema) (rows_of list))
        (and_from (rows_are_named schema.types (rows_of list) && rows_are_below_parents schema.types (rows_of list) && types_rise (rows_of list)) (twins_rise schema (rows_of list))
        (and_from (rows_are_named schema.types (rows_of list) && rows_are_below_parents schema.types (rows_of list)) (types_rise (rows_of list))
        (and_from (rows_are_named schema.types (rows_of list)) (rows_are_below_parents schema.types (rows_of list))
        (and_from (all_pairs names_apart (rows_of list)) (list_all (has_length schema.types) (rows_of list)) apart (rest.lengths number live))
        (parents schema (seen schema.phdam (p.cells number)) (map (λ r. r.home) (p.roots number)) (p.trees number) (record { from = record { hang = w.hangs; first = w.rows_lead }; typed = w.typed; once = w.once })))
        order.types)
        (order.twins ∙ and_from (roots_rise schema (heads_in (p.trees number))) (twins_follow_in schema (p.trees number)) w.roots_are_rising (rest.twins number live)))
        (sym (rows_pass (is_selected schema) list) ∙ all_among (λ q. is_selected schema q.row) list (selected number live))

    both : (m : Bool) → is_moving p.state ≡ m
        → list_all (is_in_sequence schema) (map (λ side. rows_of (list_in None side.trees)) (cond m (side_at p (p.state.number + 1) ∷ side_at p p.state.number ∷ []) (side_at p p.state.number ∷ []))) ≡ true
    both true e =
        and_from (is_in_sequence schema (rows_of (list_in None (p.trees (p.state.number + 1))))) (is_in_sequence schema (rows_of (list_in None (p.trees p.state.number))) && true) (sequence (p.state.number + 1) (output_lives p e))
        (and_from (is_in_sequence schema (rows_of (list_in None (p.trees p.state.number)))) true (sequence p.state.number (own_lives p)) refl)
    both false e = and_from (is_in_sequence schema (rows_of (list_in None (p.trees p.state.number)))) true (sequence p.state.number (own_lives p)) refl

-- ---- a volume of walked partitions

record PartOf (parts : List WalkedPart) (place : ℕ) (view : View) : Type 0 where
  pub part : WalkedPart
  pub here : slice_get parts place ≡ Some part
  pub is : view_of part ≡ view

part_of : (parts : List WalkedPart) (place : ℕ) (view : View) → slice_get (map view_of parts) place ≡ Some view → PartOf parts place view
part_of [] place view e = cc
part_of (p ∷ parts) zero view e = record { part = p; here = refl; is = same_some (view_of p) view e }
part_of (p ∷ parts) (suc place) view e = let x = part_of parts place view e in record { part = x.part; here = x.here; is = x.is }

pub walked_volumes_are_forests : WalkedSidesAreKept → SidesAreAForest → WalkedVolumesAreForests
walked_volumes_are_forests sides forest schema parts indexes each =
    forest schema (volume_of parts indexes) (λ place view here.
    let x = part_of parts place view here in
    let at = each place x.part x.here in
    subst (KeepsSides schema place) x.is (subst (λ (n : ℕ). KeepsSides schema n (view_of x.part)) at.stands (sides schema x.part at.walked at.rest)))
