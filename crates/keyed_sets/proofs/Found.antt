-- What a spot that was found says of its key's row, and what a put over a part of it leaves.
use Rattle.std.proofs.Common.{◌≡◌, ℕ, ◌*◌, ◌<◌, Bool, true, false, cond, List, length, drop, Option, Some, None, sym, ap, subst, ◌∙◌, arith}
use Rattle.std.specs.Prelude.{IfSome, slice_get, is_some}
use Rattle.std.specs.Option.{option_map}
use Rattle.std.proofs.lemmas.Option.{same_Some}
use Rattle.std.proofs.lemmas.List.{length-drop}
use Rattle.hal_base.specs.ShelfCalls.{ShelfView, SameShelf}
use Rattle.keyed_sets.specs.declared.row.RowShape.{RowShape}
use Rattle.keyed_sets.specs.declared.seek.Spot.{Spot}
use Rattle.keyed_sets.specs.declared.set.KeyedSet.{KeyedSet}
use Rattle.keyed_sets.specs.Calls.{IsOpened, PutsIn, PutsOver, Inserts, Overwrites}
use Rattle.keyed_sets.specs.Layout.{Row, HasShape, HasPlace, rows_in, row_of, row_length, count_of}
use Rattle.keyed_sets.specs.Map.{lookup, rows_of, written_over}
use Rattle.keyed_sets.specs.PageFacts.{HasKeyAt}
use Rattle.keyed_sets.specs.Places.{HasNoRows}
use Rattle.keyed_sets.specs.Goes.{IsBegun}
use Rattle.keyed_sets.specs.Rule.{capacity, tables}
use Rattle.keyed_sets.specs.Reading.{IsSought}
use Rattle.keyed_sets.proofs.Rows.{row_there, row_shaped, row_ends}
use Rattle.keyed_sets.proofs.Spots.{At, at_told, found_at, first_begins}
use Rattle.keyed_sets.proofs.Told.{where_told, told_both}

-- the row at a place of a page
row_at : RowShape → List ℕ → ℕ → Row
row_at shape page at = row_of shape (drop (row_length shape * at) (drop 16 page))

row_is : (shape : RowShape) (page : List ℕ) (at : ℕ) → at < count_of page → slice_get (rows_in shape page) at ≡ Some (row_at shape page at)
unfolding row_at
row_is shape page at lt = row_there shape (count_of page) (drop 16 page) at lt

row_fits : (shape : RowShape) (page : List ℕ) (at : ℕ) → HasPlace shape page → length page ≡ 4096 → at < count_of page → HasShape shape (row_at shape page at)
unfolding row_at
row_fits shape page at place long lt =
    row_shaped shape (drop (row_length shape * at) (drop 16 page)) (omega (arith, length-drop (row_length shape * at) (drop 16 page), length-drop 16 page, row_ends shape page at lt place, long))

-- a row put over one that was found has that one's lengths
pub shaped_over : (shape : RowShape) (page : List ℕ) (at : ℕ) (key body : List ℕ) → HasPlace shape page → length page ≡ 4096 → HasKeyAt shape page at key → length body ≡ shape.body → HasShape shape (key, body)
shaped_over shape page at key body place long there size =
    let is : (row_at shape page at).0 ≡ key = same_Some _ _ (sym (ap (option_map (λ (row : Row). row.0)) (row_is shape page at there.within)) ∙ there.is) in
    let fits = row_fits shape page at place long there.within in
    record { key = ap length (sym is) ∙ fits.key; body = size }

looked_up : (id : KeyedSet) (key : List ℕ) (spot : Spot) (page : List ℕ) (pages : List (List ℕ)) → At id key spot page pages → spot.found ≡ true → lookup key (rows_of id.shape pages) ≡ Some ((row_at id.shape page spot.at).1)
looked_up id key spot page pages a found =
    let rows : List Row = rows_in id.shape page in
    let at : Option (List ℕ) = option_map (λ (row : Row). row.1) (slice_get rows spot.at) in
    sym (found_at id key spot page pages a) ∙ ap (λ (b : Bool). cond b at None) found ∙ ap (option_map (λ (row : Row). row.1)) (row_is id.shape page spot.at (a.found found).within)

pub over_told : (id : KeyedSet) (key : List ℕ) (spot : Spot) (page : List ℕ) (offset : ℕ) (part body : List ℕ) (seen before after : ShelfView) → IsOpened id seen → IsSought id key spot page seen → spot.found ≡ true → length page ≡ 4096
    → option_map (λ (row : Row). written_over offset part (row.1)) (slice_get (rows_in id.shape page) spot.at) ≡ Some body → PutsIn id (key, body) before after → before.pages id.set ≡ seen.pages id.set → PutsOver id key offset part before after
over_told id key spot page offset part body seen before after opened s found long is puts same =
    let lt : spot.at < count_of page = (s.found found).within in
    let old : List ℕ = (row_at id.shape page spot.at).1 in
    let body_is : body ≡ written_over offset part old =
    same_Some _ _ (sym is ∙ ap (option_map (λ (row : Row). written_over offset part (row.1))) (row_is id.shape page spot.at lt)) in
    record {
      body = old;
      long = (row_fits id.shape page spot.at s.read.place long lt).body;
      was = where_told (before.pages id.set) (λ pages. lookup key (rows_of id.shape pages) ≡ Some old)
          (λ pages told. looked_up id key spot page pages (at_told id key spot page seen opened s pages (sym same ∙ told)) found);
      puts = subst (λ (b : List ℕ). PutsIn id (key, b) before after) body_is puts;
    }

-- whether the row was found is whether the map has one
pub found_some : (id : KeyedSet) (key : List ℕ) (spot : Spot) (page : List ℕ) (seen : ShelfView) → IsOpened id seen → IsSought id key spot page seen → spot.found ≡ true → IfSome (seen.pages id.set) (λ pages. true ≡ is_some (lookup key (rows_of id.shape pages)))
found_some id key spot page seen opened s found = where_told (seen.pages id.set) (λ pages. true ≡ is_some (lookup key (rows_of id.shape pages))) (λ pages is.
    sym (ap is_some (looked_up id key spot page pages (at_told id key spot page seen opened s pages is) found)))

pub not_some : (id : KeyedSet) (key : List ℕ) (seen : ShelfView) → IfSome (seen.pages id.set) (λ pages. None ≡ lookup key (rows_of id.shape pages)) → IfSome (seen.pages id.set) (λ pages. false ≡ is_some (lookup key (rows_of id.shape pages)))
not_some id key seen none = told_both (seen.pages id.set) (λ pages. None ≡ lookup key (rows_of id.shape pages)) (λ pages. false ≡ is_some (lookup key (rows_of id.shape pages))) none (λ pages is no. ap is_some no)

-- the first row of a set begins a page
pub begins_first : (id : KeyedSet) (seen : ShelfView) (key : List ℕ) → IfSome (seen.pages id.set) (λ pages. HasNoRows (tables id.shape pages)) → IfSome (seen.pages id.set) (λ pages. IsBegun (capacity id.shape) key (tables id.shape pages))
begins_first id seen key none = told_both (seen.pages id.set) (λ pages. HasNoRows (tables id.shape pages)) (λ pages. IsBegun (capacity id.shape) key (tables id.shape pages)) none
    (λ pages is nothing. first_begins (capacity id.shape) key (tables id.shape pages) nothing)

-- what was done and what wasn't
pub inserted : (id : KeyedSet) (row : Row) (before after : ShelfView) → IfSome (before.pages id.set) (λ pages. false ≡ is_some (lookup (row.0) (rows_of id.shape pages))) → PutsIn id row before after → Inserts id row before after true
inserted id row before after was puts = record { was = was; puts = λ is. puts; same = λ is. absurd (is_not is) }
  where
    is_not : true ≡ false → ⊥
    is_not is = cc

pub not_inserted : (id : KeyedSet) (row : Row) (before after : ShelfView) → IfSome (before.pages id.set) (λ pages. true ≡ is_some (lookup (row.0) (rows_of id.shape pages))) → SameShelf before after → Inserts id row before after false
not_inserted id row before after was same = record { was = was; puts = λ is. absurd (is_not is); same = λ is. same }
  where
    is_not : false ≡ true → ⊥
    is_not is = cc

pub written : (id : KeyedSet) (key : List ℕ) (offset : ℕ) (part : List ℕ) (before after : ShelfView) → IfSome (before.pages id.set) (λ pages. true ≡ is_some (lookup key (rows_of id.shape pages))) → PutsOver id key offset part before after → Overwrites id key offset part before after true
written id key offset part before after was puts = record { was = was; puts = λ is. puts; same = λ is. absurd (is_not is) }
  where
    is_not : true ≡ false → ⊥
    is_not is = cc

pub not_written : (id : KeyedSet) (key : List ℕ) (offset : ℕ) (part : List ℕ) (before after : ShelfView) → IfSome (before.pages id.set) (λ pages. false ≡ is_some (lookup key (rows_of id.shape pages))) → SameShelf before after → Overwrites id key offset part before after false
not_written id key offset part before after was same = record { was = was; puts = λ is. absurd (is_not is); same = λ is. same }
  where
    is_not : false ≡ true → ⊥
    is_not is = cc
