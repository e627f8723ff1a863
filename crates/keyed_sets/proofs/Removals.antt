-- What a set and its pages are after a row was taken away, where they are told.
use Rattle.std.proofs.Common.{◌≡◌, ℕ, ◌<◌, Bool, true, false, cond, List, [], ◌∷◌, length, get_or, drop, set, map, ltb, Option, Some, None, inl, inr, refl, sym, ap, subst, ◌∙◌, arith}
use Rattle.std.specs.Prelude.{Contains, IfSome, IsSomeAnd, All, is_some}
use Rattle.std.specs.List.{remove}
use Rattle.std.specs.Option.{option_map}
use Rattle.std.proofs.lemmas.Bool.{cases_Bool, cases_eq}
use Rattle.std.proofs.lemmas.Option.{none-some, slice_get_within}
use Rattle.std.proofs.lemmas.List.{length-map}
use Rattle.std.proofs.lemmas.List.Elements.{Contains-get_or, All-cons, All-head, All-tail}
use Rattle.hal_base.specs.ShelfCalls.{ShelfView}
use Rattle.keyed_sets.specs.declared.index.First.{First}
use Rattle.keyed_sets.specs.declared.seek.Spot.{Spot}
use Rattle.keyed_sets.specs.declared.set.KeyedSet.{KeyedSet}
use Rattle.keyed_sets.specs.Calls.{IsOpened, Removes}
use Rattle.keyed_sets.specs.Changes.{placed}
use Rattle.keyed_sets.specs.Layout.{Row, rows_in, rows_from, count_of, is_below, PutsRows}
use Rattle.keyed_sets.specs.Map.{lookup, rows_of, without_row}
use Rattle.keyed_sets.specs.Rule.{tables, page_rows}
use Rattle.keyed_sets.specs.Reading.{IsSought, home_page}
use Rattle.keyed_sets.specs.Standing.{Apart, StartsWith, Stands, with_number}
use Rattle.keyed_sets.specs.Taken.{AreApart}
use Rattle.keyed_sets.specs.Writing.{first_at}
use Rattle.keyed_sets.proofs.Keys.{below_upto}
use Rattle.keyed_sets.proofs.Maps.{lookup_is, same_rows, without_row_has, without_row_old, without_row_rises}
use Rattle.keyed_sets.proofs.Rows.{length-rows_in}
use Rattle.keyed_sets.proofs.Tables.{first_row, from_first}
use Rattle.keyed_sets.proofs.Openings.{before_by_first}
use Rattle.keyed_sets.proofs.Sets.{IsIn, lawful, in_rows, rows_rise, one_place}
use Rattle.keyed_sets.proofs.Told.{where_told, told_at}
use Rattle.keyed_sets.proofs.Lookups.{nowhere, key_at_is}
use Rattle.keyed_sets.proofs.Placing.{placed_or, placed_here, placed_other, apart_fewer, rows_without, front_below, back_above, in_back}
use Rattle.keyed_sets.proofs.Removes.{remove_is, map_without, map_without_none, Written, written_table, written_apart, written_stands, emptied_stands}
use Rattle.keyed_sets.proofs.Spots.{At, at_told, only_home}

-- what is said of pages that were told, once they were changed
pub staged_told : (told told2 : Option (List (List ℕ))) (f : List (List ℕ) → List (List ℕ)) (P : List (List ℕ) → Type 0) → told2 ≡ option_map f told → ((pages : List (List ℕ)) → told ≡ Some pages → P (f pages)) → IfSome told2 P
staged_told None told2 f P staged holds = subst (λ o. IfSome o P) (sym staged) tt
staged_told (Some pages) told2 f P staged holds = subst (λ o. IfSome o P) (sym staged) (holds pages refl)

-- a key without a row
pub none_removed : (set : KeyedSet) (before after : ShelfView) (key : List ℕ) → after.pages set.set ≡ before.pages set.set → IfSome (before.pages set.set) (λ pages. None ≡ lookup key (rows_of set.shape pages)) → IsOpened set before → Removes set before after key false
none_removed set before after key same none opened =
    let told = before.pages set.set in
    let missing = λ (pages : List (List ℕ)) (is : told ≡ Some pages) (x : Row) (c : Contains (rows_of set.shape pages) x) (keyed : x.0 ≡ key).
    none-some (x.1) (told_at told pages (λ l. None ≡ lookup key (rows_of set.shape l)) is none ∙ lookup_is key (rows_of set.shape pages) (rows_rise set.shape pages) x c keyed) in
    record {
      was = where_told told (λ pages. false ≡ is_some (lookup key (rows_of set.shape pages))) (λ pages is. ap is_some (told_at told pages (λ l. None ≡ lookup key (rows_of set.shape l)) is none));
      changes = record {
        pages = where_told told (λ pages. IsSomeAnd (after.pages set.set) (λ now. tables set.shape now ≡ map (without_row key) (tables set.shape pages))) (λ pages is.
            subst (λ o. IsSomeAnd o (λ now. tables set.shape now ≡ map (without_row key) (tables set.shape pages))) (sym (same ∙ is))
            (sym (map_without_none key (tables set.shape pages) (λ x c. missing pages is x (in_rows set.shape pages (lawful set.shape pages (opened.rule pages is)) x c)))));
        rows = where_told told (λ pages. IsSomeAnd (after.pages set.set) (λ now. rows_of set.shape now ≡ without_row key (rows_of set.shape pages))) (λ pages is.
            subst (λ o. IsSomeAnd o (λ now. rows_of set.shape now ≡ without_row key (rows_of set.shape pages))) (sym (same ∙ is))
            (same_rows (rows_of set.shape pages) (without_row key (rows_of set.shape pages)) (rows_rise set.shape pages) (without_row_rises key (rows_of set.shape pages) (rows_rise set.shape pages))
            (λ x c. without_row_old key (rows_of set.shape pages) x c (missing pages is x c)) (λ x c. (without_row_has key (rows_of set.shape pages) (rows_rise set.shape pages) x c).0)));
      };
    }

-- a row that is there is taken away
pub record Taking (set : KeyedSet) (key : List ℕ) (spot : Spot) (page page2 : List ℕ) (pages : List (List ℕ)) : Type 0 where
  pub at : At set key spot page pages
  pub found : spot.found ≡ true
  pub puts : PutsRows set.shape page page2 (remove (rows_in set.shape page) spot.at)

taken_lt : (set : KeyedSet) (key : List ℕ) (spot : Spot) (page page2 : List ℕ) (pages : List (List ℕ)) → Taking set key spot page page2 pages → spot.at < length (rows_in set.shape page)
taken_lt set key spot page page2 pages t = omega (arith, (t.at.found t.found).within, length-rows_in set.shape page)

pub removing : (set : KeyedSet) (key : List ℕ) (spot : Spot) (page page2 : List ℕ) (pages : List (List ℕ)) → Taking set key spot page page2 pages
    → Written set.shape pages set.index.firsts.items set.index.empty.items spot.home (first_at spot.home set.index.firsts.items) page page2 (without_row key (rows_in set.shape page))
removing set key spot page page2 pages t =
    let rows : List Row = rows_in set.shape page in
    let lt = taken_lt set key spot page page2 pages t in
    record {
      stands = t.at.stands;
      within = t.at.within;
      is = t.at.is;
      read = t.at.read;
      puts = subst (PutsRows set.shape page page2) (remove_is rows spot.at key nowhere t.at.rise lt (key_at_is rows spot.at key lt (t.at.found t.found).is)) t.puts;
      rise = without_row_rises key rows t.at.rise;
      clear = λ m other. apart_fewer (page_rows (tables set.shape pages) m) rows (without_row key rows) (λ x c. (without_row_has key rows t.at.rise x c).0)
          (subst (Apart (page_rows (tables set.shape pages) m)) t.at.rows ((lawful set.shape pages t.at.stands.rule).apart m (home_page set spot) other));
    }

removed_rows : (id : KeyedSet) (key : List ℕ) (spot : Spot) (page page2 : List ℕ) (pages : List (List ℕ)) → Taking id key spot page page2 pages
    → (tables id.shape (set pages (home_page id spot) page2) ≡ map (without_row key) (tables id.shape pages)) × (rows_of id.shape (set pages (home_page id spot) page2) ≡ without_row key (rows_of id.shape pages))
removed_rows id key spot page page2 pages t =
    let shape = id.shape in
    let firsts : List First = id.index.firsts.items in
    let empty : List ℕ = id.index.empty.items in
    let p : First = first_at spot.home firsts in
    let rows : List Row = rows_in shape page in
    let table : List (List Row) = tables shape pages in
    let rise = t.at.rise in
    let apart = lawful shape pages t.at.stands.rule in
    let same = t.at.rows in
    let w = removing id key spot page page2 pages t in
    let grown = written_table shape pages firsts empty spot.home p page page2 (without_row key rows) w in
    let inside : p.page < length table = omega (arith, slice_get_within pages p.page page t.at.read, length-map pages (rows_in shape)) in
    let only = only_home id key spot page pages t.at in
    let mapped : tables shape (set pages p.page page2) ≡ map (without_row key) table =
    grown ∙ ap (λ (l : List Row). placed p.page (without_row key l) table) (sym same) ∙ map_without key table p.page inside only apart in
    let are : AreApart (tables shape (set pages p.page page2)) = subst AreApart (sym grown) (written_apart shape pages firsts empty spot.home p page page2 (without_row key rows) w) in (
      mapped,
      rows_without shape pages (set pages p.page page2) key apart are
          (λ x c. elim (placed_or p.page (without_row key rows) table (omega (arith, inside)) c.0 x (subst (λ (l : List (List Row)). Contains (page_rows l c.0) x) grown c.1)) [
            | inl here ↦
                let old = without_row_has key rows rise x here.1 in
                ((p.page, subst (λ (l : List Row). Contains l x) (sym same) old.0), old.1)
            | inr there ↦ ((c.0, there.1), λ is. there.0 (one_place table apart c.0 p.page x x there.1 (only x (c.0, there.1) is) refl))
          ])
          (λ x c other. subst (λ (l : List (List Row)). IsIn l x) (sym grown) (elim (cases_eq c.0 p.page) [
            | inl here ↦ (
              p.page,
              subst (λ (l : List Row). Contains l x) (sym (placed_here p.page (without_row key rows) table (omega (arith, inside))))
                  (without_row_old key rows x (subst (λ (l : List Row). Contains l x) (ap (page_rows table) here ∙ same) c.1) other),
            )
            | inr apart_from ↦ (c.0, subst (λ (l : List Row). Contains l x) (sym (placed_other p.page (without_row key rows) table c.0 (omega (arith, inside)) apart_from)) c.1)
          ])),
    )

pub removed : (id : KeyedSet) (key : List ℕ) (spot : Spot) (page page2 : List ℕ) (before after : ShelfView) → IsOpened id before → IsSought id key spot page before → spot.found ≡ true → PutsRows id.shape page page2 (remove (rows_in id.shape page) spot.at)
    → after.pages id.set ≡ option_map (λ pages. set pages (home_page id spot) page2) (before.pages id.set) → Removes id before after key true
removed id key spot page page2 before after opened s found puts staged =
    let told = before.pages id.set in
    let taking : (pages : List (List ℕ)) → told ≡ Some pages → Taking id key spot page page2 pages = λ pages is. record { at = at_told id key spot page before opened s pages is; found = found; puts = puts } in
    let now : (pages : List (List ℕ)) → told ≡ Some pages → after.pages id.set ≡ Some (set pages (home_page id spot) page2) = λ pages is. staged ∙ ap (option_map (λ (l : List (List ℕ)). set l (home_page id spot) page2)) is in
    record {
      was = where_told told (λ pages. true ≡ is_some (lookup key (rows_of id.shape pages))) (λ pages is.
          let t = taking pages is in
          let rows : List Row = rows_in id.shape page in
          let lt = taken_lt id key spot page page2 pages t in
          let z : Row = get_or rows spot.at nowhere in
          let apart = lawful id.shape pages t.at.stands.rule in
          sym (ap is_some (lookup_is key (rows_of id.shape pages) (rows_rise id.shape pages) z (in_rows id.shape pages apart z (home_page id spot, subst (λ (l : List Row). Contains l z) (sym t.at.rows) (Contains-get_or rows spot.at nowhere lt)))
          (key_at_is rows spot.at key lt (t.at.found found).is))));
      changes = record {
        pages = where_told told (λ pages. IsSomeAnd (after.pages id.set) (λ l. tables id.shape l ≡ map (without_row key) (tables id.shape pages))) (λ pages is.
            subst (λ o. IsSomeAnd o (λ l. tables id.shape l ≡ map (without_row key) (tables id.shape pages))) (sym (now pages is)) (removed_rows id key spot page page2 pages (taking pages is)).0);
        rows = where_told told (λ pages. IsSomeAnd (after.pages id.set) (λ l. rows_of id.shape l ≡ without_row key (rows_of id.shape pages))) (λ pages is.
            subst (λ o. IsSomeAnd o (λ l. rows_of id.shape l ≡ without_row key (rows_of id.shape pages))) (sym (now pages is)) (removed_rows id key spot page page2 pages (taking pages is)).1);
      };
    }

pub kept_stands : (id : KeyedSet) (key : List ℕ) (spot : Spot) (page page2 : List ℕ) (pages : List (List ℕ)) (first : List ℕ) → Taking id key spot page page2 pages → StartsWith first (rows_in id.shape page2)
    → Stands id.shape (set id.index.firsts.items spot.home (record { key = first; page = home_page id spot })) id.index.empty.items (set pages (home_page id spot) page2)
kept_stands id key spot page page2 pages first t starts =
    let shape = id.shape in
    let firsts : List First = id.index.firsts.items in
    let p : First = first_at spot.home firsts in
    let rows : List Row = rows_in shape page in
    let stands = t.at.stands in
    let w = removing id key spot page page2 pages t in
    let begins : StartsWith first (without_row key rows) = subst (StartsWith first) w.puts.rows starts in
    let apart = lawful shape pages stands.rule in
    let row = first_row first (without_row key rows) begins in
    let old : Contains rows row.0 = (without_row_has key rows t.at.rise row.0 row.1).0 in
    let there : Contains (page_rows (tables shape pages) p.page) row.0 = subst (λ (l : List Row). Contains l row.0) (sym t.at.rows) old in
    let in_firsts : Contains firsts p = (spot.home, w.within, w.is) in
    let from : is_below first p.key ≡ false = ap (λ (k : List ℕ). is_below k p.key) (sym row.2) ∙ from_first p.key (page_rows (tables shape pages) p.page) (apart.rise p.page) (stands.index.starts p in_firsts) row.0 there in
    written_stands shape pages firsts id.index.empty.items spot.home p page page2 (without_row key rows) first w begins
    (λ f c. below_upto f.key p.key first (front_below firsts spot.home p stands.index.rise w.within w.is f c) from)
    (λ f c.
    let back = in_back firsts spot.home p w.within w.is f c in
    let front = first_row f.key (page_rows (tables shape pages) f.page) (stands.index.starts f back) in
    ap (λ (k : List ℕ). is_below k f.key) (sym row.2) ∙ ap (is_below (row.0.0)) (sym front.2)
    ∙ before_by_first (tables shape pages) firsts apart stands.index p f in_firsts back (back_above firsts spot.home p stands.index.rise w.within w.is f c) row.0 front.0 there front.1)

pub emptied : (id : KeyedSet) (key : List ℕ) (spot : Spot) (page page2 : List ℕ) (pages : List (List ℕ)) → Taking id key spot page page2 pages → count_of page2 ≡ 0
    → Stands id.shape (remove id.index.firsts.items spot.home) (with_number (home_page id spot) id.index.empty.items) (set pages (home_page id spot) page2)
emptied id key spot page page2 pages t none =
    let w = removing id key spot page page2 pages t in
    let p : First = first_at spot.home id.index.firsts.items in
    let nothing : without_row key (rows_in id.shape page) ≡ [] = sym w.puts.rows ∙ ap (λ (k : ℕ). rows_from id.shape k (drop 16 page2)) none in
    emptied_stands id.shape pages id.index.firsts.items id.index.empty.items spot.home p page page2 (subst (Written id.shape pages id.index.firsts.items id.index.empty.items spot.home p page page2) nothing w)

-- the numbers that a set keeps name pages that it has
pub numbers_within : (n : ℕ) (numbers : List ℕ) (count : ℕ) → n < count → All (λ k. k < count) numbers → All (λ k. k < count) (with_number n numbers)
numbers_within n [] count lt all = All-cons (λ k. k < count) n [] lt all
numbers_within n (m ∷ ms) count lt all = elim (cases_Bool (ltb m n)) [
  | inl behind ↦ subst (All (λ k. k < count)) (sym (ap (λ (b : Bool). cond b (m ∷ with_number n ms) (n ∷ m ∷ ms)) behind))
      (All-cons (λ k. k < count) m (with_number n ms) (All-head (λ k. k < count) m ms all) (numbers_within n ms count lt (All-tail (λ k. k < count) m ms all)))
  | inr ahead ↦ subst (All (λ k. k < count)) (sym (ap (λ (b : Bool). cond b (m ∷ with_number n ms) (n ∷ m ∷ ms)) ahead)) (All-cons (λ k. k < count) n (m ∷ ms) lt all)
]
