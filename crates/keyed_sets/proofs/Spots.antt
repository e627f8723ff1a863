-- A key's spot in a set whose pages are told: what is found there, and whether the page takes a row.
use Rattle.std.proofs.Common.{◌≡◌, ℕ, ◌+◌, ◌<◌, ◌≤◌, Bool, true, false, cond, List, [], ◌∷◌, length, get_or, Option, Some, None, inl, inr, refl, sym, ap, subst, ◌∙◌, arith}
use Rattle.std.specs.Prelude.{Contains, IfSome, slice_get}
use Rattle.std.specs.Option.{option_map}
use Rattle.std.proofs.lemmas.Bool.{both_ways, cases_Bool, cases_lt, cases_eq}
use Rattle.std.proofs.lemmas.Option.{slice_get-get_or}
use Rattle.std.proofs.lemmas.List.{get_or_default}
use Rattle.std.proofs.lemmas.List.Elements.{Contains-get_or}
use Rattle.hal_base.specs.ShelfCalls.{ShelfView}
use Rattle.keyed_sets.specs.declared.index.First.{First}
use Rattle.keyed_sets.specs.declared.seek.Spot.{Spot}
use Rattle.keyed_sets.specs.declared.set.KeyedSet.{KeyedSet}
use Rattle.keyed_sets.specs.Calls.{IsOpened}
use Rattle.keyed_sets.specs.Layout.{Row, rows_in, count_of, end_of, is_below, place_of}
use Rattle.keyed_sets.specs.Map.{RowsRise, lookup, rows_of}
use Rattle.keyed_sets.specs.Places.{HasNoRows, Takes, NeedsPage, NoPage, NoneEmpty}
use Rattle.keyed_sets.specs.Rule.{capacity, tables, page_rows}
use Rattle.keyed_sets.specs.Index.{empty_numbers}
use Rattle.keyed_sets.specs.Goes.{GoesTo, IsBegun, IsFull}
use Rattle.keyed_sets.specs.PageFacts.{HasKeyAt}
use Rattle.keyed_sets.specs.Reading.{IsSought, home_page}
use Rattle.keyed_sets.specs.Standing.{Stands, no_first}
use Rattle.keyed_sets.specs.Writing.{first_at}
use Rattle.keyed_sets.proofs.Keys.{below_itself}
use Rattle.keyed_sets.proofs.Maps.{lookup_is, lookup_none}
use Rattle.keyed_sets.proofs.Members.{nothing_there, rise_all}
use Rattle.keyed_sets.proofs.Rows.{length-rows_in}
use Rattle.keyed_sets.proofs.Sets.{IsIn, lawful, row_in, in_rows, rows_rise, same_lookup}
use Rattle.keyed_sets.proofs.Lookups.{nowhere, key_at_is, missing_at, page_is, page_rises}
use Rattle.keyed_sets.proofs.Removes.{page_some}
use Rattle.keyed_sets.proofs.Splits.{beside_home}
use Rattle.keyed_sets.proofs.Putting.{Under, Over}
use Rattle.keyed_sets.proofs.Homes.{takes_not, all_before, one_behind, no_rows}
use Rattle.keyed_sets.proofs.Told.{where_told, told_at}
use Rattle.keyed_sets.proofs.OpenSets.{opened_stands}

-- what was found, where the pages are told
pub record At (set : KeyedSet) (key : List ℕ) (spot : Spot) (page : List ℕ) (pages : List (List ℕ)) : Type 0 where
  pub stands : Stands set.shape set.index.firsts.items set.index.empty.items pages
  pub within : spot.home < length set.index.firsts.items
  pub is : get_or set.index.firsts.items spot.home (first_at spot.home set.index.firsts.items) ≡ first_at spot.home set.index.firsts.items
  pub goes : GoesTo key (tables set.shape pages) set.index.firsts.items spot.home (first_at spot.home set.index.firsts.items)
  pub read : slice_get pages (home_page set spot) ≡ Some page
  pub place : spot.at ≡ place_of key (rows_in set.shape page)
  pub rows : page_rows (tables set.shape pages) (home_page set spot) ≡ rows_in set.shape page
  pub rise : RowsRise (rows_in set.shape page)
  pub found : spot.found ≡ true → HasKeyAt set.shape page spot.at key
  pub missing : spot.found ≡ false → HasKeyAt set.shape page spot.at key → ⊥

pub own_default : (firsts : List First) (home : ℕ) → home < length firsts → get_or firsts home (get_or firsts home no_first) ≡ get_or firsts home no_first
own_default firsts home lt = get_or_default firsts home (get_or firsts home no_first) no_first lt

pub at_told : (set : KeyedSet) (key : List ℕ) (spot : Spot) (page : List ℕ) (seen : ShelfView) → IsOpened set seen → IsSought set key spot page seen → (pages : List (List ℕ)) → seen.pages set.set ≡ Some pages → At set key spot page pages
at_told set key spot page seen opened s pages is =
    let told = seen.pages set.set in
    let stands = told_at told pages (Stands set.shape set.index.firsts.items set.index.empty.items) is (opened_stands set seen opened) in
    let read = told_at told pages (λ l. slice_get l (home_page set spot) ≡ Some page) is s.read.is in
    let rise = page_rises set.shape pages (home_page set spot) page stands.rule read in
    record {
      stands = stands;
      within = s.within;
      is = own_default set.index.firsts.items spot.home s.within;
      goes = told_at told pages (λ l. GoesTo key (tables set.shape l) set.index.firsts.items spot.home (first_at spot.home set.index.firsts.items)) is s.goes;
      read = read;
      place = s.place rise;
      rows = page_is set.shape pages (home_page set spot) page read;
      rise = rise_all (rows_in set.shape page) rise;
      found = s.found;
      missing = s.missing;
    }

pub none_at : (set : KeyedSet) (key : List ℕ) (spot : Spot) (page : List ℕ) (pages : List (List ℕ)) → At set key spot page pages → spot.found ≡ false → (x : Row) → Contains (rows_in set.shape page) x → x.0 ≡ key → ⊥
none_at set key spot page pages a none = missing_at (rows_in set.shape page) spot.at key a.rise a.place (λ there. a.missing none (record { within = omega (arith, there.0, length-rows_in set.shape page); is = there.1 }))

-- a row of the key stands in its page, if anywhere
pub only_home : (set : KeyedSet) (key : List ℕ) (spot : Spot) (page : List ℕ) (pages : List (List ℕ)) → At set key spot page pages → (x : Row) → IsIn (tables set.shape pages) x → x.0 ≡ key → Contains (page_rows (tables set.shape pages) (home_page set spot)) x
only_home set key spot page pages a x c is =
    let table : List (List Row) = tables set.shape pages in
    let n : ℕ = home_page set spot in
    elim (cases_eq c.0 n) [
      | inl same ↦ subst (λ (k : ℕ). Contains (page_rows table k) x) same c.1
      | inr other ↦ elim (beside_home key table n (lawful set.shape pages a.stands.rule) a.goes.goes
          (page_some set.shape pages set.index.firsts.items set.index.empty.items (first_at spot.home set.index.firsts.items) a.stands (spot.home, a.within, a.is)) c.0 other) [
            | inl none ↦ absurd (nothing_there x (subst (λ (l : List Row). Contains l x) none c.1))
            | inr (Under j begins under below less) ↦ absurd (below_itself (x.0) key (less x c.1) is)
            | inr (Over above more) ↦ absurd (below_itself key (x.0) (more x c.1) (sym is))
          ]
    ]

pub lookup_at : (set : KeyedSet) (key : List ℕ) (spot : Spot) (page : List ℕ) (pages : List (List ℕ)) → At set key spot page pages → lookup key (rows_in set.shape page) ≡ lookup key (rows_of set.shape pages)
lookup_at set key spot page pages a =
    let apart = lawful set.shape pages a.stands.rule in
    let n : ℕ = home_page set spot in
    ap (lookup key) (sym a.rows)
    ∙ same_lookup key (rows_of set.shape pages) (page_rows (tables set.shape pages) n) (rows_rise set.shape pages) (apart.rise n) (λ x c. in_rows set.shape pages apart x (n, c))
    (λ x c is. only_home set key spot page pages a x (row_in set.shape pages x c) is)

-- what is looked up
pub found_at : (set : KeyedSet) (key : List ℕ) (spot : Spot) (page : List ℕ) (pages : List (List ℕ)) → At set key spot page pages
    → cond spot.found (option_map (λ (row : Row). row.1) (slice_get (rows_in set.shape page) spot.at)) None ≡ lookup key (rows_of set.shape pages)
found_at set key spot page pages a =
    let rows : List Row = rows_in set.shape page in
    let at : Option (List ℕ) = option_map (λ (row : Row). row.1) (slice_get rows spot.at) in
    elim (cases_Bool spot.found) [
      | inl found ↦
          let k = a.found found in
          let lt : spot.at < length rows = omega (arith, k.within, length-rows_in set.shape page) in
          ap (λ (b : Bool). cond b at None) found ∙ ap (option_map (λ (row : Row). row.1)) (slice_get-get_or rows spot.at nowhere lt)
          ∙ sym (lookup_is key rows a.rise (get_or rows spot.at nowhere) (Contains-get_or rows spot.at nowhere lt) (key_at_is rows spot.at key lt k.is)) ∙ lookup_at set key spot page pages a
      | inr none ↦ ap (λ (b : Bool). cond b at None) none ∙ sym (lookup_none key rows (none_at set key spot page pages a none)) ∙ lookup_at set key spot page pages a
    ]

pub none_found : (set : KeyedSet) (key : List ℕ) (spot : Spot) (page : List ℕ) (seen : ShelfView) → IsOpened set seen → IsSought set key spot page seen → spot.found ≡ false → IfSome (seen.pages set.set) (λ pages. None ≡ lookup key (rows_of set.shape pages))
none_found set key spot page seen opened s none = where_told (seen.pages set.set) (λ pages. None ≡ lookup key (rows_of set.shape pages)) (λ pages is.
    let a = at_told set key spot page seen opened s pages is in
    sym (lookup_none key (rows_in set.shape page) (none_at set key spot page pages a none)) ∙ lookup_at set key spot page pages a)

pub nothing_in : (set : KeyedSet) (seen : ShelfView) (key : List ℕ) → IsOpened set seen → set.index.firsts.items ≡ [] → IfSome (seen.pages set.set) (λ pages. HasNoRows (tables set.shape pages))
nothing_in set seen key opened none = where_told (seen.pages set.set) (λ pages. HasNoRows (tables set.shape pages)) (λ pages is.
    no_rows (tables set.shape pages) set.index.firsts.items (told_at (seen.pages set.set) pages (Stands set.shape set.index.firsts.items set.index.empty.items) is (opened_stands set seen opened)).index none)

pub nothing_found : (set : KeyedSet) (seen : ShelfView) (key : List ℕ) → IsOpened set seen → set.index.firsts.items ≡ [] → IfSome (seen.pages set.set) (λ pages. None ≡ lookup key (rows_of set.shape pages))
nothing_found set seen key opened none = where_told (seen.pages set.set) (λ pages. None ≡ lookup key (rows_of set.shape pages)) (λ pages is.
    let nothing = told_at (seen.pages set.set) pages (λ l. HasNoRows (tables set.shape l)) is (nothing_in set seen key opened none) in
    sym (lookup_none key (rows_of set.shape pages) (λ x c same. let there = row_in set.shape pages x c in nothing_there x (subst (λ (l : List Row). Contains l x) (nothing there.0) there.1))))

-- a page that takes no row more
pub record IsFullAt (set : KeyedSet) (key : List ℕ) (spot : Spot) (page : List ℕ) (pages : List (List ℕ)) : Type 0 where
  pub at : At set key spot page pages
  pub none : spot.found ≡ false
  pub full : end_of set.shape (count_of page + 1) ≤ 4096 → ⊥
  pub some : 0 < set.shape.key

takes_none : (set : KeyedSet) (key : List ℕ) (spot : Spot) (page : List ℕ) (pages : List (List ℕ)) → IsFullAt set key spot page pages → Takes (capacity set.shape) key (page_rows (tables set.shape pages) (home_page set spot)) → ⊥
takes_none set key spot page pages f takes =
    takes_not set.shape page key spot.at f.some f.at.rise f.at.place (λ t. elim t [ inl there ↦ f.at.missing f.none (record { within = there.0; is = there.1 }) | inr room ↦ f.full room ])
    (subst (Takes (capacity set.shape) key) f.at.rows takes)

pub begins_at : (set : KeyedSet) (key : List ℕ) (spot : Spot) (page : List ℕ) (pages : List (List ℕ)) → IsFullAt set key spot page pages → spot.home + 1 ≡ length set.index.firsts.items → spot.at ≡ count_of page → IsBegun (capacity set.shape) key (tables set.shape pages)
begins_at set key spot page pages f last end = record {
  above = f.at.goes.above last (λ row c. all_before key (rows_in set.shape page) (sym f.at.place ∙ end ∙ sym (length-rows_in set.shape page)) row (subst (λ (l : List Row). Contains l row) f.at.rows c));
  full = inr (home_page set spot, f.at.goes.goes, takes_none set key spot page pages f);
}

pub fills_at : (set : KeyedSet) (key : List ℕ) (spot : Spot) (page : List ℕ) (pages : List (List ℕ)) → IsFullAt set key spot page pages → spot.at ≤ count_of page → ((spot.home + 1 ≡ length set.index.firsts.items) × (spot.at ≡ count_of page) → ⊥)
    → IsFull (capacity set.shape) key (tables set.shape pages) (home_page set spot)
fills_at set key spot page pages f le amid = record {
  home = f.at.goes.goes;
  full = takes_none set key spot page pages f;
  amid = λ above. elim (cases_lt (spot.home + 1) (length set.index.firsts.items)) [
    | inl lt ↦ f.at.goes.amid lt above
    | inr last ↦
        let many : length (rows_in set.shape page) ≡ count_of page = length-rows_in set.shape page in
        elim (cases_lt spot.at (count_of page)) [
          | inl less ↦
              let behind = one_behind key (rows_in set.shape page) (omega (arith, less, f.at.place, many)) in
              both_ways (is_below (behind.0.0) key) behind.2 (above (home_page set spot) behind.0 (subst (λ (l : List Row). Contains l behind.0) (sym f.at.rows) behind.1))
          | inr ge ↦ amid (omega (arith, last, f.at.within), omega (arith, ge, le))
        ]
  ];
}

no_pages : (table : List (List Row)) → HasNoRows table → empty_numbers 0 table ≡ [] → table ≡ []
no_pages [] none is = refl
no_pages ([] ∷ table) none is = cc
no_pages ((row ∷ rows) ∷ table) none is = let here : row ∷ rows ≡ [] = none 0 in cc

pub begun_needs : (most : ℕ) (key : List ℕ) (table : List (List Row)) → IsBegun most key table → empty_numbers 0 table ≡ [] → NeedsPage most key table
begun_needs most key table b none = elim b.full [
  | inl nothing ↦ NoPage (no_pages table nothing none)
  | inr full ↦ NoneEmpty full.0 full.1 full.2 none
]

pub first_begins : (most : ℕ) (key : List ℕ) (table : List (List Row)) → HasNoRows table → IsBegun most key table
first_begins most key table nothing = record { above = λ m x c. absurd (nothing_there x (subst (λ (l : List Row). Contains l x) (nothing m) c)); full = inl nothing }
