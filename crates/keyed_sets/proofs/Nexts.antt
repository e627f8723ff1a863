-- The rows next to a key in a set: what was found in one page is what is wanted of all rows.
use Rattle.std.proofs.Common.{◌≡◌, ℕ, ◌+◌, ◌-◌, ◌<◌, ◌≤◌, true, false, List, length, Option, Some, None, sym, ap, subst, ◌∙◌, arith}
use Rattle.std.specs.Prelude.{slice_get}
use Rattle.std.specs.List.{AllWithin}
use Rattle.std.proofs.lemmas.List.{get_or_default}
use Rattle.hal_base.specs.ShelfCalls.{ShelfView}
use Rattle.keyed_sets.specs.declared.index.First.{First}
use Rattle.keyed_sets.specs.declared.set.KeyedSet.{KeyedSet}
use Rattle.keyed_sets.specs.Calls.{IsOpened, Gives}
use Rattle.keyed_sets.specs.Layout.{Row, is_below, place_of}
use Rattle.keyed_sets.specs.Map.{KeysRise, first_above, next_after, last_below, rows_of}
use Rattle.keyed_sets.specs.Rule.{tables, page_rows}
use Rattle.keyed_sets.specs.Reading.{GivesFirst, GivesAbove, GivesBelow}
use Rattle.keyed_sets.specs.Standing.{Stands, no_first}
use Rattle.keyed_sets.specs.Writing.{first_at}
use Rattle.keyed_sets.proofs.Openings.{split_from}
use Rattle.keyed_sets.proofs.NextRows.{front_at, next_here, next_behind, first_of_all, IsCut, cut_from, nothing_before, last_before}
use Rattle.keyed_sets.proofs.OpenSets.{opened_stands}
use Rattle.keyed_sets.proofs.Told.{where_told, told_at}

-- so many pages begin at a key or below it; `held` are the first keys as the code has them
pub record IsUpto (set : KeyedSet) (key : List ℕ) (held : List First) (at : ℕ) : Type 0 where
  pub is : held ≡ set.index.firsts.items
  pub within : at ≤ length held
  pub upto : KeysRise (λ (first : First). first.key) held → AllWithin (λ (first : First). is_below key first.key ≡ false) held 0 at
  pub above : KeysRise (λ (first : First). first.key) held → AllWithin (λ (first : First). is_below key first.key ≡ true) held at (length held)

-- so many pages begin below it
pub record IsUnder (set : KeyedSet) (key : List ℕ) (held : List First) (at : ℕ) : Type 0 where
  pub is : held ≡ set.index.firsts.items
  pub within : at ≤ length held
  pub below : KeysRise (λ (first : First). first.key) held → AllWithin (λ (first : First). is_below first.key key ≡ true) held 0 at
  pub from : KeysRise (λ (first : First). first.key) held → AllWithin (λ (first : First). is_below first.key key ≡ false) held at (length held)

stands_at : (set : KeyedSet) (seen : ShelfView) → IsOpened set seen → (pages : List (List ℕ)) → seen.pages set.set ≡ Some pages → Stands set.shape set.index.firsts.items set.index.empty.items pages
stands_at set seen opened pages is = told_at (seen.pages set.set) pages (Stands set.shape set.index.firsts.items set.index.empty.items) is (opened_stands set seen opened)

pub before_within : (set : KeyedSet) (held : List First) (at : ℕ) → held ≡ set.index.firsts.items → at ≤ length held → 0 < at → at - 1 < length set.index.firsts.items
before_within set held at is within some = omega (arith, within, some, ap (λ (l : List First). length l) is)

-- the first row of the page behind, where the page before it has none above the key
pub gives_next : (set : KeyedSet) (seen now : ShelfView) (key : List ℕ) (held : List First) (at from : ℕ) (row : Option Row) → IsOpened set seen → seen.pages set.set ≡ now.pages set.set → IsUpto set key held at → from ≡ at
    → (0 < at → GivesAbove set (at - 1) key seen None) → GivesFirst set from now row → Gives set seen (next_after (Some key)) row
gives_next set seen now key held at from row opened same u here none first = record {
  is = where_told (seen.pages set.set) (λ pages. row ≡ first_above key (rows_of set.shape pages)) (λ pages is.
      let stands = stands_at set seen opened pages is in
      let firsts : List First = set.index.firsts.items in
      told_at (now.pages set.set) pages (λ l. row ≡ front_at (tables set.shape l) firsts from) (sym same ∙ is) first.is ∙ ap (front_at (tables set.shape pages) firsts) here
      ∙ next_behind set.shape pages firsts set.index.empty.items key at (first_at (at - 1) firsts) stands (split_from key firsts held at u.is u.within u.upto u.above stands.index.rise)
      (λ some. get_or_default firsts (at - 1) no_first (first_at (at - 1) firsts) (before_within set held at u.is u.within some))
      (λ some. sym (told_at (seen.pages set.set) pages (λ l. None ≡ next_after (Some key) (page_rows (tables set.shape l) (first_at (at - 1) firsts).page)) is (none some).is)));
  shaped = first.shaped;
}

-- a row above the key in the page where the key goes
pub gives_here : (set : KeyedSet) (seen : ShelfView) (key : List ℕ) (held : List First) (at : ℕ) (row : Row) → IsOpened set seen → IsUpto set key held at → 0 < at → GivesAbove set (at - 1) key seen (Some row) → Gives set seen (next_after (Some key)) (Some row)
gives_here set seen key held at row opened u some above = record {
  is = where_told (seen.pages set.set) (λ pages. Some row ≡ first_above key (rows_of set.shape pages)) (λ pages is.
      let stands = stands_at set seen opened pages is in
      let firsts : List First = set.index.firsts.items in
      sym (next_here set.shape pages firsts set.index.empty.items key at (first_at (at - 1) firsts) row stands (split_from key firsts held at u.is u.within u.upto u.above stands.index.rise) some
      (get_or_default firsts (at - 1) no_first (first_at (at - 1) firsts) (before_within set held at u.is u.within some))
      (sym (told_at (seen.pages set.set) pages (λ l. Some row ≡ next_after (Some key) (page_rows (tables set.shape l) (first_at (at - 1) firsts).page)) is above.is))));
  shaped = above.shaped;
}

pub gives_all : (set : KeyedSet) (seen : ShelfView) (row : Option Row) → IsOpened set seen → GivesFirst set 0 seen row → Gives set seen (next_after None) row
gives_all set seen row opened first = record {
  is = where_told (seen.pages set.set) (λ pages. row ≡ next_after None (rows_of set.shape pages)) (λ pages is.
      told_at (seen.pages set.set) pages (λ l. row ≡ front_at (tables set.shape l) set.index.firsts.items 0) is first.is ∙ first_of_all set.shape pages set.index.firsts.items set.index.empty.items (stands_at set seen opened pages is));
  shaped = first.shaped;
}

pub gives_below : (set : KeyedSet) (seen : ShelfView) (key : List ℕ) (held : List First) (at : ℕ) (row : Row) → IsOpened set seen → IsUnder set key held at → 0 < at → GivesBelow set (at - 1) key seen row → Gives set seen (last_below key) (Some row)
gives_below set seen key held at row opened u some below = record {
  is = where_told (seen.pages set.set) (λ pages. Some row ≡ last_below key (rows_of set.shape pages)) (λ pages is.
      let stands = stands_at set seen opened pages is in
      let firsts : List First = set.index.firsts.items in
      let found = told_at (seen.pages set.set) pages (λ l. (n : ℕ) × (n + 1 ≡ place_of key (page_rows (tables set.shape l) (first_at (at - 1) firsts).page)) × (slice_get (page_rows (tables set.shape l) (first_at (at - 1) firsts).page) n ≡ Some row)) is below.is in
      last_before set.shape pages firsts set.index.empty.items key at found.0 (first_at (at - 1) firsts) row stands (cut_from key firsts held at u.is u.within u.below u.from stands.index.rise) some
      (get_or_default firsts (at - 1) no_first (first_at (at - 1) firsts) (before_within set held at u.is u.within some)) found.1 found.2);
  shaped = below.shaped;
}

pub gives_nothing : (set : KeyedSet) (seen : ShelfView) (key : List ℕ) (held : List First) (at : ℕ) → IsOpened set seen → IsUnder set key held at → at ≡ 0 → Gives set seen (last_below key) None
gives_nothing set seen key held at opened u none = record {
  is = where_told (seen.pages set.set) (λ pages. None ≡ last_below key (rows_of set.shape pages)) (λ pages is.
      let stands = stands_at set seen opened pages is in
      let firsts : List First = set.index.firsts.items in
      nothing_before set.shape pages firsts set.index.empty.items key stands (subst (IsCut key firsts) none (cut_from key firsts held at u.is u.within u.below u.from stands.index.rise)));
  shaped = tt;
}
