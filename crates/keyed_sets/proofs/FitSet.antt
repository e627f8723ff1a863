-- A row put into its page, over the set as a whole.
use Rattle.std.proofs.Common.{◌≡◌, ℕ, ◌+◌, ◌<◌, ◌≤◌, false, List, set, inl, inr, sym, subst}
use Rattle.std.specs.Prelude.{IfSome, slice_get}
use Rattle.std.specs.Option.{option_map}
use Rattle.std.proofs.lemmas.Bool.{cases_Bool}
use Rattle.hal_base.specs.Pages.{SameHead}
use Rattle.hal_base.specs.ShelfCalls.{ShelfView, KeepsHeads}
use Rattle.keyed_sets.specs.declared.seek.Spot.{Spot}
use Rattle.keyed_sets.specs.declared.set.KeyedSet.{KeyedSet}
use Rattle.keyed_sets.specs.Calls.{IsOpened}
use Rattle.keyed_sets.specs.Layout.{Row, rows_in, count_of, end_of, place_of, PutsRows}
use Rattle.keyed_sets.specs.Map.{with_row}
use Rattle.keyed_sets.specs.Places.{IsHome}
use Rattle.keyed_sets.specs.Rule.{Rise, tables}
use Rattle.keyed_sets.specs.Goes.{GoesTo}
use Rattle.keyed_sets.specs.Reading.{IsSought, home_page}
use Rattle.keyed_sets.specs.Writing.{first_at}
use Rattle.keyed_sets.proofs.Fits.{FitTold}
use Rattle.keyed_sets.proofs.Heads.{heads_told, heads_same, heads_put}
use Rattle.keyed_sets.proofs.Lookups.{page_rises}
use Rattle.keyed_sets.proofs.OpenSets.{opened_stands}
use Rattle.keyed_sets.proofs.Spots.{at_told, own_default}
use Rattle.keyed_sets.proofs.Told.{where_told, told_both}

-- a page that was read gets other rows, and keeps its head
pub head_told : (id : KeyedSet) (key : List ℕ) (spot : Spot) (page page2 : List ℕ) (seen : ShelfView) → IsOpened id seen → IsSought id key spot page seen → (Rise (rows_in id.shape page) → SameHead page page2)
    → IfSome (seen.pages id.set) (λ pages. IfSome (slice_get pages (home_page id spot)) (λ old. SameHead old page2))
head_told id key spot page page2 seen opened s head = where_told (seen.pages id.set) (λ pages. IfSome (slice_get pages (home_page id spot)) (λ old. SameHead old page2)) (λ pages is.
    let a = at_told id key spot page seen opened s pages is in
    subst (λ o. IfSome o (λ old. SameHead old page2)) (sym a.read) (head (page_rises id.shape pages (home_page id spot) page a.stands.rule a.read)))

pub heads_written : (id : KeyedSet) (key : List ℕ) (spot : Spot) (page page2 : List ℕ) (before after : ShelfView) → IsOpened id before → IsSought id key spot page before → (Rise (rows_in id.shape page) → SameHead page page2)
    → after.pages id.set ≡ option_map (λ pages. set pages (home_page id spot) page2) (before.pages id.set) → KeepsHeads SameHead 2 id.set before after
heads_written id key spot page page2 before after opened s head staged = heads_told id.set before after (λ pages. set pages (home_page id spot) page2) staged (λ pages is.
    let a = at_told id key spot page before opened s pages is in
    heads_put id.set pages pages (home_page id spot) page page2 (heads_same id.set pages) a.read (head (page_rises id.shape pages (home_page id spot) page a.stands.rule a.read)))

pub fit_told : (id : KeyedSet) (row : Row) (spot : Spot) (page page2 : List ℕ) (before after : ShelfView) → 0 < id.shape.key → IsOpened id before → IsSought id (row.0) spot page before → (spot.found ≡ false → end_of id.shape (count_of page + 1) ≤ 4096)
    → (Rise (rows_in id.shape page) → spot.at ≡ place_of (row.0) (rows_in id.shape page) → PutsRows id.shape page page2 (with_row row (rows_in id.shape page)))
    → after.pages id.set ≡ option_map (λ pages. set pages (home_page id spot) page2) (before.pages id.set)
    → FitTold id.shape (before.pages id.set) (after.pages id.set) id.index.firsts.items id.index.empty.items spot.home (first_at spot.home id.index.firsts.items) page page2 spot.at row
fit_told id row spot page page2 before after some opened s room puts staged = record {
  some = some;
  stands = opened_stands id before opened;
  within = s.within;
  is = own_default id.index.firsts.items spot.home s.within;
  read = s.read.is;
  puts = λ rise. puts rise (s.place rise);
  takes = elim (cases_Bool spot.found) [ inl there ↦ let k = s.found there in inl (k.within, k.is) | inr none ↦ inr (room none) ];
  goes = told_both (before.pages id.set) (λ pages. GoesTo (row.0) (tables id.shape pages) id.index.firsts.items spot.home (first_at spot.home id.index.firsts.items)) (λ pages. IsHome (row.0) (tables id.shape pages) (home_page id spot)) s.goes (λ pages is goes. goes.goes);
  staged = staged;
}
