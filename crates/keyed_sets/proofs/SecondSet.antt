-- A put that needs a second page, over the set as a whole: a page without rows was made and read, and then one page or two were put back.
use Rattle.std.proofs.Common.{◌≡◌, ◌⊎◌, ℕ, zero, suc, ◌+◌, ◌<◌, ◌≤◌, List, [], ◌∷◌, ◌++◌, length, set, Option, Some, None, Result, Ok, Err, inl, inr, refl, sym, ap, subst, ◌∙◌, arith}
use Rattle.std.specs.Prelude.{IfSome, IsSomeAnd, IfErr, OnErr, IsErrOf, insert, slice_get}
use Rattle.std.specs.List.{remove}
use Rattle.std.specs.Option.{option_map}
use Rattle.std.proofs.lemmas.Option.{slice_get-get_or, get_or_from_slice_get}
use Rattle.std.proofs.lemmas.List.Elements.{All-set}
use Rattle.hal_base.specs.declared.outcome.PageFault.{PageFault}
use Rattle.hal_base.specs.declared.outcome.PageFault.TheVariants.{NoRoom}
use Rattle.hal_base.specs.Outcome.{page_fault}
use Rattle.hal_base.specs.declared.outcome.StageFault.{StageFault}
use Rattle.hal_base.specs.declared.outcome.StageFault.TheVariants as stage
use Rattle.hal_base.specs.declared.outcome.PageFault.TheVariants as page
use Rattle.hal_base.specs.Pages.{SameHead}
use Rattle.hal_base.specs.ShelfCalls.{ShelfView, SameShelf, KeepsHeads, Keeps, OnlyReads, OnlyChanges, OnlyGrows}
use Rattle.hal_base.proofs.ShelfLemmas.{keeps_then, same_then, same_changed, changed_then, changed_grown, grows_then, changes_grows, reads_changes}
use Rattle.keyed_sets.specs.declared.index.First.{First}
use Rattle.keyed_sets.specs.declared.index.Index.{Index}
use Rattle.keyed_sets.specs.declared.row.RowShape.{RowShape}
use Rattle.keyed_sets.specs.declared.seek.Spot.{Spot}
use Rattle.keyed_sets.specs.declared.set.KeyedSet.{KeyedSet}
use Rattle.keyed_sets.specs.Calls.{IsOpened, PutFails, PutsIn, Grows}
use Rattle.keyed_sets.specs.Changes.{HasSpare, placed}
use Rattle.keyed_sets.specs.Layout.{Row, rows_in, count_of, end_of, row_length, HasPlace, PutsRows}
use Rattle.keyed_sets.specs.Places.{PutLeaves, AsBefore, Halved, NeedsPage, kept_rows}
use Rattle.keyed_sets.specs.Rule.{capacity, tables}
use Rattle.keyed_sets.specs.Goes.{IsBegun, IsFull}
use Rattle.keyed_sets.specs.PageFacts.{Split}
use Rattle.keyed_sets.specs.Reading.{IsSought, home_page}
use Rattle.keyed_sets.specs.Standing.{StartsWith, Stands, no_first}
use Rattle.keyed_sets.specs.Writing.{first_at, number_at, CanHalve, WritesHalves, LeavesHalf, Nothing, Half, MakesPage, Had, Made}
use Rattle.keyed_sets.proofs.Begins.{BegunTold, some_capacity, put_within, fewer_within}
use Rattle.keyed_sets.proofs.Halves.{apart_from, kept_part, kept_table}
use Rattle.keyed_sets.proofs.Heads.{Kept, heads_told, heads_put, slice_set_other}
use Rattle.keyed_sets.proofs.OpenSets.{opened_stands}
use Rattle.keyed_sets.proofs.Removals.{staged_told}
use Rattle.keyed_sets.proofs.Shares.{HalvedTold, halved_at, halved_told, halved_index, split_heads}
use Rattle.keyed_sets.proofs.Spared.{full_told, split_puts}
use Rattle.keyed_sets.proofs.Splits.{part_stands}
use Rattle.keyed_sets.proofs.Spots.{at_told, own_default}
use Rattle.keyed_sets.proofs.Steps.{Spared, opened_as}
use Rattle.keyed_sets.proofs.Told.{where_told, told_at, told_both}

pub insert_last : {X : Type 0} (xs : List X) (x : X) → xs ++ x ∷ [] ≡ insert xs (length xs) x
insert_last [] x = refl
insert_last (y ∷ ys) x = ap (λ l. y ∷ l) (insert_last ys x)

pub set_insert : {X : Type 0} (xs : List X) (i : ℕ) (x y : X) → i < length xs → set (insert xs (suc i) y) i x ≡ insert (set xs i x) (suc i) y
set_insert [] i x y lt = absurd (omega (arith, lt))
set_insert (a ∷ xs) zero x y lt = refl
set_insert (a ∷ xs) (suc i) x y lt = ap (λ l. a ∷ l) (set_insert xs i x y (omega (arith, lt)))

pub map_map : (f g : List (List ℕ) → List (List ℕ)) (o : Option (List (List ℕ))) → option_map g (option_map f o) ≡ option_map (λ (pages : List (List ℕ)). g (f pages)) o
map_map f g None = refl
map_map f g (Some pages) = refl

pub page_failed : (fault : StageFault) → page_fault fault ≡ page.Failed → fault ≡ stage.Failed
page_failed stage.Failed is = refl
page_failed stage.Memory is = cc

-- which blocks were taken
pub grows_by : {s t u f g : Type 0} (id : KeyedSet) (new : Index) {a b c : ShelfView} → MakesPage id.set id.index new a b → Keeps s f a b → OnlyChanges id.set t g b c → (s → t → u) → OnlyGrows 0 id.set u g a c ⊎ OnlyGrows 1 id.set u g a c
grows_by id new (Had some same shelf) keeps changes then = inl (record { keeps = keeps_then keeps changes.keeps then; grown = changed_grown (changed_then (same_changed id.set shelf) changes.changed) })
grows_by id new (Made none made pages more) keeps changes then = inr (grows_then 1 0 (record { keeps = keeps; grown = more }) (changes_grows changes) then)

-- after a fault the pages have one more at most, without rows
pub left_spared : (id : KeyedSet) (row : Row) (empty : List ℕ) (before mid after : ShelfView) (f : List (List ℕ) → List (List ℕ)) → Spared id empty before mid f → after.pages id.set ≡ mid.pages id.set
    → IfSome (before.pages id.set) (λ pages. IsSomeAnd (after.pages id.set) (λ now. PutLeaves (capacity id.shape) row (tables id.shape pages) (tables id.shape now)))
left_spared id row empty before mid after f sp same = where_told (before.pages id.set) (λ pages. IsSomeAnd (after.pages id.set) (λ now. PutLeaves (capacity id.shape) row (tables id.shape pages) (tables id.shape now))) (λ pages is.
    subst (λ o. IsSomeAnd o (λ now. PutLeaves (capacity id.shape) row (tables id.shape pages) (tables id.shape now))) (sym (same ∙ sp.pages ∙ ap (option_map f) is)) (AsBefore (sp.spare pages is)))

pub fails_spared : {T : Type 0} (r : Result T PageFault) (id : KeyedSet) (row : Row) (before after : ShelfView)
    → OnErr r (IfSome (before.pages id.set) (λ pages. IsSomeAnd (after.pages id.set) (λ now. PutLeaves (capacity id.shape) row (tables id.shape pages) (tables id.shape now)))) → (IsErrOf r NoRoom → ⊥) → IfErr r (PutFails id row before after)
fails_spared (Ok t) id row before after left never = tt
fails_spared (Err e) id row before after left never = record { left = left; same = λ is. absurd (never (ap Err is)); full = λ is. absurd (never (ap Err is)); needed = λ is. absurd (never (ap Err is)) }

pub opened_spared : (id new : KeyedSet) (empty : List ℕ) (before mid after : ShelfView) (f : List (List ℕ) → List (List ℕ)) → Spared id empty before mid f → new.set ≡ id.set → new.shape ≡ id.shape → new.index.firsts.items ≡ id.index.firsts.items → new.index.empty.items ≡ empty
    → SameShelf mid after → IsOpened new after
opened_spared id new empty before mid after f sp set_is shape_is firsts_is empty_is same =
    opened_as new after id.index.firsts.items empty (length (mid.places id.set)) firsts_is empty_is (ap (λ s. length (after.places s)) set_is ∙ ap (λ (l : List ℕ). length l) (same.places id.set)) sp.firsts_within sp.within
    (subst (λ s. IfSome (after.pages s) (Stands new.shape id.index.firsts.items empty)) (sym set_is) (subst (λ s. IfSome (after.pages id.set) (Stands s id.index.firsts.items empty)) (sym shape_is)
    (subst (λ o. IfSome o (Stands id.shape id.index.firsts.items empty)) (sym (same.pages id.set)) sp.stands)))

-- where no page was to be had, nothing has changed
pub fails_made : {T : Type 0} (r : Result T PageFault) (id : KeyedSet) (row : Row) (before after : ShelfView) → SameShelf before after
    → IfSome (before.pages id.set) (λ pages. IsSomeAnd (after.pages id.set) (λ now. PutLeaves (capacity id.shape) row (tables id.shape pages) (tables id.shape now)))
    → (IsErrOf r NoRoom → (before.free ≡ []) × (id.index.empty.items ≡ [])) → (id.index.empty.items ≡ [] → IfSome (before.pages id.set) (λ pages. NeedsPage (capacity id.shape) (row.0) (tables id.shape pages))) → IfErr r (PutFails id row before after)
fails_made (Ok t) id row before after same left room needs = tt
fails_made (Err e) id row before after same left room needs = record { left = left; same = λ is. same; full = λ is. (room (ap Err is)).0; needed = λ is. needs (room (ap Err is)).1 }

-- a row that begins a page
pub begun_of : (id : KeyedSet) (row : Row) (one : Index) (before mid read after : ShelfView) (f : List (List ℕ) → List (List ℕ)) (page page2 : List ℕ) → IsOpened id before → 0 < id.shape.key → row_length id.shape ≤ 2040 → Spared id one.empty.items before mid f
    → read.pages id.set ≡ mid.pages id.set → IfSome (mid.pages id.set) (λ pages. slice_get pages (number_at one.empty.items) ≡ Some page) → count_of page ≡ 0 → PutsRows id.shape page page2 (insert (rows_in id.shape page) 0 row)
    → IfSome (before.pages id.set) (λ pages. IsBegun (capacity id.shape) (row.0) (tables id.shape pages)) → after.pages id.set ≡ option_map (λ pages. set pages (number_at one.empty.items) page2) (read.pages id.set)
    → BegunTold id.shape (before.pages id.set) (mid.pages id.set) (after.pages id.set) id.index.firsts.items id.index.firsts.items id.index.empty.items one.empty.items page page2 row
begun_of id row one before mid read after f page page2 opened some short sp same there none puts begun staged = record {
  some = some_capacity id.shape some short;
  was = opened_stands id before opened;
  spare = where_told (before.pages id.set) (λ pages. IsSomeAnd (mid.pages id.set) (λ now. HasSpare (tables id.shape pages) (tables id.shape now))) (λ pages is.
      subst (λ o. IsSomeAnd o (λ now. HasSpare (tables id.shape pages) (tables id.shape now))) (sym (sp.pages ∙ ap (option_map f) is)) (sp.spare pages is));
  untold = λ nothing. sp.pages ∙ ap (option_map f) nothing;
  stands = sp.stands;
  many = sp.some;
  read = λ n is. subst (λ (k : ℕ). IfSome (mid.pages id.set) (λ pages. slice_get pages k ≡ Some page)) (get_or_from_slice_get one.empty.items 0 n 0 is) there;
  none = none;
  puts = puts;
  begun = begun;
  staged = λ n is. subst (λ (k : ℕ). after.pages id.set ≡ option_map (λ (pages : List (List ℕ)). set pages k page2) (mid.pages id.set)) (get_or_from_slice_get one.empty.items 0 n 0 is)
      (staged ∙ ap (option_map (λ (pages : List (List ℕ)). set pages (number_at one.empty.items) page2)) same);
}

pub begun_heads : (id : KeyedSet) (one : Index) (before mid read after : ShelfView) (f : List (List ℕ) → List (List ℕ)) (page page2 : List ℕ) → Spared id one.empty.items before mid f → read.pages id.set ≡ mid.pages id.set
    → IfSome (mid.pages id.set) (λ pages. slice_get pages (number_at one.empty.items) ≡ Some page) → SameHead page page2 → after.pages id.set ≡ option_map (λ pages. set pages (number_at one.empty.items) page2) (read.pages id.set) → KeepsHeads SameHead 2 id.set before after
begun_heads id one before mid read after f page page2 sp same there head staged =
    let n : ℕ = number_at one.empty.items in
    heads_told id.set before after (λ pages. set (f pages) n page2) (staged ∙ ap (option_map (λ (pages : List (List ℕ)). set pages n page2)) (same ∙ sp.pages) ∙ map_map f (λ (pages : List (List ℕ)). set pages n page2) (before.pages id.set)) (λ pages is.
    heads_put id.set pages (f pages) n page page2 (sp.heads pages is) (told_at (mid.pages id.set) (f pages) (λ l. slice_get l n ≡ Some page) (sp.pages ∙ ap (option_map f) is) there) head)

-- a page that splits
pub record Splitting (id : KeyedSet) (row : Row) (spot : Spot) (one : Index) (before mid : ShelfView) (f : List (List ℕ) → List (List ℕ)) (page page2 second second2 : List ℕ) : Type 0 where
  pub opened : IsOpened id before
  pub some : 0 < id.shape.key
  pub short : row_length id.shape ≤ 2040
  pub sought : IsSought id (row.0) spot page before
  pub full : IfSome (before.pages id.set) (λ pages. IsFull (capacity id.shape) (row.0) (tables id.shape pages) (home_page id spot))
  pub spared : Spared id one.empty.items before mid f
  pub there : IfSome (mid.pages id.set) (λ pages. slice_get pages (number_at one.empty.items) ≡ Some second)
  pub split : Split id.shape page page2 second second2 row spot.at

pub halved_of : (id : KeyedSet) (row : Row) (spot : Spot) (one : Index) (before mid : ShelfView) (f : List (List ℕ) → List (List ℕ)) (page page2 second second2 : List ℕ) → Splitting id row spot one before mid f page page2 second second2
    → HalvedTold id.shape (mid.pages id.set) (option_map (λ pages. set pages (home_page id spot) page2) (mid.pages id.set)) id.index.firsts.items one.empty.items spot.home (first_at spot.home id.index.firsts.items) page page2 second second2 row spot.at
halved_of id row spot one before mid f page page2 second second2 s =
    let sp = s.spared in
    record {
      stands = sp.stands;
      within = s.sought.within;
      is = own_default id.index.firsts.items spot.home s.sought.within;
      read = subst (λ o. IfSome o (λ pages. slice_get pages (home_page id spot) ≡ Some page)) (sym sp.pages) (staged_told (before.pages id.set) (option_map f (before.pages id.set)) f (λ pages. slice_get pages (home_page id spot) ≡ Some page) refl
          (λ pages is. sp.kept pages is (home_page id spot) page (at_told id (row.0) spot page before s.opened s.sought pages is).read));
      some = sp.some;
      found = λ n is. subst (λ (k : ℕ). IfSome (mid.pages id.set) (λ pages. slice_get pages k ≡ Some second)) (get_or_from_slice_get one.empty.items 0 n 0 is) s.there;
      full = full_told id.shape (before.pages id.set) (mid.pages id.set) id.index.firsts.items one.empty.items (row.0) (home_page id spot) s.full
          (where_told (before.pages id.set) (λ pages. IsSomeAnd (mid.pages id.set) (λ now. HasSpare (tables id.shape pages) (tables id.shape now))) (λ pages is.
          subst (λ o. IsSomeAnd o (λ now. HasSpare (tables id.shape pages) (tables id.shape now))) (sym (sp.pages ∙ ap (option_map f) is)) (sp.spare pages is)))
          (λ nothing. sp.pages ∙ ap (option_map f) nothing) sp.stands sp.some;
      place = s.sought.place;
      split = s.split;
      staged = refl;
    }

-- the second page isn't the full one
apart_at : (shape : RowShape) (pages : List (List ℕ)) (told2 : Option (List (List ℕ))) (firsts : List First) (empty : List ℕ) (home : ℕ) (p : First) (page page2 second second2 : List ℕ) (row : Row) (at : ℕ) → HalvedTold shape (Some pages) told2 firsts empty home p page page2 second second2 row at
    → number_at empty ≡ p.page → ⊥
apart_at shape pages told2 firsts [] home p page page2 second second2 row at t same = omega (arith, t.some)
apart_at shape pages told2 firsts (n ∷ rest) home p page page2 second second2 row at t same = apart_from shape pages firsts home p n rest page page2 second second2 row (halved_at shape pages told2 firsts n rest home p page page2 second second2 row at t) same

pub second_apart : (id : KeyedSet) (row : Row) (spot : Spot) (one : Index) (before mid : ShelfView) (f : List (List ℕ) → List (List ℕ)) (page page2 second second2 : List ℕ) → Splitting id row spot one before mid f page page2 second second2
    → IfSome (mid.pages id.set) (λ pages. number_at one.empty.items ≡ home_page id spot → ⊥)
second_apart id row spot one before mid f page page2 second second2 s = where_told (mid.pages id.set) (λ pages. number_at one.empty.items ≡ home_page id spot → ⊥) (λ pages is.
    apart_at id.shape pages (option_map (λ pages. set pages (home_page id spot) page2) (Some pages)) id.index.firsts.items one.empty.items spot.home (first_at spot.home id.index.firsts.items) page page2 second second2 row spot.at
    (subst (λ o. HalvedTold id.shape o (option_map (λ pages. set pages (home_page id spot) page2) o) id.index.firsts.items one.empty.items spot.home (first_at spot.home id.index.firsts.items) page page2 second second2 row spot.at) is
    (halved_of id row spot one before mid f page page2 second second2 s)))

pub split_told : (id : KeyedSet) (row : Row) (spot : Spot) (one : Index) (before mid after : ShelfView) (f : List (List ℕ) → List (List ℕ)) (page page2 second second2 low : List ℕ) → Splitting id row spot one before mid f page page2 second second2 → StartsWith low (rows_in id.shape page2)
    → after.pages id.set ≡ option_map (λ pages. set (set pages (home_page id spot) page2) (number_at one.empty.items) second2) (mid.pages id.set) → PutsIn id row before after
split_told id row spot one before mid after f page page2 second second2 low s starts staged =
    let h = halved_of id row spot one before mid f page page2 second second2 s in
    let sp = s.spared in
    split_puts id.shape row (before.pages id.set) (mid.pages id.set) (after.pages id.set) id.index.firsts.items id.index.firsts.items id.index.empty.items one.empty.items (home_page id spot) s.some s.short (opened_stands id before s.opened) s.full
    (where_told (before.pages id.set) (λ pages. IsSomeAnd (mid.pages id.set) (λ now. HasSpare (tables id.shape pages) (tables id.shape now))) (λ pages is.
    subst (λ o. IsSomeAnd o (λ now. HasSpare (tables id.shape pages) (tables id.shape now))) (sym (sp.pages ∙ ap (option_map f) is)) (sp.spare pages is))) sp.stands sp.some
    (halved_told id.shape (mid.pages id.set) (option_map (λ pages. set pages (home_page id spot) page2) (mid.pages id.set)) (after.pages id.set) id.index.firsts.items one.empty.items spot.home (first_at spot.home id.index.firsts.items) page page2 second second2 row spot.at low h starts
    (λ n is. subst (λ (k : ℕ). after.pages id.set ≡ option_map (λ (pages : List (List ℕ)). set pages k second2) (option_map (λ pages. set pages (home_page id spot) page2) (mid.pages id.set))) (get_or_from_slice_get one.empty.items 0 n 0 is)
    (staged ∙ sym (map_map (λ (pages : List (List ℕ)). set pages (home_page id spot) page2) (λ (pages : List (List ℕ)). set pages (number_at one.empty.items) second2) (mid.pages id.set)))))

pub split_index : (id : KeyedSet) (row : Row) (spot : Spot) (one : Index) (before mid after : ShelfView) (f : List (List ℕ) → List (List ℕ)) (page page2 second second2 low high : List ℕ) → Splitting id row spot one before mid f page page2 second second2
    → StartsWith low (rows_in id.shape page2) → StartsWith high (rows_in id.shape second2) → after.pages id.set ≡ option_map (λ pages. set (set pages (home_page id spot) page2) (number_at one.empty.items) second2) (mid.pages id.set)
    → IfSome (after.pages id.set) (Stands id.shape (insert (set id.index.firsts.items spot.home (record { key = low; page = home_page id spot })) (spot.home + 1) (record { key = high; page = number_at one.empty.items })) (remove one.empty.items 0))
split_index id row spot one before mid after f page page2 second second2 low high s starts begins staged =
    halved_index id.shape (mid.pages id.set) (option_map (λ pages. set pages (home_page id spot) page2) (mid.pages id.set)) (after.pages id.set) id.index.firsts.items one.empty.items spot.home (first_at spot.home id.index.firsts.items) page page2 second second2 row spot.at low high (number_at one.empty.items)
    (halved_of id row spot one before mid f page page2 second second2 s) starts begins (slice_get-get_or one.empty.items 0 0 s.spared.some)
    (staged ∙ sym (map_map (λ (pages : List (List ℕ)). set pages (home_page id spot) page2) (λ (pages : List (List ℕ)). set pages (number_at one.empty.items) second2) (mid.pages id.set)))

-- only the full page was put back
half_stands : (shape : RowShape) (told told2 : Option (List (List ℕ))) (firsts : List First) (empty : List ℕ) (home : ℕ) (p : First) (page page2 second second2 : List ℕ) (row : Row) (at : ℕ) (z : List ℕ) → HalvedTold shape told told2 firsts empty home p page page2 second second2 row at → StartsWith z (rows_in shape page2)
    → IfSome told2 (Stands shape (set firsts home (record { key = z; page = p.page })) empty)
half_stands shape None told2 firsts empty home p page page2 second second2 row at z t starts = subst (λ o. IfSome o (Stands shape (set firsts home (record { key = z; page = p.page })) empty)) (sym t.staged) tt
half_stands shape (Some pages) told2 firsts [] home p page page2 second second2 row at z t starts = absurd (omega (arith, t.some))
half_stands shape (Some pages) told2 firsts (n ∷ rest) home p page page2 second second2 row at z t starts =
    let h = halved_at shape pages told2 firsts n rest home p page page2 second second2 row at t in
    let part = kept_part shape pages firsts home p n rest page page2 second second2 row h in
    subst (λ o. IfSome o (Stands shape (set firsts home (record { key = z; page = p.page })) (n ∷ rest))) (sym t.staged)
    (part_stands shape pages firsts (n ∷ rest) home p page page2 row (kept_rows row (rows_in shape page)) z part (subst (StartsWith z) h.keeps.rows starts))

pub half_index : (id : KeyedSet) (row : Row) (spot : Spot) (one : Index) (before mid after : ShelfView) (f : List (List ℕ) → List (List ℕ)) (page page2 second second2 low : List ℕ) → Splitting id row spot one before mid f page page2 second second2 → StartsWith low (rows_in id.shape page2)
    → after.pages id.set ≡ option_map (λ pages. set pages (home_page id spot) page2) (mid.pages id.set) → IfSome (after.pages id.set) (Stands id.shape (set id.index.firsts.items spot.home (record { key = low; page = home_page id spot })) one.empty.items)
half_index id row spot one before mid after f page page2 second second2 low s starts staged =
    subst (λ o. IfSome o (Stands id.shape (set id.index.firsts.items spot.home (record { key = low; page = home_page id spot })) one.empty.items)) (sym staged)
    (half_stands id.shape (mid.pages id.set) (option_map (λ pages. set pages (home_page id spot) page2) (mid.pages id.set)) id.index.firsts.items one.empty.items spot.home (first_at spot.home id.index.firsts.items) page page2 second second2 row spot.at low
    (halved_of id row spot one before mid f page page2 second second2 s) starts)

half_table : (shape : RowShape) (pages : List (List ℕ)) (told2 : Option (List (List ℕ))) (firsts : List First) (empty : List ℕ) (home : ℕ) (p : First) (page page2 second second2 : List ℕ) (row : Row) (at : ℕ) → HalvedTold shape (Some pages) told2 firsts empty home p page page2 second second2 row at
    → tables shape (set pages p.page page2) ≡ placed p.page (kept_rows row (rows_in shape page)) (tables shape pages)
half_table shape pages told2 firsts [] home p page page2 second second2 row at t = absurd (omega (arith, t.some))
half_table shape pages told2 firsts (n ∷ rest) home p page page2 second second2 row at t = kept_table shape pages firsts home p n rest page page2 second second2 row (halved_at shape pages told2 firsts n rest home p page page2 second second2 row at t)

pub half_left : (id : KeyedSet) (row : Row) (spot : Spot) (one : Index) (before mid after : ShelfView) (f : List (List ℕ) → List (List ℕ)) (page page2 second second2 : List ℕ) → Splitting id row spot one before mid f page page2 second second2
    → after.pages id.set ≡ option_map (λ pages. set pages (home_page id spot) page2) (mid.pages id.set)
    → IfSome (before.pages id.set) (λ pages. IsSomeAnd (after.pages id.set) (λ now. PutLeaves (capacity id.shape) row (tables id.shape pages) (tables id.shape now)))
half_left id row spot one before mid after f page page2 second second2 s staged = where_told (before.pages id.set) (λ pages. IsSomeAnd (after.pages id.set) (λ now. PutLeaves (capacity id.shape) row (tables id.shape pages) (tables id.shape now))) (λ pages is.
    let sp = s.spared in
    let n : ℕ = home_page id spot in
    let mid_is : mid.pages id.set ≡ Some (f pages) = sp.pages ∙ ap (option_map f) is in
    let a = at_told id (row.0) spot page before s.opened s.sought pages is in
    let full = told_at (before.pages id.set) pages (λ l. IsFull (capacity id.shape) (row.0) (tables id.shape l) n) is s.full in
    let h = subst (λ o. HalvedTold id.shape o (option_map (λ pages. set pages n page2) o) id.index.firsts.items one.empty.items spot.home (first_at spot.home id.index.firsts.items) page page2 second second2 row spot.at) mid_is (halved_of id row spot one before mid f page page2 second second2 s) in
    let table = half_table id.shape (f pages) (Some (set (f pages) n page2)) id.index.firsts.items one.empty.items spot.home (first_at spot.home id.index.firsts.items) page page2 second second2 row spot.at h in
    subst (λ o. IsSomeAnd o (λ now. PutLeaves (capacity id.shape) row (tables id.shape pages) (tables id.shape now))) (sym (staged ∙ ap (option_map (λ (l : List (List ℕ)). set l n page2)) mid_is))
    (Halved n full.home full.full full.amid (tables id.shape (f pages)) (sp.spare pages is) (table ∙ ap (λ (l : List Row). placed n (kept_rows row l) (tables id.shape (f pages))) (sym a.rows))))

pub split_heads_told : (id : KeyedSet) (row : Row) (spot : Spot) (one : Index) (before mid after : ShelfView) (f g : List (List ℕ) → List (List ℕ)) (page page2 second second2 : List ℕ) → Splitting id row spot one before mid f page page2 second second2
    → after.pages id.set ≡ option_map g (mid.pages id.set) → ((pages : List (List ℕ)) → mid.pages id.set ≡ Some pages → slice_get pages (home_page id spot) ≡ Some page → slice_get pages (number_at one.empty.items) ≡ Some second → (old : List (List ℕ)) → Kept id.set old pages → Kept id.set old (g pages))
    → KeepsHeads SameHead 2 id.set before after
split_heads_told id row spot one before mid after f g page page2 second second2 s staged keeps =
    let sp = s.spared in
    let h = halved_of id row spot one before mid f page page2 second second2 s in
    heads_told id.set before after (λ pages. g (f pages)) (staged ∙ ap (option_map g) sp.pages ∙ map_map f g (before.pages id.set)) (λ pages is.
    let mid_is : mid.pages id.set ≡ Some (f pages) = sp.pages ∙ ap (option_map f) is in
    keeps (f pages) mid_is (told_at (mid.pages id.set) (f pages) (λ l. slice_get l (home_page id spot) ≡ Some page) mid_is h.read) (told_at (mid.pages id.set) (f pages) (λ l. slice_get l (number_at one.empty.items) ≡ Some second) mid_is s.there) pages (sp.heads pages is))

pub many_rows : (shape : RowShape) (count : ℕ) → row_length shape ≤ 2040 → (end_of shape (count + 1) ≤ 4096 → ⊥) → 1 < count
many_rows shape zero short full = absurd (full (omega (arith, short)))
many_rows shape (suc zero) short full = absurd (full (omega (arith, short)))
many_rows shape (suc (suc n)) short full = omega arith

home_is : (id : KeyedSet) (spot : Spot) (one : Index) → one.firsts.items ≡ id.index.firsts.items → (first_at spot.home one.firsts.items).page ≡ home_page id spot
home_is id spot one same = ap (λ (l : List First). (first_at spot.home l).page) same

pub can_halve : (id : KeyedSet) (row : Row) (spot : Spot) (one : Index) (before mid read : ShelfView) (f : List (List ℕ) → List (List ℕ)) (page page2 second second2 : List ℕ) → Splitting id row spot one before mid f page page2 second second2
    → one.firsts.items ≡ id.index.firsts.items → SameShelf mid read → HasPlace id.shape page2 × (0 < count_of page2) → HasPlace id.shape second2 × (0 < count_of second2) → CanHalve id.set id.shape one spot.home page2 second2 read
can_halve id row spot one before mid read f page page2 second second2 s firsts same place second_place =
    let h = halved_of id row spot one before mid f page page2 second second2 s in
    let heads = split_heads id.shape page page2 second second2 row spot.at s.split in
    let at = home_is id spot one firsts in
    record {
      within = subst (λ (l : List First). spot.home < length l) (sym firsts) s.sought.within;
      some = s.spared.some;
      below = subst (λ (k : ℕ). k < length (read.places id.set)) (sym at) (subst (λ (l : List ℕ). home_page id spot < length l) (sym (same.places id.set)) (s.spared.firsts_within spot.home no_first s.sought.within));
      second_below = subst (λ (l : List ℕ). number_at one.empty.items < length l) (sym (same.places id.set)) (s.spared.within 0 0 s.spared.some);
      head = subst (λ (k : ℕ). IfSome (read.pages id.set) (λ pages. IfSome (slice_get pages k) (λ old. SameHead old page2))) (sym at) (subst (λ o. IfSome o (λ pages. IfSome (slice_get pages (home_page id spot)) (λ old. SameHead old page2))) (sym (same.pages id.set))
          (told_both (mid.pages id.set) (λ pages. slice_get pages (home_page id spot) ≡ Some page) (λ pages. IfSome (slice_get pages (home_page id spot)) (λ old. SameHead old page2)) h.read (λ pages is there. subst (λ o. IfSome o (λ old. SameHead old page2)) (sym there) heads.0)));
      second_head = subst (λ o. IfSome o (λ pages. IfSome (slice_get pages (number_at one.empty.items)) (λ old. SameHead old second2))) (sym (same.pages id.set))
          (told_both (mid.pages id.set) (λ pages. slice_get pages (number_at one.empty.items) ≡ Some second) (λ pages. IfSome (slice_get pages (number_at one.empty.items)) (λ old. SameHead old second2)) s.there (λ pages is there. subst (λ o. IfSome o (λ old. SameHead old second2)) (sym there) heads.1));
      apart = subst (λ (k : ℕ). IfSome (read.pages id.set) (λ pages. number_at one.empty.items ≡ k → ⊥)) (sym at) (subst (λ o. IfSome o (λ pages. number_at one.empty.items ≡ home_page id spot → ⊥)) (sym (same.pages id.set)) (second_apart id row spot one before mid f page page2 second second2 s));
      place = place;
      second_place = second_place;
    }

halves_staged : (id : KeyedSet) (spot : Spot) (one two : Index) (mid read after : ShelfView) (page2 second2 : List ℕ) → one.firsts.items ≡ id.index.firsts.items → read.pages id.set ≡ mid.pages id.set → WritesHalves id.set id.shape one two spot.home page2 second2 read after
    → after.pages id.set ≡ option_map (λ pages. set (set pages (home_page id spot) page2) (number_at one.empty.items) second2) (mid.pages id.set)
halves_staged id spot one two mid read after page2 second2 firsts same w =
    w.pages ∙ ap (λ (n : ℕ). option_map (λ (pages : List (List ℕ)). set (set pages n page2) (number_at one.empty.items) second2) (read.pages id.set)) (home_is id spot one firsts)
    ∙ ap (option_map (λ (pages : List (List ℕ)). set (set pages (home_page id spot) page2) (number_at one.empty.items) second2)) same

pub halves_put : (id : KeyedSet) (row : Row) (spot : Spot) (one two : Index) (before mid read after : ShelfView) (f : List (List ℕ) → List (List ℕ)) (page page2 second second2 : List ℕ) → Splitting id row spot one before mid f page page2 second second2
    → one.firsts.items ≡ id.index.firsts.items → read.pages id.set ≡ mid.pages id.set → WritesHalves id.set id.shape one two spot.home page2 second2 read after → PutsIn id row before after
halves_put id row spot one two before mid read after f page page2 second second2 s firsts same w =
    split_told id row spot one before mid after f page page2 second second2 w.low s w.low_starts (halves_staged id spot one two mid read after page2 second2 firsts same w)

pub halves_opened : (id new : KeyedSet) (row : Row) (spot : Spot) (one two : Index) (before mid read after : ShelfView) (f : List (List ℕ) → List (List ℕ)) (page page2 second second2 : List ℕ) → Splitting id row spot one before mid f page page2 second second2
    → one.firsts.items ≡ id.index.firsts.items → new.set ≡ id.set → new.shape ≡ id.shape → new.index ≡ two → SameShelf mid read → after.places id.set ≡ read.places id.set → WritesHalves id.set id.shape one two spot.home page2 second2 read after → IsOpened new after
halves_opened id new row spot one two before mid read after f page page2 second second2 s firsts set_is shape_is index_is same places w =
    let all : List First = id.index.firsts.items in
    let p : ℕ = home_page id spot in
    let low : First = record { key = w.low; page = p } in
    let high : First = record { key = w.high; page = number_at one.empty.items } in
    let step : spot.home + 1 ≡ suc spot.home = omega arith in
    let count : ℕ = length (mid.places id.set) in
    let list : List First = insert (set all spot.home low) (spot.home + 1) high in
    let list_is : two.firsts.items ≡ list =
    w.firsts ∙ ap (λ (l : List First). set (insert l (spot.home + 1) high) spot.home (record { key = w.low; page = (first_at spot.home l).page })) firsts
    ∙ ap (λ (k : ℕ). set (insert all k high) spot.home low) step ∙ set_insert all spot.home low high s.sought.within ∙ ap (λ (k : ℕ). insert (set all spot.home low) k high) (sym step) in
    opened_as new after list (remove one.empty.items 0) count (ap (λ (i : Index). i.firsts.items) index_is ∙ list_is) (ap (λ (i : Index). i.empty.items) index_is ∙ w.empty)
    (ap (λ k. length (after.places k)) set_is ∙ ap (λ (l : List ℕ). length l) (places ∙ same.places id.set))
    (put_within (set all spot.home low) (spot.home + 1) high count (s.spared.within 0 0 s.spared.some) (All-set (λ (f : First). f.page < count) all spot.home low (s.spared.firsts_within spot.home no_first s.sought.within) s.spared.firsts_within))
    (fewer_within one.empty.items count s.spared.within)
    (subst (λ k. IfSome (after.pages k) (Stands new.shape list (remove one.empty.items 0))) (sym set_is) (subst (λ (h : RowShape). IfSome (after.pages id.set) (Stands h list (remove one.empty.items 0))) (sym shape_is)
    (split_index id row spot one before mid after f page page2 second second2 w.low w.high s w.low_starts w.high_starts (halves_staged id spot one two mid read after page2 second2 firsts (same.pages id.set) w))))

pub halves_heads : (id : KeyedSet) (row : Row) (spot : Spot) (one two : Index) (before mid read after : ShelfView) (f : List (List ℕ) → List (List ℕ)) (page page2 second second2 : List ℕ) → Splitting id row spot one before mid f page page2 second second2
    → one.firsts.items ≡ id.index.firsts.items → read.pages id.set ≡ mid.pages id.set → WritesHalves id.set id.shape one two spot.home page2 second2 read after → KeepsHeads SameHead 2 id.set before after
halves_heads id row spot one two before mid read after f page page2 second second2 s firsts same w =
    let heads = split_heads id.shape page page2 second second2 row spot.at s.split in
    let p : ℕ = home_page id spot in
    let n : ℕ = number_at one.empty.items in
    split_heads_told id row spot one before mid after f (λ pages. set (set pages p page2) n second2) page page2 second second2 s (halves_staged id spot one two mid read after page2 second2 firsts same w) (λ pages mid_is a b old kept.
    heads_put id.set old (set pages p page2) n second second2 (heads_put id.set old pages p page page2 kept a heads.0)
    (slice_set_other pages p n page2 (told_at (mid.pages id.set) pages (λ l. n ≡ p → ⊥) mid_is (second_apart id row spot one before mid f page page2 second second2 s)) ∙ b) heads.1)

half_staged : (id : KeyedSet) (spot : Spot) (one : Index) (mid read after : ShelfView) (page2 : List ℕ) → one.firsts.items ≡ id.index.firsts.items → read.pages id.set ≡ mid.pages id.set → after.pages id.set ≡ option_map (λ pages. set pages (first_at spot.home one.firsts.items).page page2) (read.pages id.set)
    → after.pages id.set ≡ option_map (λ pages. set pages (home_page id spot) page2) (mid.pages id.set)
half_staged id spot one mid read after page2 firsts same staged =
    staged ∙ ap (λ (n : ℕ). option_map (λ (pages : List (List ℕ)). set pages n page2) (read.pages id.set)) (home_is id spot one firsts) ∙ ap (option_map (λ (pages : List (List ℕ)). set pages (home_page id spot) page2)) same

pub left_opened : (id new : KeyedSet) (row : Row) (spot : Spot) (one two : Index) (before mid read after : ShelfView) (f : List (List ℕ) → List (List ℕ)) (page page2 second second2 : List ℕ) → Splitting id row spot one before mid f page page2 second second2
    → one.firsts.items ≡ id.index.firsts.items → new.set ≡ id.set → new.shape ≡ id.shape → new.index ≡ two → SameShelf mid read → after.places id.set ≡ read.places id.set → LeavesHalf id.set id.shape one two spot.home page2 read after → IsOpened new after
left_opened id new row spot one two before mid read after f page page2 second second2 s firsts set_is shape_is index_is same places (Nothing a b still) =
    opened_spared id new one.empty.items before mid after f s.spared set_is shape_is (ap (λ (i : Index). i.firsts.items) index_is ∙ a ∙ firsts) (ap (λ (i : Index). i.empty.items) index_is ∙ b) (same_then same still)
left_opened id new row spot one two before mid read after f page page2 second second2 s firsts set_is shape_is index_is same places (Half low starts a b staged) =
    let all : List First = id.index.firsts.items in
    let first : First = record { key = low; page = home_page id spot } in
    let count : ℕ = length (mid.places id.set) in
    opened_as new after (set all spot.home first) one.empty.items count
    (ap (λ (i : Index). i.firsts.items) index_is ∙ a ∙ ap (λ (l : List First). set l spot.home (record { key = low; page = (first_at spot.home l).page })) firsts) (ap (λ (i : Index). i.empty.items) index_is ∙ b)
    (ap (λ k. length (after.places k)) set_is ∙ ap (λ (l : List ℕ). length l) (places ∙ same.places id.set))
    (All-set (λ (f : First). f.page < count) all spot.home first (s.spared.firsts_within spot.home no_first s.sought.within) s.spared.firsts_within) s.spared.within
    (subst (λ k. IfSome (after.pages k) (Stands new.shape (set all spot.home first) one.empty.items)) (sym set_is) (subst (λ (h : RowShape). IfSome (after.pages id.set) (Stands h (set all spot.home first) one.empty.items)) (sym shape_is)
    (half_index id row spot one before mid after f page page2 second second2 low s starts (half_staged id spot one mid read after page2 firsts (same.pages id.set) staged))))

pub left_heads : (id : KeyedSet) (row : Row) (spot : Spot) (one two : Index) (before mid read after : ShelfView) (f : List (List ℕ) → List (List ℕ)) (page page2 second second2 : List ℕ) → Splitting id row spot one before mid f page page2 second second2
    → one.firsts.items ≡ id.index.firsts.items → read.pages id.set ≡ mid.pages id.set → LeavesHalf id.set id.shape one two spot.home page2 read after → KeepsHeads SameHead 2 id.set before after
left_heads id row spot one two before mid read after f page page2 second second2 s firsts same (Nothing a b still) = heads_told id.set before after f (still.pages id.set ∙ same ∙ s.spared.pages) s.spared.heads
left_heads id row spot one two before mid read after f page page2 second second2 s firsts same (Half low starts a b staged) =
    split_heads_told id row spot one before mid after f (λ pages. set pages (home_page id spot) page2) page page2 second second2 s (half_staged id spot one mid read after page2 firsts same staged)
    (λ pages mid_is a b old kept. heads_put id.set old pages (home_page id spot) page page2 kept a (split_heads id.shape page page2 second second2 row spot.at s.split).0)

pub left_puts : (id : KeyedSet) (row : Row) (spot : Spot) (one two : Index) (before mid read after : ShelfView) (f : List (List ℕ) → List (List ℕ)) (page page2 second second2 : List ℕ) → Splitting id row spot one before mid f page page2 second second2
    → one.firsts.items ≡ id.index.firsts.items → read.pages id.set ≡ mid.pages id.set → LeavesHalf id.set id.shape one two spot.home page2 read after
    → IfSome (before.pages id.set) (λ pages. IsSomeAnd (after.pages id.set) (λ now. PutLeaves (capacity id.shape) row (tables id.shape pages) (tables id.shape now)))
left_puts id row spot one two before mid read after f page page2 second second2 s firsts same (Nothing a b still) = left_spared id row one.empty.items before mid after f s.spared (still.pages id.set ∙ same)
left_puts id row spot one two before mid read after f page page2 second second2 s firsts same (Half low starts a b staged) = half_left id row spot one before mid after f page page2 second second2 s (half_staged id spot one mid read after page2 firsts same staged)

-- a put after a page was read
pub read_grows : {m : ℕ} {s t u f g : Type 0} (id : KeyedSet) {a b c : ShelfView} → OnlyReads m s f a b → Grows id t g b c → (s → t → u) → Grows id u g a c
read_grows id {a} {b} {c} reads grows then =
    let first = changes_grows (reads_changes id.set reads) in
    record {
      changes = elim grows.changes [ inl none ↦ inl (grows_then 0 0 first none then) | inr one ↦ inr (grows_then 0 1 first one then) ];
      heads = subst (λ o. IfSome o (λ pages. IfSome (c.pages id.set) (Kept id.set pages))) (reads.same.pages id.set) grows.heads;
    }

pub fails_after : {T : Type 0} (r : Result T PageFault) (id : KeyedSet) (row : Row) (a b c : ShelfView) → SameShelf a b → IfErr r (PutFails id row b c) → IfErr r (PutFails id row a c)
fails_after (Ok t) id row a b c same fails = tt
fails_after (Err e) id row a b c same fails = record {
  left = subst (λ o. IfSome o (λ pages. IsSomeAnd (c.pages id.set) (λ now. PutLeaves (capacity id.shape) row (tables id.shape pages) (tables id.shape now)))) (same.pages id.set) fails.left;
  same = λ is. same_then same (fails.same is);
  full = λ is. sym same.free ∙ fails.full is;
  needed = λ is. subst (λ o. IfSome o (λ pages. NeedsPage (capacity id.shape) (row.0) (tables id.shape pages))) (same.pages id.set) (fails.needed is);
}
