-- Steps of a put and of a removal, as the private functions say them, over the set as a whole.
use Rattle.std.proofs.Common.{◌≡◌, ℕ, ◌+◌, ◌<◌, ◌≤◌, List, [], ◌∷◌, ◌++◌, length, take, set, Option, Some, None, Result, Ok, Err, inl, inr, refl, sym, ap, subst, ◌∙◌, arith}
use Rattle.std.specs.Prelude.{All, IfSome, IsSomeAnd, OnErr, IfErr, IsErrOf, OnOk, slice_get}
use Rattle.std.specs.Option.{option_map}
use Rattle.std.proofs.lemmas.List.{length_push}
use Rattle.std.proofs.lemmas.List.Elements.{All-weaker, All-cons}
use Rattle.hal_base.specs.declared.outcome.PageFault.{PageFault}
use Rattle.hal_base.specs.declared.outcome.PageFault.TheVariants.{NoRoom}
use Rattle.hal_base.specs.Pages.{empty_page}
use Rattle.hal_base.specs.ShelfCalls.{ShelfView, SameShelf}
use Rattle.keyed_sets.specs.declared.index.First.{First}
use Rattle.keyed_sets.specs.declared.index.Index.{Index}
use Rattle.keyed_sets.specs.declared.set.KeyedSet.{KeyedSet}
use Rattle.keyed_sets.specs.Calls.{IsOpened, PutFails}
use Rattle.keyed_sets.specs.Changes.{HasSpare}
use Rattle.keyed_sets.specs.Layout.{Row}
use Rattle.keyed_sets.specs.Places.{PutLeaves, AsBefore}
use Rattle.keyed_sets.specs.Rule.{capacity, tables}
use Rattle.keyed_sets.specs.Standing.{Stands}
use Rattle.keyed_sets.specs.Writing.{MakesPage, Had, Made}
use Rattle.keyed_sets.proofs.Heads.{Kept, heads_same, heads_grown, slice_push_old}
use Rattle.keyed_sets.proofs.OpenSets.{opened_stands, opened_from}
use Rattle.keyed_sets.proofs.Spares.{grown_stands, grown_table}
use Rattle.keyed_sets.proofs.Told.{where_told, told_at, told_both}
use Rattle.std.proofs.lemmas.Option.{slice_get_within}

-- what is kept is known, part by part
pub opened_as : (new : KeyedSet) (seen : ShelfView) (firsts : List First) (empty : List ℕ) (count : ℕ) → new.index.firsts.items ≡ firsts → new.index.empty.items ≡ empty → length (seen.places new.set) ≡ count
    → All (λ (f : First). f.page < count) firsts → All (λ n. n < count) empty → IfSome (seen.pages new.set) (Stands new.shape firsts empty) → IsOpened new seen
opened_as new seen firsts empty count firsts_is empty_is places firsts_within empty_within stands = opened_from new seen
    (subst (λ (l : List First). All (λ (f : First). f.page < length (seen.places new.set)) l) (sym firsts_is) (subst (λ (n : ℕ). All (λ (f : First). f.page < n) firsts) (sym places) firsts_within))
    (subst (λ (l : List ℕ). All (λ n. n < length (seen.places new.set)) l) (sym empty_is) (subst (λ (n : ℕ). All (λ k. k < n) empty) (sym places) empty_within))
    (subst (λ (l : List First). IfSome (seen.pages new.set) (Stands new.shape l new.index.empty.items)) (sym firsts_is) (subst (λ (l : List ℕ). IfSome (seen.pages new.set) (Stands new.shape firsts l)) (sym empty_is) stands))

-- a set of which neither what it keeps nor its pages were changed
pub opened_still : (old new : KeyedSet) (before after : ShelfView) → new.set ≡ old.set → new.shape ≡ old.shape → new.index.firsts.items ≡ old.index.firsts.items → new.index.empty.items ≡ old.index.empty.items → SameShelf before after → IsOpened old before → IsOpened new after
opened_still old new before after set_is shape_is firsts_is empty_is same o =
    opened_as new after old.index.firsts.items old.index.empty.items (length (before.places old.set)) firsts_is empty_is (ap (λ s. length (after.places s)) set_is ∙ ap (λ (l : List ℕ). length l) (same.places old.set)) o.firsts_within o.empty_within
    (subst (λ s. IfSome (after.pages s) (Stands new.shape old.index.firsts.items old.index.empty.items)) (sym set_is) (subst (λ s. IfSome (after.pages old.set) (Stands s old.index.firsts.items old.index.empty.items)) (sym shape_is)
    (subst (λ l. IfSome l (Stands old.shape old.index.firsts.items old.index.empty.items)) (sym (same.pages old.set)) (opened_stands old before o))))

pub either : {T E A B C : Type 0} (r : Result T E) → OnOk r A → OnErr r B → (A → C) → (B → C) → C
either (Ok t) a b ok err = ok a
either (Err e) a b ok err = err b

-- a put that changed nothing
spare_none : (most : ℕ) (row : Row) (table : List (List Row)) → PutLeaves most row table table
spare_none most row table = AsBefore (inl refl)

pub left_none : (set : KeyedSet) (row : Row) (before after : ShelfView) → after.pages set.set ≡ before.pages set.set
    → IfSome (before.pages set.set) (λ pages. IsSomeAnd (after.pages set.set) (λ now. PutLeaves (capacity set.shape) row (tables set.shape pages) (tables set.shape now)))
left_none set row before after same = where_told (before.pages set.set) (λ pages. IsSomeAnd (after.pages set.set) (λ now. PutLeaves (capacity set.shape) row (tables set.shape pages) (tables set.shape now))) (λ pages is.
    subst (λ o. IsSomeAnd o (λ now. PutLeaves (capacity set.shape) row (tables set.shape pages) (tables set.shape now))) (sym (same ∙ is)) (spare_none (capacity set.shape) row (tables set.shape pages)))

pub fails_still : {T : Type 0} (r : Result T PageFault) (set : KeyedSet) (row : Row) (before after : ShelfView) → OnErr r (SameShelf before after) → (IsErrOf r NoRoom → ⊥) → IfErr r (PutFails set row before after)
fails_still (Ok t) set row before after same never = tt
fails_still (Err e) set row before after same never = record {
  left = left_none set row before after (same.pages set.set);
  same = λ is. same;
  full = λ is. absurd (never (ap Err is));
  needed = λ is. absurd (never (ap Err is));
}

-- a page without rows at hand, or added
pub record Spared (set : KeyedSet) (empty : List ℕ) (before mid : ShelfView) (f : List (List ℕ) → List (List ℕ)) : Type 0 where
  pub pages : mid.pages set.set ≡ option_map f (before.pages set.set)
  pub some : 0 < length empty
  pub within : All (λ n. n < length (mid.places set.set)) empty
  pub firsts_within : All (λ (first : First). first.page < length (mid.places set.set)) set.index.firsts.items
  pub stands : IfSome (mid.pages set.set) (Stands set.shape set.index.firsts.items empty)
  pub spare : (pages : List (List ℕ)) → before.pages set.set ≡ Some pages → HasSpare (tables set.shape pages) (tables set.shape (f pages))
  pub heads : (pages : List (List ℕ)) → before.pages set.set ≡ Some pages → Kept set.set pages (f pages)
  pub kept : (pages : List (List ℕ)) → before.pages set.set ≡ Some pages → (n : ℕ) (page : List ℕ) → slice_get pages n ≡ Some page → slice_get (f pages) n ≡ Some page

map_none : (o : Option (List (List ℕ))) → o ≡ option_map (λ (pages : List (List ℕ)). pages) o
map_none None = refl
map_none (Some pages) = refl

pub spared : (set : KeyedSet) (new : Index) (before mid : ShelfView) → IsOpened set before
    → IfSome (before.pages set.set) (λ pages. (length pages ≡ length (before.places set.set)) × All (λ (page : List ℕ). length page ≡ 4096) pages) → MakesPage set.set set.index new before mid
    → (f : List (List ℕ) → List (List ℕ)) × Spared set new.empty.items before mid f
spared set new before mid o long (Had some same shelf) = (
  λ pages. pages,
  record {
    pages = shelf.pages set.set ∙ map_none (before.pages set.set);
    some = omega (arith, some, ap (λ (l : List ℕ). length l) same);
    within = subst (λ (l : List ℕ). All (λ n. n < length (mid.places set.set)) l) (sym same) (subst (λ (l : List ℕ). All (λ n. n < length l) set.index.empty.items) (sym (shelf.places set.set)) o.empty_within);
    firsts_within = subst (λ (l : List ℕ). All (λ (f : First). f.page < length l) set.index.firsts.items) (sym (shelf.places set.set)) o.firsts_within;
    stands = subst (λ (l : List ℕ). IfSome (mid.pages set.set) (Stands set.shape set.index.firsts.items l)) (sym same)
        (subst (λ p. IfSome p (Stands set.shape set.index.firsts.items set.index.empty.items)) (sym (shelf.pages set.set)) (opened_stands set before o));
    spare = λ pages is. inl refl;
    heads = λ pages is. heads_same set.set pages;
    kept = λ pages is n page read. read;
  },
)
spared set new before mid o long (Made none made pages more) =
    let count : ℕ = length (before.places set.set) in
    let lengths : IfSome (before.pages set.set) (λ pages. length pages ≡ count) = told_both (before.pages set.set) (λ pages. (length pages ≡ count) × All (λ (page : List ℕ). length page ≡ 4096) pages) (λ pages. length pages ≡ count) long (λ pages is both. both.0) in
    let counts : length (mid.places set.set) ≡ count + 1 = ap (λ (l : List ℕ). length l) more.placed ∙ taken (before.places set.set) before.free more.enough in (
      λ pages. pages ++ empty_page 2 set.set count ∷ [],
      record {
        pages = pages;
        some = omega (arith, ap (λ (l : List ℕ). length l) made);
        within = subst (λ (l : List ℕ). All (λ n. n < length (mid.places set.set)) l) (sym made) (All-cons (λ n. n < length (mid.places set.set)) count [] (omega (arith, counts)) (λ k d lt. absurd (omega (arith, lt))));
        firsts_within = All-weaker (λ (f : First). f.page < count) (λ (f : First). f.page < length (mid.places set.set)) (λ f lt. omega (arith, lt, counts)) set.index.firsts.items o.firsts_within;
        stands = subst (λ (l : List ℕ). IfSome (mid.pages set.set) (Stands set.shape set.index.firsts.items l)) (sym made) (subst (λ p. IfSome p (Stands set.shape set.index.firsts.items (count ∷ []))) (sym pages) (standing (before.pages set.set) (opened_stands set before o) lengths));
        spare = λ pages is. inr (grown_table set.shape pages set.set count, sym (told_at (before.pages set.set) pages (Stands set.shape set.index.firsts.items set.index.empty.items) is (opened_stands set before o)).empty_pages ∙ none);
        heads = λ pages is. heads_grown set.set pages count (sym (told_at (before.pages set.set) pages (λ (l : List (List ℕ)). length l ≡ count) is lengths));
        kept = λ pages is n page read. slice_push_old pages (empty_page 2 set.set count) n (slice_get_within pages n page read) ∙ read;
      },
    )
  where
    taken : (places free : List ℕ) → 1 ≤ length free → length (places ++ take 1 free) ≡ length places + 1
    taken places [] le = absurd (omega (arith, le))
    taken places (block ∷ free) le = length_push places block

    standing : (told : Option (List (List ℕ))) → IfSome told (Stands set.shape set.index.firsts.items set.index.empty.items) → IfSome told (λ pages. length pages ≡ length (before.places set.set))
        → IfSome (option_map (λ (pages : List (List ℕ)). pages ++ empty_page 2 set.set (length (before.places set.set)) ∷ []) told) (Stands set.shape set.index.firsts.items (length (before.places set.set) ∷ []))
    standing None stands long = tt
    standing (Some pages) stands long = grown_stands set.shape pages set.index.firsts.items set.set (length (before.places set.set)) (subst (λ (l : List ℕ). Stands set.shape set.index.firsts.items l pages) none stands) (sym long)
