-- An entry is taken out and another is added: what the two calls leave together.
use Rattle.std.proofs.Common.{◌≡◌, ◌∙◌, ℕ, ◌<◌, List, length, map, get_or, Option, Some, None, Result, Ok, Err, inl, inr, sym, ap, subst, arith}
use Rattle.std.specs.Prelude.{Bool, true, false, IfSome, IsSomeAnd, IfErr, OnOk}
use Rattle.std.proofs.lemmas.List.{length-map}
use Rattle.std.proofs.lemmas.Option.{slice_get-get_or, slice_get_within}
use Rattle.hal_base.specs.declared.outcome.PageFault.{PageFault}
use Rattle.hal_base.specs.declared.pages.SetId.{SetId}
use Rattle.hal_base.specs.Pages.{SameHead}
use Rattle.hal_base.specs.ShelfCalls.{ShelfView, SameHeads, OnlyGrows}
use Rattle.hal_base.proofs.ShelfLemmas.{changes_grows, grows_then, grows_as}
use Rattle.keyed_sets.specs.declared.row.RowShape.{RowShape}
use Rattle.keyed_sets.specs.declared.set.KeyedSet.{KeyedSet}
use Rattle.keyed_sets.specs.Calls.{PutsIn, PutFails, Writes, Grows}
use Rattle.keyed_sets.specs.Layout.{Row, rows_in}
use Rattle.keyed_sets.specs.Map.{rows_of, with_row, without_row}
use Rattle.keyed_sets.specs.Places.{Puts, PutLeaves, NeedsPage}
use Rattle.keyed_sets.specs.Rule.{capacity, tables}
use Rattle.secondary_index.specs.declared.entry.Entry.{Entry}
use Rattle.secondary_index.specs.declared.fault.AddFault.{AddFault}
use Rattle.secondary_index.specs.Changes.{TakesOut, Moves, MoveFails, IsOut}
use Rattle.secondary_index.specs.Entries.{KeyIs, entry_row, has_entry}
use Rattle.secondary_index.specs.Faults.{AddFails, IsTaken, NotPut}

abbrev pub Pages : Type 0
Pages = Option (List (List ℕ))

-- one change of the rows after another
rows_then : (shape : RowShape) (one two three : Pages) (f g : List Row → List Row) → IfSome one (λ pages. IsSomeAnd two (λ now. rows_of shape now ≡ f (rows_of shape pages)))
    → IfSome two (λ pages. IsSomeAnd three (λ now. rows_of shape now ≡ g (rows_of shape pages))) → IfSome one (λ pages. IsSomeAnd three (λ now. rows_of shape now ≡ g (f (rows_of shape pages))))
rows_then shape None two three f g first second = tt
rows_then shape (Some a) None three f g first second = absurd first
rows_then shape (Some a) (Some b) None f g first second = absurd second
rows_then shape (Some a) (Some b) (Some c) f g first second = second ∙ ap g first

same_head_then : (a b c : List ℕ) → SameHead a b → SameHead b c → SameHead a c
same_head_then a b c first second = record { set = second.set ∙ first.set; rest = second.rest ∙ first.rest }

-- heads that are kept twice, where the first call adds no page
heads_then : (id : SetId) (one two three : Pages) → IfSome one (λ pages. IfSome two (SameHeads SameHead 2 id pages)) → IfSome two (λ pages. IfSome three (SameHeads SameHead 2 id pages)) → IfSome one (λ pages. IsSomeAnd two (λ now. length now ≡ length pages))
    → IfSome one (λ pages. IfSome three (SameHeads SameHead 2 id pages))
heads_then id None two three first second long = tt
heads_then id (Some a) None three first second long = absurd long
heads_then id (Some a) (Some b) None first second long = tt
heads_then id (Some a) (Some b) (Some c) first second long = record {
  kept = λ n page now is there.
      let within : n < length b = omega (arith, long, slice_get_within a n page is) in
      let mid : List ℕ = get_or b n page in
      let read = slice_get-get_or b n page within in
      same_head_then page mid now (first.kept n page mid is read) (second.kept n mid now read there);
  begun = λ n now le there. second.begun n now (omega (arith, long, le)) there;
}

same_count : (shape : RowShape) (f : List Row → List Row) (one two : Pages) → IfSome one (λ pages. IsSomeAnd two (λ now. tables shape now ≡ map f (tables shape pages))) → IfSome one (λ pages. IsSomeAnd two (λ now. length now ≡ length pages))
same_count shape f None two same = tt
same_count shape f (Some a) None same = absurd same
same_count shape f (Some a) (Some b) same =
    sym (length-map b (rows_in shape)) ∙ ap (λ (l : List (List Row)). length l) same ∙ length-map (map (rows_in shape) a) f ∙ length-map a (rows_in shape)

-- what is said of a set is said of one with its pages and lengths
pub puts_as : (old new : KeyedSet) (row : Row) (a b : ShelfView) → new.set ≡ old.set → new.shape ≡ old.shape → PutsIn new row a b → PutsIn old row a b
puts_as old new row a b set_is shape_is puts = subst (λ (s : SetId). Puts old.shape row (a.pages s) (b.pages s)) set_is (subst (λ (h : RowShape). Puts h row (a.pages new.set) (b.pages new.set)) shape_is puts)

key_as : (is : Bool) (old new : KeyedSet) (key : List ℕ) (a : ShelfView) → new.set ≡ old.set → new.shape ≡ old.shape → KeyIs is new key a → KeyIs is old key a
key_as is old new key a set_is shape_is told = subst (λ (s : SetId). IfSome (a.pages s) (λ pages. has_entry key (rows_of old.shape pages) ≡ is)) set_is (subst (λ (h : RowShape). IfSome (a.pages new.set) (λ pages. has_entry key (rows_of h pages) ≡ is)) shape_is told)

put_fails_as : (old new : KeyedSet) (row : Row) (a b : ShelfView) (why : PageFault) → new.set ≡ old.set → new.shape ≡ old.shape → PutFails new row a b why → PutFails old row a b why
put_fails_as old new row a b why set_is shape_is fails = record {
  left = subst (λ (s : SetId). IfSome (a.pages s) (λ pages. IsSomeAnd (b.pages s) (λ now. PutLeaves (capacity old.shape) row (tables old.shape pages) (tables old.shape now)))) set_is
      (subst (λ (h : RowShape). IfSome (a.pages new.set) (λ pages. IsSomeAnd (b.pages new.set) (λ now. PutLeaves (capacity h) row (tables h pages) (tables h now)))) shape_is fails.left);
  same = fails.same;
  full = fails.full;
  needed = λ is. subst (λ (s : SetId). IfSome (a.pages s) (λ pages. NeedsPage (capacity old.shape) (row.0) (tables old.shape pages))) set_is
      (subst (λ (h : RowShape). IfSome (a.pages new.set) (λ pages. NeedsPage (capacity h) (row.0) (tables h pages))) shape_is (fails.needed is));
}

add_fails_as : (old new : KeyedSet) (entry : Entry) (a b : ShelfView) (fault : AddFault) → new.set ≡ old.set → new.shape ≡ old.shape → AddFails new entry a b fault → AddFails old entry a b fault
add_fails_as old new entry a b fault set_is shape_is (IsTaken is told same) = IsTaken is (key_as true old new entry.key a set_is shape_is told) same
add_fails_as old new entry a b fault set_is shape_is (NotPut why is fails) = NotPut why is (put_fails_as old new (entry_row entry) a b why set_is shape_is fails)

-- what the two calls leave
pub moves : {T : Type 0} (r : Result T AddFault) (old new : KeyedSet) (key : List ℕ) (entry : Entry) (a b c : ShelfView) → new.set ≡ old.set → new.shape ≡ old.shape → TakesOut old key a b
    → OnOk r (KeyIs false new entry.key b) → OnOk r (PutsIn new (entry_row entry) b c) → OnOk r (Moves old key entry a c)
moves (Ok t) old new key entry a b c set_is shape_is out free puts =
    let added = puts_as old new (entry_row entry) b c set_is shape_is puts in
    record {
      between = b;
      out = out;
      not_taken = key_as false old new entry.key b set_is shape_is free;
      added = added;
      rows = rows_then old.shape (a.pages old.set) (b.pages old.set) (c.pages old.set) (without_row key) (with_row (entry_row entry)) out.rows.changes.rows added.rows;
    }
moves (Err e) old new key entry a b c set_is shape_is out free puts = tt

pub move_fails : {T : Type 0} (r : Result T AddFault) (old new : KeyedSet) (key : List ℕ) (entry : Entry) (a b c : ShelfView) → new.set ≡ old.set → new.shape ≡ old.shape → TakesOut old key a b → IfErr r (AddFails new entry b c) → IfErr r (MoveFails old key entry a c)
move_fails (Ok t) old new key entry a b c set_is shape_is out fails = tt
move_fails (Err e) old new key entry a b c set_is shape_is out fails = IsOut b out (add_fails_as old new entry b c e set_is shape_is fails)

pub moves_leave : {s t u f g : Type 0} (old new : KeyedSet) (key : List ℕ) (a b c : ShelfView) → new.set ≡ old.set → TakesOut old key a b → Writes old s f a b → Grows new t g b c → (s → t → u) → Grows old u g a c
moves_leave {s} {t} {u} {f} {g} old new key a b c set_is out writes grows then =
    let first = changes_grows writes.changes in
    record {
      changes = elim grows.changes [
        | inl none ↦ inl (grows_then 0 0 first (subst (λ (id : SetId). OnlyGrows 0 id t g b c) set_is none) then)
        | inr one ↦ inr (grows_then 0 1 first (subst (λ (id : SetId). OnlyGrows 1 id t g b c) set_is one) then)
      ];
      heads = heads_then old.set (a.pages old.set) (b.pages old.set) (c.pages old.set) writes.heads
          (subst (λ (id : SetId). IfSome (b.pages id) (λ pages. IfSome (c.pages id) (SameHeads SameHead 2 id pages))) set_is grows.heads)
          (same_count old.shape (without_row key) (a.pages old.set) (b.pages old.set) out.rows.changes.pages);
    }

pub writes_grow : {s f g : Type 0} (id : KeyedSet) {a b : ShelfView} → Writes id s f a b → (f → g) → (g → f) → Grows id s g a b
writes_grow id writes to from = record { changes = inl (grows_as (changes_grows writes.changes) to from); heads = writes.heads }
