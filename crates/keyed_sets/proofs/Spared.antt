-- A full page that splits where a page was added before.
use Rattle.std.proofs.Common.{◌≡◌, ℕ, ◌+◌, ◌-◌, ◌/◌, ◌<◌, ◌≤◌, Bool, true, false, cond, List, [], ◌∷◌, ◌++◌, length, take, drop, Option, Some, None, inl, inr, refl, sym, ap, subst, ◌∙◌, append_assoc, arith}
use Rattle.std.specs.Prelude.{Contains, IfSome, IsSomeAnd}
use Rattle.std.proofs.lemmas.List.{length-take-le, take-append-le, drop-append-le}
use Rattle.keyed_sets.specs.declared.row.RowShape.{RowShape}
use Rattle.keyed_sets.specs.declared.index.First.{First}
use Rattle.keyed_sets.specs.Changes.{placed, HasSpare}
use Rattle.keyed_sets.specs.Layout.{Row, row_length}
use Rattle.keyed_sets.specs.Map.{rows_of, with_row}
use Rattle.keyed_sets.specs.Places.{nearer, IsHome, Takes, lower_half, upper_half, begins_upto, kept_rows, moved_rows, second_page, IsPut, Splits, Puts}
use Rattle.keyed_sets.specs.Rule.{capacity, tables, page_rows}
use Rattle.keyed_sets.specs.Goes.{IsSplitAt, IsFull}
use Rattle.keyed_sets.specs.Standing.{Stands}
use Rattle.keyed_sets.specs.Index.{empty_numbers}
use Rattle.keyed_sets.proofs.Maps.{with_row_new, same_rows}
use Rattle.keyed_sets.proofs.Members.{nothing_there, at_front}
use Rattle.keyed_sets.proofs.Tables.{row_within}
use Rattle.keyed_sets.proofs.Edited.{some_and}
use Rattle.keyed_sets.proofs.Sets.{lawful, row_in, in_rows, rows_rise}
use Rattle.keyed_sets.proofs.Numbers.{numbers_same}
use Rattle.keyed_sets.proofs.Begins.{spare_of}
use Rattle.keyed_sets.proofs.Homes.{full_many}

home_spared : (key : List ℕ) (before after : List (List Row)) (n : ℕ) → ((m : ℕ) → page_rows after m ≡ page_rows before m) → IsHome key before n → IsHome key after n
home_spared key before after n same (inl none) = inl (none.0, λ m. same m ∙ none.1 m)
home_spared key before after n same (inr near) = inr (λ m other. ap (λ (l : List Row). nearer key l (page_rows after m)) (same n) ∙ ap (nearer key (page_rows before n)) (same m) ∙ near m other)

full_spared : (most : ℕ) (key : List ℕ) (before after : List (List Row)) (n : ℕ) → ((m : ℕ) → page_rows after m ≡ page_rows before m) → IsFull most key before n → IsFull most key after n
full_spared most key before after n same full = record {
  home = home_spared key before after n same full.home;
  full = λ takes. full.full (subst (Takes most key) (same n) takes);
  amid = λ above. full.amid (λ m x c. above m x (subst (λ (l : List Row). Contains l x) (sym (same m)) c));
}

pub full_told : (shape : RowShape) (told told1 : Option (List (List ℕ))) (firsts : List First) (empty : List ℕ) (key : List ℕ) (n : ℕ) → IfSome told (λ pages. IsFull (capacity shape) key (tables shape pages) n)
    → IfSome told (λ pages. IsSomeAnd told1 (λ after. HasSpare (tables shape pages) (tables shape after))) → (told ≡ None → told1 ≡ None) → IfSome told1 (Stands shape firsts empty) → 0 < length empty
    → IfSome told1 (λ pages. IsFull (capacity shape) key (tables shape pages) n)
full_told shape None told1 firsts empty key n full spare untold stands some = subst (λ o. IfSome o (λ pages. IsFull (capacity shape) key (tables shape pages) n)) (sym (untold refl)) tt
full_told shape (Some pages) None firsts empty key n full spare untold stands some = tt
full_told shape (Some pages) (Some pages1) firsts [] key n full spare untold stands some = absurd (omega (arith, some))
full_told shape (Some pages) (Some pages1) firsts (k ∷ rest) key n full spare untold stands some =
    full_spared (capacity shape) key (tables shape pages) (tables shape pages1) n (spare_of (tables shape pages) (tables shape pages1) k rest spare (sym stands.empty_pages)).rows full

-- the half that stays has a row
kept_some : (row : Row) (rows : List Row) → 2 ≤ length rows → kept_rows row rows ≡ [] → ⊥
kept_some row rows many = either (begins_upto (row.0) (upper_half rows))
  where
    either : (b : Bool) → cond b (lower_half rows) (with_row row (lower_half rows)) ≡ [] → ⊥
    either true none = omega (arith, many, length-take-le (length rows - length rows / 2) rows (omega arith), ap (λ (l : List Row). length l) none)
    either false none = nothing_there row (subst (λ (l : List Row). Contains l row) none (with_row_new row (lower_half rows)))

placed_grown : (before : List (List Row)) (n : ℕ) (rows : List Row) → n < length before → placed n rows (before ++ [] ∷ []) ≡ placed n rows before ++ [] ∷ []
placed_grown before n rows lt =
    ap (λ (l : List (List Row)). l ++ rows ∷ drop (n + 1) (before ++ [] ∷ [])) (take-append-le n before ([] ∷ []) (omega (arith, lt)))
    ∙ ap (λ (l : List (List Row)). take n before ++ rows ∷ l) (drop-append-le (n + 1) before ([] ∷ []) (omega (arith, lt)))
    ∙ sym (append_assoc (take n before) (rows ∷ drop (n + 1) before) ([] ∷ []))

spare_placed : (before after : List (List Row)) (n : ℕ) (rows : List Row) → n < length before → (page_rows before n ≡ [] → ⊥) → (rows ≡ [] → ⊥) → HasSpare before after → HasSpare (placed n rows before) (placed n rows after)
spare_placed before after n rows lt some more (inl is) = inl (ap (placed n rows) is)
spare_placed before after n rows lt some more (inr grown) = inr (ap (placed n rows) grown.0 ∙ placed_grown before n rows lt, numbers_same 0 before n rows lt some more ∙ grown.1)

spare_split : (before after : List (List Row)) (n k : ℕ) (rest : List ℕ) (kept moved : List Row) → HasSpare before after → n < length before → n < length after → (page_rows before n ≡ [] → ⊥) → (page_rows after n ≡ [] → ⊥) → (kept ≡ [] → ⊥) → empty_numbers 0 after ≡ k ∷ rest
    → placed (second_page after) moved (placed n kept after) ≡ placed (second_page before) moved (placed n kept before)
spare_split before after n k rest kept moved spare lt lt1 some some1 more numbers =
    let one = spare_of before after k rest spare numbers in
    let two = spare_of (placed n kept before) (placed n kept after) k rest (spare_placed before after n kept lt some more spare) (numbers_same 0 after n kept lt1 some1 more ∙ numbers) in
    let here = spare_of after after k rest (inl refl) numbers in
    ap (λ (i : ℕ). placed i moved (placed n kept after)) (sym here.second) ∙ two.same moved ∙ ap (λ (i : ℕ). placed i moved (placed n kept before)) one.second

same_set : (shape : RowShape) (pages pages1 : List (List ℕ)) (firsts firsts1 : List First) (empty empty1 : List ℕ) → Stands shape firsts empty pages → Stands shape firsts1 empty1 pages1 → ((m : ℕ) → page_rows (tables shape pages1) m ≡ page_rows (tables shape pages) m) → rows_of shape pages1 ≡ rows_of shape pages
same_set shape pages pages1 firsts firsts1 empty empty1 stands stands1 same =
    same_rows (rows_of shape pages1) (rows_of shape pages) (rows_rise shape pages1) (rows_rise shape pages)
    (λ x c. let old = row_in shape pages1 x c in in_rows shape pages (lawful shape pages stands.rule) x (old.0, subst (λ (l : List Row). Contains l x) (same old.0) old.1))
    (λ x c. let old = row_in shape pages x c in in_rows shape pages1 (lawful shape pages1 stands1.rule) x (old.0, subst (λ (l : List Row). Contains l x) (sym (same old.0)) old.1))

some_within : (table : List (List Row)) (n : ℕ) → 2 ≤ length (page_rows table n) → n < length table
some_within table n many = let one = first (page_rows table n) many in row_within table n one.0 one.1
  where
    first : (rows : List Row) → 2 ≤ length rows → (row : Row) × Contains rows row
    first [] le = absurd (omega (arith, le))
    first (row ∷ rows) le = (row, at_front row rows)

not_none : (rows : List Row) → 2 ≤ length rows → rows ≡ [] → ⊥
not_none rows many is = omega (arith, many, ap (λ (l : List Row). length l) is)

pub split_puts : (shape : RowShape) (row : Row) (told told1 told2 : Option (List (List ℕ))) (firsts firsts1 : List First) (empty empty1 : List ℕ) (n : ℕ) → 0 < shape.key → row_length shape ≤ 2040 → IfSome told (Stands shape firsts empty)
    → IfSome told (λ pages. IsFull (capacity shape) (row.0) (tables shape pages) n) → IfSome told (λ pages. IsSomeAnd told1 (λ after. HasSpare (tables shape pages) (tables shape after))) → IfSome told1 (Stands shape firsts1 empty1) → 0 < length empty1
    → IsSplitAt shape row n told1 told2 → Puts shape row told told2
split_puts shape row None told1 told2 firsts firsts1 empty empty1 n some short stands full spare stands1 more split = record { pages = tt; rows = tt }
split_puts shape row (Some pages) None told2 firsts firsts1 empty empty1 n some short stands full spare stands1 more split = absurd spare
split_puts shape row (Some pages) (Some pages1) told2 firsts firsts1 empty [] n some short stands full spare stands1 more split = absurd (omega (arith, more))
split_puts shape row (Some pages) (Some pages1) told2 firsts firsts1 empty (k ∷ rest) n some short stands full spare stands1 more split =
    let before : List (List Row) = tables shape pages in
    let after : List (List Row) = tables shape pages1 in
    let one = spare_of before after k rest spare (sym stands1.empty_pages) in
    let many : 2 ≤ length (page_rows before n) = full_many shape (row.0) (page_rows before n) some short full.full in
    let many1 : 2 ≤ length (page_rows after n) = subst (λ (l : List Row). 2 ≤ length l) (sym (one.rows n)) many in
    let kept : List Row = kept_rows row (page_rows before n) in
    let moved : List Row = moved_rows row (page_rows before n) in
    let now = some_and told2 (λ now. tables shape now ≡ placed (second_page after) (moved_rows row (page_rows after n)) (placed n (kept_rows row (page_rows after n)) after)) split.pages in
    let all = some_and told2 (λ now. rows_of shape now ≡ with_row row (rows_of shape pages1)) split.rows in
    record {
      pages = subst (λ o. IsSomeAnd o (λ now. IsPut (capacity shape) row before (tables shape now))) (sym now.1) (Splits n full.home full.full full.amid
          (now.2 ∙ ap (λ (l : List Row). placed (second_page after) (moved_rows row l) (placed n (kept_rows row l) after)) (one.rows n)
          ∙ spare_split before after n k rest kept moved spare (some_within before n many) (some_within after n many1) (not_none (page_rows before n) many) (not_none (page_rows after n) many1) (kept_some row (page_rows before n) many) (sym stands1.empty_pages)));
      rows = subst (λ o. IsSomeAnd o (λ now. rows_of shape now ≡ with_row row (rows_of shape pages))) (sym all.1) (all.2 ∙ ap (with_row row) (same_set shape pages pages1 firsts firsts1 empty (k ∷ rest) stands stands1 one.rows));
    }
