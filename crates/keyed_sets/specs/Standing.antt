-- What a set keeps in memory of its pages, as a relation.
use Rattle.std.specs.Prelude.{◌≡◌, ◌⊎◌, ℕ, List, [], ◌∷◌, IsTrue, Contains, nat_lt, if◌then◌else◌}
use Rattle.keyed_sets.specs.declared.row.RowShape.{RowShape}
use Rattle.keyed_sets.specs.declared.index.First.{First}
use Rattle.keyed_sets.specs.Layout.{Row, is_below}
use Rattle.keyed_sets.specs.Map.{KeysRise}
use Rattle.keyed_sets.specs.Rule.{KeepsRule, tables, page_rows}
use Rattle.keyed_sets.specs.Index.{empty_numbers}

-- all keys of one page are below all keys of the other
abbrev pub AllBelow : List Row → List Row → Type 0
AllBelow a b = (x y : Row) → Contains a x → Contains b y → IsTrue (is_below (x.0) (y.0))

-- the ranges of their keys don't overlap
abbrev pub Apart : List Row → List Row → Type 0
Apart a b = AllBelow a b ⊎ AllBelow b a

abbrev pub no_first : First
no_first = record { key = []; page = 0 }

-- the first of these rows has this key
abbrev pub StartsWith : List ℕ → List Row → Type 0
StartsWith key [] = ⊥
StartsWith key (row ∷ rows) = row.0 ≡ key

-- each page that has rows stands among these, by its first key, and these rise
pub record IsIndex (table : List (List Row)) (firsts : List First) : Type 0 where
  pub starts : (first : First) → Contains firsts first → StartsWith first.key (page_rows table first.page)
  pub all : (n : ℕ) (row : Row) → Contains (page_rows table n) row → (first : First) × Contains firsts first × (first.page ≡ n)
  pub rise : KeysRise (λ (first : First). first.key) firsts

-- numbers that rise, with this one in its place
abbrev pub with_number : ℕ → List ℕ → List ℕ
with_number n [] = n ∷ []
with_number n (m ∷ numbers) = if nat_lt m n then m ∷ with_number n numbers else n ∷ m ∷ numbers

-- what is kept is right of these pages
pub record Stands (shape : RowShape) (firsts : List First) (empty : List ℕ) (pages : List (List ℕ)) : Type 0 where
  pub rule : KeepsRule shape pages
  pub index : IsIndex (tables shape pages) firsts
  pub empty_pages : empty ≡ empty_numbers 0 (tables shape pages)
