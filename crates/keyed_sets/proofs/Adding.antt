-- A page without rows that gets rows, and what the set has then.
use Rattle.std.proofs.Common.{◌≡◌, ◌⊎◌, ℕ, ◌-◌, ◌/◌, ◌≤◌, Bool, true, false, cond, List, [], ◌∷◌, ◌++◌, length, take, drop, set, Some, inl, inr, refl, sym, ap, subst, ◌∙◌, arith}
use Rattle.std.specs.Prelude.{Contains, slice_get, insert}
use Rattle.std.proofs.lemmas.Bool.{cases_Bool, not-true, not-false}
use Rattle.std.proofs.lemmas.Option.{slice_get_within, get_or_from_slice_get}
use Rattle.std.proofs.lemmas.List.{length-map, take-append-drop}
use Rattle.std.proofs.lemmas.List.Elements.{All-set}
use Rattle.keyed_sets.specs.declared.row.RowShape.{RowShape}
use Rattle.keyed_sets.specs.declared.index.First.{First}
use Rattle.keyed_sets.specs.Changes.{placed}
use Rattle.keyed_sets.specs.Layout.{Row, rows_in, is_below, PutsRows}
use Rattle.keyed_sets.specs.Map.{RowsRise, with_row}
use Rattle.keyed_sets.specs.Places.{lower_half, upper_half, begins_upto, kept_rows, moved_rows}
use Rattle.keyed_sets.specs.Rule.{IsRowPage, tables, page_rows}
use Rattle.keyed_sets.specs.Standing.{Apart, AllBelow, StartsWith, IsIndex, Stands}
use Rattle.keyed_sets.specs.Index.{empty_numbers}
use Rattle.keyed_sets.specs.Taken.{AreApart}
use Rattle.keyed_sets.proofs.Keys.{below_upto, below_trans}
use Rattle.keyed_sets.proofs.Maps.{with_row_has, with_row_new, with_row_old, with_row_rises}
use Rattle.keyed_sets.proofs.Members.{nothing_there, at_front, front_or, rise_one, rise-left, rise-right, rise-between}
use Rattle.keyed_sets.proofs.Edited.{put_or, put_new, put_old, put_rises, in_parts, from_take, from_drop}
use Rattle.keyed_sets.proofs.Sets.{lawful}
use Rattle.keyed_sets.proofs.Numbers.{FirstNumber, first_number}
use Rattle.keyed_sets.proofs.Placing.{apart_placed, index_placed, row_page_put, rule_from, set_placed}

-- a page without rows that is to get some
pub record Added (shape : RowShape) (pages : List (List ℕ)) (firsts : List First) (n : ℕ) (rest : List ℕ) (page page2 : List ℕ) (rows : List Row) : Type 0 where
  pub stands : Stands shape firsts (n ∷ rest) pages
  pub read : slice_get pages n ≡ Some page
  pub puts : PutsRows shape page page2 rows
  pub rise : RowsRise rows
  pub clear : (m : ℕ) → (m ≡ n → ⊥) → Apart (page_rows (tables shape pages) m) rows

pub nothing_at : (shape : RowShape) (pages : List (List ℕ)) (firsts : List First) (n : ℕ) (rest : List ℕ) → Stands shape firsts (n ∷ rest) pages → page_rows (tables shape pages) n ≡ []
nothing_at shape pages firsts n rest stands =
    let first : FirstNumber 0 n rest (tables shape pages) = first_number 0 n rest (tables shape pages) (sym stands.empty_pages) in
    let same : n ≡ first.place = omega (arith, first.is) in
    ap (page_rows (tables shape pages)) same ∙ first.nothing

nothing_starts : (key : List ℕ) (rows : List Row) → rows ≡ [] → StartsWith key rows → ⊥
nothing_starts key [] is starts = starts
nothing_starts key (row ∷ rows) is starts = cc

pub added_table : (shape : RowShape) (pages : List (List ℕ)) (firsts : List First) (n : ℕ) (rest : List ℕ) (page page2 : List ℕ) (rows : List Row) → Added shape pages firsts n rest page page2 rows → tables shape (set pages n page2) ≡ placed n rows (tables shape pages)
added_table shape pages firsts n rest page page2 rows a = set_placed shape pages n page2 rows (slice_get_within pages n page a.read) a.puts.rows

pub added_within : (shape : RowShape) (pages : List (List ℕ)) (firsts : List First) (n : ℕ) (rest : List ℕ) (page page2 : List ℕ) (rows : List Row) → Added shape pages firsts n rest page page2 rows → n ≤ length (tables shape pages)
added_within shape pages firsts n rest page page2 rows a = omega (arith, slice_get_within pages n page a.read, length-map pages (rows_in shape))

pub added_apart : (shape : RowShape) (pages : List (List ℕ)) (firsts : List First) (n : ℕ) (rest : List ℕ) (page page2 : List ℕ) (rows : List Row) → Added shape pages firsts n rest page page2 rows → AreApart (placed n rows (tables shape pages))
added_apart shape pages firsts n rest page page2 rows a =
    apart_placed n rows (tables shape pages) (added_within shape pages firsts n rest page page2 rows a) (lawful shape pages a.stands.rule) a.rise a.clear

pub added_stands : (shape : RowShape) (pages : List (List ℕ)) (firsts : List First) (n : ℕ) (rest : List ℕ) (page page2 : List ℕ) (rows : List Row) (at : ℕ) (key : List ℕ) → Added shape pages firsts n rest page page2 rows → StartsWith key rows
    → ((f : First) → Contains (take at firsts) f → is_below f.key key ≡ true) → ((f : First) → Contains (drop at firsts) f → is_below key f.key ≡ true)
    → Stands shape (insert firsts at (record { key = key; page = n })) rest (set pages n page2)
added_stands shape pages firsts n rest page page2 rows at key a starts low high =
    let table = tables shape pages in
    let new : First = record { key = key; page = n } in
    let grown = added_table shape pages firsts n rest page page2 rows a in
    let le = added_within shape pages firsts n rest page page2 rows a in
    let was : IsRowPage shape page = subst (IsRowPage shape) (get_or_from_slice_get pages n page [] a.read) (a.stands.rule.each n [] (slice_get_within pages n page a.read)) in
    let first : FirstNumber 0 n rest table = first_number 0 n rest table (sym a.stands.empty_pages) in
    let same : first.place ≡ n = omega (arith, first.is) in
    let none = nothing_at shape pages firsts n rest a.stands in
    record {
      rule = rule_from shape (set pages n page2) (All-set (IsRowPage shape) pages n page2 (row_page_put shape page page2 rows was a.puts (rise_one rows a.rise)) a.stands.rule.each)
          (subst AreApart (sym grown) (added_apart shape pages firsts n rest page page2 rows a));
      index = subst (λ (t : List (List Row)). IsIndex t (insert firsts at new)) (sym grown) (index_placed n rows table firsts (insert firsts at new) le a.stands.index
          (put_rises (λ (f : First). f.key) firsts at new a.stands.index.rise low high)
          (λ f c. elim (put_or firsts at new f c) [
            | inl is ↦ inl (ap (λ (g : First). g.page) is, subst (λ (g : First). StartsWith g.key rows) (sym is) starts)
            | inr old ↦ inr (λ is. nothing_starts f.key (page_rows table f.page) (ap (page_rows table) is ∙ none) (a.stands.index.starts f old), old)
          ])
          (λ f c other. put_old firsts at new f c) (λ x c. (new, put_new firsts at new, refl)));
      empty_pages = sym (numbered rows starts first same) ∙ ap (empty_numbers 0) (sym grown);
    }
  where
    numbered : (list : List Row) → StartsWith key list → (first : FirstNumber 0 n rest (tables shape pages)) → first.place ≡ n → empty_numbers 0 (placed n list (tables shape pages)) ≡ rest
    numbered [] begins first same = absurd begins
    numbered (row ∷ others) begins first same = ap (λ (k : ℕ). empty_numbers 0 (placed k (row ∷ others) (tables shape pages))) (sym same) ∙ first.later row others

-- the halves of a page that splits, with the row in one of them
halves : (rows : List Row) → lower_half rows ++ upper_half rows ≡ rows
halves rows = take-append-drop (length rows - length rows / 2) rows

pub in_lower : (rows : List Row) (x : Row) → Contains (lower_half rows) x → Contains rows x
in_lower rows x c = from_take rows (length rows - length rows / 2) x c

pub in_upper : (rows : List Row) (x : Row) → Contains (upper_half rows) x → Contains rows x
in_upper rows x c = from_drop rows (length rows - length rows / 2) x c

pub lower_rises : (rows : List Row) → RowsRise rows → RowsRise (lower_half rows)
lower_rises rows rise = rise-left (λ (r : Row). r.0) (lower_half rows) (upper_half rows) (subst RowsRise (sym (halves rows)) rise)

pub upper_rises : (rows : List Row) → RowsRise rows → RowsRise (upper_half rows)
upper_rises rows rise = rise-right (λ (r : Row). r.0) (lower_half rows) (upper_half rows) (subst RowsRise (sym (halves rows)) rise)

pub half_below : (rows : List Row) → RowsRise rows → AllBelow (lower_half rows) (upper_half rows)
half_below rows rise x y c d = rise-between (λ (r : Row). r.0) (lower_half rows) (upper_half rows) (subst RowsRise (sym (halves rows)) rise) x y c d

begun : (key : List ℕ) (rows : List Row) → begins_upto key rows ≡ true → (z : Row) × Contains rows z × (is_below key (z.0) ≡ false)
begun key [] is = cc
begun key (row ∷ rows) is = (row, at_front row rows, not-true (is_below key (row.0)) is)

above_begun : (key : List ℕ) (rows : List Row) → RowsRise rows → begins_upto key rows ≡ false → (y : Row) → Contains rows y → is_below key (y.0) ≡ true
above_begun key [] rise is y c = absurd (nothing_there y c)
above_begun key (row ∷ rows) rise is y c =
    let over : is_below key (row.0) ≡ true = not-false (is_below key (row.0)) is in
    elim (front_or row rows y c) [ inl same ↦ ap (λ (r : Row). is_below key (r.0)) same ∙ over | inr d ↦ below_trans key (row.0) (y.0) over (rise.0 y d) ]

-- what is known of the two parts
pub record AreParts (row : Row) (rows kept moved : List Row) : Type 0 where
  pub kept_rise : RowsRise kept
  pub moved_rise : RowsRise moved
  pub below : AllBelow kept moved
  pub kept_has : (x : Row) → Contains kept x → (x ≡ row) ⊎ Contains rows x
  pub moved_has : (x : Row) → Contains moved x → (x ≡ row) ⊎ Contains rows x
  pub new : Contains kept row ⊎ Contains moved row
  pub old : (x : Row) → Contains rows x → (x.0 ≡ row.0 → ⊥) → Contains kept x ⊎ Contains moved x

with_or : (row : Row) (half rows : List Row) → RowsRise half → ((x : Row) → Contains half x → Contains rows x) → (x : Row) → Contains (with_row row half) x → (x ≡ row) ⊎ Contains rows x
with_or row half rows rise some x c = elim (with_row_has row half rise x c) [ inl is ↦ inl is | inr old ↦ inr (some x old.0) ]

parts_up : (row : Row) (rows : List Row) → RowsRise rows → begins_upto (row.0) (upper_half rows) ≡ true → AreParts row rows (lower_half rows) (with_row row (upper_half rows))
parts_up row rows rise up = record {
  kept_rise = lower_rises rows rise;
  moved_rise = with_row_rises row (upper_half rows) (upper_rises rows rise);
  below = λ x y c d. elim (with_row_has row (upper_half rows) (upper_rises rows rise) y d) [
    | inl is ↦ let z = begun (row.0) (upper_half rows) up in ap (λ (r : Row). is_below (x.0) (r.0)) is ∙ below_upto (x.0) (z.0.0) (row.0) (half_below rows rise x z.0 c z.1) z.2
    | inr old ↦ half_below rows rise x y c old.0
  ];
  kept_has = λ x c. inr (in_lower rows x c);
  moved_has = with_or row (upper_half rows) rows (upper_rises rows rise) (in_upper rows);
  new = inr (with_row_new row (upper_half rows));
  old = λ x c other. elim (in_parts rows (length rows - length rows / 2) x c) [ inl low ↦ inl low | inr high ↦ inr (with_row_old row (upper_half rows) x high other) ];
}

parts_down : (row : Row) (rows : List Row) → RowsRise rows → begins_upto (row.0) (upper_half rows) ≡ false → AreParts row rows (with_row row (lower_half rows)) (upper_half rows)
parts_down row rows rise down = record {
  kept_rise = with_row_rises row (lower_half rows) (lower_rises rows rise);
  moved_rise = upper_rises rows rise;
  below = λ x y c d. elim (with_row_has row (lower_half rows) (lower_rises rows rise) x c) [
    | inl is ↦ ap (λ (r : Row). is_below (r.0) (y.0)) is ∙ above_begun (row.0) (upper_half rows) (upper_rises rows rise) down y d
    | inr old ↦ half_below rows rise x y old.0 d
  ];
  kept_has = with_or row (lower_half rows) rows (lower_rises rows rise) (in_lower rows);
  moved_has = λ x c. inr (in_upper rows x c);
  new = inl (with_row_new row (lower_half rows));
  old = λ x c other. elim (in_parts rows (length rows - length rows / 2) x c) [ inl low ↦ inl (with_row_old row (lower_half rows) x low other) | inr high ↦ inr high ];
}

pub parts_of : (row : Row) (rows : List Row) → RowsRise rows → AreParts row rows (kept_rows row rows) (moved_rows row rows)
parts_of row rows rise = either (begins_upto (row.0) (upper_half rows)) (cases_Bool (begins_upto (row.0) (upper_half rows)))
  where
    either : (b : Bool) → (begins_upto (row.0) (upper_half rows) ≡ true) ⊎ (begins_upto (row.0) (upper_half rows) ≡ false) → AreParts row rows (kept_rows row rows) (moved_rows row rows)
    either b (inl up) = subst (λ (t : Bool). AreParts row rows (cond t (lower_half rows) (with_row row (lower_half rows))) (cond t (with_row row (upper_half rows)) (upper_half rows))) (sym up) (parts_up row rows rise up)
    either b (inr down) = subst (λ (t : Bool). AreParts row rows (cond t (lower_half rows) (with_row row (lower_half rows))) (cond t (with_row row (upper_half rows)) (upper_half rows))) (sym down) (parts_down row rows rise down)
