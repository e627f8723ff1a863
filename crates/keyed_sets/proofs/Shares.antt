-- A split page's halves with the row in its place, and the pages where they are told.
use Rattle.std.proofs.Common.{◌≡◌, ℕ, zero, suc, ◌+◌, ◌-◌, ◌<◌, ◌≤◌, Bool, true, false, cond, not, List, [], ◌∷◌, length, get_or, take, drop, set, Option, Some, None, inl, inr, refl, sym, ap, subst, ◌∙◌, arith}
use Rattle.std.specs.Prelude.{Contains, IfSome, IsSomeAnd, slice_get, insert, is_some}
use Rattle.std.specs.List.{remove}
use Rattle.std.specs.Option.{option_map}
use Rattle.std.proofs.lemmas.Bool.{cases_lt, cases_Bool}
use Rattle.std.proofs.lemmas.Option.{same_Some}
use Rattle.std.proofs.lemmas.List.{drop_more}
use Rattle.std.proofs.lemmas.List.Sums.{prefix_len_passes, prefix_len_stops}
use Rattle.std.proofs.lemmas.List.Elements.{Contains-get_or}
use Rattle.hal_base.specs.Pages.{SameHead}
use Rattle.keyed_sets.specs.declared.row.RowShape.{RowShape}
use Rattle.keyed_sets.specs.declared.index.First.{First}
use Rattle.keyed_sets.specs.Changes.{placed}
use Rattle.keyed_sets.specs.Layout.{Row, rows_in, is_below, place_of, PutsRows}
use Rattle.keyed_sets.specs.Map.{RowsRise, rows_of, with_row}
use Rattle.keyed_sets.specs.Places.{Takes, lower_half, upper_half, begins_upto, kept_rows, moved_rows, first_or, second_page}
use Rattle.keyed_sets.specs.Rule.{Rise, capacity, tables, page_rows}
use Rattle.keyed_sets.specs.PageFacts.{Split, middle}
use Rattle.keyed_sets.specs.Goes.{IsSplitAt, IsFull}
use Rattle.keyed_sets.specs.Standing.{StartsWith, Stands}
use Rattle.keyed_sets.proofs.Keys.{below_both, below_false, below_trans, not_below}
use Rattle.keyed_sets.proofs.Maps.{lookup_is}
use Rattle.keyed_sets.proofs.Members.{rise_all, rise_at}
use Rattle.keyed_sets.proofs.Rows.{length-rows_in}
use Rattle.keyed_sets.proofs.Lookups.{nowhere, page_is, page_rises}
use Rattle.keyed_sets.proofs.Putting.{insert_is}
use Rattle.keyed_sets.proofs.Adding.{lower_rises, upper_rises, in_lower, in_upper}
use Rattle.keyed_sets.proofs.Halves.{Halved, halved_stands, halved_table, halved_rows}

place_take : (key : List ℕ) (rows : List Row) (n : ℕ) → place_of key rows ≤ n → place_of key (take n rows) ≡ place_of key rows
place_take key [] zero le = refl
place_take key [] (suc n) le = refl
place_take key (row ∷ rows) zero le = omega (arith, le)
place_take key (row ∷ rows) (suc n) le = elim (cases_Bool (is_below (row.0) key)) [
  | inl behind ↦
      let one : place_of key (row ∷ rows) ≡ 1 + place_of key rows = ap (λ (b : Bool). cond b (1 + place_of key rows) 0) behind in
      ap (λ (b : Bool). cond b (1 + place_of key (take n rows)) 0) behind ∙ ap (λ (k : ℕ). 1 + k) (place_take key rows n (omega (arith, le, one))) ∙ sym one
  | inr ahead ↦ ap (λ (b : Bool). cond b (1 + place_of key (take n rows)) 0) ahead ∙ sym (ap (λ (b : Bool). cond b (1 + place_of key rows) 0) ahead)
]

place_drop : (key : List ℕ) (rows : List Row) (n : ℕ) → n ≤ place_of key rows → place_of key (drop n rows) + n ≡ place_of key rows
place_drop key [] zero le = refl
place_drop key [] (suc n) le = absurd (omega (arith, le))
place_drop key (row ∷ rows) zero le = omega arith
place_drop key (row ∷ rows) (suc n) le = elim (cases_Bool (is_below (row.0) key)) [
  | inl behind ↦
      let one : place_of key (row ∷ rows) ≡ 1 + place_of key rows = ap (λ (b : Bool). cond b (1 + place_of key rows) 0) behind in
      omega (arith, place_drop key rows n (omega (arith, le, one)), one)
  | inr ahead ↦
      let none : place_of key (row ∷ rows) ≡ 0 = ap (λ (b : Bool). cond b (1 + place_of key rows) 0) ahead in
      absurd (omega (arith, le, none))
]

begins_true : (key : List ℕ) (row : Row) (rows list : List Row) → list ≡ row ∷ rows → is_below (row.0) key ≡ true → begins_upto key list ≡ true
begins_true key row rows list is below =
    ap (begins_upto key) is ∙ ap not (below_false key (row.0) (λ above. below_both (row.0) key below above))

begins_false : (key : List ℕ) (row : Row) (rows list : List Row) → list ≡ row ∷ rows → is_below key (row.0) ≡ true → begins_upto key list ≡ false
begins_false key row rows list is above = ap (begins_upto key) is ∙ ap not above

up_begins : (key : List ℕ) (rows : List Row) → middle rows < length rows → middle rows < place_of key rows → begins_upto key (upper_half rows) ≡ true
up_begins key rows within lt =
    begins_true key (get_or rows (middle rows) nowhere) (drop (middle rows + 1) rows) (upper_half rows) (drop_more rows (middle rows) nowhere within) (prefix_len_passes (λ (row : Row). is_below (row.0) key) rows (middle rows) nowhere lt)

down_begins : (key : List ℕ) (rows : List Row) → RowsRise rows → ((x : Row) → Contains rows x → x.0 ≡ key → ⊥) → middle rows < length rows → place_of key rows ≤ middle rows → begins_upto key (upper_half rows) ≡ false
down_begins key rows rise none within le =
    let q : ℕ = place_of key rows in
    let inside : q < length rows = omega (arith, le, within) in
    let a : Row = get_or rows q nowhere in
    let here : is_below key (a.0) ≡ true = elim (not_below (a.0) key (prefix_len_stops (λ (row : Row). is_below (row.0) key) rows nowhere inside)) [
      | inl same ↦ absurd (none a (Contains-get_or rows q nowhere inside) same)
      | inr above ↦ above
    ] in
    begins_false key (get_or rows (middle rows) nowhere) (drop (middle rows + 1) rows) (upper_half rows) (drop_more rows (middle rows) nowhere within) (elim (cases_lt q (middle rows)) [
      | inl lt ↦ below_trans key (a.0) ((get_or rows (middle rows) nowhere).0) here (rise_at (λ (r : Row). r.0) rows rise q (middle rows) nowhere lt within)
      | inr ge ↦ let same : q ≡ middle rows = omega (arith, ge, le) in subst (λ (k : ℕ). is_below key ((get_or rows k nowhere).0) ≡ true) same here
    ])

pub record Shared (shape : RowShape) (page page2 second second2 : List ℕ) (row : Row) : Type 0 where
  pub keeps : PutsRows shape page page2 (kept_rows row (rows_in shape page))
  pub moves : PutsRows shape second second2 (moved_rows row (rows_in shape page))

pub shares : (shape : RowShape) (page page2 second second2 : List ℕ) (row : Row) (at : ℕ) → RowsRise (rows_in shape page) → ((x : Row) → Contains (rows_in shape page) x → x.0 ≡ row.0 → ⊥) → at ≡ place_of (row.0) (rows_in shape page)
    → Split shape page page2 second second2 row at → Shared shape page page2 second second2 row
shares shape page page2 second second2 row at rise none found s =
    let rows : List Row = rows_in shape page in
    let within : middle rows < length rows = omega (arith, s.many, length-rows_in shape page) in
    elim (cases_lt (middle rows) (place_of (row.0) rows)) [
      | inl lt ↦
          let begins = up_begins (row.0) rows within lt in
          let puts = s.up (omega (arith, lt, found)) in
          let place : place_of (row.0) (upper_half rows) ≡ at - middle rows = omega (arith, place_drop (row.0) rows (middle rows) (omega (arith, lt)), found) in
          let is : insert (upper_half rows) (at - middle rows) row ≡ with_row row (upper_half rows) =
          ap (λ (k : ℕ). insert (upper_half rows) k row) (sym place) ∙ insert_is row (upper_half rows) (upper_rises rows rise) (λ x c. none x (in_upper rows x c)) in
          record {
            keeps = subst (PutsRows shape page page2) (sym (ap (λ (b : Bool). cond b (lower_half rows) (with_row row (lower_half rows))) begins)) puts.0;
            moves = subst (PutsRows shape second second2) (is ∙ sym (ap (λ (b : Bool). cond b (with_row row (upper_half rows)) (upper_half rows)) begins)) puts.1;
          }
      | inr le ↦
          let begins = down_begins (row.0) rows rise none within le in
          let puts = s.down (omega (arith, le, found)) in
          let is : insert (lower_half rows) at row ≡ with_row row (lower_half rows) =
          ap (λ (k : ℕ). insert (lower_half rows) k row) (found ∙ sym (place_take (row.0) rows (middle rows) le)) ∙ insert_is row (lower_half rows) (lower_rises rows rise) (λ x c. none x (in_lower rows x c)) in
          record {
            keeps = subst (PutsRows shape page page2) (is ∙ sym (ap (λ (b : Bool). cond b (lower_half rows) (with_row row (lower_half rows))) begins)) puts.0;
            moves = subst (PutsRows shape second second2) (sym (ap (λ (b : Bool). cond b (with_row row (upper_half rows)) (upper_half rows)) begins)) puts.1;
          }
    ]

pub split_heads : (shape : RowShape) (page page2 second second2 : List ℕ) (row : Row) (at : ℕ) → Split shape page page2 second second2 row at → SameHead page page2 × SameHead second second2
split_heads shape page page2 second second2 row at s = elim (cases_lt (middle (rows_in shape page)) at) [
  | inl lt ↦ let puts = s.up lt in (puts.0.head, puts.1.head)
  | inr le ↦ let puts = s.down le in (puts.0.head, puts.1.head)
]

-- told or not
pub record HalvedTold (shape : RowShape) (told told2 : Option (List (List ℕ))) (firsts : List First) (empty : List ℕ) (home : ℕ) (p : First) (page page2 second second2 : List ℕ) (row : Row) (at : ℕ) : Type 0 where
  pub stands : IfSome told (Stands shape firsts empty)
  pub within : home < length firsts
  pub is : get_or firsts home p ≡ p
  pub read : IfSome told (λ pages. slice_get pages p.page ≡ Some page)
  pub some : 0 < length empty
  pub found : (n : ℕ) → slice_get empty 0 ≡ Some n → IfSome told (λ pages. slice_get pages n ≡ Some second)
  pub full : IfSome told (λ pages. IsFull (capacity shape) (row.0) (tables shape pages) p.page)
  pub place : Rise (rows_in shape page) → at ≡ place_of (row.0) (rows_in shape page)
  pub split : Split shape page page2 second second2 row at
  pub staged : told2 ≡ option_map (λ pages. set pages p.page page2) told

pub halved_at : (shape : RowShape) (pages : List (List ℕ)) (told2 : Option (List (List ℕ))) (firsts : List First) (n : ℕ) (rest : List ℕ) (home : ℕ) (p : First) (page page2 second second2 : List ℕ) (row : Row) (at : ℕ) → HalvedTold shape (Some pages) told2 firsts (n ∷ rest) home p page page2 second second2 row at
    → Halved shape pages firsts home p n rest page page2 second second2 row
halved_at shape pages told2 firsts n rest home p page page2 second second2 row at t =
    let rises = page_rises shape pages p.page page t.stands.rule t.read in
    let rise : RowsRise (rows_in shape page) = rise_all (rows_in shape page) rises in
    let shared = shares shape page page2 second second2 row at rise
    (λ x c is. t.full.full (subst (Takes (capacity shape) (row.0)) (sym (page_is shape pages p.page page t.read)) (inl (ap is_some (lookup_is (row.0) (rows_in shape page) rise x c is))))) (t.place rises) t.split in
    record { stands = t.stands; within = t.within; is = t.is; read = t.read; found = t.found n refl; keeps = shared.keeps; moves = shared.moves; full = t.full }

pub halved_told : (shape : RowShape) (told told2 told3 : Option (List (List ℕ))) (firsts : List First) (empty : List ℕ) (home : ℕ) (p : First) (page page2 second second2 : List ℕ) (row : Row) (at : ℕ) (z : List ℕ) → HalvedTold shape told told2 firsts empty home p page page2 second second2 row at
    → StartsWith z (rows_in shape page2) → ((n : ℕ) → slice_get empty 0 ≡ Some n → told3 ≡ option_map (λ pages. set pages n second2) told2) → IsSplitAt shape row p.page told told3
halved_told shape None told2 told3 firsts empty home p page page2 second second2 row at z t starts added = record { pages = tt; rows = tt }
halved_told shape (Some pages) told2 told3 firsts [] home p page page2 second second2 row at z t starts added = absurd (omega (arith, t.some))
halved_told shape (Some pages) told2 told3 firsts (n ∷ rest) home p page page2 second second2 row at z t starts added =
    let h = halved_at shape pages told2 firsts n rest home p page page2 second second2 row at t in
    let rows : List Row = rows_in shape page in
    let table : List (List Row) = tables shape pages in
    let same : page_rows table p.page ≡ rows = page_is shape pages p.page page t.read in
    let begins : StartsWith z (kept_rows row rows) = subst (StartsWith z) h.keeps.rows starts in
    let now : told3 ≡ Some (set (set pages p.page page2) n second2) = added n refl ∙ ap (option_map (λ (l : List (List ℕ)). set l n second2)) t.staged in
    let number : n ≡ second_page table = ap (first_or (length table)) t.stands.empty_pages in
    record {
      pages = subst (λ o. IsSomeAnd o (λ after. tables shape after ≡ placed (second_page table) (moved_rows row (page_rows table p.page)) (placed p.page (kept_rows row (page_rows table p.page)) table))) (sym now)
          (halved_table shape pages firsts home p n rest page page2 second second2 row z h begins
          ∙ ap (λ (l : List Row). placed n (moved_rows row l) (placed p.page (kept_rows row l) table)) (sym same)
          ∙ ap (λ (k : ℕ). placed k (moved_rows row (page_rows table p.page)) (placed p.page (kept_rows row (page_rows table p.page)) table)) number);
      rows = subst (λ o. IsSomeAnd o (λ after. rows_of shape after ≡ with_row row (rows_of shape pages))) (sym now) (halved_rows shape pages firsts home p n rest page page2 second second2 row z h begins);
    }

pub halved_index : (shape : RowShape) (told told2 told3 : Option (List (List ℕ))) (firsts : List First) (empty : List ℕ) (home : ℕ) (p : First) (page page2 second second2 : List ℕ) (row : Row) (at : ℕ) (z y : List ℕ) (n : ℕ) → HalvedTold shape told told2 firsts empty home p page page2 second second2 row at
    → StartsWith z (rows_in shape page2) → StartsWith y (rows_in shape second2) → slice_get empty 0 ≡ Some n → told3 ≡ option_map (λ pages. set pages n second2) told2
    → IfSome told3 (Stands shape (insert (set firsts home (record { key = z; page = p.page })) (home + 1) (record { key = y; page = n })) (remove empty 0))
halved_index shape None told2 told3 firsts empty home p page page2 second second2 row at z y n t starts begins is added =
    subst (λ o. IfSome o (Stands shape (insert (set firsts home (record { key = z; page = p.page })) (home + 1) (record { key = y; page = n })) (remove empty 0))) (sym (added ∙ ap (option_map (λ (l : List (List ℕ)). set l n second2)) t.staged)) tt
halved_index shape (Some pages) told2 told3 firsts [] home p page page2 second second2 row at z y n t starts begins is added = absurd (omega (arith, t.some))
halved_index shape (Some pages) told2 told3 firsts (m ∷ rest) home p page page2 second second2 row at z y n t starts begins is added =
    let h = halved_at shape pages told2 firsts m rest home p page page2 second second2 row at t in
    let same : m ≡ n = same_Some _ _ is in
    subst (λ o. IfSome o (Stands shape (insert (set firsts home (record { key = z; page = p.page })) (home + 1) (record { key = y; page = n })) rest)) (sym (added ∙ ap (option_map (λ (l : List (List ℕ)). set l n second2)) t.staged))
    (subst (λ (k : ℕ). Stands shape (insert (set firsts home (record { key = z; page = p.page })) (home + 1) (record { key = y; page = k })) rest (set (set pages p.page page2) k second2)) same
    (halved_stands shape pages firsts home p m rest page page2 second second2 row z y h (subst (StartsWith z) h.keeps.rows starts) (subst (StartsWith y) h.moves.rows begins)))
