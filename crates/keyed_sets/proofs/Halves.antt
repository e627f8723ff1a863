-- A full page that splits, and what the set has then.
use Rattle.std.proofs.Common.{◌≡◌, ◌⊎◌, ℕ, ◌+◌, ◌<◌, ◌≤◌, true, List, [], ◌∷◌, length, get_or, take, set, Some, inl, inr, refl, sym, ap, subst, ◌∙◌, arith}
use Rattle.std.specs.Prelude.{Contains, slice_get, insert, is_some}
use Rattle.std.proofs.lemmas.Bool.{cases_eq}
use Rattle.std.proofs.lemmas.Option.{slice_get_within, slice_get-get_or, get_or_from_slice_get}
use Rattle.std.proofs.lemmas.List.{length-map, length-set, take_more_set, drop-set-lt, get_or-set_other}
use Rattle.std.proofs.lemmas.List.Elements.{Contains-append_cases}
use Rattle.keyed_sets.specs.declared.row.RowShape.{RowShape}
use Rattle.keyed_sets.specs.declared.index.First.{First}
use Rattle.keyed_sets.specs.Changes.{placed}
use Rattle.keyed_sets.specs.Layout.{Row, rows_in, is_below, PutsRows}
use Rattle.keyed_sets.specs.Map.{RowsRise, rows_of, with_row}
use Rattle.keyed_sets.specs.Places.{Takes, kept_rows, moved_rows}
use Rattle.keyed_sets.specs.Rule.{capacity, tables, page_rows}
use Rattle.keyed_sets.specs.Goes.{IsFull}
use Rattle.keyed_sets.specs.Standing.{Apart, StartsWith, Stands}
use Rattle.keyed_sets.specs.Taken.{AreApart}
use Rattle.keyed_sets.proofs.Maps.{lookup_is}
use Rattle.keyed_sets.proofs.Members.{nothing_there, the_only, rise_all}
use Rattle.keyed_sets.proofs.Tables.{first_row}
use Rattle.keyed_sets.proofs.Sets.{IsIn, lawful}
use Rattle.keyed_sets.proofs.Lookups.{page_is, page_rises}
use Rattle.keyed_sets.proofs.Placing.{placed_here, placed_other, placed_or, rows_with}
use Rattle.keyed_sets.proofs.Removes.{written_table, page_some}
use Rattle.keyed_sets.proofs.Adding.{AreParts, parts_of, Added, added_table, added_within, added_apart, added_stands, nothing_at}
use Rattle.keyed_sets.proofs.Splits.{Part, part_written, part_stands, part_low, part_high, part_clear, beside_part, other_key}

-- a page read and split, and the empty page that takes the upper half
pub record Halved (shape : RowShape) (pages : List (List ℕ)) (firsts : List First) (home : ℕ) (p : First) (n : ℕ) (rest page page2 second second2 : List ℕ) (row : Row) : Type 0 where
  pub stands : Stands shape firsts (n ∷ rest) pages
  pub within : home < length firsts
  pub is : get_or firsts home p ≡ p
  pub read : slice_get pages p.page ≡ Some page
  pub found : slice_get pages n ≡ Some second
  pub keeps : PutsRows shape page page2 (kept_rows row (rows_in shape page))
  pub moves : PutsRows shape second second2 (moved_rows row (rows_in shape page))
  pub full : IsFull (capacity shape) (row.0) (tables shape pages) p.page

halved_parts : (shape : RowShape) (pages : List (List ℕ)) (firsts : List First) (home : ℕ) (p : First) (n : ℕ) (rest page page2 second second2 : List ℕ) (row : Row) → Halved shape pages firsts home p n rest page page2 second second2 row
    → AreParts row (rows_in shape page) (kept_rows row (rows_in shape page)) (moved_rows row (rows_in shape page))
halved_parts shape pages firsts home p n rest page page2 second second2 row h = parts_of row (rows_in shape page) (rise_all (rows_in shape page) (page_rises shape pages p.page page h.stands.rule h.read))

pub kept_part : (shape : RowShape) (pages : List (List ℕ)) (firsts : List First) (home : ℕ) (p : First) (n : ℕ) (rest page page2 second second2 : List ℕ) (row : Row) → Halved shape pages firsts home p n rest page page2 second second2 row
    → Part shape pages firsts (n ∷ rest) home p page page2 row (kept_rows row (rows_in shape page))
kept_part shape pages firsts home p n rest page page2 second second2 row h =
    let parts = halved_parts shape pages firsts home p n rest page page2 second second2 row h in
    record { stands = h.stands; within = h.within; is = h.is; read = h.read; puts = h.keeps; rise = parts.kept_rise; has = parts.kept_has; near = h.full.home }

pub apart_from : (shape : RowShape) (pages : List (List ℕ)) (firsts : List First) (home : ℕ) (p : First) (n : ℕ) (rest page page2 second second2 : List ℕ) (row : Row) → Halved shape pages firsts home p n rest page page2 second second2 row → n ≡ p.page → ⊥
apart_from shape pages firsts home p n rest page page2 second second2 row h same =
    page_some shape pages firsts (n ∷ rest) p h.stands (home, h.within, h.is) (ap (page_rows (tables shape pages)) (sym same) ∙ nothing_at shape pages firsts n rest h.stands)

pub kept_table : (shape : RowShape) (pages : List (List ℕ)) (firsts : List First) (home : ℕ) (p : First) (n : ℕ) (rest page page2 second second2 : List ℕ) (row : Row) → Halved shape pages firsts home p n rest page page2 second second2 row
    → tables shape (set pages p.page page2) ≡ placed p.page (kept_rows row (rows_in shape page)) (tables shape pages)
kept_table shape pages firsts home p n rest page page2 second second2 row h =
    let kept : List Row = kept_rows row (rows_in shape page) in
    written_table shape pages firsts (n ∷ rest) home p page page2 kept (part_written shape pages firsts (n ∷ rest) home p page page2 row kept (kept_part shape pages firsts home p n rest page page2 second second2 row h))

home_within : (shape : RowShape) (pages : List (List ℕ)) (n : ℕ) (page : List ℕ) → slice_get pages n ≡ Some page → n ≤ length (tables shape pages)
home_within shape pages n page read = omega (arith, slice_get_within pages n page read, length-map pages (rows_in shape))

pub read_other : (pages : List (List ℕ)) (n m : ℕ) (page other : List ℕ) → (n ≡ m → ⊥) → slice_get pages n ≡ Some page → slice_get (set pages m other) n ≡ Some page
read_other pages n m page other apart read =
    let lt : n < length (set pages m other) = omega (arith, slice_get_within pages n page read, length-set pages m other) in
    slice_get-get_or (set pages m other) n [] lt ∙ ap (λ (l : List ℕ). Some l) (get_or-set_other pages m n other [] apart ∙ get_or_from_slice_get pages n page [] read)

moved_added : (shape : RowShape) (pages : List (List ℕ)) (firsts : List First) (home : ℕ) (p : First) (n : ℕ) (rest page page2 second second2 : List ℕ) (row : Row) (z : List ℕ) → Halved shape pages firsts home p n rest page page2 second second2 row
    → StartsWith z (kept_rows row (rows_in shape page))
    → Added shape (set pages p.page page2) (set firsts home (record { key = z; page = p.page })) n rest second second2 (moved_rows row (rows_in shape page))
moved_added shape pages firsts home p n rest page page2 second second2 row z h starts =
    let rows : List Row = rows_in shape page in
    let kept : List Row = kept_rows row rows in
    let moved : List Row = moved_rows row rows in
    let table : List (List Row) = tables shape pages in
    let parts = halved_parts shape pages firsts home p n rest page page2 second second2 row h in
    let one = kept_part shape pages firsts home p n rest page page2 second second2 row h in
    let grown = kept_table shape pages firsts home p n rest page page2 second second2 row h in
    let le = home_within shape pages p.page page h.read in
    record {
      stands = part_stands shape pages firsts (n ∷ rest) home p page page2 row kept z one starts;
      read = read_other pages n p.page second page2 (apart_from shape pages firsts home p n rest page page2 second second2 row h) h.found;
      puts = h.moves;
      rise = parts.moved_rise;
      clear = λ m other. subst (λ (t : List (List Row)). Apart (page_rows t m) moved) (sym grown) (elim (cases_eq m p.page) [
        | inl here ↦ subst (λ (l : List Row). Apart l moved) (sym (ap (page_rows (placed p.page kept table)) here ∙ placed_here p.page kept table le)) (inl parts.below)
        | inr there ↦ subst (λ (l : List Row). Apart l moved) (sym (placed_other p.page kept table m le there))
            (part_clear (row.0) row rows (page_rows table m) moved refl parts.moved_has (beside_part shape pages firsts (n ∷ rest) home p page page2 row kept one m there))
      ]);
    }

pub halved_stands : (shape : RowShape) (pages : List (List ℕ)) (firsts : List First) (home : ℕ) (p : First) (n : ℕ) (rest page page2 second second2 : List ℕ) (row : Row) (z y : List ℕ) → Halved shape pages firsts home p n rest page page2 second second2 row
    → StartsWith z (kept_rows row (rows_in shape page)) → StartsWith y (moved_rows row (rows_in shape page))
    → Stands shape (insert (set firsts home (record { key = z; page = p.page })) (home + 1) (record { key = y; page = n })) rest (set (set pages p.page page2) n second2)
halved_stands shape pages firsts home p n rest page page2 second second2 row z y h starts begins =
    let rows : List Row = rows_in shape page in
    let kept : List Row = kept_rows row rows in
    let moved : List Row = moved_rows row rows in
    let parts = halved_parts shape pages firsts home p n rest page page2 second second2 row h in
    let one = kept_part shape pages firsts home p n rest page page2 second second2 row h in
    let new : First = record { key = z; page = p.page } in
    let a = first_row z kept starts in
    let b = first_row y moved begins in
    let less : is_below z y ≡ true = ap (λ (l : List ℕ). is_below l y) (sym a.2) ∙ ap (is_below (a.0.0)) (sym b.2) ∙ parts.below a.0 b.0 a.1 b.1 in
    added_stands shape (set pages p.page page2) (set firsts home new) n rest second second2 moved (home + 1) y (moved_added shape pages firsts home p n rest page page2 second second2 row z h starts) begins
    (λ f c. elim (Contains-append_cases (take home firsts) (new ∷ []) f (subst (λ (l : List First). Contains l f) (take_more_set firsts home new h.within) c)) [
      | inl front ↦ part_low shape pages firsts (n ∷ rest) home p page page2 row kept one moved parts.moved_has y begins f front
      | inr last ↦ ap (λ (g : First). is_below g.key y) (the_only new f last) ∙ less
    ])
    (λ f c. part_high shape pages firsts (n ∷ rest) home p page page2 row kept one moved parts.moved_has y begins f
    (subst (λ (l : List First). Contains l f) (drop-set-lt (home + 1) firsts home new (omega arith)) c))

-- the pages then
pub halved_table : (shape : RowShape) (pages : List (List ℕ)) (firsts : List First) (home : ℕ) (p : First) (n : ℕ) (rest page page2 second second2 : List ℕ) (row : Row) (z : List ℕ) → Halved shape pages firsts home p n rest page page2 second second2 row
    → StartsWith z (kept_rows row (rows_in shape page))
    → tables shape (set (set pages p.page page2) n second2) ≡ placed n (moved_rows row (rows_in shape page)) (placed p.page (kept_rows row (rows_in shape page)) (tables shape pages))
halved_table shape pages firsts home p n rest page page2 second second2 row z h starts =
    let moved : List Row = moved_rows row (rows_in shape page) in
    added_table shape (set pages p.page page2) (set firsts home (record { key = z; page = p.page })) n rest second second2 moved (moved_added shape pages firsts home p n rest page page2 second second2 row z h starts)
    ∙ ap (placed n moved) (kept_table shape pages firsts home p n rest page page2 second second2 row h)

-- and the rows
not_key : (shape : RowShape) (pages : List (List ℕ)) (firsts : List First) (home : ℕ) (p : First) (n : ℕ) (rest page page2 second second2 : List ℕ) (row : Row) → Halved shape pages firsts home p n rest page page2 second second2 row
    → (x : Row) → Contains (rows_in shape page) x → x.0 ≡ row.0 → ⊥
not_key shape pages firsts home p n rest page page2 second second2 row h x c is =
    let rows : List Row = rows_in shape page in
    let rise : RowsRise rows = rise_all rows (page_rises shape pages p.page page h.stands.rule h.read) in
    h.full.full (subst (Takes (capacity shape) (row.0)) (sym (page_is shape pages p.page page h.read)) (inl (ap is_some (lookup_is (row.0) rows rise x c is))))

pub halved_rows : (shape : RowShape) (pages : List (List ℕ)) (firsts : List First) (home : ℕ) (p : First) (n : ℕ) (rest page page2 second second2 : List ℕ) (row : Row) (z : List ℕ) → Halved shape pages firsts home p n rest page page2 second second2 row
    → StartsWith z (kept_rows row (rows_in shape page)) → rows_of shape (set (set pages p.page page2) n second2) ≡ with_row row (rows_of shape pages)
halved_rows shape pages firsts home p n rest page page2 second second2 row z h starts =
    let rows : List Row = rows_in shape page in
    let kept : List Row = kept_rows row rows in
    let moved : List Row = moved_rows row rows in
    let table : List (List Row) = tables shape pages in
    let table1 : List (List Row) = placed p.page kept table in
    let parts = halved_parts shape pages firsts home p n rest page page2 second second2 row h in
    let one = kept_part shape pages firsts home p n rest page page2 second second2 row h in
    let a = moved_added shape pages firsts home p n rest page page2 second second2 row z h starts in
    let new : First = record { key = z; page = p.page } in
    let pages1 : List (List ℕ) = set pages p.page page2 in
    let grown1 = kept_table shape pages firsts home p n rest page page2 second second2 row h in
    let grown = halved_table shape pages firsts home p n rest page page2 second second2 row z h starts in
    let le = home_within shape pages p.page page h.read in
    let le1 : n ≤ length table1 = subst (λ (t : List (List Row)). n ≤ length t) grown1 (added_within shape pages1 (set firsts home new) n rest second second2 moved a) in
    let are : AreApart (tables shape (set pages1 n second2)) = subst AreApart (sym (added_table shape pages1 (set firsts home new) n rest second second2 moved a)) (added_apart shape pages1 (set firsts home new) n rest second second2 moved a) in
    let same = page_is shape pages p.page page h.read in
    let other : p.page ≡ n → ⊥ = λ is. apart_from shape pages firsts home p n rest page page2 second second2 row h (sym is) in
    let at_kept : page_rows (placed n moved table1) p.page ≡ kept = placed_other n moved table1 p.page le1 other ∙ placed_here p.page kept table le in
    let at_moved : page_rows (placed n moved table1) n ≡ moved = placed_here n moved table1 le1 in
    let in_kept : (x : Row) → Contains kept x → IsIn (placed n moved table1) x = λ x c. (p.page, subst (λ (l : List Row). Contains l x) (sym at_kept) c) in
    let in_moved : (x : Row) → Contains moved x → IsIn (placed n moved table1) x = λ x c. (n, subst (λ (l : List Row). Contains l x) (sym at_moved) c) in
    let was : (x : Row) → ((x ≡ row) ⊎ Contains rows x) → (x ≡ row) ⊎ (IsIn table x × (x.0 ≡ row.0 → ⊥)) = λ x c. elim c [
      | inl is ↦ inl is
      | inr old ↦ inr ((p.page, subst (λ (l : List Row). Contains l x) (sym same) old), not_key shape pages firsts home p n rest page page2 second second2 row h x old)
    ] in
    rows_with shape pages (set pages1 n second2) row (lawful shape pages h.stands.rule) are
    (subst (λ (t : List (List Row)). IsIn t row) (sym grown) (elim parts.new [ inl c ↦ in_kept row c | inr c ↦ in_moved row c ]))
    (λ x c. elim (placed_or n moved table1 le1 c.0 x (subst (λ (t : List (List Row)). Contains (page_rows t c.0) x) grown c.1)) [
      | inl here ↦ was x (parts.moved_has x here.1)
      | inr there ↦ elim (placed_or p.page kept table le c.0 x there.1) [
        | inl home_page ↦ was x (parts.kept_has x home_page.1)
        | inr old ↦ inr ((c.0, old.1), other_key shape pages firsts (n ∷ rest) home p page page2 row kept one c.0 old.0 x old.1)
      ]
    ])
    (λ x c differs. subst (λ (t : List (List Row)). IsIn t x) (sym grown) (elim (cases_eq c.0 p.page) [
      | inl here ↦ elim (parts.old x (subst (λ (l : List Row). Contains l x) (ap (page_rows table) here ∙ same) c.1) differs) [ inl d ↦ in_kept x d | inr d ↦ in_moved x d ]
      | inr not_home ↦ elim (cases_eq c.0 n) [
        | inl empty ↦ absurd (nothing_there x (subst (λ (l : List Row). Contains l x) (ap (page_rows table) empty ∙ nothing_at shape pages firsts n rest h.stands) c.1))
        | inr not_second ↦ (c.0, subst (λ (l : List Row). Contains l x) (sym (placed_other n moved table1 c.0 le1 not_second ∙ placed_other p.page kept table c.0 le not_home)) c.1)
      ]
    ]))
