-- A page without rows, kept at hand or added to the set.
use Rattle.std.proofs.Common.{◌≡◌, ℕ, ◌-◌, ◌≤◌, List, [], ◌∷◌, ◌++◌, length, take, drop, replicate, set, inl, inr, refl, sym, ap, subst, ◌∙◌, append_assoc, arith}
use Rattle.std.specs.Int.{w16, to_be_bytes, from_be_bytes}
use Rattle.std.proofs.lemmas.List.{length-append, length-map, drop_at, drop-drop, map-append, replicate-append-replicate}
use Rattle.hal_base.specs.declared.pages.SetId.{SetId}
use Rattle.hal_base.specs.Pages.{empty_page, page_head}
use Rattle.keyed_sets.specs.declared.row.RowShape.{RowShape}
use Rattle.keyed_sets.specs.declared.index.First.{First}
use Rattle.keyed_sets.specs.Layout.{Row, rows_in, rows_from, count_of, end_of}
use Rattle.keyed_sets.specs.Rule.{IsRowPage, rising_count, tables, page_rows}
use Rattle.keyed_sets.specs.Standing.{StartsWith, IsIndex, Stands}
use Rattle.keyed_sets.specs.Index.{empty_numbers}
use Rattle.keyed_sets.specs.Taken.{AreApart}
use Rattle.keyed_sets.proofs.Members.{nothing_there}
use Rattle.keyed_sets.proofs.Tables.{page_old, row_within, page_or, apart_turned, apart_none, first_row}
use Rattle.keyed_sets.proofs.Openings.{apart_more, numbers_last}
use Rattle.keyed_sets.proofs.PageByPage.{rule_more}
use Rattle.keyed_sets.proofs.Sets.{lawful}

two : (n : ℕ) → length (to_be_bytes w16 n) ≡ 2
two n = refl

-- an empty page is a page of rows
head_long : (kind : ℕ) (set : SetId) (n : ℕ) → length (page_head kind set n) ≡ 8
head_long kind set n = omega (
  arith,
  length-append (kind ∷ set.letter ∷ to_be_bytes w16 set.part ++ to_be_bytes w16 set.number) (to_be_bytes w16 n),
  length-append (kind ∷ set.letter ∷ to_be_bytes w16 set.part) (to_be_bytes w16 set.number),
  length-append (kind ∷ set.letter ∷ []) (to_be_bytes w16 set.part),
  two set.part,
  two set.number,
  two n,
)

behind_head : (set : SetId) (n : ℕ) → drop 8 (empty_page 2 set n) ≡ replicate 8 0 ++ replicate 4080 0
behind_head set n =
    let head : List ℕ = page_head 2 set n in
    ap (drop 8) (append_assoc (head ++ replicate 8 0) (0 ∷ 0 ∷ 0 ∷ 0 ∷ []) (replicate 4076 0) ∙ append_assoc head (replicate 8 0) ((0 ∷ 0 ∷ 0 ∷ 0 ∷ []) ++ replicate 4076 0))
    ∙ drop_at head (replicate 8 0 ++ ((0 ∷ 0 ∷ 0 ∷ 0 ∷ []) ++ replicate 4076 0)) 8 (head_long 2 set n)
    ∙ ap (λ (l : List ℕ). replicate 8 0 ++ l) (replicate-append-replicate 4 4076 0)

pub empty_count : (set : SetId) (n : ℕ) → count_of (empty_page 2 set n) ≡ 0
empty_count set n = ap (λ (l : List ℕ). from_be_bytes w16 (take 2 l)) (behind_head set n)

pub empty_sound : (shape : RowShape) (set : SetId) (n : ℕ) → IsRowPage shape (empty_page 2 set n)
empty_sound shape set n =
    let none = empty_count set n in
    let first : end_of shape 0 ≡ 16 = omega arith in
    let behind : drop 16 (empty_page 2 set n) ≡ replicate 4080 0 = sym (drop-drop 8 8 (empty_page 2 set n)) ∙ ap (drop 8) (behind_head set n) ∙ drop_at (replicate 8 0) (replicate 4080 0) 8 refl in
    record {
      kind = refl;
      place = subst (λ (k : ℕ). end_of shape k ≤ 4096) (sym none) (omega (arith, first));
      rising = ap (λ (k : ℕ). rising_count (rows_from shape k (drop 16 (empty_page 2 set n)))) none ∙ ap (λ (k : ℕ). length (rows_from shape k (drop 16 (empty_page 2 set n)))) (sym none);
      zeros = subst (λ (k : ℕ). drop (end_of shape k) (empty_page 2 set n) ≡ replicate (4096 - end_of shape k) 0) (sym none)
          (subst (λ (k : ℕ). drop k (empty_page 2 set n) ≡ replicate (4096 - k) 0) (sym first) behind);
    }

pub grown_table : (shape : RowShape) (pages : List (List ℕ)) (set : SetId) (n : ℕ) → tables shape (pages ++ empty_page 2 set n ∷ []) ≡ tables shape pages ++ [] ∷ []
grown_table shape pages set n =
    map-append (rows_in shape) pages (empty_page 2 set n ∷ []) ∙ ap (λ (k : ℕ). tables shape pages ++ rows_from shape k (drop 16 (empty_page 2 set n)) ∷ []) (empty_count set n)

pub grown_stands : (shape : RowShape) (pages : List (List ℕ)) (firsts : List First) (set : SetId) (n : ℕ) → Stands shape firsts [] pages → n ≡ length pages → Stands shape firsts (n ∷ []) (pages ++ empty_page 2 set n ∷ [])
grown_stands shape pages firsts set n stands is =
    let table : List (List Row) = tables shape pages in
    let grown = grown_table shape pages set n in
    let nothing : rows_in shape (empty_page 2 set n) ≡ [] = ap (λ (k : ℕ). rows_from shape k (drop 16 (empty_page 2 set n))) (empty_count set n) in
    let apart : AreApart (table ++ [] ∷ []) = apart_more table [] (lawful shape pages stands.rule) tt (λ m. apart_turned [] (page_rows table m) (apart_none [] (page_rows table m) refl)) in
    record {
      rule = rule_more shape pages (empty_page 2 set n) stands.rule (empty_sound shape set n) (subst (λ (rows : List Row). AreApart (table ++ rows ∷ [])) (sym nothing) apart);
      index = subst (λ (t : List (List Row)). IsIndex t firsts) (sym grown) (record {
        starts = λ f c.
            let here = stands.index.starts f c in
            let front = first_row f.key (page_rows table f.page) here in
            subst (StartsWith f.key) (sym (page_old table [] f.page (row_within table f.page front.0 front.1))) here;
        all = λ m row c. elim (page_or table [] m row c) [ inl old ↦ stands.index.all m row old.0 | inr last ↦ absurd (nothing_there row last.1) ];
        rise = stands.index.rise;
      });
      empty_pages = ap (λ (l : List ℕ). l ++ n ∷ []) stands.empty_pages ∙ ap (λ (k : ℕ). empty_numbers 0 table ++ k ∷ []) (omega (arith, is, length-map pages (rows_in shape))) ∙ sym (numbers_last 0 table) ∙ ap (empty_numbers 0) (sym grown);
    }
