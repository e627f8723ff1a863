-- A page that is taken in: its keys stand between those of the pages before, or cross those of one of them.
use Rattle.std.proofs.Common.{◌≡◌, ◌⊎◌, ℕ, ◌+◌, ◌-◌, ◌<◌, ◌≤◌, true, false, List, [], ◌∷◌, ◌++◌, length, get_or, inl, inr, refl, sym, ap, subst, ◌∙◌, arith}
use Rattle.std.specs.Prelude.{Contains, IfSome, IsSomeAnd, slice_get, insert, ⊤}
use Rattle.std.specs.List.{AllWithin}
use Rattle.std.proofs.lemmas.Bool.{both_ways, cases_lt, cases_eq, cases_order}
use Rattle.std.proofs.lemmas.Option.{MatchOption-at_some, slice_get-get_or, slice_get_within, get_or_from_slice_get}
use Rattle.std.proofs.lemmas.List.{length_push}
use Rattle.std.proofs.lemmas.List.Elements.{Contains-get_or}
use Rattle.keyed_sets.specs.declared.index.First.{First}
use Rattle.keyed_sets.specs.Layout.{Row, is_below}
use Rattle.keyed_sets.specs.Map.{RowsRise, KeysRise}
use Rattle.keyed_sets.specs.Rule.{page_rows}
use Rattle.keyed_sets.specs.Standing.{Apart, AllBelow, StartsWith, IsIndex, no_first}
use Rattle.keyed_sets.specs.Index.{empty_numbers}
use Rattle.keyed_sets.specs.Taken.{EndsWith, AreApart, AreTaken}
use Rattle.keyed_sets.proofs.Keys.{below_both, below_itself, below_false, below_upto, upto_below, three_ways}
use Rattle.keyed_sets.proofs.Members.{nothing_there, at_front, rise_at}
use Rattle.keyed_sets.proofs.Edited.{put_or, put_new, put_old, put_rises, holds_before, holds_behind, from_take, zip_put, zip_weaker, zip_at, zip_back, some_and}
use Rattle.keyed_sets.proofs.Tables.{page_past, page_old, page_new, row_within, page_or, apart_turned, apart_none, first_row, last_row, from_first, upto_last, below_by_first}

abbrev Ends : List (List Row) → First → List ℕ → Type 0
Ends table first last = EndsWith last (page_rows table first.page)

-- the first keys before a place aren't above a key, those from it on are
pub record IsSplit (key : List ℕ) (firsts : List First) (at : ℕ) : Type 0 where
  pub within : at ≤ length firsts
  pub upto : AllWithin (λ (first : First). is_below key first.key ≡ false) firsts 0 at
  pub above : AllWithin (λ (first : First). is_below key first.key ≡ true) firsts at (length firsts)

-- rows that begin and end with these keys
pub record IsRange (first last : List ℕ) (rows : List Row) : Type 0 where
  pub rise : RowsRise rows
  pub starts : StartsWith first rows
  pub ends : EndsWith last rows

pub nothing_or : (rows : List Row) → (rows ≡ []) ⊎ ((row : Row) × Contains rows row)
nothing_or [] = inl refl
nothing_or (row ∷ rows) = inr (row, at_front row rows)

same_first : (rows : List Row) (j k : List ℕ) → StartsWith j rows → StartsWith k rows → j ≡ k
same_first [] j k a b = absurd a
same_first (row ∷ rows) j k a b = sym a ∙ b

-- pages by their first keys
pub before_by_first : (table : List (List Row)) (firsts : List First) → AreApart table → IsIndex table firsts → (f g : First) → Contains firsts f → Contains firsts g → is_below f.key g.key ≡ true
    → AllBelow (page_rows table f.page) (page_rows table g.page)
before_by_first table firsts lawful index f g c d below =
    let starts = index.starts f c in
    let begins = index.starts g d in
    below_by_first (page_rows table f.page) (page_rows table g.page) f.key g.key
    (lawful.apart f.page g.page (λ same. below_itself f.key g.key below (same_first (page_rows table f.page) f.key g.key starts (subst (λ (n : ℕ). StartsWith g.key (page_rows table n)) (sym same) begins))))
    starts begins below

-- a page whose first key isn't above the range's ends below it
clear_before : (table : List (List Row)) (firsts : List First) (lasts : List (List ℕ)) (empty : List ℕ) (at : ℕ) (first last : List ℕ) (rows : List Row) → AreTaken table firsts lasts empty → IsSplit first firsts at → IsRange first last rows
    → IfSome (slice_get lasts (at - 1)) (λ l. is_below l first ≡ true) → (f : First) (k : ℕ) → k < at → get_or firsts k f ≡ f → AllBelow (page_rows table f.page) rows
clear_before table firsts lasts empty at first last rows taken split range ends f k lt is x y cx cy =
    let j : ℕ = at - 1 in
    let p : First = get_or firsts j f in
    let l : List ℕ = get_or lasts j [] in
    let in_firsts : j < length firsts = omega (arith, split.within) in
    let there : (j < length lasts) × EndsWith l (page_rows table p.page) = zip_at (Ends table) firsts lasts j f [] taken.ends in_firsts in
    let in_lasts : j < length lasts = there.0 in
    let ended : EndsWith l (page_rows table p.page) = there.1 in
    let below : is_below l first ≡ true = MatchOption-at_some ⊤ (λ m. is_below m first ≡ true) l (slice_get-get_or lasts j [] in_lasts) ends in
    let upto : is_below l (x.0) ≡ false = elim (cases_eq k j) [
      | inl same ↦
          let one : f ≡ p = sym is ∙ ap (λ (i : ℕ). get_or firsts i f) same in
          upto_last l (page_rows table p.page) (taken.lawful.rise p.page) ended x (subst (λ (g : First). Contains (page_rows table g.page) x) one cx)
      | inr other ↦
          let end = last_row l (page_rows table p.page) ended in
          let order : is_below f.key p.key ≡ true = ap (λ (g : First). is_below g.key p.key) (sym is) ∙ rise_at (λ (g : First). g.key) firsts taken.index.rise k j f (omega arith) in_firsts in
          let under : is_below (x.0) l ≡ true = ap (is_below (x.0)) (sym end.2)
          ∙ before_by_first table firsts taken.lawful taken.index f p (k, omega (arith, split.within), is) (Contains-get_or firsts j f in_firsts) order x end.0 cx end.1 in
          below_false l (x.0) (λ above. below_both l (x.0) above under)
    ] in
    below_upto (x.0) first (y.0) (upto_below (x.0) l first upto below) (from_first first rows range.rise range.starts y cy)

-- and one whose first key is above it begins above its end
clear_behind : (table : List (List Row)) (firsts : List First) (lasts : List (List ℕ)) (empty : List ℕ) (at : ℕ) (first last : List ℕ) (rows : List Row) → AreTaken table firsts lasts empty → IsRange first last rows
    → IfSome (slice_get firsts at) (λ f. is_below last f.key ≡ true) → (f : First) (k : ℕ) → at ≤ k → k < length firsts → get_or firsts k f ≡ f → AllBelow rows (page_rows table f.page)
clear_behind table firsts lasts empty at first last rows taken range begins f k le lt is y x cy cx =
    let p : First = get_or firsts at f in
    let below : is_below last p.key ≡ true = MatchOption-at_some ⊤ (λ (g : First). is_below last g.key ≡ true) p (slice_get-get_or firsts at f (omega arith)) begins in
    let y_below : is_below (y.0) p.key ≡ true = upto_below (y.0) last p.key (upto_last last rows range.rise range.ends y cy) below in
    let not_under : is_below f.key p.key ≡ false = elim (cases_eq at k) [
      | inl same ↦
          let one : p ≡ f = ap (λ (i : ℕ). get_or firsts i f) same ∙ is in
          below_false f.key p.key (λ less. below_itself f.key p.key less (ap (λ (g : First). g.key) (sym one)))
      | inr other ↦
          let order : is_below p.key f.key ≡ true = subst (λ (g : First). is_below p.key g.key ≡ true) is (rise_at (λ (g : First). g.key) firsts taken.index.rise at k f (omega arith) lt) in
          below_false f.key p.key (λ less. below_both f.key p.key less order)
    ] in
    below_upto (y.0) f.key (x.0) (below_upto (y.0) p.key f.key y_below not_under) (from_first f.key (page_rows table f.page) (taken.lawful.rise f.page) (taken.index.starts f (k, lt, is)) x cx)

page_clear : (table : List (List Row)) (firsts : List First) (lasts : List (List ℕ)) (empty : List ℕ) (at : ℕ) (first last : List ℕ) (rows : List Row) → AreTaken table firsts lasts empty → IsSplit first firsts at → IsRange first last rows
    → (0 < at → IfSome (slice_get lasts (at - 1)) (λ l. is_below l first ≡ true)) → IfSome (slice_get firsts at) (λ (f : First). is_below last f.key ≡ true) → (f : First) → Contains firsts f → Apart (page_rows table f.page) rows
page_clear table firsts lasts empty at first last rows taken split range ends begins f c = elim (cases_lt c.0 at) [
  | inl lt ↦ inl (clear_before table firsts lasts empty at first last rows taken split range (ends (omega arith)) f c.0 lt c.2)
  | inr le ↦ inr (clear_behind table firsts lasts empty at first last rows taken range begins f c.0 le c.1 c.2)
]

-- so a range that crosses neither of its neighbours crosses no page
pub all_clear : (table : List (List Row)) (firsts : List First) (lasts : List (List ℕ)) (empty : List ℕ) (at : ℕ) (first last : List ℕ) (rows : List Row) → AreTaken table firsts lasts empty → IsSplit first firsts at → IsRange first last rows
    → (0 < at → IfSome (slice_get lasts (at - 1)) (λ l. is_below l first ≡ true)) → IfSome (slice_get firsts at) (λ (f : First). is_below last f.key ≡ true) → (m : ℕ) → Apart (page_rows table m) rows
all_clear table firsts lasts empty at first last rows taken split range ends begins m = elim (nothing_or (page_rows table m)) [
  | inl is ↦ apart_none (page_rows table m) rows is
  | inr some ↦
      let found = taken.index.all m some.0 some.1 in
      subst (λ (n : ℕ). Apart (page_rows table n) rows) found.2 (page_clear table firsts lasts empty at first last rows taken split range ends begins found.0 found.1)
]

-- a range that crosses a neighbour
pub crosses_before : (table : List (List Row)) (firsts : List First) (lasts : List (List ℕ)) (empty : List ℕ) (at : ℕ) (first last : List ℕ) (rows : List Row) → AreTaken table firsts lasts empty → IsSplit first firsts at → IsRange first last rows
    → 0 < at → IsSomeAnd (slice_get lasts (at - 1)) (λ l. is_below l first ≡ false) → (m : ℕ) × (m < length table) × (Apart (page_rows table m) rows → ⊥)
crosses_before table firsts lasts empty at first last rows taken split range some crossed =
    let j : ℕ = at - 1 in
    let l = some_and (slice_get lasts j) (λ l. is_below l first ≡ false) crossed in
    let in_firsts : j < length firsts = zip_back (Ends table) firsts lasts j taken.ends (slice_get_within lasts j l.0 l.1) in
    let p : First = get_or firsts j no_first in
    let here : Contains firsts p = Contains-get_or firsts j no_first in_firsts in
    let ended : EndsWith l.0 (page_rows table p.page) = subst (λ (k : List ℕ). EndsWith k (page_rows table p.page)) (get_or_from_slice_get lasts j l.0 [] l.1) (zip_at (Ends table) firsts lasts j no_first [] taken.ends in_firsts).1 in
    let end = last_row l.0 (page_rows table p.page) ended in
    let front = first_row p.key (page_rows table p.page) (taken.index.starts p here) in
    let low = first_row first rows range.starts in
    let not_above : is_below first p.key ≡ false = split.upto j no_first (omega arith) (omega arith) in (
      p.page,
      row_within table p.page front.0 front.1,
      λ apart. elim apart [
        | inl below ↦ both_ways (is_below l.0 first) l.2 (ap (λ (k : List ℕ). is_below k first) (sym end.2) ∙ ap (is_below (end.0.0)) (sym low.2) ∙ below end.0 low.0 end.1 low.1)
        | inr above ↦ both_ways (is_below first p.key) not_above (ap (λ (k : List ℕ). is_below k p.key) (sym low.2) ∙ ap (is_below (low.0.0)) (sym front.2) ∙ above low.0 front.0 low.1 front.1)
      ],
    )

pub crosses_behind : (table : List (List Row)) (firsts : List First) (lasts : List (List ℕ)) (empty : List ℕ) (at : ℕ) (first last : List ℕ) (rows : List Row) → AreTaken table firsts lasts empty → IsSplit first firsts at → IsRange first last rows
    → IsSomeAnd (slice_get firsts at) (λ (f : First). is_below last f.key ≡ false) → (m : ℕ) × (m < length table) × (Apart (page_rows table m) rows → ⊥)
crosses_behind table firsts lasts empty at first last rows taken split range crossed =
    let found = some_and (slice_get firsts at) (λ (f : First). is_below last f.key ≡ false) crossed in
    let p : First = found.0 in
    let in_firsts : at < length firsts = slice_get_within firsts at p found.1 in
    let is : get_or firsts at p ≡ p = get_or_from_slice_get firsts at p p found.1 in
    let here : Contains firsts p = (at, in_firsts, is) in
    let front = first_row p.key (page_rows table p.page) (taken.index.starts p here) in
    let low = first_row first rows range.starts in
    let high = last_row last rows range.ends in
    let over : is_below first p.key ≡ true = subst (λ (g : First). is_below first g.key ≡ true) is (split.above at p (omega arith) in_firsts) in (
      p.page,
      row_within table p.page front.0 front.1,
      λ apart. elim apart [
        | inl below ↦ below_both first p.key over (ap (λ (k : List ℕ). is_below k first) (sym front.2) ∙ ap (is_below (front.0.0)) (sym low.2) ∙ below front.0 low.0 front.1 low.1)
        | inr above ↦ both_ways (is_below last p.key) found.2 (ap (λ (k : List ℕ). is_below k p.key) (sym high.2) ∙ ap (is_below (high.0.0)) (sym front.2) ∙ above high.0 front.0 high.1 front.1)
      ],
    )

-- pages with one more, whose range crosses none of theirs
by_place : (table : List (List Row)) (rows : List Row) (P : List Row → Type 0) (n : ℕ) → (n < length table → P (page_rows table n)) → (n ≡ length table → P rows) → P [] → P (page_rows (table ++ rows ∷ []) n)
by_place table rows P n old new past = elim (cases_order n (length table)) [
  | inl is ↦ subst P (sym (page_new table rows n is)) (new is)
  | inr (inl lt) ↦ subst P (sym (page_old table rows n lt)) (old lt)
  | inr (inr gt) ↦ subst P (sym (page_past (table ++ rows ∷ []) n (omega (arith, length_push table rows)))) past
]

pub apart_more : (table : List (List Row)) (rows : List Row) → AreApart table → RowsRise rows → ((m : ℕ) → Apart (page_rows table m) rows) → AreApart (table ++ rows ∷ [])
apart_more table rows lawful rise clear = record {
  rise = λ n. by_place table rows RowsRise n (λ lt. lawful.rise n) (λ is. rise) tt;
  apart = λ m n other. by_place table rows (λ l. Apart l (page_rows (table ++ rows ∷ []) n)) m
      (λ lt. by_place table rows (Apart (page_rows table m)) n (λ less. lawful.apart m n other) (λ is. clear m) (apart_turned [] (page_rows table m) (apart_none [] (page_rows table m) refl)))
      (λ is. apart_turned (page_rows (table ++ rows ∷ []) n) rows (by_place table rows (λ l. Apart l rows) n (λ lt. clear n) (λ same. absurd (other (is ∙ sym same))) (apart_none [] rows refl)))
      (apart_none [] (page_rows (table ++ rows ∷ []) n) refl);
}

-- the index with one page more
index_more : (table : List (List Row)) (firsts : List First) (at : ℕ) (new : First) (rows : List Row) → AreApart table → IsIndex table firsts → IsSplit new.key firsts at → RowsRise rows → StartsWith new.key rows → new.page ≡ length table
    → ((m : ℕ) → Apart (page_rows table m) rows) → IsIndex (table ++ rows ∷ []) (insert firsts at new)
index_more table firsts at new rows lawful index split rise starts page clear = record {
  starts = λ f c. elim (put_or firsts at new f c) [
    | inl is ↦ subst (λ (g : First). StartsWith g.key (page_rows (table ++ rows ∷ []) g.page)) (sym is) (subst (StartsWith new.key) (sym (page_new table rows new.page page)) starts)
    | inr old ↦
        let here = index.starts f old in
        let front = first_row f.key (page_rows table f.page) here in
        subst (StartsWith f.key) (sym (page_old table rows f.page (row_within table f.page front.0 front.1))) here
  ];
  all = λ n row c. elim (page_or table rows n row c) [
    | inl old ↦ let found = index.all n row old.0 in (found.0, put_old firsts at new found.0 found.1, found.2)
    | inr last ↦ (new, put_new firsts at new, page ∙ sym last.0)
  ];
  rise = put_rises (λ (f : First). f.key) firsts at new index.rise
      (λ f c. strictly f (from_take firsts at f c) (holds_before (λ (g : First). is_below new.key g.key ≡ false) firsts at split.within split.upto f c))
      (λ f c. holds_behind (λ (g : First). is_below new.key g.key ≡ true) firsts at split.above f c);
}
  where
    strictly : (f : First) → Contains firsts f → is_below new.key f.key ≡ false → is_below f.key new.key ≡ true
    strictly f c under = elim (three_ways f.key new.key) [
      | inl below ↦ below
      | inr (inl same) ↦
          let front = first_row f.key (page_rows table f.page) (index.starts f c) in
          let low = first_row new.key rows starts in
          absurd (elim (clear f.page) [
            | inl below ↦ below_itself (front.0.0) (low.0.0) (below front.0 low.0 front.1 low.1) (front.2 ∙ same ∙ sym low.2)
            | inr above ↦ below_itself (low.0.0) (front.0.0) (above low.0 front.0 low.1 front.1) (low.2 ∙ sym same ∙ sym front.2)
          ])
      | inr (inr above) ↦ let over : is_below new.key f.key ≡ true = above in absurd (both_ways (is_below new.key f.key) under over)
    ]

-- the numbers of the empty pages with one page more
pub numbers_more : (at : ℕ) (table : List (List Row)) (row : Row) (rows : List Row) → empty_numbers at (table ++ (row ∷ rows) ∷ []) ≡ empty_numbers at table
numbers_more at [] row rows = refl
numbers_more at ([] ∷ table) row rows = ap (λ (l : List ℕ). at ∷ l) (numbers_more (at + 1) table row rows)
numbers_more at ((first ∷ others) ∷ table) row rows = numbers_more (at + 1) table row rows

pub numbers_last : (at : ℕ) (table : List (List Row)) → empty_numbers at (table ++ [] ∷ []) ≡ empty_numbers at table ++ (at + length table) ∷ []
numbers_last at [] = ap (λ (n : ℕ). n ∷ []) (omega arith)
numbers_last at ([] ∷ table) = ap (λ (l : List ℕ). at ∷ l) (numbers_last (at + 1) table ∙ ap (λ (n : ℕ). empty_numbers (at + 1) table ++ n ∷ []) (omega arith))
numbers_last at ((first ∷ others) ∷ table) = numbers_last (at + 1) table ∙ ap (λ (n : ℕ). empty_numbers (at + 1) table ++ n ∷ []) (omega arith)

numbers_some : (at : ℕ) (table : List (List Row)) (rows : List Row) (key : List ℕ) → StartsWith key rows → empty_numbers at (table ++ rows ∷ []) ≡ empty_numbers at table
numbers_some at table [] key starts = absurd starts
numbers_some at table (row ∷ rows) key starts = numbers_more at table row rows

pub taken_more : (table : List (List Row)) (firsts : List First) (lasts : List (List ℕ)) (empty : List ℕ) (at : ℕ) (new : First) (last : List ℕ) (rows : List Row) → AreTaken table firsts lasts empty → IsSplit new.key firsts at → IsRange new.key last rows
    → new.page ≡ length table → (0 < at → IfSome (slice_get lasts (at - 1)) (λ l. is_below l new.key ≡ true)) → IfSome (slice_get firsts at) (λ (f : First). is_below last f.key ≡ true)
    → AreTaken (table ++ rows ∷ []) (insert firsts at new) (insert lasts at last) empty
taken_more table firsts lasts empty at new last rows taken split range page ends begins =
    let clear = all_clear table firsts lasts empty at new.key last rows taken split range ends begins in
    record {
      lawful = apart_more table rows taken.lawful range.rise clear;
      index = index_more table firsts at new rows taken.lawful taken.index split range.rise range.starts page clear;
      ends = zip_put (Ends (table ++ rows ∷ [])) firsts lasts at new last
          (zip_weaker (Ends table) (Ends (table ++ rows ∷ [])) firsts lasts (λ f l end. let z = last_row l (page_rows table f.page) end in subst (EndsWith l) (sym (page_old table rows f.page (row_within table f.page z.0 z.1))) end) taken.ends)
          (subst (EndsWith last) (sym (page_new table rows new.page page)) range.ends);
      none = taken.none ∙ sym (numbers_some 0 table rows new.key range.starts);
    }

pub taken_none : (table : List (List Row)) (firsts : List First) (lasts : List (List ℕ)) (empty : List ℕ) (n : ℕ) → AreTaken table firsts lasts empty → n ≡ length table → AreTaken (table ++ [] ∷ []) firsts lasts (empty ++ n ∷ [])
taken_none table firsts lasts empty n taken is = record {
  lawful = apart_more table [] taken.lawful tt (λ m. apart_turned [] (page_rows table m) (apart_none [] (page_rows table m) refl));
  index = record {
    starts = λ f c.
        let here = taken.index.starts f c in
        let front = first_row f.key (page_rows table f.page) here in
        subst (StartsWith f.key) (sym (page_old table [] f.page (row_within table f.page front.0 front.1))) here;
    all = λ m row c. elim (page_or table [] m row c) [ inl old ↦ taken.index.all m row old.0 | inr last ↦ absurd (nothing_there row last.1) ];
    rise = taken.index.rise;
  };
  ends = zip_weaker (Ends table) (Ends (table ++ [] ∷ [])) firsts lasts (λ f l end. let z = last_row l (page_rows table f.page) end in subst (EndsWith l) (sym (page_old table [] f.page (row_within table f.page z.0 z.1))) end) taken.ends;
  none = ap (λ (l : List ℕ). l ++ n ∷ []) taken.none ∙ ap (λ (k : ℕ). empty_numbers 0 table ++ k ∷ []) (omega (arith, is)) ∙ sym (numbers_last 0 table);
}

pub split_from : (key : List ℕ) (firsts held : List First) (at : ℕ) → held ≡ firsts → at ≤ length held
    → (KeysRise (λ (first : First). first.key) held → AllWithin (λ (first : First). is_below key first.key ≡ false) held 0 at)
    → (KeysRise (λ (first : First). first.key) held → AllWithin (λ (first : First). is_below key first.key ≡ true) held at (length held))
    → KeysRise (λ (first : First). first.key) firsts → IsSplit key firsts at
split_from key firsts held at same within upto above rise =
    let risen : KeysRise (λ (first : First). first.key) held = subst (KeysRise (λ (first : First). first.key)) (sym same) rise in
    subst (λ (l : List First). IsSplit key l at) same (record { within = within; upto = upto risen; above = above risen })
