-- A row put into its page, and the page where it goes.
use Rattle.std.proofs.Common.{◌≡◌, ◌⊎◌, ℕ, zero, suc, ◌+◌, ◌-◌, ◌<◌, ◌≤◌, Bool, true, false, cond, List, [], ◌∷◌, length, get_or, take, drop, set, Some, inl, inr, refl, sym, ap, subst, ◌∙◌, arith}
use Rattle.std.specs.Prelude.{Contains, ◌||◌, slice_get, insert}
use Rattle.std.specs.Option.{option_map}
use Rattle.std.proofs.lemmas.Bool.{cases_order, or_left, or_right}
use Rattle.std.proofs.lemmas.List.{get_or_default, length-append, length-take-le, length-drop}
use Rattle.keyed_sets.proofs.Rows.{length-rows_in}
use Rattle.keyed_sets.proofs.Lookups.{nowhere, key_at_is, missing_at}
use Rattle.std.proofs.lemmas.List.Elements.{Contains-get_or}
use Rattle.keyed_sets.specs.declared.row.RowShape.{RowShape}
use Rattle.keyed_sets.specs.declared.index.First.{First}
use Rattle.keyed_sets.specs.Layout.{Row, rows_in, count_of, is_below, place_of, PutsRows}
use Rattle.keyed_sets.specs.Map.{RowsRise, with_row}
use Rattle.keyed_sets.specs.Places.{nearer, IsHome}
use Rattle.keyed_sets.specs.Rule.{page_rows}
use Rattle.keyed_sets.specs.Standing.{AllBelow, StartsWith, IsIndex}
use Rattle.keyed_sets.specs.Taken.{AreApart}
use Rattle.keyed_sets.proofs.Keys.{below_both, below_false, below_upto, three_ways}
use Rattle.keyed_sets.proofs.Maps.{row_behind, row_ahead, row_over}
use Rattle.keyed_sets.proofs.Members.{at_front, further, rise_at}
use Rattle.keyed_sets.proofs.Tables.{first_row}
use Rattle.keyed_sets.proofs.Openings.{IsSplit, nothing_or, before_by_first}
use Rattle.keyed_sets.proofs.Sets.{above_split}

-- a row whose key isn't there, at its place
pub insert_is : (row : Row) (rows : List Row) → RowsRise rows → ((x : Row) → Contains rows x → x.0 ≡ row.0 → ⊥) → insert rows (place_of (row.0) rows) row ≡ with_row row rows
insert_is row [] rise none = refl
insert_is row (next ∷ rows) rise none = elim (three_ways (next.0) (row.0)) [
  | inl below ↦
      let n : ℕ = place_of (row.0) rows in
      let one : 1 + n ≡ suc n = omega arith in
      ap (λ (b : Bool). insert (next ∷ rows) (cond b (1 + n) 0) row) below ∙ ap (λ (k : ℕ). insert (next ∷ rows) k row) one
      ∙ ap (λ (l : List Row). next ∷ l) (insert_is row rows rise.1 (λ x c. none x (further next rows x c))) ∙ sym (row_behind row next rows below)
  | inr (inl same) ↦ absurd (none next (at_front next rows) same)
  | inr (inr above) ↦
      let n : ℕ = place_of (row.0) rows in
      ap (λ (b : Bool). insert (next ∷ rows) (cond b (1 + n) 0) row) (below_false (next.0) (row.0) (λ below. below_both (next.0) (row.0) below above)) ∙ sym (row_ahead row next rows above)
]

-- and one over the row of its key
pub replaced_is : (row : Row) (rows : List Row) (at : ℕ) (d : Row) → RowsRise rows → at < length rows → (get_or rows at d).0 ≡ row.0 → set rows at row ≡ with_row row rows
replaced_is row [] at d rise lt is = absurd (omega (arith, lt))
replaced_is row (next ∷ rows) zero d rise lt is = sym (row_over row next rows (sym is))
replaced_is row (next ∷ rows) (suc at) d rise lt is =
    let less : at < length rows = omega (arith, lt) in
    ap (λ (l : List Row). next ∷ l) (replaced_is row rows at d rise.1 less is)
    ∙ sym (row_behind row next rows (ap (is_below (next.0)) (sym is) ∙ rise.0 (get_or rows at d) (Contains-get_or rows at d less)))

pub puts_then : (shape : RowShape) (old mid new : List ℕ) (first second : List Row) → PutsRows shape old mid first → PutsRows shape mid new second → PutsRows shape old new second
puts_then shape old mid new first second one two = record {
  head = record { set = two.head.set ∙ one.head.set; rest = two.head.rest ∙ one.head.rest };
  place = two.place;
  count = two.count;
  rows = two.rows;
  zeros = λ were. two.zeros (one.zeros were);
}

-- the page of an index where a key goes: the last of those that don't begin above it, or the first
pub record IsNear (key : List ℕ) (firsts : List First) (at home : ℕ) (p : First) : Type 0 where
  pub split : IsSplit key firsts at
  pub within : home < length firsts
  pub is : get_or firsts home p ≡ p
  pub home_is : home ≡ at - 1

-- the keys of another page are below the page where the key goes and below the key, or above both
pub data Beside (key : List ℕ) (p : List Row) (q : List Row) : Type 0 where
  Under : (k : List ℕ) → StartsWith k p → is_below key k ≡ false → AllBelow q p → ((x : Row) → Contains q x → is_below (x.0) key ≡ true) → Beside key p q
  Over : AllBelow p q → ((x : Row) → Contains q x → is_below key (x.0) ≡ true) → Beside key p q

pub beside : (table : List (List Row)) (firsts : List First) (key : List ℕ) (at home : ℕ) (p : First) → AreApart table → IsIndex table firsts → IsNear key firsts at home p → (f : First) → Contains firsts f → (f.page ≡ p.page → ⊥) → Beside key (page_rows table p.page) (page_rows table f.page)
beside table firsts key at home p apart index near f c other =
    let here : Contains firsts p = (home, near.within, near.is) in
    elim (cases_order c.0 home) [
      | inl same ↦ absurd (other (ap (λ (g : First). g.page) (sym c.2 ∙ ap (λ (i : ℕ). get_or firsts i f) same ∙ get_or_default firsts home f p near.within ∙ near.is)))
      | inr (inl lt) ↦
          let order : is_below f.key p.key ≡ true = subst (λ (g : First). is_below g.key p.key ≡ true) c.2 (subst (λ (g : First). is_below (get_or firsts c.0 f).key g.key ≡ true) (get_or_default firsts home f p near.within ∙ near.is)
          (rise_at (λ (g : First). g.key) firsts index.rise c.0 home f lt near.within)) in
          let under : is_below key p.key ≡ false = subst (λ (g : First). is_below key g.key ≡ false) near.is (near.split.upto home p (omega arith) (omega (arith, lt, near.home_is))) in
          let below = before_by_first table firsts apart index f p c here order in
          let front = first_row p.key (page_rows table p.page) (index.starts p here) in
          Under p.key (index.starts p here) under below (λ x d. below_upto (x.0) p.key key (ap (is_below (x.0)) (sym front.2) ∙ below x front.0 d front.1) under)
      | inr (inr gt) ↦
          let order : is_below p.key f.key ≡ true = subst (λ (g : First). is_below p.key g.key ≡ true) c.2 (subst (λ (g : First). is_below g.key (get_or firsts c.0 f).key ≡ true) (get_or_default firsts home f p near.within ∙ near.is)
          (rise_at (λ (g : First). g.key) firsts index.rise home c.0 f gt c.1)) in
          Over (before_by_first table firsts apart index p f here c order) (λ x d. above_split table firsts key at apart index near.split f c.0 (omega (arith, gt, near.home_is)) c.1 c.2 x d)
    ]

pub beside_page : (table : List (List Row)) (firsts : List First) (key : List ℕ) (at home : ℕ) (p : First) → AreApart table → IsIndex table firsts → IsNear key firsts at home p → (m : ℕ) → (m ≡ p.page → ⊥)
    → (page_rows table m ≡ []) ⊎ Beside key (page_rows table p.page) (page_rows table m)
beside_page table firsts key at home p apart index near m other = elim (nothing_or (page_rows table m)) [
  | inl is ↦ inl is
  | inr some ↦
      let found = index.all m some.0 some.1 in
      inr (subst (λ (n : ℕ). Beside key (page_rows table p.page) (page_rows table n)) found.2 (beside table firsts key at home p apart index near found.0 found.1 (λ is. other (sym found.2 ∙ is))))
]

near_under : (key : List ℕ) (a : Row) (rows : List Row) (b : Row) (others : List Row) → is_below key (a.0) ≡ false → is_below (b.0) (a.0) ≡ true → nearer key (a ∷ rows) (b ∷ others) ≡ true
near_under key a rows b others under below =
    ap (λ (t : Bool). cond t (is_below (a.0) (b.0)) (is_below key (b.0) || is_below (b.0) (a.0))) under ∙ or_right (is_below key (b.0)) (is_below (b.0) (a.0)) below

near_over : (key : List ℕ) (a : Row) (rows : List Row) (b : Row) (others : List Row) → is_below key (b.0) ≡ true → is_below (a.0) (b.0) ≡ true → nearer key (a ∷ rows) (b ∷ others) ≡ true
near_over key a rows b others over above = either (is_below key (a.0))
  where
    either : (t : Bool) → cond t (is_below (a.0) (b.0)) (is_below key (b.0) || is_below (b.0) (a.0)) ≡ true
    either true = above
    either false = or_left (is_below key (b.0)) (is_below (b.0) (a.0)) over

near_empty : (key : List ℕ) (a : Row) (rows others : List Row) → others ≡ [] → nearer key (a ∷ rows) others ≡ true
near_empty key a rows [] is = refl
near_empty key a rows (b ∷ others) is = cc

near_by : (key : List ℕ) (p q : List Row) (k : List ℕ) → StartsWith k p → ((q ≡ []) ⊎ Beside key p q) → nearer key p q ≡ true
near_by key [] q k starts side = absurd starts
near_by key (a ∷ rows) q k starts (inl is) = near_empty key a rows q is
near_by key (a ∷ rows) [] k starts (inr side) = refl
near_by key (a ∷ rows) (b ∷ others) k starts (inr (Under j begins under below less)) =
    near_under key a rows b others (ap (is_below key) begins ∙ under) (below b a (at_front b others) (at_front a rows))
near_by key (a ∷ rows) (b ∷ others) k starts (inr (Over above more)) = near_over key a rows b others (more b (at_front b others)) (above a b (at_front a rows) (at_front b others))

pub home_is : (table : List (List Row)) (firsts : List First) (key : List ℕ) (at home : ℕ) (p : First) → AreApart table → IsIndex table firsts → IsNear key firsts at home p → IsHome key table p.page
home_is table firsts key at home p apart index near =
    inr (λ m other. near_by key (page_rows table p.page) (page_rows table m) p.key (index.starts p (home, near.within, near.is)) (beside_page table firsts key at home p apart index near m other))

pub sets_over : (shape : RowShape) (old new : List ℕ) (at : ℕ) (row : Row) → RowsRise (rows_in shape old) → at < count_of old → option_map (λ (r : Row). r.0) (slice_get (rows_in shape old) at) ≡ Some (row.0)
    → PutsRows shape old new (set (rows_in shape old) at row) → PutsRows shape old new (with_row row (rows_in shape old))
sets_over shape old new at row rise lt keyed puts =
    let within : at < length (rows_in shape old) = omega (arith, lt, length-rows_in shape old) in
    subst (PutsRows shape old new) (replaced_is row (rows_in shape old) at nowhere rise within (key_at_is (rows_in shape old) at (row.0) within keyed)) puts

pub sets_new : (shape : RowShape) (old new : List ℕ) (at : ℕ) (row : Row) → RowsRise (rows_in shape old) → at ≡ place_of (row.0) (rows_in shape old)
    → ((at < count_of old) × (option_map (λ (r : Row). r.0) (slice_get (rows_in shape old) at) ≡ Some (row.0)) → ⊥) → PutsRows shape old new (insert (rows_in shape old) at row) → PutsRows shape old new (with_row row (rows_in shape old))
sets_new shape old new at row rise place missing puts =
    let rows : List Row = rows_in shape old in
    subst (PutsRows shape old new) (ap (λ (k : ℕ). insert rows k row) place ∙ insert_is row rows rise (missing_at rows at (row.0) rise place (λ there. missing (omega (arith, there.0, length-rows_in shape old), there.1)))) puts

pub some_put : (shape : RowShape) (old new : List ℕ) (at : ℕ) (row : Row) (rows : List Row) → PutsRows shape old new (insert rows at row) → 0 < count_of new
some_put shape old new at row rows puts = omega (arith, puts.count, length-append (take at rows) (row ∷ drop at rows))

pub taken_count : (shape : RowShape) (old new : List ℕ) (rows : List Row) (n : ℕ) → PutsRows shape old new (take n rows) → n ≤ length rows → count_of new ≡ n
taken_count shape old new rows n puts le = puts.count ∙ length-take-le n rows le

pub left_count : (shape : RowShape) (old new : List ℕ) (rows : List Row) (n : ℕ) → PutsRows shape old new (drop n rows) → count_of new ≡ length rows - n
left_count shape old new rows n puts = puts.count ∙ length-drop n rows

pub inserts : (shape : RowShape) (old mid new : List ℕ) (at : ℕ) (row : Row) (rows : List Row) → PutsRows shape old mid rows → PutsRows shape mid new (insert (rows_in shape mid) at row) → PutsRows shape old new (insert rows at row)
inserts shape old mid new at row rows one two = puts_then shape old mid new rows (insert rows at row) one (subst (λ (l : List Row). PutsRows shape mid new (insert l at row)) one.rows two)
