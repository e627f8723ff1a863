-- A full page that splits.
use Rattle.std.proofs.Common.{◌≡◌, ◌⊎◌, ℕ, ◌+◌, ◌<◌, Bool, true, false, cond, List, [], ◌∷◌, length, get_or, take, drop, set, Some, inl, inr, refl, sym, ap, subst, ◌∙◌}
use Rattle.std.specs.Prelude.{Contains, ◌||◌, slice_get}
use Rattle.std.proofs.lemmas.Bool.{both_ways, cases_Bool, or_cases}
use Rattle.keyed_sets.specs.Map.{RowsRise}
use Rattle.keyed_sets.specs.declared.row.RowShape.{RowShape}
use Rattle.keyed_sets.specs.declared.index.First.{First}
use Rattle.keyed_sets.specs.Layout.{Row, rows_in, is_below, PutsRows}
use Rattle.keyed_sets.specs.Places.{nearer, IsHome}
use Rattle.keyed_sets.specs.Rule.{tables, page_rows}
use Rattle.keyed_sets.specs.Standing.{Apart, AllBelow, StartsWith, Stands}
use Rattle.keyed_sets.specs.Taken.{AreApart}
use Rattle.keyed_sets.proofs.Keys.{below_both, below_itself, below_upto, upto_below, below_trans}
use Rattle.keyed_sets.proofs.Members.{nothing_there, at_front}
use Rattle.keyed_sets.proofs.Tables.{first_row, from_first, apart_turned, apart_none}
use Rattle.keyed_sets.proofs.Sets.{lawful}
use Rattle.keyed_sets.proofs.Lookups.{page_is}
use Rattle.keyed_sets.proofs.Placing.{front_below, back_above, in_front, in_back, other_page}
use Rattle.keyed_sets.proofs.Removes.{Written, written_stands, page_some}
use Rattle.keyed_sets.proofs.Putting.{Beside, Under, Over}

-- a key's page and the others
over_first : (k : List ℕ) (b : Row) (others : List Row) → RowsRise (b ∷ others) → is_below k (b.0) ≡ true → (x : Row) → Contains (b ∷ others) x → is_below k (x.0) ≡ true
over_first k b others rise over x c = below_upto k (b.0) (x.0) over (from_first (b.0) (b ∷ others) rise refl x c)

ordered : (a : Row) (p : List Row) (b : Row) (q : List Row) → Apart (b ∷ q) (a ∷ p) → is_below (a.0) (b.0) ≡ true → AllBelow (a ∷ p) (b ∷ q)
ordered a p b q (inl below) less = absurd (below_both (a.0) (b.0) less (below b a (at_front b q) (at_front a p)))
ordered a p b q (inr above) less = above

besides : (key : List ℕ) (p q : List Row) → RowsRise p → RowsRise q → Apart q p → nearer key p q ≡ true → (q ≡ []) ⊎ Beside key p q
besides key [] q rise risen apart near = absurd (both_ways false refl near)
besides key (a ∷ p) [] rise risen apart near = inl refl
besides key (a ∷ p) (b ∷ q) rise risen apart near = elim (cases_Bool (is_below key (a.0))) [
  | inl over ↦
      let less : is_below (a.0) (b.0) ≡ true = sym (ap (λ (t : Bool). cond t (is_below (a.0) (b.0)) (is_below key (b.0) || is_below (b.0) (a.0))) over) ∙ near in
      inr (Over (ordered a p b q apart less) (over_first key b q risen (below_trans key (a.0) (b.0) over less)))
  | inr under ↦
      let either : (is_below key (b.0) || is_below (b.0) (a.0)) ≡ true = sym (ap (λ (t : Bool). cond t (is_below (a.0) (b.0)) (is_below key (b.0) || is_below (b.0) (a.0))) under) ∙ near in
      elim (or_cases (is_below key (b.0)) (is_below (b.0) (a.0)) either) [
        | inl above ↦ inr (Over (ordered a p b q apart (upto_below (a.0) key (b.0) under above)) (over_first key b q risen above))
        | inr low ↦
            let below : AllBelow (b ∷ q) (a ∷ p) = ordered b q a p (apart_turned (b ∷ q) (a ∷ p) apart) low in
            inr (Under (a.0) refl under below (λ x c. below_upto (x.0) (a.0) key (below x a c (at_front a p)) under))
      ]
]

pub beside_home : (key : List ℕ) (table : List (List Row)) (n : ℕ) → AreApart table → IsHome key table n → (page_rows table n ≡ [] → ⊥) → (m : ℕ) → (m ≡ n → ⊥) → (page_rows table m ≡ []) ⊎ Beside key (page_rows table n) (page_rows table m)
beside_home key table n apart (inl none) some m other = absurd (some (none.1 n))
beside_home key table n apart (inr near) some m other = besides key (page_rows table n) (page_rows table m) (apart.rise n) (apart.rise m) (apart.apart m n other) (near m other)

-- the parts of a page beside another page
pub part_clear : (key : List ℕ) (row : Row) (p q part : List Row) → row.0 ≡ key → ((x : Row) → Contains part x → (x ≡ row) ⊎ Contains p x) → ((q ≡ []) ⊎ Beside key p q) → Apart q part
part_clear key row p q part is has (inl none) = apart_none q part none
part_clear key row p q part is has (inr (Under j begins under below less)) = inl (λ x y c d. elim (has y d) [
  | inl same ↦ ap (is_below (x.0)) (ap (λ (r : Row). r.0) same ∙ is) ∙ less x c
  | inr old ↦ below x y c old
])
part_clear key row p q part is has (inr (Over above more)) = inr (λ x y c d. elim (has x c) [
  | inl same ↦ ap (λ (k : List ℕ). is_below k (y.0)) (ap (λ (r : Row). r.0) same ∙ is) ∙ more y d
  | inr old ↦ above x y old d
])

part_above : (key : List ℕ) (row : Row) (p q part : List Row) (j k z : List ℕ) → row.0 ≡ key → ((x : Row) → Contains part x → (x ≡ row) ⊎ Contains p x) → StartsWith j q → StartsWith k p → is_below j k ≡ true → StartsWith z part → ((q ≡ []) ⊎ Beside key p q) → is_below j z ≡ true
part_above key row p q part j k z is has starts begins less front (inl none) = let a = first_row j q starts in absurd (nothing_there a.0 (subst (λ (l : List Row). Contains l a.0) none a.1))
part_above key row p q part j k z is has starts begins less front (inr (Under i opens under below low)) =
    let a = first_row j q starts in
    let c = first_row z part front in
    ap (λ (l : List ℕ). is_below l z) (sym a.2) ∙ ap (is_below (a.0.0)) (sym c.2) ∙ elim (has c.0 c.1) [
      | inl same ↦ ap (is_below (a.0.0)) (ap (λ (r : Row). r.0) same ∙ is) ∙ low a.0 a.1
      | inr old ↦ below a.0 c.0 a.1 old
    ]
part_above key row p q part j k z is has starts begins less front (inr (Over above more)) =
    let a = first_row j q starts in
    let b = first_row k p begins in
    absurd (below_both j k less (ap (λ (l : List ℕ). is_below l j) (sym b.2) ∙ ap (is_below (b.0.0)) (sym a.2) ∙ above b.0 a.0 b.1 a.1))

part_below : (key : List ℕ) (row : Row) (p q part : List Row) (j k z : List ℕ) → row.0 ≡ key → ((x : Row) → Contains part x → (x ≡ row) ⊎ Contains p x) → StartsWith j q → StartsWith k p → is_below k j ≡ true → StartsWith z part → ((q ≡ []) ⊎ Beside key p q) → is_below z j ≡ true
part_below key row p q part j k z is has starts begins less front (inl none) = let a = first_row j q starts in absurd (nothing_there a.0 (subst (λ (l : List Row). Contains l a.0) none a.1))
part_below key row p q part j k z is has starts begins less front (inr (Over above more)) =
    let a = first_row j q starts in
    let c = first_row z part front in
    ap (λ (l : List ℕ). is_below l j) (sym c.2) ∙ ap (is_below (c.0.0)) (sym a.2) ∙ elim (has c.0 c.1) [
      | inl same ↦ ap (λ (l : List ℕ). is_below l (a.0.0)) (ap (λ (r : Row). r.0) same ∙ is) ∙ more a.0 a.1
      | inr old ↦ above c.0 a.0 old a.1
    ]
part_below key row p q part j k z is has starts begins less front (inr (Under i opens under below low)) =
    let a = first_row j q starts in
    let b = first_row k p begins in
    absurd (below_both k j less (ap (λ (l : List ℕ). is_below l k) (sym a.2) ∙ ap (is_below (a.0.0)) (sym b.2) ∙ below a.0 b.0 a.1 b.1))

-- a row put into the page where its key goes, or a part of that page
pub record Part (shape : RowShape) (pages : List (List ℕ)) (firsts : List First) (empty : List ℕ) (home : ℕ) (p : First) (page page2 : List ℕ) (row : Row) (part : List Row) : Type 0 where
  pub stands : Stands shape firsts empty pages
  pub within : home < length firsts
  pub is : get_or firsts home p ≡ p
  pub read : slice_get pages p.page ≡ Some page
  pub puts : PutsRows shape page page2 part
  pub rise : RowsRise part
  pub has : (x : Row) → Contains part x → (x ≡ row) ⊎ Contains (rows_in shape page) x
  pub near : IsHome (row.0) (tables shape pages) p.page

pub beside_part : (shape : RowShape) (pages : List (List ℕ)) (firsts : List First) (empty : List ℕ) (home : ℕ) (p : First) (page page2 : List ℕ) (row : Row) (part : List Row) → Part shape pages firsts empty home p page page2 row part
    → (m : ℕ) → (m ≡ p.page → ⊥) → (page_rows (tables shape pages) m ≡ []) ⊎ Beside (row.0) (rows_in shape page) (page_rows (tables shape pages) m)
beside_part shape pages firsts empty home p page page2 row part t m other =
    subst (λ (l : List Row). (page_rows (tables shape pages) m ≡ []) ⊎ Beside (row.0) l (page_rows (tables shape pages) m)) (page_is shape pages p.page page t.read)
    (beside_home (row.0) (tables shape pages) p.page (lawful shape pages t.stands.rule) t.near (page_some shape pages firsts empty p t.stands (home, t.within, t.is)) m other)

pub part_written : (shape : RowShape) (pages : List (List ℕ)) (firsts : List First) (empty : List ℕ) (home : ℕ) (p : First) (page page2 : List ℕ) (row : Row) (part : List Row) → Part shape pages firsts empty home p page page2 row part
    → Written shape pages firsts empty home p page page2 part
part_written shape pages firsts empty home p page page2 row part t = record {
  stands = t.stands;
  within = t.within;
  is = t.is;
  read = t.read;
  puts = t.puts;
  rise = t.rise;
  clear = λ m other. part_clear (row.0) row (rows_in shape page) (page_rows (tables shape pages) m) part refl t.has (beside_part shape pages firsts empty home p page page2 row part t m other);
}

pub page_starts : (shape : RowShape) (pages : List (List ℕ)) (firsts : List First) (empty : List ℕ) (home : ℕ) (p : First) (page page2 : List ℕ) (row : Row) (part : List Row) → Part shape pages firsts empty home p page page2 row part → StartsWith p.key (rows_in shape page)
page_starts shape pages firsts empty home p page page2 row part t = subst (StartsWith p.key) (page_is shape pages p.page page t.read) (t.stands.index.starts p (home, t.within, t.is))

pub part_low : (shape : RowShape) (pages : List (List ℕ)) (firsts : List First) (empty : List ℕ) (home : ℕ) (p : First) (page page2 : List ℕ) (row : Row) (part : List Row) → Part shape pages firsts empty home p page page2 row part
    → (other : List Row) → ((x : Row) → Contains other x → (x ≡ row) ⊎ Contains (rows_in shape page) x) → (z : List ℕ) → StartsWith z other → (f : First) → Contains (take home firsts) f → is_below f.key z ≡ true
part_low shape pages firsts empty home p page page2 row part t other has z front f c =
    let less = front_below firsts home p t.stands.index.rise t.within t.is f c in
    let here = in_front firsts home p t.within t.is f c in
    part_above (row.0) row (rows_in shape page) (page_rows (tables shape pages) f.page) other f.key p.key z refl has (t.stands.index.starts f here) (page_starts shape pages firsts empty home p page page2 row part t) less front
    (beside_part shape pages firsts empty home p page page2 row part t f.page (other_page (tables shape pages) firsts t.stands.index f p here (home, t.within, t.is) less))

pub part_high : (shape : RowShape) (pages : List (List ℕ)) (firsts : List First) (empty : List ℕ) (home : ℕ) (p : First) (page page2 : List ℕ) (row : Row) (part : List Row) → Part shape pages firsts empty home p page page2 row part
    → (other : List Row) → ((x : Row) → Contains other x → (x ≡ row) ⊎ Contains (rows_in shape page) x) → (z : List ℕ) → StartsWith z other → (f : First) → Contains (drop (home + 1) firsts) f → is_below z f.key ≡ true
part_high shape pages firsts empty home p page page2 row part t other has z front f c =
    let less = back_above firsts home p t.stands.index.rise t.within t.is f c in
    let here = in_back firsts home p t.within t.is f c in
    part_below (row.0) row (rows_in shape page) (page_rows (tables shape pages) f.page) other f.key p.key z refl has (t.stands.index.starts f here) (page_starts shape pages firsts empty home p page page2 row part t) less front
    (beside_part shape pages firsts empty home p page page2 row part t f.page (λ same. other_page (tables shape pages) firsts t.stands.index p f (home, t.within, t.is) here less (sym same)))

pub part_stands : (shape : RowShape) (pages : List (List ℕ)) (firsts : List First) (empty : List ℕ) (home : ℕ) (p : First) (page page2 : List ℕ) (row : Row) (part : List Row) (z : List ℕ) → Part shape pages firsts empty home p page page2 row part → StartsWith z part
    → Stands shape (set firsts home (record { key = z; page = p.page })) empty (set pages p.page page2)
part_stands shape pages firsts empty home p page page2 row part z t front =
    written_stands shape pages firsts empty home p page page2 part z (part_written shape pages firsts empty home p page page2 row part t) front
    (part_low shape pages firsts empty home p page page2 row part t part t.has z front) (part_high shape pages firsts empty home p page page2 row part t part t.has z front)

-- a row of another page has another key
pub other_key : (shape : RowShape) (pages : List (List ℕ)) (firsts : List First) (empty : List ℕ) (home : ℕ) (p : First) (page page2 : List ℕ) (row : Row) (part : List Row) → Part shape pages firsts empty home p page page2 row part
    → (m : ℕ) → (m ≡ p.page → ⊥) → (x : Row) → Contains (page_rows (tables shape pages) m) x → x.0 ≡ row.0 → ⊥
other_key shape pages firsts empty home p page page2 row part t m other x c is = elim (beside_part shape pages firsts empty home p page page2 row part t m other) [
  | inl none ↦ nothing_there x (subst (λ (l : List Row). Contains l x) none c)
  | inr (Under j begins under below less) ↦ below_itself (x.0) (row.0) (less x c) is
  | inr (Over above more) ↦ below_itself (row.0) (x.0) (more x c) (sym is)
]
