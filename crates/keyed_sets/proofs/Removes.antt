-- A row taken away from a set.
use Rattle.std.proofs.Common.{◌≡◌, ℕ, zero, suc, ◌+◌, ◌<◌, true, List, [], ◌∷◌, length, get_or, take, drop, set, map, Some, inl, inr, refl, sym, ap, subst, ◌∙◌, arith}
use Rattle.std.specs.Prelude.{Contains, slice_get}
use Rattle.std.specs.List.{remove}
use Rattle.std.proofs.lemmas.Bool.{cases_eq}
use Rattle.std.proofs.lemmas.Option.{slice_get_within, get_or_from_slice_get}
use Rattle.std.proofs.lemmas.List.{same_lists, length-map, length-append, length-take-le, length-drop, get_or-map, get_or_default}
use Rattle.std.proofs.lemmas.List.Elements.{Contains-get_or, All-set}
use Rattle.keyed_sets.specs.declared.row.RowShape.{RowShape}
use Rattle.keyed_sets.specs.declared.index.First.{First}
use Rattle.keyed_sets.specs.Changes.{placed}
use Rattle.keyed_sets.specs.Layout.{Row, rows_in, is_below, PutsRows}
use Rattle.keyed_sets.specs.Map.{RowsRise, without_row}
use Rattle.keyed_sets.specs.Rule.{IsRowPage, KeepsRule, tables, page_rows}
use Rattle.keyed_sets.specs.Standing.{Apart, StartsWith, IsIndex, Stands, with_number}
use Rattle.keyed_sets.specs.Index.{empty_numbers}
use Rattle.keyed_sets.specs.Taken.{AreApart}
use Rattle.keyed_sets.proofs.Keys.{below_itself}
use Rattle.keyed_sets.proofs.Maps.{gone, stays}
use Rattle.keyed_sets.proofs.Members.{nothing_there, at_front, rise_one}
use Rattle.keyed_sets.proofs.Tables.{first_row}
use Rattle.keyed_sets.proofs.Sets.{IsIn, lawful}
use Rattle.keyed_sets.proofs.Numbers.{numbers_same, numbers_left}
use Rattle.keyed_sets.proofs.Placing.{placed_here, placed_other, apart_placed, index_set, index_removed, row_page_put, rule_from, set_placed}

-- the row at a place is the row of its key
pub remove_is : (rows : List Row) (at : ℕ) (key : List ℕ) (d : Row) → RowsRise rows → at < length rows → (get_or rows at d).0 ≡ key → remove rows at ≡ without_row key rows
remove_is [] at key d rise lt is = absurd (omega (arith, lt))
remove_is (row ∷ rows) zero key d rise lt is = sym (gone key row rows is)
remove_is (row ∷ rows) (suc at) key d rise lt is =
    let less : at < length rows = omega (arith, lt) in
    ap (λ (l : List Row). row ∷ l) (remove_is rows at key d rise.1 less is)
    ∙ sym (stays key row rows (λ same. below_itself (row.0) ((get_or rows at d).0) (rise.0 (get_or rows at d) (Contains-get_or rows at d less)) (same ∙ sym is)))

without_same : (key : List ℕ) (rows : List Row) → ((x : Row) → Contains rows x → x.0 ≡ key → ⊥) → without_row key rows ≡ rows
without_same key [] none = refl
without_same key (row ∷ rows) none = stays key row rows (none row (at_front row rows)) ∙ ap (λ (l : List Row). row ∷ l) (without_same key rows (λ x c. none x (further_on x c)))
  where
    further_on : (x : Row) → Contains rows x → Contains (row ∷ rows) x
    further_on x c = (suc c.0, omega (arith, c.1), c.2)

-- a table in which only one page has the key
pub map_without : (key : List ℕ) (table : List (List Row)) (n : ℕ) → n < length table → ((x : Row) → IsIn table x → x.0 ≡ key → Contains (page_rows table n) x) → AreApart table → placed n (without_row key (page_rows table n)) table ≡ map (without_row key) table
map_without key table n lt only apart =
    let rows : List Row = without_row key (page_rows table n) in
    let long : length (placed n rows table) ≡ length (map (without_row key) table) =
    omega (arith, length-append (take n table) (rows ∷ drop (n + 1) table), length-take-le n table (omega arith), length-drop (n + 1) table, length-map table (without_row key)) in
    same_lists (placed n rows table) (map (without_row key) table) long (λ m d within.
    let inside : m < length table = omega (arith, within, long, length-map table (without_row key)) in
    get_or_default (placed n rows table) m d [] within ∙ elim (cases_eq m n) [
      | inl same ↦ ap (page_rows (placed n rows table)) same ∙ placed_here n rows table (omega arith) ∙ ap (λ (k : ℕ). without_row key (page_rows table k)) (sym same) ∙ sym (get_or-map (without_row key) table m [] d inside)
      | inr other ↦ placed_other n rows table m (omega arith) other
          ∙ sym (without_same key (page_rows table m) (λ x c is. other (one_page m x c is))) ∙ sym (get_or-map (without_row key) table m [] d inside)
    ])
  where
    one_page : (m : ℕ) (x : Row) → Contains (page_rows table m) x → x.0 ≡ key → m ≡ n
    one_page m x c is = elim (cases_eq m n) [
      | inl same ↦ same
      | inr other ↦
          let here : Contains (page_rows table n) x = only x (m, c) is in
          absurd (elim (apart.apart m n other) [
            | inl below ↦ below_itself (x.0) (x.0) (below x x c here) refl
            | inr above ↦ below_itself (x.0) (x.0) (above x x here c) refl
          ])
    ]

pub map_without_none : (key : List ℕ) (table : List (List Row)) → ((x : Row) → IsIn table x → x.0 ≡ key → ⊥) → map (without_row key) table ≡ table
map_without_none key table none =
    same_lists (map (without_row key) table) table (length-map table (without_row key)) (λ m d within.
    let inside : m < length table = omega (arith, within, length-map table (without_row key)) in
    get_or-map (without_row key) table m [] d inside ∙ without_same key (page_rows table m) (λ x c is. none x (m, c) is) ∙ get_or_default table m [] d inside)

some_of : (rows : List Row) (x : Row) → Contains rows x → rows ≡ [] → ⊥
some_of rows x c is = nothing_there x (subst (λ (l : List Row). Contains l x) is c)

-- the pages of a set with other rows in one page of its index
pub record Written (shape : RowShape) (pages : List (List ℕ)) (firsts : List First) (empty : List ℕ) (at : ℕ) (p : First) (page page2 : List ℕ) (rows : List Row) : Type 0 where
  pub stands : Stands shape firsts empty pages
  pub within : at < length firsts
  pub is : get_or firsts at p ≡ p
  pub read : slice_get pages p.page ≡ Some page
  pub puts : PutsRows shape page page2 rows
  pub rise : RowsRise rows
  pub clear : (m : ℕ) → (m ≡ p.page → ⊥) → Apart (page_rows (tables shape pages) m) rows

pub written_table : (shape : RowShape) (pages : List (List ℕ)) (firsts : List First) (empty : List ℕ) (at : ℕ) (p : First) (page page2 : List ℕ) (rows : List Row) → Written shape pages firsts empty at p page page2 rows
    → tables shape (set pages p.page page2) ≡ placed p.page rows (tables shape pages)
written_table shape pages firsts empty at p page page2 rows w = set_placed shape pages p.page page2 rows (slice_get_within pages p.page page w.read) w.puts.rows

many : (shape : RowShape) (pages : List (List ℕ)) (n : ℕ) (page : List ℕ) → slice_get pages n ≡ Some page → n < length (tables shape pages)
many shape pages n page read = omega (arith, slice_get_within pages n page read, length-map pages (rows_in shape))

pub written_apart : (shape : RowShape) (pages : List (List ℕ)) (firsts : List First) (empty : List ℕ) (at : ℕ) (p : First) (page page2 : List ℕ) (rows : List Row) → Written shape pages firsts empty at p page page2 rows
    → AreApart (placed p.page rows (tables shape pages))
written_apart shape pages firsts empty at p page page2 rows w =
    apart_placed p.page rows (tables shape pages) (omega (arith, many shape pages p.page page w.read)) (lawful shape pages w.stands.rule) w.rise w.clear

written_rule : (shape : RowShape) (pages : List (List ℕ)) (firsts : List First) (empty : List ℕ) (at : ℕ) (p : First) (page page2 : List ℕ) (rows : List Row) → Written shape pages firsts empty at p page page2 rows
    → KeepsRule shape (set pages p.page page2)
written_rule shape pages firsts empty at p page page2 rows w =
    let lt = slice_get_within pages p.page page w.read in
    let was : IsRowPage shape page = subst (IsRowPage shape) (get_or_from_slice_get pages p.page page [] w.read) (w.stands.rule.each p.page [] lt) in
    rule_from shape (set pages p.page page2) (All-set (IsRowPage shape) pages p.page page2 (row_page_put shape page page2 rows was w.puts (rise_one rows w.rise)) w.stands.rule.each)
    (subst AreApart (sym (written_table shape pages firsts empty at p page page2 rows w)) (written_apart shape pages firsts empty at p page page2 rows w))

pub page_some : (shape : RowShape) (pages : List (List ℕ)) (firsts : List First) (empty : List ℕ) (p : First) → Stands shape firsts empty pages → Contains firsts p → page_rows (tables shape pages) p.page ≡ [] → ⊥
page_some shape pages firsts empty p stands c is =
    let row = first_row p.key (page_rows (tables shape pages) p.page) (stands.index.starts p c) in
    some_of (page_rows (tables shape pages) p.page) row.0 row.1 is

pub written_stands : (shape : RowShape) (pages : List (List ℕ)) (firsts : List First) (empty : List ℕ) (at : ℕ) (p : First) (page page2 : List ℕ) (rows : List Row) (key : List ℕ) → Written shape pages firsts empty at p page page2 rows → StartsWith key rows
    → ((f : First) → Contains (take at firsts) f → is_below f.key key ≡ true) → ((f : First) → Contains (drop (at + 1) firsts) f → is_below key f.key ≡ true)
    → Stands shape (set firsts at (record { key = key; page = p.page })) empty (set pages p.page page2)
written_stands shape pages firsts empty at p page page2 rows key w starts low high =
    let table = tables shape pages in
    let grown = written_table shape pages firsts empty at p page page2 rows w in
    let lt = many shape pages p.page page w.read in
    let row = first_row key rows starts in
    record {
      rule = written_rule shape pages firsts empty at p page page2 rows w;
      index = subst (λ (t : List (List Row)). IsIndex t (set firsts at (record { key = key; page = p.page }))) (sym grown) (index_set rows table firsts at p key lt w.stands.index w.within w.is starts low high);
      empty_pages = w.stands.empty_pages ∙ sym (numbers_same 0 table p.page rows lt (page_some shape pages firsts empty p w.stands (at, w.within, w.is)) (some_of rows row.0 row.1)) ∙ ap (empty_numbers 0) (sym grown);
    }

pub emptied_stands : (shape : RowShape) (pages : List (List ℕ)) (firsts : List First) (empty : List ℕ) (at : ℕ) (p : First) (page page2 : List ℕ) → Written shape pages firsts empty at p page page2 []
    → Stands shape (remove firsts at) (with_number p.page empty) (set pages p.page page2)
emptied_stands shape pages firsts empty at p page page2 w =
    let table = tables shape pages in
    let grown = written_table shape pages firsts empty at p page page2 [] w in
    let lt = many shape pages p.page page w.read in
    let none : 0 + p.page ≡ p.page = omega arith in
    record {
      rule = written_rule shape pages firsts empty at p page page2 [] w;
      index = subst (λ (t : List (List Row)). IsIndex t (remove firsts at)) (sym grown) (index_removed table firsts at p lt w.stands.index w.within w.is);
      empty_pages = ap (with_number p.page) w.stands.empty_pages ∙ ap (λ (n : ℕ). with_number n (empty_numbers 0 table)) (sym none)
          ∙ sym (numbers_left 0 table p.page lt (page_some shape pages firsts empty p w.stands (at, w.within, w.is))) ∙ ap (empty_numbers 0) (sym grown);
    }
