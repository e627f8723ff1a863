-- Cutting a span out keeps a forest.
use Rattle.std.proofs.Common.{◌≡◌, ℕ, ◌≤◌, nat_lt, Bool, true, false, not, cond, List, [], ◌∷◌, ◌++◌, length, take, drop, None, ◌⊎◌, inl, inr, refl, sym, ap, subst, ◌∙◌, arith}
use Rattle.std.specs.List.{list_all, prefix_len}
use Rattle.std.proofs.lemmas.Bool.{and_from, ltb-true, ltb-false, le-ltb, not_from_false}
use Rattle.hal_base.specs.declared.place.Ilk.{Ilk}
use Rattle.hal_schema.specs.declared.row.Row.{Row}
use Rattle.hal_schema.specs.declared.schema.SegType.{SegType}
use Rattle.hal_schema.specs.declared.schema.IndexDef.{IndexDef}
use Rattle.hal_schema.specs.declared.schema.Schema.{Schema}
use Rattle.hal_schema.specs.Row.{same_name, row_level}
use Rattle.hal_schema.specs.Paths.{path_after, with_paths, paths_of}
use Rattle.hal_schema.specs.Span.{is_deeper, span_of, without_span}
use Rattle.hal_schema.specs.Entry.{Entry, entries_by_row}
use Rattle.hal_schema.specs.Forest.{all_pairs, names_apart, has_length, is_path, is_selected, in_type_order, in_twin_order, keys_apart, entries_differ, is_forest}
use Rattle.forest_laws.specs.Keeping.{CutKeeps}
use Rattle.forest_laws.proofs.Lists.{front_of, drop_front, all_weaker, all_without, pairs_without}
use Rattle.forest_laws.proofs.Carried.{not_above, is_above, starts_above, with_append, passed_over}
use Rattle.forest_laws.proofs.Parents.{Parts, parts_of, forest_from}
use Rattle.forest_laws.proofs.EntriesByRow.{pairs_in_order, entries_append}

-- where a span stands
pub record CutAt (types : List SegType) (rows : List Row) (name : Ilk) : Type 0 where
  pub front : List Row
  pub row : Row
  pub below : List Row
  pub back : List Row
  pub split : rows ≡ front ++ row ∷ (below ++ back)
  pub without : without_span types rows name ≡ front ++ back
  pub span : span_of types rows name ≡ row ∷ below
  pub named : same_name row.name name ≡ true
  pub others : list_all (λ r. not (same_name r.name name)) front ≡ true
  pub deeper : list_all (is_above (row_level types) row) below ≡ true
  pub next : starts_above (row_level types) (row ∷ below) back ≡ true

pub record NoCut (types : List SegType) (rows : List Row) (name : Ilk) : Type 0 where
  pub none : list_all (λ r. not (same_name r.name name)) rows ≡ true
  pub without : without_span types rows name ≡ rows
  pub span : span_of types rows name ≡ []

pub take_front : {X : Type 0} (xs ys : List X) → take (length xs) (xs ++ ys) ≡ xs
take_front [] ys = refl
take_front (x ∷ xs) ys = ap (λ l. x ∷ l) (take_front xs ys)

next_above : (level : Row → ℕ) (row : Row) (below back : List Row) → list_all (is_above level row) below ≡ true → ((x : Row) (more : List Row) → back ≡ x ∷ more → is_above level row x ≡ false) → starts_above level (row ∷ below) back ≡ true
next_above level row below [] deeper stops = refl
next_above level row below (y ∷ back) deeper stops =
    let high : level y ≤ level row = ltb-false (level row) (level y) (stops y back refl) in
    and_from (not_above level y row) (list_all (not_above level y) below) (not_from_false (nat_lt (level row) (level y)) (stops y back refl))
    (all_weaker (is_above level row) (not_above level y) (λ r h. let l = ltb-true (level row) (level r) h in not_from_false (nat_lt (level r) (level y)) (le-ltb (level r) (level y) (omega (arith, l, high)))) below deeper)

cut_here : (types : List SegType) (row : Row) (rows : List Row) (name : Ilk) → same_name row.name name ≡ true → CutAt types (row ∷ rows) name
cut_here types row rows name named =
    let f = front_of (is_deeper types row) rows in
    record {
      front = [];
      row = row;
      below = f.passing;
      back = f.rest;
      split = ap (λ (l : List Row). row ∷ l) f.split;
      without = ap (λ b. cond b (drop (prefix_len (is_deeper types row) rows) rows) (row ∷ without_span types rows name)) named
          ∙ ap (λ n. drop n rows) f.long ∙ ap (drop (length f.passing)) f.split ∙ drop_front f.passing f.rest;
      span = ap (λ b. cond b (row ∷ take (prefix_len (is_deeper types row) rows) rows) (span_of types rows name)) named
          ∙ ap (λ (l : List Row). row ∷ l) (ap (λ n. take n rows) f.long ∙ ap (take (length f.passing)) f.split ∙ take_front f.passing f.rest);
      named = named;
      others = refl;
      deeper = f.pass;
      next = next_above (row_level types) row f.passing f.rest f.pass f.stops;
    }

cut_later : (types : List SegType) (row : Row) (rows : List Row) (name : Ilk) → same_name row.name name ≡ false → CutAt types rows name → CutAt types (row ∷ rows) name
cut_later types row rows name other c = record {
  front = row ∷ c.front;
  row = c.row;
  below = c.below;
  back = c.back;
  split = ap (λ (l : List Row). row ∷ l) c.split;
  without = ap (λ b. cond b (drop (prefix_len (is_deeper types row) rows) rows) (row ∷ without_span types rows name)) other ∙ ap (λ (l : List Row). row ∷ l) c.without;
  span = ap (λ b. cond b (row ∷ take (prefix_len (is_deeper types row) rows) rows) (span_of types rows name)) other ∙ c.span;
  named = c.named;
  others = and_from (not (same_name row.name name)) (list_all (λ r. not (same_name r.name name)) c.front) (not_from_false (same_name row.name name) other) c.others;
  deeper = c.deeper;
  next = c.next;
}

no_later : (types : List SegType) (row : Row) (rows : List Row) (name : Ilk) → same_name row.name name ≡ false → NoCut types rows name → NoCut types (row ∷ rows) name
no_later types row rows name other c = record {
  none = and_from (not (same_name row.name name)) (list_all (λ r. not (same_name r.name name)) rows) (not_from_false (same_name row.name name) other) c.none;
  without = ap (λ b. cond b (drop (prefix_len (is_deeper types row) rows) rows) (row ∷ without_span types rows name)) other ∙ ap (λ (l : List Row). row ∷ l) c.without;
  span = ap (λ b. cond b (row ∷ take (prefix_len (is_deeper types row) rows) rows) (span_of types rows name)) other ∙ c.span;
}

pub cut_of : (types : List SegType) (rows : List Row) (name : Ilk) → CutAt types rows name ⊎ NoCut types rows name
cut_of types [] name = inr (record { none = refl; without = refl; span = refl })
cut_of types (row ∷ rows) name = by (same_name row.name name) refl (cut_of types rows name)
  where
    by : (b : Bool) → same_name row.name name ≡ b → CutAt types rows name ⊎ NoCut types rows name → CutAt types (row ∷ rows) name ⊎ NoCut types (row ∷ rows) name
    by true e c = inl (cut_here types row rows name e)
    by false e (inl c) = inl (cut_later types row rows name e c)
    by false e (inr c) = inr (no_later types row rows name e c)

-- the paths before and after
pub record PathsCut (types : List SegType) (rows front back : List Row) : Type 0 where
  pub first : List (List Row × Row)
  pub cut : List (List Row × Row)
  pub last : List (List Row × Row)
  pub before : paths_of types rows ≡ first ++ (cut ++ last)
  pub after : paths_of types (front ++ back) ≡ first ++ last

pub paths_cut : (types : List SegType) (rows : List Row) (name : Ilk) → (c : CutAt types rows name) → PathsCut types rows c.front c.back
paths_cut types rows name c =
    let level = row_level types in
    let above = path_after level [] c.front in
    let first = with_paths level [] c.front in
    let cut = with_paths level above (c.row ∷ c.below) in
    let last = with_paths level above c.back in
    record {
      first = first;
      cut = cut;
      last = last;
      before = ap (paths_of types) c.split ∙ with_append level [] c.front ((c.row ∷ c.below) ++ c.back)
          ∙ ap (λ (l : List (List Row × Row)). first ++ l) (with_append level above (c.row ∷ c.below) c.back ∙ ap (λ (l : List (List Row × Row)). cut ++ l) (passed_over level above (c.row ∷ c.below) c.back c.next));
      after = with_append level [] c.front c.back;
    }

index_cut : (types : List SegType) (old front back : List Row) (index : IndexDef) → PathsCut types old front back → entries_differ types old index ≡ true → entries_differ types (front ++ back) index ≡ true
index_cut types old front back index p differ =
    let entries = entries_by_row types index in
    let were : entries (paths_of types old) ≡ entries p.first ++ (entries p.cut ++ entries p.last) =
    ap entries p.before ∙ entries_append types index p.first (p.cut ++ p.last) ∙ ap (λ (l : List Entry). entries p.first ++ l) (entries_append types index p.cut p.last) in
    let are : entries (paths_of types (front ++ back)) ≡ entries p.first ++ entries p.last = ap entries p.after ∙ entries_append types index p.first p.last in
    pairs_in_order (entries (paths_of types (front ++ back))) ∙ ap (all_pairs keys_apart) are
    ∙ pairs_without keys_apart (entries p.first) (entries p.cut) (entries p.last) (sym (ap (all_pairs keys_apart) were) ∙ sym (pairs_in_order (entries (paths_of types old))) ∙ differ)

cut_parts : (schema : Schema) (rows : List Row) (name : Ilk) → (c : CutAt schema.types rows name) → Parts schema rows → Parts schema (c.front ++ c.back)
cut_parts schema rows name c parts =
    let types = schema.types in
    let cut = c.row ∷ c.below in
    let paths = paths_cut types rows name c in
    let P : List Row × Row → Bool = λ p. is_path types None p.0 in
    record {
      named = pairs_without names_apart c.front cut c.back (subst (λ (l : List Row). all_pairs names_apart l ≡ true) c.split parts.named);
      long = all_without (has_length types) c.front cut c.back (subst (λ (l : List Row). list_all (has_length types) l ≡ true) c.split parts.long);
      placed = ap (list_all P) paths.after ∙ all_without P paths.first paths.cut paths.last (sym (ap (list_all P) paths.before) ∙ parts.placed);
      types = pairs_without in_type_order c.front cut c.back (subst (λ (l : List Row). all_pairs in_type_order l ≡ true) c.split parts.types);
      twins = pairs_without (in_twin_order schema) c.front cut c.back (subst (λ (l : List Row). all_pairs (in_twin_order schema) l ≡ true) c.split parts.twins);
      selected = all_without (is_selected schema) c.front cut c.back (subst (λ (l : List Row). list_all (is_selected schema) l ≡ true) c.split parts.selected);
      indexed = all_weaker (entries_differ types rows) (entries_differ types (c.front ++ c.back)) (λ index d. index_cut types rows c.front c.back index paths d) schema.indexes parts.indexed;
    }

pub cut_kept : CutKeeps
cut_kept schema rows name forest = by (cut_of schema.types rows name)
  where
    by : CutAt schema.types rows name ⊎ NoCut schema.types rows name → is_forest schema (without_span schema.types rows name) ≡ true
    by (inl c) = subst (λ (l : List Row). is_forest schema l ≡ true) (sym c.without) (forest_from schema (c.front ++ c.back) (cut_parts schema rows name c (parts_of schema rows forest)))
    by (inr c) = subst (λ (l : List Row). is_forest schema l ≡ true) (sym c.without) forest
