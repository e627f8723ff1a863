-- Inserting a row that may be inserted keeps a forest.
use Rattle.std.proofs.Common.{◌≡◌, ℕ, ◌==◌, Bool, true, false, not, cond, ◌&&◌, List, [], ◌∷◌, ◌++◌, Some, None, inl, inr, refl, sym, ap, subst, ◌∙◌}
use Rattle.std.specs.Cmp.{IsTotalOrder}
use Rattle.std.specs.Prelude.{find, is_none}
use Rattle.std.specs.List.{list_all}
use Rattle.std.specs.Str.{bytes_eq}
use Rattle.std.proofs.lemmas.Bool.{and_from, or_cases, not-true, not_from_false, both_ways}
use Rattle.hal_schema.specs.declared.row.Row.{Row}
use Rattle.hal_schema.specs.declared.schema.SegType.{SegType}
use Rattle.hal_schema.specs.declared.schema.IndexDef.{IndexDef}
use Rattle.hal_schema.specs.declared.schema.Schema.{Schema}
use Rattle.hal_schema.specs.Roots.{root_cmp}
use Rattle.hal_schema.specs.Row.{same_name, row_level}
use Rattle.hal_schema.specs.Paths.{path_with, path_after, with_paths, paths_of}
use Rattle.hal_schema.specs.Entry.{Entry, entries_of, entries_by_row, is_taken}
use Rattle.hal_schema.specs.Forest.{all_pairs, names_apart, has_length, is_path, is_selected, keys_apart, entries_differ, is_forest}
use Rattle.hal_schema.specs.Insertion.{new_path, enters_freely}
use Rattle.hal_schema.specs.Facts.{SchemasAreKept}
use Rattle.forest_laws.specs.Keeping.{InsertionKeeps}
use Rattle.forest_laws.proofs.Lists.{all_with, all_both, all_weaker, all_parts, pairs_with}
use Rattle.hal_schema.proofs.RowNames.{name_is, name_from}
use Rattle.forest_laws.proofs.Carried.{with_append, passed_over}
use Rattle.forest_laws.proofs.Parents.{parts_of, forest_from}
use Rattle.forest_laws.proofs.Place.{Placed, placed_of}
use Rattle.forest_laws.proofs.NewRow.{new_parts, new_under, NewPath, new_path_at}
use Rattle.forest_laws.proofs.Order.{Around, types_with, twins_with}
use Rattle.forest_laws.proofs.EntriesByRow.{bytes_turned, pairs_in_order, untaken, entries_append, Adds, adds, own_key, entry_has_key}
use Rattle.forest_laws.proofs.EntriesByRow.Adds.{Nothing, One}

pub none_passes : {X : Type 0} (p : X → Bool) (xs : List X) → is_none (find p xs) ≡ true → list_all (λ x. not (p x)) xs ≡ true
none_passes p [] h = refl
none_passes {X} p (x ∷ xs) h = by (p x) refl h (none_passes p xs)
  where
    by : (b : Bool) → p x ≡ b → is_none (cond b (Some x) (find p xs)) ≡ true → (is_none (find p xs) ≡ true → list_all (λ x. not (p x)) xs ≡ true) → (not (p x) && list_all (λ x. not (p x)) xs) ≡ true
    by true e h rest = cc
    by false e h rest = and_from (not (p x)) (list_all (λ x. not (p x)) xs) (not_from_false (p x) e) (rest h)

apart_back : (a b : Row) → names_apart a b ≡ true → names_apart b a ≡ true
apart_back a b h = by (same_name b.name a.name) refl
  where
    by : (s : Bool) → same_name b.name a.name ≡ s → not s ≡ true
    by true e = absurd (both_ways (same_name a.name b.name) (not-true (same_name a.name b.name) h) (name_from a.name b.name (sym (name_is b.name a.name e))))
    by false e = refl

-- the paths before and after
pub record PathsWith (types : List SegType) (old rows : List Row) (path : List Row) (new : Row) : Type 0 where
  pub front : List (List Row × Row)
  pub back : List (List Row × Row)
  pub before : paths_of types old ≡ front ++ back
  pub after : paths_of types rows ≡ front ++ (path, new) ∷ back

paths_with : (schema : Schema) (rows : List Row) (new : Row) → (place : Placed schema rows new) → NewPath schema rows place.front new → PathsWith schema.types rows (place.front ++ new ∷ place.back) (new_path schema.types rows new) new
paths_with schema rows new place path =
    let level = row_level schema.types in
    let above = path_after level [] place.front in
    let front = with_paths level [] place.front in
    let back = with_paths level above place.back in
    record {
      front = front;
      back = back;
      before = ap (paths_of schema.types) place.split ∙ with_append level [] place.front place.back;
      after = with_append level [] place.front (new ∷ place.back)
          ∙ ap (λ (l : List (List Row × Row)). front ++ (path_with level above new, new) ∷ l) (passed_over level above (new ∷ []) place.back place.next)
          ∙ ap (λ (l : List Row). front ++ (l, new) ∷ back) path.is;
    }

-- an entry that enters freely
free_entry : (types : List SegType) (rows : List Row) (new : Row) (index : IndexDef) (entry : Entry) → (new.code == index.source) ≡ true → entry.key ≡ own_key types index (new_path types rows new) new.content → enters_freely types rows new index ≡ true
    → list_all (λ (e : Entry). not (bytes_eq entry.key e.key)) (entries_by_row types index (paths_of types rows)) ≡ true
free_entry types rows new index entry source key h =
    let own = own_key types index (new_path types rows new) new.content in
    elim (or_cases (not (new.code == index.source)) (not (is_taken own (entries_of types index rows))) h) [
      | inl other ↦ absurd (both_ways (new.code == index.source) (not-true (new.code == index.source) other) source)
      | inr free ↦ subst (λ (k : List ℕ). list_all (λ (e : Entry). not (bytes_eq k e.key)) (entries_by_row types index (paths_of types rows)) ≡ true) (sym key) (untaken own (entries_by_row types index (paths_of types rows)) free)
    ]

index_with : (types : List SegType) (old rows : List Row) (new : Row) (index : IndexDef) → PathsWith types old rows (new_path types old new) new → entries_differ types old index ≡ true → enters_freely types old new index ≡ true → entries_differ types rows index ≡ true
index_with types old rows new index p differ free = by (adds types index (new_path types old new, new))
  where
    raw : entries_by_row types index (paths_of types old) ≡ entries_by_row types index p.front ++ entries_by_row types index p.back
    raw = ap (entries_by_row types index) p.before ∙ entries_append types index p.front p.back

    were : all_pairs keys_apart (entries_by_row types index p.front ++ entries_by_row types index p.back) ≡ true
    were = sym (ap (all_pairs keys_apart) raw) ∙ sym (pairs_in_order (entries_by_row types index (paths_of types old))) ∙ differ

    are : entries_by_row types index (paths_of types rows) ≡ entries_by_row types index p.front ++ entries_by_row types index ((new_path types old new, new) ∷ p.back)
    are = ap (entries_by_row types index) p.after ∙ entries_append types index p.front ((new_path types old new, new) ∷ p.back)

    goal : all_pairs keys_apart (entries_by_row types index p.front ++ entries_by_row types index ((new_path types old new, new) ∷ p.back)) ≡ true → entries_differ types rows index ≡ true
    goal h = pairs_in_order (entries_by_row types index (paths_of types rows)) ∙ ap (all_pairs keys_apart) are ∙ h

    by : Adds types index (new_path types old new, new) → entries_differ types rows index ≡ true
    by (Nothing e) = goal (ap (λ (l : List Entry). all_pairs keys_apart (entries_by_row types index p.front ++ l)) (e p.back) ∙ were)
    by (One entry source is e) =
        let all = all_parts (λ (o : Entry). not (bytes_eq entry.key o.key)) (entries_by_row types index p.front) (entries_by_row types index p.back)
        (sym (ap (list_all (λ (o : Entry). not (bytes_eq entry.key o.key))) raw) ∙ free_entry types old new index entry source (entry_has_key types index (new_path types old new) new entry is) free) in
        goal
        (ap (λ (l : List Entry). all_pairs keys_apart (entries_by_row types index p.front ++ l)) (e p.back)
        ∙ pairs_with keys_apart (entries_by_row types index p.front) (entries_by_row types index p.back) entry were
        (all_weaker (λ (o : Entry). not (bytes_eq entry.key o.key)) (λ o. keys_apart o entry) (λ o h. ap not (bytes_turned o.key entry.key) ∙ h) (entries_by_row types index p.front) all.0) all.1)

pub insertion_kept : SchemasAreKept → ((schema : Schema) → IsTotalOrder (root_cmp schema)) → InsertionKeeps
insertion_kept kept roots schema rows new forest may =
    let types = schema.types in
    let parts = parts_of schema rows forest in
    let is = new_parts schema rows new may in
    let place = placed_of schema rows new in
    let around : Around schema rows new = record { kept = kept schema; roots = roots schema; parts = parts; under = new_under types rows new is.parent; free = is.free; place = place } in
    let path = new_path_at schema rows new (kept schema) parts place is.parent in
    let paths = paths_with schema rows new place path in
    let fresh = none_passes (λ (row : Row). same_name row.name new.name) rows is.fresh in
    let apart = all_parts (λ r. names_apart r new) place.front place.back (subst (λ (l : List Row). list_all (λ r. names_apart r new) l ≡ true) place.split fresh) in
    subst (λ (l : List Row). is_forest schema l ≡ true) (sym place.placed)
    (forest_from schema (place.front ++ new ∷ place.back)
    (record {
      named = pairs_with names_apart place.front place.back new (subst (λ (l : List Row). all_pairs names_apart l ≡ true) place.split parts.named) apart.0
          (all_weaker (λ r. names_apart r new) (names_apart new) (λ r h. apart_back r new h) place.back apart.1);
      long = all_with (has_length types) place.front place.back new (subst (λ (l : List Row). list_all (has_length types) l ≡ true) place.split parts.long) is.long;
      placed = ap (list_all (λ (p : List Row × Row). is_path types None p.0)) paths.after
          ∙ all_with (λ (p : List Row × Row). is_path types None p.0) paths.front paths.back (new_path types rows new, new) (sym (ap (list_all (λ (p : List Row × Row). is_path types None p.0)) paths.before) ∙ parts.placed) path.path;
      types = types_with schema rows new around;
      twins = twins_with schema rows new around;
      selected = all_with (is_selected schema) place.front place.back new (subst (λ (l : List Row). list_all (is_selected schema) l ≡ true) place.split parts.selected) is.selected;
      indexed = all_both (entries_differ types rows) (enters_freely types rows new) (entries_differ types (place.front ++ new ∷ place.back))
          (λ index d f. index_with types rows (place.front ++ new ∷ place.back) new index paths d f) schema.indexes parts.indexed is.indexes;
    }))
