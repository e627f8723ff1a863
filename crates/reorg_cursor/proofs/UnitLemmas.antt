-- Units on the list: what a unit leaves, and that units of any sizes come to one end.
use Rattle.std.proofs.Common.{Option, None, Some, ◌≡◌, ℕ, ◌+◌, ◌≤◌, Bool, true, List, [], ◌++◌, take, drop, length, sym, ap, ◌∙◌, ◌∷◌, fold, refl}
use Rattle.std.specs.Prelude.{filter}
use Rattle.std.specs.List.{list_all}
use Rattle.std.proofs.lemmas.Bool.{not-true, not-false, not_from_true}
use Rattle.std.proofs.lemmas.List.{take-append-drop, drop_all}
use Rattle.std.proofs.lemmas.List.Sums.{fold-append}
use Rattle.std.proofs.Math.Seq.{take-add}
use Rattle.std.proofs.lemmas.List.Concat.{flat_map-append}
use Rattle.std.proofs.lemmas.List.Elements.{filter-append}
use Rattle.hal_base.specs.declared.place.Cursor.{Cursor}
use Rattle.hal_base.specs.declared.place.PartState.{PartState}
use Rattle.hal_schema.specs.declared.row.Row.{Row}
use Rattle.hal_schema.specs.declared.schema.Schema.{Schema}
use Rattle.hal_schema.specs.Forest.{all_pairs}
use Rattle.reorg_cursor.specs.Groups.{is_done, members, grouped, same_group, is_left, roots_at, groups_left, unit_roots, cursor_after, stepped, last_key, cursor_behind}
use Rattle.reorg_cursor.proofs.Grouping.{all_parts, all_weaker, filter_all, filter_none, filter_twice, filter_passes, all_filter, pairs_filter, pairs_front, joined_groups, groups_behind, roots_of, marked_has, marked_done, marked_left}
use Rattle.reorg_cursor.proofs.Marks.{of_kind, done_stays, is_before, has_done, mark_of, key_of, cursor_marks}

-- the records of a unit, and those behind it
abbrev pub others : Schema → ℕ → List Row → Cursor → ℕ → List Row
others schema place rows cursor k = roots_of (drop k (groups_left schema place rows cursor))

abbrev left_of : Schema → ℕ → List Row → Cursor → List Row
left_of schema place rows cursor = filter (is_left schema cursor) (roots_at schema place rows)

parted : (schema : Schema) (place : ℕ) (rows : List Row) (cursor : Cursor) (k : ℕ) → unit_roots schema place rows cursor k ++ others schema place rows cursor k ≡ left_of schema place rows cursor
parted schema place rows cursor k =
    let groups = groups_left schema place rows cursor in
    sym (flat_map-append members (take k groups) (drop k groups)) ∙ ap roots_of (take-append-drop k groups) ∙ joined_groups (same_group schema) (left_of schema place rows cursor)

-- no record of a unit is done before it
pub unit_is_left : (schema : Schema) (place : ℕ) (rows : List Row) (cursor : Cursor) (k : ℕ) → list_all (is_left schema cursor) (unit_roots schema place rows cursor k) ≡ true
unit_is_left schema place rows cursor k =
    (all_parts (is_left schema cursor) (unit_roots schema place rows cursor k) (others schema place rows cursor k)
    (ap (list_all (is_left schema cursor)) (parted schema place rows cursor k) ∙ filter_passes (is_left schema cursor) (roots_at schema place rows))).0

-- what holds of each root of a partition holds of those of a unit
pub unit_among : (schema : Schema) (place : ℕ) (rows : List Row) (cursor : Cursor) (k : ℕ) (p : Row → Bool) → list_all p (roots_at schema place rows) ≡ true → list_all p (unit_roots schema place rows cursor k) ≡ true
unit_among schema place rows cursor k p all =
    (all_parts p (unit_roots schema place rows cursor k) (others schema place rows cursor k)
    (ap (list_all p) (parted schema place rows cursor k) ∙ all_filter p (is_left schema cursor) (roots_at schema place rows) all)).0

-- what is done before a unit is done after it
pub unit_keeps : (schema : Schema) (place : ℕ) (rows : List Row) (cursor : Cursor) (k : ℕ) (key : List ℕ) → of_kind schema cursor ≡ true → is_done schema cursor key ≡ true
    → is_done schema (cursor_after schema cursor (unit_roots schema place rows cursor k)) key ≡ true
unit_keeps schema place rows cursor k key kind done =
    marked_has (mark_of schema) (λ c. is_done schema c key) cursor (unit_roots schema place rows cursor k) done
    (all_weaker (is_left schema cursor) (λ root. is_done schema (mark_of schema root) key)
    (λ root left. done_stays schema cursor key (key_of schema root) kind done (not-true (has_done schema cursor root) left))
    (unit_roots schema place rows cursor k) (unit_is_left schema place rows cursor k))

-- what a unit leaves is just the records of the other groups
pub unit_leaves : (schema : Schema) (place : ℕ) (rows : List Row) (cursor : Cursor) (k : ℕ) → of_kind schema cursor ≡ true → all_pairs (is_before schema) (roots_at schema place rows) ≡ true
    → left_of schema place rows (cursor_after schema cursor (unit_roots schema place rows cursor k)) ≡ others schema place rows cursor k
unit_leaves schema place rows cursor k kind order =
    let roots = roots_at schema place rows in
    let unit = unit_roots schema place rows cursor k in
    let rest = others schema place rows cursor k in
    let after = cursor_after schema cursor unit in
    let left_order = pairs_filter (is_before schema) (is_left schema cursor) roots order in
    let unit_order = pairs_front (is_before schema) unit rest (ap (all_pairs (is_before schema)) (parted schema place rows cursor k) ∙ left_order) in
    let once = filter_twice (is_left schema after) (is_left schema cursor)
    (λ root done. not_from_true (has_done schema after root) (unit_keeps schema place rows cursor k (key_of schema root) kind (not-false (has_done schema cursor root) done))) roots in
    let split = ap (filter (is_left schema after)) (sym (parted schema place rows cursor k)) ∙ filter-append (is_left schema after) unit rest in
    let front = filter_none (is_left schema after) (has_done schema after) (λ root done. not_from_true (has_done schema after root) done) unit
    (marked_done (has_done schema) (mark_of schema) (same_group schema) (is_before schema) (cursor_marks schema) cursor unit unit_order) in
    let back = filter_all (is_left schema after) rest
    (marked_left (has_done schema) (mark_of schema) (same_group schema) (is_before schema) (cursor_marks schema) k cursor (left_of schema place rows cursor) left_order
    (λ z. filter_passes (is_left schema cursor) roots)) in
    once ∙ split ∙ ap (λ l. l ++ filter (is_left schema after) rest) front ∙ back

-- and so the groups left are the other groups
pub groups_after : (schema : Schema) (place : ℕ) (rows : List Row) (cursor : Cursor) (k : ℕ) → of_kind schema cursor ≡ true → all_pairs (is_before schema) (roots_at schema place rows) ≡ true
    → groups_left schema place rows (cursor_after schema cursor (unit_roots schema place rows cursor k)) ≡ drop k (groups_left schema place rows cursor)
groups_after schema place rows cursor k kind order =
    ap (grouped (same_group schema)) (unit_leaves schema place rows cursor k kind order) ∙ groups_behind (same_group schema) k (left_of schema place rows cursor)

-- a unit, and then another, are one
pub units_join : (schema : Schema) (place : ℕ) (rows : List Row) (s : PartState) (j k : ℕ) → of_kind schema s.cursor ≡ true → all_pairs (is_before schema) (roots_at schema place rows) ≡ true
    → stepped schema place rows j (stepped schema place rows k s) ≡ stepped schema place rows (k + j) s
units_join schema place rows s j k kind order =
    let groups = groups_left schema place rows s.cursor in
    let unit = unit_roots schema place rows s.cursor k in
    let next = ap (λ gs. roots_of (take j gs)) (groups_after schema place rows s.cursor k kind order) in
    let whole = sym (flat_map-append members (take k groups) (take j (drop k groups))) ∙ ap roots_of (sym (take-add k j groups)) in
    let there = ap (cursor_after schema (cursor_after schema s.cursor unit)) next
    ∙ sym (fold-append (λ before root. mark_of schema root) s.cursor unit (roots_of (take j (drop k groups)))) ∙ ap (cursor_after schema s.cursor) whole in
    ap (λ c. record s { cursor = c }) there

-- where a unit is large enough, no group is left
pub none_after : (schema : Schema) (place : ℕ) (rows : List Row) (cursor : Cursor) (k : ℕ) → of_kind schema cursor ≡ true → all_pairs (is_before schema) (roots_at schema place rows) ≡ true
    → length (groups_left schema place rows cursor) ≤ k → groups_left schema place rows (cursor_after schema cursor (unit_roots schema place rows cursor k)) ≡ []
none_after schema place rows cursor k kind order enough = groups_after schema place rows cursor k kind order ∙ drop_all k (groups_left schema place rows cursor) enough

behind_along : (schema : Schema) (first cursor : Cursor) (last : Option (List ℕ)) → cursor ≡ cursor_behind schema first last → (roots : List Row)
    → cursor_after schema cursor roots ≡ cursor_behind schema first (fold (λ before root. Some (key_of schema root)) last roots)
behind_along schema first cursor last e [] = e
behind_along schema first cursor last e (root ∷ roots) = behind_along schema first (mark_of schema root) (Some (key_of schema root)) refl roots

-- the cursor behind records is that behind their last one
pub behind_last : (schema : Schema) (cursor : Cursor) (roots : List Row) → cursor_after schema cursor roots ≡ cursor_behind schema cursor (last_key schema roots)
behind_last schema cursor roots = behind_along schema cursor cursor None refl roots
