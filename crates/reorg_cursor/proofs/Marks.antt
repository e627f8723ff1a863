-- The cursor as a mark behind records.
use Rattle.std.proofs.Common.{◌≡◌, ℕ, ◌+◌, ◌<◌, ◌≤◌, ◌==◌, nat_lt, Bool, true, false, not, cond, ◌&&◌, List, ◌⊎◌, inl, inr, refl, sym, ap, ◌∙◌, arith}
use Rattle.std.specs.declared.cmp.Ordering.{Ordering}
use Rattle.std.specs.declared.cmp.Ordering.TheVariants.{Less, Equal, Greater}
use Rattle.std.specs.Ordering.{nat_cmp, ordering_then, ordering_reverse, is_lt, is_le}
use Rattle.std.proofs.lemmas.Bool.{true≢false, not-true, lt-ltb, le-ltb, ltb-true, ltb-false, eqb-true, eqb-false, cond-false}
use Rattle.std.proofs.lemmas.Cmp.{nat_list_cmp_total, tied_itself}
use Rattle.hal_base.specs.declared.place.Cursor.{Cursor}
use Rattle.hal_base.specs.declared.place.Cursor.TheVariants.{Front, At, Anchors}
use Rattle.hal_schema.specs.declared.row.Row.{Row}
use Rattle.hal_schema.specs.declared.schema.Schema.{Schema}
use Rattle.hal_schema.specs.Keys.{key_cmp}
use Rattle.hal_schema.specs.Roots.{anchor_place}
use Rattle.hal_schema.specs.Row.{row_key}
use Rattle.reorg_cursor.specs.Groups.{is_done, cursor_at, same_group}
use Rattle.reorg_cursor.proofs.Grouping.{Marking}

-- ---- orders

less_is : (o : Ordering) → is_lt o ≡ true → o ≡ Less
less_is Less h = refl
less_is Equal h = cc
less_is Greater h = cc

more_is : (o : Ordering) → is_le o ≡ false → o ≡ Greater
more_is Less h = cc
more_is Equal h = cc
more_is Greater h = refl

-- how two roots of one partition compare: by their anchors, and then by their keys
abbrev pub group_cmp : Schema → List ℕ → List ℕ → Ordering
group_cmp schema a b = ordering_then (nat_cmp (anchor_place schema a) (anchor_place schema b)) (key_cmp a b)

-- what it says: anchors rise, or are the same and keys rise
then_less : (m n : ℕ) (o : Ordering) → ordering_then (nat_cmp m n) o ≡ Less → (m < n) ⊎ ((m ≡ n) × (o ≡ Less))
then_less m n o h = by (nat_lt m n) (m == n) refl refl h
  where
    by : (l e : Bool) → nat_lt m n ≡ l → (m == n) ≡ e → ordering_then (cond l Less (cond e Equal Greater)) o ≡ Less → (m < n) ⊎ ((m ≡ n) × (o ≡ Less))
    by true e f g h = inl (ltb-true m n f)
    by false true f g h = inr (eqb-true m n g, h)
    by false false f g h = absurd (greater h)
      where
        greater : Greater ≡ Less → ⊥
        greater e = cc

-- keys in a PHIDAM partition have no anchors
no_anchor : (schema : Schema) (key : List ℕ) → schema.phdam ≡ false → anchor_place schema key ≡ 0
no_anchor schema key e = cond-false schema.phdam _ 0 e

by_anchor : (schema : Schema) (a b : List ℕ) → group_cmp schema a b ≡ Less → anchor_place schema a ≤ anchor_place schema b
by_anchor schema a b h =
    elim (then_less (anchor_place schema a) (anchor_place schema b) (key_cmp a b) h) [
      | inl less ↦ omega arith
      | inr same ↦ let e = same.0 in omega arith
    ]

by_key : (schema : Schema) (a b : List ℕ) → schema.phdam ≡ false → group_cmp schema a b ≡ Less → key_cmp a b ≡ Less
by_key schema a b e h =
    let ea = no_anchor schema a e in
    let eb = no_anchor schema b e in
    elim (then_less (anchor_place schema a) (anchor_place schema b) (key_cmp a b) h) [
      | inl less ↦ absurd (omega arith)
      | inr same ↦ same.1
    ]

le_from : (a b : List ℕ) → key_cmp a b ≡ Less → is_le (key_cmp a b) ≡ true
le_from a b h = ap is_le h

-- what is less the other way round is greater
turned : (a b : List ℕ) → key_cmp a b ≡ Less → key_cmp b a ≡ Greater
turned a b h = nat_list_cmp_total.antisymm b a ∙ ap ordering_reverse h

turned_back : (a b : List ℕ) → key_cmp a b ≡ Greater → key_cmp b a ≡ Less
turned_back a b h = nat_list_cmp_total.antisymm b a ∙ ap ordering_reverse h

-- a key behind one that is behind another
greater_then : (a b c : List ℕ) → key_cmp a c ≡ Greater → key_cmp a b ≡ Less → key_cmp b c ≡ Greater
greater_then a b c g l = turned c b (nat_list_cmp_total.trans c a b (turned_back a c g) l)

-- what is at or before a key is before what is behind it
at_most_then : (a b c : List ℕ) → is_le (key_cmp a c) ≡ true → key_cmp b c ≡ Greater → key_cmp a b ≡ Less
at_most_then a b c h g = by (key_cmp a c) refl h
  where
    above : key_cmp c b ≡ Less
    above = turned_back b c g

    by : (o : Ordering) → key_cmp a c ≡ o → is_le o ≡ true → key_cmp a b ≡ Less
    by Less e h = nat_list_cmp_total.trans a c b e above
    by Equal e h = nat_list_cmp_total.congr a c b e ∙ above
    by Greater e h = absurd (true≢false (sym h))

-- ---- the cursor

-- a cursor of the kind that the partitions have: a key for PHIDAM, anchors for PHDAM
abbrev pub of_kind : Schema → Cursor → Bool
of_kind schema Front = true
of_kind schema (At key) = not schema.phdam
of_kind schema (Anchors done) = schema.phdam

pub own_done : (schema : Schema) (key : List ℕ) → is_done schema (cursor_at schema key) key ≡ true
own_done schema key = by schema.phdam
  where
    by : (b : Bool) → is_done schema (cond b (Anchors (anchor_place schema key + 1)) (At key)) key ≡ true
    by true = lt-ltb (anchor_place schema key) (anchor_place schema key + 1) (omega arith)
    by false = ap is_le (tied_itself nat_list_cmp_total key)

pub earlier_done : (schema : Schema) (a b : List ℕ) → group_cmp schema a b ≡ Less → is_done schema (cursor_at schema b) a ≡ true
earlier_done schema a b h = by schema.phdam refl
  where
    by : (p : Bool) → schema.phdam ≡ p → is_done schema (cond p (Anchors (anchor_place schema b + 1)) (At b)) a ≡ true
    by true e = let le = by_anchor schema a b h in lt-ltb (anchor_place schema a) (anchor_place schema b + 1) (omega arith)
    by false e = le_from a b (by_key schema a b e h)

pub apart_left : (schema : Schema) (a b : List ℕ) → group_cmp schema a b ≡ Less → (schema.phdam && anchor_place schema a == anchor_place schema b) ≡ false → is_done schema (cursor_at schema a) b ≡ false
apart_left schema a b h apart = by schema.phdam refl apart
  where
    by : (p : Bool) → schema.phdam ≡ p → (p && anchor_place schema a == anchor_place schema b) ≡ false → is_done schema (cond p (Anchors (anchor_place schema a + 1)) (At a)) b ≡ false
    by true e other =
        let le = by_anchor schema a b h in
        let ne = eqb-false (anchor_place schema a) (anchor_place schema b) other in
        le-ltb (anchor_place schema b) (anchor_place schema a + 1) (omega arith)
    by false e other = ap is_le (turned a b (by_key schema a b e h))

-- what is behind a record that isn't done isn't done
pub behind_left : (schema : Schema) (cursor : Cursor) (a b : List ℕ) → of_kind schema cursor ≡ true → group_cmp schema a b ≡ Less → is_done schema cursor a ≡ false → is_done schema cursor b ≡ false
behind_left schema Front a b kind h left = refl
behind_left schema (At last) a b kind h left = ap is_le (greater_then a b last (more_is (key_cmp a last) left) (by_key schema a b (not-true schema.phdam kind) h))
behind_left schema (Anchors done) a b kind h left =
    let le = by_anchor schema a b h in
    let ge = ltb-false (anchor_place schema a) done left in
    le-ltb (anchor_place schema b) done (omega arith)

pub kind_at : (schema : Schema) (key : List ℕ) → of_kind schema (cursor_at schema key) ≡ true
kind_at schema key = by schema.phdam refl
  where
    by : (p : Bool) → schema.phdam ≡ p → of_kind schema (cond p (Anchors (anchor_place schema key + 1)) (At key)) ≡ true
    by true e = e
    by false e = ap not e

-- what is done is done once a record behind the cursor is
pub done_stays : (schema : Schema) (cursor : Cursor) (key root : List ℕ) → of_kind schema cursor ≡ true → is_done schema cursor key ≡ true → is_done schema cursor root ≡ false → is_done schema (cursor_at schema root) key ≡ true
done_stays schema Front key root kind done left = absurd (true≢false (sym done))
done_stays schema (At last) key root kind done left = by schema.phdam (not-true schema.phdam kind)
  where
    by : (p : Bool) → p ≡ false → is_done schema (cond p (Anchors (anchor_place schema root + 1)) (At root)) key ≡ true
    by true e = absurd (true≢false e)
    by false e = le_from key root (at_most_then key root last done (more_is (key_cmp root last) left))
done_stays schema (Anchors many) key root kind done left = by schema.phdam kind
  where
    by : (p : Bool) → p ≡ true → is_done schema (cond p (Anchors (anchor_place schema root + 1)) (At root)) key ≡ true
    by true e =
        let lt = ltb-true (anchor_place schema key) many done in
        let ge = ltb-false (anchor_place schema root) many left in
        lt-ltb (anchor_place schema key) (anchor_place schema root + 1) (omega arith)
    by false e = absurd (true≢false (sym e))

-- ---- records

abbrev pub key_of : Schema → Row → List ℕ
key_of schema row = row_key schema.types row

abbrev pub is_before : Schema → Row → Row → Bool
is_before schema a b = is_lt (group_cmp schema (key_of schema a) (key_of schema b))

abbrev pub has_done : Schema → Cursor → Row → Bool
has_done schema cursor row = is_done schema cursor (key_of schema row)

abbrev pub mark_of : Schema → Row → Cursor
mark_of schema row = cursor_at schema (key_of schema row)

pub cursor_marks : (schema : Schema) → Marking (has_done schema) (mark_of schema) (same_group schema) (is_before schema)
cursor_marks schema = record {
  own = λ x. own_done schema (key_of schema x);
  earlier = λ x y h. earlier_done schema (key_of schema x) (key_of schema y) (less_is (group_cmp schema (key_of schema x) (key_of schema y)) h);
  apart = λ x y h e. apart_left schema (key_of schema x) (key_of schema y) (less_is (group_cmp schema (key_of schema x) (key_of schema y)) h) e;
  onward = λ x y z h e. behind_left schema (mark_of schema x) (key_of schema y) (key_of schema z) (kind_at schema (key_of schema x)) (less_is (group_cmp schema (key_of schema y) (key_of schema z)) h) e;
}
