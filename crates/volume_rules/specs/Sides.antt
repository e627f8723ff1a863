-- The rules 4 and 7 of a partition, beside its view, and what an event owes so that the rules 4, 5 and 7 are kept. That
-- twins and children lead along these rows is the walk's.
use Rattle.std.specs.Prelude.{◌≡◌, ℕ, ◌==◌, Bool, true, false, not, ◌&&◌, ◌||◌, if◌then◌else◌, List, [], ◌∷◌, Option, None, Some}
use Rattle.std.specs.Int.{w32, to_be_bytes}
use Rattle.std.specs.List.{list_all, list_any}
use Rattle.std.specs.Option.{option_map_or}
use Rattle.std.specs.Str.{bytes_eq}
use Rattle.hal_schema.specs.declared.row.Row.{Row}
use Rattle.hal_schema.specs.declared.schema.Schema.{Schema}
use Rattle.hal_schema.specs.declared.schema.SegType.{SegType}
use Rattle.hal_schema.specs.Forest.{all_pairs, in_twin_order}
use Rattle.hal_schema.specs.Roots.{anchor_of, partition_of}
use Rattle.hal_schema.specs.Row.{same_name, same_parent, row_key}
use Rattle.volume_rules.specs.View.{Home, Homed, Segment, View, Stands, segment_key}
use Rattle.volume_rules.specs.Delta.{Fate, Stays, Dropped, Rewritten, Fresh, Moved, Left, Delta, after}
use Rattle.volume_rules.specs.Volume.{is_segment_of}

-- ---- rule 4: the root sets

-- of each generation, under a row's key the address of a root
abbrev pub RootSet : Type 0
RootSet = ℕ → List ℕ → Option ℕ

-- the key of a root's row: its own (PHIDAM), or its anchor's number in four bytes (PHDAM)
abbrev pub root_row_key : Schema → View → Segment → List ℕ
root_row_key schema view s =
    if schema.phdam then to_be_bytes w32 (anchor_of view.part.anchors (segment_key schema.types s)) else segment_key schema.types s

abbrev pub is_root_under : Schema → View → List ℕ → Segment → Bool
is_root_under schema view key s = not s.copied && s.code == 1 && bytes_eq (root_row_key schema view s) key

abbrev pub leads_to_root : Schema → View → ℕ → List ℕ → ℕ → Bool
leads_to_root schema view number key addr = option_map_or (is_root_under schema view key) (view.segments (record { number = number; addr = addr })) false

-- each row leads to a root that isn't copied, of its key; in PHIDAM each such root has its row
pub record KeepsRule4 (schema : Schema) (view : View) (roots : RootSet) : Type 0 where
  pub lead : (number : ℕ) (key : List ℕ) (addr : ℕ) → roots number key ≡ Some addr → leads_to_root schema view number key addr ≡ true
  pub each : schema.phdam ≡ false → (home : Home) (s : Segment) → Stands view home s → s.code ≡ 1
      → roots home.number (root_row_key schema view s) ≡ Some home.addr

-- what becomes of a row of a root set
pub data Rooting : Type 0 where
  Rests Unroots : Rooting
  Roots : ℕ → Rooting

abbrev pub rooted_after : Option ℕ → Rooting → Option ℕ
rooted_after root Rests = root
rooted_after root Unroots = None
rooted_after root (Roots addr) = Some addr

abbrev pub roots_after : RootSet → (ℕ → List ℕ → Rooting) → RootSet
roots_after roots rooting = λ number key. rooted_after (roots number key) (rooting number key)

abbrev pub is_untouched : Fate → Bool
is_untouched Stays = true
is_untouched (Rewritten content) = true
is_untouched _ = false

-- a row that rests leads to a segment that stays; a new one leads to a root of its key
abbrev pub OwesRooting : Schema → View → Delta → RootSet → ℕ → List ℕ → Rooting → Type 0
OwesRooting schema view d roots number key Rests =
    (addr : ℕ) → roots number key ≡ Some addr → is_untouched (d.fate (record { number = number; addr = addr })) ≡ true
OwesRooting schema view d roots number key Unroots = Unit {0}
OwesRooting schema view d roots number key (Roots addr) = leads_to_root schema (after view d) number key addr ≡ true

-- in PHIDAM the row of a root that stays rests, and one that comes to a home gets a row
abbrev pub OwesRoot : Schema → View → (ℕ → List ℕ → Rooting) → Home → Fate → Type 0
OwesRoot schema view rooting home Stays = (s : Segment) → Stands view home s → s.code ≡ 1 → rooting home.number (root_row_key schema view s) ≡ Rests
OwesRoot schema view rooting home Dropped = Unit {0}
OwesRoot schema view rooting home (Rewritten content) =
    (s : Segment) → Stands view home s → s.code ≡ 1 → rooting home.number (root_row_key schema view s) ≡ Rests
OwesRoot schema view rooting home (Fresh s) = s.code ≡ 1 → rooting home.number (root_row_key schema view s) ≡ Roots home.addr
OwesRoot schema view rooting home (Moved from) =
    (s : Segment) → Stands view from s → s.code ≡ 1 → rooting home.number (root_row_key schema view s) ≡ Roots home.addr
OwesRoot schema view rooting home (Left to) = Unit {0}

pub record RootsFollow (schema : Schema) (view : View) (d : Delta) (roots : RootSet) (rooting : ℕ → List ℕ → Rooting) : Type 0 where
  pub rows : (number : ℕ) (key : List ℕ) → OwesRooting schema view d roots number key (rooting number key)
  pub homes : schema.phdam ≡ false → (home : Home) → OwesRoot schema view rooting home (d.fate home)

-- ---- rule 5: the rows are the segments

abbrev pub is_alike : Row → Row → Bool
is_alike a b = a.code == b.code && same_name a.name b.name && bytes_eq a.content b.content

abbrev pub is_listed : List Homed → ℕ → Row → Bool
is_listed rows addr row = list_any (λ r. r.addr == addr && is_alike r.row row) rows

abbrev pub is_met : List Homed → ℕ → Bool
is_met rows addr = list_any (λ r. r.addr == addr) rows

-- a row after the event was one before it, at its own home, with other content or at the home that was left; or it is new
abbrev pub row_follows : View → ℕ → Homed → Fate → Bool
row_follows view number r Stays = is_listed (view.rows number) r.addr r.row
row_follows view number r Dropped = false
row_follows view number r (Rewritten content) = is_met (view.rows number) r.addr && bytes_eq content r.row.content
    && list_any (λ o. o.addr == r.addr && o.row.code == r.row.code && same_name o.row.name r.row.name) (view.rows number)
row_follows view number r (Fresh s) = is_segment_of r.row s
row_follows view number r (Moved from) = is_listed (view.rows from.number) from.addr r.row
row_follows view number r (Left to) = false

-- a home that was met is met still where its segment stays, and one to which a segment comes is met
abbrev pub OwesMeeting : View → Delta → Home → Fate → Type 0
OwesMeeting view d home Stays = is_met (view.rows home.number) home.addr ≡ true → is_met (d.rows home.number) home.addr ≡ true
OwesMeeting view d home Dropped = Unit {0}
OwesMeeting view d home (Rewritten content) = is_met (view.rows home.number) home.addr ≡ true → is_met (d.rows home.number) home.addr ≡ true
OwesMeeting view d home (Fresh s) = is_met (d.rows home.number) home.addr ≡ true
OwesMeeting view d home (Moved from) = is_met (d.rows home.number) home.addr ≡ true
OwesMeeting view d home (Left to) = Unit {0}

pub record RowsFollow (view : View) (d : Delta) : Type 0 where
  pub each : (number : ℕ) → list_all (λ r. row_follows view number r (d.fate (record { number = number; addr = r.addr }))) (d.rows number) ≡ true
  pub met : (home : Home) → OwesMeeting view d home (d.fate home)
  pub once : (number : ℕ) → all_pairs (λ a b. not (a.addr == b.addr)) (d.rows number) ≡ true

-- ---- rule 7: order

abbrev pub belongs_to : Schema → ℕ → Segment → Bool
belongs_to schema place s = option_map_or (λ p. p == place) (partition_of schema (segment_key schema.types s)) false

-- the roots that aren't copied belong to the partition at this place, and twins stand in order on each side
pub record KeepsRule7 (schema : Schema) (place : ℕ) (view : View) : Type 0 where
  pub belong : (home : Home) (s : Segment) → Stands view home s → s.code ≡ 1 → belongs_to schema place s ≡ true
  pub twins : (number : ℕ) → all_pairs (λ a b. in_twin_order schema a.row b.row) (view.rows number) ≡ true

abbrev pub OwesBelonging : Schema → ℕ → Fate → Type 0
OwesBelonging schema place (Fresh s) = s.code ≡ 1 → belongs_to schema place s ≡ true
OwesBelonging schema place _ = Unit {0}

-- some two of the list, the one that stands first as the first, pass the test
abbrev pub any_pair : {X : Type 0} → (X → X → Bool) → List X → Bool
any_pair test [] = false
any_pair test (x ∷ xs) = list_any (test x) xs || any_pair test xs

-- of one type and parent, with one key
abbrev pub is_twin_like : List SegType → Row → Row → Bool
is_twin_like types a b = a.code == b.code && same_parent a.parent b.parent && bytes_eq (row_key types a) (row_key types b)

abbrev pub stood_so : List SegType → List Homed → Homed → Homed → Bool
stood_so types rows a b = any_pair (λ x y. is_twin_like types x.row a.row && is_twin_like types y.row b.row) rows

-- each two rows of a side stood so before, on that side or in the input, or are in order
abbrev pub are_in_order : Schema → View → ℕ → List Homed → Bool
are_in_order schema view number rows =
    all_pairs
    (λ a b. stood_so schema.types (view.rows number) a b || stood_so schema.types (view.rows view.state.number) a b || in_twin_order schema a.row b.row)
    rows

pub record OrderFollows (schema : Schema) (place : ℕ) (view : View) (d : Delta) : Type 0 where
  pub fates : (home : Home) → OwesBelonging schema place (d.fate home)
  pub order : (number : ℕ) → are_in_order schema view number (d.rows number) ≡ true
