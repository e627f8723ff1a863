-- The groups in which an online reorganization copies the records of a partition, and its cursor. A group is one record
-- (PHIDAM), or the records of one root anchor that has any (PHDAM). IMS: unit of reorganization; cursor of an integrated
-- HALDB online reorganization.
use Rattle.std.specs.Prelude.{ℕ, ◌+◌, ◌*◌, ◌==◌, nat_lt, Bool, false, not, ◌&&◌, if◌then◌else◌, List, [], ◌∷◌, Option, None, Some}
use Rattle.std.specs.Prelude.{length, take, filter, fold, flat_map, count_by}
use Rattle.std.specs.List.{list_any, slice_get}
use Rattle.std.specs.Option.{option_map_or}
use Rattle.std.specs.Ordering.{is_le}
use Rattle.hal_base.specs.declared.place.Cursor.{Cursor}
use Rattle.hal_base.specs.declared.place.Cursor.TheVariants.{Front, At, Anchors}
use Rattle.hal_base.specs.declared.place.PartState.{PartState}
use Rattle.hal_schema.specs.declared.row.Row.{Row}
use Rattle.hal_schema.specs.declared.schema.Schema.{Schema}
use Rattle.hal_schema.specs.Forest.{is_child_of}
use Rattle.hal_schema.specs.Keys.{key_cmp}
use Rattle.hal_schema.specs.Roots.{partition_of, anchor_place}
use Rattle.hal_schema.specs.Row.{row_key}
use Rattle.hal_schema.specs.Span.{span_of}
use Rattle.reorg_cursor.specs.State.{ended}

-- a root whose key belongs to the partition at this place
abbrev pub is_root_at : Schema → ℕ → Row → Bool
is_root_at schema place row = is_child_of schema.types None row && option_map_or (λ p. p == place) (partition_of schema (row_key schema.types row)) false

-- the roots of a partition, in hierarchic sequence
abbrev pub roots_at : Schema → ℕ → List Row → List Row
roots_at schema place rows = filter (is_root_at schema place) rows

-- whether the record of this root key is at or before the cursor: it stands in the output then, else in the input
abbrev pub is_done : Schema → Cursor → List ℕ → Bool
is_done schema Front key = false
is_done schema (At last) key = is_le (key_cmp key last)
is_done schema (Anchors done) key = nat_lt (anchor_place schema key) done

-- the cursor once the record of this root key is copied: the key (PHIDAM), or that its anchor is done (PHDAM)
abbrev pub cursor_at : Schema → List ℕ → Cursor
cursor_at schema key = if schema.phdam then Anchors (anchor_place schema key + 1) else At key

-- the cursor once these records are copied; where there are none it stays
abbrev pub cursor_after : Schema → Cursor → List Row → Cursor
cursor_after schema cursor roots = fold (λ before root. cursor_at schema (row_key schema.types root)) cursor roots

-- the same of the key of their last root, if there is one
abbrev pub last_key : Schema → List Row → Option (List ℕ)
last_key schema roots = fold (λ before root. Some (row_key schema.types root)) None roots

abbrev pub cursor_behind : Schema → Cursor → Option (List ℕ) → Cursor
cursor_behind schema cursor None = cursor
cursor_behind schema cursor (Some key) = cursor_at schema key

-- one record or more, of which the first is named
pub record Group (X : Type 0) : Type 0 where
  pub first : X
  pub more : List X

abbrev pub members : {X : Type 0} → Group X → List X
members group = group.first ∷ group.more

-- a record before groups: it joins the first of these where that is of its kind, else it is a group of its own
abbrev pub with_record : {X : Type 0} → (X → X → Bool) → X → List (Group X) → List (Group X)
with_record same x [] = record { first = x; more = [] } ∷ []
with_record same x (group ∷ groups) =
    if same x group.first then record { first = x; more = members group } ∷ groups else record { first = x; more = [] } ∷ group ∷ groups

abbrev pub grouped : {X : Type 0} → (X → X → Bool) → List X → List (Group X)
grouped same [] = []
grouped same (x ∷ xs) = with_record same x (grouped same xs)

-- records of one group are those of one anchor (PHDAM)
abbrev pub same_group : Schema → Row → Row → Bool
same_group schema a b = schema.phdam && anchor_place schema (row_key schema.types a) == anchor_place schema (row_key schema.types b)

abbrev pub is_left : Schema → Cursor → Row → Bool
is_left schema cursor root = not (is_done schema cursor (row_key schema.types root))

-- the groups left: of the records behind the cursor
abbrev pub groups_left : Schema → ℕ → List Row → Cursor → List (Group Row)
groups_left schema place rows cursor = grouped (same_group schema) (filter (is_left schema cursor) (roots_at schema place rows))

-- the records of the next k groups, or of all groups where fewer are left
abbrev pub unit_roots : Schema → ℕ → List Row → Cursor → ℕ → List Row
unit_roots schema place rows cursor k = flat_map members (take k (groups_left schema place rows cursor))

-- a unit of at most k groups moves the cursor, and nothing else of its partition's state
abbrev pub stepped : Schema → ℕ → List Row → ℕ → PartState → PartState
stepped schema place rows k s = record s { cursor = cursor_after schema s.cursor (unit_roots schema place rows s.cursor k) }

-- the segments of these records: each root with all that is below it
abbrev pub segments_of : Schema → List Row → List Row → List Row
segments_of schema rows roots = flat_map (λ root. span_of schema.types rows root.name) roots

-- whether a segment's type is the target of an index, so that its move is entered in the indirect list
abbrev pub is_target : Schema → Row → Bool
is_target schema row = list_any (λ index. index.target == row.code) schema.indexes

-- how many blocks may stand for one: two where the partition leaves blocks empty (FRSPC)
abbrev pub block_factor : Schema → ℕ → ℕ
block_factor schema place = option_map_or (λ part. if part.fbff == 0 then 1 else 2) (slice_get schema.parts place) 1

-- how many free blocks a unit reserves: for each segment, for each index target among these, and for each root
abbrev pub records_need : Schema → ℕ → List Row → List Row → ℕ
records_need schema place segments roots = block_factor schema place * length segments + count_by (is_target schema) segments + length roots

abbrev pub unit_need : Schema → ℕ → List Row → Cursor → ℕ → ℕ
unit_need schema place rows cursor k =
    let roots = unit_roots schema place rows cursor k in
    records_need schema place (segments_of schema rows roots) roots

-- whether no group is left
abbrev pub are_all_done : Schema → ℕ → List Row → Cursor → Bool
are_all_done schema place rows cursor = length (groups_left schema place rows cursor) == 0

-- how many groups a unit of FINISH takes
abbrev pub finish_groups : ℕ
finish_groups = 16

-- FINISH takes units while groups are left, and then switches
abbrev pub finished : Schema → ℕ → List Row → PartState → PartState
finished schema place rows s = if are_all_done schema place rows s.cursor then ended s else stepped schema place rows finish_groups s
