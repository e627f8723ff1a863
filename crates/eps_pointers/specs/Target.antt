-- Where an extended pointer leads while its partition is reorganized. IMS: an online reorganization copies the records of
-- a partition from its input data sets to its output data sets; a pointer whose reorganization number (IMS: in the EPS) is
-- not that of the data sets where its target's record stands leads by the indirect list (IMS: ILE).
use Rattle.std.specs.Prelude.{ℕ, ◌+◌, ◌<◌, ◌==◌, Bool, false, not, ◌&&◌, if◌then◌else◌, nat_lt, List, Option, Some}
use Rattle.std.specs.Option.{option_map}
use Rattle.std.specs.Ordering.{is_le}
use Rattle.hal_base.specs.declared.place.Cursor.{Cursor}
use Rattle.hal_base.specs.declared.place.Cursor.TheVariants.{Front, At, Anchors}
use Rattle.hal_base.specs.declared.place.PartState.{PartState}
use Rattle.hal_schema.specs.declared.schema.PartDef.{PartDef}
use Rattle.hal_schema.specs.Keys.{key_cmp}
use Rattle.hal_schema.specs.Roots.{anchor_of}
use Rattle.eps_pointers.specs.declared.pointer.Eps.{Eps}
use Rattle.eps_pointers.specs.declared.pointer.Ile.{Ile}

-- a partition that isn't idle (`I`, 73) is being reorganized
abbrev pub is_moving : PartState → Bool
is_moving s = not (s.state == 73)

-- a root key is at or before a cursor, in a partition of so many anchors
abbrev pub has_passed : ℕ → Cursor → List ℕ → Bool
has_passed anchors Front key = false
has_passed anchors (At last) key = is_le (key_cmp key last)
has_passed anchors (Anchors done) key = nat_lt (anchor_of anchors key) done

-- the generation in which the record of a root key stands: the partition's number, and where the partition is being
-- reorganized and the key is at or before the cursor the next one
abbrev pub generation_of : PartDef → PartState → List ℕ → ℕ
generation_of part s key = if is_moving s && has_passed part.anchors s.cursor key then s.number + 1 else s.number

-- a partition whose cursor counts anchors has some
abbrev pub HasAnchors : ℕ → Cursor → Type 0
HasAnchors anchors Front = Unit {0}
HasAnchors anchors (At last) = Unit {0}
HasAnchors anchors (Anchors done) = 0 < anchors

-- the address of a pointer's target in a generation: its own where its number is that generation, else the one that the
-- indirect list has for the target's name and type
abbrev pub target_of : ℕ → Eps → Option Ile → Option ℕ
target_of now eps listed = if eps.number == now then Some eps.addr else option_map (λ ile. ile.addr) listed
