-- A partition without pages: which segment stands at which home, what the indirect list says, and how the partition
-- stands. No rule of a sound volume above the third names a page, so all of them speak of this.
use Rattle.std.specs.Prelude.{◌≡◌, ℕ, ◌+◌, ◌==◌, Bool, false, not, ◌&&◌, ◌||◌, if◌then◌else◌, nat_lt, List, Option, None, Some}
use Rattle.std.specs.Option.{option_map}
use Rattle.std.specs.Ordering.{is_le}
use Rattle.hal_base.specs.declared.place.Cursor.{Cursor}
use Rattle.hal_base.specs.declared.place.Cursor.TheVariants.{Front, At, Anchors}
use Rattle.hal_base.specs.declared.place.Ilk.{Ilk}
use Rattle.hal_base.specs.declared.place.PartState.{PartState}
use Rattle.hal_schema.specs.declared.row.Row.{Row}
use Rattle.hal_schema.specs.declared.schema.PartDef.{PartDef}
use Rattle.hal_schema.specs.declared.schema.SegType.{SegType}
use Rattle.hal_schema.specs.Keys.{key_cmp}
use Rattle.hal_schema.specs.Roots.{anchor_of}
use Rattle.hal_schema.specs.Row.{row_key}

-- where a cell of a partition stands: the reorganization number of its block (its generation), and its address
pub record Home : Type 0 where
  pub number : ℕ
  pub addr : ℕ

-- the home at which a segment was first stored, which is its name
abbrev pub born_at : Ilk → Home
born_at name = record { number = name.number; addr = name.addr }

abbrev pub same_home : Home → Home → Bool
same_home a b = a.number == b.number && a.addr == b.addr

-- what the rules read of a cell of `segment_blocks`: all but the twin and the children, which are the walk's
pub record Segment : Type 0 where
  pub copied : Bool
  pub code : ℕ
  pub name : Ilk
  pub content : List ℕ

-- a row of a side, at the address at which its cell stands
pub record Homed : Type 0 where
  pub addr : ℕ
  pub row : Row

-- a partition as its definition and its control row have it; the segments by their homes; the indirect list (IMS: ILDS),
-- by name and code; and for each generation the rows of its side in hierarchic sequence, each at its home
pub record View : Type 0 where
  pub part : PartDef
  pub state : PartState
  pub segments : Home → Option Segment
  pub listed : Ilk → ℕ → Option Home
  pub rows : ℕ → List Homed

-- a segment that stands at a home and that no unit has copied to another
pub record Stands (view : View) (home : Home) (s : Segment) : Type 0 where
  pub here : view.segments home ≡ Some s
  pub uncopied : s.copied ≡ false

abbrev pub name_at : View → Home → Option Ilk
name_at view home = option_map (λ s. s.name) (view.segments home)

-- a partition that isn't idle (`I`) is being reorganized: it has a side from which units copy, the input, with its own
-- number, and one to which they copy, the output, with the next number
abbrev pub is_moving : PartState → Bool
is_moving s = not (s.state == 73)

-- the generations that are live
abbrev pub is_live : PartState → ℕ → Bool
is_live s number = number == s.number || is_moving s && number == s.number + 1

-- whether a root key is at or before a cursor, in a partition of so many anchors
abbrev pub has_passed : ℕ → Cursor → List ℕ → Bool
has_passed anchors Front key = false
has_passed anchors (At last) key = is_le (key_cmp key last)
has_passed anchors (Anchors done) key = nat_lt (anchor_of anchors key) done

-- whether the record of a root key is in the output
abbrev pub is_done : PartDef → PartState → List ℕ → Bool
is_done part s key = is_moving s && has_passed part.anchors s.cursor key

-- the generation in which the record of a root key stands
abbrev pub generation_of : PartDef → PartState → List ℕ → ℕ
generation_of part s key = if is_done part s key then s.number + 1 else s.number

abbrev pub generation_in : View → List ℕ → ℕ
generation_in view key = generation_of view.part view.state key

-- the sequence field of a segment
abbrev pub segment_key : List SegType → Segment → List ℕ
segment_key types s = row_key types (record { name = s.name; code = s.code; parent = None; content = s.content })
