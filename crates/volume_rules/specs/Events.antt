-- The events of a volume as changes of one partition, and what each must be.
use Rattle.std.specs.Prelude.{◌≡◌, ℕ, ◌+◌, ◌≤◌, ◌==◌, Bool, true, false, not, ◌&&◌, ◌||◌, if◌then◌else◌, List, [], ◌∷◌, None, Some, is_none}
use Rattle.std.specs.List.{list_all, list_any}
use Rattle.std.specs.Option.{option_map_or}
use Rattle.hal_base.specs.declared.place.Cursor.{Cursor}
use Rattle.hal_base.specs.declared.place.Cursor.TheVariants.{Front}
use Rattle.hal_base.specs.declared.place.Ilk.{Ilk}
use Rattle.hal_base.specs.declared.place.PartState.{PartState}
use Rattle.hal_schema.specs.declared.schema.PartDef.{PartDef}
use Rattle.hal_schema.specs.declared.schema.SegType.{SegType}
use Rattle.hal_schema.specs.Forest.{all_pairs}
use Rattle.volume_rules.specs.View.{Home, Homed, Segment, View, Stands, same_home, is_moving, is_live, generation_of, generation_in, segment_key}
use Rattle.volume_rules.specs.Target.{Pointer, target_of, bears, is_direct, is_among}
use Rattle.volume_rules.specs.Delta.{Fate, Stays, Dropped, Rewritten, Fresh, Moved, Left, Listing, Keeps, Unlists, Lists, Delta, GoesOn, IsLawful, Follows, with_content}

abbrev pub among : List Home → Home → Bool
among homes home = list_any (same_home home) homes

-- each pointer is an old one, or was made direct
abbrev pub are_carried : (ℕ → Bool) → View → List Pointer → List Pointer → Bool
are_carried is_target now old new = list_all (λ p. is_target p.code && is_direct now p || is_among old p) new

-- a change that keeps the rules, with the pointers before it and after it
pub record IsEvent (types : List SegType) (is_target : ℕ → Bool) (view : View) (d : Delta) (old new : List Pointer) : Type 0 where
  pub lawful : IsLawful types is_target view d
  pub follows : Follows is_target view d old new

-- ---- ISRT and a load row: a new segment

abbrev pub insertion : View → Home → Segment → (ℕ → List Homed) → Delta
insertion view home s rows = record { fate = λ h. if same_home h home then Fresh s else Stays; listing = λ name code. Keeps; state = view.state; rows = rows }

-- it takes a hole of a live generation, and has its home as its name; a root is put on the side that the cursor says
pub record MayCome (types : List SegType) (view : View) (home : Home) (s : Segment) : Type 0 where
  pub free : view.segments home ≡ None
  pub name : s.name ≡ record { addr = home.addr; part = view.state.part; number = home.number }
  pub uncopied : s.copied ≡ false
  pub low : 1 ≤ home.number
  pub live : is_live view.state home.number ≡ true
  pub root : s.code ≡ 1 → generation_in view (segment_key types s) ≡ home.number

-- ---- REPL: other content

abbrev pub replacement : View → Home → List ℕ → (ℕ → List Homed) → Delta
replacement view home content rows = record {
  fate = λ h. if same_home h home then Rewritten content else Stays;
  listing = λ name code. Keeps;
  state = view.state;
  rows = rows;
}

-- the key of a root stays
abbrev pub MayChange : List SegType → View → Home → List ℕ → Type 0
MayChange types view home content = (s : Segment) → view.segments home ≡ Some s → s.code ≡ 1 → segment_key types (with_content content s) ≡ segment_key types s

-- ---- DLET: a span goes, with its rows of the list

-- the segment at a home is the one of this name and type, and has moved since it got that name
abbrev pub has_moved : View → Ilk → ℕ → Home → Bool
has_moved view name code home = bears view name code home && not (name.number == home.number)

abbrev pub deletion : View → List Home → (ℕ → List Homed) → Delta
deletion view homes rows = record {
  fate = λ h. if among homes h then Dropped else Stays;
  listing = λ name code. if list_any (has_moved view name code) homes then Unlists else Keeps;
  state = view.state;
  rows = rows;
}

-- no copied segment goes, and no pointer stays that leads to one that does
pub record MayGo (view : View) (homes : List Home) (new : List Pointer) : Type 0 where
  pub uncopied : (home : Home) (s : Segment) → among homes home ≡ true → view.segments home ≡ Some s → s.copied ≡ false
  pub unpointed : (p : Pointer) (home : Home) → is_among new p ≡ true → among homes home ≡ true → bears view p.eps.name p.code home ≡ false

-- ---- START, PAUSE, RESUME, and a get that heals: no segment is touched

abbrev pub turned : View → PartState → Delta
turned view state = record { fate = λ home. Stays; listing = λ name code. Keeps; state = state; rows = view.rows }

-- what is live stays live, and no root changes its generation
pub record IsTurn (part : PartDef) (old new : PartState) : Type 0 where
  pub on : GoesOn old new
  pub live : (number : ℕ) → is_live old number ≡ true → is_live new number ≡ true
  pub same : (key : List ℕ) → generation_of part new key ≡ generation_of part old key

abbrev pub started : PartState → PartState
started s = record s { state = 67; cursor = Front }

abbrev pub paused : PartState → PartState
paused s = record s { state = 80 }

abbrev pub resumed : PartState → PartState
resumed s = record s { state = 67 }

-- ---- a unit: records are copied from the input to the output

pub record Move : Type 0 where
  pub from : Home
  pub to : Home

abbrev pub fate_in : List Move → Home → Fate
fate_in [] home = Stays
fate_in (m ∷ moves) home = if same_home home m.from then Left m.to else if same_home home m.to then Moved m.from else fate_in moves home

abbrev pub listing_in : (ℕ → Bool) → View → List Move → Ilk → ℕ → Listing
listing_in is_target view [] name code = Keeps
listing_in is_target view (m ∷ moves) name code =
    if is_target code && bears view name code m.from then Lists m.to else listing_in is_target view moves name code

abbrev pub unit : (ℕ → Bool) → View → List Move → Cursor → (ℕ → List Homed) → Delta
unit is_target view moves cursor rows = record {
  fate = fate_in moves;
  listing = listing_in is_target view moves;
  state = record view.state { cursor = cursor };
  rows = rows;
}

abbrev pub is_moved : List Move → Home → Bool
is_moved moves home = list_any (λ m. same_home home m.from) moves

abbrev pub no_move_shares : Move → Move → Bool
no_move_shares a b = not (same_home a.from b.from) && not (same_home a.to b.to)

-- a segment of the input that isn't copied, and a home of the output where no cell stands
abbrev pub may_move : View → Move → Bool
may_move view m =
    m.from.number == view.state.number && m.to.number == view.state.number + 1 && option_map_or (λ s. not s.copied) (view.segments m.from) false
    && is_none (view.segments m.to)

-- whole records are moved: just those that the cursor passes now. `record_key` is the root key of the record that stands at a home
pub record MayBeCopied (types : List SegType) (view : View) (record_key : Home → List ℕ) (moves : List Move) (cursor : Cursor)
    (new : List Pointer) : Type 0 where
  pub moving : is_moving view.state ≡ true
  pub each : list_all (may_move view) moves ≡ true
  pub apart : all_pairs no_move_shares moves ≡ true
  pub whole : (home : Home) (s : Segment) → Stands view home s
      → generation_of view.part (record view.state { cursor = cursor }) (record_key home)
      ≡ (if is_moved moves home then view.state.number + 1 else generation_in view (record_key home))
  pub roots : (home : Home) (s : Segment) → Stands view home s → s.code ≡ 1 → segment_key types s ≡ record_key home
  pub hung : (p : Pointer) (home : Home) → is_among new p ≡ true → target_of view p ≡ Some home → bears view p.eps.name p.code home ≡ true
      → p.root ≡ record_key home

-- ---- the switch: the output is what the partition has now

abbrev pub switched : PartState → PartState
switched s = record {
  part = s.part;
  number = s.number + 1;
  side = if s.side == 65 then 77 else 65;
  state = 73;
  cursor = Front;
}

abbrev pub switch : View → Delta
switch view = record {
  fate = λ home. if home.number == view.state.number then Dropped else Stays;
  listing = λ name code. Keeps;
  state = switched view.state;
  rows = view.rows;
}

-- every record was copied
abbrev pub IsEmptied : View → Type 0
IsEmptied view = (home : Home) (s : Segment) → Stands view home s → home.number ≡ view.state.number → ⊥
