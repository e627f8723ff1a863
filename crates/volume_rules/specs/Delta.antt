-- What an event does to a partition: a fate for each home, a change for each row of the indirect list, a state, pointers.
-- What is owed for a home is a function of its fate, so an event owes no more than the fates that it has.
use Rattle.std.specs.Prelude.{◌≡◌, ◌≢◌, ℕ, ◌<◌, ◌≤◌, Bool, true, false, ◌&&◌, ◌||◌, List, Option, None, Some}
use Rattle.std.specs.List.{list_all}
use Rattle.std.specs.Option.{option_map, option_map_or}
use Rattle.hal_base.specs.declared.place.Ilk.{Ilk}
use Rattle.hal_base.specs.declared.place.PartState.{PartState}
use Rattle.hal_schema.specs.declared.schema.SegType.{SegType}
use Rattle.volume_rules.specs.View.{Home, Homed, Segment, View, Stands, is_moving, is_live, generation_in, segment_key}
use Rattle.volume_rules.specs.Target.{Pointer, target_of, bears, is_direct, is_among}

-- what becomes of a home: all stays; its segment has other content; a new segment stands there; one stands there that has
-- left another home; its segment is copied to another; none stands there any more
pub data Fate : Type 0 where
  Stays Dropped : Fate
  Rewritten : List ℕ → Fate
  Fresh : Segment → Fate
  Moved Left : Home → Fate

-- what becomes of a row of the indirect list
pub data Listing : Type 0 where
  Keeps Unlists : Listing
  Lists : Home → Listing

pub record Delta : Type 0 where
  pub fate : Home → Fate
  pub listing : Ilk → ℕ → Listing
  pub state : PartState
  pub rows : ℕ → List Homed

abbrev pub with_content : List ℕ → Segment → Segment
with_content content s = record s { content = content }

abbrev pub marked : Segment → Segment
marked s = record s { copied = true }

abbrev pub segment_after : (Home → Option Segment) → Home → Fate → Option Segment
segment_after segments home Stays = segments home
segment_after segments home Dropped = None
segment_after segments home (Rewritten content) = option_map (with_content content) (segments home)
segment_after segments home (Fresh s) = Some s
segment_after segments home (Moved from) = segments from
segment_after segments home (Left to) = option_map marked (segments home)

abbrev pub listed_after : Option Home → Listing → Option Home
listed_after listed Keeps = listed
listed_after listed Unlists = None
listed_after listed (Lists home) = Some home

abbrev pub after : View → Delta → View
after view d = record {
  part = view.part;
  state = d.state;
  segments = λ home. segment_after view.segments home (d.fate home);
  listed = λ name code. listed_after (view.listed name code) (d.listing name code);
  rows = d.rows;
}

-- ---- what is owed

-- a number that becomes live is above all that were; and copied cells, where they stay, stay in the input
pub record GoesOn (old new : PartState) : Type 0 where
  pub part : new.part ≡ old.part
  pub opened : (number before : ℕ) → is_live new number ≡ true → is_live old number ≡ false → is_live old before ≡ true → before < number
  pub moving : is_moving old ≡ true → is_live new old.number ≡ true → is_moving new ≡ true
  pub input : is_moving old ≡ true → is_live new old.number ≡ true → new.number ≡ old.number

-- a segment stays where it is: its generation stays live, the cursor doesn't pass its root, and its row of the list stays
pub record OwesStay (types : List SegType) (is_target : ℕ → Bool) (view : View) (d : Delta) (home : Home) (s : Segment) : Type 0 where
  pub live : is_live d.state home.number ≡ true
  pub behind : s.copied ≡ false → s.code ≡ 1 → generation_in (after view d) (segment_key types s) ≡ generation_in view (segment_key types s)
  pub listing : s.copied ≡ false → is_target s.code ≡ true → d.listing s.name s.code ≡ Keeps

-- a new segment has its home as its name; no cell stood there; a root is put on the side that the cursor says
pub record OwesFresh (types : List SegType) (view : View) (d : Delta) (home : Home) (s : Segment) : Type 0 where
  pub free : view.segments home ≡ None
  pub name : s.name ≡ record { addr = home.addr; part = view.state.part; number = home.number }
  pub uncopied : s.copied ≡ false
  pub low : 1 ≤ home.number
  pub was_live : is_live view.state home.number ≡ true
  pub live : is_live d.state home.number ≡ true
  pub root : s.code ≡ 1 → generation_in (after view d) (segment_key types s) ≡ home.number

-- a segment has come from a home of a lower generation, which it has left for this one; the cursor has passed its root
pub record OwesMoved (types : List SegType) (view : View) (d : Delta) (home from : Home) : Type 0 where
  pub free : view.segments home ≡ None
  pub left : d.fate from ≡ Left home
  pub higher : from.number < home.number
  pub live : is_live d.state home.number ≡ true
  pub stood : Segment
  pub stands : Stands view from stood
  pub root : stood.code ≡ 1 → generation_in (after view d) (segment_key types stood) ≡ home.number

-- a segment leaves the input for a home of the output, and the list gets a row of it
pub record OwesLeft (is_target : ℕ → Bool) (view : View) (d : Delta) (home to : Home) (s : Segment) : Type 0 where
  pub moving : is_moving d.state ≡ true
  pub input : home.number ≡ d.state.number
  pub live : is_live d.state home.number ≡ true
  pub taken : d.fate to ≡ Moved home
  pub listing : s.copied ≡ false → is_target s.code ≡ true → d.listing s.name s.code ≡ Lists to

-- a segment goes with its row of the list; a copied one goes with its generation
pub record OwesDropped (is_target : ℕ → Bool) (d : Delta) (home : Home) (s : Segment) : Type 0 where
  pub dead : s.copied ≡ true → is_live d.state home.number ≡ false
  pub listing : s.copied ≡ false → is_target s.code ≡ true → s.name.number ≢ home.number → d.listing s.name s.code ≡ Unlists

abbrev pub Owes : List SegType → (ℕ → Bool) → View → Delta → Home → Fate → Type 0
Owes types is_target view d home Stays = (s : Segment) → view.segments home ≡ Some s → OwesStay types is_target view d home s
Owes types is_target view d home Dropped = (s : Segment) → view.segments home ≡ Some s → OwesDropped is_target d home s
Owes types is_target view d home (Rewritten content) =
    (s : Segment) → view.segments home ≡ Some s
    → OwesStay types is_target view d home s × (s.code ≡ 1 → segment_key types (with_content content s) ≡ segment_key types s)
Owes types is_target view d home (Fresh s) = OwesFresh types view d home s
Owes types is_target view d home (Moved from) = OwesMoved types view d home from
Owes types is_target view d home (Left to) = (s : Segment) → view.segments home ≡ Some s → OwesLeft is_target view d home to s

-- where a segment comes from that has moved to a home
abbrev pub source_of : Fate → Option Home
source_of (Moved from) = Some from
source_of _ = None

-- a new row of the list is that of an index's target that has moved to the home that it gives
abbrev pub OwesListing : (ℕ → Bool) → View → Delta → Ilk → ℕ → Listing → Type 0
OwesListing is_target view d name code Keeps = Unit {0}
OwesListing is_target view d name code Unlists = Unit {0}
OwesListing is_target view d name code (Lists home) = (is_target code && option_map_or (bears view name code) (source_of (d.fate home)) false) ≡ true

pub record IsLawful (types : List SegType) (is_target : ℕ → Bool) (view : View) (d : Delta) : Type 0 where
  pub state : GoesOn view.state d.state
  pub fates : (home : Home) → Owes types is_target view d home (d.fate home)
  pub listings : (name : Ilk) (code : ℕ) → OwesListing is_target view d name code (d.listing name code)

-- a pointer that stays needs its root to be in the generation to which its target goes; it never leads to what is dropped
abbrev pub OwesPointer : View → Delta → Pointer → Fate → Type 0
OwesPointer view d p Stays = generation_in (after view d) p.root ≡ generation_in view p.root
OwesPointer view d p Dropped = ⊥
OwesPointer view d p (Rewritten content) = generation_in (after view d) p.root ≡ generation_in view p.root
OwesPointer view d p (Fresh s) = Unit {0}
OwesPointer view d p (Moved from) = Unit {0}
OwesPointer view d p (Left to) = generation_in (after view d) p.root ≡ to.number

-- each pointer is an old one, under whatever key of its index, or was made direct
pub record Follows (is_target : ℕ → Bool) (view : View) (d : Delta) (old new : List Pointer) : Type 0 where
  pub each : list_all (λ p. is_target p.code && is_direct (after view d) p || is_among old p) new ≡ true
  pub kept : (p : Pointer) (home : Home) → is_among new p ≡ true → is_direct (after view d) p ≡ false → target_of view p ≡ Some home
      → bears view p.eps.name p.code home ≡ true → OwesPointer view d p (d.fate home)
