-- The events are lawful changes of partitions that keep the rules.
use Rattle.std.specs.Prelude.{◌≡◌, ℕ, Bool, true, false, List}
use Rattle.hal_base.specs.declared.place.Cursor.{Cursor}
use Rattle.hal_base.specs.declared.place.PartState.{PartState}
use Rattle.hal_schema.specs.declared.schema.PartDef.{PartDef}
use Rattle.hal_schema.specs.declared.schema.SegType.{SegType}
use Rattle.volume_rules.specs.View.{Home, Homed, Segment, View, is_moving}
use Rattle.volume_rules.specs.Target.{Pointer}
use Rattle.volume_rules.specs.Rules.{KeepsRules}
use Rattle.volume_rules.specs.Delta.{Delta, after}
use Rattle.volume_rules.specs.Events.{Move, are_carried, IsEvent, insertion, MayCome, replacement, MayChange, deletion, MayGo, turned, IsTurn, switch, IsEmptied}
use Rattle.volume_rules.specs.Events.{started, paused, resumed, unit, MayBeCopied}

-- where the rules are kept before it, and each pointer is carried or made direct
abbrev pub IsLawfulEvent : List SegType → (ℕ → Bool) → View → Delta → List Pointer → List Pointer → Type 0
IsLawfulEvent types is_target view d old new =
    KeepsRules types is_target view old → are_carried is_target (after view d) old new ≡ true → IsEvent types is_target view d old new

abbrev pub InsertionsAreLawful : Type 0
InsertionsAreLawful = (types : List SegType) (is_target : ℕ → Bool) (view : View) (home : Home) (s : Segment) (rows : ℕ → List Homed) (old new : List Pointer)
    → MayCome types view home s → IsLawfulEvent types is_target view (insertion view home s rows) old new

abbrev pub ReplacementsAreLawful : Type 0
ReplacementsAreLawful = (types : List SegType) (is_target : ℕ → Bool) (view : View) (home : Home) (content : List ℕ) (rows : ℕ → List Homed)
    (old new : List Pointer) → MayChange types view home content → IsLawfulEvent types is_target view (replacement view home content rows) old new

abbrev pub DeletionsAreLawful : Type 0
DeletionsAreLawful = (types : List SegType) (is_target : ℕ → Bool) (view : View) (homes : List Home) (rows : ℕ → List Homed) (old new : List Pointer)
    → MayGo view homes new → IsLawfulEvent types is_target view (deletion view homes rows) old new

-- START, PAUSE, RESUME and a heal, which makes pointers direct
abbrev pub TurnsAreLawful : Type 0
TurnsAreLawful = (types : List SegType) (is_target : ℕ → Bool) (view : View) (state : PartState) (old new : List Pointer)
    → IsTurn view.part view.state state → IsLawfulEvent types is_target view (turned view state) old new

pub record AreTurns (part : PartDef) (s : PartState) : Type 0 where
  pub start : is_moving s ≡ false → IsTurn part s (started s)
  pub pause : is_moving s ≡ true → IsTurn part s (paused s)
  pub resume : is_moving s ≡ true → IsTurn part s (resumed s)
  pub heal : IsTurn part s s

abbrev pub ReorganizationsTurn : Type 0
ReorganizationsTurn = (part : PartDef) (s : PartState) → AreTurns part s

abbrev pub UnitsAreLawful : Type 0
UnitsAreLawful = (types : List SegType) (is_target : ℕ → Bool) (view : View) (record_key : Home → List ℕ) (moves : List Move) (cursor : Cursor)
    (rows : ℕ → List Homed) (old new : List Pointer) → MayBeCopied types view record_key moves cursor new
    → IsLawfulEvent types is_target view (unit is_target view moves cursor rows) old new

abbrev pub SwitchesAreLawful : Type 0
SwitchesAreLawful = (types : List SegType) (is_target : ℕ → Bool) (view : View) (old new : List Pointer) → is_moving view.state ≡ true → IsEmptied view
    → IsLawfulEvent types is_target view (switch view) old new
