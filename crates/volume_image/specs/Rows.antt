-- States whose numbers have a place in a control row.
use Rattle.std.specs.Prelude.{◌^◌, ◌<◌}
use Rattle.hal_base.specs.declared.place.Cursor.{Cursor}
use Rattle.hal_base.specs.declared.place.Cursor.TheVariants.{Front, At, Anchors}
use Rattle.hal_base.specs.declared.place.PartState.{PartState}

-- the numbers of a state have a place in its row; those of a state that fits do
abbrev pub HasAnchorRoom : Cursor → Type 0
HasAnchorRoom Front = Unit {0}
HasAnchorRoom (At key) = Unit {0}
HasAnchorRoom (Anchors done) = done < 2 ^ 32

pub record HasRowRoom (s : PartState) : Type 0 where
  pub part : s.part < 2 ^ 16
  pub number : s.number < 2 ^ 16
  pub cursor : HasAnchorRoom s.cursor
