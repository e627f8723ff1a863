-- The keeper of a taker.
use Rattle.volume_keeper.specs.declared.kept_lines.KeptLines.{KeptLines}

abbrev pub keeper_of : {K : Type 0} → KeptLines K → K
keeper_of lines = lines.keeper
