-- What the top call did.
use Rattle.std.specs.Prelude.{ℕ, ◌≡◌, ◌⊎◌, Bool, true, false, [], Option, None, Some, codes, ⊤}
use Rattle.hal_desk.specs.Kdb.{kdb}
use Rattle.hal_desk.specs.Outside.{Outside}
use Rattle.hal_desk.specs.Ran.{RanList}
use Rattle.hal_desk.specs.Says.{SaysLine}
use Rattle.hal_desk.specs.Define.{RanDefine}
use Rattle.hal_desk.specs.declared.words.Command.{Command}
use Rattle.hal_desk.specs.declared.words.Command.TheVariants.{Define, Call}

-- the script was run over KDB, from the empty list on
abbrev pub RanCall : Outside → Outside → ℕ → Type 0
RanCall before after status = RanList kdb [] before after status

-- What a command did. Words that are no command are status 1; a command that isn't built yet is status 11.
abbrev pub Did : Option Command → Outside → Outside → ℕ → Type 0
Did None before after status = SaysLine (codes "refused usage\n") 1 before.site after.site status
Did (Some (Define volume)) before after status = RanDefine before after status
Did (Some (Call volume)) before after status = RanCall before after status
Did (Some other) before after status = SaysLine (codes "refused not built\n") 11 before.site after.site status

-- whether a command reads its source
abbrev pub reads_source : Option Command → Bool
reads_source (Some (Define volume)) = true
reads_source (Some (Call volume)) = true
reads_source other = false

-- how a command ends that reads its source, where nothing fails
abbrev pub EndsWell : Option Command → ℕ → Type 0
EndsWell (Some (Define volume)) status = (status ≡ 0) ⊎ (status ≡ 7) ⊎ (status ≡ 8)
EndsWell (Some (Call volume)) status = (status ≡ 0) ⊎ (status ≡ 8)
EndsWell other status = ⊤
