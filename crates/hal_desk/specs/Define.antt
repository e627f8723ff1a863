-- What `define` makes of its source: DBD text down to its END line, and the partition file behind it.
use Rattle.std.specs.Prelude.{ℕ, ◌≡◌, ◌+◌, ◌≤◌, ◌⊎◌, ◌++◌, if◌then◌else◌, List, length, drop, Option, None, Some, Result, Ok, Err, codes}
use Rattle.std.specs.Fmt.{decimal}
use Rattle.std.specs.Io.KnownBytes.{Consumes, IsAtEnd}
use Rattle.hal_base.specs.Fault.{Rose}
use Rattle.hal_schema.specs.declared.fault.Place.{Place}
use Rattle.hal_schema.specs.declared.raw.RawDbd.{RawDbd}
use Rattle.hal_schema.specs.declared.raw.RawParts.{RawParts}
use Rattle.hal_schema.specs.declared.raw.RawSchema.{RawSchema}
use Rattle.hal_schema.specs.Places.{statement, partition}
use Rattle.hal_schema.specs.Rules.{first_fault}
use Rattle.hal_schema.specs.declared.text_fault.TextFault.{TextFault}
use Rattle.hal_schema.specs.declared.text_fault.TextFault.TheVariants.{Rule, Memory}
use Rattle.dbd_reader.specs.Definition.{meaning_of}
use Rattle.partition_reader.specs.Partitions.{partitions_of}
use Rattle.hal_desk.specs.declared.define.Answer.{Answer}
use Rattle.script_runs.specs.Script.{limit}
use Rattle.hal_desk.specs.Outside.{Outside, Untouched}
use Rattle.hal_desk.specs.Says.{SaysLine}

-- a rule that is broken, and where
abbrev pub Broken : Type 0
Broken = ℕ × Place

-- Where a text breaks a rule; want of memory is no meaning of a text.
abbrev pub broken_at : (ℕ → Place) → TextFault → Broken
broken_at place (Rule rule number) = (rule, place number)
broken_at place Memory = (0, place 0)

abbrev pub with_parts : RawDbd → Result RawParts TextFault → Result RawSchema Broken
with_parts dbd (Ok parts) = Ok (record { dbd = dbd; parts = parts })
with_parts dbd (Err fault) = Err (broken_at partition fault)

-- the partition file is what stands behind END's line
abbrev pub with_dbd : List ℕ → Result (RawDbd × ℕ) TextFault → Result RawSchema Broken
with_dbd text (Ok read) = with_parts read.0 (partitions_of (drop read.1 text))
with_dbd text (Err fault) = Err (broken_at statement fault)

abbrev pub unless : Option Broken → RawSchema → Result RawSchema Broken
unless None raw = Ok raw
unless (Some broken) raw = Err broken

abbrev pub judged : Result RawSchema Broken → Result RawSchema Broken
judged (Ok raw) = unless (first_fault raw) raw
judged (Err broken) = Err broken

-- The definition that a source says, or the first rule that it breaks: those of the DBD text, those of the partition
-- file, and then those of definitions.
unfoldable pub definition_of : List ℕ → Result RawSchema Broken
definition_of text = judged (with_dbd text (meaning_of text))

abbrev pub checked_line : RawSchema → List ℕ
checked_line raw =
    codes "checked " ++ raw.dbd.name ++ codes " partitions " ++ decimal (length raw.parts.parts)
    ++ codes " blocks " ++ decimal raw.parts.blocks ++ codes "\n"

abbrev pub place_words : Place → List ℕ
place_words place = (if place.part then codes "partition " else codes "line ") ++ decimal place.line

abbrev pub refused_line : Broken → List ℕ
refused_line broken = codes "refused " ++ place_words broken.1 ++ codes " rule " ++ decimal broken.0 ++ codes "\n"

-- what is said of a source, and with which status
abbrev pub answer_of : Result RawSchema Broken → Answer
answer_of (Ok raw) = record { line = checked_line raw; status = 0 }
answer_of (Err broken) = record { line = refused_line broken; status = 7 }

-- How `define` ends once these bytes were taken. Where the whole source was read, within the limit, its line is said.
-- Else the site isn't touched: a read failed; memory ran out; a byte past the limit was taken.
abbrev pub DefineEnds : List ℕ → Outside → Outside → ℕ → Type 0
DefineEnds taken before after status =
    let answer = answer_of (definition_of taken) in
    ((length taken ≤ limit) × IsAtEnd after.source.left × SaysLine answer.line answer.status before.site after.site status)
    ⊎ ((status ≡ 5) × (length taken ≤ limit) × Untouched before.site after.site × Rose before.source.read_faults after.source.read_faults)
    ⊎ ((status ≡ 8) × (length taken ≤ limit) × Untouched before.site after.site)
    ⊎ ((status ≡ 10) × (length taken ≡ limit + 1) × Untouched before.site after.site)

pub record RanDefine (before after : Outside) (status : ℕ) : Type 0 where
  pub taken : List ℕ
  pub read : Consumes before.source.left after.source.left taken
  pub ends : DefineEnds taken before after status
