-- The raw definition of a list of statements, or the first line that breaks a rule.
use Rattle.hal_base.specs.Reading.{◌>>=◌}
use Rattle.std.specs.Prelude.{◌≡◌, ℕ, ◌+◌, ◌-◌, ◌==◌, Bool, true, false, if◌then◌else◌, List, [], ◌∷◌, ◌++◌, length, Option, Some, None, Result, Ok, Err}
use Rattle.std.specs.Str.Lines.{lines}
use Rattle.hal_schema.specs.declared.raw.RawField.{RawField}
use Rattle.hal_schema.specs.declared.raw.RawType.{RawType}
use Rattle.hal_schema.specs.declared.raw.RawIndex.{RawIndex}
use Rattle.hal_schema.specs.declared.raw.RawDbd.{RawDbd}
use Rattle.dbd_reader.specs.declared.word.Word.{Word}
use Rattle.dbd_reader.specs.declared.word.Word.TheVariants as words
use Rattle.dbd_reader.specs.declared.value.Child.{Child}
use Rattle.dbd_reader.specs.declared.operand.Operand.{Operand}
use Rattle.dbd_reader.specs.declared.statement.Statement.{Statement}
use Rattle.hal_schema.specs.declared.text_fault.TextFault.{TextFault}
use Rattle.hal_schema.specs.declared.text_fault.TextFault.TheVariants as faults
use Rattle.dbd_reader.specs.declared.draft.Draft.{Draft}
use Rattle.dbd_reader.specs.declared.draft.Draft.TheVariants as drafts
use Rattle.dbd_reader.specs.Words.{word_of, operands_of}
use Rattle.dbd_reader.specs.Operands.{operands_in}
use Rattle.dbd_reader.specs.Statements.{statements}
use Rattle.dbd_reader.specs.Lines.{behind_lines}
use Rattle.dbd_reader.specs.Verdicts.{checked}
use Rattle.dbd_reader.specs.Meanings.{dbd_of, segm_of, field_of, lchild_of, xdfld_of}

abbrev pub with_type : RawDbd → RawType → RawDbd
with_type dbd segm = record dbd { types = dbd.types ++ segm ∷ [] }

abbrev pub with_index : RawDbd → RawIndex → RawDbd
with_index dbd index = record dbd { indexes = dbd.indexes ++ index ∷ [] }

abbrev pub with_field : RawType → RawField → RawType
with_field segm field = record segm { fields = segm.fields ++ field ∷ [] }

-- Which statements may come next, and what they add. Rule 14 is that of a statement out of order.
-- a DBD comes first
unfoldable pub at_start : Word → List Operand → Result Draft ℕ
at_start words.Dbd operands = dbd_of operands >>= λ dbd. Ok (drafts.Head dbd)
at_start _ operands = Err 14

-- then the first SEGM
unfoldable pub at_head : RawDbd → Word → ℕ → List Operand → Result Draft ℕ
at_head dbd words.Dataset line operands = Ok (drafts.Head dbd)
at_head dbd words.Segm line operands = segm_of line operands >>= λ segm. Ok (drafts.Segment dbd segm)
at_head dbd _ line operands = Err 14

-- then FIELD and LCHILD statements of the segment, further segments, and DBDGEN
unfoldable pub at_segment : RawDbd → RawType → Word → ℕ → List Operand → Result Draft ℕ
at_segment dbd segm words.Dataset line operands = Ok (drafts.Segment dbd segm)
at_segment dbd segm words.Segm line operands = segm_of line operands >>= λ next. Ok (drafts.Segment (with_type dbd segm) next)
at_segment dbd segm words.Field line operands = field_of line operands >>= λ field. Ok (drafts.Segment dbd (with_field segm field))
at_segment dbd segm words.Lchild line operands = lchild_of operands >>= λ child. Ok (drafts.Index dbd segm child line)
at_segment dbd segm words.Dbdgen line operands = checked words.Dbdgen operands >>= λ _. Ok (drafts.Generated (with_type dbd segm))
at_segment dbd segm _ line operands = Err 14

-- an LCHILD is followed by its XDFLD
unfoldable pub at_index : RawDbd → RawType → Child → ℕ → Word → List Operand → Result Draft ℕ
at_index dbd segm child line words.Dataset operands = Ok (drafts.Index dbd segm child line)
at_index dbd segm child line words.Xdfld operands = xdfld_of line child segm.name operands >>= λ index. Ok (drafts.Segment (with_index dbd index) segm)
at_index dbd segm child line _ operands = Err 14

-- FINISH may stand before END
unfoldable pub at_end : RawDbd → Word → List Operand → Result Draft ℕ
at_end dbd words.Finish operands = checked words.Finish operands >>= λ _. Ok (drafts.Finished dbd)
at_end dbd words.End operands = checked words.End operands >>= λ _. Ok (drafts.Ended dbd)
at_end dbd _ operands = Err 14

unfoldable pub at_finish : RawDbd → Word → List Operand → Result Draft ℕ
at_finish dbd words.End operands = checked words.End operands >>= λ _. Ok (drafts.Ended dbd)
at_finish dbd _ operands = Err 14

unfoldable pub step : Draft → Word → ℕ → List Operand → Result Draft ℕ
step drafts.Start word line operands = at_start word operands
step (drafts.Head dbd) word line operands = at_head dbd word line operands
step (drafts.Segment dbd segm) word line operands = at_segment dbd segm word line operands
step (drafts.Index dbd segm child at) word line operands = at_index dbd segm child at word operands
step (drafts.Generated dbd) word line operands = at_end dbd word operands
step (drafts.Finished dbd) word line operands = at_finish dbd word operands
step (drafts.Ended dbd) word line operands = Err 14

-- TITLE, PRINT, SPACE and EJECT are passed over
unfoldable pub worded : Draft → Statement → Option Word → Result Draft ℕ
worded draft s None = Err 14
worded draft s (Some words.Passed) = Ok draft
worded draft s (Some word) = step draft word s.line (operands_in word (operands_of s.text))

abbrev pub is_bad_at : ℕ → Option ℕ → Bool
is_bad_at line None = false
is_bad_at line (Some bad) = bad == line

-- a byte that isn't readable breaks rule 13 at its own line
abbrev pub or_bad : Option ℕ → Draft → Result Draft TextFault
or_bad None draft = Ok draft
or_bad (Some bad) draft = Err (faults.Rule 13 bad)

abbrev pub at_line : ℕ → Option ℕ → Result Draft ℕ → Result Draft TextFault
at_line line bad (Err rule) = Err (faults.Rule rule line)
at_line line bad (Ok draft) = or_bad bad draft

unfoldable pub judged : Draft → Statement → Result Draft TextFault
judged draft s = if is_bad_at s.line s.bad then Err (faults.Rule 13 s.line) else at_line s.line s.bad (worded draft s (word_of s.text))

-- what the draft says once END was read, with the number of the line behind; else what the rest makes of it
abbrev pub concluded : Result Draft TextFault → ℕ → (Draft → Result (RawDbd × ℕ) TextFault) → Result (RawDbd × ℕ) TextFault
concluded (Err fault) next more = Err fault
concluded (Ok (drafts.Ended dbd)) next more = Ok (dbd, next)
concluded (Ok draft) next more = more draft

-- rule 19 is that of a text that ends before END
unfoldable pub definition : Draft → List Statement → ℕ → Result (RawDbd × ℕ) TextFault
definition draft [] last = Err (faults.Rule 19 last)
definition draft (s ∷ more) last = concluded (judged draft s) s.next (λ next. definition next more last)

-- the definition of a text, and the number of the line behind its END
unfoldable pub definition_of : List ℕ → Result (RawDbd × ℕ) TextFault
definition_of text = definition drafts.Start (statements 1 None (lines text)) (length (lines text) + 1)

-- where the text behind the first lines begins
abbrev pub place_of : List ℕ → ℕ → ℕ
place_of text line = length text - length (behind_lines (line - 1) text)

abbrev pub placed : List ℕ → Result (RawDbd × ℕ) TextFault → Result (RawDbd × ℕ) TextFault
placed text (Err fault) = Err fault
placed text (Ok read) = Ok (read.0, place_of text read.1)

-- what a text says: its raw definition and where the text behind begins, or the first line that breaks a rule
unfoldable pub meaning_of : List ℕ → Result (RawDbd × ℕ) TextFault
meaning_of text = placed text (definition_of text)
