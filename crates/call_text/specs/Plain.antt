-- A line as it is read again from its printed form: a hexadecimal value of printable bytes alone is a text.
use Rattle.hal_base.specs.Bytes.{is_printable}
use Rattle.std.specs.Prelude.{◌≡◌, false, if◌then◌else◌, map, Option, Some, None}
use Rattle.std.specs.List.{list_all, AllByRecursion}
use Rattle.call_text.specs.declared.line.Value.{Value}
use Rattle.call_text.specs.declared.line.Value.TheVariants.{Text, Hex}
use Rattle.call_text.specs.declared.line.Clause.{Clause}
use Rattle.call_text.specs.declared.line.Ssa.{Ssa}
use Rattle.call_text.specs.declared.line.Call.{Call}
use Rattle.call_text.specs.declared.line.Line.{Line}
use Rattle.call_text.specs.declared.line.Line.TheVariants as lines

abbrev pub plain_value : Value → Value
plain_value (Text bytes) = Text bytes
plain_value (Hex bytes) = if list_all is_printable bytes then Text bytes else Hex bytes

abbrev pub plain_clause : Clause → Clause
plain_clause clause = record { field = clause.field; op = clause.op; value = plain_value clause.value; or = clause.or }

abbrev pub plain_ssa : Ssa → Ssa
plain_ssa ssa = record { seg = ssa.seg; codes = ssa.codes; clauses = map plain_clause ssa.clauses }

abbrev pub plain_given : Option Value → Option Value
plain_given None = None
plain_given (Some value) = Some (plain_value value)

abbrev pub plain_call : Call → Call
plain_call call = record { session = call.session; func = call.func; ssas = map plain_ssa call.ssas; content = plain_given call.content }

abbrev pub plain_line : Line → Line
plain_line lines.Silent = lines.Silent
plain_line (lines.Call call) = lines.Call (plain_call call)
plain_line (lines.Open request) = lines.Open request
plain_line (lines.Reorg part command) = lines.Reorg part command
plain_line (lines.Bad cause) = lines.Bad cause

-- no hexadecimal value has printable bytes alone
abbrev pub IsPlainValue : Value → Type 0
IsPlainValue (Text bytes) = Unit {0}
IsPlainValue (Hex bytes) = list_all is_printable bytes ≡ false

abbrev pub IsPlainClause : Clause → Type 0
IsPlainClause clause = IsPlainValue clause.value

abbrev pub IsPlainSsa : Ssa → Type 0
IsPlainSsa ssa = AllByRecursion IsPlainClause ssa.clauses

abbrev pub IsPlainGiven : Option Value → Type 0
IsPlainGiven None = Unit {0}
IsPlainGiven (Some value) = IsPlainValue value

abbrev pub IsPlain : Line → Type 0
IsPlain lines.Silent = Unit {0}
IsPlain (lines.Call call) = AllByRecursion IsPlainSsa call.ssas × IsPlainGiven call.content
IsPlain (lines.Open request) = Unit {0}
IsPlain (lines.Reorg part command) = Unit {0}
IsPlain (lines.Bad cause) = Unit {0}
