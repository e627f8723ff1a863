-- The printed form of a line: upper case, one blank between words, between SSAs and round the colon, none in
-- parentheses but round an operator word, and `&` and `|` as connectors.
use Rattle.std.specs.Prelude.{ℕ, Bool, ◌||◌, ◌==◌, if◌then◌else◌, List, [], ◌∷◌, ◌++◌, Option, Some, None, codes}
use Rattle.std.specs.List.{list_all, flat_map}
use Rattle.std.specs.Fmt.{decimal}
use Rattle.call_text.specs.declared.line.Value.{Value}
use Rattle.call_text.specs.declared.line.Value.TheVariants.{Text, Hex}
use Rattle.call_text.specs.declared.line.Clause.{Clause}
use Rattle.call_text.specs.declared.line.Ssa.{Ssa}
use Rattle.call_text.specs.declared.line.Call.{Call}
use Rattle.call_text.specs.declared.line.Open.{Open}
use Rattle.call_text.specs.declared.line.Command.{Command}
use Rattle.call_text.specs.declared.line.Command.TheVariants.{Start, Step, Pause, Resume, Finish, Query}
use Rattle.call_text.specs.declared.line.Line.{Line}
use Rattle.call_text.specs.declared.line.Line.TheVariants as lines
use Rattle.call_text.specs.Printing.{printed_value}

-- `=`, `<`, `>` and `!`
abbrev pub is_sign : ℕ → Bool
is_sign b = b == 61 || b == 60 || b == 62 || b == 33

abbrev pub operator_text : List ℕ → List ℕ
operator_text op = if list_all is_sign op then op else 32 ∷ op ++ 32 ∷ []

abbrev pub bytes_of : Value → List ℕ
bytes_of (Text bytes) = bytes
bytes_of (Hex bytes) = bytes

unfoldable pub clause_text : Clause → List ℕ
clause_text clause = clause.field ++ operator_text clause.op ++ printed_value (bytes_of clause.value)

abbrev pub connector : Bool → ℕ
connector or = if or then 124 else 38

abbrev pub joined_clause : Clause → List ℕ
joined_clause clause = connector clause.or ∷ clause_text clause

abbrev pub clauses_text : List Clause → List ℕ
clauses_text [] = []
clauses_text (first ∷ more) = 40 ∷ clause_text first ++ flat_map joined_clause more ++ 41 ∷ []

abbrev pub codes_text : List ℕ → List ℕ
codes_text [] = []
codes_text (code ∷ more) = 42 ∷ code ∷ more

unfoldable pub ssa_text : Ssa → List ℕ
ssa_text ssa = ssa.seg ++ codes_text ssa.codes ++ clauses_text ssa.clauses

-- with the blank before it
abbrev pub next_ssa : Ssa → List ℕ
next_ssa ssa = 32 ∷ ssa_text ssa

abbrev pub given_text : Option Value → List ℕ
given_text None = []
given_text (Some value) = codes " : " ++ printed_value (bytes_of value)

unfoldable pub call_text : Call → List ℕ
call_text call = call.session ++ 32 ∷ call.func ++ flat_map next_ssa call.ssas ++ given_text call.content

abbrev pub index_text : Option (List ℕ) → List ℕ
index_text None = []
index_text (Some name) = 32 ∷ name

unfoldable pub open_text : Open → List ℕ
open_text request = codes "PCB " ++ request.session ++ 32 ∷ request.options ++ index_text request.index

abbrev pub command_word : Command → List ℕ
command_word Start = codes "START"
command_word (Step groups) = codes "STEP"
command_word Pause = codes "PAUSE"
command_word Resume = codes "RESUME"
command_word Finish = codes "FINISH"
command_word Query = codes "QUERY"

abbrev pub count_text : Command → List ℕ
count_text Start = []
count_text (Step groups) = 32 ∷ decimal groups
count_text Pause = []
count_text Resume = []
count_text Finish = []
count_text Query = []

unfoldable pub reorg_text : List ℕ → Command → List ℕ
reorg_text part command = codes "REORG " ++ command_word command ++ 32 ∷ part ++ count_text command

abbrev pub printed_line : Line → List ℕ
printed_line lines.Silent = []
printed_line (lines.Call call) = call_text call
printed_line (lines.Open request) = open_text request
printed_line (lines.Reorg part command) = reorg_text part command
printed_line (lines.Bad cause) = []

-- a bad line has no printed form
abbrev pub HasForm : Line → Type 0
HasForm lines.Silent = Unit {0}
HasForm (lines.Call call) = Unit {0}
HasForm (lines.Open request) = Unit {0}
HasForm (lines.Reorg part command) = Unit {0}
HasForm (lines.Bad cause) = ⊥
