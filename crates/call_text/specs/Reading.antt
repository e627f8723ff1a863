-- Reading from left to right, with the first fault that is met: what stands there in the forms of a line.
use Rattle.hal_base.specs.Reading.{◌>>=◌}
use Rattle.hal_base.specs.Bytes.{is_printable}
use Rattle.hal_base.specs.Numbers.{number_of}
use Rattle.std.specs.Prelude.{◌≡◌, ℕ, zero, suc, ◌+◌, ◌*◌, ◌&&◌, ◌||◌, Bool, true, false, nat_lt, ◌==◌, if◌then◌else◌, List, [], ◌∷◌}
use Rattle.std.specs.Prelude.{length, map, Option, Some, None, Result, Ok, Err, codes}
use Rattle.std.specs.List.{list_all, take_while}
use Rattle.std.specs.Str.{bytes_eq}
use Rattle.hal_base.specs.Name.{is_name, upper}
use Rattle.call_text.specs.declared.fault.Fault.{Fault}
use Rattle.call_text.specs.declared.fault.Fault.TheVariants as faults
use Rattle.call_text.specs.declared.fault.ReadError.{ReadError}
use Rattle.call_text.specs.declared.fault.ReadError.TheVariants as errors
use Rattle.call_text.specs.declared.line.Value.{Value}
use Rattle.call_text.specs.declared.line.Value.TheVariants.{Text, Hex}
use Rattle.call_text.specs.declared.line.Clause.{Clause}
use Rattle.call_text.specs.declared.line.Ssa.{Ssa}
use Rattle.call_text.specs.declared.line.Command.{Command}
use Rattle.call_text.specs.declared.line.Command.TheVariants.{Start, Step, Pause, Resume, Finish, Query}
use Rattle.call_text.specs.declared.line.Line.{Line}
use Rattle.call_text.specs.declared.line.Line.TheVariants as lines
use Rattle.call_text.specs.Printed.{is_sign}
use Rattle.call_text.specs.Words.{is_blank, past, in_word, is_letter, is_word, is_number, is_count, is_hex, hex_value, printed_operator, is_reserved, is_silent, begins_with}

-- What a function returned, seen by view, is what reading gives, unless memory ran out.
abbrev pub Fails : {Y : Type 0} → ReadError → Result Y Fault → Type 0
Fails errors.Memory read = Unit {0}
Fails (errors.Fault fault) read = read ≡ Err fault

abbrev pub Gives : {X Y : Type 0} → (X → Y) → Result X ReadError → Result Y Fault → Type 0
Gives view (Ok x) read = read ≡ Ok (view x)
Gives view (Err e) read = Fails e read

-- A part of a line is its value and the bytes after it.
unfoldable pub name_at : List ℕ → Result (List ℕ × List ℕ) Fault
name_at text = if is_name (map upper (take_while in_word text)) then Ok (map upper (take_while in_word text), past in_word text) else Err faults.Form

unfoldable pub word_at : List ℕ → Result (List ℕ × List ℕ) Fault
word_at text = if is_word (map upper (take_while in_word text)) then Ok (map upper (take_while in_word text), past in_word text) else Err faults.Form

-- the next byte of a text: two quotes are one, and one quote closes it
abbrev pub text_byte_at : List ℕ → Result (Option ℕ × List ℕ) Fault
text_byte_at [] = Err faults.Value
text_byte_at (b ∷ []) = if b == 39 then Ok (None, []) else Ok (Some b, [])
text_byte_at (b ∷ c ∷ rest) = if b == 39 then (if c == 39 then Ok (Some 39, rest) else Ok (None, c ∷ rest)) else Ok (Some b, c ∷ rest)

-- behind the opening quote
unfoldable pub text_at : List ℕ → Result (List ℕ × List ℕ) Fault
text_at [] = Err faults.Value
text_at (b ∷ []) = if b == 39 then Ok ([], []) else Err faults.Value
text_at (b ∷ c ∷ rest) =
    if b == 39 then (if c == 39 then (text_at rest >>= λ more. Ok (39 ∷ more.0, more.1)) else Ok ([], c ∷ rest))
    else (text_at (c ∷ rest) >>= λ more. Ok (b ∷ more.0, more.1))

-- the closing quote
abbrev pub close_at : List ℕ → Result (List ℕ × List ℕ) Fault
close_at [] = Err faults.Value
close_at (b ∷ rest) = if b == 39 then Ok ([], rest) else Err faults.Value

-- two hexadecimal digits
abbrev pub pair_at : List ℕ → Option (ℕ × List ℕ)
pair_at [] = None
pair_at (a ∷ []) = None
pair_at (a ∷ b ∷ rest) = if is_hex a && is_hex b then Some (16 * hex_value a + hex_value b, rest) else None

-- pairs of hexadecimal digits, and the closing quote
unfoldable pub pairs_at : List ℕ → Result (List ℕ × List ℕ) Fault
pairs_at [] = close_at []
pairs_at (a ∷ []) = close_at (a ∷ [])
pairs_at (a ∷ b ∷ rest) =
    if is_hex a && is_hex b then (pairs_at rest >>= λ more. Ok ((16 * hex_value a + hex_value b) ∷ more.0, more.1))
    else close_at (a ∷ b ∷ rest)

-- behind X and its quote: one byte or more
unfoldable pub hex_at : List ℕ → Result (List ℕ × List ℕ) Fault
hex_at text = do
  read ← pairs_at text
  if length read.0 == 0 then Err faults.Value else Ok (read.0, read.1)

unfoldable pub value_at : List ℕ → Result (Value × List ℕ) Fault
value_at [] = Err faults.Form
value_at (a ∷ []) = if a == 39 then (text_at [] >>= λ read. Ok (Text read.0, read.1)) else Err faults.Form
value_at (a ∷ b ∷ rest) =
    if a == 39 then (text_at (b ∷ rest) >>= λ read. Ok (Text read.0, read.1))
    else if upper a == 88 && b == 39 then (hex_at rest >>= λ read. Ok (Hex read.0, read.1))
    else Err faults.Form

abbrev pub begins_blank : List ℕ → Bool
begins_blank [] = false
begins_blank (b ∷ rest) = is_blank b

-- letters, with a blank behind them
unfoldable pub operator_word_at : List ℕ → Result (List ℕ × List ℕ) Fault
operator_word_at text =
    if nat_lt 0 (length (take_while in_word text)) && list_all is_letter (map upper (take_while in_word text)) && begins_blank (past in_word text)
    then Ok (printed_operator (map upper (take_while in_word text)), past in_word text)
    else Err faults.Form

-- a run of signs, or a word
unfoldable pub operator_at : List ℕ → Result (List ℕ × List ℕ) Fault
operator_at text = if length (take_while is_sign text) == 0 then operator_word_at text else Ok (printed_operator (take_while is_sign text), past is_sign text)

unfoldable pub clause_at : Bool → List ℕ → Result (Clause × List ℕ) Fault
clause_at or text = do
  field ← name_at text
  op ← operator_at (past is_blank field.1)
  value ← value_at (past is_blank op.1)
  Ok (record { field = field.0; op = op.0; value = value.0; or = or }, value.1)

-- what stands behind a clause: a connector, which is an or or not, or none where the parenthesis closes
unfoldable pub connector_at : List ℕ → Result (Option Bool × List ℕ) Fault
connector_at [] = Err faults.Form
connector_at (b ∷ rest) =
    if b == 41 then Ok (None, rest)
    else if b == 38 || b == 42 then Ok (Some false, rest)
    else if b == 124 || b == 43 then Ok (Some true, rest)
    else Err faults.Form

unfoldable pub clause_and_connector_at : Bool → List ℕ → Result (Clause × Option Bool × List ℕ) Fault
clause_and_connector_at or text = do
  clause ← clause_at or (past is_blank text)
  next ← connector_at (past is_blank clause.1)
  Ok (clause.0, next.0, next.1)

-- the clauses from a connector on; there are no more than bytes
unfoldable pub clauses_at : ℕ → Option Bool → List ℕ → Result (List Clause × List ℕ) Fault
clauses_at n None text = Ok ([], text)
clauses_at zero (Some or) text = Err faults.Form
clauses_at (suc n) (Some or) text = do
  first ← clause_and_connector_at or text
  more ← clauses_at n first.1 first.2
  Ok (first.0 ∷ more.0, more.1)

unfoldable pub codes_at : List ℕ → Result (List ℕ × List ℕ) Fault
codes_at [] = Ok ([], [])
codes_at (b ∷ rest) = if b == 42 then word_at rest else Ok ([], b ∷ rest)

abbrev pub behind : List ℕ → List ℕ
behind [] = []
behind (b ∷ rest) = rest

-- blanks may stand before the parenthesis
unfoldable pub qualification_at : List ℕ → Result (List Clause × List ℕ) Fault
qualification_at text = if begins_with 40 (past is_blank text) then clauses_at (length text) (Some false) (behind (past is_blank text)) else Ok ([], text)

unfoldable pub ssa_at : List ℕ → Result (Ssa × List ℕ) Fault
ssa_at text = do
  seg ← name_at text
  code ← codes_at seg.1
  clauses ← qualification_at code.1
  Ok (record { seg = seg.0; codes = code.0; clauses = clauses.0 }, clauses.1)

abbrev pub begins_word : List ℕ → Bool
begins_word [] = false
begins_word (b ∷ rest) = in_word b

-- a blank, and a word behind the blanks
abbrev pub begins_ssa : List ℕ → Bool
begins_ssa text = begins_blank text && begins_word (past is_blank text)

-- there are no more SSAs than bytes
unfoldable pub ssas_at : ℕ → List ℕ → Result (List Ssa × List ℕ) Fault
ssas_at zero text = Ok ([], text)
ssas_at (suc n) text =
    if begins_ssa text then (ssa_at (past is_blank text) >>= λ ssa. ssas_at n ssa.1 >>= λ more. Ok (ssa.0 ∷ more.0, more.1))
    else Ok ([], text)

abbrev pub is_end : List ℕ → Bool
is_end text = list_all is_blank text

-- a colon and a value, or nothing
unfoldable pub given_at : List ℕ → Result (Option Value) Fault
given_at [] = Ok None
given_at (b ∷ rest) =
    if b == 58 then (value_at (past is_blank rest) >>= λ value. if is_end value.1 then Ok (Some value.0) else Err faults.Form)
    else Err faults.Form

unfoldable pub call_at : List ℕ → List ℕ → Result Line Fault
call_at session text = do
  func ← word_at (past is_blank text)
  ssas ← ssas_at (length func.1) func.1
  content ← given_at (past is_blank ssas.1)
  Ok (lines.Call (record { session = session; func = func.0; ssas = ssas.0; content = content }))

unfoldable pub session_at : List ℕ → Result (List ℕ × List ℕ) Fault
session_at text = do
  name ← name_at text
  if is_reserved name.0 then Err faults.Form else Ok (name.0, name.1)

unfoldable pub index_at : List ℕ → Result (Option (List ℕ)) Fault
index_at [] = Ok None
index_at (b ∷ rest) = do
  name ← name_at (b ∷ rest)
  if is_end name.1 then Ok (Some name.0) else Err faults.Form

unfoldable pub open_at : List ℕ → Result Line Fault
open_at text = do
  session ← session_at (past is_blank text)
  options ← word_at (past is_blank session.1)
  index ← index_at (past is_blank options.1)
  Ok (lines.Open (record { session = session.0; options = options.0; index = index }))

unfoldable pub count_at : List ℕ → Result (ℕ × List ℕ) Fault
count_at text =
    if is_number (take_while in_word text)
    then (if is_count (take_while in_word text) then Ok (number_of (take_while in_word text), past in_word text) else Err faults.Count)
    else Err faults.Form

-- the commands that name nothing but a partition
abbrev pub plain_command : List ℕ → Option Command
plain_command word =
    if bytes_eq word (codes "START") then Some Start
    else if bytes_eq word (codes "PAUSE") then Some Pause
    else if bytes_eq word (codes "RESUME") then Some Resume
    else if bytes_eq word (codes "FINISH") then Some Finish
    else if bytes_eq word (codes "QUERY") then Some Query
    else None

abbrev pub or_form : Option Command → List ℕ → Result (Command × List ℕ) Fault
or_form None text = Err faults.Form
or_form (Some command) text = Ok (command, text)

-- the command of this word, behind its partition
unfoldable pub command_at : List ℕ → List ℕ → Result (Command × List ℕ) Fault
command_at word text =
    if bytes_eq word (codes "STEP") then (count_at (past is_blank text) >>= λ count. Ok (Step count.0, count.1))
    else or_form (plain_command word) text

unfoldable pub reorg_at : List ℕ → Result Line Fault
reorg_at text = do
  word ← name_at (past is_blank text)
  part ← name_at (past is_blank word.1)
  command ← command_at word.0 part.1
  if is_end command.1 then Ok (lines.Reorg part.0 command.0) else Err faults.Form

unfoldable pub form_at : List ℕ → Result Line Fault
form_at text = do
  first ← name_at (past is_blank text)
  if bytes_eq first.0 (codes "PCB") then open_at first.1 else if bytes_eq first.0 (codes "REORG") then reorg_at first.1 else call_at first.0 first.1

abbrev pub cause_of : Fault → ℕ
cause_of faults.Form = 3
cause_of faults.Value = 4
cause_of faults.Count = 5

abbrev pub line_or_cause : Result Line Fault → Line
line_or_cause (Ok line) = line
line_or_cause (Err fault) = lines.Bad (cause_of fault)

-- the line of a text, without the text's end of line
unfoldable pub line_of : List ℕ → Line
line_of text =
    if is_silent text then lines.Silent
    else if nat_lt 8192 (length text) then lines.Bad 1
    else if list_all is_printable text then line_or_cause (form_at text)
    else lines.Bad 2
