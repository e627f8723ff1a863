-- The grammar: which texts spell a line. Lower-case letters outside quotes are as good as upper-case ones, and
-- blanks stand where the forms have a gap (none or more) or room (one or more).
use Rattle.hal_base.specs.Bytes.{is_printable}
use Rattle.hal_base.specs.Numbers.{number_of}
use Rattle.std.specs.Prelude.{◌≡◌, ℕ, ◌+◌, ◌*◌, ◌<◌, ◌≤◌, ◌||◌, Bool, true, false, ◌==◌, ◌⊎◌, List, [], ◌∷◌, ◌++◌, length, map, Option, Some, None, codes}
use Rattle.std.specs.List.{list_all}
use Rattle.hal_base.specs.Name.{is_name, upper}
use Rattle.call_text.specs.declared.line.Value.{Value}
use Rattle.call_text.specs.declared.line.Value.TheVariants.{Text, Hex}
use Rattle.call_text.specs.declared.line.Clause.{Clause}
use Rattle.call_text.specs.declared.line.Ssa.{Ssa}
use Rattle.call_text.specs.declared.line.Call.{Call}
use Rattle.call_text.specs.declared.line.Open.{Open}
use Rattle.call_text.specs.declared.line.Command.{Command}
use Rattle.call_text.specs.declared.line.Command.TheVariants.{Start, Step, Pause, Resume, Finish, Query}
use Rattle.call_text.specs.declared.line.Line.{Line}
use Rattle.call_text.specs.declared.line.Line.TheVariants as lines
use Rattle.call_text.specs.Printing.{quoted}
use Rattle.call_text.specs.Printed.{is_sign, command_word}
use Rattle.call_text.specs.Words.{is_blank, is_letter, is_word, is_number, is_count, is_hex, hex_value, printed_operator, is_reserved, is_silent}

abbrev pub IsGap : List ℕ → Type 0
IsGap gap = list_all is_blank gap ≡ true

pub record IsRoom (room : List ℕ) : Type 0 where
  pub blanks : IsGap room
  pub some : 0 < length room

pub record SpellsName (text name : List ℕ) : Type 0 where
  pub spelled : map upper text ≡ name
  pub is : is_name name ≡ true

-- options, functions and codes
pub record SpellsWord (text word : List ℕ) : Type 0 where
  pub spelled : map upper text ≡ word
  pub is : is_word word ≡ true

-- two hexadecimal digits a byte
abbrev pub SpellsPairs : List ℕ → List ℕ → Type 0
SpellsPairs [] [] = Unit {0}
SpellsPairs [] (x ∷ xs) = ⊥
SpellsPairs (a ∷ []) bytes = ⊥
SpellsPairs (a ∷ b ∷ digits) [] = ⊥
SpellsPairs (a ∷ b ∷ digits) (x ∷ xs) = (is_hex a ≡ true) × (is_hex b ≡ true) × (x ≡ 16 * hex_value a + hex_value b) × SpellsPairs digits xs

-- X and quoted digits, one byte or more
pub record SpellsHex (text bytes : List ℕ) : Type 0 where
  pub mark : ℕ
  pub digits : List ℕ
  pub whole : text ≡ mark ∷ 39 ∷ digits ++ 39 ∷ []
  pub mark_is : upper mark ≡ 88
  pub some : 0 < length bytes
  pub pairs : SpellsPairs digits bytes

-- quoted text of printable bytes, or bytes in hexadecimal
abbrev pub SpellsValue : List ℕ → Value → Type 0
SpellsValue text (Text bytes) = (text ≡ quoted bytes) × (list_all is_printable bytes ≡ true)
SpellsValue text (Hex bytes) = SpellsHex text bytes

-- a run of signs, with gaps round it
pub record SpellsSigns (text op : List ℕ) : Type 0 where
  pub before : List ℕ
  pub signs : List ℕ
  pub after : List ℕ
  pub whole : text ≡ before ++ (signs ++ after)
  pub before_is : IsGap before
  pub after_is : IsGap after
  pub some : 0 < length signs
  pub all : list_all is_sign signs ≡ true
  pub printed : op ≡ printed_operator signs

-- a word of letters, with room on both sides
pub record SpellsOperatorWord (text op : List ℕ) : Type 0 where
  pub before : List ℕ
  pub word : List ℕ
  pub after : List ℕ
  pub whole : text ≡ before ++ (word ++ after)
  pub before_is : IsRoom before
  pub after_is : IsRoom after
  pub some : 0 < length word
  pub all : list_all is_letter (map upper word) ≡ true
  pub printed : op ≡ printed_operator (map upper word)

abbrev pub SpellsOperator : List ℕ → List ℕ → Type 0
SpellsOperator text op = SpellsSigns text op ⊎ SpellsOperatorWord text op

pub record SpellsClause (text : List ℕ) (clause : Clause) : Type 0 where
  pub field : List ℕ
  pub op : List ℕ
  pub value : List ℕ
  pub whole : text ≡ field ++ (op ++ value)
  pub field_is : SpellsName field clause.field
  pub op_is : SpellsOperator op clause.op
  pub value_is : SpellsValue value clause.value

-- a clause behind its connector, with gaps round it, and what stands behind
pub record StandsBefore (text : List ℕ) (or : Bool) (clause : Clause) (rest : List ℕ) : Type 0 where
  pub before : List ℕ
  pub written : List ℕ
  pub after : List ℕ
  pub whole : text ≡ before ++ (written ++ (after ++ rest))
  pub before_is : IsGap before
  pub after_is : IsGap after
  pub spells : SpellsClause written clause
  pub joined : clause.or ≡ or

-- `|` and `+` are an or, `&` and `*` an and
abbrev pub is_connector : Bool → ℕ → Bool
is_connector true b = b == 124 || b == 43
is_connector false b = b == 38 || b == 42

-- from behind the parenthesis or connector up to and with the closing parenthesis
abbrev pub SpellsClauses : List ℕ → Bool → Clause → List Clause → Type 0
SpellsClauses text or first [] = StandsBefore text or first (41 ∷ [])
SpellsClauses text or first (next ∷ more) =
    (sign : ℕ) × (rest : List ℕ)
    × (is_connector next.or sign ≡ true) × StandsBefore text or first (sign ∷ rest) × SpellsClauses rest next.or next more

abbrev pub SpellsQualification : List ℕ → List Clause → Type 0
SpellsQualification text [] = text ≡ []
SpellsQualification text (first ∷ more) = (gap : List ℕ) × (inside : List ℕ) × IsGap gap × SpellsClauses inside false first more × (text ≡ gap ++ 40 ∷ inside)

abbrev pub SpellsCodes : List ℕ → List ℕ → Type 0
SpellsCodes text [] = text ≡ []
SpellsCodes text (code ∷ more) = (word : List ℕ) × SpellsWord word (code ∷ more) × (text ≡ 42 ∷ word)

pub record SpellsSsa (text : List ℕ) (ssa : Ssa) : Type 0 where
  pub seg : List ℕ
  pub code : List ℕ
  pub clauses : List ℕ
  pub whole : text ≡ seg ++ (code ++ clauses)
  pub seg_is : SpellsName seg ssa.seg
  pub code_is : SpellsCodes code ssa.codes
  pub clauses_is : SpellsQualification clauses ssa.clauses

abbrev pub SpellsSsas : List ℕ → List Ssa → Type 0
SpellsSsas text [] = text ≡ []
SpellsSsas text (ssa ∷ more) =
    (room : List ℕ) × (written : List ℕ) × (rest : List ℕ)
    × IsRoom room × SpellsSsa written ssa × SpellsSsas rest more × (text ≡ room ++ (written ++ rest))

-- a colon and a value, or nothing; to the end of the line
abbrev pub SpellsGiven : List ℕ → Option Value → Type 0
SpellsGiven text None = IsGap text
SpellsGiven text (Some value) =
    (before : List ℕ) × (after : List ℕ) × (written : List ℕ) × (behind : List ℕ)
    × IsGap before × IsGap after × SpellsValue written value × IsGap behind × (text ≡ before ++ 58 ∷ (after ++ (written ++ behind)))

pub record SpellsCall (text : List ℕ) (call : Call) : Type 0 where
  pub session : List ℕ
  pub room : List ℕ
  pub func : List ℕ
  pub ssas : List ℕ
  pub content : List ℕ
  pub whole : text ≡ session ++ (room ++ (func ++ (ssas ++ content)))
  pub session_is : SpellsName session call.session
  pub free : is_reserved call.session ≡ false
  pub room_is : IsRoom room
  pub func_is : SpellsWord func call.func
  pub ssas_is : SpellsSsas ssas call.ssas
  pub content_is : SpellsGiven content call.content

-- an index's name, or nothing; to the end of the line
abbrev pub SpellsIndex : List ℕ → Option (List ℕ) → Type 0
SpellsIndex text None = IsGap text
SpellsIndex text (Some name) =
    (room : List ℕ) × (written : List ℕ) × (behind : List ℕ)
    × IsRoom room × SpellsName written name × IsGap behind × (text ≡ room ++ (written ++ behind))

pub record SpellsOpen (text : List ℕ) (request : Open) : Type 0 where
  pub word : List ℕ
  pub first : List ℕ
  pub session : List ℕ
  pub second : List ℕ
  pub options : List ℕ
  pub index : List ℕ
  pub whole : text ≡ word ++ (first ++ (session ++ (second ++ (options ++ index))))
  pub word_is : SpellsName word (codes "PCB")
  pub first_is : IsRoom first
  pub session_is : SpellsName session request.session
  pub free : is_reserved request.session ≡ false
  pub second_is : IsRoom second
  pub options_is : SpellsWord options request.options
  pub index_is : SpellsIndex index request.index

-- the groups of a STEP, which no other command has
abbrev pub SpellsCount : List ℕ → Command → Type 0
SpellsCount text Start = text ≡ []
SpellsCount text (Step groups) =
    (room : List ℕ) × (digits : List ℕ)
    × IsRoom room × (is_number digits ≡ true) × (is_count digits ≡ true) × (groups ≡ number_of digits) × (text ≡ room ++ digits)
SpellsCount text Pause = text ≡ []
SpellsCount text Resume = text ≡ []
SpellsCount text Finish = text ≡ []
SpellsCount text Query = text ≡ []

pub record SpellsReorg (text part : List ℕ) (command : Command) : Type 0 where
  pub word : List ℕ
  pub first : List ℕ
  pub verb : List ℕ
  pub second : List ℕ
  pub name : List ℕ
  pub count : List ℕ
  pub behind : List ℕ
  pub whole : text ≡ word ++ (first ++ (verb ++ (second ++ (name ++ (count ++ behind)))))
  pub word_is : SpellsName word (codes "REORG")
  pub first_is : IsRoom first
  pub verb_is : SpellsName verb (command_word command)
  pub second_is : IsRoom second
  pub name_is : SpellsName name part
  pub count_is : SpellsCount count command
  pub behind_is : IsGap behind

-- a form, up to the end of the line
abbrev pub SpellsForm : List ℕ → Line → Type 0
SpellsForm text lines.Silent = ⊥
SpellsForm text (lines.Call call) = SpellsCall text call
SpellsForm text (lines.Open request) = SpellsOpen text request
SpellsForm text (lines.Reorg part command) = SpellsReorg text part command
SpellsForm text (lines.Bad cause) = ⊥

-- a form with a gap before it, in a text of at most 8,192 bytes, each of them printable
pub record SpellsWhole (text : List ℕ) (line : Line) : Type 0 where
  pub gap : List ℕ
  pub form : List ℕ
  pub whole : text ≡ gap ++ form
  pub gap_is : IsGap gap
  pub form_is : SpellsForm form line
  pub short : length text ≤ 8192
  pub printable : list_all is_printable text ≡ true

abbrev pub Spells : List ℕ → Line → Type 0
Spells text lines.Silent = is_silent text ≡ true
Spells text (lines.Call call) = SpellsWhole text (lines.Call call)
Spells text (lines.Open request) = SpellsWhole text (lines.Open request)
Spells text (lines.Reorg part command) = SpellsWhole text (lines.Reorg part command)
Spells text (lines.Bad cause) = ⊥
