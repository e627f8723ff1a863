-- The operands that a statement takes, and the rule that one of them breaks: a thing left out by name comes
-- before an operand that isn't taken or stands twice, and this before a value that isn't readable.
use Rattle.hal_base.specs.Reading.{◌>>=◌}
use Rattle.std.specs.Prelude.{ℕ, ◌==◌, ◌||◌, Bool, true, false, if◌then◌else◌, List, length, Option, Some, None, Result, Ok, Err, codes}
use Rattle.std.specs.List.{list_any}
use Rattle.std.specs.Option.{option_map_or}
use Rattle.std.specs.Str.{bytes_eq}
use Rattle.dbd_reader.specs.declared.word.Word.{Word}
use Rattle.dbd_reader.specs.declared.word.Word.TheVariants as words
use Rattle.dbd_reader.specs.declared.operand.Operand.{Operand}
use Rattle.dbd_reader.specs.Operands.{has_twins}
use Rattle.dbd_reader.specs.Values.{name_value, access_value, rmname_value, parent_value, bytes_value, rules_value, letter_value, keyed_value, number_value, child_value, index_value, search_value, fields_value}

abbrev pub is_left_out : List ℕ → Bool
is_left_out key = bytes_eq key (codes "COMPRTN") || bytes_eq key (codes "EXIT") || bytes_eq key (codes "PSNAME") || bytes_eq key (codes "DDATA") || bytes_eq key (codes "CONST") || bytes_eq key (codes "EXTRTN") || bytes_eq key (codes "NULLVAL")

abbrev pub dbd_takes : List ℕ → Bool
dbd_takes key = bytes_eq key (codes "NAME") || bytes_eq key (codes "ACCESS") || bytes_eq key (codes "RMNAME") || bytes_eq key (codes "VERSION")

abbrev pub segm_takes : List ℕ → Bool
segm_takes key = bytes_eq key (codes "NAME") || bytes_eq key (codes "PARENT") || bytes_eq key (codes "BYTES") || bytes_eq key (codes "RULES") || bytes_eq key (codes "DSGROUP") || bytes_eq key (codes "PTR") || bytes_eq key (codes "POINTER") || bytes_eq key (codes "FREQ")

abbrev pub field_takes : List ℕ → Bool
field_takes key = bytes_eq key (codes "NAME") || bytes_eq key (codes "BYTES") || bytes_eq key (codes "START") || bytes_eq key (codes "TYPE")

abbrev pub lchild_takes : List ℕ → Bool
lchild_takes key = bytes_eq key (codes "NAME") || bytes_eq key (codes "PTR")

abbrev pub xdfld_takes : List ℕ → Bool
xdfld_takes key = bytes_eq key (codes "NAME") || bytes_eq key (codes "SEGMENT") || bytes_eq key (codes "SRCH") || bytes_eq key (codes "SUBSEQ")

unfoldable pub takes : Word → List ℕ → Bool
takes words.Dbd key = dbd_takes key
takes words.Segm key = segm_takes key
takes words.Field key = field_takes key
takes words.Lchild key = lchild_takes key
takes words.Xdfld key = xdfld_takes key
takes _ key = false

-- whether it reads, and nothing of what it says
abbrev pub done : {A : Type 0} → Result A ℕ → Result (Unit {0}) ℕ
done read = read >>= λ _. Ok tt

-- what is taken and not named here is ignored
unfoldable pub dbd_verdict : List ℕ → List ℕ → Result (Unit {0}) ℕ
dbd_verdict key value = if bytes_eq key (codes "NAME") then done (name_value value) else if bytes_eq key (codes "ACCESS") then done (access_value value) else if bytes_eq key (codes "RMNAME") then done (rmname_value value) else Ok tt

unfoldable pub segm_verdict : List ℕ → List ℕ → Result (Unit {0}) ℕ
segm_verdict key value = if bytes_eq key (codes "NAME") then done (name_value value) else if bytes_eq key (codes "PARENT") then done (parent_value value) else if bytes_eq key (codes "BYTES") then done (bytes_value value)
    else if bytes_eq key (codes "RULES") then done (rules_value value) else if bytes_eq key (codes "DSGROUP") then done (letter_value value) else Ok tt

unfoldable pub field_verdict : List ℕ → List ℕ → Result (Unit {0}) ℕ
field_verdict key value = if bytes_eq key (codes "NAME") then done (keyed_value value) else if bytes_eq key (codes "BYTES") || bytes_eq key (codes "START") then done (number_value value) else Ok tt

unfoldable pub lchild_verdict : List ℕ → List ℕ → Result (Unit {0}) ℕ
lchild_verdict key value = if bytes_eq key (codes "NAME") then done (child_value value) else index_value value

unfoldable pub xdfld_verdict : List ℕ → List ℕ → Result (Unit {0}) ℕ
xdfld_verdict key value = if bytes_eq key (codes "SRCH") then done (search_value value) else if bytes_eq key (codes "SUBSEQ") then done (fields_value value) else done (name_value value)

unfoldable pub value_verdict : Word → List ℕ → List ℕ → Result (Unit {0}) ℕ
value_verdict words.Dbd key value = dbd_verdict key value
value_verdict words.Segm key value = segm_verdict key value
value_verdict words.Field key value = field_verdict key value
value_verdict words.Lchild key value = lchild_verdict key value
value_verdict words.Xdfld key value = xdfld_verdict key value
value_verdict _ key value = Ok tt

-- a value of one byte or more
abbrev pub given : Option (List ℕ) → Result (List ℕ) ℕ
given None = Err 17
given (Some value) = if length value == 0 then Err 17 else Ok value

unfoldable pub verdict : Word → Operand → Result (Unit {0}) ℕ
verdict word o = if is_left_out o.key then Err 18 else if takes word o.key then (given o.value >>= value_verdict word o.key) else Err 15

abbrev pub rule_of : Result (Unit {0}) ℕ → Option ℕ
rule_of (Ok _) = None
rule_of (Err rule) = Some rule

abbrev pub is_rule : ℕ → Option ℕ → Bool
is_rule rule None = false
is_rule rule (Some broken) = broken == rule

-- an operand breaks this rule
abbrev pub breaks : ℕ → Word → Operand → Bool
breaks rule word o = is_rule rule (rule_of (verdict word o))

-- the operands of a statement break no rule
unfoldable pub checked : Word → List Operand → Result (Unit {0}) ℕ
checked word operands = if list_any (breaks 18 word) operands then Err 18 else if list_any (breaks 15 word) operands || has_twins operands then Err 15 else if list_any (breaks 17 word) operands then Err 17 else Ok tt
