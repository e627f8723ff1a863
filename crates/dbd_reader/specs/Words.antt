-- Words of a statement: what stands between blanks.
use Rattle.std.specs.Prelude.{ℕ, ◌-◌, ◌&&◌, Bool, true, false, not, nat_le, ◌==◌, if◌then◌else◌, List, [], ◌∷◌, length, map, drop, Option, Some, None, option_and_then, is_some, codes}
use Rattle.std.specs.List.{prefix_len, take_while, slice_get}
use Rattle.std.specs.Option.{option_map_or}
use Rattle.std.specs.Str.{bytes_eq}
use Rattle.hal_base.specs.Name.{is_name, upper}
use Rattle.dbd_reader.specs.declared.word.Word.{Word}
use Rattle.dbd_reader.specs.declared.word.Word.TheVariants as words

abbrev pub is_blank : ℕ → Bool
is_blank b = b == 32

abbrev pub is_dark : ℕ → Bool
is_dark b = not (b == 32)

-- what stands behind the longest run at the front of bytes that pass
abbrev pub past : (ℕ → Bool) → List ℕ → List ℕ
past test text = drop (prefix_len test text) text

-- the first word, behind leading blanks
abbrev pub word_at : List ℕ → List ℕ
word_at text = take_while is_dark (past is_blank text)

abbrev pub behind_word : List ℕ → List ℕ
behind_word text = past is_dark (past is_blank text)

-- the name that a text spells
abbrev pub name_in : List ℕ → Option (List ℕ)
name_in text = if is_name (map upper text) then Some (map upper text) else None

-- TITLE, PRINT, SPACE and EJECT are passed over
abbrev pub word_named : List ℕ → Option Word
word_named name = if bytes_eq name (codes "DBD") then Some words.Dbd else if bytes_eq name (codes "DATASET") then Some words.Dataset else if bytes_eq name (codes "SEGM") then Some words.Segm
    else if bytes_eq name (codes "FIELD") then Some words.Field else if bytes_eq name (codes "LCHILD") then Some words.Lchild else if bytes_eq name (codes "XDFLD") then Some words.Xdfld
    else if bytes_eq name (codes "DBDGEN") then Some words.Dbdgen else if bytes_eq name (codes "FINISH") then Some words.Finish else if bytes_eq name (codes "END") then Some words.End
    else if bytes_eq name (codes "TITLE") then Some words.Passed else if bytes_eq name (codes "PRINT") then Some words.Passed else if bytes_eq name (codes "SPACE") then Some words.Passed
    else if bytes_eq name (codes "EJECT") then Some words.Passed else None

-- the statement word that a text spells
unfoldable pub statement_word : List ℕ → Option Word
statement_word text = option_and_then word_named (name_in text)

-- the text from its statement word on: a first word that is none is a label
unfoldable pub from_word : List ℕ → List ℕ
from_word text = if is_some (statement_word (word_at text)) then text else behind_word text

-- the statement word of a text
unfoldable pub word_of : List ℕ → Option Word
word_of text = statement_word (word_at (from_word text))

-- the operands, up to their first blank; what stands behind is a comment
unfoldable pub operands_of : List ℕ → List ℕ
operands_of text = word_at (behind_word (from_word text))

unfoldable pub comment_of : List ℕ → List ℕ
comment_of text = behind_word (behind_word (from_word text))

abbrev pub ends_in_comma : List ℕ → Bool
ends_in_comma operands = option_map_or (λ b. b == 44) (slice_get operands (length operands - 1)) false
