-- The text of a reply.
use Rattle.std.specs.Prelude.{ℕ, ◌==◌, if◌then◌else◌, List, [], ◌∷◌, ◌++◌, Option, Some, None, codes}
use Rattle.std.specs.Str.{bytes_eq}
use Rattle.std.specs.Fmt.{decimal}
use Rattle.hal_base.specs.declared.place.Cursor.{Cursor}
use Rattle.hal_base.specs.declared.place.Cursor.TheVariants.{Front, At, Anchors}
use Rattle.call_text.specs.declared.reply.SegOut.{SegOut}
use Rattle.call_text.specs.declared.reply.PartOut.{PartOut}
use Rattle.call_text.specs.declared.reply.Reply.{Reply}
use Rattle.call_text.specs.Printing.{printed_value}

-- the line's number; in a crew the worker's number and a point before it
abbrev pub line_number : Option ℕ → ℕ → List ℕ
line_number None number = decimal number
line_number (Some script) number = decimal script ++ 46 ∷ decimal number

-- a blank status is printed as --
abbrev pub status_text : List ℕ → List ℕ
status_text status = if bytes_eq status (codes "  ") then codes "--" else status

-- each word that follows has a blank before it
abbrev pub content_text : Option (List ℕ) → List ℕ
content_text None = []
content_text (Some content) = 32 ∷ printed_value content

abbrev pub segment_text : Option SegOut → List ℕ
segment_text None = []
segment_text (Some out) = 32 ∷ out.seg ++ 32 ∷ printed_value out.key ++ content_text out.content

-- of the letters I, C and P
abbrev pub state_text : ℕ → List ℕ
state_text state = if state == 73 then codes "IDLE" else if state == 67 then codes "ACTIVE" else codes "PAUSED"

-- where a reorganization stands: nowhere, at a root key, or at a count of anchors
abbrev pub cursor_text : Cursor → List ℕ
cursor_text Front = codes "-"
cursor_text (At key) = printed_value key
cursor_text (Anchors count) = decimal count

abbrev pub partition_text : Option PartOut → List ℕ
partition_text None = []
partition_text (Some out) = 32 ∷ out.part ++ 32 ∷ decimal out.number ++ 32 ∷ out.side ∷ 32 ∷ state_text out.state ++ 32 ∷ cursor_text out.cursor

-- a cause or a need
abbrev pub number_text : Option ℕ → List ℕ
number_text None = []
number_text (Some number) = 32 ∷ decimal number

-- a reply, with its line's end
abbrev pub reply_text : Option ℕ → ℕ → Reply → List ℕ
reply_text script number reply =
    line_number script number ++ 32 ∷ status_text reply.status ++ segment_text reply.seg ++ partition_text reply.part ++ number_text reply.number ++ 10 ∷ []
