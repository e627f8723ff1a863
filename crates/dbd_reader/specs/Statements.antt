-- The statements of lines: a statement's first line, and those on which it goes on.
use Rattle.std.specs.Prelude.{ℕ, ◌+◌, ◌-◌, ◌||◌, Bool, true, false, if◌then◌else◌, List, [], ◌∷◌, ◌++◌, length, take, Option, Some, None, is_some}
use Rattle.dbd_reader.specs.declared.statement.Statement.{Statement}
use Rattle.dbd_reader.specs.Lines.{is_comment, is_marked, is_readable}
use Rattle.dbd_reader.specs.Words.{is_blank, past, operands_of, comment_of, ends_in_comma}

-- the line, where a byte of it isn't readable
abbrev pub bad_at : ℕ → List ℕ → Option ℕ
bad_at n line = if is_readable line then None else Some n

-- its text is columns 1 to 71 of its lines; `marked` tells of column 72 of the last one, `next` is the number of the line behind
unfoldable pub begun : ℕ → List ℕ → Statement
begun n line = record { line = n; text = take 71 line; marked = is_marked line; bad = bad_at n line; next = n + 1 }

-- a mark in column 72, or a trailing comma
unfoldable pub goes_on : Statement → Bool
goes_on s = s.marked || ends_in_comma (operands_of s.text)

-- the text that goes on: the comment behind a trailing comma is dropped
unfoldable pub carried : List ℕ → List ℕ
carried text = if ends_in_comma (operands_of text) then take (length text - length (comment_of text)) text else text

-- leading blanks of the next line don't count
unfoldable pub extended : Statement → List ℕ → Statement
extended s line = record {
  line = s.line;
  text = carried s.text ++ past is_blank (take 71 line);
  marked = is_marked line;
  bad = if is_some s.bad then s.bad else bad_at s.next line;
  next = s.next + 1;
}

-- one line more of a statement that goes on; comments between are passed over
unfoldable pub taken : Statement → List ℕ → Statement
taken s line = if is_comment line then record s { next = s.next + 1 } else extended s line

-- the statements of lines, whose first has the number n, behind a statement that may go on
unfoldable pub statements : ℕ → Option Statement → List (List ℕ) → List Statement
statements n None [] = []
statements n (Some s) [] = s ∷ []
statements n None (l ∷ ls) = if is_comment l then statements (n + 1) None ls else statements (n + 1) (Some (begun n l)) ls
statements n (Some s) (l ∷ ls) = if goes_on s then statements (n + 1) (Some (taken s l)) ls else s ∷ (if is_comment l then statements (n + 1) None ls else statements (n + 1) (Some (begun n l)) ls)
