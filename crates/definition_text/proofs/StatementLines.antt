-- A statement that was laid on lines reads back as one statement, whose text is the statement.
use Rattle.std.proofs.Common.{◌≡◌, ℕ, zero, suc, ◌+◌, ◌-◌, ◌<◌, ◌≤◌, Bool, true, false, ◌==◌, nat_le, cond, List, [], ◌∷◌, ◌++◌, length, take, drop, Some, None, slice_index, refl, sym, ap, ◌∙◌, arith, append_assoc, length-append, flat_map}
use Rattle.std.proofs.lemmas.Bool.{and_parts, and_from, leb-true, le-leb}
use Rattle.std.proofs.lemmas.Bool.Decides.{nat_tests}
use Rattle.std.proofs.lemmas.List.{take_all, append-nil}
use Rattle.std.proofs.lemmas.List.Splits.{slice_split-cons_no, slice_split-cons_yes, length-slice_split}
use Rattle.std.proofs.lemmas.Option.{slice_get_past}
use Rattle.std.specs.List.{list_all, slice_split, onto_first, prefix_len, take_while}
use Rattle.std.specs.Str.Lines.{lines, lines_of_parts, strip_carriage_return}
use Rattle.dbd_reader.specs.declared.statement.Statement.{Statement}
use Rattle.hal_base.specs.Bytes.{is_printable}
use Rattle.dbd_reader.specs.Lines.{is_comment, is_marked}
use Rattle.dbd_reader.specs.Words.{is_blank, is_dark, past, word_at, behind_word, from_word, operands_of, comment_of, ends_in_comma}
use Rattle.dbd_reader.specs.Statements.{bad_at, begun, goes_on, carried, extended, taken, statements}
use Rattle.definition_printer.specs.Wrapped.{on_lines}

-- ---- rows

-- what of the pieces goes on a line that has so much room, and the lines behind it
abbrev pub first_row : ℕ → List (List ℕ) → List ℕ
first_row room [] = []
first_row room (p ∷ ps) = cond (nat_le (length p) room) (p ++ first_row (room - length p) ps) []

abbrev pub later_rows : ℕ → List (List ℕ) → List (List ℕ)
later_rows room [] = []
later_rows room (p ∷ ps) = cond (nat_le (length p) room) (later_rows (room - length p) ps) ((32 ∷ p ++ first_row (70 - length p) ps) ∷ later_rows (70 - length p) ps)

abbrev pub ended : List ℕ → List ℕ
ended row = row ++ 10 ∷ []

rows_by : (v : Bool) (room : ℕ) (p : List ℕ) (ps : List (List ℕ)) → nat_le (length p) room ≡ v → ((r : ℕ) → on_lines r ps ≡ first_row r ps ++ 10 ∷ flat_map ended (later_rows r ps))
    → on_lines room (p ∷ ps) ≡ first_row room (p ∷ ps) ++ 10 ∷ flat_map ended (later_rows room (p ∷ ps))
unfolding on_lines
rows_by true room p ps e more =
    let r : ℕ = room - length p in
    rw e (ap (λ (xs : List ℕ). p ++ xs) (more r) ∙ sym (append_assoc p (first_row r ps) (10 ∷ flat_map ended (later_rows r ps))))
rows_by false room p ps e more =
    let r : ℕ = 70 - length p in
    let row : List ℕ = first_row r ps in
    let behind : List ℕ = flat_map ended (later_rows r ps) in
    let laid : p ++ on_lines r ps ≡ ((p ++ row) ++ 10 ∷ []) ++ behind =
    ap (λ (xs : List ℕ). p ++ xs) (more r) ∙ sym (append_assoc p row (10 ∷ behind)) ∙ sym (append_assoc (p ++ row) (10 ∷ []) behind) in
    rw e (ap (λ (xs : List ℕ). 10 ∷ 32 ∷ xs) laid)

pub rows_text : (room : ℕ) (ps : List (List ℕ)) → on_lines room ps ≡ first_row room ps ++ 10 ∷ flat_map ended (later_rows room ps)
unfolding on_lines
rows_text room [] = refl
rows_text room (p ∷ ps) = rows_by (nat_le (length p) room) room p ps refl (λ r. rows_text r ps)

-- ---- lines of a text

abbrev ends : ℕ → Bool
ends b = b == 10

pub printable_no_end : (b : ℕ) → is_printable b ≡ true → (b == 10) ≡ false
printable_no_end b h = grind (arith, nat_tests)

printable_no_return : (b : ℕ) → is_printable b ≡ true → (b == 13) ≡ false
printable_no_return b h = grind (arith, nat_tests)

row_split : (row rest : List ℕ) → list_all is_printable row ≡ true → slice_split ends (row ++ 10 ∷ rest) ≡ row ∷ slice_split ends rest
row_split [] rest h = slice_split-cons_yes ends 10 rest refl
row_split (b ∷ row) rest h =
    let (here, more) = and_parts (is_printable b) (list_all is_printable row) h in
    slice_split-cons_no ends b (row ++ 10 ∷ rest) (printable_no_end b here) ∙ ap (onto_first b) (row_split row rest more)

no_return : (row : List ℕ) (k : ℕ) → list_all is_printable row ≡ true → (slice_index row k == 13) ≡ false
no_return [] k h = refl
no_return (b ∷ row) zero h = printable_no_return b (and_parts (is_printable b) (list_all is_printable row) h).0
no_return (b ∷ row) (suc k) h = no_return row k (and_parts (is_printable b) (list_all is_printable row) h).1

parts_first : (row : List ℕ) (parts : List (List ℕ)) → 0 < length parts → lines_of_parts (row ∷ parts) ≡ strip_carriage_return row ∷ lines_of_parts parts
parts_first row [] some = absurd (omega arith)
parts_first row (y ∷ more) some = refl

pub row_line : (row rest : List ℕ) → list_all is_printable row ≡ true → lines (row ++ 10 ∷ rest) ≡ row ∷ lines rest
row_line row rest h =
    let count = length-slice_split ends rest in
    let some : 0 < length (slice_split ends rest) = omega (arith, count) in
    let whole : strip_carriage_return row ≡ row = rw (no_return row (length row - 1) h) refl in
    ap lines_of_parts (row_split row rest h) ∙ parts_first row (slice_split ends rest) some ∙ ap (λ (l : List ℕ). l ∷ lines rest) whole

pub row_lines : (rows : List (List ℕ)) (rest : List ℕ) → list_all (list_all is_printable) rows ≡ true → lines (flat_map ended rows ++ rest) ≡ rows ++ lines rest
row_lines [] rest h = refl
row_lines (row ∷ rows) rest h =
    let (here, more) = and_parts (list_all is_printable row) (list_all (list_all is_printable) rows) h in
    let behind : List ℕ = flat_map ended rows in
    ap lines (append_assoc (ended row) behind rest ∙ append_assoc row (10 ∷ []) (behind ++ rest)) ∙ row_line row (behind ++ rest) here
    ∙ ap (λ (ls : List (List ℕ)). row ∷ ls) (row_lines rows rest more)

-- ---- a statement word and its operands

-- a statement word as it stands in front of operands
pub record IsHead (word : List ℕ) : Type 0 where
  pub kept : (front : List ℕ) → from_word (word ++ 32 ∷ front) ≡ word ++ 32 ∷ front
  pub behind : (front : List ℕ) → behind_word (word ++ 32 ∷ front) ≡ 32 ∷ front

blanks_none : (front : List ℕ) → list_all is_dark front ≡ true → prefix_len is_blank front ≡ 0
blanks_none [] h = refl
blanks_none (b ∷ front) h =
    let (here, more) = and_parts (is_dark b) (list_all is_dark front) h in
    let no : is_blank b ≡ false = grind (arith, nat_tests) in
    rw no refl

blanks_kept : (front : List ℕ) → list_all is_dark front ≡ true → past is_blank front ≡ front
blanks_kept front h = ap (λ n. drop n front) (blanks_none front h)

dark_all : (front : List ℕ) → list_all is_dark front ≡ true → take_while is_dark front ≡ front
dark_all [] h = refl
dark_all (b ∷ front) h =
    let (here, more) = and_parts (is_dark b) (list_all is_dark front) h in
    let one : 1 + prefix_len is_dark front ≡ suc (prefix_len is_dark front) = omega arith in
    rw (here, one) (ap (λ (xs : List ℕ). b ∷ xs) (dark_all front more))

dark_past : (front : List ℕ) → list_all is_dark front ≡ true → past is_dark front ≡ []
dark_past [] h = refl
dark_past (b ∷ front) h =
    let (here, more) = and_parts (is_dark b) (list_all is_dark front) h in
    let one : 1 + prefix_len is_dark front ≡ suc (prefix_len is_dark front) = omega arith in
    rw (here, one) (dark_past front more)

blank_past : (front : List ℕ) → list_all is_dark front ≡ true → past is_blank (32 ∷ front) ≡ front
blank_past front h =
    let one : 1 + prefix_len is_blank front ≡ suc (prefix_len is_blank front) = omega arith in
    rw one (blanks_kept front h)

pub operands_behind : (word front : List ℕ) → IsHead word → list_all is_dark front ≡ true → operands_of (word ++ 32 ∷ front) ≡ front
unfolding operands_of
operands_behind word front head h =
    ap (λ t. word_at (behind_word t)) (head.kept front) ∙ ap word_at (head.behind front) ∙ ap (take_while is_dark) (blank_past front h) ∙ dark_all front h

pub comment_none : (word front : List ℕ) → IsHead word → list_all is_dark front ≡ true → comment_of (word ++ 32 ∷ front) ≡ []
unfolding comment_of
comment_none word front head h =
    ap (λ t. behind_word (behind_word t)) (head.kept front) ∙ ap behind_word (head.behind front) ∙ ap (past is_dark) (blank_past front h) ∙ dark_past front h

pub carried_all : (word front : List ℕ) → IsHead word → list_all is_dark front ≡ true → carried (word ++ 32 ∷ front) ≡ word ++ 32 ∷ front
unfolding carried
carried_all word front head h = by (ends_in_comma (operands_of (word ++ 32 ∷ front)))
  where
    by : (v : Bool) → cond v (take (length (word ++ 32 ∷ front) - length (comment_of (word ++ 32 ∷ front))) (word ++ 32 ∷ front)) (word ++ 32 ∷ front) ≡ word ++ 32 ∷ front
    by true = ap (λ (c : List ℕ). take (length (word ++ 32 ∷ front) - length c) (word ++ 32 ∷ front)) (comment_none word front head h) ∙ take_all (length (word ++ 32 ∷ front) - 0) (word ++ 32 ∷ front) (omega arith)
    by false = refl

-- ---- statements

-- a statement of readable lines, none of them marked
abbrev pub laid : ℕ → List ℕ → ℕ → Statement
laid n text next = record { line = n; text = text; marked = false; bad = None; next = next }

unmarked : (row : List ℕ) → length row ≤ 71 → is_marked row ≡ false
unmarked row short = rw (slice_get_past row 71 short) refl

readable : (n : ℕ) (row : List ℕ) → list_all is_printable row ≡ true → length row ≤ 71 → bad_at n row ≡ None
readable n row prints short =
    let all : take 72 row ≡ row = take_all 72 row (omega arith) in
    rw (all, prints) refl

pub begun_row : (n : ℕ) (row : List ℕ) → list_all is_printable row ≡ true → length row ≤ 71 → begun n row ≡ laid n row (n + 1)
unfolding begun
begun_row n row prints short = rw (take_all 71 row short, unmarked row short, readable n row prints short) refl

-- a row behind a blank, whose first byte behind it is dark
row_no_comment : (b : ℕ) (row : List ℕ) → is_dark b ≡ true → is_comment (32 ∷ b ∷ row) ≡ false
row_no_comment b row h =
    let no : is_blank b ≡ false = grind (arith, nat_tests) in
    rw no refl

pub extended_row : (n next : ℕ) (word front : List ℕ) (b : ℕ) (row : List ℕ) → IsHead word → list_all is_dark front ≡ true → is_dark b ≡ true → list_all is_printable (b ∷ row) ≡ true → length (b ∷ row) ≤ 70
    → taken (laid n (word ++ 32 ∷ front) next) (32 ∷ b ∷ row) ≡ laid n ((word ++ 32 ∷ front) ++ b ∷ row) (next + 1)
unfolding taken extended
extended_row n next word front b row head dark first prints short =
    let no : is_blank b ≡ false = grind (arith, nat_tests) in
    let all : take 71 (32 ∷ b ∷ row) ≡ 32 ∷ b ∷ row = take_all 71 (32 ∷ b ∷ row) (omega arith) in
    let line_prints : list_all is_printable (32 ∷ b ∷ row) ≡ true = prints in
    rw (row_no_comment b row first, carried_all word front head dark, all, unmarked (32 ∷ b ∷ row) (omega arith), readable next (32 ∷ b ∷ row) line_prints (omega arith), no) refl

-- ---- all rows of a statement

-- a piece between commas, with its comma
pub record IsPiece (p : List ℕ) : Type 0 where
  pub some : 0 < length p
  pub short : length p ≤ 60
  pub dark : list_all is_dark p ≡ true
  pub prints : list_all is_printable p ≡ true

-- pieces that stand behind operands: all operands before a piece end with its comma, and the last ones don't
abbrev pub Stand : List ℕ → List (List ℕ) → Type 0
Stand front [] = ends_in_comma front ≡ false
Stand front (p ∷ ps) = (ends_in_comma front ≡ true) × IsPiece p × Stand (front ++ p) ps

unfoldable pub joined : List (List ℕ) → List ℕ
joined [] = []
joined (p ∷ ps) = p ++ joined ps

all_append : (p : ℕ → Bool) (xs ys : List ℕ) → list_all p xs ≡ true → list_all p ys ≡ true → list_all p (xs ++ ys) ≡ true
all_append p [] ys h g = g
all_append p (x ∷ xs) ys h g = let (here, more) = and_parts (p x) (list_all p xs) h in and_from (p x) (list_all p (xs ++ ys)) here (all_append p xs ys more g)

row_short : (room : ℕ) (front : List ℕ) (ps : List (List ℕ)) → Stand front ps → length (first_row room ps) ≤ room
row_short room front [] s = omega arith
row_short room front (p ∷ ps) s = by (nat_le (length p) room) refl (row_short (room - length p) (front ++ p) ps s.2)
  where
    by : (v : Bool) → nat_le (length p) room ≡ v → length (first_row (room - length p) ps) ≤ room - length p → length (cond v (p ++ first_row (room - length p) ps) []) ≤ room
    by true e rest =
        let fits = leb-true (length p) room e in
        let sum = length-append p (first_row (room - length p) ps) in
        omega (arith, fits, rest, sum)
    by false e rest = omega arith

pub row_prints : (room : ℕ) (front : List ℕ) (ps : List (List ℕ)) → Stand front ps → list_all is_printable (first_row room ps) ≡ true
row_prints room front [] s = refl
row_prints room front (p ∷ ps) s = by (nat_le (length p) room) (row_prints (room - length p) (front ++ p) ps s.2)
  where
    by : (v : Bool) → list_all is_printable (first_row (room - length p) ps) ≡ true → list_all is_printable (cond v (p ++ first_row (room - length p) ps) []) ≡ true
    by true rest = all_append is_printable p (first_row (room - length p) ps) s.1.prints rest
    by false rest = refl

pub rows_print : (room : ℕ) (front : List ℕ) (ps : List (List ℕ)) → Stand front ps → list_all (list_all is_printable) (later_rows room ps) ≡ true
rows_print room front [] s = refl
rows_print room front (p ∷ ps) s =
    by (nat_le (length p) room) (rows_print (room - length p) (front ++ p) ps s.2) (all_append is_printable p (first_row (70 - length p) ps) s.1.prints (row_prints (70 - length p) (front ++ p) ps s.2)) (rows_print (70 - length p) (front ++ p) ps s.2)
  where
    by : (v : Bool) → list_all (list_all is_printable) (later_rows (room - length p) ps) ≡ true → list_all is_printable (p ++ first_row (70 - length p) ps) ≡ true → list_all (list_all is_printable) (later_rows (70 - length p) ps) ≡ true
        → list_all (list_all is_printable) (cond v (later_rows (room - length p) ps) ((32 ∷ p ++ first_row (70 - length p) ps) ∷ later_rows (70 - length p) ps)) ≡ true
    by true here row more = here
    by false here row more = and_from (list_all is_printable (p ++ first_row (70 - length p) ps)) (list_all (list_all is_printable) (later_rows (70 - length p) ps)) row more

goes_by : (n next : ℕ) (word front : List ℕ) (v : Bool) → IsHead word → list_all is_dark front ≡ true → ends_in_comma front ≡ v → goes_on (laid n (word ++ 32 ∷ front) next) ≡ v
unfolding goes_on
goes_by n next word front v head dark e = ap ends_in_comma (operands_behind word front head dark) ∙ e

pub ended_here : (m : ℕ) (s : Statement) (ls : List (List ℕ)) → goes_on s ≡ false → statements m (Some s) ls ≡ s ∷ statements m None ls
unfolding statements
ended_here m s [] off = refl
ended_here m s (l ∷ ls) off = rw off refl

taken_here : (m : ℕ) (s : Statement) (l : List ℕ) (ls : List (List ℕ)) → goes_on s ≡ true → statements m (Some s) (l ∷ ls) ≡ statements (m + 1) (Some (taken s l)) ls
unfolding statements
taken_here m s l ls on = rw on refl

pub begun_here : (m : ℕ) (l : List ℕ) (ls : List (List ℕ)) → is_comment l ≡ false → statements m None (l ∷ ls) ≡ statements (m + 1) (Some (begun m l)) ls
unfolding statements
begun_here m l ls plain = rw plain refl

-- the statement that is read from rows, and what is read behind them
abbrev pub one_statement : ℕ → List ℕ → ℕ → List (List ℕ) → List Statement
one_statement n text next ls = laid n text next ∷ statements next None ls

taken_row : (n m : ℕ) (word front p row : List ℕ) → IsHead word → list_all is_dark front ≡ true → IsPiece p → list_all is_printable row ≡ true → length (p ++ row) ≤ 70
    → taken (laid n (word ++ 32 ∷ front) m) (32 ∷ p ++ row) ≡ laid n (word ++ 32 ∷ ((front ++ p) ++ row)) (m + 1)
taken_row n m word front [] row head dark piece prints short = absurd (let some = piece.some in omega (arith, some))
taken_row n m word front (b ∷ p) row head dark piece prints short =
    let (first, _) = and_parts (is_dark b) (list_all is_dark p) piece.dark in
    extended_row n m word front b (p ++ row) head dark first (all_append is_printable (b ∷ p) row piece.prints prints) short
    ∙ ap (λ (t : List ℕ). laid n t (m + 1)) (append_assoc word (32 ∷ front) (b ∷ p ++ row) ∙ ap (λ (t : List ℕ). word ++ 32 ∷ t) (sym (append_assoc front (b ∷ p) row)))

row_read : (n m room : ℕ) (word front p : List ℕ) (ps ls : List (List ℕ)) (v : Bool) → IsHead word → list_all is_dark front ≡ true → ends_in_comma front ≡ true → IsPiece p → Stand (front ++ p) ps → nat_le (length p) room ≡ v
    → statements m (Some (laid n (word ++ 32 ∷ ((front ++ p) ++ first_row (room - length p) ps)) m)) (later_rows (room - length p) ps ++ ls) ≡ one_statement n (word ++ 32 ∷ ((front ++ p) ++ joined ps)) (m + length (later_rows (room - length p) ps)) ls
    → statements (m + 1) (Some (laid n (word ++ 32 ∷ ((front ++ p) ++ first_row (70 - length p) ps)) (m + 1))) (later_rows (70 - length p) ps ++ ls) ≡ one_statement n (word ++ 32 ∷ ((front ++ p) ++ joined ps)) (m + 1 + length (later_rows (70 - length p) ps)) ls
    → statements m (Some (laid n (word ++ 32 ∷ (front ++ cond v (p ++ first_row (room - length p) ps) [])) m)) (cond v (later_rows (room - length p) ps) ((32 ∷ p ++ first_row (70 - length p) ps) ∷ later_rows (70 - length p) ps) ++ ls)
    ≡ one_statement n (word ++ 32 ∷ (front ++ (p ++ joined ps))) (m + length (cond v (later_rows (room - length p) ps) ((32 ∷ p ++ first_row (70 - length p) ps) ∷ later_rows (70 - length p) ps))) ls
row_read n m room word front p ps ls true head dark on piece stand e here next =
    rw (sym (append_assoc front p (first_row (room - length p) ps)), sym (append_assoc front p (joined ps))) here
row_read n m room word front p ps ls false head dark on piece stand e here next =
    let r : ℕ = 70 - length p in
    let row : List ℕ = first_row r ps in
    let behind : List (List ℕ) = later_rows r ps in
    let size = length-append p row in
    let fits = row_short r (front ++ p) ps stand in
    let p_short = piece.short in
    let short : length (p ++ row) ≤ 70 = omega (arith, size, fits, p_short) in
    let goes = goes_by n m word front true head dark on in
    let taken_it = taken_row n m word front p row head dark piece (row_prints r (front ++ p) ps stand) short in
    let count : m + 1 + length behind ≡ m + suc (length behind) = omega arith in
    let all : front ++ [] ≡ front = append-nil front in
    ap (λ (t : List ℕ). statements m (Some (laid n (word ++ 32 ∷ t) m)) ((32 ∷ p ++ row) ∷ (behind ++ ls))) all
    ∙ taken_here m (laid n (word ++ 32 ∷ front) m) (32 ∷ p ++ row) (behind ++ ls) goes
    ∙ ap (λ (t : Statement). statements (m + 1) (Some t) (behind ++ ls)) taken_it
    ∙ next
    ∙ ap (λ (k : ℕ). one_statement n (word ++ 32 ∷ ((front ++ p) ++ joined ps)) k ls) count
    ∙ ap (λ (t : List ℕ). one_statement n (word ++ 32 ∷ t) (m + suc (length behind)) ls) (append_assoc front p (joined ps))

pub rows_read : (n m room : ℕ) (word front : List ℕ) (ps ls : List (List ℕ)) → IsHead word → list_all is_dark front ≡ true → Stand front ps
    → statements m (Some (laid n (word ++ 32 ∷ (front ++ first_row room ps)) m)) (later_rows room ps ++ ls) ≡ one_statement n (word ++ 32 ∷ (front ++ joined ps)) (m + length (later_rows room ps)) ls
unfolding joined
rows_read n m room word front [] ls head dark s =
    let all : front ++ [] ≡ front = append-nil front in
    let here : m + 0 ≡ m = omega arith in
    rw (all, here) (ended_here m (laid n (word ++ 32 ∷ front) m) ls (goes_by n m word front false head dark s))
rows_read n m room word front (p ∷ ps) ls head dark s =
    let more : list_all is_dark (front ++ p) ≡ true = all_append is_dark front p dark s.1.dark in
    row_read n m room word front p ps ls (nat_le (length p) room) head dark s.0 s.1 s.2 refl
    (rows_read n m (room - length p) word (front ++ p) ps ls head more s.2) (rows_read n (m + 1) (70 - length p) word (front ++ p) ps ls head more s.2)

-- ---- a statement from its first row on

-- a statement's word, its first piece with the word in front of it, and the pieces behind
pub record IsLaid (word p : List ℕ) (ps : List (List ℕ)) : Type 0 where
  pub head : IsHead word
  pub plain : (row : List ℕ) → is_comment (word ++ 32 ∷ row) ≡ false
  pub short : length (word ++ 32 ∷ p) ≤ 71
  pub dark : list_all is_dark p ≡ true
  pub prints : list_all is_printable (word ++ 32 ∷ p) ≡ true
  pub stand : Stand p ps

-- how many lines it takes
abbrev pub rows_count : List ℕ → List (List ℕ) → ℕ
rows_count first ps = suc (length (later_rows (71 - length first) ps))

pub laid_text : (q : List ℕ) (ps : List (List ℕ)) → length q ≤ 71 → on_lines 71 (q ∷ ps) ≡ (q ++ first_row (71 - length q) ps) ++ 10 ∷ flat_map ended (later_rows (71 - length q) ps)
laid_text q ps short =
    let fits : nat_le (length q) 71 ≡ true = le-leb (length q) 71 short in
    let text = rows_text 71 (q ∷ ps) in
    rw fits at text

pub statement_read : (n : ℕ) (word p : List ℕ) (ps : List (List ℕ)) (rest : List ℕ) → IsLaid word p ps
    → statements n None (lines (on_lines 71 ((word ++ 32 ∷ p) ∷ ps) ++ rest)) ≡ one_statement n (word ++ 32 ∷ (p ++ joined ps)) (n + rows_count (word ++ 32 ∷ p) ps) (lines rest)
statement_read n word p ps rest l =
    let q : List ℕ = word ++ 32 ∷ p in
    let r : ℕ = 71 - length q in
    let row : List ℕ = first_row r ps in
    let behind : List (List ℕ) = later_rows r ps in
    let short = l.short in
    let fits = row_short r p ps l.stand in
    let size = length-append q row in
    let row_fits : length (q ++ row) ≤ 71 = omega (arith, size, fits, short) in
    let prints : list_all is_printable (q ++ row) ≡ true = all_append is_printable q row l.prints (row_prints r p ps l.stand) in
    let text : on_lines 71 (q ∷ ps) ++ rest ≡ (q ++ row) ++ 10 ∷ (flat_map ended behind ++ rest) =
    ap (λ (t : List ℕ). t ++ rest) (laid_text q ps l.short) ∙ append_assoc (q ++ row) (10 ∷ flat_map ended behind) rest in
    let cut : lines (on_lines 71 (q ∷ ps) ++ rest) ≡ (q ++ row) ∷ (behind ++ lines rest) =
    ap lines text ∙ row_line (q ++ row) (flat_map ended behind ++ rest) prints ∙ ap (λ (ls : List (List ℕ)). (q ++ row) ∷ ls) (row_lines behind rest (rows_print r p ps l.stand)) in
    let whole : q ++ row ≡ word ++ 32 ∷ (p ++ row) = append_assoc word (32 ∷ p) row in
    let plain : is_comment (q ++ row) ≡ false = ap is_comment whole ∙ l.plain (p ++ row) in
    let begins : begun n (q ++ row) ≡ laid n (word ++ 32 ∷ (p ++ row)) (n + 1) = begun_row n (q ++ row) prints row_fits ∙ ap (λ (t : List ℕ). laid n t (n + 1)) whole in
    let count : n + 1 + length behind ≡ n + suc (length behind) = omega arith in
    ap (statements n None) cut ∙ begun_here n (q ++ row) (behind ++ lines rest) plain
    ∙ ap (λ (s : Statement). statements (n + 1) (Some s) (behind ++ lines rest)) begins
    ∙ rows_read n (n + 1) r word p ps (lines rest) l.head l.dark l.stand
    ∙ ap (λ (k : ℕ). one_statement n (word ++ 32 ∷ (p ++ joined ps)) k (lines rest)) count
