-- The pieces of a printed statement stand on lines that read as the statement.
use Rattle.std.proofs.Common.{◌≡◌, ℕ, suc, ◌+◌, ◌-◌, ◌<◌, ◌≤◌, Bool, true, false, ◌&&◌, ◌==◌, not, nat_le, nat_lt, cond, List, [], ◌∷◌, ◌++◌, length, None, refl, sym, ap, ◌∙◌, arith, append_assoc, length-append, flat_map}
use Rattle.std.proofs.lemmas.Bool.{and_parts, and_from, leb-true, ltb-true}
use Rattle.std.proofs.lemmas.Bool.Decides.{nat_tests}
use Rattle.std.proofs.lemmas.List.Sums.{sum_by-append}
use Rattle.std.specs.List.{list_all, onto_first, slice_get}
use Rattle.std.specs.Option.{option_map_or}
use Rattle.std.specs.Str.Lines.{lines}
use Rattle.hal_base.specs.Bytes.{is_printable}
use Rattle.dbd_reader.specs.Lines.{is_comment}
use Rattle.dbd_reader.specs.Words.{is_dark, ends_in_comma}
use Rattle.dbd_reader.specs.Statements.{statements}
use Rattle.definition_printer.specs.Wrapped.{pieces, on_lines, wrapped}
use Rattle.definition_text.specs.RawDbd.{lines_in}
use Rattle.definition_text.proofs.StatementLines.{IsHead, IsPiece, IsLaid, Stand, joined, one_statement, rows_count, first_row, later_rows, ended, statement_read, printable_no_end, laid_text, row_prints, rows_print}
use Rattle.definition_text.proofs.Printed.{is_solid, runs, all_imply, all_append}

-- ---- the last byte

abbrev is_plain : ℕ → Bool
is_plain b = not (b == 44)

abbrev last_comma : List ℕ → Bool
last_comma [] = false
last_comma (b ∷ []) = b == 44
last_comma (a ∷ b ∷ rest) = last_comma (b ∷ rest)

ends_last : (xs : List ℕ) → ends_in_comma xs ≡ last_comma xs
ends_last [] = refl
ends_last (b ∷ []) = refl
ends_last (a ∷ b ∷ rest) =
    let n : length (a ∷ b ∷ rest) - 1 ≡ suc (length (b ∷ rest) - 1) = omega arith in
    ap (λ (k : ℕ). option_map_or (λ x. x == 44) (slice_get (a ∷ b ∷ rest) k) false) n ∙ ends_last (b ∷ rest)

last_behind : (front : List ℕ) (b : ℕ) (rest : List ℕ) → last_comma (front ++ b ∷ rest) ≡ last_comma (b ∷ rest)
last_behind [] b rest = refl
last_behind (a ∷ []) b rest = refl
last_behind (a ∷ c ∷ front) b rest = last_behind (c ∷ front) b rest

last_plain : (q : List ℕ) → list_all is_plain q ≡ true → last_comma q ≡ false
last_plain [] h = refl
last_plain (b ∷ []) h = grind (arith, nat_tests)
last_plain (a ∷ b ∷ q) h = last_plain (b ∷ q) (and_parts (is_plain a) (list_all is_plain (b ∷ q)) h).1

ends_comma : (front : List ℕ) → ends_in_comma (front ++ 44 ∷ []) ≡ true
ends_comma front = ends_last (front ++ 44 ∷ []) ∙ last_behind front 44 []

ends_plain : (front q : List ℕ) → 0 < length q → list_all is_plain q ≡ true → ends_in_comma (front ++ q) ≡ false
ends_plain front [] some h = absurd (omega arith)
ends_plain front (b ∷ q) some h = ends_last (front ++ b ∷ q) ∙ last_behind front b q ∙ last_plain (b ∷ q) h

-- ---- pieces behind bytes of the first

abbrev led : List ℕ → List (List ℕ) → List (List ℕ)
led q [] = q ∷ []
led q (p ∷ ps) = (q ++ p) ∷ ps

led_first : (q : List ℕ) (b : ℕ) (ps : List (List ℕ)) → led q (onto_first b ps) ≡ led (q ++ b ∷ []) ps
led_first q b [] = refl
led_first q b (p ∷ ps) = ap (λ (xs : List ℕ). xs ∷ ps) (sym (append_assoc q (b ∷ []) p))

onto_led : (q : List ℕ) (b : ℕ) (ps : List (List ℕ)) → onto_first b (led q ps) ≡ led (b ∷ q) ps
onto_led q b [] = refl
onto_led q b (p ∷ ps) = refl

led_nil : (ps : List (List ℕ)) → 0 < length ps → led [] ps ≡ ps
led_nil [] some = absurd (omega arith)
led_nil (p ∷ ps) some = refl

onto_some : (b : ℕ) (ps : List (List ℕ)) → 0 < length (onto_first b ps)
onto_some b [] = omega arith
onto_some b (p ∷ ps) = omega arith

some_by : (v : Bool) (b : ℕ) (rest : List ℕ) → (b == 44) ≡ v → 0 < length (pieces (b ∷ rest))
unfolding pieces
some_by true b rest e = rw e (omega arith)
some_by false b rest e = rw e (onto_some b (pieces rest))

pieces_some : (text : List ℕ) → 0 < length text → 0 < length (pieces text)
pieces_some [] some = absurd (omega arith)
pieces_some (b ∷ rest) some = some_by (b == 44) b rest refl

pub pieces_led : (q text : List ℕ) → list_all is_plain q ≡ true → 0 < length text → pieces (q ++ text) ≡ led q (pieces text)
unfolding pieces
pieces_led [] text h some = sym (led_nil (pieces text) (pieces_some text some))
pieces_led (b ∷ q) text h some =
    let (here, later) = and_parts (is_plain b) (list_all is_plain q) h in
    let no : (b == 44) ≡ false = grind (arith, nat_tests) in
    rw no (ap (onto_first b) (pieces_led q text later some) ∙ onto_led q b (pieces text))

joined_onto : (b : ℕ) (ps : List (List ℕ)) → joined (onto_first b ps) ≡ b ∷ joined ps
unfolding joined
joined_onto b [] = refl
joined_onto b (p ∷ ps) = refl

joined_by : (v : Bool) (b : ℕ) (rest : List ℕ) → (b == 44) ≡ v → joined (pieces rest) ≡ rest → joined (pieces (b ∷ rest)) ≡ b ∷ rest
unfolding joined pieces
joined_by true b rest e more = rw e (ap (λ (xs : List ℕ). b ∷ xs) more)
joined_by false b rest e more = rw e (joined_onto b (pieces rest) ∙ ap (λ (xs : List ℕ). b ∷ xs) more)

pub joined_pieces : (text : List ℕ) → joined (pieces text) ≡ text
unfolding joined pieces
joined_pieces [] = refl
joined_pieces (b ∷ rest) = joined_by (b == 44) b rest refl (joined_pieces rest)

-- ---- each piece is one, and all but the last end with a comma

abbrev Starts : List ℕ → List (List ℕ) → Type 0
Starts front [] = ⊥
Starts front (p ∷ ps) = IsPiece p × Stand (front ++ p) ps

stand_led : (front : List ℕ) (ps : List (List ℕ)) → ends_in_comma front ≡ true → Starts front (led [] ps) → Stand front ps
stand_led front [] e s = let some = s.0.some in absurd (omega (arith, some))
stand_led front (p ∷ ps) e s = (e, s.0, s.1)

solid_dark : (b : ℕ) → is_solid b ≡ true → is_dark b ≡ true
solid_dark b h = grind (arith, nat_tests)

solid_prints : (b : ℕ) → is_solid b ≡ true → is_printable b ≡ true
solid_prints b h = grind (arith, nat_tests)

pub dark_of : (q : List ℕ) → list_all is_solid q ≡ true → list_all is_dark q ≡ true
dark_of q h = all_imply is_solid is_dark solid_dark q h

pub prints_of : (q : List ℕ) → list_all is_solid q ≡ true → list_all is_printable q ≡ true
prints_of q h = all_imply is_solid is_printable solid_prints q h

piece_of : (q : List ℕ) → list_all is_solid q ≡ true → 0 < length q → length q ≤ 60 → IsPiece q
piece_of q h some few = record { some = some; short = omega arith; dark = dark_of q h; prints = prints_of q h }

starts_by : (v : Bool) (front q : List ℕ) (b : ℕ) (rest : List ℕ) → (b == 44) ≡ v → list_all is_solid q ≡ true → list_all is_plain q ≡ true → is_solid b ≡ true → runs (length q) (b ∷ rest) ≡ true
    → ((front q : List ℕ) → list_all is_solid q ≡ true → list_all is_plain q ≡ true → runs (length q) rest ≡ true → Starts front (led q (pieces rest)))
    → Starts front (led q (pieces (b ∷ rest)))
unfolding pieces
starts_by true front q b rest e solid plain here run more =
    let comma : b ≡ 44 = grind (arith, nat_tests) in
    let parts : (nat_le (length q) 59 && runs 0 rest) ≡ true = rw e at run in
    let (few, later) = and_parts (nat_le (length q) 59) (runs 0 rest) parts in
    let fits = leb-true (length q) 59 few in
    let size = length-append q (b ∷ []) in
    let piece = piece_of (q ++ b ∷ []) (all_append is_solid q (b ∷ []) solid (and_from (is_solid b) true here refl)) (omega (arith, size)) (omega (arith, size, fits)) in
    let all : list_all is_solid [] ≡ true = refl in
    let ends : ends_in_comma (front ++ (q ++ b ∷ [])) ≡ true =
    ap (λ (xs : List ℕ). ends_in_comma xs) (sym (append_assoc front q (b ∷ []))) ∙ ap (λ (x : ℕ). ends_in_comma ((front ++ q) ++ x ∷ [])) comma ∙ ends_comma (front ++ q) in
    rw e (piece, stand_led (front ++ (q ++ b ∷ [])) (pieces rest) ends (more (front ++ (q ++ b ∷ [])) [] refl refl later))
starts_by false front q b rest e solid plain here run more =
    let next : runs (suc (length q)) rest ≡ true = rw e at run in
    let size : length (q ++ b ∷ []) ≡ suc (length q) = let s = length-append q (b ∷ []) in omega (arith, s) in
    let run_on : runs (length (q ++ b ∷ [])) rest ≡ true = ap (λ (k : ℕ). runs k rest) size ∙ next in
    let step = more front (q ++ b ∷ []) (all_append is_solid q (b ∷ []) solid (and_from (is_solid b) true here refl)) (all_append is_plain q (b ∷ []) plain (rw e refl)) run_on in
    rw (e, led_first q b (pieces rest)) step

starts : (text front q : List ℕ) → list_all is_solid text ≡ true → list_all is_solid q ≡ true → list_all is_plain q ≡ true → runs (length q) text ≡ true → Starts front (led q (pieces text))
unfolding pieces
starts [] front q h solid plain run =
    let (some, few) = and_parts (nat_lt 0 (length q)) (nat_le (length q) 60) run in
    let is_some = ltb-true 0 (length q) some in
    (piece_of q solid is_some (leb-true (length q) 60 few), ends_plain front q is_some plain)
starts (b ∷ rest) front q h solid plain run =
    let (here, later) = and_parts (is_solid b) (list_all is_solid rest) h in
    starts_by (b == 44) front q b rest refl solid plain here run (λ f r s p u. starts rest f r later s p u)

-- ---- a statement

-- a statement word, as it stands in front of operands
pub record IsWord (word : List ℕ) : Type 0 where
  pub head : IsHead word
  pub plain : (row : List ℕ) → is_comment (word ++ 32 ∷ row) ≡ false
  pub short : length word ≤ 6
  pub prints : list_all is_printable (word ++ 32 ∷ []) ≡ true
  pub whole : list_all is_plain (word ++ 32 ∷ []) ≡ true

-- operands in pieces of at most 60 bytes
pub record IsBody (text : List ℕ) : Type 0 where
  pub solid : list_all is_solid text ≡ true
  pub runs : runs 0 text ≡ true

body_some : (text : List ℕ) → runs 0 text ≡ true → 0 < length text
body_some [] h = absurd (let some = ltb-true 0 0 (and_parts (nat_lt 0 0) (nat_le 0 60) h).0 in omega (arith, some))
body_some (b ∷ text) h = omega arith

is_laid : (word p : List ℕ) (ps : List (List ℕ)) → IsWord word → Starts [] (p ∷ ps) → IsLaid word p ps
is_laid word p ps w s =
    let short = w.short in
    let few = s.0.short in
    let size = length-append word (32 ∷ p) in
    record {
      head = w.head;
      plain = w.plain;
      short = omega (arith, size, short, few);
      dark = s.0.dark;
      prints = ap (list_all is_printable) (sym (append_assoc word (32 ∷ []) p)) ∙ all_append is_printable (word ++ 32 ∷ []) p w.prints s.0.prints;
      stand = s.1;
    }

-- lines of texts, one behind the other
pub lines_append : (a b : List ℕ) → lines_in (a ++ b) ≡ lines_in a + lines_in b
lines_append a b = sum_by-append (λ (x : ℕ). cond (x == 10) 1 0) a b

count_row : (row rest : List ℕ) → list_all is_printable row ≡ true → lines_in (row ++ 10 ∷ rest) ≡ suc (lines_in rest)
count_row [] rest h = sum_by-append (λ (b : ℕ). cond (b == 10) 1 0) (10 ∷ []) rest ∙ (let e : 1 + lines_in rest ≡ suc (lines_in rest) = omega arith in e)
count_row (b ∷ row) rest h =
    let (here, later) = and_parts (is_printable b) (list_all is_printable row) h in
    let first : lines_in (b ∷ (row ++ 10 ∷ rest)) ≡ (0 + cond (b == 10) 1 0) + lines_in (row ++ 10 ∷ rest) = sum_by-append (λ (x : ℕ). cond (x == 10) 1 0) (b ∷ []) (row ++ 10 ∷ rest) in
    let none : (0 + cond (b == 10) 1 0) + lines_in (row ++ 10 ∷ rest) ≡ lines_in (row ++ 10 ∷ rest) =
    rw (printable_no_end b here) (let e : 0 + lines_in (row ++ 10 ∷ rest) ≡ lines_in (row ++ 10 ∷ rest) = omega arith in e) in
    first ∙ none ∙ count_row row rest later

count_rows : (rows : List (List ℕ)) → list_all (list_all is_printable) rows ≡ true → lines_in (flat_map ended rows) ≡ length rows
count_rows [] h = refl
count_rows (row ∷ rows) h =
    let (here, later) = and_parts (list_all is_printable row) (list_all (list_all is_printable) rows) h in
    ap lines_in (append_assoc row (10 ∷ []) (flat_map ended rows)) ∙ count_row row (flat_map ended rows) here ∙ ap suc (count_rows rows later)

rows_counted : (word p : List ℕ) (ps : List (List ℕ)) → IsLaid word p ps → lines_in (on_lines 71 ((word ++ 32 ∷ p) ∷ ps)) ≡ rows_count (word ++ 32 ∷ p) ps
rows_counted word p ps l =
    let q : List ℕ = word ++ 32 ∷ p in
    let r : ℕ = 71 - length q in
    ap lines_in (laid_text q ps l.short)
    ∙ count_row (q ++ first_row r ps) (flat_map ended (later_rows r ps)) (all_append is_printable q (first_row r ps) l.prints (row_prints r p ps l.stand))
    ∙ ap suc (count_rows (later_rows r ps) (rows_print r p ps l.stand))

read_by : (ps : List (List ℕ)) (n : ℕ) (word text rest : List ℕ) → pieces text ≡ ps → Starts [] ps → IsWord word → IsBody text
    → statements n None (lines (wrapped (word ++ 32 ∷ text) ++ rest)) ≡ one_statement n (word ++ 32 ∷ text) (n + lines_in (wrapped (word ++ 32 ∷ text))) (lines rest)
unfolding wrapped joined
read_by [] n word text rest e s w body = absurd s
read_by (p ∷ ps) n word text rest e s w body =
    let l : IsLaid word p ps = is_laid word p ps w s in
    let cut : pieces (word ++ 32 ∷ text) ≡ (word ++ 32 ∷ p) ∷ ps =
    ap pieces (sym (append_assoc word (32 ∷ []) text)) ∙ pieces_led (word ++ 32 ∷ []) text w.whole (body_some text body.runs) ∙ ap (led (word ++ 32 ∷ [])) e ∙ ap (λ (x : List ℕ). x ∷ ps) (append_assoc word (32 ∷ []) p) in
    let whole : p ++ joined ps ≡ text = sym (ap joined e) ∙ joined_pieces text in
    let read = statement_read n word p ps rest l in
    let count = rows_counted word p ps l in
    let on_text : List (List ℕ) → List ℕ = λ x. on_lines 71 x in
    ap (λ (x : List (List ℕ)). statements n None (lines (on_text x ++ rest))) cut ∙ read
    ∙ ap (λ (t : List ℕ). one_statement n (word ++ 32 ∷ t) (n + rows_count (word ++ 32 ∷ p) ps) (lines rest)) whole
    ∙ ap (λ (k : ℕ). one_statement n (word ++ 32 ∷ text) (n + k) (lines rest)) (sym (ap (λ (x : List (List ℕ)). lines_in (on_text x)) cut ∙ count))

pub wrapped_read : (n : ℕ) (word text rest : List ℕ) → IsWord word → IsBody text
    → statements n None (lines (wrapped (word ++ 32 ∷ text) ++ rest)) ≡ one_statement n (word ++ 32 ∷ text) (n + lines_in (wrapped (word ++ 32 ∷ text))) (lines rest)
wrapped_read n word text rest w body =
    let all : list_all is_solid [] ≡ true = refl in
    let s : Starts [] (led [] (pieces text)) = starts text [] [] body.solid refl refl body.runs in
    read_by (pieces text) n word text rest refl (rw (led_nil (pieces text) (pieces_some text (body_some text body.runs))) at s) w body
