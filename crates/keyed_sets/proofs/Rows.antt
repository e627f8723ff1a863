-- RowsRise that stand one behind the other: what is read is what was spelled.
use Rattle.std.proofs.Common.{◌≡◌, ℕ, zero, suc, ◌+◌, ◌*◌, ◌<◌, ◌≤◌, List, [], ◌∷◌, ◌++◌, length, take, drop, Some, refl, sym, ap, ◌∙◌, append_assoc, arith}
use Rattle.std.specs.Prelude.{slice_get}
use Rattle.std.specs.List.{AllByRecursion}
use Rattle.std.proofs.lemmas.List.{length-append, length-take-le, length-drop, drop-drop, take_at, drop_at, take-append-drop}
use Rattle.std.proofs.Math.Nat.{mul-le-mul_left, mul-le-mul_right}
use Rattle.keyed_sets.specs.declared.row.RowShape.{RowShape}
use Rattle.std.specs.Option.{option_map}
use Rattle.keyed_sets.specs.Layout.{Row, row_length, HasShape, spelled_row, spelled, row_of, rows_from, rows_in, count_of, end_of, HasPlace}

-- rows of the set's lengths
abbrev pub AreShaped : RowShape → List Row → Type 0
AreShaped shape rows = AllByRecursion (HasShape shape) rows

pub length-rows_from : (shape : RowShape) (n : ℕ) (bytes : List ℕ) → length (rows_from shape n bytes) ≡ n
length-rows_from shape zero bytes = refl
length-rows_from shape (suc n) bytes = ap suc (length-rows_from shape n (drop (row_length shape) bytes))

no_rows : (len : ℕ) → 0 ≡ len * 0
no_rows len = omega arith

-- one row among many ends before they do
pub ends_within : (len at n : ℕ) → at < n → len * at + len ≤ len * n
ends_within len at n lt = let up : at + 1 ≤ n = omega arith in omega (arith, mul-le-mul_left len up)

pub row_there : (shape : RowShape) (n : ℕ) (bytes : List ℕ) (at : ℕ) → at < n → slice_get (rows_from shape n bytes) at ≡ Some (row_of shape (drop (row_length shape * at) bytes))
row_there shape zero bytes at lt = absurd (omega arith)
row_there shape (suc n) bytes zero lt = ap (λ (k : ℕ). Some (row_of shape (drop k bytes))) (no_rows (row_length shape))
row_there shape (suc n) bytes (suc at) lt =
    let len : ℕ = row_length shape in
    let sum : len + len * at ≡ len * suc at = omega arith in
    row_there shape n (drop len bytes) at (omega arith)
    ∙ ap (λ (x : List ℕ). Some (row_of shape x)) (drop-drop (len * at) len bytes ∙ ap (λ (k : ℕ). drop k bytes) sum)

pub row_shaped : (shape : RowShape) (bytes : List ℕ) → row_length shape ≤ length bytes → HasShape shape (row_of shape bytes)
row_shaped shape bytes room = record {
  key = length-take-le shape.key bytes (omega arith);
  body = length-take-le shape.body (drop shape.key bytes) (omega (arith, length-drop shape.key bytes));
}

pub row_spelled : (shape : RowShape) (bytes : List ℕ) → bytes ≡ spelled_row (row_of shape bytes) ++ drop (row_length shape) bytes
row_spelled shape bytes =
    let key : List ℕ = take shape.key bytes in
    let rest : List ℕ = drop shape.key bytes in
    let body : List ℕ = take shape.body rest in
    sym (take-append-drop shape.key bytes)
    ∙ ap (λ (x : List ℕ). key ++ x) (sym (take-append-drop shape.body rest))
    ∙ sym (append_assoc key body (drop shape.body rest))
    ∙ ap (λ (x : List ℕ). (key ++ body) ++ x) (drop-drop shape.body shape.key bytes)

pub rows_shaped : (shape : RowShape) (n : ℕ) (bytes : List ℕ) → row_length shape * n ≤ length bytes → AreShaped shape (rows_from shape n bytes)
rows_shaped shape zero bytes room = tt
rows_shaped shape (suc n) bytes room =
    let len : ℕ = row_length shape in
    let sum : len + len * n ≡ len * suc n = omega arith in
    (row_shaped shape bytes (omega arith), rows_shaped shape n (drop len bytes) (omega (arith, length-drop len bytes)))

-- bytes are the rows that are read from them, and the rest
pub rows_spelled : (shape : RowShape) (n : ℕ) (bytes : List ℕ) → bytes ≡ spelled (rows_from shape n bytes) ++ drop (row_length shape * n) bytes
rows_spelled shape zero bytes = ap (λ (k : ℕ). drop k bytes) (no_rows (row_length shape))
rows_spelled shape (suc n) bytes =
    let len : ℕ = row_length shape in
    let sum : len + len * n ≡ len * suc n = omega arith in
    let row : List ℕ = spelled_row (row_of shape bytes) in
    let others : List ℕ = spelled (rows_from shape n (drop len bytes)) in
    row_spelled shape bytes
    ∙ ap (λ (x : List ℕ). row ++ x) (rows_spelled shape n (drop len bytes) ∙ ap (λ (x : List ℕ). others ++ x) (drop-drop (len * n) len bytes ∙ ap (λ (k : ℕ). drop k bytes) sum))
    ∙ sym (append_assoc row others (drop (len * suc n) bytes))

pub length-spelled_row : (shape : RowShape) (row : Row) → HasShape shape row → length (spelled_row row) ≡ row_length shape
length-spelled_row shape row is = omega (arith, length-append (row.0) (row.1), is.key, is.body)

pub length-spelled : (shape : RowShape) (rows : List Row) → AreShaped shape rows → length (spelled rows) ≡ row_length shape * length rows
length-spelled shape [] are = omega arith
length-spelled shape (row ∷ rows) are =
    omega (arith, length-append (spelled_row row) (spelled rows), length-spelled_row shape row are.0, length-spelled shape rows are.1)

-- a row is read as it was spelled
pub row_read : (shape : RowShape) (row : Row) (rest : List ℕ) → HasShape shape row → row_of shape (spelled_row row ++ rest) ≡ row
row_read shape row rest is =
    let whole : spelled_row row ++ rest ≡ row.0 ++ (row.1 ++ rest) = append_assoc (row.0) (row.1) rest in
    let key : take shape.key (spelled_row row ++ rest) ≡ row.0 = ap (take shape.key) whole ∙ take_at (row.0) (row.1 ++ rest) shape.key is.key in
    let behind : drop shape.key (spelled_row row ++ rest) ≡ row.1 ++ rest = ap (drop shape.key) whole ∙ drop_at (row.0) (row.1 ++ rest) shape.key is.key in
    let body : take shape.body (drop shape.key (spelled_row row ++ rest)) ≡ row.1 = ap (take shape.body) behind ∙ take_at (row.1) rest shape.body is.body in
    let first : row_of shape (spelled_row row ++ rest) ≡ (row.0, take shape.body (drop shape.key (spelled_row row ++ rest))) =
    ap (λ (x : List ℕ). (x, take shape.body (drop shape.key (spelled_row row ++ rest)))) key in
    first ∙ ap (λ (x : List ℕ). (row.0, x)) body

-- and so are rows
pub rows_read : (shape : RowShape) (rows : List Row) (rest : List ℕ) → AreShaped shape rows → rows_from shape (length rows) (spelled rows ++ rest) ≡ rows
rows_read shape [] rest are = refl
rows_read shape (row ∷ rows) rest are =
    let whole : spelled (row ∷ rows) ++ rest ≡ spelled_row row ++ (spelled rows ++ rest) = append_assoc (spelled_row row) (spelled rows) rest in
    let first : row_of shape (spelled (row ∷ rows) ++ rest) ≡ row = ap (row_of shape) whole ∙ row_read shape row (spelled rows ++ rest) are.0 in
    let behind : drop (row_length shape) (spelled (row ∷ rows) ++ rest) ≡ spelled rows ++ rest =
    ap (drop (row_length shape)) whole ∙ drop_at (spelled_row row) (spelled rows ++ rest) (row_length shape) (length-spelled_row shape row are.0) in
    let others : rows_from shape (length rows) (drop (row_length shape) (spelled (row ∷ rows) ++ rest)) ≡ rows = ap (rows_from shape (length rows)) behind ∙ rows_read shape rows rest are.1 in
    cc

-- a row's key and body, where its place says
pub key_found : (shape : RowShape) (page : List ℕ) (at start size : ℕ) → at < count_of page → start ≡ end_of shape at → size ≡ shape.key
    → option_map (λ row. row.0) (slice_get (rows_in shape page) at) ≡ Some (take size (drop start page))
key_found shape page at start size lt starts sized =
    let there = row_there shape (count_of page) (drop 16 page) at lt in
    ap (option_map (λ (row : Row). row.0)) there
    ∙ ap (λ (x : List ℕ). Some (take shape.key x)) (drop-drop (row_length shape * at) 16 page)
    ∙ ap (λ (k : ℕ). Some (take k (drop (end_of shape at) page))) (sym sized)
    ∙ ap (λ (k : ℕ). Some (take size (drop k page))) (sym starts)

pub body_found : (shape : RowShape) (page : List ℕ) (at start size : ℕ) → at < count_of page → start ≡ end_of shape at + shape.key → size ≡ shape.body
    → option_map (λ row. row.1) (slice_get (rows_in shape page) at) ≡ Some (take size (drop start page))
body_found shape page at start size lt starts sized =
    let there = row_there shape (count_of page) (drop 16 page) at lt in
    ap (option_map (λ (row : Row). row.1)) there
    ∙ ap (λ (x : List ℕ). Some (take shape.body (drop shape.key x))) (drop-drop (row_length shape * at) 16 page)
    ∙ ap (λ (x : List ℕ). Some (take shape.body x)) (drop-drop shape.key (end_of shape at) page)
    ∙ ap (λ (k : ℕ). Some (take k (drop (end_of shape at + shape.key) page))) (sym sized)
    ∙ ap (λ (k : ℕ). Some (take size (drop k page))) (sym starts)

-- a row at a place ends in the page
pub row_ends : (shape : RowShape) (page : List ℕ) (at : ℕ) → at < count_of page → HasPlace shape page → end_of shape at + row_length shape ≤ 4096
row_ends shape page at lt place = omega (arith, ends_within (row_length shape) at (count_of page) lt, place)

pub length-rows_in : (shape : RowShape) (page : List ℕ) → length (rows_in shape page) ≡ count_of page
length-rows_in shape page = length-rows_from shape (count_of page) (drop 16 page)

-- one row more ends one row's length further on
pub end_more : (shape : RowShape) (n : ℕ) → end_of shape (n + 1) ≡ end_of shape n + row_length shape
end_more shape n = omega arith

pub end_monotone : (shape : RowShape) (at n : ℕ) → at ≤ n → end_of shape at ≤ end_of shape n
end_monotone shape at n le = omega (arith, mul-le-mul_left (row_length shape) le)

-- rows that have bytes and place are few
pub few_rows : (shape : RowShape) (n : ℕ) → 0 < shape.key → end_of shape n ≤ 4096 → n ≤ 4080
few_rows shape n some place =
    let one : 1 ≤ row_length shape = omega arith in
    omega (arith, mul-le-mul_right n one, place)
