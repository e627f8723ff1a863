-- A cell that is read is spelled so, and what spells a cell is read as that cell.
use Rattle.std.proofs.Common.{◌≡◌, ℕ, zero, suc, ◌^◌, ◌+◌, ◌-◌, ◌*◌, ◌<◌, ◌≤◌, Bool, true, false, cond, eqb, List, ◌∷◌, ◌++◌, length, get_or, take, drop, replicate, Some, refl, sym, ap, subst, ◌∙◌, append_assoc, arith}
use Rattle.std.specs.Prelude.{slice_get}
use Rattle.std.specs.List.{flat_map}
use Rattle.std.specs.Int.{w16, w32, to_be_bytes}
use Rattle.std.proofs.lemmas.List.{take-append-drop, take_at, drop_at, drop-drop, length-append, length-take-le, length-drop, length-replicate}
use Rattle.std.proofs.lemmas.Nat.{be_bytes_2, be_bytes_4, from_be_bytes-to_be_bytes_2, from_be_bytes-to_be_bytes_4}
use Rattle.hal_base.specs.declared.place.Shape.{Shape}
use Rattle.segment_blocks.specs.declared.tile.Cell.{Cell}
use Rattle.segment_blocks.specs.Tiling.{used_of, cell_length, shape_of, spelled_head, spelled_cell, Fits, IsCell}
use Rattle.segment_blocks.specs.Reading.{number16, number32, HasZeros, BeginsWithCell, addresses_in, cell_in}
use Rattle.segment_blocks.proofs.Addresses.{IsBytes, IsBytes-take, IsBytes-drop, addresses_fit, addresses_back, addresses_again, length-addresses_in, length-spelled_addresses}

pub used-le-length : (shape : Shape) → used_of shape ≤ cell_length shape
used-le-length shape = omega arith

-- the bytes of a cell behind its head
abbrev pub spelled_tail : Cell → List ℕ
spelled_tail cell =
    flat_map (to_be_bytes w32) cell.children ++ (cell.content ++ replicate (cell_length (shape_of cell) - used_of (shape_of cell)) 0)

pub spelled_parts : (cell : Cell) → spelled_cell cell ≡ spelled_head cell (cell_length (shape_of cell)) ++ spelled_tail cell
unfolding spelled_cell
spelled_parts cell =
    let head : List ℕ = spelled_head cell (cell_length (shape_of cell)) in
    let children : List ℕ = flat_map (to_be_bytes w32) cell.children in
    let zeros : List ℕ = replicate (cell_length (shape_of cell) - used_of (shape_of cell)) 0 in
    append_assoc (head ++ children) cell.content zeros ∙ append_assoc head children (cell.content ++ zeros)

pub length-spelled_cell : (cell : Cell) → length (spelled_cell cell) ≡ cell_length (shape_of cell)
length-spelled_cell cell =
    let zeros : List ℕ = replicate (cell_length (shape_of cell) - used_of (shape_of cell)) 0 in
    let children : List ℕ = flat_map (to_be_bytes w32) cell.children in
    let padding : length zeros ≡ cell_length (shape_of cell) - used_of (shape_of cell) = length-replicate (cell_length (shape_of cell) - used_of (shape_of cell)) 0 in
    let tail : length (spelled_tail cell) ≡ length children + length (cell.content ++ zeros) = length-append children (cell.content ++ zeros) in
    let behind : length (cell.content ++ zeros) ≡ length cell.content + length zeros = length-append cell.content zeros in
    let addresses : length children ≡ 4 * length cell.children = length-spelled_addresses cell.children in
    let head : List ℕ = spelled_head cell (cell_length (shape_of cell)) in
    let sixteen : length head ≡ 16 = refl in
    let whole : length (spelled_cell cell) ≡ length head + length (spelled_tail cell) = ap length (spelled_parts cell) ∙ length-append head (spelled_tail cell) in
    omega (arith, used-le-length (shape_of cell))

-- ---- a cell that is spelled is read

is_two : (copied : Bool) → eqb (cond copied 2 1) 2 ≡ copied
is_two true = refl
is_two false = refl

abbrev made : Bool → ℕ → ℕ → ℕ → ℕ → ℕ → List ℕ → List ℕ → Cell
made copied code addr part number twin children content =
    record { copied = copied; code = code; name = record { addr = addr; part = part; number = number }; twin = twin; children = children; content = content }

same_made : (copied copied' : Bool) (code addr addr' part part' number number' twin twin' : ℕ) (children children' content content' : List ℕ)
    → copied ≡ copied' → addr ≡ addr' → part ≡ part' → number ≡ number' → twin ≡ twin' → children ≡ children' → content ≡ content'
    → made copied code addr part number twin children content ≡ made copied' code addr' part' number' twin' children' content'
same_made copied copied' code addr addr' part part' number number' twin twin' children children' content content' e0 e1 e2 e3 e4 e5 e6 = cc

cell_at_front : (cell : Cell) (more : List ℕ) → Fits cell → cell_in (shape_of cell) (spelled_head cell (cell_length (shape_of cell)) ++ (spelled_tail cell ++ more)) ≡ cell
cell_at_front cell more fits =
    let bytes : List ℕ = spelled_head cell (cell_length (shape_of cell)) ++ (spelled_tail cell ++ more) in
    let addresses : List ℕ = flat_map (to_be_bytes w32) cell.children in
    let zeros : List ℕ = replicate (cell_length (shape_of cell) - used_of (shape_of cell)) 0 in
    let behind : List ℕ = cell.content ++ (zeros ++ more) in
    let grouped : spelled_tail cell ++ more ≡ addresses ++ behind =
    append_assoc addresses (cell.content ++ zeros) more ∙ ap (λ (x : List ℕ). addresses ++ x) (append_assoc cell.content zeros more) in
    let children : addresses_in (length cell.children) (spelled_tail cell ++ more) ≡ cell.children =
    ap (addresses_in (length cell.children)) grouped ∙ addresses_again cell.children behind fits.children in
    let past : drop (16 + 4 * length cell.children) bytes ≡ behind =
    sym (drop-drop (4 * length cell.children) 16 bytes) ∙ ap (drop (4 * length cell.children)) grouped
    ∙ drop_at addresses behind (4 * length cell.children) (length-spelled_addresses cell.children) in
    let content : take (length cell.content) (drop (16 + 4 * length cell.children) bytes) ≡ cell.content =
    ap (take (length cell.content)) past ∙ take_at cell.content (zeros ++ more) (length cell.content) refl in
    same_made (eqb (cond cell.copied 2 1) 2) cell.copied cell.code
    (number32 4 bytes) cell.name.addr (number16 8 bytes) cell.name.part (number16 10 bytes) cell.name.number (number32 12 bytes) cell.twin
    (addresses_in (length cell.children) (spelled_tail cell ++ more)) cell.children
    (take (length cell.content) (drop (16 + 4 * length cell.children) bytes)) cell.content
    (is_two cell.copied)
    (from_be_bytes-to_be_bytes_4 cell.name.addr fits.addr)
    (from_be_bytes-to_be_bytes_2 cell.name.part fits.part)
    (from_be_bytes-to_be_bytes_2 cell.name.number fits.number)
    (from_be_bytes-to_be_bytes_4 cell.twin fits.twin)
    children
    content

abbrev pub parts_of : Cell → List ℕ → List ℕ
parts_of cell more = spelled_head cell (cell_length (shape_of cell)) ++ (spelled_tail cell ++ more)

pub grouped_parts : (bytes : List ℕ) (cell : Cell) (more : List ℕ) → bytes ≡ spelled_cell cell ++ more → bytes ≡ parts_of cell more
grouped_parts bytes cell more e =
    e ∙ ap (λ (x : List ℕ). x ++ more) (spelled_parts cell) ∙ append_assoc (spelled_head cell (cell_length (shape_of cell))) (spelled_tail cell) more

pub cell_again : (bytes : List ℕ) (cell : Cell) (more : List ℕ) → Fits cell → bytes ≡ spelled_cell cell ++ more → cell_in (shape_of cell) bytes ≡ cell
cell_again bytes cell more fits e = ap (cell_in (shape_of cell)) (grouped_parts bytes cell more e) ∙ cell_at_front cell more fits

pub code_again : (bytes : List ℕ) (cell : Cell) (more : List ℕ) → bytes ≡ spelled_cell cell ++ more → get_or bytes 1 0 ≡ cell.code
code_again bytes cell more e = ap (λ (x : List ℕ). get_or x 1 0) (grouped_parts bytes cell more e)

mark_bound : (copied : Bool) → (1 ≤ cond copied 2 1) × (cond copied 2 1 ≤ 2)
mark_bound true = (omega arith, omega arith)
mark_bound false = (omega arith, omega arith)

pub mark_again : (bytes : List ℕ) (cell : Cell) (more : List ℕ) → bytes ≡ spelled_cell cell ++ more → (1 ≤ get_or bytes 0 0) × (get_or bytes 0 0 ≤ 2)
mark_again bytes cell more e =
    let mark : get_or bytes 0 0 ≡ cond cell.copied 2 1 = ap (λ (x : List ℕ). get_or x 0 0) (grouped_parts bytes cell more e) in
    subst (λ (m : ℕ). (1 ≤ m) × (m ≤ 2)) (sym mark) (mark_bound cell.copied)

-- ---- a cell that is read is spelled so

-- the fields of the head, one after the other
head_of : (bytes : List ℕ) → 16 ≤ length bytes
    → take 16 bytes ≡ get_or bytes 0 0 ∷ get_or bytes 1 0 ∷ take 2 (drop 2 bytes) ++ take 4 (drop 4 bytes) ++ take 2 (drop 8 bytes) ++ take 2 (drop 10 bytes) ++ take 4 (drop 12 bytes)
head_of (b0 ∷ b1 ∷ b2 ∷ b3 ∷ b4 ∷ b5 ∷ b6 ∷ b7 ∷ b8 ∷ b9 ∷ b10 ∷ b11 ∷ b12 ∷ b13 ∷ b14 ∷ b15 ∷ rest) h = refl
head_of _ h = absurd (omega arith)

field16 : (at : ℕ) (bytes : List ℕ) → IsBytes bytes → at + 2 ≤ length bytes → take 2 (drop at bytes) ≡ to_be_bytes w16 (number16 at bytes)
field16 at bytes fits room =
    sym (be_bytes_2 (take 2 (drop at bytes)) _ (length-take-le 2 (drop at bytes) (omega (arith, length-drop at bytes))) (IsBytes-take 2 (drop at bytes) (IsBytes-drop at bytes fits)) refl)

field32 : (at : ℕ) (bytes : List ℕ) → IsBytes bytes → at + 4 ≤ length bytes → take 4 (drop at bytes) ≡ to_be_bytes w32 (number32 at bytes)
field32 at bytes fits room =
    sym (be_bytes_4 (take 4 (drop at bytes)) _ (length-take-le 4 (drop at bytes) (omega (arith, length-drop at bytes))) (IsBytes-take 4 (drop at bytes) (IsBytes-drop at bytes fits)) refl)

number16_fits : (at : ℕ) (bytes : List ℕ) → IsBytes bytes → number16 at bytes < 2 ^ 16
number16_fits at bytes fits =
    let field : IsBytes (take 2 (drop at bytes)) = IsBytes-take 2 (drop at bytes) (IsBytes-drop at bytes fits) in
    omega (arith, field 0, field 1)

number32_fits : (at : ℕ) (bytes : List ℕ) → IsBytes bytes → number32 at bytes < 2 ^ 32
number32_fits at bytes fits =
    let field : IsBytes (take 4 (drop at bytes)) = IsBytes-take 4 (drop at bytes) (IsBytes-drop at bytes fits) in
    omega (arith, field 0, field 1, field 2, field 3)

is_mark : (mark : ℕ) → 1 ≤ mark → mark ≤ 2 → mark ≡ cond (eqb mark 2) 2 1
is_mark zero low high = absurd (omega arith)
is_mark (suc zero) low high = refl
is_mark (suc (suc zero)) low high = refl
is_mark (suc (suc (suc n))) low high = absurd (omega arith)

same_head : (m m' c : ℕ) (p p' q q' r r' s s' t t' : List ℕ) → m ≡ m' → p ≡ p' → q ≡ q' → r ≡ r' → s ≡ s' → t ≡ t'
    → m ∷ c ∷ p ++ q ++ r ++ s ++ t ≡ m' ∷ c ∷ p' ++ q' ++ r' ++ s' ++ t'
same_head m m' c p p' q q' r r' s s' t t' e0 e1 e2 e3 e4 e5 = cc

head_takes : (shape : Shape) (bytes : List ℕ) → IsBytes bytes → 16 ≤ length bytes → 1 ≤ get_or bytes 0 0 → get_or bytes 0 0 ≤ 2 → take 16 bytes ≡ spelled_head (cell_in shape bytes) (number16 2 bytes)
head_takes shape bytes fits room low high =
    head_of bytes room
    ∙ same_head (get_or bytes 0 0) (cond (eqb (get_or bytes 0 0) 2) 2 1) (get_or bytes 1 0)
    (take 2 (drop 2 bytes)) (to_be_bytes w16 (number16 2 bytes)) (take 4 (drop 4 bytes)) (to_be_bytes w32 (number32 4 bytes))
    (take 2 (drop 8 bytes)) (to_be_bytes w16 (number16 8 bytes)) (take 2 (drop 10 bytes)) (to_be_bytes w16 (number16 10 bytes))
    (take 4 (drop 12 bytes)) (to_be_bytes w32 (number32 12 bytes))
    (is_mark (get_or bytes 0 0) low high)
    (field16 2 bytes fits (omega arith)) (field32 4 bytes fits (omega arith)) (field16 8 bytes fits (omega arith)) (field16 10 bytes fits (omega arith)) (field32 12 bytes fits (omega arith))

pub shape_in : (shape : Shape) (bytes : List ℕ) → cell_length shape ≤ length bytes → shape_of (cell_in shape bytes) ≡ shape
shape_in shape bytes room =
    let children : length (addresses_in shape.children (drop 16 bytes)) ≡ shape.children = length-addresses_in shape.children (drop 16 bytes) in
    let content : length (take shape.bytes (drop (16 + 4 * shape.children) bytes)) ≡ shape.bytes =
    length-take-le shape.bytes (drop (16 + 4 * shape.children) bytes) (omega (arith, length-drop (16 + 4 * shape.children) bytes)) in
    let with : ℕ → ℕ → Shape = λ c b. record { children = c; bytes = b } in
    ap (λ (c : ℕ). with c (length (take shape.bytes (drop (16 + 4 * shape.children) bytes)))) children ∙ ap (λ (b : ℕ). with shape.children b) content

pub cell_fits : (shape : Shape) (bytes : List ℕ) → IsBytes bytes → Fits (cell_in shape bytes)
cell_fits shape bytes fits = record {
  code = fits 1;
  addr = number32_fits 4 bytes fits;
  part = number16_fits 8 bytes fits;
  number = number16_fits 10 bytes fits;
  twin = number32_fits 12 bytes fits;
  children = addresses_fit shape.children (drop 16 bytes) (IsBytes-drop 16 bytes fits);
}

-- the tail, and what follows the cell
tail_takes : (shape : Shape) (bytes : List ℕ) → IsBytes bytes → HasZeros bytes (used_of shape) (cell_length shape)
    → drop 16 bytes ≡ (flat_map (to_be_bytes w32) (addresses_in shape.children (drop 16 bytes)) ++ (take shape.bytes (drop (16 + 4 * shape.children) bytes) ++ replicate (cell_length shape - used_of shape) 0)) ++ drop (cell_length shape) bytes
tail_takes shape bytes fits padded =
    let k : ℕ = 4 * shape.children in
    let n : ℕ = shape.bytes in
    let len : ℕ = cell_length shape in
    let pad : ℕ = len - used_of shape in
    let addresses : List ℕ = flat_map (to_be_bytes w32) (addresses_in shape.children (drop 16 bytes)) in
    let content : List ℕ = take n (drop (16 + k) bytes) in
    let more : List ℕ = drop len bytes in
    let long : k ≤ length (drop 16 bytes) = omega (arith, length-drop 16 bytes, padded.room) in
    let a : drop 16 bytes ≡ addresses ++ drop (16 + k) bytes = addresses_back shape.children (drop 16 bytes) (IsBytes-drop 16 bytes fits) long ∙ ap (λ (x : List ℕ). addresses ++ x) (drop-drop k 16 bytes) in
    let b : drop (16 + k) bytes ≡ content ++ drop (used_of shape) bytes = sym (take-append-drop n (drop (16 + k) bytes)) ∙ ap (λ (x : List ℕ). content ++ x) (drop-drop n (16 + k) bytes) in
    let sum : used_of shape + pad ≡ len = omega (arith, used-le-length shape) in
    let c : drop (used_of shape) bytes ≡ replicate pad 0 ++ more =
    sym (take-append-drop pad (drop (used_of shape) bytes)) ∙ ap (λ (x : List ℕ). x ++ drop pad (drop (used_of shape) bytes)) padded.zeros
    ∙ ap (λ (x : List ℕ). replicate pad 0 ++ x) (drop-drop pad (used_of shape) bytes ∙ ap (λ (i : ℕ). drop i bytes) sum) in
    a
    ∙ ap (λ (x : List ℕ). addresses ++ x) (b ∙ ap (λ (x : List ℕ). content ++ x) c ∙ sym (append_assoc content (replicate pad 0) more))
    ∙ sym (append_assoc addresses (content ++ replicate pad 0) more)

-- what was read as a cell is one, and is spelled so
pub record IsReadAsCell (shapes : List Shape) (bytes : List ℕ) (cell : Cell) : Type 0 where
  pub typed : IsCell shapes cell
  pub parts : bytes ≡ spelled_cell cell ++ drop (cell_length (shape_of cell)) bytes

pub cell_takes : (shapes : List Shape) (bytes : List ℕ) (shape : Shape) → IsBytes bytes → BeginsWithCell shapes bytes shape → IsReadAsCell shapes bytes (cell_in shape bytes)
cell_takes shapes bytes shape fits begins =
    let cell : Cell = cell_in shape bytes in
    let len : ℕ = cell_length shape in
    let padded : HasZeros bytes (used_of shape) len = begins.shaped.zeros in
    let room : 16 ≤ length bytes = omega (arith, padded.room) in
    let same : shape_of cell ≡ shape = shape_in shape bytes padded.room in
    let head : take 16 bytes ≡ spelled_head cell len = head_takes shape bytes fits room begins.marked begins.mark ∙ ap (spelled_head cell) begins.shaped.len in
    let tail : List ℕ = flat_map (to_be_bytes w32) cell.children ++ (cell.content ++ replicate (len - used_of shape) 0) in
    let parts : bytes ≡ (spelled_head cell len ++ tail) ++ drop len bytes =
    sym (take-append-drop 16 bytes) ∙ ap (λ (x : List ℕ). x ++ drop 16 bytes) head
    ∙ ap (λ (x : List ℕ). spelled_head cell len ++ x) (tail_takes shape bytes fits padded)
    ∙ sym (append_assoc (spelled_head cell len) tail (drop len bytes)) in
    let spelling : Shape → List ℕ = λ s. spelled_head cell (cell_length s) ++ (flat_map (to_be_bytes w32) cell.children ++ (cell.content ++ replicate (cell_length s - used_of s) 0)) in
    let whole : spelling shape ≡ spelled_cell cell = ap spelling (sym same) ∙ sym (spelled_parts cell) in
    record {
      typed = record { coded = begins.coded; typed = subst (λ (s : Shape). slice_get shapes (get_or bytes 1 0 - 1) ≡ Some s) (sym same) begins.typed; fits = cell_fits shape bytes fits };
      parts = parts ∙ ap (λ (x : List ℕ). x ++ drop len bytes) whole ∙ ap (λ (s : Shape). spelled_cell cell ++ drop (cell_length s) bytes) (sym same);
    }

-- a cell's bytes, its padding apart
front_parts : (cell : Cell) (more : List ℕ) → spelled_cell cell ++ more
    ≡ ((spelled_head cell (cell_length (shape_of cell)) ++ flat_map (to_be_bytes w32) cell.children) ++ cell.content) ++ (replicate (cell_length (shape_of cell) - used_of (shape_of cell)) 0 ++ more)
unfolding spelled_cell
front_parts cell more =
    append_assoc ((spelled_head cell (cell_length (shape_of cell)) ++ flat_map (to_be_bytes w32) cell.children) ++ cell.content) (replicate (cell_length (shape_of cell) - used_of (shape_of cell)) 0) more

-- what a cell spells, begins as a cell
pub cell_begins : (shapes : List Shape) (bytes : List ℕ) (cell : Cell) (more : List ℕ) → length bytes < 2 ^ 16 → IsCell shapes cell → bytes ≡ spelled_cell cell ++ more → BeginsWithCell shapes bytes (shape_of cell)
cell_begins shapes bytes cell more short is e =
    let shape : Shape = shape_of cell in
    let len : ℕ = cell_length shape in
    let pad : ℕ = len - used_of shape in
    let zeros : List ℕ = replicate pad 0 in
    let head : List ℕ = spelled_head cell len in
    let addresses : List ℕ = flat_map (to_be_bytes w32) cell.children in
    let front : List ℕ = (head ++ addresses) ++ cell.content in
    let parts : bytes ≡ parts_of cell more = grouped_parts bytes cell more e in
    let whole : length bytes ≡ length (spelled_cell cell) + length more = ap length e ∙ length-append (spelled_cell cell) more in
    let room : len ≤ length bytes = omega (arith, whole, length-spelled_cell cell) in
    let code : get_or bytes 1 0 ≡ cell.code = code_again bytes cell more e in
    let number : number16 2 bytes ≡ len = ap (number16 2) parts ∙ from_be_bytes-to_be_bytes_2 len (omega arith) in
    let grouped : bytes ≡ front ++ (zeros ++ more) = e ∙ front_parts cell more in
    let used : length front ≡ used_of shape = omega (arith, length-append (head ++ addresses) cell.content, length-append head addresses, length-spelled_addresses cell.children) in
    let behind : drop (used_of shape) bytes ≡ zeros ++ more = ap (drop (used_of shape)) grouped ∙ drop_at front (zeros ++ more) (used_of shape) used in
    let padding : take pad (drop (used_of shape) bytes) ≡ zeros = ap (take pad) behind ∙ take_at zeros more pad (length-replicate pad 0) in
    let marks = mark_again bytes cell more e in
    record {
      marked = marks.0;
      mark = marks.1;
      coded = subst (λ (c : ℕ). 1 ≤ c) (sym code) is.coded;
      typed = subst (λ (c : ℕ). slice_get shapes (c - 1) ≡ Some shape) (sym code) is.typed;
      shaped = record { len = number; zeros = record { room = room; zeros = padding } };
    }
