-- How long the canonical text of a schema is at most.
use Rattle.std.proofs.Common.{◌≡◌, ℕ, zero, suc, ◌+◌, ◌*◌, ◌^◌, ◌<◌, ◌≤◌, ◌==◌, Bool, true, false, cond, nat_le, List, [], ◌∷◌, ◌++◌, length, arith, inl, inr, decimal, length-append}
use Rattle.std.specs.List.{list_all, slice_get, onto_first}
use Rattle.std.specs.Option.{option_map_or}
use Rattle.std.proofs.lemmas.Bool.{and_parts, or_cases, leb-true}
use Rattle.std.proofs.lemmas.Fmt.{length-decimal-le}
use Rattle.hal_base.specs.Name.{is_name, is_field_name, is_portion_name}
use Rattle.hal_schema.specs.declared.schema.SegType.{SegType}
use Rattle.hal_schema.specs.Lawful.{type_is_named}
use Rattle.definition_printer.specs.Wrapped.{pieces, line_end, room_behind, on_lines, wrapped}
use Rattle.definition_printer.specs.Dbd.{name_of}

-- a text of at most so many bytes
pub record Long (most : ℕ) (text : List ℕ) : Type 0 where
  pub fits : length text ≤ most

pub own : (text : List ℕ) → Long (length text) text
own text = record { fits = omega arith }

pub long : {most : ℕ} {text : List ℕ} → length text ≤ most → Long most text
long h = record { fits = h }

pub join : {m n : ℕ} {a b : List ℕ} → Long m a → Long n b → Long (m + n) (a ++ b)
join {m} {n} {a} {b} h k = let x = h.fits in let y = k.fits in record { fits = omega (arith, length-append a b, x, y) }

-- ---- statements on lines

end_short : (v : Bool) → length {A = ℕ} (cond v [] (10 ∷ 32 ∷ [])) ≤ 2
end_short true = omega arith
end_short false = omega arith

-- what pieces take on lines: each may begin a line of its own, behind a blank
abbrev taken : List (List ℕ) → ℕ
taken [] = 1
taken (piece ∷ more) = 2 + length piece + taken more

lines_short : (room : ℕ) (ps : List (List ℕ)) → length (on_lines room ps) ≤ taken ps
unfolding on_lines
lines_short room [] = omega arith
lines_short room (piece ∷ more) =
    let len = length piece in
    let next = on_lines (room_behind room len) more in
    let later = lines_short (room_behind room len) more in
    let brk = end_short (nat_le len room) in
    omega (arith, brk, later, length-append (line_end room len) piece, length-append (line_end room len ++ piece) next)

onto_taken : (b : ℕ) (ps : List (List ℕ)) → taken (onto_first b ps) ≤ 3 + taken ps
onto_taken b [] = omega arith
onto_taken b (p ∷ ps) = omega arith

pieces_by : (v : Bool) (b : ℕ) (rest : List ℕ) → taken (pieces rest) ≤ 3 * length rest + 1 → taken (cond v ((b ∷ []) ∷ pieces rest) (onto_first b (pieces rest))) ≤ 3 * length (b ∷ rest) + 1
pieces_by true b rest h = omega arith
pieces_by false b rest h = let o = onto_taken b (pieces rest) in omega (arith, o)

pieces_short : (text : List ℕ) → taken (pieces text) ≤ 3 * length text + 1
unfolding pieces
pieces_short [] = omega arith
pieces_short (b ∷ rest) = pieces_by (b == 44) b rest (pieces_short rest)

pub on_lines_fit : {n : ℕ} {text : List ℕ} → Long n text → Long (3 * n + 1) (wrapped text)
unfolding wrapped
on_lines_fit {n} {text} h = let a = lines_short 71 (pieces text) in let b = pieces_short text in let c = h.fits in record { fits = omega (arith, a, b, c) }

-- ---- names and numbers

pub name_fits : (name : List ℕ) → is_name name ≡ true → length name ≤ 8
name_fits [] h = cc
name_fits (b ∷ more) h = let short : length more ≤ 7 = leb-true _ _ (and_parts _ _ h).1 in omega (arith, short)

portion_fits : (name : List ℕ) → is_portion_name name ≡ true → length name ≤ 8
portion_fits [] h = cc
portion_fits (a ∷ []) h = cc
portion_fits (a ∷ b ∷ []) h = cc
portion_fits (a ∷ b ∷ c ∷ more) h = let short : length more ≤ 5 = leb-true _ _ (and_parts _ _ h).1 in omega (arith, short)

pub field_name_fits : (name : List ℕ) → is_field_name name ≡ true → length name ≤ 8
field_name_fits name h = elim (or_cases (is_name name) (is_portion_name name) h) [
  | inl plain ↦ name_fits name plain
  | inr portion ↦ portion_fits name portion
]

name_at : (types : List SegType) (place : ℕ) → list_all type_is_named types ≡ true → length (option_map_or (λ t. t.name) (slice_get types place) []) ≤ 8
name_at [] place h = omega arith
name_at (t ∷ types) zero h = name_fits t.name (and_parts _ _ (and_parts _ _ h).0).0
name_at (t ∷ types) (suc place) h = name_at types place (and_parts _ _ h).1

pub type_name_fits : (types : List SegType) (code : ℕ) → list_all type_is_named types ≡ true → length (name_of types code) ≤ 8
type_name_fits types zero h = omega arith
type_name_fits types (suc place) h = name_at types place h

pub number_fits : (n : ℕ) → n < 2 ^ 32 → length (decimal n) ≤ 10
number_fits n h = length-decimal-le 10 n (omega arith) (omega (arith, h)) (omega (arith, h))
