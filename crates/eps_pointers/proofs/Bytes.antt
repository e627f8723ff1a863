-- Numbers in bytes: what was read at the front of bytes is written as they stand.
use Rattle.std.proofs.Common.{arith, refl, sym, ap, subst, ⊎_elim, ◌≡◌, ◌∙◌, ℕ, ◌+◌, ◌^◌, ◌<◌, ◌≤◌, List, [], ◌∷◌, ◌++◌, All, length, take, drop, get_or}
use Rattle.std.proofs.lemmas.Bool.{cases_lt}
use Rattle.std.proofs.lemmas.List.{take-append-drop, drop-drop, get_or_past, take_all, length-take-le, length-drop}
use Rattle.std.proofs.lemmas.List.Elements.{All-take, All-drop, All-get_or}
use Rattle.std.proofs.lemmas.Nat.{be_bytes_2, be_bytes_4, from_be_bytes-to_be_bytes_2, from_be_bytes-to_be_bytes_4}
use Rattle.std.specs.Int.{w16, w32, to_be_bytes, from_be_bytes}
use Rattle.keyed_sets.specs.Map.{written_over}
use Rattle.eps_pointers.specs.Layout.{name_bytes, name_in, eps_bytes, eps_in, home_bytes, ile_bytes, ile_in}

abbrev pub IsByte : ℕ → Type 0
IsByte byte = byte < 256

small : (bytes : List ℕ) → All IsByte bytes → (i : ℕ) → get_or bytes i 0 < 256
small bytes h i = ⊎_elim
    (λ within. All-get_or IsByte bytes i 0 within h)
    (λ past. subst (λ (n : ℕ). n < 256) (sym (get_or_past bytes i 0 past)) (omega arith))
    (cases_lt i (length bytes))

-- so many bytes behind so many others
part : (n m : ℕ) (bytes : List ℕ) → n + m ≤ length bytes → length (take m (drop n bytes)) ≡ m
part n m bytes long = length-take-le m (drop n bytes) (omega (arith, length-drop n bytes))

read2 : (n : ℕ) (bytes : List ℕ) → All IsByte bytes → n + 2 ≤ length bytes → to_be_bytes w16 (from_be_bytes w16 (take 2 (drop n bytes))) ≡ take 2 (drop n bytes)
read2 n bytes h long = be_bytes_2 (take 2 (drop n bytes)) _ (part n 2 bytes long) (small _ (All-take IsByte 2 (drop n bytes) (All-drop IsByte n bytes h))) refl

read4 : (n : ℕ) (bytes : List ℕ) → All IsByte bytes → n + 4 ≤ length bytes → to_be_bytes w32 (from_be_bytes w32 (take 4 (drop n bytes))) ≡ take 4 (drop n bytes)
read4 n bytes h long = be_bytes_4 (take 4 (drop n bytes)) _ (part n 4 bytes long) (small _ (All-take IsByte 4 (drop n bytes) (All-drop IsByte n bytes h))) refl

-- what was read in front of the rest, and the rest
seam : (n m : ℕ) (bytes : List ℕ) → take m (drop n bytes) ++ drop (n + m) bytes ≡ drop n bytes
seam n m bytes = ap (λ (rest : List ℕ). take m (drop n bytes) ++ rest) (sym (drop-drop m n bytes)) ∙ take-append-drop m (drop n bytes)

after2 : (n : ℕ) (bytes rest : List ℕ) → All IsByte bytes → n + 2 ≤ length bytes → rest ≡ drop (n + 2) bytes
    → to_be_bytes w16 (from_be_bytes w16 (take 2 (drop n bytes))) ++ rest ≡ drop n bytes
after2 n bytes rest h long is = ap (λ (front : List ℕ). front ++ rest) (read2 n bytes h long) ∙ ap (λ (back : List ℕ). take 2 (drop n bytes) ++ back) is ∙ seam n 2 bytes

after4 : (n : ℕ) (bytes rest : List ℕ) → All IsByte bytes → n + 4 ≤ length bytes → rest ≡ drop (n + 4) bytes
    → to_be_bytes w32 (from_be_bytes w32 (take 4 (drop n bytes))) ++ rest ≡ drop n bytes
after4 n bytes rest h long is = ap (λ (front : List ℕ). front ++ rest) (read4 n bytes h long) ∙ ap (λ (back : List ℕ). take 4 (drop n bytes) ++ back) is ∙ seam n 4 bytes

-- the last number of all
last2 : (n : ℕ) (bytes : List ℕ) → All IsByte bytes → length bytes ≡ n + 2 → to_be_bytes w16 (from_be_bytes w16 (take 2 (drop n bytes))) ≡ drop n bytes
last2 n bytes h long = read2 n bytes h (omega (arith, long)) ∙ take_all 2 (drop n bytes) (omega (arith, long, length-drop n bytes))

name_back : (bytes : List ℕ) → All IsByte bytes → length bytes ≡ 8 → name_bytes (name_in bytes) ≡ bytes
name_back bytes h long = after4 0 bytes _ h (omega (arith, long)) (after2 4 bytes _ h (omega (arith, long)) (last2 6 bytes h long))

pub eps_back : (bytes : List ℕ) → length bytes ≡ 16 → All IsByte bytes → eps_bytes (eps_in bytes) ≡ bytes
eps_back bytes long h = after2 0 bytes _ h (omega (arith, long))
    (after2 2 bytes _ h (omega (arith, long))
    (after4 4 bytes _ h (omega (arith, long)) (name_back (drop 8 bytes) (All-drop IsByte 8 bytes h) (omega (arith, long, length-drop 8 bytes)))))

pub ile_back : (bytes : List ℕ) → length bytes ≡ 6 → All IsByte bytes → ile_bytes (ile_in bytes) ≡ bytes
ile_back bytes long h = after4 0 bytes _ h (omega (arith, long)) (last2 4 bytes h long)

-- eight bytes at the front, and the rest
split : (P : List ℕ → Type 0) → ((a b c d e f g h : ℕ) (rest : List ℕ) → P (a ∷ b ∷ c ∷ d ∷ e ∷ f ∷ g ∷ h ∷ rest)) → (bytes : List ℕ) → 8 ≤ length bytes → P bytes
split P each [] long = absurd (omega (arith, long))
split P each (a ∷ []) long = absurd (omega (arith, long))
split P each (a ∷ b ∷ []) long = absurd (omega (arith, long))
split P each (a ∷ b ∷ c ∷ []) long = absurd (omega (arith, long))
split P each (a ∷ b ∷ c ∷ d ∷ []) long = absurd (omega (arith, long))
split P each (a ∷ b ∷ c ∷ d ∷ e ∷ []) long = absurd (omega (arith, long))
split P each (a ∷ b ∷ c ∷ d ∷ e ∷ f ∷ []) long = absurd (omega (arith, long))
split P each (a ∷ b ∷ c ∷ d ∷ e ∷ f ∷ g ∷ []) long = absurd (omega (arith, long))
split P each (a ∷ b ∷ c ∷ d ∷ e ∷ f ∷ g ∷ h ∷ rest) long = each a b c d e f g h rest

-- number and address over those of a pointer
pub healed : (bytes : List ℕ) (number addr : ℕ) → 16 ≤ length bytes → number < 2 ^ 16 → addr < 2 ^ 32
    → eps_in (take 16 (written_over 2 (home_bytes number addr) bytes)) ≡ record (eps_in (take 16 bytes)) { number = number; addr = addr }
healed bytes number addr long number_fits addr_fits = split (λ (l : List ℕ). eps_in (take 16 (written_over 2 (home_bytes number addr) l)) ≡ record (eps_in (take 16 l)) { number = number; addr = addr })
    (λ a b c d e f g h rest.
    let one = from_be_bytes-to_be_bytes_2 number number_fits in
    let two = from_be_bytes-to_be_bytes_4 addr addr_fits in
    cc) bytes (omega (arith, long))

pub behind : (bytes : List ℕ) (number addr : ℕ) → 16 ≤ length bytes → drop 16 (written_over 2 (home_bytes number addr) bytes) ≡ drop 16 bytes
behind bytes number addr long = split (λ (l : List ℕ). drop 16 (written_over 2 (home_bytes number addr) l) ≡ drop 16 l) (λ a b c d e f g h rest. refl) bytes (omega (arith, long))
