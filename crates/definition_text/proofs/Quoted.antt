-- Texts without quotes, backslashes and control bytes stand in TOML as they are, in quotes.
use Rattle.std.proofs.Common.{◌≡◌, ℕ, Bool, true, false, not, ◌&&◌, ◌==◌, nat_le, List, [], ◌∷◌, ◌++◌, refl, ap, arith}
use Rattle.std.proofs.lemmas.Bool.{and_parts}
use Rattle.std.proofs.lemmas.Bool.Decides.{nat_tests}
use Rattle.std.proofs.lemmas.List.Folds.{list_all-append}
use Rattle.std.specs.List.{list_all, list_any}
use Rattle.toml_writer.specs.Text.{basic, encoding_of, string_text, escaped, is_control, needs_escape, quotes_after}

-- printable, and no quote and no backslash
abbrev pub is_simple : ℕ → Bool
is_simple b = nat_le 32 b && nat_le b 126 && not (b == 34) && not (b == 92)

abbrev pub IsSimple : List ℕ → Type 0
IsSimple s = list_all is_simple s ≡ true

has_none : (test : ℕ → Bool) → ((b : ℕ) → is_simple b ≡ true → test b ≡ false) → (s : List ℕ) → IsSimple s → list_any test s ≡ false
has_none test fails [] h = refl
has_none test fails (b ∷ s) h =
    let (here, more) = and_parts (is_simple b) (list_all is_simple s) h in
    rw (fails b here) (has_none test fails s more)

no_control : (b : ℕ) → is_simple b ≡ true → is_control b ≡ false
no_control b h = grind (arith, nat_tests)

no_quote : (b : ℕ) → is_simple b ≡ true → (b == 34) ≡ false
no_quote b h = grind (arith, nat_tests)

no_backslash : (b : ℕ) → is_simple b ≡ true → (b == 92) ≡ false
no_backslash b h = grind (arith, nat_tests)

no_feed : (b : ℕ) → is_simple b ≡ true → (b == 10) ≡ false
no_feed b h = grind (arith, nat_tests)

no_escape : (b : ℕ) → is_simple b ≡ true → needs_escape false 0 b ≡ false
unfolding needs_escape
no_escape b h = grind (arith, nat_tests)

no_quotes : (b : ℕ) → is_simple b ≡ true → quotes_after false 0 b ≡ 0
unfolding quotes_after
no_quotes b h = rw (no_quote b h) refl

escaped-simple : (s : List ℕ) → IsSimple s → escaped false 0 s ≡ s
unfolding escaped
escaped-simple [] h = refl
escaped-simple (b ∷ s) h =
    let (here, more) = and_parts (is_simple b) (list_all is_simple s) h in
    rw (no_escape b here, no_quotes b here) (ap (λ (xs : List ℕ). b ∷ xs) (escaped-simple s more))

encoding-simple : (s : List ℕ) → IsSimple s → encoding_of s ≡ basic
unfolding encoding_of
encoding-simple s h = rw (has_none is_control no_control s h, has_none (λ x. x == 92) no_backslash s h, has_none (λ x. x == 34) no_quote s h, has_none (λ x. x == 10) no_feed s h) refl

pub string_text-simple : (s : List ℕ) → IsSimple s → string_text s ≡ (34 ∷ s) ++ 34 ∷ []
unfolding string_text
string_text-simple s h = rw (encoding-simple s h, escaped-simple s h) refl

pub simple_append : (s t : List ℕ) → IsSimple s → IsSimple t → IsSimple (s ++ t)
simple_append s t a b = rw (list_all-append is_simple s t, a, b) refl
