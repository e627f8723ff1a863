-- What stands behind the lines of a text that ends with a line.
use Rattle.std.proofs.Common.{◌≡◌, ℕ, zero, suc, ◌+◌, ◌-◌, ◌<◌, Bool, true, false, ◌==◌, cond, List, [], ◌∷◌, ◌++◌, drop, refl, sym, ap, ◌∙◌, arith}
use Rattle.std.specs.List.{position_or_len, after_first}
use Rattle.dbd_reader.specs.Lines.{behind_lines}
use Rattle.definition_text.specs.RawDbd.{lines_in}
use Rattle.definition_text.proofs.Pieced.{lines_append}

-- the last byte ends a line
abbrev pub is_whole : List ℕ → Bool
is_whole [] = true
is_whole (b ∷ []) = b == 10
is_whole (a ∷ b ∷ rest) = is_whole (b ∷ rest)

pub whole_behind : (front : List ℕ) (b : ℕ) (rest : List ℕ) → is_whole (front ++ b ∷ rest) ≡ is_whole (b ∷ rest)
whole_behind [] b rest = refl
whole_behind (a ∷ []) b rest = refl
whole_behind (a ∷ c ∷ front) b rest = whole_behind (c ∷ front) b rest

whole_rest : (b : ℕ) (rest : List ℕ) → is_whole (b ∷ rest) ≡ true → is_whole rest ≡ true
whole_rest b [] h = refl
whole_rest b (c ∷ rest) h = h

abbrev after : List ℕ → List ℕ
after text = after_first (λ b. b == 10) text

-- what stands behind the first line ends with a line too, and has one line less
record IsShorter (text : List ℕ) : Type 0 where
  whole : is_whole (after text) ≡ true
  fewer : lines_in (after text) ≡ lines_in text - 1

first_count : (b : ℕ) (rest : List ℕ) → lines_in (b ∷ rest) ≡ (0 + cond (b == 10) 1 0) + lines_in rest
first_count b rest = lines_append (b ∷ []) rest

last_line : (b : ℕ) (rest : List ℕ) → is_whole (b ∷ rest) ≡ true → 0 < lines_in (b ∷ rest)
last_line b [] h = rw h (let e : 0 < 0 + 1 = omega arith in e)
last_line b (c ∷ rest) h =
    let count = first_count b (c ∷ rest) in
    let more = last_line c rest h in
    omega (arith, count, more)

here_ends : (b : ℕ) (rest : List ℕ) → (b == 10) ≡ true → after (b ∷ rest) ≡ rest
here_ends b rest e = rw e refl

ends_later : (b : ℕ) (rest : List ℕ) → (b == 10) ≡ false → after (b ∷ rest) ≡ after rest
ends_later b rest e =
    let k : ℕ = position_or_len (λ x. x == 10) rest in
    let more : 1 + k + 1 ≡ suc (k + 1) = omega arith in
    rw e (ap (λ (n : ℕ). drop n (b ∷ rest)) more)

shorter_by : (v : Bool) (b : ℕ) (rest : List ℕ) → (b == 10) ≡ v → is_whole (b ∷ rest) ≡ true → IsShorter rest → IsShorter (b ∷ rest)
shorter_by true b rest e h more =
    let same = here_ends b rest e in
    let count : lines_in (b ∷ rest) ≡ (0 + 1) + lines_in rest = first_count b rest ∙ ap (λ (v : Bool). (0 + cond v 1 0) + lines_in rest) e in
    record { whole = ap is_whole same ∙ whole_rest b rest h; fewer = ap lines_in same ∙ (let less : lines_in rest ≡ lines_in (b ∷ rest) - 1 = omega (arith, count) in less) }
shorter_by false b rest e h more =
    let same = ends_later b rest e in
    let count : lines_in (b ∷ rest) ≡ (0 + 0) + lines_in rest = first_count b rest ∙ ap (λ (v : Bool). (0 + cond v 1 0) + lines_in rest) e in
    let less = more.fewer in
    record { whole = ap is_whole same ∙ more.whole; fewer = ap lines_in same ∙ (let fewer : lines_in (after rest) ≡ lines_in (b ∷ rest) - 1 = omega (arith, count, less) in fewer) }

shorter : (text : List ℕ) → is_whole text ≡ true → IsShorter text
shorter [] h = record { whole = refl; fewer = refl }
shorter (b ∷ rest) h = shorter_by (b == 10) b rest refl h (shorter rest (whole_rest b rest h))

none_left : (text : List ℕ) → is_whole text ≡ true → lines_in text ≡ 0 → text ≡ []
none_left [] h e = refl
none_left (b ∷ rest) h e = let some = last_line b rest h in absurd (omega (arith, some, e))

front_by : (v : Bool) (b : ℕ) (text rest : List ℕ) → (b == 10) ≡ v → 0 < lines_in (b ∷ text) → (0 < lines_in text → after (text ++ rest) ≡ after text ++ rest) → after (b ∷ (text ++ rest)) ≡ after (b ∷ text) ++ rest
front_by true b text rest e some more = here_ends b (text ++ rest) e ∙ sym (ap (λ (t : List ℕ). t ++ rest) (here_ends b text e))
front_by false b text rest e some more =
    let count : lines_in (b ∷ text) ≡ (0 + 0) + lines_in text = first_count b text ∙ ap (λ (v : Bool). (0 + cond v 1 0) + lines_in text) e in
    ends_later b (text ++ rest) e ∙ more (omega (arith, some, count)) ∙ sym (ap (λ (t : List ℕ). t ++ rest) (ends_later b text e))

after_front : (text rest : List ℕ) → 0 < lines_in text → after (text ++ rest) ≡ after text ++ rest
after_front [] rest some = absurd (let none : 0 < 0 = some in omega (arith, none))
after_front (b ∷ text) rest some = front_by (b == 10) b text rest refl some (after_front text rest)

behind_after : (n : ℕ) (text : List ℕ) → behind_lines (suc n) text ≡ behind_lines n (after text)
behind_after zero text = refl
behind_after (suc n) text = ap after (behind_after n text)

behind_by : (n : ℕ) (text rest : List ℕ) → is_whole text ≡ true → lines_in text ≡ n → behind_lines n (text ++ rest) ≡ rest
behind_by zero text rest h count = ap (λ (t : List ℕ). t ++ rest) (none_left text h count)
behind_by (suc n) text rest h count =
    let next = shorter text h in
    let fewer = next.fewer in
    let some : 0 < lines_in text = omega (arith, count) in
    behind_after n (text ++ rest) ∙ ap (behind_lines n) (after_front text rest some) ∙ behind_by n (after text) rest next.whole (omega (arith, count, fewer))

-- what stands behind the lines of such a text
pub rest_behind : (text rest : List ℕ) → is_whole text ≡ true → behind_lines (lines_in text) (text ++ rest) ≡ rest
rest_behind text rest h = behind_by (lines_in text) text rest h refl
