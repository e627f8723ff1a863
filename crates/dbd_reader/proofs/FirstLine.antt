-- A text is its first line and the lines behind.
use Rattle.std.proofs.Common.{◌≡◌, ℕ, suc, ◌+◌, ◌-◌, ◌<◌, ◌≤◌, ◌==◌, Bool, true, false, not, cond, List, [], ◌∷◌, length, take, drop, refl, sym, ap, ◌∙◌, arith, ne_eqb}
use Rattle.std.specs.List.{slice_split, position_or_len, before_first, after_first, onto_first}
use Rattle.std.specs.Str.Lines.{lines, lines_of_parts, strip_carriage_return}
use Rattle.std.proofs.lemmas.List.{drop_all}
use Rattle.std.proofs.lemmas.List.Splits.{slice_split_first, slice_split-cons_no, length-slice_split}
use Rattle.dbd_reader.specs.Lines.{behind_lines, IsBehind}

-- a line's end
abbrev pub ends : ℕ → Bool
ends b = b == 10

parts_first : (x : List ℕ) (parts : List (List ℕ)) → 0 < length parts → lines_of_parts (x ∷ parts) ≡ strip_carriage_return x ∷ lines_of_parts parts
parts_first x [] some = absurd (omega arith)
parts_first x (y ∷ more) some = refl

pub line_first : (text : List ℕ) → position_or_len ends text < length text → lines text ≡ strip_carriage_return (take (position_or_len ends text) text) ∷ lines (drop (position_or_len ends text + 1) text)
line_first text short =
    let split = slice_split_first ends text 0 short in
    let some : 0 < length (slice_split ends (after_first ends text)) = omega (arith, length-slice_split ends (after_first ends text)) in
    ap lines_of_parts split ∙ parts_first (before_first ends text) (slice_split ends (after_first ends text)) some

split_none : (text : List ℕ) → position_or_len ends text ≡ length text → slice_split ends text ≡ text ∷ []
split_none [] none = refl
split_none (b ∷ text) none = by_cases (ends b) refl none (λ h. split_none text h)
  where
    by_cases : (v : Bool) → ends b ≡ v → cond (not v) (1 + position_or_len ends text) 0 ≡ length (b ∷ text) → (position_or_len ends text ≡ length text → slice_split ends text ≡ text ∷ []) → slice_split ends (b ∷ text) ≡ (b ∷ text) ∷ []
    by_cases true e h ih = absurd (omega arith)
    by_cases false e h ih =
        let rest : slice_split ends text ≡ text ∷ [] = ih (omega arith) in
        slice_split-cons_no ends b text e ∙ ap (onto_first b) rest

one_part : (text : List ℕ) → 0 < length text → lines_of_parts (text ∷ []) ≡ text ∷ []
one_part text some =
    let e : (length text == 0) ≡ false = ne_eqb (length text) 0 (λ h. omega arith) in
    rw e refl

pub line_last : (text : List ℕ) → 0 < length text → position_or_len ends text ≡ length text → lines text ≡ text ∷ lines (drop (position_or_len ends text) text)
line_last text some none =
    let left : drop (position_or_len ends text) text ≡ [] = drop_all (position_or_len ends text) text (omega arith) in
    ap lines_of_parts (split_none text none) ∙ one_part text some ∙ sym (ap (λ (l : List ℕ). text ∷ lines l) left)

pub behind_last : (text : List ℕ) → position_or_len ends text ≡ length text → [] ≡ after_first ends text
behind_last text none = sym (drop_all (position_or_len ends text + 1) text (omega arith))

pub no_lines : (text : List ℕ) → length text ≡ 0 → lines text ≡ []
no_lines [] none = refl
no_lines (b ∷ text) none = absurd (omega arith)

pub behind_next : (whole : List ℕ) (number next : ℕ) (rest behind : List ℕ) → next ≡ number + 1 → IsBehind whole number rest → behind ≡ after_first ends rest → IsBehind whole next behind
behind_next whole number next rest behind n h e =
    let k : next - 1 ≡ suc (number - 1) = omega (arith, h.counted) in
    record {
      counted = omega arith;
      same = e ∙ ap (after_first ends) h.same ∙ sym (ap (λ (j : ℕ). behind_lines j whole) k);
    }
