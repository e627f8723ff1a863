-- What the reads of a journal's body give.
use Rattle.std.proofs.Common.{◌≡◌, ℕ, zero, suc, ◌+◌, ◌*◌, ◌<◌, ◌≤◌, Bool, true, ◌==◌, List, [], ◌∷◌, ◌++◌, length, get_or, take, drop, Option, None, Some, refl, sym, ◌∙◌, ap, subst, arith, length-drop}
use Rattle.std.proofs.lemmas.Option.{none-some, same_Some}
use Rattle.std.specs.Prelude.{IfSome}
use Rattle.std.specs.Int.{w32, from_be_bytes}
use Rattle.std.proofs.lemmas.List.{length-take, take_all, get_or-take, get_or-drop}
use Rattle.std.proofs.lemmas.Bool.{eqb-true, eq-eqb, true≢false}
use Rattle.std.specs.BTreeMap.{insert_entry}
use Rattle.std.specs.Ordering.{nat_cmp}
use Rattle.block_journal.specs.Change.{Change}
use Rattle.block_journal.specs.Body.{AreThere}
use Rattle.block_journal.specs.Reads.{ReadsWhole, ReadsNumber, ReadsChange, ReadsSize, ReadsBody, LacksBody}
use Rattle.block_journal.specs.Redo.{bytes_at, number_at, changes_at, are_changes}
use Rattle.block_journal.proofs.Images.{bytes_at-is}
use Rattle.block_journal.proofs.Rising.{least_of, put_in_last, joined, are_few}
use Rattle.block_journal.specs.JournalLaw.{parts}

pub whole_read : (at n : ℕ) (buf : List ℕ) (image : Option (List ℕ)) (whole : Bool) → IfSome image (λ bytes. take n buf ≡ take (length buf) (drop at bytes)) → 0 < length buf → n ≤ length buf → whole ≡ (n == length buf) → ReadsWhole at image whole buf
whole_read at n buf None whole read some within is = record { is = λ w y told. absurd (none-some y told); short = λ w y told. absurd (none-some y told) }
whole_read at n buf (Some x) whole read some within is = record {
  is = λ w y told. subst (λ (y : List ℕ). (at + length buf ≤ length y) × (buf ≡ bytes_at at (length buf) y)) (same_Some x y told) (full (eqb-true n (length buf) (sym is ∙ w)));
  short = λ w y told. subst (λ (y : List ℕ). length y < at + length buf) (same_Some x y told) (cut (λ all. true≢false (sym (is ∙ eq-eqb n (length buf) all) ∙ w)));
}
  where
    full : n ≡ length buf → (at + length buf ≤ length x) × (buf ≡ bytes_at at (length buf) x)
    full all =
        let same : buf ≡ take (length buf) (drop at x) = sym (take_all n buf (omega (arith, all))) ∙ read in (
          omega (arith, ap length read, length-take n buf, length-take (length buf) (drop at x), length-drop at x, all, some),
          sym (bytes_at-is at (length buf) buf x refl (record { byte = λ i lt. sym (ap (λ (l : List ℕ). get_or l i 0) same ∙ get_or-take (length buf) (drop at x) i 0 lt ∙ get_or-drop at x i 0) })),
        )

    cut : (n ≡ length buf → ⊥) → length x < at + length buf
    cut differs = omega (arith, ap length read, length-take n buf, length-take (length buf) (drop at x), length-drop at x, within, differs)

pub number_read : (at number : ℕ) (bytes : List ℕ) (image : Option (List ℕ)) (whole : Bool) → number ≡ from_be_bytes w32 bytes → length bytes ≡ 4 → whole ≡ true → ReadsWhole at image whole bytes → ReadsNumber at image (Some number)
unfolding number_at
number_read at number bytes image whole same_Some four is read = record {
  is = λ n same y told.
      let r = read.is is y told in
      let same_number : number ≡ n = cc in
      (omega (arith, r.0, four), sym same_number ∙ same_Some ∙ ap (from_be_bytes w32) (r.1 ∙ ap (λ (k : ℕ). bytes_at at k y) four));
  short = λ none. cc;
}

pub change_read : (at n : ℕ) (content : List ℕ) (image next : Option (List ℕ)) (number : Option ℕ) (whole : Bool) → number ≡ Some n → ReadsNumber at image number → next ≡ image → length content ≡ 4096 → whole ≡ true → ReadsWhole (at + 4) next whole content → ReadsChange at image (Some ((n, content)))
change_read at n content image next number whole is_n head same long is read = record {
  is = λ c is_c y told.
      let h = head.is n is_n y told in
      let r = read.is is y (same ∙ told) in
      subst (λ (c : Change). (at + 4100 ≤ length y) × (c.0 ≡ number_at at y) × (c.1 ≡ bytes_at (at + 4) 4096 y)) (change_some ((n, content)) c is_c)
      (omega (arith, r.0, long), h.1, r.1 ∙ ap (λ (k : ℕ). bytes_at (at + 4) k y) long);
  short = λ none. cc;
}
  where
    change_some : (a b : Change) → Some a ≡ Some b → a ≡ b
    change_some a b is = cc

pub least_more : (from : ℕ) (cs : List Change) (c : Change) → least_of from (cs ++ c ∷ []) ≡ c.0 + 1
unfolding least_of
least_more from [] c = refl
least_more from (d ∷ cs) c = least_more (d.0 + 1) cs c

pub rising_more : (from count : ℕ) (cs : List Change) (c : Change) → are_changes from count cs ≡ true → least_of from cs ≤ c.0 → c.0 < count → length c.1 ≡ 4096 → are_changes from count (cs ++ c ∷ []) ≡ true
unfolding least_of are_changes
rising_more from count [] c rise low high whole = joined from count c [] (record { low = low; high = high; whole = whole; rest = refl })
rising_more from count (d ∷ cs) c rise low high whole =
    let p = parts from count d cs rise in
    joined from count d (cs ++ c ∷ []) (record { low = p.low; high = p.high; whole = p.whole; rest = rising_more (d.0 + 1) count cs c p.rest low high whole })

-- of changes that rise, each number is behind those before it and below the count
pub rising_at : (from count at k n : ℕ) (y : List ℕ) → k < n → are_changes from count (changes_at at n y) ≡ true → (least_of from (changes_at at k y) ≤ number_at (at + 4100 * k) y) × (number_at (at + 4100 * k) y < count)
unfolding least_of changes_at
rising_at from count at k zero y lt rise = absurd (omega (arith, lt))
rising_at from count at zero (suc n) y lt rise =
    let p = parts from count ((number_at at y, bytes_at (at + 4) 4096 y)) (changes_at (at + 4100) n y) rise in
    let here : at ≡ at + 4100 * 0 = omega arith in
    subst (λ (a : ℕ). (from ≤ number_at a y) × (number_at a y < count)) here (p.low, p.high)
rising_at from count at (suc k) (suc n) y lt rise =
    let p = parts from count ((number_at at y, bytes_at (at + 4) 4096 y)) (changes_at (at + 4100) n y) rise in
    let there : at + 4100 + 4100 * k ≡ at + 4100 * (suc k) = omega arith in
    subst (λ (a : ℕ). (least_of (number_at at y + 1) (changes_at (at + 4100) k y) ≤ number_at a y) × (number_at a y < count)) there (rising_at (number_at at y + 1) count (at + 4100) k n y (omega (arith, lt)) p.rest)

pub length-changes_at : (at n : ℕ) (y : List ℕ) → length (changes_at at n y) ≡ n
unfolding changes_at
length-changes_at at zero y = refl
length-changes_at at (suc n) y = omega (arith, length-changes_at (at + 4100) n y)

changes_suc : (at n : ℕ) (y : List ℕ) → changes_at at (suc n) y ≡ changes_at at n y ++ (number_at (at + 4100 * n) y, bytes_at (at + 4100 * n + 4) 4096 y) ∷ []
unfolding changes_at
changes_suc at zero y = ap (λ (a : ℕ). (number_at a y, bytes_at (a + 4) 4096 y) ∷ []) (omega arith)
changes_suc at (suc n) y =
    let first : Change = (number_at at y, bytes_at (at + 4) 4096 y) in
    let there : at + 4100 + 4100 * n ≡ at + 4100 * suc n = omega arith in
    ap (λ (l : List Change). first ∷ l) (changes_suc (at + 4100) n y)
    ∙ ap (λ (a : ℕ). first ∷ (changes_at (at + 4100) n y ++ (number_at a y, bytes_at (a + 4) 4096 y) ∷ [])) there

pub changes_more : (at n : ℕ) (y : List ℕ) (c : Change) → c.0 ≡ number_at (at + 4100 * n) y → c.1 ≡ bytes_at (at + 4100 * n + 4) 4096 y → changes_at at (n + 1) y ≡ changes_at at n y ++ c ∷ []
changes_more at n y c number content =
    let is : c ≡ (number_at (at + 4100 * n) y, bytes_at (at + 4100 * n + 4) 4096 y) = (λ i. (number i, content i)) in
    ap (λ (k : ℕ). changes_at at k y) (omega arith) ∙ changes_suc at n y ∙ sym (ap (λ (c : Change). changes_at at n y ++ c ∷ []) is)

-- a body doesn't begin with other numbers
pub size_wrong : (first count at n one : ℕ) (told next : Option (List ℕ)) (size ones : Option ℕ) → at ≡ first + 4096 * count → size ≡ Some n → ReadsNumber at told size → next ≡ told → ones ≡ Some one → ReadsNumber (at + 4) next ones → (one ≡ 1 → 1 ≤ n → n ≤ count → ⊥) → LacksBody first count told
size_wrong first count at n one told next size ones at_is is_n read same is_one read_one wrong y is body =
    let number = (read.is n is_n y is).1 ∙ ap (λ (a : ℕ). number_at a y) at_is in
    let second = (read_one.is one is_one y (same ∙ is)).1 ∙ ap (λ (a : ℕ). number_at (a + 4) y) at_is in
    let few = are_few 0 count (changes_at (first + 4096 * count + 8) (number_at (first + 4096 * count) y) y) (omega arith) body.there.rise in
    let many = length-changes_at (first + 4096 * count + 8) (number_at (first + 4096 * count) y) y in
    wrong (second ∙ body.one) (omega (arith, number, body.some)) (omega (arith, number, few, many))

pub size_read : (first count at n one : ℕ) (told next : Option (List ℕ)) (size ones : Option ℕ) → at ≡ first + 4096 * count → size ≡ Some n → ReadsNumber at told size → next ≡ told → ones ≡ Some one → ReadsNumber (at + 4) next ones → one ≡ 1 → 1 ≤ n → n ≤ count → ReadsSize first count told n
size_read first count at n one told next size ones at_is is_n read same is_one read_one one_is some few = record {
  is = λ y is.
      let second = read_one.is one is_one y (same ∙ is) in
      (omega (arith, second.0, at_is), (read.is n is_n y is).1 ∙ ap (λ (a : ℕ). number_at a y) at_is, sym (second.1 ∙ ap (λ (a : ℕ). number_at (a + 4) y) at_is) ∙ one_is);
  some = some;
  few = few;
}

-- what is known of the changes that were read so far
pub record ReadsSome (at k count least : ℕ) (told : Option (List ℕ)) (changes : List Change) : Type 0 where
  pub are : (y : List ℕ) → told ≡ Some y → (at + 4100 * k ≤ length y) × (changes ≡ changes_at at k y)
  pub rise : are_changes 0 count changes ≡ true
  pub next : least ≡ least_of 0 changes

pub some_begin : (at count : ℕ) (told : Option (List ℕ)) (cs : List Change) → cs ≡ [] → ((y : List ℕ) → told ≡ Some y → at ≤ length y) → ReadsSome at 0 count 0 told cs
unfolding least_of changes_at are_changes
some_begin at count told cs none within = subst (λ (l : List Change). ReadsSome at 0 count 0 told l) (sym none) (record { are = λ y is. (omega (arith, within y is), refl); rise = refl; next = refl })

pub some_more : (at k count least place : ℕ) (told now : Option (List ℕ)) (cs more : List Change) (read : Option Change) (c : Change) → ReadsSome at k count least told cs → now ≡ told → place ≡ at + 4100 * k → read ≡ Some c → ReadsChange place now read → length c.1 ≡ 4096 → least ≤ c.0 → c.0 < count → more ≡ insert_entry nat_cmp cs c.0 c.1 → ReadsSome at (k + 1) count (c.0 + 1) told more
some_more at k count least place told now cs more read c so_far same place_is is_c change whole low high put = subst (λ (l : List Change). ReadsSome at (k + 1) count (c.0 + 1) told l) (sym (put ∙ put_in_last 0 count c.0 c.1 cs so_far.rise (omega (arith, so_far.next, low)))) (record {
  are = λ y is.
      let r = change.is c is_c y (same ∙ is) in (
        omega (arith, r.0, place_is),
        ap (λ (l : List Change). l ++ c ∷ []) (so_far.are y is).1 ∙ sym (changes_more at k y c (r.1 ∙ ap (λ (p : ℕ). number_at p y) place_is) (r.2 ∙ ap (λ (p : ℕ). bytes_at (p + 4) 4096 y) place_is)),
      );
  rise = rising_more 0 count cs c so_far.rise (omega (arith, so_far.next, low)) high whole;
  next = sym (least_more 0 cs c);
})

pub some_all : (at k n count least : ℕ) (told : Option (List ℕ)) (cs : List Change) → ReadsSome at k count least told cs → k ≡ n → (y : List ℕ) → told ≡ Some y → AreThere at n count y × (cs ≡ changes_at at n y)
some_all at k n count least told cs so_far is y told_is =
    let s = so_far.are y told_is in
    let same : cs ≡ changes_at at n y = s.1 ∙ ap (λ (m : ℕ). changes_at at m y) is in
    (record { long = omega (arith, s.0, is); rise = sym (ap (are_changes 0 count) same) ∙ so_far.rise }, same)

-- they don't rise
pub change_wrong : (at k n count least place : ℕ) (told now : Option (List ℕ)) (cs : List Change) (read : Option Change) (c : Change) → ReadsSome at k count least told cs → now ≡ told → place ≡ at + 4100 * k → read ≡ Some c → ReadsChange place now read → k < n → (least ≤ c.0 → c.0 < count → ⊥) → (y : List ℕ) → told ≡ Some y → AreThere at n count y → ⊥
change_wrong at k n count least place told now cs read c so_far same place_is is_c change lt wrong y is there =
    let number = (change.is c is_c y (same ∙ is)).1 ∙ ap (λ (p : ℕ). number_at p y) place_is in
    let r = rising_at 0 count at k n y lt there.rise in
    let low = ap (least_of 0) (so_far.are y is).1 in
    wrong (omega (arith, so_far.next, low, r.0, number)) (omega (arith, r.1, number))

-- the body is what the two reads gave
pub body_read : (first count n at : ℕ) (told now : Option (List ℕ)) (cs : List Change) → ReadsSize first count told n → now ≡ told → at ≡ first + 4096 * count + 8 → ((y : List ℕ) → now ≡ Some y → AreThere at n count y × (cs ≡ changes_at at n y)) → ReadsBody first count told cs
body_read first count n at told now cs size same at_is changes = record {
  has = λ y is.
      let s = size.is y is in
      let all : AreThere (first + 4096 * count + 8) (number_at (first + 4096 * count) y) count y × (cs ≡ changes_at (first + 4096 * count + 8) (number_at (first + 4096 * count) y) y) =
      subst (λ (m : ℕ). AreThere (first + 4096 * count + 8) m count y × (cs ≡ changes_at (first + 4096 * count + 8) m y)) s.1 (subst (λ (a : ℕ). AreThere a n count y × (cs ≡ changes_at a n y)) at_is (changes y (same ∙ is))) in
      (record { some = omega (arith, size.some, s.1); one = s.2; there = all.0 }, all.1);
}
