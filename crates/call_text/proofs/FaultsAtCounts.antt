-- A wrong count is where the first fault is.
use Rattle.hal_base.specs.Bytes.{is_printable}
use Rattle.std.proofs.Common.{◌≡◌, ℕ, ◌⊎◌, inl, inr, true, false, List, [], ◌∷◌, ◌++◌, Ok, Err, refl, sym, ap, subst, ◌∙◌, ap₂, append_assoc, append-nil}
use Rattle.std.specs.List.{list_all}
use Rattle.std.proofs.lemmas.List.Folds.{list_all-append}
use Rattle.call_text.specs.declared.fault.Fault.TheVariants as faults
use Rattle.call_text.specs.declared.line.Line.{Line}
use Rattle.call_text.specs.declared.line.Line.TheVariants as lines
use Rattle.call_text.specs.declared.line.Command.TheVariants.{Step}
use Rattle.call_text.specs.Words.{is_number, is_count}
use Rattle.call_text.specs.Spelling.{IsGap, SpellsReorg, SpellsForm}
use Rattle.call_text.specs.Faults.{Begins, EndsAt, FirstFault, EndsWord, IsWrongCount}
use Rattle.call_text.specs.Reading.{form_at}
use Rattle.call_text.proofs.ValuesPrinted.{Prints}
use Rattle.call_text.proofs.Taken.{prints_parts}
use Rattle.call_text.proofs.LinesAgain.{form_again}
use Rattle.call_text.proofs.WrongCounts.{HasWrongCount, wrong_read}

-- one text in two parts each: the first part of the one is longer, or that of the other as long or longer
record Shorter (a b c d : List ℕ) : Type 0 where
  next : ℕ
  more : List ℕ
  front_is : c ≡ a ++ (next ∷ more)
  rest_is : b ≡ (next ∷ more) ++ d

record Longer (a b c d : List ℕ) : Type 0 where
  more : List ℕ
  front_is : a ≡ c ++ more
  rest_is : d ≡ more ++ b

split : (a b c d : List ℕ) → a ++ b ≡ c ++ d → Shorter a b c d ⊎ Longer a b c d
split [] b [] d e = inr (record { more = []; front_is = refl; rest_is = sym e })
split [] b (y ∷ c) d e = inl (record { next = y; more = c; front_is = refl; rest_is = e })
split (x ∷ a) b [] d e = inr (record { more = x ∷ a; front_is = refl; rest_is = sym e })
split (x ∷ a) b (y ∷ c) d e = by_case (split a b c d (let t : a ++ b ≡ c ++ d = cc in t))
  where
    same : x ≡ y
    same = cc

    by_case : Shorter a b c d ⊎ Longer a b c d → Shorter (x ∷ a) b (y ∷ c) d ⊎ Longer (x ∷ a) b (y ∷ c) d
    by_case (inl s) = inl (record { next = s.next; more = s.more; front_is = ap₂ (λ (z : ℕ) (t : List ℕ). z ∷ t) (sym same) s.front_is; rest_is = s.rest_is })
    by_case (inr l) = inr (record { more = l.more; front_is = ap₂ (λ (z : ℕ) (t : List ℕ). z ∷ t) same l.front_is; rest_is = l.rest_is })

-- a front of a front that begins a form begins it too
pub begins_front : (front : List ℕ) (b : ℕ) (more : List ℕ) → Begins (front ++ (b ∷ more)) → Begins (front ++ b ∷ [])
begins_front front b more h =
    let is : (front ++ b ∷ []) ++ (more ++ h.more) ≡ (front ++ (b ∷ more)) ++ h.more = simp append_assoc in
    record { more = more ++ h.more; gap = h.gap; form = h.form; line = h.line; whole = is ∙ h.whole; printable = ap (list_all is_printable) is ∙ h.printable; gap_is = h.gap_is; form_is = h.form_is }

-- what stands before the count
abbrev head_of : {text : List ℕ} → HasWrongCount text → List ℕ
head_of h = h.gap ++ (h.word ++ (h.first ++ (h.verb ++ (h.second ++ (h.name ++ h.third)))))

head_whole : (text : List ℕ) (h : HasWrongCount text) → text ≡ head_of h ++ (h.digits ++ h.rest)
head_whole text h = h.whole ∙ simp append_assoc

head_begins : (text : List ℕ) (h : HasWrongCount text) → Prints text → Begins (head_of h)
head_begins text h prints =
    let form = h.word ++ (h.first ++ (h.verb ++ (h.second ++ (h.name ++ ((h.third ++ 49 ∷ []) ++ []))))) in
    let spells : SpellsReorg form h.part (Step 1) = record {
      word = h.word;
      first = h.first;
      verb = h.verb;
      second = h.second;
      name = h.name;
      count = h.third ++ 49 ∷ [];
      behind = [];
      whole = refl;
      word_is = h.word_is;
      first_is = h.first_is;
      verb_is = h.verb_is;
      second_is = h.second_is;
      name_is = h.name_is;
      count_is = (h.third, 49 ∷ [], h.third_is, refl, refl, refl, refl);
      behind_is = refl;
    } in
    let shown : Prints (head_of h) = (prints_parts (head_of h) (h.digits ++ h.rest) text (head_whole text h) prints).0 in
    record {
      more = 49 ∷ [];
      gap = h.gap;
      form = form;
      line = lines.Reorg h.part (Step 1);
      whole = simp (append_assoc, append-nil);
      printable = list_all-append is_printable (head_of h) (49 ∷ []) ∙ rw shown refl;
      gap_is = h.gap_is;
      form_is = spells;
    }

-- no form has a wrong count
no_wrong : (text : List ℕ) (gap form : List ℕ) (line : Line) → text ≡ gap ++ form → IsGap gap → SpellsForm form line → HasWrongCount text → ⊥
no_wrong text gap form line whole gap_is form_is h =
    let no_way : Ok line ≡ Err faults.Count = sym (ap form_at whole ∙ form_again gap form line gap_is form_is) ∙ wrong_read text h in
    absurd cc

wrong_behind : (text : List ℕ) (h : HasWrongCount text) (front rest begun : List ℕ) → EndsAt front rest → Begins front → front ≡ head_of h ++ begun → h.digits ++ h.rest ≡ begun ++ rest → IsWrongCount front rest
wrong_behind text h front rest begun longest begins whole tail = by_case (split begun rest h.digits h.rest (sym tail))
  where
    made : (left behind : List ℕ) → h.digits ≡ begun ++ left → rest ≡ left ++ behind → EndsWord behind → IsWrongCount front rest
    made left behind digits_is goes_on ended = record {
      gap = h.gap;
      word = h.word;
      first = h.first;
      verb = h.verb;
      second = h.second;
      name = h.name;
      part = h.part;
      third = h.third;
      begun = begun;
      left = left;
      behind = behind;
      whole = whole;
      goes_on = goes_on;
      gap_is = h.gap_is;
      word_is = h.word_is;
      first_is = h.first_is;
      verb_is = h.verb_is;
      second_is = h.second_is;
      name_is = h.name_is;
      third_is = h.third_is;
      number = subst (λ (d : List ℕ). is_number d ≡ true) digits_is h.number;
      wrong = subst (λ (d : List ℕ). is_count d ≡ false) digits_is h.wrong;
      ended = ended;
    }

    -- a form that begins so would have a wrong count
    never : (c : ℕ) (more : List ℕ) → begun ≡ h.digits ++ (c ∷ more) → h.rest ≡ (c ∷ more) ++ rest → ⊥
    never c more begun_is rest_is =
        let text' = front ++ begins.more in
        let is : text' ≡ h.gap ++ (h.word ++ (h.first ++ (h.verb ++ (h.second ++ (h.name ++ (h.third ++ (h.digits ++ ((c ∷ more) ++ begins.more)))))))) = ap (λ (t : List ℕ). t ++ begins.more) (whole ∙ ap (λ (t : List ℕ). head_of h ++ t) begun_is) ∙ simp append_assoc in
        let ended : EndsWord ((c ∷ more) ++ begins.more) = subst EndsWord rest_is h.ended in
        no_wrong text' begins.gap begins.form begins.line begins.whole begins.gap_is begins.form_is (record {
          gap = h.gap;
          word = h.word;
          first = h.first;
          verb = h.verb;
          second = h.second;
          name = h.name;
          part = h.part;
          third = h.third;
          digits = h.digits;
          rest = (c ∷ more) ++ begins.more;
          whole = is;
          gap_is = h.gap_is;
          word_is = h.word_is;
          first_is = h.first_is;
          verb_is = h.verb_is;
          second_is = h.second_is;
          name_is = h.name_is;
          third_is = h.third_is;
          number = h.number;
          wrong = h.wrong;
          ended = ended;
        })

    by_more : (more : List ℕ) → begun ≡ h.digits ++ more → h.rest ≡ more ++ rest → IsWrongCount front rest
    by_more [] begun_is rest_is = made [] rest (sym (append-nil h.digits) ∙ sym begun_is ∙ sym (append-nil begun)) refl (subst EndsWord rest_is h.ended)
    by_more (c ∷ more) begun_is rest_is = absurd (never c more begun_is rest_is)

    by_case : Shorter begun rest h.digits h.rest ⊎ Longer begun rest h.digits h.rest → IsWrongCount front rest
    by_case (inl s) = made (s.next ∷ s.more) h.rest s.front_is s.rest_is h.ended
    by_case (inr l) = by_more l.more l.front_is l.rest_is

-- a wrong count is at the first fault
pub wrong_at_fault : (text front rest : List ℕ) → Prints text → FirstFault text front rest → HasWrongCount text → IsWrongCount front rest
wrong_at_fault text front rest prints fault h = by_case (split front rest (head_of h) (h.digits ++ h.rest) (sym fault.whole ∙ head_whole text h))
  where
    too_short : (rest : List ℕ) (next : ℕ) (more tail : List ℕ) → EndsAt front rest → head_of h ≡ front ++ (next ∷ more) → rest ≡ (next ∷ more) ++ tail → ⊥
    too_short rest next more tail longest head_is rest_is = (subst (EndsAt front) rest_is longest) (begins_front front next more (subst Begins head_is (head_begins text h prints)))

    by_case : Shorter front rest (head_of h) (h.digits ++ h.rest) ⊎ Longer front rest (head_of h) (h.digits ++ h.rest) → IsWrongCount front rest
    by_case (inl s) = absurd (too_short rest s.next s.more (h.digits ++ h.rest) fault.longest s.front_is s.rest_is)
    by_case (inr l) = wrong_behind text h front rest l.more fault.longest fault.begins l.front_is l.rest_is

pub wrong_at : (front rest : List ℕ) → IsWrongCount front rest → HasWrongCount (front ++ rest)
wrong_at front rest h = record {
  gap = h.gap;
  word = h.word;
  first = h.first;
  verb = h.verb;
  second = h.second;
  name = h.name;
  part = h.part;
  third = h.third;
  digits = h.begun ++ h.left;
  rest = h.behind;
  whole = ap₂ (λ (f r : List ℕ). f ++ r) h.whole h.goes_on ∙ simp append_assoc;
  gap_is = h.gap_is;
  word_is = h.word_is;
  first_is = h.first_is;
  verb_is = h.verb_is;
  second_is = h.second_is;
  name_is = h.name_is;
  third_is = h.third_is;
  number = h.number;
  wrong = h.wrong;
  ended = h.ended;
}
