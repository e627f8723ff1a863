-- Each live state goes on to a line.
use Rattle.hal_base.specs.Bytes.{is_printable}
use Rattle.std.proofs.Common.{◌≡◌, ℕ, ◌&&◌, ◌||◌, Bool, true, false, cond, nat_lt, nat_le, ◌==◌, List, [], ◌∷◌, ◌++◌, length, map, refl, sym, ap, ◌∙◌, ap₂, arith, length-append, codes}
use Rattle.std.specs.List.{list_all, take_while}
use Rattle.std.specs.Str.{bytes_eq}
use Rattle.std.proofs.lemmas.Bool.{eqb-true}
use Rattle.std.proofs.lemmas.Bool.Decides.{nat_tests}
use Rattle.std.proofs.lemmas.Slice.Eq.{bytes_eq-Decides}
use Rattle.hal_base.specs.Name.{is_name, is_digit, upper}
use Rattle.call_text.specs.Words.{in_word, past, is_word, is_number, is_count, is_reserved}
use Rattle.call_text.specs.Reading.{cause_of}
use Rattle.call_text.proofs.Runs.{both, take_run, past_run, all_weaker}
use Rattle.call_text.proofs.ValuesPrinted.{Prints}
use Rattle.call_text.proofs.States.{Kind, Place, State, a_first, a_func, a_seg, a_code, a_field, an_operator, a_session, an_option, an_index, a_verb, a_part, a_count, at_first, at_func, behind_seg, at_code, between, at_field, behind_field, behind_operator, in_signs, at_value, in_text, at_quote, at_mark, hex_none, hex_odd, hex_even, behind_clause, at_session, at_option, at_index, at_verb, at_part, at_count, at_end, at, within, dead, over, is_front, is_verb, begins_verb, begins_count, fits, begins, bad, after, grow, place_step, judge, word_judge}
use Rattle.call_text.proofs.StateWords.{word_run}
use Rattle.std.proofs.lemmas.List.Folds.{list_all-append}
use Rattle.call_text.proofs.Walks.{cond_true, cond_false}
use Rattle.call_text.proofs.Fronts.{is_live}

-- ---- a live state goes on to a line

pub record Finishes (state : State) : Type 0 where
  pub more : List ℕ
  pub prints : Prints more
  pub done : judge state more ≡ 0

place_finishes : (place : Place) → Finishes (at place)
place_finishes at_first = record { more = codes "S G"; prints = refl; done = refl }
place_finishes at_func = record { more = codes "G"; prints = refl; done = refl }
place_finishes behind_seg = record { more = []; prints = refl; done = refl }
place_finishes at_code = record { more = codes "D"; prints = refl; done = refl }
place_finishes (between opens spaced) = record { more = []; prints = refl; done = refl }
place_finishes at_field = record { more = codes "K='')"; prints = refl; done = refl }
place_finishes behind_field = record { more = codes "='')"; prints = refl; done = refl }
place_finishes behind_operator = record { more = codes " '')"; prints = refl; done = refl }
place_finishes in_signs = record { more = codes "'')"; prints = refl; done = refl }
place_finishes (at_value true) = record { more = codes "''"; prints = refl; done = refl }
place_finishes (at_value false) = record { more = codes "'')"; prints = refl; done = refl }
place_finishes (in_text true) = record { more = codes "'"; prints = refl; done = refl }
place_finishes (in_text false) = record { more = codes "')"; prints = refl; done = refl }
place_finishes (at_quote true) = record { more = []; prints = refl; done = refl }
place_finishes (at_quote false) = record { more = codes ")"; prints = refl; done = refl }
place_finishes (at_mark true) = record { more = codes "'00'"; prints = refl; done = refl }
place_finishes (at_mark false) = record { more = codes "'00')"; prints = refl; done = refl }
place_finishes (hex_none true) = record { more = codes "00'"; prints = refl; done = refl }
place_finishes (hex_none false) = record { more = codes "00')"; prints = refl; done = refl }
place_finishes (hex_odd true) = record { more = codes "0'"; prints = refl; done = refl }
place_finishes (hex_odd false) = record { more = codes "0')"; prints = refl; done = refl }
place_finishes (hex_even true) = record { more = codes "'"; prints = refl; done = refl }
place_finishes (hex_even false) = record { more = codes "')"; prints = refl; done = refl }
place_finishes behind_clause = record { more = codes ")"; prints = refl; done = refl }
place_finishes at_session = record { more = codes "S A"; prints = refl; done = refl }
place_finishes at_option = record { more = codes "A"; prints = refl; done = refl }
place_finishes at_index = record { more = []; prints = refl; done = refl }
place_finishes at_verb = record { more = codes "QUERY P"; prints = refl; done = refl }
place_finishes (at_part true) = record { more = codes "P 1"; prints = refl; done = refl }
place_finishes (at_part false) = record { more = codes "P"; prints = refl; done = refl }
place_finishes at_count = record { more = codes "1"; prints = refl; done = refl }
place_finishes at_end = record { more = []; prints = refl; done = refl }

-- ---- words

map_append : (a b : List ℕ) → map upper (a ++ b) ≡ map upper a ++ map upper b
map_append [] b = refl
map_append (x ∷ a) b = ap (λ (t : List ℕ). upper x ∷ t) (map_append a b)

-- a word, and the one byte behind it
word_then : (kind : Kind) (w : List ℕ) (b : ℕ) (more : List ℕ) → in_word b ≡ false → fits kind w ≡ true → judge (within kind w) (b ∷ more) ≡ judge (at (after kind (map upper w))) (b ∷ more)
word_then kind w b more h f = ap (λ (s : State). judge s more) (cond_false (in_word b) (grow kind (w ++ b ∷ [])) _ h ∙ cond_true (fits kind w) (place_step (after kind (map upper w)) b) (dead (bad kind w)) f)

first_finishes : (w : List ℕ) → is_name (map upper w) ≡ true → Finishes (within a_first w)
first_finishes w h = by_case (bytes_eq name (codes "PCB")) (bytes_eq name (codes "REORG")) refl refl
  where
    name : List ℕ
    name = map upper w

    by_case : (p r : Bool) → bytes_eq name (codes "PCB") ≡ p → bytes_eq name (codes "REORG") ≡ r → Finishes (within a_first w)
    by_case true r e k = record { more = codes " S A"; prints = refl; done = word_then a_first w 32 (codes "S A") refl h ∙ ap (λ (v : Bool). judge (at (cond v at_session (cond (bytes_eq name (codes "REORG")) at_verb at_func))) (codes " S A")) e }
    by_case false true e k = record { more = codes " QUERY P"; prints = refl; done = word_then a_first w 32 (codes "QUERY P") refl h ∙ ap (λ (v : Bool). judge (at (cond v at_session (cond (bytes_eq name (codes "REORG")) at_verb at_func))) (codes " QUERY P")) e ∙ ap (λ (v : Bool). judge (at (cond v at_verb at_func)) (codes " QUERY P")) k }
    by_case false false e k = record { more = codes " G"; prints = refl; done = word_then a_first w 32 (codes "G") refl h ∙ ap (λ (v : Bool). judge (at (cond v at_session (cond (bytes_eq name (codes "REORG")) at_verb at_func))) (codes " G")) e ∙ ap (λ (v : Bool). judge (at (cond v at_verb at_func)) (codes " G")) k }

session_finishes : (w : List ℕ) → is_name (map upper w) ≡ true → Finishes (within a_session w)
session_finishes w h = by_case (bytes_eq name (codes "PCB")) (bytes_eq name (codes "REORG")) refl refl
  where
    name : List ℕ
    name = map upper w

    longer : (reserved : List ℕ) → bytes_eq name reserved ≡ true → (is_name (reserved ++ 65 ∷ []) && cond (is_reserved (reserved ++ 65 ∷ [])) false true) ≡ true → Finishes (within a_session w)
    longer reserved e fine =
        let is : map upper (w ++ 65 ∷ []) ≡ reserved ++ 65 ∷ [] = map_append w (65 ∷ []) ∙ ap (λ (n : List ℕ). n ++ 65 ∷ []) ((bytes_eq-Decides name reserved).0 e) in
        let right : fits a_session (w ++ 65 ∷ []) ≡ true = ap (λ (n : List ℕ). is_name n && cond (is_reserved n) false true) is ∙ fine in
        record { more = codes "A A"; prints = refl; done = word_run a_session w (codes "A A") ∙ cond_true (fits a_session (w ++ 65 ∷ [])) 0 3 right }

    by_case : (p r : Bool) → bytes_eq name (codes "PCB") ≡ p → bytes_eq name (codes "REORG") ≡ r → Finishes (within a_session w)
    by_case true r e k = longer (codes "PCB") e refl
    by_case false true e k = longer (codes "REORG") k refl
    by_case false false e k =
        let right : fits a_session w ≡ true = rw (h, e, k) refl in
        record { more = codes " A"; prints = refl; done = word_then a_session w 32 (codes "A") refl right }

-- what is left of a word that a front begins
record Left (front whole : List ℕ) : Type 0 where
  left : List ℕ
  is : front ++ left ≡ whole

left_of : (front whole : List ℕ) → is_front front whole ≡ true → Left front whole
left_of [] whole h = record { left = whole; is = refl }
left_of (b ∷ front) [] h = absurd cc
left_of (b ∷ front) (c ∷ whole) h =
    let p = both (b == c) (is_front front whole) h in
    let l = left_of front whole p.1 in
    record { left = l.left; is = ap₂ (λ (x : ℕ) (t : List ℕ). x ∷ t) (eqb-true b c p.0) l.is }

is_capital : ℕ → Bool
is_capital b = nat_le 65 b && nat_le b 90

capital_word : (b : ℕ) → is_capital b ≡ true → in_word b ≡ true
unfolding is_capital
capital_word b h = grind (arith, h)

capital_prints : (b : ℕ) → is_capital b ≡ true → is_printable b ≡ true
unfolding is_capital
capital_prints b h = grind (arith, h)

capital_upper : (b : ℕ) → is_capital b ≡ true → upper b ≡ b
unfolding is_capital
capital_upper b h = grind (arith, h)

capitals_upper : (word : List ℕ) → list_all is_capital word ≡ true → map upper word ≡ word
capitals_upper [] h = refl
capitals_upper (b ∷ word) h =
    let p = both (is_capital b) (list_all is_capital word) h in
    rw (capital_upper b p.0, capitals_upper word p.1) refl

verb_finishes : (verb tail w : List ℕ) → list_all is_capital verb ≡ true → Prints tail → cond (is_name verb && is_verb verb) (judge (at (at_part (bytes_eq verb (codes "STEP")))) (32 ∷ tail)) 3 ≡ 0 → is_front (map upper w) verb ≡ true → Finishes (within a_verb w)
verb_finishes verb tail w capitals prints fine begun =
    let l = left_of (map upper w) verb begun in
    let all : list_all is_capital l.left ≡ true = (both (list_all is_capital (map upper w)) (list_all is_capital l.left) (sym (list_all-append is_capital (map upper w) l.left) ∙ ap (list_all is_capital) l.is ∙ capitals)).1 in
    let bytes : list_all in_word l.left ≡ true = all_weaker is_capital in_word capital_word l.left all in
    let shown : Prints l.left = all_weaker is_capital is_printable capital_prints l.left all in
    let is : map upper (w ++ l.left) ≡ verb = map_append w l.left ∙ ap (λ (t : List ℕ). map upper w ++ t) (capitals_upper l.left all) ∙ l.is in
    let taken : take_while in_word (l.left ++ 32 ∷ tail) ≡ l.left = take_run in_word l.left (32 ∷ tail) bytes refl in
    let rest : past in_word (l.left ++ 32 ∷ tail) ≡ 32 ∷ tail = past_run in_word l.left (32 ∷ tail) bytes refl in
    record {
      more = l.left ++ 32 ∷ tail;
      prints = list_all-append is_printable l.left (32 ∷ tail) ∙ rw (shown, prints) refl;
      done = word_run a_verb w (l.left ++ 32 ∷ tail) ∙ ap₂ (λ (t r : List ℕ). word_judge a_verb (w ++ t) r) taken rest ∙ ap (λ (n : List ℕ). cond (is_name n && is_verb n) (judge (at (at_part (bytes_eq n (codes "STEP")))) (32 ∷ tail)) 3) is ∙ fine;
    }

any_verb_finishes : (w : List ℕ) → begins_verb (map upper w) ≡ true → Finishes (within a_verb w)
unfolding is_capital
any_verb_finishes w h = by_case (is_front n (codes "STEP")) (is_front n (codes "START")) (is_front n (codes "PAUSE")) (is_front n (codes "RESUME")) (is_front n (codes "FINISH")) (is_front n (codes "QUERY")) refl refl refl refl refl refl h
  where
    n : List ℕ
    n = map upper w

    by_case : (t s p r f q : Bool) → is_front n (codes "STEP") ≡ t → is_front n (codes "START") ≡ s → is_front n (codes "PAUSE") ≡ p → is_front n (codes "RESUME") ≡ r → is_front n (codes "FINISH") ≡ f → is_front n (codes "QUERY") ≡ q → (t || s || p || r || f || q) ≡ true → Finishes (within a_verb w)
    by_case true s p r f q et es ep er ef eq e = verb_finishes (codes "STEP") (codes "P 1") w refl refl refl et
    by_case false true p r f q et es ep er ef eq e = verb_finishes (codes "START") (codes "P") w refl refl refl es
    by_case false false true r f q et es ep er ef eq e = verb_finishes (codes "PAUSE") (codes "P") w refl refl refl ep
    by_case false false false true f q et es ep er ef eq e = verb_finishes (codes "RESUME") (codes "P") w refl refl refl er
    by_case false false false false true q et es ep er ef eq e = verb_finishes (codes "FINISH") (codes "P") w refl refl refl ef
    by_case false false false false false true et es ep er ef eq e = verb_finishes (codes "QUERY") (codes "P") w refl refl refl eq
    by_case false false false false false false et es ep er ef eq e = absurd cc

count_finishes : (w : List ℕ) → begins_count w ≡ true → Finishes (within a_count w)
count_finishes w h = by_case (is_count w) refl (both (is_number w) (is_count w || is_count (w ++ 49 ∷ [])) h)
  where
    by_case : (v : Bool) → is_count w ≡ v → (is_number w ≡ true) × ((is_count w || is_count (w ++ 49 ∷ [])) ≡ true) → Finishes (within a_count w)
    by_case true e p =
        let right : fits a_count w ≡ true = rw (p.0, e) refl in
        record { more = []; prints = refl; done = cond_true (fits a_count w) 0 (cause_of (bad a_count w)) right }
    by_case false e p =
        let one : is_count (w ++ 49 ∷ []) ≡ true = ap (λ (v : Bool). v || is_count (w ++ 49 ∷ [])) (sym e) ∙ p.1 in
        let digits : list_all is_digit (w ++ 49 ∷ []) ≡ true = list_all-append is_digit w (49 ∷ []) ∙ rw ((both (nat_lt 0 (length w)) (list_all is_digit w) p.0).1) refl in
        let there : nat_lt 0 (length (w ++ 49 ∷ [])) ≡ true = grind (arith, nat_tests, length-append w (49 ∷ [])) in
        let right : fits a_count (w ++ 49 ∷ []) ≡ true = rw (there, digits, one) refl in
        record { more = codes "1"; prints = refl; done = word_run a_count w (codes "1") ∙ cond_true (fits a_count (w ++ 49 ∷ [])) 0 (cause_of (bad a_count (w ++ 49 ∷ []))) right }

word_finishes : (kind : Kind) (w : List ℕ) → begins kind w ≡ true → Finishes (within kind w)
word_finishes a_first w h = first_finishes w h
word_finishes a_func w h = record { more = []; prints = refl; done = cond_true (is_word (map upper w)) 0 3 h }
word_finishes a_seg w h = record { more = []; prints = refl; done = cond_true (is_name (map upper w)) 0 3 h }
word_finishes a_code w h = record { more = []; prints = refl; done = cond_true (is_word (map upper w)) 0 3 h }
word_finishes a_field w h = record { more = codes "='')"; prints = refl; done = word_then a_field w 61 (codes "'')") refl h }
word_finishes an_operator w h = record { more = codes " '')"; prints = refl; done = word_then an_operator w 32 (codes "'')") refl h }
word_finishes a_session w h = session_finishes w h
word_finishes an_option w h = record { more = []; prints = refl; done = cond_true (is_word (map upper w)) 0 3 h }
word_finishes an_index w h = record { more = []; prints = refl; done = cond_true (is_name (map upper w)) 0 3 h }
word_finishes a_verb w h = any_verb_finishes w (both (is_name (map upper w)) (begins_verb (map upper w)) h).1
word_finishes (a_part true) w h = record { more = codes " 1"; prints = refl; done = word_then (a_part true) w 32 (codes "1") refl h }
word_finishes (a_part false) w h = record { more = []; prints = refl; done = cond_true (is_name (map upper w)) 0 3 h }
word_finishes a_count w h = count_finishes w h

pub finishes : (state : State) → is_live state ≡ true → Finishes state
finishes (at place) live = place_finishes place
finishes (within kind w) live = word_finishes kind w live
finishes (dead fault) live = absurd cc
finishes over live = absurd cc
