-- What is read is spelled so: names, words and values.
use Rattle.hal_base.specs.Reading.{◌>>=◌}
use Rattle.hal_base.specs.Bytes.{is_printable}
use Rattle.std.proofs.Common.{◌≡◌, ℕ, suc, ◌+◌, ◌*◌, ◌<◌, ◌&&◌, Bool, true, false, cond, ◌==◌, List, [], ◌∷◌, ◌++◌, length, map, Result, Ok, Err, refl, sym, ap, subst, ◌∙◌, append_assoc, arith}
use Rattle.std.specs.List.{list_all, flat_map, prefix_len, take_while}
use Rattle.std.proofs.lemmas.Bool.{eqb-true}
use Rattle.std.proofs.lemmas.Bool.Decides.{nat_tests}
use Rattle.std.proofs.lemmas.List.{take-append-drop}
use Rattle.std.proofs.lemmas.List.Sums.{take_while-cons}
use Rattle.std.proofs.lemmas.List.Folds.{list_all-append}
use Rattle.hal_base.specs.Name.{is_name, upper}
use Rattle.call_text.specs.declared.fault.Fault.{Fault}
use Rattle.call_text.specs.declared.fault.Fault.TheVariants as faults
use Rattle.call_text.specs.declared.line.Value.{Value}
use Rattle.call_text.specs.declared.line.Value.TheVariants.{Text, Hex}
use Rattle.call_text.specs.Words.{is_blank, past, in_word, is_word, is_hex, hex_value}
use Rattle.call_text.specs.Printing.{doubled, quoted}
use Rattle.call_text.specs.Spelling.{IsGap, IsRoom, SpellsName, SpellsWord, SpellsPairs, SpellsHex, SpellsValue}
use Rattle.call_text.specs.Reading.{name_at, word_at, text_at, close_at, pairs_at, hex_at, value_at, begins_word}
use Rattle.call_text.proofs.Loops.{onto}
use Rattle.call_text.proofs.Runs.{both, Stops}
use Rattle.call_text.proofs.ValuesPrinted.{Prints}

-- the value of a step that did not fail
pub bind_ok : {A B : Type 0} (r : Result A Fault) (f : A → Result B Fault) (y : B) → (r >>= f) ≡ Ok y → (x : A) × (r ≡ Ok x) × (f x ≡ Ok y)
bind_ok (Ok x) f y e = (x, refl, e)
bind_ok (Err d) f y e = absurd cc

-- a test that did not fail
pub passed : {A : Type 0} (b : Bool) (d : Fault) (x y : A) → cond b (Ok x) (Err d) ≡ Ok y → (b ≡ true) × (x ≡ y)
passed true d x y e = (refl, cc)
passed false d x y e = absurd cc

pub refused : {A : Type 0} (b : Bool) (d : Fault) (x y : A) → cond b (Err d) (Ok x) ≡ Ok y → (b ≡ false) × (x ≡ y)
refused true d x y e = absurd cc
refused false d x y e = (refl, cc)

abbrev done : {A : Type 0} → A → Result A Fault
done x = Ok x

pub ok_is : {A : Type 0} (x y : A) → done x ≡ done y → x ≡ y
ok_is x y e = cc

-- ---- runs

pub parts_of : (test : ℕ → Bool) (text : List ℕ) → text ≡ take_while test text ++ past test text
parts_of test text = sym (take-append-drop (prefix_len test text) text)

pub all_of_run : (test : ℕ → Bool) (text : List ℕ) → list_all test (take_while test text) ≡ true
all_of_run test [] = refl
all_of_run test (b ∷ text) = by_case (test b) refl (all_of_run test text)
  where
    by_case : (v : Bool) → test b ≡ v → list_all test (take_while test text) ≡ true → list_all test (take_while test (b ∷ text)) ≡ true
    by_case true e ih =
        let is : take_while test (b ∷ text) ≡ b ∷ take_while test text = take_while-cons test b text ∙ rw e refl in
        ap (list_all test) is ∙ rw (e, ih) refl
    by_case false e ih =
        let is : take_while test (b ∷ text) ≡ [] = take_while-cons test b text ∙ rw e refl in
        ap (list_all test) is

pub past_stops : (test : ℕ → Bool) (text : List ℕ) → Stops test (past test text)
past_stops test [] = tt
past_stops test (b ∷ text) = by_case (test b) refl (past_stops test text)
  where
    by_case : (v : Bool) → test b ≡ v → Stops test (past test text) → Stops test (past test (b ∷ text))
    by_case true e ih =
        let k : 1 + prefix_len test text ≡ suc (prefix_len test text) = omega arith in
        let is : past test (b ∷ text) ≡ past test text = rw (e, k) refl in
        subst (Stops test) (sym is) ih
    by_case false e ih =
        let is : past test (b ∷ text) ≡ b ∷ text = rw e refl in
        subst (Stops test) (sym is) e

pub prints_parts : (a b text : List ℕ) → text ≡ a ++ b → Prints text → Prints a × Prints b
prints_parts a b text e h = both (list_all is_printable a) (list_all is_printable b) (sym (list_all-append is_printable a b) ∙ ap (list_all is_printable) (sym e) ∙ h)

pub blanks_of : (text : List ℕ) → IsGap (take_while is_blank text)
blanks_of text = all_of_run is_blank text

pub past_prints : (text : List ℕ) → Prints text → Prints (past is_blank text)
past_prints text h = (prints_parts (take_while is_blank text) (past is_blank text) text (parts_of is_blank text) h).1

-- what was taken from the front spells, and what is left is printable
pub record Taken (Spelled : List ℕ → Type 0) (text rest : List ℕ) : Type 0 where
  pub written : List ℕ
  pub whole : text ≡ written ++ rest
  pub spells : Spelled written
  pub prints : Prints rest

-- a word, which goes as far as it can
pub record WordTaken (Spelled : List ℕ → Type 0) (text rest : List ℕ) : Type 0 where
  pub taken : Taken Spelled text rest
  pub stops : Stops in_word rest
  pub begins : begins_word text ≡ true

pub run_begins : (text : List ℕ) → 0 < length (take_while in_word text) → begins_word text ≡ true
run_begins [] some = absurd (omega arith)
run_begins (b ∷ text) some = by_case (in_word b) refl
  where
    by_case : (v : Bool) → in_word b ≡ v → in_word b ≡ true
    by_case true e = e
    by_case false e =
        let is : take_while in_word (b ∷ text) ≡ [] = take_while-cons in_word b text ∙ rw e refl in
        absurd (omega (arith, ap length is))

map_some : (word : List ℕ) → 0 < length (map upper word) → 0 < length word
map_some [] some = some
map_some (b ∷ word) some = omega arith

name_some : (name : List ℕ) → is_name name ≡ true → 0 < length name
name_some [] h = absurd cc
name_some (b ∷ name) h = omega arith

word_some : (word : List ℕ) → is_word word ≡ true → 0 < length word
word_some [] h = absurd cc
word_some (b ∷ word) h = omega arith

pub name_taken : (text name rest : List ℕ) → Prints text → name_at text ≡ Ok (name, rest) → WordTaken (λ w. SpellsName w name) text rest
unfolding name_at
name_taken text name rest prints e =
    let word = take_while in_word text in
    let p = passed (is_name (map upper word)) faults.Form (map upper word, past in_word text) (name, rest) e in
    let name_is : map upper word ≡ name = ap (λ (x : List ℕ × List ℕ). x.0) p.1 in
    let rest_is : past in_word text ≡ rest = ap (λ (x : List ℕ × List ℕ). x.1) p.1 in
    let whole : text ≡ word ++ rest = parts_of in_word text ∙ ap (λ (r : List ℕ). word ++ r) rest_is in
    record {
      taken = record { written = word; whole = whole; spells = record { spelled = name_is; is = ap is_name (sym name_is) ∙ p.0 }; prints = (prints_parts word rest text whole prints).1 };
      stops = subst (Stops in_word) rest_is (past_stops in_word text);
      begins = run_begins text (map_some word (name_some (map upper word) p.0));
    }

pub word_taken : (text word rest : List ℕ) → Prints text → word_at text ≡ Ok (word, rest) → WordTaken (λ w. SpellsWord w word) text rest
unfolding word_at
word_taken text name rest prints e =
    let word = take_while in_word text in
    let p = passed (is_word (map upper word)) faults.Form (map upper word, past in_word text) (name, rest) e in
    let name_is : map upper word ≡ name = ap (λ (x : List ℕ × List ℕ). x.0) p.1 in
    let rest_is : past in_word text ≡ rest = ap (λ (x : List ℕ × List ℕ). x.1) p.1 in
    let whole : text ≡ word ++ rest = parts_of in_word text ∙ ap (λ (r : List ℕ). word ++ r) rest_is in
    record {
      taken = record { written = word; whole = whole; spells = record { spelled = name_is; is = ap is_word (sym name_is) ∙ p.0 }; prints = (prints_parts word rest text whole prints).1 };
      stops = subst (Stops in_word) rest_is (past_stops in_word text);
      begins = run_begins text (map_some word (word_some (map upper word) p.0));
    }

-- where a word stopped and another word comes behind blanks, there is a blank
pub room_of : (text : List ℕ) → Stops in_word text → begins_word (past is_blank text) ≡ true → IsRoom (take_while is_blank text)
room_of text stops begins = record { blanks = blanks_of text; some = by_case (take_while is_blank text) refl }
  where
    by_case : (gap : List ℕ) → take_while is_blank text ≡ gap → 0 < length (take_while is_blank text)
    by_case [] e =
        let is : text ≡ past is_blank text = parts_of is_blank text ∙ ap (λ (g : List ℕ). g ++ past is_blank text) e in
        absurd (clash (past is_blank text) begins (subst (Stops in_word) is stops))
      where
        clash : (t : List ℕ) → begins_word t ≡ true → Stops in_word t → ⊥
        clash [] b s = cc
        clash (x ∷ t) b s = let no_way : true ≡ false = sym b ∙ s in cc
    by_case (b ∷ gap) e = omega (arith, ap length e)

-- ---- text

record TextTaken (text bytes rest : List ℕ) : Type 0 where
  whole : text ≡ flat_map doubled bytes ++ 39 ∷ rest
  printable : Prints bytes

text_taken : (text bytes rest : List ℕ) → Prints text → text_at text ≡ Ok (bytes, rest) → TextTaken text bytes rest
unfolding text_at
text_taken [] bytes rest prints e = absurd cc
text_taken (b ∷ []) bytes rest prints e =
    let p = passed (b == 39) faults.Value ([], []) (bytes, rest) e in
    let bytes_is : [] ≡ bytes = ap (λ (x : List ℕ × List ℕ). x.0) p.1 in
    let rest_is : [] ≡ rest = ap (λ (x : List ℕ × List ℕ). x.1) p.1 in
    record { whole = rw (← bytes_is, ← rest_is, eqb-true b 39 p.0) refl; printable = rw (← bytes_is) refl }
text_taken (b ∷ c ∷ tail) bytes rest prints e = by_case (b == 39) (c == 39) refl refl (λ (xs r : List ℕ) h. text_taken tail xs r inner.1 h) (λ (xs r : List ℕ) h. text_taken (c ∷ tail) xs r outer.1 h) e
  where
    outer : (is_printable b ≡ true) × (Prints (c ∷ tail))
    outer = both (is_printable b) (list_all is_printable (c ∷ tail)) prints

    inner : (is_printable c ≡ true) × (Prints tail)
    inner = both (is_printable c) (list_all is_printable tail) outer.1

    by_case : (v w : Bool) → (b == 39) ≡ v → (c == 39) ≡ w → ((xs r : List ℕ) → text_at tail ≡ Ok (xs, r) → TextTaken tail xs r) → ((xs r : List ℕ) → text_at (c ∷ tail) ≡ Ok (xs, r) → TextTaken (c ∷ tail) xs r) → cond v (cond w (onto 39 (text_at tail)) (Ok ([], c ∷ tail))) (onto b (text_at (c ∷ tail))) ≡ Ok (bytes, rest) → TextTaken (b ∷ c ∷ tail) bytes rest
    by_case true true bq cq further after h =
        let p = bind_ok (text_at tail) (λ x. Ok (39 ∷ x.0, x.1)) (bytes, rest) h in
        let ih = further p.0.0 p.0.1 p.1 in
        let made : (39 ∷ p.0.0, p.0.1) ≡ (bytes, rest) = ok_is (39 ∷ p.0.0, p.0.1) (bytes, rest) p.2 in
        let whole : b ∷ c ∷ tail ≡ flat_map doubled (39 ∷ p.0.0) ++ 39 ∷ p.0.1 = rw (eqb-true b 39 bq, eqb-true c 39 cq) (ap (λ (t : List ℕ). 39 ∷ 39 ∷ t) ih.whole) in
        subst (λ (x : List ℕ × List ℕ). TextTaken (b ∷ c ∷ tail) x.0 x.1) made (record { whole = whole; printable = ih.printable })
    by_case true false bq cq further after h =
        let made : ([], c ∷ tail) ≡ (bytes, rest) = ok_is ([], c ∷ tail) (bytes, rest) h in
        subst (λ (x : List ℕ × List ℕ). TextTaken (b ∷ c ∷ tail) x.0 x.1) made (record { whole = rw (eqb-true b 39 bq) refl; printable = refl })
    by_case false w bq cq further after h =
        let p = bind_ok (text_at (c ∷ tail)) (λ x. Ok (b ∷ x.0, x.1)) (bytes, rest) h in
        let ih = after p.0.0 p.0.1 p.1 in
        let made : (b ∷ p.0.0, p.0.1) ≡ (bytes, rest) = ok_is (b ∷ p.0.0, p.0.1) (bytes, rest) p.2 in
        let single : doubled b ≡ b ∷ [] = rw bq refl in
        let whole : b ∷ c ∷ tail ≡ flat_map doubled (b ∷ p.0.0) ++ 39 ∷ p.0.1 = ap (λ (t : List ℕ). b ∷ t) ih.whole ∙ ap (λ (d : List ℕ). d ++ (flat_map doubled p.0.0 ++ 39 ∷ p.0.1)) (sym single) ∙ sym (append_assoc (doubled b) (flat_map doubled p.0.0) (39 ∷ p.0.1)) in
        subst (λ (x : List ℕ × List ℕ). TextTaken (b ∷ c ∷ tail) x.0 x.1) made (record { whole = whole; printable = rw (outer.0) ih.printable })

-- ---- hexadecimal

close_taken : (text bytes rest : List ℕ) → close_at text ≡ Ok (bytes, rest) → ([] ≡ bytes) × (text ≡ 39 ∷ rest)
close_taken [] bytes rest e = absurd cc
close_taken (b ∷ text) bytes rest e =
    let p = passed (b == 39) faults.Value ([], text) (bytes, rest) e in
    let rest_is : text ≡ rest = ap (λ (x : List ℕ × List ℕ). x.1) p.1 in
    (ap (λ (x : List ℕ × List ℕ). x.0) p.1, rw (eqb-true b 39 p.0, rest_is) refl)

record PairsTaken (text bytes rest : List ℕ) : Type 0 where
  digits : List ℕ
  whole : text ≡ digits ++ 39 ∷ rest
  pairs : SpellsPairs digits bytes

no_pairs : (text bytes rest : List ℕ) → close_at text ≡ Ok (bytes, rest) → PairsTaken text bytes rest
no_pairs text bytes rest e =
    let p = close_taken text bytes rest e in
    subst (λ (x : List ℕ). PairsTaken text x rest) p.0 (record { digits = []; whole = p.1; pairs = tt })

pairs_taken : (text bytes rest : List ℕ) → pairs_at text ≡ Ok (bytes, rest) → PairsTaken text bytes rest
unfolding pairs_at
pairs_taken [] bytes rest e = no_pairs [] bytes rest e
pairs_taken (a ∷ []) bytes rest e = no_pairs (a ∷ []) bytes rest e
pairs_taken (a ∷ b ∷ tail) bytes rest e = by_case (is_hex a) (is_hex b) refl refl (λ (xs r : List ℕ) h. pairs_taken tail xs r h) e
  where
    by_case : (v w : Bool) → is_hex a ≡ v → is_hex b ≡ w → ((xs r : List ℕ) → pairs_at tail ≡ Ok (xs, r) → PairsTaken tail xs r) → cond (v && w) (onto (16 * hex_value a + hex_value b) (pairs_at tail)) (close_at (a ∷ b ∷ tail)) ≡ Ok (bytes, rest) → PairsTaken (a ∷ b ∷ tail) bytes rest
    by_case true true ha hb further h =
        let x = 16 * hex_value a + hex_value b in
        let p = bind_ok (pairs_at tail) (λ more. Ok (x ∷ more.0, more.1)) (bytes, rest) h in
        let ih = further p.0.0 p.0.1 p.1 in
        let made : (x ∷ p.0.0, p.0.1) ≡ (bytes, rest) = ok_is (x ∷ p.0.0, p.0.1) (bytes, rest) p.2 in
        subst (λ (y : List ℕ × List ℕ). PairsTaken (a ∷ b ∷ tail) y.0 y.1) made (record { digits = a ∷ b ∷ ih.digits; whole = ap (λ (t : List ℕ). a ∷ b ∷ t) ih.whole; pairs = (ha, hb, refl, ih.pairs) })
    by_case true false ha hb further h = no_pairs (a ∷ b ∷ tail) bytes rest h
    by_case false w ha hb further h = no_pairs (a ∷ b ∷ tail) bytes rest h

hex_taken : (text bytes rest : List ℕ) → hex_at text ≡ Ok (bytes, rest) → PairsTaken text bytes rest × (0 < length bytes)
unfolding hex_at
hex_taken text bytes rest e =
    let p = bind_ok (pairs_at text) (λ read. cond (length read.0 == 0) (Err faults.Value) (Ok (read.0, read.1))) (bytes, rest) e in
    let q = refused (length p.0.0 == 0) faults.Value (p.0.0, p.0.1) (bytes, rest) p.2 in
    let taken = pairs_taken text p.0.0 p.0.1 p.1 in
    let some : 0 < length p.0.0 = grind (arith, nat_tests, q.0) in
    subst (λ (x : List ℕ × List ℕ). PairsTaken text x.0 x.1 × (0 < length x.0)) q.1 (taken, some)

-- ---- values

no_text : (bytes rest : List ℕ) → text_at [] ≡ Ok (bytes, rest) → ⊥
unfolding text_at
no_text bytes rest e = cc

abbrev as_text : Result (List ℕ × List ℕ) Fault → Result (Value × List ℕ) Fault
as_text read = read >>= λ x. Ok (Text x.0, x.1)

abbrev as_hex : Result (List ℕ × List ℕ) Fault → Result (Value × List ℕ) Fault
as_hex read = read >>= λ x. Ok (Hex x.0, x.1)

pub value_taken : (text : List ℕ) (value : Value) (rest : List ℕ) → Prints text → value_at text ≡ Ok (value, rest) → Taken (λ w. SpellsValue w value) text rest
unfolding value_at
value_taken [] value rest prints e = absurd cc
value_taken (a ∷ []) value rest prints e = by_case (a == 39) e
  where
    by_case : (v : Bool) → cond v (as_text (text_at [])) (Err faults.Form) ≡ Ok (value, rest) → Taken (λ w. SpellsValue w value) (a ∷ []) rest
    by_case true h =
        let p = bind_ok (text_at []) (λ read. Ok (Text read.0, read.1)) (value, rest) h in
        absurd (no_text p.0.0 p.0.1 p.1)
    by_case false h = absurd cc
value_taken (a ∷ b ∷ tail) value rest prints e = by_case (a == 39) refl e
  where
    outer : (is_printable a ≡ true) × (Prints (b ∷ tail))
    outer = both (is_printable a) (list_all is_printable (b ∷ tail)) prints

    inner : (is_printable b ≡ true) × (Prints tail)
    inner = both (is_printable b) (list_all is_printable tail) outer.1

    hex_case : (v : Bool) → (upper a == 88 && b == 39) ≡ v → cond v (as_hex (hex_at tail)) (Err faults.Form) ≡ Ok (value, rest) → Taken (λ w. SpellsValue w value) (a ∷ b ∷ tail) rest
    hex_case true is h =
        let q = both (upper a == 88) (b == 39) is in
        let p = bind_ok (hex_at tail) (λ read. Ok (Hex read.0, read.1)) (value, rest) h in
        let t = hex_taken tail p.0.0 p.0.1 p.1 in
        let written = a ∷ 39 ∷ t.0.digits ++ 39 ∷ [] in
        let parts : tail ≡ (t.0.digits ++ 39 ∷ []) ++ p.0.1 = t.0.whole ∙ sym (append_assoc t.0.digits (39 ∷ []) p.0.1) in
        let whole : a ∷ b ∷ tail ≡ written ++ p.0.1 = rw (eqb-true b 39 q.1) (ap (λ (x : List ℕ). a ∷ 39 ∷ x) parts) in
        let made : (Hex p.0.0, p.0.1) ≡ (value, rest) = ok_is (Hex p.0.0, p.0.1) (value, rest) p.2 in
        let spells : SpellsHex written p.0.0 = record { mark = a; digits = t.0.digits; whole = refl; mark_is = eqb-true (upper a) 88 q.0; some = t.1; pairs = t.0.pairs } in
        subst (λ (x : Value × List ℕ). Taken (λ w. SpellsValue w x.0) (a ∷ b ∷ tail) x.1) made (record { written = written; whole = whole; spells = spells; prints = (prints_parts written p.0.1 (a ∷ b ∷ tail) whole prints).1 })
    hex_case false is h = absurd cc

    by_case : (v : Bool) → (a == 39) ≡ v → cond v (as_text (text_at (b ∷ tail))) (cond (upper a == 88 && b == 39) (as_hex (hex_at tail)) (Err faults.Form)) ≡ Ok (value, rest) → Taken (λ w. SpellsValue w value) (a ∷ b ∷ tail) rest
    by_case true is h =
        let p = bind_ok (text_at (b ∷ tail)) (λ read. Ok (Text read.0, read.1)) (value, rest) h in
        let t = text_taken (b ∷ tail) p.0.0 p.0.1 outer.1 p.1 in
        let written = quoted p.0.0 in
        let parts : b ∷ tail ≡ (flat_map doubled p.0.0 ++ 39 ∷ []) ++ p.0.1 = t.whole ∙ sym (append_assoc (flat_map doubled p.0.0) (39 ∷ []) p.0.1) in
        let whole : a ∷ b ∷ tail ≡ written ++ p.0.1 = rw (eqb-true a 39 is) (ap (λ (x : List ℕ). 39 ∷ x) parts) in
        let made : (Text p.0.0, p.0.1) ≡ (value, rest) = ok_is (Text p.0.0, p.0.1) (value, rest) p.2 in
        subst (λ (x : Value × List ℕ). Taken (λ w. SpellsValue w x.0) (a ∷ b ∷ tail) x.1) made (record { written = written; whole = whole; spells = (refl, t.printable); prints = (prints_parts written p.0.1 (a ∷ b ∷ tail) whole prints).1 })
    by_case false is h = hex_case (upper a == 88 && b == 39) refl h
