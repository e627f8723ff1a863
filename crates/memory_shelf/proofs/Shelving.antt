-- The pages of a data set among the blocks that were taken.
use Rattle.std.proofs.Common.{◌≡◌, ◌∙◌, ℕ, zero, suc, ◌+◌, ◌-◌, ◌<◌, ◌≤◌, Bool, true, false, cond, List, [], ◌∷◌, ◌++◌, length, length-append, drop, get_or, Some, None, ◌&&◌, ◌==◌, refl, sym, ap, arith, slice_get, slice_set}
use Rattle.std.specs.List.{range_with_len}
use Rattle.std.proofs.lemmas.List.{drop_all, append-nil}
use Rattle.std.proofs.Math.Seq.{drop-cons}
use Rattle.std.proofs.lemmas.Option.{none-some, slice_get-get_or}
use Rattle.std.proofs.lemmas.Bool.{and_parts, eqb-true, eq-eqb, and_from}
use Rattle.hal_base.specs.declared.pages.SetId.{SetId}
use Rattle.memory_shelf.specs.Shelved.{is_set, places_of, pages_of}

some_is : {X : Type 0} (x y : X) → Some x ≡ Some y → x ≡ y
some_is {X} x y is = cc

-- the nth page stands at the nth place
pub record Stands (set : SetId) (at n k : ℕ) (owners : List SetId) (pages : List (List ℕ)) : Type 0 where
  pub low : at ≤ k
  pub high : k < at + length owners
  pub page : slice_get (pages_of set owners pages) n ≡ slice_get pages (k - at)
  pub put : (q : List ℕ) → pages_of set owners (slice_set pages (k - at) q) ≡ slice_set (pages_of set owners pages) n q
  pub others : (other : SetId) (q : List ℕ) → ((owner : SetId) → is_set owner set ≡ true → is_set owner other ≡ false) → pages_of other owners (slice_set pages (k - at) q) ≡ pages_of other owners pages

here : (set o : SetId) (at k : ℕ) (os : List SetId) (p : List ℕ) (ps : List (List ℕ)) → is_set o set ≡ true → at ≡ k → Stands set at 0 k (o ∷ os) (p ∷ ps)
unfolding pages_of
here set o at k os p ps own is =
    let none : k - at ≡ 0 = omega (arith, is) in
    record {
      low = omega (arith, is);
      high = omega (arith, is);
      page = ap (λ (b : Bool). slice_get (cond b (p ∷ pages_of set os ps) (pages_of set os ps)) 0) own ∙ sym (ap (slice_get (p ∷ ps)) none);
      put = λ q. ap (λ (i : ℕ). pages_of set (o ∷ os) (slice_set (p ∷ ps) i q)) none ∙ ap (λ (b : Bool). cond b (q ∷ pages_of set os ps) (pages_of set os ps)) own ∙ sym (ap (λ (b : Bool). slice_set (cond b (p ∷ pages_of set os ps) (pages_of set os ps)) 0 q) own);
      others = λ other q apart. ap (λ (i : ℕ). pages_of other (o ∷ os) (slice_set (p ∷ ps) i q)) none ∙ ap (λ (b : Bool). cond b (q ∷ pages_of other os ps) (pages_of other os ps)) (apart o own) ∙ sym (ap (λ (b : Bool). cond b (p ∷ pages_of other os ps) (pages_of other os ps)) (apart o own));
    }

further : (set o : SetId) (b : Bool) (at n m k : ℕ) (os : List SetId) (p : List ℕ) (ps : List (List ℕ)) → is_set o set ≡ b → n ≡ cond b (suc m) m → Stands set (at + 1) m k os ps → Stands set at n k (o ∷ os) (p ∷ ps)
unfolding pages_of
further set o b at n m k os p ps own count rest =
    let one : k - at ≡ suc (k - (at + 1)) = omega (arith, rest.low) in
    record {
      low = omega (arith, rest.low);
      high = omega (arith, rest.high);
      page = page_at b own count ∙ rest.page ∙ sym (ap (slice_get (p ∷ ps)) one);
      put = λ q. ap (λ (i : ℕ). pages_of set (o ∷ os) (slice_set (p ∷ ps) i q)) one ∙ put_at b own count q (rest.put q);
      others = λ other q apart. ap (λ (i : ℕ). pages_of other (o ∷ os) (slice_set (p ∷ ps) i q)) one ∙ ap (λ (l : List (List ℕ)). cond (is_set o other) (p ∷ l) l) (rest.others other q apart);
    }
  where
    page_at : (c : Bool) → is_set o set ≡ c → n ≡ cond c (suc m) m → slice_get (pages_of set (o ∷ os) (p ∷ ps)) n ≡ slice_get (pages_of set os ps) m
    page_at true is to = ap (λ (d : Bool). slice_get (cond d (p ∷ pages_of set os ps) (pages_of set os ps)) n) is ∙ ap (slice_get (p ∷ pages_of set os ps)) to
    page_at false is to = ap (λ (d : Bool). slice_get (cond d (p ∷ pages_of set os ps) (pages_of set os ps)) n) is ∙ ap (slice_get (pages_of set os ps)) to

    put_at : (c : Bool) → is_set o set ≡ c → n ≡ cond c (suc m) m → (q : List ℕ) → pages_of set os (slice_set ps (k - (at + 1)) q) ≡ slice_set (pages_of set os ps) m q → cond (is_set o set) (p ∷ pages_of set os (slice_set ps (k - (at + 1)) q)) (pages_of set os (slice_set ps (k - (at + 1)) q)) ≡ slice_set (cond (is_set o set) (p ∷ pages_of set os ps) (pages_of set os ps)) n q
    put_at true is to q e = ap (λ (d : Bool). cond d (p ∷ pages_of set os (slice_set ps (k - (at + 1)) q)) (pages_of set os (slice_set ps (k - (at + 1)) q))) is ∙ ap (λ (l : List (List ℕ)). p ∷ l) e ∙ sym (ap (λ (i : ℕ). slice_set (p ∷ pages_of set os ps) i q) to) ∙ sym (ap (λ (d : Bool). slice_set (cond d (p ∷ pages_of set os ps) (pages_of set os ps)) n q) is)
    put_at false is to q e = ap (λ (d : Bool). cond d (p ∷ pages_of set os (slice_set ps (k - (at + 1)) q)) (pages_of set os (slice_set ps (k - (at + 1)) q))) is ∙ e ∙ sym (ap (λ (i : ℕ). slice_set (pages_of set os ps) i q) to) ∙ sym (ap (λ (d : Bool). slice_set (cond d (p ∷ pages_of set os ps) (pages_of set os ps)) n q) is)

stands_if : (set o : SetId) (b : Bool) (at n k : ℕ) (os : List SetId) (p : List ℕ) (ps : List (List ℕ)) → is_set o set ≡ b → slice_get (cond b (at ∷ places_of set (at + 1) os) (places_of set (at + 1) os)) n ≡ Some k → ((m : ℕ) → slice_get (places_of set (at + 1) os) m ≡ Some k → Stands set (at + 1) m k os ps) → Stands set at n k (o ∷ os) (p ∷ ps)
stands_if set o true at zero k os p ps own got rest = here set o at k os p ps own (some_is at k got)
stands_if set o true at (suc m) k os p ps own got rest = further set o true at (suc m) m k os p ps own refl (rest m got)
stands_if set o false at n k os p ps own got rest = further set o false at n n k os p ps own refl (rest n got)

pub stands : (set : SetId) (at n k : ℕ) (owners : List SetId) (pages : List (List ℕ)) → length pages ≡ length owners → slice_get (places_of set at owners) n ≡ Some k → Stands set at n k owners pages
unfolding places_of
stands set at n k [] pages is got = absurd (none-some k got)
stands set at n k (o ∷ os) [] is got = absurd (omega (arith, is))
stands set at n k (o ∷ os) (p ∷ ps) is got = stands_if set o (is_set o set) at n k os p ps refl got (λ m it. stands set (at + 1) m k os ps (omega (arith, is)) it)

-- one block more
places_if : (b : Bool) (at : ℕ) (xs more : List ℕ) → cond b (at ∷ xs ++ more) (xs ++ more) ≡ cond b (at ∷ xs) xs ++ more
places_if true at xs more = refl
places_if false at xs more = refl

pub places_more : (set new : SetId) (at : ℕ) (owners : List SetId) → places_of set at (owners ++ new ∷ []) ≡ places_of set at owners ++ cond (is_set new set) ((at + length owners) ∷ []) []
unfolding places_of
places_more set new at [] = ap (λ (n : ℕ). cond (is_set new set) (n ∷ []) []) (omega arith)
places_more set new at (o ∷ os) =
    ap (λ (l : List ℕ). cond (is_set o set) (at ∷ l) l) (places_more set new (at + 1) os ∙ ap (λ (n : ℕ). places_of set (at + 1) os ++ cond (is_set new set) (n ∷ []) []) (omega arith))
    ∙ places_if (is_set o set) at (places_of set (at + 1) os) (cond (is_set new set) ((at + length (o ∷ os)) ∷ []) [])

pages_if : (b : Bool) (p : List ℕ) (xs more : List (List ℕ)) → cond b (p ∷ xs ++ more) (xs ++ more) ≡ cond b (p ∷ xs) xs ++ more
pages_if true p xs more = refl
pages_if false p xs more = refl

pub pages_more : (set new : SetId) (page : List ℕ) (owners : List SetId) (pages : List (List ℕ)) → length pages ≡ length owners → pages_of set (owners ++ new ∷ []) (pages ++ page ∷ []) ≡ pages_of set owners pages ++ cond (is_set new set) (page ∷ []) []
unfolding pages_of
pages_more set new page [] [] is = refl
pages_more set new page [] (p ∷ ps) is = absurd (omega (arith, is))
pages_more set new page (o ∷ os) [] is = absurd (omega (arith, is))
pages_more set new page (o ∷ os) (p ∷ ps) is =
    ap (λ (l : List (List ℕ)). cond (is_set o set) (p ∷ l) l) (pages_more set new page os ps (omega (arith, is)))
    ∙ pages_if (is_set o set) p (pages_of set os ps) (cond (is_set new set) (page ∷ []) [])

-- whose block it is
pub own_set : (set : SetId) → is_set set set ≡ true
unfolding is_set
own_set set = and_from (set.part == set.part && set.number == set.number) (set.letter == set.letter) (and_from (set.part == set.part) (set.number == set.number) (eq-eqb set.part set.part refl) (eq-eqb set.number set.number refl)) (eq-eqb set.letter set.letter refl)

same_set : (a b : SetId) → is_set a b ≡ true → a ≡ b
unfolding is_set
same_set a b is =
    let one = and_parts (a.part == b.part && a.number == b.number) (a.letter == b.letter) is in
    let two = and_parts (a.part == b.part) (a.number == b.number) one.0 in
    record_path (eqb-true a.part b.part two.0) (eqb-true a.number b.number two.1) (eqb-true a.letter b.letter one.1)
  where
    record_path : a.part ≡ b.part → a.number ≡ b.number → a.letter ≡ b.letter → a ≡ b
    record_path p n l = ap (λ (x : ℕ). record { part = x; number = a.number; letter = a.letter }) p ∙ ap (λ (x : ℕ). record { part = b.part; number = x; letter = a.letter }) n ∙ ap (λ (x : ℕ). record { part = b.part; number = b.number; letter = x }) l

pub other_set : (set other owner : SetId) → (other ≡ set → ⊥) → is_set owner set ≡ true → is_set owner other ≡ false
other_set set other owner apart own = no (is_set owner other) refl
  where
    no : (b : Bool) → is_set owner other ≡ b → is_set owner other ≡ false
    no true is = absurd (apart (sym (same_set owner other is) ∙ same_set owner set own))
    no false is = is

-- where a loop has come to an owner
pub places_step : (set o : SetId) (i : ℕ) (owners : List SetId) (b : Bool) → i < length owners → is_set (get_or owners i o) set ≡ b → places_of set i (drop i owners) ≡ cond b (i ∷ places_of set (i + 1) (drop (i + 1) owners)) (places_of set (i + 1) (drop (i + 1) owners))
unfolding places_of
places_step set o i owners b in_it is =
    ap (places_of set i) (drop-cons owners i o in_it)
    ∙ ap (λ (n : ℕ). cond (is_set (get_or owners i o) set) (i ∷ places_of set (i + 1) (drop n owners)) (places_of set (i + 1) (drop n owners))) plus_one
    ∙ ap (λ (c : Bool). cond c (i ∷ places_of set (i + 1) (drop (i + 1) owners)) (places_of set (i + 1) (drop (i + 1) owners))) is
  where
    plus_one : suc i ≡ i + 1
    plus_one = omega arith

pub none_left : (set : SetId) (i : ℕ) (owners : List SetId) → length owners ≤ i → places_of set i (drop i owners) ≡ []
unfolding places_of
none_left set i owners past = ap (places_of set i) (drop_all i owners past)

-- what a taken block makes of the free ones
pub free_less : (owners more : List SetId) (new : SetId) (count : ℕ) → length owners < count → more ≡ owners ++ new ∷ [] → range_with_len (length owners) (count - length owners) ≡ length owners ∷ range_with_len (length more) (count - length more)
free_less owners more new count room is =
    let longer : length more ≡ length owners + 1 = ap length is ∙ length-append owners (new ∷ []) in
    ap (range_with_len (length owners)) (rest (omega (arith, room))) ∙ ap (λ (n : ℕ). length owners ∷ range_with_len n (count - n)) (sym longer)
  where
    rest : count - length owners ≡ suc (count - (length owners + 1)) → count - length owners ≡ suc (count - (length owners + 1))
    rest is = is

pub missing : (l : List ℕ) (n : ℕ) → n < length l → slice_get l n ≡ None → ⊥
missing l n in_it past = none-some (get_or l n 0) (sym past ∙ slice_get-get_or l n 0 in_it)

-- the page of a data set at a block
pub record IsAt (set : SetId) (n k : ℕ) (owners : List SetId) (pages : List (List ℕ)) : Type 0 where
  pub in_it : k < length pages
  pub page : slice_get (pages_of set owners pages) n ≡ slice_get pages k
  pub put : (q : List ℕ) → pages_of set owners (slice_set pages k q) ≡ slice_set (pages_of set owners pages) n q
  pub others : (other : SetId) (q : List ℕ) → (other ≡ set → ⊥) → pages_of other owners (slice_set pages k q) ≡ pages_of other owners pages

pub is_at : (set : SetId) (n from k : ℕ) (owners held : List SetId) (pages : List (List ℕ)) → length pages ≡ length owners → held ≡ owners → from ≡ n → slice_get (places_of set 0 held) from ≡ Some k → IsAt set n k owners pages
is_at set n from k owners held pages many same is got =
    let it = stands set 0 n k owners pages many (sym (ap (λ (l : List SetId). slice_get (places_of set 0 l) n) same) ∙ sym (ap (slice_get (places_of set 0 held)) is) ∙ got) in
    let all : k - 0 ≡ k = omega arith in
    record {
      in_it = omega (arith, it.high, many);
      page = it.page ∙ ap (slice_get pages) all;
      put = λ q. sym (ap (λ (i : ℕ). pages_of set owners (slice_set pages i q)) all) ∙ it.put q;
      others = λ other q apart. sym (ap (λ (i : ℕ). pages_of other owners (slice_set pages i q)) all) ∙ it.others other q (λ owner own. other_set set other owner apart own);
    }

-- one block more, for the data set and for others
pub pages_own : (set : SetId) (page : List ℕ) (owners more : List SetId) (pages longer : List (List ℕ)) → length pages ≡ length owners → more ≡ owners ++ set ∷ [] → longer ≡ pages ++ page ∷ [] → pages_of set more longer ≡ pages_of set owners pages ++ page ∷ []
pages_own set page owners more pages longer many is one =
    ap (λ (l : List SetId). pages_of set l longer) is ∙ ap (pages_of set (owners ++ set ∷ [])) one ∙ pages_more set set page owners pages many ∙ ap (λ (b : Bool). pages_of set owners pages ++ cond b (page ∷ []) []) (own_set set)

places_first : (set new : SetId) (owners : List SetId) → places_of set 0 (owners ++ new ∷ []) ≡ places_of set 0 owners ++ cond (is_set new set) (length owners ∷ []) []
places_first set new owners = places_more set new 0 owners ∙ ap (λ (n : ℕ). places_of set 0 owners ++ cond (is_set new set) (n ∷ []) []) none
  where
    none : 0 + length owners ≡ length owners
    none = omega arith

pub places_own : (set : SetId) (owners more : List SetId) → more ≡ owners ++ set ∷ [] → places_of set 0 more ≡ places_of set 0 owners ++ length owners ∷ []
places_own set owners more is = ap (places_of set 0) is ∙ places_first set set owners ∙ ap (λ (b : Bool). places_of set 0 owners ++ cond b (length owners ∷ []) []) (own_set set)

pub pages_other : (set other : SetId) (page : List ℕ) (owners more : List SetId) (pages longer : List (List ℕ)) → (other ≡ set → ⊥) → length pages ≡ length owners → more ≡ owners ++ set ∷ [] → longer ≡ pages ++ page ∷ [] → pages_of other more longer ≡ pages_of other owners pages
pages_other set other page owners more pages longer apart many is one =
    ap (λ (l : List SetId). pages_of other l longer) is ∙ ap (pages_of other (owners ++ set ∷ [])) one ∙ pages_more other set page owners pages many ∙ ap (λ (b : Bool). pages_of other owners pages ++ cond b (page ∷ []) []) (other_set set other set apart (own_set set)) ∙ append-nil (pages_of other owners pages)

pub places_other : (set other : SetId) (owners more : List SetId) → (other ≡ set → ⊥) → more ≡ owners ++ set ∷ [] → places_of other 0 more ≡ places_of other 0 owners
places_other set other owners more apart is = ap (places_of other 0) is ∙ places_first other set owners ∙ ap (λ (b : Bool). places_of other 0 owners ++ cond b (length owners ∷ []) []) (other_set set other set apart (own_set set)) ∙ append-nil (places_of other 0 owners)
