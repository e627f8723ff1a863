-- A free block that becomes the next page of a data set.
use Rattle.std.proofs.Common.{◌≡◌, ◌∙◌, ⊎_elim, ℕ, suc, ◌+◌, ◌-◌, ◌*◌, ◌^◌, ◌<◌, ◌≤◌, Bool, true, false, cond, List, [], ◌∷◌, ◌++◌, length, length-append, length-drop, take, drop, map, get_or, Option, None, Some, nat_le, nat_lt, slice_get, slice_set, refl, sym, ap, subst, arith}
use Rattle.std.specs.Prelude.{◌&&◌, ◌||◌, ◌==◌, not, All, insert, filter, replicate}
use Rattle.std.specs.Option.{option_map}
use Rattle.std.specs.Int.{w16, to_be_bytes, from_be_bytes}
use Rattle.std.proofs.lemmas.Bool.{and_parts, eqb-true, cases_lt, true≢false}
use Rattle.std.proofs.lemmas.List.{take-append-drop, length-set, get_or-drop, get_or_append_left, get_or-set_same}
use Rattle.std.proofs.lemmas.List.Edits.{length-insert}
use Rattle.std.proofs.lemmas.List.Elements.{All-append, All-cons, All-drop, All-head, All-set, All-tail, All-take, filter-append}
use Rattle.std.proofs.lemmas.List.Sorted.{IsNonDecreasingBy-insert, IsPermutation-insert}
use Rattle.std.proofs.lemmas.Nat.{from_be_bytes-to_be_bytes_2}
use Rattle.std.proofs.lemmas.Option.{none-some, same_Some, slice_get_within}
use Rattle.std.proofs.Math.Seq.{get_or-append_seam}
use Rattle.hal_base.specs.Pages.{empty_page, page_head, rises_from}
use Rattle.hal_base.specs.declared.pages.SetId.{SetId}
use Rattle.hal_base.specs.declared.place.PartState.{PartState}
use Rattle.volume_image.specs.Header.{kind_in, set_in, page_in, is_free, is_left, is_live_set, has_cells}
use Rattle.volume_image.specs.Pages.{same_set}
use Rattle.data_set_pairs.specs.declared.place.PagePlace.{PagePlace}
use Rattle.data_set_pairs.specs.Table.{HasPlace, IsBetween, IsFront, IsTable, RunFromZero, is_page_of, pages_of, places_of, set_rank}
use Rattle.data_set_pairs.specs.Image.{is_held, is_taken, page_at, taken_pages, free_blocks, SamePages}
use Rattle.data_set_pairs.specs.Volume.{IsLaidOut}
use Rattle.data_set_pairs.specs.Shelf.{blocks_at, takes, kind_fits}
use Rattle.data_set_pairs.specs.ShelfLaw.{rise_weaker}
use Rattle.data_set_pairs.proofs.TableSteps.{apart_by_rank, front_pages, no_pages, own_set, set_is}
use Rattle.data_set_pairs.proofs.Numbering.{same_if_permuted}
use Rattle.data_set_pairs.proofs.ScanSteps.{free_not_taken, taken_not_free}
use Rattle.data_set_pairs.proofs.ScanTable.{free_within}
use Rattle.data_set_pairs.proofs.Heads.{place_page}
use Rattle.data_set_pairs.proofs.Staging.{data_at, data_set, rows_stay, untouched}

cons_first : (a b : ℕ) (xs ys : List ℕ) → a ∷ xs ≡ b ∷ ys → a ≡ b
cons_first a b xs ys is = ap (λ (l : List ℕ). get_or l 0 0) is

cons_rest : (a b : ℕ) (xs ys : List ℕ) → a ∷ xs ≡ b ∷ ys → xs ≡ ys
cons_rest a b xs ys is = ap (λ (l : List ℕ). drop 1 l) is

-- the least free block among the data blocks
least_if : (f : Bool) (n k : ℕ) (ks rest : List ℕ) → cond f (n ∷ ks) ks ≡ k ∷ rest → f ≡ true → (n ≡ k) × (ks ≡ rest)
least_if true n k ks rest is free = (cons_first n k ks rest is, cons_rest n k ks rest is)
least_if false n k ks rest is free = absurd (true≢false (sym free))

least_above : (states : List PartState) (n k : ℕ) (rest : List ℕ) (blocks : List (List ℕ)) → free_blocks states n blocks ≡ k ∷ rest → n ≤ k
least_above states n k rest blocks is = (subst (All (IsBetween n (n + length blocks))) is (free_within states n blocks) 0 0 (omega arith)).from

-- it is free
pub least_free : (states : List PartState) (n k : ℕ) (rest : List ℕ) (blocks : List (List ℕ)) → free_blocks states n blocks ≡ k ∷ rest → is_free states (get_or blocks (k - n) []) ≡ true
least_free states n k rest [] is = absurd (omega (arith, ap length is))
least_free states n k rest (b ∷ bs) is = by (is_free states b) refl (λ later. least_free states (n + 1) k rest bs later)
  where
    by : (f : Bool) → is_free states b ≡ f → (free_blocks states (n + 1) bs ≡ k ∷ rest → is_free states (get_or bs (k - (n + 1)) []) ≡ true) → is_free states (get_or (b ∷ bs) (k - n) []) ≡ true
    by true free later =
        let here = (least_if (is_free states b) n k (free_blocks states (n + 1) bs) rest is free).0 in
        let none : k - n ≡ 0 = omega (arith, here) in
        ap (λ (j : ℕ). is_free states (get_or (b ∷ bs) j [])) none ∙ free
    by false free later =
        let past : free_blocks states (n + 1) bs ≡ k ∷ rest = sym (ap (λ (f : Bool). cond f (n ∷ free_blocks states (n + 1) bs) (free_blocks states (n + 1) bs)) free) ∙ is in
        let above = least_above states (n + 1) k rest bs past in
        let step : k - n ≡ suc (k - (n + 1)) = omega (arith, above) in
        ap (λ (j : ℕ). is_free states (get_or (b ∷ bs) j [])) step ∙ later past

filter_first : (test : PagePlace → Bool) (p : PagePlace) (ps : List PagePlace) → length (filter test (p ∷ ps)) ≡ cond (test p) 1 0 + length (filter test ps)
filter_first test p ps = by (test p)
  where
    by : (b : Bool) → length (cond b (p ∷ filter test ps) (filter test ps)) ≡ cond b 1 0 + length (filter test ps)
    by true = omega arith
    by false = omega arith

grown_if : (test : PagePlace → Bool) (t : Bool) (p e : PagePlace) (ps qs : List PagePlace) → length (filter test qs) ≡ length (filter test (e ∷ ps)) → length (filter test (cond t (p ∷ qs) qs)) ≡ length (filter test (e ∷ cond t (p ∷ ps) ps))
grown_if test true p e ps qs is = omega (arith, is, filter_first test p qs, filter_first test e (p ∷ ps), filter_first test p ps, filter_first test e ps)
grown_if test false p e ps qs is = is

pub taken_grown : (indexes : ℕ) (states : List PartState) (n k : ℕ) (rest : List ℕ) (blocks : List (List ℕ)) (x : List ℕ) (test : PagePlace → Bool) → free_blocks states n blocks ≡ k ∷ rest → is_taken indexes states x ≡ true → length (filter test (taken_pages indexes states n (slice_set blocks (k - n) x))) ≡ length (filter test (page_at k x ∷ taken_pages indexes states n blocks))
taken_grown indexes states n k rest [] x test is taken = absurd (omega (arith, ap length is))
taken_grown indexes states n k rest (b ∷ bs) x test is taken = by (is_free states b) refl (λ later. taken_grown indexes states (n + 1) k rest bs x test later taken)
  where
    by : (f : Bool) → is_free states b ≡ f → (free_blocks states (n + 1) bs ≡ k ∷ rest → length (filter test (taken_pages indexes states (n + 1) (slice_set bs (k - (n + 1)) x))) ≡ length (filter test (page_at k x ∷ taken_pages indexes states (n + 1) bs))) → length (filter test (taken_pages indexes states n (slice_set (b ∷ bs) (k - n) x))) ≡ length (filter test (page_at k x ∷ taken_pages indexes states n (b ∷ bs)))
    by true free later =
        let here = (least_if (is_free states b) n k (free_blocks states (n + 1) bs) rest is free).0 in
        let none : k - n ≡ 0 = omega (arith, here) in
        let left : taken_pages indexes states n (slice_set (b ∷ bs) (k - n) x) ≡ page_at n x ∷ taken_pages indexes states (n + 1) bs = ap (λ (j : ℕ). taken_pages indexes states n (slice_set (b ∷ bs) j x)) none ∙ ap (λ (t : Bool). cond t (page_at n x ∷ taken_pages indexes states (n + 1) bs) (taken_pages indexes states (n + 1) bs)) taken in
        let right : taken_pages indexes states n (b ∷ bs) ≡ taken_pages indexes states (n + 1) bs = ap (λ (t : Bool). cond t (page_at n b ∷ taken_pages indexes states (n + 1) bs) (taken_pages indexes states (n + 1) bs)) (free_not_taken indexes states b free) in
        ap (λ (l : List PagePlace). length (filter test l)) (left ∙ ap (λ (i : ℕ). page_at i x ∷ taken_pages indexes states (n + 1) bs) here)
        ∙ sym (ap (λ (l : List PagePlace). length (filter test (page_at k x ∷ l))) right)
    by false free later =
        let past : free_blocks states (n + 1) bs ≡ k ∷ rest = sym (ap (λ (f : Bool). cond f (n ∷ free_blocks states (n + 1) bs) (free_blocks states (n + 1) bs)) free) ∙ is in
        let above = least_above states (n + 1) k rest bs past in
        let step : k - n ≡ suc (k - (n + 1)) = omega (arith, above) in
        ap (λ (j : ℕ). length (filter test (taken_pages indexes states n (slice_set (b ∷ bs) j x)))) step
        ∙ grown_if test (is_taken indexes states b) (page_at n b) (page_at k x) (taken_pages indexes states (n + 1) bs) (taken_pages indexes states (n + 1) (slice_set bs (k - (n + 1)) x)) (later past)

pub free_grown : (states : List PartState) (n k : ℕ) (rest : List ℕ) (blocks : List (List ℕ)) (x : List ℕ) → free_blocks states n blocks ≡ k ∷ rest → is_free states x ≡ false → free_blocks states n (slice_set blocks (k - n) x) ≡ rest
free_grown states n k rest [] x is busy = absurd (omega (arith, ap length is))
free_grown states n k rest (b ∷ bs) x is busy = by (is_free states b) refl (λ later. free_grown states (n + 1) k rest bs x later busy)
  where
    by : (f : Bool) → is_free states b ≡ f → (free_blocks states (n + 1) bs ≡ k ∷ rest → free_blocks states (n + 1) (slice_set bs (k - (n + 1)) x) ≡ rest) → free_blocks states n (slice_set (b ∷ bs) (k - n) x) ≡ rest
    by true free later =
        let here = least_if (is_free states b) n k (free_blocks states (n + 1) bs) rest is free in
        let none : k - n ≡ 0 = omega (arith, here.0) in
        ap (λ (j : ℕ). free_blocks states n (slice_set (b ∷ bs) j x)) none
        ∙ ap (λ (f : Bool). cond f (n ∷ free_blocks states (n + 1) bs) (free_blocks states (n + 1) bs)) busy
        ∙ here.1
    by false free later =
        let past : free_blocks states (n + 1) bs ≡ k ∷ rest = sym (ap (λ (f : Bool). cond f (n ∷ free_blocks states (n + 1) bs) (free_blocks states (n + 1) bs)) free) ∙ is in
        let above = least_above states (n + 1) k rest bs past in
        let step : k - n ≡ suc (k - (n + 1)) = omega (arith, above) in
        ap (λ (j : ℕ). free_blocks states n (slice_set (b ∷ bs) j x)) step
        ∙ ap (λ (f : Bool). cond f (n ∷ free_blocks states (n + 1) (slice_set bs (k - (n + 1)) x)) (free_blocks states (n + 1) (slice_set bs (k - (n + 1)) x))) free
        ∙ later past

-- the head of an empty page
set_back : (kind : ℕ) (set : SetId) (n : ℕ) (a b c : List ℕ) → HasPlace set → set_in (page_head kind set n ++ a ++ b ++ c) ≡ set
set_back kind set n a b c place =
    ap (λ (p : ℕ). record { part = p; number = from_be_bytes w16 (to_be_bytes w16 set.number); letter = set.letter }) (from_be_bytes-to_be_bytes_2 set.part place.part)
    ∙ ap (λ (m : ℕ). record { part = set.part; number = m; letter = set.letter }) (from_be_bytes-to_be_bytes_2 set.number place.number)

page_back : (kind : ℕ) (set : SetId) (n : ℕ) (a b c : List ℕ) → n < 2 ^ 16 → page_in (page_head kind set n ++ a ++ b ++ c) ≡ n
page_back kind set n a b c low = from_be_bytes-to_be_bytes_2 n low

kind_back : (kind : ℕ) (set : SetId) (n : ℕ) (a b c : List ℕ) → kind_in (page_head kind set n ++ a ++ b ++ c) ≡ kind
kind_back kind set n a b c = refl

long_if : (b : Bool) (head rest : List ℕ) → length head ≡ 8 → length rest ≡ 4076 → length (head ++ replicate 8 0 ++ cond b (0 ∷ 0 ∷ 15 ∷ 240 ∷ []) (0 ∷ 0 ∷ 0 ∷ 0 ∷ []) ++ rest) ≡ 4096
long_if true head rest eight many = omega (arith, length-append (head ++ replicate 8 0 ++ (0 ∷ 0 ∷ 15 ∷ 240 ∷ [])) rest, length-append (head ++ replicate 8 0) (0 ∷ 0 ∷ 15 ∷ 240 ∷ []), length-append head (replicate 8 0), eight, many)
long_if false head rest eight many = omega (arith, length-append (head ++ replicate 8 0 ++ (0 ∷ 0 ∷ 0 ∷ 0 ∷ [])) rest, length-append (head ++ replicate 8 0) (0 ∷ 0 ∷ 0 ∷ 0 ∷ []), length-append head (replicate 8 0), eight, many)

pub long_page : (kind : ℕ) (set : SetId) (n : ℕ) → length (empty_page kind set n) ≡ 4096
long_page kind set n = long_if (kind == 1) (page_head kind set n) (replicate 4076 0) refl refl

kind_if : (b : Bool) (kind : ℕ) → cond b (kind == 1) (kind == 2) ≡ true → ((kind == 0) ≡ false) × ((kind == 1 || kind == 2) ≡ true)
kind_if false kind is = let two = eqb-true kind 2 is in (ap (λ (k : ℕ). k == 0) two, ap (λ (k : ℕ). k == 1 || k == 2) two)
kind_if true kind is = let one = eqb-true kind 1 is in (ap (λ (k : ℕ). k == 0) one, ap (λ (k : ℕ). k == 1 || k == 2) one)

not_true : (b : Bool) → not b ≡ true → b ≡ false
not_true true is = absurd (true≢false (sym is))
not_true false is = refl

-- an empty page of a data set that is taken for it
pub record IsNew (indexes : ℕ) (states : List PartState) (set : SetId) (n : ℕ) (x : List ℕ) : Type 0 where
  pub taken : is_taken indexes states x ≡ true
  pub set_is : set_in x ≡ set
  pub page_is : page_in x ≡ n
  pub long : length x ≡ 4096

pub is_new : (indexes : ℕ) (states : List PartState) (set : SetId) (kind n : ℕ) → HasPlace set → n < 2 ^ 16 → takes indexes states set kind ≡ true → IsNew indexes states set n (empty_page kind set n)
is_new indexes states set kind n place low may =
    let one = and_parts (not (is_left states set) && is_live_set indexes states kind set) (kind_fits set kind) may in
    let two = and_parts (not (is_left states set)) (is_live_set indexes states kind set) one.0 in
    let kinds = kind_if (has_cells set.letter && nat_lt set.part 32768) kind one.1 in
    let left = not_true (is_left states set) two.0 in
    let sets : set_in (empty_page kind set n) ≡ set = set_back kind set n (replicate 8 0) (cond (kind == 1) (0 ∷ 0 ∷ 15 ∷ 240 ∷ []) (0 ∷ 0 ∷ 0 ∷ 0 ∷ [])) (replicate 4076 0) place in
    let free : (kind == 0 || is_left states set) ≡ false = ap (λ (b : Bool). b || is_left states set) kinds.0 ∙ left in
    record {
      taken = ap (λ (s : SetId). not (kind == 0 || is_left states s) && (kind == 1 || kind == 2) && is_live_set indexes states kind s) sets
          ∙ ap (λ (b : Bool). not b && (kind == 1 || kind == 2) && is_live_set indexes states kind set) free
          ∙ ap (λ (b : Bool). b && is_live_set indexes states kind set) kinds.1
          ∙ two.1;
      set_is = sets;
      page_is = page_back kind set n (replicate 8 0) (cond (kind == 1) (0 ∷ 0 ∷ 15 ∷ 240 ∷ []) (0 ∷ 0 ∷ 0 ∷ 0 ∷ [])) (replicate 4076 0) low;
      long = long_page kind set n;
    }

-- the pages of a data set with one more, and those of others
insert_own : (set : SetId) (e : PagePlace) (pages : List PagePlace) (end : ℕ) → e.set ≡ set → IsFront set pages end → pages_of set (insert pages end e) ≡ pages_of set pages ++ e ∷ []
insert_own set e pages end is front =
    let own : same_set e.set set ≡ true = ap (λ (s : SetId). same_set s set) is ∙ own_set set in
    let back : pages_of set (drop end pages) ≡ [] = no_pages set (drop end pages) none in
    filter-append (is_page_of set) (take end pages) (e ∷ drop end pages)
    ∙ ap (λ (b : Bool). pages_of set (take end pages) ++ cond b (e ∷ pages_of set (drop end pages)) (pages_of set (drop end pages))) own
    ∙ ap (λ (l : List PagePlace). pages_of set (take end pages) ++ e ∷ l) back
    ∙ ap (λ (l : List PagePlace). l ++ e ∷ []) (sym (front_pages set pages end front))
  where
    none : All (λ p. same_set p.set set ≡ false) (drop end pages)
    none k d lt =
        let later = front.parts.1 (end + k) d (omega arith) (omega (arith, lt, length-drop end pages)) in
        let at : set_rank (get_or (drop end pages) k d).set ≡ set_rank (get_or pages (end + k) d).set = ap (λ (p : PagePlace). set_rank p.set) (get_or-drop end pages k d) in
        apart_by_rank (get_or (drop end pages) k d).set set (λ same. omega (arith, same, at, later))

insert_other : (set : SetId) (e : PagePlace) (pages : List PagePlace) (end : ℕ) → same_set e.set set ≡ false → pages_of set (insert pages end e) ≡ pages_of set pages
insert_other set e pages end is =
    filter-append (is_page_of set) (take end pages) (e ∷ drop end pages)
    ∙ ap (λ (b : Bool). pages_of set (take end pages) ++ cond b (e ∷ pages_of set (drop end pages)) (pages_of set (drop end pages))) is
    ∙ sym (filter-append (is_page_of set) (take end pages) (drop end pages))
    ∙ ap (pages_of set) (take-append-drop end pages)

own_run : (pages : List PagePlace) (set : SetId) (e : PagePlace) → ((n : ℕ) (d : PagePlace) → n < length pages → (get_or pages n d).page ≡ n) → e.page ≡ length pages → (n : ℕ) (d : PagePlace) → n < length (pages ++ e ∷ []) → (get_or (pages ++ e ∷ []) n d).page ≡ n
own_run pages set e run page n d lt = ⊎_elim (λ low. ap (λ (p : PagePlace). p.page) (get_or_append_left pages (e ∷ []) d n low) ∙ run n d low) (λ high. last high) (cases_lt n (length pages))
  where
    last : length pages ≤ n → (get_or (pages ++ e ∷ []) n d).page ≡ n
    last high =
        let at : n ≡ length pages = omega (arith, high, lt, length-append pages (e ∷ [])) in
        ap (λ (i : ℕ). (get_or (pages ++ e ∷ []) i d).page) at ∙ ap (λ (p : PagePlace). p.page) (get_or-append_seam pages e [] d) ∙ page ∙ sym at

or_right : (a b : Bool) → b ≡ true → (a || b) ≡ true
or_right true b is = refl
or_right false b is = is

-- what is known of a volume that grows
pub record Growing (indexes control number : ℕ) (states : List PartState) (pages : List PagePlace) (free rest : List ℕ) (told : Option (List (List ℕ))) (set : SetId) (n k end : ℕ) (x : List ℕ) : Type 0 where
  pub table : IsTable control number pages free
  pub few : length states ≤ 32 * control
  pub laid : (list : List (List ℕ)) → told ≡ Some list → IsLaidOut indexes control number states pages free list
  pub least : free ≡ k ∷ rest
  pub place : HasPlace set
  pub count : n ≡ length (pages_of set pages)
  pub front : IsFront set pages end
  pub new : IsNew indexes states set n x

abbrev pub grown : List PagePlace → ℕ → SetId → ℕ → ℕ → List PagePlace
grown pages end set n k = insert pages end (record { set = set; page = n; block = k })

pub least_within : (control number : ℕ) (pages : List PagePlace) (free rest : List ℕ) (k : ℕ) → IsTable control number pages free → free ≡ k ∷ rest → IsBetween control number k
least_within control number pages free rest k table least = All-head (IsBetween control number) k rest (subst (All (IsBetween control number)) least table.free_within)

all_insert : (P : PagePlace → Type 0) (pages : List PagePlace) (end : ℕ) (e : PagePlace) → All P pages → P e → All P (insert pages end e)
all_insert P pages end e all one = All-append P (take end pages) (e ∷ drop end pages) (All-take P end pages all) (All-cons P e (drop end pages) one (All-drop P end pages all))

pub table_grown : (indexes control number : ℕ) (states : List PartState) (pages : List PagePlace) (free rest : List ℕ) (told : Option (List (List ℕ))) (set : SetId) (n k end : ℕ) (x : List ℕ) → Growing indexes control number states pages free rest told set n k end x → IsTable control number (grown pages end set n k) rest
table_grown indexes control number states pages free rest told set n k end x s = record {
  order = IsNonDecreasingBy-insert (λ (p : PagePlace). set_rank p.set) pages end (record { set = set; page = n; block = k }) s.table.order s.front.within (λ i d lt. s.front.parts.0 i d (omega arith) lt) (λ i d le lt. let later = s.front.parts.1 i d le lt in omega (arith, later));
  run = run;
  small = all_insert (λ (p : PagePlace). HasPlace p.set) pages end (record { set = set; page = n; block = k }) s.table.small s.place;
  within = all_insert (λ (p : PagePlace). IsBetween control number p.block) pages end (record { set = set; page = n; block = k }) s.table.within within;
  rise = rise_weaker (k + 1) control rest (omega (arith, within.from)) (and_parts (nat_le control k) (rises_from (k + 1) rest) (subst (λ (l : List ℕ). rises_from control l ≡ true) s.least s.table.rise)).1;
  free_within = All-tail (IsBetween control number) k rest (subst (All (IsBetween control number)) s.least s.table.free_within);
  every = omega (arith, s.table.every, ap length s.least, length-insert pages end (record { set = set; page = n; block = k }) s.front.within);
}
  where
    within : IsBetween control number k
    within = least_within control number pages free rest k s.table s.least

    run : RunFromZero (grown pages end set n k)
    run other m d lt = by (same_set set other) refl
      where
        by : (b : Bool) → same_set set other ≡ b → (get_or (pages_of other (grown pages end set n k)) m d).page ≡ m
        by true is =
            let same = set_is set other is in
            let own : pages_of other (grown pages end set n k) ≡ pages_of other pages ++ (record { set = set; page = n; block = k }) ∷ [] = insert_own other (record { set = set; page = n; block = k }) pages end same (subst (λ (t : SetId). IsFront t pages end) same s.front) in
            let page : n ≡ length (pages_of other pages) = s.count ∙ ap (λ (t : SetId). length (pages_of t pages)) same in
            ap (λ (l : List PagePlace). (get_or l m d).page) own ∙ own_run (pages_of other pages) other (record { set = set; page = n; block = k }) (s.table.run other) page m d (subst (λ (l : List PagePlace). m < length l) own lt)
        by false is =
            let same : pages_of other (grown pages end set n k) ≡ pages_of other pages = insert_other other (record { set = set; page = n; block = k }) pages end is in
            ap (λ (l : List PagePlace). (get_or l m d).page) same ∙ s.table.run other m d (subst (λ (l : List PagePlace). m < length l) same lt)

map_end : (ps : List PagePlace) (e : PagePlace) → map (λ p. p.block) (ps ++ e ∷ []) ≡ map (λ p. p.block) ps ++ e.block ∷ []
map_end [] e = refl
map_end (p ∷ ps) e = ap (λ (l : List ℕ). p.block ∷ l) (map_end ps e)

pub places_grown : (set : SetId) (pages : List PagePlace) (end n k : ℕ) → IsFront set pages end → places_of set (grown pages end set n k) ≡ places_of set pages ++ k ∷ []
places_grown set pages end n k front = ap (map (λ (p : PagePlace). p.block)) (insert_own set (record { set = set; page = n; block = k }) pages end refl front) ∙ map_end (pages_of set pages) (record { set = set; page = n; block = k })

pub places_other : (set other : SetId) (pages : List PagePlace) (end n k : ℕ) → (other ≡ set → ⊥) → places_of other (grown pages end set n k) ≡ places_of other pages
places_other set other pages end n k apart = ap (map (λ (p : PagePlace). p.block)) (insert_other other (record { set = set; page = n; block = k }) pages end (no (same_set set other) refl))
  where
    no : (b : Bool) → same_set set other ≡ b → same_set set other ≡ false
    no true is = absurd (apart (sym (set_is set other is)))
    no false is = is

pub laid_grown : (indexes control number : ℕ) (states : List PartState) (pages : List PagePlace) (free rest : List ℕ) (told now : Option (List (List ℕ))) (set : SetId) (n k end : ℕ) (x : List ℕ) → Growing indexes control number states pages free rest told set n k end x → now ≡ option_map (λ list. slice_set list k x) told → (list : List (List ℕ)) → now ≡ Some list → IsLaidOut indexes control number states (grown pages end set n k) rest list
laid_grown indexes control number states pages free rest None now set n k end x s staged list is = absurd (none-some list (sym staged ∙ is))
laid_grown indexes control number states pages free rest (Some old) now set n k end x s staged list is = subst (IsLaidOut indexes control number states (grown pages end set n k) rest) same made
  where
    same : slice_set old k x ≡ list
    same = same_Some (slice_set old k x) list (sym staged ∙ is)

    before : IsLaidOut indexes control number states pages free old
    before = s.laid old refl

    from : control ≤ k
    from = (least_within control number pages free rest k s.table s.least).from

    least : free_blocks states control (drop control old) ≡ k ∷ rest
    least = sym before.table.left ∙ s.least

    place : page_at k x ≡ record { set = set; page = n; block = k }
    place = ap (λ (t : SetId). record { set = t; page = page_in x; block = k }) s.new.set_is ∙ ap (λ (p : ℕ). record { set = set; page = p; block = k }) s.new.page_is

    pages_same : SamePages (taken_pages indexes states control (drop control (slice_set old k x))) (grown pages end set n k)
    pages_same test =
        same_if_permuted (record { set = set; page = n; block = k } ∷ pages) (grown pages end set n k) (IsPermutation-insert pages end (record { set = set; page = n; block = k })) test
        ∙ filter_first test (record { set = set; page = n; block = k }) pages
        ∙ ap (λ (i : ℕ). cond (test (record { set = set; page = n; block = k })) 1 0 + i) (before.table.taken test)
        ∙ sym (filter_first test (record { set = set; page = n; block = k }) (taken_pages indexes states control (drop control old)))
        ∙ ap (λ (p : PagePlace). length (filter test (p ∷ taken_pages indexes states control (drop control old)))) (sym place)
        ∙ sym (taken_grown indexes states control k rest (drop control old) x test least s.new.taken)
        ∙ ap (λ (l : List (List ℕ)). length (filter test (taken_pages indexes states control l))) (sym (data_set old control k x from))

    made : IsLaidOut indexes control number states (grown pages end set n k) rest (slice_set old k x)
    made = record {
      many = length-set old k x ∙ before.many;
      whole = All-set (λ (block : List ℕ). length block ≡ 4096) old k x s.new.long before.whole;
      rows = λ at state got. rows_stay old control k at x from (omega (arith, slice_get_within states at state got, s.few)) ∙ before.rows at state got;
      rest = λ at le lt. rows_stay old control k at x from lt ∙ before.rest at le lt;
      table = record {
        taken = pages_same;
        left = sym (ap (free_blocks states control) (data_set old control k x from) ∙ free_grown states control k rest (drop control old) x least (taken_not_free indexes states x s.new.taken));
        held = subst (All (λ b. is_held indexes states b ≡ true)) (sym (data_set old control k x from)) (All-set (λ (b : List ℕ). is_held indexes states b ≡ true) (drop control old) (k - control) x (or_right (is_free states x) (is_taken indexes states x) s.new.taken) before.table.held);
      };
    }

-- the free block is the block of no page
free_is_none : (indexes control number : ℕ) (states : List PartState) (pages : List PagePlace) (free rest : List ℕ) (list : List (List ℕ)) (set : SetId) (n k end : ℕ) (x : List ℕ) → Growing indexes control number states pages free rest (Some list) set n k end x → (other : SetId) (m : ℕ) → slice_get (places_of other pages) m ≡ Some k → ⊥
free_is_none indexes control number states pages free rest list set n k end x s other m at =
    let before = s.laid list refl in
    let taken = (place_page indexes states control pages free list other m k before.table s.table.run at).taken in
    true≢false (sym (least_free states control k rest (drop control list) (sym before.table.left ∙ s.least)) ∙ ap (is_free states) (data_at list control k (least_within control number pages free rest k s.table s.least).from) ∙ taken_not_free indexes states (get_or list k []) taken)

blocks_end : (places : List ℕ) (k : ℕ) (list : List (List ℕ)) → blocks_at (places ++ k ∷ []) list ≡ blocks_at places list ++ get_or list k [] ∷ []
blocks_end [] k list = refl
blocks_end (p ∷ ps) k list = ap (λ (l : List (List ℕ)). get_or list p [] ∷ l) (blocks_end ps k list)

pub pages_grown : (indexes control number : ℕ) (states : List PartState) (pages : List PagePlace) (free rest : List ℕ) (told now : Option (List (List ℕ))) (set : SetId) (n k end : ℕ) (x : List ℕ) → Growing indexes control number states pages free rest told set n k end x → now ≡ option_map (λ list. slice_set list k x) told → option_map (blocks_at (places_of set (grown pages end set n k))) now ≡ option_map (λ pages. pages ++ x ∷ []) (option_map (blocks_at (places_of set pages)) told)
pages_grown indexes control number states pages free rest None now set n k end x s staged = ap (option_map (blocks_at (places_of set (grown pages end set n k)))) staged
pages_grown indexes control number states pages free rest (Some list) now set n k end x s staged =
    let within = least_within control number pages free rest k s.table s.least in
    let before = s.laid list refl in
    ap (option_map (blocks_at (places_of set (grown pages end set n k)))) staged
    ∙ ap Some (
    ap (λ (l : List ℕ). blocks_at l (slice_set list k x)) (places_grown set pages end n k s.front)
    ∙ blocks_end (places_of set pages) k (slice_set list k x)
    ∙ ap (λ (b : List ℕ). blocks_at (places_of set pages) (slice_set list k x) ++ b ∷ []) (get_or-set_same list k x [] (omega (arith, within.to, before.many)))
    ∙ ap (λ (l : List (List ℕ)). l ++ x ∷ []) (untouched (places_of set pages) list k x (free_is_none indexes control number states pages free rest list set n k end x s set))
    )

pub others_grown : (indexes control number : ℕ) (states : List PartState) (pages : List PagePlace) (free rest : List ℕ) (told now : Option (List (List ℕ))) (set other : SetId) (n k end : ℕ) (x : List ℕ) → Growing indexes control number states pages free rest told set n k end x → now ≡ option_map (λ list. slice_set list k x) told → (other ≡ set → ⊥) → option_map (blocks_at (places_of other (grown pages end set n k))) now ≡ option_map (blocks_at (places_of other pages)) told
others_grown indexes control number states pages free rest None now set other n k end x s staged apart = ap (option_map (blocks_at (places_of other (grown pages end set n k)))) staged
others_grown indexes control number states pages free rest (Some list) now set other n k end x s staged apart =
    ap (option_map (blocks_at (places_of other (grown pages end set n k)))) staged
    ∙ ap Some (ap (λ (l : List ℕ). blocks_at l (slice_set list k x)) (places_other set other pages end n k apart) ∙ untouched (places_of other pages) list k x (free_is_none indexes control number states pages free rest list set n k end x s other))
