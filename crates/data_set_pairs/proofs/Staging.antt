-- A page that is staged in the place of one with the same head.
use Rattle.std.proofs.Common.{◌≡◌, ◌≢◌, ◌∙◌, ℕ, zero, suc, ◌+◌, ◌-◌, ◌*◌, ◌/◌, ◌%◌, ◌<◌, ◌≤◌, Bool, cond, List, [], ◌∷◌, length, take, drop, get_or, Some, slice_get, slice_set, slice_range, refl, sym, ap, arith}
use Rattle.std.specs.Prelude.{◌&&◌, ◌||◌, ◌==◌, not}
use Rattle.std.specs.Int.{w16, from_be_bytes}
use Rattle.std.proofs.lemmas.List.{get_or-take, take-take, drop-take, drop-set-add, get_or-set_same, get_or-set_other, get_or-drop}
use Rattle.std.proofs.lemmas.Option.{none-some, same_Some}
use Rattle.hal_base.specs.declared.pages.SetId.{SetId}
use Rattle.hal_base.specs.declared.place.PartState.{PartState}
use Rattle.volume_image.specs.Control.{row_in}
use Rattle.volume_image.specs.Header.{kind_in, set_in, page_in, is_free, is_left, is_live_set}
use Rattle.data_set_pairs.specs.declared.place.PagePlace.{PagePlace}
use Rattle.data_set_pairs.specs.Image.{is_taken, page_at, taken_pages, free_blocks}
use Rattle.data_set_pairs.specs.Shelf.{blocks_at}

-- blocks that a table doesn't tell apart
pub record Alike (indexes : ℕ) (states : List PartState) (x y : List ℕ) : Type 0 where
  pub free : is_free states x ≡ is_free states y
  pub taken : is_taken indexes states x ≡ is_taken indexes states y
  pub set : set_in x ≡ set_in y
  pub page : page_in x ≡ page_in y

byte_same : (x y : List ℕ) (i : ℕ) → i < 8 → take 8 x ≡ take 8 y → get_or x i 0 ≡ get_or y i 0
byte_same x y i lt same = sym (get_or-take 8 x i 0 lt) ∙ ap (λ (l : List ℕ). get_or l i 0) same ∙ get_or-take 8 y i 0 lt

word_2 : (x : List ℕ) → take 2 (drop 2 x) ≡ take 2 (drop 2 (take 8 x))
word_2 x = sym (ap (take 2) (drop-take 2 6 x) ∙ take-take 2 6 (drop 2 x) (omega arith))

word_4 : (x : List ℕ) → take 2 (drop 4 x) ≡ take 2 (drop 4 (take 8 x))
word_4 x = sym (ap (take 2) (drop-take 4 4 x) ∙ take-take 2 4 (drop 4 x) (omega arith))

word_6 : (x : List ℕ) → take 2 (drop 6 x) ≡ take 2 (drop 6 (take 8 x))
word_6 x = sym (ap (take 2) (drop-take 6 2 x) ∙ take-take 2 2 (drop 6 x) (omega arith))

pub alike : (indexes : ℕ) (states : List PartState) (x y : List ℕ) → take 8 x ≡ take 8 y → Alike indexes states x y
alike indexes states x y same = record {
  free = ap (λ (k : ℕ). k == 0 || is_left states (set_in x)) kind ∙ ap (λ (s : SetId). kind_in y == 0 || is_left states s) sets;
  taken = ap (λ (k : ℕ). not (k == 0 || is_left states (set_in x)) && (k == 1 || k == 2) && is_live_set indexes states k (set_in x)) kind
      ∙ ap (λ (s : SetId). not (kind_in y == 0 || is_left states s) && (kind_in y == 1 || kind_in y == 2) && is_live_set indexes states (kind_in y) s) sets;
  set = sets;
  page = ap (from_be_bytes w16) (word_6 x ∙ ap (λ (l : List ℕ). take 2 (drop 6 l)) same ∙ sym (word_6 y));
}
  where
    kind : kind_in x ≡ kind_in y
    kind = byte_same x y 0 (omega arith) same

    letter : get_or x 1 0 ≡ get_or y 1 0
    letter = byte_same x y 1 (omega arith) same

    part : from_be_bytes w16 (take 2 (drop 2 x)) ≡ from_be_bytes w16 (take 2 (drop 2 y))
    part = ap (from_be_bytes w16) (word_2 x ∙ ap (λ (l : List ℕ). take 2 (drop 2 l)) same ∙ sym (word_2 y))

    number : from_be_bytes w16 (take 2 (drop 4 x)) ≡ from_be_bytes w16 (take 2 (drop 4 y))
    number = ap (from_be_bytes w16) (word_4 x ∙ ap (λ (l : List ℕ). take 2 (drop 4 l)) same ∙ sym (word_4 y))

    made : ℕ → ℕ → ℕ → SetId
    made p n l = record { part = p; number = n; letter = l }

    sets : set_in x ≡ set_in y
    sets =
        ap (λ (p : ℕ). record { part = p; number = from_be_bytes w16 (take 2 (drop 4 x)); letter = get_or x 1 0 }) part
        ∙ ap (λ (n : ℕ). record { part = from_be_bytes w16 (take 2 (drop 2 y)); number = n; letter = get_or x 1 0 }) number
        ∙ ap (λ (l : ℕ). record { part = from_be_bytes w16 (take 2 (drop 2 y)); number = from_be_bytes w16 (take 2 (drop 4 y)); letter = l }) letter

page_same : (n : ℕ) (x y : List ℕ) → set_in x ≡ set_in y → page_in x ≡ page_in y → page_at n x ≡ page_at n y
page_same n x y set page = ap (λ (s : SetId). record { set = s; page = page_in x; block = n }) set ∙ ap (λ (p : ℕ). record { set = set_in y; page = p; block = n }) page

pub taken_same : (indexes : ℕ) (states : List PartState) (n : ℕ) (blocks : List (List ℕ)) (j : ℕ) (x : List ℕ) → Alike indexes states x (get_or blocks j []) → taken_pages indexes states n (slice_set blocks j x) ≡ taken_pages indexes states n blocks
taken_same indexes states n [] j x same = refl
taken_same indexes states n (b ∷ bs) zero x same =
    ap (λ (t : Bool). cond t (page_at n x ∷ taken_pages indexes states (n + 1) bs) (taken_pages indexes states (n + 1) bs)) same.taken
    ∙ ap (λ (p : PagePlace). cond (is_taken indexes states b) (p ∷ taken_pages indexes states (n + 1) bs) (taken_pages indexes states (n + 1) bs)) (page_same n x b same.set same.page)
taken_same indexes states n (b ∷ bs) (suc j) x same = ap (λ (l : List PagePlace). cond (is_taken indexes states b) (page_at n b ∷ l) l) (taken_same indexes states (n + 1) bs j x same)

pub free_same : (indexes : ℕ) (states : List PartState) (n : ℕ) (blocks : List (List ℕ)) (j : ℕ) (x : List ℕ) → Alike indexes states x (get_or blocks j []) → free_blocks states n (slice_set blocks j x) ≡ free_blocks states n blocks
free_same indexes states n [] j x same = refl
free_same indexes states n (b ∷ bs) zero x same = ap (λ (t : Bool). cond t (n ∷ free_blocks states (n + 1) bs) (free_blocks states (n + 1) bs)) same.free
free_same indexes states n (b ∷ bs) (suc j) x same = ap (λ (l : List ℕ). cond (is_free states b) (n ∷ l) l) (free_same indexes states (n + 1) bs j x same)

-- the data blocks with one of them set
pub data_set : (list : List (List ℕ)) (control k : ℕ) (x : List ℕ) → control ≤ k → drop control (slice_set list k x) ≡ slice_set (drop control list) (k - control) x
data_set list control k x le =
    let sum : k ≡ control + (k - control) = omega (arith, le) in
    ap (λ (i : ℕ). drop control (slice_set list i x)) sum ∙ drop-set-add control list (k - control) x

pub data_at : (list : List (List ℕ)) (control k : ℕ) → control ≤ k → get_or (drop control list) (k - control) [] ≡ get_or list k []
data_at list control k le =
    let sum : control + (k - control) ≡ k = omega (arith, le) in
    get_or-drop control list (k - control) [] ∙ ap (λ (i : ℕ). get_or list i []) sum

-- the control rows stay where a data block is set
pub rows_stay : (list : List (List ℕ)) (control k place : ℕ) (x : List ℕ) → control ≤ k → place < 32 * control → row_in (slice_set list k x) place ≡ row_in list place
rows_stay list control k place x le lt =
    let other : place / 32 ≢ k = omega (arith, le, lt) in
    ap (λ (b : List ℕ). slice_range b (128 * (place % 32)) (128 * (place % 32) + 128)) (get_or-set_other list k (place / 32) x [] other)

-- the blocks at places of which none is set
pub untouched : (places : List ℕ) (list : List (List ℕ)) (k : ℕ) (x : List ℕ) → ((m : ℕ) → slice_get places m ≡ Some k → ⊥) → blocks_at places (slice_set list k x) ≡ blocks_at places list
untouched [] list k x none = refl
untouched (p ∷ ps) list k x none =
    let other : p ≢ k = λ is. none 0 (ap Some is) in
    ap (λ (b : List ℕ). b ∷ blocks_at ps (slice_set list k x)) (get_or-set_other list k p x [] other)
    ∙ ap (λ (l : List (List ℕ)). get_or list p [] ∷ l) (untouched ps list k x (λ m is. none (suc m) is))

-- of which one is
pub put_at : (places : List ℕ) (list : List (List ℕ)) (k n : ℕ) (x : List ℕ) → slice_get places n ≡ Some k → k < length list → ((m : ℕ) → slice_get places m ≡ Some k → m ≡ n) → blocks_at places (slice_set list k x) ≡ slice_set (blocks_at places list) n x
put_at [] list k n x got lt only = absurd (none-some k got)
put_at (p ∷ ps) list k zero x got lt only =
    let is : p ≡ k = same_Some p k got in
    ap (λ (b : List ℕ). b ∷ blocks_at ps (slice_set list k x)) (ap (λ (i : ℕ). get_or (slice_set list k x) i []) is ∙ get_or-set_same list k x [] lt)
    ∙ ap (λ (l : List (List ℕ)). x ∷ l) (untouched ps list k x (λ m at. absurd (omega (arith, only (suc m) at))))
put_at (p ∷ ps) list k (suc n) x got lt only =
    let other : p ≢ k = λ is. absurd (omega (arith, only 0 (ap Some is))) in
    ap (λ (b : List ℕ). b ∷ blocks_at ps (slice_set list k x)) (get_or-set_other list k p x [] other)
    ∙ ap (λ (l : List (List ℕ)). get_or list p [] ∷ l) (put_at ps list k n x got lt (λ m at. let is = only (suc m) at in omega (arith, is)))

pub take_stays : (list : List (List ℕ)) (control k : ℕ) (x : List ℕ) → control ≤ k → take control (slice_set list k x) ≡ take control list
take_stays list zero k x le = refl
take_stays [] (suc control) k x le = refl
take_stays (b ∷ bs) (suc control) zero x le = absurd (omega (arith, le))
take_stays (b ∷ bs) (suc control) (suc k) x le = ap (λ (l : List (List ℕ)). b ∷ l) (take_stays bs control k x (omega (arith, le)))
