-- A control block whose row is written: that row is the state's, and each other row is as it was.
use Rattle.std.proofs.Common.{◌≡◌, ◌≢◌, ◌∙◌, true, ⊎_elim, ℕ, ◌+◌, ◌-◌, ◌*◌, ◌/◌, ◌%◌, ◌<◌, ◌≤◌, List, [], ◌++◌, length, length-append, length-drop, take, drop, get_or, replicate, Option, None, Some, slice_get, slice_set, slice_range, refl, sym, ap, subst, arith}
use Rattle.std.specs.Prelude.{◌⊎◌, All, IfSome}
use Rattle.std.proofs.Common.{inl, inr}
use Rattle.std.specs.Option.{option_map}
use Rattle.std.proofs.lemmas.Bool.{cases_lt}
use Rattle.std.proofs.lemmas.List.{drop-set-lt, ext_get_or, get_or-append_right, get_or-drop, get_or-set_other, get_or-set_same, get_or-take, get_or_append_left, length-replicate, length-set, length-take}
use Rattle.std.proofs.lemmas.List.Elements.{All-set}
use Rattle.std.proofs.lemmas.Option.{get_or_from_slice_get, none-some, same_Some, slice_get-get_or, slice_get_within}
use Rattle.hal_base.specs.declared.place.PartState.{PartState}
use Rattle.volume_image.specs.Control.{control_row, cursor_bytes, row_in}
use Rattle.data_set_pairs.specs.declared.place.PagePlace.{PagePlace}
use Rattle.data_set_pairs.specs.Row.{with_row}
use Rattle.data_set_pairs.specs.Image.{TableStands, is_held, taken_pages, free_blocks, SamePages}
use Rattle.data_set_pairs.specs.Volume.{IsLaidOut}

pub length_row : (s : PartState) → length (cursor_bytes s.cursor) ≤ 120 → length (control_row s) ≡ 128
length_row s short =
    let rest = length-append (cursor_bytes s.cursor) (replicate (120 - length (cursor_bytes s.cursor)) 0) in
    let many = length-replicate {A = ℕ} (120 - length (cursor_bytes s.cursor)) 0 in
    omega (arith, short, rest, many)

length_with : (n : ℕ) (row block : List ℕ) → length block ≡ 4096 → length row ≡ 128 → n < 32 → length (with_row n row block) ≡ 4096
length_with n row block long many low =
    omega (arith, long, many, low, length-append (take (128 * n) block ++ row) (drop (128 * n + 128) block), length-append (take (128 * n) block) row, length-take (128 * n) block, length-drop (128 * n + 128) block)

-- the bytes of the row, before it and behind it
front_long : (n : ℕ) (block : List ℕ) → length block ≡ 4096 → n < 32 → length (take (128 * n) block) ≡ 128 * n
front_long n block long low = omega (arith, long, low, length-take (128 * n) block)

byte_before : (n i : ℕ) (row block : List ℕ) → length block ≡ 4096 → n < 32 → i < 128 * n → get_or (with_row n row block) i 0 ≡ get_or block i 0
byte_before n i row block long low lt =
    let front = front_long n block long low in
    get_or_append_left (take (128 * n) block ++ row) (drop (128 * n + 128) block) 0 i (omega (arith, lt, front, length-append (take (128 * n) block) row))
    ∙ get_or_append_left (take (128 * n) block) row 0 i (omega (arith, lt, front))
    ∙ get_or-take (128 * n) block i 0 lt

byte_within : (n i : ℕ) (row block : List ℕ) → length block ≡ 4096 → length row ≡ 128 → n < 32 → i < 128 → get_or (with_row n row block) (128 * n + i) 0 ≡ get_or row i 0
byte_within n i row block long many low lt =
    let front = front_long n block long low in
    let rest : 128 * n + i - 128 * n ≡ i = omega arith in
    get_or_append_left (take (128 * n) block ++ row) (drop (128 * n + 128) block) 0 (128 * n + i) (omega (arith, lt, many, front, length-append (take (128 * n) block) row))
    ∙ get_or-append_right (take (128 * n) block) row (128 * n) (128 * n + i) 0 front (omega arith)
    ∙ ap (λ (k : ℕ). get_or row k 0) rest

byte_behind : (n i : ℕ) (row block : List ℕ) → length block ≡ 4096 → length row ≡ 128 → n < 32 → 128 * n + 128 ≤ i → get_or (with_row n row block) i 0 ≡ get_or block i 0
byte_behind n i row block long many low le =
    let front = front_long n block long low in
    let both : length (take (128 * n) block ++ row) ≡ 128 * n + 128 = omega (arith, front, many, length-append (take (128 * n) block) row) in
    let rest : 128 * n + 128 + (i - (128 * n + 128)) ≡ i = omega (arith, le) in
    get_or-append_right (take (128 * n) block ++ row) (drop (128 * n + 128) block) (128 * n + 128) i 0 both le
    ∙ get_or-drop (128 * n + 128) block (i - (128 * n + 128)) 0
    ∙ ap (λ (k : ℕ). get_or block k 0) rest

row_bytes : (block : List ℕ) (m i : ℕ) → i < 128 → get_or (slice_range block (128 * m) (128 * m + 128)) i 0 ≡ get_or block (128 * m + i) 0
row_bytes block m i lt =
    let many : 128 * m + 128 - 128 * m ≡ 128 = omega arith in
    get_or-take (128 * m + 128 - 128 * m) (drop (128 * m) block) i 0 (omega (arith, lt, many)) ∙ get_or-drop (128 * m) block i 0

row_long : (block : List ℕ) (m : ℕ) → length block ≡ 4096 → m < 32 → length (slice_range block (128 * m) (128 * m + 128)) ≡ 128
row_long block m long low = omega (arith, long, low, length-take (128 * m + 128 - 128 * m) (drop (128 * m) block), length-drop (128 * m) block)

own_row : (n : ℕ) (row block : List ℕ) → length block ≡ 4096 → length row ≡ 128 → n < 32 → slice_range (with_row n row block) (128 * n) (128 * n + 128) ≡ row
own_row n row block long many low =
    let whole = length_with n row block long many low in
    let same = row_long (with_row n row block) n whole low in
    ext_get_or 0 (slice_range (with_row n row block) (128 * n) (128 * n + 128)) row (omega (arith, same, many)) (λ i lt. row_bytes (with_row n row block) n i (omega (arith, lt, same)) ∙ byte_within n i row block long many low (omega (arith, lt, same)))

other_row : (n m : ℕ) (row block : List ℕ) → length block ≡ 4096 → length row ≡ 128 → n < 32 → m < 32 → m ≢ n → slice_range (with_row n row block) (128 * m) (128 * m + 128) ≡ slice_range block (128 * m) (128 * m + 128)
other_row n m row block long many low high apart =
    let whole = length_with n row block long many low in
    let one = row_long (with_row n row block) m whole high in
    let two = row_long block m long high in
    ext_get_or 0 (slice_range (with_row n row block) (128 * m) (128 * m + 128)) (slice_range block (128 * m) (128 * m + 128)) (omega (arith, one, two)) (λ i lt. row_bytes (with_row n row block) m i (omega (arith, lt, one)) ∙ byte i (omega (arith, lt, one)) ∙ sym (row_bytes block m i (omega (arith, lt, one))))
  where
    byte : (i : ℕ) → i < 128 → get_or (with_row n row block) (128 * m + i) 0 ≡ get_or block (128 * m + i) 0
    byte i lt = ⊎_elim (λ less. byte_before n (128 * m + i) row block long low (omega (arith, lt, less))) (λ le. byte_behind n (128 * m + i) row block long many low (omega (arith, le, apart))) (cases_lt m n)

-- the rows of a volume of which one is written
row_here : (list : List (List ℕ)) (place : ℕ) (row : List ℕ) → place / 32 < length list → length (get_or list (place / 32) []) ≡ 4096 → length row ≡ 128 → row_in (slice_set list (place / 32) (with_row (place % 32) row (get_or list (place / 32) []))) place ≡ row
row_here list place row within long many =
    let low : place % 32 < 32 = omega arith in
    ap (λ (b : List ℕ). slice_range b (128 * (place % 32)) (128 * (place % 32) + 128)) (get_or-set_same list (place / 32) (with_row (place % 32) row (get_or list (place / 32) [])) [] within)
    ∙ own_row (place % 32) row (get_or list (place / 32) []) long many low

row_there : (list : List (List ℕ)) (place other : ℕ) (row : List ℕ) → place / 32 < length list → length (get_or list (place / 32) []) ≡ 4096 → length row ≡ 128 → other ≢ place → row_in (slice_set list (place / 32) (with_row (place % 32) row (get_or list (place / 32) []))) other ≡ row_in list other
row_there list place other row within long many apart = ⊎_elim (λ lt. away (omega (arith, lt))) (λ le. ⊎_elim (λ lt. away (omega (arith, lt))) (λ ge. here (omega (arith, le, ge))) (cases_lt (place / 32) (other / 32))) (cases_lt (other / 32) (place / 32))
  where
    block : List ℕ
    block = get_or list (place / 32) []

    away : other / 32 ≢ place / 32 → row_in (slice_set list (place / 32) (with_row (place % 32) row (get_or list (place / 32) []))) other ≡ row_in list other
    away different = ap (λ (b : List ℕ). slice_range b (128 * (other % 32)) (128 * (other % 32) + 128)) (get_or-set_other list (place / 32) (other / 32) (with_row (place % 32) row (get_or list (place / 32) [])) [] different)

    here : other / 32 ≡ place / 32 → row_in (slice_set list (place / 32) (with_row (place % 32) row (get_or list (place / 32) []))) other ≡ row_in list other
    here same =
        let rows : other % 32 ≢ place % 32 = omega (arith, same, apart) in
        let low : place % 32 < 32 = omega arith in
        let high : other % 32 < 32 = omega arith in
        ap (λ (k : ℕ). slice_range (get_or (slice_set list (place / 32) (with_row (place % 32) row (get_or list (place / 32) []))) k []) (128 * (other % 32)) (128 * (other % 32) + 128)) same
        ∙ ap (λ (b : List ℕ). slice_range b (128 * (other % 32)) (128 * (other % 32) + 128)) (get_or-set_same list (place / 32) (with_row (place % 32) row (get_or list (place / 32) [])) [] within)
        ∙ other_row (place % 32) (other % 32) row (get_or list (place / 32) []) long many low high rows
        ∙ sym (ap (λ (k : ℕ). slice_range (get_or list k []) (128 * (other % 32)) (128 * (other % 32) + 128)) same)

-- what is known of a volume whose state is set
pub record Setting (indexes control number : ℕ) (states changed : List PartState) (pages more : List PagePlace) (free left : List ℕ) (told : Option (List (List ℕ))) (place : ℕ) (s : PartState) (block : List ℕ) : Type 0 where
  pub few : length states ≤ 32 * control
  pub front : control ≤ number
  pub below : place < length states
  pub short : length (cursor_bytes s.cursor) ≤ 120
  pub set : changed ≡ slice_set states place s
  pub laid : (list : List (List ℕ)) → told ≡ Some list → IsLaidOut indexes control number states pages free list
  pub stands : IfSome told (TableStands indexes changed control more left)
  pub row : IfSome told (λ list. block ≡ with_row (place % 32) (control_row s) (get_or list (place / 32) []))

state_is : (states : List PartState) (place at : ℕ) (s state : PartState) → slice_get (slice_set states place s) at ≡ Some state → place < length states → ((at ≡ place) × (state ≡ s)) ⊎ ((at ≢ place) × (slice_get states at ≡ Some state))
state_is states place at s state got below = ⊎_elim (λ lt. other (omega (arith, lt))) (λ le. ⊎_elim (λ lt. other (omega (arith, lt))) (λ ge. own (omega (arith, le, ge))) (cases_lt place at)) (cases_lt at place)
  where
    own : at ≡ place → ((at ≡ place) × (state ≡ s)) ⊎ ((at ≢ place) × (slice_get states at ≡ Some state))
    own is =
        let here = get_or_from_slice_get (slice_set states place s) at state s got in
        inl (is, sym here ∙ ap (λ (k : ℕ). get_or (slice_set states place s) k s) is ∙ get_or-set_same states place s s below)

    other : at ≢ place → ((at ≡ place) × (state ≡ s)) ⊎ ((at ≢ place) × (slice_get states at ≡ Some state))
    other apart =
        let within : at < length states = omega (arith, slice_get_within (slice_set states place s) at state got, length-set states place s) in
        let here = get_or_from_slice_get (slice_set states place s) at state s got in
        inr (apart, slice_get-get_or states at s within ∙ ap Some (sym (get_or-set_other states place at s s apart) ∙ here))

pub laid_set : (indexes control number : ℕ) (states changed : List PartState) (pages more : List PagePlace) (free left : List ℕ) (told now : Option (List (List ℕ))) (place : ℕ) (s : PartState) (block : List ℕ) → Setting indexes control number states changed pages more free left told place s block → now ≡ option_map (λ list. slice_set list (place / 32) block) told → (list : List (List ℕ)) → now ≡ Some list → IsLaidOut indexes control number changed more left list
laid_set indexes control number states changed pages more free left None now place s block t staged list is = absurd (none-some list (sym staged ∙ is))
laid_set indexes control number states changed pages more free left (Some old) now place s block t staged list is = subst (IsLaidOut indexes control number changed more left) same made
  where
    before : IsLaidOut indexes control number states pages free old
    before = t.laid old refl

    control_block : place / 32 < control
    control_block = omega (arith, t.below, t.few)

    within : place / 32 < length old
    within = omega (arith, control_block, t.front, before.many)

    long : length (get_or old (place / 32) []) ≡ 4096
    long = before.whole (place / 32) [] within

    many : length (control_row s) ≡ 128
    many = length_row s t.short

    same : slice_set old (place / 32) (with_row (place % 32) (control_row s) (get_or old (place / 32) [])) ≡ list
    same = ap (slice_set old (place / 32)) (sym t.row) ∙ same_Some (slice_set old (place / 32) block) list (sym staged ∙ is)

    rows : (at : ℕ) (state : PartState) → slice_get changed at ≡ Some state → row_in (slice_set old (place / 32) (with_row (place % 32) (control_row s) (get_or old (place / 32) []))) at ≡ control_row state
    rows at state got = ⊎_elim (λ own. row_at at state own) (λ other. row_there old place at (control_row s) within long many other.0 ∙ before.rows at state other.1) (state_is states place at s state (ap (λ (l : List PartState). slice_get l at) (sym t.set) ∙ got) t.below)
      where
        row_at : (at : ℕ) (state : PartState) → (at ≡ place) × (state ≡ s) → row_in (slice_set old (place / 32) (with_row (place % 32) (control_row s) (get_or old (place / 32) []))) at ≡ control_row state
        row_at at state own = ap (row_in (slice_set old (place / 32) (with_row (place % 32) (control_row s) (get_or old (place / 32) [])))) own.0 ∙ row_here old place (control_row s) within long many ∙ sym (ap control_row own.1)

    blocks_stay : drop control (slice_set old (place / 32) (with_row (place % 32) (control_row s) (get_or old (place / 32) []))) ≡ drop control old
    blocks_stay = drop-set-lt control old (place / 32) (with_row (place % 32) (control_row s) (get_or old (place / 32) [])) control_block

    made : IsLaidOut indexes control number changed more left (slice_set old (place / 32) (with_row (place % 32) (control_row s) (get_or old (place / 32) [])))
    made = record {
      many = length-set old (place / 32) (with_row (place % 32) (control_row s) (get_or old (place / 32) [])) ∙ before.many;
      whole = All-set (λ (b : List ℕ). length b ≡ 4096) old (place / 32) (with_row (place % 32) (control_row s) (get_or old (place / 32) [])) (length_with (place % 32) (control_row s) (get_or old (place / 32) []) long many (omega arith)) before.whole;
      rows = rows;
      rest = λ at le lt. row_there old place at (control_row s) within long many (omega (arith, le, ap length t.set, length-set states place s, t.below)) ∙ before.rest at (omega (arith, le, ap length t.set, length-set states place s)) lt;
      table = record {
        taken = subst (λ (l : List (List ℕ)). SamePages (taken_pages indexes changed control l) more) (sym blocks_stay) t.stands.taken;
        left = t.stands.left ∙ ap (free_blocks changed control) (sym blocks_stay);
        held = subst (All (λ b. is_held indexes changed b ≡ true)) (sym blocks_stay) t.stands.held;
      };
    }
