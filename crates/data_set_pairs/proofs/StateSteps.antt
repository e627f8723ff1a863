-- How the states that were read so far go on with a row.
use Rattle.std.proofs.Common.{◌≡◌, ◌∙◌, ℕ, suc, ◌+◌, ◌*◌, ◌/◌, ◌%◌, ◌<◌, ◌≤◌, List, [], ◌∷◌, ◌++◌, length, length-append, Option, None, Some, get_or, replicate, slice_get, refl, sym, ap, subst, arith, ⊎_elim}
use Rattle.std.specs.Prelude.{slice_range, Bool, true, false, IsTrue, IfSome, IfNone, MatchBool}
use Rattle.std.proofs.lemmas.Bool.{cases_lt, true≢false}
use Rattle.std.proofs.lemmas.List.{get_or_append_left, get_or_push}
use Rattle.std.proofs.lemmas.Option.{none-some, slice_get-get_or, slice_get_cases, slice_get_within, get_or_from_slice_get}
use Rattle.hal_base.specs.declared.place.PartState.{PartState}
use Rattle.hal_schema.specs.declared.schema.Schema.{Schema}
use Rattle.volume_image.specs.Control.{HasStates, control_count, control_row, row_in, state_fits}
use Rattle.data_set_pairs.specs.Reading.{HasFirstStates, HasNoStates}

-- an item of a list that one was pushed to is an old one or that one
pushed_is : {X : Type 0} (xs : List X) (y : X) (P : ℕ → X → Type 0) → ((k : ℕ) (x : X) → slice_get xs k ≡ Some x → P k x) → P (length xs) y → (k : ℕ) (x : X) → slice_get (xs ++ y ∷ []) k ≡ Some x → P k x
pushed_is {X} xs y P old new k x is = ⊎_elim low high (cases_lt k (length xs))
  where
    item : get_or (xs ++ y ∷ []) k x ≡ x
    item = get_or_from_slice_get (xs ++ y ∷ []) k x x is

    low : k < length xs → P k x
    low lt = old k x (slice_get-get_or xs k x lt ∙ ap Some (sym (get_or_append_left xs (y ∷ []) x k lt) ∙ item))

    high : length xs ≤ k → P k x
    high le =
        let within = slice_get_within (xs ++ y ∷ []) k x is in
        let last : length xs ≡ k = omega (arith, le, within, length-append xs (y ∷ [])) in
        let same : y ≡ x = sym (get_or_push xs y x k last) ∙ item in
        subst (λ (x : X). P k x) same (subst (λ (k : ℕ). P k y) last new)

-- the states that a row may be that of
abbrev pub IsOnly : Schema → List (List ℕ) → ℕ → PartState → Type 0
IsOnly schema blocks place s = (other : PartState) → IsTrue (state_fits schema place other) → row_in blocks place ≡ control_row other → other ≡ s

pub states_more : (schema : Schema) (blocks : List (List ℕ)) (place : ℕ) (states : List PartState) (s : PartState) → HasFirstStates schema blocks place states → place < length schema.parts → IsTrue (state_fits schema place s) → row_in blocks place ≡ control_row s → IsOnly schema blocks place s → HasFirstStates schema blocks (place + 1) (states ++ s ∷ [])
states_more schema blocks place states s first lt fit row only =
    let many : length states ≡ place = omega (arith, first.many, lt) in
    record {
      many = omega (arith, length-append states (s ∷ []), many, lt);
      fit = pushed_is states s (λ k x. IsTrue (state_fits schema k x)) first.fit (subst (λ (k : ℕ). IsTrue (state_fits schema k s)) (sym many) fit);
      is = pushed_is states s (λ k x. row_in blocks k ≡ control_row x) first.is (ap (row_in blocks) many ∙ row);
      one = pushed_is states s (λ k x. IsOnly schema blocks k x) first.one (subst (λ (k : ℕ). IsOnly schema blocks k s) (sym many) only);
      rest = λ k le below. absurd (omega (arith, le, below, lt));
    }

pub padding_more : (schema : Schema) (blocks : List (List ℕ)) (place : ℕ) (states : List PartState) → HasFirstStates schema blocks place states → length schema.parts ≤ place → row_in blocks place ≡ replicate 128 0 → HasFirstStates schema blocks (place + 1) states
padding_more schema blocks place states first past zeros = record {
  many = omega (arith, first.many, past);
  fit = first.fit;
  is = first.is;
  one = first.one;
  rest = λ k le below. ⊎_elim (λ lt. first.rest k le lt) (λ high. subst (λ (k : ℕ). row_in blocks k ≡ replicate 128 0) (at k below high) zeros) (cases_lt k place);
}
  where
    at : (k : ℕ) → k < place + 1 → place ≤ k → place ≡ k
    at k below high = omega (arith, below, high)

pub padding_wrong : (schema : Schema) (blocks : List (List ℕ)) (place : ℕ) → length schema.parts ≤ place → place < 32 * control_count schema → (row_in blocks place ≡ replicate 128 0 → ⊥) → HasNoStates schema blocks
padding_wrong schema blocks place past below wrong states has = wrong (has.rest place past below)

pub row_wrong : (schema : Schema) (blocks : List (List ℕ)) (place : ℕ) → place < length schema.parts → ((s : PartState) → IsTrue (state_fits schema place s) → row_in blocks place ≡ control_row s → ⊥) → HasNoStates schema blocks
row_wrong schema blocks place lt wrong states has =
    ⊎_elim (λ found. wrong found.0 (has.fit place found.0 found.2) (has.rows place found.0 found.2)) (λ past. absurd (omega (arith, past.0, has.many, lt))) (slice_get_cases states place).1

pub padding_step : (schema : Schema) (blocks : List (List ℕ)) (place : ℕ) (states : List PartState) (row : List ℕ) (good : Bool) → row_in blocks place ≡ row → HasFirstStates schema blocks place states → length schema.parts ≤ place → place < 32 * control_count schema → (good ≡ true → row ≡ replicate 128 0) → (row ≡ replicate 128 0 → good ≡ true) → MatchBool good (HasFirstStates schema blocks (place + 1) states) (HasNoStates schema blocks)
padding_step schema blocks place states row true is first past below to from = padding_more schema blocks place states first past (is ∙ to refl)
padding_step schema blocks place states row false is first past below to from = padding_wrong schema blocks place past below (λ zeros. true≢false (sym (from (sym is ∙ zeros))))

pub state_taken : (schema : Schema) (blocks : List (List ℕ)) (place : ℕ) (states more : List PartState) (row : List ℕ) (o : Option PartState) (s : PartState) → row_in blocks place ≡ row → HasFirstStates schema blocks place states → place < length schema.parts → o ≡ Some s → IfSome o (λ s. row ≡ control_row s) → IfSome o (λ s. IsTrue (state_fits schema place s)) → IfSome o (λ s. (other : PartState) → IsTrue (state_fits schema place other) → row ≡ control_row other → other ≡ s) → more ≡ states ++ s ∷ [] → HasFirstStates schema blocks (place + 1) more
state_taken schema blocks place states more row o s is first lt found row_is fit only pushed =
    let here : row ≡ control_row s = subst (λ (o : Option PartState). IfSome o (λ s. row ≡ control_row s)) found row_is in
    let fits : IsTrue (state_fits schema place s) = subst (λ (o : Option PartState). IfSome o (λ s. IsTrue (state_fits schema place s))) found fit in
    let sole : (other : PartState) → IsTrue (state_fits schema place other) → row ≡ control_row other → other ≡ s = subst (λ (o : Option PartState). IfSome o (λ s. (other : PartState) → IsTrue (state_fits schema place other) → row ≡ control_row other → other ≡ s)) found only in
    subst (λ (l : List PartState). HasFirstStates schema blocks (place + 1) l) (sym pushed) (states_more schema blocks place states s first lt fits (is ∙ here) (λ other fit that. sole other fit (sym is ∙ that)))

pub none_taken : (schema : Schema) (blocks : List (List ℕ)) (place : ℕ) (row : List ℕ) (o : Option PartState) → row_in blocks place ≡ row → place < length schema.parts → o ≡ None → IfNone o ((s : PartState) → IsTrue (state_fits schema place s) → row ≡ control_row s → ⊥) → HasNoStates schema blocks
none_taken schema blocks place row o is lt none wrong =
    let no : (s : PartState) → IsTrue (state_fits schema place s) → row ≡ control_row s → ⊥ = subst (λ (o : Option PartState). IfNone o ((s : PartState) → IsTrue (state_fits schema place s) → row ≡ control_row s → ⊥)) none wrong in
    row_wrong schema blocks place lt (λ s fit here. no s fit (sym is ∙ here))

-- a row within its block
pub row_at : (blocks : List (List ℕ)) (n row : ℕ) (block : List ℕ) → slice_get blocks n ≡ Some block → row < 32 → row_in blocks (32 * n + row) ≡ slice_range block (128 * row) (128 * row + 128)
row_at blocks n row block is low =
    let quotient : (32 * n + row) / 32 ≡ n = omega (arith, low) in
    let remainder : (32 * n + row) % 32 ≡ row = omega (arith, low) in
    ap (λ (k : ℕ). slice_range (get_or blocks k []) (128 * ((32 * n + row) % 32)) (128 * ((32 * n + row) % 32) + 128)) quotient
    ∙ ap (λ (k : ℕ). slice_range (get_or blocks n []) (128 * k) (128 * k + 128)) remainder
    ∙ ap (λ (b : List ℕ). slice_range b (128 * row) (128 * row + 128)) (get_or_from_slice_get blocks n block [] is)

-- nothing has been read
pub no_states : (schema : Schema) (blocks : List (List ℕ)) → HasFirstStates schema blocks 0 []
no_states schema blocks = record {
  many = omega arith;
  fit = λ place s is. absurd (none-some s is);
  is = λ place s is. absurd (none-some s is);
  one = λ place s is. absurd (none-some s is);
  rest = λ place le lt. absurd (omega (arith, lt));
}

-- all rows have been read
pub all_states : (schema : Schema) (blocks : List (List ℕ)) (states : List PartState) → HasFirstStates schema blocks (32 * control_count schema) states → HasStates schema blocks states
all_states schema blocks states first = record { many = omega (arith, first.many); fit = first.fit; rows = first.is; rest = first.rest }

-- and there are no others
same_item : (xs ys : List PartState) → length xs ≡ length ys → ((k : ℕ) (x y : PartState) → slice_get xs k ≡ Some x → slice_get ys k ≡ Some y → x ≡ y) → xs ≡ ys
same_item [] [] many each = refl
same_item [] (y ∷ ys) many each = absurd (omega (arith, many))
same_item (x ∷ xs) [] many each = absurd (omega (arith, many))
same_item (x ∷ xs) (y ∷ ys) many each =
    let first : x ≡ y = each 0 x y refl refl in
    let rest : xs ≡ ys = same_item xs ys (omega (arith, many)) (λ k a b. each (suc k) a b) in
    ap (λ (z : PartState). z ∷ xs) first ∙ ap (λ (l : List PartState). y ∷ l) rest

pub one_list : (schema : Schema) (blocks : List (List ℕ)) (states others : List PartState) → HasFirstStates schema blocks (32 * control_count schema) states → HasStates schema blocks others → others ≡ states
one_list schema blocks states others first has =
    same_item others states (omega (arith, first.many, has.many)) (λ k x y at_x at_y. first.one k y at_y x (has.fit k x at_x) (has.rows k x at_x))

-- what the next control block came to, where the blocks are told
pub told_more : (schema : Schema) (told now : Option (List (List ℕ))) (n at : ℕ) (block : List ℕ) (states more : List PartState) (good : Bool) → now ≡ told → IfSome told (λ list. HasFirstStates schema list (32 * n) states) → at ≡ n → IfSome now (λ list. slice_get list at ≡ Some block) → good ≡ true → ((blocks : List (List ℕ)) → slice_get blocks n ≡ Some block → HasFirstStates schema blocks (32 * n) states → MatchBool good (HasFirstStates schema blocks (32 * n + 32) more) (HasNoStates schema blocks)) → IfSome told (λ list. HasFirstStates schema list (32 * (n + 1)) more)
told_more schema None now n at block states more good same first is got right step = tt
told_more schema (Some list) now n at block states more good same first is got right step =
    let here : slice_get list n ≡ Some block = ap (slice_get list) (sym is) ∙ subst (λ (o : Option (List (List ℕ))). IfSome o (λ list. slice_get list at ≡ Some block)) same got in
    let found = subst (λ (b : Bool). MatchBool b (HasFirstStates schema list (32 * n + 32) more) (HasNoStates schema list)) right (step list here first) in
    let next : 32 * n + 32 ≡ 32 * (n + 1) = omega arith in
    subst (λ (k : ℕ). HasFirstStates schema list k more) next found

pub told_wrong : (schema : Schema) (told now : Option (List (List ℕ))) (n at : ℕ) (block : List ℕ) (states more : List PartState) (good : Bool) → now ≡ told → IfSome told (λ list. HasFirstStates schema list (32 * n) states) → at ≡ n → IfSome now (λ list. slice_get list at ≡ Some block) → good ≡ false → ((blocks : List (List ℕ)) → slice_get blocks n ≡ Some block → HasFirstStates schema blocks (32 * n) states → MatchBool good (HasFirstStates schema blocks (32 * n + 32) more) (HasNoStates schema blocks)) → IfSome told (HasNoStates schema)
told_wrong schema None now n at block states more good same first is got wrong step = tt
told_wrong schema (Some list) now n at block states more good same first is got wrong step =
    let here : slice_get list n ≡ Some block = ap (slice_get list) (sym is) ∙ subst (λ (o : Option (List (List ℕ))). IfSome o (λ list. slice_get list at ≡ Some block)) same got in
    subst (λ (b : Bool). MatchBool b (HasFirstStates schema list (32 * n + 32) more) (HasNoStates schema list)) wrong (step list here first)
