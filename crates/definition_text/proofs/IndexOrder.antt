-- The indexes stand in the text behind their targets, and so in the order of the schema.
use Rattle.std.proofs.Common.{◌≡◌, ℕ, zero, suc, ◌+◌, ◌≤◌, ◌<◌, ◌==◌, Bool, true, false, ◌&&◌, nat_lt, nat_le, cond, List, [], ◌∷◌, ◌++◌, length, filter, Option, None, Some, slice_get, ⊎_elim, refl, sym, ap, arith, ◌∙◌}
use Rattle.std.specs.Prelude.{filter_map, option_and_then}
use Rattle.std.specs.List.{list_all, list_any, enumerate_from, cons_option}
use Rattle.std.specs.Option.{option_map_or}
use Rattle.std.proofs.lemmas.Bool.{and_parts, and_from, or_cases, false≢true, true≢false, eqb-true, leb-true, le-leb, le-ltb, ltb-true, eq-eqb, ne_eqb, cases_lt, lt-ltb}
use Rattle.std.proofs.lemmas.List.Elements.{filter_map-append}
use Rattle.std.proofs.lemmas.Option.{none-some, slice_get_within}
use Rattle.hal_schema.specs.declared.schema.IndexDef.{IndexDef}
use Rattle.hal_schema.specs.declared.schema.SegType.{SegType}
use Rattle.hal_schema.specs.SegType.{parent_code, ancestry_within}
use Rattle.hal_schema.specs.Lawful.{all_rise, is_below_first, parent_is_before, index_is_kept}
use Rattle.hal_schema.specs.Raw.{code_named, index_of, indexes_of, put_in_order, in_order, target_below}
use Rattle.definition_printer.specs.Dbd.{fields_text, index_text}
use Rattle.definition_text.specs.RawDbd.{lines_in, behind_segm, raw_index, raw_over, raw_indexes}
use Rattle.definition_text.proofs.TypesBack.{before_next, line_behind, named_back}
use Rattle.definition_text.proofs.IndexesBack.{AreKnown, source_of, index_back, place_at, weaker}

-- the indexes of one target
abbrev pub over : ℕ → List IndexDef → List IndexDef
over code indexes = filter (λ (i : IndexDef). i.target == code) indexes

-- those of the types from a code on
abbrev pub groups : ℕ → List SegType → List IndexDef → List IndexDef
groups code [] indexes = []
groups code (t ∷ more) indexes = over code indexes ++ groups (code + 1) more indexes

abbrev pub indexes_line : List SegType → ℕ → SegType → ℕ
indexes_line types line t = behind_segm types line t + lines_in (fields_text t.key t.fields)

abbrev pub index_behind : List SegType → ℕ → IndexDef → ℕ
index_behind types line i = line + lines_in (index_text types i)

-- ---- what the raw indexes say

cons_ap : {X : Type 0} (o : Option X) (x : X) (xs ys : List X) → o ≡ Some x → xs ≡ ys → cons_option o xs ≡ x ∷ ys
cons_ap {X = X} o x xs ys e h = ap (λ (o : Option X). cons_option o xs) e ∙ ap (λ (zs : List X). x ∷ zs) h

over_back : (types : List SegType) (code line : ℕ) (name : List ℕ) (indexes : List IndexDef) → AreKnown types → code_named types name ≡ Some code → list_all (index_is_kept types) indexes ≡ true
    → filter_map (index_of types) (raw_over types code name line indexes) ≡ over code indexes
over_back types code line name [] known is kept = refl
over_back types code line name (i ∷ more) known is kept =
    let (here, later) = and_parts (index_is_kept types i) (list_all (index_is_kept types) more) kept in
    by (i.target == code) refl here (over_back types code (index_behind types line i) name more known is later) (over_back types code line name more known is later)
  where
    by : (b : Bool) → (i.target == code) ≡ b → index_is_kept types i ≡ true
        → filter_map (index_of types) (raw_over types code name (index_behind types line i) more) ≡ over code more → filter_map (index_of types) (raw_over types code name line more) ≡ over code more
        → filter_map (index_of types) (cond b (raw_index types name line i ∷ raw_over types code name (index_behind types line i) more) (raw_over types code name line more)) ≡ cond b (i ∷ over code more) (over code more)
    by true e here next same = cons_ap (index_of types (raw_index types name line i)) i _ _ (index_back types code line name i known is (eqb-true i.target code e) here) next
    by false e here next same = same

-- the types from a code on have their codes
abbrev pub HasCodes : List SegType → ℕ → List SegType → Type 0
HasCodes types code ts = (k : ℕ) (t : SegType) → slice_get ts k ≡ Some t → code_named types t.name ≡ Some (code + k)

pub codes_first : (types : List SegType) (code : ℕ) (t : SegType) (ts : List SegType) → HasCodes types code (t ∷ ts) → code_named types t.name ≡ Some code
codes_first types code t ts codes =
    let same : code + 0 ≡ code = omega arith in
    codes zero t refl ∙ ap (λ (n : ℕ). Some n) same

pub codes_rest : (types : List SegType) (code : ℕ) (t : SegType) (ts : List SegType) → HasCodes types code (t ∷ ts) → HasCodes types (code + 1) ts
codes_rest types code t ts codes k u e =
    let same : code + suc k ≡ code + 1 + k = omega arith in
    codes (suc k) u e ∙ ap (λ (n : ℕ). Some n) same

groups_back : (types : List SegType) (indexes : List IndexDef) (code line : ℕ) (ts : List SegType) → AreKnown types → HasCodes types code ts → list_all (index_is_kept types) indexes ≡ true
    → filter_map (index_of types) (raw_indexes types indexes code line ts) ≡ groups code ts indexes
groups_back types indexes code line [] known codes kept = refl
groups_back types indexes code line (t ∷ more) known codes kept =
    let at = indexes_line types line t in
    let behind = line_behind types indexes code line t in
    filter_map-append (index_of types) (raw_over types code t.name at indexes) (raw_indexes types indexes (code + 1) behind more)
    ∙ ap (λ (is : List IndexDef). is ++ filter_map (index_of types) (raw_indexes types indexes (code + 1) behind more)) (over_back types code at t.name indexes known (codes_first types code t more codes) kept)
    ∙ ap (λ (is : List IndexDef). over code indexes ++ is) (groups_back types indexes (code + 1) behind more known (codes_rest types code t more codes) kept)

-- ---- the groups are all indexes, in their order

abbrev no_lower : IndexDef → IndexDef → Bool
no_lower i j = nat_le i.target j.target

over_none : (code : ℕ) (i : IndexDef) (more : List IndexDef) → code < i.target → list_all (no_lower i) more ≡ true → over code more ≡ []
over_none code i [] lt above = refl
over_none code i (j ∷ more) lt above =
    let (here, later) = and_parts (no_lower i j) (list_all (no_lower i) more) above in
    let le = leb-true i.target j.target here in
    let away : (j.target == code) ≡ false = ne_eqb j.target code (λ e. omega (arith, le, lt, e)) in
    ap (λ (b : Bool). cond b (j ∷ over code more) (over code more)) away ∙ over_none code i more lt later

groups_other : (code : ℕ) (i : IndexDef) (more : List IndexDef) (ts : List SegType) → i.target < code → groups code ts (i ∷ more) ≡ groups code ts more
groups_other code i more [] lt = refl
groups_other code i more (t ∷ ts) lt =
    let away : (i.target == code) ≡ false = ne_eqb i.target code (λ e. omega (arith, lt, e)) in
    ap (λ (b : Bool). cond b (i ∷ over code more) (over code more) ++ groups (code + 1) ts (i ∷ more)) away
    ∙ ap (λ (is : List IndexDef). over code more ++ is) (groups_other (code + 1) i more ts (omega (arith, lt)))

groups_first : (code : ℕ) (i : IndexDef) (more : List IndexDef) (ts : List SegType) → code ≤ i.target → i.target < code + length ts → list_all (no_lower i) more ≡ true → groups code ts (i ∷ more) ≡ i ∷ groups code ts more
groups_first code i more [] low high above = absurd (omega (arith, low, high))
groups_first code i more (t ∷ ts) low high above = by (i.target == code) refl (λ lt. groups_first (code + 1) i more ts (omega (arith, lt)) (omega (arith, high)) above)
  where
    differs : (i.target == code) ≡ false → code < i.target
    differs e = ⊎_elim (λ lt. lt) (λ le. let same : i.target ≡ code = omega (arith, low, le) in absurd (true≢false (sym (eq-eqb i.target code same) ∙ e))) (cases_lt code i.target)

    by : (b : Bool) → (i.target == code) ≡ b → (code < i.target → groups (code + 1) ts (i ∷ more) ≡ i ∷ groups (code + 1) ts more)
        → cond b (i ∷ over code more) (over code more) ++ groups (code + 1) ts (i ∷ more) ≡ i ∷ (over code more ++ groups (code + 1) ts more)
    by true e next =
        let same = eqb-true i.target code e in
        ap (λ (is : List IndexDef). i ∷ (over code more ++ is)) (groups_other (code + 1) i more ts (omega (arith, same)))
    by false e next =
        let none = over_none code i more (differs e) above in
        ap (λ (is : List IndexDef). is ++ groups (code + 1) ts (i ∷ more)) none ∙ next (differs e) ∙ ap (λ (is : List IndexDef). i ∷ (is ++ groups (code + 1) ts more)) (sym none)

groups_none : (code : ℕ) (ts : List SegType) → groups code ts [] ≡ []
groups_none code [] = refl
groups_none code (t ∷ ts) = groups_none (code + 1) ts

rise_above : (n : ℕ) (i : IndexDef) (more : List IndexDef) → n ≤ i.target → all_rise no_lower (i ∷ more) ≡ true → list_all (λ (j : IndexDef). nat_le n j.target) more ≡ true
rise_above n i [] le rise = refl
rise_above n i (j ∷ more) le rise =
    let (first, later) = and_parts (no_lower i j) (all_rise no_lower (j ∷ more)) rise in
    let next = leb-true i.target j.target first in
    let far : n ≤ j.target = omega (arith, le, next) in
    and_from (nat_le n j.target) (list_all (λ (j : IndexDef). nat_le n j.target) more) (le-leb n j.target far) (rise_above n j more far later)

rise_later : (i : IndexDef) (more : List IndexDef) → all_rise no_lower (i ∷ more) ≡ true → all_rise no_lower more ≡ true
rise_later i more h = (and_parts (is_below_first no_lower i more) (all_rise no_lower more) h).1

abbrev pub in_range : List SegType → IndexDef → Bool
in_range types i = nat_lt 0 i.target && nat_le i.target (length types)

groups_all : (ts : List SegType) (indexes : List IndexDef) → all_rise no_lower indexes ≡ true → list_all (in_range ts) indexes ≡ true → groups 1 ts indexes ≡ indexes
groups_all ts [] rise within = groups_none 1 ts
groups_all ts (i ∷ more) rise within =
    let (here, later) = and_parts (in_range ts i) (list_all (in_range ts) more) within in
    let (some, few) = and_parts (nat_lt 0 i.target) (nat_le i.target (length ts)) here in
    let low = ltb-true 0 i.target some in
    let high = leb-true i.target (length ts) few in
    groups_first 1 i more ts (omega (arith, low)) (omega (arith, high)) (rise_above i.target i more (omega arith) rise)
    ∙ ap (λ (is : List IndexDef). i ∷ is) (groups_all ts more (rise_later i more rise) later)

put_first : (i j : IndexDef) (more : List IndexDef) → no_lower i j ≡ true → put_in_order target_below i (j ∷ more) ≡ i ∷ j ∷ more
put_first i j more h =
    let le = leb-true i.target j.target h in
    ap (λ (b : Bool). cond b (j ∷ put_in_order target_below i more) (i ∷ j ∷ more)) (le-ltb j.target i.target le)

in_place : (indexes : List IndexDef) → all_rise no_lower indexes ≡ true → in_order target_below indexes ≡ indexes
in_place [] h = refl
in_place (i ∷ []) h = refl
in_place (i ∷ j ∷ more) h =
    let (first, later) = and_parts (no_lower i j) (all_rise no_lower (j ∷ more)) h in
    ap (put_in_order target_below i) (in_place (j ∷ more) later) ∙ put_first i j more first

-- ---- a target is a type

record IsCode (types : List SegType) (code : ℕ) : Type 0 where
  pub some : 0 < code
  pub within : code ≤ length types

parent_before : (types : List SegType) (code p : ℕ) → list_all before_next (enumerate_from 1 types) ≡ true → parent_code types code ≡ Some p → (0 < p) × (p < code)
parent_before types zero p before e = absurd (none-some p e)
parent_before types (suc k) p before e = by (slice_get types k) refl e
  where
    by : (o : Option SegType) → slice_get types k ≡ o → option_and_then (λ (t : SegType). t.parent) o ≡ Some p → (0 < p) × (p < suc k)
    by None f e = absurd (none-some p e)
    by (Some t) f e =
        let kept : parent_is_before (1 + k) t.parent ≡ true = place_at before_next 1 types k t before f in
        let told : parent_is_before (1 + k) (Some p) ≡ true = ap (parent_is_before (1 + k)) (sym e) ∙ kept in
        let (some, low) = and_parts (nat_lt 0 p) (nat_lt p (1 + k)) told in
        let lt = ltb-true p (1 + k) low in
        (ltb-true 0 p some, omega (arith, lt))

above_is : (types : List SegType) (most code target : ℕ) → list_all before_next (enumerate_from 1 types) ≡ true → 0 < code → code ≤ length types
    → list_any (λ (c : ℕ). c == target) (ancestry_within most (parent_code types) code) ≡ true → IsCode types target
above_is types zero code target before some within h = absurd (false≢true h)
above_is types (suc most) code target before some within h =
    ⊎_elim here (λ later. up (parent_code types code) refl (λ p e f. let (low, high) = parent_before types code p before e in above_is types most p target before low (omega (arith, high, within)) f) later)
    (or_cases (code == target) (list_any (λ (c : ℕ). c == target) (option_map_or (ancestry_within most (parent_code types)) (parent_code types code) [])) h)
  where
    here : (code == target) ≡ true → IsCode types target
    here e =
        let same = eqb-true code target e in
        record { some = omega (arith, some, same); within = omega (arith, within, same) }

    up : (o : Option ℕ) → parent_code types code ≡ o → ((p : ℕ) → parent_code types code ≡ Some p → list_any (λ (c : ℕ). c == target) (ancestry_within most (parent_code types) p) ≡ true → IsCode types target)
        → list_any (λ (c : ℕ). c == target) (option_map_or (ancestry_within most (parent_code types)) o []) ≡ true → IsCode types target
    up None e next h = absurd (false≢true h)
    up (Some p) e next h = next p e h

range_of : (types : List SegType) (i : IndexDef) → AreKnown types → index_is_kept types i ≡ true → in_range types i ≡ true
range_of types i known kept =
    let s = source_of types i kept in
    let within = slice_get_within types s.place s.type s.is in
    let is = above_is types i.source i.source i.target known.before (omega (arith, s.source)) (omega (arith, s.source, within)) s.target in
    and_from (nat_lt 0 i.target) (nat_le i.target (length types)) (lt-ltb 0 i.target is.some) (le-leb i.target (length types) is.within)

-- ---- all of them

pub codes_of : (types : List SegType) → AreKnown types → HasCodes types 1 types
codes_of types known k t e =
    let same : k + 1 ≡ 1 + k = omega arith in
    named_back types k t known.differ e ∙ ap (λ (n : ℕ). Some n) same

pub groups_same : (types : List SegType) (indexes : List IndexDef) → AreKnown types → list_all (index_is_kept types) indexes ≡ true → all_rise no_lower indexes ≡ true → groups 1 types indexes ≡ indexes
groups_same types indexes known kept rise = groups_all types indexes rise (weaker (index_is_kept types) (in_range types) (λ i h. range_of types i known h) indexes kept)

pub indexes_back : (types : List SegType) (indexes : List IndexDef) (line : ℕ) → AreKnown types → list_all (index_is_kept types) indexes ≡ true → all_rise no_lower indexes ≡ true
    → indexes_of types (raw_indexes types indexes 1 line types) ≡ indexes
indexes_back types indexes line known kept rise =
    ap (in_order target_below) (groups_back types indexes 1 line types known (codes_of types known) kept ∙ groups_same types indexes known kept rise) ∙ in_place indexes rise
