-- What a GU finds whose first SSA asks for one root key: something of that root's record.
use Rattle.std.proofs.Common.{◌≡◌, ℕ, ◌+◌, ◌==◌, ◌<◌, ◌≤◌, Bool, true, false, not, cond, ◌&&◌, ◌||◌, List, [], ◌∷◌, ◌++◌, length, Option, None, Some, refl, sym, ap, subst, ◌∙◌, arith}
use Rattle.std.specs.Prelude.{find, nat_lt, option_and_then, All, IfSome}
use Rattle.std.specs.List.{count_by, list_all, last_or, slice_get}
use Rattle.std.specs.Option.{option_map_or}
use Rattle.std.specs.Ordering.{is_lt}
use Rattle.std.specs.declared.cmp.Ordering.TheVariants.{Equal}
use Rattle.std.specs.Str.{bytes_eq}
use Rattle.std.proofs.lemmas.Bool.{true≢false, false_from_ne_true, and_parts, and_right, eqb-true, eq-eqb, ltb-true, lt-ltb, le-ltb}
use Rattle.std.proofs.lemmas.Cmp.{then_total, on_total, nat_cmp_total, nat_list_cmp_total, tied_itself}
use Rattle.std.proofs.lemmas.List.Elements.{All-nil, All-cons}
use Rattle.std.proofs.lemmas.List.Folds.{list_all-append}
use Rattle.std.proofs.lemmas.List.Sums.{sum_by-append, sum_by-cons}
use Rattle.std.proofs.lemmas.Slice.Eq.{bytes_eq-Decides}
use Rattle.hal_schema.specs.declared.row.Row.{Row}
use Rattle.hal_schema.specs.declared.schema.Schema.{Schema}
use Rattle.hal_schema.specs.declared.schema.SegType.{SegType}
use Rattle.hal_schema.specs.Forest.{all_pairs}
use Rattle.hal_schema.specs.Paths.{path_with, with_paths}
use Rattle.hal_schema.specs.Roots.{anchor_place, partition_place, root_cmp}
use Rattle.call_text.specs.declared.line.Call.{Call}
use Rattle.call_text.specs.declared.line.Ssa.{Ssa}
use Rattle.position_state.specs.declared.spot.Spot.{Spot}
use Rattle.position_state.specs.View.{behind, root_named}
use Rattle.position_state.specs.Looks.{WalkView, first_behind, root_of_key}
use Rattle.dli_calls.specs.Ssas.{code_named}
use Rattle.dli_calls.specs.Meets.{holds_on, is_of, meets, on_paths, ssa_holds}
use Rattle.dli_calls.specs.Gets.{OnPath, is_unique}
use Rattle.view_laws.specs.Views.{goes_down, in_root_order, is_keyed, stand_together}
use Rattle.call_gets.specs.Keyed.{goes_below, keyed_path, met_in_record, root_wanted, rows_under}
use Rattle.call_gets.specs.Scan.{AllGoDown, AreFound, IsFound, LooksWithin, first_inside, from_on, inside_ahead, plain_view}
use Rattle.call_gets.proofs.ByKey.{Wants, holds_by_key, wants}
use Rattle.call_gets.proofs.Looking.{where_told}
use Rattle.call_gets.proofs.Rooted.{deep_of, is_root, key_alone, key_on, key_stays, keyed_next, level_off, root_alone, root_of}
use Rattle.call_gets.proofs.Skipping.{all_on, level}
use Rattle.call_gets.proofs.Stepping.{Differ, ends_any, next_of, place_parts}

-- ---- the first SSA on a path

holds_first : (schema : Schema) (view : List Spot) (ssa : Ssa) (key : List ℕ) (path : List Spot) → Wants schema ssa key → list_all (is_keyed schema.types) path ≡ true
    → option_map_or (ssa_holds schema None view ssa) (find is_root path) false ≡ key_on key path
holds_first schema view ssa key [] w h = refl
holds_first schema view ssa key (x ∷ xs) w h =
    let a = and_parts (is_keyed schema.types x) (list_all (is_keyed schema.types) xs) h in
    by (is_root x) refl a.0 (holds_first schema view ssa key xs w a.1)
  where
    by : (b : Bool) → is_root x ≡ b → is_keyed schema.types x ≡ true → option_map_or (ssa_holds schema None view ssa) (find is_root xs) false ≡ key_on key xs
        → option_map_or (ssa_holds schema None view ssa) (cond b (Some x) (find is_root xs)) false ≡ option_map_or (λ (r : Spot). bytes_eq r.key key) (cond b (Some x) (find is_root xs)) false
    by true e k rest = holds_by_key schema view ssa key x w (eqb-true x.code 1 e) (root_of schema.types x k e).own
    by false e k rest = rest

-- where the root of a path has another key nothing on it meets the SSAs
abbrev Fails : Schema → List ℕ → (OnPath → Bool) → Type 0
Fails schema key test = (path : List Spot) (x : Spot) → list_all (is_keyed schema.types) path ≡ true → key_on key path ≡ false → test (path, x) ≡ false

fails_by : (schema : Schema) (view : List Spot) (ssa : Ssa) (more : List Ssa) (key : List ℕ) → Wants schema ssa key → Fails schema key (meets schema None view (ssa ∷ more))
fails_by schema view ssa more key w = λ path x h off.
    let first : holds_on schema None view path ssa ≡ false =
    ap (λ (o : Option ℕ). option_map_or (λ code. option_map_or (ssa_holds schema None view ssa) (find (λ (spot : Spot). spot.code == code) path) false) o false) w.code ∙ holds_first schema view ssa key path w h ∙ off in
    and_right (option_map_or (is_of schema x) (last_or None (ssa ∷ more)) true) (holds_on schema None view path ssa && list_all (holds_on schema None view path) more)
    (ap (λ b. b && list_all (holds_on schema None view path) more) first)

-- ---- outside the record

record IsOff (key : List ℕ) (path : List Spot) (x : Spot) (xs : List Spot) : Type 0 where
  off : key_on key (path_with level path x) ≡ false
  none : root_of_key key xs ≡ None

none_parts : (b : Bool) (x : Spot) (o : Option Spot) → cond b (Some x) o ≡ None → (b ≡ false) × (o ≡ None)
none_parts true x o e = absurd (let no : ⊥ = cc in no)
none_parts false x o e = (refl, e)

off_root : (types : List SegType) (key : List ℕ) (path : List Spot) (x : Spot) (xs : List Spot) → list_all (is_keyed types) path ≡ true → is_keyed types x ≡ true → is_root x ≡ true → root_of_key key (x ∷ xs) ≡ None → IsOff key path x xs
off_root types key path x xs h k e none =
    let r = root_of types x k e in
    let p = none_parts (x.level == 1 && bytes_eq x.key key) x (root_of_key key xs) none in
    record {
      off = ap (key_on key) (root_alone types path x h r.level) ∙ key_alone key x e ∙ ap (λ b. b && bytes_eq x.key key) (sym (eq-eqb x.level 1 r.level)) ∙ p.0;
      none = p.1;
    }

none_deep : (key : List ℕ) (x : Spot) (xs : List Spot) → 1 < x.level → root_of_key key (x ∷ xs) ≡ root_of_key key xs
none_deep key x xs lt = ap (λ b. cond (b && bytes_eq x.key key) (Some x) (root_of_key key xs)) (level_off x lt)

off_next : (types : List SegType) (key : List ℕ) (path : List Spot) (x : Spot) (xs : List Spot) → list_all (is_keyed types) path ≡ true → is_keyed types x ≡ true → key_on key path ≡ false → root_of_key key (x ∷ xs) ≡ None → IsOff key path x xs
off_next types key path x xs h k f none = by (is_root x) refl
  where
    by : (b : Bool) → is_root x ≡ b → IsOff key path x xs
    by true e = off_root types key path x xs h k e none
    by false e =
        let lt : 1 < x.level = deep_of types x k e in
        record { off = key_stays types key path x h e lt ∙ f; none = sym (none_deep key x xs lt) ∙ none }

none_met : (schema : Schema) (key : List ℕ) (test : OnPath → Bool) → Fails schema key test → (path ys : List Spot) → list_all (is_keyed schema.types) path ≡ true → list_all (is_keyed schema.types) ys ≡ true → key_on key path ≡ false → root_of_key key ys ≡ None
    → find test (with_paths level path ys) ≡ None
none_met schema key test fails path [] h k f none = refl
none_met schema key test fails path (x ∷ xs) h k f none =
    let a = and_parts (is_keyed schema.types x) (list_all (is_keyed schema.types) xs) k in
    let next : List Spot = path_with level path x in
    let o = off_next schema.types key path x xs h a.0 f none in
    let q = keyed_next schema.types path x h a.0 in
    ap (λ b. cond b (Some (next, x)) (find test (with_paths level next xs))) (fails next x q o.off) ∙ none_met schema key test fails next xs q a.1 o.off o.none

-- ---- in the record

met_inside : (schema : Schema) (key : List ℕ) (test : OnPath → Bool) → Fails schema key test → (path ys : List Spot) → list_all (is_keyed schema.types) path ≡ true → list_all (is_keyed schema.types) ys ≡ true → root_of_key key ys ≡ None
    → find test (with_paths level path ys) ≡ first_inside (Some 1) test (with_paths level path ys)
met_inside schema key test fails path [] h k none = refl
met_inside schema key test fails path (x ∷ xs) h k none =
    let a = and_parts (is_keyed schema.types x) (list_all (is_keyed schema.types) xs) k in
    let q = keyed_next schema.types path x h a.0 in
    by (is_root x) refl a.0 a.1 q (λ n. met_inside schema key test fails (path_with level path x) xs q a.1 n)
  where
    next : List Spot
    next = path_with level path x

    rest : List OnPath
    rest = with_paths level next xs

    by : (b : Bool) → is_root x ≡ b → is_keyed schema.types x ≡ true → list_all (is_keyed schema.types) xs ≡ true → list_all (is_keyed schema.types) next ≡ true
        → (root_of_key key xs ≡ None → find test rest ≡ first_inside (Some 1) test rest)
        → cond (test (next, x)) (Some (next, x)) (find test rest) ≡ cond (not (nat_lt 1 x.level)) None (cond (test (next, x)) (Some (next, x)) (first_inside (Some 1) test rest))
    by true e kx ks q goes =
        let o = off_root schema.types key path x xs h kx e none in
        ap (λ b. cond b (Some (next, x)) (find test rest)) (fails next x q o.off) ∙ none_met schema key test fails next xs q ks o.off o.none
        ∙ ap (λ b. cond (not b) None (cond (test (next, x)) (Some (next, x)) (first_inside (Some 1) test rest))) (sym (le-ltb 1 x.level (omega (arith, (root_of schema.types x kx e).level))))
    by false e kx ks q goes =
        let lt : 1 < x.level = deep_of schema.types x kx e in
        ap (λ (o : Option OnPath). cond (test (next, x)) (Some (next, x)) o) (goes (sym (none_deep key x xs lt) ∙ none))
        ∙ ap (λ b. cond (not b) None (cond (test (next, x)) (Some (next, x)) (first_inside (Some 1) test rest))) (sym (lt-ltb 1 x.level lt))

-- ---- no other root has its key

cmp_itself : (schema : Schema) (k : List ℕ) → root_cmp schema k k ≡ Equal
cmp_itself schema k = tied_itself (then_total (on_total (partition_place schema) nat_cmp_total) (then_total (on_total (anchor_place schema) nat_cmp_total) nat_list_cmp_total)) k

apart_none : (schema : Schema) (key : List ℕ) (x : Spot) (ys : List Spot) → is_root x ≡ true → bytes_eq x.key key ≡ true → list_all (is_keyed schema.types) ys ≡ true → list_all (in_root_order schema x) ys ≡ true → root_of_key key ys ≡ None
apart_none schema key x [] e m k r = refl
apart_none schema key x (y ∷ ys) e m k r =
    let a = and_parts (is_keyed schema.types y) (list_all (is_keyed schema.types) ys) k in
    let p = and_parts (in_root_order schema x y) (list_all (in_root_order schema x) ys) r in
    by (is_root y) refl a.0 p.0 (apart_none schema key x ys e m a.1 p.1)
  where
    by : (b : Bool) → is_root y ≡ b → is_keyed schema.types y ≡ true → in_root_order schema x y ≡ true → root_of_key key ys ≡ None → root_of_key key (y ∷ ys) ≡ None
    by true f ky o rest =
        let rises : is_lt (root_cmp schema x.key y.key) ≡ true =
        ap (λ b. not b || is_lt (root_cmp schema x.key y.key)) (sym f) ∙ ap (λ b. not (b && is_root y) || is_lt (root_cmp schema x.key y.key)) (sym e) ∙ o in
        let off : bytes_eq y.key key ≡ false =
        false_from_ne_true (bytes_eq y.key key) (λ t.
        let same : y.key ≡ x.key = (bytes_eq-Decides y.key key).0 t ∙ sym ((bytes_eq-Decides x.key key).0 m) in
        true≢false (sym rises ∙ ap (λ k. is_lt (root_cmp schema x.key k)) same ∙ ap is_lt (cmp_itself schema x.key))) in
        ap (λ b. cond b (Some y) (root_of_key key ys)) (and_right (y.level == 1) (bytes_eq y.key key) off) ∙ rest
    by false f ky o rest = none_deep key y ys (deep_of schema.types y ky f) ∙ rest

-- ---- the record of the root with the key

record InRecord (test : OnPath → Bool) (path ys : List Spot) (r : Spot) : Type 0 where
  front : List Spot
  rest : List Spot
  is : ys ≡ front ++ r ∷ rest
  met : find test (with_paths level path ys) ≡ first_inside (Some 1) test (with_paths level (r ∷ []) rest)

abbrev IsNoRoot : (OnPath → Bool) → Type 0
IsNoRoot test = (x : Spot) → is_root x ≡ true → test (x ∷ [], x) ≡ false

in_record : (schema : Schema) (key : List ℕ) (test : OnPath → Bool) → Fails schema key test → IsNoRoot test → (path ys : List Spot) (r : Spot) → list_all (is_keyed schema.types) path ≡ true → list_all (is_keyed schema.types) ys ≡ true
    → all_pairs (in_root_order schema) ys ≡ true → key_on key path ≡ false → root_of_key key ys ≡ Some r → InRecord test path ys r
in_record schema key test fails low path [] r h k o f e = absurd (let no : ⊥ = cc in no)
in_record schema key test fails low path (x ∷ xs) r h k o f e =
    let a = and_parts (is_keyed schema.types x) (list_all (is_keyed schema.types) xs) k in
    let p = and_parts (list_all (in_root_order schema x) xs) (all_pairs (in_root_order schema) xs) o in
    let q = keyed_next schema.types path x h a.0 in
    by (is_root x) (bytes_eq x.key key) refl refl a.0 a.1 p.0 q (λ off one. in_record schema key test fails low (path_with level path x) xs r q a.1 p.1 off one)
  where
    next : List Spot
    next = path_with level path x

    -- it stands behind this element
    later : key_on key next ≡ false → list_all (is_keyed schema.types) next ≡ true → InRecord test next xs r → InRecord test path (x ∷ xs) r
    later off q i = record {
      front = x ∷ i.front;
      rest = i.rest;
      is = ap (λ (zs : List Spot). x ∷ zs) i.is;
      met = ap (λ b. cond b (Some (next, x)) (find test (with_paths level next xs))) (fails next x q off) ∙ i.met;
    }

    by : (b c : Bool) → is_root x ≡ b → bytes_eq x.key key ≡ c → is_keyed schema.types x ≡ true → list_all (is_keyed schema.types) xs ≡ true → list_all (in_root_order schema x) xs ≡ true → list_all (is_keyed schema.types) next ≡ true
        → (key_on key next ≡ false → root_of_key key xs ≡ Some r → InRecord test next xs r) → InRecord test path (x ∷ xs) r
    by true true g m kx ks rises q goes =
        let one : x.level ≡ 1 = (root_of schema.types x kx g).level in
        let same : x ≡ r = let here : Some x ≡ Some r = ap (λ b. cond b (Some x) (root_of_key key xs)) (sym (ap (λ b. b && bytes_eq x.key key) (eq-eqb x.level 1 one) ∙ m)) ∙ e in cc in
        let alone : next ≡ x ∷ [] = root_alone schema.types path x h one in
        record {
          front = [];
          rest = xs;
          is = ap (λ (t : Spot). t ∷ xs) same;
          met = ap (λ (ys : List Spot). cond (test (ys, x)) (Some (ys, x)) (find test (with_paths level ys xs))) alone
              ∙ ap (λ b. cond b (Some (x ∷ [], x)) (find test (with_paths level (x ∷ []) xs))) (low x g)
              ∙ met_inside schema key test fails (x ∷ []) xs (ap (λ b. b && true) kx) ks (apart_none schema key x xs g m ks rises)
              ∙ ap (λ (t : Spot). first_inside (Some 1) test (with_paths level (t ∷ []) xs)) same;
        }
    by true false g m kx ks rises q goes =
        let off : key_on key next ≡ false = ap (key_on key) (root_alone schema.types path x h (root_of schema.types x kx g).level) ∙ key_alone key x g ∙ m in
        later off q (goes off (ap (λ b. cond b (Some x) (root_of_key key xs)) (sym (and_right (x.level == 1) (bytes_eq x.key key) m)) ∙ e))
    by false c g m kx ks rises q goes =
        let lt : 1 < x.level = deep_of schema.types x kx g in
        let off : key_on key next ≡ false = key_stays schema.types key path x h g lt ∙ f in
        later off q (goes off (sym (none_deep key x xs lt) ∙ e))

-- ---- the call

first_is : (ssas : List Ssa) (ssa : Ssa) → slice_get ssas 0 ≡ Some ssa → (more : List Ssa) × (ssas ≡ ssa ∷ more)
first_is [] ssa e = absurd (let no : ⊥ = cc in no)
first_is (x ∷ more) ssa e = let same : x ≡ ssa = cc in (more, ap (λ (y : Ssa). y ∷ more) same)

-- the root isn't of the last SSA's type
last_below : (schema : Schema) (view : List Spot) (ssas : List Ssa) → goes_below schema ssas ≡ true → IsNoRoot (meets schema None view ssas)
last_below schema view ssas h = λ x e. by x e (last_or None ssas) h
  where
    by : (x : Spot) → is_root x ≡ true → (o : Option Ssa) → option_map_or (λ (ssa : Ssa). option_map_or (λ code. nat_lt 1 code) (code_named schema ssa.seg) false) o false ≡ true
        → (option_map_or (is_of schema x) o true && list_all (holds_on schema None view (x ∷ [])) ssas) ≡ false
    by x e None k = absurd (let no : ⊥ = cc in no)
    by x e (Some ssa) k = ap (λ b. b && list_all (holds_on schema None view (x ∷ [])) ssas) (of_low (code_named schema ssa.seg) k)
      where
        of_low : (o : Option ℕ) → option_map_or (λ code. nat_lt 1 code) o false ≡ true → option_map_or (λ code. code == x.code) o false ≡ false
        of_low None m = absurd (let no : ⊥ = cc in no)
        of_low (Some code) m = false_from_ne_true (code == x.code) (λ t. omega (arith, eqb-true code x.code t, eqb-true x.code 1 e, ltb-true 1 code m))

record Asks (schema : Schema) (call : Call) (key : List ℕ) : Type 0 where
  below : goes_below schema call.ssas ≡ true
  ssa : Ssa
  more : List Ssa
  is : call.ssas ≡ ssa ∷ more
  wanted : root_wanted schema ssa ≡ Some key

asks : (schema : Schema) (call : Call) (key : List ℕ) → keyed_path schema call ≡ Some key → Asks schema call key
asks schema call key e = by (is_unique call && goes_below schema call.ssas) refl e
  where
    second : (o : Option Ssa) → slice_get call.ssas 0 ≡ o → goes_below schema call.ssas ≡ true → option_and_then (root_wanted schema) o ≡ Some key → Asks schema call key
    second None s b k = absurd (let no : ⊥ = cc in no)
    second (Some ssa) s b k = let f = first_is call.ssas ssa s in record { below = b; ssa = ssa; more = f.0; is = f.1; wanted = k }

    by : (b : Bool) → (is_unique call && goes_below schema call.ssas) ≡ b → cond b (option_and_then (root_wanted schema) (slice_get call.ssas 0)) None ≡ Some key → Asks schema call key
    by true h k = second (slice_get call.ssas 0) refl (and_parts (is_unique call) (goes_below schema call.ssas) h).1 k
    by false h k = absurd (let no : ⊥ = cc in no)

pub found_in_record : (schema : Schema) (view : List Spot) (call : Call) (key : List ℕ) → keyed_path schema call ≡ Some key → list_all (is_keyed schema.types) view ≡ true → all_pairs (in_root_order schema) view ≡ true → Differ view
    → met_in_record schema call.ssas key view ≡ find (meets schema None view call.ssas) (on_paths view)
found_in_record schema view call key e h o d =
    let a = asks schema call key e in
    let fails : Fails schema key (meets schema None view call.ssas) = subst (λ (ssas : List Ssa). Fails schema key (meets schema None view ssas)) (sym a.is) (fails_by schema view a.ssa a.more key (wants schema a.ssa key a.wanted)) in
    by fails (last_below schema view call.ssas a.below) (root_of_key key view) refl
  where
    test : OnPath → Bool
    test = meets schema None view call.ssas

    by : Fails schema key test → IsNoRoot test → (r : Option Spot) → root_of_key key view ≡ r
        → option_and_then (λ (root : Spot). first_inside (Some 1) test (with_paths level (root ∷ []) (from_on view (first_behind root.at view)))) (root_of_key key view) ≡ find test (on_paths view)
    by fails low None s = ap (option_and_then (λ (root : Spot). first_inside (Some 1) test (with_paths level (root ∷ []) (from_on view (first_behind root.at view))))) s ∙ sym (none_met schema key test fails [] view refl h refl s)
    by fails low (Some r) s =
        let i = in_record schema key test fails low [] view r refl h o refl s in
        let follows : behind r.at view ≡ i.rest = (d i.front i.rest r i.is).follows in
        ap (option_and_then (λ (root : Spot). first_inside (Some 1) test (with_paths level (root ∷ []) (from_on view (first_behind root.at view))))) s
        ∙ ap (λ (ys : List Spot). first_inside (Some 1) test (with_paths level (r ∷ []) ys)) (sym (next_of view (behind r.at view) d (ends_any view r.at)).is ∙ follows)
        ∙ sym i.met

-- ---- the rows of the record

abbrev pub is_under : List ℕ → Spot → Bool
is_under key spot = bytes_eq (root_named spot.at) key

one_under : (key : List ℕ) (x : Spot) (xs : List Spot) → is_under key x ≡ true → count_by (is_under key) (x ∷ xs) ≡ 1 + count_by (is_under key) xs
one_under key x xs e = sum_by-cons (λ x. cond (is_under key x) 1 0) x xs ∙ ap (λ b. cond b 1 0 + count_by (is_under key) xs) e

-- what a scan below a root may stand at is under that root
pub ahead_under : (types : List SegType) (root : List ℕ) (ys : List Spot) → list_all (is_keyed types) ys ≡ true → stand_together root ys ≡ true → inside_ahead (Some 1) ys ≤ count_by (is_under root) ys
ahead_under types root [] h k = omega arith
ahead_under types root (x ∷ xs) h k =
    let a = and_parts (is_keyed types x) (list_all (is_keyed types) xs) h in
    let p = and_parts (is_root x || is_under root x) (stand_together (root_named x.at) xs) k in
    by (is_root x) refl a.0 p.0 (λ e. ahead_under types root xs a.1 (ap (λ key. stand_together key xs) (sym e) ∙ p.1))
  where
    by : (b : Bool) → is_root x ≡ b → is_keyed types x ≡ true → (is_root x || is_under root x) ≡ true → (root_named x.at ≡ root → inside_ahead (Some 1) xs ≤ count_by (is_under root) xs)
        → cond (nat_lt 1 x.level) (1 + inside_ahead (Some 1) xs) 0 ≤ count_by (is_under root) (x ∷ xs)
    by true e kx u rest =
        let off : nat_lt 1 x.level ≡ false = le-ltb 1 x.level (omega (arith, (root_of types x kx e).level)) in
        let none : cond (nat_lt 1 x.level) (1 + inside_ahead (Some 1) xs) 0 ≡ 0 = ap (λ b. cond b (1 + inside_ahead (Some 1) xs) 0) off in
        omega (arith, none)
    by false e kx u rest =
        let on : is_under root x ≡ true = ap (λ b. b || is_under root x) (sym e) ∙ u in
        let some : cond (nat_lt 1 x.level) (1 + inside_ahead (Some 1) xs) 0 ≡ 1 + inside_ahead (Some 1) xs = ap (λ b. cond b (1 + inside_ahead (Some 1) xs) 0) (lt-ltb 1 x.level (deep_of types x kx e)) in
        omega (arith, some, one_under root x xs on, rest ((bytes_eq-Decides (root_named x.at) root).0 on))

together_after : (root : List ℕ) (front rest : List Spot) (r : Spot) → stand_together root (front ++ r ∷ rest) ≡ true → stand_together (root_named r.at) rest ≡ true
together_after root [] rest r h = (and_parts (is_root r || is_under root r) (stand_together (root_named r.at) rest) h).1
together_after root (x ∷ front) rest r h = together_after (root_named x.at) front rest r (and_parts (is_root x || is_under root x) (stand_together (root_named x.at) (front ++ r ∷ rest)) h).1

record RootParts (key : List ℕ) (ys : List Spot) (r : Spot) : Type 0 where
  front : List Spot
  rest : List Spot
  is : ys ≡ front ++ r ∷ rest
  level : r.level ≡ 1
  own : r.key ≡ key

root_parts : (key : List ℕ) (ys : List Spot) (r : Spot) → root_of_key key ys ≡ Some r → RootParts key ys r
root_parts key [] r e = absurd (let no : ⊥ = cc in no)
root_parts key (x ∷ xs) r e = by (x.level == 1 && bytes_eq x.key key) refl (root_parts key xs r) e
  where
    by : (b : Bool) → (x.level == 1 && bytes_eq x.key key) ≡ b → (root_of_key key xs ≡ Some r → RootParts key xs r) → cond b (Some x) (root_of_key key xs) ≡ Some r → RootParts key (x ∷ xs) r
    by true h rest k =
        let same : x ≡ r = cc in
        let a = and_parts (x.level == 1) (bytes_eq x.key key) h in
        record {
          front = [];
          rest = xs;
          is = ap (λ (t : Spot). t ∷ xs) same;
          level = ap (λ (t : Spot). t.level) (sym same) ∙ eqb-true x.level 1 a.0;
          own = ap (λ (t : Spot). t.key) (sym same) ∙ (bytes_eq-Decides x.key key).0 a.1;
        }
    by false h rest k = let i = rest k in record { front = x ∷ i.front; rest = i.rest; is = ap (λ (zs : List Spot). x ∷ zs) i.is; level = i.level; own = i.own }

pub record_bound : (schema : Schema) (view : List Spot) (key : List ℕ) (r : Spot) → Differ view → list_all (is_keyed schema.types) view ≡ true → stand_together [] view ≡ true → root_of_key key view ≡ Some r
    → inside_ahead (Some 1) (from_on view (first_behind r.at view)) ≤ rows_under key view
record_bound schema view key r d h t e =
    let types : List SegType = schema.types in
    let i = root_parts key view r e in
    let a = and_parts (list_all (is_keyed types) i.front) (is_keyed types r && list_all (is_keyed types) i.rest) (sym (list_all-append (is_keyed types) i.front (r ∷ i.rest)) ∙ ap (list_all (is_keyed types)) (sym i.is) ∙ h) in
    let b = and_parts (is_keyed types r) (list_all (is_keyed types) i.rest) a.1 in
    let named : root_named r.at ≡ key = by (is_root r) refl b.0 i.level ∙ i.own in
    let within : inside_ahead (Some 1) i.rest ≤ count_by (is_under key) i.rest =
    subst (λ k. inside_ahead (Some 1) i.rest ≤ count_by (is_under k) i.rest) named
    (ahead_under types (root_named r.at) i.rest b.1 (together_after [] i.front i.rest r (ap (stand_together []) (sym i.is) ∙ t))) in
    let all : rows_under key view ≡ count_by (is_under key) i.front + count_by (is_under key) (r ∷ i.rest) =
    ap (rows_under key) i.is ∙ sum_by-append (λ x. cond (is_under key x) 1 0) i.front (r ∷ i.rest) in
    let first : count_by (is_under key) (r ∷ i.rest) ≡ cond (is_under key r) 1 0 + count_by (is_under key) i.rest = sum_by-cons (λ x. cond (is_under key x) 1 0) r i.rest in
    let same : inside_ahead (Some 1) (from_on view (first_behind r.at view)) ≡ inside_ahead (Some 1) i.rest =
    ap (inside_ahead (Some 1)) (sym (next_of view (behind r.at view) d (ends_any view r.at)).is ∙ (d i.front i.rest r i.is).follows) in
    omega (arith, within, all, first, same)
  where
    by : (b : Bool) → is_root r ≡ b → is_keyed schema.types r ≡ true → r.level ≡ 1 → root_named r.at ≡ r.key
    by true g kr one = (root_of schema.types r kr g).named
    by false g kr one = absurd (omega (arith, deep_of schema.types r kr g, one))

-- ---- a root that was found

pub root_found : (view : List Spot) (key : List ℕ) (r : Spot) → Differ view → root_of_key key view ≡ Some r → IsFound view r
root_found view key r d e = let i = root_parts key view r e in (d i.front i.rest r i.is).found

pub alone_shown : (view : List Spot) (root : Spot) (path : List Spot) (next : Option Spot) → Differ view → IsFound view root → path ≡ root ∷ [] → next ≡ first_behind root.at view → AreFound view path next
alone_shown view root path next d f p n = record {
  along = subst (All (IsFound view)) (sym p) (All-cons (IsFound view) root [] f (All-nil (IsFound view)));
  ahead = subst (λ (o : Option Spot). IfSome o (IsFound view)) (sym n) (next_of view (behind root.at view) d (ends_any view root.at)).found;
}

-- ---- which calls they are

pub path_has_ssa : (schema : Schema) (call : Call) (key : List ℕ) → keyed_path schema call ≡ Some key → (length call.ssas == 0) ≡ true → ⊥
path_has_ssa schema call key e none =
    let a = asks schema call key e in
    let no : length (a.ssa ∷ a.more) ≡ 0 = ap (λ (ssas : List Ssa). length ssas) (sym a.is) ∙ eqb-true (length call.ssas) 0 none in
    omega (arith, no)

pub path_is_unique : (schema : Schema) (call : Call) (key : List ℕ) → keyed_path schema call ≡ Some key → is_unique call ≡ true
path_is_unique schema call key e = by (is_unique call) refl
  where
    by : (b : Bool) → is_unique call ≡ b → b ≡ true
    by true k = refl
    by false k =
        absurd (let no : None ≡ Some key = ap (λ b. cond (b && goes_below schema call.ssas) (option_and_then (root_wanted schema) (slice_get call.ssas 0)) None) (sym k) ∙ e in let none : ⊥ = cc in none)

pub not_path : (schema : Schema) (call : Call) → is_unique call ≡ false → keyed_path schema call ≡ None
not_path schema call e = ap (λ b. cond (b && goes_below schema call.ssas) (option_and_then (root_wanted schema) (slice_get call.ssas 0)) None) e

-- where there is none
pub none_told : {X : Type 0} (o : Option X) (P : X → Type 0) → o ≡ None → IfSome o P
none_told o P e = subst (λ p. IfSome p P) (sym e) tt

pub some_told : {X : Type 0} (o : Option X) (x : X) (P : X → Type 0) → o ≡ Some x → P x → IfSome o P
some_told o x P e h = subst (λ p. IfSome p P) (sym e) h

-- no more looks than that are no more than more
pub within_few : (schema : Schema) (call : Call) (old new : WalkView) → new.looks ≤ old.looks + 1 → IfSome (keyed_path schema call) (λ key. LooksWithin call.ssas old new (λ rows. 2 + rows_under key (plain_view schema rows)))
within_few schema call old new h =
    where_told (keyed_path schema call) (λ key. LooksWithin call.ssas old new (λ rows. 2 + rows_under key (plain_view schema rows)))
    (λ key e none. where_told old.forest (λ (rows : List Row). new.looks ≤ old.looks + (2 + rows_under key (plain_view schema rows))) (λ rows k. omega (arith, h)))

-- ---- types go down below a root

down_after : (types : List SegType) (goes : List Spot → Bool) (path front rest : List Spot) (r : Spot) → list_all (is_keyed types) path ≡ true → list_all (is_keyed types) front ≡ true → r.level ≡ 1
    → all_on goes (with_paths level path (front ++ r ∷ rest)) ≡ true → all_on goes (with_paths level (r ∷ []) rest) ≡ true
down_after types goes path [] rest r h k one on =
    ap (λ (ys : List Spot). all_on goes (with_paths level ys rest)) (sym (root_alone types path r h one)) ∙ (and_parts (goes (path_with level path r)) (all_on goes (with_paths level (path_with level path r) rest)) on).1
down_after types goes path (x ∷ front) rest r h k one on =
    let a = and_parts (is_keyed types x) (list_all (is_keyed types) front) k in
    down_after types goes (path_with level path x) front rest r (keyed_next types path x h a.0) a.1 one
    (and_parts (goes (path_with level path x)) (all_on goes (with_paths level (path_with level path x) (front ++ r ∷ rest))) on).1

pub down_alone : (schema : Schema) (view : List Spot) (root : Spot) (path : List Spot) (next : Option Spot) → Differ view → IsFound view root → root.level ≡ 1 → path ≡ root ∷ [] → next ≡ first_behind root.at view
    → list_all (is_keyed schema.types) view ≡ true → list_all (λ (p : OnPath). goes_down schema.types None p.0) (on_paths view) ≡ true → AllGoDown schema view path next
down_alone schema view root path next d f one p n k down =
    let goes : List Spot → Bool = goes_down schema.types None in
    let i = place_parts root.at view root f in
    let a = and_parts (list_all (is_keyed schema.types) i.front) (is_keyed schema.types root && list_all (is_keyed schema.types) i.rest)
    (sym (list_all-append (is_keyed schema.types) i.front (root ∷ i.rest)) ∙ ap (list_all (is_keyed schema.types)) (sym i.is) ∙ k) in
    ap (λ (o : Option Spot). all_on goes (with_paths level path (from_on view o))) n
    ∙ ap (λ (ys : List Spot). all_on goes (with_paths level path ys)) (sym (next_of view (behind root.at view) d (ends_any view root.at)).is ∙ (d i.front i.rest root i.is).follows)
    ∙ ap (λ (ys : List Spot). all_on goes (with_paths level ys i.rest)) p
    ∙ down_after schema.types goes [] i.front i.rest root refl a.0 one (ap (λ (ys : List Spot). all_on goes (with_paths level [] ys)) (sym i.is) ∙ down)

pub root_is_top : (view : List Spot) (key : List ℕ) (r : Spot) → root_of_key key view ≡ Some r → r.level ≡ 1
root_is_top view key r e = (root_parts key view r e).level
