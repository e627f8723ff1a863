-- Which elements meet SSAs, and which paths no element below can meet them by.
use Rattle.std.proofs.Common.{◌≡◌, ℕ, zero, suc, ◌+◌, ◌==◌, ◌<◌, drop, Bool, true, false, not, cond, ◌&&◌, List, [], ◌∷◌, ◌++◌, length, get_or, Option, None, Some, refl, sym, ap, subst, ◌∙◌}
use Rattle.std.specs.Prelude.{find, is_some, All}
use Rattle.std.specs.List.{list_all, list_any, last_or}
use Rattle.std.specs.Option.{option_map, option_map_or, option_and_then, option_or}
use Rattle.std.proofs.lemmas.Bool.{and_right, or_parts}
use Rattle.std.proofs.lemmas.List.Elements.{All-head, All-tail}
use Rattle.std.proofs.lemmas.List.Folds.{find-append, list_all_at}
use Rattle.hal_schema.specs.declared.schema.Schema.{Schema}
use Rattle.call_text.specs.declared.line.Ssa.{Ssa}
use Rattle.position_state.specs.declared.spot.Spot.{Spot}
use Rattle.dli_calls.specs.Ssas.{asks_last, code_named}
use Rattle.call_gets.proofs.Listing.{left_is}
use Rattle.dli_calls.specs.Meets.{holds_on, ssa_holds, is_of, meets}
use Rattle.call_gets.specs.Scan.{IsClosed, IsOn, IsVerdict, of_ssa}
use Rattle.call_gets.specs.declared.judged.Verdict.{Verdict}
use Rattle.call_gets.specs.declared.judged.Verdict.TheVariants.{Meets, Open}

-- ---- one SSA on a path

and_true : (b : Bool) → (b && true) ≡ b
and_true true = refl
and_true false = refl

pub holds_as : (schema : Schema) (view path : List Spot) (ssa : Ssa) → holds_on schema None view path ssa ≡ option_map_or (ssa_holds schema None view ssa) (of_ssa schema ssa path) false
holds_as schema view path ssa = by (code_named schema ssa.seg)
  where
    by : (o : Option ℕ) → option_map_or (λ code. option_map_or (ssa_holds schema None view ssa) (find (λ spot. spot.code == code) path) false) o false
        ≡ option_map_or (ssa_holds schema None view ssa) (option_and_then (λ code. find (λ spot. spot.code == code) path) o) false
    by None = refl
    by (Some code) = refl

pub holds_by : (schema : Schema) (view path : List Spot) (ssa : Ssa) (one : Spot) (b : Bool) → of_ssa schema ssa path ≡ Some one → b ≡ ssa_holds schema None view ssa one → holds_on schema None view path ssa ≡ b
holds_by schema view path ssa one b e h = holds_as schema view path ssa ∙ ap (λ o. option_map_or (ssa_holds schema None view ssa) o false) e ∙ sym h

pub holds_not : (schema : Schema) (view path : List Spot) (ssa : Ssa) → of_ssa schema ssa path ≡ None → holds_on schema None view path ssa ≡ false
holds_not schema view path ssa e = holds_as schema view path ssa ∙ ap (λ o. option_map_or (ssa_holds schema None view ssa) o false) e

-- the element of an SSA's type stays as a path goes on
of_ssa_more : (schema : Schema) (path more : List Spot) (ssa : Ssa) (one : Spot) → of_ssa schema ssa path ≡ Some one → of_ssa schema ssa (path ++ more) ≡ Some one
of_ssa_more schema path more ssa one e = by (code_named schema ssa.seg) e
  where
    by : (o : Option ℕ) → option_and_then (λ code. find (λ (spot : Spot). spot.code == code) path) o ≡ Some one → option_and_then (λ code. find (λ (spot : Spot). spot.code == code) (path ++ more)) o ≡ Some one
    by None k = k
    by (Some code) k = find-append (λ (spot : Spot). spot.code == code) path more ∙ ap (λ f. option_or f (find (λ (spot : Spot). spot.code == code) more)) k

pub found_is : (P : Spot → Type 0) (test : Spot → Bool) (xs : List Spot) (x : Spot) → All P xs → find test xs ≡ Some x → P x
found_is P test [] x h e = absurd (let no : ⊥ = cc in no)
found_is P test (y ∷ ys) x h e = by (test y) (λ k. found_is P test ys x (All-tail P y ys h) k) e
  where
    by : (b : Bool) → (find test ys ≡ Some x → P x) → cond b (Some y) (find test ys) ≡ Some x → P x
    by true rest k = let same : y ≡ x = cc in subst P same (All-head P y ys h)
    by false rest k = rest k

pub one_is : (P : Spot → Type 0) (schema : Schema) (path : List Spot) (ssa : Ssa) (one : Spot) → All P path → of_ssa schema ssa path ≡ Some one → P one
one_is P schema path ssa one h e = by (code_named schema ssa.seg) e
  where
    by : (o : Option ℕ) → option_and_then (λ code. find (λ (spot : Spot). spot.code == code) path) o ≡ Some one → P one
    by None k = absurd (let no : ⊥ = cc in no)
    by (Some code) k = found_is P (λ (spot : Spot). spot.code == code) path one h k

-- ---- all SSAs

pub closed_by : (schema : Schema) (view : List Spot) (ssas : List Ssa) (path : List Spot) (i : ℕ) (ssa : Ssa) (one : Spot) → i < length ssas → ssa ≡ get_or ssas i ssa
    → of_ssa schema ssa path ≡ Some one → false ≡ ssa_holds schema None view ssa one → IsClosed schema view ssas path
closed_by schema view ssas path i ssa one lt is e fails = λ more x down last.
    let off : holds_on schema None view (path ++ more) (get_or ssas i ssa) ≡ false =
    ap (holds_on schema None view (path ++ more)) (sym is) ∙ holds_by schema view (path ++ more) ssa one false (of_ssa_more schema path more ssa one e) fails in
    and_right (option_map_or (is_of schema x) (last_or None ssas) true) (list_all (holds_on schema None view (path ++ more)) ssas)
    (list_all_at (holds_on schema None view (path ++ more)) ssas i ssa lt off)

-- how far a pass over the SSAs has come
abbrev pub AllSoFar : Schema → List Spot → List Ssa → List Spot → Bool → List Ssa → Type 0
AllSoFar schema view ssas path all rest = list_all (holds_on schema None view path) ssas ≡ (all && list_all (holds_on schema None view path) rest)

on_some : (schema : Schema) (view path : List Spot) (ssa : Ssa) (b : Bool) → IsOn schema view path ssa (Some b) → (one : Spot) × (of_ssa schema ssa path ≡ Some one) × (b ≡ ssa_holds schema None view ssa one)
on_some schema view path ssa b h = by (of_ssa schema ssa path) h
  where
    by : (o : Option Spot) → Some b ≡ option_map (ssa_holds schema None view ssa) o → (one : Spot) × (o ≡ Some one) × (b ≡ ssa_holds schema None view ssa one)
    by None k = absurd (let no : ⊥ = cc in no)
    by (Some one) k = (one, refl, cc)

on_none : (schema : Schema) (view path : List Spot) (ssa : Ssa) → IsOn schema view path ssa None → of_ssa schema ssa path ≡ None
on_none schema view path ssa h = by (of_ssa schema ssa path) h
  where
    by : (o : Option Spot) → None ≡ option_map (ssa_holds schema None view ssa) o → o ≡ None
    by None k = refl
    by (Some one) k = absurd (let no : ⊥ = cc in no)

pub closed_on : (schema : Schema) (view : List Spot) (ssas : List Ssa) (path : List Spot) (i : ℕ) (ssa : Ssa) (on : Option Bool) → i < length ssas → ssa ≡ get_or ssas i ssa
    → IsOn schema view path ssa on → on ≡ Some false → IsClosed schema view ssas path
closed_on schema view ssas path i ssa on lt is h e =
    let o = on_some schema view path ssa false (subst (λ (x : Option Bool). IsOn schema view path ssa x) e h) in
    closed_by schema view ssas path i ssa o.0 lt is o.1 o.2

pub so_far : (schema : Schema) (view : List Spot) (ssas : List Ssa) (path : List Spot) (all next : Bool) (ssa : Ssa) (rest now : List Ssa) (on : Option Bool) → AllSoFar schema view ssas path all now → now ≡ ssa ∷ rest
    → IsOn schema view path ssa on → (on ≡ Some false → ⊥) → next ≡ (all && is_some on) → AllSoFar schema view ssas path next rest
so_far schema view ssas path all next ssa rest now on h k o calm n =
    (h ∙ ap (λ ys. all && list_all (holds_on schema None view path) ys) k) ∙ by on o calm ∙ ap (λ b. b && list_all (holds_on schema None view path) rest) (sym n)
  where
    tail : Bool
    tail = list_all (holds_on schema None view path) rest

    by : (on : Option Bool) → IsOn schema view path ssa on → (on ≡ Some false → ⊥) → (all && (holds_on schema None view path ssa && tail)) ≡ ((all && is_some on) && tail)
    by None o calm = ap (λ b. all && (b && tail)) (holds_not schema view path ssa (on_none schema view path ssa o)) ∙ and_right all false refl ∙ sym (ap (λ b. b && tail) (and_right all false refl))
    by (Some false) o calm = absurd (calm refl)
    by (Some true) o calm =
        let q = on_some schema view path ssa true o in
        ap (λ b. all && (b && tail)) (holds_by schema view path ssa q.0 true q.1 q.2) ∙ ap (λ b. b && tail) (sym (and_true all))

pub judged_open : (schema : Schema) (view : List Spot) (ssas : List Ssa) (path : List Spot) (spot : Spot) → AllSoFar schema view ssas path false [] → meets schema None view ssas (path, spot) ≡ false
judged_open schema view ssas path spot h = and_right (option_map_or (is_of schema spot) (last_or None ssas) true) (list_all (holds_on schema None view path) ssas) h

pub judged_last : (schema : Schema) (view : List Spot) (ssas : List Ssa) (path : List Spot) (spot : Spot) (last : Bool) → AllSoFar schema view ssas path true []
    → last ≡ option_map_or (is_of schema spot) (last_or None ssas) true → meets schema None view ssas (path, spot) ≡ last
judged_last schema view ssas path spot last h e =
    ap (λ b. option_map_or (is_of schema spot) (last_or None ssas) true && b) h ∙ and_true (option_map_or (is_of schema spot) (last_or None ssas) true) ∙ sym e

-- ---- an SSA and an element of its type

pub twin_fails : (h r : Bool) → false ≡ h → false ≡ (h && r)
twin_fails h r e = ap (λ b. b && r) e

pub lone_holds : (h l a : Bool) → true ≡ h → false ≡ l → true ≡ (h && not (l && a))
lone_holds h l a e f = ap (λ b. true && not (b && a)) f ∙ ap (λ b. b && not (l && a)) e

pub last_holds : (h l a n : Bool) → true ≡ h → true ≡ l → n ≡ a → not n ≡ (h && not (l && a))
last_holds h l a n e f k = ap not k ∙ ap (λ b. true && not (b && a)) f ∙ ap (λ b. b && not (l && a)) e

pub judged_by : (schema : Schema) (view : List Spot) (ssas : List Ssa) (path : List Spot) (spot : Spot) (last : Bool) (verdict : Verdict) → meets schema None view ssas (path, spot) ≡ last
    → verdict ≡ cond last Meets Open → IsVerdict schema view ssas path spot verdict
judged_by schema view ssas path spot last verdict h e = subst (IsVerdict schema view ssas path spot) (sym e) (by last h)
  where
    by : (b : Bool) → meets schema None view ssas (path, spot) ≡ b → IsVerdict schema view ssas path spot (cond b Meets Open)
    by true k = k
    by false k = k

-- ---- SSAs without L

none_left : (ssas : List Ssa) (i : ℕ) → list_any asks_last ssas ≡ false → list_any asks_last (drop i ssas) ≡ false
none_left ssas zero h = h
none_left [] (suc i) h = refl
none_left (ssa ∷ ssas) (suc i) h = none_left ssas i (or_parts (asks_last ssa) (list_any asks_last ssas) h).1

pub none_last : (ssas : List Ssa) (i : ℕ) (ssa : Ssa) → list_any asks_last ssas ≡ false → i < length ssas → ssa ≡ get_or ssas i ssa → asks_last ssa ≡ false
none_last ssas i ssa h lt e =
    (or_parts (asks_last ssa) (list_any asks_last (drop (i + 1) ssas)) (ap (list_any asks_last) (sym (left_is ssas i ssa lt e)) ∙ none_left ssas i h)).0
