-- Which types an element may lead to: its own, and those below it.
use Rattle.std.proofs.Common.{◌≡◌, ℕ, zero, suc, ◌==◌, ◌<◌, Bool, true, false, not, cond, ◌&&◌, ◌||◌, List, [], ◌∷◌, ◌++◌, Option, None, Some, refl, sym, ap, subst, ◌∙◌, arith}
use Rattle.std.specs.List.{list_all, list_any, last_or}
use Rattle.std.specs.Option.{option_map_or}
use Rattle.std.proofs.lemmas.Bool.{true≢false, false_from_ne_true, and_from, and_parts, and_right, or_right, eqb-true, eq-eqb}
use Rattle.std.proofs.lemmas.List.{append_assoc, append-nil}
use Rattle.hal_schema.specs.declared.schema.Schema.{Schema}
use Rattle.hal_schema.specs.declared.schema.SegType.{SegType}
use Rattle.hal_schema.specs.Facts.{IsKept}
use Rattle.hal_schema.specs.SegType.{ancestry_within, is_parent_code, parent_code}
use Rattle.call_text.specs.declared.line.Ssa.{Ssa}
use Rattle.position_state.specs.declared.spot.Spot.{Spot}
use Rattle.dli_calls.specs.Meets.{holds_on, is_of, meets}
use Rattle.dli_calls.specs.Refusals.{is_below_type, is_in_subtree}
use Rattle.dli_calls.specs.Ssas.{code_named}
use Rattle.view_laws.specs.Views.{goes_down, is_type_below}
use Rattle.call_gets.specs.Passed.{leads}
use Rattle.call_gets.specs.declared.judged.Verdict.{Verdict}
use Rattle.call_gets.specs.declared.judged.Verdict.TheVariants.{Closed, Meets, Open}
use Rattle.call_gets.specs.Scan.{IsClosed, IsVerdict, may_lead}
use Rattle.call_gets.proofs.Judging.{AllSoFar, judged_last, judged_open}

one_below : (schema : Schema) → IsKept schema → (c a b : ℕ) → is_in_subtree schema c a ≡ true → is_parent_code schema.types a b ≡ true → is_in_subtree schema c b ≡ true
one_below schema kept c a b h p = by (parent_code schema.types b) refl p
  where
    by : (o : Option ℕ) → parent_code schema.types b ≡ o → option_map_or (λ parent. parent == a) o false ≡ true → is_in_subtree schema c b ≡ true
    by None e k = absurd (let no : ⊥ = cc in no)
    by (Some p) e k =
        let q = kept.below a b (e ∙ ap (λ n. Some n) (eqb-true p a k)) in
        ap (list_any (λ c'. c' == c)) q.path ∙ or_right (b == c) (is_in_subtree schema c a) h

own : (schema : Schema) (above : Option ℕ) (code : ℕ) → is_type_below schema.types above code ≡ true → is_in_subtree schema code code ≡ true
own schema None zero h = absurd (let no : ⊥ = cc in no)
own schema (Some above) zero h = absurd (let no : ⊥ = cc in no)
own schema above (suc n) h = ap (λ b. b || list_any (λ c. c == suc n) (rest n)) (eq-eqb (suc n) (suc n) refl)
  where
    rest : ℕ → List ℕ
    rest n = option_map_or (ancestry_within n (parent_code schema.types)) (parent_code schema.types (suc n)) []

reaches : (schema : Schema) → IsKept schema → (c : ℕ) (a : Spot) (more : List Spot) (x : Spot) → is_in_subtree schema c a.code ≡ true → goes_down schema.types (Some a.code) more ≡ true → last_or (Some a) more ≡ Some x
    → is_in_subtree schema c x.code ≡ true
reaches schema kept c a [] x h d e = let same : a ≡ x = cc in ap (λ (s : Spot). is_in_subtree schema c s.code) (sym same) ∙ h
reaches schema kept c a (y ∷ more) x h d e =
    let p = and_parts (is_parent_code schema.types a.code y.code) (goes_down schema.types (Some y.code) more) d in
    reaches schema kept c y more x (one_below schema kept c a.code y.code h p.0) p.1 e

record DownFrom (types : List SegType) (s : Spot) (more : List Spot) : Type 0 where
  above : Option ℕ
  first : is_type_below types above s.code ≡ true
  rest : goes_down types (Some s.code) more ≡ true

down_from : (types : List SegType) (o : Option ℕ) (above : List Spot) (s : Spot) (more : List Spot) → goes_down types o (above ++ s ∷ more) ≡ true → DownFrom types s more
down_from types o [] s more h = let p = and_parts (is_type_below types o s.code) (goes_down types (Some s.code) more) h in record { above = o; first = p.0; rest = p.1 }
down_from types o (x ∷ above) s more h = down_from types (Some x.code) above s more (and_parts (is_type_below types o x.code) (goes_down types (Some x.code) (above ++ s ∷ more)) h).1

last_from : (o : Option Spot) (above : List Spot) (s : Spot) (more : List Spot) → last_or o (above ++ s ∷ more) ≡ last_or (Some s) more
last_from o [] s more = refl
last_from o (x ∷ above) s more = last_from (Some x) above s more

-- what a path goes on to is of a type below
in_it : (schema : Schema) → IsKept schema → (above : List Spot) (s : Spot) (more : List Spot) (x : Spot) → goes_down schema.types None ((above ++ s ∷ []) ++ more) ≡ true → last_or None ((above ++ s ∷ []) ++ more) ≡ Some x
    → is_in_subtree schema s.code x.code ≡ true
in_it schema kept above s more x down last =
    let e : (above ++ s ∷ []) ++ more ≡ above ++ s ∷ more = append_assoc above (s ∷ []) more in
    let q = down_from schema.types None above s more (ap (goes_down schema.types None) (sym e) ∙ down) in
    reaches schema kept s.code s more x (own schema q.above s.code q.first) q.rest (sym (last_from None above s more) ∙ ap (λ (ys : List Spot). last_or None ys) (sym e) ∙ last)

rises_one : (schema : Schema) → IsKept schema → (a b : ℕ) → is_parent_code schema.types a b ≡ true → a < b
rises_one schema kept a b p = by (parent_code schema.types b) refl p
  where
    by : (o : Option ℕ) → parent_code schema.types b ≡ o → option_map_or (λ parent. parent == a) o false ≡ true → a < b
    by None e k = absurd (let no : ⊥ = cc in no)
    by (Some p) e k = (kept.below a b (e ∙ ap (λ n. Some n) (eqb-true p a k))).lower

rises : (schema : Schema) → IsKept schema → (a y : Spot) (more : List Spot) (x : Spot) → goes_down schema.types (Some a.code) (y ∷ more) ≡ true → last_or (Some a) (y ∷ more) ≡ Some x → a.code < x.code
rises schema kept a y [] x d e =
    let same : y ≡ x = cc in
    subst (λ (t : Spot). a.code < t.code) same (rises_one schema kept a.code y.code (and_parts (is_parent_code schema.types a.code y.code) true d).0)
rises schema kept a y (z ∷ more) x d e =
    let p = and_parts (is_parent_code schema.types a.code y.code) (goes_down schema.types (Some y.code) (z ∷ more)) d in
    omega (arith, rises_one schema kept a.code y.code p.0, rises schema kept y z more x p.1 e)

-- the type of what is below another has the higher code
later : (schema : Schema) → IsKept schema → (above : List Spot) (s y : Spot) (more : List Spot) (x : Spot) → goes_down schema.types None ((above ++ s ∷ []) ++ y ∷ more) ≡ true → last_or None ((above ++ s ∷ []) ++ y ∷ more) ≡ Some x
    → s.code < x.code
later schema kept above s y more x down last =
    let e : (above ++ s ∷ []) ++ y ∷ more ≡ above ++ s ∷ (y ∷ more) = append_assoc above (s ∷ []) (y ∷ more) in
    let q = down_from schema.types None above s (y ∷ more) (ap (goes_down schema.types None) (sym e) ∙ down) in
    rises schema kept s y more x q.rest (sym (last_from None above s (y ∷ more)) ∙ ap (λ (ys : List Spot). last_or None ys) (sym e) ∙ last)

-- where an element's type doesn't lead to the last SSA's, neither it nor anything below it meets the SSAs
pub closed_by_type : (schema : Schema) → IsKept schema → (view : List Spot) (ssas : List Ssa) (above : List Spot) (s : Spot) → may_lead schema ssas s.code ≡ false → IsClosed schema view ssas (above ++ s ∷ [])
closed_by_type schema kept view ssas above s off = λ more x down last. by ((above ++ s ∷ []) ++ more) x (in_it schema kept above s more x down last) (last_or None ssas) off
  where
    by : (path : List Spot) (x : Spot) → is_in_subtree schema s.code x.code ≡ true → (o : Option Ssa) → option_map_or (λ (ssa : Ssa). option_map_or (is_in_subtree schema s.code) (code_named schema ssa.seg) false) o true ≡ false
        → (option_map_or (is_of schema x) o true && list_all (holds_on schema None view path) ssas) ≡ false
    by path x k None f = absurd (let no : ⊥ = cc in no)
    by path x k (Some ssa) f = ap (λ b. b && list_all (holds_on schema None view path) ssas) (of_other (code_named schema ssa.seg) f)
      where
        of_other : (o : Option ℕ) → option_map_or (is_in_subtree schema s.code) o false ≡ false → option_map_or (λ code. code == x.code) o false ≡ false
        of_other None m = refl
        of_other (Some d) m = false_from_ne_true (d == x.code) (λ t. true≢false (sym k ∙ ap (is_in_subtree schema s.code) (sym (eqb-true d x.code t)) ∙ m))

-- an element of another type than the last SSA's, that may lead to it, is above it
pub open_leads : (schema : Schema) (ssas : List Ssa) (s : Spot) → may_lead schema ssas s.code ≡ true → option_map_or (is_of schema s) (last_or None ssas) true ≡ false → leads schema ssas s.code ≡ true
open_leads schema ssas s may off = by (last_or None ssas) may off
  where
    by : (o : Option Ssa) → option_map_or (λ (ssa : Ssa). option_map_or (is_in_subtree schema s.code) (code_named schema ssa.seg) false) o true ≡ true → option_map_or (is_of schema s) o true ≡ false
        → option_map_or (λ (ssa : Ssa). option_map_or (is_below_type schema s.code) (code_named schema ssa.seg) false) o true ≡ true
    by None k f = refl
    by (Some ssa) k f = of_other (code_named schema ssa.seg) k f
      where
        of_other : (o : Option ℕ) → option_map_or (is_in_subtree schema s.code) o false ≡ true → option_map_or (λ code. code == s.code) o false ≡ false → option_map_or (is_below_type schema s.code) o false ≡ true
        of_other None m n = absurd (let no : ⊥ = cc in no)
        of_other (Some d) m n = and_from (is_in_subtree schema s.code d) (not (d == s.code)) m (ap not n)

-- below an element that doesn't lead nothing is of the last SSA's type
none_below : (schema : Schema) (view : List Spot) (ssas : List Ssa) (s : Spot) (path : List Spot) (x : Spot) → leads schema ssas s.code ≡ false → is_in_subtree schema s.code x.code ≡ true → s.code < x.code
    → meets schema None view ssas (path, x) ≡ false
none_below schema view ssas s path x off inside lt = by (last_or None ssas) off
  where
    by : (o : Option Ssa) → option_map_or (λ (ssa : Ssa). option_map_or (is_below_type schema s.code) (code_named schema ssa.seg) false) o true ≡ false
        → (option_map_or (is_of schema x) o true && list_all (holds_on schema None view path) ssas) ≡ false
    by None f = absurd (let no : ⊥ = cc in no)
    by (Some ssa) f = ap (λ b. b && list_all (holds_on schema None view path) ssas) (of_other (code_named schema ssa.seg) f)
      where
        of_other : (o : Option ℕ) → option_map_or (is_below_type schema s.code) o false ≡ false → option_map_or (λ code. code == x.code) o false ≡ false
        of_other None m = refl
        of_other (Some d) m =
            false_from_ne_true (d == x.code)
            (λ t. let same : d ≡ x.code = eqb-true d x.code t in
            true≢false (sym (and_from (is_in_subtree schema s.code d) (not (d == s.code)) (ap (is_in_subtree schema s.code) same ∙ inside)
            (ap not (false_from_ne_true (d == s.code) (λ u. let other : d ≡ s.code = eqb-true d s.code u in omega (arith, lt, same, other))))) ∙ m))

pub closed_off : (schema : Schema) → IsKept schema → (view : List Spot) (ssas : List Ssa) (above : List Spot) (s : Spot) → leads schema ssas s.code ≡ false → (more : List Spot) (x : Spot)
    → goes_down schema.types None ((above ++ s ∷ []) ++ more) ≡ true → last_or None ((above ++ s ∷ []) ++ more) ≡ Some x → s.level < x.level → meets schema None view ssas ((above ++ s ∷ []) ++ more, x) ≡ false
closed_off schema kept view ssas above s off [] x down last lt =
    let same : Some s ≡ Some x = sym (last_from None above s []) ∙ ap (λ (ys : List Spot). last_or None ys) (sym (append-nil (above ++ s ∷ []))) ∙ last in
    let level : s.level ≡ x.level = ap (λ (o : Option Spot). option_map_or (λ (t : Spot). t.level) o 0) same in
    absurd (omega (arith, lt, level))
closed_off schema kept view ssas above s off (y ∷ more) x down last lt =
    none_below schema view ssas s ((above ++ s ∷ []) ++ y ∷ more) x off (in_it schema kept above s (y ∷ more) x down last) (later schema kept above s y more x down last)

-- below an element of the last SSA's type there is none of that type
last_leads_not : (schema : Schema) (ssas : List Ssa) (s : Spot) (o : Option Ssa) → last_or None ssas ≡ o → option_map_or (is_of schema s) o true ≡ true → (o ≡ None → ⊥) → leads schema ssas s.code ≡ false
last_leads_not schema ssas s None e k some = absurd (some refl)
last_leads_not schema ssas s (Some ssa) e k some =
    ap (λ (o : Option Ssa). option_map_or (λ (ssa : Ssa). option_map_or (is_below_type schema s.code) (code_named schema ssa.seg) false) o true) e ∙ by (code_named schema ssa.seg) k
  where
    by : (o : Option ℕ) → option_map_or (λ code. code == s.code) o false ≡ true → option_map_or (is_below_type schema s.code) o false ≡ false
    by None m = absurd (let no : ⊥ = cc in no)
    by (Some d) m = and_right (is_in_subtree schema s.code d) (not (d == s.code)) (ap not m)

last_is_some : (x : Ssa) (xs : List Ssa) → last_or (Some x) xs ≡ None → ⊥
last_is_some x [] e = let no : ⊥ = cc in no
last_is_some x (y ∷ ys) e = last_is_some y ys e

pub closed_at_last : (schema : Schema) → IsKept schema → (view : List Spot) (ssas : List Ssa) (above : List Spot) (s : Spot) → option_map_or (is_of schema s) (last_or None ssas) true ≡ true
    → meets schema None view ssas (above ++ s ∷ [], s) ≡ false → IsClosed schema view ssas (above ++ s ∷ [])
closed_at_last schema kept view [] above s last off = absurd (let no : ⊥ = cc in no)
closed_at_last schema kept view (ssa ∷ ssas) above s last off = λ more x down end. by more x down end
  where
    all : List Ssa
    all = ssa ∷ ssas

    by : (more : List Spot) (x : Spot) → goes_down schema.types None ((above ++ s ∷ []) ++ more) ≡ true → last_or None ((above ++ s ∷ []) ++ more) ≡ Some x → meets schema None view all ((above ++ s ∷ []) ++ more, x) ≡ false
    by [] x down end =
        let same : Some s ≡ Some x = sym (last_from None above s []) ∙ ap (λ (ys : List Spot). last_or None ys) (sym (append-nil (above ++ s ∷ []))) ∙ end in
        let is : s ≡ x = cc in
        ap (λ (ys : List Spot). meets schema None view all (ys, x)) (append-nil (above ++ s ∷ [])) ∙ ap (λ (t : Spot). meets schema None view all (above ++ s ∷ [], t)) (sym is) ∙ off
    by (y ∷ more) x down end =
        none_below schema view all s ((above ++ s ∷ []) ++ y ∷ more) x
        (last_leads_not schema all s (last_or None all) refl last (last_is_some ssa ssas))
        (in_it schema kept above s (y ∷ more) x down end) (later schema kept above s y more x down end)

-- ---- verdicts on an element of the last SSA's type, and of another

pub judged_at_last : (schema : Schema) → IsKept schema → (view : List Spot) (ssas : List Ssa) (above : List Spot) (s : Spot) (all : Bool) (verdict : Verdict) → AllSoFar schema view ssas (above ++ s ∷ []) all []
    → option_map_or (is_of schema s) (last_or None ssas) true ≡ true → verdict ≡ cond all Meets Closed → IsVerdict schema view ssas (above ++ s ∷ []) s verdict
judged_at_last schema law view ssas above s all verdict h last e = subst (IsVerdict schema view ssas (above ++ s ∷ []) s) (sym e) (by all h)
  where
    by : (all : Bool) → AllSoFar schema view ssas (above ++ s ∷ []) all [] → IsVerdict schema view ssas (above ++ s ∷ []) s (cond all Meets Closed)
    by true k = judged_last schema view ssas (above ++ s ∷ []) s true k (sym last)
    by false k = closed_at_last schema law view ssas above s last (judged_open schema view ssas (above ++ s ∷ []) s k)

pub judged_other : (schema : Schema) (view : List Spot) (ssas : List Ssa) (path : List Spot) (s : Spot) → option_map_or (is_of schema s) (last_or None ssas) true ≡ false → meets schema None view ssas (path, s) ≡ false
judged_other schema view ssas path s off = ap (λ b. b && list_all (holds_on schema None view path) ssas) off

pub last_not_open : (schema : Schema) (ssas : List Ssa) (code : ℕ) (all : Bool) (verdict : Verdict) → verdict ≡ cond all Meets Closed → verdict ≡ Open → leads schema ssas code ≡ true
last_not_open schema ssas code true verdict e is = absurd (let no : ⊥ = cc in no)
last_not_open schema ssas code false verdict e is = absurd (let no : ⊥ = cc in no)
