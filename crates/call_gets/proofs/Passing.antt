-- How many elements a scan passes on its way, step by step.
use Rattle.std.proofs.Common.{◌≡◌, ℕ, ◌+◌, ◌<◌, ◌≤◌, ◌==◌, Bool, true, false, not, cond, ◌&&◌, List, [], ◌∷◌, ◌++◌, Option, None, Some, refl, sym, ap, subst, ◌∙◌, arith}
use Rattle.std.specs.Prelude.{nat_lt, slice_get, take_while, IfSome}
use Rattle.std.specs.List.{count_by, last_or, list_all}
use Rattle.std.specs.Option.{option_map_or}
use Rattle.std.proofs.lemmas.Bool.{and_from, and_parts, eqb-true, ltb-true}
use Rattle.std.proofs.lemmas.List.{append-nil}
use Rattle.std.proofs.lemmas.List.Folds.{list_all-append}
use Rattle.std.proofs.lemmas.List.Sums.{sum_by-cons, take_while-cons}
use Rattle.hal_schema.specs.declared.schema.Schema.{Schema}
use Rattle.hal_schema.specs.Facts.{IsKept}
use Rattle.hal_schema.specs.Paths.{path_with, with_paths}
use Rattle.hal_schema.specs.SegType.{parent_code}
use Rattle.call_text.specs.declared.line.Ssa.{Ssa}
use Rattle.position_state.specs.declared.spot.Spot.{Spot}
use Rattle.position_state.specs.View.{behind}
use Rattle.position_state.specs.Looks.{past, first_behind}
use Rattle.dli_calls.specs.Meets.{meets}
use Rattle.dli_calls.specs.Gets.{OnPath}
use Rattle.view_laws.specs.Views.{goes_down, is_type_below}
use Rattle.call_gets.specs.declared.scan.Step.TheVariants.{GoesOn}
use Rattle.call_gets.specs.Passed.{IsCloser, all_lead, is_on_way, leads, passed_from}
use Rattle.call_gets.specs.Scan.{AllGoDown, AreFound, IsClosed, from_on}
use Rattle.call_gets.proofs.Moving.{path_low, same_above}
use Rattle.call_gets.proofs.Skipping.{level, kept, kept_low, deeper_on, same_next, last_end, all_on}
use Rattle.call_gets.proofs.Stepping.{Differ, Passed, ends_behind, next_of, passed}

-- ---- elements that count before the first that passes the test

abbrev pub count : (Spot → Bool) → (OnPath → Bool) → List OnPath → ℕ
count way test ps = count_by (λ (p : OnPath). way p.1) (take_while (λ (p : OnPath). not (test p)) ps)

count_on : (way : Spot → Bool) (test : OnPath → Bool) (p : OnPath) (ps : List OnPath) → test p ≡ false → count way test (p ∷ ps) ≡ cond (way p.1) 1 0 + count way test ps
count_on way test p ps h =
    ap (count_by (λ (q : OnPath). way q.1)) (take_while-cons (λ (q : OnPath). not (test q)) p ps ∙ ap (λ b. cond (not b) (p ∷ take_while (λ (q : OnPath). not (test q)) ps) []) h)
    ∙ sum_by-cons (λ (q : OnPath). cond (way q.1) 1 0) p (take_while (λ (q : OnPath). not (test q)) ps)

-- what is deeper than a path, none of which passes the test, only adds to them
pub skip_fewer : (way : Spot → Bool) (test : OnPath → Bool) (goes : List Spot → Bool) (view above path : List Spot) (m : ℕ) (more deep : List Spot) (next : Option Spot)
    → ((l : ℕ) → m < l → kept l path ≡ path)
    → ((l : ℕ) → l ≤ m → kept l path ≡ kept l above)
    → list_all (λ x. nat_lt m x.level) more ≡ true
    → list_all (λ x. nat_lt m x.level) deep ≡ true
    → ((more : List Spot) (x : Spot) → goes (path ++ more) ≡ true → last_or None (path ++ more) ≡ Some x → m < x.level → test (path ++ more, x) ≡ false)
    → IfSome next (λ t. t.level ≤ m)
    → all_on goes (with_paths level (path ++ more) (deep ++ from_on view next)) ≡ true
    → count way test (with_paths level above (from_on view next)) ≤ count way test (with_paths level (path ++ more) (deep ++ from_on view next))
skip_fewer way test goes view above path m more [] None stays same h k fails high on = omega arith
skip_fewer way test goes view above path m more [] (Some t) stays same h k fails high on =
    let is : count way test (with_paths level (path ++ more) (from_on view (Some t))) ≡ count way test (with_paths level above (from_on view (Some t))) =
    ap (λ (r : List Spot). count way test ((r ++ t ∷ [], t) ∷ with_paths level (r ++ t ∷ []) (behind t.at view))) (same_next above path m more t same h high) in
    omega (arith, is)
skip_fewer way test goes view above path m more (x ∷ xs) next stays same h k fails high on =
    let a = and_parts (nat_lt m x.level) (list_all (λ x. nat_lt m x.level) xs) k in
    let rest : List Spot = xs ++ from_on view next in
    let d = deeper_on path m more x stays h a.0 in
    let g = and_parts (goes (path_with level (path ++ more) x)) (all_on goes (with_paths level (path_with level (path ++ more) x) rest)) on in
    let is : count way test (with_paths level (path ++ more) (x ∷ rest)) ≡ cond (way x) 1 0 + count way test (with_paths level (path ++ d.more') rest) =
    ap (λ (r : List Spot). count way test ((r, x) ∷ with_paths level r rest)) d.next
    ∙ count_on way test (path ++ d.more', x) (with_paths level (path ++ d.more') rest) (fails d.more' x (ap goes (sym d.next) ∙ g.0) d.last (ltb-true m x.level a.0)) in
    omega (
      arith,
      is,
      skip_fewer way test goes view above path m d.more' xs next stays same d.deeper a.1 fails high (ap (λ (r : List Spot). all_on goes (with_paths level r rest)) (sym d.next) ∙ g.1),
    )

-- ---- behind elements that lead each is on the way

lead_kept : (schema : Schema) (ssas : List Ssa) (l : ℕ) (ys : List Spot) → all_lead schema ssas ys ≡ true → all_lead schema ssas (kept l ys) ≡ true
lead_kept schema ssas l [] h = refl
lead_kept schema ssas l (y ∷ ys) h =
    let a = and_parts (leads schema ssas y.code) (all_lead schema ssas ys) h in
    by (nat_lt y.level l) (and_from (leads schema ssas y.code) (all_lead schema ssas (kept l ys)) a.0 (lead_kept schema ssas l ys a.1)) (lead_kept schema ssas l ys a.1)
  where
    by : (b : Bool) → all_lead schema ssas (y ∷ kept l ys) ≡ true → all_lead schema ssas (kept l ys) ≡ true → all_lead schema ssas (cond b (y ∷ kept l ys) (kept l ys)) ≡ true
    by true on off = on
    by false on off = off

way_last : (schema : Schema) → IsKept schema → (ssas : List Ssa) (o : Option ℕ) (ys : List Spot) (t : Spot) → option_map_or (leads schema ssas) o true ≡ true → all_lead schema ssas ys ≡ true
    → goes_down schema.types o (ys ++ t ∷ []) ≡ true → is_on_way schema ssas t ≡ true
way_last schema law ssas None [] t h k g =
    let one : t.code ≡ 1 = eqb-true t.code 1 (and_parts (t.code == 1) true g).0 in
    ap (λ (o : Option ℕ). option_map_or (leads schema ssas) o true) (ap (parent_code schema.types) one ∙ law.root)
way_last schema law ssas (Some c) [] t h k g = by (parent_code schema.types t.code) (and_parts (is_type_below schema.types (Some c) t.code) true g).0
  where
    by : (o : Option ℕ) → option_map_or (λ parent. parent == c) o false ≡ true → option_map_or (leads schema ssas) o true ≡ true
    by None e = absurd (let no : ⊥ = cc in no)
    by (Some p) e = ap (leads schema ssas) (eqb-true p c e) ∙ h
way_last schema law ssas o (y ∷ ys) t h k g =
    let a = and_parts (leads schema ssas y.code) (all_lead schema ssas ys) k in
    way_last schema law ssas (Some y.code) ys t a.0 a.1 (and_parts (is_type_below schema.types o y.code) (goes_down schema.types (Some y.code) (ys ++ t ∷ [])) g).1

-- ---- one step

-- an element on the way that doesn't meet is one to pass
one_passed : (schema : Schema) → IsKept schema → (view : List Spot) (ssas : List Ssa) (old : List Spot) (s : Spot) → AllGoDown schema view old (Some s) → all_lead schema ssas old ≡ true → meets schema None view ssas (path_with level old s, s) ≡ false
    → passed_from schema view ssas old (Some s) ≡ 1 + count (is_on_way schema ssas) (meets schema None view ssas) (with_paths level (path_with level old s) (behind s.at view))
one_passed schema law view ssas old s g lead h =
    let way : Spot → Bool = is_on_way schema ssas in
    let p : List Spot = path_with level old s in
    let goes : List Spot → Bool = goes_down schema.types None in
    let a = and_parts (goes p) (all_on goes (with_paths level p (behind s.at view))) g in
    let on : way s ≡ true = way_last schema law ssas None (kept s.level old) s refl (lead_kept schema ssas s.level old lead) a.0 in
    count_on way (meets schema None view ssas) (p, s) (with_paths level p (behind s.at view)) h
    ∙ ap (λ b. cond b 1 0 + count way (meets schema None view ssas) (with_paths level p (behind s.at view))) on

pub closer_open : (schema : Schema) → IsKept schema → (view : List Spot) (ssas : List Ssa) (old above now : List Spot) (s : Spot) (next : Option Spot) → Differ view → above ≡ kept s.level old → AreFound view old (Some s) → AllGoDown schema view old (Some s)
    → leads schema ssas s.code ≡ true → meets schema None view ssas (above ++ s ∷ [], s) ≡ false → next ≡ first_behind s.at view → now ≡ above ++ s ∷ [] → IsCloser schema view ssas old s now (GoesOn next)
closer_open schema law view ssas old above now s next d e f g on h n p = λ lead.
    let q = next_of view (behind s.at view) d (ends_behind view s d f.ahead) in
    let c : List OnPath → ℕ = count (is_on_way schema ssas) (meets schema None view ssas) in
    let path : path_with level old s ≡ now = ap (λ (ys : List Spot). ys ++ s ∷ []) (sym e) ∙ sym p in
    let one = one_passed schema law view ssas old s g lead (ap (λ (ys : List Spot). meets schema None view ssas (ys ++ s ∷ [], s)) (sym e) ∙ h) in
    let rest : c (with_paths level (path_with level old s) (behind s.at view)) ≡ passed_from schema view ssas now next =
    ap (λ (ys : List Spot). c (with_paths level (path_with level old s) ys)) q.is
    ∙ ap (λ (ys : List Spot). c (with_paths level ys (from_on view (slice_get (behind s.at view) 0)))) path
    ∙ ap (λ (o : Option Spot). c (with_paths level now (from_on view o))) (sym n) in (
      ap (all_lead schema ssas) (sym path)
          ∙ list_all-append (λ (y : Spot). leads schema ssas y.code) (kept s.level old) (s ∷ [])
          ∙ and_from (all_lead schema ssas (kept s.level old)) (leads schema ssas s.code && true) (lead_kept schema ssas s.level old lead) (and_from (leads schema ssas s.code) true on refl),
      omega (arith, one, rest),
    )

pub closer_closed : (schema : Schema) → IsKept schema → (view : List Spot) (ssas : List Ssa) (old above : List Spot) (s : Spot) (next : Option Spot) → Differ view → above ≡ kept s.level old → AreFound view old (Some s) → AllGoDown schema view old (Some s)
    → IsClosed schema view ssas (above ++ s ∷ []) → next ≡ past s view → IsCloser schema view ssas old s above (GoesOn next)
closer_closed schema law view ssas old above s next d e f g closed n = λ lead.
    let p : List Spot = path_with level old s in
    let shut : IsClosed schema view ssas p = subst (λ (ys : List Spot). IsClosed schema view ssas (ys ++ s ∷ [])) e closed in
    let q : Passed view (behind s.at view) s.level next = subst (Passed view (behind s.at view) s.level) (sym n) (passed view (behind s.at view) s.level d (ends_behind view s d f.ahead)) in
    let goes : List Spot → Bool = goes_down schema.types None in
    let c : List OnPath → ℕ = count (is_on_way schema ssas) (meets schema None view ssas) in
    let a = and_parts (goes p) (all_on goes (with_paths level p (behind s.at view))) g in
    let on : all_on goes (with_paths level (p ++ []) (q.deep ++ from_on view next)) ≡ true =
    ap (λ (ys : List Spot). all_on goes (with_paths level ys (q.deep ++ from_on view next))) (append-nil p) ∙ ap (λ (ys : List Spot). all_on goes (with_paths level p ys)) (sym q.is) ∙ a.1 in
    let one = one_passed schema law view ssas old s g lead
    (ap (λ (ys : List Spot). meets schema None view ssas (ys, s)) (sym (append-nil p)) ∙ shut [] s (ap goes (append-nil p) ∙ a.0) (ap (λ (ys : List Spot). last_or None ys) (append-nil p) ∙ last_end None [] (kept s.level old) s)) in
    let rest : c (with_paths level p (behind s.at view)) ≡ c (with_paths level (p ++ []) (q.deep ++ from_on view next)) =
    ap (λ (ys : List Spot). c (with_paths level p ys)) q.is ∙ ap (λ (ys : List Spot). c (with_paths level ys (q.deep ++ from_on view next))) (sym (append-nil p)) in
    let fewer = skip_fewer (is_on_way schema ssas) (meets schema None view ssas) goes view (kept s.level old) p s.level [] q.deep next
    (λ l lt. kept_low s.level l p (path_low s old) lt) (same_above s old) refl q.deeper (λ more x down last lt. shut more x down last) q.high on in
    let same : c (with_paths level above (from_on view next)) ≡ c (with_paths level (kept s.level old) (from_on view next)) = ap (λ (ys : List Spot). c (with_paths level ys (from_on view next))) e in (
      ap (all_lead schema ssas) e ∙ lead_kept schema ssas s.level old lead,
      omega (arith, one, rest, fewer, same),
    )

-- ---- many steps

-- how often was looked, and what is left to pass
pub record Passes (schema : Schema) (view : List Spot) (ssas : List Ssa) (path : List Spot) (first : Option Spot) (now : List Spot) (next : Option Spot) (old looks : ℕ) : Type 0 where
  pub lead : all_lead schema ssas now ≡ true
  pub left : looks + passed_from schema view ssas now next ≤ old + passed_from schema view ssas path first

pub passes_on : (schema : Schema) (view : List Spot) (ssas : List Ssa) (path : List Spot) (first : Option Spot) (now : List Spot) (next : Option Spot) (s : Spot) (after : List Spot) (other : Option Spot) (old mid looks : ℕ)
    → Passes schema view ssas path first now next old mid → next ≡ Some s → looks ≤ mid + 1 → IsCloser schema view ssas now s after (GoesOn other) → Passes schema view ssas path first after other old looks
passes_on schema view ssas path first now next s after other old mid looks p e few closer =
    let c = closer p.lead in
    let same : passed_from schema view ssas now next ≡ passed_from schema view ssas now (Some s) = ap (passed_from schema view ssas now) e in
    record { lead = c.0; left = omega (arith, p.left, few, c.1, same) }
