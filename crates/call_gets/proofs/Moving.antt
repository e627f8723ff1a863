-- One step of a scan, and many.
use Rattle.std.proofs.Common.{◌≡◌, ℕ, ◌+◌, ◌<◌, ◌≤◌, Bool, true, false, cond, ◌&&◌, List, [], ◌∷◌, ◌++◌, Option, None, Some, refl, sym, ap, subst, ◌∙◌, arith}
use Rattle.std.specs.Prelude.{nat_le, nat_lt, slice_get, All, IfSome}
use Rattle.std.specs.List.{last_or, list_all}
use Rattle.std.proofs.lemmas.Bool.{and_parts, and_from, ltb-true, lt-ltb, le-leb, le-ltb}
use Rattle.std.proofs.lemmas.List.{append-nil}
use Rattle.std.proofs.lemmas.List.Elements.{filter-append, All-filter, All-push}
use Rattle.std.proofs.lemmas.List.Folds.{list_all-append}
use Rattle.hal_schema.specs.declared.schema.Schema.{Schema}
use Rattle.hal_schema.specs.Paths.{path_with, with_paths}
use Rattle.call_text.specs.declared.line.Ssa.{Ssa}
use Rattle.position_state.specs.declared.spot.Spot.{Spot}
use Rattle.position_state.specs.View.{behind}
use Rattle.position_state.specs.Looks.{past, first_behind}
use Rattle.dli_calls.specs.Meets.{meets}
use Rattle.dli_calls.specs.Gets.{OnPath}
use Rattle.call_gets.specs.declared.scan.Step.TheVariants.{Ends, GoesOn}
use Rattle.view_laws.specs.Views.{goes_down}
use Rattle.call_gets.specs.Scan.{AllGoDown, AreFound, IsFound, IsClosed, IsNearer, IsStep, from_on, inside_ahead, is_inside, first_inside, met_from}
use Rattle.call_gets.proofs.Stepping.{Differ, ends_behind, next_of, passed, Passed}
use Rattle.call_gets.proofs.Skipping.{level, kept, kept_low, kept_is_low, outside, meets_here, goes_below, last_end, skip, skip_all, all_on}

-- what is left to be found is what there was to be found
pub record Moved (schema : Schema) (view : List Spot) (ssas : List Ssa) (top : Option ℕ) (path : List Spot) (first : Option Spot) (now : List Spot) (next : Option Spot) : Type 0 where
  pub same : met_from schema view ssas top path first ≡ met_from schema view ssas top now next
  pub found : AreFound view now next
  pub down : AllGoDown schema view now next

pub moved_none : (schema : Schema) (view : List Spot) (ssas : List Ssa) (top : Option ℕ) (path : List Spot) (first : Option Spot) (now : List Spot) (next : Option Spot) → Moved schema view ssas top path first now next
    → next ≡ None → None ≡ met_from schema view ssas top path first
moved_none schema view ssas top path first now next m e = sym (m.same ∙ ap (met_from schema view ssas top now) e)

pub moved_out : (schema : Schema) (view : List Spot) (ssas : List Ssa) (top : Option ℕ) (path : List Spot) (first : Option Spot) (now : List Spot) (next : Option Spot) (s : Spot) → Moved schema view ssas top path first now next
    → next ≡ Some s → is_inside top s ≡ false → None ≡ met_from schema view ssas top path first
moved_out schema view ssas top path first now next s m e h =
    sym (m.same ∙ ap (met_from schema view ssas top now) e ∙ outside top (meets schema None view ssas) view now s h)

pub moved_found : (schema : Schema) (view : List Spot) (ssas : List Ssa) (top : Option ℕ) (path : List Spot) (first : Option Spot) (now : List Spot) (next : Option Spot) (s : Spot) → Moved schema view ssas top path first now next
    → next ≡ Some s → AreFound view now (Some s)
moved_found schema view ssas top path first now next s m e = record { along = m.found.along; ahead = subst (λ (o : Option Spot). IfSome o (IsFound view)) e m.found.ahead }

pub moved_met : (schema : Schema) (view : List Spot) (ssas : List Ssa) (top : Option ℕ) (path : List Spot) (first : Option Spot) (now : List Spot) (next : Option Spot) (s met : Spot) (above : List Spot) → Moved schema view ssas top path first now next
    → next ≡ Some s → IsStep schema view ssas top (met_from schema view ssas top now (Some s)) above (Ends met) → Some (above ++ met ∷ [], met) ≡ met_from schema view ssas top path first
moved_met schema view ssas top path first now next s met above m e h = sym (m.same ∙ ap (met_from schema view ssas top now) e ∙ h)

pub moved_on : (schema : Schema) (view : List Spot) (ssas : List Ssa) (top : Option ℕ) (path : List Spot) (first : Option Spot) (now : List Spot) (next : Option Spot) (s : Spot) (above : List Spot) (other : Option Spot)
    → Moved schema view ssas top path first now next
    → next ≡ Some s → IsStep schema view ssas top (met_from schema view ssas top now (Some s)) above (GoesOn other) → Moved schema view ssas top path first above other
moved_on schema view ssas top path first now next s above other m e h = record { same = m.same ∙ ap (met_from schema view ssas top now) e ∙ h.0; found = h.1; down = h.2 }

pub moved_down : (schema : Schema) (view : List Spot) (ssas : List Ssa) (top : Option ℕ) (path : List Spot) (first : Option Spot) (now : List Spot) (next : Option Spot) (s : Spot) → Moved schema view ssas top path first now next
    → next ≡ Some s → AllGoDown schema view now (Some s)
moved_down schema view ssas top path first now next s m e = subst (AllGoDown schema view now) e m.down

-- ---- one step

pub path_low : (s : Spot) (old : List Spot) → list_all (λ x. nat_le x.level s.level) (path_with level old s) ≡ true
path_low s old =
    list_all-append (λ (y : Spot). nat_le y.level s.level) (kept s.level old) (s ∷ [])
    ∙ and_from (list_all (λ (y : Spot). nat_le y.level s.level) (kept s.level old)) (nat_le s.level s.level && true) (kept_is_low s.level old) (and_from (nat_le s.level s.level) true (le-leb s.level s.level (omega arith)) refl)

pub same_above : (s : Spot) (old : List Spot) (l : ℕ) → l ≤ s.level → kept l (path_with level old s) ≡ kept l (kept s.level old)
same_above s old l le =
    filter-append (λ (y : Spot). nat_lt y.level l) (kept s.level old) (s ∷ [])
    ∙ ap (λ b. kept l (kept s.level old) ++ cond b (s ∷ []) []) (le-ltb s.level l le)
    ∙ append-nil (kept l (kept s.level old))

deeper_inside : (top : Option ℕ) (s x : Spot) → is_inside top s ≡ true → s.level < x.level → is_inside top x ≡ true
deeper_inside None s x h lt = refl
deeper_inside (Some t) s x h lt = lt-ltb t x.level (omega (arith, ltb-true t s.level h, lt))

pub step_meets : (schema : Schema) (view : List Spot) (ssas : List Ssa) (top : Option ℕ) (old above : List Spot) (s : Spot) → is_inside top s ≡ true → above ≡ kept s.level old
    → meets schema None view ssas (above ++ s ∷ [], s) ≡ true → IsStep schema view ssas top (met_from schema view ssas top old (Some s)) above (Ends s)
step_meets schema view ssas top old above s inside e h =
    meets_here top (meets schema None view ssas) view old s inside (ap (λ (ys : List Spot). meets schema None view ssas (ys ++ s ∷ [], s)) (sym e) ∙ h)
    ∙ ap (λ (ys : List Spot). Some (ys ++ s ∷ [], s)) (sym e)

pub step_open : (schema : Schema) (view : List Spot) (ssas : List Ssa) (top : Option ℕ) (old above now : List Spot) (s : Spot) (next : Option Spot) → Differ view → is_inside top s ≡ true → above ≡ kept s.level old
    → AreFound view old (Some s) → AllGoDown schema view old (Some s) → meets schema None view ssas (above ++ s ∷ [], s) ≡ false → next ≡ first_behind s.at view → now ≡ above ++ s ∷ []
    → IsStep schema view ssas top (met_from schema view ssas top old (Some s)) now (GoesOn next)
step_open schema view ssas top old above now s next d inside e f g h n p =
    let q = next_of view (behind s.at view) d (ends_behind view s d f.ahead) in
    let test : OnPath → Bool = meets schema None view ssas in
    let path : path_with level old s ≡ now = ap (λ (ys : List Spot). ys ++ s ∷ []) (sym e) ∙ sym p in (
      goes_below top test view old s inside (ap (λ (ys : List Spot). meets schema None view ssas (ys ++ s ∷ [], s)) (sym e) ∙ h)
          ∙ ap (λ (ys : List Spot). first_inside top test (with_paths level (path_with level old s) ys)) q.is
          ∙ ap (λ (ys : List Spot). first_inside top test (with_paths level ys (from_on view (slice_get (behind s.at view) 0)))) path
          ∙ ap (λ (o : Option Spot). first_inside top test (with_paths level now (from_on view o))) (sym n),
      record {
        along = subst (All (IsFound view)) path (All-push (IsFound view) (kept s.level old) s (All-filter (λ (y : Spot). nat_lt y.level s.level) (IsFound view) old f.along) f.ahead);
        ahead = subst (λ (o : Option Spot). IfSome o (IsFound view)) (sym n) q.found;
      },
      ap (λ (o : Option Spot). all_on (goes_down schema.types None) (with_paths level now (from_on view o))) n
          ∙ ap (λ (ys : List Spot). all_on (goes_down schema.types None) (with_paths level ys (from_on view (slice_get (behind s.at view) 0)))) (sym path)
          ∙ ap (λ (ys : List Spot). all_on (goes_down schema.types None) (with_paths level (path_with level old s) ys)) (sym q.is)
          ∙ (and_parts (goes_down schema.types None (path_with level old s)) (all_on (goes_down schema.types None) (with_paths level (path_with level old s) (behind s.at view))) g).1,
    )

pub step_closed : (schema : Schema) (view : List Spot) (ssas : List Ssa) (top : Option ℕ) (old above : List Spot) (s : Spot) (next : Option Spot) → Differ view → is_inside top s ≡ true → above ≡ kept s.level old
    → AreFound view old (Some s) → AllGoDown schema view old (Some s) → IsClosed schema view ssas (above ++ s ∷ []) → next ≡ past s view
    → IsStep schema view ssas top (met_from schema view ssas top old (Some s)) above (GoesOn next)
step_closed schema view ssas top old above s next d inside e f g closed n =
    let test : OnPath → Bool = meets schema None view ssas in
    let p : List Spot = path_with level old s in
    let shut : IsClosed schema view ssas p = subst (λ (ys : List Spot). IsClosed schema view ssas (ys ++ s ∷ [])) e closed in
    let q : Passed view (behind s.at view) s.level next = subst (Passed view (behind s.at view) s.level) (sym n) (passed view (behind s.at view) s.level d (ends_behind view s d f.ahead)) in
    let goes : List Spot → Bool = goes_down schema.types None in
    let a = and_parts (goes p) (all_on goes (with_paths level p (behind s.at view))) g in
    let on : all_on goes (with_paths level (p ++ []) (q.deep ++ from_on view next)) ≡ true =
    ap (λ (ys : List Spot). all_on goes (with_paths level ys (q.deep ++ from_on view next))) (append-nil p) ∙ ap (λ (ys : List Spot). all_on goes (with_paths level p ys)) (sym q.is) ∙ a.1 in (
      goes_below top test view old s inside (ap (λ (ys : List Spot). test (ys, s)) (sym (append-nil p)) ∙ shut [] s (ap goes (append-nil p) ∙ a.0) (ap (λ (ys : List Spot). last_or None ys) (append-nil p) ∙ last_end None [] (kept s.level old) s))
          ∙ ap (λ (ys : List Spot). first_inside top test (with_paths level p ys)) q.is
          ∙ ap (λ (ys : List Spot). first_inside top test (with_paths level ys (q.deep ++ from_on view next))) (sym (append-nil p))
          ∙ skip top test goes view (kept s.level old) p s.level [] q.deep next
          (λ l lt. kept_low s.level l p (path_low s old) lt) (same_above s old) refl q.deeper (λ x lt. deeper_inside top s x inside lt) (λ more x down last lt. shut more x down last) q.high on
          ∙ ap (λ (ys : List Spot). first_inside top test (with_paths level ys (from_on view next))) (sym e),
      record {
        along = subst (All (IsFound view)) (sym e) (All-filter (λ (y : Spot). nat_lt y.level s.level) (IsFound view) old f.along);
        ahead = q.found;
      },
      ap (λ (ys : List Spot). all_on goes (with_paths level ys (from_on view next))) e
          ∙ skip_all goes view (kept s.level old) p s.level [] q.deep next (λ l lt. kept_low s.level l p (path_low s old) lt) (same_above s old) refl q.deeper q.high on,
    )

-- ---- fewer are ahead after a step

ahead_past : (top : Option ℕ) (m : ℕ) (deep ys : List Spot) → list_all (λ x. nat_lt m x.level) deep ≡ true → ((x : Spot) → m < x.level → is_inside top x ≡ true) → inside_ahead top ys ≤ inside_ahead top (deep ++ ys)
ahead_past top m [] ys h inside = omega arith
ahead_past top m (x ∷ xs) ys h inside =
    let a = and_parts (nat_lt m x.level) (list_all (λ x. nat_lt m x.level) xs) h in
    let here : inside_ahead top (x ∷ (xs ++ ys)) ≡ 1 + inside_ahead top (xs ++ ys) = ap (λ b. cond b (1 + inside_ahead top (xs ++ ys)) 0) (inside x (ltb-true m x.level a.0)) in
    omega (arith, here, ahead_past top m xs ys a.1 inside)

ahead_here : (top : Option ℕ) (s : Spot) (ys : List Spot) → is_inside top s ≡ true → inside_ahead top (s ∷ ys) ≡ 1 + inside_ahead top ys
ahead_here top s ys inside = ap (λ b. cond b (1 + inside_ahead top ys) 0) inside

pub nearer_open : (view : List Spot) (top : Option ℕ) (s : Spot) (next : Option Spot) → Differ view → is_inside top s ≡ true → IsFound view s → next ≡ first_behind s.at view → IsNearer top view s (GoesOn next)
nearer_open view top s next d inside f n =
    let q = next_of view (behind s.at view) d (ends_behind view s d f) in
    let same : inside_ahead top (behind s.at view) ≡ inside_ahead top (from_on view next) = ap (inside_ahead top) q.is ∙ ap (λ (o : Option Spot). inside_ahead top (from_on view o)) (sym n) in
    omega (arith, ahead_here top s (behind s.at view) inside, same)

pub nearer_closed : (view : List Spot) (top : Option ℕ) (s : Spot) (next : Option Spot) → Differ view → is_inside top s ≡ true → IsFound view s → next ≡ past s view → IsNearer top view s (GoesOn next)
nearer_closed view top s next d inside f n =
    let q : Passed view (behind s.at view) s.level next = subst (Passed view (behind s.at view) s.level) (sym n) (passed view (behind s.at view) s.level d (ends_behind view s d f)) in
    let same : inside_ahead top (behind s.at view) ≡ inside_ahead top (q.deep ++ from_on view next) = ap (inside_ahead top) q.is in
    omega (arith, ahead_here top s (behind s.at view) inside, same, ahead_past top s.level q.deep (from_on view next) q.deeper (λ x lt. deeper_inside top s x inside lt))

-- what is left of the elements that are ahead, and how often was looked
pub ahead_on : (view : List Spot) (top : Option ℕ) (first now other : Option Spot) (s : Spot) (old mid new : ℕ) → now ≡ Some s → mid + inside_ahead top (from_on view now) ≤ old + inside_ahead top (from_on view first) → new ≤ mid + 1
    → IsNearer top view s (GoesOn other) → new + inside_ahead top (from_on view other) ≤ old + inside_ahead top (from_on view first)
ahead_on view top first now other s old mid new e h n k =
    let same : inside_ahead top (from_on view now) ≡ inside_ahead top (from_on view (Some s)) = ap (λ (o : Option Spot). inside_ahead top (from_on view o)) e in
    omega (arith, h, n, k, same)

-- a look more, at an element that is inside
pub ahead_end : (view : List Spot) (top : Option ℕ) (first now : Option Spot) (s : Spot) (old mid new : ℕ) → now ≡ Some s → is_inside top s ≡ true → mid + inside_ahead top (from_on view now) ≤ old + inside_ahead top (from_on view first) → new ≤ mid + 1
    → new ≤ old + inside_ahead top (from_on view first)
ahead_end view top first now s old mid new e inside h n =
    let same : inside_ahead top (from_on view now) ≡ inside_ahead top (from_on view (Some s)) = ap (λ (o : Option Spot). inside_ahead top (from_on view o)) e in
    omega (arith, h, n, same, ahead_here top s (behind s.at view) inside)
