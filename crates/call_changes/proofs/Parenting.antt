-- The element of a new row's parent: where it is found, and that the row may stand below it.
use Rattle.std.proofs.Common.{◌≡◌, ℕ, suc, ◌-◌, ◌==◌, Bool, true, false, not, cond, ◌&&◌, ◌||◌, List, [], ◌∷◌, take, length, Option, None, Some, ◌⊎◌, inl, inr, refl, sym, ap, subst, ◌∙◌, arith}
use Rattle.std.specs.Prelude.{codes, filter, filter_map, find, map, nat_lt, is_some, is_none, option_and_then}
use Rattle.std.specs.List.{cons_option, list_all, list_any, last_or, slice_get}
use Rattle.std.specs.Option.{option_map, option_map_or}
use Rattle.std.proofs.lemmas.Bool.{true≢false, and_parts, eqb-true, eq-eqb, false_from_ne_true, lt-ltb}
use Rattle.std.proofs.lemmas.Option.{same_Some}
use Rattle.hal_schema.specs.declared.row.Row.{Row}
use Rattle.hal_schema.specs.declared.schema.IndexDef.{IndexDef}
use Rattle.hal_schema.specs.declared.schema.Schema.{Schema}
use Rattle.hal_schema.specs.Paths.{path_with, with_paths, paths_of}
use Rattle.hal_schema.specs.SegType.{is_parent_code, parent_code}
use Rattle.call_text.specs.declared.line.Call.{Call}
use Rattle.call_text.specs.declared.line.Ssa.{Ssa}
use Rattle.position_state.specs.declared.session.Anchor.{Anchor}
use Rattle.position_state.specs.declared.session.Anchor.TheVariants.{Front, At}
use Rattle.position_state.specs.declared.session.Session.{Session}
use Rattle.position_state.specs.declared.spot.Spot.{Spot}
use Rattle.position_state.specs.View.{is_at, plain_element}
use Rattle.dli_calls.specs.Changes.{all_but_last, found_parent, inserted_code, is_lone, parent_by_anchor, parent_by_path}
use Rattle.dli_calls.specs.Gets.{OnPath, is_get}
use Rattle.dli_calls.specs.Meets.{holds_on, is_of, meets, on_paths}
use Rattle.dli_calls.specs.Refusals.{codes_of, each_next, first_that_holds, is_below_type, is_in_subtree, is_insert, text_refusals}
use Rattle.dli_calls.specs.Ssas.{code_named, index_of}
use Rattle.call_gets.specs.Scan.{IsFound, path_of, plain_view}
use Rattle.call_gets.proofs.Stepping.{Differ}
use Rattle.forest_laws.proofs.Lists.{Among, among_append, among_filter, among_split}
use Rattle.forest_laws.proofs.Names.{parent_code_is}
use Rattle.call_changes.specs.Inserts.{StandsBelow, wanted_parent}

abbrev level : Spot → ℕ
level spot = spot.level

-- ---- all but the last

pub but_last : (ssas : List Ssa) → take (length ssas - 1) ssas ≡ all_but_last ssas
but_last [] = refl
but_last (a ∷ []) = refl
but_last (a ∷ b ∷ more) =
    let one : length (a ∷ b ∷ more) - 1 ≡ suc (length (b ∷ more) - 1) = omega arith in
    ap (λ n. take n (a ∷ b ∷ more)) one ∙ ap (λ (l : List Ssa). a ∷ l) (but_last (b ∷ more))

-- ---- by the position

front_nowhere : (schema : Schema) (path : List Spot) (ps : List (List Row × Row)) → find (λ (p : OnPath). is_at Front p.1) (with_paths level path (map (λ (p : List Row × Row). plain_element schema.types p.0 p.1) ps)) ≡ None
front_nowhere schema path [] = refl
front_nowhere schema path (p ∷ ps) = front_nowhere schema (path_with level path (plain_element schema.types p.0 p.1)) ps

pub by_anchor : (schema : Schema) (rows : List Row) (code above : ℕ) (session : Session) → parent_code schema.types code ≡ Some above
    → find (λ (s : Spot). s.code == above) (path_of session.anchor (plain_view schema rows)) ≡ parent_by_anchor schema rows code session
by_anchor schema rows code above session h =
    by session.anchor ∙ sym (ap (λ (o : Option ℕ). option_and_then (λ (p : OnPath). option_and_then (λ above. find (λ (spot : Spot). spot.code == above) p.0) o) (find (λ (p : OnPath). is_at session.anchor p.1) (on_paths (plain_view schema rows)))) h)
  where
    on : Option OnPath → Option Spot
    on o = option_and_then (λ (p : OnPath). option_and_then (λ above. find (λ (spot : Spot). spot.code == above) p.0) (Some above)) o

    gives : (o : Option OnPath) → find (λ (s : Spot). s.code == above) (option_map_or (λ (p : OnPath). p.0) o []) ≡ on o
    gives None = refl
    gives (Some p) = refl

    by : (at : Anchor) → find (λ (s : Spot). s.code == above) (path_of at (plain_view schema rows)) ≡ on (find (λ (p : OnPath). is_at at p.1) (on_paths (plain_view schema rows)))
    by Front = sym (ap on (front_nowhere schema [] (paths_of schema.types rows)))
    by (At name root entry) = gives (find (λ (p : OnPath). is_at (At name root entry) p.1) (on_paths (plain_view schema rows)))

pub no_above : (schema : Schema) (rows : List Row) (code : ℕ) (session : Session) → parent_code schema.types code ≡ None → None ≡ parent_by_anchor schema rows code session
no_above schema rows code session h =
    by (find (λ (p : OnPath). is_at session.anchor p.1) (on_paths (plain_view schema rows)))
    ∙ sym (ap (λ (o : Option ℕ). option_and_then (λ (p : OnPath). option_and_then (λ above. find (λ (spot : Spot). spot.code == above) p.0) o) (find (λ (p : OnPath). is_at session.anchor p.1) (on_paths (plain_view schema rows)))) h)
  where
    by : (o : Option OnPath) → None ≡ option_and_then (λ (p : OnPath). option_and_then (λ above. find (λ (spot : Spot). spot.code == above) p.0) None) o
    by None = refl
    by (Some p) = refl

-- ---- elements of the view

pub among_found : (view : List Spot) (x : Spot) → Differ view → Among x view → IsFound view x
among_found view x d h = let s = among_split x view h in (d s.front s.behind x s.split).found

-- what is found is among them
pub find_among : {X : Type 0} (test : X → Bool) (xs : List X) (x : X) → find test xs ≡ Some x → Among x xs × (test x ≡ true)
find_among test [] x h = absurd (let no : ⊥ = cc in no)
find_among {X} test (y ∷ ys) x h = by (test y) refl h (find_among test ys x)
  where
    by : (b : Bool) → test y ≡ b → cond b (Some y) (find test ys) ≡ Some x → (find test ys ≡ Some x → Among x ys × (test x ≡ true)) → Among x (y ∷ ys) × (test x ≡ true)
    by true e k rest = let same : y ≡ x = same_Some y x k in (inl same, ap test (sym same) ∙ e)
    by false e k rest = let r = rest k in (inr r.0, r.1)

-- an element with a path: both are of the list
abbrev below : List Spot → Spot → List Spot
below path y = filter (λ (above : Spot). nat_lt above.level y.level) path

on_step : (path ys : List Spot) (x y : Spot) → Among x (below path y) ⊎ Among x (y ∷ []) → Among x path ⊎ Among x (y ∷ ys)
on_step path ys x y (inl a) = inl (among_filter (λ (above : Spot). nat_lt above.level y.level) x path a).0
on_step path ys x y (inr (inl same)) = inr (inl same)
on_step path ys x y (inr (inr never)) = absurd never

pub on_list : (path ys : List Spot) (p : OnPath) → Among p (with_paths level path ys) → Among p.1 ys × ((x : Spot) → Among x p.0 → Among x path ⊎ Among x ys)
on_list path [] p h = absurd h
on_list path (y ∷ ys) p (inl e) = (inl (ap (λ (q : OnPath). q.1) e), λ x a. on_step path ys x y (among_append x (below path y) (y ∷ []) (subst (λ (q : OnPath). Among x q.0) (sym e) a)))
on_list path (y ∷ ys) p (inr more) = let r = on_list (path_with level path y) ys p more in (inr r.0, λ x a. by x (r.1 x a))
  where
    by : (x : Spot) → Among x (path_with level path y) ⊎ Among x ys → Among x path ⊎ Among x (y ∷ ys)
    by x (inl a) = on_step path ys x y (among_append x (below path y) (y ∷ []) a)
    by x (inr a) = inr (inr a)

-- ---- what the text says

first_none : {b : Bool} (status : List ℕ) {rest : Option (List ℕ)} → cond b (Some status) rest ≡ None → (b ≡ false) × (rest ≡ None)
first_none {b = true} status h = absurd (let no : ⊥ = cc in no)
first_none {b = false} status h = (refl, h)

pub or_off : (a b : Bool) → (a || b) ≡ false → (a ≡ false) × (b ≡ false)
or_off true b h = absurd (true≢false h)
or_off false b h = (refl, h)

-- an ISRT that its text doesn't refuse names types, and its path leaves out no level
pub record IsPathed (schema : Schema) (call : Call) : Type 0 where
  pub some : (length call.ssas == 0) ≡ false
  pub known : list_any (λ (ssa : Ssa). is_none (code_named schema ssa.seg)) call.ssas ≡ false
  pub down : nat_lt 1 (length call.ssas) ≡ true → each_next (is_parent_code schema.types) (codes_of schema call) ≡ true

pub pathed : (schema : Schema) (session : Session) (call : Call) → is_insert call ≡ true → first_that_holds (text_refusals schema session call) ≡ None → IsPathed schema call
pathed schema session call insert text =
    let a = first_none (codes "AD") text in
    let b = first_none (codes "AM") a.1 in
    let c = first_none (codes "AH") b.1 in
    let d = first_none (codes "AJ") c.1 in
    let e = first_none (codes "AK") d.1 in
    let f = first_none (codes "AC") e.1 in
    let off = or_off (unknown || off_get) (is_insert call && nat_lt 1 (length call.ssas) && not (rooted && each_next (is_parent_code schema.types) (codes_of schema call))) f.0 in
    let known = or_off unknown off_get off.0 in
    record {
      some = ap (λ b. b && (length call.ssas == 0)) (sym insert) ∙ c.0;
      known = known.0;
      down = λ many. goes rooted (each_next (is_parent_code schema.types) (codes_of schema call))
          (ap (λ b. b && not (rooted && each_next (is_parent_code schema.types) (codes_of schema call))) (sym (ap (λ b. b && nat_lt 1 (length call.ssas)) insert ∙ many)) ∙ off.1);
    }
  where
    unknown : Bool
    unknown = list_any (λ (ssa : Ssa). is_none (code_named schema ssa.seg)) call.ssas

    off_get : Bool
    off_get =
        is_get call && not (each_next (is_below_type schema) (codes_of schema call)
        && option_map_or (λ (index : IndexDef). list_all (is_in_subtree schema index.target) (codes_of schema call)) (index_of schema session.index) true)

    rooted : Bool
    rooted = option_map_or (λ code. code == 1) (slice_get (codes_of schema call) 0) false

    goes : (a b : Bool) → not (a && b) ≡ false → b ≡ true
    goes true true h = refl
    goes true false h = sym h
    goes false b h = absurd (true≢false h)

-- ---- the types along the path

code_of : (o : Option ℕ) (c : ℕ) → option_map_or (λ code. code == c) o false ≡ true → o ≡ Some c
code_of None c h = absurd (true≢false (sym h))
code_of (Some x) c h = ap (λ (n : ℕ). Some n) (eqb-true x c h)

known_next : (o : Option ℕ) → is_none o ≡ false → (x : ℕ) × (o ≡ Some x)
known_next None h = absurd (true≢false h)
known_next (Some x) h = (x, refl)

-- where an element is of the last type but one, the last is right below it
last_two : (schema : Schema) (spot : Spot) (ssas : List Ssa) → nat_lt 1 (length ssas) ≡ true → list_any (λ (ssa : Ssa). is_none (code_named schema ssa.seg)) ssas ≡ false
    → each_next (is_parent_code schema.types) (filter_map (λ (ssa : Ssa). code_named schema ssa.seg) ssas) ≡ true → option_map_or (is_of schema spot) (last_or None (all_but_last ssas)) true ≡ true
    → is_parent_code schema.types spot.code (option_map_or (λ (ssa : Ssa). option_map_or (λ code. code) (code_named schema ssa.seg) 0) (last_or None ssas) 0) ≡ true
last_two schema spot [] many known down is = absurd (let no : false ≡ true = many in let none : ⊥ = cc in none)
last_two schema spot (a ∷ []) many known down is = absurd (let no : false ≡ true = many in let none : ⊥ = cc in none)
last_two schema spot (a ∷ b ∷ []) many known down is =
    let k = or_off (is_none (code_named schema a.seg)) (is_none (code_named schema b.seg) || false) known in
    let l = or_off (is_none (code_named schema b.seg)) false k.1 in
    let y = known_next (code_named schema b.seg) l.0 in
    let x = code_of (code_named schema a.seg) spot.code is in
    let steps : (is_parent_code schema.types spot.code y.0 && true) ≡ true =
    ap (λ (o : Option ℕ). each_next (is_parent_code schema.types) (cons_option o (cons_option (Some y.0) []))) (sym x) ∙ ap (λ (o : Option ℕ). each_next (is_parent_code schema.types) (cons_option (code_named schema a.seg) (cons_option o []))) (sym y.1) ∙ down in
    ap (λ (o : Option ℕ). is_parent_code schema.types spot.code (option_map_or (λ code. code) o 0)) y.1 ∙ (and_parts (is_parent_code schema.types spot.code y.0) true steps).0
last_two schema spot (a ∷ b ∷ c ∷ more) many known down is =
    let k = or_off (is_none (code_named schema a.seg)) (list_any (λ (ssa : Ssa). is_none (code_named schema ssa.seg)) (b ∷ c ∷ more)) known in
    let l = or_off (is_none (code_named schema b.seg)) (list_any (λ (ssa : Ssa). is_none (code_named schema ssa.seg)) (c ∷ more)) k.1 in
    let x = known_next (code_named schema a.seg) k.0 in
    let y = known_next (code_named schema b.seg) l.0 in
    let rest : List ℕ = filter_map (λ (ssa : Ssa). code_named schema ssa.seg) (c ∷ more) in
    let steps : (is_parent_code schema.types x.0 y.0 && each_next (is_parent_code schema.types) (y.0 ∷ rest)) ≡ true =
    ap (λ (o : Option ℕ). each_next (is_parent_code schema.types) (cons_option o (cons_option (Some y.0) rest))) (sym x.1) ∙ ap (λ (o : Option ℕ). each_next (is_parent_code schema.types) (cons_option (code_named schema a.seg) (cons_option o rest))) (sym y.1) ∙ down in
    last_two schema spot (b ∷ c ∷ more) (lt-ltb 1 (length (b ∷ c ∷ more)) (omega arith)) k.1
    (ap (λ (o : Option ℕ). each_next (is_parent_code schema.types) (cons_option o rest)) y.1 ∙ (and_parts (is_parent_code schema.types x.0 y.0) (each_next (is_parent_code schema.types) (y.0 ∷ rest)) steps).1) is

-- ---- the row may stand below it

-- the element of a parent is one of the view, and of the parent's type
record IsOver (schema : Schema) (rows : List Row) (code : ℕ) (spot : Spot) : Type 0 where
  found : IsFound (plain_view schema rows) spot
  above : parent_code schema.types code ≡ Some spot.code

by_position : (schema : Schema) (rows : List Row) (code : ℕ) (session : Session) (spot : Spot) → Differ (plain_view schema rows) → parent_by_anchor schema rows code session ≡ Some spot → IsOver schema rows code spot
by_position schema rows code session spot d h = by (find (λ (p : OnPath). is_at session.anchor p.1) (on_paths view)) refl h
  where
    view : List Spot
    view = plain_view schema rows

    at : (p : OnPath) → Among p (on_paths view) → (o : Option ℕ) → parent_code schema.types code ≡ o → option_and_then (λ above. find (λ (spot : Spot). spot.code == above) p.0) o ≡ Some spot → IsOver schema rows code spot
    at p a None e k = absurd (let no : ⊥ = cc in no)
    at p a (Some above) e k =
        let f = find_among (λ (spot : Spot). spot.code == above) p.0 spot k in
        record { found = among_found view spot d (here ((on_list [] view p a).1 spot f.0)); above = e ∙ ap (λ (c : ℕ). Some c) (sym (eqb-true spot.code above f.1)) }
      where
        here : Among spot [] ⊎ Among spot view → Among spot view
        here (inl never) = absurd never
        here (inr is) = is

    by : (o : Option OnPath) → find (λ (p : OnPath). is_at session.anchor p.1) (on_paths view) ≡ o
        → option_and_then (λ (p : OnPath). option_and_then (λ above. find (λ (spot : Spot). spot.code == above) p.0) (parent_code schema.types code)) o ≡ Some spot → IsOver schema rows code spot
    by None e k = absurd (let no : ⊥ = cc in no)
    by (Some p) e k = at p (find_among (λ (p : OnPath). is_at session.anchor p.1) (on_paths view) p e).0 (parent_code schema.types code) refl k

by_ssas : (schema : Schema) (rows : List Row) (call : Call) (spot : Spot) → Differ (plain_view schema rows) → IsPathed schema call → is_lone call ≡ false → parent_by_path schema rows call ≡ Some spot → IsOver schema rows (inserted_code schema call) spot
by_ssas schema rows call spot d pathed lone h = by (find (meets schema None view (all_but_last call.ssas)) (on_paths view)) refl h
  where
    view : List Spot
    view = plain_view schema rows

    many : (n : ℕ) → (n == 0) ≡ false → (n == 1) ≡ false → nat_lt 1 n ≡ true
    many n a b = lt-ltb 1 n (omega (arith, differs n 0 a, differs n 1 b))
      where
        differs : (n m : ℕ) → (n == m) ≡ false → n ≡ m → ⊥
        differs n m e same = true≢false (sym (eq-eqb n m same) ∙ e)

    by : (o : Option OnPath) → find (meets schema None view (all_but_last call.ssas)) (on_paths view) ≡ o → option_map (λ (p : OnPath). p.1) o ≡ Some spot → IsOver schema rows (inserted_code schema call) spot
    by None e k = absurd (let no : ⊥ = cc in no)
    by (Some p) e k =
        let f = find_among (meets schema None view (all_but_last call.ssas)) (on_paths view) p e in
        let same : p.1 ≡ spot = same_Some p.1 spot k in
        let more : nat_lt 1 (length call.ssas) ≡ true = many (length call.ssas) pathed.some lone in
        let is : option_map_or (is_of schema p.1) (last_or None (all_but_last call.ssas)) true ≡ true = (and_parts (option_map_or (is_of schema p.1) (last_or None (all_but_last call.ssas)) true) (list_all (holds_on schema None view p.0) (all_but_last call.ssas)) f.1).0 in
        record {
          found = among_found view spot d (subst (λ (s : Spot). Among s view) same (on_list [] view p f.0).0);
          above = parent_code_is schema.types spot.code (inserted_code schema call)
              (last_two schema spot call.ssas more pathed.known (pathed.down more) (ap (λ (s : Spot). option_map_or (is_of schema s) (last_or None (all_but_last call.ssas)) true) (sym same) ∙ is));
        }

pub stands_below : (schema : Schema) (rows : List Row) (session : Session) (call : Call) (code : ℕ) (parent : Option Spot) → Differ (plain_view schema rows) → IsPathed schema call → code ≡ inserted_code schema call → parent ≡ wanted_parent schema rows call session
    → (code == 1 || is_some parent) ≡ true → StandsBelow schema rows code parent
stands_below schema rows session call code parent d pathed same is there = by parent is there
  where
    root : (p : Option Spot) → p ≡ wanted_parent schema rows call session → code ≡ 1 → p ≡ None
    root p e one = e ∙ ap (λ b. cond b None (found_parent schema rows call session)) (ap (λ (c : ℕ). c == 1) (sym same) ∙ eq-eqb code 1 one)

    alone : (b : Bool) → (b || false) ≡ true → b ≡ true
    alone true h = refl
    alone false h = h

    over : (spot : Spot) → Some spot ≡ wanted_parent schema rows call session → IsOver schema rows code spot
    over spot e = at (inserted_code schema call == 1) e
      where
        lone : (b : Bool) → is_lone call ≡ b → cond b (parent_by_anchor schema rows (inserted_code schema call) session) (parent_by_path schema rows call) ≡ Some spot → IsOver schema rows code spot
        lone true l k = subst (λ (c : ℕ). IsOver schema rows c spot) (sym same) (by_position schema rows (inserted_code schema call) session spot d k)
        lone false l k = subst (λ (c : ℕ). IsOver schema rows c spot) (sym same) (by_ssas schema rows call spot d pathed l k)

        at : (b : Bool) → Some spot ≡ cond b None (found_parent schema rows call session) → IsOver schema rows code spot
        at true k = absurd (let no : ⊥ = cc in no)
        at false k = lone (is_lone call) refl (sym k)

    by : (p : Option Spot) → p ≡ wanted_parent schema rows call session → (code == 1 || is_some p) ≡ true → StandsBelow schema rows code p
    by None e t = record { root = λ one. refl; none = λ none. eqb-true code 1 (alone (code == 1) t); found = tt; above = tt }
    by (Some spot) e t =
        let o = over spot e in
        record { root = root (Some spot) e; none = λ none. absurd (let no : ⊥ = cc in no); found = o.found; above = o.above }

-- ---- which element is wanted

pub wanted_root : (schema : Schema) (rows : List Row) (session : Session) (call : Call) (code : ℕ) → code ≡ inserted_code schema call → code ≡ 1 → None ≡ wanted_parent schema rows call session
wanted_root schema rows session call code same one = sym (ap (λ b. cond b None (found_parent schema rows call session)) (ap (λ (c : ℕ). c == 1) (sym same) ∙ eq-eqb code 1 one))

off_root : (schema : Schema) (rows : List Row) (session : Session) (call : Call) (code : ℕ) → code ≡ inserted_code schema call → (code ≡ 1 → ⊥) → found_parent schema rows call session ≡ wanted_parent schema rows call session
off_root schema rows session call code same other =
    sym (ap (λ b. cond b None (found_parent schema rows call session)) (ap (λ (c : ℕ). c == 1) (sym same) ∙ false_from_ne_true (code == 1) (λ h. other (eqb-true code 1 h))))

pub wanted_lone : (schema : Schema) (rows : List Row) (session : Session) (call : Call) (code : ℕ) → code ≡ inserted_code schema call → (code ≡ 1 → ⊥) → length call.ssas ≡ 1 → parent_by_anchor schema rows code session ≡ wanted_parent schema rows call session
wanted_lone schema rows session call code same other lone =
    ap (λ (c : ℕ). parent_by_anchor schema rows c session) same
    ∙ sym (ap (λ b. cond b (parent_by_anchor schema rows (inserted_code schema call) session) (parent_by_path schema rows call)) (eq-eqb (length call.ssas) 1 lone)) ∙ off_root schema rows session call code same other

pub wanted_path : (schema : Schema) (rows : List Row) (session : Session) (call : Call) (code : ℕ) → code ≡ inserted_code schema call → (code ≡ 1 → ⊥) → (length call.ssas ≡ 1 → ⊥) → parent_by_path schema rows call ≡ wanted_parent schema rows call session
wanted_path schema rows session call code same other more =
    sym (ap (λ b. cond b (parent_by_anchor schema rows (inserted_code schema call) session) (parent_by_path schema rows call)) (false_from_ne_true (length call.ssas == 1) (λ h. more (eqb-true (length call.ssas) 1 h))))
    ∙ off_root schema rows session call code same other
