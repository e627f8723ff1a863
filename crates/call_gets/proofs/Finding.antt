-- What a scan from a place finds is what a get finds behind it.
use Rattle.std.proofs.Common.{◌≡◌, ℕ, zero, suc, ◌+◌, drop, Bool, true, false, cond, List, [], ◌∷◌, Option, None, Some, Result, Ok, Err, refl, sym, ap, subst, ◌∙◌}
use Rattle.std.specs.Prelude.{find, filter, IfOk, IfSome, IsTrue}
use Rattle.std.specs.List.{list_all, position_or_len}
use Rattle.std.specs.Option.{option_map_or}
use Rattle.std.proofs.lemmas.Bool.{and_parts}
use Rattle.std.specs.Str.{bytes_eq}
use Rattle.hal_schema.specs.declared.schema.Schema.{Schema}
use Rattle.hal_schema.specs.Paths.{with_paths}
use Rattle.hal_schema.specs.declared.row.Row.{Row}
use Rattle.call_text.specs.declared.line.Call.{Call}
use Rattle.call_text.specs.declared.line.Ssa.{Ssa}
use Rattle.position_state.specs.declared.session.Session.{Session}
use Rattle.position_state.specs.declared.session.Anchor.{Anchor}
use Rattle.position_state.specs.declared.session.Anchor.TheVariants.{Front, At}
use Rattle.position_state.specs.declared.spot.Spot.{Spot}
use Rattle.position_state.specs.View.{view_of, is_at, is_place_of, root_named, behind}
use Rattle.position_state.specs.Looks.{WalkView, found_at, first_behind, stands_in}
use Rattle.dli_calls.specs.Meets.{meets, on_paths}
use Rattle.dli_calls.specs.Gets.{OnPath, is_unique, is_next, is_below_parent, looked_at, got, paths_behind}
use Rattle.view_laws.specs.Views.{goes_down}
use Rattle.call_gets.specs.Passed.{passed, passed_from}
use Rattle.call_gets.specs.Scan.{AllGoDown, AreFound, IsFound, IsPath, path_of, plain_view, first_inside, from_on, met_from, met_behind, met_below}
use Rattle.call_gets.proofs.Stepping.{Differ, ends_any, next_of}
use Rattle.call_gets.proofs.Skipping.{all_on, level}
use Rattle.call_gets.proofs.Routing.{routed}

pub if_ok : {T E : Type 0} (r : Result T E) (P Q : T → Type 0) → ((x : T) → P x → Q x) → IfOk r P → IfOk r Q
if_ok (Ok x) P Q f h = f x h
if_ok (Err e) P Q f h = tt

pub ok_any : {T E : Type 0} (r : Result T E) (Q : T → Type 0) → ((x : T) → Q x) → IfOk r Q
ok_any (Ok x) Q f = f x
ok_any (Err e) Q f = tt

pub begins : (view : List Spot) (at : Anchor) (path : List Spot) (next : Option Spot) → Differ view → IsPath view at path → next ≡ first_behind at view → AreFound view path next
begins view at path next d p e =
    record { along = p.found; ahead = subst (λ (o : Option Spot). IfSome o (IsFound view)) (sym e) (next_of view (behind at view) d (ends_any view at)).found }

find_all : (test : OnPath → Bool) (ps : List OnPath) → find test ps ≡ first_inside None test ps
find_all test [] = refl
find_all test (p ∷ ps) = ap (λ o. cond (test p) (Some p) o) (find_all test ps)

-- the elements behind a place, with their paths
pub paths_are : (view : List Spot) (at : Anchor) → Differ view → is_place_of view at ≡ true → paths_behind at (on_paths view) ≡ with_paths level (path_of at view) (behind at view)
paths_are view Front d h = refl
paths_are view (At name root entry) d h = by (found_at (At name root entry) view) refl
  where
    by : (o : Option Spot) → found_at (At name root entry) view ≡ o → paths_behind (At name root entry) (on_paths view) ≡ with_paths level (path_of (At name root entry) view) (behind (At name root entry) view)
    by None e = absurd (let no : false ≡ true = ap (λ o. option_map_or (λ (s : Spot). bytes_eq root (root_named s.at)) o false) (sym e) ∙ h in let none : ⊥ = cc in none)
    by (Some s) e =
        let r = routed view (At name root entry) s d e in
        r.follows ∙ ap (λ (ys : List Spot). with_paths level ys (behind (At name root entry) view)) (sym r.path)

-- a scan that begins behind a place
pub meets_behind : (schema : Schema) (view : List Spot) (ssas : List Ssa) (top : Option ℕ) (at : Anchor) (path : List Spot) (next : Option Spot) (met : Option OnPath) → Differ view → IsPath view at path
    → next ≡ first_behind at view → met ≡ met_from schema view ssas top path next → met ≡ met_behind schema ssas top at view
meets_behind schema view ssas top at path next met d p e m =
    let test : OnPath → Bool = meets schema None view ssas in
    m ∙ ap (λ (o : Option Spot). first_inside top test (with_paths level path (from_on view o))) e
    ∙ ap (λ (ys : List Spot). first_inside top test (with_paths level path ys)) (sym (next_of view (behind at view) d (ends_any view at)).is)
    ∙ ap (λ (ys : List Spot). first_inside top test (with_paths level ys (behind at view))) p.same

pub gets_behind : (schema : Schema) (view : List Spot) (ssas : List Ssa) (at : Anchor) → Differ view → is_place_of view at ≡ true
    → met_behind schema ssas None at view ≡ find (meets schema None view ssas) (paths_behind at (on_paths view))
gets_behind schema view ssas at d h =
    let test : OnPath → Bool = meets schema None view ssas in
    sym (find_all test (with_paths level (path_of at view) (behind at view))) ∙ ap (find test) (sym (paths_are view at d h))

pub front_stands : (a : WalkView) → IsTrue (stands_in a None Front)
front_stands a = by a.forest
  where
    by : (o : Option (List Row)) → option_map_or (λ rows. is_place_of (view_of a.schema None rows) Front) o true ≡ true
    by None = refl
    by (Some rows) = refl

pub got_unique : (schema : Schema) (rows : List Row) (call : Call) (session : Session) (met : Option OnPath) → session.index ≡ None → is_unique call ≡ true
    → met ≡ find (meets schema None (plain_view schema rows) call.ssas) (on_paths (plain_view schema rows)) → met ≡ got schema rows call session
got_unique schema rows call session met plain u h =
    let view : List Spot = plain_view schema rows in
    h
    ∙ ap (λ b. find (meets schema None view call.ssas) (cond b (on_paths view) (cond (is_next call) (paths_behind session.anchor (on_paths view)) (filter (is_below_parent session.parent) (paths_behind session.anchor (on_paths view)))))) (sym u)
    ∙ ap (λ (o : Option ℕ). find (meets schema o (view_of schema o rows) call.ssas) (looked_at call session (on_paths (view_of schema o rows)))) (sym plain)

pub got_next : (schema : Schema) (rows : List Row) (call : Call) (session : Session) (met : Option OnPath) → session.index ≡ None → is_unique call ≡ false → is_next call ≡ true
    → met ≡ find (meets schema None (plain_view schema rows) call.ssas) (paths_behind session.anchor (on_paths (plain_view schema rows))) → met ≡ got schema rows call session
got_next schema rows call session met plain u n h =
    let view : List Spot = plain_view schema rows in
    let below : List OnPath = filter (is_below_parent session.parent) (paths_behind session.anchor (on_paths view)) in
    h
    ∙ ap (λ b. find (meets schema None view call.ssas) (cond b (paths_behind session.anchor (on_paths view)) below)) (sym n)
    ∙ ap (λ b. find (meets schema None view call.ssas) (cond b (on_paths view) (cond (is_next call) (paths_behind session.anchor (on_paths view)) below))) (sym u)
    ∙ ap (λ (o : Option ℕ). find (meets schema o (view_of schema o rows) call.ssas) (looked_at call session (on_paths (view_of schema o rows)))) (sym plain)

no_parent : (ps : List OnPath) → filter (is_below_parent None) ps ≡ []
no_parent [] = refl
no_parent (p ∷ ps) = no_parent ps

within : (schema : Schema) (rows : List Row) (call : Call) (session : Session) (parent : Option Anchor) → session.index ≡ None → is_unique call ≡ false → is_next call ≡ false → session.parent ≡ parent
    → find (meets schema None (plain_view schema rows) call.ssas) (filter (is_below_parent parent) (paths_behind session.anchor (on_paths (plain_view schema rows)))) ≡ got schema rows call session
within schema rows call session parent plain u n e =
    let view : List Spot = plain_view schema rows in
    let behind_it : List OnPath = paths_behind session.anchor (on_paths view) in
    let below : List OnPath = filter (is_below_parent session.parent) behind_it in
    ap (λ (o : Option Anchor). find (meets schema None view call.ssas) (filter (is_below_parent o) behind_it)) (sym e)
    ∙ ap (λ b. find (meets schema None view call.ssas) (cond b behind_it below)) (sym n)
    ∙ ap (λ b. find (meets schema None view call.ssas) (cond b (on_paths view) (cond (is_next call) behind_it below))) (sym u)
    ∙ ap (λ (o : Option ℕ). find (meets schema o (view_of schema o rows) call.ssas) (looked_at call session (on_paths (view_of schema o rows)))) (sym plain)

pub got_below : (schema : Schema) (rows : List Row) (call : Call) (session : Session) (parent : Anchor) (met : Option OnPath) → session.index ≡ None → is_unique call ≡ false → is_next call ≡ false → session.parent ≡ Some parent
    → met ≡ met_below schema call.ssas session.anchor parent (plain_view schema rows) → met ≡ got schema rows call session
got_below schema rows call session parent met plain u n e h =
    h ∙ within schema rows call session (Some parent) plain u n e

pub got_nowhere : (schema : Schema) (rows : List Row) (call : Call) (session : Session) → session.index ≡ None → is_unique call ≡ false → is_next call ≡ false → session.parent ≡ None → None ≡ got schema rows call session
got_nowhere schema rows call session plain u n e =
    ap (find (meets schema None (plain_view schema rows) call.ssas)) (sym (no_parent (paths_behind session.anchor (on_paths (plain_view schema rows))))) ∙ within schema rows call session None plain u n e

-- ---- types go down from a place on

all_dropped : (goes : List Spot → Bool) (n : ℕ) (ps : List OnPath) → all_on goes ps ≡ true → all_on goes (drop n ps) ≡ true
all_dropped goes zero ps h = h
all_dropped goes (suc n) [] h = refl
all_dropped goes (suc n) (p ∷ ps) h = all_dropped goes n ps (and_parts (goes p.0) (all_on goes ps) h).1

all_behind : (goes : List Spot → Bool) (at : Anchor) (ps : List OnPath) → all_on goes ps ≡ true → all_on goes (paths_behind at ps) ≡ true
all_behind goes Front ps h = h
all_behind goes (At name root entry) ps h = all_dropped goes (position_or_len (λ (p : OnPath). is_at (At name root entry) p.1) ps + 1) ps h

pub down_at : (schema : Schema) (view : List Spot) (at : Anchor) → Differ view → is_place_of view at ≡ true → list_all (λ (p : OnPath). goes_down schema.types None p.0) (on_paths view) ≡ true
    → all_on (goes_down schema.types None) (with_paths level (path_of at view) (behind at view)) ≡ true
down_at schema view at d h down = let goes : List Spot → Bool = goes_down schema.types None in ap (all_on goes) (sym (paths_are view at d h)) ∙ all_behind goes at (on_paths view) down

pub down_behind : (schema : Schema) (view : List Spot) (at : Anchor) (path : List Spot) (next : Option Spot) → Differ view → is_place_of view at ≡ true → IsPath view at path → next ≡ first_behind at view
    → list_all (λ (p : OnPath). goes_down schema.types None p.0) (on_paths view) ≡ true → AllGoDown schema view path next
down_behind schema view at path next d h p e down =
    let goes : List Spot → Bool = goes_down schema.types None in
    ap (λ (o : Option Spot). all_on goes (with_paths level path (from_on view o))) e
    ∙ ap (λ (ys : List Spot). all_on goes (with_paths level path ys)) (sym (next_of view (behind at view) d (ends_any view at)).is)
    ∙ ap (λ (ys : List Spot). all_on goes (with_paths level ys (behind at view))) p.same
    ∙ down_at schema view at d h down

-- what a scan passes that begins behind a place
pub passes_behind : (schema : Schema) (view : List Spot) (ssas : List Ssa) (at : Anchor) (path : List Spot) (next : Option Spot) → Differ view → is_place_of view at ≡ true → IsPath view at path → next ≡ first_behind at view
    → passed_from schema view ssas path next ≡ passed schema view ssas (paths_behind at (on_paths view))
passes_behind schema view ssas at path next d h p e =
    let all : List OnPath → ℕ = passed schema view ssas in
    ap (λ (o : Option Spot). all (with_paths level path (from_on view o))) e
    ∙ ap (λ (ys : List Spot). all (with_paths level path ys)) (sym (next_of view (behind at view) d (ends_any view at)).is)
    ∙ ap (λ (ys : List Spot). all (with_paths level ys (behind at view))) p.same
    ∙ ap all (sym (paths_are view at d h))
