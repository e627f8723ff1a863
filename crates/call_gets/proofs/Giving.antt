-- What a get gives of an element: without an SSA, its own content alone, whatever its path.
use Rattle.std.proofs.Common.{◌≡◌, ℕ, true, List, [], ◌∷◌, ◌++◌, Option, None, Some, ◌==◌, length, refl, sym, ap, subst, ◌∙◌, arith}
use Rattle.std.specs.Prelude.{find, filter, flat_map, nat_lt, slice_get}
use Rattle.std.specs.Option.{option_map}
use Rattle.std.proofs.lemmas.Bool.{eqb-true}
use Rattle.hal_schema.specs.declared.row.Row.{Row}
use Rattle.hal_schema.specs.declared.schema.Schema.{Schema}
use Rattle.hal_schema.specs.Paths.{path_with, with_paths}
use Rattle.call_text.specs.declared.line.Call.{Call}
use Rattle.call_text.specs.declared.line.Ssa.{Ssa}
use Rattle.call_text.specs.declared.reply.SegOut.{SegOut}
use Rattle.position_state.specs.declared.session.Anchor.{Anchor}
use Rattle.position_state.specs.declared.session.Session.{Session}
use Rattle.position_state.specs.declared.spot.Spot.{Spot}
use Rattle.position_state.specs.View.{behind, is_place_of}
use Rattle.position_state.specs.Looks.{first_behind}
use Rattle.dli_calls.specs.declared.decision.Decision.{Decision}
use Rattle.dli_calls.specs.Meets.{meets, on_paths}
use Rattle.dli_calls.specs.Gets.{OnPath, after_get, got_status, name_of_type, paths_behind, shown_content}
use Rattle.dli_calls.specs.Decided.{found, healing, reply_of}
use Rattle.call_gets.specs.Scan.{path_of}
use Rattle.call_gets.specs.Shown.{given}
use Rattle.call_gets.proofs.Showing.{asked}
use Rattle.call_gets.proofs.Skipping.{level}
use Rattle.call_gets.proofs.Stepping.{Differ}
use Rattle.call_gets.proofs.Finding.{paths_are}

none_asked : (schema : Schema) (xs : List Spot) → filter (asked schema []) xs ≡ []
none_asked schema [] = refl
none_asked schema (x ∷ xs) = none_asked schema xs

shown_alone : (schema : Schema) (path : List Spot) (s : Spot) → shown_content schema [] (path, s) ≡ s.content
shown_alone schema path s = ap (λ (xs : List Spot). flat_map (λ (above : Spot). above.content) xs ++ s.content) (none_asked schema (filter (λ (above : Spot). nat_lt above.level s.level) path))

given_alone : (schema : Schema) (path : List Spot) (s : Spot) → given schema [] (path, s) ≡ (s, s.content)
given_alone schema path s = ap (λ content. (s, content)) (shown_alone schema path s)

first_given : (schema : Schema) (view path ys : List Spot) → option_map (given schema []) (find (meets schema None view []) (with_paths level path ys)) ≡ option_map (λ (s : Spot). (s, s.content)) (slice_get ys 0)
first_given schema view path [] = refl
first_given schema view path (y ∷ ys) = ap (λ g. Some g) (given_alone schema (path_with level path y) y)

lone_given : (schema : Schema) (o : Option Spot) → option_map (given schema []) (option_map (λ (s : Spot). (s ∷ [], s)) o) ≡ option_map (λ (s : Spot). (s, s.content)) o
lone_given schema None = refl
lone_given schema (Some s) = ap (λ g. Some g) (given_alone schema (s ∷ []) s)

no_ssa : (ssas : List Ssa) → length ssas == 0 ≡ true → ssas ≡ []
no_ssa [] e = refl
no_ssa (ssa ∷ ssas) e = absurd (omega (arith, eqb-true (length (ssa ∷ ssas)) 0 e))

-- without an SSA the first element behind a place gives what a get gives that looks there
pub given_of_any : (schema : Schema) (view : List Spot) (ssas : List Ssa) (at : Anchor) (met : Option OnPath) → Differ view → is_place_of view at ≡ true → length ssas == 0 ≡ true → met ≡ option_map (λ (s : Spot). (s ∷ [], s)) (first_behind at view)
    → option_map (given schema ssas) met ≡ option_map (given schema ssas) (find (meets schema None view ssas) (paths_behind at (on_paths view)))
given_of_any schema view ssas at met d h none m =
    let e : ssas ≡ [] = no_ssa ssas none in
    subst (λ (ssas : List Ssa). option_map (given schema ssas) met ≡ option_map (given schema ssas) (find (meets schema None view ssas) (paths_behind at (on_paths view)))) (sym e)
    (ap (option_map (given schema [])) m ∙ lone_given schema (first_behind at view) ∙ sym (first_given schema view (path_of at view) (behind at view))
    ∙ ap (λ (ps : List OnPath). option_map (given schema []) (find (meets schema None view []) ps)) (sym (paths_are view at d h)))

-- ---- what a decision has of what is given

pub record IsGivenBy (schema : Schema) (ssas : List Ssa) (p : OnPath) (got : Option OnPath) : Type 0 where
  pub one : OnPath
  pub is : Some one ≡ got
  pub same : given schema ssas p ≡ given schema ssas one

pub given_some : (schema : Schema) (ssas : List Ssa) (p : OnPath) (o : Option OnPath) → Some (given schema ssas p) ≡ option_map (given schema ssas) o → IsGivenBy schema ssas p o
given_some schema ssas p None e = absurd (let no : ⊥ = cc in no)
given_some schema ssas p (Some q) e =
    let same : given schema ssas p ≡ given schema ssas q = cc in
    record { one = q; is = refl; same = same }

pub given_none : (schema : Schema) (ssas : List Ssa) (o : Option OnPath) → None ≡ option_map (given schema ssas) o → None ≡ o
given_none schema ssas None e = refl
given_none schema ssas (Some q) e = absurd (let no : ⊥ = cc in no)

-- two that give the same are found alike
pub found_alike : (schema : Schema) (rows : List Row) (session : Session) (call : Call) (p q : OnPath) → given schema call.ssas p ≡ given schema call.ssas q → found schema rows session call p ≡ found schema rows session call q
found_alike schema rows session call p q e =
    let segment : Spot → List ℕ → SegOut = λ spot content. record { seg = name_of_type schema spot.code; key = spot.key; content = Some content } in
    let decided : Spot × List ℕ → Decision = λ g. record { reply = reply_of (got_status schema rows call session g.0) (Some (segment g.0 g.1)); change = healing session g.0; session = after_get call session g.0 } in
    ap decided e
