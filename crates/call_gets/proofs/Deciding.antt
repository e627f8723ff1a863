-- The decision of a get, by what its text says and what it finds.
use Rattle.std.proofs.Common.{◌≡◌, ℕ, ◌==◌, Bool, true, false, not, cond, ◌&&◌, ◌||◌, ◌⊎◌, inl, inr, List, [], ◌∷◌, length, Option, None, Some, refl, sym, ap, ◌∙◌, arith}
use Rattle.std.specs.Prelude.{codes, nat_lt, is_some, is_none}
use Rattle.std.specs.List.{list_all, list_any}
use Rattle.std.specs.Option.{option_map, option_map_or}
use Rattle.std.specs.Str.{bytes_eq}
use Rattle.std.proofs.lemmas.Bool.{or_cases, and_left, and_right, and_parts, not-true, le-ltb}
use Rattle.std.proofs.lemmas.Slice.Eq.{bytes_eq-Decides}
use Rattle.hal_schema.specs.declared.row.Row.{Row}
use Rattle.hal_schema.specs.declared.schema.Schema.{Schema}
use Rattle.call_text.specs.declared.line.Call.{Call}
use Rattle.call_text.specs.declared.line.Ssa.{Ssa}
use Rattle.position_state.specs.declared.session.Session.{Session}
use Rattle.position_state.specs.declared.spot.Change.{Change}
use Rattle.position_state.specs.declared.spot.Change.TheVariants.{Nothing, Heal}
use Rattle.position_state.specs.declared.spot.Spot.{Spot}
use Rattle.call_text.specs.declared.reply.Reply.{Reply}
use Rattle.hal_schema.specs.declared.schema.SegType.{SegType}
use Rattle.hal_schema.specs.SegType.{type_of}
use Rattle.dli_calls.specs.Ssas.{entry_named}
use Rattle.hal_schema.specs.Insertion.{has_free_key, enters_freely}
use Rattle.hal_schema.specs.Roots.{partition_of}
use Rattle.hal_schema.specs.Row.{row_key}
use Rattle.hal_schema.specs.Span.{keeps_freely}
use Rattle.dli_calls.specs.Changes.{has_parent, inserted_code, held_code, held_row, content_for, content_or_none, new_row, no_name, need_of_insert, need_of_replace}
use Rattle.dli_calls.specs.declared.decision.Decision.{Decision}
use Rattle.dli_calls.specs.Gets.{OnPath, got_status, got_segment, shown_content, after_get, name_of_type, is_get, is_next, is_unique, got}
use Rattle.dli_calls.specs.Refusals.{allows, first_that_holds, is_insert, is_replace, text_refusals, view_refusals, refusal_of, has_no_data, asks_high_root, asks_for_high_root, inserts_high_root, finds_nothing, is_at_end, changes_key, takes_key, need_of}
use Rattle.call_gets.specs.Shown.{is_refused_unseen}
use Rattle.dli_calls.specs.Decided.{healing, decision_of, carried_out, refused, found, inserts, changes_held, reply_of, after_refusal}

-- ---- gets are no other calls

pub record IsOnlyGet (call : Call) : Type 0 where
  pub insert : is_insert call ≡ false
  pub replace : is_replace call ≡ false
  pub get : is_get call ≡ true

only_by : (call : Call) (name : List ℕ) → bytes_eq name (codes "ISRT") ≡ false → bytes_eq name (codes "REPL") ≡ false
    → list_any (bytes_eq name) (codes "GU" ∷ codes "GN" ∷ codes "GNP" ∷ codes "GHU" ∷ codes "GHN" ∷ codes "GHNP" ∷ []) ≡ true → bytes_eq call.func name ≡ true → IsOnlyGet call
only_by call name i r g h =
    let e : call.func ≡ name = (bytes_eq-Decides call.func name).0 h in
    record {
      insert = ap (λ f. bytes_eq f (codes "ISRT") || false) e ∙ ap (λ b. b || false) i;
      replace = ap (λ f. bytes_eq f (codes "REPL") || false) e ∙ ap (λ b. b || false) r;
      get = ap (λ f. list_any (bytes_eq f) (codes "GU" ∷ codes "GN" ∷ codes "GNP" ∷ codes "GHU" ∷ codes "GHN" ∷ codes "GHNP" ∷ [])) e ∙ g;
    }

abbrev fits : List ℕ → Bool
fits name =
    not (bytes_eq name (codes "ISRT")) && not (bytes_eq name (codes "REPL")) && list_any (bytes_eq name) (codes "GU" ∷ codes "GN" ∷ codes "GNP" ∷ codes "GHU" ∷ codes "GHN" ∷ codes "GHNP" ∷ [])

only_of : (call : Call) (names : List (List ℕ)) → list_all fits names ≡ true → list_any (bytes_eq call.func) names ≡ true → IsOnlyGet call
only_of call [] f h = absurd (let no : ⊥ = cc in no)
only_of call (name ∷ names) f h =
    let a = and_parts (fits name) (list_all fits names) f in
    by a.0 (or_cases (bytes_eq call.func name) (list_any (bytes_eq call.func) names) h) (only_of call names a.1)
  where
    by : fits name ≡ true → (bytes_eq call.func name ≡ true) ⊎ (list_any (bytes_eq call.func) names ≡ true) → (list_any (bytes_eq call.func) names ≡ true → IsOnlyGet call) → IsOnlyGet call
    by fit (inl t) rest =
        let b = and_parts (not (bytes_eq name (codes "ISRT")) && not (bytes_eq name (codes "REPL"))) (list_any (bytes_eq name) (codes "GU" ∷ codes "GN" ∷ codes "GNP" ∷ codes "GHU" ∷ codes "GHN" ∷ codes "GHNP" ∷ [])) fit in
        let d = and_parts (not (bytes_eq name (codes "ISRT"))) (not (bytes_eq name (codes "REPL"))) b.0 in
        only_by call name (not-true (bytes_eq name (codes "ISRT")) d.0) (not-true (bytes_eq name (codes "REPL")) d.1) b.1 t
    by fit (inr t) rest = rest t

pub only_get : (call : Call) → is_get call ≡ true → IsOnlyGet call
only_get call h = only_of call (codes "GU" ∷ codes "GN" ∷ codes "GNP" ∷ codes "GHU" ∷ codes "GHN" ∷ codes "GHNP" ∷ []) refl h

-- ---- tables

holds_first : (b : Bool) (status : List ℕ) (rows : List (Bool × List ℕ)) → b ≡ true → first_that_holds ((b, status) ∷ rows) ≡ Some status
holds_first b status rows h = ap (λ c. cond c (Some status) (first_that_holds rows)) h

holds_next : (b : Bool) (status : List ℕ) (rows : List (Bool × List ℕ)) → b ≡ false → first_that_holds ((b, status) ∷ rows) ≡ first_that_holds rows
holds_next b status rows h = ap (λ c. cond c (Some status) (first_that_holds rows)) h

-- no status of the table is this one
said_apart : (status : List ℕ) (rows : List (Bool × List ℕ)) (said : List ℕ) → list_all (λ (row : Bool × List ℕ). not (bytes_eq row.1 status)) rows ≡ true → first_that_holds rows ≡ Some said → bytes_eq said status ≡ false
said_apart status [] said h e = absurd (let no : ⊥ = cc in no)
said_apart status (row ∷ rows) said h e =
    let a = and_parts (not (bytes_eq row.1 status)) (list_all (λ (row : Bool × List ℕ). not (bytes_eq row.1 status)) rows) h in
    by row.0 a.0 (said_apart status rows said a.1) e
  where
    by : (b : Bool) → not (bytes_eq row.1 status) ≡ true → (first_that_holds rows ≡ Some said → bytes_eq said status ≡ false) → cond b (Some row.1) (first_that_holds rows) ≡ Some said → bytes_eq said status ≡ false
    by true n rest k = let same : row.1 ≡ said = cc in ap (λ s. bytes_eq s status) (sym same) ∙ not-true (bytes_eq row.1 status) n
    by false n rest k = rest k

-- ---- refusals

pub refused_as : (schema : Schema) (rows : List Row) (session : Session) (call : Call) (status : List ℕ) → bytes_eq status (codes "+R") ≡ false
    → (let d : Decision = record { reply = reply_of status None; change = Nothing; session = after_refusal status session } in d ≡ refused schema rows session call status)
refused_as schema rows session call status h =
    ap (λ b. let d : Decision = record { reply = record { status = status; seg = None; part = None; number = cond b (Some (need_of schema rows session call)) None }; change = Nothing; session = after_refusal status session } in d) (sym h)

text_said : (schema : Schema) (rows : List Row) (free : ℕ) (session : Session) (call : Call) (status : List ℕ) → first_that_holds (text_refusals schema session call) ≡ Some status → refusal_of schema rows free session call ≡ Some status
text_said schema rows free session call status e = rw e refl

view_said : (schema : Schema) (rows : List Row) (free : ℕ) (session : Session) (call : Call) → first_that_holds (text_refusals schema session call) ≡ None
    → refusal_of schema rows free session call ≡ first_that_holds (view_refusals schema rows free session call)
view_said schema rows free session call e = rw e refl

-- ---- the decision

abbrev pub said_only : List ℕ → Session → Decision
said_only status session = record { reply = reply_of status None; change = Nothing; session = after_refusal status session }

pub decided_refused : (schema : Schema) (rows : List Row) (free : ℕ) (session : Session) (call : Call) (status : List ℕ) (d : Decision) → bytes_eq status (codes "+R") ≡ false
    → refusal_of schema rows free session call ≡ Some status → d ≡ said_only status session → d ≡ decision_of schema rows free session call
decided_refused schema rows free session call status d r e h =
    h ∙ refused_as schema rows session call status r ∙ sym (ap (λ (o : Option (List ℕ)). option_map_or (refused schema rows session call) o (carried_out schema rows session call)) e)

pub decided_text : (schema : Schema) (rows : List Row) (free : ℕ) (session : Session) (call : Call) (status : List ℕ) (d : Decision) → first_that_holds (text_refusals schema session call) ≡ Some status
    → d ≡ said_only status session → d ≡ decision_of schema rows free session call
decided_text schema rows free session call status d e h =
    decided_refused schema rows free session call status d (said_apart (codes "+R") (text_refusals schema session call) status refl e) (text_said schema rows free session call status e) h

-- what the view says of a get
pub record Viewed (schema : Schema) (rows : List Row) (free : ℕ) (session : Session) (call : Call) : Type 0 where
  pub content : has_no_data schema rows session call ≡ is_some call.content
  pub high : (is_none session.index && (asks_for_high_root schema call || inserts_high_root schema rows session call)) ≡ (is_unique call && list_any (asks_high_root schema) call.ssas)
  pub none : ((finds_nothing schema rows session call && not (is_at_end schema rows session call)) || (is_insert call && not (has_parent schema rows call session))) ≡ (is_none (got schema rows call session) && not (is_at_end schema rows session call))
  pub end : is_at_end schema rows session call ≡ (is_next call && is_none (got schema rows call session) && list_all (λ (ssa : Ssa). length ssa.clauses == 0) call.ssas)

or_false : (b : Bool) → (b || false) ≡ b
or_false true = refl
or_false false = refl

and_true : (b : Bool) → (b && true) ≡ b
and_true true = refl
and_true false = refl

pub viewed : (schema : Schema) (rows : List Row) (free : ℕ) (session : Session) (call : Call) → IsOnlyGet call → session.index ≡ None → Viewed schema rows free session call
viewed schema rows free session call only plain = record {
  content = ap (λ b. cond b (is_none (content_for schema (inserted_code schema call) call)) (cond (is_replace call) (is_none (content_for schema (held_code schema rows session) call)) (is_some call.content))) only.insert
      ∙ ap (λ b. cond b (is_none (content_for schema (held_code schema rows session) call)) (is_some call.content)) only.replace;
  high = ap (λ (o : Option ℕ). is_none o && (asks_for_high_root schema call || inserts_high_root schema rows session call)) plain
      ∙ ap (λ b. asks_for_high_root schema call || b) (ap (λ b. b && ((new_row schema rows call session no_name).code == 1) && is_none (partition_of schema (row_key schema.types (new_row schema rows call session no_name)))) only.insert)
      ∙ or_false (asks_for_high_root schema call)
      ∙ ap (λ b. (is_unique call || b) && list_any (asks_high_root schema) call.ssas) only.insert
      ∙ ap (λ b. b && list_any (asks_high_root schema) call.ssas) (or_false (is_unique call));
  none = ap (λ b. (finds_nothing schema rows session call && not (is_at_end schema rows session call)) || (b && not (has_parent schema rows call session))) only.insert
      ∙ or_false (finds_nothing schema rows session call && not (is_at_end schema rows session call))
      ∙ ap (λ b. (b && is_none (got schema rows call session)) && not (is_at_end schema rows session call)) only.get;
  end = ap (λ b. is_next call && (b && is_none (got schema rows call session)) && list_all (λ (ssa : Ssa). length ssa.clauses == 0) call.ssas) only.get;
}

-- the rows of the table that no get meets
rest_none : (schema : Schema) (rows : List Row) (free : ℕ) (session : Session) (call : Call) → IsOnlyGet call
    → first_that_holds ((is_insert call && not (has_free_key schema rows (new_row schema rows call session no_name)), codes "II") ∷ (changes_key schema rows session call, codes "DA") ∷ (takes_key schema rows session call, codes "NI")
    ∷ (nat_lt free (need_of schema rows session call), codes "+R") ∷ []) ≡ None
rest_none schema rows free session call only =
    let t8 : List (Bool × List ℕ) = (nat_lt free (need_of schema rows session call), codes "+R") ∷ [] in
    let t7 : List (Bool × List ℕ) = (takes_key schema rows session call, codes "NI") ∷ t8 in
    let t6 : List (Bool × List ℕ) = (changes_key schema rows session call, codes "DA") ∷ t7 in
    holds_next (is_insert call && not (has_free_key schema rows (new_row schema rows call session no_name))) (codes "II") t6 (and_left (is_insert call) _ only.insert)
    ∙ holds_next (changes_key schema rows session call) (codes "DA") t7 (and_left (is_replace call) _ only.replace)
    ∙ holds_next (takes_key schema rows session call) (codes "NI") t8
    (ap (λ b. cond b (not (list_all (enters_freely schema.types rows (new_row schema rows call session no_name)) schema.indexes))
    (cond (is_replace call) (option_map_or (λ (p : List Row × Row). not (list_all (keeps_freely schema.types rows (content_or_none schema p.1.code call) p.0 p.1) schema.indexes)) (held_row schema rows session) false) false)) only.insert
    ∙ ap (λ b. cond b (option_map_or (λ (p : List Row × Row). not (list_all (keeps_freely schema.types rows (content_or_none schema p.1.code call) p.0 p.1) schema.indexes)) (held_row schema rows session) false) false) only.replace)
    ∙ holds_next (nat_lt free (need_of schema rows session call)) (codes "+R") []
    (ap (nat_lt free) (ap (λ b. cond b (need_of_insert schema) (cond (is_replace call) (need_of_replace schema rows call session) 0)) only.insert ∙ ap (λ b. cond b (need_of_replace schema rows call session) 0) only.replace)
    ∙ le-ltb free 0 (omega arith))

-- the table of the view for a get, by what holds
view_by : (schema : Schema) (rows : List Row) (free : ℕ) (session : Session) (call : Call) (content high none end : Bool) → IsOnlyGet call
    → has_no_data schema rows session call ≡ content
    → (is_none session.index && (asks_for_high_root schema call || inserts_high_root schema rows session call)) ≡ high
    → ((finds_nothing schema rows session call && not (is_at_end schema rows session call)) || (is_insert call && not (has_parent schema rows call session))) ≡ none
    → is_at_end schema rows session call ≡ end
    → first_that_holds (view_refusals schema rows free session call) ≡ first_that_holds ((content, codes "+L") ∷ (high, codes "FM") ∷ (none, codes "GE") ∷ (end, codes "GB") ∷ [])
view_by schema rows free session call content high none end only a b c d =
    ap (λ o. cond (has_no_data schema rows session call) (Some (codes "+L")) (cond (is_none session.index && (asks_for_high_root schema call || inserts_high_root schema rows session call)) (Some (codes "FM"))
    (cond ((finds_nothing schema rows session call && not (is_at_end schema rows session call)) || (is_insert call && not (has_parent schema rows call session))) (Some (codes "GE"))
    (cond (is_at_end schema rows session call) (Some (codes "GB")) o)))) (rest_none schema rows free session call only)
    ∙ ap (λ v. cond v (Some (codes "+L")) (cond (is_none session.index && (asks_for_high_root schema call || inserts_high_root schema rows session call)) (Some (codes "FM"))
    (cond ((finds_nothing schema rows session call && not (is_at_end schema rows session call)) || (is_insert call && not (has_parent schema rows call session))) (Some (codes "GE"))
    (cond (is_at_end schema rows session call) (Some (codes "GB")) None)))) a
    ∙ ap (λ v. cond content (Some (codes "+L")) (cond v (Some (codes "FM"))
    (cond ((finds_nothing schema rows session call && not (is_at_end schema rows session call)) || (is_insert call && not (has_parent schema rows call session))) (Some (codes "GE"))
    (cond (is_at_end schema rows session call) (Some (codes "GB")) None)))) b
    ∙ ap (λ v. cond content (Some (codes "+L")) (cond high (Some (codes "FM")) (cond v (Some (codes "GE")) (cond (is_at_end schema rows session call) (Some (codes "GB")) None)))) c
    ∙ ap (λ v. cond content (Some (codes "+L")) (cond high (Some (codes "FM")) (cond none (Some (codes "GE")) (cond v (Some (codes "GB")) None)))) d

-- what is known of a get that no text and session refuse
pub record Asked (schema : Schema) (session : Session) (call : Call) : Type 0 where
  pub only : IsOnlyGet call
  pub plain : session.index ≡ None
  pub text : first_that_holds (text_refusals schema session call) ≡ None

pub decided_content : (schema : Schema) (rows : List Row) (free : ℕ) (session : Session) (call : Call) (d : Decision) → Asked schema session call → is_some call.content ≡ true
    → d ≡ said_only (codes "+L") session → d ≡ decision_of schema rows free session call
decided_content schema rows free session call d q h e =
    let v = viewed schema rows free session call q.only q.plain in
    decided_refused schema rows free session call (codes "+L") d refl
    (view_said schema rows free session call q.text ∙ view_by schema rows free session call true _ _ _ q.only (v.content ∙ h) refl refl refl) e

pub decided_high : (schema : Schema) (rows : List Row) (free : ℕ) (session : Session) (call : Call) (d : Decision) → Asked schema session call → is_some call.content ≡ false
    → (is_unique call && list_any (asks_high_root schema) call.ssas) ≡ true → d ≡ said_only (codes "FM") session → d ≡ decision_of schema rows free session call
decided_high schema rows free session call d q h k e =
    let v = viewed schema rows free session call q.only q.plain in
    decided_refused schema rows free session call (codes "FM") d refl
    (view_said schema rows free session call q.text ∙ view_by schema rows free session call false true _ _ q.only (v.content ∙ h) (v.high ∙ k) refl refl) e

pub decided_none : (schema : Schema) (rows : List Row) (free : ℕ) (session : Session) (call : Call) (status : List ℕ) (d : Decision) → Asked schema session call → is_some call.content ≡ false
    → (is_unique call && list_any (asks_high_root schema) call.ssas) ≡ false → None ≡ got schema rows call session
    → status ≡ cond (is_next call && list_all (λ (ssa : Ssa). length ssa.clauses == 0) call.ssas) (codes "GB") (codes "GE") → d ≡ said_only status session → d ≡ decision_of schema rows free session call
decided_none schema rows free session call status d q h k n s e =
    let v = viewed schema rows free session call q.only q.plain in
    let end : is_at_end schema rows session call ≡ (is_next call && list_all (λ (ssa : Ssa). length ssa.clauses == 0) call.ssas) =
    v.end ∙ ap (λ (o : Option OnPath). is_next call && is_none o && list_all (λ (ssa : Ssa). length ssa.clauses == 0) call.ssas) (sym n)
    ∙ ap (λ b. b && list_all (λ (ssa : Ssa). length ssa.clauses == 0) call.ssas) (and_true (is_next call)) in
    by (is_next call && list_all (λ (ssa : Ssa). length ssa.clauses == 0) call.ssas) end s
  where
    refusal : (b : Bool) → is_at_end schema rows session call ≡ b → refusal_of schema rows free session call ≡ first_that_holds ((false, codes "+L") ∷ (false, codes "FM") ∷ (not b, codes "GE") ∷ (b, codes "GB") ∷ [])
    refusal b t =
        let v = viewed schema rows free session call q.only q.plain in
        view_said schema rows free session call q.text
        ∙ view_by schema rows free session call false false (not b) b q.only (v.content ∙ h) (v.high ∙ k)
        (v.none ∙ ap (λ (o : Option OnPath). is_none o && not (is_at_end schema rows session call)) (sym n) ∙ ap not t) t

    by : (b : Bool) → is_at_end schema rows session call ≡ b → status ≡ cond b (codes "GB") (codes "GE") → d ≡ decision_of schema rows free session call
    by true t u = decided_refused schema rows free session call (codes "GB") d refl (refusal true t) (e ∙ ap (λ (x : List ℕ). said_only x session) u)
    by false t u = decided_refused schema rows free session call (codes "GE") d refl (refusal false t) (e ∙ ap (λ (x : List ℕ). said_only x session) u)

pub decided_found : (schema : Schema) (rows : List Row) (free : ℕ) (session : Session) (call : Call) (p : OnPath) (d : Decision) → Asked schema session call → is_some call.content ≡ false
    → (is_unique call && list_any (asks_high_root schema) call.ssas) ≡ false → Some p ≡ got schema rows call session → d ≡ found schema rows session call p → d ≡ decision_of schema rows free session call
decided_found schema rows free session call p d q h k g e =
    let v = viewed schema rows free session call q.only q.plain in
    let end : is_at_end schema rows session call ≡ false =
    v.end ∙ ap (λ (o : Option OnPath). is_next call && is_none o && list_all (λ (ssa : Ssa). length ssa.clauses == 0) call.ssas) (sym g)
    ∙ and_left (is_next call && false) _ (and_right (is_next call) false refl) in
    let refusal : refusal_of schema rows free session call ≡ None =
    view_said schema rows free session call q.text
    ∙ view_by schema rows free session call false false false false q.only (v.content ∙ h) (v.high ∙ k)
    (v.none ∙ ap (λ (o : Option OnPath). is_none o && not (is_at_end schema rows session call)) (sym g)) end in
    e ∙ sym (ap (λ (o : Option (List ℕ)). option_map_or (refused schema rows session call) o (carried_out schema rows session call)) refusal
    ∙ ap (λ b. cond b (option_map_or (found schema rows session call) (got schema rows call session) (refused schema rows session call (codes "GE"))) (cond (is_insert call) (inserts schema rows session call) (changes_held schema rows session call))) q.only.get
    ∙ ap (λ (o : Option OnPath). option_map_or (found schema rows session call) o (refused schema rows session call (codes "GE"))) (sym g))

no_healing : (schema : Schema) (session : Session) (spot : Spot) → session.index ≡ None → healing session spot ≡ Nothing
no_healing schema session spot plain = by (allows (codes "IRDA") session)
  where
    by : (b : Bool) → cond b (option_map_or (λ index. Heal index (entry_named spot.at)) session.index Nothing) Nothing ≡ Nothing
    by true = ap (λ (o : Option ℕ). option_map_or (λ index. Heal index (entry_named spot.at)) o Nothing) plain
    by false = refl

type_name : (o : Option SegType) (name : List ℕ) → Some name ≡ option_map (λ (t : SegType). t.name) o → name ≡ option_map_or (λ (t : SegType). t.name) o []
type_name None name e = absurd (let no : ⊥ = cc in no)
type_name (Some t) name e = cc

pub found_is : (schema : Schema) (rows : List Row) (session : Session) (call : Call) (p : OnPath) (status name key content : List ℕ) (reply : Reply) (after : Session) → session.index ≡ None
    → status ≡ got_status schema rows call session p.1 → Some name ≡ option_map (λ (t : SegType). t.name) (type_of schema.types p.1.code) → key ≡ p.1.key → content ≡ shown_content schema call.ssas p
    → reply ≡ reply_of status (Some (record { seg = name; key = key; content = Some content })) → after ≡ after_get call session p.1
    → (let d : Decision = record { reply = reply; change = Nothing; session = after } in d ≡ found schema rows session call p)
found_is schema rows session call p status name key content reply after plain s n k c r a =
    let F : Reply → Change → Session → Decision = λ reply change after. record { reply = reply; change = change; session = after } in
    let G : List ℕ → List ℕ → List ℕ → List ℕ → Reply = λ status name key content. reply_of status (Some (record { seg = name; key = key; content = Some content })) in
    ap (λ x. F x Nothing after) (r ∙ ap (λ x. G x name key content) s ∙ ap (λ x. G (got_status schema rows call session p.1) x key content) (type_name (type_of schema.types p.1.code) name n)
    ∙ ap (λ x. G (got_status schema rows call session p.1) (name_of_type schema p.1.code) x content) k ∙ ap (λ x. G (got_status schema rows call session p.1) (name_of_type schema p.1.code) p.1.key x) c)
    ∙ ap (λ x. F (reply_of (got_status schema rows call session p.1) (Some (got_segment schema call p))) x after) (sym (no_healing schema session p.1 plain))
    ∙ ap (F (reply_of (got_status schema rows call session p.1) (Some (got_segment schema call p))) (healing session p.1)) a

-- a call that none of these refuses is not refused unseen
pub not_unseen : (schema : Schema) (session : Session) (call : Call) → Asked schema session call → is_some call.content ≡ false → (is_unique call && list_any (asks_high_root schema) call.ssas) ≡ false → is_refused_unseen schema session call ≡ false
not_unseen schema session call q content high =
    let asks : asks_for_high_root schema call ≡ false = ap (λ b. b && list_any (asks_high_root schema) call.ssas) (ap (λ b. is_unique call || b) q.only.insert ∙ or_false (is_unique call)) ∙ high in
    ap (λ (o : Option (List ℕ)). (is_some o || is_some call.content) || asks_for_high_root schema call) q.text
    ∙ ap (λ b. b || asks_for_high_root schema call) content ∙ asks
