-- The decision of a call that changes, by what its text says and what is found.
use Rattle.std.proofs.Common.{◌≡◌, ℕ, Bool, true, false, not, cond, ◌&&◌, ◌||◌, ◌⊎◌, inl, inr, List, [], ◌∷◌, Option, None, Some, refl, sym, ap, subst, ◌∙◌}
use Rattle.std.specs.Prelude.{codes, nat_lt, is_none}
use Rattle.std.specs.List.{list_all, list_any}
use Rattle.std.specs.Option.{option_map_or}
use Rattle.std.specs.Str.{bytes_eq}
use Rattle.std.proofs.lemmas.Bool.{and_parts, not-true, or_cases}
use Rattle.std.proofs.lemmas.Slice.Eq.{bytes_eq-Decides}
use Rattle.hal_schema.specs.declared.row.Row.{Row}
use Rattle.hal_schema.specs.declared.schema.Schema.{Schema}
use Rattle.call_text.specs.declared.line.Call.{Call}
use Rattle.position_state.specs.declared.session.Session.{Session}
use Rattle.dli_calls.specs.Changes.{has_parent, new_row, no_name}
use Rattle.hal_schema.specs.Insertion.{has_free_key}
use Rattle.dli_calls.specs.declared.decision.Decision.{Decision}
use Rattle.dli_calls.specs.Gets.{is_get, is_next, is_unique, is_one_of}
use Rattle.dli_calls.specs.Refusals.{first_that_holds, is_insert, is_replace, is_delete, text_refusals, refusal_of, has_no_data, asks_for_high_root, inserts_high_root, finds_nothing, is_at_end, changes_key, takes_key, need_of}
use Rattle.dli_calls.specs.Decided.{decision_of, carried_out, refused, found, inserts, changes_held, held_change}
use Rattle.dli_calls.specs.Gets.{got}
use Rattle.position_state.specs.declared.session.Anchor.TheVariants.{Front}
use Rattle.position_state.specs.declared.spot.Change.{Change}
use Rattle.position_state.specs.declared.spot.Change.TheVariants.{Nothing}
use Rattle.position_state.specs.Keep.{changed, kept_session}
use Rattle.position_state.specs.Lawful.{IsLawful}
use Rattle.call_changes.specs.Outcome.{carried, refused_with}

-- ---- one function

one_named : (call : Call) (name : List ℕ) → is_one_of call (name ∷ []) ≡ true → call.func ≡ name
one_named call name h = by (or_cases (bytes_eq call.func name) false h)
  where
    by : (bytes_eq call.func name ≡ true) ⊎ (false ≡ true) → call.func ≡ name
    by (inl t) = (bytes_eq-Decides call.func name).0 t
    by (inr f) = absurd (let no : ⊥ = cc in no)

-- a call that is no get
pub record IsOther (call : Call) (inserts replaces : Bool) : Type 0 where
  pub get : is_get call ≡ false
  pub unique : is_unique call ≡ false
  pub next : is_next call ≡ false
  pub insert : is_insert call ≡ inserts
  pub replace : is_replace call ≡ replaces

pub only_delete : (call : Call) → is_delete call ≡ true → IsOther call false false
only_delete call h =
    let e : call.func ≡ codes "DLET" = one_named call (codes "DLET") h in
    record {
      get = ap (λ f. list_any (bytes_eq f) (codes "GU" ∷ codes "GN" ∷ codes "GNP" ∷ codes "GHU" ∷ codes "GHN" ∷ codes "GHNP" ∷ [])) e;
      unique = ap (λ f. list_any (bytes_eq f) (codes "GU" ∷ codes "GHU" ∷ [])) e;
      next = ap (λ f. list_any (bytes_eq f) (codes "GN" ∷ codes "GHN" ∷ [])) e;
      insert = ap (λ f. list_any (bytes_eq f) (codes "ISRT" ∷ [])) e;
      replace = ap (λ f. list_any (bytes_eq f) (codes "REPL" ∷ [])) e;
    }

pub only_replace : (call : Call) → is_replace call ≡ true → IsOther call false true
only_replace call h =
    let e : call.func ≡ codes "REPL" = one_named call (codes "REPL") h in
    record {
      get = ap (λ f. list_any (bytes_eq f) (codes "GU" ∷ codes "GN" ∷ codes "GNP" ∷ codes "GHU" ∷ codes "GHN" ∷ codes "GHNP" ∷ [])) e;
      unique = ap (λ f. list_any (bytes_eq f) (codes "GU" ∷ codes "GHU" ∷ [])) e;
      next = ap (λ f. list_any (bytes_eq f) (codes "GN" ∷ codes "GHN" ∷ [])) e;
      insert = ap (λ f. list_any (bytes_eq f) (codes "ISRT" ∷ [])) e;
      replace = ap (λ f. list_any (bytes_eq f) (codes "REPL" ∷ [])) e;
    }

pub only_insert : (call : Call) → is_insert call ≡ true → IsOther call true false
only_insert call h =
    let e : call.func ≡ codes "ISRT" = one_named call (codes "ISRT") h in
    record {
      get = ap (λ f. list_any (bytes_eq f) (codes "GU" ∷ codes "GN" ∷ codes "GNP" ∷ codes "GHU" ∷ codes "GHN" ∷ codes "GHNP" ∷ [])) e;
      unique = ap (λ f. list_any (bytes_eq f) (codes "GU" ∷ codes "GHU" ∷ [])) e;
      next = ap (λ f. list_any (bytes_eq f) (codes "GN" ∷ codes "GHN" ∷ [])) e;
      insert = ap (λ f. list_any (bytes_eq f) (codes "ISRT" ∷ [])) e;
      replace = ap (λ f. list_any (bytes_eq f) (codes "REPL" ∷ [])) e;
    }

-- ---- tables

-- no status of the table is this one
said_apart : (status : List ℕ) (rows : List (Bool × List ℕ)) (said : List ℕ) → list_all (λ (row : Bool × List ℕ). not (bytes_eq row.1 status)) rows ≡ true → first_that_holds rows ≡ Some said → bytes_eq said status ≡ false
said_apart status [] said h e = absurd (let no : ⊥ = cc in no)
said_apart status (row ∷ rows) said h e =
    let a = and_parts (not (bytes_eq row.1 status)) (list_all (λ (row : Bool × List ℕ). not (bytes_eq row.1 status)) rows) h in
    by row.0 a.0 (said_apart status rows said a.1) e
  where
    by : (b : Bool) → not (bytes_eq row.1 status) ≡ true → (first_that_holds rows ≡ Some said → bytes_eq said status ≡ false) → cond b (Some row.1) (first_that_holds rows) ≡ Some said → bytes_eq said status ≡ false
    by true n rest k = let same : row.1 ≡ said = cc in ap (λ s. bytes_eq s status) (sym same) ∙ not-true (bytes_eq row.1 status) n
    by false n rest k = rest k

-- the table of the view, by what of it holds
abbrev pub table : Bool → Bool → Bool → Bool → Bool → Bool → Bool → Bool → Option (List ℕ)
table content high none end key changes takes room =
    cond content (Some (codes "+L")) (cond high (Some (codes "FM")) (cond none (Some (codes "GE")) (cond end (Some (codes "GB"))
    (cond key (Some (codes "II")) (cond changes (Some (codes "DA")) (cond takes (Some (codes "NI")) (cond room (Some (codes "+R")) None)))))))

table_is : (a b c d e f g h i j k l m n o p : Bool) → a ≡ i → b ≡ j → c ≡ k → d ≡ l → e ≡ m → f ≡ n → g ≡ o → h ≡ p → table a b c d e f g h ≡ table i j k l m n o p
table_is a b c d e f g h i j k l m n o p ai bj ck dl em fn go hp = cc

-- what the table of the view says of a call
pub record Says (schema : Schema) (rows : List Row) (free : ℕ) (session : Session) (call : Call) (a b c d e f g h : Bool) : Type 0 where
  pub content : has_no_data schema rows session call ≡ a
  pub high : (is_none session.index && (asks_for_high_root schema call || inserts_high_root schema rows session call)) ≡ b
  pub none : ((finds_nothing schema rows session call && not (is_at_end schema rows session call)) || (is_insert call && not (has_parent schema rows call session))) ≡ c
  pub end : is_at_end schema rows session call ≡ d
  pub key : (is_insert call && not (has_free_key schema rows (new_row schema rows call session no_name))) ≡ e
  pub changes : changes_key schema rows session call ≡ f
  pub takes : takes_key schema rows session call ≡ g
  pub room : nat_lt free (need_of schema rows session call) ≡ h

pub refusal_is : (schema : Schema) (rows : List Row) (free : ℕ) (session : Session) (call : Call) (content high none end key changes takes room : Bool) → first_that_holds (text_refusals schema session call) ≡ None
    → Says schema rows free session call content high none end key changes takes room → refusal_of schema rows free session call ≡ table content high none end key changes takes room
refusal_is schema rows free session call content high none end key changes takes room text says =
    rw text
    (table_is _ _ _ _ _ _ _ _ content high none end key changes takes room says.content says.high says.none says.end says.key says.changes says.takes says.room)

-- ---- refusals

-- a refusal other than GB and +R
refused_as : (schema : Schema) (rows : List Row) (session : Session) (call : Call) (status : List ℕ) → bytes_eq status (codes "+R") ≡ false → bytes_eq status (codes "GB") ≡ false
    → refused_with status None session ≡ refused schema rows session call status
refused_as schema rows session call status r g =
    ap (λ b. let d : Decision = record { reply = record { status = status; seg = None; part = None; number = cond b (Some (need_of schema rows session call)) None }; change = Nothing; session = record session { held = None } } in d) (sym r)
    ∙ ap (λ b. let d : Decision = record {
      reply = record { status = status; seg = None; part = None; number = cond (bytes_eq status (codes "+R")) (Some (need_of schema rows session call)) None };
      change = Nothing;
      session = cond b (record session { anchor = Front; held = None; parent = None }) (record session { held = None });
    } in d) (sym g)

pub decided_refused : (schema : Schema) (rows : List Row) (free : ℕ) (session : Session) (call : Call) (status : List ℕ) (d : Decision) → bytes_eq status (codes "+R") ≡ false → bytes_eq status (codes "GB") ≡ false
    → refusal_of schema rows free session call ≡ Some status → d ≡ refused_with status None session → d ≡ decision_of schema rows free session call
decided_refused schema rows free session call status d r g e h =
    h ∙ refused_as schema rows session call status r g ∙ sym (ap (λ (o : Option (List ℕ)). option_map_or (refused schema rows session call) o (carried_out schema rows session call)) e)

pub decided_text : (schema : Schema) (rows : List Row) (free : ℕ) (session : Session) (call : Call) (status : List ℕ) (d : Decision) → first_that_holds (text_refusals schema session call) ≡ Some status
    → d ≡ refused_with status None session → d ≡ decision_of schema rows free session call
decided_text schema rows free session call status d e h =
    decided_refused schema rows free session call status d (said_apart (codes "+R") (text_refusals schema session call) status refl e) (said_apart (codes "GB") (text_refusals schema session call) status refl e)
    (rw e refl) h

-- ---- changes of the held row

pub is_carried : (schema : Schema) (rows : List Row) (free : ℕ) (session : Session) (call : Call) (replace : Bool) (change : Change) (d : Decision) → IsOther call false replace → refusal_of schema rows free session call ≡ None
    → change ≡ option_map_or (held_change schema rows session call) session.held Nothing
    → d ≡ carried change (kept_session schema change rows (changed schema change no_name rows) session) → d ≡ decision_of schema rows free session call
is_carried schema rows free session call replace change d only none same h =
    h ∙ ap (λ (c : Change). carried c (kept_session schema c rows (changed schema c no_name rows) session)) same
    ∙ sym (ap (λ (o : Option (List ℕ)). option_map_or (refused schema rows session call) o (carried_out schema rows session call)) none
    ∙ ap (λ b. cond b (option_map_or (found schema rows session call) (got schema rows call session) (refused schema rows session call (codes "GE"))) (cond (is_insert call) (inserts schema rows session call) (changes_held schema rows session call))) only.get
    ∙ ap (λ b. cond b (inserts schema rows session call) (changes_held schema rows session call)) only.insert)

-- ---- changes that are lawful

pub refused_lawful : (schema : Schema) (rows : List Row) (status : List ℕ) (number : Option ℕ) (session : Session) (d : Decision) → d ≡ refused_with status number session → IsLawful schema rows d.change
refused_lawful schema rows status number session d h = subst (λ (c : Change). IsLawful schema rows c) (sym (ap (λ (d : Decision). d.change) h)) refl

pub carried_lawful : (schema : Schema) (rows : List Row) (change : Change) (left : Session) (d : Decision) → d ≡ carried change left → IsLawful schema rows change → IsLawful schema rows d.change
carried_lawful schema rows change left d h law = subst (λ (c : Change). IsLawful schema rows c) (sym (ap (λ (d : Decision). d.change) h)) law

pub decided_room : (schema : Schema) (rows : List Row) (free : ℕ) (session : Session) (call : Call) (need : ℕ) (d : Decision) → refusal_of schema rows free session call ≡ Some (codes "+R")
    → need_of schema rows session call ≡ need → d ≡ refused_with (codes "+R") (Some need) session → d ≡ decision_of schema rows free session call
decided_room schema rows free session call need d e same h =
    h ∙ ap (λ (n : ℕ). refused_with (codes "+R") (Some n) session) (sym same)
    ∙ sym (ap (λ (o : Option (List ℕ)). option_map_or (refused schema rows session call) o (carried_out schema rows session call)) e)
