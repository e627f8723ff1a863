-- The decision of an ISRT.
use Rattle.std.proofs.Common.{◌≡◌, ℕ, ◌==◌, Bool, true, false, not, cond, ◌||◌, List, [], ◌++◌, Option, None, Some, refl, sym, ap, ◌∙◌}
use Rattle.std.specs.Prelude.{codes, nat_lt, is_some, is_none, option_and_then}
use Rattle.std.specs.List.{list_all, list_any}
use Rattle.std.specs.Option.{option_map, option_map_or}
use Rattle.hal_schema.specs.declared.row.Row.{Row}
use Rattle.hal_schema.specs.declared.schema.Schema.{Schema}
use Rattle.hal_schema.specs.Insertion.{enters_freely, has_free_key}
use Rattle.hal_schema.specs.Row.{row_key}
use Rattle.call_text.specs.declared.line.Call.{Call}
use Rattle.position_state.specs.declared.session.Session.{Session}
use Rattle.position_state.specs.declared.spot.Spot.{Spot}
use Rattle.position_state.specs.declared.spot.Change.TheVariants.{Insert}
use Rattle.position_state.specs.View.{root_named}
use Rattle.dli_calls.specs.declared.decision.Decision.{Decision}
use Rattle.dli_calls.specs.Changes.{content_for, content_or_none, found_parent, has_parent, inserted_code, name_at, need_of_insert, new_key, new_root, new_row, no_name}
use Rattle.dli_calls.specs.Decided.{carried_out, changes_held, decision_of, found, inserts, refused, reply_of, unheld}
use Rattle.dli_calls.specs.Gets.{blank_status, got, name_of_type}
use Rattle.dli_calls.specs.Refusals.{asks_high_root, first_that_holds, text_refusals, is_insert, refusal_of}
use Rattle.call_changes.specs.Inserts.{inserted_below, is_high_root, key_below, placed_below, root_below, row_below, wanted_parent}
use Rattle.hal_schema.specs.declared.schema.SegType.{SegType}
use Rattle.hal_schema.specs.SegType.{type_of}
use Rattle.dli_calls.specs.Ssas.{fitted}
use Rattle.call_changes.specs.Outcome.{refused_with}
use Rattle.call_changes.proofs.Deciding.{IsOther, Says, table, refusal_is, decided_refused, decided_room}

-- what is known of an ISRT that text and session don't refuse
pub record Inserts (schema : Schema) (session : Session) (call : Call) (c : ℕ) : Type 0 where
  pub only : IsOther call true false
  pub plain : session.index ≡ None
  pub text : first_that_holds (text_refusals schema session call) ≡ None
  pub code : c ≡ inserted_code schema call

-- the element of its parent and its data
pub record IsAsked (schema : Schema) (rows : List Row) (session : Session) (call : Call) (code : ℕ) (above : Option Spot) (text : List ℕ) : Type 0 where
  pub parent : above ≡ wanted_parent schema rows call session
  pub content : content_for schema code call ≡ Some text

says_of : (schema : Schema) (rows : List Row) (free : ℕ) (session : Session) (call : Call) (told high none key takes room : Bool) → IsOther call true false → session.index ≡ None
    → is_none (content_for schema (inserted_code schema call) call) ≡ told
    → (list_any (asks_high_root schema) call.ssas || is_high_root schema (new_row schema rows call session no_name).code (new_row schema rows call session no_name).content) ≡ high
    → not (has_parent schema rows call session) ≡ none → not (has_free_key schema rows (new_row schema rows call session no_name)) ≡ key
    → not (list_all (enters_freely schema.types rows (new_row schema rows call session no_name)) schema.indexes) ≡ takes → nat_lt free (need_of_insert schema) ≡ room
    → Says schema rows free session call told high none false key false takes room
says_of schema rows free session call told high none key takes room only plain a b c d e f = record {
  content = simp only.insert a;
  high = simp (plain, only.unique, only.insert) b;
  none = simp (only.get, only.insert) c;
  end = simp only.next;
  key = simp only.insert d;
  changes = simp only.replace;
  takes = simp only.insert e;
  room = simp only.insert f;
}

-- the parent's element or what it gives, none for a root
given_by : {X : Type 0} (f : Spot → Option X) (root : Bool) (o : Option Spot) → cond root None (option_and_then f o) ≡ option_and_then f (cond root None o)
given_by f true o = refl
given_by f false o = refl

keys_by : (root : Bool) (o : Option Spot) → cond root [] (option_map_or (λ (spot : Spot). spot.key) o []) ≡ option_map_or (λ (spot : Spot). spot.key) (cond root None o) []
keys_by true o = refl
keys_by false o = refl

-- the new row is that of the definition
pub new_is : (schema : Schema) (rows : List Row) (session : Session) (call : Call) (code : ℕ) (parent : Option Spot) (content : List ℕ) → code ≡ inserted_code schema call → IsAsked schema rows session call code parent content
    → new_row schema rows call session no_name ≡ row_below code parent content
new_is schema rows session call code parent content same asked = λ i. record { name = no_name; code = of_code i; parent = of_parent i; content = of_content i }
  where
    of_code : inserted_code schema call ≡ code
    of_code = sym same

    of_parent : (new_row schema rows call session no_name).parent ≡ (row_below code parent content).parent
    of_parent = given_by (λ (spot : Spot). name_at spot.at) (inserted_code schema call == 1) (found_parent schema rows call session) ∙ ap (λ (o : Option Spot). option_and_then (λ (spot : Spot). name_at spot.at) o) (sym asked.parent)

    of_content : content_or_none schema (inserted_code schema call) call ≡ content
    of_content = ap (λ (c : ℕ). content_or_none schema c call) (sym same) ∙ ap (λ (o : Option (List ℕ)). option_map_or (λ content. content) o []) asked.content

pub decided_data : (schema : Schema) (rows : List Row) (free : ℕ) (session : Session) (call : Call) (code : ℕ) (d : Decision) → Inserts schema session call code → content_for schema code call ≡ None
    → d ≡ refused_with (codes "+L") None session → d ≡ decision_of schema rows free session call
decided_data schema rows free session call code d q none h =
    decided_refused schema rows free session call (codes "+L") d refl refl
    (refusal_is schema rows free session call true _ _ false _ false _ _ q.text
    (says_of schema rows free session call true _ _ _ _ _ q.only q.plain (ap (λ (c : ℕ). is_none (content_for schema c call)) (sym q.code) ∙ ap (λ (o : Option (List ℕ)). is_none o) none) refl refl refl refl refl)) h

-- what the table says by the new row
row_says : (schema : Schema) (rows : List Row) (free : ℕ) (session : Session) (call : Call) (code : ℕ) (parent : Option Spot) (content : List ℕ) (high none key takes room : Bool) → Inserts schema session call code → IsAsked schema rows session call code parent content
    → (list_any (asks_high_root schema) call.ssas || is_high_root schema code content) ≡ high → not (has_parent schema rows call session) ≡ none
    → not (has_free_key schema rows (row_below code parent content)) ≡ key → not (list_all (enters_freely schema.types rows (row_below code parent content)) schema.indexes) ≡ takes → nat_lt free (need_of_insert schema) ≡ room
    → refusal_of schema rows free session call ≡ table false high none false key false takes room
row_says schema rows free session call code parent content high none key takes room q asked b c d e f =
    let same = new_is schema rows session call code parent content q.code asked in
    refusal_is schema rows free session call false high none false key false takes room q.text
    (says_of schema rows free session call false high none key takes room q.only q.plain
    (ap (λ (c : ℕ). is_none (content_for schema c call)) (sym q.code) ∙ ap (λ (o : Option (List ℕ)). is_none o) asked.content)
    (ap (λ (row : Row). list_any (asks_high_root schema) call.ssas || is_high_root schema row.code row.content) same ∙ b) c
    (ap (λ (row : Row). not (has_free_key schema rows row)) same ∙ d) (ap (λ (row : Row). not (list_all (enters_freely schema.types rows row) schema.indexes)) same ∙ e) f)

-- FM is said before a parent is looked for
pub decided_high : (schema : Schema) (rows : List Row) (free : ℕ) (session : Session) (call : Call) (code : ℕ) (content : List ℕ) (d : Decision) → Inserts schema session call code → content_for schema code call ≡ Some content
    → (list_any (asks_high_root schema) call.ssas || is_high_root schema code content) ≡ true → d ≡ refused_with (codes "FM") None session → d ≡ decision_of schema rows free session call
decided_high schema rows free session call code content d q fits high h =
    decided_refused schema rows free session call (codes "FM") d refl refl
    (row_says schema rows free session call code (wanted_parent schema rows call session) content true _ _ _ _ q (record { parent = refl; content = fits }) high refl refl refl refl) h

-- a row other than a root needs a parent
parent_by : (root : Bool) (o : Option Spot) → cond root true (option_map_or (λ (spot : Spot). true) o false) ≡ (root || is_some (cond root None o))
parent_by true o = refl
parent_by false None = refl
parent_by false (Some spot) = refl

pub has_parent_is : (schema : Schema) (rows : List Row) (session : Session) (call : Call) (code : ℕ) (parent : Option Spot) → code ≡ inserted_code schema call → parent ≡ wanted_parent schema rows call session
    → has_parent schema rows call session ≡ (code == 1 || is_some parent)
has_parent_is schema rows session call code parent same is =
    parent_by (inserted_code schema call == 1) (found_parent schema rows call session)
    ∙ ap (λ (c : ℕ). c == 1 || is_some (wanted_parent schema rows call session)) (sym same)
    ∙ ap (λ (o : Option Spot). code == 1 || is_some o) (sym is)

pub decided_parent : (schema : Schema) (rows : List Row) (free : ℕ) (session : Session) (call : Call) (code : ℕ) (parent : Option Spot) (content : List ℕ) (d : Decision) → Inserts schema session call code → IsAsked schema rows session call code parent content
    → (list_any (asks_high_root schema) call.ssas || is_high_root schema code content) ≡ false → (code == 1 || is_some parent) ≡ false → d ≡ refused_with (codes "GE") None session → d ≡ decision_of schema rows free session call
decided_parent schema rows free session call code parent content d q asked high none h =
    decided_refused schema rows free session call (codes "GE") d refl refl
    (row_says schema rows free session call code parent content false true _ _ _ q asked high (ap not (has_parent_is schema rows session call code parent q.code asked.parent ∙ none)) refl refl refl) h

-- what is left where a parent is found and no root is too high
pub record Found (schema : Schema) (rows : List Row) (session : Session) (call : Call) (code : ℕ) (above : Option Spot) (content : List ℕ) : Type 0 where
  pub asked : IsAsked schema rows session call code above content
  pub high : (list_any (asks_high_root schema) call.ssas || is_high_root schema code content) ≡ false
  pub parent : (code == 1 || is_some above) ≡ true

left_says : (schema : Schema) (rows : List Row) (free : ℕ) (session : Session) (call : Call) (code : ℕ) (parent : Option Spot) (content : List ℕ) (key takes room : Bool) → Inserts schema session call code → Found schema rows session call code parent content
    → not (has_free_key schema rows (row_below code parent content)) ≡ key → not (list_all (enters_freely schema.types rows (row_below code parent content)) schema.indexes) ≡ takes → nat_lt free (need_of_insert schema) ≡ room
    → refusal_of schema rows free session call ≡ table false false false false key false takes room
left_says schema rows free session call code parent content key takes room q f =
    row_says schema rows free session call code parent content false false key takes room q f.asked f.high (ap not (has_parent_is schema rows session call code parent q.code f.asked.parent ∙ f.parent))

pub decided_twin : (schema : Schema) (rows : List Row) (free : ℕ) (session : Session) (call : Call) (code : ℕ) (parent : Option Spot) (content : List ℕ) (d : Decision) → Inserts schema session call code → Found schema rows session call code parent content
    → not (has_free_key schema rows (row_below code parent content)) ≡ true → d ≡ refused_with (codes "II") None session → d ≡ decision_of schema rows free session call
decided_twin schema rows free session call code parent content d q f twin h =
    decided_refused schema rows free session call (codes "II") d refl refl (left_says schema rows free session call code parent content true _ _ q f twin refl refl) h

pub decided_taken : (schema : Schema) (rows : List Row) (free : ℕ) (session : Session) (call : Call) (code : ℕ) (parent : Option Spot) (content : List ℕ) (d : Decision) → Inserts schema session call code → Found schema rows session call code parent content
    → not (has_free_key schema rows (row_below code parent content)) ≡ false → not (list_all (enters_freely schema.types rows (row_below code parent content)) schema.indexes) ≡ true
    → d ≡ refused_with (codes "NI") None session → d ≡ decision_of schema rows free session call
decided_taken schema rows free session call code parent content d q f twin takes h =
    decided_refused schema rows free session call (codes "NI") d refl refl (left_says schema rows free session call code parent content false true _ q f twin takes refl) h

pub decided_full : (schema : Schema) (rows : List Row) (free : ℕ) (session : Session) (call : Call) (code : ℕ) (parent : Option Spot) (content : List ℕ) (d : Decision) → Inserts schema session call code → Found schema rows session call code parent content
    → not (has_free_key schema rows (row_below code parent content)) ≡ false → not (list_all (enters_freely schema.types rows (row_below code parent content)) schema.indexes) ≡ false
    → nat_lt free (need_of_insert schema) ≡ true → d ≡ refused_with (codes "+R") (Some (need_of_insert schema)) session → d ≡ decision_of schema rows free session call
decided_full schema rows free session call code parent content d q f twin takes room h =
    decided_room schema rows free session call (need_of_insert schema) d (left_says schema rows free session call code parent content false false true q f twin takes room)
    (simp q.only.insert) h

-- where the new row's parent is found, its root is that of the definition
root_by : (schema : Schema) (root : Bool) (o : Option Spot) (key : List ℕ) → (root || is_some (cond root None o)) ≡ true
    → cond root key (option_map_or (λ (spot : Spot). root_named spot.at) o []) ≡ option_map_or (λ (spot : Spot). root_named spot.at) (cond root None o) key
root_by schema true o key h = refl
root_by schema false None key h = absurd (let no : ⊥ = cc in no)
root_by schema false (Some spot) key h = refl

pub inserted_is : (schema : Schema) (rows : List Row) (session : Session) (call : Call) (code : ℕ) (parent : Option Spot) (content : List ℕ) → Inserts schema session call code → Found schema rows session call code parent content
    → inserted_below schema session code parent content ≡ inserts schema rows session call
inserted_is schema rows session call code parent content q f = λ i. record {
  reply = reply_of blank_status (Some (record { seg = name_of_type schema (of_code i); key = of_key i; content = None }));
  change = Insert (of_row i).parent (of_root i) (of_row i).code (of_row i).content;
  session = unheld session;
}
  where
    of_row : row_below code parent content ≡ new_row schema rows call session no_name
    of_row = sym (new_is schema rows session call code parent content q.code f.asked)

    of_code : code ≡ inserted_code schema call
    of_code = q.code

    of_key : key_below schema.types code parent content ≡ new_key schema rows call session
    of_key =
        ap (λ (row : Row). option_map_or (λ (spot : Spot). spot.key) parent [] ++ row_key schema.types row) of_row
        ∙ ap (λ (keys : List ℕ). keys ++ row_key schema.types (new_row schema rows call session no_name))
        (ap (λ (o : Option Spot). option_map_or (λ (spot : Spot). spot.key) o []) f.asked.parent ∙ sym (keys_by (inserted_code schema call == 1) (found_parent schema rows call session)))

    of_root : root_below schema.types code parent content ≡ new_root schema rows call session
    of_root =
        ap (λ (row : Row). option_map_or (λ (spot : Spot). root_named spot.at) parent (row_key schema.types row)) of_row
        ∙ ap (λ (o : Option Spot). option_map_or (λ (spot : Spot). root_named spot.at) o (row_key schema.types (new_row schema rows call session no_name))) f.asked.parent
        ∙ sym (root_by schema (inserted_code schema call == 1) (found_parent schema rows call session) (row_key schema.types (new_row schema rows call session no_name))
        (ap (λ (c : ℕ). c == 1 || is_some (wanted_parent schema rows call session)) (sym q.code) ∙ ap (λ (o : Option Spot). code == 1 || is_some o) (sym f.asked.parent) ∙ f.parent))

pub decided_insert : (schema : Schema) (rows : List Row) (free : ℕ) (session : Session) (call : Call) (code : ℕ) (parent : Option Spot) (content : List ℕ) (d : Decision) → Inserts schema session call code → Found schema rows session call code parent content
    → not (has_free_key schema rows (row_below code parent content)) ≡ false → not (list_all (enters_freely schema.types rows (row_below code parent content)) schema.indexes) ≡ false
    → nat_lt free (need_of_insert schema) ≡ false → d ≡ inserted_below schema session code parent content → d ≡ decision_of schema rows free session call
decided_insert schema rows free session call code parent content d q f twin takes room h =
    h ∙ inserted_is schema rows session call code parent content q f
    ∙ sym (ap (λ (o : Option (List ℕ)). option_map_or (refused schema rows session call) o (carried_out schema rows session call)) (left_says schema rows free session call code parent content false false false q f twin takes room)
    ∙ ap (λ b. cond b (option_map_or (found schema rows session call) (got schema rows call session) (refused schema rows session call (codes "GE"))) (cond (is_insert call) (inserts schema rows session call) (changes_held schema rows session call))) q.only.get
    ∙ ap (λ b. cond b (inserts schema rows session call) (changes_held schema rows session call)) q.only.insert)

-- what is decided of a row that may stand below the element
pub decided_placed : (schema : Schema) (rows : List Row) (free : ℕ) (session : Session) (call : Call) (code : ℕ) (parent : Option Spot) (content : List ℕ) (d : Decision) → Inserts schema session call code → Found schema rows session call code parent content
    → d ≡ placed_below schema rows free session code parent content → d ≡ decision_of schema rows free session call
decided_placed schema rows free session call code parent content d q f h =
    by (has_free_key schema rows (row_below code parent content)) (list_all (enters_freely schema.types rows (row_below code parent content)) schema.indexes) (nat_lt free (need_of_insert schema)) refl refl refl h
  where
    by : (twin enters room : Bool) → has_free_key schema rows (row_below code parent content) ≡ twin → list_all (enters_freely schema.types rows (row_below code parent content)) schema.indexes ≡ enters → nat_lt free (need_of_insert schema) ≡ room
        → d ≡ cond (not twin) (refused_with (codes "II") None session) (cond (not enters) (refused_with (codes "NI") None session) (cond room (refused_with (codes "+R") (Some (need_of_insert schema)) session) (inserted_below schema session code parent content)))
        → d ≡ decision_of schema rows free session call
    by false enters room t e r k = decided_twin schema rows free session call code parent content d q f (ap not t) k
    by true false room t e r k = decided_taken schema rows free session call code parent content d q f (ap not t) (ap not e) k
    by true true true t e r k = decided_full schema rows free session call code parent content d q f (ap not t) (ap not e) r k
    by true true false t e r k = decided_insert schema rows free session call code parent content d q f (ap not t) (ap not e) r k

-- data doesn't fit a type that isn't there
pub no_type : (schema : Schema) (code : ℕ) (call : Call) → option_map (λ (t : SegType). t.name) (type_of schema.types code) ≡ None → content_for schema code call ≡ None
no_type schema code call h = by (type_of schema.types code) h
  where
    by : (o : Option SegType) → option_map (λ (t : SegType). t.name) o ≡ None → option_and_then (λ (t : SegType). option_and_then (fitted t.bytes) call.content) o ≡ None
    by None k = refl
    by (Some t) k = absurd (let no : ⊥ = cc in no)
