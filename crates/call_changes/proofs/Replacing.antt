-- The decision of a REPL.
use Rattle.std.proofs.Common.{◌≡◌, ℕ, ◌-◌, ◌≤◌, ◌==◌, Bool, true, false, not, cond, ◌&&◌, ◌||◌, List, [], ◌∷◌, ◌++◌, length, Option, None, Some, refl, sym, ap, ◌∙◌, arith}
use Rattle.std.specs.Prelude.{codes, nat_lt, nat_le, is_some, is_none, replicate, find, map, count_by, option_and_then, IsTrue}
use Rattle.std.specs.List.{list_all}
use Rattle.std.specs.Option.{option_map, option_map_or}
use Rattle.std.specs.Str.{bytes_eq}
use Rattle.std.proofs.lemmas.Bool.{and_from, eqb-true, eq-eqb, leb-true}
use Rattle.std.proofs.lemmas.List.{length-append, length-replicate}
use Rattle.std.proofs.lemmas.Option.{cond_some, same_Some}
use Rattle.std.proofs.lemmas.Slice.Eq.{bytes_eq-Decides}
use Rattle.hal_base.specs.declared.place.Ilk.{Ilk}
use Rattle.hal_schema.specs.declared.row.Row.{Row}
use Rattle.hal_schema.specs.declared.schema.IndexDef.{IndexDef}
use Rattle.hal_schema.specs.declared.schema.Schema.{Schema}
use Rattle.hal_schema.specs.declared.schema.SegType.{SegType}
use Rattle.hal_schema.specs.Entry.{Entry, entries_of, is_taken}
use Rattle.hal_schema.specs.Paths.{paths_of}
use Rattle.hal_schema.specs.Row.{same_name}
use Rattle.hal_schema.specs.SegType.{key_in, type_of}
use Rattle.hal_schema.specs.Span.{keeps_freely, may_replace}
use Rattle.hal_schema.proofs.RowNames.{name_is, name_from}
use Rattle.call_text.specs.declared.line.Call.{Call}
use Rattle.call_text.specs.declared.line.Value.{Value}
use Rattle.call_text.specs.declared.line.Value.TheVariants.{Text, Hex}
use Rattle.position_state.specs.declared.session.Anchor.{Anchor}
use Rattle.position_state.specs.declared.session.Anchor.TheVariants.{Front, At}
use Rattle.position_state.specs.declared.session.Session.{Session}
use Rattle.position_state.specs.declared.spot.Spot.{Spot}
use Rattle.position_state.specs.declared.spot.Change.{Change}
use Rattle.position_state.specs.declared.spot.Change.TheVariants.{Nothing, Replace}
use Rattle.position_state.specs.Keep.{changed, kept_session}
use Rattle.position_state.specs.Lawful.{IsLawful, Stands, is_row_of}
use Rattle.position_state.specs.Looks.{found_at}
use Rattle.position_state.specs.View.{is_at, plain_element, view_of}
use Rattle.dli_calls.specs.declared.decision.Decision.{Decision}
use Rattle.dli_calls.specs.Changes.{content_for, content_or_none, held_code, held_row, moves_entry, name_at, no_name}
use Rattle.dli_calls.specs.Ssas.{fitted}
use Rattle.dli_calls.specs.Decided.{decision_of, held_change}
use Rattle.dli_calls.specs.Refusals.{first_that_holds, text_refusals, has_no_data, changes_key, takes_key, need_of, refusal_of}
use Rattle.call_changes.specs.Moves.{MayHave, key_of_entry, moved_entries, moved_key, moves_freely, replaced_by, replaced_row, row_at}
use Rattle.call_changes.specs.Outcome.{carried, refused_with, replacement_of}
use Rattle.call_changes.proofs.Deciding.{IsOther, Says, table, refusal_is, decided_refused, decided_room, is_carried}

abbrev pub OnPath : Type 0
OnPath = List Row × Row

-- ---- tests either way

pub same_bool : (a b : Bool) → (a ≡ true → b ≡ true) → (b ≡ true → a ≡ true) → a ≡ b
same_bool true true f g = refl
same_bool true false f g = sym (f refl)
same_bool false true f g = g refl
same_bool false false f g = refl

bytes_turned : (a b : List ℕ) → bytes_eq a b ≡ bytes_eq b a
bytes_turned a b =
    same_bool (bytes_eq a b) (bytes_eq b a) (λ h. (bytes_eq-Decides b a).1 (sym ((bytes_eq-Decides a b).0 h))) (λ h. (bytes_eq-Decides a b).1 (sym ((bytes_eq-Decides b a).0 h)))

pub name_turned : (a b : Ilk) → same_name a b ≡ same_name b a
name_turned a b = same_bool (same_name a b) (same_name b a) (λ h. name_from b a (sym (name_is a b h))) (λ h. name_from a b (sym (name_is b a h)))

pub and_true : (b : Bool) → (b && true) ≡ b
and_true true = refl
and_true false = refl

-- ---- the held row

pub find_map : (test : Spot → Bool) (mine : OnPath → Bool) (f : OnPath → Spot) → ((p : OnPath) → test (f p) ≡ mine p) → (ps : List OnPath) → find test (map f ps) ≡ option_map f (find mine ps)
find_map test mine f same [] = refl
find_map test mine f same (p ∷ ps) = ap (λ b. cond b (Some (f p)) (find test (map f ps))) (same p) ∙ by (mine p) (find_map test mine f same ps)
  where
    by : (b : Bool) → find test (map f ps) ≡ option_map f (find mine ps) → cond b (Some (f p)) (find test (map f ps)) ≡ option_map f (cond b (Some p) (find mine ps))
    by true rest = refl
    by false rest = rest

found_held : (schema : Schema) (rows : List Row) (session : Session) (name : Ilk) (root : List ℕ) (entry : Option (List ℕ)) → session.held ≡ Some (At name root entry)
    → found_at (At name root None) (view_of schema None rows) ≡ option_map (λ (p : OnPath). plain_element schema.types p.0 p.1) (held_row schema rows session)
found_held schema rows session name root entry e =
    find_map (is_at (At name root None)) (λ (p : OnPath). same_name p.1.name name) (λ (p : OnPath). plain_element schema.types p.0 p.1)
    (λ p. and_true (same_name name p.1.name) ∙ name_turned name p.1.name) (paths_of schema.types rows)
    ∙ ap (λ (o : Option Anchor). option_map (λ (p : OnPath). plain_element schema.types p.0 p.1) (option_and_then (λ at. option_and_then (λ name. find (λ (p : OnPath). same_name p.1.name name) (paths_of schema.types rows)) (name_at at)) o)) (sym e)

pub held_none : (schema : Schema) (rows : List Row) (session : Session) → session.held ≡ None → None ≡ option_map (λ (p : OnPath). plain_element schema.types p.0 p.1) (held_row schema rows session)
held_none schema rows session e = ap (λ (o : Option Anchor). option_map (λ (p : OnPath). plain_element schema.types p.0 p.1) (option_and_then (λ at. option_and_then (λ name. find (λ (p : OnPath). same_name p.1.name name) (paths_of schema.types rows)) (name_at at)) o)) (sym e)

held_front : (schema : Schema) (rows : List Row) (session : Session) → session.held ≡ Some Front → None ≡ option_map (λ (p : OnPath). plain_element schema.types p.0 p.1) (held_row schema rows session)
held_front schema rows session e = ap (λ (o : Option Anchor). option_map (λ (p : OnPath). plain_element schema.types p.0 p.1) (option_and_then (λ at. option_and_then (λ name. find (λ (p : OnPath). same_name p.1.name name) (paths_of schema.types rows)) (name_at at)) o)) (sym e)

pub held_at : (schema : Schema) (rows : List Row) (session : Session) (at : Anchor) → session.held ≡ Some at → row_at at (view_of schema None rows) ≡ option_map (λ (p : OnPath). plain_element schema.types p.0 p.1) (held_row schema rows session)
held_at schema rows session Front e = held_front schema rows session e
held_at schema rows session (At name root entry) e = found_held schema rows session name root entry e

-- ---- entries

pub taken_is : (key : List ℕ) (entries : List Entry) → is_some (option_map (λ (e : Entry). e.target) (find (λ (e : Entry). bytes_eq e.key key) entries)) ≡ is_taken key entries
taken_is key [] = refl
taken_is key (e ∷ entries) = by (bytes_eq e.key key) (bytes_eq key e.key) (bytes_turned e.key key) (taken_is key entries)
  where
    by : (a b : Bool) → a ≡ b → is_some (option_map (λ (e : Entry). e.target) (find (λ (e : Entry). bytes_eq e.key key) entries)) ≡ is_taken key entries
        → is_some (option_map (λ (e : Entry). e.target) (cond a (Some e) (find (λ (e : Entry). bytes_eq e.key key) entries))) ≡ (b || is_taken key entries)
    by true true same rest = refl
    by false false same rest = rest
    by true false same rest = absurd (let no : ⊥ = cc in no)
    by false true same rest = absurd (let no : ⊥ = cc in no)

-- in one index a row's entry keeps its key, or gets one that no entry has
keeps_is : (types : List SegType) (rows : List Row) (p : OnPath) (content : List ℕ) (index : IndexDef)
    → is_some (moves_freely types rows (plain_element types p.0 p.1) content index) ≡ keeps_freely types rows content p.0 p.1 index
keeps_is types rows p content index = by (p.1.code == index.source) (bytes_eq new old)
  where
    row : Spot
    row = plain_element types p.0 p.1

    new : List ℕ
    new = key_of_entry index content row.key

    old : List ℕ
    old = key_of_entry index p.1.content row.key

    by_taken : (t : Bool) → is_some (cond t None (Some true)) ≡ not t
    by_taken true = refl
    by_taken false = refl

    by : (s q : Bool) → is_some (option_map_or (λ key. cond (is_taken key (entries_of types index rows)) None (Some true)) (cond (s && not q) (Some new) None) (Some false)) ≡ (not s || (q || not (is_taken new (entries_of types index rows))))
    by true true = refl
    by true false = by_taken (is_taken new (entries_of types index rows))
    by false q = refl

moves_is : (schema : Schema) (p : OnPath) (content : List ℕ) (index : IndexDef) → is_some (moved_key index (plain_element schema.types p.0 p.1) content) ≡ moves_entry schema p content index
moves_is schema p content index = by (p.1.code == index.source) (bytes_eq (key_of_entry index content (plain_element schema.types p.0 p.1).key) (key_of_entry index p.1.content (plain_element schema.types p.0 p.1).key))
  where
    by : (s q : Bool) → is_some (cond (s && not q) (Some (key_of_entry index content (plain_element schema.types p.0 p.1).key)) None) ≡ cond s (not q) false
    by true true = refl
    by true false = refl
    by false q = refl

pub all_keep : (schema : Schema) (rows : List Row) (p : OnPath) (content : List ℕ)
    → list_all (λ (index : IndexDef). is_some (moves_freely schema.types rows (plain_element schema.types p.0 p.1) content index)) schema.indexes ≡ list_all (keeps_freely schema.types rows content p.0 p.1) schema.indexes
all_keep schema rows p content = ap (λ (test : IndexDef → Bool). list_all test schema.indexes) (λ i index. keeps_is schema.types rows p content index i)

pub all_move : (schema : Schema) (p : OnPath) (content : List ℕ)
    → count_by (λ (index : IndexDef). is_some (moved_key index (plain_element schema.types p.0 p.1) content)) schema.indexes ≡ count_by (moves_entry schema p content) schema.indexes
all_move schema p content = ap (λ (test : IndexDef → Bool). count_by test schema.indexes) (λ i index. moves_is schema p content index i)

-- ---- the decision

-- what is known of a REPL that text and session don't refuse
pub record Replaces (schema : Schema) (session : Session) (call : Call) : Type 0 where
  pub only : IsOther call false true
  pub plain : session.index ≡ None
  pub text : first_that_holds (text_refusals schema session call) ≡ None

says_of : (schema : Schema) (rows : List Row) (free : ℕ) (session : Session) (call : Call) (told changes takes room : Bool) → IsOther call false true → session.index ≡ None
    → has_no_data schema rows session call ≡ told → changes_key schema rows session call ≡ changes → takes_key schema rows session call ≡ takes → nat_lt free (need_of schema rows session call) ≡ room
    → Says schema rows free session call told false false false false changes takes room
says_of schema rows free session call told changes takes room only plain a b c d = record {
  content = a;
  high = simp (plain, only.unique, only.insert);
  none = simp (only.get, only.insert);
  end = simp only.next;
  key = simp only.insert;
  changes = b;
  takes = c;
  room = d;
}

-- the data has no length, or no row is held
pub decided_data : (schema : Schema) (rows : List Row) (free : ℕ) (session : Session) (call : Call) (d : Decision) → Replaces schema session call → content_for schema (held_code schema rows session) call ≡ None
    → d ≡ refused_with (codes "+L") None session → d ≡ decision_of schema rows free session call
decided_data schema rows free session call d q none h =
    decided_refused schema rows free session call (codes "+L") d refl refl
    (refusal_is schema rows free session call true false false false false _ _ _ q.text
    (says_of schema rows free session call true (changes_key schema rows session call) (takes_key schema rows session call) (nat_lt free (need_of schema rows session call)) q.only q.plain
    (simp (q.only.insert, q.only.replace) (ap (λ (o : Option (List ℕ)). is_none o) none)) refl refl refl)) h

-- the held row and the data at its type's length
pub record IsGiven (schema : Schema) (rows : List Row) (session : Session) (call : Call) (p : OnPath) (content : List ℕ) : Type 0 where
  pub held : held_row schema rows session ≡ Some p
  pub fits : content_for schema p.1.code call ≡ Some content

given_data : (schema : Schema) (rows : List Row) (session : Session) (call : Call) (p : OnPath) (content : List ℕ) → IsOther call false true → IsGiven schema rows session call p content
    → has_no_data schema rows session call ≡ false
given_data schema rows session call p content only g =
    simp (only.insert, only.replace)
    (ap (λ (o : Option OnPath). is_none (content_for schema (option_map_or (λ (p : OnPath). p.1.code) o 0) call)) g.held ∙ ap (λ (o : Option (List ℕ)). is_none o) g.fits)

given_or_none : (schema : Schema) (rows : List Row) (session : Session) (call : Call) (p : OnPath) (content : List ℕ) → IsGiven schema rows session call p content → content_or_none schema p.1.code call ≡ content
given_or_none schema rows session call p content g = ap (λ (o : Option (List ℕ)). option_map_or (λ content. content) o []) g.fits

given_changes : (schema : Schema) (rows : List Row) (session : Session) (call : Call) (p : OnPath) (content : List ℕ) → IsOther call false true → IsGiven schema rows session call p content
    → changes_key schema rows session call ≡ not (bytes_eq (key_in schema.types p.1.code content) (key_in schema.types p.1.code p.1.content))
given_changes schema rows session call p content only g =
    simp only.replace
    (ap (λ (o : Option OnPath). option_map_or (λ (p : OnPath). not (bytes_eq (key_in schema.types p.1.code (content_or_none schema p.1.code call)) (key_in schema.types p.1.code p.1.content))) o false) g.held
    ∙ ap (λ (content : List ℕ). not (bytes_eq (key_in schema.types p.1.code content) (key_in schema.types p.1.code p.1.content))) (given_or_none schema rows session call p content g))

given_takes : (schema : Schema) (rows : List Row) (session : Session) (call : Call) (p : OnPath) (content : List ℕ) → IsOther call false true → IsGiven schema rows session call p content
    → takes_key schema rows session call ≡ not (list_all (keeps_freely schema.types rows content p.0 p.1) schema.indexes)
given_takes schema rows session call p content only g =
    simp (only.insert, only.replace)
    (ap (λ (o : Option OnPath). option_map_or (λ (p : OnPath). not (list_all (keeps_freely schema.types rows (content_or_none schema p.1.code call) p.0 p.1) schema.indexes)) o false) g.held
    ∙ ap (λ (content : List ℕ). not (list_all (keeps_freely schema.types rows content p.0 p.1) schema.indexes)) (given_or_none schema rows session call p content g))

given_need : (schema : Schema) (rows : List Row) (session : Session) (call : Call) (p : OnPath) (content : List ℕ) → IsOther call false true → IsGiven schema rows session call p content
    → need_of schema rows session call ≡ count_by (moves_entry schema p content) schema.indexes
given_need schema rows session call p content only g =
    simp (only.insert, only.replace)
    (ap (λ (o : Option OnPath). option_map_or (λ (p : OnPath). count_by (moves_entry schema p (content_or_none schema p.1.code call)) schema.indexes) o 0) g.held
    ∙ ap (λ (content : List ℕ). count_by (moves_entry schema p content) schema.indexes) (given_or_none schema rows session call p content g))

pub decided_key : (schema : Schema) (rows : List Row) (free : ℕ) (session : Session) (call : Call) (p : OnPath) (content : List ℕ) (d : Decision) → Replaces schema session call → IsGiven schema rows session call p content
    → not (bytes_eq (key_in schema.types p.1.code content) (key_in schema.types p.1.code p.1.content)) ≡ true → d ≡ refused_with (codes "DA") None session → d ≡ decision_of schema rows free session call
decided_key schema rows free session call p content d q g changes h =
    decided_refused schema rows free session call (codes "DA") d refl refl
    (refusal_is schema rows free session call false false false false false true _ _ q.text
    (says_of schema rows free session call false true (takes_key schema rows session call) (nat_lt free (need_of schema rows session call)) q.only q.plain
    (given_data schema rows session call p content q.only g) (given_changes schema rows session call p content q.only g ∙ changes) refl refl)) h

-- a REPL's change is the replacement of the held row's content
replaces : (schema : Schema) (rows : List Row) (session : Session) (call : Call) (content : List ℕ) (held : Option Anchor) → IsOther call false true → content_or_none schema (held_code schema rows session) call ≡ content
    → replacement_of held content ≡ option_map_or (held_change schema rows session call) held Nothing
replaces schema rows session call content None only same = refl
replaces schema rows session call content (Some Front) only same = refl
replaces schema rows session call content (Some (At name root entry)) only same = sym (simp only.replace (ap (Replace name root) same))

pub decided_replace : (schema : Schema) (rows : List Row) (free : ℕ) (session : Session) (call : Call) (p : OnPath) (content : List ℕ) (d : Decision) → Replaces schema session call → IsGiven schema rows session call p content
    → not (bytes_eq (key_in schema.types p.1.code content) (key_in schema.types p.1.code p.1.content)) ≡ false → d ≡ replaced_row schema rows free session (plain_element schema.types p.0 p.1) content
    → d ≡ decision_of schema rows free session call
decided_replace schema rows free session call p content d q g same h =
    by (list_all (keeps_freely schema.types rows content p.0 p.1) schema.indexes) (nat_lt free need) refl refl
    (h ∙ ap (replaced_by schema rows free session content) (ap (λ b. cond b (Some (count_by (λ (index : IndexDef). is_some (moved_key index (plain_element schema.types p.0 p.1) content)) schema.indexes)) None) (all_keep schema rows p content)
    ∙ ap (λ n. cond (list_all (keeps_freely schema.types rows content p.0 p.1) schema.indexes) (Some n) None) (all_move schema p content)))
  where
    need : ℕ
    need = count_by (moves_entry schema p content) schema.indexes

    refusal : (takes room : Bool) → not (list_all (keeps_freely schema.types rows content p.0 p.1) schema.indexes) ≡ takes → nat_lt free need ≡ room
        → refusal_of schema rows free session call ≡ table false false false false false false takes room
    refusal takes room t r =
        refusal_is schema rows free session call false false false false false false takes room q.text
        (says_of schema rows free session call false false takes room q.only q.plain (given_data schema rows session call p content q.only g)
        (given_changes schema rows session call p content q.only g ∙ same) (given_takes schema rows session call p content q.only g ∙ t)
        (ap (nat_lt free) (given_need schema rows session call p content q.only g) ∙ r))

    left : Decision
    left =
        let change : Change = replacement_of session.held content in
        carried change (kept_session schema change rows (changed schema change no_name rows) session)

    by : (all room : Bool) → list_all (keeps_freely schema.types rows content p.0 p.1) schema.indexes ≡ all → nat_lt free need ≡ room
        → d ≡ replaced_by schema rows free session content (cond (list_all (keeps_freely schema.types rows content p.0 p.1) schema.indexes) (Some need) None) → d ≡ decision_of schema rows free session call
    by false room a r k =
        decided_refused schema rows free session call (codes "NI") d refl refl (refusal true room (ap not a) r) (k ∙ ap (λ b. replaced_by schema rows free session content (cond b (Some need) None)) a)
    by true true a r k =
        decided_room schema rows free session call need d (refusal false true (ap not a) r) (given_need schema rows session call p content q.only g)
        (k ∙ ap (λ b. replaced_by schema rows free session content (cond b (Some need) None)) a ∙ ap (λ b. cond b (refused_with (codes "+R") (Some need) session) left) r)
    by true false a r k =
        is_carried schema rows free session call true (replacement_of session.held content) d q.only (refusal false false (ap not a) r)
        (replaces schema rows session call content session.held q.only (ap (λ (o : Option OnPath). content_or_none schema (option_map_or (λ (p : OnPath). p.1.code) o 0) call) g.held ∙ given_or_none schema rows session call p content g))
        (k ∙ ap (λ b. replaced_by schema rows free session content (cond b (Some need) None)) a ∙ ap (λ b. cond b (refused_with (codes "+R") (Some need) session) left) r)

-- ---- the change

fitted_long : (bytes : ℕ) (value : Value) (content : List ℕ) → fitted bytes value ≡ Some content → length content ≡ bytes
fitted_long bytes (Text text) content h =
    let p = cond_some (nat_le (length text) bytes) (text ++ replicate (bytes - length text) 32) content h in
    let le : length text ≤ bytes = leb-true (length text) bytes p.0 in
    sym (ap length p.1) ∙ simp (length-append, length-replicate) (omega arith)
fitted_long bytes (Hex text) content h =
    let p = cond_some (length text == bytes) text content h in
    sym (ap length p.1) ∙ eqb-true (length text) bytes p.0

pub content_long : (schema : Schema) (code : ℕ) (call : Call) (content : List ℕ) → content_for schema code call ≡ Some content → option_map_or (λ (t : SegType). length content == t.bytes) (type_of schema.types code) false ≡ true
content_long schema code call content h = by (type_of schema.types code) call.content h
  where
    by : (o : Option SegType) (v : Option Value) → option_and_then (λ (t : SegType). option_and_then (fitted t.bytes) v) o ≡ Some content → option_map_or (λ (t : SegType). length content == t.bytes) o false ≡ true
    by None v k = absurd (let no : ⊥ = cc in no)
    by (Some t) None k = absurd (let no : ⊥ = cc in no)
    by (Some t) (Some v) k = eq-eqb (length content) t.bytes (fitted_long t.bytes v content k)

pub not_false : (b : Bool) → not b ≡ false → b ≡ true
not_false true h = refl
not_false false h = sym h

pub may_have : (schema : Schema) (rows : List Row) (session : Session) (call : Call) (row : Spot) (content : List ℕ) → Some row ≡ option_map (λ (p : OnPath). plain_element schema.types p.0 p.1) (held_row schema rows session)
    → content_for schema row.code call ≡ Some content → not (bytes_eq (key_in schema.types row.code content) (key_in schema.types row.code row.content)) ≡ false → MayHave schema rows session row content
may_have schema rows session call row content held fits key = record { held = held; long = content_long schema row.code call content fits; key = not_false _ key }

replace_lawful : (schema : Schema) (rows : List Row) (session : Session) (p : OnPath) (content : List ℕ) → Stands schema rows session → held_row schema rows session ≡ Some p → may_replace schema rows content p.0 p.1 ≡ true
    → IsLawful schema rows (replacement_of session.held content)
replace_lawful schema rows session p content stands held may = by session.held refl stands.held
  where
    by : (o : Option Anchor) → session.held ≡ o → IsTrue (is_row_of schema rows o) → IsLawful schema rows (replacement_of o content)
    by None e row = refl
    by (Some Front) e row = refl
    by (Some (At name root entry)) e row =
        let there : find (λ (p : OnPath). same_name p.1.name name) (paths_of schema.types rows) ≡ Some p =
        ap (λ (o : Option Anchor). option_and_then (λ at. option_and_then (λ name. find (λ (p : OnPath). same_name p.1.name name) (paths_of schema.types rows)) (name_at at)) o) (sym e) ∙ held in
        (ap (λ (o : Option OnPath). option_map_or (λ (p : OnPath). may_replace schema rows content p.0 p.1) o false) there ∙ may, row)

-- the row that an element shows
pub record IsShownBy (schema : Schema) (rows : List Row) (session : Session) (spot : Spot) : Type 0 where
  pub p : OnPath
  pub held : held_row schema rows session ≡ Some p
  pub row : spot ≡ plain_element schema.types p.0 p.1

pub shown_by : (schema : Schema) (rows : List Row) (session : Session) (row : Spot) → Some row ≡ option_map (λ (p : OnPath). plain_element schema.types p.0 p.1) (held_row schema rows session) → IsShownBy schema rows session row
shown_by schema rows session row h = by (held_row schema rows session) refl h
  where
    by : (o : Option OnPath) → held_row schema rows session ≡ o → Some row ≡ option_map (λ (p : OnPath). plain_element schema.types p.0 p.1) o → IsShownBy schema rows session row
    by None e k = absurd (let no : ⊥ = cc in no)
    by (Some p) e k = record { p = p; held = e; row = same_Some row (plain_element schema.types p.0 p.1) k }

pub row_lawful : (schema : Schema) (rows : List Row) (session : Session) (row : Spot) (content : List ℕ) (need : ℕ) → Stands schema rows session → MayHave schema rows session row content
    → moved_entries schema.types rows row content schema.indexes ≡ Some need → IsLawful schema rows (replacement_of session.held content)
row_lawful schema rows session row content need stands may moved =
    let s = shown_by schema rows session row may.held in
    let all : list_all (keeps_freely schema.types rows content s.p.0 s.p.1) schema.indexes ≡ true =
    sym (all_keep schema rows s.p content)
    ∙ ap (λ (row : Spot). list_all (λ (index : IndexDef). is_some (moves_freely schema.types rows row content index)) schema.indexes) (sym s.row)
    ∙ (cond_some (list_all (λ (index : IndexDef). is_some (moves_freely schema.types rows row content index)) schema.indexes) (count_by (λ (index : IndexDef). is_some (moved_key index row content)) schema.indexes) need moved).0 in
    let long : option_map_or (λ (t : SegType). length content == t.bytes) (type_of schema.types s.p.1.code) false ≡ true = ap (λ (row : Spot). option_map_or (λ (t : SegType). length content == t.bytes) (type_of schema.types row.code) false) (sym s.row) ∙ may.long in
    let key : bytes_eq (key_in schema.types s.p.1.code content) (key_in schema.types s.p.1.code s.p.1.content) ≡ true = ap (λ (row : Spot). bytes_eq (key_in schema.types row.code content) (key_in schema.types row.code row.content)) (sym s.row) ∙ may.key in
    replace_lawful schema rows session s.p content stands s.held (and_from _ _ (and_from _ _ long key) all)

-- what is decided where so many entries get another key
pub full_by_need : (schema : Schema) (rows : List Row) (free : ℕ) (session : Session) (content : List ℕ) (need : ℕ) → nat_lt free need ≡ true → refused_with (codes "+R") (Some need) session ≡ replaced_by schema rows free session content (Some need)
full_by_need schema rows free session content need h =
    let change : Change = replacement_of session.held content in
    sym (ap (λ b. cond b (refused_with (codes "+R") (Some need) session) (carried change (kept_session schema change rows (changed schema change no_name rows) session))) h)

pub left_by_need : (schema : Schema) (rows : List Row) (free : ℕ) (session : Session) (content : List ℕ) (need : ℕ) → nat_lt free need ≡ false
    → (let change : Change = replacement_of session.held content in carried change (kept_session schema change rows (changed schema change no_name rows) session)) ≡ replaced_by schema rows free session content (Some need)
left_by_need schema rows free session content need h =
    let change : Change = replacement_of session.held content in
    sym (ap (λ b. cond b (refused_with (codes "+R") (Some need) session) (carried change (kept_session schema change rows (changed schema change no_name rows) session))) h)

-- ---- by the element of the held row

pub no_row : (schema : Schema) (rows : List Row) (session : Session) (call : Call) → None ≡ option_map (λ (p : OnPath). plain_element schema.types p.0 p.1) (held_row schema rows session) → content_for schema (held_code schema rows session) call ≡ None
no_row schema rows session call h = by (held_row schema rows session) h
  where
    by : (o : Option OnPath) → None ≡ option_map (λ (p : OnPath). plain_element schema.types p.0 p.1) o → content_for schema (option_map_or (λ (p : OnPath). p.1.code) o 0) call ≡ None
    by None k = refl
    by (Some p) k = absurd (let no : ⊥ = cc in no)

pub no_fit : (schema : Schema) (rows : List Row) (session : Session) (call : Call) (row : Spot) → Some row ≡ option_map (λ (p : OnPath). plain_element schema.types p.0 p.1) (held_row schema rows session)
    → content_for schema row.code call ≡ None → content_for schema (held_code schema rows session) call ≡ None
no_fit schema rows session call row h none =
    let s = shown_by schema rows session row h in
    ap (λ (o : Option OnPath). content_for schema (option_map_or (λ (p : OnPath). p.1.code) o 0) call) s.held ∙ ap (λ (spot : Spot). content_for schema spot.code call) (sym s.row) ∙ none

given_by_row : (schema : Schema) (rows : List Row) (session : Session) (call : Call) (row : Spot) (content : List ℕ) → (s : IsShownBy schema rows session row) → content_for schema row.code call ≡ Some content → IsGiven schema rows session call s.p content
given_by_row schema rows session call row content s fits = record { held = s.held; fits = ap (λ (spot : Spot). content_for schema spot.code call) (sym s.row) ∙ fits }

pub decided_key_of : (schema : Schema) (rows : List Row) (free : ℕ) (session : Session) (call : Call) (row : Spot) (content : List ℕ) (d : Decision) → Replaces schema session call
    → Some row ≡ option_map (λ (p : OnPath). plain_element schema.types p.0 p.1) (held_row schema rows session) → content_for schema row.code call ≡ Some content
    → not (bytes_eq (key_in schema.types row.code content) (key_in schema.types row.code row.content)) ≡ true → d ≡ refused_with (codes "DA") None session → d ≡ decision_of schema rows free session call
decided_key_of schema rows free session call row content d q h fits changes e =
    let s = shown_by schema rows session row h in
    decided_key schema rows free session call s.p content d q (given_by_row schema rows session call row content s fits)
    (ap (λ (spot : Spot). not (bytes_eq (key_in schema.types spot.code content) (key_in schema.types spot.code spot.content))) (sym s.row) ∙ changes) e

pub decided_replace_of : (schema : Schema) (rows : List Row) (free : ℕ) (session : Session) (call : Call) (row : Spot) (content : List ℕ) (d : Decision) → Replaces schema session call
    → Some row ≡ option_map (λ (p : OnPath). plain_element schema.types p.0 p.1) (held_row schema rows session) → content_for schema row.code call ≡ Some content
    → not (bytes_eq (key_in schema.types row.code content) (key_in schema.types row.code row.content)) ≡ false → d ≡ replaced_row schema rows free session row content → d ≡ decision_of schema rows free session call
decided_replace_of schema rows free session call row content d q h fits same e =
    let s = shown_by schema rows session row h in
    decided_replace schema rows free session call s.p content d q (given_by_row schema rows session call row content s fits)
    (ap (λ (spot : Spot). not (bytes_eq (key_in schema.types spot.code content) (key_in schema.types spot.code spot.content))) (sym s.row) ∙ same)
    (e ∙ ap (λ (spot : Spot). replaced_row schema rows free session spot content) s.row)
