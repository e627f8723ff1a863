-- What a decision leaves: a forest, and sessions that stand in it.
use Rattle.std.proofs.Common.{◌≡◌, ℕ, suc, zero, drop, not, ◌+◌, ◌<◌, ◌==◌, Bool, true, false, cond, ◌&&◌, List, [], ◌∷◌, Option, None, Some, inl, inr, refl, sym, ap, subst, ◌∙◌, arith}
use Rattle.std.specs.Prelude.{codes, filter, find, is_none, IsTrue}
use Rattle.std.specs.List.{prefix_len}
use Rattle.std.specs.Option.{option_map_or}
use Rattle.std.specs.Str.{bytes_eq}
use Rattle.std.proofs.lemmas.Bool.{eqb-true, false_from_ne_true}
use Rattle.std.proofs.lemmas.Option.{same_Some}
use Rattle.hal_base.specs.declared.place.Ilk.{Ilk}
use Rattle.hal_schema.specs.declared.row.Row.{Row}
use Rattle.hal_schema.specs.declared.schema.Schema.{Schema}
use Rattle.hal_schema.specs.Forest.{is_forest}
use Rattle.hal_schema.specs.Row.{is_new_name, row_named}
use Rattle.call_text.specs.declared.line.Call.{Call}
use Rattle.forest_laws.proofs.Lists.{Among, among_filter}
use Rattle.position_state.specs.declared.session.Anchor.{Anchor}
use Rattle.position_state.specs.declared.session.Anchor.TheVariants.{Front, At}
use Rattle.position_state.specs.declared.session.Session.{Session}
use Rattle.position_state.specs.declared.spot.Change.{Change}
use Rattle.position_state.specs.declared.spot.Change.TheVariants.{Nothing, Insert, Replace, Delete, Heal}
use Rattle.position_state.specs.declared.spot.Spot.{Spot}
use Rattle.position_state.specs.AfterChange.{AreOfList}
use Rattle.position_state.specs.Keep.{changed, kept_session}
use Rattle.position_state.specs.KeepLaws.{RowsArePlaces}
use Rattle.position_state.specs.Lawful.{IsLawful, Stands, is_row_of}
use Rattle.position_state.specs.Looks.{WalkView}
use Rattle.position_state.specs.View.{is_at, is_place_of, root_key_of, view_of}
use Rattle.position_state.proofs.Leaving.{leave}
use Rattle.session_laws.specs.Standing.{ChangesKeepAForest, KeptSessionsStand, MayHappen, NewRowsStand}
use Rattle.dli_calls.specs.declared.decision.Decision.{Decision}
use Rattle.dli_calls.specs.Changes.{content_or_none, held_code, new_root, new_row, no_name}
use Rattle.dli_calls.specs.Decided.{after_refusal, carried_out, changes_held, decision_of, found, held_change, inserts, refused, unheld}
use Rattle.dli_calls.specs.Gets.{OnPath, after_get, got, is_below_parent, is_get, is_hold, is_next, is_unique, is_within_parent, looked_at, paths_behind}
use Rattle.dli_calls.specs.Meets.{meets, on_paths}
use Rattle.dli_calls.specs.Refusals.{allows, is_insert, is_replace, refusal_of}
use Rattle.dli_calls.specs.Ssas.{entry_named}
use Rattle.call_gets.specs.Scan.{plain_view}
use Rattle.call_gets.proofs.Stepping.{Differ, place_of_found}
use Rattle.call_runs.specs.Steps.{MayName, set_on_new}
use Rattle.call_changes.specs.Laws.{KeepsAll, MayCall}
use Rattle.call_changes.proofs.Lawful.{decision_lawful}
use Rattle.call_changes.proofs.Placing.{parent_row}
use Rattle.call_changes.proofs.Parenting.{among_found, find_among, on_list}

-- ---- a name that no row has

top : List Row → ℕ
top [] = 0
top (row ∷ rows) = row.name.addr + top rows

above_top : (rows : List Row) (n : ℕ) → top rows < n → is_new_name rows (record { addr = n; part = 0; number = 0 }) ≡ true
unfolding top
above_top [] n lt = refl
above_top (row ∷ rows) n lt =
    let other : (row.name.addr == n) ≡ false = false_from_ne_true (row.name.addr == n) (λ h. let e : row.name.addr ≡ n = eqb-true row.name.addr n h in let no : ⊥ = omega (arith, e, lt) in no) in
    ap (λ b. is_none (cond (b && (row.name.part == 0) && (row.name.number == 0)) (Some row) (row_named rows (record { addr = n; part = 0; number = 0 })))) other
    ∙ above_top rows n (omega (arith, lt))

-- the name of a new row; any other change gets one that no row has
named_for : Change → List Row → Ilk → Ilk
named_for (Insert parent root code content) rows name = name
named_for Nothing rows name = record { addr = top rows + 1; part = 0; number = 0 }
named_for (Replace row root content) rows name = record { addr = top rows + 1; part = 0; number = 0 }
named_for (Delete row root) rows name = record { addr = top rows + 1; part = 0; number = 0 }
named_for (Heal index entry) rows name = record { addr = top rows + 1; part = 0; number = 0 }

fresh_for : (change : Change) (rows : List Row) (name : Ilk) → MayName change rows name → is_new_name rows (named_for change rows name) ≡ true
unfolding named_for
fresh_for (Insert parent root code content) rows name may = may
fresh_for Nothing rows name may = above_top rows (top rows + 1) (omega arith)
fresh_for (Replace row root content) rows name may = above_top rows (top rows + 1) (omega arith)
fresh_for (Delete row root) rows name may = above_top rows (top rows + 1) (omega arith)
fresh_for (Heal index entry) rows name may = above_top rows (top rows + 1) (omega arith)

same_for : (schema : Schema) (change : Change) (rows : List Row) (name : Ilk) → changed schema change (named_for change rows name) rows ≡ changed schema change name rows
unfolding named_for
same_for schema (Insert parent root code content) rows name = refl
same_for schema Nothing rows name = refl
same_for schema (Replace row root content) rows name = refl
same_for schema (Delete row root) rows name = refl
same_for schema (Heal index entry) rows name = refl

-- ---- a change that calls may make

pub record Laws : Type 0 where
  pub forest : ChangesKeepAForest
  pub stand : KeptSessionsStand
  pub new : NewRowsStand
  pub places : RowsArePlaces

may_happen : (schema : Schema) (rows : List Row) (change : Change) (name : Ilk) → IsTrue (is_forest schema rows) → IsLawful schema rows change → MayName change rows name → MayHappen schema rows change (named_for change rows name)
may_happen schema rows change name forest lawful may = record { forest = forest; lawful = lawful; fresh = fresh_for change rows name may }

forest_kept : (laws : Laws) (schema : Schema) (rows : List Row) (change : Change) (name : Ilk) → IsTrue (is_forest schema rows) → IsLawful schema rows change → MayName change rows name
    → IsTrue (is_forest schema (changed schema change name rows))
forest_kept laws schema rows change name forest lawful may =
    subst (λ (new : List Row). is_forest schema new ≡ true) (same_for schema change rows name)
    (laws.forest schema rows change (named_for change rows name) (may_happen schema rows change name forest lawful may))

other_kept : (laws : Laws) (schema : Schema) (rows : List Row) (change : Change) (name : Ilk) (other : Session) → IsTrue (is_forest schema rows) → IsLawful schema rows change → MayName change rows name → other.index ≡ None
    → Stands schema rows other → Stands schema (changed schema change name rows) (kept_session schema change rows (changed schema change name rows) other)
other_kept laws schema rows change name other forest lawful may plain stands =
    subst (λ (new : List Row). Stands schema new (kept_session schema change rows new other)) (same_for schema change rows name)
    (laws.stand schema rows change (named_for change rows name) other (may_happen schema rows change name forest lawful may) plain stands)

-- ---- the session of a decision

-- where it stands, as a change leaves it
abbrev OwnStands : Schema → List Row → Ilk → Change → Session → Type 0
OwnStands schema rows name change left = Stands schema (changed schema change name rows) (set_on_new change name left)

let_go : (schema : Schema) (rows : List Row) (session : Session) → Stands schema rows session → Stands schema rows (unheld session)
let_go schema rows session s = record { index = s.index; anchor = s.anchor; held = refl; parent = s.parent }

refused_stands : (schema : Schema) (rows : List Row) (session : Session) (status : List ℕ) → Stands schema rows session → Stands schema rows (after_refusal status session)
refused_stands schema rows session status s = by (bytes_eq status (codes "GB"))
  where
    by : (b : Bool) → Stands schema rows (cond b (record session { anchor = Front; held = None; parent = None }) (unheld session))
    by true = record { index = s.index; anchor = refl; held = refl; parent = refl }
    by false = let_go schema rows session s

-- what is found is of the view
among_drop : {X : Type 0} (n : ℕ) (x : X) (xs : List X) → Among x (drop n xs) → Among x xs
among_drop zero x xs h = h
among_drop (suc n) x [] h = h
among_drop (suc n) x (y ∷ ys) h = inr (among_drop n x ys h)

among_behind : (at : Anchor) (p : OnPath) (ps : List OnPath) → Among p (paths_behind at ps) → Among p ps
among_behind Front p ps h = h
among_behind (At name root entry) p ps h = among_drop (prefix_len (λ (q : OnPath). not (is_at (At name root entry) q.1)) ps + 1) p ps h

among_looked : (call : Call) (session : Session) (p : OnPath) (ps : List OnPath) → Among p (looked_at call session ps) → Among p ps
among_looked call session p ps h = by (is_unique call) (is_next call) h
  where
    by : (u n : Bool) → Among p (cond u ps (cond n (paths_behind session.anchor ps) (filter (is_below_parent session.parent) (paths_behind session.anchor ps)))) → Among p ps
    by true n k = k
    by false true k = among_behind session.anchor p ps k
    by false false k = among_behind session.anchor p ps (among_filter (is_below_parent session.parent) p (paths_behind session.anchor ps) k).0

got_among : (schema : Schema) (rows : List Row) (session : Session) (call : Call) (index : Option ℕ) (p : OnPath) → index ≡ None
    → find (meets schema index (view_of schema index rows) call.ssas) (looked_at call session (on_paths (view_of schema index rows))) ≡ Some p → Among p.1 (plain_view schema rows)
got_among schema rows session call index p plain h =
    let view = view_of schema index rows in
    let a = (find_among (meets schema index view call.ssas) (looked_at call session (on_paths view)) p h).0 in
    subst (λ (i : Option ℕ). Among p.1 (view_of schema i rows)) plain (on_list [] view p (among_looked call session p (on_paths view) a)).0

-- a place of the view at a row
record IsRowPlace (schema : Schema) (rows : List Row) (at : Anchor) : Type 0 where
  place : is_place_of (plain_view schema rows) at ≡ true
  row : is_row_of schema rows (Some at) ≡ true

row_place : (laws : Laws) (schema : Schema) (rows : List Row) (spot : Spot) → Differ (plain_view schema rows) → IsTrue (is_forest schema rows) → Among spot (plain_view schema rows) → IsRowPlace schema rows spot.at
row_place laws schema rows spot d forest a =
    let view = plain_view schema rows in
    let f = among_found view spot d a in
    let q = parent_row schema rows spot f in
    let at : spot.at ≡ At q.p.1.name (root_key_of schema.types q.p.0) None = ap (λ (s : Spot). s.at) q.is in
    let place : is_place_of view spot.at ≡ true = place_of_found view spot d f in
    record {
      place = place;
      row = subst (λ (at : Anchor). is_row_of schema rows (Some at) ≡ true) (sym at)
          ((laws.places schema rows q.p.1.name (root_key_of schema.types q.p.0) forest).1 (subst (λ (at : Anchor). is_place_of view at ≡ true) at place));
    }

got_stands : (schema : Schema) (rows : List Row) (session : Session) (call : Call) (spot : Spot) → session.index ≡ None → Stands schema rows session → IsRowPlace schema rows spot.at → Stands schema rows (after_get call session spot)
got_stands schema rows session call spot plain s r = record {
  index = s.index;
  anchor = subst (λ (i : Option ℕ). is_place_of (view_of schema i rows) spot.at ≡ true) (sym plain) r.place;
  held = held (is_hold call);
  parent = parent (is_within_parent call);
}
  where
    held : (b : Bool) → is_row_of schema rows (cond b (Some spot.at) None) ≡ true
    held true = r.row
    held false = refl

    parent : (b : Bool) → is_row_of schema rows (cond b session.parent (Some spot.at)) ≡ true
    parent true = s.parent
    parent false = r.row

-- an insertion leaves its session as it stood
stays : (schema : Schema) (rows : List Row) (parent : Option Ilk) (root : List ℕ) (code : ℕ) (content : List ℕ) (name : Ilk) (session : Session) → session.index ≡ None → Stands schema rows session
    → IsLawful schema rows (Insert parent root code content) → session ≡ kept_session schema (Insert parent root code content) rows (changed schema (Insert parent root code content) name rows) session
stays schema rows parent root code content name session plain stands lawful = leave walk change session plain given (inr (inl (parent, root, code, content, refl))) name
  where
    walk : WalkView
    walk = record { schema = schema; forest = Some rows; free = 0; faults = 0; looks = 0; live = true }

    change : Change
    change = Insert parent root code content

    given : AreOfList walk change session
    given = λ r e. subst (λ (r : List Row). Stands schema r session × IsLawful schema r change) (same_Some rows r e) (stands, lawful)

insert_stands : (laws : Laws) (schema : Schema) (rows : List Row) (parent : Option Ilk) (root : List ℕ) (code : ℕ) (content : List ℕ) (name : Ilk) (session : Session) → MayCall schema rows session
    → IsLawful schema rows (Insert parent root code content) → is_new_name rows name ≡ true → OwnStands schema rows name (Insert parent root code content) (unheld session)
insert_stands laws schema rows parent root code content name session m lawful fresh =
    let change : Change = Insert parent root code content in
    let new : List Row = changed schema change name rows in
    let happens : MayHappen schema rows change name = record { forest = m.forest; lawful = lawful; fresh = fresh } in
    let place : is_place_of (view_of schema None new) (At name root None) ≡ true = (laws.places schema new name root (laws.forest schema rows change name happens)).0 (laws.new schema rows name parent root code content happens) in
    let s : Stands schema new session =
    subst (Stands schema new) (sym (stays schema rows parent root code content name session m.plain m.stands lawful)) (laws.stand schema rows change name session happens m.plain m.stands) in
    record {
      index = s.index;
      anchor = subst (λ (i : Option ℕ). is_place_of (view_of schema i new) (At name root None) ≡ true) (sym m.plain) place;
      held = refl;
      parent = s.parent;
    }

held_stands : (laws : Laws) (schema : Schema) (rows : List Row) (call : Call) (name : Ilk) (session : Session) → MayCall schema rows session → (held : Option Anchor)
    → (let change : Change = option_map_or (held_change schema rows session call) held Nothing in
    IsLawful schema rows change → OwnStands schema rows name change (unheld (kept_session schema change rows (changed schema change no_name rows) session)))
held_stands laws schema rows call name session m None lawful = let_go schema rows (kept_session schema Nothing rows rows session) (other_kept laws schema rows Nothing name session m.forest lawful tt m.plain m.stands)
held_stands laws schema rows call name session m (Some Front) lawful = let_go schema rows (kept_session schema Nothing rows rows session) (other_kept laws schema rows Nothing name session m.forest lawful tt m.plain m.stands)
held_stands laws schema rows call name session m (Some (At row root entry)) lawful = by (is_replace call) lawful
  where
    content : List ℕ
    content = content_or_none schema (held_code schema rows session) call

    by : (b : Bool)
        → (let change : Change = cond b (Replace row root content) (Delete row root) in
        IsLawful schema rows change → OwnStands schema rows name change (unheld (kept_session schema change rows (changed schema change no_name rows) session)))
    by true law =
        let_go schema (changed schema (Replace row root content) name rows) (kept_session schema (Replace row root content) rows (changed schema (Replace row root content) name rows) session)
        (other_kept laws schema rows (Replace row root content) name session m.forest law tt m.plain m.stands)
    by false law =
        let_go schema (changed schema (Delete row root) name rows) (kept_session schema (Delete row root) rows (changed schema (Delete row root) name rows) session)
        (other_kept laws schema rows (Delete row root) name session m.forest law tt m.plain m.stands)

-- ---- every decision

abbrev Own : Schema → List Row → Ilk → Decision → Type 0
Own schema rows name d = OwnStands schema rows name d.change d.session × (d.session.index ≡ None)

own_refused : (schema : Schema) (rows : List Row) (name : Ilk) (session : Session) (call : Call) (status : List ℕ) → MayCall schema rows session → Own schema rows name (refused schema rows session call status)
own_refused schema rows name session call status m = (refused_stands schema rows session status m.stands, by (bytes_eq status (codes "GB")))
  where
    by : (b : Bool) → (let s : Session = cond b (record session { anchor = Front; held = None; parent = None }) (unheld session) in s.index) ≡ None
    by true = m.plain
    by false = m.plain

own_got : (laws : Laws) (schema : Schema) (rows : List Row) (name : Ilk) (session : Session) (call : Call) → MayCall schema rows session → Differ (plain_view schema rows) → (o : Option OnPath) → got schema rows call session ≡ o
    → Own schema rows name (option_map_or (found schema rows session call) o (refused schema rows session call (codes "GE")))
own_got laws schema rows name session call m d None e = own_refused schema rows name session call (codes "GE") m
own_got laws schema rows name session call m d (Some p) e = (
  subst (λ (c : Change). OwnStands schema rows name c (after_get call session p.1)) (sym (heals (allows (codes "IRDA") session)))
      (got_stands schema rows session call p.1 m.plain m.stands (row_place laws schema rows p.1 d m.forest (got_among schema rows session call session.index p m.plain e))),
  m.plain,
)
  where
    heals : (b : Bool) → cond b (option_map_or (λ index. Heal index (entry_named p.1.at)) session.index Nothing) Nothing ≡ Nothing
    heals true = ap (λ (o : Option ℕ). option_map_or (λ index. Heal index (entry_named p.1.at)) o Nothing) m.plain
    heals false = refl

own : (laws : Laws) (schema : Schema) (rows : List Row) (free : ℕ) (session : Session) (call : Call) (name : Ilk) → MayCall schema rows session → Differ (plain_view schema rows)
    → IsLawful schema rows (decision_of schema rows free session call).change → MayName (decision_of schema rows free session call).change rows name → Own schema rows name (decision_of schema rows free session call)
own laws schema rows free session call name m d lawful may = by (refusal_of schema rows free session call) lawful may
  where
    carried : (g i : Bool)
        → (let left : Decision = cond g (option_map_or (found schema rows session call) (got schema rows call session) (refused schema rows session call (codes "GE"))) (cond i (inserts schema rows session call) (changes_held schema rows session call)) in
        IsLawful schema rows left.change → MayName left.change rows name → Own schema rows name left)
    carried true i law named = own_got laws schema rows name session call m d (got schema rows call session) refl
    carried false true law named =
        let row : Row = new_row schema rows call session no_name in
        (insert_stands laws schema rows row.parent (new_root schema rows call session) row.code row.content name session m law named, m.plain)
    carried false false law named = (held_stands laws schema rows call name session m session.held law, m.plain)

    by : (o : Option (List ℕ))
        → (let left : Decision = option_map_or (refused schema rows session call) o (carried_out schema rows session call) in IsLawful schema rows left.change → MayName left.change rows name → Own schema rows name left)
    by (Some status) law named = own_refused schema rows name session call status m
    by None law named = carried (is_get call) (is_insert call) law named

pub keeps_all : (laws : Laws) (schema : Schema) (rows : List Row) (free : ℕ) (session : Session) (call : Call) (name : Ilk) → MayCall schema rows session → Differ (plain_view schema rows)
    → MayName (decision_of schema rows free session call).change rows name
    → KeepsAll schema rows (changed schema (decision_of schema rows free session call).change name rows) (decision_of schema rows free session call) name
keeps_all laws schema rows free session call name m d may =
    let lawful = decision_lawful schema rows free session call d m.plain m.stands in
    let o = own laws schema rows free session call name m d lawful may in
    record {
      forest = forest_kept laws schema rows (decision_of schema rows free session call).change name m.forest lawful may;
      plain = o.1;
      own = o.0;
      others = λ other plain stands. other_kept laws schema rows (decision_of schema rows free session call).change name other m.forest lawful may plain stands;
    }
