-- What changes leave of a session's places, where the list is told.
use Rattle.std.proofs.Common.{◌≡◌, ℕ, Bool, true, false, not, cond, ◌&&◌, ◌||◌, List, [], ◌∷◌, take, drop, Option, None, Some, ◌⊎◌, inl, inr, refl, sym, ap, subst, ◌∙◌}
use Rattle.std.specs.Prelude.{find, is_none, IfSome, IsTrue}
use Rattle.std.specs.List.{list_any}
use Rattle.std.specs.Option.{ForSome, option_map_or}
use Rattle.std.specs.Str.{bytes_eq}
use Rattle.std.proofs.lemmas.Bool.{true≢false, and_from, or_cases, or_left, or_right}
use Rattle.std.proofs.lemmas.List.{take-append-drop}
use Rattle.std.proofs.lemmas.List.Folds.{list_any-append}
use Rattle.std.proofs.lemmas.Slice.Eq.{bytes_eq-Decides}
use Rattle.hal_base.specs.declared.place.Ilk.{Ilk}
use Rattle.hal_schema.specs.declared.row.Row.{Row}
use Rattle.hal_schema.specs.declared.schema.Schema.{Schema}
use Rattle.hal_schema.specs.declared.schema.SegType.{SegType}
use Rattle.hal_schema.specs.Row.{same_name, is_new_name, row_level}
use Rattle.hal_schema.specs.Paths.{path_with, with_paths}
use Rattle.hal_schema.specs.Insertion.{inserted, insertion_place}
use Rattle.hal_schema.specs.Span.{with_content, replaced, without_span}
use Rattle.hal_schema.proofs.RowNames.{name_is}
use Rattle.position_state.specs.declared.session.Anchor.{Anchor}
use Rattle.position_state.specs.declared.session.Anchor.TheVariants.{Front, At}
use Rattle.position_state.specs.declared.session.Session.{Session}
use Rattle.position_state.specs.declared.spot.Change.{Change}
use Rattle.position_state.specs.declared.spot.Change.TheVariants.{Nothing, Insert, Replace, Delete, Heal}
use Rattle.position_state.specs.declared.spot.Spot.{Spot}
use Rattle.position_state.specs.View.{root_key_of, plain_element, view_of, is_at, root_named, is_place_of}
use Rattle.position_state.specs.Looks.{WalkView, Shows, last_before, stands_in, tells_forest}
use Rattle.position_state.specs.Keep.{changed, kept_anchor, kept_hold, kept_parent, kept_session}
use Rattle.position_state.specs.Lawful.{is_under, is_row_of, Stands}
use Rattle.position_state.specs.AfterChange.{AreOfList, AreUnder, IsAnchorLeft, IsCut, IsLeft, is_gone, is_row_place, let_go}
use Rattle.position_state.proofs.KeepLaws.{place_found, under_known}
use Rattle.position_state.proofs.Shown.{name_sym, and_true, shown, any_named}
use Rattle.position_state.proofs.Deleting.{forest_names, FoundAt, under_found, Deletion, name_gone, far_stays, anchor_stays, anchor_moves}
use Rattle.position_state.proofs.Looking.{forest_at, shows_at, where_told, told_at}
use Rattle.position_state.proofs.Climbing.{place_at, deletion_at}

-- ---- rows and places

-- a place of the view is that of a row under the root that it names
pub found_under : (types : List SegType) (name : Ilk) (root : List ℕ) (entry : Option (List ℕ)) (path rows : List Row) (s : Spot) → find (is_at (At name root entry)) (shown types path rows) ≡ Some s
    → root ≡ root_named s.at → list_any (λ p. same_name p.1.name name && bytes_eq (root_key_of types p.0) root) (with_paths (row_level types) path rows) ≡ true
found_under types name root entry path [] s f e = absurd (true≢false (ap is_none f))
found_under types name root entry path (row ∷ rows) s f e = by (is_at (At name root entry) (plain_element types next row)) refl (found_under types name root entry next rows s) f
  where
    next : List Row
    next = path_with (row_level types) path row

    later : Bool
    later = list_any (λ p. same_name p.1.name name && bytes_eq (root_key_of types p.0) root) (with_paths (row_level types) next rows)

    one : Bool
    one = same_name row.name name && bytes_eq (root_key_of types next) root

    by : (b : Bool) → is_at (At name root entry) (plain_element types next row) ≡ b
        → (find (is_at (At name root entry)) (shown types next rows) ≡ Some s → root ≡ root_named s.at → later ≡ true)
        → cond b (Some (plain_element types next row)) (find (is_at (At name root entry)) (shown types next rows)) ≡ Some s → (one || later) ≡ true
    by true is rest k =
        let same : root_named s.at ≡ root_key_of types next = ap (λ o. option_map_or (λ (y : Spot). root_named y.at) o (root_key_of types next)) (sym k) in
        or_left one later
        (and_from (same_name row.name name) (bytes_eq (root_key_of types next) root) (name_sym row.name name ∙ names entry is)
        ((bytes_eq-Decides (root_key_of types next) root).1 (sym (e ∙ same))))
      where
        names : (entry : Option (List ℕ)) → is_at (At name root entry) (plain_element types next row) ≡ true → same_name name row.name ≡ true
        names None h = sym (and_true (same_name name row.name)) ∙ h
        names (Some key) h = absurd (true≢false (sym h ∙ no_entry (same_name name row.name)))
          where
            no_entry : (b : Bool) → (b && false) ≡ false
            no_entry true = refl
            no_entry false = refl
    by false is rest k = or_right one later (rest k e)

pub row_at_place : (schema : Schema) (rows : List Row) (at : Anchor) → is_place_of (view_of schema None rows) at ≡ true → is_row_place schema rows at ≡ true
row_at_place schema rows Front h = refl
row_at_place schema rows (At name root entry) h = by (place_found (view_of schema None rows) name root entry h)
  where
    by : (s : Spot) × (find (is_at (At name root entry)) (view_of schema None rows) ≡ Some s) × (At name root entry ≡ s.at) → is_under schema rows name root ≡ true
    by (s, f, e) = found_under schema.types name root entry [] rows s f (ap root_named e)

-- so the row is there
known_at : (schema : Schema) (rows : List Row) (at : Anchor) → is_row_place schema rows at ≡ true → is_gone rows at ≡ false
known_at schema rows Front h = refl
known_at schema rows (At name root entry) h = under_known schema.types name root [] rows h

pub found_row : (a : WalkView) (rows : List Row) (name : Ilk) (root : List ℕ) → IsTrue (tells_forest a) → a.forest ≡ Some rows → IsTrue (is_under a.schema rows name root) → FoundAt (view_of a.schema None rows) name root
found_row a rows name root forest e h = under_found a.schema.types name root [] rows (forest_names a.schema rows (forest_at a rows forest e)).0 h

-- a look may begin at a row that is there
pub row_stands : (a b : WalkView) (name : Ilk) (root : List ℕ) → b.schema ≡ a.schema → b.forest ≡ a.forest → IsTrue (tells_forest a) → ForSome a.forest (λ rows. IsTrue (is_under a.schema rows name root))
    → IsTrue (stands_in b None (At name root None))
row_stands a b name root schema same forest under =
    subst (λ (s : Schema). option_map_or (λ rows. is_place_of (view_of s None rows) (At name root None)) b.forest true ≡ true) (sym schema)
    (subst (λ (o : Option (List Row)). option_map_or (λ rows. is_place_of (view_of a.schema None rows) (At name root None)) o true ≡ true) (sym same) (by a.forest refl))
  where
    by : (o : Option (List Row)) → a.forest ≡ o → option_map_or (λ rows. is_place_of (view_of a.schema None rows) (At name root None)) o true ≡ true
    by None e = refl
    by (Some rows) e =
        let t = found_row a rows name root forest e (under rows e) in
        ap (λ o. option_map_or (λ (s : Spot). bytes_eq root (root_named s.at)) o false) t.found ∙ (bytes_eq-Decides root (root_named t.spot.at)).1 (ap root_named t.at)

pub deletion_of : (a : WalkView) (rows : List Row) (name : Ilk) (root : List ℕ) → IsTrue (tells_forest a) → a.forest ≡ Some rows → IsTrue (is_under a.schema rows name root) → Deletion a.schema.types rows name
deletion_of a rows name root forest e h = deletion_at a rows name forest e (under_known a.schema.types name root [] rows h)

-- ---- a deletion

pub cut_far : (a : WalkView) (name other : Ilk) (root key : List ℕ) (entry : Option (List ℕ)) → IsTrue (tells_forest a) → AreUnder a name root (At other key entry) → (key ≡ root → ⊥)
    → IsCut a name (At other key entry) false
cut_far a name other root key entry forest under differs =
    where_told a.forest (λ rows. false ≡ is_new_name (without_span a.schema.types rows name) other)
    (λ rows e.
    let u = under rows e in
    sym (far_stays a.schema.types rows name other root key (deletion_of a rows name root forest e u.0) (found_row a rows name root forest e u.0) (found_row a rows other key forest e u.1) differs))

pub cut_named : (a : WalkView) (name other : Ilk) (root key : List ℕ) (entry : Option (List ℕ)) → IsTrue (tells_forest a) → AreUnder a name root (At other key entry) → same_name name other ≡ true
    → IsCut a name (At other key entry) true
cut_named a name other root key entry forest under is =
    where_told a.forest (λ rows. true ≡ is_new_name (without_span a.schema.types rows name) other)
    (λ rows e. sym (ap (is_new_name (without_span a.schema.types rows name)) (sym (name_is name other is)) ∙ name_gone a.schema.types rows name (deletion_of a rows name root forest e (under rows e).0)))

pub anchor_kept : (a : WalkView) (name : Ilk) (at : Anchor) → IsTrue (stands_in a None at) → IsCut a name at false → IsAnchorLeft a name at at
anchor_kept a name at there cut =
    where_told a.forest (λ rows. at ≡ kept_anchor (view_of a.schema None rows) (view_of a.schema None (without_span a.schema.types rows name)) at)
    (λ rows e. sym (anchor_stays a.schema.types rows (without_span a.schema.types rows name) at (place_at a rows at e there)
    (sym (told_at a.forest rows (λ r. false ≡ is_gone (without_span a.schema.types r name) at) e cut))))

pub anchor_moved : (a b : WalkView) (name : Ilk) (root : List ℕ) (at row : Anchor) (shown : Option Spot) → b.schema ≡ a.schema → b.forest ≡ a.forest → IsTrue (tells_forest a)
    → AreUnder a name root at → IsTrue (stands_in a None at) → IsCut a name at true → row ≡ At name root None → Shows b None (last_before row) shown
    → IsAnchorLeft a name at (option_map_or (λ (spot : Spot). spot.at) shown Front)
anchor_moved a b name root at row shown schema same forest under there cut is shows =
    where_told a.forest
    (λ rows. option_map_or (λ (spot : Spot). spot.at) shown Front ≡ kept_anchor (view_of a.schema None rows) (view_of a.schema None (without_span a.schema.types rows name)) at)
    (λ rows e.
    ap (λ o. option_map_or (λ (spot : Spot). spot.at) o Front)
    (shows_at a b rows None (last_before row) shown schema same e shows ∙ ap (λ p. last_before p (view_of a.schema None rows)) is)
    ∙ sym (anchor_moves a.schema.types rows name root (deletion_of a rows name root forest e (under rows e).0) at (place_at a rows at e there)
    (sym (told_at a.forest rows (λ r. true ≡ is_gone (without_span a.schema.types r name) at) e cut))))

-- ---- sessions

pub anchor_under : (a : WalkView) (name : Ilk) (root : List ℕ) (session : Session) → session.index ≡ None → AreOfList a (Delete name root) session → AreUnder a name root session.anchor
anchor_under a name root session plain given = λ rows e.
    (let g = given rows e in (g.1, row_at_place a.schema rows session.anchor (subst (λ (i : Option ℕ). is_place_of (view_of a.schema i rows) session.anchor ≡ true) plain g.0.anchor)))

row_place_of : (schema : Schema) (rows : List Row) (at : Anchor) → is_row_of schema rows (Some at) ≡ true → is_row_place schema rows at ≡ true
row_place_of schema rows Front h = refl
row_place_of schema rows (At name root entry) h = h

pub place_under : (a : WalkView) (name : Ilk) (root : List ℕ) (session : Session) (place : Option Anchor) → AreOfList a (Delete name root) session
    → ((rows : List Row) → Stands a.schema rows session → is_row_of a.schema rows place ≡ true) → ForSome place (λ at. AreUnder a name root at)
place_under a name root session place given stands = λ at is rows e.
    (let g = given rows e in (g.1, row_place_of a.schema rows at (subst (λ (o : Option Anchor). is_row_of a.schema rows o ≡ true) is (stands rows g.0))))

pub place_stands : (a : WalkView) (session : Session) (change : Change) → session.index ≡ None → AreOfList a change session → IsTrue (stands_in a None session.anchor)
place_stands a session change plain given = by a.forest refl
  where
    by : (o : Option (List Row)) → a.forest ≡ o → option_map_or (λ rows. is_place_of (view_of a.schema None rows) session.anchor) o true ≡ true
    by None e = refl
    by (Some rows) e = subst (λ (i : Option ℕ). is_place_of (view_of a.schema i rows) session.anchor ≡ true) plain (given rows e).0.anchor

-- of a session the three places
places_left : (schema : Schema) (change : Change) (old new : List Row) (session : Session) (anchor : Anchor) (held parent : Option Anchor) → session.index ≡ None
    → anchor ≡ kept_anchor (view_of schema None old) (view_of schema None new) session.anchor → held ≡ kept_hold change new session.held → parent ≡ kept_parent new session.parent
    → record session { anchor = anchor; held = held; parent = parent } ≡ kept_session schema change old new session
places_left schema change old new session anchor held parent plain e f g =
    λ i. record session {
      anchor = (e ∙ ap (λ (i : Option ℕ). kept_anchor (view_of schema i old) (view_of schema i new) session.anchor) (sym plain)) i;
      held = f i;
      parent = g i;
    }

hold_left : (name : Ilk) (root : List ℕ) (new : List Row) (held : Option Anchor) → kept_parent new held ≡ kept_hold (Delete name root) new held
hold_left name root new None = refl
hold_left name root new (Some Front) = refl
hold_left name root new (Some (At other key entry)) = refl

-- where the list has all rows that there were
abbrev pub HasAll : List Row → List Row → Type 0
HasAll old new = (name : Ilk) → is_new_name old name ≡ false → is_new_name new name ≡ false

still_there : (schema : Schema) (old new : List Row) (at : Anchor) → HasAll old new → is_row_place schema old at ≡ true → is_gone new at ≡ false
still_there schema old new Front all h = refl
still_there schema old new (At name root entry) all h = all name (known_at schema old (At name root entry) h)

parent_there : (schema : Schema) (old new : List Row) (place : Option Anchor) → HasAll old new → is_row_of schema old place ≡ true → kept_parent new place ≡ place
parent_there schema old new None all h = refl
parent_there schema old new (Some Front) all h = refl
parent_there schema old new (Some (At name root entry)) all h = ap (λ b. cond b None (Some (At name root entry))) (still_there schema old new (At name root entry) all h)

anchor_there : (schema : Schema) (old new : List Row) (session : Session) → session.index ≡ None → HasAll old new → Stands schema old session
    → session.anchor ≡ kept_anchor (view_of schema None old) (view_of schema None new) session.anchor
anchor_there schema old new session plain all s =
    let at = subst (λ (i : Option ℕ). is_place_of (view_of schema i old) session.anchor ≡ true) plain s.anchor in
    sym (anchor_stays schema.types old new session.anchor at (still_there schema old new session.anchor all (row_at_place schema old session.anchor at)))

-- a change that takes no row away, and strikes a hold only where its row isn't there, leaves the session
all_left : (schema : Schema) (change : Change) (old new : List Row) (session : Session) → session.index ≡ None → HasAll old new → Stands schema old session
    → ((held : Option Anchor) → kept_hold change new held ≡ kept_parent new held) → session ≡ kept_session schema change old new session
all_left schema change old new session plain all s strikes =
    places_left schema change old new session session.anchor session.held session.parent plain (anchor_there schema old new session plain all s)
    (sym (strikes session.held ∙ parent_there schema old new session.held all s.held)) (sym (parent_there schema old new session.parent all s.parent))

struck : (name : Ilk) (root content : List ℕ) (schema : Schema) (old new : List Row) (held : Option Anchor) → HasAll old new → is_row_of schema old held ≡ true → let_go name held ≡ kept_hold (Replace name root content) new held
struck name root content schema old new None all h = refl
struck name root content schema old new (Some Front) all h = refl
struck name root content schema old new (Some (At other key entry)) all h =
    ap (λ b. cond b None (Some (At other key entry))) (sym (ap (λ b. same_name name other || b) (still_there schema old new (At other key entry) all h) ∙ or_false (same_name name other)))
  where
    or_false : (b : Bool) → (b || false) ≡ b
    or_false true = refl
    or_false false = refl

-- ---- which changes have all rows

known_is : (rows : List Row) (name : Ilk) → is_new_name rows name ≡ false → list_any (λ row. same_name name row.name) rows ≡ true
known_is rows name h = by (list_any (λ row. same_name name row.name) rows) (sym (any_named rows name) ∙ h)
  where
    by : (b : Bool) → not b ≡ false → b ≡ true
    by true e = refl
    by false e = absurd (true≢false e)

insert_has : (schema : Schema) (rows : List Row) (new : Row) → HasAll rows (inserted schema rows new)
insert_has schema rows new name h =
    any_named (inserted schema rows new) name ∙ ap not (list_any-append known (take n rows) (new ∷ drop n rows) ∙ by (or_cases (list_any known (take n rows)) (list_any known (drop n rows)) whole))
  where
    n : ℕ
    n = insertion_place schema rows new

    known : Row → Bool
    known row = same_name name row.name

    whole : (list_any known (take n rows) || list_any known (drop n rows)) ≡ true
    whole = sym (list_any-append known (take n rows) (drop n rows)) ∙ ap (λ rs. list_any known rs) (take-append-drop n rows) ∙ known_is rows name h

    by : (list_any known (take n rows) ≡ true) ⊎ (list_any known (drop n rows) ≡ true) → (list_any known (take n rows) || (known new || list_any known (drop n rows))) ≡ true
    by (inl e) = or_left (list_any known (take n rows)) (known new || list_any known (drop n rows)) e
    by (inr e) = or_right (list_any known (take n rows)) (known new || list_any known (drop n rows)) (or_right (known new) (list_any known (drop n rows)) e)

replace_has : (rows : List Row) (row : Ilk) (content : List ℕ) → HasAll rows (replaced rows row content)
replace_has rows row content name h = any_named (replaced rows row content) name ∙ ap not (same rows) ∙ sym (any_named rows name) ∙ h
  where
    one : (r : Row) (b : Bool) → same_name name (let s : Row = cond b (with_content r content) r in s).name ≡ same_name name r.name
    one r true = refl
    one r false = refl

    same : (rows : List Row) → list_any (λ r. same_name name r.name) (replaced rows row content) ≡ list_any (λ r. same_name name r.name) rows
    same [] = refl
    same (r ∷ rs) =
        ap (λ b. b || list_any (λ x. same_name name x.name) (replaced rs row content)) (one r (same_name r.name row)) ∙ ap (λ b. same_name name r.name || b) (same rs)

-- ---- each kind of change

pub deletes : (a : WalkView) (name : Ilk) (root : List ℕ) (session : Session) (anchor : Anchor) (held parent : Option Anchor) → session.index ≡ None
    → IsAnchorLeft a name session.anchor anchor → IfSome a.forest (λ rows. held ≡ kept_parent (without_span a.schema.types rows name) session.held)
    → IfSome a.forest (λ rows. parent ≡ kept_parent (without_span a.schema.types rows name) session.parent)
    → IsLeft a (Delete name root) session (record session { anchor = anchor; held = held; parent = parent })
deletes a name root session anchor held parent plain e f g =
    where_told a.forest
    (λ rows. (other : Ilk) → record session { anchor = anchor; held = held; parent = parent } ≡ kept_session a.schema (Delete name root) rows (changed a.schema (Delete name root) other rows) session)
    (λ rows is other.
    places_left a.schema (Delete name root) rows (without_span a.schema.types rows name) session anchor held parent plain
    (told_at a.forest rows (λ r. anchor ≡ kept_anchor (view_of a.schema None r) (view_of a.schema None (without_span a.schema.types r name)) session.anchor) is e)
    (told_at a.forest rows (λ r. held ≡ kept_parent (without_span a.schema.types r name) session.held) is f ∙ hold_left name root (without_span a.schema.types rows name) session.held)
    (told_at a.forest rows (λ r. parent ≡ kept_parent (without_span a.schema.types r name) session.parent) is g))

pub replaces : (a : WalkView) (name : Ilk) (root content : List ℕ) (session : Session) → session.index ≡ None → AreOfList a (Replace name root content) session
    → IsLeft a (Replace name root content) session (record session { held = let_go name session.held })
replaces a name root content session plain given =
    where_told a.forest
    (λ rows. (other : Ilk) → record session { held = let_go name session.held } ≡ kept_session a.schema (Replace name root content) rows (changed a.schema (Replace name root content) other rows) session)
    (λ rows is other.
    let s = (given rows is).0 in
    let all = replace_has rows name content in
    places_left a.schema (Replace name root content) rows (replaced rows name content) session session.anchor (let_go name session.held) session.parent plain
    (anchor_there a.schema rows (replaced rows name content) session plain all s) (struck name root content a.schema rows (replaced rows name content) session.held all s.held)
    (sym (parent_there a.schema rows (replaced rows name content) session.parent all s.parent)))

-- a change that strikes no hold, of a list that has all rows
leaves : (a : WalkView) (change : Change) (session : Session) → session.index ≡ None → AreOfList a change session
    → ((rows : List Row) (name : Ilk) → HasAll rows (changed a.schema change name rows)) → ((new : List Row) (held : Option Anchor) → kept_hold change new held ≡ kept_parent new held)
    → IsLeft a change session session
leaves a change session plain given all strikes =
    where_told a.forest (λ rows. (name : Ilk) → session ≡ kept_session a.schema change rows (changed a.schema change name rows) session)
    (λ rows is name. all_left a.schema change rows (changed a.schema change name rows) session plain (all rows name) (given rows is).0 (strikes (changed a.schema change name rows)))

does_nothing : (a : WalkView) (session : Session) → session.index ≡ None → AreOfList a Nothing session → IsLeft a Nothing session session
does_nothing a session plain given = leaves a Nothing session plain given (λ rows name other h. h) strikes
  where
    strikes : (new : List Row) (held : Option Anchor) → kept_hold Nothing new held ≡ kept_parent new held
    strikes new None = refl
    strikes new (Some Front) = refl
    strikes new (Some (At name root entry)) = refl

heals : (a : WalkView) (index : ℕ) (key : List ℕ) (session : Session) → session.index ≡ None → AreOfList a (Heal index key) session → IsLeft a (Heal index key) session session
heals a index key session plain given = leaves a (Heal index key) session plain given (λ rows name other h. h) strikes
  where
    strikes : (new : List Row) (held : Option Anchor) → kept_hold (Heal index key) new held ≡ kept_parent new held
    strikes new None = refl
    strikes new (Some Front) = refl
    strikes new (Some (At name root entry)) = refl

inserts : (a : WalkView) (parent : Option Ilk) (root : List ℕ) (code : ℕ) (content : List ℕ) (session : Session) → session.index ≡ None → AreOfList a (Insert parent root code content) session
    → IsLeft a (Insert parent root code content) session session
inserts a parent root code content session plain given =
    leaves a (Insert parent root code content) session plain given (λ rows name. insert_has a.schema rows (record { name = name; code = code; parent = parent; content = content })) strikes
  where
    strikes : (new : List Row) (held : Option Anchor) → kept_hold (Insert parent root code content) new held ≡ kept_parent new held
    strikes new None = refl
    strikes new (Some Front) = refl
    strikes new (Some (At name root entry)) = refl

-- all changes but a replacement and a deletion
pub leave : (a : WalkView) (change : Change) (session : Session) → session.index ≡ None → AreOfList a change session
    → (change ≡ Nothing) ⊎ (((parent : Option Ilk) × (root : List ℕ) × (code : ℕ) × (content : List ℕ) × (change ≡ Insert parent root code content)) ⊎ ((index : ℕ) × (key : List ℕ) × (change ≡ Heal index key)))
    → IsLeft a change session session
leave a change session plain given (inl e) =
    subst (λ (c : Change). IsLeft a c session session) (sym e) (does_nothing a session plain (subst (λ (c : Change). AreOfList a c session) e given))
leave a change session plain given (inr (inl (parent, root, code, content, e))) =
    subst (λ (c : Change). IsLeft a c session session) (sym e) (inserts a parent root code content session plain (subst (λ (c : Change). AreOfList a c session) e given))
leave a change session plain given (inr (inr (index, key, e))) =
    subst (λ (c : Change). IsLeft a c session session) (sym e) (heals a index key session plain (subst (λ (c : Change). AreOfList a c session) e given))
