-- What a change leaves of an anchor and of a session.
use Rattle.std.proofs.Common.{◌≡◌, ℕ, Bool, true, false, cond, ◌&&◌, ◌||◌, List, [], ◌∷◌, Option, None, Some, ◌⊎◌, inl, inr, refl, sym, ap, subst, ◌∙◌}
use Rattle.std.specs.Prelude.{filter, find, is_none}
use Rattle.std.specs.List.{list_any, last_or}
use Rattle.std.specs.Option.{option_map_or}
use Rattle.std.specs.Str.{bytes_eq}
use Rattle.std.proofs.lemmas.Bool.{true≢false, and_parts}
use Rattle.std.proofs.lemmas.Slice.Eq.{bytes_eq-Decides}
use Rattle.hal_base.specs.declared.place.Ilk.{Ilk}
use Rattle.hal_schema.specs.declared.row.Row.{Row}
use Rattle.hal_schema.specs.declared.schema.Schema.{Schema}
use Rattle.hal_schema.specs.declared.schema.SegType.{SegType}
use Rattle.hal_schema.specs.Row.{same_name, row_named, row_level, is_new_name}
use Rattle.hal_schema.proofs.RowNames.{name_is}
use Rattle.hal_schema.specs.Paths.{path_with, with_paths}
use Rattle.position_state.specs.declared.session.Anchor.{Anchor}
use Rattle.position_state.specs.declared.session.Anchor.TheVariants.{Front, At}
use Rattle.position_state.specs.declared.session.Session.{Session}
use Rattle.position_state.specs.declared.spot.Change.TheVariants.{Nothing}
use Rattle.position_state.specs.declared.spot.Spot.{Spot}
use Rattle.position_state.specs.View.{root_key_of, view_of, same_entry, same_place, is_at, all_up_to, up_to, root_named, is_place_of}
use Rattle.position_state.specs.Keep.{kept_anchor, kept_parent, kept_session}
use Rattle.position_state.specs.Lawful.{is_row_of, Stands}
use Rattle.position_state.specs.KeepLaws.{AnchorsStay, AnchorsStand, SessionsStay}

-- ---- places, as equations

pub entry_is : (a b : Option (List ℕ)) → same_entry a b ≡ true → a ≡ b
entry_is None None h = refl
entry_is None (Some b) h = absurd (true≢false (sym h))
entry_is (Some a) None h = absurd (true≢false (sym h))
entry_is (Some a) (Some b) h = ap (λ (x : List ℕ). Some x) ((bytes_eq-Decides a b).0 h)

place_is : (a b : Anchor) → same_place a b ≡ true → bytes_eq (root_named a) (root_named b) ≡ true → a ≡ b
place_is Front Front h r = refl
place_is Front (At b other more) h r = absurd (true≢false (sym h))
place_is (At a root entry) Front h r = absurd (true≢false (sym h))
place_is (At a root entry) (At b other more) h r =
    let p = and_parts (same_name a b) (same_entry entry more) h in
    by (name_is a b p.0) ((bytes_eq-Decides root other).0 r) (entry_is entry more p.1)
  where
    by : a ≡ b → root ≡ other → entry ≡ more → At a root entry ≡ At b other more
    by e f g = λ i. At (e i) (f i) (g i)

-- ---- what is found

abbrev shown : Spot → Option Spot → Spot
shown d None = d
shown d (Some spot) = spot

pub found_any : (p : Spot → Bool) (view : List Spot) (s : Spot) → find p view ≡ Some s → list_any p view ≡ true
found_any p [] s f = absurd (true≢false (ap is_none f))
found_any p (x ∷ view) s f = by (p x) (found_any p view s) f
  where
    by : (b : Bool) → (find p view ≡ Some s → list_any p view ≡ true) → cond b (Some x) (find p view) ≡ Some s → (b || list_any p view) ≡ true
    by true rest e = refl
    by false rest e = rest e

pub found_passes : (p : Spot → Bool) (view : List Spot) (s : Spot) → find p view ≡ Some s → p s ≡ true
found_passes p [] s f = absurd (true≢false (ap is_none f))
found_passes p (x ∷ view) s f = by (p x) refl (found_passes p view s) f
  where
    by : (b : Bool) → p x ≡ b → (find p view ≡ Some s → p s ≡ true) → cond b (Some x) (find p view) ≡ Some s → p s ≡ true
    by true t rest e = subst (λ (y : Spot). p y ≡ true) (ap (shown s) e) t
    by false t rest e = rest e

-- a place of a view is that of the element that is found
pub place_found : (view : List Spot) (name : Ilk) (root : List ℕ) (entry : Option (List ℕ)) → is_place_of view (At name root entry) ≡ true
    → (s : Spot) × (find (is_at (At name root entry)) view ≡ Some s) × (At name root entry ≡ s.at)
place_found view name root entry h = by (find (is_at (At name root entry)) view) refl h
  where
    by : (o : Option Spot) → find (is_at (At name root entry)) view ≡ o → option_map_or (λ spot. bytes_eq root (root_named spot.at)) o false ≡ true
        → (s : Spot) × (find (is_at (At name root entry)) view ≡ Some s) × (At name root entry ≡ s.at)
    by None e r = absurd (true≢false (sym r))
    by (Some s) e r = (s, e, place_is (At name root entry) s.at (found_passes (is_at (At name root entry)) view s e) r)

-- ---- the last that is kept

-- of the elements up to a place the last that passes is the one at it, where that passes
pub last_kept : (p : Spot → Bool) (at : Anchor) (view : List Spot) (o : Option Spot) (s : Spot) → find (is_at at) view ≡ Some s → p s ≡ true
    → last_or o (filter p (all_up_to at view)) ≡ Some s
last_kept p at [] o s f h = absurd (true≢false (ap is_none f))
last_kept p at (x ∷ view) o s f h = by (is_at at x) (λ o e. last_kept p at view o s e h) f
  where
    one : x ≡ s → last_or o (cond (p x) (x ∷ []) []) ≡ Some s
    one e = ap (λ b. last_or o (cond b (x ∷ []) [])) (ap p e ∙ h) ∙ ap (λ (y : Spot). Some y) e

    more : (b : Bool) → ((o : Option Spot) → last_or o (filter p (all_up_to at view)) ≡ Some s)
        → last_or o (cond b (x ∷ filter p (all_up_to at view)) (filter p (all_up_to at view))) ≡ Some s
    more true rest = rest (Some x)
    more false rest = rest o

    by : (b : Bool) → ((o : Option Spot) → find (is_at at) view ≡ Some s → last_or o (filter p (all_up_to at view)) ≡ Some s)
        → cond b (Some x) (find (is_at at) view) ≡ Some s → last_or o (filter p (x ∷ cond b [] (all_up_to at view))) ≡ Some s
    by true rest e = one (ap (shown s) e)
    by false rest e = more (p x) (λ o. rest o e)

pub anchors_stay : AnchorsStay
anchors_stay old new Front h k = refl
anchors_stay old new (At name root entry) h k = by (place_found old name root entry h) (place_found new name root entry k)
  where
    there : Spot → Bool
    there spot = list_any (is_at spot.at) new

    by : (s : Spot) × (find (is_at (At name root entry)) old ≡ Some s) × (At name root entry ≡ s.at)
        → (t : Spot) × (find (is_at (At name root entry)) new ≡ Some t) × (At name root entry ≡ t.at)
        → kept_anchor old new (At name root entry) ≡ At name root entry
    by (s, f, e) (t, g, k) =
        ap (λ o. option_map_or (λ (spot : Spot). spot.at) o Front)
        (last_kept there (At name root entry) old None s f (subst (λ (a : Anchor). list_any (is_at a) new ≡ true) e (found_any (is_at (At name root entry)) new t g)))
        ∙ sym e

-- the last of those that pass is one that passes, or there is none
pub last_passes : (p : Spot → Bool) (view : List Spot) (o : Option Spot) → option_map_or p o true ≡ true → option_map_or p (last_or o (filter p view)) true ≡ true
last_passes p [] o h = h
last_passes p (x ∷ view) o h = by (p x) refl (λ o h. last_passes p view o h)
  where
    by : (b : Bool) → p x ≡ b → ((o : Option Spot) → option_map_or p o true ≡ true → option_map_or p (last_or o (filter p view)) true ≡ true)
        → option_map_or p (last_or o (cond b (x ∷ filter p view) (filter p view))) true ≡ true
    by true e rest = rest (Some x) e
    by false e rest = rest o h

pub anchors_stand : AnchorsStand
anchors_stand old new at = by (last_or None (filter there (up_to at old))) (last_passes there (up_to at old) None refl)
  where
    there : Spot → Bool
    there spot = list_any (is_at spot.at) new

    by : (o : Option Spot) → option_map_or there o true ≡ true
        → (option_map_or (λ (spot : Spot). spot.at) o Front ≡ Front) ⊎ (list_any (is_at (option_map_or (λ (spot : Spot). spot.at) o Front)) new ≡ true)
    by None h = inl refl
    by (Some s) h = inr h

-- ---- sessions

-- a row that is on the list has no new name
pub under_known : (types : List SegType) (name : Ilk) (root : List ℕ) (path rows : List Row)
    → list_any (λ p. same_name p.1.name name && bytes_eq (root_key_of types p.0) root) (with_paths (row_level types) path rows) ≡ true → is_new_name rows name ≡ false
under_known types name root path [] h = absurd (true≢false (sym h))
under_known types name root path (row ∷ rows) h =
    by (same_name row.name name) (under_known types name root (path_with (row_level types) path row) rows) h
  where
    on : Bool → Bool
    on b = b && bytes_eq (root_key_of types (path_with (row_level types) path row)) root

    by : (b : Bool)
        → (list_any (λ p. same_name p.1.name name && bytes_eq (root_key_of types p.0) root) (with_paths (row_level types) (path_with (row_level types) path row) rows) ≡ true → is_new_name rows name ≡ false)
        → (on b || list_any (λ p. same_name p.1.name name && bytes_eq (root_key_of types p.0) root) (with_paths (row_level types) (path_with (row_level types) path row) rows)) ≡ true
        → is_none (cond b (Some row) (row_named rows name)) ≡ false
    by true rest h = refl
    by false rest h = rest h

-- so a held row and a parent that are there stay
parent_stays : (schema : Schema) (rows : List Row) (at : Option Anchor) → is_row_of schema rows at ≡ true → kept_parent rows at ≡ at
parent_stays schema rows None h = refl
parent_stays schema rows (Some Front) h = absurd (true≢false (sym h))
parent_stays schema rows (Some (At name root entry)) h =
    ap (λ b. cond b None (Some (At name root entry))) (under_known schema.types name root [] rows h)

session_stays : (schema : Schema) (rows : List Row) (session : Session) → Stands schema rows session → kept_session schema Nothing rows rows session ≡ session
session_stays schema rows session s =
    by (anchors_stay (view_of schema session.index rows) (view_of schema session.index rows) session.anchor s.anchor s.anchor)
    (parent_stays schema rows session.held s.held) (parent_stays schema rows session.parent s.parent)
  where
    by : kept_anchor (view_of schema session.index rows) (view_of schema session.index rows) session.anchor ≡ session.anchor → kept_parent rows session.held ≡ session.held
        → kept_parent rows session.parent ≡ session.parent → kept_session schema Nothing rows rows session ≡ session
    by e f g = λ i. record session { anchor = e i; held = f i; parent = g i }

pub sessions_stay : SessionsStay
sessions_stay = (λ schema rows name session s. (refl, session_stays schema rows session s), λ index entry schema rows name session s. (refl, session_stays schema rows session s))
