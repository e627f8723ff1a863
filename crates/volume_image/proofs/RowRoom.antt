-- The numbers of a state that a partition may have have a place in a control row.
use Rattle.std.proofs.Common.{◌≡◌, ◌∙◌, ℕ, ◌≤◌, Bool, true, false, cond, List, Option, None, Some, refl, sym, ap, subst, arith, nat_le, slice_get}
use Rattle.std.specs.Prelude.{◌==◌, ◌&&◌, ◌||◌}
use Rattle.std.specs.List.{list_all}
use Rattle.std.specs.Option.{option_map_or}
use Rattle.std.proofs.lemmas.Bool.{and_parts, eqb-true, leb-true, true≢false}
use Rattle.std.proofs.lemmas.List.Folds.{list_all_at}
use Rattle.std.proofs.lemmas.Option.{slice_get_within, get_or_from_slice_get}
use Rattle.hal_base.specs.declared.place.Cursor.{Cursor}
use Rattle.hal_base.specs.declared.place.Cursor.TheVariants.{Front, At, Anchors}
use Rattle.hal_base.specs.declared.place.PartState.{PartState}
use Rattle.hal_schema.specs.declared.schema.PartDef.{PartDef}
use Rattle.hal_schema.specs.declared.schema.Schema.{Schema}
use Rattle.hal_schema.specs.Lawful.{part_is_kept, factors_fit, number_fits}
use Rattle.volume_image.specs.Control.{most_number, standing_fits, cursor_fits, part_state_fits, state_fits, control_row}
use Rattle.volume_image.specs.Rows.{HasRowRoom, HasAnchorRoom}

kept_at : {X : Type 0} (p : X → Bool) (xs : List X) (k : ℕ) (x : X) → list_all p xs ≡ true → slice_get xs k ≡ Some x → p x ≡ true
kept_at {X} p xs k x all is = by (p x) refl
  where
    by : (b : Bool) → p x ≡ b → p x ≡ true
    by true e = e
    by false e = absurd (true≢false (sym all ∙ list_all_at p xs k x (slice_get_within xs k x is) (ap p (get_or_from_slice_get xs k x x is) ∙ e)))

most_if : (b : Bool) → cond b 65535 65534 ≤ 65535
most_if true = omega arith
most_if false = omega arith

anchors_kept : (phdam : Bool) (p : PartDef) → phdam ≡ true → part_is_kept phdam p ≡ true → p.anchors ≤ 1000000
anchors_kept true p is kept = leb-true p.anchors 1000000 (and_parts _ _ (and_parts _ _ (and_parts _ _ (and_parts _ _ kept).0).0).0).1
anchors_kept false p is kept = absurd (true≢false (sym is))

cursor_room : (schema : Schema) (place : ℕ) (p : PartDef) (cursor : Cursor) → part_is_kept schema.phdam p ≡ true → cursor_fits schema place p cursor ≡ true → HasAnchorRoom cursor
cursor_room schema place p Front kept fit = tt
cursor_room schema place p (At key) kept fit = tt
cursor_room schema place p (Anchors done) kept fit =
    let a = and_parts (schema.phdam && nat_le 1 done) (nat_le done p.anchors) fit in
    let b = and_parts schema.phdam (nat_le 1 done) a.0 in
    let few = leb-true done p.anchors a.1 in
    let most = anchors_kept schema.phdam p b.0 kept in
    omega (arith, few, most)

six : (a b c d e f : Bool) → (a && b && c && d && e && f) ≡ true → (a ≡ true) × (c ≡ true) × (f ≡ true)
six a b c d e f all =
    let v = and_parts (a && b && c && d && e) f all in
    let w = and_parts (a && b && c && d) e v.0 in
    let x = and_parts (a && b && c) d w.0 in
    let y = and_parts (a && b) c x.0 in
    let z = and_parts a b y.0 in
    (z.0, y.1, v.1)

room_in : (schema : Schema) (place : ℕ) (s : PartState) (p : PartDef) → part_is_kept schema.phdam p ≡ true → part_state_fits schema place s p ≡ true → HasRowRoom s
room_in schema place s p kept fit =
    let is = six (s.part == p.number) (nat_le 1 s.number) (nat_le s.number (most_number s.state)) (s.side == 65 || s.side == 77) (standing_fits s) (cursor_fits schema place p s.cursor) fit in
    let part = eqb-true s.part p.number is.0 in
    let number = leb-true s.number (most_number s.state) is.1 in
    let both = and_parts (nat_le 1 p.number) (nat_le p.number 32767) (and_parts (factors_fit schema.phdam p) (number_fits p.number) kept).1 in
    let low = leb-true p.number 32767 both.1 in
    record { part = omega (arith, part, low); number = omega (arith, number, most_if (s.state == 73)); cursor = cursor_room schema place p s.cursor kept is.2 }

room_of : (schema : Schema) (place : ℕ) (s : PartState) (o : Option PartDef) → slice_get schema.parts place ≡ o → list_all (part_is_kept schema.phdam) schema.parts ≡ true → option_map_or (part_state_fits schema place s) o false ≡ true → HasRowRoom s
room_of schema place s None is kept fit = absurd (true≢false (sym fit))
room_of schema place s (Some p) is kept fit = room_in schema place s p (kept_at (part_is_kept schema.phdam) schema.parts place p kept is) fit

pub room_if_fits : (schema : Schema) (place : ℕ) (s : PartState) → list_all (part_is_kept schema.phdam) schema.parts ≡ true → state_fits schema place s ≡ true → HasRowRoom s
room_if_fits schema place s kept fit = room_of schema place s (slice_get schema.parts place) refl kept fit

some_state : (a b : PartState) → Some a ≡ Some b → a ≡ b
some_state a b is = cc

no_state : (s : PartState) → None ≡ Some s → ⊥
no_state s is = cc

-- a row that has no state at all
pub none_found : (schema : Schema) (place : ℕ) (row : List ℕ) → list_all (part_is_kept schema.phdam) schema.parts ≡ true → ((s : PartState) → HasRowRoom s → row ≡ control_row s → None ≡ Some s) → (s : PartState) → state_fits schema place s ≡ true → row ≡ control_row s → ⊥
none_found schema place row kept told s fit is = no_state s (told s (room_if_fits schema place s kept fit) is)

-- a row that has a state, which isn't lawful
pub none_lawful : (schema : Schema) (place : ℕ) (row : List ℕ) (state : PartState) (good : Bool) → list_all (part_is_kept schema.phdam) schema.parts ≡ true → ((s : PartState) → HasRowRoom s → row ≡ control_row s → Some state ≡ Some s) → (row ≡ control_row state → state_fits schema place state ≡ true → good ≡ true) → good ≡ false → (s : PartState) → state_fits schema place s ≡ true → row ≡ control_row s → ⊥
none_lawful schema place row state good kept told lawful wrong s fit is =
    let same = some_state state s (told s (room_if_fits schema place s kept fit) is) in
    true≢false (sym (lawful (subst (λ (x : PartState). row ≡ control_row x) (sym same) is) (subst (λ (x : PartState). state_fits schema place x ≡ true) (sym same) fit)) ∙ wrong)

-- a row has one lawful state
pub one_lawful : (schema : Schema) (place : ℕ) (row : List ℕ) (state : PartState) → list_all (part_is_kept schema.phdam) schema.parts ≡ true → ((s : PartState) → HasRowRoom s → row ≡ control_row s → Some state ≡ Some s) → (s : PartState) → state_fits schema place s ≡ true → row ≡ control_row s → s ≡ state
one_lawful schema place row state kept told s fit is = sym (some_state state s (told s (room_if_fits schema place s kept fit) is))
