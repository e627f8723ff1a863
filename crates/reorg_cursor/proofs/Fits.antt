-- The states that units and events lead to are such that a control row may have.
use Rattle.std.proofs.Common.{◌≡◌, ℕ, zero, suc, ◌+◌, ◌-◌, ◌*◌, ◌%◌, ◌^◌, ◌<◌, ◌≤◌, ◌==◌, nat_le, Bool, true, false, not, cond, ◌&&◌, ◌||◌, List, [], ◌∷◌, length, take, drop, Option, None, Some, refl, sym, ap, subst, ◌∙◌, arith, mod-lt}
use Rattle.std.specs.Prelude.{fold, unwrap_or, option_and_then}
use Rattle.std.specs.List.{slice_get}
use Rattle.std.specs.Option.{option_map_or}
use Rattle.std.proofs.lemmas.Bool.{true≢false, and_parts, and_from, cond-true, cond-false, leb-true, le-leb, eqb-true, eqb-false, eq-eqb}
use Rattle.std.proofs.lemmas.List.{length-drop}
use Rattle.hal_base.specs.declared.place.Cursor.{Cursor}
use Rattle.hal_base.specs.declared.place.Cursor.TheVariants.{Front, At, Anchors}
use Rattle.hal_base.specs.declared.place.PartState.{PartState}
use Rattle.hal_schema.specs.declared.row.Row.{Row}
use Rattle.hal_schema.specs.declared.schema.KeyField.{KeyField}
use Rattle.hal_schema.specs.declared.schema.PartDef.{PartDef}
use Rattle.hal_schema.specs.declared.schema.Schema.{Schema}
use Rattle.hal_schema.specs.declared.schema.SegType.{SegType}
use Rattle.hal_schema.specs.Facts.{IsKept, LiesIn}
use Rattle.hal_schema.specs.Forest.{has_length}
use Rattle.hal_schema.specs.Roots.{partition_of, partition_place, anchor_of, anchor_place}
use Rattle.hal_schema.specs.SegType.{key_bytes, portion, type_of}
use Rattle.volume_image.specs.Control.{cursor_fits, standing_fits, most_number, part_state_fits, state_fits}
use Rattle.reorg_cursor.specs.declared.refusal.Refusal.{Refusal}
use Rattle.reorg_cursor.specs.declared.refusal.Refusal.TheVariants.{Begun, NotBegun, Paused, LastNumber}
use Rattle.reorg_cursor.specs.State.{start_refusal, unit_refusal, resume_refusal, started, paused, resumed, ended}
use Rattle.reorg_cursor.specs.Groups.{cursor_at}
use Rattle.reorg_cursor.proofs.Marks.{of_kind, key_of}
use Rattle.reorg_cursor.proofs.RootOrder.{IsRootOf}

some_is_none : (r : Refusal) → Some r ≡ None → ⊥
some_is_none r e = cc

portion_long : (start bytes : ℕ) (content : List ℕ) → 1 ≤ start → start + bytes ≤ length content + 1 → length (portion start bytes content) ≡ bytes
portion_long start bytes content from within =
    let n : (start - 1 + bytes) - (start - 1) ≡ bytes = omega arith in
    ap (λ k. length (take k (drop (start - 1) content))) n ∙ took bytes (drop (start - 1) content) (let d = length-drop (start - 1) content in omega (arith, d))
  where
    took : (n : ℕ) (xs : List ℕ) → n ≤ length xs → length (take n xs) ≡ n
    took zero xs h = refl
    took (suc n) [] h = absurd (omega arith)
    took (suc n) (x ∷ xs) h = let t = took n xs (omega arith) in omega (arith, t)

-- a state that fits, in its parts
pub record FitsAt (schema : Schema) (place : ℕ) (s : PartState) : Type 0 where
  pub part : PartDef
  pub is : slice_get schema.parts place ≡ Some part
  pub of : (s.part == part.number) ≡ true
  pub from : nat_le 1 s.number ≡ true
  pub most : nat_le s.number (most_number s.state) ≡ true
  pub side : (s.side == 65 || s.side == 77) ≡ true
  pub standing : standing_fits s ≡ true
  pub cursor : cursor_fits schema place part s.cursor ≡ true

pub fits_parts : (schema : Schema) (place : ℕ) (s : PartState) → state_fits schema place s ≡ true → FitsAt schema place s
fits_parts schema place s h = by (slice_get schema.parts place) refl h
  where
    by : (found : Option PartDef) → slice_get schema.parts place ≡ found → option_map_or (part_state_fits schema place s) found false ≡ true → FitsAt schema place s
    by None e h = absurd (true≢false (sym h))
    by (Some part) e h =
        let a = and_parts (s.part == part.number && nat_le 1 s.number && nat_le s.number (most_number s.state) && (s.side == 65 || s.side == 77) && standing_fits s) (cursor_fits schema place part s.cursor) h in
        let b = and_parts (s.part == part.number && nat_le 1 s.number && nat_le s.number (most_number s.state) && (s.side == 65 || s.side == 77)) (standing_fits s) a.0 in
        let c = and_parts (s.part == part.number && nat_le 1 s.number && nat_le s.number (most_number s.state)) (s.side == 65 || s.side == 77) b.0 in
        let d = and_parts (s.part == part.number && nat_le 1 s.number) (nat_le s.number (most_number s.state)) c.0 in
        let f = and_parts (s.part == part.number) (nat_le 1 s.number) d.0 in
        record { part = part; is = e; of = f.0; from = f.1; most = d.1; side = c.1; standing = b.1; cursor = a.1 }

kind_from : (schema : Schema) (place : ℕ) (part : PartDef) (cursor : Cursor) → cursor_fits schema place part cursor ≡ true → of_kind schema cursor ≡ true
kind_from schema place part Front h = refl
kind_from schema place part (At key) h =
    let a = and_parts (not schema.phdam && length key == key_bytes schema.types 1) (option_map_or (λ p. p == place) (partition_of schema key) false) h in
    (and_parts (not schema.phdam) (length key == key_bytes schema.types 1) a.0).0
kind_from schema place part (Anchors done) h =
    let a = and_parts (schema.phdam && nat_le 1 done) (nat_le done part.anchors) h in
    (and_parts schema.phdam (nat_le 1 done) a.0).0

pub fits_kind : (schema : Schema) (place : ℕ) (s : PartState) → state_fits schema place s ≡ true → of_kind schema s.cursor ≡ true
fits_kind schema place s h =
    let at = fits_parts schema place s h in
    kind_from schema place at.part s.cursor at.cursor

-- and back from them
pub fits_from : (schema : Schema) (place : ℕ) (s : PartState) → FitsAt schema place s → state_fits schema place s ≡ true
fits_from schema place s at =
    ap (λ (found : Option PartDef). option_map_or (part_state_fits schema place s) found false) at.is
    ∙ and_from (s.part == at.part.number && nat_le 1 s.number && nat_le s.number (most_number s.state) && (s.side == 65 || s.side == 77) && standing_fits s) (cursor_fits schema place at.part s.cursor)
    (and_from (s.part == at.part.number && nat_le 1 s.number && nat_le s.number (most_number s.state) && (s.side == 65 || s.side == 77)) (standing_fits s)
    (and_from (s.part == at.part.number && nat_le 1 s.number && nat_le s.number (most_number s.state)) (s.side == 65 || s.side == 77)
    (and_from (s.part == at.part.number && nat_le 1 s.number) (nat_le s.number (most_number s.state)) (and_from (s.part == at.part.number) (nat_le 1 s.number) at.of at.from) at.most)
    at.side) at.standing) at.cursor

-- ---- which states a command isn't refused by

pub start_idle : (s : PartState) → start_refusal s ≡ None → ((s.state == 73) ≡ true) × ((s.number == 65535) ≡ false)
start_idle s h = by (s.state == 73) (s.state == 67) refl h
  where
    last : (b : Bool) → cond b (Some LastNumber) None ≡ None → b ≡ false
    last true h = cc
    last false h = refl

    by : (idle active : Bool) → (s.state == 73) ≡ idle → cond idle (cond (s.number == 65535) (Some LastNumber) None) (cond active (Some Begun) (Some Begun)) ≡ None → ((s.state == 73) ≡ true) × ((s.number == 65535) ≡ false)
    by true active e h = (e, last (s.number == 65535) h)
    by false true e h = absurd (some_is_none Begun h)
    by false false e h = absurd (some_is_none Begun h)

pub unit_active : (s : PartState) → unit_refusal s ≡ None → ((s.state == 73) ≡ false) × ((s.state == 67) ≡ true)
unit_active s h = by (s.state == 73) (s.state == 67) refl refl h
  where
    by : (idle active : Bool) → (s.state == 73) ≡ idle → (s.state == 67) ≡ active → cond idle (Some NotBegun) (cond active None (Some Paused)) ≡ None → ((s.state == 73) ≡ false) × ((s.state == 67) ≡ true)
    by true active e f h = absurd (some_is_none NotBegun h)
    by false true e f h = (e, f)
    by false false e f h = absurd (some_is_none Paused h)

pub resume_begun : (s : PartState) → resume_refusal s ≡ None → (s.state == 73) ≡ false
resume_begun s h = by (s.state == 73) (s.state == 67) refl h
  where
    by : (idle active : Bool) → (s.state == 73) ≡ idle → cond idle (Some NotBegun) (cond active (Some Begun) None) ≡ None → (s.state == 73) ≡ false
    by true active e h = absurd (some_is_none NotBegun h)
    by false active e h = e

-- ---- what the commands make of a state that fits

most_idle : (number state : ℕ) → nat_le number (most_number state) ≡ true → (state == 73) ≡ true → number ≤ 65535
most_idle number state h e = leb-true number 65535 (sym (ap (nat_le number) (cond-true (state == 73) 65535 65534 e)) ∙ h)

most_begun : (number state : ℕ) → nat_le number (most_number state) ≡ true → (state == 73) ≡ false → number ≤ 65534
most_begun number state h e = leb-true number 65534 (sym (ap (nat_le number) (cond-false (state == 73) 65535 65534 e)) ∙ h)

pub started_fits : (schema : Schema) (place : ℕ) (s : PartState) → FitsAt schema place s → start_refusal s ≡ None → FitsAt schema place (started s)
started_fits schema place s at h =
    let idle = start_idle s h in
    let most = most_idle s.number s.state at.most idle.0 in
    let other = eqb-false s.number 65535 idle.1 in
    record { part = at.part; is = at.is; of = at.of; from = at.from; most = le-leb s.number 65534 (omega arith); side = at.side; standing = refl; cursor = at.cursor }

pub paused_fits : (schema : Schema) (place : ℕ) (s : PartState) → FitsAt schema place s → (s.state == 73) ≡ false → FitsAt schema place (paused s)
paused_fits schema place s at h =
    record { part = at.part; is = at.is; of = at.of; from = at.from; most = le-leb s.number 65534 (most_begun s.number s.state at.most h); side = at.side; standing = refl; cursor = at.cursor }

pub resumed_fits : (schema : Schema) (place : ℕ) (s : PartState) → FitsAt schema place s → (s.state == 73) ≡ false → FitsAt schema place (resumed s)
resumed_fits schema place s at h =
    record { part = at.part; is = at.is; of = at.of; from = at.from; most = le-leb s.number 65534 (most_begun s.number s.state at.most h); side = at.side; standing = refl; cursor = at.cursor }

pub ended_fits : (schema : Schema) (place : ℕ) (s : PartState) → FitsAt schema place s → (s.state == 73) ≡ false → FitsAt schema place (ended s)
ended_fits schema place s at h =
    let most = most_begun s.number s.state at.most h in
    record {
      part = at.part;
      is = at.is;
      of = at.of;
      from = le-leb 1 (s.number + 1) (omega arith);
      most = le-leb (s.number + 1) 65535 (omega arith);
      side = other (s.side == 65);
      standing = refl;
      cursor = refl;
    }
  where
    other : (b : Bool) → (cond b 77 65 == 65 || cond b 77 65 == 77) ≡ true
    other true = refl
    other false = refl

-- ---- a cursor behind records

-- the key of a root has the length that the schema says
root_long : (types : List SegType) (code : ℕ) (t : SegType) (k : KeyField) (content : List ℕ) → type_of types 1 ≡ Some t → t.key ≡ Some k → LiesIn t.bytes k.start k.bytes
    → code ≡ 1 → option_map_or (λ t. length content == t.bytes) (type_of types code) false ≡ true
    → length (option_map_or (λ k. portion k.start k.bytes content) (option_and_then (λ t. t.key) (type_of types code)) []) ≡ key_bytes types 1
root_long types code t k content is key lies one long =
    let found : type_of types code ≡ Some t = ap (type_of types) one ∙ is in
    let bytes = eqb-true (length content) t.bytes (sym (ap (λ (o : Option SegType). option_map_or (λ t. length content == t.bytes) o false) found) ∙ long) in
    let from = lies.from in
    let within = lies.within in
    let whole = portion_long k.start k.bytes content from (omega arith) in
    let there = ap (λ (o : Option SegType). length (option_map_or (λ k. portion k.start k.bytes content) (option_and_then (λ t. t.key) o) [])) found
    ∙ ap (λ (o : Option KeyField). length (option_map_or (λ k. portion k.start k.bytes content) o [])) key in
    let here = ap (λ (o : Option SegType). option_map_or (λ k. k.bytes) (option_and_then (λ t. t.key) o) 0) is ∙ ap (λ (o : Option KeyField). option_map_or (λ k. k.bytes) o 0) key in
    there ∙ whole ∙ sym here

-- the anchor of a root is one of its partition's
anchor_below : (schema : Schema) (place : ℕ) (part : PartDef) (key : List ℕ) → schema.phdam ≡ true → slice_get schema.parts place ≡ Some part → partition_of schema key ≡ Some place → 1 ≤ part.anchors
    → anchor_place schema key < part.anchors
anchor_below schema place part key phdam is of some =
    let at : partition_place schema key ≡ place = ap (λ (o : Option ℕ). unwrap_or o (length schema.parts)) of in
    let anchor : anchor_place schema key ≡ anchor_of part.anchors key =
    cond-true schema.phdam (option_map_or (λ part. anchor_of part.anchors key) (slice_get schema.parts (partition_place schema key)) 0) 0 phdam
    ∙ ap (λ n. option_map_or (λ part. anchor_of part.anchors key) (slice_get schema.parts n) 0) at
    ∙ ap (λ (o : Option PartDef). option_map_or (λ part. anchor_of part.anchors key) o 0) is in
    subst (λ n. n < part.anchors) (sym anchor) (mod-lt (fold (λ hash byte. (31 * hash + byte) % 2 ^ 32) 0 key) (omega arith))

pub cursor_at_fits : (schema : Schema) → IsKept schema → (place : ℕ) (part : PartDef) (row : Row) → slice_get schema.parts place ≡ Some part → IsRootOf schema place row → has_length schema.types row ≡ true
    → cursor_fits schema place part (cursor_at schema (key_of schema row)) ≡ true
cursor_at_fits schema kept place part row is root long = by schema.phdam refl
  where
    key : List ℕ
    key = key_of schema row

    by : (p : Bool) → schema.phdam ≡ p → cursor_fits schema place part (cond p (Anchors (anchor_place schema (key_of schema row) + 1)) (At (key_of schema row))) ≡ true
    by true e =
        let below = anchor_below schema place part (key_of schema row) e is root.partition ((kept.parts place part is).some_anchors e) in
        and_from (schema.phdam && nat_le 1 (anchor_place schema (key_of schema row) + 1)) (nat_le (anchor_place schema (key_of schema row) + 1) part.anchors)
        (and_from schema.phdam (nat_le 1 (anchor_place schema (key_of schema row) + 1)) e (le-leb 1 (anchor_place schema (key_of schema row) + 1) (omega arith)))
        (le-leb (anchor_place schema (key_of schema row) + 1) part.anchors (omega arith))
    by false e =
        let t = kept.root_key.0 in
        let k = kept.root_key.1 in
        let lies = ((kept.types 1 t kept.root_key.2).key k kept.root_key.3).field in
        let whole = root_long schema.types row.code t k row.content kept.root_key.2 kept.root_key.3 lies root.code long in
        and_from (not schema.phdam && length (key_of schema row) == key_bytes schema.types 1) (option_map_or (λ p. p == place) (partition_of schema (key_of schema row)) false)
        (and_from (not schema.phdam) (length (key_of schema row) == key_bytes schema.types 1) (ap not e) (eq-eqb (length (key_of schema row)) (key_bytes schema.types 1) whole))
        (ap (λ (o : Option ℕ). option_map_or (λ p. p == place) o false) root.partition ∙ eq-eqb place place refl)
