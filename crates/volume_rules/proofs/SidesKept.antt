-- Lawful deltas keep the rules 4, 5 and 7.
use Rattle.std.proofs.Common.{◌≡◌, ℕ, ◌==◌, Bool, true, false, ◌&&◌, ◌||◌, cond, not, List, [], ◌∷◌, Option, None, Some, refl, sym, ap, subst, ◌∙◌}
use Rattle.std.specs.Int.{w32, to_be_bytes}
use Rattle.std.specs.List.{list_all, list_any}
use Rattle.std.specs.Option.{option_map, option_map_or}
use Rattle.std.specs.Str.{bytes_eq}
use Rattle.std.proofs.lemmas.Bool.{and_parts, and_from, eqb-true, eq-eqb}
use Rattle.std.proofs.lemmas.Slice.Eq.{bytes_eq-Decides}
use Rattle.hal_base.specs.declared.place.Ilk.{Ilk}
use Rattle.hal_schema.specs.declared.row.Row.{Row}
use Rattle.hal_schema.specs.declared.schema.Schema.{Schema}
use Rattle.hal_schema.specs.declared.schema.SegType.{SegType}
use Rattle.std.specs.Ordering.{is_le, is_lt}
use Rattle.hal_schema.specs.Forest.{all_pairs, in_twin_order, has_unique_key}
use Rattle.hal_schema.specs.Keys.{key_cmp}
use Rattle.hal_schema.specs.Roots.{anchor_of, partition_of, root_cmp}
use Rattle.hal_schema.specs.Row.{same_name, same_parent, row_key}
use Rattle.hal_schema.proofs.RowNames.{name_is, name_from}
use Rattle.volume_rules.specs.View.{Home, Homed, Segment, View, Stands, segment_key}
use Rattle.volume_rules.specs.Delta.{Fate, Stays, Dropped, Rewritten, Fresh, Moved, Left, Delta, after, segment_after, with_content, Owes, IsLawful}
use Rattle.volume_rules.specs.Volume.{is_segment_of, stands_in, RowsStand}
use Rattle.volume_rules.specs.Sides.{RootSet, root_row_key, is_root_under, leads_to_root, KeepsRule4, Rooting, Rests, Unroots, Roots, rooted_after, roots_after, is_untouched, OwesRooting, OwesRoot, RootsFollow}
use Rattle.volume_rules.specs.Sides.{is_alike, is_listed, is_met, row_follows, OwesMeeting, RowsFollow, OwesBelonging, is_twin_like, stood_so, belongs_to}
use Rattle.volume_rules.specs.SideLaws.{DeltasKeepRule4, DeltasKeepRule5, DeltasKeepRule7}
use Rattle.volume_rules.proofs.Reading.{Origin, same, came, fresh, origin_of, remains}

-- ---- rule 4

module _ (schema : Schema) (is_target : ℕ → Bool) (view : View) (d : Delta) (roots : RootSet) (rooting : ℕ → List ℕ → Rooting)
    (lawful : IsLawful schema.types is_target view d) (follow : RootsFollow schema view d roots rooting) (kept : KeepsRule4 schema view roots) where
  -- a root that stays a root of its key
  still_under : (home : Home) (key : List ℕ) (f : Fate) → d.fate home ≡ f → is_untouched f ≡ true → Owes schema.types is_target view d home f → (o : Option Segment) → view.segments home ≡ o
      → option_map_or (is_root_under schema view key) o false ≡ true → option_map_or (is_root_under schema view key) (segment_after view.segments home f) false ≡ true
  still_under home key Stays e u owed o h under = ap (λ (o : Option Segment). option_map_or (is_root_under schema view key) o false) h ∙ under
  still_under home key (Rewritten content) e u owed None h under = cc
  still_under home key (Rewritten content) e u owed (Some s) h under =
      let p = and_parts (not s.copied && s.code == 1) (bytes_eq (root_row_key schema view s) key) under in
      let q = and_parts (not s.copied) (s.code == 1) p.0 in
      let same_key : segment_key schema.types (with_content content s) ≡ segment_key schema.types s = (owed s h).1 (eqb-true s.code 1 q.1) in
      let row_key_same : root_row_key schema view (with_content content s) ≡ root_row_key schema view s =
      ap (λ (k : List ℕ). cond schema.phdam (to_be_bytes w32 (anchor_of view.part.anchors k)) k) same_key in
      ap (λ (o : Option Segment). option_map_or (is_root_under schema view key) (option_map (with_content content) o) false) h
      ∙ and_from (not s.copied && s.code == 1) (bytes_eq (root_row_key schema view (with_content content s)) key) p.0 (ap (λ (k : List ℕ). bytes_eq k key) row_key_same ∙ p.1)
  still_under home key Dropped e u owed o h under = cc
  still_under home key (Fresh s) e u owed o h under = cc
  still_under home key (Moved from) e u owed o h under = cc
  still_under home key (Left to) e u owed o h under = cc

  lead : (number : ℕ) (key : List ℕ) (addr : ℕ) → roots_after roots rooting number key ≡ Some addr → leads_to_root schema (after view d) number key addr ≡ true
  lead number key addr h = go (rooting number key) (follow.rows number key) h
    where
      go : (r : Rooting) → OwesRooting schema view d roots number key r → rooted_after (roots number key) r ≡ Some addr → leads_to_root schema (after view d) number key addr ≡ true
      go Rests owed h =
          let home : Home = record { number = number; addr = addr } in
          still_under home key (d.fate home) refl (owed addr h) (lawful.fates home) (view.segments home) refl (kept.lead number key addr h)
      go Unroots owed h = cc
      go (Roots to) owed h =
          let at : to ≡ addr = ap {A = Option ℕ} (λ o. option_map_or (λ a. a) o 0) h in
          subst (λ (a : ℕ). leads_to_root schema (after view d) number key a ≡ true) at owed

  each : schema.phdam ≡ false → (home : Home) (s : Segment) → Stands (after view d) home s → s.code ≡ 1 → roots_after roots rooting home.number (root_row_key schema view s) ≡ Some home.addr
  each phidam home s stands root = by (origin_of schema.types is_target view d lawful home s stands)
    where
      by : Origin schema.types is_target view d home s → roots_after roots rooting home.number (root_row_key schema view s) ≡ Some home.addr
      by (same x) =
          let root_old : x.old.code ≡ 1 = sym x.code ∙ root in
          let keys : root_row_key schema view s ≡ root_row_key schema view x.old = ap (λ (k : List ℕ). cond schema.phdam (to_be_bytes w32 (anchor_of view.part.anchors k)) k) (x.key root) in
          let rests : rooting home.number (root_row_key schema view x.old) ≡ Rests = resting (d.fate home) x.fate (follow.homes phidam home) x.old x.stood root_old in
          ap (roots_after roots rooting home.number) keys ∙ ap (rooted_after (roots home.number (root_row_key schema view x.old))) rests ∙ kept.each phidam home x.old x.stood root_old
        where
          resting : (f : Fate) → remains f ≡ true → OwesRoot schema view rooting home f → (old : Segment) → Stands view home old → old.code ≡ 1 → rooting home.number (root_row_key schema view old) ≡ Rests
          resting Stays r owed old stood code = owed old stood code
          resting (Rewritten content) r owed old stood code = owed old stood code
          resting Dropped r owed old stood code = cc
          resting (Fresh new) r owed old stood code = cc
          resting (Moved from) r owed old stood code = cc
          resting (Left to) r owed old stood code = cc
      by (came x) =
          let owed = subst (OwesRoot schema view rooting home) x.fate (follow.homes phidam home) in
          ap (rooted_after (roots home.number (root_row_key schema view s))) (owed s x.stood root)
      by (fresh x owed) =
          let owes = subst (OwesRoot schema view rooting home) x (follow.homes phidam home) in
          ap (rooted_after (roots home.number (root_row_key schema view s))) (owes root)

pub deltas_keep_rule_4 : DeltasKeepRule4
deltas_keep_rule_4 schema is_target view d roots rooting lawful follow kept =
    record { lead = lead schema is_target view d roots rooting lawful follow kept; each = each schema is_target view d roots rooting lawful follow kept }

-- ---- rule 5

-- what is listed stands, under whatever row is like it
module _ (view : View) (kept : RowsStand view) (number : ℕ) where
  found : (test : Homed → Bool) (rows : List Homed) → list_all (stands_in view number) rows ≡ true → list_any test rows ≡ true → (r : Homed) × (test r ≡ true) × (stands_in view number r ≡ true)
  found test [] all any = cc
  found test (r ∷ rows) all any =
      let p = and_parts (stands_in view number r) (list_all (stands_in view number) rows) all in
      go (test r) refl p.0 any (found test rows p.1)
    where
      go : (b : Bool) → test r ≡ b → stands_in view number r ≡ true → (b || list_any test rows) ≡ true → (list_any test rows ≡ true → (r : Homed) × (test r ≡ true) × (stands_in view number r ≡ true))
          → (r : Homed) × (test r ≡ true) × (stands_in view number r ≡ true)
      go true e here any more = (r, e, here)
      go false e here any more = more any

-- the words of a segment and of a row, one by one
pub record Words (row : Row) (s : Segment) : Type 0 where
  pub uncopied : s.copied ≡ false
  pub code : s.code ≡ row.code
  pub name : s.name ≡ row.name
  pub content : s.content ≡ row.content

not_true : (b : Bool) → not b ≡ true → b ≡ false
not_true true h = cc
not_true false h = refl

words_of : (row : Row) (s : Segment) → is_segment_of row s ≡ true → Words row s
words_of row s h =
    let p = and_parts (not s.copied && s.code == row.code && same_name s.name row.name) (bytes_eq s.content row.content) h in
    let q = and_parts (not s.copied && s.code == row.code) (same_name s.name row.name) p.0 in
    let r = and_parts (not s.copied) (s.code == row.code) q.0 in
    record {
      uncopied = not_true s.copied r.0;
      code = eqb-true s.code row.code r.1;
      name = name_is s.name row.name q.1;
      content = (bytes_eq-Decides s.content row.content).0 p.1;
    }

from_words : (row : Row) (s : Segment) → Words row s → is_segment_of row s ≡ true
from_words row s w =
    and_from (not s.copied && s.code == row.code && same_name s.name row.name) (bytes_eq s.content row.content)
    (and_from (not s.copied && s.code == row.code) (same_name s.name row.name)
    (and_from (not s.copied) (s.code == row.code) (ap not w.uncopied) (eq-eqb s.code row.code w.code))
    (name_from s.name row.name w.name))
    ((bytes_eq-Decides s.content row.content).1 w.content)

-- the segment of a row at an address
pub record At (view : View) (home : Home) (row : Row) : Type 0 where
  pub s : Segment
  pub here : view.segments home ≡ Some s
  pub words : Words row s

pub at_row : (view : View) (number addr : ℕ) (r : Homed) → stands_in view number r ≡ true → r.addr ≡ addr → At view (record { number = number; addr = addr }) r.row
at_row view number addr r h at = go (view.segments (record { number = number; addr = addr })) refl (subst (λ (a : ℕ). option_map_or (is_segment_of r.row) (view.segments (record { number = number; addr = a })) false ≡ true) at h)
  where
    go : (o : Option Segment) → view.segments (record { number = number; addr = addr }) ≡ o → option_map_or (is_segment_of r.row) o false ≡ true → At view (record { number = number; addr = addr }) r.row
    go None e h = cc
    go (Some s) e h = record { s = s; here = e; words = words_of r.row s h }

-- a listed row is that of the segment that stands there
listed_at : (view : View) → RowsStand view → (number addr : ℕ) (row : Row) → is_listed (view.rows number) addr row ≡ true → At view (record { number = number; addr = addr }) row
listed_at view kept number addr row h =
    let f = found view kept number (λ r. r.addr == addr && is_alike r.row row) (view.rows number) (kept.stand number) h in
    let r = f.0 in
    let p = and_parts (r.addr == addr) (is_alike r.row row) f.1 in
    let q = and_parts (r.row.code == row.code && same_name r.row.name row.name) (bytes_eq r.row.content row.content) p.1 in
    let n = and_parts (r.row.code == row.code) (same_name r.row.name row.name) q.0 in
    let a = at_row view number addr r f.2 (eqb-true r.addr addr p.0) in
    record {
      s = a.s;
      here = a.here;
      words = record {
        uncopied = a.words.uncopied;
        code = a.words.code ∙ eqb-true r.row.code row.code n.0;
        name = a.words.name ∙ name_is r.row.name row.name n.1;
        content = a.words.content ∙ (bytes_eq-Decides r.row.content row.content).0 q.1;
      };
    }

module _ (types : List SegType) (is_target : ℕ → Bool) (view : View) (d : Delta) (lawful : IsLawful types is_target view d) (follow : RowsFollow view d) (kept : RowsStand view) where
  stands_after : (number : ℕ) (r : Homed) (f : Fate) → row_follows view number r f ≡ true → option_map_or (is_segment_of r.row) (segment_after view.segments (record { number = number; addr = r.addr }) f) false ≡ true
  stands_after number r Stays h =
      let a = listed_at view kept number r.addr r.row h in
      ap (λ (o : Option Segment). option_map_or (is_segment_of r.row) o false) a.here ∙ from_words r.row a.s a.words
  stands_after number r Dropped h = cc
  stands_after number r (Rewritten content) h =
      let p = and_parts (is_met (view.rows number) r.addr && bytes_eq content r.row.content) (list_any (λ o. o.addr == r.addr && o.row.code == r.row.code && same_name o.row.name r.row.name) (view.rows number)) h in
      let c = and_parts (is_met (view.rows number) r.addr) (bytes_eq content r.row.content) p.0 in
      let f = found view kept number (λ o. o.addr == r.addr && o.row.code == r.row.code && same_name o.row.name r.row.name) (view.rows number) (kept.stand number) p.1 in
      let o = f.0 in
      let q = and_parts (o.addr == r.addr && o.row.code == r.row.code) (same_name o.row.name r.row.name) f.1 in
      let n = and_parts (o.addr == r.addr) (o.row.code == r.row.code) q.0 in
      let a = at_row view number r.addr o f.2 (eqb-true o.addr r.addr n.0) in
      ap (λ (x : Option Segment). option_map_or (is_segment_of r.row) (option_map (with_content content) x) false) a.here
      ∙ from_words r.row (with_content content a.s)
      (record {
        uncopied = a.words.uncopied;
        code = a.words.code ∙ eqb-true o.row.code r.row.code n.1;
        name = a.words.name ∙ name_is o.row.name r.row.name q.1;
        content = (bytes_eq-Decides content r.row.content).0 c.1;
      })
  stands_after number r (Fresh s) h = h
  stands_after number r (Moved from) h =
      let a = listed_at view kept from.number from.addr r.row h in
      ap (λ (o : Option Segment). option_map_or (is_segment_of r.row) o false) a.here ∙ from_words r.row a.s a.words
  stands_after number r (Left to) h = cc

  all_stand : (number : ℕ) (rows : List Homed) → list_all (λ r. row_follows view number r (d.fate (record { number = number; addr = r.addr }))) rows ≡ true → list_all (stands_in (after view d) number) rows ≡ true
  all_stand number [] h = refl
  all_stand number (r ∷ rows) h =
      let p = and_parts (row_follows view number r (d.fate (record { number = number; addr = r.addr }))) (list_all (λ r. row_follows view number r (d.fate (record { number = number; addr = r.addr }))) rows) h in
      and_from (stands_in (after view d) number r) (list_all (stands_in (after view d) number) rows) (stands_after number r (d.fate (record { number = number; addr = r.addr })) p.0) (all_stand number rows p.1)

  all_met : (home : Home) (s : Segment) → Stands (after view d) home s → is_met (d.rows home.number) home.addr ≡ true
  all_met home s stands = by (origin_of types is_target view d lawful home s stands)
    where
      still : (f : Fate) → remains f ≡ true → OwesMeeting view d home f → is_met (view.rows home.number) home.addr ≡ true → is_met (d.rows home.number) home.addr ≡ true
      still Stays r owed met = owed met
      still (Rewritten content) r owed met = owed met
      still Dropped r owed met = cc
      still (Fresh new) r owed met = cc
      still (Moved from) r owed met = cc
      still (Left to) r owed met = cc

      by : Origin types is_target view d home s → is_met (d.rows home.number) home.addr ≡ true
      by (same x) = still (d.fate home) x.fate (follow.met home) (kept.met home x.old x.stood)
      by (came x) = subst (OwesMeeting view d home) x.fate (follow.met home)
      by (fresh x owed) = subst (OwesMeeting view d home) x (follow.met home)

pub deltas_keep_rule_5 : DeltasKeepRule5
deltas_keep_rule_5 types is_target view d lawful follow kept = record {
  stand = λ number. all_stand types is_target view d lawful follow kept number (d.rows number) (follow.each number);
  met = all_met types is_target view d lawful follow kept;
  once = follow.once;
}

-- ---- rule 7

parent_is : (a b : Option Ilk) → same_parent a b ≡ true → a ≡ b
parent_is None None h = refl
parent_is None (Some b) h = cc
parent_is (Some a) None h = cc
parent_is (Some a) (Some b) h = ap {B = Option Ilk} Some (name_is a b h)

module _ (schema : Schema) where
  -- the order of two twins is one of their types, parents and keys
  abbrev ordered : ℕ → Option Ilk → List ℕ → ℕ → Option Ilk → List ℕ → Bool
  ordered code parent key code' parent' key' =
      let compared = cond (code == 1) (root_cmp schema key key') (key_cmp key key') in
      not (code == code' && same_parent parent parent') || cond (has_unique_key schema.types code) (is_lt compared) (is_le compared)

  like_order : (x y a b : Row) → is_twin_like schema.types x a ≡ true → is_twin_like schema.types y b ≡ true → in_twin_order schema x y ≡ true → in_twin_order schema a b ≡ true
  like_order x y a b h k order =
      let p = and_parts (x.code == a.code && same_parent x.parent a.parent) (bytes_eq (row_key schema.types x) (row_key schema.types a)) h in
      let q = and_parts (x.code == a.code) (same_parent x.parent a.parent) p.0 in
      let r = and_parts (y.code == b.code && same_parent y.parent b.parent) (bytes_eq (row_key schema.types y) (row_key schema.types b)) k in
      let s = and_parts (y.code == b.code) (same_parent y.parent b.parent) r.0 in
      turned x y a b (eqb-true x.code a.code q.0) (parent_is x.parent a.parent q.1) ((bytes_eq-Decides (row_key schema.types x) (row_key schema.types a)).0 p.1)
      (eqb-true y.code b.code s.0) (parent_is y.parent b.parent s.1) ((bytes_eq-Decides (row_key schema.types y) (row_key schema.types b)).0 r.1) order
    where
      turned : (x y a b : Row) → x.code ≡ a.code → x.parent ≡ a.parent → row_key schema.types x ≡ row_key schema.types a → y.code ≡ b.code → y.parent ≡ b.parent → row_key schema.types y ≡ row_key schema.types b
          → in_twin_order schema x y ≡ true → in_twin_order schema a b ≡ true
      turned x y a b c p k c' p' k' order = sym (λ i. ordered (c i) (p i) (k i) (c' i) (p' i) (k' i)) ∙ order

  -- some row behind one is as a pair wants it
  in_pairs_of : (x : Homed) (rows : List Homed) → list_all (λ y. in_twin_order schema x.row y.row) rows ≡ true → (a b : Homed)
      → list_any (λ y. is_twin_like schema.types x.row a.row && is_twin_like schema.types y.row b.row) rows ≡ true → in_twin_order schema a.row b.row ≡ true
  in_pairs_of x [] all a b any = cc
  in_pairs_of x (y ∷ rows) all a b any =
      let p = and_parts (in_twin_order schema x.row y.row) (list_all (λ y. in_twin_order schema x.row y.row) rows) all in
      go (is_twin_like schema.types x.row a.row && is_twin_like schema.types y.row b.row) refl any p.0 (in_pairs_of x rows p.1 a b)
    where
      go : (t : Bool) → (is_twin_like schema.types x.row a.row && is_twin_like schema.types y.row b.row) ≡ t
          → (t || list_any (λ y. is_twin_like schema.types x.row a.row && is_twin_like schema.types y.row b.row) rows) ≡ true → in_twin_order schema x.row y.row ≡ true
          → (list_any (λ y. is_twin_like schema.types x.row a.row && is_twin_like schema.types y.row b.row) rows ≡ true → in_twin_order schema a.row b.row ≡ true)
          → in_twin_order schema a.row b.row ≡ true
      go true e any order more =
          let t = and_parts (is_twin_like schema.types x.row a.row) (is_twin_like schema.types y.row b.row) e in
          like_order x.row y.row a.row b.row t.0 t.1 order
      go false e any order more = more any

  in_order : (rows : List Homed) → all_pairs (λ x y. in_twin_order schema x.row y.row) rows ≡ true → (a b : Homed) → stood_so schema.types rows a b ≡ true → in_twin_order schema a.row b.row ≡ true
  in_order [] all a b h = cc
  in_order (x ∷ rows) all a b h =
      let p = and_parts (list_all (λ y. in_twin_order schema x.row y.row) rows) (all_pairs (λ x y. in_twin_order schema x.row y.row) rows) all in
      go (list_any (λ y. is_twin_like schema.types x.row a.row && is_twin_like schema.types y.row b.row) rows) refl h p.0 (in_order rows p.1 a b)
    where
      go : (t : Bool) → list_any (λ y. is_twin_like schema.types x.row a.row && is_twin_like schema.types y.row b.row) rows ≡ t
          → (t || stood_so schema.types rows a b) ≡ true → list_all (λ y. in_twin_order schema x.row y.row) rows ≡ true
          → (stood_so schema.types rows a b ≡ true → in_twin_order schema a.row b.row ≡ true) → in_twin_order schema a.row b.row ≡ true
      go true e h first more = in_pairs_of x rows first a b e
      go false e h first more = more h

-- a test that is implied by another, on each two of a list
pub all_weaker : (strong weak : Homed → Bool) → ((r : Homed) → strong r ≡ true → weak r ≡ true) → (rows : List Homed) → list_all strong rows ≡ true → list_all weak rows ≡ true
all_weaker strong weak so [] h = refl
all_weaker strong weak so (r ∷ rows) h = let p = and_parts (strong r) (list_all strong rows) h in and_from (weak r) (list_all weak rows) (so r p.0) (all_weaker strong weak so rows p.1)

pub pairs_weaker : (strong weak : Homed → Homed → Bool) → ((a b : Homed) → strong a b ≡ true → weak a b ≡ true) → (rows : List Homed) → all_pairs strong rows ≡ true → all_pairs weak rows ≡ true
pairs_weaker strong weak so [] h = refl
pairs_weaker strong weak so (r ∷ rows) h =
    let p = and_parts (list_all (strong r) rows) (all_pairs strong rows) h in
    and_from (list_all (weak r) rows) (all_pairs weak rows) (all_weaker (strong r) (weak r) (so r) rows p.0) (pairs_weaker strong weak so rows p.1)

pub deltas_keep_rule_7 : DeltasKeepRule7
deltas_keep_rule_7 schema is_target place view d lawful follow kept = record {
  belong = λ home s stands root. belong home s root (origin_of schema.types is_target view d lawful home s stands);
  twins = λ number.
      pairs_weaker
      (λ a b. stood_so schema.types (view.rows number) a b || stood_so schema.types (view.rows view.state.number) a b || in_twin_order schema a.row b.row)
      (λ a b. in_twin_order schema a.row b.row)
      (λ a b h. either (stood_so schema.types (view.rows number) a b) (stood_so schema.types (view.rows view.state.number) a b) (in_twin_order schema a.row b.row)
      (in_order schema (view.rows number) (kept.twins number) a b) (in_order schema (view.rows view.state.number) (kept.twins view.state.number) a b) h)
      (d.rows number) (follow.order number);
}
  where
    either : (p q t : Bool) → (p ≡ true → t ≡ true) → (q ≡ true → t ≡ true) → (p || q || t) ≡ true → t ≡ true
    either true q t f g h = f refl
    either false true t f g h = g refl
    either false false t f g h = h

    belong : (home : Home) (s : Segment) → s.code ≡ 1 → Origin schema.types is_target view d home s → belongs_to schema place s ≡ true
    belong home s root (same x) =
        ap (λ (k : List ℕ). option_map_or (λ (p : ℕ). p == place) (partition_of schema k) false) (x.key root) ∙ kept.belong home x.old x.stood (sym x.code ∙ root)
    belong home s root (came x) = kept.belong x.from s x.stood root
    belong home s root (fresh x owed) = subst (OwesBelonging schema place) x (follow.fates home) root
