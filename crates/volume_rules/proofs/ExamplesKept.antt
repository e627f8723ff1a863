-- Two volumes that keep the rules.
use Rattle.std.proofs.Common.{◌≡◌, ℕ, ◌==◌, Bool, true, false, ◌&&◌, ◌||◌, cond, List, [], ◌∷◌, Some, refl, sym, ap, subst, ◌∙◌}
use Rattle.std.specs.Prelude.{codes, not}
use Rattle.std.specs.List.{list_all, list_any}
use Rattle.std.proofs.lemmas.Bool.{and_parts, and_from, or_left, or_right, eqb-true, eq-eqb}
use Rattle.hal_base.specs.declared.place.Ilk.{Ilk}
use Rattle.hal_base.specs.declared.place.PartState.{PartState}
use Rattle.hal_schema.specs.declared.schema.PartDef.{PartDef}
use Rattle.hal_schema.specs.Forest.{all_pairs}
use Rattle.hal_schema.specs.Row.{same_name}
use Rattle.forest_laws.specs.Examples.{example_schema}
use Rattle.volume_rules.specs.View.{Home, Homed, Segment, same_home}
use Rattle.volume_rules.specs.Tests.{ListKey, Covers}
use Rattle.volume_rules.specs.Volume.{RowsStand, stands_in}
use Rattle.volume_rules.specs.Examples.{anchored, shown, without_index, homed, Placed, ListRow, segment_at, listed_at, rows_at, view_of, homes_of, keys_of, first_part, second_part, idle, active, second_cells, idle_cells, active_cells, active_list, AreKept}
use Rattle.volume_rules.proofs.Tested.{tests_tell}

-- a look-up finds what is listed
pub cells_cover : (placed : List Placed) (home : Home) (s : Segment) → segment_at placed home ≡ Some s → list_any (same_home home) (homes_of placed) ≡ true
cells_cover [] home s h = cc
cells_cover (p ∷ placed) home s h = go (same_home home p.home) refl h (cells_cover placed home s)
  where
    go : (b : Bool) → same_home home p.home ≡ b → cond b (Some p.segment) (segment_at placed home) ≡ Some s → (segment_at placed home ≡ Some s → list_any (same_home home) (homes_of placed) ≡ true)
        → (same_home home p.home || list_any (same_home home) (homes_of placed)) ≡ true
    go true e h more = or_left (same_home home p.home) (list_any (same_home home) (homes_of placed)) e
    go false e h more = or_right (same_home home p.home) (list_any (same_home home) (homes_of placed)) (more h)

rows_cover : (listed : List ListRow) (name : Ilk) (code : ℕ) (home : Home) → listed_at listed name code ≡ Some home → list_any (λ (k : ListKey). same_name name k.name && code == k.code) (keys_of listed) ≡ true
rows_cover [] name code home h = cc
rows_cover (r ∷ listed) name code home h = go (same_name name r.name && code == r.code) refl h (rows_cover listed name code home)
  where
    go : (b : Bool) → (same_name name r.name && code == r.code) ≡ b → cond b (Some r.home) (listed_at listed name code) ≡ Some home
        → (listed_at listed name code ≡ Some home → list_any (λ (k : ListKey). same_name name k.name && code == k.code) (keys_of listed) ≡ true)
        → ((same_name name r.name && code == r.code) || list_any (λ (k : ListKey). same_name name k.name && code == k.code) (keys_of listed)) ≡ true
    go true e h more = or_left (same_name name r.name && code == r.code) (list_any (λ (k : ListKey). same_name name k.name && code == k.code) (keys_of listed)) e
    go false e h more = or_right (same_name name r.name && code == r.code) (list_any (λ (k : ListKey). same_name name k.name && code == k.code) (keys_of listed)) (more h)

pub covers : (part : PartDef) (state : PartState) (placed : List Placed) (listed : List ListRow) → Covers (view_of part state placed listed) (homes_of placed) (keys_of listed)
covers part state placed listed = record { cells = cells_cover placed; rows = rows_cover listed }

-- ---- the rows

each_row : (test : ℕ → Homed → Bool) (placed : List Placed) → list_all (λ (p : Placed). p.segment.copied || test p.home.number (homed p)) placed ≡ true → (number : ℕ) → list_all (test number) (rows_at placed number) ≡ true
each_row test [] h number = refl
each_row test (p ∷ placed) h number =
    let parts = and_parts (p.segment.copied || test p.home.number (homed p)) (list_all (λ (p : Placed). p.segment.copied || test p.home.number (homed p)) placed) h in
    go p.segment.copied (p.home.number == number) refl parts.0 (each_row test placed parts.1 number)
  where
    go : (copied b : Bool) → (p.home.number == number) ≡ b → (copied || test p.home.number (homed p)) ≡ true → list_all (test number) (rows_at placed number) ≡ true
        → list_all (test number) (cond copied (rows_at placed number) (cond b (homed p ∷ rows_at placed number) (rows_at placed number))) ≡ true
    go true b e h rest = rest
    go false false e h rest = rest
    go false true e h rest = and_from (test number (homed p)) (list_all (test number) (rows_at placed number)) (subst (λ (n : ℕ). test n (homed p) ≡ true) (eqb-true p.home.number number e) h) rest

row_met : (placed : List Placed) (home : Home) (s : Segment) → segment_at placed home ≡ Some s → s.copied ≡ false → list_any (λ (r : Homed). r.addr == home.addr) (rows_at placed home.number) ≡ true
row_met [] home s h un = cc
row_met (p ∷ placed) home s h un = go (same_home home p.home) p.segment.copied (p.home.number == home.number) refl refl refl h (row_met placed home s)
  where
    go : (b copied n : Bool) → same_home home p.home ≡ b → p.segment.copied ≡ copied → (p.home.number == home.number) ≡ n → cond b (Some p.segment) (segment_at placed home) ≡ Some s
        → (segment_at placed home ≡ Some s → s.copied ≡ false → list_any (λ (r : Homed). r.addr == home.addr) (rows_at placed home.number) ≡ true)
        → list_any (λ (r : Homed). r.addr == home.addr) (cond copied (rows_at placed home.number) (cond n (homed p ∷ rows_at placed home.number) (rows_at placed home.number))) ≡ true
    go true true n e c m h more = let is : p.segment ≡ s = cc in let no_ : p.segment.copied ≡ false = ap (λ (x : Segment). x.copied) is ∙ un in cc
    go true false true e c m h more =
        let parts = and_parts (home.number == p.home.number) (home.addr == p.home.addr) e in
        or_left (p.home.addr == home.addr) (list_any (λ (r : Homed). r.addr == home.addr) (rows_at placed home.number)) (eq-eqb p.home.addr home.addr (sym (eqb-true home.addr p.home.addr parts.1)))
    go true false false e c m h more =
        let parts = and_parts (home.number == p.home.number) (home.addr == p.home.addr) e in
        let same : (p.home.number == home.number) ≡ true = eq-eqb p.home.number home.number (sym (eqb-true home.number p.home.number parts.0)) in
        cc
    go false true n e c m h more = more h un
    go false false false e c m h more = more h un
    go false false true e c m h more = or_right (p.home.addr == home.addr) (list_any (λ (r : Homed). r.addr == home.addr) (rows_at placed home.number)) (more h un)

-- two segments that aren't copied stand at two homes
-- two rows of one generation pass a test
abbrev pub apart : (Homed → Homed → Bool) → Placed → Placed → Bool
apart test p q = q.segment.copied || not (p.home.number == q.home.number) || test (homed p) (homed q)

others_apart : (test : Homed → Homed → Bool) (p : Placed) (placed : List Placed) → list_all (apart test p) placed ≡ true → list_all (test (homed p)) (rows_at placed p.home.number) ≡ true
others_apart test p [] h = refl
others_apart test p (q ∷ placed) h =
    let parts = and_parts (apart test p q) (list_all (apart test p) placed) h in
    go q.segment.copied (q.home.number == p.home.number) refl parts.0 (others_apart test p placed parts.1)
  where
    go : (copied b : Bool) → (q.home.number == p.home.number) ≡ b → (copied || not (p.home.number == q.home.number) || test (homed p) (homed q)) ≡ true
        → list_all (test (homed p)) (rows_at placed p.home.number) ≡ true
        → list_all (test (homed p)) (cond copied (rows_at placed p.home.number) (cond b (homed q ∷ rows_at placed p.home.number) (rows_at placed p.home.number))) ≡ true
    go true b e h rest = rest
    go false false e h rest = rest
    go false true e h rest =
        let same : (p.home.number == q.home.number) ≡ true = eq-eqb p.home.number q.home.number (sym (eqb-true q.home.number p.home.number e)) in
        let at : test (homed p) (homed q) ≡ true = subst (λ (b : Bool). (not b || test (homed p) (homed q)) ≡ true) same h in
        and_from (test (homed p) (homed q)) (list_all (test (homed p)) (rows_at placed p.home.number)) at rest

pub each_apart : (test : Homed → Homed → Bool) (placed : List Placed) → all_pairs (apart test) placed ≡ true → (number : ℕ) → all_pairs test (rows_at placed number) ≡ true
each_apart test [] h number = refl
each_apart test (p ∷ placed) h number =
    let parts = and_parts (list_all (apart test p) placed) (all_pairs (apart test) placed) h in
    go p.segment.copied (p.home.number == number) refl parts.0 (each_apart test placed parts.1 number)
  where
    go : (copied b : Bool) → (p.home.number == number) ≡ b → list_all (apart test p) placed ≡ true → all_pairs test (rows_at placed number) ≡ true
        → all_pairs test (cond copied (rows_at placed number) (cond b (homed p ∷ rows_at placed number) (rows_at placed number))) ≡ true
    go true b e first rest = rest
    go false false e first rest = rest
    go false true e first rest =
        and_from (list_all (test (homed p)) (rows_at placed number)) (all_pairs test (rows_at placed number))
        (subst (λ (n : ℕ). list_all (test (homed p)) (rows_at placed n) ≡ true) (eqb-true p.home.number number e) (others_apart test p placed first)) rest

rows_stand : (part : PartDef) (state : PartState) (placed : List Placed) (listed : List ListRow)
    → list_all (λ (p : Placed). p.segment.copied || stands_in (view_of part state placed listed) p.home.number (homed p)) placed ≡ true → all_pairs (apart (λ (a b : Homed). not (a.addr == b.addr))) placed ≡ true → RowsStand (view_of part state placed listed)
rows_stand part state placed listed stand apart = record {
  stand = each_row (stands_in (view_of part state placed listed)) placed stand;
  met = λ home s stands. row_met placed home s stands.here stands.uncopied;
  once = each_apart (λ (a b : Homed). not (a.addr == b.addr)) placed apart;
}

pub are_kept : AreKept
are_kept = record {
  idle = record {
    defined = refl;
    numbered = refl;
    rows = (rows_stand first_part (idle 1) idle_cells [] refl refl, (rows_stand second_part (idle 2) second_cells [] refl refl, tt));
    forest = refl;
    entries = record { those = refl; apart = refl; parts = refl };
    rules = (
      tests_tell _ _ _ _ (homes_of idle_cells) (keys_of []) (covers first_part (idle 1) idle_cells []) refl,
      (tests_tell _ _ _ _ (homes_of second_cells) (keys_of []) (covers second_part (idle 2) second_cells []) refl, tt),
    );
  };
  active = record {
    defined = refl;
    numbered = refl;
    rows = (rows_stand first_part (active 1 (codes "001")) active_cells active_list refl refl, (rows_stand second_part (idle 2) second_cells [] refl refl, tt));
    forest = refl;
    entries = record { those = refl; apart = refl; parts = refl };
    rules = (
      tests_tell _ _ _ _ (homes_of active_cells) (keys_of active_list) (covers first_part (active 1 (codes "001")) active_cells active_list) refl,
      (tests_tell _ _ _ _ (homes_of second_cells) (keys_of []) (covers second_part (idle 2) second_cells []) refl, tt),
    );
  };
  anchors =
      (let e = anchored 2 1 in
      tests_tell example_schema.types without_index (shown e) [] (homes_of e.cells) (keys_of e.listed) (covers e.part e.state e.cells e.listed) refl);
}
