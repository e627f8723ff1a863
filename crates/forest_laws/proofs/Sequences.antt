-- Lists in sequence, one behind another.
use Rattle.std.proofs.Common.{◌≡◌, ◌==◌, nat_lt, Bool, true, false, ◌&&◌, ◌||◌, not, cond, List, [], ◌∷◌, ◌++◌, None, Some, ◌⊎◌, inl, inr, refl, sym, ap, subst, ◌∙◌, arith}
use Rattle.std.specs.List.{list_all}
use Rattle.std.specs.Ordering.{is_lt, is_le}
use Rattle.std.proofs.lemmas.Bool.{and_parts, and_from, eq-eqb, le-ltb, not_from_false}
use Rattle.hal_schema.specs.declared.row.Row.{Row}
use Rattle.hal_schema.specs.declared.schema.Schema.{Schema}
use Rattle.hal_schema.specs.Row.{row_key, row_level}
use Rattle.hal_schema.specs.Roots.{root_cmp}
use Rattle.hal_schema.specs.Paths.{paths_of}
use Rattle.hal_schema.specs.Forest.{all_pairs, names_apart, has_length, is_path, in_type_order, in_twin_order, may_follow, has_unique_key, is_selected, rows_are_named, rows_are_below_parents, types_rise, twins_rise, entries_differ, is_forest}
use Rattle.hal_schema.specs.Keys.{key_cmp}
use Rattle.hal_schema.specs.SegType.{level_of}
use Rattle.std.specs.declared.cmp.Ordering.{Ordering}
use Rattle.std.specs.declared.cmp.Ordering.TheVariants.{Less, Equal, Greater}
use Rattle.hal_schema.specs.Facts.{IsKept, SchemasAreKept}
use Rattle.forest_laws.specs.Joining.{is_in_sequence, ForestsAreSequences, roots_rise, stand_apart, is_before, joined, OrdersJoin, SequencesJoin}
use Rattle.forest_laws.proofs.Lists.{Among, among_passes, all_among, all_append, among_left, among_middle, SplitAt, among_split, pairs_join, all_weaker}
use Rattle.forest_laws.proofs.Carried.{not_above, starts_above, with_append, passed_over}
use Rattle.forest_laws.proofs.Names.{apart_names, same_some}
use Rattle.forest_laws.proofs.Parents.{Below, IsRootRow, ParentOf, parent_in, child_parent, row_known}
use Rattle.forest_laws.proofs.Order.{type_order_from, twin_order_from}

pub forests_are_sequences : ForestsAreSequences
forests_are_sequences schema rows = record { forest = there; sequence = back }
  where
    four : Bool
    four = rows_are_named schema.types rows && rows_are_below_parents schema.types rows && types_rise rows && twins_rise schema rows

    selected : Bool
    selected = list_all (is_selected schema) rows

    apart : Bool
    apart = list_all (entries_differ schema.types rows) schema.indexes

    there : is_forest schema rows ≡ true → is_in_sequence schema rows ≡ true
    there h = let a = and_parts four (selected && apart) h in and_from four selected a.0 (and_parts selected apart a.1).0

    back : is_in_sequence schema rows ≡ true → apart ≡ true → is_forest schema rows ≡ true
    back h d = let a = and_parts four selected h in and_from four (selected && apart) a.0 (and_from selected apart a.1 d)

-- a root, or a row whose parent is among the rows
abbrev pub HasParent : List Row → Row → Type 0
HasParent rows row = IsRootRow row ⊎ ((above : Row) × Among above rows × (row.parent ≡ Some above.name))

-- the parts of a sequence
pub record Seq (schema : Schema) (rows : List Row) : Type 0 where
  pub named : all_pairs names_apart rows ≡ true
  pub long : list_all (has_length schema.types) rows ≡ true
  pub below : Below schema rows
  pub types : all_pairs in_type_order rows ≡ true
  pub twins : all_pairs (in_twin_order schema) rows ≡ true
  pub selected : list_all (is_selected schema) rows ≡ true

pub seq_of : (schema : Schema) (rows : List Row) → is_in_sequence schema rows ≡ true → Seq schema rows
seq_of schema rows h =
    let types = schema.types in
    let a = and_parts (rows_are_named types rows && rows_are_below_parents types rows && types_rise rows && twins_rise schema rows) (list_all (is_selected schema) rows) h in
    let b = and_parts (rows_are_named types rows && rows_are_below_parents types rows && types_rise rows) (twins_rise schema rows) a.0 in
    let c = and_parts (rows_are_named types rows && rows_are_below_parents types rows) (types_rise rows) b.0 in
    let d = and_parts (rows_are_named types rows) (rows_are_below_parents types rows) c.0 in
    let e = and_parts (all_pairs names_apart rows) (list_all (has_length types) rows) d.0 in
    record { named = e.0; long = e.1; below = d.1; types = c.1; twins = b.1; selected = a.1 }

from_seq : (schema : Schema) (rows : List Row) → Seq schema rows → is_in_sequence schema rows ≡ true
from_seq schema rows p =
    let types = schema.types in
    let d = and_from (rows_are_named types rows) (rows_are_below_parents types rows) (and_from (all_pairs names_apart rows) (list_all (has_length types) rows) p.named p.long) p.below in
    let c = and_from (rows_are_named types rows && rows_are_below_parents types rows) (types_rise rows) d p.types in
    let b = and_from (rows_are_named types rows && rows_are_below_parents types rows && types_rise rows) (twins_rise schema rows) c p.twins in
    and_from (rows_are_named types rows && rows_are_below_parents types rows && types_rise rows && twins_rise schema rows) (list_all (is_selected schema) rows) b p.selected

pub parent_among : (schema : Schema) (rows : List Row) → Below schema rows → (row : Row) → Among row rows → HasParent rows row
parent_among schema rows below row among =
    let s = among_split row rows among in
    by s (parent_in schema s.front s.behind row (subst (Below schema) s.split below))
  where
    by : (s : SplitAt row rows) → IsRootRow row ⊎ ParentOf schema s.front row → HasParent rows row
    by s (inl root) = inl root
    by s (inr p) =
        inr (
          p.above,
          subst (Among p.above) (sym s.split) (among_left p.above s.front (row ∷ s.behind) (subst (Among p.above) (sym p.kept.split) (among_middle p.above p.kept.front p.kept.behind))),
          child_parent schema.types p.above row p.child,
        )

-- the first row is a root
pub first_root : (schema : Schema) (row : Row) (rows : List Row) → Below schema (row ∷ rows) → IsRootRow row
first_root schema row rows below = by (parent_in schema [] rows row below)
  where
    by : IsRootRow row ⊎ ParentOf schema [] row → IsRootRow row
    by (inl root) = root
    by (inr p) = absurd (subst (Among p.above) (sym p.kept.split) (among_middle p.above p.kept.front p.kept.behind))

pub root_high : (schema : Schema) → IsKept schema → (root row : Row) → root.code ≡ 1 → has_length schema.types row ≡ true → not_above (row_level schema.types) root row ≡ true
root_high schema kept root row code long =
    let one : row_level schema.types root ≡ 1 = ap (level_of schema.types) code ∙ kept.root_level in
    let some = kept.has_level row.code (row_known schema.types row long) in
    not_from_false (nat_lt (row_level schema.types row) (row_level schema.types root)) (le-ltb (row_level schema.types row) (row_level schema.types root) (omega (arith, one, some)))

-- what follows a list in sequence begins with a root, so nothing of the list is above it
pub starts : (schema : Schema) → IsKept schema → (front back : List Row) → list_all (has_length schema.types) front ≡ true → Below schema back → starts_above (row_level schema.types) front back ≡ true
starts schema kept front [] long below = refl
starts schema kept front (y ∷ back) long below =
    all_weaker (has_length schema.types) (not_above (row_level schema.types) y) (λ row h. root_high schema kept y row (first_root schema y back below).0 h) front long

module _ (schema : Schema) (kept : IsKept schema) (front back : List Row) (a : Seq schema front) (b : Seq schema back) (before : is_before schema front back ≡ true) where
  across : (t : Row → Row → Bool) → ((x y : Row) → Among x front → Among y back → stand_apart schema x y ≡ true → t x y ≡ true) → list_all (λ x. list_all (t x) back) front ≡ true
  across t h =
      all_among (λ x. list_all (t x) back) front
      (λ x on. all_among (t x) back (λ y at. h x y on at (among_passes (stand_apart schema x) y back at (among_passes (λ x. list_all (stand_apart schema x) back) x front on before))))

  apart_of : (x y : Row) → Among x front → Among y back → x.name ≡ y.name → ⊥
  apart_of x y on at e =
      apart_names x y
      (and_parts (names_apart x y) (roots_rise schema x y) (among_passes (stand_apart schema x) y back at (among_passes (λ x. list_all (stand_apart schema x) back) x front on before))).0 e

  -- two rows of one parent are roots
  both_roots : (x y : Row) → Among x front → Among y back → x.parent ≡ y.parent → IsRootRow x × IsRootRow y
  both_roots x y on at e = by (parent_among schema front a.below x on) (parent_among schema back b.below y at)
    where
      by : HasParent front x → HasParent back y → IsRootRow x × IsRootRow y
      by (inl r) (inl s) = (r, s)
      by (inl r) (inr q) = let no_ : None ≡ Some q.0.name = sym r.1 ∙ e ∙ q.2 in cc
      by (inr p) (inl s) = let no_ : Some p.0.name ≡ None = sym p.2 ∙ e ∙ s.1 in cc
      by (inr p) (inr q) = absurd (apart_of p.0 q.0 p.1 q.1 (same_some p.0.name q.0.name (sym p.2 ∙ e ∙ q.2)))

  rises : (x y : Row) → x.code ≡ 1 → y.code ≡ 1 → stand_apart schema x y ≡ true → may_follow schema x y ≡ true
  rises x y one other h =
      let r = (and_parts (names_apart x y) (roots_rise schema x y) h).1 in
      let lower = asked (x.code == 1) (y.code == 1) (is_lt (root_cmp schema (row_key schema.types x) (row_key schema.types y))) (eq-eqb x.code 1 one) (eq-eqb y.code 1 other) r in
      let unique = has_unique_key schema.types x.code in
      let r_cmp = root_cmp schema (row_key schema.types x) (row_key schema.types y) in
      let k_cmp = key_cmp (row_key schema.types x) (row_key schema.types y) in
      subst (λ (b : Bool). cond unique (is_lt (cond b r_cmp k_cmp)) (is_le (cond b r_cmp k_cmp)) ≡ true) (sym (eq-eqb x.code 1 one)) (follow unique r_cmp lower)
    where
      asked : (p q t : Bool) → p ≡ true → q ≡ true → (not p || not q || t) ≡ true → t ≡ true
      asked true true t e f h = h
      asked false q t e f h = cc
      asked true false t e f h = cc

      follow : (u : Bool) (o : Ordering) → is_lt o ≡ true → cond u (is_lt o) (is_le o) ≡ true
      follow true o h = h
      follow false Less h = refl
      follow false Equal h = cc
      follow false Greater h = cc

  pub join : Seq schema (front ++ back)
  join = record {
    named = pairs_join names_apart front back (record { front = a.named; back = b.named; across = across names_apart (λ x y on at h. (and_parts (names_apart x y) (roots_rise schema x y) h).0) });
    long = all_append (has_length schema.types) front back a.long b.long;
    below =
        (let level = row_level schema.types in
        subst (λ (l : List (List Row × Row)). list_all (λ (p : List Row × Row). is_path schema.types None p.0) l ≡ true)
        (sym (with_append level [] front back ∙ ap (λ (l : List (List Row × Row)). paths_of schema.types front ++ l) (passed_over level [] front back (starts schema kept front back a.long b.below))))
        (all_append (λ (p : List Row × Row). is_path schema.types None p.0) (paths_of schema.types front) (paths_of schema.types back) a.below b.below));
    types = pairs_join in_type_order front back
        (record {
          front = a.types;
          back = b.types;
          across = across in_type_order
              (λ x y on at h. type_order_from x y (λ e. let r = both_roots x y on at e in let one = r.0.0 in let other = r.1.0 in omega (arith, one, other)));
        });
    twins = pairs_join (in_twin_order schema) front back
        (record {
          front = a.twins;
          back = b.twins;
          across = across (in_twin_order schema) (λ x y on at h. twin_order_from schema x y (λ c e. let r = both_roots x y on at e in rises x y r.0.0 r.1.0 h));
        });
    selected = all_append (is_selected schema) front back a.selected b.selected;
  }

-- nothing in sequence
none : (schema : Schema) → Seq schema []
none schema = record { named = refl; long = refl; below = refl; types = refl; twins = refl; selected = refl }

pub before_all : (schema : Schema) (front : List Row) (lists : List (List Row)) → list_all (is_before schema front) lists ≡ true → is_before schema front (joined lists) ≡ true
before_all schema front [] h = all_among (λ x. list_all (stand_apart schema x) []) front (λ x on. refl)
before_all schema front (rows ∷ lists) h =
    let p = and_parts (is_before schema front rows) (list_all (is_before schema front) lists) h in
    let rest = before_all schema front lists p.1 in
    all_among (λ x. list_all (stand_apart schema x) (rows ++ joined lists)) front
    (λ x on. all_append (stand_apart schema x) rows (joined lists) (among_passes (λ x. list_all (stand_apart schema x) rows) x front on p.0) (among_passes (λ x. list_all (stand_apart schema x) (joined lists)) x front on rest))

pub joined_before : (schema : Schema) (lists : List (List Row)) (back : List Row) → list_all (λ front. is_before schema front back) lists ≡ true → is_before schema (joined lists) back ≡ true
joined_before schema [] back h = refl
joined_before schema (rows ∷ lists) back h =
    let p = and_parts (is_before schema rows back) (list_all (λ front. is_before schema front back) lists) h in
    all_append (λ a. list_all (stand_apart schema a) back) rows (joined lists) p.0 (joined_before schema lists back p.1)

pub join_all : (schema : Schema) → IsKept schema → (lists : List (List Row)) → list_all (is_in_sequence schema) lists ≡ true → all_pairs (is_before schema) lists ≡ true → Seq schema (joined lists)
join_all schema kept [] each apart = none schema
join_all schema kept (rows ∷ lists) each apart =
    let e = and_parts (is_in_sequence schema rows) (list_all (is_in_sequence schema) lists) each in
    let p = and_parts (list_all (is_before schema rows) lists) (all_pairs (is_before schema) lists) apart in
    join schema kept rows (joined lists) (seq_of schema rows e.0) (join_all schema kept lists e.1 p.1) (before_all schema rows lists p.0)

pub sequences_join : SchemasAreKept → SequencesJoin
sequences_join kept schema lists h = from_seq schema (joined lists) (join_all schema (kept schema) lists h.each h.apart)

pub orders_join : OrdersJoin
orders_join schema front back a b across = record {
  each = all_append (is_in_sequence schema) front back a.each b.each;
  apart = pairs_join (is_before schema) front back (record { front = a.apart; back = b.apart; across = across });
}
