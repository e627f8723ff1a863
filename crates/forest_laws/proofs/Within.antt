-- What is cut or replaced in one of several lists.
use Rattle.std.proofs.Common.{◌≡◌, ℕ, suc, ◌+◌, ◌≤◌, Bool, true, false, not, cond, List, [], ◌∷◌, ◌++◌, map, drop, inl, inr, Option, Some, None, refl, sym, ap, subst, ◌∙◌, arith}
use Rattle.std.specs.Prelude.{find, is_none}
use Rattle.std.specs.List.{list_all, prefix_len}
use Rattle.std.proofs.lemmas.Bool.{and_parts, not-true, ltb-true}
use Rattle.std.proofs.lemmas.List.{map-append, append_assoc}
use Rattle.hal_base.specs.declared.place.Ilk.{Ilk}
use Rattle.hal_schema.specs.declared.row.Row.{Row}
use Rattle.hal_schema.specs.declared.schema.Schema.{Schema}
use Rattle.hal_schema.specs.declared.schema.SegType.{SegType}
use Rattle.hal_schema.specs.SegType.{level_of}
use Rattle.hal_schema.specs.Row.{same_name, is_new_name, row_level}
use Rattle.hal_schema.specs.Forest.{all_pairs, names_apart, has_length}
use Rattle.hal_schema.specs.Span.{is_deeper, without_span, replaced, with_content}
use Rattle.hal_schema.specs.Facts.{IsKept, SchemasAreKept}
use Rattle.hal_schema.proofs.RowNames.{name_is, name_from}
use Rattle.forest_laws.specs.Joining.{is_in_sequence, is_before, stand_apart, roots_rise, joined, StandInOrder, ChangesStayWithin}
use Rattle.forest_laws.proofs.Lists.{Among, among_passes, all_among, all_parts, pairs_parts, found, among_middle, all_weaker}
use Rattle.forest_laws.proofs.Names.{apart_names}
use Rattle.forest_laws.proofs.Parents.{Below, row_known}
use Rattle.forest_laws.proofs.Sequences.{Seq, seq_of, first_root, join_all, before_all, joined_before}

-- the three lists, and how they stand to one another
pub record Three (schema : Schema) (front part back : List Row) : Type 0 where
  pub first : Seq schema front
  pub middle : Seq schema part
  pub last : Seq schema back
  pub first_middle : is_before schema front part ≡ true
  pub first_last : is_before schema front back ≡ true
  pub middle_last : is_before schema part back ≡ true

pub three_of : (schema : Schema) → IsKept schema → (before : List (List Row)) (part : List Row) (after : List (List Row)) → StandInOrder schema (before ++ part ∷ after)
    → Three schema (joined before) part (joined after)
three_of schema kept before part after h =
    let e = all_parts (is_in_sequence schema) before (part ∷ after) h.each in
    let m = and_parts (is_in_sequence schema part) (list_all (is_in_sequence schema) after) e.1 in
    let p = pairs_parts (is_before schema) before (part ∷ after) h.apart in
    let q = and_parts (list_all (is_before schema part) after) (all_pairs (is_before schema) after) p.back in
    record {
      first = join_all schema kept before e.0 p.front;
      middle = seq_of schema part m.0;
      last = join_all schema kept after m.1 q.1;
      first_middle = joined_before schema before part (all_weaker (λ x. list_all (is_before schema x) (part ∷ after)) (λ x. is_before schema x part) (λ x k. (and_parts (is_before schema x part) (list_all (is_before schema x) after) k).0) before p.across);
      first_last = joined_before schema before (joined after)
          (all_weaker (λ x. list_all (is_before schema x) (part ∷ after)) (λ x. is_before schema x (joined after))
          (λ x k. before_all schema x after (and_parts (is_before schema x part) (list_all (is_before schema x) after) k).1) before p.across);
      middle_last = before_all schema part after q.0;
    }

-- the whole, parted at the list
pub parted : (before : List (List Row)) (part : List Row) (after : List (List Row)) → joined (before ++ part ∷ after) ≡ joined before ++ (part ++ joined after)
parted [] part after = refl
parted (rows ∷ before) part after = ap (λ (l : List Row). rows ++ l) (parted before part after) ∙ sym (append_assoc rows (joined before) (part ++ joined after))

pub apart_names_of : (schema : Schema) (front back : List Row) → is_before schema front back ≡ true → (x y : Row) → Among x front → Among y back → x.name ≡ y.name → ⊥
apart_names_of schema front back before x y on at e =
    apart_names x y
    (and_parts (names_apart x y) (roots_rise schema x y) (among_passes (stand_apart schema x) y back at (among_passes (λ x. list_all (stand_apart schema x) back) x front on before))).0 e

-- the row of a name
record Named (rows : List Row) (name : Ilk) : Type 0 where
  row : Row
  among : Among row rows
  is : row.name ≡ name

named_in : (rows : List Row) (name : Ilk) → is_new_name rows name ≡ false → Named rows name
named_in rows name old = by (find (λ (row : Row). same_name row.name name) rows) refl old
  where
    by : (o : Option Row) → find (λ (row : Row). same_name row.name name) rows ≡ o → is_none o ≡ false → Named rows name
    by None e h = cc
    by (Some row) e h =
        let f = found (λ (row : Row). same_name row.name name) rows row e in
        record { row = row; among = subst (Among row) (sym f.split) (among_middle row f.front f.behind); is = name_is row.name name f.passes }

not_same : (a b : Ilk) → (a ≡ b → ⊥) → not (same_name a b) ≡ true
not_same a b h = by (same_name a b) refl
  where
    by : (t : Bool) → same_name a b ≡ t → not t ≡ true
    by false e = refl
    by true e = absurd (h (name_is a b e))

none_before : (schema : Schema) (front part : List Row) (name : Ilk) → is_before schema front part ≡ true → Named part name → list_all (λ (r : Row). not (same_name r.name name)) front ≡ true
none_before schema front part name before n =
    all_among (λ (r : Row). not (same_name r.name name)) front
    (λ r on. not_same r.name name (λ e. apart_names_of schema front part before r n.row on n.among (e ∙ sym n.is)))

none_behind : (schema : Schema) (part back : List Row) (name : Ilk) → is_before schema part back ≡ true → Named part name → list_all (λ (r : Row). not (same_name r.name name)) back ≡ true
none_behind schema part back name before n =
    all_among (λ (r : Row). not (same_name r.name name)) back
    (λ r at. not_same r.name name (λ e. apart_names_of schema part back before n.row r n.among at (n.is ∙ sym e)))

-- ---- replacing

same_rows : (rows : List Row) (name : Ilk) (content : List ℕ) → list_all (λ (r : Row). not (same_name r.name name)) rows ≡ true → replaced rows name content ≡ rows
same_rows [] name content h = refl
same_rows (r ∷ rows) name content h =
    let p = and_parts (not (same_name r.name name)) (list_all (λ (r : Row). not (same_name r.name name)) rows) h in
    let here : cond (same_name r.name name) (with_content r content) r ≡ r = ap (λ b. cond b (with_content r content) r) (not-true (same_name r.name name) p.0) in
    let rest = same_rows rows name content p.1 in
    λ i. here i ∷ rest i

replaced_within : (schema : Schema) (front part back : List Row) (name : Ilk) (content : List ℕ) → Three schema front part back → Named part name → replaced (front ++ (part ++ back)) name content ≡ front ++ (replaced part name content ++ back)
replaced_within schema front part back name content t n =
    let f : Row → Row = λ row. cond (same_name row.name name) (with_content row content) row in
    map-append f front (part ++ back)
    ∙ (let a = same_rows front name content (none_before schema front part name t.first_middle n) in
    let b : map f (part ++ back) ≡ replaced part name content ++ back =
    map-append f part back ∙ ap (λ (l : List Row). replaced part name content ++ l) (same_rows back name content (none_behind schema part back name t.middle_last n)) in
    λ i. a i ++ b i)

-- ---- cutting

-- a root is deeper than no row
root_stops : (schema : Schema) → IsKept schema → (row root : Row) → root.code ≡ 1 → has_length schema.types row ≡ true → is_deeper schema.types row root ≡ false
root_stops schema kept row root code long =
    let one : row_level schema.types root ≡ 1 = ap (level_of schema.types) code ∙ kept.root_level in
    let some = kept.has_level row.code (row_known schema.types row long) in
    by (is_deeper schema.types row root) refl one some
  where
    by : (b : Bool) → is_deeper schema.types row root ≡ b → row_level schema.types root ≡ 1 → 1 ≤ row_level schema.types row → b ≡ false
    by false e one some = refl
    by true e one some = let l = ltb-true (row_level schema.types row) (row_level schema.types root) e in absurd (omega (arith, l, one, some))

passed : (r : Row) (n : ℕ) (xs : List Row) → drop (1 + n) (r ∷ xs) ≡ drop n xs
passed r n xs = let e : 1 + n ≡ suc n = omega arith in ap (λ k. drop k (r ∷ xs)) e

-- what of a list is deeper ends with it
ends : (test : Row → Bool) (rows back : List Row) → ((y : Row) (more : List Row) → back ≡ y ∷ more → test y ≡ false) → drop (prefix_len test (rows ++ back)) (rows ++ back) ≡ drop (prefix_len test rows) rows ++ back
ends test [] [] stops = refl
ends test [] (y ∷ back) stops = ap (λ (b : Bool). drop (cond b (1 + prefix_len test back) 0) (y ∷ back)) (stops y back refl)
ends test (r ∷ rows) back stops = by (test r) (ends test rows back stops)
  where
    by : (b : Bool) → drop (prefix_len test (rows ++ back)) (rows ++ back) ≡ drop (prefix_len test rows) rows ++ back
        → drop (cond b (1 + prefix_len test (rows ++ back)) 0) (r ∷ (rows ++ back)) ≡ drop (cond b (1 + prefix_len test rows) 0) (r ∷ rows) ++ back
    by true rest = passed r (prefix_len test (rows ++ back)) (rows ++ back) ∙ rest ∙ ap (λ (l : List Row). l ++ back) (sym (passed r (prefix_len test rows) rows))
    by false rest = refl

cut_part : (schema : Schema) → IsKept schema → (part back : List Row) (name : Ilk) → list_all (has_length schema.types) part ≡ true → Below schema back → Among name (map (λ (r : Row). r.name) part)
    → without_span schema.types (part ++ back) name ≡ without_span schema.types part name ++ back
cut_part schema kept [] back name long below among = absurd among
cut_part schema kept (r ∷ part) back name long below among =
    let p = and_parts (has_length schema.types r) (list_all (has_length schema.types) part) long in
    by (same_name r.name name) refl (λ on. cut_part schema kept part back name p.1 below on)
    (ends (is_deeper schema.types r) part back (λ y more e. root_stops schema kept r y (first_root schema y more (subst (Below schema) e below)).0 p.0))
  where
    by : (b : Bool) → same_name r.name name ≡ b → (Among name (map (λ (r : Row). r.name) part) → without_span schema.types (part ++ back) name ≡ without_span schema.types part name ++ back)
        → drop (prefix_len (is_deeper schema.types r) (part ++ back)) (part ++ back) ≡ drop (prefix_len (is_deeper schema.types r) part) part ++ back
        → cond b (drop (prefix_len (is_deeper schema.types r) (part ++ back)) (part ++ back)) (r ∷ without_span schema.types (part ++ back) name)
        ≡ cond b (drop (prefix_len (is_deeper schema.types r) part) part) (r ∷ without_span schema.types part name) ++ back
    by true e rest here = here
    by false e rest here = ap (λ (l : List Row). r ∷ l) (rest (later among))
      where
        later : Among name (map (λ (r : Row). r.name) (r ∷ part)) → Among name (map (λ (r : Row). r.name) part)
        later (inl at) = let no_ : true ≡ false = sym (name_from r.name name at) ∙ e in cc
        later (inr on) = on

cut_behind : (types : List SegType) (front rest : List Row) (name : Ilk) → list_all (λ (r : Row). not (same_name r.name name)) front ≡ true → without_span types (front ++ rest) name ≡ front ++ without_span types rest name
cut_behind types [] rest name h = refl
cut_behind types (r ∷ front) rest name h =
    let p = and_parts (not (same_name r.name name)) (list_all (λ (r : Row). not (same_name r.name name)) front) h in
    ap (λ b. cond b (drop (prefix_len (is_deeper types r) (front ++ rest)) (front ++ rest)) (r ∷ without_span types (front ++ rest) name)) (not-true (same_name r.name name) p.0)
    ∙ ap (λ (l : List Row). r ∷ l) (cut_behind types front rest name p.1)

names_among : (rows : List Row) (row : Row) → Among row rows → Among row.name (map (λ (r : Row). r.name) rows)
names_among [] row h = absurd h
names_among (r ∷ rows) row (inl e) = inl (ap (λ (r : Row). r.name) e)
names_among (r ∷ rows) row (inr h) = inr (names_among rows row h)

cut_within : (schema : Schema) → IsKept schema → (front part back : List Row) (name : Ilk) → Three schema front part back → Named part name → without_span schema.types (front ++ (part ++ back)) name ≡ front ++ (without_span schema.types part name ++ back)
cut_within schema kept front part back name t n =
    cut_behind schema.types front (part ++ back) name (none_before schema front part name t.first_middle n)
    ∙ ap (λ (l : List Row). front ++ l)
    (cut_part schema kept part back name t.middle.long t.last.below (subst (λ (m : Ilk). Among m (map (λ (r : Row). r.name) part)) n.is (names_among part n.row n.among)))

pub changes_stay_within : SchemasAreKept → ChangesStayWithin
changes_stay_within kept schema before part after name order old =
    let t = three_of schema (kept schema) before part after order in
    let n = named_in part name old in
    record {
      cut = ap (λ (l : List Row). without_span schema.types l name) (parted before part after) ∙ cut_within schema (kept schema) (joined before) part (joined after) name t n
          ∙ sym (parted before (without_span schema.types part name) after);
      replaced = λ content.
          ap (λ (l : List Row). replaced l name content) (parted before part after) ∙ replaced_within schema (joined before) part (joined after) name content t n
          ∙ sym (parted before (replaced part name content) after);
    }
