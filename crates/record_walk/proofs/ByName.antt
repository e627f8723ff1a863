-- Where names differ, the changes of the list with homes are those of the list of rows.
use Rattle.std.proofs.Common.{◌≡◌, ℕ, zero, suc, ◌+◌, ◌==◌, nat_lt, Bool, true, false, not, cond, List, [], ◌∷◌, ◌++◌, length, take, drop, reverse, insert, None, refl, sym, ap, subst, ◌∙◌, arith}
use Rattle.std.specs.Prelude.{take_while}
use Rattle.std.specs.List.{list_all, prefix_len, suffix_len}
use Rattle.std.proofs.lemmas.Bool.{and_parts, and_from, eq-eqb, ne_eqb, not-true, leb-true, le-ltb}
use Rattle.std.proofs.lemmas.List.{append_assoc, length-append, length-reverse}
use Rattle.std.proofs.lemmas.List.Folds.{prefix_len-append}
use Rattle.std.proofs.lemmas.Grind.{reverse_onto}
use Rattle.hal_base.specs.declared.place.Ilk.{Ilk}
use Rattle.hal_schema.specs.declared.row.Row.{Row}
use Rattle.hal_schema.specs.declared.schema.SegType.{SegType}
use Rattle.hal_schema.specs.declared.schema.Schema.{Schema}
use Rattle.hal_schema.specs.Row.{same_name, row_level}
use Rattle.hal_schema.specs.Forest.{all_pairs, names_apart}
use Rattle.hal_schema.specs.Insertion.{stands_before, through_last, insertion_place, inserted}
use Rattle.hal_schema.specs.Span.{is_deeper, span_of, without_span, replaced, with_content}
use Rattle.hal_schema.proofs.RowNames.{name_is, name_itself}
use Rattle.forest_laws.proofs.Lists.{drop_front}
use Rattle.record_walk.specs.Listing.{Placed, placed, list_in, rows_of}
use Rattle.record_walk.specs.Spans.{lies_below, span_at, without_span_at, replaced_at, starts_upto}
use Rattle.record_walk.specs.Named.{IsByName, HomesAreNames, begins_upto, StandsBetween, InsertedBetween, NewTwinsAreInserted}
use Rattle.record_walk.proofs.OnLists.{is_at, alone_at, take_front}

abbrev is_named : Ilk → Placed → Bool
is_named name p = same_name p.row.name name

prefix_map : (types : List SegType) (p : Placed) (list : List Placed) → prefix_len (is_deeper types p.row) (rows_of list) ≡ prefix_len (lies_below types p) list
prefix_map types p [] = refl
prefix_map types p (q ∷ list) = ap (λ (n : ℕ). cond {A = ℕ} (lies_below types p q) (1 + n) 0) (prefix_map types p list)

take_rows : (n : ℕ) (list : List Placed) → rows_of (take n list) ≡ take n (rows_of list)
take_rows zero list = refl
take_rows (suc n) [] = refl
take_rows (suc n) (p ∷ list) = ap (λ l. p.row ∷ l) (take_rows n list)

drop_rows : (n : ℕ) (list : List Placed) → rows_of (drop n list) ≡ drop n (rows_of list)
drop_rows zero list = refl
drop_rows (suc n) [] = refl
drop_rows (suc n) (p ∷ list) = drop_rows n list

pub append_rows : (xs ys : List Placed) → rows_of (xs ++ ys) ≡ rows_of xs ++ rows_of ys
append_rows [] ys = refl
append_rows (x ∷ xs) ys = ap (λ l. x.row ∷ l) (append_rows xs ys)

record SpansTie (types : List SegType) (list : List Placed) (p : Placed) : Type 0 where
  pub span : rows_of (span_at types list p.home) ≡ span_of types (rows_of list) p.row.name
  pub without : rows_of (without_span_at types list p.home) ≡ without_span types (rows_of list) p.row.name

spans_tie : (types : List SegType) (front : List Placed) (p : Placed) (back : List Placed) → list_all (λ q. not (is_at p.home q)) front ≡ true → list_all (λ q. not (is_named p.row.name q)) front ≡ true → SpansTie types (front ++ p ∷ back) p
spans_tie types [] p back off other =
    let own = eq-eqb p.home p.home refl in
    let named = name_itself p.row.name in
    let long = prefix_map types p back in
    record {
      span = ap (λ (b : Bool). rows_of (cond b (p ∷ take_while (lies_below types p) back) (span_at types back p.home))) own ∙ ap (λ l. p.row ∷ l) (take_rows (prefix_len (lies_below types p) back) back)
          ∙ ap (λ (n : ℕ). p.row ∷ take n (rows_of back)) (sym long) ∙ sym (ap (λ (b : Bool). cond b (p.row ∷ take_while (is_deeper types p.row) (rows_of back)) (span_of types (rows_of back) p.row.name)) named);
      without = ap (λ (b : Bool). rows_of (cond b (drop (prefix_len (lies_below types p) back) back) (p ∷ without_span_at types back p.home))) own ∙ drop_rows (prefix_len (lies_below types p) back) back
          ∙ ap (λ (n : ℕ). drop n (rows_of back)) (sym long)
          ∙ sym (ap (λ (b : Bool). cond b (drop (prefix_len (is_deeper types p.row) (rows_of back)) (rows_of back)) (p.row ∷ without_span types (rows_of back) p.row.name)) named);
    }
spans_tie types (q ∷ front) p back off other =
    let a = and_parts (not (is_at p.home q)) (list_all (λ r. not (is_at p.home r)) front) off in
    let b = and_parts (not (is_named p.row.name q)) (list_all (λ r. not (is_named p.row.name r)) front) other in
    let here = not-true (is_at p.home q) a.0 in
    let name = not-true (is_named p.row.name q) b.0 in
    let rest = spans_tie types front p back a.1 b.1 in
    let list : List Placed = front ++ p ∷ back in
    record {
      span = ap (λ (c : Bool). rows_of (cond c (q ∷ take_while (lies_below types q) list) (span_at types list p.home))) here ∙ rest.span
          ∙ sym (ap (λ (c : Bool). cond c (q.row ∷ take_while (is_deeper types q.row) (rows_of list)) (span_of types (rows_of list) p.row.name)) name);
      without = ap (λ (c : Bool). rows_of (cond c (drop (prefix_len (lies_below types q) list) list) (q ∷ without_span_at types list p.home))) here ∙ ap (λ l. q.row ∷ l) rest.without
          ∙ sym (ap (λ (c : Bool). cond c (drop (prefix_len (is_deeper types q.row) (rows_of list)) (rows_of list)) (q.row ∷ without_span types (rows_of list) p.row.name)) name);
    }

-- ---- contents

content_off : (home : ℕ) (name : Ilk) (content : List ℕ) (list : List Placed) → list_all (λ q. not (is_at home q)) list ≡ true → list_all (λ q. not (is_named name q)) list ≡ true → rows_of (replaced_at list home content) ≡ replaced (rows_of list) name content
content_off home name content [] off other = refl
content_off home name content (q ∷ list) off other =
    let a = and_parts (not (is_at home q)) (list_all (λ r. not (is_at home r)) list) off in
    let b = and_parts (not (is_named name q)) (list_all (λ r. not (is_named name r)) list) other in
    ap (λ (c : Bool). (cond c (record q { row = with_content q.row content }) q).row ∷ rows_of (replaced_at list home content)) (not-true (is_at home q) a.0) ∙ ap (λ l. q.row ∷ l) (content_off home name content list a.1 b.1)
    ∙ sym (ap (λ (c : Bool). (cond c (with_content q.row content) q.row) ∷ replaced (rows_of list) name content) (not-true (is_named name q) b.0))

content_tie : (front : List Placed) (p : Placed) (back : List Placed) (content : List ℕ) → list_all (λ q. not (is_at p.home q)) front ≡ true → list_all (λ q. not (is_named p.row.name q)) front ≡ true
    → list_all (λ q. not (is_at p.home q)) back ≡ true → list_all (λ q. not (is_named p.row.name q)) back ≡ true → rows_of (replaced_at (front ++ p ∷ back) p.home content) ≡ replaced (rows_of (front ++ p ∷ back)) p.row.name content
content_tie [] p back content off other off_back other_back =
    ap (λ (c : Bool). (cond c (record p { row = with_content p.row content }) p).row ∷ rows_of (replaced_at back p.home content)) (eq-eqb p.home p.home refl)
    ∙ ap (λ l. with_content p.row content ∷ l) (content_off p.home p.row.name content back off_back other_back)
    ∙ sym (ap (λ (c : Bool). (cond c (with_content p.row content) p.row) ∷ replaced (rows_of back) p.row.name content) (name_itself p.row.name))
content_tie (q ∷ front) p back content off other off_back other_back =
    let a = and_parts (not (is_at p.home q)) (list_all (λ r. not (is_at p.home r)) front) off in
    let b = and_parts (not (is_named p.row.name q)) (list_all (λ r. not (is_named p.row.name r)) front) other in
    let list : List Placed = front ++ p ∷ back in
    ap (λ (c : Bool). (cond c (record q { row = with_content q.row content }) q).row ∷ rows_of (replaced_at list p.home content)) (not-true (is_at p.home q) a.0)
    ∙ ap (λ l. q.row ∷ l) (content_tie front p back content a.1 b.1 off_back other_back)
    ∙ sym (ap (λ (c : Bool). (cond c (with_content q.row content) q.row) ∷ replaced (rows_of list) p.row.name content) (not-true (is_named p.row.name q) b.0))

-- ---- names

names_behind : (p : Placed) (back : List Placed) → list_all (names_apart p.row) (rows_of back) ≡ true → list_all (λ q. not (is_named p.row.name q)) back ≡ true
names_behind p [] h = refl
names_behind p (q ∷ back) h =
    let a = and_parts (names_apart p.row q.row) (list_all (names_apart p.row) (rows_of back)) h in
    and_from (not (is_named p.row.name q)) (list_all (λ r. not (is_named p.row.name r)) back) (turned (same_name q.row.name p.row.name) refl (not-true (same_name p.row.name q.row.name) a.0)) (names_behind p back a.1)
  where
    turned : (b : Bool) → same_name q.row.name p.row.name ≡ b → same_name p.row.name q.row.name ≡ false → not b ≡ true
    turned false e off = refl
    turned true e off = absurd (both (sym (name_itself p.row.name) ∙ ap (same_name p.row.name) (sym (name_is q.row.name p.row.name e)) ∙ off))
      where
        both : true ≡ false → ⊥
        both f = cc

name_among : (q p : Placed) (front back : List Placed) → list_all (names_apart q.row) (rows_of (front ++ p ∷ back)) ≡ true → names_apart q.row p.row ≡ true
name_among q p [] back h = (and_parts (names_apart q.row p.row) (list_all (names_apart q.row) (rows_of back)) h).0
name_among q p (r ∷ front) back h = name_among q p front back (and_parts (names_apart q.row r.row) (list_all (names_apart q.row) (rows_of (front ++ p ∷ back))) h).1

record OnlyName (front : List Placed) (p : Placed) (back : List Placed) : Type 0 where
  pub before : list_all (λ q. not (is_named p.row.name q)) front ≡ true
  pub behind : list_all (λ q. not (is_named p.row.name q)) back ≡ true

only_name : (front : List Placed) (p : Placed) (back : List Placed) → all_pairs names_apart (rows_of (front ++ p ∷ back)) ≡ true → OnlyName front p back
only_name [] p back h = record { before = refl; behind = names_behind p back (and_parts (list_all (names_apart p.row) (rows_of back)) (all_pairs names_apart (rows_of back)) h).0 }
only_name (q ∷ front) p back h =
    let a = and_parts (list_all (names_apart q.row) (rows_of (front ++ p ∷ back))) (all_pairs names_apart (rows_of (front ++ p ∷ back))) h in
    let rest = only_name front p back a.1 in
    record { before = and_from (not (is_named p.row.name q)) (list_all (λ r. not (is_named p.row.name r)) front) (name_among q p front back a.0) rest.before; behind = rest.behind }

pub homes_are_names : HomesAreNames
homes_are_names schema cells firsts trees front back p r whole apart =
    let alone = alone_at trees r.once front p back whole in
    let names = only_name front p back (subst (λ (l : List Placed). all_pairs names_apart (rows_of l) ≡ true) whole apart) in
    let tie = spans_tie schema.types front p back alone.before names.before in
    subst (λ (l : List Placed). IsByName schema l p) (sym whole) (record { span = tie.span; without = tie.without; content = λ content. content_tie front p back content alone.before names.before alone.behind names.behind })

-- ---- insertion

suffix_cons : (q : Row → Bool) (x : Row) (xs : List Row) → suffix_len q (x ∷ xs) ≡ cond (suffix_len q xs == length xs) (length xs + cond (q x) 1 0) (suffix_len q xs)
suffix_cons q x xs =
    ap (prefix_len q) (reverse_onto xs x []) ∙ prefix_len-append q (reverse xs) (x ∷ [])
    ∙ ap (λ n. cond (prefix_len q (reverse xs) == n) (n + cond (q x) 1 0) (prefix_len q (reverse xs))) (length-reverse xs)

suffix_all : (q : Row → Bool) (xs : List Row) → list_all q xs ≡ true → suffix_len q xs ≡ length xs
suffix_all q [] h = refl
suffix_all q (x ∷ xs) h =
    let a = and_parts (q x) (list_all q xs) h in
    let rest = suffix_all q xs a.1 in
    suffix_cons q x xs ∙ ap (λ (b : Bool). cond {A = ℕ} b (length xs + cond (q x) 1 0) (suffix_len q xs)) (eq-eqb (suffix_len q xs) (length xs) rest)
    ∙ ap (λ (b : Bool). length xs + cond {A = ℕ} b 1 0) a.0 ∙ (let e : length xs + 1 ≡ suc (length xs) = omega arith in e)

suffix_at : (q : Row → Bool) (front : List Row) (x : Row) (rest : List Row) → q x ≡ false → list_all q rest ≡ true → suffix_len q (front ++ x ∷ rest) ≡ length rest
suffix_at q [] x rest off all =
    suffix_cons q x rest ∙ ap (λ (b : Bool). cond {A = ℕ} b (length rest + cond (q x) 1 0) (suffix_len q rest)) (eq-eqb (suffix_len q rest) (length rest) (suffix_all q rest all))
    ∙ ap (λ (b : Bool). length rest + cond {A = ℕ} b 1 0) off ∙ (let e : length rest + 0 ≡ length rest = omega arith in e)
suffix_at q (y ∷ front) x rest off all =
    let list : List Row = front ++ x ∷ rest in
    let rec = suffix_at q front x rest off all in
    let long = length-append front (x ∷ rest) in
    let apart : suffix_len q list ≡ length list → ⊥ = λ e. absurd (omega (arith, e, rec, long)) in
    suffix_cons q y list ∙ ap (λ (b : Bool). cond {A = ℕ} b (length list + cond (q y) 1 0) (suffix_len q list)) (ne_eqb (suffix_len q list) (length list) apart) ∙ rec

-- the rows that are deeper than a new one, up to one that isn't
run_is : (types : List SegType) (n : ℕ) (below back : List Row) → list_all (λ r. nat_lt n (row_level types r)) below ≡ true → begins_upto types n back ≡ true → prefix_len (λ r. nat_lt n (row_level types r)) (below ++ back) ≡ length below
run_is types n [] [] deep starts = refl
run_is types n [] (q ∷ back) deep starts = ap (λ (b : Bool). cond {A = ℕ} b (1 + prefix_len (λ r. nat_lt n (row_level types r)) back) 0) (le-ltb n (row_level types q) (leb-true (row_level types q) n starts))
run_is types n (q ∷ below) back deep starts =
    let a = and_parts (nat_lt n (row_level types q)) (list_all (λ r. nat_lt n (row_level types r)) below) deep in
    let e = run_is types n below back a.1 starts in
    ap (λ (b : Bool). cond {A = ℕ} b (1 + prefix_len (λ r. nat_lt n (row_level types r)) (below ++ back)) 0) a.0 ∙ omega (arith, e)

inserted_is : (schema : Schema) (new : Row) (front : List Row) (last : Row) (below back : List Row) → stands_before schema new last ≡ true → list_all (λ row. not (stands_before schema new row)) (below ++ back) ≡ true
    → list_all (λ r. nat_lt (row_level schema.types new) (row_level schema.types r)) below ≡ true → begins_upto schema.types (row_level schema.types new) back ≡ true
    → inserted schema (front ++ last ∷ (below ++ back)) new ≡ front ++ last ∷ (below ++ new ∷ back)
inserted_is schema new front last below back before none deep starts =
    let types = schema.types in
    let rows : List Row = front ++ last ∷ (below ++ back) in
    let first : List Row = front ++ last ∷ [] in
    let upto : List Row = first ++ below in
    let whole : rows ≡ first ++ (below ++ back) = sym (append_assoc front (last ∷ []) (below ++ back)) in
    let all : rows ≡ upto ++ back = whole ∙ sym (append_assoc first below back) in
    let suffix = suffix_at (λ row. not (stands_before schema new row)) front last (below ++ back) (ap not before) none in
    let long = length-append front (last ∷ (below ++ back)) in
    let one = length-append front (last ∷ []) in
    let after : through_last (stands_before schema new) rows ≡ length first = omega (arith, suffix, long, one) in
    let run : prefix_len (λ r. nat_lt (row_level types new) (row_level types r)) (drop (through_last (stands_before schema new) rows) rows) ≡ length below =
    ap (λ (n : ℕ). prefix_len (λ r. nat_lt (row_level types new) (row_level types r)) (drop n rows)) after
    ∙ ap (λ (l : List Row). prefix_len (λ r. nat_lt (row_level types new) (row_level types r)) (drop (length first) l)) whole
    ∙ ap (λ (l : List Row). prefix_len (λ r. nat_lt (row_level types new) (row_level types r)) l) (drop_front first (below ++ back)) ∙ run_is types (row_level types new) below back deep starts in
    let two = length-append first below in
    let place : insertion_place schema rows new ≡ length upto = omega (arith, after, run, two) in
    ap (λ (n : ℕ). insert rows n new) place ∙ ap (λ (l : List Row). insert l (length upto) new) all
    ∙ ap (λ (l : List Row). l ++ new ∷ drop (length upto) (upto ++ back)) (take_front upto back) ∙ ap (λ (l : List Row). upto ++ new ∷ l) (drop_front upto back)
    ∙ append_assoc first below (new ∷ back) ∙ append_assoc front (last ∷ []) (below ++ new ∷ back)

pub inserted_between : InsertedBetween
inserted_between = record {
  behind = λ schema new head last tail back before b. inserted_is schema new head last tail back before b.none b.deeper b.next;
  front = at_front;
}
  where
    at_front : (schema : Schema) (new : Row) (rows : List Row) → StandsBetween schema new [] rows → inserted schema rows new ≡ new ∷ rows
    at_front schema new rows b =
        let types = schema.types in
        let suffix = suffix_all (λ row. not (stands_before schema new row)) rows b.none in
        let after : through_last (stands_before schema new) rows ≡ 0 = omega (arith, suffix) in
        let run : prefix_len (λ r. nat_lt (row_level types new) (row_level types r)) (drop (through_last (stands_before schema new) rows) rows) ≡ 0 =
        ap (λ (n : ℕ). prefix_len (λ r. nat_lt (row_level types new) (row_level types r)) (drop n rows)) after ∙ run_is types (row_level types new) [] rows refl b.next in
        let place : insertion_place schema rows new ≡ 0 = omega (arith, after, run) in
        ap (λ (n : ℕ). insert rows n new) place

pub begins : (types : List SegType) (n : ℕ) (list : List Placed) → starts_upto types n list ≡ true → begins_upto types n (rows_of list) ≡ true
begins types n [] h = refl
begins types n (p ∷ list) h = h

deep_rows : (types : List SegType) (n : ℕ) (p : Placed) (list : List Placed) → row_level types p.row ≡ n → list_all (lies_below types p) list ≡ true → list_all (λ r. nat_lt n (row_level types r)) (rows_of list) ≡ true
deep_rows types n p [] e h = refl
deep_rows types n p (q ∷ list) e h =
    let a = and_parts (lies_below types p q) (list_all (lies_below types p) list) h in
    and_from (nat_lt n (row_level types q.row)) (list_all (λ r. nat_lt n (row_level types r)) (rows_of list)) (subst (λ (m : ℕ). nat_lt m (row_level types q.row) ≡ true) e a.0) (deep_rows types n p list e a.1)

pub new_twins_are_inserted : NewTwinsAreInserted
new_twins_are_inserted schema cells firsts trees prior new kinds r m c h =
    let types = schema.types in
    let row : Row = (placed c.twin.row.parent new).row in
    let apart : rows_of (c.below ++ c.back) ≡ rows_of c.below ++ rows_of c.back = append_rows c.below c.back in
    let done = inserted_is schema row (rows_of c.front) c.twin.row (rows_of c.below) (rows_of c.back) h.before
    (subst (λ (l : List Row). list_all (λ other. not (stands_before schema row other)) l ≡ true) apart h.last)
    (deep_rows types (row_level types row) c.twin c.below (sym h.twins) c.deeper)
    (begins types (row_level types row) c.back (subst (λ (n : ℕ). starts_upto types n c.back ≡ true) (sym h.twins) c.next)) in
    let old : rows_of (list_in None trees) ≡ rows_of c.front ++ c.twin.row ∷ (rows_of c.below ++ rows_of c.back) =
    ap rows_of c.whole ∙ append_rows c.front ((c.twin ∷ c.below) ++ c.back) ∙ ap (λ (l : List Row). rows_of c.front ++ c.twin.row ∷ l) apart in
    ap rows_of c.placed_in ∙ append_rows c.front ((c.twin ∷ c.below) ++ placed c.twin.row.parent new ∷ c.back)
    ∙ ap (λ (l : List Row). rows_of c.front ++ c.twin.row ∷ l) (append_rows c.below (placed c.twin.row.parent new ∷ c.back)) ∙ sym done ∙ ap (λ (l : List Row). inserted schema l row) (sym old)
