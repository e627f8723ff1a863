-- A row came: it is the newest child now, and the rest of its path is what it was.
use Rattle.std.proofs.Common.{◌≡◌, ℕ, ◌+◌, ◌==◌, nat_lt, nat_le, Bool, true, false, not, cond, ◌&&◌, ◌||◌, List, [], ◌∷◌, ◌++◌, take, drop, insert, Option, Some, None, refl, sym, ap, ◌∙◌, arith}
use Rattle.std.specs.Prelude.{find, is_none}
use Rattle.std.specs.List.{list_all, last_or, slice_get, prefix_len}
use Rattle.std.specs.Option.{option_map, option_map_or}
use Rattle.std.specs.Ordering.{is_lt, is_le}
use Rattle.std.proofs.lemmas.Bool.{and_parts, and_from, and_right, not-true, not_from_false, or_left, or_right, both_ways, eqb-true, eq-eqb, ltb-false, leb-true, le-leb, true≢false}
use Rattle.std.proofs.lemmas.List.{drop-drop, take-append-drop}
use Rattle.hal_base.specs.declared.place.Ilk.{Ilk}
use Rattle.hal_schema.specs.declared.row.Row.{Row}
use Rattle.hal_schema.specs.declared.schema.Schema.{Schema}
use Rattle.hal_schema.specs.Forest.{all_pairs, names_apart, twin_cmp}
use Rattle.hal_schema.specs.Insertion.{is_lower_child, through_last}
use Rattle.hal_schema.specs.Keys.{key_cmp}
use Rattle.hal_schema.specs.Row.{same_name, same_parent, is_parent, are_twins, row_named, is_new_name, row_key, row_level}
use Rattle.hal_schema.specs.SegType.{parent_code}
use Rattle.hal_schema.proofs.RowNames.{name_is, name_itself}
use Rattle.hal_loader.specs.Carrying.{level_kept, IsNewest, AreOnPath, Carried, is_of_later_type, is_above_key}
use Rattle.hal_loader.specs.Placing.{first_name, goes_by_key, loads_behind, load_place, with_loaded}
use Rattle.hal_loader.proofs.Climbs.{Siblings, Climbed}
use Rattle.hal_loader.proofs.KeyOrder.{up_to_next, up_to_itself}
use Rattle.hal_loader.proofs.Lists.{all_inserted, all_weaker, all_both, all_dropped, find_inserted, find_inserted_new, filter_inserted, last_inserted, none_behind}
use Rattle.hal_loader.proofs.Newest.{same_parent_itself, twin_is, either, from_if, unless}

-- ---- names

none_new : (rows : List Row) (n : Ilk) (q : Row) → is_new_name rows n ≡ true → row_named rows q.name ≡ Some q → same_name n q.name ≡ false
none_new rows n q new found = by (same_name n q.name) refl
  where
    by : (b : Bool) → same_name n q.name ≡ b → b ≡ false
    by true s =
        let e : n ≡ q.name = name_is n q.name s in
        let is : is_none (row_named rows q.name) ≡ true = ap (is_new_name rows) (sym e) ∙ new in
        let no : is_none (row_named rows q.name) ≡ false = ap is_none found in
        absurd (true≢false (sym is ∙ no))
    by false s = refl

others_on_path : (schema : Schema) (rows path : List Row) (n : Ilk) → is_new_name rows n ≡ true → AreOnPath schema rows path → list_all (λ (q : Row). not (same_name n q.name)) path ≡ true
others_on_path schema rows [] n new on = refl
others_on_path schema rows (q ∷ path) n new on =
    and_from (not (same_name n q.name)) (list_all (λ (r : Row). not (same_name n r.name)) path) (not_from_false (same_name n q.name) (none_new rows n q new on.0.newest.found))
    (others_on_path schema rows path n new on.1)

-- ---- a newest child, with another row behind that is none of its siblings

newest_stays : (schema : Schema) (rows : List Row) (k : ℕ) (new p : Row) → same_name new.name p.name ≡ false → same_parent new.parent p.parent ≡ false
    → IsNewest schema rows p → IsNewest schema (insert rows k new) p
newest_stays schema rows k new p other apart n =
    let no_twin : are_twins new p ≡ false = and_right (new.code == p.code) (same_parent new.parent p.parent) apart in
    record {
      found = find_inserted (λ (r : Row). same_name r.name p.name) rows k new other ∙ n.found;
      latest = all_inserted (λ (r : Row). not (same_parent r.parent p.parent) || nat_le r.code p.code) rows k new n.latest
          (ap (λ (b : Bool). not b || nat_le new.code p.code) apart);
      last = λ plain. ap (last_or None) (filter_inserted (λ (r : Row). are_twins r p) rows k new no_twin) ∙ n.last plain;
      highest = λ plain. all_inserted (λ (r : Row). not (are_twins r p) || is_le (key_cmp (row_key schema.types r) (row_key schema.types p))) rows k new (n.highest plain)
          (ap (λ (b : Bool). not b || is_le (key_cmp (row_key schema.types new) (row_key schema.types p))) no_twin);
    }

path_stays : (schema : Schema) (rows : List Row) (k : ℕ) (new p : Row) (rest : List Row) (n : Ilk) → new.parent ≡ Some n → is_new_name rows new.name ≡ true
    → list_all (λ (q : Row). not (same_name n q.name)) rest ≡ true → AreOnPath schema rows (p ∷ rest) → AreOnPath schema (insert rows k new) (p ∷ rest)
path_stays schema rows k new p [] n e fresh others on = (
  record {
    newest = newest_stays schema rows k new p (none_new rows new.name p fresh on.0.newest.found) (ap (λ (o : Option Ilk). same_parent o p.parent) e ∙ ap (same_parent (Some n)) on.0.parent) on.0.newest;
    parent = on.0.parent;
    kind = on.0.kind;
  },
  tt,
)
path_stays schema rows k new p (q ∷ rest) n e fresh others on =
    let o = and_parts (not (same_name n q.name)) (list_all (λ (r : Row). not (same_name n r.name)) rest) others in
    let apart : same_parent new.parent p.parent ≡ false = ap (λ (o : Option Ilk). same_parent o p.parent) e ∙ ap (same_parent (Some n)) on.0.parent ∙ not-true (same_name n q.name) o.0 in (
      record { newest = newest_stays schema rows k new p (none_new rows new.name p fresh on.0.newest.found) apart on.0.newest; parent = on.0.parent; kind = on.0.kind },
      path_stays schema rows k new q rest n e fresh o.1 on.1,
    )

above_stays : (schema : Schema) (rows : List Row) (k : ℕ) (new : Row) (above : List Row) → new.parent ≡ first_name above → is_new_name rows new.name ≡ true
    → all_pairs names_apart above ≡ true → AreOnPath schema rows above → AreOnPath schema (insert rows k new) above
above_stays schema rows k new [] e fresh apart on = tt
above_stays schema rows k new (p ∷ rest) e fresh apart on =
    path_stays schema rows k new p rest p.name e fresh (and_parts (list_all (names_apart p) rest) (all_pairs names_apart rest) apart).0 on

-- ---- the new row

-- no twin stands behind the place where it goes
no_twin_behind : (schema : Schema) (rows : List Row) (new : Row) → goes_by_key schema new ≡ false
    → list_all (λ (r : Row). not (are_twins r new)) (drop (load_place schema rows new) rows) ≡ true
no_twin_behind schema rows new plain =
    let behind : Row → Bool = loads_behind schema new in
    let after : ℕ = through_last (loads_behind schema new) rows in
    let more : ℕ = prefix_len (λ (row : Row). nat_lt (row_level schema.types new) (row_level schema.types row)) (drop after rows) in
    let none = all_dropped (λ (r : Row). not (loads_behind schema new r)) more (drop after rows) (none_behind (loads_behind schema new) rows) in
    let at : list_all (λ (r : Row). not (loads_behind schema new r)) (drop (after + more) rows) ≡ true = ap (list_all (λ (r : Row). not (loads_behind schema new r))) (sym (drop-drop more after rows)) ∙ none in
    all_weaker (λ (r : Row). not (loads_behind schema new r)) (λ (r : Row). not (are_twins r new)) each (drop (after + more) rows) at
  where
    last : (a b t p l : Bool) → p ≡ false → not (a || b || (t && (not p || l))) ≡ true → not t ≡ true
    last true b t p l e h = cc h
    last false true t p l e h = cc h
    last false false true true l e h = cc e
    last false false true false l e h = cc h
    last false false false p l e h = refl

    each : (r : Row) → not (loads_behind schema new r) ≡ true → not (are_twins r new) ≡ true
    each r h = last (is_parent r new) (is_lower_child new r) (are_twins r new) (goes_by_key schema new) (is_lt (twin_cmp schema r new)) plain h

latest_now : (schema : Schema) (rows : List Row) (below : Option Row) (above : List Row) (new : Row) → Siblings schema rows below above → new.parent ≡ first_name above
    → is_of_later_type (option_map (level_kept schema.types) below) new.code ≡ false
    → list_all (λ (r : Row). not (same_parent r.parent new.parent) || nat_le r.code new.code) rows ≡ true
latest_now schema rows None above new s e later =
    all_weaker (λ (r : Row). not (same_parent r.parent (first_name above))) (λ (r : Row). not (same_parent r.parent new.parent) || nat_le r.code new.code)
    (λ r h. or_left (not (same_parent r.parent new.parent)) (nat_le r.code new.code) (ap (λ (o : Option Ilk). not (same_parent r.parent o)) e ∙ h)) rows s
latest_now schema rows (Some p) above new s e later =
    all_weaker (λ (r : Row). not (same_parent r.parent p.parent) || nat_le r.code p.code) (λ (r : Row). not (same_parent r.parent new.parent) || nat_le r.code new.code) each rows s.newest.latest
  where
    each : (r : Row) → (not (same_parent r.parent p.parent) || nat_le r.code p.code) ≡ true → (not (same_parent r.parent new.parent) || nat_le r.code new.code) ≡ true
    each r h = from_if (same_parent r.parent new.parent) (nat_le r.code new.code) (λ is.
        let same : same_parent r.parent p.parent ≡ true = ap (same_parent r.parent) (s.parent ∙ sym e) ∙ is in
        let le = leb-true r.code p.code (either (same_parent r.parent p.parent) (nat_le r.code p.code) h same) in
        let ge = ltb-false new.code p.code later in
        le-leb r.code new.code (omega (arith, le, ge)))

highest_now : (schema : Schema) (rows : List Row) (below : Option Row) (above : List Row) (new : Row) → Siblings schema rows below above → new.parent ≡ first_name above
    → is_of_later_type (option_map (level_kept schema.types) below) new.code ≡ false → goes_by_key schema new ≡ false
    → is_above_key (option_map (level_kept schema.types) below) new.code (row_key schema.types new) ≡ false
    → list_all (λ (r : Row). not (are_twins r new) || is_le (key_cmp (row_key schema.types r) (row_key schema.types new))) rows ≡ true
highest_now schema rows None above new s e later plain under =
    all_weaker (λ (r : Row). not (same_parent r.parent (first_name above))) (λ (r : Row). not (are_twins r new) || is_le (key_cmp (row_key schema.types r) (row_key schema.types new))) each rows s
  where
    each : (r : Row) → not (same_parent r.parent (first_name above)) ≡ true → (not (are_twins r new) || is_le (key_cmp (row_key schema.types r) (row_key schema.types new))) ≡ true
    each r h =
        let no : are_twins r new ≡ false = and_right (r.code == new.code) (same_parent r.parent new.parent) (ap (same_parent r.parent) e ∙ not-true (same_parent r.parent (first_name above)) h) in
        or_left (not (are_twins r new)) (is_le (key_cmp (row_key schema.types r) (row_key schema.types new))) (not_from_false (are_twins r new) no)
highest_now schema rows (Some p) above new s e later plain under = by (p.code == new.code) refl
  where
    same : new.parent ≡ p.parent
    same = e ∙ sym s.parent

    none : (p.code == new.code) ≡ false → (r : Row) → (not (same_parent r.parent p.parent) || nat_le r.code p.code) ≡ true
        → (not (are_twins r new) || is_le (key_cmp (row_key schema.types r) (row_key schema.types new))) ≡ true
    none f r h = from_if (are_twins r new) (is_le (key_cmp (row_key schema.types r) (row_key schema.types new)))
        (λ is. absurd (true≢false (sym (eq-eqb p.code new.code (twin_is p new r same later h is).0) ∙ f)))

    each : (p.code == new.code) ≡ true → (r : Row) → (not (same_parent r.parent p.parent) || nat_le r.code p.code) ≡ true
        → (not (are_twins r p) || is_le (key_cmp (row_key schema.types r) (row_key schema.types p))) ≡ true
        → (not (are_twins r new) || is_le (key_cmp (row_key schema.types r) (row_key schema.types new))) ≡ true
    each f r h k = from_if (are_twins r new) (is_le (key_cmp (row_key schema.types r) (row_key schema.types new))) (λ is.
        let t = twin_is p new r same later h is in
        let le = either (are_twins r p) (is_le (key_cmp (row_key schema.types r) (row_key schema.types p))) k t.1 in
        let not_lt : is_lt (key_cmp (row_key schema.types new) (row_key schema.types p)) ≡ false = ap (λ (c : Bool). c && is_lt (key_cmp (row_key schema.types new) (row_key schema.types p))) (sym f) ∙ under in
        up_to_next (row_key schema.types r) (row_key schema.types p) (row_key schema.types new) le not_lt)

    by : (b : Bool) → (p.code == new.code) ≡ b → list_all (λ (r : Row). not (are_twins r new) || is_le (key_cmp (row_key schema.types r) (row_key schema.types new))) rows ≡ true
    by true f =
        let plain_p : goes_by_key schema p ≡ false = ap (λ (c : ℕ). schema.phdam && c == 1) (eqb-true p.code new.code f) ∙ plain in
        all_both (λ (r : Row). not (same_parent r.parent p.parent) || nat_le r.code p.code) (λ (r : Row). not (are_twins r p) || is_le (key_cmp (row_key schema.types r) (row_key schema.types p)))
        (λ (r : Row). not (are_twins r new) || is_le (key_cmp (row_key schema.types r) (row_key schema.types new))) (each f) rows s.newest.latest (s.newest.highest plain_p)
    by false f = all_weaker (λ (r : Row). not (same_parent r.parent p.parent) || nat_le r.code p.code)
        (λ (r : Row). not (are_twins r new) || is_le (key_cmp (row_key schema.types r) (row_key schema.types new))) (none f) rows s.newest.latest

new_is_newest : (schema : Schema) (rows : List Row) (below : Option Row) (above : List Row) (new : Row) → Siblings schema rows below above → new.parent ≡ first_name above
    → is_new_name rows new.name ≡ true → is_of_later_type (option_map (level_kept schema.types) below) new.code ≡ false
    → (goes_by_key schema new ≡ false → is_above_key (option_map (level_kept schema.types) below) new.code (row_key schema.types new) ≡ false)
    → IsNewest schema (with_loaded schema rows new) new
new_is_newest schema rows below above new s e fresh later under =
    let k : ℕ = load_place schema rows new in
    let le : nat_le new.code new.code ≡ true = le-leb new.code new.code (omega arith) in
    let twin : are_twins new new ≡ true = and_from (new.code == new.code) (same_parent new.parent new.parent) (eq-eqb new.code new.code refl) (same_parent_itself new.parent) in
    record {
      found = find_inserted_new (λ (r : Row). same_name r.name new.name) rows k new fresh (name_itself new.name);
      latest = all_inserted (λ (r : Row). not (same_parent r.parent new.parent) || nat_le r.code new.code) rows k new (latest_now schema rows below above new s e later)
          (or_right (not (same_parent new.parent new.parent)) (nat_le new.code new.code) le);
      last = λ plain. last_inserted (λ (r : Row). are_twins r new) rows k new twin (no_twin_behind schema rows new plain);
      highest = λ plain. all_inserted (λ (r : Row). not (are_twins r new) || is_le (key_cmp (row_key schema.types r) (row_key schema.types new))) rows k new
          (highest_now schema rows below above new s e later plain (under plain))
          (or_right (not (are_twins new new)) (is_le (key_cmp (row_key schema.types new) (row_key schema.types new))) (up_to_itself (row_key schema.types new)));
    }

-- ---- parents

not_its_child : (rows : List Row) (n : Ilk) (o : Option Ilk) → is_new_name rows n ≡ true → option_map_or (λ name. not (is_new_name rows name)) o true ≡ true → not (same_parent o (Some n)) ≡ true
not_its_child rows n None new h = refl
not_its_child rows n (Some m) new h = unless (same_name m n) (λ s.
    absurd (both_ways (is_new_name rows m) (not-true (is_new_name rows m) h) (ap (is_new_name rows) (name_is m n s) ∙ new)))

some_stays : (p : Row → Bool) (front : List Row) (x : Row) (back : List Row) → not (is_none (find p (front ++ back))) ≡ true → not (is_none (find p (front ++ x ∷ back))) ≡ true
some_stays p [] x back h = by (p x)
  where
    by : (b : Bool) → not (is_none (cond b (Some x) (find p back))) ≡ true
    by true = refl
    by false = h
some_stays p (y ∷ front) x back h = by (p y) h (some_stays p front x back)
  where
    by : (b : Bool) → not (is_none (cond b (Some y) (find p (front ++ back)))) ≡ true → (not (is_none (find p (front ++ back))) ≡ true → not (is_none (find p (front ++ x ∷ back))) ≡ true)
        → not (is_none (cond b (Some y) (find p (front ++ x ∷ back)))) ≡ true
    by true f go = refl
    by false f go = go f

parent_stays : (rows : List Row) (k : ℕ) (new : Row) (o : Option Ilk) → option_map_or (λ name. not (is_new_name rows name)) o true ≡ true
    → option_map_or (λ name. not (is_new_name (insert rows k new) name)) o true ≡ true
parent_stays rows k new None h = refl
parent_stays rows k new (Some m) h =
    some_stays (λ (r : Row). same_name r.name m) (take k rows) new (drop k rows) (ap (λ (l : List Row). not (is_none (find (λ (r : Row). same_name r.name m) l))) (take-append-drop k rows) ∙ h)

pub first_is_there : (schema : Schema) (rows above : List Row) (o : Option Ilk) → o ≡ first_name above → AreOnPath schema rows above → option_map_or (λ name. not (is_new_name rows name)) o true ≡ true
first_is_there schema rows [] o e on = ap (λ (o : Option Ilk). option_map_or (λ name. not (is_new_name rows name)) o true) e
first_is_there schema rows (p ∷ rest) o e on =
    ap (λ (o : Option Ilk). option_map_or (λ name. not (is_new_name rows name)) o true) e ∙ ap (λ (r : Option Row). not (is_none r)) on.0.newest.found

-- ---- all of it

pub came : (schema : Schema) (rows : List Row) (below : Option Row) (above : List Row) (new : Row) → Climbed schema rows below above
    → list_all (λ (r : Row). option_map_or (λ name. not (is_new_name rows name)) r.parent true) rows ≡ true
    → new.parent ≡ first_name above → parent_code schema.types new.code ≡ option_map (λ (r : Row). r.code) (slice_get above 0) → is_new_name rows new.name ≡ true
    → is_of_later_type (option_map (level_kept schema.types) below) new.code ≡ false
    → (goes_by_key schema new ≡ false → is_above_key (option_map (level_kept schema.types) below) new.code (row_key schema.types new) ≡ false)
    → Carried schema (with_loaded schema rows new) (new ∷ above)
came schema rows below above new c parents e kind fresh later under =
    let k : ℕ = load_place schema rows new in
    let there = first_is_there schema rows above new.parent e c.on_path in
    record {
      on_path = (
        record { newest = new_is_newest schema rows below above new c.siblings e fresh later under; parent = e; kind = kind },
        above_stays schema rows k new above e fresh c.apart c.on_path,
      );
      apart = and_from (list_all (names_apart new) above) (all_pairs names_apart above) (others_on_path schema rows above new.name fresh c.on_path) c.apart;
      childless = all_inserted (λ (r : Row). not (same_parent r.parent (Some new.name))) rows k new
          (all_weaker (λ (r : Row). option_map_or (λ name. not (is_new_name rows name)) r.parent true) (λ (r : Row). not (same_parent r.parent (Some new.name)))
          (λ r h. not_its_child rows new.name r.parent fresh h) rows parents)
          (not_its_child rows new.name new.parent fresh there);
      parents = all_inserted (λ (r : Row). option_map_or (λ name. not (is_new_name (insert rows k new) name)) r.parent true) rows k new
          (all_weaker (λ (r : Row). option_map_or (λ name. not (is_new_name rows name)) r.parent true) (λ (r : Row). option_map_or (λ name. not (is_new_name (insert rows k new) name)) r.parent true)
          (λ r h. parent_stays rows k new r.parent h) rows parents)
          (parent_stays rows k new new.parent there);
    }
