-- The rows of the sides follow the events.
use Rattle.std.proofs.Common.{◌≡◌, ◌≢◌, ℕ, ◌==◌, Bool, true, false, ◌&&◌, ◌||◌, cond, not, List, [], ◌∷◌, ◌++◌, map, None, Some, ◌⊎◌, inl, inr, refl, sym, ap, subst, ◌∙◌, arith}
use Rattle.std.specs.Prelude.{◌+◌, filter, is_none}
use Rattle.std.specs.Option.{option_map_or}
use Rattle.std.specs.List.{list_all, list_any}
use Rattle.std.specs.Str.{bytes_eq}
use Rattle.std.proofs.lemmas.Bool.{and_parts, and_from, eqb-true, eq-eqb, or_left, or_right, or_parts, or_from, not_from_false}
use Rattle.std.proofs.lemmas.Slice.Eq.{bytes_eq-Decides}
use Rattle.hal_base.specs.declared.place.Cursor.{Cursor}
use Rattle.hal_base.specs.declared.place.PartState.{PartState}
use Rattle.hal_schema.specs.declared.row.Row.{Row}
use Rattle.hal_schema.specs.Forest.{all_pairs}
use Rattle.hal_schema.specs.Row.{same_name}
use Rattle.hal_schema.specs.Span.{with_content}
use Rattle.hal_schema.proofs.RowNames.{name_from}
use Rattle.volume_rules.specs.View.{Home, Homed, Segment, View, same_home}
use Rattle.volume_rules.specs.Delta.{Delta, Fate, Stays, Dropped, Rewritten, Fresh, Moved, Left}
use Rattle.volume_rules.specs.Events.{among, insertion, replacement, deletion, turned, switch, IsEmptied, Move, fate_in, is_moved, may_move, unit}
use Rattle.volume_rules.specs.Volume.{RowsStand, stands_in}
use Rattle.volume_rules.specs.Sides.{is_alike, is_listed, is_met, row_follows, OwesMeeting, RowsFollow}
use Rattle.volume_rules.specs.SideEvents.{RowsAreCopied, home_of, replaced_rows, rows_without, GoesIn, EventsMoveRows}
use Rattle.volume_rules.proofs.Homing.{home_is, home_itself, numbers_differ}
use Rattle.volume_rules.proofs.SidesKept.{at_row, all_weaker}

-- ---- lists

-- each row is among the rows, by a test that each passes with itself
pub any_self : (test : Homed → Homed → Bool) → ((r : Homed) → test r r ≡ true) → (rows : List Homed) → list_all (λ r. list_any (λ o. test o r) rows) rows ≡ true
any_self test self [] = refl
any_self test self (x ∷ rows) =
    and_from (test x x || list_any (λ o. test o x) rows) (list_all (λ r. test x r || list_any (λ o. test o r) rows) rows) (or_left (test x x) (list_any (λ o. test o x) rows) (self x))
    (all_weaker (λ r. list_any (λ o. test o r) rows) (λ r. test x r || list_any (λ o. test o r) rows) (λ r h. or_right (test x r) (list_any (λ o. test o r) rows) h) rows (any_self test self rows))

alike_itself : (a : Row) → is_alike a a ≡ true
alike_itself a =
    and_from (a.code == a.code && same_name a.name a.name) (bytes_eq a.content a.content)
    (and_from (a.code == a.code) (same_name a.name a.name) (eq-eqb a.code a.code refl) (name_from a.name a.name refl)) ((bytes_eq-Decides a.content a.content).1 refl)

listed_self : (rows : List Homed) → list_all (λ r. is_listed rows r.addr r.row) rows ≡ true
listed_self rows = any_self (λ o r. o.addr == r.addr && is_alike o.row r.row) (λ r. and_from (r.addr == r.addr) (is_alike r.row r.row) (eq-eqb r.addr r.addr refl) (alike_itself r.row)) rows

-- ---- what is kept

all_filtered : (keep strong weak : Homed → Bool) → ((r : Homed) → keep r ≡ true → strong r ≡ true → weak r ≡ true) → (rows : List Homed) → list_all strong rows ≡ true → list_all weak (filter keep rows) ≡ true
all_filtered keep strong weak so [] h = refl
all_filtered keep strong weak so (r ∷ rows) h =
    let p = and_parts (strong r) (list_all strong rows) h in by (keep r) refl p.0 (all_filtered keep strong weak so rows p.1)
  where
    by : (b : Bool) → keep r ≡ b → strong r ≡ true → list_all weak (filter keep rows) ≡ true → list_all weak (cond b (r ∷ filter keep rows) (filter keep rows)) ≡ true
    by false e here rest = rest
    by true e here rest = and_from (weak r) (list_all weak (filter keep rows)) (so r e here) rest

any_filtered : (keep test : Homed → Bool) → ((r : Homed) → test r ≡ true → keep r ≡ true) → (rows : List Homed) → list_any test rows ≡ true → list_any test (filter keep rows) ≡ true
any_filtered keep test so [] h = cc
any_filtered keep test so (r ∷ rows) h = by (test r) (keep r) refl refl h (any_filtered keep test so rows)
  where
    by : (t b : Bool) → test r ≡ t → keep r ≡ b → (t || list_any test rows) ≡ true → (list_any test rows ≡ true → list_any test (filter keep rows) ≡ true)
        → list_any test (cond b (r ∷ filter keep rows) (filter keep rows)) ≡ true
    by true true e f h rest = or_left (test r) (list_any test (filter keep rows)) e
    by true false e f h rest = let no_ : true ≡ false = sym (so r e) ∙ f in cc
    by false true e f h rest = or_right (test r) (list_any test (filter keep rows)) (rest h)
    by false false e f h rest = rest h

pub pairs_filtered : (keep : Homed → Bool) (test : Homed → Homed → Bool) (rows : List Homed) → all_pairs test rows ≡ true → all_pairs test (filter keep rows) ≡ true
pairs_filtered keep test [] h = refl
pairs_filtered keep test (r ∷ rows) h =
    let p = and_parts (list_all (test r) rows) (all_pairs test rows) h in by (keep r) (all_filtered keep (test r) (test r) (λ x k t. t) rows p.0) (pairs_filtered keep test rows p.1)
  where
    by : (b : Bool) → list_all (test r) (filter keep rows) ≡ true → all_pairs test (filter keep rows) ≡ true → all_pairs test (cond b (r ∷ filter keep rows) (filter keep rows)) ≡ true
    by true first rest = and_from (list_all (test r) (filter keep rows)) (all_pairs test (filter keep rows)) first rest
    by false first rest = rest

module _ (view : View) (kept : RowsStand view) where
  turn : (state : PartState) → RowsFollow view (turned view state)
  turn state = record { each = λ number. listed_self (view.rows number); met = λ home h. h; once = kept.once }

  delete : (homes : List Home) → RowsFollow view (deletion view homes (rows_without view homes))
  delete homes = record {
    each = λ number.
        all_filtered (λ r. not (among homes (home_of number r))) (λ r. is_listed (view.rows number) r.addr r.row)
        (λ r. row_follows view number r (cond (among homes (home_of number r)) Dropped Stays)) (λ r keep listed. stays number r (among homes (home_of number r)) keep listed) (view.rows number)
        (listed_self (view.rows number));
    met = λ home. meets home (among homes home) refl;
    once = λ number. pairs_filtered (λ r. not (among homes (home_of number r))) (λ a b. not (a.addr == b.addr)) (view.rows number) (kept.once number);
  }
    where
      stays : (number : ℕ) (r : Homed) (b : Bool) → not b ≡ true → is_listed (view.rows number) r.addr r.row ≡ true → row_follows view number r (cond b Dropped Stays) ≡ true
      stays number r false keep listed = listed
      stays number r true keep listed = cc

      meets : (home : Home) (b : Bool) → among homes home ≡ b → OwesMeeting view (deletion view homes (rows_without view homes)) home (cond b Dropped Stays)
      meets home true e = tt
      meets home false e =
          any_filtered (λ r. not (among homes (home_of home.number r))) (λ r. r.addr == home.addr)
          (λ r at. not_from_false (among homes (home_of home.number r)) (ap (λ a. among homes (record { number = home.number; addr = a })) (eqb-true r.addr home.addr at) ∙ e)) (view.rows home.number)

  switched : IsEmptied view → RowsFollow view (switch view)
  switched emptied = record {
    each = λ number. by number (number == view.state.number) refl;
    met = λ home. meets home (home.number == view.state.number);
    once = kept.once;
  }
    where
      none : (number : ℕ) → number ≡ view.state.number → (rows : List Homed) → list_all (stands_in view number) rows ≡ true → list_all (λ r. row_follows view number r Dropped) rows ≡ true
      none number at [] h = refl
      none number at (r ∷ rows) h =
          let p = and_parts (stands_in view number r) (list_all (stands_in view number) rows) h in
          let a = at_row view number r.addr r p.0 refl in
          absurd (emptied (home_of number r) a.s (record { here = a.here; uncopied = a.words.uncopied }) at)

      by : (number : ℕ) (b : Bool) → (number == view.state.number) ≡ b → list_all (λ r. row_follows view number r (cond b Dropped Stays)) (view.rows number) ≡ true
      by number true e = none number (eqb-true number view.state.number e) (view.rows number) (kept.stand number)
      by number false e = listed_self (view.rows number)

      meets : (home : Home) (b : Bool) → OwesMeeting view (switch view) home (cond b Dropped Stays)
      meets home true = tt
      meets home false = λ h. h

-- ---- replacing

any_from : (strong weak : Homed → Bool) → ((r : Homed) → strong r ≡ true → weak r ≡ true) → (rows : List Homed) → list_any strong rows ≡ true → list_any weak rows ≡ true
any_from strong weak so [] h = cc
any_from strong weak so (r ∷ rows) h = by (strong r) refl h (any_from strong weak so rows)
  where
    by : (t : Bool) → strong r ≡ t → (t || list_any strong rows) ≡ true → (list_any strong rows ≡ true → list_any weak rows ≡ true) → (weak r || list_any weak rows) ≡ true
    by true e h rest = or_left (weak r) (list_any weak rows) (so r e)
    by false e h rest = or_right (weak r) (list_any weak rows) (rest h)

all_mapped : (g : Homed → Homed) (strong weak : Homed → Bool) → ((r : Homed) → strong r ≡ true → weak (g r) ≡ true) → (rows : List Homed) → list_all strong rows ≡ true → list_all weak (map g rows) ≡ true
all_mapped g strong weak so [] h = refl
all_mapped g strong weak so (r ∷ rows) h =
    let p = and_parts (strong r) (list_all strong rows) h in and_from (weak (g r)) (list_all weak (map g rows)) (so r p.0) (all_mapped g strong weak so rows p.1)

any_mapped : (g : Homed → Homed) → ((r : Homed) → (g r).addr ≡ r.addr) → (rows : List Homed) (addr : ℕ) → is_met rows addr ≡ true → is_met (map g rows) addr ≡ true
any_mapped g same [] addr h = cc
any_mapped g same (r ∷ rows) addr h = by (r.addr == addr) refl h (any_mapped g same rows addr)
  where
    by : (t : Bool) → (r.addr == addr) ≡ t → (t || is_met rows addr) ≡ true → (is_met rows addr ≡ true → is_met (map g rows) addr ≡ true) → ((g r).addr == addr || is_met (map g rows) addr) ≡ true
    by true e h rest = or_left ((g r).addr == addr) (is_met (map g rows) addr) (ap (λ a. a == addr) (same r) ∙ e)
    by false e h rest = or_right ((g r).addr == addr) (is_met (map g rows) addr) (rest h)

pairs_mapped : (g : Homed → Homed) → ((r : Homed) → (g r).addr ≡ r.addr) → (rows : List Homed) → all_pairs (λ a b. not (a.addr == b.addr)) rows ≡ true → all_pairs (λ (a b : Homed). not (a.addr == b.addr)) (map g rows) ≡ true
pairs_mapped g same [] h = refl
pairs_mapped g same (r ∷ rows) h =
    let p = and_parts (list_all (λ b. not (r.addr == b.addr)) rows) (all_pairs (λ a b. not (a.addr == b.addr)) rows) h in
    and_from (list_all (λ b. not ((g r).addr == b.addr)) (map g rows)) (all_pairs (λ a b. not (a.addr == b.addr)) (map g rows))
    (all_mapped g (λ b. not (r.addr == b.addr)) (λ b. not ((g r).addr == b.addr)) (λ b k. (λ i. not (same r i == same b i)) ∙ k) rows p.0) (pairs_mapped g same rows p.1)

module _ (view : View) (kept : RowsStand view) where
  replace : (home : Home) (content : List ℕ) → RowsFollow view (replacement view home content (replaced_rows view home content))
  replace home content = record {
    each = λ number.
        all_mapped (renewed number) (λ r. is_listed (view.rows number) r.addr r.row) (λ r. row_follows view number r (cond (same_home (home_of number r) home) (Rewritten content) Stays))
        (λ r listed. follows number r (same_home (home_of number r) home) refl listed) (view.rows number) (listed_self (view.rows number));
    met = λ h. meets h (same_home h home);
    once = λ number. pairs_mapped (renewed number) (λ r. same_addr r (same_home (home_of number r) home)) (view.rows number) (kept.once number);
  }
    where
      renewed : ℕ → Homed → Homed
      renewed number r = cond (same_home (home_of number r) home) (record r { row = with_content r.row content }) r

      same_addr : (r : Homed) (b : Bool) → (cond b (record r { row = with_content r.row content }) r).addr ≡ r.addr
      same_addr r true = refl
      same_addr r false = refl

      meets : (h : Home) (b : Bool) → OwesMeeting view (replacement view home content (replaced_rows view home content)) h (cond b (Rewritten content) Stays)
      meets h true = any_mapped (renewed h.number) (λ r. same_addr r (same_home (home_of h.number r) home)) (view.rows h.number) h.addr
      meets h false = any_mapped (renewed h.number) (λ r. same_addr r (same_home (home_of h.number r) home)) (view.rows h.number) h.addr

      follows : (number : ℕ) (r : Homed) (b : Bool) → same_home (home_of number r) home ≡ b → is_listed (view.rows number) r.addr r.row ≡ true
          → row_follows view number (cond b (record r { row = with_content r.row content }) r)
          (cond (same_home (home_of number (cond b (record r { row = with_content r.row content }) r)) home) (Rewritten content) Stays)
          ≡ true
      follows number r true e listed =
          let named = λ (o : Homed). o.addr == r.addr && o.row.code == r.row.code && same_name o.row.name r.row.name in
          subst (λ (t : Bool). row_follows view number (record r { row = with_content r.row content }) (cond t (Rewritten content) Stays) ≡ true) (sym e)
          (and_from (is_met (view.rows number) r.addr && bytes_eq content content) (list_any named (view.rows number))
          (and_from (is_met (view.rows number) r.addr) (bytes_eq content content)
          (any_from (λ o. o.addr == r.addr && is_alike o.row r.row) (λ o. o.addr == r.addr) (λ o k. (and_parts (o.addr == r.addr) (is_alike o.row r.row) k).0) (view.rows number) listed) ((bytes_eq-Decides content content).1 refl))
          (any_from (λ o. o.addr == r.addr && is_alike o.row r.row) named
          (λ o k.
          (let p = and_parts (o.addr == r.addr) (is_alike o.row r.row) k in
          let q = and_parts (o.row.code == r.row.code && same_name o.row.name r.row.name) (bytes_eq o.row.content r.row.content) p.1 in
          let n = and_parts (o.row.code == r.row.code) (same_name o.row.name r.row.name) q.0 in
          and_from (o.addr == r.addr && o.row.code == r.row.code) (same_name o.row.name r.row.name) (and_from (o.addr == r.addr) (o.row.code == r.row.code) p.0 n.0) n.1)) (view.rows number) listed))
      follows number r false e listed = subst (λ (t : Bool). row_follows view number r (cond t (Rewritten content) Stays) ≡ true) (sym e) listed

-- ---- inserting

all_both : (p q t : Homed → Bool) → ((r : Homed) → p r ≡ true → q r ≡ true → t r ≡ true) → (rows : List Homed) → list_all p rows ≡ true → list_all q rows ≡ true → list_all t rows ≡ true
all_both p q t so [] h k = refl
all_both p q t so (r ∷ rows) h k =
    let a = and_parts (p r) (list_all p rows) h in
    let b = and_parts (q r) (list_all q rows) k in
    and_from (t r) (list_all t rows) (so r a.0 b.0) (all_both p q t so rows a.1 b.1)

all_with : (p : Homed → Bool) (front back : List Homed) (row : Homed) → list_all p (front ++ back) ≡ true → p row ≡ true → list_all p (front ++ row ∷ back) ≡ true
all_with p [] back row h here = and_from (p row) (list_all p back) here h
all_with p (r ∷ front) back row h here = let a = and_parts (p r) (list_all p (front ++ back)) h in and_from (p r) (list_all p (front ++ row ∷ back)) a.0 (all_with p front back row a.1 here)

any_with : (p : Homed → Bool) (front back : List Homed) (row : Homed) → (list_any p (front ++ back) ≡ true) ⊎ (p row ≡ true) → list_any p (front ++ row ∷ back) ≡ true
any_with p [] back row (inl h) = or_right (p row) (list_any p back) h
any_with p [] back row (inr h) = or_left (p row) (list_any p back) h
any_with p (r ∷ front) back row (inl h) = by (p r) h (λ k. any_with p front back row (inl k))
  where
    by : (t : Bool) → (t || list_any p (front ++ back)) ≡ true → (list_any p (front ++ back) ≡ true → list_any p (front ++ row ∷ back) ≡ true) → (t || list_any p (front ++ row ∷ back)) ≡ true
    by true h rest = refl
    by false h rest = rest h
any_with p (r ∷ front) back row (inr h) = or_right (p r) (list_any p (front ++ row ∷ back)) (any_with p front back row (inr h))

turned_apart : (a b : ℕ) → not (a == b) ≡ true → not (b == a) ≡ true
turned_apart a b h = by (b == a) refl
  where
    by : (t : Bool) → (b == a) ≡ t → not t ≡ true
    by false e = refl
    by true e = let same : (a == b) ≡ true = eq-eqb a b (sym (eqb-true b a e)) in let no_ : not true ≡ true = sym (ap not same) ∙ h in cc

pairs_with : (front back : List Homed) (row : Homed) → all_pairs (λ a b. not (a.addr == b.addr)) (front ++ back) ≡ true → list_all (λ r. not (r.addr == row.addr)) (front ++ back) ≡ true
    → all_pairs (λ (a b : Homed). not (a.addr == b.addr)) (front ++ row ∷ back) ≡ true
pairs_with [] back row h apart =
    and_from (list_all (λ b. not (row.addr == b.addr)) back) (all_pairs (λ a b. not (a.addr == b.addr)) back)
    (all_weaker (λ r. not (r.addr == row.addr)) (λ b. not (row.addr == b.addr)) (λ r k. turned_apart r.addr row.addr k) back apart) h
pairs_with (r ∷ front) back row h apart =
    let p = and_parts (list_all (λ b. not (r.addr == b.addr)) (front ++ back)) (all_pairs (λ a b. not (a.addr == b.addr)) (front ++ back)) h in
    let q = and_parts (not (r.addr == row.addr)) (list_all (λ r. not (r.addr == row.addr)) (front ++ back)) apart in
    and_from (list_all (λ b. not (r.addr == b.addr)) (front ++ row ∷ back)) (all_pairs (λ a b. not (a.addr == b.addr)) (front ++ row ∷ back))
    (all_with (λ b. not (r.addr == b.addr)) front back row p.0 q.0) (pairs_with front back row p.1 q.1)

apart_numbers : (number other : ℕ) → (number == other) ≡ false → number ≢ other
apart_numbers number other e at = let no_ : true ≡ false = sym (eq-eqb number other at) ∙ e in cc

module _ (view : View) (kept : RowsStand view) (home : Home) (s : Segment) (rows : ℕ → List Homed) (free : view.segments home ≡ None) (g : GoesIn view home s rows) where
  -- no row stands at the home
  elsewhere : (number : ℕ) (r : Homed) → stands_in view number r ≡ true → same_home (home_of number r) home ≡ false
  elsewhere number r h = by (same_home (home_of number r) home) refl
    where
      by : (t : Bool) → same_home (home_of number r) home ≡ t → t ≡ false
      by false e = refl
      by true e =
          let a = at_row view number r.addr r h refl in
          let none : Some a.s ≡ None = sym a.here ∙ ap view.segments (home_is (home_of number r) home e) ∙ free in
          cc

  old_follow : (number : ℕ) → list_all (λ r. row_follows view number r (cond (same_home (home_of number r) home) (Fresh s) Stays)) (view.rows number) ≡ true
  old_follow number =
      all_both (stands_in view number) (λ r. is_listed (view.rows number) r.addr r.row) (λ r. row_follows view number r (cond (same_home (home_of number r) home) (Fresh s) Stays))
      (λ r stand listed. subst (λ (t : Bool). row_follows view number r (cond t (Fresh s) Stays) ≡ true) (sym (elsewhere number r stand)) listed) (view.rows number) (kept.stand number) (listed_self (view.rows number))

  new_follows : row_follows view home.number g.row (cond (same_home (home_of home.number g.row) home) (Fresh s) Stays) ≡ true
  new_follows =
      let here : same_home (home_of home.number g.row) home ≡ true = ap (λ a. same_home (record { number = home.number; addr = a }) home) g.at ∙ home_itself home in
      subst (λ (t : Bool). row_follows view home.number g.row (cond t (Fresh s) Stays) ≡ true) (sym here) g.segment

  apart_from : list_all (λ r. not (r.addr == g.row.addr)) (view.rows home.number) ≡ true
  apart_from =
      all_weaker (stands_in view home.number) (λ r. not (r.addr == g.row.addr)) (λ r stand. differs r stand (r.addr == g.row.addr) refl) (view.rows home.number) (kept.stand home.number)
    where
      differs : (r : Homed) → stands_in view home.number r ≡ true → (t : Bool) → (r.addr == g.row.addr) ≡ t → not t ≡ true
      differs r stand false e = refl
      differs r stand true e =
          let at : r.addr ≡ home.addr = eqb-true r.addr g.row.addr e ∙ g.at in
          let here : same_home (home_of home.number r) home ≡ true = ap (λ a. same_home (record { number = home.number; addr = a }) home) at ∙ home_itself home in
          let no_ : true ≡ false = sym here ∙ elsewhere home.number r stand in
          cc

  insert : RowsFollow view (insertion view home s rows)
  insert = record {
    each = λ number. each number (number == home.number) refl;
    met = λ h. met h (same_home h home) refl;
    once = λ number. once number (number == home.number) refl;
  }
    where
      each : (number : ℕ) (b : Bool) → (number == home.number) ≡ b → list_all (λ r. row_follows view number r (cond (same_home (home_of number r) home) (Fresh s) Stays)) (rows number) ≡ true
      each number true e =
          let P = λ (n : ℕ). λ (r : Homed). row_follows view n r (cond (same_home (home_of n r) home) (Fresh s) Stays) in
          subst (λ (n : ℕ). list_all (P n) (rows n) ≡ true) (sym (eqb-true number home.number e))
          (subst (λ (l : List Homed). list_all (P home.number) l ≡ true) (sym g.now)
          (all_with (P home.number) g.front g.back g.row (subst (λ (l : List Homed). list_all (P home.number) l ≡ true) g.was (old_follow home.number)) new_follows))
      each number false e =
          subst (λ (l : List Homed). list_all (λ r. row_follows view number r (cond (same_home (home_of number r) home) (Fresh s) Stays)) l ≡ true) (sym (g.others number (apart_numbers number home.number e))) (old_follow number)

      grows : (number addr : ℕ) (b : Bool) → (number == home.number) ≡ b → is_met (view.rows number) addr ≡ true → is_met (rows number) addr ≡ true
      grows number addr true e h =
          subst (λ (n : ℕ). is_met (rows n) addr ≡ true) (sym (eqb-true number home.number e))
          (subst (λ (l : List Homed). is_met l addr ≡ true) (sym g.now)
          (any_with (λ r. r.addr == addr) g.front g.back g.row
          (inl (subst (λ (l : List Homed). is_met l addr ≡ true) g.was (subst (λ (n : ℕ). is_met (view.rows n) addr ≡ true) (eqb-true number home.number e) h)))))
      grows number addr false e h = subst (λ (l : List Homed). is_met l addr ≡ true) (sym (g.others number (apart_numbers number home.number e))) h

      met : (h : Home) (b : Bool) → same_home h home ≡ b → OwesMeeting view (insertion view home s rows) h (cond b (Fresh s) Stays)
      met h true e =
          subst (λ (x : Home). is_met (rows x.number) x.addr ≡ true) (sym (home_is h home e))
          (subst (λ (l : List Homed). is_met l home.addr ≡ true) (sym g.now) (any_with (λ r. r.addr == home.addr) g.front g.back g.row (inr (eq-eqb g.row.addr home.addr g.at))))
      met h false e = grows h.number h.addr (h.number == home.number) refl

      once : (number : ℕ) (b : Bool) → (number == home.number) ≡ b → all_pairs (λ a b. not (a.addr == b.addr)) (rows number) ≡ true
      once number true e =
          subst (λ (n : ℕ). all_pairs (λ (a b : Homed). not (a.addr == b.addr)) (rows n) ≡ true) (sym (eqb-true number home.number e))
          (subst (λ (l : List Homed). all_pairs (λ (a b : Homed). not (a.addr == b.addr)) l ≡ true) (sym g.now)
          (pairs_with g.front g.back g.row (subst (λ (l : List Homed). all_pairs (λ (a b : Homed). not (a.addr == b.addr)) l ≡ true) g.was (kept.once home.number))
          (subst (λ (l : List Homed). list_all (λ r. not (r.addr == g.row.addr)) l ≡ true) g.was apart_from)))
      once number false e = subst (λ (l : List Homed). all_pairs (λ (a b : Homed). not (a.addr == b.addr)) l ≡ true) (sym (g.others number (apart_numbers number home.number e))) (kept.once number)

-- ---- a unit

-- the homes of a move
record Moves (view : View) (m : Move) : Type 0 where
  from : m.from.number ≡ view.state.number
  to : m.to.number ≡ view.state.number + 1

moves_of : (view : View) (m : Move) → may_move view m ≡ true → Moves view m
moves_of view m h =
    let stands = option_map_or (λ s. not s.copied) (view.segments m.from) false in
    let a = and_parts (m.from.number == view.state.number && m.to.number == view.state.number + 1 && stands) (is_none (view.segments m.to)) h in
    let b = and_parts (m.from.number == view.state.number && m.to.number == view.state.number + 1) stands a.0 in
    let c = and_parts (m.from.number == view.state.number) (m.to.number == view.state.number + 1) b.0 in
    record { from = eqb-true m.from.number view.state.number c.0; to = eqb-true m.to.number (view.state.number + 1) c.1 }

-- a home that no move leaves, in no generation to which moves lead, stays
stays_unmoved : (view : View) (moves : List Move) → list_all (may_move view) moves ≡ true → (home : Home) → home.number ≢ view.state.number + 1 → is_moved moves home ≡ false → fate_in moves home ≡ Stays
stays_unmoved view [] each home other unmoved = refl
stays_unmoved view (m ∷ moves) each home other unmoved =
    let p = and_parts (may_move view m) (list_all (may_move view) moves) each in
    let u = or_parts (same_home home m.from) (is_moved moves home) unmoved in
    let mm = moves_of view m p.0 in
    let away : same_home home m.to ≡ false = numbers_differ home m.to (λ e. other (e ∙ mm.to)) in
    ap (λ (b : Bool). cond b (Left m.to) (cond (same_home home m.to) (Moved m.from) (fate_in moves home))) u.0
    ∙ ap (λ (b : Bool). cond b (Moved m.from) (fate_in moves home)) away
    ∙ stays_unmoved view moves p.1 home other u.1

-- no move leaves a home of another generation than the input
unmoved_elsewhere : (view : View) (moves : List Move) → list_all (may_move view) moves ≡ true → (home : Home) → home.number ≢ view.state.number → is_moved moves home ≡ false
unmoved_elsewhere view [] each home other = refl
unmoved_elsewhere view (m ∷ moves) each home other =
    let p = and_parts (may_move view m) (list_all (may_move view) moves) each in
    let mm = moves_of view m p.0 in
    or_from (same_home home m.from) (is_moved moves home) (numbers_differ home m.from (λ e. other (e ∙ mm.from))) (unmoved_elsewhere view moves p.1 home other)

unmoved_of : (b : Bool) → not b ≡ true → b ≡ false
unmoved_of true h = cc
unmoved_of false h = refl

-- a home from which nothing moves is met as before, and one to which something moves is met
meets_moved : (view : View) (d : Delta) (moves : List Move) → list_all (may_move view) moves ≡ true → list_all (λ m. is_met (d.rows (view.state.number + 1)) m.to.addr) moves ≡ true → (home : Home)
    → (is_moved moves home ≡ false → is_met (view.rows home.number) home.addr ≡ true → is_met (d.rows home.number) home.addr ≡ true) → OwesMeeting view d home (fate_in moves home)
meets_moved view d [] each come home grow = grow refl
meets_moved view d (m ∷ moves) each come home grow =
    let p = and_parts (may_move view m) (list_all (may_move view) moves) each in
    let q = and_parts (is_met (d.rows (view.state.number + 1)) m.to.addr) (list_all (λ m. is_met (d.rows (view.state.number + 1)) m.to.addr) moves) come in
    by (same_home home m.from) (same_home home m.to) refl refl q.0 (moves_of view m p.0)
    (λ e. meets_moved view d moves p.1 q.1 home (λ u. grow (or_from (same_home home m.from) (is_moved moves home) e u)))
  where
    by : (a b : Bool) → same_home home m.from ≡ a → same_home home m.to ≡ b → is_met (d.rows (view.state.number + 1)) m.to.addr ≡ true → Moves view m
        → (same_home home m.from ≡ false → OwesMeeting view d home (fate_in moves home)) → OwesMeeting view d home (cond a (Left m.to) (cond b (Moved m.from) (fate_in moves home)))
    by true b e f met mm rest = tt
    by false true e f met mm rest =
        subst (λ (h : Home). is_met (d.rows h.number) h.addr ≡ true) (sym (home_is home m.to f)) (subst (λ (n : ℕ). is_met (d.rows n) m.to.addr ≡ true) (sym mm.to) met)
    by false false e f met mm rest = rest e

module _ (view : View) (kept : RowsStand view) (moves : List Move) (rows : ℕ → List Homed) (c : RowsAreCopied view moves rows) where
  follows_at : (number : ℕ) (a b : Bool) → (number == view.state.number) ≡ a → (number == view.state.number + 1) ≡ b → list_all (λ r. row_follows view number r (fate_in moves (home_of number r))) (rows number) ≡ true
  follows_at number true b e f =
      subst (λ (n : ℕ). list_all (λ r. row_follows view n r (fate_in moves (home_of n r))) (rows n) ≡ true) (sym (eqb-true number view.state.number e))
      (subst (λ (l : List Homed). list_all (λ r. row_follows view view.state.number r (fate_in moves (home_of view.state.number r))) l ≡ true) (sym c.input)
      (all_filtered (λ r. not (is_moved moves (home_of view.state.number r))) (λ r. is_listed (view.rows view.state.number) r.addr r.row)
      (λ r. row_follows view view.state.number r (fate_in moves (home_of view.state.number r)))
      (λ r keep listed.
      subst (λ (f : Fate). row_follows view view.state.number r f ≡ true)
      (sym (stays_unmoved view moves c.each (home_of view.state.number r) (λ x. absurd (omega (arith, x))) (unmoved_of (is_moved moves (home_of view.state.number r)) keep))) listed)
      (view.rows view.state.number) (listed_self (view.rows view.state.number))))
  follows_at number false true e f =
      subst (λ (n : ℕ). list_all (λ r. row_follows view n r (fate_in moves (home_of n r))) (rows n) ≡ true) (sym (eqb-true number (view.state.number + 1) f)) c.output
  follows_at number false false e f =
      let out = apart_numbers number view.state.number e in
      let off = apart_numbers number (view.state.number + 1) f in
      subst (λ (l : List Homed). list_all (λ r. row_follows view number r (fate_in moves (home_of number r))) l ≡ true) (sym (c.others number out off))
      (all_weaker (λ r. is_listed (view.rows number) r.addr r.row) (λ r. row_follows view number r (fate_in moves (home_of number r)))
      (λ r listed.
      subst (λ (f : Fate). row_follows view number r f ≡ true)
      (sym (stays_unmoved view moves c.each (home_of number r) off (unmoved_elsewhere view moves c.each (home_of number r) out))) listed) (view.rows number) (listed_self (view.rows number)))

  grows : (home : Home) (a b : Bool) → (home.number == view.state.number) ≡ a → (home.number == view.state.number + 1) ≡ b → is_moved moves home ≡ false
      → is_met (view.rows home.number) home.addr ≡ true → is_met (rows home.number) home.addr ≡ true
  grows home true b e f unmoved h =
      let at = eqb-true home.number view.state.number e in
      subst (λ (n : ℕ). is_met (rows n) home.addr ≡ true) (sym at)
      (subst (λ (l : List Homed). is_met l home.addr ≡ true) (sym c.input)
      (any_filtered (λ r. not (is_moved moves (home_of view.state.number r))) (λ r. r.addr == home.addr)
      (λ r here.
      (let same : is_moved moves (home_of view.state.number r) ≡ false =
      (λ i. is_moved moves (record { number = sym at i; addr = eqb-true r.addr home.addr here i })) ∙ unmoved in
      not_from_false (is_moved moves (home_of view.state.number r)) same)) (view.rows view.state.number)
      (subst (λ (n : ℕ). is_met (view.rows n) home.addr ≡ true) at h)))
  grows home false true e f unmoved h =
      let at = eqb-true home.number (view.state.number + 1) f in
      subst (λ (n : ℕ). is_met (rows n) home.addr ≡ true) (sym at) (c.stay home.addr (subst (λ (n : ℕ). is_met (view.rows n) home.addr ≡ true) at h))
  grows home false false e f unmoved h =
      subst (λ (l : List Homed). is_met l home.addr ≡ true) (sym (c.others home.number (apart_numbers home.number view.state.number e) (apart_numbers home.number (view.state.number + 1) f))) h

  once_at : (number : ℕ) (a b : Bool) → (number == view.state.number) ≡ a → (number == view.state.number + 1) ≡ b → all_pairs (λ a b. not (a.addr == b.addr)) (rows number) ≡ true
  once_at number true b e f =
      subst (λ (n : ℕ). all_pairs (λ (a b : Homed). not (a.addr == b.addr)) (rows n) ≡ true) (sym (eqb-true number view.state.number e))
      (subst (λ (l : List Homed). all_pairs (λ (a b : Homed). not (a.addr == b.addr)) l ≡ true) (sym c.input)
      (pairs_filtered (λ r. not (is_moved moves (home_of view.state.number r))) (λ a b. not (a.addr == b.addr)) (view.rows view.state.number) (kept.once view.state.number)))
  once_at number false true e f = subst (λ (n : ℕ). all_pairs (λ (a b : Homed). not (a.addr == b.addr)) (rows n) ≡ true) (sym (eqb-true number (view.state.number + 1) f)) c.once
  once_at number false false e f =
      subst (λ (l : List Homed). all_pairs (λ (a b : Homed). not (a.addr == b.addr)) l ≡ true)
      (sym (c.others number (apart_numbers number view.state.number e) (apart_numbers number (view.state.number + 1) f))) (kept.once number)

  copy : (is_target : ℕ → Bool) (cursor : Cursor) → RowsFollow view (unit is_target view moves cursor rows)
  copy is_target cursor = record {
    each = λ number. follows_at number (number == view.state.number) (number == view.state.number + 1) refl refl;
    met = λ home.
        meets_moved view (unit is_target view moves cursor rows) moves c.each c.come home (grows home (home.number == view.state.number) (home.number == view.state.number + 1) refl refl);
    once = λ number. once_at number (number == view.state.number) (number == view.state.number + 1) refl refl;
  }

pub events_move_rows : EventsMoveRows
events_move_rows view kept = record {
  turn = turn view kept;
  insert = insert view kept;
  replace = replace view kept;
  delete = delete view kept;
  switched = switched view kept;
  copy = λ is_target moves cursor rows c. copy view kept moves rows c is_target cursor;
}
