-- Where a scan from a place passes over what is below an element on the path to the place.
use Rattle.std.proofs.Common.{◌≡◌, ℕ, zero, suc, ◌+◌, ◌<◌, ◌≤◌, Bool, true, false, not, cond, ◌&&◌, List, [], ◌∷◌, ◌++◌, length, Option, None, Some, refl, sym, ap, subst, ◌∙◌, arith}
use Rattle.std.specs.Prelude.{nat_le, nat_lt, find, All}
use Rattle.std.specs.List.{last_or, list_all}
use Rattle.std.specs.Option.{option_map_or}
use Rattle.std.specs.Str.{bytes_eq}
use Rattle.std.proofs.lemmas.Bool.{and_from, and_parts, ltb-true, lt-ltb, le-ltb, leb-true, lt-leb}
use Rattle.std.proofs.lemmas.List.{append_assoc, append_cancel_right, append-nil}
use Rattle.std.proofs.lemmas.List.Elements.{All-filter, filter-append}
use Rattle.std.proofs.lemmas.List.Folds.{list_all-append}
use Rattle.hal_schema.specs.declared.schema.Schema.{Schema}
use Rattle.hal_schema.specs.Facts.{IsKept}
use Rattle.hal_schema.specs.Paths.{path_with, path_after, with_paths}
use Rattle.call_text.specs.declared.line.Ssa.{Ssa}
use Rattle.position_state.specs.declared.session.Anchor.{Anchor}
use Rattle.position_state.specs.declared.session.Anchor.TheVariants.{Front, At}
use Rattle.position_state.specs.declared.spot.Spot.{Spot}
use Rattle.position_state.specs.View.{before, behind, is_place_of, root_named}
use Rattle.position_state.specs.Looks.{found_at, past}
use Rattle.dli_calls.specs.Gets.{OnPath, paths_behind}
use Rattle.dli_calls.specs.Meets.{meets, on_paths}
use Rattle.view_laws.specs.Views.{goes_down}
use Rattle.call_gets.specs.Passed.{all_lead, is_on_way, leads, passed, passed_from}
use Rattle.call_gets.specs.Scan.{AllGoDown, AreFound, IsFound, IsPath, first_inside, from_on, met_behind, met_from, path_of}
use Rattle.call_gets.proofs.Finding.{down_at, paths_are}
use Rattle.call_gets.proofs.Leading.{closed_off}
use Rattle.call_gets.proofs.Moving.{path_low}
use Rattle.call_gets.proofs.Passing.{count, skip_fewer}
use Rattle.call_gets.proofs.Routing.{Climbed, IsUp, climb, kept_over, path_at, routed}
use Rattle.call_gets.proofs.Skipping.{level, kept, kept_low, kept_none, all_on, skip, skip_all}
use Rattle.call_gets.proofs.Judging.{found_is}
use Rattle.call_gets.proofs.Stepping.{Differ, Passed, ends_any, place_of_found, passed as passes}

-- ---- lists by their last element

data Ended (xs : List Spot) : Type 0 where
  Bare : xs ≡ [] → Ended xs
  Tailed : (front : List Spot) (last : Spot) → xs ≡ front ++ last ∷ [] → Ended xs

ended : (xs : List Spot) → Ended xs
ended [] = Bare refl
ended (x ∷ xs) = by (ended xs)
  where
    by : Ended xs → Ended (x ∷ xs)
    by (Bare e) = Tailed [] x (ap (λ (ys : List Spot). x ∷ ys) e)
    by (Tailed front last e) = Tailed (x ∷ front) last (ap (λ (ys : List Spot). x ∷ ys) e)

last_is : (o : Option Spot) (xs : List Spot) (x : Spot) → last_or o (xs ++ x ∷ []) ≡ Some x
last_is o [] x = refl
last_is o (y ∷ ys) x = last_is (Some y) ys x

record SameEnd (xs ys : List Spot) (x y : Spot) : Type 0 where
  front : xs ≡ ys
  last : x ≡ y

same_end : (xs ys : List Spot) (x y : Spot) → xs ++ x ∷ [] ≡ ys ++ y ∷ [] → SameEnd xs ys x y
same_end xs ys x y e =
    let o : Some x ≡ Some y = sym (last_is None xs x) ∙ ap (λ (zs : List Spot). last_or None zs) e ∙ last_is None ys y in
    let l : x ≡ y = cc in
    record { front = append_cancel_right xs ys (y ∷ []) (ap (λ (t : Spot). xs ++ t ∷ []) (sym l) ∙ e); last = l }

length_end : (xs : List Spot) (x : Spot) → length (xs ++ x ∷ []) ≡ length xs + 1
length_end [] x = refl
length_end (y ∷ ys) x = let rest = length_end ys x in omega (arith, rest)

not_bare : (xs : List Spot) (x : Spot) (ys : List Spot) → [] ≡ xs ++ x ∷ ys → ⊥
not_bare [] x ys e = let no : ⊥ = cc in no
not_bare (z ∷ xs) x ys e = let no : ⊥ = cc in no

-- ---- levels

deeper_still : (a b : ℕ) (xs : List Spot) → a < b → list_all (λ x. nat_lt b x.level) xs ≡ true → list_all (λ x. nat_lt a x.level) xs ≡ true
deeper_still a b [] lt h = refl
deeper_still a b (x ∷ xs) lt h =
    let p = and_parts (nat_lt b x.level) (list_all (λ x. nat_lt b x.level) xs) h in
    and_from (nat_lt a x.level) (list_all (λ x. nat_lt a x.level) xs) (lt-ltb a x.level (omega (arith, lt, ltb-true b x.level p.0))) (deeper_still a b xs lt p.1)

deeper_from : (a b : ℕ) (xs : List Spot) → a < b → list_all (λ x. nat_le b x.level) xs ≡ true → list_all (λ x. nat_lt a x.level) xs ≡ true
deeper_from a b [] lt h = refl
deeper_from a b (x ∷ xs) lt h =
    let p = and_parts (nat_le b x.level) (list_all (λ x. nat_le b x.level) xs) h in
    and_from (nat_lt a x.level) (list_all (λ x. nat_lt a x.level) xs) (lt-ltb a x.level (omega (arith, lt, leb-true b x.level p.0))) (deeper_from a b xs lt p.1)

-- ---- an element on the path to a place: all that stands from it to the place is deeper

record OnRoute (view : List Spot) (at : Anchor) (low : Spot) : Type 0 where
  items : List Spot
  front : List Spot
  mid : List Spot
  path : path_of at view ≡ path_at view low ++ items
  split : view ≡ front ++ low ∷ (mid ++ behind at view)
  deeper : list_all (λ x. nat_lt low.level x.level) mid ≡ true
  below : list_all (λ x. nat_lt low.level x.level) items ≡ true

begins : (view : List Spot) (at : Anchor) (s : Spot) → Differ view → found_at at view ≡ Some s → OnRoute view at s
begins view at s d e =
    let r = routed view at s d e in
    record { items = []; front = r.front; mid = []; path = r.path ∙ sym (append-nil (path_at view s)); split = r.split; deeper = refl; below = refl }

-- what stands before an element, and the path that it leads
abbrev over_it : List Spot → Spot → List Spot
over_it view low = kept low.level (path_after level [] (before low.at view))

record Rise (view : List Spot) (at : Anchor) (low up : Spot) : Type 0 where
  route : OnRoute view at up
  same : over_it view low ≡ path_at view up

rise : (view : List Spot) (at : Anchor) (low up : Spot) → Differ view → OnRoute view at low → IsUp low.level [] (before low.at view) up → Rise view at low up
rise view at low up d c r =
    let back : List Spot = behind at view in
    let is : c.front ≡ r.first ++ up ∷ r.mid = sym (d c.front (c.mid ++ back) low c.split).precedes ∙ r.is in
    let split : view ≡ r.first ++ up ∷ (r.mid ++ low ∷ (c.mid ++ back)) =
    c.split ∙ ap (λ (ys : List Spot). ys ++ low ∷ (c.mid ++ back)) is ∙ append_assoc r.first (up ∷ r.mid) (low ∷ (c.mid ++ back)) in
    let q = d r.first (r.mid ++ low ∷ (c.mid ++ back)) up split in
    let same : over_it view low ≡ path_at view up = r.same ∙ ap (λ (ys : List Spot). path_with level (path_after level [] ys) up) (sym q.precedes) in
    record {
      route = record {
        items = low ∷ c.items;
        front = r.first;
        mid = r.mid ++ low ∷ c.mid;
        path = c.path ∙ ap (λ (ys : List Spot). (ys ++ low ∷ []) ++ c.items) same ∙ append_assoc (path_at view up) (low ∷ []) c.items;
        split = split ∙ ap (λ (ys : List Spot). r.first ++ up ∷ ys) (sym (append_assoc r.mid (low ∷ c.mid) back));
        deeper = list_all-append (λ (x : Spot). nat_lt up.level x.level) r.mid (low ∷ c.mid)
            ∙ and_from (list_all (λ (x : Spot). nat_lt up.level x.level) r.mid) (nat_lt up.level low.level && list_all (λ (x : Spot). nat_lt up.level x.level) c.mid) (deeper_from up.level low.level r.mid r.high r.over)
            (and_from (nat_lt up.level low.level) (list_all (λ (x : Spot). nat_lt up.level x.level) c.mid) (lt-ltb up.level low.level r.high) (deeper_still up.level low.level c.mid r.high c.deeper));
        below = and_from (nat_lt up.level low.level) (list_all (λ (x : Spot). nat_lt up.level x.level) c.items) (lt-ltb up.level low.level r.high) (deeper_still up.level low.level c.items r.high c.below);
      };
      same = same;
    }

record Reached (view : List Spot) (at : Anchor) (above : List Spot) (e : Spot) : Type 0 where
  route : OnRoute view at e
  path : path_at view e ≡ above ++ e ∷ []

here : (view : List Spot) (at : Anchor) (above more : List Spot) (e low : Spot) → OnRoute view at low → path_at view low ≡ above ++ e ∷ more → more ≡ [] → Reached view at above e
here view at above more e low c p bare =
    let there : path_at view low ≡ above ++ e ∷ [] = p ∙ ap (λ (ys : List Spot). above ++ e ∷ ys) bare in
    let q = same_end (over_it view low) above low e there in
    subst (λ (t : Spot). path_at view t ≡ above ++ e ∷ [] → OnRoute view at t → Reached view at above e) (sym q.last) (λ k r. record { route = r; path = k }) there c

-- up to an element of the path, from the last one: again for the one above
reach : (n : ℕ) (view : List Spot) (at : Anchor) (above more : List Spot) (e low : Spot) → Differ view → OnRoute view at low → path_at view low ≡ above ++ e ∷ more → length more ≡ n → Reached view at above e
reach zero view at above more e low d c p len = by (ended more)
  where
    by : Ended more → Reached view at above e
    by (Bare bare) = here view at above more e low c p bare
    by (Tailed front last tail) =
        let no : 0 ≡ length front + 1 = sym len ∙ ap (λ (ys : List Spot). length ys) tail ∙ length_end front last in
        absurd (omega (arith, no))
reach (suc k) view at above more e low d c p len = by (ended more) (λ front u r is size. reach k view at above front e u d r is size)
  where
    by : Ended more → ((front : List Spot) (u : Spot) → OnRoute view at u → path_at view u ≡ above ++ e ∷ front → length front ≡ k → Reached view at above e) → Reached view at above e
    by (Bare bare) again = here view at above more e low c p bare
    by (Tailed front last tail) again =
        let q = same_end (over_it view low) (above ++ e ∷ front) low last
        (p ∙ ap (λ (ys : List Spot). above ++ e ∷ ys) tail ∙ sym (append_assoc above (e ∷ front) (last ∷ []))) in
        let size : suc k ≡ length front + 1 = sym len ∙ ap (λ (ys : List Spot). length ys) tail ∙ length_end front last in
        up (last_or None (kept low.level (before low.at view))) (climb low.level [] (before low.at view)) q.front (omega (arith, size))
      where
        up : (o : Option Spot) → Climbed low.level [] (before low.at view) o → over_it view low ≡ above ++ e ∷ front → length front ≡ k → Reached view at above e
        up None r is size = absurd (not_bare above e front (sym r ∙ is))
        up (Some u) r is size = let g = rise view at low u d c r in again front u g.route (sym g.same ∙ is) size

-- ---- what is below such an element is passed over

pub record Left (view : List Spot) (at : Anchor) (above : List Spot) (e : Spot) : Type 0 where
  pub found : IsFound view e
  pub place : is_place_of view e.at ≡ true
  pub more : List Spot
  pub path : path_of at view ≡ (above ++ e ∷ []) ++ more
  pub stays : (l : ℕ) → e.level < l → kept l (above ++ e ∷ []) ≡ above ++ e ∷ []
  pub same : (l : ℕ) → l ≤ e.level → kept l (above ++ e ∷ []) ≡ kept l above
  pub deeper : list_all (λ x. nat_lt e.level x.level) more ≡ true
  pub left : kept e.level (path_of at view) ≡ above
  pub past : past e view ≡ find (λ other. nat_le other.level e.level) (behind at view)

find_over : (m : ℕ) (xs ys : List Spot) → list_all (λ x. nat_lt m x.level) xs ≡ true → find (λ other. nat_le other.level m) (xs ++ ys) ≡ find (λ other. nat_le other.level m) ys
find_over m [] ys h = refl
find_over m (x ∷ xs) ys h =
    let p = and_parts (nat_lt m x.level) (list_all (λ x. nat_lt m x.level) xs) h in
    ap (λ b. cond b (Some x) (find (λ other. nat_le other.level m) (xs ++ ys))) (lt-leb x.level m (ltb-true m x.level p.0)) ∙ find_over m xs ys p.1

pub left : (view : List Spot) (at : Anchor) (above more : List Spot) (e : Spot) → Differ view → is_place_of view at ≡ true → path_of at view ≡ above ++ e ∷ more → Left view at above e
left view Front above more e d h p = absurd (not_bare above e more p)
left view (At name root entry) above more e d h p = by (found_at (At name root entry) view) refl
  where
    at : Anchor
    at = At name root entry

    by : (o : Option Spot) → found_at at view ≡ o → Left view at above e
    by None k = absurd (let no : false ≡ true = ap (λ o. option_map_or (λ (s : Spot). bytes_eq root (root_named s.at)) o false) (sym k) ∙ h in let none : ⊥ = cc in none)
    by (Some s) k =
        let g = reach (length more) view at above more e s d (begins view at s d k) (sym (routed view at s d k).path ∙ p) refl in
        let c = g.route in
        let q = d c.front (c.mid ++ behind at view) e c.split in
        let old : List Spot = path_after level [] (before e.at view) in
        let over : over_it view e ≡ above = (same_end (over_it view e) above e e g.path).front in
        record {
          found = q.found;
          place = q.place;
          more = c.items;
          path = c.path ∙ ap (λ (ys : List Spot). ys ++ c.items) g.path;
          stays = λ l lt. subst (λ (ys : List Spot). kept l ys ≡ ys) g.path (kept_low e.level l (path_at view e) (path_low e old) lt);
          same = λ l le. filter-append (λ (y : Spot). nat_lt y.level l) above (e ∷ []) ∙ ap (λ b. kept l above ++ cond b (e ∷ []) []) (le-ltb e.level l le) ∙ append-nil (kept l above);
          deeper = c.below;
          left = ap (kept e.level) c.path ∙ filter-append (λ (y : Spot). nat_lt y.level e.level) (path_at view e) c.items
              ∙ ap (λ (ys : List Spot). kept e.level (path_at view e) ++ ys) (kept_none e.level e.level c.items c.below (omega arith))
              ∙ append-nil (kept e.level (path_at view e)) ∙ kept_over e.level old e (omega arith) ∙ over;
          past = ap (find (λ other. nat_le other.level e.level)) q.follows ∙ find_over e.level c.mid (behind at view) c.deeper;
        }

-- what is left after that is found and passed
pub record Past (schema : Schema) (view : List Spot) (ssas : List Ssa) (at : Anchor) (above : List Spot) (next : Option Spot) : Type 0 where
  pub met : met_from schema view ssas None above next ≡ met_behind schema ssas None at view
  pub fewer : passed_from schema view ssas above next ≤ passed schema view ssas (paths_behind at (on_paths view))
  pub lead : all_lead schema ssas above ≡ true
  pub found : AreFound view above next
  pub down : AllGoDown schema view above next

pub past_it : (schema : Schema) → IsKept schema → (view : List Spot) (ssas : List Ssa) (at : Anchor) (above : List Spot) (e : Spot) (next : Option Spot) → Differ view → is_place_of view at ≡ true → All (IsFound view) (path_of at view)
    → list_all (λ (p : OnPath). goes_down schema.types None p.0) (on_paths view) ≡ true → Left view at above e → all_lead schema ssas above ≡ true → leads schema ssas e.code ≡ false → next ≡ past e view → Past schema view ssas at above next
past_it schema law view ssas at above e next d h all down l lead off n =
    let test : OnPath → Bool = meets schema None view ssas in
    let way : Spot → Bool = is_on_way schema ssas in
    let goes : List Spot → Bool = goes_down schema.types None in
    let path : List Spot = above ++ e ∷ [] in
    let q : Passed view (behind at view) e.level next = subst (Passed view (behind at view) e.level) (sym (n ∙ l.past)) (passes view (behind at view) e.level d (ends_any view at)) in
    let is : with_paths level (path_of at view) (behind at view) ≡ with_paths level (path ++ l.more) (q.deep ++ from_on view next) =
    ap (λ (ys : List Spot). with_paths level ys (behind at view)) l.path ∙ ap (λ (ys : List Spot). with_paths level (path ++ l.more) ys) q.is in
    let on : all_on goes (with_paths level (path ++ l.more) (q.deep ++ from_on view next)) ≡ true = ap (all_on goes) (sym is) ∙ down_at schema view at d h down in
    let fails = closed_off schema law view ssas above e off in
    let count_is : passed schema view ssas (paths_behind at (on_paths view)) ≡ count way test (with_paths level (path ++ l.more) (q.deep ++ from_on view next)) = ap (passed schema view ssas) (paths_are view at d h) ∙ ap (count way test) is in
    let fewer = skip_fewer way test goes view above path e.level l.more q.deep next l.stays l.same l.deeper q.deeper fails q.high on in
    record {
      met = sym (ap (first_inside None test) is ∙ skip None test goes view above path e.level l.more q.deep next l.stays l.same l.deeper q.deeper (λ x lt. refl) fails q.high on);
      fewer = omega (arith, count_is, fewer);
      lead = lead;
      found = record { along = subst (All (IsFound view)) l.left (All-filter (λ (y : Spot). nat_lt y.level e.level) (IsFound view) (path_of at view) all); ahead = q.found };
      down = skip_all goes view above path e.level l.more q.deep next l.stays l.same l.deeper q.deeper q.high on;
    }

-- ---- the first element of a path that doesn't lead

pub record Off (schema : Schema) (ssas : List Ssa) (path : List Spot) (e : Spot) : Type 0 where
  pub above : List Spot
  pub more : List Spot
  pub is : path ≡ above ++ e ∷ more
  pub lead : all_lead schema ssas above ≡ true
  pub off : leads schema ssas e.code ≡ false

pub off_parts : (schema : Schema) (ssas : List Ssa) (path : List Spot) (e : Spot) → find (λ (s : Spot). not (leads schema ssas s.code)) path ≡ Some e → Off schema ssas path e
off_parts schema ssas [] e k = absurd (let no : ⊥ = cc in no)
off_parts schema ssas (x ∷ xs) e k = by (leads schema ssas x.code) refl (off_parts schema ssas xs e) k
  where
    by : (b : Bool) → leads schema ssas x.code ≡ b → (find (λ (s : Spot). not (leads schema ssas s.code)) xs ≡ Some e → Off schema ssas xs e)
        → cond (not b) (Some x) (find (λ (s : Spot). not (leads schema ssas s.code)) xs) ≡ Some e → Off schema ssas (x ∷ xs) e
    by true h rest k =
        let r = rest k in
        record { above = x ∷ r.above; more = r.more; is = ap (λ (ys : List Spot). x ∷ ys) r.is; lead = and_from (leads schema ssas x.code) (all_lead schema ssas r.above) h r.lead; off = r.off }
    by false h rest k =
        let same : x ≡ e = cc in
        record { above = []; more = xs; is = ap (λ (t : Spot). t ∷ xs) same; lead = refl; off = ap (λ (t : Spot). leads schema ssas t.code) (sym same) ∙ h }

pub all_on_way : (schema : Schema) (ssas : List Ssa) (path : List Spot) → find (λ (s : Spot). not (leads schema ssas s.code)) path ≡ None → all_lead schema ssas path ≡ true
all_on_way schema ssas [] k = refl
all_on_way schema ssas (x ∷ xs) k = by (leads schema ssas x.code) refl (all_on_way schema ssas xs) k
  where
    by : (b : Bool) → leads schema ssas x.code ≡ b → (find (λ (s : Spot). not (leads schema ssas s.code)) xs ≡ None → all_lead schema ssas xs ≡ true)
        → cond (not b) (Some x) (find (λ (s : Spot). not (leads schema ssas s.code)) xs) ≡ None → all_lead schema ssas (x ∷ xs) ≡ true
    by true h rest k = and_from (leads schema ssas x.code) (all_lead schema ssas xs) h (rest k)
    by false h rest k = absurd (let no : ⊥ = cc in no)

pub off_place : (schema : Schema) (view : List Spot) (ssas : List Ssa) (path : List Spot) (e : Spot) → Differ view → All (IsFound view) path → find (λ (s : Spot). not (leads schema ssas s.code)) path ≡ Some e → is_place_of view e.at ≡ true
off_place schema view ssas path e d all k = place_of_found view e d (found_is (IsFound view) (λ (s : Spot). not (leads schema ssas s.code)) path e all k)

-- where a scan leaves the path to a place at its first element that doesn't lead
pub past_from : (schema : Schema) → IsKept schema → (view : List Spot) (ssas : List Ssa) (at : Anchor) (path now : List Spot) (e : Spot) (next : Option Spot) → Differ view → is_place_of view at ≡ true → IsPath view at path
    → list_all (λ (p : OnPath). goes_down schema.types None p.0) (on_paths view) ≡ true → find (λ (s : Spot). not (leads schema ssas s.code)) path ≡ Some e → next ≡ past e view → now ≡ kept e.level path → Past schema view ssas at now next
past_from schema law view ssas at path now e next d h p down k n is =
    let o = off_parts schema ssas path e k in
    let l = left view at o.above o.more e d h (sym p.same ∙ o.is) in
    let same : o.above ≡ now = sym l.left ∙ ap (kept e.level) (sym p.same) ∙ sym is in
    subst (λ (ys : List Spot). Past schema view ssas at ys next) same
    (past_it schema law view ssas at o.above e next d h (subst (All (IsFound view)) p.same p.found) down l o.lead o.off n)
