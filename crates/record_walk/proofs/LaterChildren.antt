-- Twins behind a twin were inserted at their places.
use Rattle.std.proofs.Common.{◌≡◌, ℕ, ◌+◌, ◌<◌, ◌==◌, Bool, true, not, ◌&&◌, ◌||◌, List, [], ◌∷◌, ◌++◌, Option, None, Some, ◌⊎◌, inl, inr, refl, sym, ap, subst, ◌∙◌, arith}
use Rattle.std.specs.Prelude.{slice_index}
use Rattle.std.specs.Cmp.{IsTotalOrder}
use Rattle.std.specs.List.{list_all, list_any, slice_get}
use Rattle.std.specs.Option.{option_map_or}
use Rattle.std.proofs.lemmas.Bool.{and_parts, or_right, or_cases, eq-eqb, eqb-true, not-true, false≢true}
use Rattle.std.proofs.lemmas.List.{append_assoc}
use Rattle.hal_base.specs.declared.place.Ilk.{Ilk}
use Rattle.hal_schema.specs.declared.row.Row.{Row}
use Rattle.hal_schema.specs.declared.schema.Schema.{Schema}
use Rattle.hal_schema.specs.declared.schema.SegType.{SegType}
use Rattle.hal_schema.specs.Facts.{SchemasAreKept}
use Rattle.hal_schema.specs.Forest.{all_pairs, may_follow, in_twin_order, twin_cmp}
use Rattle.hal_schema.specs.Insertion.{inserted, stands_before, is_lower_child, is_twin_before, goes_before, is_first}
use Rattle.hal_schema.specs.Roots.{root_cmp}
use Rattle.hal_schema.specs.Row.{same_parent, is_parent, are_twins}
use Rattle.hal_schema.specs.SegType.{level_of}
use Rattle.segment_blocks.specs.declared.tile.Cell.{Cell}
use Rattle.forest_laws.proofs.Lists.{Among, among_passes, among_append, among_left, among_right, all_append, all_among, pairs_at, pairs_parts}
use Rattle.forest_laws.proofs.Names.{parents_are, apart_names}
use Rattle.record_walk.specs.Tree.{Occurrence, Twins, no_segment, segment, Chains, no_chain, chain, first_of, firsts_of, cell_of, Hangs, child_codes, are_of}
use Rattle.record_walk.specs.Listing.{Placed, placed, list_of, list_in, rows_of}
use Rattle.record_walk.specs.Pointers.{Behind, with_chain, in_home, with_segment}
use Rattle.record_walk.specs.Side.{heads_of, heads_in}
use Rattle.record_walk.specs.Siblings.{row_of, twins_follow, twins_follow_in}
use Rattle.record_walk.specs.Changes.{leads_to}
use Rattle.record_walk.specs.Leads.{stand_so}
use Rattle.record_walk.specs.Named.{IsLastBefore}
use Rattle.record_walk.specs.Spans.{ComesBehind}
use Rattle.record_walk.specs.Firsts.{stays_behind, LaterChildrenAreInserted}
use Rattle.record_walk.proofs.Levels.{Typed, children_level, typed}
use Rattle.record_walk.proofs.Splitting.{Split}
use Rattle.record_walk.proofs.OnLists.{deepens, segment_in as segment_at, is_at, Alone, alone_at, new_twins_stand_behind_spans}
use Rattle.record_walk.proofs.ByName.{new_twins_are_inserted}
use Rattle.record_walk.proofs.Joined.{rows_pass}
use Rattle.record_walk.proofs.Rising.{apart, Named, topped, Topped, parted, not_above, pairs_rows, by_key, by_key_of, pairs_of, keys_of, children_climb, named_roots}
use Rattle.record_walk.proofs.FirstChildren.{all_stay, AtPlace, at_place, off, stranger, Found, rest_passes, more_pass, twins_pass, child_of_level}

-- ---- lists

any_among : {X : Type 0} (test : X → Bool) (xs : List X) → list_any test xs ≡ true → (x : X) × Among x xs × (test x ≡ true)
any_among test [] h = absurd (false≢true h)
any_among {X} test (x ∷ xs) h = by (or_cases (test x) (list_any test xs) h) (any_among test xs)
  where
    by : (test x ≡ true) ⊎ (list_any test xs ≡ true) → (list_any test xs ≡ true → (y : X) × Among y xs × (test y ≡ true)) → (y : X) × Among y (x ∷ xs) × (test y ≡ true)
    by (inl e) rest = (x, inl refl, e)
    by (inr e) rest = let (y, a, f) = rest e in (y, inr a, f)

-- two rows of which this is so
record Pair (test : Row → Row → Bool) (a b : ℕ) (list : List Placed) : Type 0 where
  pub p : Placed
  pub q : Placed
  pub p_in : Among p list
  pub p_at : p.home ≡ a
  pub q_in : Among q list
  pub q_at : q.home ≡ b
  pub so : test p.row q.row ≡ true

pair_of : (test : Row → Row → Bool) (a b : ℕ) (list : List Placed) → stand_so test a b list ≡ true → Pair test a b list
pair_of test a b list h =
    let (p, p_in, e) = any_among (λ (p : Placed). p.home == a && list_any (λ (q : Placed). q.home == b && test p.row q.row) list) list h in
    let f = and_parts (p.home == a) (list_any (λ (q : Placed). q.home == b && test p.row q.row) list) e in
    let (q, q_in, g) = any_among (λ (q : Placed). q.home == b && test p.row q.row) list f.1 in
    let k = and_parts (q.home == b) (test p.row q.row) g in
    record { p = p; q = q; p_in = p_in; p_at = eqb-true p.home a f.0; q_in = q_in; q_at = eqb-true q.home b k.0; so = k.1 }

not_at : (home : ℕ) (p : Placed) (list : List Placed) → list_all (λ q. not (is_at home q)) list ≡ true → Among p list → p.home ≡ home → ⊥
not_at home p list h a e = let passes = among_passes (λ q. not (is_at home q)) p list a h in false≢true (sym (not-true (is_at home p) passes) ∙ eq-eqb p.home home e)

-- a row of a home that is met once is the one
the_one : (front : List Placed) (p : Placed) (rest : List Placed) (q : Placed) → Alone front p rest → Among q (front ++ p ∷ rest) → q.home ≡ p.home → p ≡ q
the_one front p rest q alone a e = by (among_append q front (p ∷ rest) a)
  where
    by : Among q front ⊎ Among q (p ∷ rest) → p ≡ q
    by (inl m) = absurd (not_at p.home q front alone.before m e)
    by (inr (inl same)) = same
    by (inr (inr m)) = absurd (not_at p.home q rest alone.behind m e)

-- two splits at one home are one
record Same (p q : Placed) (xs ys : List Placed) : Type 0 where
  pub row : p ≡ q
  pub rest : xs ≡ ys

first_row : (p q : Placed) (xs ys : List Placed) → p ∷ xs ≡ q ∷ ys → Same p q xs ys
first_row p q xs ys e = record { row = cc; rest = cc }

same_split : (front : List Placed) (p : Placed) (rest other : List Placed) (q : Placed) (more : List Placed) → p.home ≡ q.home → Alone front p rest → Alone other q more → front ++ p ∷ rest ≡ other ++ q ∷ more → Same p q rest more
same_split [] p rest [] q more e a b is = first_row p q rest more is
same_split [] p rest (y ∷ other) q more e a b is =
    let s = first_row p y rest (other ++ q ∷ more) is in
    absurd (not_at q.home p (y ∷ other) b.before (inl (sym s.row)) e)
same_split (x ∷ front) p rest [] q more e a b is =
    let s = first_row x q (front ++ p ∷ rest) more is in
    absurd (not_at p.home q (x ∷ front) a.before (inl s.row) (sym e))
same_split (x ∷ front) p rest (y ∷ other) q more e a b is =
    let s = first_row x y (front ++ p ∷ rest) (other ++ q ∷ more) is in
    same_split front p rest other q more e (record { before = (and_parts (not (is_at p.home x)) (list_all (λ r. not (is_at p.home r)) front) a.before).1; behind = a.behind })
    (record { before = (and_parts (not (is_at q.home y)) (list_all (λ r. not (is_at q.home r)) other) b.before).1; behind = b.behind }) s.rest

-- ---- children of one parent

-- a row with the parent above chains is that of one of their segments
record Head (parent : Option Ilk) (heads : List Occurrence) (p : Placed) : Type 0 where
  pub u : Occurrence
  pub among : Among u heads
  pub is : p ≡ placed parent u

head_of : (parent : Option Ilk) (twins : Twins) → Named parent (list_of parent twins) → (p : Placed) → Among p (list_of parent twins) → p.row.parent ≡ parent → Head parent (heads_of twins) p
head_of parent no_segment n p a e = absurd a
head_of parent (segment s below next) n p (inl same) e = record { u = s; among = inl refl; is = sym same }
head_of parent (segment s below next) n p (inr m) e = by (among_append p (list_in (Some s.name) below) (list_of parent next) m) (λ k. head_of parent next (topped parent s below next n).high p k e)
  where
    by : Among p (list_in (Some s.name) below) ⊎ Among p (list_of parent next) → (Among p (list_of parent next) → Head parent (heads_of next) p) → Head parent (s ∷ heads_of next) p
    by (inl k) rest = absurd (not_above parent s below next n p k e)
    by (inr k) rest = let h = rest k in record { u = h.u; among = inr h.among; is = h.is }

heads_of_chains : (parent : Option Ilk) (chains : Chains) → Named parent (list_in parent chains) → (p : Placed) → Among p (list_in parent chains) → p.row.parent ≡ parent → Head parent (heads_in chains) p
heads_of_chains parent no_chain n p a e = absurd a
heads_of_chains parent (chain twins more) n p a e =
    let d = parted parent (list_of parent twins) (list_in parent more) n in
    by (among_append p (list_of parent twins) (list_in parent more) a) (λ k. head_of parent twins d.front p k e) (λ k. heads_of_chains parent more d.back p k e)
  where
    by : Among p (list_of parent twins) ⊎ Among p (list_in parent more) → (Among p (list_of parent twins) → Head parent (heads_of twins) p) → (Among p (list_in parent more) → Head parent (heads_in more) p) → Head parent (heads_of twins ++ heads_in more) p
    by (inl k) first rest = let h = first k in record { u = h.u; among = among_left h.u (heads_of twins) (heads_in more) h.among; is = h.is }
    by (inr k) first rest = let h = rest k in record { u = h.u; among = among_right h.u (heads_of twins) (heads_in more) h.among; is = h.is }

-- ---- twins up to one of them, and from there on

record HeadAt (schema : Schema) (code : ℕ) (cells : ℕ → Option Cell) (parent : Option Ilk) (u : Occurrence) (twins : Twins) : Type 0 where
  pub before : List Placed
  pub below : Chains
  pub later : Twins
  pub was : list_of parent twins ≡ before ++ list_of parent (segment u below later)
  pub typed : are_of schema.types code (segment u below later) ≡ true
  pub hangs : Hangs cells (segment u below later)
  pub follow : twins_follow schema (segment u below later) ≡ true

head_at : (schema : Schema) (code : ℕ) (cells : ℕ → Option Cell) (parent : Option Ilk) (u : Occurrence) (twins : Twins) → are_of schema.types code twins ≡ true → Hangs cells twins → twins_follow schema twins ≡ true → Among u (heads_of twins)
    → HeadAt schema code cells parent u twins
head_at schema code cells parent u no_segment h hang f a = absurd a
head_at schema code cells parent u (segment s below next) h hang f (inl same) = subst (λ (v : Occurrence). HeadAt schema code cells parent v (segment s below next)) same (record {
  before = [];
  below = below;
  later = next;
  was = refl;
  typed = h;
  hangs = hang;
  follow = f;
})
head_at schema code cells parent u (segment s below next) h hang f (inr a) =
    let low : List Placed = list_in (Some s.name) below in
    let rest = (and_parts (list_all (λ t. may_follow schema (row_of s) (row_of t)) (heads_of next) && twins_follow_in schema below) (twins_follow schema next) f).1 in
    let y = head_at schema code cells parent u next (typed schema.types code s below next h).later (hang.3) rest a in
    record {
      before = placed parent s ∷ (low ++ y.before);
      below = y.below;
      later = y.later;
      was = ap (λ l. placed parent s ∷ (low ++ l)) y.was ∙ ap (λ l. placed parent s ∷ l) (sym (append_assoc low y.before (list_of parent (segment u y.below y.later))));
      typed = y.typed;
      hangs = y.hangs;
      follow = y.follow;
    }

-- ---- the law

regroup : (front : List Placed) (top : Placed) (before pre : List Placed) (p : Placed) (low more rest : List Placed) → front ++ top ∷ ((before ++ ((pre ++ p ∷ low) ++ more)) ++ rest) ≡ (front ++ top ∷ (before ++ pre)) ++ p ∷ (low ++ (more ++ rest))
regroup front top before pre p low more rest =
    ap (λ l. front ++ top ∷ l) (append_assoc before ((pre ++ p ∷ low) ++ more) rest ∙ ap (λ l. before ++ l) (append_assoc (pre ++ p ∷ low) more rest ∙ append_assoc pre (p ∷ low) (more ++ rest))
    ∙ sym (append_assoc before pre (p ∷ (low ++ (more ++ rest)))))
    ∙ sym (append_assoc front (top ∷ (before ++ pre)) (p ∷ (low ++ (more ++ rest))))

pub later_children_are_inserted : SchemasAreKept → ((schema : Schema) → IsTotalOrder (root_cmp schema)) → LaterChildrenAreInserted
later_children_are_inserted kept total schema cells firsts trees above place prior cell new kinds r above_met prior_met names rise stands code so next_stays = done
  where
    types : List SegType
    types = schema.types

    x : Split types cells (level_of types 1) above (λ s below next. segment s below next) None (list_in None trees) (list_in None (in_home above (λ s below next. segment s below next) trees))
    x = segment_at schema (deepens kept schema) cells firsts trees r above above_met (λ s below next. segment s below next)

    name : Option Ilk
    name = Some x.s.name

    own : Typed types x.s.code x.s x.below x.next
    own = typed types x.s.code x.s x.below x.next x.typed

    some_cell : (a b : Cell) → Some a ≡ Some b → a ≡ b
    some_cell a b e = cc

    same : cell_of x.s x.below x.next ≡ cell
    same = some_cell (cell_of x.s x.below x.next) cell (sym (ap cells (sym x.at) ∙ x.hangs.1) ∙ stands)

    at : slice_get (child_codes types x.s.code) place ≡ Some new.code
    at = ap (λ (c : Cell). slice_get (child_codes types c.code) place) same ∙ code

    y : AtPlace schema (level_of types x.s.code + 1) new.code name (λ t. t) (slice_index (firsts_of x.below) place) cells (list_in name x.below) (list_in name (with_chain place (λ t. t) x.below))
    y = at_place schema (level_of types x.s.code + 1) (child_codes types x.s.code) (children_level types (deepens kept schema) x.s.code) (children_climb types x.s.code) name (λ t. t) cells place new.code x.below own.under (x.hangs.2) at

    top : Placed
    top = placed x.parent x.s

    low : List Placed
    low = list_in name x.below

    rest : List Placed
    rest = list_of x.parent x.next ++ x.back

    before : List Placed
    before = list_in name y.before

    twins : List Placed
    twins = list_of name y.twins

    more : List Placed
    more = list_in name y.more

    whole : list_in None trees ≡ x.front ++ top ∷ (low ++ rest)
    whole = x.was ∙ ap (λ l. x.front ++ top ∷ l) (append_assoc low (list_of x.parent x.next) x.back)

    named : Named None (list_in None trees)
    named = named_roots trees names

    apart_rows : all_pairs apart (x.front ++ top ∷ (low ++ rest)) ≡ true
    apart_rows = subst (λ (l : List Placed). all_pairs apart l ≡ true) whole named.differ

    found : Found schema cells new x.parent x.s x.below x.next x.front x.back
    found = record {
      fence = x.fenced named;
      level = child_of_level schema new (level_of types x.s.code + 1) (child_codes types x.s.code) place (children_level types (deepens kept schema) x.s.code) at;
      own = x.typed;
      upto = x.upto;
      others = λ p a e. apart_names top.row p.row (among_passes (apart top) p (low ++ rest) a (pairs_at apart x.front (low ++ rest) top apart_rows).behind) (sym e);
    }

    t : Topped x.parent x.s x.below x.next
    t = topped x.parent x.s x.below x.next found.fence.own

    named_low : Named name (before ++ (twins ++ more))
    named_low = subst (λ (l : List Placed). Named name l) y.was t.low

    named_before : Named name before
    named_before = (parted name before (twins ++ more) named_low).front

    named_rest : Named name (twins ++ more)
    named_rest = (parted name before (twins ++ more) named_low).back

    named_twins : Named name twins
    named_twins = (parted name twins more named_rest).front

    named_more : Named name more
    named_more = (parted name twins more named_rest).back

    other : (p : Placed) → Among p (before ++ (twins ++ more)) → p.row.name ≡ x.s.name → ⊥
    other p a = found.others p (among_left p low rest (subst (λ (l : List Placed). Among p l) (sym y.was) a))

    test : Placed → Bool
    test p = off schema new x.s.name p

    rest_off : list_all test rest ≡ true
    rest_off = rest_passes schema cells new x.parent x.s x.below x.next x.front x.back found

    more_off : list_all test more ≡ true
    more_off = more_pass schema new x.s.name y.more named_more (λ p a. other p (among_right p before (twins ++ more) (among_right p twins more a))) y.high

    -- the twin before
    pair : Pair (λ up row. is_twin_before schema (placed (Some up.name) new).row row) above prior (list_in None trees)
    pair = pair_of (λ up row. is_twin_before schema (placed (Some up.name) new).row row) above prior (list_in None trees) so

    up : top ≡ pair.p
    up = the_one x.front top (low ++ rest) pair.p (alone_at trees r.once x.front top (low ++ rest) whole) (subst (λ (l : List Placed). Among pair.p l) whole pair.p_in) (pair.p_at ∙ sym x.at)

    twin_before : is_twin_before schema (placed name new).row pair.q.row ≡ true
    twin_before = subst (λ (p : Placed). is_twin_before schema (placed (Some p.row.name) new).row pair.q.row ≡ true) (sym up) pair.so

    are : (pair.q.row.code == new.code) && same_parent pair.q.row.parent name ≡ true
    are = (and_parts (are_twins pair.q.row (placed name new).row) (goes_before (is_first schema new.code) (twin_cmp schema pair.q.row (placed name new).row)) twin_before).0

    q_code : pair.q.row.code ≡ new.code
    q_code = eqb-true pair.q.row.code new.code (and_parts (pair.q.row.code == new.code) (same_parent pair.q.row.parent name) are).0

    q_parent : pair.q.row.parent ≡ name
    q_parent = parents_are pair.q.row.parent name (and_parts (pair.q.row.code == new.code) (same_parent pair.q.row.parent name) are).1

    q_stands : stands_before schema (placed name new).row pair.q.row ≡ true
    q_stands = or_right (is_parent pair.q.row (placed name new).row || is_lower_child (placed name new).row pair.q.row) (is_twin_before schema (placed name new).row pair.q.row) twin_before

    clash : (list : List Placed) → list_all test list ≡ true → Among pair.q list → ⊥
    clash list passes a = false≢true (sym (not-true (stands_before schema (placed name new).row pair.q.row) (among_passes test pair.q list a passes)) ∙ q_stands)

    in_low : Among pair.q (before ++ (twins ++ more))
    in_low = by (among_append pair.q x.front (top ∷ (low ++ rest)) (subst (λ (l : List Placed). Among pair.q l) whole pair.q_in))
      where
        behind : Among pair.q low ⊎ Among pair.q rest → Among pair.q (before ++ (twins ++ more))
        behind (inl m) = subst (λ (l : List Placed). Among pair.q l) y.was m
        behind (inr m) = absurd (clash rest rest_off m)

        by : Among pair.q x.front ⊎ Among pair.q (top ∷ (low ++ rest)) → Among pair.q (before ++ (twins ++ more))
        by (inl m) = absurd (found.fence.before pair.q m q_parent)
        by (inr (inl is)) = absurd (found.fence.own.fresh top (inl refl) (ap (λ (p : Placed). p.row.parent) is ∙ q_parent))
        by (inr (inr m)) = behind (among_append pair.q low rest m)

    head : Head name (heads_of y.twins) pair.q
    head = by (among_append pair.q before (twins ++ more) in_low)
      where
        behind : Among pair.q twins ⊎ Among pair.q more → Head name (heads_of y.twins) pair.q
        behind (inl m) = head_of name y.twins named_twins pair.q m q_parent
        behind (inr m) = absurd (clash more more_off m)

        by : Among pair.q before ⊎ Among pair.q (twins ++ more) → Head name (heads_of y.twins) pair.q
        by (inl m) =
            let h = heads_of_chains name y.before named_before pair.q m q_parent in
            let less = y.low h.u h.among in
            let own_code : pair.q.row.code ≡ h.u.code = ap (λ (p : Placed). p.row.code) h.is in
            absurd (omega (arith, less, own_code, q_code))
        by (inr m) = behind (among_append pair.q twins more m)

    follow : twins_follow schema y.twins ≡ true
    follow =
        let pairs : all_pairs (by_key schema) (list_in None trees) ≡ true = sym (pairs_rows (in_twin_order schema) (list_in None trees)) ∙ rise in
        let of_low = pairs_parts (by_key schema) low rest (and_parts (list_all (by_key schema top) (low ++ rest)) (all_pairs (by_key schema) (low ++ rest)) (pairs_parts (by_key schema) x.front (top ∷ (low ++ rest)) (subst (λ (l : List Placed). all_pairs (by_key schema) l ≡ true) whole pairs)).back).1 in
        let of_twins = pairs_parts (by_key schema) twins more (pairs_parts (by_key schema) before (twins ++ more) (subst (λ (l : List Placed). all_pairs (by_key schema) l ≡ true) y.was of_low.front)).back in
        sym (keys_of schema name new.code y.twins y.typed) ∙ sym (pairs_of (by_key schema) (by_key_of schema) name y.twins named_twins) ∙ of_twins.front

    h : HeadAt schema new.code cells name head.u y.twins
    h = head_at schema new.code cells name head.u y.twins y.typed y.hangs follow head.among

    u_home : head.u.home ≡ prior
    u_home = ap (λ (p : Placed). p.home) (sym head.is) ∙ pair.q_at

    under_it : List Placed
    under_it = list_in (Some head.u.name) h.below

    later : List Placed
    later = list_of name h.later

    whole_at : list_in None trees ≡ (x.front ++ top ∷ (before ++ h.before)) ++ placed name head.u ∷ ((under_it ++ later) ++ (more ++ rest))
    whole_at = whole ∙ ap (λ l. x.front ++ top ∷ (l ++ rest)) (y.was ∙ ap (λ l. before ++ (l ++ more)) h.was) ∙ regroup x.front top before h.before (placed name head.u) (under_it ++ later) more rest

    named_u : Named name (list_of name (segment head.u h.below h.later))
    named_u = (parted name h.before (list_of name (segment head.u h.below h.later)) (subst (λ (l : List Placed). Named name l) h.was named_twins)).back

    in_twins : (p : Placed) → Among p (under_it ++ later) → Among p (before ++ (twins ++ more))
    in_twins p a = among_right p before (twins ++ more) (among_left p twins more (subst (λ (l : List Placed). Among p l) (sym h.was) (among_right p h.before (placed name head.u ∷ (under_it ++ later)) (inr a))))

    under_off : list_all test under_it ≡ true
    under_off = all_among test under_it (λ p a. stranger schema new x.s.name p (other p (in_twins p (among_left p under_it later a))) (λ e. not_above name head.u h.below h.later named_u p a e))

    own_u : Typed types new.code head.u h.below h.later
    own_u = typed types new.code head.u h.below h.later h.typed

    leads : first_of h.later ≡ leads_to (Behind prior) cells firsts
    leads = sym (ap (λ (o : Option Cell). option_map_or (λ (c : Cell). c.twin) o 0) (ap cells (sym u_home) ∙ h.hangs.1))

    first : (s : Occurrence) (below : Chains) (next : Twins) → s.home ≡ leads_to (Behind prior) cells firsts → Hangs cells (segment s below next) → stays_behind schema new s ≡ true
    first s below next e k = next_stays (cell_of s below next) (subst (λ (m : ℕ). 0 < m) e (k.0)) (ap cells (sym e) ∙ k.1)

    later_off : list_all test later ≡ true
    later_off =
        let follows = (and_parts (list_all (λ v. may_follow schema (row_of head.u) (row_of v)) (heads_of h.later) && twins_follow_in schema h.below) (twins_follow schema h.later) h.follow).1 in
        let stays = all_stay schema (total schema) new.code new h.later own_u.later follows (λ s below next e. first s below next (sym (ap first_of e) ∙ leads) (subst (λ (u : Twins). Hangs cells u) e (h.hangs.3))) in
        twins_pass schema new x.s.name h.later (topped name head.u h.below h.later named_u).high (λ p a. other p (in_twins p (among_right p under_it later a))) own_u.later stays

    tail_off : list_all test ((under_it ++ later) ++ (more ++ rest)) ≡ true
    tail_off = all_append test (under_it ++ later) (more ++ rest) (all_append test under_it later under_off later_off) (all_append test more rest more_off rest_off)

    c : ComesBehind types prior new (list_in None trees) (list_in None (with_segment (Behind prior) new kinds trees))
    c = new_twins_stand_behind_spans kept schema cells firsts trees prior new kinds r prior_met

    one : Same c.twin (placed name head.u) (c.below ++ c.back) ((under_it ++ later) ++ (more ++ rest))
    one = same_split c.front c.twin (c.below ++ c.back) (x.front ++ top ∷ (before ++ h.before)) (placed name head.u) ((under_it ++ later) ++ (more ++ rest)) (c.at ∙ sym u_home)
        (alone_at trees r.once c.front c.twin (c.below ++ c.back) c.whole) (alone_at trees r.once (x.front ++ top ∷ (before ++ h.before)) (placed name head.u) ((under_it ++ later) ++ (more ++ rest)) whole_at) (sym c.whole ∙ whole_at)

    last : IsLastBefore schema (placed name new).row (placed name head.u).row (rows_of ((under_it ++ later) ++ (more ++ rest)))
    last = record {
      before = subst (λ (p : Placed). stands_before schema (placed name new).row p.row ≡ true) head.is q_stands;
      last = sym (rows_pass (λ row. not (stands_before schema (placed name new).row row)) ((under_it ++ later) ++ (more ++ rest))) ∙ tail_off;
      twins = ap (level_of types) (sym own_u.code_is);
    }

    done : rows_of (list_in None (with_segment (Behind prior) new kinds trees)) ≡ inserted schema (rows_of (list_in None trees)) (placed (Some cell.name) new).row
    done =
        new_twins_are_inserted schema cells firsts trees prior new kinds r prior_met c
        (subst (λ (l : List Placed). IsLastBefore schema (placed c.twin.row.parent new).row c.twin.row (rows_of l)) (sym one.rest)
        (subst (λ (p : Placed). IsLastBefore schema (placed p.row.parent new).row p.row (rows_of ((under_it ++ later) ++ (more ++ rest)))) (sym one.row) last))
        ∙ ap (λ (o : Option Ilk). inserted schema (rows_of (list_in None trees)) (placed o new).row) (ap (λ (p : Placed). p.row.parent) one.row ∙ ap (λ (d : Cell). Some d.name) same)
