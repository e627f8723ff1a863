-- First children and first roots were inserted at their places.
use Rattle.std.proofs.Common.{◌≡◌, ℕ, zero, suc, ◌+◌, ◌<◌, ◌≤◌, ◌==◌, nat_lt, Bool, true, false, not, cond, ◌&&◌, ◌||◌, List, [], ◌∷◌, ◌++◌, length, Option, None, Some, ◌⊎◌, inl, inr, refl, sym, ap, subst, ◌∙◌, arith, if◌then◌else◌}
use Rattle.std.specs.Prelude.{slice_index}
use Rattle.std.specs.Cmp.{IsTotalOrder}
use Rattle.std.specs.List.{list_all, slice_get, AllByRecursion}
use Rattle.std.specs.Option.{option_map_or}
use Rattle.std.specs.declared.cmp.Ordering.{Ordering}
use Rattle.std.specs.declared.cmp.Ordering.TheVariants.{Less, Equal, Greater}
use Rattle.std.specs.Ordering.{is_lt, is_le}
use Rattle.std.proofs.lemmas.Bool.{and_parts, and_from, or_right, ne_eqb, leb-true, ltb-true, ltb-false, lt-ltb, le-ltb, not-true, false≢true}
use Rattle.std.proofs.lemmas.Cmp.{alike_right}
use Rattle.std.proofs.lemmas.List.{append_assoc, append-nil}
use Rattle.hal_base.specs.declared.place.Ilk.{Ilk}
use Rattle.hal_schema.specs.declared.row.Row.{Row}
use Rattle.hal_schema.specs.declared.schema.SegType.{SegType}
use Rattle.hal_schema.specs.declared.schema.Schema.{Schema}
use Rattle.hal_schema.specs.Facts.{SchemasAreKept}
use Rattle.hal_schema.specs.Forest.{all_pairs, twin_cmp, may_follow, has_unique_key, in_twin_order}
use Rattle.hal_schema.specs.Insertion.{inserted, stands_before, is_lower_child, is_twin_before, goes_before, is_first}
use Rattle.hal_schema.specs.Keys.{key_cmp}
use Rattle.hal_schema.specs.Roots.{root_cmp}
use Rattle.hal_schema.specs.Row.{same_name, same_parent, is_parent, are_twins, row_level, row_key}
use Rattle.hal_schema.specs.SegType.{level_of}
use Rattle.hal_schema.proofs.RowNames.{name_is, name_itself}
use Rattle.segment_blocks.specs.declared.tile.Cell.{Cell}
use Rattle.forest_laws.proofs.Lists.{Among, among_passes, among_append, among_left, among_right, all_append, all_among, all_weaker, pairs_at, pairs_parts}
use Rattle.forest_laws.proofs.Names.{parents_are, apart_names, same_some}
use Rattle.forest_laws.proofs.Order.{order_total}
use Rattle.record_walk.proofs.RecordOf.{among_row}
use Rattle.record_walk.specs.Tree.{Occurrence, Twins, no_segment, segment, Chains, no_chain, chain, first_of, firsts_of, cell_of, Hangs, HangIn, times, times_in, child_codes, are_of, are_chains_of, are_roots}
use Rattle.record_walk.specs.Listing.{Placed, placed, list_of, list_in, rows_of}
use Rattle.record_walk.specs.Pointers.{Behind, Below, Root, with_chain, at_home, in_home, before_twins, with_segment}
use Rattle.record_walk.specs.Side.{heads_of, heads_in, key_of, roots_rise}
use Rattle.record_walk.specs.Siblings.{row_of, twins_follow, twins_follow_in}
use Rattle.record_walk.specs.Changes.{leads_to}
use Rattle.record_walk.specs.Spans.{starts_upto}
use Rattle.record_walk.specs.Firsts.{stays_behind, FirstChildrenAreInserted, FirstRootsAreInserted, LaterRootsAreInserted}
use Rattle.record_walk.proofs.Levels.{Typed, Deepens, AtLevel, children_level, typed, is_deep, deep_in, starts_append, starts_of, starts_in, starts_less}
use Rattle.record_walk.proofs.Splitting.{absent, absent_in, split_in, Fence}
use Rattle.record_walk.proofs.OnLists.{deepens, segment_in as segment_at, bare_list}
use Rattle.record_walk.proofs.Homes.{here_off}
use Rattle.record_walk.proofs.KeptRecords.{from_typed}
use Rattle.record_walk.proofs.ByName.{append_rows, begins, inserted_between}
use Rattle.record_walk.proofs.Rising.{either, apart, Named, Under, Top, Inner, under, topped, Topped, parted, not_above, pairs_rows, by_key, by_key_of, pairs_of, keys_of, heads_tell, heads_tell_in, Climbing, children_climb, head_codes, heads_high, root_codes, named_roots}
use Rattle.record_walk.proofs.Joined.{rows_pass}
use Rattle.record_walk.proofs.InOneSide.{AllBefore, none_before, top_trees, at_front, head_in, root_before, root_behind, deeper_off, strange, stands_off, truth_off}

-- ---- twins that follow one another

stays_by : (first : Bool) (R : List ℕ → List ℕ → Ordering) → IsTotalOrder R → (x y z : List ℕ) (o p : Ordering) → R x y ≡ o → R y z ≡ p → is_le o ≡ true → not (goes_before first (R x z)) ≡ true → not (goes_before first p) ≡ true
stays_by first R t x y z Greater p e f le stays = cc
stays_by first R t x y z Equal p e f le stays = ap (λ (q : Ordering). not (goes_before first q)) (sym f ∙ sym (t.congr x y z e)) ∙ stays
stays_by first R t x y z Less Less e f le stays = absurd (false≢true (sym (ap (λ (q : Ordering). not (goes_before first q)) (t.trans x y z e f)) ∙ stays))
stays_by first R t x y z Less Equal e f le stays = absurd (false≢true (sym (ap (λ (q : Ordering). not (goes_before first q)) (sym (alike_right t y z x f) ∙ e)) ∙ stays))
stays_by first R t x y z Less Greater e f le stays = refl

le_is : (u : Bool) (o : Ordering) → cond u (is_lt o) (is_le o) ≡ true → is_le o ≡ true
le_is true Less h = refl
le_is true Equal h = refl
le_is true Greater h = h
le_is false o h = h

stays_on : (schema : Schema) → IsTotalOrder (root_cmp schema) → (s u new : Occurrence) → s.code ≡ u.code → may_follow schema (row_of s) (row_of u) ≡ true → stays_behind schema new s ≡ true → stays_behind schema new u ≡ true
stays_on schema total s u new e follows stays =
    let k : Occurrence → List ℕ = λ o. row_key schema.types (row_of o) in
    let cmp : twin_cmp schema (row_of s) (row_of u) ≡ twin_cmp schema (row_of s) (row_of u) = refl in
    let same : twin_cmp schema (row_of u) (row_of new) ≡ cond (s.code == 1) (root_cmp schema (k u) (k new)) (key_cmp (k u) (k new)) = ap (λ (n : ℕ). cond (n == 1) (root_cmp schema (k u) (k new)) (key_cmp (k u) (k new))) (sym e) in
    ap (λ (o : Ordering). not (goes_before (is_first schema new.code) o)) same
    ∙ stays_by (is_first schema new.code) (λ a b. cond (s.code == 1) (root_cmp schema a b) (key_cmp a b)) (order_total schema total s.code) (k s) (k u) (k new) (twin_cmp schema (row_of s) (row_of u)) (cond (s.code == 1) (root_cmp schema (k u) (k new)) (key_cmp (k u) (k new)))
    cmp refl (le_is (has_unique_key schema.types s.code) (twin_cmp schema (row_of s) (row_of u)) follows) stays

pub all_stay : (schema : Schema) → IsTotalOrder (root_cmp schema) → (code : ℕ) (new : Occurrence) (twins : Twins) → are_of schema.types code twins ≡ true → twins_follow schema twins ≡ true
    → ((s : Occurrence) (below : Chains) (next : Twins) → twins ≡ segment s below next → stays_behind schema new s ≡ true) → list_all (stays_behind schema new) (heads_of twins) ≡ true
all_stay schema total code new no_segment h f first = refl
all_stay schema total code new (segment s below next) h f first =
    let t = typed schema.types code s below next h in
    let a = and_parts (list_all (λ u. may_follow schema (row_of s) (row_of u)) (heads_of next) && twins_follow_in schema below) (twins_follow schema next) f in
    let b = and_parts (list_all (λ u. may_follow schema (row_of s) (row_of u)) (heads_of next)) (twins_follow_in schema below) a.0 in
    let own = first s below next refl in
    and_from (stays_behind schema new s) (list_all (stays_behind schema new) (heads_of next)) own
    (all_among (stays_behind schema new) (heads_of next)
    (λ u m. stays_on schema total s u new (t.code_is ∙ sym (head_codes schema.types code next t.later u m)) (among_passes (λ v. may_follow schema (row_of s) (row_of v)) u (heads_of next) m b.0) own))

-- ---- a chain at its place

pub record AtPlace (schema : Schema) (level code : ℕ) (parent : Option Ilk) (change : Twins → Twins) (leads : ℕ) (cells : ℕ → Option Cell) (old now : List Placed) : Type 0 where
  pub before : Chains
  pub codes : List ℕ
  pub at_level : AtLevel schema.types level codes
  pub typed_before : are_chains_of schema.types codes before ≡ true
  pub twins : Twins
  pub more : Chains
  pub later : List ℕ
  pub later_level : AtLevel schema.types level later
  pub typed_more : are_chains_of schema.types later more ≡ true
  pub was : old ≡ list_in parent before ++ (list_of parent twins ++ list_in parent more)
  pub is : now ≡ list_in parent before ++ (list_of parent (change twins) ++ list_in parent more)
  pub typed : are_of schema.types code twins ≡ true
  pub low : (u : Occurrence) → Among u (heads_in before) → u.code < code
  pub high : (u : Occurrence) → Among u (heads_in more) → code < u.code
  pub led : first_of twins ≡ leads
  pub hangs : Hangs cells twins

all_at : (n : ℕ) (codes : List ℕ) (place code : ℕ) → AllByRecursion (λ c. suc n ≤ c) codes → slice_get codes place ≡ Some code → n < code
all_at n [] place code h e = cc
all_at n (c ∷ codes) zero code h e = let l = h.0 in let same : c ≡ code = same_some c code e in omega (arith, l, same)
all_at n (c ∷ codes) (suc place) code h e = all_at n codes place code (h.1) e

pub at_place : (schema : Schema) (level : ℕ) (codes : List ℕ) → AtLevel schema.types level codes → Climbing codes → (parent : Option Ilk) (change : Twins → Twins) (cells : ℕ → Option Cell) (place code : ℕ) (chains : Chains) → are_chains_of schema.types codes chains ≡ true
    → HangIn cells chains → slice_get codes place ≡ Some code → AtPlace schema level code parent change (slice_index (firsts_of chains) place) cells (list_in parent chains) (list_in parent (with_chain place change chains))
at_place schema level [] all climb parent change cells place code chains h hang e = cc
at_place schema level (c ∷ codes) all climb parent change cells place code no_chain h hang e = absurd (false≢true h)
at_place schema level (c ∷ codes) all climb parent change cells zero code (chain twins more) h hang e =
    let p = and_parts (are_of schema.types c twins) (are_chains_of schema.types codes more) h in
    let same : c ≡ code = same_some c code e in
    record {
      before = no_chain;
      codes = [];
      at_level = tt;
      typed_before = refl;
      twins = twins;
      more = more;
      later = codes;
      later_level = all.1;
      typed_more = p.1;
      was = refl;
      is = refl;
      typed = subst (λ (n : ℕ). are_of schema.types n twins ≡ true) same p.0;
      low = λ u a. absurd a;
      high = λ u a. let l = heads_high schema.types (suc c) codes more p.1 (climb.0) u a in omega (arith, l, same);
      led = refl;
      hangs = hang.0;
    }
at_place schema level (c ∷ codes) all climb parent change cells (suc place) code (chain twins more) h hang e =
    let p = and_parts (are_of schema.types c twins) (are_chains_of schema.types codes more) h in
    let y = at_place schema level codes (all.1) (climb.1) parent change cells place code more p.1 (hang.1) e in
    let less : c < code = all_at c codes place code (climb.0) e in
    record {
      before = chain twins y.before;
      codes = c ∷ y.codes;
      at_level = (all.0, y.at_level);
      typed_before = and_from (are_of schema.types c twins) (are_chains_of schema.types y.codes y.before) p.0 y.typed_before;
      twins = y.twins;
      more = y.more;
      later = y.later;
      later_level = y.later_level;
      typed_more = y.typed_more;
      was = ap (λ l. list_of parent twins ++ l) y.was ∙ sym (append_assoc (list_of parent twins) (list_in parent y.before) (list_of parent y.twins ++ list_in parent y.more));
      is = ap (λ l. list_of parent twins ++ l) y.is ∙ sym (append_assoc (list_of parent twins) (list_in parent y.before) (list_of parent (change y.twins) ++ list_in parent y.more));
      typed = y.typed;
      low = λ u a. either {P = Among u (heads_of twins)} {Q = Among u (heads_in y.before)} {R = u.code < code} (λ m. let s = head_codes schema.types c twins p.0 u m in omega (arith, s, less)) (λ m. y.low u m) (among_append u (heads_of twins) (heads_in y.before) a);
      high = y.high;
      led = y.led;
      hangs = y.hangs;
    }

-- ---- the last segment of chains

-- the last segment of these, and the deeper rows behind it
record LastOf (types : List SegType) (n : ℕ) (parent : Option Ilk) (heads : List Occurrence) (list : List Placed) : Type 0 where
  pub front : List Placed
  pub last : Occurrence
  pub tail : List Placed
  pub is : list ≡ front ++ placed parent last ∷ tail
  pub among : Among last heads
  pub deep : list_all (is_deep types (n + 1)) tail ≡ true

last_in_chain : (types : List SegType) → Deepens types → (code n : ℕ) → level_of types code ≡ n → (parent : Option Ilk) (twins : Twins) → are_of types code twins ≡ true → (list_of parent twins ≡ []) ⊎ LastOf types n parent (heads_of twins) (list_of parent twins)
last_in_chain types deepens code n level parent no_segment h = inl refl
last_in_chain types deepens code n level parent (segment s below next) h =
    let t = typed types code s below next h in
    let low : List Placed = list_in (Some s.name) below in
    let deep = deep_in types deepens (n + 1) (level_of types code + 1) (child_codes types code) (children_level types deepens code) (Some s.name) below t.under (omega (arith, level)) in
    by deep (last_in_chain types deepens code n level parent next t.later)
  where
    by : list_all (is_deep types (n + 1)) (list_in (Some s.name) below) ≡ true → (list_of parent next ≡ []) ⊎ LastOf types n parent (heads_of next) (list_of parent next)
        → (list_of parent (segment s below next) ≡ []) ⊎ LastOf types n parent (heads_of (segment s below next)) (list_of parent (segment s below next))
    by deep (inl e) = inr (record { front = []; last = s; tail = list_in (Some s.name) below; is = ap (λ l. placed parent s ∷ (list_in (Some s.name) below ++ l)) e ∙ ap (λ l. placed parent s ∷ l) (append-nil (list_in (Some s.name) below)); among = inl refl; deep = deep })
    by deep (inr y) = inr (record {
      front = placed parent s ∷ (list_in (Some s.name) below ++ y.front);
      last = y.last;
      tail = y.tail;
      is = ap (λ l. placed parent s ∷ (list_in (Some s.name) below ++ l)) y.is ∙ ap (λ l. placed parent s ∷ l) (sym (append_assoc (list_in (Some s.name) below) y.front (placed parent y.last ∷ y.tail)));
      among = inr y.among;
      deep = y.deep;
    })

last_in : (types : List SegType) → Deepens types → (n : ℕ) (codes : List ℕ) → AtLevel types n codes → (parent : Option Ilk) (chains : Chains) → are_chains_of types codes chains ≡ true → (list_in parent chains ≡ []) ⊎ LastOf types n parent (heads_in chains) (list_in parent chains)
last_in types deepens n codes all parent no_chain h = inl refl
last_in types deepens n [] all parent (chain twins more) h = absurd (false≢true h)
last_in types deepens n (code ∷ codes) all parent (chain twins more) h =
    let p = and_parts (are_of types code twins) (are_chains_of types codes more) h in
    by (last_in_chain types deepens code n (all.0) parent twins p.0) (last_in types deepens n codes (all.1) parent more p.1)
  where
    by : (list_of parent twins ≡ []) ⊎ LastOf types n parent (heads_of twins) (list_of parent twins) → (list_in parent more ≡ []) ⊎ LastOf types n parent (heads_in more) (list_in parent more)
        → (list_of parent twins ++ list_in parent more ≡ []) ⊎ LastOf types n parent (heads_of twins ++ heads_in more) (list_of parent twins ++ list_in parent more)
    by x (inr y) = inr (record {
      front = list_of parent twins ++ y.front;
      last = y.last;
      tail = y.tail;
      is = ap (λ l. list_of parent twins ++ l) y.is ∙ sym (append_assoc (list_of parent twins) y.front (placed parent y.last ∷ y.tail));
      among = among_right y.last (heads_of twins) (heads_in more) y.among;
      deep = y.deep;
    })
    by (inl x) (inl y) = inl (ap (λ l. l ++ list_in parent more) x ∙ y)
    by (inr x) (inl y) = inr (record {
      front = x.front;
      last = x.last;
      tail = x.tail;
      is = ap (λ l. list_of parent twins ++ l) y ∙ append-nil (list_of parent twins) ∙ x.is;
      among = among_left x.last (heads_of twins) (heads_in more) x.among;
      deep = x.deep;
    })

-- ---- rows of one parent

-- a child of the parent above chains is a segment of these, so not deeper
mutual
  child_level : (types : List SegType) (code n : ℕ) → level_of types code ≡ n → (parent : Option Ilk) (twins : Twins) → are_of types code twins ≡ true → Named parent (list_of parent twins) → (p : Placed) → Among p (list_of parent twins) → p.row.parent ≡ parent → row_level types p.row ≡ n
  child_level types code n level parent no_segment h d p a e = absurd a
  child_level types code n level parent (segment s below next) h d p (inl q) e = ap (λ (x : Placed). row_level types x.row) (sym q) ∙ ap (level_of types) (typed types code s below next h).code_is ∙ level
  child_level types code n level parent (segment s below next) h d p (inr m) e =
      either {P = Among p (list_in (Some s.name) below)} {Q = Among p (list_of parent next)} {R = row_level types p.row ≡ n} (λ k. absurd (not_above parent s below next d p k e))
      (λ k. child_level types code n level parent next (typed types code s below next h).later (topped parent s below next d).high p k e) (among_append p (list_in (Some s.name) below) (list_of parent next) m)

  child_level_in : (types : List SegType) (n : ℕ) (codes : List ℕ) → AtLevel types n codes → (parent : Option Ilk) (chains : Chains) → are_chains_of types codes chains ≡ true → Named parent (list_in parent chains) → (p : Placed) → Among p (list_in parent chains) → p.row.parent ≡ parent
      → row_level types p.row ≡ n
  child_level_in types n codes all parent no_chain h d p a e = absurd a
  child_level_in types n [] all parent (chain twins more) h d p a e = absurd (false≢true h)
  child_level_in types n (code ∷ codes) all parent (chain twins more) h d p a e =
      let q = and_parts (are_of types code twins) (are_chains_of types codes more) h in
      let t = parted parent (list_of parent twins) (list_in parent more) d in
      either {P = Among p (list_of parent twins)} {Q = Among p (list_in parent more)} {R = row_level types p.row ≡ n} (λ m. child_level types code n (all.0) parent twins q.0 t.front p m e) (λ m. child_level_in types n codes (all.1) parent more q.1 t.back p m e)
      (among_append p (list_of parent twins) (list_in parent more) a)

-- of another name and another parent
abbrev pub off : Schema → Occurrence → Ilk → Placed → Bool
off schema new name p = not (stands_before schema (placed (Some name) new).row p.row)

pub stranger : (schema : Schema) (new : Occurrence) (name : Ilk) (p : Placed) → (p.row.name ≡ name → ⊥) → (p.row.parent ≡ Some name → ⊥) → off schema new name p ≡ true
stranger schema new name p a b =
    strange schema (placed (Some name) new).row p.row (truth_off (same_name p.row.name name) (λ e. a (name_is p.row.name name e))) (truth_off (same_parent p.row.parent (Some name)) (λ e. b (parents_are p.row.parent (Some name) e)))

-- a twin that stays behind, and a child of a higher code
pub twin_off : (schema : Schema) (new u : Occurrence) (name : Ilk) → (u.name ≡ name → ⊥) → u.code ≡ new.code → stays_behind schema new u ≡ true → off schema new name (placed (Some name) u) ≡ true
twin_off schema new u name a e stays =
    stands_off schema (placed (Some name) new).row (placed (Some name) u).row (truth_off (same_name u.name name) (λ f. a (name_is u.name name f)))
    (ap (λ (b : Bool). same_name name name && b) (le-ltb u.code new.code (omega (arith, e))) ∙ right (same_name name name))
    (ap (λ (b : Bool). are_twins (placed (Some name) u).row (placed (Some name) new).row && b) (not-true (goes_before (is_first schema new.code) (twin_cmp schema (row_of u) (row_of new))) stays) ∙ right (are_twins (placed (Some name) u).row (placed (Some name) new).row))
  where
    right : (b : Bool) → (b && false) ≡ false
    right true = refl
    right false = refl

higher_off : (schema : Schema) (new u : Occurrence) (name : Ilk) → (u.name ≡ name → ⊥) → new.code < u.code → off schema new name (placed (Some name) u) ≡ true
higher_off schema new u name a l =
    stands_off schema (placed (Some name) new).row (placed (Some name) u).row (truth_off (same_name u.name name) (λ f. a (name_is u.name name f)))
    (ap (λ (b : Bool). same_name name name && b) (le-ltb u.code new.code (omega (arith, l))) ∙ right (same_name name name))
    (ap (λ (b : Bool). (b && same_name name name) && goes_before (is_first schema new.code) (twin_cmp schema (row_of u) (row_of new))) (ne_eqb u.code new.code (λ e. absurd (omega (arith, e, l)))))
  where
    right : (b : Bool) → (b && false) ≡ false
    right true = refl
    right false = refl

rows_shape : (h : List Placed) (p : Placed) (t b : List Placed) → rows_of (h ++ p ∷ (t ++ b)) ≡ rows_of h ++ p.row ∷ (rows_of t ++ rows_of b)
rows_shape h p t b = append_rows h (p ∷ (t ++ b)) ∙ ap (λ l. rows_of h ++ p.row ∷ l) (append_rows t b)

-- on placed rows
record Between (schema : Schema) (new : Occurrence) (parent : Option Ilk) (tail back : List Placed) : Type 0 where
  pub none : list_all (λ (p : Placed). not (stands_before schema (placed parent new).row p.row)) (tail ++ back) ≡ true
  pub deeper : list_all (is_deep schema.types (level_of schema.types new.code + 1)) tail ≡ true
  pub next : starts_upto schema.types (level_of schema.types new.code) back ≡ true

inserted_placed : (schema : Schema) (new : Occurrence) (parent : Option Ilk) (head : List Placed) (last : Placed) (tail back : List Placed) → stands_before schema (placed parent new).row last.row ≡ true → Between schema new parent tail back
    → rows_of (head ++ last ∷ (tail ++ placed parent new ∷ back)) ≡ inserted schema (rows_of (head ++ last ∷ (tail ++ back))) (placed parent new).row
inserted_placed schema new parent head last tail back before b =
    let types = schema.types in
    let row : Row = (placed parent new).row in
    let n = level_of types new.code in
    rows_shape head last tail (placed parent new ∷ back)
    ∙ sym (ap (λ l. inserted schema l row) (rows_shape head last tail back)
    ∙ inserted_between.behind schema row (rows_of head) last.row (rows_of tail) (rows_of back) before
    (record {
      none = subst (λ (l : List Row). list_all (λ r. not (stands_before schema row r)) l ≡ true) (append_rows tail back) (sym (rows_pass (λ r. not (stands_before schema row r)) (tail ++ back)) ∙ b.none);
      deeper = sym (rows_pass (λ r. nat_lt n (row_level types r)) tail) ∙ all_weaker (is_deep types (n + 1)) (λ (p : Placed). nat_lt n (row_level types p.row)) (λ p d. let l = leb-true (n + 1) (row_level types p.row) d in lt-ltb n (row_level types p.row) (omega (arith, l))) tail b.deeper;
      next = begins types n back b.next;
    }))

-- ---- a first child

-- the rows of segments are among those of their chains
pub head_among : (q : Option Ilk) (w : Twins) (u : Occurrence) → Among u (heads_of w) → Among (placed q u) (list_of q w)
head_among q no_segment u a = absurd a
head_among q (segment v under later) u (inl e) = inl (ap (placed q) e)
head_among q (segment v under later) u (inr a) = inr (among_right (placed q u) (list_in (Some v.name) under) (list_of q later) (head_among q later u a))

pub heads_among : (q : Option Ilk) (w : Chains) (u : Occurrence) → Among u (heads_in w) → Among (placed q u) (list_in q w)
heads_among q no_chain u a = absurd a
heads_among q (chain v m) u a = either {P = Among u (heads_of v)} {Q = Among u (heads_in m)} {R = Among (placed q u) (list_of q v ++ list_in q m)} (λ k. among_left (placed q u) (list_of q v) (list_in q m) (head_among q v u k))
    (λ k. among_right (placed q u) (list_of q v) (list_in q m) (heads_among q m u k)) (among_append u (heads_of v) (heads_in m) a)

-- what is known of the place of a new first child
pub record Found (schema : Schema) (cells : ℕ → Option Cell) (new : Occurrence) (parent : Option Ilk) (s : Occurrence) (below : Chains) (next : Twins) (front back : List Placed) : Type 0 where
  pub fence : Fence parent s below next front back
  pub level : level_of schema.types new.code ≡ level_of schema.types s.code + 1
  pub own : are_of schema.types s.code (segment s below next) ≡ true
  pub upto : starts_upto schema.types (level_of schema.types s.code) back ≡ true
  pub others : (p : Placed) → Among p (list_in (Some s.name) below ++ (list_of parent next ++ back)) → p.row.name ≡ s.name → ⊥

-- twins of the parent, what is below them, and all behind, needn't stand before a new child
pub rest_passes : (schema : Schema) (cells : ℕ → Option Cell) (new : Occurrence) (parent : Option Ilk) (s : Occurrence) (below : Chains) (next : Twins) (front back : List Placed) → Found schema cells new parent s below next front back
    → list_all (off schema new s.name) (list_of parent next ++ back) ≡ true
rest_passes schema cells new parent s below next front back f =
    let t = topped parent s below next f.fence.own in
    all_among (off schema new s.name) (list_of parent next ++ back)
    (λ p a. stranger schema new s.name p (f.others p (among_right p (list_in (Some s.name) below) (list_of parent next ++ back) a)) (λ e. not_child f t p a e))
  where
    next_off : Found schema cells new parent s below next front back → Topped parent s below next → (p : Placed) → p.row.parent ≡ Some s.name → Under parent (list_of parent next) p → ⊥
    next_off f t p e (Top g) = f.fence.own.fresh (placed parent s) (inl refl) (sym g ∙ e)
    next_off f t p e (Inner q m g) = t.off_high q m (same_some s.name q.row.name (sym e ∙ g))

    not_child : Found schema cells new parent s below next front back → Topped parent s below next → (p : Placed) → Among p (list_of parent next ++ back) → p.row.parent ≡ Some s.name → ⊥
    not_child f t p a e = either {P = Among p (list_of parent next)} {Q = Among p back} {R = ⊥} (λ m. next_off f t p e (under parent next p m)) (λ m. f.fence.behind p m e) (among_append p (list_of parent next) back a)

-- children of higher codes needn't either
pub more_pass : (schema : Schema) (new : Occurrence) (name : Ilk) (more : Chains) → Named (Some name) (list_in (Some name) more) → ((p : Placed) → Among p (list_in (Some name) more) → p.row.name ≡ name → ⊥)
    → ((u : Occurrence) → Among u (heads_in more) → new.code < u.code) → list_all (off schema new name) (list_in (Some name) more) ≡ true
more_pass schema new name more named other high =
    heads_tell_in (off schema new name) (Some name) more named (λ p a strange_row. stranger schema new name p (other p a) strange_row)
    ∙ all_among (λ u. off schema new name (placed (Some name) u)) (heads_in more) (λ u a. higher_off schema new u name (λ e. other (placed (Some name) u) (heads_among (Some name) more u a) e) (high u a))

-- twins that stay behind the new one
pub twins_pass : (schema : Schema) (new : Occurrence) (name : Ilk) (twins : Twins) → Named (Some name) (list_of (Some name) twins) → ((p : Placed) → Among p (list_of (Some name) twins) → p.row.name ≡ name → ⊥)
    → are_of schema.types new.code twins ≡ true → list_all (stays_behind schema new) (heads_of twins) ≡ true → list_all (off schema new name) (list_of (Some name) twins) ≡ true
twins_pass schema new name twins named other typed_twins stays =
    heads_tell (off schema new name) (Some name) twins named (λ p a strange_row. stranger schema new name p (other p a) strange_row)
    ∙ all_among (λ u. off schema new name (placed (Some name) u)) (heads_of twins)
    (λ u a. twin_off schema new u name (λ e. other (placed (Some name) u) (head_among (Some name) twins u a) e) (head_codes schema.types new.code twins typed_twins u a) (among_passes (stays_behind schema new) u (heads_of twins) a stays))

child_found : SchemasAreKept → (schema : Schema) (cells : ℕ → Option Cell) (new : Occurrence) (kinds : ℕ) (parent : Option Ilk) (s : Occurrence) (below : Chains) (next : Twins) (front back : List Placed) (leads : ℕ) (change : Chains)
    → Found schema cells new parent s below next front back → (y : AtPlace schema (level_of schema.types s.code + 1) new.code (Some s.name) (before_twins new kinds) leads cells (list_in (Some s.name) below) (list_in (Some s.name) change))
    → list_all (stays_behind schema new) (heads_of y.twins) ≡ true
    → rows_of (front ++ placed parent s ∷ (list_in (Some s.name) change ++ (list_of parent next ++ back))) ≡ inserted schema (rows_of (front ++ placed parent s ∷ (list_in (Some s.name) below ++ (list_of parent next ++ back)))) (placed (Some s.name) new).row
child_found kept schema cells new kinds parent s below next front back leads change f y stays = by (last_in types (deepens kept schema) n y.codes y.at_level name y.before y.typed_before)
  where
    types : List SegType
    types = schema.types

    n : ℕ
    n = level_of types s.code + 1

    name : Option Ilk
    name = Some s.name

    test : Placed → Bool
    test p = off schema new s.name p

    top : Placed
    top = placed parent s

    before : List Placed
    before = list_in name y.before

    twins : List Placed
    twins = list_of name y.twins

    more : List Placed
    more = list_in name y.more

    rest : List Placed
    rest = list_of parent next ++ back

    t : Topped parent s below next
    t = topped parent s below next f.fence.own

    named : Named name (before ++ (twins ++ more))
    named = subst (λ (l : List Placed). Named name l) y.was t.low

    named_before : Named name before
    named_before = (parted name before (twins ++ more) named).front

    named_twins : Named name twins
    named_twins = (parted name twins more (parted name before (twins ++ more) named).back).front

    named_more : Named name more
    named_more = (parted name twins more (parted name before (twins ++ more) named).back).back

    -- rows behind the parent have another name than it
    other : (p : Placed) → Among p (before ++ (twins ++ more)) → p.row.name ≡ s.name → ⊥
    other p a = f.others p (among_left p (list_in name below) rest (subst (λ (l : List Placed). Among p l) (sym y.was) a))

    twins_off : list_all test twins ≡ true
    twins_off = twins_pass schema new s.name y.twins named_twins (λ p a. other p (among_right p before (twins ++ more) (among_left p twins more a))) y.typed stays

    more_off : list_all test more ≡ true
    more_off = more_pass schema new s.name y.more named_more (λ p a. other p (among_right p before (twins ++ more) (among_right p twins more a))) y.high

    rest_off : list_all test rest ≡ true
    rest_off = rest_passes schema cells new parent s below next front back f

    back_off : list_all test (twins ++ (more ++ rest)) ≡ true
    back_off = all_append test twins (more ++ rest) twins_off (all_append test more rest more_off rest_off)

    starts : starts_upto types (level_of types new.code) (twins ++ (more ++ rest)) ≡ true
    starts =
        let l = f.level in
        let own = typed types s.code s below next f.own in
        starts_append types (level_of types new.code) twins (more ++ rest) (starts_of types (level_of types new.code) new.code name y.twins y.typed (omega arith))
        (starts_append types (level_of types new.code) more rest (starts_in types (level_of types new.code) n y.later y.later_level name y.more y.typed_more (omega (arith, l)))
        (starts_append types (level_of types new.code) (list_of parent next) back (starts_of types (level_of types new.code) s.code parent next own.later (omega (arith, l))) (starts_less types (level_of types s.code) (level_of types new.code) back f.upto (omega (arith, l)))))

    bare : list_of name (before_twins new kinds y.twins) ≡ placed name new ∷ twins
    bare = ap (λ l. placed name new ∷ (l ++ twins)) (bare_list (Some new.name) kinds)

    regroup : (xs ys zs : List Placed) → (xs ++ (ys ++ zs)) ++ rest ≡ xs ++ (ys ++ (zs ++ rest))
    regroup xs ys zs = append_assoc xs (ys ++ zs) rest ∙ ap (λ l. xs ++ l) (append_assoc ys zs rest)

    old : list_in name below ++ rest ≡ before ++ (twins ++ (more ++ rest))
    old = ap (λ l. l ++ rest) y.was ∙ regroup before twins more

    now : list_in name change ++ rest ≡ before ++ (placed name new ∷ (twins ++ (more ++ rest)))
    now = ap (λ l. l ++ rest) (y.is ∙ ap (λ l. before ++ (l ++ more)) bare) ∙ regroup before (placed name new ∷ twins) more

    Goal : List Placed → Type 0
    Goal l = rows_of (front ++ top ∷ (l ++ (placed name new ∷ (twins ++ (more ++ rest))))) ≡ inserted schema (rows_of (front ++ top ∷ (l ++ (twins ++ (more ++ rest))))) (placed name new).row

    finish : Goal before → rows_of (front ++ top ∷ (list_in name change ++ rest)) ≡ inserted schema (rows_of (front ++ top ∷ (list_in name below ++ rest))) (placed name new).row
    finish g = ap (λ l. rows_of (front ++ top ∷ l)) now ∙ g ∙ sym (ap (λ l. inserted schema (rows_of (front ++ top ∷ l)) (placed name new).row) old)

    -- no child of lower code: directly behind the parent
    alone : Goal []
    alone =
        inserted_placed schema new name front top [] (twins ++ (more ++ rest))
        (ap (λ (b : Bool). b || is_lower_child (placed name new).row top.row || is_twin_before schema (placed name new).row top.row) (name_itself s.name))
        (record { none = back_off; deeper = refl; next = starts })

    -- behind the last child of lower code, and what is below it
    behind : LastOf types n name (heads_in y.before) before → Goal before
    behind x =
        let l = f.level in
        let tail_deep : list_all (is_deep types (level_of types new.code + 1)) x.tail ≡ true = subst (λ (m : ℕ). list_all (is_deep types (m + 1)) x.tail ≡ true) (sym l) x.deep in
        let within : (p : Placed) → Among p x.tail → Among p before = λ p a. subst (λ (q : List Placed). Among p q) (sym x.is) (among_right p x.front (placed name x.last ∷ x.tail) (inr a)) in
        let tail_off : list_all test x.tail ≡ true =
        all_among test x.tail
        (λ p a. stranger schema new s.name p (other p (among_left p before (twins ++ more) (within p a)))
        (λ e. let d = leb-true (n + 1) (row_level types p.row) (among_passes (is_deep types (n + 1)) p x.tail a x.deep) in
        let same = child_level_in types n y.codes y.at_level name y.before y.typed_before named_before p (within p a) e in omega (arith, d, same))) in
        let lower : is_lower_child (placed name new).row (placed name x.last).row ≡ true = and_from (same_name s.name s.name) (nat_lt x.last.code new.code) (name_itself s.name) (lt-ltb x.last.code new.code (y.low x.last x.among)) in
        let stands : stands_before schema (placed name new).row (placed name x.last).row ≡ true =
        ap (λ (b : Bool). b || is_twin_before schema (placed name new).row (placed name x.last).row) (or_right (is_parent (placed name x.last).row (placed name new).row) (is_lower_child (placed name new).row (placed name x.last).row) lower) in
        let shape : (back_rows : List Placed) → front ++ top ∷ (before ++ back_rows) ≡ (front ++ top ∷ x.front) ++ placed name x.last ∷ (x.tail ++ back_rows) = λ back_rows.
        ap (λ q. front ++ top ∷ (q ++ back_rows)) x.is ∙ ap (λ q. front ++ top ∷ q) (append_assoc x.front (placed name x.last ∷ x.tail) back_rows) ∙ sym (append_assoc front (top ∷ x.front) (placed name x.last ∷ (x.tail ++ back_rows))) in
        ap rows_of (shape (placed name new ∷ (twins ++ (more ++ rest))))
        ∙ inserted_placed schema new name (front ++ top ∷ x.front) (placed name x.last) x.tail (twins ++ (more ++ rest)) stands
        (record { none = all_append test x.tail (twins ++ (more ++ rest)) tail_off back_off; deeper = tail_deep; next = starts })
        ∙ sym (ap (λ q. inserted schema (rows_of q) (placed name new).row) (shape (twins ++ (more ++ rest))))

    by : (list_in name y.before ≡ []) ⊎ LastOf types n name (heads_in y.before) (list_in name y.before)
        → rows_of (front ++ top ∷ (list_in name change ++ rest)) ≡ inserted schema (rows_of (front ++ top ∷ (list_in name below ++ rest))) (placed name new).row
    by (inl e) = finish (subst (λ (l : List Placed). Goal l) (sym e) alone)
    by (inr x) = finish (behind x)

pub child_of_level : (schema : Schema) (new : Occurrence) (n : ℕ) (codes : List ℕ) (k : ℕ) → AtLevel schema.types n codes → slice_get codes k ≡ Some new.code → level_of schema.types new.code ≡ n
child_of_level schema new n [] k all e = cc
child_of_level schema new n (c ∷ codes) zero all e = ap (level_of schema.types) (sym (same_some c new.code e)) ∙ all.0
child_of_level schema new n (c ∷ codes) (suc k) all e = child_of_level schema new n codes k (all.1) e

pub first_children_are_inserted : SchemasAreKept → ((schema : Schema) → IsTotalOrder (root_cmp schema)) → FirstChildrenAreInserted
first_children_are_inserted kept total schema cells firsts trees above place cell new kinds r within names rise stands code next_stays =
    let types = schema.types in
    let x = segment_at schema (deepens kept schema) cells firsts trees r above (within.met above refl) (λ s below next. segment s (with_chain place (before_twins new kinds) below) next) in
    let own = typed types x.s.code x.s x.below x.next x.typed in
    let same : cell_of x.s x.below x.next ≡ cell = some_cell (cell_of x.s x.below x.next) cell (sym (ap cells (sym x.at) ∙ x.hangs.1) ∙ stands) in
    let at : slice_get (child_codes types x.s.code) place ≡ Some new.code = ap (λ (c : Cell). slice_get (child_codes types c.code) place) same ∙ code in
    let y = at_place schema (level_of types x.s.code + 1) (child_codes types x.s.code) (children_level types (deepens kept schema) x.s.code) (children_climb types x.s.code) (Some x.s.name) (before_twins new kinds) cells place new.code x.below own.under (x.hangs.2) at in
    let top : Placed = placed x.parent x.s in
    let low : List Placed = list_in (Some x.s.name) x.below in
    let rest : List Placed = list_of x.parent x.next ++ x.back in
    let was : list_in None trees ≡ x.front ++ top ∷ (low ++ rest) = x.was ∙ ap (λ l. x.front ++ top ∷ l) (append_assoc low (list_of x.parent x.next) x.back) in
    let is : list_in None (with_segment (Below above place) new kinds trees) ≡ x.front ++ top ∷ (list_in (Some x.s.name) (with_chain place (before_twins new kinds) x.below) ++ rest) =
    x.is ∙ ap (λ l. x.front ++ top ∷ l) (append_assoc (list_in (Some x.s.name) (with_chain place (before_twins new kinds) x.below)) (list_of x.parent x.next) x.back) in
    let named = named_roots trees names in
    let apart_rows : all_pairs apart (x.front ++ top ∷ (low ++ rest)) ≡ true = subst (λ (l : List Placed). all_pairs apart l ≡ true) was named.differ in
    let found : Found schema cells new x.parent x.s x.below x.next x.front x.back = record {
      fence = x.fenced named;
      level = child_of_level schema new (level_of types x.s.code + 1) (child_codes types x.s.code) place (children_level types (deepens kept schema) x.s.code) at;
      own = x.typed;
      upto = x.upto;
      others = λ p a e. apart_names top.row p.row (among_passes (apart top) p (low ++ rest) a (pairs_at apart x.front (low ++ rest) top apart_rows).behind) (sym e);
    } in
    let t = topped x.parent x.s x.below x.next found.fence.own in
    let parts = parted (Some x.s.name) (list_of (Some x.s.name) y.twins) (list_in (Some x.s.name) y.more) (parted (Some x.s.name) (list_in (Some x.s.name) y.before) (list_of (Some x.s.name) y.twins ++ list_in (Some x.s.name) y.more) (subst (λ (l : List Placed). Named (Some x.s.name) l) y.was t.low)).back in
    let pairs : all_pairs (by_key schema) (list_in None trees) ≡ true = sym (pairs_rows (in_twin_order schema) (list_in None trees)) ∙ rise in
    let of_low = pairs_parts (by_key schema) low rest (and_parts (list_all (by_key schema top) (low ++ rest)) (all_pairs (by_key schema) (low ++ rest)) (pairs_parts (by_key schema) x.front (top ∷ (low ++ rest)) (subst (λ (l : List Placed). all_pairs (by_key schema) l ≡ true) was pairs)).back).1 in
    let of_twins = pairs_parts (by_key schema) (list_of (Some x.s.name) y.twins) (list_in (Some x.s.name) y.more) (pairs_parts (by_key schema) (list_in (Some x.s.name) y.before) (list_of (Some x.s.name) y.twins ++ list_in (Some x.s.name) y.more)
    (subst (λ (l : List Placed). all_pairs (by_key schema) l ≡ true) y.was of_low.front)).back in
    let follow : twins_follow schema y.twins ≡ true = sym (keys_of schema (Some x.s.name) new.code y.twins y.typed) ∙ sym (pairs_of (by_key schema) (by_key_of schema) (Some x.s.name) y.twins parts.front) ∙ of_twins.front in
    let leads : slice_index (firsts_of x.below) place ≡ leads_to (Below above place) cells firsts = sym (ap (λ (o : Option Cell). option_map_or (λ (c : Cell). slice_index c.children place) o 0) (ap cells (sym x.at) ∙ x.hangs.1)) in
    let stays = all_stay schema (total schema) new.code new y.twins y.typed follow (λ s below next e. first s below next (sym (ap first_of e) ∙ y.led ∙ leads) (subst (λ (u : Twins). Hangs cells u) e y.hangs)) in
    let done = child_found kept schema cells new kinds x.parent x.s x.below x.next x.front x.back (slice_index (firsts_of x.below) place) (with_chain place (before_twins new kinds) x.below) found y stays in
    ap rows_of is ∙ subst (λ (m : Ilk). rows_of (x.front ++ top ∷ (list_in (Some x.s.name) (with_chain place (before_twins new kinds) x.below) ++ rest)) ≡ inserted schema (rows_of (x.front ++ top ∷ (low ++ rest))) (placed (Some m) new).row) (ap (λ (c : Cell). c.name) same) done
    ∙ ap (λ (l : List Placed). inserted schema (rows_of l) (placed (Some cell.name) new).row) (sym was)
  where
    some_cell : (a b : Cell) → Some a ≡ Some b → a ≡ b
    some_cell a b e = cc

    first : (s : Occurrence) (below : Chains) (next : Twins) → s.home ≡ leads_to (Below above place) cells firsts → Hangs cells (segment s below next) → stays_behind schema new s ≡ true
    first s below next e h = next_stays (cell_of s below next) (subst (λ (m : ℕ). 0 < m) e (h.0)) (ap cells (sym e) ∙ h.1)

-- ---- a first root

record RootAt (types : List SegType) (new : Occurrence) (old now : Chains) : Type 0 where
  pub before : Chains
  pub rest : Chains
  pub typed_before : are_roots types before ≡ true
  pub typed_rest : are_roots types rest ≡ true
  pub was : list_in None old ≡ list_in None before ++ list_in None rest
  pub is : list_in None now ≡ list_in None before ++ placed None new ∷ list_in None rest
  pub heads : heads_in now ≡ heads_in before ++ new ∷ heads_in rest

root_at : (types : List SegType) (new : Occurrence) (kinds at : ℕ) (trees : Chains) → are_roots types trees ≡ true → at < length (firsts_of trees) → RootAt types new trees (with_chain at (before_twins new kinds) trees)
root_at types new kinds at no_chain h l = absurd (omega (arith, l))
root_at types new kinds zero (chain twins more) h l = record {
  before = no_chain;
  rest = chain twins more;
  typed_before = refl;
  typed_rest = h;
  was = refl;
  is = ap (λ q. placed None new ∷ ((q ++ list_of None twins) ++ list_in None more)) (bare_list (Some new.name) kinds);
  heads = refl;
}
root_at types new kinds (suc at) (chain twins more) h l =
    let p = and_parts (are_of types 1 twins) (are_roots types more) h in
    let y = root_at types new kinds at more p.1 (omega (arith, l)) in
    record {
      before = chain twins y.before;
      rest = y.rest;
      typed_before = and_from (are_of types 1 twins) (are_roots types y.before) p.0 y.typed_before;
      typed_rest = y.typed_rest;
      was = ap (λ q. list_of None twins ++ q) y.was ∙ sym (append_assoc (list_of None twins) (list_in None y.before) (list_in None y.rest));
      is = ap (λ q. list_of None twins ++ q) y.is ∙ sym (append_assoc (list_of None twins) (list_in None y.before) (placed None new ∷ list_in None y.rest));
      heads = ap (λ q. heads_of twins ++ q) y.heads ∙ sym (append_assoc (heads_of twins) (heads_in y.before) (new ∷ heads_in y.rest));
    }

root_inserted : SchemasAreKept → ((schema : Schema) → IsTotalOrder (root_cmp schema)) → (schema : Schema) (new : Occurrence) (old now : Chains) → RootAt schema.types new old now → new.code ≡ 1 → roots_rise schema (heads_in now) ≡ true
    → rows_of (list_in None now) ≡ inserted schema (rows_of (list_in None old)) (placed None new).row
root_inserted kept total schema new old now x one rise =
    let row : Row = (placed None new).row in
    let single : inserted schema [] row ≡ row ∷ [] = inserted_between.front schema row [] (record { none = refl; deeper = refl; next = refl }) in
    ap rows_of x.is ∙ append_rows (list_in None x.before) (placed None new ∷ list_in None x.rest)
    ∙ sym (ap (λ q. inserted schema (rows_of q) row) x.was ∙ ap (λ q. inserted schema q row) (append_rows (list_in None x.before) (list_in None x.rest))
    ∙ at_front schema (rows_of (list_in None x.before)) [] (rows_of (list_in None x.rest)) row (ap (level_of schema.types) one ∙ (kept schema).root_level) (top_trees kept schema x.before x.typed_before) (λ r m e. absurd (none r m e))
    (top_trees kept schema x.rest x.typed_rest) before refl behind
    ∙ ap (λ q. rows_of (list_in None x.before) ++ (q ++ rows_of (list_in None x.rest))) single)
  where
    none : (r : Row) (m : List Row) → [] ≡ r ∷ m → ⊥
    none r m e = cc

    order : all_pairs (λ a b. is_lt (root_cmp schema (key_of schema a) (key_of schema b))) (heads_in x.before ++ new ∷ heads_in x.rest) ≡ true
    order = ap (roots_rise schema) (sym x.heads) ∙ rise

    before : AllBefore schema (placed None new).row (rows_of (list_in None x.before))
    before r m low =
        let p = among_row r (list_in None x.before) m in
        let same : row_level schema.types (p.0).row ≡ row_level schema.types r = ap (row_level schema.types) (p.2) in
        let h = head_in kept schema x.before x.typed_before (p.0) (p.1) (omega (arith, same, low)) in
        subst (λ (q : Row). stands_before schema (placed None new).row q ≡ true) (ap (λ (z : Placed). z.row) h.is ∙ p.2)
        (root_before schema h.root new (sym (root_codes schema.types x.before x.typed_before h.root h.among)) one (among_passes (λ a. is_lt (root_cmp schema (key_of schema a) (key_of schema new))) h.root (heads_in x.before) h.among
        (pairs_at (λ a b. is_lt (root_cmp schema (key_of schema a) (key_of schema b))) (heads_in x.before) (heads_in x.rest) new order).before))

    behind : none_before schema (placed None new).row (rows_of (list_in None x.rest))
    behind = sym (rows_pass (λ r. not (stands_before schema (placed None new).row r)) (list_in None x.rest)) ∙ all_among (λ (p : Placed). not (stands_before schema (placed None new).row p.row)) (list_in None x.rest) each
      where
        each : (p : Placed) → Among p (list_in None x.rest) → not (stands_before schema (placed None new).row p.row) ≡ true
        each p m = at_level (nat_lt 1 (row_level schema.types p.row)) refl
          where
            at_level : (b : Bool) → nat_lt 1 (row_level schema.types p.row) ≡ b → not (stands_before schema (placed None new).row p.row) ≡ true
            at_level true e = deeper_off kept schema new p.row one (ltb-true 1 (row_level schema.types p.row) e)
            at_level false e =
                let h = head_in kept schema x.rest x.typed_rest p m (ltb-false 1 (row_level schema.types p.row) e) in
                subst (λ (q : Placed). not (stands_before schema (placed None new).row q.row) ≡ true) h.is
                (root_behind schema (total schema) h.root new (sym (root_codes schema.types x.rest x.typed_rest h.root h.among)) one (among_passes (λ b. is_lt (root_cmp schema (key_of schema new) (key_of schema b))) h.root (heads_in x.rest) h.among
                (pairs_at (λ a b. is_lt (root_cmp schema (key_of schema a) (key_of schema b))) (heads_in x.before) (heads_in x.rest) new order).behind))

pub first_roots_are_inserted : SchemasAreKept → ((schema : Schema) → IsTotalOrder (root_cmp schema)) → FirstRootsAreInserted
first_roots_are_inserted kept total schema trees at new kinds typed_roots l one rise =
    root_inserted kept total schema new trees (with_segment (Root at) new kinds trees) (root_at schema.types new kinds at trees typed_roots l) one rise

-- ---- a root behind a root

-- a chain up to a root, and from there on
record ChainAt (types : List SegType) (new : Occurrence) (old now : Twins) : Type 0 where
  pub before : Twins
  pub later : Twins
  pub typed_before : are_of types 1 before ≡ true
  pub typed_later : are_of types 1 later ≡ true
  pub was : list_of None old ≡ list_of None before ++ list_of None later
  pub is : list_of None now ≡ list_of None before ++ placed None new ∷ list_of None later
  pub heads : heads_of now ≡ heads_of before ++ new ∷ heads_of later

-- below roots the home of a root isn't met
abbrev NotBelow : List SegType → (ℕ → Option Cell) → ℕ → Type 0
NotBelow types cells prior = (name : Option Ilk) (below : Chains) → are_chains_of types (child_codes types 1) below ≡ true → HangIn cells below → times_in prior below ≤ 1 → times_in prior below ≡ 0

not_below : SchemasAreKept → (schema : Schema) (cells : ℕ → Option Cell) (prior : ℕ) (cell : Cell) → cells prior ≡ Some cell → cell.code ≡ 1 → NotBelow schema.types cells prior
not_below kept schema cells prior cell stands one name below h hang few = by (times_in prior below) refl
  where
    code_of : (a b : Cell) → Some a ≡ Some b → a.code ≡ b.code
    code_of a b e = ap (λ (o : Option Cell). option_map_or (λ (c : Cell). c.code) o 0) e

    by : (n : ℕ) → times_in prior below ≡ n → times_in prior below ≡ 0
    by zero e = e
    by (suc n) e =
        let x = split_in schema.types (deepens kept schema) cells prior (λ s below next. segment s below next) (level_of schema.types 1 + 1) (child_codes schema.types 1) (children_level schema.types (deepens kept schema) 1) name below h hang (omega (arith, e, few)) in
        let code = code_of (cell_of x.s x.below x.next) cell (sym (ap cells (sym x.at) ∙ x.hangs.1) ∙ stands) ∙ one in
        let level = ap (level_of schema.types) code in
        let deep = x.deep in
        absurd (omega (arith, level, deep))

chain_behind : (schema : Schema) (cells : ℕ → Option Cell) (new : Occurrence) (kinds prior : ℕ) → NotBelow schema.types cells prior → (twins : Twins) → are_of schema.types 1 twins ≡ true → Hangs cells twins → times prior twins ≡ 1
    → ChainAt schema.types new twins (at_home prior (λ s below next. segment s below (before_twins new kinds next)) twins)
chain_behind schema cells new kinds prior low no_segment h hang one = absurd (omega (arith, one))
chain_behind schema cells new kinds prior low (segment s below next) h hang one =
    let t = typed schema.types 1 s below next h in
    by t (s.home == prior) refl (low None below t.under (hang.2) (omega (arith, one))) (λ q. chain_behind schema cells new kinds prior low next t.later (hang.3) q)
  where
    types : List SegType
    types = schema.types

    under_it : List Placed
    under_it = list_in (Some s.name) below

    edit : Occurrence → Chains → Twins → Twins
    edit t under later = segment t under (before_twins new kinds later)

    by : Typed types 1 s below next → (b : Bool) → (s.home == prior) ≡ b → times_in prior below ≡ 0 → (times prior next ≡ 1 → ChainAt types new next (at_home prior (λ s below next. segment s below (before_twins new kinds next)) next))
        → ChainAt types new (segment s below next)
        (if b then segment s below (before_twins new kinds next)
        else segment s (in_home prior (λ s below next. segment s below (before_twins new kinds next)) below) (at_home prior (λ s below next. segment s below (before_twins new kinds next)) next))
    by t true e none rest = record {
      before = segment s below no_segment;
      later = next;
      typed_before = from_typed types 1 s below no_segment t.code_is t.under refl;
      typed_later = t.later;
      was = ap (λ l. placed None s ∷ (l ++ list_of None next)) (sym (append-nil under_it));
      is = ap (λ l. placed None s ∷ (under_it ++ placed None new ∷ (l ++ list_of None next))) (bare_list (Some new.name) kinds) ∙ ap (λ l. placed None s ∷ (l ++ placed None new ∷ list_of None next)) (sym (append-nil under_it));
      heads = refl;
    }
    by t false e none rest =
        let off = here_off prior s e in
        let y = rest (omega (arith, one, none, off)) in
        let same = absent_in prior (λ s below next. segment s below (before_twins new kinds next)) below none in
        record {
          before = segment s below y.before;
          later = y.later;
          typed_before = from_typed types 1 s below y.before t.code_is t.under y.typed_before;
          typed_later = y.typed_later;
          was = ap (λ l. placed None s ∷ (under_it ++ l)) y.was ∙ ap (λ l. placed None s ∷ l) (sym (append_assoc under_it (list_of None y.before) (list_of None y.later)));
          is = ap (λ (c : Chains). placed None s ∷ (list_in (Some s.name) c ++ list_of None (at_home prior (λ s below next. segment s below (before_twins new kinds next)) next))) same
              ∙ ap (λ l. placed None s ∷ (under_it ++ l)) y.is ∙ ap (λ l. placed None s ∷ l) (sym (append_assoc under_it (list_of None y.before) (placed None new ∷ list_of None y.later)));
          heads = ap (λ l. s ∷ l) y.heads;
        }

trees_behind : (schema : Schema) (cells : ℕ → Option Cell) (new : Occurrence) (kinds prior : ℕ) → NotBelow schema.types cells prior → (trees : Chains) → are_roots schema.types trees ≡ true → HangIn cells trees → times_in prior trees ≡ 1
    → RootAt schema.types new trees (in_home prior (λ s below next. segment s below (before_twins new kinds next)) trees)
trees_behind schema cells new kinds prior low no_chain h hang one = absurd (omega (arith, one))
trees_behind schema cells new kinds prior low (chain twins more) h hang one =
    let p = and_parts (are_of schema.types 1 twins) (are_roots schema.types more) h in
    by p.0 p.1 (times prior twins) refl (λ q. chain_behind schema cells new kinds prior low twins p.0 (hang.0) q) (λ q. trees_behind schema cells new kinds prior low more p.1 (hang.1) q)
  where
    by : are_of schema.types 1 twins ≡ true → are_roots schema.types more ≡ true → (n : ℕ) → times prior twins ≡ n → (times prior twins ≡ 1 → ChainAt schema.types new twins (at_home prior (λ s below next. segment s below (before_twins new kinds next)) twins))
        → (times_in prior more ≡ 1 → RootAt schema.types new more (in_home prior (λ s below next. segment s below (before_twins new kinds next)) more)) → RootAt schema.types new (chain twins more) (in_home prior (λ s below next. segment s below (before_twins new kinds next)) (chain twins more))
    by a b zero e first rest =
        let y = rest (omega (arith, one, e)) in
        let same = absent prior (λ s below next. segment s below (before_twins new kinds next)) twins e in
        record {
          before = chain twins y.before;
          rest = y.rest;
          typed_before = and_from (are_of schema.types 1 twins) (are_roots schema.types y.before) a y.typed_before;
          typed_rest = y.typed_rest;
          was = ap (λ q. list_of None twins ++ q) y.was ∙ sym (append_assoc (list_of None twins) (list_in None y.before) (list_in None y.rest));
          is = ap (λ (u : Twins). list_of None u ++ list_in None (in_home prior (λ s below next. segment s below (before_twins new kinds next)) more)) same ∙ ap (λ q. list_of None twins ++ q) y.is
              ∙ sym (append_assoc (list_of None twins) (list_in None y.before) (placed None new ∷ list_in None y.rest));
          heads = ap (λ (u : Twins). heads_of u ++ heads_in (in_home prior (λ s below next. segment s below (before_twins new kinds next)) more)) same ∙ ap (λ q. heads_of twins ++ q) y.heads
              ∙ sym (append_assoc (heads_of twins) (heads_in y.before) (new ∷ heads_in y.rest));
        }
    by a b (suc n) e first rest =
        let x = first (omega (arith, one, e)) in
        let same = absent_in prior (λ s below next. segment s below (before_twins new kinds next)) more (omega (arith, one, e)) in
        record {
          before = chain x.before no_chain;
          rest = chain x.later more;
          typed_before = and_from (are_of schema.types 1 x.before) true x.typed_before refl;
          typed_rest = and_from (are_of schema.types 1 x.later) (are_roots schema.types more) x.typed_later b;
          was = ap (λ q. q ++ list_in None more) x.was ∙ append_assoc (list_of None x.before) (list_of None x.later) (list_in None more) ∙ ap (λ q. q ++ (list_of None x.later ++ list_in None more)) (sym (append-nil (list_of None x.before)));
          is = ap (λ (c : Chains). list_of None (at_home prior (λ s below next. segment s below (before_twins new kinds next)) twins) ++ list_in None c) same ∙ ap (λ q. q ++ list_in None more) x.is
              ∙ append_assoc (list_of None x.before) (placed None new ∷ list_of None x.later) (list_in None more) ∙ ap (λ q. q ++ placed None new ∷ (list_of None x.later ++ list_in None more)) (sym (append-nil (list_of None x.before)));
          heads = ap (λ (c : Chains). heads_of (at_home prior (λ s below next. segment s below (before_twins new kinds next)) twins) ++ heads_in c) same ∙ ap (λ q. q ++ heads_in more) x.heads
              ∙ append_assoc (heads_of x.before) (new ∷ heads_of x.later) (heads_in more) ∙ ap (λ q. q ++ new ∷ (heads_of x.later ++ heads_in more)) (sym (append-nil (heads_of x.before)));
        }

pub later_roots_are_inserted : SchemasAreKept → ((schema : Schema) → IsTotalOrder (root_cmp schema)) → LaterRootsAreInserted
later_roots_are_inserted kept total schema cells firsts trees prior cell new kinds r met stands code one rise =
    let few = r.once prior in
    root_inserted kept total schema new trees (with_segment (Behind prior) new kinds trees)
    (trees_behind schema cells new kinds prior (not_below kept schema cells prior cell stands code) trees r.typed r.from.hang (omega (arith, few, met))) one rise
