-- What a change of trees is on their list.
use Rattle.std.proofs.Common.{◌≡◌, ℕ, zero, suc, ◌+◌, ◌<◌, ◌≤◌, ◌==◌, Bool, true, false, not, cond, List, [], ◌∷◌, ◌++◌, length, take, drop, Option, None, Some, refl, sym, ap, subst, ◌∙◌, arith}
use Rattle.std.specs.Prelude.{slice_index, take_while}
use Rattle.std.specs.List.{list_all, prefix_len}
use Rattle.std.specs.Option.{option_map_or}
use Rattle.std.proofs.lemmas.Bool.{and_parts, and_from, eq-eqb, not-true, not_from_false, leb-true, le-ltb, lt-ltb}
use Rattle.std.proofs.lemmas.List.{append_assoc}
use Rattle.hal_base.specs.declared.place.Ilk.{Ilk}
use Rattle.hal_schema.specs.declared.schema.SegType.{SegType}
use Rattle.hal_schema.specs.declared.schema.Schema.{Schema}
use Rattle.hal_schema.specs.SegType.{level_of}
use Rattle.hal_schema.specs.Row.{row_level}
use Rattle.hal_schema.specs.Facts.{SchemasAreKept}
use Rattle.hal_schema.specs.Span.{with_content}
use Rattle.segment_blocks.specs.declared.tile.Cell.{Cell}
use Rattle.forest_laws.proofs.Lists.{all_weaker, drop_front}
use Rattle.record_walk.specs.Tree.{Occurrence, Twins, no_segment, segment, Chains, no_chain, chain, first_of, firsts_of, cell_of, here, times, times_in, child_codes, are_of}
use Rattle.record_walk.specs.Listing.{Placed, placed, list_of, list_in}
use Rattle.record_walk.specs.Pointers.{Pointer, Behind, Below, Root, with_chain, in_home, with_pointer, bare, before_twins, behind_first, without_segment}
use Rattle.record_walk.specs.Changes.{leads_to}
use Rattle.record_walk.specs.Spans.{lies_below, starts_upto, span_at, without_span_at, replaced_at, AreRecords, IsIn, NewSegmentsAreListed, NewTwinsStandBehindSpans, CutsAreSpans, ReplacedContentIsListed}
use Rattle.record_walk.proofs.Levels.{Deepens, children_level, typed, is_deep, deep_in, starts_append, starts_of, starts_less, ones, roots_typed, ones_level}
use Rattle.record_walk.proofs.Splitting.{Split, split_in, ChainIn, chain_in}

pub deepens : SchemasAreKept → (schema : Schema) → Deepens schema.types
deepens kept schema above code e = ((kept schema).below above code e).level

-- ---- homes of a list

abbrev pub is_at : ℕ → Placed → Bool
is_at home p = p.home == home

unfoldable pub count : ℕ → List Placed → ℕ
count home [] = 0
count home (p ∷ list) = cond (p.home == home) 1 0 + count home list

pub count_append : (home : ℕ) (xs ys : List Placed) → count home (xs ++ ys) ≡ count home xs + count home ys
unfolding count
count_append home [] ys = omega arith
count_append home (x ∷ xs) ys = let e = count_append home xs ys in omega (arith, e)

here_is : (home : ℕ) (s : Occurrence) → here home s ≡ cond (s.home == home) 1 0
unfolding here
here_is home s = refl

mutual
  unfolding count

  pub counted : (home : ℕ) (parent : Option Ilk) (twins : Twins) → times home twins ≡ count home (list_of parent twins)
  counted home parent no_segment = refl
  counted home parent (segment s below next) =
      let a = here_is home s in
      let b = counted_in home (Some s.name) below in
      let c = counted home parent next in
      let d = count_append home (list_in (Some s.name) below) (list_of parent next) in
      omega (arith, a, b, c, d)

  pub counted_in : (home : ℕ) (parent : Option Ilk) (chains : Chains) → times_in home chains ≡ count home (list_in parent chains)
  counted_in home parent no_chain = refl
  counted_in home parent (chain twins more) =
      let a = counted home parent twins in
      let b = counted_in home parent more in
      let c = count_append home (list_of parent twins) (list_in parent more) in
      omega (arith, a, b, c)

pub none_at : (home : ℕ) (list : List Placed) → count home list ≡ 0 → list_all (λ p. not (is_at home p)) list ≡ true
unfolding count
none_at home [] h = refl
none_at home (p ∷ list) h = by (p.home == home) refl (none_at home list (omega (arith, h)))
  where
    by : (b : Bool) → (p.home == home) ≡ b → list_all (λ q. not (is_at home q)) list ≡ true → list_all (λ q. not (is_at home q)) (p ∷ list) ≡ true
    by true e rest = let one : ◌≡◌ {A = ℕ} (cond (p.home == home) 1 0) 1 = ap (λ (c : Bool). cond {A = ℕ} c 1 0) e in absurd (omega (arith, one, h))
    by false e rest = and_from (not (is_at home p)) (list_all (λ q. not (is_at home q)) list) (not_from_false (p.home == home) e) rest

-- a row that is met once has none of its home before or behind it
pub record Alone (front : List Placed) (p : Placed) (rest : List Placed) : Type 0 where
  pub before : list_all (λ q. not (is_at p.home q)) front ≡ true
  pub behind : list_all (λ q. not (is_at p.home q)) rest ≡ true

pub alone_at : (trees : Chains) → ((home : ℕ) → times_in home trees ≤ 1) → (front : List Placed) (p : Placed) (rest : List Placed) → list_in None trees ≡ front ++ p ∷ rest → Alone front p rest
unfolding count
alone_at trees once front p rest was =
    let own : ◌≡◌ {A = ℕ} (cond (p.home == p.home) 1 0) 1 = ap (λ (c : Bool). cond {A = ℕ} c 1 0) (eq-eqb p.home p.home refl) in
    let few = once p.home in
    let all = counted_in p.home None trees ∙ ap (count p.home) was ∙ count_append p.home front (p ∷ rest) in
    record { before = none_at p.home front (omega (arith, own, few, all)); behind = none_at p.home rest (omega (arith, own, few, all)) }

-- ---- spans

pub take_front : {X : Type 0} (xs ys : List X) → take (length xs) (xs ++ ys) ≡ xs
take_front [] ys = refl
take_front (x ∷ xs) ys = ap (λ l. x ∷ l) (take_front xs ys)

prefix_is : (types : List SegType) (p : Placed) (below back : List Placed) → list_all (lies_below types p) below ≡ true → starts_upto types (row_level types p.row) back ≡ true
    → prefix_len (lies_below types p) (below ++ back) ≡ length below
prefix_is types p [] [] deep starts = refl
prefix_is types p [] (q ∷ back) deep starts =
    ap (λ (b : Bool). cond {A = ℕ} b (1 + prefix_len (lies_below types p) back) 0) (le-ltb (row_level types p.row) (row_level types q.row) (leb-true (row_level types q.row) (row_level types p.row) starts))
prefix_is types p (q ∷ below) back deep starts =
    let a = and_parts (lies_below types p q) (list_all (lies_below types p) below) deep in
    let e = prefix_is types p below back a.1 starts in
    ap (λ (b : Bool). cond {A = ℕ} b (1 + prefix_len (lies_below types p) (below ++ back)) 0) a.0 ∙ omega (arith, e)

pub record SpanIs (types : List SegType) (front : List Placed) (p : Placed) (below back : List Placed) : Type 0 where
  pub span : span_at types (front ++ p ∷ (below ++ back)) p.home ≡ p ∷ below
  pub without : without_span_at types (front ++ p ∷ (below ++ back)) p.home ≡ front ++ back

pub span_is : (types : List SegType) (front : List Placed) (p : Placed) (below back : List Placed) → list_all (λ q. not (is_at p.home q)) front ≡ true → list_all (lies_below types p) below ≡ true
    → starts_upto types (row_level types p.row) back ≡ true → SpanIs types front p below back
span_is types [] p below back off deep starts =
    let own = eq-eqb p.home p.home refl in
    let long = prefix_is types p below back deep starts in
    record {
      span = ap (λ (b : Bool). cond b (p ∷ take_while (lies_below types p) (below ++ back)) (span_at types (below ++ back) p.home)) own
          ∙ ap (λ (n : ℕ). p ∷ take n (below ++ back)) long ∙ ap (λ l. p ∷ l) (take_front below back);
      without = ap (λ (b : Bool). cond b (drop (prefix_len (lies_below types p) (below ++ back)) (below ++ back)) (p ∷ without_span_at types (below ++ back) p.home)) own
          ∙ ap (λ (n : ℕ). drop n (below ++ back)) long ∙ drop_front below back;
    }
span_is types (q ∷ front) p below back off deep starts =
    let a = and_parts (not (is_at p.home q)) (list_all (λ r. not (is_at p.home r)) front) off in
    let other = not-true (is_at p.home q) a.0 in
    let rest = span_is types front p below back a.1 deep starts in
    let list : List Placed = front ++ p ∷ (below ++ back) in
    record {
      span = ap (λ (b : Bool). cond b (q ∷ take_while (lies_below types q) list) (span_at types list p.home)) other ∙ rest.span;
      without = ap (λ (b : Bool). cond b (drop (prefix_len (lies_below types q) list) list) (q ∷ without_span_at types list p.home)) other ∙ ap (λ l. q ∷ l) rest.without;
    }

-- all that is below a segment lies below its row
pub below_lies : (types : List SegType) → Deepens types → (parent : Option Ilk) (s : Occurrence) (below : Chains) (next : Twins) → are_of types s.code (segment s below next) ≡ true
    → list_all (lies_below types (placed parent s)) (list_in (Some s.name) below) ≡ true
below_lies types deepens parent s below next h =
    let t = typed types s.code s below next h in
    all_weaker (is_deep types (level_of types s.code + 1)) (lies_below types (placed parent s))
    (λ q k. let l = leb-true (level_of types s.code + 1) (row_level types q.row) k in lt-ltb (level_of types s.code) (row_level types q.row) (omega (arith, l))) (list_in (Some s.name) below)
    (deep_in types deepens (level_of types s.code + 1) (level_of types s.code + 1) (child_codes types s.code) (children_level types deepens s.code) (Some s.name) below t.under (omega arith))

-- ---- the chain behind a pointer

pub bare_list : (parent : Option Ilk) (kinds : ℕ) → list_in parent (bare kinds) ≡ []
bare_list parent zero = refl
bare_list parent (suc kinds) = bare_list parent kinds

one_time : (home : ℕ) (trees : Chains) → ((o : ℕ) → times_in o trees ≤ 1) → 0 < times_in home trees → times_in home trees ≡ 1
one_time home trees once m = let few = once home in omega (arith, few, m)

-- where a segment stands among the trees of records
pub segment_in : (schema : Schema) → Deepens schema.types → (cells : ℕ → Option Cell) (firsts : List ℕ) (trees : Chains) → AreRecords schema cells firsts trees → (home : ℕ) → 0 < times_in home trees → (edit : Occurrence → Chains → Twins → Twins)
    → Split schema.types cells (level_of schema.types 1) home edit None (list_in None trees) (list_in None (in_home home edit trees))
segment_in schema deepens cells firsts trees r home m edit =
    split_in schema.types deepens cells home edit (level_of schema.types 1) (ones trees) (ones_level schema.types trees) None trees (roots_typed schema.types trees r.typed) r.from.hang (one_time home trees r.once m)

same_ends : (a b : List Placed) (s : Placed) (c d : List Placed) → a ++ ((s ∷ (b ++ c)) ++ d) ≡ (a ++ s ∷ b) ++ (c ++ d)
same_ends a b s c d = ap (λ l. a ++ s ∷ l) (append_assoc b c d) ∙ sym (append_assoc a (s ∷ b) (c ++ d))

chain_behind : (schema : Schema) → Deepens schema.types → (cells : ℕ → Option Cell) (firsts : List ℕ) (trees : Chains) → AreRecords schema cells firsts trees → (prior : ℕ) → 0 < times_in prior trees → (change : Twins → Twins)
    → ChainIn schema.types cells (leads_to (Behind prior) cells firsts) change (list_in None trees) (list_in None (with_pointer (Behind prior) change trees))
chain_behind schema deepens cells firsts trees r prior m change =
    let x = segment_in schema deepens cells firsts trees r prior m (λ s below next. segment s below (change next)) in
    let t = typed schema.types x.s.code x.s x.below x.next x.typed in
    let under : List Placed = list_in (Some x.s.name) x.below in
    record {
      parent = x.parent;
      code = x.s.code;
      twins = x.next;
      front = x.front ++ placed x.parent x.s ∷ under;
      back = x.back;
      was = x.was ∙ same_ends x.front under (placed x.parent x.s) (list_of x.parent x.next) x.back;
      is = x.is ∙ same_ends x.front under (placed x.parent x.s) (list_of x.parent (change x.next)) x.back;
      typed = t.later;
      hangs = x.hangs.3;
      upto = x.upto;
      led = sym (ap (λ (o : Option Cell). option_map_or (λ c. c.twin) o 0) (ap cells (sym x.at) ∙ x.hangs.1));
    }

chain_below : (schema : Schema) → Deepens schema.types → (cells : ℕ → Option Cell) (firsts : List ℕ) (trees : Chains) → AreRecords schema cells firsts trees → (above place : ℕ) → IsIn (Below above place) cells firsts trees → (change : Twins → Twins)
    → ChainIn schema.types cells (leads_to (Below above place) cells firsts) change (list_in None trees) (list_in None (with_pointer (Below above place) change trees))
chain_below schema deepens cells firsts trees r above place within change =
    let types = schema.types in
    let x = segment_in schema deepens cells firsts trees r above (within.met above refl) (λ s below next. segment s (with_chain place change below) next) in
    let t = typed types x.s.code x.s x.below x.next x.typed in
    let stands : cells above ≡ Some (cell_of x.s x.below x.next) = ap cells (sym x.at) ∙ x.hangs.1 in
    let pair = chain_in types cells (level_of types x.s.code + 1) (child_codes types x.s.code) (children_level types deepens x.s.code) (Some x.s.name) change place x.below t.under (x.hangs.2) (within.child above place (cell_of x.s x.below x.next) refl stands) in
    let y = pair.0 in
    let level = pair.1 in
    let first : Placed = placed x.parent x.s in
    let next : List Placed = list_of x.parent x.next in
    let back : List Placed = y.back ++ (next ++ x.back) in
    let whole : (part : List Placed) → (list : List Placed) → list ≡ y.front ++ (part ++ y.back) → x.front ++ ((first ∷ (list ++ next)) ++ x.back) ≡ (x.front ++ first ∷ y.front) ++ (part ++ back) = λ part list e.
    ap (λ l. x.front ++ ((first ∷ (l ++ next)) ++ x.back)) e ∙ ap (λ l. x.front ++ first ∷ l) (append_assoc (y.front ++ (part ++ y.back)) next x.back ∙ append_assoc y.front (part ++ y.back) (next ++ x.back) ∙ ap (λ l. y.front ++ l) (append_assoc part y.back (next ++ x.back)))
    ∙ sym (append_assoc x.front (first ∷ y.front) (part ++ back)) in
    record {
      parent = y.parent;
      code = y.code;
      twins = y.twins;
      front = x.front ++ first ∷ y.front;
      back = back;
      was = x.was ∙ whole (list_of y.parent y.twins) (list_in (Some x.s.name) x.below) y.was;
      is = x.is ∙ whole (list_of y.parent (change y.twins)) (list_in (Some x.s.name) (with_chain place change x.below)) y.is;
      typed = y.typed;
      hangs = y.hangs;
      upto = starts_append types (level_of types y.code) y.back (next ++ x.back) y.upto
          (starts_append types (level_of types y.code) next x.back (starts_of types (level_of types y.code) x.s.code x.parent x.next t.later (omega (arith, level))) (starts_less types (level_of types x.s.code) (level_of types y.code) x.back x.upto (omega (arith, level))));
      led = y.led ∙ sym (ap (λ (o : Option Cell). option_map_or (λ c. slice_index c.children place) o 0) stands);
    }

chain_of_row : (schema : Schema) (cells : ℕ → Option Cell) (firsts : List ℕ) (trees : Chains) → AreRecords schema cells firsts trees → (place : ℕ) → place < length firsts → (change : Twins → Twins)
    → ChainIn schema.types cells (leads_to (Root place) cells firsts) change (list_in None trees) (list_in None (with_pointer (Root place) change trees))
chain_of_row schema cells firsts trees r place lt change =
    let same : firsts_of trees ≡ firsts = r.from.first in
    let long = ap (λ (l : List ℕ). length l) same in
    let pair = chain_in schema.types cells (level_of schema.types 1) (ones trees) (ones_level schema.types trees) None change place trees (roots_typed schema.types trees r.typed) r.from.hang (omega (arith, long, lt)) in
    subst (λ (l : List ℕ). ChainIn schema.types cells (slice_index l place) change (list_in None trees) (list_in None (with_chain place change trees))) same (pair.0)

pub chain_of : (schema : Schema) → Deepens schema.types → (cells : ℕ → Option Cell) (firsts : List ℕ) (trees : Chains) → AreRecords schema cells firsts trees → (pointer : Pointer) → IsIn pointer cells firsts trees → (change : Twins → Twins)
    → ChainIn schema.types cells (leads_to pointer cells firsts) change (list_in None trees) (list_in None (with_pointer pointer change trees))
chain_of schema deepens cells firsts trees r (Behind prior) within change = chain_behind schema deepens cells firsts trees r prior (within.met prior refl) change
chain_of schema deepens cells firsts trees r (Below above place) within change = chain_below schema deepens cells firsts trees r above place within change
chain_of schema deepens cells firsts trees r (Root place) within change = chain_of_row schema cells firsts trees r place (within.row place refl) change

-- ---- the laws

pub new_segments_are_listed : SchemasAreKept → NewSegmentsAreListed
new_segments_are_listed kept schema cells firsts trees pointer new kinds r within =
    let x = chain_of schema (deepens kept schema) cells firsts trees r pointer within (before_twins new kinds) in
    record {
      parent = x.parent;
      front = x.front;
      code = x.code;
      back = list_of x.parent x.twins ++ x.back;
      next = starts_append schema.types (level_of schema.types x.code) (list_of x.parent x.twins) x.back (starts_of schema.types (level_of schema.types x.code) x.code x.parent x.twins x.typed (omega arith)) x.upto;
      whole = x.was;
      placed_in = x.is ∙ ap (λ l. x.front ++ placed x.parent new ∷ ((l ++ list_of x.parent x.twins) ++ x.back)) (bare_list (Some new.name) kinds);
    }

pub new_twins_stand_behind_spans : SchemasAreKept → NewTwinsStandBehindSpans
new_twins_stand_behind_spans kept schema cells firsts trees prior new kinds r m =
    let types = schema.types in
    let x = segment_in schema (deepens kept schema) cells firsts trees r prior m (λ s below next. segment s below (before_twins new kinds next)) in
    let t = typed types x.s.code x.s x.below x.next x.typed in
    let first : Placed = placed x.parent x.s in
    let below : List Placed = list_in (Some x.s.name) x.below in
    let next : List Placed = list_of x.parent x.next in
    let whole : list_in None trees ≡ x.front ++ first ∷ (below ++ (next ++ x.back)) = x.was ∙ ap (λ l. x.front ++ first ∷ l) (append_assoc below next x.back) in
    let alone = alone_at trees r.once x.front first (below ++ (next ++ x.back)) whole in
    let deeper = below_lies types (deepens kept schema) x.parent x.s x.below x.next x.typed in
    let upto = starts_append types (level_of types x.s.code) next x.back (starts_of types (level_of types x.s.code) x.s.code x.parent x.next t.later (omega arith)) x.upto in
    let span = span_is types x.front first below (next ++ x.back) alone.before deeper upto in
    record {
      twin = first;
      below = below;
      front = x.front;
      back = next ++ x.back;
      at = x.at;
      span = subst (λ (n : ℕ). span_at types (list_in None trees) n ≡ first ∷ below) x.at (ap (λ l. span_at types l first.home) whole ∙ span.span);
      deeper = deeper;
      next = upto;
      whole = whole;
      placed_in = x.is ∙ ap (λ l. x.front ++ first ∷ l) (append_assoc below (placed x.parent new ∷ (list_in (Some new.name) (bare kinds) ++ next)) x.back
          ∙ ap (λ l. below ++ placed x.parent new ∷ ((l ++ next) ++ x.back)) (bare_list (Some new.name) kinds));
    }

cut_of : (schema : Schema) → Deepens schema.types → (cells : ℕ → Option Cell) (trees : Chains) → ((home : ℕ) → times_in home trees ≤ 1) → (leads : ℕ) → 0 < leads → (now : List Placed) (x : ChainIn schema.types cells leads behind_first (list_in None trees) now)
    → (twins : Twins) → x.twins ≡ twins → now ≡ without_span_at schema.types (list_in None trees) leads
cut_of schema deepens cells trees once leads some now x no_segment e = let none : 0 ≡ leads = sym (ap first_of e) ∙ x.led in absurd (omega (arith, none, some))
cut_of schema deepens cells trees once leads some now x (segment s below next) e =
    let types = schema.types in
    let first : Placed = placed x.parent s in
    let under : List Placed = list_in (Some s.name) below in
    let later : List Placed = list_of x.parent next in
    let ours : are_of types x.code (segment s below next) ≡ true = subst (λ (u : Twins). are_of types x.code u ≡ true) e x.typed in
    let t = typed types x.code s below next ours in
    let level = ap (level_of types) t.code_is in
    let whole : list_in None trees ≡ x.front ++ first ∷ (under ++ (later ++ x.back)) = x.was ∙ ap (λ (u : Twins). x.front ++ (list_of x.parent u ++ x.back)) e ∙ ap (λ l. x.front ++ first ∷ l) (append_assoc under later x.back) in
    let alone = alone_at trees once x.front first (under ++ (later ++ x.back)) whole in
    let span = span_is types x.front first under (later ++ x.back) alone.before (below_lies types deepens x.parent s below next (subst (λ (c : ℕ). are_of types c (segment s below next) ≡ true) (sym t.code_is) ours))
    (starts_append types (level_of types s.code) later x.back (starts_of types (level_of types s.code) x.code x.parent next t.later (omega (arith, level))) (subst (λ (n : ℕ). starts_upto types n x.back ≡ true) (sym level) x.upto)) in
    let home : s.home ≡ leads = sym (ap first_of e) ∙ x.led in
    x.is ∙ ap (λ (u : Twins). x.front ++ (list_of x.parent (behind_first u) ++ x.back)) e ∙ sym span.without ∙ ap (λ l. without_span_at types l s.home) (sym whole) ∙ ap (λ (n : ℕ). without_span_at types (list_in None trees) n) home

pub cuts_are_spans : SchemasAreKept → CutsAreSpans
cuts_are_spans kept schema cells firsts trees pointer r within some =
    let x = chain_of schema (deepens kept schema) cells firsts trees r pointer within behind_first in
    cut_of schema (deepens kept schema) cells trees r.once (leads_to pointer cells firsts) some (list_in None (without_segment pointer trees)) x x.twins refl

-- ---- a replaced content

replaced_append : (home : ℕ) (content : List ℕ) (xs ys : List Placed) → replaced_at (xs ++ ys) home content ≡ replaced_at xs home content ++ replaced_at ys home content
replaced_append home content [] ys = refl
replaced_append home content (x ∷ xs) ys = ap (λ l. (cond (x.home == home) (record x { row = with_content x.row content }) x) ∷ l) (replaced_append home content xs ys)

replaced_elsewhere : (home : ℕ) (content : List ℕ) (list : List Placed) → list_all (λ p. not (is_at home p)) list ≡ true → replaced_at list home content ≡ list
replaced_elsewhere home content [] h = refl
replaced_elsewhere home content (p ∷ list) h =
    let a = and_parts (not (is_at home p)) (list_all (λ q. not (is_at home q)) list) h in
    ap (λ (b : Bool). (cond b (record p { row = with_content p.row content }) p) ∷ replaced_at list home content) (not-true (is_at home p) a.0) ∙ ap (λ l. p ∷ l) (replaced_elsewhere home content list a.1)

pub replaced_content_is_listed : SchemasAreKept → ReplacedContentIsListed
replaced_content_is_listed kept schema cells firsts trees home content r m =
    let x = segment_in schema (deepens kept schema) cells firsts trees r home m (λ s below next. segment (record s { content = content }) below next) in
    let first : Placed = placed x.parent x.s in
    let rest : List Placed = (list_in (Some x.s.name) x.below ++ list_of x.parent x.next) ++ x.back in
    let alone = alone_at trees r.once x.front first rest x.was in
    let before = subst (λ (n : ℕ). list_all (λ q. not (is_at n q)) x.front ≡ true) x.at alone.before in
    let behind = subst (λ (n : ℕ). list_all (λ q. not (is_at n q)) rest ≡ true) x.at alone.behind in
    x.is
    ∙ sym
    (ap (λ l. replaced_at l home content) x.was ∙ replaced_append home content x.front (first ∷ rest) ∙ ap (λ l. l ++ replaced_at (first ∷ rest) home content) (replaced_elsewhere home content x.front before)
    ∙ ap (λ (b : Bool). x.front ++ (cond b (record first { row = with_content first.row content }) first) ∷ replaced_at rest home content) (ap (λ (n : ℕ). n == home) x.at ∙ eq-eqb home home refl)
    ∙ ap (λ l. x.front ++ (record first { row = with_content first.row content }) ∷ l) (replaced_elsewhere home content rest behind))
