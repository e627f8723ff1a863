-- The list of trees, split where a change is made.
use Rattle.std.proofs.Common.{◌≡◌, ℕ, zero, suc, ◌+◌, ◌<◌, ◌≤◌, ◌==◌, Bool, true, false, if◌then◌else◌, List, [], ◌∷◌, ◌++◌, length, Option, Some, inl, inr, refl, sym, ap, subst, ◌∙◌, arith}
use Rattle.std.specs.Prelude.{slice_index}
use Rattle.std.proofs.lemmas.Bool.{and_parts, eqb-true, false≢true}
use Rattle.std.proofs.lemmas.List.{append_assoc, append-nil}
use Rattle.hal_base.specs.declared.place.Ilk.{Ilk}
use Rattle.hal_schema.specs.declared.schema.SegType.{SegType}
use Rattle.hal_schema.specs.SegType.{level_of}
use Rattle.segment_blocks.specs.declared.tile.Cell.{Cell}
use Rattle.record_walk.specs.Tree.{Occurrence, Twins, no_segment, segment, Chains, no_chain, chain, first_of, firsts_of, Hangs, HangIn, here, times, times_in, child_codes, are_of, are_chains_of}
use Rattle.record_walk.specs.Listing.{Placed, placed, list_of, list_in}
use Rattle.record_walk.specs.Pointers.{with_chain, at_home, in_home}
use Rattle.record_walk.specs.Spans.{starts_upto}
use Rattle.forest_laws.proofs.Lists.{Among, among_append, among_left, among_right}
use Rattle.forest_laws.proofs.Names.{same_some}
use Rattle.record_walk.proofs.Homes.{here_at, here_off}
use Rattle.record_walk.proofs.Rising.{either, Named, Under, Top, Inner, under, under_in, topped, parted}
use Rattle.record_walk.proofs.Levels.{Deepens, AtLevel, children_level, Typed, typed, starts_append, starts_of, starts_in}

-- ---- a home that isn't met

mutual
  pub absent : (home : ℕ) (edit : Occurrence → Chains → Twins → Twins) (twins : Twins) → times home twins ≡ 0 → at_home home edit twins ≡ twins
  absent home edit no_segment h = refl
  absent home edit (segment s below next) h = by (s.home == home) refl (absent_in home edit below (omega (arith, h))) (absent home edit next (omega (arith, h)))
    where
      by : (b : Bool) → (s.home == home) ≡ b → in_home home edit below ≡ below → at_home home edit next ≡ next → (if b then edit s below next else segment s (in_home home edit below) (at_home home edit next)) ≡ segment s below next
      by true e low high = let one = here_at home s e in absurd (omega (arith, one, h))
      by false e low high = λ i. segment s (low i) (high i)

  pub absent_in : (home : ℕ) (edit : Occurrence → Chains → Twins → Twins) (chains : Chains) → times_in home chains ≡ 0 → in_home home edit chains ≡ chains
  absent_in home edit no_chain h = refl
  absent_in home edit (chain twins more) h =
      let one = absent home edit twins (omega (arith, h)) in
      let others = absent_in home edit more (omega (arith, h)) in
      λ i. chain (one i) (others i)

-- ---- where a segment stands in the list

-- no row before a segment with its twins, and none behind, is a child of it; and the names of these differ
pub record Fence (parent : Option Ilk) (s : Occurrence) (below : Chains) (next : Twins) (front back : List Placed) : Type 0 where
  pub own : Named parent (list_of parent (segment s below next))
  pub before : (p : Placed) → Among p front → p.row.parent ≡ Some s.name → ⊥
  pub behind : (p : Placed) → Among p back → p.row.parent ≡ Some s.name → ⊥

-- before a segment, its twins and what is below them, and behind
pub record Split (types : List SegType) (cells : ℕ → Option Cell) (level home : ℕ) (edit : Occurrence → Chains → Twins → Twins) (top : Option Ilk) (old now : List Placed) : Type 0 where
  pub parent : Option Ilk
  pub s : Occurrence
  pub below : Chains
  pub next : Twins
  pub front : List Placed
  pub back : List Placed
  pub at : s.home ≡ home
  pub was : old ≡ front ++ (list_of parent (segment s below next) ++ back)
  pub is : now ≡ front ++ (list_of parent (edit s below next) ++ back)
  pub typed : are_of types s.code (segment s below next) ≡ true
  pub hangs : Hangs cells (segment s below next)
  pub deep : level ≤ level_of types s.code
  pub upto : starts_upto types (level_of types s.code) back ≡ true
  pub fenced : Named top old → Fence parent s below next front back

segment_among : (parent : Option Ilk) (s : Occurrence) (below : Chains) (next : Twins) (list front back : List Placed) → list ≡ front ++ (list_of parent (segment s below next) ++ back) → Among (placed parent s) list
segment_among parent s below next list front back was = subst (λ (l : List Placed). Among (placed parent s) l) (sym was) (among_right (placed parent s) front (list_of parent (segment s below next) ++ back) (inl refl))

-- below a segment, and among its next twins
fence_deeper : (parent : Option Ilk) (s : Occurrence) (below : Chains) (next : Twins) (up : Option Ilk) (t : Occurrence) (under : Chains) (later : Twins) (front back : List Placed) → list_in (Some s.name) below ≡ front ++ (list_of up (segment t under later) ++ back)
    → (Named (Some s.name) (list_in (Some s.name) below) → Fence up t under later front back) → Named parent (list_of parent (segment s below next)) → Fence up t under later (placed parent s ∷ front) (back ++ list_of parent next)
fence_deeper parent s below next up t under_it later front back was fence n =
    let low : List Placed = list_in (Some s.name) below in
    let high : List Placed = list_of parent next in
    let d = topped parent s below next n in
    let f = fence d.low in
    let there : Among (placed up t) low = segment_among up t under_it later low front back was in
    let top_off : parent ≡ Some t.name → ⊥ = n.fresh (placed up t) (inr (among_left (placed up t) low high there)) in
    record {
      own = f.own;
      before = λ p a e. either {P = placed parent s ≡ p} {Q = Among p front} {R = ⊥} (λ q. top_off (ap (λ (x : Placed). x.row.parent) q ∙ e)) (λ m. f.before p m e) a;
      behind = λ p a e. either {P = Among p back} {Q = Among p high} {R = ⊥} (λ m. f.behind p m e) (λ m. of p e (under parent next p m) top_off (λ q k g. d.across (placed up t) q there k g)) (among_append p back high a);
    }
  where
    of : (p : Placed) → p.row.parent ≡ Some t.name → Under parent (list_of parent next) p → (parent ≡ Some t.name → ⊥) → ((q : Placed) → Among q (list_of parent next) → t.name ≡ q.row.name → ⊥) → ⊥
    of p e (Top g) off others = off (sym g ∙ e)
    of p e (Inner q k g) off others = others q k (same_some t.name q.row.name (sym e ∙ g))

fence_later : (parent : Option Ilk) (s : Occurrence) (below : Chains) (next : Twins) (up : Option Ilk) (t : Occurrence) (under : Chains) (later : Twins) (front back : List Placed) → list_of parent next ≡ front ++ (list_of up (segment t under later) ++ back)
    → (Named parent (list_of parent next) → Fence up t under later front back) → Named parent (list_of parent (segment s below next)) → Fence up t under later (placed parent s ∷ (list_in (Some s.name) below ++ front)) back
fence_later parent s below next up t under_it later front back was fence n =
    let low : List Placed = list_in (Some s.name) below in
    let high : List Placed = list_of parent next in
    let d = topped parent s below next n in
    let f = fence d.high in
    let there : Among (placed up t) high = segment_among up t under_it later high front back was in
    let top_off : parent ≡ Some t.name → ⊥ = n.fresh (placed up t) (inr (among_right (placed up t) low high there)) in
    record {
      own = f.own;
      before = λ p a e. either {P = placed parent s ≡ p} {Q = Among p (low ++ front)} {R = ⊥} (λ q. top_off (ap (λ (x : Placed). x.row.parent) q ∙ e))
          (λ m. either {P = Among p low} {Q = Among p front} {R = ⊥} (λ k. of p e (under_in (Some s.name) below p k) (λ g. d.off_high (placed up t) there g) (λ q i g. d.across q (placed up t) i there g)) (λ k. f.before p k e) (among_append p low front m)) a;
      behind = f.behind;
    }
  where
    of : (p : Placed) → p.row.parent ≡ Some t.name → Under (Some s.name) (list_in (Some s.name) below) p → (s.name ≡ t.name → ⊥) → ((q : Placed) → Among q (list_in (Some s.name) below) → q.row.name ≡ t.name → ⊥) → ⊥
    of p e (Top g) off others = off (same_some s.name t.name (sym g ∙ e))
    of p e (Inner q k g) off others = others q k (same_some q.row.name t.name (sym g ∙ e))

-- in a chain, and in the chains behind it
fence_first : (parent : Option Ilk) (twins : Twins) (more : Chains) (up : Option Ilk) (t : Occurrence) (under : Chains) (later : Twins) (front back : List Placed) → list_of parent twins ≡ front ++ (list_of up (segment t under later) ++ back)
    → (Named parent (list_of parent twins) → Fence up t under later front back) → Named parent (list_of parent twins ++ list_in parent more) → Fence up t under later front (back ++ list_in parent more)
fence_first parent twins more up t under_it later front back was fence n =
    let xs : List Placed = list_of parent twins in
    let ys : List Placed = list_in parent more in
    let d = parted parent xs ys n in
    let f = fence d.front in
    let there : Among (placed up t) xs = segment_among up t under_it later xs front back was in
    record {
      own = f.own;
      before = f.before;
      behind = λ p a e. either {P = Among p back} {Q = Among p ys} {R = ⊥} (λ m. f.behind p m e) (λ m. of p e (under_in parent more p m) (d.front.fresh (placed up t) there) (λ q k g. d.across (placed up t) q there k g)) (among_append p back ys a);
    }
  where
    of : (p : Placed) → p.row.parent ≡ Some t.name → Under parent (list_in parent more) p → (parent ≡ Some t.name → ⊥) → ((q : Placed) → Among q (list_in parent more) → t.name ≡ q.row.name → ⊥) → ⊥
    of p e (Top g) off others = off (sym g ∙ e)
    of p e (Inner q k g) off others = others q k (same_some t.name q.row.name (sym e ∙ g))

fence_rest : (parent : Option Ilk) (twins : Twins) (more : Chains) (up : Option Ilk) (t : Occurrence) (under : Chains) (later : Twins) (front back : List Placed) → list_in parent more ≡ front ++ (list_of up (segment t under later) ++ back)
    → (Named parent (list_in parent more) → Fence up t under later front back) → Named parent (list_of parent twins ++ list_in parent more) → Fence up t under later (list_of parent twins ++ front) back
fence_rest parent twins more up t under_it later front back was fence n =
    let xs : List Placed = list_of parent twins in
    let ys : List Placed = list_in parent more in
    let d = parted parent xs ys n in
    let f = fence d.back in
    let there : Among (placed up t) ys = segment_among up t under_it later ys front back was in
    record {
      own = f.own;
      before = λ p a e. either {P = Among p xs} {Q = Among p front} {R = ⊥} (λ m. of p e (under parent twins p m) (d.back.fresh (placed up t) there) (λ q k g. d.across q (placed up t) k there g)) (λ m. f.before p m e) (among_append p xs front a);
      behind = f.behind;
    }
  where
    of : (p : Placed) → p.row.parent ≡ Some t.name → Under parent (list_of parent twins) p → (parent ≡ Some t.name → ⊥) → ((q : Placed) → Among q (list_of parent twins) → q.row.name ≡ t.name → ⊥) → ⊥
    of p e (Top g) off others = off (sym g ∙ e)
    of p e (Inner q k g) off others = others q k (same_some q.row.name t.name (sym g ∙ e))

reassoc : {X : Type 0} (a b c d : List X) → (a ++ (b ++ c)) ++ d ≡ a ++ (b ++ (c ++ d))
reassoc a b c d = append_assoc a (b ++ c) d ∙ ap (λ l. a ++ l) (append_assoc b c d)

mutual
  pub split_of : (types : List SegType) → Deepens types → (cells : ℕ → Option Cell) (home : ℕ) (edit : Occurrence → Chains → Twins → Twins) (code : ℕ) (parent : Option Ilk) (twins : Twins)
      → are_of types code twins ≡ true → Hangs cells twins → times home twins ≡ 1 → Split types cells (level_of types code) home edit parent (list_of parent twins) (list_of parent (at_home home edit twins))
  split_of types deepens cells home edit code parent no_segment h hang one = absurd (omega (arith, one))
  split_of types deepens cells home edit code parent (segment s below next) h hang one =
      let t = typed types code s below next h in
      by t (s.home == home) refl
      (λ q. split_in types deepens cells home edit (level_of types code + 1) (child_codes types code) (children_level types deepens code) (Some s.name) below t.under (hang.2) q)
      (λ q. split_of types deepens cells home edit code parent next t.later (hang.3) q)
    where
      deeper : Typed types code s below next → Split types cells (level_of types code + 1) home edit (Some s.name) (list_in (Some s.name) below) (list_in (Some s.name) (in_home home edit below)) → times home next ≡ 0
          → Split types cells (level_of types code) home edit parent (placed parent s ∷ (list_in (Some s.name) below ++ list_of parent next)) (placed parent s ∷ (list_in (Some s.name) (in_home home edit below) ++ list_of parent (at_home home edit next)))
      deeper t x off = record {
        parent = x.parent;
        s = x.s;
        below = x.below;
        next = x.next;
        front = placed parent s ∷ x.front;
        back = x.back ++ list_of parent next;
        at = x.at;
        was = ap (λ l. placed parent s ∷ (l ++ list_of parent next)) x.was ∙ ap (λ l. placed parent s ∷ l) (reassoc x.front (list_of x.parent (segment x.s x.below x.next)) x.back (list_of parent next));
        is = ap (λ l. placed parent s ∷ (l ++ list_of parent (at_home home edit next))) x.is
            ∙ ap (λ (u : Twins). placed parent s ∷ ((x.front ++ (list_of x.parent (edit x.s x.below x.next) ++ x.back)) ++ list_of parent u)) (absent home edit next off)
            ∙ ap (λ l. placed parent s ∷ l) (reassoc x.front (list_of x.parent (edit x.s x.below x.next)) x.back (list_of parent next));
        typed = x.typed;
        hangs = x.hangs;
        deep = let d = x.deep in omega (arith, d);
        upto = starts_append types (level_of types x.s.code) x.back (list_of parent next) x.upto (starts_of types (level_of types x.s.code) code parent next t.later (let d = x.deep in omega (arith, d)));
        fenced = fence_deeper parent s below next x.parent x.s x.below x.next x.front x.back x.was x.fenced;
      }

      later : Split types cells (level_of types code) home edit parent (list_of parent next) (list_of parent (at_home home edit next)) → times_in home below ≡ 0
          → Split types cells (level_of types code) home edit parent (placed parent s ∷ (list_in (Some s.name) below ++ list_of parent next)) (placed parent s ∷ (list_in (Some s.name) (in_home home edit below) ++ list_of parent (at_home home edit next)))
      later y off = record {
        parent = y.parent;
        s = y.s;
        below = y.below;
        next = y.next;
        front = placed parent s ∷ (list_in (Some s.name) below ++ y.front);
        back = y.back;
        at = y.at;
        was = ap (λ l. placed parent s ∷ (list_in (Some s.name) below ++ l)) y.was ∙ ap (λ l. placed parent s ∷ l) (sym (append_assoc (list_in (Some s.name) below) y.front (list_of y.parent (segment y.s y.below y.next) ++ y.back)));
        is = ap (λ l. placed parent s ∷ (list_in (Some s.name) (in_home home edit below) ++ l)) y.is
            ∙ ap (λ (c : Chains). placed parent s ∷ (list_in (Some s.name) c ++ (y.front ++ (list_of y.parent (edit y.s y.below y.next) ++ y.back)))) (absent_in home edit below off)
            ∙ ap (λ l. placed parent s ∷ l) (sym (append_assoc (list_in (Some s.name) below) y.front (list_of y.parent (edit y.s y.below y.next) ++ y.back)));
        typed = y.typed;
        hangs = y.hangs;
        deep = y.deep;
        upto = y.upto;
        fenced = fence_later parent s below next y.parent y.s y.below y.next y.front y.back y.was y.fenced;
      }

      choose : Typed types code s below next → (n : ℕ) → times_in home below ≡ n → here home s ≡ 0
          → (times_in home below ≡ 1 → Split types cells (level_of types code + 1) home edit (Some s.name) (list_in (Some s.name) below) (list_in (Some s.name) (in_home home edit below)))
          → (times home next ≡ 1 → Split types cells (level_of types code) home edit parent (list_of parent next) (list_of parent (at_home home edit next)))
          → Split types cells (level_of types code) home edit parent (placed parent s ∷ (list_in (Some s.name) below ++ list_of parent next)) (placed parent s ∷ (list_in (Some s.name) (in_home home edit below) ++ list_of parent (at_home home edit next)))
      choose t zero z off low high = later (high (omega (arith, one, z, off))) z
      choose t (suc n) z off low high = deeper t (low (omega (arith, one, z, off))) (omega (arith, one, z, off))

      by : Typed types code s below next → (b : Bool) → (s.home == home) ≡ b
          → (times_in home below ≡ 1 → Split types cells (level_of types code + 1) home edit (Some s.name) (list_in (Some s.name) below) (list_in (Some s.name) (in_home home edit below)))
          → (times home next ≡ 1 → Split types cells (level_of types code) home edit parent (list_of parent next) (list_of parent (at_home home edit next)))
          → Split types cells (level_of types code) home edit parent (placed parent s ∷ (list_in (Some s.name) below ++ list_of parent next)) (list_of parent (if b then edit s below next else segment s (in_home home edit below) (at_home home edit next)))
      by t true e low high = record {
        parent = parent;
        s = s;
        below = below;
        next = next;
        front = [];
        back = [];
        at = eqb-true s.home home e;
        was = sym (append-nil (list_of parent (segment s below next)));
        is = sym (append-nil (list_of parent (edit s below next)));
        typed = subst (λ (c : ℕ). are_of types c (segment s below next) ≡ true) (sym t.code_is) h;
        hangs = hang;
        deep = let level = ap (level_of types) t.code_is in omega (arith, level);
        upto = refl;
        fenced = λ n. record { own = n; before = λ p a e. absurd a; behind = λ p a e. absurd a };
      }
      by t false e low high = choose t (times_in home below) refl (here_off home s e) low high

  pub split_in : (types : List SegType) → Deepens types → (cells : ℕ → Option Cell) (home : ℕ) (edit : Occurrence → Chains → Twins → Twins) (level : ℕ) (codes : List ℕ) → AtLevel types level codes → (parent : Option Ilk) (chains : Chains)
      → are_chains_of types codes chains ≡ true → HangIn cells chains → times_in home chains ≡ 1 → Split types cells level home edit parent (list_in parent chains) (list_in parent (in_home home edit chains))
  split_in types deepens cells home edit level codes all parent no_chain h hang one = absurd (omega (arith, one))
  split_in types deepens cells home edit level [] all parent (chain twins more) h hang one = absurd (false≢true h)
  split_in types deepens cells home edit level (code ∷ codes) all parent (chain twins more) h hang one =
      let p = and_parts (are_of types code twins) (are_chains_of types codes more) h in
      choose (p.1) (times home twins) refl (λ q. split_of types deepens cells home edit code parent twins p.0 (hang.0) q) (λ q. split_in types deepens cells home edit level codes (all.1) parent more p.1 (hang.1) q)
    where
      first : are_chains_of types codes more ≡ true → Split types cells (level_of types code) home edit parent (list_of parent twins) (list_of parent (at_home home edit twins)) → times_in home more ≡ 0
          → Split types cells level home edit parent (list_of parent twins ++ list_in parent more) (list_of parent (at_home home edit twins) ++ list_in parent (in_home home edit more))
      first m x off =
          let same = all.0 in
          let d = x.deep in
          record {
            parent = x.parent;
            s = x.s;
            below = x.below;
            next = x.next;
            front = x.front;
            back = x.back ++ list_in parent more;
            at = x.at;
            was = ap (λ l. l ++ list_in parent more) x.was ∙ reassoc x.front (list_of x.parent (segment x.s x.below x.next)) x.back (list_in parent more);
            is = ap (λ l. l ++ list_in parent (in_home home edit more)) x.is
                ∙ ap (λ (c : Chains). (x.front ++ (list_of x.parent (edit x.s x.below x.next) ++ x.back)) ++ list_in parent c) (absent_in home edit more off)
                ∙ reassoc x.front (list_of x.parent (edit x.s x.below x.next)) x.back (list_in parent more);
            typed = x.typed;
            hangs = x.hangs;
            deep = omega (arith, same, d);
            upto = starts_append types (level_of types x.s.code) x.back (list_in parent more) x.upto (starts_in types (level_of types x.s.code) level codes (all.1) parent more m (omega (arith, same, d)));
            fenced = fence_first parent twins more x.parent x.s x.below x.next x.front x.back x.was x.fenced;
          }

      rest : Split types cells level home edit parent (list_in parent more) (list_in parent (in_home home edit more)) → times home twins ≡ 0
          → Split types cells level home edit parent (list_of parent twins ++ list_in parent more) (list_of parent (at_home home edit twins) ++ list_in parent (in_home home edit more))
      rest y off = record {
        parent = y.parent;
        s = y.s;
        below = y.below;
        next = y.next;
        front = list_of parent twins ++ y.front;
        back = y.back;
        at = y.at;
        was = ap (λ l. list_of parent twins ++ l) y.was ∙ sym (append_assoc (list_of parent twins) y.front (list_of y.parent (segment y.s y.below y.next) ++ y.back));
        is = ap (λ l. list_of parent (at_home home edit twins) ++ l) y.is
            ∙ ap (λ (u : Twins). list_of parent u ++ (y.front ++ (list_of y.parent (edit y.s y.below y.next) ++ y.back))) (absent home edit twins off)
            ∙ sym (append_assoc (list_of parent twins) y.front (list_of y.parent (edit y.s y.below y.next) ++ y.back));
        typed = y.typed;
        hangs = y.hangs;
        deep = y.deep;
        upto = y.upto;
        fenced = fence_rest parent twins more y.parent y.s y.below y.next y.front y.back y.was y.fenced;
      }

      choose : are_chains_of types codes more ≡ true → (n : ℕ) → times home twins ≡ n
          → (times home twins ≡ 1 → Split types cells (level_of types code) home edit parent (list_of parent twins) (list_of parent (at_home home edit twins)))
          → (times_in home more ≡ 1 → Split types cells level home edit parent (list_in parent more) (list_in parent (in_home home edit more)))
          → Split types cells level home edit parent (list_of parent twins ++ list_in parent more) (list_of parent (at_home home edit twins) ++ list_in parent (in_home home edit more))
      choose m zero z low high = rest (high (omega (arith, one, z))) z
      choose m (suc n) z low high = first m (low (omega (arith, one, z))) (omega (arith, one, z))

-- ---- where a chain stands in the list

pub record ChainIn (types : List SegType) (cells : ℕ → Option Cell) (leads : ℕ) (change : Twins → Twins) (old now : List Placed) : Type 0 where
  pub parent : Option Ilk
  pub code : ℕ
  pub twins : Twins
  pub front : List Placed
  pub back : List Placed
  pub was : old ≡ front ++ (list_of parent twins ++ back)
  pub is : now ≡ front ++ (list_of parent (change twins) ++ back)
  pub typed : are_of types code twins ≡ true
  pub hangs : Hangs cells twins
  pub upto : starts_upto types (level_of types code) back ≡ true
  pub led : first_of twins ≡ leads

pub chain_in : (types : List SegType) (cells : ℕ → Option Cell) (level : ℕ) (codes : List ℕ) → AtLevel types level codes → (parent : Option Ilk) (change : Twins → Twins) (place : ℕ) (chains : Chains) → are_chains_of types codes chains ≡ true
    → HangIn cells chains → place < length (firsts_of chains) → (x : ChainIn types cells (slice_index (firsts_of chains) place) change (list_in parent chains) (list_in parent (with_chain place change chains))) × (level_of types x.code ≡ level)
chain_in types cells level codes all parent change place no_chain h hang lt = absurd (omega (arith, lt))
chain_in types cells level [] all parent change place (chain twins more) h hang lt = absurd (false≢true h)
chain_in types cells level (code ∷ codes) all parent change zero (chain twins more) h hang lt =
    let p = and_parts (are_of types code twins) (are_chains_of types codes more) h in
    let same = all.0 in
    let x : ChainIn types cells (first_of twins) change (list_of parent twins ++ list_in parent more) (list_of parent (change twins) ++ list_in parent more) = record {
      parent = parent;
      code = code;
      twins = twins;
      front = [];
      back = list_in parent more;
      was = refl;
      is = refl;
      typed = p.0;
      hangs = hang.0;
      upto = starts_in types (level_of types code) level codes (all.1) parent more p.1 (omega (arith, same));
      led = refl;
    } in
    (x, same)
chain_in types cells level (code ∷ codes) all parent change (suc place) (chain twins more) h hang lt =
    let p = and_parts (are_of types code twins) (are_chains_of types codes more) h in
    let y = chain_in types cells level codes (all.1) parent change place more p.1 (hang.1) (omega (arith, lt)) in
    let z = y.0 in
    let x : ChainIn types cells (slice_index (firsts_of more) place) change (list_of parent twins ++ list_in parent more) (list_of parent twins ++ list_in parent (with_chain place change more)) = record {
      parent = z.parent;
      code = z.code;
      twins = z.twins;
      front = list_of parent twins ++ z.front;
      back = z.back;
      was = ap (λ l. list_of parent twins ++ l) z.was ∙ sym (append_assoc (list_of parent twins) z.front (list_of z.parent z.twins ++ z.back));
      is = ap (λ l. list_of parent twins ++ l) z.is ∙ sym (append_assoc (list_of parent twins) z.front (list_of z.parent (change z.twins) ++ z.back));
      typed = z.typed;
      hangs = z.hangs;
      upto = z.upto;
      led = z.led;
    } in
    (x, y.1)
