-- The pointer of a dependent to its next twin leads to the row directly behind its span, if that is of its type, and else nowhere.
use Rattle.std.proofs.Common.{◌≡◌, ◌≢◌, ℕ, zero, suc, ◌+◌, ◌<◌, ◌==◌, nat_lt, not, cond, Bool, true, false, List, [], ◌∷◌, ◌++◌, drop, Option, None, Some, refl, sym, ap, subst, ◌∙◌, arith, if◌then◌else◌}
use Rattle.std.specs.List.{list_all, prefix_len}
use Rattle.std.proofs.lemmas.Bool.{and_parts, and_from, eqb-true, eq-eqb, leb-true, ltb-true, not-true, not_from_false, false≢true}
use Rattle.std.proofs.lemmas.List.{append_assoc}
use Rattle.hal_base.specs.declared.place.Ilk.{Ilk}
use Rattle.hal_schema.specs.declared.schema.SegType.{SegType}
use Rattle.hal_schema.specs.Facts.{SchemasAreKept}
use Rattle.hal_schema.specs.Forest.{all_pairs}
use Rattle.hal_schema.specs.Row.{row_level}
use Rattle.hal_schema.specs.SegType.{level_of}
use Rattle.segment_blocks.specs.declared.tile.Cell.{Cell}
use Rattle.forest_laws.proofs.Lists.{all_weaker}
use Rattle.forest_laws.proofs.Names.{same_some}
use Rattle.record_walk.specs.Tree.{Occurrence, Twins, no_segment, segment, Chains, no_chain, chain, first_of, cell_of, Hangs, HangIn, times, times_in, child_codes, are_of, are_chains_of, are_roots}
use Rattle.record_walk.specs.Listing.{Placed, placed, list_of, list_in}
use Rattle.record_walk.specs.Leads.{TwinsAreNext, is_of, pointed, behind_span_at, first_home_of}
use Rattle.record_walk.specs.Spans.{starts_upto, lies_below, without_span_at}
use Rattle.record_walk.proofs.Homes.{here_off}
use Rattle.record_walk.proofs.LeadsExactly.{other, off_code, other_chains, pointed_some}
use Rattle.record_walk.proofs.Levels.{Deepens, AtLevel, children_level, typed, ones, roots_typed, ones_level, starts_append, starts_of, starts_in, starts_less}
use Rattle.record_walk.proofs.OnLists.{deepens, is_at, counted, counted_in, none_at, span_is, below_lies}
use Rattle.record_walk.proofs.OrderedCodes.{codes_rise}

-- ---- what is behind a span

skipped : (types : List SegType) (home : ℕ) (xs ys : List Placed) → list_all (λ q. not (is_at home q)) xs ≡ true → behind_span_at types (xs ++ ys) home ≡ behind_span_at types ys home
skipped types home [] ys off = refl
skipped types home (x ∷ xs) ys off =
    let a = and_parts (not (is_at home x)) (list_all (λ q. not (is_at home q)) xs) off in
    ap (λ (b : Bool). cond b (drop (prefix_len (lies_below types x) (xs ++ ys)) (xs ++ ys)) (behind_span_at types (xs ++ ys) home)) (not-true (is_at home x) a.0) ∙ skipped types home xs ys a.1

behind_is : (types : List SegType) (p : Placed) (below back : List Placed) → list_all (lies_below types p) below ≡ true → starts_upto types (row_level types p.row) back ≡ true → behind_span_at types (p ∷ (below ++ back)) p.home ≡ back
behind_is types p below back deep starts =
    let own = eq-eqb p.home p.home refl in
    let rest : List Placed = drop (prefix_len (lies_below types p) (below ++ back)) (below ++ back) in
    let all = span_is types [] p below back refl deep starts in
    ap (λ (b : Bool). cond b rest (behind_span_at types (below ++ back) p.home)) own ∙ sym (ap (λ (b : Bool). cond b rest (p ∷ without_span_at types (below ++ back) p.home)) own) ∙ all.without

-- ---- where a list begins with a row of another type

abbrev ends : ℕ → List Placed → Bool
ends code [] = true
ends code (p ∷ list) = other code p

ends_append : (code : ℕ) (xs ys : List Placed) → ends code xs ≡ true → ends code ys ≡ true → ends code (xs ++ ys) ≡ true
ends_append code [] ys a b = b
ends_append code (x ∷ xs) ys a b = a

ends_all : (code : ℕ) (list : List Placed) → list_all (other code) list ≡ true → ends code list ≡ true
ends_all code [] all = refl
ends_all code (p ∷ list) all = (and_parts (other code p) (list_all (other code) list) all).0

-- with a row that is less deep
ends_upto : (types : List SegType) (code n : ℕ) (list : List Placed) → starts_upto types n list ≡ true → n < level_of types code → ends code list ≡ true
ends_upto types code n [] starts lt = refl
ends_upto types code n (p ∷ list) starts lt =
    let le = leb-true (row_level types p.row) n starts in
    off_code code p.row.code (λ same. let level = ap (level_of types) same in omega (arith, le, lt, level))

no_first : (code : ℕ) (list : List Placed) → ends code list ≡ true → first_home_of code list ≡ None
no_first code [] h = refl
no_first code (p ∷ list) h = ap (λ (b : Bool). if b then Some p.home else None) (not-true (is_of code p) h)

first_is : (cells : ℕ → Option Cell) (types : List SegType) (code : ℕ) (parent : Option Ilk) (twins : Twins) (back : List Placed) → are_of types code twins ≡ true → Hangs cells twins → ends code back ≡ true → pointed (first_of twins) ≡ first_home_of code (list_of parent twins ++ back)
first_is cells types code parent no_segment back h hang off = sym (no_first code back off)
first_is cells types code parent (segment s below next) back h hang off =
    let t = typed types code s below next h in
    pointed_some s.home (hang.0) ∙ sym (ap (λ (b : Bool). if b then Some s.home else None) (eq-eqb s.code code t.code_is))

-- ---- a segment among twins, and in chains

abbrev LeadsNext : List SegType → (ℕ → Option Cell) → ℕ → List Placed → Type 0
LeadsNext types cells home list = (cell : Cell) → cells home ≡ Some cell → cell.code ≢ 1 → pointed cell.twin ≡ first_home_of cell.code (behind_span_at types list home)

at_top : (types : List SegType) → Deepens types → (cells : ℕ → Option Cell) (parent : Option Ilk) (s : Occurrence) (below : Chains) (next : Twins) (back : List Placed) → are_of types s.code (segment s below next) ≡ true → Hangs cells (segment s below next)
    → starts_upto types (level_of types s.code) back ≡ true → (s.code ≢ 1 → ends s.code back ≡ true) → LeadsNext types cells s.home (list_of parent (segment s below next) ++ back)
at_top types deepens cells parent s below next back h hang upto off cell is dependent =
    let t = typed types s.code s below next h in
    let same : cell_of s below next ≡ cell = same_some (cell_of s below next) cell (sym (hang.1) ∙ is) in
    let low : List Placed = list_in (Some s.name) below in
    let high : List Placed = list_of parent next in
    let first : Placed = placed parent s in
    let starts = starts_append types (level_of types s.code) high back (starts_of types (level_of types s.code) s.code parent next t.later (omega arith)) upto in
    let rest = ap (λ l. behind_span_at types (first ∷ l) s.home) (append_assoc low high back) ∙ behind_is types first low (high ++ back) (below_lies types deepens parent s below next h) starts in
    let own : s.code ≢ 1 = λ e. dependent (sym (ap (λ (c : Cell). c.code) same) ∙ e) in
    subst (λ (c : Cell). pointed c.twin ≡ first_home_of c.code (behind_span_at types (list_of parent (segment s below next) ++ back) s.home)) same
    (first_is cells types s.code parent next back t.later (hang.3) (off own) ∙ sym (ap (first_home_of s.code) rest))

mutual
  in_twins : (types : List SegType) → Deepens types → (cells : ℕ → Option Cell) (home code : ℕ) (parent : Option Ilk) (twins : Twins) (back : List Placed) → are_of types code twins ≡ true → Hangs cells twins
      → starts_upto types (level_of types code) back ≡ true → (code ≢ 1 → ends code back ≡ true) → times home twins ≡ 1 → LeadsNext types cells home (list_of parent twins ++ back)
  in_twins types deepens cells home code parent no_segment back h hang upto off once = absurd (omega (arith, once))
  in_twins types deepens cells home code parent (segment s below next) back h hang upto off once =
      let t = typed types code s below next h in
      let low : List Placed = list_in (Some s.name) below in
      let high : List Placed = list_of parent next in
      let first : Placed = placed parent s in
      let own = subst (λ (n : ℕ). are_of types n (segment s below next) ≡ true) (sym t.code_is) h in
      let upto_own = subst (λ (n : ℕ). starts_upto types (level_of types n) back ≡ true) (sym t.code_is) upto in
      let off_own : s.code ≢ 1 → ends s.code back ≡ true = subst (λ (n : ℕ). n ≢ 1 → ends n back ≡ true) (sym t.code_is) off in
      let whole : first ∷ (low ++ (high ++ back)) ≡ list_of parent (segment s below next) ++ back = ap (λ l. first ∷ l) (sym (append_assoc low high back)) in
      let starts = starts_append types (level_of types s.code) high back (starts_of types (level_of types s.code) s.code parent next (typed types s.code s below next own).later (omega arith)) upto_own in
      let later : times home next ≡ 1 → LeadsNext types cells home (high ++ back) = λ one. in_twins types deepens cells home code parent next back t.later (hang.3) upto off one in
      let lower : times_in home below ≡ 1 → LeadsNext types cells home (low ++ (high ++ back)) = λ one.
      in_chains types deepens cells home (level_of types s.code) (child_codes types s.code) (children_level types deepens s.code) (codes_rise 1 s.code types) (Some s.name) below (high ++ back) (typed types s.code s below next own).under (hang.2) starts one in
      by (s.home == home) refl (times_in home below) refl whole own upto_own off_own later lower
    where
      by : (b : Bool) → (s.home == home) ≡ b → (n : ℕ) → times_in home below ≡ n → placed parent s ∷ (list_in (Some s.name) below ++ (list_of parent next ++ back)) ≡ list_of parent (segment s below next) ++ back
          → are_of types s.code (segment s below next) ≡ true → starts_upto types (level_of types s.code) back ≡ true → (s.code ≢ 1 → ends s.code back ≡ true)
          → (times home next ≡ 1 → LeadsNext types cells home (list_of parent next ++ back)) → (times_in home below ≡ 1 → LeadsNext types cells home (list_in (Some s.name) below ++ (list_of parent next ++ back)))
          → LeadsNext types cells home (list_of parent (segment s below next) ++ back)
      by true e n m whole own upto_own off_own later lower =
          subst (λ (k : ℕ). LeadsNext types cells k (list_of parent (segment s below next) ++ back)) (eqb-true s.home home e) (at_top types deepens cells parent s below next back own hang upto_own off_own)
      by false e zero m whole own upto_own off_own later lower =
          let none = here_off home s e in
          let count = counted_in home (Some s.name) below in
          let skip = skipped types home (placed parent s ∷ list_in (Some s.name) below) (list_of parent next ++ back)
          (and_from (not (is_at home (placed parent s))) (list_all (λ q. not (is_at home q)) (list_in (Some s.name) below)) (not_from_false (s.home == home) e) (none_at home (list_in (Some s.name) below) (sym count ∙ m))) in
          λ cell is dependent. later (omega (arith, none, once, m)) cell is dependent ∙ ap (first_home_of cell.code) (sym skip ∙ ap (λ l. behind_span_at types l home) whole)
      by false e (suc n) m whole own upto_own off_own later lower =
          let none = here_off home s e in
          let skip = skipped types home (placed parent s ∷ []) (list_in (Some s.name) below ++ (list_of parent next ++ back)) (and_from (not (is_at home (placed parent s))) true (not_from_false (s.home == home) e) refl) in
          λ cell is dependent. lower (omega (arith, none, once, m)) cell is dependent ∙ ap (first_home_of cell.code) (sym skip ∙ ap (λ l. behind_span_at types l home) whole)

  in_chains : (types : List SegType) → Deepens types → (cells : ℕ → Option Cell) (home n : ℕ) (codes : List ℕ) → AtLevel types (n + 1) codes → all_pairs nat_lt codes ≡ true → (parent : Option Ilk) (chains : Chains) (back : List Placed)
      → are_chains_of types codes chains ≡ true → HangIn cells chains → starts_upto types n back ≡ true → times_in home chains ≡ 1 → LeadsNext types cells home (list_in parent chains ++ back)
  in_chains types deepens cells home n codes all rise parent no_chain back h hang upto once = absurd (omega (arith, once))
  in_chains types deepens cells home n [] all rise parent (chain twins more) back h hang upto once = absurd (false≢true h)
  in_chains types deepens cells home n (c ∷ codes) all rise parent (chain twins more) back h hang upto once =
      let p = and_parts (are_of types c twins) (are_chains_of types codes more) h in
      let q = and_parts (list_all (nat_lt c) codes) (all_pairs nat_lt codes) rise in
      let level = all.0 in
      let xs : List Placed = list_of parent twins in
      let ys : List Placed = list_in parent more in
      let starts = starts_append types (level_of types c) ys back (starts_in types (level_of types c) (n + 1) codes (all.1) parent more p.1 (omega (arith, level))) (starts_less types n (level_of types c) back upto (omega (arith, level))) in
      let apart = all_weaker (nat_lt c) (λ d. not (d == c)) (λ d lt. let less = ltb-true c d lt in off_code c d (λ e. omega (arith, less, e))) codes q.0 in
      let off = ends_append c ys back (ends_all c ys (other_chains types deepens c (n + 1) (sym level) codes (all.1) apart parent more p.1)) (ends_upto types c n back upto (omega (arith, level))) in
      by (times home twins) refl (λ one. in_twins types deepens cells home c parent twins (ys ++ back) p.0 (hang.0) starts (λ _. off) one)
      (λ one. in_chains types deepens cells home n codes (all.1) q.1 parent more back p.1 (hang.1) upto one)
    where
      by : (k : ℕ) → times home twins ≡ k → (times home twins ≡ 1 → LeadsNext types cells home (list_of parent twins ++ (list_in parent more ++ back))) → (times_in home more ≡ 1 → LeadsNext types cells home (list_in parent more ++ back))
          → LeadsNext types cells home ((list_of parent twins ++ list_in parent more) ++ back)
      by zero m front rest =
          let count = counted home parent twins in
          let skip = skipped types home (list_of parent twins) (list_in parent more ++ back) (none_at home (list_of parent twins) (sym count ∙ m)) in
          λ cell is dependent. rest (omega (arith, once, m)) cell is dependent ∙ ap (first_home_of cell.code) (sym skip ∙ ap (λ l. behind_span_at types l home) (sym (append_assoc (list_of parent twins) (list_in parent more) back)))
      by (suc k) m front rest = λ cell is dependent. front (omega (arith, once, m)) cell is dependent ∙ ap (λ l. first_home_of cell.code (behind_span_at types l home)) (sym (append_assoc (list_of parent twins) (list_in parent more) back))

-- in the chains of a side
in_roots : (types : List SegType) → Deepens types → (cells : ℕ → Option Cell) (home : ℕ) (trees : Chains) → are_roots types trees ≡ true → HangIn cells trees → times_in home trees ≡ 1 → LeadsNext types cells home (list_in None trees)
in_roots types deepens cells home no_chain h hang once = absurd (omega (arith, once))
in_roots types deepens cells home (chain twins more) h hang once =
    let p = and_parts (are_of types 1 twins) (are_roots types more) h in
    let starts = starts_in types (level_of types 1) (level_of types 1) (ones more) (ones_level types more) None more (roots_typed types more p.1) (omega arith) in
    by (times home twins) refl (λ one. in_twins types deepens cells home 1 None twins (list_in None more) p.0 (hang.0) starts (λ off. absurd (off refl)) one) (λ one. in_roots types deepens cells home more p.1 (hang.1) one)
  where
    by : (k : ℕ) → times home twins ≡ k → (times home twins ≡ 1 → LeadsNext types cells home (list_of None twins ++ list_in None more)) → (times_in home more ≡ 1 → LeadsNext types cells home (list_in None more)) → LeadsNext types cells home (list_of None twins ++ list_in None more)
    by zero m front rest =
        let count = counted home None twins in
        let skip = skipped types home (list_of None twins) (list_in None more) (none_at home (list_of None twins) (sym count ∙ m)) in
        λ cell is dependent. rest (omega (arith, once, m)) cell is dependent ∙ ap (first_home_of cell.code) (sym skip)
    by (suc k) m front rest = front (omega (arith, once, m))

-- ---- the law

pub twins_are_next : SchemasAreKept → TwinsAreNext
twins_are_next kept schema cells firsts trees at cell r met =
    let few = r.once at in
    in_roots schema.types (deepens kept schema) cells at trees r.typed r.from.hang (omega (arith, few, met)) cell
