-- A pointer to a first child leads to the first row of that type in the span, and nowhere where there is none.
use Rattle.std.proofs.Common.{◌≡◌, ◌≢◌, ℕ, zero, suc, ◌+◌, ◌<◌, ◌==◌, nat_lt, not, Bool, true, false, List, [], ◌∷◌, ◌++◌, Option, None, Some, refl, sym, ap, subst, ◌∙◌, arith, if◌then◌else◌}
use Rattle.std.specs.Prelude.{find, slice_get, slice_index, option_and_then}
use Rattle.std.specs.List.{list_all}
use Rattle.std.specs.Option.{option_map, option_map_or}
use Rattle.std.proofs.lemmas.Bool.{and_parts, and_from, eqb-true, eq-eqb, leb-true, ltb-true, not-true, not_from_false, false≢true}
use Rattle.std.proofs.lemmas.List.{append_assoc}
use Rattle.hal_base.specs.declared.place.Ilk.{Ilk}
use Rattle.hal_schema.specs.declared.schema.SegType.{SegType}
use Rattle.hal_schema.specs.Facts.{SchemasAreKept}
use Rattle.hal_schema.specs.Forest.{all_pairs}
use Rattle.hal_schema.specs.Row.{row_level}
use Rattle.hal_schema.specs.SegType.{level_of}
use Rattle.segment_blocks.specs.declared.tile.Cell.{Cell}
use Rattle.forest_laws.proofs.Lists.{all_append, all_weaker, find_none}
use Rattle.forest_laws.proofs.Names.{same_some}
use Rattle.record_walk.specs.Tree.{Twins, no_segment, segment, Chains, no_chain, chain, first_of, firsts_of, cell_of, HangIn, Hangs, child_codes, are_of, are_chains_of}
use Rattle.record_walk.specs.Listing.{Placed, placed, list_of, list_in}
use Rattle.record_walk.specs.ByKey.{home_where}
use Rattle.record_walk.specs.Leads.{ChildrenAreFirst, is_of, pointed}
use Rattle.record_walk.specs.Spans.{span_at}
use Rattle.record_walk.proofs.Levels.{Deepens, AtLevel, children_level, typed, is_deep, deep_in, starts_append, starts_of}
use Rattle.record_walk.proofs.OnLists.{deepens, segment_in, alone_at, span_is, below_lies}
use Rattle.record_walk.proofs.OrderedCodes.{codes_rise}

-- ---- rows of other types

abbrev pub other : ℕ → Placed → Bool
other code p = not (is_of code p)

pub off_code : (code n : ℕ) → n ≢ code → not (n == code) ≡ true
off_code code n off = by (n == code) refl
  where
    by : (b : Bool) → (n == code) ≡ b → not (n == code) ≡ true
    by true e = absurd (off (eqb-true n code e))
    by false e = not_from_false (n == code) e

-- rows that are deeper
deeper_other : (types : List SegType) (code : ℕ) (list : List Placed) → list_all (is_deep types (level_of types code + 1)) list ≡ true → list_all (other code) list ≡ true
deeper_other types code list deep = all_weaker (is_deep types (level_of types code + 1)) (other code) off list deep
  where
    off : (p : Placed) → is_deep types (level_of types code + 1) p ≡ true → other code p ≡ true
    off p d =
        let le = leb-true (level_of types code + 1) (row_level types p.row) d in
        off_code code p.row.code (λ same. let level = ap (level_of types) same in omega (arith, le, level))

other_twins : (types : List SegType) → Deepens types → (code c : ℕ) → c ≢ code → level_of types c ≡ level_of types code → (parent : Option Ilk) (twins : Twins) → are_of types c twins ≡ true → list_all (other code) (list_of parent twins) ≡ true
other_twins types deepens code c off level parent no_segment h = refl
other_twins types deepens code c off level parent (segment s below next) h =
    let t = typed types c s below next h in
    and_from (other code (placed parent s)) (list_all (other code) (list_in (Some s.name) below ++ list_of parent next)) (off_code code s.code (λ same. off (sym t.code_is ∙ same)))
    (all_append (other code) (list_in (Some s.name) below) (list_of parent next)
    (deeper_other types code (list_in (Some s.name) below)
    (deep_in types deepens (level_of types code + 1) (level_of types c + 1) (child_codes types c) (children_level types deepens c) (Some s.name) below t.under (omega (arith, level))))
    (other_twins types deepens code c off level parent next t.later))

pub other_chains : (types : List SegType) → Deepens types → (code level : ℕ) → level ≡ level_of types code → (codes : List ℕ) → AtLevel types level codes → list_all (λ c. not (c == code)) codes ≡ true → (parent : Option Ilk) (chains : Chains)
    → are_chains_of types codes chains ≡ true → list_all (other code) (list_in parent chains) ≡ true
other_chains types deepens code level same [] all off parent no_chain h = refl
other_chains types deepens code level same [] all off parent (chain twins more) h = absurd (false≢true h)
other_chains types deepens code level same (c ∷ codes) all off parent no_chain h = refl
other_chains types deepens code level same (c ∷ codes) all off parent (chain twins more) h =
    let p = and_parts (are_of types c twins) (are_chains_of types codes more) h in
    let q = and_parts (not (c == code)) (list_all (λ d. not (d == code)) codes) off in
    all_append (other code) (list_of parent twins) (list_in parent more)
    (other_twins types deepens code c (λ e. false≢true (sym (not-true (c == code) q.0) ∙ eq-eqb c code e)) (all.0 ∙ same) parent twins p.0) (other_chains types deepens code level same codes (all.1) q.1 parent more p.1)

-- ---- the chain at a place

above_at : (c code place : ℕ) (codes : List ℕ) → list_all (nat_lt c) codes ≡ true → slice_get codes place ≡ Some code → c < code
above_at c code place [] all e = let none : None ≡ Some code = e in cc
above_at c code zero (d ∷ codes) all e = let same = same_some d code e in let lt = ltb-true c d (and_parts (nat_lt c d) (list_all (nat_lt c) codes) all).0 in omega (arith, same, lt)
above_at c code (suc place) (d ∷ codes) all e = above_at c code place codes (and_parts (nat_lt c d) (list_all (nat_lt c) codes) all).1 e

level_at : (types : List SegType) (level code place : ℕ) (codes : List ℕ) → AtLevel types level codes → slice_get codes place ≡ Some code → level_of types code ≡ level
level_at types level code place [] all e = let none : None ≡ Some code = e in cc
level_at types level code zero (d ∷ codes) all e = ap (level_of types) (sym (same_some d code e)) ∙ all.0
level_at types level code (suc place) (d ∷ codes) all e = level_at types level code place codes (all.1) e

find_behind : (p : Placed → Bool) (xs ys : List Placed) → list_all (λ x. not (p x)) xs ≡ true → find p (xs ++ ys) ≡ find p ys
find_behind p [] ys none = refl
find_behind p (x ∷ xs) ys none =
    let a = and_parts (not (p x)) (list_all (λ y. not (p y)) xs) none in
    ap (λ (b : Bool). if b then Some x else find p (xs ++ ys)) (not-true (p x) a.0) ∙ find_behind p xs ys a.1

pub pointed_some : (n : ℕ) → 0 < n → pointed n ≡ Some n
pointed_some n some = by (n == 0) refl
  where
    by : (b : Bool) → (n == 0) ≡ b → (if b then None else Some n) ≡ Some n
    by true e = let zero_is = eqb-true n 0 e in absurd (omega (arith, some, zero_is))
    by false e = refl

abbrev home : Option Placed → Option ℕ
home found = option_map (λ (p : Placed). p.home) found

first_found : (cells : ℕ → Option Cell) (types : List SegType) (code : ℕ) (parent : Option Ilk) (twins : Twins) (rest : List Placed) → are_of types code twins ≡ true → Hangs cells twins → list_all (other code) rest ≡ true
    → pointed (first_of twins) ≡ home_where (is_of code) (list_of parent twins ++ rest)
first_found cells types code parent no_segment rest h hang none = sym (ap home (find_none (is_of code) rest none))
first_found cells types code parent (segment s below next) rest h hang none =
    let t = typed types code s below next h in
    pointed_some s.home (hang.0)
    ∙ sym (ap (λ (b : Bool). home (if b then Some (placed parent s) else find (is_of code) ((list_in (Some s.name) below ++ list_of parent next) ++ rest))) (eq-eqb s.code code t.code_is))

found_at : (cells : ℕ → Option Cell) (types : List SegType) → Deepens types → (code level : ℕ) → level ≡ level_of types code → (parent : Option Ilk) (place : ℕ) (codes : List ℕ) → AtLevel types level codes → all_pairs nat_lt codes ≡ true
    → slice_get codes place ≡ Some code → (chains : Chains) → are_chains_of types codes chains ≡ true → HangIn cells chains → pointed (slice_index (firsts_of chains) place) ≡ home_where (is_of code) (list_in parent chains)
found_at cells types deepens code level same parent place [] all rise at chains h hang = let none : None ≡ Some code = at in cc
found_at cells types deepens code level same parent place (c ∷ codes) all rise at no_chain h hang = absurd (false≢true h)
found_at cells types deepens code level same parent zero (c ∷ codes) all rise at (chain twins more) h hang =
    let p = and_parts (are_of types c twins) (are_chains_of types codes more) h in
    let q = and_parts (list_all (nat_lt c) codes) (all_pairs nat_lt codes) rise in
    let own = same_some c code at in
    let off = all_weaker (nat_lt c) (λ d. not (d == code)) (λ d lt. let less = ltb-true c d lt in off_code code d (λ e. omega (arith, own, less, e))) codes q.0 in
    first_found cells types code parent twins (list_in parent more) (subst (λ (n : ℕ). are_of types n twins ≡ true) own p.0) (hang.0) (other_chains types deepens code level same codes (all.1) off parent more p.1)
found_at cells types deepens code level same parent (suc place) (c ∷ codes) all rise at (chain twins more) h hang =
    let p = and_parts (are_of types c twins) (are_chains_of types codes more) h in
    let q = and_parts (list_all (nat_lt c) codes) (all_pairs nat_lt codes) rise in
    let less = above_at c code place codes q.0 at in
    found_at cells types deepens code level same parent place codes (all.1) q.1 at more p.1 (hang.1)
    ∙ sym (ap home (find_behind (is_of code) (list_of parent twins) (list_in parent more) (other_twins types deepens code c (λ e. omega (arith, less, e)) (all.0 ∙ same) parent twins p.0)))

-- ---- the law

pub children_are_first : SchemasAreKept → ChildrenAreFirst
children_are_first kept schema cells firsts trees above place code r within coded =
    let types = schema.types in
    let x = segment_in schema (deepens kept schema) cells firsts trees r above (within.met above refl) (λ s below next. segment s below next) in
    let t = typed types x.s.code x.s x.below x.next x.typed in
    let own : cells above ≡ Some (cell_of x.s x.below x.next) = ap cells (sym x.at) ∙ x.hangs.1 in
    let at : slice_get (child_codes types x.s.code) place ≡ Some code = sym (ap (option_and_then (λ (c : Cell). slice_get (child_codes types c.code) place)) own) ∙ coded in
    let level = level_at types (level_of types x.s.code + 1) code place (child_codes types x.s.code) (children_level types (deepens kept schema) x.s.code) at in
    let first : Placed = placed x.parent x.s in
    let low : List Placed = list_in (Some x.s.name) x.below in
    let next : List Placed = list_of x.parent x.next in
    let whole : list_in None trees ≡ x.front ++ first ∷ (low ++ (next ++ x.back)) = x.was ∙ ap (λ l. x.front ++ first ∷ l) (append_assoc low next x.back) in
    let alone = alone_at trees r.once x.front first (low ++ (next ++ x.back)) whole in
    let upto = starts_append types (level_of types x.s.code) next x.back (starts_of types (level_of types x.s.code) x.s.code x.parent x.next t.later (omega arith)) x.upto in
    let span = span_is types x.front first low (next ++ x.back) alone.before (below_lies types (deepens kept schema) x.parent x.s x.below x.next x.typed) upto in
    let spanned : span_at types (list_in None trees) above ≡ first ∷ low = subst (λ (n : ℕ). span_at types (list_in None trees) n ≡ first ∷ low) x.at (ap (λ l. span_at types l first.home) whole ∙ span.span) in
    let top : other code first ≡ true = off_code code x.s.code (λ same. let one = ap (level_of types) same in omega (arith, level, one)) in
    ap (λ (o : Option Cell). pointed (option_map_or (λ (c : Cell). slice_index c.children place) o 0)) own
    ∙ found_at cells types (deepens kept schema) code (level_of types x.s.code + 1) (sym level) (Some x.s.name) place (child_codes types x.s.code) (children_level types (deepens kept schema) x.s.code) (codes_rise 1 x.s.code types) at x.below t.under (x.hangs.2)
    ∙ sym (ap home (find_behind (is_of code) (first ∷ []) low (and_from (other code first) true top refl))) ∙ sym (ap (home_where (is_of code)) spanned)
