-- Where the pointers of met cells lead.
use Rattle.std.proofs.Common.{◌≡◌, ℕ, zero, suc, ◌<◌, ◌==◌, Bool, true, ◌&&◌, List, [], ◌∷◌, ◌++◌, length, Option, None, Some, inl, inr, refl, sym, ap, subst, ◌∙◌, arith}
use Rattle.std.specs.Prelude.{slice_index, slice_get, option_and_then}
use Rattle.std.specs.List.{list_any}
use Rattle.std.specs.Option.{option_map, option_map_or}
use Rattle.std.proofs.lemmas.Bool.{and_parts, and_from, or_left, or_right, eq-eqb, false≢true}
use Rattle.hal_base.specs.declared.place.Ilk.{Ilk}
use Rattle.hal_schema.specs.declared.row.Row.{Row}
use Rattle.hal_schema.specs.declared.schema.SegType.{SegType}
use Rattle.hal_schema.specs.declared.schema.Schema.{Schema}
use Rattle.hal_schema.specs.Facts.{SchemasAreKept}
use Rattle.hal_schema.specs.Row.{same_parent, is_parent, are_twins}
use Rattle.hal_schema.proofs.RowNames.{name_itself}
use Rattle.segment_blocks.specs.declared.tile.Cell.{Cell}
use Rattle.forest_laws.proofs.Lists.{Among, among_left, among_right}
use Rattle.forest_laws.proofs.Names.{same_some}
use Rattle.record_walk.specs.Tree.{Occurrence, Twins, no_segment, segment, Chains, no_chain, chain, first_of, firsts_of, cell_of, Hangs, HangIn, times_in, child_codes, are_of, are_chains_of}
use Rattle.record_walk.specs.Listing.{Placed, placed, list_of, list_in}
use Rattle.record_walk.specs.Pointers.{Pointer, Behind, Below, Root}
use Rattle.record_walk.specs.Changes.{leads_to}
use Rattle.record_walk.specs.Records.{code_behind}
use Rattle.record_walk.specs.Spans.{AreRecords, IsIn}
use Rattle.record_walk.specs.Leads.{stand_so, LeadsOn, PointersLeadOn}
use Rattle.record_walk.proofs.Levels.{typed, ones, roots_typed}
use Rattle.record_walk.proofs.OnLists.{deepens, segment_in}

-- ---- tests of some

pub any_from : {X : Type 0} (test : X → Bool) (x : X) (xs : List X) → Among x xs → test x ≡ true → list_any test xs ≡ true
any_from test x [] a e = absurd a
any_from test x (y ∷ xs) (inl same) e = or_left (test y) (list_any test xs) (ap test same ∙ e)
any_from test x (y ∷ xs) (inr a) e = or_right (test y) (list_any test xs) (any_from test x xs a e)

pub so_from : (test : Row → Row → Bool) (a b : ℕ) (list : List Placed) (p q : Placed) → Among p list → p.home ≡ a → Among q list → q.home ≡ b → test p.row q.row ≡ true → stand_so test a b list ≡ true
so_from test a b list p q p_in p_at q_in q_at holds =
    any_from (λ x. x.home == a && list_any (λ y. y.home == b && test x.row y.row) list) p list p_in
    (and_from (p.home == a) (list_any (λ y. y.home == b && test p.row y.row) list) (eq-eqb p.home a p_at)
    (any_from (λ y. y.home == b && test p.row y.row) q list q_in (and_from (q.home == b) (test p.row q.row) (eq-eqb q.home b q_at) holds)))

-- ---- the first of twins

-- twins have a first segment
record First (types : List SegType) (cells : ℕ → Option Cell) (code leads : ℕ) (parent : Option Ilk) (list : List Placed) : Type 0 where
  pub t : Occurrence
  pub under : Chains
  pub later : Twins
  pub at : t.home ≡ leads
  pub code_is : t.code ≡ code
  pub among : Among (placed parent t) list
  pub hangs : Hangs cells (segment t under later)

first_twin : (types : List SegType) (cells : ℕ → Option Cell) (code : ℕ) (parent : Option Ilk) (twins : Twins) → are_of types code twins ≡ true → Hangs cells twins → 0 < first_of twins → First types cells code (first_of twins) parent (list_of parent twins)
first_twin types cells code parent no_segment h hang some = absurd (omega (arith, some))
first_twin types cells code parent (segment s below next) h hang some = record {
  t = s;
  under = below;
  later = next;
  at = refl;
  code_is = (typed types code s below next h).code_is;
  among = inl refl;
  hangs = hang;
}

-- so of the chain at a place
record FirstAt (types : List SegType) (cells : ℕ → Option Cell) (codes : List ℕ) (place leads : ℕ) (parent : Option Ilk) (list : List Placed) : Type 0 where
  pub code : ℕ
  pub coded : slice_get codes place ≡ Some code
  pub first : First types cells code leads parent list

within_left : (types : List SegType) (cells : ℕ → Option Cell) (code leads : ℕ) (parent : Option Ilk) (xs ys : List Placed) → First types cells code leads parent xs → First types cells code leads parent (xs ++ ys)
within_left types cells code leads parent xs ys f = record { t = f.t; under = f.under; later = f.later; at = f.at; code_is = f.code_is; among = among_left (placed parent f.t) xs ys f.among; hangs = f.hangs }

within_right : (types : List SegType) (cells : ℕ → Option Cell) (code leads : ℕ) (parent : Option Ilk) (xs ys : List Placed) → First types cells code leads parent ys → First types cells code leads parent (xs ++ ys)
within_right types cells code leads parent xs ys f = record { t = f.t; under = f.under; later = f.later; at = f.at; code_is = f.code_is; among = among_right (placed parent f.t) xs ys f.among; hangs = f.hangs }

first_at : (types : List SegType) (cells : ℕ → Option Cell) (codes : List ℕ) (parent : Option Ilk) (place : ℕ) (chains : Chains) → are_chains_of types codes chains ≡ true → HangIn cells chains → place < length (firsts_of chains)
    → 0 < slice_index (firsts_of chains) place → FirstAt types cells codes place (slice_index (firsts_of chains) place) parent (list_in parent chains)
first_at types cells codes parent place no_chain h hang lt some = absurd (omega (arith, lt))
first_at types cells [] parent place (chain twins more) h hang lt some = absurd (false≢true h)
first_at types cells (code ∷ codes) parent zero (chain twins more) h hang lt some =
    let p = and_parts (are_of types code twins) (are_chains_of types codes more) h in
    record { code = code; coded = refl; first = within_left types cells code (first_of twins) parent (list_of parent twins) (list_in parent more) (first_twin types cells code parent twins p.0 (hang.0) some) }
first_at types cells (code ∷ codes) parent (suc place) (chain twins more) h hang lt some =
    let p = and_parts (are_of types code twins) (are_chains_of types codes more) h in
    let f = first_at types cells codes parent place more p.1 (hang.1) (omega (arith, lt)) some in
    record { code = f.code; coded = f.coded; first = within_right types cells f.code (slice_index (firsts_of more) place) parent (list_of parent twins) (list_in parent more) f.first }

ones_are : (chains : Chains) (place code : ℕ) → slice_get (ones chains) place ≡ Some code → 1 ≡ code
unfolding ones
ones_are no_chain place code e = let none : None ≡ Some code = e in cc
ones_are (chain twins more) zero code e = same_some 1 code e
ones_are (chain twins more) (suc place) code e = ones_are more place code e

-- ---- by the place of the pointer

led_on : (schema : Schema) (cells : ℕ → Option Cell) (firsts : List ℕ) (pointer : Pointer) (code : ℕ) (parent : Option Ilk) (list : List Placed) → code_behind schema.types pointer cells ≡ Some code
    → First schema.types cells code (leads_to pointer cells firsts) parent list → LeadsOn schema cells firsts pointer
led_on schema cells firsts pointer code parent list coded f = record {
  cell = cell_of f.t f.under f.later;
  stands = ap cells (sym f.at) ∙ f.hangs.1;
  uncopied = refl;
  code = coded ∙ ap (λ (n : ℕ). Some n) (sym f.code_is);
}

-- behind a twin
record Next (schema : Schema) (cells : ℕ → Option Cell) (firsts : List ℕ) (trees : Chains) (prior : ℕ) : Type 0 where
  pub parent : Option Ilk
  pub s : Occurrence
  pub at : s.home ≡ prior
  pub among : Among (placed parent s) (list_in None trees)
  pub coded : code_behind schema.types (Behind prior) cells ≡ Some s.code
  pub first : First schema.types cells s.code (leads_to (Behind prior) cells firsts) parent (list_in None trees)

next_of : SchemasAreKept → (schema : Schema) (cells : ℕ → Option Cell) (firsts : List ℕ) (trees : Chains) (prior : ℕ) → AreRecords schema cells firsts trees → 0 < times_in prior trees → 0 < leads_to (Behind prior) cells firsts → Next schema cells firsts trees prior
next_of kept schema cells firsts trees prior r met some =
    let types = schema.types in
    let x = segment_in schema (deepens kept schema) cells firsts trees r prior met (λ s below next. segment s below next) in
    let t = typed types x.s.code x.s x.below x.next x.typed in
    let own : cells prior ≡ Some (cell_of x.s x.below x.next) = ap cells (sym x.at) ∙ x.hangs.1 in
    let leads : first_of x.next ≡ leads_to (Behind prior) cells firsts = sym (ap (λ (o : Option Cell). option_map_or (λ (c : Cell). c.twin) o 0) own) in
    let low : List Placed = list_in (Some x.s.name) x.below in
    let high : List Placed = list_of x.parent x.next in
    let whole : List Placed → Type 0 = λ l. First types cells x.s.code (first_of x.next) x.parent l in
    let f : whole high = first_twin types cells x.s.code x.parent x.next t.later (x.hangs.3) (subst (λ (n : ℕ). 0 < n) (sym leads) some) in
    let g : whole (x.front ++ ((placed x.parent x.s ∷ (low ++ high)) ++ x.back)) =
    within_right types cells x.s.code (first_of x.next) x.parent x.front ((placed x.parent x.s ∷ (low ++ high)) ++ x.back)
    (within_left types cells x.s.code (first_of x.next) x.parent (placed x.parent x.s ∷ (low ++ high)) x.back
    (within_right types cells x.s.code (first_of x.next) x.parent (placed x.parent x.s ∷ low) high f)) in
    record {
      parent = x.parent;
      s = x.s;
      at = x.at;
      among = subst (λ (l : List Placed). Among (placed x.parent x.s) l) (sym x.was) (among_right (placed x.parent x.s) x.front ((placed x.parent x.s ∷ (low ++ high)) ++ x.back) (inl refl));
      coded = ap (option_map (λ (c : Cell). c.code)) own;
      first = subst (λ (n : ℕ). First types cells x.s.code n x.parent (list_in None trees)) leads (subst whole (sym x.was) g);
    }

-- below a parent
record Child (schema : Schema) (cells : ℕ → Option Cell) (firsts : List ℕ) (trees : Chains) (above place : ℕ) : Type 0 where
  pub parent : Option Ilk
  pub s : Occurrence
  pub at : s.home ≡ above
  pub among : Among (placed parent s) (list_in None trees)
  pub code : ℕ
  pub coded : code_behind schema.types (Below above place) cells ≡ Some code
  pub first : First schema.types cells code (leads_to (Below above place) cells firsts) (Some s.name) (list_in None trees)

child_of : SchemasAreKept → (schema : Schema) (cells : ℕ → Option Cell) (firsts : List ℕ) (trees : Chains) (above place : ℕ) → AreRecords schema cells firsts trees → IsIn (Below above place) cells firsts trees → 0 < leads_to (Below above place) cells firsts
    → Child schema cells firsts trees above place
child_of kept schema cells firsts trees above place r within some =
    let types = schema.types in
    let x = segment_in schema (deepens kept schema) cells firsts trees r above (within.met above refl) (λ s below next. segment s below next) in
    let t = typed types x.s.code x.s x.below x.next x.typed in
    let own : cells above ≡ Some (cell_of x.s x.below x.next) = ap cells (sym x.at) ∙ x.hangs.1 in
    let leads : slice_index (firsts_of x.below) place ≡ leads_to (Below above place) cells firsts = sym (ap (λ (o : Option Cell). option_map_or (λ (c : Cell). slice_index c.children place) o 0) own) in
    let lt : place < length (firsts_of x.below) = within.child above place (cell_of x.s x.below x.next) refl own in
    let low : List Placed = list_in (Some x.s.name) x.below in
    let high : List Placed = list_of x.parent x.next in
    let f = first_at types cells (child_codes types x.s.code) (Some x.s.name) place x.below t.under (x.hangs.2) lt (subst (λ (n : ℕ). 0 < n) (sym leads) some) in
    let g : First types cells f.code (slice_index (firsts_of x.below) place) (Some x.s.name) (x.front ++ ((placed x.parent x.s ∷ (low ++ high)) ++ x.back)) =
    within_right types cells f.code (slice_index (firsts_of x.below) place) (Some x.s.name) x.front ((placed x.parent x.s ∷ (low ++ high)) ++ x.back)
    (within_left types cells f.code (slice_index (firsts_of x.below) place) (Some x.s.name) (placed x.parent x.s ∷ (low ++ high)) x.back
    (within_right types cells f.code (slice_index (firsts_of x.below) place) (Some x.s.name) (placed x.parent x.s ∷ []) (low ++ high)
    (within_left types cells f.code (slice_index (firsts_of x.below) place) (Some x.s.name) low high f.first))) in
    record {
      parent = x.parent;
      s = x.s;
      at = x.at;
      among = subst (λ (l : List Placed). Among (placed x.parent x.s) l) (sym x.was) (among_right (placed x.parent x.s) x.front ((placed x.parent x.s ∷ (low ++ high)) ++ x.back) (inl refl));
      code = f.code;
      coded = ap (option_and_then (λ (c : Cell). slice_get (child_codes types c.code) place)) own ∙ f.coded;
      first = subst (λ (n : ℕ). First types cells f.code n (Some x.s.name) (list_in None trees)) leads
          (subst (λ (l : List Placed). First types cells f.code (slice_index (firsts_of x.below) place) (Some x.s.name) l) (sym x.was) g);
    }

of_row : (schema : Schema) (cells : ℕ → Option Cell) (firsts : List ℕ) (trees : Chains) (place : ℕ) → AreRecords schema cells firsts trees → place < length firsts → 0 < slice_index firsts place → LeadsOn schema cells firsts (Root place)
of_row schema cells firsts trees place r lt some =
    let same : firsts_of trees ≡ firsts = r.from.first in
    let f = first_at schema.types cells (ones trees) None place trees (roots_typed schema.types trees r.typed) r.from.hang (subst (λ (l : List ℕ). place < length l) (sym same) lt) (subst (λ (l : List ℕ). 0 < slice_index l place) (sym same) some) in
    led_on schema cells firsts (Root place) f.code None (list_in None trees) (ap (λ (n : ℕ). Some n) (ones_are trees place f.code f.coded))
    (subst (λ (n : ℕ). First schema.types cells f.code n None (list_in None trees)) (ap (λ (l : List ℕ). slice_index l place) same) f.first)

pub pointers_lead_on : SchemasAreKept → PointersLeadOn
pointers_lead_on kept = record {
  on = on;
  child = λ schema cells firsts trees above place r within some.
      let c = child_of kept schema cells firsts trees above place r within some in
      so_from is_parent above (leads_to (Below above place) cells firsts) (list_in None trees) (placed c.parent c.s) (placed (Some c.s.name) c.first.t) c.among c.at c.first.among c.first.at (name_itself c.s.name);
  twin = λ schema cells firsts trees prior r met some.
      let c = next_of kept schema cells firsts trees prior r met some in
      so_from are_twins prior (leads_to (Behind prior) cells firsts) (list_in None trees) (placed c.parent c.s) (placed c.parent c.first.t) c.among c.at c.first.among c.first.at
      (and_from (c.s.code == c.first.t.code) (same_parent c.parent c.parent) (eq-eqb c.s.code c.first.t.code (sym c.first.code_is)) (itself c.parent));
}
  where
    itself : (a : Option Ilk) → same_parent a a ≡ true
    itself None = refl
    itself (Some a) = name_itself a

    on : (schema : Schema) (cells : ℕ → Option Cell) (firsts : List ℕ) (trees : Chains) (pointer : Pointer) → AreRecords schema cells firsts trees → IsIn pointer cells firsts trees → 0 < leads_to pointer cells firsts → LeadsOn schema cells firsts pointer
    on schema cells firsts trees (Behind prior) r within some =
        let c = next_of kept schema cells firsts trees prior r (within.met prior refl) some in
        led_on schema cells firsts (Behind prior) c.s.code c.parent (list_in None trees) c.coded c.first
    on schema cells firsts trees (Below above place) r within some =
        let c = child_of kept schema cells firsts trees above place r within some in
        led_on schema cells firsts (Below above place) c.code (Some c.s.name) (list_in None trees) c.coded c.first
    on schema cells firsts trees (Root place) r within some = of_row schema cells firsts trees place r (within.row place refl) some
