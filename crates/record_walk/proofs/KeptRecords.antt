-- Changed trees are records again.
use Rattle.std.proofs.Common.{◌≡◌, ℕ, zero, suc, ◌+◌, ◌≤◌, ◌==◌, ◌&&◌, Bool, true, false, if◌then◌else◌, List, [], ◌∷◌, ◌++◌, length, slice_get, Option, None, Some, option_and_then, refl, sym, ap, subst, ◌∙◌, arith}
use Rattle.std.specs.Option.{option_map, option_map_or}
use Rattle.std.proofs.lemmas.Bool.{and_parts, and_from, eqb-true, eq-eqb, false≢true}
use Rattle.hal_schema.specs.declared.schema.SegType.{SegType}
use Rattle.hal_schema.specs.Facts.{SchemasAreKept}
use Rattle.segment_blocks.specs.declared.tile.Cell.{Cell}
use Rattle.record_walk.specs.Tree.{Occurrence, Twins, no_segment, segment, Chains, no_chain, chain, cell_of, Hangs, HangIn, here, times, times_in, child_codes, are_of, are_chains_of, are_roots}
use Rattle.record_walk.specs.Listing.{list_of, list_in}
use Rattle.record_walk.specs.Pointers.{Pointer, Behind, Below, Root, with_chain, at_home, in_home, with_pointer, bare, before_twins, behind_first, with_segment, without_segment}
use Rattle.record_walk.specs.Records.{code_behind, NewSegmentsKeepRecords, CutsKeepRecords, ReplacedContentKeepsRecords}
use Rattle.record_walk.proofs.Homes.{here_at, here_off, met_stands_in}
use Rattle.record_walk.proofs.Setting.{new_segments_hang, cuts_hang, replaced_content_hangs}
use Rattle.record_walk.proofs.Levels.{typed}
use Rattle.record_walk.proofs.Splitting.{ChainIn}
use Rattle.record_walk.proofs.OnLists.{deepens, count, count_append, counted, counted_in, chain_of}

-- ---- types

pub from_typed : (types : List SegType) (code : ℕ) (s : Occurrence) (below : Chains) (next : Twins) → s.code ≡ code → are_chains_of types (child_codes types code) below ≡ true → are_of types code next ≡ true
    → are_of types code (segment s below next) ≡ true
from_typed types code s below next e under later =
    and_from (s.code == code && are_chains_of types (child_codes types code) below) (are_of types code next) (and_from (s.code == code) (are_chains_of types (child_codes types code) below) (eq-eqb s.code code e) under) later

-- what takes the place of a segment is of its type
abbrev Suits : List SegType → (ℕ → Option Cell) → ℕ → (Occurrence → Chains → Twins → Twins) → Type 0
Suits types cells home edit = (code : ℕ) (s : Occurrence) (below : Chains) (next : Twins) → s.home ≡ home → Hangs cells (segment s below next) → are_of types code (segment s below next) ≡ true → are_of types code (edit s below next) ≡ true

mutual
  typed_edit : (types : List SegType) (cells : ℕ → Option Cell) (home : ℕ) (edit : Occurrence → Chains → Twins → Twins) → Suits types cells home edit → (code : ℕ) (twins : Twins) → Hangs cells twins → are_of types code twins ≡ true
      → are_of types code (at_home home edit twins) ≡ true
  typed_edit types cells home edit suits code no_segment hang h = refl
  typed_edit types cells home edit suits code (segment s below next) hang h =
      let t = typed types code s below next h in
      by (s.home == home) refl (typed_edit_in types cells home edit suits (child_codes types code) below (hang.2) t.under) (typed_edit types cells home edit suits code next (hang.3) t.later)
    where
      by : (b : Bool) → (s.home == home) ≡ b → are_chains_of types (child_codes types code) (in_home home edit below) ≡ true → are_of types code (at_home home edit next) ≡ true
          → are_of types code (if b then edit s below next else segment s (in_home home edit below) (at_home home edit next)) ≡ true
      by true e low high = suits code s below next (eqb-true s.home home e) hang h
      by false e low high = let t = typed types code s below next h in from_typed types code s (in_home home edit below) (at_home home edit next) t.code_is low high

  typed_edit_in : (types : List SegType) (cells : ℕ → Option Cell) (home : ℕ) (edit : Occurrence → Chains → Twins → Twins) → Suits types cells home edit → (codes : List ℕ) (chains : Chains) → HangIn cells chains → are_chains_of types codes chains ≡ true
      → are_chains_of types codes (in_home home edit chains) ≡ true
  typed_edit_in types cells home edit suits [] no_chain hang h = refl
  typed_edit_in types cells home edit suits [] (chain twins more) hang h = absurd (false≢true h)
  typed_edit_in types cells home edit suits (code ∷ codes) no_chain hang h = h
  typed_edit_in types cells home edit suits (code ∷ codes) (chain twins more) hang h =
      let p = and_parts (are_of types code twins) (are_chains_of types codes more) h in
      and_from (are_of types code (at_home home edit twins)) (are_chains_of types codes (in_home home edit more)) (typed_edit types cells home edit suits code twins (hang.0) p.0)
      (typed_edit_in types cells home edit suits codes more (hang.1) p.1)

typed_roots : (types : List SegType) (cells : ℕ → Option Cell) (home : ℕ) (edit : Occurrence → Chains → Twins → Twins) → Suits types cells home edit → (chains : Chains) → HangIn cells chains → are_roots types chains ≡ true → are_roots types (in_home home edit chains) ≡ true
typed_roots types cells home edit suits no_chain hang h = refl
typed_roots types cells home edit suits (chain twins more) hang h =
    let p = and_parts (are_of types 1 twins) (are_roots types more) h in
    and_from (are_of types 1 (at_home home edit twins)) (are_roots types (in_home home edit more)) (typed_edit types cells home edit suits 1 twins (hang.0) p.0) (typed_roots types cells home edit suits more (hang.1) p.1)

-- what the twins behind a pointer become is of their type, where that is a wanted one
abbrev Wants : List SegType → (Twins → Twins) → ℕ → Type 0
Wants types change code = (twins : Twins) → are_of types code twins ≡ true → are_of types code (change twins) ≡ true

typed_chain : (types : List SegType) (change : Twins → Twins) (place : ℕ) (codes : List ℕ) (chains : Chains) → ((code : ℕ) → slice_get codes place ≡ Some code → Wants types change code) → are_chains_of types codes chains ≡ true
    → are_chains_of types codes (with_chain place change chains) ≡ true
typed_chain types change place [] no_chain wants h = refl
typed_chain types change place [] (chain twins more) wants h = absurd (false≢true h)
typed_chain types change place (code ∷ codes) no_chain wants h = h
typed_chain types change zero (code ∷ codes) (chain twins more) wants h =
    let p = and_parts (are_of types code twins) (are_chains_of types codes more) h in
    and_from (are_of types code (change twins)) (are_chains_of types codes more) (wants code refl twins p.0) p.1
typed_chain types change (suc place) (code ∷ codes) (chain twins more) wants h =
    let p = and_parts (are_of types code twins) (are_chains_of types codes more) h in
    and_from (are_of types code twins) (are_chains_of types codes (with_chain place change more)) p.0 (typed_chain types change place codes more wants p.1)

typed_row : (types : List SegType) (change : Twins → Twins) (place : ℕ) (chains : Chains) → Wants types change 1 → are_roots types chains ≡ true → are_roots types (with_chain place change chains) ≡ true
typed_row types change place no_chain wants h = refl
typed_row types change zero (chain twins more) wants h =
    let p = and_parts (are_of types 1 twins) (are_roots types more) h in
    and_from (are_of types 1 (change twins)) (are_roots types more) (wants twins p.0) p.1
typed_row types change (suc place) (chain twins more) wants h =
    let p = and_parts (are_of types 1 twins) (are_roots types more) h in
    and_from (are_of types 1 twins) (are_roots types (with_chain place change more)) p.0 (typed_row types change place more wants p.1)

typed_pointer : (types : List SegType) (cells : ℕ → Option Cell) (change : Twins → Twins) (pointer : Pointer) (trees : Chains) → ((code : ℕ) → code_behind types pointer cells ≡ Some code → Wants types change code) → HangIn cells trees
    → are_roots types trees ≡ true → are_roots types (with_pointer pointer change trees) ≡ true
typed_pointer types cells change (Behind prior) trees wants hang h =
    typed_roots types cells prior (λ s below next. segment s below (change next))
    (λ code s below next e here t.
    let p = typed types code s below next t in
    let stands : cells prior ≡ Some (cell_of s below next) = ap cells (sym e) ∙ here.1 in
    let is : code_behind types (Behind prior) cells ≡ Some code = ap (option_map (λ (cell : Cell). cell.code)) stands ∙ ap (λ (n : ℕ). Some n) p.code_is in
    from_typed types code s below (change next) p.code_is p.under (wants code is next p.later)) trees hang h
typed_pointer types cells change (Below above place) trees wants hang h =
    typed_roots types cells above (λ s below next. segment s (with_chain place change below) next)
    (λ code s below next e here t.
    let p = typed types code s below next t in
    let stands : cells above ≡ Some (cell_of s below next) = ap cells (sym e) ∙ here.1 in
    let is : code_behind types (Below above place) cells ≡ slice_get (child_codes types code) place =
    ap (option_and_then (λ (cell : Cell). slice_get (child_codes types cell.code) place)) stands ∙ ap (λ (n : ℕ). slice_get (child_codes types n) place) p.code_is in
    from_typed types code s (with_chain place change below) next p.code_is (typed_chain types change place (child_codes types code) below (λ c q. wants c (is ∙ q)) p.under) p.later) trees hang h
typed_pointer types cells change (Root place) trees wants hang h = typed_row types change place trees (wants 1 refl) h

bare_typed : (types : List SegType) (codes : List ℕ) → are_chains_of types codes (bare (length codes)) ≡ true
bare_typed types [] = refl
bare_typed types (code ∷ codes) = bare_typed types codes

cut_typed : (types : List SegType) (code : ℕ) (twins : Twins) → are_of types code twins ≡ true → are_of types code (behind_first twins) ≡ true
cut_typed types code no_segment h = h
cut_typed types code (segment s below next) h = (typed types code s below next h).later

-- ---- homes

pub bare_met : (home kinds : ℕ) → times_in home (bare kinds) ≡ 0
bare_met home zero = refl
bare_met home (suc kinds) = let rest = bare_met home kinds in omega (arith, rest)

-- the homes that are met before and after a change of the twins behind a pointer
pub record Met (home : ℕ) (old now : Chains) (before after : Twins) : Type 0 where
  pub same : times_in home now + times home before ≡ times_in home old + times home after

pub met_of : (types : List SegType) (cells : ℕ → Option Cell) (leads : ℕ) (change : Twins → Twins) (old now : Chains) (x : ChainIn types cells leads change (list_in None old) (list_in None now)) (home : ℕ) → Met home old now x.twins (change x.twins)
met_of types cells leads change old now x home =
    let a = counted_in home None old ∙ ap (count home) x.was ∙ count_append home x.front (list_of x.parent x.twins ++ x.back) in
    let b = count_append home (list_of x.parent x.twins) x.back in
    let c = counted_in home None now ∙ ap (count home) x.is ∙ count_append home x.front (list_of x.parent (change x.twins) ++ x.back) in
    let d = count_append home (list_of x.parent (change x.twins)) x.back in
    let e = counted home x.parent x.twins in
    let f = counted home x.parent (change x.twins) in
    record { same = omega (arith, a, b, c, d, e, f) }

cut_met : (home : ℕ) (twins : Twins) → times home (behind_first twins) ≤ times home twins
cut_met home no_segment = omega arith
cut_met home (segment s below next) = omega arith

-- a home at which no cell stands isn't met
free_met : (cells : ℕ → Option Cell) (trees : Chains) (home : ℕ) → HangIn cells trees → cells home ≡ None → times_in home trees ≡ 0
free_met cells trees home hang free = by (times_in home trees) refl
  where
    none : (cell : Cell) → None ≡ Some cell → ⊥
    none cell e = cc

    by : (n : ℕ) → times_in home trees ≡ n → times_in home trees ≡ 0
    by zero e = e
    by (suc n) e = let there = met_stands_in cells home trees hang (omega (arith, e)) in absurd (none there.cell (sym free ∙ there.is))

new_once : (home : ℕ) (trees now : Chains) (new : Occurrence) (kinds : ℕ) (twins : Twins) → times_in home trees ≤ 1 → times_in new.home trees ≡ 0 → Met home trees now twins (before_twins new kinds twins) → times_in home now ≤ 1
new_once home trees now new kinds twins few free m = by (new.home == home) refl
  where
    by : (b : Bool) → (new.home == home) ≡ b → times_in home now ≤ 1
    by true e =
        let one = here_at home new e in
        let none = bare_met home kinds in
        let off : times_in home trees ≡ 0 = ap (λ (n : ℕ). times_in n trees) (sym (eqb-true new.home home e)) ∙ free in
        let same = m.same in
        omega (arith, one, none, off, same)
    by false e =
        let zero = here_off home new e in
        let none = bare_met home kinds in
        let same = m.same in
        omega (arith, zero, none, few, same)

-- ---- the laws

pub new_segments_keep_records : SchemasAreKept → NewSegmentsKeepRecords
new_segments_keep_records kept schema cells now firsts trees pointer new r within some free code stands set =
    let types = schema.types in
    let kinds = length (child_codes types new.code) in
    let x = chain_of schema (deepens kept schema) cells firsts trees r pointer within (before_twins new kinds) in
    record {
      from = new_segments_hang cells now firsts trees pointer new kinds r.from r.once some free stands set;
      typed = typed_pointer types cells (before_twins new kinds) pointer trees
          (λ c is twins t.
          let same : new.code ≡ c = ap (λ (o : Option ℕ). option_map_or (λ n. n) o new.code) (sym code ∙ is) in
          from_typed types c new (bare kinds) twins same (subst (λ (n : ℕ). are_chains_of types (child_codes types n) (bare kinds) ≡ true) same (bare_typed types (child_codes types new.code))) t) r.from.hang r.typed;
      once = λ home. new_once home trees (with_segment pointer new kinds trees) new kinds x.twins (r.once home) (free_met cells trees new.home r.from.hang free)
          (met_of types cells _ (before_twins new kinds) trees (with_segment pointer new kinds trees) x home);
    }

pub cuts_keep_records : SchemasAreKept → CutsKeepRecords
cuts_keep_records kept schema cells now firsts trees pointer cut r within some was set =
    let x = chain_of schema (deepens kept schema) cells firsts trees r pointer within behind_first in
    record {
      from = cuts_hang cells now firsts trees pointer cut r.from r.once some was set;
      typed = typed_pointer schema.types cells behind_first pointer trees (λ code is twins t. cut_typed schema.types code twins t) r.from.hang r.typed;
      once = λ home.
          let m = met_of schema.types cells _ behind_first trees (without_segment pointer trees) x home in
          let same = m.same in
          let less = cut_met home x.twins in
          let few = r.once home in
          omega (arith, same, less, few);
    }

mutual
  unfolding here

  content_met : (home : ℕ) (content : List ℕ) (o : ℕ) (twins : Twins) → times o (at_home home (λ s below next. segment (record s { content = content }) below next) twins) ≡ times o twins
  content_met home content o no_segment = refl
  content_met home content o (segment s below next) = by (s.home == home) (content_met_in home content o below) (content_met home content o next)
    where
      by : (b : Bool) → times_in o (in_home home (λ s below next. segment (record s { content = content }) below next) below) ≡ times_in o below → times o (at_home home (λ s below next. segment (record s { content = content }) below next) next) ≡ times o next
          → times o (if b then segment (record s { content = content }) below next else segment s (in_home home (λ s below next. segment (record s { content = content }) below next) below) (at_home home (λ s below next. segment (record s { content = content }) below next) next))
          ≡ times o (segment s below next)
      by true low high = refl
      by false low high = omega (arith, low, high)

  pub content_met_in : (home : ℕ) (content : List ℕ) (o : ℕ) (chains : Chains) → times_in o (in_home home (λ s below next. segment (record s { content = content }) below next) chains) ≡ times_in o chains
  content_met_in home content o no_chain = refl
  content_met_in home content o (chain twins more) =
      let a = content_met home content o twins in
      let b = content_met_in home content o more in
      omega (arith, a, b)

pub replaced_content_keeps_records : ReplacedContentKeepsRecords
replaced_content_keeps_records schema cells now firsts trees home content r set others = record {
  from = replaced_content_hangs cells now firsts trees home content r.from r.once set others;
  typed = typed_roots schema.types cells home (λ s below next. segment (record s { content = content }) below next)
      (λ code s below next e here t. let p = typed schema.types code s below next t in from_typed schema.types code (record s { content = content }) below next p.code_is p.under p.later) trees r.from.hang r.typed;
  once = λ o. let m = content_met_in home content o trees in let few = r.once o in omega (arith, m, few);
}
