-- The list of a side is of just its cells.
use Rattle.std.proofs.Common.{◌≡◌, ℕ, ◌+◌, ◌<◌, ◌==◌, Bool, true, false, not, cond, ◌&&◌, ◌||◌, List, [], ◌∷◌, ◌++◌, Option, None, Some, refl, ap, ◌∙◌, arith}
use Rattle.std.specs.List.{list_all, list_any}
use Rattle.std.specs.Option.{option_map, option_map_or}
use Rattle.std.specs.Str.{bytes_eq}
use Rattle.std.proofs.lemmas.Bool.{and_from, eq-eqb}
use Rattle.hal_base.specs.declared.place.Ilk.{Ilk}
use Rattle.hal_schema.specs.Row.{same_name}
use Rattle.hal_schema.proofs.RowNames.{name_from}
use Rattle.segment_blocks.specs.declared.tile.Cell.{Cell}
use Rattle.forest_laws.proofs.Lists.{all_append}
use Rattle.record_walk.specs.Tree.{Occurrence, Twins, no_segment, segment, Chains, no_chain, chain, cell_of, Hangs, HangIn}
use Rattle.record_walk.specs.Listing.{Placed, placed, list_of, list_in}
use Rattle.record_walk.specs.Side.{alone, seen}
use Rattle.record_walk.specs.InRecords.{is_cell_of, SidesListTheirCells}
use Rattle.record_walk.proofs.OnLists.{count, counted_in}
use Rattle.record_walk.proofs.RecordOf.{bytes_itself, differ_in}

-- what is seen of a cell has all of it but the twin and the children
pub record SeenOf (o : Option Cell) (cell : Cell) : Type 0 where
  pub is : Cell
  pub stands : o ≡ Some is
  pub copied : is.copied ≡ cell.copied
  pub code : is.code ≡ cell.code
  pub name : is.name ≡ cell.name
  pub content : is.content ≡ cell.content

some_cell : (a b : Cell) → Some a ≡ Some b → a ≡ b
some_cell a b e = cc

pub seen_of : (phdam : Bool) (cells : ℕ → Option Cell) (home : ℕ) (cell : Cell) → seen phdam cells home ≡ Some cell → SeenOf (cells home) cell
seen_of true cells home cell e = record { is = cell; stands = e; copied = refl; code = refl; name = refl; content = refl }
seen_of false cells home cell e = by (cells home) e
  where
    of : (o : Cell) (b : Bool) → cond b (record o { twin = 0 }) o ≡ cell → SeenOf (Some o) cell
    of o true e = record { is = o; stands = refl; copied = ap (λ (c : Cell). c.copied) e; code = ap (λ (c : Cell). c.code) e; name = ap (λ (c : Cell). c.name) e; content = ap (λ (c : Cell). c.content) e }
    of o false e = record { is = o; stands = refl; copied = ap (λ (c : Cell). c.copied) e; code = ap (λ (c : Cell). c.code) e; name = ap (λ (c : Cell). c.name) e; content = ap (λ (c : Cell). c.content) e }

    by : (o : Option Cell) → option_map alone o ≡ Some cell → SeenOf o cell
    by None e = cc
    by (Some o) e = of o (o.code == 1) (some_cell (alone o) cell e)

abbrev stands : (ℕ → Option Cell) → Placed → Bool
stands cells p = option_map_or (is_cell_of p.row) (cells p.home) false

stands_here : (phdam : Bool) (cells : ℕ → Option Cell) (parent : Option Ilk) (s : Occurrence) (below : Chains) (next : Twins) → seen phdam cells s.home ≡ Some (cell_of s below next) → stands cells (placed parent s) ≡ true
stands_here phdam cells parent s below next e =
    let o = seen_of phdam cells s.home (cell_of s below next) e in
    let c = o.is in
    ap (λ (q : Option Cell). option_map_or (is_cell_of (placed parent s).row) q false) o.stands
    ∙ and_from (not c.copied && c.code == s.code && same_name c.name s.name) (bytes_eq c.content s.content)
    (and_from (not c.copied && c.code == s.code) (same_name c.name s.name) (and_from (not c.copied) (c.code == s.code) (ap not o.copied) (eq-eqb c.code s.code o.code)) (name_from c.name s.name o.name))
    (ap (λ (l : List ℕ). bytes_eq l s.content) o.content ∙ bytes_itself s.content)

mutual
  all_stand : (phdam : Bool) (cells : ℕ → Option Cell) (parent : Option Ilk) (twins : Twins) → Hangs (seen phdam cells) twins → list_all (stands cells) (list_of parent twins) ≡ true
  all_stand phdam cells parent no_segment h = refl
  all_stand phdam cells parent (segment s below next) h =
      and_from (stands cells (placed parent s)) (list_all (stands cells) (list_in (Some s.name) below ++ list_of parent next)) (stands_here phdam cells parent s below next (h.1))
      (all_append (stands cells) (list_in (Some s.name) below) (list_of parent next) (all_stand_in phdam cells (Some s.name) below (h.2)) (all_stand phdam cells parent next (h.3)))

  all_stand_in : (phdam : Bool) (cells : ℕ → Option Cell) (parent : Option Ilk) (chains : Chains) → HangIn (seen phdam cells) chains → list_all (stands cells) (list_in parent chains) ≡ true
  all_stand_in phdam cells parent no_chain h = refl
  all_stand_in phdam cells parent (chain twins more) h =
      all_append (stands cells) (list_of parent twins) (list_in parent more) (all_stand phdam cells parent twins (h.0)) (all_stand_in phdam cells parent more (h.1))

counted_any : (home : ℕ) (list : List Placed) → 0 < count home list → list_any (λ p. p.home == home) list ≡ true
unfolding count
counted_any home [] h = absurd (omega (arith, h))
counted_any home (p ∷ list) h = by (p.home == home) h (counted_any home list)
  where
    by : (b : Bool) → 0 < cond b 1 0 + count home list → (0 < count home list → list_any (λ q. q.home == home) list ≡ true) → (b || list_any (λ q. q.home == home) list) ≡ true
    by true h rest = refl
    by false h rest = rest (omega (arith, h))

pub sides_list_their_cells : SidesListTheirCells
sides_list_their_cells schema place cells rows trees side = record {
  stand = all_stand_in schema.phdam cells None trees side.walked.hangs;
  met = λ home cell is kept. let m = side.walked.all_met home cell is kept in let c = counted_in home None trees in counted_any home (list_in None trees) (omega (arith, m, c));
  once = differ_in trees side.walked.once;
}
