-- What stands in the view of a walked partition, and tests of its rows.
use Rattle.std.proofs.Common.{◌≡◌, ℕ, Bool, true, false, cond, ◌&&◌, ◌||◌, List, [], ◌∷◌, map, Option, None, Some, inl, inr, refl, ap, ◌∙◌}
use Rattle.std.specs.List.{list_all, list_any}
use Rattle.std.specs.Option.{option_map, option_map_or}
use Rattle.std.proofs.lemmas.Bool.{false≢true}
use Rattle.hal_schema.specs.declared.row.Row.{Row}
use Rattle.hal_schema.specs.Forest.{all_pairs}
use Rattle.forest_laws.proofs.Lists.{Among}
use Rattle.segment_blocks.specs.declared.tile.Cell.{Cell}
use Rattle.record_walk.specs.Listing.{Placed, list_in}
use Rattle.record_walk.specs.InRecords.{is_cell_of}
use Rattle.volume_rules.specs.View.{Home, Homed, Segment, is_live}
use Rattle.volume_rules.specs.Volume.{is_segment_of}
use Rattle.walked_rules.specs.Parts.{WalkedPart, segment_of, homed, view_of}

-- ---- of live generations

pub segment_at : (p : WalkedPart) (home : Home) → is_live p.state home.number ≡ true → (view_of p).segments home ≡ option_map segment_of (p.cells home.number home.addr)
segment_at p home e = ap (λ (b : Bool). cond b (option_map segment_of (p.cells home.number home.addr)) None) e

pub rows_at : (p : WalkedPart) (number : ℕ) → is_live p.state number ≡ true → (view_of p).rows number ≡ map homed (list_in None (p.trees number))
rows_at p number e = ap (λ (b : Bool). cond b (map homed (list_in None (p.trees number))) []) e

-- the cell of a segment that stands
pub record CellOf (p : WalkedPart) (home : Home) (s : Segment) : Type 0 where
  pub live : is_live p.state home.number ≡ true
  pub cell : Cell
  pub here : p.cells home.number home.addr ≡ Some cell
  pub is : segment_of cell ≡ s

some_segment : (a b : Segment) → Some a ≡ Some b → a ≡ b
some_segment a b e = cc

pub cell_of : (p : WalkedPart) (home : Home) (s : Segment) → (view_of p).segments home ≡ Some s → CellOf p home s
cell_of p home s here = by (is_live p.state home.number) refl (p.cells home.number home.addr) refl here
  where
    by : (b : Bool) → is_live p.state home.number ≡ b → (o : Option Cell) → p.cells home.number home.addr ≡ o → cond b (option_map segment_of o) None ≡ Some s → CellOf p home s
    by false e o f h = cc
    by true e None f h = cc
    by true e (Some cell) f h = record { live = e; cell = cell; here = f; is = some_segment (segment_of cell) s h }

-- ---- tests of the rows

pub all_homed : (t : Homed → Bool) (list : List Placed) → list_all t (map homed list) ≡ list_all (λ p. t (homed p)) list
all_homed t [] = refl
all_homed t (p ∷ list) = ap (λ (b : Bool). t (homed p) && b) (all_homed t list)

pub any_homed : (t : Homed → Bool) (list : List Placed) → list_any t (map homed list) ≡ list_any (λ p. t (homed p)) list
any_homed t [] = refl
any_homed t (p ∷ list) = ap (λ (b : Bool). t (homed p) || b) (any_homed t list)

pub pairs_homed : (t : Homed → Homed → Bool) (list : List Placed) → all_pairs t (map homed list) ≡ all_pairs (λ p q. t (homed p) (homed q)) list
pairs_homed t [] = refl
pairs_homed t (p ∷ list) =
    ap (λ (b : Bool). b && all_pairs t (map homed list)) (all_homed (t (homed p)) list) ∙ ap (λ (b : Bool). list_all (λ q. t (homed p) (homed q)) list && b) (pairs_homed t list)

-- a test that the list of each live generation passes
pub in_live : (p : WalkedPart) (test : List Homed → Bool) → test [] ≡ true → (number : ℕ) → (is_live p.state number ≡ true → test (map homed (list_in None (p.trees number))) ≡ true)
    → test ((view_of p).rows number) ≡ true
in_live p test none number live = by (is_live p.state number) refl
  where
    by : (b : Bool) → is_live p.state number ≡ b → test (cond b (map homed (list_in None (p.trees number))) []) ≡ true
    by true e = live e
    by false e = none

-- the cell of a row is its segment
pub stands_so : (row : Row) (o : Option Cell) → option_map_or (is_segment_of row) (option_map segment_of o) false ≡ option_map_or (is_cell_of row) o false
stands_so row None = refl
stands_so row (Some cell) = refl

-- ---- an item that passes

pub record Passing {X : Type 0} (test : X → Bool) (xs : List X) : Type 0 where
  pub item : X
  pub among : Among item xs
  pub passes : test item ≡ true

pub passing : {X : Type 0} (test : X → Bool) (xs : List X) → list_any test xs ≡ true → Passing test xs
passing test [] h = absurd (false≢true h)
passing test (x ∷ xs) h = by (test x) refl h (passing test xs)
  where
    by : (b : Bool) → test x ≡ b → (b || list_any test xs) ≡ true → (list_any test xs ≡ true → Passing test xs) → Passing test (x ∷ xs)
    by true e h later = record { item = x; among = inl refl; passes = e }
    by false e h later = let p = later h in record { item = p.item; among = inr p.among; passes = p.passes }
