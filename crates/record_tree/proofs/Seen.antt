-- What the walk sees of a cell of a PHIDAM side.
use Rattle.std.proofs.Common.{◌≡◌, ◌≢◌, ℕ, ◌==◌, Bool, true, false, cond, Option, None, Some, refl, ap, subst}
use Rattle.std.specs.Option.{option_map}
use Rattle.std.proofs.lemmas.Bool.{eqb-true}
use Rattle.segment_blocks.specs.declared.tile.Cell.{Cell}
use Rattle.record_walk.specs.Side.{alone, seen}

pub some_is : {X : Type 0} (x y : X) → Some x ≡ Some y → x ≡ y
some_is {X} x y is = cc

-- all but the twin of a root is seen
pub record SeenOf (cell other : Cell) : Type 0 where
  pub copied : other.copied ≡ cell.copied
  pub code : other.code ≡ cell.code
  pub name : other.name ≡ cell.name
  pub children : other.children ≡ cell.children
  pub content : other.content ≡ cell.content
  pub twin : cell.code ≢ 1 → other.twin ≡ cell.twin

alone_of : (cell : Cell) (b : Bool) → (cell.code == 1) ≡ b → SeenOf cell (cond b (record cell { twin = 0 }) cell)
alone_of cell true is = record { copied = refl; code = refl; name = refl; children = refl; content = refl; twin = λ off. absurd (off (eqb-true cell.code 1 is)) }
alone_of cell false is = record { copied = refl; code = refl; name = refl; children = refl; content = refl; twin = λ off. refl }

-- the cell at an address, as it is seen
pub record SeenAt (phdam : Bool) (cells : ℕ → Option Cell) (at : ℕ) (cell : Cell) : Type 0 where
  pub other : Cell
  pub is : seen phdam cells at ≡ Some other
  pub of : SeenOf cell other

pub seen_at : (phdam : Bool) (cells : ℕ → Option Cell) (at : ℕ) (cell : Cell) → cells at ≡ Some cell → SeenAt phdam cells at cell
seen_at true cells at cell e = record { other = cell; is = e; of = record { copied = refl; code = refl; name = refl; children = refl; content = refl; twin = λ off. refl } }
seen_at false cells at cell e = record { other = alone cell; is = ap (option_map alone) e; of = alone_of cell (cell.code == 1) refl }

-- and back: of what is seen there is a cell
pub record CellAt (cells : ℕ → Option Cell) (at : ℕ) (other : Cell) : Type 0 where
  pub cell : Cell
  pub is : cells at ≡ Some cell
  pub of : SeenOf cell other

pub cell_at : (phdam : Bool) (cells : ℕ → Option Cell) (at : ℕ) (other : Cell) → seen phdam cells at ≡ Some other → CellAt cells at other
cell_at true cells at other e = record { cell = other; is = e; of = record { copied = refl; code = refl; name = refl; children = refl; content = refl; twin = λ off. refl } }
cell_at false cells at other e = by (cells at) refl e
  where
    by : (o : Option Cell) → cells at ≡ o → option_map alone o ≡ Some other → CellAt cells at other
    by None f g = let none : None ≡ Some other = g in cc
    by (Some c) f g = record { cell = c; is = f; of = subst (SeenOf c) (some_is (alone c) other g) (alone_of c (c.code == 1) refl) }
