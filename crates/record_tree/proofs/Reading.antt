-- Calls that only read, one behind the other.
use Rattle.std.proofs.Common.{◌≡◌, ℕ, ◌+◌, true, refl, ◌∙◌, arith}
use Rattle.hal_base.specs.ShelfCalls.{ShelfView, OnlyReads, SameShelf}
use Rattle.hal_base.proofs.ShelfLemmas.{keeps_then, keeps_as}

pub same_then : {a b c : ShelfView} → SameShelf a b → SameShelf b c → SameShelf a c
same_then first second = record {
  pages = λ set. second.pages set ∙ first.pages set;
  places = λ set. second.places set ∙ first.places set;
  free = second.free ∙ first.free;
}

pub reads_begun : (steady : Type 0) (a : ShelfView) → steady → a.live ≡ true → OnlyReads 0 steady ⊥ a a
reads_begun steady a is live = record {
  keeps = record {
    is_steady = is;
    takes = λ set kind. refl;
    faults = record { later = omega arith; cause = λ no. absurd no; alive = λ yes. live; dead = λ no. absurd no };
    fetches = omega arith;
  };
  same = record { pages = λ set. refl; places = λ set. refl; free = refl };
  few = omega arith;
}

pub reads_then : (m n : ℕ) {s t u f g : Type 0} (a b c : ShelfView) → OnlyReads m s f a b → OnlyReads n t g b c → (s → t → u) → OnlyReads (m + n) u g a c
reads_then m n a b c first second then = record {
  keeps = keeps_then first.keeps second.keeps then;
  same = same_then first.same second.same;
  few = let x = first.few in let y = second.few in omega (arith, x, y);
}

pub reads_fail : (m : ℕ) {s f g : Type 0} (a b : ShelfView) → OnlyReads m s f a b → (f → g) → (g → f) → OnlyReads m s g a b
reads_fail m a b reads to from = record { keeps = keeps_as reads.keeps to from; same = reads.same; few = reads.few }
