-- Reading one part after another, each of which may be refused.
use Rattle.std.specs.Prelude.{Result, Ok, Err}

-- the second part is read with what the first one gave; the first refusal is that of both
infixl 10 ◌>>=◌
abbrev pub ◌>>=◌ : {A B E : Type 0} → Result A E → (A → Result B E) → Result B E
(Ok x) >>= f = f x
(Err e) >>= f = Err e
