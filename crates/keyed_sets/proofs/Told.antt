-- What is claimed of pages where they are told, and shelves that were only read.
use Rattle.std.proofs.Common.{◌≡◌, Bool, true, false, not, Option, Some, None, Result, Ok, Err, refl}
use Rattle.std.specs.Prelude.{IfSome, OnErr, ⊤}
use Rattle.std.proofs.lemmas.Option.{MatchOption-at_some}

pub where_told : {X : Type 0} (o : Option X) (P : X → Type 0) → ((x : X) → o ≡ Some x → P x) → IfSome o P
where_told None P holds = tt
where_told (Some x) P holds = holds x refl

pub told_both : {X : Type 0} (o : Option X) (P Q : X → Type 0) → IfSome o P → ((x : X) → o ≡ Some x → P x → Q x) → IfSome o Q
told_both None P Q first then = tt
told_both (Some x) P Q first then = then x refl first

pub ok_not_err : {T E : Type 0} (r : Result T E) (t : T) (e : E) → r ≡ Ok t → r ≡ Err e → ⊥
ok_not_err r t e ok err = cc

pub told_at : {X : Type 0} (o : Option X) (x : X) (P : X → Type 0) → o ≡ Some x → IfSome o P → P x
told_at o x P is holds = MatchOption-at_some ⊤ P x is holds

pub any_err : {T E P : Type 0} (r : Result T E) → P → OnErr r P
any_err (Ok t) holds = tt
any_err (Err e) holds = holds

-- one fault, in two results
pub one_fault : {T U E : Type 0} (r : Result T E) (s : Result U E) (x e fault : E) → r ≡ Err x → s ≡ Err e → e ≡ x → (r ≡ Err fault → s ≡ Err fault) × (s ≡ Err fault → r ≡ Err fault)
one_fault r s x e fault first second same = (λ is. cc, λ is. cc)

pub flipped : (b : Bool) → not b ≡ false → b ≡ true
flipped true is = refl
flipped false is = cc
