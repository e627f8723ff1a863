-- What is kept of the last commit while a volume changes.
use Rattle.std.proofs.Common.{◌≡◌, ◌∙◌, ℕ, Bool, false, List, reverse, Option, None, Some, Ok, Err, Result, refl, sym, ap, subst}
use Rattle.std.specs.Prelude.{IsSome, IsErrOf, OnOk, is_err}
use Rattle.std.proofs.lemmas.Bool.{true≢false}
use Rattle.hal_base.specs.declared.place.PartState.{PartState}
use Rattle.hal_base.specs.Fault.{Fails}
use Rattle.hal_base.specs.Outcome.{page_fault}
use Rattle.hal_base.specs.declared.outcome.PageFault.{PageFault}
use Rattle.hal_base.specs.declared.outcome.PageFault.TheVariants as page
use Rattle.hal_base.specs.declared.outcome.StageFault.{StageFault}
use Rattle.hal_base.specs.declared.outcome.StageFault.TheVariants.{Failed, Memory}
use Rattle.hal_base.proofs.ShelfLemmas.{fails_as}
use Rattle.data_set_pairs.specs.declared.place.PagePlace.{PagePlace}
use Rattle.data_set_pairs.specs.declared.table.Table.{Table}
use Rattle.data_set_pairs.specs.Table.{IsTable}
use Rattle.data_set_pairs.specs.Volume.{IsLaidOut}
use Rattle.data_set_pairs.specs.Kept.{last_pages, last_free}
use Rattle.data_set_pairs.specs.Shelf.{standing}

pub not_failed : {T E P : Type 0} (r : Result T E) (b : Bool) → b ≡ is_err r → b ≡ false → OnOk r P → P
not_failed (Ok x) b is good done = done
not_failed (Err e) b is good done = absurd (true≢false (sym is ∙ good))

pub pages_kept : (kept : Option Table) (a b : Table) → IsSome kept → last_pages kept a ≡ last_pages kept b
pages_kept None a b there = absurd (true≢false (sym there))
pages_kept (Some t) a b there = refl

pub free_kept : (kept : Option Table) (a b : Table) → IsSome kept → last_free kept a ≡ last_free kept b
free_kept None a b there = absurd (true≢false (sym there))
free_kept (Some t) a b there = refl

-- a stage that was done, and one that wasn't, as the fault of a page
pub fails_done : {T U E F : Type 0} {a b : ℕ} {m : Bool} (r : Result T E) (e : E) (u : U) (f : F) → ((x : E) → r ≡ Err x → ⊥) → Fails (IsErrOf r e) a b m → Fails (IsErrOf (Ok u) f) a b m
fails_done {T} {U} {E} {F} r e u f never fails = fails_as fails (λ is. absurd (never e is)) (λ is. absurd (wrong is))
  where
    wrong : Ok u ≡ Err f → ⊥
    wrong is = cc

pub fails_page : {T U : Type 0} {a b : ℕ} {m : Bool} (r : Result T StageFault) (fault : StageFault) (now : PageFault) → r ≡ Err fault → now ≡ page_fault fault → Fails (IsErrOf r Failed) a b m → Fails (IsErrOf {T = U} (Err now) page.Failed) a b m
fails_page r Failed now is by fails = fails_as fails (λ _. ap Err by) (λ _. is)
fails_page {T} {U} {a} {b} {m} r Memory now is by fails = fails_as fails (λ at. absurd (other is at)) (λ at. absurd (page_other by at))
  where
    other : r ≡ Err Memory → r ≡ Err Failed → ⊥
    other is at = cc

    page_other : now ≡ page.Memory → IsErrOf {T = U} (Err now) page.Failed → ⊥
    page_other by at = cc

-- the same table and blocks, said of equal lists
pub table_moved : (control number : ℕ) (pages more : List PagePlace) (free left : List ℕ) → more ≡ pages → left ≡ free → IsTable control number pages (reverse free) → IsTable control number more (reverse left)
table_moved control number pages more free left same less table = subst (λ (l : List ℕ). IsTable control number more (reverse l)) (sym less) (subst (λ (l : List PagePlace). IsTable control number l (reverse free)) (sym same) table)

pub laid_moved : (indexes control number : ℕ) (states : List PartState) (pages more : List PagePlace) (free left : List ℕ) (list : List (List ℕ)) → more ≡ pages → left ≡ free → IsLaidOut indexes control number states pages (reverse free) list → IsLaidOut indexes control number states more (reverse left) list
laid_moved indexes control number states pages more free left list same less laid = subst (λ (l : List ℕ). IsLaidOut indexes control number states more (reverse l) list) (sym less) (subst (λ (l : List PagePlace). IsLaidOut indexes control number states l (reverse free) list) (sym same) laid)

pub standing_same : (indexes control : ℕ) (states last : List PartState) (pages more : List PagePlace) (free left : List ℕ) → more ≡ pages → left ≡ free → standing indexes control states last more left ≡ standing indexes control states last pages free
standing_same indexes control states last pages more free left same less = ap (λ (l : List PagePlace). standing indexes control states last l left) same ∙ ap (standing indexes control states last pages) less

pub is_done : {T E P : Type 0} (r : Result T E) → ((e : E) → r ≡ Err e → ⊥) → OnOk r P → P
is_done (Ok x) never done = done
is_done (Err e) never done = absurd (never e refl)
