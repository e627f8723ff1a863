-- The target of an entry, in the generation of its root. IMS: an extended pointer that is not of that generation is looked
-- up in the indirect list.
use Rattle.std.specs.Prelude.{◌≡◌, ◌==◌, ℕ, Option, Some, IfSome, if◌then◌else◌}
use Rattle.hal_base.specs.declared.pages.SetId.{SetId}
use Rattle.hal_base.specs.ShelfCalls.{ShelfView}
use Rattle.keyed_sets.specs.Map.{rows_of}
use Rattle.eps_pointers.specs.declared.pointer.Eps.{Eps}
use Rattle.eps_pointers.specs.Listed.{list_shape, entry_in}
use Rattle.eps_pointers.specs.Target.{target_of}

-- the target's address, where the list is told; where the pointer's number is that generation, it is its own in any case
pub record Resolves (list : SetId) (seen : ShelfView) (now : ℕ) (eps : Eps) (code : ℕ) (found : Option ℕ) : Type 0 where
  pub direct : eps.number ≡ now → found ≡ Some eps.addr
  pub is : IfSome (seen.pages list) (λ pages. found ≡ target_of now eps (entry_in (rows_of list_shape pages) eps.ilk code))

-- how many pages are read
abbrev pub looks_of : ℕ → Eps → ℕ
looks_of now eps = if eps.number == now then 0 else 1
