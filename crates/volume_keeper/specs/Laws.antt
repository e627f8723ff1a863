-- What a taker over a keeper owes to its trait.
use Rattle.std.proofs.Common.{◌≡◌, ℕ, Bool, true, false, List, Option, None, Some, sym, ap, ◌∙◌, subst}
use Rattle.std.proofs.lemmas.Bool.{and_parts}
use Rattle.std.specs.Prelude.{IsTrue, if◌then◌else◌}
use Rattle.hal_base.specs.Stops.{IsTold}
use Rattle.script_runs.specs.Stops.{Keeping}
use Rattle.script_runs.specs.TakerView.{TakerView, LeavesTold}
use Rattle.volume_keeper.specs.KeeperView.{KeeperView, HoldsOn, IsHeld, LeavesCommitted, is_clear}
use Rattle.volume_keeper.specs.TakerOf.{telling, taker_of}

pub alive : {S : Type 0} (a : KeeperView S) → a.store.live ≡ true → taker_of a ≡ telling a.state a.free a
alive a live = ap (λ (b : Bool). telling (if b then a.state else a.kept) (if b then a.free else a.kept_free) a) live

pub dead : {S : Type 0} (a : KeeperView S) → a.store.live ≡ false → taker_of a ≡ telling a.kept a.kept_free a
dead a live = ap (λ (b : Bool). telling (if b then a.state else a.kept) (if b then a.free else a.kept_free) a) live

pub told_is : {X : Type 0} (told : Option X) (x y : X) → told ≡ Some x → IsTold told y → y ≡ x
told_is None x y is at = cc
told_is (Some z) x y is at = let same : z ≡ x = cc in at ∙ same

pub told_holds : {S : Type 0} (keeping : Keeping S) (told : Option (List (List ℕ))) (state : S) (free : ℕ) (blocks : List (List ℕ))
    → HoldsOn keeping told state free → IsTold told blocks → keeping.holds blocks state × (keeping.free blocks ≡ free)
told_holds keeping None state free blocks holds is = absurd holds
told_holds keeping (Some x) state free blocks holds is =
    let P : List (List ℕ) → Type 0 = λ l. keeping.holds l state × (keeping.free l ≡ free) in subst P (sym is) holds

pub leaves_told : {S : Type 0} (keeping : Keeping S) (a : KeeperView S) → (a.store.live ≡ true → IsHeld keeping a)
    → (a.store.live ≡ true → LeavesCommitted a) → IsTrue (is_clear a) → LeavesTold keeping (taker_of a)
leaves_told {S} keeping a held exact ready =
    let both = and_parts a.store.clean a.store.live ready in
    let holds = held both.1 in
    let last : (start : S) → a.state ≡ Some start → HoldsOn keeping a.store.committed start a.kept_free =
    λ start is. holds.last start (sym (holds.clean both.0).0 ∙ is) in
    let P : TakerView S → Type 0 = λ view. LeavesTold keeping view in
    subst P (sym (alive a both.1)) (record {
      kept = λ start blocks words is left. (told_holds keeping a.store.committed start a.kept_free blocks (last start is) ((exact both.1).kept_is blocks words left)).0;
      free = λ start blocks words is left. (told_holds keeping a.store.committed start a.kept_free blocks (last start is) ((exact both.1).kept_is blocks words left)).1 ∙ sym (holds.clean both.0).1;
      said = λ before blocks words is left. told_is a.store.said before words is ((exact both.1).said_is blocks words left);
    })
