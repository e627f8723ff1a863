-- A line over a keeper, as the taker tells it.
use Rattle.std.proofs.Common.{◌≡◌, ℕ, true, List, Option, refl, sym, ◌∙◌, subst, inl}
use Rattle.std.proofs.lemmas.Bool.{and_parts}
use Rattle.std.specs.Prelude.{IsTrue, Result, Ok, Err, IsErrOf}
use Rattle.hal_base.proofs.StopLemmas.{leaves-stay}
use Rattle.hal_base.proofs.StoreLemmas.{say_room_then}
use Rattle.script_runs.specs.TakerView.{TakerView}
use Rattle.script_runs.specs.Taken.{Meaning, TookOne, CutOne}
use Rattle.script_runs.specs.declared.taker.EngineFault.{EngineFault}
use Rattle.script_runs.specs.declared.taker.EngineFault.TheVariants.{DiskFault, SayFault, Memory}
use Rattle.volume_keeper.specs.KeeperView.{KeeperView, DiskFails, LeavesCommitted, IsHeld, is_clear}
use Rattle.volume_keeper.specs.Calls.{StagesEvent, StagesNone, LeavesKept, SaysState}
use Rattle.volume_keeper.specs.Laws.{alive, dead}
use Rattle.volume_keeper.specs.Steps.{Keeps}
use Rattle.volume_keeper.specs.TakerOf.{telling, taker_of}
use Rattle.volume_keeper.specs.declared.keeper.Staged.{Staged}
use Rattle.volume_keeper.proofs.Events.{Begins, Done, none_done, cut_in_commit, cut_in_say, took, kept_of, said_of}

-- what a keeper's laws say of it
pub record Lawful {S : Type 0} (meaning : Meaning S) (a : KeeperView S) : Type 0 where
  pub held : a.store.live ≡ true → IsHeld meaning.keeping a
  pub exact : a.store.live ≡ true → LeavesCommitted a

pub begins_at : {S : Type 0} (meaning : Meaning S) (a : KeeperView S) → Lawful meaning a → IsTrue (is_clear a) → Begins meaning a
begins_at meaning a laws clear =
    let both = and_parts a.store.clean a.store.live clear in
    record { held = laws.held both.1; exact = laws.exact both.1; clean = both.0 }

live_at : {S : Type 0} (a : KeeperView S) → IsTrue (is_clear a) → a.store.live ≡ true
live_at a clear = (and_parts a.store.clean a.store.live clear).1

-- what blocks hold doesn't depend on the keeper whose schema it is
pub held_by : {S M : Type 0} (meaning : M → Meaning S) (x y : M) (view : KeeperView S) → y ≡ x → (view.store.live ≡ true → IsHeld (meaning y).keeping view) → view.store.live ≡ true → IsHeld (meaning x).keeping view
held_by {M = M} meaning x y view same held live = let P : M → Type 0 = λ m. IsHeld (meaning m).keeping view in subst P same (held live)

-- a fault that leaves nothing of the event
cut_early : {S : Type 0} (meaning : Meaning S) (script : Option ℕ) (number : ℕ) (line : List ℕ) (a b : KeeperView S) (fault : EngineFault) (view : TakerView S) → a.store.live ≡ true → taker_of b ≡ view
    → CutOne meaning script number line (telling a.state a.free a) view fault → CutOne meaning script number line (taker_of a) (taker_of b) fault
cut_early {S} meaning script number line a b fault view live is cut =
    let P : TakerView S → Type 0 = λ v. CutOne meaning script number line v (taker_of b) fault in
    let Q : TakerView S → Type 0 = λ v. CutOne meaning script number line (telling a.state a.free a) v fault in
    subst P (sym (alive a live)) (subst Q (sym is) cut)

pub cut_in_stage : {S T : Type 0} (meaning : Meaning S) (script : Option ℕ) (number : ℕ) (line : List ℕ) (a b : KeeperView S) (fault : EngineFault) → Lawful meaning a → IsTrue (is_clear a)
    → LeavesKept a b → (IsErrOf {T = T} (Err fault) Memory → StagesNone a b) → (IsErrOf {T = T} (Err fault) SayFault → ⊥) → DiskFails (IsErrOf {T = T} (Err fault) DiskFault) a b
    → CutOne meaning script number line (taker_of a) (taker_of b) fault
cut_in_stage meaning script number line a b Memory laws clear leaves none says faults =
    let drops = none refl in
    cut_early meaning script number line a b Memory (telling b.state b.free b) (live_at a clear) (alive b (faults.alive (λ e. absurd cc)))
    (none_done meaning script number line a b b.state b.free Memory (begins_at meaning a laws clear) drops.state (λ kept. drops.free) (refl, refl) leaves.store.said leaves.store.say_faults leaves.store.room leaves.store.stops)
cut_in_stage meaning script number line a b DiskFault laws clear leaves none says faults =
    let begins = begins_at meaning a laws clear in
    cut_early meaning script number line a b DiskFault (telling b.kept b.kept_free b) (live_at a clear) (dead b (faults.dead refl))
    (none_done meaning script number line a b b.kept b.kept_free DiskFault begins (leaves.kept ∙ sym (begins.held.clean begins.clean).0) (λ kept. absurd kept) (refl, inl (refl, refl)) leaves.store.said leaves.store.say_faults leaves.store.room leaves.store.stops)
cut_in_stage meaning script number line a b SayFault laws clear leaves none says faults = absurd (says refl)

pub cut_in_keep : {S T : Type 0} (meaning : Meaning S) (script : Option ℕ) (number : ℕ) (line : List ℕ) (a b c : KeeperView S) (staged : Staged) (fault : EngineFault) → Lawful meaning a → IsTrue (is_clear a)
    → StagesEvent meaning script number line a b staged → LeavesKept a b → IsHeld meaning.keeping b → Keeps {S = S} {T = T} (Err fault) b c
    → CutOne meaning script number line (taker_of a) (taker_of c) fault
cut_in_keep meaning script number line a b c staged Memory laws clear event leaves held keeps =
    let begins = begins_at meaning a laws clear in
    let drops = keeps.dropped refl in
    cut_early meaning script number line a c Memory (telling c.state c.free c) (live_at a clear) (alive c (keeps.faults.alive (λ e. absurd cc)))
    (none_done meaning script number line a c c.state c.free Memory begins (drops.0 ∙ leaves.kept ∙ sym (begins.held.clean begins.clean).0) (λ kept. drops.1 ∙ leaves.kept_free ∙ sym (begins.held.clean begins.clean).1) (refl, refl)
    (keeps.said ∙ leaves.store.said) (keeps.say_faults ∙ leaves.store.say_faults) (say_room_then leaves.store.room keeps.room)
    (leaves-stay leaves.store.stops (keeps.quiet refl) (λ blocks words at. at)))
cut_in_keep meaning script number line a b c staged DiskFault laws clear event leaves held keeps =
    cut_early meaning script number line a c DiskFault (telling c.kept c.kept_free c) (live_at a clear) (dead c (keeps.faults.dead refl))
    (cut_in_commit meaning script number line a b c staged (kept_of (begins_at meaning a laws clear) event leaves held keeps) keeps.unkept)
cut_in_keep meaning script number line a b c staged SayFault laws clear event leaves held keeps = absurd (keeps.no_say refl)

done_at : {S T U E : Type 0} (meaning : Meaning S) (script : Option ℕ) (number : ℕ) (line : List ℕ) (a b c d : KeeperView S) (staged : Staged) (u : T) (result : Result U E) → Lawful meaning a → IsTrue (is_clear a)
    → StagesEvent meaning script number line a b staged → LeavesKept a b → IsHeld meaning.keeping b → Keeps {S = S} {T = T} (Ok u) b c → IsHeld meaning.keeping c → SaysState result staged.reply c d
    → Done meaning script number line a b c d staged
done_at meaning script number line a b c d staged u result laws clear event leaves held keeps held_then says =
    record { upto = kept_of (begins_at meaning a laws clear) event leaves held keeps; kept = keeps.kept.0; same = keeps.kept.1; rest = said_of held_then says }

pub cut_in_tell : {S T U E : Type 0} (meaning : Meaning S) (script : Option ℕ) (number : ℕ) (line : List ℕ) (a b c d : KeeperView S) (staged : Staged) (u : T) (fault : E) → Lawful meaning a → IsTrue (is_clear a)
    → StagesEvent meaning script number line a b staged → LeavesKept a b → IsHeld meaning.keeping b → Keeps {S = S} {T = T} (Ok u) b c → IsHeld meaning.keeping c → SaysState {S = S} {T = U} {E = E} (Err fault) staged.reply c d
    → CutOne meaning script number line (taker_of a) (taker_of d) SayFault
cut_in_tell meaning script number line a b c d staged u fault laws clear event leaves held keeps held_then says =
    cut_early meaning script number line a d SayFault (telling d.state d.free d) (live_at a clear) (alive d says.store.live)
    (cut_in_say meaning script number line a b c d staged (done_at meaning script number line a b c d staged u (Err fault) laws clear event leaves held keeps held_then says) says.store.part)

pub took_line : {S T U E : Type 0} (meaning : Meaning S) (script : Option ℕ) (number : ℕ) (line : List ℕ) (a b c d : KeeperView S) (staged : Staged) (u : T) (v : U) → Lawful meaning a → IsTrue (is_clear a)
    → StagesEvent meaning script number line a b staged → LeavesKept a b → IsHeld meaning.keeping b → Keeps {S = S} {T = T} (Ok u) b c → IsHeld meaning.keeping c → SaysState {S = S} {T = U} {E = E} (Ok v) staged.reply c d
    → TookOne meaning script number line (taker_of a) (taker_of d) staged.done
took_line {S} meaning script number line a b c d staged u v laws clear event leaves held keeps held_then says =
    let P : TakerView S → Type 0 = λ w. TookOne meaning script number line w (taker_of d) staged.done in
    let Q : TakerView S → Type 0 = λ w. TookOne meaning script number line (telling a.state a.free a) w staged.done in
    subst P (sym (alive a (live_at a clear))) (subst Q (sym (alive d says.store.live))
    (took meaning script number line a b c d staged (done_at meaning script number line a b c d staged u (Ok v) laws clear event leaves held keeps held_then says) says.store.said))
