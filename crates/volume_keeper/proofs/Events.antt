-- One event over a keeper: staged, kept, said.
use Rattle.std.proofs.Common.{◌≡◌, ℕ, ◌+◌, ◌-◌, ◌≤◌, Bool, true, false, List, [], ◌∷◌, ◌++◌, length, Option, None, Some, refl, sym, ap, ◌∙◌, subst, inl, inr, arith, append-nil}
use Rattle.std.specs.Prelude.{◌⊎◌, IsSomeAnd, Result, MatchBool}
use Rattle.std.specs.Io.KnownBytes.{Appends, append_known}
use Rattle.std.proofs.KnownBytes.{Appends-nil}
use Rattle.hal_base.specs.Room.{HasSayRoom}
use Rattle.hal_base.specs.Said.{AppendsPart}
use Rattle.hal_base.specs.Stops.{IsTold, LeavesOnly, CommitLeaves, SayLeaves}
use Rattle.hal_base.proofs.StopLemmas.{leaves-then, leaves-weaken}
use Rattle.hal_base.proofs.StoreLemmas.{say_room_then}
use Rattle.script_runs.specs.Language.{Step, IsOf, AreOnLines, state_after, least_after}
use Rattle.script_runs.specs.Stops.{Keeping, IsStop, StopsAmong}
use Rattle.script_runs.specs.Taken.{Meaning, Began, IsKept, KeepsRoom, told_steps, TookOne, CutOne}
use Rattle.script_runs.specs.declared.taker.EngineFault.{EngineFault}
use Rattle.script_runs.specs.declared.taker.EngineFault.TheVariants.{DiskFault, SayFault, Memory}
use Rattle.volume_keeper.specs.KeeperView.{KeeperView, LeavesCommitted, HoldsOn, IsHeld}
use Rattle.volume_keeper.specs.Calls.{StagesEvent, LeavesKept, SameState, SameKept, KeepsState, SaysState}
use Rattle.volume_keeper.specs.TakerOf.{telling}
use Rattle.volume_keeper.specs.Laws.{told_is, told_holds}
use Rattle.volume_keeper.specs.Steps.{Keeps}
use Rattle.volume_keeper.specs.declared.keeper.Staged.{Staged}

-- ---- what is told of a keeper

-- a keeper on which nothing is staged, and which may be used
pub record Begins {S : Type 0} (meaning : Meaning S) (a : KeeperView S) : Type 0 where
  pub held : IsHeld meaning.keeping a
  pub exact : LeavesCommitted a
  pub clean : a.store.clean ≡ true

begun_last : {S : Type 0} (meaning : Meaning S) (a : KeeperView S) → Begins meaning a → (start : S) → a.state ≡ Some start → HoldsOn meaning.keeping a.store.committed start a.kept_free
begun_last meaning a begins start is = begins.held.last start (sym (begins.held.clean begins.clean).0 ∙ is)

-- a stop at the beginning leaves the state that is told
pub begun_holds : {S : Type 0} (meaning : Meaning S) (a : KeeperView S) → Begins meaning a → (start : S) (before : List ℕ) → a.state ≡ Some start → a.store.said ≡ Some before
    → (blocks : List (List ℕ)) (words : List ℕ) → a.store.left_at a.store.moment blocks words → meaning.keeping.holds blocks start × (words ≡ before)
begun_holds meaning a begins start before is said blocks words at = (
  (told_holds meaning.keeping a.store.committed start a.kept_free blocks (begun_last meaning a begins start is) (begins.exact.kept_is blocks words at)).0,
  told_is a.store.said before words said (begins.exact.said_is blocks words at),
)

-- ---- rooms

same_said : (old new : Option (List ℕ)) → new ≡ old → Appends old new []
same_said old new same = let P : Option (List ℕ) → Type 0 = λ s. Appends old s [] in subst P (sym same) (Appends-nil old)

quiet_say : {a b : Option ℕ} {f g h k : ℕ} {most : ℕ → Type 0} (fits : ℕ → Type 0) → HasSayRoom a b f g most → k ≡ h → HasSayRoom a b h k fits
quiet_say fits room same = record { stays = room.stays; quiet = λ most is fit. same }

-- ---- nothing was done

-- A fault came before the event was kept: the state is the one before, and a stop leaves nothing else.
pub none_done : {S : Type 0} (meaning : Meaning S) (script : Option ℕ) (number : ℕ) (line : List ℕ) (a b : KeeperView S) (state : Option S) (free : ℕ) (fault : EngineFault)
    → Begins meaning a → state ≡ a.state → (IsKept (Some fault) → free ≡ a.free) → Began {S = S} (Some fault) [] []
    → b.store.said ≡ a.store.said → b.store.say_faults ≡ a.store.say_faults → HasSayRoom a.store.room b.store.room a.store.disk_faults b.store.disk_faults (λ room. 0 ≤ room)
    → LeavesOnly a.store.moment b.store.moment a.store.left_at b.store.left_at (a.store.left_at a.store.moment)
    → CutOne meaning script number line (telling a.state a.free a) (telling state free b) fault
none_done {S} meaning script number line a b state free fault begins same frees began said says room stops = record {
  begun = [];
  part = [];
  left = line ∷ [];
  took = refl;
  goes = record {
    run = λ start is. tt;
    speaks = λ start is. tt;
    tells = λ start is. tells fault start (same ∙ is);
    least = λ start is kept. least fault start (frees kept);
    first = tt;
    still = λ e kept. frees kept;
    began = began;
    text = same_said a.store.said b.store.said said;
    stops = leaves-weaken stops (λ blocks words at start before is told. begun_holds meaning a begins start before is told blocks words at);
    room = record { disk = room; say = quiet_say (λ most. IsSomeAnd a.store.said (λ before. length before + 0 ≤ most)) room says };
  };
}
  where
    tells : (why : EngineFault) (start : S) → state ≡ Some start → state ≡ Some (state_after start (told_steps (Some why) [] []))
    tells DiskFault start is = is
    tells SayFault start is = is
    tells Memory start is = is

    le_of : (m n : ℕ) → n ≡ m → m ≤ n
    le_of m n e = omega (arith, e)

    least : (why : EngineFault) (start : S) → free ≡ a.free → least_after meaning.language start a.free (told_steps (Some why) [] []) ≤ free
    least DiskFault start e = le_of a.free free e
    least SayFault start e = le_of a.free free e
    least Memory start e = le_of a.free free e

-- ---- an event

among_after : {S : Type 0} (keeping : Keeping S) (start : S) (before : List ℕ) (step : Step S) (blocks : List (List ℕ)) (words part rest : List ℕ) → keeping.holds blocks step.event.after
    → step.text ≡ part ++ rest → words ≡ before ++ part → IsStop keeping start before (step ∷ []) blocks words
among_after keeping start before step blocks words part rest holds whole is = inl (inr (holds, (part, rest, whole, is)))

-- an event was staged, with nothing of it on the site yet
pub record Staging {S : Type 0} (meaning : Meaning S) (a b : KeeperView S) (step : Step S) : Type 0 where
  pub begins : Begins meaning a
  pub leaves : LeavesKept a b
  pub held : IsHeld meaning.keeping b
  pub tells : (start : S) → a.state ≡ Some start → b.state ≡ Some step.event.after

abbrev Among : {S : Type 0} → Meaning S → KeeperView S → Step S → List (List ℕ) → List ℕ → Type 0
Among meaning a step = StopsAmong meaning.keeping a.state a.store.said (step ∷ [])

staged_stops : {S : Type 0} (meaning : Meaning S) (a b : KeeperView S) (step : Step S) → Staging meaning a b step → LeavesOnly a.store.moment b.store.moment a.store.left_at b.store.left_at (Among meaning a step)
staged_stops meaning a b step staging =
    leaves-weaken staging.leaves.store.stops (λ blocks words at start before is told. inl (inl (begun_holds meaning a staging.begins start before is told blocks words at)))

kept_stops : {S : Type 0} (meaning : Meaning S) (a b c : KeeperView S) (step : Step S) → Staging meaning a b step
    → LeavesOnly b.store.moment c.store.moment b.store.left_at c.store.left_at (CommitLeaves b.store.committed b.store.list b.store.said)
    → LeavesOnly b.store.moment c.store.moment b.store.left_at c.store.left_at (Among meaning a step)
kept_stops {S} meaning a b c step staging stops =
    leaves-weaken stops (λ blocks words at start before is told. one start before blocks words is (told_is b.store.said before words (staging.leaves.store.said ∙ told) at.1) at.0)
  where
    one : (start : S) (before : List ℕ) (blocks : List (List ℕ)) (words : List ℕ) → a.state ≡ Some start → words ≡ before → IsTold b.store.committed blocks ⊎ IsTold b.store.list blocks → IsStop meaning.keeping start before (step ∷ []) blocks words
    one start before blocks words is said (inl at) = inl (inl ((told_holds meaning.keeping a.store.committed start a.kept_free blocks (begun_last meaning a staging.begins start is) (let P : Option (List (List ℕ)) → Type 0 = λ o. IsTold o blocks in subst P staging.leaves.store.committed at)).0, said))
    one start before blocks words is said (inr at) =
        among_after meaning.keeping start before step blocks words [] step.text (told_holds meaning.keeping b.store.list step.event.after b.free blocks (staging.held.now step.event.after (staging.tells start is)) at).0 refl (said ∙ sym (append-nil before))

said_stops : {S : Type 0} (meaning : Meaning S) (a b c d : KeeperView S) (step : Step S) → Staging meaning a b step → IsHeld meaning.keeping c → c.kept ≡ b.state → c.store.said ≡ b.store.said
    → LeavesOnly c.store.moment d.store.moment c.store.left_at d.store.left_at (SayLeaves c.store.committed c.store.said step.text)
    → LeavesOnly c.store.moment d.store.moment c.store.left_at d.store.left_at (Among meaning a step)
said_stops {S} meaning a b c d step staging held kept said stops =
    leaves-weaken stops (λ blocks words at start before is told. one start before blocks words is (said ∙ staging.leaves.store.said ∙ told) at)
  where
    words_are : (told : Option (List ℕ)) (before part words : List ℕ) → told ≡ Some before → IsTold (append_known told part) words → words ≡ before ++ part
    words_are None before part words is at = cc
    words_are (Some x) before part words is at = let same : x ≡ before = cc in at ∙ ap (λ (l : List ℕ). l ++ part) same

    one : (start : S) (before : List ℕ) (blocks : List (List ℕ)) (words : List ℕ) → a.state ≡ Some start → c.store.said ≡ Some before → SayLeaves c.store.committed c.store.said step.text blocks words → IsStop meaning.keeping start before (step ∷ []) blocks words
    one start before blocks words is told at =
        among_after meaning.keeping start before step blocks words at.1.0 at.1.1
        (told_holds meaning.keeping c.store.committed step.event.after c.kept_free blocks (held.last step.event.after (kept ∙ staging.tells start is)) at.0).0 at.1.2 (words_are c.store.said before at.1.0 words told at.1.3)

pub to_kept : {S : Type 0} (meaning : Meaning S) (a b c : KeeperView S) (step : Step S) → Staging meaning a b step
    → LeavesOnly b.store.moment c.store.moment b.store.left_at c.store.left_at (CommitLeaves b.store.committed b.store.list b.store.said)
    → LeavesOnly a.store.moment c.store.moment a.store.left_at c.store.left_at (Among meaning a step)
to_kept meaning a b c step staging stops = leaves-then (staged_stops meaning a b step staging) (kept_stops meaning a b c step staging stops) (λ blocks words at. at)

pub to_said : {S : Type 0} (meaning : Meaning S) (a b c d : KeeperView S) (step : Step S) → Staging meaning a b step
    → LeavesOnly b.store.moment c.store.moment b.store.left_at c.store.left_at (CommitLeaves b.store.committed b.store.list b.store.said)
    → IsHeld meaning.keeping c → c.kept ≡ b.state → c.store.said ≡ b.store.said
    → LeavesOnly c.store.moment d.store.moment c.store.left_at d.store.left_at (SayLeaves c.store.committed c.store.said step.text)
    → LeavesOnly a.store.moment d.store.moment a.store.left_at d.store.left_at (Among meaning a step)
to_said meaning a b c d step staging commits held kept said stops =
    leaves-then (to_kept meaning a b c step staging commits) (said_stops meaning a b c d step staging held kept said stops) (λ blocks words at. at)

abbrev Fits : Option (List ℕ) → List ℕ → ℕ → Type 0
Fits said text room = IsSomeAnd said (λ before. length before + length text ≤ room)

-- the room over what was kept, and a say
event_room : {S : Type 0} (x y : Option S) (m n : ℕ) (a c d : KeeperView S) (text : List ℕ) → HasSayRoom a.store.room c.store.room a.store.disk_faults c.store.disk_faults (λ room. 0 ≤ room)
    → c.store.say_faults ≡ a.store.say_faults → c.store.said ≡ a.store.said → HasSayRoom c.store.room d.store.room c.store.say_faults d.store.say_faults (Fits c.store.said text)
    → d.store.disk_faults ≡ c.store.disk_faults → KeepsRoom (telling x m a) (telling y n d) text
event_room x y m n a c d text kept says said room disk = record {
  disk = say_room_then kept (quiet_say (λ most. 0 ≤ most) room disk);
  say = record {
    stays = λ most is. let p = kept.stays most is in let q = room.stays p.0 p.1 in (q.0, q.1, omega (arith, p.2, q.2));
    quiet = λ most is fits. let p = kept.stays most is in room.quiet p.0 p.1 (wider a.store.said c.store.said said most p.0 p.2 fits) ∙ says;
  };
}
  where
    wider : (old now : Option (List ℕ)) → now ≡ old → (most later : ℕ) → most ≤ later → Fits old text most → Fits now text later
    wider None now same most later le fits = absurd fits
    wider (Some before) now same most later le fits = let P : Option (List ℕ) → Type 0 = λ o. Fits o text later in subst P (sym same) (omega (arith, fits, le))

abbrev lefts : Bool → List ℕ → List (List ℕ)
lefts true line = []
lefts false line = line ∷ []

on_line : {S : Type 0} (script : Option ℕ) (number : ℕ) (line : List ℕ) (step : Step S) → IsOf script number line step.event.asked → AreOnLines script (line ∷ []) number (step ∷ []) (lefts step.event.done line)
on_line {S} script number line step of = (of, ended step.event.done)
  where
    ended : (done : Bool) → MatchBool done (AreOnLines {S = S} script [] (number + 1) [] (lefts done line)) (AreOnLines {S = S} script (line ∷ []) number [] (lefts done line))
    ended true = refl
    ended false = refl

-- everything up to the commit
pub record Kept {S : Type 0} (meaning : Meaning S) (script : Option ℕ) (number : ℕ) (line : List ℕ) (a b c : KeeperView S) (staged : Staged) : Type 0 where
  pub begins : Begins meaning a
  pub event : StagesEvent meaning script number line a b staged
  pub leaves : LeavesKept a b
  pub held : IsHeld meaning.keeping b
  pub stops : LeavesOnly b.store.moment c.store.moment b.store.left_at c.store.left_at (CommitLeaves b.store.committed b.store.list b.store.said)
  pub said : c.store.said ≡ b.store.said
  pub say_faults : c.store.say_faults ≡ b.store.say_faults
  pub room : HasSayRoom b.store.room c.store.room b.store.disk_faults c.store.disk_faults (λ room. 0 ≤ room)

staging_of : {S : Type 0} {meaning : Meaning S} {script : Option ℕ} {number : ℕ} {line : List ℕ} {a b c : KeeperView S} {staged : Staged} → (k : Kept meaning script number line a b c staged) → Staging meaning a b k.event.step
staging_of k = record { begins = k.begins; leaves = k.leaves; held = k.held; tells = k.event.tells }

pub kept_of : {S T : Type 0} {meaning : Meaning S} {script : Option ℕ} {number : ℕ} {line : List ℕ} {a b c : KeeperView S} {staged : Staged} {result : Result T EngineFault} → Begins meaning a → StagesEvent meaning script number line a b staged → LeavesKept a b → IsHeld meaning.keeping b → Keeps result b c → Kept meaning script number line a b c staged
kept_of begins event leaves held keeps = record { begins = begins; event = event; leaves = leaves; held = held; stops = keeps.stops; said = keeps.said; say_faults = keeps.say_faults; room = keeps.room }

room_of : {S : Type 0} {meaning : Meaning S} {script : Option ℕ} {number : ℕ} {line : List ℕ} {a b c : KeeperView S} {staged : Staged} → Kept meaning script number line a b c staged → HasSayRoom a.store.room c.store.room a.store.disk_faults c.store.disk_faults (λ room. 0 ≤ room)
room_of k = say_room_then k.leaves.store.room k.room

le_same : (m n : ℕ) → n ≡ m → m ≤ n
le_same m n e = omega (arith, e)

-- the commit failed: a stop leaves the state before the event or the one after it, and the one before is told
pub cut_in_commit : {S : Type 0} (meaning : Meaning S) (script : Option ℕ) (number : ℕ) (line : List ℕ) (a b c : KeeperView S) (staged : Staged) → Kept meaning script number line a b c staged → SameKept b c
    → CutOne meaning script number line (telling a.state a.free a) (telling c.kept c.kept_free c) DiskFault
cut_in_commit meaning script number line a b c staged k same =
    let step = k.event.step in
    record {
      begun = step ∷ [];
      part = [];
      left = lefts step.event.done line;
      took = on_line script number line step k.event.of;
      goes = record {
        run = λ start is. (le_same a.free step.event.asked.free k.event.free, k.event.leads start is, tt);
        speaks = λ start is. (k.event.speaks start is, tt);
        tells = λ start is. same.kept ∙ k.leaves.kept ∙ sym (k.begins.held.clean k.begins.clean).0 ∙ is;
        least = λ start is kept. absurd kept;
        first = k.event.free;
        still = λ e kept. absurd kept;
        began = (refl, inr (step, refl, (step.text, refl)));
        text = same_said a.store.said c.store.said (k.said ∙ k.leaves.store.said);
        stops = to_kept meaning a b c step (staging_of k) k.stops;
        room = record { disk = room_of k; say = quiet_say (Fits a.store.said (step.text ++ [])) (room_of k) (k.say_faults ∙ k.leaves.store.say_faults) };
      };
    }

-- ---- the say

-- what a say leaves, done or not
pub record Said {S : Type 0} (meaning : Meaning S) (c d : KeeperView S) (text : List ℕ) : Type 0 where
  pub held : IsHeld meaning.keeping c
  pub state : d.state ≡ c.state
  pub free : d.free ≡ c.free
  pub stops : LeavesOnly c.store.moment d.store.moment c.store.left_at d.store.left_at (SayLeaves c.store.committed c.store.said text)
  pub room : HasSayRoom c.store.room d.store.room c.store.say_faults d.store.say_faults (Fits c.store.said text)
  pub disk : d.store.disk_faults ≡ c.store.disk_faults

pub said_of : {S T E : Type 0} {meaning : Meaning S} {c d : KeeperView S} {text : List ℕ} {result : Result T E} → IsHeld meaning.keeping c → SaysState result text c d → Said meaning c d text
said_of held says = record { held = held; state = says.same.state; free = says.same.free; stops = says.store.stops; room = says.store.room; disk = says.store.disk_faults }

-- what both say of an event that is kept: where its blocks lead, and what they leave
pub record Done {S : Type 0} (meaning : Meaning S) (script : Option ℕ) (number : ℕ) (line : List ℕ) (a b c d : KeeperView S) (staged : Staged) : Type 0 where
  pub upto : Kept meaning script number line a b c staged
  pub kept : KeepsState b c
  pub same : SameState b c
  pub rest : Said meaning c d staged.reply

done_stops : {S : Type 0} {meaning : Meaning S} {script : Option ℕ} {number : ℕ} {line : List ℕ} {a b c d : KeeperView S} {staged : Staged} → (e : Done meaning script number line a b c d staged)
    → LeavesOnly a.store.moment d.store.moment a.store.left_at d.store.left_at (Among meaning a e.upto.event.step)
done_stops {S} {meaning} {script} {number} {line} {a} {b} {c} {d} e =
    let step = e.upto.event.step in
    let P : List ℕ → Type 0 = λ text. LeavesOnly c.store.moment d.store.moment c.store.left_at d.store.left_at (SayLeaves c.store.committed c.store.said text) in
    to_said meaning a b c d step (staging_of e.upto) e.upto.stops e.rest.held e.kept.kept e.upto.said (subst P (sym e.upto.event.text) e.rest.stops)

done_room : {S : Type 0} {meaning : Meaning S} {script : Option ℕ} {number : ℕ} {line : List ℕ} {a b c d : KeeperView S} {staged : Staged} → (e : Done meaning script number line a b c d staged)
    → KeepsRoom (telling a.state a.free a) (telling d.state d.free d) (e.upto.event.step.text ++ [])
done_room {S} {meaning} {script} {number} {line} {a} {b} {c} {d} e =
    let step = e.upto.event.step in
    let P : List ℕ → Type 0 = λ text. KeepsRoom (telling a.state a.free a) (telling d.state d.free d) text in
    subst P (sym (append-nil step.text ∙ e.upto.event.text))
    (event_room a.state d.state a.free d.free a c d _ (room_of e.upto) (e.upto.say_faults ∙ e.upto.leaves.store.say_faults) (e.upto.said ∙ e.upto.leaves.store.said) e.rest.room e.rest.disk)

done_free : {S : Type 0} {meaning : Meaning S} {script : Option ℕ} {number : ℕ} {line : List ℕ} {a b c d : KeeperView S} {staged : Staged} → (e : Done meaning script number line a b c d staged)
    → (start : S) → a.state ≡ Some start → e.upto.event.step.event.asked.free - meaning.language.need start e.upto.event.step.event ≤ d.free
done_free {S} {meaning} {script} {number} {line} {a} {b} {c} {d} e start is =
    let event = e.upto.event in
    let P : ℕ → Type 0 = λ n. event.step.event.asked.free - meaning.language.need start event.step.event ≤ n in
    let Q : ℕ → Type 0 = λ n. n - meaning.language.need start event.step.event ≤ b.free in
    subst P (sym (e.rest.free ∙ e.same.free)) (subst Q (sym event.free) (event.least start is))

said_from : (old mid new : Option (List ℕ)) (text : List ℕ) → mid ≡ old → Appends mid new text → Appends old new text
said_from old mid new text same appends = let P : Option (List ℕ) → Type 0 = λ s. Appends s new text in subst P same appends

-- one event was done and said
pub took : {S : Type 0} (meaning : Meaning S) (script : Option ℕ) (number : ℕ) (line : List ℕ) (a b c d : KeeperView S) (staged : Staged) → Done meaning script number line a b c d staged
    → Appends c.store.said d.store.said staged.reply → TookOne meaning script number line (telling a.state a.free a) (telling d.state d.free d) staged.done
took meaning script number line a b c d staged e appends =
    let event = e.upto.event in
    let step = event.step in
    record {
      step = step;
      of = event.of;
      done = event.done;
      goes = record {
        run = λ start is. (le_same a.free step.event.asked.free event.free, event.leads start is, tt);
        speaks = λ start is. (event.speaks start is, tt);
        tells = λ start is. e.rest.state ∙ e.same.state ∙ event.tells start is;
        least = λ start is kept. done_free e start is;
        first = event.free;
        still = λ nil kept. absurd cc;
        began = (refl, refl);
        text = let P : List ℕ → Type 0 = λ text. Appends a.store.said d.store.said text in
            subst P (sym (append-nil (step.text ++ []) ∙ append-nil step.text ∙ event.text)) (said_from a.store.said c.store.said d.store.said staged.reply (e.upto.said ∙ e.upto.leaves.store.said) appends);
        stops = done_stops e;
        room = done_room e;
      };
    }

-- the say failed: the event is kept, and a front of its text was said
pub cut_in_say : {S : Type 0} (meaning : Meaning S) (script : Option ℕ) (number : ℕ) (line : List ℕ) (a b c d : KeeperView S) (staged : Staged) → Done meaning script number line a b c d staged
    → AppendsPart c.store.said d.store.said staged.reply → CutOne meaning script number line (telling a.state a.free a) (telling d.state d.free d) SayFault
cut_in_say meaning script number line a b c d staged e said =
    let event = e.upto.event in
    let step = event.step in
    record {
      begun = step ∷ [];
      part = said.part;
      left = lefts step.event.done line;
      took = on_line script number line step event.of;
      goes = record {
        run = λ start is. (le_same a.free step.event.asked.free event.free, event.leads start is, tt);
        speaks = λ start is. (event.speaks start is, tt);
        tells = λ start is. e.rest.state ∙ e.same.state ∙ event.tells start is;
        least = λ start is kept. done_free e start is;
        first = event.free;
        still = λ nil kept. absurd cc;
        began = (step, refl, (said.rest, event.text ∙ said.whole));
        text = said_from a.store.said c.store.said d.store.said said.part (e.upto.said ∙ e.upto.leaves.store.said) said.appends;
        stops = done_stops e;
        room = done_room e;
      };
    }
