-- One event of the list.
use Rattle.std.proofs.Common.{◌≡◌, ℕ, true, List, [], ◌∷◌, ◌++◌, ◌+◌, ◌≤◌, length, Option, None, Some, refl, sym, ap, ◌∙◌, subst, inl, inr, arith, append-nil}
use Rattle.std.specs.Prelude.{IsSomeAnd, Result, Ok, Err, OnOk, IsErrOf}
use Rattle.std.specs.Io.KnownBytes.{Appends}
use Rattle.std.proofs.KnownBytes.{Appends-nil}
use Rattle.hal_base.specs.Room.{HasRoom}
use Rattle.hal_base.specs.Said.{AppendsPart}
use Rattle.hal_base.specs.Stops.{LeavesOnly, Read, SaidFrom, IsTold}
use Rattle.hal_base.proofs.StopLemmas.{leaves-read, not_yet}
use Rattle.hal_base.proofs.StoreLemmas.{say_room_none}
use Rattle.script_runs.specs.Language.{Step}
use Rattle.script_runs.specs.Stops.{StopsAmong}
use Rattle.script_runs.specs.Taken.{TookOne, CutOne}
use Rattle.script_runs.specs.Faults.{TellsSame, Looks}
use Rattle.script_runs.specs.declared.taker.EngineFault.{EngineFault}
use Rattle.script_runs.specs.declared.taker.EngineFault.TheVariants.{DiskFault, SayFault, Memory}
use Rattle.call_runs.specs.declared.state.CallState.{CallState}
use Rattle.hal_schema.specs.declared.schema.Schema.{Schema}
use Rattle.hal_desk.specs.ListLaws.{TellsNow}
use Rattle.hal_desk.specs.Lists.{Leads, asked, kept_nowhere, list_lines, meaning}
use Rattle.hal_desk.specs.Outside.{SiteView, list_blocks, list_on}
use Rattle.hal_desk.proofs.Rooms.{keeps_room, same_room}

-- a line was answered: its reply's text, and the state after it
pub record Answered (schema : Schema) (old new : CallState) (script : Option ℕ) (number : ℕ) (line text : List ℕ) : Type 0 where
  pub reply : text ≡ (list_lines schema).reply old (asked script number line)
  pub leads : Leads schema old (asked script number line) new

abbrev step_of : Option ℕ → ℕ → List ℕ → List ℕ → CallState → Step CallState
step_of s n l text new = record { event = record { asked = asked s n l; done = true; after = new }; text = text }

told_is : (told : Option (List ℕ)) (before words : List ℕ) → told ≡ Some before → IsTold told words → words ≡ before
told_is None before words is at = cc
told_is (Some said) before words is at = let same : said ≡ before = cc in at ∙ same

-- what a say of the text, done or not, left of the site
pub record LeavesSite (a b : SiteView) (text : List ℕ) : Type 0 where
  pub stops : LeavesOnly a.moment b.moment a.left_at b.left_at (SaidFrom (a.left_at a.moment) text)
  pub room : HasRoom a.room b.room a.say_faults b.say_faults (λ room. IsSomeAnd a.said (λ before. length before + length text ≤ room.1))

-- a stop within a say leaves a prefix of the text
among : (a b : SiteView) (old : CallState) (step : Step CallState) → TellsNow a → LeavesOnly a.moment b.moment a.left_at b.left_at (SaidFrom (a.left_at a.moment) step.text)
    → LeavesOnly a.moment b.moment (Read (λ image. []) a.left_at) (Read (λ image. []) b.left_at) (StopsAmong kept_nowhere (Some old) a.said (step ∷ []))
among a b old step now stops = leaves-read (λ image. []) (StopsAmong kept_nowhere (Some old) a.said (step ∷ [])) stops
    (λ bytes words at start before is said. inl (inr (tt, (at.1, at.2, at.4, at.5 ∙ ap (λ (l : List ℕ). l ++ at.1) (told_is a.said before at.0 said (now bytes at.0 at.3))))))

some_back : (old start : CallState) → Some old ≡ Some start → start ≡ old
some_back old start is = cc

one_runs : (schema : Schema) (old : CallState) (s : Option ℕ) (n : ℕ) (l text : List ℕ) (new : CallState) → Answered schema old new s n l text → (start : CallState) → Some old ≡ Some start → Leads schema start (asked s n l) new
one_runs schema old s n l text new answered start is = let P : CallState → Type 0 = λ st. Leads schema st (asked s n l) new in subst P (sym (some_back old start is)) answered.leads

one_speaks : (schema : Schema) (old : CallState) (s : Option ℕ) (n : ℕ) (l text : List ℕ) (new : CallState) → Answered schema old new s n l text → (start : CallState) → Some old ≡ Some start → text ≡ (list_lines schema).reply start (asked s n l)
one_speaks schema old s n l text new answered start is = let P : CallState → Type 0 = λ st. text ≡ (list_lines schema).reply st (asked s n l) in subst P (sym (some_back old start is)) answered.reply

pub took_one : (schema : Schema) (s : Option ℕ) (n : ℕ) (l : List ℕ) (old new : CallState) (a b : SiteView) (text : List ℕ) → TellsNow a → Answered schema old new s n l text → Appends a.said b.said text → LeavesSite a b text
    → TookOne (meaning schema) s n l (list_on a old) (list_on b new) true
took_one schema s n l old new a b text now answered appends left = record {
  step = step_of s n l text new;
  of = record { of_script = refl; of_number = refl; of_line = refl };
  done = refl;
  goes = record {
    run = λ start is. (omega arith, one_runs schema old s n l text new answered start is, tt);
    speaks = λ start is. (one_speaks schema old s n l text new answered start is, tt);
    tells = λ start is. refl;
    least = λ start is kept. omega arith;
    first = refl;
    still = λ e kept. refl;
    began = (refl, refl);
    text = rw (append-nil (text ++ []), append-nil text) appends;
    stops = among a b old (step_of s n l text new) now left.stops;
    room = rw (append-nil text) (keeps_room a b old new text left.room);
  };
}

-- the say failed: the event stands, and a prefix of its text was said
pub cut_in_say : (schema : Schema) (s : Option ℕ) (n : ℕ) (l : List ℕ) (old new : CallState) (a b : SiteView) (text : List ℕ) → TellsNow a → Answered schema old new s n l text → AppendsPart a.said b.said text → LeavesSite a b text
    → CutOne (meaning schema) s n l (list_on a old) (list_on b new) SayFault
cut_in_say schema s n l old new a b text now answered part left = record {
  begun = step_of s n l text new ∷ [];
  part = part.part;
  left = [];
  took = (record { of_script = refl; of_number = refl; of_line = refl }, refl);
  goes = record {
    run = λ start is. (omega arith, one_runs schema old s n l text new answered start is, tt);
    speaks = λ start is. (one_speaks schema old s n l text new answered start is, tt);
    tells = λ start is. refl;
    least = λ start is kept. omega arith;
    first = refl;
    still = λ e kept. refl;
    began = (step_of s n l text new, refl, (part.rest, part.whole));
    text = part.appends;
    stops = among a b old (step_of s n l text new) now left.stops;
    room = rw (append-nil text) (keeps_room a b old new text left.room);
  };
}

-- nothing was done
pub cut_before : (schema : Schema) (s : Option ℕ) (n : ℕ) (l : List ℕ) (old new : CallState) (a : SiteView) → new ≡ old → LeavesOnly a.moment a.moment (Read (λ image. []) a.left_at) (Read (λ image. []) a.left_at) (StopsAmong kept_nowhere (Some old) a.said [])
    → CutOne (meaning schema) s n l (list_on a old) (list_on a new) Memory
cut_before schema s n l old new a same stops = record {
  begun = [];
  part = [];
  left = l ∷ [];
  took = refl;
  goes = record {
    run = λ start is. tt;
    speaks = λ start is. tt;
    tells = λ start is. ap (λ (st : CallState). Some st) same ∙ is;
    least = λ start is kept. omega arith;
    first = tt;
    still = λ e kept. refl;
    began = (refl, refl);
    text = Appends-nil a.said;
    stops = stops;
    room = same_room a old new [];
  };
}

-- ---- looks

on_ok : {T E : Type 0} (result : Result T E) (P : Type 0) → P → OnOk result P
on_ok (Ok x) P p = p
on_ok (Err e) P p = tt

same_told : (site : SiteView) (state : CallState) → TellsSame (list_on site state) (list_on site state)
same_told site state = record { state = refl; free = refl; clean = refl }

-- a look at the list touches nothing, and memory alone may be wanting
pub looked : {T : Type 0} (result : Result T EngineFault) (site : SiteView) (state : CallState) → (IsErrOf result SayFault → ⊥) → (IsErrOf result DiskFault → ⊥) → Looks result (list_on site state) (list_on site state)
looked {T} result site state no_say no_disk =
    let view = list_on site state in
    record {
      told = on_ok result (TellsSame view view) (same_told site state);
      kept = λ clean. same_told site state;
      said = refl;
      stops = not_yet view.moment view.left_at (view.left_at view.moment);
      say_faults = refl;
      says_none = no_say;
      room = say_room_none view.room 0 (λ room. 0 ≤ room);
      faults = record { later = omega arith; cause = λ failed. absurd (no_disk failed); alive = λ fine. refl; dead = λ failed. absurd (no_disk failed) };
    }
