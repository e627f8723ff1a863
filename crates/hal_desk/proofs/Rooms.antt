-- The room of a site, as a list on it tells it.
use Rattle.std.proofs.Common.{◌≡◌, ℕ, ◌+◌, ◌≤◌, List, length, Option, None, Some, refl, sym, ap, subst, arith}
use Rattle.std.specs.Prelude.{IsSomeAnd}
use Rattle.std.specs.Option.{option_map}
use Rattle.hal_base.specs.Room.{HasRoom, HasSayRoom}
use Rattle.script_runs.specs.Taken.{KeepsRoom}
use Rattle.call_runs.specs.declared.state.CallState.{CallState}
use Rattle.hal_desk.specs.Outside.{SiteView, list_on}

abbrev Fits : Option (List ℕ) → List ℕ → ℕ → Type 0
Fits said text most = IsSomeAnd said (λ before. length before + length text ≤ most)

-- the second number of a room, with what a call that fits it raises
said_room : (old new : Option (ℕ × ℕ)) (before now : ℕ) (fits : ℕ → Type 0) → HasRoom old new before now (λ room. fits room.1)
    → HasSayRoom (option_map (λ room. room.1) old) (option_map (λ room. room.1) new) before now fits
said_room None new before now fits has = record { stays = λ room is. absurd cc; quiet = λ room is fit. absurd cc }
said_room (Some room) new before now fits has = record {
  stays = λ most is. let e : room.1 ≡ most = cc in let s = has.stays room refl in (s.0.1, ap (option_map (λ (r : ℕ × ℕ). r.1)) s.1, omega (arith, e, s.3));
  quiet = λ most is fit. let e : room.1 ≡ most = cc in has.quiet room refl (subst fits (sym e) fit);
}

room_stays : (old new : Option (ℕ × ℕ)) (before now : ℕ) (fits : ℕ × ℕ → Type 0) → HasRoom old new before now fits → HasRoom old new 0 0 (λ room. 0 ≤ room.1)
room_stays old new before now fits has = record { stays = has.stays; quiet = λ room is fit. refl }

-- a say on the site, as the list's
pub keeps_room : (a b : SiteView) (old new : CallState) (text : List ℕ) → HasRoom a.room b.room a.say_faults b.say_faults (λ room. Fits a.said text room.1) → KeepsRoom (list_on a old) (list_on b new) text
keeps_room a b old new text has = record {
  disk = said_room a.room b.room 0 0 (λ most. 0 ≤ most) (room_stays a.room b.room a.say_faults b.say_faults (λ room. Fits a.said text room.1) has);
  say = said_room a.room b.room a.say_faults b.say_faults (Fits a.said text) has;
}

pub same_room : (a : SiteView) (old new : CallState) (text : List ℕ) → KeepsRoom (list_on a old) (list_on a new) text
same_room a old new text = keeps_room a a old new text (record { stays = λ room is. (room, is, omega arith, omega arith); quiet = λ room is fit. refl })
