-- How what calls on blocks leave goes on over several of them.
use Rattle.std.proofs.Common.{◌≡◌, ℕ, ◌≤◌, Option, refl, ◌∙◌, subst, sym, arith}
use Rattle.hal_base.specs.Room.{HasSayRoom}
use Rattle.hal_base.specs.StoreCalls.{StoreView, SameStore, NoCall}
use Rattle.hal_base.proofs.StopLemmas.{not_yet, leaves-then, leaves-now, leaves-stay}

pub say_room_none : (room : Option ℕ) (faults : ℕ) (fits : ℕ → Type 0) → HasSayRoom room room faults faults fits
say_room_none room faults fits = record { stays = λ r is. (r, is, omega arith); quiet = λ r is fit. refl }

-- rooms that any room fits, as those of calls that say nothing
pub say_room_then : {old mid new : Option ℕ} {before now last : ℕ} → HasSayRoom old mid before now (λ room. 0 ≤ room) → HasSayRoom mid new now last (λ room. 0 ≤ room) → HasSayRoom old new before last (λ room. 0 ≤ room)
say_room_then first second = record {
  stays = λ room is. let a = first.stays room is in let b = second.stays a.0 a.1 in (b.0, b.1, omega (arith, a.2, b.2));
  quiet = λ room is fits. let a = first.stays room is in second.quiet a.0 a.1 (omega arith) ∙ first.quiet room is fits;
}

pub store_same_none : (a : StoreView) → SameStore a a
store_same_none a = record {
  number = refl;
  committed = refl;
  standing = refl;
  said = refl;
  stops = not_yet a.moment a.left_at (a.left_at a.moment);
  say_faults = refl;
  room = say_room_none a.room a.disk_faults (λ room. 0 ≤ room);
  fetches = omega arith;
}

pub store_same_then : {a b c : StoreView} → SameStore a b → SameStore b c → SameStore a c
store_same_then {a} {b} {c} first second = record {
  number = second.number ∙ first.number;
  committed = second.committed ∙ first.committed;
  standing = second.standing ∙ first.standing;
  said = second.said ∙ first.said;
  stops = leaves-stay first.stops second.stops (λ x s left. left);
  say_faults = second.say_faults ∙ first.say_faults;
  room = say_room_then first.room second.room;
  fetches = omega (arith, first.fetches, second.fetches);
}
