-- The room of a site over several events.
use Rattle.std.proofs.Common.{◌≡◌, ℕ, ◌+◌, ◌≤◌, List, ◌++◌, length, Option, None, Some, ap, ◌∙◌, arith, length-append}
use Rattle.std.specs.Prelude.{IsSomeAnd}
use Rattle.std.specs.Io.KnownBytes.{Appends}
use Rattle.hal_base.proofs.StoreLemmas.{say_room_none, say_room_then}
use Rattle.script_runs.specs.TakerView.{TakerView}
use Rattle.script_runs.specs.Taken.{KeepsRoom}

abbrev Fits : Option (List ℕ) → List ℕ → ℕ → Type 0
Fits said text room = IsSomeAnd said (λ before. length before + length text ≤ room)

pub room_none : {S : Type 0} (a : TakerView S) (text : List ℕ) → KeepsRoom a a text
room_none a text = record { disk = say_room_none a.room a.disk_faults (λ room. 0 ≤ room); say = say_room_none a.room a.say_faults (λ room. Fits a.said text room) }

fits_first : (said : Option (List ℕ)) (x y : List ℕ) (room : ℕ) → Fits said (x ++ y) room → Fits said x room
fits_first None x y room fits = fits
fits_first (Some before) x y room fits = omega (arith, fits, length-append x y)

fits_then : (said now : Option (List ℕ)) (x y : List ℕ) (room later : ℕ) → Appends said now x → room ≤ later → Fits said (x ++ y) room → Fits now y later
fits_then None now x y room later appends le fits = absurd fits
fits_then (Some before) None x y room later appends le fits = absurd appends
fits_then (Some before) (Some after) x y room later appends le fits =
    let long : length after ≡ length before + length x = ap (λ (l : List ℕ). length l) appends ∙ length-append before x in
    omega (arith, fits, le, long, length-append x y)

pub room_then : {S : Type 0} {a b c : TakerView S} {x y : List ℕ} → Appends a.said b.said x → KeepsRoom a b x → KeepsRoom b c y → KeepsRoom a c (x ++ y)
room_then {S} {a} {b} {c} {x} {y} said first second = record {
  disk = say_room_then first.disk second.disk;
  say = record {
    stays = λ room is. let p = first.say.stays room is in let q = second.say.stays p.0 p.1 in (q.0, q.1, omega (arith, p.2, q.2));
    quiet = λ room is fits. let p = first.say.stays room is in second.say.quiet p.0 p.1 (fits_then a.said b.said x y room p.0 said p.2 fits) ∙ first.say.quiet room is (fits_first a.said x y room fits);
  };
}
