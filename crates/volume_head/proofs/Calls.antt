-- How calls that only read go on over several of them.
use Rattle.std.proofs.Common.{ℕ, ◌≤◌, List, Option, refl, ◌∙◌, arith}
use Rattle.hal_base.specs.Room.{HasRoom}
use Rattle.hal_base.proofs.StopLemmas.{not_yet, leaves-stay}
use Rattle.volume_head.specs.Calls.{OnlyReads}

pub room-then : {old mid new : Option (ℕ × ℕ)} {before now last : ℕ} {end more : ℕ} → HasRoom old mid before now (λ room. end ≤ room.0) → HasRoom mid new now last (λ room. more ≤ room.0) → more ≤ end → HasRoom old new before last (λ room. end ≤ room.0)
room-then first second le = record {
  stays = λ room is. let a = first.stays room is in let b = second.stays a.0 a.1 in (b.0, b.1, omega (arith, a.2, b.2), omega (arith, a.3, b.3));
  quiet = λ room is fits. let a = first.stays room is in second.quiet a.0 a.1 (omega (arith, le, fits, a.2)) ∙ first.quiet room is fits;
}

pub room-same : (room : Option (ℕ × ℕ)) (faults : ℕ) (fits : ℕ × ℕ → Type 0) → HasRoom room room faults faults fits
room-same room faults fits = record { stays = λ r is. (r, is, omega arith, omega arith); quiet = λ r is fit. refl }

pub room-larger : {old new : Option (ℕ × ℕ)} {before now : ℕ} {end more : ℕ} → HasRoom old new before now (λ room. end ≤ room.0) → end ≤ more → HasRoom old new before now (λ room. more ≤ room.0)
room-larger first le = record { stays = first.stays; quiet = λ room is fits. first.quiet room is (omega (arith, le, fits)) }

module _ {S : Type 0} {image said : S → Option (List ℕ)} {moment : S → ℕ} {left_at : S → ℕ → List ℕ → List ℕ → Type 0} {disk_faults say_faults : S → ℕ} {room : S → Option (ℕ × ℕ)} where
  pub reads_none : (a : S) → OnlyReads image said moment left_at disk_faults say_faults room a a
  reads_none a = record { image_stays = refl; said_stays = refl; stops = not_yet (moment a) (left_at a) _; later = omega arith; says = refl; fits = room-same (room a) (disk_faults a) _ }

  pub reads_then : {a b c : S} → OnlyReads image said moment left_at disk_faults say_faults room a b → OnlyReads image said moment left_at disk_faults say_faults room b c → OnlyReads image said moment left_at disk_faults say_faults room a c
  reads_then first second = record {
    image_stays = second.image_stays ∙ first.image_stays;
    said_stays = second.said_stays ∙ first.said_stays;
    stops = leaves-stay first.stops second.stops (λ x s left. left);
    later = omega (arith, first.later, second.later);
    says = second.says ∙ first.says;
    fits = room-then first.fits second.fits (omega arith);
  }
