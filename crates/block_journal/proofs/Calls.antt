-- How what device calls do goes on over several of them.
use Rattle.std.proofs.Common.{◌≡◌, ℕ, ◌≤◌, List, length, Option, Some, option_map, Result, Ok, Err, OnOk, OnErr, refl, sym, ◌∙◌, ap, subst, arith}
use Rattle.std.specs.Prelude.{IfOk}
use Rattle.hal_base.specs.Room.{HasRoom}
use Rattle.hal_base.specs.Stops.{LeavesOnly, IsTold}
use Rattle.hal_base.proofs.StopLemmas.{not_yet, leaves-now, leaves-stay}
use Rattle.hal_base.specs.Disk.{Torn, TearsTold, written}
use Rattle.hal_base.proofs.ImageLemmas.{torn_whole}
use Rattle.block_journal.specs.Device.{Became, Looks, IsExact}

pub torn_told : {at n : ℕ} {old new : Option (List ℕ)} → TearsTold at n old new → Became (Torn at n) old new
torn_told torn = record { told = torn.torn; untold = torn.untold }

pub written_told : (at : ℕ) (bytes : List ℕ) (old new : Option (List ℕ)) → new ≡ option_map (written at bytes) old → Became (Torn at (length bytes)) old new
written_told at bytes old new is = record { told = λ y told. (written at bytes y, is ∙ ap (option_map (written at bytes)) told, torn_whole at bytes y); untold = λ none. is ∙ ap (option_map (written at bytes)) none }

pub write_told : {E : Type 0} (result : Result (Unit {0}) E) (at : ℕ) (bytes : List ℕ) (old new : Option (List ℕ)) → OnOk result (new ≡ option_map (written at bytes) old) → OnErr result (TearsTold at (length bytes) old new) → Became (Torn at (length bytes)) old new
write_told (Ok x) at bytes old new is torn = written_told at bytes old new is
write_told (Err e) at bytes old new is torn = torn_told torn

pub room-then : {old mid new : Option (ℕ × ℕ)} {before now last : ℕ} {end more : ℕ} → HasRoom old mid before now (λ room. end ≤ room.0) → HasRoom mid new now last (λ room. more ≤ room.0) → more ≤ end → HasRoom old new before last (λ room. end ≤ room.0)
room-then first second le = record {
  stays = λ room is. let a = first.stays room is in let b = second.stays a.0 a.1 in (b.0, b.1, omega (arith, a.2, b.2), omega (arith, a.3, b.3));
  quiet = λ room is fits. let a = first.stays room is in second.quiet a.0 a.1 (omega (arith, le, fits, a.2)) ∙ first.quiet room is fits;
}

pub room-same : (room : Option (ℕ × ℕ)) (faults : ℕ) (fits : ℕ × ℕ → Type 0) → HasRoom room room faults faults fits
room-same room faults fits = record { stays = λ r is. (r, is, omega arith, omega arith); quiet = λ r is fit. refl }

pub room-larger : {old new : Option (ℕ × ℕ)} {before now : ℕ} {end more : ℕ} → HasRoom old new before now (λ room. end ≤ room.0) → end ≤ more → HasRoom old new before now (λ room. more ≤ room.0)
room-larger first le = record { stays = first.stays; quiet = λ room is fits. first.quiet room is (omega (arith, le, fits)) }

pub exact-synced : {image next : Option (List ℕ)} {outcomes : List ℕ → List ℕ → Type 0} → next ≡ image → ((bytes text : List ℕ) → outcomes bytes text → IsTold image bytes) → IsExact next outcomes
exact-synced {image} is only = record { only = λ told was bytes text left. let told_is : image ≡ Some told = sym is ∙ was in let o = only bytes text left in subst (λ (i : Option (List ℕ)). IsTold i bytes) told_is o }

pub on_ok : {T E P : Type 0} (result : Result T E) → P → OnOk result P
on_ok (Ok x) p = p
on_ok (Err e) p = tt

pub if_ok : {T E : Type 0} {P Q : T → Type 0} (result : Result T E) → IfOk result P → ((x : T) → P x → Q x) → IfOk result Q
if_ok (Ok x) p so = so x p
if_ok (Err e) p so = tt

-- after calls that leave nothing new a stop still leaves the image that is told
pub exact_stays : {image next : Option (List ℕ)} {a b : ℕ} {past at : ℕ → List ℕ → List ℕ → Type 0} → next ≡ image → IsExact image (past a) → LeavesOnly a b past at (past a) → IsExact next (at b)
exact_stays {image} {next} {a} {b} {past} {at} is exact only = record { only = λ y told x s left. exact.only y (sym is ∙ told) x s (leaves-now only (λ x s left. left) x s left) }

module _ {S : Type 0} {image said : S → Option (List ℕ)} {moment : S → ℕ} {left_at : S → ℕ → List ℕ → List ℕ → Type 0} {disk_faults say_faults : S → ℕ} {room : S → Option (ℕ × ℕ)} where
  pub looks_none : (a : S) → Looks image said moment left_at disk_faults say_faults room a a
  looks_none a = record { same = refl; words = refl; stops = not_yet (moment a) (left_at a) _; later = omega arith; says = refl; fits = room-same (room a) (disk_faults a) _ }

  pub looks_then : {a b c : S} → Looks image said moment left_at disk_faults say_faults room a b → Looks image said moment left_at disk_faults say_faults room b c → Looks image said moment left_at disk_faults say_faults room a c
  looks_then first second = record {
    same = second.same ∙ first.same;
    words = second.words ∙ first.words;
    stops = leaves-stay first.stops second.stops (λ x s left. left);
    later = omega (arith, first.later, second.later);
    says = second.says ∙ first.says;
    fits = room-then first.fits second.fits (omega arith);
  }
