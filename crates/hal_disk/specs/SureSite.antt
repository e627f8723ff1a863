-- What a site in memory that keeps no record shows.
use Rattle.std.specs.Prelude.{ℕ, ◌≡◌, ◌+◌, ◌≤◌, List, Some, length, IsSomeAnd}
use Rattle.hal_disk.specs.declared.sure_site.SureSite.{SureSite}

abbrev pub sure_image : SureSite → List ℕ
sure_image site = site.image.items

abbrev pub sure_said : SureSite → List ℕ
sure_said site = site.said.items

-- so long may the image be, and so much may be said, without a fault
abbrev pub sure_room : SureSite → ℕ × ℕ
sure_room site = (site.image_room, site.said_room)

-- all but the room is as it was
pub record KeepsContent (old new : SureSite) : Type 0 where
  pub image : sure_image new ≡ sure_image old
  pub said : sure_said new ≡ sure_said old
  pub disk_faults : new.disk_faults ≡ old.disk_faults
  pub say_faults : new.say_faults ≡ old.say_faults

-- and the room with it
pub record IsAsBefore (old new : SureSite) : Type 0 where
  pub content : KeepsContent old new
  pub room : sure_room new ≡ sure_room old

-- the said bytes, with these behind them, fit the room
abbrev pub FitsSaid : List ℕ → List ℕ → ℕ × ℕ → Type 0
FitsSaid said text room = IsSomeAnd (Some said) (λ before. length before + length text ≤ room.1)
