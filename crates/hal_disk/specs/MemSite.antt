-- What a site in memory shows.
use Rattle.std.specs.Prelude.{ℕ, ◌≡◌, ◌↔◌, ◌⊎◌, ◌*◌, Bool, false, List, [], ◌∷◌, length, reverse, take, Contains, Result, IsErr}
use Rattle.hal_disk.specs.declared.call.Call.{Call}
use Rattle.hal_disk.specs.declared.mem_site.MemSite.{MemSite}
use Rattle.hal_disk.specs.Exact.{CountsFault}
use Rattle.hal_disk.specs.ImageNow.{image_now}
use Rattle.hal_disk.specs.Record.{LeftAt}

abbrev pub mem_image : MemSite → List ℕ
mem_image site = image_now site.first site.changed

abbrev pub mem_said : MemSite → List ℕ
mem_said site = site.said.items

-- its calls, the newest first
abbrev pub mem_calls : MemSite → List Call
mem_calls site = reverse site.history.items

-- those of them that had returned when so many had
abbrev pub mem_calls_until : MemSite → ℕ → List Call
mem_calls_until site count = reverse (take count site.history.items)

-- its clock: each call has a moment within it and one after it
abbrev pub mem_moment : MemSite → ℕ
mem_moment site = 2 * length (mem_calls site)

-- what a stop at a moment might have left, and what one might leave now
abbrev pub mem_left : MemSite → ℕ → List ℕ → List ℕ → Type 0
mem_left site = LeftAt site.first (mem_calls site)

abbrev pub mem_left_now : MemSite → List ℕ → List ℕ → Type 0
mem_left_now site = mem_left site (mem_moment site)

-- the image is this one, no call was made, and these are to fail
pub record IsNewSite (bytes : List ℕ) (named : List ℕ) (site : MemSite) : Type 0 where
  pub first : site.first ≡ bytes
  pub image : mem_image site ≡ bytes
  pub said : mem_said site ≡ []
  pub calls : mem_calls site ≡ []
  pub failing : site.failing ≡ named
  pub disk_faults : site.disk_faults ≡ 0
  pub say_faults : site.say_faults ≡ 0

-- how the image began, the calls that fail and the counts are as they were
pub record KeepsNames (old new : MemSite) : Type 0 where
  pub first : new.first ≡ old.first
  pub failing : new.failing ≡ old.failing
  pub disk_faults : new.disk_faults ≡ old.disk_faults
  pub say_faults : new.say_faults ≡ old.say_faults

-- one call more was made, which is not done exactly where its number is among those that are named
pub record IsMade (call : Call) (done : Bool) (old new : MemSite) : Type 0 where
  pub calls : mem_calls new ≡ call ∷ mem_calls old
  pub named : (done ≡ false) ↔ Contains old.failing (length (mem_calls new))
  pub names : KeepsNames old new

-- nothing changed
pub record IsAsBefore (old new : MemSite) : Type 0 where
  pub calls : mem_calls new ≡ mem_calls old
  pub image : mem_image new ≡ mem_image old
  pub said : mem_said new ≡ mem_said old
  pub names : KeepsNames old new

-- the call was made, and it failed exactly where its number is among those that are named
pub record WasMade {T E : Type 0} (call : Call) (old new : MemSite) (result : Result T E) : Type 0 where
  pub calls : mem_calls new ≡ call ∷ mem_calls old
  pub exactly : IsErr result ↔ Contains old.failing (length (mem_calls new))

-- memory refused it: it failed, no call was made, and what reads and what was said are as they were
pub record WasRefused {T E : Type 0} (old new : MemSite) (result : Result T E) : Type 0 where
  pub failed : IsErr result
  pub calls : mem_calls new ≡ mem_calls old
  pub image : mem_image new ≡ mem_image old
  pub said : mem_said new ≡ mem_said old

-- A call that is made fails exactly where its number is among those that are named; what memory refuses is no call. A
-- failure raises this count of faults by one.
pub record FailsAsNamed {T E : Type 0} (call : Call) (old new : MemSite) (before now : ℕ) (result : Result T E) : Type 0 where
  pub either : WasMade call old new result ⊎ WasRefused old new result
  pub counts : CountsFault before now result
  pub first : new.first ≡ old.first
  pub failing : new.failing ≡ old.failing
