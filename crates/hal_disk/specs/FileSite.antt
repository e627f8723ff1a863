-- A site over a file.
use Rattle.std.specs.Prelude.{◌≡◌, ℕ, Bool, List}
use Rattle.hal_disk.specs.declared.file_site.FileSite.{FileSite}

-- the file of this path, which is made where it is absent if `makes` says so; nothing has failed
pub record IsNewFile {R : Type 0} (named : List ℕ) (makes : Bool) (site : FileSite R) : Type 0 where
  pub path : site.path ≡ named
  pub create : site.create ≡ makes
  pub disk_faults : site.disk_faults ≡ 0
  pub say_faults : site.say_faults ≡ 0

-- it is a site of the same file
pub record IsSameFile {R : Type 0} (old new : FileSite R) : Type 0 where
  pub path : new.path ≡ old.path
  pub create : new.create ≡ old.create

-- and no count changed
pub record KeepsCounts {R : Type 0} (old new : FileSite R) : Type 0 where
  pub file : IsSameFile old new
  pub disk_faults : new.disk_faults ≡ old.disk_faults
  pub say_faults : new.say_faults ≡ old.say_faults
