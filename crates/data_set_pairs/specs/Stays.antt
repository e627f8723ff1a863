-- What neither a commit nor a say was made on.
use Rattle.std.specs.Prelude.{◌≡◌, ◌≤◌}
use Rattle.hal_base.specs.StoreCalls.{StoreView, SameStore}

-- a call that neither commits nor says; `steady` is what the blocks say that no call of theirs changes
pub record Stays (steady : Type 0) (old new : StoreView) : Type 0 where
  pub is_steady : steady
  pub same : SameStore old new
  pub faults : old.disk_faults ≤ new.disk_faults

-- and that only reads blocks
pub record Looks (steady : Type 0) (old new : StoreView) : Type 0 where
  pub stays : Stays steady old new
  pub list : new.list ≡ old.list
  pub clean : new.clean ≡ old.clean
