-- What a source in memory has left.
use Rattle.std.specs.Prelude.{ℕ, ◌≡◌, ◌+◌, ◌-◌, ◌^◌, List, drop, min}
use Rattle.hal_disk.specs.declared.mem_source.MemSource.{MemSource}
use Rattle.hal_disk.specs.declared.mem_source.SureSource.{SureSource}

abbrev pub text_left : MemSource → List ℕ
text_left source = drop source.at source.text

abbrev pub sure_left : SureSource → List ℕ
sure_left source = drop source.at source.text

-- all of the text is left, it comes in pieces of this size at most, and no call was made
pub record IsNew (text : List ℕ) (size : ℕ) (named : List ℕ) (source : MemSource) : Type 0 where
  pub left : text_left source ≡ text
  pub piece : source.piece ≡ size
  pub failing : source.failing ≡ named
  pub calls : source.calls ≡ 0
  pub faults : source.faults ≡ 0

-- one call more was made; the size of a piece and the calls that fail are as they were
pub record HasCounted (old new : MemSource) : Type 0 where
  pub calls : new.calls ≡ min (old.calls + 1) (2 ^ 64 - 1)
  pub piece : new.piece ≡ old.piece
  pub failing : new.failing ≡ old.failing
