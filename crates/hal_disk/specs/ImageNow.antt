-- The image of a site in memory, which begins as `first` and is kept apart once it is written.
use Rattle.std.specs.Prelude.{ℕ, List, Option, None, Some, Vec}
use Rattle.std.specs.declared.alloc.Global.{Global}

abbrev pub image_now : List ℕ → Option (Vec ℕ Global) → List ℕ
image_now first None = first
image_now first (Some image) = image.items
