-- Levels and paths of rows, and steps over lists.
use Rattle.std.proofs.Common.{◌≡◌, ℕ, zero, suc, ◌<◌, Bool, true, false, cond, List, [], ◌∷◌, ◌++◌, length, map, Bor, Option, refl, ap, ◌∙◌, arith}
use Rattle.std.specs.Prelude.{nat_lt, filter, option_and_then}
use Rattle.std.specs.Option.{option_map_or}
use Rattle.std.proofs.lemmas.Option.{slice_get_past}
use Rattle.std.proofs.lemmas.List.{map-append}
use Rattle.hal_schema.specs.declared.row.Row.{Row}
use Rattle.hal_schema.specs.declared.schema.SegType.{SegType}
use Rattle.hal_schema.specs.SegType.{parent_code, ancestry_within, level_of}
use Rattle.hal_schema.specs.Row.{row_level}
use Rattle.hal_schema.specs.Paths.{path_with}

filter_of_map : {X Y : Type 0} (f : X → Y) (p : Y → Bool) (xs : List X) → map f (filter (λ x. p (f x)) xs) ≡ filter p (map f xs)
filter_of_map f p [] = refl
filter_of_map f p (x ∷ xs) = by (p (f x)) (filter_of_map f p xs)
  where
    by : (b : Bool) → map f (filter (λ y. p (f y)) xs) ≡ filter p (map f xs)
        → map f (cond b (x ∷ filter (λ y. p (f y)) xs) (filter (λ y. p (f y)) xs)) ≡ cond b (f x ∷ filter p (map f xs)) (filter p (map f xs))
    by true e = ap (λ ys. f x ∷ ys) e
    by false e = e

-- what of a path is above a row, and the row
pub path_pushed : (types : List SegType) (old kept new : List (Bor Row)) (row : Bor Row)
    → kept ≡ filter (λ r. nat_lt (row_level types r.now) (row_level types row.now)) old → new ≡ kept ++ row ∷ []
    → map (λ r. r.now) new ≡ path_with (row_level types) (map (λ r. r.now) old) row.now
path_pushed types old kept new row e f =
    ap (λ (rs : List (Bor Row)). map (λ r. r.now) rs) (f ∙ ap (λ rs. rs ++ row ∷ []) e)
    ∙ map-append (λ (r : Bor Row). r.now) (filter (λ r. nat_lt (row_level types r.now) (row_level types row.now)) old) (row ∷ [])
    ∙ ap (λ rs. rs ++ row.now ∷ []) (filter_of_map (λ (r : Bor Row). r.now) (λ r. nat_lt (row_level types r) (row_level types row.now)) old)
