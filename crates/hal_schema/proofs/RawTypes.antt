-- The types that a raw definition says.
use Rattle.std.proofs.Common.{◌≡◌, ℕ, zero, suc, ◌-◌, ◌<◌, ◌≤◌, List, length, get_or, Some, refl, ap, ◌∙◌, arith}
use Rattle.std.specs.Prelude.{option_and_then}
use Rattle.std.specs.List.{slice_get}
use Rattle.std.specs.Option.{option_map}
use Rattle.std.proofs.lemmas.Option.{slice_get_read, slice_get-map}
use Rattle.std.proofs.lemmas.List.{get_or_default}
use Rattle.hal_schema.specs.declared.raw.RawType.{RawType}
use Rattle.hal_schema.specs.SegType.{parent_code}
use Rattle.hal_schema.specs.Raw.{code_of, seg_type, types_of}

-- the parent of the type that was read at a code
pub raw_parent-read : (types : List RawType) (c : ℕ) (t : RawType) → 0 < c → c ≤ length types → t ≡ get_or types (c - 1) t → parent_code (types_of types) c ≡ option_and_then (code_of types) t.parent
raw_parent-read types zero t z l e = absurd (omega arith)
raw_parent-read types (suc k) t z l e =
    let m : suc k - 1 ≡ k = omega arith in
    let e' : t ≡ get_or types k t = e ∙ ap (λ j. get_or types j t) m in
    let g : slice_get types k ≡ Some t = slice_get_read types (length types) k t refl (omega arith) e' in
    ap (option_and_then (λ u. u.parent)) (slice_get-map (seg_type types) types k ∙ ap (option_map (seg_type types)) g)

pub raw_parent-at : (types : List RawType) (c : ℕ) (d : RawType) → 0 < c → c ≤ length types → parent_code (types_of types) c ≡ option_and_then (code_of types) (get_or types (c - 1) d).parent
raw_parent-at types c d z l = raw_parent-read types c (get_or types (c - 1) d) z l (get_or_default types (c - 1) d (get_or types (c - 1) d) (omega arith))
