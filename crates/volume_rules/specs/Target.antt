-- Where a pointer to a segment leads. IMS: the extended pointer set (EPS) of a secondary index entry, which the indirect
-- list heals.
use Rattle.std.specs.Prelude.{ℕ, ◌==◌, nat_le, Bool, false, not, ◌&&◌, if◌then◌else◌, List, Option, Some}
use Rattle.std.specs.List.{list_any}
use Rattle.std.specs.Option.{option_map, option_map_or}
use Rattle.std.specs.Str.{bytes_eq}
use Rattle.hal_base.specs.declared.place.Ilk.{Ilk}
use Rattle.hal_schema.specs.Row.{same_name}
use Rattle.volume_rules.specs.View.{Home, Segment, View, generation_in}

-- partition, reorganization number, address and name
pub record Eps : Type 0 where
  pub part : ℕ
  pub number : ℕ
  pub addr : ℕ
  pub name : Ilk

-- what follows a pointer knows of it: the key of the root above its target, and the code of the target's type. An index
-- entry has one, and so will a logical child.
pub record Pointer : Type 0 where
  pub eps : Eps
  pub root : List ℕ
  pub code : ℕ

-- in the generation of its target's root: by its own address where its number is that generation, else by the indirect list
abbrev pub target_of : View → Pointer → Option Home
target_of view p =
    let now = generation_in view p.root in
    if p.eps.number == now then Some (record { number = now; addr = p.eps.addr })
    else option_map (λ listed. record { number = now; addr = listed.addr }) (view.listed p.eps.name p.code)

-- a segment of this name and type that isn't copied
abbrev pub is_own : Ilk → ℕ → Segment → Bool
is_own name code s = not s.copied && s.code == code && same_name s.name name

abbrev pub bears : View → Ilk → ℕ → Home → Bool
bears view name code home = option_map_or (is_own name code) (view.segments home) false

-- a pointer's number is at most the generation of its target's root, and it leads to its own target
abbrev pub leads_home : View → Pointer → Bool
leads_home view p = nat_le p.eps.number (generation_in view p.root) && option_map_or (bears view p.eps.name p.code) (target_of view p) false

-- its number is that of its target's root, and its address the target's
abbrev pub is_direct : View → Pointer → Bool
is_direct view p = p.eps.number == generation_in view p.root && bears view p.eps.name p.code (record { number = generation_in view p.root; addr = p.eps.addr })

abbrev pub same_eps : Eps → Eps → Bool
same_eps a b = a.part == b.part && a.number == b.number && a.addr == b.addr && same_name a.name b.name

abbrev pub same_pointer : Pointer → Pointer → Bool
same_pointer a b = same_eps a.eps b.eps && bytes_eq a.root b.root && a.code == b.code

abbrev pub is_among : List Pointer → Pointer → Bool
is_among pointers p = list_any (same_pointer p) pointers
