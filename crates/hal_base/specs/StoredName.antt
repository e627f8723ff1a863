-- How a name lies in memory: on eight bytes, with blanks behind.
use Rattle.std.specs.Prelude.{ℕ, ◌≤◌, ◌≡◌, IsTrue, List, length, take}
use Rattle.std.proofs.Common.{sym, ap, ◌∙◌, arith}
use Rattle.std.proofs.lemmas.List.{length-take-le}
use Rattle.hal_base.specs.Name.{is_field_name, padded}
use Rattle.hal_base.specs.declared.name.Name8.TheInside.{Inside}

pub record IsStored (letters : List ℕ) (len : ℕ) : Type 0 where
  pub short : len ≤ 8
  pub whole : length letters ≡ 8
  pub blanks : letters ≡ padded (take len letters)
  pub name : IsTrue (is_field_name (take len letters))

pub stored_back : (a : Inside) → IsStored a.letters a.len → record { letters = padded (take a.len a.letters); len = length (take a.len a.letters) } ≡ a
stored_back a h =
    let all : a.len ≤ length a.letters = omega (arith, h.whole, h.short) in
    let len : length (take a.len a.letters) ≡ a.len = length-take-le a.len a.letters all in
    let first : Inside = record { letters = padded (take a.len a.letters); len = length (take a.len a.letters) } in
    let second : Inside = record { letters = padded (take a.len a.letters); len = a.len } in
    let e : first ≡ second = ap (λ (n : ℕ). record { letters = padded (take a.len a.letters); len = n }) len in
    let f : second ≡ a = ap (λ (l : List ℕ). record { letters = l; len = a.len }) (sym h.blanks) in
    e ∙ f
