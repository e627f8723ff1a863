-- The test of two names of rows, as an equation.
use Rattle.std.proofs.Common.{◌≡◌, ◌==◌, true, ◌&&◌, refl, subst}
use Rattle.std.proofs.lemmas.Bool.{and_parts, and_from, eqb-true, eq-eqb}
use Rattle.hal_base.specs.declared.place.Ilk.{Ilk}
use Rattle.hal_schema.specs.Row.{same_name}

ilk_is : (a b : Ilk) → a.addr ≡ b.addr → a.part ≡ b.part → a.number ≡ b.number → a ≡ b
ilk_is a b e f g = λ i. record { addr = e i; part = f i; number = g i }

pub name_is : (a b : Ilk) → same_name a b ≡ true → a ≡ b
name_is a b h =
    let p = and_parts (a.addr == b.addr && a.part == b.part) (a.number == b.number) h in
    let q = and_parts (a.addr == b.addr) (a.part == b.part) p.0 in
    ilk_is a b (eqb-true a.addr b.addr q.0) (eqb-true a.part b.part q.1) (eqb-true a.number b.number p.1)

pub name_itself : (a : Ilk) → same_name a a ≡ true
name_itself a =
    and_from (a.addr == a.addr && a.part == a.part) (a.number == a.number) (and_from (a.addr == a.addr) (a.part == a.part) (eq-eqb a.addr a.addr refl) (eq-eqb a.part a.part refl)) (eq-eqb a.number a.number refl)

pub name_from : (a b : Ilk) → a ≡ b → same_name a b ≡ true
name_from a b e = subst (λ (c : Ilk). same_name a c ≡ true) e (name_itself a)
