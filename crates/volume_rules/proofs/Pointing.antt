-- What the tests of a segment and of a pointer say.
use Rattle.std.proofs.Common.{◌≡◌, ◌≢◌, ℕ, ◌≤◌, ◌==◌, nat_le, Bool, true, false, ◌&&◌, not, cond, Option, None, Some, refl, ap, ◌∙◌, arith}
use Rattle.std.specs.Option.{option_map, option_map_or}
use Rattle.std.proofs.lemmas.Bool.{and_parts, and_from, eqb-true, eq-eqb, leb-true, le-leb, not_from_false, ne_eqb}
use Rattle.hal_base.specs.declared.place.Ilk.{Ilk}
use Rattle.hal_schema.specs.Row.{same_name}
use Rattle.hal_schema.proofs.RowNames.{name_is, name_from}
use Rattle.volume_rules.specs.View.{Home, Segment, View, Stands, generation_in}
use Rattle.volume_rules.specs.Target.{Pointer, target_of, is_own, bears, leads_home, is_direct}

-- the segment that a test found
pub record Borne (view : View) (name : Ilk) (code : ℕ) (home : Home) : Type 0 where
  pub s : Segment
  pub stands : Stands view home s
  pub code_is : s.code ≡ code
  pub name_is : s.name ≡ name

not_true : (b : Bool) → not b ≡ true → b ≡ false
not_true true h = cc
not_true false h = refl

pub borne_at : (view : View) (name : Ilk) (code : ℕ) (home : Home) → bears view name code home ≡ true → Borne view name code home
borne_at view name code home h = by (view.segments home) refl h
  where
    by : (o : Option Segment) → view.segments home ≡ o → option_map_or (is_own name code) o false ≡ true → Borne view name code home
    by None e h = cc
    by (Some s) e h =
        let p = and_parts (not s.copied && s.code == code) (same_name s.name name) h in
        let q = and_parts (not s.copied) (s.code == code) p.0 in
        record { s = s; stands = record { here = e; uncopied = not_true s.copied q.0 }; code_is = eqb-true s.code code q.1; name_is = name_is s.name name p.1 }

pub bears_from : (view : View) (name : Ilk) (code : ℕ) (home : Home) → Borne view name code home → bears view name code home ≡ true
bears_from view name code home b =
    let own : is_own name code b.s ≡ true =
    and_from (not b.s.copied && b.s.code == code) (same_name b.s.name name)
    (and_from (not b.s.copied) (b.s.code == code) (not_from_false b.s.copied b.stands.uncopied) (eq-eqb b.s.code code b.code_is))
    (name_from b.s.name name b.name_is) in
    ap (λ (o : Option Segment). option_map_or (is_own name code) o false) b.stands.here ∙ own

-- where a pointer leads that leads home
pub record Leads (view : View) (p : Pointer) : Type 0 where
  pub bound : p.eps.number ≤ generation_in view p.root
  pub home : Home
  pub target : target_of view p ≡ Some home
  pub own : bears view p.eps.name p.code home ≡ true

pub leads_of : (view : View) (p : Pointer) → leads_home view p ≡ true → Leads view p
leads_of view p h =
    let parts = and_parts (nat_le p.eps.number (generation_in view p.root)) (option_map_or (bears view p.eps.name p.code) (target_of view p) false) h in
    by parts.0 (target_of view p) refl parts.1
  where
    by : nat_le p.eps.number (generation_in view p.root) ≡ true → (o : Option Home) → target_of view p ≡ o → option_map_or (bears view p.eps.name p.code) o false ≡ true → Leads view p
    by bound None e h = cc
    by bound (Some home) e h = record { bound = leb-true p.eps.number (generation_in view p.root) bound; home = home; target = e; own = h }

pub leads_from : (view : View) (p : Pointer) → Leads view p → leads_home view p ≡ true
leads_from view p l =
    and_from (nat_le p.eps.number (generation_in view p.root)) (option_map_or (bears view p.eps.name p.code) (target_of view p) false)
    (le-leb p.eps.number (generation_in view p.root) l.bound)
    (ap (λ (o : Option Home). option_map_or (bears view p.eps.name p.code) o false) l.target ∙ l.own)

-- the target of a pointer whose number is the generation of its root, and of any other
pub target_direct : (view : View) (p : Pointer) → p.eps.number ≡ generation_in view p.root → target_of view p ≡ Some (record { number = generation_in view p.root; addr = p.eps.addr })
target_direct view p e =
    ap (λ b. cond b (Some (record { number = generation_in view p.root; addr = p.eps.addr })) (option_map (λ (listed : Home). record { number = generation_in view p.root; addr = listed.addr }) (view.listed p.eps.name p.code)))
    (eq-eqb p.eps.number (generation_in view p.root) e)

pub target_listed : (view : View) (p : Pointer) → p.eps.number ≢ generation_in view p.root
    → target_of view p ≡ option_map (λ (listed : Home). record { number = generation_in view p.root; addr = listed.addr }) (view.listed p.eps.name p.code)
target_listed view p ne =
    ap (λ b. cond b (Some (record { number = generation_in view p.root; addr = p.eps.addr })) (option_map (λ (listed : Home). record { number = generation_in view p.root; addr = listed.addr }) (view.listed p.eps.name p.code)))
    (ne_eqb p.eps.number (generation_in view p.root) ne)

pub direct_leads : (view : View) (p : Pointer) → is_direct view p ≡ true → leads_home view p ≡ true
direct_leads view p h =
    let now = generation_in view p.root in
    let parts = and_parts (p.eps.number == now) (bears view p.eps.name p.code (record { number = now; addr = p.eps.addr })) h in
    let same : p.eps.number ≡ now = eqb-true p.eps.number now parts.0 in
    leads_from view p
    (record {
      bound = (let le : p.eps.number ≤ now = omega (arith, same) in le);
      home = record { number = now; addr = p.eps.addr };
      target = target_direct view p same;
      own = parts.1;
    })
