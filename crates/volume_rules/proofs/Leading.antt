-- Where pointers lead, and that a lawful delta keeps rule 8.
use Rattle.std.proofs.Common.{◌≡◌, ◌≢◌, ℕ, ◌<◌, ◌≤◌, ◌==◌, Bool, true, false, ◌&&◌, ◌||◌, cond, List, [], ◌∷◌, Option, None, Some, refl, sym, ap, subst, ◌∙◌, arith}
use Rattle.std.specs.List.{list_all}
use Rattle.std.specs.Option.{option_map}
use Rattle.std.specs.Str.{bytes_eq}
use Rattle.std.proofs.lemmas.Bool.{and_parts, and_from, eqb-true, eq-eqb, or_left, or_right}
use Rattle.std.proofs.lemmas.Slice.Eq.{bytes_eq-Decides}
use Rattle.hal_base.specs.declared.place.Ilk.{Ilk}
use Rattle.hal_schema.specs.declared.schema.SegType.{SegType}
use Rattle.hal_schema.specs.Row.{same_name}
use Rattle.hal_schema.proofs.RowNames.{name_is, name_itself}
use Rattle.volume_rules.specs.View.{Home, Segment, View, Stands, generation_in}
use Rattle.volume_rules.specs.Target.{Pointer, target_of, bears, leads_home, is_direct, same_pointer, is_among}
use Rattle.volume_rules.specs.Rules.{KeepsRule6, KeepsRule9}
use Rattle.volume_rules.specs.Delta.{Fate, Stays, Dropped, Rewritten, Fresh, Moved, Left, Delta, after, segment_after, with_content, Owes, OwesPointer, IsLawful}
use Rattle.volume_rules.specs.Laws.{PointersLeadHome, DeltasKeepRule8}
use Rattle.volume_rules.proofs.Pointing.{Borne, borne_at, bears_from, Leads, leads_of, leads_from, target_direct, target_listed, direct_leads}

-- ---- one pointer

-- what there is to know of a pointer of a number that isn't its root's generation
pub record Indirect (is_target : ℕ → Bool) (view : View) (p : Pointer) (home : Home) : Type 0 where
  pub target : is_target p.code ≡ true
  pub moved : p.eps.name.number ≢ home.number

pub number_of : (view : View) (p : Pointer) (home : Home) → target_of view p ≡ Some home → home.number ≡ generation_in view p.root
number_of view p home e = by (p.eps.number == generation_in view p.root) (view.listed p.eps.name p.code) e
  where
    by : (b : Bool) (o : Option Home)
        → cond b (Some (record { number = generation_in view p.root; addr = p.eps.addr })) (option_map (λ (listed : Home). record { number = generation_in view p.root; addr = listed.addr }) o) ≡ Some home
        → home.number ≡ generation_in view p.root
    by true o e = let at : record { number = generation_in view p.root; addr = p.eps.addr } ≡ home = cc in ap (λ (h : Home). h.number) (sym at)
    by false None e = cc
    by false (Some listed) e = let at : record { number = generation_in view p.root; addr = listed.addr } ≡ home = cc in ap (λ (h : Home). h.number) (sym at)

-- a row of the list of the pointer's name gives the home of its own target
pub indirect_of : (is_target : ℕ → Bool) (view : View) → KeepsRule6 view → KeepsRule9 is_target view → (p : Pointer) (home : Home) → bears view p.eps.name p.code home ≡ true
    → p.eps.number ≢ generation_in view p.root → target_of view p ≡ Some home → Indirect is_target view p home
indirect_of is_target view names rule p home own ne e = by (view.listed p.eps.name p.code) refl (sym (target_listed view p ne) ∙ e)
  where
    by : (o : Option Home) → view.listed p.eps.name p.code ≡ o → option_map (λ (listed : Home). record { number = generation_in view p.root; addr = listed.addr }) o ≡ Some home → Indirect is_target view p home
    by None h e = cc
    by (Some listed) h e =
        let row = borne_at view p.eps.name p.code listed (rule.stands p.eps.name p.code listed h) in
        let mine = borne_at view p.eps.name p.code home own in
        let at : listed ≡ home = names.distinct listed home row.s mine.s row.stands mine.stands (row.name_is ∙ sym mine.name_is) in
        record {
          target = rule.target p.eps.name p.code listed h;
          moved = subst (λ (h : Home). p.eps.name.number ≢ h.number) at (rule.moved p.eps.name p.code listed h);
        }

-- a pointer leads to a home of its root's generation where its own target stands, directly or by the list
pub arrives : (is_target : ℕ → Bool) (view : View) → KeepsRule9 is_target view → (p : Pointer) (home : Home) → bears view p.eps.name p.code home ≡ true
    → generation_in view p.root ≡ home.number → p.eps.number ≤ home.number → (p.eps.number ≡ home.number → p.eps.addr ≡ home.addr)
    → (p.eps.number ≢ home.number → Indirect is_target view p home) → Leads view p
arrives is_target view rule p home own now bound direct indirect = record { bound = (let le : p.eps.number ≤ generation_in view p.root = omega (arith, now, bound) in le); home = home; target = target (p.eps.number == home.number) refl; own = own }
  where
    mine : Borne view p.eps.name p.code home
    mine = borne_at view p.eps.name p.code home own

    target : (b : Bool) → (p.eps.number == home.number) ≡ b → target_of view p ≡ Some home
    target true e =
        let same : p.eps.number ≡ home.number = eqb-true p.eps.number home.number e in
        let at : record { number = generation_in view p.root; addr = p.eps.addr } ≡ home = λ i. record { number = now i; addr = direct same i } in
        target_direct view p (same ∙ sym now) ∙ ap {B = Option Home} Some at
    target false e =
        let ne : p.eps.number ≢ home.number = λ same. (let yes_ : (p.eps.number == home.number) ≡ true = eq-eqb p.eps.number home.number same in cc) in
        let i = indirect ne in
        let away : mine.s.name.number ≢ home.number = λ at. i.moved (ap (λ (n : Ilk). n.number) (sym mine.name_is) ∙ at) in
        let listed_mine = rule.each home mine.s mine.stands (ap is_target mine.code_is ∙ i.target) away in
        let listed : view.listed p.eps.name p.code ≡ Some home = ap (λ (n : Ilk). view.listed n p.code) (sym mine.name_is) ∙ ap (view.listed mine.s.name) (sym mine.code_is) ∙ listed_mine in
        let at : record { number = generation_in view p.root; addr = home.addr } ≡ home = λ j. record { number = now j; addr = home.addr } in
        target_listed view p (λ same. ne (same ∙ now)) ∙ ap (option_map (λ (listed : Home). record { number = generation_in view p.root; addr = listed.addr })) listed ∙ ap {B = Option Home} Some at

pub pointers_lead_home : PointersLeadHome
pointers_lead_home is_target view names rule p own borne = record {
  exactly = (λ h. (let l = leads_of view p h in (l.bound, l.target ∙ ap {B = Option Home} Some (same l))), λ h. leads_from view p (record { bound = h.0; home = own; target = h.1; own = borne }));
  generation = λ h. (let l = leads_of view p h in ap (λ (h : Home). h.number) (sym (same l)) ∙ number_of view p l.home l.target);
  direct = target_direct view p;
  moved = λ h ne.
      (let l = leads_of view p h in
      let i = indirect_of is_target view names rule p l.home l.own ne l.target in
      λ at. i.moved (at ∙ sym (number_of view p l.home l.target)));
}
  where
    same : (l : Leads view p) → l.home ≡ own
    same l =
        let a = borne_at view p.eps.name p.code l.home l.own in
        let b = borne_at view p.eps.name p.code own borne in
        names.distinct l.home own a.s b.s a.stands b.stands (a.name_is ∙ sym b.name_is)

-- ---- a delta

pub pointer_leads : (types : List SegType) (is_target : ℕ → Bool) (view : View) (d : Delta) → IsLawful types is_target view d → KeepsRule6 view → KeepsRule9 is_target view → KeepsRule9 is_target (after view d)
    → (p : Pointer) → is_target p.code ≡ true → leads_home view p ≡ true → ((home : Home) → target_of view p ≡ Some home → bears view p.eps.name p.code home ≡ true → OwesPointer view d p (d.fate home))
    → leads_home (after view d) p ≡ true
pointer_leads types is_target view d lawful names rule rule_now p target leads owed =
    let l = leads_of view p leads in
    leads_from (after view d) p (go l (number_of view p l.home l.target) (borne_at view p.eps.name p.code l.home l.own) (d.fate l.home) refl (lawful.fates l.home) (owed l.home l.target l.own))
  where
    -- the own target still stands at its home
    stays : (l : Leads view p) → l.home.number ≡ generation_in view p.root → (s : Segment) → Stands (after view d) l.home s → s.code ≡ p.code → s.name ≡ p.eps.name → generation_in (after view d) p.root ≡ generation_in view p.root
        → Leads (after view d) p
    stays l at s stands code name same =
        arrives is_target (after view d) rule_now p l.home (bears_from (after view d) p.eps.name p.code l.home (record { s = s; stands = stands; code_is = code; name_is = name })) (same ∙ sym at)
        (subst (λ (n : ℕ). p.eps.number ≤ n) (sym at) l.bound)
        (λ direct.
        (let target : Some (record { number = generation_in view p.root; addr = p.eps.addr }) ≡ Some l.home = sym (target_direct view p (direct ∙ at)) ∙ l.target in
        let home : record { number = generation_in view p.root; addr = p.eps.addr } ≡ l.home = cc in
        ap (λ (h : Home). h.addr) home))
        (λ ne.
        (let i = indirect_of is_target view names rule p l.home l.own (λ e. ne (e ∙ sym at)) l.target in
        record { target = i.target; moved = i.moved }))

    -- it has left its home for one of a higher generation
    leaves : (l : Leads view p) → l.home.number ≡ generation_in view p.root → Borne view p.eps.name p.code l.home → (to : Home) → d.fate l.home ≡ Left to → d.fate to ≡ Moved l.home
        → generation_in (after view d) p.root ≡ to.number → l.home.number < to.number → Leads (after view d) p
    leaves l at b to e taken now up =
        let low : p.eps.number ≤ l.home.number = subst (λ (n : ℕ). p.eps.number ≤ n) (sym at) l.bound in
        let high : p.eps.name.number ≤ l.home.number = subst (λ (n : Ilk). n.number ≤ l.home.number) b.name_is (names.high l.home b.s b.stands) in
        arrives is_target (after view d) rule_now p to
        (bears_from (after view d) p.eps.name p.code to
        (record { s = b.s; stands = record { here = ap (segment_after view.segments to) taken ∙ b.stands.here; uncopied = b.stands.uncopied }; code_is = b.code_is; name_is = b.name_is }))
        now (let le : p.eps.number ≤ to.number = omega (arith, low, up) in le) (λ same. absurd (omega (arith, low, up, same)))
        (λ ne. record { target = target; moved = λ same. omega (arith, high, up, same) })

    go : (l : Leads view p) → l.home.number ≡ generation_in view p.root → (b : Borne view p.eps.name p.code l.home) → (f : Fate) → d.fate l.home ≡ f → Owes types is_target view d l.home f → OwesPointer view d p f → Leads (after view d) p
    go l at b Stays e owes same = stays l at b.s (record { here = ap (segment_after view.segments l.home) e ∙ b.stands.here; uncopied = b.stands.uncopied }) b.code_is b.name_is same
    go l at b Dropped e owes gone = absurd gone
    go l at b (Rewritten content) e owes same =
        stays l at (with_content content b.s) (record { here = ap (segment_after view.segments l.home) e ∙ ap (option_map (with_content content)) b.stands.here; uncopied = b.stands.uncopied }) b.code_is b.name_is same
    go l at b (Fresh s) e owes t = let none : None ≡ Some b.s = sym owes.free ∙ b.stands.here in cc
    go l at b (Moved from) e owes t = let none : None ≡ Some b.s = sym owes.free ∙ b.stands.here in cc
    go l at b (Left to) e owes now =
        let left = owes b.s b.stands.here in
        let came : Owes types is_target view d to (Moved l.home) = subst (Owes types is_target view d to) left.taken (lawful.fates to) in
        leaves l at b to e left.taken now came.higher

-- ---- lists of pointers

bytes_same : (a b : List ℕ) → bytes_eq a b ≡ true → a ≡ b
bytes_same a b h = (bytes_eq-Decides a b).0 h

pointer_is : (a b : Pointer) → same_pointer a b ≡ true → a ≡ b
pointer_is a b h =
    let p5 = and_parts (a.eps.part == b.eps.part && a.eps.number == b.eps.number && a.eps.addr == b.eps.addr && same_name a.eps.name b.eps.name && bytes_eq a.root b.root) (a.code == b.code) h in
    let p4 = and_parts (a.eps.part == b.eps.part && a.eps.number == b.eps.number && a.eps.addr == b.eps.addr && same_name a.eps.name b.eps.name) (bytes_eq a.root b.root) p5.0 in
    let p3 = and_parts (a.eps.part == b.eps.part && a.eps.number == b.eps.number && a.eps.addr == b.eps.addr) (same_name a.eps.name b.eps.name) p4.0 in
    let p2 = and_parts (a.eps.part == b.eps.part && a.eps.number == b.eps.number) (a.eps.addr == b.eps.addr) p3.0 in
    let p1 = and_parts (a.eps.part == b.eps.part) (a.eps.number == b.eps.number) p2.0 in
    let part : a.eps.part ≡ b.eps.part = eqb-true a.eps.part b.eps.part p1.0 in
    let number : a.eps.number ≡ b.eps.number = eqb-true a.eps.number b.eps.number p1.1 in
    let addr : a.eps.addr ≡ b.eps.addr = eqb-true a.eps.addr b.eps.addr p2.1 in
    let name : a.eps.name ≡ b.eps.name = name_is a.eps.name b.eps.name p3.1 in
    let root : a.root ≡ b.root = bytes_same a.root b.root p4.1 in
    let code : a.code ≡ b.code = eqb-true a.code b.code p5.1 in
    λ i. record { eps = record { part = part i; number = number i; addr = addr i; name = name i }; root = root i; code = code i }

pointer_itself : (a : Pointer) → same_pointer a a ≡ true
pointer_itself a =
    and_from (a.eps.part == a.eps.part && a.eps.number == a.eps.number && a.eps.addr == a.eps.addr && same_name a.eps.name a.eps.name && bytes_eq a.root a.root) (a.code == a.code)
    (and_from (a.eps.part == a.eps.part && a.eps.number == a.eps.number && a.eps.addr == a.eps.addr && same_name a.eps.name a.eps.name) (bytes_eq a.root a.root)
    (and_from (a.eps.part == a.eps.part && a.eps.number == a.eps.number && a.eps.addr == a.eps.addr) (same_name a.eps.name a.eps.name)
    (and_from (a.eps.part == a.eps.part && a.eps.number == a.eps.number) (a.eps.addr == a.eps.addr)
    (and_from (a.eps.part == a.eps.part) (a.eps.number == a.eps.number) (eq-eqb a.eps.part a.eps.part refl) (eq-eqb a.eps.number a.eps.number refl)) (eq-eqb a.eps.addr a.eps.addr refl))
    (name_itself a.eps.name))
    ((bytes_eq-Decides a.root a.root).1 refl)) (eq-eqb a.code a.code refl)

-- what holds of each pointer holds of one among them
pub at_each : (test : Pointer → Bool) (pointers : List Pointer) → list_all test pointers ≡ true → (p : Pointer) → is_among pointers p ≡ true → test p ≡ true
at_each test [] all p h = cc
at_each test (q ∷ pointers) all p h =
    let parts = and_parts (test q) (list_all test pointers) all in
    go (same_pointer p q) refl h parts.0 (at_each test pointers parts.1 p)
  where
    go : (b : Bool) → same_pointer p q ≡ b → (b || is_among pointers p) ≡ true → test q ≡ true → (is_among pointers p ≡ true → test p ≡ true) → test p ≡ true
    go true e h first more = ap test (pointer_is p q e) ∙ first
    go false e h first more = more h

pub each_from : (given test : Pointer → Bool) (pointers : List Pointer) → ((p : Pointer) → is_among pointers p ≡ true → given p ≡ true → test p ≡ true) → list_all given pointers ≡ true → list_all test pointers ≡ true
each_from given test [] by h = refl
each_from given test (q ∷ pointers) by h =
    let parts = and_parts (given q) (list_all given pointers) h in
    and_from (test q) (list_all test pointers) (by q (or_left (same_pointer q q) (is_among pointers q) (pointer_itself q)) parts.0)
    (each_from given test pointers (λ p among. by p (or_right (same_pointer p q) (is_among pointers p) among)) parts.1)

pub deltas_keep_rule_8 : DeltasKeepRule8
deltas_keep_rule_8 types is_target view d old new lawful follows names rule rule_now kept =
    each_from (λ p. is_target p.code && is_direct (after view d) p || is_among old p) (λ p. is_target p.code && leads_home (after view d) p) new by follows.each
  where
    by : (p : Pointer) → is_among new p ≡ true → (is_target p.code && is_direct (after view d) p || is_among old p) ≡ true → (is_target p.code && leads_home (after view d) p) ≡ true
    by p among h = go (is_target p.code) (is_direct (after view d) p) refl refl h
      where
        carried : is_direct (after view d) p ≡ false → is_among old p ≡ true → (is_target p.code && leads_home (after view d) p) ≡ true
        carried direct was =
            let parts = and_parts (is_target p.code) (leads_home view p) (at_each (λ p. is_target p.code && leads_home view p) old kept p was) in
            and_from (is_target p.code) (leads_home (after view d) p) parts.0
            (pointer_leads types is_target view d lawful names rule rule_now p parts.0 parts.1 (λ home e own. follows.kept p home among direct e own))

        go : (t b : Bool) → is_target p.code ≡ t → is_direct (after view d) p ≡ b → (t && b || is_among old p) ≡ true → (is_target p.code && leads_home (after view d) p) ≡ true
        go true true t e h = and_from (is_target p.code) (leads_home (after view d) p) t (direct_leads (after view d) p e)
        go true false t e h = carried e h
        go false true t e h =
            let parts = and_parts (is_target p.code) (leads_home view p) (at_each (λ p. is_target p.code && leads_home view p) old kept p h) in
            and_from (is_target p.code) (leads_home (after view d) p) parts.0 (direct_leads (after view d) p e)
        go false false t e h = carried e h
