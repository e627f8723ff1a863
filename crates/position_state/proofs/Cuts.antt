-- An element and the deeper ones behind it, cut out of a view: by levels the path to another element leads over the cut
-- one exactly where that element goes with it.
use Rattle.std.proofs.Common.{◌≡◌, ℕ, ◌≤◌, Bool, true, false, not, cond, ◌||◌, List, [], ◌∷◌, ◌++◌, Option, None, Some, refl, sym, ap, subst, ◌∙◌, arith}
use Rattle.std.specs.Prelude.{nat_lt, filter, find, is_none}
use Rattle.std.specs.List.{list_all, list_any, last_or}
use Rattle.std.specs.Option.{option_map_or}
use Rattle.std.proofs.lemmas.Bool.{true≢false, and_parts, and_from, or_parts, or_right, not-true, le-ltb, ltb-true, ltb-false}
use Rattle.std.proofs.lemmas.List.Folds.{list_any-append}
use Rattle.std.proofs.lemmas.List.Elements.{filter-append}
use Rattle.position_state.specs.declared.session.Anchor.{Anchor}
use Rattle.position_state.specs.declared.spot.Spot.{Spot}
use Rattle.position_state.specs.View.{is_at, all_before, all_up_to}
use Rattle.position_state.proofs.KeepLaws.{found_any}

-- ---- before an element, in two lists

pub before_in : (at : Anchor) (xs ys : List Spot) → list_any (is_at at) xs ≡ true → all_before at (xs ++ ys) ≡ all_before at xs
before_in at [] ys h = absurd (true≢false (sym h))
before_in at (x ∷ xs) ys h = by (is_at at x) (before_in at xs ys) h
  where
    by : (b : Bool) → (list_any (is_at at) xs ≡ true → all_before at (xs ++ ys) ≡ all_before at xs) → (b || list_any (is_at at) xs) ≡ true
        → cond b [] (x ∷ all_before at (xs ++ ys)) ≡ cond b [] (x ∷ all_before at xs)
    by true rest h = refl
    by false rest h = ap (λ zs. x ∷ zs) (rest h)

pub before_behind : (at : Anchor) (xs ys : List Spot) → list_any (is_at at) xs ≡ false → all_before at (xs ++ ys) ≡ xs ++ all_before at ys
before_behind at [] ys h = refl
before_behind at (x ∷ xs) ys h = by (is_at at x) (before_behind at xs ys) h
  where
    by : (b : Bool) → (list_any (is_at at) xs ≡ false → all_before at (xs ++ ys) ≡ xs ++ all_before at ys) → (b || list_any (is_at at) xs) ≡ false
        → cond b [] (x ∷ all_before at (xs ++ ys)) ≡ x ∷ (xs ++ all_before at ys)
    by true rest h = absurd (true≢false h)
    by false rest h = ap (λ zs. x ∷ zs) (rest h)

pub up_to_in : (at : Anchor) (xs ys : List Spot) → list_any (is_at at) xs ≡ true → all_up_to at (xs ++ ys) ≡ all_up_to at xs
up_to_in at [] ys h = absurd (true≢false (sym h))
up_to_in at (x ∷ xs) ys h = ap (λ zs. x ∷ zs) (by (is_at at x) (up_to_in at xs ys) h)
  where
    by : (b : Bool) → (list_any (is_at at) xs ≡ true → all_up_to at (xs ++ ys) ≡ all_up_to at xs) → (b || list_any (is_at at) xs) ≡ true
        → cond b [] (all_up_to at (xs ++ ys)) ≡ cond b [] (all_up_to at xs)
    by true rest h = refl
    by false rest h = rest h

pub up_to_behind : (at : Anchor) (xs ys : List Spot) → list_any (is_at at) xs ≡ false → all_up_to at (xs ++ ys) ≡ xs ++ all_up_to at ys
up_to_behind at [] ys h = refl
up_to_behind at (x ∷ xs) ys h = ap (λ zs. x ∷ zs) (by (is_at at x) (up_to_behind at xs ys) h)
  where
    by : (b : Bool) → (list_any (is_at at) xs ≡ false → all_up_to at (xs ++ ys) ≡ xs ++ all_up_to at ys) → (b || list_any (is_at at) xs) ≡ false
        → cond b [] (all_up_to at (xs ++ ys)) ≡ xs ++ all_up_to at ys
    by true rest h = absurd (true≢false h)
    by false rest h = rest h

find_behind : (p : Spot → Bool) (xs ys : List Spot) → list_any p xs ≡ false → find p (xs ++ ys) ≡ find p ys
find_behind p [] ys h = refl
find_behind p (x ∷ xs) ys h =
    let a = or_parts (p x) (list_any p xs) h in
    ap (λ b. cond b (Some x) (find p (xs ++ ys))) a.0 ∙ find_behind p xs ys a.1

find_in : (p : Spot → Bool) (xs ys : List Spot) → list_any p xs ≡ true → find p (xs ++ ys) ≡ find p xs
find_in p [] ys h = absurd (true≢false (sym h))
find_in p (x ∷ xs) ys h = by (p x) (find_in p xs ys) h
  where
    by : (b : Bool) → (list_any p xs ≡ true → find p (xs ++ ys) ≡ find p xs) → (b || list_any p xs) ≡ true → cond b (Some x) (find p (xs ++ ys)) ≡ cond b (Some x) (find p xs)
    by true rest h = refl
    by false rest h = rest h

-- ---- what holds of each element

pub all_found : (p q : Spot → Bool) (xs : List Spot) (s : Spot) → list_all q xs ≡ true → find p xs ≡ Some s → q s ≡ true
all_found p q [] s h f = absurd (true≢false (ap is_none f))
all_found p q (x ∷ xs) s h f =
    let a = and_parts (q x) (list_all q xs) h in by (p x) a.0 (all_found p q xs s a.1) f
  where
    by : (b : Bool) → q x ≡ true → (find p xs ≡ Some s → q s ≡ true) → cond b (Some x) (find p xs) ≡ Some s → q s ≡ true
    by true one rest e = subst (λ (y : Spot). q y ≡ true) (ap (λ o. option_map_or (λ (y : Spot). y) o x) e) one
    by false one rest e = rest e

pub before_all : (q : Spot → Bool) (at : Anchor) (xs : List Spot) → list_all q xs ≡ true → list_all q (all_before at xs) ≡ true
before_all q at [] h = refl
before_all q at (x ∷ xs) h =
    let a = and_parts (q x) (list_all q xs) h in by (is_at at x) a.0 (before_all q at xs a.1)
  where
    by : (b : Bool) → q x ≡ true → list_all q (all_before at xs) ≡ true → list_all q (cond b [] (x ∷ all_before at xs)) ≡ true
    by true one rest = refl
    by false one rest = and_from (q x) (list_all q (all_before at xs)) one rest

pub last_all : (p q : Spot → Bool) (b : Bool) (xs : List Spot) (o : Option Spot) → option_map_or q o b ≡ true → list_all q xs ≡ true
    → option_map_or q (last_or o (filter p xs)) b ≡ true
last_all p q b [] o h k = h
last_all p q b (x ∷ xs) o h k =
    let a = and_parts (q x) (list_all q xs) k in by (p x) a.0 (λ o h. last_all p q b xs o h a.1)
  where
    by : (c : Bool) → q x ≡ true → ((o : Option Spot) → option_map_or q o b ≡ true → option_map_or q (last_or o (filter p xs)) b ≡ true)
        → option_map_or q (last_or o (cond c (x ∷ filter p xs) (filter p xs))) b ≡ true
    by true one rest = rest (Some x) one
    by false one rest = rest o h

last_more : (xs ys : List Spot) (o : Option Spot) → last_or o (xs ++ ys) ≡ last_or (last_or o xs) ys
last_more [] ys o = refl
last_more (x ∷ xs) ys o = last_more xs ys (Some x)

pub last_in_two : (p : Spot → Bool) (xs ys : List Spot) (o : Option Spot) → last_or o (filter p (xs ++ ys)) ≡ last_or (last_or o (filter p xs)) (filter p ys)
last_in_two p xs ys o = ap (λ zs. last_or o zs) (filter-append p xs ys) ∙ last_more (filter p xs) (filter p ys) o

pub none_pass : (p : Spot → Bool) (xs : List Spot) → list_all (λ x. not (p x)) xs ≡ true → filter p xs ≡ []
none_pass p [] h = refl
none_pass p (x ∷ xs) h =
    let a = and_parts (not (p x)) (list_all (λ y. not (p y)) xs) h in
    ap (λ b. cond b (x ∷ filter p xs) (filter p xs)) (not-true (p x) a.0) ∙ none_pass p xs a.1

-- ---- the parts of a view

-- an element, the deeper ones behind it, and what is before and behind these
abbrev pub whole : List Spot → Spot → List Spot → List Spot → List Spot
whole front d below rest = front ++ d ∷ (below ++ rest)

abbrev pub is_left : List Spot → List Spot → Spot → Bool
is_left front rest s = list_any (is_at s.at) (front ++ rest)

-- the rest begins with an element that isn't deeper
abbrev pub stops : ℕ → List Spot → Bool
stops level [] = true
stops level (r ∷ rest) = not (nat_lt level r.level)

-- what was found in a view, by the part in which it stands
pub data Region (front : List Spot) (d : Spot) (below rest : List Spot) (s : Spot) : Type 0 where
  InFront : list_any (is_at s.at) front ≡ true → Region front d below rest s
  IsIt : list_any (is_at s.at) front ≡ false → is_at s.at d ≡ true → s ≡ d → Region front d below rest s
  InBelow : list_any (is_at s.at) front ≡ false → is_at s.at d ≡ false → find (is_at s.at) below ≡ Some s → Region front d below rest s
  InRest : list_any (is_at s.at) front ≡ false → is_at s.at d ≡ false → list_any (is_at s.at) below ≡ false → find (is_at s.at) rest ≡ Some s → Region front d below rest s

pub region : (front below rest : List Spot) (d s : Spot) → find (is_at s.at) (whole front d below rest) ≡ Some s → Region front d below rest s
region front below rest d s f = by (list_any (is_at s.at) front) refl
  where
    third : list_any (is_at s.at) front ≡ false → is_at s.at d ≡ false → find (is_at s.at) (below ++ rest) ≡ Some s → (c : Bool) → list_any (is_at s.at) below ≡ c → Region front d below rest s
    third a b e true h = InBelow a b (sym (find_in (is_at s.at) below rest h) ∙ e)
    third a b e false h = InRest a b h (sym (find_behind (is_at s.at) below rest h) ∙ e)

    second : list_any (is_at s.at) front ≡ false → (c : Bool) → is_at s.at d ≡ c → cond c (Some d) (find (is_at s.at) (below ++ rest)) ≡ Some s → Region front d below rest s
    second a true h e = IsIt a h (sym (ap (λ o. option_map_or (λ (y : Spot). y) o d) e))
    second a false h e = third a h e (list_any (is_at s.at) below) refl

    by : (c : Bool) → list_any (is_at s.at) front ≡ c → Region front d below rest s
    by true h = InFront h
    by false h = second h (is_at s.at d) refl (sym (find_behind (is_at s.at) front (d ∷ (below ++ rest)) h) ∙ f)

-- what a cut of a view has: the parts, and that the elements that go are none of those that stay
pub record Parts (front : List Spot) (d : Spot) (below rest : List Spot) : Type 0 where
  pub deep : list_all (λ x. nat_lt d.level x.level) below ≡ true
  pub stop : stops d.level rest ≡ true
  pub gone : list_all (λ x. not (is_left front rest x)) (d ∷ below) ≡ true
  pub left_front : list_all (is_left front rest) front ≡ true
  pub left_rest : list_all (is_left front rest) rest ≡ true

-- which elements stay
abbrev pub stays : (front below rest : List Spot) (d s : Spot) → Parts front d below rest → Region front d below rest s → Bool
stays front below rest d s parts (InFront a) = true
stays front below rest d s parts (IsIt a b e) = false
stays front below rest d s parts (InBelow a b f) = false
stays front below rest d s parts (InRest a b c f) = true

pub is_stay : (front below rest : List Spot) (d s : Spot) (parts : Parts front d below rest) (r : Region front d below rest s)
    → is_left front rest s ≡ stays front below rest d s parts r
is_stay front below rest d s parts (InFront a) = list_any-append (is_at s.at) front rest ∙ ap (λ b. b || list_any (is_at s.at) rest) a
is_stay front below rest d s parts (IsIt a b e) =
    subst (λ (x : Spot). is_left front rest x ≡ false) (sym e) (not-true (is_left front rest d) (and_parts (not (is_left front rest d)) (list_all (λ x. not (is_left front rest x)) below) parts.gone).0)
is_stay front below rest d s parts (InBelow a b f) =
    not-true (is_left front rest s)
    (all_found (is_at s.at) (λ x. not (is_left front rest x)) below s (and_parts (not (is_left front rest d)) (list_all (λ x. not (is_left front rest x)) below) parts.gone).1 f)
is_stay front below rest d s parts (InRest a b c f) =
    list_any-append (is_at s.at) front rest ∙ or_right (list_any (is_at s.at) front) (list_any (is_at s.at) rest) (found_any (is_at s.at) rest s f)

-- ---- one step up the path

abbrev pub up_from : Spot → List Spot → Option Spot
up_from s view = last_or None (filter (λ (x : Spot). nat_lt x.level s.level) (all_before s.at view))

flat : (d s : Spot) (below : List Spot) → s.level ≤ d.level → list_all (λ x. nat_lt d.level x.level) below ≡ true → list_all (λ x. not (nat_lt x.level s.level)) below ≡ true
flat d s [] le h = refl
flat d s (x ∷ below) le h =
    let a = and_parts (nat_lt d.level x.level) (list_all (λ y. nat_lt d.level y.level) below) h in
    let up : s.level ≤ x.level = omega (arith, ltb-true d.level x.level a.0, le) in
    and_from (not (nat_lt x.level s.level)) (list_all (λ y. not (nat_lt y.level s.level)) below) (ap not (le-ltb x.level s.level up)) (flat d s below le a.1)

-- where nothing of what goes is of a higher level
none_above : (d s : Spot) (below : List Spot) → s.level ≤ d.level → list_all (λ x. nat_lt d.level x.level) below ≡ true → filter (λ x. nat_lt x.level s.level) (d ∷ below) ≡ []
none_above d s below le h =
    none_pass (λ x. nat_lt x.level s.level) (d ∷ below)
    (and_from (not (nat_lt d.level s.level)) (list_all (λ x. not (nat_lt x.level s.level)) below) (ap not (le-ltb d.level s.level le)) (flat d s below le h))

-- the last element of a higher level, of those before one that is found behind what goes
pub behind_rest : (q : Spot → Bool) (below : List Spot) (d s : Spot) (first : Option Spot) (rest : List Spot) → option_map_or q first true ≡ true → list_all q rest ≡ true
    → list_all (λ x. nat_lt d.level x.level) below ≡ true → stops d.level rest ≡ true → find (is_at s.at) rest ≡ Some s
    → option_map_or q (last_or (last_or first (filter (λ x. nat_lt x.level s.level) (d ∷ below))) (filter (λ x. nat_lt x.level s.level) (all_before s.at rest))) true ≡ true
behind_rest q below d s first [] h k deep stop f = absurd (true≢false (ap is_none f))
behind_rest q below d s first (r ∷ rest) h k deep stop f = by (is_at s.at r) f
  where
    low : Spot → Bool
    low x = nat_lt x.level s.level

    flat_r : r.level ≤ d.level
    flat_r = ltb-false d.level r.level (not-true (nat_lt d.level r.level) stop)

    a : (q r ≡ true) × (list_all q rest ≡ true)
    a = and_parts (q r) (list_all q rest) k

    none : s.level ≤ d.level → last_or first (filter low (d ∷ below)) ≡ first
    none le = ap (λ xs. last_or first xs) (none_above d s below le deep)

    next : (b : Bool) → low r ≡ b → option_map_or q (last_or (last_or first (filter low (d ∷ below))) (cond b (r ∷ filter low (all_before s.at rest)) (filter low (all_before s.at rest)))) true ≡ true
    next true e = last_all low q true (all_before s.at rest) (Some r) a.0 (before_all q s.at rest a.1)
    next false e =
        let le : s.level ≤ d.level = omega (arith, ltb-false r.level s.level e, flat_r) in
        last_all low q true (all_before s.at rest) (last_or first (filter low (d ∷ below))) (subst (λ (o : Option Spot). option_map_or q o true ≡ true) (sym (none le)) h) (before_all q s.at rest a.1)

    by : (b : Bool) → cond b (Some r) (find (is_at s.at) rest) ≡ Some s
        → option_map_or q (last_or (last_or first (filter low (d ∷ below))) (filter low (cond b [] (r ∷ all_before s.at rest)))) true ≡ true
    by true e =
        let same : r ≡ s = ap (λ o. option_map_or (λ (y : Spot). y) o r) e in
        let le : s.level ≤ d.level = omega (arith, ap (λ (y : Spot). y.level) same, flat_r) in
        subst (λ (o : Option Spot). option_map_or q o true ≡ true) (sym (none le)) h
    by false e = next (low r) refl

not_left : (q : Spot → Bool) (o : Option Spot) → option_map_or (λ s. not (q s)) o false ≡ true → option_map_or q o true ≡ false
not_left q None h = absurd (true≢false (sym h))
not_left q (Some s) h = not-true (q s) h

-- the element above stays exactly where this one stays, and where there is none this one stays
pub climbed : (front below rest : List Spot) (d s : Spot) (parts : Parts front d below rest) (r : Region front d below rest s) → is_at s.at d ≡ false
    → option_map_or (is_left front rest) (up_from s (whole front d below rest)) true ≡ is_left front rest s
climbed front below rest d s parts r apart = by r ∙ sym (is_stay front below rest d s parts r)
  where
    low : Spot → Bool
    low x = nat_lt x.level s.level

    seen : (xs : List Spot) → all_before s.at (whole front d below rest) ≡ xs → option_map_or (is_left front rest) (up_from s (whole front d below rest)) true ≡ option_map_or (is_left front rest) (last_or None (filter low xs)) true
    seen xs e = ap (λ ys. option_map_or (is_left front rest) (last_or None (filter low ys)) true) e

    not_it : list_any (is_at s.at) front ≡ false → all_before s.at (whole front d below rest) ≡ front ++ d ∷ all_before s.at (below ++ rest)
    not_it a = before_behind s.at front (d ∷ (below ++ rest)) a ∙ ap (λ b. front ++ cond b [] (d ∷ all_before s.at (below ++ rest))) apart

    by : (r : Region front d below rest s) → option_map_or (is_left front rest) (up_from s (whole front d below rest)) true ≡ stays front below rest d s parts r
    by (InFront a) =
        seen (all_before s.at front) (before_in s.at front (d ∷ (below ++ rest)) a)
        ∙ last_all low (is_left front rest) true (all_before s.at front) None refl (before_all (is_left front rest) s.at front parts.left_front)
    by (IsIt a b e) = absurd (true≢false (sym b ∙ apart))
    by (InBelow a b f) =
        let gone = and_parts (not (is_left front rest d)) (list_all (λ x. not (is_left front rest x)) below) parts.gone in
        seen (front ++ d ∷ all_before s.at below) (not_it a ∙ ap (λ xs. front ++ d ∷ xs) (before_in s.at below rest (found_any (is_at s.at) below s f)))
        ∙ ap (λ o. option_map_or (is_left front rest) o true) (last_in_two low front (d ∷ all_before s.at below) None)
        ∙ ap (λ c. option_map_or (is_left front rest) (last_or (last_or None (filter low front)) (cond c (d ∷ filter low (all_before s.at below)) (filter low (all_before s.at below)))) true)
        (all_found (is_at s.at) (λ x. nat_lt d.level x.level) below s parts.deep f)
        ∙ not_left (is_left front rest) (last_or (Some d) (filter low (all_before s.at below)))
        (last_all low (λ x. not (is_left front rest x)) false (all_before s.at below) (Some d) gone.0 (before_all (λ x. not (is_left front rest x)) s.at below gone.1))
    by (InRest a b c f) =
        seen (front ++ d ∷ (below ++ all_before s.at rest)) (not_it a ∙ ap (λ xs. front ++ d ∷ xs) (before_behind s.at below rest c))
        ∙ ap (λ o. option_map_or (is_left front rest) o true)
        (last_in_two low front ((d ∷ below) ++ all_before s.at rest) None ∙ last_in_two low (d ∷ below) (all_before s.at rest) (last_or None (filter low front)))
        ∙ behind_rest (is_left front rest) below d s (last_or None (filter low front)) rest
        (last_all low (is_left front rest) true front None refl parts.left_front) parts.left_rest parts.deep parts.stop f
