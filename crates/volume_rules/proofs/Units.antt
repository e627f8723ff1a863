-- A unit is lawful.
use Rattle.std.proofs.Common.{◌≡◌, ℕ, ◌+◌, ◌<◌, ◌==◌, Bool, true, false, not, ◌&&◌, ◌||◌, cond, List, [], ◌∷◌, Option, None, Some, refl, sym, ap, ◌∙◌, arith}
use Rattle.std.specs.Prelude.{is_none}
use Rattle.std.specs.List.{list_all}
use Rattle.std.specs.Option.{option_map_or}
use Rattle.std.proofs.lemmas.Bool.{and_parts, and_from, eqb-true, eq-eqb, false_from_ne_true}
use Rattle.hal_base.specs.declared.place.Cursor.{Cursor}
use Rattle.hal_base.specs.declared.place.Ilk.{Ilk}
use Rattle.hal_schema.specs.declared.schema.SegType.{SegType}
use Rattle.hal_schema.specs.Forest.{all_pairs}
use Rattle.volume_rules.specs.View.{Home, Homed, Segment, View, Stands, same_home, is_moving, is_live, generation_in}
use Rattle.volume_rules.specs.Target.{Pointer, target_of, bears, is_among}
use Rattle.volume_rules.specs.Rules.{KeepsRules}
use Rattle.volume_rules.specs.Delta.{Fate, Stays, Dropped, Rewritten, Fresh, Moved, Left, Listing, Keeps, Unlists, Lists, Delta, Owes, OwesListing, OwesPointer, source_of, after}
use Rattle.volume_rules.specs.Events.{Move, fate_in, listing_in, unit, is_moved, no_move_shares, may_move, MayBeCopied}
use Rattle.volume_rules.specs.EventLaws.{UnitsAreLawful}
use Rattle.volume_rules.proofs.Homing.{home_is, home_itself, numbers_differ}
use Rattle.volume_rules.proofs.Pointing.{borne_at, bears_from}

not_true : (b : Bool) → not b ≡ true → b ≡ false
not_true true h = cc
not_true false h = refl

-- ---- the moves of a list

abbrev fate_by : (left moved : Bool) → Move → Fate → Fate
fate_by left moved m rest = cond left (Left m.to) (cond moved (Moved m.from) rest)

move_at : (m : Move) (from to : Home) → m.from ≡ from → m.to ≡ to → m ≡ record { from = from; to = to }
move_at m from to f t = λ i. record { from = f i; to = t i }

-- what holds of each move holds of the one by which a home is left, or taken
at_left : (q : Move → Bool) (moves : List Move) → list_all q moves ≡ true → (home to : Home) → fate_in moves home ≡ Left to → q (record { from = home; to = to }) ≡ true
at_left q [] all home to e = cc
at_left q (m ∷ moves) all home to e =
    let parts = and_parts (q m) (list_all q moves) all in
    go (same_home home m.from) (same_home home m.to) refl parts.0 e (at_left q moves parts.1 home to)
  where
    go : (l t : Bool) → same_home home m.from ≡ l → q m ≡ true → fate_by l t m (fate_in moves home) ≡ Left to → (fate_in moves home ≡ Left to → q (record { from = home; to = to }) ≡ true) → q (record { from = home; to = to }) ≡ true
    go true t at first e more =
        let there : m.to ≡ to = cc in
        ap q (sym (move_at m home to (sym (home_is home m.from at)) there)) ∙ first
    go false true at first e more = cc
    go false false at first e more = more e

at_moved : (q : Move → Bool) (moves : List Move) → list_all q moves ≡ true → (home from : Home) → fate_in moves home ≡ Moved from → q (record { from = from; to = home }) ≡ true
at_moved q [] all home from e = cc
at_moved q (m ∷ moves) all home from e =
    let parts = and_parts (q m) (list_all q moves) all in
    go (same_home home m.from) (same_home home m.to) refl parts.0 e (at_moved q moves parts.1 home from)
  where
    go : (l t : Bool) → same_home home m.to ≡ t → q m ≡ true → fate_by l t m (fate_in moves home) ≡ Moved from → (fate_in moves home ≡ Moved from → q (record { from = from; to = home }) ≡ true) → q (record { from = from; to = home }) ≡ true
    go true t at first e more = cc
    go false true at first e more =
        let there : m.from ≡ from = cc in
        ap q (sym (move_at m from home there (sym (home_is home m.to at)))) ∙ first
    go false false at first e more = more e

-- the moves lead from one generation to the next
abbrev leads_up : ℕ → Move → Bool
leads_up number m = m.from.number == number && m.to.number == number + 1

fate_at : (moves : List Move) (m : Move) (home : Home) → same_home home m.from ≡ false → same_home home m.to ≡ false → (f : Fate) → fate_in moves home ≡ f → fate_in (m ∷ moves) home ≡ f
fate_at moves m home a b f e = ap (λ l. fate_by l (same_home home m.to) m (fate_in moves home)) a ∙ ap (λ t. fate_by false t m (fate_in moves home)) b ∙ e

module _ (number : ℕ) where
  up_parts : (m : Move) → leads_up number m ≡ true → (m.from.number ≡ number) × (m.to.number ≡ number + 1)
  up_parts m h = let p = and_parts (m.from.number == number) (m.to.number == number + 1) h in (eqb-true m.from.number number p.0, eqb-true m.to.number (number + 1) p.1)

  -- homes of the two generations differ
  to_from : (a b : Move) → leads_up number a ≡ true → leads_up number b ≡ true → same_home a.to b.from ≡ false
  to_from a b ha hb =
      let x = (up_parts a ha).1 in
      let y = (up_parts b hb).0 in
      numbers_differ a.to b.from (λ e. omega (arith, x, y, e))

  from_to : (a b : Move) → leads_up number a ≡ true → leads_up number b ≡ true → same_home a.from b.to ≡ false
  from_to a b ha hb =
      let x = (up_parts a ha).0 in
      let y = (up_parts b hb).1 in
      numbers_differ a.from b.to (λ e. omega (arith, x, y, e))

  turned_home : (a b : Home) → same_home a b ≡ false → same_home b a ≡ false
  turned_home a b h = false_from_ne_true (same_home b a) (λ e. (let at : b ≡ a = home_is b a e in let yes_ : same_home a b ≡ true = ap (same_home a) at ∙ home_itself a in let no_ : true ≡ false = sym yes_ ∙ h in cc))

  -- a home that is left names the home that is taken from it, and the other way round
  taken : (moves : List Move) → list_all (leads_up number) moves ≡ true → all_pairs no_move_shares moves ≡ true → (home to : Home) → fate_in moves home ≡ Left to → fate_in moves to ≡ Moved home
  taken [] up apart home to e = cc
  taken (m ∷ moves) up apart home to e =
      let ups = and_parts (leads_up number m) (list_all (leads_up number) moves) up in
      let aparts = and_parts (list_all (no_move_shares m) moves) (all_pairs no_move_shares moves) apart in
      go (same_home home m.from) (same_home home m.to) refl e ups.0 ups.1 aparts.0 (taken moves ups.1 aparts.1 home to)
    where
      go : (l t : Bool) → same_home home m.from ≡ l → fate_by l t m (fate_in moves home) ≡ Left to → leads_up number m ≡ true → list_all (leads_up number) moves ≡ true → list_all (no_move_shares m) moves ≡ true
          → (fate_in moves home ≡ Left to → fate_in moves to ≡ Moved home) → fate_in (m ∷ moves) to ≡ Moved home
      go true t at e upm ups apart more =
          let there : m.to ≡ to = cc in
          let from : m.from ≡ home = sym (home_is home m.from at) in
          let here : fate_in (m ∷ moves) m.to ≡ Moved m.from =
          ap (λ l. fate_by l (same_home m.to m.to) m (fate_in moves m.to)) (to_from m m upm upm) ∙ ap (λ t. fate_by false t m (fate_in moves m.to)) (home_itself m.to) in
          ap (fate_in (m ∷ moves)) (sym there) ∙ here ∙ ap Moved from
      go false true at e upm ups apart more = cc
      go false false at e upm ups apart more =
          let mine = at_left (leads_up number) moves ups home to e in
          let shares = and_parts (not (same_home m.from home)) (not (same_home m.to to)) (at_left (no_move_shares m) moves apart home to e) in
          fate_at moves m to (to_from (record { from = home; to = to }) m mine upm) (turned_home m.to to (not_true (same_home m.to to) shares.1)) (Moved home) (more e)

  left : (moves : List Move) → list_all (leads_up number) moves ≡ true → all_pairs no_move_shares moves ≡ true → (home from : Home) → fate_in moves home ≡ Moved from → fate_in moves from ≡ Left home
  left [] up apart home from e = cc
  left (m ∷ moves) up apart home from e =
      let ups = and_parts (leads_up number m) (list_all (leads_up number) moves) up in
      let aparts = and_parts (list_all (no_move_shares m) moves) (all_pairs no_move_shares moves) apart in
      go (same_home home m.from) (same_home home m.to) refl e ups.0 ups.1 aparts.0 (left moves ups.1 aparts.1 home from)
    where
      go : (l t : Bool) → same_home home m.to ≡ t → fate_by l t m (fate_in moves home) ≡ Moved from → leads_up number m ≡ true → list_all (leads_up number) moves ≡ true → list_all (no_move_shares m) moves ≡ true
          → (fate_in moves home ≡ Moved from → fate_in moves from ≡ Left home) → fate_in (m ∷ moves) from ≡ Left home
      go true t at e upm ups apart more = cc
      go false true at e upm ups apart more =
          let there : m.from ≡ from = cc in
          let to : m.to ≡ home = sym (home_is home m.to at) in
          let here : fate_in (m ∷ moves) m.from ≡ Left m.to = ap (λ l. fate_by l (same_home m.from m.to) m (fate_in moves m.from)) (home_itself m.from) in
          ap (fate_in (m ∷ moves)) (sym there) ∙ here ∙ ap Left to
      go false false at e upm ups apart more =
          let mine = at_moved (leads_up number) moves ups home from e in
          let shares = and_parts (not (same_home m.from from)) (not (same_home m.to home)) (at_moved (no_move_shares m) moves apart home from e) in
          fate_at moves m from (turned_home m.from from (not_true (same_home m.from from) shares.0)) (from_to (record { from = from; to = home }) m mine upm) (Left home) (more e)

-- whether a home is left, by its fate
moved_by_fate : (moves : List Move) (home : Home) → ((to : Home) → fate_in moves home ≡ Left to → is_moved moves home ≡ true) × (fate_in moves home ≡ Stays → is_moved moves home ≡ false)
moved_by_fate [] home = (λ to e. cc, λ e. refl)
moved_by_fate (m ∷ moves) home = go (same_home home m.from) (same_home home m.to) (moved_by_fate moves home)
  where
    go : (l t : Bool) → (((to : Home) → fate_in moves home ≡ Left to → is_moved moves home ≡ true) × (fate_in moves home ≡ Stays → is_moved moves home ≡ false))
        → ((to : Home) → fate_by l t m (fate_in moves home) ≡ Left to → (l || is_moved moves home) ≡ true) × (fate_by l t m (fate_in moves home) ≡ Stays → (l || is_moved moves home) ≡ false)
    go true t more = (λ to e. refl, λ e. cc)
    go false true more = (λ to e. cc, λ e. cc)
    go false false more = more

-- a unit has three kinds of fate
abbrev is_of_unit : Fate → Bool
is_of_unit Stays = true
is_of_unit (Moved from) = true
is_of_unit (Left to) = true
is_of_unit _ = false

only : (moves : List Move) (home : Home) → is_of_unit (fate_in moves home) ≡ true
only [] home = refl
only (m ∷ moves) home = go (same_home home m.from) (same_home home m.to) (only moves home)
  where
    go : (l t : Bool) → is_of_unit (fate_in moves home) ≡ true → is_of_unit (fate_by l t m (fate_in moves home)) ≡ true
    go true t h = refl
    go false true h = refl
    go false false h = h

-- ---- the list, and what is owed

module _ (types : List SegType) (is_target : ℕ → Bool) (view : View) (old new : List Pointer) (record_key : Home → List ℕ) (moves : List Move) (cursor : Cursor) (rows : ℕ → List Homed)
    (kept : KeepsRules types is_target view old) (may : MayBeCopied types view record_key moves cursor new)
  where
    abbrev d : Delta
    d = unit is_target view moves cursor rows

    record Goes (m : Move) : Type 0 where
      from : m.from.number ≡ view.state.number
      to : m.to.number ≡ view.state.number + 1
      segment : Segment
      stands : Stands view m.from segment
      free : view.segments m.to ≡ None

    goes_of : (m : Move) → may_move view m ≡ true → Goes m
    goes_of m h =
        let a = m.from.number == view.state.number in
        let b = m.to.number == view.state.number + 1 in
        let c = option_map_or (λ s. not s.copied) (view.segments m.from) false in
        let p2 = and_parts (a && b && c) (is_none (view.segments m.to)) h in
        let p1 = and_parts (a && b) c p2.0 in
        let p0 = and_parts a b p1.0 in
        let s = stood (view.segments m.from) refl p1.1 in
        record { from = eqb-true m.from.number view.state.number p0.0; to = eqb-true m.to.number (view.state.number + 1) p0.1; segment = s.0; stands = s.1; free = empty (view.segments m.to) refl p2.1 }
      where
        stood : (o : Option Segment) → view.segments m.from ≡ o → option_map_or (λ s. not s.copied) o false ≡ true → (s : Segment) × Stands view m.from s
        stood None e h = cc
        stood (Some s) e h = (s, record { here = e; uncopied = not_true s.copied h })

        empty : (o : Option Segment) → view.segments m.to ≡ o → is_none o ≡ true → view.segments m.to ≡ None
        empty None e h = e
        empty (Some s) e h = cc

    ups : (ms : List Move) → list_all (may_move view) ms ≡ true → list_all (leads_up view.state.number) ms ≡ true
    ups [] h = refl
    ups (m ∷ ms) h =
        let parts = and_parts (may_move view m) (list_all (may_move view) ms) h in
        let a = m.from.number == view.state.number && m.to.number == view.state.number + 1 in
        let c = option_map_or (λ s. not s.copied) (view.segments m.from) false in
        let p2 = and_parts (a && c) (is_none (view.segments m.to)) parts.0 in
        and_from (leads_up view.state.number m) (list_all (leads_up view.state.number) ms) (and_parts a c p2.0).0 (ups ms parts.1)

    -- the row of a segment that is left, and of one that stays
    listed_left : (ms : List Move) (home to : Home) (s : Segment) → Stands view home s → is_target s.code ≡ true → fate_in ms home ≡ Left to → listing_in is_target view ms s.name s.code ≡ Lists to
    listed_left [] home to s stands target e = cc
    listed_left (m ∷ ms) home to s stands target e = go (same_home home m.from) (same_home home m.to) refl e (is_target s.code && bears view s.name s.code m.from) refl (listed_left ms home to s stands target)
      where
        go : (l t : Bool) → same_home home m.from ≡ l → fate_by l t m (fate_in ms home) ≡ Left to → (b : Bool) → (is_target s.code && bears view s.name s.code m.from) ≡ b
            → (fate_in ms home ≡ Left to → listing_in is_target view ms s.name s.code ≡ Lists to) → cond b (Lists m.to) (listing_in is_target view ms s.name s.code) ≡ Lists to
        go true t at e true h more = let there : m.to ≡ to = cc in ap Lists there
        go true t at e false h more =
            let here : view.segments m.from ≡ Some s = ap view.segments (sym (home_is home m.from at)) ∙ stands.here in
            let borne = bears_from view s.name s.code m.from (record { s = s; stands = record { here = here; uncopied = stands.uncopied }; code_is = refl; name_is = refl }) in
            let yes_ = and_from (is_target s.code) (bears view s.name s.code m.from) target borne in
            let no_ : true ≡ false = sym yes_ ∙ h in
            cc
        go false true at e b h more = cc
        go false false at e true h more =
            let b = borne_at view s.name s.code m.from (and_parts (is_target s.code) (bears view s.name s.code m.from) h).1 in
            let there : m.from ≡ home = kept.rule6.distinct m.from home b.s s b.stands stands b.name_is in
            let yes_ : same_home home m.from ≡ true = ap (same_home home) there ∙ home_itself home in
            let no_ : true ≡ false = sym yes_ ∙ at in
            cc
        go false false at e false h more = more e

    listed_stays : (ms : List Move) (home : Home) (s : Segment) → Stands view home s → fate_in ms home ≡ Stays → listing_in is_target view ms s.name s.code ≡ Keeps
    listed_stays [] home s stands e = refl
    listed_stays (m ∷ ms) home s stands e = go (same_home home m.from) (same_home home m.to) refl e (is_target s.code && bears view s.name s.code m.from) refl (listed_stays ms home s stands)
      where
        go : (l t : Bool) → same_home home m.from ≡ l → fate_by l t m (fate_in ms home) ≡ Stays → (b : Bool) → (is_target s.code && bears view s.name s.code m.from) ≡ b
            → (fate_in ms home ≡ Stays → listing_in is_target view ms s.name s.code ≡ Keeps) → cond b (Lists m.to) (listing_in is_target view ms s.name s.code) ≡ Keeps
        go true t at e b h more = cc
        go false true at e b h more = cc
        go false false at e true h more =
            let b = borne_at view s.name s.code m.from (and_parts (is_target s.code) (bears view s.name s.code m.from) h).1 in
            let there : m.from ≡ home = kept.rule6.distinct m.from home b.s s b.stands stands b.name_is in
            let yes_ : same_home home m.from ≡ true = ap (same_home home) there ∙ home_itself home in
            let no_ : true ≡ false = sym yes_ ∙ at in
            cc
        go false false at e false h more = more e

    -- the move of a new row of the list
    record Listed (ms : List Move) (name : Ilk) (code : ℕ) (to : Home) : Type 0 where
      from : Home
      target : is_target code ≡ true
      borne : bears view name code from ≡ true
      fate : fate_in ms from ≡ Left to

    listed_by : (ms : List Move) → list_all (leads_up view.state.number) ms ≡ true → all_pairs no_move_shares ms ≡ true → (name : Ilk) (code : ℕ) (to : Home) → listing_in is_target view ms name code ≡ Lists to → Listed ms name code to
    listed_by [] up apart name code to e = cc
    listed_by (m ∷ ms) up apart name code to e =
        let upp = and_parts (leads_up view.state.number m) (list_all (leads_up view.state.number) ms) up in
        let aparts = and_parts (list_all (no_move_shares m) ms) (all_pairs no_move_shares ms) apart in
        go (is_target code && bears view name code m.from) refl e upp.0 upp.1 aparts.0 (listed_by ms upp.1 aparts.1 name code to)
      where
        go : (b : Bool) → (is_target code && bears view name code m.from) ≡ b → cond b (Lists m.to) (listing_in is_target view ms name code) ≡ Lists to → leads_up view.state.number m ≡ true
            → list_all (leads_up view.state.number) ms ≡ true → list_all (no_move_shares m) ms ≡ true → (listing_in is_target view ms name code ≡ Lists to → Listed ms name code to) → Listed (m ∷ ms) name code to
        go true h e upm upp shares more =
            let there : m.to ≡ to = cc in
            let parts = and_parts (is_target code) (bears view name code m.from) h in
            record { from = m.from; target = parts.0; borne = parts.1; fate = ap (λ l. fate_by l (same_home m.from m.to) m (fate_in ms m.from)) (home_itself m.from) ∙ ap Left there }
        go false h e upm upp shares more =
            let l = more e in
            let mine = at_left (leads_up view.state.number) ms upp l.from to l.fate in
            let apart_ = and_parts (not (same_home m.from l.from)) (not (same_home m.to to)) (at_left (no_move_shares m) ms shares l.from to l.fate) in
            record {
              from = l.from;
              target = l.target;
              borne = l.borne;
              fate = fate_at ms m l.from (turned_home view.state.number m.from l.from (not_true (same_home m.from l.from) apart_.0)) (from_to view.state.number (record { from = l.from; to = to }) m mine upm) (Left to) l.fate;
            }

    up : list_all (leads_up view.state.number) moves ≡ true
    up = ups moves may.each

    next_live : (number : ℕ) → number ≡ view.state.number + 1 → is_live view.state number ≡ true
    next_live number at = by (number == view.state.number) (ap (λ n. n == view.state.number + 1) at)
      where
        by : (b : Bool) → (number == view.state.number + 1) ≡ (view.state.number + 1 == view.state.number + 1) → (b || is_moving view.state && number == view.state.number + 1) ≡ true
        by true e = refl
        by false e = and_from (is_moving view.state) (number == view.state.number + 1) may.moving (eq-eqb number (view.state.number + 1) at)

    -- the generation of a record, by whether it is moved
    stays_in : (home : Home) (s : Segment) → Stands view home s → fate_in moves home ≡ Stays → generation_in (after view d) (record_key home) ≡ generation_in view (record_key home)
    stays_in home s stands e = may.whole home s stands ∙ ap (λ b. cond b (view.state.number + 1) (generation_in view (record_key home))) ((moved_by_fate moves home).1 e)

    goes_to : (home to : Home) (s : Segment) → Stands view home s → fate_in moves home ≡ Left to → generation_in (after view d) (record_key home) ≡ to.number
    goes_to home to s stands e =
        let g = goes_of (record { from = home; to = to }) (at_left (may_move view) moves may.each home to e) in
        may.whole home s stands ∙ ap (λ b. cond b (view.state.number + 1) (generation_in view (record_key home))) ((moved_by_fate moves home).0 to e) ∙ sym g.to

    fate : (home : Home) (f : Fate) → fate_in moves home ≡ f → Owes types is_target view d home f
    fate home Stays e =
        λ s here. record {
          live = kept.homes.live home s here;
          behind = λ un root.
              (let stands : Stands view home s = record { here = here; uncopied = un } in
              let key = may.roots home s stands root in
              ap (generation_in (after view d)) key ∙ stays_in home s stands e ∙ ap (generation_in view) (sym key));
          listing = λ un target. listed_stays moves home s (record { here = here; uncopied = un }) e;
        }
    fate home Dropped e = let no_ : true ≡ false = sym (only moves home) ∙ ap is_of_unit e in cc
    fate home (Rewritten content) e = let no_ : true ≡ false = sym (only moves home) ∙ ap is_of_unit e in cc
    fate home (Fresh s) e = let no_ : true ≡ false = sym (only moves home) ∙ ap is_of_unit e in cc
    fate home (Moved from) e =
        let g = goes_of (record { from = from; to = home }) (at_moved (may_move view) moves may.each home from e) in
        let away = left view.state.number moves up may.apart home from e in
        let low = g.from in
        let high = g.to in
        record {
          free = g.free;
          left = away;
          higher = (let lt : from.number < home.number = omega (arith, low, high) in lt);
          live = next_live home.number g.to;
          stood = g.segment;
          stands = g.stands;
          root = λ root. ap (generation_in (after view d)) (may.roots from g.segment g.stands root) ∙ goes_to from home g.segment g.stands away;
        }
    fate home (Left to) e =
        let g = goes_of (record { from = home; to = to }) (at_left (may_move view) moves may.each home to e) in
        λ s here. record {
          moving = may.moving;
          input = g.from;
          live = kept.homes.live home s here;
          taken = taken view.state.number moves up may.apart home to e;
          listing = λ un target. listed_left moves home to s (record { here = here; uncopied = un }) target e;
        }

    listing : (name : Ilk) (code : ℕ) (l : Listing) → listing_in is_target view moves name code ≡ l → OwesListing is_target view d name code l
    listing name code Keeps e = tt
    listing name code Unlists e = tt
    listing name code (Lists to) e =
        let l = listed_by moves up may.apart name code to e in
        let source : source_of (fate_in moves to) ≡ Some l.from = ap source_of (taken view.state.number moves up may.apart l.from to l.fate) in
        and_from (is_target code) (option_map_or (bears view name code) (source_of (fate_in moves to)) false) l.target (ap (λ (o : Option Home). option_map_or (bears view name code) o false) source ∙ l.borne)

    points : (p : Pointer) (home : Home) → is_among new p ≡ true → target_of view p ≡ Some home → bears view p.eps.name p.code home ≡ true → (f : Fate) → fate_in moves home ≡ f → OwesPointer view d p f
    points p home on target own Stays e =
        let b = borne_at view p.eps.name p.code home own in
        let key = may.hung p home on target own in
        ap (generation_in (after view d)) key ∙ stays_in home b.s b.stands e ∙ ap (generation_in view) (sym key)
    points p home on target own Dropped e = let no_ : true ≡ false = sym (only moves home) ∙ ap is_of_unit e in cc
    points p home on target own (Rewritten content) e = let no_ : true ≡ false = sym (only moves home) ∙ ap is_of_unit e in cc
    points p home on target own (Fresh s) e = tt
    points p home on target own (Moved from) e = tt
    points p home on target own (Left to) e =
        let b = borne_at view p.eps.name p.code home own in
        let key = may.hung p home on target own in
        ap (generation_in (after view d)) key ∙ goes_to home to b.s b.stands e

pub units_are_lawful : UnitsAreLawful
units_are_lawful types is_target view record_key moves cursor rows old new may kept carried = record {
  lawful = record {
    state = record { part = refl; opened = λ number before now was live. (let no_ : true ≡ false = sym now ∙ was in cc); moving = λ m live. m; input = λ m live. refl };
    fates = λ h. fate types is_target view old new record_key moves cursor rows kept may h (fate_in moves h) refl;
    listings = λ name code. listing types is_target view old new record_key moves cursor rows kept may name code (listing_in is_target view moves name code) refl;
  };
  follows = record {
    each = carried;
    kept = λ p h among direct target own.
        points types is_target view old new record_key moves cursor rows kept may p h among target own (fate_in moves h) refl;
  };
}
