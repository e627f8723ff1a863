-- ISRT, REPL, DLET, and events that touch no segment, are lawful.
use Rattle.std.proofs.Common.{◌≡◌, ℕ, ◌+◌, ◌<◌, ◌==◌, Bool, true, false, not, ◌&&◌, ◌||◌, cond, List, Some, refl, sym, ap, subst, ◌∙◌, arith}
use Rattle.std.specs.List.{list_any}
use Rattle.std.proofs.lemmas.Bool.{and_from, and_left, eqb-true, ne_eqb, not_from_false, false_from_ne_true}
use Rattle.hal_base.specs.declared.place.Ilk.{Ilk}
use Rattle.hal_base.specs.declared.place.PartState.{PartState}
use Rattle.hal_schema.specs.declared.schema.PartDef.{PartDef}
use Rattle.hal_schema.specs.declared.schema.SegType.{SegType}
use Rattle.volume_rules.specs.View.{Home, Segment, View, Stands, same_home, is_moving, is_live, has_passed, generation_of, segment_key}
use Rattle.volume_rules.specs.Target.{Pointer, bears, is_among}
use Rattle.volume_rules.specs.Rules.{KeepsHomes}
use Rattle.volume_rules.specs.Delta.{Stays, Dropped, Rewritten, Fresh, Keeps, Unlists, Delta, GoesOn, Owes, OwesStay, OwesListing, OwesPointer}
use Rattle.volume_rules.specs.Events.{among, insertion, replacement, has_moved, deletion, IsTurn}
use Rattle.volume_rules.specs.EventLaws.{InsertionsAreLawful, ReplacementsAreLawful, DeletionsAreLawful, TurnsAreLawful, ReorganizationsTurn}
use Rattle.volume_rules.proofs.Homing.{home_is, any_at, none_at}
use Rattle.volume_rules.proofs.Pointing.{borne_at, bears_from}

same_state : (s : PartState) → GoesOn s s
same_state s = record { part = refl; opened = λ number before now was live. (let no_ : true ≡ false = sym now ∙ was in cc); moving = λ m live. m; input = λ m live. refl }

-- what stays where state and list stay owes nothing
stays_owed : (types : List SegType) (is_target : ℕ → Bool) (view : View) (d : Delta) (home : Home) → KeepsHomes view → d.state ≡ view.state → ((s : Segment) → Stands view home s → is_target s.code ≡ true → d.listing s.name s.code ≡ Keeps)
    → (s : Segment) → view.segments home ≡ Some s → OwesStay types is_target view d home s
stays_owed types is_target view d home homes same listing s here = record {
  live = ap (λ (t : PartState). is_live t home.number) same ∙ homes.live home s here;
  behind = λ un root. ap (λ (t : PartState). generation_of view.part t (segment_key types s)) same;
  listing = λ un target. listing s (record { here = here; uncopied = un }) target;
}

pub insertions_are_lawful : InsertionsAreLawful
insertions_are_lawful types is_target view home s rows old new may kept carried = record {
  lawful = record { state = same_state view.state; fates = λ h. fate h (same_home h home) refl; listings = λ name code. tt };
  follows = record { each = carried; kept = λ p h among direct target own. points p (same_home h home) };
}
  where
    fate : (h : Home) (b : Bool) → same_home h home ≡ b → Owes types is_target view (insertion view home s rows) h (cond b (Fresh s) Stays)
    fate h true e =
        subst (λ (h : Home). Owes types is_target view (insertion view home s rows) h (Fresh s)) (sym (home_is h home e))
        (record { free = may.free; name = may.name; uncopied = may.uncopied; low = may.low; was_live = may.live; live = may.live; root = may.root })
    fate h false e = stays_owed types is_target view (insertion view home s rows) h kept.homes refl (λ s stands target. refl)

    points : (p : Pointer) (b : Bool) → OwesPointer view (insertion view home s rows) p (cond b (Fresh s) Stays)
    points p true = tt
    points p false = refl

pub replacements_are_lawful : ReplacementsAreLawful
replacements_are_lawful types is_target view home content rows old new may kept carried = record {
  lawful = record { state = same_state view.state; fates = λ h. fate h (same_home h home) refl; listings = λ name code. tt };
  follows = record { each = carried; kept = λ p h among direct target own. points p (same_home h home) };
}
  where
    fate : (h : Home) (b : Bool) → same_home h home ≡ b → Owes types is_target view (replacement view home content rows) h (cond b (Rewritten content) Stays)
    fate h true e =
        λ s here.
        (stays_owed types is_target view (replacement view home content rows) h kept.homes refl (λ s stands target. refl) s here, may s (ap view.segments (sym (home_is h home e)) ∙ here))
    fate h false e = stays_owed types is_target view (replacement view home content rows) h kept.homes refl (λ s stands target. refl)

    points : (p : Pointer) (b : Bool) → OwesPointer view (replacement view home content rows) p (cond b (Rewritten content) Stays)
    points p true = refl
    points p false = refl

pub deletions_are_lawful : DeletionsAreLawful
deletions_are_lawful types is_target view homes rows old new may kept carried = record {
  lawful = record { state = same_state view.state; fates = λ h. fate h (among homes h) refl; listings = λ name code. listing name code (list_any (has_moved view name code) homes) };
  follows = record { each = carried; kept = λ p h on direct target own. points p h on own (among homes h) refl };
}
  where
    -- a segment that stays is borne by none that goes
    stays : (h : Home) (s : Segment) → among homes h ≡ false → Stands view h s → list_any (has_moved view s.name s.code) homes ≡ false
    stays h s out stands = none_at (has_moved view s.name s.code) homes (λ x on. and_left (bears view s.name s.code x) (not (s.name.number == x.number)) (false_from_ne_true (bears view s.name s.code x) (λ borne.
        (let b = borne_at view s.name s.code x borne in
        let at : x ≡ h = kept.rule6.distinct x h b.s s b.stands stands b.name_is in
        let in_ : among homes h ≡ true = ap (among homes) (sym at) ∙ on in
        let no_ : true ≡ false = sym in_ ∙ out in
        cc))))

    fate : (h : Home) (b : Bool) → among homes h ≡ b → Owes types is_target view (deletion view homes rows) h (cond b Dropped Stays)
    fate h true e =
        λ s here. record {
          dead = λ copied. (let no_ : true ≡ false = sym copied ∙ may.uncopied h s e here in cc);
          listing = λ un target away.
              ap (λ b. cond b Unlists Keeps)
              (any_at (has_moved view s.name s.code) homes h e
              (and_from (bears view s.name s.code h) (not (s.name.number == h.number))
              (bears_from view s.name s.code h (record { s = s; stands = record { here = here; uncopied = un }; code_is = refl; name_is = refl }))
              (not_from_false (s.name.number == h.number) (ne_eqb s.name.number h.number away))));
        }
    fate h false e = stays_owed types is_target view (deletion view homes rows) h kept.homes refl (λ s stands target. ap (λ b. cond b Unlists Keeps) (stays h s e stands))

    listing : (name : Ilk) (code : ℕ) (b : Bool) → OwesListing is_target view (deletion view homes rows) name code (cond b Unlists Keeps)
    listing name code true = tt
    listing name code false = tt

    points : (p : Pointer) (h : Home) → is_among new p ≡ true → bears view p.eps.name p.code h ≡ true → (b : Bool) → among homes h ≡ b → OwesPointer view (deletion view homes rows) p (cond b Dropped Stays)
    points p h on own true e = let no_ : true ≡ false = sym own ∙ may.unpointed p h on e in cc
    points p h on own false e = refl

pub turns_are_lawful : TurnsAreLawful
turns_are_lawful types is_target view state old new turn kept carried = record {
  lawful = record {
    state = turn.on;
    fates = λ h s here. record { live = turn.live h.number (kept.homes.live h s here); behind = λ un root. turn.same _; listing = λ un target. refl };
    listings = λ name code. tt;
  };
  follows = record { each = carried; kept = λ p h among direct target own. turn.same p.root };
}

-- a state of the same number, and of the same cursor where it moves
goes_same : (part : PartDef) (old new : PartState) → new.part ≡ old.part → new.number ≡ old.number → new.cursor ≡ old.cursor → is_moving new ≡ is_moving old → IsTurn part old new
goes_same part old new p n c m = record {
  on = record {
    part = p;
    opened = λ number before now was live. (let no_ : true ≡ false = sym now ∙ same number ∙ was in cc);
    moving = λ moves live. m ∙ moves;
    input = λ moves live. n;
  };
  live = λ number live. same number ∙ live;
  same = λ key. λ i. cond (m i && has_passed part.anchors (c i) key) (n i + 1) (n i);
}
  where
    same : (number : ℕ) → is_live new number ≡ is_live old number
    same number = λ i. (number == n i || m i && number == n i + 1)

pub reorganizations_turn : ReorganizationsTurn
reorganizations_turn part s = record {
  start = λ idle. record {
    on = record {
      part = refl;
      opened = λ number before now was live. first number before (number == s.number) (is_moving s) idle refl now was live;
      moving = λ moves live. refl;
      input = λ moves live. refl;
    };
    live = λ number live. still number (number == s.number) (is_moving s) idle live;
    same = λ key. sym (ap (λ b. cond (b && has_passed part.anchors s.cursor key) (s.number + 1) s.number) idle);
  };
  pause = λ moves. goes_same part s _ refl refl refl (sym moves);
  resume = λ moves. goes_same part s _ refl refl refl (sym moves);
  heal = goes_same part s s refl refl refl refl;
}
  where
    -- idle, only the own number is live
    only : (number : ℕ) (m : Bool) → m ≡ false → (number == s.number || m && number == s.number + 1) ≡ true → number ≡ s.number
    only number m idle live = go (number == s.number) refl m idle live
      where
        go : (b : Bool) → (number == s.number) ≡ b → (m : Bool) → m ≡ false → (b || m && number == s.number + 1) ≡ true → number ≡ s.number
        go true e m idle h = eqb-true number s.number e
        go false e true idle h = cc
        go false e false idle h = cc

    first : (number before : ℕ) (b m : Bool) → m ≡ false → (number == s.number) ≡ b → (b || true && number == s.number + 1) ≡ true → (b || m && number == s.number + 1) ≡ false
        → (before == s.number || m && before == s.number + 1) ≡ true → before < number
    first number before true m idle e now was live = cc
    first number before false m idle e now was live =
        let at : number ≡ s.number + 1 = eqb-true number (s.number + 1) now in
        let from : before ≡ s.number = only before m idle live in
        omega (arith, at, from)

    still : (number : ℕ) (b m : Bool) → m ≡ false → (b || m && number == s.number + 1) ≡ true → (b || true && number == s.number + 1) ≡ true
    still number true m idle h = refl
    still number false true idle h = cc
    still number false false idle h = cc
