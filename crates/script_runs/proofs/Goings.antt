-- What events did to a taker, joined with what more of them did.
use Rattle.std.proofs.Common.{◌≡◌, ℕ, ◌≤◌, List, [], ◌∷◌, ◌++◌, Option, None, Some, refl, sym, ap, ◌∙◌, subst, arith, append_assoc, append-nil}
use Rattle.std.specs.Io.KnownBytes.{Appends}
use Rattle.std.proofs.KnownBytes.{Appends-nil, Appends-trans}
use Rattle.hal_base.specs.Stops.{LeavesOnly}
use Rattle.hal_base.proofs.StopLemmas.{not_yet, leaves-then, leaves-weaken}
use Rattle.script_runs.specs.Language.{Step, IsRun, Speaks, state_after, least_after, FirstFree, text_of}
use Rattle.script_runs.specs.Stops.{IsStop, StopsAmong, IsOnSite}
use Rattle.script_runs.specs.TakerView.{TakerView, LeavesTold}
use Rattle.script_runs.specs.Taken.{Meaning, told_steps, Goes, Went}
use Rattle.script_runs.specs.declared.taker.EngineFault.{EngineFault}
use Rattle.script_runs.specs.declared.taker.EngineFault.TheVariants.{DiskFault, SayFault, Memory}
use Rattle.script_runs.proofs.Rooms.{room_none, room_then}
use Rattle.script_runs.proofs.Runs.{IsRun-append, Speaks-append, state_after-append, least_after-append, text_of-append, FirstFree-append, stop-front, stop-append, on_site-later, on_site-append, appends_some}

told-append : {S : Type 0} (fault : Option EngineFault) (xs ys begun : List (Step S)) → told_steps fault (xs ++ ys) begun ≡ xs ++ told_steps fault ys begun
told-append None xs ys begun = refl
told-append (Some Memory) xs ys begun = refl
told-append (Some DiskFault) xs ys begun = refl
told-append (Some SayFault) xs ys begun = append_assoc xs ys begun

-- nothing was done
pub went_none : {S : Type 0} (meaning : Meaning S) (a : TakerView S) → Went meaning None a a [] [] []
went_none meaning a = record {
  goes = record {
    run = λ start is. tt;
    speaks = λ start is. tt;
    tells = λ start is. is;
    least = λ start is none. omega arith;
    first = tt;
    still = λ e none. refl;
    began = (refl, refl);
    text = Appends-nil a.said;
    stops = not_yet a.moment a.left_at (StopsAmong meaning.keeping a.state a.said []);
    room = room_none a [];
  };
  on_site = λ start is. tt;
}

-- what one event did, at whose begin nothing was staged
pub went_one : {S : Type 0} (meaning : Meaning S) (fault : Option EngineFault) (a b : TakerView S) (x : Step S) (steps begun : List (Step S)) (part : List ℕ) → LeavesTold meaning.keeping a → steps ++ begun ≡ x ∷ [] → Goes meaning fault a b steps begun part → Went meaning fault a b steps begun part
went_one {S} meaning fault a b x steps begun part told one goes = record {
  goes = goes;
  on_site = λ start is.
      let free : x.event.asked.free ≡ a.free = let P : List (Step S) → Type 0 = λ l. FirstFree a.free l in subst P one goes.first in
      let Q : List (Step S) → Type 0 = λ l. IsOnSite meaning.keeping b.left_at a.moment b.moment start l in
      subst Q (sym one) (
        a.moment,
        omega arith,
        omega (arith, goes.stops.later),
        λ blocks words left. let before = goes.stops.same a.moment blocks words (omega arith) left in (told.kept start blocks words is before, told.free start blocks words is before ∙ sym free),
        tt,
      );
}

pub went_no_event : {S : Type 0} (meaning : Meaning S) (fault : Option EngineFault) (a b : TakerView S) (steps begun : List (Step S)) (part : List ℕ) → steps ++ begun ≡ [] → Goes meaning fault a b steps begun part → Went meaning fault a b steps begun part
went_no_event {S} meaning fault a b steps begun part none goes = record {
  goes = goes;
  on_site = λ start is. let Q : List (Step S) → Type 0 = λ l. IsOnSite meaning.keeping b.left_at a.moment b.moment start l in subst Q (sym none) tt;
}

-- events that were done, and then more
goes_then : {S : Type 0} (meaning : Meaning S) (fault : Option EngineFault) (a b c : TakerView S) (xs ys begun : List (Step S)) (part : List ℕ) → Goes meaning None a b xs [] [] → Goes meaning fault b c ys begun part → Goes meaning fault a c (xs ++ ys) begun part
goes_then {S} meaning fault a b c xs ys begun part first second =
    let nil : xs ++ [] ≡ xs = append-nil xs in
    let all : (xs ++ ys) ++ begun ≡ xs ++ (ys ++ begun) = append_assoc xs ys begun in
    let Run : S → List (Step S) → Type 0 = λ s l. IsRun meaning.language s a.free l in
    let Says : S → List (Step S) → Type 0 = λ s l. Speaks meaning.language s l in
    let First : List (Step S) → Type 0 = λ l. FirstFree a.free l in
    let Left : List (Step S) → List (List ℕ) → List ℕ → Type 0 = λ l. StopsAmong meaning.keeping a.state a.said l in
    let said : Appends a.said b.said (text_of xs) = rw (append-nil (text_of xs)) at first.text in
    let stops : LeavesOnly a.moment c.moment a.left_at c.left_at (Left (xs ++ (ys ++ begun))) =
    leaves-then
    (leaves-weaken {Q = Left (xs ++ (ys ++ begun))} first.stops
    (λ blocks words at start before state words_are. stop-front meaning.keeping start before xs (ys ++ begun) blocks words (let P : List (Step S) → Type 0 = λ l. IsStop meaning.keeping start before l blocks words in subst P nil (at start before state words_are))))
    second.stops
    (λ blocks words at start before state words_are. stop-append meaning.keeping start before xs (ys ++ begun) blocks words
    (at (state_after start xs) (before ++ text_of xs) (first.tells start state) (appends_some a.said b.said (text_of xs) before said words_are))) in
    record {
      run = λ start is. subst (Run start) (sym all)
          (IsRun-append meaning.language start a.free xs (ys ++ begun) b.free (subst (Run start) nil (first.run start is)) (first.least start is tt) (second.run (state_after start xs) (first.tells start is)));
      speaks = λ start is. subst (Says start) (sym all) (Speaks-append meaning.language start xs (ys ++ begun) (subst (Says start) nil (first.speaks start is)) (second.speaks (state_after start xs) (first.tells start is)));
      tells = λ start is. second.tells (state_after start xs) (first.tells start is)
          ∙ ap (λ (s : S). Some s) (sym (state_after-append start xs (told_steps fault ys begun)) ∙ ap (λ (l : List (Step S)). state_after start l) (sym (told-append fault xs ys begun)));
      least = λ start is kept.
          let P : List (Step S) → Type 0 = λ l. least_after meaning.language start a.free l ≤ c.free in
          subst P (sym (told-append fault xs ys begun))
          (least_after-append meaning.language start a.free xs (told_steps fault ys begun) b.free c.free (first.least start is tt) (second.least (state_after start xs) (first.tells start is) kept));
      first = subst First (sym all) (FirstFree-append a.free b.free xs (ys ++ begun) (subst First nil first.first) (λ e. first.still e tt) second.first);
      still = λ e kept.
          let none : xs ++ told_steps fault ys begun ≡ [] = sym (told-append fault xs ys begun) ∙ e in
          second.still (behind_none xs (told_steps fault ys begun) none) kept ∙ first.still (before_none xs (told_steps fault ys begun) none) tt;
      began = second.began;
      text = rw (text_whole xs ys part) (Appends-trans a.said b.said c.said (text_of xs) (text_of ys ++ part) said second.text);
      stops = let P : List (Step S) → Type 0 = λ l. LeavesOnly a.moment c.moment a.left_at c.left_at (Left l) in subst P (sym all) stops;
      room = rw (all, text_of-append xs (ys ++ begun)) (room_then said (rw nil at first.room) second.room);
    }
  where
    before_none : (ls ms : List (Step S)) → ls ++ ms ≡ [] → ls ≡ []
    before_none [] ms e = refl
    before_none (l ∷ ls) ms e = absurd cc

    behind_none : (ls ms : List (Step S)) → ls ++ ms ≡ [] → ms ≡ []
    behind_none [] ms e = e
    behind_none (l ∷ ls) ms e = absurd cc

    text_whole : (ls ms : List (Step S)) (p : List ℕ) → text_of (ls ++ ms) ++ p ≡ text_of ls ++ (text_of ms ++ p)
    text_whole ls ms p = ap (λ (l : List ℕ). l ++ p) (text_of-append ls ms) ∙ append_assoc (text_of ls) (text_of ms) p

pub went_then : {S : Type 0} (meaning : Meaning S) (fault : Option EngineFault) (a b c : TakerView S) (xs ys begun : List (Step S)) (part : List ℕ) → Went meaning None a b xs [] [] → Went meaning fault b c ys begun part → Went meaning fault a c (xs ++ ys) begun part
went_then {S} meaning fault a b c xs ys begun part first second =
    let all : (xs ++ ys) ++ begun ≡ xs ++ (ys ++ begun) = append_assoc xs ys begun in
    record {
      goes = goes_then meaning fault a b c xs ys begun part first.goes second.goes;
      on_site = λ start is.
          let On : (ℕ → List (List ℕ) → List ℕ → Type 0) → ℕ → List (Step S) → Type 0 = λ at high l. IsOnSite meaning.keeping at a.moment high start l in
          subst (On c.left_at c.moment) (sym all)
          (on_site-append meaning.keeping c.left_at a.moment b.moment c.moment start xs (ys ++ begun) first.goes.stops.later second.goes.stops.later
          (on_site-later meaning.keeping b.left_at c.left_at a.moment b.moment b.moment start xs (omega arith) (λ m blocks words le left. second.goes.stops.same m blocks words le left) (subst (On b.left_at b.moment) (append-nil xs) (first.on_site start is)))
          (second.on_site (state_after start xs) (first.goes.tells start is)));
    }
