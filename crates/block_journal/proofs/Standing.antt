-- What a journal tells, by what its site tells.
use Rattle.std.proofs.Common.{◌≡◌, ◌⊎◌, inl, inr, ⊎_elim, ℕ, ◌<◌, ◌≤◌, Bool, true, false, ◌==◌, List, [], ◌++◌, length, set, Option, None, Some, option_map, Result, Ok, Err, OnOk, OnErr, is_err, refl, sym, ◌∙◌, ap, subst, arith, cond, nat_le}
use Rattle.std.proofs.lemmas.Option.{none-some, same_Some}
use Rattle.std.proofs.lemmas.Bool.{cases_Bool, leb-true, le-leb, eqb-true, true≢false}
use Rattle.std.proofs.lemmas.List.{append-nil}
use Rattle.std.specs.Io.KnownBytes.{append_known}
use Rattle.std.specs.BTreeMap.{insert_entry}
use Rattle.std.specs.Ordering.{nat_cmp}
use Rattle.hal_base.specs.Room.{HasRoom, HasSayRoom}
use Rattle.hal_base.specs.StoreCalls.{StoreView, LeavesSame, NoCall, Commits}
use Rattle.hal_base.specs.declared.outcome.JournalFault.{JournalFault}
use Rattle.hal_base.proofs.StoreLemmas.{say_room_none}
use Rattle.hal_base.specs.Stops.{LeavesOnly, IsTold, CommitLeaves, SayLeaves, SaidFrom, Read}
use Rattle.hal_base.proofs.StopLemmas.{not_yet, leaves-read, leaves-now, leaves-weaken}
use Rattle.block_journal.specs.Change.{Change}
use Rattle.block_journal.specs.Commit.{IsSettled, CommitMakes, HasChanges}
use Rattle.block_journal.specs.Device.{Became, MadeFrom, IsExact}
use Rattle.block_journal.specs.Front.{KeepsFront}
use Rattle.block_journal.specs.Redo.{blocks_at, redone, put_all, are_changes}
use Rattle.block_journal.specs.Stands.{Stands, told_where, say_room}
use Rattle.block_journal.specs.Steady.{IsSteady}
use Rattle.block_journal.proofs.Rising.{are_few, put_in_blocks, put_in_changes}
use Rattle.block_journal.specs.JournalLaw.{became-waits, keeps_refl, told_redone}

-- a change more is staged, or none
pub staged_rise : {T E : Type 0} (result : Result T E) (count n : ℕ) (b : List ℕ) (old new : List Change) → OnOk result (new ≡ insert_entry nat_cmp old n b) → OnErr result (new ≡ old) → n < count → length b ≡ 4096 → are_changes 0 count old ≡ true → are_changes 0 count new ≡ true
staged_rise (Ok x) count n b old new ok err below whole rise = subst (λ (l : List Change). are_changes 0 count l ≡ true) (sym ok) (put_in_changes 0 count n b old (omega arith) below whole rise)
staged_rise (Err e) count n b old new ok err below whole rise = subst (λ (l : List Change). are_changes 0 count l ≡ true) (sym err) rise

pub staged_list : (image : Option (List ℕ)) (count n : ℕ) (b : List ℕ) (old new : List Change) (kept : List (List ℕ)) → new ≡ insert_entry nat_cmp old n b → are_changes 0 count old ≡ true → told_where image (put_all new kept) ≡ option_map (λ blocks. set blocks n b) (told_where image (put_all old kept))
staged_list None count n b old new kept is rise = refl
staged_list (Some x) count n b old new kept is rise = ap Some (ap (λ (l : List Change). put_all l kept) is ∙ put_in_blocks 0 count n b old kept rise)

pub told_same : {R : List ℕ → List ℕ → Type 0} (old new : Option (List ℕ)) (blocks : List (List ℕ)) → Became R old new → told_where new blocks ≡ told_where old blocks
told_same None new blocks same = ap (λ (i : Option (List ℕ)). told_where i blocks) (same.untold refl)
told_same (Some x) new blocks same = let t = same.told x refl in ap (λ (i : Option (List ℕ)). told_where i blocks) t.1

-- what a step of a commit leaves or reads, as lists of blocks
either_told : (first count : ℕ) (cs : List Change) (kept : List (List ℕ)) (image : Option (List ℕ)) (x : List ℕ) → ((y : List ℕ) → image ≡ Some y → blocks_at first count y ≡ kept) → ((y : List ℕ) → image ≡ Some y → CommitMakes first count cs y x) → IsTold (told_where image kept) (redone first count x) ⊎ IsTold (told_where image (put_all cs kept)) (redone first count x)
either_told first count cs kept None x blocks makes = inl tt
either_told first count cs kept (Some y) x blocks makes = ⊎_elim (λ before. inl (before ∙ blocks y refl)) (λ after. inr (after ∙ ap (put_all cs) (blocks y refl))) (makes y refl).either

pub commit_stops : (first count : ℕ) (cs : List Change) (kept : List (List ℕ)) (image said : Option (List ℕ)) {a b : ℕ} {past at : ℕ → List ℕ → List ℕ → Type 0} → Stands first count kept image (past a) → ((x s : List ℕ) → past a x s → IsTold said s) → LeavesOnly a b past at (MadeFrom (CommitMakes first count cs) (past a) image)
    → LeavesOnly a b (Read (redone first count) past) (Read (redone first count) at) (CommitLeaves (told_where image kept) (told_where image (put_all cs kept)) said)
commit_stops first count cs kept image said stands said_now only =
    leaves-read (redone first count) (CommitLeaves (told_where image kept) (told_where image (put_all cs kept)) said) only (λ x s from. (either_told first count cs kept image x stands.blocks from.0, said_now from.1.0 s from.1.1))

pub commit_standing : (first count : ℕ) (cs : List Change) (kept : List (List ℕ)) (old new : Option (List ℕ)) {outcomes : List ℕ → List ℕ → Type 0} → Stands first count kept old outcomes → Became (CommitMakes first count cs) old new → (blocks : List (List ℕ)) → option_map (redone first count) new ≡ Some blocks → IsTold (told_where old kept) blocks ⊎ IsTold (told_where old (put_all cs kept)) blocks
commit_standing first count cs kept None new stands became blocks is = absurd (none-some blocks (sym (ap (option_map (redone first count)) (became.untold refl)) ∙ is))
commit_standing first count cs kept (Some y) new stands became blocks is =
    let t = became.told y refl in
    let blocks_is : redone first count t.0 ≡ blocks = same_Some (redone first count t.0) blocks (sym (ap (option_map (redone first count)) t.1) ∙ is) in
    subst (λ (l : List (List ℕ)). IsTold (Some kept) l ⊎ IsTold (Some (put_all cs kept)) l) blocks_is (⊎_elim (λ before. inl (before ∙ stands.blocks y refl)) (λ after. inr (after ∙ ap (put_all cs) (stands.blocks y refl))) t.2.either)

pub same_standing : (list committed standing : Option (List (List ℕ))) → standing ≡ committed → (blocks : List (List ℕ)) → standing ≡ Some blocks → IsTold committed blocks ⊎ IsTold list blocks
same_standing list committed standing is blocks told = inl (subst (λ (l : Option (List (List ℕ))). IsTold l blocks) (sym told ∙ is) refl)

-- something is staged
pub is_dirty : {n : ℕ} {none : Bool} → (none ≡ true → n ≡ 0) × (n ≡ 0 → none ≡ true) → none ≡ false → (n == 0) ≡ true → ⊥
is_dirty {n} is some clean = true≢false (sym (is.1 (eqb-true n 0 clean)) ∙ some)

on_err : {T E P : Type 0} (result : Result T E) → P → OnErr result P
on_err (Ok x) p = tt
on_err (Err e) p = p

-- a commit that changes nothing
pub commits_nothing : {T : Type 0} (result : Result T JournalFault) (view : StoreView) → OnOk result (view.committed ≡ view.list) → OnOk result (view.clean ≡ true) → view.standing ≡ view.committed → (view.clean ≡ true → OnErr result ⊥) → Commits result view view
commits_nothing result view done cleaned standing nothing =
    let no_call : NoCall view view = record { moment = refl; stops = not_yet view.moment view.left_at _; disk_faults = refl } in
    record {
      done = done;
      kept = on_err result refl;
      cleaned = cleaned;
      list = refl;
      number = refl;
      said = refl;
      stops = not_yet view.moment view.left_at _;
      standing = same_standing view.list view.committed view.standing standing;
      memory = λ is. no_call;
      nothing = λ clean. (nothing clean, no_call);
      say_faults = refl;
      room = say_room_none view.room view.disk_faults _;
      fetches = refl;
    }

pub say_steady : (first count : ℕ) (kept : List (List ℕ)) (old new : Option (List ℕ)) (text : List ℕ) {a b : ℕ} {past at : ℕ → List ℕ → List ℕ → Type 0} → Stands first count kept old (past a) → new ≡ old → LeavesOnly a b past at (SaidFrom (past a) text) → IsSteady first first count count old new a b past at
say_steady first count kept old new text stands is only = record {
  place = refl;
  count = refl;
  reads = became-waits (λ y told. keeps_refl first count y) is;
  stops = leaves-weaken only (λ x s from y told. subst (λ (z : List ℕ). KeepsFront first count y z) (sym (stands.exact.only y told x from.0 from.3)) (keeps_refl first count y));
}

-- the site is as it was
pub no_call : {old new : StoreView} → new.moment ≡ old.moment → LeavesSame old new → new.disk_faults ≡ old.disk_faults → NoCall old new
no_call moment stops faults = record { moment = moment; stops = stops; disk_faults = faults }

-- after a commit the journal stands on the changed blocks
pub commit_stands : (first count : ℕ) (cs : List Change) {R : List ℕ → List ℕ → Type 0} (kept : List (List ℕ)) (old new : Option (List ℕ)) (before outcomes : List ℕ → List ℕ → Type 0) → Stands first count kept old before → Became R old new → HasChanges first count cs old new → IsExact new outcomes → Stands first count (put_all cs kept) new outcomes
commit_stands first count cs kept None new before outcomes stands same changes exact =
    let none : new ≡ None = same.untold refl in
    record { settled = λ z is. absurd (none-some z (sym none ∙ is)); blocks = λ z is. absurd (none-some z (sym none ∙ is)); exact = exact }
commit_stands first count cs kept (Some y) new before outcomes stands same changes exact =
    let h = changes.has y refl in
    record {
      settled = λ z is. subst (λ (z : List ℕ). IsSettled first count z) (same_Some h.0 z (sym h.1 ∙ is)) h.2;
      blocks = λ z is. subst (λ (z : List ℕ). blocks_at first count z ≡ put_all cs kept) (same_Some h.0 z (sym h.1 ∙ is)) (h.3 ∙ ap (put_all cs) (stands.blocks y refl));
      exact = exact;
    }

-- the room that a store tells
room_within : (needed : ℕ) (r : ℕ × ℕ) (new : Option (ℕ × ℕ)) (before now : ℕ) (P : ℕ → Type 0) (Q : ℕ × ℕ → Type 0) → HasRoom (Some r) new before now Q → ((room : ℕ × ℕ) → needed ≤ room.0 → P room.1 → Q room) → nat_le needed r.0 ≡ true → HasSayRoom (say_room needed (Some r)) (say_room needed new) before now P
room_within needed r new before now P Q room so enough = record {
  stays = λ n is.
      let t = room.stays r refl in
      let n_is : r.1 ≡ n = same_Some r.1 n (sym (ap (λ (b : Bool). cond b (Some r.1) None) enough) ∙ is) in
      (t.0.1, ap (say_room needed) t.1 ∙ ap (λ (b : Bool). cond b (Some t.0.1) None) (le-leb needed t.0.0 (omega (arith, leb-true needed r.0 enough, t.2))), omega (arith, n_is, t.3));
  quiet = λ n is fits.
      let n_is : r.1 ≡ n = same_Some r.1 n (sym (ap (λ (b : Bool). cond b (Some r.1) None) enough) ∙ is) in
      room.quiet r refl (so r (leb-true needed r.0 enough) (subst P (sym n_is) fits));
}

room_short : (needed : ℕ) (r : ℕ × ℕ) (new : Option (ℕ × ℕ)) (before now : ℕ) (P : ℕ → Type 0) → nat_le needed r.0 ≡ false → HasSayRoom (say_room needed (Some r)) (say_room needed new) before now P
room_short needed r new before now P short = record {
  stays = λ n is. absurd (none-some n (sym (ap (λ (b : Bool). cond b (Some r.1) None) short) ∙ is));
  quiet = λ n is fits. absurd (none-some n (sym (ap (λ (b : Bool). cond b (Some r.1) None) short) ∙ is));
}

pub say_room-by : (needed : ℕ) (old new : Option (ℕ × ℕ)) (before now : ℕ) (P : ℕ → Type 0) (Q : ℕ × ℕ → Type 0) → HasRoom old new before now Q → ((room : ℕ × ℕ) → needed ≤ room.0 → P room.1 → Q room) → HasSayRoom (say_room needed old) (say_room needed new) before now P
say_room-by needed None new before now P Q room so = record { stays = λ n is. absurd (none-some n is); quiet = λ n is fits. absurd (none-some n is) }
say_room-by needed (Some r) new before now P Q room so = ⊎_elim (λ enough. room_within needed r new before now P Q room so enough) (λ short. room_short needed r new before now P short) (cases_Bool (nat_le needed r.0))

pub say_room-from : (needed : ℕ) (old new : Option (ℕ × ℕ)) (before now : ℕ) (P : ℕ → Type 0) → HasRoom old new before now (λ room. needed ≤ room.0) → HasSayRoom (say_room needed old) (say_room needed new) before now P
say_room-from needed old new before now P room = say_room-by needed old new before now P (λ room. needed ≤ room.0) room (λ r enough fits. enough)

-- saying
said_before : (outcomes : List ℕ → List ℕ → Type 0) (text x s : List ℕ) → outcomes x s → SaidFrom outcomes text x s
said_before outcomes text x s left = (s, [], text, left, refl, sym (append-nil s))

pub say_stands : (first count : ℕ) (kept : List (List ℕ)) (old new : Option (List ℕ)) (text : List ℕ) (a b : ℕ) (past at : ℕ → List ℕ → List ℕ → Type 0) → Stands first count kept old (past a) → new ≡ old → LeavesOnly a b past at (SaidFrom (past a) text) → Stands first count kept new (at b)
say_stands first count kept old new text a b past at stands is only = record {
  settled = λ z told. stands.settled z (sym is ∙ told);
  blocks = λ z told. stands.blocks z (sym is ∙ told);
  exact = record {
    only = λ z told x s left.
        let from = leaves-now only (said_before (past a) text) x s left in
        stands.exact.only z (sym is ∙ told) x from.0 from.3;
  };
}

told_append : (said : Option (List ℕ)) (old part s : List ℕ) → IsTold said old → s ≡ old ++ part → IsTold (append_known said part) s
told_append None old part s told is = tt
told_append (Some y) old part s told is = is ∙ ap (λ (l : List ℕ). l ++ part) told

pub say_stops : (first count : ℕ) (kept : List (List ℕ)) (image said : Option (List ℕ)) (text : List ℕ) (a b : ℕ) (past at : ℕ → List ℕ → List ℕ → Type 0) → Stands first count kept image (past a) → ((x s : List ℕ) → past a x s → IsTold said s) → LeavesOnly a b past at (SaidFrom (past a) text)
    → LeavesOnly a b (Read (redone first count) past) (Read (redone first count) at) (SayLeaves (told_where image kept) said text)
say_stops first count kept image said text a b past at stands said_now only =
    leaves-read (redone first count) (SayLeaves (told_where image kept) said text) only (λ x s from. (told_redone first count kept image (past a) stands x from.0 from.3, (from.1, from.2, from.4, told_append said from.0 from.1 s (said_now x from.0 from.3) from.5)))

-- nothing is staged
pub none_rise : (count : ℕ) (cs : List Change) → cs ≡ [] → are_changes 0 count cs ≡ true
unfolding are_changes
none_rise count cs is = ap (are_changes 0 count) is

pub few_changes : (count : ℕ) (cs : List Change) → are_changes 0 count cs ≡ true → length cs ≤ count
few_changes count cs rise = omega (arith, are_few 0 count cs (omega arith) rise)

pub commit_stands-of : {E : Type 0} (result : Result (Unit {0}) E) (first count : ℕ) (cs : List Change) {R : List ℕ → List ℕ → Type 0} (kept blocks : List (List ℕ)) (old new : Option (List ℕ)) (before outcomes : List ℕ → List ℕ → Type 0) → is_err result ≡ false → blocks ≡ put_all cs kept → Stands first count kept old before → Became R old new → OnOk result (HasChanges first count cs old new) → OnOk result (IsExact new outcomes) → Stands first count blocks new outcomes
commit_stands-of (Err e) first count cs kept blocks old new before outcomes went made stands same changes exact = absurd (true≢false went)
commit_stands-of (Ok x) first count cs kept blocks old new before outcomes went made stands same changes exact =
    subst (λ (l : List (List ℕ)). Stands first count l new outcomes) (sym made) (commit_stands first count cs kept old new before outcomes stands same changes exact)
