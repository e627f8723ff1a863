-- How a run of a script ends, and that what follows a piece goes on from it.
use Rattle.std.proofs.Common.{◌≡◌, ℕ, suc, ◌+◌, ◌≤◌, Bool, true, false, List, [], ◌∷◌, ◌++◌, length, take, Option, None, Some, IsTrue, refl, sym, ap, ◌∙◌, subst, arith, append_assoc, append-nil, length-append}
use Rattle.std.specs.Io.KnownBytes.{Consumes, IsAtEnd}
use Rattle.std.proofs.KnownBytes.{Consumes-trans}
use Rattle.std.specs.Str.Lines.{lines}
use Rattle.hal_base.specs.Fault.{Rose}
use Rattle.script_runs.specs.Lines.{ended_parts, ended_lines, rest_of}
use Rattle.script_runs.specs.Language.{Step}
use Rattle.script_runs.specs.Faults.{IsCaused, IsLeftBy}
use Rattle.script_runs.specs.TakerView.{TakerView, is_ready}
use Rattle.script_runs.specs.Taken.{Meaning, DidLines, CutLines, Lines}
use Rattle.script_runs.specs.Script.{SourceView, RanFrom, ReadOn, IsLater, HasItsCause, HasItsEnd, IsLeftAt, AllDone, due_lines, ending_of, fault_of}
use Rattle.script_runs.specs.declared.taker.EngineFault.{EngineFault}
use Rattle.script_runs.specs.declared.taker.EngineFault.TheVariants as engine
use Rattle.script_runs.specs.declared.ending.Ending.{Ending}
use Rattle.script_runs.specs.declared.ending.Ending.TheVariants.{Done, ReadFault, DiskFault, SayFault, Memory, TooLong}
use Rattle.script_runs.proofs.LineLemmas.{IsOpenLine, ended-append, lines-append}
use Rattle.script_runs.proofs.Goings.{went_none}
use Rattle.script_runs.proofs.Joined.{joined}

-- ---- a fault

cut_cause : {S : Type 0} (fault : EngineFault) (before after : SourceView) (old new : TakerView S) → IsCaused fault old new → HasItsCause (ending_of fault) before after old new
cut_cause engine.DiskFault before after old new h = h
cut_cause engine.SayFault before after old new h = h
cut_cause engine.Memory before after old new h = h

cut_left : {S : Type 0} (fault : EngineFault) (view : TakerView S) → IsLeftBy fault view → IsLeftAt (ending_of fault) view
cut_left engine.DiskFault view h = h
cut_left engine.SayFault view h = h
cut_left engine.Memory view h = h

fault_back : (fault : EngineFault) → fault_of (ending_of fault) ≡ Some fault
fault_back engine.DiskFault = refl
fault_back engine.SayFault = refl
fault_back engine.Memory = refl

cut_due : (fault : EngineFault) (most : ℕ) (text : List ℕ) → due_lines false (ending_of fault) most text ≡ ended_lines text
cut_due engine.DiskFault most text = refl
cut_due engine.SayFault most text = refl
cut_due engine.Memory most text = refl

cut_all : (fault : EngineFault) (left : List (List ℕ)) → AllDone (ending_of fault) left
cut_all engine.DiskFault left = tt
cut_all engine.SayFault left = tt
cut_all engine.Memory left = tt

cut_found : (fault : EngineFault) (whole : Bool) → HasItsEnd (ending_of fault) whole
cut_found engine.DiskFault whole = tt
cut_found engine.SayFault whole = tt
cut_found engine.Memory whole = tt

cut_not_long : (fault : EngineFault) → ending_of fault ≡ TooLong → ⊥
cut_not_long engine.DiskFault e = cc
cut_not_long engine.SayFault e = cc
cut_not_long engine.Memory e = cc

-- a fault in a piece
pub ran_cut : {S : Type 0} (meaning : Meaning S) (fault : EngineFault) (begun : List ℕ) (from room : ℕ) (before after : SourceView) (old new : TakerView S) (taken : List ℕ) → Consumes before.left after.left taken → length taken ≤ room
    → CutLines meaning None (ended_lines (begun ++ taken)) from old new fault → IsCaused fault old new → IsLeftBy fault new
    → RanFrom meaning begun from room before after old new (ending_of fault)
ran_cut {S} meaning fault begun from room before after old new taken read within cut caused left = record {
  taken = taken;
  read = read;
  whole = false;
  steps = cut.steps;
  begun = cut.begun;
  part = cut.part;
  left = cut.left;
  lines = rw (fault_back fault, cut_due fault (length begun + room) (begun ++ taken)) cut.lines;
  all_done = cut_all fault cut.left;
  at_end = λ e. absurd cc;
  found = cut_found fault false;
  within = omega (arith, within);
  past_limit = (λ e. absurd (cut_not_long fault e), λ e. absurd (omega (arith, within, e)));
  cause = cut_cause fault before after old new caused;
  ready = cut_left fault new left;
}

-- a fault in the last line, at the end of the source
pub ran_cut_last : {S : Type 0} (meaning : Meaning S) (fault : EngineFault) (begun : List ℕ) (from room : ℕ) (before after : SourceView) (old new : TakerView S) → Consumes before.left after.left [] → IsAtEnd after.left
    → CutLines meaning None (lines begun) from old new fault → IsCaused fault old new → IsLeftBy fault new
    → RanFrom meaning begun from room before after old new (ending_of fault)
ran_cut_last {S} meaning fault begun from room before after old new read end cut caused left = record {
  taken = [];
  read = read;
  whole = true;
  steps = cut.steps;
  begun = cut.begun;
  part = cut.part;
  left = cut.left;
  lines = rw (fault_back fault, append-nil begun) cut.lines;
  all_done = cut_all fault cut.left;
  at_end = λ e. end;
  found = cut_found fault true;
  within = omega arith;
  past_limit = (λ e. absurd (cut_not_long fault e), λ e. absurd (omega (arith, e)));
  cause = cut_cause fault before after old new caused;
  ready = cut_left fault new left;
}

-- ---- the end of the source

pub ran_done : {S : Type 0} (meaning : Meaning S) (begun : List ℕ) (from room : ℕ) (before after : SourceView) (old new : TakerView S) → Consumes before.left after.left [] → IsAtEnd after.left
    → DidLines meaning None (lines begun) from old new → IsTrue (is_ready new) → RanFrom meaning begun from room before after old new Done
ran_done meaning begun from room before after old new read end did left = record {
  taken = [];
  read = read;
  whole = true;
  steps = did.steps;
  begun = [];
  part = [];
  left = [];
  lines = rw (append-nil begun) did.lines;
  all_done = refl;
  at_end = λ e. end;
  found = refl;
  within = omega arith;
  past_limit = (λ e. absurd cc, λ e. absurd (omega (arith, e)));
  cause = tt;
  ready = left;
}

-- a line without end is no line that ended
none_ended : (begun : List ℕ) → IsOpenLine begun → ended_lines begun ≡ []
none_ended begun e = ap ended_parts e

no_lines : {S : Type 0} (meaning : Meaning S) (all : List (List ℕ)) (from : ℕ) (a : TakerView S) → all ≡ [] → Lines meaning None None all from a a [] [] [] []
no_lines meaning all from a none = record { went = went_none meaning a; took = sym none }

-- ---- a read failed

pub ran_read_fault : {S : Type 0} (meaning : Meaning S) (begun : List ℕ) (from room : ℕ) (before after : SourceView) (taker : TakerView S) → IsOpenLine begun → Consumes before.left after.left []
    → Rose before.read_faults after.read_faults → IsTrue (is_ready taker) → RanFrom meaning begun from room before after taker taker ReadFault
ran_read_fault meaning begun from room before after taker unended read rose left = record {
  taken = [];
  read = read;
  whole = false;
  steps = [];
  begun = [];
  part = [];
  left = [];
  lines = no_lines meaning (ended_lines (begun ++ [])) from taker (ap (λ (l : List ℕ). ended_lines l) (append-nil begun) ∙ none_ended begun unended);
  all_done = refl;
  at_end = λ e. absurd cc;
  found = refl;
  within = omega arith;
  past_limit = (λ e. absurd cc, λ e. absurd (omega (arith, e)));
  cause = rose;
  ready = left;
}

-- ---- past the limit

take_past : (x y : List ℕ) (k : ℕ) → take (length x + k) (x ++ y) ≡ x ++ take k y
take_past [] y k = let e : 0 + k ≡ k = omega arith in ap (λ n. take n y) e
take_past (b ∷ x) y k =
    let e : suc (length x) + k ≡ suc (length x + k) = omega arith in
    ap (λ n. take n (b ∷ (x ++ y))) e ∙ ap (λ (l : List ℕ). b ∷ l) (take_past x y k)

only_begun : (begun taken : List ℕ) → take (length begun + 0) (begun ++ taken) ≡ begun
only_begun begun taken = take_past begun taken 0 ∙ append-nil begun

pub ran_too_long : {S : Type 0} (meaning : Meaning S) (begun : List ℕ) (from : ℕ) (before after : SourceView) (taker : TakerView S) (taken : List ℕ) → IsOpenLine begun → Consumes before.left after.left taken → length taken ≡ 1 → IsTrue (is_ready taker)
    → RanFrom meaning begun from 0 before after taker taker TooLong
ran_too_long meaning begun from before after taker taken unended read one left = record {
  taken = taken;
  read = read;
  whole = false;
  steps = [];
  begun = [];
  part = [];
  left = [];
  lines = no_lines meaning (ended_lines (take (length begun + 0) (begun ++ taken))) from taker (ap (λ (l : List ℕ). ended_lines l) (only_begun begun taken) ∙ none_ended begun unended);
  all_done = refl;
  at_end = λ e. absurd cc;
  found = refl;
  within = omega (arith, one);
  past_limit = (λ e. omega (arith, one), λ e. refl);
  cause = tt;
  ready = left;
}

-- ---- a piece, and what follows it

-- the lines that are due of the whole are those that ended in the piece, and those due of the rest
due_on : (whole : Bool) (ending : Ending) (x y rest : List ℕ) (room : ℕ) → rest ≡ rest_of x → due_lines whole ending (length x + room) (x ++ y) ≡ ended_lines x ++ due_lines whole ending (length rest + room) (rest ++ y)
due_on true ending x y rest room is = lines-append x y ∙ ap (λ (l : List ℕ). ended_lines x ++ lines (l ++ y)) (sym is)
due_on false Done x y rest room is = ended-append x y ∙ ap (λ (l : List ℕ). ended_lines x ++ ended_lines (l ++ y)) (sym is)
due_on false DiskFault x y rest room is = ended-append x y ∙ ap (λ (l : List ℕ). ended_lines x ++ ended_lines (l ++ y)) (sym is)
due_on false SayFault x y rest room is = ended-append x y ∙ ap (λ (l : List ℕ). ended_lines x ++ ended_lines (l ++ y)) (sym is)
due_on false Memory x y rest room is = ended-append x y ∙ ap (λ (l : List ℕ). ended_lines x ++ ended_lines (l ++ y)) (sym is)
due_on false ReadFault x y rest room is = ended-append x y ∙ ap (λ (l : List ℕ). ended_lines x ++ ended_lines (l ++ y)) (sym is)
due_on false TooLong x y rest room is =
    ap (λ (l : List ℕ). ended_lines l) (take_past x y room) ∙ ended-append x (take room y) ∙ ap (λ (l : List ℕ). ended_lines x ++ ended_lines (l ++ take room y)) (sym is)
    ∙ ap (λ (l : List ℕ). ended_lines x ++ ended_lines l) (sym (take_past rest y room))

cause_on : {S : Type 0} (ending : Ending) (before mid after : SourceView) (old view new : TakerView S) → IsLater before mid old view → HasItsCause ending mid after view new → HasItsCause ending before after old new
cause_on Done before mid after old view new later h = tt
cause_on Memory before mid after old view new later h = tt
cause_on TooLong before mid after old view new later h = tt
cause_on ReadFault before mid after old view new later h = omega (arith, later.read, h)
cause_on SayFault before mid after old view new later h = omega (arith, later.say, h)
cause_on DiskFault before mid after old view new later h = omega (arith, later.disk, h)

lines_on : {S : Type 0} (meaning : Meaning S) (fault : Option EngineFault) {xs ys : List (List ℕ)} {n m : ℕ} {a b c : TakerView S} {left : List (List ℕ)} {steps begun : List (Step S)} {part : List ℕ} → (did : DidLines meaning None xs n a b) → m ≡ n + length xs
    → Lines meaning fault None ys m b c left steps begun part → Lines meaning fault None (xs ++ ys) n a c left (did.steps ++ steps) begun part
lines_on {S} meaning fault {xs} {ys} {n} {m} {a} {b} {c} {left} {steps} {begun} {part} did count next =
    let P : ℕ → Type 0 = λ k. Lines meaning fault None ys k b c left steps begun part in
    joined meaning fault did (subst P count next)

pub ran_on : {S : Type 0} (meaning : Meaning S) (begun : List ℕ) (from room : ℕ) (rest : List ℕ) (number room_now : ℕ) (before mid after : SourceView) (old view new : TakerView S) (ending : Ending) → IsLater before mid old view
    → ReadOn meaning begun from room rest number room_now before mid old view → RanFrom meaning rest number room_now mid after view new ending → RanFrom meaning begun from room before after old new ending
ran_on {S} meaning begun from room rest number room_now before mid after old view new ending later on ran =
    let whole : begun ++ (on.piece ++ ran.taken) ≡ (begun ++ on.piece) ++ ran.taken = sym (append_assoc begun on.piece ran.taken) in
    let long : length (begun ++ on.piece) + room_now ≡ length begun + room = omega (arith, length-append begun on.piece, on.room) in
    let due : due_lines ran.whole ending (length begun + room) (begun ++ (on.piece ++ ran.taken)) ≡ ended_lines (begun ++ on.piece) ++ due_lines ran.whole ending (length rest + room_now) (rest ++ ran.taken) =
    ap (λ (l : List ℕ). due_lines ran.whole ending (length begun + room) l) whole ∙ ap (λ n. due_lines ran.whole ending n ((begun ++ on.piece) ++ ran.taken)) (sym long)
    ∙ due_on ran.whole ending (begun ++ on.piece) ran.taken rest room_now on.line in
    record {
      taken = on.piece ++ ran.taken;
      read = Consumes-trans before.left mid.left after.left on.piece ran.taken on.read ran.read;
      whole = ran.whole;
      steps = on.did.steps ++ ran.steps;
      begun = ran.begun;
      part = ran.part;
      left = ran.left;
      lines = rw due (lines_on meaning (fault_of ending) on.did on.number ran.lines);
      all_done = ran.all_done;
      at_end = ran.at_end;
      found = ran.found;
      within = omega (arith, length-append on.piece ran.taken, on.room, ran.within);
      past_limit = (λ e. omega (arith, length-append on.piece ran.taken, on.room, ran.past_limit.0 e), λ e. ran.past_limit.1 (omega (arith, length-append on.piece ran.taken, on.room, e)));
      cause = cause_on ending before mid after old view new later ran.cause;
      ready = ran.ready;
    }
