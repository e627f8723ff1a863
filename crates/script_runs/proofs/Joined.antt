-- Lines that are done, and then more lines; and one line, event by event.
use Rattle.std.proofs.Common.{ℕ, ◌+◌, Bool, true, false, List, [], ◌∷◌, ◌++◌, length, Option, None, Some, ⊎_elim, refl, sym, subst, arith, append_assoc, append-nil}
use Rattle.script_runs.specs.Language.{Step, AreOnLines}
use Rattle.script_runs.specs.TakerView.{TakerView, LeavesTold}
use Rattle.script_runs.specs.Taken.{Meaning, Began, Goes, Went, TookOne, CutOne, Lines, DidLines, CutLines}
use Rattle.script_runs.specs.declared.taker.EngineFault.{EngineFault}
use Rattle.script_runs.specs.declared.taker.EngineFault.TheVariants.{DiskFault, SayFault, Memory}
use Rattle.script_runs.proofs.Runs.{on_lines-append, on_lines-more, on_lines-again, on_lines-one}
use Rattle.script_runs.proofs.Goings.{went_none, went_one, went_no_event, went_then}

-- no line
pub did_none : {S : Type 0} (meaning : Meaning S) (s : Option ℕ) (n : ℕ) (a : TakerView S) → DidLines meaning s [] n a a
did_none meaning s n a = record { steps = []; lines = record { went = went_none meaning a; took = refl } }

pub joined : {S : Type 0} (meaning : Meaning S) (fault : Option EngineFault) {s : Option ℕ} {xs ys : List (List ℕ)} {n : ℕ} {a b c : TakerView S} {left : List (List ℕ)} {steps begun : List (Step S)} {part : List ℕ} → (first : DidLines meaning s xs n a b)
    → Lines meaning fault s ys (n + length xs) b c left steps begun part → Lines meaning fault s (xs ++ ys) n a c left (first.steps ++ steps) begun part
joined {S} meaning fault {s} {xs} {ys} {n} {a} {b} {c} {left} {steps} {begun} {part} first next =
    let P : List (Step S) → Type 0 = λ l. AreOnLines s (xs ++ ys) n l left in
    let Q : List (Step S) → Type 0 = λ l. AreOnLines s xs n l [] in
    record {
      went = went_then meaning fault a b c first.steps steps begun part first.lines.went next.went;
      took = subst P (sym (append_assoc first.steps steps begun)) (on_lines-append s xs n first.steps ys (steps ++ begun) left (subst Q (append-nil first.steps) first.lines.took) next.took);
    }

pub did_then_did : {S : Type 0} {meaning : Meaning S} {s : Option ℕ} {xs ys : List (List ℕ)} {n : ℕ} {a b c : TakerView S} → DidLines meaning s xs n a b → DidLines meaning s ys (n + length xs) b c → DidLines meaning s (xs ++ ys) n a c
did_then_did {S} {meaning} first next = record { steps = first.steps ++ next.steps; lines = joined meaning None first next.lines }

pub did_then_cut : {S : Type 0} {meaning : Meaning S} {s : Option ℕ} {xs ys : List (List ℕ)} {n : ℕ} {a b c : TakerView S} {fault : EngineFault} → DidLines meaning s xs n a b → CutLines meaning s ys (n + length xs) b c fault → CutLines meaning s (xs ++ ys) n a c fault
did_then_cut {S} {meaning} {fault = fault} first next = record { steps = first.steps ++ next.steps; begun = next.begun; part = next.part; left = next.left; lines = joined meaning (Some fault) first next.lines }

-- more lines that weren't reached
pub cut_more : {S : Type 0} {meaning : Meaning S} {s : Option ℕ} {xs : List (List ℕ)} {n : ℕ} {a b : TakerView S} {fault : EngineFault} → (more : List (List ℕ)) → CutLines meaning s xs n a b fault → CutLines meaning s (xs ++ more) n a b fault
cut_more {S} {meaning} {s} {xs} {n} {a} {b} {fault} more cut = record {
  steps = cut.steps;
  begun = cut.begun;
  part = cut.part;
  left = cut.left ++ more;
  lines = record { went = cut.lines.went; took = on_lines-more s xs n (cut.steps ++ cut.begun) cut.left more cut.lines.took };
}

-- want of memory before the next line
pub cut_none : {S : Type 0} (meaning : Meaning S) (s : Option ℕ) (n : ℕ) (a : TakerView S) → CutLines meaning s [] n a a Memory
cut_none meaning s n a =
    let none = went_none meaning a in
    record {
      steps = [];
      begun = [];
      part = [];
      left = [];
      lines = record {
        went = record {
          goes = record {
            run = none.goes.run;
            speaks = none.goes.speaks;
            tells = none.goes.tells;
            least = λ start is kept. omega arith;
            first = tt;
            still = λ e kept. refl;
            began = (refl, refl);
            text = none.goes.text;
            stops = none.goes.stops;
            room = none.goes.room;
          };
          on_site = none.on_site;
        };
        took = refl;
      };
    }

-- ---- one line, event by event

-- a line was taken some times, and isn't done
pub record NotYetDone {S : Type 0} (meaning : Meaning S) (script : Option ℕ) (line : List ℕ) (number : ℕ) (old new : TakerView S) : Type 0 where
  pub steps : List (Step S)
  pub went : Went meaning None old new steps [] []
  pub took : AreOnLines script (line ∷ []) number steps (line ∷ [])

pub not_yet_none : {S : Type 0} (meaning : Meaning S) (s : Option ℕ) (l : List ℕ) (n : ℕ) (a : TakerView S) → NotYetDone meaning s l n a a
not_yet_none meaning s l n a = record { steps = []; went = went_none meaning a; took = refl }

took_went : {S : Type 0} (meaning : Meaning S) {s : Option ℕ} {l : List ℕ} {n : ℕ} {b c : TakerView S} {finished : Bool} → LeavesTold meaning.keeping b → (next : TookOne meaning s n l b c finished) → Went meaning None b c (next.step ∷ []) [] []
took_went meaning {b = b} {c = c} told next = went_one meaning None b c next.step (next.step ∷ []) [] [] told refl next.goes

pub not_yet_more : {S : Type 0} {meaning : Meaning S} {s : Option ℕ} {l : List ℕ} {n : ℕ} {a b c : TakerView S} → LeavesTold meaning.keeping b → NotYetDone meaning s l n a b → TookOne meaning s n l b c false → NotYetDone meaning s l n a c
not_yet_more {S} {meaning} {s} {l} {n} {a} {b} {c} told first next = record {
  steps = first.steps ++ next.step ∷ [];
  went = went_then meaning None a b c first.steps (next.step ∷ []) [] [] first.went (took_went meaning told next);
  took = on_lines-again s l n first.steps (next.step ∷ []) (l ∷ []) first.took (on_lines-one s l n next.step false (l ∷ []) next.of next.done refl);
}

pub did_line : {S : Type 0} {meaning : Meaning S} {s : Option ℕ} {l : List ℕ} {n : ℕ} {a b c : TakerView S} → LeavesTold meaning.keeping b → NotYetDone meaning s l n a b → TookOne meaning s n l b c true → DidLines meaning s (l ∷ []) n a c
did_line {S} {meaning} {s} {l} {n} {a} {b} {c} told first next =
    let all = first.steps ++ next.step ∷ [] in
    let P : List (Step S) → Type 0 = λ steps. AreOnLines s (l ∷ []) n steps [] in
    record {
      steps = all;
      lines = record {
        went = went_then meaning None a b c first.steps (next.step ∷ []) [] [] first.went (took_went meaning told next);
        took = subst P (sym (append-nil all)) (on_lines-again s l n first.steps (next.step ∷ []) [] first.took (on_lines-one s l n next.step true [] next.of next.done refl));
      };
    }

cut_went : {S : Type 0} (meaning : Meaning S) (fault : EngineFault) (b c : TakerView S) (begun : List (Step S)) (part : List ℕ) → LeavesTold meaning.keeping b → Began (Some fault) begun part → Goes meaning (Some fault) b c [] begun part → Went meaning (Some fault) b c [] begun part
cut_went meaning Memory b c begun part told began goes = went_no_event meaning (Some Memory) b c [] begun part began.0 goes
cut_went meaning SayFault b c begun part told began goes = went_one meaning (Some SayFault) b c began.0 [] begun part told began.1 goes
cut_went meaning DiskFault b c begun part told began goes =
    ⊎_elim (λ none. went_no_event meaning (Some DiskFault) b c [] begun part none.0 goes) (λ one. went_one meaning (Some DiskFault) b c one.0 [] begun part told one.1 goes) began.1

pub cut_line : {S : Type 0} {meaning : Meaning S} {s : Option ℕ} {l : List ℕ} {n : ℕ} {a b c : TakerView S} {fault : EngineFault} → LeavesTold meaning.keeping b → NotYetDone meaning s l n a b → CutOne meaning s n l b c fault → CutLines meaning s (l ∷ []) n a c fault
cut_line {S} {meaning} {s} {l} {n} {a} {b} {c} {fault} told first next =
    let P : List (Step S) → Type 0 = λ steps. AreOnLines s (l ∷ []) n (steps ++ next.begun) next.left in
    let Q : List (Step S) → Type 0 = λ steps. Went meaning (Some fault) a c steps next.begun next.part in
    record {
      steps = first.steps;
      begun = next.begun;
      part = next.part;
      left = next.left;
      lines = record {
        went = subst Q (append-nil first.steps) (went_then meaning (Some fault) a b c first.steps [] next.begun next.part first.went (cut_went meaning fault b c next.begun next.part told next.goes.began next.goes));
        took = on_lines-again s l n first.steps next.begun next.left first.took next.took;
      };
    }
