-- Lines over a text that comes in pieces.
use Rattle.std.proofs.Common.{◌≡◌, ℕ, ◌+◌, List, [], ◌++◌, length, None, refl, sym, ap, ◌∙◌, subst, arith, append_assoc, append-nil, length-append}
use Rattle.std.specs.Str.Lines.{lines}
use Rattle.std.proofs.KnownBytes.{Consumes-nil, Consumes-trans}
use Rattle.script_runs.specs.Lines.{ended_lines, rest_of}
use Rattle.script_runs.specs.TakerView.{TakerView}
use Rattle.script_runs.specs.Taken.{Meaning, DidLines, CutLines}
use Rattle.script_runs.specs.Script.{SourceView, ReadOn}
use Rattle.script_runs.specs.declared.taker.EngineFault.{EngineFault}
use Rattle.script_runs.proofs.LineLemmas.{ended-append, lines-append, rest-append}
use Rattle.script_runs.proofs.Joined.{did_none, did_then_did, did_then_cut, cut_more}

-- the lines that ended in x are done; then come those that end in y
pub did_more : {S : Type 0} {meaning : Meaning S} {n : ℕ} {a b c : TakerView S} → (x y rest : List ℕ) (m : ℕ) → rest ≡ rest_of x → m ≡ n + length (ended_lines x)
    → DidLines meaning None (ended_lines x) n a b → DidLines meaning None (ended_lines (rest ++ y)) m b c → DidLines meaning None (ended_lines (x ++ y)) n a c
did_more {S} {meaning} {n} {a} {b} {c} x y rest m is count first next =
    let P : List ℕ → Type 0 = λ r. DidLines meaning None (ended_lines (r ++ y)) m b c in
    let Q : ℕ → Type 0 = λ k. DidLines meaning None (ended_lines (rest_of x ++ y)) k b c in
    rw (ended-append x y) (did_then_did first (subst Q count (subst P is next)))

pub cut_after : {S : Type 0} {meaning : Meaning S} {n : ℕ} {a b c : TakerView S} {fault : EngineFault} → (x y rest : List ℕ) (m : ℕ) → rest ≡ rest_of x → m ≡ n + length (ended_lines x)
    → DidLines meaning None (ended_lines x) n a b → CutLines meaning None (ended_lines (rest ++ y)) m b c fault → CutLines meaning None (ended_lines (x ++ y)) n a c fault
cut_after {S} {meaning} {n} {a} {b} {c} {fault} x y rest m is count first next =
    let P : List ℕ → Type 0 = λ r. CutLines meaning None (ended_lines (r ++ y)) m b c fault in
    let Q : ℕ → Type 0 = λ k. CutLines meaning None (ended_lines (rest_of x ++ y)) k b c fault in
    rw (ended-append x y) (did_then_cut first (subst Q count (subst P is next)))

pub cut_in_front : {S : Type 0} {meaning : Meaning S} {n : ℕ} {a b : TakerView S} {fault : EngineFault} → (x y : List ℕ) → CutLines meaning None (ended_lines x) n a b fault → CutLines meaning None (ended_lines (x ++ y)) n a b fault
cut_in_front x y stop = rw (ended-append x y) (cut_more (ended_lines (rest_of x ++ y)) stop)

pub cut_in_lines : {S : Type 0} {meaning : Meaning S} {n : ℕ} {a b : TakerView S} {fault : EngineFault} → (x : List ℕ) → CutLines meaning None (ended_lines x) n a b fault → CutLines meaning None (lines x) n a b fault
cut_in_lines {S} {meaning} {n} {a} {b} {fault} x stop =
    let P : List (List ℕ) → Type 0 = λ all. CutLines meaning None all n a b fault in
    let whole : ended_lines x ++ lines (rest_of x ++ []) ≡ lines x = sym (lines-append x []) ∙ ap (λ (l : List ℕ). lines l) (append-nil x) in
    subst P whole (cut_more (lines (rest_of x ++ [])) stop)

pub number_more : (n m k : ℕ) (x y rest : List ℕ) → rest ≡ rest_of x → m ≡ n + length (ended_lines x) → k ≡ m + length (ended_lines (rest ++ y)) → k ≡ n + length (ended_lines (x ++ y))
number_more n m k x y rest is count more =
    let e : length (ended_lines (x ++ y)) ≡ length (ended_lines x) + length (ended_lines (rest_of x ++ y)) = ap (λ (l : List (List ℕ)). length l) (ended-append x y) ∙ length-append (ended_lines x) (ended_lines (rest_of x ++ y)) in
    let f : length (ended_lines (rest ++ y)) ≡ length (ended_lines (rest_of x ++ y)) = ap (λ (l : List ℕ). length (ended_lines (l ++ y))) is in
    omega (arith, e, f, count, more)

pub rest_more : (x y rest next : List ℕ) → rest ≡ rest_of x → next ≡ rest_of (rest ++ y) → next ≡ rest_of (x ++ y)
rest_more x y rest next is more = more ∙ ap (λ (l : List ℕ). rest_of (l ++ y)) is ∙ sym (rest-append x y)

-- no piece
pub read_none : {S : Type 0} (meaning : Meaning S) (most : ℕ) (source : SourceView) (view : TakerView S) → ReadOn meaning [] 1 most [] 1 most source source view view
read_none meaning most source view = record { piece = []; read = Consumes-nil source.left; room = omega arith; line = refl; number = omega arith; did = did_none meaning None 1 view }

-- one piece, and another
pub read_then : {S : Type 0} (meaning : Meaning S) {begun line next : List ℕ} {from number count most room left : ℕ} {before mid after : SourceView} {old view new : TakerView S} → ReadOn meaning begun from most line number room before mid old view
    → ReadOn meaning line number room next count left mid after view new → ReadOn meaning begun from most next count left before after old new
read_then {S} meaning {begun} {line} {next} {from} {number} {count} {most} {room} {left} {before} {mid} {after} {old} {view} {new} first second =
    let whole : begun ++ (first.piece ++ second.piece) ≡ (begun ++ first.piece) ++ second.piece = sym (append_assoc begun first.piece second.piece) in
    record {
      piece = first.piece ++ second.piece;
      read = Consumes-trans before.left mid.left after.left first.piece second.piece first.read second.read;
      room = omega (arith, first.room, second.room, length-append first.piece second.piece);
      line = rw whole (rest_more (begun ++ first.piece) second.piece line next first.line second.line);
      number = rw whole (number_more from number count (begun ++ first.piece) second.piece line first.line first.number second.number);
      did = rw whole (did_more (begun ++ first.piece) second.piece line number first.line first.number first.did second.did);
    }
