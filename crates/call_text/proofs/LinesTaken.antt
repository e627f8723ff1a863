-- What is read is spelled so: the forms, and the line.
use Rattle.hal_base.specs.Reading.{◌>>=◌}
use Rattle.hal_base.specs.Bytes.{is_printable}
use Rattle.hal_base.specs.Numbers.{number_of}
use Rattle.std.proofs.Common.{◌≡◌, ℕ, ◌<◌, ◌≤◌, ◌||◌, Bool, true, false, cond, nat_lt, ◌==◌, List, [], ◌∷◌, ◌++◌, length, Option, Some, None, Result, Ok, Err, refl, sym, ap, subst, ◌∙◌, append_assoc, arith, codes}
use Rattle.std.specs.List.{list_all, take_while}
use Rattle.std.specs.Str.{bytes_eq}
use Rattle.std.proofs.lemmas.Bool.{eqb-true, ltb-false}
use Rattle.std.proofs.lemmas.Slice.Eq.{bytes_eq-Decides}
use Rattle.std.proofs.lemmas.List.{append-nil}
use Rattle.call_text.specs.declared.fault.Fault.{Fault}
use Rattle.call_text.specs.declared.fault.Fault.TheVariants as faults
use Rattle.call_text.specs.declared.line.Value.{Value}
use Rattle.call_text.specs.declared.line.Call.{Call}
use Rattle.call_text.specs.declared.line.Open.{Open}
use Rattle.call_text.specs.declared.line.Command.{Command}
use Rattle.call_text.specs.declared.line.Command.TheVariants.{Start, Step, Pause, Resume, Finish, Query}
use Rattle.call_text.specs.declared.line.Line.{Line}
use Rattle.call_text.specs.declared.line.Line.TheVariants as lines
use Rattle.call_text.specs.Words.{is_blank, past, in_word, is_number, is_count, is_reserved, is_silent}
use Rattle.call_text.specs.Printed.{command_word, HasForm}
use Rattle.call_text.specs.Spelling.{IsGap, IsRoom, SpellsName, SpellsGiven, SpellsCall, SpellsIndex, SpellsOpen, SpellsCount, SpellsReorg, SpellsForm, Spells}
use Rattle.call_text.specs.Reading.{name_at, word_at, value_at, begins_word, is_end, ssas_at, given_at, call_at, session_at, index_at, open_at, count_at, plain_command, or_form, command_at, reorg_at, form_at, line_or_cause, line_of}
use Rattle.call_text.proofs.Runs.{Stops}
use Rattle.call_text.proofs.ValuesPrinted.{Prints}
use Rattle.call_text.proofs.Taken.{bind_ok, passed, refused, ok_is, parts_of, blanks_of, past_prints, prints_parts, WordTaken, name_taken, word_taken, room_of, run_begins, value_taken}
use Rattle.call_text.proofs.ClausesTaken.{ssas_taken}

-- nothing but blanks
end_gap : (text : List ℕ) → past is_blank text ≡ [] → IsGap text
end_gap text e =
    let is : text ≡ take_while is_blank text = parts_of is_blank text ∙ ap (λ (t : List ℕ). take_while is_blank text ++ t) e ∙ append-nil (take_while is_blank text) in
    subst IsGap (sym is) (blanks_of text)

abbrev some_value : Value → Result (Option Value) Fault
some_value value = Ok (Some value)

given_behind : (text tail : List ℕ) (content : Option Value) → Prints tail → past is_blank text ≡ 58 ∷ tail → (value_at (past is_blank tail) >>= λ value. cond (is_end value.1) (some_value value.0) (Err faults.Form)) ≡ Ok content → SpellsGiven text content
given_behind text tail content prints is e =
    let a = bind_ok (value_at (past is_blank tail)) (λ value. cond (is_end value.1) (some_value value.0) (Err faults.Form)) content e in
    let p = passed (is_end a.0.1) faults.Form (Some a.0.0) content a.2 in
    let v = value_taken (past is_blank tail) a.0.0 a.0.1 (past_prints tail prints) a.1 in
    let before = take_while is_blank text in
    let after = take_while is_blank tail in
    let whole : text ≡ before ++ 58 ∷ (after ++ (v.written ++ a.0.1)) = parts_of is_blank text ∙ ap (λ (t : List ℕ). before ++ t) is ∙ ap (λ (t : List ℕ). before ++ 58 ∷ t) (parts_of is_blank tail ∙ ap (λ (t : List ℕ). after ++ t) v.whole) in
    subst (SpellsGiven text) p.1 (before, after, v.written, a.0.1, blanks_of text, blanks_of tail, v.spells, p.0, whole)

given_taken : (text : List ℕ) (content : Option Value) → Prints text → given_at (past is_blank text) ≡ Ok content → SpellsGiven text content
unfolding given_at
given_taken text content prints e = by_rest (past is_blank text) refl e
  where
    by_rest : (rest : List ℕ) → past is_blank text ≡ rest → given_at rest ≡ Ok content → SpellsGiven text content
    by_rest [] is h =
        let made : None ≡ content = cc in
        subst (SpellsGiven text) made (end_gap text is)
    by_rest (b ∷ tail) is h = by_case (b == 58) refl h
      where
        by_case : (v : Bool) → (b == 58) ≡ v → cond v (value_at (past is_blank tail) >>= λ value. cond (is_end value.1) (some_value value.0) (Err faults.Form)) (Err faults.Form) ≡ Ok content → SpellsGiven text content
        by_case true colon k =
            let inner : Prints tail = (prints_parts (b ∷ []) tail (past is_blank text) is (past_prints text prints)).1 in
            given_behind text tail content inner (is ∙ ap (λ (x : ℕ). x ∷ tail) (eqb-true b 58 colon)) k
        by_case false colon k = absurd cc

-- ---- calls

call_taken : (written session text : List ℕ) (line : Line) → SpellsName written session → is_reserved session ≡ false → Stops in_word text → Prints text → call_at session text ≡ Ok line → SpellsForm (written ++ text) line
unfolding call_at
call_taken written session text line name free stops prints e =
    let a = bind_ok (word_at (past is_blank text)) (λ func. ssas_at (length func.1) func.1 >>= λ ssas. given_at (past is_blank ssas.1) >>= λ content. Ok (lines.Call (record { session = session; func = func.0; ssas = ssas.0; content = content }))) line e in
    let b = bind_ok (ssas_at (length a.0.1) a.0.1) (λ ssas. given_at (past is_blank ssas.1) >>= λ content. Ok (lines.Call (record { session = session; func = a.0.0; ssas = ssas.0; content = content }))) line a.2 in
    let c = bind_ok (given_at (past is_blank b.0.1)) (λ content. Ok (lines.Call (record { session = session; func = a.0.0; ssas = b.0.0; content = content }))) line b.2 in
    let func = word_taken (past is_blank text) a.0.0 a.0.1 (past_prints text prints) a.1 in
    let ssas = ssas_taken (length a.0.1) a.0.1 b.0.0 b.0.1 func.taken.prints b.1 in
    let room = take_while is_blank text in
    let read : Call = record { session = session; func = a.0.0; ssas = b.0.0; content = c.0 } in
    let whole : text ≡ room ++ (func.taken.written ++ (ssas.written ++ b.0.1)) = parts_of is_blank text ∙ ap (λ (t : List ℕ). room ++ t) (func.taken.whole ∙ ap (λ (t : List ℕ). func.taken.written ++ t) ssas.whole) in
    let spells : SpellsCall (written ++ text) read = record {
      session = written;
      room = room;
      func = func.taken.written;
      ssas = ssas.written;
      content = b.0.1;
      whole = ap (λ (t : List ℕ). written ++ t) whole;
      session_is = name;
      free = free;
      room_is = room_of text stops func.begins;
      func_is = func.taken.spells;
      ssas_is = ssas.spells;
      content_is = given_taken b.0.1 c.0 ssas.prints c.1;
    } in
    subst (SpellsForm (written ++ text)) (ok_is (lines.Call read) line c.2) spells

-- ---- opens

record SessionTaken (text name rest : List ℕ) : Type 0 where
  name_is : WordTaken (λ w. SpellsName w name) text rest
  free : is_reserved name ≡ false

session_taken : (text name rest : List ℕ) → Prints text → session_at text ≡ Ok (name, rest) → SessionTaken text name rest
unfolding session_at
session_taken text name rest prints e =
    let a = bind_ok (name_at text) (λ n. cond (is_reserved n.0) (Err faults.Form) (Ok (n.0, n.1))) (name, rest) e in
    let p = refused (is_reserved a.0.0) faults.Form (a.0.0, a.0.1) (name, rest) a.2 in
    subst (λ (x : List ℕ × List ℕ). SessionTaken text x.0 x.1) p.1 (record { name_is = name_taken text a.0.0 a.0.1 prints a.1; free = p.0 })

abbrev an_index : List ℕ → Option (List ℕ)
an_index name = Some name

index_taken : (text : List ℕ) (index : Option (List ℕ)) → Stops in_word text → Prints text → index_at (past is_blank text) ≡ Ok index → SpellsIndex text index
unfolding index_at
index_taken text index stops prints e = by_rest (past is_blank text) refl e
  where
    by_rest : (rest : List ℕ) → past is_blank text ≡ rest → index_at rest ≡ Ok index → SpellsIndex text index
    by_rest [] is h =
        let made : None ≡ index = cc in
        subst (SpellsIndex text) made (end_gap text is)
    by_rest (b ∷ tail) is h =
        let a = bind_ok (name_at (b ∷ tail)) (λ name. cond (is_end name.1) (Ok (an_index name.0)) (Err faults.Form)) index h in
        let p = passed (is_end a.0.1) faults.Form (an_index a.0.0) index a.2 in
        let inner : Prints (b ∷ tail) = subst Prints is (past_prints text prints) in
        let name = name_taken (b ∷ tail) a.0.0 a.0.1 inner a.1 in
        let room = take_while is_blank text in
        let room_is : IsRoom room = room_of text stops (ap begins_word is ∙ name.begins) in
        let whole : text ≡ room ++ (name.taken.written ++ a.0.1) = parts_of is_blank text ∙ ap (λ (t : List ℕ). room ++ t) (is ∙ name.taken.whole) in
        subst (SpellsIndex text) p.1 (room, name.taken.written, a.0.1, room_is, name.taken.spells, p.0, whole)

open_taken : (written text : List ℕ) (line : Line) → SpellsName written (codes "PCB") → Stops in_word text → Prints text → open_at text ≡ Ok line → SpellsForm (written ++ text) line
unfolding open_at
open_taken written text line name stops prints e =
    let a = bind_ok (session_at (past is_blank text)) (λ session. word_at (past is_blank session.1) >>= λ options. index_at (past is_blank options.1) >>= λ index. Ok (lines.Open (record { session = session.0; options = options.0; index = index }))) line e in
    let b = bind_ok (word_at (past is_blank a.0.1)) (λ options. index_at (past is_blank options.1) >>= λ index. Ok (lines.Open (record { session = a.0.0; options = options.0; index = index }))) line a.2 in
    let c = bind_ok (index_at (past is_blank b.0.1)) (λ index. Ok (lines.Open (record { session = a.0.0; options = b.0.0; index = index }))) line b.2 in
    let session = session_taken (past is_blank text) a.0.0 a.0.1 (past_prints text prints) a.1 in
    let options = word_taken (past is_blank a.0.1) b.0.0 b.0.1 (past_prints a.0.1 session.name_is.taken.prints) b.1 in
    let first = take_while is_blank text in
    let second = take_while is_blank a.0.1 in
    let read : Open = record { session = a.0.0; options = b.0.0; index = c.0 } in
    let behind_session : a.0.1 ≡ second ++ (options.taken.written ++ b.0.1) = parts_of is_blank a.0.1 ∙ ap (λ (t : List ℕ). second ++ t) options.taken.whole in
    let whole : text ≡ first ++ (session.name_is.taken.written ++ (second ++ (options.taken.written ++ b.0.1))) = parts_of is_blank text ∙ ap (λ (t : List ℕ). first ++ t) (session.name_is.taken.whole ∙ ap (λ (t : List ℕ). session.name_is.taken.written ++ t) behind_session) in
    let spells : SpellsOpen (written ++ text) read = record {
      word = written;
      first = first;
      session = session.name_is.taken.written;
      second = second;
      options = options.taken.written;
      index = b.0.1;
      whole = ap (λ (t : List ℕ). written ++ t) whole;
      word_is = name;
      first_is = room_of text stops session.name_is.begins;
      session_is = session.name_is.taken.spells;
      free = session.free;
      second_is = room_of a.0.1 session.name_is.stops options.begins;
      options_is = options.taken.spells;
      index_is = index_taken b.0.1 c.0 options.stops options.taken.prints c.1;
    } in
    subst (SpellsForm (written ++ text)) (ok_is (lines.Open read) line c.2) spells

-- ---- commands

pub same_bytes : (a b : List ℕ) → bytes_eq a b ≡ true → a ≡ b
same_bytes a b h = (bytes_eq-Decides a b).0 h

-- the command of a word, and the count behind the partition
record CommandTaken (word text : List ℕ) (command : Command) (rest : List ℕ) : Type 0 where
  word_is : word ≡ command_word command
  count : List ℕ
  whole : text ≡ count ++ rest
  spells : SpellsCount count command

abbrev ReadCommand : Type 0
ReadCommand = Command × List ℕ

abbrev some_command : Command → List ℕ → ReadCommand
some_command command rest = (command, rest)

pub number_begins : (text : List ℕ) → is_number (take_while in_word text) ≡ true → begins_word text ≡ true
number_begins text h = run_begins text (some (take_while in_word text) h)
  where
    some : (digits : List ℕ) → is_number digits ≡ true → 0 < length digits
    some [] k = absurd cc
    some (d ∷ digits) k = omega arith

abbrev a_count : ℕ → List ℕ → Result (ℕ × List ℕ) Fault
a_count groups rest = Ok (groups, rest)

count_taken : (text : List ℕ) (groups : ℕ) (rest : List ℕ) → Stops in_word text → count_at (past is_blank text) ≡ Ok (groups, rest) → CommandTaken (codes "STEP") text (Step groups) rest
unfolding count_at
count_taken text groups rest stops e = by_case (is_number digits) refl e
  where
    inner : List ℕ
    inner = past is_blank text

    digits : List ℕ
    digits = take_while in_word inner

    by_case : (v : Bool) → is_number digits ≡ v → cond v (cond (is_count digits) (a_count (number_of digits) (past in_word inner)) (Err faults.Count)) (Err faults.Form) ≡ Ok (groups, rest) → CommandTaken (codes "STEP") text (Step groups) rest
    by_case true number h =
        let p = passed (is_count digits) faults.Count (number_of digits, past in_word inner) (groups, rest) h in
        let groups_is : number_of digits ≡ groups = ap (λ (x : ℕ × List ℕ). x.0) p.1 in
        let rest_is : past in_word inner ≡ rest = ap (λ (x : ℕ × List ℕ). x.1) p.1 in
        let room = take_while is_blank text in
        let room_is : IsRoom room = room_of text stops (number_begins inner number) in
        let whole : text ≡ (room ++ digits) ++ rest = parts_of is_blank text ∙ ap (λ (t : List ℕ). room ++ t) (parts_of in_word inner ∙ ap (λ (t : List ℕ). digits ++ t) rest_is) ∙ sym (append_assoc room digits rest) in
        record { word_is = refl; count = room ++ digits; whole = whole; spells = (room, digits, room_is, number, p.0, sym groups_is, refl) }
    by_case false number h = absurd cc

plain_taken : (word text : List ℕ) (command : Command) (rest : List ℕ) → or_form (plain_command word) text ≡ Ok (command, rest) → CommandTaken word text command rest
plain_taken word text command rest e = by_case (bytes_eq word (codes "START")) (bytes_eq word (codes "PAUSE")) (bytes_eq word (codes "RESUME")) (bytes_eq word (codes "FINISH")) (bytes_eq word (codes "QUERY")) refl refl refl refl refl e
  where
    known : (c : Command) → word ≡ command_word c → SpellsCount [] c → or_form (Some c) text ≡ Ok (command, rest) → CommandTaken word text command rest
    known c is spells h =
        let made : some_command c text ≡ some_command command rest = ok_is (some_command c text) (some_command command rest) h in
        subst (λ (x : ReadCommand). CommandTaken word text x.0 x.1) made (record { word_is = is; count = []; whole = refl; spells = spells })

    by_case : (s p r f q : Bool) → bytes_eq word (codes "START") ≡ s → bytes_eq word (codes "PAUSE") ≡ p → bytes_eq word (codes "RESUME") ≡ r → bytes_eq word (codes "FINISH") ≡ f → bytes_eq word (codes "QUERY") ≡ q
        → or_form (cond s (Some Start) (cond p (Some Pause) (cond r (Some Resume) (cond f (Some Finish) (cond q (Some Query) None))))) text ≡ Ok (command, rest) → CommandTaken word text command rest
    by_case true p r f q es ep er ef eq h = known Start (same_bytes word (codes "START") es) refl h
    by_case false true r f q es ep er ef eq h = known Pause (same_bytes word (codes "PAUSE") ep) refl h
    by_case false false true f q es ep er ef eq h = known Resume (same_bytes word (codes "RESUME") er) refl h
    by_case false false false true q es ep er ef eq h = known Finish (same_bytes word (codes "FINISH") ef) refl h
    by_case false false false false true es ep er ef eq h = known Query (same_bytes word (codes "QUERY") eq) refl h
    by_case false false false false false es ep er ef eq h = absurd cc

abbrev a_step : ℕ → List ℕ → Result ReadCommand Fault
a_step groups rest = Ok (Step groups, rest)

command_taken : (word text : List ℕ) (command : Command) (rest : List ℕ) → Stops in_word text → command_at word text ≡ Ok (command, rest) → CommandTaken word text command rest
unfolding command_at
command_taken word text command rest stops e = by_case (bytes_eq word (codes "STEP")) refl e
  where
    by_case : (v : Bool) → bytes_eq word (codes "STEP") ≡ v → cond v (count_at (past is_blank text) >>= λ count. a_step count.0 count.1) (or_form (plain_command word) text) ≡ Ok (command, rest) → CommandTaken word text command rest
    by_case true is h =
        let a = bind_ok (count_at (past is_blank text)) (λ count. a_step count.0 count.1) (some_command command rest) h in
        let made : some_command (Step a.0.0) a.0.1 ≡ some_command command rest = ok_is (some_command (Step a.0.0) a.0.1) (some_command command rest) a.2 in
        subst (λ (w : List ℕ). CommandTaken w text command rest) (sym (same_bytes word (codes "STEP") is)) (subst (λ (x : ReadCommand). CommandTaken (codes "STEP") text x.0 x.1) made (count_taken text a.0.0 a.0.1 stops a.1))
    by_case false is h = plain_taken word text command rest h

reorg_taken : (written text : List ℕ) (line : Line) → SpellsName written (codes "REORG") → Stops in_word text → Prints text → reorg_at text ≡ Ok line → SpellsForm (written ++ text) line
unfolding reorg_at
reorg_taken written text line name stops prints e =
    let a = bind_ok (name_at (past is_blank text)) (λ word. name_at (past is_blank word.1) >>= λ part. command_at word.0 part.1 >>= λ command. cond (is_end command.1) (Ok (lines.Reorg part.0 command.0)) (Err faults.Form)) line e in
    let b = bind_ok (name_at (past is_blank a.0.1)) (λ part. command_at a.0.0 part.1 >>= λ command. cond (is_end command.1) (Ok (lines.Reorg part.0 command.0)) (Err faults.Form)) line a.2 in
    let c = bind_ok (command_at a.0.0 b.0.1) (λ command. cond (is_end command.1) (Ok (lines.Reorg b.0.0 command.0)) (Err faults.Form)) line b.2 in
    let p = passed (is_end c.0.1) faults.Form (lines.Reorg b.0.0 c.0.0) line c.2 in
    let verb = name_taken (past is_blank text) a.0.0 a.0.1 (past_prints text prints) a.1 in
    let part = name_taken (past is_blank a.0.1) b.0.0 b.0.1 (past_prints a.0.1 verb.taken.prints) b.1 in
    let command = command_taken a.0.0 b.0.1 c.0.0 c.0.1 part.stops c.1 in
    let first = take_while is_blank text in
    let second = take_while is_blank a.0.1 in
    let behind_verb : a.0.1 ≡ second ++ (part.taken.written ++ (command.count ++ c.0.1)) = parts_of is_blank a.0.1 ∙ ap (λ (t : List ℕ). second ++ t) (part.taken.whole ∙ ap (λ (t : List ℕ). part.taken.written ++ t) command.whole) in
    let whole : text ≡ first ++ (verb.taken.written ++ (second ++ (part.taken.written ++ (command.count ++ c.0.1)))) = parts_of is_blank text ∙ ap (λ (t : List ℕ). first ++ t) (verb.taken.whole ∙ ap (λ (t : List ℕ). verb.taken.written ++ t) behind_verb) in
    let spells : SpellsReorg (written ++ text) b.0.0 c.0.0 = record {
      word = written;
      first = first;
      verb = verb.taken.written;
      second = second;
      name = part.taken.written;
      count = command.count;
      behind = c.0.1;
      whole = ap (λ (t : List ℕ). written ++ t) whole;
      word_is = name;
      first_is = room_of text stops verb.begins;
      verb_is = subst (λ (w : List ℕ). SpellsName verb.taken.written w) command.word_is verb.taken.spells;
      second_is = room_of a.0.1 verb.stops part.begins;
      name_is = part.taken.spells;
      count_is = command.spells;
      behind_is = p.0;
    } in
    subst (SpellsForm (written ++ text)) p.1 spells

-- ---- a form, and the line

neither : (a b : Bool) → a ≡ false → b ≡ false → (a || b) ≡ false
neither a b p q = rw (p, q) refl

pub form_taken : (text : List ℕ) (line : Line) → Prints text → form_at text ≡ Ok line → SpellsForm (past is_blank text) line
unfolding form_at
form_taken text line prints e =
    let a = bind_ok (name_at (past is_blank text)) (λ first. cond (bytes_eq first.0 (codes "PCB")) (open_at first.1) (cond (bytes_eq first.0 (codes "REORG")) (reorg_at first.1) (call_at first.0 first.1))) line e in
    let name = name_taken (past is_blank text) a.0.0 a.0.1 (past_prints text prints) a.1 in
    subst (λ (t : List ℕ). SpellsForm t line) (sym name.taken.whole) (by_case name.taken.written a.0.0 a.0.1 name.taken.spells name.stops name.taken.prints (bytes_eq a.0.0 (codes "PCB")) (bytes_eq a.0.0 (codes "REORG")) refl refl a.2)
  where
    by_case : (written session rest : List ℕ) → SpellsName written session → Stops in_word rest → Prints rest → (v w : Bool) → bytes_eq session (codes "PCB") ≡ v → bytes_eq session (codes "REORG") ≡ w → cond v (open_at rest) (cond w (reorg_at rest) (call_at session rest)) ≡ Ok line → SpellsForm (written ++ rest) line
    by_case written session rest spells stops p true w hv hw h = open_taken written rest line (subst (λ (n : List ℕ). SpellsName written n) (same_bytes session (codes "PCB") hv) spells) stops p h
    by_case written session rest spells stops p false true hv hw h = reorg_taken written rest line (subst (λ (n : List ℕ). SpellsName written n) (same_bytes session (codes "REORG") hw) spells) stops p h
    by_case written session rest spells stops p false false hv hw h = call_taken written session rest line spells (neither (bytes_eq session (codes "PCB")) (bytes_eq session (codes "REORG")) hv hw) stops p h

-- a form that was read, in a text that is short and printable
whole_taken : (text : List ℕ) (line : Line) → length text ≤ 8192 → Prints text → form_at text ≡ Ok line → HasForm line → Spells text line
whole_taken text lines.Silent short prints e h = absurd (form_taken text lines.Silent prints e)
whole_taken text (lines.Call call) short prints e h = record { gap = take_while is_blank text; form = past is_blank text; whole = parts_of is_blank text; gap_is = blanks_of text; form_is = form_taken text (lines.Call call) prints e; short = short; printable = prints }
whole_taken text (lines.Open request) short prints e h = record { gap = take_while is_blank text; form = past is_blank text; whole = parts_of is_blank text; gap_is = blanks_of text; form_is = form_taken text (lines.Open request) prints e; short = short; printable = prints }
whole_taken text (lines.Reorg part command) short prints e h = record { gap = take_while is_blank text; form = past is_blank text; whole = parts_of is_blank text; gap_is = blanks_of text; form_is = form_taken text (lines.Reorg part command) prints e; short = short; printable = prints }
whole_taken text (lines.Bad cause) short prints e h = absurd h

line_read : (text : List ℕ) (read : Result Line Fault) (line : Line) → form_at text ≡ read → line_or_cause read ≡ line → HasForm line → form_at text ≡ Ok line
line_read text (Ok form) line is e h = is ∙ ap (λ (l : Line). Ok l) e
line_read text (Err fault) line is e h = absurd (subst HasForm (sym e) h)

pub line_taken : (text : List ℕ) (line : Line) → line_of text ≡ line → HasForm line → Spells text line
unfolding line_of
line_taken text line e h = by_case (is_silent text) (nat_lt 8192 (length text)) (list_all is_printable text) refl refl refl e
  where
    by_case : (s l p : Bool) → is_silent text ≡ s → nat_lt 8192 (length text) ≡ l → list_all is_printable text ≡ p → cond s lines.Silent (cond l (lines.Bad 1) (cond p (line_or_cause (form_at text)) (lines.Bad 2))) ≡ line → Spells text line
    by_case true l p hs hl hp k = subst (Spells text) k hs
    by_case false true p hs hl hp k = absurd (subst HasForm (sym k) h)
    by_case false false true hs hl hp k = whole_taken text line (ltb-false 8192 (length text) hl) hp (line_read text (form_at text) line refl k h) h
    by_case false false false hs hl hp k = absurd (subst HasForm (sym k) h)
