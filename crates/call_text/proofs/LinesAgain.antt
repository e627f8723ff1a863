-- What is spelled is read: the forms, and the line.
use Rattle.hal_base.specs.Numbers.{number_of}
use Rattle.std.proofs.Common.{◌≡◌, ℕ, ◌<◌, ◌≤◌, ◌||◌, Bool, true, false, nat_lt, ◌==◌, List, [], ◌∷◌, ◌++◌, length, Option, Some, None, Ok, refl, sym, ap, subst, ◌∙◌, append_assoc, arith, length-append, codes}
use Rattle.std.specs.List.{list_all}
use Rattle.std.specs.Str.{bytes_eq}
use Rattle.std.proofs.lemmas.Bool.{le-ltb, eqb-true}
use Rattle.hal_base.specs.Name.{is_name, is_digit, is_name_byte}
use Rattle.call_text.specs.declared.line.Call.{Call}
use Rattle.call_text.specs.declared.line.Open.{Open}
use Rattle.call_text.specs.declared.line.Command.{Command}
use Rattle.call_text.specs.declared.line.Command.TheVariants.{Start, Step, Pause, Resume, Finish, Query}
use Rattle.call_text.specs.declared.line.Line.{Line}
use Rattle.call_text.specs.declared.line.Line.TheVariants as lines
use Rattle.call_text.specs.Words.{is_blank, past, in_word, is_word, is_number, is_count, begins_with, is_reserved, is_silent}
use Rattle.call_text.specs.Printed.{command_word}
use Rattle.call_text.specs.Spelling.{IsGap, IsRoom, SpellsName, SpellsWord, SpellsSsas, SpellsGiven, SpellsIndex, SpellsCount, SpellsForm, SpellsWhole, Spells}
use Rattle.call_text.specs.Reading.{begins_word, call_at, session_at, index_at, open_at, count_at, command_at, reorg_at, form_at, line_of}
use Rattle.call_text.proofs.Runs.{both, Stops, past_run, take_run, all_weaker, word_bytes, in_words}
use Rattle.call_text.proofs.Stopping.{other_byte, stops_run, stops_room, stops_end, word_blank}
use Rattle.call_text.proofs.Again.{name_again, word_again, past_gap}
use Rattle.call_text.proofs.ClausesAgain.{name_some}
use Rattle.call_text.proofs.SsasAgain.{name_begins, past_end, ssas_behind, ssas_again, given_behind, given_no_ssa, given_again}

-- a word of letters and digits begins with no blank
word_some : (text word rest : List ℕ) → SpellsWord text word → Stops is_blank (text ++ rest)
word_some [] word rest h =
    let empty : is_word [] ≡ true = subst (λ (w : List ℕ). is_word w ≡ true) (sym h.spelled) h.is in
    absurd cc
word_some (b ∷ text) word rest h =
    let all : list_all in_word (b ∷ text) ≡ true = in_words (b ∷ text) (subst (λ (w : List ℕ). list_all is_name_byte w ≡ true) (sym h.spelled) (word_bytes word h.is)) in
    word_blank b (both (in_word b) (list_all in_word text) all).0

-- ---- calls

call_again : (rest : List ℕ) (call : Call) (room func ssas content : List ℕ) → rest ≡ room ++ (func ++ (ssas ++ content)) → IsRoom room → SpellsWord func call.func → SpellsSsas ssas call.ssas → SpellsGiven content call.content → call_at call.session rest ≡ Ok (lines.Call call)
unfolding call_at
call_again rest call room func ssas content whole room_is func_is ssas_is content_is =
    let after = ssas ++ content in
    let next = ssas_behind ssas call.ssas content ssas_is (given_behind content call.content content_is) in
    let skipped : past is_blank (room ++ (func ++ after)) ≡ func ++ after = past_gap room (func ++ after) room_is.blanks (word_some func call.func after func_is) in
    let fits : length ssas ≤ length after = omega (arith, length-append ssas content) in
    ap (call_at call.session) whole ∙ rw (skipped, word_again func call.func after func_is next.no_word, ssas_again (length after) ssas call.ssas content ssas_is (given_behind content call.content content_is) (given_no_ssa content call.content content_is) fits, given_again content call.content content_is) refl

-- ---- opens

session_again : (text name rest : List ℕ) → SpellsName text name → is_reserved name ≡ false → Stops in_word rest → session_at (text ++ rest) ≡ Ok (name, rest)
unfolding session_at
session_again text name rest h free stops = rw (name_again text name rest h stops, free) refl

index_behind : (text : List ℕ) (index : Option (List ℕ)) → SpellsIndex text index → Stops in_word text
index_behind text None h = stops_end in_word refl text h
index_behind text (Some name) h = subst (Stops in_word) (sym h.6) (stops_room in_word refl h.0 (h.1 ++ h.2) h.3)

index_some : (text name rest : List ℕ) → SpellsName text name → IsGap rest → index_at (text ++ rest) ≡ Ok (Some name)
unfolding index_at
index_some [] name rest h end =
    let empty : is_name [] ≡ true = subst (λ (n : List ℕ). is_name n ≡ true) (sym h.spelled) h.is in
    absurd cc
index_some (b ∷ text) name rest h end = rw (name_again (b ∷ text) name rest h (stops_end in_word refl rest end), end) refl

index_again : (text : List ℕ) (index : Option (List ℕ)) → SpellsIndex text index → index_at (past is_blank text) ≡ Ok index
unfolding index_at
index_again text None h = ap index_at (past_end text h)
index_again text (Some name) h =
    let skipped : past is_blank text ≡ h.1 ++ h.2 = ap (past is_blank) h.6 ∙ past_gap h.0 (h.1 ++ h.2) h.3.blanks (name_some h.1 name h.2 h.4) in
    ap index_at skipped ∙ index_some h.1 name h.2 h.4 h.5

open_again : (rest : List ℕ) (request : Open) (first session second options index : List ℕ) → rest ≡ first ++ (session ++ (second ++ (options ++ index))) → IsRoom first → SpellsName session request.session → is_reserved request.session ≡ false → IsRoom second → SpellsWord options request.options → SpellsIndex index request.index → open_at rest ≡ Ok (lines.Open request)
unfolding open_at
open_again rest request first session second options index whole first_is session_is free second_is options_is index_is =
    let tail = second ++ (options ++ index) in
    let skip_first : past is_blank (first ++ (session ++ tail)) ≡ session ++ tail = past_gap first (session ++ tail) first_is.blanks (name_some session request.session tail session_is) in
    let skip_second : past is_blank tail ≡ options ++ index = past_gap second (options ++ index) second_is.blanks (word_some options request.options index options_is) in
    ap open_at whole ∙ rw (skip_first, session_again session request.session tail session_is free (stops_room in_word refl second (options ++ index) second_is), skip_second, word_again options request.options index options_is (index_behind index request.index index_is), index_again index request.index index_is) refl

-- ---- commands

pub digit_in_word : (b : ℕ) → is_digit b ≡ true → in_word b ≡ true
digit_in_word b h = grind (arith, h)

count_again : (digits rest : List ℕ) → is_number digits ≡ true → is_count digits ≡ true → Stops in_word rest → count_at (digits ++ rest) ≡ Ok (number_of digits, rest)
unfolding count_at
count_again digits rest number count stops =
    let all : list_all in_word digits ≡ true = all_weaker is_digit in_word digit_in_word digits (both _ (list_all is_digit digits) number).1 in
    rw (take_run in_word digits rest all stops, past_run in_word digits rest all stops, number, count) refl

command_again : (command : Command) (text behind : List ℕ) → SpellsCount text command → IsGap behind → command_at (command_word command) (text ++ behind) ≡ Ok (command, behind)
unfolding command_at
command_again Start text behind h end = ap (λ (t : List ℕ). command_at (codes "START") (t ++ behind)) h
command_again Pause text behind h end = ap (λ (t : List ℕ). command_at (codes "PAUSE") (t ++ behind)) h
command_again Resume text behind h end = ap (λ (t : List ℕ). command_at (codes "RESUME") (t ++ behind)) h
command_again Finish text behind h end = ap (λ (t : List ℕ). command_at (codes "FINISH") (t ++ behind)) h
command_again Query text behind h end = ap (λ (t : List ℕ). command_at (codes "QUERY") (t ++ behind)) h
command_again (Step groups) text behind h end =
    let digits = h.1 in
    let some : 0 < length digits = some_digits digits h.3 in
    let regrouped : text ++ behind ≡ h.0 ++ (digits ++ behind) = ap (λ (t : List ℕ). t ++ behind) h.6 ∙ append_assoc h.0 digits behind in
    let begins : Stops is_blank (digits ++ behind) = stops_run is_blank is_digit (λ b p. other_byte 32 is_digit refl b p) digits behind some (both _ (list_all is_digit digits) h.3).1 in
    let skipped : past is_blank (text ++ behind) ≡ digits ++ behind = ap (past is_blank) regrouped ∙ past_gap h.0 (digits ++ behind) h.2.blanks begins in
    rw (skipped, count_again digits behind h.3 h.4 (stops_end in_word refl behind end), ← h.5) refl
  where
    some_digits : (digits : List ℕ) → is_number digits ≡ true → 0 < length digits
    some_digits [] e = absurd cc
    some_digits (d ∷ digits) e = omega arith

count_behind : (text : List ℕ) (command : Command) (behind : List ℕ) → SpellsCount text command → IsGap behind → Stops in_word (text ++ behind)
count_behind text Start behind h end = subst (λ (t : List ℕ). Stops in_word (t ++ behind)) (sym h) (stops_end in_word refl behind end)
count_behind text Pause behind h end = subst (λ (t : List ℕ). Stops in_word (t ++ behind)) (sym h) (stops_end in_word refl behind end)
count_behind text Resume behind h end = subst (λ (t : List ℕ). Stops in_word (t ++ behind)) (sym h) (stops_end in_word refl behind end)
count_behind text Finish behind h end = subst (λ (t : List ℕ). Stops in_word (t ++ behind)) (sym h) (stops_end in_word refl behind end)
count_behind text Query behind h end = subst (λ (t : List ℕ). Stops in_word (t ++ behind)) (sym h) (stops_end in_word refl behind end)
count_behind text (Step groups) behind h end =
    let regrouped : text ++ behind ≡ h.0 ++ (h.1 ++ behind) = ap (λ (t : List ℕ). t ++ behind) h.6 ∙ append_assoc h.0 h.1 behind in
    subst (Stops in_word) (sym regrouped) (stops_room in_word refl h.0 (h.1 ++ behind) h.2)

reorg_again : (rest part : List ℕ) (command : Command) (first verb second name count behind : List ℕ) → rest ≡ first ++ (verb ++ (second ++ (name ++ (count ++ behind)))) → IsRoom first → SpellsName verb (command_word command) → IsRoom second → SpellsName name part → SpellsCount count command → IsGap behind → reorg_at rest ≡ Ok (lines.Reorg part command)
unfolding reorg_at
reorg_again rest part command first verb second name count behind whole first_is verb_is second_is name_is count_is behind_is =
    let inner = name ++ (count ++ behind) in
    let tail = second ++ inner in
    let skip_first : past is_blank (first ++ (verb ++ tail)) ≡ verb ++ tail = past_gap first (verb ++ tail) first_is.blanks (name_some verb (command_word command) tail verb_is) in
    let skip_second : past is_blank tail ≡ inner = past_gap second inner second_is.blanks (name_some name part (count ++ behind) name_is) in
    ap reorg_at whole ∙ rw (skip_first, name_again verb (command_word command) tail verb_is (stops_room in_word refl second inner second_is), skip_second, name_again name part (count ++ behind) name_is (count_behind count command behind count_is behind_is), command_again command count behind count_is behind_is, behind_is) refl

-- ---- a form

neither : (a b : Bool) → (a || b) ≡ false → (a ≡ false) × (b ≡ false)
neither true b h = absurd cc
neither false b h = (refl, h)

pub form_again : (gap form : List ℕ) (line : Line) → IsGap gap → SpellsForm form line → form_at (gap ++ form) ≡ Ok line
unfolding form_at
form_again gap form lines.Silent gap_is h = absurd h
form_again gap form (lines.Call call) gap_is h =
    let rest = h.room ++ (h.func ++ (h.ssas ++ h.content)) in
    let skipped : past is_blank (gap ++ form) ≡ h.session ++ rest = ap (λ (t : List ℕ). past is_blank (gap ++ t)) h.whole ∙ past_gap gap (h.session ++ rest) gap_is (name_some h.session call.session rest h.session_is) in
    let free = neither (bytes_eq call.session (codes "PCB")) (bytes_eq call.session (codes "REORG")) h.free in
    rw (skipped, name_again h.session call.session rest h.session_is (stops_room in_word refl h.room (h.func ++ (h.ssas ++ h.content)) h.room_is), free.0, free.1) (call_again rest call h.room h.func h.ssas h.content refl h.room_is h.func_is h.ssas_is h.content_is)
form_again gap form (lines.Open request) gap_is h =
    let inner = h.session ++ (h.second ++ (h.options ++ h.index)) in
    let rest = h.first ++ inner in
    let skipped : past is_blank (gap ++ form) ≡ h.word ++ rest = ap (λ (t : List ℕ). past is_blank (gap ++ t)) h.whole ∙ past_gap gap (h.word ++ rest) gap_is (name_some h.word (codes "PCB") rest h.word_is) in
    rw (skipped, name_again h.word (codes "PCB") rest h.word_is (stops_room in_word refl h.first inner h.first_is)) (open_again rest request h.first h.session h.second h.options h.index refl h.first_is h.session_is h.free h.second_is h.options_is h.index_is)
form_again gap form (lines.Reorg part command) gap_is h =
    let inner = h.verb ++ (h.second ++ (h.name ++ (h.count ++ h.behind))) in
    let rest = h.first ++ inner in
    let skipped : past is_blank (gap ++ form) ≡ h.word ++ rest = ap (λ (t : List ℕ). past is_blank (gap ++ t)) h.whole ∙ past_gap gap (h.word ++ rest) gap_is (name_some h.word (codes "REORG") rest h.word_is) in
    rw (skipped, name_again h.word (codes "REORG") rest h.word_is (stops_room in_word refl h.first inner h.first_is)) (reorg_again rest part command h.first h.verb h.second h.name h.count h.behind refl h.first_is h.verb_is h.second_is h.name_is h.count_is h.behind_is)
form_again gap form (lines.Bad cause) gap_is h = absurd h

-- ---- the line

form_begins : (form : List ℕ) (line : Line) → SpellsForm form line → begins_word form ≡ true
form_begins form lines.Silent h = absurd h
form_begins form (lines.Call call) h = ap begins_word h.whole ∙ name_begins h.session call.session (h.room ++ (h.func ++ (h.ssas ++ h.content))) h.session_is
form_begins form (lines.Open request) h = ap begins_word h.whole ∙ name_begins h.word (codes "PCB") (h.first ++ (h.session ++ (h.second ++ (h.options ++ h.index)))) h.word_is
form_begins form (lines.Reorg part command) h = ap begins_word h.whole ∙ name_begins h.word (codes "REORG") (h.first ++ (h.verb ++ (h.second ++ (h.name ++ (h.count ++ h.behind))))) h.word_is
form_begins form (lines.Bad cause) h = absurd h

not_blank : (gap form : List ℕ) → IsGap gap → begins_word form ≡ true → list_all is_blank (gap ++ form) ≡ false
not_blank [] [] gap_is begins = absurd cc
not_blank [] (b ∷ form) gap_is begins = rw (word_blank b begins) refl
not_blank (b ∷ gap) form gap_is begins =
    let h = both (b == 32) (list_all is_blank gap) gap_is in
    rw (h.0, not_blank gap form h.1 begins) refl

no_note : (gap form : List ℕ) → IsGap gap → begins_word form ≡ true → begins_with 42 (gap ++ form) ≡ false
no_note [] [] gap_is begins = absurd cc
no_note [] (b ∷ form) gap_is begins = other_byte 42 in_word refl b begins
no_note (b ∷ gap) form gap_is begins = ap (λ (x : ℕ). x == 42) (eqb-true b 32 (both (b == 32) (list_all is_blank gap) gap_is).0)

whole_again : (text : List ℕ) (line : Line) → SpellsWhole text line → line_of text ≡ line
unfolding line_of
whole_again text line h =
    let begins = form_begins h.form line h.form_is in
    let seen : is_silent text ≡ false = ap is_silent h.whole ∙ rw (not_blank h.gap h.form h.gap_is begins, no_note h.gap h.form h.gap_is begins) refl in
    let short : nat_lt 8192 (length text) ≡ false = le-ltb 8192 (length text) h.short in
    let read : form_at text ≡ Ok line = ap form_at h.whole ∙ form_again h.gap h.form line h.gap_is h.form_is in
    rw (seen, short, h.printable, read) refl

pub line_again : (text : List ℕ) (line : Line) → Spells text line → line_of text ≡ line
unfolding line_of
line_again text lines.Silent h = rw h refl
line_again text (lines.Call call) h = whole_again text (lines.Call call) h
line_again text (lines.Open request) h = whole_again text (lines.Open request) h
line_again text (lines.Reorg part command) h = whole_again text (lines.Reorg part command) h
line_again text (lines.Bad cause) h = absurd h
