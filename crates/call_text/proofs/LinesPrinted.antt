-- What is printed spells what was printed: SSAs and lines.
use Rattle.hal_base.specs.Bytes.{is_printable}
use Rattle.hal_base.specs.Numbers.{number_of}
use Rattle.std.proofs.Common.{◌≡◌, ℕ, ◌+◌, ◌-◌, ◌*◌, ◌≤◌, ◌&&◌, Bool, true, false, cond, nat_le, nat_lt, List, [], ◌∷◌, ◌++◌, length, map, Option, Some, None, refl, sym, ap, subst, ◌∙◌, append_assoc, arith, codes, rules}
use Rattle.std.specs.List.{list_all, flat_map, fold, AllByRecursion}
use Rattle.std.specs.Fmt.{decimal}
use Rattle.std.proofs.lemmas.List.{append-nil}
use Rattle.std.proofs.lemmas.Bool.Decides.{nat_tests}
use Rattle.std.proofs.lemmas.Fmt.{digits_decimal, digits_value-decimal, length-decimal-le, decimal_nonempty}
use Rattle.std.proofs.lemmas.Str.Parse.{IsNumeralModel, numerals_by_fold}
use Rattle.hal_base.specs.Name.{is_digit}
use Rattle.call_text.specs.declared.line.Value.{Value}
use Rattle.call_text.specs.declared.line.Value.TheVariants.{Text, Hex}
use Rattle.call_text.specs.declared.line.Clause.{Clause}
use Rattle.call_text.specs.declared.line.Ssa.{Ssa}
use Rattle.call_text.specs.declared.line.Call.{Call}
use Rattle.call_text.specs.declared.line.Open.{Open}
use Rattle.call_text.specs.declared.line.Command.{Command}
use Rattle.call_text.specs.declared.line.Command.TheVariants.{Start, Step, Pause, Resume, Finish, Query}
use Rattle.call_text.specs.declared.line.Line.{Line}
use Rattle.call_text.specs.declared.line.Line.TheVariants as lines
use Rattle.call_text.specs.Words.{is_number, is_count}
use Rattle.call_text.specs.Printing.{printed_value}
use Rattle.call_text.specs.Printed.{bytes_of, operator_text, clause_text, joined_clause, clauses_text, codes_text, ssa_text, next_ssa, given_text, call_text, index_text, open_text, command_word, count_text, reorg_text, printed_line}
use Rattle.call_text.specs.Plain.{plain_value, plain_clause, plain_ssa, plain_given, plain_call, plain_line, IsPlainValue, IsPlainClause, IsPlainSsa, IsPlainGiven, IsPlain}
use Rattle.call_text.specs.Spelling.{IsRoom, SpellsName, SpellsQualification, SpellsCodes, SpellsSsa, SpellsSsas, SpellsGiven, SpellsCall, SpellsIndex, SpellsOpen, SpellsCount, SpellsReorg, SpellsForm, SpellsWhole, Spells}
use Rattle.call_text.proofs.Runs.{both, all_weaker}
use Rattle.call_text.proofs.ValuesPrinted.{Prints, prints_both, name_spells, name_prints, word_spells, word_prints, value_printed}
use Rattle.call_text.proofs.FormsPrinted.{closing, clauses_printed}

-- one blank
blank : IsRoom (32 ∷ [])
blank = record { blanks = refl; some = omega arith }

-- ---- SSAs

record PrintsQualification (clauses : List Clause) : Type 0 where
  spells : SpellsQualification (clauses_text clauses) (map plain_clause clauses)
  prints : Prints (clauses_text clauses)

qualification_printed : (text : List ℕ) (clauses : List Clause) → SpellsQualification text clauses → PrintsQualification clauses
qualification_printed text [] h = record { spells = refl; prints = refl }
qualification_printed text (first ∷ more) h =
    let inner = clauses_printed h.1 false first more h.3 in
    let regrouped : clauses_text (first ∷ more) ≡ 40 ∷ (clause_text first ++ closing more) = ap (λ (t : List ℕ). 40 ∷ t) (append_assoc (clause_text first) (flat_map joined_clause more) (41 ∷ [])) in
    record {
      spells = ([], clause_text first ++ closing more, refl, inner.spells, regrouped);
      prints = subst Prints (sym regrouped) inner.prints;
    }

codes_spell : (text code : List ℕ) → SpellsCodes text code → SpellsCodes (codes_text code) code
codes_spell text [] h = refl
codes_spell text (c ∷ code) h = (c ∷ code, word_spells h.0 (c ∷ code) h.1, refl)

codes_print : (text code : List ℕ) → SpellsCodes text code → Prints (codes_text code)
codes_print text [] h = refl
codes_print text (c ∷ code) h = word_prints h.0 (c ∷ code) h.1

record PrintsSsa (ssa : Ssa) : Type 0 where
  spells : SpellsSsa (ssa_text ssa) (plain_ssa ssa)
  prints : Prints (ssa_text ssa)

ssa_printed : (text : List ℕ) (ssa : Ssa) → SpellsSsa text ssa → PrintsSsa ssa
unfolding ssa_text
ssa_printed text ssa h =
    let q = qualification_printed h.clauses ssa.clauses h.clauses_is in
    record {
      spells = record {
        seg = ssa.seg;
        code = codes_text ssa.codes;
        clauses = clauses_text ssa.clauses;
        whole = append_assoc ssa.seg (codes_text ssa.codes) (clauses_text ssa.clauses);
        seg_is = name_spells h.seg ssa.seg h.seg_is;
        code_is = codes_spell h.code ssa.codes h.code_is;
        clauses_is = q.spells;
      };
      prints = prints_both (ssa.seg ++ codes_text ssa.codes) (clauses_text ssa.clauses) (prints_both ssa.seg (codes_text ssa.codes) (name_prints h.seg ssa.seg h.seg_is) (codes_print h.code ssa.codes h.code_is)) q.prints;
    }

record PrintsSsas (ssas : List Ssa) : Type 0 where
  spells : SpellsSsas (flat_map next_ssa ssas) (map plain_ssa ssas)
  prints : Prints (flat_map next_ssa ssas)

ssas_printed : (text : List ℕ) (ssas : List Ssa) → SpellsSsas text ssas → PrintsSsas ssas
ssas_printed text [] h = record { spells = refl; prints = refl }
ssas_printed text (ssa ∷ more) h =
    let first = ssa_printed h.1 ssa h.4 in
    let others = ssas_printed h.2 more h.5 in
    record {
      spells = (32 ∷ [], ssa_text ssa, flat_map next_ssa more, blank, first.spells, others.spells, refl);
      prints = prints_both (next_ssa ssa) (flat_map next_ssa more) first.prints others.prints;
    }

-- ---- calls

record PrintsGiven (content : Option Value) : Type 0 where
  spells : SpellsGiven (given_text content) (plain_given content)
  prints : Prints (given_text content)

given_printed : (text : List ℕ) (content : Option Value) → SpellsGiven text content → PrintsGiven content
given_printed text None h = record { spells = refl; prints = refl }
given_printed text (Some value) h =
    let v = value_printed h.2 value h.6 in
    let written = printed_value (bytes_of value) in
    record {
      spells = (32 ∷ [], 32 ∷ [], written, [], refl, refl, v.spells, refl, ap (λ (t : List ℕ). 32 ∷ 58 ∷ 32 ∷ t) (sym (append-nil written)));
      prints = v.prints;
    }

record PrintsForm (text : List ℕ) (line : Line) : Type 0 where
  spells : SpellsForm text line
  prints : Prints text

call_printed : (text : List ℕ) (call : Call) → SpellsCall text call → PrintsForm (call_text call) (lines.Call (plain_call call))
unfolding call_text
call_printed text call h =
    let s = ssas_printed h.ssas call.ssas h.ssas_is in
    let g = given_printed h.content call.content h.content_is in
    let ssas = flat_map next_ssa call.ssas in
    let content = given_text call.content in
    record {
      spells = record {
        session = call.session;
        room = 32 ∷ [];
        func = call.func;
        ssas = ssas;
        content = content;
        whole = simp append_assoc;
        session_is = name_spells h.session call.session h.session_is;
        free = h.free;
        room_is = blank;
        func_is = word_spells h.func call.func h.func_is;
        ssas_is = s.spells;
        content_is = g.spells;
      };
      prints = prints_both (call.session ++ 32 ∷ call.func ++ ssas) content (prints_both (call.session ++ 32 ∷ call.func) ssas (prints_both call.session (32 ∷ call.func) (name_prints h.session call.session h.session_is) (word_prints h.func call.func h.func_is)) s.prints) g.prints;
    }

-- ---- opens

index_spell : (text : List ℕ) (index : Option (List ℕ)) → SpellsIndex text index → SpellsIndex (index_text index) index
index_spell text None h = refl
index_spell text (Some name) h = (32 ∷ [], name, [], blank, name_spells h.1 name h.4, refl, ap (λ (t : List ℕ). 32 ∷ t) (sym (append-nil name)))

index_print : (text : List ℕ) (index : Option (List ℕ)) → SpellsIndex text index → Prints (index_text index)
index_print text None h = refl
index_print text (Some name) h = name_prints h.1 name h.4

open_printed : (text : List ℕ) (request : Open) → SpellsOpen text request → PrintsForm (open_text request) (lines.Open request)
unfolding open_text
open_printed text request h =
    let index = index_text request.index in
    record {
      spells = record {
        word = codes "PCB";
        first = 32 ∷ [];
        session = request.session;
        second = 32 ∷ [];
        options = request.options;
        index = index;
        whole = simp append_assoc;
        word_is = record { spelled = refl; is = refl };
        first_is = blank;
        session_is = name_spells h.session request.session h.session_is;
        free = h.free;
        second_is = blank;
        options_is = word_spells h.options request.options h.options_is;
        index_is = index_spell h.index request.index h.index_is;
      };
      prints = prints_both (codes "PCB " ++ request.session ++ 32 ∷ request.options) index (prints_both (codes "PCB " ++ request.session) (32 ∷ request.options) (prints_both (codes "PCB ") request.session refl (name_prints h.session request.session h.session_is)) (word_prints h.options request.options h.options_is)) (index_print h.index request.index h.index_is);
    }

-- ---- commands

own : IsNumeralModel (λ ds. list_all is_digit ds ≡ true) number_of
own = numerals_by_fold _ (search rules) (λ (n : ℕ) (ds : List ℕ). fold (λ n digit. 10 * n + (digit - 48)) n ds) (search rules)

digit_prints : (b : ℕ) → is_digit b ≡ true → is_printable b ≡ true
digit_prints b h = grind (arith, h)

decimal_digits : (n : ℕ) → n ≤ 1000 → list_all is_digit (decimal n) ≡ true
decimal_digits n small = digits_decimal own n (omega arith)

decimal_number : (n : ℕ) → n ≤ 1000 → is_number (decimal n) ≡ true
decimal_number n small =
    let some : nat_lt 0 (length (decimal n)) ≡ true = grind (arith, nat_tests, decimal_nonempty n (omega arith)) in
    rw (some, decimal_digits n small) refl

-- what a count says of its number
count_bounds : (digits : List ℕ) → is_count digits ≡ true → (1 ≤ number_of digits) × (number_of digits ≤ 1000)
count_bounds digits h =
    let outer = both (nat_le (length digits) 4 && nat_le 1 (number_of digits)) (nat_le (number_of digits) 1000) h in
    let inner = both (nat_le (length digits) 4) (nat_le 1 (number_of digits)) outer.0 in
    (grind (arith, nat_tests, inner.1), grind (arith, nat_tests, outer.1))

decimal_count : (n : ℕ) → 1 ≤ n → n ≤ 1000 → is_count (decimal n) ≡ true
decimal_count n low high =
    let back : number_of (decimal n) ≡ n = digits_value-decimal own n (omega arith) in
    let short : nat_le (length (decimal n)) 4 ≡ true = grind (arith, nat_tests, length-decimal-le 4 n (omega arith) (omega arith) (omega arith)) in
    let least : nat_le 1 n ≡ true = grind (arith, nat_tests) in
    let most : nat_le n 1000 ≡ true = grind (arith, nat_tests) in
    rw (short, back, least, most) refl

record PrintsCount (command : Command) : Type 0 where
  spells : SpellsCount (count_text command) command
  prints : Prints (count_text command)

count_printed : (text : List ℕ) (command : Command) → SpellsCount text command → PrintsCount command
count_printed text Start h = record { spells = refl; prints = refl }
count_printed text Pause h = record { spells = refl; prints = refl }
count_printed text Resume h = record { spells = refl; prints = refl }
count_printed text Finish h = record { spells = refl; prints = refl }
count_printed text Query h = record { spells = refl; prints = refl }
count_printed text (Step groups) h =
    let bounds = count_bounds h.1 h.4 in
    let low : 1 ≤ groups = omega (arith, bounds.0, h.5) in
    let high : groups ≤ 1000 = omega (arith, bounds.1, h.5) in
    record {
      spells = (32 ∷ [], decimal groups, blank, decimal_number groups high, decimal_count groups low high, sym (digits_value-decimal own groups (omega arith)), refl);
      prints = all_weaker is_digit is_printable digit_prints (decimal groups) (decimal_digits groups high);
    }

verb_spells : (command : Command) → SpellsName (command_word command) (command_word command)
verb_spells Start = record { spelled = refl; is = refl }
verb_spells (Step groups) = record { spelled = refl; is = refl }
verb_spells Pause = record { spelled = refl; is = refl }
verb_spells Resume = record { spelled = refl; is = refl }
verb_spells Finish = record { spelled = refl; is = refl }
verb_spells Query = record { spelled = refl; is = refl }

reorg_printed : (text part : List ℕ) (command : Command) → SpellsReorg text part command → PrintsForm (reorg_text part command) (lines.Reorg part command)
unfolding reorg_text
reorg_printed text part command h =
    let verb = command_word command in
    let count = count_text command in
    let c = count_printed h.count command h.count_is in
    record {
      spells = record {
        word = codes "REORG";
        first = 32 ∷ [];
        verb = verb;
        second = 32 ∷ [];
        name = part;
        count = count;
        behind = [];
        whole = simp (append_assoc, append-nil);
        word_is = record { spelled = refl; is = refl };
        first_is = blank;
        verb_is = verb_spells command;
        second_is = blank;
        name_is = name_spells h.name part h.name_is;
        count_is = c.spells;
        behind_is = refl;
      };
      prints = prints_both (codes "REORG " ++ verb ++ 32 ∷ part) count (prints_both (codes "REORG " ++ verb) (32 ∷ part) (prints_both (codes "REORG ") verb refl (name_prints verb verb (verb_spells command))) (name_prints h.name part h.name_is)) c.prints;
    }

-- ---- lines

whole_printed : (text : List ℕ) (line : Line) → PrintsForm text line → length text ≤ 8192 → SpellsWhole text line
whole_printed text line h short = record { gap = []; form = text; whole = refl; gap_is = refl; form_is = h.spells; short = short; printable = h.prints }

-- the printed form of a line spells the line, but for printable bytes in hexadecimal
pub line_printed : (text : List ℕ) (line : Line) → Spells text line → length (printed_line line) ≤ 8192 → Spells (printed_line line) (plain_line line)
line_printed text lines.Silent h short = refl
line_printed text (lines.Call call) h short = whole_printed (call_text call) (lines.Call (plain_call call)) (call_printed h.form call h.form_is) short
line_printed text (lines.Open request) h short = whole_printed (open_text request) (lines.Open request) (open_printed h.form request h.form_is) short
line_printed text (lines.Reorg part command) h short = whole_printed (reorg_text part command) (lines.Reorg part command) (reorg_printed h.form part command h.form_is) short
line_printed text (lines.Bad cause) h short = absurd h

-- ---- the same form

value_same : (value : Value) → bytes_of (plain_value value) ≡ bytes_of value
value_same (Text bytes) = refl
value_same (Hex bytes) = by_case (list_all is_printable bytes)
  where
    by_case : (v : Bool) → bytes_of (cond v (Text bytes) (Hex bytes)) ≡ bytes
    by_case true = refl
    by_case false = refl

clause_same : (clause : Clause) → clause_text (plain_clause clause) ≡ clause_text clause
unfolding clause_text
clause_same clause = ap (λ (bytes : List ℕ). clause.field ++ operator_text clause.op ++ printed_value bytes) (value_same clause.value)

joined_same : (clauses : List Clause) → flat_map joined_clause (map plain_clause clauses) ≡ flat_map joined_clause clauses
joined_same [] = refl
joined_same (clause ∷ clauses) = rw (clause_same clause, joined_same clauses) refl

clauses_same : (clauses : List Clause) → clauses_text (map plain_clause clauses) ≡ clauses_text clauses
clauses_same [] = refl
clauses_same (first ∷ more) = rw (clause_same first, joined_same more) refl

ssa_same : (ssa : Ssa) → ssa_text (plain_ssa ssa) ≡ ssa_text ssa
unfolding ssa_text
ssa_same ssa = ap (λ (text : List ℕ). ssa.seg ++ codes_text ssa.codes ++ text) (clauses_same ssa.clauses)

ssas_same : (ssas : List Ssa) → flat_map next_ssa (map plain_ssa ssas) ≡ flat_map next_ssa ssas
ssas_same [] = refl
ssas_same (ssa ∷ ssas) = rw (ssa_same ssa, ssas_same ssas) refl

given_same : (content : Option Value) → given_text (plain_given content) ≡ given_text content
given_same None = refl
given_same (Some value) = ap (λ (bytes : List ℕ). codes " : " ++ printed_value bytes) (value_same value)

-- a plain line has the printed form of its line
pub line_same : (line : Line) → printed_line (plain_line line) ≡ printed_line line
unfolding call_text
line_same lines.Silent = refl
line_same (lines.Call call) = rw (ssas_same call.ssas, given_same call.content) refl
line_same (lines.Open request) = refl
line_same (lines.Reorg part command) = refl
line_same (lines.Bad cause) = refl

-- ---- where nothing changes

value_kept : (value : Value) → IsPlainValue value → plain_value value ≡ value
value_kept (Text bytes) h = refl
value_kept (Hex bytes) h = rw h refl

clause_kept : (clause : Clause) → IsPlainClause clause → plain_clause clause ≡ clause
clause_kept clause h = ap (λ (v : Value). record { field = clause.field; op = clause.op; value = v; or = clause.or }) (value_kept clause.value h)

clauses_kept : (clauses : List Clause) → AllByRecursion IsPlainClause clauses → map plain_clause clauses ≡ clauses
clauses_kept [] h = refl
clauses_kept (clause ∷ clauses) h = rw (clauses_kept clauses h.1) (ap (λ (c : Clause). c ∷ clauses) (clause_kept clause h.0))

ssa_kept : (ssa : Ssa) → IsPlainSsa ssa → plain_ssa ssa ≡ ssa
ssa_kept ssa h = ap (λ (clauses : List Clause). record { seg = ssa.seg; codes = ssa.codes; clauses = clauses }) (clauses_kept ssa.clauses h)

ssas_kept : (ssas : List Ssa) → AllByRecursion IsPlainSsa ssas → map plain_ssa ssas ≡ ssas
ssas_kept [] h = refl
ssas_kept (ssa ∷ ssas) h = rw (ssas_kept ssas h.1) (ap (λ (s : Ssa). s ∷ ssas) (ssa_kept ssa h.0))

given_kept : (content : Option Value) → IsPlainGiven content → plain_given content ≡ content
given_kept None h = refl
given_kept (Some value) h = ap (λ (v : Value). Some v) (value_kept value h)

call_with : Call → List Ssa → Option Value → Call
call_with call ssas content = record { session = call.session; func = call.func; ssas = ssas; content = content }

call_kept : (call : Call) → AllByRecursion IsPlainSsa call.ssas → IsPlainGiven call.content → plain_call call ≡ call
unfolding call_with
call_kept call h g = ap (λ (ssas : List Ssa). call_with call ssas (plain_given call.content)) (ssas_kept call.ssas h) ∙ ap (λ (content : Option Value). call_with call call.ssas content) (given_kept call.content g)

-- a line without printable bytes in hexadecimal is its own plain line
pub line_kept : (line : Line) → IsPlain line → plain_line line ≡ line
line_kept lines.Silent h = refl
line_kept (lines.Call call) h = ap (λ (c : Call). lines.Call c) (call_kept call h.0 h.1)
line_kept (lines.Open request) h = refl
line_kept (lines.Reorg part command) h = refl
line_kept (lines.Bad cause) h = refl
