-- What commands did.
use Rattle.std.proofs.Common.{◌≡◌, ℕ, ◌≤◌, ◌⊎◌, inl, inr, List, [], length, take, drop, ◌-◌, Option, Some, None, Result, Ok, Err, refl, sym, ap, ◌∙◌, subst, arith}
use Rattle.std.specs.Prelude.{MatchResult}
use Rattle.std.specs.Io.KnownBytes.{IsAtEnd}
use Rattle.std.proofs.KnownBytes.{Consumes-nil}
use Rattle.std.proofs.lemmas.List.{length-drop}
use Rattle.std.proofs.Math.Seq.{take-length}
use Rattle.hal_base.specs.Fault.{Rose}
use Rattle.hal_schema.specs.declared.raw.RawDbd.{RawDbd}
use Rattle.hal_schema.specs.declared.raw.RawParts.{RawParts}
use Rattle.hal_schema.specs.declared.raw.RawSchema.{RawSchema}
use Rattle.hal_schema.specs.Places.{statement, partition}
use Rattle.hal_schema.specs.declared.text_fault.TextFault.{TextFault}
use Rattle.hal_schema.specs.declared.text_fault.TextFault.TheVariants as fault
use Rattle.dbd_reader.specs.Definition.{meaning_of}
use Rattle.hal_schema.specs.Reading.{Says}
use Rattle.partition_reader.specs.Partitions.{partitions_of}
use Rattle.hal_desk.specs.Kdb.{kdb}
use Rattle.hal_base.proofs.StopLemmas.{not_yet}
use Rattle.hal_base.specs.Stops.{SaidFrom}
use Rattle.hal_desk.specs.Says.{SaysLine, LineEnds}
use Rattle.script_runs.specs.Script.{status_of, limit}
use Rattle.hal_desk.specs.Lists.{meaning, start_of}
use Rattle.hal_desk.specs.Outside.{Outside, SiteView, Untouched, list_on}
use Rattle.hal_desk.specs.Gathered.{Gathered, IsCut}
use Rattle.hal_desk.specs.Define.{Broken, DefineEnds, RanDefine, answer_of, definition_of, judged, with_dbd, with_parts}
use Rattle.hal_desk.specs.Top.{Did, RanCall, EndsWell}
use Rattle.hal_desk.specs.declared.define.Answer.{Answer}
use Rattle.script_runs.specs.declared.ending.Ending.{Ending}
use Rattle.script_runs.specs.declared.ending.Ending.TheVariants as ending
use Rattle.hal_desk.specs.declared.source.SourceFault.{SourceFault}
use Rattle.script_runs.specs.declared.taker.EngineFault.TheVariants as engine
use Rattle.hal_desk.specs.declared.words.Command.{Command}
use Rattle.hal_desk.specs.declared.words.Command.TheVariants.{Define, Load, Unload, Call, Report, Reorg, Make, Exercise}
use Rattle.hal_desk.proofs.Complete.{complete, taken_within}
use Rattle.script_runs.proofs.Endings.{ran_cut}
use Rattle.script_runs.proofs.Joined.{cut_none}

-- ---- what a source says

-- the part of a text from a place to its end
pub rest_from : (n : ℕ) (text : List ℕ) → take (length text - n) (drop n text) ≡ drop n text
rest_from n text = ap (λ k. take k (drop n text)) (sym (length-drop n text)) ∙ take-length (drop n text)

pub told : {X : Type 0} (r m : Result X TextFault) (rule line : ℕ) → Says r m → r ≡ Err (fault.Rule rule line) → m ≡ Err (fault.Rule rule line)
told r m rule line s e = subst (λ r. Says r m) e s

pub told_ok : {X : Type 0} (r m : Result X TextFault) (x : X) → Says r m → r ≡ Ok x → m ≡ Ok x
told_ok r m x s e = subst (λ r. Says r m) e s

pub text_broken : (text : List ℕ) (rule line : ℕ) → meaning_of text ≡ Err (fault.Rule rule line) → definition_of text ≡ Err (rule, statement line)
unfolding definition_of
text_broken text rule line e = ap (λ m. judged (with_dbd text m)) e

pub file_broken : (text : List ℕ) (dbd : RawDbd) (place rule number : ℕ) → meaning_of text ≡ Ok (dbd, place) → partitions_of (drop place text) ≡ Err (fault.Rule rule number) → definition_of text ≡ Err (rule, partition number)
unfolding definition_of
file_broken text dbd place rule number e f = ap (λ m. judged (with_dbd text m)) e ∙ ap (λ p. judged (with_parts dbd p)) f

pub both_read : (text : List ℕ) (dbd : RawDbd) (place : ℕ) (parts : RawParts) → meaning_of text ≡ Ok (dbd, place) → partitions_of (drop place text) ≡ Ok parts → definition_of text ≡ judged (Ok (record { dbd = dbd; parts = parts }))
unfolding definition_of
both_read text dbd place parts e f = ap (λ m. judged (with_dbd text m)) e ∙ ap (λ p. judged (with_parts dbd p)) f

-- ---- the line of a definition

pub ran_answer : (before after : Outside) (r : Result (List ℕ) SourceFault) (text line : List ℕ) (a : Answer) (status : ℕ) → Gathered before.source.left after.source.left before.source.read_faults after.source.read_faults r → r ≡ Ok text
    → a ≡ answer_of (definition_of text) → line ≡ a.line → SaysLine line a.status before.site after.site status → RanDefine before after status
ran_answer before after r text line a status g e is at says =
    let ends : (text ≡ g.taken) × (length g.taken ≤ limit) × _ = subst (λ r. MatchResult r (λ text. (text ≡ g.taken) × (length g.taken ≤ limit) × IsAtEnd after.source.left) (λ fault. IsCut fault (length g.taken) before.source.read_faults after.source.read_faults)) e g.ends in
    let same : a ≡ answer_of (definition_of g.taken) = is ∙ ap (λ t. answer_of (definition_of t)) ends.0 in
    let P : Answer → Type 0 = λ b. SaysLine b.line b.status before.site after.site status in
    record {
      taken = g.taken;
      read = g.read;
      ends = inl (ends.1, ends.2, subst P same (subst (λ l. SaysLine l a.status before.site after.site status) at says));
    }

-- ---- no memory for the words

untouched : (site : SiteView) → Untouched site site
untouched site = record { said = refl; moment = refl; say_faults = refl }

says_none : (line : List ℕ) (wanted : ℕ) (site : SiteView) → SaysLine line wanted site site 8
says_none line wanted site = record {
  ends = inr (inr (refl, untouched site));
  stops = not_yet site.moment site.left_at (SaidFrom (site.left_at site.moment) line);
  room = record { stays = λ room is. (room, is, omega arith, omega arith); quiet = λ room is fit. refl };
}

pub call_not_begun : (before : Outside) → RanCall before before 8
call_not_begun before = record {
  ending = ending.Memory;
  status_is = refl;
  end = start_of [];
  ran = ran_cut (meaning kdb) engine.Memory [] 1 limit before.source before.source (list_on before.site (start_of [])) (list_on before.site (start_of [])) [] (Consumes-nil before.source.left) (omega arith) (cut_none (meaning kdb) None 1 (list_on before.site (start_of []))) tt refl;
  forest = refl;
}

pub nothing_done : (command : Option Command) (before : Outside) → Did command before before 8
nothing_done None before = says_none _ _ before.site
nothing_done (Some (Define volume)) before = record {
  taken = [];
  read = Consumes-nil before.source.left;
  ends = inr (inr (inl (refl, omega arith, untouched before.site)));
}
nothing_done (Some (Call volume)) before = call_not_begun before
nothing_done (Some (Load volume)) before = says_none _ _ before.site
nothing_done (Some (Unload volume)) before = says_none _ _ before.site
nothing_done (Some (Report volume)) before = says_none _ _ before.site
nothing_done (Some (Reorg volume part)) before = says_none _ _ before.site
nothing_done (Some (Make volume count number)) before = says_none _ _ before.site
nothing_done (Some (Exercise volume count number)) before = says_none _ _ before.site

-- ---- the words of a command

pub same_did : (o p : Option Command) (before after : Outside) (status : ℕ) → o ≡ p → Did o before after status → Did p before after status
same_did o p before after status e d = subst (λ o. Did o before after status) e d

pub same_well : (o p : Option Command) (status : ℕ) → o ≡ p → EndsWell o status → EndsWell p status
same_well o p status e d = subst (λ o. EndsWell o status) e d

-- ---- where nothing fails

answers_0_or_7 : (r : Result RawSchema Broken) → ((answer_of r).status ≡ 0) ⊎ ((answer_of r).status ≡ 7)
answers_0_or_7 (Ok raw) = inl refl
answers_0_or_7 (Err broken) = inr refl

either : (status wanted : ℕ) → status ≡ wanted → (wanted ≡ 0) ⊎ (wanted ≡ 7) → (status ≡ 0) ⊎ (status ≡ 7) ⊎ (status ≡ 8)
either status wanted e (inl z) = inl (e ∙ z)
either status wanted e (inr s) = inr (inl (e ∙ s))

line_well : (line : List ℕ) (wanted : ℕ) (old new : SiteView) (status : ℕ) → (wanted ≡ 0) ⊎ (wanted ≡ 7) → (Rose old.say_faults new.say_faults → ⊥) → LineEnds line wanted old new status → (status ≡ 0) ⊎ (status ≡ 7) ⊎ (status ≡ 8)
line_well line wanted old new status w never (inl h) = either status wanted h.0 w
line_well line wanted old new status w never (inr (inl h)) = absurd (never h.2)
line_well line wanted old new status w never (inr (inr h)) = inr (inr h.0)

define_well : (before after : Outside) (status : ℕ) (text : List ℕ) (ran : RanDefine before after status) → DefineEnds ran.taken before after status → before.source.left ≡ Some text → length text ≤ limit
    → (Rose before.source.read_faults after.source.read_faults → ⊥) → (Rose before.site.say_faults after.site.say_faults → ⊥) → (status ≡ 0) ⊎ (status ≡ 7) ⊎ (status ≡ 8)
define_well before after status text ran (inl h) tells within reads says =
    line_well (answer_of (definition_of ran.taken)).line (answer_of (definition_of ran.taken)).status before.site after.site status (answers_0_or_7 (definition_of ran.taken)) says h.2.ends
define_well before after status text ran (inr (inl h)) tells within reads says = absurd (reads h.3)
define_well before after status text ran (inr (inr (inl h))) tells within reads says = inr (inr h.0)
define_well before after status text ran (inr (inr (inr h))) tells within reads says =
    let short : length ran.taken ≤ length text = taken_within text ran.taken after.source.left (rw tells at ran.read) in
    let long = h.1 in absurd (omega (arith, short, within, long))

status_by : (status : ℕ) (e : Ending) → status ≡ status_of e → (status_of e ≡ 0) ⊎ (status_of e ≡ 8) → (status ≡ 0) ⊎ (status ≡ 8)
status_by status e is (inl h) = inl (is ∙ h)
status_by status e is (inr h) = inr (is ∙ h)

pub ends_well : (command : Option Command) (before after : Outside) (status : ℕ) (text : List ℕ) → Did command before after status → before.source.left ≡ Some text → length text ≤ limit
    → (Rose before.source.read_faults after.source.read_faults → ⊥) → (Rose before.site.say_faults after.site.say_faults → ⊥) → EndsWell command status
ends_well None before after status text did tells within reads says = tt
ends_well (Some (Define volume)) before after status text did tells within reads says = define_well before after status text did did.ends tells within reads says
ends_well (Some (Call volume)) before after status text did tells within reads says =
    let never : Rose 0 0 → ⊥ = λ rose. omega (arith, rose) in
    let c = complete (meaning kdb) before.source after.source (list_on before.site (start_of [])) (list_on after.site did.end) did.ending text did.ran tells within reads says never in
    status_by status did.ending did.status_is c
ends_well (Some (Load volume)) before after status text did tells within reads says = tt
ends_well (Some (Unload volume)) before after status text did tells within reads says = tt
ends_well (Some (Report volume)) before after status text did tells within reads says = tt
ends_well (Some (Reorg volume part)) before after status text did tells within reads says = tt
ends_well (Some (Make volume count number)) before after status text did tells within reads says = tt
ends_well (Some (Exercise volume count number)) before after status text did tells within reads says = tt
