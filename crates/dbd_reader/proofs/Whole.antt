-- The definition of a text, one statement after the other.
use Rattle.std.proofs.Common.{◌≡◌, ℕ, ◌+◌, ◌-◌, ◌≤◌, List, [], ◌∷◌, length, Option, Some, None, Result, Ok, Err, refl, sym, ap, ◌∙◌, arith}
use Rattle.std.specs.Str.Lines.{lines}
use Rattle.hal_schema.specs.declared.raw.RawDbd.{RawDbd}
use Rattle.dbd_reader.specs.declared.statement.Statement.{Statement}
use Rattle.hal_schema.specs.declared.text_fault.TextFault.{TextFault}
use Rattle.hal_schema.specs.declared.text_fault.TextFault.TheVariants as faults
use Rattle.dbd_reader.specs.declared.draft.Draft.{Draft}
use Rattle.dbd_reader.specs.declared.draft.Draft.TheVariants as drafts
use Rattle.dbd_reader.specs.Lines.{behind_lines, IsBehind}
use Rattle.dbd_reader.specs.Statements.{statements}
use Rattle.dbd_reader.specs.Definition.{judged, concluded, definition, definition_of, place_of, placed, meaning_of}
use Rattle.hal_schema.specs.Reading.{Says}

-- what has been read, and what the rest makes of it
pub record IsUnder (text : List ℕ) (draft : Draft) (line : ℕ) (rest : List ℕ) : Type 0 where
  pub whole : definition draft (statements line None (lines rest)) (length (lines text) + 1) ≡ definition_of text
  pub behind : IsBehind text line rest
  pub few : line + length rest ≤ length text + 1
  pub short : length rest ≤ length text

pub under_start : (text : List ℕ) → IsUnder text drafts.Start 1 text
unfolding definition_of
under_start text = record { whole = refl; behind = record { counted = omega arith; same = refl }; few = omega arith; short = omega arith }

next_of : (draft : Draft) (s : Statement) (line : ℕ) (rest behind : List ℕ) (last : ℕ) → statements line None (lines rest) ≡ s ∷ statements s.next None (lines behind)
    → definition draft (statements line None (lines rest)) last ≡ concluded (judged draft s) s.next (λ d. definition d (statements s.next None (lines behind)) last)
unfolding definition
next_of draft s line rest behind last h = ap (λ (l : List Statement). definition draft l last) h

not_ended : (d : Draft) (next : ℕ) (more : Draft → Result (RawDbd × ℕ) TextFault) → ((dbd : RawDbd) → d ≡ drafts.Ended dbd → ⊥) → concluded (Ok d) next more ≡ more d
not_ended drafts.Start next more h = refl
not_ended (drafts.Head dbd) next more h = refl
not_ended (drafts.Segment dbd segm) next more h = refl
not_ended (drafts.Index dbd segm child line) next more h = refl
not_ended (drafts.Generated dbd) next more h = refl
not_ended (drafts.Finished dbd) next more h = refl
not_ended (drafts.Ended dbd) next more h = absurd (h dbd refl)

pub under_next : (text : List ℕ) (draft : Draft) (line : ℕ) (rest : List ℕ) (s : Statement) (behind : List ℕ) (d : Draft) → IsUnder text draft line rest → statements line None (lines rest) ≡ s ∷ statements s.next None (lines behind)
    → IsBehind text s.next behind → s.next + length behind ≤ line + length rest → length behind ≤ length rest → judged draft s ≡ Ok d → ((dbd : RawDbd) → d ≡ drafts.Ended dbd → ⊥) → IsUnder text d s.next behind
under_next text draft line rest s behind d under h place few short told open_ =
    let last = length (lines text) + 1 in
    let more : Draft → Result (RawDbd × ℕ) TextFault = λ e. definition e (statements s.next None (lines behind)) last in
    let step : definition draft (statements line None (lines rest)) last ≡ more d =
    next_of draft s line rest behind last h ∙ ap (λ (r : Result Draft TextFault). concluded r s.next more) told ∙ not_ended d s.next more open_ in
    record { whole = sym step ∙ under.whole; behind = place; few = omega (arith, under.few); short = omega (arith, under.short) }

pub ends : (text : List ℕ) (draft : Draft) (line : ℕ) (rest : List ℕ) (s : Statement) (behind : List ℕ) (dbd : RawDbd) (place : ℕ) → IsUnder text draft line rest → statements line None (lines rest) ≡ s ∷ statements s.next None (lines behind)
    → IsBehind text s.next behind → judged draft s ≡ Ok (drafts.Ended dbd) → place ≡ length text - length behind → meaning_of text ≡ Ok (dbd, place)
unfolding meaning_of
ends text draft line rest s behind dbd place under h at told e =
    let last = length (lines text) + 1 in
    let more : Draft → Result (RawDbd × ℕ) TextFault = λ d. definition d (statements s.next None (lines behind)) last in
    let step : definition draft (statements line None (lines rest)) last ≡ Ok (dbd, s.next) = next_of draft s line rest behind last h ∙ ap (λ (r : Result Draft TextFault). concluded r s.next more) told in
    let found : definition_of text ≡ Ok (dbd, s.next) = sym under.whole ∙ step in
    let same : place_of text s.next ≡ place = ap (λ (l : List ℕ). length text - length l) (sym at.same) ∙ sym e in
    ap (placed text) found ∙ ap (λ (n : ℕ). Ok (dbd, n)) same

pub fails : (f : TextFault) (text : List ℕ) (draft : Draft) (line : ℕ) (rest : List ℕ) (s : Statement) (behind : List ℕ) → IsUnder text draft line rest → statements line None (lines rest) ≡ s ∷ statements s.next None (lines behind)
    → Says (Err f) (judged draft s) → Says (Err f) (meaning_of text)
unfolding meaning_of
fails faults.Memory text draft line rest s behind under h told = tt
fails (faults.Rule rule at) text draft line rest s behind under h told =
    let last = length (lines text) + 1 in
    let more : Draft → Result (RawDbd × ℕ) TextFault = λ d. definition d (statements s.next None (lines behind)) last in
    let step : definition draft (statements line None (lines rest)) last ≡ Err (faults.Rule rule at) = next_of draft s line rest behind last h ∙ ap (λ (r : Result Draft TextFault). concluded r s.next more) told in
    ap (placed text) (sym under.whole ∙ step)

pub stops : (text : List ℕ) (draft : Draft) (line : ℕ) (rest : List ℕ) (last : ℕ) → IsUnder text draft line rest → statements line None (lines rest) ≡ [] → last ≡ length (lines text) + 1 → meaning_of text ≡ Err (faults.Rule 19 last)
unfolding meaning_of definition
stops text draft line rest last under h e =
    let n = length (lines text) + 1 in
    let step : definition draft (statements line None (lines rest)) n ≡ Err (faults.Rule 19 n) = ap (λ (l : List Statement). definition draft l n) h in
    ap (placed text) (sym under.whole ∙ step) ∙ ap (λ (k : ℕ). Err (faults.Rule 19 k)) (sym e)
