-- What the steps of a commit make, and what they write.
use Rattle.std.proofs.Common.{◌≡◌, inl, ℕ, ◌+◌, ◌-◌, ◌*◌, ◌^◌, ◌<◌, ◌≤◌, max, true, List, [], ◌∷◌, length, Option, Some, option_map, ◌∙◌, ap, subst, arith}
use Rattle.hal_base.specs.Disk.{Torn, written}
use Rattle.block_journal.specs.Change.{Change}
use Rattle.block_journal.specs.Redo.{body_bytes, are_changes}
use Rattle.block_journal.specs.Commit.{IsSettled, CommitMakes, HasChanges, last_byte}
use Rattle.block_journal.specs.Device.{IsExact}
use Rattle.block_journal.specs.Redoing.{IsToRedo, IsRedone, RedoMakes}
use Rattle.block_journal.proofs.Made.{Start}
use Rattle.block_journal.proofs.Changes.{length-body}
use Rattle.block_journal.proofs.Rising.{are_few}
use Rattle.block_journal.proofs.Torn.{Begins, body_makes, gate_makes, redo_makes, to_redo, redone_opened}
use Rattle.block_journal.specs.JournalLaw.{are_whole, keeps_refl, redone_closed}

-- what is written lies within the last byte
pub room_body : (first count place : ℕ) (cs : List Change) (body : List ℕ) → place ≡ first + 4096 * count → are_changes 0 count cs ≡ true → body ≡ body_bytes cs → place + length body ≤ last_byte first count
room_body first count place cs body place_is rise is =
    let most : length cs ≤ max count 4096 = omega (arith, are_few 0 count cs (omega arith) rise) in
    omega (arith, place_is, ap length is, length-body count cs (are_whole 0 count cs rise), most)

pub room_gate : (first count : ℕ) → 4096 + 1 ≤ last_byte first count
room_gate first count =
    let most : 4096 ≤ max count 4096 = omega arith in
    omega (arith, most)

pub room_blocks : (first count : ℕ) → first + 4096 * count ≤ last_byte first count
room_blocks first count = omega arith

pub last_fits : (first count : ℕ) → first ≤ 2 ^ 30 → count < 2 ^ 32 → last_byte first count ≤ 2 ^ 63 - 1
last_fits first count near small =
    let most : max count 4096 ≤ 2 ^ 32 = omega (arith, small) in
    omega (arith, near, small, most)

pub body_is : (at place : ℕ) (bytes body : List ℕ) (image next : Option (List ℕ)) → at ≡ place → bytes ≡ body → next ≡ option_map (written at bytes) image → next ≡ option_map (written place body) image
body_is at place bytes body image next place_is same is = is ∙ (λ i. option_map (written (place_is i) (same i)) image)

pub begins_with : (first count : ℕ) (cs : List Change) (image : Option (List ℕ)) → 8192 ≤ first → are_changes 0 count cs ≡ true → 1 ≤ length cs → count < 2 ^ 32 → ((y : List ℕ) → image ≡ Some y → IsSettled first count y) → (y : List ℕ) → image ≡ Some y → Begins first count cs y
begins_with first count cs image behind rise some small settled y told =
    let s = settled y told in
    record { behind = behind; rise = rise; some = some; small = small; long = s.long; closed = s.closed }

module _ (first count : ℕ) (cs : List Change) (image : Option (List ℕ)) (begins : (y : List ℕ) → image ≡ Some y → Begins first count cs y) where
  pub commit_start : {outcomes : List ℕ → List ℕ → Type 0} → IsExact image outcomes → Start (CommitMakes first count cs) image outcomes
  commit_start exact = record { same = λ y told. record { either = inl (redone_closed first count y (begins y told).closed); front = keeps_refl first count y }; exact = exact }

  pub body_step : (place n : ℕ) → place ≡ first + 4096 * count → (y x : List ℕ) → image ≡ Some y → Torn place n y x → CommitMakes first count cs y x
  body_step place n is y x told torn = body_makes first count cs y (begins y told) n x (subst (λ (p : ℕ). Torn p n y x) is torn)

  pub gate_step : (y x : List ℕ) → image ≡ Some y → Torn 4096 1 (written (first + 4096 * count) (body_bytes cs) y) x → CommitMakes first count cs y x
  gate_step y x told torn = gate_makes first count cs y (begins y told) x torn

  pub redo_step : (y x : List ℕ) → image ≡ Some y → RedoMakes first count (written 4096 (1 ∷ []) (written (first + 4096 * count) (body_bytes cs) y)) x → CommitMakes first count cs y x
  redo_step y x told makes = redo_makes first count cs y (begins y told) x makes

  pub opened_redo : (y : List ℕ) → image ≡ Some y → IsToRedo first count cs (written 4096 (1 ∷ []) (written (first + 4096 * count) (body_bytes cs) y))
  opened_redo y told = to_redo first count cs y (begins y told)

  pub commit_done : (next last : Option (List ℕ)) → ((y : List ℕ) → image ≡ Some y → next ≡ Some (written 4096 (1 ∷ []) (written (first + 4096 * count) (body_bytes cs) y))) → IsRedone first count next last → HasChanges first count cs image last
  commit_done next last is redo = record {
    has = λ y told.
        let ends = redo.has (written 4096 (1 ∷ []) (written (first + 4096 * count) (body_bytes cs) y)) (is y told) in
        (ends.0, ends.1, ends.2, ends.3 ∙ redone_opened first count cs y (begins y told));
  }
