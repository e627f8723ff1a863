-- What a record of calls says of a site: its image as it reads, its said bytes, and what a stop at each moment
-- might have left. Lists of calls have the newest one first.
use Rattle.std.specs.Prelude.{◌≡◌, ◌⊎◌, ℕ, ◌+◌, ◌-◌, ◌*◌, ◌^◌, ◌/◌, Bool, true, false, if◌then◌else◌, List, [], ◌∷◌, ◌++◌, length, take, replicate, nat_le}
use Rattle.hal_base.specs.Disk.{written, Torn}
use Rattle.hal_disk.specs.declared.call.Call.{Call}
use Rattle.hal_disk.specs.declared.call.Call.TheVariants.{Read, Write, Sync, Say}

-- the image as it reads, where it was `first` at the start
unfoldable pub seen_by : List ℕ → List Call → List ℕ
seen_by first [] = first
seen_by first (Read ∷ older) = seen_by first older
seen_by first (Write at content done ∷ older) = if done then written at content (seen_by first older) else seen_by first older
seen_by first (Sync done ∷ older) = seen_by first older
seen_by first (Say text said ∷ older) = seen_by first older

-- the bytes that were said
unfoldable pub said_by : List Call → List ℕ
said_by [] = []
said_by (Read ∷ older) = said_by older
said_by (Write at content done ∷ older) = said_by older
said_by (Sync done ∷ older) = said_by older
said_by (Say text said ∷ older) = said_by older ++ take said text

-- how many bytes of a text a say says: all of them where it is done, else half
abbrev pub said_size : Bool → List ℕ → ℕ
said_size done text = if done then length text else length text / 2

-- the images that a stop after these calls may leave
unfoldable pub MayLeave : List ℕ → List Call → List ℕ → Type 0
MayLeave first [] image = image ≡ first
MayLeave first (Read ∷ older) image = MayLeave first older image
MayLeave first (Write at content done ∷ older) image = (old : List ℕ) × MayLeave first older old × Torn at (length content) old image
MayLeave first (Sync true ∷ older) image = image ≡ seen_by first older
MayLeave first (Sync false ∷ older) image = MayLeave first older image
MayLeave first (Say text said ∷ older) image = MayLeave first older image

-- one of them: what was written since the last sync is there where `kept`, and else each of its bytes is `torn`
unfoldable pub stopped_by : List ℕ → Bool → ℕ → List Call → List ℕ
stopped_by first kept torn [] = first
stopped_by first kept torn (Read ∷ older) = stopped_by first kept torn older
stopped_by first kept torn (Write at content done ∷ older) = written at (if kept then content else replicate (length content) torn) (stopped_by first kept torn older)
stopped_by first kept torn (Sync true ∷ older) = seen_by first older
stopped_by first kept torn (Sync false ∷ older) = stopped_by first kept torn older
stopped_by first kept torn (Say text said ∷ older) = stopped_by first kept torn older

-- what a replay of one call more makes of the image as it reads, of the image that is left, and of what was said
abbrev pub SeesMore : Call → List ℕ → List ℕ → Type 0
SeesMore call old new = (first : List ℕ) (older : List Call) → old ≡ seen_by first older → new ≡ seen_by first (call ∷ older)

abbrev pub LeavesMore : Bool → ℕ → Call → List ℕ → List ℕ → List ℕ → Type 0
LeavesMore kept torn call seen old new =
    (first : List ℕ) (older : List Call) → seen ≡ seen_by first older → old ≡ stopped_by first kept torn older → new ≡ stopped_by first kept torn (call ∷ older)

abbrev pub SaysMore : Call → List ℕ → List ℕ → Type 0
SaysMore call old new = (older : List Call) → old ≡ said_by older → new ≡ said_by (call ∷ older)

-- a write ends below 2^63, as a site asks
unfoldable pub is_near : Call → Bool
is_near (Write at content done) = nat_le (at + length content) (2 ^ 63 - 1)
is_near Read = true
is_near (Sync done) = true
is_near (Say text said) = true

-- the image and the said bytes that a stop within a call may leave
unfoldable pub LeavesWithin : List ℕ → Call → List Call → List ℕ → List ℕ → Type 0
LeavesWithin first Read older image text = MayLeave first older image × (text ≡ said_by older)
LeavesWithin first (Write at content done) older image text = MayLeave first (Write at content done ∷ older) image × (text ≡ said_by older)
LeavesWithin first (Sync done) older image text = MayLeave first older image × (text ≡ said_by older)
LeavesWithin first (Say whole said) older image text = MayLeave first older image × ((part rest : List ℕ) × (whole ≡ part ++ rest) × (text ≡ said_by older ++ part))

-- What a stop at a moment might have left: moment 0 is the start, 2 n - 1 lies within the nth call, 2 n after it.
unfoldable pub LeftAt : List ℕ → List Call → ℕ → List ℕ → List ℕ → Type 0
LeftAt first [] moment image text = (moment ≡ 0) × (image ≡ first) × (text ≡ [])
LeftAt first (call ∷ older) moment image text =
    LeftAt first older moment image text
    ⊎ (((moment ≡ 2 * length older + 1) × LeavesWithin first call older image text)
    ⊎ ((moment ≡ 2 * length older + 2) × MayLeave first (call ∷ older) image × (text ≡ said_by (call ∷ older))))
