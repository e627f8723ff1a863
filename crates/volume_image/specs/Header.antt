-- Heads of data blocks: the first sixteen bytes name the data set that a block belongs to. IMS HALDB names a data set
-- of a partition by its letter: `A` to `J` hold segments and `X` the root keys of side A, `M` to `V` and `Y` those of
-- side M, `L` is the indirect list data set, and a secondary index is a PSINDEX with the letter `A`.
use Rattle.std.specs.Prelude.{ℕ, ◌+◌, ◌==◌, nat_le, nat_lt, Bool, ◌&&◌, ◌||◌, not, if◌then◌else◌, List, take, drop, replicate, slice_range, slice_index}
use Rattle.std.specs.List.{list_any}
use Rattle.std.specs.Str.{bytes_eq}
use Rattle.std.specs.Int.{w16, from_be_bytes}
use Rattle.hal_base.specs.declared.pages.SetId.{SetId}
use Rattle.hal_base.specs.declared.place.PartState.{PartState}

abbrev pub kind_in : List ℕ → ℕ
kind_in block = slice_index block 0

abbrev pub set_in : List ℕ → SetId
set_in block = record { part = from_be_bytes w16 (take 2 (drop 2 block)); number = from_be_bytes w16 (take 2 (drop 4 block)); letter = slice_index block 1 }

abbrev pub page_in : List ℕ → ℕ
page_in block = from_be_bytes w16 (take 2 (drop 6 block))

abbrev pub is_among : ℕ → ℕ → ℕ → Bool
is_among first last letter = nat_le first letter && nat_le letter last

-- `A` to `J` and `M` to `V`, whose pages have cells
abbrev pub has_cells : ℕ → Bool
has_cells letter = is_among 65 74 letter || is_among 77 86 letter

-- whether a letter is one of this side, `A` or `M`
abbrev pub is_of_side : ℕ → ℕ → Bool
is_of_side side letter = if side == 65 then is_among 65 74 letter || letter == 88 else is_among 77 86 letter || letter == 89

abbrev pub other_side : ℕ → ℕ
other_side side = if side == 65 then 77 else 65

-- while a partition is reorganized, which is where it isn't idle (`I`), it has the other side with the next number
abbrev pub has_next_set : PartState → SetId → Bool
has_next_set s set = not (s.state == 73) && set.number == s.number + 1 && is_of_side (other_side s.side) set.letter

-- the data sets that a partition has: the indirect list, of number 0, the active side with its number, and the other
abbrev pub has_set : PartState → SetId → Bool
has_set s set = if set.letter == 76 then set.number == 0 else (set.number == s.number && is_of_side s.side set.letter || has_next_set s set)

-- the partition is that of the data set, and has it
abbrev pub is_of : SetId → PartState → Bool
is_of set s = s.part == set.part && has_set s set

-- the data sets of secondary indexes, by their places
abbrev pub is_index_set : ℕ → SetId → Bool
is_index_set indexes set = is_among 32768 (32767 + indexes) set.part && set.number == 0 && set.letter == 65

-- whether a block of this kind, 1 with cells or 2 with rows, and of this data set is live
abbrev pub is_live_set : ℕ → List PartState → ℕ → SetId → Bool
is_live_set indexes states kind set = list_any (is_of set) states || kind == 2 && is_index_set indexes set

-- the partition is that of the data set, and has a higher number
abbrev pub leaves_behind : SetId → PartState → Bool
leaves_behind set s = s.part == set.part && nat_lt set.number s.number

-- a data set of a number that its partition has left behind; an indirect list never is
abbrev pub is_left : List PartState → SetId → Bool
is_left states set = not (set.letter == 76) && list_any (leaves_behind set) states

-- a block without a kind is free, and so is one of a number that its partition has left behind
abbrev pub is_free : List PartState → List ℕ → Bool
is_free states block = kind_in block == 0 || is_left states (set_in block)

-- a head says nothing but the kind, the data set, the page and, where the block has rows, their count
abbrev pub says_no_more : List ℕ → Bool
says_no_more block = (kind_in block == 2 || bytes_eq (slice_range block 8 10) (replicate 2 0)) && bytes_eq (slice_range block 10 16) (replicate 6 0)

-- a block that isn't free has cells or rows of a data set that stands, and its head says no more
abbrev pub is_live : ℕ → List PartState → List ℕ → Bool
is_live indexes states block =
    not (is_free states block) && (kind_in block == 1 || kind_in block == 2) && is_live_set indexes states (kind_in block) (set_in block) && says_no_more block
