-- Which words are a command, and what it says: the table of commands. `crew` is no command here, since it is another call's.
use Rattle.hal_base.specs.Name.{is_digit}
use Rattle.hal_base.specs.Numbers.{number_of}
use Rattle.std.specs.Prelude.{ℕ, ◌&&◌, ◌||◌, ◌==◌, nat_le, not, Bool, false, if◌then◌else◌, List, [], ◌∷◌, length, Option, None, Some, codes}
use Rattle.std.specs.List.{list_all}
use Rattle.std.specs.Str.{bytes_eq}
use Rattle.hal_desk.specs.declared.words.Command.{Command}
use Rattle.hal_desk.specs.declared.words.Command.TheVariants.{Define, Load, Unload, Call, Report, Reorg, Make, Exercise}

-- neither empty nor with `-` or `+` in front
abbrev pub is_word : List ℕ → Bool
is_word [] = false
is_word (b ∷ more) = not (b == 45 || b == 43)

-- 1 to 10 digits that write a number from the least to the most
abbrev pub number_within : ℕ → ℕ → List ℕ → Option ℕ
number_within least most word =
    if nat_le 1 (length word) && nat_le (length word) 10 && list_all is_digit word && nat_le least (number_of word) && nat_le (number_of word) most
    then Some (number_of word) else None

-- the commands of a volume alone
abbrev pub of_volume : List ℕ → List ℕ → Option Command
of_volume name volume =
    if bytes_eq name (codes "define") then Some (Define volume)
    else (if bytes_eq name (codes "load") then Some (Load volume)
    else (if bytes_eq name (codes "unload") then Some (Unload volume)
    else (if bytes_eq name (codes "call") then Some (Call volume)
    else (if bytes_eq name (codes "report") then Some (Report volume)
    else None))))

abbrev pub of_part : List ℕ → List ℕ → List ℕ → Option Command
of_part name volume part = if bytes_eq name (codes "reorg") then Some (Reorg volume part) else None

-- the commands of made input: how many customers, and the number that draws begin with
abbrev pub of_count : List ℕ → List ℕ → Option ℕ → Option ℕ → Option Command
of_count name volume (Some count) (Some number) =
    if bytes_eq name (codes "make") then Some (Make volume count number)
    else (if bytes_eq name (codes "exercise") then Some (Exercise volume count number)
    else None)
of_count name volume _ _ = None

abbrev pub row_of : List (List ℕ) → Option Command
row_of (name ∷ volume ∷ []) = of_volume name volume
row_of (name ∷ volume ∷ part ∷ []) = of_part name volume part
row_of (name ∷ volume ∷ count ∷ number ∷ []) = of_count name volume (number_within 1 10000 count) (number_within 0 4294967295 number)
row_of other = None

-- what the words say, none where they are no command
abbrev pub command_of : List (List ℕ) → Option Command
command_of words = if list_all is_word words then row_of words else None
