-- The grammar of the words as clap has it, and what a parse by it gives.
use Rattle.std.specs.Prelude.{◌≡◌, List, [], ◌∷◌, Option, None, Some, true, false, codes}
use Rattle.clap.specs.Words.{App, Row, Rule, Shape, Text, fault_of, first_of, new_rule, subcommand_of, subcommand_rows_of}
use Rattle.clap.specs.Simple.{new_shape}
use Rattle.clap.specs.declared.parser.matches.ArgMatches.{ArgMatches}
use Rattle.hal_desk.specs.declared.words.Command.{Command}
use Rattle.hal_desk.specs.Words.{number_within, of_count, of_part, of_volume}

-- a word that has to be there, by its place
abbrev pub required : Text → Rule
required id = record (new_rule id) { required = true }

abbrev pub volume_row : Text → Shape
volume_row name = record (new_shape name) { rules = required (codes "volume") ∷ [] }

abbrev pub part_row : Text → Shape
part_row name = record (new_shape name) { rules = required (codes "volume") ∷ required (codes "part") ∷ [] }

abbrev pub count_row : Text → Shape
count_row name = record (new_shape name) { rules = required (codes "volume") ∷ required (codes "count") ∷ required (codes "number") ∷ [] }

abbrev pub rows : List Shape
rows = volume_row (codes "define") ∷ volume_row (codes "load") ∷ volume_row (codes "unload") ∷ volume_row (codes "call")
    ∷ volume_row (codes "report") ∷ part_row (codes "reorg") ∷ count_row (codes "make") ∷ count_row (codes "exercise") ∷ []

-- no word stands beside the rows, and no word or flag asks for help
abbrev pub grammar : App
grammar = record {
  top = record (new_shape (codes "haldb")) {
    is_leaf = false;
    no_binary_name = true;
    disable_help_flag = true;
    disable_help_subcommand = true;
    subcommand_required = true;
  };
  subs = rows;
}

-- none where the words don't fit the grammar, and else the row that they fit
abbrev pub HasParsed : List Text → Option ArgMatches → Type 0
HasParsed words None = fault_of grammar words ≡ [] → ⊥
HasParsed words (Some m) = (fault_of grammar words ≡ []) × (subcommand_rows_of m ≡ subcommand_of grammar words)

-- the command of a row, by the words that it has: a volume, a part, a count and a number
abbrev pub command_by : Text → Option Text → Option Text → Option Text → Option Text → Option Command
command_by name None part count number = None
command_by name (Some volume) (Some part) count number = of_part name volume part
command_by name (Some volume) None None number = of_volume name volume
command_by name (Some volume) None (Some count) None = None
command_by name (Some volume) None (Some count) (Some number) = of_count name volume (number_within 1 10000 count) (number_within 0 4294967295 number)

-- the command of the row that a parse met, none where it met none
abbrev pub command_of_row : Text → List Row → Option Command
command_of_row name found =
    command_by name (first_of (codes "volume") found) (first_of (codes "part") found) (first_of (codes "count") found) (first_of (codes "number") found)

abbrev pub command_in : Option (Text × List Row) → Option Command
command_in None = None
command_in (Some row) = command_of_row row.0 row.1
