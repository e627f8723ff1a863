-- What clap makes of the words of one row.
use Rattle.std.proofs.Common.{◌≡◌, ◌∙◌, ℕ, ◌&&◌, Bool, true, false, refl, sym, ap, ap₂, List, [], ◌∷◌, Option, None}
use Rattle.std.specs.Prelude.{codes}
use Rattle.std.specs.List.{list_all}
use Rattle.clap.specs.declared.error.kind.ErrorKind.{ErrorKind}
use Rattle.clap.specs.declared.error.kind.ErrorKind.TheVariants.{MissingRequiredArgument, UnknownArgument}
use Rattle.clap.specs.Kinds.{Kinds, or_else}
use Rattle.clap.specs.Walk.{Held, Row, Rule, Text, Walk, finished, nothing_held, positional_held, settled, walk, walked}
use Rattle.clap.specs.Simple.{Shape, built_leaf, filled, inherited, marked_built, with_index, with_leaf_noted}
use Rattle.clap.specs.Faults.{defaults_fault, check_fault, level_fault, settle_fault, walk_fault}
use Rattle.hal_desk.specs.declared.words.Command.{Command}
use Rattle.hal_desk.specs.Words.{is_word, of_count, of_part, of_volume, row_of}
use Rattle.hal_desk.specs.Grammar.{command_of_row, count_row, grammar, part_row, required, volume_row}
use Rattle.hal_desk.proofs.Walks.{Takes, before, fault_here, stray_here, walked_here}

-- a row as clap builds it below the heading
abbrev pub built_row : Shape → Shape
built_row s = built_leaf (inherited (with_leaf_noted (marked_built grammar.top)) s)

-- ---- one level

abbrev ends : Shape → Walk → Kinds
ends s w = or_else [] (or_else (settle_fault s.rules s.args_override_self w.held)
    (or_else (defaults_fault (settled s.rules w.held).rows s.rules) (check_fault s (finished s.rules w.held) false)))

level_by : (s : Shape) (words : List Text) (w : Walk) (k : Kinds) → walk s.rules [] nothing_held words ≡ w → walk_fault s [] (before 1 nothing_held) words ≡ k
    → level_fault s [] nothing_held words false [] ≡ or_else k (ends s w)
level_by s words w k walks fault = ap₂ (λ (x : Walk) (y : Kinds). or_else y (ends s x)) walks fault

strays : (s : Shape) (words : List Text) → walk_fault s [] (before 1 nothing_held) words ≡ UnknownArgument ∷ []
    → level_fault s [] nothing_held words false [] ≡ UnknownArgument ∷ []
strays s words fault = level_by s words (walk s.rules [] nothing_held words) (UnknownArgument ∷ []) refl fault

-- a fault leads to none, and else the row's words to its command
abbrev pub Leads : Text → Kinds → List Row → Option Command → Type 0
Leads name [] rows command = command ≡ command_of_row name rows
Leads name (k ∷ ks) rows command = command ≡ None

to_none : (name : Text) (f : Kinds) (k : ErrorKind) (ks : Kinds) (rows : List Row) (command : Option Command) → f ≡ k ∷ ks → command ≡ None → Leads name f rows command
to_none name [] k ks rows command e n = cc
to_none name (x ∷ xs) k ks rows command e n = n

to_row : (name : Text) (f : Kinds) (rows r : List Row) (command : Option Command) → f ≡ [] → rows ≡ r → command ≡ command_of_row name r → Leads name f rows command
to_row name [] rows r command e same is = is ∙ ap (command_of_row name) (sym same)
to_row name (x ∷ xs) rows r command e same is = cc

abbrev level : Shape → List Text → Kinds
level s rest = level_fault s [] nothing_held rest false []

abbrev found : Shape → List Text → List Row
found s rest = finished s.rules (walk s.rules [] nothing_held rest).held

abbrev pub LevelLeads : Shape → List Text → Option Command → Type 0
LevelLeads s rest command = Leads s.name (level s rest) (found s rest) command

refuses : (s : Shape) (rest : List Text) (command : Option Command) → level s rest ≡ UnknownArgument ∷ [] → command ≡ None → LevelLeads s rest command
refuses s rest command e n = to_none s.name (level s rest) UnknownArgument [] (found s rest) command e n

accepts : (s : Shape) (rest : List Text) (command : Option Command) (w : Walk) → level s rest ≡ [] → walk s.rules [] nothing_held rest ≡ w
    → command ≡ command_of_row s.name (finished s.rules w.held) → LevelLeads s rest command
accepts s rest command w e walks is =
    to_row s.name (level s rest) (found s rest) (finished s.rules w.held) command e (ap (λ (x : Walk). finished s.rules x.held) walks) is

pub first_is : (a b : Bool) → (a && b) ≡ true → a ≡ true
first_is true b e = refl
first_is false b e = e

pub rest_is : (a b : Bool) → (a && b) ≡ true → b ≡ true
rest_is true b e = e
rest_is false b e = cc

nothing_after : (s : Shape) (w : Walk) → walk_fault s [] w [] ≡ []
unfolding walk_fault
nothing_after s w = refl

-- what is held after a word at a place
abbrev holding : (s : Shape) (place : ℕ) (v : Text) (h : Held) (t : Takes s place h) → Held
holding s place v h t = positional_held s.rules t.rule v h

one_word : (s : Shape) (t : Takes s 1 nothing_held) (v : Text) (k : Kinds) → is_word v ≡ true → ends s (before 2 (holding s 1 v nothing_held t)) ≡ k
    → level_fault s [] nothing_held (v ∷ []) false [] ≡ k
one_word s t v k w end =
    level_by s (v ∷ []) (before 2 (holding s 1 v nothing_held t)) [] (walked_here s 1 v nothing_held t w) (fault_here s 1 v [] nothing_held t w ∙ nothing_after s _) ∙ end

module _ (s : Shape) (v u : Text) (t : Takes s 1 nothing_held) (t2 : Takes s 2 (holding s 1 v nothing_held t)) (w : is_word v ≡ true) (w2 : is_word u ≡ true) where
  pub walk_two : walk s.rules [] nothing_held (v ∷ u ∷ []) ≡ before 3 (holding s 2 u (holding s 1 v nothing_held t) t2)
  walk_two = ap (λ (x : Walk). walked s.rules [] x u) (walked_here s 1 v nothing_held t w) ∙ walked_here s 2 u (holding s 1 v nothing_held t) t2 w2

  pub fault_two : (rest : List Text) → walk_fault s [] (before 1 nothing_held) (v ∷ u ∷ rest) ≡ walk_fault s [] (before 3 (holding s 2 u (holding s 1 v nothing_held t) t2)) rest
  fault_two rest = fault_here s 1 v (u ∷ rest) nothing_held t w ∙ fault_here s 2 u rest (holding s 1 v nothing_held t) t2 w2

  pub two_words : (k : Kinds) → ends s (before 3 (holding s 2 u (holding s 1 v nothing_held t) t2)) ≡ k → level_fault s [] nothing_held (v ∷ u ∷ []) false [] ≡ k
  two_words k end = level_by s (v ∷ u ∷ []) (before 3 (holding s 2 u (holding s 1 v nothing_held t) t2)) [] walk_two (fault_two [] ∙ nothing_after s _) ∙ end

  module _ (x : Text) (t3 : Takes s 3 (holding s 2 u (holding s 1 v nothing_held t) t2)) (w3 : is_word x ≡ true) where
    pub walk_three : walk s.rules [] nothing_held (v ∷ u ∷ x ∷ []) ≡ before 4 (holding s 3 x (holding s 2 u (holding s 1 v nothing_held t) t2) t3)
    walk_three = ap (λ (y : Walk). walked s.rules [] y x) walk_two ∙ walked_here s 3 x (holding s 2 u (holding s 1 v nothing_held t) t2) t3 w3

    pub fault_three : (rest : List Text) → walk_fault s [] (before 1 nothing_held) (v ∷ u ∷ x ∷ rest)
        ≡ walk_fault s [] (before 4 (holding s 3 x (holding s 2 u (holding s 1 v nothing_held t) t2) t3)) rest
    fault_three rest = fault_two (x ∷ rest) ∙ fault_here s 3 x rest (holding s 2 u (holding s 1 v nothing_held t) t2) t3 w3

    pub three_words : (k : Kinds) → ends s (before 4 (holding s 3 x (holding s 2 u (holding s 1 v nothing_held t) t2) t3)) ≡ k → level_fault s [] nothing_held (v ∷ u ∷ x ∷ []) false [] ≡ k
    three_words k end = level_by s (v ∷ u ∷ x ∷ []) (before 4 (holding s 3 x (holding s 2 u (holding s 1 v nothing_held t) t2) t3)) [] walk_three (fault_three [] ∙ nothing_after s _) ∙ end

abbrev place : ℕ → Text → Rule
place i id = with_index i (filled (required id))

-- the words of no other row
pub record NoVolume (name : Text) : Type 0 where
  pub no : (v : Text) → of_volume name v ≡ None

pub record NoPart (name : Text) : Type 0 where
  pub no : (v p : Text) → of_part name v p ≡ None

pub record NoCount (name : Text) : Type 0 where
  pub no : (v : Text) (count number : Option ℕ) → of_count name v count number ≡ None

-- ---- a volume alone

abbrev pub volume_level : Text → Shape
volume_level name = built_row (volume_row name)

abbrev volume_takes : (name : Text) → Takes (volume_level name) 1 nothing_held
volume_takes name = record { rule = place 1 (codes "volume"); here = refl; one = refl; more = refl; settles = refl }

abbrev after_volume : Text → Text → Held
after_volume name v = holding (volume_level name) 1 v nothing_held (volume_takes name)

volume_strays : (name v u : Text) (rest : List Text) → list_all is_word (v ∷ u ∷ rest) ≡ true → row_of (name ∷ v ∷ u ∷ rest) ≡ None
    → LevelLeads (volume_level name) (v ∷ u ∷ rest) (row_of (name ∷ v ∷ u ∷ rest))
volume_strays name v u rest all none =
    let w = first_is (is_word v) (list_all is_word (u ∷ rest)) all in
    let w2 = first_is (is_word u) (list_all is_word rest) (rest_is (is_word v) (list_all is_word (u ∷ rest)) all) in
    refuses (volume_level name) (v ∷ u ∷ rest) (row_of (name ∷ v ∷ u ∷ rest)) (strays (volume_level name) (v ∷ u ∷ rest)
    (fault_here (volume_level name) 1 v (u ∷ rest) nothing_held (volume_takes name) w
    ∙ stray_here (volume_level name) [] 2 u rest (after_volume name v) w2 refl refl)) none

volume_ends : (name v : Text) → ends (volume_level name) (before 2 (after_volume name v)) ≡ []
unfolding defaults_fault
volume_ends name v = refl

no_volume_word : (name : Text) → level (volume_level name) [] ≡ MissingRequiredArgument ∷ []
unfolding walk_fault defaults_fault
no_volume_word name = refl

pub volume_leads : (name : Text) (rest : List Text) → list_all is_word rest ≡ true → NoPart name → NoCount name
    → LevelLeads (volume_level name) rest (row_of (name ∷ rest))
volume_leads name [] all no_part no_count = to_none name (level (volume_level name) []) MissingRequiredArgument [] (found (volume_level name) []) None (no_volume_word name) refl
volume_leads name (v ∷ []) all no_part no_count =
    let w = first_is (is_word v) true all in
    accepts (volume_level name) (v ∷ []) (of_volume name v) (before 2 (after_volume name v))
    (one_word (volume_level name) (volume_takes name) v [] w (volume_ends name v)) (walked_here (volume_level name) 1 v nothing_held (volume_takes name) w) refl
volume_leads name (v ∷ u ∷ []) all no_part no_count = volume_strays name v u [] all (no_part.no v u)
volume_leads name (v ∷ u ∷ x ∷ []) all no_part no_count = volume_strays name v u (x ∷ []) all (no_count.no v _ _)
volume_leads name (v ∷ u ∷ x ∷ y ∷ rest) all no_part no_count = volume_strays name v u (x ∷ y ∷ rest) all refl

-- ---- a volume and a part

abbrev pub part_level : Text → Shape
part_level name = built_row (part_row name)

abbrev part_takes : (name : Text) → Takes (part_level name) 1 nothing_held
part_takes name = record { rule = place 1 (codes "volume"); here = refl; one = refl; more = refl; settles = refl }

abbrev after_first : Text → Text → Held
after_first name v = holding (part_level name) 1 v nothing_held (part_takes name)

abbrev part_takes_two : (name v : Text) → Takes (part_level name) 2 (after_first name v)
part_takes_two name v = record { rule = place 2 (codes "part"); here = refl; one = refl; more = refl; settles = refl }

abbrev after_part : Text → Text → Text → Held
after_part name v u = holding (part_level name) 2 u (after_first name v) (part_takes_two name v)

part_strays : (name v u x : Text) (rest : List Text) → list_all is_word (v ∷ u ∷ x ∷ rest) ≡ true → row_of (name ∷ v ∷ u ∷ x ∷ rest) ≡ None
    → LevelLeads (part_level name) (v ∷ u ∷ x ∷ rest) (row_of (name ∷ v ∷ u ∷ x ∷ rest))
part_strays name v u x rest all none =
    let w = first_is (is_word v) (list_all is_word (u ∷ x ∷ rest)) all in
    let all2 = rest_is (is_word v) (list_all is_word (u ∷ x ∷ rest)) all in
    let w2 = first_is (is_word u) (list_all is_word (x ∷ rest)) all2 in
    let w3 = first_is (is_word x) (list_all is_word rest) (rest_is (is_word u) (list_all is_word (x ∷ rest)) all2) in
    refuses (part_level name) (v ∷ u ∷ x ∷ rest) (row_of (name ∷ v ∷ u ∷ x ∷ rest)) (strays (part_level name) (v ∷ u ∷ x ∷ rest)
    (fault_two (part_level name) v u (part_takes name) (part_takes_two name v) w w2 (x ∷ rest)
    ∙ stray_here (part_level name) [] 3 x rest (after_part name v u) w3 refl refl)) none

part_ends : (name v u : Text) → ends (part_level name) (before 3 (after_part name v u)) ≡ []
unfolding defaults_fault
part_ends name v u = refl

no_part_words : (name : Text) → level (part_level name) [] ≡ MissingRequiredArgument ∷ []
unfolding walk_fault defaults_fault
no_part_words name = refl

no_part_ends : (name v : Text) → ends (part_level name) (before 2 (after_first name v)) ≡ MissingRequiredArgument ∷ []
unfolding defaults_fault
no_part_ends name v = refl

pub part_leads : (name : Text) (rest : List Text) → list_all is_word rest ≡ true → NoVolume name → NoCount name
    → LevelLeads (part_level name) rest (row_of (name ∷ rest))
part_leads name [] all no_volume no_count = to_none name (level (part_level name) []) MissingRequiredArgument [] (found (part_level name) []) None (no_part_words name) refl
part_leads name (v ∷ []) all no_volume no_count =
    let w = first_is (is_word v) true all in
    to_none name (level (part_level name) (v ∷ [])) MissingRequiredArgument [] (found (part_level name) (v ∷ [])) (of_volume name v)
    (one_word (part_level name) (part_takes name) v (MissingRequiredArgument ∷ []) w (no_part_ends name v)) (no_volume.no v)
part_leads name (v ∷ u ∷ []) all no_volume no_count =
    let w = first_is (is_word v) (is_word u && true) all in
    let w2 = first_is (is_word u) true (rest_is (is_word v) (is_word u && true) all) in
    accepts (part_level name) (v ∷ u ∷ []) (of_part name v u) (before 3 (after_part name v u))
    (two_words (part_level name) v u (part_takes name) (part_takes_two name v) w w2 [] (part_ends name v u))
    (walk_two (part_level name) v u (part_takes name) (part_takes_two name v) w w2) refl
part_leads name (v ∷ u ∷ x ∷ []) all no_volume no_count = part_strays name v u x [] all (no_count.no v _ _)
part_leads name (v ∷ u ∷ x ∷ y ∷ rest) all no_volume no_count = part_strays name v u x (y ∷ rest) all refl

-- ---- a volume, a count and a number

abbrev pub count_level : Text → Shape
count_level name = built_row (count_row name)

abbrev count_takes : (name : Text) → Takes (count_level name) 1 nothing_held
count_takes name = record { rule = place 1 (codes "volume"); here = refl; one = refl; more = refl; settles = refl }

abbrev count_first : Text → Text → Held
count_first name v = holding (count_level name) 1 v nothing_held (count_takes name)

abbrev count_takes_two : (name v : Text) → Takes (count_level name) 2 (count_first name v)
count_takes_two name v = record { rule = place 2 (codes "count"); here = refl; one = refl; more = refl; settles = refl }

abbrev count_second : Text → Text → Text → Held
count_second name v u = holding (count_level name) 2 u (count_first name v) (count_takes_two name v)

abbrev count_takes_three : (name v u : Text) → Takes (count_level name) 3 (count_second name v u)
count_takes_three name v u = record { rule = place 3 (codes "number"); here = refl; one = refl; more = refl; settles = refl }

abbrev count_third : Text → Text → Text → Text → Held
count_third name v u x = holding (count_level name) 3 x (count_second name v u) (count_takes_three name v u)

count_ends : (name v u x : Text) → ends (count_level name) (before 4 (count_third name v u x)) ≡ []
unfolding defaults_fault
count_ends name v u x = refl

no_count_words : (name : Text) → level (count_level name) [] ≡ MissingRequiredArgument ∷ []
unfolding walk_fault defaults_fault
no_count_words name = refl

no_count_ends : (name v : Text) → ends (count_level name) (before 2 (count_first name v)) ≡ MissingRequiredArgument ∷ []
unfolding defaults_fault
no_count_ends name v = refl

no_number_ends : (name v u : Text) → ends (count_level name) (before 3 (count_second name v u)) ≡ MissingRequiredArgument ∷ []
unfolding defaults_fault
no_number_ends name v u = refl

pub count_leads : (name : Text) (rest : List Text) → list_all is_word rest ≡ true → NoVolume name → NoPart name
    → LevelLeads (count_level name) rest (row_of (name ∷ rest))
count_leads name [] all no_volume no_part = to_none name (level (count_level name) []) MissingRequiredArgument [] (found (count_level name) []) None (no_count_words name) refl
count_leads name (v ∷ []) all no_volume no_part =
    let w = first_is (is_word v) true all in
    to_none name (level (count_level name) (v ∷ [])) MissingRequiredArgument [] (found (count_level name) (v ∷ [])) (of_volume name v)
    (one_word (count_level name) (count_takes name) v (MissingRequiredArgument ∷ []) w (no_count_ends name v)) (no_volume.no v)
count_leads name (v ∷ u ∷ []) all no_volume no_part =
    let w = first_is (is_word v) (is_word u && true) all in
    let w2 = first_is (is_word u) true (rest_is (is_word v) (is_word u && true) all) in
    to_none name (level (count_level name) (v ∷ u ∷ [])) MissingRequiredArgument [] (found (count_level name) (v ∷ u ∷ [])) (of_part name v u)
    (two_words (count_level name) v u (count_takes name) (count_takes_two name v) w w2 (MissingRequiredArgument ∷ []) (no_number_ends name v u)) (no_part.no v u)
count_leads name (v ∷ u ∷ x ∷ []) all no_volume no_part =
    let w = first_is (is_word v) (is_word u && (is_word x && true)) all in
    let all2 = rest_is (is_word v) (is_word u && (is_word x && true)) all in
    let w2 = first_is (is_word u) (is_word x && true) all2 in
    let w3 = first_is (is_word x) true (rest_is (is_word u) (is_word x && true) all2) in
    accepts (count_level name) (v ∷ u ∷ x ∷ []) (row_of (name ∷ v ∷ u ∷ x ∷ [])) (before 4 (count_third name v u x))
    (three_words (count_level name) v u (count_takes name) (count_takes_two name v) w w2 x (count_takes_three name v u) w3 [] (count_ends name v u x))
    (walk_three (count_level name) v u (count_takes name) (count_takes_two name v) w w2 x (count_takes_three name v u) w3) refl
count_leads name (v ∷ u ∷ x ∷ y ∷ rest) all no_volume no_part =
    let w = first_is (is_word v) (list_all is_word (u ∷ x ∷ y ∷ rest)) all in
    let all2 = rest_is (is_word v) (list_all is_word (u ∷ x ∷ y ∷ rest)) all in
    let w2 = first_is (is_word u) (list_all is_word (x ∷ y ∷ rest)) all2 in
    let all3 = rest_is (is_word u) (list_all is_word (x ∷ y ∷ rest)) all2 in
    let w3 = first_is (is_word x) (list_all is_word (y ∷ rest)) all3 in
    let w4 = first_is (is_word y) (list_all is_word rest) (rest_is (is_word x) (list_all is_word (y ∷ rest)) all3) in
    refuses (count_level name) (v ∷ u ∷ x ∷ y ∷ rest) None (strays (count_level name) (v ∷ u ∷ x ∷ y ∷ rest)
    (fault_three (count_level name) v u (count_takes name) (count_takes_two name v) w w2 x (count_takes_three name v u) w3 (y ∷ rest)
    ∙ stray_here (count_level name) [] 4 y rest (count_third name v u x) w4 refl refl)) refl
