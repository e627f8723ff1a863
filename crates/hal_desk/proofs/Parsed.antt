-- A parse of words by the grammar leads to the command that the table has for them.
use Rattle.std.proofs.Common.{◌≡◌, ◌∙◌, ℕ, ◌&&◌, Bool, true, false, refl, sym, ap, ap₂, subst, inl, inr, List, [], ◌∷◌, ◌++◌, Option, Some, None}
use Rattle.std.specs.Prelude.{Box, codes, cond, find, is_some, map, option_map}
use Rattle.std.specs.List.{list_all}
use Rattle.std.specs.Str.{bytes_eq}
use Rattle.std.proofs.lemmas.Slice.Eq.{bytes_eq-Decides}
use Rattle.clap.specs.declared.error.kind.ErrorKind.{ErrorKind}
use Rattle.clap.specs.declared.error.kind.ErrorKind.TheVariants.{DisplayHelp, InvalidSubcommand, MissingSubcommand, OutOfMemory, UnknownArgument}
use Rattle.clap.specs.Kinds.{HasKind, Kinds, or_else}
use Rattle.clap.specs.Walk.{Held, Row, Step, Text, Walk, answers_to, finished, first_of, idle, nothing_held, rows_of, settled, stop_after, subcommand, subcommand_met, subcommand_or_other, walk, walk_from, walked, word_met}
use Rattle.clap.specs.Simple.{App, Shape, built, entered, label_of, rows_at, subcommand_of}
use Rattle.clap.specs.Faults.{built_fault, check_fault, defaults_fault, entered_fault, fault_of, is_simple_and_free, level_fault, other_fault, settle_fault, step_fault, turn_fault, walk_fault, word_fault}
use Rattle.clap.specs.Matches.{first_value, found_of}
use Rattle.clap.specs.Values.{kind_of}
use Rattle.clap.specs.declared.error.Error.{Error}
use Rattle.clap.specs.declared.parser.matches.Found.{Found}
use Rattle.clap.proofs.WalkLemmas.{first_value-rows}
use Rattle.std.specs.Borrow.{Bor}
use Rattle.clap.specs.Simple.{subcommand_rows, subcommand_rows_of}
use Rattle.clap.specs.declared.parser.matches.ArgMatches.{ArgMatches}
use Rattle.clap.specs.declared.parser.matches.ArgMatches.TheViews.{out-SubCommand}
use Rattle.clap.specs.declared.parser.matches.SubCommand.{SubCommand}
use Rattle.std.specs.Box.{box_value}
use Rattle.hal_desk.specs.declared.words.Command.{Command}
use Rattle.hal_desk.specs.Words.{command_of, is_word, number_within, of_count, of_part, of_volume, row_of}
use Rattle.hal_desk.specs.Grammar.{HasParsed, command_by, command_in, command_of_row, grammar}
use Rattle.hal_desk.proofs.Walks.{row_met, row_walk, stray_here}
use Rattle.hal_desk.proofs.Levels.{Leads, LevelLeads, NoCount, NoPart, NoVolume, count_leads, count_level, first_is, part_leads, part_level, rest_is, volume_leads, volume_level}

abbrev top : Shape
top = (built grammar).top

-- ---- a first word that names a row

no_help : (name word : Text) (h : Held) → other_fault top (Some name) word h ≡ []
no_help name word h = go (bytes_eq name (codes "help"))
  where
    go : (b : Bool) → cond (b && false) (DisplayHelp ∷ InvalidSubcommand ∷ []) [] ≡ []
    go true = refl
    go false = refl

stopped_fault : (subs : List Shape) (w : Walk) (p : Text × List Text) (words : List Text) → walk_fault top (map label_of subs) (record w { stopped = Some p }) words ≡ []
unfolding walk_fault walked
stopped_fault subs w p [] = refl
stopped_fault subs w p (x ∷ xs) = stopped_fault subs w (p.0, p.1 ++ x ∷ []) xs

row_turn : (subs : List Shape) (name : Text) (label : Text × List Text) → find (answers_to name) (map label_of subs) ≡ Some label
    → turn_fault top (map label_of subs) (walk_from nothing_held) name ≡ []
row_turn subs name label found =
    let word : word_fault top (map label_of subs) false idle name nothing_held ≡ [] =
    ap (λ (o : Option (Text × List Text)). other_fault top (option_map (λ s. s.0) o) name nothing_held) found ∙ no_help label.0 name nothing_held in
    let met : word_met [] (map label_of subs) false idle 1 name nothing_held ≡ (nothing_held, subcommand label.0) =
    ap (λ (o : Option (Text × List Text)). subcommand_or_other [] (option_map (λ s. s.0) o) idle 1 name nothing_held) found in
    ap₂ (λ (a b : Kinds). or_else a b) word (ap (λ (m : Held × Step). step_fault top 1 m.0 m.1) met)

row_fault : (subs : List Shape) (name : Text) (label : Text × List Text) (rest : List Text) → find (answers_to name) (map label_of subs) ≡ Some label
    → walk_fault top (map label_of subs) (walk_from nothing_held) (name ∷ rest) ≡ []
unfolding walk_fault
row_fault subs name label rest found =
    let next : walk_fault top (map label_of subs) (walked [] (map label_of subs) (walk_from nothing_held) name) rest ≡ [] =
    ap (λ (w : Walk). walk_fault top (map label_of subs) w rest) (row_met [] (map label_of subs) nothing_held name label found)
    ∙ stopped_fault subs (walk_from nothing_held) (label.0, []) rest in
    ap₂ (λ (a b : Kinds). or_else a b) (row_turn subs name label found) next

abbrev app : List Shape → App
app subs = record { top = top; subs = subs }

-- what is left to see after the walk over the top's words
abbrev rest_fault : List Shape → Walk → Kinds
rest_fault subs w = or_else (entered_fault (app subs) w.stopped) (or_else (settle_fault top.rules top.args_override_self w.held)
    (or_else (defaults_fault (settled top.rules w.held).rows top.rules) (check_fault top (finished top.rules w.held) (is_some (entered (app subs) w.stopped)))))

by_row : (subs : List Shape) (label : Text × List Text) (rest : List Text) (o : Option Shape) (s : Shape) → o ≡ Some s
    → find (λ x. answers_to label.0 (label_of x)) subs ≡ o
    → rest_fault subs (record (walk_from nothing_held) { stopped = Some (label.0, rest) }) ≡ or_else (level_fault s [] nothing_held rest false []) []
unfolding defaults_fault
by_row subs label rest o s is finds = rw (finds, is) refl

row_level : (subs : List Shape) (name : Text) (label : Text × List Text) (rest : List Text) (s : Shape) → find (answers_to name) (map label_of subs) ≡ Some label
    → find (λ x. answers_to label.0 (label_of x)) subs ≡ Some s
    → built_fault (app subs) nothing_held (name ∷ rest) ≡ or_else (level_fault s [] nothing_held rest false []) []
row_level subs name label rest s found finds =
    ap (λ (k : Kinds). or_else k (rest_fault subs (walk top.rules (map label_of subs) nothing_held (name ∷ rest)))) (row_fault subs name label rest found)
    ∙ ap (rest_fault subs) (row_walk top.rules (map label_of subs) nothing_held name label rest found)
    ∙ by_row subs label rest (Some s) s refl finds

row_rows : (subs : List Shape) (name : Text) (label : Text × List Text) (rest : List Text) (s : Shape) → find (answers_to name) (map label_of subs) ≡ Some label
    → find (λ x. answers_to label.0 (label_of x)) subs ≡ Some s
    → entered (app subs) (stop_after top.rules (map label_of subs) (name ∷ rest)) ≡ Some (rows_at s rest)
row_rows subs name label rest s found finds =
    ap (λ (w : Walk). entered (app subs) w.stopped) (row_walk top.rules (map label_of subs) nothing_held name label rest found) ∙ rw finds refl

-- ---- what a parse leads to

-- a fault leads to none, and else the row that was met to its command
abbrev pub Reads : Kinds → Option (Text × List Row) → Option Command → Type 0
Reads [] row command = command ≡ command_in row
Reads (k ∷ ks) row command = command ≡ None

reads_row : (f g : Kinds) (name : Text) (rows : List Row) (p : Option (Text × List Row)) (command : Option Command) → f ≡ or_else g []
    → p ≡ Some (name, rows) → Leads name g rows command → Reads f p command
reads_row f [] name rows p command e s l = rw (e, s) l
reads_row f (k ∷ ks) name rows p command e s l = rw e l

pub record WordsRead (words : List Text) : Type 0 where
  pub reads : Reads (fault_of grammar words) (subcommand_of grammar words) (row_of words)

abbrev shapes : List Shape
shapes = (built grammar).subs

reads_level : (name : Text) (rest : List Text) (s : Shape) → find (answers_to name) (map label_of shapes) ≡ Some (name, [])
    → find (λ x. answers_to name (label_of x)) shapes ≡ Some s → LevelLeads s rest (row_of (name ∷ rest)) → WordsRead (name ∷ rest)
reads_level name rest s found finds leads = record {
  reads = reads_row (fault_of grammar (name ∷ rest)) (level_fault s [] nothing_held rest false []) s.name (rows_at s rest).1
      (subcommand_of grammar (name ∷ rest)) (row_of (name ∷ rest)) (row_level shapes name (name, []) rest s found finds)
      (row_rows shapes name (name, []) rest s found finds) leads;
}

no_count : (name : Text) → bytes_eq name (codes "make") ≡ false → bytes_eq name (codes "exercise") ≡ false → NoCount name
no_count name e f = record { no = go }
  where
    go : (v : Text) (count number : Option ℕ) → of_count name v count number ≡ None
    go v (Some n) (Some m) = rw (e, f) refl
    go v (Some n) None = refl
    go v None m = refl

volume_case : (name : Text) (rest : List Text) → list_all is_word rest ≡ true → find (answers_to name) (map label_of shapes) ≡ Some (name, [])
    → find (λ x. answers_to name (label_of x)) shapes ≡ Some (volume_level name) → NoPart name → NoCount name → WordsRead (name ∷ rest)
volume_case name rest all found finds no_part no_count =
    reads_level name rest (volume_level name) found finds (volume_leads name rest all no_part no_count)

count_case : (name : Text) (rest : List Text) → list_all is_word rest ≡ true → find (answers_to name) (map label_of shapes) ≡ Some (name, [])
    → find (λ x. answers_to name (label_of x)) shapes ≡ Some (count_level name) → NoVolume name → NoPart name → WordsRead (name ∷ rest)
count_case name rest all found finds no_volume no_part =
    reads_level name rest (count_level name) found finds (count_leads name rest all no_volume no_part)

reorg_case : (rest : List Text) → list_all is_word rest ≡ true → WordsRead (codes "reorg" ∷ rest)
reorg_case rest all = reads_level (codes "reorg") rest (part_level (codes "reorg")) refl refl
    (part_leads (codes "reorg") rest all (record { no = λ v. refl }) (no_count (codes "reorg") refl refl))

-- ---- a first word that names no row

flipped : (x name : Text) → bytes_eq x name ≡ false → bytes_eq name x ≡ false
flipped x name e = go (bytes_eq name x) refl
  where
    go : (b : Bool) → bytes_eq name x ≡ b → b ≡ false
    go true t =
        let same : name ≡ x = (bytes_eq-Decides name x).0 t in
        let back : bytes_eq x name ≡ true = (bytes_eq-Decides x name).1 (sym same) in
        cc
    go false t = refl

no_row : (name : Text) (rest : List Text) → NoVolume name → NoPart name → NoCount name → row_of (name ∷ rest) ≡ None
no_row name [] a b c = refl
no_row name (v ∷ []) a b c = a.no v
no_row name (v ∷ u ∷ []) a b c = b.no v u
no_row name (v ∷ u ∷ x ∷ []) a b c = c.no v _ _
no_row name (v ∷ u ∷ x ∷ y ∷ rest) a b c = refl

unnamed_fault : (name : Text) (rest : List Text) → is_word name ≡ true → find (answers_to name) (map label_of shapes) ≡ None
    → fault_of grammar (name ∷ rest) ≡ UnknownArgument ∷ InvalidSubcommand ∷ []
unnamed_fault name rest w none =
    let met : subcommand_met (map label_of shapes) idle name ≡ None = ap (option_map (λ s. s.0)) none in
    ap (λ (k : Kinds). or_else k (rest_fault shapes (walk top.rules (map label_of shapes) nothing_held (name ∷ rest))))
    (stray_here top (map label_of shapes) 1 name rest nothing_held w met refl)

to_none : (f g : Kinds) (k : ErrorKind) (p : Option (Text × List Row)) (command : Option Command) → f ≡ k ∷ g → command ≡ None → Reads f p command
to_none f g k p command e n = rw e n

unnamed : (name : Text) (rest : List Text) → is_word name ≡ true
    → bytes_eq (codes "define") name ≡ false → bytes_eq (codes "load") name ≡ false → bytes_eq (codes "unload") name ≡ false
    → bytes_eq (codes "call") name ≡ false → bytes_eq (codes "report") name ≡ false → bytes_eq (codes "reorg") name ≡ false
    → bytes_eq (codes "make") name ≡ false → bytes_eq (codes "exercise") name ≡ false → WordsRead (name ∷ rest)
unnamed name rest w d l u c r o m e =
    let none : find (answers_to name) (map label_of shapes) ≡ None = rw (d, l, u, c, r, o, m, e) refl in
    let no_volume : NoVolume name =
    record { no = λ v. rw (flipped _ name d, flipped _ name l, flipped _ name u, flipped _ name c, flipped _ name r) refl } in
    let no_part : NoPart name = record { no = λ v p. rw (flipped _ name o) refl } in
    record {
      reads = to_none (fault_of grammar (name ∷ rest)) (InvalidSubcommand ∷ []) UnknownArgument (subcommand_of grammar (name ∷ rest)) (row_of (name ∷ rest)) (unnamed_fault name rest w none)
          (no_row name rest no_volume no_part (no_count name (flipped _ name m) (flipped _ name e)));
    }

-- ---- all words

either : (x name : Text) (rest : List Text) → WordsRead (x ∷ rest) → (bytes_eq x name ≡ false → WordsRead (name ∷ rest)) → WordsRead (name ∷ rest)
either x name rest here other = go (bytes_eq x name) refl
  where
    go : (b : Bool) → bytes_eq x name ≡ b → WordsRead (name ∷ rest)
    go true e = subst (λ (n : Text). WordsRead (n ∷ rest)) ((bytes_eq-Decides x name).0 e) here
    go false e = other e

by_volume : (name : Text) (rest : List Text) → list_all is_word rest ≡ true → find (answers_to name) (map label_of shapes) ≡ Some (name, [])
    → find (λ x. answers_to name (label_of x)) shapes ≡ Some (volume_level name) → bytes_eq name (codes "reorg") ≡ false
    → bytes_eq name (codes "make") ≡ false → bytes_eq name (codes "exercise") ≡ false → WordsRead (name ∷ rest)
by_volume name rest all found finds o m e = volume_case name rest all found finds (record { no = λ v p. rw o refl }) (no_count name m e)

named : (name : Text) (rest : List Text) → is_word name ≡ true → list_all is_word rest ≡ true → WordsRead (name ∷ rest)
named name rest w all =
    either (codes "define") name rest (by_volume (codes "define") rest all refl refl refl refl refl) (λ d.
    either (codes "load") name rest (by_volume (codes "load") rest all refl refl refl refl refl) (λ l.
    either (codes "unload") name rest (by_volume (codes "unload") rest all refl refl refl refl refl) (λ u.
    either (codes "call") name rest (by_volume (codes "call") rest all refl refl refl refl refl) (λ c.
    either (codes "report") name rest (by_volume (codes "report") rest all refl refl refl refl refl) (λ r.
    either (codes "reorg") name rest (reorg_case rest all) (λ o.
    either (codes "make") name rest (count_case (codes "make") rest all refl refl (record { no = λ v. refl }) (record { no = λ v p. refl })) (λ m.
    either (codes "exercise") name rest (count_case (codes "exercise") rest all refl refl (record { no = λ v. refl }) (record { no = λ v p. refl })) (λ e.
    unnamed name rest w d l u c r o m e))))))))

no_words : fault_of grammar [] ≡ MissingSubcommand ∷ []
unfolding walk_fault defaults_fault
no_words = refl

pub words_read : (words : List Text) → list_all is_word words ≡ true → WordsRead words
words_read [] all = record { reads = to_none (fault_of grammar []) [] MissingSubcommand (subcommand_of grammar []) None no_words refl }
words_read (name ∷ rest) all = named name rest (first_is (is_word name) (list_all is_word rest) all) (rest_is (is_word name) (list_all is_word rest) all)

no_fault : (f : Kinds) (p : Option (Text × List Row)) (command : Option Command) → f ≡ [] → Reads f p command → command ≡ command_in p
no_fault f p command e r = rw e at r

some_fault : (f : Kinds) (p : Option (Text × List Row)) (command : Option Command) → (f ≡ [] → ⊥) → Reads f p command → command ≡ None
some_fault [] p command e r = absurd (e refl)
some_fault (k ∷ ks) p command e r = r

by_table : (words : List Text) → list_all is_word words ≡ true → row_of words ≡ command_of words
by_table words all = rw all refl

pub taken_words : (words : List Text) (p : Option (Text × List Row)) → list_all is_word words ≡ true → fault_of grammar words ≡ [] → p ≡ subcommand_of grammar words
    → command_in p ≡ command_of words
taken_words words p all e is =
    ap command_in is ∙ sym (no_fault (fault_of grammar words) (subcommand_of grammar words) (row_of words) e (words_read words all).reads) ∙ by_table words all

pub refused_words : (words : List Text) → list_all is_word words ≡ true → (fault_of grammar words ≡ [] → ⊥) → None ≡ command_of words
refused_words words all e =
    sym (some_fault (fault_of grammar words) (subcommand_of grammar words) (row_of words) e (words_read words all).reads) ∙ by_table words all

-- the name and the words of the row that a parse met
pub met_row : {Z : Type 0} (o : Option (Box SubCommand Z)) (name : Text) (rows : List Row)
    → Some name ≡ option_map (λ b. (out-SubCommand (box_value b)).name.now) o → Some rows ≡ option_map (λ p. p.1) (subcommand_rows o)
    → Some (name, rows) ≡ subcommand_rows o
met_row None name rows n r = cc
met_row (Some b) name rows n r =
    let a : name ≡ (out-SubCommand (box_value b)).name.now = cc in
    let c : rows ≡ rows_of (found_of (out-SubCommand (box_value b)).matches) = cc in
    ap₂ (λ (x : Text) (y : List Row). Some (x, y)) a c

pub no_row_met : {Z : Type 0} (o : Option (Box SubCommand Z)) → None ≡ option_map (λ b. (out-SubCommand (box_value b)).name.now) o → None ≡ subcommand_rows o
no_row_met None n = refl
no_row_met (Some b) n = cc

-- ---- what is read of a row that was met

pub no_volume_given : (name : Text) (f : Found) → None ≡ first_value f (codes "volume") → None ≡ command_of_row name (rows_of f)
no_volume_given name f v =
    ap (λ x. command_by name x (first_of (codes "part") (rows_of f)) (first_of (codes "count") (rows_of f)) (first_of (codes "number") (rows_of f)))
    (v ∙ first_value-rows f (codes "volume"))

abbrev volume_given : Text → Text → Found → Option Text → Option Text → Option Command
volume_given name v f p c = command_by name (Some v) p c (first_of (codes "number") (rows_of f))

with_volume : (name v : Text) (f : Found) → Some v ≡ first_value f (codes "volume")
    → volume_given name v f (first_of (codes "part") (rows_of f)) (first_of (codes "count") (rows_of f)) ≡ command_of_row name (rows_of f)
with_volume name v f is =
    ap (λ x. command_by name x (first_of (codes "part") (rows_of f)) (first_of (codes "count") (rows_of f)) (first_of (codes "number") (rows_of f)))
    (is ∙ first_value-rows f (codes "volume"))

pub part_given : (name v p : Text) (f : Found) → Some v ≡ first_value f (codes "volume") → Some p ≡ first_value f (codes "part")
    → of_part name v p ≡ command_of_row name (rows_of f)
part_given name v p f is part =
    ap (λ x. volume_given name v f x (first_of (codes "count") (rows_of f))) (part ∙ first_value-rows f (codes "part")) ∙ with_volume name v f is

no_part : (name v : Text) (f : Found) (c : Option Text) → Some v ≡ first_value f (codes "volume") → None ≡ first_value f (codes "part") → c ≡ first_value f (codes "count")
    → volume_given name v f None c ≡ command_of_row name (rows_of f)
no_part name v f c is part count =
    ap₂ (λ x y. volume_given name v f x y) (part ∙ first_value-rows f (codes "part")) (count ∙ first_value-rows f (codes "count")) ∙ with_volume name v f is

pub alone_given : (name v : Text) (f : Found) → Some v ≡ first_value f (codes "volume") → None ≡ first_value f (codes "part") → None ≡ first_value f (codes "count")
    → of_volume name v ≡ command_of_row name (rows_of f)
alone_given name v f is part count = no_part name v f None is part count

pub no_number_given : (name v c : Text) (f : Found) → Some v ≡ first_value f (codes "volume") → None ≡ first_value f (codes "part") → Some c ≡ first_value f (codes "count")
    → None ≡ first_value f (codes "number") → None ≡ command_of_row name (rows_of f)
no_number_given name v c f is part count number =
    ap (λ x. command_by name (Some v) None (Some c) x) (number ∙ first_value-rows f (codes "number")) ∙ no_part name v f (Some c) is part count

pub count_given : (name v c n : Text) (f : Found) → Some v ≡ first_value f (codes "volume") → None ≡ first_value f (codes "part") → Some c ≡ first_value f (codes "count")
    → Some n ≡ first_value f (codes "number")
    → of_count name v (number_within 1 10000 c) (number_within 0 4294967295 n) ≡ command_of_row name (rows_of f)
count_given name v c n f is part count number =
    ap (λ x. command_by name (Some v) None (Some c) x) (number ∙ first_value-rows f (codes "number")) ∙ no_part name v f (Some c) is part count

-- ---- what a parse answers

pub is_free : is_simple_and_free grammar ≡ true
is_free = refl

pub not_memory : (k : Kinds) (e : Error) → HasKind k e → (kind_of e ≡ OutOfMemory → ⊥) → k ≡ [] → ⊥
not_memory [] e (inl m) other is = other m
not_memory [] e (inr h) other is = absurd h
not_memory (x ∷ xs) e h other is = cc

pub parsed_none : (words : List Text) (o : Option ArgMatches) → o ≡ None → HasParsed words o → list_all is_word words ≡ true → None ≡ command_of words
parsed_none words None is h all = refused_words words all h
parsed_none words (Some m) is h all = cc

pub parsed_some : (words : List Text) (o : Option ArgMatches) (m : ArgMatches) → o ≡ Some m → HasParsed words o → list_all is_word words ≡ true
    → command_in (subcommand_rows_of m) ≡ command_of words
parsed_some words None m is h all = cc
parsed_some words (Some n) m is h all =
    let same : n ≡ m = cc in
    subst (λ (x : ArgMatches). command_in (subcommand_rows_of x) ≡ command_of words) same (taken_words words (subcommand_rows_of n) all h.0 h.1)

-- what an answer of the getters says
pub none_of : (o : Option (Bor Text)) (x : Option Text) → o ≡ None → option_map (λ s. s.now) o ≡ x → None ≡ x
none_of o x is e = rw is at e

pub some_of : (o : Option (Bor Text)) (s : Bor Text) (x : Option Text) → o ≡ Some s → option_map (λ s. s.now) o ≡ x → Some s.now ≡ x
some_of o s x is e = rw is at e
