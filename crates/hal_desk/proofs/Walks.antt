-- What clap's walk makes of plain words, where each place takes one.
use Rattle.std.proofs.Common.{◌≡◌, ◌∙◌, ℕ, ◌+◌, ◌==◌, ◌||◌, Bool, true, false, not, refl, sym, ap, ap₂, List, [], ◌∷◌, ◌++◌, append-nil, append_assoc, Some, None}
use Rattle.std.specs.Prelude.{min, fold, find}
use Rattle.clap.specs.Lexer.{usize_max}
use Rattle.clap.specs.Kinds.{Kinds, or_else}
use Rattle.clap.specs.Walk.{Held, Names, Rule, Text, Walk, answers_to, arg_by_index, idle, is_multiple, positional_held, subcommand_met, to_positional, value, walk, walk_from, walked, word_met}
use Rattle.clap.specs.Simple.{Shape}
use Rattle.clap.specs.Faults.{positional_fault, step_fault, stray_fault, turn_fault, walk_fault, word_fault}
use Rattle.hal_desk.specs.Words.{is_word}

-- the walk before the word of this place
abbrev pub before : ℕ → Held → Walk
before place h = record { held = h; waiting = idle; position = place; is_trailing = false; stopped = None }

and_fails : (a b : Bool) → not (a || b) ≡ true → a ≡ false
and_fails true b e = sym e
and_fails false b e = refl

no_hyphen : (b : ℕ) (more : Text) → is_word (b ∷ more) ≡ true → (b == 45) ≡ false
no_hyphen b more e = and_fails (b == 45) (b == 43) e

pub plain_met : (c : List Rule) (names : Names) (place : ℕ) (v : Text) (h : Held) → is_word v ≡ true → subcommand_met names idle v ≡ None
    → word_met c names false idle place v h ≡ (h, value)
plain_met c names place [] h w none = cc
plain_met c names place (b ∷ more) h w none = rw (none, no_hyphen b more w, no_hyphen b more w) refl

pub plain_fault : (s : Shape) (names : Names) (v : Text) (h : Held) → is_word v ≡ true → subcommand_met names idle v ≡ None
    → word_fault s names false idle v h ≡ []
plain_fault s names [] h w none = cc
plain_fault s names (b ∷ more) h w none = rw (none, no_hyphen b more w, no_hyphen b more w) refl

pub turn_plain : (s : Shape) (names : Names) (place : ℕ) (v : Text) (h : Held) → is_word v ≡ true → subcommand_met names idle v ≡ None
    → turn_fault s names (before place h) v ≡ step_fault s place h value
turn_plain s names place v h w none =
    ap₂ (λ (a b : Kinds). or_else a b) (plain_fault s names v h w none) (ap (λ met. step_fault s place met.0 met.1) (plain_met s.rules names place v h w none))

pub walked_plain : (c : List Rule) (place : ℕ) (v : Text) (h : Held) → is_word v ≡ true
    → walked c [] (before place h) v ≡ to_positional c (arg_by_index c place) v (before place h) h
unfolding walked
walked_plain c place v h w = rw (plain_met c [] place v h w refl) refl

-- the place takes a word
pub record Takes (s : Shape) (place : ℕ) (h : Held) : Type 0 where
  pub rule : Rule
  pub here : arg_by_index s.rules place ≡ Some rule
  pub one : is_multiple rule ≡ false
  pub more : rule.trailing_var_arg ≡ false
  pub settles : positional_fault s.rules s.args_override_self rule h ≡ []

abbrev pub after : (s : Shape) (place : ℕ) (v : Text) (h : Held) (t : Takes s place h) → Walk
after s place v h t = before (min (place + 1) usize_max) (positional_held s.rules t.rule v h)

pub walked_here : (s : Shape) (place : ℕ) (v : Text) (h : Held) (t : Takes s place h) → is_word v ≡ true → walked s.rules [] (before place h) v ≡ after s place v h t
walked_here s place v h t w = walked_plain s.rules place v h w ∙ rw (t.here, t.one, t.more) refl

pub fault_here : (s : Shape) (place : ℕ) (v : Text) (rest : List Text) (h : Held) (t : Takes s place h) → is_word v ≡ true
    → walk_fault s [] (before place h) (v ∷ rest) ≡ walk_fault s [] (after s place v h t) rest
unfolding walk_fault
fault_here s place v rest h t w =
    let turn : turn_fault s [] (before place h) v ≡ [] = turn_plain s [] place v h w refl ∙ rw t.here t.settles in
    ap₂ (λ (a b : Kinds). or_else a b) turn (ap (λ x. walk_fault s [] x rest) (walked_here s place v h t w))

-- no place takes the word
pub stray_here : (s : Shape) (names : Names) (place : ℕ) (v : Text) (rest : List Text) (h : Held) → is_word v ≡ true → subcommand_met names idle v ≡ None
    → arg_by_index s.rules place ≡ None → walk_fault s names (before place h) (v ∷ rest) ≡ or_else (stray_fault s) (walk_fault s names (walked s.rules names (before place h) v) rest)
unfolding walk_fault
stray_here s names place v rest h w none no_place =
    let turn : turn_fault s names (before place h) v ≡ stray_fault s = turn_plain s names place v h w none ∙ rw no_place refl in
    ap (λ (a : Kinds). or_else a (walk_fault s names (walked s.rules names (before place h) v) rest)) turn

-- a walk that has stopped takes the rest in
pub stopped_walk : (c : List Rule) (names : Names) (w : Walk) (p : Text × List Text) (rest : List Text)
    → fold (walked c names) (record w { stopped = Some p }) rest ≡ record w { stopped = Some (p.0, p.1 ++ rest) }
unfolding walked
stopped_walk c names w p [] = ap (λ (l : List Text). record w { stopped = Some (p.0, l) }) (sym (append-nil p.1))
stopped_walk c names w p (x ∷ rest) =
    stopped_walk c names w (p.0, p.1 ++ x ∷ []) rest ∙ ap (λ (l : List Text). record w { stopped = Some (p.0, l) }) (append_assoc p.1 (x ∷ []) rest)

-- a first word that names a row
pub row_met : (c : List Rule) (names : Names) (h : Held) (name : Text) (label : Text × List Text) → find (answers_to name) names ≡ Some label
    → walked c names (walk_from h) name ≡ record (walk_from h) { stopped = Some (label.0, []) }
unfolding walked
row_met c names h name label found = rw found refl

pub row_walk : (c : List Rule) (names : Names) (h : Held) (name : Text) (label : Text × List Text) (rest : List Text) → find (answers_to name) names ≡ Some label
    → walk c names h (name ∷ rest) ≡ record (walk_from h) { stopped = Some (label.0, rest) }
row_walk c names h name label rest found =
    ap (λ (w : Walk). fold (walked c names) w rest) (row_met c names h name label found) ∙ stopped_walk c names (walk_from h) (label.0, []) rest
