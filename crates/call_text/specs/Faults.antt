-- The first fault of a line from the left: where the longest front ends that some form begins with, and what
-- stands there.
use Rattle.hal_base.specs.Bytes.{is_printable}
use Rattle.std.specs.Prelude.{◌≡◌, ℕ, ◌<◌, ◌≤◌, Bool, true, false, not, ◌==◌, if◌then◌else◌, List, [], ◌∷◌, ◌++◌, length, codes}
use Rattle.std.specs.List.{list_all}
use Rattle.call_text.specs.declared.line.Line.{Line}
use Rattle.call_text.specs.declared.line.Line.TheVariants as lines
use Rattle.call_text.specs.Words.{in_word, is_number, is_count}
use Rattle.call_text.specs.Spelling.{IsGap, IsRoom, SpellsName, SpellsForm}

-- some printable text begins with the front that spells a form with a gap before it, of whatever length
pub record Begins (front : List ℕ) : Type 0 where
  pub more : List ℕ
  pub gap : List ℕ
  pub form : List ℕ
  pub line : Line
  pub whole : front ++ more ≡ gap ++ form
  pub printable : list_all is_printable (front ++ more) ≡ true
  pub gap_is : IsGap gap
  pub form_is : SpellsForm form line

-- no form begins with a byte more
abbrev pub EndsAt : List ℕ → List ℕ → Type 0
EndsAt front [] = Unit {0}
EndsAt front (b ∷ rest) = Begins (front ++ b ∷ []) → ⊥

-- the longest front of a text that some form begins with, and what stands behind it
pub record FirstFault (text front rest : List ℕ) : Type 0 where
  pub whole : text ≡ front ++ rest
  pub begins : Begins front
  pub longest : EndsAt front rest

-- within a value: an odd count of quotes
abbrev pub is_open : List ℕ → Bool
is_open [] = false
is_open (b ∷ front) = if b == 39 then not (is_open front) else is_open front

abbrev pub EndsWord : List ℕ → Type 0
EndsWord [] = Unit {0}
EndsWord (b ∷ rest) = in_word b ≡ false

-- the front ends within or behind a word of digits alone in the place of a step's count that is none: `begun` of
-- it stands before the fault, and `left` behind
pub record IsWrongCount (front rest : List ℕ) : Type 0 where
  pub gap : List ℕ
  pub word : List ℕ
  pub first : List ℕ
  pub verb : List ℕ
  pub second : List ℕ
  pub name : List ℕ
  pub part : List ℕ
  pub third : List ℕ
  pub begun : List ℕ
  pub left : List ℕ
  pub behind : List ℕ
  pub whole : front ≡ (gap ++ (word ++ (first ++ (verb ++ (second ++ (name ++ third)))))) ++ begun
  pub goes_on : rest ≡ left ++ behind
  pub gap_is : IsGap gap
  pub word_is : SpellsName word (codes "REORG")
  pub first_is : IsRoom first
  pub verb_is : SpellsName verb (codes "STEP")
  pub second_is : IsRoom second
  pub name_is : SpellsName name part
  pub third_is : IsRoom third
  pub number : is_number (begun ++ left) ≡ true
  pub wrong : is_count (begun ++ left) ≡ false
  pub ended : EndsWord behind

-- 4 within a value, 5 at a wrong count, 3 elsewhere
pub record HasCause (front rest : List ℕ) (cause : ℕ) : Type 0 where
  pub open_value : is_open front ≡ true → cause ≡ 4
  pub wrong_count : IsWrongCount front rest → cause ≡ 5
  pub else_form : is_open front ≡ false → (IsWrongCount front rest → ⊥) → cause ≡ 3

pub record HasFault (text : List ℕ) (cause : ℕ) : Type 0 where
  pub front : List ℕ
  pub rest : List ℕ
  pub fault : FirstFault text front rest
  pub cause_is : HasCause front rest cause

-- the cause of a bad line
pub record IsBadBy (text : List ℕ) (cause : ℕ) : Type 0 where
  pub too_long : 8192 < length text → cause ≡ 1
  pub odd_byte : length text ≤ 8192 → list_all is_printable text ≡ false → cause ≡ 2
  pub first_fault : length text ≤ 8192 → list_all is_printable text ≡ true → HasFault text cause

abbrev pub IsCaused : List ℕ → Line → Type 0
IsCaused text lines.Silent = Unit {0}
IsCaused text (lines.Call call) = Unit {0}
IsCaused text (lines.Open request) = Unit {0}
IsCaused text (lines.Reorg part command) = Unit {0}
IsCaused text (lines.Bad cause) = IsBadBy text cause
