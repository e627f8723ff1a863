-- A text of such lines reads as their expressions, one after the other.
use Rattle.std.proofs.Common.{◌≡◌, ℕ, ◌-◌, ◌<◌, true, false, ◌==◌, List, [], ◌∷◌, ◌++◌, length, Option, Some, None, option_and_then, refl, sym, ap, ◌∙◌, arith, append_assoc, append-nil}
use Rattle.std.proofs.lemmas.Bool.Decides.{nat_tests}
use Rattle.toml_parser.specs.Lexical.{skip_blank}
use Rattle.toml_parser.proofs.LexicalLemmas.{skip_from-nil}
use Rattle.toml.specs.Tables.{Document, Expression, define}
use Rattle.toml.specs.Parse.{line, lines}
use Rattle.toml.specs.Text.{IsLineText}
use Rattle.toml.proofs.Turns.{lines_end, lines_more, lines_refused}
use Rattle.toml.proofs.Blanks.{skip_newline, skip_within}
use Rattle.toml.proofs.ReadLines.{run, AllPrinted, line_turn}

-- the text writes these expressions, each on a line, with no empty line between
abbrev pub WritesLines : List Expression → List ℕ → Type 0
WritesLines [] text = text ≡ []
WritesLines (e ∷ es) text = (this : List ℕ) × (rest : List ℕ) × (text ≡ this ++ rest) × IsLineText false false e.0 e.1 this × WritesLines es rest

pub one_line : (e : Expression) (text : List ℕ) → IsLineText false false e.0 e.1 text → WritesLines (e ∷ []) text
one_line e text h = (text, [], sym (append-nil text), h, refl)

pub more_lines : (es fs : List Expression) (text more : List ℕ) → WritesLines es text → WritesLines fs more → WritesLines (es ++ fs) (text ++ more)
more_lines [] fs text more a b = rw a b
more_lines (e ∷ es) fs text more a b =
    let (this, rest, whole, here, later) = a in
    (this, rest ++ more, rw whole (append_assoc this rest more), here, more_lines es fs rest more later b)

pub printed_append : (es fs : List Expression) → AllPrinted es → AllPrinted fs → AllPrinted (es ++ fs)
printed_append [] fs a b = b
printed_append (e ∷ es) fs a b = (a.0, printed_append es fs a.1 b)

read_step : (m : ℕ) (doc : Document) (x : List ℕ) (e : Expression) (after : List ℕ) (es : List Expression) (defined : Option Document) → defined ≡ define doc e → 0 < m → (length (skip_blank x) == 0) ≡ false
    → line (skip_blank x) ≡ Some (e, after) → ((next : Document) → lines (m - 1) next after ≡ option_and_then (λ n. run n es) (Some next)) → lines m doc x ≡ option_and_then (λ n. run n es) defined
read_step m doc x e after es None same some other read more = lines_refused m doc x e after some other read (sym same)
read_step m doc x e after es (Some next) same some other read more = lines_more m doc next x e after some other read (sym same) ∙ more next

pub read_text : (es : List Expression) (text x : List ℕ) (doc : Document) (m : ℕ) → WritesLines es text → AllPrinted es → skip_blank x ≡ skip_blank text → length x < m → lines m doc x ≡ run doc es
read_text [] text x doc m h ok skip room = lines_end m doc x (omega arith) (rw (skip, h, skip_from-nil true false) refl)
read_text (e ∷ es) text x doc m h ok skip room =
    let (this, rest, whole, line_text, more) = h in
    let (s, at_start, read, some, shorter, not_bom) = line_turn false false e.0 e.1 this rest line_text ok.0 in
    let same : skip_blank x ≡ s = skip ∙ rw whole at_start in
    let other : (length (skip_blank x) == 0) ≡ false = rw same (grind (arith, nat_tests)) in
    let within = skip_within x in
    read_step m doc x e (10 ∷ rest) es (define doc e) refl (omega arith) other (rw same read) (λ next. read_text es rest (10 ∷ rest) next (m - 1) more ok.1 (skip_newline rest) (omega (arith, ap length same)))
