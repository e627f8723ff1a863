-- The statements of lines, one line after the other.
use Rattle.std.proofs.Common.{◌≡◌, ℕ, ◌+◌, Bool, true, false, cond, List, [], ◌∷◌, Option, Some, None, refl, sym, ap, ◌∙◌, arith}
use Rattle.dbd_reader.specs.declared.statement.Statement.{Statement}
use Rattle.dbd_reader.specs.Lines.{is_comment}
use Rattle.dbd_reader.specs.Statements.{begun, goes_on, extended, taken, statements}

pub comment_passed : (n : ℕ) (line : List ℕ) (lines : List (List ℕ)) → is_comment line ≡ true → statements n None (line ∷ lines) ≡ statements (n + 1) None lines
unfolding statements
comment_passed n line lines is = rw is refl

pub statement_begun : (n : ℕ) (line : List ℕ) (lines : List (List ℕ)) → is_comment line ≡ false → statements n None (line ∷ lines) ≡ statements (n + 1) (Some (begun n line)) lines
unfolding statements
statement_begun n line lines is = rw is refl

pub line_taken : (n : ℕ) (s : Statement) (line : List ℕ) (lines : List (List ℕ)) → goes_on s ≡ true → statements n (Some s) (line ∷ lines) ≡ statements (n + 1) (Some (taken s line)) lines
unfolding statements
line_taken n s line lines on = rw on refl

pub statement_ended : (n : ℕ) (s : Statement) (lines : List (List ℕ)) → goes_on s ≡ false → statements n (Some s) lines ≡ s ∷ statements n None lines
unfolding statements
statement_ended n s [] off = refl
statement_ended n s (l ∷ lines) off = rw off refl

pub text_ended : (n : ℕ) (s : Statement) → statements n (Some s) [] ≡ s ∷ statements n None []
unfolding statements
text_ended n s = refl

pub nothing_left : (n : ℕ) → statements n None [] ≡ []
unfolding statements
nothing_left n = refl

pub next_taken : (s : Statement) (line : List ℕ) → (taken s line).next ≡ s.next + 1
unfolding taken extended
next_taken s line = elim (is_comment line) as (λ v. (cond v (record s { next = s.next + 1 }) (extended s line)).next ≡ s.next + 1) [ true ↦ refl | false ↦ refl ]

pub next_begun : (n : ℕ) (line : List ℕ) → (begun n line).next ≡ n + 1
unfolding begun
next_begun n line = refl

pub goes_on_taken : (s t : Statement) (line : List ℕ) (lines behind : List (List ℕ)) (total : List Statement) → goes_on s ≡ true → t ≡ taken s line → lines ≡ line ∷ behind → statements s.next (Some s) lines ≡ total → statements t.next (Some t) behind ≡ total
goes_on_taken s t line lines behind total on is cut so_far =
    ap (λ (u : Statement). statements u.next (Some u) behind) is ∙ ap (λ (n : ℕ). statements n (Some (taken s line)) behind) (next_taken s line)
    ∙ sym (line_taken s.next s line behind on) ∙ sym (ap (λ (ls : List (List ℕ)). statements s.next (Some s) ls) cut) ∙ so_far

pub ends_here : (s : Statement) (lines : List (List ℕ)) (total : List Statement) → goes_on s ≡ false → statements s.next (Some s) lines ≡ total → total ≡ s ∷ statements s.next None lines
ends_here s lines total off so_far = sym so_far ∙ statement_ended s.next s lines off

pub ends_with_text : (s : Statement) (lines : List (List ℕ)) (total : List Statement) → lines ≡ [] → statements s.next (Some s) lines ≡ total → total ≡ s ∷ statements s.next None lines
ends_with_text s lines total none so_far =
    sym so_far ∙ ap (λ (ls : List (List ℕ)). statements s.next (Some s) ls) none ∙ text_ended s.next s ∙ sym (ap (λ (ls : List (List ℕ)). s ∷ statements s.next None ls) none)

pub passes : (n : ℕ) (line : List ℕ) (lines behind : List (List ℕ)) (total : List Statement) → is_comment line ≡ true → lines ≡ line ∷ behind → statements n None lines ≡ total → statements (n + 1) None behind ≡ total
passes n line lines behind total is cut so_far = sym (comment_passed n line behind is) ∙ sym (ap (λ (ls : List (List ℕ)). statements n None ls) cut) ∙ so_far

pub begins : (n : ℕ) (s : Statement) (line : List ℕ) (lines behind : List (List ℕ)) (total : List Statement) → is_comment line ≡ false → s ≡ begun n line → lines ≡ line ∷ behind → statements n None lines ≡ total → total ≡ statements s.next (Some s) behind
begins n s line lines behind total plain is cut so_far =
    sym so_far ∙ ap (λ (ls : List (List ℕ)). statements n None ls) cut ∙ statement_begun n line behind plain
    ∙ sym (ap (λ (u : Statement). statements u.next (Some u) behind) is ∙ ap (λ (k : ℕ). statements k (Some (begun n line)) behind) (next_begun n line))

pub none_left : (n : ℕ) (lines : List (List ℕ)) (total : List Statement) → lines ≡ [] → statements n None lines ≡ total → total ≡ []
none_left n lines total none so_far = sym so_far ∙ ap (λ (ls : List (List ℕ)). statements n None ls) none ∙ nothing_left n
