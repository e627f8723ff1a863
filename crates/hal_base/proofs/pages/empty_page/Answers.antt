use Rattle.std.proofs.Common.{◌∙◌, ◌++◌, ◌∷◌, [], Bool, cond, List, ℕ, ap, sym, take, drop, replicate}
use Rattle.std.proofs.lemmas.Bool.{eq-eqb, ne_eqb}
use Rattle.hal_base.specs.Pages.{page_head}
use Rattle.hal_base.proofs.pages.empty_page.Goals as goal

page_of : List ℕ → Bool → List ℕ
page_of head hole = head ++ replicate 8 0 ++ cond hole (0 ∷ 0 ∷ 15 ∷ 240 ∷ []) (0 ∷ 0 ∷ 0 ∷ 0 ∷ []) ++ replicate 4076 0

pub returns-then-kind-eq1 : goal.returns-then-kind-eq1
unfolding page_of
returns-then-kind-eq1 c =
    c.put16.ensures ∙ ap (λ (l : List ℕ). take 18 l ++ 15 ∷ 240 ∷ [] ++ drop 20 l) c.headed-block.ensures
    ∙ sym (ap (page_of (page_head c.args.kind c.args.set c.args.page)) (eq-eqb c.args.kind 1 c.if-kind-eq1.true))

pub returns-else-kind-eq1 : goal.returns-else-kind-eq1
unfolding page_of
returns-else-kind-eq1 c = c.headed-block.ensures ∙ sym (ap (page_of (page_head c.args.kind c.args.set c.args.page)) (ne_eqb c.args.kind 1 c.if-kind-eq1.false))
