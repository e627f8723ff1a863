use Rattle.std.proofs.Common.{◌∙◌, true, false, not, refl, sym, ap, subst}
use Rattle.std.proofs.lemmas.Bool.{true≢false}
use Rattle.std.proofs.lemmas.Slice.Eq.{bytes_eq-Decides}
use Rattle.position_state.specs.declared.session.Anchor.{Anchor}
use Rattle.position_state.specs.AfterChange.{AreUnder, IsCut, is_row_at}
use Rattle.position_state.proofs.KeepLaws.{under_known}
use Rattle.position_state.proofs.Leaving.{cut_far, cut_named, row_stands}
use Rattle.position_state.proofs.kept.is_cut.Goals as goal

pub returns-then-ne-clause-cut : goal.returns-then-ne-clause-cut
returns-then-ne-clause-cut g c =
    let a = g.W.Walk.seen c.args.walk.now in
    subst (λ (p : Anchor). IsCut a c.args.name.now p false) (sym c.in-At.is)
    (cut_far a c.args.name.now c.in-At.other c.args.root.now c.in-At.key c.in-At.entry (g.met.W.Walk.keeps_forest c.args.walk.now)
    (subst (λ (p : Anchor). AreUnder a c.args.name.now c.args.root.now p) c.in-At.is c.requires.under)
    (λ e. true≢false (sym c.if-ne.true ∙ c.ne.ensures ∙ ap not ((bytes_eq-Decides c.in-At.key c.args.root.now).1 e))))

pub returns-then-is_row_at-clause-cut : goal.returns-then-is_row_at-clause-cut
returns-then-is_row_at-clause-cut g c =
    let a = g.W.Walk.seen c.args.walk.now in
    subst (λ (p : Anchor). IsCut a c.args.name.now p true) (sym c.in-At.is)
    (cut_named a c.args.name.now c.in-At.other c.args.root.now c.in-At.key c.in-At.entry (g.met.W.Walk.keeps_forest c.args.walk.now)
    (subst (λ (p : Anchor). AreUnder a c.args.name.now c.args.root.now p) c.in-At.is c.requires.under)
    (ap (is_row_at c.args.name.now) (sym c.in-At.is) ∙ sym c.is_row_at.ensures ∙ c.if-is_row_at.true))

pub is_below-requires-clause-there : goal.is_below-requires-clause-there
is_below-requires-clause-there g c =
    let a = g.W.Walk.seen c.args.walk.now in
    row_stands a a c.in-At.other c.in-At.key refl refl (g.met.W.Walk.keeps_forest c.args.walk.now)
    (λ rows e. (subst (λ (p : Anchor). AreUnder a c.args.name.now c.args.root.now p) c.in-At.is c.requires.under rows e).1)

pub is_below-requires-clause-row : goal.is_below-requires-clause-row
is_below-requires-clause-row g c = λ rows e. under_known (g.W.Walk.seen c.args.walk.now).schema.types c.args.name.now c.args.root.now _ rows (c.requires.under rows e).0
