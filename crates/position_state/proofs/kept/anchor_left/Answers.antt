use Rattle.std.proofs.Common.{Option, sym, subst}
use Rattle.std.specs.Option.{option_map_or}
use Rattle.position_state.specs.declared.session.Anchor.{Anchor}
use Rattle.position_state.specs.declared.session.Anchor.TheVariants.{Front}
use Rattle.position_state.specs.declared.spot.Spot.{Spot}
use Rattle.position_state.specs.AfterChange.{IsAnchorLeft, IsCut}
use Rattle.position_state.proofs.Leaving.{anchor_kept, anchor_moved, row_stands}
use Rattle.position_state.proofs.kept.anchor_left.Goals as goal

pub returns-then-not-branch-clause-left : goal.returns-then-not-branch-clause-left
returns-then-not-branch-clause-left g c =
    let a = g.W.Walk.seen c.args.walk.now in
    subst (λ (p : Anchor). IsAnchorLeft a c.args.name.now c.args.at.now p) (sym c.in_ok-copy.ensures)
    (anchor_kept a c.args.name.now c.args.at.now c.requires.there (subst (λ b. IsCut a c.args.name.now c.args.at.now b) c.if-not-branch.true c.in_ok-is_cut.ensures.cut))

pub before-requires-clause-there : goal.before-requires-clause-there
before-requires-clause-there g c =
    let a = g.W.Walk.seen c.args.walk.now in
    let b = g.W.Walk.seen c.is_cut.new.walk in
    rw c.in_ok-row.ensures
    (row_stands a b c.args.name.now c.args.root.now c.is_cut.ensures.looked.schema c.is_cut.ensures.looked.forest (g.met.W.Walk.keeps_forest c.args.walk.now) (λ rows e. (c.requires.under rows e).0))

pub returns-in-None-clause-left : goal.returns-in-None-clause-left
returns-in-None-clause-left g c =
    let a = g.W.Walk.seen c.args.walk.now in
    let b = g.W.Walk.seen c.is_cut.new.walk in
    subst (λ (o : Option Spot). IsAnchorLeft a c.args.name.now c.args.at.now (option_map_or (λ (spot : Spot). spot.at) o Front)) c.in-None.is
    (anchor_moved a b c.args.name.now c.args.root.now c.args.at.now c.in_ok-row.row c.in_ok-before.field-0 c.is_cut.ensures.looked.schema c.is_cut.ensures.looked.forest
    (g.met.W.Walk.keeps_forest c.args.walk.now) c.requires.under c.requires.there (subst (λ b. IsCut a c.args.name.now c.args.at.now b) c.if-not-branch.false c.in_ok-is_cut.ensures.cut) c.in_ok-row.ensures c.in_ok-before.ensures.shows)

pub returns-clause-left : goal.returns-clause-left
returns-clause-left g c =
    let a = g.W.Walk.seen c.args.walk.now in
    let b = g.W.Walk.seen c.is_cut.new.walk in
    subst (λ (o : Option Spot). IsAnchorLeft a c.args.name.now c.args.at.now (option_map_or (λ (spot : Spot). spot.at) o Front)) c.in-Some.is
    (anchor_moved a b c.args.name.now c.args.root.now c.args.at.now c.in_ok-row.row c.in_ok-before.field-0 c.is_cut.ensures.looked.schema c.is_cut.ensures.looked.forest
    (g.met.W.Walk.keeps_forest c.args.walk.now) c.requires.under c.requires.there (subst (λ b. IsCut a c.args.name.now c.args.at.now b) c.if-not-branch.false c.in_ok-is_cut.ensures.cut) c.in_ok-row.ensures c.in_ok-before.ensures.shows)
