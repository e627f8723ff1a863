use Rattle.std.proofs.Common.{sym, subst}
use Rattle.position_state.specs.declared.session.Session.{Session}
use Rattle.position_state.specs.declared.spot.Change.{Change}
use Rattle.position_state.specs.declared.spot.Change.TheVariants.{Replace}
use Rattle.position_state.specs.AfterChange.{AreOfList, IsLeft}
use Rattle.position_state.proofs.Leaving.{replaces, leave}
use Rattle.position_state.proofs.session.Session.after_change.Goals as goal

pub after_delete-requires-clause-of_list : goal.after_delete-requires-clause-of_list
after_delete-requires-clause-of_list g c =
    subst (λ (change : Change). AreOfList (g.W.Walk.seen c.args.walk.now) change c.args.self.now) c.in-Delete.is c.requires.of_list

pub returns-in_ok-after_replace-in-Replace-clause-left : goal.returns-in_ok-after_replace-in-Replace-clause-left
returns-in_ok-after_replace-in-Replace-clause-left g c =
    let a = g.W.Walk.seen c.args.walk.now in
    let change = Replace c.in-Replace.name c.in-Replace.root c.in-Replace.content in
    subst (λ (change : Change). IsLeft a change c.args.self.now c.in_ok-after_replace-in-Replace.field-0) (sym c.in-Replace.is)
    (subst (λ (session : Session). IsLeft a change c.args.self.now session) (sym c.in_ok-after_replace-in-Replace.ensures)
    (replaces a c.in-Replace.name c.in-Replace.root c.in-Replace.content c.args.self.now c.requires.plain
    (subst (λ (change : Change). AreOfList a change c.args.self.now) c.in-Replace.is c.requires.of_list)))

pub returns-in_ok-copy-in-Nothing-clause-left : goal.returns-in_ok-copy-in-Nothing-clause-left
returns-in_ok-copy-in-Nothing-clause-left g c =
    let a = g.W.Walk.seen c.args.walk.now in
    subst (λ (session : Session). IsLeft a c.args.change.now c.args.self.now session) (sym c.in_ok-copy-in-Nothing.ensures)
    (leave a c.args.change.now c.args.self.now c.requires.plain c.requires.of_list c.in-Nothing.is)
