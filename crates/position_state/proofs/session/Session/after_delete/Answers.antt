use Rattle.std.proofs.Common.{◌∙◌, ◌+◌, arith}
use Rattle.std.proofs.lemmas.Result.{err_from_is_err_and}
use Rattle.position_state.specs.declared.walk.WalkFault.TheVariants.{Failed}
use Rattle.position_state.specs.AfterChange.{looks_for_anchor, looks_for_place}
use Rattle.position_state.proofs.Leaving.{anchor_under}
use Rattle.position_state.proofs.Looking.{looks_then, looks_as, looks_more, ok_not_err, same_looks}
use Rattle.position_state.proofs.session.Session.after_delete.Goals as goal

pub anchor_left-requires-clause-under : goal.anchor_left-requires-clause-under
anchor_left-requires-clause-under g c = anchor_under (g.W.Walk.seen c.args.walk.now) c.args.name.now c.args.root.now c.args.self.now c.requires.plain c.requires.of_list

pub returns-in_err-copy-clause-looked : goal.returns-in_err-copy-clause-looked
returns-in_err-copy-clause-looked g c =
    let a = g.W.Walk.seen c.args.walk.now in
    let p = err_from_is_err_and c.from_residual-in_err-copy.result c.from_residual-in_err-copy.ensures.1 in
    let first = looks_for_anchor a c.args.root.now c.args.self.now.anchor in
    let second = looks_for_place (g.W.Walk.seen c.anchor_left.new.walk) c.args.root.now c.args.self.now.held in
    let third = looks_for_place (g.W.Walk.seen c.place_left.new.walk) c.args.root.now c.args.self.now.parent in
    let all = looks_then (first + second) third (looks_then first second c.anchor_left.ensures.looked c.place_left.ensures.looked) c.place_left-2.ensures.looked in
    let held = same_looks a (g.W.Walk.seen c.anchor_left.new.walk) c.args.root.now c.args.self.now.held c.anchor_left.ensures.looked.schema c.anchor_left.ensures.looked.forest in
    let parent = same_looks a (g.W.Walk.seen c.place_left.new.walk) c.args.root.now c.args.self.now.parent
    (c.place_left.ensures.looked.schema ∙ c.anchor_left.ensures.looked.schema) (c.place_left.ensures.looked.forest ∙ c.anchor_left.ensures.looked.forest) in
    looks_as (looks_more all (omega (arith, held, parent))) (λ is. absurd (ok_not_err c.place_left-2.result c.in_ok-parent.parent Failed c.in_ok-parent.was is)) (λ is. absurd (cc (p.1, p.2)))
