use Rattle.std.proofs.Common.{◌≡◌, ◌∷◌, ◌∙◌, List, length, refl, sym, ap, subst, arith}
use Rattle.std.proofs.lemmas.List.{length-set}
use Rattle.std.proofs.lemmas.Map.Iter.{rest_more, rest_all}
use Rattle.std.specs.Map.Iter.{deref_pair}
use Rattle.block_journal.specs.Change.{Change}
use Rattle.block_journal.specs.JournalLaw.{put_all-none}
use Rattle.block_journal.specs.Placing.{AreWhole}
use Rattle.block_journal.specs.Redo.{put_all}
use Rattle.block_journal.proofs.Changes.{put_all-next}
use Rattle.block_journal.proofs.staged.make_changes.Goals as goal

pub loop-number-init : goal.loop-number-init
loop-number-init c =
    let start = c.into_iter-number-iterator.ensures.into_iter_gives.0 in
    record {
      made = ap (λ (l : List Change). put_all l c.args.blocks.now.items) start;
      whole = subst (λ (l : List Change). AreWhole (length c.args.blocks.now.items) l) (sym start) c.requires;
      many = refl;
    }

pub index_mut-requires : goal.index_mut-requires
index_mut-requires c =
    let turn : c.loop-number.number-iterator ≡ (c.in-Some.number.now, c.in-Some.block.now) ∷ c.next.new.self = rest_more deref_pair c.loop-number.number-iterator c.next.new.self c.next.result (c.in-Some.number, c.in-Some.block) c.in-Some.is c.next.ensures.steps in
    let whole : AreWhole (length c.args.blocks.now.items) ((c.in-Some.number.now, c.in-Some.block.now) ∷ c.next.new.self) = subst (λ (l : List Change). AreWhole (length c.args.blocks.now.items) l) turn c.loop-number.invariant.whole in
    omega (arith, whole.0, c.loop-number.invariant.many)

pub loop-number-preserved : goal.loop-number-preserved
loop-number-preserved c =
    let turn : c.loop-number.number-iterator ≡ (c.in-Some.number.now, c.in-Some.block.now) ∷ c.next.new.self = rest_more deref_pair c.loop-number.number-iterator c.next.new.self c.next.result (c.in-Some.number, c.in-Some.block) c.in-Some.is c.next.ensures.steps in
    let whole : AreWhole (length c.args.blocks.now.items) ((c.in-Some.number.now, c.in-Some.block.now) ∷ c.next.new.self) = subst (λ (l : List Change). AreWhole (length c.args.blocks.now.items) l) turn c.loop-number.invariant.whole in
    record {
      made = put_all-next c.loop-number.number-iterator c.next.new.self (c.in-Some.number.now, c.in-Some.block.now) c.loop-number.blocks.items turn ∙ c.loop-number.invariant.made;
      whole = whole.2;
      many = length-set c.loop-number.blocks.items c.in-Some.number.now c.in-Some.block.now ∙ c.loop-number.invariant.many;
    }

pub returns : goal.returns
returns c = sym (ap (λ (l : List Change). put_all l c.loop-number.blocks.items) (rest_all deref_pair c.loop-number.number-iterator c.next.new.self c.next.result c.in-None.is c.next.ensures.steps) ∙ put_all-none c.loop-number.blocks.items) ∙ c.loop-number.invariant.made
