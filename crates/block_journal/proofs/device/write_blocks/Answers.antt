use Rattle.std.proofs.Common.{◌≡◌, ◌∷◌, ◌∙◌, ℕ, List, option_map, arith, refl, sym, ap, subst}
use Rattle.std.proofs.lemmas.Map.Iter.{rest_more, rest_all}
use Rattle.std.specs.Map.Iter.{deref_pair}
use Rattle.hal_base.proofs.StopLemmas.{not_yet}
use Rattle.block_journal.specs.Change.{Change}
use Rattle.block_journal.specs.JournalLaw.{became-waits}
use Rattle.block_journal.specs.Placing.{AreWhole, IsOutside, Places, PlacedFrom}
use Rattle.block_journal.specs.Redo.{put_image}
use Rattle.block_journal.proofs.Calls.{on_ok, room-same, room-then}
use Rattle.block_journal.proofs.Placing.{image_end, image_next, placed_next, told_next, places_same}
use Rattle.block_journal.proofs.device.write_blocks.Goals as goal

pub loop-number-init : goal.loop-number-init
loop-number-init g c =
    let start = c.into_iter-number-iterator.ensures.into_iter_gives.0 in
    record {
      image = ap (λ (l : List Change). option_map (put_image c.args.first l) (g.T.Site.image c.args.site.now)) start;
      whole = subst (λ (l : List Change). AreWhole c.args.count l) (sym start) c.requires.whole;
      among = λ i out. subst (λ (l : List Change). IsOutside c.args.first l i) (sym start) out;
      told = became-waits {R = Places c.args.first c.args.count c.args.changes.now.entries} (λ y told. places_same c.args.first c.args.count c.args.changes.now.entries y) refl;
      said = refl;
      stops = not_yet (g.T.Site.moment c.args.site.now) (g.T.Site.left_at c.args.site.now) (PlacedFrom (g.T.Site.left_at c.args.site.now (g.T.Site.moment c.args.site.now)) c.args.first c.args.count c.args.changes.now.entries);
      faults = omega arith;
      say_faults = refl;
      room = room-same (g.T.Site.room c.args.site.now) (g.T.Site.disk_faults c.args.site.now) _;
    }

pub write_block-requires-clause-below : goal.write_block-requires-clause-below
write_block-requires-clause-below g c =
    let turn : c.loop-number.number-iterator ≡ (c.in-Some.number.now, c.in-Some.block.now) ∷ c.next.new.self = rest_more deref_pair c.loop-number.number-iterator c.next.new.self c.next.result (c.in-Some.number, c.in-Some.block) c.in-Some.is c.next.ensures.steps in
    let whole : AreWhole c.args.count ((c.in-Some.number.now, c.in-Some.block.now) ∷ c.next.new.self) = subst (λ (l : List Change). AreWhole c.args.count l) turn c.loop-number.invariant.whole in
    whole.0

pub returns-in_err-write_block-clause-stops : goal.returns-in_err-write_block-clause-stops
returns-in_err-write_block-clause-stops g c =
    let turn : c.loop-number.number-iterator ≡ (c.in-Some.number.now, c.in-Some.block.now) ∷ c.next.new.self = rest_more deref_pair c.loop-number.number-iterator c.next.new.self c.next.result (c.in-Some.number, c.in-Some.block) c.in-Some.is c.next.ensures.steps in
    let among : (i : ℕ) → IsOutside c.args.first c.args.changes.now.entries i → IsOutside c.args.first ((c.in-Some.number.now, c.in-Some.block.now) ∷ c.next.new.self) i = λ i out. subst (λ (l : List Change). IsOutside c.args.first l i) turn (c.loop-number.invariant.among i out) in
    placed_next c.args.first c.args.count c.args.changes.now.entries (c.in-Some.number.now, c.in-Some.block.now) (λ i out. ((among i out).0, tt)) c.loop-number.invariant.stops c.write_block.ensures.stops

pub returns-in_err-write_block-clause-told : goal.returns-in_err-write_block-clause-told
returns-in_err-write_block-clause-told g c =
    let turn : c.loop-number.number-iterator ≡ (c.in-Some.number.now, c.in-Some.block.now) ∷ c.next.new.self = rest_more deref_pair c.loop-number.number-iterator c.next.new.self c.next.result (c.in-Some.number, c.in-Some.block) c.in-Some.is c.next.ensures.steps in
    let among : (i : ℕ) → IsOutside c.args.first c.args.changes.now.entries i → IsOutside c.args.first ((c.in-Some.number.now, c.in-Some.block.now) ∷ c.next.new.self) i = λ i out. subst (λ (l : List Change). IsOutside c.args.first l i) turn (c.loop-number.invariant.among i out) in
    told_next c.args.first c.args.count c.args.changes.now.entries (c.in-Some.number.now, c.in-Some.block.now) (λ i out. ((among i out).0, tt)) c.loop-number.invariant.told c.write_block.ensures.told

pub returns-clause-image : goal.returns-clause-image
returns-clause-image g c = on_ok c.sync.result (c.sync.ensures.image ∙ sym (image_end c.args.first c.loop-number.number-iterator (g.T.Site.image c.loop-number.site) (rest_all deref_pair c.loop-number.number-iterator c.next.new.self c.next.result c.in-None.is c.next.ensures.steps)) ∙ c.loop-number.invariant.image)

pub loop-number-preserved : goal.loop-number-preserved
loop-number-preserved g c =
    let turn : c.loop-number.number-iterator ≡ (c.in-Some.number.now, c.in-Some.block.now) ∷ c.next.new.self = rest_more deref_pair c.loop-number.number-iterator c.next.new.self c.next.result (c.in-Some.number, c.in-Some.block) c.in-Some.is c.next.ensures.steps in
    let whole : AreWhole c.args.count ((c.in-Some.number.now, c.in-Some.block.now) ∷ c.next.new.self) = subst (λ (l : List Change). AreWhole c.args.count l) turn c.loop-number.invariant.whole in
    let among : (i : ℕ) → IsOutside c.args.first c.args.changes.now.entries i → IsOutside c.args.first ((c.in-Some.number.now, c.in-Some.block.now) ∷ c.next.new.self) i = λ i out. subst (λ (l : List Change). IsOutside c.args.first l i) turn (c.loop-number.invariant.among i out) in
    record {
      image = image_next c.args.first c.loop-number.number-iterator c.next.new.self (c.in-Some.number.now, c.in-Some.block.now) (g.T.Site.image c.loop-number.site) (g.T.Site.image c.write_block.new.site) turn c.in_ok-write_block.ensures.image ∙ c.loop-number.invariant.image;
      whole = whole.2;
      among = λ i out. (among i out).1;
      told = told_next c.args.first c.args.count c.args.changes.now.entries (c.in-Some.number.now, c.in-Some.block.now) (λ i out. ((among i out).0, tt)) c.loop-number.invariant.told c.write_block.ensures.told;
      said = c.write_block.ensures.said ∙ c.loop-number.invariant.said;
      stops = placed_next c.args.first c.args.count c.args.changes.now.entries (c.in-Some.number.now, c.in-Some.block.now) (λ i out. ((among i out).0, tt)) c.loop-number.invariant.stops c.write_block.ensures.stops;
      faults = omega (arith, c.loop-number.invariant.faults, c.write_block.ensures.cause.later);
      say_faults = c.write_block.ensures.say_faults ∙ c.loop-number.invariant.say_faults;
      room = room-then c.loop-number.invariant.room c.write_block.ensures.room (omega arith);
    }
