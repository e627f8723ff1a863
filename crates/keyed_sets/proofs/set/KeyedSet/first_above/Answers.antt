use Rattle.std.proofs.Common.{◌-◌, sym, subst, Option, refl, arith}
use Rattle.std.proofs.lemmas.Result.{IfOk-weaker}
use Rattle.std.specs.Prelude.{Some}
use Rattle.keyed_sets.specs.Layout.{Row}
use Rattle.keyed_sets.specs.Map.{next_after}
use Rattle.keyed_sets.specs.Calls.{Gives}
use Rattle.keyed_sets.specs.Reading.{GivesFirst, GivesAbove}
use Rattle.keyed_sets.proofs.Nexts.{IsUpto, gives_next, gives_here}
use Rattle.keyed_sets.proofs.set.KeyedSet.first_above.Goals as goal

pub returns-then-at-eq0-clause-row : goal.returns-then-at-eq0-clause-row
returns-then-at-eq0-clause-row g c =
    let self = c.args.self.now in
    let seen = g.H.Shelf.seen c.args.shelf.now in
    let u : IsUpto self c.args.key.now c.deref.result.now c.starts_upto-at.result = record { is = c.deref.ensures.value; within = c.starts_upto-at.ensures.within; upto = c.starts_upto-at.ensures.upto; above = c.starts_upto-at.ensures.above } in
    IfOk-weaker c.first_from.result (GivesFirst self 0 seen) (Gives self seen (next_after (Some c.args.key.now)))
    (λ row first. gives_next self seen seen c.args.key.now c.deref.result.now c.starts_upto-at.result 0 row c.requires.opened refl u (sym c.if-at-eq0.true) (λ some. absurd (omega (arith, some, c.if-at-eq0.true))) first) c.first_from.ensures.row

pub returns-in-Some-clause-row : goal.returns-in-Some-clause-row
returns-in-Some-clause-row g c =
    let self = c.args.self.now in
    let seen = g.H.Shelf.seen c.args.shelf.now in
    let u : IsUpto self c.args.key.now c.deref.result.now c.starts_upto-at.result = record { is = c.deref.ensures.value; within = c.starts_upto-at.ensures.within; upto = c.starts_upto-at.ensures.upto; above = c.starts_upto-at.ensures.above } in
    gives_here self seen c.args.key.now c.deref.result.now c.starts_upto-at.result c.in-Some.row c.requires.opened u (omega (arith, c.if-at-eq0.false))
    (subst (λ (o : Option Row). GivesAbove self (c.starts_upto-at.result - 1) c.args.key.now seen o) c.in-Some.is c.in_ok-row.ensures.row)

pub returns-in-None-clause-row : goal.returns-in-None-clause-row
returns-in-None-clause-row g c =
    let self = c.args.self.now in
    let seen = g.H.Shelf.seen c.args.shelf.now in
    let now = g.H.Shelf.seen c.above_in.new.shelf in
    let u : IsUpto self c.args.key.now c.deref.result.now c.starts_upto-at.result = record { is = c.deref.ensures.value; within = c.starts_upto-at.ensures.within; upto = c.starts_upto-at.ensures.upto; above = c.starts_upto-at.ensures.above } in
    IfOk-weaker c.first_from-in-None.result (GivesFirst self c.starts_upto-at.result now) (Gives self seen (next_after (Some c.args.key.now)))
    (λ row first. gives_next self seen now c.args.key.now c.deref.result.now c.starts_upto-at.result c.starts_upto-at.result row c.requires.opened (sym (c.above_in.ensures.leaves.same.pages self.set)) u refl
    (λ some. subst (λ (o : Option Row). GivesAbove self (c.starts_upto-at.result - 1) c.args.key.now seen o) c.in-None.is c.in_ok-row.ensures.row) first) c.first_from-in-None.ensures.row
