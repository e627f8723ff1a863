use Rattle.std.proofs.Common.{None, sym, subst}
use Rattle.std.specs.Prelude.{IfOk}
use Rattle.std.specs.Option.{option_map}
use Rattle.std.proofs.lemmas.Result.{IfOk-weaker}
use Rattle.keyed_sets.specs.Map.{next_after}
use Rattle.keyed_sets.specs.Calls.{Gives}
use Rattle.keyed_sets.specs.Reading.{GivesFirst}
use Rattle.keyed_sets.proofs.Nexts.{gives_all}
use Rattle.keyed_sets.proofs.set.KeyedSet.next_after.Goals as goal

pub returns-in-None-clause-row : goal.returns-in-None-clause-row
returns-in-None-clause-row g c =
    let self = c.args.self.now in
    let seen = g.H.Shelf.seen c.args.shelf.now in
    subst (λ o. IfOk c.first_from.result (Gives self seen (next_after (option_map (λ key. key.now) o)))) (sym c.in-None.is)
    (IfOk-weaker c.first_from.result (GivesFirst self 0 seen) (Gives self seen (next_after None)) (λ row first. gives_all self seen row c.requires.opened first) c.first_from.ensures.row)
