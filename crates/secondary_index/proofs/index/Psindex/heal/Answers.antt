use Rattle.std.proofs.Common.{◌≤◌, List, ℕ, sym, subst}
use Rattle.std.proofs.lemmas.Result.{IfOk-weaker}
use Rattle.keyed_sets.specs.declared.row.RowShape.{RowShape}
use Rattle.keyed_sets.specs.Calls.{Overwrites}
use Rattle.secondary_index.specs.Changes.{Heals}
use Rattle.secondary_index.proofs.Healing.{heals}
use Rattle.secondary_index.proofs.index.Psindex.heal.Goals as goal

pub returns-clause-healed : goal.returns-clause-healed
returns-clause-healed g c =
    let self = c.args.self.now in
    let id = self.rows in
    let key = c.args.key.now in
    let number = c.args.number in
    let addr = c.args.addr in
    let before = g.H.Shelf.seen c.args.shelf.now in
    let after = g.H.Shelf.seen c.overwrite.new.shelf in
    let long : 16 ≤ id.shape.body = subst (λ (s : RowShape). 16 ≤ s.body) (sym self.shaped) self.pointer in
    IfOk-weaker c.overwrite.result (Overwrites id key 2 c.write_home.result before after) (Heals id key number addr before after)
    (λ done o. heals id key number addr before after done long (λ pages. c.rows_rise.ensures.of_pages id.shape pages) c.a_row_is_put_over_another.ensures.over c.a_row_is_put_over_another.ensures.one
    (λ body size. record { pointer = c.bytes_read_back.ensures.healed body number addr size c.ranges.number.fits c.ranges.addr.fits; behind = c.bytes_read_back.ensures.behind body number addr size })
    (subst (λ (part : List ℕ). Overwrites id key 2 part before after done) c.write_home.ensures o)) c.overwrite.ensures.written
