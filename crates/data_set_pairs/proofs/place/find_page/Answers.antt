use Rattle.std.proofs.Common.{sym, arith}
use Rattle.std.proofs.lemmas.List.{length-map}
use Rattle.std.proofs.lemmas.Option.{slice_get_past}
use Rattle.data_set_pairs.specs.declared.place.PagePlace.{PagePlace}
use Rattle.data_set_pairs.specs.Table.{pages_of, places_of}
use Rattle.data_set_pairs.proofs.place.find_page.Goals as goal

pub block_at-requires-clause-below : goal.block_at-requires-clause-below
block_at-requires-clause-below c = omega (arith, length-map (pages_of c.args.set c.args.pages.now) (λ (p : PagePlace). p.block), c.count_of.ensures, c.from.ensures, c.if-from-count_of.true)

pub returns-then-from-count_of : goal.returns-then-from-count_of
returns-then-from-count_of c = sym c.block_at.ensures

pub returns-else-from-count_of : goal.returns-else-from-count_of
returns-else-from-count_of c = sym (slice_get_past (places_of c.args.set c.args.pages.now) c.args.n (omega (arith, length-map (pages_of c.args.set c.args.pages.now) (λ (p : PagePlace). p.block), c.count_of.ensures, c.from.ensures, c.if-from-count_of.false)))
