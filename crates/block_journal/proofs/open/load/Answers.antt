use Rattle.std.proofs.Common.{◌+◌, arith, rules}
use Rattle.hal_base.proofs.StopLemmas.{leaves-stay}
use Rattle.block_journal.proofs.Calls.{exact-synced, exact_stays, if_ok, on_ok}
use Rattle.block_journal.proofs.Made.{made-before}
use Rattle.block_journal.proofs.OpeningSteps.{opens_never, opens_at, redo_start, redone_between, same_redone, load_stands}
use Rattle.block_journal.proofs.open.load.Goals as goal

pub returns-in_err-sync-clause-stops : goal.returns-in_err-sync-clause-stops
returns-in_err-sync-clause-stops g c = (g.T.Site.moment c.sync.new.self + 1, search rules, opens_never c.args.first c.args.count (g.T.Site.image c.args.site.now) c.sync.ensures.stops)

pub settle-requires-clause-exact : goal.settle-requires-clause-exact
settle-requires-clause-exact g c = exact-synced c.sync.ensures.image c.in_ok-sync.ensures.durable

pub returns-in_err-settle-clause-stops : goal.returns-in_err-settle-clause-stops
returns-in_err-settle-clause-stops g c = (g.T.Site.moment c.sync.new.self, on_ok c.from_residual-in_err-settle.result c.settle.ensures.stops.later, opens_at c.args.first c.args.count (g.T.Site.image c.args.site.now) (g.T.Site.image c.sync.new.self) c.sync.ensures.image c.sync.ensures.stops (exact-synced c.sync.ensures.image c.in_ok-sync.ensures.durable) c.settle.ensures.stops)

pub returns-clause-redone : goal.returns-clause-redone
returns-clause-redone g c = if_ok c.read_blocks.result c.read_blocks.ensures.blocks (λ kept reads. redone_between c.sync.ensures.image c.read_blocks.ensures.leaves.same c.in_ok-settle.ensures.done)

pub returns-clause-stands : goal.returns-clause-stands
returns-clause-stands g c = if_ok c.read_blocks.result c.read_blocks.ensures.blocks (λ kept reads. load_stands c.args.first c.args.count kept.items (g.T.Site.image c.sync.new.self) (g.T.Site.image c.settle.new.site) (g.T.Site.image c.read_blocks.new.site) (g.T.Site.left_at c.read_blocks.new.site (g.T.Site.moment c.read_blocks.new.site)) c.settle.ensures.told c.in_ok-settle.ensures.done c.read_blocks.ensures.leaves.same reads
    (exact_stays c.read_blocks.ensures.leaves.same c.in_ok-settle.ensures.exact c.read_blocks.ensures.leaves.stops))

pub returns-clause-damaged : goal.returns-clause-damaged
returns-clause-damaged g c = λ is. absurd (c.read_blocks.ensures.damaged is)

pub returns-clause-memory : goal.returns-clause-memory
returns-clause-memory g c = λ is. same_redone (redone_between c.sync.ensures.image c.read_blocks.ensures.leaves.same c.in_ok-settle.ensures.done)

pub returns-clause-stops : goal.returns-clause-stops
returns-clause-stops g c =
    let exact = exact-synced c.sync.ensures.image c.in_ok-sync.ensures.durable in
    let stops = leaves-stay c.settle.ensures.stops c.read_blocks.ensures.leaves.stops (made-before (redo_start c.args.first c.args.count exact)) in
    (g.T.Site.moment c.sync.new.self, on_ok c.read_blocks.result (omega (arith, c.settle.ensures.stops.later, c.read_blocks.ensures.leaves.stops.later)), opens_at c.args.first c.args.count (g.T.Site.image c.args.site.now) (g.T.Site.image c.sync.new.self) c.sync.ensures.image c.sync.ensures.stops exact stops)
