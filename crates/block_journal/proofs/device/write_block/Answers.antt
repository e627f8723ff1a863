use Rattle.std.proofs.Common.{◌≡◌, length, rules}
use Rattle.hal_base.proofs.StopLemmas.{leaves-weaken}
use Rattle.block_journal.proofs.Calls.{write_told}
use Rattle.block_journal.proofs.Made.{became-so}
use Rattle.block_journal.proofs.Placing.{places_one}
use Rattle.block_journal.proofs.device.write_block.Goals as goal

pub returns-clause-stops : goal.returns-clause-stops
returns-clause-stops g c =
    let long : length c.args.block.now ≡ 4096 = search (rules, c.told-block) in
    leaves-weaken c.write_at.ensures.stops (λ x s from. (from.0, from.1, places_one c.args.first c.args.count c.place_of.result (length c.args.block.now) (c.args.number, c.args.block.now) from.0 x c.requires.below c.place_of.ensures long from.2))

pub returns-clause-told : goal.returns-clause-told
returns-clause-told g c =
    let long : length c.args.block.now ≡ 4096 = search (rules, c.told-block) in
    became-so (write_told c.write_at.result c.place_of.result c.args.block.now (g.T.Site.image c.args.site.now) (g.T.Site.image c.write_at.new.self) c.write_at.ensures.image c.write_at.ensures.torn)
    (λ y x told torn. places_one c.args.first c.args.count c.place_of.result (length c.args.block.now) (c.args.number, c.args.block.now) y x c.requires.below c.place_of.ensures long torn)
