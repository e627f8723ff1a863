use Rattle.std.proofs.Common.{[], ◌∷◌, ◌∙◌, ap, option_map}
use Rattle.hal_base.specs.Disk.{Torn, written}
use Rattle.block_journal.specs.Placing.{Places}
use Rattle.block_journal.specs.Redo.{put_image}
use Rattle.block_journal.proofs.Calls.{room-larger, room-then, if_ok}
use Rattle.block_journal.proofs.Made.{chain-start, chain-stops, chain-told, chain-on}
use Rattle.block_journal.proofs.OpeningSteps.{redo_start, redo_done}
use Rattle.block_journal.proofs.Redoing.{placing_makes, closing_makes}
use Rattle.block_journal.proofs.Steps.{room_gate, room_blocks}
use Rattle.block_journal.proofs.redo.redo_changes.Goals as goal

pub returns-in_err-write_blocks-clause-stops : goal.returns-in_err-write_blocks-clause-stops
returns-in_err-write_blocks-clause-stops g c =
    let c0 = chain-start (g.T.Site.moment c.args.site.now) (g.T.Site.left_at c.args.site.now) (redo_start c.args.first c.args.count c.requires.exact) in
    chain-stops c0 (Places c.args.first c.args.count c.args.changes.now.entries) (λ y x told placed. placing_makes c.args.first c.args.count c.args.changes.now.entries y c.requires.behind c.requires.whole (c.requires.redo y told) x placed) c.write_blocks.ensures.stops

pub returns-in_err-write_blocks-clause-told : goal.returns-in_err-write_blocks-clause-told
returns-in_err-write_blocks-clause-told g c =
    let c0 = chain-start (g.T.Site.moment c.args.site.now) (g.T.Site.left_at c.args.site.now) (redo_start c.args.first c.args.count c.requires.exact) in
    chain-told c0 (Places c.args.first c.args.count c.args.changes.now.entries) (λ y x told placed. placing_makes c.args.first c.args.count c.args.changes.now.entries y c.requires.behind c.requires.whole (c.requires.redo y told) x placed) c.write_blocks.ensures.told

pub returns-clause-stops : goal.returns-clause-stops
returns-clause-stops g c =
    let c0 = chain-start (g.T.Site.moment c.args.site.now) (g.T.Site.left_at c.args.site.now) (redo_start c.args.first c.args.count c.requires.exact) in
    let c1 = chain-on c0 (Places c.args.first c.args.count c.args.changes.now.entries) (λ y x told placed. placing_makes c.args.first c.args.count c.args.changes.now.entries y c.requires.behind c.requires.whole (c.requires.redo y told) x placed) (put_image c.args.first c.args.changes.now.entries) c.write_blocks.ensures.told c.in_ok-write_blocks.ensures.image c.in_ok-write_blocks.ensures.exact c.write_blocks.ensures.stops in
    chain-stops c1 (Torn 4096 1) (λ y x told torn. closing_makes c.args.first c.args.count c.args.changes.now.entries y c.requires.behind c.requires.whole (c.requires.redo y told) x torn) c.write_synced.ensures.stops

pub returns-clause-told : goal.returns-clause-told
returns-clause-told g c =
    let c0 = chain-start (g.T.Site.moment c.args.site.now) (g.T.Site.left_at c.args.site.now) (redo_start c.args.first c.args.count c.requires.exact) in
    let c1 = chain-on c0 (Places c.args.first c.args.count c.args.changes.now.entries) (λ y x told placed. placing_makes c.args.first c.args.count c.args.changes.now.entries y c.requires.behind c.requires.whole (c.requires.redo y told) x placed) (put_image c.args.first c.args.changes.now.entries) c.write_blocks.ensures.told c.in_ok-write_blocks.ensures.image c.in_ok-write_blocks.ensures.exact c.write_blocks.ensures.stops in
    chain-told c1 (Torn 4096 1) (λ y x told torn. closing_makes c.args.first c.args.count c.args.changes.now.entries y c.requires.behind c.requires.whole (c.requires.redo y told) x torn) c.write_synced.ensures.told

pub returns-in_err-write_blocks-clause-room : goal.returns-in_err-write_blocks-clause-room
returns-in_err-write_blocks-clause-room g c = room-larger c.write_blocks.ensures.room (room_blocks c.args.first c.args.count)

pub returns-clause-room : goal.returns-clause-room
returns-clause-room g c = room-then (room-larger c.write_blocks.ensures.room (room_blocks c.args.first c.args.count)) c.write_synced.ensures.room (room_gate c.args.first c.args.count)

pub returns-clause-done : goal.returns-clause-done
returns-clause-done g c =
    let c0 = chain-start (g.T.Site.moment c.args.site.now) (g.T.Site.left_at c.args.site.now) (redo_start c.args.first c.args.count c.requires.exact) in
    let c1 = chain-on c0 (Places c.args.first c.args.count c.args.changes.now.entries) (λ y x told placed. placing_makes c.args.first c.args.count c.args.changes.now.entries y c.requires.behind c.requires.whole (c.requires.redo y told) x placed) (put_image c.args.first c.args.changes.now.entries) c.write_blocks.ensures.told c.in_ok-write_blocks.ensures.image c.in_ok-write_blocks.ensures.exact c.write_blocks.ensures.stops in
    if_ok c.write_synced.result c.write_synced.ensures.image (λ done last. redo_done c.args.first c.args.count c.args.changes.now.entries (g.T.Site.image c.args.site.now) (g.T.Site.image c.write_synced.new.site) c.requires.behind c.requires.whole c.requires.redo (λ y told. last ∙ ap (option_map (written 4096 (0 ∷ []))) (c1.is y told)))
