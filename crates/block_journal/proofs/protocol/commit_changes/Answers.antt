use Rattle.std.proofs.Common.{◌+◌, ◌*◌, [], ◌∷◌, length, arith}
use Rattle.hal_base.specs.Disk.{Torn, written}
use Rattle.block_journal.specs.JournalLaw.{are_whole}
use Rattle.block_journal.specs.Redo.{body_bytes}
use Rattle.block_journal.specs.Redoing.{IsToRedo, RedoMakes}
use Rattle.block_journal.proofs.Calls.{room-larger, room-then, if_ok}
use Rattle.block_journal.proofs.Made.{chain-start, chain-stops, chain-made, chain-told, chain-on, chain-now}
use Rattle.block_journal.proofs.Steps.{body_is, begins_with, commit_start, body_step, gate_step, redo_step, opened_redo, commit_done, room_body, room_gate, last_fits}
use Rattle.block_journal.proofs.protocol.commit_changes.Goals as goal

pub write_synced-requires : goal.write_synced-requires
write_synced-requires g c = omega (arith, room_body c.args.first c.args.count c.place_of.result c.args.changes.now.entries c.args.body.now c.place_of.ensures c.requires.rise c.requires.body, last_fits c.args.first c.args.count c.requires.near c.ranges.count.fits)

pub redo_changes-requires-clause-whole : goal.redo_changes-requires-clause-whole
redo_changes-requires-clause-whole g c = are_whole 0 c.args.count c.args.changes.now.entries c.requires.rise

pub redo_changes-requires-clause-redo : goal.redo_changes-requires-clause-redo
redo_changes-requires-clause-redo g c =
    let begins = begins_with c.args.first c.args.count c.args.changes.now.entries (g.T.Site.image c.args.site.now) c.requires.behind c.requires.rise c.requires.some c.ranges.count.fits c.requires.settled in
    let c0 = chain-start (g.T.Site.moment c.args.site.now) (g.T.Site.left_at c.args.site.now) (commit_start c.args.first c.args.count c.args.changes.now.entries (g.T.Site.image c.args.site.now) begins c.requires.exact) in
    let c1 = chain-on c0 (Torn c.place_of.result (length c.args.body.now)) (body_step c.args.first c.args.count c.args.changes.now.entries (g.T.Site.image c.args.site.now) begins c.place_of.result (length c.args.body.now) c.place_of.ensures) (written (c.args.first + 4096 * c.args.count) (body_bytes c.args.changes.now.entries)) c.write_synced.ensures.told (body_is c.place_of.result (c.args.first + 4096 * c.args.count) c.args.body.now (body_bytes c.args.changes.now.entries) (g.T.Site.image c.args.site.now) (g.T.Site.image c.write_synced.new.site) c.place_of.ensures c.requires.body c.in_ok-write_synced.ensures.image) c.in_ok-write_synced.ensures.exact c.write_synced.ensures.stops in
    let c2 = chain-on c1 (Torn 4096 1) (gate_step c.args.first c.args.count c.args.changes.now.entries (g.T.Site.image c.args.site.now) begins) (written 4096 (1 ∷ [])) c.write_synced-2.ensures.told c.in_ok-write_synced-2.ensures.image c.in_ok-write_synced-2.ensures.exact c.write_synced-2.ensures.stops in
    chain-now (g.T.Site.image c.args.site.now) (g.T.Site.image c.write_synced-2.new.site) _ (IsToRedo c.args.first c.args.count c.args.changes.now.entries) c2.is c2.untold (opened_redo c.args.first c.args.count c.args.changes.now.entries (g.T.Site.image c.args.site.now) begins)

pub returns-in_err-write_synced-clause-stops : goal.returns-in_err-write_synced-clause-stops
returns-in_err-write_synced-clause-stops g c =
    let begins = begins_with c.args.first c.args.count c.args.changes.now.entries (g.T.Site.image c.args.site.now) c.requires.behind c.requires.rise c.requires.some c.ranges.count.fits c.requires.settled in
    let c0 = chain-start (g.T.Site.moment c.args.site.now) (g.T.Site.left_at c.args.site.now) (commit_start c.args.first c.args.count c.args.changes.now.entries (g.T.Site.image c.args.site.now) begins c.requires.exact) in
    chain-stops c0 (Torn c.place_of.result (length c.args.body.now)) (body_step c.args.first c.args.count c.args.changes.now.entries (g.T.Site.image c.args.site.now) begins c.place_of.result (length c.args.body.now) c.place_of.ensures) c.write_synced.ensures.stops

pub returns-in_err-write_synced-clause-told : goal.returns-in_err-write_synced-clause-told
returns-in_err-write_synced-clause-told g c =
    let begins = begins_with c.args.first c.args.count c.args.changes.now.entries (g.T.Site.image c.args.site.now) c.requires.behind c.requires.rise c.requires.some c.ranges.count.fits c.requires.settled in
    let c0 = chain-start (g.T.Site.moment c.args.site.now) (g.T.Site.left_at c.args.site.now) (commit_start c.args.first c.args.count c.args.changes.now.entries (g.T.Site.image c.args.site.now) begins c.requires.exact) in
    chain-told c0 (Torn c.place_of.result (length c.args.body.now)) (body_step c.args.first c.args.count c.args.changes.now.entries (g.T.Site.image c.args.site.now) begins c.place_of.result (length c.args.body.now) c.place_of.ensures) c.write_synced.ensures.told

pub returns-in_err-write_synced-2-clause-stops : goal.returns-in_err-write_synced-2-clause-stops
returns-in_err-write_synced-2-clause-stops g c =
    let begins = begins_with c.args.first c.args.count c.args.changes.now.entries (g.T.Site.image c.args.site.now) c.requires.behind c.requires.rise c.requires.some c.ranges.count.fits c.requires.settled in
    let c0 = chain-start (g.T.Site.moment c.args.site.now) (g.T.Site.left_at c.args.site.now) (commit_start c.args.first c.args.count c.args.changes.now.entries (g.T.Site.image c.args.site.now) begins c.requires.exact) in
    let c1 = chain-on c0 (Torn c.place_of.result (length c.args.body.now)) (body_step c.args.first c.args.count c.args.changes.now.entries (g.T.Site.image c.args.site.now) begins c.place_of.result (length c.args.body.now) c.place_of.ensures) (written (c.args.first + 4096 * c.args.count) (body_bytes c.args.changes.now.entries)) c.write_synced.ensures.told (body_is c.place_of.result (c.args.first + 4096 * c.args.count) c.args.body.now (body_bytes c.args.changes.now.entries) (g.T.Site.image c.args.site.now) (g.T.Site.image c.write_synced.new.site) c.place_of.ensures c.requires.body c.in_ok-write_synced.ensures.image) c.in_ok-write_synced.ensures.exact c.write_synced.ensures.stops in
    chain-stops c1 (Torn 4096 1) (gate_step c.args.first c.args.count c.args.changes.now.entries (g.T.Site.image c.args.site.now) begins) c.write_synced-2.ensures.stops

pub returns-in_err-write_synced-2-clause-told : goal.returns-in_err-write_synced-2-clause-told
returns-in_err-write_synced-2-clause-told g c =
    let begins = begins_with c.args.first c.args.count c.args.changes.now.entries (g.T.Site.image c.args.site.now) c.requires.behind c.requires.rise c.requires.some c.ranges.count.fits c.requires.settled in
    let c0 = chain-start (g.T.Site.moment c.args.site.now) (g.T.Site.left_at c.args.site.now) (commit_start c.args.first c.args.count c.args.changes.now.entries (g.T.Site.image c.args.site.now) begins c.requires.exact) in
    let c1 = chain-on c0 (Torn c.place_of.result (length c.args.body.now)) (body_step c.args.first c.args.count c.args.changes.now.entries (g.T.Site.image c.args.site.now) begins c.place_of.result (length c.args.body.now) c.place_of.ensures) (written (c.args.first + 4096 * c.args.count) (body_bytes c.args.changes.now.entries)) c.write_synced.ensures.told (body_is c.place_of.result (c.args.first + 4096 * c.args.count) c.args.body.now (body_bytes c.args.changes.now.entries) (g.T.Site.image c.args.site.now) (g.T.Site.image c.write_synced.new.site) c.place_of.ensures c.requires.body c.in_ok-write_synced.ensures.image) c.in_ok-write_synced.ensures.exact c.write_synced.ensures.stops in
    chain-told c1 (Torn 4096 1) (gate_step c.args.first c.args.count c.args.changes.now.entries (g.T.Site.image c.args.site.now) begins) c.write_synced-2.ensures.told

pub returns-clause-stops : goal.returns-clause-stops
returns-clause-stops g c =
    let begins = begins_with c.args.first c.args.count c.args.changes.now.entries (g.T.Site.image c.args.site.now) c.requires.behind c.requires.rise c.requires.some c.ranges.count.fits c.requires.settled in
    let c0 = chain-start (g.T.Site.moment c.args.site.now) (g.T.Site.left_at c.args.site.now) (commit_start c.args.first c.args.count c.args.changes.now.entries (g.T.Site.image c.args.site.now) begins c.requires.exact) in
    let c1 = chain-on c0 (Torn c.place_of.result (length c.args.body.now)) (body_step c.args.first c.args.count c.args.changes.now.entries (g.T.Site.image c.args.site.now) begins c.place_of.result (length c.args.body.now) c.place_of.ensures) (written (c.args.first + 4096 * c.args.count) (body_bytes c.args.changes.now.entries)) c.write_synced.ensures.told (body_is c.place_of.result (c.args.first + 4096 * c.args.count) c.args.body.now (body_bytes c.args.changes.now.entries) (g.T.Site.image c.args.site.now) (g.T.Site.image c.write_synced.new.site) c.place_of.ensures c.requires.body c.in_ok-write_synced.ensures.image) c.in_ok-write_synced.ensures.exact c.write_synced.ensures.stops in
    let c2 = chain-on c1 (Torn 4096 1) (gate_step c.args.first c.args.count c.args.changes.now.entries (g.T.Site.image c.args.site.now) begins) (written 4096 (1 ∷ [])) c.write_synced-2.ensures.told c.in_ok-write_synced-2.ensures.image c.in_ok-write_synced-2.ensures.exact c.write_synced-2.ensures.stops in
    chain-made c2 (RedoMakes c.args.first c.args.count) (redo_step c.args.first c.args.count c.args.changes.now.entries (g.T.Site.image c.args.site.now) begins) c.redo_changes.ensures.stops

pub returns-clause-told : goal.returns-clause-told
returns-clause-told g c =
    let begins = begins_with c.args.first c.args.count c.args.changes.now.entries (g.T.Site.image c.args.site.now) c.requires.behind c.requires.rise c.requires.some c.ranges.count.fits c.requires.settled in
    let c0 = chain-start (g.T.Site.moment c.args.site.now) (g.T.Site.left_at c.args.site.now) (commit_start c.args.first c.args.count c.args.changes.now.entries (g.T.Site.image c.args.site.now) begins c.requires.exact) in
    let c1 = chain-on c0 (Torn c.place_of.result (length c.args.body.now)) (body_step c.args.first c.args.count c.args.changes.now.entries (g.T.Site.image c.args.site.now) begins c.place_of.result (length c.args.body.now) c.place_of.ensures) (written (c.args.first + 4096 * c.args.count) (body_bytes c.args.changes.now.entries)) c.write_synced.ensures.told (body_is c.place_of.result (c.args.first + 4096 * c.args.count) c.args.body.now (body_bytes c.args.changes.now.entries) (g.T.Site.image c.args.site.now) (g.T.Site.image c.write_synced.new.site) c.place_of.ensures c.requires.body c.in_ok-write_synced.ensures.image) c.in_ok-write_synced.ensures.exact c.write_synced.ensures.stops in
    let c2 = chain-on c1 (Torn 4096 1) (gate_step c.args.first c.args.count c.args.changes.now.entries (g.T.Site.image c.args.site.now) begins) (written 4096 (1 ∷ [])) c.write_synced-2.ensures.told c.in_ok-write_synced-2.ensures.image c.in_ok-write_synced-2.ensures.exact c.write_synced-2.ensures.stops in
    chain-told c2 (RedoMakes c.args.first c.args.count) (redo_step c.args.first c.args.count c.args.changes.now.entries (g.T.Site.image c.args.site.now) begins) c.redo_changes.ensures.told

pub returns-in_err-write_synced-clause-room : goal.returns-in_err-write_synced-clause-room
returns-in_err-write_synced-clause-room g c = room-larger c.write_synced.ensures.room (room_body c.args.first c.args.count c.place_of.result c.args.changes.now.entries c.args.body.now c.place_of.ensures c.requires.rise c.requires.body)

pub returns-in_err-write_synced-2-clause-room : goal.returns-in_err-write_synced-2-clause-room
returns-in_err-write_synced-2-clause-room g c = room-then (room-larger c.write_synced.ensures.room (room_body c.args.first c.args.count c.place_of.result c.args.changes.now.entries c.args.body.now c.place_of.ensures c.requires.rise c.requires.body)) c.write_synced-2.ensures.room (room_gate c.args.first c.args.count)

pub returns-clause-room : goal.returns-clause-room
returns-clause-room g c = room-then (room-then (room-larger c.write_synced.ensures.room (room_body c.args.first c.args.count c.place_of.result c.args.changes.now.entries c.args.body.now c.place_of.ensures c.requires.rise c.requires.body)) c.write_synced-2.ensures.room (room_gate c.args.first c.args.count)) c.redo_changes.ensures.room (omega arith)

pub returns-clause-done : goal.returns-clause-done
returns-clause-done g c =
    let begins = begins_with c.args.first c.args.count c.args.changes.now.entries (g.T.Site.image c.args.site.now) c.requires.behind c.requires.rise c.requires.some c.ranges.count.fits c.requires.settled in
    let c0 = chain-start (g.T.Site.moment c.args.site.now) (g.T.Site.left_at c.args.site.now) (commit_start c.args.first c.args.count c.args.changes.now.entries (g.T.Site.image c.args.site.now) begins c.requires.exact) in
    let c1 = chain-on c0 (Torn c.place_of.result (length c.args.body.now)) (body_step c.args.first c.args.count c.args.changes.now.entries (g.T.Site.image c.args.site.now) begins c.place_of.result (length c.args.body.now) c.place_of.ensures) (written (c.args.first + 4096 * c.args.count) (body_bytes c.args.changes.now.entries)) c.write_synced.ensures.told (body_is c.place_of.result (c.args.first + 4096 * c.args.count) c.args.body.now (body_bytes c.args.changes.now.entries) (g.T.Site.image c.args.site.now) (g.T.Site.image c.write_synced.new.site) c.place_of.ensures c.requires.body c.in_ok-write_synced.ensures.image) c.in_ok-write_synced.ensures.exact c.write_synced.ensures.stops in
    let c2 = chain-on c1 (Torn 4096 1) (gate_step c.args.first c.args.count c.args.changes.now.entries (g.T.Site.image c.args.site.now) begins) (written 4096 (1 ∷ [])) c.write_synced-2.ensures.told c.in_ok-write_synced-2.ensures.image c.in_ok-write_synced-2.ensures.exact c.write_synced-2.ensures.stops in
    if_ok c.redo_changes.result c.redo_changes.ensures.done (λ done redo. commit_done c.args.first c.args.count c.args.changes.now.entries (g.T.Site.image c.args.site.now) begins (g.T.Site.image c.write_synced-2.new.site) (g.T.Site.image c.redo_changes.new.site) c2.is redo)
