use Rattle.std.proofs.Common.{◌∙◌, ◌*◌, ◌++◌, ℕ, length, replicate, arith}
use Rattle.volume_head.specs.Head.{mark}
use Rattle.volume_head.proofs.Padding.{behind_mark, behind_long, marked_long, mark_first}
use Rattle.volume_head.proofs.Writing.{on_ok, told_before, one_look, one_write, writes_more, writes_then}
use Rattle.volume_head.proofs.write.write_all.Goals as goal

pub returns-in_err-write_at-2-clause-leaves : goal.returns-in_err-write_at-2-clause-leaves
returns-in_err-write_at-2-clause-leaves g c =
    let first = c.in_ok-write_at.ensures in
    let synced = c.in_ok-sync.ensures in
    let last = c.in_err-write_at-2.ensures in
    let long = marked_long c.args.front.now c.requires.marked in
    let a = writes_more (one_write {at = 8} {n = length (behind_mark c.args.front.now)} (g.met.T.Site.said_now c.args.site.now) first.said first.stops first.cause.later first.say_faults first.room) (omega (arith, long, behind_long c.args.front.now)) in
    let b = writes_then a c.in_ok-write_zeros.ensures.leaves (omega arith) in
    let d = writes_then b (one_look (g.met.T.Site.said_now c.write_zeros.new.site) synced.said synced.stops synced.cause.later synced.say_faults synced.room) (omega arith) in
    writes_then d (one_write {at = 0} {n = 8} (g.met.T.Site.said_now c.sync.new.self) last.said last.stops last.cause.later last.say_faults last.room) (omega (arith, long))

pub returns-clause-leaves : goal.returns-clause-leaves
returns-clause-leaves g c =
    let first = c.in_ok-write_at.ensures in
    let synced = c.in_ok-sync.ensures in
    let last = c.in_ok-write_at-2.ensures in
    let end = c.sync-2.ensures in
    let long = marked_long c.args.front.now c.requires.marked in
    let a = writes_more (one_write {at = 8} {n = length (behind_mark c.args.front.now)} (g.met.T.Site.said_now c.args.site.now) first.said first.stops first.cause.later first.say_faults first.room) (omega (arith, long, behind_long c.args.front.now)) in
    let b = writes_then a c.in_ok-write_zeros.ensures.leaves (omega arith) in
    let d = writes_then b (one_look (g.met.T.Site.said_now c.write_zeros.new.site) synced.said synced.stops synced.cause.later synced.say_faults synced.room) (omega arith) in
    let e = writes_then d (one_write {at = 0} {n = 8} (g.met.T.Site.said_now c.sync.new.self) last.said last.stops last.cause.later last.say_faults last.room) (omega (arith, long)) in
    writes_then e (one_look (g.met.T.Site.said_now c.write_at-2.new.self) end.said end.stops end.cause.later end.say_faults end.room) (omega arith)

pub returns-clause-written : goal.returns-clause-written
returns-clause-written g c =
    let front = c.args.front.now in
    let long = marked_long front c.requires.marked in
    let zeros = replicate {A = ℕ} (4096 * c.args.blocks) 0 in
    let behind = c.in_ok-write_zeros.ensures.written 8 (behind_mark front) (g.T.Site.image c.args.site.now) (omega (arith, long, behind_long front)) c.in_ok-write_at.ensures.image in
    on_ok c.sync-2.result
    (c.sync-2.ensures.image ∙ told_before mark (behind_mark front ++ zeros) (front ++ zeros) (g.T.Site.image c.args.site.now) (g.T.Site.image c.sync.new.self) (g.T.Site.image c.write_at-2.new.self)
    (mark_first front zeros c.requires.marked) (c.in_ok-sync.ensures.image ∙ behind) c.in_ok-write_at-2.ensures.image)
