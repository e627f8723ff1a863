use Rattle.std.proofs.lemmas.Result.{err_from_is_err_and}
use Rattle.hal_base.proofs.StopLemmas.{not_yet}
use Rattle.hal_desk.specs.Outside.{site_view}
use Rattle.hal_desk.specs.Lists.{state_of}
use Rattle.hal_desk.proofs.Events.{LeavesSite, cut_before, cut_in_say, took_one}
use Rattle.hal_desk.proofs.list_taker.ListTakerLineTaker.line.Goals as goal

pub returns-in_err-reply-clause-cut : goal.returns-in_err-reply-clause-cut
returns-in_err-reply-clause-cut g c =
    let t = g.T.Site in
    let site = c.args.self.now.site in
    let a = site_view t site in
    let p = err_from_is_err_and c.from_residual.result c.from_residual.ensures.1 in
    rw (p.1, p.2) (cut_before c.args.self.now.list.schema.now c.args.script c.args.number c.args.text.now (state_of c.args.self.now.list) (state_of c.take.new.self) a c.in_err-reply.ensures.unchanged (not_yet _ _ _))

pub returns-in_err-say-clause-cut : goal.returns-in_err-say-clause-cut
returns-in_err-say-clause-cut g c =
    let t = g.T.Site in
    let site = c.args.self.now.site in
    let now = c.say.new.site in
    let a = site_view t site in
    let b = site_view t now in
    let p = err_from_is_err_and c.from_residual-in_err-say.result c.from_residual-in_err-say.ensures.1 in
    let part = rw c.as_slice.ensures at c.in_err-say.ensures.fault.1 in
    let left : LeavesSite a b c.in_ok-reply.reply = record { stops = rw c.as_slice.ensures at c.in_err-say.ensures.stops; room = rw c.as_slice.ensures at c.in_err-say.ensures.room } in
    rw (p.1, p.2, c.in_err-say.ensures.fault.0)
    (cut_in_say c.args.self.now.list.schema.now c.args.script c.args.number c.args.text.now (state_of c.args.self.now.list) (state_of c.take.new.self) a b c.in_ok-reply.reply (g.met.T.Site.said_now site)
    (record { reply = c.in_ok-reply.ensures.said; leads = c.in_ok-reply.ensures.leads }) part left)

pub returns-clause-took : goal.returns-clause-took
returns-clause-took g c =
    let t = g.T.Site in
    let site = c.args.self.now.site in
    let now = c.say.new.site in
    let a = site_view t site in
    let b = site_view t now in
    let said = rw c.as_slice.ensures at c.in_ok-say.ensures.said in
    let left : LeavesSite a b c.in_ok-reply.reply = record { stops = rw c.as_slice.ensures at c.in_ok-say.ensures.stops; room = rw c.as_slice.ensures at c.in_ok-say.ensures.room } in
    took_one c.args.self.now.list.schema.now c.args.script c.args.number c.args.text.now (state_of c.args.self.now.list) (state_of c.take.new.self) a b c.in_ok-reply.reply (g.met.T.Site.said_now site)
    (record { reply = c.in_ok-reply.ensures.said; leads = c.in_ok-reply.ensures.leads }) said left
