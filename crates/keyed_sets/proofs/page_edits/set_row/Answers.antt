use Rattle.keyed_sets.specs.Layout.{rows_in}
use Rattle.keyed_sets.proofs.Members.{rise_all}
use Rattle.keyed_sets.proofs.Putting.{sets_over, sets_new}
use Rattle.keyed_sets.proofs.page_edits.set_row.Goals as goal

pub returns-then-found-clause-puts : goal.returns-then-found-clause-puts
returns-then-found-clause-puts c = λ rise place.
    let k = c.requires.found c.if-found.true in
    sets_over c.args.shape c.args.page.now c.replace_body.new.page c.args.at (c.args.key.now, c.args.body.now) (rise_all (rows_in c.args.shape c.args.page.now) rise) k.within k.is c.replace_body.ensures

pub returns-else-found-clause-puts : goal.returns-else-found-clause-puts
returns-else-found-clause-puts c = λ rise place.
    sets_new c.args.shape c.args.page.now c.insert_row.new.page c.args.at (c.args.key.now, c.args.body.now) (rise_all (rows_in c.args.shape c.args.page.now) rise) place
    (λ there. c.requires.missing c.if-found.false (record { within = there.0; is = there.1 })) c.insert_row.ensures
