use Rattle.std.proofs.Common.{◌≡◌, ◌+◌, ap, ◌∙◌, arith}
use Rattle.keyed_sets.specs.Layout.{end_of}
use Rattle.keyed_sets.proofs.Rows.{row_ends}
use Rattle.keyed_sets.proofs.Edits.{overwritten}
use Rattle.keyed_sets.proofs.page_edits.replace_body.Goals as goal

pub put-requires : goal.put-requires
put-requires c =
    let at : c.from.result ≡ c.args.at = omega (arith, c.from.ensures) in
    let ends : c.end_of.result ≡ end_of c.args.shape c.args.at = c.end_of.ensures ∙ ap (end_of c.args.shape) at in
    omega (arith, row_ends c.args.shape c.args.page.now c.args.at c.requires.there.within c.requires.place, ends, c.from-2.ensures, c.requires.shaped.body, c.told-page)

pub returns : goal.returns
returns c =
    let at : c.from.result ≡ c.args.at = omega (arith, c.from.ensures) in
    let ends : c.end_of.result ≡ end_of c.args.shape c.args.at = c.end_of.ensures ∙ ap (end_of c.args.shape) at in
    overwritten c.args.shape c.args.page.now c.put.new.bytes c.args.key.now c.args.body.now c.args.at (c.end_of.result + c.from-2.result) c.told-page c.requires.there.within c.requires.place c.requires.shaped c.requires.there.is
    (omega (arith, ends, c.from-2.ensures)) c.put.ensures
