use Rattle.std.proofs.Common.{◌≡◌, ◌+◌, ap, ◌∙◌, arith}
use Rattle.keyed_sets.specs.Layout.{end_of}
use Rattle.keyed_sets.proofs.Rows.{body_found, row_ends}
use Rattle.keyed_sets.proofs.page.body_at.Goals as goal

pub slice_bounds-result-end : goal.slice_bounds-result-end
slice_bounds-result-end c =
    let at : c.from.result ≡ c.args.at = omega (arith, c.from.ensures) in
    let ends : c.end_of.result ≡ end_of c.args.shape c.args.at = c.end_of.ensures ∙ ap (end_of c.args.shape) at in
    omega (arith, row_ends c.args.shape c.args.page.now c.args.at c.requires.within c.requires.place, ends, c.from-2.ensures, c.from-3.ensures)

pub returns-clause-body : goal.returns-clause-body
returns-clause-body c =
    let at : c.from.result ≡ c.args.at = omega (arith, c.from.ensures) in
    let ends : c.end_of.result ≡ end_of c.args.shape c.args.at = c.end_of.ensures ∙ ap (end_of c.args.shape) at in
    let starts : c.end_of.result + c.from-2.result ≡ end_of c.args.shape c.args.at + c.args.shape.key = omega (arith, ends, c.from-2.ensures) in
    body_found c.args.shape c.args.page.now c.args.at (c.end_of.result + c.from-2.result) _ c.requires.within starts (omega (arith, c.from-3.ensures))
