use Rattle.std.proofs.Common.{◌≡◌, ap, ◌∙◌, arith}
use Rattle.keyed_sets.specs.Layout.{count_of, end_of}
use Rattle.keyed_sets.proofs.Edits.{removed}
use Rattle.keyed_sets.proofs.page_edits.remove_row.Goals as goal

pub returns : goal.returns
returns c =
    let starts : c.end_of-start.result ≡ end_of c.args.shape c.args.at = c.end_of-start.ensures ∙ ap (end_of c.args.shape) (omega (arith, c.from.ensures)) in
    let count : c.from-2.result ≡ count_of c.args.page.now = omega (arith, c.from-2.ensures, c.count_in-count.ensures) in
    let ends : c.end_of-end.result ≡ end_of c.args.shape (count_of c.args.page.now) = c.end_of-end.ensures ∙ ap (end_of c.args.shape) count in
    removed c.args.shape c.args.page.now c.shift.new.bytes c.put_zeros.new.bytes c.put16.new.bytes c.args.at c.end_of-start.result c.end_of-end.result c.length_of-size.result _
    c.told-page c.requires.within c.requires.place starts ends c.length_of-size.ensures (omega (arith, c.requires.within, c.count_in-count.ensures)) (omega (arith, c.count_in-count.type_inv))
    c.shift.ensures c.put_zeros.ensures c.put16.ensures
