use Rattle.std.proofs.Common.{◌≡◌, ◌-◌, ap, ◌∙◌, arith}
use Rattle.keyed_sets.specs.Layout.{count_of, end_of}
use Rattle.keyed_sets.proofs.Edits.{kept, moved}
use Rattle.keyed_sets.proofs.page_edits.move_rows.Goals as goal

pub returns-clause-kept : goal.returns-clause-kept
returns-clause-kept c =
    let starts : c.end_of-start.result ≡ end_of c.args.shape c.args.from = c.end_of-start.ensures ∙ ap (end_of c.args.shape) (omega (arith, c.from.ensures)) in
    let count : c.from-2.result ≡ count_of c.args.page.now = omega (arith, c.from-2.ensures, c.count_in-count.ensures) in
    let ends : c.end_of-end.result ≡ end_of c.args.shape (count_of c.args.page.now) = c.end_of-end.ensures ∙ ap (end_of c.args.shape) count in
    kept c.args.shape c.args.page.now c.put_zeros.new.bytes c.put16-2.new.bytes c.args.from c.end_of-start.result c.end_of-end.result
    c.told-page c.requires.within c.requires.place starts ends (omega (arith, c.ranges.from.fits)) c.put_zeros.ensures c.put16-2.ensures

pub returns-clause-moved : goal.returns-clause-moved
returns-clause-moved c =
    let starts : c.end_of-start.result ≡ end_of c.args.shape c.args.from = c.end_of-start.ensures ∙ ap (end_of c.args.shape) (omega (arith, c.from.ensures)) in
    let count : c.from-2.result ≡ count_of c.args.page.now = omega (arith, c.from-2.ensures, c.count_in-count.ensures) in
    let ends : c.end_of-end.result ≡ end_of c.args.shape (count_of c.args.page.now) = c.end_of-end.ensures ∙ ap (end_of c.args.shape) count in
    let less : c.count_in-count.result - c.args.from ≡ count_of c.args.page.now - c.args.from = omega (arith, c.count_in-count.ensures) in
    moved c.args.shape c.args.page.now c.args.second.now c.put.new.bytes c.put16.new.bytes c.args.from c.end_of-start.result c.end_of-end.result (c.count_in-count.result - c.args.from)
    c.told-page c.told-second c.requires.within c.requires.place c.requires.empty starts ends less (omega (arith, c.count_in-count.type_inv)) c.put.ensures c.put16.ensures
