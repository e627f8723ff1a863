use Rattle.std.proofs.Common.{◌≡◌, ◌+◌, ap, ◌∙◌, arith}
use Rattle.keyed_sets.specs.Layout.{count_of, end_of}
use Rattle.keyed_sets.proofs.Rows.{end_more, end_monotone, few_rows}
use Rattle.keyed_sets.proofs.Edits.{inserted}
use Rattle.keyed_sets.proofs.page_edits.insert_row.Goals as goal

pub shift-requires-clause-room : goal.shift-requires-clause-room
shift-requires-clause-room c =
    let starts : c.end_of-start.result ≡ end_of c.args.shape c.args.at = c.end_of-start.ensures ∙ ap (end_of c.args.shape) (omega (arith, c.from.ensures)) in
    let count : c.from-2.result ≡ count_of c.args.page.now = omega (arith, c.from-2.ensures, c.count_in-count.ensures) in
    let ends : c.end_of-end.result ≡ end_of c.args.shape (count_of c.args.page.now) = c.end_of-end.ensures ∙ ap (end_of c.args.shape) count in
    omega (arith, starts, ends, c.length_of.ensures, end_more c.args.shape (count_of c.args.page.now), end_monotone c.args.shape c.args.at (count_of c.args.page.now) c.requires.within, c.requires.room, c.told-page)

pub put-requires : goal.put-requires
put-requires c =
    let starts : c.end_of-start.result ≡ end_of c.args.shape c.args.at = c.end_of-start.ensures ∙ ap (end_of c.args.shape) (omega (arith, c.from.ensures)) in
    omega (arith, starts, end_more c.args.shape (count_of c.args.page.now), end_monotone c.args.shape c.args.at (count_of c.args.page.now) c.requires.within, c.requires.room, c.requires.shaped.key)

pub put-requires-2 : goal.put-requires-2
put-requires-2 c =
    let starts : c.end_of-start.result ≡ end_of c.args.shape c.args.at = c.end_of-start.ensures ∙ ap (end_of c.args.shape) (omega (arith, c.from.ensures)) in
    omega (arith, starts, end_more c.args.shape (count_of c.args.page.now), end_monotone c.args.shape c.args.at (count_of c.args.page.now) c.requires.within, c.requires.room, c.requires.shaped.key, c.requires.shaped.body)

pub returns : goal.returns
returns c =
    let starts : c.end_of-start.result ≡ end_of c.args.shape c.args.at = c.end_of-start.ensures ∙ ap (end_of c.args.shape) (omega (arith, c.from.ensures)) in
    let count : c.from-2.result ≡ count_of c.args.page.now = omega (arith, c.from-2.ensures, c.count_in-count.ensures) in
    let ends : c.end_of-end.result ≡ end_of c.args.shape (count_of c.args.page.now) = c.end_of-end.ensures ∙ ap (end_of c.args.shape) count in
    let counts : c.count_in-count.result + 1 ≡ count_of c.args.page.now + 1 = omega (arith, c.count_in-count.ensures) in
    inserted c.args.shape c.args.page.now c.shift.new.bytes c.put.new.bytes c.put-2.new.bytes c.put16.new.bytes c.args.key.now c.args.body.now c.args.at c.end_of-start.result c.end_of-end.result c.length_of.result (c.count_in-count.result + 1)
    c.told-page c.requires.within c.requires.room c.requires.shaped starts ends c.length_of.ensures counts (omega (arith, few_rows c.args.shape (count_of c.args.page.now + 1) c.requires.some c.requires.room, counts)) c.shift.ensures c.put.ensures c.put-2.ensures c.put16.ensures
