use Rattle.std.proofs.Common.{◌∙◌, ◌∷◌, [], ◌++◌, take, append-nil, ap, sym}
use Rattle.std.specs.Prelude.{flat_map}
use Rattle.std.proofs.lemmas.Grind.{flat_map-append}
use Rattle.volume_head.specs.Empty.{first_row}
use Rattle.volume_head.proofs.Padding.{until_next}
use Rattle.volume_head.proofs.write.control_rows.Goals as goal

pub loop-part-preserved : goal.loop-part-preserved
loop-part-preserved c =
    let parts = c.args.schema.now.parts in
    let i = c.loop-part.part-index in
    let next = until_next parts c.as_slice-part-items.result.now i c.part-item.result c.as_slice-part-items.ensures c.loop-part-test.true c.part-item.is in
    c.in_ok-append.ensures.ok ∙ ap (λ l. c.loop-part.rows ++ l) c.first_row.ensures ∙ ap (λ l. l ++ first_row c.part-item.result) c.loop-part.invariant
    ∙ ap (λ l. flat_map first_row (take i parts) ++ l) (sym (append-nil (first_row c.part-item.result)))
    ∙ sym (flat_map-append first_row (take i parts) (c.part-item.result ∷ [])) ∙ ap (flat_map first_row) (sym next)
