use Rattle.std.proofs.Common.{sym, ◌∙◌, ap}
use Rattle.dbd_reader.proofs.FieldNames.{fields_end, fields_on, field_in}
use Rattle.dbd_reader.proofs.field_value.fields_of.Goals as goal

pub returns-in_default : goal.returns-in_default
returns-in_default c =
    fields_end c.args.items.now c.loop-item.item-index c.item-item.result c.loop-item-test.true c.item-item.is (sym c.has_system_name.ensures ∙ c.if-has_system_name.false)
    (sym (c.field_in.ensures ∙ ap field_in c.as_slice.ensures) ∙ c.in_default.is)

pub loop-item-preserved : goal.loop-item-preserved
loop-item-preserved c =
    let p = fields_on c.args.items.now c.loop-item.names c.loop-item.item-index c.item-item.result c.in-Some.name c.loop-item-test.true c.item-item.is
    (sym (c.field_in.ensures ∙ ap field_in c.as_slice.ensures) ∙ c.in-Some.is) c.loop-item.invariant.names c.loop-item.invariant.all in
    record { names = c.in_ok-push.ensures.ok ∙ p.0; all = p.1 }
