use Rattle.std.proofs.Common.{◌+◌, ◌++◌, drop, ap, sym, ◌∙◌}
use Rattle.std.specs.Option.{option_map}
use Rattle.hal_schema.specs.Raw.{fields_named}
use Rattle.hal_schema.proofs.Named.{fields_more}
use Rattle.hal_schema.proofs.rules.indexes.fields_named.Goals as goal

pub loop-name-preserved : goal.loop-name-preserved
loop-name-preserved c =
    let fields = c.args.fields.now in
    let names = c.args.names.now in
    let at = c.loop-name.name-index in
    c.loop-name.invariant
    ∙ fields_more fields names at c.name-item.result c.loop-name.found c.in-Some.f c.loop-name-test.true c.name-item.is (sym c.in-Some.ensures)
    ∙ ap (λ l. option_map (λ rest. l ++ rest) (fields_named fields (drop (at + 1) names))) (sym c.in_ok-push-in-Some.ensures.ok)
