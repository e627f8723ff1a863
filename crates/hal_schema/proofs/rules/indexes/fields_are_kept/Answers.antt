use Rattle.std.proofs.Common.{get_or, ◌-◌}
use Rattle.hal_schema.proofs.Ancestry.{type_of-at}
use Rattle.hal_schema.proofs.Indexes.{kept_at}
use Rattle.hal_schema.proofs.rules.indexes.fields_are_kept.Goals as goal

pub returns : goal.returns
returns c =
    let types = c.args.types.now in
    let i = c.args.i.now in
    kept_at types i c.as_slice.result.now c.path_bytes-path.result c.fields_are_among.result (get_or types (i.source - 1) c.index-types-i.result)
    (type_of-at types i.source c.index-types-i.result c.requires.above c.requires.known) c.as_slice.ensures c.path_bytes-path.ensures c.fields_are_among.ensures
