use Rattle.std.proofs.Common.{◌≡◌, true, subst, sym}
use Rattle.std.specs.List.{list_all}
use Rattle.hal_schema.specs.Lawful.{field_fits}
use Rattle.hal_schema.specs.Raw.{field_of}
use Rattle.hal_schema.proofs.KeptTypes.{kept_sizes}
use Rattle.hal_schema.proofs.build.build_type.Goals as goal

pub key_field-requires-clause-fit : goal.key_field-requires-clause-fit
key_field-requires-clause-fit c =
    let t = c.args.t.now in
    subst (λ fs. list_all (λ f. field_fits t.bytes (field_of f)) fs ≡ true) (sym c.as_slice-fields.ensures) (kept_sizes t c.requires.sizes)

pub build_fields-requires-clause-fit : goal.build_fields-requires-clause-fit
build_fields-requires-clause-fit c =
    let t = c.args.t.now in
    subst (λ fs. list_all (λ f. field_fits t.bytes (field_of f)) fs ≡ true) (sym c.as_slice-fields.ensures) (kept_sizes t c.requires.sizes)
