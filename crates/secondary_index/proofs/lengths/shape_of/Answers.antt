use Rattle.std.proofs.Common.{◌≡◌, ◌∙◌, Some, length, get_or, refl, sym, ap, arith}
use Rattle.std.specs.List.{slice_get}
use Rattle.std.proofs.lemmas.Option.{slice_get_read, same_Some}
use Rattle.hal_schema.specs.declared.schema.IndexDef.{IndexDef}
use Rattle.secondary_index.proofs.RowLengths.{total, root_short, some_key, short_key, shape_is}
use Rattle.secondary_index.proofs.lengths.shape_of.Goals as goal

pub overflow_add-result-2 : goal.overflow_add-result-2
overflow_add-result-2 c = omega (arith, c.root_bytes.ensures, root_short c.schemas_are_kept.ensures c.args.schema.now)

pub returns-clause-some : goal.returns-clause-some
returns-clause-some c =
    let s = c.args.schema.now in
    let def : IndexDef = c.index-as_slice-place.result in
    let at : slice_get s.indexes c.args.place ≡ Some def = slice_get_read s.indexes (length s.indexes) c.args.place def refl c.requires.known (c.index-as_slice-place.is ∙ ap (λ l. get_or l c.args.place def) c.as_slice.ensures) in
    omega (arith, (c.total_bytes.ensures ∙ ap total c.as_slice-2.ensures), (c.total_bytes-2.ensures ∙ ap total c.as_slice-3.ensures), some_key c.schemas_are_kept.ensures s c.args.place def at)

pub returns-clause-short : goal.returns-clause-short
returns-clause-short c =
    let s = c.args.schema.now in
    let def : IndexDef = c.index-as_slice-place.result in
    let at : slice_get s.indexes c.args.place ≡ Some def = slice_get_read s.indexes (length s.indexes) c.args.place def refl c.requires.known (c.index-as_slice-place.is ∙ ap (λ l. get_or l c.args.place def) c.as_slice.ensures) in
    omega (arith, c.root_bytes.ensures, root_short c.schemas_are_kept.ensures s, (c.total_bytes.ensures ∙ ap total c.as_slice-2.ensures), (c.total_bytes-2.ensures ∙ ap total c.as_slice-3.ensures), short_key c.schemas_are_kept.ensures s c.args.place def at)

pub returns-clause-is : goal.returns-clause-is
returns-clause-is c = λ other is.
    let s = c.args.schema.now in
    let def : IndexDef = c.index-as_slice-place.result in
    let at : slice_get s.indexes c.args.place ≡ Some def = slice_get_read s.indexes (length s.indexes) c.args.place def refl c.requires.known (c.index-as_slice-place.is ∙ ap (λ l. get_or l c.args.place def) c.as_slice.ensures) in
    let same : def ≡ other = same_Some _ _ (sym at ∙ is) in
    shape_is s def other _ _ _ same (c.total_bytes.ensures ∙ ap total c.as_slice-2.ensures) (c.total_bytes-2.ensures ∙ ap total c.as_slice-3.ensures) c.root_bytes.ensures
