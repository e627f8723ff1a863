use Rattle.std.proofs.Common.{◌≡◌, Some, sym, ap, get_or, length, refl, ◌∙◌}
use Rattle.std.specs.List.{slice_get}
use Rattle.std.proofs.lemmas.Option.{slice_get_read, same_Some}
use Rattle.hal_schema.specs.Entry.{entry_key}
use Rattle.hal_schema.proofs.Indexes.{search_within, subseq_within}
use Rattle.hal_schema.proofs.schema.Schema.entry_key.Goals as goal

pub key_by-requires : goal.key_by-requires
key_by-requires c =
    let s = c.args.self.now in
    let def = c.index-as_slice-index.result in
    let at : slice_get s.indexes c.args.index ≡ Some def =
    slice_get_read s.indexes (length s.indexes) c.args.index def refl c.requires.known (c.index-as_slice-index.is ∙ ap (λ l. get_or l c.args.index def) c.as_slice.ensures) in
    record {
      search = search_within s.types s.indexes c.args.index def _ s.fields s.kept_indexes at (c.requires.content_long def at);
      subseq = subseq_within s.types s.indexes c.args.index def _ s.kept_indexes at (c.requires.keys_long def at);
    }

pub returns : goal.returns
returns c = λ i e.
    let s = c.args.self.now in
    let def = c.index-as_slice-index.result in
    let at : slice_get s.indexes c.args.index ≡ Some def =
    slice_get_read s.indexes (length s.indexes) c.args.index def refl c.requires.known (c.index-as_slice-index.is ∙ ap (λ l. get_or l c.args.index def) c.as_slice.ensures) in
    sym (ap (λ i. entry_key i c.args.content.now c.args.keys.now) (same_Some i def (sym e ∙ at)) ∙ c.in_ok-key_by.ensures)
