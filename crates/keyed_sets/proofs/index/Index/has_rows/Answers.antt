use Rattle.std.proofs.Common.{◌∙◌, sym}
use Rattle.std.proofs.lemmas.Bool.{eqb-true}
use Rattle.std.proofs.lemmas.List.{nil_from_length}
use Rattle.keyed_sets.proofs.Told.{flipped}
use Rattle.keyed_sets.proofs.index.Index.has_rows.Goals as goal

pub returns-clause-none : goal.returns-clause-none
returns-clause-none c = λ no.
    let firsts = c.args.self.now.firsts in
    nil_from_length firsts.items (sym firsts.ok.0 ∙ eqb-true _ _ (sym c.is_empty.ensures ∙ flipped c.is_empty.result no))
