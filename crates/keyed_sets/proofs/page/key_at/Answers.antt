use Rattle.std.proofs.Common.{ℕ, List, Some, length, drop, sym, ap, refl, ◌∙◌, arith}
use Rattle.std.proofs.lemmas.List.{length-take-le, length-drop}
use Rattle.keyed_sets.specs.Layout.{end_of}
use Rattle.keyed_sets.proofs.Rows.{key_found, end_more, row_ends}
use Rattle.keyed_sets.proofs.page.key_at.Goals as goal

pub key_from-requires : goal.key_from-requires
key_from-requires c = omega (arith, end_more c.args.shape c.args.at, row_ends c.args.shape c.args.page.now c.args.at c.requires.within c.requires.place)

pub returns-clause-key : goal.returns-clause-key
returns-clause-key c = key_found c.args.shape c.args.page.now c.args.at (end_of c.args.shape c.args.at) c.args.shape.key c.requires.within refl refl ∙ ap Some (sym c.key_from.ensures)

pub returns-clause-long : goal.returns-clause-long
returns-clause-long c =
    ap (λ (l : List ℕ). length l) c.key_from.ensures
    ∙ length-take-le c.args.shape.key (drop (end_of c.args.shape c.args.at) c.args.page.now)
    (omega (arith, length-drop (end_of c.args.shape c.args.at) c.args.page.now, c.told-page, end_more c.args.shape c.args.at, row_ends c.args.shape c.args.page.now c.args.at c.requires.within c.requires.place))
