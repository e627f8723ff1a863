use Rattle.std.proofs.Common.{length, ap, ◌∙◌, List, ℕ}
use Rattle.keyed_sets.specs.Layout.{rows_in}
use Rattle.keyed_sets.proofs.NextRows.{row_is}
use Rattle.keyed_sets.proofs.neighbours.row_at.Goals as goal

pub returns-clause-row : goal.returns-clause-row
returns-clause-row c = row_is (rows_in c.args.shape c.args.page.now) c.args.at c.key_at.result.now c.body_at.result.now c.in_ok-key.key c.in_ok-body.body c.in_ok-key.ensures c.in_ok-body.ensures c.key_at.ensures.key c.body_at.ensures.body

pub returns-clause-shaped : goal.returns-clause-shaped
returns-clause-shaped c = record { key = ap (λ (l : List ℕ). length l) c.in_ok-key.ensures ∙ c.key_at.ensures.long; body = ap (λ (l : List ℕ). length l) c.in_ok-body.ensures ∙ c.body_at.ensures.long }
