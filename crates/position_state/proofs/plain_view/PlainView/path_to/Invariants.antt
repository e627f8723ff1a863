use Rattle.std.proofs.Common.{◌≤◌, length, map}
use Rattle.position_state.proofs.Places.{IsMade}
use Rattle.position_state.proofs.plain_view.PlainView.path_to.Given as goal

abbrev pub invariant-path : goal.invariant-path
invariant-path l = (l.left ≤ length l.self.rows.now) × IsMade l.self.schema.now.types l.self.rows.now l.place l.row l.left (map (λ r. r.now) l.path.items)

abbrev pub decreases-path : goal.decreases-path
decreases-path l = l.left
