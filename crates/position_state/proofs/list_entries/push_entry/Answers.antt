use Rattle.std.proofs.Common.{map, refl, sym}
use Rattle.position_state.proofs.Steps.{pushed_one}
use Rattle.position_state.proofs.list_entries.push_entry.Goals as goal

pub returns-in_ok-push-in-Some : goal.returns-in_ok-push-in-Some
returns-in_ok-push-in-Some c =
    pushed_one c.args.schema.now.types c.args.index.now (map (λ r. r.now) c.args.path.now) c.args.row.now c.in-Some.target.now c.args.entries.now.items c.push.new.self.items
    (record { key = c.in_ok-key-in-Some.key; target = c.in-Some.target.now.name; root = c.in_ok-root-in-Some.root })
    c.if-row-index.false (sym c.in-Some.ensures) c.in_ok-key-in-Some.ensures refl c.in_ok-root-in-Some.ensures c.in_ok-push-in-Some.ensures.items
