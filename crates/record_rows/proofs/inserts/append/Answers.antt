use Rattle.std.proofs.Common.{◌≡◌, List, ℕ, true, refl, subst, rules}
use Rattle.record_walk.specs.Side.{key_of}
use Rattle.record_tree.specs.Finding.{BelongsTo}
use Rattle.record_tree.specs.Placing.{unplaced}
use Rattle.record_rows.proofs.Quiet.{may_stand, quiet_last}
use Rattle.record_rows.proofs.inserts.append.Goals as goal

pub append-requires-clause-place : goal.append-requires-clause-place
append-requires-clause-place c =
    let ok : c.may_stand.result ≡ true = search rules in
    let opened = c.in-Ok.ensures in
    let schema = c.args.schema.now in
    quiet_last c.in-Ok.records _ c.args.place c.args.row.now.code _ (λ set. refl)
    (may_stand c.in-Ok.records schema c.args.place c.args.row.now.code _ opened.schema opened.place (c.may_stand.ensures.root ok)
    (λ none. subst (λ (l : List ℕ). BelongsTo schema 0 (key_of schema (unplaced 1 l))) c.as_slice-else-not-fits.ensures (c.may_stand.ensures.belongs ok none)))
