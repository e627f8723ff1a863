use Rattle.std.proofs.Common.{◌∙◌, ℕ, Some, None, sym, ap}
use Rattle.std.specs.Int.{w32, from_be_bytes}
use Rattle.std.specs.Option.{option_map}
use Rattle.keyed_sets.specs.Layout.{Row}
use Rattle.record_tree.specs.Finding.{is_behind}
use Rattle.record_tree.proofs.RootRows.{root_found, kept_roots, next_found}
use Rattle.record_tree.proofs.records.Records.next_root.Goals as goal

pub returns-in_err-row-clause-kept : goal.returns-in_err-row-clause-kept
returns-in_err-row-clause-kept g c = kept_roots c.args.self.now c.next_after.new.self (g.H.Shelf.seen c.args.shelf.now) (g.H.Shelf.seen c.next_after.new.shelf) c.requires.stands c.next_after.ensures.kept.0 c.next_after.ensures.leaves.same

pub returns-in-Some-clause-found : goal.returns-in-Some-clause-found
returns-in-Some-clause-found g c =
    root_found c.roots_go_by_rows.ensures c.pointers_lead_on.ensures c.args.self.now (g.H.Shelf.seen c.args.shelf.now) c.requires.stands (g.met.H.Shelf.told_alike c.args.shelf.now) (is_behind c.args.self.now.schema (option_map (λ key. key.now) c.args.key)) (Some c.home_in.result) (λ trees pages walks is.
    ap (λ (n : ℕ). Some n) c.home_in.ensures ∙ ap (option_map (λ (row : Row). from_be_bytes w32 (row.1))) (sym c.in-Some.is ∙ next_found c.roots_go_by_key.ensures c.roots_go_by_rows.ensures c.args.self.now (g.H.Shelf.seen c.args.shelf.now) c.requires.stands (option_map (λ key. key.now) c.args.key) c.requires.belongs c.in_ok-row.field-0 c.in_ok-row.ensures.row.is trees pages walks is))

pub returns-in-Some-clause-kept : goal.returns-in-Some-clause-kept
returns-in-Some-clause-kept g c = kept_roots c.args.self.now c.next_after.new.self (g.H.Shelf.seen c.args.shelf.now) (g.H.Shelf.seen c.next_after.new.shelf) c.requires.stands c.next_after.ensures.kept.0 c.next_after.ensures.leaves.same

pub returns-in-None-clause-found : goal.returns-in-None-clause-found
returns-in-None-clause-found g c =
    root_found c.roots_go_by_rows.ensures c.pointers_lead_on.ensures c.args.self.now (g.H.Shelf.seen c.args.shelf.now) c.requires.stands (g.met.H.Shelf.told_alike c.args.shelf.now) (is_behind c.args.self.now.schema (option_map (λ key. key.now) c.args.key)) None (λ trees pages walks is.
    ap (option_map (λ (row : Row). from_be_bytes w32 (row.1))) (sym c.in-None.is ∙ next_found c.roots_go_by_key.ensures c.roots_go_by_rows.ensures c.args.self.now (g.H.Shelf.seen c.args.shelf.now) c.requires.stands (option_map (λ key. key.now) c.args.key) c.requires.belongs c.in_ok-row.field-0 c.in_ok-row.ensures.row.is trees pages walks is))

pub returns-in-None-clause-kept : goal.returns-in-None-clause-kept
returns-in-None-clause-kept g c = kept_roots c.args.self.now c.next_after.new.self (g.H.Shelf.seen c.args.shelf.now) (g.H.Shelf.seen c.next_after.new.shelf) c.requires.stands c.next_after.ensures.kept.0 c.next_after.ensures.leaves.same
