use Rattle.std.proofs.Common.{◌∙◌, ℕ, Some, None, sym, ap}
use Rattle.std.specs.Int.{w32, from_be_bytes}
use Rattle.std.specs.Option.{option_map}
use Rattle.record_tree.specs.Finding.{is_key}
use Rattle.record_tree.proofs.RootRows.{root_found, kept_roots, body_found}
use Rattle.record_tree.proofs.records.Records.root.Goals as goal

pub returns-in_err-body-clause-kept : goal.returns-in_err-body-clause-kept
returns-in_err-body-clause-kept g c = kept_roots c.args.self.now c.get.new.self (g.H.Shelf.seen c.args.shelf.now) (g.H.Shelf.seen c.get.new.shelf) c.requires.stands c.get.ensures.kept.0 c.get.ensures.leaves.same

pub returns-in-Some-clause-found : goal.returns-in-Some-clause-found
returns-in-Some-clause-found g c =
    root_found c.roots_go_by_rows.ensures c.pointers_lead_on.ensures c.args.self.now (g.H.Shelf.seen c.args.shelf.now) c.requires.stands (g.met.H.Shelf.told_alike c.args.shelf.now) (is_key c.args.key.now) (Some c.home_in.result) (λ trees pages walks is.
    ap (λ (n : ℕ). Some n) c.home_in.ensures ∙ ap (option_map (from_be_bytes w32)) (sym c.in-Some.is) ∙ body_found c.args.key.now ((g.H.Shelf.seen c.args.shelf.now).pages c.args.self.now.roots.set) c.args.self.now.roots.shape c.in_ok-body.field-0 c.in_ok-body.ensures.found.is pages is)

pub returns-in-Some-clause-kept : goal.returns-in-Some-clause-kept
returns-in-Some-clause-kept g c = kept_roots c.args.self.now c.get.new.self (g.H.Shelf.seen c.args.shelf.now) (g.H.Shelf.seen c.get.new.shelf) c.requires.stands c.get.ensures.kept.0 c.get.ensures.leaves.same

pub returns-in-None-clause-found : goal.returns-in-None-clause-found
returns-in-None-clause-found g c =
    root_found c.roots_go_by_rows.ensures c.pointers_lead_on.ensures c.args.self.now (g.H.Shelf.seen c.args.shelf.now) c.requires.stands (g.met.H.Shelf.told_alike c.args.shelf.now) (is_key c.args.key.now) None (λ trees pages walks is.
    ap (option_map (from_be_bytes w32)) (sym c.in-None.is) ∙ body_found c.args.key.now ((g.H.Shelf.seen c.args.shelf.now).pages c.args.self.now.roots.set) c.args.self.now.roots.shape c.in_ok-body.field-0 c.in_ok-body.ensures.found.is pages is)

pub returns-in-None-clause-kept : goal.returns-in-None-clause-kept
returns-in-None-clause-kept g c = kept_roots c.args.self.now c.get.new.self (g.H.Shelf.seen c.args.shelf.now) (g.H.Shelf.seen c.get.new.shelf) c.requires.stands c.get.ensures.kept.0 c.get.ensures.leaves.same
