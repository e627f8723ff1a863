use Rattle.std.proofs.Common.{List, ℕ, refl, ap, subst}
use Rattle.free_space.specs.Map.{Alters}
use Rattle.free_space.specs.SideCalls.{Turns}
use Rattle.record_walk.specs.Changes.{set_content}
use Rattle.record_tree.specs.Placing.{KeepsKey}
use Rattle.record_tree.specs.Sides.{root_rows}
use Rattle.record_tree.proofs.Frames.{ok_weaker, either_way, root_pages, changes_cell}
use Rattle.record_tree.proofs.Replacing.{replaced_list, replaced_stands}
use Rattle.record_tree.proofs.Staying.{records_same}
use Rattle.record_tree.proofs.records.Records.replace.Goals as goal

pub returns-clause-replaced : goal.returns-clause-replaced
returns-clause-replaced g c =
    let records = c.args.self.now in
    let old = g.H.Shelf.seen c.args.shelf.now in
    let new = g.H.Shelf.seen c.set_content.new.shelf in
    let pages = root_pages records old new c.args.at (KeepsKey records.schema c.args.at c.args.content.now) (g.met.H.Shelf.told_alike c.args.shelf.now) (g.met.H.Shelf.told_alike c.set_content.new.shelf) c.requires.stands c.requires.row c.set_content.ensures.leaves.changes.changed in
    ok_weaker c.set_content.result c.set_content.ensures.alters.altered (λ turns.
    replaced_list c.changed_sides.ensures c.replaced_content_is_listed.ensures records old new c.args.at c.args.content.now c.requires.row
    (subst (λ (k : List ℕ). Turns records.cells records.cells old new (Alters c.args.at (set_content k))) c.in_ok-content.ensures turns) (ap (root_rows records.roots.shape) pages))

pub returns-clause-kept : goal.returns-clause-kept
returns-clause-kept g c =
    let records = c.args.self.now in
    let old = g.H.Shelf.seen c.args.shelf.now in
    let new = g.H.Shelf.seen c.set_content.new.shelf in (
      refl,
      either_way c.set_content.result c.set_content.ensures.alters.altered c.set_content.ensures.alters.unchanged (λ turns.
          replaced_stands c.changed_sides.ensures records old new c.args.at c.args.content.now (g.met.H.Shelf.told_alike c.args.shelf.now) (g.met.H.Shelf.told_alike c.set_content.new.shelf) c.requires.stands c.requires.row
          c.set_content.ensures.leaves.changes.changed c.set_content.ensures.stands (subst (λ (k : List ℕ). Turns records.cells records.cells old new (Alters c.args.at (set_content k))) c.in_ok-content.ensures turns))
          (λ same. records_same records old new c.requires.stands same),
    )

pub returns-clause-leaves : goal.returns-clause-leaves
returns-clause-leaves g c =
    changes_cell c.args.self.now (g.H.Shelf.seen c.args.shelf.now) (g.H.Shelf.seen c.set_content.new.shelf) c.args.at (KeepsKey c.args.self.now.schema c.args.at c.args.content.now) (g.met.H.Shelf.told_alike c.args.shelf.now)
    (g.met.H.Shelf.told_alike c.set_content.new.shelf) c.requires.row c.set_content.ensures.leaves.changes
