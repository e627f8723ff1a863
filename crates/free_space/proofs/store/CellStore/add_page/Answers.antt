use Rattle.std.proofs.Common.{List, [], ◌∷◌, ◌++◌, refl, ap, ◌∙◌, arith}
use Rattle.hal_base.proofs.ShelfLemmas.{same_none}
use Rattle.segment_blocks.specs.declared.space.Space.{Space}
use Rattle.free_space.proofs.Told.{stays_kept}
use Rattle.free_space.proofs.PageSteps.{relays_push, stays_push}
use Rattle.free_space.proofs.store.CellStore.add_page.Goals as goal

pub returns-in_default-clause-stays : goal.returns-in_default-clause-stays
returns-in_default-clause-stays g c = stays_kept c.args.self.now _ (g.H.Shelf.seen c.args.shelf.now) (g.H.Shelf.seen c.args.shelf.now) c.requires.stands (same_none (g.H.Shelf.seen c.args.shelf.now)) refl refl c.make_slot.ensures.same

pub returns-in-Err-clause-stays : goal.returns-in-Err-clause-stays
returns-in-Err-clause-stays g c = stays_kept c.args.self.now _ (g.H.Shelf.seen c.args.shelf.now) (g.H.Shelf.seen c.grow.new.self) c.requires.stands c.in-Err.ensures.leaves refl refl c.make_slot.ensures.same

pub returns-in-Ok-grow-clause-grown : goal.returns-in-Ok-grow-clause-grown
returns-in-Ok-grow-clause-grown g c = record {
  blocks = c.in-Ok-grow.ensures.leaves;
  tiles = relays_push c.args.self.now (g.H.Shelf.seen c.args.shelf.now) (g.H.Shelf.seen c.grow.new.self) c.in-Ok-grow.page c.in-Ok-grow.ensures.number (g.met.H.Shelf.pages_are c.args.shelf.now c.args.self.now.set) c.in-Ok-grow.ensures.page;
}

pub returns-in-Ok-grow-clause-stays : goal.returns-in-Ok-grow-clause-stays
returns-in-Ok-grow-clause-stays g c =
    stays_push c.args.self.now _ (g.H.Shelf.seen c.args.shelf.now) (g.H.Shelf.seen c.grow.new.self) c.in-Ok-grow.page c.with_hole-empty.result c.requires.stands refl refl
    (c.add.ensures ∙ ap (λ (l : List Space). l ++ c.with_hole-empty.result ∷ []) c.make_slot.ensures.same) (c.with_hole-empty.ensures [] 16 c.none.ensures) c.in-Ok-grow.ensures.leaves c.in-Ok-grow.ensures.page

pub make_slot-requires : goal.make_slot-requires
make_slot-requires g c = omega (arith, c.requires.stands.many, g.met.H.Shelf.few c.args.shelf.now c.args.self.now.set)
