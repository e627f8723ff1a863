use Rattle.std.proofs.Common.{◌≡◌, ℕ, ◌+◌, [], ◌∷◌, ◌++◌, List, Err, length, All, sym, ap, subst, ◌∙◌, arith}
use Rattle.std.proofs.lemmas.List.{length_push}
use Rattle.std.proofs.lemmas.Result.{err_from_is_err_and}
use Rattle.hal_base.specs.declared.outcome.StoreFault.TheVariants.{BadTile, Failed}
use Rattle.hal_base.proofs.ShelfLemmas.{reads_then, reads_as, reads_more}
use Rattle.segment_blocks.specs.declared.space.Space.{Space}
use Rattle.free_space.proofs.Told.{reads_none, handed_on, handed_to, ok_err, if_some}
use Rattle.free_space.proofs.Openings.{KnowsFront, front_none, front_all, front_more, front_breaks}
use Rattle.free_space.proofs.open.read_spaces.Goals as goal

pub loop-page-init : goal.loop-page-init
loop-page-init g c = record {
  reads = reads_none (g.H.Shelf.seen c.args.shelf.now) (g.met.H.Shelf.steady_none c.args.shelf.now) c.requires.live;
  count = ap length c.in-Ok.ensures;
  known = λ pages told. subst (KnowsFront c.args.shapes.now pages 0) (sym c.in-Ok.ensures) (front_none c.args.shapes.now pages);
}

pub loop-page-preserved : goal.loop-page-preserved
loop-page-preserved g c =
    let pushed : c.add.new.self.pages.items ≡ c.loop-page.spaces.pages.items ++ c.in_ok-space.space ∷ [] =
    c.add.ensures ∙ ap (λ (l : List Space). l ++ c.in_ok-space.space ∷ []) c.make_slot.ensures.same in
    record {
      reads = reads_then c.loop-page.page 1 c.loop-page.invariant.reads (reads_as c.read_space.ensures.leaves (ok_err c.read_space.result c.in_ok-space.was) (λ failed. absurd failed))
          (g.met.H.Shelf.steady_then c.args.shelf.now c.loop-page.shelf c.read_space.new.shelf);
      count = ap length pushed ∙ length_push c.loop-page.spaces.pages.items c.in_ok-space.space ∙ ap (λ (n : ℕ). n + 1) c.loop-page.invariant.count;
      known = λ pages told. subst (KnowsFront c.args.shapes.now pages (c.loop-page.page + 1)) (sym pushed)
          (front_more c.args.shapes.now pages c.loop-page.page c.loop-page.spaces.pages.items c.in_ok-space.space (c.loop-page.invariant.known pages told)
          (c.in_ok-space.ensures.space pages (c.loop-page.invariant.reads.same.pages c.args.set ∙ told)));
    }

pub returns-in_err-space-clause-bad : goal.returns-in_err-space-clause-bad
returns-in_err-space-clause-bad g c = λ n offset is pages told.
    let p = err_from_is_err_and c.from_residual.result c.from_residual.ensures.1 in
    let failed : c.read_space.result ≡ Err (BadTile n offset) = handed_on c.read_space.result c.from_residual.result p.0 c.in_err-space.field-0.0 (BadTile n offset) p.1 p.2 c.in_err-space.was is in
    let here = c.read_space.ensures.number n offset failed in
    let front = subst (λ (m : ℕ). KnowsFront c.args.shapes.now pages m c.loop-page.spaces.pages.items) (sym here) (c.loop-page.invariant.known pages told) in
    front_breaks c.args.shapes.now pages n offset c.loop-page.spaces.pages.items front (c.read_space.ensures.bad n offset failed pages (c.loop-page.invariant.reads.same.pages c.args.set ∙ told))

pub returns-in_err-space-clause-leaves : goal.returns-in_err-space-clause-leaves
returns-in_err-space-clause-leaves g c =
    let p = err_from_is_err_and c.from_residual.result c.from_residual.ensures.1 in
    reads_more (reads_then c.loop-page.page 1 c.loop-page.invariant.reads
    (reads_as c.read_space.ensures.leaves (handed_to c.read_space.result c.from_residual.result p.0 c.in_err-space.field-0.0 Failed p.1 p.2 c.in_err-space.was)
    (handed_on c.read_space.result c.from_residual.result p.0 c.in_err-space.field-0.0 Failed p.1 p.2 c.in_err-space.was))
    (g.met.H.Shelf.steady_then c.args.shelf.now c.loop-page.shelf c.read_space.new.shelf)) (omega (arith, c.loop-page-test.true, c.pages-page-end.ensures))

pub returns-clause-layout : goal.returns-clause-layout
returns-clause-layout g c = λ pages told.
    let many : length pages ≡ length ((g.H.Shelf.seen c.args.shelf.now).places c.args.set) =
    (if_some (λ all. (length all ≡ length ((g.H.Shelf.seen c.args.shelf.now).places c.args.set)) × All (λ page. length page ≡ 4096) all) ((g.H.Shelf.seen c.args.shelf.now).pages c.args.set) pages (g.met.H.Shelf.pages_are c.args.shelf.now c.args.set) told).0 in
    front_all c.args.shapes.now pages c.loop-page.page c.loop-page.spaces.pages.items (c.loop-page.invariant.known pages told) (omega (arith, many, c.loop-page.auto.page-end, c.loop-page-test.false, c.pages-page-end.ensures))

pub returns-clause-leaves : goal.returns-clause-leaves
returns-clause-leaves g c = reads_more (reads_as c.loop-page.invariant.reads (λ failed. absurd failed) (λ failed. let wrong = failed in cc))
    (omega (arith, c.loop-page.auto.page-end, c.loop-page-test.false, c.pages-page-end.ensures))
