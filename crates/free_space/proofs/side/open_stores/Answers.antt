use Rattle.std.proofs.Common.{◌≡◌, ℕ, ◌+◌, inl, inr, List, [], ◌∷◌, ◌++◌, Err, length, sym, ap, subst, ◌∙◌, rules, arith}
use Rattle.std.specs.Prelude.{slice_get}
use Rattle.std.proofs.lemmas.List.{length_push}
use Rattle.std.proofs.lemmas.Result.{err_from_is_err_and}
use Rattle.hal_base.specs.declared.outcome.StoreFault.TheVariants.{BadTile, Failed}
use Rattle.hal_base.proofs.ShelfLemmas.{reads_then, reads_as, reads_more}
use Rattle.hal_base.specs.declared.place.Shape.{Shape}
use Rattle.free_space.specs.declared.store.CellStore.{CellStore}
use Rattle.free_space.specs.Side.{lettered}
use Rattle.free_space.specs.SideCalls.{pages_upto}
use Rattle.free_space.specs.Store.{StandsFor, AreTiled}
use Rattle.free_space.proofs.Told.{reads_none, handed_on, handed_to, ok_err, push_cases, stands_same}
use Rattle.free_space.proofs.SideSteps.{upto_more, upto_ten, got}
use Rattle.free_space.proofs.side.open_stores.Goals as goal

pub loop-place-init : goal.loop-place-init
loop-place-init g c = record {
  reads = reads_more (reads_none (g.H.Shelf.seen c.args.shelf.now) (g.met.H.Shelf.steady_none c.args.shelf.now) c.requires.live) (omega arith);
  count = ap length c.new-stores.ensures.items;
  each = λ k store is. let wrong = sym (ap (λ (l : _). slice_get l k) c.new-stores.ensures.items) ∙ is in cc;
}

pub loop-place-preserved : goal.loop-place-preserved
loop-place-preserved g c =
    let pushed : c.push.new.self.items ≡ c.loop-place.stores.items ++ c.in_ok-store.store ∷ [] = search rules in
    let begun = g.H.Shelf.seen c.args.shelf.now in
    let cur = g.H.Shelf.seen c.loop-place.shelf in
    let place = c.loop-place.place in
    let inv = c.loop-place.invariant in
    record {
      reads = reads_more (reads_then (pages_upto c.args.first begun place) (length (cur.places c.lettered.result)) inv.reads (reads_as c.open.ensures.leaves (ok_err c.open.result c.in_ok-store.was) (λ failed. absurd failed))
          (g.met.H.Shelf.steady_then c.args.shelf.now c.loop-place.shelf c.open.new.shelf)) (omega (arith, upto_more c.args.first begun place, ap length (ap cur.places c.lettered.ensures ∙ inv.reads.same.places (lettered c.args.first place))));
      count = ap length pushed ∙ length_push c.loop-place.stores.items c.in_ok-store.store ∙ ap (λ (n : ℕ). n + 1) inv.count;
      each = λ k store is. elim (push_cases c.loop-place.stores.items c.in_ok-store.store store k (ap (λ (l : List CellStore). slice_get l k) (sym pushed) ∙ is)) [
        | inl before ↦ let e = inv.each k store before in (e.0, e.1, stands_same store cur (g.H.Shelf.seen c.open.new.shelf) e.2 c.open.ensures.leaves.same)
        | inr last ↦ (
          ap (λ (s : CellStore). s.set) (sym last.1) ∙ c.in_ok-store.ensures.set ∙ c.lettered.ensures ∙ ap (lettered c.args.first) (sym (last.0 ∙ inv.count)),
          ap (λ (s : CellStore). s.shapes) (sym last.1) ∙ c.in_ok-store.ensures.shapes,
          subst (λ (s : CellStore). StandsFor s (g.H.Shelf.seen c.open.new.shelf)) last.1 c.in_ok-store.ensures.opened,
        )
      ];
    }

pub returns-in_err-store-clause-bad : goal.returns-in_err-store-clause-bad
returns-in_err-store-clause-bad g c = λ n offset is.
    let p = err_from_is_err_and c.from_residual.result c.from_residual.ensures.1 in
    let failed : c.open.result ≡ Err (BadTile n offset) = handed_on c.open.result c.from_residual.result p.0 c.in_err-store.field-0.0 (BadTile n offset) p.1 p.2 c.in_err-store.was is in
    let cur = g.H.Shelf.seen c.loop-place.shelf in
    let inv = c.loop-place.invariant in
    record {
      place = c.loop-place.place;
      below = omega (arith, c.loop-place-test.true);
      here = λ pages told. c.open.ensures.bad n offset failed pages (ap cur.pages c.lettered.ensures ∙ inv.reads.same.pages (lettered c.args.first c.loop-place.place) ∙ told);
      before = λ other pages less told.
          let there = got c.loop-place.stores.items other (omega (arith, less, inv.count)) in
          let e = inv.each other there.0 there.1 in
          subst (λ (s : List Shape). AreTiled s pages) e.1 (e.2.told pages (ap cur.pages e.0 ∙ inv.reads.same.pages (lettered c.args.first other) ∙ told)).tiled;
    }

pub returns-in_err-store-clause-leaves : goal.returns-in_err-store-clause-leaves
returns-in_err-store-clause-leaves g c =
    let p = err_from_is_err_and c.from_residual.result c.from_residual.ensures.1 in
    let begun = g.H.Shelf.seen c.args.shelf.now in
    let cur = g.H.Shelf.seen c.loop-place.shelf in
    let inv = c.loop-place.invariant in
    reads_more (reads_then (pages_upto c.args.first begun c.loop-place.place) (length (cur.places c.lettered.result)) inv.reads
    (reads_as c.open.ensures.leaves (handed_to c.open.result c.from_residual.result p.0 c.in_err-store.field-0.0 Failed p.1 p.2 c.in_err-store.was)
    (handed_on c.open.result c.from_residual.result p.0 c.in_err-store.field-0.0 Failed p.1 p.2 c.in_err-store.was))
    (g.met.H.Shelf.steady_then c.args.shelf.now c.loop-place.shelf c.open.new.shelf))
    (omega (arith, upto_ten c.args.first begun c.loop-place.place (omega (arith, c.loop-place-test.true)), ap length (ap cur.places c.lettered.ensures ∙ inv.reads.same.places (lettered c.args.first c.loop-place.place))))

pub returns-then-is_err-clause-leaves : goal.returns-then-is_err-clause-leaves
returns-then-is_err-clause-leaves g c =
    let begun = g.H.Shelf.seen c.args.shelf.now in
    let cur = g.H.Shelf.seen c.loop-place.shelf in
    let inv = c.loop-place.invariant in
    reads_more (reads_then (pages_upto c.args.first begun c.loop-place.place) (length (cur.places c.lettered.result)) inv.reads
    (reads_as c.open.ensures.leaves (λ failed. absurd (ok_err c.open.result c.in_ok-store.was failed)) (λ failed. let wrong = failed in cc))
    (g.met.H.Shelf.steady_then c.args.shelf.now c.loop-place.shelf c.open.new.shelf))
    (omega (arith, upto_ten c.args.first begun c.loop-place.place (omega (arith, c.loop-place-test.true)), ap length (ap cur.places c.lettered.ensures ∙ inv.reads.same.places (lettered c.args.first c.loop-place.place))))
