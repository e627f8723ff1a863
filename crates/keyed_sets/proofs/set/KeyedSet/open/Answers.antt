use Rattle.std.proofs.Common.{◌≡◌, ◌∙◌, ◌+◌, ◌<◌, take, sym, ap, subst, Err, length, List, ℕ, arith}
use Rattle.std.specs.Prelude.{IfSome, All}
use Rattle.std.proofs.lemmas.Result.{err_from_is_err_and}
use Rattle.std.proofs.lemmas.List.{take_all}
use Rattle.hal_base.specs.declared.outcome.StoreFault.TheVariants.{BadTile, Failed}
use Rattle.hal_base.proofs.ShelfLemmas.{reads_then, reads_more, reads_as}
use Rattle.keyed_sets.specs.declared.index.First.{First}
use Rattle.keyed_sets.specs.declared.row.RowShape.{RowShape}
use Rattle.keyed_sets.specs.Rule.{BreaksAt}
use Rattle.keyed_sets.specs.Standing.{Stands}
use Rattle.keyed_sets.specs.Taken.{TakesIn}
use Rattle.keyed_sets.proofs.OpenSets.{opened_from}
use Rattle.keyed_sets.proofs.PageByPage.{step_taken}
use Rattle.keyed_sets.proofs.Told.{ok_not_err, one_fault, where_told, told_at}
use Rattle.keyed_sets.proofs.set.KeyedSet.open.Goals as goal

pub returns-in_err-take_page-clause-broken : goal.returns-in_err-take_page-clause-broken
returns-in_err-take_page-clause-broken g c = λ page offset is.
    let p = err_from_is_err_and c.from_residual.result c.from_residual.ensures.1 in
    let told = (g.H.Shelf.seen c.args.shelf.now).pages c.args.set in
    let shape : RowShape = record { key = c.args.key; body = c.args.body } in
    let failed : c.take_page.result ≡ Err (BadTile page offset) = cc in
    step_taken (λ pages. BreaksAt shape pages page offset) shape told ((g.H.Shelf.seen c.loop-n.shelf).pages c.args.set) c.loop-n.n c.loop-n.opening.firsts.items c.loop-n.opening.lasts.items c.loop-n.opening.empty.items (c.loop-n.invariant.read.same.pages c.args.set) c.loop-n.invariant.taken (c.take_page.ensures.broken page offset failed)

pub returns-in_err-take_page-clause-leaves : goal.returns-in_err-take_page-clause-leaves
returns-in_err-take_page-clause-leaves g c =
    let p = err_from_is_err_and c.from_residual.result c.from_residual.ensures.1 in
    let q = one_fault c.take_page.result c.from_residual.result _ p.0 Failed c.in_err-take_page.was p.1 p.2 in
    reads_as (reads_more (reads_then c.loop-n.n 1 c.loop-n.invariant.read c.take_page.ensures.leaves (g.met.H.Shelf.steady_then c.args.shelf.now c.loop-n.shelf c.take_page.new.shelf)) (omega (arith, c.loop-n.invariant.last))) q.0 q.1

pub loop-n-preserved : goal.loop-n-preserved
loop-n-preserved g c =
    let ok = c.in_ok-take_page.ensures in
    let told = (g.H.Shelf.seen c.args.shelf.now).pages c.args.set in
    let shape : RowShape = record { key = c.args.key; body = c.args.body } in
    record {
      live = c.take_page.ensures.leaves.keeps.faults.alive (λ is. ok_not_err c.take_page.result c.in_ok-take_page.field-0 Failed c.in_ok-take_page.was is);
      last = c.loop-n.invariant.last;
      firsts = ok.within c.pages-n-end.result (omega arith) c.loop-n.invariant.firsts;
      empty = ok.empty_within c.pages-n-end.result (omega arith) c.loop-n.invariant.empty;
      taken = step_taken (λ pages. TakesIn shape (take (c.loop-n.n + 1) pages) c.take_page.new.self.firsts.items c.take_page.new.self.lasts.items c.take_page.new.self.empty.items) shape told ((g.H.Shelf.seen c.loop-n.shelf).pages c.args.set) c.loop-n.n c.loop-n.opening.firsts.items c.loop-n.opening.lasts.items c.loop-n.opening.empty.items (c.loop-n.invariant.read.same.pages c.args.set) c.loop-n.invariant.taken ok.taken;
      read = reads_as (reads_then c.loop-n.n 1 c.loop-n.invariant.read c.take_page.ensures.leaves (g.met.H.Shelf.steady_then c.args.shelf.now c.loop-n.shelf c.take_page.new.shelf))
          (λ is. ok_not_err c.take_page.result c.in_ok-take_page.field-0 Failed c.in_ok-take_page.was is) (λ no. absurd no);
    }

pub returns-clause-opened : goal.returns-clause-opened
returns-clause-opened g c =
    let id = c.args.set in
    let shape : RowShape = record { key = c.args.key; body = c.args.body } in
    let before = g.H.Shelf.seen c.args.shelf.now in
    let now = g.H.Shelf.seen c.loop-n.shelf in
    let inv = c.loop-n.invariant in
    let count : c.pages-n-end.result ≡ length (now.places id) = inv.last ∙ ap (λ (l : List ℕ). length l) (sym (inv.read.same.places id)) in
    let firsts : List First = c.loop-n.opening.firsts.items in
    let empty : List ℕ = c.loop-n.opening.empty.items in
    opened_from _ now (subst (λ (k : ℕ). All (λ (f : First). f.page < k) firsts) count inv.firsts) (subst (λ (k : ℕ). All (λ n. n < k) empty) count inv.empty)
    (subst (λ o. IfSome o (Stands shape firsts empty)) (sym (inv.read.same.pages id)) (where_told (before.pages id) (Stands shape firsts empty) (λ pages is.
    let long : length pages ≡ length (before.places id) = (told_at (before.pages id) pages (λ (l : List (List ℕ)). (length l ≡ length (before.places id)) × All (λ (page : List ℕ). length page ≡ 4096) l) is (g.met.H.Shelf.pages_are c.args.shelf.now id)).0 in
    let all : take c.loop-n.n pages ≡ pages = take_all c.loop-n.n pages (omega (arith, long, inv.last, c.loop-n-test.false)) in
    let t = subst (λ (l : List (List ℕ)). TakesIn shape l firsts c.loop-n.opening.lasts.items empty) all (told_at (before.pages id) pages (λ l. TakesIn shape (take c.loop-n.n l) firsts c.loop-n.opening.lasts.items empty) is inv.taken) in
    record { rule = t.rule; index = t.taken.index; empty_pages = t.taken.none })))
