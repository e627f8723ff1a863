use Rattle.std.proofs.Common.{◌∙◌, ◌<◌, sym, ap, length, arith, slice_get}
use Rattle.std.proofs.lemmas.List.{length-map}
use Rattle.data_set_pairs.specs.declared.place.PagePlace.{PagePlace}
use Rattle.data_set_pairs.specs.Table.{pages_of, places_of}
use Rattle.data_set_pairs.proofs.TableSteps.{run_front, place_at, front_pages}
use Rattle.data_set_pairs.proofs.place.block_at.Goals as goal

pub count_before-count-requires-clause-run : goal.count_before-count-requires-clause-run
count_before-count-requires-clause-run c = run_front c.args.pages.now c.end_of-end.result c.requires.run

pub overflow_sub-result : goal.overflow_sub-result
overflow_sub-result c =
    let lt : c.from-page.result < c.count_before-count.result = omega (arith, c.requires.below, length-map (pages_of c.args.set c.args.pages.now) (λ (p : PagePlace). p.block), ap length (front_pages c.args.set c.args.pages.now c.end_of-end.result (record { within = c.end_of-end.ensures.within; parts = c.end_of-end.ensures.parts })), c.count_before-count.ensures, c.from-page.ensures) in
    (place_at c.args.set c.args.pages.now c.end_of-end.result c.count_before-count.result c.from-page.result (record { set = record { part = 0; number = 0; letter = 0 }; page = 0; block = 0 }) (record { part = omega arith; number = omega arith; letter = omega arith }) c.requires.small c.requires.order (record { within = c.end_of-end.ensures.within; parts = c.end_of-end.ensures.parts }) c.count_before-count.ensures lt).0

pub bounds-pages-end : goal.bounds-pages-end
bounds-pages-end c =
    let lt : c.from-page.result < c.count_before-count.result = omega (arith, c.requires.below, length-map (pages_of c.args.set c.args.pages.now) (λ (p : PagePlace). p.block), ap length (front_pages c.args.set c.args.pages.now c.end_of-end.result (record { within = c.end_of-end.ensures.within; parts = c.end_of-end.ensures.parts })), c.count_before-count.ensures, c.from-page.ensures) in
    let le = (place_at c.args.set c.args.pages.now c.end_of-end.result c.count_before-count.result c.from-page.result (record { set = record { part = 0; number = 0; letter = 0 }; page = 0; block = 0 }) (record { part = omega arith; number = omega arith; letter = omega arith }) c.requires.small c.requires.order (record { within = c.end_of-end.ensures.within; parts = c.end_of-end.ensures.parts }) c.count_before-count.ensures lt).0 in
    omega (arith, le, c.end_of-end.ensures.within, lt, c.from-page.ensures)

pub returns : goal.returns
returns c =
    let lt : c.from-page.result < c.count_before-count.result = omega (arith, c.requires.below, length-map (pages_of c.args.set c.args.pages.now) (λ (p : PagePlace). p.block), ap length (front_pages c.args.set c.args.pages.now c.end_of-end.result (record { within = c.end_of-end.ensures.within; parts = c.end_of-end.ensures.parts })), c.count_before-count.ensures, c.from-page.ensures) in
    sym (ap (slice_get (places_of c.args.set c.args.pages.now)) c.from-page.ensures) ∙ sym (place_at c.args.set c.args.pages.now c.end_of-end.result c.count_before-count.result c.from-page.result (record { set = record { part = 0; number = 0; letter = 0 }; page = 0; block = 0 }) (record { part = omega arith; number = omega arith; letter = omega arith }) c.requires.small c.requires.order (record { within = c.end_of-end.ensures.within; parts = c.end_of-end.ensures.parts }) c.count_before-count.ensures lt).1
