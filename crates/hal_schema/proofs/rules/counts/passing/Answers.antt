use Rattle.std.proofs.Common.{◌++◌, length, sym, ap, ◌∙◌, arith}
use Rattle.std.proofs.lemmas.List.{append-nil}
use Rattle.hal_schema.specs.Places.{is_before}
use Rattle.hal_schema.proofs.Ordered.{length-order, passing-none}
use Rattle.hal_schema.proofs.rules.counts.passing.Goals as goal

pub returns-then-all-most : goal.returns-then-all-most
returns-then-all-most c =
    sym (ap (λ l. c.args.places.now ++ l) (passing-none c.args.most c.args.all.now c.if-all-most.true) ∙ append-nil c.args.places.now)

pub slice_bounds-append-count : goal.slice_bounds-append-count
slice_bounds-append-count c =
    let same = ap length (c.as_slice.ensures ∙ c.in_ok-ordered.ensures) in
    let n = length-order is_before c.args.all.now in
    let more = c.if-all-most.false in
    omega (arith, same, n, more)

pub slice_bounds-append-start : goal.slice_bounds-append-start
slice_bounds-append-start c =
    let same = ap length (c.as_slice.ensures ∙ c.in_ok-ordered.ensures) in
    let n = length-order is_before c.args.all.now in
    let more = c.if-all-most.false in
    omega (arith, same, n, more)
