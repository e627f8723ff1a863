use Rattle.std.proofs.Common.{◌≡◌, ℕ, take, drop, ap, ◌∙◌, arith}
use Rattle.keyed_sets.specs.Layout.{end_of}
use Rattle.keyed_sets.proofs.Rows.{end_more}
use Rattle.keyed_sets.proofs.page.key_from.Goals as goal

pub slice_bounds-result-end : goal.slice_bounds-result-end
slice_bounds-result-end c =
    let starts : c.end_of-start.result ≡ end_of c.args.shape c.args.at = c.end_of-start.ensures ∙ ap (end_of c.args.shape) (omega (arith, c.from.ensures)) in
    omega (arith, end_more c.args.shape c.args.at, c.requires, starts, c.from-2.ensures)

pub returns : goal.returns
returns c =
    let starts : c.end_of-start.result ≡ end_of c.args.shape c.args.at = c.end_of-start.ensures ∙ ap (end_of c.args.shape) (omega (arith, c.from.ensures)) in
    ap (λ (k : ℕ). take k (drop c.end_of-start.result c.args.page.now)) (omega (arith, c.from-2.ensures)) ∙ ap (λ (k : ℕ). take c.args.shape.key (drop k c.args.page.now)) starts
