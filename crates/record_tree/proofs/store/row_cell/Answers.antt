use Rattle.std.proofs.Common.{◌≡◌, ◌∙◌, ◌≤◌, ℕ, false, length, replicate, take, sym, ap, arith}
use Rattle.std.proofs.lemmas.List.{take-replicate}
use Rattle.record_walk.specs.Tree.{child_codes}
use Rattle.record_tree.proofs.Storing.{fits_of}
use Rattle.record_tree.proofs.store.row_cell.Goals as goal

pub shape-requires : goal.shape-requires
shape-requires c =
    let f = fits_of c.args.schema.now c.args.new.code c.args.new.content c.requires.fits in
    let code_is = f.code_is in
    let within = f.within in
    record { above = omega (arith, code_is); known = omega (arith, code_is, within) }

pub returns : goal.returns
returns c =
    let types = c.args.schema.now.types in
    let code = c.args.new.code in
    let is : c.in_ok-from_slice.field-0 ≡ take c.from-kinds.result (replicate 255 0) = c.in_ok-from_slice.ensures in
    let many : c.from-kinds.result ≡ length (child_codes types code) = c.from-kinds.ensures ∙ c.shape.ensures.children ∙ sym (c.child_places.ensures.many types code) in
    let few : c.from-kinds.result ≤ 255 = omega arith in
    let children : c.in_ok-from_slice.field-0 ≡ replicate (length (child_codes types code)) 0 = is ∙ take-replicate c.from-kinds.result 255 0 few ∙ ap (λ (n : ℕ). replicate n 0) many in
    λ i. record { copied = false; code = code; name = c.unwrap_or.ensures i; twin = c.args.twin; children = children i; content = c.args.new.content }
