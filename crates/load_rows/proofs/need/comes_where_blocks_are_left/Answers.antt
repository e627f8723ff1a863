use Rattle.std.proofs.Common.{◌≡◌, ◌∙◌, ◌==◌, not, false, List, ap, sym}
use Rattle.std.specs.List.{list_any, slice_get}
use Rattle.hal_schema.specs.declared.schema.PartDef.{PartDef}
use Rattle.hal_schema.specs.Insertion.{new_path}
use Rattle.load_rows.proofs.Steps.{none_left_for}
use Rattle.load_rows.proofs.need.comes_where_blocks_are_left.Goals as goal

pub returns-then-not-some_leave_blocks : goal.returns-then-not-some_leave_blocks
returns-then-not-some_leave_blocks c =
    let none : list_any (λ (part : PartDef). not (part.fbff == 0)) c.args.schema.now.parts ≡ false =
    ap (list_any (λ (part : PartDef). not (part.fbff == 0))) (sym c.as_slice.ensures) ∙ sym c.some_leave_blocks.ensures ∙ c.if-not-some_leave_blocks.true in
    sym (none_left_for c.args.schema.now (slice_get (new_path c.args.schema.now.types c.args.rows.now c.args.new.now) 0) none)
