use Rattle.std.proofs.Common.{◌≡◌, Bool, Some, None, sym, subst, ◌∙◌}
use Rattle.std.specs.Prelude.{MatchBool}
use Rattle.std.proofs.lemmas.Result.{IfOk-weaker}
use Rattle.segment_blocks.specs.declared.tile.Cell.{Cell}
use Rattle.segment_blocks.specs.TilesOf.{cell_among}
use Rattle.segment_blocks.proofs.one.find_at.Goals as goal

pub returns : goal.returns
returns c = λ tiles t.
    let there : (cell : Cell) × (cell_among c.args.at tiles ≡ Some cell) =
    subst (λ (b : Bool). MatchBool b ((cell : Cell) × (cell_among c.args.at tiles ≡ Some cell)) (cell_among c.args.at tiles ≡ None)) c.if-not-stands_at.false (c.stands_at.ensures c.args.shapes.now tiles t) in
    IfOk-weaker c.read_at.result (λ found. found ≡ Some there.0) (λ found. found ≡ cell_among c.args.at tiles) (λ found is. is ∙ sym there.1) (c.read_at.ensures.there tiles there.0 t there.1)
