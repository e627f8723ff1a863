use Rattle.std.proofs.Common.{◌≡◌, ◌∙◌, sym, subst, Err}
use Rattle.std.specs.Prelude.{IfSome, IsTrue}
use Rattle.hal_schema.specs.declared.schema.Schema.{Schema}
use Rattle.hal_loader.specs.Placing.{coming}
use Rattle.hal_loader.specs.Refusals.{may_be_taken}
use Rattle.hal_loader.specs.Taker.{Takes}
use Rattle.hal_loader.proofs.Placings.{Way, judged_err, fits_told, placed_ok, placed_err}
use Rattle.hal_loader.proofs.row.place_row.Goals as goal

pub returns-in-Err-clause-did : goal.returns-in-Err-clause-did
returns-in-Err-clause-did g c = λ at s.
    let way : Way c.args.schema.now c.args.path.now c.args.said.now.code c.args.said.now.content c.climb-below.result c.climb-below.new.self c.name-parent.result c.in_ok-key.key = record {
      above_is = rw c.parent_code.ensures at c.climb-below.ensures.above;
      below_is = rw c.parent_code.ensures at c.climb-below.ensures.below;
      parent_is = c.name-parent.ensures;
      key_is = rw (c.key_in.ensures, c.as_slice.ensures) at c.in_ok-key.ensures;
    } in
    judged_err c.args.schema.now (g.R.RowTaker.seen c.args.into.now) (g.R.RowTaker.seen c.judge.new.into) c.args.path.now c.climb-below.new.self at c.args.said.now.code c.args.said.now.content
    c.climb-below.result c.climb-below.new.self c.name-parent.result c.in_ok-key.key c.in-Err.why (c.schemas_are_kept.ensures c.args.schema.now) s way c.in-Err.ensures.judges c.in-Err.ensures.looks

pub take-requires-clause-fits : goal.take-requires-clause-fits
take-requires-clause-fits g c =
    let way : Way c.args.schema.now c.args.path.now c.args.said.now.code c.args.said.now.content c.climb-below.result c.climb-below.new.self c.name-parent.result c.in_ok-key.key = record {
      above_is = rw c.parent_code.ensures at c.climb-below.ensures.above;
      below_is = rw c.parent_code.ensures at c.climb-below.ensures.below;
      parent_is = c.name-parent.ensures;
      key_is = rw (c.key_in.ensures, c.as_slice.ensures) at c.in_ok-key.ensures;
    } in
    let e : c.args.schema.now ≡ g.R.RowTaker.schema c.judge.new.into = sym (c.judge.ensures.schema ∙ c.requires.same) in
    subst (λ (s : Schema). IfSome (g.R.RowTaker.seen c.judge.new.into).rows (λ rows. IsTrue (may_be_taken s rows (coming c.name-parent.result c.args.said.now.code c.args.said.now.content)))) e
    (fits_told c.args.schema.now (g.R.RowTaker.seen c.args.into.now) (g.R.RowTaker.seen c.judge.new.into) c.args.path.now c.args.said.now.code c.args.said.now.content
    c.climb-below.result c.climb-below.new.self c.name-parent.result c.in_ok-key.key (c.schemas_are_kept.ensures c.args.schema.now) c.requires.stands way c.requires.long c.in_default.ensures.judges (c.in_default.ensures.looks tt))

pub returns-in-Ok-clause-did : goal.returns-in-Ok-clause-did
returns-in-Ok-clause-did g c = λ at s.
    let way : Way c.args.schema.now c.args.path.now c.args.said.now.code c.args.said.now.content c.climb-below.result c.climb-below.new.self c.name-parent.result c.in_ok-key.key = record {
      above_is = rw c.parent_code.ensures at c.climb-below.ensures.above;
      below_is = rw c.parent_code.ensures at c.climb-below.ensures.below;
      parent_is = c.name-parent.ensures;
      key_is = rw (c.key_in.ensures, c.as_slice.ensures) at c.in_ok-key.ensures;
    } in
    let takes = rw (c.judge.ensures.schema ∙ c.requires.same) at c.in-Ok.ensures.takes in
    placed_ok c.args.schema.now (g.R.RowTaker.seen c.args.into.now) (g.R.RowTaker.seen c.judge.new.into) (g.R.RowTaker.seen c.take.new.self) c.args.path.now c.push.new.self at c.args.said.now.code c.args.said.now.content
    c.climb-below.result c.climb-below.new.self c.name-parent.result c.in_ok-key.key c.in-Ok.name (c.schemas_are_kept.ensures c.args.schema.now) s way c.in_default.ensures.judges (c.in_default.ensures.looks tt) takes c.in_ok-push-in-Ok.ensures

pub returns-clause-did : goal.returns-clause-did
returns-clause-did g c = λ at s.
    let way : Way c.args.schema.now c.args.path.now c.args.said.now.code c.args.said.now.content c.climb-below.result c.climb-below.new.self c.name-parent.result c.in_ok-key.key = record {
      above_is = rw c.parent_code.ensures at c.climb-below.ensures.above;
      below_is = rw c.parent_code.ensures at c.climb-below.ensures.below;
      parent_is = c.name-parent.ensures;
      key_is = rw (c.key_in.ensures, c.as_slice.ensures) at c.in_ok-key.ensures;
    } in
    let e : g.R.RowTaker.schema c.judge.new.into ≡ c.args.schema.now = c.judge.ensures.schema ∙ c.requires.same in
    let takes = subst (λ (s : Schema). Takes s (coming c.name-parent.result c.args.said.now.code c.args.said.now.content) (g.R.RowTaker.seen c.judge.new.into) (g.R.RowTaker.seen c.take.new.self) (Err c.in-Err-take.why)) e c.in-Err-take.ensures.takes in
    rw c.from.ensures (placed_err c.args.schema.now (g.R.RowTaker.seen c.args.into.now) (g.R.RowTaker.seen c.judge.new.into) (g.R.RowTaker.seen c.take.new.self) c.args.path.now c.climb-below.new.self at c.args.said.now.code c.args.said.now.content
    c.climb-below.result c.climb-below.new.self c.name-parent.result c.in_ok-key.key c.in-Err-take.why (c.schemas_are_kept.ensures c.args.schema.now) s way c.in_default.ensures.judges (c.in_default.ensures.looks tt) takes)
