use Rattle.std.proofs.Common.{rules}
use Rattle.std.specs.Prelude.{nat_lt}
use Rattle.std.proofs.lemmas.Fn.{filter_same}
use Rattle.hal_schema.specs.Row.{row_level}
use Rattle.load_rows.proofs.Paths.{path_pushed}
use Rattle.load_rows.proofs.path.go_on.Goals as goal

pub returns : goal.returns
returns c =
    path_pushed c.args.schema.now.types c.args.path.now.items c.retain.new.self.items c.push.new.self.items c.args.row
    (filter_same _ (λ r. nat_lt (row_level c.args.schema.now.types r.now) (row_level c.args.schema.now.types c.args.row.now)) _ (λ x b f' k. search rules) _ _ c.retain.ensures.filtered)
    c.in_ok-push.ensures.items
