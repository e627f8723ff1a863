use Rattle.std.proofs.Common.{◌≡◌, ◌∙◌, ◌+◌, ◌≤◌, ℕ, true, List, ap, sym, arith, refl}
use Rattle.std.specs.Prelude.{is_ok}
use Rattle.hal_schema.specs.declared.row.Row.{Row}
use Rattle.load_rows.specs.Listed.{names_are_up_to}
use Rattle.load_rows.proofs.Steps.{is_fresh, put_keeps}
use Rattle.load_rows.proofs.list.ListTaker.put.Goals as goal

pub invariant_of-self : goal.invariant_of-self
invariant_of-self c = record {
  named_below = put_keeps c.args.self.now.rows c.insert.new.self c.load_place-place.result c.args.self.now.named c.args.row c.insert.result c.args.self.now.named_below c.insert.ensures.ok c.insert.ensures.err;
}

pub returns-clause-new_name : goal.returns-clause-new_name
returns-clause-new_name c = is_fresh c.args.self.now.rows c.args.self.now.named c.args.self.now.named_below
