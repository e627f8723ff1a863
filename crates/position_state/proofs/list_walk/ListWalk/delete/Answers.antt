use Rattle.std.proofs.Common.{◌≡◌, ◌∙◌, List, sym, ap, subst}
use Rattle.std.specs.Prelude.{IsTrue}
use Rattle.hal_schema.specs.declared.row.Row.{Row}
use Rattle.hal_schema.specs.Forest.{is_forest}
use Rattle.hal_schema.specs.Span.{without_span}
use Rattle.position_state.specs.Names.{names_are_up_to}
use Rattle.position_state.proofs.Changing.{named_without}
use Rattle.position_state.proofs.list_walk.ListWalk.delete.Goals as goal

pub invariant_of-self : goal.invariant_of-self
invariant_of-self c =
    let is : c.in_ok-rows.rows ≡ without_span c.args.self.now.schema.now.types c.args.self.now.rows c.args.name.now =
    c.in_ok-rows.ensures ∙ ap (λ (rows : List Row). without_span c.args.self.now.schema.now.types rows c.args.name.now) c.as_slice.ensures in
    record {
      kept = subst (λ rows. IsTrue (is_forest c.args.self.now.schema.now rows)) (sym is) c.requires.forest;
      named_below = subst (λ rows. IsTrue (names_are_up_to c.args.self.now.named rows)) (sym is)
          (named_without c.args.self.now.schema.now.types c.args.self.now.rows c.args.self.now.named c.args.name.now c.args.self.now.named_below);
    }
