use Rattle.std.proofs.Common.{◌≡◌, ◌∙◌, List, sym, ap, subst}
use Rattle.std.specs.Prelude.{IsTrue}
use Rattle.hal_schema.specs.declared.row.Row.{Row}
use Rattle.hal_schema.specs.Forest.{is_forest}
use Rattle.hal_schema.specs.Span.{replaced}
use Rattle.position_state.specs.Names.{names_are_up_to}
use Rattle.position_state.proofs.Changing.{named_replaced}
use Rattle.position_state.proofs.list_walk.ListWalk.replace.Goals as goal

pub invariant_of-self : goal.invariant_of-self
invariant_of-self c =
    let is : c.in_ok-rows.rows ≡ replaced c.args.self.now.rows c.args.name.now c.args.content.now =
    c.in_ok-rows.ensures ∙ ap (λ (rows : List Row). replaced rows c.args.name.now c.args.content.now) c.as_slice.ensures in
    record {
      kept = subst (λ rows. IsTrue (is_forest c.args.self.now.schema.now rows)) (sym is) c.requires.forest;
      named_below = subst (λ rows. IsTrue (names_are_up_to c.args.self.now.named rows)) (sym is)
          (named_replaced c.args.self.now.rows c.args.self.now.named c.args.name.now c.args.content.now c.args.self.now.named_below);
    }
