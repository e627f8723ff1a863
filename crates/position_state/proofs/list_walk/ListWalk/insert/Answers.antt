use Rattle.std.proofs.Common.{◌≡◌, ◌∙◌, List, insert, sym, ap, subst}
use Rattle.std.specs.Prelude.{IsTrue}
use Rattle.hal_schema.specs.declared.row.Row.{Row}
use Rattle.hal_schema.specs.Forest.{is_forest}
use Rattle.hal_schema.specs.Insertion.{inserted, insertion_place}
use Rattle.position_state.specs.Names.{names_are_up_to}
use Rattle.position_state.proofs.Changing.{either_is, named_more, named_inserted}
use Rattle.position_state.proofs.list_walk.ListWalk.insert.Goals as goal

pub invariant_of-self : goal.invariant_of-self
invariant_of-self c =
    let old : IsTrue (names_are_up_to c.higher-self.result c.args.self.now.rows) = named_more c.args.self.now.rows c.args.self.now.named c.higher-self.result c.higher-self.ensures.first c.args.self.now.named_below in
    let place : insert c.args.self.now.rows c.insertion_place-place.result c.args.row ≡ inserted c.args.self.now.schema.now c.args.self.now.rows c.args.row =
    ap (λ n. insert c.args.self.now.rows n c.args.row) (c.insertion_place-place.ensures.place ∙ ap (λ (rows : List Row). insertion_place c.args.self.now.schema.now rows c.args.row) c.as_slice.ensures) in
    record {
      kept = either_is (λ rows. IsTrue (is_forest c.args.self.now.schema.now rows)) c.insert.result c.insert.ensures.ok c.insert.ensures.err
          (subst (λ rows. IsTrue (is_forest c.args.self.now.schema.now rows)) (sym place) c.requires.forest) c.args.self.now.kept;
      named_below = either_is (λ rows. IsTrue (names_are_up_to c.higher-self.result rows)) c.insert.result c.insert.ensures.ok c.insert.ensures.err
          (named_inserted c.args.self.now.rows c.insertion_place-place.result c.higher-self.result c.args.row old c.higher-self.ensures.second) old;
    }
