use Rattle.std.proofs.Common.{refl, codes}
use Rattle.forest_laws.specs.Examples.{example_schema, example_rows, another_row, name_at, first_cut}
use Rattle.forest_laws.proofs.examples.example_meets_the_laws.Goals as goal

pub returns : goal.returns
returns c =
    let forest = c.example_is_forest.ensures.forest in
    record {
      inserted_keeps = c.insertion_keeps.ensures example_schema example_rows another_row forest refl;
      cut_keeps = c.cut_keeps.ensures example_schema example_rows (name_at 32) forest;
      replaced_keeps = c.replacement_keeps.ensures example_schema example_rows (name_at 96) (codes "700cc") forest c.example_is_forest.ensures.may_change;
      by_rule = c.insertions_are_by_rule.ensures example_schema example_rows another_row forest refl;
      anchors = c.cuts_leave_anchors.ensures example_schema example_rows (name_at 32) forest first_cut;
      by_parents = c.paths_are_by_parents.ensures example_schema example_rows forest;
    }
