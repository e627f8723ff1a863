use Rattle.std.proofs.Common.{ℕ, nat_lt, get_or, take, ◌∙◌, ◌-◌, ◌≤◌, List, [], ◌∷◌, ◌++◌, Bor, length, map, ap, arith}
use Rattle.hal_schema.specs.declared.row.Row.{Row}
use Rattle.hal_schema.specs.Insertion.{through_last}
use Rattle.hal_schema.specs.Row.{row_level}
use Rattle.position_state.proofs.Places.{forest_levels, levels_taken, made_first, made_more}
use Rattle.position_state.proofs.Changing.{length_taken}
use Rattle.position_state.proofs.plain_view.PlainView.path_to.Goals as goal

pub through_above-left-requires : goal.through_above-left-requires
through_above-left-requires c = record {
  levels = levels_taken c.args.self.now.schema.now.types c.args.self.now.rows.now c.args.place (forest_levels c.args.self.now.schema.now c.args.self.now.rows.now c.args.self.now.forest);
}

pub path-init : goal.path-init
path-init c =
    let long = length_taken c.args.self.now.rows.now c.args.place c.requires.within in (
      omega (arith, long, c.requires.within, c.through_above-left.ensures.within),
      made_first c.args.self.now.schema.now.types c.args.self.now.rows.now c.args.place c.through_above-left.result c.args.row.now (map (λ r. r.now) c.push.new.self.items)
          c.requires.within
          (c.through_above-left.ensures.through
          ∙ ap (λ (level : ℕ). through_last (λ (r : Row). nat_lt (row_level c.args.self.now.schema.now.types r) level) (take c.args.place c.args.self.now.rows.now)) c.level_of.ensures)
          (ap (λ (rs : List (Bor Row)). map (λ r. r.now) rs) (c.in_ok-push.ensures.items ∙ ap (λ (rs : List (Bor Row)). rs ++ c.args.row ∷ []) c.new-path.ensures.items)),
    )

pub through_above-left-requires-in-path : goal.through_above-left-requires-in-path
through_above-left-requires-in-path c = record {
  levels = levels_taken c.args.self.now.schema.now.types c.args.self.now.rows.now (c.path.left - 1) (forest_levels c.args.self.now.schema.now c.args.self.now.rows.now c.args.self.now.forest);
}

pub path-preserved : goal.path-preserved
path-preserved c =
    let within : c.path.left ≤ length c.args.self.now.rows.now = c.path.invariant.0 in
    let above : Row = get_or c.args.self.now.rows.now (c.path.left - 1) c.index-self-left.result in
    let less : c.path.left - 1 ≤ length c.args.self.now.rows.now = omega (arith, within) in
    let long = length_taken c.args.self.now.rows.now (c.path.left - 1) less in (
      omega (arith, long, less, c.through_above-left-in-path.ensures.within),
      made_more c.args.self.now.schema.now.types c.args.self.now.rows.now c.args.place c.path.left c.through_above-left-in-path.result c.args.row.now above
          (map (λ r. r.now) c.path.path.items) (map (λ r. r.now) c.insert.new.self.items) c.path.invariant.1 c.path-test.true within (ap (get_or c.args.self.now.rows.now (c.path.left - 1)) c.index-self-left.is)
          (c.through_above-left-in-path.ensures.through
          ∙ ap (λ (level : ℕ). through_last (λ (r : Row). nat_lt (row_level c.args.self.now.schema.now.types r) level) (take (c.path.left - 1) c.args.self.now.rows.now)) c.level_of-in-path.ensures)
          (ap (λ (rs : List (Bor Row)). map (λ r. r.now) rs) c.in_ok-insert.ensures.items),
    )
