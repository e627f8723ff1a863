use Rattle.std.proofs.Common.{◌≡◌, ◌∙◌, ◌||◌, ◌+◌, Bool, true, false, List, [], ◌∷◌, Bor, drop, map, sym, ap}
use Rattle.std.specs.List.{list_any}
use Rattle.std.specs.Str.{bytes_eq}
use Rattle.std.proofs.lemmas.List.{drop_all}
use Rattle.hal_schema.specs.declared.row.Row.{Row}
use Rattle.hal_schema.specs.Entry.{Entry, entries_by_row}
use Rattle.hal_schema.specs.Paths.{paths_of, with_paths}
use Rattle.hal_schema.specs.Row.{row_level}
use Rattle.load_rows.proofs.Steps.{left_is, any_in_order, any_step}
use Rattle.load_rows.proofs.entries.is_taken.Goals as goal

pub returns-then-branch : goal.returns-then-branch
returns-then-branch c =
    let types = c.args.schema.now.types in
    let level = row_level types in
    let test : Entry → Bool = λ e. bytes_eq c.args.key.now e.key in
    let one : list_any test (entries_by_row types c.args.index.now ((map (λ (r : Bor Row). r.now) c.go_on.new.path.items, c.row-item.result) ∷ [])) ≡ true =
    ap (λ (l : List (Bor Row)). list_any test (entries_by_row types c.args.index.now ((map (λ (r : Bor Row). r.now) l, c.row-item.result) ∷ []))) (sym c.deref.ensures.value) ∙ sym c.in_ok-has_key.ensures ∙ c.if-branch.true in
    sym (any_in_order test (entries_by_row types c.args.index.now (paths_of types c.args.rows.now)) ∙ c.loop-row.invariant
    ∙ any_step test types c.args.index.now level (map (λ (r : Bor Row). r.now) c.loop-row.path.items) (map (λ (r : Bor Row). r.now) c.go_on.new.path.items) c.args.rows.now c.loop-row.row-index c.row-item.result
    (left_is c.args.rows.now c.loop-row.row-index c.row-item.result c.loop-row-test.true c.row-item.is) c.in_ok-go_on.ensures
    ∙ ap (λ (b : Bool). b || list_any test (entries_by_row types c.args.index.now (with_paths level (map (λ (r : Bor Row). r.now) c.go_on.new.path.items) (drop (c.loop-row.row-index + 1) c.args.rows.now)))) one)

pub loop-row-preserved : goal.loop-row-preserved
loop-row-preserved c =
    let types = c.args.schema.now.types in
    let level = row_level types in
    let test : Entry → Bool = λ e. bytes_eq c.args.key.now e.key in
    let one : list_any test (entries_by_row types c.args.index.now ((map (λ (r : Bor Row). r.now) c.go_on.new.path.items, c.row-item.result) ∷ [])) ≡ false =
    ap (λ (l : List (Bor Row)). list_any test (entries_by_row types c.args.index.now ((map (λ (r : Bor Row). r.now) l, c.row-item.result) ∷ []))) (sym c.deref.ensures.value) ∙ sym c.in_ok-has_key.ensures ∙ c.if-branch.false in
    c.loop-row.invariant
    ∙ any_step test types c.args.index.now level (map (λ (r : Bor Row). r.now) c.loop-row.path.items) (map (λ (r : Bor Row). r.now) c.go_on.new.path.items) c.args.rows.now c.loop-row.row-index c.row-item.result
    (left_is c.args.rows.now c.loop-row.row-index c.row-item.result c.loop-row-test.true c.row-item.is) c.in_ok-go_on.ensures
    ∙ ap (λ (b : Bool). b || list_any test (entries_by_row types c.args.index.now (with_paths level (map (λ (r : Bor Row). r.now) c.go_on.new.path.items) (drop (c.loop-row.row-index + 1) c.args.rows.now)))) one

pub returns : goal.returns
returns c =
    let types = c.args.schema.now.types in
    let level = row_level types in
    let test : Entry → Bool = λ e. bytes_eq c.args.key.now e.key in
    sym (any_in_order test (entries_by_row types c.args.index.now (paths_of types c.args.rows.now)) ∙ c.loop-row.invariant
    ∙ ap (λ (l : List Row). list_any test (entries_by_row types c.args.index.now (with_paths level (map (λ (r : Bor Row). r.now) c.loop-row.path.items) l))) (drop_all c.loop-row.row-index c.args.rows.now c.loop-row-test.false))
