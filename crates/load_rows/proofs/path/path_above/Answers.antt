use Rattle.std.proofs.Common.{◌∙◌, not, List, [], Bor, map, Option, sym, ap}
use Rattle.std.specs.Option.{option_map_or}
use Rattle.hal_schema.specs.declared.row.Row.{Row}
use Rattle.load_rows.proofs.Steps.{none_above_root, none_is}
use Rattle.load_rows.proofs.path.path_above.Goals as goal

pub returns-then-is_none : goal.returns-then-is_none
returns-then-is_none c =
    ap (λ (l : List (Bor Row)). map (λ (r : Bor Row). r.now) l) c.new.ensures.items
    ∙ ap (λ (o : Option (List Row × Row)). option_map_or (λ (p : List Row × Row). p.0) o [])
    (sym (none_above_root c.args.schema.now.types c.args.rows.now c.args.new.now (none_is c.args.new.now.parent (c.is_none.ensures ∙ ap not c.if-is_none.true))))
