use Rattle.std.proofs.Common.{refl}
use Rattle.call_rows.proofs.examples.gets_find.Goals as goal

pub returns : goal.returns
returns c =
    record {
      and_before_or = refl;
      last_twin = refl;
      with_levels = refl;
      padded = refl;
      below_parent = refl;
      not_beyond = refl;
      held = refl;
      hold_ends = refl;
      at_end = refl;
      by_index = refl;
      heals = refl;
      looks_alone = refl;
    }
