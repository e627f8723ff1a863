use Rattle.std.proofs.Common.{◌≡◌, true, subst, ◌∙◌}
use Rattle.hal_schema.specs.declared.schema.Schema.{Schema}
use Rattle.hal_schema.specs.Forest.{is_forest}
use Rattle.hal_desk.specs.Lists.{state_of}
use Rattle.hal_desk.proofs.list_run.run_list.Goals as goal

pub returns-clause-ran : goal.returns-clause-ran
returns-clause-ran g c =
    let ran = rw (c.new-taker.ensures.state, c.new-taker.ensures.site, c.new-taker.ensures.schema) at c.run_script-ending.ensures.ran in
    record {
      ending = c.run_script-ending.result;
      status_is = c.status.ensures;
      end = state_of c.run_script-ending.new.taker.list;
      ran = rw c.into_site.ensures ran;
      forest = subst (λ (s : Schema). is_forest s (state_of c.run_script-ending.new.taker.list).forest ≡ true) (c.run_script-ending.ensures.schema ∙ c.new-taker.ensures.schema) c.has_a_forest.ensures;
    }
