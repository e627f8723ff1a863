use Rattle.std.proofs.Common.{ap, ◌∙◌}
use Rattle.reorg_cursor.proofs.event_laws.reorg_lines_leave_the_rest.Goals as goal

pub returns : goal.returns
returns g c = λ holder rest keeps s event outcome leads. ap rest leads.after ∙ keeps outcome.states s
