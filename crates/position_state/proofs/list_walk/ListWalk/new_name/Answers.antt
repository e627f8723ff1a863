use Rattle.position_state.proofs.Changing.{is_fresh}
use Rattle.position_state.proofs.list_walk.ListWalk.new_name.Goals as goal

pub returns : goal.returns
returns c = is_fresh c.args.self.now.rows c.args.self.now.named c.args.self.now.named_below
