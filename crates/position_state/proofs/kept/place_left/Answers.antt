use Rattle.position_state.proofs.kept.place_left.Goals as goal

pub is_cut-requires-clause-under : goal.is_cut-requires-clause-under
is_cut-requires-clause-under g c = c.requires.under c.in-Some.at c.in-Some.is
