use Rattle.call_changes.proofs.Keeping.{keeps_all}
use Rattle.call_changes.proofs.laws.decisions_keep_a_forest.Goals as goal

pub returns : goal.returns
returns c = λ schema rows free session call name m may.
    keeps_all (record { forest = c.changes_keep_a_forest.ensures; stand = c.kept_sessions_stand.ensures; new = c.new_rows_stand.ensures; places = c.rows_are_places.ensures }) schema rows free session call name m
    (λ front rest spot split. c.places_differ.ensures schema rows front rest spot m.forest split) may
