-- The entries that rows are rise as the rows do.
use Rattle.std.proofs.Common.{ℕ, zero, suc, List, [], ◌∷◌, map, refl, subst, arith}
use Rattle.std.specs.Prelude.{Contains, IsTrue}
use Rattle.keyed_sets.specs.Layout.{Row, is_below}
use Rattle.keyed_sets.specs.Map.{KeysRise, RowsRise}
use Rattle.secondary_index.specs.declared.entry.Entry.{Entry}
use Rattle.secondary_index.specs.Entries.{entry_of}

each_above : (key : List ℕ) (rows : List Row) → ((row : Row) → Contains rows row → IsTrue (is_below key (row.0))) → (entry : Entry) → Contains (map entry_of rows) entry → IsTrue (is_below key entry.key)
each_above key [] above entry (k, lt, is) = absurd (omega (arith, lt))
each_above key (row ∷ rows) above entry (zero, lt, is) = subst (λ (e : Entry). IsTrue (is_below key e.key)) is (above row (0, omega arith, refl))
each_above key (row ∷ rows) above entry (suc k, lt, is) = each_above key rows (λ other within. above other (suc within.0, omega (arith, within.1), within.2)) entry (k, omega (arith, lt), is)

pub entries_rise : (rows : List Row) → RowsRise rows → KeysRise (λ (entry : Entry). entry.key) (map entry_of rows)
entries_rise [] rise = rise
entries_rise (row ∷ rows) rise = (each_above (row.0) rows rise.0, entries_rise rows rise.1)
