-- Two roots of the first schema, and a session that stands at one of them, holds it and has it as its parent.
use Rattle.std.specs.Prelude.{ℕ, List, [], ◌∷◌, codes, None, Some}
use Rattle.hal_base.specs.declared.place.Ilk.{Ilk}
use Rattle.hal_schema.specs.declared.row.Row.{Row}
use Rattle.position_state.specs.declared.session.Anchor.{Anchor}
use Rattle.position_state.specs.declared.session.Anchor.TheVariants.{At}
use Rattle.position_state.specs.declared.session.Session.{Session}

abbrev pub name_at : ℕ → Ilk
name_at addr = record { addr = addr; part = 1; number = 1 }

abbrev pub root_row : ℕ → List ℕ → Row
root_row addr content = record { name = name_at addr; code = 1; parent = None; content = content }

abbrev pub two_roots : List Row
two_roots = root_row 16 (codes "001aa") ∷ root_row 48 (codes "002bb") ∷ []

abbrev pub all_at : ℕ → List ℕ → Session
all_at addr root =
    let at : Anchor = At (name_at addr) root None in record { options = []; index = None; anchor = at; held = Some at; parent = Some at }
