-- Calls over the example of three levels: R 001 with C 01xx (above G g2 and g1), C 01yy and U, and R 700.
use Rattle.std.specs.Prelude.{◌≡◌, ℕ, true, false, List, [], ◌∷◌, codes, Option, None, Some}
use Rattle.std.specs.Option.{option_map}
use Rattle.call_text.specs.declared.line.Call.{Call}
use Rattle.call_text.specs.declared.line.Clause.{Clause}
use Rattle.call_text.specs.declared.line.Ssa.{Ssa}
use Rattle.call_text.specs.declared.line.Value.TheVariants.{Text}
use Rattle.position_state.specs.declared.session.Anchor.{Anchor}
use Rattle.position_state.specs.declared.session.Anchor.TheVariants.{Front, At}
use Rattle.position_state.specs.declared.session.Session.{Session}
use Rattle.position_state.specs.declared.spot.Change.TheVariants.{Nothing, Insert, Replace, Delete, Heal}
use Rattle.dli_calls.specs.declared.decision.Decision.{Decision}
use Rattle.dli_calls.specs.Decided.{decision_of}
use Rattle.forest_laws.specs.Examples.{example_schema, example_rows, name_at}

abbrev pub opened : List ℕ → Option ℕ → Session
opened options index = record { options = options; index = index; anchor = Front; held = None; parent = None }

abbrev pub all : Session
all = opened (codes "A") None

abbrev pub at : ℕ → List ℕ → Anchor
at addr root = At (name_at addr) root None

abbrev pub standing : Anchor → Session
standing anchor = record all { anchor = anchor }

abbrev pub holding : Anchor → Session
holding row = record all { anchor = row; held = Some row; parent = Some row }

abbrev pub segment : List ℕ → Ssa
segment name = record { seg = name; codes = []; clauses = [] }

abbrev pub is : List ℕ → List ℕ → Clause
is field text = record { field = field; op = codes "="; value = Text text; or = false }

abbrev pub or_is : List ℕ → List ℕ → Clause
or_is field text = record { field = field; op = codes "="; value = Text text; or = true }

abbrev pub where_is : List ℕ → List Clause → Ssa
where_is name clauses = record { seg = name; codes = []; clauses = clauses }

abbrev pub coded : Ssa → List ℕ → Ssa
coded ssa letters = record ssa { codes = letters }

abbrev pub root_is : List ℕ → Ssa
root_is key = where_is (codes "R") (is (codes "K") key ∷ [])

abbrev pub call : List ℕ → List Ssa → Call
call func ssas = record { session = codes "S"; func = func; ssas = ssas; content = None }

abbrev pub with_data : List ℕ → List Ssa → List ℕ → Call
with_data func ssas text = record { session = codes "S"; func = func; ssas = ssas; content = Some (Text text) }

abbrev pub decided : Session → Call → Decision
decided session call = decision_of example_schema example_rows 40 session call

abbrev pub status : Session → Call → List ℕ
status session call = (decided session call).reply.status

abbrev pub shown : Session → Call → Option (List ℕ × Option (List ℕ))
shown session call = option_map (λ out. (out.key, out.content)) (decided session call).reply.seg

-- K = 001, or K = 700 and V = zz
abbrev pub of_three_terms : Ssa
of_three_terms = where_is (codes "R") (is (codes "K") (codes "001") ∷ or_is (codes "K") (codes "700") ∷ is (codes "V") (codes "zz") ∷ [])

pub record StatusesCome : Type 0 where
  pub blank : status all (call (codes "GU") (root_is (codes "001") ∷ [])) ≡ codes "  "
  pub ga : status (standing (at 48 (codes "001"))) (call (codes "GN") []) ≡ codes "GA"
  pub gk : status (standing (at 80 (codes "001"))) (call (codes "GN") []) ≡ codes "GK"
  pub ad : status all (call (codes "FOO") []) ≡ codes "AD"
  pub am : status (opened (codes "G") None) (with_data (codes "ISRT") (segment (codes "R") ∷ []) (codes "002zz")) ≡ codes "AM"
  pub ah : status all (with_data (codes "ISRT") [] (codes "002zz")) ≡ codes "AH"
  pub aj : status all (call (codes "GU") (root_is (codes "0011") ∷ [])) ≡ codes "AJ"
  pub ak : status all (call (codes "GU") (where_is (codes "R") (is (codes "Z") (codes "1") ∷ []) ∷ [])) ≡ codes "AK"
  pub ac : status all (call (codes "GU") (segment (codes "C") ∷ segment (codes "R") ∷ [])) ≡ codes "AC"
  pub gp : status all (call (codes "GNP") []) ≡ codes "GP"
  pub dj : status all (with_data (codes "REPL") [] (codes "001zz")) ≡ codes "DJ"
  pub l : status all (with_data (codes "GU") (segment (codes "R") ∷ []) (codes "x")) ≡ codes "+L"
  pub fm : status all (call (codes "GU") (root_is (codes "99:") ∷ [])) ≡ codes "FM"
  pub ge : status all (call (codes "GU") (root_is (codes "002") ∷ [])) ≡ codes "GE"
  pub gb : status (standing (at 96 (codes "700"))) (call (codes "GN") []) ≡ codes "GB"
  pub ii : status all (with_data (codes "ISRT") (segment (codes "R") ∷ []) (codes "001zz")) ≡ codes "II"
  pub da : status (holding (at 96 (codes "700"))) (with_data (codes "REPL") [] (codes "800cc")) ≡ codes "DA"
  pub ni : status all (with_data (codes "ISRT") (segment (codes "R") ∷ []) (codes "002aa")) ≡ codes "NI"
  pub r : (decision_of example_schema example_rows 3 all (with_data (codes "ISRT") (segment (codes "R") ∷ []) (codes "002zz"))).reply.number ≡ Some 4

pub record GetsFind : Type 0 where
  pub and_before_or : shown all (call (codes "GU") (of_three_terms ∷ [])) ≡ Some (codes "001", Some (codes "001aa"))
  pub last_twin : shown all (call (codes "GU") (segment (codes "R") ∷ coded (segment (codes "C")) (codes "L") ∷ [])) ≡ Some (codes "00101", Some (codes "01yy"))
  pub with_levels : shown all (call (codes "GU") (coded (segment (codes "R")) (codes "D") ∷ segment (codes "C") ∷ [])) ≡ Some (codes "00101", Some (codes "001aa01xx"))
  pub padded : shown all (call (codes "GU") (root_is (codes "7") ∷ [])) ≡ None
  pub below_parent : shown (record all { anchor = at 32 (codes "001"); parent = Some (at 32 (codes "001")) }) (call (codes "GNP") []) ≡ Some (codes "00101", Some (codes "g2"))
  pub not_beyond : status (record all { anchor = at 48 (codes "001"); parent = Some (at 32 (codes "001")) }) (call (codes "GNP") []) ≡ codes "GE"
  pub held : (decided all (call (codes "GHU") (root_is (codes "700") ∷ []))).session ≡ holding (at 96 (codes "700"))
  pub hold_ends : (decided (holding (at 96 (codes "700"))) (call (codes "GU") (root_is (codes "002") ∷ []))).session ≡ record (holding (at 96 (codes "700"))) { held = None }
  pub at_end : (decided (holding (at 96 (codes "700"))) (call (codes "GN") [])).session ≡ all
  pub by_index : shown (opened (codes "G") (Some 0)) (call (codes "GU") (where_is (codes "R") (is (codes "XV") (codes "bb") ∷ []) ∷ [])) ≡ Some (codes "bb", Some (codes "700bb"))
  pub heals : (decided (opened (codes "R") (Some 0)) (call (codes "GN") [])).change ≡ Heal 0 (codes "aa")
  pub looks_alone : (decided (opened (codes "G") (Some 0)) (call (codes "GN") [])).change ≡ Nothing

pub record ChangesFollow : Type 0 where
  pub root : (decided all (with_data (codes "ISRT") (segment (codes "R") ∷ []) (codes "002z"))).change ≡ Insert None (codes "002") 1 (codes "002z ")
  pub child : (decided all (with_data (codes "ISRT") (root_is (codes "700") ∷ segment (codes "C") ∷ []) (codes "05zz"))).change ≡ Insert (Some (name_at 96)) (codes "700") 2 (codes "05zz")
  pub shown_child : shown all (with_data (codes "ISRT") (root_is (codes "700") ∷ segment (codes "C") ∷ []) (codes "05zz")) ≡ Some (codes "70005", None)
  pub below_anchor : (decided (standing (at 48 (codes "001"))) (with_data (codes "ISRT") (segment (codes "G") ∷ []) (codes "g3"))).change ≡ Insert (Some (name_at 32)) (codes "001") 3 (codes "g3")
  pub replaced : (decided (holding (at 96 (codes "700"))) (with_data (codes "REPL") [] (codes "700cc"))).change ≡ Replace (name_at 96) (codes "700") (codes "700cc")
  pub deleted : (decided (holding (at 32 (codes "001"))) (call (codes "DLET") [])).change ≡ Delete (name_at 32) (codes "001")
  -- the deleter stands on the last element before what it deleted, and has no parentage there
  pub stands_before : (decided (holding (at 32 (codes "001"))) (call (codes "DLET") [])).session ≡ standing (at 16 (codes "001"))
