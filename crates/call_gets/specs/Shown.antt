-- What a get gives of the element that it finds, and the calls that every element meets.
use Rattle.std.specs.Prelude.{◌≡◌, ℕ, ◌==◌, Bool, ◌&&◌, ◌||◌, List, length, Option, is_some, IfSome}
use Rattle.std.specs.Option.{option_map}
use Rattle.hal_schema.specs.declared.schema.Schema.{Schema}
use Rattle.call_text.specs.declared.line.Call.{Call}
use Rattle.call_text.specs.declared.line.Ssa.{Ssa}
use Rattle.position_state.specs.declared.session.Session.{Session}
use Rattle.position_state.specs.declared.spot.Spot.{Spot}
use Rattle.position_state.specs.Looks.{WalkView}
use Rattle.dli_calls.specs.Gets.{OnPath, got, is_next, is_unique, shown_content}
use Rattle.dli_calls.specs.Refusals.{asks_for_high_root, first_that_holds, text_refusals}
use Rattle.call_gets.specs.declared.scan.Met.{Met}
use Rattle.call_gets.specs.Scan.{on_its_path, plain_view}

-- what a get gives of an element: the element, and the content that is shown
abbrev pub given : Schema → List Ssa → OnPath → Spot × List ℕ
given schema ssas p = (p.1, shown_content schema ssas p)

-- where the list is told, this gives what is wanted of its view
abbrev pub IsGiven : Schema → List Ssa → WalkView → (List Spot → Option OnPath) → Option Met → Type 0
IsGiven schema ssas seen wanted met =
    IfSome seen.forest (λ rows. option_map (given schema ssas) (option_map on_its_path met) ≡ option_map (given schema ssas) (wanted (plain_view schema rows)))

-- where the list is told, this gives what a get finds
abbrev pub IsGotBy : Schema → WalkView → Session → Call → Option Met → Type 0
IsGotBy schema seen session call met =
    IfSome seen.forest (λ rows. option_map (given schema call.ssas) (option_map on_its_path met) ≡ option_map (given schema call.ssas) (got schema rows call session))

-- a get is refused before any look: by its text and its session (AD, AM, AJ, AK, AC, GP), for its data (+L), or for a root key
-- above every high key (FM)
abbrev pub is_refused_unseen : Schema → Session → Call → Bool
is_refused_unseen schema session call = is_some (first_that_holds (text_refusals schema session call)) || is_some call.content || asks_for_high_root schema call

-- a GU or a GN without an SSA: every element meets it
abbrev pub is_of_any : Call → Bool
is_of_any call = (is_unique call || is_next call) && length call.ssas == 0
