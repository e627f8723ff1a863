-- What an event came to: a refusal, or what its command does.
use Rattle.std.proofs.Common.{◌≡◌, ◌≢◌, ℕ, zero, suc, nat_lt, Bool, true, false, cond, List, [], ◌∷◌, slice_set, Option, None, Some, ◌⊎◌, inl, inr, refl, ap}
use Rattle.std.specs.List.{slice_get}
use Rattle.std.proofs.lemmas.Bool.{true≢false}
use Rattle.hal_base.specs.declared.place.PartState.{PartState}
use Rattle.hal_schema.specs.declared.row.Row.{Row}
use Rattle.hal_schema.specs.declared.schema.Schema.{Schema}
use Rattle.call_text.specs.declared.line.Command.{Command}
use Rattle.call_text.specs.declared.line.Command.TheVariants.{Start, Step, Pause, Resume, Finish, Query}
use Rattle.call_text.specs.declared.reply.Reply.{Reply}
use Rattle.reorg_cursor.specs.declared.refusal.Refusal.{Refusal}
use Rattle.reorg_cursor.specs.Events.{Outcome, Refused, plainly, refused_by, refusal_of, refuses, does, refused_or_does, place_named, outcome_at, outcome_in, outcome_of, changed_by, is_last}
use Rattle.reorg_cursor.specs.Groups.{are_all_done, finished}

-- ---- lists

none_some : {X : Type 0} (y : X) → None ≡ Some y → ⊥
none_some y e = cc

pub set_here : {X : Type 0} (xs : List X) (n : ℕ) (v y : X) → slice_get xs n ≡ Some y → slice_get (slice_set xs n v) n ≡ Some v
set_here [] n v y h = absurd (none_some y h)
set_here (x ∷ xs) zero v y h = refl
set_here (x ∷ xs) (suc n) v y h = set_here xs n v y h

pub set_same : {X : Type 0} (xs : List X) (n : ℕ) (v y : X) → slice_get (slice_set xs n v) n ≡ Some y → v ≡ y
set_same [] n v y h = absurd (none_some y h)
set_same {X} (x ∷ xs) zero v y h = cc
set_same (x ∷ xs) (suc n) v y h = set_same xs n v y h

pub set_other : {X : Type 0} (xs : List X) (n k : ℕ) (v : X) → k ≢ n → slice_get (slice_set xs n v) k ≡ slice_get xs k
set_other [] n k v d = refl
set_other (x ∷ xs) zero zero v d = absurd (d refl)
set_other (x ∷ xs) zero (suc k) v d = refl
set_other (x ∷ xs) (suc n) zero v d = refl
set_other (x ∷ xs) (suc n) (suc k) v d = set_other xs n k v (λ e. d (ap suc e))

-- ---- cases

-- the command was done, at a partition with a state that doesn't refuse it
pub record IsDone (schema : Schema) (rows : List Row) (states : List PartState) (free : ℕ) (name : List ℕ) (command : Command) (outcome : Outcome) : Type 0 where
  pub place : ℕ
  pub state : PartState
  pub named : place_named schema name ≡ Some place
  pub at : slice_get states place ≡ Some state
  pub taken : refusal_of schema place rows free state command ≡ None
  pub is : outcome ≡ does schema place rows states state name command

abbrev pub IsRefused : List PartState → Outcome → Type 0
IsRefused states outcome = (r : Refused) × (outcome ≡ refuses states r)

by_refusal : (schema : Schema) (rows : List Row) (states : List PartState) (free : ℕ) (name : List ℕ) (command : Command) (place : ℕ) (s : PartState) (r : Option Refused)
    → place_named schema name ≡ Some place → slice_get states place ≡ Some s → refusal_of schema place rows free s command ≡ r
    → IsRefused states (refused_or_does r schema place rows states s name command) ⊎ IsDone schema rows states free name command (refused_or_does r schema place rows states s name command)
by_refusal schema rows states free name command place s None named at e = inr (record { place = place; state = s; named = named; at = at; taken = e; is = refl })
by_refusal schema rows states free name command place s (Some r) named at e = inl (r, refl)

by_state : (schema : Schema) (rows : List Row) (states : List PartState) (free : ℕ) (name : List ℕ) (command : Command) (place : ℕ) (o : Option PartState)
    → place_named schema name ≡ Some place → slice_get states place ≡ o
    → IsRefused states (outcome_at schema rows states free name command place o) ⊎ IsDone schema rows states free name command (outcome_at schema rows states free name command place o)
by_state schema rows states free name command place None named at = inl (plainly 1, refl)
by_state schema rows states free name command place (Some s) named at = by_refusal schema rows states free name command place s (refusal_of schema place rows free s command) named at refl

by_place : (schema : Schema) (rows : List Row) (states : List PartState) (free : ℕ) (name : List ℕ) (command : Command) (o : Option ℕ)
    → place_named schema name ≡ o → IsRefused states (outcome_in schema rows states free name command o) ⊎ IsDone schema rows states free name command (outcome_in schema rows states free name command o)
by_place schema rows states free name command None named = inl (plainly 1, refl)
by_place schema rows states free name command (Some place) named = by_state schema rows states free name command place (slice_get states place) named refl

pub event_cases : (schema : Schema) (rows : List Row) (states : List PartState) (free : ℕ) (name : List ℕ) (command : Command)
    → IsRefused states (outcome_of schema rows states free name command) ⊎ IsDone schema rows states free name command (outcome_of schema rows states free name command)
event_cases schema rows states free name command = by_place schema rows states free name command (place_named schema name) refl

-- ---- what isn't refused

no_refused : (r : Refused) → Some r ≡ None → ⊥
no_refused r e = cc

pub record IsTaken (refusal : Option Refusal) (free need : ℕ) : Type 0 where
  pub state : refusal ≡ None
  pub room : nat_lt free need ≡ false

pub taken_is : (refusal : Option Refusal) (free need : ℕ) → refused_by refusal free need ≡ None → IsTaken refusal free need
taken_is (Some r) free need h = absurd (no_refused _ h)
taken_is None free need h = by (nat_lt free need) refl h
  where
    by : (b : Bool) → nat_lt free need ≡ b → cond {A = Option Refused} b (Some (record { code = 6; need = Some need })) None ≡ None → IsTaken None free need
    by true e h = absurd (no_refused _ h)
    by false e h = record { state = refl; room = e }

-- ---- the last event of a line

pub record IsUnit (schema : Schema) (place : ℕ) (rows : List Row) (s : PartState) (command : Command) : Type 0 where
  pub finish : command ≡ Finish
  pub more : are_all_done schema place rows s.cursor ≡ false
  pub change : changed_by schema place rows s command ≡ finished schema place rows s

-- only a unit of FINISH isn't the last
pub unit_is : (schema : Schema) (place : ℕ) (rows : List Row) (s : PartState) (command : Command) → is_last schema place rows s command ≡ false → IsUnit schema place rows s command
unit_is schema place rows s Start e = absurd (true≢false e)
unit_is schema place rows s (Step k) e = absurd (true≢false e)
unit_is schema place rows s Pause e = absurd (true≢false e)
unit_is schema place rows s Resume e = absurd (true≢false e)
unit_is schema place rows s Finish e = record { finish = refl; more = e; change = refl }
unit_is schema place rows s Query e = absurd (true≢false e)

pub no_reply : (b : Bool) (r : Reply) → cond b (Some r) None ≡ None → b ≡ false
no_reply true r e = cc
no_reply false r e = refl

pub some_reply : (r : Reply) → Some r ≡ None → ⊥
some_reply r e = cc
