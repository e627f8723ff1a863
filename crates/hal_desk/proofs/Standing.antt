-- The sessions of a list, each of which stands in it.
use Rattle.std.proofs.Common.{◌≡◌, ℕ, Bool, true, ◌&&◌, List, [], ◌∷◌, ◌++◌, Option, None, Some, refl, sym, ap, subst, ◌∙◌}
use Rattle.std.specs.List.{list_all}
use Rattle.std.specs.Option.{option_map_or}
use Rattle.std.proofs.lemmas.Bool.{and_from, and_parts}
use Rattle.std.proofs.lemmas.List.Folds.{list_all-append}
use Rattle.hal_schema.specs.declared.row.Row.{Row}
use Rattle.hal_schema.specs.declared.schema.IndexDef.{IndexDef}
use Rattle.hal_schema.specs.declared.schema.Schema.{Schema}
use Rattle.call_text.specs.declared.line.Open.{Open}
use Rattle.position_state.specs.Lawful.{is_row_of}
use Rattle.position_state.specs.declared.session.Anchor.TheVariants.{Front}
use Rattle.call_runs.specs.declared.state.OpenSession.{OpenSession}
use Rattle.call_runs.specs.Sessions.{index_of, index_place, new_session, open_cause, opened}
use Rattle.call_changes.specs.Answer.{all_stand, is_plain, is_standing}

-- all that stand see the list in hierarchic sequence
pub all_plain : (schema : Schema) (rows : List Row) (sessions : List OpenSession) → all_stand schema rows sessions ≡ true → list_all is_plain sessions ≡ true
all_plain schema rows [] all = refl
all_plain schema rows (one ∷ sessions) all =
    let a = and_parts (is_standing schema rows one) (all_stand schema rows sessions) all in
    and_from (is_plain one) (list_all is_plain sessions) (and_parts (is_plain one) _ (and_parts _ _ (and_parts _ (is_row_of schema rows one.session.parent) a.0).0).0).0 (all_plain schema rows sessions a.1)

-- where there is no index, none is named
none_of : (indexes : List IndexDef) (name : List ℕ) → indexes ≡ [] → index_place indexes name ≡ None
none_of indexes name e = ap (λ (l : List IndexDef). index_place l name) e

no_index : (schema : Schema) (index : Option (List ℕ)) → schema.indexes ≡ [] → index_of schema index ≡ None
no_index schema None e = refl
no_index schema (Some name) e = none_of schema.indexes name e

-- a new session stands at the front
new_stands : (schema : Schema) (rows : List Row) (script : Option ℕ) (request : Open) → schema.indexes ≡ [] → is_standing schema rows (new_session schema script request) ≡ true
new_stands schema rows script request e =
    let P : Option ℕ → Type 0 = λ i. is_standing schema rows (record { script = script; name = request.session; session = record { options = request.options; index = i; anchor = Front; held = None; parent = None } }) ≡ true in
    subst P (sym (no_index schema request.index e)) refl

pub opened_stand : (schema : Schema) (rows : List Row) (sessions : List OpenSession) (script : Option ℕ) (request : Open) → schema.indexes ≡ [] → all_stand schema rows sessions ≡ true
    → all_stand schema rows (opened schema sessions script request) ≡ true
opened_stand schema rows sessions script request e all = by (open_cause schema sessions script request)
  where
    by : (o : Option ℕ) → all_stand schema rows (option_map_or (λ cause. sessions) o (sessions ++ new_session schema script request ∷ [])) ≡ true
    by (Some cause) = all
    by None = list_all-append (is_standing schema rows) sessions (new_session schema script request ∷ [])
        ∙ and_from (all_stand schema rows sessions) (all_stand schema rows (new_session schema script request ∷ [])) all
        (and_from (is_standing schema rows (new_session schema script request)) true (new_stands schema rows script request e) refl)
