-- How often calls look, by their functions.
use Rattle.std.proofs.Common.{◌≡◌, ◌+◌, ◌≤◌, Bool, true, false, length, sym, ◌∙◌, arith}
use Rattle.std.proofs.lemmas.Bool.{true≢false}
use Rattle.hal_schema.specs.declared.schema.Schema.{Schema}
use Rattle.call_text.specs.declared.line.Call.{Call}
use Rattle.position_state.specs.declared.session.Session.{Session}
use Rattle.position_state.specs.AfterChange.{looks_for}
use Rattle.position_state.specs.Looks.{WalkView}
use Rattle.dli_calls.specs.Changes.{inserted_code}
use Rattle.dli_calls.specs.Gets.{is_get}
use Rattle.dli_calls.specs.Refusals.{is_delete, is_insert, is_replace}
use Rattle.call_changes.specs.Outcome.{LooksFew, deletion_of}
use Rattle.call_changes.proofs.Deciding.{only_delete, only_insert, only_replace}

both : (b : Bool) → b ≡ true → b ≡ false → ⊥
both b t f = true≢false (sym t ∙ f)

pub few_get : (schema : Schema) (session : Session) (call : Call) (old new : WalkView) → is_get call ≡ true → LooksFew schema session call old new
few_get schema session call old new get = record {
  replace = λ r. absurd (both (is_get call) get (only_replace call r).get);
  root = λ i one. absurd (both (is_get call) get (only_insert call i).get);
  delete = λ d. absurd (both (is_get call) get (only_delete call d).get);
}

pub few_insert : (schema : Schema) (session : Session) (call : Call) (old new : WalkView) → is_insert call ≡ true
    → (inserted_code schema call ≡ 1 → new.looks ≤ old.looks + (1 + length schema.indexes)) → LooksFew schema session call old new
few_insert schema session call old new insert few = record {
  replace = λ r. absurd (both (is_insert call) insert (only_replace call r).insert);
  root = λ i one. few one;
  delete = λ d. absurd (both (is_insert call) insert (only_delete call d).insert);
}

pub few_replace : (schema : Schema) (session : Session) (call : Call) (old new : WalkView) → is_replace call ≡ true → new.looks ≤ old.looks + (1 + length schema.indexes) → LooksFew schema session call old new
few_replace schema session call old new replace few = record {
  replace = λ r. few;
  root = λ i one. absurd (both (is_replace call) replace (only_insert call i).replace);
  delete = λ d. absurd (both (is_replace call) replace (only_delete call d).replace);
}

pub few_delete : (schema : Schema) (session : Session) (call : Call) (old new : WalkView) → is_delete call ≡ true → new.looks ≤ old.looks + looks_for old (deletion_of session.held) session
    → LooksFew schema session call old new
few_delete schema session call old new delete few = record {
  replace = λ r. absurd (both (is_replace call) r (only_delete call delete).replace);
  root = λ i one. absurd (both (is_insert call) i (only_delete call delete).insert);
  delete = λ d. few;
}

pub few_none : (schema : Schema) (session : Session) (call : Call) (seen : WalkView) → LooksFew schema session call seen seen
few_none schema session call seen = record { replace = λ r. omega arith; root = λ i one. omega arith; delete = λ d. omega arith }
