use Rattle.std.proofs.Common.{◌∙◌, ◌<◌, ap, sym, subst, length, arith}
use Rattle.std.proofs.lemmas.Bool.{cond-true, cond-false, eqb-false}
use Rattle.std.proofs.lemmas.List.{length-drop}
use Rattle.hal_base.specs.declared.place.PartState.{PartState}
use Rattle.reorg_cursor.specs.State.{ended}
use Rattle.reorg_cursor.specs.Groups.{groups_left, are_all_done, stepped}
use Rattle.reorg_cursor.proofs.laws.finish_ends.Goals as goal

pub returns : goal.returns
returns c = λ schema place rows s stands.
    let groups = groups_left schema place rows s.cursor in
    let takes = c.units_take_first.ensures schema place rows s 16 stands in
    let done = are_all_done schema place rows s.cursor in
    record {
      fewer = λ e.
          let rest = ap (λ (t : PartState). groups_left schema place rows t.cursor) (cond-false done (ended s) (stepped schema place rows 16 s) e) ∙ takes.groups in
          let some = eqb-false (length groups) 0 e in
          let long = length-drop 16 groups in
          subst (λ n. n < length groups) (sym (ap length rest)) (omega arith);
      sixteen = λ e. ap (λ (t : PartState). groups_left schema place rows t.cursor) (cond-false done (ended s) (stepped schema place rows 16 s) e) ∙ takes.groups;
      ends = λ e. cond-true done (ended s) (stepped schema place rows 16 s) e;
    }
