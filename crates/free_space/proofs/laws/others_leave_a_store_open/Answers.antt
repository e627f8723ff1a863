use Rattle.std.proofs.Common.{length, sym, ap, ◌∙◌}
use Rattle.free_space.proofs.laws.others_leave_a_store_open.Goals as goal

pub returns-clause-changed : goal.returns-clause-changed
returns-clause-changed c = λ store set old new stands apart changed. record {
  many = stands.many ∙ ap length (sym (changed.places store.set));
  told = λ pages is. stands.told pages (sym (changed.others store.set apart) ∙ is);
}

pub returns-clause-grown : goal.returns-clause-grown
returns-clause-grown c = λ store count set old new stands apart grown. record {
  many = stands.many ∙ ap length (sym (grown.other_places store.set apart));
  told = λ pages is. stands.told pages (sym (grown.others store.set apart) ∙ is);
}
