use Rattle.std.proofs.Common.{refl}
use Rattle.std.specs.Prelude.{◌==◌}
use Rattle.eps_pointers.specs.Target.{generation_of}
use Rattle.pointer_rows.proofs.Led.{led}
use Rattle.pointer_rows.proofs.laws.a_target_is_that_of_the_rules.Goals as goal

pub returns-clause-generation : goal.returns-clause-generation
returns-clause-generation c = λ part s key. refl

pub returns-clause-target : goal.returns-clause-target
returns-clause-target c = λ view eps root code listed is.
    led (eps.number == generation_of view.part view.state root) (generation_of view.part view.state root) eps.addr (view.listed eps.ilk code) listed is
