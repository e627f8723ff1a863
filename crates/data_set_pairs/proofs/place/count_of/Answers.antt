use Rattle.std.proofs.Common.{◌∙◌, sym, ap, length}
use Rattle.data_set_pairs.proofs.TableSteps.{run_front, front_pages}
use Rattle.data_set_pairs.proofs.place.count_of.Goals as goal

pub count_before-requires-clause-run : goal.count_before-requires-clause-run
count_before-requires-clause-run c = run_front c.args.pages.now c.end_of.result c.requires.run

pub returns : goal.returns
returns c = c.count_before.ensures ∙ sym (ap length (front_pages c.args.set c.args.pages.now c.end_of.result (record { within = c.end_of.ensures.within; parts = c.end_of.ensures.parts })))
