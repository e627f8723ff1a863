use Rattle.record_tree.proofs.records.Records.part.Goals as goal

pub part_behind-requires-clause-prior : goal.part_behind-requires-clause-prior
part_behind-requires-clause-prior g c = c.requires.leads.twin c.in-Some.above c.in-Some-prior.prior c.in-Some.is c.in-Some-prior.is
