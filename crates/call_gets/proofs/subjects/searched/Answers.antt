use Rattle.std.proofs.lemmas.Bool.{and_parts}
use Rattle.std.specs.List.{list_all}
use Rattle.hal_schema.specs.Lawful.{index_is_kept, all_rise}
use Rattle.std.specs.Prelude.{nat_le}
use Rattle.call_gets.proofs.Listing.{few_searched}
use Rattle.call_gets.proofs.subjects.searched.Goals as goal

pub searched_by-requires : goal.searched_by-requires
searched_by-requires c =
    few_searched c.args.schema.now.types c.args.schema.now.indexes c.args.index c.index_of.result c.in-Some.index
    (and_parts (list_all (index_is_kept c.args.schema.now.types) c.args.schema.now.indexes) (all_rise (λ i j. nat_le i.target j.target) c.args.schema.now.indexes) c.args.schema.now.kept_indexes).0
    c.index_of.ensures c.in-Some.is
