use Rattle.hal_disk.proofs.RecordLemmas.{none_near, none_seen, none_said}
use Rattle.hal_disk.proofs.mem_site.MemSite.new.Goals as goal

pub invariant_of-result : goal.invariant_of-result
invariant_of-result c = record {
  image_is = none_seen c.args.image c.new-2.result.items c.new-2.ensures.items;
  said_is = none_said c.new.result.items c.new-2.result.items c.new.ensures.items c.new-2.ensures.items;
  near = none_near c.new-2.result.items c.new-2.ensures.items;
}
