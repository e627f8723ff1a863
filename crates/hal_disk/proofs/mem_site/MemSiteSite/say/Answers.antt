use Rattle.std.proofs.Common.{ℕ, take, drop, sym, take-append-drop}
use Rattle.hal_disk.specs.Record.{said_size}
use Rattle.hal_disk.proofs.mem_site.MemSiteSite.say.Goals as goal

pub returns-in-Ok-false-clause-part : goal.returns-in-Ok-false-clause-part
returns-in-Ok-false-clause-part c =
    let size : ℕ = said_size c.in-Ok-false.field-0 c.args.text.now in
    record {
      part = take size c.args.text.now;
      rest = drop size c.args.text.now;
      whole = sym (take-append-drop size c.args.text.now);
      appends = c.in-Ok-false.ensures.said;
    }
