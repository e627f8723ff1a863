use Rattle.std.proofs.Common.{◌≡◌, ◌∙◌, ◌↔◌, ◌∷◌, ◌+◌, not, reverse, length, List, ℕ, IsTrue, Contains, refl, ap, subst}
use Rattle.hal_disk.specs.declared.call.Call.{Call}
use Rattle.hal_disk.specs.declared.call.Call.TheVariants.{Write}
use Rattle.hal_disk.specs.ImageNow.{image_now}
use Rattle.hal_disk.proofs.RecordLemmas.{newer_is, named_next, next_near, write_near, write_image, put_first, write_said, write_more}
use Rattle.hal_disk.proofs.mem_site.MemSite.try_write.Goals as goal

pub invariant_of-self-2 : goal.invariant_of-self-2
invariant_of-self-2 c =
    let is : reverse c.note.new.calls.items ≡ Write c.args.at c.args.content.now (not c.fails_next-done.result) ∷ reverse c.args.self.now.history.items = newer_is (Write c.args.at c.in_ok-kept.kept (not c.fails_next-done.result)) c.args.self.now.history.items c.make_slot.new.calls.items c.note.new.calls.items c.note.ensures.newest c.make_slot.ensures.items ∙ ap (λ (k : List ℕ). Write c.args.at k (not c.fails_next-done.result) ∷ reverse c.args.self.now.history.items) c.in_ok-kept.ensures in
    record {
      image_is = write_image c.args.self.now.first (reverse c.args.self.now.history.items) (reverse c.note.new.calls.items) c.args.at c.args.content.now (image_now c.args.self.now.first c.args.self.now.changed) (image_now c.args.self.now.first c.put_if.new.changed) (not c.fails_next-done.result) is c.args.self.now.image_is (put_first c.as_slice-first.result.now c.args.self.now.first c.args.self.now.changed c.put_if.new.changed c.args.at c.args.content.now (not c.fails_next-done.result) c.as_slice-first.ensures c.in_ok-put_if.ensures.put);
      said_is = write_said (reverse c.args.self.now.history.items) (reverse c.note.new.calls.items) c.args.at c.args.content.now (not c.fails_next-done.result) c.args.self.now.said.items is c.args.self.now.said_is;
      near = next_near (Write c.args.at c.in_ok-kept.kept (not c.fails_next-done.result)) c.args.self.now.history.items c.make_slot.new.calls.items c.note.new.calls.items c.note.ensures.near c.make_slot.ensures.items c.args.self.now.near (write_near c.args.at c.args.content.now c.in_ok-kept.kept (not c.fails_next-done.result) c.in_ok-kept.ensures c.requires);
    }

pub returns-clause-made : goal.returns-clause-made
returns-clause-made c =
    let is : reverse c.note.new.calls.items ≡ Write c.args.at c.args.content.now (not c.fails_next-done.result) ∷ reverse c.args.self.now.history.items = newer_is (Write c.args.at c.in_ok-kept.kept (not c.fails_next-done.result)) c.args.self.now.history.items c.make_slot.new.calls.items c.note.new.calls.items c.note.ensures.newest c.make_slot.ensures.items ∙ ap (λ (k : List ℕ). Write c.args.at k (not c.fails_next-done.result) ∷ reverse c.args.self.now.history.items) c.in_ok-kept.ensures in
    record {
      calls = is;
      named = named_next c.args.self.now.failing c.fails_next-done.result (Write c.args.at c.args.content.now (not c.fails_next-done.result)) (reverse c.args.self.now.history.items) (reverse c.note.new.calls.items) is (subst (λ (l : List Call). IsTrue c.fails_next-done.result ↔ Contains c.args.self.now.failing (length (reverse l) + 1)) c.make_slot.ensures.items c.fails_next-done.ensures);
      names = record { first = refl; failing = refl; disk_faults = refl; say_faults = refl };
    }

pub returns-clause-stops : goal.returns-clause-stops
returns-clause-stops c =
    let is : reverse c.note.new.calls.items ≡ Write c.args.at c.args.content.now (not c.fails_next-done.result) ∷ reverse c.args.self.now.history.items = newer_is (Write c.args.at c.in_ok-kept.kept (not c.fails_next-done.result)) c.args.self.now.history.items c.make_slot.new.calls.items c.note.new.calls.items c.note.ensures.newest c.make_slot.ensures.items ∙ ap (λ (k : List ℕ). Write c.args.at k (not c.fails_next-done.result) ∷ reverse c.args.self.now.history.items) c.in_ok-kept.ensures in
    write_more c.args.self.now.first (reverse c.args.self.now.history.items) (reverse c.note.new.calls.items) c.args.at c.args.content.now (not c.fails_next-done.result) is
