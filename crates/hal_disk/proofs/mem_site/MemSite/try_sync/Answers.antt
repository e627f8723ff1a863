use Rattle.std.proofs.Common.{◌≡◌, ◌↔◌, ◌∷◌, ◌+◌, not, reverse, length, List, IsTrue, Contains, refl, subst}
use Rattle.hal_disk.specs.declared.call.Call.{Call}
use Rattle.hal_disk.specs.declared.call.Call.TheVariants.{Sync}
use Rattle.hal_disk.specs.ImageNow.{image_now}
use Rattle.hal_disk.proofs.RecordLemmas.{newer_is, named_next, next_near, sync_near, sync_image, sync_said, sync_more, durable_if}
use Rattle.hal_disk.proofs.mem_site.MemSite.try_sync.Goals as goal

pub invariant_of-self-2 : goal.invariant_of-self-2
invariant_of-self-2 c =
    let is : reverse c.note.new.calls.items ≡ Sync (not c.fails_next-done.result) ∷ reverse c.args.self.now.history.items = newer_is (Sync (not c.fails_next-done.result)) c.args.self.now.history.items c.make_slot.new.calls.items c.note.new.calls.items c.note.ensures.newest c.make_slot.ensures.items in
    record {
      image_is = sync_image c.args.self.now.first (reverse c.args.self.now.history.items) (reverse c.note.new.calls.items) (not c.fails_next-done.result) (image_now c.args.self.now.first c.args.self.now.changed) is c.args.self.now.image_is;
      said_is = sync_said (reverse c.args.self.now.history.items) (reverse c.note.new.calls.items) (not c.fails_next-done.result) c.args.self.now.said.items is c.args.self.now.said_is;
      near = next_near (Sync (not c.fails_next-done.result)) c.args.self.now.history.items c.make_slot.new.calls.items c.note.new.calls.items c.note.ensures.near c.make_slot.ensures.items c.args.self.now.near (sync_near (not c.fails_next-done.result));
    }

pub returns-clause-made : goal.returns-clause-made
returns-clause-made c =
    let is : reverse c.note.new.calls.items ≡ Sync (not c.fails_next-done.result) ∷ reverse c.args.self.now.history.items = newer_is (Sync (not c.fails_next-done.result)) c.args.self.now.history.items c.make_slot.new.calls.items c.note.new.calls.items c.note.ensures.newest c.make_slot.ensures.items in
    record {
      calls = is;
      named = named_next c.args.self.now.failing c.fails_next-done.result (Sync (not c.fails_next-done.result)) (reverse c.args.self.now.history.items) (reverse c.note.new.calls.items) is (subst (λ (l : List Call). IsTrue c.fails_next-done.result ↔ Contains c.args.self.now.failing (length (reverse l) + 1)) c.make_slot.ensures.items c.fails_next-done.ensures);
      names = record { first = refl; failing = refl; disk_faults = refl; say_faults = refl };
    }

pub returns-clause-stops : goal.returns-clause-stops
returns-clause-stops c =
    let is : reverse c.note.new.calls.items ≡ Sync (not c.fails_next-done.result) ∷ reverse c.args.self.now.history.items = newer_is (Sync (not c.fails_next-done.result)) c.args.self.now.history.items c.make_slot.new.calls.items c.note.new.calls.items c.note.ensures.newest c.make_slot.ensures.items in
    sync_more c.args.self.now.first (reverse c.args.self.now.history.items) (reverse c.note.new.calls.items) (not c.fails_next-done.result) is

pub returns-clause-durable : goal.returns-clause-durable
returns-clause-durable c =
    let is : reverse c.note.new.calls.items ≡ Sync (not c.fails_next-done.result) ∷ reverse c.args.self.now.history.items = newer_is (Sync (not c.fails_next-done.result)) c.args.self.now.history.items c.make_slot.new.calls.items c.note.new.calls.items c.note.ensures.newest c.make_slot.ensures.items in
    λ done. durable_if c.args.self.now.first (reverse c.args.self.now.history.items) (reverse c.note.new.calls.items) (not c.fails_next-done.result) (image_now c.args.self.now.first c.args.self.now.changed) is c.args.self.now.image_is done
