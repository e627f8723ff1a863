use Rattle.std.proofs.Common.{◌≡◌, ◌↔◌, ◌∷◌, ◌+◌, reverse, length, List, IsTrue, Contains, refl, subst}
use Rattle.hal_disk.specs.declared.call.Call.{Call}
use Rattle.hal_disk.specs.declared.call.Call.TheVariants.{Read}
use Rattle.hal_disk.specs.ImageNow.{image_now}
use Rattle.hal_disk.proofs.RecordLemmas.{newer_is, named_next, next_near, read_near, read_image, read_said, read_more}
use Rattle.hal_disk.proofs.mem_site.MemSite.try_read.Goals as goal

pub invariant_of-self-2 : goal.invariant_of-self-2
invariant_of-self-2 c =
    let is : reverse c.note.new.calls.items ≡ Read ∷ reverse c.args.self.now.history.items = newer_is (Read) c.args.self.now.history.items c.make_slot.new.calls.items c.note.new.calls.items c.note.ensures.newest c.make_slot.ensures.items in
    record {
      image_is = read_image c.args.self.now.first (reverse c.args.self.now.history.items) (reverse c.note.new.calls.items) (image_now c.args.self.now.first c.args.self.now.changed) is c.args.self.now.image_is;
      said_is = read_said (reverse c.args.self.now.history.items) (reverse c.note.new.calls.items) c.args.self.now.said.items is c.args.self.now.said_is;
      near = next_near Read c.args.self.now.history.items c.make_slot.new.calls.items c.note.new.calls.items c.note.ensures.near c.make_slot.ensures.items c.args.self.now.near read_near;
    }

pub returns-clause-made : goal.returns-clause-made
returns-clause-made c =
    let is : reverse c.note.new.calls.items ≡ Read ∷ reverse c.args.self.now.history.items = newer_is (Read) c.args.self.now.history.items c.make_slot.new.calls.items c.note.new.calls.items c.note.ensures.newest c.make_slot.ensures.items in
    record {
      calls = is;
      named = named_next c.args.self.now.failing c.fails_next-done.result Read (reverse c.args.self.now.history.items) (reverse c.note.new.calls.items) is (subst (λ (l : List Call). IsTrue c.fails_next-done.result ↔ Contains c.args.self.now.failing (length (reverse l) + 1)) c.make_slot.ensures.items c.fails_next-done.ensures);
      names = record { first = refl; failing = refl; disk_faults = refl; say_faults = refl };
    }

pub returns-clause-stops : goal.returns-clause-stops
returns-clause-stops c =
    let is : reverse c.note.new.calls.items ≡ Read ∷ reverse c.args.self.now.history.items = newer_is (Read) c.args.self.now.history.items c.make_slot.new.calls.items c.note.new.calls.items c.note.ensures.newest c.make_slot.ensures.items in
    read_more c.args.self.now.first (reverse c.args.self.now.history.items) (reverse c.note.new.calls.items) is
