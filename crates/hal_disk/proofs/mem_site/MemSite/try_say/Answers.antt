use Rattle.std.proofs.Common.{◌≡◌, ◌∙◌, ◌↔◌, ◌∷◌, ◌+◌, not, reverse, length, List, ℕ, IsTrue, Contains, refl, ap, subst}
use Rattle.hal_disk.specs.declared.call.Call.{Call}
use Rattle.hal_disk.specs.declared.call.Call.TheVariants.{Say}
use Rattle.hal_disk.specs.ImageNow.{image_now}
use Rattle.hal_disk.specs.Record.{said_size}
use Rattle.hal_disk.proofs.RecordLemmas.{newer_is, named_next, next_near, say_near, say_image, say_said, say_more}
use Rattle.hal_disk.proofs.mem_site.MemSite.try_say.Goals as goal

pub invariant_of-self-2 : goal.invariant_of-self-2
invariant_of-self-2 c =
    let is : reverse c.note.new.calls.items ≡ Say c.args.text.now c.size_to_say-said.result ∷ reverse c.args.self.now.history.items = newer_is (Say c.in_ok-kept.kept c.size_to_say-said.result) c.args.self.now.history.items c.make_slot.new.calls.items c.note.new.calls.items c.note.ensures.newest c.make_slot.ensures.items ∙ ap (λ (k : List ℕ). Say k c.size_to_say-said.result ∷ reverse c.args.self.now.history.items) c.in_ok-kept.ensures in
    record {
      image_is = say_image c.args.self.now.first (reverse c.args.self.now.history.items) (reverse c.note.new.calls.items) c.args.text.now c.size_to_say-said.result (image_now c.args.self.now.first c.args.self.now.changed) is c.args.self.now.image_is;
      said_is = say_said (reverse c.args.self.now.history.items) (reverse c.note.new.calls.items) c.args.text.now c.size_to_say-said.result c.args.self.now.said.items c.append_front.new.said.items is c.args.self.now.said_is c.in_ok-append_front.ensures.said;
      near = next_near (Say c.in_ok-kept.kept c.size_to_say-said.result) c.args.self.now.history.items c.make_slot.new.calls.items c.note.new.calls.items c.note.ensures.near c.make_slot.ensures.items c.args.self.now.near (say_near c.in_ok-kept.kept c.size_to_say-said.result);
    }

pub returns-clause-made : goal.returns-clause-made
returns-clause-made c =
    let is : reverse c.note.new.calls.items ≡ Say c.args.text.now (said_size (not c.fails_next-done.result) c.args.text.now) ∷ reverse c.args.self.now.history.items = newer_is (Say c.in_ok-kept.kept c.size_to_say-said.result) c.args.self.now.history.items c.make_slot.new.calls.items c.note.new.calls.items c.note.ensures.newest c.make_slot.ensures.items ∙ ap (λ (k : List ℕ). Say k c.size_to_say-said.result ∷ reverse c.args.self.now.history.items) c.in_ok-kept.ensures ∙ ap (λ (n : ℕ). Say c.args.text.now n ∷ reverse c.args.self.now.history.items) c.size_to_say-said.ensures.size in
    record {
      calls = is;
      named = named_next c.args.self.now.failing c.fails_next-done.result (Say c.args.text.now (said_size (not c.fails_next-done.result) c.args.text.now)) (reverse c.args.self.now.history.items) (reverse c.note.new.calls.items) is (subst (λ (l : List Call). IsTrue c.fails_next-done.result ↔ Contains c.args.self.now.failing (length (reverse l) + 1)) c.make_slot.ensures.items c.fails_next-done.ensures);
      names = record { first = refl; failing = refl; disk_faults = refl; say_faults = refl };
    }

pub returns-clause-stops : goal.returns-clause-stops
returns-clause-stops c =
    let is : reverse c.note.new.calls.items ≡ Say c.args.text.now c.size_to_say-said.result ∷ reverse c.args.self.now.history.items = newer_is (Say c.in_ok-kept.kept c.size_to_say-said.result) c.args.self.now.history.items c.make_slot.new.calls.items c.note.new.calls.items c.note.ensures.newest c.make_slot.ensures.items ∙ ap (λ (k : List ℕ). Say k c.size_to_say-said.result ∷ reverse c.args.self.now.history.items) c.in_ok-kept.ensures in
    say_more c.args.self.now.first (reverse c.args.self.now.history.items) (reverse c.note.new.calls.items) c.args.text.now c.size_to_say-said.result is
