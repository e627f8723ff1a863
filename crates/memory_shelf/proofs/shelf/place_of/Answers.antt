use Rattle.std.proofs.Common.{◌≡◌, ◌∙◌, ◌+◌, ◌∷◌, ap, sym, drop, true, false, arith, List, ℕ, slice_get, suc}
use Rattle.memory_shelf.specs.Shelved.{places_of}
use Rattle.memory_shelf.proofs.Shelving.{places_step, none_left, missing}
use Rattle.memory_shelf.proofs.shelf.place_of.Goals as goal
use Rattle.memory_shelf.proofs.shelf.place_of.Goals.{then-is_owner+else-left-eq0, else-is_owner}

pub returns-then-left-eq0 : goal.returns-then-left-eq0
returns-then-left-eq0 c =
    sym c.loop-place.invariant
    ∙ ap (λ (l : List ℕ). slice_get l c.loop-place.left) (places_step c.args.set (record { part = 0; number = 0; letter = 0 }) c.loop-place.place c.args.owners.now true c.loop-place-test.true (sym c.is_owner.ensures ∙ c.if-is_owner.true))
    ∙ ap (slice_get (c.loop-place.place ∷ places_of c.args.set (c.loop-place.place + 1) (drop (c.loop-place.place + 1) c.args.owners.now))) c.if-left-eq0.true

pub loop-place-preserved : goal.loop-place-preserved
loop-place-preserved c = elim c.if-is_owner.branch [
  | then-is_owner+else-left-eq0 w ↦
      let one : c.loop-place.left ≡ suc c.if-is_owner.left = omega (arith, w.left-is, w.if-left-eq0.false) in
      sym (ap (slice_get (c.loop-place.place ∷ places_of c.args.set (c.loop-place.place + 1) (drop (c.loop-place.place + 1) c.args.owners.now))) one)
      ∙ sym (ap (λ (l : List ℕ). slice_get l c.loop-place.left) (places_step c.args.set (record { part = 0; number = 0; letter = 0 }) c.loop-place.place c.args.owners.now true c.loop-place-test.true (sym c.is_owner.ensures ∙ w.if-is_owner.true)))
      ∙ c.loop-place.invariant
  | else-is_owner w ↦
      ap (slice_get (places_of c.args.set (c.loop-place.place + 1) (drop (c.loop-place.place + 1) c.args.owners.now))) w.left-is
      ∙ sym (ap (λ (l : List ℕ). slice_get l c.loop-place.left) (places_step c.args.set (record { part = 0; number = 0; letter = 0 }) c.loop-place.place c.args.owners.now false c.loop-place-test.true (sym c.is_owner.ensures ∙ w.if-is_owner.false)))
      ∙ c.loop-place.invariant
]

pub returns : goal.returns
returns c = absurd (missing (places_of c.args.set 0 c.args.owners.now) c.args.page c.requires (sym c.loop-place.invariant ∙ ap (λ (l : List ℕ). slice_get l c.loop-place.left) (none_left c.args.set c.loop-place.place c.args.owners.now c.loop-place-test.false)))
