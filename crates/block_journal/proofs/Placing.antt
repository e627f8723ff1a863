-- What may be left while blocks are being written to their places.
use Rattle.std.proofs.Common.{◌≡◌, inl, inr, ⊎_elim, ℕ, ◌+◌, ◌*◌, ◌<◌, List, [], ◌∷◌, Option, None, Some, option_map, refl, sym, ◌∙◌, ap, arith}
use Rattle.hal_base.specs.Disk.{Torn, written}
use Rattle.hal_base.specs.Stops.{LeavesOnly}
use Rattle.hal_base.proofs.StopLemmas.{leaves-then, leaves-now}
use Rattle.block_journal.specs.Redo.{put_image}
use Rattle.block_journal.specs.Change.{Change}
use Rattle.block_journal.specs.Placing.{IsOutside, Places, PlacedFrom}
use Rattle.block_journal.specs.Device.{Became}
use Rattle.block_journal.proofs.Images.{torn_outside}

pub places_one : (first count at n : ℕ) (c : Change) (y x : List ℕ) → c.0 < count → at ≡ first + 4096 * c.0 → n ≡ 4096 → Torn at n y x → Places first count (c ∷ []) y x
places_one first count at n c y x below at_is n_is torn long =
    let same = torn_outside at n y x (omega (arith, at_is, long, below)) torn in
    (record { byte = λ i out. same.byte i (⊎_elim (λ lt. inl (omega (arith, at_is, lt))) (λ le. inr (omega (arith, at_is, n_is, le))) out.0) }, torn.no_shorter)

-- the changes one after another
pub places_then : (first count : ℕ) (cs more : List Change) (x y z : List ℕ) → ((i : ℕ) → IsOutside first cs i → IsOutside first more i) → Places first count cs x y → Places first count more y z → Places first count cs x z
places_then first count cs more x y z among first_step second_step long =
    let one = first_step long in
    let two = second_step (omega (arith, long, one.1)) in
    (record { byte = λ i out. two.0.byte i (among i out) ∙ one.0.byte i out }, omega (arith, one.1, two.1))

pub places_same : (first count : ℕ) (cs : List Change) (x : List ℕ) → Places first count cs x x
places_same first count cs x long = (record { byte = λ i out. refl }, omega arith)

-- one change more
module _ (first count : ℕ) (cs : List Change) (c : Change) (among : (i : ℕ) → IsOutside first cs i → IsOutside first (c ∷ []) i) where
  pub placed_next : {a b d : ℕ} {past mid at : ℕ → List ℕ → List ℕ → Type 0} → LeavesOnly a b past mid (PlacedFrom (past a) first count cs) → LeavesOnly b d mid at (PlacedFrom (mid b) first count (c ∷ [])) → LeavesOnly a d past at (PlacedFrom (past a) first count cs)
  placed_next {a} {b} {d} {past} {mid} {at} so_far next = leaves-then so_far next (λ x s left.
      let from = leaves-now so_far (λ x s was. (x, was, places_same first count cs x)) left.0 s left.1 in
      (from.0, from.1, places_then first count cs (c ∷ []) from.0 left.0 x among from.2 left.2))

  pub told_next : {old mid new : Option (List ℕ)} → Became (Places first count cs) old mid → Became (Places first count (c ∷ [])) mid new → Became (Places first count cs) old new
  told_next so_far next = record {
    told = λ y told.
        let one = so_far.told y told in
        let two = next.told one.0 one.1 in
        (two.0, two.1, places_then first count cs (c ∷ []) y one.0 two.0 among one.2 two.2);
    untold = λ none. next.untold (so_far.untold none);
  }

pub image_end : (first : ℕ) (cs : List Change) (image : Option (List ℕ)) → cs ≡ [] → option_map (put_image first cs) image ≡ image
unfolding put_image
image_end first cs None is = refl
image_end first cs (Some x) is = ap (λ (l : List Change). Some (put_image first l x)) is

pub image_next : (first : ℕ) (cs rest : List Change) (c : Change) (image next : Option (List ℕ)) → cs ≡ c ∷ rest → next ≡ option_map (written (first + 4096 * c.0) c.1) image → option_map (put_image first rest) next ≡ option_map (put_image first cs) image
unfolding put_image
image_next first cs rest c image next is more = ap (option_map (put_image first rest)) more ∙ one image ∙ ap (λ (l : List Change). option_map (put_image first l) image) (sym is)
  where
    one : (image : Option (List ℕ)) → option_map (put_image first rest) (option_map (written (first + 4096 * c.0) c.1) image) ≡ option_map (put_image first (c ∷ rest)) image
    one None = refl
    one (Some x) = refl
