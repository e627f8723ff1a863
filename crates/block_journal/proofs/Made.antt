-- How what is made of an image goes on over calls of the site, where R is all that they make of it.
use Rattle.std.proofs.Common.{◌≡◌, ℕ, List, Option, None, Some, option_map, refl, sym, ◌∙◌, ap, subst}
use Rattle.std.proofs.lemmas.Option.{none-some, same_Some}
use Rattle.hal_base.specs.Stops.{LeavesOnly}
use Rattle.hal_base.proofs.StopLemmas.{not_yet, leaves-then, leaves-now, leaves-weaken}
use Rattle.block_journal.specs.Device.{Became, MadeFrom, IsExact}

-- one of these images, after a step that makes S of it
abbrev pub After : (List ℕ → List ℕ → Type 0) → (List ℕ → List ℕ → Type 0) → List ℕ → List ℕ → Type 0
After S outcomes x s = (old : List ℕ) × outcomes old s × S old x

-- at the start nothing is made of the image
pub record Start (R : List ℕ → List ℕ → Type 0) (image : Option (List ℕ)) (outcomes : List ℕ → List ℕ → Type 0) : Type 0 where
  pub same : (y : List ℕ) → image ≡ Some y → R y y
  pub exact : IsExact image outcomes

pub made-before : {R : List ℕ → List ℕ → Type 0} {image : Option (List ℕ)} {outcomes : List ℕ → List ℕ → Type 0} → Start R image outcomes → (x s : List ℕ) → outcomes x s → MadeFrom R outcomes image x s
made-before {R} start x s left = (λ y told. subst (λ (z : List ℕ). R y z) (sym (start.exact.only y told x s left)) (start.same y told), (x, left))

-- So far f was made of the image, and a sync has made that sure.
pub record Chain (R : List ℕ → List ℕ → Type 0) (image : Option (List ℕ)) (a : ℕ) (past : ℕ → List ℕ → List ℕ → Type 0) (f : List ℕ → List ℕ) (next : Option (List ℕ)) (b : ℕ) (mid : ℕ → List ℕ → List ℕ → Type 0) : Type 0 where
  pub start : Start R image (past a)
  pub is : (y : List ℕ) → image ≡ Some y → next ≡ Some (f y)
  pub untold : image ≡ None → next ≡ None
  pub exact : IsExact next (mid b)
  pub stops : LeavesOnly a b past mid (MadeFrom R (past a) image)

pub chain-start : {R : List ℕ → List ℕ → Type 0} {image : Option (List ℕ)} (a : ℕ) (past : ℕ → List ℕ → List ℕ → Type 0) → Start R image (past a) → Chain R image a past (λ y. y) image a past
chain-start {R} {image} a past start = record { start = start; is = λ y told. told; untold = λ none. none; exact = start.exact; stops = not_yet a past (MadeFrom R (past a) image) }

module _ {R : List ℕ → List ℕ → Type 0} {image : Option (List ℕ)} {a : ℕ} {past : ℕ → List ℕ → List ℕ → Type 0} {f : List ℕ → List ℕ} {next : Option (List ℕ)} {b : ℕ} {mid : ℕ → List ℕ → List ℕ → Type 0} (chain : Chain R image a past f next b mid) (S : List ℕ → List ℕ → Type 0) (so : (y x : List ℕ) → image ≡ Some y → S (f y) x → R y x) where
  -- a step more
  pub chain-stops : {c : ℕ} {at : ℕ → List ℕ → List ℕ → Type 0} → LeavesOnly b c mid at (After S (mid b)) → LeavesOnly a c past at (MadeFrom R (past a) image)
  chain-stops more = leaves-then chain.stops more (λ x s from. (
    λ y told. so y x told (subst (λ (z : List ℕ). S z x) (chain.exact.only (f y) (chain.is y told) from.0 s from.1) from.2),
    (leaves-now chain.stops (made-before chain.start) from.0 s from.1).1,
  ))

  pub chain-made : {c : ℕ} {at : ℕ → List ℕ → List ℕ → Type 0} → LeavesOnly b c mid at (MadeFrom S (mid b) next) → LeavesOnly a c past at (MadeFrom R (past a) image)
  chain-made more = leaves-then chain.stops more (λ x s from. (λ y told. so y x told (from.0 (f y) (chain.is y told)), (leaves-now chain.stops (made-before chain.start) from.1.0 s from.1.1).1))

  pub chain-told : {last : Option (List ℕ)} → Became S next last → Became R image last
  chain-told more = record {
    told = λ y told.
        let t = more.told (f y) (chain.is y told) in
        (t.0, t.1, so y t.0 told t.2);
    untold = λ none. more.untold (chain.untold none);
  }

  pub chain-on : {c : ℕ} {at : ℕ → List ℕ → List ℕ → Type 0} {last : Option (List ℕ)} (h : List ℕ → List ℕ) → Became S next last → last ≡ option_map h next → IsExact last (at c) → LeavesOnly b c mid at (After S (mid b)) → Chain R image a past (λ y. h (f y)) last c at
  chain-on h told is exact more = record {
    start = chain.start;
    is = λ y was. is ∙ ap (option_map h) (chain.is y was);
    untold = λ none. told.untold (chain.untold none);
    exact = exact;
    stops = chain-stops more;
  }

-- what holds of f of the image that was told holds of the image that is told now
pub chain-now : (image next : Option (List ℕ)) (f : List ℕ → List ℕ) (P : List ℕ → Type 0) → ((y : List ℕ) → image ≡ Some y → next ≡ Some (f y)) → (image ≡ None → next ≡ None) → ((y : List ℕ) → image ≡ Some y → P (f y)) → (z : List ℕ) → next ≡ Some z → P z
chain-now None next f P is untold holds z told = absurd (none-some z (sym (untold refl) ∙ told))
chain-now (Some y) next f P is untold holds z told = subst P (same_Some (f y) z (sym (is y refl) ∙ told)) (holds y refl)

-- a step that makes less
pub became-so : {R S : List ℕ → List ℕ → Type 0} {old new : Option (List ℕ)} → Became S old new → ((y x : List ℕ) → old ≡ Some y → S y x → R y x) → Became R old new
became-so more so = record {
  told = λ y told.
      let t = more.told y told in
      (t.0, t.1, so y t.0 told t.2);
  untold = more.untold;
}

-- calls that change nothing
pub made_waits : {R : List ℕ → List ℕ → Type 0} {image : Option (List ℕ)} {a b : ℕ} {past at : ℕ → List ℕ → List ℕ → Type 0} → Start R image (past a) → LeavesOnly a b past at (past a) → LeavesOnly a b past at (MadeFrom R (past a) image)
made_waits start only = leaves-weaken only (made-before start)

-- and then more
pub made_later : {R : List ℕ → List ℕ → Type 0} {image next : Option (List ℕ)} {a b c : ℕ} {past mid at : ℕ → List ℕ → List ℕ → Type 0} → Start R image (past a) → next ≡ image → LeavesOnly a b past mid (past a) → LeavesOnly b c mid at (MadeFrom R (mid b) next) → LeavesOnly a c past at (MadeFrom R (past a) image)
made_later start is so_far more = leaves-then (made_waits start so_far) more (λ x s from. (λ y told. from.0 y (is ∙ told), (from.1.0, leaves-now so_far (λ x s left. left) from.1.0 s from.1.1)))

pub became_later : {R : List ℕ → List ℕ → Type 0} {image next last : Option (List ℕ)} → next ≡ image → Became R next last → Became R image last
became_later is more = record { told = λ y told. more.told y (is ∙ told); untold = λ none. more.untold (is ∙ none) }

pub became_still : {R : List ℕ → List ℕ → Type 0} {image next last : Option (List ℕ)} → Became R image next → last ≡ next → Became R image last
became_still more is = record {
  told = λ y told.
      let t = more.told y told in
      (t.0, is ∙ t.1, t.2);
  untold = λ none. is ∙ more.untold none;
}
