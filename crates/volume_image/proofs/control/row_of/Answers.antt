use Rattle.std.proofs.Common.{◌≡◌, ◌∙◌, ◌+◌, ◌-◌, ◌/◌, ◌%◌, ◌++◌, ◌∷◌, [], List, ℕ, ap, length, take, drop, replicate, slice_set}
use Rattle.volume_image.specs.Control.{cursor_bytes}
use Rattle.volume_image.proofs.RowZeros.{zeros_past}
use Rattle.volume_image.proofs.control.row_of.Goals as goal

pub returns : goal.returns
returns c =
    let s = c.args.state.now in
    let b = cursor_bytes s.cursor in
    let part : c.put16.new.bytes ≡ s.part / 256 % 256 ∷ s.part % 256 ∷ replicate 126 0 = c.put16.ensures in
    let number : c.put16-2.new.bytes ≡ s.part / 256 % 256 ∷ s.part % 256 ∷ s.number / 256 % 256 ∷ s.number % 256 ∷ replicate 124 0 =
    c.put16-2.ensures ∙ ap (λ (l : List ℕ). take 2 l ++ s.number / 256 % 256 ∷ s.number % 256 ∷ [] ++ drop 4 l) part in
    let row = λ (l : List ℕ) (kind : ℕ). slice_set (slice_set (slice_set l 4 s.side) 5 s.state) 6 kind in
    c.put_cursor.ensures
    ∙ ap (λ (l : List ℕ). take 7 (row l c.kind_of.result) ++ length b ∷ b ++ drop (8 + length b) (row l c.kind_of.result)) number
    ∙ ap (λ (rest : List ℕ). s.part / 256 % 256 ∷ s.part % 256 ∷ s.number / 256 % 256 ∷ s.number % 256 ∷ s.side ∷ s.state ∷ c.kind_of.result ∷ length b ∷ (b ++ rest))
    (zeros_past (length b) (s.part / 256 % 256) (s.part % 256) (s.number / 256 % 256) (s.number % 256) s.side s.state c.kind_of.result)
    ∙ ap (λ (kind : ℕ). s.part / 256 % 256 ∷ s.part % 256 ∷ s.number / 256 % 256 ∷ s.number % 256 ∷ s.side ∷ s.state ∷ kind ∷ length b ∷ (b ++ replicate (120 - length b) 0)) c.kind_of.ensures
