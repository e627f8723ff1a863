use Rattle.std.proofs.Common.{◌≡◌, ◌∙◌, ◌/◌, ◌%◌, ◌++◌, ◌∷◌, [], List, ℕ, ap, take, drop, replicate}
use Rattle.hal_base.proofs.pages.headed.Goals as goal

pub returns : goal.returns
returns c =
    let part : c.put16.new.bytes ≡ c.args.kind ∷ c.args.set.letter ∷ c.args.set.part / 256 % 256 ∷ c.args.set.part % 256 ∷ replicate 4092 0 = c.put16.ensures in
    let number : c.put16-2.new.bytes ≡ c.args.kind ∷ c.args.set.letter ∷ c.args.set.part / 256 % 256 ∷ c.args.set.part % 256 ∷ c.args.set.number / 256 % 256 ∷ c.args.set.number % 256 ∷ replicate 4090 0 =
    c.put16-2.ensures ∙ ap (λ (l : List ℕ). take 4 l ++ c.args.set.number / 256 % 256 ∷ c.args.set.number % 256 ∷ [] ++ drop 6 l) part in
    c.put16-3.ensures ∙ ap (λ (l : List ℕ). take 6 l ++ c.args.page / 256 % 256 ∷ c.args.page % 256 ∷ [] ++ drop 8 l) number
