use Rattle.std.proofs.Common.{◌∙◌, ℕ, true, List, sym, ap, subst, refl}
use Rattle.std.proofs.Common.{◌==◌}
use Rattle.std.specs.List.{list_all}
use Rattle.volume_head.specs.Definition.{IsCanonical}
use Rattle.volume_head.proofs.Fronts.{front_found, not_agreed, some_of, both_ways}
use Rattle.volume_head.proofs.read.schema_in.Goals as goal
use Rattle.volume_head.proofs.read.schema_in.Goals.{else-are_zeros-via-then-are_zeros+else-says_same, else-are_zeros-via-else-are_zeros}

pub returns-then-says_same-clause-found : goal.returns-then-says_same-clause-found
returns-then-says_same-clause-found c =
    let of : IsCanonical c.split_at.result.0.now c.in-Some.schema = some_of (IsCanonical c.split_at.result.0.now) c.in-Some.is c.in_ok-schema.ensures.found in
    front_found c.in-Some.schema c.args.head.now c.args.bytes.now c.args.text (subst (λ (t : List ℕ). IsCanonical t c.in-Some.schema) c.split_at.ensures.front of)
    (ap (λ (t : List ℕ). list_all (λ byte. byte == 0) t) (sym c.split_at.ensures.back) ∙ sym c.are_zeros.ensures ∙ c.if-are_zeros.true) (c.if-says_same.ensures.0 refl) c.requires.short c.requires.long

pub returns-else-are_zeros-clause-none : goal.returns-else-are_zeros-clause-none
returns-else-are_zeros-clause-none c = λ schema front is.
    let of : IsCanonical c.split_at.result.0.now c.in-Some.schema = some_of (IsCanonical c.split_at.result.0.now) c.in-Some.is c.in_ok-schema.ensures.found in
    let canonical = subst (λ (t : List ℕ). IsCanonical t c.in-Some.schema) c.split_at.ensures.front of in
    let zeros = c.are_zeros.ensures ∙ ap (λ (t : List ℕ). list_all (λ byte. byte == 0) t) c.split_at.ensures.back in
    elim c.else-are_zeros.branch [
      | else-are_zeros-via-then-are_zeros+else-says_same w ↦ not_agreed c.args.bytes.now c.args.head.now c.args.text c.in-Some.schema schema c.are_zeros.result w.says_same.result canonical zeros w.says_same.ensures.1 (λ a b. both_ways b w.if-says_same.false) front is
      | else-are_zeros-via-else-are_zeros w ↦ not_agreed c.args.bytes.now c.args.head.now c.args.text c.in-Some.schema schema c.are_zeros.result true canonical zeros (λ h. refl) (λ a b. both_ways a w.if-are_zeros.false) front is
    ]
