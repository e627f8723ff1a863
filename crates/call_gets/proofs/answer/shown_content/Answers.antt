use Rattle.std.proofs.Common.{◌≡◌, ◌+◌, [], ◌∷◌, ◌++◌, List, ℕ, drop, arith, sym, ap, subst, ◌∙◌}
use Rattle.std.proofs.lemmas.List.{append_assoc, append-nil, drop_all}
use Rattle.position_state.specs.declared.spot.Spot.{Spot}
use Rattle.call_gets.proofs.Listing.{left_is}
use Rattle.call_gets.proofs.Showing.{shown_of, shown_yes, shown_no, shown_all}
use Rattle.call_gets.proofs.answer.shown_content.Goals as goal
use Rattle.call_gets.proofs.answer.shown_content.Goals.{then-is_shown+in_ok-append, else-is_shown}

pub loop-above-preserved : goal.loop-above-preserved
loop-above-preserved c =
    let schema = c.args.schema.now in
    let ssas = c.args.ssas.now in
    let level = c.args.met.now.spot.level in
    let items = c.args.met.now.above.items in
    let i = c.loop-above.above-index in
    let x = c.above-item.result in
    let e : drop i items ≡ x ∷ drop (i + 1) items =
    subst (λ (xs : List Spot). drop i xs ≡ x ∷ drop (i + 1) xs) c.deref-above-items.ensures.value (left_is c.deref-above-items.result.now i x c.loop-above-test.true c.above-item.is) in
    let here : shown_of schema ssas level items ≡ c.loop-above.content ++ shown_of schema ssas level (x ∷ drop (i + 1) items) = c.loop-above.invariant ∙ ap (λ (ys : List Spot). c.loop-above.content ++ shown_of schema ssas level ys) e in
    elim c.if-is_shown.branch [
      | then-is_shown+in_ok-append w ↦
          let k : c.if-is_shown.content ≡ c.loop-above.content ++ x.content = w.content-is ∙ w.in_ok-append.ensures.ok ∙ ap (λ (r : List ℕ). c.loop-above.content ++ r) w.as_slice.ensures in
          here ∙ ap (λ (r : List ℕ). c.loop-above.content ++ r) (shown_yes schema ssas level x (drop (i + 1) items) (sym w.if-is_shown.true ∙ c.is_shown.ensures))
          ∙ sym (append_assoc c.loop-above.content x.content (shown_of schema ssas level (drop (i + 1) items)))
          ∙ ap (λ (r : List ℕ). r ++ shown_of schema ssas level (drop (i + 1) items)) (sym k)
      | else-is_shown w ↦
          here ∙ ap (λ (r : List ℕ). c.loop-above.content ++ r) (shown_no schema ssas level x (drop (i + 1) items) (sym w.if-is_shown.false ∙ c.is_shown.ensures))
          ∙ ap (λ (r : List ℕ). r ++ shown_of schema ssas level (drop (i + 1) items)) (sym w.content-is)
    ]

pub returns : goal.returns
returns c =
    let schema = c.args.schema.now in
    let ssas = c.args.ssas.now in
    let level = c.args.met.now.spot.level in
    let items = c.args.met.now.above.items in
    let last = c.args.met.now.spot.content in
    let none : drop c.loop-above.above-index items ≡ [] =
    subst (λ (xs : List Spot). drop c.loop-above.above-index xs ≡ []) c.deref-above-items.ensures.value (drop_all c.loop-above.above-index c.deref-above-items.result.now (omega (arith, c.loop-above-test.false))) in
    let all : c.loop-above.content ≡ shown_of schema ssas level items =
    sym (c.loop-above.invariant ∙ ap (λ (ys : List Spot). c.loop-above.content ++ shown_of schema ssas level ys) none ∙ append-nil c.loop-above.content) in
    c.in_ok-append-2.ensures.ok ∙ ap (λ (r : List ℕ). c.loop-above.content ++ r) c.as_slice-2.ensures ∙ ap (λ (r : List ℕ). r ++ last) all ∙ sym (shown_all schema ssas items c.args.met.now.spot)
