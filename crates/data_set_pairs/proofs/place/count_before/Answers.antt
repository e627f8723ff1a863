use Rattle.std.proofs.Common.{◌≡◌, ◌∙◌, ◌-◌, sym, ap, length, get_or, true, false, arith}
use Rattle.volume_image.specs.Pages.{same_set}
use Rattle.data_set_pairs.specs.declared.place.PagePlace.{PagePlace}
use Rattle.data_set_pairs.proofs.TableSteps.{count_last, count_none}
use Rattle.data_set_pairs.proofs.place.count_before.Goals as goal

pub returns-then-is_same_set : goal.returns-then-is_same_set
returns-then-is_same_set c =
    let pages = c.args.pages.now in
    let last = c.in-Some.last.now in
    let here = c.in-Some.ensures.item.1 in
    let same : same_set (get_or pages (length pages - 1) last).set c.args.set ≡ true = sym (ap (λ (p : PagePlace). same_set p.set c.args.set) here) ∙ sym c.is_same_set.ensures ∙ c.if-is_same_set.true in
    let count = count_last c.args.set pages last (record { part = omega arith; number = omega arith; letter = omega arith }) c.requires.small c.requires.order c.requires.last c.requires.run c.in-Some.ensures.item.3.0 same in
    omega (arith, c.from.ensures, ap (λ (p : PagePlace). p.page) here, count)

pub returns-else-is_same_set : goal.returns-else-is_same_set
returns-else-is_same_set c =
    let pages = c.args.pages.now in
    let last = c.in-Some.last.now in
    let here = c.in-Some.ensures.item.1 in
    let same : same_set (get_or pages (length pages - 1) last).set c.args.set ≡ false = sym (ap (λ (p : PagePlace). same_set p.set c.args.set) here) ∙ sym c.is_same_set.ensures ∙ c.if-is_same_set.false in
    count_none c.args.set pages last (record { part = omega arith; number = omega arith; letter = omega arith }) c.requires.small c.requires.order c.requires.last same
