use Rattle.std.proofs.Common.{◌≡◌, ◌∙◌, ◌+◌, ℕ, List, Err, Bool, cond, set, sym, ap, subst}
use Rattle.std.specs.Prelude.{IfSome, slice_get, insert}
use Rattle.std.specs.List.{remove}
use Rattle.std.specs.Option.{option_map}
use Rattle.hal_base.specs.Outcome.{page_fault}
use Rattle.hal_base.specs.declared.outcome.StageFault.TheVariants as stage
use Rattle.hal_base.specs.declared.outcome.PageFault.TheVariants as page
use Rattle.hal_base.specs.Pages.{SameHead}
use Rattle.hal_base.proofs.ShelfLemmas.{changes_then, changes_as}
use Rattle.keyed_sets.specs.declared.index.First.{First}
use Rattle.keyed_sets.specs.Writing.{first_at, number_at, Half}
use Rattle.keyed_sets.proofs.Heads.{slice_set_other}
use Rattle.keyed_sets.proofs.Removals.{staged_told}
use Rattle.keyed_sets.proofs.SecondSet.{map_map, page_failed}
use Rattle.keyed_sets.proofs.Told.{told_at}
use Rattle.keyed_sets.proofs.index.Index.put_halves.Goals as goal

pub stage_page-requires-2-clause-head : goal.stage_page-requires-2-clause-head
stage_page-requires-2-clause-head g c =
    let seen = g.H.Shelf.seen c.args.shelf.now in
    let told = seen.pages c.args.set in
    let h = c.requires.halves in
    let a = c.in_ok-low.ensures.halves in
    let second = c.args.second.now in
    let k : ℕ = c.in_ok-low.low.page in
    let n : ℕ = c.in_ok-low.high.page in
    let p : ℕ = (first_at c.args.home c.args.self.now.firsts.items).page in
    let m : ℕ = number_at c.args.self.now.empty.items in
    staged_told told ((g.H.Shelf.seen c.stage_page.new.self).pages c.args.set) (λ pages. set pages k c.args.page.now) (λ pages. IfSome (slice_get pages n) (λ old. SameHead old second)) c.in_ok-stage_page.ensures.page (λ pages is.
    let apart : n ≡ k → ⊥ = λ same. told_at told pages (λ l. m ≡ p → ⊥) is h.apart (sym a.high_page ∙ same ∙ a.low_page) in
    subst (λ o. IfSome o (λ old. SameHead old second)) (sym (slice_set_other pages k n c.args.page.now apart))
    (subst (λ (i : ℕ). IfSome (slice_get pages i) (λ old. SameHead old second)) (sym a.high_page) (told_at told pages (λ l. IfSome (slice_get l m) (λ old. SameHead old second)) is h.second_head)))

pub returns-in-Err-clause-left : goal.returns-in-Err-clause-left
returns-in-Err-clause-left g c =
    let a = c.in_ok-low.ensures.halves in
    let same = c.in_ok-low.ensures.same in
    let told = (g.H.Shelf.seen c.args.shelf.now).pages c.args.set in
    let low : First = c.in_ok-low.low in
    let is : low ≡ record { key = low.key; page = (first_at c.args.home c.args.self.now.firsts.items).page } = ap (λ (n : ℕ). record { key = low.key; page = n }) a.low_page in
    Half low.key a.low_starts (ap (λ (l : List First). set l c.args.home low) same.0 ∙ ap (λ (f : First). set c.args.self.now.firsts.items c.args.home f) is) same.1
    (c.in-Err.ensures.unchanged.pages c.args.set ∙ c.in_ok-stage_page.ensures.page ∙ ap (λ (n : ℕ). option_map (λ (pages : List (List ℕ)). set pages n c.args.page.now) told) a.low_page)

pub returns-in-Err-clause-leaves : goal.returns-in-Err-clause-leaves
returns-in-Err-clause-leaves g c =
    changes_as (changes_then c.stage_page.ensures.leaves c.stage_page-2.ensures.leaves (g.met.H.Shelf.steady_then c.args.shelf.now c.stage_page.new.self c.stage_page-2.new.self))
    (λ is. let same : c.in-Err.fault ≡ stage.Failed = cc in ap Err (c.from.ensures ∙ ap page_fault same)) (λ is. let same : c.from.result ≡ page.Failed = cc in c.in-Err.is ∙ ap Err (page_failed c.in-Err.fault (sym c.from.ensures ∙ same)))

pub returns-clause-written : goal.returns-clause-written
returns-clause-written g c =
    let a = c.in_ok-low.ensures.halves in
    let same = c.in_ok-low.ensures.same in
    let old = c.args.self.now in
    let told = (g.H.Shelf.seen c.args.shelf.now).pages c.args.set in
    let low : First = c.in_ok-low.low in
    let high : First = c.in_ok-low.high in
    let p : ℕ = (first_at c.args.home old.firsts.items).page in
    let m : ℕ = number_at old.empty.items in
    let low_is : low ≡ record { key = low.key; page = p } = ap (λ (n : ℕ). record { key = low.key; page = n }) a.low_page in
    let high_is : high ≡ record { key = high.key; page = m } = ap (λ (n : ℕ). record { key = high.key; page = n }) a.high_page in
    let put : c.insert.new.self.items ≡ insert c.make_halves.new.self.firsts.items (c.args.home + 1) high =
    c.insert.ensures.items ∙ ap (λ (b : Bool). cond b (insert c.make_halves.new.self.firsts.items (c.args.home + 1) high) c.make_halves.new.self.firsts.items) (c.insert.ensures.succeeds c.in_ok-low.ensures.room) in
    record {
      pages = c.in_default.ensures.page ∙ ap (option_map (λ (pages : List (List ℕ)). set pages high.page c.args.second.now)) c.in_ok-stage_page.ensures.page
          ∙ map_map (λ (pages : List (List ℕ)). set pages low.page c.args.page.now) (λ (pages : List (List ℕ)). set pages high.page c.args.second.now) told
          ∙ ap (λ (n : ℕ). option_map (λ (pages : List (List ℕ)). set (set pages n c.args.page.now) high.page c.args.second.now) told) a.low_page
          ∙ ap (λ (n : ℕ). option_map (λ (pages : List (List ℕ)). set (set pages p c.args.page.now) n c.args.second.now) told) a.high_page;
      low = low.key;
      low_starts = a.low_starts;
      high = high.key;
      high_starts = a.high_starts;
      firsts = ap (λ (l : List First). set l c.args.home low) (put ∙ ap (λ (l : List First). insert l (c.args.home + 1) high) same.0)
          ∙ ap (λ (f : First). set (insert old.firsts.items (c.args.home + 1) f) c.args.home low) high_is ∙ ap (λ (f : First). set (insert old.firsts.items (c.args.home + 1) (record { key = high.key; page = m })) c.args.home f) low_is;
      empty = c.remove.ensures.items ∙ ap (λ (l : List ℕ). remove l 0) same.1;
    }

pub returns-clause-leaves : goal.returns-clause-leaves
returns-clause-leaves g c =
    changes_as (changes_then c.stage_page.ensures.leaves c.stage_page-2.ensures.leaves (g.met.H.Shelf.steady_then c.args.shelf.now c.stage_page.new.self c.stage_page-2.new.self)) (λ is. cc) (λ is. cc)
