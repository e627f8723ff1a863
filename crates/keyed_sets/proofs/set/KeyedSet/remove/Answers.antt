use Rattle.std.proofs.Common.{◌≡◌, ◌∙◌, ◌<◌, ℕ, suc, List, length, take, drop, set, inl, inr, refl, sym, ap, subst, arith}
use Rattle.std.specs.Prelude.{IfSome, slice_get}
use Rattle.std.specs.List.{remove}
use Rattle.std.specs.Option.{option_map}
use Rattle.std.proofs.lemmas.Bool.{cases_lt, not-true}
use Rattle.std.proofs.lemmas.List.Elements.{All-set, All-append, All-take, All-drop}
use Rattle.std.proofs.lemmas.Result.{err_from_is_err_and}
use Rattle.hal_base.specs.Pages.{SameHead}
use Rattle.hal_base.specs.declared.outcome.PageFault.TheVariants.{Failed}
use Rattle.hal_base.proofs.ShelfLemmas.{reads_as, reads_changes, changes_then, changes_as}
use Rattle.keyed_sets.specs.declared.index.First.{First}
use Rattle.keyed_sets.specs.Layout.{count_of}
use Rattle.keyed_sets.specs.Reading.{home_page}
use Rattle.keyed_sets.specs.Standing.{Stands, no_first, with_number}
use Rattle.keyed_sets.proofs.FitSet.{head_told, heads_written}
use Rattle.keyed_sets.proofs.Heads.{heads_unchanged}
use Rattle.keyed_sets.proofs.Removals.{none_removed, removed, kept_stands, emptied, numbers_within, staged_told}
use Rattle.keyed_sets.proofs.Spots.{at_told, none_found, nothing_found}
use Rattle.keyed_sets.proofs.Steps.{opened_as}
use Rattle.keyed_sets.proofs.Told.{ok_not_err, one_fault, flipped}
use Rattle.keyed_sets.proofs.set.KeyedSet.remove.Goals as goal

pub put_page-requires-clause-head : goal.put_page-requires-clause-head
put_page-requires-clause-head g c =
    let self = c.args.self.now in
    let before = g.H.Shelf.seen c.args.shelf.now in
    let now = g.H.Shelf.seen c.seek.new.shelf in
    let key = c.args.key.now in
    let spot = c.in_ok-spot.spot in
    let page = c.seek.new.page in
    let same = c.seek.ensures.leaves.same in
    let page2 = c.remove_row.new.page in
    subst (λ o. IfSome o (λ pages. IfSome (slice_get pages (home_page self spot)) (λ old. SameHead old page2))) (sym (same.pages self.set))
    (head_told self key spot page page2 before c.requires.opened c.in_ok-spot.ensures.sought (λ rise. c.remove_row.ensures.head))

pub returns-then-not-has_rows-clause-removed : goal.returns-then-not-has_rows-clause-removed
returns-then-not-has_rows-clause-removed g c =
    let self = c.args.self.now in
    let seen = g.H.Shelf.seen c.args.shelf.now in
    none_removed self seen seen c.args.key.now refl (nothing_found self seen c.args.key.now c.requires.opened (c.has_rows.ensures.none c.if-not-has_rows.true)) c.requires.opened

pub returns-then-not-spot-clause-removed : goal.returns-then-not-spot-clause-removed
returns-then-not-spot-clause-removed g c =
    let self = c.args.self.now in
    let before = g.H.Shelf.seen c.args.shelf.now in
    let now = g.H.Shelf.seen c.seek.new.shelf in
    let key = c.args.key.now in
    let spot = c.in_ok-spot.spot in
    let page = c.seek.new.page in
    let same = c.seek.ensures.leaves.same in
    none_removed self before now key (same.pages self.set) (none_found self key spot page before c.requires.opened c.in_ok-spot.ensures.sought (not-true spot.found c.if-not-spot.true)) c.requires.opened

pub returns-then-not-spot-clause-leaves : goal.returns-then-not-spot-clause-leaves
returns-then-not-spot-clause-leaves g c =
    let self = c.args.self.now in
    let before = g.H.Shelf.seen c.args.shelf.now in
    let now = g.H.Shelf.seen c.seek.new.shelf in
    let key = c.args.key.now in
    let spot = c.in_ok-spot.spot in
    let page = c.seek.new.page in
    let same = c.seek.ensures.leaves.same in
    record {
      changes = reads_changes self.set (reads_as c.seek.ensures.leaves (λ is. absurd (ok_not_err c.seek.result spot Failed c.in_ok-spot.was is)) (λ is. cc));
      heads = heads_unchanged self.set before now (same.pages self.set);
    }

pub returns-in_err-put_page-clause-leaves : goal.returns-in_err-put_page-clause-leaves
returns-in_err-put_page-clause-leaves g c =
    let self = c.args.self.now in
    let before = g.H.Shelf.seen c.args.shelf.now in
    let now = g.H.Shelf.seen c.seek.new.shelf in
    let key = c.args.key.now in
    let spot = c.in_ok-spot.spot in
    let page = c.seek.new.page in
    let same = c.seek.ensures.leaves.same in
    let after = g.H.Shelf.seen c.put_page.new.shelf in
    let page2 = c.remove_row.new.page in
    let n : ℕ = home_page self spot in
    let p = err_from_is_err_and c.from_residual-in_err-put_page.result c.from_residual-in_err-put_page.ensures.1 in
    let q = one_fault c.put_page.result c.from_residual-in_err-put_page.result _ p.0 Failed c.in_err-put_page.was p.1 p.2 in
    record {
      changes = changes_then (reads_changes self.set c.seek.ensures.leaves) (changes_as c.put_page.ensures.leaves q.0 q.1) (g.met.H.Shelf.steady_then c.args.shelf.now c.seek.new.shelf c.put_page.new.shelf);
      heads = heads_unchanged self.set before after (c.in_err-put_page.ensures.unchanged.2.pages self.set ∙ same.pages self.set);
    }

pub returns-clause-removed : goal.returns-clause-removed
returns-clause-removed g c =
    let self = c.args.self.now in
    let before = g.H.Shelf.seen c.args.shelf.now in
    let now = g.H.Shelf.seen c.seek.new.shelf in
    let key = c.args.key.now in
    let spot = c.in_ok-spot.spot in
    let page = c.seek.new.page in
    let same = c.seek.ensures.leaves.same in
    let after = g.H.Shelf.seen c.put_page.new.shelf in
    let page2 = c.remove_row.new.page in
    let n : ℕ = home_page self spot in
    let w = c.in_ok-put_page.ensures.written in
    let staged : after.pages self.set ≡ option_map (λ (pages : List (List ℕ)). set pages n page2) (before.pages self.set) = w.pages ∙ ap (option_map (λ (pages : List (List ℕ)). set pages n page2)) (same.pages self.set) in
    removed self key spot page page2 before after c.requires.opened c.in_ok-spot.ensures.sought (flipped spot.found c.if-not-spot.false) c.remove_row.ensures staged

pub returns-clause-opened : goal.returns-clause-opened
returns-clause-opened g c =
    let self = c.args.self.now in
    let before = g.H.Shelf.seen c.args.shelf.now in
    let now = g.H.Shelf.seen c.seek.new.shelf in
    let key = c.args.key.now in
    let spot = c.in_ok-spot.spot in
    let page = c.seek.new.page in
    let same = c.seek.ensures.leaves.same in
    let after = g.H.Shelf.seen c.put_page.new.shelf in
    let page2 = c.remove_row.new.page in
    let n : ℕ = home_page self spot in
    let w = c.in_ok-put_page.ensures.written in
    let staged : after.pages self.set ≡ option_map (λ (pages : List (List ℕ)). set pages n page2) (before.pages self.set) = w.pages ∙ ap (option_map (λ (pages : List (List ℕ)). set pages n page2)) (same.pages self.set) in
    let firsts : List First = self.index.firsts.items in
    let empty : List ℕ = self.index.empty.items in
    let sought = c.in_ok-spot.ensures.sought in
    let count : ℕ = length (before.places self.set) in
    let places = ap (λ (l : List ℕ). length l) (c.put_page.ensures.leaves.changed.places self.set ∙ same.places self.set) in
    let within = c.requires.opened.firsts_within in
    let here : n < count = within spot.home no_first sought.within in
    record {
      set = refl;
      shape = refl;
      opened = elim (cases_lt 0 (count_of page2)) [
        | inl some ↦
            let f = w.some some in
            let first : First = record { key = f.0; page = n } in
            opened_as _ after (set firsts spot.home first) empty count f.2 f.3 places (All-set (λ (f : First). f.page < count) firsts spot.home first here within) c.requires.opened.empty_within
            (staged_told (before.pages self.set) (after.pages self.set) (λ pages. set pages n page2) (Stands self.shape (set firsts spot.home first) empty) staged (λ pages is.
            kept_stands self key spot page page2 pages f.0 (record { at = at_told self key spot page before c.requires.opened sought pages is; found = (flipped spot.found c.if-not-spot.false); puts = c.remove_row.ensures }) f.1))
        | inr none ↦
            let nothing : count_of page2 ≡ 0 = omega (arith, none) in
            let gone = w.none nothing in
            opened_as _ after (remove firsts spot.home) (with_number n empty) count gone.0 gone.1 places
            (All-append (λ (f : First). f.page < count) (take spot.home firsts) (drop (suc spot.home) firsts) (All-take (λ (f : First). f.page < count) spot.home firsts within) (All-drop (λ (f : First). f.page < count) (suc spot.home) firsts within))
            (numbers_within n empty count here c.requires.opened.empty_within)
            (staged_told (before.pages self.set) (after.pages self.set) (λ pages. set pages n page2) (Stands self.shape (remove firsts spot.home) (with_number n empty)) staged (λ pages is.
            emptied self key spot page page2 pages (record { at = at_told self key spot page before c.requires.opened sought pages is; found = (flipped spot.found c.if-not-spot.false); puts = c.remove_row.ensures }) nothing))
      ];
    }

pub returns-clause-leaves : goal.returns-clause-leaves
returns-clause-leaves g c =
    let self = c.args.self.now in
    let before = g.H.Shelf.seen c.args.shelf.now in
    let now = g.H.Shelf.seen c.seek.new.shelf in
    let key = c.args.key.now in
    let spot = c.in_ok-spot.spot in
    let page = c.seek.new.page in
    let same = c.seek.ensures.leaves.same in
    let after = g.H.Shelf.seen c.put_page.new.shelf in
    let page2 = c.remove_row.new.page in
    let n : ℕ = home_page self spot in
    let w = c.in_ok-put_page.ensures.written in
    let staged : after.pages self.set ≡ option_map (λ (pages : List (List ℕ)). set pages n page2) (before.pages self.set) = w.pages ∙ ap (option_map (λ (pages : List (List ℕ)). set pages n page2)) (same.pages self.set) in
    record {
      changes = changes_then (reads_changes self.set c.seek.ensures.leaves) (changes_as c.put_page.ensures.leaves (λ is. absurd (ok_not_err c.put_page.result c.in_ok-put_page.field-0 Failed c.in_ok-put_page.was is)) (λ is. cc))
          (g.met.H.Shelf.steady_then c.args.shelf.now c.seek.new.shelf c.put_page.new.shelf);
      heads = heads_written self key spot page page2 before after c.requires.opened c.in_ok-spot.ensures.sought (λ rise. c.remove_row.ensures.head) staged;
    }
