use Rattle.std.proofs.Common.{◌≡◌, ◌∙◌, ◌≤◌, ◌+◌, ◌++◌, ◌||◌, not, Bool, List, ℕ, length, map, reverse, ap, sym, arith}
use Rattle.std.specs.Prelude.{filter}
use Rattle.std.specs.List.{list_any}
use Rattle.std.proofs.lemmas.List.Folds.{list_any-append}
use Rattle.std.proofs.lemmas.List.Sorted.{IsPermutation-reverse, list_any-IsPermutation}
use Rattle.volume_image.specs.Header.{is_left}
use Rattle.data_set_pairs.specs.declared.place.PagePlace.{PagePlace}
use Rattle.data_set_pairs.proofs.Falling.{any_blocks, few_left}
use Rattle.data_set_pairs.proofs.leave.without_left.Goals as goal

pub returns : goal.returns
returns c =
    let states = c.args.states.now in
    let pages = c.args.table.now.pages.items in
    let free = c.args.table.now.free.items in
    let left : PagePlace → Bool = λ p. is_left states p.set in
    let all : c.add_left.new.free.items ≡ free ++ map (λ (p : PagePlace). p.block) (filter (λ (p : PagePlace). is_left states p.set) pages) = c.in_ok-add_left.ensures ∙ ap (λ (l : List ℕ). l ++ map (λ (p : PagePlace). p.block) (filter (λ (p : PagePlace). is_left states p.set) c.deref-3.result.now)) (c.in_ok-free.ensures.items ∙ c.deref-2.ensures.value) ∙ ap (λ (l : List PagePlace). free ++ map (λ (p : PagePlace). p.block) (filter (λ (p : PagePlace). is_left states p.set) l)) c.deref-3.ensures.value in
    let kept : c.in_ok-pages.pages.items ≡ filter (λ (p : PagePlace). not (is_left states p.set)) pages = c.in_ok-pages.ensures ∙ ap (filter (λ (p : PagePlace). not (is_left states p.set))) c.deref.ensures.value in
    record {
      kept = kept;
      rise = c.fall.ensures.rise;
      same = λ test. c.fall.ensures.same test ∙ ap (list_any test) all ∙ list_any-append test free (map (λ (p : PagePlace). p.block) (filter (λ (p : PagePlace). is_left states p.set) pages))
          ∙ ap (λ (b : Bool). b || list_any test (map (λ (p : PagePlace). p.block) (filter (λ (p : PagePlace). is_left states p.set) pages))) (list_any-IsPermutation test free (reverse free) (IsPermutation-reverse free))
          ∙ ap (λ (b : Bool). list_any test (reverse free) || b) (any_blocks test (λ (p : PagePlace). is_left states p.set) pages);
      few = few_left (λ (p : PagePlace). is_left states p.set) pages free c.in_ok-pages.pages.items c.fall.new.free.items c.add_left.new.free.items kept all c.fall.ensures.few;
    }
