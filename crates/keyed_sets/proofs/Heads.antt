-- The heads of a set's pages through changes of its pages.
use Rattle.std.proofs.Common.{◌≡◌, ℕ, zero, suc, ◌<◌, List, [], ◌∷◌, ◌++◌, length, set, Option, Some, None, inl, inr, refl, sym, ap, subst, ◌∙◌, arith}
use Rattle.std.specs.Prelude.{IfSome, slice_get}
use Rattle.std.specs.Option.{option_map}
use Rattle.std.proofs.lemmas.Bool.{cases_eq}
use Rattle.std.proofs.lemmas.Option.{same_Some, none-some, slice_get_within, slice_get_past}
use Rattle.std.proofs.lemmas.List.{length_push}
use Rattle.hal_base.specs.declared.pages.SetId.{SetId}
use Rattle.hal_base.specs.Pages.{SameHead, empty_page}
use Rattle.hal_base.specs.ShelfCalls.{ShelfView, SameHeads, KeepsHeads}

pub slice_set_other : {X : Type 0} (xs : List X) (k n : ℕ) (x : X) → (n ≡ k → ⊥) → slice_get (set xs k x) n ≡ slice_get xs n
slice_set_other [] zero n x apart = refl
slice_set_other [] (suc k) n x apart = refl
slice_set_other (y ∷ ys) zero zero x apart = absurd (apart refl)
slice_set_other (y ∷ ys) zero (suc n) x apart = refl
slice_set_other (y ∷ ys) (suc k) zero x apart = refl
slice_set_other (y ∷ ys) (suc k) (suc n) x apart = slice_set_other ys k n x (λ is. apart (ap suc is))

pub slice_set_here : {X : Type 0} (xs : List X) (k : ℕ) (x : X) → k < length xs → slice_get (set xs k x) k ≡ Some x
slice_set_here [] k x lt = absurd (omega (arith, lt))
slice_set_here (y ∷ ys) zero x lt = refl
slice_set_here (y ∷ ys) (suc k) x lt = slice_set_here ys k x (omega (arith, lt))

pub slice_push_old : {X : Type 0} (xs : List X) (y : X) (n : ℕ) → n < length xs → slice_get (xs ++ y ∷ []) n ≡ slice_get xs n
slice_push_old [] y n lt = absurd (omega (arith, lt))
slice_push_old (x ∷ xs) y zero lt = refl
slice_push_old (x ∷ xs) y (suc n) lt = slice_push_old xs y n (omega (arith, lt))

pub slice_push_new : {X : Type 0} (xs : List X) (y : X) → slice_get (xs ++ y ∷ []) (length xs) ≡ Some y
slice_push_new [] y = refl
slice_push_new (x ∷ xs) y = slice_push_new xs y

same_head_then : (a b c : List ℕ) → SameHead a b → SameHead b c → SameHead a c
same_head_then a b c first second = record { set = second.set ∙ first.set; rest = second.rest ∙ first.rest }

abbrev pub Kept : SetId → List (List ℕ) → List (List ℕ) → Type 0
Kept set old new = SameHeads SameHead 2 set old new

pub heads_same : (id : SetId) (pages : List (List ℕ)) → Kept id pages pages
heads_same id pages = record {
  kept = λ n page now is there. let same : page ≡ now = same_Some _ _ (sym is ∙ there) in subst (SameHead page) same (record { set = refl; rest = refl });
  begun = λ n now le there. absurd (none-some now (sym (slice_get_past pages n le) ∙ there));
}

-- a page more, without rows
pub heads_grown : (id : SetId) (pages : List (List ℕ)) (n : ℕ) → n ≡ length pages → Kept id pages (pages ++ empty_page 2 id n ∷ [])
heads_grown id pages n last = record {
  kept = λ m page now is there.
      let same : page ≡ now = same_Some _ _ (sym is ∙ sym (slice_push_old pages (empty_page 2 id n) m (slice_get_within pages m page is)) ∙ there) in
      subst (SameHead page) same (record { set = refl; rest = refl });
  begun = λ m now le there.
      let at : m ≡ length pages = omega (arith, le, slice_get_within (pages ++ empty_page 2 id n ∷ []) m now there, length_push pages (empty_page 2 id n)) in
      let same : empty_page 2 id n ≡ now = same_Some _ _ (sym (slice_push_new pages (empty_page 2 id n)) ∙ ap (slice_get (pages ++ empty_page 2 id n ∷ [])) (sym at) ∙ there) in
      subst (SameHead (empty_page 2 id m)) (ap (empty_page 2 id) (at ∙ sym last) ∙ same) (record { set = refl; rest = refl });
}

-- a page with the head of the one that was there
pub heads_put : (id : SetId) (old pages : List (List ℕ)) (k : ℕ) (was page : List ℕ) → Kept id old pages → slice_get pages k ≡ Some was → SameHead was page → Kept id old (set pages k page)
heads_put id old pages k was page heads read head = record {
  kept = λ n first now is there. elim (cases_eq n k) [
    | inl same ↦
        let new : page ≡ now = same_Some _ _ (sym (slice_set_here pages k page (slice_get_within pages k was read)) ∙ ap (slice_get (set pages k page)) (sym same) ∙ there) in
        subst (SameHead first) new (same_head_then first was page (heads.kept n first was is (ap (slice_get pages) same ∙ read)) head)
    | inr other ↦ heads.kept n first now is (sym (slice_set_other pages k n page other) ∙ there)
  ];
  begun = λ n now le there. elim (cases_eq n k) [
    | inl same ↦
        let new : page ≡ now = same_Some _ _ (sym (slice_set_here pages k page (slice_get_within pages k was read)) ∙ ap (slice_get (set pages k page)) (sym same) ∙ there) in
        subst (SameHead (empty_page 2 id n)) new (same_head_then (empty_page 2 id n) was page (heads.begun n was le (ap (slice_get pages) same ∙ read)) head)
    | inr other ↦ heads.begun n now le (sym (slice_set_other pages k n page other) ∙ there)
  ];
}

pub heads_told : (id : SetId) (before after : ShelfView) (f : List (List ℕ) → List (List ℕ)) → after.pages id ≡ option_map f (before.pages id) → ((pages : List (List ℕ)) → before.pages id ≡ Some pages → Kept id pages (f pages)) → KeepsHeads SameHead 2 id before after
heads_told id before after f is kept = each (before.pages id) (after.pages id) is kept
  where
    each : (old new : Option (List (List ℕ))) → new ≡ option_map f old → ((pages : List (List ℕ)) → old ≡ Some pages → Kept id pages (f pages)) → IfSome old (λ pages. IfSome new (Kept id pages))
    each None new is kept = tt
    each (Some pages) new is kept = subst (λ (o : Option (List (List ℕ))). IfSome o (Kept id pages)) (sym is) (kept pages refl)

map_none : (o : Option (List (List ℕ))) → o ≡ option_map (λ (pages : List (List ℕ)). pages) o
map_none None = refl
map_none (Some pages) = refl

pub heads_unchanged : (id : SetId) (before after : ShelfView) → after.pages id ≡ before.pages id → KeepsHeads SameHead 2 id before after
heads_unchanged id before after same = heads_told id before after (λ pages. pages) (same ∙ map_none (before.pages id)) (λ pages is. heads_same id pages)
