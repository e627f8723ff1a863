-- Changes whose numbers rise.
use Rattle.std.proofs.Common.{◌≡◌, ◌≢◌, inl, inr, ⊎_elim, ℕ, ◌+◌, ◌<◌, ◌≤◌, true, ◌&&◌, cond, nat_lt, nat_le, ◌==◌, List, [], ◌∷◌, ◌++◌, length, get_or, set, None, Some, Ordering, Less, Equal, Greater, refl, sym, ◌∙◌, ap, subst, arith, get_or-set_same, get_or-set_other}
use Rattle.std.specs.BTreeMap.{insert_entry, is_at}
use Rattle.std.specs.Cmp.{nat_cmp_is}
use Rattle.std.specs.Map.{lookup}
use Rattle.std.specs.Ordering.{nat_cmp, match_ordering, is_eq}
use Rattle.std.proofs.lemmas.Bool.{lt-ltb, le-leb, eq-eqb, cases_order, and_from}
use Rattle.std.proofs.lemmas.List.{set-set, set_comm, length-set}
use Rattle.std.proofs.lemmas.Option.{none-some, same_Some}
use Rattle.block_journal.specs.Change.{Change}
use Rattle.block_journal.specs.Redo.{put_all, are_changes}
use Rattle.block_journal.proofs.Changes.{IsNamed, put_all-other}
use Rattle.block_journal.specs.JournalLaw.{Parts, parts}

pub joined : (from count : ℕ) (c : Change) (cs : List Change) → Parts from count c cs → are_changes from count (c ∷ cs) ≡ true
unfolding are_changes
joined from count c cs p =
    and_from (nat_le from c.0 && nat_lt c.0 count && length c.1 == 4096) (are_changes (c.0 + 1) count cs)
    (and_from (nat_le from c.0 && nat_lt c.0 count) (length c.1 == 4096) (and_from (nat_le from c.0) (nat_lt c.0 count) (le-leb from c.0 p.low) (lt-ltb c.0 count p.high)) (eq-eqb (length c.1) 4096 p.whole)) p.rest

pub are_few : (from count : ℕ) (cs : List Change) → from ≤ count → are_changes from count cs ≡ true → length cs + from ≤ count
are_few from count [] le is = omega (arith, le)
are_few from count (c ∷ cs) le is =
    let p = parts from count c cs is in
    let rest = are_few (c.0 + 1) count cs (omega (arith, p.high)) p.rest in
    omega (arith, rest, p.low)

-- none has a lower number
named_from : (from count n : ℕ) (cs : List Change) → are_changes from count cs ≡ true → IsNamed n cs → from ≤ n
named_from from count n [] is named = absurd named
named_from from count n (c ∷ cs) is named =
    let p = parts from count c cs is in
    ⊎_elim (λ here. omega (arith, p.low, here)) (λ there. omega (arith, p.low, named_from (c.0 + 1) count n cs p.rest there)) named

pub not_named : (from count n : ℕ) (cs : List Change) → are_changes from count cs ≡ true → n < from → IsNamed n cs → ⊥
not_named from count n cs is lt named = omega (arith, lt, named_from from count n cs is named)

-- a block that isn't changed, set before the changes or after them
put_all-set : (cs : List Change) (blocks : List (List ℕ)) (n : ℕ) (b : List ℕ) → (IsNamed n cs → ⊥) → put_all cs (set blocks n b) ≡ set (put_all cs blocks) n b
unfolding put_all
put_all-set [] blocks n b lacks = refl
put_all-set (c ∷ cs) blocks n b lacks =
    let ne : n ≢ c.0 = λ is. lacks (inl (sym is)) in
    ap (λ (l : List (List ℕ)). put_all cs l) (set_comm blocks n c.0 b c.1 ne) ∙ put_all-set cs (set blocks c.0 c.1) n b (λ named. lacks (inr named))

pub other_is : (cs : List Change) (blocks : List (List ℕ)) (n : ℕ) → (IsNamed n cs → ⊥) → get_or (put_all cs blocks) n [] ≡ get_or blocks n []
other_is cs blocks n lacks = ⊎_elim (λ named. absurd (lacks named)) (λ is. is) (put_all-other cs blocks n)

is_none : (from count : ℕ) → are_changes from count [] ≡ true
unfolding are_changes
is_none from count = refl

-- where the next number begins
unfoldable pub least_of : ℕ → List Change → ℕ
least_of from [] = from
least_of from (c ∷ cs) = least_of (c.0 + 1) cs

least_low : (from count : ℕ) (cs : List Change) → are_changes from count cs ≡ true → from ≤ least_of from cs
unfolding least_of
least_low from count [] is = omega arith
least_low from count (c ∷ cs) is =
    let p = parts from count c cs is in
    omega (arith, p.low, least_low (c.0 + 1) count cs p.rest)

-- where the change of a number goes
abbrev with_change : Ordering → ℕ → List ℕ → Change → List Change → List Change
with_change o n b c cs = match_ordering o ((n, b) ∷ c ∷ cs) ((c.0, b) ∷ cs) (c ∷ insert_entry nat_cmp cs n b)

by_order : (n : ℕ) (c : Change) (P : Ordering → Type 0) → (n ≡ c.0 → P Equal) → (n < c.0 → P Less) → (c.0 < n → P Greater) → P (nat_cmp n c.0)
by_order n c P same less more = ⊎_elim
    (λ is. subst P (nat_cmp_is n c.0 Equal is) (same is))
    (⊎_elim (λ lt. subst P (nat_cmp_is n c.0 Less lt) (less lt)) (λ gt. subst P (nat_cmp_is n c.0 Greater gt) (more gt)))
    (cases_order n c.0)

-- the list with one more change
pub put_in_blocks : (from count n : ℕ) (b : List ℕ) (cs : List Change) (blocks : List (List ℕ)) → are_changes from count cs ≡ true → put_all (insert_entry nat_cmp cs n b) blocks ≡ set (put_all cs blocks) n b
unfolding put_all
put_in_blocks from count n b [] blocks is = refl
put_in_blocks from count n b (c ∷ cs) blocks is = by_order n c (λ o. put_all (with_change o n b c cs) blocks ≡ set (put_all cs (set blocks c.0 c.1)) n b)
    (λ same.
    let lacks : IsNamed n cs → ⊥ = not_named (c.0 + 1) count n cs p.rest (omega (arith, same)) in
    sym (sym (put_all-set cs (set blocks c.0 c.1) n b lacks) ∙ ap (λ (l : List (List ℕ)). put_all cs l) (ap (λ (k : ℕ). set (set blocks c.0 c.1) k b) same ∙ set-set blocks c.0 c.1 b)))
    (λ less. put_all-set (c ∷ cs) blocks n b (λ named. ⊎_elim (λ at. omega (arith, at, less)) (λ there. not_named (c.0 + 1) count n cs p.rest (omega (arith, less)) there) named))
    (λ more. put_in_blocks (c.0 + 1) count n b cs (set blocks c.0 c.1) p.rest)
  where
    p : Parts from count c cs
    p = parts from count c cs is

pub put_in_changes : (from count n : ℕ) (b : List ℕ) (cs : List Change) → from ≤ n → n < count → length b ≡ 4096 → are_changes from count cs ≡ true → are_changes from count (insert_entry nat_cmp cs n b) ≡ true
put_in_changes from count n b [] low high whole is = joined from count (n, b) [] (record { low = low; high = high; whole = whole; rest = is_none (n + 1) count })
put_in_changes from count n b (c ∷ cs) low high whole is = by_order n c (λ o. are_changes from count (with_change o n b c cs) ≡ true)
    (λ same. joined from count (c.0, b) cs (record { low = p.low; high = p.high; whole = whole; rest = p.rest }))
    (λ less. joined from count (n, b) (c ∷ cs) (record { low = low; high = high; whole = whole; rest = joined (n + 1) count c cs (record { low = omega (arith, less); high = p.high; whole = p.whole; rest = p.rest }) }))
    (λ more. joined from count c (insert_entry nat_cmp cs n b) (record { low = p.low; high = p.high; whole = p.whole; rest = put_in_changes (c.0 + 1) count n b cs (omega (arith, more)) high whole p.rest }))
  where
    p : Parts from count c cs
    p = parts from count c cs is

-- one behind all others
pub put_in_last : (from count n : ℕ) (b : List ℕ) (cs : List Change) → are_changes from count cs ≡ true → least_of from cs ≤ n → insert_entry nat_cmp cs n b ≡ cs ++ (n, b) ∷ []
unfolding least_of
put_in_last from count n b [] is low = refl
put_in_last from count n b (c ∷ cs) is low =
    let p = parts from count c cs is in
    let first : c.0 + 1 ≤ n = omega (arith, low, least_low (c.0 + 1) count cs p.rest) in
    by_order n c (λ o. with_change o n b c cs ≡ c ∷ (cs ++ (n, b) ∷ []))
    (λ same. absurd (omega (arith, same, first)))
    (λ less. absurd (omega (arith, less, first)))
    (λ more. ap (λ (l : List Change). c ∷ l) (put_in_last (c.0 + 1) count n b cs p.rest low))

-- the block of a number, where a change has it and where none has
pub changed_block : (n : ℕ) (b : List ℕ) (from count : ℕ) (cs : List Change) (blocks : List (List ℕ)) → are_changes from count cs ≡ true → n < length blocks → lookup (is_at (nat_cmp n)) cs ≡ Some b → get_or (put_all cs blocks) n [] ≡ b
unfolding put_all
changed_block n b from count [] blocks rise within is = absurd (none-some b is)
changed_block n b from count (c ∷ cs) blocks rise within is =
    let p = parts from count c cs rise in
    let next : lookup (is_at (nat_cmp n)) cs ≡ Some b → get_or (put_all cs (set blocks c.0 c.1)) n [] ≡ b = changed_block n b (c.0 + 1) count cs (set blocks c.0 c.1) p.rest (omega (arith, within, length-set blocks c.0 c.1)) in
    by_order n c (λ o. cond (is_eq o) (Some c.1) (lookup (is_at (nat_cmp n)) cs) ≡ Some b → get_or (put_all cs (set blocks c.0 c.1)) n [] ≡ b)
    (λ same found.
    let lacks : IsNamed n cs → ⊥ = not_named (c.0 + 1) count n cs p.rest (omega (arith, same)) in
    other_is cs (set blocks c.0 c.1) n lacks ∙ ap (λ (k : ℕ). get_or (set blocks k c.1) n []) (sym same) ∙ get_or-set_same blocks n c.1 [] within ∙ same_Some c.1 b found)
    (λ less. next)
    (λ more. next)
    is

pub unchanged_block : (n : ℕ) (cs : List Change) (blocks : List (List ℕ)) → lookup (is_at (nat_cmp n)) cs ≡ None → get_or (put_all cs blocks) n [] ≡ get_or blocks n []
unfolding put_all
unchanged_block n [] blocks is = refl
unchanged_block n (c ∷ cs) blocks is = by_order n c (λ o. cond (is_eq o) (Some c.1) (lookup (is_at (nat_cmp n)) cs) ≡ None → get_or (put_all cs (set blocks c.0 c.1)) n [] ≡ get_or blocks n [])
    (λ same found. absurd (none-some c.1 (sym found)))
    (λ less found. unchanged_block n cs (set blocks c.0 c.1) found ∙ get_or-set_other blocks c.0 n c.1 [] (λ same. omega (arith, same, less)))
    (λ more found. unchanged_block n cs (set blocks c.0 c.1) found ∙ get_or-set_other blocks c.0 n c.1 [] (λ same. omega (arith, same, more)))
    is
