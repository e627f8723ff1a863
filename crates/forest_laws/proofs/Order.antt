-- The order of children and of twins, with a new row where it is inserted.
use Rattle.std.proofs.Common.{◌≡◌, ℕ, ◌+◌, ◌<◌, ◌≤◌, ◌==◌, nat_lt, nat_le, Bool, true, false, not, cond, ◌&&◌, ◌||◌, List, ◌∷◌, ◌++◌, Some, ◌⊎◌, inl, inr, refl, sym, ap, subst, ◌∙◌, arith}
use Rattle.std.specs.Cmp.{IsTotalOrder}
use Rattle.std.specs.List.{list_all}
use Rattle.std.specs.declared.cmp.Ordering.{Ordering}
use Rattle.std.specs.declared.cmp.Ordering.TheVariants.{Less, Equal, Greater}
use Rattle.std.specs.Ordering.{ordering_reverse, is_lt, is_le, is_eq}
use Rattle.std.proofs.lemmas.Bool.{and_parts, or_parts, or_cases, or_right, ltb-true, ltb-false, le-leb, leb-true, not-true, true≢false, both_ways}
use Rattle.std.proofs.lemmas.Cmp.{alike_right, nat_list_cmp_total}
use Rattle.std.proofs.lemmas.List.{append_assoc}
use Rattle.hal_schema.specs.declared.row.Row.{Row}
use Rattle.hal_schema.specs.declared.schema.Schema.{Schema}
use Rattle.hal_schema.specs.SegType.{level_of}
use Rattle.hal_schema.specs.Keys.{key_cmp}
use Rattle.hal_schema.specs.Roots.{root_cmp}
use Rattle.hal_schema.specs.Row.{same_parent, is_parent, are_twins, row_level, row_key}
use Rattle.hal_schema.specs.Forest.{all_pairs, in_type_order, in_twin_order, may_follow, has_unique_key, twin_cmp}
use Rattle.hal_schema.specs.Insertion.{is_twin_before, is_lower_child, stands_before, goes_before, is_first, has_free_key}
use Rattle.hal_schema.specs.Facts.{IsKept}
use Rattle.forest_laws.proofs.Lists.{Among, among_passes, among_append, among_left, among_right, among_middle, SplitAt, among_split, all_among, pairs_at, pairs_with}
use Rattle.forest_laws.proofs.Names.{parent_is, parents_are, parents_from, twins_are, twins_from, same_some, one_of_name, no_other}
use Rattle.forest_laws.proofs.Carried.{is_above}
use Rattle.forest_laws.proofs.Parents.{Parts, IsRootRow, ParentOf, parent_before, child_level, child_parent}
use Rattle.forest_laws.proofs.Place.{Behind, Placed}
use Rattle.forest_laws.proofs.NewRow.{NewUnder, stands_as}

-- ---- the two tests, as what they say

pub type_order_is : (a b : Row) → in_type_order a b ≡ true → a.parent ≡ b.parent → a.code ≤ b.code
type_order_is a b h e =
    elim (or_cases (not (same_parent a.parent b.parent)) (nat_le a.code b.code) h) [
      | inl apart ↦ absurd (both_ways (same_parent a.parent b.parent) (not-true (same_parent a.parent b.parent) apart) (parents_from a.parent b.parent e))
      | inr le ↦ leb-true a.code b.code le
    ]

pub type_order_from : (a b : Row) → (a.parent ≡ b.parent → a.code ≤ b.code) → in_type_order a b ≡ true
type_order_from a b h = by (same_parent a.parent b.parent) refl
  where
    by : (s : Bool) → same_parent a.parent b.parent ≡ s → (not s || nat_le a.code b.code) ≡ true
    by true e = or_right false (nat_le a.code b.code) (le-leb a.code b.code (h (parents_are a.parent b.parent e)))
    by false e = refl

pub twin_order_is : (schema : Schema) (a b : Row) → in_twin_order schema a b ≡ true → a.code ≡ b.code → a.parent ≡ b.parent → may_follow schema a b ≡ true
twin_order_is schema a b h e f =
    elim (or_cases (not (are_twins a b)) (may_follow schema a b) h) [
      | inl apart ↦ absurd (both_ways (are_twins a b) (not-true (are_twins a b) apart) (twins_from a b e f))
      | inr follows ↦ follows
    ]

pub twin_order_from : (schema : Schema) (a b : Row) → (a.code ≡ b.code → a.parent ≡ b.parent → may_follow schema a b ≡ true) → in_twin_order schema a b ≡ true
twin_order_from schema a b h = by (are_twins a b) refl
  where
    by : (s : Bool) → are_twins a b ≡ s → (not s || may_follow schema a b) ≡ true
    by true e = let t = twins_are a b e in or_right false (may_follow schema a b) (h t.0 t.1)
    by false e = refl

-- ---- comparing twins

-- how the keys of two rows of a type compare
abbrev order_at : Schema → ℕ → List ℕ → List ℕ → Ordering
order_at schema code a b = cond (code == 1) (root_cmp schema a b) (key_cmp a b)

abbrev follows : Schema → ℕ → List ℕ → List ℕ → Bool
follows schema code a b = cond (has_unique_key schema.types code) (is_lt (order_at schema code a b)) (is_le (order_at schema code a b))

order_by : (b : Bool) (R S : List ℕ → List ℕ → Ordering) → IsTotalOrder R → IsTotalOrder S → IsTotalOrder (λ x y. cond b (R x y) (S x y))
order_by true R S r s = record { antisymm = r.antisymm; trans = r.trans; congr = r.congr }
order_by false R S r s = record { antisymm = s.antisymm; trans = s.trans; congr = s.congr }

pub order_total : (schema : Schema) → IsTotalOrder (root_cmp schema) → (code : ℕ) → IsTotalOrder (order_at schema code)
order_total schema roots code = order_by (code == 1) (root_cmp schema) key_cmp roots nat_list_cmp_total

less_is : (o : Ordering) → is_lt o ≡ true → o ≡ Less
less_is Less h = refl
less_is Equal h = cc
less_is Greater h = cc

le_trans : (R : List ℕ → List ℕ → Ordering) → IsTotalOrder R → (x y z : List ℕ) (o p : Ordering) → R x y ≡ o → R y z ≡ p → is_le o ≡ true → is_le p ≡ true → is_le (R x z) ≡ true
le_trans R t x y z Less Less e f a b = ap is_le (t.trans x y z e f)
le_trans R t x y z Less Equal e f a b = ap is_le (sym (alike_right t y z x f) ∙ e)
le_trans R t x y z Less Greater e f a b = cc
le_trans R t x y z Equal p e f a b = ap is_le (t.congr x y z e ∙ f) ∙ b
le_trans R t x y z Greater p e f a b = cc

follow_by : (u : Bool) (R : List ℕ → List ℕ → Ordering) → IsTotalOrder R → (x y z : List ℕ) → cond u (is_lt (R x y)) (is_le (R x y)) ≡ true → cond u (is_lt (R y z)) (is_le (R y z)) ≡ true → cond u (is_lt (R x z)) (is_le (R x z)) ≡ true
follow_by true R t x y z a b = ap is_lt (t.trans x y z (less_is (R x y) a) (less_is (R y z) b))
follow_by false R t x y z a b = le_trans R t x y z (R x y) (R y z) refl refl a b

pub follow_trans : (schema : Schema) → IsTotalOrder (root_cmp schema) → (a b c : Row) → a.code ≡ b.code → may_follow schema a b ≡ true → may_follow schema b c ≡ true → may_follow schema a c ≡ true
follow_trans schema roots a b c e f g =
    let k = row_key schema.types in
    follow_by (has_unique_key schema.types a.code) (order_at schema a.code) (order_total schema roots a.code) (k a) (k b) (k c) f
    (subst (λ (n : ℕ). follows schema n (k b) (k c) ≡ true) (sym e) g)

before_follows : (u first : Bool) (o : Ordering) → goes_before first o ≡ true → (u ≡ true → is_eq o ≡ false) → cond u (is_lt o) (is_le o) ≡ true
before_follows true first Less h free = refl
before_follows true first Equal h free = sym (free refl)
before_follows true first Greater h free = h
before_follows false first Less h free = refl
before_follows false first Equal h free = refl
before_follows false first Greater h free = h

behind_follows : (u first : Bool) (o : Ordering) → goes_before first o ≡ false → (u ≡ true → is_eq o ≡ false) → cond u (is_lt (ordering_reverse o)) (is_le (ordering_reverse o)) ≡ true
behind_follows u first Less h free = cc
behind_follows true first Equal h free = sym (free refl)
behind_follows true first Greater h free = refl
behind_follows false first Equal h free = refl
behind_follows false first Greater h free = refl

-- a unique key that is free is no twin's
free_at : (schema : Schema) (rows : List Row) (new row : Row) → has_free_key schema rows new ≡ true → Among row rows → row.code ≡ new.code → row.parent ≡ new.parent → has_unique_key schema.types new.code ≡ true → is_eq (twin_cmp schema row new) ≡ false
free_at schema rows new row h among e f unique =
    elim (or_cases (not (has_unique_key schema.types new.code)) (list_all (λ row. not (are_twins row new && is_eq (twin_cmp schema row new))) rows) h) [
      | inl no_key ↦ absurd (both_ways (has_unique_key schema.types new.code) (not-true (has_unique_key schema.types new.code) no_key) unique)
      | inr all ↦ by (is_eq (twin_cmp schema row new)) (twins_from row new e f) (not-true (are_twins row new && is_eq (twin_cmp schema row new)) (among_passes (λ row. not (are_twins row new && is_eq (twin_cmp schema row new))) row rows among all))
    ]
  where
    by : (b : Bool) → are_twins row new ≡ true → (are_twins row new && b) ≡ false → b ≡ false
    by true twins fails = absurd (true≢false (sym twins ∙ alone (are_twins row new) fails))
      where
        alone : (t : Bool) → (t && true) ≡ false → t ≡ false
        alone true h = h
        alone false h = refl
    by false twins fails = refl

-- a twin that must stand before the new row may be followed by it
pub before_new : (schema : Schema) (rows : List Row) (new row : Row) → has_free_key schema rows new ≡ true → Among row rows → is_twin_before schema new row ≡ true → may_follow schema row new ≡ true
before_new schema rows new row free among h =
    let a = and_parts (are_twins row new) (goes_before (is_first schema new.code) (twin_cmp schema row new)) h in
    let t = twins_are row new a.0 in
    before_follows (has_unique_key schema.types row.code) (is_first schema new.code) (twin_cmp schema row new) a.1
    (λ u. free_at schema rows new row free among t.0 t.1 (ap (has_unique_key schema.types) (sym t.0) ∙ u))

pub behind_new : (schema : Schema) → IsTotalOrder (root_cmp schema) → (rows : List Row) (new row : Row) → has_free_key schema rows new ≡ true → Among row rows → row.code ≡ new.code → row.parent ≡ new.parent → is_twin_before schema new row ≡ false → may_follow schema new row ≡ true
behind_new schema roots rows new row free among e f h =
    let k = row_key schema.types in
    let twins = twins_from row new e f in
    let late : goes_before (is_first schema new.code) (twin_cmp schema row new) ≡ false = sym (ap (λ b. b && goes_before (is_first schema new.code) (twin_cmp schema row new)) twins) ∙ h in
    let turned : order_at schema new.code (k new) (k row) ≡ ordering_reverse (twin_cmp schema row new) =
    (order_total schema roots new.code).antisymm (k new) (k row) ∙ ap (λ (n : ℕ). ordering_reverse (order_at schema n (k row) (k new))) (sym e) in
    subst (λ (o : Ordering). cond (has_unique_key schema.types new.code) (is_lt o) (is_le o) ≡ true) (sym turned)
    (behind_follows (has_unique_key schema.types new.code) (is_first schema new.code) (twin_cmp schema row new) late (free_at schema rows new row free among e f))

-- ---- the rows around the new one

-- a row with the new one's parent has its level
pub beside_level : (schema : Schema) (rows : List Row) (new row : Row) → IsKept schema → Parts schema rows → NewUnder schema.types rows new → Among row rows → row.parent ≡ new.parent → row_level schema.types row ≡ row_level schema.types new
beside_level schema rows new row kept parts under among e = at (among_split row rows among)
  where
    at_parent : (front behind : List Row) → rows ≡ front ++ row ∷ behind → NewUnder schema.types rows new → IsRootRow row ⊎ ParentOf schema front row → row_level schema.types row ≡ row_level schema.types new
    at_parent front behind split (inl root) (inl own) = ap (level_of schema.types) (own.0 ∙ sym root.0)
    at_parent front behind split (inl root) (inr of) = let f = child_parent schema.types of.above row of.child in let g = root.1 in cc
    at_parent front behind split (inr p) (inl own) = let f = child_parent schema.types p.0 new p.2 in let g = own.1 in cc
    at_parent front behind split (inr p) (inr of) =
        let q = of.above in
        let k = of.kept in
        let named : q.name ≡ p.0.name = same_some q.name p.0.name (sym (child_parent schema.types q row of.child) ∙ e ∙ child_parent schema.types p.0 new p.2) in
        let here : Among q rows = subst (λ (l : List Row). Among q l) (sym (split ∙ ap (λ (l : List Row). l ++ row ∷ behind) k.split)) (among_left q (k.front ++ q ∷ k.behind) (row ∷ behind) (among_middle q k.front k.behind)) in
        let same : q ≡ p.0 = one_of_name rows q p.0 parts.named here p.1 named in
        child_level schema kept q row of.child ∙ ap (λ (r : Row). row_level schema.types r + 1) same ∙ sym (child_level schema kept p.0 new p.2)

    at : SplitAt row rows → row_level schema.types row ≡ row_level schema.types new
    at s = at_parent s.front s.behind s.split under (parent_before schema s.front s.behind row (subst (Parts schema) s.split parts))

-- no child stands before its parent
pub no_child_before : (schema : Schema) (front behind : List Row) (above row : Row) → Parts schema (front ++ above ∷ behind) → Among row front ⊎ (row ≡ above) → row.parent ≡ Some above.name → ⊥
no_child_before schema front behind above row parts h e = elim h [ inl among ↦ early (among_split row front among) | inr same ↦ itself same ]
  where
    from_kept : (part : List Row) → ((q : Row) → Among q part → Among q front) → IsRootRow row ⊎ ParentOf schema part row → ⊥
    from_kept part within (inl root) = let f = root.1 in cc
    from_kept part within (inr of) =
        let q = of.above in
        let k = of.kept in
        no_other front behind above q parts.named (inl (within q (subst (λ (l : List Row). Among q l) (sym k.split) (among_middle q k.front k.behind))))
        (same_some q.name above.name (sym (child_parent schema.types q row of.child) ∙ e))

    early : SplitAt row front → ⊥
    early s =
        let split : front ++ above ∷ behind ≡ s.front ++ row ∷ (s.behind ++ above ∷ behind) = ap (λ (l : List Row). l ++ above ∷ behind) s.split ∙ append_assoc s.front (row ∷ s.behind) (above ∷ behind) in
        from_kept s.front (λ q a. subst (λ (l : List Row). Among q l) (sym s.split) (among_left q s.front (row ∷ s.behind) a)) (parent_before schema s.front (s.behind ++ above ∷ behind) row (subst (Parts schema) split parts))

    itself : row ≡ above → ⊥
    itself same = from_kept front (λ q a. a) (parent_before schema front behind row (subst (λ (r : Row). Parts schema (front ++ r ∷ behind)) (sym same) parts))

-- what stands before the new row may
abbrev pub MayPrecede : Schema → Row → Row → Type 0
MayPrecede schema a b = (a.parent ≡ b.parent → a.code ≤ b.code) × (a.code ≡ b.code → a.parent ≡ b.parent → may_follow schema a b ≡ true)

abbrev pub Stands : Schema → Row → Row → Type 0
Stands schema new row = (is_parent row new ≡ true) ⊎ ((row.parent ≡ new.parent) × ((row.code < new.code) ⊎ (is_twin_before schema new row ≡ true)))

pub record Around (schema : Schema) (rows : List Row) (new : Row) : Type 0 where
  pub kept : IsKept schema
  pub roots : IsTotalOrder (root_cmp schema)
  pub parts : Parts schema rows
  pub under : NewUnder schema.types rows new
  pub free : has_free_key schema rows new ≡ true
  pub place : Placed schema rows new

-- a deeper row has another parent
deeper_precedes : (schema : Schema) (rows : List Row) (new row : Row) → Around schema rows new → Among row rows → is_above (row_level schema.types) new row ≡ true → row.parent ≡ new.parent → ⊥
deeper_precedes schema rows new row a among deeper e =
    let l = ltb-true (row_level schema.types new) (row_level schema.types row) deeper in
    let same = beside_level schema rows new row a.kept a.parts a.under among e in
    absurd (omega (arith, l, same))

-- the last row that must stand before the new one, beside it
last_precedes : (schema : Schema) (rows : List Row) (new row : Row) → Around schema rows new → Among row rows → (row.code < new.code) ⊎ (is_twin_before schema new row ≡ true) → MayPrecede schema row new
last_precedes schema rows new row a among (inl lower) = (λ e. omega arith, λ c e. absurd (omega (arith, lower, c)))
last_precedes schema rows new row a among (inr twin) =
    let t = twins_are row new (and_parts (are_twins row new) (goes_before (is_first schema new.code) (twin_cmp schema row new)) twin).0 in
    (λ e. let c = t.0 in omega arith, λ c e. before_new schema rows new row a.free among twin)

-- a row before it, beside it
beside_precedes : (schema : Schema) (rows : List Row) (new last row : Row) → Around schema rows new → Among last rows → last.parent ≡ new.parent → (last.code < new.code) ⊎ (is_twin_before schema new last ≡ true) → in_type_order row last ≡ true → in_twin_order schema row last ≡ true → MayPrecede schema row new
beside_precedes schema rows new last row a among sibling stands types twins = by stands (last_precedes schema rows new last a among stands)
  where
    by : (last.code < new.code) ⊎ (is_twin_before schema new last ≡ true) → MayPrecede schema last new → MayPrecede schema row new
    by (inl lower) p = (
      λ e. let le = type_order_is row last types (e ∙ sym sibling) in omega (arith, le, lower),
      λ c e. let le = type_order_is row last types (e ∙ sym sibling) in absurd (omega (arith, le, lower, c)),
    )
    by (inr twin) p =
        let t = twins_are last new (and_parts (are_twins last new) (goes_before (is_first schema new.code) (twin_cmp schema last new)) twin).0 in (
          λ e. let le = type_order_is row last types (e ∙ sym sibling) in let c = t.0 in omega (arith, le, c),
          λ c e. follow_trans schema a.roots row last new (c ∙ sym t.0) (twin_order_is schema row last twins (c ∙ sym t.0) (e ∙ sym sibling)) (p.1 t.0 sibling),
        )

behind_precedes : (schema : Schema) (rows front back : List Row) (new row : Row) → Around schema rows new → rows ≡ front ++ back → Behind schema new front → Among row front → MayPrecede schema row new
behind_precedes schema rows front back new row a split b among = by (stands_as schema new b.last b.stands) (among_append row b.head (b.last ∷ b.tail) (subst (λ (l : List Row). Among row l) b.split among))
  where
    all : rows ≡ b.head ++ b.last ∷ (b.tail ++ back)
    all = split ∙ ap (λ (l : List Row). l ++ back) b.split ∙ append_assoc b.head (b.last ∷ b.tail) back

    parts : Parts schema (b.head ++ b.last ∷ (b.tail ++ back))
    parts = subst (Parts schema) all a.parts

    in_rows : (r : Row) → Among r front → Among r rows
    in_rows r h = subst (λ (l : List Row). Among r l) (sym split) (among_left r front back h)

    here : Among b.last rows
    here = subst (λ (l : List Row). Among b.last l) (sym all) (among_middle b.last b.head (b.tail ++ back))

    deep : Among row b.tail → MayPrecede schema row new
    deep h =
        let d = deeper_precedes schema rows new row a (in_rows row among) (among_passes (is_above (row_level schema.types) new) row b.tail h b.deeper) in
        (λ e. absurd (d e), λ c e. absurd (d e))

    no_child : is_parent b.last new ≡ true → Among row b.head ⊎ (row ≡ b.last) → MayPrecede schema row new
    no_child parent h =
        let d : row.parent ≡ new.parent → ⊥ = λ e. no_child_before schema b.head (b.tail ++ back) b.last row parts h (e ∙ parent_is b.last new parent) in
        (λ e. absurd (d e), λ c e. absurd (d e))

    by : Stands schema new b.last → Among row b.head ⊎ Among row (b.last ∷ b.tail) → MayPrecede schema row new
    by s (inr (inr h)) = deep h
    by (inl parent) (inl h) = no_child parent (inl h)
    by (inl parent) (inr (inl e)) = no_child parent (inr (sym e))
    by (inr s) (inl h) =
        beside_precedes schema rows new b.last row a here s.0 s.1
        (among_passes (λ r. in_type_order r b.last) row b.head h (pairs_at in_type_order b.head (b.tail ++ back) b.last parts.types).before)
        (among_passes (λ r. in_twin_order schema r b.last) row b.head h (pairs_at (in_twin_order schema) b.head (b.tail ++ back) b.last parts.twins).before)
    by (inr s) (inr (inl e)) = subst (λ (r : Row). MayPrecede schema r new) e (last_precedes schema rows new b.last a here s.1)

pub front_precedes : (schema : Schema) (rows : List Row) (new row : Row) → (a : Around schema rows new) → Among row a.place.front → MayPrecede schema row new
front_precedes schema rows new row a among = by a.place.last
  where
    by : Behind schema new a.place.front ⊎ (list_all (is_above (row_level schema.types) new) a.place.front ≡ true) → MayPrecede schema row new
    by (inl b) = behind_precedes schema rows a.place.front a.place.back new row a a.place.split b among
    by (inr deeper) =
        let here = subst (λ (l : List Row). Among row l) (sym a.place.split) (among_left row a.place.front a.place.back among) in
        let d = deeper_precedes schema rows new row a here (among_passes (is_above (row_level schema.types) new) row a.place.front among deeper) in
        (λ e. absurd (d e), λ c e. absurd (d e))

-- what stands behind the new row may
pub back_follows : (schema : Schema) (rows : List Row) (new row : Row) → (a : Around schema rows new) → Among row a.place.back → MayPrecede schema new row
back_follows schema rows new row a among =
    let stays = not-true (stands_before schema new row) (among_passes (λ row. not (stands_before schema new row)) row a.place.back among a.place.behind) in
    let o = or_parts (is_parent row new || is_lower_child new row) (is_twin_before schema new row) stays in
    let p = or_parts (is_parent row new) (is_lower_child new row) o.0 in
    let here = subst (λ (l : List Row). Among row l) (sym a.place.split) (among_right row a.place.front a.place.back among) in (
      λ e.
          let lower : nat_lt row.code new.code ≡ false = sym (ap (λ b. b && nat_lt row.code new.code) (parents_from row.parent new.parent (sym e))) ∙ p.1 in
          ltb-false row.code new.code lower,
      λ c e. behind_new schema a.roots rows new row a.free here (sym c) (sym e) o.1,
    )

pub types_with : (schema : Schema) (rows : List Row) (new : Row) → (a : Around schema rows new) → all_pairs in_type_order (a.place.front ++ new ∷ a.place.back) ≡ true
types_with schema rows new a =
    pairs_with in_type_order a.place.front a.place.back new (subst (λ (l : List Row). all_pairs in_type_order l ≡ true) a.place.split a.parts.types)
    (all_among (λ r. in_type_order r new) a.place.front (λ r h. type_order_from r new (front_precedes schema rows new r a h).0))
    (all_among (in_type_order new) a.place.back (λ r h. type_order_from new r (back_follows schema rows new r a h).0))

pub twins_with : (schema : Schema) (rows : List Row) (new : Row) → (a : Around schema rows new) → all_pairs (in_twin_order schema) (a.place.front ++ new ∷ a.place.back) ≡ true
twins_with schema rows new a =
    pairs_with (in_twin_order schema) a.place.front a.place.back new (subst (λ (l : List Row). all_pairs (in_twin_order schema) l ≡ true) a.place.split a.parts.twins)
    (all_among (λ r. in_twin_order schema r new) a.place.front (λ r h. twin_order_from schema r new (front_precedes schema rows new r a h).1))
    (all_among (in_twin_order schema new) a.place.back (λ r h. twin_order_from schema new r (back_follows schema rows new r a h).1))
