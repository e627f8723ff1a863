-- The rows of type 1 of a side are the roots of its chains, and the rows of its root set lead to them.
use Rattle.std.proofs.Common.{◌≡◌, ℕ, nat_lt, Bool, true, false, cond, List, [], ◌∷◌, ◌++◌, map, drop, get_or, Option, None, Some, ◌⊎◌, inl, inr, refl, sym, ap, subst, ◌∙◌, arith}
use Rattle.std.specs.Prelude.{find}
use Rattle.std.specs.Cmp.{IsTotalOrder}
use Rattle.std.specs.Int.{w32, to_be_bytes}
use Rattle.std.specs.List.{list_all}
use Rattle.std.specs.Option.{option_map}
use Rattle.std.specs.Ordering.{is_lt, ordering_reverse}
use Rattle.std.specs.Str.{bytes_eq}
use Rattle.std.specs.declared.cmp.Ordering.{Ordering}
use Rattle.std.specs.declared.cmp.Ordering.TheVariants.{Less, Equal, Greater}
use Rattle.std.proofs.lemmas.Bool.{and_parts, ltb-true, false≢true}
use Rattle.std.proofs.lemmas.Slice.Eq.{bytes_eq-Decides}
use Rattle.hal_base.specs.declared.place.Ilk.{Ilk}
use Rattle.hal_schema.specs.declared.schema.Schema.{Schema}
use Rattle.hal_schema.specs.Facts.{SchemasAreKept}
use Rattle.hal_schema.specs.Roots.{anchor_place, root_cmp}
use Rattle.hal_schema.specs.Forest.{all_pairs}
use Rattle.forest_laws.proofs.Lists.{Among, among_passes, among_append, among_left, among_right, PairsParts, pairs_parts}
use Rattle.forest_laws.proofs.Names.{same_some}
use Rattle.record_walk.specs.Tree.{Occurrence, Twins, no_segment, segment, Chains, no_chain, chain, first_of, firsts_of, are_of, are_roots}
use Rattle.record_walk.specs.Listing.{Placed, placed, list_of, list_in}
use Rattle.record_walk.specs.Side.{RootRow, heads_of, heads_in, key_of, row_key_of, are_keyed, roots_rise}
use Rattle.record_walk.proofs.Levels.{typed, is_deep}
use Rattle.record_walk.proofs.Joined.{no_root, below_roots}
use Rattle.record_walk.proofs.Rising.{either}

-- ---- roots in the list

mutual
  pub heads_listed : (parent : Option Ilk) (twins : Twins) (u : Occurrence) → Among u (heads_of twins) → Among (placed parent u) (list_of parent twins)
  heads_listed parent no_segment u a = absurd a
  heads_listed parent (segment s below next) u (inl e) = inl (ap (placed parent) e)
  heads_listed parent (segment s below next) u (inr a) = inr (among_right (placed parent u) (list_in (Some s.name) below) (list_of parent next) (heads_listed parent next u a))

pub roots_listed : (trees : Chains) (u : Occurrence) → Among u (heads_in trees) → Among (placed None u) (list_in None trees)
roots_listed no_chain u a = absurd a
roots_listed (chain twins more) u a =
    either (λ l. among_left (placed None u) (list_of None twins) (list_in None more) (heads_listed None twins u l))
    (λ r. among_right (placed None u) (list_of None twins) (list_in None more) (roots_listed more u r)) (among_append u (heads_of twins) (heads_in more) a)

-- a row of the root type is one of these
pub record RootOf (roots : List Occurrence) (p : Placed) : Type 0 where
  pub root : Occurrence
  pub among : Among root roots
  pub is : placed None root ≡ p

wider : (few many : List Occurrence) (p : Placed) → ((u : Occurrence) → Among u few → Among u many) → RootOf few p → RootOf many p
wider few many p w r = record { root = r.root; among = w r.root r.among; is = r.is }

chain_roots : SchemasAreKept → (schema : Schema) (twins : Twins) → are_of schema.types 1 twins ≡ true → (p : Placed) → Among p (list_of None twins) → p.row.code ≡ 1 → RootOf (heads_of twins) p
chain_roots kept schema no_segment h p a e = absurd a
chain_roots kept schema (segment s below next) h p (inl same) e = record { root = s; among = inl refl; is = same }
chain_roots kept schema (segment s below next) h p (inr a) e =
    let t = typed schema.types 1 s below next h in
    either (λ l. absurd (no_root schema (kept schema) p (among_passes (is_deep schema.types 2) p (list_in (Some s.name) below) l (below_roots kept schema (Some s.name) below t.under)) e))
    (λ r. wider (heads_of next) (s ∷ heads_of next) p (λ u b. inr b) (chain_roots kept schema next t.later p r e)) (among_append p (list_in (Some s.name) below) (list_of None next) a)

pub root_rows : SchemasAreKept → (schema : Schema) (trees : Chains) → are_roots schema.types trees ≡ true → (p : Placed) → Among p (list_in None trees) → p.row.code ≡ 1 → RootOf (heads_in trees) p
root_rows kept schema no_chain h p a e = absurd a
root_rows kept schema (chain twins more) h p a e =
    let t = and_parts (are_of schema.types 1 twins) (are_roots schema.types more) h in
    either (λ l. wider (heads_of twins) (heads_of twins ++ heads_in more) p (λ u b. among_left u (heads_of twins) (heads_in more) b) (chain_roots kept schema twins t.0 p l e))
    (λ r. wider (heads_in more) (heads_of twins ++ heads_in more) p (λ u b. among_right u (heads_of twins) (heads_in more) b) (root_rows kept schema more t.1 p r e))
    (among_append p (list_of None twins) (list_in None more) a)

-- ---- the rows of a root set

abbrev homes : List RootRow → List ℕ
homes rows = map (λ (r : RootRow). r.home) rows

abbrev pub home_under : List ℕ → List RootRow → Option ℕ
home_under key rows = option_map (λ (r : RootRow). r.home) (find (λ (r : RootRow). bytes_eq r.key key) rows)

first_is : (a b : ℕ) (xs ys : List ℕ) → a ∷ xs ≡ b ∷ ys → a ≡ b
first_is a b xs ys e = ap (λ (l : List ℕ). get_or l 0 a) e

rest_is : (a b : ℕ) (xs ys : List ℕ) → a ∷ xs ≡ b ∷ ys → xs ≡ ys
rest_is a b xs ys e = ap (λ (l : List ℕ). drop 1 l) e

abbrev keyed : Schema → List ℕ → Occurrence → Bool
keyed schema key root = bytes_eq (row_key_of schema root) key

abbrev used : RootRow → Bool
used row = nat_lt 0 row.home

-- the first root of a chain to which a used row leads
record FirstOf (twins : Twins) (home : ℕ) : Type 0 where
  pub root : Occurrence
  pub rest : List Occurrence
  pub heads : heads_of twins ≡ root ∷ rest
  pub at : root.home ≡ home

first_root : (twins : Twins) (home : ℕ) → first_of twins ≡ home → nat_lt 0 home ≡ true → FirstOf twins home
first_root no_segment home e h = let l = ltb-true 0 home h in absurd (omega (arith, l, e))
first_root (segment s below next) home e h = record { root = s; rest = heads_of next; heads = refl; at = e }

-- the root to which a row leads
pub record Led (schema : Schema) (trees : Chains) (key : List ℕ) (home : ℕ) : Type 0 where
  pub root : Occurrence
  pub among : Among root (heads_in trees)
  pub at : root.home ≡ home
  pub keyed : row_key_of schema root ≡ key

pub row_leads : (schema : Schema) (rows : List RootRow) (trees : Chains) → firsts_of trees ≡ homes rows → are_keyed schema rows trees ≡ true → list_all used rows ≡ true → (key : List ℕ) (home : ℕ)
    → home_under key rows ≡ Some home → Led schema trees key home
row_leads schema [] trees lead keys some key home e = cc
row_leads schema (row ∷ rows) no_chain lead keys some key home e = absurd (false≢true keys)
row_leads schema (row ∷ rows) (chain twins more) lead keys some key home e =
    by (bytes_eq row.key key) refl e (row_leads schema rows more (rest_is (first_of twins) row.home (firsts_of more) (homes rows) lead) k.1 u.1 key home)
  where
    k : (list_all (keyed schema row.key) (heads_of twins) ≡ true) × (are_keyed schema rows more ≡ true)
    k = and_parts (list_all (keyed schema row.key) (heads_of twins)) (are_keyed schema rows more) keys

    u : (used row ≡ true) × (list_all used rows ≡ true)
    u = and_parts (used row) (list_all used rows) some

    by : (b : Bool) → bytes_eq row.key key ≡ b → option_map (λ (r : RootRow). r.home) (cond b (Some row) (find (λ (r : RootRow). bytes_eq r.key key) rows)) ≡ Some home → (home_under key rows ≡ Some home → Led schema more key home)
        → Led schema (chain twins more) key home
    by true same e later =
        let f = first_root twins row.home (first_is (first_of twins) row.home (firsts_of more) (homes rows) lead) u.0 in
        let m : Among f.root (heads_of twins) = subst (λ (l : List Occurrence). Among f.root l) (sym f.heads) (inl refl) in
        record {
          root = f.root;
          among = among_left f.root (heads_of twins) (heads_in more) m;
          at = f.at ∙ same_some row.home home e;
          keyed = (bytes_eq-Decides (row_key_of schema f.root) row.key).0 (among_passes (keyed schema row.key) f.root (heads_of twins) m k.0) ∙ (bytes_eq-Decides row.key key).0 same;
        }
    by false other e later =
        let l = later e in
        record { root = l.root; among = among_right l.root (heads_of twins) (heads_in more) l.among; at = l.at; keyed = l.keyed }

-- ---- in PHIDAM each root has a row

not_less : (o : Ordering) → o ≡ ordering_reverse o → is_lt o ≡ true → ⊥
not_less Less e h = let differ : Less ≡ Greater = e in cc
not_less Equal e h = absurd (false≢true h)
not_less Greater e h = absurd (false≢true h)

-- no root stands before one of its own key
not_before : (schema : Schema) → IsTotalOrder (root_cmp schema) → (a b : Occurrence) → key_of schema a ≡ key_of schema b → is_lt (root_cmp schema (key_of schema a) (key_of schema b)) ≡ true → ⊥
not_before schema total a b e h =
    not_less (root_cmp schema (key_of schema a) (key_of schema a)) (total.antisymm (key_of schema a) (key_of schema a)) (ap (λ (k : List ℕ). is_lt (root_cmp schema (key_of schema a) k)) e ∙ h)

own_key : (schema : Schema) → schema.phdam ≡ false → (root : Occurrence) → row_key_of schema root ≡ key_of schema root
own_key schema phidam root = ap (λ (b : Bool). cond b (to_be_bytes w32 (anchor_place schema (key_of schema root))) (key_of schema root)) phidam

same_keys : (schema : Schema) → schema.phdam ≡ false → (a b : Occurrence) → row_key_of schema a ≡ row_key_of schema b → key_of schema a ≡ key_of schema b
same_keys schema phidam a b e = sym (own_key schema phidam a) ∙ e ∙ own_key schema phidam b

-- the root is the first of a chain, or one behind it, or of a later chain
behind_first : (heads : List Occurrence) (rest more : List Occurrence) (first root : Occurrence) → heads ≡ first ∷ rest → Among root (heads ++ more) → (first ≡ root) ⊎ (Among root rest ⊎ Among root more)
behind_first heads rest more first root e a = by (subst (λ (l : List Occurrence). Among root (l ++ more)) e a)
  where
    by : Among root (first ∷ (rest ++ more)) → (first ≡ root) ⊎ (Among root rest ⊎ Among root more)
    by (inl s) = inl s
    by (inr b) = inr (among_append root rest more b)

pub root_has_row : (schema : Schema) → IsTotalOrder (root_cmp schema) → schema.phdam ≡ false → (rows : List RootRow) (trees : Chains) → firsts_of trees ≡ homes rows → are_keyed schema rows trees ≡ true
    → list_all used rows ≡ true → roots_rise schema (heads_in trees) ≡ true → (root : Occurrence) → Among root (heads_in trees) → home_under (row_key_of schema root) rows ≡ Some root.home
root_has_row schema total phidam [] no_chain lead keys some rise root a = absurd a
root_has_row schema total phidam [] (chain twins more) lead keys some rise root a = absurd (false≢true keys)
root_has_row schema total phidam (row ∷ rows) no_chain lead keys some rise root a = absurd a
root_has_row schema total phidam (row ∷ rows) (chain twins more) lead keys some rise root a =
    by (behind_first (heads_of twins) f.rest (heads_in more) f.root root f.heads a)
    (λ b. root_has_row schema total phidam rows more (rest_is (first_of twins) row.home (firsts_of more) (homes rows) lead) k.1 u.1 parts.back root b)
  where
    k : (list_all (keyed schema row.key) (heads_of twins) ≡ true) × (are_keyed schema rows more ≡ true)
    k = and_parts (list_all (keyed schema row.key) (heads_of twins)) (are_keyed schema rows more) keys

    u : (used row ≡ true) × (list_all used rows ≡ true)
    u = and_parts (used row) (list_all used rows) some

    f : FirstOf twins row.home
    f = first_root twins row.home (first_is (first_of twins) row.home (firsts_of more) (homes rows) lead) u.0

    parts : PairsParts (λ a b. is_lt (root_cmp schema (key_of schema a) (key_of schema b))) (heads_of twins) (heads_in more)
    parts = pairs_parts (λ a b. is_lt (root_cmp schema (key_of schema a) (key_of schema b))) (heads_of twins) (heads_in more) rise

    before : list_all (λ b. is_lt (root_cmp schema (key_of schema f.root) (key_of schema b))) (f.rest ++ heads_in more) ≡ true
    before =
        (and_parts (list_all (λ b. is_lt (root_cmp schema (key_of schema f.root) (key_of schema b))) (f.rest ++ heads_in more)) (all_pairs (λ a b. is_lt (root_cmp schema (key_of schema a) (key_of schema b))) (f.rest ++ heads_in more))
        (subst (λ (l : List Occurrence). roots_rise schema (l ++ heads_in more) ≡ true) f.heads rise)).0

    first_key : row_key_of schema f.root ≡ row.key
    first_key = (bytes_eq-Decides (row_key_of schema f.root) row.key).0 (among_passes (keyed schema row.key) f.root (heads_of twins) (subst (λ (l : List Occurrence). Among f.root l) (sym f.heads) (inl refl)) k.0)

    other : Among root (f.rest ++ heads_in more) → row_key_of schema f.root ≡ row_key_of schema root → ⊥
    other b e = not_before schema total f.root root (same_keys schema phidam f.root root e) (among_passes (λ c. is_lt (root_cmp schema (key_of schema f.root) (key_of schema c))) root (f.rest ++ heads_in more) b before)

    here : f.root ≡ root → home_under (row_key_of schema root) (row ∷ rows) ≡ Some root.home
    here same =
        ap (λ (b : Bool). option_map (λ (r : RootRow). r.home) (cond b (Some row) (find (λ (r : RootRow). bytes_eq r.key (row_key_of schema root)) rows)))
        ((bytes_eq-Decides row.key (row_key_of schema root)).1 (sym first_key ∙ ap (row_key_of schema) same))
        ∙ ap (λ (n : ℕ). Some n) (sym f.at ∙ ap (λ (o : Occurrence). o.home) same)

    later : Among root (heads_in more) → (b : Bool) → bytes_eq row.key (row_key_of schema root) ≡ b → home_under (row_key_of schema root) rows ≡ Some root.home
        → option_map (λ (r : RootRow). r.home) (cond b (Some row) (find (λ (r : RootRow). bytes_eq r.key (row_key_of schema root)) rows)) ≡ Some root.home
    later m true e h = absurd (other (among_right root f.rest (heads_in more) m) (first_key ∙ (bytes_eq-Decides row.key (row_key_of schema root)).0 e))
    later m false e h = h

    by : (f.root ≡ root) ⊎ (Among root f.rest ⊎ Among root (heads_in more)) → (Among root (heads_in more) → home_under (row_key_of schema root) rows ≡ Some root.home)
        → home_under (row_key_of schema root) (row ∷ rows) ≡ Some root.home
    by (inl same) more_has = here same
    by (inr (inl m)) more_has =
        absurd (other (among_left root f.rest (heads_in more) m)
        (first_key ∙ sym ((bytes_eq-Decides (row_key_of schema root) row.key).0 (among_passes (keyed schema row.key) root (heads_of twins) (subst (λ (l : List Occurrence). Among root l) (sym f.heads) (inr m)) k.0))))
    by (inr (inr m)) more_has = later m (bytes_eq row.key (row_key_of schema root)) refl (more_has m)
