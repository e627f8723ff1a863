-- In PHIDAM a root is found by its row.
use Rattle.std.proofs.Common.{◌≡◌, ℕ, ◌<◌, ◌==◌, nat_lt, Bool, true, false, not, cond, ◌&&◌, List, [], ◌∷◌, ◌++◌, map, Option, None, Some, refl, sym, ap, subst, ◌∙◌, arith}
use Rattle.std.specs.Prelude.{find}
use Rattle.std.specs.List.{list_all}
use Rattle.std.specs.Option.{option_map, option_map_or}
use Rattle.std.specs.Str.{bytes_eq}
use Rattle.std.proofs.lemmas.Bool.{and_parts, and_from, eq-eqb, not-true, not_from_false, ltb-true, false≢true, ne_eqb}
use Rattle.std.proofs.lemmas.List.{append-nil}
use Rattle.std.proofs.lemmas.Slice.Eq.{bytes_eq-Decides}
use Rattle.hal_schema.specs.declared.schema.Schema.{Schema}
use Rattle.hal_schema.specs.Facts.{SchemasAreKept}
use Rattle.std.specs.Int.{w32, to_be_bytes}
use Rattle.hal_schema.specs.Roots.{partition_of, anchor_place}
use Rattle.hal_schema.specs.Row.{row_key}
use Rattle.segment_blocks.specs.declared.tile.Cell.{Cell}
use Rattle.forest_laws.proofs.Lists.{all_weaker}
use Rattle.record_walk.specs.Tree.{Occurrence, Twins, no_segment, segment, Chains, no_chain, chain, first_of, firsts_of, cell_of, Hangs, HangIn, are_of, are_roots}
use Rattle.record_walk.specs.Listing.{Placed, placed, list_of, list_in}
use Rattle.record_walk.specs.Side.{RootRow, alone, seen, heads_of, heads_in, key_of, row_key_of, are_keyed, belongs}
use Rattle.record_walk.specs.ByKey.{home_where, is_root_where, RootsGoByRows}
use Rattle.record_walk.proofs.Levels.{typed, is_deep}
use Rattle.record_walk.proofs.Joined.{no_root, below_roots}

find_behind : {X : Type 0} (p : X → Bool) (xs ys : List X) → list_all (λ x. not (p x)) xs ≡ true → find p (xs ++ ys) ≡ find p ys
find_behind p [] ys h = refl
find_behind p (x ∷ xs) ys h =
    let a = and_parts (not (p x)) (list_all (λ y. not (p y)) xs) h in
    ap (λ (b : Bool). cond b (Some x) (find p (xs ++ ys))) (not-true (p x) a.0) ∙ find_behind p xs ys a.1

-- a root's chain has no other root, since its twin is seen as none
alone_twin : (cells : ℕ → Option Cell) (at : ℕ) (cell : Cell) → option_map alone (cells at) ≡ Some cell → cell.code ≡ 1 → cell.twin ≡ 0
alone_twin cells at cell e one = by (cells at) e
  where
    some_is : (a b : Cell) → Some a ≡ Some b → a ≡ b
    some_is a b is = cc

    of_cell : (c : Cell) (v : Bool) → (c.code == 1) ≡ v → cond v (record c { twin = 0 }) c ≡ cell → cell.twin ≡ 0
    of_cell c true k is = ap (λ (x : Cell). x.twin) (sym is)
    of_cell c false k is =
        let same : cell.code ≡ c.code = ap (λ (x : Cell). x.code) (sym is) in
        absurd (false≢true (sym k ∙ eq-eqb c.code 1 (sym same ∙ one)))

    by : (o : Option Cell) → option_map alone o ≡ Some cell → cell.twin ≡ 0
    by None f = let none : None ≡ Some cell = f in cc
    by (Some c) f = of_cell c (c.code == 1) refl (some_is (alone c) cell f)

none_behind : (cells : ℕ → Option Cell) (twins : Twins) → Hangs cells twins → first_of twins ≡ 0 → twins ≡ no_segment
none_behind cells no_segment h e = refl
none_behind cells (segment s below next) h e = let some = h.0 in absurd (omega (arith, some, e))

same_bytes : (a b : List ℕ) → bytes_eq a b ≡ true → a ≡ b
same_bytes a b e = (bytes_eq-Decides a b).0 e

not_one : (p : Placed) → (p.row.code ≡ 1 → ⊥) → not (p.row.code == 1) ≡ true
not_one p off = not_from_false (p.row.code == 1) (ne_eqb p.row.code 1 off)

-- a root's row in the list, what is below it, and the roots behind it
record RootAt (schema : Schema) (row : RootRow) (twins : Twins) : Type 0 where
  pub s : Occurrence
  pub low : List Placed
  pub list : list_of None twins ≡ placed None s ∷ low
  pub heads : heads_of twins ≡ s ∷ []
  pub code : s.code ≡ 1
  pub home : s.home ≡ row.home
  pub key : key_of schema s ≡ row.key
  pub deep : list_all (λ (p : Placed). not (p.row.code == 1)) low ≡ true

root_at : SchemasAreKept → (schema : Schema) → schema.phdam ≡ false → (cells : ℕ → Option Cell) (row : RootRow) (twins : Twins) → Hangs (seen schema.phdam cells) twins → are_of schema.types 1 twins ≡ true → first_of twins ≡ row.home → 0 < row.home
    → list_all (λ root. bytes_eq (row_key_of schema root) row.key) (heads_of twins) ≡ true → RootAt schema row twins
root_at kept schema kind cells row no_segment h t e some keyed = absurd (omega (arith, e, some))
root_at kept schema kind cells row (segment s below next) h t e some keyed =
    let y = typed schema.types 1 s below next t in
    let here : option_map alone (cells s.home) ≡ Some (cell_of s below next) = subst (λ (b : Bool). seen b cells s.home ≡ Some (cell_of s below next)) kind (h.1) in
    let none : next ≡ no_segment = none_behind (seen schema.phdam cells) next (h.3) (alone_twin cells s.home (cell_of s below next) here y.code_is) in
    let own = (and_parts (bytes_eq (row_key_of schema s) row.key) (list_all (λ root. bytes_eq (row_key_of schema root) row.key) (heads_of next)) keyed).0 in
    record {
      s = s;
      low = list_in (Some s.name) below;
      list = ap (λ (u : Twins). placed None s ∷ (list_in (Some s.name) below ++ list_of None u)) none ∙ ap (λ l. placed None s ∷ l) (append-nil (list_in (Some s.name) below));
      heads = ap (λ (u : Twins). s ∷ heads_of u) none;
      code = y.code_is;
      home = e;
      key = sym (ap (λ (b : Bool). cond b (to_be_bytes w32 (anchor_place schema (key_of schema s))) (key_of schema s)) kind) ∙ same_bytes (row_key_of schema s) row.key own;
      deep = all_weaker (is_deep schema.types 2) (λ (p : Placed). not (p.row.code == 1)) (λ p d. not_one p (no_root schema (kept schema) p d)) (list_in (Some s.name) below) (below_roots kept schema (Some s.name) below y.under);
    }

-- ---- the law

found_in : SchemasAreKept → (schema : Schema) → schema.phdam ≡ false → (cells : ℕ → Option Cell) (test : List ℕ → Bool) (rows : List RootRow) (trees : Chains) → HangIn (seen schema.phdam cells) trees → are_roots schema.types trees ≡ true
    → firsts_of trees ≡ map (λ (row : RootRow). row.home) rows → list_all (λ (row : RootRow). nat_lt 0 row.home) rows ≡ true → are_keyed schema rows trees ≡ true
    → home_where (is_root_where schema test) (list_in None trees) ≡ option_map (λ (row : RootRow). row.home) (find (λ (row : RootRow). test row.key) rows)
found_in kept schema kind cells test [] no_chain h t e used keyed = refl
found_in kept schema kind cells test [] (chain twins more) h t e used keyed = absurd (false≢true keyed)
found_in kept schema kind cells test (row ∷ rows) no_chain h t e used keyed = absurd (false≢true keyed)
found_in kept schema kind cells test (row ∷ rows) (chain twins more) h t e used keyed =
    let a = and_parts (are_of schema.types 1 twins) (are_roots schema.types more) t in
    let u = and_parts (nat_lt 0 row.home) (list_all (λ (r : RootRow). nat_lt 0 r.home) rows) used in
    let k = and_parts (list_all (λ root. bytes_eq (row_key_of schema root) row.key) (heads_of twins)) (are_keyed schema rows more) keyed in
    let x = root_at kept schema kind cells row twins (h.0) a.0 (head_is (first_of twins) row.home (firsts_of more) (map (λ (r : RootRow). r.home) rows) e) (ltb-true 0 row.home u.0) k.0 in
    let rest = found_in kept schema kind cells test rows more (h.1) a.1 (rest_is (first_of twins) row.home (firsts_of more) (map (λ (r : RootRow). r.home) rows) e) u.1 k.1 in
    ap (λ l. home_where (is_root_where schema test) (l ++ list_in None more)) x.list ∙ by x (test row.key) refl rest
  where
    head_is : (m n : ℕ) (xs ys : List ℕ) → m ∷ xs ≡ n ∷ ys → m ≡ n
    head_is m n xs ys is = cc

    rest_is : (m n : ℕ) (xs ys : List ℕ) → m ∷ xs ≡ n ∷ ys → xs ≡ ys
    rest_is m n xs ys is = cc

    by : (x : RootAt schema row twins) (b : Bool) → test row.key ≡ b → home_where (is_root_where schema test) (list_in None more) ≡ option_map (λ (r : RootRow). r.home) (find (λ (r : RootRow). test r.key) rows)
        → home_where (is_root_where schema test) (placed None x.s ∷ (x.low ++ list_in None more)) ≡ option_map (λ (r : RootRow). r.home) (cond (test row.key) (Some row) (find (λ (r : RootRow). test r.key) rows))
    by x b is rest =
        let root : is_root_where schema test (placed None x.s) ≡ b = ap (λ (n : ℕ). (n == 1) && test (key_of schema x.s)) x.code ∙ ap test x.key ∙ is in
        at b is root rest
      where
        behind : home_where (is_root_where schema test) (x.low ++ list_in None more) ≡ home_where (is_root_where schema test) (list_in None more)
        behind = ap (option_map (λ (p : Placed). p.home)) (find_behind (is_root_where schema test) x.low (list_in None more)
            (all_weaker (λ (p : Placed). not (p.row.code == 1)) (λ (p : Placed). not (is_root_where schema test p)) (λ p off. ap (λ (v : Bool). not (v && test (row_key schema.types p.row))) (not-true (p.row.code == 1) off)) x.low x.deep))

        at : (v : Bool) → test row.key ≡ v → is_root_where schema test (placed None x.s) ≡ v → home_where (is_root_where schema test) (list_in None more) ≡ option_map (λ (r : RootRow). r.home) (find (λ (r : RootRow). test r.key) rows)
            → home_where (is_root_where schema test) (placed None x.s ∷ (x.low ++ list_in None more)) ≡ option_map (λ (r : RootRow). r.home) (cond (test row.key) (Some row) (find (λ (r : RootRow). test r.key) rows))
        at true f g later =
            ap (λ (v : Bool). option_map (λ (p : Placed). p.home) (cond v (Some (placed None x.s)) (find (is_root_where schema test) (x.low ++ list_in None more)))) g ∙ ap (λ (n : ℕ). Some n) x.home
            ∙ sym (ap (λ (v : Bool). option_map (λ (r : RootRow). r.home) (cond v (Some row) (find (λ (r : RootRow). test r.key) rows))) f)
        at false f g later =
            ap (λ (v : Bool). option_map (λ (p : Placed). p.home) (cond v (Some (placed None x.s)) (find (is_root_where schema test) (x.low ++ list_in None more)))) g ∙ behind ∙ later
            ∙ sym (ap (λ (v : Bool). option_map (λ (r : RootRow). r.home) (cond v (Some row) (find (λ (r : RootRow). test r.key) rows))) f)

belong_in : SchemasAreKept → (schema : Schema) → schema.phdam ≡ false → (place : ℕ) (cells : ℕ → Option Cell) (rows : List RootRow) (trees : Chains) → HangIn (seen schema.phdam cells) trees → are_roots schema.types trees ≡ true
    → firsts_of trees ≡ map (λ (row : RootRow). row.home) rows → list_all (λ (row : RootRow). nat_lt 0 row.home) rows ≡ true → are_keyed schema rows trees ≡ true → list_all (belongs schema place) (heads_in trees) ≡ true
    → list_all (λ (row : RootRow). option_map_or (λ p. p == place) (partition_of schema row.key) false) rows ≡ true
belong_in kept schema kind place cells [] trees h t e used keyed b = refl
belong_in kept schema kind place cells (row ∷ rows) no_chain h t e used keyed b = absurd (false≢true keyed)
belong_in kept schema kind place cells (row ∷ rows) (chain twins more) h t e used keyed b =
    let a = and_parts (are_of schema.types 1 twins) (are_roots schema.types more) t in
    let u = and_parts (nat_lt 0 row.home) (list_all (λ (r : RootRow). nat_lt 0 r.home) rows) used in
    let k = and_parts (list_all (λ root. bytes_eq (row_key_of schema root) row.key) (heads_of twins)) (are_keyed schema rows more) keyed in
    let x = root_at kept schema kind cells row twins (h.0) a.0 (head_is (first_of twins) row.home (firsts_of more) (map (λ (r : RootRow). r.home) rows) e) (ltb-true 0 row.home u.0) k.0 in
    let own = and_parts (belongs schema place x.s) (list_all (belongs schema place) (heads_in more)) (ap (λ (l : List Occurrence). list_all (belongs schema place) (l ++ heads_in more)) (sym x.heads) ∙ b) in
    and_from (option_map_or (λ p. p == place) (partition_of schema row.key) false) (list_all (λ (r : RootRow). option_map_or (λ p. p == place) (partition_of schema r.key) false) rows)
    (ap (λ (key : List ℕ). option_map_or (λ p. p == place) (partition_of schema key) false) (sym x.key) ∙ own.0)
    (belong_in kept schema kind place cells rows more (h.1) a.1 (rest_is (first_of twins) row.home (firsts_of more) (map (λ (r : RootRow). r.home) rows) e) u.1 k.1 own.1)
  where
    head_is : (m n : ℕ) (xs ys : List ℕ) → m ∷ xs ≡ n ∷ ys → m ≡ n
    head_is m n xs ys is = cc

    rest_is : (m n : ℕ) (xs ys : List ℕ) → m ∷ xs ≡ n ∷ ys → xs ≡ ys
    rest_is m n xs ys is = cc

pub roots_go_by_rows : SchemasAreKept → RootsGoByRows
roots_go_by_rows kept schema place cells rows trees kind side = record {
  found = λ test. found_in kept schema kind cells test rows trees side.walked.hangs side.walked.typed side.walked.rows_lead side.rows_are_used side.walked.rows_are_keyed;
  belong = belong_in kept schema kind place cells rows trees side.walked.hangs side.walked.typed side.walked.rows_lead side.rows_are_used side.walked.rows_are_keyed side.walked.roots_belong;
}
