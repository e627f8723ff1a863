-- A change of one side is the same change of all rows.
use Rattle.std.proofs.Common.{◌≡◌, ℕ, zero, suc, ◌+◌, ◌<◌, ◌≤◌, ◌==◌, nat_lt, nat_le, Bool, true, false, not, cond, ◌&&◌, ◌||◌, List, [], ◌∷◌, ◌++◌, length, drop, None, Some, ◌⊎◌, inl, inr, refl, sym, ap, subst, ◌∙◌, arith}
use Rattle.std.specs.Cmp.{IsTotalOrder}
use Rattle.std.specs.List.{list_all, list_any, prefix_len, AllByRecursion}
use Rattle.std.specs.declared.cmp.Ordering.{Ordering}
use Rattle.std.specs.declared.cmp.Ordering.TheVariants.{Less, Equal, Greater}
use Rattle.std.specs.Ordering.{is_lt, ordering_reverse}
use Rattle.std.proofs.lemmas.Bool.{and_parts, or_right, eq-eqb, ne_eqb, leb-true, le-leb, ltb-true, ltb-false, le-ltb, not-true, both_ways}
use Rattle.std.proofs.lemmas.List.{append_assoc}
use Rattle.hal_base.specs.declared.place.Ilk.{Ilk}
use Rattle.hal_schema.specs.declared.row.Row.{Row}
use Rattle.hal_schema.specs.declared.schema.SegType.{SegType}
use Rattle.hal_schema.specs.declared.schema.Schema.{Schema}
use Rattle.hal_schema.specs.Facts.{SchemasAreKept}
use Rattle.hal_schema.specs.Forest.{all_pairs, names_apart, twin_cmp}
use Rattle.hal_schema.specs.Insertion.{inserted, stands_before, is_lower_child, is_twin_before, goes_before, is_first}
use Rattle.hal_schema.specs.Keys.{key_cmp}
use Rattle.hal_schema.specs.Roots.{root_cmp}
use Rattle.hal_schema.specs.Row.{same_name, same_parent, is_parent, row_level}
use Rattle.hal_schema.specs.SegType.{level_of}
use Rattle.hal_schema.specs.Span.{is_deeper, without_span, replaced, with_content}
use Rattle.hal_schema.proofs.RowNames.{name_is}
use Rattle.forest_laws.proofs.Lists.{Among, among_passes, among_append, among_left, among_right, all_append, all_parts, all_among, all_weaker, pairs_parts, front_of, LastOf, NoneOf, last_of, drop_front}
use Rattle.forest_laws.proofs.Names.{parents_are, apart_names, same_some}
use Rattle.record_walk.specs.Tree.{Occurrence, Twins, no_segment, segment, Chains, no_chain, chain, are_of, are_roots}
use Rattle.record_walk.specs.Listing.{Placed, placed, list_of, list_in, rows_of}
use Rattle.record_walk.specs.Named.{begins_upto}
use Rattle.record_walk.specs.Side.{heads_of, heads_in, key_of}
use Rattle.record_walk.specs.Volume.{PlacedSide, listed, all_before}
use Rattle.record_walk.specs.Spans.{starts_upto}
use Rattle.record_walk.specs.OneSide.{rows_in, rows_in_all, IsAmong, HasName, StandsInSide, ChangesOfOneSide}
use Rattle.record_walk.proofs.Levels.{typed, is_deep, deep, deep_in, starts_in, ones, ones_level, roots_typed}
use Rattle.record_walk.proofs.OnLists.{deepens}
use Rattle.record_walk.proofs.ByName.{append_rows, inserted_between}
use Rattle.record_walk.proofs.Rising.{either, Under, Top, Inner, under_in, root_codes}
use Rattle.record_walk.proofs.Joined.{joined, beside_heads, joined_list, joined_typed, sides_typed, rows_pass, below_roots}
use Rattle.record_walk.proofs.RecordOf.{among_row, listed_append}

-- ---- spans and contents of a part

prefix_at : {X : Type 0} (p : X → Bool) (xs ys : List X) → list_all p xs ≡ true → ((x : X) (more : List X) → ys ≡ x ∷ more → p x ≡ false) → prefix_len p (xs ++ ys) ≡ length xs
prefix_at p [] [] all stops = refl
prefix_at p [] (y ∷ ys) all stops = ap (λ (b : Bool). cond {A = ℕ} b (1 + prefix_len p ys) 0) (stops y ys refl)
prefix_at p (x ∷ xs) ys all stops =
    let a = and_parts (p x) (list_all p xs) all in
    let e = prefix_at p xs ys a.1 stops in
    ap (λ (b : Bool). cond {A = ℕ} b (1 + prefix_len p (xs ++ ys)) 0) a.0 ∙ omega (arith, e)

-- the rest behind a prefix, where what follows doesn't go on with it
dropped : {X : Type 0} (p : X → Bool) (xs ys : List X) → ((x : X) (more : List X) → ys ≡ x ∷ more → p x ≡ false) → drop (prefix_len p (xs ++ ys)) (xs ++ ys) ≡ drop (prefix_len p xs) xs ++ ys
dropped {X} p xs ys stops =
    let f = front_of p xs in
    let whole : xs ++ ys ≡ f.passing ++ (f.rest ++ ys) = ap (λ l. l ++ ys) f.split ∙ append_assoc f.passing f.rest ys in
    let long = prefix_at p f.passing (f.rest ++ ys) f.pass (off f.rest f.stops) in
    ap (λ l. drop (prefix_len p l) l) whole ∙ ap (λ (n : ℕ). drop n (f.passing ++ (f.rest ++ ys))) long ∙ drop_front f.passing (f.rest ++ ys)
    ∙ sym (ap (λ l. l ++ ys) (ap (λ (n : ℕ). drop n xs) f.long ∙ ap (λ l. drop (length f.passing) l) f.split ∙ drop_front f.passing f.rest))
  where
    off : (rest : List X) → ((x : X) (more : List X) → rest ≡ x ∷ more → p x ≡ false) → (x : X) (more : List X) → rest ++ ys ≡ x ∷ more → p x ≡ false
    off [] s x more e = stops x more e
    off (r ∷ rest) s x more e = ap p (sym (ap (λ (l : List X). head_or r l) e)) ∙ s r rest refl
      where
        head_or : X → List X → X
        head_or d [] = d
        head_or d (y ∷ l) = y

abbrev named : Ilk → Row → Bool
named name row = same_name row.name name

-- what begins with a root, if with anything
abbrev pub TopFirst : List SegType → List Row → Type 0
TopFirst types rows = (row : Row) (more : List Row) → rows ≡ row ∷ more → row_level types row ≤ 1

cut_within : (types : List SegType) (part back : List Row) (name : Ilk) → list_all (λ row. nat_le 1 (row_level types row)) part ≡ true → TopFirst types back → list_any (named name) part ≡ true → without_span types (part ++ back) name ≡ without_span types part name ++ back
cut_within types [] back name low top has = cc
cut_within types (row ∷ part) back name low top has =
    let a = and_parts (nat_le 1 (row_level types row)) (list_all (λ r. nat_le 1 (row_level types r)) part) low in
    let one = leb-true 1 (row_level types row) a.0 in
    by (named name row) has
    (dropped (is_deeper types row) part back (λ x more e. let l = top x more e in le-ltb (row_level types row) (row_level types x) (omega (arith, one, l))))
    (λ h. cut_within types part back name a.1 top h)
  where
    by : (b : Bool) → (b || list_any (named name) part) ≡ true → drop (prefix_len (is_deeper types row) (part ++ back)) (part ++ back) ≡ drop (prefix_len (is_deeper types row) part) part ++ back
        → (list_any (named name) part ≡ true → without_span types (part ++ back) name ≡ without_span types part name ++ back)
        → cond b (drop (prefix_len (is_deeper types row) (part ++ back)) (part ++ back)) (row ∷ without_span types (part ++ back) name) ≡ cond b (drop (prefix_len (is_deeper types row) part) part) (row ∷ without_span types part name) ++ back
    by true h here rest = here
    by false h here rest = ap (λ l. row ∷ l) (rest h)

cut_behind : (types : List SegType) (front rows : List Row) (name : Ilk) → list_all (λ row. not (named name row)) front ≡ true → without_span types (front ++ rows) name ≡ front ++ without_span types rows name
cut_behind types [] rows name off = refl
cut_behind types (row ∷ front) rows name off =
    let a = and_parts (not (named name row)) (list_all (λ r. not (named name r)) front) off in
    ap (λ (b : Bool). cond b (drop (prefix_len (is_deeper types row) (front ++ rows)) (front ++ rows)) (row ∷ without_span types (front ++ rows) name)) (not-true (named name row) a.0) ∙ ap (λ l. row ∷ l) (cut_behind types front rows name a.1)

replaced_parts : (xs ys : List Row) (name : Ilk) (content : List ℕ) → replaced (xs ++ ys) name content ≡ replaced xs name content ++ replaced ys name content
replaced_parts [] ys name content = refl
replaced_parts (x ∷ xs) ys name content = ap (λ l. (cond (named name x) (with_content x content) x) ∷ l) (replaced_parts xs ys name content)

replaced_none : (rows : List Row) (name : Ilk) (content : List ℕ) → list_all (λ row. not (named name row)) rows ≡ true → replaced rows name content ≡ rows
replaced_none [] name content off = refl
replaced_none (row ∷ rows) name content off =
    let a = and_parts (not (named name row)) (list_all (λ r. not (named name r)) rows) off in
    ap (λ (b : Bool). (cond b (with_content row content) row) ∷ replaced rows name content) (not-true (named name row) a.0) ∙ ap (λ l. row ∷ l) (replaced_none rows name content a.1)

-- ---- an insertion in a part

later : (types : List SegType) (n : ℕ) (rows : List Row) → ((x : Row) (more : List Row) → rows ≡ x ∷ more → nat_lt n (row_level types x) ≡ false) → begins_upto types n rows ≡ true
later types n [] stops = refl
later types n (row ∷ rows) stops = let h = ltb-false n (row_level types row) (stops row rows refl) in le-leb (row_level types row) n (omega (arith, h))

later_append : (types : List SegType) (n : ℕ) (xs ys : List Row) → begins_upto types n xs ≡ true → begins_upto types n ys ≡ true → begins_upto types n (xs ++ ys) ≡ true
later_append types n [] ys a b = b
later_append types n (x ∷ xs) ys a b = a

top_begins : (types : List SegType) (n : ℕ) (rows : List Row) → 1 ≤ n → TopFirst types rows → begins_upto types n rows ≡ true
top_begins types n [] le top = refl
top_begins types n (row ∷ rows) le top = let l = top row rows refl in le-leb (row_level types row) n (omega (arith, l, le))

-- a row of the part stands before the new one, and none behind the part does
within_part : (schema : Schema) (front part back : List Row) (new : Row) → 1 ≤ row_level schema.types new → TopFirst schema.types back → LastOf (stands_before schema new) part → list_all (λ row. not (stands_before schema new row)) back ≡ true
    → inserted schema (front ++ (part ++ back)) new ≡ front ++ (inserted schema part new ++ back)
within_part schema front part back new low top x none =
    let types = schema.types in
    let n = row_level types new in
    let f = front_of (λ (row : Row). nat_lt n (row_level types row)) x.behind in
    let next = later types n f.rest f.stops in
    let tail : List Row = f.passing in
    let rest : List Row = f.rest in
    let off = all_parts (λ row. not (stands_before schema new row)) tail rest (subst (λ (l : List Row). list_all (λ row. not (stands_before schema new row)) l ≡ true) f.split x.none) in
    let same : part ≡ x.front ++ x.last ∷ (tail ++ rest) = x.split ∙ ap (λ l. x.front ++ x.last ∷ l) f.split in
    let inner : inserted schema part new ≡ x.front ++ x.last ∷ (tail ++ new ∷ rest) =
    ap (λ l. inserted schema l new) same ∙ inserted_between.behind schema new x.front x.last tail rest x.passes
    (record { none = all_append (λ row. not (stands_before schema new row)) tail rest off.0 off.1; deeper = f.pass; next = next }) in
    let ends : (l : List Row) → (x.front ++ x.last ∷ l) ++ back ≡ x.front ++ x.last ∷ (l ++ back) = λ l. append_assoc x.front (x.last ∷ l) back in
    let whole : front ++ (part ++ back) ≡ (front ++ x.front) ++ x.last ∷ (tail ++ (rest ++ back)) =
    ap (λ l. front ++ (l ++ back)) same ∙ ap (λ l. front ++ l) (ends (tail ++ rest) ∙ ap (λ l. x.front ++ x.last ∷ l) (append_assoc tail rest back)) ∙ sym (append_assoc front x.front (x.last ∷ (tail ++ (rest ++ back)))) in
    ap (λ l. inserted schema l new) whole
    ∙ inserted_between.behind schema new (front ++ x.front) x.last tail (rest ++ back) x.passes
    (record {
      none = all_append (λ row. not (stands_before schema new row)) tail (rest ++ back) off.0 (all_append (λ row. not (stands_before schema new row)) rest back off.1 none);
      deeper = f.pass;
      next = later_append types n rest back next (top_begins types n back low top);
    })
    ∙ append_assoc front x.front (x.last ∷ (tail ++ new ∷ (rest ++ back))) ∙ ap (λ l. front ++ l) (sym (ends (tail ++ new ∷ rest) ∙ ap (λ l. x.front ++ x.last ∷ l) (append_assoc tail (new ∷ rest) back)))
    ∙ ap (λ l. front ++ (l ++ back)) (sym inner)

-- ---- a root

abbrev pub none_before : Schema → Row → List Row → Type 0
none_before schema new rows = list_all (λ row. not (stands_before schema new row)) rows ≡ true

-- each row of these that is a root stands before the new one
abbrev pub AllBefore : Schema → Row → List Row → Type 0
AllBefore schema new rows = (row : Row) → Among row rows → row_level schema.types row ≤ 1 → stands_before schema new row ≡ true

pub at_front : (schema : Schema) (front part back : List Row) (new : Row) → row_level schema.types new ≡ 1 → TopFirst schema.types front → TopFirst schema.types part → TopFirst schema.types back → AllBefore schema new front → none_before schema new part
    → none_before schema new back → inserted schema (front ++ (part ++ back)) new ≡ front ++ (inserted schema part new ++ back)
at_front schema front part back new one first top last before off none =
    let types = schema.types in
    let n = row_level types new in
    let inner : inserted schema part new ≡ new ∷ part = inserted_between.front schema new part (record { none = off; deeper = refl; next = top_begins types n part (omega (arith, one)) top }) in
    by inner (last_of (stands_before schema new) front)
  where
    next : begins_upto schema.types (row_level schema.types new) (part ++ back) ≡ true
    next = later_append schema.types (row_level schema.types new) part back (top_begins schema.types (row_level schema.types new) part (omega (arith, one)) top) (top_begins schema.types (row_level schema.types new) back (omega (arith, one)) last)

    rest : none_before schema new (part ++ back)
    rest = all_append (λ row. not (stands_before schema new row)) part back off none

    no_front : (rows : List Row) → rows ≡ front → none_before schema new rows → inserted schema (rows ++ (part ++ back)) new ≡ rows ++ (new ∷ (part ++ back))
    no_front [] e h = inserted_between.front schema new (part ++ back) (record { none = rest; deeper = refl; next = next })
    no_front (row ∷ rows) e h =
        let low = first row rows (sym e) in
        let there = before row (subst (λ (l : List Row). Among row l) e (inl refl)) low in
        absurd (both_ways (stands_before schema new row) (not-true (stands_before schema new row) (and_parts (not (stands_before schema new row)) (list_all (λ r. not (stands_before schema new r)) rows) h).0) there)

    by : inserted schema part new ≡ new ∷ part → LastOf (stands_before schema new) front ⊎ NoneOf (stands_before schema new) front → inserted schema (front ++ (part ++ back)) new ≡ front ++ (inserted schema part new ++ back)
    by inner (inr x) = no_front front refl x.none ∙ ap (λ l. front ++ (l ++ back)) (sym inner)
    by inner (inl x) =
        let deeper : list_all (λ row. nat_lt (row_level schema.types new) (row_level schema.types row)) x.behind ≡ true =
        all_among (λ row. nat_lt (row_level schema.types new) (row_level schema.types row)) x.behind (λ row a. deep row a (nat_lt (row_level schema.types new) (row_level schema.types row)) refl) in
        ap (λ l. inserted schema l new) (ap (λ l. l ++ (part ++ back)) x.split ∙ append_assoc x.front (x.last ∷ x.behind) (part ++ back))
        ∙ inserted_between.behind schema new x.front x.last x.behind (part ++ back) x.passes
        (record { none = all_append (λ row. not (stands_before schema new row)) x.behind (part ++ back) x.none rest; deeper = deeper; next = next })
        ∙ sym (append_assoc x.front (x.last ∷ x.behind) (new ∷ (part ++ back))) ∙ ap (λ l. l ++ new ∷ (part ++ back)) (sym x.split) ∙ ap (λ l. front ++ (l ++ back)) (sym inner)
      where
        deep : (row : Row) → Among row x.behind → (b : Bool) → nat_lt (row_level schema.types new) (row_level schema.types row) ≡ b → b ≡ true
        deep row a true e = refl
        deep row a false e =
            let low = ltb-false (row_level schema.types new) (row_level schema.types row) e in
            let in_front : Among row front = subst (λ (l : List Row). Among row l) (sym x.split) (among_right row x.front (x.last ∷ x.behind) (inr a)) in
            absurd (both_ways (stands_before schema new row) (not-true (stands_before schema new row) (among_passes (λ r. not (stands_before schema new r)) row x.behind a x.none)) (before row in_front (omega (arith, low, one))))

-- ---- rows of sides

top_of : (types : List SegType) (list : List Placed) → starts_upto types 1 list ≡ true → TopFirst types (rows_of list)
top_of types [] h = λ row more e. absurd (none row more e)
  where
    none : (row : Row) (more : List Row) → [] ≡ row ∷ more → ⊥
    none row more e = cc
top_of types (p ∷ list) h = λ row more e. let l = leb-true (row_level types p.row) 1 h in let same : row_level types p.row ≡ row_level types row = ap (row_level types) (first row more e) in omega (arith, l, same)
  where
    first : (row : Row) (more : List Row) → p.row ∷ rows_of list ≡ row ∷ more → p.row ≡ row
    first row more e = ap (λ (l : List Row). head_or p.row l) e
      where
        head_or : Row → List Row → Row
        head_or d [] = d
        head_or d (y ∷ l) = y

pub top_trees : SchemasAreKept → (schema : Schema) (trees : Chains) → are_roots schema.types trees ≡ true → TopFirst schema.types (rows_of (list_in None trees))
top_trees kept schema trees h =
    let level = (kept schema).root_level in
    top_of schema.types (list_in None trees) (starts_in schema.types 1 (level_of schema.types 1) (ones trees) (ones_level schema.types trees) None trees (roots_typed schema.types trees h) (omega (arith, level)))

low_trees : SchemasAreKept → (schema : Schema) (trees : Chains) → are_roots schema.types trees ≡ true → list_all (λ row. nat_le 1 (row_level schema.types row)) (rows_of (list_in None trees)) ≡ true
low_trees kept schema trees h =
    let level = (kept schema).root_level in
    sym (rows_pass (λ row. nat_le 1 (row_level schema.types row)) (list_in None trees))
    ∙ deep_in schema.types (deepens kept schema) 1 (level_of schema.types 1) (ones trees) (ones_level schema.types trees) None trees (roots_typed schema.types trees h) (omega (arith, level))

-- a row that isn't deeper than roots is one
pub record IsHead (trees : Chains) (p : Placed) : Type 0 where
  pub root : Occurrence
  pub among : Among root (heads_in trees)
  pub is : placed None root ≡ p

head_of : SchemasAreKept → (schema : Schema) (twins : Twins) → are_of schema.types 1 twins ≡ true → (p : Placed) → Among p (list_of None twins) → row_level schema.types p.row ≤ 1 → (root : Occurrence) × Among root (heads_of twins) × (placed None root ≡ p)
head_of kept schema no_segment h p a low = absurd a
head_of kept schema (segment s below next) h p (inl e) low = (s, inl refl, e)
head_of kept schema (segment s below next) h p (inr a) low =
    let t = typed schema.types 1 s below next h in
    let deep = below_roots kept schema (Some s.name) below t.under in
    either {P = Among p (list_in (Some s.name) below)} {Q = Among p (list_of None next)} {R = (root : Occurrence) × Among root (heads_of (segment s below next)) × (placed None root ≡ p)}
    (λ b. let two = leb-true 2 (row_level schema.types p.row) (among_passes (is_deep schema.types 2) p (list_in (Some s.name) below) b deep) in absurd (omega (arith, two, low)))
    (λ b. let r = head_of kept schema next t.later p b low in (r.0, inr (r.1), r.2)) (among_append p (list_in (Some s.name) below) (list_of None next) a)

pub head_in : SchemasAreKept → (schema : Schema) (trees : Chains) → are_roots schema.types trees ≡ true → (p : Placed) → Among p (list_in None trees) → row_level schema.types p.row ≤ 1 → IsHead trees p
head_in kept schema no_chain h p a low = absurd a
head_in kept schema (chain twins more) h p a low =
    let q = and_parts (are_of schema.types 1 twins) (are_roots schema.types more) h in
    either {P = Among p (list_of None twins)} {Q = Among p (list_in None more)} {R = IsHead (chain twins more) p}
    (λ b. let r = head_of kept schema twins q.0 p b low in record { root = r.0; among = among_left (r.0) (heads_of twins) (heads_in more) (r.1); is = r.2 })
    (λ b. let r = head_in kept schema more q.1 p b low in record { root = r.root; among = among_right r.root (heads_of twins) (heads_in more) r.among; is = r.is }) (among_append p (list_of None twins) (list_in None more) a)

any_among : (test : Row → Bool) (rows : List Row) → list_any test rows ≡ true → (row : Row) × Among row rows × (test row ≡ true)
any_among test [] h = cc
any_among test (row ∷ rows) h = by (test row) refl h (λ q. any_among test rows q)
  where
    by : (b : Bool) → test row ≡ b → (b || list_any test rows) ≡ true → (list_any test rows ≡ true → (r : Row) × Among r rows × (test r ≡ true)) → (r : Row) × Among r (row ∷ rows) × (test r ≡ true)
    by true e h rest = (row, inl refl, e)
    by false e h rest = let r = rest h in (r.0, inr (r.1), r.2)

any_from : (test : Row → Bool) (rows : List Row) (row : Row) → Among row rows → test row ≡ true → list_any test rows ≡ true
any_from test [] row a h = absurd a
any_from test (r ∷ rows) row (inl e) h = ap (λ (b : Bool). b || list_any test rows) (ap test e ∙ h)
any_from test (r ∷ rows) row (inr a) h = ap (λ (b : Bool). test r || b) (any_from test rows row a h) ∙ right (test r)
  where
    right : (b : Bool) → (b || true) ≡ true
    right true = refl
    right false = refl

-- the rows of all, in three parts whose names differ
record Three (schema : Schema) (front : List PlacedSide) (side : PlacedSide) (behind : List PlacedSide) : Type 0 where
  pub front_off : (row other : Row) → Among row (rows_in_all front) → Among other (rows_in side) → row.name ≡ other.name → ⊥
  pub back_off : (row other : Row) → Among row (rows_in_all behind) → Among other (rows_in side) → row.name ≡ other.name → ⊥
  pub own : are_roots schema.types side.trees ≡ true
  pub front_typed : are_roots schema.types (joined front) ≡ true
  pub back_typed : are_roots schema.types (joined behind) ≡ true

all_rows : (front : List PlacedSide) (side : PlacedSide) (behind : List PlacedSide) → rows_in_all (front ++ side ∷ behind) ≡ rows_in_all front ++ (rows_in side ++ rows_in_all behind)
all_rows front side behind =
    ap rows_of (listed_append front (side ∷ behind)) ∙ append_rows (listed front) (list_in None side.trees ++ listed behind) ∙ ap (λ l. rows_in_all front ++ l) (append_rows (list_in None side.trees) (listed behind))

parts_typed : (schema : Schema) (front behind : List PlacedSide) (side : PlacedSide) → AllByRecursion (λ (s : PlacedSide). are_roots schema.types s.trees ≡ true) (front ++ side ∷ behind)
    → AllByRecursion (λ (s : PlacedSide). are_roots schema.types s.trees ≡ true) front × (are_roots schema.types side.trees ≡ true) × AllByRecursion (λ (s : PlacedSide). are_roots schema.types s.trees ≡ true) behind
parts_typed schema [] behind side h = (tt, h.0, h.1)
parts_typed schema (x ∷ front) behind side h = let r = parts_typed schema front behind side (h.1) in ((h.0, r.0), r.1, r.2)

three : (schema : Schema) (front behind : List PlacedSide) (side : PlacedSide) → IsAmong schema front side behind → Three schema front side behind
three schema front behind side a =
    let t = parts_typed schema front behind side (sides_typed schema (front ++ side ∷ behind) a.sides) in
    let names : all_pairs names_apart (rows_in_all front ++ (rows_in side ++ rows_in_all behind)) ≡ true = subst (λ (l : List Row). all_pairs names_apart l ≡ true) (all_rows front side behind) a.names in
    let parts = pairs_parts names_apart (rows_in_all front) (rows_in side ++ rows_in_all behind) names in
    let rest = pairs_parts names_apart (rows_in side) (rows_in_all behind) parts.back in
    record {
      front_off = λ row other m n e. apart_names row other (among_passes (names_apart row) other (rows_in side ++ rows_in_all behind) (among_left other (rows_in side) (rows_in_all behind) n)
          (among_passes (λ x. list_all (names_apart x) (rows_in side ++ rows_in_all behind)) row (rows_in_all front) m parts.across)) e;
      back_off = λ row other m n e. apart_names other row (among_passes (names_apart other) row (rows_in_all behind) m (among_passes (λ x. list_all (names_apart x) (rows_in_all behind)) other (rows_in side) n rest.across)) (sym e);
      own = t.1;
      front_typed = joined_typed schema.types front (t.0);
      back_typed = joined_typed schema.types behind (t.2);
    }

-- rows of names that no row of a name of the side has
unnamed : (name : Ilk) (rows part : List Row) → ((row other : Row) → Among row rows → Among other part → row.name ≡ other.name → ⊥) → list_any (named name) part ≡ true → list_all (λ row. not (named name row)) rows ≡ true
unnamed name rows part off has =
    let r = any_among (named name) part has in
    all_among (λ row. not (named name row)) rows (λ row a. by row (named name row) refl (λ e. off row (r.0) a (r.1) (name_is row.name name e ∙ sym (name_is (r.0).name name (r.2)))))
  where
    by : (row : Row) (b : Bool) → named name row ≡ b → (named name row ≡ true → ⊥) → not b ≡ true
    by row true e f = absurd (f e)
    by row false e f = refl

front_top : SchemasAreKept → (schema : Schema) (sides : List PlacedSide) → are_roots schema.types (joined sides) ≡ true → TopFirst schema.types (rows_in_all sides)
front_top kept schema sides h = subst (λ (l : List Placed). TopFirst schema.types (rows_of l)) (joined_list sides) (top_trees kept schema (joined sides) h)

cut_one : SchemasAreKept → (schema : Schema) (front behind : List PlacedSide) (side changed : PlacedSide) (name : Ilk) → IsAmong schema front side behind → HasName side name → rows_in changed ≡ without_span schema.types (rows_in side) name
    → rows_in_all (front ++ changed ∷ behind) ≡ without_span schema.types (rows_in_all (front ++ side ∷ behind)) name
cut_one kept schema front behind side changed name a has is =
    let t = three schema front behind side a in
    let types = schema.types in
    all_rows front changed behind ∙ ap (λ l. rows_in_all front ++ (l ++ rows_in_all behind)) is
    ∙ sym
    (ap (λ l. without_span types l name) (all_rows front side behind) ∙ cut_behind types (rows_in_all front) (rows_in side ++ rows_in_all behind) name (unnamed name (rows_in_all front) (rows_in side) t.front_off has)
    ∙ ap (λ l. rows_in_all front ++ l) (cut_within types (rows_in side) (rows_in_all behind) name (low_trees kept schema side.trees t.own) (front_top kept schema behind t.back_typed) has))

content_one : SchemasAreKept → (schema : Schema) (front behind : List PlacedSide) (side changed : PlacedSide) (name : Ilk) (content : List ℕ) → IsAmong schema front side behind → HasName side name → rows_in changed ≡ replaced (rows_in side) name content
    → rows_in_all (front ++ changed ∷ behind) ≡ replaced (rows_in_all (front ++ side ∷ behind)) name content
content_one kept schema front behind side changed name content a has is =
    let t = three schema front behind side a in
    all_rows front changed behind ∙ ap (λ l. rows_in_all front ++ (l ++ rows_in_all behind)) is
    ∙ sym
    (ap (λ l. replaced l name content) (all_rows front side behind) ∙ replaced_parts (rows_in_all front) (rows_in side ++ rows_in_all behind) name content
    ∙ ap (λ l. l ++ replaced (rows_in side ++ rows_in_all behind) name content) (replaced_none (rows_in_all front) name content (unnamed name (rows_in_all front) (rows_in side) t.front_off has))
    ∙ ap (λ l. rows_in_all front ++ l) (replaced_parts (rows_in side) (rows_in_all behind) name content
    ∙ ap (λ l. replaced (rows_in side) name content ++ l) (replaced_none (rows_in_all behind) name content (unnamed name (rows_in_all behind) (rows_in side) t.back_off has))))

-- ---- what doesn't stand before a new row

pub truth_off : (b : Bool) → (b ≡ true → ⊥) → b ≡ false
truth_off true f = absurd (f refl)
truth_off false f = refl

pub stands_off : (schema : Schema) (new row : Row) → is_parent row new ≡ false → is_lower_child new row ≡ false → is_twin_before schema new row ≡ false → not (stands_before schema new row) ≡ true
stands_off schema new row a b c =
    ap (λ (x : Bool). not (x || is_lower_child new row || is_twin_before schema new row)) a ∙ ap (λ (x : Bool). not (x || is_twin_before schema new row)) b ∙ ap not c

-- of another parent
pub strange : (schema : Schema) (new row : Row) → is_parent row new ≡ false → same_parent row.parent new.parent ≡ false → not (stands_before schema new row) ≡ true
strange schema new row a s =
    stands_off schema new row a (ap (λ (b : Bool). b && nat_lt row.code new.code) s)
    (ap (λ (b : Bool). (row.code == new.code && b) && goes_before (is_first schema new.code) (twin_cmp schema row new)) s ∙ right (row.code == new.code) (goes_before (is_first schema new.code) (twin_cmp schema row new)))
  where
    right : (b c : Bool) → ((b && false) && c) ≡ false
    right true c = refl
    right false c = refl

none_of_behind : SchemasAreKept → (schema : Schema) (front behind : List PlacedSide) (side : PlacedSide) (above : Ilk) (new : Occurrence) → Three schema front side behind → HasName side above → none_before schema (placed (Some above) new).row (rows_in_all behind)
none_of_behind kept schema front behind side above new t has =
    sym (rows_pass (λ row. not (stands_before schema (placed (Some above) new).row row)) (listed behind))
    ∙ all_among (λ (p : Placed). not (stands_before schema (placed (Some above) new).row p.row)) (listed behind)
    (λ p a. strange schema (placed (Some above) new).row p.row
    (truth_off (same_name p.row.name above) (λ e. t.back_off p.row (r.0) (row_among p (listed behind) a) (r.1) (name_is p.row.name above e ∙ sym (name_is (r.0).name above (r.2)))))
    (truth_off (same_parent p.row.parent (Some above)) (λ e. by p (parents_are p.row.parent (Some above) e) (under_in None (joined behind) p (subst (λ (l : List Placed). Among p l) (sym (joined_list behind)) a)))))
  where
    r : (row : Row) × Among row (rows_in side) × (same_name row.name above ≡ true)
    r = any_among (named above) (rows_in side) has

    row_among : (p : Placed) (list : List Placed) → Among p list → Among p.row (rows_of list)
    row_among p [] a = absurd a
    row_among p (q ∷ list) (inl e) = inl (ap (λ (x : Placed). x.row) e)
    row_among p (q ∷ list) (inr a) = inr (row_among p list a)

    none : None ≡ Some above → ⊥
    none e = cc

    by : (p : Placed) → p.row.parent ≡ Some above → Under None (list_in None (joined behind)) p → ⊥
    by p e (Top f) = none (sym f ∙ e)
    by p e (Inner q m f) =
        t.back_off q.row (r.0) (row_among q (listed behind) (subst (λ (l : List Placed). Among q l) (joined_list behind) m)) (r.1) (same_some q.row.name above (sym f ∙ e) ∙ sym (name_is (r.0).name above (r.2)))

child_one : SchemasAreKept → (schema : Schema) (front behind : List PlacedSide) (side changed : PlacedSide) (above : Ilk) (new : Occurrence) → IsAmong schema front side behind → HasName side above → 0 < new.code
    → rows_in changed ≡ inserted schema (rows_in side) (placed (Some above) new).row → rows_in_all (front ++ changed ∷ behind) ≡ inserted schema (rows_in_all (front ++ side ∷ behind)) (placed (Some above) new).row
child_one kept schema front behind side changed above new a has some is =
    let t = three schema front behind side a in
    let row : Row = (placed (Some above) new).row in
    all_rows front changed behind ∙ ap (λ l. rows_in_all front ++ (l ++ rows_in_all behind)) is
    ∙ sym (ap (λ l. inserted schema l row) (all_rows front side behind)
    ∙ within_part schema (rows_in_all front) (rows_in side) (rows_in_all behind) row ((kept schema).has_level new.code some) (front_top kept schema behind t.back_typed) (last (last_of (stands_before schema row) (rows_in side))) (none_of_behind kept schema front behind side above new t has))
  where
    r : (row : Row) × Among row (rows_in side) × (same_name row.name above ≡ true)
    r = any_among (named above) (rows_in side) has

    stands : stands_before schema (placed (Some above) new).row (r.0) ≡ true
    stands = ap (λ (b : Bool). b || is_lower_child (placed (Some above) new).row (r.0) || is_twin_before schema (placed (Some above) new).row (r.0)) (r.2)

    last : LastOf (stands_before schema (placed (Some above) new).row) (rows_in side) ⊎ NoneOf (stands_before schema (placed (Some above) new).row) (rows_in side) → LastOf (stands_before schema (placed (Some above) new).row) (rows_in side)
    last (inl x) = x
    last (inr n) = absurd (both_ways (stands_before schema (placed (Some above) new).row (r.0)) (not-true (stands_before schema (placed (Some above) new).row (r.0)) (among_passes (λ x. not (stands_before schema (placed (Some above) new).row x)) (r.0) (rows_in side) (r.1) n.none)) stands)

-- ---- roots among roots

less_is : (o : Ordering) → is_lt o ≡ true → o ≡ Less
less_is Less h = refl
less_is Equal h = cc
less_is Greater h = cc

pub root_before : (schema : Schema) (root new : Occurrence) → root.code ≡ 1 → new.code ≡ 1 → is_lt (root_cmp schema (key_of schema root) (key_of schema new)) ≡ true → stands_before schema (placed None new).row (placed None root).row ≡ true
root_before schema root new a b h =
    let cmp : twin_cmp schema (placed None root).row (placed None new).row ≡ Less =
    ap (λ (c : Bool). cond c (root_cmp schema (key_of schema root) (key_of schema new)) (key_cmp (key_of schema root) (key_of schema new))) (eq-eqb root.code 1 a) ∙ less_is (root_cmp schema (key_of schema root) (key_of schema new)) h in
    let twin : is_twin_before schema (placed None new).row (placed None root).row ≡ true =
    ap (λ (c : Bool). (c && true) && goes_before (is_first schema new.code) (twin_cmp schema (placed None root).row (placed None new).row)) (eq-eqb root.code new.code (a ∙ sym b)) ∙ ap (goes_before (is_first schema new.code)) cmp in
    or_right (is_lower_child (placed None new).row (placed None root).row) (is_twin_before schema (placed None new).row (placed None root).row) twin

pub root_behind : (schema : Schema) → IsTotalOrder (root_cmp schema) → (root new : Occurrence) → root.code ≡ 1 → new.code ≡ 1 → is_lt (root_cmp schema (key_of schema new) (key_of schema root)) ≡ true → not (stands_before schema (placed None new).row (placed None root).row) ≡ true
root_behind schema total root new a b h =
    let cmp : twin_cmp schema (placed None root).row (placed None new).row ≡ Greater =
    ap (λ (c : Bool). cond c (root_cmp schema (key_of schema root) (key_of schema new)) (key_cmp (key_of schema root) (key_of schema new))) (eq-eqb root.code 1 a)
    ∙ total.antisymm (key_of schema root) (key_of schema new) ∙ ap ordering_reverse (less_is (root_cmp schema (key_of schema new) (key_of schema root)) h) in
    stands_off schema (placed None new).row (placed None root).row refl (le-ltb root.code new.code (omega (arith, a, b)))
    (ap (λ (c : Bool). (c && true) && goes_before (is_first schema new.code) (twin_cmp schema (placed None root).row (placed None new).row)) (eq-eqb root.code new.code (a ∙ sym b)) ∙ ap (goes_before (is_first schema new.code)) cmp)

-- a row that is deeper than roots doesn't stand before a new root
pub deeper_off : SchemasAreKept → (schema : Schema) (new : Occurrence) (row : Row) → new.code ≡ 1 → 1 < row_level schema.types row → not (stands_before schema (placed None new).row row) ≡ true
deeper_off kept schema new row one deep =
    stands_off schema (placed None new).row row refl (ap (λ (b : Bool). same_parent row.parent None && b) (le-ltb row.code new.code (coded row.code deep)) ∙ right (same_parent row.parent None))
    (ap (λ (b : Bool). (b && same_parent row.parent None) && goes_before (is_first schema new.code) (twin_cmp schema row (placed None new).row)) (ne_eqb row.code new.code (λ e. apart (e ∙ one))))
  where
    right : (b : Bool) → (b && false) ≡ false
    right true = refl
    right false = refl

    coded : (n : ℕ) → 1 < level_of schema.types n → new.code ≤ n
    coded zero l = absurd (omega (arith, l))
    coded (suc n) l = omega (arith, one)

    apart : row.code ≡ 1 → ⊥
    apart e = let l = ap (level_of schema.types) e ∙ (kept schema).root_level in omega (arith, l, deep)

sides_pass : (test : Occurrence → Bool) (sides : List PlacedSide) → list_all (λ side. list_all test (heads_in side.trees)) sides ≡ true → list_all test (heads_in (joined sides)) ≡ true
sides_pass test [] h = refl
sides_pass test (side ∷ sides) h =
    let p = and_parts (list_all test (heads_in side.trees)) (list_all (λ (s : PlacedSide). list_all test (heads_in s.trees)) sides) h in
    ap (list_all test) (beside_heads side.trees (joined sides)) ∙ all_append test (heads_in side.trees) (heads_in (joined sides)) p.0 (sides_pass test sides p.1)

root_one : SchemasAreKept → ((schema : Schema) → IsTotalOrder (root_cmp schema)) → (schema : Schema) (front behind : List PlacedSide) (side changed : PlacedSide) (new : Occurrence) → IsAmong schema front side behind → new.code ≡ 1
    → StandsInSide schema front behind new → rows_in changed ≡ inserted schema (rows_in side) (placed None new).row → rows_in_all (front ++ changed ∷ behind) ≡ inserted schema (rows_in_all (front ++ side ∷ behind)) (placed None new).row
root_one kept total schema front behind side changed new a one stands is =
    all_rows front changed behind ∙ ap (λ l. rows_in_all front ++ (l ++ rows_in_all behind)) is
    ∙ sym (ap (λ l. inserted schema l row) (all_rows front side behind) ∙ by (last_of (stands_before schema row) (rows_in side)))
  where
    row : Row
    row = (placed None new).row

    t : Three schema front side behind
    t = three schema front behind side a

    level : row_level schema.types row ≡ 1
    level = ap (level_of schema.types) one ∙ (kept schema).root_level

    none : none_before schema row (rows_in_all behind)
    none = sym (rows_pass (λ r. not (stands_before schema row r)) (listed behind)) ∙ ap (λ (l : List Placed). list_all (λ (p : Placed). not (stands_before schema row p.row)) l) (sym (joined_list behind)) ∙ all_among (λ (p : Placed). not (stands_before schema row p.row)) (list_in None (joined behind)) each
      where
        each : (p : Placed) → Among p (list_in None (joined behind)) → not (stands_before schema row p.row) ≡ true
        each p m = at (nat_lt 1 (row_level schema.types p.row)) refl
          where
            at : (b : Bool) → nat_lt 1 (row_level schema.types p.row) ≡ b → not (stands_before schema row p.row) ≡ true
            at true e = deeper_off kept schema new p.row one (ltb-true 1 (row_level schema.types p.row) e)
            at false e =
                let h = head_in kept schema (joined behind) t.back_typed p m (ltb-false 1 (row_level schema.types p.row) e) in
                let less = among_passes (λ b. is_lt (root_cmp schema (key_of schema new) (key_of schema b))) h.root (heads_in (joined behind)) h.among
                (sides_pass (λ b. is_lt (root_cmp schema (key_of schema new) (key_of schema b))) behind (alone stands.before)) in
                subst (λ (q : Placed). not (stands_before schema row q.row) ≡ true) h.is (root_behind schema (total schema) h.root new (sym (root_codes schema.types (joined behind) t.back_typed h.root h.among)) one less)
              where
                alone : list_all (λ (s : PlacedSide). all_before schema (new ∷ []) (heads_in s.trees)) behind ≡ true → list_all (λ (s : PlacedSide). list_all (λ b. is_lt (root_cmp schema (key_of schema new) (key_of schema b))) (heads_in s.trees)) behind ≡ true
                alone h = all_weaker (λ (s : PlacedSide). all_before schema (new ∷ []) (heads_in s.trees)) (λ (s : PlacedSide). list_all (λ b. is_lt (root_cmp schema (key_of schema new) (key_of schema b))) (heads_in s.trees))
                    (λ s q. (and_parts (list_all (λ b. is_lt (root_cmp schema (key_of schema new) (key_of schema b))) (heads_in s.trees)) true q).0) behind h

    before : AllBefore schema row (rows_in_all front)
    before r m low =
        let p = among_row r (listed front) m in
        let in_trees : Among (p.0) (list_in None (joined front)) = subst (λ (l : List Placed). Among (p.0) l) (sym (joined_list front)) (p.1) in
        let same : row_level schema.types (p.0).row ≡ row_level schema.types r = ap (row_level schema.types) (p.2) in
        let h = head_in kept schema (joined front) t.front_typed (p.0) in_trees (omega (arith, same, low)) in
        let less = among_passes (λ b. list_all (λ c. is_lt (root_cmp schema (key_of schema b) (key_of schema c))) (new ∷ [])) h.root (heads_in (joined front)) h.among
        (sides_pass (λ b. list_all (λ c. is_lt (root_cmp schema (key_of schema b) (key_of schema c))) (new ∷ [])) front stands.after) in
        subst (λ (q : Row). stands_before schema row q ≡ true) (ap (λ (x : Placed). x.row) h.is ∙ p.2)
        (root_before schema h.root new (sym (root_codes schema.types (joined front) t.front_typed h.root h.among)) one (and_parts (is_lt (root_cmp schema (key_of schema h.root) (key_of schema new))) true less).0)

    by : LastOf (stands_before schema row) (rows_in side) ⊎ NoneOf (stands_before schema row) (rows_in side) → inserted schema (rows_in_all front ++ (rows_in side ++ rows_in_all behind)) row ≡ rows_in_all front ++ (inserted schema (rows_in side) row ++ rows_in_all behind)
    by (inl x) = within_part schema (rows_in_all front) (rows_in side) (rows_in_all behind) row (omega (arith, level)) (front_top kept schema behind t.back_typed) x none
    by (inr x) = at_front schema (rows_in_all front) (rows_in side) (rows_in_all behind) row level (front_top kept schema front t.front_typed) (top_trees kept schema side.trees t.own) (front_top kept schema behind t.back_typed) before x.none none

pub changes_of_one_side : SchemasAreKept → ((schema : Schema) → IsTotalOrder (root_cmp schema)) → ChangesOfOneSide
changes_of_one_side kept total = record { cut = cut_one kept; content = content_one kept; child = child_one kept; root = root_one kept total }
