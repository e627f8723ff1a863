-- The record in which a home hangs, and the entries whose targets hang there.
use Rattle.std.proofs.Common.{◌≡◌, ℕ, ◌+◌, ◌≤◌, ◌==◌, nat_lt, Bool, true, false, not, cond, ◌||◌, List, [], ◌∷◌, ◌++◌, Option, None, Some, option_and_then, inl, inr, refl, sym, ap, subst, ◌∙◌, arith}
use Rattle.std.specs.Prelude.{filter, filter_map, find, drop, ⊤}
use Rattle.std.specs.List.{cons_option}
use Rattle.std.specs.List.{list_all, slice_get, AllByRecursion}
use Rattle.std.specs.Option.{option_map_or}
use Rattle.std.specs.Str.{bytes_eq}
use Rattle.std.proofs.lemmas.Bool.{and_parts, and_from, eqb-false, eq-eqb, leb-true, le-leb, lt-ltb, ne_eqb, not-true, both_ways}
use Rattle.std.proofs.lemmas.Slice.Eq.{bytes_eq-Decides}
use Rattle.std.proofs.lemmas.List.{append_assoc}
use Rattle.hal_schema.specs.declared.row.Row.{Row}
use Rattle.hal_schema.specs.declared.schema.IndexDef.{IndexDef}
use Rattle.hal_schema.specs.declared.schema.SegType.{SegType}
use Rattle.hal_schema.specs.declared.schema.Schema.{Schema}
use Rattle.hal_schema.specs.Entry.{Entry, entry_key, entry_of, entries_by_row}
use Rattle.hal_schema.specs.Facts.{SchemasAreKept}
use Rattle.hal_schema.specs.Forest.{all_pairs, names_apart}
use Rattle.hal_schema.specs.Paths.{path_with, path_after, with_paths, paths_of, concatenated_key}
use Rattle.hal_schema.specs.Row.{same_name, row_level, row_key}
use Rattle.hal_schema.specs.SegType.{level_of}
use Rattle.hal_schema.proofs.RowNames.{name_is}
use Rattle.forest_laws.proofs.Lists.{Among, among_passes, among_append, among_left, among_right, among_middle, all_among, all_parts, all_weaker, pairs_parts, found}
use Rattle.forest_laws.proofs.Names.{apart_names, same_some}
use Rattle.forest_laws.proofs.Carried.{with_append}
use Rattle.forest_laws.proofs.EntriesByRow.{all_in_order}
use Rattle.forest_laws.proofs.PathLaws.{each_path, path_rows, paths_begin_anew, after_goes_on, go_on_at}
use Rattle.record_walk.specs.Tree.{Occurrence, Twins, no_segment, segment, Chains, no_chain, chain, child_codes, are_of, are_chains_of, are_roots, times_in}
use Rattle.record_walk.specs.Listing.{Placed, placed, list_of, list_in, rows_of}
use Rattle.record_walk.specs.Side.{IsSideOf}
use Rattle.record_walk.specs.Volume.{PlacedSide, listed, AreAllSides}
use Rattle.record_walk.specs.InRecords.{root_above, hangs_by, EntriesHangInRecords}
use Rattle.record_walk.proofs.Levels.{typed, is_deep, deep}
use Rattle.record_walk.proofs.OnLists.{deepens, is_at, none_at, count, counted_in}
use Rattle.record_walk.proofs.ByName.{append_rows}
use Rattle.record_walk.proofs.ParentsFirst.{no_trace}
use Rattle.record_walk.proofs.Joined.{beside, joined, joined_list, joined_typed, sides_typed, no_root, below_roots, rows_pass}
use Rattle.record_walk.proofs.Rising.{either, apart, pairs_rows}

pub bytes_itself : (bytes : List ℕ) → bytes_eq bytes bytes ≡ true
bytes_itself bytes = (bytes_eq-Decides bytes bytes).1 refl

-- ---- the paths of a record

-- a path that begins at a root and stays in its record
record Within (root : Row) (below : List Row) (path : List Row) : Type 0 where
  pub first : slice_get path 0 ≡ Some root
  pub stays : (row : Row) → Among row path → Among row (root ∷ below)

record_paths : (level : Row → ℕ) (root : Row) (below : List Row) → list_all (λ row. list_all (λ above. nat_lt (level above) (level row)) (root ∷ [])) below ≡ true
    → AllByRecursion (λ p. Within root below p.0) (with_paths level [] (root ∷ below))
record_paths level root below deep = each_path level (λ p. Within root below p.0) [] (root ∷ below) (λ front row back e. record {
  first = begins front row back e;
  stays = λ r a. subst (λ (l : List Row). Among r l) (sym e) (path_rows level front back row r a);
})
  where
    begins : (front : List Row) (row : Row) (back : List Row) → root ∷ below ≡ front ++ row ∷ back → slice_get (path_with level (path_after level [] front) row) 0 ≡ Some root
    begins [] row back e = sym (ap (λ (l : List Row). slice_get l 0) e)
    begins (x ∷ front) row back e =
        let same : x ≡ root = same_some x root (sym (ap (λ (l : List Row). slice_get l 0) e)) in
        let rest : below ≡ front ++ row ∷ back = ap (λ (l : List Row). drop 1 l) e in
        let parts = all_parts (λ r. list_all (λ above. nat_lt (level above) (level r)) (root ∷ [])) front (row ∷ back) (subst (λ (l : List Row). list_all (λ r. list_all (λ above. nat_lt (level above) (level r)) (root ∷ [])) l ≡ true) rest deep) in
        let own = and_parts (list_all (λ above. nat_lt (level above) (level row)) (root ∷ [])) (list_all (λ r. list_all (λ above. nat_lt (level above) (level r)) (root ∷ [])) back) parts.1 in
        ap (λ (y : Row). slice_get (path_with level (path_after level (y ∷ []) front) row) 0) same ∙ ap (λ (l : List Row). slice_get (path_with level l row) 0) (after_goes_on level (root ∷ []) front parts.0)
        ∙ ap (λ (l : List Row). slice_get l 0) (go_on_at level (root ∷ []) (path_after level [] front) row own.0)

-- ---- the root above a home

abbrev root_in : Option Row → List Placed → ℕ → Option Row
root_in root list at = root_above (λ (p : Placed). p.home) (λ (p : Placed). p.row) root list at

abbrev homes_apart : Placed → Placed → Bool
homes_apart p q = not (p.home == q.home)

-- behind rows of other homes
passed : (root : Option Row) (front list : List Placed) (at : ℕ) → ((p : Placed) → Among p front → p.home ≡ at → ⊥) → ((now : Option Row) → root_in now list at ≡ root_in None list at) → root_in root (front ++ list) at ≡ root_in None list at
passed root [] list at off any = any root
passed root (p ∷ front) list at off any =
    ap (λ (b : Bool). cond b (cond (p.row.code == 1) (Some p.row) root) (root_in (cond (p.row.code == 1) (Some p.row) root) (front ++ list) at)) (ne_eqb p.home at (off p (inl refl)))
    ∙ passed (cond (p.row.code == 1) (Some p.row) root) front list at (λ q a. off q (inr a)) any

-- within a record, below its root
inner : (root : Row) (below back : List Placed) (p : Placed) → ((q : Placed) → Among q below → (q.row.code == 1) ≡ false) → Among p below → root_in (Some root) (below ++ back) p.home ≡ Some root
inner root [] back p none a = absurd a
inner root (q ∷ below) back p none a =
    ap (λ (b : Bool). cond (q.home == p.home) (cond b (Some q.row) (Some root)) (root_in (cond b (Some q.row) (Some root)) (below ++ back) p.home)) (none q (inl refl))
    ∙ by (q.home == p.home) refl a (λ m. inner root below back p (λ r n. none r (inr n)) m)
  where
    by : (b : Bool) → (q.home == p.home) ≡ b → Among p (q ∷ below) → (Among p below → root_in (Some root) (below ++ back) p.home ≡ Some root) → cond b (Some root) (root_in (Some root) (below ++ back) p.home) ≡ Some root
    by true e a rest = refl
    by false e (inl same) rest = absurd (eqb-false q.home p.home e (ap (λ (x : Placed). x.home) same))
    by false e (inr m) rest = rest m

-- of a record among others
record_root : (front : List Placed) (top : Placed) (below back : List Placed) (p : Placed) → top.row.code ≡ 1 → ((q : Placed) → Among q below → (q.row.code == 1) ≡ false) → all_pairs homes_apart (front ++ ((top ∷ below) ++ back)) ≡ true → Among p (top ∷ below)
    → root_in None (front ++ ((top ∷ below) ++ back)) p.home ≡ Some top.row
record_root front top below back p one none apart a =
    let parts = pairs_parts homes_apart front ((top ∷ below) ++ back) apart in
    passed None front ((top ∷ below) ++ back) p.home
    (λ q m e. both_ways (q.home == p.home) (not-true (q.home == p.home) (among_passes (homes_apart q) p ((top ∷ below) ++ back) (among_left p (top ∷ below) back a) (among_passes (λ x. list_all (homes_apart x) ((top ∷ below) ++ back)) q front m parts.across))) (eq-eqb q.home p.home e))
    (λ now. at_top now ∙ sym (at_top None)) ∙ at_top None
  where
    at_top : (now : Option Row) → root_in now ((top ∷ below) ++ back) p.home ≡ Some top.row
    at_top now = ap (λ (b : Bool). cond (top.home == p.home) (cond b (Some top.row) now) (root_in (cond b (Some top.row) now) (below ++ back) p.home)) (eq-eqb top.row.code 1 one) ∙ by (top.home == p.home) refl a
      where
        by : (b : Bool) → (top.home == p.home) ≡ b → Among p (top ∷ below) → cond b (Some top.row) (root_in (Some top.row) (below ++ back) p.home) ≡ Some top.row
        by true e a = refl
        by false e (inl same) = absurd (eqb-false top.home p.home e (ap (λ (x : Placed). x.home) same))
        by false e (inr m) = inner top.row below back p none m

-- ---- the paths of a side

-- a path begins at a root, and each row of the list whose name is on it hangs in that root's record
record Leads (list : List Placed) (path : List Row) : Type 0 where
  pub root : Row
  pub first : slice_get path 0 ≡ Some root
  pub hang : (p : Placed) → Among p list → (row : Row) → Among row path → row.name ≡ p.row.name → root_in None list p.home ≡ Some root

-- what has to hold of a list, so that the paths of a record lead in it
abbrev Tells : List Placed → Row → List Placed → Type 0
Tells list root record_rows = (p q : Placed) → Among p list → Among q record_rows → q.row.name ≡ p.row.name → root_in None list p.home ≡ Some root

abbrev AllTell : List Placed → Twins → Type 0
AllTell list no_segment = ⊤
AllTell list (segment s below next) = Tells list (placed None s).row (placed None s ∷ list_in (Some s.name) below) × AllTell list next

abbrev AllTellIn : List Placed → Chains → Type 0
AllTellIn list no_chain = ⊤
AllTellIn list (chain twins more) = AllTell list twins × AllTellIn list more

all_both_parts : (P : List Row × Row → Type 0) (xs ys : List (List Row × Row)) → AllByRecursion P xs → AllByRecursion P ys → AllByRecursion P (xs ++ ys)
all_both_parts P [] ys a b = b
all_both_parts P (x ∷ xs) ys a b = (a.0, all_both_parts P xs ys (a.1) b)

all_turned : (P Q : List Row × Row → Type 0) → ((p : List Row × Row) → P p → Q p) → (xs : List (List Row × Row)) → AllByRecursion P xs → AllByRecursion Q xs
all_turned P Q f [] h = tt
all_turned P Q f (x ∷ xs) h = (f x (h.0), all_turned P Q f xs (h.1))

pub among_row : (row : Row) (list : List Placed) → Among row (rows_of list) → (p : Placed) × Among p list × (p.row ≡ row)
among_row row [] a = absurd a
among_row row (p ∷ list) (inl e) = (p, inl refl, e)
among_row row (p ∷ list) (inr a) = let q = among_row row list a in (q.0, inr (q.1), q.2)

-- nothing is above the roots
abbrev IsTop : List SegType → List Row → Type 0
IsTop types path = filter (λ a. nat_lt (row_level types a) 1) path ≡ []

anew : SchemasAreKept → (schema : Schema) (path : List Row) (twins : Twins) → are_of schema.types 1 twins ≡ true → IsTop schema.types path
    → with_paths (row_level schema.types) path (rows_of (list_of None twins)) ≡ with_paths (row_level schema.types) [] (rows_of (list_of None twins))
anew kept schema path no_segment h top = refl
anew kept schema path (segment s below next) h top =
    let t = typed schema.types 1 s below next h in
    let level : row_level schema.types (placed None s).row ≡ 1 = ap (level_of schema.types) t.code_is ∙ (kept schema).root_level in
    paths_begin_anew Row (row_level schema.types) path (placed None s).row (rows_of (list_in (Some s.name) below ++ list_of None next)) (ap (λ (n : ℕ). filter (λ a. nat_lt (row_level schema.types a) n) path) level ∙ top)

still_top : SchemasAreKept → (schema : Schema) (path : List Row) (twins : Twins) → are_of schema.types 1 twins ≡ true → IsTop schema.types path → IsTop schema.types (path_after (row_level schema.types) path (rows_of (list_of None twins)))
still_top kept schema path twins h top =
    let level = (kept schema).root_level in
    no_trace schema.types 1 path (list_of None twins) (deep schema.types (deepens kept schema) 1 1 None twins h (omega (arith, level))) ∙ top

anew_in : SchemasAreKept → (schema : Schema) (path : List Row) (chains : Chains) → are_roots schema.types chains ≡ true → IsTop schema.types path
    → with_paths (row_level schema.types) path (rows_of (list_in None chains)) ≡ with_paths (row_level schema.types) [] (rows_of (list_in None chains))
anew_in kept schema path no_chain h top = refl
anew_in kept schema path (chain twins more) h top =
    let level = row_level schema.types in
    let p = and_parts (are_of schema.types 1 twins) (are_roots schema.types more) h in
    let xs : List Row = rows_of (list_of None twins) in
    let ys : List Row = rows_of (list_in None more) in
    let split : (q : List Row) → IsTop schema.types q → with_paths level q (xs ++ ys) ≡ with_paths level [] xs ++ with_paths level [] ys = λ q t.
    with_append level q xs ys ∙ ap (λ l. l ++ with_paths level (path_after level q xs) ys) (anew kept schema q twins p.0 t)
    ∙ ap (λ l. with_paths level [] xs ++ l) (anew_in kept schema (path_after level q xs) more p.1 (still_top kept schema q twins p.0 t)) in
    ap (with_paths level path) (append_rows (list_of None twins) (list_in None more)) ∙ split path top ∙ sym (ap (with_paths level []) (append_rows (list_of None twins) (list_in None more)) ∙ split [] refl)

chain_leads : SchemasAreKept → (schema : Schema) (list : List Placed) (twins : Twins) → are_of schema.types 1 twins ≡ true → AllTell list twins
    → AllByRecursion (λ p. Leads list p.0) (with_paths (row_level schema.types) [] (rows_of (list_of None twins)))
chain_leads kept schema list no_segment h tell = tt
chain_leads kept schema list (segment s below next) h tell =
    let types = schema.types in
    let level = row_level types in
    let t = typed types 1 s below next h in
    let low : List Placed = list_in (Some s.name) below in
    let top : Row = (placed None s).row in
    let one : level top ≡ 1 = ap (level_of types) t.code_is ∙ (kept schema).root_level in
    let deeper : list_all (λ row. list_all (λ above. nat_lt (level above) (level row)) (top ∷ [])) (rows_of low) ≡ true =
    sym (rows_pass (λ row. list_all (λ above. nat_lt (level above) (level row)) (top ∷ [])) low)
    ∙ all_weaker (is_deep types 2) (λ (p : Placed). list_all (λ above. nat_lt (level above) (level p.row)) (top ∷ []))
    (λ p d. let two = leb-true 2 (level p.row) d in and_from (nat_lt (level top) (level p.row)) true (lt-ltb (level top) (level p.row) (omega (arith, one, two))) refl) low (below_roots kept schema (Some s.name) below t.under) in
    let first : AllByRecursion (λ p. Leads list p.0) (with_paths level [] (top ∷ rows_of low)) =
    all_turned (λ p. Within top (rows_of low) p.0) (λ p. Leads list p.0)
    (λ p w. record {
      root = top;
      first = w.first;
      hang = λ q m row a e. let r = among_row row (placed None s ∷ low) (w.stays row a) in tell.0 q (r.0) m (r.1) (ap (λ (x : Row). x.name) (r.2) ∙ e);
    }) (with_paths level [] (top ∷ rows_of low)) (record_paths level top (rows_of low) deeper) in
    let after : IsTop types (path_after level [] (top ∷ rows_of low)) =
    no_trace types 1 [] (placed None s ∷ low) (and_from (is_deep types 1 (placed None s)) (list_all (is_deep types 1) low) (le-leb 1 (level top) (omega (arith, one)))
    (all_weaker (is_deep types 2) (is_deep types 1) (λ p d. let two = leb-true 2 (level p.row) d in le-leb 1 (level p.row) (omega (arith, two))) low (below_roots kept schema (Some s.name) below t.under))) in
    let rest = chain_leads kept schema list next t.later (tell.1) in
    subst (λ (l : List Row). AllByRecursion (λ p. Leads list p.0) (with_paths level [] l)) (sym (ap (λ l. top ∷ l) (append_rows low (list_of None next))))
    (subst (λ l. AllByRecursion (λ p. Leads list p.0) l) (sym (with_append level [] (top ∷ rows_of low) (rows_of (list_of None next)) ∙ ap (λ l. with_paths level [] (top ∷ rows_of low) ++ l) (anew kept schema (path_after level [] (top ∷ rows_of low)) next t.later after)))
    (all_both_parts (λ p. Leads list p.0) (with_paths level [] (top ∷ rows_of low)) (with_paths level [] (rows_of (list_of None next))) first rest))

chains_lead : SchemasAreKept → (schema : Schema) (list : List Placed) (chains : Chains) → are_roots schema.types chains ≡ true → AllTellIn list chains
    → AllByRecursion (λ p. Leads list p.0) (with_paths (row_level schema.types) [] (rows_of (list_in None chains)))
chains_lead kept schema list no_chain h tell = tt
chains_lead kept schema list (chain twins more) h tell =
    let level = row_level schema.types in
    let p = and_parts (are_of schema.types 1 twins) (are_roots schema.types more) h in
    let xs : List Row = rows_of (list_of None twins) in
    let ys : List Row = rows_of (list_in None more) in
    subst (λ (l : List Row). AllByRecursion (λ q. Leads list q.0) (with_paths level [] l)) (sym (append_rows (list_of None twins) (list_in None more)))
    (subst (λ l. AllByRecursion (λ q. Leads list q.0) l) (sym (with_append level [] xs ys ∙ ap (λ l. with_paths level [] xs ++ l) (anew_in kept schema (path_after level [] xs) more p.1 (still_top kept schema [] twins p.0 refl))))
    (all_both_parts (λ q. Leads list q.0) (with_paths level [] xs) (with_paths level [] ys) (chain_leads kept schema list twins p.0 (tell.0)) (chains_lead kept schema list more p.1 (tell.1))))

-- ---- a side among others

-- names of a list that none of another has
abbrev NamesApart : List Placed → List Placed → Type 0
NamesApart xs ys = (p q : Placed) → Among p xs → Among q ys → p.row.name ≡ q.row.name → ⊥

others_tell : (list : List Placed) (twins : Twins) → NamesApart list (list_of None twins) → AllTell list twins
others_tell list no_segment off = tt
others_tell list (segment s below next) off =
    let low : List Placed = list_in (Some s.name) below in
    let high : List Placed = list_of None next in (
      λ p q a b e. absurd (off p q a (among_left q (placed None s ∷ low) high b) (sym e)),
      others_tell list next (λ p q a b. off p q a (inr (among_right q low high b))),
    )

others_tell_in : (list : List Placed) (chains : Chains) → NamesApart list (list_in None chains) → AllTellIn list chains
others_tell_in list no_chain off = tt
others_tell_in list (chain twins more) off =
    (others_tell list twins (λ p q a b. off p q a (among_left q (list_of None twins) (list_in None more) b)), others_tell_in list more (λ p q a b. off p q a (among_right q (list_of None twins) (list_in None more) b)))

-- a record of the list itself: a row of a name that the record has is in it
own_tells : SchemasAreKept → (schema : Schema) (list front back : List Placed) (s : Occurrence) (below : Chains) → s.code ≡ 1 → are_chains_of schema.types (child_codes schema.types 1) below ≡ true
    → list ≡ front ++ ((placed None s ∷ list_in (Some s.name) below) ++ back) → all_pairs apart list ≡ true → all_pairs homes_apart list ≡ true → Tells list (placed None s).row (placed None s ∷ list_in (Some s.name) below)
own_tells kept schema list front back s below one h whole names homes p q a b e =
    let low : List Placed = list_in (Some s.name) below in
    let own : List Placed = placed None s ∷ low in
    let all : Among p (front ++ (own ++ back)) = subst (λ (l : List Placed). Among p l) whole a in
    let parts = pairs_parts apart front (own ++ back) (subst (λ (l : List Placed). all_pairs apart l ≡ true) whole names) in
    let rest = pairs_parts apart own back parts.back in
    let mine : Among p own =
    either {P = Among p front} {Q = Among p (own ++ back)} {R = Among p own}
    (λ f. absurd (apart_names p.row q.row (among_passes (apart p) q (own ++ back) (among_left q own back b) (among_passes (λ x. list_all (apart x) (own ++ back)) p front f parts.across)) (sym e)))
    (λ m. either {P = Among p own} {Q = Among p back} {R = Among p own} (λ o. o) (λ k. absurd (apart_names q.row p.row (among_passes (apart q) p back k (among_passes (λ x. list_all (apart x) back) q own b rest.across)) e)) (among_append p own back m)) (among_append p front (own ++ back) all) in
    ap (λ (l : List Placed). root_in None l p.home) whole
    ∙ record_root front (placed None s) low back p one (λ r m. not_one r (among_passes (is_deep schema.types 2) r low m (below_roots kept schema (Some s.name) below h))) (subst (λ (l : List Placed). all_pairs homes_apart l ≡ true) whole homes) mine
  where
    not_one : (r : Placed) → is_deep schema.types 2 r ≡ true → (r.row.code == 1) ≡ false
    not_one r d = ne_eqb r.row.code 1 (λ f. no_root schema (kept schema) r d f)

own_chain : SchemasAreKept → (schema : Schema) (list front back : List Placed) (twins : Twins) → are_of schema.types 1 twins ≡ true → list ≡ front ++ (list_of None twins ++ back) → all_pairs apart list ≡ true → all_pairs homes_apart list ≡ true → AllTell list twins
own_chain kept schema list front back no_segment h whole names homes = tt
own_chain kept schema list front back (segment s below next) h whole names homes =
    let t = typed schema.types 1 s below next h in
    let own : List Placed = placed None s ∷ list_in (Some s.name) below in
    let high : List Placed = list_of None next in (
      own_tells kept schema list front (high ++ back) s below t.code_is t.under (whole ∙ ap (λ l. front ++ l) (append_assoc own high back)) names homes,
      own_chain kept schema list (front ++ own) back next t.later (whole ∙ ap (λ l. front ++ l) (append_assoc own high back) ∙ sym (append_assoc front own (high ++ back))) names homes,
    )

own_chains : SchemasAreKept → (schema : Schema) (list front : List Placed) (chains : Chains) → are_roots schema.types chains ≡ true → list ≡ front ++ list_in None chains → all_pairs apart list ≡ true → all_pairs homes_apart list ≡ true → AllTellIn list chains
own_chains kept schema list front no_chain h whole names homes = tt
own_chains kept schema list front (chain twins more) h whole names homes =
    let p = and_parts (are_of schema.types 1 twins) (are_roots schema.types more) h in
    let xs : List Placed = list_of None twins in
    let ys : List Placed = list_in None more in
    (own_chain kept schema list front ys twins p.0 whole names homes, own_chains kept schema list (front ++ xs) more p.1 (whole ∙ sym (append_assoc front xs ys)) names homes)

tell_beside : (list : List Placed) (trees more : Chains) → AllTellIn list trees → AllTellIn list more → AllTellIn list (beside trees more)
tell_beside list no_chain more a b = b
tell_beside list (chain twins trees) more a b = (a.0, tell_beside list trees more (a.1) b)

others_joined : (list : List Placed) (sides : List PlacedSide) → NamesApart list (listed sides) → AllTellIn list (joined sides)
others_joined list [] off = tt
others_joined list (side ∷ sides) off =
    tell_beside list side.trees (joined sides) (others_tell_in list side.trees (λ p q a b. off p q a (among_left q (list_in None side.trees) (listed sides) b)))
    (others_joined list sides (λ p q a b. off p q a (among_right q (list_in None side.trees) (listed sides) b)))

pub listed_append : (sides more : List PlacedSide) → listed (sides ++ more) ≡ listed sides ++ listed more
listed_append [] more = refl
listed_append (side ∷ sides) more = ap (λ l. list_in None side.trees ++ l) (listed_append sides more) ∙ sym (append_assoc (list_in None side.trees) (listed sides) (listed more))

all_tell : (list : List Placed) (front behind : List PlacedSide) (side : PlacedSide) → NamesApart list (listed front) → NamesApart list (listed behind) → AllTellIn list side.trees → AllTellIn list (joined (front ++ side ∷ behind))
all_tell list [] behind side f b own = tell_beside list side.trees (joined behind) own (others_joined list behind b)
all_tell list (x ∷ front) behind side f b own =
    tell_beside list x.trees (joined (front ++ side ∷ behind)) (others_tell_in list x.trees (λ p q a m. f p q a (among_left q (list_in None x.trees) (listed front) m)))
    (all_tell list front behind side (λ p q a m. f p q a (among_right q (list_in None x.trees) (listed front) m)) b own)

-- ---- homes

count_cons : (home : ℕ) (p : Placed) (list : List Placed) → count home list ≤ count home (p ∷ list)
unfolding count
count_cons home p list = omega arith

count_here : (p : Placed) (list : List Placed) → count p.home (p ∷ list) ≡ 1 + count p.home list
unfolding count
count_here p list = ap (λ (b : Bool). cond {A = ℕ} b 1 0 + count p.home list) (eq-eqb p.home p.home refl)

homes_differ : (list : List Placed) → ((home : ℕ) → count home list ≤ 1) → all_pairs homes_apart list ≡ true
homes_differ [] few = refl
homes_differ (p ∷ list) few =
    let here = count_here p list in
    let most = few p.home in
    and_from (list_all (homes_apart p) list) (all_pairs homes_apart list)
    (all_weaker (λ q. not (is_at p.home q)) (homes_apart p) (λ q h. ap not (ne_eqb p.home q.home (λ e. both_ways (q.home == p.home) (not-true (q.home == p.home) h) (eq-eqb q.home p.home (sym e))))) list (none_at p.home list (omega (arith, here, most))))
    (homes_differ list (λ home. let f = few home in let c = count_cons home p list in omega (arith, f, c)))

pub differ_in : (trees : Chains) → ((home : ℕ) → times_in home trees ≤ 1) → all_pairs homes_apart (list_in None trees) ≡ true
differ_in trees once = homes_differ (list_in None trees) (λ home. let f = once home in let c = counted_in home None trees in omega (arith, f, c))

-- ---- entries

-- an entry's target is on the path, and its root is the first of it
record OfPath (types : List SegType) (path : List Row) (entry : Entry) : Type 0 where
  pub target : Row
  pub among : Among target path
  pub named : target.name ≡ entry.target
  pub root : Row
  pub first : slice_get path 0 ≡ Some root
  pub key : row_key types root ≡ entry.root

found_among : (p : Row → Bool) (xs : List Row) (x : Row) → find p xs ≡ Some x → Among x xs
found_among p xs x e = let f = found p xs x e in subst (λ (l : List Row). Among x l) (sym f.split) (among_middle x f.front f.behind)

of_path : (types : List SegType) (index : IndexDef) (path : List Row) (row : Row) (entry : Entry) → entry_of types index path row ≡ Some entry → OfPath types path entry
of_path types index path row entry e = by (find (λ r. r.code == index.target) path) refl (slice_get path 0) refl e
  where
    key : List ℕ
    key = option_map_or (λ k. k) (entry_key index row.content (concatenated_key types path)) []

    by : (o : Option Row) → find (λ (r : Row). r.code == index.target) path ≡ o → (f : Option Row) → slice_get path 0 ≡ f
        → option_and_then (λ (target : Row). option_and_then (λ (root : Row). Some (record { key = key; target = target.name; root = row_key types root })) f) o ≡ Some entry → OfPath types path entry
    by None a f b e = cc
    by (Some target) a None b e = cc
    by (Some target) a (Some root) b e =
        let same : record { key = key; target = target.name; root = row_key types root } ≡ entry = same_some (record { key = key; target = target.name; root = row_key types root }) entry e in
        record { target = target; among = found_among (λ r. r.code == index.target) path target a; named = ap (λ (x : Entry). x.target) same; root = root; first = b; key = ap (λ (x : Entry). x.root) same }

entries_pass : (types : List SegType) (index : IndexDef) (test : Entry → Bool) (paths : List (List Row × Row)) → AllByRecursion (λ p. (entry : Entry) → entry_of types index p.0 p.1 ≡ Some entry → test entry ≡ true) paths
    → list_all test (entries_by_row types index paths) ≡ true
entries_pass types index test [] h = refl
entries_pass types index test (p ∷ paths) h = by (p.1.code == index.source) (entries_pass types index test paths (h.1))
  where
    with_one : (o : Option Entry) → entry_of types index p.0 p.1 ≡ o → list_all test (entries_by_row types index paths) ≡ true
        → list_all test (cons_option o (entries_by_row types index paths)) ≡ true
    with_one None e rest = rest
    with_one (Some entry) e rest = and_from (test entry) (list_all test (entries_by_row types index paths)) (h.0 entry e) rest

    by : (b : Bool) → list_all test (entries_by_row types index paths) ≡ true
        → list_all test (filter_map (λ (q : List Row × Row). entry_of types index q.0 q.1) (cond b (p ∷ filter (λ (q : List Row × Row). q.1.code == index.source) paths) (filter (λ (q : List Row × Row). q.1.code == index.source) paths))) ≡ true
    by true rest = with_one (entry_of types index p.0 p.1) refl rest
    by false rest = rest

side_among : (schema : Schema) (front behind : List PlacedSide) (side : PlacedSide) → AreAllSides schema (front ++ side ∷ behind) → IsSideOf schema side.place side.cells side.rows side.trees
side_among schema [] behind side h = h.0
side_among schema (x ∷ front) behind side h = side_among schema front behind side (h.1)

pub entries_hang_in_records : SchemasAreKept → EntriesHangInRecords
entries_hang_in_records kept schema front behind side index sides names =
    let types = schema.types in
    let all : List PlacedSide = front ++ side ∷ behind in
    let list : List Placed = list_in None side.trees in
    let whole : list_in None (joined all) ≡ listed front ++ (list ++ listed behind) = joined_list all ∙ listed_append front (side ∷ behind) in
    let differ : all_pairs apart (listed front ++ (list ++ listed behind)) ≡ true =
    subst (λ (l : List Placed). all_pairs apart l ≡ true) (listed_append front (side ∷ behind)) (sym (pairs_rows names_apart (listed all)) ∙ names) in
    let parts = pairs_parts apart (listed front) (list ++ listed behind) differ in
    let rest = pairs_parts apart list (listed behind) parts.back in
    let own : IsSideOf schema side.place side.cells side.rows side.trees = side_among schema front behind side sides in
    let tell = all_tell list front behind side
    (λ p q a b e. apart_names q.row p.row (among_passes (apart q) p (list ++ listed behind) (among_left p list (listed behind) a) (among_passes (λ x. list_all (apart x) (list ++ listed behind)) q (listed front) b parts.across)) (sym e))
    (λ p q a b e. apart_names p.row q.row (among_passes (apart p) q (listed behind) b (among_passes (λ x. list_all (apart x) (listed behind)) p list a rest.across)) e)
    (own_chains kept schema list [] side.trees own.walked.typed refl rest.front (differ_in side.trees own.walked.once)) in
    let leads = chains_lead kept schema list (joined all) (joined_typed types all (sides_typed schema all sides)) tell in
    let test : Entry → Bool = λ entry. list_all (hangs_by types (λ (p : Placed). p.home) (λ (p : Placed). p.row) list entry) list in
    all_in_order test (entries_by_row types index (paths_of types (rows_of (listed all))))
    ∙ ap (λ (l : List Placed). list_all test (entries_by_row types index (paths_of types (rows_of l)))) (sym (joined_list all))
    ∙ entries_pass types index test (paths_of types (rows_of (list_in None (joined all)))) (each test refl (paths_of types (rows_of (list_in None (joined all)))) leads)
  where
    one : (entry : Entry) (path : List Row) → Leads (list_in None side.trees) path → OfPath schema.types path entry
        → list_all (hangs_by schema.types (λ (p : Placed). p.home) (λ (p : Placed). p.row) (list_in None side.trees) entry) (list_in None side.trees) ≡ true
    one entry path leads o =
        all_among (hangs_by schema.types (λ (p : Placed). p.home) (λ (p : Placed). p.row) (list_in None side.trees) entry) (list_in None side.trees)
        (λ p a. by p (same_name p.row.name entry.target) refl a)
      where
        by : (p : Placed) (b : Bool) → same_name p.row.name entry.target ≡ b → Among p (list_in None side.trees)
            → (not b || option_map_or (λ (root : Row). bytes_eq (row_key schema.types root) entry.root) (root_in None (list_in None side.trees) p.home) false) ≡ true
        by p false e a = refl
        by p true e a =
            let at = leads.hang p a o.target o.among (o.named ∙ sym (name_is p.row.name entry.target e)) in
            let same : leads.root ≡ o.root = same_some leads.root o.root (sym leads.first ∙ o.first) in
            ap (λ (r : Option Row). option_map_or (λ (root : Row). bytes_eq (row_key schema.types root) entry.root) r false) at ∙ ap (λ (r : Row). bytes_eq (row_key schema.types r) entry.root) same
            ∙ ap (λ (k : List ℕ). bytes_eq k entry.root) o.key ∙ bytes_itself entry.root

    each : (test : Entry → Bool) → test ≡ (λ entry. list_all (hangs_by schema.types (λ (p : Placed). p.home) (λ (p : Placed). p.row) (list_in None side.trees) entry) (list_in None side.trees)) → (paths : List (List Row × Row))
        → AllByRecursion (λ p. Leads (list_in None side.trees) p.0) paths → AllByRecursion (λ p. (entry : Entry) → entry_of schema.types index p.0 p.1 ≡ Some entry → test entry ≡ true) paths
    each test is [] h = tt
    each test is (p ∷ paths) h = (λ entry e. ap (λ (t : Entry → Bool). t entry) is ∙ one entry p.0 (h.0) (of_path schema.types index p.0 p.1 entry e), each test is paths (h.1))
