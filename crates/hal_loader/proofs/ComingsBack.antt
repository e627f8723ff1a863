-- The text of a forest's rows comes back under whatever names a taker gives.
use Rattle.std.proofs.Common.{◌≡◌, ℕ, ◌+◌, nat_lt, Bool, true, false, not, cond, ◌&&◌, List, [], ◌∷◌, ◌++◌, length, map, reverse, Option, Some, None, Result, Ok, Err, ◌⊎◌, refl, sym, ap, subst, ◌∙◌, arith}
use Rattle.std.specs.Prelude.{codes, find, is_none}
use Rattle.std.specs.Cmp.{IsTotalOrder}
use Rattle.std.specs.List.{list_all, AllByRecursion}
use Rattle.std.specs.Option.{option_map, option_map_or}
use Rattle.std.proofs.lemmas.Bool.{and_parts, and_from, not-true}
use Rattle.std.proofs.lemmas.List.{append_assoc, append-nil, length-map, map-append}
use Rattle.hal_base.specs.declared.place.Ilk.{Ilk}
use Rattle.hal_schema.specs.declared.row.Row.{Row}
use Rattle.hal_schema.specs.declared.schema.Schema.{Schema}
use Rattle.hal_schema.specs.Facts.{IsKept, SchemasAreKept}
use Rattle.hal_schema.specs.Forest.{all_pairs, names_apart}
use Rattle.hal_schema.specs.Paths.{paths_of}
use Rattle.hal_schema.specs.Roots.{root_cmp}
use Rattle.hal_schema.specs.Row.{is_new_name, row_level, same_name}
use Rattle.hal_schema.specs.SegType.{ancestry, parent_code}
use Rattle.hal_schema.proofs.RowNames.{name_is, name_itself}
use Rattle.forest_laws.specs.Paths.{PathsAreAncestries}
use Rattle.forest_laws.proofs.Carried.{after_append}
use Rattle.forest_laws.proofs.InsertionKeeps.{none_passes}
use Rattle.forest_laws.proofs.Lists.{all_among, all_both, all_middle, among_split, found, pairs_at}
use Rattle.forest_laws.proofs.Parents.{Parts, parts_of}
use Rattle.hal_loader.specs.Carrying.{AreOnPath}
use Rattle.hal_loader.specs.Laws.{ComesBack, SaysRow, TakingKeeps, UnloadedRowsAreSaid, UnloadedRowsComeBack, renamed, unloaded}
use Rattle.hal_loader.specs.Loading.{AreLoaded, Loads, LoadsTold, Taken, begin, stands_after, stands_after_all}
use Rattle.hal_loader.specs.Placing.{coming, first_name, load_need, load_place, parent_path, with_loaded, with_name}
use Rattle.hal_loader.specs.Refusals.{Standing, first_that_holds, refusal_of, row_refusals, row_said, text_refusals}
use Rattle.hal_loader.specs.Unloading.{fields_said}
use Rattle.hal_loader.specs.declared.records.LoadFault.{LoadFault}
use Rattle.hal_loader.specs.declared.records.LoadFault.TheVariants.{NotEmpty, Row as BrokenRow, Failed, Memory}
use Rattle.hal_loader.proofs.AtEnd.{insert_end, placed_last}
use Rattle.hal_loader.proofs.Climbs.{climbed}
use Rattle.hal_loader.proofs.Comings.{first_is_there}
use Rattle.hal_loader.proofs.Judgements.{first_none}
use Rattle.hal_loader.proofs.Keepings.{Keeps, load_steps, none_keeps}
use Rattle.hal_loader.proofs.Placings.{said_is}
use Rattle.hal_loader.proofs.Reloadings.{IsTop, IsChild, above_in_path, above_of, left_by, parent_is_first, parent_path_is, turned_push}
use Rattle.hal_loader.proofs.Renamings.{StayApart, all_map, first_same, parent_path_same, place_same, refused_same, swapped, swaps}
use Rattle.hal_loader.proofs.Unrefused.{Rows, next, owned, room_alone}

abbrev Ancestries : Schema → List Row → Type 0
Ancestries schema rows = AllByRecursion (λ (p : List Row × Row). reverse (map (λ (r : Row). r.code) p.0) ≡ ancestry (parent_code schema.types) p.1.code) (paths_of schema.types rows)

-- ---- names that are there keep their other name

abbrev there : List Row → Ilk → Bool
there rows n = not (is_new_name rows n)

agrees : (f : Ilk → Ilk) (done more : List Row) (row : Row) (name : Ilk) → StayApart f → all_pairs names_apart (done ++ row ∷ more) ≡ true → is_new_name (map (renamed f) done) name ≡ true
    → (n : Ilk) → there done n ≡ true → swapped (f row.name) name (f n) ≡ f n
agrees f done more row name s apart new n h = by (find (λ (r : Row). same_name r.name n) done) refl h
  where
    none : list_all (λ (r : Row). not (same_name (f r.name) name)) done ≡ true
    none = sym (all_map (λ (r : Row). not (same_name r.name name)) (renamed f) done) ∙ none_passes (λ (r : Row). same_name r.name name) (map (renamed f) done) new

    by : (o : Option Row) → find (λ (r : Row). same_name r.name n) done ≡ o → not (is_none o) ≡ true → swapped (f row.name) name (f n) ≡ f n
    by None e g = cc g
    by (Some r) e g =
        let found_row = found (λ (r : Row). same_name r.name n) done r e in
        let is : r.name ≡ n = name_is r.name n found_row.passes in
        let before = all_middle (λ a. names_apart a row) found_row.front found_row.behind r (subst (λ (l : List Row). list_all (λ a. names_apart a row) l ≡ true) found_row.split (pairs_at names_apart done more row apart).before) in
        let other = all_middle (λ (r : Row). not (same_name (f r.name) name)) found_row.front found_row.behind r (subst (λ (l : List Row). list_all (λ (r : Row). not (same_name (f r.name) name)) l ≡ true) found_row.split none) in
        let a : same_name (f n) (f row.name) ≡ false = s.same n row.name ∙ ap (λ (m : Ilk). same_name m row.name) (sym is) ∙ not-true (same_name r.name row.name) before in
        let b : same_name (f n) name ≡ false = ap (λ (m : Ilk). same_name (f m) name) (sym is) ∙ not-true (same_name (f r.name) name) other in
        ap (λ (t : Bool). cond t name (cond (same_name (f n) name) (f row.name) (f n))) a ∙ ap (λ (t : Bool). cond t (f row.name) (f n)) b

abbrev is_there : List Row → Row → Bool
is_there done r = there done r.name && option_map_or (there done) r.parent true

stay : (f g : Ilk → Ilk) (done : List Row) → ((n : Ilk) → there done n ≡ true → g n ≡ f n) → (rows : List Row) → list_all (is_there done) rows ≡ true → map (renamed g) rows ≡ map (renamed f) rows
stay f g done w [] h = refl
stay f g done w (r ∷ rows) h =
    let a = and_parts (is_there done r) (list_all (is_there done) rows) h in
    let b = and_parts (there done r.name) (option_map_or (there done) r.parent true) a.0 in
    let name = w r.name b.0 in
    let above = parent r.parent b.1 in
    λ i. record { name = name i; code = r.code; parent = above i; content = r.content } ∷ stay f g done w rows a.1 i
  where
    parent : (o : Option Ilk) → option_map_or (there done) o true ≡ true → option_map g o ≡ option_map f o
    parent None e = refl
    parent (Some n) e = ap (λ (m : Ilk). Some m) (w n e)

themselves : (done : List Row) → list_all (λ (r : Row). there done r.name) done ≡ true
themselves done = all_among (λ (r : Row). there done r.name) done (λ x a. let s = among_split x done a in subst (λ (l : List Row). not (is_none (find (λ (r : Row). same_name r.name x.name) l)) ≡ true) (sym s.split) (at x s.front s.behind))
  where
    at : (x : Row) (front behind : List Row) → not (is_none (find (λ (r : Row). same_name r.name x.name) (front ++ x ∷ behind))) ≡ true
    at x [] behind = ap (λ (b : Bool). not (is_none (cond b (Some x) (find (λ (r : Row). same_name r.name x.name) behind)))) (name_itself x.name)
    at x (y ∷ front) behind = by (same_name y.name x.name) (at x front behind)
      where
        by : (b : Bool) → not (is_none (find (λ (r : Row). same_name r.name x.name) (front ++ x ∷ behind))) ≡ true → not (is_none (cond b (Some y) (find (λ (r : Row). same_name r.name x.name) (front ++ x ∷ behind)))) ≡ true
        by true go = refl
        by false go = go

path_there : (schema : Schema) (done path : List Row) → AreOnPath schema done path → list_all (is_there done) path ≡ true
path_there schema done [] on = refl
path_there schema done (r ∷ path) on =
    and_from (is_there done r) (list_all (is_there done) path)
    (and_from (there done r.name) (option_map_or (there done) r.parent true) (ap (λ (o : Option Row). not (is_none o)) on.0.newest.found) (first_is_there schema done path r.parent on.0.parent on.1))
    (path_there schema done path on.1)

-- ---- what stands is the rows under other names

record Mirrors (schema : Schema) (f : Ilk → Ilk) (done : List Row) (at : Standing) : Type 0 where
  apart : StayApart f
  rows : at.rows ≡ map (renamed f) done
  path : at.path ≡ map (renamed f) (reverse (left_by schema done))

abbrev renamed_new : (Ilk → Ilk) → Row → Row
renamed_new f row = coming (option_map f row.parent) row.code row.content

up_is : (schema : Schema) (f : Ilk → Ilk) (done more : List Row) (row : Row) (at : Standing) → IsKept schema → IsTop schema done row ⊎ IsChild schema done row → Mirrors schema f done at
    → parent_path schema.types at.path row.code ≡ map (renamed f) (reverse (above_in_path schema done row))
up_is schema f done more row at k is m =
    ap (λ (l : List Row). parent_path schema.types l row.code) m.path ∙ parent_path_same schema.types f row.code (reverse (left_by schema done)) ∙ ap (map (renamed f)) (parent_path_is schema done row k is)

said_so : (schema : Schema) (f : Ilk → Ilk) (done more : List Row) (row : Row) (at : Standing) → IsKept schema → IsTop schema done row ⊎ IsChild schema done row → Mirrors schema f done at → SaysRow schema.types row
    → row_said schema.types at.path (fields_said schema.types row) ≡ renamed_new f row
said_so schema f done more row at k is m says =
    said_is schema.types at.path (fields_said schema.types row) row.code row.content says.code says.content
    ∙ ap (λ (l : List Row). coming (first_name l) row.code row.content) (up_is schema f done more row at k is m)
    ∙ ap (λ (o : Option Ilk). coming o row.code row.content) (first_same f (reverse (above_in_path schema done row)) ∙ ap (option_map f) (parent_is_first schema done row is))

only_room : (schema : Schema) (f : Ilk → Ilk) (done more : List Row) (row : Row) (at : Standing) (code : List ℕ) → IsKept schema → IsTotalOrder (root_cmp schema) → Rows schema done row more → Ancestries schema (done ++ row ∷ more)
    → Mirrors schema f done at → SaysRow schema.types row → refusal_of schema at (fields_said schema.types row) ≡ Some code → code ≡ codes "+R"
only_room schema f done more row at code k total parts ancestries m says refused =
    by (nat_lt at.free (load_need schema done (coming row.parent row.code row.content)))
    (sym (first_none (text_refusals schema.types (fields_said schema.types row)) (row_refusals schema at.rows at.free (row_said schema.types at.path (fields_said schema.types row))) says.kept
    ∙ ap (λ (r : Row). first_that_holds (row_refusals schema at.rows at.free r)) (said_so schema f done more row at k (above_of schema done more row k parts) m says)
    ∙ ap (λ (l : List Row). first_that_holds (row_refusals schema l at.free (renamed_new f row))) m.rows
    ∙ ap first_that_holds (refused_same schema f m.apart done at.free row.parent row.code row.content)
    ∙ room_alone schema k total done more row at.free parts ancestries) ∙ refused)
  where
    by : (b : Bool) → cond b (Some (codes "+R")) None ≡ Some code → code ≡ codes "+R"
    by true e = let is : codes "+R" ≡ code = cc e in sym is
    by false e = cc e

record Moved (schema : Schema) (done : List Row) (row : Row) (at : Standing) (t : Taken) : Type 0 where
  name : Ilk → Ilk
  mirrors : Mirrors schema name (done ++ row ∷ []) (stands_after schema at t)

step : (schema : Schema) (f : Ilk → Ilk) (done more : List Row) (row : Row) (at : Standing) (t : Taken) (free : ℕ) → IsKept schema → Rows schema done row more → Keeps schema (owned schema done free)
    → Mirrors schema f done at → SaysRow schema.types row → Loads schema at (fields_said schema.types row) t → Moved schema done row at t
step schema f done more row at t free k parts keeps m says loads =
    let is = above_of schema done more row k parts in
    let g : Ilk → Ilk = λ n. swapped (f row.name) t.row.name (f n) in
    let new : is_new_name (map (renamed f) done) t.row.name ≡ true = subst (λ (l : List Row). is_new_name l t.row.name ≡ true) m.rows loads.new in
    let agree = agrees f done more row t.row.name m.apart parts.named new in
    let up = climbed schema done (parent_code schema.types row.code) None (reverse (left_by schema done)) (record { siblings = keeps.carried.childless; on_path = keeps.carried.on_path; apart = keeps.carried.apart }) in
    let on : AreOnPath schema done (reverse (above_in_path schema done row)) = subst (AreOnPath schema done) (parent_path_is schema done row k is) up.on_path in
    let parent : option_map_or (there done) row.parent true ≡ true = first_is_there schema done (reverse (above_in_path schema done row)) row.parent (sym (parent_is_first schema done row is)) on in
    let taken : t.row ≡ with_name (coming (option_map f row.parent) row.code row.content) t.row.name = loads.said ∙ ap (λ (r : Row). with_name r t.row.name) (said_so schema f done more row at k is m says) in
    let named : swapped (f row.name) t.row.name (f row.name) ≡ t.row.name = ap (λ (b : Bool). cond b t.row.name (cond (same_name (f row.name) t.row.name) (f row.name) (f row.name))) (name_itself (f row.name)) in
    let above = parent_stays row.parent parent agree in
    let moved : renamed (λ n. swapped (f row.name) t.row.name (f n)) row ≡ t.row = (λ i. record { name = named i; code = row.code; parent = above i; content = row.content }) ∙ sym taken in
    let rows_stay = stay f (λ n. swapped (f row.name) t.row.name (f n)) done agree done (all_both (λ (r : Row). there done r.name) (λ (r : Row). option_map_or (there done) r.parent true) (is_there done) (λ r a b. and_from (there done r.name) (option_map_or (there done) r.parent true) a b) done (themselves done) keeps.carried.parents) in
    let path_stays = stay f (λ n. swapped (f row.name) t.row.name (f n)) done agree (reverse (above_in_path schema done row)) (path_there schema done (reverse (above_in_path schema done row)) on) in
    let place : load_place schema (map (renamed f) done) t.row ≡ length (map (renamed f) done) =
    ap (load_place schema (map (renamed f) done)) taken ∙ place_same schema f m.apart done row.parent row.code row.content ∙ placed_last schema done more row k parts is ∙ sym (length-map done (renamed f)) in
    record {
      name = g;
      mirrors = record {
        apart = swaps f (f row.name) t.row.name m.apart;
        rows = ap (λ (l : List Row). with_loaded schema l t.row) m.rows ∙ insert_end (map (renamed f) done) (load_place schema (map (renamed f) done) t.row) t.row place
            ∙ (λ i. sym rows_stay i ++ sym moved i ∷ []) ∙ sym (map-append (renamed (λ n. swapped (f row.name) t.row.name (f n))) done (row ∷ []));
        path = (λ i. sym moved i ∷ (ap (λ (c : ℕ). parent_path schema.types at.path c) (ap (λ (r : Row). r.code) taken) ∙ up_is schema f done more row at k is m ∙ sym path_stays) i)
            ∙ ap (map (renamed (λ n. swapped (f row.name) t.row.name (f n)))) (sym (ap (λ (l : List Row). reverse l) (after_append (row_level schema.types) [] done (row ∷ [])) ∙ turned_push (above_in_path schema done row) row));
      };
    }
  where
    parent_stays : (o : Option Ilk) → option_map_or (there done) o true ≡ true → ((n : Ilk) → there done n ≡ true → swapped (f row.name) t.row.name (f n) ≡ f n) → option_map (λ n. swapped (f row.name) t.row.name (f n)) o ≡ option_map f o
    parent_stays None e agree = refl
    parent_stays (Some n) e agree = ap (λ (m : Ilk). Some m) (agree n e)

-- ---- row by row

abbrev enough : Schema → ℕ
enough schema = 3 + length schema.indexes

record Known (schema : Schema) : Type 0 where
  kept : SchemasAreKept
  total : IsTotalOrder (root_cmp schema)
  taking : TakingKeeps

own_next : (schema : Schema) (done more : List Row) (row : Row) → Known schema → Rows schema done row more → Ancestries schema (done ++ row ∷ more) → SaysRow schema.types row → Keeps schema (owned schema done (enough schema)) → Keeps schema (owned schema (done ++ row ∷ []) (enough schema))
own_next schema done more row known parts ancestries says keeps =
    let n = next schema (known.kept schema) known.total done more row (enough schema) parts ancestries (omega arith) says in
    subst (Keeps schema) n.after (load_steps schema (owned schema done (enough schema)) (fields_said schema.types row) (record { row = row; free = enough schema }) known.kept known.taking keeps n.loads)

record AllBack (schema : Schema) (rows : List Row) (at : Standing) : Type 0 where
  name : Ilk → Ilk
  rows_are : at.rows ≡ map (renamed name) rows

all_back : (schema : Schema) (f : Ilk → Ilk) (done more : List Row) (at : Standing) (taken : List Taken) → Known schema → Parts schema (done ++ more) → Ancestries schema (done ++ more) → AllByRecursion (SaysRow schema.types) more
    → Keeps schema (owned schema done (enough schema)) → Mirrors schema f done at → AreLoaded schema at (map (fields_said schema.types) more) taken → AllBack schema (done ++ more) (stands_after_all schema at taken)
all_back schema f done [] at [] known parts ancestries says keeps m loaded = record { name = f; rows_are = m.rows ∙ ap (map (renamed f)) (sym (append-nil done)) }
all_back schema f done [] at (t ∷ taken) known parts ancestries says keeps m loaded = absurd loaded
all_back schema f done (row ∷ more) at [] known parts ancestries says keeps m loaded = absurd loaded
all_back schema f done (row ∷ more) at (t ∷ taken) known parts ancestries says keeps m loaded =
    let e : (done ++ row ∷ []) ++ more ≡ done ++ row ∷ more = append_assoc done (row ∷ []) more in
    let s = step schema f done more row at t (enough schema) (known.kept schema) parts keeps m says.0 loaded.0 in
    let go = all_back schema s.name (done ++ row ∷ []) more (stands_after schema at t) taken known (subst (Parts schema) (sym e) parts) (subst (Ancestries schema) (sym e) ancestries) says.1
    (own_next schema done more row known parts ancestries says.0 keeps) s.mirrors loaded.1 in
    record { name = go.name; rows_are = go.rows_are ∙ ap (map (renamed go.name)) e }

refused_back : (schema : Schema) (f : Ilk → Ilk) (done more : List Row) (at : Standing) (before : List (List (List ℕ))) (fields : List (List ℕ)) (behind : List (List (List ℕ))) (taken : List Taken) (code : List ℕ)
    → Known schema → Parts schema (done ++ more) → Ancestries schema (done ++ more) → AllByRecursion (SaysRow schema.types) more
    → Keeps schema (owned schema done (enough schema)) → Mirrors schema f done at → map (fields_said schema.types) more ≡ before ++ fields ∷ behind → AreLoaded schema at before taken
    → refusal_of schema (stands_after_all schema at taken) fields ≡ Some code → code ≡ codes "+R"
refused_back schema f done [] at [] fields behind taken code known parts ancestries says keeps m split loaded refused = cc split
refused_back schema f done [] at (b ∷ before) fields behind taken code known parts ancestries says keeps m split loaded refused = cc split
refused_back schema f done (row ∷ more) at [] fields behind [] code known parts ancestries says keeps m split loaded refused =
    let is : fields_said schema.types row ≡ fields = cc split in
    only_room schema f done more row at code (known.kept schema) known.total parts ancestries m says.0 (ap (refusal_of schema at) is ∙ refused)
refused_back schema f done (row ∷ more) at [] fields behind (t ∷ taken) code known parts ancestries says keeps m split loaded refused = absurd loaded
refused_back schema f done (row ∷ more) at (b ∷ before) fields behind [] code known parts ancestries says keeps m split loaded refused = absurd loaded
refused_back schema f done (row ∷ more) at (b ∷ before) fields behind (t ∷ taken) code known parts ancestries says keeps m split loaded refused =
    let is : fields_said schema.types row ≡ b = cc split in
    let rest : map (fields_said schema.types) more ≡ before ++ fields ∷ behind = cc split in
    let e : (done ++ row ∷ []) ++ more ≡ done ++ row ∷ more = append_assoc done (row ∷ []) more in
    let s = step schema f done more row at t (enough schema) (known.kept schema) parts keeps m says.0 (subst (λ (l : List (List ℕ)). Loads schema at l t) (sym is) loaded.0) in
    refused_back schema s.name (done ++ row ∷ []) more (stands_after schema at t) before fields behind taken code known (subst (Parts schema) (sym e) parts) (subst (Ancestries schema) (sym e) ancestries) says.1
    (own_next schema done more row known parts ancestries says.0 keeps) s.mirrors rest loaded.1 refused

none_yet : (schema : Schema) (free : ℕ) → Mirrors schema (λ n. n) [] (begin free)
none_yet schema free = record { apart = record { same = λ a b. refl }; rows = refl; path = refl }

pub comes_back : SchemasAreKept → ((schema : Schema) → IsTotalOrder (root_cmp schema)) → PathsAreAncestries → TakingKeeps → UnloadedRowsAreSaid → UnloadedRowsComeBack
comes_back kept total ancestries taking said schema rows old new result forest bytes did = by result did
  where
    parts : Parts schema rows
    parts = parts_of schema rows forest

    known : Known schema
    known = record { kept = kept; total = total schema; taking = taking }

    by : (r : Result ℕ LoadFault) → LoadsTold schema (unloaded schema.types rows) [] old new r → ComesBack rows new r
    by (Ok count) h =
        let text = said schema rows parts.long bytes in
        let all = all_back schema (λ n. n) [] rows (begin old.free) h.1.taken known parts (ancestries schema rows forest) text.says (none_keeps schema (enough schema)) (none_yet schema old.free)
        (subst (λ (l : List (List (List ℕ))). AreLoaded schema (begin old.free) l h.1.taken) text.records h.1.loaded) in
        record {
          count_is = h.1.count_is ∙ ap length text.records ∙ length-map rows (fields_said schema.types);
          name = all.name;
          rows_now = h.1.rows_now ∙ ap (λ (l : List Row). Some l) all.rows_are;
        }
    by (Err NotEmpty) h = h.0 refl
    by (Err (BrokenRow number code)) h =
        let text = said schema rows parts.long bytes in
        refused_back schema (λ n. n) [] rows (begin old.free) h.1.before h.1.fields h.1.behind h.1.taken code known parts (ancestries schema rows forest) text.says (none_keeps schema (enough schema)) (none_yet schema old.free)
        (sym text.records ∙ h.1.split) h.1.loaded h.1.refused
    by (Err Failed) h = tt
    by (Err Memory) h = tt
