-- Steps over lists: what is done and what is left make the whole.
use Rattle.std.proofs.Common.{◌≡◌, ℕ, suc, ◌<◌, ◌≤◌, ◌+◌, ◌-◌, Bool, true, false, cond, List, [], ◌∷◌, ◌++◌, length, map, take, drop, get_or, Option, None, Some, refl, sym, ap, ◌∙◌, arith, append_assoc, add-one, drop-cons, length-drop}
use Rattle.std.proofs.Math.Seq.{take-length}
use Rattle.std.specs.Prelude.{flat_map, find, filter, ◌==◌, option_and_then, is_none, filter_map}
use Rattle.std.specs.List.{slice_get, prefix_len, take_while, cons_option}
use Rattle.std.proofs.lemmas.Bool.{true≢false, ne_eqb, eq-eqb}
use Rattle.std.proofs.lemmas.List.{append-nil, drop_all, map-append}
use Rattle.std.proofs.lemmas.List.Folds.{flat_map-map}
use Rattle.hal_base.specs.declared.place.Ilk.{Ilk}
use Rattle.hal_schema.specs.declared.row.Row.{Row}
use Rattle.hal_schema.specs.declared.schema.IndexDef.{IndexDef}
use Rattle.hal_schema.specs.declared.schema.SegType.{SegType}
use Rattle.hal_schema.specs.Row.{same_name, row_key}
use Rattle.hal_schema.specs.Paths.{path_with, with_paths, concatenated_key}
use Rattle.hal_schema.specs.Span.{is_deeper, span_of}
use Rattle.hal_schema.specs.Entry.{Entry, entry_key, entry_of, entries_by_row}
use Rattle.position_state.specs.declared.list_entries.IndexEntry.{IndexEntry}
use Rattle.position_state.specs.Entries.{entry_seen}
use Rattle.position_state.specs.View.{root_key_of}

pub left_is : {X : Type 0} (xs : List X) (i : ℕ) (x : X) → i < length xs → x ≡ get_or xs i x → drop i xs ≡ x ∷ drop (i + 1) xs
left_is xs i x h e = drop-cons xs i x h ∙ ap (λ y. y ∷ drop (suc i) xs) (sym e) ∙ ap (λ n. x ∷ drop n xs) (sym (add-one i))

-- one row more, with its path; E is made row by row
pub path_step : {X : Type 0} (E : List (List Row × Row) → List X) → ((p : List Row × Row) (ps : List (List Row × Row)) → E (p ∷ ps) ≡ E (p ∷ []) ++ E ps)
    → (level : Row → ℕ) (done more whole : List X) (path new rows : List Row) (i : ℕ) (row : Row)
    → whole ≡ done ++ E (with_paths level path (drop i rows)) → drop i rows ≡ row ∷ drop (i + 1) rows → new ≡ path_with level path row → more ≡ done ++ E ((new, row) ∷ [])
    → whole ≡ more ++ E (with_paths level new (drop (i + 1) rows))
path_step {X} E law level done more whole path new rows i row h e p m =
    h ∙ ap (λ rs. done ++ E (with_paths level path rs)) e
    ∙ ap (λ q. done ++ E ((q, row) ∷ with_paths level q (drop (i + 1) rows))) (sym p)
    ∙ ap (λ xs. done ++ xs) (law (new, row) (with_paths level new (drop (i + 1) rows)))
    ∙ sym (append_assoc done (E ((new, row) ∷ [])) (E (with_paths level new (drop (i + 1) rows))))
    ∙ ap (λ (xs : List X). xs ++ E (with_paths level new (drop (i + 1) rows))) (sym m)

cons_parts : {X : Type 0} (o : Option X) (rest : List X) → cons_option o rest ≡ cons_option o [] ++ rest
cons_parts None rest = refl
cons_parts (Some x) rest = refl

pub entries_parts : (types : List SegType) (index : IndexDef) (p : List Row × Row) (ps : List (List Row × Row))
    → entries_by_row types index (p ∷ ps) ≡ entries_by_row types index (p ∷ []) ++ entries_by_row types index ps
entries_parts types index p ps = by (p.1.code == index.source)
  where
    by : (b : Bool) → filter_map (λ (q : List Row × Row). entry_of types index q.0 q.1) (cond b (p ∷ filter (λ q. q.1.code == index.source) ps) (filter (λ q. q.1.code == index.source) ps))
        ≡ filter_map (λ (q : List Row × Row). entry_of types index q.0 q.1) (cond b (p ∷ []) []) ++ entries_by_row types index ps
    by true = cons_parts (entry_of types index p.0 p.1) (entries_by_row types index ps)
    by false = refl

pub one_entry : (types : List SegType) (index : IndexDef) (p : List Row × Row) → p.1.code ≡ index.source → entries_by_row types index (p ∷ []) ≡ cons_option (entry_of types index p.0 p.1) []
one_entry types index p e =
    ap (λ b. filter_map (λ (q : List Row × Row). entry_of types index q.0 q.1) (cond b (p ∷ []) [])) (eq-eqb p.1.code index.source e)

no_target : (types : List SegType) (index : IndexDef) (path : List Row) (row : Row) → find (λ r. r.code == index.target) path ≡ None → entry_of types index path row ≡ None
no_target types index path row f =
    ap (λ o. option_and_then (λ (key : List ℕ). option_and_then (λ (target : Row). option_and_then (λ (root : Row). let e : Entry = record { key = key; target = target.name; root = row_key types root } in Some e) (slice_get path 0)) o) (entry_key index row.content (concatenated_key types path))) f

pub no_entry : (types : List SegType) (index : IndexDef) (p : List Row × Row) → (p.1.code ≡ index.source → ⊥) → entries_by_row types index (p ∷ []) ≡ []
no_entry types index p n =
    ap (λ b. filter_map (λ (q : List Row × Row). entry_of types index q.0 q.1) (cond b (p ∷ []) [])) (ne_eqb p.1.code index.source n)

-- the row's entry has the target on its path
pub entry_made : (types : List SegType) (index : IndexDef) (path : List Row) (row target : Row) (key : List ℕ) → find (λ r. r.code == index.target) path ≡ Some target
    → entry_key index row.content (concatenated_key types path) ≡ Some key
    → entry_of types index path row ≡ Some (record { key = key; target = target.name; root = root_key_of types path })
entry_made types index [] row target key f k = absurd (true≢false (ap is_none f))
entry_made types index (r ∷ path) row target key f k =
    ap (λ o. option_and_then (λ (key : List ℕ). option_and_then (λ (target : Row). option_and_then (λ (root : Row). let e : Entry = record { key = key; target = target.name; root = row_key types root } in Some e) (Some r)) (find (λ r. r.code == index.target) (r ∷ path))) o) k
    ∙ ap (λ o. option_and_then (λ (target : Row). let e : Entry = record { key = key; target = target.name; root = row_key types r } in Some e) o) f

pub flat_step : {X Y : Type 0} (F : X → List Y) (whole done more : List Y) (xs : List X) (i : ℕ) (x : X)
    → whole ≡ done ++ flat_map F (drop i xs) → drop i xs ≡ x ∷ drop (i + 1) xs → more ≡ done ++ F x → whole ≡ more ++ flat_map F (drop (i + 1) xs)
flat_step {X} {Y} F whole done more xs i x h e m =
    h ∙ ap (λ (ys : List X). done ++ flat_map F ys) e
    ∙ sym (append_assoc done (F x) (flat_map F (drop (i + 1) xs)))
    ∙ ap (λ (ys : List Y). ys ++ flat_map F (drop (i + 1) xs)) (sym m)

pub flat_end : {Y : Type 0} (F : Entry → List Y) (shown : List IndexEntry) (entries : List Entry) (view : List Y) (i : ℕ)
    → flat_map (λ e. F (entry_seen e)) shown ≡ view ++ flat_map (λ e. F (entry_seen e)) (drop i shown) → length shown ≤ i → map entry_seen shown ≡ entries → view ≡ flat_map F entries
flat_end F shown entries view i h n e =
    sym (append-nil view) ∙ ap (λ (xs : List IndexEntry). view ++ flat_map (λ e. F (entry_seen e)) xs) (sym (drop_all i shown n)) ∙ sym h
    ∙ sym (flat_map-map F entry_seen shown) ∙ ap (flat_map F) e

pub take_rest : {X : Type 0} (n : ℕ) (xs : List X) → take (length xs - n) (drop n xs) ≡ drop n xs
take_rest {X} n xs = ap (λ m. take m (drop n xs)) (sym (length-drop n xs)) ∙ take-length (drop n xs)

pub span_found : (types : List SegType) (rows : List Row) (name : Ilk) (place : ℕ) (row : Row) (below : ℕ)
    → span_of types rows name ≡ span_of types (drop place rows) name → drop place rows ≡ row ∷ drop (place + 1) rows → same_name row.name name ≡ true
    → below ≡ prefix_len (is_deeper types row) (drop (place + 1) rows) → take (place + 1 + below - place) (drop place rows) ≡ span_of types rows name
span_found types rows name place row below h e s b =
    let n : place + 1 + below - place ≡ suc below = omega arith in
    ap (λ m. take m (drop place rows)) n
    ∙ ap (take (suc below)) e
    ∙ ap (λ m. row ∷ take m (drop (place + 1) rows)) b
    ∙ sym (h ∙ ap (λ rs. span_of types rs name) e ∙ ap (λ t. cond t (row ∷ take_while (is_deeper types row) (drop (place + 1) rows)) (span_of types (drop (place + 1) rows) name)) s)

-- what pushing a row's entry leaves
pub pushed_none : (types : List SegType) (index : IndexDef) (path : List Row) (row : Row) (entries : List IndexEntry) → (row.code ≡ index.source → ⊥)
    → map entry_seen entries ≡ map entry_seen entries ++ entries_by_row types index ((path, row) ∷ [])
pushed_none types index path row entries n = sym (ap (λ es. map entry_seen entries ++ es) (no_entry types index (path, row) n) ∙ append-nil (map entry_seen entries))

pub pushed_untargeted : (types : List SegType) (index : IndexDef) (path : List Row) (row : Row) (entries : List IndexEntry) → row.code ≡ index.source → find (λ (r : Row). r.code == index.target) path ≡ None
    → map entry_seen entries ≡ map entry_seen entries ++ entries_by_row types index ((path, row) ∷ [])
pushed_untargeted types index path row entries n f =
    sym (ap (λ es. map entry_seen entries ++ es) (one_entry types index (path, row) n ∙ ap (λ o. cons_option o []) (no_target types index path row f)) ∙ append-nil (map entry_seen entries))

pub pushed_one : (types : List SegType) (index : IndexDef) (path : List Row) (row target : Row) (entries new : List IndexEntry) (entry : IndexEntry) → row.code ≡ index.source
    → find (λ (r : Row). r.code == index.target) path ≡ Some target → entry_key index row.content (concatenated_key types path) ≡ Some entry.key → entry.target ≡ target.name → entry.root ≡ root_key_of types path
    → new ≡ entries ++ entry ∷ [] → map entry_seen new ≡ map entry_seen entries ++ entries_by_row types index ((path, row) ∷ [])
pushed_one types index path row target entries new entry n f k t r m =
    ap (λ (es : List IndexEntry). map entry_seen es) m ∙ map-append entry_seen entries (entry ∷ [])
    ∙ ap (λ (es : List Entry). map entry_seen entries ++ es) (ap (λ (e : Entry). e ∷ []) (λ i. record { key = entry.key; target = t i; root = r i }) ∙ ap (λ (o : Option Entry). cons_option o []) (sym (entry_made types index path row target entry.key f k)) ∙ sym (one_entry types index (path, row) n))
