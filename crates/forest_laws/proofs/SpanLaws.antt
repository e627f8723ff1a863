-- What a span is, and what a cut leaves where it was.
use Rattle.std.proofs.Common.{◌≡◌, ℕ, nat_lt, Bool, true, false, not, cond, ◌||◌, List, [], ◌∷◌, ◌++◌, map, Some, ◌⊎◌, inl, inr, refl, sym, ap, subst, ◌∙◌, arith}
use Rattle.std.specs.Prelude.{filter, is_none}
use Rattle.std.specs.List.{list_all, list_any}
use Rattle.std.proofs.lemmas.Bool.{and_parts, and_from, or_left, or_right, ltb-true, lt-ltb, not-true, not_from_false, not_from_true}
use Rattle.std.proofs.lemmas.List.{append_assoc, append-nil}
use Rattle.std.proofs.lemmas.List.Elements.{filter-append}
use Rattle.hal_base.specs.declared.place.Ilk.{Ilk}
use Rattle.hal_schema.specs.declared.row.Row.{Row}
use Rattle.hal_schema.specs.declared.schema.Schema.{Schema}
use Rattle.hal_schema.specs.Row.{same_name, is_new_name, row_named, row_level}
use Rattle.hal_schema.specs.Paths.{path_with, path_after, with_paths, paths_of}
use Rattle.hal_schema.specs.Span.{span_of, without_span}
use Rattle.hal_schema.specs.Forest.{all_pairs, names_apart}
use Rattle.forest_laws.specs.Spans.{is_on, SpansAreBelow, IsCut, CutsAreSpans, those_in, CutsLeaveAnchors}
use Rattle.forest_laws.proofs.Lists.{Among, among_passes, among_append, among_left, among_right, all_among, all_append, all_parts, all_weaker, filter_all, filter_none, all_in_filtered, all_filtered, PairsParts, pairs_parts}
use Rattle.hal_schema.proofs.RowNames.{name_is, name_from}
use Rattle.forest_laws.proofs.Names.{apart_names, others_behind}
use Rattle.forest_laws.proofs.Carried.{is_above, above_in, with_append, passed_over}
use Rattle.forest_laws.proofs.Parents.{Parts, parts_of}
use Rattle.forest_laws.proofs.CutKeeps.{CutAt, NoCut, cut_of}
use Rattle.forest_laws.proofs.PathLaws.{path_within, paths_go_on}

-- ---- a cut

pub cuts_are_spans : CutsAreSpans
cuts_are_spans schema rows name = by (cut_of schema.types rows name)
  where
    by : CutAt schema.types rows name ⊎ NoCut schema.types rows name → IsCut schema rows name
    by (inl c) = record { front = c.front; back = c.back; whole = c.split ∙ ap (λ (l : List Row). c.front ++ (l ++ c.back)) (sym c.span); cut = c.without }
    by (inr c) = record { front = []; back = rows; whole = ap (λ (l : List Row). l ++ rows) (sym c.span); cut = c.without }

-- ---- anchors

-- a row among the rows has no new name
known_by : (rows : List Row) (row : Row) → Among row rows → is_new_name rows row.name ≡ false
known_by [] row h = absurd h
known_by (r ∷ rows) row (inl e) = ap (λ b. is_none (cond b (Some r) (row_named rows row.name))) (name_from r.name row.name (ap (λ (x : Row). x.name) e))
known_by (r ∷ rows) row (inr h) = by (same_name r.name row.name) (known_by rows row h)
  where
    by : (b : Bool) → is_none (row_named rows row.name) ≡ false → is_none (cond b (Some r) (row_named rows row.name)) ≡ false
    by true e = refl
    by false e = e

kept_rows : (rows part : List Row) → ((x : Row) → Among x part → Among x rows) → those_in rows part ≡ part
kept_rows rows part h =
    filter_all (λ row. not (is_new_name rows row.name)) part (all_among (λ row. not (is_new_name rows row.name)) part (λ x a. not_from_false (is_new_name rows x.name) (known_by rows x (h x a))))

new_by : (rows : List Row) (row : Row) → list_all (λ r. not (same_name r.name row.name)) rows ≡ true → is_new_name rows row.name ≡ true
new_by [] row h = refl
new_by (r ∷ rows) row h =
    let a = and_parts (not (same_name r.name row.name)) (list_all (λ r. not (same_name r.name row.name)) rows) h in
    ap (λ b. is_none (cond b (Some r) (row_named rows row.name))) (not-true (same_name r.name row.name) a.0) ∙ new_by rows row a.1

-- rows of other names are left out
left_out : (rows part : List Row) → ((x y : Row) → Among x part → Among y rows → y.name ≡ x.name → ⊥) → those_in rows part ≡ []
left_out rows part h =
    filter_none (λ row. not (is_new_name rows row.name)) part
    (all_among (λ row. not (not (is_new_name rows row.name))) part
    (λ x a. not_from_false (not (is_new_name rows x.name)) (not_from_true (is_new_name rows x.name) (new_by rows x (all_among (λ r. not (same_name r.name x.name)) rows (λ y b. other x y a b))))))
  where
    other : (x y : Row) → Among x part → Among y rows → not (same_name y.name x.name) ≡ true
    other x y a b = by (same_name y.name x.name) refl
      where
        by : (t : Bool) → same_name y.name x.name ≡ t → not t ≡ true
        by true e = absurd (h x y a b (name_is y.name x.name e))
        by false e = refl

-- a row of the middle part has no name of another part
apart_parts : (front middle back : List Row) → all_pairs names_apart (front ++ (middle ++ back)) ≡ true → (x y : Row) → Among x middle → Among y (front ++ back) → y.name ≡ x.name → ⊥
apart_parts front middle back h x y a b e = by (among_append y front back b)
  where
    p : PairsParts names_apart front (middle ++ back)
    p = pairs_parts names_apart front (middle ++ back) h

    q : PairsParts names_apart middle back
    q = pairs_parts names_apart middle back p.back

    by : Among y front ⊎ Among y back → ⊥
    by (inl f) = apart_names y x (among_passes (names_apart y) x (middle ++ back) (among_left x middle back a) (among_passes (λ z. list_all (names_apart z) (middle ++ back)) y front f p.across)) e
    by (inr g) = apart_names x y (among_passes (names_apart x) y back g (among_passes (λ z. list_all (names_apart z) back) x middle a q.across)) (sym e)

pub cuts_leave_anchors : CutsLeaveAnchors
cuts_leave_anchors schema rows name forest c =
    let span = span_of schema.types rows name in
    let left = without_span schema.types rows name in
    let parts = parts_of schema rows forest in
    let apart = subst (λ (l : List Row). all_pairs names_apart l ≡ true) c.whole parts.named in
    let stays : (part : List Row) → ((x : Row) → Among x part → Among x (c.front ++ c.back)) → those_in left part ≡ part = λ part h. kept_rows left part (λ x a. subst (λ (l : List Row). Among x l) (sym c.cut) (h x a)) in
    let goes : (part : List Row) → ((x : Row) → Among x part → Among x span) → those_in left part ≡ [] = λ part h.
    left_out left part (λ x y a b e. apart_parts c.front span c.back apart x y (h x a) (subst (λ (l : List Row). Among y l) c.cut b) e) in
    let test : Row → Bool = λ row. not (is_new_name left row.name) in
    let whole_front : those_in left c.front ≡ c.front = stays c.front (λ x a. among_left x c.front c.back a) in
    record {
      before = λ upto rest e. stays upto (λ x a. among_left x c.front c.back (subst (λ (l : List Row). Among x l) (sym e) (among_left x upto rest a)));
      within = λ upto rest e.
          filter-append test c.front upto ∙ ap (λ (l : List Row). l ++ those_in left upto) whole_front
          ∙ ap (λ (l : List Row). c.front ++ l) (goes upto (λ x a. subst (λ (l : List Row). Among x l) (sym e) (among_left x upto rest a))) ∙ append-nil c.front;
      behind = λ upto rest e.
          filter-append test c.front (span ++ upto) ∙ ap (λ (l : List Row). l ++ those_in left (span ++ upto)) whole_front
          ∙ ap (λ (l : List Row). c.front ++ l)
          (filter-append test span upto ∙ ap (λ (l : List Row). l ++ those_in left upto) (goes span (λ x a. a))
          ∙ stays upto (λ x a. among_right x c.front c.back (subst (λ (l : List Row). Among x l) (sym e) (among_left x upto rest a))));
    }

-- ---- a span

pub any_none : {X : Type 0} (p : X → Bool) (xs : List X) → list_all (λ x. not (p x)) xs ≡ true → list_any p xs ≡ false
any_none p [] h = refl
any_none p (x ∷ xs) h =
    let a = and_parts (not (p x)) (list_all (λ x. not (p x)) xs) h in
    ap (λ b. b || list_any p xs) (not-true (p x) a.0) ∙ any_none p xs a.1

pub any_middle : {X : Type 0} (p : X → Bool) (xs ys : List X) (x : X) → p x ≡ true → list_any p (xs ++ x ∷ ys) ≡ true
any_middle p [] ys x h = or_left (p x) (list_any p ys) h
any_middle p (y ∷ xs) ys x h = or_right (p y) (list_any p (xs ++ x ∷ ys)) (any_middle p xs ys x h)

-- the paths of a list of which no row passes, behind a path of which none does
pub paths_off : (level : Row → ℕ) (test : Row → Bool) (path rows : List Row) → list_all (λ r. not (test r)) path ≡ true → list_all (λ r. not (test r)) rows ≡ true → filter (λ (p : List Row × Row). list_any test p.0) (with_paths level path rows) ≡ []
paths_off level test path [] h k = refl
paths_off level test path (row ∷ rows) h k =
    let fails : Row → Bool = λ r. not (test r) in
    let a = and_parts (fails row) (list_all fails rows) k in
    let grown : list_all fails (path_with level path row) ≡ true = all_append fails (above_in level path row) (row ∷ []) (all_in_filtered fails (λ above. nat_lt (level above) (level row)) path h) (and_from (fails row) true a.0 refl) in
    let rest = filter (λ (p : List Row × Row). list_any test p.0) (with_paths level (path_with level path row) rows) in
    ap (λ b. cond b ((path_with level path row, row) ∷ rest) rest) (any_none test (path_with level path row) grown) ∙ paths_off level test (path_with level path row) rows grown a.1

-- all that goes on with a path that has the name
paths_on : (level : Row → ℕ) (name : Ilk) (front tail : List Row) (row : Row) (paths : List (List Row × Row)) → same_name row.name name ≡ true
    → map (λ (p : List Row × Row). p.1) (filter (λ (p : List Row × Row). is_on name p.0) (map (λ (p : List Row × Row). ((front ++ row ∷ tail) ++ p.0, p.1)) paths)) ≡ map (λ (p : List Row × Row). p.1) paths
paths_on level name front tail row [] h = refl
paths_on level name front tail row (p ∷ paths) h =
    let on : is_on name ((front ++ row ∷ tail) ++ p.0) ≡ true =
    ap (is_on name) (append_assoc front (row ∷ tail) p.0) ∙ any_middle (λ r. same_name r.name name) front (tail ++ p.0) row h in
    let rest = filter (λ (q : List Row × Row). is_on name q.0) (map (λ (p : List Row × Row). ((front ++ row ∷ tail) ++ p.0, p.1)) paths) in
    ap (λ b. map (λ (p : List Row × Row). p.1) (cond b (((front ++ row ∷ tail) ++ p.0, p.1) ∷ rest) rest)) on ∙ ap (λ (l : List Row). p.1 ∷ l) (paths_on level name front tail row paths h)

pub paths_rows : (level : Row → ℕ) (path rows : List Row) → map (λ (p : List Row × Row). p.1) (with_paths level path rows) ≡ rows
paths_rows level path [] = refl
paths_rows level path (row ∷ rows) = ap (λ (l : List Row). row ∷ l) (paths_rows level (path_with level path row) rows)

span_at : (schema : Schema) (rows : List Row) (name : Ilk) → Parts schema rows → (c : CutAt schema.types rows name) → c.row ∷ c.below ≡ map (λ (p : List Row × Row). p.1) (filter (λ (p : List Row × Row). is_on name p.0) (paths_of schema.types rows))
span_at schema rows name parts c =
    let level = row_level schema.types in
    let on : List Row × Row → Bool = λ p. is_on name p.0 in
    let second : List Row × Row → Row = λ p. p.1 in
    let test : Row → Bool = λ r. not (same_name r.name name) in
    let above = path_after level [] c.front in
    let path = path_with level above c.row in
    let first = with_paths level [] c.front in
    let mid = with_paths level path c.below in
    let last = with_paths level above c.back in
    let all : paths_of schema.types rows ≡ first ++ ((path, c.row) ∷ (mid ++ last)) =
    ap (paths_of schema.types) c.split ∙ with_append level [] c.front (c.row ∷ (c.below ++ c.back))
    ∙ ap (λ (l : List (List Row × Row)). first ++ ((path, c.row) ∷ l)) (with_append level path c.below c.back)
    ∙ ap (λ (l : List (List Row × Row)). first ++ ((path, c.row) ∷ (mid ++ l))) (passed_over level above (c.row ∷ c.below) c.back c.next) in
    let behind = all_parts test c.below c.back (others_behind c.front (c.below ++ c.back) c.row name (subst (λ (l : List Row). all_pairs names_apart l ≡ true) c.split parts.named) c.named) in
    let off_above : list_all test above ≡ true = all_among test above (λ x a. among_passes test x c.front (path_within level x c.front a) c.others) in
    let none_first : filter on first ≡ [] = paths_off level (λ r. same_name r.name name) [] c.front refl c.others in
    let none_last : filter on last ≡ [] = paths_off level (λ r. same_name r.name name) above c.back off_above behind.1 in
    let here : on (path, c.row) ≡ true = any_middle (λ r. same_name r.name name) (above_in level above c.row) [] c.row c.named in
    let deep : list_all (λ x. list_all (λ a. nat_lt (level a) (level x)) path) c.below ≡ true =
    all_weaker (is_above level c.row) (λ x. list_all (λ a. nat_lt (level a) (level x)) path)
    (λ x h.
    let l = ltb-true (level c.row) (level x) h in
    all_append (λ a. nat_lt (level a) (level x)) (above_in level above c.row) (c.row ∷ [])
    (all_weaker (λ a. nat_lt (level a) (level c.row)) (λ a. nat_lt (level a) (level x)) (λ a k. let m = ltb-true (level a) (level c.row) k in lt-ltb (level a) (level x) (omega (arith, l, m))) (above_in level above c.row) (all_filtered (λ a. nat_lt (level a) (level c.row)) above))
    (and_from (nat_lt (level c.row) (level x)) true h refl)) c.below c.deeper in
    let go_on : mid ≡ map (λ (p : List Row × Row). (path ++ p.0, p.1)) (with_paths level [] c.below) = paths_go_on Row level path c.below deep in
    let inner : map second (filter on mid) ≡ c.below =
    ap (λ (l : List (List Row × Row)). map second (filter on l)) go_on ∙ paths_on level name (above_in level above c.row) [] c.row (with_paths level [] c.below) c.named ∙ paths_rows level [] c.below in
    let filtered : filter on (paths_of schema.types rows) ≡ (path, c.row) ∷ filter on mid =
    ap (filter on) all ∙ filter-append on first ((path, c.row) ∷ (mid ++ last)) ∙ ap (λ (l : List (List Row × Row)). l ++ filter on ((path, c.row) ∷ (mid ++ last))) none_first
    ∙ ap (λ b. cond b ((path, c.row) ∷ filter on (mid ++ last)) (filter on (mid ++ last))) here
    ∙ ap (λ (l : List (List Row × Row)). (path, c.row) ∷ l) (filter-append on mid last ∙ ap (λ (l : List (List Row × Row)). filter on mid ++ l) none_last ∙ append-nil (filter on mid)) in
    sym (ap (map second) filtered ∙ ap (λ (l : List Row). c.row ∷ l) inner)

pub spans_are_below : SpansAreBelow
spans_are_below schema rows name forest = by (cut_of schema.types rows name)
  where
    by : CutAt schema.types rows name ⊎ NoCut schema.types rows name → span_of schema.types rows name ≡ map (λ (p : List Row × Row). p.1) (filter (λ (p : List Row × Row). is_on name p.0) (paths_of schema.types rows))
    by (inl c) = c.span ∙ span_at schema rows name (parts_of schema rows forest) c
    by (inr c) = c.span ∙ sym (ap (map (λ (p : List Row × Row). p.1)) (paths_off (row_level schema.types) (λ r. same_name r.name name) [] rows refl c.none))
