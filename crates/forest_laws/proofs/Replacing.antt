-- A row with new content in its place: the rows, and their paths.
use Rattle.std.proofs.Common.{◌≡◌, ℕ, nat_lt, Bool, true, false, not, cond, ◌&&◌, List, [], ◌∷◌, ◌++◌, map, refl, sym, ap, ◌∙◌, Some, None}
use Rattle.std.specs.Prelude.{filter}
use Rattle.std.specs.List.{list_all}
use Rattle.std.specs.Str.{bytes_eq}
use Rattle.std.proofs.lemmas.Bool.{and_parts, and_from, not-true}
use Rattle.std.proofs.lemmas.List.{map-append}
use Rattle.std.proofs.lemmas.Slice.Eq.{bytes_eq-Decides}
use Rattle.hal_base.specs.declared.place.Ilk.{Ilk}
use Rattle.hal_schema.specs.declared.row.Row.{Row}
use Rattle.hal_schema.specs.declared.schema.SegType.{SegType}
use Rattle.hal_schema.specs.Row.{same_name, row_level, row_key}
use Rattle.hal_schema.specs.Paths.{path_with, with_paths}
use Rattle.hal_schema.specs.Span.{with_content, replaced}
use Rattle.hal_schema.specs.Forest.{is_child_of, is_path}

-- a row of this name with this content, where that keeps its sequence field
abbrev pub renewed : List SegType → Ilk → List ℕ → Row → Row
renewed types name content row = cond (same_name row.name name && bytes_eq (row_key types (with_content row content)) (row_key types row)) (with_content row content) row

abbrev renewed_by : Bool → List ℕ → Row → Row
renewed_by b content row = cond b (with_content row content) row

pub renewed_key : (types : List SegType) (name : Ilk) (content : List ℕ) (row : Row) → row_key types (renewed types name content row) ≡ row_key types row
renewed_key types name content row = by (same_name row.name name) (bytes_eq (row_key types (with_content row content)) (row_key types row)) refl
  where
    by : (a b : Bool) → bytes_eq (row_key types (with_content row content)) (row_key types row) ≡ b → row_key types (renewed_by (a && b) content row) ≡ row_key types row
    by true true e = (bytes_eq-Decides (row_key types (with_content row content)) (row_key types row)).0 e
    by true false e = refl
    by false b e = refl

pub renewed_level : (types : List SegType) (name : Ilk) (content : List ℕ) (row : Row) → row_level types (renewed types name content row) ≡ row_level types row
renewed_level types name content row = by (same_name row.name name && bytes_eq (row_key types (with_content row content)) (row_key types row))
  where
    by : (b : Bool) → row_level types (renewed_by b content row) ≡ row_level types row
    by true = refl
    by false = refl

pub renewed_name : (types : List SegType) (name : Ilk) (content : List ℕ) (row : Row) → (renewed types name content row).name ≡ row.name
renewed_name types name content row = by (same_name row.name name && bytes_eq (row_key types (with_content row content)) (row_key types row))
  where
    by : (b : Bool) → (renewed_by b content row).name ≡ row.name
    by true = refl
    by false = refl

pub renewed_code : (types : List SegType) (name : Ilk) (content : List ℕ) (row : Row) → (renewed types name content row).code ≡ row.code
renewed_code types name content row = by (same_name row.name name && bytes_eq (row_key types (with_content row content)) (row_key types row))
  where
    by : (b : Bool) → (renewed_by b content row).code ≡ row.code
    by true = refl
    by false = refl

-- ---- paths through a change of the rows that keeps their levels

filter_mapped : (level : Row → ℕ) (g : Row → Row) → ((r : Row) → level (g r) ≡ level r) → (x : Row) (path : List Row) → filter (λ above. nat_lt (level above) (level (g x))) (map g path) ≡ map g (filter (λ above. nat_lt (level above) (level x)) path)
filter_mapped level g same x [] = refl
filter_mapped level g same x (p ∷ path) = by (nat_lt (level p) (level x)) refl (filter_mapped level g same x path)
  where
    test : nat_lt (level (g p)) (level (g x)) ≡ nat_lt (level p) (level x)
    test = ap (λ n. nat_lt n (level (g x))) (same p) ∙ ap (λ n. nat_lt (level p) n) (same x)

    by : (b : Bool) → nat_lt (level p) (level x) ≡ b → filter (λ above. nat_lt (level above) (level (g x))) (map g path) ≡ map g (filter (λ above. nat_lt (level above) (level x)) path)
        → cond (nat_lt (level (g p)) (level (g x))) (g p ∷ filter (λ above. nat_lt (level above) (level (g x))) (map g path)) (filter (λ above. nat_lt (level above) (level (g x))) (map g path))
        ≡ map g (cond (nat_lt (level p) (level x)) (p ∷ filter (λ above. nat_lt (level above) (level x)) path) (filter (λ above. nat_lt (level above) (level x)) path))
    by true e rest =
        ap (λ b. cond b (g p ∷ filter (λ above. nat_lt (level above) (level (g x))) (map g path)) (filter (λ above. nat_lt (level above) (level (g x))) (map g path))) (test ∙ e) ∙ ap (λ (l : List Row). g p ∷ l) rest
        ∙ sym (ap (λ b. map g (cond b (p ∷ filter (λ above. nat_lt (level above) (level x)) path) (filter (λ above. nat_lt (level above) (level x)) path))) e)
    by false e rest =
        ap (λ b. cond b (g p ∷ filter (λ above. nat_lt (level above) (level (g x))) (map g path)) (filter (λ above. nat_lt (level above) (level (g x))) (map g path))) (test ∙ e) ∙ rest
        ∙ sym (ap (λ b. map g (cond b (p ∷ filter (λ above. nat_lt (level above) (level x)) path) (filter (λ above. nat_lt (level above) (level x)) path))) e)

with_mapped_path : (level : Row → ℕ) (g : Row → Row) → ((r : Row) → level (g r) ≡ level r) → (x : Row) (path : List Row) → path_with level (map g path) (g x) ≡ map g (path_with level path x)
with_mapped_path level g same x path =
    ap (λ (l : List Row). l ++ g x ∷ []) (filter_mapped level g same x path) ∙ sym (map-append g (filter (λ above. nat_lt (level above) (level x)) path) (x ∷ []))

abbrev pub both : (Row → Row) → List Row × Row → List Row × Row
both g p = (map g p.0, g p.1)

pub with_mapped : (level : Row → ℕ) (g : Row → Row) → ((r : Row) → level (g r) ≡ level r) → (path rows : List Row) → with_paths level (map g path) (map g rows) ≡ map (both g) (with_paths level path rows)
with_mapped level g same path [] = refl
with_mapped level g same path (x ∷ rows) =
    let e = with_mapped_path level g same x path in
    ap (λ (l : List Row). (l, g x) ∷ with_paths level l (map g rows)) e ∙ ap (λ (l : List (List Row × Row)). (map g (path_with level path x), g x) ∷ l) (with_mapped level g same (path_with level path x) rows)

-- ---- a path stays one by parents

child_renewed : (types : List SegType) (a b : Bool) (content : List ℕ) (above row : Row) → is_child_of types (Some (renewed_by a content above)) (renewed_by b content row) ≡ is_child_of types (Some above) row
child_renewed types true true content above row = refl
child_renewed types true false content above row = refl
child_renewed types false true content above row = refl
child_renewed types false false content above row = refl

root_renewed : (types : List SegType) (b : Bool) (content : List ℕ) (row : Row) → is_child_of types None (renewed_by b content row) ≡ is_child_of types None row
root_renewed types true content row = refl
root_renewed types false content row = refl

path_below : (types : List SegType) (name : Ilk) (content : List ℕ) (above : Row) (path : List Row) → is_path types (Some (renewed types name content above)) (map (renewed types name content) path) ≡ is_path types (Some above) path
path_below types name content above [] = refl
path_below types name content above (row ∷ path) =
    let test : Row → Bool = λ r. same_name r.name name && bytes_eq (row_key types (with_content r content)) (row_key types r) in
    ap (λ b. b && is_path types (Some (renewed types name content row)) (map (renewed types name content) path)) (child_renewed types (test above) (test row) content above row)
    ∙ ap (λ b. is_child_of types (Some above) row && b) (path_below types name content row path)

pub path_renewed : (types : List SegType) (name : Ilk) (content : List ℕ) (path : List Row) → is_path types None (map (renewed types name content) path) ≡ is_path types None path
path_renewed types name content [] = refl
path_renewed types name content (row ∷ path) =
    let test : Row → Bool = λ r. same_name r.name name && bytes_eq (row_key types (with_content r content)) (row_key types r) in
    ap (λ b. b && is_path types (Some (renewed types name content row)) (map (renewed types name content) path)) (root_renewed types (test row) content row)
    ∙ ap (λ b. is_child_of types None row && b) (path_below types name content row path)

-- ---- the rows

-- rows of other names stay
pub others_stay : (name : Ilk) (content : List ℕ) (rows : List Row) → list_all (λ r. not (same_name r.name name)) rows ≡ true → replaced rows name content ≡ rows
others_stay name content [] h = refl
others_stay name content (row ∷ rows) h =
    let a = and_parts (not (same_name row.name name)) (list_all (λ r. not (same_name r.name name)) rows) h in
    ap (λ b. renewed_by b content row ∷ replaced rows name content) (not-true (same_name row.name name) a.0) ∙ ap (λ (l : List Row). row ∷ l) (others_stay name content rows a.1)

pub other_stays : (types : List SegType) (name : Ilk) (content : List ℕ) (row : Row) → not (same_name row.name name) ≡ true → renewed types name content row ≡ row
other_stays types name content row h = ap (λ b. renewed_by (b && bytes_eq (row_key types (with_content row content)) (row_key types row)) content row) (not-true (same_name row.name name) h)

pub others_renewed : (types : List SegType) (name : Ilk) (content : List ℕ) (rows : List Row) → list_all (λ r. not (same_name r.name name)) rows ≡ true → map (renewed types name content) rows ≡ rows
others_renewed types name content [] h = refl
others_renewed types name content (row ∷ rows) h =
    let a = and_parts (not (same_name row.name name)) (list_all (λ r. not (same_name r.name name)) rows) h in
    ap (λ (r : Row). r ∷ map (renewed types name content) rows) (other_stays types name content row a.0) ∙ ap (λ (l : List Row). row ∷ l) (others_renewed types name content rows a.1)

pub this_renewed : (types : List SegType) (name : Ilk) (content : List ℕ) (row : Row) → same_name row.name name ≡ true → bytes_eq (row_key types (with_content row content)) (row_key types row) ≡ true → renewed types name content row ≡ with_content row content
this_renewed types name content row named key = ap (λ b. renewed_by b content row) (and_from (same_name row.name name) (bytes_eq (row_key types (with_content row content)) (row_key types row)) named key)
