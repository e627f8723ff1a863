-- The way up a path, on rows and on what is kept of them.
use Rattle.std.proofs.Common.{◌≡◌, ℕ, Bool, true, false, cond, not, List, [], ◌∷◌, map, Option, Some, None, refl, sym, ap, ◌∙◌}
use Rattle.std.specs.List.{list_all, slice_get}
use Rattle.std.specs.Option.{option_map, option_map_or}
use Rattle.std.proofs.lemmas.Bool.{and_parts}
use Rattle.hal_schema.specs.declared.row.Row.{Row}
use Rattle.hal_schema.specs.declared.schema.Schema.{Schema}
use Rattle.hal_schema.specs.declared.schema.SegType.{SegType}
use Rattle.hal_schema.specs.Forest.{all_pairs, names_apart}
use Rattle.hal_schema.specs.Row.{same_parent}
use Rattle.hal_loader.specs.Carrying.{level_kept, code_kept, passed_on, IsOnPath, AreOnPath}
use Rattle.hal_loader.specs.Placing.{is_of, path_from, first_name}
use Rattle.hal_loader.specs.declared.path.Level.{Level}

abbrev pub row_code : Row → ℕ
row_code row = row.code

pub path_map : (types : List SegType) (wanted : Option ℕ) (path : List Row)
    → path_from code_kept wanted (map (level_kept types) path) ≡ map (level_kept types) (path_from row_code wanted path)
path_map types wanted [] = refl
path_map types wanted (row ∷ above) = by (is_of wanted row.code) (path_map types wanted above)
  where
    by : (b : Bool) → path_from code_kept wanted (map (level_kept types) above) ≡ map (level_kept types) (path_from row_code wanted above)
        → cond b (map (level_kept types) (row ∷ above)) (path_from code_kept wanted (map (level_kept types) above))
        ≡ map (level_kept types) (cond b (row ∷ above) (path_from row_code wanted above))
    by true go = refl
    by false go = go

pub passed_map : (types : List SegType) (wanted : Option ℕ) (passed : Option Row) (path : List Row)
    → passed_on code_kept wanted (option_map (level_kept types) passed) (map (level_kept types) path) ≡ option_map (level_kept types) (passed_on row_code wanted passed path)
passed_map types wanted passed [] = refl
passed_map types wanted passed (row ∷ above) = by (is_of wanted row.code) (passed_map types wanted (Some row) above)
  where
    by : (b : Bool) → passed_on code_kept wanted (Some (level_kept types row)) (map (level_kept types) above) ≡ option_map (level_kept types) (passed_on row_code wanted (Some row) above)
        → cond b (option_map (level_kept types) passed) (passed_on code_kept wanted (Some (level_kept types row)) (map (level_kept types) above))
        ≡ option_map (level_kept types) (cond b passed (passed_on row_code wanted (Some row) above))
    by true go = refl
    by false go = go

-- the name at the front
pub first_kept : (types : List SegType) (path : List Row) → option_map (λ (l : Level). l.name) (slice_get (map (level_kept types) path) 0) ≡ first_name path
first_kept types [] = refl
first_kept types (row ∷ above) = refl

-- ---- one step of the climb

pub stays_above : (wanted : Option ℕ) (path : List Level) → option_map_or (λ (l : Level). not (is_of wanted l.code)) (slice_get path 0) false ≡ false
    → path_from code_kept wanted path ≡ path
stays_above wanted [] e = refl
stays_above wanted (l ∷ above) e = by (is_of wanted l.code) e
  where
    by : (b : Bool) → not b ≡ false → cond b (l ∷ above) (path_from code_kept wanted above) ≡ l ∷ above
    by true f = refl
    by false f = cc f

pub stays_passed : (wanted : Option ℕ) (passed : Option Level) (path : List Level) → option_map_or (λ (l : Level). not (is_of wanted l.code)) (slice_get path 0) false ≡ false
    → passed_on code_kept wanted passed path ≡ passed
stays_passed wanted passed [] e = refl
stays_passed wanted passed (l ∷ above) e = by (is_of wanted l.code) e
  where
    by : (b : Bool) → not b ≡ false → cond b passed (passed_on code_kept wanted (Some l) above) ≡ passed
    by true f = refl
    by false f = cc f

pub goes_above : (wanted : Option ℕ) (l : Level) (above : List Level) → not (is_of wanted l.code) ≡ true
    → path_from code_kept wanted (l ∷ above) ≡ path_from code_kept wanted above
goes_above wanted l above e = by (is_of wanted l.code) e
  where
    by : (b : Bool) → not b ≡ true → cond b (l ∷ above) (path_from code_kept wanted above) ≡ path_from code_kept wanted above
    by true f = cc f
    by false f = refl

pub goes_passed : (wanted : Option ℕ) (passed : Option Level) (l : Level) (above : List Level) → not (is_of wanted l.code) ≡ true
    → passed_on code_kept wanted passed (l ∷ above) ≡ passed_on code_kept wanted (Some l) above
goes_passed wanted passed l above e = by (is_of wanted l.code) e
  where
    by : (b : Bool) → not b ≡ true → cond b passed (passed_on code_kept wanted (Some l) above) ≡ passed_on code_kept wanted (Some l) above
    by true f = cc f
    by false f = refl

-- ---- what is known above

-- the newest child of the row that a path ends at, or that it has none
abbrev pub Siblings : Schema → List Row → Option Row → List Row → Type 0
Siblings schema rows None above = list_all (λ r. not (same_parent r.parent (first_name above))) rows ≡ true
Siblings schema rows (Some row) above = IsOnPath schema rows row above

pub record Climbed (schema : Schema) (rows : List Row) (below : Option Row) (above : List Row) : Type 0 where
  pub siblings : Siblings schema rows below above
  pub on_path : AreOnPath schema rows above
  pub apart : all_pairs names_apart above ≡ true

pub climbed : (schema : Schema) (rows : List Row) (wanted : Option ℕ) (passed : Option Row) (path : List Row)
    → Climbed schema rows passed path → Climbed schema rows (passed_on row_code wanted passed path) (path_from row_code wanted path)
climbed schema rows wanted passed [] c = c
climbed schema rows wanted passed (row ∷ above) c = by (is_of wanted row.code) (climbed schema rows wanted (Some row) above (record {
  siblings = c.on_path.0;
  on_path = c.on_path.1;
  apart = (and_parts (list_all (names_apart row) above) (all_pairs names_apart above) c.apart).1;
}))
  where
    by : (b : Bool) → Climbed schema rows (passed_on row_code wanted (Some row) above) (path_from row_code wanted above)
        → Climbed schema rows (cond b passed (passed_on row_code wanted (Some row) above)) (cond b (row ∷ above) (path_from row_code wanted above))
    by true go = c
    by false go = go

-- what a path begins with is of the type that was looked for
pub first_is_of : (wanted : Option ℕ) (path : List Row) (row : Row) (above : List Row) → path_from row_code wanted path ≡ row ∷ above → is_of wanted row.code ≡ true
first_is_of wanted [] row above e = cc e
first_is_of wanted (r ∷ path) row above e = by (is_of wanted r.code) refl e (first_is_of wanted path row above)
  where
    by : (b : Bool) → is_of wanted r.code ≡ b → cond b (r ∷ path) (path_from row_code wanted path) ≡ row ∷ above → (path_from row_code wanted path ≡ row ∷ above → is_of wanted row.code ≡ true) → is_of wanted row.code ≡ true
    by true f g go = let same : r ≡ row = cc g in ap (λ (x : Row). is_of wanted x.code) (sym same) ∙ f
    by false f g go = go g

-- a root has none above it
pub none_above : (path : List Row) → path_from row_code None path ≡ []
none_above [] = refl
none_above (row ∷ above) = none_above above
