-- Lists one behind another, as the sides of partitions stand in a forest. Where each is in hierarchic sequence, all of them
-- together are; and what is inserted, cut or replaced in one of them is so in the whole.
use Rattle.std.specs.Prelude.{◌≡◌, ℕ, ◌==◌, Bool, true, false, not, ◌&&◌, ◌||◌, List, [], ◌∷◌, ◌++◌, codes, flat_map}
use Rattle.std.specs.List.{list_all}
use Rattle.std.specs.Ordering.{is_lt}
use Rattle.hal_base.specs.declared.place.Ilk.{Ilk}
use Rattle.hal_schema.specs.declared.row.Row.{Row}
use Rattle.hal_schema.specs.declared.schema.Schema.{Schema}
use Rattle.hal_schema.specs.Forest.{all_pairs, names_apart, has_length, rows_are_named, rows_are_below_parents, types_rise, twins_rise}
use Rattle.hal_schema.specs.Forest.{is_selected, entries_differ, is_forest}
use Rattle.hal_schema.specs.Insertion.{inserted, has_parent_in}
use Rattle.hal_schema.specs.Roots.{root_cmp}
use Rattle.hal_schema.specs.Row.{row_key, is_new_name}
use Rattle.hal_schema.specs.Span.{without_span, replaced}
use Rattle.forest_laws.specs.Examples.{example_schema, name_at, r1, cx, g1, g2, cy, u1, r7}

-- what a forest is but for the keys of its entries
abbrev pub is_in_sequence : Schema → List Row → Bool
is_in_sequence schema rows =
    rows_are_named schema.types rows && rows_are_below_parents schema.types rows && types_rise rows && twins_rise schema rows
    && list_all (is_selected schema) rows

pub record IsSequence (schema : Schema) (rows : List Row) : Type 0 where
  pub forest : is_forest schema rows ≡ true → is_in_sequence schema rows ≡ true
  pub sequence : is_in_sequence schema rows ≡ true → list_all (entries_differ schema.types rows) schema.indexes ≡ true → is_forest schema rows ≡ true

abbrev pub ForestsAreSequences : Type 0
ForestsAreSequences = (schema : Schema) (rows : List Row) → IsSequence schema rows

-- of two roots the first is the lower one
abbrev pub roots_rise : Schema → Row → Row → Bool
roots_rise schema a b = not (a.code == 1) || not (b.code == 1) || is_lt (root_cmp schema (row_key schema.types a) (row_key schema.types b))

abbrev pub stand_apart : Schema → Row → Row → Bool
stand_apart schema a b = names_apart a b && roots_rise schema a b

-- no name is in both lists, and the roots of the first are below those of the second
abbrev pub is_before : Schema → List Row → List Row → Bool
is_before schema front back = list_all (λ a. list_all (stand_apart schema a) back) front

abbrev pub joined : List (List Row) → List Row
joined lists = flat_map (λ rows. rows) lists

pub record StandInOrder (schema : Schema) (lists : List (List Row)) : Type 0 where
  pub each : list_all (is_in_sequence schema) lists ≡ true
  pub apart : all_pairs (is_before schema) lists ≡ true

abbrev pub OrdersJoin : Type 0
OrdersJoin = (schema : Schema) (front back : List (List Row)) → StandInOrder schema front → StandInOrder schema back
    → list_all (λ rows. list_all (is_before schema rows) back) front ≡ true → StandInOrder schema (front ++ back)

abbrev pub SequencesJoin : Type 0
SequencesJoin = (schema : Schema) (lists : List (List Row)) → StandInOrder schema lists → is_in_sequence schema (joined lists) ≡ true

-- What is done in one of such lists is done in them all.
pub record StaysWithin (schema : Schema) (before : List (List Row)) (part : List Row) (after : List (List Row)) (name : Ilk) : Type 0 where
  pub cut : without_span schema.types (joined (before ++ part ∷ after)) name ≡ joined (before ++ without_span schema.types part name ∷ after)
  pub replaced : (content : List ℕ) → replaced (joined (before ++ part ∷ after)) name content ≡ joined (before ++ replaced part name content ∷ after)

abbrev pub ChangesStayWithin : Type 0
ChangesStayWithin = (schema : Schema) (before : List (List Row)) (part : List Row) (after : List (List Row)) (name : Ilk)
    → StandInOrder schema (before ++ part ∷ after) → is_new_name part name ≡ false → StaysWithin schema before part after name

-- a new row is one of the list between: its parent stands in it, or it is a root above those before and below those behind
pub record ComesWithin (schema : Schema) (front part back : List Row) (new : Row) : Type 0 where
  pub long : has_length schema.types new ≡ true
  pub parent : has_parent_in schema.types part new ≡ true
  pub behind_front : list_all (λ a. roots_rise schema a new) front ≡ true
  pub before_back : list_all (roots_rise schema new) back ≡ true

abbrev pub InsertionsStayWithin : Type 0
InsertionsStayWithin = (schema : Schema) (before : List (List Row)) (part : List Row) (after : List (List Row)) (new : Row)
    → StandInOrder schema (before ++ part ∷ after) → ComesWithin schema (joined before) part (joined after) new
    → inserted schema (joined (before ++ part ∷ after)) new ≡ joined (before ++ inserted schema part new ∷ after)

-- the example's records in two lists, and a root that comes to the first of them
pub record JoinsExample : Type 0 where
  pub order : StandInOrder example_schema ((r1 ∷ cx ∷ g2 ∷ g1 ∷ cy ∷ u1 ∷ []) ∷ (r7 ∷ []) ∷ [])
  pub turned : all_pairs (is_before example_schema) ((r7 ∷ []) ∷ (r1 ∷ []) ∷ []) ≡ false
  pub twice : all_pairs (is_before example_schema) ((r1 ∷ []) ∷ (record u1 { name = r1.name } ∷ []) ∷ []) ≡ false
  pub comes : ComesWithin example_schema [] (r1 ∷ cx ∷ g2 ∷ g1 ∷ cy ∷ u1 ∷ []) (r7 ∷ []) (record r1 { name = name_at 200; content = codes "300zz" })
