-- The way up from a row's element, one element above the other, towards the row that is deleted.
use Rattle.std.proofs.Common.{◌≡◌, ℕ, ◌+◌, ◌<◌, ◌≤◌, true, false, List, [], Option, None, Some, refl, sym, ap, subst, ◌∙◌, arith}
use Rattle.std.specs.Prelude.{nat_lt, find, IfSome, IsTrue}
use Rattle.std.specs.Option.{option_map_or}
use Rattle.std.specs.Str.{bytes_eq}
use Rattle.std.proofs.lemmas.Bool.{ltb-true}
use Rattle.std.proofs.lemmas.Slice.Eq.{bytes_eq-Decides}
use Rattle.hal_base.specs.declared.place.Ilk.{Ilk}
use Rattle.hal_schema.specs.declared.row.Row.{Row}
use Rattle.hal_schema.specs.declared.schema.Schema.{Schema}
use Rattle.hal_schema.specs.Row.{row_named, row_level, is_new_name}
use Rattle.hal_schema.specs.Span.{without_span}
use Rattle.hal_schema.proofs.RowNames.{name_is}
use Rattle.position_state.specs.declared.session.Anchor.{Anchor}
use Rattle.position_state.specs.declared.session.Anchor.TheVariants.{Front, At}
use Rattle.position_state.specs.declared.spot.Spot.{Spot}
use Rattle.position_state.specs.View.{view_of, is_at, is_place_of, root_named}
use Rattle.position_state.specs.Looks.{WalkView, Shows, above, found_at, stands_in, tells_forest}
use Rattle.position_state.specs.AfterChange.{is_gone, is_row_at, level_at}
use Rattle.position_state.proofs.Cuts.{all_found}
use Rattle.position_state.proofs.Shown.{shown}
use Rattle.position_state.proofs.Deleting.{forest_names, shown_high, found_plain, found_level, place_plain, Deletion, deletion, name_gone, none_above, one_above, at_highest}
use Rattle.position_state.proofs.Looking.{forest_at, shows_at, where_told, told_at}

-- so far up, this element goes exactly where the place goes that was asked for
pub record Climbs (schema : Schema) (rows : List Row) (name : Ilk) (at : Anchor) (level step : ℕ) (spot : Spot) : Type 0 where
  pub found : find (is_at spot.at) (shown schema.types [] rows) ≡ Some spot
  pub apart : is_row_at name spot.at ≡ false
  pub same : is_gone (without_span schema.types rows name) spot.at ≡ is_gone (without_span schema.types rows name) at
  pub high : spot.level + step ≤ level + 1

abbrev pub shown_by : Spot → Option Spot → Spot
shown_by d None = d
shown_by d (Some spot) = spot

-- the element at the place is there, and as high as its row
pub record BeginsAt (schema : Schema) (rows : List Row) (name : Ilk) (root : List ℕ) : Type 0 where
  pub spot : Spot
  pub found : found_at (At name root None) (view_of schema None rows) ≡ Some spot
  pub at : At name root None ≡ spot.at
  pub level : option_map_or (row_level schema.types) (row_named rows name) 0 ≡ spot.level

pub begins_at : (schema : Schema) (rows : List Row) (name : Ilk) (root : List ℕ) → is_place_of (view_of schema None rows) (At name root None) ≡ true → BeginsAt schema rows name root
begins_at schema rows name root h =
    let s = (place_plain schema.types rows name root None h).1 in
    record { spot = s.spot; found = s.found; at = s.at; level = found_level schema.types name root [] rows s.spot s.found }

pub climb_begins : (schema : Schema) (rows : List Row) (name other : Ilk) (root : List ℕ) (spot : Spot) → is_place_of (view_of schema None rows) (At other root None) ≡ true
    → is_row_at name (At other root None) ≡ false → Some spot ≡ found_at (At other root None) (view_of schema None rows) → Climbs schema rows name (At other root None) spot.level 1 spot
climb_begins schema rows name other root spot h differs shows =
    let b = begins_at schema rows other root h in
    let same : spot ≡ b.spot = ap (shown_by spot) (shows ∙ b.found) in
    let at : At other root None ≡ spot.at = b.at ∙ ap (λ (s : Spot). s.at) (sym same) in
    record {
      found = subst (λ (a : Anchor). find (is_at a) (shown schema.types [] rows) ≡ Some spot) at (sym shows);
      apart = ap (is_row_at name) (sym at) ∙ differs;
      same = ap (is_gone (without_span schema.types rows name)) (sym at);
      high = omega arith;
    }

pub climb_goes : (schema : Schema) (rows : List Row) (name : Ilk) (at : Anchor) (level step : ℕ) (spot up : Spot) → Deletion schema.types rows name
    → Climbs schema rows name at level step spot → Some up ≡ above spot (view_of schema None rows) → is_row_at name up.at ≡ false → Climbs schema rows name at level (step + 1) up
climb_goes schema rows name at level step spot up x c shows differs =
    let s = one_above schema.types rows name x spot up c.found c.apart (sym shows) in
    record { found = s.found; apart = differs; same = s.same ∙ c.same; high = omega (arith, s.higher, c.high) }

pub climb_hits : (schema : Schema) (rows : List Row) (name : Ilk) (at : Anchor) (level step : ℕ) (spot up : Spot) → Deletion schema.types rows name
    → Climbs schema rows name at level step spot → Some up ≡ above spot (view_of schema None rows) → is_row_at name up.at ≡ true → true ≡ is_gone (without_span schema.types rows name) at
climb_hits schema rows name at level step spot up x c shows is =
    let s = one_above schema.types rows name x spot up c.found c.apart (sym shows) in
    let p = found_plain schema.types (is_at up.at) [] rows up s.found in
    let named : name ≡ p.name = name_is name p.name (sym (ap (is_row_at name) p.is) ∙ is) in
    sym (name_gone schema.types rows name x) ∙ ap (is_new_name (without_span schema.types rows name)) named
    ∙ sym (ap (is_gone (without_span schema.types rows name)) p.is) ∙ s.same ∙ c.same

pub climb_ends : (schema : Schema) (rows : List Row) (name : Ilk) (at : Anchor) (level step : ℕ) (spot : Spot) → Deletion schema.types rows name
    → Climbs schema rows name at level step spot → None ≡ above spot (view_of schema None rows) → false ≡ is_gone (without_span schema.types rows name) at
climb_ends schema rows name at level step spot x c shows = sym (none_above schema.types rows name x spot c.found c.apart (sym shows)) ∙ c.same

pub climb_tops : (schema : Schema) (rows : List Row) (name : Ilk) (at : Anchor) (level step : ℕ) (spot : Spot) → Deletion schema.types rows name
    → Climbs schema rows name at level step spot → level ≤ step → false ≡ is_gone (without_span schema.types rows name) at
climb_tops schema rows name at level step spot x c le = sym (at_highest schema.types rows name x spot c.found c.apart (omega (arith, c.high, le))) ∙ c.same

-- ---- where the list is told or not

at_most : (o : Option (List Row)) (f : List Row → ℕ) (n other : ℕ) → ((rows : List Row) → o ≡ Some rows → n ≤ f rows) → n ≤ other → n ≤ option_map_or f o other
at_most None f n other told untold = untold
at_most (Some rows) f n other told untold = told rows refl

pub place_at : (a : WalkView) (rows : List Row) (at : Anchor) → a.forest ≡ Some rows → IsTrue (stands_in a None at) → is_place_of (view_of a.schema None rows) at ≡ true
place_at a rows at e h = subst (λ (o : Option (List Row)). option_map_or (λ r. is_place_of (view_of a.schema None r) at) o true ≡ true) e h

-- the row at a place that is there has a level, and a look shows it
pub level_high : (a : WalkView) (name : Ilk) (root : List ℕ) → IsTrue (tells_forest a) → IsTrue (stands_in a None (At name root None)) → 1 ≤ level_at a (At name root None)
level_high a name root forest h =
    at_most a.forest (λ rows. option_map_or (row_level a.schema.types) (row_named rows name) 0) 1 255
    (λ rows e.
    let b = begins_at a.schema rows name root (place_at a rows (At name root None) e h) in
    let high = shown_high a.schema.types [] rows (forest_names a.schema rows (forest_at a rows forest e)).1 in
    let up : 0 < b.spot.level = ltb-true 0 b.spot.level (all_found (is_at (At name root None)) (λ s. nat_lt 0 s.level) (shown a.schema.types [] rows) b.spot high b.found) in
    omega (arith, up, b.level))
    (omega arith)

-- where the list is told, a number is the level of the row of a name
abbrev pub IsLevel : WalkView → Ilk → ℕ → Type 0
IsLevel a name level = IfSome a.forest (λ rows. option_map_or (row_level a.schema.types) (row_named rows name) 0 ≡ level)

pub level_shown : (a : WalkView) (name : Ilk) (root : List ℕ) (spot : Spot) (found : Option Spot) → IsTrue (stands_in a None (At name root None))
    → Shows a None (found_at (At name root None)) found → found ≡ Some spot → IsLevel a name spot.level
level_shown a name root spot found h shows is =
    where_told a.forest (λ rows. option_map_or (row_level a.schema.types) (row_named rows name) 0 ≡ spot.level)
    (λ rows e.
    let b = begins_at a.schema rows name root (place_at a rows (At name root None) e h) in
    let same : spot ≡ b.spot = ap (shown_by spot) (sym is ∙ shows_at a a rows None (found_at (At name root None)) found refl refl e shows ∙ b.found) in
    b.level ∙ ap (λ (s : Spot). s.level) (sym same))

pub level_within : (a : WalkView) (name : Ilk) (root : List ℕ) (level : ℕ) → IsLevel a name level → level < 256 → level ≤ level_at a (At name root None)
level_within a name root level is fits =
    at_most a.forest (λ rows. option_map_or (row_level a.schema.types) (row_named rows name) 0) level 255
    (λ rows e. omega (arith, told_at a.forest rows (λ r. option_map_or (row_level a.schema.types) (row_named r name) 0 ≡ level) e is)) (omega arith)

pub deletion_at : (a : WalkView) (rows : List Row) (name : Ilk) → IsTrue (tells_forest a) → a.forest ≡ Some rows → is_new_name rows name ≡ false → Deletion a.schema.types rows name
deletion_at a rows name forest e h = deletion a.schema rows name (forest_at a rows forest e) h

-- an element that is found stands where a look may begin
pub found_stands : (a b : WalkView) (spot : Spot) → b.schema ≡ a.schema → b.forest ≡ a.forest
    → IfSome a.forest (λ rows. find (is_at spot.at) (shown a.schema.types [] rows) ≡ Some spot) → IsTrue (stands_in b None spot.at)
found_stands a b spot schema forest found =
    subst (λ (s : Schema). option_map_or (λ rows. is_place_of (view_of s None rows) spot.at) b.forest true ≡ true) (sym schema)
    (subst (λ (o : Option (List Row)). option_map_or (λ rows. is_place_of (view_of a.schema None rows) spot.at) o true ≡ true) (sym forest) (by a.forest found))
  where
    here : (at : Anchor) (view : List Spot) → at ≡ spot.at → find (is_at at) view ≡ Some spot → is_place_of view at ≡ true
    here Front view e f = refl
    here (At name root entry) view e f =
        ap (λ o. option_map_or (λ (s : Spot). bytes_eq root (root_named s.at)) o false) f ∙ (bytes_eq-Decides root (root_named spot.at)).1 (ap root_named e)

    by : (o : Option (List Row)) → IfSome o (λ rows. find (is_at spot.at) (shown a.schema.types [] rows) ≡ Some spot)
        → option_map_or (λ rows. is_place_of (view_of a.schema None rows) spot.at) o true ≡ true
    by None f = refl
    by (Some rows) f = here spot.at (shown a.schema.types [] rows) refl f
