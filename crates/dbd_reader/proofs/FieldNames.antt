-- The names of fields, one after the other.
use Rattle.std.proofs.Common.{◌≡◌, ℕ, ◌+◌, ◌<◌, ◌&&◌, Bool, true, false, cond, List, [], ◌∷◌, ◌++◌, length, map, take, get_or, Option, Some, None, Err, refl, sym, ap, ◌∙◌, arith}
use Rattle.std.specs.List.{list_all, list_any}
use Rattle.std.proofs.lemmas.List.Folds.{list_all_at, list_all_more}
use Rattle.std.proofs.lemmas.Grind.{common_steps}
use Rattle.std.proofs.lemmas.List.{take_more}
use Rattle.std.proofs.lemmas.List.{map-append}
use Rattle.hal_base.specs.Name.{is_field_name, upper}
use Rattle.dbd_reader.specs.Values.{is_system_name, fields_of}

abbrev pub is_field : List ℕ → Bool
is_field name = is_field_name (map upper name)

abbrev pub field_in : List ℕ → Option (List ℕ)
field_in name = cond (is_field name) (Some (map upper name)) None

unread : (name : List ℕ) → field_in name ≡ None → is_field name ≡ false
unread name h = by_cases (is_field name) refl h
  where
    by_cases : (v : Bool) → is_field name ≡ v → cond v (Some (map upper name)) None ≡ None → is_field name ≡ false
    by_cases true e k = absurd cc
    by_cases false e k = e

read : (name field : List ℕ) → field_in name ≡ Some field → (is_field name ≡ true) × (field ≡ map upper name)
read name field h = by_cases (is_field name) refl h
  where
    by_cases : (v : Bool) → is_field name ≡ v → cond v (Some (map upper name)) None ≡ Some field → (is_field name ≡ true) × (field ≡ map upper name)
    by_cases true e k = (e, cc)
    by_cases false e k = absurd cc

pub fields_end : (items : List (List ℕ)) (i : ℕ) (item : List ℕ) → i < length items → item ≡ get_or items i item → list_any (λ name. is_system_name (map upper name)) items ≡ false → field_in item ≡ None → fields_of items ≡ Err 17
unfolding fields_of
fields_end items i item within at none h =
    let here : is_field (get_or items i item) ≡ false = sym (ap is_field at) ∙ unread item h in
    let all : list_all is_field items ≡ false = list_all_at is_field items i item within here in
    rw (none, all) refl

pub fields_on : (items names : List (List ℕ)) (i : ℕ) (item field : List ℕ) → i < length items → item ≡ get_or items i item → field_in item ≡ Some field → names ≡ map (map upper) (take i items) → list_all is_field (take i items) ≡ true
    → (names ++ field ∷ [] ≡ map (map upper) (take (i + 1) items)) × (list_all is_field (take (i + 1) items) ≡ true)
fields_on items names i item field within at h so_far all =
    let r = read item field h in
    let here : is_field (get_or items i item) ≡ true = sym (ap is_field at) ∙ r.0 in
    let name : field ≡ map upper (get_or items i item) = r.1 ∙ ap (map upper) at in
    let grown : take (i + 1) items ≡ take i items ++ get_or items i item ∷ [] = take_more items i item within in (
      rw (so_far, name, grown) (sym (map-append (map upper) (take i items) (get_or items i item ∷ []))),
      list_all_more is_field items i item within ∙ rw (all, here) refl,
    )
