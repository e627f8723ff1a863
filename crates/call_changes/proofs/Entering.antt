-- Whether the entries of a new row have keys of their own, index by index.
use Rattle.std.proofs.Common.{◌≡◌, ℕ, ◌+◌, ◌<◌, ◌≤◌, Bool, true, false, not, ◌&&◌, ◌⊎◌, inl, inr, List, Option, None, Some, get_or, take, length, sym, ap, ◌∙◌, arith}
use Rattle.std.specs.List.{list_all, slice_get}
use Rattle.std.specs.Option.{option_map_or}
use Rattle.std.proofs.lemmas.List.{take_all}
use Rattle.std.proofs.lemmas.List.Folds.{list_all_more, list_all_at}
use Rattle.std.proofs.lemmas.Option.{slice_get_cases}
use Rattle.hal_schema.specs.declared.row.Row.{Row}
use Rattle.hal_schema.specs.declared.schema.IndexDef.{IndexDef}
use Rattle.hal_schema.specs.declared.schema.SegType.{SegType}
use Rattle.hal_schema.specs.Entry.{entries_of, is_taken}
use Rattle.call_changes.specs.Inserts.{enters_by, new_entry_key}

pub all_step : (test : IndexDef → Bool) (xs : List IndexDef) (k : ℕ) → k < length xs → ((index : IndexDef) → slice_get xs k ≡ Some index → true ≡ test index) → list_all test (take k xs) ≡ true → list_all test (take (k + 1) xs) ≡ true
all_step test xs k lt new old = by (slice_get_cases xs k).1
  where
    by : ((x : IndexDef) × (k < length xs) × (slice_get xs k ≡ Some x) × (get_or xs k x ≡ x)) ⊎ ((length xs ≤ k) × (slice_get xs k ≡ None)) → list_all test (take (k + 1) xs) ≡ true
    by (inl at) = list_all_more test xs k at.0 lt ∙ ap (λ b. b && test (get_or xs k at.0)) old ∙ ap test at.3 ∙ sym (new at.0 at.2)
    by (inr past) = absurd (omega (arith, lt, past.0))

pub all_stop : (test : IndexDef → Bool) (xs : List IndexDef) (k : ℕ) → k < length xs → ((index : IndexDef) → slice_get xs k ≡ Some index → false ≡ test index) → false ≡ list_all test xs
all_stop test xs k lt new = by (slice_get_cases xs k).1
  where
    by : ((x : IndexDef) × (k < length xs) × (slice_get xs k ≡ Some x) × (get_or xs k x ≡ x)) ⊎ ((length xs ≤ k) × (slice_get xs k ≡ None)) → false ≡ list_all test xs
    by (inl at) = sym (list_all_at test xs k at.0 lt (ap test at.3 ∙ sym (new at.0 at.2)))
    by (inr past) = absurd (omega (arith, lt, past.0))

pub all_done : (test : IndexDef → Bool) (xs : List IndexDef) (k : ℕ) → length xs ≡ k → list_all test (take k xs) ≡ true → true ≡ list_all test xs
all_done test xs k e h = sym h ∙ ap (list_all test) (ap (λ n. take n xs) (sym e) ∙ take_all (length xs) xs (omega arith))

-- a new entry whose key is looked for
pub freely_entered : (types : List SegType) (rows : List Row) (code : ℕ) (keys content : List ℕ) (index : IndexDef) (key : List ℕ) (t : Bool) → new_entry_key index code keys content ≡ Some key → is_taken key (entries_of types index rows) ≡ t
    → not t ≡ enters_by types rows code keys content index
freely_entered types rows code keys content index key t new taken =
    sym (ap (λ (o : Option (List ℕ)). option_map_or (λ key. not (is_taken key (entries_of types index rows))) o true) new ∙ ap not taken)

pub no_entry : (types : List SegType) (rows : List Row) (code : ℕ) (keys content : List ℕ) (index : IndexDef) → new_entry_key index code keys content ≡ None → true ≡ enters_by types rows code keys content index
no_entry types rows code keys content index new = sym (ap (λ (o : Option (List ℕ)). option_map_or (λ key. not (is_taken key (entries_of types index rows))) o true) new)
