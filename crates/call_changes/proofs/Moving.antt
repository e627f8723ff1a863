-- How many entries of a row get another key, counted index by index.
use Rattle.std.proofs.Common.{◌≡◌, ℕ, ◌+◌, ◌<◌, ◌≤◌, Bool, true, false, cond, ◌&&◌, ◌⊎◌, inl, inr, List, Option, None, Some, get_or, take, length, refl, sym, ap, ◌∙◌, arith}
use Rattle.std.specs.Prelude.{is_some, count_by, find}
use Rattle.std.specs.List.{list_all, slice_get}
use Rattle.std.specs.Option.{option_map, option_map_or}
use Rattle.std.proofs.lemmas.List.{take_all}
use Rattle.std.proofs.lemmas.List.Folds.{list_all_more, list_all_at}
use Rattle.std.proofs.lemmas.List.Sums.{count_by_more_yes, count_by_more_no}
use Rattle.std.proofs.lemmas.Option.{cond_some, get_or_from_slice_get, slice_get_cases, slice_get_within}
use Rattle.hal_schema.specs.declared.row.Row.{Row}
use Rattle.hal_schema.specs.declared.schema.IndexDef.{IndexDef}
use Rattle.hal_schema.specs.declared.schema.SegType.{SegType}
use Rattle.hal_base.specs.declared.place.Ilk.{Ilk}
use Rattle.hal_schema.specs.declared.schema.Schema.{Schema}
use Rattle.hal_schema.specs.Entry.{Entry, entries_of, is_taken}
use Rattle.position_state.specs.Looks.{WalkView, taken_by}
use Rattle.std.specs.Str.{bytes_eq}
use Rattle.position_state.specs.declared.spot.Spot.{Spot}
use Rattle.call_changes.specs.Moves.{moved_entries, moved_key, moves_freely}
use Rattle.call_changes.proofs.Replacing.{taken_is}

-- an entry that is no other's moves where it has a new key
key_moves : (types : List SegType) (rows : List Row) (row : Spot) (content : List ℕ) (index : IndexDef) (m : Bool) → moves_freely types rows row content index ≡ Some m → is_some (moved_key index row content) ≡ m
key_moves types rows row content index m h = by (moved_key index row content) h
  where
    by_taken : (t : Bool) → cond t None (Some true) ≡ Some m → true ≡ m
    by_taken true k = absurd (let no : ⊥ = cc in no)
    by_taken false k = cc

    by : (o : Option (List ℕ)) → option_map_or (λ key. cond (is_taken key (entries_of types index rows)) None (Some true)) o (Some false) ≡ Some m → is_some o ≡ m
    by None k = cc
    by (Some key) k = by_taken (is_taken key (entries_of types index rows)) k

pub moved_none : (types : List SegType) (rows : List Row) (row : Spot) (content : List ℕ) (xs : List IndexDef) → moved_entries types rows row content (take 0 xs) ≡ Some 0
moved_none types rows row content xs = refl

pub moved_more : (types : List SegType) (rows : List Row) (row : Spot) (content : List ℕ) (xs : List IndexDef) (k n : ℕ) (index : IndexDef) (m : Bool) → slice_get xs k ≡ Some index
    → moved_entries types rows row content (take k xs) ≡ Some n → moves_freely types rows row content index ≡ Some m → moved_entries types rows row content (take (k + 1) xs) ≡ Some (cond m (n + 1) n)
moved_more types rows row content xs k n index m at old new =
    ap (λ b. cond b (Some (count_by moves (take (k + 1) xs))) None) (list_all_more free xs k index within ∙ ap (λ b. b && free (get_or xs k index)) so.0 ∙ ap free same ∙ ap (λ (o : Option Bool). is_some o) new)
    ∙ by m (ap moves same ∙ key_moves types rows row content index m new)
  where
    free : IndexDef → Bool
    free index = is_some (moves_freely types rows row content index)

    moves : IndexDef → Bool
    moves index = is_some (moved_key index row content)

    within : k < length xs
    within = slice_get_within xs k index at

    same : get_or xs k index ≡ index
    same = get_or_from_slice_get xs k index index at

    so : (list_all free (take k xs) ≡ true) × (count_by moves (take k xs) ≡ n)
    so = cond_some (list_all free (take k xs)) (count_by moves (take k xs)) n old

    by : (b : Bool) → moves (get_or xs k index) ≡ b → Some (count_by moves (take (k + 1) xs)) ≡ Some (cond b (n + 1) n)
    by true e = ap (λ (c : ℕ). Some c) (count_by_more_yes moves xs k index within e ∙ ap (λ (c : ℕ). c + 1) so.1)
    by false e = ap (λ (c : ℕ). Some c) (count_by_more_no moves xs k index within e ∙ so.1)

pub moved_stops : (types : List SegType) (rows : List Row) (row : Spot) (content : List ℕ) (xs : List IndexDef) (k : ℕ) (index : IndexDef) → slice_get xs k ≡ Some index
    → moves_freely types rows row content index ≡ None → moved_entries types rows row content xs ≡ None
moved_stops types rows row content xs k index at none =
    ap (λ b. cond b (Some (count_by (λ (index : IndexDef). is_some (moved_key index row content)) xs)) None)
    (list_all_at (λ (index : IndexDef). is_some (moves_freely types rows row content index)) xs k index (slice_get_within xs k index at)
    (ap (λ (i : IndexDef). is_some (moves_freely types rows row content i)) (get_or_from_slice_get xs k index index at) ∙ ap (λ (o : Option Bool). is_some o) none))

pub moved_all : (types : List SegType) (rows : List Row) (row : Spot) (content : List ℕ) (xs : List IndexDef) (k : ℕ) → length xs ≡ k → moved_entries types rows row content (take k xs) ≡ moved_entries types rows row content xs
moved_all types rows row content xs k e = ap (moved_entries types rows row content) (ap (λ n. take n xs) (sym e) ∙ take_all (length xs) xs (omega arith))

-- a new key that is looked for
pub freely_moved : (types : List SegType) (rows : List Row) (row : Spot) (content : List ℕ) (index : IndexDef) (key : List ℕ) (t : Bool) → moved_key index row content ≡ Some key → is_taken key (entries_of types index rows) ≡ t
    → cond t None (Some true) ≡ moves_freely types rows row content index
freely_moved types rows row content index key t new taken =
    sym (ap (λ (o : Option (List ℕ)). option_map_or (λ key. cond (is_taken key (entries_of types index rows)) None (Some true)) o (Some false)) new ∙ ap (λ b. cond b None (Some true)) taken)

-- what a look for a key says
pub looked_taken : (a : WalkView) (schema : Schema) (rows : List Row) (place : ℕ) (index : IndexDef) (key : List ℕ) (name : Option Ilk) → a.schema ≡ schema → slice_get schema.indexes place ≡ Some index
    → name ≡ taken_by a.schema place key rows → is_taken key (entries_of schema.types index rows) ≡ is_some name
looked_taken a schema rows place index key name so at told =
    sym (ap (λ (o : Option Ilk). is_some o) (told ∙ ap (λ (s : Schema). taken_by s place key rows) so
    ∙ ap (λ (o : Option IndexDef). option_map_or (λ (index : IndexDef). option_map (λ (e : Entry). e.target) (find (λ (e : Entry). bytes_eq e.key key) (entries_of schema.types index rows))) o None) at)
    ∙ taken_is key (entries_of schema.types index rows))

-- the index of a place
pub index_is : (xs ys : List IndexDef) (place : ℕ) (read index : IndexDef) → read ≡ get_or ys place read → ys ≡ xs → slice_get xs place ≡ Some index → read ≡ index
index_is xs ys place read index is same at = is ∙ ap (λ (l : List IndexDef). get_or l place read) same ∙ get_or_from_slice_get xs place index read at

-- the next index, whatever it is
pub moved_step : (types : List SegType) (rows : List Row) (row : Spot) (content : List ℕ) (xs : List IndexDef) (k n c : ℕ) (m : Bool) → k < length xs
    → ((index : IndexDef) → slice_get xs k ≡ Some index → Some m ≡ moves_freely types rows row content index) → moved_entries types rows row content (take k xs) ≡ Some n → c ≡ cond m (n + 1) n
    → moved_entries types rows row content (take (k + 1) xs) ≡ Some c
moved_step types rows row content xs k n c m lt new old same = by (slice_get_cases xs k).1
  where
    by : ((x : IndexDef) × (k < length xs) × (slice_get xs k ≡ Some x) × (get_or xs k x ≡ x)) ⊎ ((length xs ≤ k) × (slice_get xs k ≡ None)) → moved_entries types rows row content (take (k + 1) xs) ≡ Some c
    by (inl at) = moved_more types rows row content xs k n at.0 m at.2 old (sym (new at.0 at.2)) ∙ ap (λ (c : ℕ). Some c) (sym same)
    by (inr past) = absurd (omega (arith, lt, past.0))

pub moved_stop : (types : List SegType) (rows : List Row) (row : Spot) (content : List ℕ) (xs : List IndexDef) (k : ℕ) → k < length xs
    → ((index : IndexDef) → slice_get xs k ≡ Some index → None ≡ moves_freely types rows row content index) → None ≡ moved_entries types rows row content xs
moved_stop types rows row content xs k lt new = by (slice_get_cases xs k).1
  where
    by : ((x : IndexDef) × (k < length xs) × (slice_get xs k ≡ Some x) × (get_or xs k x ≡ x)) ⊎ ((length xs ≤ k) × (slice_get xs k ≡ None)) → None ≡ moved_entries types rows row content xs
    by (inl at) = sym (moved_stops types rows row content xs k at.0 at.2 (sym (new at.0 at.2)))
    by (inr past) = absurd (omega (arith, lt, past.0))
