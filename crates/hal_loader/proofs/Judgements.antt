-- The table of refusals, by the rows and by what is kept of them.
use Rattle.std.proofs.Common.{◌≡◌, ℕ, ◌==◌, nat_lt, Bool, true, false, not, cond, ◌&&◌, ◌||◌, List, [], ◌∷◌, ◌++◌, Option, Some, None, Err, refl, sym, ap, ◌∙◌}
use Rattle.std.specs.Prelude.{codes, is_none, is_some, IfSome, if◌then◌else◌}
use Rattle.std.specs.List.{list_all, list_any}
use Rattle.std.specs.Option.{option_map, option_map_or, option_and_then}
use Rattle.std.proofs.lemmas.Bool.{eqb-true}
use Rattle.hal_base.specs.declared.place.Ilk.{Ilk}
use Rattle.hal_schema.specs.declared.row.Row.{Row}
use Rattle.hal_schema.specs.declared.schema.KeyField.{KeyField}
use Rattle.hal_schema.specs.declared.schema.Schema.{Schema}
use Rattle.hal_schema.specs.declared.schema.SegType.{SegType}
use Rattle.hal_schema.specs.Facts.{IsKept}
use Rattle.hal_schema.specs.Forest.{has_unique_key, is_selected}
use Rattle.hal_schema.specs.Insertion.{has_free_key, enters_freely}
use Rattle.hal_schema.specs.Roots.{partition_of}
use Rattle.hal_schema.specs.Row.{row_key}
use Rattle.hal_schema.specs.SegType.{parent_code}
use Rattle.hal_loader.specs.Carrying.{level_kept, is_of_later_type, is_above_key, has_same_key}
use Rattle.hal_loader.specs.Judging.{level_refusals, root_refusals, kept_refusals, JudgesBy}
use Rattle.hal_loader.specs.Placing.{first_name, goes_by_key, load_need}
use Rattle.hal_loader.specs.Refusals.{first_that_holds, is_later_sibling, is_below_last}
use Rattle.hal_loader.specs.Taker.{has_root}
use Rattle.hal_loader.specs.declared.fault.RowFault.TheVariants as row
use Rattle.hal_loader.specs.declared.path.Level.{Level}
use Rattle.hal_loader.proofs.Climbs.{Siblings}
use Rattle.hal_loader.proofs.Newest.{later_is, under_is, again_is, root_is}

-- ---- tables, one behind another

pub first_some : (a b : List (Bool × List ℕ)) (code : List ℕ) → first_that_holds a ≡ Some code → first_that_holds (a ++ b) ≡ Some code
first_some [] b code e = cc e
first_some (t ∷ a) b code e = by t.0 (first_some a b code) e
  where
    by : (c : Bool) → (first_that_holds a ≡ Some code → first_that_holds (a ++ b) ≡ Some code)
        → cond c (Some t.1) (first_that_holds a) ≡ Some code → cond c (Some t.1) (first_that_holds (a ++ b)) ≡ Some code
    by true go f = f
    by false go f = go f

pub first_none : (a b : List (Bool × List ℕ)) → first_that_holds a ≡ None → first_that_holds (a ++ b) ≡ first_that_holds b
first_none [] b e = refl
first_none (t ∷ a) b e = by t.0 (first_none a b) e
  where
    by : (c : Bool) → (first_that_holds a ≡ None → first_that_holds (a ++ b) ≡ first_that_holds b)
        → cond c (Some t.1) (first_that_holds a) ≡ None → cond c (Some t.1) (first_that_holds (a ++ b)) ≡ first_that_holds b
    by true go f = cc f
    by false go f = go f

-- ---- judging by what is kept

pub level_judged : (schema : Schema) (code : ℕ) (parent : Option Ilk) (key : List ℕ) (below : Option Level) (said : List ℕ) (o : Option (List Row))
    → Some said ≡ first_that_holds (level_refusals schema code parent key below)
    → IfSome o (λ rows. JudgesBy (kept_refusals schema rows code parent key below) (Err (row.Broken said)))
level_judged schema code parent key below said None e = tt
level_judged schema code parent key below said (Some rows) e =
    first_some (level_refusals schema code parent key below) (if code == 1 then root_refusals schema rows key else []) said (sym e)

pub root_judged : (schema : Schema) (code : ℕ) (parent : Option Ilk) (key : List ℕ) (below : Option Level) (said : List ℕ) (o : Option (List Row))
    → None ≡ first_that_holds (level_refusals schema code parent key below) → (code == 1) ≡ true
    → IfSome o (λ rows. Some said ≡ first_that_holds (root_refusals schema rows key))
    → IfSome o (λ rows. JudgesBy (kept_refusals schema rows code parent key below) (Err (row.Broken said)))
root_judged schema code parent key below said None e one r = tt
root_judged schema code parent key below said (Some rows) e one r =
    first_none (level_refusals schema code parent key below) (if code == 1 then root_refusals schema rows key else []) (sym e)
    ∙ ap (λ (c : Bool). first_that_holds (if c then root_refusals schema rows key else [])) one ∙ sym r

-- ---- the two tables are one

abbrev pub behind : Schema → List Row → ℕ → Row → List (Bool × List ℕ)
behind schema rows free new =
    (not (list_all (enters_freely schema.types rows new) schema.indexes), codes "NI") ∷ (nat_lt free (load_need schema rows new), codes "+R") ∷ []

selected : (part : Option ℕ) (rest : List (Bool × List ℕ))
    → first_that_holds ((not (is_some part), codes "FM") ∷ rest) ≡ first_that_holds ((is_none part, codes "FM") ∷ rest)
selected None rest = refl
selected (Some p) rest = refl

roots : (a b : Bool) (part : Option ℕ) (rest : List (Bool × List ℕ)) → a ≡ b
    → first_that_holds ((a, codes "LB") ∷ (not (is_some part), codes "FM") ∷ rest) ≡ first_that_holds ((b, codes "LB") ∷ (is_none part, codes "FM") ∷ rest)
roots true true part rest e = refl
roots true false part rest e = cc e
roots false true part rest e = cc e
roots false false part rest e = selected part rest

plain : (c u a t : Bool) (xs ys : List (Bool × List ℕ)) → c ≡ u → (u ≡ false → a ≡ t) → first_that_holds xs ≡ first_that_holds ys
    → first_that_holds ((c, codes "LC") ∷ (a, codes "LB") ∷ xs) ≡ first_that_holds ((u, codes "LC") ∷ (t, codes "LB") ∷ ys)
plain true true a t xs ys e f g = refl
plain true false a t xs ys e f g = cc e
plain false true a t xs ys e f g = cc e
plain false false true true xs ys e f g = refl
plain false false true false xs ys e f g = let h : true ≡ false = f refl in cc h
plain false false false true xs ys e f g = let h : false ≡ true = f refl in cc h
plain false false false false xs ys e f g = g

table : (h r d l c u a t hr : Bool) (part : Option ℕ) (rest : List (Bool × List ℕ))
    → ((h && r) ≡ false → l ≡ false → c ≡ u) → ((h && r) ≡ false → l ≡ false → u ≡ false → a ≡ t) → ((h && r) ≡ true → a ≡ hr)
    → first_that_holds ((d, codes "LD") ∷ (l, codes "LE") ∷ (not (h && r) && c, codes "LC") ∷ (a, codes "LB") ∷ (not (not r || is_some part), codes "FM") ∷ rest)
    ≡ first_that_holds (((d, codes "LD") ∷ (l, codes "LE") ∷ (not (h && r) && u, codes "LC") ∷ (not (h && r) && t, codes "LB") ∷ [])
    ++ (if r then (h && hr, codes "LB") ∷ (is_none part, codes "FM") ∷ [] else []) ++ rest)
table h r true l c u a t hr part rest p q o = refl
table h r false true c u a t hr part rest p q o = refl
table true true false false c u a t hr part rest p q o = roots a hr part rest (o refl)
table true false false false c u a t hr part rest p q o = plain c u a t rest rest (p refl refl) (q refl refl) refl
table false true false false c u a t hr part rest p q o =
    plain c u a t ((not (is_some part), codes "FM") ∷ rest) ((is_none part, codes "FM") ∷ rest) (p refl refl) (q refl refl) (selected part rest)
table false false false false c u a t hr part rest p q o = plain c u a t rest rest (p refl refl) (q refl refl) refl

pub unique_root : (schema : Schema) → IsKept schema → has_unique_key schema.types 1 ≡ true
unique_root schema k =
    let t = k.root_key.0 in
    let f = k.root_key.1 in
    ap (λ (o : Option SegType). option_map_or (λ (key : KeyField). key.unique) (option_and_then (λ (s : SegType). s.key) o) false) k.root_key.2
    ∙ ap (λ (o : Option KeyField). option_map_or (λ (key : KeyField). key.unique) o false) k.root_key.3 ∙ k.root_key.4

-- the table by the rows, but for its last two lines
abbrev pub front_refusals : Schema → List Row → Row → List (Bool × List ℕ)
front_refusals schema rows new =
    (is_some (parent_code schema.types new.code) && is_none new.parent, codes "LD")
    ∷ (list_any (is_later_sibling new) rows, codes "LE")
    ∷ (not (goes_by_key schema new) && is_below_last schema.types rows new, codes "LC")
    ∷ (not (has_free_key schema rows new), codes "LB")
    ∷ (not (is_selected schema new), codes "FM") ∷ []

pub tables_agree : (schema : Schema) (rows : List Row) (rest : List (Bool × List ℕ)) (below : Option Row) (above : List Row) (new : Row) → IsKept schema
    → Siblings schema rows below above → new.parent ≡ first_name above → (new.code ≡ 1 → new.parent ≡ None)
    → first_that_holds (front_refusals schema rows new ++ rest)
    ≡ first_that_holds (kept_refusals schema rows new.code new.parent (row_key schema.types new) (option_map (level_kept schema.types) below) ++ rest)
tables_agree schema rows rest below above new k s e root =
    ap (λ (l : Bool). first_that_holds ((is_some (parent_code schema.types new.code) && is_none new.parent, codes "LD") ∷ (l, codes "LE")
    ∷ (not (goes_by_key schema new) && is_below_last schema.types rows new, codes "LC") ∷ (not (has_free_key schema rows new), codes "LB")
    ∷ (not (is_selected schema new), codes "FM") ∷ rest)) (later_is schema rows below above new s e)
    ∙ table schema.phdam (new.code == 1) (is_some (parent_code schema.types new.code) && is_none new.parent) (is_of_later_type (option_map (level_kept schema.types) below) new.code)
    (is_below_last schema.types rows new) (is_above_key (option_map (level_kept schema.types) below) new.code (row_key schema.types new))
    (not (has_free_key schema rows new)) (has_unique_key schema.types new.code && has_same_key (option_map (level_kept schema.types) below) new.code (row_key schema.types new))
    (has_root schema.types rows (row_key schema.types new)) (partition_of schema (row_key schema.types new)) rest
    (λ plain later. under_is schema rows below above new s e plain later)
    (λ plain later under. again_is schema rows below above new s e plain later under)
    (λ by_key. let one : new.code ≡ 1 = is_root schema.phdam (new.code == 1) new.code refl by_key in
    root_is schema rows new (ap (has_unique_key schema.types) one ∙ unique_root schema k) one (root one))
  where
    is_root : (h r : Bool) (code : ℕ) → r ≡ (code == 1) → (h && r) ≡ true → code ≡ 1
    is_root true true code f g = eqb-true code 1 (sym f)
    is_root true false code f g = cc g
    is_root false r code f g = cc g

-- ---- what a row has that passes

pub record Passed (schema : Schema) (rows : List Row) (below : Option Row) (new : Row) : Type 0 where
  pub parent : (is_some (parent_code schema.types new.code) && is_none new.parent) ≡ false
  pub later : is_of_later_type (option_map (level_kept schema.types) below) new.code ≡ false
  pub above : goes_by_key schema new ≡ false → is_above_key (option_map (level_kept schema.types) below) new.code (row_key schema.types new) ≡ false
  pub last : (not (goes_by_key schema new) && is_below_last schema.types rows new) ≡ false
  pub free : has_free_key schema rows new ≡ true
  pub chosen : is_selected schema new ≡ true

pub not_first : (c : Bool) (code : List ℕ) (rest : List (Bool × List ℕ)) → first_that_holds ((c, code) ∷ rest) ≡ None → c ≡ false
not_first true code rest e = cc e
not_first false code rest e = refl

pub then_rest : (c : Bool) (code : List ℕ) (rest : List (Bool × List ℕ)) → first_that_holds ((c, code) ∷ rest) ≡ None → first_that_holds rest ≡ None
then_rest true code rest e = cc e
then_rest false code rest e = e

-- none of five holds
record NoneHolds (a b c d e : Bool) : Type 0 where
  first : a ≡ false
  second : b ≡ false
  third : c ≡ false
  fourth : d ≡ false
  fifth : e ≡ false

five : (a b c d e : Bool) (ca cb cd ce cf : List ℕ) (rest : List (Bool × List ℕ))
    → first_that_holds ((a, ca) ∷ (b, cb) ∷ (c, cd) ∷ (d, ce) ∷ (e, cf) ∷ rest) ≡ None → NoneHolds a b c d e
five a b c d e ca cb cd ce cf rest h =
    let t1 = (b, cb) ∷ (c, cd) ∷ (d, ce) ∷ (e, cf) ∷ rest in
    let h1 = then_rest a ca t1 h in
    let t2 = (c, cd) ∷ (d, ce) ∷ (e, cf) ∷ rest in
    let h2 = then_rest b cb t2 h1 in
    let t3 = (d, ce) ∷ (e, cf) ∷ rest in
    let h3 = then_rest c cd t3 h2 in
    let h4 = then_rest d ce ((e, cf) ∷ rest) h3 in
    record { first = not_first a ca t1 h; second = not_first b cb t2 h1; third = not_first c cd t3 h2; fourth = not_first d ce ((e, cf) ∷ rest) h3; fifth = not_first e cf rest h4 }

pub is_not : (b : Bool) → not b ≡ false → b ≡ true
is_not true e = refl
is_not false e = cc e

unless_not : (h u : Bool) → (not h && u) ≡ false → h ≡ false → u ≡ false
unless_not true u e f = cc f
unless_not false u e f = e

pub passed : (schema : Schema) (rows : List Row) (below : Option Row) (above : List Row) (new : Row) → IsKept schema
    → Siblings schema rows below above → new.parent ≡ first_name above → (new.code ≡ 1 → new.parent ≡ None)
    → first_that_holds (kept_refusals schema rows new.code new.parent (row_key schema.types new) (option_map (level_kept schema.types) below)) ≡ None
    → Passed schema rows below new
passed schema rows below above new k s e root none =
    let kept : List (Bool × List ℕ) = kept_refusals schema rows new.code new.parent (row_key schema.types new) (option_map (level_kept schema.types) below) in
    let front : first_that_holds (front_refusals schema rows new ++ []) ≡ None = tables_agree schema rows [] below above new k s e root ∙ first_none kept [] none in
    let f = five (is_some (parent_code schema.types new.code) && is_none new.parent) (list_any (is_later_sibling new) rows)
    (not (goes_by_key schema new) && is_below_last schema.types rows new) (not (has_free_key schema rows new)) (not (is_selected schema new))
    (codes "LD") (codes "LE") (codes "LC") (codes "LB") (codes "FM") [] front in
    let later = is_of_later_type (option_map (level_kept schema.types) below) new.code in
    let under = is_above_key (option_map (level_kept schema.types) below) new.code (row_key schema.types new) in
    let tail = (if new.code == 1 then root_refusals schema rows (row_key schema.types new) else []) in
    let again : Bool = not (schema.phdam && new.code == 1) && (has_unique_key schema.types new.code && has_same_key (option_map (level_kept schema.types) below) new.code (row_key schema.types new)) in
    let k1 = then_rest (is_some (parent_code schema.types new.code) && is_none new.parent) (codes "LD") ((later, codes "LE") ∷ (not (schema.phdam && new.code == 1) && under, codes "LC") ∷ (again, codes "LB") ∷ tail) none in
    let k2 = then_rest later (codes "LE") ((not (schema.phdam && new.code == 1) && under, codes "LC") ∷ (again, codes "LB") ∷ tail) k1 in
    record {
      parent = f.first;
      later = not_first later (codes "LE") ((not (schema.phdam && new.code == 1) && under, codes "LC") ∷ (again, codes "LB") ∷ tail) k1;
      above = λ plain. unless_not (goes_by_key schema new) under (not_first (not (schema.phdam && new.code == 1) && under) (codes "LC") ((again, codes "LB") ∷ tail) k2) plain;
      last = f.third;
      free = is_not (has_free_key schema rows new) f.fourth;
      chosen = is_not (is_selected schema new) f.fifth;
    }
