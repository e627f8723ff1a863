-- A load keeps a forest, and what its path keeps.
use Rattle.std.proofs.Common.{◌≡◌, ℕ, ◌+◌, ◌-◌, ◌==◌, nat_lt, nat_le, Bool, true, false, not, cond, ◌&&◌, List, [], ◌∷◌, ◌++◌, length, Option, Some, None, Result, Ok, Err, refl, sym, ap, subst, ◌∙◌, arith}
use Rattle.std.specs.Prelude.{codes, is_none, option_and_then, replicate}
use Rattle.std.specs.List.{list_all}
use Rattle.std.specs.Option.{option_map, option_map_or}
use Rattle.std.specs.Str.{bytes_eq}
use Rattle.std.proofs.lemmas.Bool.{and_parts, and_from, not_from_false, eq-eqb, leb-true}
use Rattle.std.proofs.lemmas.List.{length-append, length-replicate}
use Rattle.hex.specs.Hex.{decode_sized}
use Rattle.hex.specs.declared.error.FromHexError.{FromHexError}
use Rattle.hex.proofs.HexLemmas.{decode_of-ok, decode_sized-ok, decode_sized-twice}
use Rattle.hal_base.specs.Bytes.{is_printable}
use Rattle.hal_base.specs.declared.place.Ilk.{Ilk}
use Rattle.hal_schema.specs.declared.row.Row.{Row}
use Rattle.hal_schema.specs.declared.schema.IndexDef.{IndexDef}
use Rattle.hal_schema.specs.declared.schema.Schema.{Schema}
use Rattle.hal_schema.specs.declared.schema.SegType.{SegType}
use Rattle.hal_schema.specs.Facts.{IsKept, SchemasAreKept}
use Rattle.hal_schema.specs.Forest.{is_selected, is_forest}
use Rattle.hal_schema.specs.Insertion.{has_free_key, has_parent_in, enters_freely}
use Rattle.hal_schema.specs.Row.{row_key, is_new_name}
use Rattle.hal_schema.specs.SegType.{parent_code, type_of}
use Rattle.hal_loader.specs.Carrying.{level_kept, Carried, passed_on, row_at}
use Rattle.hal_loader.specs.Judging.{kept_refusals}
use Rattle.hal_loader.specs.Laws.{ComesLawfully, TakingKeeps, LoadingKeeps}
use Rattle.hal_loader.specs.Loading.{Taken, Loads, AreLoaded, begin, stands_after, stands_after_all}
use Rattle.hal_loader.specs.Placing.{with_name, with_loaded, path_from, parent_path, goes_by_key, load_need}
use Rattle.hal_loader.specs.Refusals.{Standing, first_that_holds, text_refusals, row_refusals, row_said, is_below_last}
use Rattle.hal_loader.specs.Text.{code_said, content_said, content_of, text_content, hex_content, if_decoded, field_of}
use Rattle.hal_loader.proofs.Climbs.{row_code, climbed}
use Rattle.hal_loader.proofs.Comings.{came}
use Rattle.hal_loader.proofs.Judgements.{behind, first_none, not_first, then_rest, is_not, tables_agree, passed}
use Rattle.hal_loader.proofs.Placings.{root_alone, parent_kind, has_parent, said_is}

-- ---- a content that is said has its type's length

text_long : (bytes : ℕ) (value content : List ℕ) → text_content bytes value ≡ Some content → length content ≡ bytes
text_long bytes value content e = by (list_all is_printable value && nat_le (length value) bytes) refl e
  where
    by : (b : Bool) → (list_all is_printable value && nat_le (length value) bytes) ≡ b → cond b (Some (value ++ replicate (bytes - length value) 32)) None ≡ Some content → length content ≡ bytes
    by true f g =
        let is : value ++ replicate (bytes - length value) 32 ≡ content = cc g in
        let le = leb-true (length value) bytes (and_parts (list_all is_printable value) (nat_le (length value) bytes) f).1 in
        let blanks : List ℕ = replicate (bytes - length value) 32 in
        let n : length (value ++ blanks) ≡ length value + length blanks = length-append value blanks in
        let m : length blanks ≡ bytes - length value = length-replicate (bytes - length value) 32 in
        ap length (sym is) ∙ (let k : length (value ++ blanks) ≡ bytes = omega (arith, n, m, le) in k)
    by false f g = cc g

hex_long : (bytes : ℕ) (value content : List ℕ) → hex_content bytes value ≡ Some content → length content ≡ bytes
hex_long bytes value content e = by (decode_sized value bytes) refl e
  where
    by : (r : Result (List ℕ) FromHexError) → decode_sized value bytes ≡ r → if_decoded r ≡ Some content → length content ≡ bytes
    by (Err why) f g = cc g
    by (Ok c) f g =
        let is : c ≡ content = cc g in
        let long = decode_sized-ok value bytes c f in
        let two = (decode_of-ok value c (sym (decode_sized-twice value bytes long) ∙ f)).2 in
        ap length (sym is) ∙ (let k : length c ≡ bytes = omega (arith, long, two) in k)

content_long : (bytes : ℕ) (form value content : List ℕ) → content_of bytes form value ≡ Some content → length content ≡ bytes
content_long bytes form value content e = by (bytes_eq form (codes "T")) (bytes_eq form (codes "X")) e
  where
    by : (b c : Bool) → cond b (text_content bytes value) (cond c (hex_content bytes value) None) ≡ Some content → length content ≡ bytes
    by true c f = text_long bytes value content f
    by false true f = hex_long bytes value content f
    by false false f = cc f

said_long : (types : List SegType) (fields : List (List ℕ)) (code : ℕ) (content : List ℕ) → code_said types fields ≡ Some code → content_said types fields ≡ Some content
    → option_map_or (λ (t : SegType). length content == t.bytes) (type_of types code) false ≡ true
said_long types fields code content e f = by (type_of types code) (ap (λ (o : Option ℕ). option_and_then (λ (t : SegType). content_of t.bytes (field_of 1 fields) (field_of 2 fields)) (option_and_then (type_of types) o)) (sym e) ∙ f)
  where
    by : (o : Option SegType) → option_and_then (λ (t : SegType). content_of t.bytes (field_of 1 fields) (field_of 2 fields)) o ≡ Some content
        → option_map_or (λ (t : SegType). length content == t.bytes) o false ≡ true
    by None g = cc g
    by (Some t) g = eq-eqb (length content) t.bytes (content_long t.bytes (field_of 1 fields) (field_of 2 fields) content g)

-- ---- what a record says that breaks no rule

pub record Says (types : List SegType) (fields : List (List ℕ)) : Type 0 where
  pub code : ℕ
  pub content : List ℕ
  pub code_is : code_said types fields ≡ Some code
  pub content_is : content_said types fields ≡ Some content

some_of : {X : Type 0} (o : Option X) → is_none o ≡ false → (x : X) × (o ≡ Some x)
some_of None e = cc e
some_of (Some x) e = (x, refl)

front_none : (a b : List (Bool × List ℕ)) → first_that_holds (a ++ b) ≡ None → first_that_holds a ≡ None
front_none [] b e = refl
front_none (t ∷ a) b e = by t.0 (front_none a b) e
  where
    by : (c : Bool) → (first_that_holds (a ++ b) ≡ None → first_that_holds a ≡ None) → cond c (Some t.1) (first_that_holds (a ++ b)) ≡ None → cond c (Some t.1) (first_that_holds a) ≡ None
    by true go f = f
    by false go f = go f

says : (types : List SegType) (fields : List (List ℕ)) → first_that_holds (text_refusals types fields) ≡ None → Says types fields
says types fields e =
    let t2 = (is_none (content_said types fields), codes "F3") ∷ [] in
    let t1 = (is_none (code_said types fields), codes "F2") ∷ t2 in
    let h1 = then_rest (not (length fields == 3)) (codes "F1") t1 e in
    let h2 = then_rest (is_none (code_said types fields)) (codes "F2") t2 h1 in
    let c = some_of (code_said types fields) (not_first (is_none (code_said types fields)) (codes "F2") t2 h1) in
    let d = some_of (content_said types fields) (not_first (is_none (content_said types fields)) (codes "F3") [] h2) in
    record { code = c.0; content = d.0; code_is = c.1; content_is = d.1 }

-- ---- a row that breaks no rule

pub record Steps (schema : Schema) (at : Standing) (code : ℕ) (content : List ℕ) (name : Ilk) : Type 0 where
  pub comes : ComesLawfully schema at.rows (row_at schema.types at.path code content) name
  pub carried : Carried schema (with_loaded schema at.rows (with_name (row_at schema.types at.path code content) name))
      (with_name (row_at schema.types at.path code content) name ∷ parent_path schema.types at.path code)

pub row_steps : (schema : Schema) (at : Standing) (code : ℕ) (content : List ℕ) (name : Ilk) → IsKept schema → Carried schema at.rows at.path
    → option_map_or (λ (t : SegType). length content == t.bytes) (type_of schema.types code) false ≡ true → is_new_name at.rows name ≡ true
    → first_that_holds (row_refusals schema at.rows at.free (row_at schema.types at.path code content)) ≡ None → Steps schema at code content name
row_steps schema at code content name k carried long fresh none =
    let wanted = parent_code schema.types code in
    let new : Row = row_at schema.types at.path code content in
    let above : List Row = path_from row_code wanted at.path in
    let below : Option Row = passed_on row_code wanted None at.path in
    let up = climbed schema at.rows wanted None at.path (record { siblings = carried.childless; on_path = carried.on_path; apart = carried.apart }) in
    let alone = root_alone schema at code k in
    let kept = kept_refusals schema at.rows code new.parent (row_key schema.types new) (option_map (level_kept schema.types) below) in
    let rest = behind schema at.rows at.free new in
    let judged : first_that_holds (kept_refusals schema at.rows code new.parent (row_key schema.types new) (option_map (level_kept schema.types) below) ++ behind schema at.rows at.free new) ≡ None =
    sym (tables_agree schema at.rows rest below above new k up.siblings refl alone) ∙ none in
    let p = passed schema at.rows below above new k up.siblings refl alone (front_none kept rest judged) in
    let last = sym (first_none kept rest (front_none kept rest judged)) ∙ judged in
    let entries = is_not (list_all (enters_freely schema.types at.rows new) schema.indexes)
    (not_first (not (list_all (enters_freely schema.types at.rows new) schema.indexes)) (codes "NI") ((nat_lt at.free (load_need schema at.rows new), codes "+R") ∷ []) last) in
    let under : Bool = not (goes_by_key schema new) && is_below_last schema.types at.rows new in
    record {
      comes = record {
        long = long;
        fits = and_from (has_parent_in schema.types at.rows new && not under && has_free_key schema at.rows new) (is_selected schema new)
            (and_from (has_parent_in schema.types at.rows new && not under) (has_free_key schema at.rows new)
            (and_from (has_parent_in schema.types at.rows new) (not under)
            (has_parent schema at.rows at.path code content k up.on_path long alone p.parent) (not_from_false under p.last)) p.free) p.chosen;
        entries = entries;
        new = fresh;
      };
      carried = came schema at.rows below above (with_name new name) up carried.parents refl (parent_kind wanted at.path p.parent) fresh p.later p.above;
    }

-- ---- a load

pub record Keeps (schema : Schema) (at : Standing) : Type 0 where
  pub forest : is_forest schema at.rows ≡ true
  pub carried : Carried schema at.rows at.path

pub load_steps : (schema : Schema) (at : Standing) (fields : List (List ℕ)) (taken : Taken) → SchemasAreKept → TakingKeeps → Keeps schema at → Loads schema at fields taken → Keeps schema (stands_after schema at taken)
load_steps schema at fields taken kept taking now loads =
    let rest = row_refusals schema at.rows at.free (row_said schema.types at.path fields) in
    let text = front_none (text_refusals schema.types fields) rest loads.kept in
    let s = says schema.types fields text in
    let is = said_is schema.types at.path fields s.code s.content s.code_is s.content_is in
    let none = sym (first_none (text_refusals schema.types fields) rest text) ∙ loads.kept in
    let here : first_that_holds (row_refusals schema at.rows at.free (row_at schema.types at.path s.code s.content)) ≡ None =
    ap (λ (r : Row). first_that_holds (row_refusals schema at.rows at.free r)) (sym is) ∙ none in
    let t = row_steps schema at s.code s.content taken.row.name (kept schema) now.carried (said_long schema.types fields s.code s.content s.code_is s.content_is) loads.new here in
    let row : with_name (row_at schema.types at.path s.code s.content) taken.row.name ≡ taken.row = ap (λ (r : Row). with_name r taken.row.name) (sym is) ∙ sym loads.said in
    subst (λ (r : Row). Keeps schema (record { rows = with_loaded schema at.rows r; path = r ∷ parent_path schema.types at.path r.code; free = taken.free })) row
    (record { forest = taking schema at.rows (row_at schema.types at.path s.code s.content) taken.row.name now.forest t.comes; carried = t.carried })

all_load : (schema : Schema) (at : Standing) (records : List (List (List ℕ))) (taken : List Taken) → SchemasAreKept → TakingKeeps → Keeps schema at → AreLoaded schema at records taken → Keeps schema (stands_after_all schema at taken)
all_load schema at [] [] kept taking now loaded = now
all_load schema at [] (t ∷ taken) kept taking now loaded = absurd loaded
all_load schema at (fields ∷ records) [] kept taking now loaded = absurd loaded
all_load schema at (fields ∷ records) (t ∷ taken) kept taking now loaded =
    all_load schema (stands_after schema at t) records taken kept taking (load_steps schema at fields t kept taking now loaded.0) loaded.1

all_true : (indexes : List IndexDef) → list_all (λ (i : IndexDef). true) indexes ≡ true
all_true [] = refl
all_true (i ∷ indexes) = all_true indexes

pub none_keeps : (schema : Schema) (free : ℕ) → Keeps schema (begin free)
none_keeps schema free = record { forest = all_true schema.indexes; carried = record { on_path = tt; apart = refl; childless = refl; parents = refl } }

pub loading_kept : SchemasAreKept → TakingKeeps → LoadingKeeps
loading_kept kept taking schema free records taken loaded = (all_load schema (begin free) records taken kept taking (none_keeps schema free) loaded).forest
