-- Rows as text: what the text says is the rows.
use Rattle.std.proofs.Common.{◌≡◌, ℕ, zero, suc, ◌+◌, ◌-◌, ◌<◌, ◌≤◌, ◌==◌, nat_lt, nat_le, Bool, true, false, not, cond, ◌&&◌, ◌||◌, List, [], ◌∷◌, ◌++◌, length, map, Option, Some, None, inl, inr, refl, sym, ap, subst, ◌∙◌, arith}
use Rattle.std.specs.Prelude.{codes, is_none, option_and_then, position, replicate}
use Rattle.std.specs.List.{list_all, list_any, position_or_len, slice_get, AllByRecursion}
use Rattle.std.specs.Option.{option_map, option_map_or}
use Rattle.std.specs.Str.{bytes_eq}
use Rattle.std.proofs.lemmas.Bool.{and_parts, or_cases, eqb-true, ne_eqb, leb-true, le-leb, ltb-true, lt-ltb, not-true, not_from_false}
use Rattle.std.proofs.lemmas.List.{append-nil}
use Rattle.csv.specs.Machine.{next_record}
use Rattle.csv.specs.Reading.{Reached, default_config, strip_bom}
use Rattle.csv.specs.Records.{field_at}
use Rattle.csv.specs.Writing.{default_writer, escaped, fields_text, is_blank, needs_quotes, row_text}
use Rattle.csv.specs.declared.parser.State.TheVariants as st
use Rattle.csv.proofs.RoundTrip.{read-write}
use Rattle.hex.specs.Hex.{IsBytes, encode_upper, upper_digits}
use Rattle.hex.proofs.HexLemmas.{decode_of-encode_upper, decode_sized-twice, length-encode_with}
use Rattle.hal_base.specs.Bytes.{is_printable}
use Rattle.hal_base.specs.Name.{is_field_name, is_name, is_name_byte, is_name_letter, is_digit, upper}
use Rattle.hal_schema.specs.declared.row.Row.{Row}
use Rattle.hal_schema.specs.declared.schema.Schema.{Schema}
use Rattle.hal_schema.specs.declared.schema.SegType.{SegType}
use Rattle.hal_schema.specs.Forest.{has_length}
use Rattle.hal_schema.specs.Lawful.{all_differ, type_is_named, index_is_named}
use Rattle.hal_schema.specs.SegType.{type_of}
use Rattle.hal_loader.specs.Laws.{SaysRow, UnloadedRowsAreSaid, unloaded, are_bytes}
use Rattle.hal_loader.specs.Refusals.{first_that_holds}
use Rattle.hal_loader.specs.Text.{code_named, code_said, content_of, content_said, hex_content, if_decoded, name_said, text_content}
use Rattle.hal_loader.specs.Unloading.{fields_said, form_of, row_line, segment_of, value_of}
use Rattle.hal_loader.proofs.KeyOrder.{key_itself}
use Rattle.hal_loader.proofs.Readings.{all_of}

-- ---- names

low_letter : (b : ℕ) → is_name_letter b ≡ true → b ≤ 90
low_letter b h =
    elim (or_cases ((nat_le 65 b && nat_le b 90) || b == 35 || b == 64) (b == 36) h) [
      | inr e ↦ let n = eqb-true b 36 e in omega (arith, n)
      | inl g ↦ elim (or_cases ((nat_le 65 b && nat_le b 90) || b == 35) (b == 64) g) [
        | inr e ↦ let n = eqb-true b 64 e in omega (arith, n)
        | inl f ↦ elim (or_cases (nat_le 65 b && nat_le b 90) (b == 35) f) [
          | inr e ↦ let n = eqb-true b 35 e in omega (arith, n)
          | inl e ↦ let n = leb-true b 90 (and_parts (nat_le 65 b) (nat_le b 90) e).1 in omega (arith, n)
        ]
      ]
    ]

low_byte : (b : ℕ) → is_name_byte b ≡ true → b ≤ 90
low_byte b h =
    elim (or_cases (is_name_letter b) (is_digit b) h) [
      | inl e ↦ low_letter b e
      | inr e ↦ let n = leb-true b 57 (and_parts (nat_le 48 b) (nat_le b 57) e).1 in omega (arith, n)
    ]

upper_low : (b : ℕ) → b ≤ 90 → upper b ≡ b
upper_low b low = by (nat_le 97 b) refl
  where
    by : (c : Bool) → nat_le 97 b ≡ c → cond (c && nat_le b 122) (b - 32) b ≡ b
    by true e = let n = leb-true 97 b e in absurd (omega (arith, n, low))
    by false e = refl

all_low : (bytes : List ℕ) → list_all is_name_byte bytes ≡ true → map upper bytes ≡ bytes
all_low [] h = refl
all_low (b ∷ bytes) h = let a = and_parts (is_name_byte b) (list_all is_name_byte bytes) h in λ i. upper_low b (low_byte b a.0) i ∷ all_low bytes a.1 i

-- a name is said as it is
pub said_name : (name : List ℕ) → is_name name ≡ true → name_said name ≡ Some name
said_name name h = ap (λ (n : List ℕ). cond (is_name n) (Some n) None) (same name h) ∙ ap (λ (b : Bool). cond b (Some name) None) h
  where
    same : (n : List ℕ) → is_name n ≡ true → map upper n ≡ n
    same [] e = refl
    same (b ∷ more) e =
        let a = and_parts (is_name_letter b && list_all is_name_byte more) (nat_le (length more) 7) e in
        let c = and_parts (is_name_letter b) (list_all is_name_byte more) a.0 in
        λ i. upper_low b (low_letter b c.0) i ∷ all_low more c.1 i

-- ---- the type that a name is of

all_at : {X : Type 0} (p : X → Bool) (xs : List X) (i : ℕ) (x : X) → list_all p xs ≡ true → slice_get xs i ≡ Some x → p x ≡ true
all_at p [] i x h e = cc e
all_at p (y ∷ ys) zero x h e = let is : y ≡ x = cc e in ap p (sym is) ∙ (and_parts (p y) (list_all p ys) h).0
all_at p (y ∷ ys) (suc i) x h e = all_at p ys i x (and_parts (p y) (list_all p ys) h).1 e

apart_at : (n : List ℕ) (types : List SegType) (i : ℕ) (t : SegType) → list_any (bytes_eq n) (map (λ u. u.name) types) ≡ false → slice_get types i ≡ Some t → bytes_eq n t.name ≡ false
apart_at n [] i t h e = cc e
apart_at n (u ∷ types) zero t h e = let is : u ≡ t = cc e in ap (λ (v : SegType). bytes_eq n v.name) (sym is) ∙ first (bytes_eq n u.name) (list_any (bytes_eq n) (map (λ u. u.name) types)) h
  where
    first : (a b : Bool) → (a || b) ≡ false → a ≡ false
    first true b f = cc f
    first false b f = refl
apart_at n (u ∷ types) (suc i) t h e = apart_at n types i t (second (bytes_eq n u.name) (list_any (bytes_eq n) (map (λ u. u.name) types)) h) e
  where
    second : (a b : Bool) → (a || b) ≡ false → b ≡ false
    second true b f = cc f
    second false b f = f

record Found (types : List SegType) (i : ℕ) (name : List ℕ) : Type 0 where
  place : position_or_len (λ (u : SegType). bytes_eq u.name name) types ≡ i
  within : i < length types

found_at : (types : List SegType) (i : ℕ) (t : SegType) → all_differ bytes_eq (map (λ u. u.name) types) ≡ true → slice_get types i ≡ Some t → Found types i t.name
found_at [] i t h e = cc e
found_at (u ∷ types) zero t h e =
    let is : u ≡ t = cc e in
    record {
      place = ap (λ (b : Bool). cond (not b) (1 + position_or_len (λ (v : SegType). bytes_eq v.name t.name) types) 0) (ap (λ (v : SegType). bytes_eq v.name t.name) is ∙ key_itself t.name);
      within = omega arith;
    }
found_at (u ∷ types) (suc i) t h e =
    let a = and_parts (not (list_any (bytes_eq u.name) (map (λ v. v.name) types))) (all_differ bytes_eq (map (λ v. v.name) types)) h in
    let go = found_at types i t a.1 e in
    let apart = apart_at u.name types i t (not-true (list_any (bytes_eq u.name) (map (λ v. v.name) types)) a.0) e in
    let next : position_or_len (λ (v : SegType). bytes_eq v.name t.name) (u ∷ types) ≡ 1 + position_or_len (λ (v : SegType). bytes_eq v.name t.name) types =
    ap (λ (b : Bool). cond (not b) (1 + position_or_len (λ (v : SegType). bytes_eq v.name t.name) types) 0) apart in
    record { place = next ∙ (let p = go.place in let n : 1 + position_or_len (λ (v : SegType). bytes_eq v.name t.name) types ≡ suc i = omega (arith, p) in n); within = let w = go.within in omega (arith, w) }

pub named_code : (schema : Schema) (code : ℕ) (t : SegType) → type_of schema.types code ≡ Some t → code_named schema.types t.name ≡ Some code
named_code schema zero t e = cc e
named_code schema (suc place) t e =
    let named = all_at type_is_named schema.types place t
    (and_parts (is_name schema.name && option_map_or is_name schema.rm true) (list_all type_is_named schema.types)
    (and_parts (is_name schema.name && option_map_or is_name schema.rm true && list_all type_is_named schema.types) (list_all index_is_named schema.indexes)
    (and_parts (is_name schema.name && option_map_or is_name schema.rm true && list_all type_is_named schema.types && list_all index_is_named schema.indexes) (list_all (λ p. is_name p.name) schema.parts) schema.names).0).0).1 e in
    let said = said_name t.name (and_parts (is_name t.name) (list_all (λ f. is_field_name f.name) t.fields) named).0 in
    let f = found_at schema.types place t schema.type_names e in
    let within = lt-ltb place (length schema.types) f.within in
    ap (λ (o : Option (List ℕ)). option_and_then (λ (n : List ℕ). option_map (λ (p : ℕ). p + 1) (position (λ (u : SegType). bytes_eq u.name n) schema.types)) o) said
    ∙ ap (λ (p : ℕ). option_map (λ (p : ℕ). p + 1) (cond (nat_lt p (length schema.types)) (Some p) None)) f.place
    ∙ ap (λ (b : Bool). option_map (λ (p : ℕ). p + 1) (cond b (Some place) None)) within
    ∙ (let n : place + 1 ≡ suc place = omega arith in ap (λ (m : ℕ). Some m) n)

-- ---- contents

bytes_are : (content : List ℕ) → list_all (λ b. nat_lt b 256) content ≡ true → IsBytes content
bytes_are [] h i = omega arith
bytes_are (b ∷ content) h zero = ltb-true b 256 (and_parts (nat_lt b 256) (list_all (λ b. nat_lt b 256) content) h).0
bytes_are (b ∷ content) h (suc i) = bytes_are content (and_parts (nat_lt b 256) (list_all (λ b. nat_lt b 256) content) h).1 i

text_back : (content : List ℕ) → list_all is_printable content ≡ true → text_content (length content) content ≡ Some content
text_back content h =
    let le = le-leb (length content) (length content) (omega arith) in
    let none : length content - length content ≡ 0 = omega arith in
    ap (λ (b : Bool). cond (b && nat_le (length content) (length content)) (Some (content ++ replicate (length content - length content) 32)) None) h
    ∙ ap (λ (b : Bool). cond b (Some (content ++ replicate (length content - length content) 32)) None) le
    ∙ ap (λ (n : ℕ). Some (content ++ replicate n 32)) none ∙ ap (λ (l : List ℕ). Some l) (append-nil content)

hex_back : (content : List ℕ) → list_all (λ b. nat_lt b 256) content ≡ true → hex_content (length content) (encode_upper content) ≡ Some content
hex_back content h =
    let len = length-encode_with upper_digits content in
    ap if_decoded (decode_sized-twice (encode_upper content) (length content) len ∙ decode_of-encode_upper content (bytes_are content h))

content_back : (content : List ℕ) → list_all (λ b. nat_lt b 256) content ≡ true → content_of (length content) (form_of content) (value_of content) ≡ Some content
content_back content h = by (list_all is_printable content) refl
  where
    by : (b : Bool) → list_all is_printable content ≡ b → content_of (length content) (cond b (codes "T") (codes "X")) (cond b content (encode_upper content)) ≡ Some content
    by true e = text_back content e
    by false e = hex_back content h

-- ---- a row's record says the row

says_row : (schema : Schema) (row : Row) → has_length schema.types row ≡ true → list_all (λ b. nat_lt b 256) row.content ≡ true → SaysRow schema.types row
unfolding field_at
says_row schema row long bytes = by (type_of schema.types row.code) refl long
  where
    by : (o : Option SegType) → type_of schema.types row.code ≡ o → option_map_or (λ (t : SegType). length row.content == t.bytes) o false ≡ true → SaysRow schema.types row
    by None e h = cc h
    by (Some t) e h =
        let name : segment_of schema.types row.code ≡ t.name = ap (λ (o : Option SegType). option_map_or (λ (u : SegType). u.name) o []) e in
        let code : code_said schema.types (fields_said schema.types row) ≡ Some row.code = ap (code_named schema.types) name ∙ named_code schema row.code t e in
        let same : length row.content ≡ t.bytes = eqb-true (length row.content) t.bytes h in
        let content : content_said schema.types (fields_said schema.types row) ≡ Some row.content =
        ap (λ (o : Option ℕ). option_and_then (λ (u : SegType). content_of u.bytes (form_of row.content) (value_of row.content)) (option_and_then (type_of schema.types) o)) code
        ∙ ap (λ (o : Option SegType). option_and_then (λ (u : SegType). content_of u.bytes (form_of row.content) (value_of row.content)) o) e
        ∙ ap (λ (n : ℕ). content_of n (form_of row.content) (value_of row.content)) (sym same) ∙ content_back row.content bytes in
        record {
          kept = ap (λ (o : Option ℕ). first_that_holds ((is_none o, codes "F2") ∷ (is_none (content_said schema.types (fields_said schema.types row)), codes "F3") ∷ [])) code
              ∙ ap (λ (o : Option (List ℕ)). first_that_holds ((is_none o, codes "F3") ∷ [])) content;
          code = code;
          content = content;
        }

all_say : (schema : Schema) (rows : List Row) → list_all (has_length schema.types) rows ≡ true → are_bytes rows ≡ true → AllByRecursion (SaysRow schema.types) rows
all_say schema [] long bytes = tt
all_say schema (row ∷ rows) long bytes =
    let a = and_parts (has_length schema.types row) (list_all (has_length schema.types) rows) long in
    let b = and_parts (list_all (λ c. nat_lt c 256) row.content) (are_bytes rows) bytes in
    (says_row schema row a.0 b.0, all_say schema rows a.1 b.1)

-- ---- the records of the text

reached : (types : List SegType) (rows : List Row) → Reached default_config st.StartRecord (unloaded types rows) (map (fields_said types) rows) st.StartRecord []
unfolding Reached
reached types [] = (refl, refl)
reached types (row ∷ rows) =
    ((fields_said types row, st.StartRecord, unloaded types rows), read-write (fields_said types row) (unloaded types rows), refl, reached types rows)

-- a text that begins with another byte has no byte order mark
begins_plain : List ℕ → Bool
begins_plain text = option_map_or (λ b. not (b == 0xEF)) (slice_get text 0) true

no_mark : (text : List ℕ) → begins_plain text ≡ true → strip_bom text ≡ text
unfolding strip_bom begins_plain
no_mark [] h = refl
no_mark (a ∷ []) h = refl
no_mark (a ∷ b ∷ []) h = refl
no_mark (a ∷ b ∷ c ∷ rest) h = ap (λ (t : Bool). cond (t && (b == 0xBB) && (c == 0xBF)) rest (a ∷ b ∷ c ∷ rest)) (not-true (a == 0xEF) h)

line_plain : (schema : Schema) (row : Row) (rest : List ℕ) → begins_plain (row_line schema.types row ++ rest) ≡ true
unfolding begins_plain fields_text
line_plain schema row rest = by (segment_of schema.types row.code) (is_low (type_of schema.types row.code) refl)
  where
    low_head : List ℕ → Bool
    low_head name = option_map_or (λ b. nat_le b 90) (slice_get name 0) true

    names : list_all type_is_named schema.types ≡ true
    names =
        (and_parts (is_name schema.name && option_map_or is_name schema.rm true) (list_all type_is_named schema.types)
        (and_parts (is_name schema.name && option_map_or is_name schema.rm true && list_all type_is_named schema.types) (list_all index_is_named schema.indexes)
        (and_parts (is_name schema.name && option_map_or is_name schema.rm true && list_all type_is_named schema.types && list_all index_is_named schema.indexes) (list_all (λ p. is_name p.name) schema.parts) schema.names).0).0).1

    head : (name : List ℕ) → is_name name ≡ true → option_map_or (λ b. nat_le b 90) (slice_get name 0) true ≡ true
    head [] h = refl
    head (b ∷ more) h = le-leb b 90 (low_letter b (and_parts (is_name_letter b) (list_all is_name_byte more) (and_parts (is_name_letter b && list_all is_name_byte more) (nat_le (length more) 7) h).0).0)

    at_code : (code : ℕ) (t : SegType) → type_of schema.types code ≡ Some t → type_is_named t ≡ true
    at_code zero t e = cc e
    at_code (suc place) t e = all_at type_is_named schema.types place t names e

    is_low : (o : Option SegType) → type_of schema.types row.code ≡ o → option_map_or (λ b. nat_le b 90) (slice_get (option_map_or (λ (t : SegType). t.name) (type_of schema.types row.code) []) 0) true ≡ true
    is_low None e = ap (λ (o : Option SegType). option_map_or (λ b. nat_le b 90) (slice_get (option_map_or (λ (t : SegType). t.name) o []) 0) true) e
    is_low (Some t) e = ap (λ (o : Option SegType). option_map_or (λ b. nat_le b 90) (slice_get (option_map_or (λ (t : SegType). t.name) o []) 0) true) e
        ∙ head t.name (and_parts (is_name t.name) (list_all (λ f. is_field_name f.name) t.fields) (at_code row.code t e)).0

    not_mark : (b : ℕ) → nat_le b 90 ≡ true → not (b == 0xEF) ≡ true
    not_mark b h = not_from_false (b == 0xEF) (ne_eqb b 0xEF (λ e. let n = leb-true b 90 h in absurd (omega (arith, n, e))))

    by : (name : List ℕ) → option_map_or (λ b. nat_le b 90) (slice_get name 0) true ≡ true
        → option_map_or (λ b. not (b == 0xEF)) (slice_get (row_text default_writer (name ∷ form_of row.content ∷ value_of row.content ∷ []) ++ rest) 0) true ≡ true
    by [] h = refl
    by (b ∷ name) h = quoted (needs_quotes default_writer (b ∷ name))
      where
        quoted : (q : Bool) → option_map_or (λ c. not (c == 0xEF)) (slice_get (((cond q (34 ∷ (escaped default_writer (b ∷ name) ++ 34 ∷ [])) (b ∷ name)) ++ fields_text default_writer (form_of row.content ∷ value_of row.content ∷ [])
            ++ ((cond (is_blank default_writer ((b ∷ name) ∷ form_of row.content ∷ value_of row.content ∷ [])) (34 ∷ 34 ∷ []) []) ++ 10 ∷ [])) ++ rest) 0) true ≡ true
        quoted true = refl
        quoted false = not_mark b h

text_plain : (schema : Schema) (rows : List Row) → begins_plain (unloaded schema.types rows) ≡ true
unfolding begins_plain
text_plain schema [] = refl
text_plain schema (row ∷ rows) = line_plain schema row (unloaded schema.types rows)

pub unloaded_said : UnloadedRowsAreSaid
unfolding next_record
unloaded_said schema rows long bytes = record {
  records = all_of (unloaded schema.types rows) st.StartRecord [] (map (fields_said schema.types) rows)
      (subst (λ (t : List ℕ). Reached default_config st.StartRecord t (map (fields_said schema.types) rows) st.StartRecord []) (sym (no_mark (unloaded schema.types rows) (text_plain schema rows))) (reached schema.types rows)) refl;
  says = all_say schema rows long bytes;
}
