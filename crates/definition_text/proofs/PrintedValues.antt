-- Names, numbers and lists of names as they are printed read as themselves.
use Rattle.hal_base.specs.Numbers.{number_of}
use Rattle.std.proofs.Common.{◌≡◌, ℕ, ◌+◌, ◌-◌, ◌*◌, ◌/◌, ◌%◌, ◌^◌, ◌<◌, ◌≤◌, Bool, true, false, ◌&&◌, ◌==◌, nat_le, nat_lt, List, [], ◌∷◌, ◌++◌, length, map, Some, Ok, codes, decimal, refl, sym, ap, ◌∙◌, arith, inl, inr, subst}
use Rattle.std.proofs.lemmas.Bool.{and_parts, and_from, or_cases, leb-true, le-leb, le-ltb, lt-ltb, ne_eqb}
use Rattle.std.proofs.lemmas.Bool.Decides.{nat_tests}
use Rattle.std.proofs.lemmas.Fmt.{decimal_by_steps, decimal_nonempty, length-decimal-le}
use Rattle.std.proofs.lemmas.List.Folds.{list_all-append}
use Rattle.std.proofs.lemmas.List.Sums.{fold-append}
use Rattle.std.specs.List.{list_all, list_any}
use Rattle.hal_base.specs.Name.{is_name, is_name_letter, is_name_byte, is_portion_name, is_field_name, is_digit, upper}
use Rattle.dbd_reader.specs.Operands.{inside, parts, pieces_from}
use Rattle.dbd_reader.specs.Values.{name_value, is_system_name, field_value, is_number, number_value, access_of, access_value, rmname_of, rmname_value, parent_value, bytes_of, bytes_value, rules_of, rules_value, letter_value, keyed_of, keyed_value, child_of, child_value, index_value, fields_of, fields_value, search_value}
use Rattle.definition_printer.specs.Dbd.{method, twin_place}
use Rattle.definition_text.specs.RawDbd.{sequence}
use Rattle.definition_text.proofs.Printed.{is_inner, is_short, listed, value_text, IsValue, all_imply, short_inner}
use Rattle.definition_text.proofs.HighText.{name_upper}
use Rattle.definition_text.proofs.OperandsRead.{inside_none, inside_list, list_back, parts_alone, parts_list}

-- ---- names

letter_inner : (b : ℕ) → is_name_letter b ≡ true → is_inner b ≡ true
letter_inner b h = grind (arith, nat_tests)

byte_inner : (b : ℕ) → is_name_byte b ≡ true → is_inner b ≡ true
byte_inner b h = grind (arith, nat_tests)

byte_upper : (b : ℕ) → is_name_byte b ≡ true → upper b ≡ b
byte_upper b h = grind (arith, nat_tests)

bytes_upper : (s : List ℕ) → list_all is_name_byte s ≡ true → map upper s ≡ s
bytes_upper [] h = refl
bytes_upper (b ∷ s) h =
    let (here, later) = and_parts (is_name_byte b) (list_all is_name_byte s) h in
    rw (byte_upper b here) (ap (λ (xs : List ℕ). b ∷ xs) (bytes_upper s later))

pub name_short : (name : List ℕ) → is_name name ≡ true → is_short name ≡ true
name_short [] h = refl
name_short (b ∷ s) h =
    let (front, short) = and_parts (is_name_letter b && list_all is_name_byte s) (nat_le (length s) 7) h in
    let (first, more) = and_parts (is_name_letter b) (list_all is_name_byte s) front in
    let few = leb-true (length s) 7 short in
    and_from (list_all is_inner (b ∷ s)) (nat_le (length (b ∷ s)) 20) (and_from (is_inner b) (list_all is_inner s) (letter_inner b first) (all_imply is_name_byte is_inner byte_inner s more)) (le-leb (length (b ∷ s)) 20 (omega (arith, few)))

pub name_some : (name : List ℕ) → is_name name ≡ true → (length name == 0) ≡ false
name_some [] h = absurd (let no : false ≡ true = h in cc)
name_some (b ∷ s) h = ne_eqb (length (b ∷ s)) 0 (λ e. omega (arith, e))

pub name_back : (name : List ℕ) → is_name name ≡ true → name_value name ≡ Ok name
unfolding name_value
name_back name h = rw (name_upper name h, h) refl

-- the parts of the name of a portion of the concatenated key
record IsPortion (name : List ℕ) : Type 0 where
  more : List ℕ
  is : name ≡ 47 ∷ 67 ∷ 75 ∷ more
  bytes : list_all is_name_byte more ≡ true
  few : length more ≤ 5

portion_parts : (name : List ℕ) → is_portion_name name ≡ true → IsPortion name
portion_parts [] h = absurd (let no : false ≡ true = h in cc)
portion_parts (a ∷ []) h = absurd (let no : false ≡ true = h in cc)
portion_parts (a ∷ b ∷ []) h = absurd (let no : false ≡ true = h in cc)
portion_parts (a ∷ b ∷ c ∷ more) h =
    let (front, short) = and_parts (a == 47 && b == 67 && c == 75 && list_all is_name_byte more) (nat_le (length more) 5) h in
    let (heads, bytes) = and_parts (a == 47 && b == 67 && c == 75) (list_all is_name_byte more) front in
    let (two, third) = and_parts (a == 47 && b == 67) (c == 75) heads in
    let (first, second) = and_parts (a == 47) (b == 67) two in
    let ea : a ≡ 47 = grind (arith, nat_tests) in
    let eb : b ≡ 67 = grind (arith, nat_tests) in
    let ec : c ≡ 75 = grind (arith, nat_tests) in
    record { more = more; is = rw (ea, eb, ec) refl; bytes = bytes; few = leb-true (length more) 5 short }

-- what holds of the names of fields holds of names and of those of portions
field_by : (P : List ℕ → Type 0) → ((name : List ℕ) → is_name name ≡ true → P name) → ((more : List ℕ) → list_all is_name_byte more ≡ true → length more ≤ 5 → P (47 ∷ 67 ∷ 75 ∷ more)) → (name : List ℕ) → is_field_name name ≡ true → P name
field_by P plain portion name h = elim (or_cases (is_name name) (is_portion_name name) h) [
  | inl e ↦ plain name e
  | inr e ↦ (let p = portion_parts name e in subst P (sym p.is) (portion p.more p.bytes p.few))
]

portion_short : (more : List ℕ) → list_all is_name_byte more ≡ true → length more ≤ 5 → is_short (47 ∷ 67 ∷ 75 ∷ more) ≡ true
portion_short more h few =
    and_from (list_all is_inner more) (nat_le (length (47 ∷ 67 ∷ 75 ∷ more)) 20) (all_imply is_name_byte is_inner byte_inner more h) (le-leb (length (47 ∷ 67 ∷ 75 ∷ more)) 20 (omega (arith, few)))

pub field_short : (name : List ℕ) → is_field_name name ≡ true → is_short name ≡ true
field_short = field_by (λ name. is_short name ≡ true) name_short portion_short

pub field_some : (name : List ℕ) → is_field_name name ≡ true → (length name == 0) ≡ false
field_some = field_by (λ name. (length name == 0) ≡ false) name_some (λ more h few. ne_eqb (length (47 ∷ 67 ∷ 75 ∷ more)) 0 (λ e. omega (arith, e)))

pub field_upper : (name : List ℕ) → is_field_name name ≡ true → map upper name ≡ name
field_upper = field_by (λ name. map upper name ≡ name) name_upper (λ more h few. ap (λ (xs : List ℕ). 47 ∷ 67 ∷ 75 ∷ xs) (bytes_upper more h))

pub field_back : (name : List ℕ) → is_field_name name ≡ true → field_value name ≡ Ok name
unfolding field_value
field_back name h = rw (field_upper name h, h) refl

name_no_system : (name : List ℕ) → is_name name ≡ true → is_system_name name ≡ false
name_no_system [] h = refl
name_no_system (a ∷ []) h = refl
name_no_system (a ∷ b ∷ []) h = refl
name_no_system (a ∷ b ∷ c ∷ more) h =
    let (front, short) = and_parts (is_name_letter a && list_all is_name_byte (b ∷ c ∷ more)) (nat_le (length (b ∷ c ∷ more)) 7) h in
    let (first, later) = and_parts (is_name_letter a) (list_all is_name_byte (b ∷ c ∷ more)) front in
    let other : (a == 47) ≡ false = grind (arith, nat_tests) in
    rw other refl

field_no_system : (name : List ℕ) → is_field_name name ≡ true → is_system_name name ≡ false
field_no_system = field_by (λ name. is_system_name name ≡ false) name_no_system (λ more h few. refl)

-- ---- numbers

abbrev Reads : ℕ → List ℕ → Type 0
Reads n digits = (list_all is_digit digits ≡ true) × (number_of digits ≡ n)

one_digit : (n : ℕ) → n < 10 → Reads n ((48 + n) ∷ [])
one_digit n few = (grind (arith, nat_tests), omega arith)

more_digits : (n : ℕ) (ds : List ℕ) → 10 ≤ n → Reads (n / 10) ds → Reads n (ds ++ (48 + n % 10) ∷ [])
more_digits n ds many h =
    let last : is_digit (48 + n % 10) ≡ true = let small : n % 10 < 10 = omega arith in grind (arith, nat_tests) in
    let all : list_all is_digit (ds ++ (48 + n % 10) ∷ []) ≡ true =
    list_all-append is_digit ds ((48 + n % 10) ∷ []) ∙ and_from (list_all is_digit ds) (list_all is_digit ((48 + n % 10) ∷ [])) h.0 (and_from (is_digit (48 + n % 10)) true last refl) in
    let so_far : number_of ds ≡ n / 10 = h.1 in
    let sum : 10 * number_of ds + (48 + n % 10 - 48) ≡ n = omega (arith, so_far) in
    (all, fold-append (λ (x : ℕ) (digit : ℕ). 10 * x + (digit - 48)) 0 ds ((48 + n % 10) ∷ []) ∙ sum)

decimal_reads : (n : ℕ) → n < 2 ^ 64 → Reads n (decimal n)
decimal_reads = decimal_by_steps (λ n ds. Reads n ds) one_digit more_digits

digit_inner : (b : ℕ) → is_digit b ≡ true → is_inner b ≡ true
digit_inner b h = grind (arith, nat_tests)

pub decimal_short : (n : ℕ) → n < 2 ^ 32 → is_short (decimal n) ≡ true
decimal_short n small =
    let wide : n < 2 ^ 64 = omega arith in
    let few = length-decimal-le 10 n (omega arith) (omega arith) wide in
    and_from (list_all is_inner (decimal n)) (nat_le (length (decimal n)) 20) (all_imply is_digit is_inner digit_inner (decimal n) (decimal_reads n wide).0) (le-leb (length (decimal n)) 20 (omega (arith, few)))

pub decimal_some : (n : ℕ) → n < 2 ^ 32 → (length (decimal n) == 0) ≡ false
decimal_some n small = let some = decimal_nonempty n (omega arith) in ne_eqb (length (decimal n)) 0 (λ e. omega (arith, e, some))

decimal_is : (n : ℕ) → n < 2 ^ 32 → is_number (decimal n) ≡ true
decimal_is n small =
    let wide : n < 2 ^ 64 = omega arith in
    let reads = decimal_reads n wide in
    let same : number_of (decimal n) ≡ n = reads.1 in
    and_from (nat_lt 0 (length (decimal n)) && list_all is_digit (decimal n)) (nat_lt (number_of (decimal n)) 4294967296)
    (and_from (nat_lt 0 (length (decimal n))) (list_all is_digit (decimal n)) (lt-ltb 0 (length (decimal n)) (decimal_nonempty n wide)) reads.0)
    (lt-ltb (number_of (decimal n)) 4294967296 (omega (arith, same)))

pub number_back : (n : ℕ) → n < 2 ^ 32 → number_value (decimal n) ≡ Ok n
unfolding number_value
number_back n small = rw (decimal_is n small, (decimal_reads n (omega arith)).1) refl

-- ---- the values of operands

abbrev in_list : List ℕ → List (List ℕ) → List ℕ
in_list x xs = value_text (listed x xs)

pub access_back : (phdam : Bool) → access_value (in_list (method phdam) []) ≡ Ok phdam
unfolding access_value access_of parts inside pieces_from
access_back true = refl
access_back false = refl

pub rmname_values : (name : List ℕ) (anch rbn : ℕ) → is_name name ≡ true → anch < 2 ^ 32 → rbn < 2 ^ 32 → IsValue (listed name (decimal anch ∷ decimal rbn ∷ []))
rmname_values name anch rbn h a r = (name_short name h, and_from (is_short (decimal anch)) (is_short (decimal rbn) && true) (decimal_short anch a) (and_from (is_short (decimal rbn)) true (decimal_short rbn r) refl))

pub rmname_back : (name : List ℕ) (anch rbn : ℕ) → is_name name ≡ true → anch < 2 ^ 32 → rbn < 2 ^ 32
    → rmname_value (in_list name (decimal anch ∷ decimal rbn ∷ [])) ≡ Ok (record { module_name = name; anch = anch; rbn = rbn })
unfolding rmname_value rmname_of
rmname_back name anch rbn h a r =
    rw (
      inside_list name (decimal anch ∷ decimal rbn ∷ []),
      list_back name (decimal anch ∷ decimal rbn ∷ []) (rmname_values name anch rbn h a r),
      name_back name h,
      decimal_some anch a,
      decimal_is anch a,
      decimal_some rbn r,
      decimal_is rbn r,
      (decimal_reads anch (omega arith)).1,
      (decimal_reads rbn (omega arith)).1,
    ) refl

pub parent_back : (name : List ℕ) → is_name name ≡ true → parent_value name ≡ Ok (Some name)
unfolding parent_value
parent_back [] h = absurd (let no : false ≡ true = h in cc)
parent_back (b ∷ s) h =
    let (front, short) = and_parts (is_name_letter b && list_all is_name_byte s) (nat_le (length s) 7) h in
    let (first, more) = and_parts (is_name_letter b) (list_all is_name_byte s) front in
    let other : (b == 48) ≡ false = grind (arith, nat_tests) in
    rw (other, inside_none (b ∷ s) (short_inner (b ∷ s) (name_short (b ∷ s) h)), name_back (b ∷ s) h) refl

pub bytes_back : (n : ℕ) → n < 2 ^ 32 → bytes_value (decimal n) ≡ Ok n
unfolding bytes_value bytes_of
bytes_back n small = rw (parts_alone (decimal n) (decimal_short n small), number_back n small) refl

pub rules_back : (first : Bool) → rules_value (in_list [] (twin_place first ∷ [])) ≡ Ok first
unfolding rules_value rules_of parts inside pieces_from
rules_back true = refl
rules_back false = refl

pub letter_back : (letter : ℕ) → letter_value (letter ∷ []) ≡ Ok letter
unfolding letter_value
letter_back letter = refl

pub plain_back : (name : List ℕ) → is_field_name name ≡ true → keyed_value name ≡ Ok (record { name = name; seq = 0 })
unfolding keyed_value
plain_back name h = rw (inside_none name (short_inner name (field_short name h)), field_back name h) refl

-- U for a unique sequence field, M for one that may stand twice
abbrev pub unique_letter : Bool → List ℕ
unique_letter true = codes "U"
unique_letter false = codes "M"

pub keyed_is : (name : List ℕ) (unique : Bool) → is_field_name name ≡ true → IsValue (listed name (codes "SEQ" ∷ unique_letter unique ∷ []))
keyed_is name true h = (field_short name h, refl)
keyed_is name false h = (field_short name h, refl)

pub keyed_back : (name : List ℕ) (unique : Bool) → is_field_name name ≡ true → keyed_value (in_list name (codes "SEQ" ∷ unique_letter unique ∷ [])) ≡ Ok (record { name = name; seq = sequence unique })
unfolding keyed_value keyed_of
keyed_back name true h = rw (inside_list name (codes "SEQ" ∷ codes "U" ∷ []), list_back name (codes "SEQ" ∷ codes "U" ∷ []) (keyed_is name true h), field_back name h) refl
keyed_back name false h = rw (inside_list name (codes "SEQ" ∷ codes "M" ∷ []), list_back name (codes "SEQ" ∷ codes "M" ∷ []) (keyed_is name false h), field_back name h) refl

pub child_is : (seg name : List ℕ) → is_name seg ≡ true → is_name name ≡ true → IsValue (listed seg (name ∷ []))
child_is seg name a b = (name_short seg a, and_from (is_short name) true (name_short name b) refl)

pub child_back : (seg name : List ℕ) → is_name seg ≡ true → is_name name ≡ true → child_value (in_list seg (name ∷ [])) ≡ Ok (record { seg = seg; name = name })
unfolding child_value child_of
child_back seg name a b = rw (inside_list seg (name ∷ []), list_back seg (name ∷ []) (child_is seg name a b), name_back seg a, name_back name b) refl

pub index_back : index_value (codes "INDX") ≡ Ok tt
unfolding index_value
index_back = refl

all_short : (names : List (List ℕ)) → list_all is_field_name names ≡ true → list_all is_short names ≡ true
all_short [] h = refl
all_short (name ∷ names) h =
    let (here, later) = and_parts (is_field_name name) (list_all is_field_name names) h in
    and_from (is_short name) (list_all is_short names) (field_short name here) (all_short names later)

pub fields_are : (name : List ℕ) (names : List (List ℕ)) → list_all is_field_name (name ∷ names) ≡ true → IsValue (listed name names)
fields_are name names h =
    let (here, later) = and_parts (is_field_name name) (list_all is_field_name names) h in
    (field_short name here, all_short names later)

no_systems : (names : List (List ℕ)) → list_all is_field_name names ≡ true → list_any (λ name. is_system_name (map upper name)) names ≡ false
no_systems [] h = refl
no_systems (name ∷ names) h =
    let (here, later) = and_parts (is_field_name name) (list_all is_field_name names) h in
    rw (field_upper name here, field_no_system name here) (no_systems names later)

are_fields : (names : List (List ℕ)) → list_all is_field_name names ≡ true → list_all (λ name. is_field_name (map upper name)) names ≡ true
are_fields [] h = refl
are_fields (name ∷ names) h =
    let (here, later) = and_parts (is_field_name name) (list_all is_field_name names) h in
    rw (field_upper name here, here) (are_fields names later)

names_upper : (names : List (List ℕ)) → list_all is_field_name names ≡ true → map (map upper) names ≡ names
names_upper [] h = refl
names_upper (name ∷ names) h =
    let (here, later) = and_parts (is_field_name name) (list_all is_field_name names) h in
    rw (field_upper name here) (ap (λ (xs : List (List ℕ)). name ∷ xs) (names_upper names later))

fields_of_back : (names : List (List ℕ)) → list_all is_field_name names ≡ true → fields_of names ≡ Ok names
unfolding fields_of
fields_of_back names h = rw (no_systems names h, are_fields names h, names_upper names h) refl

pub fields_back : (name : List ℕ) (names : List (List ℕ)) → list_all is_field_name (name ∷ names) ≡ true → fields_value (in_list name names) ≡ Ok (name ∷ names)
unfolding fields_value fields_of
fields_back name names h =
    ap fields_of (parts_list name names (fields_are name names h)) ∙ fields_of_back (name ∷ names) h

pub search_back : (name : List ℕ) (names : List (List ℕ)) → list_all is_field_name (name ∷ names) ≡ true → length (name ∷ names) ≤ 5 → search_value (in_list name names) ≡ Ok (name ∷ names)
unfolding search_value
search_back name names h few =
    let no : nat_lt 5 (length (name ∷ names)) ≡ false = le-ltb 5 (length (name ∷ names)) few in
    rw (fields_back name names h, no) refl
