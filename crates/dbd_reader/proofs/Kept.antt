-- What holds of each definition that was read: it has a segment type, its names are plain, and the text behind it begins
-- within the text.
use Rattle.hal_base.specs.Reading.{◌>>=◌}
use Rattle.std.proofs.Common.{◌≡◌, ℕ, ◌+◌, ◌-◌, ◌<◌, ◌≤◌, Bool, true, false, cond, ◌&&◌, List, [], ◌∷◌, ◌++◌, length, map, Option, Some, None, Result, Ok, Err, IfOk, IsTrue, refl, subst, ◌∙◌, length-append, arith, codes}
use Rattle.std.specs.List.{list_all}
use Rattle.std.specs.Option.{option_map, option_map_or}
use Rattle.std.specs.Str.{bytes_eq}
use Rattle.std.specs.Str.Lines.{lines}
use Rattle.std.proofs.lemmas.Bool.{and_parts, and_from}
use Rattle.std.proofs.lemmas.List.Folds.{list_all-append}
use Rattle.hal_base.specs.Name.{is_name, is_field_name, upper}
use Rattle.hal_schema.specs.declared.raw.RawDbd.{RawDbd}
use Rattle.hal_schema.specs.declared.raw.RawField.{RawField}
use Rattle.hal_schema.specs.declared.raw.RawIndex.{RawIndex}
use Rattle.hal_schema.specs.declared.raw.RawType.{RawType}
use Rattle.hal_schema.specs.Named.{dbd_is_named, raw_type_is_named, raw_index_is_named}
use Rattle.dbd_reader.specs.declared.word.Word.{Word}
use Rattle.dbd_reader.specs.declared.word.Word.TheVariants as words
use Rattle.dbd_reader.specs.declared.value.Child.{Child}
use Rattle.dbd_reader.specs.declared.value.KeyedName.{KeyedName}
use Rattle.dbd_reader.specs.declared.value.RmName.{RmName}
use Rattle.dbd_reader.specs.declared.operand.Operand.{Operand}
use Rattle.dbd_reader.specs.declared.statement.Statement.{Statement}
use Rattle.hal_schema.specs.declared.text_fault.TextFault.{TextFault}
use Rattle.dbd_reader.specs.declared.draft.Draft.{Draft}
use Rattle.dbd_reader.specs.declared.draft.Draft.TheVariants as drafts
use Rattle.dbd_reader.specs.Words.{word_of, operands_of}
use Rattle.dbd_reader.specs.Operands.{operands_in, value_of, inside, pieces}
use Rattle.dbd_reader.specs.Lines.{behind_lines}
use Rattle.dbd_reader.specs.Statements.{statements}
use Rattle.dbd_reader.specs.Values.{name_value, field_value, is_system_name, access_value, rmname_of, rmname_value, is_optional_number, first_number, in_list, parent_value, bytes_value, keyed, keyed_of, keyed_in, keyed_value, sequence_of, number_value, child_of, child_value, index_value, search_value, fields_value}
use Rattle.dbd_reader.specs.Verdicts.{checked}
use Rattle.dbd_reader.specs.Meanings.{needed, rmname_or_none, parent_or_none, first_or_last, letter_or_a, source_or, fields_or_none, dbd_of, segm_of, field_of, lchild_of, xdfld_of}
use Rattle.dbd_reader.specs.Definition.{with_type, with_index, with_field, at_start, at_head, at_segment, at_index, at_end, at_finish, step, worded, is_bad_at, or_bad, at_line, judged, concluded, definition, definition_of, placed, meaning_of}
use Rattle.hal_schema.specs.Reading.{Says}

-- ---- what is read of one thing, and then of another

after : {A B : Type 0} (P : A → Type 0) (Q : B → Type 0) (r : Result A ℕ) (f : A → Result B ℕ) → IfOk r P → ((a : A) → P a → IfOk (f a) Q) → IfOk (r >>= f) Q
after P Q (Ok a) f h k = k a h
after P Q (Err e) f h k = tt

-- whatever the first thing is
any : {A B : Type 0} (Q : B → Type 0) (r : Result A ℕ) (f : A → Result B ℕ) → ((a : A) → IfOk (f a) Q) → IfOk (r >>= f) Q
any Q (Ok a) f k = k a
any Q (Err e) f k = tt

tested : {A : Type 0} (Q : A → Type 0) (b : Bool) (x y : Result A ℕ) → (b ≡ true → IfOk x Q) → IfOk y Q → IfOk (cond b x y) Q
tested Q true x y h k = h refl
tested Q false x y h k = k

-- ---- names

abbrev IsName : List ℕ → Type 0
IsName name = is_name name ≡ true

name : (value : List ℕ) → IfOk (name_value value) IsName
unfolding name_value
name value = tested IsName (is_name (map upper value)) _ _ (λ h. h) tt

abbrev IsFieldName : List ℕ → Type 0
IsFieldName name = is_field_name name ≡ true

field_name : (value : List ℕ) → IfOk (field_value value) IsFieldName
unfolding field_value
field_name value = tested IsFieldName (is_field_name (map upper value)) _ _ (λ h. h) (tested IsFieldName (is_system_name (map upper value)) _ _ (λ h. tt) tt)

abbrev HasModule : RmName → Type 0
HasModule rm = is_name rm.module_name ≡ true

module_of : (items : List (List ℕ)) → IfOk (rmname_of items) HasModule
unfolding rmname_of
module_of [] = tt
module_of (first ∷ numbers) = after IsName HasModule (name_value first) _ (name first) (λ n h. tested HasModule (list_all is_optional_number numbers) _ _ (λ _. h) tt)

module_value : (value : List ℕ) → IfOk (rmname_value value) HasModule
unfolding rmname_value
module_value value = any HasModule (in_list (inside value)) rmname_of module_of

abbrev HasOneModule : Option RmName → Type 0
HasOneModule rm = option_map_or is_name (option_map (λ r. r.module_name) rm) true ≡ true

module_or_none : (value : Option (List ℕ)) → IfOk (rmname_or_none value) HasOneModule
module_or_none None = refl
module_or_none (Some value) = after HasModule HasOneModule (rmname_value value) _ (module_value value) (λ rm h. h)

abbrev HasKeyedName : KeyedName → Type 0
HasKeyedName k = is_field_name k.name ≡ true

one_keyed : (value word : List ℕ) (seq : ℕ) → IfOk (keyed value word seq) HasKeyedName
one_keyed value word seq = tested HasKeyedName (bytes_eq word (codes "SEQ")) (field_value value >>= λ field. Ok (record { name = field; seq = seq })) (Err 17)
    (λ _. after IsFieldName HasKeyedName (field_value value) (λ field. Ok (record { name = field; seq = seq })) (field_name value) (λ n h. h)) tt

keyed_items : (items : List (List ℕ)) → IfOk (keyed_of items) HasKeyedName
unfolding keyed_of
keyed_items [] = tt
keyed_items (value ∷ []) = tt
keyed_items (value ∷ word ∷ []) = one_keyed value word 1
keyed_items (value ∷ word ∷ kind ∷ []) = any HasKeyedName (sequence_of kind) (keyed value word) (one_keyed value word)
keyed_items (value ∷ word ∷ kind ∷ more ∷ rest) = tt

keyed_or_not : (value : List ℕ) (list : Option (List ℕ)) → IfOk (keyed_in value list) HasKeyedName
keyed_or_not value None = after IsFieldName HasKeyedName (field_value value) _ (field_name value) (λ n h. h)
keyed_or_not value (Some text) = keyed_items (pieces text)

keyed_name : (value : List ℕ) → IfOk (keyed_value value) HasKeyedName
unfolding keyed_value
keyed_name value = keyed_or_not value (inside value)

abbrev HasNames : Child → Type 0
HasNames child = (is_name child.seg ≡ true) × (is_name child.name ≡ true)

child_items : (items : List (List ℕ)) → IfOk (child_of items) HasNames
unfolding child_of
child_items [] = tt
child_items (seg ∷ []) = tt
child_items (seg ∷ database ∷ []) = after IsName HasNames (name_value seg) _ (name seg) (λ s h. after IsName HasNames (name_value database) _ (name database) (λ d k. (h, k)))
child_items (seg ∷ database ∷ more ∷ rest) = tt

child_names : (value : List ℕ) → IfOk (child_value value) HasNames
unfolding child_value
child_names value = any HasNames (in_list (inside value)) child_of child_items

-- ---- statements

abbrev IsNamed : RawDbd → Type 0
IsNamed dbd = dbd_is_named dbd ≡ true

abbrev IsNamedType : RawType → Type 0
IsNamedType segm = raw_type_is_named segm ≡ true

abbrev IsNamedField : RawField → Type 0
IsNamedField field = is_field_name field.name ≡ true

abbrev IsNamedIndex : RawIndex → Type 0
IsNamedIndex index = raw_index_is_named index ≡ true

four : {a b c d : Bool} → a ≡ true → b ≡ true → c ≡ true → d ≡ true → (a && b && c && d) ≡ true
four a b c d = and_from _ _ (and_from _ _ (and_from _ _ a b) c) d

read_dbd : (operands : List Operand) → IfOk (dbd_of operands) IsNamed
unfolding dbd_of
read_dbd operands =
    any IsNamed (checked words.Dbd operands) _ (λ _. after IsName IsNamed (needed (codes "NAME") operands >>= name_value) _ (any IsName (needed (codes "NAME") operands) name_value name)
    (λ n h. any IsNamed (needed (codes "ACCESS") operands >>= access_value) _ (λ phdam. after HasOneModule IsNamed (rmname_or_none (value_of (codes "RMNAME") operands)) _ (module_or_none (value_of (codes "RMNAME") operands))
    (λ rm k. four h k refl refl))))

read_segm : (line : ℕ) (operands : List Operand) → IfOk (segm_of line operands) IsNamedType
unfolding segm_of
read_segm line operands =
    any IsNamedType (checked words.Segm operands) _ (λ _. after IsName IsNamedType (needed (codes "NAME") operands >>= name_value) _ (any IsName (needed (codes "NAME") operands) name_value name)
    (λ n h. any IsNamedType (needed (codes "BYTES") operands >>= bytes_value) _ (λ bytes. any IsNamedType (parent_or_none (value_of (codes "PARENT") operands)) _ (λ parent.
    any IsNamedType (first_or_last (value_of (codes "RULES") operands)) _ (λ first. any IsNamedType (letter_or_a (value_of (codes "DSGROUP") operands)) _ (λ letter. and_from _ _ h refl))))))

read_field : (line : ℕ) (operands : List Operand) → IfOk (field_of line operands) IsNamedField
unfolding field_of
read_field line operands =
    any IsNamedField (checked words.Field operands) _ (λ _. after HasKeyedName IsNamedField (needed (codes "NAME") operands >>= keyed_value) _ (any HasKeyedName (needed (codes "NAME") operands) keyed_value keyed_name)
    (λ n h. any IsNamedField (needed (codes "START") operands >>= number_value) _ (λ start. any IsNamedField (needed (codes "BYTES") operands >>= number_value) _ (λ bytes. h))))

read_lchild : (operands : List Operand) → IfOk (lchild_of operands) HasNames
unfolding lchild_of
read_lchild operands =
    any HasNames (checked words.Lchild operands) _ (λ _. after HasNames HasNames (needed (codes "NAME") operands >>= child_value) _ (any HasNames (needed (codes "NAME") operands) child_value child_names)
    (λ child h. any HasNames (needed (codes "PTR") operands >>= index_value) _ (λ _. h)))

read_xdfld : (line : ℕ) (child : Child) (target : List ℕ) (operands : List Operand) → HasNames child → IfOk (xdfld_of line child target operands) IsNamedIndex
unfolding xdfld_of
read_xdfld line child target operands names =
    any IsNamedIndex (checked words.Xdfld operands) _ (λ _. after IsName IsNamedIndex (needed (codes "NAME") operands >>= name_value) _ (any IsName (needed (codes "NAME") operands) name_value name)
    (λ n h. any IsNamedIndex (needed (codes "SRCH") operands >>= search_value) _ (λ search. any IsNamedIndex (source_or target (value_of (codes "SEGMENT") operands)) _ (λ source.
    any IsNamedIndex (fields_or_none (value_of (codes "SUBSEQ") operands)) _ (λ subseq. and_from _ _ (and_from _ _ names.0 names.1) h)))))

-- ---- what is added

more : {X : Type 0} (p : X → Bool) (xs : List X) (x : X) → list_all p xs ≡ true → p x ≡ true → list_all p (xs ++ x ∷ []) ≡ true
more p xs x all h = list_all-append p xs (x ∷ []) ∙ and_from _ _ all (and_from _ _ h refl)

record HasFour (a b c d : Bool) : Type 0 where
  pub first : a ≡ true
  pub second : b ≡ true
  pub third : c ≡ true
  pub last : d ≡ true

parted : (a b c d : Bool) → (a && b && c && d) ≡ true → HasFour a b c d
parted a b c d h =
    let all = and_parts (a && b && c) d h in
    let three = and_parts (a && b) c all.0 in
    let two = and_parts a b three.0 in
    record { first = two.0; second = two.1; third = three.1; last = all.1 }

of_dbd : (dbd : RawDbd) → IsNamed dbd → HasFour (is_name dbd.name) (option_map_or is_name dbd.rm true) (list_all raw_type_is_named dbd.types) (list_all raw_index_is_named dbd.indexes)
of_dbd dbd h = parted (is_name dbd.name) (option_map_or is_name dbd.rm true) (list_all raw_type_is_named dbd.types) (list_all raw_index_is_named dbd.indexes) h

add_type : (dbd : RawDbd) (segm : RawType) → IsNamed dbd → IsNamedType segm → IsNamed (with_type dbd segm)
add_type dbd segm h k =
    let p = of_dbd dbd h in
    four p.first p.second (more raw_type_is_named dbd.types segm p.third k) p.last

add_index : (dbd : RawDbd) (index : RawIndex) → IsNamed dbd → IsNamedIndex index → IsNamed (with_index dbd index)
add_index dbd index h k =
    let p = of_dbd dbd h in
    four p.first p.second p.third (more raw_index_is_named dbd.indexes index p.last k)

add_field : (segm : RawType) (field : RawField) → IsNamedType segm → IsNamedField field → IsNamedType (with_field segm field)
add_field segm field h k =
    let p = and_parts (is_name segm.name) (list_all (λ f. is_field_name f.name) segm.fields) h in
    and_from (is_name segm.name) (list_all (λ f. is_field_name f.name) (segm.fields ++ field ∷ [])) p.0 (more (λ f. is_field_name f.name) segm.fields field p.1 k)

one_more : (dbd : RawDbd) (segm : RawType) → 0 < length (dbd.types ++ segm ∷ [])
one_more dbd segm = let n = length-append dbd.types (segm ∷ []) in omega (arith, n)

-- ---- drafts

-- all names so far are plain, and behind DBDGEN there is a type
abbrev IsWell : Draft → Type 0
IsWell drafts.Start = Unit {0}
IsWell (drafts.Head dbd) = IsNamed dbd
IsWell (drafts.Segment dbd segm) = IsNamed dbd × IsNamedType segm
IsWell (drafts.Index dbd segm child line) = IsNamed dbd × IsNamedType segm × HasNames child
IsWell (drafts.Generated dbd) = IsNamed dbd × (0 < length dbd.types)
IsWell (drafts.Finished dbd) = IsNamed dbd × (0 < length dbd.types)
IsWell (drafts.Ended dbd) = IsNamed dbd × (0 < length dbd.types)

start : (word : Word) (operands : List Operand) → IfOk (at_start word operands) IsWell
unfolding at_start
start words.Dbd operands = after IsNamed IsWell (dbd_of operands) _ (read_dbd operands) (λ dbd h. h)
start words.Dataset operands = tt
start words.Segm operands = tt
start words.Field operands = tt
start words.Lchild operands = tt
start words.Xdfld operands = tt
start words.Dbdgen operands = tt
start words.Finish operands = tt
start words.End operands = tt
start words.Passed operands = tt

head : (dbd : RawDbd) (word : Word) (line : ℕ) (operands : List Operand) → IsNamed dbd → IfOk (at_head dbd word line operands) IsWell
unfolding at_head
head dbd words.Dbd line operands h = tt
head dbd words.Dataset line operands h = h
head dbd words.Segm line operands h = after IsNamedType IsWell (segm_of line operands) _ (read_segm line operands) (λ segm k. (h, k))
head dbd words.Field line operands h = tt
head dbd words.Lchild line operands h = tt
head dbd words.Xdfld line operands h = tt
head dbd words.Dbdgen line operands h = tt
head dbd words.Finish line operands h = tt
head dbd words.End line operands h = tt
head dbd words.Passed line operands h = tt

segment : (dbd : RawDbd) (segm : RawType) (word : Word) (line : ℕ) (operands : List Operand) → IsNamed dbd → IsNamedType segm → IfOk (at_segment dbd segm word line operands) IsWell
unfolding at_segment
segment dbd segm words.Dbd line operands h k = tt
segment dbd segm words.Dataset line operands h k = (h, k)
segment dbd segm words.Segm line operands h k = after IsNamedType IsWell (segm_of line operands) _ (read_segm line operands) (λ next more. (add_type dbd segm h k, more))
segment dbd segm words.Field line operands h k = after IsNamedField IsWell (field_of line operands) _ (read_field line operands) (λ field more. (h, add_field segm field k more))
segment dbd segm words.Lchild line operands h k = after HasNames IsWell (lchild_of operands) _ (read_lchild operands) (λ child more. (h, k, more))
segment dbd segm words.Xdfld line operands h k = tt
segment dbd segm words.Dbdgen line operands h k = any IsWell (checked words.Dbdgen operands) _ (λ _. (add_type dbd segm h k, one_more dbd segm))
segment dbd segm words.Finish line operands h k = tt
segment dbd segm words.End line operands h k = tt
segment dbd segm words.Passed line operands h k = tt

index : (dbd : RawDbd) (segm : RawType) (child : Child) (line : ℕ) (word : Word) (operands : List Operand) → IsNamed dbd → IsNamedType segm → HasNames child → IfOk (at_index dbd segm child line word operands) IsWell
unfolding at_index
index dbd segm child line words.Dbd operands h k names = tt
index dbd segm child line words.Dataset operands h k names = (h, k, names)
index dbd segm child line words.Segm operands h k names = tt
index dbd segm child line words.Field operands h k names = tt
index dbd segm child line words.Lchild operands h k names = tt
index dbd segm child line words.Xdfld operands h k names = after IsNamedIndex IsWell (xdfld_of line child segm.name operands) _ (read_xdfld line child segm.name operands names) (λ index more. (add_index dbd index h more, k))
index dbd segm child line words.Dbdgen operands h k names = tt
index dbd segm child line words.Finish operands h k names = tt
index dbd segm child line words.End operands h k names = tt
index dbd segm child line words.Passed operands h k names = tt

generated : (dbd : RawDbd) (word : Word) (operands : List Operand) → IsNamed dbd × (0 < length dbd.types) → IfOk (at_end dbd word operands) IsWell
unfolding at_end
generated dbd words.Dbd operands h = tt
generated dbd words.Dataset operands h = tt
generated dbd words.Segm operands h = tt
generated dbd words.Field operands h = tt
generated dbd words.Lchild operands h = tt
generated dbd words.Xdfld operands h = tt
generated dbd words.Dbdgen operands h = tt
generated dbd words.Finish operands h = any IsWell (checked words.Finish operands) _ (λ _. h)
generated dbd words.End operands h = any IsWell (checked words.End operands) _ (λ _. h)
generated dbd words.Passed operands h = tt

finished : (dbd : RawDbd) (word : Word) (operands : List Operand) → IsNamed dbd × (0 < length dbd.types) → IfOk (at_finish dbd word operands) IsWell
unfolding at_finish
finished dbd words.Dbd operands h = tt
finished dbd words.Dataset operands h = tt
finished dbd words.Segm operands h = tt
finished dbd words.Field operands h = tt
finished dbd words.Lchild operands h = tt
finished dbd words.Xdfld operands h = tt
finished dbd words.Dbdgen operands h = tt
finished dbd words.Finish operands h = tt
finished dbd words.End operands h = any IsWell (checked words.End operands) _ (λ _. h)
finished dbd words.Passed operands h = tt

stepped : (d : Draft) (word : Word) (line : ℕ) (operands : List Operand) → IsWell d → IfOk (step d word line operands) IsWell
unfolding step
stepped drafts.Start word line operands h = start word operands
stepped (drafts.Head dbd) word line operands h = head dbd word line operands h
stepped (drafts.Segment dbd segm) word line operands h = segment dbd segm word line operands h.0 h.1
stepped (drafts.Index dbd segm child at) word line operands h = index dbd segm child at word operands h.0 h.1 h.2
stepped (drafts.Generated dbd) word line operands h = generated dbd word operands h
stepped (drafts.Finished dbd) word line operands h = finished dbd word operands h
stepped (drafts.Ended dbd) word line operands h = tt

read_word : (d : Draft) (s : Statement) (word : Option Word) → IsWell d → IfOk (worded d s word) IsWell
unfolding worded
read_word d s None h = tt
read_word d s (Some words.Passed) h = h
read_word d s (Some words.Dbd) h = stepped d words.Dbd s.line (operands_in words.Dbd (operands_of s.text)) h
read_word d s (Some words.Dataset) h = stepped d words.Dataset s.line (operands_in words.Dataset (operands_of s.text)) h
read_word d s (Some words.Segm) h = stepped d words.Segm s.line (operands_in words.Segm (operands_of s.text)) h
read_word d s (Some words.Field) h = stepped d words.Field s.line (operands_in words.Field (operands_of s.text)) h
read_word d s (Some words.Lchild) h = stepped d words.Lchild s.line (operands_in words.Lchild (operands_of s.text)) h
read_word d s (Some words.Xdfld) h = stepped d words.Xdfld s.line (operands_in words.Xdfld (operands_of s.text)) h
read_word d s (Some words.Dbdgen) h = stepped d words.Dbdgen s.line (operands_in words.Dbdgen (operands_of s.text)) h
read_word d s (Some words.Finish) h = stepped d words.Finish s.line (operands_in words.Finish (operands_of s.text)) h
read_word d s (Some words.End) h = stepped d words.End s.line (operands_in words.End (operands_of s.text)) h

unless_bad : (bad : Option ℕ) (d : Draft) → IsWell d → IfOk (or_bad bad d) IsWell
unless_bad None d h = h
unless_bad (Some line) d h = tt

on_line : (line : ℕ) (bad : Option ℕ) (r : Result Draft ℕ) → IfOk r IsWell → IfOk (at_line line bad r) IsWell
on_line line bad (Err rule) h = tt
on_line line bad (Ok d) h = unless_bad bad d h

either : (b : Bool) (x y : Result Draft TextFault) → IfOk x IsWell → IfOk y IsWell → IfOk (cond b x y) IsWell
either true x y h k = h
either false x y h k = k

judges : (d : Draft) (s : Statement) → IsWell d → IfOk (judged d s) IsWell
unfolding judged
judges d s h = either (is_bad_at s.line s.bad) _ _ tt (on_line s.line s.bad (worded d s (word_of s.text)) (read_word d s (word_of s.text) h))

-- what was read has a type and plain names
abbrev pub IsWhole : RawDbd × ℕ → Type 0
IsWhole read = IsNamed read.0 × (0 < length read.0.types)

concludes : (r : Result Draft TextFault) (next : ℕ) (rest : Draft → Result (RawDbd × ℕ) TextFault) → IfOk r IsWell → ((d : Draft) → IsWell d → IfOk (rest d) IsWhole) → IfOk (concluded r next rest) IsWhole
concludes (Err fault) next rest h k = tt
concludes (Ok drafts.Start) next rest h k = k drafts.Start h
concludes (Ok (drafts.Head dbd)) next rest h k = k (drafts.Head dbd) h
concludes (Ok (drafts.Segment dbd segm)) next rest h k = k (drafts.Segment dbd segm) h
concludes (Ok (drafts.Index dbd segm child line)) next rest h k = k (drafts.Index dbd segm child line) h
concludes (Ok (drafts.Generated dbd)) next rest h k = k (drafts.Generated dbd) h
concludes (Ok (drafts.Finished dbd)) next rest h k = k (drafts.Finished dbd) h
concludes (Ok (drafts.Ended dbd)) next rest h k = h

defines : (d : Draft) (all : List Statement) (last : ℕ) → IsWell d → IfOk (definition d all last) IsWhole
unfolding definition
defines d [] last h = tt
defines d (s ∷ all) last h = concludes (judged d s) s.next (λ next. definition next all last) (judges d s h) (λ e k. defines e all last k)

of_text : (text : List ℕ) → IfOk (definition_of text) IsWhole
unfolding definition_of
of_text text = defines drafts.Start (statements 1 None (lines text)) (length (lines text) + 1) tt

at_place : (text : List ℕ) (r : Result (RawDbd × ℕ) TextFault) → IfOk r IsWhole → IfOk (placed text r) IsWhole
at_place text (Ok read) h = h
at_place text (Err fault) h = tt

pub whole : (text : List ℕ) → IfOk (meaning_of text) IsWhole
unfolding meaning_of
whole text = at_place text (definition_of text) (of_text text)

-- the text behind
place_within : (text : List ℕ) (r : Result (RawDbd × ℕ) TextFault) → IfOk (placed text r) (λ read. read.1 ≤ length text)
place_within text (Ok read) = let n = length (behind_lines (read.1 - 1) text) in omega arith
place_within text (Err fault) = tt

pub within : (text : List ℕ) → IfOk (meaning_of text) (λ read. read.1 ≤ length text)
unfolding meaning_of
within text = place_within text (definition_of text)

-- what holds of the meaning holds of what was read
pub of_read : {X : Type 0} (P : X → Type 0) (result meaning : Result X TextFault) → Says result meaning → IfOk meaning P → IfOk result P
of_read {X = X} P (Ok x) meaning e h = subst (λ (m : Result X TextFault). IfOk m P) e h
of_read {X = X} P (Err fault) meaning e h = tt
