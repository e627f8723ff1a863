-- Each partition that is read has a name that is no `/CK` name.
use Rattle.hal_base.specs.Reading.{◌>>=◌}
use Rattle.std.proofs.Common.{◌≡◌, ℕ, Bool, true, false, cond, List, [], ◌∷◌, map, Option, Some, None, Result, Ok, Err, IfOk, refl, subst, codes}
use Rattle.std.specs.List.{list_all}
use Rattle.std.specs.Str.{bytes_eq}
use Rattle.std.proofs.lemmas.Bool.{and_from}
use Rattle.toml.specs.Data.{Data, string, integer, float, boolean, datetime, array, table, Items, no_items, item, Members, get_member}
use Rattle.hal_base.specs.Name.{is_name, upper}
use Rattle.hal_schema.specs.declared.raw.RawPart.{RawPart}
use Rattle.hal_schema.specs.declared.raw.RawParts.{RawParts}
use Rattle.hal_schema.specs.Named.{parts_are_named}
use Rattle.hal_schema.specs.declared.text_fault.TextFault.{TextFault}
use Rattle.hal_schema.specs.declared.text_fault.TextFault.TheVariants.{Rule, Memory}
use Rattle.hal_schema.specs.Reading.{Says}
use Rattle.partition_reader.specs.Values.{needed, name_in, number_in, high_in, optional_number, number_or_zero}
use Rattle.partition_reader.specs.Tables.{known, is_part_key, is_file_key, part_of, part_in, next_place, parts_from, tables_in, parts_of}
use Rattle.partition_reader.specs.Partitions.{toml_of, parts_or, partitions_of}

after : {A B : Type 0} (P : A → Type 0) (Q : B → Type 0) (r : Result A TextFault) (f : A → Result B TextFault) → IfOk r P → ((a : A) → P a → IfOk (f a) Q) → IfOk (r >>= f) Q
after P Q (Ok a) f h k = k a h
after P Q (Err e) f h k = tt

-- whatever the first thing is
any : {A B : Type 0} (Q : B → Type 0) (r : Result A TextFault) (f : A → Result B TextFault) → ((a : A) → IfOk (f a) Q) → IfOk (r >>= f) Q
any Q (Ok a) f k = k a
any Q (Err e) f k = tt

tested : {A : Type 0} (Q : A → Type 0) (b : Bool) (x y : Result A TextFault) → (b ≡ true → IfOk x Q) → IfOk y Q → IfOk (cond b x y) Q
tested Q true x y h k = h refl
tested Q false x y h k = k

abbrev IsName : List ℕ → Type 0
IsName name = is_name name ≡ true

name : (place : ℕ) (value : Data) → IfOk (name_in place value) IsName
unfolding name_in
name place (string text) = tested IsName (is_name (map upper text)) (Ok (map upper text)) (Err (Rule 23 place)) (λ h. h) tt
name place (integer n) = tt
name place (float f) = tt
name place (boolean b) = tt
name place (datetime d) = tt
name place (array items) = tt
name place (table members) = tt

abbrev IsNamed : RawPart → Type 0
IsNamed part = is_name part.name ≡ true

one_part : (place : ℕ) (members : Members) → IfOk (part_of place members) IsNamed
unfolding part_of
one_part place members =
    any IsNamed (needed place (codes "name") members) _ (λ name_value. any IsNamed (needed place (codes "number") members) _ (λ number_value. any IsNamed (needed place (codes "high") members) _ (λ high_value.
    after IsName IsNamed (name_in place name_value) _ (name place name_value) (λ n h. any IsNamed (number_in place number_value) _ (λ number. any IsNamed (high_in place high_value) _ (λ high.
    any IsNamed (optional_number place (get_member (codes "anchors") members)) _ (λ anchors. any IsNamed (number_or_zero place (get_member (codes "fbff") members)) _ (λ fbff.
    any IsNamed (number_or_zero place (get_member (codes "fspf") members)) _ (λ fspf. any IsNamed (known place is_part_key members) _ (λ _. h))))))))))

in_place : (place : ℕ) (value : Data) → IfOk (part_in place value) IsNamed
in_place place (string text) = tt
in_place place (integer n) = tt
in_place place (float f) = tt
in_place place (boolean b) = tt
in_place place (datetime d) = tt
in_place place (array items) = tt
in_place place (table members) = one_part place members

abbrev AreNamed : List RawPart → Type 0
AreNamed parts = list_all (λ p. is_name p.name) parts ≡ true

from : (place : ℕ) (items : Items) → IfOk (parts_from place items) AreNamed
unfolding parts_from
from place no_items = refl
from place (item value more) =
    after IsNamed AreNamed (part_in place value) _ (in_place place value) (λ part h. after AreNamed AreNamed (parts_from (next_place place) more) _ (from (next_place place) more) (λ parts k. and_from (is_name part.name) _ h k))

abbrev HasNames : RawParts → Type 0
HasNames parts = parts_are_named parts ≡ true

of_members : (members : Members) → IfOk (parts_of members) HasNames
unfolding parts_of
of_members members =
    any HasNames (needed 0 (codes "blocks") members) _ (λ blocks_value. any HasNames (number_in 0 blocks_value) _ (λ blocks. any HasNames (tables_in (get_member (codes "partition") members)) _ (λ tables.
    any HasNames (known 0 is_file_key members) _ (λ _. after AreNamed HasNames (parts_from 1 tables) _ (from 1 tables) (λ parts h. h)))))

or_none : (members : Option Members) → IfOk (parts_or members) HasNames
or_none None = tt
or_none (Some members) = of_members members

of_text : (text : List ℕ) → IfOk (partitions_of text) HasNames
unfolding partitions_of
of_text text = or_none (toml_of text)

read : (result meaning : Result RawParts TextFault) → Says result meaning → IfOk meaning HasNames → IfOk result HasNames
read (Ok x) meaning e h = subst (λ (m : Result RawParts TextFault). IfOk m HasNames) e h
read (Err fault) meaning e h = tt

-- so has each that a reader gives
pub read_named : (text : List ℕ) (result : Result RawParts TextFault) → Says result (partitions_of text) → IfOk result HasNames
read_named text result says = read result (partitions_of text) says (of_text text)
