-- Reading one partition after the other, as the loop over the tables does.
use Rattle.hal_base.specs.Reading.{◌>>=◌}
use Rattle.std.proofs.Common.{◌≡◌, ℕ, ◌+◌, ◌<◌, List, [], ◌∷◌, ◌++◌, length, get_or, drop, Result, Ok, Err, refl, sym, ap, ◌∙◌, append_assoc}
use Rattle.std.proofs.lemmas.List.{append-nil, drop_more}
use Rattle.toml.specs.declared.value.Value.{Value}
use Rattle.toml.specs.View.{view, items_view}
use Rattle.toml.specs.Data.{item}
use Rattle.hal_schema.specs.declared.raw.RawPart.{RawPart}
use Rattle.hal_schema.specs.declared.text_fault.TextFault.{TextFault}
use Rattle.hal_schema.specs.declared.text_fault.TextFault.TheVariants as faults
use Rattle.hal_schema.specs.Reading.{Says}
use Rattle.partition_reader.specs.Tables.{next_place, part_in, parts_from}

-- what was read before, and what is still read
abbrev pub with_front : List RawPart → Result (List RawPart) TextFault → Result (List RawPart) TextFault
with_front front read = read >>= λ parts. Ok (front ++ parts)

front_none : (read : Result (List RawPart) TextFault) → with_front [] read ≡ read
front_none (Ok parts) = refl
front_none (Err fault) = refl

front_more : (front : List RawPart) (part : RawPart) (read : Result (List RawPart) TextFault) → with_front front (read >>= λ parts. Ok (part ∷ parts)) ≡ with_front (front ++ part ∷ []) read
front_more front part (Ok parts) = ap (λ (xs : List RawPart). Ok xs) (simp append_assoc)
front_more front part (Err fault) = refl

pub parts_begin : (read : Result (List RawPart) TextFault) → with_front [] read ≡ read
parts_begin read = front_none read

-- the tables from an index on: the one at it, and those behind
tables_at : (tables : List Value) (index : ℕ) (value : Value) → index < length tables → value ≡ get_or tables index value → items_view (drop index tables) ≡ item (view value) (items_view (drop (index + 1) tables))
tables_at tables index value h is = rw (drop_more tables index value h, ← is)

pub parts_go_on : (tables : List Value) (index : ℕ) (value : Value) (place : ℕ) (front : List RawPart) (part : RawPart) (total : Result (List RawPart) TextFault) → index < length tables → value ≡ get_or tables index value → part_in place (view value) ≡ Ok part
    → with_front front (parts_from place (items_view (drop index tables))) ≡ total → with_front (front ++ part ∷ []) (parts_from (next_place place) (items_view (drop (index + 1) tables))) ≡ total
unfolding parts_from
parts_go_on tables index value place front part total h is read so_far =
    let rest : Result (List RawPart) TextFault = parts_from (next_place place) (items_view (drop (index + 1) tables)) in
    let step : parts_from place (items_view (drop index tables)) ≡ (rest >>= λ parts. Ok (part ∷ parts)) = rw (tables_at tables index value h is, read) refl in
    sym (front_more front part rest) ∙ sym (ap (with_front front) step) ∙ so_far

pub parts_fail : (tables : List Value) (index : ℕ) (value : Value) (place : ℕ) (front : List RawPart) (fault : TextFault) (total : Result (List RawPart) TextFault) → index < length tables → value ≡ get_or tables index value → Says {X = RawPart} (Err fault) (part_in place (view value))
    → with_front front (parts_from place (items_view (drop index tables))) ≡ total → Says {X = List RawPart} (Err fault) total
unfolding parts_from
parts_fail tables index value place front (faults.Rule rule line) total h is read so_far =
    let step : parts_from place (items_view (drop index tables)) ≡ Err (faults.Rule rule line) = rw (tables_at tables index value h is, read) refl in
    sym so_far ∙ ap (with_front front) step
parts_fail tables index value place front faults.Memory total h is read so_far = tt

pub parts_end : (tables : List Value) (index place : ℕ) (front : List RawPart) (total : Result (List RawPart) TextFault) → drop index tables ≡ [] → with_front front (parts_from place (items_view (drop index tables))) ≡ total → total ≡ Ok front
unfolding parts_from
parts_end tables index place front total over so_far =
    let step : with_front front (parts_from place (items_view (drop index tables))) ≡ Ok front = rw over (ap (λ (xs : List RawPart). Ok xs) (append-nil front)) in
    sym so_far ∙ step
