-- A text with zeros up to the end of its last block.
use Rattle.std.proofs.Common.{◌≡◌, ℕ, ◌+◌, ◌-◌, ◌*◌, ◌%◌, ◌^◌, ◌<◌, ◌≤◌, List, [], ◌∷◌, ◌++◌, length, take, drop, get_or, replicate, Result, Ok, Err, OnOk, refl, sym, ◌∙◌, ap, arith, length-append, length-take, length-drop, append_assoc, take-append-drop}
use Rattle.std.specs.Prelude.{flat_map}
use Rattle.std.proofs.lemmas.List.{take-replicate, length-replicate, take_all, take_more}
use Rattle.hal_schema.specs.declared.schema.PartDef.{PartDef}
use Rattle.hal_schema.specs.declared.schema.Schema.{Schema}
use Rattle.volume_head.specs.Empty.{before_data, control_rows, empty_volume, first_row}
use Rattle.volume_head.specs.Head.{IsMarked, blocks_for, canonical_text, head_of, in_blocks, mark, most_text}

-- so many zeros
pub rest_is : (n : ℕ) → (4096 - n % 4096) % 4096 ≡ 4096 * blocks_for n - n
rest_is n = omega arith

pub padded_blocks : (bytes text front all zeros : List ℕ) → front ≡ bytes ++ text → zeros ≡ replicate (4096 * blocks_for (length text) - length text) 0 → all ≡ front ++ zeros → all ≡ bytes ++ in_blocks text
padded_blocks bytes text front all zeros first rest joined =
    joined ∙ ap (λ (l : List ℕ). l ++ zeros) first ∙ append_assoc bytes text zeros ∙ ap (λ (l : List ℕ). bytes ++ (text ++ l)) rest

pub padded_on_ok : {X E : Type 0} (result : Result X E) (bytes text front all : List ℕ) → front ≡ bytes ++ text
    → OnOk result (all ≡ front ++ take ((4096 - length text % 4096) % 4096) (replicate 4096 0)) → OnOk result (all ≡ bytes ++ in_blocks text)
padded_on_ok (Err e) bytes text front all first joined = tt
padded_on_ok (Ok x) bytes text front all first joined =
    let n = (4096 - length text % 4096) % 4096 in
    let short : n ≤ 4096 = omega arith in
    padded_blocks bytes text front all (take n (replicate 4096 0)) first (take-replicate n 4096 0 short ∙ ap (λ (k : ℕ). replicate k 0) (rest_is (length text))) joined

rows_long : (parts : List PartDef) → length (flat_map first_row parts) ≡ 128 * length parts
rows_long [] = refl
rows_long (p ∷ parts) =
    let own : length (first_row p) ≡ 128 = refl in
    let more = rows_long parts in
    omega (arith, own, more, length-append (first_row p) (flat_map first_row parts))

in_blocks_short : (text : List ℕ) → length (in_blocks text) ≤ length text + 4095
in_blocks_short text = omega (arith, length-append text (replicate (4096 * blocks_for (length text) - length text) 0), length-replicate {A = ℕ} (4096 * blocks_for (length text) - length text) 0)

pub before_short : (schema : Schema) → length (canonical_text schema) ≤ most_text → length schema.parts ≤ 100 → length (before_data schema) ≤ 2 ^ 62
before_short schema short few =
    let text = in_blocks (canonical_text schema) in
    let rows = in_blocks (control_rows schema) in
    let head : length (head_of schema) ≡ 4096 = refl in
    omega (
      arith,
      short,
      few,
      head,
      in_blocks_short (canonical_text schema),
      in_blocks_short (control_rows schema),
      rows_long schema.parts,
      length-replicate {A = ℕ} 4096 0,
      length-append (head_of schema) (replicate 4096 0),
      length-append (head_of schema ++ replicate 4096 0) text,
      length-append (head_of schema ++ replicate 4096 0 ++ text) rows,
    )

pub begins_marked : (schema : Schema) → IsMarked (before_data schema)
begins_marked schema = refl

pub marked_long : (front : List ℕ) → IsMarked front → 8 ≤ length front
marked_long front marked =
    let long : length (take 8 front) ≡ 8 = ap length marked in
    omega (arith, long, length-take 8 front)

-- the bytes behind the mark, as a range that is open above gives them
abbrev pub behind_mark : List ℕ → List ℕ
behind_mark front = take (length front - 8) (drop 8 front)

pub behind_long : (front : List ℕ) → length (behind_mark front) ≡ length front - 8
behind_long front = omega (arith, length-take (length front - 8) (drop 8 front), length-drop 8 front)

-- the mark, and all behind it
pub mark_first : (front behind : List ℕ) → IsMarked front → front ++ behind ≡ mark ++ (behind_mark front ++ behind)
mark_first front behind marked =
    let all : behind_mark front ≡ drop 8 front = take_all (length front - 8) (drop 8 front) (omega (arith, length-drop 8 front)) in
    ap (λ (l : List ℕ). l ++ behind) (sym (take-append-drop 8 front) ∙ ap (λ (l : List ℕ). l ++ drop 8 front) marked) ∙ append_assoc mark (drop 8 front) behind
    ∙ ap (λ (l : List ℕ). mark ++ (l ++ behind)) (sym all)

pub all_before : (schema : Schema) (head bytes more front all text rows : List ℕ) → head ≡ head_of schema → bytes ≡ head → more ≡ bytes ++ replicate 4096 0 → front ≡ more ++ in_blocks text → text ≡ canonical_text schema
    → all ≡ front ++ in_blocks rows → rows ≡ control_rows schema → all ≡ before_data schema
all_before schema head bytes more front all text rows a b c d e f g =
    f ∙ ap (λ (l : List ℕ). l ++ in_blocks rows) (d ∙ ap (λ (l : List ℕ). l ++ in_blocks text) (c ∙ ap (λ (l : List ℕ). l ++ replicate 4096 0) (b ∙ a)) ∙ ap (λ (l : List ℕ). head_of schema ++ replicate 4096 0 ++ in_blocks l) e)
    ∙ ap (λ (l : List ℕ). head_of schema ++ replicate 4096 0 ++ in_blocks (canonical_text schema) ++ in_blocks l) g

pub empty_long : (schema : Schema) (front : List ℕ) → front ≡ before_data schema → length front + 4096 * schema.blocks ≡ length (empty_volume schema)
empty_long schema front is = omega (arith, ap length is, length-append (before_data schema) (replicate (4096 * schema.blocks) 0), length-replicate {A = ℕ} (4096 * schema.blocks) 0)

-- the partitions so far, and the next
pub until_next : (parts items : List PartDef) (i : ℕ) (part : PartDef) → items ≡ parts → i < length items → part ≡ get_or items i part → take (i + 1) parts ≡ take i parts ++ part ∷ []
until_next parts items i part is lt at =
    ap (take (i + 1)) (sym is) ∙ take_more items i part lt ∙ ap (λ (p : PartDef). take i items ++ p ∷ []) (sym at) ∙ ap (λ (l : List PartDef). take i l ++ part ∷ []) is
