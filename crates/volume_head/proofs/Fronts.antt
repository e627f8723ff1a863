-- What the head and the blocks behind the gate say of a definition.
use Rattle.std.proofs.Common.{◌≡◌, ⊎_elim, ℕ, zero, suc, ◌+◌, ◌-◌, ◌*◌, ◌<◌, ◌≤◌, ◌==◌, nat_eq, Bool, true, false, ◌&&◌, List, [], ◌∷◌, ◌++◌, length, take, drop, replicate, min, Option, None, Some, IfSome, IfNone, refl, sym, ◌∙◌, ap, subst, arith, length-append, length-drop}
use Rattle.std.proofs.lemmas.List.{length-take, length-replicate, take_all, take_at, drop_at, take-take, drop-drop, take-append-drop}
use Rattle.std.proofs.lemmas.Bool.{eqb-true}
use Rattle.std.proofs.lemmas.Bool.Decides.{eqb_tells}
use Rattle.std.proofs.lemmas.Option.{none-some, same_Some}
use Rattle.std.proofs.Math.Seq.{take-add}
use Rattle.std.specs.List.{list_all}
use Rattle.definition_text.specs.Builds.{IsDefinitionOf}
use Rattle.std.proofs.lemmas.Nat.{from_be_bytes-to_be_bytes_4}
use Rattle.std.specs.Int.{w32, to_be_bytes, from_be_bytes, div_ceil}
use Rattle.hal_schema.specs.declared.schema.Schema.{Schema}
use Rattle.volume_head.specs.Head.{canonical_text, blocks_for, in_blocks, head_of, head_front, head_bytes, most_text}
use Rattle.volume_head.specs.Definition.{IsVolumeOf, BreaksFront, IsCanonical, IsNoCanonical}
use Rattle.volume_head.specs.Reading.{IsFrontOf, IsBlockAt, AreBlocksAt, length_in}
use Rattle.volume_head.proofs.OneSchema.{one_schema}

pub some_of : {X : Type 0} {x : X} {o : Option X} (P : X → Type 0) → o ≡ Some x → IfSome o P → P x
some_of {X} {x} {o} P is holds = subst (λ (o : Option X). IfSome o P) is holds

pub none_of : {X : Type 0} {o : Option X} {P : Type 0} → o ≡ None → IfNone o P → P
none_of {X} {o} {P} is holds = subst (λ (o : Option X). IfNone o P) is holds

pub both_ways : {b : Bool} → b ≡ true → b ≡ false → ⊥
both_ways yes_so not_so = cc

length-front : (blocks text parts : ℕ) → length (head_front blocks text parts) ≡ 18
length-front blocks text parts = refl

pub length-head : (blocks text parts : ℕ) → length (head_bytes blocks text parts) ≡ 4096
length-head blocks text parts = omega (arith, length-append (head_front blocks text parts) (replicate 4078 0), length-front blocks text parts, length-replicate {A = ℕ} 4078 0)

text_said : (blocks text parts : ℕ) → take 4 (drop 12 (head_bytes blocks text parts)) ≡ to_be_bytes w32 text
text_said blocks text parts = refl

pub length-in_blocks : (text : List ℕ) → length (in_blocks text) ≡ 4096 * blocks_for (length text)
length-in_blocks text = omega (arith, length-append text (replicate (4096 * blocks_for (length text) - length text) 0), length-replicate {A = ℕ} (4096 * blocks_for (length text) - length text) 0)

-- a head says how long its schema's text is
pub length_said : (schema : Schema) (head : List ℕ) → head ≡ head_of schema → length (canonical_text schema) ≤ most_text → length_in head ≡ length (canonical_text schema)
length_said schema head is short =
    ap (λ (h : List ℕ). length_in h) is
    ∙ ap (λ (l : List ℕ). from_be_bytes w32 l) (text_said schema.blocks (length (canonical_text schema)) (length schema.parts))
    ∙ from_be_bytes-to_be_bytes_4 (length (canonical_text schema)) (omega (arith, short))

pub ceil_is : (n : ℕ) → div_ceil n 4096 ≡ blocks_for n
ceil_is n = omega arith

-- a read of a buffer of a block
pub read_is : (at n : ℕ) (buf : List ℕ) (told : Option (List ℕ)) (y : List ℕ) → told ≡ Some y → IfSome told (λ bytes. take n buf ≡ take (length buf) (drop at bytes)) → length buf ≡ 4096 → take n buf ≡ take 4096 (drop at y)
read_is at n buf None y is read long = absurd (none-some y is)
read_is at n buf (Some x) y is read long = read ∙ (λ i. take (long i) (drop at (same_Some x y is i)))

length-read : (n : ℕ) (buf y : List ℕ) → take n buf ≡ take 4096 y → n ≤ length buf → min 4096 (length y) ≡ n
length-read n buf y read within = sym (length-take 4096 y) ∙ sym (ap length read) ∙ length-take n buf ∙ omega (arith, within)

whole_block : (at n : ℕ) (buf y : List ℕ) → take n buf ≡ take 4096 (drop at y) → length buf ≡ 4096 → n ≡ 4096 → take 4096 (drop at y) ≡ buf
whole_block at n buf y read long all = sym read ∙ take_all n buf (omega (arith, long, all))

cut_block : (at n : ℕ) (buf y : List ℕ) → take n buf ≡ take 4096 (drop at y) → length buf ≡ 4096 → n ≤ length buf → (n ≡ 4096 → ⊥) → length (drop at y) < 4096
cut_block at n buf y read long within ne = let m = length-read n buf (drop at y) read within in omega (arith, m, within, long, ne)

pub block_is : (at n : ℕ) (buf y : List ℕ) → take n buf ≡ take 4096 (drop at y) → length buf ≡ 4096 → n ≤ length buf → IsBlockAt at buf (nat_eq n 4096) y
block_is at n buf y read long within = ⊎_elim
    (λ w. subst (λ (b : Bool). IsBlockAt at buf b y) (sym w.0) (whole_block at n buf y read long w.1))
    (λ w. subst (λ (b : Bool). IsBlockAt at buf b y) (sym w.0) (cut_block at n buf y read long within w.1))
    (eqb_tells n 4096)

-- a read of the first block tells whether the mark is there
pub mark_read : (n : ℕ) (head y : List ℕ) → take n head ≡ take 4096 (drop 0 y) → 8 ≤ n → take 8 head ≡ take 8 y
mark_read n head y read some = sym (take-take 8 n head some) ∙ ap (λ (l : List ℕ). take 8 l) read ∙ take-take 8 4096 y (omega arith)

-- an image that ends before its head does is the volume of no schema
pub cut_head : (n : ℕ) (head y : List ℕ) → take n head ≡ take 4096 (drop 0 y) → n ≤ length head → n < 4096 → BreaksFront y
cut_head n head y read within cut schema volume =
    let m = length-read n head y read within in
    let long = sym (length-take 4096 y) ∙ ap length volume.head ∙ length-head schema.blocks (length (canonical_text schema)) (length schema.parts) in
    omega (arith, m, long, cut)

-- one block more
pub block_more : (at m : ℕ) (y bytes block : List ℕ) → take m (drop at y) ≡ bytes → take 4096 (drop (at + m) y) ≡ block → take (m + 4096) (drop at y) ≡ bytes ++ block
block_more at m y bytes block so_far next =
    take-add m 4096 (drop at y) ∙ (λ i. so_far i ++ (ap (λ (l : List ℕ). take 4096 l) (drop-drop m at y) ∙ next) i)

pub block_missing : (at m all : ℕ) (y : List ℕ) → length (drop (at + m) y) < 4096 → m + 4096 ≤ all → length (drop at y) < all
block_missing at m all y cut le = omega (arith, length-drop (at + m) y, length-drop at y, cut, le)

-- zeros
and_left : (a b : Bool) → (a && b) ≡ true → a ≡ true
and_left true b h = refl
and_left false b h = h

and_right : (a b : Bool) → (a && b) ≡ true → b ≡ true
and_right true b h = h
and_right false b h = cc

zeros_are : (bytes : List ℕ) → list_all (λ byte. byte == 0) bytes ≡ true → bytes ≡ replicate (length bytes) 0
zeros_are [] all = refl
zeros_are (b ∷ bytes) all = (λ i. eqb-true b 0 (and_left (b == 0) (list_all (λ byte. byte == 0) bytes) all) i ∷ zeros_are bytes (and_right (b == 0) (list_all (λ byte. byte == 0) bytes) all) i)

are_zeros : (n : ℕ) → list_all (λ byte. byte == 0) (replicate n 0) ≡ true
are_zeros zero = refl
are_zeros (suc n) = are_zeros n

-- the front of a definition's blocks, of which the rest are zeros
room_for : (n : ℕ) → n ≤ 4096 * blocks_for n
room_for n = omega arith

pub front_found : (schema : Schema) (head bytes : List ℕ) (text : ℕ) → IsCanonical (take text bytes) schema → list_all (λ byte. byte == 0) (drop text bytes) ≡ true → head ≡ head_of schema → text ≤ most_text → length bytes ≡ 4096 * blocks_for text → IsFrontOf schema head bytes
front_found schema head bytes text of zeros is short long =
    let here : length (canonical_text schema) ≡ text = sym (ap length of.is) ∙ length-take text bytes ∙ omega (arith, long, room_for text) in
    let rest : length (drop text bytes) ≡ 4096 * blocks_for (length (canonical_text schema)) - length (canonical_text schema) =
    length-drop text bytes ∙ (λ i. long i - text) ∙ sym (ap (λ (n : ℕ). 4096 * blocks_for n - n) here) in
    record {
      head_is = is;
      short = omega (arith, here, short);
      definition = sym (take-append-drop text bytes) ∙ (λ i. of.is i ++ (zeros_are (drop text bytes) zeros ∙ ap (λ (n : ℕ). replicate n 0) rest) i);
      reads = subst (λ (t : List ℕ). IsDefinitionOf t schema) of.is of.reads;
    }

text_of : (schema : Schema) (head bytes : List ℕ) (text : ℕ) → IsFrontOf schema head bytes → length (canonical_text schema) ≡ text → IsCanonical (take text bytes) schema
text_of schema head bytes text front is =
    let e : take text bytes ≡ canonical_text schema = ap (λ (l : List ℕ). take text l) front.definition ∙ take_at (canonical_text schema) _ text is in
    record { is = e; reads = subst (λ (t : List ℕ). IsDefinitionOf t schema) (sym e) front.reads }

pub not_read : (bytes : List ℕ) (text : ℕ) → IsNoCanonical (take text bytes) → (head : List ℕ) (schema : Schema) → IsFrontOf schema head bytes → length (canonical_text schema) ≡ text → ⊥
not_read bytes text none head schema front is = none schema (text_of schema head bytes text front is)

zeros_behind : (schema : Schema) (head bytes : List ℕ) (text : ℕ) → IsFrontOf schema head bytes → length (canonical_text schema) ≡ text → list_all (λ byte. byte == 0) (drop text bytes) ≡ true
zeros_behind schema head bytes text front is =
    ap (λ (l : List ℕ). list_all (λ byte. byte == 0) (drop text l)) front.definition
    ∙ ap (λ (l : List ℕ). list_all (λ byte. byte == 0) l) (drop_at (canonical_text schema) _ text is)
    ∙ are_zeros (4096 * blocks_for (length (canonical_text schema)) - length (canonical_text schema))

pub not_agreed : (bytes head : List ℕ) (text : ℕ) (made schema : Schema) (zeros same : Bool) → IsCanonical (take text bytes) made → zeros ≡ list_all (λ byte. byte == 0) (drop text bytes) → (head ≡ head_of made → same ≡ true) → (zeros ≡ true → same ≡ true → ⊥) → IsFrontOf schema head bytes → length (canonical_text schema) ≡ text → ⊥
not_agreed bytes head text made schema zeros same of are says differs front is =
    let one : schema ≡ made = one_schema (take text bytes) schema made (text_of schema head bytes text front is).reads of.reads in
    differs (are ∙ zeros_behind schema head bytes text front is) (says (front.head_is ∙ ap head_of one))

pub whole_head : (n : ℕ) (head y : List ℕ) → take n head ≡ take 4096 (drop 0 y) → length head ≡ 4096 → 4096 ≤ n → take 4096 y ≡ head
whole_head n head y read long all = sym read ∙ take_all n head (omega (arith, long, all))

pub blocks_missing : (at n number count : ℕ) (block y : List ℕ) (whole : Bool) → IsBlockAt (at + 4096 * n) block whole y → whole ≡ false → n ≡ number → number < count → length (drop at y) < 4096 * count
blocks_missing at n number count block y whole read cut is below =
    let missing : length (drop (at + 4096 * n) y) < 4096 = subst (λ (b : Bool). IsBlockAt (at + 4096 * n) block b y) cut read in
    block_missing at (4096 * n) (4096 * count) y missing (omega (arith, is, below))

pub blocks_more : (at n number : ℕ) (block y bytes now : List ℕ) (whole : Bool) → IsBlockAt (at + 4096 * n) block whole y → whole ≡ true → n ≡ number → take (4096 * number) (drop at y) ≡ bytes → now ≡ bytes ++ block → take (4096 * (number + 1)) (drop at y) ≡ now
blocks_more at n number block y bytes now whole read there is so_far joined =
    let next : take 4096 (drop (at + 4096 * n) y) ≡ block = subst (λ (b : Bool). IsBlockAt (at + 4096 * n) block b y) there read in
    let here : take (4096 * n) (drop at y) ≡ bytes = ap (λ (k : ℕ). take (4096 * k) (drop at y)) is ∙ so_far in
    let all : 4096 * (number + 1) ≡ 4096 * n + 4096 = omega (arith, is) in
    ap (λ (k : ℕ). take k (drop at y)) all ∙ block_more at (4096 * n) y bytes block here next ∙ sym joined

-- the head, the text's length and the blocks behind the gate, as they were read of an image
module _ (y head : List ℕ) (text count : ℕ) (is_head : take 4096 y ≡ head) (says : text ≡ length_in head) (counts : count ≡ blocks_for text) where
  text_is : (schema : Schema) → IsVolumeOf schema y → length (canonical_text schema) ≡ text
  text_is schema volume = sym (length_said schema (take 4096 y) volume.head volume.short) ∙ ap (λ (h : List ℕ). length_in h) is_head ∙ sym says

  -- the image ends before the definition does
  pub cut_text : (found : Option (List ℕ)) → AreBlocksAt 8192 count found y → found ≡ None → BreaksFront y
  cut_text found read none schema volume =
      let cut : length (drop 8192 y) < 4096 * count = subst (λ (f : Option (List ℕ)). AreBlocksAt 8192 count f y) none read in
      let long : min (4096 * blocks_for (length (canonical_text schema))) (length (drop 8192 y)) ≡ 4096 * blocks_for (length (canonical_text schema)) =
      sym (length-take (4096 * blocks_for (length (canonical_text schema))) (drop 8192 y)) ∙ ap length volume.definition ∙ length-in_blocks (canonical_text schema) in
      let same : blocks_for (length (canonical_text schema)) ≡ count = ap (λ (n : ℕ). blocks_for n) (text_is schema volume) ∙ sym counts in
      omega (arith, cut, long, same)

  bytes_are : (found : Option (List ℕ)) (bytes here : List ℕ) → AreBlocksAt 8192 count found y → found ≡ Some bytes → here ≡ bytes → take (4096 * blocks_for text) (drop 8192 y) ≡ here
  bytes_are found bytes here read some is =
      ap (λ (n : ℕ). take (4096 * n) (drop 8192 y)) (sym counts)
      ∙ (let whole : take (4096 * count) (drop 8192 y) ≡ bytes = subst (λ (f : Option (List ℕ)). AreBlocksAt 8192 count f y) some read in whole)
      ∙ sym is

  -- what was read is of no schema
  pub no_front : (found : Option (List ℕ)) (bytes here : List ℕ) → AreBlocksAt 8192 count found y → found ≡ Some bytes → here ≡ bytes
      → ((schema : Schema) → IsFrontOf schema head here → length (canonical_text schema) ≡ text → ⊥) → BreaksFront y
  no_front found bytes here read some is none schema volume =
      let long = text_is schema volume in
      none schema (record {
        head_is = sym is_head ∙ volume.head;
        short = volume.short;
        definition = sym (bytes_are found bytes here read some is) ∙ ap (λ (n : ℕ). take (4096 * blocks_for n) (drop 8192 y)) (sym long) ∙ volume.definition;
        reads = volume.reads;
      }) long

  -- what was read is of this schema
  pub is_volume : (found : Option (List ℕ)) (bytes here : List ℕ) → AreBlocksAt 8192 count found y → found ≡ Some bytes → here ≡ bytes → (schema : Schema) → IsFrontOf schema head here → IsVolumeOf schema y
  is_volume found bytes here read some is schema front =
      let long : length (canonical_text schema) ≡ text = sym (length_said schema head front.head_is front.short) ∙ sym says in
      record {
        head = is_head ∙ front.head_is;
        short = front.short;
        definition = ap (λ (n : ℕ). take (4096 * blocks_for n) (drop 8192 y)) long ∙ bytes_are found bytes here read some is ∙ front.definition;
        reads = front.reads;
      }

-- an image is the volume of one schema at most
pub one_volume : (image : List ℕ) (a b : Schema) → IsVolumeOf a image → IsVolumeOf b image → a ≡ b
one_volume image a b x y =
    let head : List ℕ = take 4096 image in
    let long : length (canonical_text a) ≡ length (canonical_text b) = sym (length_said a head x.head x.short) ∙ length_said b head y.head y.short in
    let blocks : in_blocks (canonical_text a) ≡ in_blocks (canonical_text b) =
    sym x.definition ∙ ap (λ (n : ℕ). take (4096 * blocks_for n) (drop 8192 image)) long ∙ y.definition in
    let texts : canonical_text a ≡ canonical_text b =
    sym (take_at (canonical_text a) (replicate (4096 * blocks_for (length (canonical_text a)) - length (canonical_text a)) 0) (length (canonical_text b)) long)
    ∙ ap (λ (l : List ℕ). take (length (canonical_text b)) l) blocks
    ∙ take_at (canonical_text b) (replicate (4096 * blocks_for (length (canonical_text b)) - length (canonical_text b)) 0) (length (canonical_text b)) refl in
    one_schema (canonical_text b) a b (subst (λ (t : List ℕ). IsDefinitionOf t a) texts x.reads) y.reads
