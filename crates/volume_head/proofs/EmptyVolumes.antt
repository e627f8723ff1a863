-- What is written over an image is the volume of its schema.
use Rattle.std.proofs.Common.{◌≡◌, ℕ, ◌+◌, ◌-◌, ◌*◌, List, [], ◌++◌, length, take, drop, replicate, refl, sym, ◌∙◌, ap, arith, length-append, append_assoc}
use Rattle.std.proofs.lemmas.List.{take_at, drop_at, length-replicate}
use Rattle.hal_base.specs.Disk.{written}
use Rattle.volume_head.specs.Empty.{AreTheirs, control_rows, empty_volume}
use Rattle.volume_head.specs.Head.{blocks_for, canonical_text, head_of, in_blocks}

-- the bytes that are written stand in front
front_written : (bytes image : List ℕ) → written 0 bytes image ≡ bytes ++ drop (length bytes) image
front_written bytes image = rw (none, from_none) refl
  where
    over : 0 - length image ≡ 0
    over = omega arith

    none : replicate {A = ℕ} (0 - length image) 0 ≡ []
    none = ap (λ (n : ℕ). replicate n 0) over

    from_none : 0 + length bytes ≡ length bytes
    from_none = omega arith

blocks_long : (text : List ℕ) → length (in_blocks text) ≡ 4096 * blocks_for (length text)
blocks_long text = omega (arith, length-append text (replicate (4096 * blocks_for (length text) - length text) 0), length-replicate {A = ℕ} (4096 * blocks_for (length text) - length text) 0)

pub are_theirs : AreTheirs
are_theirs schema image canonical short =
    let head = head_of schema in
    let gate = replicate {A = ℕ} 4096 0 in
    let text = in_blocks (canonical_text schema) in
    let rows = in_blocks (control_rows schema) in
    let blocks = replicate {A = ℕ} (4096 * schema.blocks) 0 in
    let rest = rows ++ (blocks ++ drop (length (empty_volume schema)) image) in
    let split : written 0 (empty_volume schema) image ≡ head ++ (gate ++ (text ++ rest)) =
    front_written (empty_volume schema) image ∙ append_assoc (head ++ gate ++ text ++ rows) blocks (drop (length (empty_volume schema)) image)
    ∙ append_assoc (head ++ gate ++ text) rows (blocks ++ drop (length (empty_volume schema)) image) ∙ append_assoc (head ++ gate) text rest ∙ append_assoc head gate (text ++ rest) in
    let whole : length head ≡ 4096 = refl in
    let front : length (head ++ gate) ≡ 8192 = omega (arith, whole, length-append head gate, length-replicate {A = ℕ} 4096 0) in
    record {
      head = ap (take 4096) split ∙ take_at head (gate ++ (text ++ rest)) 4096 whole;
      short = short;
      definition =
          ap (λ (l : List ℕ). take (4096 * blocks_for (length (canonical_text schema))) (drop 8192 l)) (split ∙ sym (append_assoc head gate (text ++ rest)))
          ∙ ap (take (4096 * blocks_for (length (canonical_text schema)))) (drop_at (head ++ gate) (text ++ rest) 8192 front)
          ∙ take_at text rest (4096 * blocks_for (length (canonical_text schema))) (blocks_long (canonical_text schema));
      reads = canonical.reads;
    }
