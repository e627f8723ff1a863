use Rattle.std.proofs.Common.{◌∙◌, ◌^◌, ◌≤◌, ℕ, List, length, sym, ap, subst}
use Rattle.volume_head.specs.Head.{canonical_text, head_bytes, most_text}
use Rattle.volume_head.proofs.Padding.{all_before, before_short}
use Rattle.volume_head.proofs.write.before_data.Goals as goal

pub returns-clause-bytes : goal.returns-clause-bytes
returns-clause-bytes c =
    all_before c.args.schema.now c.head_block-head.result c.in_ok-bytes.bytes c.append.new.self c.append_blocks.new.bytes c.append_blocks-2.new.bytes c.as_slice.result.now c.as_slice-2.result.now
    (c.head_block-head.ensures ∙ ap (λ (n : ℕ). head_bytes c.args.schema.now.blocks n c.len-2.result) (c.len.ensures ∙ ap length c.in_ok-text.ensures.text.is)
    ∙ ap (head_bytes c.args.schema.now.blocks (length (canonical_text c.args.schema.now))) c.len-2.ensures) c.in_ok-bytes.ensures c.in_ok-append.ensures.ok c.in_ok-append_blocks.ensures (c.as_slice.ensures ∙ c.in_ok-text.ensures.text.is) c.in_ok-append_blocks-2.ensures (c.as_slice-2.ensures ∙ c.in_ok-control_rows.ensures)

pub returns-clause-short : goal.returns-clause-short
returns-clause-short c =
    subst (λ (l : List ℕ). length l ≤ 2 ^ 62) (sym (returns-clause-bytes c))
    (before_short c.args.schema.now (subst (λ (l : List ℕ). length l ≤ most_text) c.in_ok-text.ensures.text.is c.in_ok-text.ensures.short) (c.schemas_are_kept.ensures c.args.schema.now).few_parts)
