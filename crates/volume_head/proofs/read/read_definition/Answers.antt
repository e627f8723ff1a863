use Rattle.std.proofs.Common.{◌∙◌}
use Rattle.std.proofs.lemmas.Result.{err_from_is_err_and}
use Rattle.volume_head.specs.Reading.{IsFrontOf}
use Rattle.volume_head.proofs.Calls.{reads_then}
use Rattle.volume_head.proofs.Fronts.{ceil_is, some_of, none_of, cut_text, no_front, is_volume}
use Rattle.volume_head.proofs.read.read_definition.Goals as goal

pub returns-in_err-bytes-clause-told : goal.returns-in_err-bytes-clause-told
returns-in_err-bytes-clause-told g c = λ y told.
    let p = err_from_is_err_and c.from_residual-in_err-bytes.result c.from_residual-in_err-bytes.ensures.1 in
    rw (p.1, p.2) (c.in_err-bytes.ensures.told y (c.read_head.ensures.leaves.image_stays ∙ told))

pub returns-in_default-clause-told : goal.returns-in_default-clause-told
returns-in_default-clause-told g c = λ y told.
    let h = c.in_ok-head.ensures.told y told in
    (h.0, cut_text y c.in_ok-head.head c.get32-text.result c.div_ceil.result h.1 c.get32-text.ensures (c.div_ceil.ensures ∙ ceil_is c.get32-text.result) c.in_ok-bytes.field-0 (c.in_ok-bytes.ensures.told y (c.read_head.ensures.leaves.image_stays ∙ told)) c.in_default.is)

pub returns-in-Some-2-clause-told : goal.returns-in-Some-2-clause-told
returns-in-Some-2-clause-told g c = λ y told.
    let h = c.in_ok-head.ensures.told y told in
    is_volume y c.in_ok-head.head c.get32-text.result c.div_ceil.result h.1 c.get32-text.ensures (c.div_ceil.ensures ∙ ceil_is c.get32-text.result) c.in_ok-bytes.field-0 c.in-Some.bytes c.as_slice.result.now (c.in_ok-bytes.ensures.told y (c.read_head.ensures.leaves.image_stays ∙ told)) c.in-Some.is c.as_slice.ensures c.in-Some-2.schema (some_of (λ schema. IsFrontOf schema c.in_ok-head.head c.as_slice.result.now) c.in-Some-2.is c.in_ok-schema.ensures.found)

pub returns-in-Some-2-clause-leaves : goal.returns-in-Some-2-clause-leaves
returns-in-Some-2-clause-leaves g c = reads_then c.read_head.ensures.leaves c.read_blocks.ensures.leaves

pub returns-clause-told : goal.returns-clause-told
returns-clause-told g c = λ y told.
    let h = c.in_ok-head.ensures.told y told in
    (h.0, no_front y c.in_ok-head.head c.get32-text.result c.div_ceil.result h.1 c.get32-text.ensures (c.div_ceil.ensures ∙ ceil_is c.get32-text.result) c.in_ok-bytes.field-0 c.in-Some.bytes c.as_slice.result.now (c.in_ok-bytes.ensures.told y (c.read_head.ensures.leaves.image_stays ∙ told)) c.in-Some.is c.as_slice.ensures (none_of c.in-None.is c.in_ok-schema.ensures.none))
