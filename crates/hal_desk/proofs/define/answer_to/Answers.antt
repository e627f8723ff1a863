use Rattle.std.proofs.Common.{◌<◌, ◌≤◌, length, IsTrue, drop, Err, sym, ap, subst, ◌∙◌}
use Rattle.std.proofs.lemmas.Result.{IfOk-weaker, IfOk-at_ok}
use Rattle.hal_schema.specs.Named.{dbd_is_named, parts_are_named}
use Rattle.dbd_reader.specs.Definition.{meaning_of}
use Rattle.hal_schema.specs.Reading.{Says}
use Rattle.partition_reader.specs.Partitions.{partitions_of}
use Rattle.hal_desk.specs.Define.{answer_of}
use Rattle.hal_desk.proofs.Commands.{rest_from, told, told_ok, text_broken, file_broken, both_read}
use Rattle.hal_desk.proofs.define.answer_to.Goals as goal

pub returns-in-Err-Rule : goal.returns-in-Err-Rule
returns-in-Err-Rule c =
    let e = told c.read_dbd.result (meaning_of c.args.text.now) c.in-Err-Rule.rule c.in-Err-Rule.line c.read_dbd.ensures.says (c.in-Err-Rule.is ∙ ap Err c.in-Err-Rule.field-0-is) in
    IfOk-weaker c.refused.result _ _ (λ a h. h ∙ sym (ap answer_of (text_broken c.args.text.now c.in-Err-Rule.rule c.in-Err-Rule.line e))) c.refused.ensures

pub slice_bounds-read_partitions-count : goal.slice_bounds-read_partitions-count
slice_bounds-read_partitions-count c = IfOk-at_ok (λ read. read.1 ≤ length c.args.text.now) c.in-Ok.is c.read_dbd.ensures.within

pub slice_bounds-read_partitions-start : goal.slice_bounds-read_partitions-start
slice_bounds-read_partitions-start c = IfOk-at_ok (λ read. read.1 ≤ length c.args.text.now) c.in-Ok.is c.read_dbd.ensures.within

pub returns-in-Err-Rule-read_partitions : goal.returns-in-Err-Rule-read_partitions
returns-in-Err-Rule-read_partitions c =
    let text = c.args.text.now in
    let read = told_ok c.read_dbd.result (meaning_of text) c.in-Ok.read c.read_dbd.ensures.says c.in-Ok.is in
    let says = subst (λ t. Says c.read_partitions.result (partitions_of t)) (rest_from c.in-Ok.read.1 text) c.read_partitions.ensures.says in
    let e = told c.read_partitions.result (partitions_of (drop c.in-Ok.read.1 text)) c.in-Err-Rule-read_partitions.rule c.in-Err-Rule-read_partitions.line says
    (c.in-Err-Rule-read_partitions.is ∙ ap Err c.in-Err-Rule-read_partitions.field-0-is) in
    IfOk-weaker c.refused-in-Err-Rule-read_partitions.result _ _
    (λ a h. h ∙ sym (ap answer_of (file_broken text c.in-Ok.read.0 c.in-Ok.read.1 c.in-Err-Rule-read_partitions.rule c.in-Err-Rule-read_partitions.line read e))) c.refused-in-Err-Rule-read_partitions.ensures

pub judged-requires-clause-types : goal.judged-requires-clause-types
judged-requires-clause-types c = IfOk-at_ok (λ read. 0 < length read.0.types) c.in-Ok.is c.read_dbd.ensures.types

pub judged-requires-clause-named : goal.judged-requires-clause-named
judged-requires-clause-named c = IfOk-at_ok (λ read. IsTrue (dbd_is_named read.0)) c.in-Ok.is c.read_dbd.ensures.named

pub judged-requires-clause-parts_named : goal.judged-requires-clause-parts_named
judged-requires-clause-parts_named c = IfOk-at_ok (λ parts. IsTrue (parts_are_named parts)) c.in-Ok-read_partitions.is c.read_partitions.ensures.named

pub returns : goal.returns
returns c =
    let text = c.args.text.now in
    let read = told_ok c.read_dbd.result (meaning_of text) c.in-Ok.read c.read_dbd.ensures.says c.in-Ok.is in
    let says = subst (λ t. Says c.read_partitions.result (partitions_of t)) (rest_from c.in-Ok.read.1 text) c.read_partitions.ensures.says in
    let parts = told_ok c.read_partitions.result (partitions_of (drop c.in-Ok.read.1 text)) c.in-Ok-read_partitions.parts says c.in-Ok-read_partitions.is in
    IfOk-weaker c.judged.result _ _ (λ a h. h ∙ sym (ap answer_of (both_read text c.in-Ok.read.0 c.in-Ok.read.1 c.in-Ok-read_partitions.parts read parts))) c.judged.ensures
