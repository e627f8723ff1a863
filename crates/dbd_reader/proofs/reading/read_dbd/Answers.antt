use Rattle.std.proofs.Common.{◌≤◌, length}
use Rattle.std.proofs.lemmas.Result.{IfOk-weaker}
use Rattle.dbd_reader.specs.Definition.{meaning_of}
use Rattle.dbd_reader.proofs.Kept.{IsWhole, whole, within, of_read}
use Rattle.dbd_reader.proofs.reading.read_dbd.Goals as goal

pub returns-clause-types : goal.returns-clause-types
returns-clause-types c =
    let text = c.args.text.now in
    IfOk-weaker c.read_text.result IsWhole _ (λ read h. h.1) (of_read IsWhole c.read_text.result (meaning_of text) c.read_text.ensures (whole text))

pub returns-clause-named : goal.returns-clause-named
returns-clause-named c =
    let text = c.args.text.now in
    IfOk-weaker c.read_text.result IsWhole _ (λ read h. h.0) (of_read IsWhole c.read_text.result (meaning_of text) c.read_text.ensures (whole text))

pub returns-clause-within : goal.returns-clause-within
returns-clause-within c =
    let text = c.args.text.now in
    of_read (λ read. read.1 ≤ length text) c.read_text.result (meaning_of text) c.read_text.ensures (within text)
