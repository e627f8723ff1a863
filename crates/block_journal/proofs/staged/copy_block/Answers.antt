use Rattle.std.proofs.Common.{◌∙◌, Some, List, ℕ, [], length, ap, arith, rules}
use Rattle.std.proofs.lemmas.Option.{slice_get-get_or}
use Rattle.block_journal.specs.Redo.{put_all}
use Rattle.block_journal.specs.JournalLaw.{length-put_all}
use Rattle.block_journal.proofs.Rising.{changed_block, unchanged_block}
use Rattle.block_journal.proofs.staged.copy_block.Goals as goal

pub returns-in-Some : goal.returns-in-Some
returns-in-Some c =
    let blocks : List (List ℕ) = c.args.blocks.now in
    let cs = c.args.changes.now.entries in
    slice_get-get_or (put_all cs blocks) c.args.number [] (omega (arith, length-put_all cs blocks, c.requires.below))
    ∙ ap Some (changed_block c.args.number c.in-Some.block.now 0 (length blocks) cs blocks c.requires.rise c.requires.below (search rules))

pub returns-in-None : goal.returns-in-None
returns-in-None c =
    let blocks : List (List ℕ) = c.args.blocks.now in
    let cs = c.args.changes.now.entries in
    slice_get-get_or (put_all cs blocks) c.args.number [] (omega (arith, length-put_all cs blocks, c.requires.below))
    ∙ ap Some (unchanged_block c.args.number cs blocks (search rules))
