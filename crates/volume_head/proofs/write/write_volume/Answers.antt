use Rattle.std.proofs.Common.{◌∙◌, ◌*◌, ◌++◌, ℕ, List, length, replicate, ap, arith}
use Rattle.std.specs.Option.{option_map}
use Rattle.hal_base.specs.Disk.{written}
use Rattle.volume_head.specs.Empty.{empty_volume}
use Rattle.volume_head.proofs.Padding.{empty_long}
use Rattle.volume_head.proofs.Writing.{of_reads, writes_more, writes_then}
use Rattle.volume_head.proofs.write.write_volume.Goals as goal

pub returns-in_err-write_all-clause-leaves : goal.returns-in_err-write_all-clause-leaves
returns-in_err-write_all-clause-leaves g c =
    let long = empty_long c.args.schema.now c.as_slice.result.now (c.as_slice.ensures ∙ c.in_ok-front.ensures.bytes) in
    let looked = writes_more {m = length (empty_volume c.args.schema.now)} (of_reads (g.met.T.Site.said_now c.args.site.now) c.in_ok-has_mark.ensures.leaves) (omega arith) in
    writes_then looked c.in_err-write_all.ensures.leaves (omega (arith, long))

pub returns-clause-leaves : goal.returns-clause-leaves
returns-clause-leaves g c =
    let long = empty_long c.args.schema.now c.as_slice.result.now (c.as_slice.ensures ∙ c.in_ok-front.ensures.bytes) in
    let looked = writes_more {m = length (empty_volume c.args.schema.now)} (of_reads (g.met.T.Site.said_now c.args.site.now) c.in_ok-has_mark.ensures.leaves) (omega arith) in
    writes_then looked c.in_ok-write_all.ensures.leaves (omega (arith, long))

pub returns-clause-tells : goal.returns-clause-tells
returns-clause-tells g c = λ bytes told marked.
    let held = (c.in_ok-has_mark.ensures.told bytes told).1 marked in
    let apart = c.if-branch.false in
    cc

pub returns-clause-written : goal.returns-clause-written
returns-clause-written g c =
    c.in_ok-write_all.ensures.written
    ∙ ap (λ (l : List ℕ). option_map (written 0 (l ++ replicate (4096 * c.args.schema.now.blocks) 0)) (g.T.Site.image c.has_mark.new.site)) (c.as_slice.ensures ∙ c.in_ok-front.ensures.bytes)
    ∙ ap (option_map (written 0 (empty_volume c.args.schema.now))) c.in_ok-has_mark.ensures.leaves.image_stays
