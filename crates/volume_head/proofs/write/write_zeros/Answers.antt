use Rattle.std.proofs.Common.{◌≡◌, ◌∙◌, ◌+◌, ◌*◌, ◌++◌, ℕ, length, replicate, refl, ap, arith}
use Rattle.std.specs.Option.{option_map}
use Rattle.hal_base.specs.Disk.{written}
use Rattle.volume_head.proofs.Writing.{told_behind, zeros_more, zeros_end, one_write, writes_then}
use Rattle.volume_head.proofs.write.write_zeros.Goals as goal

pub loop-number-preserved : goal.loop-number-preserved
loop-number-preserved g c =
    let e = c.in_ok-write_at.ensures in
    let n = c.loop-number.number in
    record {
      written = λ start bytes before place is.
          let so_far = bytes ++ replicate (4096 * n) 0 in
          let here : c.args.at + 4096 * c.from.result ≡ start + length so_far = omega (arith, place, c.from.ensures, zeros_end bytes n) in
          told_behind start (start + length so_far) so_far (replicate 4096 0) (bytes ++ replicate (4096 * (n + 1)) 0) before (g.T.Site.image c.loop-number.site) (g.T.Site.image c.write_at.new.self) refl
          (zeros_more bytes (replicate 4096 0) n refl) (c.loop-number.invariant.written start bytes before place is)
          (e.image ∙ ap (λ (k : ℕ). option_map (written k (replicate 4096 0)) (g.T.Site.image c.loop-number.site)) here);
      leaves = writes_then c.loop-number.invariant.leaves (one_write {at = c.args.at + 4096 * c.from.result} {n = 4096} (g.met.T.Site.said_now c.loop-number.site) e.said e.stops e.cause.later e.say_faults e.room)
          (omega (arith, c.from.ensures, c.loop-number-test.true));
    }
