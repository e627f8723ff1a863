use Rattle.std.proofs.Common.{refl}
use Rattle.call_rows.proofs.examples.statuses_come.Goals as goal

pub returns : goal.returns
returns c =
    record {
      blank = refl;
      ga = refl;
      gk = refl;
      ad = refl;
      am = refl;
      ah = refl;
      aj = refl;
      ak = refl;
      ac = refl;
      gp = refl;
      dj = refl;
      l = refl;
      fm = refl;
      ge = refl;
      gb = refl;
      ii = refl;
      da = refl;
      ni = refl;
      r = refl;
    }
