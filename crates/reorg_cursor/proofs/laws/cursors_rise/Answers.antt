use Rattle.reorg_cursor.proofs.Fits.{fits_kind}
use Rattle.reorg_cursor.proofs.UnitLemmas.{unit_keeps}
use Rattle.reorg_cursor.proofs.laws.cursors_rise.Goals as goal

pub returns : goal.returns
returns c = λ schema place rows s k key fits done. unit_keeps schema place rows s.cursor k key (fits_kind schema place s fits) done
