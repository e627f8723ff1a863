use Rattle.reorg_cursor.proofs.Fits.{fits_kind}
use Rattle.reorg_cursor.proofs.RootOrder.{roots_in_order}
use Rattle.reorg_cursor.proofs.UnitLemmas.{unit_leaves, groups_after}
use Rattle.reorg_cursor.proofs.laws.units_take_first.Goals as goal

pub returns : goal.returns
returns c = λ schema place rows s k stands.
    let kind = fits_kind schema place s stands.fits in
    let order = roots_in_order schema place rows stands.forest in
    record { groups = groups_after schema place rows s.cursor k kind order; records = unit_leaves schema place rows s.cursor k kind order }
