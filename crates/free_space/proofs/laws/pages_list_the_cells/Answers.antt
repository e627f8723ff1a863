use Rattle.std.proofs.Common.{sym, ◌∙◌, arith}
use Rattle.free_space.specs.Map.{layout_of}
use Rattle.free_space.specs.Side.{lettered}
use Rattle.free_space.proofs.SideSteps.{cell_here, pages_of_letter}
use Rattle.free_space.proofs.Listings.{listed_is, rises, placed_more}
use Rattle.free_space.proofs.laws.pages_list_the_cells.Goals as goal

pub returns : goal.returns
returns c = record {
  listed = λ side shelf place pages at stands below told whole few here.
      let p = pages_of_letter side shelf place pages stands below told whole in
      listed_is side.shapes (lettered side.first place) (layout_of side.shapes pages) at p.0 (omega (arith, p.1, few)) ∙ sym (cell_here side.first side.shapes shelf at place pages here below told);
  rise = λ side shelf place pages stands below told whole. rises side.shapes (lettered side.first place) 0 (layout_of side.shapes pages) (pages_of_letter side shelf place pages stands below told whole).0;
  one_more = placed_more;
}
