use Rattle.free_space.specs.Address.{page_at}
use Rattle.free_space.specs.Map.{layout_of}
use Rattle.free_space.proofs.Told.{page_of_layout}
use Rattle.free_space.proofs.MapSteps.{not_zero}
use Rattle.free_space.proofs.laws.no_cell_is_at_zero.Goals as goal

pub returns : goal.returns
returns c = λ store shelf pages at cell stands told is. not_zero store.shapes store.set (layout_of store.shapes pages) at cell
    (λ tiles among. let (block, there, t) = page_of_layout store.shapes store.spaces.pages.items pages (page_at at) tiles (stands.told pages told) among in t.tiled) is
