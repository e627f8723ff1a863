use Rattle.std.proofs.Common.{◌≡◌, ◌≢◌, ℕ, Option, None, Some, sym, ap, ◌∙◌}
use Rattle.std.specs.Option.{option_map}
use Rattle.segment_blocks.specs.declared.tile.Cell.{Cell}
use Rattle.free_space.specs.Map.{Adds, Alters}
use Rattle.record_walk.specs.Changes.{set_in_cell}
use Rattle.cell_rows.proofs.hanging.placed_segments_hang.Goals as goal

some_at : (x y : ℕ) → Some x ≡ Some y → x ≡ y
some_at x y is = cc

-- a cell that came and was changed came as it is then
changed_addition : (at : ℕ) (cell : Cell) (change : Cell → Cell) (old mid new : ℕ → Option Cell) → Adds at cell old mid → Alters at change mid new → Adds at (change cell) old new
changed_addition at cell change old mid new adds alters = record {
  free = adds.free;
  stands = alters.altered ∙ ap (option_map change) adds.stands;
  elsewhere = λ other apart. alters.elsewhere other apart ∙ adds.elsewhere other apart;
}

pub returns : goal.returns
returns c = λ cells mid named now firsts trees pointer home new kinds nameless hang once stands met used whole added renamed alters.
    let adds = changed_addition new.home nameless (λ (cell : Cell). record cell { name = new.name }) cells mid named added renamed in
    let (cell, there, fresh) = c.met_cells_stand.ensures cells trees home hang.hang met in
    let apart : home ≢ new.home = λ same. let wrong : None ≡ Some cell = sym adds.free ∙ ap cells (sym same) ∙ there in cc in
    c.new_segments_hang.ensures cells now firsts trees pointer new kinds hang once used adds.free
    (alters.elsewhere new.home (λ same. apart (sym same)) ∙ adds.stands ∙ ap (λ (one : Cell). Some one) whole) (record {
      set = λ other is.
          let same : home ≡ other = some_at home other (sym stands ∙ is) in
          ap now (sym same) ∙ alters.altered ∙ ap (option_map (set_in_cell pointer new.home)) (adds.elsewhere home apart ∙ ap cells same);
      others = λ other one is met_there differ.
          alters.elsewhere other (λ same. differ (stands ∙ ap (λ (h : ℕ). Some h) (sym same)))
          ∙ adds.elsewhere other (λ same. let wrong : None ≡ Some one = sym adds.free ∙ ap cells (sym same) ∙ is in cc);
    })
