-- The rows of a walked partition are its segments.
use Rattle.std.proofs.Common.{◌≡◌, ℕ, ◌==◌, true, false, not, None, refl, ap, ◌∙◌}
use Rattle.std.specs.List.{list_all, list_any}
use Rattle.std.specs.Option.{option_map_or}
use Rattle.hal_schema.specs.Forest.{all_pairs}
use Rattle.forest_laws.proofs.Lists.{all_weaker}
use Rattle.record_walk.specs.Listing.{list_in}
use Rattle.record_walk.specs.InRecords.{is_cell_of, SidesListTheirCells, ListsItsCells}
use Rattle.volume_rules.specs.View.{Homed, Segment, is_live}
use Rattle.volume_rules.specs.Volume.{is_segment_of, stands_in}
use Rattle.walked_rules.specs.Parts.{homed, view_of}
use Rattle.walked_rules.specs.Laws.{WalkedRowsStand}
use Rattle.walked_rules.proofs.OnViews.{segment_at, rows_at, cell_of, all_homed, any_homed, pairs_homed, in_live, stands_so}

pub walked_rows_stand : SidesListTheirCells → WalkedRowsStand
walked_rows_stand lists schema p walked = record {
  stand = λ number. in_live p (list_all (stands_in (view_of p) number)) refl number (λ live.
      all_homed (stands_in (view_of p) number) (list_in None (p.trees number))
      ∙ all_weaker (λ q. option_map_or (is_cell_of q.row) (p.cells number q.home) false) (λ q. stands_in (view_of p) number (homed q))
      (λ q h. ap (λ o. option_map_or (is_segment_of q.row) o false) (segment_at p (record { number = number; addr = q.home }) live) ∙ stands_so q.row (p.cells number q.home) ∙ h)
      (list_in None (p.trees number)) (own number live).stand);
  met = λ home s stands.
      let c = cell_of p home s stands.here in
      ap (list_any (λ (r : Homed). r.addr == home.addr)) (rows_at p home.number c.live) ∙ any_homed (λ r. r.addr == home.addr) (list_in None (p.trees home.number))
      ∙ (own home.number c.live).met home.addr c.cell c.here (ap (λ (x : Segment). x.copied) c.is ∙ stands.uncopied);
  once = λ number. in_live p (all_pairs (λ a b. not (a.addr == b.addr))) refl number (λ live.
      pairs_homed (λ a b. not (a.addr == b.addr)) (list_in None (p.trees number)) ∙ (own number live).once);
}
  where
    own : (number : ℕ) → is_live p.state number ≡ true → ListsItsCells (p.cells number) (list_in None (p.trees number))
    own number live = lists schema p.place (p.cells number) (p.roots number) (p.trees number) (walked number live)
