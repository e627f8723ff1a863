use Rattle.std.proofs.Common.{◌≡◌, ◌∙◌, ℕ, ◌==◌, true, false, cond, ◌||◌, List, None}
use Rattle.std.proofs.lemmas.Bool.{cond-false, or_left}
use Rattle.hal_base.specs.declared.place.PartState.{PartState}
use Rattle.hal_schema.specs.declared.row.Row.{Row}
use Rattle.hal_schema.specs.declared.schema.Schema.{Schema}
use Rattle.hal_schema.specs.Facts.{IsKept}
use Rattle.hal_schema.specs.Forest.{has_length, is_forest}
use Rattle.volume_image.specs.Control.{cursor_fits, cursor_kind}
use Rattle.reorg_cursor.specs.State.{unit_refusal}
use Rattle.reorg_cursor.specs.Groups.{is_root_at, roots_at, unit_roots, stepped}
use Rattle.reorg_cursor.proofs.Fits.{FitsAt, fits_parts, fits_from, unit_active, resume_begun, started_fits, paused_fits, resumed_fits, ended_fits, cursor_at_fits}
use Rattle.reorg_cursor.proofs.Grouping.{marked_has, each_of, all_filter, filter_passes}
use Rattle.reorg_cursor.proofs.Marks.{mark_of}
use Rattle.reorg_cursor.proofs.RootOrder.{root_is, forest_parts}
use Rattle.reorg_cursor.proofs.UnitLemmas.{unit_among}
use Rattle.reorg_cursor.proofs.laws.states_fit.Goals as goal

-- an active state may have any cursor
standing_active : (state kind : ℕ) → (state == 73) ≡ false → (state == 67) ≡ true → cond (state == 73) (kind == 0) (state == 67 || state == 80) ≡ true
standing_active state kind e f = cond-false (state == 73) (kind == 0) (state == 67 || state == 80) e ∙ or_left (state == 67) (state == 80) f

stepped_fits : (schema : Schema) → IsKept schema → (place : ℕ) (rows : List Row) (s : PartState) (k : ℕ) → is_forest schema rows ≡ true → FitsAt schema place s → unit_refusal s ≡ None → FitsAt schema place (stepped schema place rows k s)
stepped_fits schema kept place rows s k forest at active =
    let roots = filter_passes (is_root_at schema place) rows in
    let long = all_filter (has_length schema.types) (is_root_at schema place) rows (forest_parts schema rows forest).lengths in
    let fit = each_of (is_root_at schema place) (has_length schema.types) (λ row. cursor_fits schema place at.part (mark_of schema row))
    (λ row root length. cursor_at_fits schema kept place at.part row at.is (root_is schema place row root) length) (roots_at schema place rows) roots long in
    let cursor = marked_has (mark_of schema) (cursor_fits schema place at.part) s.cursor (unit_roots schema place rows s.cursor k) at.cursor
    (unit_among schema place rows s.cursor k (λ row. cursor_fits schema place at.part (mark_of schema row)) fit) in
    record { part = at.part; is = at.is; of = at.of; from = at.from; most = at.most; side = at.side; standing = standing_active s.state (cursor_kind (stepped schema place rows k s).cursor) (unit_active s active).0 (unit_active s active).1; cursor = cursor }

pub returns : goal.returns
returns c = λ schema place rows s stands.
    let at = fits_parts schema place s stands.fits in
    record {
      start = λ h. fits_from schema place _ (started_fits schema place s at h);
      pause = λ h. fits_from schema place _ (paused_fits schema place s at (unit_active s h).0);
      resume = λ h. fits_from schema place _ (resumed_fits schema place s at (resume_begun s h));
      unit = λ k h. fits_from schema place _ (stepped_fits schema (c.schemas_are_kept.ensures schema) place rows s k stands.forest at h);
      end = λ h. fits_from schema place _ (ended_fits schema place s at (unit_active s h).0);
    }
