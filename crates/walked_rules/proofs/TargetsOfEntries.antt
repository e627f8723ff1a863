-- The target of an entry stands in the record of the entry's root key.
use Rattle.std.proofs.Common.{◌≡◌, ℕ, ◌==◌, Bool, true, false, not, ◌&&◌, ◌||◌, List, [], ◌∷◌, ◌++◌, Option, None, Some, refl, sym, ap, ◌∙◌}
use Rattle.std.specs.List.{list_all, AllByRecursion}
use Rattle.std.specs.Option.{option_map_or}
use Rattle.std.specs.Str.{bytes_eq}
use Rattle.std.proofs.lemmas.Bool.{eqb-true, and_parts, not-true, false≢true}
use Rattle.hal_schema.specs.declared.schema.SegType.{SegType}
use Rattle.hal_schema.specs.Entry.{Entry, entries_of}
use Rattle.hal_schema.specs.Row.{same_name, row_key}
use Rattle.forest_laws.proofs.Lists.{among_passes, all_weaker}
use Rattle.forest_laws.proofs.Names.{same_some}
use Rattle.record_walk.specs.InRecords.{root_above, hangs_by}
use Rattle.volume_rules.specs.View.{Home, Homed, Segment, View}
use Rattle.volume_rules.specs.Target.{is_own, bears}
use Rattle.volume_rules.specs.Volume.{RowsStand, stands_in, forest_of}
use Rattle.volume_rules.proofs.SidesKept.{at_row}
use Rattle.walked_rules.specs.Parts.{WalkedPart, IsWalkedPart, view_of, volume_of}
use Rattle.walked_rules.proofs.OnViews.{passing}
use Rattle.walked_rules.specs.Laws.{WalkedRowsStand, WalkedEntriesHang, leads_to_record, WalkedTargetsHang}

-- the segment that bears a name
record Bearing (view : View) (home : Home) (entry : Entry) : Type 0 where
  pub s : Segment
  pub here : view.segments home ≡ Some s
  pub uncopied : s.copied ≡ false
  pub named : same_name s.name entry.target ≡ true

bearing : (view : View) (home : Home) (entry : Entry) (code : ℕ) → bears view entry.target code home ≡ true → Bearing view home entry
bearing view home entry code h = by (view.segments home) refl h
  where
    by : (o : Option Segment) → view.segments home ≡ o → option_map_or (is_own entry.target code) o false ≡ true → Bearing view home entry
    by None e h = absurd (false≢true h)
    by (Some s) e h =
        let p = and_parts (not s.copied && s.code == code) (same_name s.name entry.target) h in
        let q = and_parts (not s.copied) (s.code == code) p.0 in
        record { s = s; here = e; uncopied = not-true s.copied q.0; named = p.1 }

abbrev key_above : List SegType → View → Entry → ℕ → ℕ → Bool
key_above types view entry number addr = option_map_or (λ root. bytes_eq (row_key types root) entry.root) (root_above (λ (r : Homed). r.addr) (λ (r : Homed). r.row) None (view.rows number) addr) false

leads : (types : List SegType) (view : View) → RowsStand view → (home : Home) (code : ℕ) (entry : Entry)
    → list_all (hangs_by types (λ (r : Homed). r.addr) (λ (r : Homed). r.row) (view.rows home.number) entry) (view.rows home.number) ≡ true → leads_to_record types view home code entry ≡ true
leads types view rows home code entry hang = by (bears view entry.target code home) refl
  where
    by : (b : Bool) → bears view entry.target code home ≡ b → (not b || key_above types view entry home.number home.addr) ≡ true
    by false e = refl
    by true e =
        let t = bearing view home entry code e in
        let r = passing (λ q. q.addr == home.addr) (view.rows home.number) (rows.met home t.s (record { here = t.here; uncopied = t.uncopied })) in
        let at : r.item.addr ≡ home.addr = eqb-true r.item.addr home.addr r.passes in
        let a = at_row view home.number home.addr r.item (among_passes (stands_in view home.number) r.item (view.rows home.number) r.among (rows.stand home.number)) at in
        let same : t.s ≡ a.s = same_some t.s a.s (sym t.here ∙ a.here) in
        let named : same_name r.item.row.name entry.target ≡ true = ap (λ n. same_name n entry.target) (sym (ap (λ (s : Segment). s.name) same ∙ a.words.name)) ∙ t.named in
        let own = among_passes (hangs_by types (λ (q : Homed). q.addr) (λ (q : Homed). q.row) (view.rows home.number) entry) r.item (view.rows home.number) r.among hang in
        ap (key_above types view entry home.number) (sym at) ∙ sym (ap (λ (b : Bool). not b || key_above types view entry home.number r.item.addr) named) ∙ own

pub walked_targets_hang : WalkedRowsStand → WalkedEntriesHang → WalkedTargetsHang
walked_targets_hang rows hang schema front behind p indexes index home walks names =
    all_weaker (λ entry. list_all (hangs_by schema.types (λ (r : Homed). r.addr) (λ (r : Homed). r.row) ((view_of p).rows home.number) entry) ((view_of p).rows home.number))
    (leads_to_record schema.types (view_of p) home index.target) (leads schema.types (view_of p) (rows schema p (part_among front walks)) home index.target)
    (entries_of schema.types index (forest_of (volume_of (front ++ p ∷ behind) indexes))) (hang schema front behind p indexes index home.number walks names)
  where
    part_among : (l : List WalkedPart) → AllByRecursion (IsWalkedPart schema) (l ++ p ∷ behind) → IsWalkedPart schema p
    part_among [] h = h.0
    part_among (x ∷ l) h = part_among l (h.1)
