-- A walked partition keeps the rules 4 and 7.
use Rattle.std.proofs.Common.{◌≡◌, ℕ, ◌==◌, Bool, true, false, not, cond, ◌&&◌, List, [], ◌∷◌, length, Option, None, Some, refl, sym, ap, ◌∙◌}
use Rattle.std.specs.Prelude.{unwrap_or}
use Rattle.std.specs.Cmp.{IsTotalOrder}
use Rattle.std.specs.Int.{w32, to_be_bytes}
use Rattle.std.specs.List.{list_all, list_any, slice_get}
use Rattle.std.specs.Option.{option_map_or}
use Rattle.std.specs.Str.{bytes_eq}
use Rattle.std.proofs.lemmas.Bool.{and_parts, and_from, eqb-true, eq-eqb, not-true, true≢false, false≢true}
use Rattle.std.proofs.lemmas.Slice.Eq.{bytes_eq-Decides}
use Rattle.hal_schema.specs.declared.schema.PartDef.{PartDef}
use Rattle.hal_schema.specs.declared.schema.Schema.{Schema}
use Rattle.hal_schema.specs.Facts.{SchemasAreKept}
use Rattle.hal_schema.specs.Row.{same_name, row_key}
use Rattle.hal_schema.specs.Roots.{anchor_of, anchor_place, partition_of, partition_place, root_cmp}
use Rattle.hal_schema.specs.Forest.{all_pairs, names_apart, in_twin_order}
use Rattle.hal_schema.proofs.RowNames.{name_is}
use Rattle.forest_laws.proofs.Lists.{Among, among_passes, all_both}
use Rattle.forest_laws.proofs.Names.{same_some}
use Rattle.record_walk.specs.Tree.{Occurrence}
use Rattle.record_walk.specs.Listing.{Placed, placed, list_in}
use Rattle.record_walk.specs.Side.{heads_in, key_of, row_key_of, belongs, roots_rise}
use Rattle.record_walk.specs.Siblings.{twins_follow_in, SiblingsRise}
use Rattle.record_walk.proofs.Rising.{pairs_rows, root_codes}
use Rattle.volume_rules.proofs.SidesKept.{at_row}
use Rattle.volume_rules.specs.View.{Home, Homed, Segment, Stands, is_live, segment_key}
use Rattle.volume_rules.specs.Volume.{stands_in}
use Rattle.volume_rules.specs.Sides.{root_row_key, is_root_under, leads_to_root}
use Rattle.walked_rules.specs.Parts.{WalkedPart, IsWalkedPart, homed, view_of, root_sets_of}
use Rattle.walked_rules.specs.Laws.{WalkedRowsStand, WalkedPartsKeepRule4, WalkedNamesDiffer, WalkedPartsKeepRule7}
use Rattle.walked_rules.proofs.OnViews.{passing, rows_at, cell_of, all_homed, any_homed, pairs_homed, in_live}
use Rattle.walked_rules.proofs.RootsOfWalks.{roots_listed, root_rows, home_under, row_leads, root_has_row}

-- ---- keys

key_is : (schema : Schema) (root : Occurrence) (s : Segment) → s.code ≡ root.code → s.content ≡ root.content → segment_key schema.types s ≡ key_of schema root
key_is schema root s code content = λ i. row_key schema.types (record { name = s.name; code = code i; parent = None; content = content i })

place_is : (schema : Schema) (place : ℕ) (key : List ℕ) → option_map_or (λ (p : ℕ). p == place) (partition_of schema key) false ≡ true → partition_place schema key ≡ place
place_is schema place key h = by (partition_of schema key) h
  where
    by : (o : Option ℕ) → option_map_or (λ (p : ℕ). p == place) o false ≡ true → unwrap_or o (length schema.parts) ≡ place
    by None h = absurd (false≢true h)
    by (Some p) h = eqb-true p place h

module _ (schema : Schema) (p : WalkedPart) (defined : slice_get schema.parts p.place ≡ Some p.part) where
  row_key_is : (root : Occurrence) (s : Segment) → belongs schema p.place root ≡ true → segment_key schema.types s ≡ key_of schema root → root_row_key schema (view_of p) s ≡ row_key_of schema root
  row_key_is root s own e =
      ap (λ (k : List ℕ). cond schema.phdam (to_be_bytes w32 (anchor_of p.part.anchors k)) k) e ∙ by schema.phdam refl
    where
      by : (b : Bool) → schema.phdam ≡ b → cond b (to_be_bytes w32 (anchor_of p.part.anchors (key_of schema root))) (key_of schema root) ≡ cond b (to_be_bytes w32 (anchor_place schema (key_of schema root))) (key_of schema root)
      by false f = refl
      by true f =
          let at : slice_get schema.parts (partition_place schema (key_of schema root)) ≡ Some p.part = ap (slice_get schema.parts) (place_is schema p.place (key_of schema root) own) ∙ defined in
          ap (to_be_bytes w32)
          (sym (ap (λ (t : Bool). cond t (option_map_or (λ (d : PartDef). anchor_of d.anchors (key_of schema root)) (slice_get schema.parts (partition_place schema (key_of schema root))) 0) 0) f
          ∙ ap (λ (o : Option PartDef). option_map_or (λ (d : PartDef). anchor_of d.anchors (key_of schema root)) o 0) at))

-- ---- roots that stand

-- a root that stands in the view is one of the chains of its side
pub record RootAt (schema : Schema) (p : WalkedPart) (home : Home) (s : Segment) : Type 0 where
  pub live : is_live p.state home.number ≡ true
  pub root : Occurrence
  pub among : Among root (heads_in (p.trees home.number))
  pub at : root.home ≡ home.addr
  pub key : segment_key schema.types s ≡ key_of schema root

module _ (kept : SchemasAreKept) (rows : WalkedRowsStand) (schema : Schema) (p : WalkedPart) (walked : IsWalkedPart schema p) where
  -- a row of a live side stands in the view
  stands_at : (number : ℕ) → is_live p.state number ≡ true → (q : Placed) → Among q (list_in None (p.trees number)) → stands_in (view_of p) number (homed q) ≡ true
  stands_at number live q a =
      among_passes (λ r. stands_in (view_of p) number (homed r)) q (list_in None (p.trees number)) a
      (sym (all_homed (stands_in (view_of p) number) (list_in None (p.trees number))) ∙ ap (list_all (stands_in (view_of p) number)) (sym (rows_at p number live)) ∙ (rows schema p walked).stand number)

  root_at : (home : Home) (s : Segment) → Stands (view_of p) home s → s.code ≡ 1 → RootAt schema p home s
  root_at home s stands code =
      let live = (cell_of p home s stands.here).live in
      let r = passing (λ q. q.home == home.addr) (list_in None (p.trees home.number))
      (sym (any_homed (λ q. q.addr == home.addr) (list_in None (p.trees home.number))) ∙ ap (list_any (λ (q : Homed). q.addr == home.addr)) (sym (rows_at p home.number live)) ∙ (rows schema p walked).met home s stands) in
      let at : r.item.home ≡ home.addr = eqb-true r.item.home home.addr r.passes in
      let a = at_row (view_of p) home.number home.addr (homed r.item) (stands_at home.number live r.item r.among) at in
      let is : a.s ≡ s = same_some a.s s (sym a.here ∙ stands.here) in
      let one : s.code ≡ r.item.row.code = ap (λ (x : Segment). x.code) (sym is) ∙ a.words.code in
      let text : s.content ≡ r.item.row.content = ap (λ (x : Segment). x.content) (sym is) ∙ a.words.content in
      let h = root_rows kept schema (p.trees home.number) (walked home.number live).walked.typed r.item r.among (sym one ∙ code) in
      record {
        live = live;
        root = h.root;
        among = h.among;
        at = ap (λ (q : Placed). q.home) h.is ∙ at;
        key = key_is schema h.root s (one ∙ ap (λ (q : Placed). q.row.code) (sym h.is)) (text ∙ ap (λ (q : Placed). q.row.content) (sym h.is));
      }

-- ---- rule 4

pub walked_parts_keep_rule_4 : SchemasAreKept → ((schema : Schema) → IsTotalOrder (root_cmp schema)) → WalkedRowsStand → WalkedPartsKeepRule4
walked_parts_keep_rule_4 kept total rows schema p walked defined = record { lead = lead; each = each }
  where
    -- the row leads to the root that stands at its home
    to_root : (number : ℕ) (key : List ℕ) (addr : ℕ) → is_live p.state number ≡ true → home_under key (p.roots number) ≡ Some addr → leads_to_root schema (view_of p) number key addr ≡ true
    to_root number key addr live e =
        let w = walked number live in
        let l = row_leads schema (p.roots number) (p.trees number) w.walked.rows_lead w.walked.rows_are_keyed w.rows_are_used key addr e in
        let u = l.root in
        let a = at_row (view_of p) number addr (homed (placed None u)) (stands_at kept rows schema p walked number live (placed None u) (roots_listed (p.trees number) u l.among)) l.at in
        let is_key = row_key_is schema p defined u a.s (among_passes (belongs schema p.place) u (heads_in (p.trees number)) l.among w.walked.roots_belong) (key_is schema u a.s a.words.code a.words.content) in
        ap (λ (o : Option Segment). option_map_or (is_root_under schema (view_of p) key) o false) a.here
        ∙ and_from (not a.s.copied && a.s.code == 1) (bytes_eq (root_row_key schema (view_of p) a.s) key)
        (and_from (not a.s.copied) (a.s.code == 1) (ap not a.words.uncopied) (eq-eqb a.s.code 1 (a.words.code ∙ sym (root_codes schema.types (p.trees number) w.walked.typed u l.among))))
        ((bytes_eq-Decides (root_row_key schema (view_of p) a.s) key).1 (is_key ∙ l.keyed))

    lead : (number : ℕ) (key : List ℕ) (addr : ℕ) → root_sets_of p number key ≡ Some addr → leads_to_root schema (view_of p) number key addr ≡ true
    lead number key addr h = by (is_live p.state number) refl h
      where
        by : (b : Bool) → is_live p.state number ≡ b → cond b (home_under key (p.roots number)) None ≡ Some addr → leads_to_root schema (view_of p) number key addr ≡ true
        by true live e = to_root number key addr live e
        by false live e = cc

    each : schema.phdam ≡ false → (home : Home) (s : Segment) → Stands (view_of p) home s → s.code ≡ 1 → root_sets_of p home.number (root_row_key schema (view_of p) s) ≡ Some home.addr
    each phidam home s stands code =
        let r = root_at kept rows schema p walked home s stands code in
        let w = walked home.number r.live in
        let is_key = row_key_is schema p defined r.root s (among_passes (belongs schema p.place) r.root (heads_in (p.trees home.number)) r.among w.walked.roots_belong) r.key in
        ap (λ (b : Bool). cond b (home_under (root_row_key schema (view_of p) s) (p.roots home.number)) None) r.live
        ∙ ap (λ (k : List ℕ). home_under k (p.roots home.number)) is_key
        ∙ root_has_row schema (total schema) phidam (p.roots home.number) (p.trees home.number) w.walked.rows_lead w.walked.rows_are_keyed w.rows_are_used w.walked.roots_are_rising r.root r.among
        ∙ ap (λ (n : ℕ). Some n) r.at

-- ---- rule 7

pub walked_parts_keep_rule_7 : SchemasAreKept → WalkedRowsStand → SiblingsRise → WalkedPartsKeepRule7
walked_parts_keep_rule_7 kept rows siblings schema p walked names follow = record {
  belong = λ home s stands code.
      let r = root_at kept rows schema p walked home s stands code in
      ap (λ (k : List ℕ). option_map_or (λ (n : ℕ). n == p.place) (partition_of schema k) false) r.key
      ∙ among_passes (belongs schema p.place) r.root (heads_in (p.trees home.number)) r.among (walked home.number r.live).walked.roots_belong;
  twins = λ number. in_live p (all_pairs (λ a b. in_twin_order schema a.row b.row)) refl number (λ live.
      let w = walked number live in
      pairs_homed (λ a b. in_twin_order schema a.row b.row) (list_in None (p.trees number)) ∙ sym (pairs_rows (in_twin_order schema) (list_in None (p.trees number)))
      ∙ (siblings schema (p.trees number) w.walked.typed (names number live)).twins
      ∙ and_from (roots_rise schema (heads_in (p.trees number))) (twins_follow_in schema (p.trees number)) w.walked.roots_are_rising (follow number live));
}

-- ---- names

pub walked_names_differ : WalkedRowsStand → WalkedNamesDiffer
walked_names_differ rows schema p walked rule6 number live =
    pairs_rows names_apart (list_in None (p.trees number))
    ∙ differ (list_in None (p.trees number))
    (sym (all_homed (stands_in (view_of p) number) (list_in None (p.trees number))) ∙ ap (list_all (stands_in (view_of p) number)) (sym (rows_at p number live)) ∙ (rows schema p walked).stand number)
    (sym (pairs_homed (λ a b. not (a.addr == b.addr)) (list_in None (p.trees number))) ∙ ap (all_pairs (λ (a b : Homed). not (a.addr == b.addr))) (sym (rows_at p number live)) ∙ (rows schema p walked).once number)
  where
    -- two rows of one name stand at one home
    two : (a b : Placed) → stands_in (view_of p) number (homed a) ≡ true → stands_in (view_of p) number (homed b) ≡ true → not (a.home == b.home) ≡ true → names_apart a.row b.row ≡ true
    two a b here there apart = by (same_name a.row.name b.row.name) refl
      where
        by : (t : Bool) → same_name a.row.name b.row.name ≡ t → not t ≡ true
        by false e = refl
        by true e =
            let x = at_row (view_of p) number a.home (homed a) here refl in
            let y = at_row (view_of p) number b.home (homed b) there refl in
            let one = rule6.distinct (record { number = number; addr = a.home }) (record { number = number; addr = b.home }) x.s y.s (record { here = x.here; uncopied = x.words.uncopied }) (record { here = y.here; uncopied = y.words.uncopied })
            (x.words.name ∙ name_is a.row.name b.row.name e ∙ sym y.words.name) in
            absurd (true≢false (sym (eq-eqb a.home b.home (ap (λ (h : Home). h.addr) one)) ∙ not-true (a.home == b.home) apart))

    differ : (list : List Placed) → list_all (λ q. stands_in (view_of p) number (homed q)) list ≡ true → all_pairs (λ (a b : Placed). not (a.home == b.home)) list ≡ true
        → all_pairs (λ (a b : Placed). names_apart a.row b.row) list ≡ true
    differ [] stand once = refl
    differ (a ∷ list) stand once =
        let s = and_parts (stands_in (view_of p) number (homed a)) (list_all (λ q. stands_in (view_of p) number (homed q)) list) stand in
        let o = and_parts (list_all (λ (b : Placed). not (a.home == b.home)) list) (all_pairs (λ (a b : Placed). not (a.home == b.home)) list) once in
        and_from (list_all (λ (b : Placed). names_apart a.row b.row) list) (all_pairs (λ (a b : Placed). names_apart a.row b.row) list)
        (all_both (λ (b : Placed). stands_in (view_of p) number (homed b)) (λ b. not (a.home == b.home)) (λ b. names_apart a.row b.row) (λ b there apart. two a b s.0 there apart) list s.1 o.0) (differ list s.1 o.1)
