-- A changed side is a side again.
use Rattle.std.proofs.Common.{◌≡◌, ◌≢◌, ℕ, zero, suc, ◌+◌, ◌<◌, ◌≤◌, ◌==◌, Bool, true, false, not, cond, ◌&&◌, ◌||◌, if◌then◌else◌, List, [], ◌∷◌, ◌++◌, length, map, insert, slice_get, Option, None, Some, ◌⊎◌, inl, inr, refl, sym, ap, subst, ◌∙◌, arith}
use Rattle.std.specs.Prelude.{slice_set, ⊤}
use Rattle.std.specs.Int.{w32, to_be_bytes}
use Rattle.std.specs.List.{list_all, remove}
use Rattle.std.specs.Option.{option_map, option_map_or}
use Rattle.std.specs.Ordering.{is_lt}
use Rattle.std.specs.Str.{bytes_eq}
use Rattle.std.proofs.lemmas.Bool.{and_parts, and_from, eqb-true, eqb-false, false≢true, true≢false}
use Rattle.hal_schema.specs.declared.schema.SegType.{SegType}
use Rattle.hal_schema.specs.declared.schema.Schema.{Schema}
use Rattle.hal_schema.specs.Facts.{SchemasAreKept}
use Rattle.hal_schema.specs.Forest.{all_pairs}
use Rattle.hal_schema.specs.Roots.{anchor_place, root_cmp, partition_of}
use Rattle.segment_blocks.specs.declared.tile.Cell.{Cell}
use Rattle.forest_laws.proofs.Lists.{all_append, all_parts, all_weaker, pairs_parts, pairs_join}
use Rattle.record_walk.specs.Tree.{Occurrence, Twins, no_segment, segment, Chains, no_chain, chain, firsts_of, cell_of, Hangs, HangIn, here, times, times_in, are_of, are_roots}
use Rattle.record_walk.specs.Pointers.{Pointer, Behind, Below, Root, with_chain, at_home, in_home, before_twins, behind_first, with_segment, without_segment, with_content_at}
use Rattle.record_walk.specs.Side.{RootRow, alone, seen, heads_of, heads_in, key_of, row_key_of, are_keyed, belongs, roots_rise, IsWalked}
use Rattle.record_walk.specs.Changes.{stands_in, set_in_cell, set_in_rows, new_cell, set_content, IsSet}
use Rattle.record_walk.specs.Spans.{AreRecords, IsIn}
use Rattle.record_walk.specs.Records.{code_behind}
use Rattle.record_walk.specs.Roots.{has_twins, with_row, without_row}
use Rattle.record_walk.specs.SideChanges.{leads_in, IsInSide, set_home, set_in_root_rows, segment_in, FitsAsRoot, SetsPointer, kinds_of, ChangedSides}
use Rattle.record_walk.proofs.Homes.{here_itself, at_or_off, met_stands_in}
use Rattle.record_walk.proofs.Levels.{typed}
use Rattle.record_walk.proofs.OnLists.{deepens, chain_of}
use Rattle.record_walk.proofs.KeptRecords.{new_segments_keep_records, cuts_keep_records, replaced_content_keeps_records, met_of, bare_met, content_met_in}
use Rattle.record_walk.proofs.RootRows.{seen_follows, came, gone, came_hangs, came_firsts, gone_hangs, gone_firsts}
use Rattle.record_walk.proofs.RecordOf.{bytes_itself}
use Rattle.record_walk.proofs.ListedCells.{seen_of}

abbrev homes : List RootRow → List ℕ
homes rows = map (λ (row : RootRow). row.home) rows

pub records_of : (schema : Schema) (place : ℕ) (cells : ℕ → Option Cell) (rows : List RootRow) (trees : Chains) → IsWalked schema place cells rows trees → AreRecords schema (seen schema.phdam cells) (homes rows) trees
records_of schema place cells rows trees w = record { from = record { hang = w.hangs; first = w.rows_lead }; typed = w.typed; once = w.once }

none_some : (cell : Cell) → None ≡ Some cell → ⊥
none_some cell e = cc

pub some_is : (a b : Cell) → Some a ≡ Some b → a ≡ b
some_is a b e = cc

pub some_home : (a b : ℕ) → Some a ≡ Some b → a ≡ b
some_home a b e = cc

-- ---- rows of the root set

set_leads : (pointer : Pointer) (to : ℕ) (rows : List RootRow) → homes (set_in_root_rows pointer to rows) ≡ set_in_rows pointer to (homes rows)
set_leads (Behind prior) to rows = refl
set_leads (Below above place) to rows = refl
set_leads (Root place) to rows = at place rows
  where
    at : (k : ℕ) (l : List RootRow) → homes (set_home k to l) ≡ slice_set (homes l) k to
    at zero [] = refl
    at (suc k) [] = refl
    at zero (row ∷ l) = refl
    at (suc k) (row ∷ l) = ap (λ (m : List ℕ). row.home ∷ m) (at k l)

set_keys : (schema : Schema) (pointer : Pointer) (to : ℕ) (rows : List RootRow) (trees : Chains) → are_keyed schema (set_in_root_rows pointer to rows) trees ≡ are_keyed schema rows trees
set_keys schema (Behind prior) to rows trees = refl
set_keys schema (Below above place) to rows trees = refl
set_keys schema (Root place) to rows trees = at place rows trees
  where
    at : (k : ℕ) (l : List RootRow) (t : Chains) → are_keyed schema (set_home k to l) t ≡ are_keyed schema l t
    at zero [] t = refl
    at (suc k) [] t = refl
    at zero (row ∷ l) no_chain = refl
    at zero (row ∷ l) (chain twins more) = refl
    at (suc k) (row ∷ l) no_chain = refl
    at (suc k) (row ∷ l) (chain twins more) = ap (λ (b : Bool). list_all (λ root. bytes_eq (row_key_of schema root) row.key) (heads_of twins) && b) (at k l more)

-- ---- what stood before at a home where a cell stands that isn't copied

record Was (cells : ℕ → Option Cell) (home : ℕ) : Type 0 where
  pub cell : Cell
  pub is : cells home ≡ Some cell
  pub kept : cell.copied ≡ false

same_was : (cells now : ℕ → Option Cell) (home : ℕ) (cell : Cell) → now home ≡ cells home → now home ≡ Some cell → cell.copied ≡ false → Was cells home
same_was cells now home cell e is kept = record { cell = cell; is = sym e ∙ is; kept = kept }

mapped_was : (f : Cell → Cell) → ((c : Cell) → (f c).copied ≡ c.copied) → (cells now : ℕ → Option Cell) (home : ℕ) (cell : Cell) → now home ≡ option_map f (cells home) → now home ≡ Some cell → cell.copied ≡ false → Was cells home
mapped_was f same cells now home cell e is kept = by (cells home) refl (sym e ∙ is)
  where
    by : (o : Option Cell) → cells home ≡ o → option_map f o ≡ Some cell → Was cells home
    by None q h = absurd (none_some cell h)
    by (Some c) q h = record { cell = c; is = q; kept = sym (same c) ∙ ap (λ (x : Cell). x.copied) (some_is (f c) cell h) ∙ kept }

was_there : (pointer : Pointer) (to : ℕ) (cells now : ℕ → Option Cell) (stay : ℕ → Type 0) → SetsPointer pointer to cells now stay → (home : ℕ) (cell : Cell) → stay home → now home ≡ Some cell → cell.copied ≡ false → Was cells home
was_there (Behind prior) to cells now stay s home cell st is kept = by (prior == home) refl
  where
    by : (b : Bool) → (prior == home) ≡ b → Was cells home
    by true e = mapped_was (set_in_cell (Behind prior) to) (λ c. refl) cells now home cell (s.set home (ap (λ (n : ℕ). Some n) (eqb-true prior home e))) is kept
    by false e = same_was cells now home cell (s.others home st (λ q. eqb-false prior home e (some_home prior home q))) is kept
was_there (Below above place) to cells now stay s home cell st is kept = by (above == home) refl
  where
    by : (b : Bool) → (above == home) ≡ b → Was cells home
    by true e = mapped_was (set_in_cell (Below above place) to) (λ c. refl) cells now home cell (s.set home (ap (λ (n : ℕ). Some n) (eqb-true above home e))) is kept
    by false e = same_was cells now home cell (s.others home st (λ q. eqb-false above home e (some_home above home q))) is kept
was_there (Root place) to cells now stay s home cell st is kept = same_was cells now home cell (s.others home st (λ q. none_home q)) is kept
  where
    none_home : None ≡ Some home → ⊥
    none_home q = cc

-- ---- the pointer as the walk sees it

twins_seen : (schema : Schema) (cells now : ℕ → Option Cell) (firsts : List ℕ) (trees : Chains) (pointer : Pointer) (to : ℕ) → HangIn (seen schema.phdam cells) trees → IsIn pointer (seen schema.phdam cells) firsts trees
    → ((prior : ℕ) (cell : Cell) → pointer ≡ Behind prior → cells prior ≡ Some cell → has_twins schema.phdam cell.code ≡ true) → ((home : ℕ) → stands_in pointer ≡ Some home → now home ≡ option_map (set_in_cell pointer to) (cells home))
    → (home : ℕ) → stands_in pointer ≡ Some home → seen schema.phdam now home ≡ option_map (set_in_cell pointer to) (seen schema.phdam cells home)
twins_seen schema cells now firsts trees (Behind prior) to hang within twins set home e =
    let there = met_stands_in (seen schema.phdam cells) prior trees hang (within.met prior refl) in
    let o = seen_of schema.phdam cells prior there.cell there.is in
    subst (λ (n : ℕ). seen schema.phdam now n ≡ option_map (set_in_cell (Behind prior) to) (seen schema.phdam cells n)) (some_home prior home e)
    (seen_follows.twin schema.phdam cells now prior to o.is o.stands (twins prior o.is refl o.stands) (set prior refl))
twins_seen schema cells now firsts trees (Below above place) to hang within twins set home e =
    subst (λ (n : ℕ). seen schema.phdam now n ≡ option_map (set_in_cell (Below above place) to) (seen schema.phdam cells n)) (some_home above home e) (seen_follows.child schema.phdam cells now above place to (set above refl))
twins_seen schema cells now firsts trees (Root place) to hang within twins set home e = absurd (none_home e)
  where
    none_home : None ≡ Some home → ⊥
    none_home q = cc

-- ---- roots of changed trees: an insertion

-- what a test of a new root owes behind a root that passes it
abbrev Passes : List SegType → (ℕ → Option Cell) → ℕ → Occurrence → (Occurrence → Bool) → Type 0
Passes types cells prior new test = (s : Occurrence) (below : Chains) (next : Twins) → s.home ≡ prior → Hangs cells (segment s below next) → s.code ≡ 1 → test s ≡ true → test new ≡ true

grown_chain : (types : List SegType) (cells : ℕ → Option Cell) (prior kinds : ℕ) (new : Occurrence) (test : Occurrence → Bool) → Passes types cells prior new test → (twins : Twins) → are_of types 1 twins ≡ true → Hangs cells twins → list_all test (heads_of twins) ≡ true
    → list_all test (heads_of (at_home prior (λ s below next. segment s below (before_twins new kinds next)) twins)) ≡ true
grown_chain types cells prior kinds new test passes no_segment h hang all = refl
grown_chain types cells prior kinds new test passes (segment s below next) h hang all =
    let t = typed types 1 s below next h in
    let p = and_parts (test s) (list_all test (heads_of next)) all in
    by (s.home == prior) refl p.0 p.1 (λ e. passes s below next e hang t.code_is p.0) (grown_chain types cells prior kinds new test passes next t.later (hang.3) p.1)
  where
    by : (b : Bool) → (s.home == prior) ≡ b → test s ≡ true → list_all test (heads_of next) ≡ true → (s.home ≡ prior → test new ≡ true) → list_all test (heads_of (at_home prior (λ s below next. segment s below (before_twins new kinds next)) next)) ≡ true
        → list_all test
        (heads_of
        (if b then segment s below (before_twins new kinds next)
        else segment s (in_home prior (λ s below next. segment s below (before_twins new kinds next)) below) (at_home prior (λ s below next. segment s below (before_twins new kinds next)) next))) ≡ true
    by true e own rest one on = and_from (test s) (test new && list_all test (heads_of next)) own (and_from (test new) (list_all test (heads_of next)) (one (eqb-true s.home prior e)) rest)
    by false e own rest one on = and_from (test s) (list_all test (heads_of (at_home prior (λ s below next. segment s below (before_twins new kinds next)) next))) own on

-- a change that keeps a segment and its next twins keeps the roots of a chain
heads_below : (home : ℕ) (edit : Occurrence → Chains → Twins → Twins) → ((s : Occurrence) (below : Chains) (next : Twins) → heads_of (edit s below next) ≡ s ∷ heads_of next) → (twins : Twins) → heads_of (at_home home edit twins) ≡ heads_of twins
heads_below home edit keeps no_segment = refl
heads_below home edit keeps (segment s below next) = by (s.home == home) (heads_below home edit keeps next)
  where
    by : (b : Bool) → heads_of (at_home home edit next) ≡ heads_of next → heads_of (if b then edit s below next else segment s (in_home home edit below) (at_home home edit next)) ≡ s ∷ heads_of next
    by true rest = keeps s below next
    by false rest = ap (λ (l : List Occurrence). s ∷ l) rest

below_keyed : (schema : Schema) (home : ℕ) (edit : Occurrence → Chains → Twins → Twins) → ((s : Occurrence) (below : Chains) (next : Twins) → heads_of (edit s below next) ≡ s ∷ heads_of next) → (rows : List RootRow) (trees : Chains)
    → are_keyed schema rows (in_home home edit trees) ≡ are_keyed schema rows trees
below_keyed schema home edit keeps [] no_chain = refl
below_keyed schema home edit keeps [] (chain twins more) = refl
below_keyed schema home edit keeps (row ∷ rows) no_chain = refl
below_keyed schema home edit keeps (row ∷ rows) (chain twins more) =
    ap (λ (l : List Occurrence). list_all (λ root. bytes_eq (row_key_of schema root) row.key) l && are_keyed schema rows (in_home home edit more)) (heads_below home edit keeps twins)
    ∙ ap (λ (b : Bool). list_all (λ root. bytes_eq (row_key_of schema root) row.key) (heads_of twins) && b) (below_keyed schema home edit keeps rows more)

grown_keyed : (schema : Schema) (cells : ℕ → Option Cell) (pointer : Pointer) (new : Occurrence) (kinds : ℕ) → ((prior : ℕ) → pointer ≡ Behind prior → (key : List ℕ) → Passes schema.types cells prior new (λ root. bytes_eq (row_key_of schema root) key))
    → (rows : List RootRow) (trees : Chains) → ((at : ℕ) (row : RootRow) → pointer ≡ Root at → slice_get rows at ≡ Some row → bytes_eq (row_key_of schema new) row.key ≡ true) → are_roots schema.types trees ≡ true → HangIn cells trees → are_keyed schema rows trees ≡ true
    → are_keyed schema rows (with_segment pointer new kinds trees) ≡ true
grown_keyed schema cells (Behind prior) new kinds passes rows trees heads h hang keyed = each rows trees h hang keyed
  where
    each : (l : List RootRow) (t : Chains) → are_roots schema.types t ≡ true → HangIn cells t → are_keyed schema l t ≡ true → are_keyed schema l (in_home prior (λ s below next. segment s below (before_twins new kinds next)) t) ≡ true
    each [] no_chain h hang keyed = keyed
    each [] (chain twins more) h hang keyed = absurd (false≢true keyed)
    each (row ∷ l) no_chain h hang keyed = absurd (false≢true keyed)
    each (row ∷ l) (chain twins more) h hang keyed =
        let test : Occurrence → Bool = λ root. bytes_eq (row_key_of schema root) row.key in
        let p = and_parts (are_of schema.types 1 twins) (are_roots schema.types more) h in
        let q = and_parts (list_all test (heads_of twins)) (are_keyed schema l more) keyed in
        and_from (list_all test (heads_of (at_home prior (λ s below next. segment s below (before_twins new kinds next)) twins))) (are_keyed schema l (in_home prior (λ s below next. segment s below (before_twins new kinds next)) more))
        (grown_chain schema.types cells prior kinds new test (passes prior refl row.key) twins p.0 (hang.0) q.0) (each l more p.1 (hang.1) q.1)
grown_keyed schema cells (Below above place) new kinds passes rows trees heads h hang keyed = below_keyed schema above (λ s below next. segment s (with_chain place (before_twins new kinds) below) next) (λ s below next. refl) rows trees ∙ keyed
grown_keyed schema cells (Root place) new kinds passes rows trees heads h hang keyed = each place rows trees (λ row e. heads place row refl e) keyed
  where
    each : (k : ℕ) (l : List RootRow) (t : Chains) → ((row : RootRow) → slice_get l k ≡ Some row → bytes_eq (row_key_of schema new) row.key ≡ true) → are_keyed schema l t ≡ true → are_keyed schema l (with_chain k (before_twins new kinds) t) ≡ true
    each k [] no_chain head keyed = keyed
    each k [] (chain twins more) head keyed = absurd (false≢true keyed)
    each k (row ∷ l) no_chain head keyed = absurd (false≢true keyed)
    each zero (row ∷ l) (chain twins more) head keyed =
        let test : Occurrence → Bool = λ root. bytes_eq (row_key_of schema root) row.key in
        let q = and_parts (list_all test (heads_of twins)) (are_keyed schema l more) keyed in
        and_from (test new && list_all test (heads_of twins)) (are_keyed schema l more) (and_from (test new) (list_all test (heads_of twins)) (head row refl) q.0) q.1
    each (suc k) (row ∷ l) (chain twins more) head keyed =
        let test : Occurrence → Bool = λ root. bytes_eq (row_key_of schema root) row.key in
        let q = and_parts (list_all test (heads_of twins)) (are_keyed schema l more) keyed in
        and_from (list_all test (heads_of twins)) (are_keyed schema l (with_chain k (before_twins new kinds) more)) q.0 (each k l more head q.1)

below_heads : (home : ℕ) (edit : Occurrence → Chains → Twins → Twins) → ((s : Occurrence) (below : Chains) (next : Twins) → heads_of (edit s below next) ≡ s ∷ heads_of next) → (trees : Chains) → heads_in (in_home home edit trees) ≡ heads_in trees
below_heads home edit keeps no_chain = refl
below_heads home edit keeps (chain twins more) = ap (λ (l : List Occurrence). l ++ heads_in (in_home home edit more)) (heads_below home edit keeps twins) ∙ ap (λ (l : List Occurrence). heads_of twins ++ l) (below_heads home edit keeps more)

grown_pass : (types : List SegType) (cells : ℕ → Option Cell) (pointer : Pointer) (new : Occurrence) (kinds : ℕ) (test : Occurrence → Bool) → (code_behind types pointer cells ≡ Some 1 → test new ≡ true) → (trees : Chains) → are_roots types trees ≡ true → HangIn cells trees
    → list_all test (heads_in trees) ≡ true → list_all test (heads_in (with_segment pointer new kinds trees)) ≡ true
grown_pass types cells (Behind prior) new kinds test passes no_chain h hang all = refl
grown_pass types cells (Behind prior) new kinds test passes (chain twins more) h hang all =
    let p = and_parts (are_of types 1 twins) (are_roots types more) h in
    let q = all_parts test (heads_of twins) (heads_in more) all in
    all_append test (heads_of (at_home prior (λ s below next. segment s below (before_twins new kinds next)) twins)) (heads_in (in_home prior (λ s below next. segment s below (before_twins new kinds next)) more))
    (grown_chain types cells prior kinds new test (λ s below next e there one own. passes (ap (option_map (λ (cell : Cell). cell.code)) (ap cells (sym e) ∙ there.1) ∙ ap (λ (n : ℕ). Some n) one)) twins p.0 (hang.0) q.0)
    (grown_pass types cells (Behind prior) new kinds test passes more p.1 (hang.1) q.1)
grown_pass types cells (Below above place) new kinds test passes trees h hang all = ap (list_all test) (below_heads above (λ s below next. segment s (with_chain place (before_twins new kinds) below) next) (λ s below next. refl) trees) ∙ all
grown_pass types cells (Root place) new kinds test passes trees h hang all = each place trees all
  where
    each : (k : ℕ) (t : Chains) → list_all test (heads_in t) ≡ true → list_all test (heads_in (with_chain k (before_twins new kinds) t)) ≡ true
    each k no_chain all = refl
    each zero (chain twins more) all = and_from (test new) (list_all test (heads_of twins ++ heads_in more)) (passes refl) all
    each (suc k) (chain twins more) all = let q = all_parts test (heads_of twins) (heads_in more) all in all_append test (heads_of twins) (heads_in (with_chain k (before_twins new kinds) more)) q.0 (each k more q.1)

-- a new segment of another type is no root
unmoved_chain : (types : List SegType) (cells : ℕ → Option Cell) (prior kinds : ℕ) (new : Occurrence) → (code_behind types (Behind prior) cells ≡ Some 1 → ⊥) → (twins : Twins) → are_of types 1 twins ≡ true → Hangs cells twins
    → heads_of (at_home prior (λ s below next. segment s below (before_twins new kinds next)) twins) ≡ heads_of twins
unmoved_chain types cells prior kinds new off no_segment h hang = refl
unmoved_chain types cells prior kinds new off (segment s below next) h hang =
    let t = typed types 1 s below next h in
    by (s.home == prior) refl (λ e. off (ap (option_map (λ (cell : Cell). cell.code)) (ap cells (sym e) ∙ hang.1) ∙ ap (λ (n : ℕ). Some n) t.code_is)) (unmoved_chain types cells prior kinds new off next t.later (hang.3))
  where
    by : (b : Bool) → (s.home == prior) ≡ b → (s.home ≡ prior → ⊥) → heads_of (at_home prior (λ s below next. segment s below (before_twins new kinds next)) next) ≡ heads_of next
        → heads_of
        (if b then segment s below (before_twins new kinds next)
        else segment s (in_home prior (λ s below next. segment s below (before_twins new kinds next)) below) (at_home prior (λ s below next. segment s below (before_twins new kinds next)) next)) ≡ s ∷ heads_of next
    by true e off rest = absurd (off (eqb-true s.home prior e))
    by false e off rest = ap (λ (l : List Occurrence). s ∷ l) rest

unmoved : (types : List SegType) (cells : ℕ → Option Cell) (pointer : Pointer) (new : Occurrence) (kinds : ℕ) → (code_behind types pointer cells ≡ Some 1 → ⊥) → (trees : Chains) → are_roots types trees ≡ true → HangIn cells trees
    → heads_in (with_segment pointer new kinds trees) ≡ heads_in trees
unmoved types cells (Behind prior) new kinds off no_chain h hang = refl
unmoved types cells (Behind prior) new kinds off (chain twins more) h hang =
    let p = and_parts (are_of types 1 twins) (are_roots types more) h in
    ap (λ (l : List Occurrence). l ++ heads_in (in_home prior (λ s below next. segment s below (before_twins new kinds next)) more)) (unmoved_chain types cells prior kinds new off twins p.0 (hang.0))
    ∙ ap (λ (l : List Occurrence). heads_of twins ++ l) (unmoved types cells (Behind prior) new kinds off more p.1 (hang.1))
unmoved types cells (Below above place) new kinds off trees h hang = below_heads above (λ s below next. segment s (with_chain place (before_twins new kinds) below) next) (λ s below next. refl) trees
unmoved types cells (Root place) new kinds off trees h hang = absurd (off refl)

-- the code of a cell is seen
alone_code : (b : Bool) (cells : ℕ → Option Cell) (prior : ℕ) (cell : Cell) → cells prior ≡ Some cell → option_map (λ (c : Cell). c.code) (seen b cells prior) ≡ Some cell.code
alone_code true cells prior cell is = ap (option_map (λ (c : Cell). c.code)) is
alone_code false cells prior cell is = ap (λ (o : Option Cell). option_map (λ (c : Cell). c.code) (option_map alone o)) is ∙ by (cell.code == 1)
  where
    by : (b : Bool) → Some (cond b (record cell { twin = 0 }) cell).code ≡ Some cell.code
    by true = refl
    by false = refl

-- ---- the law of an insertion

inserted_walked : SchemasAreKept → (schema : Schema) (place : ℕ) (cells now : ℕ → Option Cell) (rows : List RootRow) (trees : Chains) (pointer : Pointer) (new : Occurrence) → IsWalked schema place cells rows trees → IsInSide schema pointer cells rows trees → 0 < new.home
    → cells new.home ≡ None → code_behind schema.types pointer (seen schema.phdam cells) ≡ Some new.code → (new.code ≡ 1 → FitsAsRoot schema place cells rows pointer new (with_segment pointer new (kinds_of schema new) trees))
    → now new.home ≡ Some (new_cell new (kinds_of schema new) (leads_in schema pointer cells rows)) → SetsPointer pointer new.home cells now (λ home. home ≢ new.home)
    → IsWalked schema place now (set_in_root_rows pointer new.home rows) (with_segment pointer new (kinds_of schema new) trees)
inserted_walked kept schema place cells now rows trees pointer new w within some free code fits stands s =
    let phdam = schema.phdam in
    let kinds = kinds_of schema new in
    let result : Chains = with_segment pointer new kinds trees in
    let r = records_of schema place cells rows trees w in
    let set : IsSet pointer new.home (seen phdam cells) (seen phdam now) result = record {
      set = twins_seen schema cells now (homes rows) trees pointer new.home w.hangs within (λ prior cell e is. chained prior cell e is) s.set;
      others = λ home cell is m off. seen_follows.same phdam cells now home (s.others home (λ e. none_some cell (sym (ap (seen phdam cells) e ∙ seen_follows.free phdam cells new.home free) ∙ is)) off);
    } in
    let own : seen phdam now new.home ≡ Some (new_cell new kinds (leads_in schema pointer cells rows)) =
    seen_follows.new phdam now new kinds (leads_in schema pointer cells rows) stands ∙ ap (λ (n : ℕ). Some (new_cell new kinds n)) (led phdam refl) in
    let k = new_segments_keep_records kept schema (seen phdam cells) (seen phdam now) (homes rows) trees pointer new r within some (seen_follows.free phdam cells new.home free) code own set in
    let x = chain_of schema (deepens kept schema) (seen phdam cells) (homes rows) trees r pointer within (before_twins new kinds) in
    record {
      rows_lead = k.from.first ∙ sym (set_leads pointer new.home rows);
      rows_are_keyed = set_keys schema pointer new.home rows result
          ∙ grown_keyed schema (seen phdam cells) pointer new kinds (λ prior e key. key_behind prior e key) rows trees
          (λ at row e f. ap (λ (l : List ℕ). bytes_eq l row.key) ((fits (root_of at e)).at_head at row e f) ∙ bytes_itself row.key) w.typed w.hangs w.rows_are_keyed;
      hangs = k.from.hang;
      typed = k.typed;
      once = k.once;
      all_met = λ home cell is kept_cell.
          let m = met_of schema.types (seen phdam cells) _ (before_twins new kinds) trees result x home in
          let same = m.same in
          let none = bare_met home kinds in
          met home (at_or_off home new) (λ off. let o = was_there pointer new.home cells now (λ h. h ≢ new.home) s home cell off is kept_cell in w.all_met home o.cell o.is o.kept) (times home x.twins) (times_in home result) (omega (arith, same, none));
      roots_belong = grown_pass schema.types (seen phdam cells) pointer new kinds (belongs schema place) (λ e. (fits (some_home new.code 1 (sym code ∙ e))).belongs) trees w.typed w.hangs w.roots_belong;
      roots_are_rising = rise (new.code == 1) refl;
    }
  where
    root_of : (at : ℕ) → pointer ≡ Root at → new.code ≡ 1
    root_of at e = some_home new.code 1 (sym code ∙ ap (λ (p : Pointer). code_behind schema.types p (seen schema.phdam cells)) e)

    -- the code of the cell in which a twin pointer stands
    code_at : (prior : ℕ) (cell : Cell) → pointer ≡ Behind prior → cells prior ≡ Some cell → cell.code ≡ new.code
    code_at prior cell e is = at schema.phdam refl
      where
        at : (b : Bool) → schema.phdam ≡ b → cell.code ≡ new.code
        at b q = some_home cell.code new.code (sym (alone_code b cells prior cell is) ∙ ap (λ (p : Bool). option_map (λ (c : Cell). c.code) (seen p cells prior)) (sym q) ∙ ap (λ (p : Pointer). code_behind schema.types p (seen schema.phdam cells)) (sym e) ∙ code)

    chained : (prior : ℕ) (cell : Cell) → pointer ≡ Behind prior → cells prior ≡ Some cell → has_twins schema.phdam cell.code ≡ true
    chained prior cell e is = by schema.phdam refl (cell.code == 1) refl
      where
        by : (b : Bool) → schema.phdam ≡ b → (c : Bool) → (cell.code == 1) ≡ c → (b || not c) ≡ true
        by true q c f = refl
        by false q false f = refl
        by false q true f = sym q ∙ (fits (sym (code_at prior cell e is) ∙ eqb-true cell.code 1 f)).chained prior e

    led : (b : Bool) → schema.phdam ≡ b → (if has_twins schema.phdam new.code then leads_in schema pointer cells rows else 0) ≡ leads_in schema pointer cells rows
    led b q = by b q (new.code == 1) refl
      where
        at : ℕ
        at = leads_in schema pointer cells rows

        by : (b : Bool) → schema.phdam ≡ b → (c : Bool) → (new.code == 1) ≡ c → (if schema.phdam || not (new.code == 1) then at else 0) ≡ at
        by true q c f = ap (λ (p : Bool). if p || not (new.code == 1) then at else 0) q
        by false q false f = ap (λ (p : Bool). if p || not (new.code == 1) then at else 0) q ∙ ap (λ (p : Bool). if not p then at else 0) f
        by false q true f = ap (λ (p : Bool). if p || not (new.code == 1) then at else 0) q ∙ ap (λ (p : Bool). if not p then at else 0) f ∙ sym ((fits (eqb-true new.code 1 f)).single q)

    key_behind : (prior : ℕ) → pointer ≡ Behind prior → (key : List ℕ) → Passes schema.types (seen schema.phdam cells) prior new (λ root. bytes_eq (row_key_of schema root) key)
    key_behind prior e key t below next at there one own =
        let o = seen_of schema.phdam cells prior (cell_of t below next) (ap (seen schema.phdam cells) (sym at) ∙ there.1) in
        let root : new.code ≡ 1 = sym (code_at prior o.is e o.stands) ∙ o.code ∙ one in
        let same : row_key_of schema (segment_in prior o.is) ≡ row_key_of schema t = λ i. row_key_of schema (record { home = prior; code = o.code i; name = o.name i; content = o.content i }) in
        ap (λ (l : List ℕ). bytes_eq l key) ((fits root).behind prior o.is e o.stands ∙ same) ∙ own

    met : (home : ℕ) → ((new.home ≡ home) × (here home new ≡ 1)) ⊎ (here home new ≡ 0) → (home ≢ new.home → 0 < times_in home trees) → (before after : ℕ) → after + before ≡ times_in home trees + (here home new + before) → 0 < after
    met home (inl e) old before after same = let one = e.1 in omega (arith, one, same)
    met home (inr z) old before after same = let o = old (λ e. let one = here_itself new in let off : here new.home new ≡ 0 = ap (λ (n : ℕ). here n new) (sym e) ∙ z in absurd (omega (arith, one, off))) in omega (arith, z, o, same)

    rise : (b : Bool) → (new.code == 1) ≡ b → roots_rise schema (heads_in (with_segment pointer new (kinds_of schema new) trees)) ≡ true
    rise true e = (fits (eqb-true new.code 1 e)).rising
    rise false e =
        ap (roots_rise schema) (unmoved schema.types (seen schema.phdam cells) pointer new (kinds_of schema new) (λ q. eqb-false new.code 1 e (some_home new.code 1 (sym code ∙ q))) trees w.typed w.hangs) ∙ w.roots_are_rising

-- ---- a cut

-- what each item of a list passes and each two of it, those of another do
record Within (xs ys : List Occurrence) : Type 0 where
  pub all : (test : Occurrence → Bool) → list_all test ys ≡ true → list_all test xs ≡ true
  pub pairs : (t : Occurrence → Occurrence → Bool) → all_pairs t ys ≡ true → all_pairs t xs ≡ true

within_itself : (xs : List Occurrence) → Within xs xs
within_itself xs = record { all = λ test h. h; pairs = λ t h. h }

keep : (s : Occurrence) (xs ys : List Occurrence) → Within xs ys → Within (s ∷ xs) (s ∷ ys)
keep s xs ys w = record {
  all = λ test h. let p = and_parts (test s) (list_all test ys) h in and_from (test s) (list_all test xs) p.0 (w.all test p.1);
  pairs = λ t h. let p = and_parts (list_all (t s) ys) (all_pairs t ys) h in and_from (list_all (t s) xs) (all_pairs t xs) (w.all (t s) p.0) (w.pairs t p.1);
}

skip : (s : Occurrence) (xs : List Occurrence) → Within xs (s ∷ xs)
skip s xs = record { all = λ test h. (and_parts (test s) (list_all test xs) h).1; pairs = λ t h. (and_parts (list_all (t s) xs) (all_pairs t xs) h).1 }

within_append : (xs ys zs ws : List Occurrence) → Within xs ys → Within zs ws → Within (xs ++ zs) (ys ++ ws)
within_append xs ys zs ws a b = record {
  all = λ test h. let p = all_parts test ys ws h in all_append test xs zs (a.all test p.0) (b.all test p.1);
  pairs = λ t h.
      let p = pairs_parts t ys ws h in
      pairs_join t xs zs (record {
        front = a.pairs t p.front;
        back = b.pairs t p.back;
        across = all_weaker (λ x. list_all (t x) ws) (λ x. list_all (t x) zs) (λ x q. b.all (t x) q) xs (a.all (λ x. list_all (t x) ws) p.across);
      });
}

cut_twins : (twins : Twins) → Within (heads_of (behind_first twins)) (heads_of twins)
cut_twins no_segment = within_itself []
cut_twins (segment s below next) = skip s (heads_of next)

cut_chain : (prior : ℕ) (twins : Twins) → Within (heads_of (at_home prior (λ s below next. segment s below (behind_first next)) twins)) (heads_of twins)
cut_chain prior no_segment = within_itself []
cut_chain prior (segment s below next) = by (s.home == prior) (cut_chain prior next)
  where
    by : (b : Bool) → Within (heads_of (at_home prior (λ s below next. segment s below (behind_first next)) next)) (heads_of next)
        → Within
        (heads_of
        (if b then segment s below (behind_first next) else segment s (in_home prior (λ s below next. segment s below (behind_first next)) below) (at_home prior (λ s below next. segment s below (behind_first next)) next))) (s ∷ heads_of next)
    by true rest = keep s (heads_of (behind_first next)) (heads_of next) (cut_twins next)
    by false rest = keep s (heads_of (at_home prior (λ s below next. segment s below (behind_first next)) next)) (heads_of next) rest

-- chain by chain
abbrev Chainwise : Chains → Chains → Type 0
Chainwise no_chain no_chain = ⊤
Chainwise no_chain (chain twins more) = ⊥
Chainwise (chain twins more) no_chain = ⊥
Chainwise (chain twins more) (chain others rest) = Within (heads_of twins) (heads_of others) × Chainwise more rest

chainwise_itself : (trees : Chains) → Chainwise trees trees
chainwise_itself no_chain = tt
chainwise_itself (chain twins more) = (within_itself (heads_of twins), chainwise_itself more)

cut_chainwise : (pointer : Pointer) (trees : Chains) → Chainwise (without_segment pointer trees) trees
cut_chainwise (Behind prior) no_chain = tt
cut_chainwise (Behind prior) (chain twins more) = (cut_chain prior twins, cut_chainwise (Behind prior) more)
cut_chainwise (Below above place) no_chain = tt
cut_chainwise (Below above place) (chain twins more) =
    let same = heads_below above (λ s below next. segment s (with_chain place behind_first below) next) (λ s below next. refl) twins in
    (subst (λ (l : List Occurrence). Within l (heads_of twins)) (sym same) (within_itself (heads_of twins)), cut_chainwise (Below above place) more)
cut_chainwise (Root place) no_chain = tt
cut_chainwise (Root zero) (chain twins more) = (cut_twins twins, chainwise_itself more)
cut_chainwise (Root (suc place)) (chain twins more) = (within_itself (heads_of twins), cut_chainwise (Root place) more)

chainwise_heads : (now old : Chains) → Chainwise now old → Within (heads_in now) (heads_in old)
chainwise_heads no_chain no_chain h = within_itself []
chainwise_heads no_chain (chain twins more) h = absurd h
chainwise_heads (chain twins more) no_chain h = absurd h
chainwise_heads (chain twins more) (chain others rest) h = within_append (heads_of twins) (heads_of others) (heads_in more) (heads_in rest) (h.0) (chainwise_heads more rest (h.1))

chainwise_keyed : (schema : Schema) (rows : List RootRow) (now old : Chains) → Chainwise now old → are_keyed schema rows old ≡ true → are_keyed schema rows now ≡ true
chainwise_keyed schema [] no_chain no_chain h k = k
chainwise_keyed schema (row ∷ rows) no_chain no_chain h k = k
chainwise_keyed schema rows no_chain (chain twins more) h k = absurd h
chainwise_keyed schema rows (chain twins more) no_chain h k = absurd h
chainwise_keyed schema [] (chain twins more) (chain others rest) h k = absurd (false≢true k)
chainwise_keyed schema (row ∷ rows) (chain twins more) (chain others rest) h k =
    let test : Occurrence → Bool = λ root. bytes_eq (row_key_of schema root) row.key in
    let p = and_parts (list_all test (heads_of others)) (are_keyed schema rows rest) k in
    and_from (list_all test (heads_of twins)) (are_keyed schema rows more) (h.0.all test p.0) (chainwise_keyed schema rows more rest (h.1) p.1)

cut_walked : SchemasAreKept → (schema : Schema) (place : ℕ) (cells now : ℕ → Option Cell) (rows : List RootRow) (trees : Chains) (pointer : Pointer) (cut : Cell) → IsWalked schema place cells rows trees → IsInSide schema pointer cells rows trees
    → 0 < leads_in schema pointer cells rows → seen schema.phdam cells (leads_in schema pointer cells rows) ≡ Some cut → SetsPointer pointer cut.twin cells now (λ home. 0 < times_in home trees → 0 < times_in home (without_segment pointer trees))
    → ((home : ℕ) (cell : Cell) → 0 < times_in home trees → times_in home (without_segment pointer trees) ≡ 0 → now home ≡ Some cell → cell.copied ≡ true) → IsWalked schema place now (set_in_root_rows pointer cut.twin rows) (without_segment pointer trees)
cut_walked kept schema place cells now rows trees pointer cut w within some was s gone_cells =
    let phdam = schema.phdam in
    let result : Chains = without_segment pointer trees in
    let r = records_of schema place cells rows trees w in
    let set : IsSet pointer cut.twin (seen phdam cells) (seen phdam now) result = record {
      set = twins_seen schema cells now (homes rows) trees pointer cut.twin w.hangs within (λ prior cell e is. chained prior cell e is) s.set;
      others = λ home cell is m off. seen_follows.same phdam cells now home (s.others home (λ _. m) off);
    } in
    let k = cuts_keep_records kept schema (seen phdam cells) (seen phdam now) (homes rows) trees pointer cut r within some was set in
    let less = cut_chainwise pointer trees in
    let heads = chainwise_heads result trees less in
    record {
      rows_lead = k.from.first ∙ sym (set_leads pointer cut.twin rows);
      rows_are_keyed = set_keys schema pointer cut.twin rows result ∙ chainwise_keyed schema rows result trees less w.rows_are_keyed;
      hangs = k.from.hang;
      typed = k.typed;
      once = k.once;
      all_met = λ home cell is kept_cell. met home cell is kept_cell (times_in home result) refl (times_in home trees) refl;
      roots_belong = heads.all (belongs schema place) w.roots_belong;
      roots_are_rising = heads.pairs (λ a b. is_lt (root_cmp schema (key_of schema a) (key_of schema b))) w.roots_are_rising;
    }
  where
    met : (home : ℕ) (cell : Cell) → now home ≡ Some cell → cell.copied ≡ false → (n : ℕ) → times_in home (without_segment pointer trees) ≡ n → (m : ℕ) → times_in home trees ≡ m → 0 < times_in home (without_segment pointer trees)
    met home cell is kept_cell (suc n) e m f = omega (arith, e)
    met home cell is kept_cell zero e (suc m) f = absurd (true≢false (sym (gone_cells home cell (omega (arith, f)) e is) ∙ kept_cell))
    met home cell is kept_cell zero e zero f =
        let o = was_there pointer cut.twin cells now (λ h. 0 < times_in h trees → 0 < times_in h (without_segment pointer trees)) s home cell (λ more. absurd (omega (arith, more, f))) is kept_cell in
        let more = w.all_met home o.cell o.is o.kept in
        absurd (omega (arith, more, f))

    -- in PHIDAM no pointer leads on from a root
    chained : (prior : ℕ) (cell : Cell) → pointer ≡ Behind prior → cells prior ≡ Some cell → has_twins schema.phdam cell.code ≡ true
    chained prior cell e is = by schema.phdam refl (cell.code == 1) refl
      where
        by : (b : Bool) → schema.phdam ≡ b → (c : Bool) → (cell.code == 1) ≡ c → (b || not c) ≡ true
        by true q c f = refl
        by false q false f = refl
        by false q true f =
            let none : seen schema.phdam cells prior ≡ Some (record cell { twin = 0 }) =
            ap (λ (p : Bool). seen p cells prior) q ∙ ap (option_map alone) is ∙ ap (λ (c : Bool). Some (cond c (record cell { twin = 0 }) cell)) f in
            let zero_twin : leads_in schema pointer cells rows ≡ 0 = ap (λ (p : Pointer). leads_in schema p cells rows) e ∙ ap (λ (o : Option Cell). option_map_or (λ (c : Cell). c.twin) o 0) none in
            absurd (omega (arith, zero_twin, some))

-- ---- a replaced content

abbrev Content : List ℕ → Occurrence → Chains → Twins → Twins
Content content s below next = segment (record s { content = content }) below next

keys_chain : (schema : Schema) (home : ℕ) (content : List ℕ) (cells : ℕ → Option Cell) → ((s : Occurrence) (below : Chains) (next : Twins) → s.home ≡ home → Hangs cells (segment s below next) → s.code ≡ 1 → key_of schema (record s { content = content }) ≡ key_of schema s)
    → (twins : Twins) → are_of schema.types 1 twins ≡ true → Hangs cells twins → map (key_of schema) (heads_of (at_home home (λ s below next. segment (record s { content = content }) below next) twins)) ≡ map (key_of schema) (heads_of twins)
keys_chain schema home content cells same no_segment h hang = refl
keys_chain schema home content cells same (segment s below next) h hang =
    let t = typed schema.types 1 s below next h in
    by (s.home == home) refl (λ e. same s below next e hang t.code_is) (keys_chain schema home content cells same next t.later (hang.3))
  where
    by : (b : Bool) → (s.home == home) ≡ b → (s.home ≡ home → key_of schema (record s { content = content }) ≡ key_of schema s)
        → map (key_of schema) (heads_of (at_home home (λ s below next. segment (record s { content = content }) below next) next)) ≡ map (key_of schema) (heads_of next)
        → map (key_of schema)
        (heads_of
        (if b then segment (record s { content = content }) below next
        else segment s (in_home home (λ s below next. segment (record s { content = content }) below next) below) (at_home home (λ s below next. segment (record s { content = content }) below next) next)))
        ≡ key_of schema s ∷ map (key_of schema) (heads_of next)
    by true e one rest = ap (λ (k : List ℕ). k ∷ map (key_of schema) (heads_of next)) (one (eqb-true s.home home e))
    by false e one rest = ap (λ (l : List (List ℕ)). key_of schema s ∷ l) rest

map_two : (f : Occurrence → List ℕ) (xs ys : List Occurrence) → map f (xs ++ ys) ≡ map f xs ++ map f ys
map_two f [] ys = refl
map_two f (x ∷ xs) ys = ap (λ (l : List (List ℕ)). f x ∷ l) (map_two f xs ys)

all_by_key : (f : Occurrence → List ℕ) (g : List ℕ → Bool) (xs : List Occurrence) → list_all (λ x. g (f x)) xs ≡ list_all g (map f xs)
all_by_key f g [] = refl
all_by_key f g (x ∷ xs) = ap (λ (b : Bool). g (f x) && b) (all_by_key f g xs)

pairs_by_key : (f : Occurrence → List ℕ) (t : List ℕ → List ℕ → Bool) (xs : List Occurrence) → all_pairs (λ a b. t (f a) (f b)) xs ≡ all_pairs t (map f xs)
pairs_by_key f t [] = refl
pairs_by_key f t (x ∷ xs) = ap (λ (b : Bool). b && all_pairs (λ a b. t (f a) (f b)) xs) (all_by_key f (t (f x)) xs) ∙ ap (λ (b : Bool). list_all (t (f x)) (map f xs) && b) (pairs_by_key f t xs)

-- chain by chain the keys are the same
abbrev SameKeys : Schema → Chains → Chains → Type 0
SameKeys schema no_chain no_chain = ⊤
SameKeys schema no_chain (chain twins more) = ⊥
SameKeys schema (chain twins more) no_chain = ⊥
SameKeys schema (chain twins more) (chain others rest) = (map (key_of schema) (heads_of twins) ≡ map (key_of schema) (heads_of others)) × SameKeys schema more rest

same_keys : (schema : Schema) (home : ℕ) (content : List ℕ) (cells : ℕ → Option Cell) → ((s : Occurrence) (below : Chains) (next : Twins) → s.home ≡ home → Hangs cells (segment s below next) → s.code ≡ 1 → key_of schema (record s { content = content }) ≡ key_of schema s)
    → (trees : Chains) → are_roots schema.types trees ≡ true → HangIn cells trees → SameKeys schema (with_content_at home content trees) trees
same_keys schema home content cells same no_chain h hang = tt
same_keys schema home content cells same (chain twins more) h hang =
    let p = and_parts (are_of schema.types 1 twins) (are_roots schema.types more) h in
    (keys_chain schema home content cells same twins p.0 (hang.0), same_keys schema home content cells same more p.1 (hang.1))

keys_in : (schema : Schema) (now old : Chains) → SameKeys schema now old → map (key_of schema) (heads_in now) ≡ map (key_of schema) (heads_in old)
keys_in schema no_chain no_chain h = refl
keys_in schema no_chain (chain twins more) h = absurd h
keys_in schema (chain twins more) no_chain h = absurd h
keys_in schema (chain twins more) (chain others rest) h =
    map_two (key_of schema) (heads_of twins) (heads_in more) ∙ ap (λ (l : List (List ℕ)). l ++ map (key_of schema) (heads_in more)) (h.0)
    ∙ ap (λ (l : List (List ℕ)). map (key_of schema) (heads_of others) ++ l) (keys_in schema more rest (h.1)) ∙ sym (map_two (key_of schema) (heads_of others) (heads_in rest))

-- the key of a root's row, by the root's key
abbrev row_key : Schema → List ℕ → List ℕ
row_key schema key = if schema.phdam then to_be_bytes w32 (anchor_place schema key) else key

keys_keyed : (schema : Schema) (rows : List RootRow) (now old : Chains) → SameKeys schema now old → are_keyed schema rows now ≡ are_keyed schema rows old
keys_keyed schema [] no_chain no_chain h = refl
keys_keyed schema (row ∷ rows) no_chain no_chain h = refl
keys_keyed schema rows no_chain (chain twins more) h = absurd h
keys_keyed schema rows (chain twins more) no_chain h = absurd h
keys_keyed schema [] (chain twins more) (chain others rest) h = refl
keys_keyed schema (row ∷ rows) (chain twins more) (chain others rest) h =
    let g : List ℕ → Bool = λ key. bytes_eq (row_key schema key) row.key in
    ap (λ (b : Bool). b && are_keyed schema rows more) (all_by_key (key_of schema) g (heads_of twins) ∙ ap (list_all g) (h.0) ∙ sym (all_by_key (key_of schema) g (heads_of others)))
    ∙ ap (λ (b : Bool). list_all (λ root. bytes_eq (row_key_of schema root) row.key) (heads_of others) && b) (keys_keyed schema rows more rest (h.1))

replaced_walked : SchemasAreKept → (schema : Schema) (place : ℕ) (cells now : ℕ → Option Cell) (rows : List RootRow) (trees : Chains) (home : ℕ) (content : List ℕ) → IsWalked schema place cells rows trees → now home ≡ option_map (set_content content) (cells home)
    → ((other : ℕ) → other ≢ home → now other ≡ cells other) → ((cell : Cell) → cells home ≡ Some cell → cell.code ≡ 1 → key_of schema (segment_in home (set_content content cell)) ≡ key_of schema (segment_in home cell))
    → IsWalked schema place now rows (with_content_at home content trees)
replaced_walked kept schema place cells now rows trees home content w set others keys =
    let phdam = schema.phdam in
    let result : Chains = with_content_at home content trees in
    let r = records_of schema place cells rows trees w in
    let k = replaced_content_keeps_records schema (seen phdam cells) (seen phdam now) (homes rows) trees home content r (seen_follows.content phdam cells now home content set) (λ other off. seen_follows.same phdam cells now other (others other off)) in
    let same = same_keys schema home content (seen phdam cells) (λ s below next e there one. root_key s below next e there one) trees w.typed w.hangs in
    let all = keys_in schema result trees same in
    let belong : List ℕ → Bool = λ key. option_map_or (λ p. p == place) (partition_of schema key) false in
    record {
      rows_lead = k.from.first;
      rows_are_keyed = keys_keyed schema rows result trees same ∙ w.rows_are_keyed;
      hangs = k.from.hang;
      typed = k.typed;
      once = k.once;
      all_met = λ other cell is kept_cell. let m = content_met_in home content other trees in let o = was other cell is kept_cell in let old = w.all_met other o.cell o.is o.kept in omega (arith, m, old);
      roots_belong = all_by_key (key_of schema) belong (heads_in result) ∙ ap (list_all belong) all ∙ sym (all_by_key (key_of schema) belong (heads_in trees)) ∙ w.roots_belong;
      roots_are_rising = pairs_by_key (key_of schema) (λ a b. is_lt (root_cmp schema a b)) (heads_in result) ∙ ap (all_pairs (λ a b. is_lt (root_cmp schema a b))) all ∙ sym (pairs_by_key (key_of schema) (λ a b. is_lt (root_cmp schema a b)) (heads_in trees)) ∙ w.roots_are_rising;
    }
  where
    was : (other : ℕ) (cell : Cell) → now other ≡ Some cell → cell.copied ≡ false → Was cells other
    was other cell is kept_cell = by (other == home) refl
      where
        by : (b : Bool) → (other == home) ≡ b → Was cells other
        by true e = mapped_was (set_content content) (λ c. refl) cells now other cell (subst (λ (n : ℕ). now n ≡ option_map (set_content content) (cells n)) (sym (eqb-true other home e)) set) is kept_cell
        by false e = same_was cells now other cell (others other (eqb-false other home e)) is kept_cell

    root_key : (s : Occurrence) (below : Chains) (next : Twins) → s.home ≡ home → Hangs (seen schema.phdam cells) (segment s below next) → s.code ≡ 1 → key_of schema (record s { content = content }) ≡ key_of schema s
    root_key s below next e there one =
        let o = seen_of schema.phdam cells home (cell_of s below next) (ap (seen schema.phdam cells) (sym e) ∙ there.1) in
        let new : key_of schema (record s { content = content }) ≡ key_of schema (segment_in home (set_content content o.is)) = λ i. key_of schema (record { home = home; code = sym o.code i; name = o.is.name; content = content }) in
        let old : key_of schema (segment_in home o.is) ≡ key_of schema s = λ i. key_of schema (record { home = home; code = o.code i; name = o.is.name; content = o.content i }) in
        new ∙ keys o.is o.stands (o.code ∙ one) ∙ old

-- ---- rows that lead nowhere

come_leads : (at : ℕ) (row : RootRow) (rows : List RootRow) → at ≤ length rows → insert (homes rows) at row.home ≡ homes (insert rows at row)
come_leads zero row rows le = refl
come_leads (suc at) row [] le = absurd (omega (arith, le))
come_leads (suc at) row (r ∷ rows) le = ap (λ (l : List ℕ). r.home ∷ l) (come_leads at row rows (omega (arith, le)))

come_heads : (at : ℕ) (trees : Chains) → heads_in (with_row at trees) ≡ heads_in trees
come_heads zero trees = refl
come_heads (suc at) no_chain = refl
come_heads (suc at) (chain twins more) = ap (λ (l : List Occurrence). heads_of twins ++ l) (come_heads at more)

come_keyed : (schema : Schema) (at : ℕ) (row : RootRow) (rows : List RootRow) (trees : Chains) → at ≤ length rows → are_keyed schema rows trees ≡ true → are_keyed schema (insert rows at row) (with_row at trees) ≡ true
come_keyed schema zero row rows trees le k = k
come_keyed schema (suc at) row [] trees le k = absurd (omega (arith, le))
come_keyed schema (suc at) row (r ∷ rows) no_chain le k = absurd (false≢true k)
come_keyed schema (suc at) row (r ∷ rows) (chain twins more) le k =
    let test : Occurrence → Bool = λ root. bytes_eq (row_key_of schema root) r.key in
    let p = and_parts (list_all test (heads_of twins)) (are_keyed schema rows more) k in
    and_from (list_all test (heads_of twins)) (are_keyed schema (insert rows at row) (with_row at more)) p.0 (come_keyed schema at row rows more (omega (arith, le)) p.1)

row_came : (schema : Schema) (place : ℕ) (cells : ℕ → Option Cell) (rows : List RootRow) (trees : Chains) (at : ℕ) (key : List ℕ) → IsWalked schema place cells rows trees → at ≤ length rows
    → IsWalked schema place cells (insert rows at (record { key = key; home = 0 })) (with_row at trees)
row_came schema place cells rows trees at key w le =
    let row : RootRow = record { key = key; home = 0 } in
    let c = came schema.types at trees in
    let long = homes_long rows in
    let few = ap (λ (l : List ℕ). length l) w.rows_lead in
    record {
      rows_lead = came_firsts at trees (omega (arith, le, long, few)) ∙ ap (λ (l : List ℕ). insert l at 0) w.rows_lead ∙ come_leads at row rows le;
      rows_are_keyed = come_keyed schema at row rows trees le w.rows_are_keyed;
      hangs = came_hangs (seen schema.phdam cells) at trees w.hangs;
      typed = c.typed ∙ w.typed;
      once = λ home. let m = c.met home in let o = w.once home in omega (arith, m, o);
      all_met = λ home cell is kept. let m = c.met home in let o = w.all_met home cell is kept in omega (arith, m, o);
      roots_belong = ap (list_all (belongs schema place)) (come_heads at trees) ∙ w.roots_belong;
      roots_are_rising = ap (roots_rise schema) (come_heads at trees) ∙ w.roots_are_rising;
    }
  where
    homes_long : (l : List RootRow) → length (homes l) ≡ length l
    homes_long [] = refl
    homes_long (r ∷ l) = let e = homes_long l in omega (arith, e)

go_leads : (at : ℕ) (rows : List RootRow) → remove (homes rows) at ≡ homes (remove rows at)
go_leads zero [] = refl
go_leads (suc at) [] = refl
go_leads zero (row ∷ rows) = refl
go_leads (suc at) (row ∷ rows) = ap (λ (l : List ℕ). row.home ∷ l) (go_leads at rows)

go_heads : (cells : ℕ → Option Cell) (at : ℕ) (trees : Chains) → HangIn cells trees → slice_get (firsts_of trees) at ≡ Some 0 → heads_in (without_row at trees) ≡ heads_in trees
go_heads cells at no_chain h e = refl
go_heads cells zero (chain no_segment more) h e = refl
go_heads cells zero (chain (segment s below next) more) h e = let some = h.0.0 in let none : s.home ≡ 0 = some_home s.home 0 e in absurd (omega (arith, some, none))
go_heads cells (suc at) (chain twins more) h e = ap (λ (l : List Occurrence). heads_of twins ++ l) (go_heads cells at more (h.1) e)

go_keyed : (schema : Schema) (at : ℕ) (rows : List RootRow) (trees : Chains) → are_keyed schema rows trees ≡ true → are_keyed schema (remove rows at) (without_row at trees) ≡ true
go_keyed schema zero [] no_chain k = k
go_keyed schema (suc at) [] no_chain k = k
go_keyed schema at [] (chain twins more) k = absurd (false≢true k)
go_keyed schema at (row ∷ rows) no_chain k = absurd (false≢true k)
go_keyed schema zero (row ∷ rows) (chain twins more) k = (and_parts (list_all (λ root. bytes_eq (row_key_of schema root) row.key) (heads_of twins)) (are_keyed schema rows more) k).1
go_keyed schema (suc at) (row ∷ rows) (chain twins more) k =
    let test : Occurrence → Bool = λ root. bytes_eq (row_key_of schema root) row.key in
    let p = and_parts (list_all test (heads_of twins)) (are_keyed schema rows more) k in
    and_from (list_all test (heads_of twins)) (are_keyed schema (remove rows at) (without_row at more)) p.0 (go_keyed schema at rows more p.1)

home_at : (rows : List RootRow) (at : ℕ) (row : RootRow) → slice_get rows at ≡ Some row → slice_get (homes rows) at ≡ Some row.home
home_at [] at row e = cc
home_at (r ∷ rows) zero row e = ap (option_map (λ (x : RootRow). x.home)) e
home_at (r ∷ rows) (suc at) row e = home_at rows at row e

row_went : (schema : Schema) (place : ℕ) (cells : ℕ → Option Cell) (rows : List RootRow) (trees : Chains) (at : ℕ) (row : RootRow) → IsWalked schema place cells rows trees → slice_get rows at ≡ Some row → row.home ≡ 0
    → IsWalked schema place cells (remove rows at) (without_row at trees)
row_went schema place cells rows trees at row w is none =
    let leads : slice_get (firsts_of trees) at ≡ Some 0 = ap (λ (l : List ℕ). slice_get l at) w.rows_lead ∙ home_at rows at row is ∙ ap (λ (n : ℕ). Some n) none in
    let c = gone schema.types (seen schema.phdam cells) at trees w.hangs leads in
    let heads = go_heads (seen schema.phdam cells) at trees w.hangs leads in
    record {
      rows_lead = gone_firsts at trees ∙ ap (λ (l : List ℕ). remove l at) w.rows_lead ∙ go_leads at rows;
      rows_are_keyed = go_keyed schema at rows trees w.rows_are_keyed;
      hangs = gone_hangs (seen schema.phdam cells) at trees w.hangs;
      typed = c.typed ∙ w.typed;
      once = λ home. let m = c.met home in let o = w.once home in omega (arith, m, o);
      all_met = λ home cell is kept. let m = c.met home in let o = w.all_met home cell is kept in omega (arith, m, o);
      roots_belong = ap (list_all (belongs schema place)) heads ∙ w.roots_belong;
      roots_are_rising = ap (roots_rise schema) heads ∙ w.roots_are_rising;
    }

pub changed_sides : SchemasAreKept → ChangedSides
changed_sides kept = record {
  inserts = inserted_walked kept;
  cuts = cut_walked kept;
  replaces = replaced_walked kept;
  row_comes = row_came;
  row_goes = row_went;
}
