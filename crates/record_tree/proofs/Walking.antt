-- The walk through all cells of a side: what waits hangs as twins, whose rows are those that are still to come.
use Rattle.std.proofs.Common.{◌≡◌, ◌≢◌, ℕ, zero, suc, ◌+◌, ◌-◌, ◌<◌, ◌==◌, Bool, true, false, cond, List, [], ◌∷◌, ◌++◌, map, drop, length, get_or, Option, None, Some, refl, sym, ap, subst, ◌∙◌, arith}
use Rattle.std.specs.Prelude.{IsSome, take, ⊤}
use Rattle.std.specs.Option.{option_map, option_to_list}
use Rattle.std.proofs.lemmas.Bool.{false≢true}
use Rattle.std.proofs.lemmas.List.{append_assoc, append-nil, drop_more}
use Rattle.hal_base.specs.declared.place.Ilk.{Ilk}
use Rattle.hal_base.specs.ShelfCalls.{ShelfView, OnlyReads, SameShelf}
use Rattle.segment_blocks.specs.declared.tile.Cell.{Cell}
use Rattle.free_space.specs.declared.side.SideCells.{SideCells}
use Rattle.free_space.specs.SideCalls.{StandsForSide, Holds, IsTold, cells_of}
use Rattle.record_walk.specs.Tree.{Twins, no_segment, segment, Chains, no_chain, chain, first_of, firsts_of, cell_of, Hangs, HangIn}
use Rattle.record_walk.specs.Listing.{Placed, placed, list_of, list_in}
use Rattle.record_walk.specs.Side.{RootRow, alone, seen}
use Rattle.record_tree.specs.declared.records.Records.{Records}
use Rattle.record_tree.specs.declared.walk.HomedRow.{HomedRow}
use Rattle.record_tree.specs.declared.walk.Waiting.{Waiting}
use Rattle.record_tree.specs.declared.walk.Walk.{Walk}
use Rattle.record_tree.specs.Finding.{placed_of}
use Rattle.record_tree.specs.Sides.{root_rows}
use Rattle.record_tree.specs.Standing.{StandsForRecords, cells_seen, Walks as SideWalks}
use Rattle.record_tree.specs.Walking.{AllHang, CanWait, HasRootHomes, MeetsAll, MeetsRow, Waits, row_at, rows_waiting, waits, waits_for}
use Rattle.record_tree.proofs.CellFrames.{told_same, told_before, cells_as}
use Rattle.record_tree.proofs.Descending.{alone_children, seen_of}
use Rattle.record_tree.proofs.Reading.{reads_begun, reads_fail, reads_then}
use Rattle.record_tree.proofs.RootRows.{Alike, told_pages}
use Rattle.record_tree.proofs.Seen.{some_is}

-- ---- addresses that wait

-- one address more, before those that wait
pub waits_more : (parent : Option Ilk) (list : List ℕ) (k : ℕ) → k < length list → waits parent (drop k list) ≡ waits parent (drop (k + 1) list) ++ record { at = get_or list k 0; parent = parent } ∷ []
waits_more parent list k lt = ap (waits parent) (drop_more list k 0 lt)

pub waits_at : (parent : Option Ilk) (list : List ℕ) (k n : ℕ) → k ≡ n → waits parent (drop k list) ≡ waits parent (drop n list)
waits_at parent list k n e = ap (λ (m : ℕ). waits parent (drop m list)) e

pub none_left : (parent : Option Ilk) (list : List ℕ) → waits parent (drop (length list) list) ≡ []
none_left parent [] = refl
none_left parent (x ∷ list) = none_left parent list

-- ---- chains that wait

abbrev pub Chain : Type 0
Chain = Option Ilk × Twins

pub all_hang : (cells : ℕ → Option Cell) (xs ys : List Chain) → AllHang cells xs → AllHang cells ys → AllHang cells (xs ++ ys)
all_hang cells [] ys a b = b
all_hang cells (x ∷ xs) ys a b = (a.0, all_hang cells xs ys (a.1) b)

pub rows_behind : (xs ys : List Chain) → rows_waiting (xs ++ ys) ≡ rows_waiting ys ++ rows_waiting xs
rows_behind [] ys = sym (append-nil (rows_waiting ys))
rows_behind (x ∷ xs) ys = ap (λ l. l ++ list_of (x.0) (x.1)) (rows_behind xs ys) ∙ append_assoc (rows_waiting ys) (rows_waiting xs) (list_of (x.0) (x.1))

pub waiting_behind : (xs ys : List Chain) → map waits_for (xs ++ ys) ≡ map waits_for xs ++ map waits_for ys
waiting_behind [] ys = refl
waiting_behind (x ∷ xs) ys = ap (λ l. waits_for x ∷ l) (waiting_behind xs ys)

-- the chains below a row, the first of them last
abbrev pub entries : Option Ilk → Chains → List Chain
entries parent no_chain = []
entries parent (chain twins more) = entries parent more ++ (parent, twins) ∷ []

pub entries_wait : (parent : Option Ilk) (chains : Chains) → map waits_for (entries parent chains) ≡ waits parent (firsts_of chains)
entries_wait parent no_chain = refl
entries_wait parent (chain twins more) = waiting_behind (entries parent more) ((parent, twins) ∷ []) ∙ ap (λ l. l ++ record { at = first_of twins; parent = parent } ∷ []) (entries_wait parent more)

pub entries_hang : (cells : ℕ → Option Cell) (parent : Option Ilk) (chains : Chains) → HangIn cells chains → AllHang cells (entries parent chains)
entries_hang cells parent no_chain h = tt
entries_hang cells parent (chain twins more) h = all_hang cells (entries parent more) ((parent, twins) ∷ []) (entries_hang cells parent more (h.1)) (h.0, tt)

pub entries_listed : (parent : Option Ilk) (chains : Chains) → rows_waiting (entries parent chains) ≡ list_in parent chains
entries_listed parent no_chain = refl
entries_listed parent (chain twins more) = rows_behind (entries parent more) ((parent, twins) ∷ []) ∙ ap (λ l. list_of parent twins ++ l) (entries_listed parent more)

-- ---- the last chain that waits

pub record Last (cells : ℕ → Option Cell) (front : List Waiting) (next : Waiting) (list : List Placed) : Type 0 where
  pub before : List Chain
  pub parent : Option Ilk
  pub twins : Twins
  pub are : map waits_for before ≡ front
  pub under : parent ≡ next.parent
  pub first : first_of twins ≡ next.at
  pub hang : AllHang cells before
  pub hangs : Hangs cells twins
  pub rows : list ≡ list_of parent twins ++ rows_waiting before

head_is : {X : Type 0} (x y : X) (xs ys : List X) → x ∷ xs ≡ y ∷ ys → (x ≡ y) × (xs ≡ ys)
head_is {X} x y xs ys e = (cc, cc)

no_more : {X : Type 0} (x y : X) (xs : List X) (z : X) → x ∷ (y ∷ xs) ≡ z ∷ [] → ⊥
no_more {X} x y xs z e = let wrong : y ∷ xs ≡ [] = (head_is x z (y ∷ xs) [] e).1 in cc

last_of : (cells : ℕ → Option Cell) (front : List Waiting) (next : Waiting) (chains : List Chain) → map waits_for chains ≡ front ++ next ∷ [] → AllHang cells chains → Last cells front next (rows_waiting chains)
last_of cells [] next [] e h = absurd (let wrong : [] ≡ next ∷ [] = e in cc)
last_of cells (x ∷ front) next [] e h = absurd (let wrong : [] ≡ x ∷ (front ++ next ∷ []) = e in cc)
last_of cells [] next (w ∷ []) e h =
    let same = (head_is (waits_for w) next [] [] e).0 in
    record {
      before = [];
      parent = w.0;
      twins = w.1;
      are = refl;
      under = ap (λ (n : Waiting). n.parent) same;
      first = ap (λ (n : Waiting). n.at) same;
      hang = tt;
      hangs = h.0;
      rows = sym (append-nil (list_of (w.0) (w.1)));
    }
last_of cells [] next (w ∷ (v ∷ more)) e h = absurd (no_more (waits_for w) (waits_for v) (map waits_for more) next e)
last_of cells (x ∷ front) next (w ∷ more) e h =
    let same = head_is (waits_for w) x (map waits_for more) (front ++ next ∷ []) e in
    let l = last_of cells front next more same.1 (h.1) in
    record {
      before = w ∷ l.before;
      parent = l.parent;
      twins = l.twins;
      are = (λ i. same.0 i ∷ l.are i);
      under = l.under;
      first = l.first;
      hang = (h.0, l.hang);
      hangs = l.hangs;
      rows = ap (λ r. r ++ list_of (w.0) (w.1)) l.rows ∙ append_assoc (list_of l.parent l.twins) (rows_waiting l.before) (list_of (w.0) (w.1));
    }

pub last_waiting : (cells : ℕ → Option Cell) (front : List Waiting) (next : Waiting) (list : List Placed) → Waits cells (front ++ next ∷ []) list → Last (seen false cells) front next list
last_waiting cells front next list w = subst (λ (l : List Placed). Last (seen false cells) front next l) w.rows (last_of (seen false cells) front next w.chains w.are w.hang)

-- ---- an address that is none

pub none_waits : (cells : ℕ → Option Cell) (front : List Waiting) (next : Waiting) (list : List Placed) → next.at ≡ 0 → Waits cells (front ++ next ∷ []) list → Waits cells front list
none_waits cells front next list none w = by (last_waiting cells front next list w)
  where
    none_of : (parent : Option Ilk) (twins : Twins) → first_of twins ≡ 0 → Hangs (seen false cells) twins → list_of parent twins ≡ []
    none_of parent no_segment e h = refl
    none_of parent (segment s below next) e h = let some = h.0 in absurd (omega (arith, some, e))

    by : Last (seen false cells) front next list → Waits cells front list
    by l = record { chains = l.before; are = l.are; hang = l.hang; rows = sym (l.rows ∙ ap (λ r. r ++ rows_waiting l.before) (none_of l.parent l.twins (l.first ∙ none) l.hangs)) }

-- ---- the cell to which the last address leads

pub alone_name : (cell : Cell) → (alone cell).name ≡ cell.name
alone_name cell = by (cell.code == 1)
  where
    by : (b : Bool) → (cond b (record cell { twin = 0 }) cell).name ≡ cell.name
    by true = refl
    by false = refl

pub alone_code : (cell : Cell) → (alone cell).code ≡ cell.code
alone_code cell = by (cell.code == 1)
  where
    by : (b : Bool) → (cond b (record cell { twin = 0 }) cell).code ≡ cell.code
    by true = refl
    by false = refl

pub alone_content : (cell : Cell) → (alone cell).content ≡ cell.content
alone_content cell = by (cell.code == 1)
  where
    by : (b : Bool) → (cond b (record cell { twin = 0 }) cell).content ≡ cell.content
    by true = refl
    by false = refl

-- it stands there
pub record Stands (cells : ℕ → Option Cell) (at : ℕ) : Type 0 where
  pub cell : Cell
  pub is : cells at ≡ Some cell

pub waiting_stands : (cells : ℕ → Option Cell) (front : List Waiting) (next : Waiting) (list : List Placed) → next.at ≢ 0 → Waits cells (front ++ next ∷ []) list → Stands cells next.at
waiting_stands cells front next list some w = by (last_waiting cells front next list w)
  where
    at_twins : (twins : Twins) → first_of twins ≡ next.at → Hangs (seen false cells) twins → Stands cells next.at
    at_twins no_segment first h = absurd (some (sym first))
    at_twins (segment s below later) first h = let x = seen_of cells s.home (cell_of s below later) (h.1) in record { cell = x.cell; is = ap cells (sym first) ∙ x.is }

    by : Last (seen false cells) front next list → Stands cells next.at
    by l = at_twins l.twins l.first l.hangs

-- its row is the next one
pub record Meets (cells : ℕ → Option Cell) (later : List Waiting) (row : HomedRow) (list : List Placed) : Type 0 where
  pub rest : List Placed
  pub waits_so : Waits cells later rest
  pub rows : list ≡ placed_of row ∷ rest

pub waiting_met : (cells : ℕ → Option Cell) (front later : List Waiting) (next : Waiting) (cell : Cell) (list : List Placed) → next.at ≢ 0 → Waits cells (front ++ next ∷ []) list → cells next.at ≡ Some cell
    → later ≡ (front ++ waits next.parent ((alone cell).twin ∷ [])) ++ waits (Some cell.name) cell.children → Meets cells later (row_at next.at next.parent cell) list
waiting_met cells front later next cell list some w stands is = by (last_waiting cells front next list w)
  where
    at_twins : (before : List Chain) (parent : Option Ilk) (twins : Twins) → map waits_for before ≡ front → parent ≡ next.parent → first_of twins ≡ next.at → AllHang (seen false cells) before → Hangs (seen false cells) twins → list ≡ list_of parent twins ++ rows_waiting before
        → Meets cells later (row_at next.at next.parent cell) list
    at_twins before parent no_segment are under first hang h rows = absurd (some (sym first))
    at_twins before parent (segment s below others) are under first hang h rows =
        let sees : alone cell ≡ cell_of s below others = some_is (alone cell) (cell_of s below others) (sym (ap (option_map alone) stands) ∙ ap (seen false cells) (sym first) ∙ h.1) in
        let name : s.name ≡ cell.name = sym (sym (alone_name cell) ∙ ap (λ (c : Cell). c.name) sees) in
        let code : s.code ≡ cell.code = sym (sym (alone_code cell) ∙ ap (λ (c : Cell). c.code) sees) in
        let content : s.content ≡ cell.content = sym (sym (alone_content cell) ∙ ap (λ (c : Cell). c.content) sees) in
        let children : cell.children ≡ firsts_of below = sym (alone_children cell) ∙ ap (λ (c : Cell). c.children) sees in
        let twin : (alone cell).twin ≡ first_of others = ap (λ (c : Cell). c.twin) sees in
        let low : List Placed = list_in (Some s.name) below in
        let high : List Placed = list_of parent others in
        let beside : List Chain = before ++ (parent, others) ∷ [] in
        let waiting : map waits_for (beside ++ entries (Some s.name) below) ≡ (front ++ record { at = first_of others; parent = parent } ∷ []) ++ waits (Some s.name) (firsts_of below) =
        waiting_behind beside (entries (Some s.name) below) ∙ ap (λ l. map waits_for beside ++ l) (entries_wait (Some s.name) below)
        ∙ ap (λ l. l ++ waits (Some s.name) (firsts_of below)) (waiting_behind before ((parent, others) ∷ []) ∙ ap (λ l. l ++ record { at = first_of others; parent = parent } ∷ []) are) in
        let same : later ≡ (front ++ record { at = first_of others; parent = parent } ∷ []) ++ waits (Some s.name) (firsts_of below) =
        is ∙ (λ i. (front ++ record { at = twin i; parent = sym under i } ∷ []) ++ waits (Some (sym name i)) (children i)) in
        record {
          rest = low ++ (high ++ rows_waiting before);
          waits_so = record {
            chains = beside ++ entries (Some s.name) below;
            are = waiting ∙ sym same;
            hang = all_hang (seen false cells) beside (entries (Some s.name) below) (all_hang (seen false cells) before ((parent, others) ∷ []) hang (h.3, tt)) (entries_hang (seen false cells) (Some s.name) below (h.2));
            rows = rows_behind beside (entries (Some s.name) below) ∙ ap (λ l. l ++ rows_waiting beside) (entries_listed (Some s.name) below) ∙ ap (λ l. low ++ l) (rows_behind before ((parent, others) ∷ []));
          };
          rows = rows ∙ ap (λ l. placed parent s ∷ l) (append_assoc low high (rows_waiting before))
              ∙ (λ i. record { home = first i; row = record { name = name i; code = code i; parent = under i; content = content i } } ∷ (low ++ (high ++ rows_waiting before)));
        }

    by : Last (seen false cells) front next list → Meets cells later (row_at next.at next.parent cell) list
    by l = at_twins l.before l.parent l.twins l.are l.under l.first l.hang l.hangs l.rows

-- ---- how far the walk has come

-- of the rows that waited first those that were met come, and then those that wait still
pub record Walked (cells : ℕ → Option Cell) (first waiting : List Waiting) (before rows : List HomedRow) (list : List Placed) : Type 0 where
  pub rest : List Placed
  pub waits_so : Waits cells waiting rest
  pub rows_are : map placed_of before ++ list ≡ map placed_of rows ++ rest

abbrev pub Walks : (ℕ → Option Cell) → (first waiting : List Waiting) → (before rows : List HomedRow) → Type 0
Walks cells first waiting before rows = (list : List Placed) → Waits cells first list → Walked cells first waiting before rows list

pub walk_begun : (cells : ℕ → Option Cell) (first : List Waiting) (rows : List HomedRow) → Walks cells first first rows rows
walk_begun cells first rows list w = record { rest = list; waits_so = w; rows_are = refl }

pub walk_none : (cells : ℕ → Option Cell) (first front waiting : List Waiting) (next : Waiting) (before rows : List HomedRow) → waiting ≡ front ++ next ∷ [] → next.at ≡ 0 → Walks cells first waiting before rows → Walks cells first front before rows
walk_none cells first front waiting next before rows is none walks list w =
    let p = walks list w in
    record { rest = p.rest; waits_so = none_waits cells front next p.rest none (subst (λ (l : List Waiting). Waits cells l p.rest) is p.waits_so); rows_are = p.rows_are }

mapped_behind : (xs : List HomedRow) (x : HomedRow) → map placed_of (xs ++ x ∷ []) ≡ map placed_of xs ++ placed_of x ∷ []
mapped_behind [] x = refl
mapped_behind (y ∷ xs) x = ap (λ l. placed_of y ∷ l) (mapped_behind xs x)

pub walk_met : (cells : ℕ → Option Cell) (first front waiting : List Waiting) (next : Waiting) (before : List HomedRow) (old new : Walk) → waiting ≡ front ++ next ∷ [] → next.at ≢ 0 → Walks cells first waiting before old.rows → old.waiting.items ≡ front → MeetsRow cells next old new
    → Walks cells first new.waiting.items before new.rows
walk_met cells first front waiting next before old new is some walks rest_is meets list w =
    let p = walks list w in
    let later = meets.waiting ∙ ap (λ l. (l ++ waits next.parent ((alone meets.cell).twin ∷ [])) ++ waits (Some meets.cell.name) meets.cell.children) rest_is in
    let m = waiting_met cells front new.waiting.items next meets.cell p.rest some (subst (λ (l : List Waiting). Waits cells l p.rest) is p.waits_so) meets.stands later in
    let row : HomedRow = row_at next.at next.parent meets.cell in
    record {
      rest = m.rest;
      waits_so = m.waits_so;
      rows_are = p.rows_are ∙ ap (λ l. map placed_of old.rows ++ l) m.rows ∙ sym (append_assoc (map placed_of old.rows) (placed_of row ∷ []) m.rest)
          ∙ ap (λ l. l ++ m.rest) (sym (ap (map placed_of) meets.rows ∙ mapped_behind old.rows row));
    }

pub walk_done : (cells : ℕ → Option Cell) (first waiting : List Waiting) (before rows : List HomedRow) → waiting ≡ [] → Walks cells first waiting before rows → (list : List Placed) → Waits cells first list → map placed_of rows ≡ map placed_of before ++ list
walk_done cells first waiting before rows none walks list w =
    let p = walks list w in
    let rest : p.rest ≡ [] = none_of p.waits_so.chains (p.waits_so.are ∙ none) p.rest p.waits_so.rows in
    sym (p.rows_are ∙ ap (λ l. map placed_of rows ++ l) rest ∙ append-nil (map placed_of rows))
  where
    none_of : (chains : List Chain) → map waits_for chains ≡ [] → (list : List Placed) → rows_waiting chains ≡ list → list ≡ []
    none_of [] e list is = sym is
    none_of (x ∷ chains) e list is = absurd (let wrong : waits_for x ∷ map waits_for chains ≡ [] = e in cc)

-- the chains of a side wait
pub side_waits : (cells : ℕ → Option Cell) (trees : Chains) (waiting : List Waiting) → HangIn (seen false cells) trees → waiting ≡ waits None (firsts_of trees) → Waits cells waiting (list_in None trees)
side_waits cells trees waiting hang is = record { chains = entries None trees; are = entries_wait None trees ∙ sym is; hang = entries_hang (seen false cells) None trees hang; rows = entries_listed None trees }

-- ---- on the shelf

-- how far the walk has come
pub record WalkWay (cells : SideCells) (first : List Waiting) (before : List HomedRow) (now : Walk) (steady : Type 0) (old new : ShelfView) : Type 0 where
  pub live : new.live ≡ true
  pub stands : StandsForSide cells new
  pub most : ℕ
  pub reads : OnlyReads most steady ⊥ old new
  pub walks : IsTold cells old → Walks (cells_of cells old) first now.waiting.items before now.rows

pub way_begun : (cells : SideCells) (now : Walk) (steady : Type 0) (old : ShelfView) → old.live ≡ true → StandsForSide cells old → steady → WalkWay cells now.waiting.items now.rows now steady old old
way_begun cells now steady old live stands is = record {
  live = live;
  stands = stands;
  most = 0;
  reads = reads_begun steady old is live;
  walks = λ told. walk_begun (cells_of cells old) now.waiting.items now.rows;
}

pub way_none : (cells : SideCells) (first : List Waiting) (before : List HomedRow) (front : List Waiting) (next : Waiting) (now later : Walk) (steady : Type 0) (old new : ShelfView) → now.waiting.items ≡ front ++ next ∷ [] → next.at ≡ 0 → later.waiting.items ≡ front → later.rows ≡ now.rows
    → WalkWay cells first before now steady old new → WalkWay cells first before later steady old new
way_none cells first before front next now later steady old new is none left rows way = record {
  live = way.live;
  stands = way.stands;
  most = way.most;
  reads = way.reads;
  walks = λ told.
      subst (λ (l : List HomedRow). Walks (cells_of cells old) first later.waiting.items before l) (sym rows)
      (subst (λ (l : List Waiting). Walks (cells_of cells old) first l before now.rows) (sym left) (walk_none (cells_of cells old) first front now.waiting.items next before now.rows is none (way.walks told)));
}

pub way_holds : (cells : SideCells) (first : List Waiting) (before : List HomedRow) (front : List Waiting) (next : Waiting) (now : Walk) (steady : Type 0) (old new : ShelfView) → (IsTold cells old → CanWait (cells_of cells old) first) → now.waiting.items ≡ front ++ next ∷ [] → next.at ≢ 0
    → WalkWay cells first before now steady old new → Holds cells new next.at (λ _. ⊤)
way_holds cells first before front next now steady old new can is some way told =
    let was = told_before cells old new way.reads.same told in
    let (list, w) = can was in
    let p = way.walks was list w in
    let x = waiting_stands (cells_of cells old) front next p.rest some (subst (λ (l : List Waiting). Waits (cells_of cells old) l p.rest) is p.waits_so) in
    (x.cell, ap (λ (f : ℕ → Option Cell). f next.at) (cells_as cells old new way.reads.same) ∙ x.is, tt)

pub way_met : {s t f : Type 0} (cells : SideCells) (first : List Waiting) (before : List HomedRow) (front : List Waiting) (next : Waiting) (now popped later : Walk) (steady : Type 0) (n : ℕ) (old mid new : ShelfView) → now.waiting.items ≡ front ++ next ∷ [] → next.at ≢ 0 → popped.waiting.items ≡ front
    → popped.rows ≡ now.rows → WalkWay cells first before now s old mid → StandsForSide cells new → OnlyReads n t f mid new → (f → ⊥) → (s → t → steady) → (IsTold cells mid → MeetsRow (cells_of cells mid) next popped later) → WalkWay cells first before later steady old new
way_met cells first before front next now popped later steady n old mid new is some left rows way stands reads fine both meets = record {
  live = reads.keeps.faults.alive fine;
  stands = stands;
  most = way.most + n;
  reads = reads_fail (way.most + n) old new (reads_then way.most n old mid new way.reads reads both) fine (λ no. absurd no);
  walks = λ told.
      let met = subst (λ (f : ℕ → Option Cell). MeetsRow f next popped later) (cells_as cells old mid way.reads.same) (meets (told_same cells old mid way.reads.same told)) in
      walk_met (cells_of cells old) first front now.waiting.items next before popped later is some (subst (λ (l : List HomedRow). Walks (cells_of cells old) first now.waiting.items before l) (sym rows) (way.walks told)) left met;
}

pub way_done : (cells : SideCells) (old_walk now : Walk) (steady : Type 0) (old new : ShelfView) → now.waiting.items ≡ [] → WalkWay cells old_walk.waiting.items old_walk.rows now steady old new → (later : Walk) → later.rows ≡ now.rows → MeetsAll cells old old_walk later
way_done cells old_walk now steady old new none way later same told list w =
    ap (map placed_of) same ∙ walk_done (cells_of cells old) old_walk.waiting.items now.waiting.items old_walk.rows now.rows none (way.walks told) list w

-- ---- the side

pub can_wait : (records : Records) (old mid : ShelfView) (waiting : List Waiting) (homes : List ℕ) → StandsForRecords records old → Alike old → SameShelf old mid → HasRootHomes records.roots old homes → waiting ≡ waits None homes
    → (trees : Chains) → SideWalks records old trees → Waits (cells_of records.cells mid) waiting (list_in None trees)
can_wait records old mid waiting homes stands alike same fact is trees walks =
    let (pages, told) = told_pages records.cells.first records.roots.set old alike walks.told in
    let w = walks.side.walked in
    let firsts : firsts_of trees ≡ homes = w.rows_lead ∙ ap (λ (o : Option (List (List ℕ))). map (λ (row : RootRow). row.home) (root_rows records.roots.shape o)) told ∙ sym (fact pages told) in
    subst (λ (f : ℕ → Option Cell). Waits f waiting (list_in None trees)) (sym (cells_as records.cells old mid same))
    (side_waits (cells_seen records old) trees waiting (subst (λ (b : Bool). HangIn (seen b (cells_seen records old)) trees) stands.of.kind w.hangs) (is ∙ ap (waits None) (sym firsts)))

-- nothing came from what waits
pub none_waiting : {X : Type 0} (list rest : List X) (n : ℕ) (last : Option X) → last ≡ None → list ≡ rest ++ option_to_list last → rest ≡ take (n - 1) list → (0 < n → IsSome last) → list ≡ []
none_waiting list rest zero last none whole front some = whole ∙ ap (λ l. l ++ option_to_list last) front ∙ ap (λ o. option_to_list o) none
none_waiting list rest (suc n) last none whole front some = absurd (false≢true (subst (λ o. IsSome o) none (some (omega arith))))
