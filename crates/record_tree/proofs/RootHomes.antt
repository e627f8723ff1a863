-- The homes of all roots: the rows of the root set, one behind the other.
use Rattle.std.proofs.Common.{◌≡◌, ℕ, suc, ◌+◌, Bool, true, cond, List, [], ◌∷◌, ◌++◌, map, Option, None, Some, refl, sym, ap, subst, ◌∙◌, arith}
use Rattle.std.specs.Prelude.{Contains, IfSome}
use Rattle.std.specs.Int.{w32, from_be_bytes}
use Rattle.std.proofs.lemmas.List.{append_assoc, append-nil}
use Rattle.hal_base.specs.ShelfCalls.{ShelfView, OnlyReads, SameShelf}
use Rattle.keyed_sets.specs.declared.row.RowShape.{RowShape}
use Rattle.keyed_sets.specs.declared.set.KeyedSet.{KeyedSet}
use Rattle.keyed_sets.specs.Calls.{Gives, IsOpened}
use Rattle.keyed_sets.specs.Layout.{Row, is_below}
use Rattle.keyed_sets.specs.Map.{RowsRise, first_above, next_after, rows_of}
use Rattle.keyed_sets.proofs.Keys.{below_both, below_itself, below_false}
use Rattle.record_walk.specs.Side.{RootRow}
use Rattle.record_tree.specs.Sides.{root_row}
use Rattle.record_tree.specs.Walking.{HasRootHomes}
use Rattle.record_tree.proofs.Reading.{reads_begun, reads_fail, reads_then}
use Rattle.record_tree.proofs.RootRows.{if_at}
use Rattle.record_tree.proofs.Seen.{some_is}

-- the first of the rows
abbrev pub first_row : List Row → Option Row
first_row [] = None
first_row (row ∷ rows) = Some row

first_after : (rows : List Row) → next_after None rows ≡ first_row rows
first_after [] = refl
first_after (row ∷ rows) = refl

-- a row stands behind these
stands_behind : (front : List Row) (row : Row) (rest : List Row) → Contains (front ++ row ∷ rest) row
stands_behind [] row rest = (0, omega arith, refl)
stands_behind (x ∷ front) row rest = let (k, lt, e) = stands_behind front row rest in (suc k, omega (arith, lt), e)

-- the rows behind one of them
above_row : (front : List Row) (row : Row) (rest : List Row) → RowsRise (front ++ row ∷ rest) → first_above (row.0) (front ++ row ∷ rest) ≡ first_row rest
above_row [] row rest rise = ap (λ (b : Bool). cond b (Some row) (first_above (row.0) rest)) (below_false (row.0) (row.0) (λ e. below_itself (row.0) (row.0) e refl)) ∙ by rest (rise.0)
  where
    by : (list : List Row) → ((y : Row) → Contains list y → is_below (row.0) (y.0) ≡ true) → first_above (row.0) list ≡ first_row list
    by [] above = refl
    by (y ∷ list) above = ap (λ (b : Bool). cond b (Some y) (first_above (row.0) list)) (above y (0, omega arith, refl))
above_row (x ∷ front) row rest rise =
    ap (λ (b : Bool). cond b (Some x) (first_above (row.0) (front ++ row ∷ rest))) (below_false (row.0) (x.0) (λ e. below_both (row.0) (x.0) e (rise.0 row (stands_behind front row rest)))) ∙ above_row front row rest (rise.1)

abbrev pub home_of : Row → ℕ
home_of row = from_be_bytes w32 (row.1)

-- the homes of the rows at the front were taken, and behind this key stands the next one
pub record Taken (rows : List Row) (key : Option (List ℕ)) (taken : List ℕ) : Type 0 where
  pub front : List Row
  pub rest : List Row
  pub whole : rows ≡ front ++ rest
  pub homes : taken ≡ map home_of front
  pub next : next_after key rows ≡ first_row rest

pub none_taken : (rows : List Row) (taken : List ℕ) → taken ≡ [] → Taken rows None taken
none_taken rows taken none = record { front = []; rest = rows; whole = refl; homes = none; next = first_after rows }

mapped_behind : (xs : List Row) (x : Row) → map home_of (xs ++ x ∷ []) ≡ map home_of xs ++ home_of x ∷ []
mapped_behind [] x = refl
mapped_behind (y ∷ xs) x = ap (λ l. home_of y ∷ l) (mapped_behind xs x)

pub one_taken : (rows : List Row) (key : Option (List ℕ)) (taken later : List ℕ) (row : Row) → RowsRise rows → Taken rows key taken → next_after key rows ≡ Some row → later ≡ taken ++ home_of row ∷ [] → Taken rows (Some (row.0)) later
one_taken rows key taken later row rise t is more = by t.front t.rest t.whole t.homes (sym t.next ∙ is)
  where
    by : (front rest : List Row) → rows ≡ front ++ rest → taken ≡ map home_of front → first_row rest ≡ Some row → Taken rows (Some (row.0)) later
    by front [] whole homes e = absurd (let none : None ≡ Some row = e in cc)
    by front (x ∷ rest) whole homes e =
        let same : x ≡ row = some_is x row e in
        let here : rows ≡ front ++ row ∷ rest = whole ∙ ap (λ (y : Row). front ++ y ∷ rest) same in
        record {
          front = front ++ row ∷ [];
          rest = rest;
          whole = here ∙ sym (append_assoc front (row ∷ []) rest);
          homes = more ∙ ap (λ l. l ++ home_of row ∷ []) homes ∙ sym (mapped_behind front row);
          next = ap (first_above (row.0)) here ∙ above_row front row rest (subst (λ (l : List Row). RowsRise l) here rise);
        }

homes_are : (rows : List Row) → map home_of rows ≡ map (λ (r : RootRow). r.home) (map root_row rows)
homes_are [] = refl
homes_are (row ∷ rows) = ap (λ l. home_of row ∷ l) (homes_are rows)

pub all_taken : (rows : List Row) (key : Option (List ℕ)) (taken : List ℕ) → Taken rows key taken → next_after key rows ≡ None → taken ≡ map (λ (r : RootRow). r.home) (map root_row rows)
all_taken rows key taken t is = by t.front t.rest t.whole t.homes (sym t.next ∙ is)
  where
    by : (front rest : List Row) → rows ≡ front ++ rest → taken ≡ map home_of front → first_row rest ≡ None → taken ≡ map (λ (r : RootRow). r.home) (map root_row rows)
    by front [] whole homes e = homes ∙ ap (map home_of) (sym (whole ∙ append-nil front)) ∙ homes_are rows
    by front (x ∷ rest) whole homes e = absurd (let some : Some x ≡ None = e in cc)

-- ---- on the shelf

abbrev pub TakesHomes : KeyedSet → ShelfView → Option (List ℕ) → List ℕ → Type 0
TakesHomes roots shelf key taken = (pages : List (List ℕ)) → shelf.pages roots.set ≡ Some pages → Taken (rows_of roots.shape pages) key taken

-- how far the reading has come
pub record HomesWay (roots now : KeyedSet) (key : Option (List ℕ)) (taken : List ℕ) (steady : Type 0) (old new : ShelfView) : Type 0 where
  pub live : new.live ≡ true
  pub is : now ≡ roots
  pub opened : IsOpened now new
  pub most : ℕ
  pub reads : OnlyReads most steady ⊥ old new
  pub takes : TakesHomes roots old key taken

pub homes_begun : (roots : KeyedSet) (taken : List ℕ) (steady : Type 0) (old : ShelfView) → old.live ≡ true → IsOpened roots old → steady → taken ≡ [] → HomesWay roots roots None taken steady old old
homes_begun roots taken steady old live opened is none = record {
  live = live;
  is = refl;
  opened = opened;
  most = 0;
  reads = reads_begun steady old is live;
  takes = λ pages told. none_taken (rows_of roots.shape pages) taken none;
}

-- the row that was read
row_given : (roots now : KeyedSet) (old mid : ShelfView) (key : Option (List ℕ)) (row : Option Row) → now ≡ roots → SameShelf old mid → Gives now mid (next_after key) row → (pages : List (List ℕ)) → old.pages roots.set ≡ Some pages → next_after key (rows_of roots.shape pages) ≡ row
row_given roots now old mid key row is same gives pages told =
    sym (if_at (mid.pages roots.set) pages (λ p. row ≡ next_after key (rows_of roots.shape p)) (same.pages roots.set ∙ told)
    (subst (λ (s : KeyedSet). IfSome (mid.pages s.set) (λ p. row ≡ next_after key (rows_of s.shape p))) is gives.is))

pub homes_taken : {s t f : Type 0} → ((shape : RowShape) (pages : List (List ℕ)) → RowsRise (rows_of shape pages)) → (roots now then : KeyedSet) (key : Option (List ℕ)) (taken later : List ℕ) (row : Row) (steady : Type 0) (n : ℕ) (old mid new : ShelfView)
    → HomesWay roots now key taken s old mid → Gives now mid (next_after key) (Some row) → then ≡ now → IsOpened then new → OnlyReads n t f mid new → (f → ⊥) → (s → t → steady) → later ≡ taken ++ home_of row ∷ [] → HomesWay roots then (Some (row.0)) later steady old new
homes_taken rise roots now then key taken later row steady n old mid new way gives same opened reads fine both more = record {
  live = reads.keeps.faults.alive fine;
  is = same ∙ way.is;
  opened = opened;
  most = way.most + n;
  reads = reads_fail (way.most + n) old new (reads_then way.most n old mid new way.reads reads both) fine (λ no. absurd no);
  takes = λ pages told. one_taken (rows_of roots.shape pages) key taken later row (rise roots.shape pages) (way.takes pages told) (row_given roots now old mid key (Some row) way.is way.reads.same gives pages told) more;
}

pub homes_done : (roots now : KeyedSet) (key : Option (List ℕ)) (taken : List ℕ) (steady : Type 0) (old mid : ShelfView) → HomesWay roots now key taken steady old mid → Gives now mid (next_after key) None → HasRootHomes roots old taken
homes_done roots now key taken steady old mid way gives pages told = all_taken (rows_of roots.shape pages) key taken (way.takes pages told) (row_given roots now old mid key None way.is way.reads.same gives pages told)
