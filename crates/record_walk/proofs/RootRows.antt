-- What is seen of changed cells, and rows of the root set that come and go.
use Rattle.std.proofs.Common.{◌≡◌, ℕ, zero, suc, ◌+◌, ◌<◌, ◌≤◌, ◌==◌, ◌&&◌, Bool, true, false, not, cond, List, [], ◌∷◌, ◌++◌, length, insert, slice_get, Option, None, Some, refl, sym, ap, ◌∙◌, arith}
use Rattle.std.specs.Prelude.{count_by}
use Rattle.std.specs.List.{remove}
use Rattle.std.specs.Option.{option_map, option_map_or}
use Rattle.std.proofs.lemmas.List.Sums.{sum_by-cons}
use Rattle.hal_schema.specs.declared.schema.SegType.{SegType}
use Rattle.hal_schema.specs.declared.schema.Schema.{Schema}
use Rattle.segment_blocks.specs.declared.tile.Cell.{Cell}
use Rattle.record_walk.specs.Tree.{Occurrence, no_segment, segment, Chains, no_chain, chain, first_of, firsts_of, HangIn, times, times_in, are_of, are_roots}
use Rattle.record_walk.specs.Listing.{Placed, list_of, list_in}
use Rattle.record_walk.specs.Pointers.{Behind, Below}
use Rattle.record_walk.specs.Side.{alone, seen}
use Rattle.record_walk.specs.Changes.{set_in_cell, set_content, new_cell}
use Rattle.record_walk.specs.Spans.{AreRecords}
use Rattle.record_walk.specs.Roots.{has_twins, SeenFollows, with_row, without_row, SameList, RowsComeAndGo, HomesAreListed}
use Rattle.record_walk.proofs.OnLists.{count, counted_in}

-- ---- what is seen

seen_same : (phdam : Bool) (cells now : ℕ → Option Cell) (home : ℕ) → now home ≡ cells home → seen phdam now home ≡ seen phdam cells home
seen_same true cells now home e = e
seen_same false cells now home e = ap (option_map alone) e

seen_free : (phdam : Bool) (cells : ℕ → Option Cell) (home : ℕ) → cells home ≡ None → seen phdam cells home ≡ None
seen_free true cells home e = e
seen_free false cells home e = ap (option_map alone) e

seen_new : (phdam : Bool) (cells : ℕ → Option Cell) (new : Occurrence) (kinds twin : ℕ) → cells new.home ≡ Some (new_cell new kinds twin) → seen phdam cells new.home ≡ Some (new_cell new kinds (cond (has_twins phdam new.code) twin 0))
seen_new true cells new kinds twin e = e
seen_new false cells new kinds twin e = ap (option_map alone) e ∙ by (new.code == 1)
  where
    by : (b : Bool) → Some (cond b (record (new_cell new kinds twin) { twin = 0 }) (new_cell new kinds twin)) ≡ Some (new_cell new kinds (cond (not b) twin 0))
    by true = refl
    by false = refl

child_alone : (above place to : ℕ) (o : Option Cell) → option_map alone (option_map (set_in_cell (Below above place) to) o) ≡ option_map (set_in_cell (Below above place) to) (option_map alone o)
child_alone above place to None = refl
child_alone above place to (Some cell) = by (cell.code == 1)
  where
    by : (b : Bool) → Some (cond b (record (set_in_cell (Below above place) to cell) { twin = 0 }) (set_in_cell (Below above place) to cell)) ≡ Some (set_in_cell (Below above place) to (cond b (record cell { twin = 0 }) cell))
    by true = refl
    by false = refl

seen_child : (phdam : Bool) (cells now : ℕ → Option Cell) (above place to : ℕ) → now above ≡ option_map (set_in_cell (Below above place) to) (cells above)
    → seen phdam now above ≡ option_map (set_in_cell (Below above place) to) (seen phdam cells above)
seen_child true cells now above place to e = e
seen_child false cells now above place to e = ap (option_map alone) e ∙ child_alone above place to (cells above)

twin_alone : (prior to : ℕ) (cell : Cell) → not (cell.code == 1) ≡ true → option_map alone (option_map (set_in_cell (Behind prior) to) (Some cell)) ≡ option_map (set_in_cell (Behind prior) to) (option_map alone (Some cell))
twin_alone prior to cell h = by (cell.code == 1) h
  where
    by : (b : Bool) → not b ≡ true → Some (cond b (record (set_in_cell (Behind prior) to cell) { twin = 0 }) (set_in_cell (Behind prior) to cell)) ≡ Some (set_in_cell (Behind prior) to (cond b (record cell { twin = 0 }) cell))
    by true h = cc
    by false h = refl

seen_twin : (phdam : Bool) (cells now : ℕ → Option Cell) (prior to : ℕ) (cell : Cell) → cells prior ≡ Some cell → has_twins phdam cell.code ≡ true → now prior ≡ option_map (set_in_cell (Behind prior) to) (cells prior)
    → seen phdam now prior ≡ option_map (set_in_cell (Behind prior) to) (seen phdam cells prior)
seen_twin true cells now prior to cell is h e = e
seen_twin false cells now prior to cell is h e =
    ap (option_map alone) (e ∙ ap (option_map (set_in_cell (Behind prior) to)) is) ∙ twin_alone prior to cell h ∙ ap (λ (o : Option Cell). option_map (set_in_cell (Behind prior) to) (option_map alone o)) (sym is)

content_alone : (content : List ℕ) (o : Option Cell) → option_map alone (option_map (set_content content) o) ≡ option_map (set_content content) (option_map alone o)
content_alone content None = refl
content_alone content (Some cell) = by (cell.code == 1)
  where
    by : (b : Bool) → Some (cond b (record cell { content = content; twin = 0 }) (record cell { content = content })) ≡ Some (record (cond b (record cell { twin = 0 }) cell) { content = content })
    by true = refl
    by false = refl

seen_content : (phdam : Bool) (cells now : ℕ → Option Cell) (home : ℕ) (content : List ℕ) → now home ≡ option_map (set_content content) (cells home)
    → seen phdam now home ≡ option_map (set_content content) (seen phdam cells home)
seen_content true cells now home content e = e
seen_content false cells now home content e = ap (option_map alone) e ∙ content_alone content (cells home)

pub seen_follows : SeenFollows
seen_follows = record { same = seen_same; free = seen_free; new = seen_new; child = seen_child; twin = seen_twin; content = seen_content }

-- ---- rows that come

pub record SameTrees (types : List SegType) (old now : Chains) : Type 0 where
  pub list : list_in None now ≡ list_in None old
  pub typed : are_roots types now ≡ are_roots types old
  pub met : (home : ℕ) → times_in home now ≡ times_in home old

pub came : (types : List SegType) (place : ℕ) (trees : Chains) → SameTrees types trees (with_row place trees)
came types zero trees = record { list = refl; typed = refl; met = λ home. omega arith }
came types (suc place) no_chain = record { list = refl; typed = refl; met = λ home. refl }
came types (suc place) (chain twins more) =
    let rest = came types place more in
    record {
      list = ap (λ l. list_of None twins ++ l) rest.list;
      typed = ap (λ (b : Bool). are_of types 1 twins && b) rest.typed;
      met = λ home. ap (λ (n : ℕ). times home twins + n) (rest.met home);
    }

pub came_hangs : (cells : ℕ → Option Cell) (place : ℕ) (trees : Chains) → HangIn cells trees → HangIn cells (with_row place trees)
came_hangs cells zero trees h = (tt, h)
came_hangs cells (suc place) no_chain h = tt
came_hangs cells (suc place) (chain twins more) h = (h.0, came_hangs cells place more (h.1))

pub came_firsts : (place : ℕ) (trees : Chains) → place ≤ length (firsts_of trees) → firsts_of (with_row place trees) ≡ insert (firsts_of trees) place 0
came_firsts zero trees le = refl
came_firsts (suc place) no_chain le = absurd (omega (arith, le))
came_firsts (suc place) (chain twins more) le = ap (λ (l : List ℕ). first_of twins ∷ l) (came_firsts place more (omega (arith, le)))

-- ---- rows that go

pub gone : (types : List SegType) (cells : ℕ → Option Cell) (place : ℕ) (trees : Chains) → HangIn cells trees → slice_get (firsts_of trees) place ≡ Some 0 → SameTrees types trees (without_row place trees)
gone types cells place no_chain h e = record { list = refl; typed = refl; met = λ home. refl }
gone types cells zero (chain no_segment more) h e = record { list = refl; typed = refl; met = λ home. omega arith }
gone types cells zero (chain (segment s below next) more) h e =
    let some : 0 < s.home = h.0.0 in
    let none : s.home ≡ 0 = ap (λ (o : Option ℕ). option_map_or (λ n. n) o s.home) e in
    absurd (omega (arith, some, none))
gone types cells (suc place) (chain twins more) h e =
    let rest = gone types cells place more (h.1) e in
    record {
      list = ap (λ l. list_of None twins ++ l) rest.list;
      typed = ap (λ (b : Bool). are_of types 1 twins && b) rest.typed;
      met = λ home. ap (λ (n : ℕ). times home twins + n) (rest.met home);
    }

pub gone_hangs : (cells : ℕ → Option Cell) (place : ℕ) (trees : Chains) → HangIn cells trees → HangIn cells (without_row place trees)
gone_hangs cells place no_chain h = tt
gone_hangs cells zero (chain twins more) h = h.1
gone_hangs cells (suc place) (chain twins more) h = (h.0, gone_hangs cells place more (h.1))

pub gone_firsts : (place : ℕ) (trees : Chains) → firsts_of (without_row place trees) ≡ remove (firsts_of trees) place
gone_firsts zero no_chain = refl
gone_firsts (suc place) no_chain = refl
gone_firsts zero (chain twins more) = refl
gone_firsts (suc place) (chain twins more) = ap (λ (l : List ℕ). first_of twins ∷ l) (gone_firsts place more)

same_list : (schema : Schema) (cells : ℕ → Option Cell) (firsts after : List ℕ) (old now : Chains) → AreRecords schema cells firsts old → SameTrees schema.types old now → HangIn cells now → firsts_of now ≡ after → SameList schema cells after old now
same_list schema cells firsts after old now r same hang first = record {
  records = record {
    from = record { hang = hang; first = first };
    typed = same.typed ∙ r.typed;
    once = λ home. let m = same.met home in let o = r.once home in omega (arith, m, o);
  };
  list = same.list;
}

pub rows_come_and_go : RowsComeAndGo
rows_come_and_go = record {
  come = λ schema cells firsts trees place r le.
      let long = ap (λ (l : List ℕ). length l) r.from.first in
      same_list schema cells firsts (insert firsts place 0) trees (with_row place trees) r (came schema.types place trees) (came_hangs cells place trees r.from.hang)
      (came_firsts place trees (omega (arith, le, long)) ∙ ap (λ (l : List ℕ). insert l place 0) r.from.first);
  go = λ schema cells firsts trees place r e.
      same_list schema cells firsts (remove firsts place) trees (without_row place trees) r (gone schema.types cells place trees r.from.hang (ap (λ (l : List ℕ). slice_get l place) r.from.first ∙ e)) (gone_hangs cells place trees r.from.hang)
      (gone_firsts place trees ∙ ap (λ (l : List ℕ). remove l place) r.from.first);
}

-- ---- homes

counted_by : (home : ℕ) (list : List Placed) → count home list ≡ count_by (λ (p : Placed). p.home == home) list
unfolding count
counted_by home [] = refl
counted_by home (p ∷ list) = ap (λ (n : ℕ). cond {A = ℕ} (p.home == home) 1 0 + n) (counted_by home list) ∙ sym (sum_by-cons (λ (q : Placed). cond {A = ℕ} (q.home == home) 1 0) p list)

pub homes_are_listed : HomesAreListed
homes_are_listed home trees = counted_in home None trees ∙ counted_by home (list_in None trees)
