-- The way down a span: what is pending hangs as trees, whose cells together with those that were met are the span.
use Rattle.std.proofs.Common.{◌≡◌, ◌≢◌, ℕ, ◌+◌, ◌<◌, ◌≤◌, ◌==◌, Bool, true, false, cond, List, [], ◌∷◌, ◌++◌, Option, None, Some, ◌⊎◌, inl, inr, refl, sym, ap, subst, ◌∙◌, arith}
use Rattle.std.specs.Prelude.{option_and_then}
use Rattle.std.specs.Option.{option_map}
use Rattle.std.proofs.lemmas.List.{append_assoc}
use Rattle.segment_blocks.specs.declared.tile.Cell.{Cell}
use Rattle.free_space.specs.Map.{Alters, Drops}
use Rattle.record_walk.specs.Tree.{Occurrence, Twins, no_segment, segment, Chains, no_chain, chain, first_of, firsts_of, cell_of, Hangs, HangIn, here, times, times_in}
use Rattle.record_walk.specs.Side.{alone, seen}
use Rattle.record_walk.proofs.Homes.{here_itself, at_or_off}
use Rattle.record_walk.proofs.Hanging.{changes_outside_leave}
use Rattle.record_tree.specs.Cutting.{no_cell, marked}
use Rattle.record_tree.specs.Descending.{EndsCell, Meets, Pend, EndsTrees, HangsAt, EndsSpan, size, size_in}
use Rattle.record_tree.proofs.Seen.{some_is}

-- ---- the fate of one cell

pub gone_ends : (at : ℕ) (old new : ℕ → Option Cell) → Drops at old new → EndsCell no_cell at old new
gone_ends at old new drops = record { ended = drops.gone ∙ by (old at); elsewhere = drops.elsewhere }
  where
    by : (o : Option Cell) → None ≡ option_and_then no_cell o
    by None = refl
    by (Some cell) = refl

pub marked_ends : (at : ℕ) (old new : ℕ → Option Cell) → Alters at (λ cell. record cell { copied = true }) old new → EndsCell marked at old new
marked_ends at old new alters = record { ended = alters.altered ∙ by (old at); elsewhere = alters.elsewhere }
  where
    by : (o : Option Cell) → option_map (λ (cell : Cell). record cell { copied = true }) o ≡ option_and_then marked o
    by None = refl
    by (Some cell) = refl

-- ---- what the walk sees of one cell

pub alone_copied : (cell : Cell) → (alone cell).copied ≡ cell.copied
alone_copied cell = by (cell.code == 1)
  where
    by : (b : Bool) → (cond b (record cell { twin = 0 }) cell).copied ≡ cell.copied
    by true = refl
    by false = refl

pub alone_children : (cell : Cell) → (alone cell).children ≡ cell.children
alone_children cell = by (cell.code == 1)
  where
    by : (b : Bool) → (cond b (record cell { twin = 0 }) cell).children ≡ cell.children
    by true = refl
    by false = refl

pub record Seen (cells : ℕ → Option Cell) (at : ℕ) (other : Cell) : Type 0 where
  pub cell : Cell
  pub is : cells at ≡ Some cell
  pub same : alone cell ≡ other

pub seen_of : (cells : ℕ → Option Cell) (at : ℕ) (other : Cell) → seen false cells at ≡ Some other → Seen cells at other
seen_of cells at other e = by (cells at) refl e
  where
    by : (o : Option Cell) → cells at ≡ o → option_map alone o ≡ Some other → Seen cells at other
    by None f g = let none : None ≡ Some other = g in cc
    by (Some c) f g = record { cell = c; is = f; same = some_is (alone c) other g }

-- ---- chains behind chains

pub joined : Chains → Chains → Chains
joined no_chain others = others
joined (chain twins more) others = chain twins (joined more others)

joined_firsts : (one others : Chains) → firsts_of (joined one others) ≡ firsts_of one ++ firsts_of others
unfolding joined
joined_firsts no_chain others = refl
joined_firsts (chain twins more) others = ap (λ (l : List ℕ). first_of twins ∷ l) (joined_firsts more others)

joined_hang : (cells : ℕ → Option Cell) (one others : Chains) → HangIn cells one → HangIn cells others → HangIn cells (joined one others)
unfolding joined
joined_hang cells no_chain others h k = k
joined_hang cells (chain twins more) others h k = (h.0, joined_hang cells more others (h.1) k)

joined_met : (home : ℕ) (one others : Chains) → times_in home (joined one others) ≡ times_in home one + times_in home others
unfolding joined
joined_met home no_chain others = omega arith
joined_met home (chain twins more) others = let rest = joined_met home more others in omega (arith, rest)

joined_size : (one others : Chains) → size_in (joined one others) ≡ size_in one + size_in others
unfolding joined
joined_size no_chain others = omega arith
joined_size (chain twins more) others = let rest = joined_size more others in omega (arith, rest)

-- the last pending address, and the twins to which it leads
pub record Popped (cells : ℕ → Option Cell) (front : List ℕ) (at : ℕ) (trees : Chains) : Type 0 where
  pub before : Chains
  pub twins : Twins
  pub firsts : firsts_of before ≡ front
  pub first : first_of twins ≡ at
  pub hang : HangIn cells before
  pub hangs : Hangs cells twins
  pub met : (home : ℕ) → times_in home trees ≡ times_in home before + times home twins
  pub many : size_in trees ≡ size_in before + size twins

head_is : (x y : ℕ) (xs ys : List ℕ) → x ∷ xs ≡ y ∷ ys → (x ≡ y) × (xs ≡ ys)
head_is x y xs ys e = (cc, cc)

no_more : (x y : ℕ) (xs : List ℕ) (z : ℕ) → x ∷ (y ∷ xs) ≡ z ∷ [] → ⊥
no_more x y xs z e = let wrong : y ∷ xs ≡ [] = (head_is x z (y ∷ xs) [] e).1 in cc

pub popped : (cells : ℕ → Option Cell) (front : List ℕ) (at : ℕ) (trees : Chains) → firsts_of trees ≡ front ++ at ∷ [] → HangIn cells trees → Popped cells front at trees
popped cells [] at no_chain e h = absurd (let wrong : [] ≡ at ∷ [] = e in cc)
popped cells (x ∷ front) at no_chain e h = absurd (let wrong : [] ≡ x ∷ (front ++ at ∷ []) = e in cc)
popped cells [] at (chain twins no_chain) e h = record {
  before = no_chain;
  twins = twins;
  firsts = refl;
  first = (head_is (first_of twins) at [] [] e).0;
  hang = tt;
  hangs = h.0;
  met = λ home. omega arith;
  many = omega arith;
}
popped cells [] at (chain twins (chain others more)) e h = absurd (no_more (first_of twins) (first_of others) (firsts_of more) at e)
popped cells (x ∷ front) at (chain twins more) e h =
    let same = head_is (first_of twins) x (firsts_of more) (front ++ at ∷ []) e in
    let rest = popped cells front at more same.1 (h.1) in
    record {
      before = chain twins rest.before;
      twins = rest.twins;
      firsts = (λ i. same.0 i ∷ rest.firsts i);
      first = rest.first;
      hang = (h.0, rest.hang);
      hangs = rest.hangs;
      met = λ home. let m = rest.met home in omega (arith, m);
      many = let m = rest.many in omega (arith, m);
    }

-- ---- how far the descent has come

-- `rest` hangs from what is pending; the cells of `whole` that it doesn't meet have their fate, and are so many
pub record Progress (fate : Cell → Option Cell) (whole : Chains) (pending : List ℕ) (steps : ℕ) (old now : ℕ → Option Cell) : Type 0 where
  pub rest : Chains
  pub many : steps + size_in rest ≡ size_in whole
  pub pend : Pend now pending rest
  pub fewer : (home : ℕ) → times_in home rest ≤ times_in home whole
  pub left : (home : ℕ) → 0 < times_in home rest → now home ≡ old home
  pub ended : (home : ℕ) → 0 < times_in home whole → times_in home rest ≡ 0 → now home ≡ option_and_then fate (old home)
  pub elsewhere : (home : ℕ) → times_in home whole ≡ 0 → now home ≡ old home

abbrev pub Goes : (Cell → Option Cell) → List ℕ → List ℕ → ℕ → (ℕ → Option Cell) → (ℕ → Option Cell) → Type 0
Goes fate first pending steps old now = (whole : Chains) → Pend old first whole → Progress fate whole pending steps old now

pub begun : (fate : Cell → Option Cell) (first : List ℕ) (cells : ℕ → Option Cell) → Goes fate first first 0 cells cells
begun fate first cells whole p = record {
  rest = whole;
  many = omega arith;
  pend = p;
  fewer = λ home. omega arith;
  left = λ home m. refl;
  ended = λ home m none. absurd (omega (arith, m, none));
  elsewhere = λ home none. refl;
}

-- an address that is none
pub passed_none : (fate : Cell → Option Cell) (whole : Chains) (front : List ℕ) (steps : ℕ) (old now : ℕ → Option Cell) → Progress fate whole (front ++ 0 ∷ []) steps old now → Progress fate whole front steps old now
passed_none fate whole front steps old now p = by (popped (seen false now) front 0 p.rest p.pend.firsts p.pend.hang)
  where
    none_met : (home : ℕ) (twins : Twins) → first_of twins ≡ 0 → Hangs (seen false now) twins → times home twins ≡ 0
    none_met home no_segment e h = refl
    none_met home (segment s below next) e h = let some = h.0 in absurd (omega (arith, some, e))

    none_many : (twins : Twins) → first_of twins ≡ 0 → Hangs (seen false now) twins → size twins ≡ 0
    none_many no_segment e h = refl
    none_many (segment s below next) e h = let some = h.0 in absurd (omega (arith, some, e))

    by : Popped (seen false now) front 0 p.rest → Progress fate whole front steps old now
    by x =
        let same : (home : ℕ) → times_in home p.rest ≡ times_in home x.before = λ home. let m = x.met home in let n = none_met home x.twins x.first x.hangs in omega (arith, m, n) in
        record {
          rest = x.before;
          many = let m = p.many in let n = x.many in let k = none_many x.twins x.first x.hangs in omega (arith, m, n, k);
          pend = record { hang = x.hang; firsts = x.firsts; once = λ home. let s = same home in let o = p.pend.once home in omega (arith, s, o) };
          fewer = λ home. let s = same home in let f = p.fewer home in omega (arith, s, f);
          left = λ home m. p.left home (let s = same home in omega (arith, s, m));
          ended = λ home m none. p.ended home m (same home ∙ none);
          elsewhere = p.elsewhere;
        }

-- the cell to which the last pending address leads
pub record Next (now : ℕ → Option Cell) (front : List ℕ) (at : ℕ) (rest : Chains) : Type 0 where
  pub before : Chains
  pub s : Occurrence
  pub below : Chains
  pub next : Twins
  pub cell : Cell
  pub is : now at ≡ Some cell
  pub sees : alone cell ≡ cell_of s below next
  pub home : s.home ≡ at
  pub firsts : firsts_of before ≡ front
  pub hang : HangIn (seen false now) (joined before (chain next below))
  pub met : (home : ℕ) → times_in home rest ≡ here home s + times_in home (joined before (chain next below))
  pub many : size_in rest ≡ 1 + size_in (joined before (chain next below))

pub next_of : (now : ℕ → Option Cell) (front : List ℕ) (at : ℕ) (rest : Chains) → at ≢ 0 → Pend now (front ++ at ∷ []) rest → Next now front at rest
next_of now front at rest some p = by (popped (seen false now) front at rest p.firsts p.hang)
  where
    at_twins : (before : Chains) (twins : Twins) → firsts_of before ≡ front → first_of twins ≡ at → HangIn (seen false now) before → Hangs (seen false now) twins
        → ((home : ℕ) → times_in home rest ≡ times_in home before + times home twins) → size_in rest ≡ size_in before + size twins → Next now front at rest
    at_twins before no_segment firsts first hang hangs met many = absurd (some (sym first))
    at_twins before (segment s below next) firsts first hang hangs met many =
        let x = seen_of now s.home (cell_of s below next) (hangs.1) in
        record {
          before = before;
          s = s;
          below = below;
          next = next;
          cell = x.cell;
          is = ap now (sym first) ∙ x.is;
          sees = x.same;
          home = first;
          firsts = firsts;
          hang = joined_hang (seen false now) before (chain next below) hang (hangs.3, hangs.2);
          met = λ home. let m = met home in let j = joined_met home before (chain next below) in omega (arith, m, j);
          many = let j = joined_size before (chain next below) in omega (arith, many, j);
        }

    by : Popped (seen false now) front at rest → Next now front at rest
    by x = at_twins x.before x.twins x.firsts x.first x.hang x.hangs x.met x.many

pub stands_uncopied : (now : ℕ → Option Cell) (front : List ℕ) (at : ℕ) (rest : Chains) (x : Next now front at rest) → x.cell.copied ≡ false
stands_uncopied now front at rest x = sym (alone_copied x.cell) ∙ ap (λ (c : Cell). c.copied) x.sees

pub passed_cell : (fate : Cell → Option Cell) (whole : Chains) (front later : List ℕ) (at steps : ℕ) (old now new : ℕ → Option Cell) → at ≢ 0 → Progress fate whole (front ++ at ∷ []) steps old now → Meets fate at front later now new
    → Progress fate whole later (steps + 1) old new
passed_cell fate whole front later at steps old now new some p meets = by (next_of now front at p.rest some p.pend)
  where
    by : Next now front at p.rest → Progress fate whole later (steps + 1) old new
    by x = record {
      rest = rest;
      many = let m = p.many in let n = x.many in omega (arith, m, n);
      pend = record {
        hang = changes_outside_leave (seen false now) (seen false new) rest x.hang (λ home m. ap (option_map alone) (stay home m));
        firsts = joined_firsts x.before (chain x.next x.below) ∙ ap (λ (l : List ℕ). l ++ first_of x.next ∷ firsts_of x.below) x.firsts ∙ sym (append_assoc front (first_of x.next ∷ []) (firsts_of x.below)) ∙ sym later_is;
        once = λ home. let m = x.met home in let o = p.pend.once home in omega (arith, m, o);
      };
      fewer = λ home. let m = x.met home in let f = p.fewer home in omega (arith, m, f);
      left = λ home m. stay home m ∙ p.left home (let n = x.met home in omega (arith, n, m));
      ended = λ home m none. ended home m none (at_or_off home x.s);
      elsewhere = λ home none. meets.ends.elsewhere home (off_whole home none) ∙ p.elsewhere home none;
    }
      where
        rest : Chains
        rest = joined x.before (chain x.next x.below)

        own : here at x.s ≡ 1
        own = ap (λ (n : ℕ). here n x.s) (sym x.home) ∙ here_itself x.s

        -- the cell that was met hangs no more
        apart : (home : ℕ) → 0 < times_in home rest → home ≢ at
        apart home m e =
            let n = x.met at in
            let o = p.pend.once at in
            let one = own in
            let k : 0 < times_in at rest = subst (λ (h : ℕ). 0 < times_in h rest) e m in
            omega (arith, n, o, one, k)

        stay : (home : ℕ) → 0 < times_in home rest → new home ≡ now home
        stay home m = meets.ends.elsewhere home (apart home m)

        later_is : later ≡ (front ++ first_of x.next ∷ []) ++ firsts_of x.below
        later_is = meets.put_off x.cell x.is ∙ (λ i. (front ++ (x.sees i).twin ∷ []) ++ (children i))
          where
            children : x.cell.children ≡ firsts_of x.below
            children = sym (alone_children x.cell) ∙ ap (λ (c : Cell). c.children) x.sees

        off_whole : (home : ℕ) → times_in home whole ≡ 0 → home ≢ at
        off_whole home none e =
            let n = x.met at in
            let f = p.fewer at in
            let one = own in
            let k : times_in at whole ≡ 0 = ap (λ (h : ℕ). times_in h whole) (sym e) ∙ none in
            omega (arith, n, f, one, k)

        ended : (home : ℕ) → 0 < times_in home whole → times_in home rest ≡ 0 → ((x.s.home ≡ home) × (here home x.s ≡ 1)) ⊎ (here home x.s ≡ 0) → new home ≡ option_and_then fate (old home)
        ended home m none (inl (is, one)) =
            let e : at ≡ home = sym x.home ∙ is in
            let n = x.met home in
            ap new (sym e) ∙ meets.ends.ended ∙ ap (λ (h : ℕ). option_and_then fate (now h)) e ∙ ap (option_and_then fate) (p.left home (omega (arith, n, one)))
        ended home m none (inr off) =
            let n = x.met home in
            let one = own in
            let away : home ≢ at = λ e. let k : here at x.s ≡ 0 = ap (λ (h : ℕ). here h x.s) (sym e) ∙ off in omega (arith, k, one) in
            meets.ends.elsewhere home away ∙ p.ended home m (omega (arith, n, off, none))

-- nothing is pending
pub finished : (fate : Cell → Option Cell) (whole : Chains) (steps : ℕ) (old now : ℕ → Option Cell) → Progress fate whole [] steps old now → EndsTrees fate whole old now
finished fate whole steps old now p = record { ended = λ home m. p.ended home m (none home p.rest p.pend.firsts); elsewhere = p.elsewhere }
  where
    none : (home : ℕ) (rest : Chains) → firsts_of rest ≡ [] → times_in home rest ≡ 0
    none home no_chain e = refl
    none home (chain twins more) e = absurd (let wrong : first_of twins ∷ firsts_of more ≡ [] = e in cc)

-- ---- from the first cell on

-- what hangs below the first cell hangs still, once that has its fate
pub hangs_on : (fate : Cell → Option Cell) (at : ℕ) (below : Chains) (old mid : ℕ → Option Cell) (h : HangsAt old at below) → EndsCell fate at old mid → Pend mid h.cell.children below
hangs_on fate at below old mid h e = record {
  hang = changes_outside_leave (seen false old) (seen false mid) below h.pend.hang (λ home m. ap (option_map alone) (e.elsewhere home (λ q. let k : times_in home below ≡ 0 = ap (λ (n : ℕ). times_in n below) q ∙ h.apart in omega (arith, k, m))));
  firsts = h.pend.firsts;
  once = h.pend.once;
}

pub whole_span : (fate : Cell → Option Cell) (at : ℕ) (below : Chains) (old mid new : ℕ → Option Cell) → HangsAt old at below → EndsCell fate at old mid → EndsTrees fate below mid new → EndsSpan fate at below old new
whole_span fate at below old mid new h e f = record {
  top = f.elsewhere at h.apart ∙ e.ended;
  ended = λ home m. f.ended home m ∙ ap (option_and_then fate) (e.elsewhere home (λ q. let k : times_in home below ≡ 0 = ap (λ (n : ℕ). times_in n below) q ∙ h.apart in omega (arith, k, m)));
  elsewhere = λ home off none. f.elsewhere home none ∙ e.elsewhere home off;
}
