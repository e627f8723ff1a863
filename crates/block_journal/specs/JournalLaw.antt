-- The proofs of a journal's laws. There is nothing here to believe.
use Rattle.std.proofs.Common.{◌≡◌, ℕ, ◌+◌, ◌<◌, ◌≤◌, Bool, true, false, ◌&&◌, cond, nat_lt, nat_le, ◌==◌, List, [], ◌∷◌, length, set, Option, None, Some, option_map, refl, sym, ◌∙◌, ap, subst, arith}
use Rattle.std.specs.Prelude.{All}
use Rattle.std.proofs.lemmas.Bool.{and_parts, ltb-true, leb-true, eqb-true}
use Rattle.std.proofs.lemmas.List.{nil_from_length, length-set}
use Rattle.std.proofs.lemmas.List.Elements.{All-set}
use Rattle.hal_base.specs.StoreCalls.{AreBlocks}
use Rattle.hal_base.specs.Stops.{LeavesExactly, IsTold, Read}
use Rattle.hal_base.proofs.StopLemmas.{not_yet, leaves-then}
use Rattle.block_journal.specs.Change.{Change}
use Rattle.block_journal.specs.Device.{Became}
use Rattle.block_journal.specs.Front.{KeepsFront}
use Rattle.block_journal.specs.Placing.{AreWhole}
use Rattle.block_journal.specs.Redo.{blocks_at, is_open, journal_of, redone, put_all, are_changes}
use Rattle.block_journal.specs.Stands.{Stands, told_where}
use Rattle.block_journal.specs.Steady.{IsSteady}

pub length-put_all : (cs : List Change) (blocks : List (List ℕ)) → length (put_all cs blocks) ≡ length blocks
unfolding put_all
length-put_all [] blocks = refl
length-put_all (c ∷ cs) blocks = length-put_all cs (set blocks c.0 c.1) ∙ length-set blocks c.0 c.1

pub put_all-none : (blocks : List (List ℕ)) → put_all [] blocks ≡ blocks
unfolding put_all
put_all-none blocks = refl

-- what the test says of the first change and of the others
pub record Parts (from count : ℕ) (c : Change) (cs : List Change) : Type 0 where
  pub low : from ≤ c.0
  pub high : c.0 < count
  pub whole : length c.1 ≡ 4096
  pub rest : are_changes (c.0 + 1) count cs ≡ true

pub parts : (from count : ℕ) (c : Change) (cs : List Change) → are_changes from count (c ∷ cs) ≡ true → Parts from count c cs
unfolding are_changes
parts from count c cs is =
    let a = and_parts (nat_le from c.0 && nat_lt c.0 count && length c.1 == 4096) (are_changes (c.0 + 1) count cs) is in
    let b = and_parts (nat_le from c.0 && nat_lt c.0 count) (length c.1 == 4096) a.0 in
    let d = and_parts (nat_le from c.0) (nat_lt c.0 count) b.0 in
    record { low = leb-true from c.0 d.0; high = ltb-true c.0 count d.1; whole = eqb-true (length c.1) 4096 b.1; rest = a.1 }

pub are_whole : (from count : ℕ) (cs : List Change) → are_changes from count cs ≡ true → AreWhole count cs
are_whole from count [] is = tt
are_whole from count (c ∷ cs) is =
    let p = parts from count c cs is in
    (p.high, p.whole, are_whole (c.0 + 1) count cs p.rest)

pub redone_closed : (first count : ℕ) (x : List ℕ) → is_open x ≡ false → redone first count x ≡ blocks_at first count x
unfolding redone
redone_closed first count x closed = ap (λ (b : Bool). cond b (put_all (journal_of first count x) (blocks_at first count x)) (blocks_at first count x)) closed

pub keeps_refl : (first count : ℕ) (x : List ℕ) → KeepsFront first count x x
keeps_refl first count x = record { head = refl; behind = refl; no_shorter = omega arith; lawful = λ lawful. lawful }

pub keeps_then : {first count : ℕ} {x y z : List ℕ} → KeepsFront first count x y → KeepsFront first count y z → KeepsFront first count x z
keeps_then a b = record { head = b.head ∙ a.head; behind = b.behind ∙ a.behind; no_shorter = omega (arith, a.no_shorter, b.no_shorter); lawful = λ lawful. b.lawful (a.lawful lawful) }

pub became-waits : {R : List ℕ → List ℕ → Type 0} {image next : Option (List ℕ)} → ((y : List ℕ) → image ≡ Some y → R y y) → next ≡ image → Became R image next
became-waits same is = record { told = λ y told. (y, is ∙ told, same y told); untold = λ none. is ∙ none }

pub told_redone : (first count : ℕ) (kept : List (List ℕ)) (image : Option (List ℕ)) (outcomes : List ℕ → List ℕ → Type 0)
    → Stands first count kept image outcomes → (x s : List ℕ) → outcomes x s → IsTold (told_where image kept) (redone first count x)
told_redone first count kept None outcomes stands x s left = tt
told_redone first count kept (Some y) outcomes stands x s left =
    ap (redone first count) (stands.exact.only y refl x s left) ∙ redone_closed first count y (stands.settled y refl).closed ∙ stands.blocks y refl

-- a live journal leaves just what it tells
pub stands_exactly : {first count : ℕ} {kept : List (List ℕ)} {image : Option (List ℕ)} (now : ℕ) (said : Option (List ℕ)) (at : ℕ → List ℕ → List ℕ → Type 0)
    → Stands first count kept image (at now) → ((x s : List ℕ) → at now x s → IsTold said s)
    → LeavesExactly now (Read (redone first count) at) (told_where image kept) said
stands_exactly {first} {count} {kept} {image} now said at stands said_now = record {
  kept_is = λ b s left. subst (λ (b : List (List ℕ)). IsTold (told_where image kept) b) (sym left.2) (told_redone first count kept image (at now) stands left.0 s left.1);
  said_is = λ b s left. said_now left.0 s left.1;
}

-- its image stands for what it tells
pub standing_is : (first count : ℕ) (kept : List (List ℕ)) (image : Option (List ℕ)) (outcomes : List ℕ → List ℕ → Type 0)
    → Stands first count kept image outcomes → option_map (redone first count) image ≡ told_where image kept
standing_is first count kept None outcomes stands = refl
standing_is first count kept (Some y) outcomes stands = ap Some (redone_closed first count y (stands.settled y refl).closed ∙ stands.blocks y refl)

put_all_whole : (count : ℕ) (cs : List Change) (kept : List (List ℕ)) → AreWhole count cs → All (λ block. length block ≡ 4096) kept
    → All (λ block. length block ≡ 4096) (put_all cs kept)
unfolding put_all
put_all_whole count [] kept whole each = each
put_all_whole count (c ∷ cs) kept whole each = put_all_whole count cs (set kept c.0 c.1) whole.2 (All-set (λ (block : List ℕ). length block ≡ 4096) kept c.0 c.1 whole.1 each)

pub put_all-whole : (count : ℕ) (cs : List Change) (kept : List (List ℕ)) → are_changes 0 count cs ≡ true → All (λ block. length block ≡ 4096) kept
    → All (λ block. length block ≡ 4096) (put_all cs kept)
put_all-whole count cs kept rise each = put_all_whole count cs kept (are_whole 0 count cs rise) each

pub told_shaped : (image : Option (List ℕ)) (count : ℕ) (cs : List Change) (kept : List (List ℕ)) → are_changes 0 count cs ≡ true
    → length kept ≡ count → All (λ block. length block ≡ 4096) kept
    → AreBlocks count (told_where image (put_all cs kept)) × AreBlocks count (told_where image kept)
told_shaped None count cs kept rise many each = (tt, tt)
told_shaped (Some x) count cs kept rise many each = ((length-put_all cs kept ∙ many, put_all-whole count cs kept rise each), (many, each))

pub alike : (image : Option (List ℕ)) (list kept : List (List ℕ))
    → (told_where image list ≡ None → told_where image kept ≡ None) × (told_where image kept ≡ None → told_where image list ≡ None)
alike None list kept = (λ is. is, λ is. is)
alike (Some x) list kept = (λ is. cc, λ is. cc)

pub none_list : (image : Option (List ℕ)) (cs : List Change) (kept : List (List ℕ)) → cs ≡ [] → told_where image (put_all cs kept) ≡ told_where image kept
none_list image cs kept is = ap (told_where image) (ap (λ (l : List Change). put_all l kept) is ∙ put_all-none kept)

pub clean_list : (image : Option (List ℕ)) (cs : List Change) (kept : List (List ℕ)) → (length cs == 0) ≡ true
    → told_where image (put_all cs kept) ≡ told_where image kept
clean_list image cs kept clean = none_list image cs kept (nil_from_length cs (eqb-true (length cs) 0 clean))

-- steadiness goes on over calls
pub steady_same : (first count : ℕ) (image : Option (List ℕ)) (now : ℕ) (at : ℕ → List ℕ → List ℕ → Type 0)
    → IsSteady first first count count image image now now at at
steady_same first count image now at = record { place = refl; count = refl; reads = became-waits (λ y told. keeps_refl first count y) refl; stops = not_yet now at _ }

keeps_on : {first next many number : ℕ} {x y z : List ℕ} → next ≡ first → number ≡ many → KeepsFront first many x y → KeepsFront next number y z
    → KeepsFront first many x z
keeps_on {first} {next} {many} {number} {x} {y} {z} place count one two = keeps_then one (subst (λ (n : ℕ). KeepsFront first n y z) count (subst (λ (f : ℕ). KeepsFront f number y z) place two))

pub steady_more : {first next last many number count : ℕ} {old mid new : Option (List ℕ)} {before now after : ℕ} {past during at : ℕ → List ℕ → List ℕ → Type 0}
    → IsSteady first next many number old mid before now past during → IsSteady next last number count mid new now after during at
    → IsSteady first last many count old new before after past at
steady_more a b = record {
  place = b.place ∙ a.place;
  count = b.count ∙ a.count;
  reads = record {
    told = λ y told.
        let one = a.reads.told y told in
        let two = b.reads.told one.0 one.1 in
        (two.0, two.1, keeps_on a.place a.count one.2 two.2);
    untold = λ none. b.reads.untold (a.reads.untold none);
  };
  stops = leaves-then a.stops b.stops (λ x s left y told.
      let one = a.reads.told y told in
      keeps_on a.place a.count one.2 (left one.0 one.1));
}
