-- What a changed pointer makes of trees.
use Rattle.std.proofs.Common.{◌≡◌, ◌≢◌, ℕ, zero, suc, ◌<◌, ◌≤◌, ◌==◌, Bool, true, false, if◌then◌else◌, List, ◌∷◌, Option, None, Some, refl, sym, ap, subst, ◌∙◌, arith, replicate}
use Rattle.std.specs.Prelude.{slice_index, slice_set}
use Rattle.std.specs.Option.{option_map, option_map_or}
use Rattle.std.proofs.lemmas.Bool.{eqb-true, eqb-false}
use Rattle.segment_blocks.specs.declared.tile.Cell.{Cell}
use Rattle.record_walk.specs.Tree.{Occurrence, Twins, no_segment, segment, Chains, no_chain, chain, first_of, firsts_of, cell_of, Hangs, HangIn, times, times_in}
use Rattle.record_walk.specs.Pointers.{Pointer, Behind, Below, Root, with_chain, at_home, in_home, with_pointer, bare, before_twins, behind_first, with_segment, without_segment}
use Rattle.record_walk.specs.Changes.{stands_in, leads_to, set_in_cell, set_in_rows, IsSet, HangFrom, NewSegmentsHang, CutsHang, ReplacedContentHangs}
use Rattle.record_walk.proofs.Homes.{here_itself}
use Rattle.record_walk.proofs.Hanging.{stays, stays_in}

abbrev Edit : Type 0
Edit = Occurrence → Chains → Twins → Twins

-- what takes the place of a segment is at its home
abbrev pub Keeps : (Occurrence → Chains → Twins → Twins) → Type 0
Keeps edit = (s : Occurrence) (below : Chains) (next : Twins) → first_of (edit s below next) ≡ s.home

pub first_kept : (home : ℕ) (edit : Occurrence → Chains → Twins → Twins) → Keeps edit → (twins : Twins) → first_of (at_home home edit twins) ≡ first_of twins
first_kept home edit keeps no_segment = refl
first_kept home edit keeps (segment s below next) = by (s.home == home)
  where
    by : (b : Bool) → first_of (if b then edit s below next else segment s (in_home home edit below) (at_home home edit next)) ≡ s.home
    by true = keeps s below next
    by false = refl

pub firsts_kept : (home : ℕ) (edit : Occurrence → Chains → Twins → Twins) → Keeps edit → (chains : Chains) → firsts_of (in_home home edit chains) ≡ firsts_of chains
firsts_kept home edit keeps no_chain = refl
firsts_kept home edit keeps (chain twins more) = λ i. first_kept home edit keeps twins i ∷ firsts_kept home edit keeps more i

same_cell_of : (s : Occurrence) (below under : Chains) (next later : Twins) → firsts_of below ≡ firsts_of under → first_of next ≡ first_of later → Some (cell_of s below next) ≡ Some (cell_of s under later)
same_cell_of s below under next later e f = λ i. Some (record { copied = false; code = s.code; name = s.name; twin = f i; children = e i; content = s.content })

-- a segment gives way to what hangs in the cells now, and each other cell stays
pub record Edits (home : ℕ) (edit : Occurrence → Chains → Twins → Twins) (cells now : ℕ → Option Cell) (bound result : ℕ → ℕ) : Type 0 where
  pub keeps : Keeps edit
  pub others : (other : ℕ) (cell : Cell) → cells other ≡ Some cell → 0 < result other → other ≢ home → now other ≡ cells other
  pub here_hangs : (s : Occurrence) (below : Chains) (next : Twins) → s.home ≡ home → ((o : ℕ) → times o (segment s below next) ≤ bound o) → ((o : ℕ) → times o (edit s below next) ≤ result o)
      → Hangs cells (segment s below next) → Hangs now (edit s below next)

mutual
  pub edited : (home : ℕ) (edit : Occurrence → Chains → Twins → Twins) (cells now : ℕ → Option Cell) (bound result : ℕ → ℕ) → Edits home edit cells now bound result
      → (twins : Twins) → ((o : ℕ) → times o twins ≤ bound o) → ((o : ℕ) → times o (at_home home edit twins) ≤ result o) → Hangs cells twins → Hangs now (at_home home edit twins)
  edited home edit cells now bound result e no_segment few less h = tt
  edited home edit cells now bound result e (segment s below next) few less h =
      by (s.home == home) refl less (λ q. edited_in home edit cells now bound result e below (λ o. let f = few o in omega (arith, f)) q (h.2))
      (λ q. edited home edit cells now bound result e next (λ o. let f = few o in omega (arith, f)) q (h.3))
    where
      by : (b : Bool) → (s.home == home) ≡ b → ((o : ℕ) → times o (if b then edit s below next else segment s (in_home home edit below) (at_home home edit next)) ≤ result o)
          → (((o : ℕ) → times_in o (in_home home edit below) ≤ result o) → HangIn now (in_home home edit below)) → (((o : ℕ) → times o (at_home home edit next) ≤ result o) → Hangs now (at_home home edit next))
          → Hangs now (if b then edit s below next else segment s (in_home home edit below) (at_home home edit next))
      by true q less low high = e.here_hangs s below next (eqb-true s.home home q) few less h
      by false q less low high =
          let own = here_itself s in
          let all = less s.home in
          let stay : now s.home ≡ cells s.home = e.others s.home (cell_of s below next) (h.1) (omega (arith, own, all)) (eqb-false s.home home q) in
          let same = same_cell_of s below (in_home home edit below) next (at_home home edit next) (sym (firsts_kept home edit e.keeps below)) (sym (first_kept home edit e.keeps next)) in
          (h.0, stay ∙ h.1 ∙ same, low (λ o. let f = less o in omega (arith, f)), high (λ o. let f = less o in omega (arith, f)))

  pub edited_in : (home : ℕ) (edit : Occurrence → Chains → Twins → Twins) (cells now : ℕ → Option Cell) (bound result : ℕ → ℕ) → Edits home edit cells now bound result
      → (chains : Chains) → ((o : ℕ) → times_in o chains ≤ bound o) → ((o : ℕ) → times_in o (in_home home edit chains) ≤ result o) → HangIn cells chains → HangIn now (in_home home edit chains)
  edited_in home edit cells now bound result e no_chain few less h = tt
  edited_in home edit cells now bound result e (chain twins more) few less h = (
    edited home edit cells now bound result e twins (λ o. let f = few o in omega (arith, f)) (λ o. let f = less o in omega (arith, f)) (h.0),
    edited_in home edit cells now bound result e more (λ o. let f = few o in omega (arith, f)) (λ o. let f = less o in omega (arith, f)) (h.1),
  )

-- ---- a pointer

some_is : (a b : ℕ) → Some a ≡ Some b → a ≡ b
some_is a b e = ap (λ (o : Option ℕ). option_map_or (λ n. n) o a) e

-- what the twins behind a pointer become hangs in the cells now, and their first is where the pointer leads now
pub record Owes (pointer : Pointer) (old to : ℕ) (change : Twins → Twins) (cells now : ℕ → Option Cell) (result : ℕ → ℕ) : Type 0 where
  pub hangs : (next : Twins) → first_of next ≡ old → Hangs cells next → ((o : ℕ) → times o (change next) ≤ result o) → ((o : ℕ) → stands_in pointer ≡ Some o → times o next ≡ 0) → Hangs now (change next)
  pub first : (next : Twins) → first_of next ≡ old → Hangs cells next → first_of (change next) ≡ to

abbrev Others : Pointer → (ℕ → Option Cell) → (ℕ → Option Cell) → (ℕ → ℕ) → Type 0
Others pointer cells now result = (o : ℕ) (cell : Cell) → cells o ≡ Some cell → 0 < result o → stands_in pointer ≢ Some o → now o ≡ cells o

record ChainSet (place to : ℕ) (now : ℕ → Option Cell) (before after : Chains) : Type 0 where
  pub hang : HangIn now after
  pub first : firsts_of after ≡ slice_set (firsts_of before) place to

-- trees that the pointer doesn't stand in
apart_stays : (pointer : Pointer) (cells now : ℕ → Option Cell) (result : ℕ → ℕ) → Others pointer cells now result → (twins : Twins) → ((o : ℕ) → times o twins ≤ result o) → ((o : ℕ) → stands_in pointer ≡ Some o → times o twins ≡ 0) → Hangs cells twins → Hangs now twins
apart_stays pointer cells now result others twins less apart h =
    stays cells now (λ o. times o twins) (λ o cell is m. others o cell is (let f = less o in omega (arith, f)) (λ e. let z = apart o e in absurd (omega (arith, z)))) twins (λ o. omega arith) h

apart_stays_in : (pointer : Pointer) (cells now : ℕ → Option Cell) (result : ℕ → ℕ) → Others pointer cells now result → (chains : Chains) → ((o : ℕ) → times_in o chains ≤ result o) → ((o : ℕ) → stands_in pointer ≡ Some o → times_in o chains ≡ 0) → HangIn cells chains → HangIn now chains
apart_stays_in pointer cells now result others chains less apart h =
    stays_in cells now (λ o. times_in o chains) (λ o cell is m. others o cell is (let f = less o in omega (arith, f)) (λ e. let z = apart o e in absurd (omega (arith, z)))) chains (λ o. omega arith) h

chain_set : (pointer : Pointer) (old to : ℕ) (change : Twins → Twins) (cells now : ℕ → Option Cell) (result : ℕ → ℕ) → Owes pointer old to change cells now result → Others pointer cells now result
    → (place : ℕ) (chains : Chains) → slice_index (firsts_of chains) place ≡ old → HangIn cells chains → ((o : ℕ) → times_in o (with_chain place change chains) ≤ result o)
    → ((o : ℕ) → stands_in pointer ≡ Some o → times_in o chains ≡ 0) → ChainSet place to now chains (with_chain place change chains)
chain_set pointer old to change cells now result owes others place no_chain is h less apart = record { hang = tt; first = refl }
chain_set pointer old to change cells now result owes others zero (chain twins more) is h less apart = record {
  hang = (
    owes.hangs twins is (h.0) (λ o. let f = less o in omega (arith, f)) (λ o e. let z = apart o e in omega (arith, z)),
    apart_stays_in pointer cells now result others more (λ o. let f = less o in omega (arith, f)) (λ o e. let z = apart o e in omega (arith, z)) (h.1),
  );
  first = ap (λ (n : ℕ). n ∷ firsts_of more) (owes.first twins is (h.0));
}
chain_set pointer old to change cells now result owes others (suc place) (chain twins more) is h less apart =
    let rest = chain_set pointer old to change cells now result owes others place more is (h.1) (λ o. let f = less o in omega (arith, f)) (λ o e. let z = apart o e in omega (arith, z)) in
    record {
      hang = (apart_stays pointer cells now result others twins (λ o. let f = less o in omega (arith, f)) (λ o e. let z = apart o e in omega (arith, z)) (h.0), rest.hang);
      first = ap (λ (l : List ℕ). first_of twins ∷ l) rest.first;
    }

-- the home of a segment that is met once isn't met below it, nor among its next twins
record OnceAt (s : Occurrence) (below : Chains) (next : Twins) : Type 0 where
  pub under : times_in s.home below ≡ 0
  pub later : times s.home next ≡ 0

once_at : (s : Occurrence) (below : Chains) (next : Twins) → times s.home (segment s below next) ≤ 1 → OnceAt s below next
once_at s below next h = let own = here_itself s in record { under = omega (arith, own, h); later = omega (arith, own, h) }

behind_set : (prior old to : ℕ) (firsts : List ℕ) (change : Twins → Twins) (cells now : ℕ → Option Cell) (bound result : ℕ → ℕ) → old ≡ leads_to (Behind prior) cells firsts → ((o : ℕ) → bound o ≤ 1)
    → now prior ≡ option_map (set_in_cell (Behind prior) to) (cells prior) → Owes (Behind prior) old to change cells now result → Others (Behind prior) cells now result
    → Edits prior (λ s below next. segment s below (change next)) cells now bound result
behind_set prior old to firsts change cells now bound result led once set owes others = record {
  keeps = λ s below next. refl;
  others = λ o cell is some apart. others o cell is some (λ e. apart (sym (some_is prior o e)));
  here_hangs = at;
}
  where
    at : (s : Occurrence) (below : Chains) (next : Twins) → s.home ≡ prior → ((o : ℕ) → times o (segment s below next) ≤ bound o) → ((o : ℕ) → times o (segment s below (change next)) ≤ result o)
        → Hangs cells (segment s below next) → Hangs now (segment s below (change next))
    at s below next e few less h =
        let was : cells prior ≡ Some (cell_of s below next) = ap cells (sym e) ∙ h.1 in
        let is : first_of next ≡ old = sym (led ∙ ap (λ (o : Option Cell). option_map_or (λ c. c.twin) o 0) was) in
        let f = few s.home in
        let g = once s.home in
        let alone = once_at s below next (omega (arith, f, g)) in
        let first : first_of (change next) ≡ to = owes.first next is (h.3) in
        let now_is : now prior ≡ Some (cell_of s below (change next)) =
        set ∙ ap (option_map (set_in_cell (Behind prior) to)) was ∙ (λ i. Some (record { copied = false; code = s.code; name = s.name; twin = sym first i; children = firsts_of below; content = s.content })) in
        let own : (o : ℕ) → Some prior ≡ Some o → s.home ≡ o = λ o q. e ∙ some_is prior o q in (
          h.0,
          ap now e ∙ now_is,
          apart_stays_in (Behind prior) cells now result others below (λ o. let l = less o in omega (arith, l)) (λ o q. subst (λ (n : ℕ). times_in n below ≡ 0) (own o q) alone.under) (h.2),
          owes.hangs next is (h.3) (λ o. let l = less o in omega (arith, l)) (λ o q. subst (λ (n : ℕ). times n next ≡ 0) (own o q) alone.later),
        )

below_set : (above place old to : ℕ) (firsts : List ℕ) (change : Twins → Twins) (cells now : ℕ → Option Cell) (bound result : ℕ → ℕ) → old ≡ leads_to (Below above place) cells firsts → ((o : ℕ) → bound o ≤ 1)
    → now above ≡ option_map (set_in_cell (Below above place) to) (cells above) → Owes (Below above place) old to change cells now result → Others (Below above place) cells now result
    → Edits above (λ s below next. segment s (with_chain place change below) next) cells now bound result
below_set above place old to firsts change cells now bound result led once set owes others = record {
  keeps = λ s below next. refl;
  others = λ o cell is some apart. others o cell is some (λ e. apart (sym (some_is above o e)));
  here_hangs = at;
}
  where
    at : (s : Occurrence) (below : Chains) (next : Twins) → s.home ≡ above → ((o : ℕ) → times o (segment s below next) ≤ bound o) → ((o : ℕ) → times o (segment s (with_chain place change below) next) ≤ result o)
        → Hangs cells (segment s below next) → Hangs now (segment s (with_chain place change below) next)
    at s below next e few less h =
        let was : cells above ≡ Some (cell_of s below next) = ap cells (sym e) ∙ h.1 in
        let is : slice_index (firsts_of below) place ≡ old = sym (led ∙ ap (λ (o : Option Cell). option_map_or (λ c. slice_index c.children place) o 0) was) in
        let f = few s.home in
        let g = once s.home in
        let alone = once_at s below next (omega (arith, f, g)) in
        let own : (o : ℕ) → Some above ≡ Some o → s.home ≡ o = λ o q. e ∙ some_is above o q in
        let chains = chain_set (Below above place) old to change cells now result owes others place below is (h.2) (λ o. let l = less o in omega (arith, l)) (λ o q. subst (λ (n : ℕ). times_in n below ≡ 0) (own o q) alone.under) in
        let now_is : now above ≡ Some (cell_of s (with_chain place change below) next) =
        set ∙ ap (option_map (set_in_cell (Below above place) to)) was ∙ (λ i. Some (record { copied = false; code = s.code; name = s.name; twin = first_of next; children = sym chains.first i; content = s.content })) in
        (h.0, ap now e ∙ now_is, chains.hang, apart_stays (Below above place) cells now result others next (λ o. let l = less o in omega (arith, l)) (λ o q. subst (λ (n : ℕ). times n next ≡ 0) (own o q) alone.later) (h.3))

pub pointer_set : (pointer : Pointer) (to : ℕ) (change : Twins → Twins) (cells now : ℕ → Option Cell) (firsts : List ℕ) (trees : Chains) → HangFrom cells firsts trees → ((home : ℕ) → times_in home trees ≤ 1)
    → IsSet pointer to cells now (with_pointer pointer change trees) → Owes pointer (leads_to pointer cells firsts) to change cells now (λ o. times_in o (with_pointer pointer change trees))
    → HangFrom now (set_in_rows pointer to firsts) (with_pointer pointer change trees)
pointer_set (Behind prior) to change cells now firsts trees from once set owes =
    let edit : Occurrence → Chains → Twins → Twins = λ s below next. segment s below (change next) in
    record {
      hang = edited_in prior edit cells now (λ o. times_in o trees) (λ o. times_in o (in_home prior edit trees))
          (behind_set prior (leads_to (Behind prior) cells firsts) to firsts change cells now (λ o. times_in o trees) (λ o. times_in o (in_home prior edit trees)) refl once (set.set prior refl) owes set.others)
          trees (λ o. omega arith) (λ o. omega arith) from.hang;
      first = firsts_kept prior edit (λ s below next. refl) trees ∙ from.first;
    }
pointer_set (Below above place) to change cells now firsts trees from once set owes =
    let edit : Occurrence → Chains → Twins → Twins = λ s below next. segment s (with_chain place change below) next in
    record {
      hang = edited_in above edit cells now (λ o. times_in o trees) (λ o. times_in o (in_home above edit trees))
          (below_set above place (leads_to (Below above place) cells firsts) to firsts change cells now (λ o. times_in o trees) (λ o. times_in o (in_home above edit trees)) refl once (set.set above refl) owes set.others)
          trees (λ o. omega arith) (λ o. omega arith) from.hang;
      first = firsts_kept above edit (λ s below next. refl) trees ∙ from.first;
    }
pointer_set (Root place) to change cells now firsts trees from once set owes =
    let chains = chain_set (Root place) (slice_index firsts place) to change cells now (λ o. times_in o (with_chain place change trees)) owes set.others place trees (ap (λ (l : List ℕ). slice_index l place) from.first) from.hang (λ o. omega arith)
    (λ o e. absurd (nowhere o e)) in
    record { hang = chains.hang; first = chains.first ∙ ap (λ (l : List ℕ). slice_set l place to) from.first }
  where
    nowhere : (o : ℕ) → None ≡ Some o → ⊥
    nowhere o e = cc

-- ---- a new segment

bare_hangs : (now : ℕ → Option Cell) (kinds : ℕ) → HangIn now (bare kinds)
bare_hangs now zero = tt
bare_hangs now (suc kinds) = (tt, bare_hangs now kinds)

bare_firsts : (kinds : ℕ) → firsts_of (bare kinds) ≡ replicate kinds 0
bare_firsts zero = refl
bare_firsts (suc kinds) = ap (λ (l : List ℕ). 0 ∷ l) (bare_firsts kinds)

pub new_segments_hang : NewSegmentsHang
new_segments_hang cells now firsts trees pointer new kinds from once some free stands set =
    let result : ℕ → ℕ = λ o. times_in o (with_segment pointer new kinds trees) in
    pointer_set pointer new.home (before_twins new kinds) cells now firsts trees from once set
    (record {
      hangs = λ next is h less apart. (
        some,
        stands ∙ (λ i. Some (record { copied = false; code = new.code; name = new.name; twin = sym is i; children = sym (bare_firsts kinds) i; content = new.content })),
        bare_hangs now kinds,
        apart_stays pointer cells now result set.others next (λ o. let l = less o in omega (arith, l)) apart h,
      );
      first = λ next is h. refl;
    })

-- ---- a cut

twin_of : (cells : ℕ → Option Cell) (old : ℕ) (cut : Cell) (next : Twins) → 0 < old → cells old ≡ Some cut → first_of next ≡ old → Hangs cells next → first_of (behind_first next) ≡ cut.twin
twin_of cells old cut no_segment some was is h = absurd (omega (arith, is, some))
twin_of cells old cut (segment s below next) some was is h =
    let same : Some (cell_of s below next) ≡ Some cut = sym (h.1) ∙ ap cells is ∙ was in
    ap (λ (o : Option Cell). option_map_or (λ c. c.twin) o 0) same

cut_hangs : (pointer : Pointer) (cells now : ℕ → Option Cell) (result : ℕ → ℕ) → Others pointer cells now result → (next : Twins) → Hangs cells next → ((o : ℕ) → times o (behind_first next) ≤ result o)
    → ((o : ℕ) → stands_in pointer ≡ Some o → times o next ≡ 0) → Hangs now (behind_first next)
cut_hangs pointer cells now result others no_segment h less apart = tt
cut_hangs pointer cells now result others (segment s below next) h less apart = apart_stays pointer cells now result others next less (λ o e. let z = apart o e in omega (arith, z)) (h.3)

pub cuts_hang : CutsHang
cuts_hang cells now firsts trees pointer cut from once some was set =
    pointer_set pointer cut.twin behind_first cells now firsts trees from once set
    (record {
      hangs = λ next is h less apart. cut_hangs pointer cells now (λ o. times_in o (without_segment pointer trees)) set.others next h less apart;
      first = λ next is h. twin_of cells (leads_to pointer cells firsts) cut next some was is h;
    })

-- ---- a replaced content

pub replaced_content_hangs : ReplacedContentHangs
replaced_content_hangs cells now firsts trees home content from once set others =
    let edit : Occurrence → Chains → Twins → Twins = λ s below next. segment (record s { content = content }) below next in
    let result : ℕ → ℕ = λ o. times_in o (in_home home edit trees) in
    record {
      hang = edited_in home edit cells now (λ o. times_in o trees) result
          (record {
            keeps = λ s below next. refl;
            others = λ o cell is some apart. others o apart;
            here_hangs = λ s below next e few less h.
                let was : cells home ≡ Some (cell_of s below next) = ap cells (sym e) ∙ h.1 in
                let f = few s.home in
                let g = once s.home in
                let alone = once_at s below next (omega (arith, f, g)) in
                let stay : (o : ℕ) → (s.home ≡ o → ⊥) → now o ≡ cells o = λ o q. others o (λ r. q (e ∙ sym r)) in (
                  h.0,
                  ap now e ∙ set ∙ ap (option_map (λ (c : Cell). record c { content = content })) was,
                  stays_in cells now (λ o. times_in o below) (λ o cell is m. stay o (λ q. let z = ap (λ (n : ℕ). times_in n below) q in let y = alone.under in absurd (omega (arith, z, y, m)))) below (λ o. omega arith) (h.2),
                  stays cells now (λ o. times o next) (λ o cell is m. stay o (λ q. let z = ap (λ (n : ℕ). times n next) q in let y = alone.later in absurd (omega (arith, z, y, m)))) next (λ o. omega arith) (h.3),
                );
          })
          trees (λ o. omega arith) (λ o. omega arith) from.hang;
      first = firsts_kept home edit (λ s below next. refl) trees ∙ from.first;
    }
