-- A record that has one call more.
use Rattle.std.proofs.Common.{◌≡◌, ◌↔◌, inl, inr, ⊎_elim, ℕ, suc, ◌+◌, ◌-◌, ◌*◌, ◌^◌, ◌<◌, ◌≤◌, Bool, true, false, not, cond, All, Contains, IsTrue, reverse, Result, Ok, Err, IfOk, Option, Vec, List, [], ◌∷◌, ◌++◌, length, take, drop, replicate, get_or, refl, sym, ◌∙◌, ap, subst, arith, take-append-drop}
use Rattle.std.proofs.lemmas.List.{reverse-append, length-reverse, length-take-le, length-replicate}
use Rattle.std.proofs.lemmas.List.Elements.{All-nil}
use Rattle.std.proofs.lemmas.Bool.{le-leb}
use Rattle.std.proofs.Math.Seq.{take-suc}
use Rattle.hal_base.specs.Disk.{written, Torn}
use Rattle.hal_base.proofs.ImageLemmas.{torn_whole}
use Rattle.hal_base.specs.Stops.{LeavesOnly, TornFrom, SaidFrom}
use Rattle.std.specs.declared.alloc.Global.{Global}
use Rattle.hal_disk.specs.ImageNow.{image_now}
use Rattle.hal_disk.specs.declared.call.Call.{Call}
use Rattle.hal_disk.specs.declared.call.Call.TheVariants.{Read, Write, Sync, Say}
use Rattle.hal_disk.specs.Record.{seen_by, said_by, stopped_by, MayLeave, LeavesWithin, LeftAt, is_near}
use Rattle.hal_disk.specs.RecordLaw.{left_by, left_now, seen_left}

abbrev Next : List ℕ → List Call → Call → (List ℕ → List ℕ → Type 0) → Type 0
Next first older call P = LeavesOnly (2 * length older) (2 * length (call ∷ older)) (LeftAt first older) (LeftAt first (call ∷ older)) P

next : (first : List ℕ) (older : List Call) (call : Call) (P : List ℕ → List ℕ → Type 0) → ((image text : List ℕ) → LeavesWithin first call older image text → P image text) → ((image text : List ℕ) → MayLeave first (call ∷ older) image → text ≡ said_by (call ∷ older) → P image text) → LeavesOnly (2 * length older) (2 * length (call ∷ older)) (LeftAt first older) (LeftAt first (call ∷ older)) P
unfolding LeftAt
next first older call P within after = record {
  later = omega arith;
  same = λ m image text le left. ⊎_elim (λ before. before) (⊎_elim (λ in_it. absurd (omega (arith, le, in_it.0))) (λ behind. absurd (omega (arith, le, behind.0)))) left;
  each = λ m image text low high left. ⊎_elim (λ before. absurd (omega (arith, low, left_by first older m image text before))) (⊎_elim (λ in_it. within image text in_it.1) (λ behind. after image text behind.1 behind.2)) left;
}

pub read_next : (first : List ℕ) (older : List Call) → LeavesOnly (2 * length older) (2 * length (Read ∷ older)) (LeftAt first older) (LeftAt first (Read ∷ older)) (LeftAt first older (2 * length older))
unfolding LeavesWithin MayLeave said_by
read_next first older = next first older Read (LeftAt first older (2 * length older)) (λ image text w. left_now first older image text w.0 w.1) (λ image text may said. left_now first older image text may said)

pub write_next : (first : List ℕ) (older : List Call) (at : ℕ) (content : List ℕ) (done : Bool) → LeavesOnly (2 * length older) (2 * length (Write at content done ∷ older)) (LeftAt first older) (LeftAt first (Write at content done ∷ older)) (TornFrom (LeftAt first older (2 * length older)) at (length content))
unfolding LeavesWithin MayLeave said_by
write_next first older at content done = next first older (Write at content done) (TornFrom (LeftAt first older (2 * length older)) at (length content))
    (λ image text w. (w.0.0, left_now first older w.0.0 text w.0.1 w.1, w.0.2)) (λ image text may said. (may.0, left_now first older may.0 text may.1 said, may.2))

sync_within : (first : List ℕ) (older : List Call) (done : Bool) (image text : List ℕ) → LeavesWithin first (Sync done) older image text → LeftAt first older (2 * length older) image text
unfolding LeavesWithin
sync_within first older done image text w = left_now first older image text w.0 w.1

sync_after : (first : List ℕ) (older : List Call) (done : Bool) (image text : List ℕ) → MayLeave first (Sync done ∷ older) image → text ≡ said_by (Sync done ∷ older) → LeftAt first older (2 * length older) image text
unfolding MayLeave said_by
sync_after first older true image text is said = left_now first older image text (subst (λ (i : List ℕ). MayLeave first older i) (sym is) (seen_left first older)) said
sync_after first older false image text may said = left_now first older image text may said

-- after a sync that was done a stop leaves what reads
pub sync_done : (first : List ℕ) (older : List Call) (moment : ℕ) (image text : List ℕ) → moment ≡ 2 * length (Sync true ∷ older) → LeftAt first (Sync true ∷ older) moment image text → image ≡ seen_by first older
unfolding LeftAt MayLeave
sync_done first older moment image text now (inl before) = absurd (omega (arith, now, left_by first older moment image text before))
sync_done first older moment image text now (inr (inl within)) = absurd (omega (arith, now, within.0))
sync_done first older moment image text now (inr (inr after)) = after.1

pub sync_next : (first : List ℕ) (older : List Call) (done : Bool) → LeavesOnly (2 * length older) (2 * length (Sync done ∷ older)) (LeftAt first older) (LeftAt first (Sync done ∷ older)) (LeftAt first older (2 * length older))
sync_next first older done = next first older (Sync done) (LeftAt first older (2 * length older)) (sync_within first older done) (sync_after first older done)

pub say_next : (first : List ℕ) (older : List Call) (text : List ℕ) (said : ℕ) → LeavesOnly (2 * length older) (2 * length (Say text said ∷ older)) (LeftAt first older) (LeftAt first (Say text said ∷ older)) (SaidFrom (LeftAt first older (2 * length older)) text)
unfolding LeavesWithin MayLeave said_by
say_next first older text said = next first older (Say text said) (SaidFrom (LeftAt first older (2 * length older)) text)
    (λ image so_far w. (said_by older, w.1.0, w.1.1, left_now first older image (said_by older) w.0 refl, w.1.2, w.1.3))
    (λ image so_far may is. (said_by older, take said text, drop said text, left_now first older image (said_by older) may refl, sym (take-append-drop said text), is))

-- before the first call
pub none_seen : (first : List ℕ) (calls : List Call) → calls ≡ [] → first ≡ seen_by first (reverse calls)
unfolding seen_by
none_seen first calls is = sym (ap (λ (l : List Call). seen_by first (reverse l)) is)

pub none_said : (said : List ℕ) (calls : List Call) → said ≡ [] → calls ≡ [] → said ≡ said_by (reverse calls)
unfolding said_by
none_said said calls none is = none ∙ sym (ap (λ (l : List Call). said_by (reverse l)) is)

-- the record with one call more, as the site has it
pub read_more : (first : List ℕ) (older newer : List Call) → newer ≡ Read ∷ older → LeavesOnly (2 * length older) (2 * length newer) (LeftAt first older) (LeftAt first newer) (LeftAt first older (2 * length older))
read_more first older newer is = subst (λ (l : List Call). LeavesOnly (2 * length older) (2 * length l) (LeftAt first older) (LeftAt first l) (LeftAt first older (2 * length older))) (sym is) (read_next first older)

pub sync_more : (first : List ℕ) (older newer : List Call) (done : Bool) → newer ≡ Sync done ∷ older → LeavesOnly (2 * length older) (2 * length newer) (LeftAt first older) (LeftAt first newer) (LeftAt first older (2 * length older))
sync_more first older newer done is = subst (λ (l : List Call). LeavesOnly (2 * length older) (2 * length l) (LeftAt first older) (LeftAt first l) (LeftAt first older (2 * length older))) (sym is) (sync_next first older done)

pub write_more : (first : List ℕ) (older newer : List Call) (at : ℕ) (content : List ℕ) (done : Bool) → newer ≡ Write at content done ∷ older → LeavesOnly (2 * length older) (2 * length newer) (LeftAt first older) (LeftAt first newer) (TornFrom (LeftAt first older (2 * length older)) at (length content))
write_more first older newer at content done is = subst (λ (l : List Call). LeavesOnly (2 * length older) (2 * length l) (LeftAt first older) (LeftAt first l) (TornFrom (LeftAt first older (2 * length older)) at (length content))) (sym is) (write_next first older at content done)

pub say_more : (first : List ℕ) (older newer : List Call) (text : List ℕ) (said : ℕ) → newer ≡ Say text said ∷ older → LeavesOnly (2 * length older) (2 * length newer) (LeftAt first older) (LeftAt first newer) (SaidFrom (LeftAt first older (2 * length older)) text)
say_more first older newer text said is = subst (λ (l : List Call). LeavesOnly (2 * length older) (2 * length l) (LeftAt first older) (LeftAt first l) (SaidFrom (LeftAt first older (2 * length older)) text)) (sym is) (say_next first older text said)

-- what reads, and what was said, after one call more
pub seen_more : (first : List ℕ) (older newer : List Call) (call : Call) (image : List ℕ) → newer ≡ call ∷ older → image ≡ seen_by first (call ∷ older) → image ≡ seen_by first newer
seen_more first older newer call image is seen = seen ∙ sym (ap (seen_by first) is)

pub said_more : (older newer : List Call) (call : Call) (said : List ℕ) → newer ≡ call ∷ older → said ≡ said_by (call ∷ older) → said ≡ said_by newer
said_more older newer call said is so = so ∙ sym (ap said_by is)

pub seen_write : (first : List ℕ) (older : List Call) (at : ℕ) (content image next : List ℕ) (done : Bool) → image ≡ seen_by first older → next ≡ cond done (written at content image) image → next ≡ seen_by first (Write at content done ∷ older)
unfolding seen_by
seen_write first older at content image next true is to = to ∙ ap (written at content) is
seen_write first older at content image next false is to = to ∙ is

pub newer_is : (call : Call) (old slot new : List Call) → reverse new ≡ call ∷ reverse slot → slot ≡ old → reverse new ≡ call ∷ reverse old
newer_is call old slot new is same = is ∙ ap (λ (l : List Call). call ∷ reverse l) same

pub read_image : (first : List ℕ) (older newer : List Call) (image : List ℕ) → newer ≡ Read ∷ older → image ≡ seen_by first older → image ≡ seen_by first newer
unfolding seen_by
read_image first older newer image is seen = seen ∙ sym (ap (seen_by first) is)

pub read_said : (older newer : List Call) (said : List ℕ) → newer ≡ Read ∷ older → said ≡ said_by older → said ≡ said_by newer
unfolding said_by
read_said older newer said is so = so ∙ sym (ap said_by is)

pub sync_image : (first : List ℕ) (older newer : List Call) (done : Bool) (image : List ℕ) → newer ≡ Sync done ∷ older → image ≡ seen_by first older → image ≡ seen_by first newer
unfolding seen_by
sync_image first older newer done image is seen = seen ∙ sym (ap (seen_by first) is)

pub sync_said : (older newer : List Call) (done : Bool) (said : List ℕ) → newer ≡ Sync done ∷ older → said ≡ said_by older → said ≡ said_by newer
unfolding said_by
sync_said older newer done said is so = so ∙ sym (ap said_by is)

pub write_image : (first : List ℕ) (older newer : List Call) (at : ℕ) (content image next : List ℕ) (done : Bool) → newer ≡ Write at content done ∷ older → image ≡ seen_by first older → next ≡ cond done (written at content image) image → next ≡ seen_by first newer
write_image first older newer at content image next done is seen to = seen_write first older at content image next done seen to ∙ sym (ap (seen_by first) is)

pub write_said : (older newer : List Call) (at : ℕ) (content : List ℕ) (done : Bool) (said : List ℕ) → newer ≡ Write at content done ∷ older → said ≡ said_by older → said ≡ said_by newer
unfolding said_by
write_said older newer at content done said is so = so ∙ sym (ap said_by is)

pub say_image : (first : List ℕ) (older newer : List Call) (text : List ℕ) (n : ℕ) (image : List ℕ) → newer ≡ Say text n ∷ older → image ≡ seen_by first older → image ≡ seen_by first newer
unfolding seen_by
say_image first older newer text n image is seen = seen ∙ sym (ap (seen_by first) is)

pub say_said : (older newer : List Call) (text : List ℕ) (n : ℕ) (said next : List ℕ) → newer ≡ Say text n ∷ older → said ≡ said_by older → next ≡ said ++ take n text → next ≡ said_by newer
unfolding said_by
say_said older newer text n said next is so to = to ∙ ap (λ (l : List ℕ). l ++ take n text) so ∙ sym (ap said_by is)

pub sync_durable : (first : List ℕ) (older newer : List Call) (image : List ℕ) → newer ≡ Sync true ∷ older → image ≡ seen_by first older → (bytes text : List ℕ) → LeftAt first newer (2 * length newer) bytes text → bytes ≡ image
sync_durable first older newer image is seen bytes text left =
    sync_done first older (2 * length newer) bytes text (ap (λ (l : List Call). 2 * length l) is) (subst (λ (l : List Call). LeftAt first l (2 * length newer) bytes text) is left) ∙ sym seen

-- the number of the newest call is one more than how many were made before it
pub named_next : (named : List ℕ) (is : Bool) (call : Call) (older newer : List Call) → newer ≡ call ∷ older → (IsTrue is ↔ Contains named (length older + 1)) → (not is ≡ false) ↔ Contains named (length newer)
named_next named is call older newer more sought = (λ fails. subst (λ (n : ℕ). Contains named n) number (sought.0 (failing is fails)), λ has. unnamed is (sought.1 (subst (λ (n : ℕ). Contains named n) (sym number) has)))
  where
    number : length older + 1 ≡ length newer
    number = omega (arith, ap length more)

    failing : (is : Bool) → not is ≡ false → is ≡ true
    failing true fails = refl
    failing false fails = sym fails

    unnamed : (is : Bool) → is ≡ true → not is ≡ false
    unnamed is so = ap not so

pub durable_if : (first : List ℕ) (older newer : List Call) (done : Bool) (image : List ℕ) → newer ≡ Sync done ∷ older → image ≡ seen_by first older → done ≡ true → (bytes text : List ℕ) → LeftAt first newer (2 * length newer) bytes text → bytes ≡ image
durable_if first older newer done image is seen was = sync_durable first older newer image (is ∙ ap (λ (d : Bool). Sync d ∷ older) was) seen

pub put_first : (f g : List ℕ) (old new : Option (Vec ℕ Global)) (at : ℕ) (content : List ℕ) (done : Bool) → f ≡ g → image_now f new ≡ cond done (written at content (image_now f old)) (image_now f old) → image_now g new ≡ cond done (written at content (image_now g old)) (image_now g old)
put_first f g old new at content done is so = subst (λ (f : List ℕ). image_now f new ≡ cond done (written at content (image_now f old)) (image_now f old)) is so

-- a record that was replayed, in the order of its calls
pub until_next : (calls : List Call) (i : ℕ) (call : Call) → i < length calls → call ≡ get_or calls i call → reverse (take (i + 1) calls) ≡ call ∷ reverse (take i calls)
until_next calls i call in_it is = ap (λ (n : ℕ). reverse (take n calls)) plus-one ∙ ap reverse (take-suc calls i call in_it) ∙ reverse-append (take i calls) (get_or calls i call ∷ []) ∙ ap (λ (c : Call). c ∷ reverse (take i calls)) (sym is)
  where
    plus-one : i + 1 ≡ suc i
    plus-one = omega arith

pub stopped_left : (first : List ℕ) (kept : Bool) (torn : ℕ) (calls : List Call) → MayLeave first calls (stopped_by first kept torn calls)
unfolding MayLeave stopped_by
stopped_left first kept torn [] = refl
stopped_left first kept torn (Read ∷ older) = stopped_left first kept torn older
stopped_left first true torn (Write at content done ∷ older) = (stopped_by first true torn older, stopped_left first true torn older, torn_whole at content (stopped_by first true torn older))
stopped_left first false torn (Write at content done ∷ older) =
    let same : length (replicate (length content) torn) ≡ length content = length-replicate (length content) torn in
    (stopped_by first false torn older, stopped_left first false torn older, subst (λ (n : ℕ). Torn at n (stopped_by first false torn older) (written at (replicate (length content) torn) (stopped_by first false torn older))) same (torn_whole at (replicate (length content) torn) (stopped_by first false torn older)))
stopped_left first kept torn (Sync true ∷ older) = refl
stopped_left first kept torn (Sync false ∷ older) = stopped_left first kept torn older
stopped_left first kept torn (Say text said ∷ older) = stopped_left first kept torn older

-- what was left at a moment is left there still after more calls
left_still : (first : List ℕ) (newer older : List Call) (moment : ℕ) (image text : List ℕ) → LeftAt first older moment image text → LeftAt first (newer ++ older) moment image text
unfolding LeftAt
left_still first [] older moment image text left = left
left_still first (call ∷ newer) older moment image text left = inl (left_still first newer older moment image text left)

pub left_until : (first : List ℕ) (calls : List Call) (count : ℕ) (image : List ℕ) → count ≤ length calls → MayLeave first (reverse (take count calls)) image → LeftAt first (reverse calls) (2 * count) image (said_by (reverse (take count calls)))
left_until first calls count image in_it may =
    let older = reverse (take count calls) in
    let size : length older ≡ count = length-reverse (take count calls) ∙ length-take-le count calls in_it in
    let now : LeftAt first older (2 * length older) image (said_by older) = left_now first older image (said_by older) may refl in
    let all : reverse calls ≡ reverse (drop count calls) ++ older = ap reverse (sym (take-append-drop count calls)) ∙ reverse-append (take count calls) (drop count calls) in
    subst (λ (n : ℕ). LeftAt first (reverse calls) (2 * n) image (said_by older)) size
    (subst (λ (l : List Call). LeftAt first l (2 * length older) image (said_by older)) (sym all) (left_still first (reverse (drop count calls)) older (2 * length older) image (said_by older) now))

abbrev pub AllNear : List Call → Type 0
AllNear calls = All (λ call. IsTrue (is_near call)) calls

pub none_near : (calls : List Call) → calls ≡ [] → AllNear calls
none_near calls none = subst (λ (l : List Call). AllNear l) (sym none) (All-nil (λ call. IsTrue (is_near call)))

pub next_near : (call : Call) (old slot new : List Call) → (AllNear slot → IsTrue (is_near call) → AllNear new) → slot ≡ old → AllNear old → IsTrue (is_near call) → AllNear new
next_near call old slot new next same near is = next (subst (λ (l : List Call). AllNear l) (sym same) near) is

pub read_near : IsTrue (is_near Read)
unfolding is_near
read_near = refl

pub sync_near : (done : Bool) → IsTrue (is_near (Sync done))
unfolding is_near
sync_near done = refl

pub say_near : (text : List ℕ) (said : ℕ) → IsTrue (is_near (Say text said))
unfolding is_near
say_near text said = refl

pub write_near : (at : ℕ) (content kept : List ℕ) (done : Bool) → kept ≡ content → at + length content ≤ 2 ^ 63 - 1 → IsTrue (is_near (Write at kept done))
unfolding is_near
write_near at content kept done is fits = le-leb (at + length kept) (2 ^ 63 - 1) (omega (arith, ap length is, fits))

pub nothing_seen : (first image : List ℕ) (calls : List Call) → image ≡ first → image ≡ seen_by first (reverse (take 0 calls))
unfolding seen_by
nothing_seen first image calls is = is

pub nothing_stopped : (first image : List ℕ) (kept : Bool) (torn : ℕ) (calls : List Call) → image ≡ first → image ≡ stopped_by first kept torn (reverse (take 0 calls))
unfolding stopped_by
nothing_stopped first image kept torn calls is = is

pub nothing_said : (said : List ℕ) (calls : List Call) → said ≡ [] → said ≡ said_by (reverse (take 0 calls))
unfolding said_by
nothing_said said calls is = is

pub stopped_at : {E : Type 0} (result : Result (List ℕ) E) (first seen : List ℕ) (all some : List Call) (moment : ℕ) (kept : Bool) (torn : ℕ) → seen ≡ first → some ≡ take moment all → moment ≤ length (reverse all) → IfOk result (λ image. image ≡ stopped_by seen kept torn (reverse some)) → IfOk result (λ image. LeftAt first (reverse all) (2 * moment) image (said_by (reverse (take moment all))))
stopped_at (Ok image) first seen all some moment kept torn same until fits is =
    let it : image ≡ stopped_by first kept torn (reverse (take moment all)) = is ∙ ap (λ (f : List ℕ). stopped_by f kept torn (reverse some)) same ∙ ap (λ (l : List Call). stopped_by first kept torn (reverse l)) until in
    left_until first all moment image (omega (arith, fits, length-reverse all)) (subst (λ (i : List ℕ). MayLeave first (reverse (take moment all)) i) (sym it) (stopped_left first kept torn (reverse (take moment all))))
stopped_at (Err e) first seen all some moment kept torn same until fits is = is
