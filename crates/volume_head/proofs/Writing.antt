-- What writes one behind another make of an image, and what they leave.
use Rattle.std.proofs.Common.{◌≡◌, ℕ, ◌+◌, ◌-◌, ◌*◌, ◌≤◌, List, [], ◌++◌, length, take, drop, replicate, Option, Some, None, Result, Ok, Err, OnOk, refl, sym, ◌∙◌, ap, subst, arith, length-append, append_assoc}
use Rattle.std.proofs.lemmas.List.{length-take, length-replicate, append-nil, take_at, drop_at, drop-drop, replicate-append-replicate}
use Rattle.std.specs.Option.{option_map}
use Rattle.hal_base.specs.Disk.{written}
use Rattle.hal_base.specs.Room.{HasRoom}
use Rattle.hal_base.specs.Stops.{IsTold, LeavesOnly, TornFrom}
use Rattle.hal_base.proofs.StopLemmas.{not_yet, leaves-then, leaves-weaken}
use Rattle.volume_head.specs.Calls.{OnlyReads}
use Rattle.volume_head.specs.Empty.{OnlyWrites}
use Rattle.volume_head.proofs.Calls.{room-then, room-same, room-larger}

-- what a write leaves before the end of its range
before : ℕ → List ℕ → List ℕ → List ℕ
before at a image = take at image ++ replicate (at - length image) 0 ++ a

length-before : (at : ℕ) (a image : List ℕ) → length (take at image ++ replicate (at - length image) 0 ++ a) ≡ at + length a
length-before at a image =
    omega (arith, length-append (take at image ++ replicate (at - length image) 0) a, length-append (take at image) (replicate (at - length image) 0), length-take at image, length-replicate {A = ℕ} (at - length image) 0)

-- what stands behind the range of two writes
behind : (at : ℕ) (a b image : List ℕ) → drop (at + length a + length b) (written at a image) ≡ drop (at + length (a ++ b)) image
behind at a b image =
    sym (drop-drop (length b) (at + length a) (written at a image))
    ∙ ap (drop (length b)) (drop_at (take at image ++ replicate (at - length image) 0 ++ a) (drop (at + length a) image) (at + length a) (length-before at a image))
    ∙ drop-drop (length b) (at + length a) image
    ∙ ap (λ (n : ℕ). drop n image) (omega (arith, length-append a b))

-- a write directly behind another
pub written_behind : (at : ℕ) (a b image : List ℕ) → written (at + length a) b (written at a image) ≡ written at (a ++ b) image
written_behind at a b image =
    let own = take at image ++ replicate (at - length image) 0 in
    let len = length-before at a image in
    let long = length-append (own ++ a) (drop (at + length a) image) in
    let taken : take (at + length a) (written at a image) ≡ own ++ a = take_at (own ++ a) (drop (at + length a) image) (at + length a) len in
    let over : at + length a - length (written at a image) ≡ 0 = omega (arith, len, long) in
    let none : replicate {A = ℕ} (at + length a - length (written at a image)) 0 ≡ [] = ap (λ (n : ℕ). replicate n 0) over in
    rw (taken, none, behind at a b image, append-nil (own ++ a)) (ap (λ (l : List ℕ). l ++ drop (at + length (a ++ b)) image) (append_assoc own a b))

-- a write directly before another, at the image's front
pub written_before : (a b image : List ℕ) → written 0 a (written (length a) b image) ≡ written 0 (a ++ b) image
written_before a b image =
    let own = take (length a) image ++ replicate (length a - length image) 0 in
    let len : length own ≡ length a = omega (arith, length-append (take (length a) image) (replicate (length a - length image) 0), length-take (length a) image, length-replicate {A = ℕ} (length a - length image) 0) in
    let cut : drop (length a) (written (length a) b image) ≡ b ++ drop (length a + length b) image =
    ap (drop (length a)) (append_assoc own b (drop (length a + length b) image)) ∙ drop_at own (b ++ drop (length a + length b) image) (length a) len in
    let over : 0 - length (written (length a) b image) ≡ 0 = omega arith in
    let none : replicate {A = ℕ} (0 - length (written (length a) b image)) 0 ≡ [] = ap (λ (n : ℕ). replicate n 0) over in
    let empty : replicate {A = ℕ} (0 - length image) 0 ≡ [] = ap (λ (n : ℕ). replicate n 0) (over_none (length image)) in
    let long : drop (0 + length (a ++ b)) image ≡ drop (length a + length b) image = ap (λ (n : ℕ). drop n image) (all_of a b) in
    let start : drop (0 + length a) (written (length a) b image) ≡ drop (length a) (written (length a) b image) = ap (λ (n : ℕ). drop n (written (length a) b image)) (from_none a) in
    rw (none, empty, long, start, cut) (sym (append_assoc a b (drop (length a + length b) image)))
  where
    over_none : (n : ℕ) → 0 - n ≡ 0
    over_none n = omega arith

    from_none : (xs : List ℕ) → 0 + length xs ≡ length xs
    from_none xs = omega arith

    all_of : (xs ys : List ℕ) → 0 + length (xs ++ ys) ≡ length xs + length ys
    all_of xs ys = omega (arith, length-append xs ys)

-- ---- of images that may be told

pub on_ok : {T E P : Type 0} (result : Result T E) → P → OnOk result P
on_ok (Ok x) p = p
on_ok (Err e) p = tt

pub told_behind : (start at : ℕ) (a b c : List ℕ) (before now next : Option (List ℕ)) → at ≡ start + length a → c ≡ a ++ b → now ≡ option_map (written start a) before → next ≡ option_map (written at b) now → next ≡ option_map (written start c) before
told_behind start at a b c None now next place joined is more = more ∙ ap (option_map (written at b)) is
told_behind start at a b c (Some i) now next place joined is more =
    more ∙ ap (option_map (written at b)) is
    ∙ ap Some (ap (λ (n : ℕ). written n b (written start a i)) place ∙ written_behind start a b i ∙ ap (λ (l : List ℕ). written start l i) (sym joined))

pub told_before : (a b c : List ℕ) (before now next : Option (List ℕ)) → c ≡ a ++ b → now ≡ option_map (written (length a) b) before → next ≡ option_map (written 0 a) now → next ≡ option_map (written 0 c) before
told_before a b c None now next joined is more = more ∙ ap (option_map (written 0 a)) is
told_before a b c (Some i) now next joined is more =
    more ∙ ap (option_map (written 0 a)) is ∙ ap Some (written_before a b i ∙ ap (λ (l : List ℕ). written 0 l i) (sym joined))

-- a block of zeros more
pub zeros_more : (bytes block : List ℕ) (number : ℕ) → block ≡ replicate 4096 0 → bytes ++ replicate (4096 * (number + 1)) 0 ≡ (bytes ++ replicate (4096 * number) 0) ++ block
zeros_more bytes block number is =
    let count : 4096 * (number + 1) ≡ 4096 * number + 4096 = omega arith in
    ap (λ (l : List ℕ). bytes ++ l) (ap (λ (n : ℕ). replicate n 0) count ∙ sym (replicate-append-replicate (4096 * number) 4096 0) ∙ ap (λ (l : List ℕ). replicate (4096 * number) 0 ++ l) (sym is))
    ∙ sym (append_assoc bytes (replicate (4096 * number) 0) block)

pub no_zeros : (bytes : List ℕ) → bytes ++ replicate (4096 * 0) 0 ≡ bytes
no_zeros bytes = append-nil bytes

pub zeros_end : (bytes : List ℕ) (number : ℕ) → length (bytes ++ replicate (4096 * number) 0) ≡ length bytes + 4096 * number
zeros_end bytes number = omega (arith, length-append bytes (replicate (4096 * number) 0), length-replicate {A = ℕ} (4096 * number) 0)

-- ---- what calls leave

module _ {S : Type 0} {said : S → Option (List ℕ)} {moment : S → ℕ} {left_at : S → ℕ → List ℕ → List ℕ → Type 0} {disk_faults say_faults : S → ℕ} {room : S → Option (ℕ × ℕ)} where
  pub writes_none : (most : ℕ) (a : S) → OnlyWrites said moment left_at disk_faults say_faults room most a a
  writes_none most a = record { said_stays = refl; stops = not_yet (moment a) (left_at a) _; later = omega arith; says = refl; fits = room-same (room a) (disk_faults a) _ }

  pub writes_then : {n m : ℕ} {a b c : S} → OnlyWrites said moment left_at disk_faults say_faults room n a b → OnlyWrites said moment left_at disk_faults say_faults room m b c → m ≤ n → OnlyWrites said moment left_at disk_faults say_faults room n a c
  writes_then first second le = record {
    said_stays = second.said_stays ∙ first.said_stays;
    stops = leaves-then first.stops second.stops (λ x s told. subst (λ (o : Option (List ℕ)). IsTold o s) first.said_stays told);
    later = omega (arith, first.later, second.later);
    says = second.says ∙ first.says;
    fits = room-then first.fits second.fits le;
  }

  pub writes_more : {n m : ℕ} {a b : S} → OnlyWrites said moment left_at disk_faults say_faults room n a b → n ≤ m → OnlyWrites said moment left_at disk_faults say_faults room m a b
  writes_more first le = record { said_stays = first.said_stays; stops = first.stops; later = first.later; says = first.says; fits = room-larger first.fits le }

  -- one write, over a site that tells what was said
  pub one_write : {at n : ℕ} {a b : S} → ((bytes text : List ℕ) → left_at a (moment a) bytes text → IsTold (said a) text) → said b ≡ said a
      → LeavesOnly (moment a) (moment b) (left_at a) (left_at b) (TornFrom (left_at a (moment a)) at n) → disk_faults a ≤ disk_faults b → say_faults b ≡ say_faults a
      → HasRoom (room a) (room b) (disk_faults a) (disk_faults b) (λ room. at + n ≤ room.0) → OnlyWrites said moment left_at disk_faults say_faults room (at + n) a b
  one_write law said_is stops later says fits = record { said_stays = said_is; stops = leaves-weaken stops (λ x s torn. law torn.0 s torn.1); later = later; says = says; fits = fits }

  -- one that writes nothing
  pub one_look : {a b : S} → ((bytes text : List ℕ) → left_at a (moment a) bytes text → IsTold (said a) text) → said b ≡ said a
      → LeavesOnly (moment a) (moment b) (left_at a) (left_at b) (left_at a (moment a)) → disk_faults a ≤ disk_faults b → say_faults b ≡ say_faults a
      → HasRoom (room a) (room b) (disk_faults a) (disk_faults b) (λ room. 0 ≤ room.0) → OnlyWrites said moment left_at disk_faults say_faults room 0 a b
  one_look law said_is stops later says fits = record { said_stays = said_is; stops = leaves-weaken stops law; later = later; says = says; fits = fits }

  pub of_reads : {image : S → Option (List ℕ)} {a b : S} → ((bytes text : List ℕ) → left_at a (moment a) bytes text → IsTold (said a) text) → OnlyReads image said moment left_at disk_faults say_faults room a b → OnlyWrites said moment left_at disk_faults say_faults room 0 a b
  of_reads law reads = one_look law reads.said_stays reads.stops reads.later reads.says reads.fits
