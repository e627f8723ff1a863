-- What the changes of a page make of its rows.
use Rattle.std.proofs.Common.{◌≡◌, ℕ, suc, ◌+◌, ◌-◌, ◌*◌, ◌^◌, ◌<◌, ◌≤◌, List, [], ◌∷◌, ◌++◌, length, get_or, take, drop, set, replicate, Some, refl, sym, ap, subst, ◌∙◌, append_assoc, drop-cons, arith}
use Rattle.std.specs.Prelude.{insert, slice_get}
use Rattle.std.specs.Option.{option_map}
use Rattle.std.proofs.lemmas.Option.{same_Some, slice_get-get_or}
use Rattle.std.specs.List.{remove, copy_within}
use Rattle.std.specs.Int.{w16, to_be_bytes}
use Rattle.std.proofs.lemmas.List.{length-append, length-replicate, drop-drop, take_at, drop_at, drop-replicate, replicate-append-replicate, set_split, length-set}
use Rattle.std.proofs.lemmas.List.Concat.{flat_map-append}
use Rattle.keyed_sets.specs.declared.row.RowShape.{RowShape}
use Rattle.hal_base.specs.Bytes.{Writes}
use Rattle.keyed_sets.specs.Layout.{Row, row_length, HasShape, spelled_row, spelled, rows_in, count_of, end_of, PutsRows}
use Rattle.keyed_sets.proofs.Rows.{AreShaped, length-spelled_row, length-rows_in, end_more}
use Rattle.keyed_sets.proofs.Moves.{two_writes, written_between, moved_on, moved_back}
use Rattle.keyed_sets.proofs.Puts.{Parts, parts, puts_rows, sum_of, AreShaped-append, reads_rows, behind_head}

zeros_less : (rest : List ℕ) (gone were are : ℕ) → were - gone ≡ are → rest ≡ replicate were 0 → drop gone rest ≡ replicate are 0
zeros_less rest gone were are less zeros = ap (drop gone) zeros ∙ drop-replicate gone were 0 ∙ ap (λ (k : ℕ). replicate k 0) less

zeros_more : (rest : List ℕ) (come were are : ℕ) → come + were ≡ are → rest ≡ replicate were 0 → replicate come 0 ++ rest ≡ replicate are 0
zeros_more rest come were are more zeros =
    ap (λ (z : List ℕ). replicate come 0 ++ z) zeros ∙ replicate-append-replicate come were 0 ∙ ap (λ (k : ℕ). replicate k 0) more

pub inserted : (shape : RowShape) (old m1 m2 m3 new key body : List ℕ) (at start end size n : ℕ) → length old ≡ 4096 → at ≤ count_of old → end_of shape (count_of old + 1) ≤ 4096 → HasShape shape (key, body)
    → start ≡ end_of shape at → end ≡ end_of shape (count_of old) → size ≡ row_length shape → n ≡ count_of old + 1 → n < 2 ^ 16
    → m1 ≡ copy_within old start end (start + size) → Writes m1 m2 start key → Writes m2 m3 (start + length key) body → new ≡ take 8 m3 ++ to_be_bytes w16 n ++ drop 10 m3
    → PutsRows shape old new (insert (rows_in shape old) at (key, body))
inserted shape old m1 m2 m3 new key body at start end size n whole within room shaped starts ends sized counts small shift first second put =
    let c : ℕ = count_of old in
    let rows : List Row = rows_in shape old in
    let row : Row = (key, body) in
    let grown : end_of shape n ≡ end_of shape c + size = ap (end_of shape) counts ∙ end_more shape c ∙ ap (λ (k : ℕ). end_of shape c + k) (sym sized) in
    let grown_room : end_of shape n ≤ 4096 = subst (λ (k : ℕ). end_of shape k ≤ 4096) (sym counts) room in
    let p : Parts shape old at = parts shape old at whole within (omega (arith, grown, grown_room)) in
    let head : List ℕ = take 16 old in
    let before : List ℕ = spelled (take at rows) in
    let front : List ℕ = head ++ before in
    let after : List ℕ = spelled (drop at rows) in
    let rest : List ℕ = drop (end_of shape c) old in
    let left : List ℕ = drop size rest in
    let bytes : List ℕ = key ++ body in
    let long : length bytes ≡ size = length-spelled_row shape row shaped ∙ sym sized in
    let begins : length front ≡ start = p.front ∙ sym starts in
    let moved = moved_on old m1 front after rest start end size p.is begins (omega (arith, p.rows, starts, ends)) (omega (arith, p.ordered, starts, ends)) (omega (arith, p.rest, grown, grown_room)) shift in
    let m1_long : length m1 ≡ length front + (length moved.0 + length (after ++ left)) =
    ap length moved.2 ∙ length-append front (moved.0 ++ (after ++ left)) ∙ ap (λ (k : ℕ). length front + k) (length-append moved.0 (after ++ left)) in
    let both : Writes m1 m3 start bytes = two_writes m1 m2 m3 start (start + length key) key body (omega (arith, m1_long, begins, moved.1, long, length-append key body)) refl first second in
    let made : m3 ≡ front ++ (bytes ++ (after ++ left)) = written_between m1 m3 front moved.0 (after ++ left) bytes start moved.2 begins (moved.1 ∙ sym long) both in
    let list : List Row = insert rows at row in
    let spelling : spelled list ≡ before ++ (bytes ++ after) = flat_map-append spelled_row (take at rows) (row ∷ drop at rows) in
    let joined : spelled list ++ left ≡ before ++ (bytes ++ (after ++ left)) =
    ap (λ (z : List ℕ). z ++ left) spelling ∙ append_assoc before (bytes ++ after) left ∙ ap (λ (z : List ℕ). before ++ z) (append_assoc bytes after left) in
    let is : m3 ≡ head ++ (spelled list ++ left) = made ∙ append_assoc head before (bytes ++ (after ++ left)) ∙ ap (λ (z : List ℕ). head ++ z) (sym joined) in
    let many : n ≡ length list = omega (arith, length-append (take at rows) (row ∷ drop at rows), p.taken, p.left, counts) in
    let less : (4096 - end_of shape c) - size ≡ 4096 - end_of shape n = omega (arith, grown) in
    puts_rows shape old m3 new list left n whole small many (AreShaped-append shape (take at rows) (row ∷ drop at rows) p.before (shaped, p.after)) grown_room is put
    (zeros_less rest size (4096 - end_of shape c) (4096 - end_of shape n) less)

pub removed : (shape : RowShape) (old m1 m2 new : List ℕ) (at start end size n : ℕ) → length old ≡ 4096 → at < count_of old → end_of shape (count_of old) ≤ 4096
    → start ≡ end_of shape at → end ≡ end_of shape (count_of old) → size ≡ row_length shape → n + 1 ≡ count_of old → n < 2 ^ 16
    → m1 ≡ copy_within old (start + size) end start → Writes m1 m2 (end - size) (replicate size 0) → new ≡ take 8 m2 ++ to_be_bytes w16 n ++ drop 10 m2
    → PutsRows shape old new (remove (rows_in shape old) at)
removed shape old m1 m2 new at start end size n whole within place starts ends sized counts small shift zeroed put =
    let c : ℕ = count_of old in
    let rows : List Row = rows_in shape old in
    let none : Row = ([], []) in
    let row : Row = get_or rows at none in
    let others : List Row = drop (suc at) rows in
    let grown : end_of shape c ≡ end_of shape n + size = ap (end_of shape) (sym counts) ∙ end_more shape n ∙ ap (λ (k : ℕ). end_of shape n + k) (sym sized) in
    let p : Parts shape old at = parts shape old at whole (omega arith) place in
    let cut : drop at rows ≡ row ∷ others = drop-cons rows at none (omega (arith, length-rows_in shape old)) in
    let after_shaped : AreShaped shape (row ∷ others) = subst (AreShaped shape) cut p.after in
    let head : List ℕ = take 16 old in
    let before : List ℕ = spelled (take at rows) in
    let front : List ℕ = head ++ before in
    let gone : List ℕ = spelled_row row in
    let b : List ℕ = spelled others in
    let rest : List ℕ = drop (end_of shape c) old in
    let split : spelled (drop at rows) ≡ gone ++ b = ap spelled cut in
    let stands : old ≡ front ++ (gone ++ (b ++ rest)) = p.is ∙ ap (λ (z : List ℕ). front ++ (z ++ rest)) split ∙ ap (λ (z : List ℕ). front ++ z) (append_assoc gone b rest) in
    let gone_long : length gone ≡ size = length-spelled_row shape row after_shaped.0 ∙ sym sized in
    let two : length (spelled (drop at rows)) ≡ length gone + length b = ap length split ∙ length-append gone b in
    let begins : length front ≡ start = p.front ∙ sym starts in
    let fills : start + size + length b ≡ end = omega (arith, two, gone_long, p.rows, p.ordered, starts, ends) in
    let moved = moved_back old m1 front gone b rest start end size stands begins gone_long fills shift in
    let front_long : length (front ++ b) ≡ end - size = omega (arith, length-append front b, begins, fills) in
    let zeros : List ℕ = replicate size 0 in
    let made : m2 ≡ (front ++ b) ++ (zeros ++ rest) = written_between m1 m2 (front ++ b) moved.0 rest zeros (end - size) moved.2 front_long (moved.1 ∙ sym (length-replicate size 0)) zeroed in
    let list : List Row = remove rows at in
    let spelling : spelled list ≡ before ++ b = flat_map-append spelled_row (take at rows) others in
    let joined : spelled list ++ (zeros ++ rest) ≡ before ++ (b ++ (zeros ++ rest)) = ap (λ (z : List ℕ). z ++ (zeros ++ rest)) spelling ∙ append_assoc before b (zeros ++ rest) in
    let is : m2 ≡ head ++ (spelled list ++ (zeros ++ rest)) =
    made ∙ append_assoc front b (zeros ++ rest) ∙ append_assoc head before (b ++ (zeros ++ rest)) ∙ ap (λ (z : List ℕ). head ++ z) (sym joined) in
    let left : length (drop at rows) ≡ suc (length others) = ap length cut in
    let many : n ≡ length list = omega (arith, length-append (take at rows) others, p.taken, p.left, left, counts) in
    let more : size + (4096 - end_of shape c) ≡ 4096 - end_of shape n = omega (arith, grown, place) in
    puts_rows shape old m2 new list (zeros ++ rest) n whole small many (AreShaped-append shape (take at rows) others p.before after_shaped.1) (omega (arith, grown, place)) is put
    (zeros_more rest size (4096 - end_of shape c) (4096 - end_of shape n) more)

pub kept : (shape : RowShape) (old mid new : List ℕ) (from start end : ℕ) → length old ≡ 4096 → from ≤ count_of old → end_of shape (count_of old) ≤ 4096 → start ≡ end_of shape from → end ≡ end_of shape (count_of old) → from < 2 ^ 16
    → Writes old mid start (replicate (end - start) 0) → new ≡ take 8 mid ++ to_be_bytes w16 from ++ drop 10 mid → PutsRows shape old new (take from (rows_in shape old))
kept shape old mid new from start end whole within place starts ends small zeroed put =
    let c : ℕ = count_of old in
    let rows : List Row = rows_in shape old in
    let p : Parts shape old from = parts shape old from whole within place in
    let head : List ℕ = take 16 old in
    let before : List ℕ = spelled (take from rows) in
    let rest : List ℕ = drop (end_of shape c) old in
    let zeros : List ℕ = replicate (end - start) 0 in
    let same : length (spelled (drop from rows)) ≡ length zeros = omega (arith, p.rows, starts, ends, length-replicate {A = ℕ} (end - start) 0) in
    let made : mid ≡ (head ++ before) ++ (zeros ++ rest) = written_between old mid (head ++ before) (spelled (drop from rows)) rest zeros start p.is (p.front ∙ sym starts) same zeroed in
    let more : (end - start) + (4096 - end_of shape c) ≡ 4096 - end_of shape from = omega (arith, p.ordered, starts, ends, place) in
    puts_rows shape old mid new (take from rows) (zeros ++ rest) from whole small (sym p.taken) p.before (omega (arith, p.ordered, place)) (made ∙ append_assoc head before (zeros ++ rest)) put
    (zeros_more rest (end - start) (4096 - end_of shape c) (4096 - end_of shape from) more)

rest_of_zeros : (second : List ℕ) (long end : ℕ) → drop 16 second ≡ replicate (4096 - 16) 0 → (4096 - 16) - long ≡ 4096 - end → drop (16 + long) second ≡ replicate (4096 - end) 0
rest_of_zeros second long end none less =
    sym (drop-drop long 16 second) ∙ ap (drop long) none ∙ drop-replicate long (4096 - 16) 0 ∙ ap (λ (k : ℕ). replicate k 0) less

pub moved : (shape : RowShape) (old second mid new : List ℕ) (from start end n : ℕ) → length old ≡ 4096 → length second ≡ 4096 → from ≤ count_of old → end_of shape (count_of old) ≤ 4096 → count_of second ≡ 0
    → start ≡ end_of shape from → end ≡ end_of shape (count_of old) → n ≡ count_of old - from → n < 2 ^ 16
    → Writes second mid 16 (take (end - start) (drop start old)) → new ≡ take 8 mid ++ to_be_bytes w16 n ++ drop 10 mid → PutsRows shape second new (drop from (rows_in shape old))
moved shape old second mid new from start end n whole whole_second within place empty starts ends counts small written put =
    let c : ℕ = count_of old in
    let rows : List Row = rows_in shape old in
    let p : Parts shape old from = parts shape old from whole within place in
    let front : List ℕ = take 16 old ++ spelled (take from rows) in
    let b : List ℕ = spelled (drop from rows) in
    let rest : List ℕ = drop (end_of shape c) old in
    let begins : length front ≡ start = p.front ∙ sym starts in
    let long : length b ≡ end - start = omega (arith, p.rows, starts, ends) in
    let bytes : take (end - start) (drop start old) ≡ b =
    ap (λ (z : List ℕ). take (end - start) (drop start z)) p.is ∙ ap (take (end - start)) (drop_at front (b ++ rest) start begins) ∙ take_at b rest (end - start) long in
    let put_b : Writes second mid 16 b = subst (Writes second mid 16) bytes written in
    let left : List ℕ = drop (16 + length b) second in
    let is : mid ≡ take 16 second ++ (b ++ left) = put_b ∙ append_assoc (take 16 second) b left in
    let sum : row_length shape * from + row_length shape * n ≡ row_length shape * c = sum_of (row_length shape) from n c (omega (arith, counts, within)) in
    let ended : end_of shape n ≡ 16 + length b = omega (arith, sum, long, starts, ends) in
    let first : end_of shape 0 ≡ 16 = omega arith in
    let less : (4096 - 16) - length b ≡ 4096 - end_of shape n = omega (arith, ended) in
    puts_rows shape second mid new (drop from rows) left n whole_second small (counts ∙ sym p.left) p.after (omega (arith, ended, long, ends, place)) is put
    (λ were.
    let none : drop 16 second ≡ replicate (4096 - 16) 0 = subst (λ (k : ℕ). drop k second ≡ replicate (4096 - k) 0) (ap (end_of shape) empty ∙ first) were in
    rest_of_zeros second (length b) (end_of shape n) none less)

-- another body of the row of a key
pub overwritten : (shape : RowShape) (old new key body : List ℕ) (at start : ℕ) → length old ≡ 4096 → at < count_of old → end_of shape (count_of old) ≤ 4096 → HasShape shape (key, body)
    → option_map (λ row. row.0) (slice_get (rows_in shape old) at) ≡ Some key → start ≡ end_of shape at + shape.key → Writes old new start body → PutsRows shape old new (set (rows_in shape old) at (key, body))
overwritten shape old new key body at start whole within place shaped keyed starts written =
    let rows : List Row = rows_in shape old in
    let lt : at < length rows = omega (arith, length-rows_in shape old, within) in
    let none : Row = ([], []) in
    let row : Row = get_or rows at none in
    let others : List Row = drop (suc at) rows in
    let p : Parts shape old at = parts shape old at whole (omega (arith, within)) place in
    let cut : drop at rows ≡ row ∷ others = drop-cons rows at none lt in
    let after_shaped : AreShaped shape (row ∷ others) = subst (AreShaped shape) cut p.after in
    let same : row.0 ≡ key = same_Some _ _ (sym (ap (option_map (λ (r : Row). r.0)) (slice_get-get_or rows at none lt)) ∙ keyed) in
    let head : List ℕ = take 16 old in
    let before : List ℕ = spelled (take at rows) in
    let front : List ℕ = (head ++ before) ++ key in
    let rest : List ℕ = drop (end_of shape (count_of old)) old in
    let behind : List ℕ = spelled others ++ rest in
    let spelling : spelled (drop at rows) ++ rest ≡ key ++ (row.1 ++ behind) =
    ap (λ (l : List Row). spelled l ++ rest) cut ∙ append_assoc (spelled_row row) (spelled others) rest ∙ append_assoc (row.0) (row.1) behind ∙ ap (λ (z : List ℕ). z ++ (row.1 ++ behind)) same in
    let is : old ≡ front ++ (row.1 ++ behind) = p.is ∙ ap (λ (z : List ℕ). (head ++ before) ++ z) spelling ∙ sym (append_assoc (head ++ before) key (row.1 ++ behind)) in
    let made : new ≡ front ++ (body ++ behind) =
    written_between old new front (row.1) behind body start is (omega (arith, length-append (head ++ before) key, p.front, shaped.key, starts)) (after_shaped.0.body ∙ sym shaped.body) written in
    let list : List Row = set rows at (key, body) in
    let listed : spelled list ≡ before ++ ((key ++ body) ++ spelled others) = ap spelled (set_split rows at (key, body) lt) ∙ flat_map-append spelled_row (take at rows) ((key, body) ∷ others) in
    let joined : spelled list ++ rest ≡ before ++ (key ++ (body ++ behind)) =
    ap (λ (z : List ℕ). z ++ rest) listed ∙ append_assoc before ((key ++ body) ++ spelled others) rest ∙ ap (λ (z : List ℕ). before ++ z) (append_assoc (key ++ body) (spelled others) rest ∙ append_assoc key body behind) in
    let whole_is : new ≡ head ++ (spelled list ++ rest) = made ∙ append_assoc (head ++ before) key (body ++ behind) ∙ append_assoc head before (key ++ (body ++ behind)) ∙ ap (λ (z : List ℕ). head ++ z) (sym joined) in
    let b = behind_head old new (spelled list ++ rest) whole whole_is in
    let list_shaped : AreShaped shape list = subst (AreShaped shape) (sym (set_split rows at (key, body) lt)) (AreShaped-append shape (take at rows) ((key, body) ∷ others) p.before (shaped, after_shaped.1)) in
    reads_rows shape old new list rest (count_of old) b.head b.count (sym (length-set rows at (key, body) ∙ length-rows_in shape old)) list_shaped place b.rest (λ were. were)
