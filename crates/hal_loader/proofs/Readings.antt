-- The records of a text, one after another.
use Rattle.std.proofs.Common.{◌≡◌, ℕ, zero, suc, ◌+◌, ◌-◌, ◌<◌, ◌≤◌, ◌==◌, Bool, true, false, cond, ◌||◌, List, [], ◌∷◌, ◌++◌, length, Option, Some, None, Bor, refl, sym, ap, ◌∙◌, arith}
use Rattle.std.proofs.lemmas.List.{append-nil}
use Rattle.csv.specs.Machine.{Read, next_record, step, in_field, start_field, start_record, is_end, ends_at_end, fields_after, field_after}
use Rattle.csv.specs.Reading.{Reached, default_config, records_from, strip_bom, is_bom, source_of}
use Rattle.csv.specs.declared.parser.Action.{Action}
use Rattle.csv.specs.declared.parser.Action.TheVariants as act
use Rattle.csv.specs.declared.parser.State.{State}
use Rattle.csv.specs.declared.parser.State.TheVariants as st
use Rattle.csv.specs.declared.reader.Reader.{Reader}
use Rattle.hal_loader.specs.Text.{records_of}

-- ---- each record takes a byte at least

abbrev EndsWell : State × Action → Type 0
EndsWell r = is_end r.1 ≡ true → ends_at_end r.0 ≡ false

field_end : (c : ℕ) → EndsWell (in_field default_config c)
field_end c = by (c == 44) ((c == 13) || (c == 10)) (c == 13)
  where
    by : (a b d : Bool) → EndsWell (cond a (st.StartField, act.EndField) (cond b (cond d st.AfterCr st.StartRecord, act.EndRecord) (st.InField, act.Copy)))
    by true b d e = cc e
    by false true true e = refl
    by false true false e = refl
    by false false d e = cc e

quote_end : (c : ℕ) → EndsWell (start_field default_config c)
quote_end c = by (c == 34) (field_end c)
  where
    by : (a : Bool) → EndsWell (in_field default_config c) → EndsWell (cond a (st.InQuoted, act.Skip) (in_field default_config c))
    by true f e = cc e
    by false f e = f e

record_end : (c : ℕ) → EndsWell (start_record default_config c)
record_end c = by ((c == 13) || (c == 10)) (quote_end c)
  where
    by : (a : Bool) → EndsWell (start_field default_config c) → EndsWell (cond a (st.StartRecord, act.Skip) (start_field default_config c))
    by true f e = cc e
    by false f e = f e

step_end : (s : State) (c : ℕ) → EndsWell (step default_config s c)
step_end st.StartRecord c e = record_end c e
step_end st.StartField c e = quote_end c e
step_end st.InField c e = field_end c e
step_end st.InQuoted c e = by (c == 34) e
  where
    by : (a : Bool) → EndsWell (cond a (st.AfterQuote, act.Skip) (st.InQuoted, act.Copy))
    by true f = cc f
    by false f = cc f
step_end st.InEscape c e = cc e
step_end st.AfterQuote c e = by (c == 34) (field_end c) e
  where
    by : (a : Bool) → EndsWell (in_field default_config c) → EndsWell (cond a (st.InQuoted, act.Copy) (in_field default_config c))
    by true f g = cc g
    by false f g = f g
step_end st.InComment c e = by (c == 10) e
  where
    by : (a : Bool) → EndsWell (cond a (st.StartRecord, act.Skip) (st.InComment, act.Skip))
    by true f = cc f
    by false f = cc f
step_end st.AfterCr c e = by (c == 10) (record_end c) e
  where
    by : (a : Bool) → EndsWell (start_record default_config c) → EndsWell (cond a (st.StartRecord, act.Skip) (start_record default_config c))
    by true f g = cc g
    by false f g = f g

-- what is left of a text behind a record, from a place between two
record Took (xs : List ℕ) (p : Read) : Type 0 where
  between : ends_at_end p.1 ≡ false
  left : length p.2 ≤ length xs

took : (s : State) (f : List (List ℕ)) (x xs : List ℕ) (p : Read) → next_record default_config s f x xs ≡ Some p → Took xs p
unfolding next_record
took s f x [] p e = by (ends_at_end s) e
  where
    by : (b : Bool) → cond b (Some (f ++ (x ∷ []), st.StartRecord, [])) None ≡ Some p → Took [] p
    by true g = let is : (f ++ (x ∷ []), st.StartRecord, []) ≡ p = cc g in record { between = ap (λ (q : Read). ends_at_end q.1) (sym is); left = let n : length p.2 ≡ 0 = ap (λ (q : Read). length q.2) (sym is) in omega (arith, n) }
    by false g = cc g
took s f x (c ∷ xs) p e = by (is_end (step default_config s c).1) refl e (took (step default_config s c).0 (fields_after (step default_config s c).1 f x) (field_after (step default_config s c).1 c x) xs p)
  where
    by : (b : Bool) → is_end (step default_config s c).1 ≡ b
        → cond b (Some (fields_after (step default_config s c).1 f x, (step default_config s c).0, xs)) (next_record default_config (step default_config s c).0 (fields_after (step default_config s c).1 f x) (field_after (step default_config s c).1 c x) xs) ≡ Some p
        → (next_record default_config (step default_config s c).0 (fields_after (step default_config s c).1 f x) (field_after (step default_config s c).1 c x) xs ≡ Some p → Took xs p) → Took (c ∷ xs) p
    by true h g go =
        let is : (fields_after (step default_config s c).1 f x, (step default_config s c).0, xs) ≡ p = cc g in
        record { between = ap (λ (q : Read). ends_at_end q.1) (sym is) ∙ step_end s c h; left = let n : length p.2 ≡ length xs = ap (λ (q : Read). length q.2) (sym is) in omega (arith, n) }
    by false h g go = let t = go g in record { between = t.between; left = let n = t.left in omega (arith, n) }

took_byte : (s : State) (f : List (List ℕ)) (x xs : List ℕ) (p : Read) → ends_at_end s ≡ false → next_record default_config s f x xs ≡ Some p → length p.2 < length xs
unfolding next_record
took_byte s f x [] p b e = let n : ◌≡◌ {A = Option Read} None (Some p) = ap (λ (c : Bool). cond c (Some (f ++ (x ∷ []), st.StartRecord, [])) None) (sym b) ∙ e in cc n
took_byte s f x (c ∷ xs) p b e = by (is_end (step default_config s c).1) e
  where
    by : (b : Bool)
        → cond b (Some (fields_after (step default_config s c).1 f x, (step default_config s c).0, xs)) (next_record default_config (step default_config s c).0 (fields_after (step default_config s c).1 f x) (field_after (step default_config s c).1 c x) xs) ≡ Some p
        → length p.2 < length (c ∷ xs)
    by true g =
        let is : (fields_after (step default_config s c).1 f x, (step default_config s c).0, xs) ≡ p = cc g in
        let n : length p.2 ≡ length xs = ap (λ (q : Read). length q.2) (sym is) in omega (arith, n)
    by false g = let t = (took (step default_config s c).0 (fields_after (step default_config s c).1 f x) (field_after (step default_config s c).1 c x) xs p g).left in omega (arith, t)

pub used : (s s2 : State) (xs ys : List ℕ) (rows : List (List (List ℕ))) → ends_at_end s ≡ false → Reached default_config s xs rows s2 ys → length rows + length ys ≤ length xs
unfolding Reached
used s s2 xs ys [] b h = let n : length xs ≡ length ys = ap length h.1 in omega (arith, n)
used s s2 xs ys (r ∷ rows) b h =
    let t = took s [] [] xs h.0 h.1 in
    let n = took_byte s [] [] xs h.0 b h.1 in
    let m = used h.0.1 s2 h.0.2 ys rows t.between h.3 in
    omega (arith, n, m)

-- ---- what was read is a front of all records

front_from : (s s2 : State) (xs ys : List ℕ) (rows : List (List (List ℕ))) (more : ℕ) → Reached default_config s xs rows s2 ys
    → records_from default_config (length rows + more) s xs ≡ rows ++ records_from default_config more s2 ys
unfolding Reached records_from
front_from s s2 xs ys [] more h =
    let n : length {A = List (List ℕ)} [] + more ≡ more = omega arith in
    ap (λ (k : ℕ). records_from default_config k s xs) n ∙ ap (λ (t : State). records_from default_config more t xs) h.0 ∙ ap (records_from default_config more s2) h.1
front_from s s2 xs ys (r ∷ rows) more h =
    let n : length (r ∷ rows) + more ≡ suc (length rows + more) = omega arith in
    ap (λ (k : ℕ). records_from default_config k s xs) n
    ∙ rw h.1 (ap (λ (l : List (List (List ℕ))). h.0.0 ∷ l) (front_from h.0.1 s2 h.0.2 ys rows more h.3) ∙ ap (λ (q : List (List ℕ)). q ∷ (rows ++ records_from default_config more s2 ys)) (sym h.2))

none_from : (n : ℕ) (s : State) (xs : List ℕ) → next_record default_config s [] [] xs ≡ None → records_from default_config n s xs ≡ []
unfolding records_from
none_from zero s xs e = refl
none_from (suc n) s xs e = rw e refl

-- the rows of a text that were read, and where the reader stands
pub record Reads (text : List ℕ) (reader : Reader (Bor (List ℕ))) (rows : List (List (List ℕ))) : Type 0 where
  pub left : List ℕ
  pub source : source_of (λ (s : Bor (List ℕ)). Some s.now) reader ≡ Some left
  pub reached : Reached default_config st.StartRecord (strip_bom text) rows reader.state left

stripped : (text : List ℕ) → length (strip_bom text) ≤ length text
unfolding strip_bom
stripped [] = omega arith
stripped (a ∷ []) = omega arith
stripped (a ∷ b ∷ []) = omega arith
stripped (a ∷ b ∷ c ∷ rest) = by (is_bom a b c)
  where
    by : (t : Bool) → length (cond t rest (a ∷ b ∷ c ∷ rest)) ≤ length (a ∷ b ∷ c ∷ rest)
    by true = omega arith
    by false = omega arith

pub few_records : (text : List ℕ) (s : State) (left : List ℕ) (rows : List (List (List ℕ))) → Reached default_config st.StartRecord (strip_bom text) rows s left → length rows ≤ length text
few_records text s left rows h = let n = used st.StartRecord s (strip_bom text) left rows refl h in let m = stripped text in omega (arith, n, m)

pub record Front (text : List ℕ) (rows : List (List (List ℕ))) : Type 0 where
  pub behind : List (List (List ℕ))
  pub split : records_of text ≡ rows ++ behind

pub front_of : (text : List ℕ) (s : State) (left : List ℕ) (rows : List (List (List ℕ))) → Reached default_config st.StartRecord (strip_bom text) rows s left → Front text rows
front_of text s left rows h =
    let u = used st.StartRecord s (strip_bom text) left rows refl h in
    let more : ℕ = length (strip_bom text) + 1 - length rows in
    let n : length (strip_bom text) + 1 ≡ length rows + more = omega (arith, u) in
    record {
      behind = records_from default_config more s left;
      split = ap (λ (k : ℕ). records_from default_config k st.StartRecord (strip_bom text)) n ∙ front_from st.StartRecord s (strip_bom text) left rows more h;
    }

pub all_of : (text : List ℕ) (s : State) (left : List ℕ) (rows : List (List (List ℕ))) → Reached default_config st.StartRecord (strip_bom text) rows s left
    → next_record default_config s [] [] left ≡ None → records_of text ≡ rows
unfolding front_of records_from
all_of text s left rows h e =
    let f = front_of text s left rows h in
    f.split ∙ ap (λ (l : List (List (List ℕ))). rows ++ l) (none_from (length (strip_bom text) + 1 - length rows) s left e) ∙ append-nil rows
