-- Where an insertion parts the list.
use Rattle.std.proofs.Common.{◌≡◌, ℕ, suc, ◌+◌, true, false, not, List, [], ◌∷◌, ◌++◌, length, drop, insert, ◌⊎◌, inl, inr, refl, sym, ap, subst, ◌∙◌, arith}
use Rattle.std.specs.List.{list_all, prefix_len}
use Rattle.std.proofs.lemmas.List.{append_assoc, length-append}
use Rattle.hal_schema.specs.declared.row.Row.{Row}
use Rattle.hal_schema.specs.declared.schema.Schema.{Schema}
use Rattle.hal_schema.specs.Row.{row_level}
use Rattle.hal_schema.specs.Insertion.{stands_before, through_last, insertion_place, inserted}
use Rattle.forest_laws.proofs.Lists.{front_of, LastOf, NoneOf, last_of, drop_front, insert_between, all_parts}
use Rattle.forest_laws.proofs.Carried.{is_above, starts_above}

-- the rows up to the place end with one that must stand before, and what is deeper than the new row
pub record Behind (schema : Schema) (new : Row) (front : List Row) : Type 0 where
  pub head : List Row
  pub last : Row
  pub tail : List Row
  pub split : front ≡ head ++ last ∷ tail
  pub stands : stands_before schema new last ≡ true
  pub deeper : list_all (is_above (row_level schema.types) new) tail ≡ true

pub record Placed (schema : Schema) (rows : List Row) (new : Row) : Type 0 where
  pub front : List Row
  pub back : List Row
  pub split : rows ≡ front ++ back
  pub placed : inserted schema rows new ≡ front ++ new ∷ back
  pub next : starts_above (row_level schema.types) (new ∷ []) back ≡ true
  pub behind : list_all (λ row. not (stands_before schema new row)) back ≡ true
  pub last : Behind schema new front ⊎ (list_all (is_above (row_level schema.types) new) front ≡ true)

starts : (level : Row → ℕ) (new : Row) (back : List Row) → ((x : Row) (more : List Row) → back ≡ x ∷ more → is_above level new x ≡ false) → starts_above level (new ∷ []) back ≡ true
starts level new [] h = refl
starts level new (x ∷ back) h = let e = h x back refl in grind (arith, e)

pub inserted_at : (schema : Schema) (rows front back : List Row) (new : Row) → rows ≡ front ++ back → insertion_place schema rows new ≡ length front → inserted schema rows new ≡ front ++ new ∷ back
inserted_at schema rows front back new e f =
    ap (λ n. insert rows n new) f ∙ ap (λ (l : List Row). insert l (length front) new) e ∙ insert_between front back new

placed_behind : (schema : Schema) (rows : List Row) (new : Row) → LastOf (stands_before schema new) rows → Placed schema rows new
placed_behind schema rows new l =
    let test = stands_before schema new in
    let level = row_level schema.types in
    let f = front_of (is_above level new) l.behind in
    let front = l.front ++ l.last ∷ f.passing in
    let split : rows ≡ front ++ f.rest = l.split ∙ ap (λ (b : List Row). l.front ++ l.last ∷ b) f.split ∙ sym (append_assoc l.front (l.last ∷ f.passing) f.rest) in
    let first = l.front ++ l.last ∷ [] in
    let apart : rows ≡ first ++ l.behind = l.split ∙ sym (append_assoc l.front (l.last ∷ []) l.behind) in
    let n : length first ≡ suc (length l.front) = length-append l.front (l.last ∷ []) ∙ (let s : length l.front + 1 ≡ suc (length l.front) = omega arith in s) in
    let at : through_last test rows ≡ length first = l.through ∙ sym n in
    let dropped : drop (through_last test rows) rows ≡ l.behind = ap (λ k. drop k rows) at ∙ ap (drop (length first)) apart ∙ drop_front first l.behind in
    let long : prefix_len (is_above level new) (drop (through_last test rows) rows) ≡ length f.passing = ap (prefix_len (is_above level new)) dropped ∙ f.long in
    let all : length front ≡ length l.front + length (l.last ∷ f.passing) = length-append l.front (l.last ∷ f.passing) in
    let place : insertion_place schema rows new ≡ length front =
    ap (λ k. through_last test rows + k) long ∙ (let t = l.through in let s : through_last test rows + length f.passing ≡ length front = omega (arith, t, all) in s) in
    record {
      front = front;
      back = f.rest;
      split = split;
      placed = inserted_at schema rows front f.rest new split place;
      next = starts level new f.rest f.stops;
      behind = (all_parts (λ row. not (test row)) f.passing f.rest (subst (λ (b : List Row). list_all (λ row. not (test row)) b ≡ true) f.split l.none)).1;
      last = inl (record { head = l.front; last = l.last; tail = f.passing; split = refl; stands = l.passes; deeper = f.pass });
    }

placed_front : (schema : Schema) (rows : List Row) (new : Row) → NoneOf (stands_before schema new) rows → Placed schema rows new
placed_front schema rows new n =
    let test = stands_before schema new in
    let level = row_level schema.types in
    let f = front_of (is_above level new) rows in
    let dropped : drop (through_last test rows) rows ≡ rows = ap (λ k. drop k rows) n.through in
    let long : prefix_len (is_above level new) (drop (through_last test rows) rows) ≡ length f.passing = ap (prefix_len (is_above level new)) dropped ∙ f.long in
    let place : insertion_place schema rows new ≡ length f.passing =
    ap (λ k. through_last test rows + k) long ∙ (let t = n.through in let s : through_last test rows + length f.passing ≡ length f.passing = omega (arith, t) in s) in
    record {
      front = f.passing;
      back = f.rest;
      split = f.split;
      placed = inserted_at schema rows f.passing f.rest new f.split place;
      next = starts level new f.rest f.stops;
      behind = (all_parts (λ row. not (test row)) f.passing f.rest (subst (λ (b : List Row). list_all (λ row. not (test row)) b ≡ true) f.split n.none)).1;
      last = inr f.pass;
    }

pub placed_of : (schema : Schema) (rows : List Row) (new : Row) → Placed schema rows new
placed_of schema rows new = elim (last_of (stands_before schema new) rows) [ inl l ↦ placed_behind schema rows new l | inr n ↦ placed_front schema rows new n ]
