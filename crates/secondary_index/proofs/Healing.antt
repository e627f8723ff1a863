-- A pointer that is written over, and the entries around it.
use Rattle.std.proofs.Common.{◌≡◌, ◌∙◌, ℕ, suc, ◌≤◌, Bool, true, false, cond, List, [], ◌∷◌, length, take, drop, map, Option, Some, None, inl, inr, refl, sym, ap, arith}
use Rattle.std.specs.Prelude.{IfSome, IsSomeAnd, Contains, is_some}
use Rattle.std.specs.Str.{bytes_eq}
use Rattle.std.proofs.lemmas.Bool.{cases_Bool}
use Rattle.std.proofs.lemmas.Slice.Eq.{bytes_eq-Decides}
use Rattle.hal_base.specs.ShelfCalls.{ShelfView}
use Rattle.keyed_sets.specs.declared.row.RowShape.{RowShape}
use Rattle.keyed_sets.specs.declared.set.KeyedSet.{KeyedSet}
use Rattle.keyed_sets.specs.Calls.{Overwrites}
use Rattle.keyed_sets.specs.Layout.{Row}
use Rattle.keyed_sets.specs.Map.{RowsRise, lookup, rows_of, with_row, written_over}
use Rattle.eps_pointers.specs.Layout.{eps_in, home_bytes}
use Rattle.secondary_index.specs.declared.entry.Entry.{Entry}
use Rattle.secondary_index.specs.Changes.{Heals}
use Rattle.secondary_index.specs.Entries.{entry_of, entries_of, healed_at}

abbrev Pages : Type 0
Pages = Option (List (List ℕ))

abbrev pub over : Row → Row → Row
over row other = cond (bytes_eq (other.0) (row.0)) row other

-- a body whose pointer has another number and address
pub record IsHealed (number addr : ℕ) (body new : List ℕ) : Type 0 where
  pub pointer : eps_in (take 16 new) ≡ record (eps_in (take 16 body)) { number = number; addr = addr }
  pub behind : drop 16 new ≡ drop 16 body

-- entry by entry
one_entry : (key body new : List ℕ) (number addr : ℕ) (row : Row) → IsHealed number addr body new → (row.0 ≡ key → row.1 ≡ body) → entry_of (over (key, new) row) ≡ healed_at key number addr (entry_of row)
one_entry key body new number addr row healed one = elim (cases_Bool (bytes_eq (row.0) key)) [
  | inl same ↦
      let is : row.0 ≡ key = (bytes_eq-Decides (row.0) key).0 same in
      let old : row.1 ≡ body = one is in
      let pointer = healed.pointer in
      let rest = healed.behind in
      let new_entry : Entry = record { key = key; eps = eps_in (take 16 new); root = drop 16 new } in
      let old_entry : Entry = record { key = row.0; eps = record (eps_in (take 16 (row.1))) { number = number; addr = addr }; root = drop 16 (row.1) } in
      let both : new_entry ≡ old_entry = cc in
      ap (λ (b : Bool). entry_of (cond b (key, new) row)) same ∙ both ∙ sym (ap (λ (b : Bool). cond b old_entry (entry_of row)) same)
  | inr other ↦ ap (λ (b : Bool). entry_of (cond b (key, new) row)) other
      ∙ sym (ap (λ (b : Bool). cond b (record { key = row.0; eps = record (eps_in (take 16 (row.1))) { number = number; addr = addr }; root = drop 16 (row.1) }) (entry_of row)) other)
]

each_entry : (key body new : List ℕ) (number addr : ℕ) (rows : List Row) → IsHealed number addr body new → ((row : Row) → Contains rows row → row.0 ≡ key → row.1 ≡ body) → map entry_of (map (over (key, new)) rows) ≡ map (healed_at key number addr) (map entry_of rows)
each_entry key body new number addr [] healed one = refl
each_entry key body new number addr (row ∷ rows) healed one =
    let first : entry_of (over (key, new) row) ≡ healed_at key number addr (entry_of row) = one_entry key body new number addr row healed (one row (0, omega arith, refl)) in
    let rest : map entry_of (map (over (key, new)) rows) ≡ map (healed_at key number addr) (map entry_of rows) =
    each_entry key body new number addr rows healed (λ other within. one other (suc within.0, omega (arith, within.1), within.2)) in
    cc

-- no entry has the key
none_healed : (key : List ℕ) (number addr : ℕ) (rows : List Row) → false ≡ is_some (lookup key rows) → map entry_of rows ≡ map (healed_at key number addr) (map entry_of rows)
none_healed key number addr [] none = refl
none_healed key number addr (row ∷ rows) none = elim (cases_Bool (bytes_eq (row.0) key)) [
  | inl same ↦
      let found : is_some (cond (bytes_eq (row.0) key) (Some (row.1)) (lookup key rows)) ≡ true = ap (λ (b : Bool). is_some (cond b (Some (row.1)) (lookup key rows))) same in
      cc
  | inr other ↦
      let rest = none_healed key number addr rows (none ∙ ap (λ (b : Bool). is_some (cond b (Some (row.1)) (lookup key rows))) other) in
      let first : entry_of row ≡ healed_at key number addr (entry_of row) =
      sym (ap (λ (b : Bool). cond b (record { key = row.0; eps = record (eps_in (take 16 (row.1))) { number = number; addr = addr }; root = drop 16 (row.1) }) (entry_of row)) other) in
      cc
]

-- the laws that are used
abbrev pub PutsOverLaw : Type 0
PutsOverLaw = (row : Row) (body : List ℕ) (rows : List Row) → RowsRise rows → lookup (row.0) rows ≡ Some body → with_row row rows ≡ map (λ (other : Row). cond (bytes_eq (other.0) (row.0)) row other) rows

abbrev pub OneBodyLaw : Type 0
OneBodyLaw = (key body : List ℕ) (rows : List Row) (row : Row) → RowsRise rows → lookup key rows ≡ Some body → Contains rows row → row.0 ≡ key → row.1 ≡ body

over_told : (shape : RowShape) (key body new : List ℕ) (number addr : ℕ) (one two : Pages) → ((pages : List (List ℕ)) → RowsRise (rows_of shape pages)) → PutsOverLaw → OneBodyLaw → IsHealed number addr body new → IfSome one (λ pages. lookup key (rows_of shape pages) ≡ Some body)
    → IfSome one (λ pages. IsSomeAnd two (λ now. rows_of shape now ≡ with_row (key, new) (rows_of shape pages))) → IfSome one (λ pages. IsSomeAnd two (λ now. entries_of shape now ≡ map (healed_at key number addr) (entries_of shape pages)))
over_told shape key body new number addr None two rise law single healed was puts = tt
over_told shape key body new number addr (Some pages) None rise law single healed was puts = absurd puts
over_told shape key body new number addr (Some pages) (Some now) rise law single healed was puts =
    ap (λ (rows : List Row). map entry_of rows) (puts ∙ law (key, new) body (rows_of shape pages) (rise pages) was)
    ∙ each_entry key body new number addr (rows_of shape pages) healed (λ row within. single key body (rows_of shape pages) row (rise pages) was within)

same_told : (shape : RowShape) (key : List ℕ) (number addr : ℕ) (one two : Pages) → two ≡ one → IfSome one (λ pages. false ≡ is_some (lookup key (rows_of shape pages))) → IfSome one (λ pages. IsSomeAnd two (λ now. entries_of shape now ≡ map (healed_at key number addr) (entries_of shape pages)))
same_told shape key number addr None two same none = tt
same_told shape key number addr (Some pages) None same none = cc
same_told shape key number addr (Some pages) (Some now) same none =
    let is : now ≡ pages = cc in
    ap (λ (l : List (List ℕ)). entries_of shape l) is ∙ none_healed key number addr (rows_of shape pages) none

pub heals : (id : KeyedSet) (key : List ℕ) (number addr : ℕ) (before after : ShelfView) (done : Bool) → 16 ≤ id.shape.body → ((pages : List (List ℕ)) → RowsRise (rows_of id.shape pages)) → PutsOverLaw → OneBodyLaw
    → ((body : List ℕ) → 16 ≤ length body → IsHealed number addr body (written_over 2 (home_bytes number addr) body)) → Overwrites id key 2 (home_bytes number addr) before after done → Heals id key number addr before after done
heals id key number addr before after true long rise law single healed o =
    let puts = o.puts refl in
    record {
      was = o.was;
      entries = over_told id.shape key puts.body (written_over 2 (home_bytes number addr) puts.body) number addr (before.pages id.set) (after.pages id.set) rise law single (healed puts.body (omega (arith, long, puts.long))) puts.was puts.puts.rows;
      same = o.same;
    }
heals id key number addr before after false long rise law single healed o = record {
  was = o.was;
  entries = same_told id.shape key number addr (before.pages id.set) (after.pages id.set) ((o.same refl).pages id.set) o.was;
  same = o.same;
}
