-- An entry as a row that is put in: what a put that was or wasn't done says of it.
use Rattle.std.proofs.Common.{◌≡◌, ◌∙◌, ◌++◌, ℕ, Bool, not, List, Option, Some, None, Result, Ok, Err, inl, inr, refl, sym, ap, subst}
use Rattle.std.specs.Prelude.{IfSome, IsSomeAnd, IfErr, is_some}
use Rattle.std.proofs.lemmas.Option.{IfSome_then}
use Rattle.hal_base.specs.declared.outcome.PageFault.{PageFault}
use Rattle.hal_base.specs.declared.outcome.PageFault.TheVariants as page
use Rattle.hal_base.specs.ShelfCalls.{ShelfView, SameShelf}
use Rattle.hal_base.proofs.ShelfLemmas.{grows_as}
use Rattle.keyed_sets.specs.declared.row.RowShape.{RowShape}
use Rattle.keyed_sets.specs.declared.set.KeyedSet.{KeyedSet}
use Rattle.keyed_sets.specs.Calls.{PutFails, Grows}
use Rattle.keyed_sets.specs.Layout.{Row}
use Rattle.keyed_sets.specs.Map.{lookup, rows_of}
use Rattle.keyed_sets.specs.Places.{PutLeaves, AsBefore}
use Rattle.keyed_sets.specs.Rule.{capacity, tables}
use Rattle.eps_pointers.specs.Layout.{eps_bytes}
use Rattle.secondary_index.specs.declared.entry.Entry.{Entry}
use Rattle.secondary_index.specs.declared.fault.AddFault.{AddFault}
use Rattle.secondary_index.specs.declared.fault.AddFault.TheVariants as add
use Rattle.secondary_index.specs.Entries.{KeyIs, entry_row}
use Rattle.secondary_index.specs.Faults.{AddFails, NotPut, add_fault}

abbrev pub row_with : List ℕ → List ℕ → Row
row_with key body = (key, body)

add_failed : (why : PageFault) → add_fault why ≡ add.Failed → why ≡ page.Failed
add_failed page.NoRoom is = cc
add_failed page.Failed is = refl
add_failed page.Memory is = cc

-- one fault, in two results
pub one_fault : {T U : Type 0} (r : Result T PageFault) (s : Result U AddFault) (x : PageFault) (e : AddFault) → r ≡ Err x → s ≡ Err e → e ≡ add_fault x
    → (r ≡ Err page.Failed → s ≡ Err add.Failed) × (s ≡ Err add.Failed → r ≡ Err page.Failed)
one_fault r s x e first second same = (
  λ is. let why : x ≡ page.Failed = cc in second ∙ ap Err (same ∙ ap add_fault why),
  λ is. let fault : e ≡ add.Failed = cc in first ∙ ap Err (add_failed x (sym same ∙ fault)),
)

pub err_is : {T : Type 0} (s : Result T AddFault) (e : AddFault) (P : AddFault → Type 0) → s ≡ Err e → P e → IfErr s P
err_is s e P is holds = subst (λ r. IfErr r P) (sym is) holds

pub err_of : {T : Type 0} (s : Result T PageFault) (e : PageFault) (P : PageFault → Type 0) → s ≡ Err e → IfErr s P → P e
err_of s e P is holds = subst (λ r. IfErr r P) is holds

pub grown_as : {s f g : Type 0} (id : KeyedSet) {a b : ShelfView} → Grows id s f a b → (f → g) → (g → f) → Grows id s g a b
grown_as id grows to from = record { changes = elim grows.changes [ inl none ↦ inl (grows_as none to from) | inr one ↦ inr (grows_as one to from) ]; heads = grows.heads }

-- a row that wasn't put leaves what was there
as_it_was : (most : ℕ) (row : Row) (shape : RowShape) (one two : Option (List (List ℕ))) → two ≡ one → IfSome one (λ pages. IsSomeAnd two (λ now. PutLeaves most row (tables shape pages) (tables shape now)))
as_it_was most row shape None two same = tt
as_it_was most row shape (Some pages) two same = subst (λ o. IsSomeAnd o (λ now. PutLeaves most row (tables shape pages) (tables shape now))) (sym same) (AsBefore (inl refl))

pub not_put : (id : KeyedSet) (row : Row) (before after : ShelfView) (why : PageFault) → SameShelf before after → (why ≡ page.NoRoom → ⊥) → PutFails id row before after why
not_put id row before after why same never = record {
  left = as_it_was (capacity id.shape) row id.shape (before.pages id.set) (after.pages id.set) (same.pages id.set);
  same = λ is. absurd (never is);
  full = λ is. absurd (never is);
  needed = λ is. absurd (never is);
}

pub row_is : (entry : Entry) (key body root : List ℕ) → key ≡ entry.key → body ≡ eps_bytes entry.eps ++ root → root ≡ entry.root → row_with key body ≡ entry_row entry
row_is entry key body root one two three = cc

-- whether the key was there
pub key_is : (done : Bool) (id : KeyedSet) (row : Row) (key : List ℕ) (seen : ShelfView) → row.0 ≡ key → IfSome (seen.pages id.set) (λ pages. not done ≡ is_some (lookup (row.0) (rows_of id.shape pages))) → KeyIs (not done) id key seen
key_is done id row key seen same was = subst (λ (k : List ℕ). KeyIs (not done) id k seen) same (IfSome_then (seen.pages id.set) was (λ pages is. sym is))

pub not_added : (id : KeyedSet) (entry : Entry) (row : Row) (a b : ShelfView) {T : Type 0} (r : Result T PageFault) (why : PageFault) (fault : AddFault) → row ≡ entry_row entry → r ≡ Err why → fault ≡ add_fault why → IfErr r (PutFails id row a b) → AddFails id entry a b fault
not_added id entry row a b r why fault row_is is same fails = NotPut why same (subst (λ (x : Row). PutFails id x a b why) row_is (err_of r why (PutFails id row a b) is fails))

pub ok_not_err : {T E : Type 0} (r : Result T E) (t : T) (e : E) → r ≡ Ok t → r ≡ Err e → ⊥
ok_not_err r t e ok err = cc
