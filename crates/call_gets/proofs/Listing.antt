-- Lists gone through item by item.
use Rattle.std.proofs.Common.{◌≡◌, ℕ, zero, suc, ◌+◌, ◌==◌, ◌<◌, ◌≤◌, Bool, true, false, ◌&&◌, List, [], ◌∷◌, length, drop, get_or, slice_get, Bor, Option, None, Some, refl, sym, ap, ◌∙◌}
use Rattle.std.proofs.Math.Seq.{drop-cons}
use Rattle.std.proofs.Common.{add-one}
use Rattle.std.specs.Prelude.{nat_le}
use Rattle.std.specs.List.{cons_option, list_all, list_any}
use Rattle.std.specs.Option.{option_copied, option_map_or, option_and_then}
use Rattle.std.proofs.lemmas.Bool.{and_parts, leb-true}
use Rattle.hal_schema.specs.declared.schema.IndexDef.{IndexDef}
use Rattle.hal_schema.specs.declared.schema.Schema.{Schema}
use Rattle.hal_schema.specs.declared.schema.SegType.{SegType}
use Rattle.hal_schema.specs.SegType.{ancestry, parent_code, type_of, entry_bytes}
use Rattle.hal_schema.specs.Lawful.{index_is_kept, fields_are_kept}
use Rattle.call_text.specs.declared.line.Ssa.{Ssa}
use Rattle.dli_calls.specs.Ssas.{code_named}
use Rattle.dli_calls.specs.Refusals.{each_next}
use Rattle.call_gets.specs.Texts.{codes_in, stand_so, later_of}

pub left_is : {X : Type 0} (xs : List X) (i : ℕ) (x : X) → i < length xs → x ≡ get_or xs i x → drop i xs ≡ x ∷ drop (i + 1) xs
left_is xs i x h e = drop-cons xs i x h ∙ ap (λ y. y ∷ drop (suc i) xs) (sym e) ∙ ap (λ n. x ∷ drop n xs) (sym (add-one i))

-- one code more
one_more : (test : ℕ → ℕ → Bool) (above code : Option ℕ) (rest : List ℕ) → each_next test (cons_option above (cons_option code rest)) ≡ (stand_so test above code && each_next test (cons_option (later_of above code) rest))
one_more test None None rest = refl
one_more test (Some above) None rest = refl
one_more test None (Some code) rest = refl
one_more test (Some above) (Some code) rest = refl

falls_by : (test : ℕ → ℕ → Bool) (schema : Schema) (ssas : List Ssa) (above : Option ℕ) (i : ℕ) (ssa : Ssa) (code : Option ℕ)
    → each_next test (codes_in schema ssas) ≡ each_next test (cons_option above (codes_in schema (drop i ssas))) → drop i ssas ≡ ssa ∷ drop (i + 1) ssas → code ≡ code_named schema ssa.seg
    → each_next test (codes_in schema ssas) ≡ (stand_so test above code && each_next test (cons_option (later_of above code) (codes_in schema (drop (i + 1) ssas))))
falls_by test schema ssas above i ssa code h e n =
    h ∙ ap (λ ys. each_next test (cons_option above (codes_in schema ys))) e
    ∙ ap (λ o. each_next test (cons_option above (cons_option o (codes_in schema (drop (i + 1) ssas))))) (sym n)
    ∙ one_more test above code (codes_in schema (drop (i + 1) ssas))

pub falls_not : (test : ℕ → ℕ → Bool) (schema : Schema) (ssas : List Ssa) (above : Option ℕ) (i : ℕ) (ssa : Ssa) (code : Option ℕ)
    → each_next test (codes_in schema ssas) ≡ each_next test (cons_option above (codes_in schema (drop i ssas))) → drop i ssas ≡ ssa ∷ drop (i + 1) ssas → code ≡ code_named schema ssa.seg
    → stand_so test above code ≡ false → false ≡ each_next test (codes_in schema ssas)
falls_not test schema ssas above i ssa code h e n f =
    sym (falls_by test schema ssas above i ssa code h e n ∙ ap (λ b. b && each_next test (cons_option (later_of above code) (codes_in schema (drop (i + 1) ssas)))) f)

pub falls_on : (test : ℕ → ℕ → Bool) (schema : Schema) (ssas : List Ssa) (above : Option ℕ) (i : ℕ) (ssa : Ssa) (code next : Option ℕ)
    → each_next test (codes_in schema ssas) ≡ each_next test (cons_option above (codes_in schema (drop i ssas))) → drop i ssas ≡ ssa ∷ drop (i + 1) ssas → code ≡ code_named schema ssa.seg
    → stand_so test above code ≡ true → next ≡ later_of above code → each_next test (codes_in schema ssas) ≡ each_next test (cons_option next (codes_in schema (drop (i + 1) ssas)))
falls_on test schema ssas above i ssa code next h e n f k =
    falls_by test schema ssas above i ssa code h e n ∙ ap (λ b. b && each_next test (cons_option (later_of above code) (codes_in schema (drop (i + 1) ssas)))) f
    ∙ ap (λ o. each_next test (cons_option o (codes_in schema (drop (i + 1) ssas)))) (sym k)

all_more : (test : ℕ → Bool) (code : Option ℕ) (rest : List ℕ) → list_all test (cons_option code rest) ≡ (option_map_or test code true && list_all test rest)
all_more test None rest = refl
all_more test (Some code) rest = refl

pub all_codes : (test : ℕ → Bool) (schema : Schema) (ssas : List Ssa) (i : ℕ) (ssa : Ssa) (code : Option ℕ) (b : Bool) → drop i ssas ≡ ssa ∷ drop (i + 1) ssas → code ≡ code_named schema ssa.seg
    → option_map_or test code true ≡ b → list_all test (codes_in schema (drop i ssas)) ≡ (b && list_all test (codes_in schema (drop (i + 1) ssas)))
all_codes test schema ssas i ssa code b e n f =
    ap (λ ys. list_all test (codes_in schema ys)) e ∙ ap (λ o. list_all test (cons_option o (codes_in schema (drop (i + 1) ssas)))) (sym n)
    ∙ all_more test code (codes_in schema (drop (i + 1) ssas)) ∙ ap (λ c. c && list_all test (codes_in schema (drop (i + 1) ssas))) f

at_place : (test : IndexDef → Bool) (xs : List IndexDef) (i : ℕ) (x : IndexDef) → list_all test xs ≡ true → slice_get xs i ≡ Some x → test x ≡ true
at_place test [] i x h e = absurd (let no : ⊥ = cc in no)
at_place test (y ∷ ys) zero x h e = let same : y ≡ x = cc in ap test (sym same) ∙ (and_parts (test y) (list_all test ys) h).0
at_place test (y ∷ ys) (suc i) x h e = at_place test ys i x (and_parts (test y) (list_all test ys) h).1 e

few_kept : (types : List SegType) (index : IndexDef) → index_is_kept types index ≡ true → length index.search ≤ 5
few_kept types index h =
    let above : Bool = list_any (λ code. code == index.target) (ancestry (parent_code types) index.source) in
    let a = and_parts (above && nat_le 1 (length index.search) && nat_le (length index.search) 5 && option_map_or (fields_are_kept types index) (type_of types index.source) false) (nat_le (entry_bytes index) 240) h in
    let b = and_parts (above && nat_le 1 (length index.search) && nat_le (length index.search) 5) (option_map_or (fields_are_kept types index) (type_of types index.source) false) a.0 in
    let d = and_parts (above && nat_le 1 (length index.search)) (nat_le (length index.search) 5) b.0 in
    leb-true (length index.search) 5 d.1

-- an index has at most five search fields
pub few_searched : (types : List SegType) (indexes : List IndexDef) (place : Option ℕ) (r : Option (Bor IndexDef)) (b : Bor IndexDef) → list_all (index_is_kept types) indexes ≡ true
    → option_copied r ≡ option_and_then (slice_get indexes) place → r ≡ Some b → length b.now.search ≤ 5
few_searched types indexes None r b h e k = absurd (let no : Some b.now ≡ None = ap option_copied (sym k) ∙ e in let none : ⊥ = cc in none)
few_searched types indexes (Some i) r b h e k = few_kept types b.now (at_place (index_is_kept types) indexes i b.now h (sym e ∙ ap option_copied k))
