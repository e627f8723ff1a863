-- What an SSA for one root key meets: the root that has it.
use Rattle.std.proofs.Common.{◌≡◌, ℕ, ◌==◌, Bool, true, false, not, cond, ◌&&◌, List, [], ◌∷◌, Option, None, Some, refl, sym, ap, ◌∙◌}
use Rattle.std.specs.Prelude.{codes, find, is_some, option_and_then}
use Rattle.std.specs.List.{list_all, list_any}
use Rattle.std.specs.Option.{option_map, option_map_or}
use Rattle.std.specs.Ordering.{is_eq}
use Rattle.std.specs.declared.cmp.Ordering.{Ordering}
use Rattle.std.specs.declared.cmp.Ordering.TheVariants.{Less, Equal, Greater}
use Rattle.std.specs.Str.{bytes_eq}
use Rattle.std.proofs.lemmas.Bool.{true≢false, false_from_ne_true, and_parts, not-true, eqb-true, eq-eqb}
use Rattle.std.proofs.lemmas.Cmp.{nat_list_cmp_total, tied_itself}
use Rattle.std.specs.FinMap.{slice_cmp-IsAntisymmetric, nat_cmp-IsAntisymmetric}
use Rattle.std.proofs.lemmas.Slice.Eq.{bytes_eq-Decides}
use Rattle.hal_schema.specs.declared.schema.Field.{Field}
use Rattle.hal_schema.specs.declared.schema.KeyField.{KeyField}
use Rattle.hal_schema.specs.declared.schema.Schema.{Schema}
use Rattle.hal_schema.specs.declared.schema.SegType.{SegType}
use Rattle.hal_schema.specs.Keys.{key_cmp}
use Rattle.hal_schema.specs.SegType.{type_of, portion}
use Rattle.call_text.specs.declared.line.Call.{Call}
use Rattle.call_text.specs.declared.line.Clause.{Clause}
use Rattle.call_text.specs.declared.line.Ssa.{Ssa}
use Rattle.position_state.specs.declared.spot.Spot.{Spot}
use Rattle.dli_calls.specs.Ssas.{Subject, Content, Search, asks_last, clause_holds, code_named, compares, fitted, operator_of, subject_of}
use Rattle.position_state.specs.Looks.{root_of_key}
use Rattle.hal_schema.specs.Paths.{path_with, with_paths}
use Rattle.dli_calls.specs.Meets.{clauses_hold, holds_on, later_twins, meets, on_paths, ssa_holds}
use Rattle.dli_calls.specs.Gets.{OnPath, is_unique}
use Rattle.dli_calls.specs.Refusals.{is_at_root_key}
use Rattle.call_gets.specs.Keyed.{key_wanted, keyed_by, one_of, root_wanted}
use Rattle.view_laws.specs.Views.{is_keyed, root_field}
use Rattle.call_gets.proofs.Rooted.{deep_of, keyed_next, level_off, root_alone, root_of}
use Rattle.call_gets.proofs.Skipping.{level}

and_true : (b : Bool) → (b && true) ≡ b
and_true true = refl
and_true false = refl

eq_is : (a b : List ℕ) → is_eq (key_cmp a b) ≡ bytes_eq a b
eq_is a b = by (key_cmp a b) refl
  where
    apart : (o : Ordering) → key_cmp a b ≡ o → (Equal ≡ o → ⊥) → bytes_eq a b ≡ false
    apart o e never = false_from_ne_true (bytes_eq a b) (λ t. never (sym (ap (λ k. key_cmp k b) ((bytes_eq-Decides a b).0 t) ∙ tied_itself nat_list_cmp_total b) ∙ e))

    by : (o : Ordering) → key_cmp a b ≡ o → is_eq o ≡ bytes_eq a b
    by Less e = sym (apart Less e (λ k. let none : ⊥ = cc in none))
    by Equal e = sym ((bytes_eq-Decides a b).1 (slice_cmp-IsAntisymmetric nat_cmp-IsAntisymmetric a b e))
    by Greater e = sym (apart Greater e (λ k. let none : ⊥ = cc in none))

-- what is known of an SSA for one root key
pub record Wants (schema : Schema) (ssa : Ssa) (key : List ℕ) : Type 0 where
  pub code : code_named schema ssa.seg ≡ Some 1
  pub last : asks_last ssa ≡ false
  pub clause : Clause
  pub clauses : ssa.clauses ≡ clause ∷ []
  pub field : Field
  pub subject : subject_of schema None 1 clause.field ≡ Some (Content field)
  pub at : is_at_root_key schema field ≡ true
  pub op : bytes_eq clause.op (codes "=") ≡ true
  pub value : fitted field.bytes clause.value ≡ Some key

one_is : (cs : List Clause) (c : Clause) → one_of cs ≡ Some c → cs ≡ c ∷ []
one_is [] c e = absurd (let no : ⊥ = cc in no)
one_is (x ∷ []) c e = let same : x ≡ c = cc in ap (λ (y : Clause). y ∷ []) same
one_is (x ∷ y ∷ more) c e = absurd (let no : ⊥ = cc in no)

code_is : (o : Option ℕ) → option_map_or (λ code. code == 1) o false ≡ true → o ≡ Some 1
code_is None e = absurd (let no : ⊥ = cc in no)
code_is (Some c) e = ap (λ n. Some n) (eqb-true c 1 e)

pub wants : (schema : Schema) (ssa : Ssa) (key : List ℕ) → root_wanted schema ssa ≡ Some key → Wants schema ssa key
wants schema ssa key e = first (option_map_or (λ code. code == 1) (code_named schema ssa.seg) false && not (asks_last ssa)) refl e
  where
    third : (clause : Clause) (o : Option Subject) → subject_of schema None 1 clause.field ≡ o → ssa.clauses ≡ clause ∷ [] → code_named schema ssa.seg ≡ Some 1 → asks_last ssa ≡ false → key_wanted schema clause o ≡ Some key → Wants schema ssa key
    third clause None s cs c l k = absurd (let no : ⊥ = cc in no)
    third clause (Some (Search bytes)) s cs c l k = absurd (let no : ⊥ = cc in no)
    third clause (Some (Content f)) s cs c l k = by (is_at_root_key schema f && bytes_eq clause.op (codes "=")) refl k
      where
        by : (b : Bool) → (is_at_root_key schema f && bytes_eq clause.op (codes "=")) ≡ b → cond b (fitted f.bytes clause.value) None ≡ Some key → Wants schema ssa key
        by true h m =
            let a = and_parts (is_at_root_key schema f) (bytes_eq clause.op (codes "=")) h in
            record { code = c; last = l; clause = clause; clauses = cs; field = f; subject = s; at = a.0; op = a.1; value = m }
        by false h m = absurd (let no : ⊥ = cc in no)

    second : (o : Option Clause) → one_of ssa.clauses ≡ o → code_named schema ssa.seg ≡ Some 1 → asks_last ssa ≡ false → option_and_then (λ clause. key_wanted schema clause (subject_of schema None 1 clause.field)) o ≡ Some key → Wants schema ssa key
    second None s c l k = absurd (let no : ⊥ = cc in no)
    second (Some clause) s c l k = third clause (subject_of schema None 1 clause.field) refl (one_is ssa.clauses clause s) c l k

    first : (b : Bool) → (option_map_or (λ code. code == 1) (code_named schema ssa.seg) false && not (asks_last ssa)) ≡ b
        → cond b (option_and_then (λ clause. key_wanted schema clause (subject_of schema None 1 clause.field)) (one_of ssa.clauses)) None ≡ Some key → Wants schema ssa key
    first true h k =
        let a = and_parts (option_map_or (λ code. code == 1) (code_named schema ssa.seg) false) (not (asks_last ssa)) h in
        second (one_of ssa.clauses) refl (code_is (code_named schema ssa.seg) a.0) (not-true (asks_last ssa) a.1) k
    first false h k = absurd (let no : ⊥ = cc in no)

-- the root key stands at the field that the clause names
at_key : (o : Option KeyField) (f : Field) (content : List ℕ) → option_map_or (λ (k : KeyField). k.start == f.start && k.bytes == f.bytes) o false ≡ true → option_map_or (λ (k : KeyField). portion k.start k.bytes content) o [] ≡ portion f.start f.bytes content
at_key None f content e = absurd (let no : ⊥ = cc in no)
at_key (Some k) f content e =
    let a = and_parts (k.start == f.start) (k.bytes == f.bytes) e in
    ap (λ s. portion s k.bytes content) (eqb-true k.start f.start a.0) ∙ ap (λ b. portion f.start b content) (eqb-true k.bytes f.bytes a.1)

-- it holds for a root that has the key, and no other
pub holds_by_key : (schema : Schema) (view : List Spot) (ssa : Ssa) (key : List ℕ) (x : Spot) → Wants schema ssa key → x.code ≡ 1 → bytes_eq x.key (root_field schema.types x.content) ≡ true → ssa_holds schema None view ssa x ≡ bytes_eq x.key key
holds_by_key schema view ssa key x w one keyed =
    let holds : Spot → Bool = λ other. clauses_hold (clause_holds schema None x.code other) ssa.clauses in
    let field : List ℕ = portion w.field.start w.field.bytes x.content in
    let same : x.key ≡ field =
    (bytes_eq-Decides x.key (root_field schema.types x.content)).0 keyed ∙ at_key (option_and_then (λ (t : SegType). t.key) (type_of schema.types 1)) w.field x.content w.at in
    ap (λ b. holds x && not (b && list_any holds (later_twins view x))) w.last ∙ and_true (holds x)
    ∙ ap (clauses_hold (clause_holds schema None x.code x)) w.clauses
    ∙ ap (λ code. clause_holds schema None code x w.clause) one
    ∙ ap (λ (s : Option Subject). option_map_or (compares w.clause x) s false) w.subject
    ∙ ap (λ (v : Option (List ℕ)). option_map_or (λ value. option_map_or (λ (test : Ordering → Bool). test (key_cmp field value)) (operator_of w.clause.op) false) v false) w.value
    ∙ ap (λ op. option_map_or (λ (test : Ordering → Bool). test (key_cmp field key)) (operator_of op) false) ((bytes_eq-Decides w.clause.op (codes "=")).0 w.op)
    ∙ eq_is field key ∙ ap (λ k. bytes_eq k key) (sym same)

-- ---- along the view

meets_root : (schema : Schema) (view : List Spot) (ssa : Ssa) (key : List ℕ) (x : Spot) → Wants schema ssa key → (x.code == 1) ≡ true → bytes_eq x.key (root_field schema.types x.content) ≡ true
    → meets schema None view (ssa ∷ []) (x ∷ [], x) ≡ bytes_eq x.key key
meets_root schema view ssa key x w e k =
    let one : x.code ≡ 1 = eqb-true x.code 1 e in
    ap (λ (o : Option ℕ). option_map_or (λ code. code == x.code) o false && (holds_on schema None view (x ∷ []) ssa && true)) w.code
    ∙ ap (λ b. b && (holds_on schema None view (x ∷ []) ssa && true)) (eq-eqb 1 x.code (sym one))
    ∙ and_true (holds_on schema None view (x ∷ []) ssa)
    ∙ ap (λ (o : Option ℕ). option_map_or (λ code. option_map_or (ssa_holds schema None view ssa) (find (λ (spot : Spot). spot.code == code) (x ∷ [])) false) o false) w.code
    ∙ ap (λ b. option_map_or (ssa_holds schema None view ssa) (cond b (Some x) None) false) e
    ∙ holds_by_key schema view ssa key x w one k

misses : (schema : Schema) (view path : List Spot) (ssa : Ssa) (key : List ℕ) (x : Spot) → Wants schema ssa key → (x.code == 1) ≡ false → meets schema None view (ssa ∷ []) (path, x) ≡ false
misses schema view path ssa key x w e =
    ap (λ (o : Option ℕ). option_map_or (λ code. code == x.code) o false && (holds_on schema None view path ssa && true)) w.code
    ∙ ap (λ b. b && (holds_on schema None view path ssa && true)) (false_from_ne_true (1 == x.code) (λ t. true≢false (sym (eq-eqb x.code 1 (sym (eqb-true 1 x.code t))) ∙ e)))

abbrev lone : Spot → OnPath
lone x = (x ∷ [], x)

chosen : (b : Bool) (x : Spot) (o : Option Spot) → cond b (Some (lone x)) (option_map lone o) ≡ option_map lone (cond b (Some x) o)
chosen true x o = refl
chosen false x o = refl

by_key : (schema : Schema) (view : List Spot) (ssa : Ssa) (key : List ℕ) → Wants schema ssa key → (path ys : List Spot) → list_all (is_keyed schema.types) path ≡ true → list_all (is_keyed schema.types) ys ≡ true
    → find (meets schema None view (ssa ∷ [])) (with_paths level path ys) ≡ option_map lone (root_of_key key ys)
by_key schema view ssa key w path [] h k = refl
by_key schema view ssa key w path (x ∷ xs) h k =
    let a = and_parts (is_keyed schema.types x) (list_all (is_keyed schema.types) xs) k in
    by (x.code == 1) refl a.0 (by_key schema view ssa key w (path_with level path x) xs (keyed_next schema.types path x h a.0) a.1)
  where
    test : OnPath → Bool
    test = meets schema None view (ssa ∷ [])

    next : List Spot
    next = path_with level path x

    by : (b : Bool) → (x.code == 1) ≡ b → is_keyed schema.types x ≡ true → find test (with_paths level next xs) ≡ option_map lone (root_of_key key xs)
        → cond (test (next, x)) (Some (next, x)) (find test (with_paths level next xs)) ≡ option_map lone (cond (x.level == 1 && bytes_eq x.key key) (Some x) (root_of_key key xs))
    by true e f rest =
        let r = root_of schema.types x f e in
        let alone : next ≡ x ∷ [] = root_alone schema.types path x h r.level in
        ap (λ (o : Option OnPath). cond (test (next, x)) (Some (next, x)) o) rest
        ∙ ap (λ (ys : List Spot). cond (test (ys, x)) (Some (ys, x)) (option_map lone (root_of_key key xs))) alone
        ∙ ap (λ b. cond b (Some (lone x)) (option_map lone (root_of_key key xs))) (meets_root schema view ssa key x w e r.own)
        ∙ chosen (bytes_eq x.key key) x (root_of_key key xs)
        ∙ ap (λ b. option_map lone (cond (b && bytes_eq x.key key) (Some x) (root_of_key key xs))) (sym (eq-eqb x.level 1 r.level))
    by false e f rest =
        ap (λ b. cond b (Some (next, x)) (find test (with_paths level next xs))) (misses schema view next ssa key x w e)
        ∙ rest
        ∙ ap (λ b. option_map lone (cond (b && bytes_eq x.key key) (Some x) (root_of_key key xs))) (sym (level_off x (deep_of schema.types x f e)))

-- the root that has the key is what such an SSA finds
pub found_by_key : (schema : Schema) (view : List Spot) (ssa : Ssa) (key : List ℕ) → root_wanted schema ssa ≡ Some key → list_all (is_keyed schema.types) view ≡ true
    → option_map (λ (s : Spot). (s ∷ [], s)) (root_of_key key view) ≡ find (meets schema None view (ssa ∷ [])) (on_paths view)
found_by_key schema view ssa key e h = sym (by_key schema view ssa key (wants schema ssa key e) [] view refl h)

ssa_is : (ssas : List Ssa) (ssa : Ssa) → one_of ssas ≡ Some ssa → ssas ≡ ssa ∷ []
ssa_is [] ssa e = absurd (let no : ⊥ = cc in no)
ssa_is (x ∷ []) ssa e = let same : x ≡ ssa = cc in ap (λ (y : Ssa). y ∷ []) same
ssa_is (x ∷ y ∷ more) ssa e = absurd (let no : ⊥ = cc in no)

pub found_by_call : (schema : Schema) (view : List Spot) (call : Call) (key : List ℕ) → keyed_by schema call ≡ Some key → list_all (is_keyed schema.types) view ≡ true
    → option_map (λ (s : Spot). (s ∷ [], s)) (root_of_key key view) ≡ find (meets schema None view call.ssas) (on_paths view)
found_by_call schema view call key e h = first (is_unique call) e
  where
    second : (o : Option Ssa) → one_of call.ssas ≡ o → option_and_then (root_wanted schema) o ≡ Some key → option_map (λ (s : Spot). (s ∷ [], s)) (root_of_key key view) ≡ find (meets schema None view call.ssas) (on_paths view)
    second None s k = absurd (let no : ⊥ = cc in no)
    second (Some ssa) s k = found_by_key schema view ssa key k h ∙ ap (λ (ssas : List Ssa). find (meets schema None view ssas) (on_paths view)) (sym (ssa_is call.ssas ssa s))

    first : (b : Bool) → cond b (option_and_then (root_wanted schema) (one_of call.ssas)) None ≡ Some key → option_map (λ (s : Spot). (s ∷ [], s)) (root_of_key key view) ≡ find (meets schema None view call.ssas) (on_paths view)
    first true k = second (one_of call.ssas) refl k
    first false k = absurd (let no : ⊥ = cc in no)

pub not_keyed : (schema : Schema) (call : Call) → is_unique call ≡ false → is_some (keyed_by schema call) ≡ false
not_keyed schema call e = ap (λ b. is_some (cond b (option_and_then (root_wanted schema) (one_of call.ssas)) None)) e

pub keyed_unique : (schema : Schema) (call : Call) → is_some (keyed_by schema call) ≡ true → is_unique call ≡ true
keyed_unique schema call e = by (is_unique call) refl
  where
    by : (b : Bool) → is_unique call ≡ b → b ≡ true
    by true k = refl
    by false k = absurd (true≢false (sym e ∙ not_keyed schema call k))
