-- What printed LCHILD and XDFLD statements say, and the drafts that reading them gives.
use Rattle.std.proofs.Common.{◌≡◌, ℕ, ◌+◌, ◌<◌, ◌≤◌, true, false, ◌==◌, List, [], ◌∷◌, ◌++◌, length, map, Ok, codes, refl, ap, ◌∙◌, arith, append_assoc, append-nil}
use Rattle.std.specs.List.{list_all}
use Rattle.std.proofs.lemmas.Bool.{ne_eqb}
use Rattle.hal_base.specs.Name.{is_name, is_field_name}
use Rattle.hal_schema.specs.declared.raw.RawType.{RawType}
use Rattle.hal_schema.specs.declared.raw.RawIndex.{RawIndex}
use Rattle.hal_schema.specs.declared.raw.RawDbd.{RawDbd}
use Rattle.hal_schema.specs.declared.schema.Field.{Field}
use Rattle.hal_schema.specs.declared.schema.SegType.{SegType}
use Rattle.hal_schema.specs.declared.schema.IndexDef.{IndexDef}
use Rattle.dbd_reader.specs.declared.word.Word.TheVariants as words
use Rattle.dbd_reader.specs.declared.value.Child.{Child}
use Rattle.dbd_reader.specs.declared.operand.Operand.{Operand}
use Rattle.dbd_reader.specs.declared.draft.Draft.{Draft}
use Rattle.dbd_reader.specs.declared.draft.Draft.TheVariants as drafts
use Rattle.dbd_reader.specs.Operands.{has_twins, value_of}
use Rattle.dbd_reader.specs.Verdicts.{verdict, takes, value_verdict, lchild_verdict, xdfld_verdict}
use Rattle.dbd_reader.specs.Meanings.{needed, lchild_of, xdfld_of}
use Rattle.dbd_reader.specs.Definition.{with_index, at_segment, at_index, step}
use Rattle.definition_printer.specs.Wrapped.{wrapped}
use Rattle.definition_printer.specs.Dbd.{name_of, child_names, lchild_statement, name_list, subseq_operand, indexed_field, xdfld_statement, index_text}
use Rattle.definition_text.specs.RawDbd.{lines_in, raw_index}
use Rattle.definition_text.proofs.Printed.{Value, alone, listed, with_commas, value_text, Printed, operands_text, IsValue, ArePrinted}
use Rattle.definition_text.proofs.OperandsRead.{operand_of}
use Rattle.definition_text.proofs.PrintedValues.{name_short, name_some, name_back, child_is, child_back, index_back, fields_are, fields_back, search_back}
use Rattle.definition_text.proofs.StatementStep.{names_lchild, names_xdfld, reads, statement_reads, AreGood, checked_good}
use Rattle.definition_text.proofs.Pieced.{lines_append}
use Rattle.definition_text.proofs.TypeStatements.{op, in_segment}

value_some : (x : List ℕ) (xs : List (List ℕ)) → (length (value_text (listed x xs)) == 0) ≡ false
value_some x xs = ne_eqb (length (value_text (listed x xs))) 0 (λ e. omega (arith, e))

-- ---- LCHILD

abbrev lchild_first : IndexDef → Printed
lchild_first i = op (codes "NAME") (listed i.seg (i.name ∷ []))

abbrev lchild_more : List Printed
lchild_more = op (codes "PTR") (alone (codes "INDX")) ∷ []

abbrev lchild_operands : IndexDef → List Operand
lchild_operands i = operand_of words.Lchild (lchild_first i) ∷ map (operand_of words.Lchild) lchild_more

pub record IsChild (i : IndexDef) : Type 0 where
  pub seg : is_name i.seg ≡ true
  pub name : is_name i.name ≡ true

abbrev pub child_of_index : IndexDef → Child
child_of_index i = record { seg = i.seg; name = i.name }

lchild_text : (i : IndexDef) → lchild_statement i ≡ codes "LCHILD" ++ 32 ∷ operands_text (lchild_first i) lchild_more
unfolding child_names
lchild_text i = simp append_assoc

lchild_printed : (i : IndexDef) → IsChild i → ArePrinted (lchild_first i ∷ lchild_more)
lchild_printed i h = (record { key = refl; value = child_is i.seg i.name h.seg h.name }, (record { key = refl; value = refl }, tt))

lchild_good : (i : IndexDef) → IsChild i → AreGood words.Lchild (lchild_operands i)
unfolding verdict takes value_verdict lchild_verdict
lchild_good i h = (rw (value_some i.seg (i.name ∷ []), child_back i.seg i.name h.seg h.name) refl, (rw index_back refl, tt))

lchild_twins : (i : IndexDef) → has_twins (lchild_operands i) ≡ false
unfolding has_twins
lchild_twins i = refl

lchild_says : (i : IndexDef) → IsChild i → lchild_of (lchild_operands i) ≡ Ok (child_of_index i)
unfolding lchild_of needed value_of
lchild_says i h = rw (checked_good words.Lchild (lchild_operands i) (lchild_good i h) (lchild_twins i), child_back i.seg i.name h.seg h.name, index_back) refl

lchild_step : (line : ℕ) (dbd : RawDbd) (segm : RawType) (i : IndexDef) → IsChild i → step (drafts.Segment dbd segm) words.Lchild line (lchild_operands i) ≡ Ok (drafts.Index dbd segm (child_of_index i) line)
unfolding step at_segment
lchild_step line dbd segm i h = rw (lchild_says i h) refl

pub lchild_reads : (n last : ℕ) (dbd : RawDbd) (segm : RawType) (i : IndexDef) (rest : List ℕ) → IsChild i
    → reads n (drafts.Segment dbd segm) (wrapped (lchild_statement i) ++ rest) last ≡ reads (n + lines_in (wrapped (lchild_statement i))) (drafts.Index dbd segm (child_of_index i) n) rest last
lchild_reads n last dbd segm i rest h =
    rw (lchild_text i)
    (statement_reads n last (drafts.Segment dbd segm) (drafts.Index dbd segm (child_of_index i) n) (codes "LCHILD") words.Lchild (lchild_first i) lchild_more rest names_lchild (lchild_printed i h) (lchild_step n dbd segm i h)
    (record { same = λ m more. refl }))

-- ---- XDFLD

abbrev pub names_of : List Field → List (List ℕ)
names_of fields = map (λ f. f.name) fields

abbrev field_list : List Field → Value
field_list [] = alone []
field_list (f ∷ more) = listed f.name (names_of more)

abbrev subseq_operands : List Field → List Printed
subseq_operands [] = []
subseq_operands (f ∷ more) = op (codes "SUBSEQ") (field_list (f ∷ more)) ∷ []

abbrev xdfld_first : List ℕ → Printed
xdfld_first xdfld = op (codes "NAME") (alone xdfld)

abbrev xdfld_more : List ℕ → List Field → List Field → List Printed
xdfld_more source search subseq = op (codes "SEGMENT") (alone source) ∷ op (codes "SRCH") (field_list search) ∷ subseq_operands subseq

abbrev xdfld_operands : List ℕ → List ℕ → List Field → List Field → List Operand
xdfld_operands xdfld source search subseq = operand_of words.Xdfld (xdfld_first xdfld) ∷ map (operand_of words.Xdfld) (xdfld_more source search subseq)

pub record IsIndexed (xdfld source : List ℕ) (search subseq : List Field) : Type 0 where
  pub named : is_name xdfld ≡ true
  pub known : is_name source ≡ true
  pub some : 0 < length search
  pub few : length (names_of search) ≤ 5
  pub searched : list_all is_field_name (names_of search) ≡ true
  pub portions : list_all is_field_name (names_of subseq) ≡ true

list_text : (f : Field) (more : List Field) → name_list (f ∷ more) ≡ with_commas f.name (names_of more)
list_text f [] = append-nil f.name
list_text f (g ∷ more) = ap (λ (xs : List ℕ). f.name ++ 44 ∷ xs) (list_text g more)

xdfld_by : (xdfld source : List ℕ) (search subseq : List Field) → 0 < length search
    → codes "XDFLD NAME=" ++ (xdfld ++ codes ",SEGMENT=" ++ source ++ codes ",SRCH=(" ++ name_list search ++ codes ")" ++ subseq_operand subseq) ≡ codes "XDFLD" ++ 32 ∷ operands_text (xdfld_first xdfld) (xdfld_more source search subseq)
xdfld_by xdfld source [] subseq some = absurd (omega arith)
xdfld_by xdfld source (f ∷ fs) [] some = rw (list_text f fs) (simp (append_assoc, append-nil))
xdfld_by xdfld source (f ∷ fs) (g ∷ gs) some = rw (list_text f fs, list_text g gs) (simp append_assoc)

xdfld_text : (types : List SegType) (i : IndexDef) → 0 < length i.search → xdfld_statement types i ≡ codes "XDFLD" ++ 32 ∷ operands_text (xdfld_first i.xdfld) (xdfld_more (name_of types i.source) i.search i.subseq)
unfolding indexed_field
xdfld_text types i some = xdfld_by i.xdfld (name_of types i.source) i.search i.subseq some

list_is : (fields : List Field) → list_all is_field_name (names_of fields) ≡ true → IsValue (field_list fields)
list_is [] h = refl
list_is (f ∷ more) h = fields_are f.name (names_of more) h

subseq_printed : (fields : List Field) → list_all is_field_name (names_of fields) ≡ true → ArePrinted (subseq_operands fields)
subseq_printed [] h = tt
subseq_printed (f ∷ more) h = (record { key = refl; value = list_is (f ∷ more) h }, tt)

xdfld_printed : (xdfld source : List ℕ) (search subseq : List Field) → IsIndexed xdfld source search subseq → ArePrinted (xdfld_first xdfld ∷ xdfld_more source search subseq)
xdfld_printed xdfld source search subseq h =
    (record { key = refl; value = name_short xdfld h.named }, (record { key = refl; value = name_short source h.known }, (record { key = refl; value = list_is search h.searched }, subseq_printed subseq h.portions)))

subseq_good : (fields : List Field) → list_all is_field_name (names_of fields) ≡ true → AreGood words.Xdfld (map (operand_of words.Xdfld) (subseq_operands fields))
unfolding verdict takes value_verdict xdfld_verdict
subseq_good [] h = tt
subseq_good (f ∷ more) h = (rw (value_some f.name (names_of more), fields_back f.name (names_of more) h) refl, tt)

xdfld_good : (xdfld source : List ℕ) (search subseq : List Field) → IsIndexed xdfld source search subseq → AreGood words.Xdfld (xdfld_operands xdfld source search subseq)
unfolding verdict takes value_verdict xdfld_verdict
xdfld_good xdfld source [] subseq h = let some = h.some in absurd (omega (arith, some))
xdfld_good xdfld source (f ∷ fs) subseq h =
    (rw (name_some xdfld h.named, name_back xdfld h.named) refl, (rw (name_some source h.known, name_back source h.known) refl, (rw (value_some f.name (names_of fs), search_back f.name (names_of fs) h.searched h.few) refl, subseq_good subseq h.portions)))

xdfld_twins : (xdfld source : List ℕ) (search subseq : List Field) → has_twins (xdfld_operands xdfld source search subseq) ≡ false
unfolding has_twins
xdfld_twins xdfld source search [] = refl
xdfld_twins xdfld source search (f ∷ more) = refl

-- the index that these operands define
abbrev indexed : ℕ → Child → List ℕ → List ℕ → List ℕ → List Field → List Field → RawIndex
indexed line child target xdfld source search subseq =
    record { seg = child.seg; name = child.name; xdfld = xdfld; target = target; source = source; search = names_of search; subseq = names_of subseq; line = line }

xdfld_says : (line : ℕ) (child : Child) (target xdfld source : List ℕ) (search subseq : List Field) → IsIndexed xdfld source search subseq
    → xdfld_of line child target (xdfld_operands xdfld source search subseq) ≡ Ok (indexed line child target xdfld source search subseq)
unfolding xdfld_of needed value_of
xdfld_says line child target xdfld source [] subseq h = let some = h.some in absurd (omega (arith, some))
xdfld_says line child target xdfld source (f ∷ fs) [] h =
    rw (checked_good words.Xdfld (xdfld_operands xdfld source (f ∷ fs) []) (xdfld_good xdfld source (f ∷ fs) [] h) (xdfld_twins xdfld source (f ∷ fs) []), name_back xdfld h.named, search_back f.name (names_of fs) h.searched h.few, name_back source h.known) refl
xdfld_says line child target xdfld source (f ∷ fs) (g ∷ gs) h =
    rw (
      checked_good words.Xdfld (xdfld_operands xdfld source (f ∷ fs) (g ∷ gs)) (xdfld_good xdfld source (f ∷ fs) (g ∷ gs) h) (xdfld_twins xdfld source (f ∷ fs) (g ∷ gs)),
      name_back xdfld h.named,
      search_back f.name (names_of fs) h.searched h.few,
      name_back source h.known,
      fields_back g.name (names_of gs) h.portions,
    ) refl

xdfld_step : (line at : ℕ) (dbd : RawDbd) (segm : RawType) (child : Child) (xdfld source : List ℕ) (search subseq : List Field) → IsIndexed xdfld source search subseq
    → step (drafts.Index dbd segm child at) words.Xdfld line (xdfld_operands xdfld source search subseq) ≡ Ok (drafts.Segment (with_index dbd (indexed at child segm.name xdfld source search subseq)) segm)
unfolding step at_index
xdfld_step line at dbd segm child xdfld source search subseq h = rw (xdfld_says at child segm.name xdfld source search subseq h) refl

pub xdfld_reads : (n at last : ℕ) (dbd : RawDbd) (segm : RawType) (types : List SegType) (i : IndexDef) (rest : List ℕ) → IsIndexed i.xdfld (name_of types i.source) i.search i.subseq
    → reads n (drafts.Index dbd segm (child_of_index i) at) (wrapped (xdfld_statement types i) ++ rest) last
    ≡ reads (n + lines_in (wrapped (xdfld_statement types i))) (drafts.Segment (with_index dbd (raw_index types segm.name at i)) segm) rest last
xdfld_reads n at last dbd segm types i rest h =
    let source : List ℕ = name_of types i.source in
    let next : Draft = drafts.Segment (with_index dbd (raw_index types segm.name at i)) segm in
    rw (xdfld_text types i h.some)
    (statement_reads n last (drafts.Index dbd segm (child_of_index i) at) next (codes "XDFLD") words.Xdfld (xdfld_first i.xdfld) (xdfld_more source i.search i.subseq) rest names_xdfld (xdfld_printed i.xdfld source i.search i.subseq h)
    (xdfld_step n at dbd segm (child_of_index i) i.xdfld source i.search i.subseq h) (in_segment (with_index dbd (raw_index types segm.name at i)) segm))

-- both statements of an index over a segment
pub record IsPrintedIndex (types : List SegType) (i : IndexDef) : Type 0 where
  pub child : IsChild i
  pub indexed : IsIndexed i.xdfld (name_of types i.source) i.search i.subseq

pub index_reads : (n last : ℕ) (dbd : RawDbd) (segm : RawType) (types : List SegType) (i : IndexDef) (rest : List ℕ) → IsPrintedIndex types i
    → reads n (drafts.Segment dbd segm) (index_text types i ++ rest) last ≡ reads (n + lines_in (index_text types i)) (drafts.Segment (with_index dbd (raw_index types segm.name n i)) segm) rest last
index_reads n last dbd segm types i rest h =
    let child : List ℕ = wrapped (lchild_statement i) in
    let field : List ℕ = wrapped (xdfld_statement types i) in
    let next : Draft = drafts.Segment (with_index dbd (raw_index types segm.name n i)) segm in
    let count = lines_append child field in
    let lines : n + lines_in child + lines_in field ≡ n + lines_in (child ++ field) = omega (arith, count) in
    ap (λ (t : List ℕ). reads n (drafts.Segment dbd segm) t last) (append_assoc child field rest)
    ∙ lchild_reads n last dbd segm i (field ++ rest) h.child ∙ xdfld_reads (n + lines_in child) n last dbd segm types i rest h.indexed ∙ ap (λ (m : ℕ). reads m next rest last) lines
