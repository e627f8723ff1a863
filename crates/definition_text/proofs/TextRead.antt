-- The canonical DBD text reads, statement after statement, as the raw definition of its schema.
use Rattle.std.proofs.Common.{◌≡◌, ℕ, ◌+◌, ◌-◌, ◌<◌, Bool, true, false, ◌==◌, List, [], ◌∷◌, ◌++◌, length, flat_map, Ok, codes, refl, sym, ap, ◌∙◌, arith, append_assoc, append-nil, length-append}
use Rattle.std.specs.List.{AllByRecursion}
use Rattle.std.specs.Str.Lines.{lines}
use Rattle.hal_base.specs.Name.{is_name}
use Rattle.hal_schema.specs.declared.raw.RawType.{RawType}
use Rattle.hal_schema.specs.declared.raw.RawIndex.{RawIndex}
use Rattle.hal_schema.specs.declared.raw.RawDbd.{RawDbd}
use Rattle.hal_schema.specs.declared.schema.SegType.{SegType}
use Rattle.hal_schema.specs.declared.schema.IndexDef.{IndexDef}
use Rattle.hal_schema.specs.declared.schema.Schema.{Schema}
use Rattle.dbd_reader.specs.declared.draft.Draft.{Draft}
use Rattle.dbd_reader.specs.declared.draft.Draft.TheVariants as drafts
use Rattle.dbd_reader.specs.Lines.{behind_lines}
use Rattle.dbd_reader.specs.Definition.{with_type, with_index, definition_of, place_of, placed, meaning_of}
use Rattle.definition_printer.specs.Wrapped.{pieces, on_lines, wrapped}
use Rattle.definition_printer.specs.Dbd.{fields_text, segm_statement, index_text, text_over, type_text, types_text, end_text, dbd_statement, dbd_text}
use Rattle.definition_text.specs.RawDbd.{lines_in, behind_segm, raw_type, raw_index, raw_over, raw_types, raw_indexes, raw_dbd_of}
use Rattle.definition_text.proofs.Pieced.{lines_append}
use Rattle.definition_text.proofs.StatementStep.{reads}
use Rattle.definition_text.proofs.TypeStatements.{IsSegment, begun_type, first_segm_reads, next_segm_reads}
use Rattle.definition_text.proofs.FieldsRead.{IsPrintedField, fields_read}
use Rattle.definition_text.proofs.IndexStatements.{IsPrintedIndex, index_reads}
use Rattle.definition_text.proofs.DatabaseStatement.{IsModule, database, dbd_reads}
use Rattle.definition_text.proofs.EndStatements.{end_reads}
use Rattle.definition_text.proofs.TextEnd.{is_whole, whole_behind, rest_behind}

-- ---- the indexes over a type

abbrev with_indexes : RawDbd → List RawIndex → RawDbd
with_indexes dbd indexes = record dbd { indexes = dbd.indexes ++ indexes }

abbrev over_text : List SegType → ℕ → List IndexDef → List ℕ
over_text types code indexes = flat_map (text_over types code) indexes

over_by : (b : Bool) (n last : ℕ) (dbd : RawDbd) (segm : RawType) (types : List SegType) (code : ℕ) (i : IndexDef) (more : List IndexDef) (rest : List ℕ) → (i.target == code) ≡ b → IsPrintedIndex types i
    → ((m : ℕ) (next : RawDbd) → reads m (drafts.Segment next segm) (over_text types code more ++ rest) last ≡ reads (m + lines_in (over_text types code more)) (drafts.Segment (with_indexes next (raw_over types code segm.name m more)) segm) rest last)
    → reads n (drafts.Segment dbd segm) (over_text types code (i ∷ more) ++ rest) last
    ≡ reads (n + lines_in (over_text types code (i ∷ more))) (drafts.Segment (with_indexes dbd (raw_over types code segm.name n (i ∷ more))) segm) rest last
over_by true n last dbd segm types code i more rest e h later =
    let text : List ℕ = index_text types i in
    let behind : List ℕ = over_text types code more in
    let m : ℕ = n + lines_in text in
    let index : RawIndex = raw_index types segm.name n i in
    let indexes : List RawIndex = raw_over types code segm.name m more in
    let count = lines_append text behind in
    let lines : m + lines_in behind ≡ n + lines_in (text ++ behind) = omega (arith, count) in
    let joined : with_indexes (with_index dbd index) indexes ≡ with_indexes dbd (index ∷ indexes) = ap (λ (is : List RawIndex). record dbd { indexes = is }) (append_assoc dbd.indexes (index ∷ []) indexes) in
    let all : reads n (drafts.Segment dbd segm) ((text ++ behind) ++ rest) last ≡ reads (n + lines_in (text ++ behind)) (drafts.Segment (with_indexes dbd (index ∷ indexes)) segm) rest last =
    ap (λ (t : List ℕ). reads n (drafts.Segment dbd segm) t last) (append_assoc text behind rest)
    ∙ index_reads n last dbd segm types i (behind ++ rest) h ∙ later m (with_index dbd index)
    ∙ ap (λ (k : ℕ). reads k (drafts.Segment (with_indexes (with_index dbd index) indexes) segm) rest last) lines
    ∙ ap (λ (d : RawDbd). reads (n + lines_in (text ++ behind)) (drafts.Segment d segm) rest last) joined in
    rw e all
over_by false n last dbd segm types code i more rest e h later = rw e (later n dbd)

over_reads : (indexes : List IndexDef) (n last : ℕ) (dbd : RawDbd) (segm : RawType) (types : List SegType) (code : ℕ) (rest : List ℕ) → AllByRecursion (IsPrintedIndex types) indexes
    → reads n (drafts.Segment dbd segm) (over_text types code indexes ++ rest) last
    ≡ reads (n + lines_in (over_text types code indexes)) (drafts.Segment (with_indexes dbd (raw_over types code segm.name n indexes)) segm) rest last
over_reads [] n last dbd segm types code rest h =
    let here : n ≡ n + 0 = omega arith in
    let same : dbd ≡ with_indexes dbd [] = ap (λ (is : List RawIndex). record dbd { indexes = is }) (sym (append-nil dbd.indexes)) in
    ap (λ (k : ℕ). reads k (drafts.Segment dbd segm) rest last) here ∙ ap (λ (d : RawDbd). reads (n + 0) (drafts.Segment d segm) rest last) same
over_reads (i ∷ more) n last dbd segm types code rest h = over_by (i.target == code) n last dbd segm types code i more rest refl h.0 (λ m next. over_reads more m last next segm types code rest h.1)

-- ---- a type

pub record IsPrintedType (types : List SegType) (t : SegType) : Type 0 where
  pub segment : IsSegment types t
  pub fields : AllByRecursion IsPrintedField t.fields

-- what stands behind the SEGM statement of a type
behind_segm_reads : (n last : ℕ) (dbd : RawDbd) (types : List SegType) (indexes : List IndexDef) (code : ℕ) (t : SegType) (rest : List ℕ) → IsPrintedType types t → AllByRecursion (IsPrintedIndex types) indexes
    → reads (behind_segm types n t) (drafts.Segment dbd (begun_type types n t)) ((fields_text t.key t.fields ++ over_text types code indexes) ++ rest) last
    ≡ reads (n + lines_in (type_text types indexes code t)) (drafts.Segment (with_indexes dbd (raw_over types code t.name (behind_segm types n t + lines_in (fields_text t.key t.fields)) indexes)) (raw_type types n t)) rest last
unfolding type_text
behind_segm_reads n last dbd types indexes code t rest h is =
    let segm : List ℕ = wrapped (segm_statement types t) in
    let fields : List ℕ = fields_text t.key t.fields in
    let over : List ℕ = over_text types code indexes in
    let m : ℕ = behind_segm types n t in
    let a = lines_append segm fields in
    let b = lines_append (segm ++ fields) over in
    let next : Draft = drafts.Segment (with_indexes dbd (raw_over types code t.name (m + lines_in fields) indexes)) (raw_type types n t) in
    let lines : m + lines_in fields + lines_in over ≡ n + lines_in (segm ++ fields ++ over) = omega (arith, a, b) in
    ap (λ (x : List ℕ). reads m (drafts.Segment dbd (begun_type types n t)) x last) (append_assoc fields over rest)
    ∙ fields_read m last dbd (begun_type types n t) t.key t.fields (over ++ rest) h.fields
    ∙ over_reads indexes (m + lines_in fields) last dbd (raw_type types n t) types code rest is
    ∙ ap (λ (k : ℕ). reads k next rest last) lines

type_parts : (types : List SegType) (indexes : List IndexDef) (code : ℕ) (t : SegType) (rest : List ℕ)
    → type_text types indexes code t ++ rest ≡ wrapped (segm_statement types t) ++ ((fields_text t.key t.fields ++ over_text types code indexes) ++ rest)
unfolding type_text
type_parts types indexes code t rest =
    let segm : List ℕ = wrapped (segm_statement types t) in
    let fields : List ℕ = fields_text t.key t.fields in
    let over : List ℕ = over_text types code indexes in
    ap (λ (x : List ℕ). x ++ rest) (append_assoc segm fields over) ∙ append_assoc segm (fields ++ over) rest

-- the drafts behind a type: those before it are kept
abbrev over_type : List SegType → List IndexDef → ℕ → ℕ → SegType → List RawIndex
over_type types indexes code n t = raw_over types code t.name (behind_segm types n t + lines_in (fields_text t.key t.fields)) indexes

first_type_reads : (n last : ℕ) (dbd : RawDbd) (types : List SegType) (indexes : List IndexDef) (code : ℕ) (t : SegType) (rest : List ℕ) → IsPrintedType types t → AllByRecursion (IsPrintedIndex types) indexes
    → reads n (drafts.Head dbd) (type_text types indexes code t ++ rest) last ≡ reads (n + lines_in (type_text types indexes code t)) (drafts.Segment (with_indexes dbd (over_type types indexes code n t)) (raw_type types n t)) rest last
first_type_reads n last dbd types indexes code t rest h is =
    let behind : List ℕ = (fields_text t.key t.fields ++ over_text types code indexes) ++ rest in
    ap (λ (x : List ℕ). reads n (drafts.Head dbd) x last) (type_parts types indexes code t rest)
    ∙ first_segm_reads n last dbd types t behind h.segment ∙ behind_segm_reads n last dbd types indexes code t rest h is

next_type_reads : (n last : ℕ) (dbd : RawDbd) (segm : RawType) (types : List SegType) (indexes : List IndexDef) (code : ℕ) (t : SegType) (rest : List ℕ) → IsPrintedType types t → AllByRecursion (IsPrintedIndex types) indexes
    → reads n (drafts.Segment dbd segm) (type_text types indexes code t ++ rest) last
    ≡ reads (n + lines_in (type_text types indexes code t)) (drafts.Segment (with_indexes (with_type dbd segm) (over_type types indexes code n t)) (raw_type types n t)) rest last
next_type_reads n last dbd segm types indexes code t rest h is =
    let behind : List ℕ = (fields_text t.key t.fields ++ over_text types code indexes) ++ rest in
    ap (λ (x : List ℕ). reads n (drafts.Segment dbd segm) x last) (type_parts types indexes code t rest)
    ∙ next_segm_reads n last dbd segm types t behind h.segment ∙ behind_segm_reads n last (with_type dbd segm) types indexes code t rest h is

-- ---- all types, and the end

-- a database with the segment that is read, and what stands behind
abbrev whole_dbd : RawDbd → RawType → List RawType → List RawIndex → RawDbd
whole_dbd dbd segm types indexes = record dbd { types = (dbd.types ++ segm ∷ []) ++ types; indexes = dbd.indexes ++ indexes }

no_more : (dbd : RawDbd) (segm : RawType) → with_type dbd segm ≡ whole_dbd dbd segm [] []
no_more dbd segm =
    ap (λ (is : List RawIndex). record dbd { types = dbd.types ++ segm ∷ []; indexes = is }) (sym (append-nil dbd.indexes))
    ∙ ap (λ (ts : List RawType). record dbd { types = ts; indexes = dbd.indexes ++ [] }) (sym (append-nil (dbd.types ++ segm ∷ [])))

one_more : (dbd : RawDbd) (segm next : RawType) (over : List RawIndex) (types : List RawType) (indexes : List RawIndex)
    → whole_dbd (with_indexes (with_type dbd segm) over) next types indexes ≡ whole_dbd dbd segm (next ∷ types) (over ++ indexes)
one_more dbd segm next over types indexes =
    ap (λ (is : List RawIndex). record dbd { types = ((dbd.types ++ segm ∷ []) ++ next ∷ []) ++ types; indexes = is }) (append_assoc dbd.indexes over indexes)
    ∙ ap (λ (ts : List RawType). record dbd { types = ts; indexes = dbd.indexes ++ (over ++ indexes) }) (append_assoc (dbd.types ++ segm ∷ []) (next ∷ []) types)

types_read : (ts : List SegType) (n last : ℕ) (dbd : RawDbd) (segm : RawType) (types : List SegType) (indexes : List IndexDef) (code : ℕ) (rest : List ℕ) → AllByRecursion (IsPrintedType types) ts → AllByRecursion (IsPrintedIndex types) indexes
    → reads n (drafts.Segment dbd segm) (types_text types indexes code ts ++ (end_text ++ rest)) last
    ≡ Ok (whole_dbd dbd segm (raw_types types indexes code n ts) (raw_indexes types indexes code n ts), n + lines_in (types_text types indexes code ts) + 3)
types_read [] n last dbd segm types indexes code rest h is =
    let here : n + 3 ≡ n + 0 + 3 = omega arith in
    end_reads n last dbd segm rest
    ∙ ap (λ (d : RawDbd). Ok (d, n + 3)) (no_more dbd segm) ∙ ap (λ (k : ℕ). Ok (whole_dbd dbd segm [] [], k)) here
types_read (t ∷ ts) n last dbd segm types indexes code rest h is =
    let text : List ℕ = type_text types indexes code t in
    let behind : List ℕ = types_text types indexes (code + 1) ts in
    let m : ℕ = n + lines_in text in
    let over : List RawIndex = over_type types indexes code n t in
    let next : RawDbd = with_indexes (with_type dbd segm) over in
    let count = lines_append text behind in
    let lines : m + lines_in behind + 3 ≡ n + lines_in (text ++ behind) + 3 = omega (arith, count) in
    let later : List RawType = raw_types types indexes (code + 1) m ts in
    let more : List RawIndex = raw_indexes types indexes (code + 1) m ts in
    ap (λ (x : List ℕ). reads n (drafts.Segment dbd segm) x last) (append_assoc text behind (end_text ++ rest))
    ∙ next_type_reads n last dbd segm types indexes code t (behind ++ (end_text ++ rest)) h.0 is
    ∙ types_read ts m last next (raw_type types n t) types indexes (code + 1) rest h.1 is
    ∙ ap (λ (d : RawDbd). Ok (d, m + lines_in behind + 3)) (one_more dbd segm (raw_type types n t) over later more)
    ∙ ap (λ (k : ℕ). Ok (whole_dbd dbd segm (raw_type types n t ∷ later) (over ++ more), k)) lines

-- the database with all its types and indexes
abbrev full_dbd : RawDbd → List RawType → List RawIndex → RawDbd
full_dbd dbd types indexes = record dbd { types = types; indexes = indexes }

all_types_read : (ts : List SegType) (n last : ℕ) (s : Schema) (types : List SegType) (indexes : List IndexDef) (code : ℕ) (rest : List ℕ) → 0 < length ts → AllByRecursion (IsPrintedType types) ts → AllByRecursion (IsPrintedIndex types) indexes
    → reads n (drafts.Head (database s)) (types_text types indexes code ts ++ (end_text ++ rest)) last
    ≡ Ok (full_dbd (database s) (raw_types types indexes code n ts) (raw_indexes types indexes code n ts), n + lines_in (types_text types indexes code ts) + 3)
all_types_read [] n last s types indexes code rest some h is = absurd (omega arith)
all_types_read (t ∷ ts) n last s types indexes code rest some h is =
    let text : List ℕ = type_text types indexes code t in
    let behind : List ℕ = types_text types indexes (code + 1) ts in
    let m : ℕ = n + lines_in text in
    let over : List RawIndex = over_type types indexes code n t in
    let next : RawDbd = with_indexes (database s) over in
    let count = lines_append text behind in
    let lines : m + lines_in behind + 3 ≡ n + lines_in (text ++ behind) + 3 = omega (arith, count) in
    let whole : RawDbd = full_dbd (database s) (raw_types types indexes code n (t ∷ ts)) (raw_indexes types indexes code n (t ∷ ts)) in
    ap (λ (x : List ℕ). reads n (drafts.Head (database s)) x last) (append_assoc text behind (end_text ++ rest))
    ∙ first_type_reads n last (database s) types indexes code t (behind ++ (end_text ++ rest)) h.0 is
    ∙ types_read ts m last next (raw_type types n t) types indexes (code + 1) rest h.1 is
    ∙ ap (λ (k : ℕ). Ok (whole, k)) lines

-- ---- the whole text

-- a schema whose names and numbers can be printed and read
pub record IsPrintedSchema (s : Schema) : Type 0 where
  pub name : is_name s.name ≡ true
  pub module_kept : IsModule s.phdam s.rm s.anch s.rbn
  pub some : 0 < length s.types
  pub types : AllByRecursion (IsPrintedType s.types) s.types
  pub indexes : AllByRecursion (IsPrintedIndex s.types) s.indexes

text_read : (s : Schema) (last : ℕ) (rest : List ℕ) → IsPrintedSchema s → reads 1 drafts.Start (dbd_text s ++ rest) last ≡ Ok (raw_dbd_of s, 1 + lines_in (dbd_text s))
unfolding dbd_text wrapped on_lines pieces
text_read s last rest h =
    let first : List ℕ = wrapped (dbd_statement s) in
    let types : List ℕ = types_text s.types s.indexes 1 s.types in
    let n : ℕ = 1 + lines_in first in
    let a = lines_append first types in
    let b = lines_append (first ++ types) end_text in
    let three : lines_in end_text ≡ 3 = refl in
    let lines : n + lines_in types + 3 ≡ 1 + lines_in (first ++ types ++ end_text) = omega (arith, a, b, three) in
    ap (λ (t : List ℕ). reads 1 drafts.Start t last) (append_assoc (first ++ types) end_text rest ∙ append_assoc first types (end_text ++ rest))
    ∙ dbd_reads 1 last s (types ++ (end_text ++ rest)) h.name h.module_kept
    ∙ all_types_read s.types n last s s.types s.indexes 1 rest h.some h.types h.indexes
    ∙ ap (λ (k : ℕ). Ok (raw_dbd_of s, k)) lines

text_whole : (s : Schema) → is_whole (dbd_text s) ≡ true
unfolding dbd_text wrapped on_lines pieces
text_whole s = whole_behind (wrapped (dbd_statement s) ++ types_text s.types s.indexes 1 s.types) 68 (66 ∷ 68 ∷ 71 ∷ 69 ∷ 78 ∷ 10 ∷ codes "FINISH" ++ 10 ∷ codes "END" ++ 10 ∷ [])

-- whatever stands behind the text
pub dbd_read_back : (s : Schema) (rest : List ℕ) → IsPrintedSchema s → meaning_of (dbd_text s ++ rest) ≡ Ok (raw_dbd_of s, length (dbd_text s))
unfolding meaning_of definition_of
dbd_read_back s rest h =
    let text : List ℕ = dbd_text s in
    let all : List ℕ = text ++ rest in
    let less : 1 + lines_in text - 1 ≡ lines_in text = omega arith in
    let behind : behind_lines (1 + lines_in text - 1) all ≡ rest = ap (λ (k : ℕ). behind_lines k all) less ∙ rest_behind text rest (text_whole s) in
    let size = length-append text rest in
    let place : place_of all (1 + lines_in text) ≡ length text = ap (λ (t : List ℕ). length all - length t) behind ∙ (let e : length all - length rest ≡ length text = omega (arith, size) in e) in
    ap (placed all) (text_read s (length (lines all) + 1) rest h) ∙ ap (λ (k : ℕ). Ok (raw_dbd_of s, k)) place
