-- What a printed DBD statement says, and the draft that reading it gives.
use Rattle.std.proofs.Common.{◌≡◌, ℕ, ◌+◌, ◌<◌, ◌^◌, Bool, true, false, ◌==◌, List, [], ◌∷◌, ◌++◌, length, map, Option, Some, None, Ok, codes, decimal, refl, ap, ◌∙◌, arith, append_assoc, append-nil}
use Rattle.std.proofs.lemmas.Bool.{ne_eqb}
use Rattle.hal_base.specs.Name.{is_name}
use Rattle.hal_schema.specs.declared.raw.RawDbd.{RawDbd}
use Rattle.hal_schema.specs.declared.schema.Schema.{Schema}
use Rattle.dbd_reader.specs.declared.word.Word.TheVariants as words
use Rattle.dbd_reader.specs.declared.operand.Operand.{Operand}
use Rattle.dbd_reader.specs.declared.draft.Draft.TheVariants as drafts
use Rattle.dbd_reader.specs.Operands.{has_twins, value_of}
use Rattle.dbd_reader.specs.Verdicts.{verdict, takes, value_verdict, dbd_verdict}
use Rattle.dbd_reader.specs.Meanings.{needed, dbd_of}
use Rattle.dbd_reader.specs.Definition.{at_start, step}
use Rattle.definition_printer.specs.Wrapped.{wrapped}
use Rattle.definition_printer.specs.Dbd.{method, randomizer, dbd_statement}
use Rattle.definition_text.specs.RawDbd.{lines_in}
use Rattle.definition_text.proofs.Printed.{alone, listed, value_text, Printed, operand_text, operands_text, IsValue, ArePrinted}
use Rattle.definition_text.proofs.OperandsRead.{operand_of}
use Rattle.definition_text.proofs.PrintedValues.{name_short, name_some, name_back, access_back, rmname_values, rmname_back}
use Rattle.definition_text.proofs.StatementStep.{names_dbd, reads, statement_reads, AreGood, checked_good}
use Rattle.definition_text.proofs.TypeStatements.{op}

abbrev dbd_first : List ℕ → Printed
dbd_first name = op (codes "NAME") (alone name)

abbrev module_operands : Option (List ℕ) → ℕ → ℕ → List Printed
module_operands None anch rbn = []
module_operands (Some name) anch rbn = op (codes "RMNAME") (listed name (decimal anch ∷ decimal rbn ∷ [])) ∷ []

abbrev dbd_more : Bool → Option (List ℕ) → ℕ → ℕ → List Printed
dbd_more phdam rm anch rbn = op (codes "ACCESS") (listed (method phdam) []) ∷ module_operands rm anch rbn

abbrev dbd_operands : List ℕ → Bool → Option (List ℕ) → ℕ → ℕ → List Operand
dbd_operands name phdam rm anch rbn = operand_of words.Dbd (dbd_first name) ∷ map (operand_of words.Dbd) (dbd_more phdam rm anch rbn)

-- RMNAME is PHDAM's, and without it there is one anchor point and one block
abbrev pub IsModule : Bool → Option (List ℕ) → ℕ → ℕ → Type 0
IsModule phdam None anch rbn = (anch ≡ 1) × (rbn ≡ 1)
IsModule phdam (Some name) anch rbn = (phdam ≡ true) × (is_name name ≡ true) × (anch < 2 ^ 32) × (rbn < 2 ^ 32)

abbrev pub begun_dbd : List ℕ → Bool → Option (List ℕ) → ℕ → ℕ → RawDbd
begun_dbd name phdam rm anch rbn = record { name = name; phdam = phdam; rm = rm; anch = anch; rbn = rbn; types = []; indexes = [] }

front_text : (name kind behind : List ℕ) → codes "DBD NAME=" ++ name ++ codes ",ACCESS=(" ++ kind ++ codes ")" ++ behind ≡ codes "DBD" ++ 32 ∷ (operand_text (dbd_first name) ++ 44 ∷ (operand_text (op (codes "ACCESS") (listed kind [])) ++ behind))
front_text name kind behind = simp append_assoc

module_text : (rm : List ℕ) (anch rbn : ℕ) → randomizer true (Some rm) anch rbn ≡ 44 ∷ operand_text (op (codes "RMNAME") (listed rm (decimal anch ∷ decimal rbn ∷ [])))
module_text rm anch rbn = simp append_assoc

dbd_by : (name : List ℕ) (phdam : Bool) (rm : Option (List ℕ)) (anch rbn : ℕ) → IsModule phdam rm anch rbn
    → codes "DBD NAME=" ++ name ++ codes ",ACCESS=(" ++ method phdam ++ codes ")" ++ randomizer phdam rm anch rbn ≡ codes "DBD" ++ 32 ∷ operands_text (dbd_first name) (dbd_more phdam rm anch rbn)
dbd_by name true None anch rbn h =
    front_text name (method true) [] ∙ ap (λ (t : List ℕ). codes "DBD" ++ 32 ∷ (operand_text (dbd_first name) ++ 44 ∷ t)) (append-nil (operand_text (op (codes "ACCESS") (listed (method true) []))))
dbd_by name false None anch rbn h =
    front_text name (method false) [] ∙ ap (λ (t : List ℕ). codes "DBD" ++ 32 ∷ (operand_text (dbd_first name) ++ 44 ∷ t)) (append-nil (operand_text (op (codes "ACCESS") (listed (method false) []))))
dbd_by name true (Some rm) anch rbn h =
    front_text name (method true) (randomizer true (Some rm) anch rbn)
    ∙ ap (λ (t : List ℕ). codes "DBD" ++ 32 ∷ (operand_text (dbd_first name) ++ 44 ∷ (operand_text (op (codes "ACCESS") (listed (method true) [])) ++ t))) (module_text rm anch rbn)
dbd_by name false (Some rm) anch rbn h = absurd (let no : false ≡ true = h.0 in cc)

module_printed : (phdam : Bool) (rm : Option (List ℕ)) (anch rbn : ℕ) → IsModule phdam rm anch rbn → ArePrinted (module_operands rm anch rbn)
module_printed phdam None anch rbn h = tt
module_printed phdam (Some name) anch rbn h = (record { key = refl; value = rmname_values name anch rbn h.1 h.2 h.3 }, tt)

method_is : (phdam : Bool) → IsValue (listed (method phdam) [])
method_is true = (refl, refl)
method_is false = (refl, refl)

dbd_printed : (name : List ℕ) (phdam : Bool) (rm : Option (List ℕ)) (anch rbn : ℕ) → is_name name ≡ true → IsModule phdam rm anch rbn → ArePrinted (dbd_first name ∷ dbd_more phdam rm anch rbn)
dbd_printed name phdam rm anch rbn n h =
    (record { key = refl; value = name_short name n }, (record { key = refl; value = method_is phdam }, module_printed phdam rm anch rbn h))

method_some : (phdam : Bool) → (length (value_text (listed (method phdam) [])) == 0) ≡ false
method_some true = refl
method_some false = refl

module_some : (name : List ℕ) (anch rbn : ℕ) → (length (value_text (listed name (decimal anch ∷ decimal rbn ∷ []))) == 0) ≡ false
module_some name anch rbn = ne_eqb (length (value_text (listed name (decimal anch ∷ decimal rbn ∷ [])))) 0 (λ e. omega (arith, e))

module_good : (phdam : Bool) (rm : Option (List ℕ)) (anch rbn : ℕ) → IsModule phdam rm anch rbn → AreGood words.Dbd (map (operand_of words.Dbd) (module_operands rm anch rbn))
unfolding verdict takes value_verdict dbd_verdict
module_good phdam None anch rbn h = tt
module_good phdam (Some name) anch rbn h = (rw (module_some name anch rbn, rmname_back name anch rbn h.1 h.2 h.3) refl, tt)

dbd_good : (name : List ℕ) (phdam : Bool) (rm : Option (List ℕ)) (anch rbn : ℕ) → is_name name ≡ true → IsModule phdam rm anch rbn → AreGood words.Dbd (dbd_operands name phdam rm anch rbn)
unfolding verdict takes value_verdict dbd_verdict
dbd_good name phdam rm anch rbn n h = (rw (name_some name n, name_back name n) refl, (rw (method_some phdam, access_back phdam) refl, module_good phdam rm anch rbn h))

dbd_twins : (name : List ℕ) (phdam : Bool) (rm : Option (List ℕ)) (anch rbn : ℕ) → has_twins (dbd_operands name phdam rm anch rbn) ≡ false
unfolding has_twins
dbd_twins name phdam None anch rbn = refl
dbd_twins name phdam (Some rm) anch rbn = refl

dbd_says : (name : List ℕ) (phdam : Bool) (rm : Option (List ℕ)) (anch rbn : ℕ) → is_name name ≡ true → IsModule phdam rm anch rbn → dbd_of (dbd_operands name phdam rm anch rbn) ≡ Ok (begun_dbd name phdam rm anch rbn)
unfolding dbd_of needed value_of
dbd_says name phdam None anch rbn n h =
    rw (checked_good words.Dbd (dbd_operands name phdam None anch rbn) (dbd_good name phdam None anch rbn n h) (dbd_twins name phdam None anch rbn), name_back name n, access_back phdam, h.0, h.1) refl
dbd_says name phdam (Some rm) anch rbn n h =
    rw (checked_good words.Dbd (dbd_operands name phdam (Some rm) anch rbn) (dbd_good name phdam (Some rm) anch rbn n h) (dbd_twins name phdam (Some rm) anch rbn), name_back name n, access_back phdam, rmname_back rm anch rbn h.1 h.2 h.3) refl

dbd_step : (line : ℕ) (name : List ℕ) (phdam : Bool) (rm : Option (List ℕ)) (anch rbn : ℕ) → is_name name ≡ true → IsModule phdam rm anch rbn
    → step drafts.Start words.Dbd line (dbd_operands name phdam rm anch rbn) ≡ Ok (drafts.Head (begun_dbd name phdam rm anch rbn))
unfolding step at_start
dbd_step line name phdam rm anch rbn n h = rw (dbd_says name phdam rm anch rbn n h) refl

-- the database of a schema, with no types yet
abbrev pub database : Schema → RawDbd
database s = begun_dbd s.name s.phdam s.rm s.anch s.rbn

dbd_text : (s : Schema) → IsModule s.phdam s.rm s.anch s.rbn → dbd_statement s ≡ codes "DBD" ++ 32 ∷ operands_text (dbd_first s.name) (dbd_more s.phdam s.rm s.anch s.rbn)
unfolding dbd_statement
dbd_text s h = dbd_by s.name s.phdam s.rm s.anch s.rbn h

pub dbd_reads : (n last : ℕ) (s : Schema) (rest : List ℕ) → is_name s.name ≡ true → IsModule s.phdam s.rm s.anch s.rbn
    → reads n drafts.Start (wrapped (dbd_statement s) ++ rest) last ≡ reads (n + lines_in (wrapped (dbd_statement s))) (drafts.Head (database s)) rest last
dbd_reads n last s rest name h =
    rw (dbd_text s h)
    (statement_reads n last drafts.Start (drafts.Head (database s)) (codes "DBD") words.Dbd (dbd_first s.name) (dbd_more s.phdam s.rm s.anch s.rbn) rest names_dbd (dbd_printed s.name s.phdam s.rm s.anch s.rbn name h)
    (dbd_step n s.name s.phdam s.rm s.anch s.rbn name h) (record { same = λ m more. refl }))
