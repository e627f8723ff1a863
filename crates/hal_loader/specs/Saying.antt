-- What a record says by itself, as the reader of one answers it.
use Rattle.std.specs.Prelude.{◌≡◌, ℕ, List, None, Some, Result, Ok, Err, ⊤}
use Rattle.hal_schema.specs.declared.schema.SegType.{SegType}
use Rattle.hal_loader.specs.Refusals.{first_that_holds, text_refusals}
use Rattle.hal_loader.specs.Text.{code_said, content_said}
use Rattle.hal_loader.specs.declared.fault.RowFault.{RowFault}
use Rattle.hal_loader.specs.declared.fault.RowFault.TheVariants.{Broken, Failed, Memory}
use Rattle.hal_loader.specs.declared.said.Said.{Said}

-- a type and a content, and no refusal
pub record IsSaid (types : List SegType) (fields : List (List ℕ)) (said : Said) : Type 0 where
  pub kept : first_that_holds (text_refusals types fields) ≡ None
  pub code : code_said types fields ≡ Some said.code
  pub content : content_said types fields ≡ Some said.content

abbrev pub SaysRecord : List SegType → List (List ℕ) → Result Said RowFault → Type 0
SaysRecord types fields (Ok said) = IsSaid types fields said
SaysRecord types fields (Err (Broken code)) = first_that_holds (text_refusals types fields) ≡ Some code
SaysRecord types fields (Err Failed) = ⊥
SaysRecord types fields (Err Memory) = ⊤
