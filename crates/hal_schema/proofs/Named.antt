-- The fields of some names, one name after another.
use Rattle.std.proofs.Common.{◌≡◌, ℕ, ◌+◌, ◌<◌, List, [], ◌∷◌, ◌++◌, length, get_or, drop, Option, Some, None, refl, ap, sym, ◌∙◌, append_assoc}
use Rattle.std.specs.Prelude.{option_and_then, find}
use Rattle.std.specs.Option.{option_map}
use Rattle.std.specs.Str.{bytes_eq}
use Rattle.std.proofs.lemmas.List.{at_drop_more}
use Rattle.hal_schema.specs.declared.schema.Field.{Field}
use Rattle.hal_schema.specs.Raw.{fields_named}

behind : (found : List Field) (f : Field) (o : Option (List Field)) → option_map (λ rest. found ++ rest) (option_map (λ fs. f ∷ fs) o) ≡ option_map (λ rest. (found ++ f ∷ []) ++ rest) o
behind found f None = refl
behind found f (Some fs) = ap Some (sym (append_assoc found (f ∷ []) fs))

pub fields_more : (fields : List Field) (names : List (List ℕ)) (i : ℕ) (name : List ℕ) (found : List Field) (f : Field) → i < length names → name ≡ get_or names i name → find (λ f. bytes_eq f.name name) fields ≡ Some f
    → option_map (λ rest. found ++ rest) (fields_named fields (drop i names)) ≡ option_map (λ rest. (found ++ f ∷ []) ++ rest) (fields_named fields (drop (i + 1) names))
fields_more fields names i name found f l e at =
    let rest = fields_named fields (drop (i + 1) names) in
    let step = at_drop_more (fields_named fields) names i name l in
    let here = λ (n : List ℕ). option_and_then (λ f. option_map (λ fs. f ∷ fs) rest) (find (λ f. bytes_eq f.name n) fields) in
    ap (option_map (λ rest. found ++ rest)) (step ∙ ap here (sym e) ∙ ap (option_and_then (λ f. option_map (λ fs. f ∷ fs) rest)) at) ∙ behind found f rest

pub fields_missing : (fields : List Field) (names : List (List ℕ)) (i : ℕ) (name : List ℕ) (found : List Field) → i < length names → name ≡ get_or names i name → find (λ f. bytes_eq f.name name) fields ≡ None
    → option_map (λ rest. found ++ rest) (fields_named fields (drop i names)) ≡ None
fields_missing fields names i name found l e at =
    let rest = fields_named fields (drop (i + 1) names) in
    let step = at_drop_more (fields_named fields) names i name l in
    let here = λ (n : List ℕ). option_and_then (λ f. option_map (λ fs. f ∷ fs) rest) (find (λ f. bytes_eq f.name n) fields) in
    ap (option_map (λ rest. found ++ rest)) (step ∙ ap here (sym e) ∙ ap (option_and_then (λ f. option_map (λ fs. f ∷ fs) rest)) at)
