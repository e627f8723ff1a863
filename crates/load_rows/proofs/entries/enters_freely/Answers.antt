use Rattle.std.proofs.Common.{◌≡◌, ◌∙◌, ◌||◌, ◌==◌, ℕ, Bool, true, not, List, Bor, map, Option, sym, ap}
use Rattle.std.specs.Option.{option_map_or}
use Rattle.std.proofs.lemmas.Bool.{eq-eqb}
use Rattle.hal_schema.specs.declared.row.Row.{Row}
use Rattle.hal_schema.specs.Entry.{entries_of, entry_key, is_taken}
use Rattle.hal_schema.specs.Insertion.{new_path}
use Rattle.hal_schema.specs.Paths.{concatenated_key}
use Rattle.load_rows.proofs.entries.enters_freely.Goals as goal

pub returns : goal.returns
returns c =
    let types = c.args.schema.now.types in
    let free : List ℕ → Bool = λ key. not (is_taken key (entries_of types c.args.index.now c.args.rows.now)) in
    let key = ap (λ (l : List (Bor Row)). entry_key c.args.index.now c.args.new.now.content (concatenated_key types (map (λ (r : Bor Row). r.now) l))) (sym c.deref.ensures.value) ∙ c.in_ok-key.ensures in
    ap not c.in_ok-is_taken.ensures ∙ ap (λ (o : Option (List ℕ)). option_map_or free o true) (sym key)
    ∙ ap (λ (l : List Row). option_map_or free (entry_key c.args.index.now c.args.new.now.content (concatenated_key types l)) true) c.in_ok-path.ensures
    ∙ ap (λ (b : Bool). not b || option_map_or free (entry_key c.args.index.now c.args.new.now.content (concatenated_key types (new_path types c.args.rows.now c.args.new.now))) true) (sym (eq-eqb c.args.new.now.code c.args.index.now.source c.if-new-index.false))
