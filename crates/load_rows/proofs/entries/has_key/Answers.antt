use Rattle.std.proofs.Common.{◌≡◌, ◌∙◌, ◌&&◌, ◌==◌, ℕ, Bool, true, false, List, Bor, map, Some, refl, sym, ap}
use Rattle.std.specs.List.{list_any}
use Rattle.std.specs.Str.{bytes_eq}
use Rattle.std.proofs.lemmas.Bool.{and_left, and_right, eq-eqb, ne_eqb}
use Rattle.hal_schema.specs.declared.row.Row.{Row}
use Rattle.load_rows.proofs.Steps.{one_taken, own, own_key}
use Rattle.load_rows.proofs.entries.has_key.Goals as goal
use Rattle.load_rows.proofs.entries.has_key.Goals.{then-row-index-via-then-row-index, then-row-index-via-else-row-index+then-not-has_code}

pub returns-then-row-index : goal.returns-then-row-index
returns-then-row-index c =
    elim c.then-row-index.branch [
      | then-row-index-via-then-row-index w ↦
          ap (λ (b : Bool). (b && list_any (λ (r : Row). r.code == c.args.index.now.target) (map (λ (r : Bor Row). r.now) c.args.path.now)) && bytes_eq c.args.key.now (own c.args.schema.now.types c.args.index.now (map (λ (r : Bor Row). r.now) c.args.path.now) c.args.row.now))
          (sym (ne_eqb c.args.row.now.code c.args.index.now.source w.if-row-index.true))
          ∙ sym (one_taken c.args.schema.now.types c.args.index.now (map (λ (r : Bor Row). r.now) c.args.path.now) c.args.row.now c.args.key.now)
      | then-row-index-via-else-row-index+then-not-has_code w ↦
          sym (one_taken c.args.schema.now.types c.args.index.now (map (λ (r : Bor Row). r.now) c.args.path.now) c.args.row.now c.args.key.now
          ∙ ap (λ (b : Bool). b && bytes_eq c.args.key.now (own c.args.schema.now.types c.args.index.now (map (λ (r : Bor Row). r.now) c.args.path.now) c.args.row.now))
          (and_right (c.args.row.now.code == c.args.index.now.source) (list_any (λ (r : Row). r.code == c.args.index.now.target) (map (λ (r : Bor Row). r.now) c.args.path.now)) (sym w.has_code.ensures ∙ w.if-not-has_code.true)))
    ]

pub returns : goal.returns
returns c =
    let source = eq-eqb c.args.row.now.code c.args.index.now.source c.if-row-index.false in
    let above : list_any (λ (r : Row). r.code == c.args.index.now.target) (map (λ (r : Bor Row). r.now) c.args.path.now) ≡ true = sym c.has_code.ensures ∙ c.if-not-has_code.false in
    let key = own_key c.args.schema.now.types c.args.index.now (map (λ (r : Bor Row). r.now) c.args.path.now) c.args.row.now c.in_ok-entry_key.field-0 c.in_ok-entry_key.ensures in
    c.eq-2.ensures ∙ ap (bytes_eq c.args.key.now) (sym key)
    ∙ ap (λ (b : Bool). b && bytes_eq c.args.key.now (own c.args.schema.now.types c.args.index.now (map (λ (r : Bor Row). r.now) c.args.path.now) c.args.row.now)) (sym above)
    ∙ ap (λ (b : Bool). (b && list_any (λ (r : Row). r.code == c.args.index.now.target) (map (λ (r : Bor Row). r.now) c.args.path.now)) && bytes_eq c.args.key.now (own c.args.schema.now.types c.args.index.now (map (λ (r : Bor Row). r.now) c.args.path.now) c.args.row.now)) (sym source)
    ∙ sym (one_taken c.args.schema.now.types c.args.index.now (map (λ (r : Bor Row). r.now) c.args.path.now) c.args.row.now c.args.key.now)
