-- The fault of a definition, where the rules before are kept.
use Rattle.std.proofs.Common.{◌≡◌, ℕ, ◌+◌, List, [], ◌∷◌, drop, Some, None, sym, ap, subst, ◌∙◌}
use Rattle.std.specs.List.{slice_get}
use Rattle.std.specs.Option.{option_map_or}
use Rattle.hal_schema.specs.declared.fault.Place.{Place}
use Rattle.hal_schema.specs.declared.fault.SchemaFault.{SchemaFault}
use Rattle.hal_schema.specs.declared.fault.SchemaFault.TheVariants.{Rule, Memory}
use Rattle.hal_schema.specs.declared.raw.RawSchema.{RawSchema}
use Rattle.hal_schema.specs.Faults.{IsFault, IsFaultAt}
use Rattle.hal_schema.specs.Keeps.{KeepsStatements, KeepsRest}
use Rattle.hal_schema.specs.Places.{least}
use Rattle.hal_schema.specs.Raw.{types_of}
use Rattle.hal_schema.specs.Rules.{broken, first_broken, first_fault, unknown_parents, misplaced_roots, names_repeated, counts_passed, sizes_broken, sequence_broken, root_key_broken, letters_unknown, indexes_broken, highs_broken, factors_broken, numbers_broken}

here : (rule : ℕ) (places : List Place) (rules : List (List Place)) (f : SchemaFault) → IsFaultAt rule places f → IsFault (first_broken rule (places ∷ rules)) f
here rule places rules Memory h = tt
here rule places rules (Rule r part line) h =
    ap (λ o. option_map_or (λ place. Some (rule, place)) o (first_broken (rule + 1) rules)) h.1 ∙ ap (λ k. Some (k, record { part = part; line = line })) (sym h.0)

past : (rule : ℕ) (places : List Place) (rules : List (List Place)) (f : SchemaFault) → places ≡ [] → IsFault (first_broken (rule + 1) rules) f → IsFault (first_broken rule (places ∷ rules)) f
past rule places rules f e h =
    subst (λ o. IsFault o f) (sym (ap (λ ps. option_map_or (λ place. Some (rule, place)) (least ps) (first_broken (rule + 1) rules)) e)) h

skip : (rule : ℕ) (places : List Place) (rules : List (List Place)) → places ≡ [] → first_broken rule (places ∷ rules) ≡ first_broken (rule + 1) rules
skip rule places rules e = ap (λ ps. option_map_or (λ place. Some (rule, place)) (least ps) (first_broken (rule + 1) rules)) e

pub fault_parents : (raw : RawSchema) (f : SchemaFault) → IsFaultAt 1 (unknown_parents raw.dbd.types) f → IsFault (first_fault raw) f
unfolding broken
fault_parents raw f h = here 1 (unknown_parents raw.dbd.types) (drop 1 (broken raw)) f h

pub fault_roots : (raw : RawSchema) (f : SchemaFault) → unknown_parents raw.dbd.types ≡ [] → IsFaultAt 2 (misplaced_roots raw.dbd.types) f → IsFault (first_fault raw) f
unfolding broken
fault_roots raw f e1 h = past 1 (unknown_parents raw.dbd.types) (drop 1 (broken raw)) f e1 (here 2 (misplaced_roots raw.dbd.types) (drop 2 (broken raw)) f h)

pub fault_names : (raw : RawSchema) (f : SchemaFault) → unknown_parents raw.dbd.types ≡ [] → misplaced_roots raw.dbd.types ≡ [] → IsFaultAt 3 (names_repeated raw) f → IsFault (first_fault raw) f
unfolding broken
fault_names raw f e1 e2 h = past 1 (unknown_parents raw.dbd.types) (drop 1 (broken raw)) f e1 (past 2 (misplaced_roots raw.dbd.types) (drop 2 (broken raw)) f e2 (here 3 (names_repeated raw) (drop 3 (broken raw)) f h))

pub fault_counts : (raw : RawSchema) (f : SchemaFault) → unknown_parents raw.dbd.types ≡ [] → misplaced_roots raw.dbd.types ≡ [] → names_repeated raw ≡ [] → IsFaultAt 4 (counts_passed raw) f → IsFault (first_fault raw) f
unfolding broken
fault_counts raw f e1 e2 e3 h = past 1 (unknown_parents raw.dbd.types) (drop 1 (broken raw)) f e1 (past 2 (misplaced_roots raw.dbd.types) (drop 2 (broken raw)) f e2 (past 3 (names_repeated raw) (drop 3 (broken raw)) f e3 (here 4 (counts_passed raw) (drop 4 (broken raw)) f h)))

pub fault_sizes : (raw : RawSchema) (f : SchemaFault) → unknown_parents raw.dbd.types ≡ [] → misplaced_roots raw.dbd.types ≡ [] → names_repeated raw ≡ [] → counts_passed raw ≡ [] → IsFaultAt 5 (sizes_broken raw.dbd.types) f → IsFault (first_fault raw) f
unfolding broken
fault_sizes raw f e1 e2 e3 e4 h = past 1 (unknown_parents raw.dbd.types) (drop 1 (broken raw)) f e1 (past 2 (misplaced_roots raw.dbd.types) (drop 2 (broken raw)) f e2 (past 3 (names_repeated raw) (drop 3 (broken raw)) f e3 (past 4 (counts_passed raw) (drop 4 (broken raw)) f e4 (here 5 (sizes_broken raw.dbd.types) (drop 5 (broken raw)) f h))))

pub fault_sequence : (raw : RawSchema) (f : SchemaFault) → unknown_parents raw.dbd.types ≡ [] → misplaced_roots raw.dbd.types ≡ [] → names_repeated raw ≡ [] → counts_passed raw ≡ [] → sizes_broken raw.dbd.types ≡ [] → IsFaultAt 6 (sequence_broken raw.dbd.types) f → IsFault (first_fault raw) f
unfolding broken
fault_sequence raw f e1 e2 e3 e4 e5 h = past 1 (unknown_parents raw.dbd.types) (drop 1 (broken raw)) f e1 (past 2 (misplaced_roots raw.dbd.types) (drop 2 (broken raw)) f e2 (past 3 (names_repeated raw) (drop 3 (broken raw)) f e3 (past 4 (counts_passed raw) (drop 4 (broken raw)) f e4 (past 5 (sizes_broken raw.dbd.types) (drop 5 (broken raw)) f e5 (here 6 (sequence_broken raw.dbd.types) (drop 6 (broken raw)) f h)))))

pub fault_root_key : (raw : RawSchema) (f : SchemaFault) → unknown_parents raw.dbd.types ≡ [] → misplaced_roots raw.dbd.types ≡ [] → names_repeated raw ≡ [] → counts_passed raw ≡ [] → sizes_broken raw.dbd.types ≡ [] → sequence_broken raw.dbd.types ≡ [] → IsFaultAt 7 (root_key_broken (slice_get raw.dbd.types 0)) f → IsFault (first_fault raw) f
unfolding broken
fault_root_key raw f e1 e2 e3 e4 e5 e6 h = past 1 (unknown_parents raw.dbd.types) (drop 1 (broken raw)) f e1 (past 2 (misplaced_roots raw.dbd.types) (drop 2 (broken raw)) f e2 (past 3 (names_repeated raw) (drop 3 (broken raw)) f e3 (past 4 (counts_passed raw) (drop 4 (broken raw)) f e4 (past 5 (sizes_broken raw.dbd.types) (drop 5 (broken raw)) f e5 (past 6 (sequence_broken raw.dbd.types) (drop 6 (broken raw)) f e6 (here 7 (root_key_broken (slice_get raw.dbd.types 0)) (drop 7 (broken raw)) f h))))))

pub fault_letters : (raw : RawSchema) (f : SchemaFault) → unknown_parents raw.dbd.types ≡ [] → misplaced_roots raw.dbd.types ≡ [] → names_repeated raw ≡ [] → counts_passed raw ≡ [] → sizes_broken raw.dbd.types ≡ [] → sequence_broken raw.dbd.types ≡ [] → root_key_broken (slice_get raw.dbd.types 0) ≡ [] → IsFaultAt 8 (letters_unknown raw.dbd.types) f → IsFault (first_fault raw) f
unfolding broken
fault_letters raw f e1 e2 e3 e4 e5 e6 e7 h = past 1 (unknown_parents raw.dbd.types) (drop 1 (broken raw)) f e1 (past 2 (misplaced_roots raw.dbd.types) (drop 2 (broken raw)) f e2 (past 3 (names_repeated raw) (drop 3 (broken raw)) f e3 (past 4 (counts_passed raw) (drop 4 (broken raw)) f e4 (past 5 (sizes_broken raw.dbd.types) (drop 5 (broken raw)) f e5 (past 6 (sequence_broken raw.dbd.types) (drop 6 (broken raw)) f e6 (past 7 (root_key_broken (slice_get raw.dbd.types 0)) (drop 7 (broken raw)) f e7 (here 8 (letters_unknown raw.dbd.types) (drop 8 (broken raw)) f h)))))))

pub fault_indexes : (raw : RawSchema) (f : SchemaFault) → unknown_parents raw.dbd.types ≡ [] → misplaced_roots raw.dbd.types ≡ [] → names_repeated raw ≡ [] → counts_passed raw ≡ [] → sizes_broken raw.dbd.types ≡ [] → sequence_broken raw.dbd.types ≡ [] → root_key_broken (slice_get raw.dbd.types 0) ≡ [] → letters_unknown raw.dbd.types ≡ [] → IsFaultAt 9 (indexes_broken (types_of raw.dbd.types) raw.dbd.indexes) f → IsFault (first_fault raw) f
unfolding broken
fault_indexes raw f e1 e2 e3 e4 e5 e6 e7 e8 h = past 1 (unknown_parents raw.dbd.types) (drop 1 (broken raw)) f e1 (past 2 (misplaced_roots raw.dbd.types) (drop 2 (broken raw)) f e2 (past 3 (names_repeated raw) (drop 3 (broken raw)) f e3 (past 4 (counts_passed raw) (drop 4 (broken raw)) f e4 (past 5 (sizes_broken raw.dbd.types) (drop 5 (broken raw)) f e5 (past 6 (sequence_broken raw.dbd.types) (drop 6 (broken raw)) f e6 (past 7 (root_key_broken (slice_get raw.dbd.types 0)) (drop 7 (broken raw)) f e7 (past 8 (letters_unknown raw.dbd.types) (drop 8 (broken raw)) f e8 (here 9 (indexes_broken (types_of raw.dbd.types) raw.dbd.indexes) (drop 9 (broken raw)) f h))))))))

pub fault_highs : (raw : RawSchema) (f : SchemaFault) → unknown_parents raw.dbd.types ≡ [] → misplaced_roots raw.dbd.types ≡ [] → names_repeated raw ≡ [] → counts_passed raw ≡ [] → sizes_broken raw.dbd.types ≡ [] → sequence_broken raw.dbd.types ≡ [] → root_key_broken (slice_get raw.dbd.types 0) ≡ [] → letters_unknown raw.dbd.types ≡ [] → indexes_broken (types_of raw.dbd.types) raw.dbd.indexes ≡ [] → IsFaultAt 10 (highs_broken (types_of raw.dbd.types) raw.parts.parts) f → IsFault (first_fault raw) f
unfolding broken
fault_highs raw f e1 e2 e3 e4 e5 e6 e7 e8 e9 h = past 1 (unknown_parents raw.dbd.types) (drop 1 (broken raw)) f e1 (past 2 (misplaced_roots raw.dbd.types) (drop 2 (broken raw)) f e2 (past 3 (names_repeated raw) (drop 3 (broken raw)) f e3 (past 4 (counts_passed raw) (drop 4 (broken raw)) f e4 (past 5 (sizes_broken raw.dbd.types) (drop 5 (broken raw)) f e5 (past 6 (sequence_broken raw.dbd.types) (drop 6 (broken raw)) f e6 (past 7 (root_key_broken (slice_get raw.dbd.types 0)) (drop 7 (broken raw)) f e7 (past 8 (letters_unknown raw.dbd.types) (drop 8 (broken raw)) f e8 (past 9 (indexes_broken (types_of raw.dbd.types) raw.dbd.indexes) (drop 9 (broken raw)) f e9 (here 10 (highs_broken (types_of raw.dbd.types) raw.parts.parts) (drop 10 (broken raw)) f h)))))))))

pub fault_factors : (raw : RawSchema) (f : SchemaFault) → unknown_parents raw.dbd.types ≡ [] → misplaced_roots raw.dbd.types ≡ [] → names_repeated raw ≡ [] → counts_passed raw ≡ [] → sizes_broken raw.dbd.types ≡ [] → sequence_broken raw.dbd.types ≡ [] → root_key_broken (slice_get raw.dbd.types 0) ≡ [] → letters_unknown raw.dbd.types ≡ [] → indexes_broken (types_of raw.dbd.types) raw.dbd.indexes ≡ [] → highs_broken (types_of raw.dbd.types) raw.parts.parts ≡ [] → IsFaultAt 11 (factors_broken raw.dbd raw.parts.parts) f → IsFault (first_fault raw) f
unfolding broken
fault_factors raw f e1 e2 e3 e4 e5 e6 e7 e8 e9 e10 h = past 1 (unknown_parents raw.dbd.types) (drop 1 (broken raw)) f e1 (past 2 (misplaced_roots raw.dbd.types) (drop 2 (broken raw)) f e2 (past 3 (names_repeated raw) (drop 3 (broken raw)) f e3 (past 4 (counts_passed raw) (drop 4 (broken raw)) f e4 (past 5 (sizes_broken raw.dbd.types) (drop 5 (broken raw)) f e5 (past 6 (sequence_broken raw.dbd.types) (drop 6 (broken raw)) f e6 (past 7 (root_key_broken (slice_get raw.dbd.types 0)) (drop 7 (broken raw)) f e7 (past 8 (letters_unknown raw.dbd.types) (drop 8 (broken raw)) f e8 (past 9 (indexes_broken (types_of raw.dbd.types) raw.dbd.indexes) (drop 9 (broken raw)) f e9 (past 10 (highs_broken (types_of raw.dbd.types) raw.parts.parts) (drop 10 (broken raw)) f e10 (here 11 (factors_broken raw.dbd raw.parts.parts) (drop 11 (broken raw)) f h))))))))))

pub fault_numbers : (raw : RawSchema) (f : SchemaFault) → unknown_parents raw.dbd.types ≡ [] → misplaced_roots raw.dbd.types ≡ [] → names_repeated raw ≡ [] → counts_passed raw ≡ [] → sizes_broken raw.dbd.types ≡ [] → sequence_broken raw.dbd.types ≡ [] → root_key_broken (slice_get raw.dbd.types 0) ≡ [] → letters_unknown raw.dbd.types ≡ [] → indexes_broken (types_of raw.dbd.types) raw.dbd.indexes ≡ [] → highs_broken (types_of raw.dbd.types) raw.parts.parts ≡ [] → factors_broken raw.dbd raw.parts.parts ≡ [] → IsFaultAt 12 (numbers_broken raw.parts) f → IsFault (first_fault raw) f
unfolding broken
fault_numbers raw f e1 e2 e3 e4 e5 e6 e7 e8 e9 e10 e11 h = past 1 (unknown_parents raw.dbd.types) (drop 1 (broken raw)) f e1 (past 2 (misplaced_roots raw.dbd.types) (drop 2 (broken raw)) f e2 (past 3 (names_repeated raw) (drop 3 (broken raw)) f e3 (past 4 (counts_passed raw) (drop 4 (broken raw)) f e4 (past 5 (sizes_broken raw.dbd.types) (drop 5 (broken raw)) f e5 (past 6 (sequence_broken raw.dbd.types) (drop 6 (broken raw)) f e6 (past 7 (root_key_broken (slice_get raw.dbd.types 0)) (drop 7 (broken raw)) f e7 (past 8 (letters_unknown raw.dbd.types) (drop 8 (broken raw)) f e8 (past 9 (indexes_broken (types_of raw.dbd.types) raw.dbd.indexes) (drop 9 (broken raw)) f e9 (past 10 (highs_broken (types_of raw.dbd.types) raw.parts.parts) (drop 10 (broken raw)) f e10 (past 11 (factors_broken raw.dbd raw.parts.parts) (drop 11 (broken raw)) f e11 (here 12 (numbers_broken raw.parts) (drop 12 (broken raw)) f h)))))))))))

pub no_fault : (raw : RawSchema) → KeepsStatements raw → KeepsRest raw → first_fault raw ≡ None
unfolding broken
no_fault raw s r =
    skip 1 (unknown_parents raw.dbd.types) (drop 1 (broken raw)) s.parents
    ∙ skip 2 (misplaced_roots raw.dbd.types) (drop 2 (broken raw)) s.roots
    ∙ skip 3 (names_repeated raw) (drop 3 (broken raw)) s.names
    ∙ skip 4 (counts_passed raw) (drop 4 (broken raw)) s.counts
    ∙ skip 5 (sizes_broken raw.dbd.types) (drop 5 (broken raw)) s.sizes
    ∙ skip 6 (sequence_broken raw.dbd.types) (drop 6 (broken raw)) s.sequence
    ∙ skip 7 (root_key_broken (slice_get raw.dbd.types 0)) (drop 7 (broken raw)) s.root_key
    ∙ skip 8 (letters_unknown raw.dbd.types) (drop 8 (broken raw)) s.letters
    ∙ skip 9 (indexes_broken (types_of raw.dbd.types) raw.dbd.indexes) (drop 9 (broken raw)) r.indexes
    ∙ skip 10 (highs_broken (types_of raw.dbd.types) raw.parts.parts) (drop 10 (broken raw)) r.highs
    ∙ skip 11 (factors_broken raw.dbd raw.parts.parts) (drop 11 (broken raw)) r.factors
    ∙ skip 12 (numbers_broken raw.parts) (drop 12 (broken raw)) r.numbers
