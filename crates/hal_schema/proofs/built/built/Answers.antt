use Rattle.std.proofs.Common.{◌≡◌, ◌≤◌, true, length, sym, ap, subst, ◌∙◌, arith}
use Rattle.std.specs.List.{list_all}
use Rattle.std.proofs.lemmas.List.{length-map}
use Rattle.hal_schema.specs.Lawful.{parents_are_before, type_names_differ, index_names_differ, part_names_differ, part_numbers_differ, field_names_differ, counts_are_kept, fields_fit, keys_are_fields, root_key_is_unique, letters_are_known, indexes_are_kept, highs_rise, part_is_kept, factors_fit, number_fits, names_are_kept}
use Rattle.hal_schema.specs.Raw.{types_of, seg_type, part_of, indexes_of, parts_of, rm_of}
use Rattle.hal_schema.proofs.Judged.{no_fault}
use Rattle.hal_schema.proofs.KeptTypes.{kept_parents}
use Rattle.hal_schema.proofs.KeptSchema.{few_types, kept_factors, kept_numbers, kept_counts, kept_fields, kept_letters, kept_indexes, kept_parts, kept_blocks}
use Rattle.hal_schema.proofs.KeptKeys.{kept_keys, kept_root_key, kept_highs}
use Rattle.hal_schema.proofs.KeptNames.{kept_type_names, kept_index_names, kept_part_names, kept_part_numbers}
use Rattle.hal_schema.proofs.KeptFields.{kept_field_names}
use Rattle.hal_schema.proofs.KeptPlain.{kept_names, kept_module}
use Rattle.hal_schema.proofs.built.built.Goals as goal

pub build_types-requires-clause-few : goal.build_types-requires-clause-few
build_types-requires-clause-few c = subst (λ ts. length ts ≤ 255) (sym c.as_slice.ensures) (few_types c.args.raw.now c.in_ok-judge_statements.ensures.kept.counts)

pub judge_rest-requires : goal.judge_rest-requires
judge_rest-requires c =
    let raw = c.args.raw.now in
    let kept = c.in_ok-judge_statements.ensures.kept in
    let same : c.as_slice-2.result.now ≡ types_of raw.dbd.types = c.as_slice-2.ensures ∙ c.in_ok-types.ensures ∙ ap types_of c.as_slice.ensures in
    let n : length (types_of raw.dbd.types) ≡ length raw.dbd.types = length-map raw.dbd.types (seg_type raw.dbd.types) in
    let m : length c.as_slice-2.result.now ≡ length (types_of raw.dbd.types) = ap length same in
    let few = few_types raw kept.counts in
    let some = c.requires.some in
    record {
      same = same;
      some = omega (arith, n, m, some);
      few = omega (arith, n, m, few);
      parents = subst (λ ts. parents_are_before ts ≡ true) (sym same) (kept_parents raw.dbd.types kept.parents kept.roots);
      kept = kept;
    }

pub build_indexes-requires : goal.build_indexes-requires
build_indexes-requires c =
    let raw = c.args.raw.now in
    let same : c.as_slice-3.result.now ≡ types_of raw.dbd.types = c.as_slice-3.ensures ∙ c.in_ok-types.ensures ∙ ap types_of c.as_slice.ensures in
    let n : length (types_of raw.dbd.types) ≡ length raw.dbd.types = length-map raw.dbd.types (seg_type raw.dbd.types) in
    let m : length c.as_slice-3.result.now ≡ length (types_of raw.dbd.types) = ap length same in
    let few = few_types raw c.in_ok-judge_statements.ensures.kept.counts in
    omega (arith, n, m, few)

pub build_parts-requires-clause-fit : goal.build_parts-requires-clause-fit
build_parts-requires-clause-fit c =
    let raw = c.args.raw.now in
    subst (λ ps. list_all (λ p. factors_fit raw.dbd.phdam (part_of raw.dbd p)) ps ≡ true) (sym c.as_slice-5.ensures) (kept_factors raw.dbd raw.parts.parts c.in_ok-judge_rest.ensures.kept.factors)

pub build_parts-requires-clause-numbers : goal.build_parts-requires-clause-numbers
build_parts-requires-clause-numbers c =
    let raw = c.args.raw.now in
    subst (λ ps. list_all (λ p. number_fits p.number) ps ≡ true) (sym c.as_slice-5.ensures) (kept_numbers raw.parts c.in_ok-judge_rest.ensures.kept.numbers)

pub invariant_of-result : goal.invariant_of-result
invariant_of-result c =
    let raw = c.args.raw.now in
    let kept = c.in_ok-judge_statements.ensures.kept in
    let rest = c.in_ok-judge_rest.ensures.kept in
    let T : c.in_ok-types.types ≡ types_of raw.dbd.types = c.in_ok-types.ensures ∙ ap types_of c.as_slice.ensures in
    let I : c.in_ok-indexes.indexes ≡ indexes_of (types_of raw.dbd.types) raw.dbd.indexes =
    c.in_ok-indexes.ensures ∙ ap (λ ts. indexes_of ts c.as_slice-4.result.now) (c.as_slice-3.ensures ∙ T) ∙ ap (indexes_of (types_of raw.dbd.types)) c.as_slice-4.ensures in
    let P : c.in_ok-parts.parts ≡ parts_of raw.dbd raw.parts.parts = c.in_ok-parts.ensures.same ∙ ap (parts_of raw.dbd) c.as_slice-5.ensures in
    record {
      parents = subst (λ ts. parents_are_before ts ≡ true) (sym T) (kept_parents raw.dbd.types kept.parents kept.roots);
      type_names = subst (λ ts. type_names_differ ts ≡ true) (sym T) (kept_type_names raw kept.names);
      index_names = subst (λ is. index_names_differ is ≡ true) (sym I) (kept_index_names raw (types_of raw.dbd.types) kept.names);
      part_names = subst (λ ps. part_names_differ ps ≡ true) (sym P) (kept_part_names raw kept.names);
      part_numbers = subst (λ ps. part_numbers_differ ps ≡ true) (sym P) (kept_part_numbers raw kept.names);
      field_names = subst (λ ts. field_names_differ ts c.in_ok-indexes.indexes ≡ true) (sym T)
          (subst (λ is. field_names_differ (types_of raw.dbd.types) is ≡ true) (sym I) (kept_field_names raw kept.names));
      counts = subst (λ ts. counts_are_kept ts c.in_ok-indexes.indexes c.in_ok-parts.parts ≡ true) (sym T)
          (subst (λ is. counts_are_kept (types_of raw.dbd.types) is c.in_ok-parts.parts ≡ true) (sym I)
          (subst (λ ps. counts_are_kept (types_of raw.dbd.types) (indexes_of (types_of raw.dbd.types) raw.dbd.indexes) ps ≡ true) (sym P) (kept_counts raw kept.counts c.requires.some)));
      fields = subst (λ ts. fields_fit ts ≡ true) (sym T) (kept_fields raw.dbd.types kept.sizes);
      keys = subst (λ ts. keys_are_fields ts ≡ true) (sym T) (kept_keys raw.dbd.types kept.sequence);
      root_key = subst (λ ts. root_key_is_unique ts ≡ true) (sym T) (kept_root_key raw.dbd.types c.requires.some kept.root_key);
      letters = subst (λ ts. letters_are_known ts ≡ true) (sym T) (kept_letters raw.dbd.types kept.letters);
      kept_indexes = subst (λ ts. indexes_are_kept ts c.in_ok-indexes.indexes ≡ true) (sym T)
          (subst (λ is. indexes_are_kept (types_of raw.dbd.types) is ≡ true) (sym I) (kept_indexes (types_of raw.dbd.types) raw.dbd.indexes rest.indexes));
      highs = subst (λ ts. highs_rise ts c.in_ok-parts.parts ≡ true) (sym T)
          (subst (λ ps. highs_rise (types_of raw.dbd.types) ps ≡ true) (sym P) (kept_highs raw.dbd (types_of raw.dbd.types) raw.parts.parts rest.highs));
      kept_parts = subst (λ ps. list_all (part_is_kept raw.dbd.phdam) ps ≡ true) (sym P) (kept_parts raw.dbd raw.parts rest.factors rest.numbers);
      kept_blocks = kept_blocks raw.parts rest.numbers;
      names = rw c.rm_of.ensures (subst (λ ts. names_are_kept raw.dbd.name (rm_of raw.dbd) ts c.in_ok-indexes.indexes c.in_ok-parts.parts ≡ true) (sym T)
          (subst (λ is. names_are_kept raw.dbd.name (rm_of raw.dbd) (types_of raw.dbd.types) is c.in_ok-parts.parts ≡ true) (sym I)
          (subst (λ ps. names_are_kept raw.dbd.name (rm_of raw.dbd) (types_of raw.dbd.types) (indexes_of (types_of raw.dbd.types) raw.dbd.indexes) ps ≡ true) (sym P) (kept_names raw c.requires.named c.requires.parts_named))));
      module_kept = rw (c.rm_of.ensures, c.anch_of.ensures, c.rbn_of.ensures) (kept_module raw.dbd);
      stored_parts = c.in_ok-parts.ensures.stored;
    }

pub returns-clause-kept : goal.returns-clause-kept
returns-clause-kept c = no_fault c.args.raw.now c.in_ok-judge_statements.ensures.kept c.in_ok-judge_rest.ensures.kept
