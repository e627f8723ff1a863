use Rattle.std.proofs.Common.{◌∙◌, ap, ap₂}
use Rattle.std.proofs.lemmas.Result.{IfOk-weaker}
use Rattle.clap.specs.Words.{found_of}
use Rattle.hal_desk.specs.Words.{number_within, of_count, of_part, of_volume}
use Rattle.hal_desk.proofs.Parsed.{alone_given, count_given, no_number_given, no_volume_given, none_of, part_given, some_of}
use Rattle.hal_desk.proofs.words.of_row.Goals as goal

pub returns-in_default : goal.returns-in_default
returns-in_default c = no_volume_given c.args.name.now (found_of c.args.row.now) (none_of c.get_str.result _ c.in_default.is c.get_str.ensures)

pub returns-in-Some-get_str : goal.returns-in-Some-get_str
returns-in-Some-get_str c =
    let v = some_of c.get_str.result c.in-Some.volume _ c.in-Some.is c.get_str.ensures in
    let p = some_of c.get_str-2.result c.in-Some-get_str.part _ c.in-Some-get_str.is c.get_str-2.ensures in
    IfOk-weaker c.of_part.result _ _ (λ r e. e ∙ ap₂ (of_part c.args.name.now) c.as_bytes.ensures.value c.as_bytes-in-Some-get_str.ensures.value
    ∙ part_given c.args.name.now c.in-Some.volume.now c.in-Some-get_str.part.now (found_of c.args.row.now) v p) c.of_part.ensures

pub returns-in_default-get_str-2 : goal.returns-in_default-get_str-2
returns-in_default-get_str-2 c =
    let v = some_of c.get_str.result c.in-Some.volume _ c.in-Some.is c.get_str.ensures in
    let p = none_of c.get_str-2.result _ c.in_default-get_str.is c.get_str-2.ensures in
    let n = none_of c.get_str-3.result _ c.in_default-get_str-2.is c.get_str-3.ensures in
    IfOk-weaker c.of_volume.result _ _ (λ r e. e ∙ ap (of_volume c.args.name.now) c.as_bytes-in_default-get_str-2.ensures.value
    ∙ alone_given c.args.name.now c.in-Some.volume.now (found_of c.args.row.now) v p n) c.of_volume.ensures

pub returns-in_default-get_str-3 : goal.returns-in_default-get_str-3
returns-in_default-get_str-3 c =
    let v = some_of c.get_str.result c.in-Some.volume _ c.in-Some.is c.get_str.ensures in
    let p = none_of c.get_str-2.result _ c.in_default-get_str.is c.get_str-2.ensures in
    let n = some_of c.get_str-3.result c.in-Some-get_str-2.count _ c.in-Some-get_str-2.is c.get_str-3.ensures in
    let m = none_of c.get_str-4.result _ c.in_default-get_str-3.is c.get_str-4.ensures in
    no_number_given c.args.name.now c.in-Some.volume.now c.in-Some-get_str-2.count.now (found_of c.args.row.now) v p n m

pub returns : goal.returns
returns c =
    let v = some_of c.get_str.result c.in-Some.volume _ c.in-Some.is c.get_str.ensures in
    let p = none_of c.get_str-2.result _ c.in_default-get_str.is c.get_str-2.ensures in
    let n = some_of c.get_str-3.result c.in-Some-get_str-2.count _ c.in-Some-get_str-2.is c.get_str-3.ensures in
    let m = some_of c.get_str-4.result c.in-Some-get_str-3.number _ c.in-Some-get_str-3.is c.get_str-4.ensures in
    let count = c.number_within-count.ensures ∙ ap (number_within 1 10000) c.as_bytes-2.ensures.value in
    let number = c.number_within-number.ensures ∙ ap (number_within 0 4294967295) c.as_bytes-3.ensures.value in
    IfOk-weaker c.of_count.result _ _ (λ r e. e ∙ ap (λ x. of_count c.args.name.now x c.number_within-count.result c.number_within-number.result) c.as_bytes-4.ensures.value
    ∙ ap₂ (of_count c.args.name.now c.in-Some.volume.now) count number
    ∙ count_given c.args.name.now c.in-Some.volume.now c.in-Some-get_str-2.count.now c.in-Some-get_str-3.number.now (found_of c.args.row.now) v p n m) c.of_count.ensures
