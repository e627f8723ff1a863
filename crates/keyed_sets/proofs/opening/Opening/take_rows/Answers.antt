use Rattle.std.proofs.Common.{◌≡◌, ◌++◌, ◌∷◌, ◌+◌, ◌-◌, [], ℕ, List, length, drop, sym, ap, subst, ◌∙◌, arith}
use Rattle.std.proofs.lemmas.Result.{on_ok_weaker}
use Rattle.keyed_sets.specs.Layout.{Row, rows_in, rows_from}
use Rattle.keyed_sets.specs.Standing.{StartsWith}
use Rattle.keyed_sets.specs.Taken.{EndsWith, AreTaken}
use Rattle.keyed_sets.proofs.Rows.{length-rows_in}
use Rattle.keyed_sets.proofs.Members.{rise_all}
use Rattle.keyed_sets.proofs.Tables.{starts_from, ends_from}
use Rattle.keyed_sets.proofs.Edited.{done_of}
use Rattle.keyed_sets.proofs.Openings.{taken_none}
use Rattle.keyed_sets.proofs.opening.Opening.take_rows.Goals as goal

pub returns-then-count-eq0-clause-taken : goal.returns-then-count-eq0-clause-taken
returns-then-count-eq0-clause-taken c = λ table taken counted.
    let self = c.args.self.now in
    let nothing : rows_in c.args.shape c.args.page.now ≡ [] = ap (λ (k : ℕ). rows_from c.args.shape k (drop 16 c.args.page.now)) (sym c.count_in-count.ensures ∙ c.if-count-eq0.true) in
    let pushed : c.push.new.self.items ≡ self.empty.items ++ c.args.n ∷ [] = done_of c.push.result c.push.new.self.items (self.empty.items ++ c.args.n ∷ []) self.empty.items (sym c.is_err.ensures.value ∙ c.if-is_err.false) c.push.ensures.items in
    subst (λ (rows : List Row). AreTaken (table ++ rows ∷ []) self.firsts.items self.lasts.items c.push.new.self.items) (sym nothing)
    (subst (λ (l : List ℕ). AreTaken (table ++ [] ∷ []) self.firsts.items self.lasts.items l) (sym pushed) (taken_none table self.firsts.items self.lasts.items self.empty.items c.args.n taken counted))

pub returns-clause-taken : goal.returns-clause-taken
returns-clause-taken c =
    let rows : List Row = rows_in c.args.shape c.args.page.now in
    let long : (c.count_in-count.result - 1) + 1 ≡ length rows = omega (arith, length-rows_in c.args.shape c.args.page.now, c.count_in-count.ensures, c.if-count-eq0.false) in
    let starts : StartsWith c.key_at-first.result.now rows = starts_from rows c.key_at-first.result.now c.key_at-first.ensures.key in
    let ends : EndsWith c.key_at-last.result.now rows = ends_from rows (c.count_in-count.result - 1) c.key_at-last.result.now long c.key_at-last.ensures.key in
    on_ok_weaker c.take_range.result (λ taken table so counted. taken table rows so counted (rise_all rows c.requires.rising) starts ends) c.take_range.ensures.taken

pub returns-clause-overlap : goal.returns-clause-overlap
returns-clause-overlap c = λ bad offset is.
    let rows : List Row = rows_in c.args.shape c.args.page.now in
    let long : (c.count_in-count.result - 1) + 1 ≡ length rows = omega (arith, length-rows_in c.args.shape c.args.page.now, c.count_in-count.ensures, c.if-count-eq0.false) in
    let starts : StartsWith c.key_at-first.result.now rows = starts_from rows c.key_at-first.result.now c.key_at-first.ensures.key in
    let ends : EndsWith c.key_at-last.result.now rows = ends_from rows (c.count_in-count.result - 1) c.key_at-last.result.now long c.key_at-last.ensures.key in
    let found = c.take_range.ensures.overlap bad offset is in
    (found.0, found.1, λ table taken counted. found.2 table rows taken counted (rise_all rows c.requires.rising) starts ends)
