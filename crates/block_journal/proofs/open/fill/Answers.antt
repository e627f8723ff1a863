use Rattle.std.proofs.Common.{◌≡◌, ◌∙◌, ◌-◌, [], ◌∷◌, length, ap, arith, rules, option_map}
use Rattle.hal_base.specs.Disk.{written}
use Rattle.block_journal.proofs.Calls.{if_ok, exact_stays}
use Rattle.block_journal.proofs.Made.{made_waits, made_later, became_later}
use Rattle.block_journal.proofs.OpeningSteps.{redo_start, fill_stops, fill_told}
use Rattle.block_journal.proofs.Reading.{ready_filled, short_from}
use Rattle.block_journal.proofs.open.fill.Goals as goal

pub returns-in_err-read_at-clause-stops : goal.returns-in_err-read_at-clause-stops
returns-in_err-read_at-clause-stops g c = made_waits (redo_start c.args.first c.args.count c.requires.exact) c.read_at.ensures.stops

pub returns-then-branch-eq1-clause-stops : goal.returns-then-branch-eq1-clause-stops
returns-then-branch-eq1-clause-stops g c = made_waits (redo_start c.args.first c.args.count c.requires.exact) c.read_at.ensures.stops

pub returns-clause-ready : goal.returns-clause-ready
returns-clause-ready g c =
    let one : length c.read_at.new.buf ≡ 1 = search rules in
    if_ok c.write_synced.result c.write_synced.ensures.image (λ done image. ready_filled c.args.first c.args.count (c.place_of-end.result - 1) (g.T.Site.image c.args.site.now) (g.T.Site.image c.write_synced.new.site) (omega (arith, c.place_of-end.ensures, c.requires.behind)) (image ∙ ap (option_map (written (c.place_of-end.result - 1) (0 ∷ []))) c.read_at.ensures.image)
    (λ y told. short_from (c.place_of-end.result - 1) c.in_ok-read_at.field-0 c.read_at.new.buf (g.T.Site.image c.args.site.now) y told c.in_ok-read_at.ensures.bytes one c.in_ok-read_at.ensures.within c.if-branch-eq1.false))

pub returns-clause-stops : goal.returns-clause-stops
returns-clause-stops g c =
    let one : length c.read_at.new.buf ≡ 1 = search rules in
    made_later (redo_start c.args.first c.args.count c.requires.exact) c.read_at.ensures.image c.read_at.ensures.stops
    (fill_stops c.args.first c.args.count (c.place_of-end.result - 1) 1 (g.T.Site.image c.read_at.new.self) (omega (arith, c.place_of-end.ensures, c.requires.behind))
    (λ y told. short_from (c.place_of-end.result - 1) c.in_ok-read_at.field-0 c.read_at.new.buf (g.T.Site.image c.read_at.new.self) y told (rw c.read_at.ensures.image c.in_ok-read_at.ensures.bytes) one c.in_ok-read_at.ensures.within c.if-branch-eq1.false) (exact_stays c.read_at.ensures.image c.requires.exact c.read_at.ensures.stops) c.write_synced.ensures.stops)

pub returns-clause-told : goal.returns-clause-told
returns-clause-told g c =
    let one : length c.read_at.new.buf ≡ 1 = search rules in
    became_later c.read_at.ensures.image
    (fill_told c.args.first c.args.count (c.place_of-end.result - 1) 1 (g.T.Site.image c.read_at.new.self) (omega (arith, c.place_of-end.ensures, c.requires.behind))
    (λ y told. short_from (c.place_of-end.result - 1) c.in_ok-read_at.field-0 c.read_at.new.buf (g.T.Site.image c.read_at.new.self) y told (rw c.read_at.ensures.image c.in_ok-read_at.ensures.bytes) one c.in_ok-read_at.ensures.within c.if-branch-eq1.false) c.write_synced.ensures.told)
