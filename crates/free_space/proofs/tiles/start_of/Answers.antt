use Rattle.std.proofs.Common.{◌≡◌, ◌<◌, ◌≤◌, length, Some, refl, sym, ◌∙◌}
use Rattle.std.specs.Prelude.{slice_get}
use Rattle.std.proofs.lemmas.Bool.{ltb-true, ltb-false}
use Rattle.std.proofs.lemmas.Option.{slice_get_read}
use Rattle.free_space.proofs.Runs.{start_is, end_is}
use Rattle.free_space.proofs.tiles.start_of.Goals as goal

pub returns-in-Some : goal.returns-in-Some
returns-in-Some c =
    let looked = c.in-Some.ensures.lookup in
    let within : c.args.place < length c.args.tiles.now = ltb-true c.args.place (length c.args.tiles.now) (sym looked.0) in
    let found : slice_get c.args.tiles.now c.args.place ≡ Some c.in-Some.tile.now = slice_get_read c.args.tiles.now (length c.args.tiles.now) c.args.place c.in-Some.tile.now refl within looked.1 in
    λ shapes block t long. c.offset_of.ensures ∙ start_is shapes block c.args.tiles.now c.args.place c.in-Some.tile.now found t

pub returns-in-None : goal.returns-in-None
returns-in-None c =
    let looked = c.in-None.ensures.lookup in
    let past : length c.args.tiles.now ≤ c.args.place = ltb-false c.args.place (length c.args.tiles.now) (sym looked.0) in
    λ shapes block t long. end_is shapes block c.args.tiles.now c.args.place past t long
