use Rattle.std.proofs.Common.{◌≡◌, true, reverse}
use Rattle.volume_image.specs.Header.{kind_in}
use Rattle.data_set_pairs.specs.Shelf.{kind_fits}
use Rattle.data_set_pairs.proofs.Coverage.{its_page, page_has, quiet_pages}
use Rattle.data_set_pairs.proofs.Heads.{place_page}
use Rattle.data_set_pairs.proofs.Standing.{if_told, quiet_known, numbered_known, counted_known}
use Rattle.data_set_pairs.proofs.volume.Volume.is_its_blocks.Goals as goal

pub returns-clause-rows : goal.returns-clause-rows
returns-clause-rows g c = let v = c.args.self.now in if_told (g.B.Blocks.seen v.blocks).list (λ list is. (v.laid list is).rows)

pub returns-clause-rest : goal.returns-clause-rest
returns-clause-rest g c = let v = c.args.self.now in if_told (g.B.Blocks.seen v.blocks).list (λ list is. (v.laid list is).rest)

pub returns-clause-pages : goal.returns-clause-pages
returns-clause-pages g c = let v = c.args.self.now in if_told (g.B.Blocks.seen v.blocks).list (λ list is set n block at. place_page v.indexes v.states.items v.control v.table.pages.items (reverse v.table.free.items) list set n block (v.laid list is).table v.in_table.run at)

pub returns-clause-each : goal.returns-clause-each
returns-clause-each g c = let v = c.args.self.now in if_told (g.B.Blocks.seen v.blocks).list (λ list is block low high held. its_page v.indexes v.control (g.B.Blocks.seen v.blocks).number v.states.items v.table.pages.items (reverse v.table.free.items) list block v.in_table (v.laid list is) low high held)

pub returns-clause-kinds : goal.returns-clause-kinds
returns-clause-kinds g c = let v = c.args.self.now in if_told (g.B.Blocks.seen v.blocks).list (λ list is fit block low high held. page_has (λ set page. kind_fits set (kind_in page) ≡ true) v.indexes v.control (g.B.Blocks.seen v.blocks).number v.states.items v.table.pages.items (reverse v.table.free.items) list block v.in_table (v.laid list is) fit low high held)

pub returns-clause-known : goal.returns-clause-known
returns-clause-known g c = let v = c.args.self.now in if_told (g.B.Blocks.seen v.blocks).list (λ list is quiet. quiet_known v.indexes v.control (g.B.Blocks.seen v.blocks).number v.states.items v.table.pages.items (reverse v.table.free.items) list (v.laid list is) (quiet_pages v.indexes v.control (g.B.Blocks.seen v.blocks).number v.states.items v.table.pages.items (reverse v.table.free.items) list v.in_table (v.laid list is) quiet))

pub returns-clause-numbered : goal.returns-clause-numbered
returns-clause-numbered g c = let v = c.args.self.now in if_told (g.B.Blocks.seen v.blocks).list (λ list is known. numbered_known v.indexes v.control (g.B.Blocks.seen v.blocks).number v.states.items v.table.pages.items (reverse v.table.free.items) list v.in_table (v.laid list is) known)

pub returns-clause-counted : goal.returns-clause-counted
returns-clause-counted g c = let v = c.args.self.now in if_told (g.B.Blocks.seen v.blocks).list (λ list is known set. counted_known v.indexes v.control (g.B.Blocks.seen v.blocks).number v.states.items v.table.pages.items (reverse v.table.free.items) list set (v.laid list is) known)
