use Rattle.std.proofs.Common.{◌∙◌, sym, ap}
use Rattle.linked_base.specs.declared.links.Links.{Links}
use Rattle.table_base.specs.Cells.{Table}
use Rattle.table_base.specs.CellNodes.{other_of}
use Rattle.table_base.proofs.HeldCells.{held, found_held, node_held, before_in_held}
use Rattle.table_base.proofs.linked_cells.LinkedCells.before_in.Goals as goal

pub unwrap-place-requires : goal.unwrap-place-requires
unwrap-place-requires c = found_held (held c.self.invariant.indexed (ap (λ (t : Table). t.cells) c.self.view_is)) c.args.side c.args.k.now c.args.x.now c.place_at.result c.place_at.ensures c.requires

pub index-requires : goal.index-requires
index-requires c = node_held (held c.self.invariant.indexed (ap (λ (t : Table). t.cells) c.self.view_is)) c.args.side c.args.k.now c.args.x.now c.unwrap-place.result (sym c.place_at.ensures ∙ c.unwrap-place.ensures)

pub returns : goal.returns
returns c =
    c.other_of.ensures ∙ ap (λ (l : Links). other_of c.args.side c.self.inside.nodes l.previous) c.links_of.ensures
    ∙ before_in_held (held c.self.invariant.indexed (ap (λ (t : Table). t.cells) c.self.view_is)) c.args.side c.args.k.now c.args.x.now c.unwrap-place.result (sym c.place_at.ensures ∙ c.unwrap-place.ensures) c.index.result.now c.index.ensures
