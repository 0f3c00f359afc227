-- What a cell is sought for.
use Rattle.std.specs.Prelude.{ℕ, Bool, false, Option, Some, None}
use Rattle.std.specs.Option.{is_none}
use Rattle.slab.specs.Slab.{Slab, get}
use Rattle.elem.specs.Elements.{same}
use Rattle.table_base.specs.declared.cell_nodes.CellNode.{CellNode}
use Rattle.table_base.specs.declared.seeking.Sought.{Sought}
use Rattle.table_base.specs.declared.seeking.Sought.TheVariants.{OfColumn, First}
use Rattle.table_base.specs.CellNodes.{links}

-- whether the node is of the column, or the first of its row or its column
abbrev pub passes : Sought → CellNode → Bool
passes (OfColumn c) n = same c n.column
passes (First s) n = is_none (links s n).previous

abbrev pub node_passes : Sought → Option CellNode → Bool
node_passes t None = false
node_passes t (Some n) = passes t n

abbrev pub passes_at : Sought → Slab CellNode → ℕ → Bool
passes_at t nodes p = node_passes t (get nodes p)
