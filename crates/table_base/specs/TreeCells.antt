-- What the fields of a sorted table mean: its cells by row and column, and their spots by column and row.
use Rattle.std.specs.Prelude.{◌≡◌, List}
use Rattle.elem.specs.declared.elements.Elem.{Elem}
use Rattle.plain_base.specs.TwoKeys.{has_both}
use Rattle.table_base.specs.Cells.{Cell}

-- the columns have the spots of the cells, turned round
abbrev pub AreTurned : List Cell → List (Elem × (Elem × Unit {0})) → Type 0
AreTurned cells columns = (r c : Elem) → has_both c r columns ≡ has_both r c cells
