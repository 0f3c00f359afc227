-- What the fields of edge rows mean.
use Rattle.std.specs.Prelude.{◌≡◌, ◌≤◌, ℕ, Bool, cond, List, [], ◌∷◌, map, length, Option, None}
use Rattle.std.specs.List.{filter, flat_map, AllByRecursion}
use Rattle.std.proofs.lemmas.Map.{NonePasses}
use Rattle.elem.specs.declared.elements.Elem.{Elem}
use Rattle.elem.specs.Elements.{same}
use Rattle.elem.specs.Rows.{first_key}
use Rattle.mm_base.specs.PairRows.{Row}
use Rattle.graph_base.specs.declared.edge_row.EdgeRow.{EdgeRow}
use Rattle.graph_base.specs.Edges.{Edge, joins}
use Rattle.graph_base.specs.Ends.{Ends, ends}
use Rattle.graph_base.specs.Numbers.{number}

-- edges, and whether they have directions
pub record EdgeList : Type 0 where
  pub edges : List Edge
  pub directed : Bool

-- a number, and its edge
abbrev pub Numbered : Type 0
Numbered = Elem × EdgeRow

abbrev pub edge_of : Numbered → Edge
edge_of row = (row.1.from, row.1.to, row.1.value)

abbrev pub edges_of : List Numbered → List Edge
edges_of rows = map edge_of rows

-- an edge's number at each of its ends, once at that of a loop
abbrev pub halves_between : Elem → Elem → Elem → ℕ → ℕ → List Row
halves_between n a b p q = (p, (a, n)) ∷ cond (same a b) [] ((q, (b, n)) ∷ [])

abbrev pub halves_of : Numbered → List Row
halves_of row = halves_between row.0 row.1.from row.1.to row.1.first row.1.second

-- the rows of the edges between two nodes
abbrev pub rows_joining : Bool → Elem → Elem → List Numbered → List Numbered
rows_joining directed a b rows = filter (λ row. joins directed a b (edge_of row)) rows

-- The halves are those of the rows, ends find the number of their edge, no two edges join the same nodes, and the number
-- of a row is that of its place, which is taken.
pub record AreEdges (directed : Bool) (rows : List Numbered) (halves : List Row) (find : Ends → Option Elem) (place : ℕ → Option (Unit {0})) : Type 0 where
  pub halves_equal : halves ≡ flat_map halves_of rows
  pub found : (a b : Elem) → find (ends directed a b) ≡ first_key (rows_joining directed a b rows)
  pub apart : (a b : Elem) → length (rows_joining directed a b rows) ≤ 1
  pub numbered : AllByRecursion (λ (row : Numbered). row.0 ≡ number row.1.place) rows
  pub free : (p : ℕ) → place p ≡ None → NonePasses (same (number p)) rows
