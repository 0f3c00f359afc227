-- What the fields of named edges mean.
use Rattle.std.specs.Prelude.{◌≡◌, ◌<◌, ℕ, List, [], ◌∷◌, map, Option, Some}
use Rattle.std.specs.List.{flat_map, AllByRecursion}
use Rattle.elem.specs.declared.elements.Elem.{Elem}
use Rattle.mm_base.specs.PairRows.{Row}
use Rattle.graph_base.specs.Edges.{Edge}
use Rattle.graph_base.specs.EdgeRows.{halves_between}
use Rattle.network_base.specs.declared.named_edges.Joined.{Joined}

-- an edge, and what it joins
abbrev pub Named : Type 0
Named = Elem × Joined

abbrev pub edge_of : Named → Edge
edge_of row = (row.1.from, row.1.to, row.0)

abbrev pub edges_of : List Named → List Edge
edges_of rows = map edge_of rows

abbrev pub halves_of : Named → List Row
halves_of row = halves_between row.0 row.1.from row.1.to row.1.first row.1.second

-- each number is above those before it
abbrev pub IsRising : List Named → Type 0
IsRising [] = Unit {0}
IsRising (row ∷ rows) = AllByRecursion (λ (later : Named). row.1.number < later.1.number) rows × IsRising rows

-- the numbers rise, and stay below one
pub record IsRisingBelow (n : ℕ) (rows : List Named) : Type 0 where
  pub below : AllByRecursion (λ (row : Named). row.1.number < n) rows
  pub rising : IsRising rows

-- the halves are those of the rows, and numbers rise as long as there is a next one
pub record AreNamed (rows : List Named) (halves : List Row) (next : Option ℕ) : Type 0 where
  pub halves_equal : halves ≡ flat_map halves_of rows
  pub rising : (n : ℕ) → next ≡ Some n → IsRisingBelow n rows
