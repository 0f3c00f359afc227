-- What each node keeps: how many edges leave it and enter it.
use Rattle.std.specs.Prelude.{◌≡◌, ◌+◌, ◌≤◌, Bool, cond, false, List, [], ◌∷◌, ◌++◌, length, Option, Some, IsSome}
use Rattle.std.specs.List.{AllByRecursion}
use Rattle.elem.specs.declared.elements.Elem.{Elem}
use Rattle.graph_base.specs.declared.degrees.Degrees.{Degrees}
use Rattle.graph_base.specs.Edges.{Edge}
use Rattle.graph_base.specs.Degrees.{out_of, into}
use Rattle.graph_base.specs.Graphs.{HasNoLoop}

abbrev pub no_degrees : Degrees
no_degrees = record { leaving = 0; entering = 0 }

-- the nodes with one more where it is new
abbrev pub with_new : Bool → Elem → List (Elem × Degrees) → List (Elem × Degrees)
with_new new a nodes = cond new (nodes ++ (a, no_degrees) ∷ []) nodes

-- ends of edges are nodes, and the counts of a node are those of its edges
pub record AreCounted (find : Elem → Option Degrees) (edges : List Edge) : Type 0 where
  pub ends : AllByRecursion (λ (e : Edge). IsSome (find e.0) × IsSome (find e.1)) edges
  pub counted : (x : Elem) (d : Degrees) → find x ≡ Some d → (d.leaving ≡ out_of x edges) × (d.entering ≡ into x edges)

-- loops stand only where they are allowed, and the degrees fit 31 bits
pub record AreGraph (find : Elem → Option Degrees) (nodes : List (Elem × Degrees)) (edges : List Edge) (loops : Bool) : Type 0 where
  pub counts : AreCounted find edges
  pub no_loops : loops ≡ false → HasNoLoop edges
  pub small : length nodes + length edges ≤ 1073741823
