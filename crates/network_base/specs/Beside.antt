-- The edges beside an edge, and walks through the edges at its ends.
use Rattle.std.specs.Prelude.{◌≡◌, ◌<◌, ◌≤◌, ◌+◌, ◌&&◌, ℕ, Bool, not, List, ◌++◌, drop, Option, Some, None, slice_get}
use Rattle.std.specs.List.{AllByRecursion}
use Rattle.elem.specs.declared.elements.Elem.{Elem}
use Rattle.elem.specs.Elements.{same}
use Rattle.graph_base.specs.Edges.{Edge, incident}
use Rattle.network_base.specs.Networks.{ends_of}
use Rattle.network_base.specs.Shown.{shares_end}

-- The earlier of two edges, where there are any.
abbrev pub IsEarlier : List Edge → Option Edge → Option Edge → Option Edge → Type 0
IsEarlier edges None second found = found ≡ second
IsEarlier edges (Some e) None found = found ≡ Some e
IsEarlier edges (Some e) (Some f) found = (i j : ℕ) → slice_get edges i ≡ Some e → slice_get edges j ≡ Some f → (i < j → found ≡ Some e) × (j ≤ i → found ≡ Some f)

-- whether an edge is another than x that shares an end with it
abbrev pub is_beside : List Edge → Elem → Edge → Bool
is_beside edges x e = shares_end (ends_of x edges) e && not (same x e.2)

-- a walk through the edges at a node stands at the first that has number k or a later one
abbrev pub IsNextAt : List Edge → ℕ → Elem → Option Edge → Type 0
IsNextAt edges k end at = at ≡ slice_get (incident end (drop k edges)) 0

-- an edge has a number up to k
abbrev pub IsUpTo : List Edge → ℕ → Edge → Type 0
IsUpTo edges k e = (j : ℕ) × (slice_get edges j ≡ Some e) × (j ≤ k)

-- a walk through the edges at a node stands at the first behind number k, or at one before it
pub record IsNearing (edges : List Edge) (k : ℕ) (end : Elem) (at : Option Edge) : Type 0 where
  pub gone : List Edge
  pub between : List Edge
  pub cut : incident end edges ≡ gone ++ (between ++ incident end (drop (k + 1) edges))
  pub early : AllByRecursion (IsUpTo edges k) between
  pub here : at ≡ slice_get (between ++ incident end (drop (k + 1) edges)) 0
