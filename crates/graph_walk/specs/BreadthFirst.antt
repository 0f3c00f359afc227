-- The nodes breadth first.
use Rattle.std.specs.Prelude.{◌≡◌, ℕ, ◌<◌, ◌≤◌, suc, true, List}
use Rattle.elem.specs.declared.elements.Elem.{Elem}
use Rattle.graph_walk.specs.Graphs.{is_in}
use Rattle.graph_walk.specs.Places.{place}
use Rattle.graph_walk.specs.Paths.{AreReached, IsDistance}

module _ (nexts : Elem → List Elem) (a : Elem) (found : List Elem) where
  -- p is the parent of x: the first in the list among the nodes one step nearer that have x as a next node
  pub record IsParent (p x : Elem) : Type 0 where
    pub distance : ℕ
    pub nearer : IsDistance nexts a p distance
    pub farther : IsDistance nexts a x (suc distance)
    pub next : is_in x (nexts p) ≡ true
    pub first : (q : Elem) → IsDistance nexts a q distance → is_in x (nexts q) ≡ true → place p found ≤ place q found

  -- The list has exactly the nodes to which a path from a leads, each once. The nearer of two nodes stands first, of two
  -- nodes as far the one whose parent stands first, and of two nodes of one parent the one that is its next node first.
  pub record IsBreadthFirst : Type 0 where
    pub reached : AreReached nexts a found
    pub nearer : (x y : Elem) (k l : ℕ) → IsDistance nexts a x k → IsDistance nexts a y l → k < l → place x found < place y found
    pub parents : (x y p q : Elem) → IsParent p x → IsParent q y → place p found < place q found → place x found < place y found
    pub siblings : (x y p : Elem) → IsParent p x → IsParent p y → place x (nexts p) < place y (nexts p) → place x found < place y found
