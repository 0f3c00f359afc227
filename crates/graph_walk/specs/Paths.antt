-- Paths, each as the list of its nodes behind the first.
use Rattle.std.specs.Prelude.{◌≡◌, ◌↔◌, ℕ, ◌+◌, ◌≤◌, true, List, [], ◌∷◌, length}
use Rattle.std.specs.List.{sum_by, IsDistinct}
use Rattle.elem.specs.declared.elements.Elem.{Elem}
use Rattle.elem.specs.Elements.{same}
use Rattle.graph_walk.specs.Graphs.{is_in}

module _ (nexts : Elem → List Elem) where
  -- The path leads from a to b: each of its nodes is among the next nodes of the one before.
  abbrev pub Leads : Elem → List Elem → Elem → Type 0
  Leads a [] b = a ≡ b
  Leads a (c ∷ path) b = (is_in c (nexts a) ≡ true) × Leads c path b

  -- some path leads from a to b
  abbrev pub IsReached : Elem → Elem → Type 0
  IsReached a b = (path : List Elem) × Leads a path b

  -- the list has exactly the nodes to which a path from a leads, each once
  pub record AreReached (a : Elem) (found : List Elem) : Type 0 where
    pub exact : (x : Elem) → (is_in x found ≡ true) ↔ IsReached a x
    pub distinct : IsDistinct same found

  -- a shortest path from a to b has k edges
  pub record IsDistance (a b : Elem) (k : ℕ) : Type 0 where
    pub path : List Elem
    pub leads : Leads a path b
    pub edges : length path ≡ k
    pub shortest : (other : List Elem) → Leads a other b → k ≤ length other

  -- the calls that tell the next nodes of some nodes: one for each next node, and one that tells that there is no more
  abbrev pub calls : List Elem → ℕ
  calls xs = sum_by (λ x. 1 + length (nexts x)) xs
