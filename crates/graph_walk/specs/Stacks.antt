-- The nodes that a visit has entered and not left yet, from the last one on, and what it still has to do.
use Rattle.std.specs.Prelude.{◌≡◌, ℕ, ◌+◌, true, cond, List, [], ◌∷◌, ◌++◌, length, slice_get, reverse}
use Rattle.std.specs.List.{AllByRecursion}
use Rattle.elem.specs.declared.elements.Elem.{Elem}
use Rattle.graph_walk.specs.declared.depth_stack.Frame.{Frame}
use Rattle.graph_walk.specs.declared.depth_stack.DepthWalk.{DepthWalk}
use Rattle.graph_walk.specs.Graphs.{is_in}
use Rattle.graph_walk.specs.Places.{left_at, IsAmong}
use Rattle.graph_walk.specs.DepthFirst.{Visits}

-- the stack from its top on
abbrev pub frames : DepthWalk → List Frame
frames walk = reverse walk.stack.items

module _ (nexts : Elem → List Elem) where
  -- a node that was just entered
  abbrev pub begun : Elem → Frame
  begun x = record { node = x; next = slice_get (nexts x) 0 }

  -- the next nodes of a node that are still to be visited
  abbrev pub to_visit : Frame → List Elem
  to_visit f = left_at f.next (nexts f.node)

  -- what is left to visit of the last node is visited, it is left, and so on to the first
  abbrev pub Finishes : List Frame → List Elem → List Elem → List Elem → List Elem → Type 0
  Finishes [] entered left entered' left' = (entered ≡ entered') × (left ≡ left')
  Finishes (f ∷ fs) entered left entered'' left'' = (entered' : List Elem) × (left' : List Elem) × Visits nexts (to_visit f) entered left entered' left' × Finishes fs entered' (left' ++ f.node ∷ []) entered'' left''

  -- each is a node, and its next is one of its next nodes
  abbrev pub AreFrames : List Elem → List Frame → Type 0
  AreFrames nodes fs = AllByRecursion (λ (f : Frame). (is_in f.node nodes ≡ true) × IsAmong f.next (nexts f.node)) fs

  -- how many next nodes are still to be visited
  abbrev pub pending : List Frame → ℕ
  pending [] = 0
  pending (f ∷ fs) = length (to_visit f) + pending fs

  -- the work at nodes that were not entered: one for each, and for each of its next nodes
  abbrev pub unentered : List Elem → List Elem → ℕ
  unentered [] entered = 0
  unentered (x ∷ xs) entered = cond (is_in x entered) 0 (1 + length (nexts x)) + unentered xs entered

  -- the work that is left, of which each step does some
  abbrev pub work : List Elem → DepthWalk → ℕ
  work nodes walk = unentered nodes walk.entered + pending (frames walk) + length (frames walk)
