-- The nodes depth first, by the recursion that visits them.
use Rattle.std.specs.Prelude.{◌≡◌, true, false, List, [], ◌∷◌, ◌++◌}
use Rattle.elem.specs.declared.elements.Elem.{Elem}
use Rattle.graph_walk.specs.Graphs.{is_in}

-- Some nodes are visited in turn, where the nodes `entered` were entered and those in `left` were left again, each in order;
-- the last two lists are these lists thereafter. A node that was entered is passed by. Another is entered, its next nodes
-- are visited, and it is left.
pub data Visits (nexts : Elem → List Elem) : List Elem → List Elem → List Elem → List Elem → List Elem → Type 0 where
  ended : {entered left : List Elem} → Visits nexts [] entered left entered left
  passed : {x : Elem} {xs entered left entered' left' : List Elem} → is_in x entered ≡ true → Visits nexts xs entered left entered' left' → Visits nexts (x ∷ xs) entered left entered' left'
  visited : {x : Elem} {xs entered left entered' left' entered'' left'' : List Elem} → is_in x entered ≡ false → Visits nexts (nexts x) (entered ++ x ∷ []) left entered' left' → Visits nexts xs entered' (left' ++ x ∷ []) entered'' left'' → Visits nexts (x ∷ xs) entered left entered'' left''

module _ (nexts : Elem → List Elem) (a : Elem) where
  -- the nodes in the order in which a visit of a enters them
  abbrev pub IsPreOrder : List Elem → Type 0
  IsPreOrder found = (left : List Elem) × Visits nexts (a ∷ []) [] [] found left

  -- the nodes in the order in which it leaves them
  abbrev pub IsPostOrder : List Elem → Type 0
  IsPostOrder found = (entered : List Elem) × Visits nexts (a ∷ []) [] [] entered found
