-- Cycles told by an order of the nodes.
use Rattle.std.specs.Prelude.{◌≡◌, ◌⊎◌, Bool, true, false, List, [], ◌∷◌}
use Rattle.elem.specs.declared.elements.Elem.{Elem}
use Rattle.elem.specs.Elements.{same}
use Rattle.graph_walk.specs.Graphs.{is_in}
use Rattle.graph_walk.specs.Found.{with_new}

module _ (nexts : Elem → List Elem) where
  -- a next node of x that does not stand before it
  pub record IsLate (before : List Elem) (x y : Elem) : Type 0 where
    pub next : is_in y (nexts x) ≡ true
    pub behind : is_in y before ≡ false

  -- what closes a cycle at x: such a node, or without directions x itself or two of them
  abbrev pub Closes : Bool → List Elem → Elem → Type 0
  Closes true before x = (y : Elem) × IsLate before x y
  Closes false before x = (y : Elem) × (z : Elem) × IsLate before x y × IsLate before x z × ((y ≡ x) ⊎ (same y z ≡ false))

  -- a cycle is closed at some node of a list, where others stand before it
  abbrev pub ClosesSome : Bool → List Elem → List Elem → Type 0
  ClosesSome directed before [] = ⊥
  ClosesSome directed before (x ∷ xs) = Closes directed before x ⊎ ClosesSome directed (with_new x before) xs
