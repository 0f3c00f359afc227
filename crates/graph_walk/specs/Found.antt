-- Lists that grow by what is new.
use Rattle.std.specs.Prelude.{cond, List, [], ◌∷◌, ◌++◌}
use Rattle.elem.specs.declared.elements.Elem.{Elem}
use Rattle.graph_walk.specs.Graphs.{is_in}

-- the list with an element that goes last where it is new
abbrev pub with_new : Elem → List Elem → List Elem
with_new x xs = cond (is_in x xs) xs (xs ++ x ∷ [])

-- the list with each of some elements, one after another
abbrev pub with_all : List Elem → List Elem → List Elem
with_all [] xs = xs
with_all (y ∷ ys) xs = with_all ys (with_new y xs)
