-- The nodes that are found where the next nodes of the first n of them have been found.
use Rattle.std.proofs.Common.{◌≡◌, ℕ, ◌<◌, ◌≤◌, true, List, length, get_or}
use Rattle.std.specs.List.{IsDistinct}
use Rattle.elem.specs.declared.elements.Elem.{Elem}
use Rattle.elem.specs.Elements.{same}
use Rattle.graph_walk.specs.Graphs.{is_in}
use Rattle.graph_walk.specs.Places.{first_place, place}
use Rattle.graph_walk.specs.Paths.{IsReached}

-- the place of the first element that has x as a next node
abbrev pub finder : (Elem → List Elem) → Elem → List Elem → ℕ
finder nexts x xs = first_place (λ p. is_in x (nexts p)) xs

-- The list begins at a, all in it is reached, and it has the next nodes of its first n. Each but a was found by one of
-- these, and what was found earlier, or by one node earlier, stands earlier.
pub record IsGrown (nexts : Elem → List Elem) (a : Elem) (n : ℕ) (xs : List Elem) : Type 0 where
  pub begun : is_in a xs ≡ true
  pub at_front : place a xs ≡ 0
  pub bound : n ≤ length xs
  pub distinct : IsDistinct same xs
  pub reached : (x : Elem) → is_in x xs ≡ true → IsReached nexts a x
  pub closed : (i : ℕ) (x : Elem) → i < n → is_in x (nexts (get_or xs i a)) ≡ true → is_in x xs ≡ true
  pub found : (x : Elem) → is_in x xs ≡ true → 0 < place x xs → finder nexts x xs < n
  pub ordered : (x y : Elem) → is_in x xs ≡ true → is_in y xs ≡ true → 0 < place x xs → place x xs < place y xs → finder nexts x xs ≤ finder nexts y xs
  pub beside : (x y p : Elem) → is_in x xs ≡ true → is_in y xs ≡ true → is_in p xs ≡ true → 0 < place x xs → place x xs < place y xs → finder nexts x xs ≡ place p xs → finder nexts y xs ≡ place p xs → place x (nexts p) < place y (nexts p)
