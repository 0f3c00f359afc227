-- Where elements stand in a list of distinct elements.
use Rattle.std.specs.Prelude.{◌≡◌, ℕ, Bool, true, cond, zero, suc, List, [], ◌∷◌, Option, Some, None, slice_get}
use Rattle.elem.specs.declared.elements.Elem.{Elem}
use Rattle.elem.specs.Elements.{same}
use Rattle.graph_walk.specs.Graphs.{is_in}

-- the place of the first element that passes, or the length
abbrev pub first_place : (Elem → Bool) → List Elem → ℕ
first_place test [] = zero
first_place test (x ∷ xs) = cond (test x) zero (suc (first_place test xs))

-- the place of an element, or the length
abbrev pub place : Elem → List Elem → ℕ
place x xs = first_place (same x) xs

-- the element behind an element
abbrev pub after : Elem → List Elem → Option Elem
after x [] = None
after x (y ∷ ys) = cond (same x y) (slice_get ys 0) (after x ys)

-- the list from an element on
abbrev pub from_on : Elem → List Elem → List Elem
from_on x [] = []
from_on x (y ∷ ys) = cond (same x y) (y ∷ ys) (from_on x ys)

-- what is left of it where an element is the next one, or none is
abbrev pub left_at : Option Elem → List Elem → List Elem
left_at None xs = []
left_at (Some x) xs = from_on x xs

-- the next one is in the list
abbrev pub IsAmong : Option Elem → List Elem → Type 0
IsAmong None xs = Unit {0}
IsAmong (Some x) xs = is_in x xs ≡ true

-- the element behind an element, or the first
abbrev pub next_behind : Option Elem → List Elem → Option Elem
next_behind None xs = slice_get xs 0
next_behind (Some x) xs = after x xs
