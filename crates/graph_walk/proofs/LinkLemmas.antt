-- The edges of a path whose nodes are distinct.
use Rattle.std.proofs.Common.{◌≡◌, Bool, true, false, ◌||◌, ◌&&◌, List, [], ◌∷◌, refl, ap, sym, ◌∙◌}
use Rattle.std.specs.List.{IsDistinct, AllByRecursion}
use Rattle.elem.specs.declared.elements.Elem.{Elem}
use Rattle.elem.specs.Elements.{same}
use Rattle.elem.specs.ElementLaws.{same_equiv}
use Rattle.graph_walk.specs.Graphs.{Link, is_in, same_link}
use Rattle.graph_walk.specs.Cycles.{links}
use Rattle.graph_walk.proofs.StackedLemmas.{neither, none_in}

each : {X : Type 0} (P Q : X → Type 0) → ((x : X) → P x → Q x) → (xs : List X) → AllByRecursion P xs → AllByRecursion Q xs
each P Q f [] h = tt
each P Q f (x ∷ xs) h = (f x h.0, each P Q f xs h.1)

-- the node is no end of the edge
abbrev pub IsAway : Elem → Link → Type 0
IsAway y f = (same y f.0 ≡ false) × (same y f.1 ≡ false)

and_no : (b : Bool) → (b && false) ≡ false
and_no true = refl
and_no false = refl

and_yes : (b c : Bool) → c ≡ true → (b && c) ≡ false → b ≡ false
and_yes true c e h = sym e ∙ h
and_yes false c e h = refl

and_first : (b c : Bool) → b ≡ true → (b && c) ≡ false → c ≡ false
and_first b c e h = sym (ap (λ d. d && c) e) ∙ h

from_away : (a c : Elem) (f : Link) → IsAway a f → same_link false (a, c) f ≡ false
from_away a c f h = ap (λ b. (b && same c f.1) || (same a f.1 && same c f.0)) h.0 ∙ ap (λ b. b && same c f.0) h.1

to_away : (x y : Elem) (f : Link) → IsAway y f → same_link false (x, y) f ≡ false
to_away x y f h = ap (λ b. (same x f.0 && b) || (same x f.1 && same y f.0)) h.1 ∙ ap (λ b. b || (same x f.1 && same y f.0)) (and_no (same x f.0)) ∙ ap (λ b. same x f.1 && b) h.0 ∙ and_no (same x f.1)

away : (y a : Elem) (path : List Elem) → is_in y (a ∷ path) ≡ false → AllByRecursion (IsAway y) (links a path)
away y a [] o = tt
away y a (c ∷ path) o =
    let first = neither (same y a) (is_in y (c ∷ path)) o in
    let second = neither (same y c) (is_in y path) first.1 in
    ((first.0, second.0), away y c path first.1)

pub distinct_links : (a : Elem) (path : List Elem) → IsDistinct same (a ∷ path) → IsDistinct (same_link false) (links a path)
unfolding IsDistinct
distinct_links a [] d = tt
distinct_links a (c ∷ path) d = (each (IsAway a) (λ f. same_link false (a, c) f ≡ false) (from_away a c) (links c path) (away a c path (none_in a (c ∷ path) d.0)), distinct_links c path d.1)

-- an edge from x to y is none of the edges of a path from y, where its first edge leads elsewhere
pub closing : (x y c : Elem) (path : List Elem) → is_in y (c ∷ path) ≡ false → same x y ≡ false → same x c ≡ false → AllByRecursion (λ f. same_link false (x, y) f ≡ false) (links y (c ∷ path))
closing x y c path o p q = (ap (λ b. (b && same y c) || (same x c && same y y)) p ∙ ap (λ b. b && same y y) q, each (IsAway y) (λ f. same_link false (x, y) f ≡ false) (to_away x y) (links c path) (away y c path o))

-- two different edges that lead to a node and from it come from and go to different nodes
pub apart_ends : (w x z : Elem) → same_link false (w, x) (x, z) ≡ false → same w z ≡ false
apart_ends w x z h = and_yes (same w z) (same x x) (same_equiv.refl x) (neither (same w x && same x z) (same w z && same x x) h).1

pub apart_turned : (w x z : Elem) → same_link false (x, z) (w, x) ≡ false → same w z ≡ false
apart_turned w x z h = same_equiv.symm w z ∙ and_first (same x x) (same z w) (same_equiv.refl x) (neither (same x w && same z x) (same x x && same z w) h).1
