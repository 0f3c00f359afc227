-- Cycles told by a visit of all nodes, and the calls that it takes.
use Rattle.std.proofs.Common.{◌≡◌, ◌+◌, ◌≤◌, true, List, [], ◌∷◌, ◌++◌, length, refl, ap, sym, ◌∙◌, arith}
use Rattle.std.specs.List.{AllByRecursion}
use Rattle.std.proofs.lemmas.Bool.{both_ways}
use Rattle.std.proofs.lemmas.List.Sums.{sum_by-cons, sum_by_push}
use Rattle.elem.specs.declared.elements.Elem.{Elem}
use Rattle.graph_walk.specs.Graphs.{Graph, IsValid, is_in, nexts}
use Rattle.graph_walk.specs.Paths.{calls}
use Rattle.graph_walk.specs.DepthFirst.{Visits, ended, passed, visited}
use Rattle.graph_walk.specs.Stacks.{unentered}
use Rattle.graph_walk.specs.Cycles.{HasCycle}
use Rattle.graph_walk.specs.Late.{ClosesSome}
use Rattle.graph_walk.proofs.PlaceLemmas.{in_tail}
use Rattle.graph_walk.proofs.NextsLemmas.{nexts_nodes}
use Rattle.graph_walk.proofs.StackLemmas.{entering}
use Rattle.graph_walk.proofs.VisitLemmas.{enters_all, holds_of_entered, leaves, left_inside, leaves_calls}
use Rattle.graph_walk.proofs.StackedLemmas.{head_in, all_settled}
use Rattle.graph_walk.proofs.FoundCycles.{closed_cycle}
use Rattle.graph_walk.proofs.CycleNodes.{cycle_closed}

all_in : (P : Elem → Type 0) (xs : List Elem) → ((x : Elem) → is_in x xs ≡ true → P x) → AllByRecursion P xs
all_in P [] h = tt
all_in P (x ∷ xs) h = (h x (head_in x x xs refl), all_in P xs (λ y i. h y (in_tail y x xs i)))

module _ (next : Elem → List Elem) (nodes : List Elem) (step : (x y : Elem) → is_in y (next x) ≡ true → is_in y nodes ≡ true) where
  all_unentered : (xs : List Elem) → unentered next xs [] ≡ calls next xs
  all_unentered [] = refl
  all_unentered (x ∷ xs) = ap (λ n. 1 + length (next x) + n) (all_unentered xs) ∙ sym (sum_by-cons (λ y. 1 + length (next y)) x xs)

  -- each node is entered once
  once : {xs e l f m : List Elem} → Visits next xs e l f m → ((x : Elem) → is_in x xs ≡ true → is_in x nodes ≡ true) → unentered next nodes f + calls next f ≤ unentered next nodes e + calls next e
  once (ended {entered = e}) all = omega arith
  once (passed {x = y} {xs = ys} j v) all = once v (λ x i. all x (in_tail x y ys i))
  once (visited {x = y} {xs = ys} {entered = e} {entered' = f} {entered'' = f'} j v w) all =
      let inner : unentered next nodes f + calls next f ≤ unentered next nodes (e ++ y ∷ []) + calls next (e ++ y ∷ []) = once v (λ x i. step y x i) in
      let later : unentered next nodes f' + calls next f' ≤ unentered next nodes f + calls next f = once w (λ x i. all x (in_tail x y ys i)) in
      let less : unentered next nodes (e ++ y ∷ []) + (1 + length (next y)) ≤ unentered next nodes e = entering next y e j nodes (all y (head_in y y ys refl)) in
      let more : calls next (e ++ y ∷ []) ≡ calls next e + (1 + length (next y)) = sum_by_push (λ x. 1 + length (next x)) e y in
      omega arith

  pub entered_calls : {f m : List Elem} → Visits next nodes [] [] f m → calls next f ≤ calls next nodes
  entered_calls {f} v =
      let bound : unentered next nodes f + calls next f ≤ unentered next nodes [] + calls next [] = once v (λ x i. i) in
      let all : unentered next nodes [] ≡ calls next nodes = all_unentered nodes in
      let none : calls next [] ≡ 0 = refl in
      omega arith

module _ (g : Graph) (valid : IsValid g) (f m : List Elem) (v : Visits (nexts g) g.nodes [] [] f m) where
  pub few_calls : calls (nexts g) f ≤ calls (nexts g) g.nodes
  few_calls = entered_calls (nexts g) g.nodes (nexts_nodes g valid) v

  pub as_many : calls (nexts g) m ≡ calls (nexts g) f
  as_many =
      let same_calls : calls (nexts g) m + calls (nexts g) [] ≡ calls (nexts g) [] + calls (nexts g) f = leaves_calls (nexts g) v in
      omega arith

  pub left_nodes : AllByRecursion (λ x. is_in x g.nodes ≡ true) m
  left_nodes = all_in (λ x. is_in x g.nodes ≡ true) m (λ x i. holds_of_entered (nexts g) (λ y. is_in y g.nodes ≡ true) (λ y z j k. nexts_nodes g valid y z k) v (λ y j. j) (λ y j. absurd (both_ways _ refl j)) x (left_inside (nexts g) v (λ y j. j) x i))

  pub found_cycle : ClosesSome (nexts g) g.directed [] m → HasCycle g
  found_cycle h = closed_cycle g g.directed refl [] m (all_settled (nexts g) v) h

  pub cycle_found : HasCycle g → ClosesSome (nexts g) g.directed [] m
  cycle_found h = cycle_closed g valid m (λ y i. leaves (nexts g) v y (enters_all (nexts g) v y i) refl) h
