-- Whether a path leads from a node to another can be told.
use Rattle.std.proofs.Common.{◌≡◌, ◌⊎◌, ◌↔◌, inl, inr, ℕ, ◌+◌, ◌≤◌, zero, suc, Bool, true, false, cond, nat_lt, List, [], ◌∷◌, length, get_or, refl, subst, arith}
use Rattle.std.proofs.lemmas.Bool.{ltb-true, ltb-false}
use Rattle.elem.specs.declared.elements.Elem.{Elem}
use Rattle.graph_walk.specs.Graphs.{Graph, IsValid, is_in, nexts}
use Rattle.graph_walk.specs.Found.{with_all}
use Rattle.graph_walk.specs.Closures.{Tells}
use Rattle.graph_walk.specs.Paths.{IsReached}
use Rattle.graph_walk.proofs.NextsLemmas.{reached_nodes, nodes_bound}
use Rattle.graph_walk.proofs.GrownLemmas.{IsGrown}
use Rattle.graph_walk.proofs.GrownSteps.{grown_start, grown_more}
use Rattle.graph_walk.proofs.BreadthLemmas.{breadth_first}

module _ (next : Elem → List Elem) (a : Elem) where
  -- what is found from a where the next nodes of the first n found nodes have been found
  abbrev grown : ℕ → List Elem
  grown zero = a ∷ []
  grown (suc n) = cond (nat_lt n (length (grown n))) (with_all (next (get_or (grown n) n a)) (grown n)) (grown n)

  -- so many have been, or all
  abbrev HasGrown : ℕ → Type 0
  HasGrown n = (m : ℕ) × IsGrown next a m (grown n) × ((m ≡ n) ⊎ ((m ≡ length (grown n)) × (m ≤ n)))

  has_grown : (n : ℕ) → HasGrown n
  has_grown zero = (0, grown_start next a, inl refl)
  has_grown (suc n) = by_case (nat_lt n (length (grown n))) refl (has_grown n)
    where
      by_case : (b : Bool) → nat_lt n (length (grown n)) ≡ b → HasGrown n → (m : ℕ) × IsGrown next a m (cond b (with_all (next (get_or (grown n) n a)) (grown n)) (grown n)) × ((m ≡ suc n) ⊎ ((m ≡ length (cond b (with_all (next (get_or (grown n) n a)) (grown n)) (grown n))) × (m ≤ suc n)))
      by_case true l (m, h, inl e) = (n + 1, grown_more next a n (grown n) (subst (λ k. IsGrown next a k (grown n)) e h) (ltb-true n (length (grown n)) l), inl (omega arith))
      by_case true l (m, h, inr e) = let less = ltb-true n (length (grown n)) l in absurd (omega (arith, e.0, e.1))
      by_case false l (m, h, inl e) = let all = ltb-false n (length (grown n)) l in let bound = h.bound in (m, h, inr (omega arith, omega arith))
      by_case false l (m, h, inr e) = (m, h, inr (e.0, omega (arith, e.1)))

module _ (g : Graph) (valid : IsValid g) where
  abbrev leads_in : Elem → Elem → Bool
  leads_in a b = is_in b (grown (nexts g) a (length g.nodes))

  pub can_tell : (leads : Elem → Elem → Bool) × Tells g leads
  can_tell = (leads_in, λ a b i. told a b i (has_grown (nexts g) a (length g.nodes)))
    where
      told : (a b : Elem) → is_in a g.nodes ≡ true → HasGrown (nexts g) a (length g.nodes) → (leads_in a b ≡ true) ↔ IsReached (nexts g) a b
      told a b i (m, h, e) =
          let xs = grown (nexts g) a (length g.nodes) in
          let bound : length xs ≤ length g.nodes = nodes_bound g valid xs h.distinct (λ x j. reached_nodes g valid a x i (h.reached x j)) in
          let inside = h.bound in
          let all : m ≡ length xs = elim e [ inl s ↦ omega arith | inr s ↦ s.0 ] in
          (breadth_first (nexts g) a xs (subst (λ k. IsGrown (nexts g) a k xs) all h)).reached.exact b
