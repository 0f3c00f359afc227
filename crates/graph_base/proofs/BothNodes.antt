-- The two ends of a new edge, put one after the other where they are new.
use Rattle.std.proofs.Common.{◌≡◌, ◌<◌, ◌≤◌, Bool, cond, not, List, length, Some, sym, ◌∙◌, subst, arith}
use Rattle.std.specs.Prelude.{IsSome}
use Rattle.std.specs.Map.{keys_of}
use Rattle.elem.specs.declared.elements.Elem.{Elem}
use Rattle.elem.specs.Keyed.{value_at, without}
use Rattle.mm_base.specs.KeyedRows.{contains}
use Rattle.graph_base.specs.declared.degrees.Degrees.{Degrees}
use Rattle.graph_base.specs.Edges.{Edge}
use Rattle.graph_base.specs.Counted.{with_new, AreCounted}
use Rattle.graph_base.proofs.NodesLemmas.{taken_new}
use Rattle.graph_base.proofs.GraphSteps.{new_stays, new_there, new_counted, counts_fit}

module _ (nodes rows : List (Elem × Degrees)) (a b : Elem) (one two : Bool) (first : one ≡ not (contains a (keys_of nodes))) (second : two ≡ not (contains b (keys_of (with_new one a nodes)))) (put : rows ≡ with_new two b (with_new one a nodes)) where
  pub first_there : IsSome (value_at rows a)
  first_there = subst (λ rs. IsSome (value_at rs a)) (sym put) (new_stays (with_new one a nodes) b two second a (new_there nodes a one first))

  pub second_there : IsSome (value_at rows b)
  second_there = subst (λ rs. IsSome (value_at rs b)) (sym put) (new_there (with_new one a nodes) b two second)

  pub both_counted : (edges : List Edge) → AreCounted (value_at nodes) edges → AreCounted (value_at rows) edges
  both_counted edges c = subst (λ rs. AreCounted (value_at rs) edges) (sym put) (new_counted (with_new one a nodes) b two second edges (new_counted nodes a one first edges c))

  -- a count has room for one edge more
  pub both_fit : (edges : List Edge) → AreCounted (value_at nodes) edges → length edges ≤ 1073741823 → (x : Elem) (d : Degrees) → value_at rows x ≡ Some d → (d.leaving < 1073741824) × (d.entering < 1073741824)
  both_fit edges c small x d e =
      let fit = counts_fit (value_at rows) edges (both_counted edges c) x d e in
      (omega (arith, fit.0, small), omega (arith, fit.1, small))

  -- taken back, the later one first
  pub both_back : (less fewest : List (Elem × Degrees)) → less ≡ cond two (without rows b) rows → fewest ≡ cond one (without less a) less → fewest ≡ nodes
  both_back less fewest e f = f ∙ taken_new nodes less a one first (e ∙ taken_new (with_new one a nodes) rows b two second put)
