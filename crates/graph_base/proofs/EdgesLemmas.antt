-- Edges put, taken out and read at a cut of their list.
use Rattle.std.proofs.Common.{◌≡◌, ◌≤◌, ◌+◌, suc, Bool, true, false, cond, not, List, [], ◌∷◌, ◌++◌, length, Some, None, refl, sym, ap, ◌∙◌, arith, slice_get, length-append}
use Rattle.std.proofs.lemmas.List.Elements.{filter-append}
use Rattle.elem.specs.declared.elements.Elem.{Elem}
use Rattle.graph_base.specs.Edges.{Edge, joins, joining, edge_joining, with_edge, without_edge}
use Rattle.graph_base.proofs.Cuts.{none_pass, nothing}

module _ (directed : Bool) (a b : Elem) where
  pub joining_cut : (us : List Edge) (e : Edge) (vs : List Edge) → joining directed a b (us ++ e ∷ vs) ≡ joining directed a b us ++ cond (joins directed a b e) (e ∷ joining directed a b vs) (joining directed a b vs)
  joining_cut us e vs = filter-append (joins directed a b) us (e ∷ vs)

  pub with_new : (v : Elem) (edges : List Edge) → joining directed a b edges ≡ [] → with_edge directed a b v edges ≡ edges ++ (a, b, v) ∷ []
  with_new v [] n = refl
  with_new v (e ∷ edges) n = by_case (joins directed a b e) (with_new v edges) n
    where
      by_case : (t : Bool) → (joining directed a b edges ≡ [] → with_edge directed a b v edges ≡ edges ++ (a, b, v) ∷ []) → cond t (e ∷ joining directed a b edges) (joining directed a b edges) ≡ []
          → cond t ((e.0, e.1, v) ∷ edges) (e ∷ with_edge directed a b v edges) ≡ e ∷ (edges ++ (a, b, v) ∷ [])
      by_case true rest f = absurd (cc)
      by_case false rest f = ap (λ l. e ∷ l) (rest f)

  -- an edge between the two nodes, at a cut, where no other joins them
  module _ (e : Edge) (vs : List Edge) (j : joins directed a b e ≡ true) where
    pub with_there : (v : Elem) (us : List Edge) → joining directed a b us ≡ [] → with_edge directed a b v (us ++ e ∷ vs) ≡ us ++ (e.0, e.1, v) ∷ vs
    with_there v [] n = ap (λ t. cond t ((e.0, e.1, v) ∷ vs) (e ∷ with_edge directed a b v vs)) j
    with_there v (u ∷ us) n = by_case (joins directed a b u) (with_there v us) n
      where
        by_case : (t : Bool) → (joining directed a b us ≡ [] → with_edge directed a b v (us ++ e ∷ vs) ≡ us ++ (e.0, e.1, v) ∷ vs) → cond t (u ∷ joining directed a b us) (joining directed a b us) ≡ []
            → cond t ((u.0, u.1, v) ∷ (us ++ e ∷ vs)) (u ∷ with_edge directed a b v (us ++ e ∷ vs)) ≡ u ∷ (us ++ (e.0, e.1, v) ∷ vs)
        by_case true rest f = absurd (cc)
        by_case false rest f = ap (λ l. u ∷ l) (rest f)

    module _ (us : List Edge) (one : length (joining directed a b (us ++ e ∷ vs)) ≤ 1) where
      parts : length (joining directed a b us) + suc (length (joining directed a b vs)) ≡ length (joining directed a b (us ++ e ∷ vs))
      parts = sym (ap length (joining_cut us e vs ∙ ap (λ t. joining directed a b us ++ cond t (e ∷ joining directed a b vs) (joining directed a b vs)) j) ∙ length-append (joining directed a b us) (e ∷ joining directed a b vs))

      pub none_before : joining directed a b us ≡ []
      none_before = nothing (joining directed a b us) (omega (arith, parts, one))

      pub none_after : joining directed a b vs ≡ []
      none_after = nothing (joining directed a b vs) (omega (arith, parts, one))

      pub without_there : without_edge directed a b (us ++ e ∷ vs) ≡ us ++ vs
      without_there =
          filter-append (λ x. not (joins directed a b x)) us (e ∷ vs)
          ∙ (λ i. none_pass (joins directed a b) us none_before i ++ cond (not (j i)) (e ∷ none_pass (joins directed a b) vs none_after i) (none_pass (joins directed a b) vs none_after i))

      pub edge_there : edge_joining directed a b (us ++ e ∷ vs) ≡ Some e
      edge_there = ap (λ l. slice_get l 0) (joining_cut us e vs ∙ (λ i. none_before i ++ cond (j i) (e ∷ joining directed a b vs) (joining directed a b vs)))

  pub without_absent : (edges : List Edge) → joining directed a b edges ≡ [] → without_edge directed a b edges ≡ edges
  without_absent edges n = none_pass (joins directed a b) edges n

  pub edge_absent : (edges : List Edge) → joining directed a b edges ≡ [] → edge_joining directed a b edges ≡ None
  edge_absent edges n = ap (λ l. slice_get l 0) n

  -- where no edge is found none joins them
  pub none_joining : (edges : List Edge) → edge_joining directed a b edges ≡ None → joining directed a b edges ≡ []
  none_joining edges e = by_case (joining directed a b edges) e
    where
      by_case : (es : List Edge) → slice_get es 0 ≡ None → es ≡ []
      by_case [] f = refl
      by_case (x ∷ es) f = absurd (cc)
