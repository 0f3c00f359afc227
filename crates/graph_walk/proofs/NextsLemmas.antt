-- The next nodes of a node are distinct nodes.
use Rattle.std.proofs.Common.{◌≡◌, ◌≤◌, length, ◌⊎◌, inl, inr, Bool, true, false, not, cond, ◌||◌, ◌&&◌, List, [], ◌∷◌, Option, Some, None, refl, ap, sym, ◌∙◌, subst}
use Rattle.std.specs.List.{IsDistinct, AllByRecursion, filter_map, cons_option}
use Rattle.std.proofs.lemmas.Bool.{both_ways}
use Rattle.elem.specs.declared.elements.Elem.{Elem}
use Rattle.elem.specs.Elements.{same}
use Rattle.elem.specs.ElementLaws.{same_equiv, same-Decides}
use Rattle.graph_walk.specs.Graphs.{Graph, Link, IsValid, HasEnds, is_in, end_from, same_link, nexts}
use Rattle.graph_walk.specs.Paths.{IsReached}
use Rattle.graph_walk.proofs.PlaceLemmas.{same-is}
use Rattle.graph_walk.proofs.PathLemmas.{along}
use Rattle.std.proofs.lemmas.Map.Made.{length-le_from_is_member}

are_same : (x y : Elem) → x ≡ y → same x y ≡ true
are_same x y e = (same-Decides x y).1 e

-- the edge goes from a to y, or where there are no directions from y to a
abbrev pub GoesFrom : Bool → Elem → Link → Elem → Type 0
GoesFrom directed a e y = ((a ≡ e.0) × (y ≡ e.1)) ⊎ ((directed ≡ false) × (a ≡ e.1) × (y ≡ e.0))

pub goes_from : (d : Bool) (a : Elem) (e : Link) (y : Elem) → end_from d a e ≡ Some y → GoesFrom d a e y
goes_from d a e y = by_case (same a e.0) d (same a e.1) refl refl refl
  where
    by_case : (s c t : Bool) → same a e.0 ≡ s → d ≡ c → same a e.1 ≡ t → cond s (Some e.1) (cond (not c && t) (Some e.0) None) ≡ Some y → GoesFrom d a e y
    by_case true c t p q r h = let k : e.1 ≡ y = cc in inl (same-is a e.0 p, sym k)
    by_case false true t p q r h = absurd (cc)
    by_case false false true p q r h = let k : e.0 ≡ y = cc in inr (q, same-is a e.1 r, sym k)
    by_case false false false p q r h = absurd (cc)

other_way : (d : Bool) (e f : Link) → d ≡ false → same e.0 f.1 ≡ true → same e.1 f.0 ≡ true → same_link d e f ≡ true
other_way d e f h p q =
    ap (λ b. (same e.0 f.0 && same e.1 f.1) || (not b && (same e.0 f.1 && same e.1 f.0))) h
    ∙ ap (λ b. (same e.0 f.0 && same e.1 f.1) || (b && same e.1 f.0)) p
    ∙ ap (λ b. (same e.0 f.0 && same e.1 f.1) || b) q
    ∙ or_yes (same e.0 f.0 && same e.1 f.1)
  where
    or_yes : (b : Bool) → (b || true) ≡ true
    or_yes true = refl
    or_yes false = refl

-- two edges by which one node follows another join the same nodes
one_link : (d : Bool) (a : Elem) (e f : Link) (y : Elem) → GoesFrom d a e y → GoesFrom d a f y → same_link d e f ≡ true
one_link d a e f y (inl h) (inl k) = ap (λ b. (b && same e.1 f.1) || (not d && (same e.0 f.1 && same e.1 f.0))) (are_same e.0 f.0 (sym h.0 ∙ k.0)) ∙ ap (λ b. b || (not d && (same e.0 f.1 && same e.1 f.0))) (are_same e.1 f.1 (sym h.1 ∙ k.1))
one_link d a e f y (inl h) (inr k) = other_way d e f k.0 (are_same e.0 f.1 (sym h.0 ∙ k.1)) (are_same e.1 f.0 (sym h.1 ∙ k.2))
one_link d a e f y (inr h) (inl k) = other_way d e f h.0 (are_same e.0 f.1 (sym h.2 ∙ k.1)) (are_same e.1 f.0 (sym h.1 ∙ k.0))
one_link d a e f y (inr h) (inr k) = ap (λ b. (b && same e.1 f.1) || (not d && (same e.0 f.1 && same e.1 f.0))) (are_same e.0 f.0 (sym h.2 ∙ k.2)) ∙ ap (λ b. b || (not d && (same e.0 f.1 && same e.1 f.0))) (are_same e.1 f.1 (sym h.1 ∙ k.1))

nexts_apart : (d : Bool) (a : Elem) (e : Link) (y : Elem) → GoesFrom d a e y → (es : List Link) → AllByRecursion (λ f. same_link d e f ≡ false) es → AllByRecursion (λ z. same y z ≡ false) (filter_map (end_from d a) es)
nexts_apart d a e y h [] all = tt
nexts_apart d a e y h (f ∷ es) all = by_case (end_from d a f) refl (nexts_apart d a e y h es all.1)
  where
    by_same : (z : Elem) → end_from d a f ≡ Some z → (b : Bool) → same y z ≡ b → same y z ≡ false
    by_same z p true q = absurd (both_ways _ all.0 (one_link d a e f y h (subst (GoesFrom d a f) (sym (same-is y z q)) (goes_from d a f z p))))
    by_same z p false q = q

    by_case : (o : Option Elem) → end_from d a f ≡ o → AllByRecursion (λ z. same y z ≡ false) (filter_map (end_from d a) es) → AllByRecursion (λ z. same y z ≡ false) (cons_option o (filter_map (end_from d a) es))
    by_case None p rest = rest
    by_case (Some z) p rest = (by_same z p (same y z) refl, rest)

distinct_along : (d : Bool) (a : Elem) (es : List Link) → IsDistinct (same_link d) es → IsDistinct same (filter_map (end_from d a) es)
unfolding IsDistinct
distinct_along d a [] h = tt
distinct_along d a (e ∷ es) h = by_case (end_from d a e) refl (distinct_along d a es h.1)
  where
    by_case : (o : Option Elem) → end_from d a e ≡ o → IsDistinct same (filter_map (end_from d a) es) → IsDistinct same (cons_option o (filter_map (end_from d a) es))
    by_case None p rest = rest
    by_case (Some y) p rest = (nexts_apart d a e y (goes_from d a e y p) es h.0, rest)

nodes_along : (d : Bool) (nodes : List Elem) (a : Elem) (es : List Link) → AllByRecursion (HasEnds nodes) es → (x : Elem) → is_in x (filter_map (end_from d a) es) ≡ true → is_in x nodes ≡ true
nodes_along d nodes a [] h x i = absurd (both_ways _ refl i)
nodes_along d nodes a (e ∷ es) h x i = by_case (end_from d a e) refl i (nodes_along d nodes a es h.1 x)
  where
    end_is : (y : Elem) → GoesFrom d a e y → is_in y nodes ≡ true
    end_is y (inl k) = ap (λ z. is_in z nodes) k.1 ∙ h.0.1
    end_is y (inr k) = ap (λ z. is_in z nodes) k.2 ∙ h.0.0

    by_same : (y : Elem) → end_from d a e ≡ Some y → (b : Bool) → same x y ≡ b → (b || is_in x (filter_map (end_from d a) es)) ≡ true → (is_in x (filter_map (end_from d a) es) ≡ true → is_in x nodes ≡ true) → is_in x nodes ≡ true
    by_same y p true q j rest = ap (λ z. is_in z nodes) (same-is x y q) ∙ end_is y (goes_from d a e y p)
    by_same y p false q j rest = rest j

    by_case : (o : Option Elem) → end_from d a e ≡ o → is_in x (cons_option o (filter_map (end_from d a) es)) ≡ true → (is_in x (filter_map (end_from d a) es) ≡ true → is_in x nodes ≡ true) → is_in x nodes ≡ true
    by_case None p j rest = rest j
    by_case (Some y) p j rest = by_same y p (same x y) refl j rest

module _ (g : Graph) (valid : IsValid g) where
  pub nexts_distinct : (a : Elem) → IsDistinct same (nexts g a)
  nexts_distinct a = distinct_along g.directed a g.edges valid.edges

  pub nexts_nodes : (a x : Elem) → is_in x (nexts g a) ≡ true → is_in x g.nodes ≡ true
  nexts_nodes a x h = nodes_along g.directed g.nodes a g.edges valid.ends x h

  pub reached_nodes : (a x : Elem) → is_in a g.nodes ≡ true → IsReached (nexts g) a x → is_in x g.nodes ≡ true
  reached_nodes a x i r = along (nexts g) (λ z. is_in z g.nodes ≡ true) (λ y z j k. nexts_nodes y z k) a r.0 x i r.1

  -- distinct nodes are no more than all nodes
  pub nodes_bound : (xs : List Elem) → IsDistinct same xs → ((x : Elem) → is_in x xs ≡ true → is_in x g.nodes ≡ true) → length xs ≤ length g.nodes
  nodes_bound xs d h = length-le_from_is_member same_equiv xs g.nodes d h
