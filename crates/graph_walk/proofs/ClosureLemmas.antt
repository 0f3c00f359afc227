-- Rows of a closure, node by node.
use Rattle.std.proofs.Common.{◌≡◌, cond, append_assoc, inl, inr, ℕ, ◌+◌, ◌<◌, ◌≤◌, Bool, true, false, ◌&&◌, List, ◌++◌, [], ◌∷◌, map, take, length, get_or, refl, ap, sym, ◌∙◌, arith}
use Rattle.std.specs.List.{filter, flat_map, IsDistinct}
use Rattle.std.proofs.lemmas.Bool.{both_ways, cases_lt}
use Rattle.std.proofs.lemmas.List.{take_more, append-nil, map-append}
use Rattle.std.proofs.lemmas.List.Concat.{flat_map-append}
use Rattle.std.proofs.lemmas.List.Folds.{length-flat_map-take}
use Rattle.std.proofs.lemmas.Map.Keys.{apart_from_distinct}
use Rattle.elem.specs.declared.elements.Elem.{Elem}
use Rattle.elem.specs.Elements.{same}
use Rattle.elem.specs.ElementLaws.{same_equiv}
use Rattle.graph_walk.specs.Graphs.{Graph, Link, is_in, nexts}
use Rattle.graph_walk.specs.Places.{place}
use Rattle.graph_walk.specs.BreadthFirst.{IsBreadthFirst}
use Rattle.graph_walk.specs.Closures.{Pairs, size, IsClosure, Tells, may_stand, edges_from}
use Rattle.graph_walk.proofs.PlaceLemmas.{place-at, at-place, at-is_in}

-- the element at a place of a list of distinct elements has this place
pub place-of : (xs : List Elem) (i : ℕ) (d : Elem) → IsDistinct same xs → i < length xs → place (get_or xs i d) xs ≡ i
place-of xs i d h l =
    let x = get_or xs i d in
    let le : place x xs ≤ i = place-at xs i d l in
    elim (cases_lt (place x xs) i) [
      | inl k ↦ absurd (both_ways _ (apart_from_distinct same xs (place x xs) i d h k l) (ap (λ z. same z x) (at-place x xs d (at-is_in xs i d l)) ∙ same_equiv.refl x))
      | inr k ↦ omega arith
    ]

one_truth : (b c : Bool) → (b ≡ true → c ≡ true) → (c ≡ true → b ≡ true) → b ≡ c
one_truth true c f g = sym (f refl)
one_truth false true f g = g refl
one_truth false false f g = refl

-- the row of a node by what was found from it
pub row_found : (g : Graph) (leads : Elem → Elem → Bool) (a : Elem) (found : List Elem) → Tells g leads → is_in a g.nodes ≡ true → IsBreadthFirst (nexts g) a found → map (λ b. (a, b)) (filter (λ b. may_stand g.directed g.nodes a b && is_in b found) g.nodes) ≡ edges_from g leads a
row_found g leads a found t i h = λ k. map (λ b. (a, b)) (filter (λ b. may_stand g.directed g.nodes a b && one b k) g.nodes)
  where
    one : (b : Elem) → is_in b found ≡ leads a b
    one b = one_truth (is_in b found) (leads a b) (λ p. (t a b i).1 ((h.reached.exact b).0 p)) (λ p. (h.reached.exact b).1 ((t a b i).0 p))

-- a closure has no fewer edges than the rows of its first nodes
pub closure_size : (g : Graph) (c : Pairs) (h : IsClosure g c) (i : ℕ) (d : Elem) → i < length g.nodes → length g.nodes + (length (flat_map (edges_from g h.leads) (take i g.nodes)) + length (edges_from g h.leads (get_or g.nodes i d))) ≤ size c
closure_size g c h i d l =
    let n : length c.nodes ≡ length g.nodes = ap length h.nodes in
    let e : length c.edges ≡ length (flat_map (edges_from g h.leads) g.nodes) = ap length h.edges in
    let t = length-flat_map-take (edges_from g h.leads) g.nodes i d l in
    omega arith

filter_push : (t : Elem → Bool) (xs : List Elem) (y : Elem) → filter t (xs ++ y ∷ []) ≡ filter t xs ++ cond (t y) (y ∷ []) []
filter_push t [] y = refl
filter_push t (x ∷ xs) y = elim (t x) as (λ b. cond b (x ∷ filter t (xs ++ y ∷ [])) (filter t (xs ++ y ∷ [])) ≡ cond b (x ∷ filter t xs) (filter t xs) ++ cond (t y) (y ∷ []) []) [ true ↦ ap (λ zs. x ∷ zs) (filter_push t xs y) | false ↦ filter_push t xs y ]

-- the row where one more node has been tried
pub row_more : (t : Elem → Bool) (a : Elem) (nodes : List Elem) (j : ℕ) (d : Elem) (before edges : List Link) → j < length nodes → edges ≡ before ++ map (λ b. (a, b)) (filter t (take j nodes)) → cond (t (get_or nodes j d)) (edges ++ (a, get_or nodes j d) ∷ []) edges ≡ before ++ map (λ b. (a, b)) (filter t (take (j + 1) nodes))
row_more t a nodes j d before edges l e =
    by_case (t (get_or nodes j d))
    ∙ ap (λ xs. before ++ map (λ b. (a, b)) xs) (sym (ap (filter t) (take_more nodes j d l) ∙ filter_push t (take j nodes) (get_or nodes j d)))
  where
    by_case : (b : Bool) → cond b (edges ++ (a, get_or nodes j d) ∷ []) edges ≡ before ++ map (λ x. (a, x)) (filter t (take j nodes) ++ cond b (get_or nodes j d ∷ []) [])
    by_case true = ap (λ es. es ++ (a, get_or nodes j d) ∷ []) e ∙ append_assoc before (map (λ x. (a, x)) (filter t (take j nodes))) ((a, get_or nodes j d) ∷ []) ∙ ap (λ es. before ++ es) (sym (map-append (λ x. (a, x)) (filter t (take j nodes)) (get_or nodes j d ∷ [])))
    by_case false = e ∙ ap (λ xs. before ++ map (λ x. (a, x)) xs) (sym (append-nil (filter t (take j nodes))))

-- the edges where one more node has its row
pub rows_more : (f : Elem → List Link) (nodes : List Elem) (i : ℕ) (d : Elem) → i < length nodes → flat_map f (take i nodes) ++ f (get_or nodes i d) ≡ flat_map f (take (i + 1) nodes)
rows_more f nodes i d l = sym (ap (flat_map f) (take_more nodes i d l) ∙ flat_map-append f (take i nodes) (get_or nodes i d ∷ []) ∙ ap (λ es. flat_map f (take i nodes) ++ es) (append-nil (f (get_or nodes i d))))
