-- The items of a set with what shows them.
use Rattle.std.proofs.Common.{◌≡◌, Bool, true, false, cond, List, [], ◌∷◌, map, Option, Some, None, refl, ap, ◌∙◌, slice_get}
use Rattle.std.specs.Option.{option_map}
use Rattle.std.specs.List.{filter}
use Rattle.std.specs.Map.{lookup, keys_of}
use Rattle.std.proofs.lemmas.Option.{slice_get-map}
use Rattle.elem.specs.declared.elements.Elem.{Elem}
use Rattle.elem.specs.Elements.{same}
use Rattle.elem.specs.Rows.{first_key, key_after}
use Rattle.graph_base.specs.declared.degrees.Degrees.{Degrees}
use Rattle.graph_base.specs.Edges.{Edge}
use Rattle.network_base.specs.declared.net_steps.NetStep.{NetStep}
use Rattle.network_base.specs.declared.net_steps.NetItem.{NetItem}
use Rattle.network_base.specs.declared.net_steps.NetItem.TheVariants.{One}
use Rattle.network_base.specs.Held.{network}
use Rattle.network_base.specs.Shown.{gives_nodes, spots, row_after, edge_after, passes, item}
use Rattle.network_base.proofs.NextPassing.{after_here}

abbrev pub Spot : Type 0
Spot = Elem × NetItem

abbrev pub of_node : Elem → Spot
of_node a = (a, One a)

abbrev pub of_edge : NetStep → Edge → Spot
of_edge step e = (e.2, item step e)

first_node : (nodes : List (Elem × Degrees)) → slice_get (map of_node (keys_of nodes)) 0 ≡ option_map of_node (first_key nodes)
first_node [] = refl
first_node (row ∷ nodes) = refl

after_node : (k : Elem) (nodes : List (Elem × Degrees)) → row_after k (map of_node (keys_of nodes)) ≡ option_map of_node (key_after (same k) nodes)
after_node k [] = refl
after_node k (row ∷ nodes) = by_case (same k row.0) (after_node k nodes)
  where
    by_case : (t : Bool) → row_after k (map of_node (keys_of nodes)) ≡ option_map of_node (key_after (same k) nodes) → cond t (slice_get (map of_node (keys_of nodes)) 0) (row_after k (map of_node (keys_of nodes))) ≡ option_map of_node (cond t (first_key nodes) (key_after (same k) nodes))
    by_case true e = first_node nodes
    by_case false e = e

none_after : (k : Elem) (nodes : List (Elem × Degrees)) → lookup (same k) nodes ≡ None → key_after (same k) nodes ≡ None
none_after k [] e = refl
none_after k (row ∷ nodes) e = by_case (same k row.0) e (none_after k nodes)
  where
    by_case : (t : Bool) → cond t (Some row.1) (lookup (same k) nodes) ≡ None → (lookup (same k) nodes ≡ None → key_after (same k) nodes ≡ None) → cond t (first_key nodes) (key_after (same k) nodes) ≡ None
    by_case true f rest = absurd (cc)
    by_case false f rest = rest f

after_edge : (step : NetStep) (x : Elem) (edges : List Edge) → row_after x (map (of_edge step) edges) ≡ option_map (of_edge step) (edge_after x edges)
after_edge step x [] = refl
after_edge step x (e ∷ edges) = by_case (same x e.2) (after_edge step x edges)
  where
    by_case : (t : Bool) → row_after x (map (of_edge step) edges) ≡ option_map (of_edge step) (edge_after x edges) → cond t (slice_get (map (of_edge step) edges) 0) (row_after x (map (of_edge step) edges)) ≡ option_map (of_edge step) (cond t (slice_get edges 0) (edge_after x edges))
    by_case true h = slice_get-map (of_edge step) edges 0
    by_case false h = h

module _ (nodes : List (Elem × Degrees)) (edges : List Edge) (directed loops : Bool) (step : NetStep) where
  -- a set of all nodes
  module _ (t : gives_nodes step ≡ true) where
    pub nodes_are : spots step (network nodes edges directed loops) ≡ map of_node (keys_of nodes)
    nodes_are = ap (λ b. cond b (map of_node (keys_of nodes)) (map (of_edge step) (filter (passes directed edges step) edges))) t

    pub first_node_spot : (o : Option Elem) → first_key nodes ≡ o → slice_get (spots step (network nodes edges directed loops)) 0 ≡ option_map of_node o
    first_node_spot o e = ap (λ rows. slice_get rows 0) nodes_are ∙ first_node nodes ∙ ap (option_map of_node) e

    pub next_node_spot : (k : Elem) (o : Option Elem) → key_after (same k) nodes ≡ o → row_after k (spots step (network nodes edges directed loops)) ≡ option_map of_node o
    next_node_spot k o e = ap (row_after k) nodes_are ∙ after_node k nodes ∙ ap (option_map of_node) e

    pub no_node_spot : (k : Elem) → lookup (same k) nodes ≡ None → row_after k (spots step (network nodes edges directed loops)) ≡ None
    no_node_spot k e = next_node_spot k None (none_after k nodes e)

  -- a set that is read from edges
  module _ (f : gives_nodes step ≡ false) where
    edges_are : spots step (network nodes edges directed loops) ≡ map (of_edge step) (filter (passes directed edges step) edges)
    edges_are = ap (λ b. cond b (map of_node (keys_of nodes)) (map (of_edge step) (filter (passes directed edges step) edges))) f

    pub first_edge_spot : (o : Option Edge) → slice_get (filter (passes directed edges step) edges) 0 ≡ o → slice_get (spots step (network nodes edges directed loops)) 0 ≡ option_map (of_edge step) o
    first_edge_spot o e = ap (λ rows. slice_get rows 0) edges_are ∙ slice_get-map (of_edge step) (filter (passes directed edges step) edges) 0 ∙ ap (option_map (of_edge step)) e

    pub next_edge_spot : (x : Elem) (o : Option Edge) → after_here directed edges step x ≡ o → row_after x (spots step (network nodes edges directed loops)) ≡ option_map (of_edge step) o
    next_edge_spot x o e = ap (row_after x) edges_are ∙ after_edge step x (filter (passes directed edges step) edges) ∙ ap (option_map (of_edge step)) e
