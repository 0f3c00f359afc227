-- What a set shows, by what it is read from.
use Rattle.std.proofs.Common.{◌≡◌, ℕ, Bool, true, false, cond, List, map, Option, Some, None, ap, ◌∙◌, slice_get}
use Rattle.std.specs.Option.{option_map}
use Rattle.std.specs.List.{filter}
use Rattle.std.specs.Map.{keys_of}
use Rattle.std.proofs.lemmas.Option.{slice_get-map}
use Rattle.elem.specs.declared.elements.Elem.{Elem}
use Rattle.graph_base.specs.declared.degrees.Degrees.{Degrees}
use Rattle.graph_base.specs.Edges.{Edge}
use Rattle.graph_base.proofs.GraphLemmas.{nth_key}
use Rattle.network_base.specs.declared.net_steps.NetStep.{NetStep}
use Rattle.network_base.specs.declared.net_steps.NetItem.TheVariants.{One}
use Rattle.network_base.specs.Held.{network}
use Rattle.network_base.specs.Shown.{gives_nodes, shown, passes, item}

module _ (nodes : List (Elem × Degrees)) (edges : List Edge) (directed loops : Bool) (step : NetStep) (i : ℕ) where
  -- a set of all nodes
  module _ (t : gives_nodes step ≡ true) where
    shown_nodes : slice_get (shown step (network nodes edges directed loops)) i ≡ option_map One (option_map (λ (row : Elem × Degrees). row.0) (slice_get nodes i))
    shown_nodes = ap (λ b. slice_get (cond b (map One (keys_of nodes)) (map (item step) (filter (passes directed edges step) edges))) i) t ∙ slice_get-map One (keys_of nodes) i ∙ ap (option_map One) (nth_key nodes i)

    pub node_shown : (row : Elem × Degrees) → slice_get nodes i ≡ Some row → slice_get (shown step (network nodes edges directed loops)) i ≡ Some (One row.0)
    node_shown row e = shown_nodes ∙ ap (λ o. option_map One (option_map (λ (r : Elem × Degrees). r.0) o)) e

    pub no_node_shown : slice_get nodes i ≡ None → slice_get (shown step (network nodes edges directed loops)) i ≡ None
    no_node_shown e = shown_nodes ∙ ap (λ o. option_map One (option_map (λ (r : Elem × Degrees). r.0) o)) e

  -- a set that is read from edges
  pub edge_shown : gives_nodes step ≡ false → (o : Option Edge) → slice_get (filter (passes directed edges step) edges) i ≡ o → slice_get (shown step (network nodes edges directed loops)) i ≡ option_map (item step) o
  edge_shown f o e =
      ap (λ b. slice_get (cond b (map One (keys_of nodes)) (map (item step) (filter (passes directed edges step) edges))) i) f
      ∙ slice_get-map (item step) (filter (passes directed edges step) edges) i ∙ ap (option_map (item step)) e
