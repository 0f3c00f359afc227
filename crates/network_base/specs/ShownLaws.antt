-- Laws of what a set shows.
use Rattle.std.specs.Prelude.{◌≡◌, Bool, true, false, cond, List, [], ◌∷◌, map, refl}
use Rattle.std.specs.List.{filter}
use Rattle.std.proofs.Common.{ap}
use Rattle.elem.specs.declared.elements.Elem.{Elem}
use Rattle.graph_base.specs.Edges.{Edge}
use Rattle.graph_base.specs.Graphs.{Graph}
use Rattle.network_base.specs.declared.net_steps.NetStep.{NetStep}
use Rattle.network_base.specs.declared.net_steps.NetItem.{NetItem}
use Rattle.network_base.specs.declared.net_steps.NetItem.TheVariants.{One}
use Rattle.network_base.specs.Shown.{gives_nodes, passes, item, shown, spots}

seconds : {X Y Z : Type 0} (f : X → Y) (g : X → Z) (xs : List X) → map (λ (r : Y × Z). r.1) (map (λ x. (f x, g x)) xs) ≡ map g xs
seconds f g [] = refl
seconds f g (x ∷ xs) = ap (λ l. g x ∷ l) (seconds f g xs)

-- the items that are walked along are those that are shown by number
pub items-spots : (step : NetStep) (g : Graph) → map (λ (r : Elem × NetItem). r.1) (spots step g) ≡ shown step g
items-spots step g = by_case (gives_nodes step)
  where
    by_case : (t : Bool) → map (λ (r : Elem × NetItem). r.1) (cond t (map (λ a. (a, One a)) g.nodes) (map (λ (e : Edge). (e.2, item step e)) (filter (passes g.directed g.edges step) g.edges))) ≡ cond t (map One g.nodes) (map (item step) (filter (passes g.directed g.edges step) g.edges))
    by_case true = seconds (λ a. a) One g.nodes
    by_case false = seconds (λ (e : Edge). e.2) (item step) (filter (passes g.directed g.edges step) g.edges)
