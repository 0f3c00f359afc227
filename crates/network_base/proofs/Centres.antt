-- All edges that a set is read from are around its centre.
use Rattle.std.proofs.Common.{◌≡◌, ℕ, slice_get, Some, ◌⊎◌, inl, inr, Bool, true, false, not, List, Option, refl, ap, ◌∙◌}
use Rattle.std.specs.Prelude.{◌||◌, ◌&&◌}
use Rattle.std.specs.List.{filter}
use Rattle.elem.specs.declared.elements.Elem.{Elem}
use Rattle.elem.specs.Elements.{same}
use Rattle.graph_base.specs.Edges.{Edge, joins, is_at, incident}
use Rattle.graph_base.proofs.EndsLemmas.{and_parts, or_parts}
use Rattle.network_base.specs.declared.net_steps.NetStep.{NetStep}
use Rattle.network_base.specs.declared.net_steps.NetStep.TheVariants.{Nodes, Edges, AdjacentNodes, Predecessors, Successors, IncidentEdges, InEdges, OutEdges, EdgesConnecting, AdjacentEdges, GraphNodes, GraphEdges, GraphAdjacentNodes, GraphPredecessors, GraphSuccessors}
use Rattle.network_base.specs.Shown.{centre, around, passes, enters, leaves, is_first}
use Rattle.network_base.proofs.Passing.{filter_within, some_among, some_before}

either : (s t : Bool) → (s ≡ true) ⊎ (t ≡ true) → (s || t) ≡ true
either s t (inl e) = ap (λ b. b || t) e
either true t (inr e) = refl
either false t (inr e) = e

at_either : (a : Elem) (e : Edge) → (same a e.0 ≡ true) ⊎ (same a e.1 ≡ true) → is_at a e ≡ true
at_either a e h = either (same a e.0) (same a e.1) h

pub enters_at : (directed : Bool) (a : Elem) (e : Edge) → enters directed a e ≡ true → is_at a e ≡ true
enters_at true a e h = at_either a e (inr h)
enters_at false a e h = h

pub leaves_at : (directed : Bool) (a : Elem) (e : Edge) → leaves directed a e ≡ true → is_at a e ≡ true
leaves_at true a e h = at_either a e (inl h)
leaves_at false a e h = h

-- an edge that joins two nodes is at each
pub joins_at : (directed : Bool) (a b : Elem) (e : Edge) → joins directed a b e ≡ true → (is_at a e ≡ true) × (is_at b e ≡ true)
joins_at directed a b e h = by_side (or_parts (same a e.0 && same b e.1) (not directed && (same b e.0 && same a e.1)) h)
  where
    by_side : ((same a e.0 && same b e.1) ≡ true) ⊎ ((not directed && (same b e.0 && same a e.1)) ≡ true) → (is_at a e ≡ true) × (is_at b e ≡ true)
    by_side (inl t) = let p = and_parts (same a e.0) (same b e.1) t in (at_either a e (inl p.0), at_either b e (inr p.1))
    by_side (inr t) = let p = and_parts (same b e.0) (same a e.1) (and_parts (not directed) (same b e.0 && same a e.1) t).1 in (at_either a e (inr p.1), at_either b e (inl p.0))

module _ (directed : Bool) (edges : List Edge) where
  within : (step : NetStep) (a : Elem) → ((e : Edge) → passes directed edges step e ≡ true → is_at a e ≡ true) → filter (passes directed edges step) (incident a edges) ≡ filter (passes directed edges step) edges
  within step a h = filter_within (passes directed edges step) (is_at a) h edges

  pub all_around : (step : NetStep) → filter (passes directed edges step) (around (centre step) edges) ≡ filter (passes directed edges step) edges
  all_around Nodes = refl
  all_around Edges = refl
  all_around (AdjacentNodes a) = within (AdjacentNodes a) a (λ e h. (and_parts (is_at a e) (is_first false edges e) h).0)
  all_around (Predecessors a) = within (Predecessors a) a (λ e h. enters_at directed a e (and_parts (enters directed a e) (is_first directed edges e) h).0)
  all_around (Successors a) = within (Successors a) a (λ e h. leaves_at directed a e (and_parts (leaves directed a e) (is_first directed edges e) h).0)
  all_around (IncidentEdges a) = within (IncidentEdges a) a (λ e h. h)
  all_around (InEdges a) = within (InEdges a) a (λ e h. enters_at directed a e h)
  all_around (OutEdges a) = within (OutEdges a) a (λ e h. leaves_at directed a e h)
  all_around (EdgesConnecting a b) = within (EdgesConnecting a b) a (λ e h. (joins_at directed a b e h).0)
  all_around (AdjacentEdges x) = refl
  all_around GraphNodes = refl
  all_around GraphEdges = refl
  all_around (GraphAdjacentNodes a) = within (GraphAdjacentNodes a) a (λ e h. (and_parts (is_at a e) (is_first false edges e) h).0)
  all_around (GraphPredecessors a) = within (GraphPredecessors a) a (λ e h. enters_at directed a e (and_parts (enters directed a e) (is_first directed edges e) h).0)
  all_around (GraphSuccessors a) = within (GraphSuccessors a) a (λ e h. leaves_at directed a e (and_parts (leaves directed a e) (is_first directed edges e) h).0)

  -- the edges that join two nodes are at either
  pub joining_around : (a b end : Elem) → (end ≡ a) ⊎ (end ≡ b) → filter (joins directed a b) (incident end edges) ≡ filter (joins directed a b) edges
  joining_around a b end (inl e) = filter_within (joins directed a b) (is_at end) (λ x h. ap (λ y. is_at y x) e ∙ (joins_at directed a b x h).0) edges
  joining_around a b end (inr e) = filter_within (joins directed a b) (is_at end) (λ x h. ap (λ y. is_at y x) e ∙ (joins_at directed a b x h).1) edges

-- an edge that passes is around the centre
pub passing_around : (directed : Bool) (edges : List Edge) (step : NetStep) (e : Edge) (k : ℕ) → slice_get edges k ≡ Some e → passes directed edges step e ≡ true → (m : ℕ) × (slice_get (around (centre step) edges) m ≡ Some e)
passing_around directed edges step e k f t =
    let c = some_among (passes directed edges step) edges k e f t in
    within_around (passes directed edges step) edges (centre step) (all_around directed edges step) c.0 e c.1
  where
    within_around : (test : Edge → Bool) (es : List Edge) (o : Option Elem) → filter test (around o es) ≡ filter test es → (i : ℕ) (z : Edge) → slice_get (filter test es) i ≡ Some z → (m : ℕ) × (slice_get (around o es) m ≡ Some z)
    within_around test es o equal i z g = some_before test (around o es) i z (ap (λ l. slice_get l i) equal ∙ g)
