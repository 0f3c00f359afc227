-- Where a walk after an edge of a set begins.
use Rattle.std.proofs.Common.{◌≡◌, ◌+◌, ℕ, Bool, true, false, List, drop, Option, Some, None, sym, ap, ◌∙◌, subst, arith, slice_get}
use Rattle.std.specs.List.{filter, IsDistinct}
use Rattle.elem.specs.declared.elements.Elem.{Elem}
use Rattle.elem.specs.Elements.{same}
use Rattle.graph_base.specs.Edges.{Edge}
use Rattle.network_base.specs.declared.net_steps.NetStep.{NetStep}
use Rattle.network_base.specs.Networks.{names, ends_of}
use Rattle.network_base.specs.Shown.{centre, around, passes, edge_after}
use Rattle.network_base.proofs.Passing.{IsOnward}
use Rattle.network_base.proofs.Centres.{all_around, passing_around}
use Rattle.network_base.proofs.EdgeAfter.{numbered, absent_after, failing_after, start_after}

module _ (directed : Bool) (edges : List Edge) (step : NetStep) (x : Elem) where
  abbrev pub after_here : Option Edge
  after_here = edge_after x (filter (passes directed edges step) edges)

  pub none_here : ends_of x edges ≡ None → after_here ≡ None
  none_here e = absent_after (passes directed edges step) x edges e

  module _ (distinct : IsDistinct same (names edges)) (p : Elem × Elem) (e : ends_of x edges ≡ Some p) where
    pub fails_here : passes directed edges step (p.0, p.1, x) ≡ false → after_here ≡ None
    fails_here t = let k = numbered x edges p e in failing_after (passes directed edges step) edges k.0 (p.0, p.1, x) distinct k.1 t

    module _ (t : passes directed edges step (p.0, p.1, x) ≡ true) (o : Option Elem) (c : o ≡ centre step) where
      pub place_here : (m : ℕ) × (slice_get (around o edges) m ≡ Some (p.0, p.1, x))
      place_here =
          let k = numbered x edges p e in
          subst (λ a. (m : ℕ) × (slice_get (around a edges) m ≡ Some (p.0, p.1, x))) (sym c) (passing_around directed edges step (p.0, p.1, x) k.0 k.1 t)

      pub first_here : slice_get (filter (passes directed edges step) (drop (place_here.0 + 1) (around o edges))) 0 ≡ after_here
      first_here = start_after (passes directed edges step) o edges place_here.0 (p.0, p.1, x) distinct place_here.1 t ∙ ap (λ a. edge_after x (filter (passes directed edges step) (around a edges))) c ∙ ap (edge_after x) (all_around directed edges step)

      pub start_here : (at : Option Edge) → at ≡ slice_get (around o edges) (place_here.0 + 1) → IsOnward (passes directed edges step) (around o edges) after_here 0 at
      start_here at h = record {
        number = place_here.0 + 1;
        far = omega arith;
        walking = record {
          here = h;
          rest = first_here;
        };
      }
