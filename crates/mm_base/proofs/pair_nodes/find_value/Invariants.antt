use Rattle.std.proofs.Common.{◌≡◌, ℕ, List, drop, slice_get}
use Rattle.std.specs.List.{filter}
use Rattle.linked_base.specs.Thread.{links_at}
use Rattle.linked_base.specs.Group.{has, IsGroup}
use Rattle.mm_base.specs.PairNodes.{key_links, value_at}
use Rattle.mm_base.proofs.pair_nodes.find_value.Given as goal

abbrev pub invariant-loop-step : goal.invariant-loop-step
invariant-loop-step l =
    (ps : List ℕ) → IsGroup (links_at key_links l.nodes) l.group ps → (l.at ≡ slice_get ps l._step) × (filter (λ p. has l.v (value_at l.nodes p)) ps ≡ filter (λ p. has l.v (value_at l.nodes p)) (drop l._step ps))
