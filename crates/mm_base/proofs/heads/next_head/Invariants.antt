use Rattle.std.proofs.Common.{◌≡◌, ℕ, List, ◌++◌, Option, None}
use Rattle.elem.specs.declared.elements.Elem.{Elem}
use Rattle.linked_base.specs.declared.links.Ends.{Ends}
use Rattle.linked_base.specs.declared.group.Group.{Group}
use Rattle.linked_base.specs.Thread.{head_or}
use Rattle.mm_base.specs.PairNodes.{is_head, ArePairs}
use Rattle.linked_base.proofs.Walks.{WalkedOn}
use Rattle.mm_base.proofs.heads.next_head.Given as goal

abbrev pub invariant-loop-step : goal.invariant-loop-step
invariant-loop-step l =
    (us vs : List ℕ) (all : Ends) (find : Elem → Option Group) → ArePairs l.nodes all find (us ++ vs) → l.fn.from ≡ head_or None vs → WalkedOn (is_head l.nodes) vs l.at l._step
