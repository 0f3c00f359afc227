use Rattle.std.proofs.Common.{◌≡◌, ℕ, List, ◌++◌, Option, None}
use Rattle.elem.specs.declared.elements.Elem.{Elem}
use Rattle.linked_base.specs.declared.links.Ends.{Ends}
use Rattle.linked_base.specs.declared.group.Group.{Group}
use Rattle.linked_base.specs.Thread.{last_or}
use Rattle.mm_base.specs.PairNodes.{is_head, ArePairs}
use Rattle.linked_base.proofs.Walks.{WalkedBack}
use Rattle.mm_base.proofs.heads.previous_head.Given as goal

abbrev pub invariant-loop-step : goal.invariant-loop-step
invariant-loop-step l =
    (us vs : List ℕ) (all : Ends) (find : Elem → Option Group) → ArePairs l.nodes all find (us ++ vs) → l.fn.from ≡ last_or None us → WalkedBack (is_head l.nodes) us l.at l._step
