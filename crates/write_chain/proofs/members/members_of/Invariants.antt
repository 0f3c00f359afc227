use Rattle.std.proofs.Common.{◌≡◌, ◌||◌, length}
use Rattle.std.specs.List.{list_any}
use Rattle.elem.specs.declared.elements.Elem.{Elem}
use Rattle.base_store.specs.Stored.{view_in}
use Rattle.read_chain.specs.Walks.{IsWalk, to_come}
use Rattle.machine.specs.Shown.{has_key}
use Rattle.machine.specs.Views.{shown}
use Rattle.write_chain.specs.Members.{is_member}
use Rattle.write_chain.proofs.members.members_of.Given as goal

abbrev pub invariant-loop-item : goal.invariant-loop-item
invariant-loop-item g l = record {
  walk : IsWalk l.store l.walk;
  rest : (x : Elem) → is_member l.members x || list_any (has_key x) (to_come l.store l.walk) ≡ list_any (has_key x) (shown l.store.world (view_in l.store l.fn.n));
}

abbrev pub decreases-loop-item : goal.decreases-loop-item
decreases-loop-item g l = length (to_come l.store l.walk)
