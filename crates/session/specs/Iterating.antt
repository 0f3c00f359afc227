-- A word of an iterator comes on a store.
use Rattle.std.specs.Prelude.{◌≡◌, ℕ, List, Option, Some, Result}
use Rattle.base_store.specs.Stored.{Stored}
use Rattle.cursor_seat.specs.declared.seat.Seat.{Seat}
use Rattle.cursor_seat.specs.Seats.{iterator_in}
use Rattle.machine.specs.Iterating.{iterated}
use Rattle.machine.specs.State.{Names, bound, named as bound_to, to_iterator}
use Rattle.session.specs.declared.faults.ExecFault.{ExecFault}
use Rattle.session.specs.Coming.{seen_as}
use Rattle.session.specs.Executing.{Executed}
use Rattle.session.specs.Later.{AreLater}
use Rattle.vocabulary.specs.declared.lines.OnIterator.{OnIterator}

-- An iterator did what a word asks: its name stands for the iterator that it is then, and the bases, at a later time, are
-- what is left.
pub record Turned {T : Type 0} (result : Result T ExecFault) (before now : Stored) (seat moved : Seat) (word : Option OnIterator) (told told' : Option (List ℕ)) (faults faults' : ℕ) : Type 0 where
  pub nodes : now.nodes ≡ before.nodes
  pub lasting : now.lasting ≡ before.lasting
  pub handles : now.handles ≡ before.handles
  pub later : AreLater before.world now.world
  pub executed : (names : Names) (name : List ℕ) → bound_to names name ≡ Some (to_iterator (iterator_in before seat))
      → Executed result (seen_as before names) (seen_as now (bound names name (to_iterator (iterator_in now moved)))) (iterated (seen_as before names) name (iterator_in before seat) word) told told' faults faults'
