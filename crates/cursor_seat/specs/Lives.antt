-- The life of an iterator over bases that stay as they are: it gives what the view shows, in order, each once.
use Rattle.std.specs.Prelude.{◌≡◌, ℕ, zero, suc, List, [], ◌∷◌, drop, filter, map, take, Result, Ok, Err}
use Rattle.machine.specs.Bases.{World}
use Rattle.machine.specs.Candidates.{is_seen, item_in}
use Rattle.machine.specs.Iterators.{Iterator, iterator_over, next_of}
use Rattle.machine.specs.Views.{View, candidates, shown}
use Rattle.vocabulary.specs.declared.items.Item.{Item}
use Rattle.vocabulary.specs.declared.refusals.Refusal.{Refusal}

-- the items that an iterator still has to give
abbrev pub to_give : World → Iterator → List Item
to_give world it = map item_in (filter is_seen (drop it.passed (candidates world it.view)))

-- what was given, and the iterator behind it
abbrev pub Life : Type 0
Life = List Item × Iterator

abbrev pub and_then : (Iterator → Life) → Iterator → Result (Item × Iterator) Refusal → Life
and_then more it (Err why) = ([], it)
and_then more it (Ok found) = (found.0 ∷ (more found.1).0, (more found.1).1)

-- what so many calls of next give, until one is refused
abbrev pub given_by : ℕ → World → Iterator → Life
given_by zero world it = ([], it)
given_by (suc k) world it = and_then (given_by k world) it (next_of world it)

-- that is the front of what the view shows, and the rest is still to be given
abbrev pub GivesInOrder : Type 0
GivesInOrder =
    (world : World) (v : View) (k : ℕ)
    → ((given_by k world (iterator_over world v)).0 ≡ take k (shown world v)) × (to_give world (given_by k world (iterator_over world v)).1 ≡ drop k (shown world v))
