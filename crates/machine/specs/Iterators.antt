-- Iterators: what one keeps, and what its three calls answer and leave.
use Rattle.std.specs.Cmp.Lexicographic.{pointwise}
use Rattle.vocabulary.specs.declared.refusals.Refusal.TheVariants.{ConcurrentModification, NoSuchElement, UnsupportedOperation, IllegalState}
use Rattle.std.specs.Prelude.{ℕ, ◌+◌, ◌-◌, Bool, true, false, not, nat_eq, if◌then◌else◌, List, [], ◌∷◌, map, drop, slice_get, Option, None, Some, is_some, Result, Ok, Err}
use Rattle.vocabulary.specs.declared.items.Item.{Item}
use Rattle.vocabulary.specs.declared.refusals.Refusal.{Refusal}
use Rattle.machine.specs.Answering.{unless_refused}
use Rattle.machine.specs.Bases.{World, base_at}
use Rattle.machine.specs.CallEdits.{rows_of_first}
use Rattle.machine.specs.Candidates.{Candidate}
use Rattle.machine.specs.Edits.{an_edit, removing, world_after}
use Rattle.machine.specs.Reading.{first_refusal}
use Rattle.machine.specs.Sublists.{refreshed, sublists_on}
use Rattle.machine.specs.Views.{View, base_under, bases_of, candidates, flags_at, root}

-- the view, the change numbers of its bases that were seen, how many candidates were passed, and whether the last of them was
-- given and not removed
pub record Iterator : Type 0 where
  pub view : View
  pub seen : List ℕ
  pub passed : ℕ
  pub given : Bool

-- the change numbers of the bases of a view
abbrev pub changes : World → View → List ℕ
changes world v = map (λ b. (base_at world b).change) (bases_of v)

-- an iterator at the start
abbrev pub iterator_over : World → View → Iterator
iterator_over world v = record { view = v; seen = changes world v; passed = 0; given = false }

abbrev pub is_passed_by : World → Iterator → Bool
is_passed_by world it = not (pointwise nat_eq (changes world it.view) it.seen)

abbrev pub passed_refusal : World → Iterator → Option Refusal
passed_refusal world it = if is_passed_by world it then Some ConcurrentModification else None

-- the number and the item of the first seen candidate, where the first candidate has the number n
abbrev pub first_seen : ℕ → List Candidate → Option (ℕ × Item)
first_seen n [] = None
first_seen n (c ∷ cs) = if c.seen then Some (n, c.item) else first_seen (n + 1) cs

-- what comes next
abbrev pub ahead : World → Iterator → Option (ℕ × Item)
ahead world it = first_seen it.passed (drop it.passed (candidates world it.view))

-- ---- hasNext

abbrev pub has_next : World → Iterator → Result Bool Refusal
has_next world it = unless_refused (passed_refusal world it) (Ok (is_some (ahead world it)))

-- ---- next: the item, and the iterator behind it

abbrev pub passed_on : Iterator → Option (ℕ × Item) → Result (Item × Iterator) Refusal
passed_on it None = Err NoSuchElement
passed_on it (Some found) = Ok (found.1, record { view = it.view; seen = it.seen; passed = found.0 + 1; given = true })

abbrev pub next_of : World → Iterator → Result (Item × Iterator) Refusal
next_of world it = unless_refused (passed_refusal world it) (passed_on it (ahead world it))

-- ---- remove: the iterator that has seen its own change, and the bases

-- in this order: a missing leave, nothing to remove, a change that was not seen
abbrev pub remove_refusal : World → Iterator → Option Refusal
remove_refusal world it =
    first_refusal (if (flags_at world it.view).iterate then None else Some UnsupportedOperation)
    (first_refusal (if it.given then None else Some IllegalState) (passed_refusal world it))

abbrev pub after_removal : World → World → Iterator → Iterator
after_removal before after it =
    let v = refreshed (sublists_on it.view) (root before it.view) (root after it.view) it.view in
    record { view = v; seen = changes after v; passed = it.passed - 1; given = false }

-- the rows of the candidate passed last
abbrev pub rows_given : World → Iterator → List ℕ
rows_given world it = rows_of_first (slice_get (candidates world it.view) (it.passed - 1))

abbrev pub world_without : World → Iterator → World
world_without world it = world_after world (base_under it.view).number (an_edit (removing (rows_given world it)))

abbrev pub removed : World → Iterator → Result (Iterator × World) Refusal
removed world it = unless_refused (remove_refusal world it) (Ok (after_removal world (world_without world it) it, world_without world it))
