-- Seats: the iterator that a seat stands for, when a seat fits a store, and what its calls leave.
use Rattle.std.specs.Prelude.{◌≡◌, ℕ, ◌+◌, ◌<◌, ◌≤◌, true, false, List, [], ◌∷◌, drop, if◌then◌else◌, length, Some, Result, Ok, Err}
use Rattle.base_store.specs.Courses.{spots_in}
use Rattle.base_store.specs.Stored.{Stored, view_in, with_world}
use Rattle.cursor_seat.specs.declared.seat.Seat.{Seat}
use Rattle.cursor_seat.specs.declared.seeking.Sought.{Sought}
use Rattle.cursor_seat.specs.Stands.{StandsBehind, has_given}
use Rattle.machine.specs.Bases.{base_at}
use Rattle.machine.specs.Candidates.{Candidate}
use Rattle.machine.specs.Iterators.{Iterator, changes, first_seen, is_passed_by, next_of, removed, world_without}
use Rattle.machine.specs.MadeViews.{IsMade}
use Rattle.machine.specs.Views.{View, candidates}
use Rattle.view_laws.specs.declared.places.Place.{Place}
use Rattle.view_laws.specs.Spots.{TellAll}
use Rattle.view_laws.specs.ViewPlaces.{places}
use Rattle.view_steps.specs.KnownViews.{is_known_view, number_under}
use Rattle.vocabulary.specs.declared.items.Item.{Item}
use Rattle.vocabulary.specs.declared.refusals.Refusal.{Refusal}
use Rattle.vocabulary.specs.Known.{is_known_kind}

abbrev pub seat_view : Stored → Seat → View
seat_view s seat = view_in s seat.node

-- the places of the candidates of a node, in the order of its walk
abbrev pub places_in : Stored → ℕ → List Place
places_in s n = places s.world (spots_in s.world) (view_in s n)

-- the iterator that a seat stands for
abbrev pub iterator_in : Stored → Seat → Iterator
iterator_in s seat = record { view = seat_view s seat; seen = seat.seen; passed = seat.passed; given = has_given seat.stand }

-- ---- to fit

-- each of these numbers, and none above that of its base
abbrev pub AreUpTo : List ℕ → List ℕ → Type 0
AreUpTo [] [] = Unit {0}
AreUpTo [] (n ∷ ns) = ⊥
AreUpTo (m ∷ ms) [] = ⊥
AreUpTo (m ∷ ms) (n ∷ ns) = (m ≤ n) × AreUpTo ms ns

-- a node of a store that holds what a store keeps of its nodes: the view of each is a known one over a base of the store, and
-- the spots of the rows tell these apart
pub record IsThere (s : Stored) (n : ℕ) : Type 0 where
  pub node : n < length s.nodes
  pub within : number_under (view_in s n) < length s.world
  pub known : is_known_view (view_in s n) ≡ true
  pub kind : is_known_kind (base_at s.world (number_under (view_in s n))).kind ≡ true
  pub made : IsMade s.world (view_in s n)
  pub tell : TellAll s.world (spots_in s.world)

-- A seat fits a store: its node is there, it knows of no change to come, and where it is not stale it stands behind as many
-- candidates as it has passed.
pub record Fits (s : Stored) (seat : Seat) : Type 0 where
  pub there : IsThere s seat.node
  pub seen : AreUpTo seat.seen (changes s.world (seat_view s seat))
  pub stands : is_passed_by s.world (iterator_in s seat) ≡ false → StandsBehind (places_in s seat.node) seat.passed seat.stand

-- ---- what is ahead

-- the candidates that a seat still has to pass
abbrev pub ahead_of : Stored → Seat → List Candidate
ahead_of s seat = drop seat.passed (candidates s.world (seat_view s seat))

-- how many hidden candidates come before the first seen one, or in all
abbrev pub hidden_ahead : List Candidate → ℕ
hidden_ahead [] = 0
hidden_ahead (c ∷ cs) = if c.seen then 0 else hidden_ahead cs + 1

-- the first seen candidate behind so many, its number, and what stands behind it
pub record IsSought (s : Stored) (n from : ℕ) (it : Sought) : Type 0 where
  pub index : ℕ
  pub passed : it.passed ≡ index + 1
  pub given : has_given it.stand ≡ true
  pub stands : StandsBehind (places_in s n) it.passed it.stand
  pub first : first_seen from (drop from (candidates s.world (view_in s n))) ≡ Some (index, it.item)

-- ---- what calls leave

-- an item came, and the seat stands behind it; or the call was refused, and the seat stands where it stood
abbrev pub NextCame : Result Item Refusal → Stored → Seat → Seat → Type 0
NextCame (Ok item) s before now = next_of s.world (iterator_in s before) ≡ Ok (item, iterator_in s now)
NextCame (Err why) s before now = (next_of s.world (iterator_in s before) ≡ Err why) × (now ≡ before)

-- what a seat gave last went from the store, and nothing else happened
pub record Gone (before : Stored) (seat : Seat) (now : Stored) : Type 0 where
  pub fits : Fits before seat
  pub fresh : is_passed_by before.world (iterator_in before seat) ≡ false
  pub given : has_given seat.stand ≡ true
  pub went : now ≡ with_world before (world_without before.world (iterator_in before seat))

-- what was given went, and the seat stands where it stood before it gave it; or the call was refused, and nothing changed
abbrev pub RemoveCame : Result (Unit {0}) Refusal → Stored → Stored → Seat → Seat → Type 0
RemoveCame (Ok u) before now seat back = (removed before.world (iterator_in before seat) ≡ Ok (iterator_in now back, now.world)) × (now ≡ with_world before now.world)
RemoveCame (Err why) before now seat back = (removed before.world (iterator_in before seat) ≡ Err why) × (now ≡ before) × (back ≡ seat)
