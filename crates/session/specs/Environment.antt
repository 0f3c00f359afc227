-- The bases and names of a session, seen as the state of the plain machine.
use Rattle.std.specs.Prelude.{◌≡◌, ℕ, ◌<◌, List, [], ◌∷◌, length, map}
use Rattle.std.specs.List.{AllByRecursion}
use Rattle.base_store.specs.Nodes.{view_at}
use Rattle.base_store.specs.Stored.{Stored}
use Rattle.base_store.specs.declared.store.Made.{Made}
use Rattle.cursor_seat.specs.declared.seat.Seat.{Seat}
use Rattle.cursor_seat.specs.Seats.{Fits}
use Rattle.cursor_seat.specs.Stands.{has_given}
use Rattle.machine.specs.Iterators.{Iterator}
use Rattle.machine.specs.State.{Bound, Names, to_iterator, to_view}
use Rattle.session.specs.declared.bound.Bound.{Bound as Held}
use Rattle.session.specs.declared.bound.Bound.TheVariants as held

-- the names, each with what the session holds under it
abbrev pub Entries : Type 0
Entries = List (List ℕ × Held)

-- the iterator that a seat in a node is
abbrev pub iterator_at : List Made → Seat → Iterator
iterator_at nodes seat = record { view = view_at nodes seat.node; seen = seat.seen; passed = seat.passed; given = has_given seat.stand }

-- what a name stands for
abbrev pub bound_at : List Made → Held → Bound
bound_at nodes (held.View n) = to_view (view_at nodes n)
bound_at nodes (held.Iterator seat) = to_iterator (iterator_at nodes seat)

-- the names with their views and iterators
abbrev pub named : List Made → Entries → Names
named nodes names = map (λ (e : List ℕ × Held). (e.0, bound_at nodes e.1)) names

-- the node behind a name
abbrev pub node_under : Held → ℕ
node_under (held.View n) = n
node_under (held.Iterator seat) = seat.node

-- each name stands for a node among so many
abbrev pub NamesWithin : ℕ → Entries → Type 0
NamesWithin n [] = Unit {0}
NamesWithin n (e ∷ names) = (node_under e.1 < n) × NamesWithin n names

-- the seat of an iterator fits the store
abbrev pub IsSeated : Stored → Held → Type 0
IsSeated store (held.View n) = Unit {0}
IsSeated store (held.Iterator seat) = Fits store seat

abbrev pub AreSeated : Stored → Entries → Type 0
AreSeated store names = AllByRecursion (λ (e : List ℕ × Held). IsSeated store e.1) names

-- between lines no node is temporary, each name has a node, and each seat fits
pub record IsSettled (store : Stored) (names : Entries) : Type 0 where
  pub still : length store.nodes ≡ store.lasting
  pub named_within : NamesWithin store.lasting names
  pub seated : AreSeated store names
