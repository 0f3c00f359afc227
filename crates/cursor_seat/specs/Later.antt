-- What becomes of seats while others change the bases.
use Rattle.std.specs.Prelude.{◌≡◌, ◌≢◌, ◌↔◌, ◌⊎◌, ℕ, ◌+◌, ◌<◌, ◌≤◌, Bool, true, false, if◌then◌else◌, length, map}
use Rattle.std.specs.List.{AllByRecursion}
use Rattle.base_store.specs.Courses.{spots_in}
use Rattle.base_store.specs.Stored.{Stored}
use Rattle.cursor_seat.specs.declared.seat.Seat.{Seat}
use Rattle.cursor_seat.specs.Seats.{Fits, iterator_in, seat_view}
use Rattle.machine.specs.Bases.{Base, base_at}
use Rattle.machine.specs.Edits.{Coming, Edit, edited, is_structural, placed_all, without_rows}
use Rattle.machine.specs.Iterators.{changes, is_passed_by}
use Rattle.view_laws.specs.Spots.{TellAll}
use Rattle.vocabulary.specs.declared.edits.Spot.TheVariants.{Instead, Own, Before, Swapped}
use Rattle.vocabulary.specs.declared.kinds.Kind.{Kind}
use Rattle.vocabulary.specs.Items.{key_of}
use Rattle.vocabulary.specs.Kinds.{shape_of_kind}
use Rattle.vocabulary.specs.Known.{is_known_kind}
use Rattle.vocabulary.specs.Shapes.{is_bimap, is_keyed}

-- as many rows, and in a set or a map the same keys in the same order
pub record SameSpots (before after : Base) : Type 0 where
  pub many : length after.rows ≡ length before.rows
  pub keys : is_keyed (shape_of_kind before.kind) ≡ true → map key_of after.rows ≡ map key_of before.rows

-- a base at a later time: of the same kind, its change number no lower, and with the same spots while that stays
pub record IsLater (before after : Base) : Type 0 where
  pub kind : after.kind ≡ before.kind
  pub change : before.change ≤ after.change
  pub still : after.change ≡ before.change → SameSpots before after

-- a store at a later time, in which the node of a seat is there and its view is what it was
pub record IsLaterFor (before now : Stored) (seat : Seat) : Type 0 where
  pub node : seat.node < length now.nodes
  pub view : seat_view now seat ≡ seat_view before seat
  pub more : length before.world ≤ length now.world
  pub bases : (b : ℕ) → b < length before.world → IsLater (base_at before.world b) (base_at now.world b)
  pub tell : TellAll now.world (spots_in now.world)

-- a seat goes on fitting: where no change number of its bases rose, it stands behind the same places
abbrev pub StillFits : Type 0
StillFits = (before now : Stored) (seat : Seat) → IsLaterFor before now seat → Fits before seat → Fits now seat

-- a seat is stale exactly where it was, or where a change number of its bases rose
abbrev pub StaleAfter : Type 0
StaleAfter = (before now : Stored) (seat : Seat) → IsLaterFor before now seat → Fits before seat
    → (is_passed_by now.world (iterator_in now seat) ≡ true) ↔ ((is_passed_by before.world (iterator_in before seat) ≡ true) ⊎ (changes now.world (seat_view now seat) ≢ changes before.world (seat_view before seat)))

-- ---- edits

-- only in a list a row takes the place of another by number, and only in a bimap it goes by its value
abbrev pub IsSpotFor : Kind → Coming → Type 0
IsSpotFor kind (Own, row) = Unit {0}
IsSpotFor kind (Before i, row) = Unit {0}
IsSpotFor kind (Instead i, row) = is_keyed (shape_of_kind kind) ≡ false
IsSpotFor kind (Swapped, row) = is_bimap (shape_of_kind kind) ≡ true
IsSpotFor kind other = ⊥

-- whether an edit adds or removes rows of a base
abbrev pub is_change : Base → Edit → Bool
is_change it edit = let left = without_rows edit.gone 0 it.rows in is_structural it.kind it.rows left (placed_all it.kind left edit.added)

-- an edit leaves a base at a later time, and its change number rises by one where rows came or went, and else stays
abbrev pub EditLeaves : Type 0
EditLeaves = (it : Base) (edit : Edit) → is_known_kind it.kind ≡ true → AllByRecursion (IsSpotFor it.kind) edit.added → IsLater it (edited it edit) × ((edited it edit).change ≡ it.change + (if is_change it edit then 1 else 0))
