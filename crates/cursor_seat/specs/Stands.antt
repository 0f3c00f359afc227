-- Where a seat stands among the places of its view's candidates.
use Rattle.std.specs.Prelude.{◌≡◌, ℕ, zero, suc, Bool, true, false, List, Option, None, Some, option_map, slice_get}
use Rattle.cursor_seat.specs.declared.stand.Stand.{Stand}
use Rattle.cursor_seat.specs.declared.stand.Stand.TheVariants.{Behind, Gave}
use Rattle.cursor_seat.specs.Dropped.{after_drop}
use Rattle.view_laws.specs.declared.places.Place.{Place}

-- the place of the candidate passed last
abbrev pub last_place : Stand → Option Place
last_place (Behind last) = last
last_place (Gave before at) = Some at

-- whether an item was given and its candidate not removed since
abbrev pub has_given : Stand → Bool
has_given (Behind last) = false
has_given (Gave before at) = true

-- behind the candidate before the one that was given, once that is gone
abbrev pub behind_gone : Stand → Stand
behind_gone (Behind last) = Behind last
behind_gone (Gave before at) = Behind (option_map (after_drop at.spot) before)

-- the last of the first so many places, or none
abbrev pub IsLast : List Place → ℕ → Option Place → Type 0
IsLast ps zero None = Unit {0}
IsLast ps zero (Some p) = ⊥
IsLast ps (suc i) None = ⊥
IsLast ps (suc i) (Some p) = slice_get ps i ≡ Some p

-- behind the first so many places
abbrev pub StandsBehind : List Place → ℕ → Stand → Type 0
StandsBehind ps passed (Behind last) = IsLast ps passed last
StandsBehind ps zero (Gave before at) = ⊥
StandsBehind ps (suc i) (Gave before at) = IsLast ps i before × (slice_get ps i ≡ Some at)
