-- Where items go that are added to a view: the spots of their rows.
use Rattle.std.specs.Prelude.{ℕ, ◌-◌, Bool, false, not, if◌then◌else◌, get_or, length, Option, None, Some, ◌+◌}
use Rattle.vocabulary.specs.declared.edits.Spot.{Spot}
use Rattle.vocabulary.specs.declared.edits.Spot.TheVariants.{Own, Swapped, Before, Instead, InKey}
use Rattle.vocabulary.specs.declared.steps.PlainStep.TheVariants.{Reverse, Inverse}
use Rattle.vocabulary.specs.declared.steps.Step.TheVariants.{Plain, At, Sub, Piece}
use Rattle.machine.specs.Bases.{World}
use Rattle.machine.specs.Candidates.{Candidate}
use Rattle.machine.specs.Views.{View, base, both, over, shown}

-- ---- in a bimap

-- whether keys and values of the base stand exchanged in a view
abbrev pub is_swapped : View → Bool
is_swapped (base l) = false
is_swapped (over (Plain Inverse) v) = not (is_swapped v)
is_swapped (over step v) = is_swapped v
is_swapped (both word v u) = false

-- where a row goes by itself
abbrev pub own_spot : View → Spot
own_spot v = if is_swapped v then Swapped else Own

-- ---- in a list, of which an item that comes is the j-th to come

-- the spot of an item that is to be item i of a list: counted from the other end below a step that turns the list round,
-- and from the start of a sublist
abbrev pub gap : World → View → ℕ → ℕ → Spot
gap world (base l) j i = Before i
gap world (over (Plain Reverse) v) j i = gap world v j (length (shown world v) + j - i)
gap world (over (Sub n s) v) j i = gap world v j (s.start + i)
gap world (over (Piece n s) v) j i = gap world v j (s.start + i)
gap world (over (At side k n) v) j i = InKey i
gap world (over step v) j i = gap world v j i
gap world (both word v u) j i = Own

-- the spot of an item that is added at the end of a view: where a list is turned round, at its front below, and in a
-- sublist at the end of that
abbrev pub end_spot : World → View → ℕ → Spot
end_spot world (base l) j = Own
end_spot world (over (Plain Reverse) v) j = gap world v j 0
end_spot world (over (Sub n s) v) j = gap world v j (s.start + s.len + j)
end_spot world (over (Piece n s) v) j = gap world v j (s.start + s.len + j)
end_spot world (over step v) j = end_spot world v j
end_spot world (both word v u) j = Own

-- the spot of an item that comes in the place of a candidate
abbrev pub place_of : Option Candidate → Spot
place_of None = Own
place_of (Some c) = Instead (get_or c.rows 0 0)
