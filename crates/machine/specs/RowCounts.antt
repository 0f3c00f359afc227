-- How many rows there are: those of a bag are its distinct elements.
use Rattle.std.specs.Prelude.{ℕ, ◌+◌, ◌≤◌, [], ◌∷◌, length, map, if◌then◌else◌}
use Rattle.machine.specs.Bases.{Base, World}
use Rattle.machine.specs.KeyOrders.{each_once}
use Rattle.vocabulary.specs.Items.{key_of}
use Rattle.vocabulary.specs.Kinds.{shape_of_kind}
use Rattle.vocabulary.specs.Shapes.{is_bag}

abbrev pub rows_of : Base → ℕ
rows_of it = if is_bag (shape_of_kind it.kind) then length (each_once (map key_of it.rows)) else length it.rows

-- the rows of all bases together
abbrev pub rows_in : World → ℕ
rows_in [] = 0
rows_in (it ∷ world) = rows_of it + rows_in world

-- no change number is above n
abbrev pub ChangesUpTo : ℕ → World → Type 0
ChangesUpTo n [] = Unit {0}
ChangesUpTo n (it ∷ world) = (it.change ≤ n) × ChangesUpTo n world
