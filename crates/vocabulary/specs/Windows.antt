-- The rule of `within`: which ranges a view with a window takes, and the window that it then gives.
use Rattle.std.specs.Prelude.{Bool, true, ◌&&◌}
use Rattle.elem.specs.declared.cuts.Cut.{Cut}
use Rattle.elem.specs.declared.cuts.Cut.TheVariants.{Start, End}
use Rattle.elem.specs.declared.windows.Window.{Window}
use Rattle.vocabulary.specs.declared.orders.Order.{Order}
use Rattle.vocabulary.specs.declared.steps.Step.{Step}
use Rattle.vocabulary.specs.declared.steps.Step.TheVariants.{Within}
use Rattle.vocabulary.specs.Orders.{upto}

-- a cut at or between the two cuts of a window
abbrev pub stands_in : Order → Window → Cut → Bool
stands_in order w c = upto order w.lo c && upto order c w.hi

-- an end of a range stands in the window below, or is left open
abbrev pub low_fits : Order → Window → Cut → Bool
low_fits order below Start = true
low_fits order below c = stands_in order below c

abbrev pub high_fits : Order → Window → Cut → Bool
high_fits order below End = true
high_fits order below c = stands_in order below c

-- a range whose ends are in order, and stand in the window below where they are given
abbrev pub takes_range : Order → Window → Window → Bool
takes_range order below range = upto order range.lo range.hi && low_fits order below range.lo && high_fits order below range.hi

-- an end that is left open is that of the window below
abbrev pub low_end : Cut → Cut → Cut
low_end below Start = below
low_end below c = c

abbrev pub high_end : Cut → Cut → Cut
high_end below End = below
high_end below c = c

-- the window of a range on a view with a window
abbrev pub resulting : Window → Window → Window
resulting below range = record { lo = low_end below.lo range.lo; hi = high_end below.hi range.hi }

-- ---- steps on a view whose base has this order, and which has the window below

-- the window of the step over the view
abbrev pub window_over : Step → Window → Window
window_over (Within order w) below = w
window_over step below = below

-- whether the view takes the step's argument
abbrev pub takes_argument : Order → Window → Step → Bool
takes_argument order below (Within asked range) = takes_range order below range
takes_argument order below step = true

-- the step as it is kept
abbrev pub kept_on : Order → Window → Step → Step
kept_on order below (Within asked range) = Within order (resulting below range)
kept_on order below step = step
