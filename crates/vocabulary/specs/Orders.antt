-- The orders of sorted bases, and windows read in them.
use Rattle.std.specs.Prelude.{Bool, true, false, ◌&&◌}
use Rattle.elem.specs.declared.elements.Elem.{Elem}
use Rattle.elem.specs.declared.cuts.Cut.{Cut}
use Rattle.elem.specs.declared.cuts.Cut.TheVariants.{Start, End}
use Rattle.elem.specs.declared.windows.Window.{Window}
use Rattle.elem.specs.Cuts.{cut_upto, lies_between}
use Rattle.elem.specs.Orders.{IsStrictOrder, natural_before, reverse_before, length_before}
use Rattle.elem.specs.OrderLaws.{natural_before_strict, reverse_before_strict, length_before_strict}
use Rattle.vocabulary.specs.declared.orders.Order.{Order}
use Rattle.vocabulary.specs.declared.orders.Order.TheVariants.{Natural, Reverse, ByLength}

-- whether one element comes before another in the order
abbrev pub before : Order → Elem → Elem → Bool
before Natural = natural_before
before Reverse = reverse_before
before ByLength = length_before

pub before_strict : (order : Order) → IsStrictOrder (before order)
before_strict Natural = natural_before_strict
before_strict Reverse = reverse_before_strict
before_strict ByLength = length_before_strict

abbrev pub same_order : Order → Order → Bool
same_order Natural Natural = true
same_order Reverse Reverse = true
same_order ByLength ByLength = true
same_order a b = false

-- one cut at or before another
abbrev pub upto : Order → Cut → Cut → Bool
upto order c d = cut_upto (before order) c d

-- the window without ends
abbrev pub whole : Window
whole = record { lo = Start; hi = End }

-- an element between the two cuts of a window
abbrev pub lies_in : Order → Window → Elem → Bool
lies_in order w x = lies_between (before order) w.lo w.hi x

-- a window both of whose cuts stand at or between those of another
abbrev pub encloses : Order → Window → Window → Bool
encloses order outer inner = upto order outer.lo inner.lo && upto order inner.hi outer.hi
