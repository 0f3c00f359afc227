-- The number of a place, as an element.
use Rattle.std.specs.Prelude.{ℕ, ◌-◌, cond, nat_lt, pos, negsuc}
use Rattle.elem.specs.declared.elements.Elem.{Elem}
use Rattle.elem.specs.declared.elements.Elem.TheVariants.{Int}

-- the places from 2 ^ 63 on have the negative numbers
abbrev pub number : ℕ → Elem
number p = cond (nat_lt p 9223372036854775808) (Int (pos p)) (Int (negsuc (p - 9223372036854775808)))
