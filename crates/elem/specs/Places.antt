-- Cuts between whole numbers as places, counted from the start of the order.
use Rattle.std.specs.Prelude.{◌≡◌, ℕ, ◌+◌, ◌-◌, ◌*◌, ◌^◌, ◌<◌, ◌≤◌, ◌⊎◌, ℤ, pos, negsuc}
use Rattle.elem.specs.declared.elements.Elem.TheVariants.{Int, Text}
use Rattle.elem.specs.declared.cuts.Cut.{Cut}
use Rattle.elem.specs.declared.cuts.Cut.TheVariants.{Start, Below, Above, End}

-- twice a number, counted from the start, which lies 2 ^ 66 below 0
abbrev pub place_below : ℤ → ℕ
place_below (pos n) = 2 ^ 66 + 2 * n
place_below (negsuc n) = 2 ^ 66 - 2 * (n + 1)

-- the cut below a number lies at twice the number, the cut above it one further, and the end 2 ^ 66 above 0
abbrev pub place : Cut → ℕ
place Start = 0
place (Below (Int n)) = place_below n
place (Below (Text w)) = 0
place (Above (Int n)) = place_below n + 1
place (Above (Text w)) = 0
place End = 2 ^ 67

-- the place of an end of the order, or of a cut beside a number of 64 bits
abbrev pub IsPlace : ℕ → Type 0
IsPlace n = (n ≡ 0) ⊎ (n ≡ 2 ^ 67) ⊎ ((2 ^ 66 - 2 ^ 64 ≤ n) × (n < 2 ^ 66 + 2 ^ 64))
