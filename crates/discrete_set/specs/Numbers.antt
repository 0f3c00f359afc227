-- The numbers of 64 bits by their ranks.
use Rattle.std.specs.Prelude.{ℕ, ◌+◌, ◌-◌, ◌*◌, ◌/◌, ◌^◌, min, ℤ, pos, negsuc, ◌-ℤ◌}

-- how many numbers of 64 bits lie below a number
abbrev pub rank : ℤ → ℕ
rank (pos n) = 2 ^ 63 + n
rank (negsuc n) = 2 ^ 63 - (n + 1)

-- the number below which so many lie
abbrev pub number : ℕ → ℤ
number n = pos n -ℤ pos (2 ^ 63)

-- the unit of that number: it begins at the place of the cut below it
abbrev pub unit_at : ℕ → ℕ
unit_at n = 2 ^ 66 - 2 ^ 64 + 2 * n

-- how many numbers of 64 bits have their units below a place
abbrev pub numbers_below : ℕ → ℕ
numbers_below p = min (2 ^ 64) ((p - (2 ^ 66 - 2 ^ 64) + 1) / 2)
