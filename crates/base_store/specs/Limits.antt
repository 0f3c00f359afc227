-- How many handles there are at most.
use Rattle.std.specs.Prelude.{ℕ}

-- the most bases and steps behind names
abbrev pub most_handles : ℕ
most_handles = 65536
