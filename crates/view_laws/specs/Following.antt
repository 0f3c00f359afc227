-- Walks along a list: what stands in it, and what follows.
use Rattle.std.specs.Prelude.{◌≡◌, ℕ, ◌+◌, List, Option, None, Some, slice_get}

module _ {X : Type 0} where
  -- one of the list, or none, which stands before the first
  abbrev pub IsFrom : List X → Option X → Type 0
  IsFrom xs None = Unit {0}
  IsFrom xs (Some x) = (i : ℕ) × (slice_get xs i ≡ Some x)

  -- what follows another, wherever in the list that stands; none follows the last
  abbrev pub Follows : List X → Option X → Option X → Type 0
  Follows xs None to = slice_get xs 0 ≡ to
  Follows xs (Some x) to = (i : ℕ) → slice_get xs i ≡ Some x → slice_get xs (i + 1) ≡ to
