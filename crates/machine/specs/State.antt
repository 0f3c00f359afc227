-- The state of the plain machine: the bases, what each name stands for, and the number of handles.
use Rattle.std.specs.Prelude.{ℕ, List, [], ◌∷◌, map, nat_eq, Option, if◌then◌else◌}
use Rattle.std.specs.Cmp.Lexicographic.{pointwise}
use Rattle.std.specs.Map.{lookup}
use Rattle.machine.specs.Bases.{World}
use Rattle.machine.specs.Iterators.{Iterator}
use Rattle.machine.specs.Sublists.{refreshed, sublists_on}
use Rattle.machine.specs.Views.{View, root}

-- a name stands for a view, or for an iterator of its own
pub data Bound : Type 0 where
  to_view : View → Bound
  to_iterator : Iterator → Bound

abbrev pub Names : Type 0
Names = List (List ℕ × Bound)

pub record State : Type 0 where
  pub bases : World
  -- each name with what it stands for, the newest name last
  pub names : Names
  -- how many handles were taken
  pub handles : ℕ

-- nothing is there
abbrev pub empty : State
empty = record { bases = []; names = []; handles = 0 }

-- what a name stands for
abbrev pub named : Names → List ℕ → Option Bound
named names name = lookup (pointwise nat_eq name) names

-- the names with this one bound: it takes the new value, or comes last
abbrev pub bound : Names → List ℕ → Bound → Names
bound [] name it = (name, it) ∷ []
bound (known ∷ names) name it = if pointwise nat_eq name known.0 then (known.0, it) ∷ names else known ∷ bound names name it

-- ---- a write through a view: the sublists on its path have seen it, wherever they stand

abbrev pub over_views : (View → View) → Bound → Bound
over_views f (to_view v) = to_view (f v)
over_views f (to_iterator it) = to_iterator (record { view = f it.view; seen = it.seen; passed = it.passed; given = it.given })

abbrev pub in_names : (View → View) → Names → Names
in_names f names = map (λ (e : List ℕ × Bound). (e.0, over_views f e.1)) names

-- the state with the bases that a write through a view leaves
abbrev pub written_through : State → View → World → State
written_through state v after = record {
  bases = after;
  names = in_names (refreshed (sublists_on v) (root state.bases v) (root after v)) state.names;
  handles = state.handles;
}
