-- What is constant of the view of a node, as long as the kind of its base and its frozen mark are.
use Rattle.std.specs.Prelude.{◌≡◌, ℕ, ◌<◌, List, length, Some, slice_get}
use Rattle.base_store.specs.declared.store.Made.{Made}
use Rattle.base_store.specs.declared.store.facts.Facts.{Facts}
use Rattle.base_store.specs.Nodes.{view_at}
use Rattle.machine.specs.KeptSteps.{window_at}
use Rattle.machine.specs.Bases.{World}
use Rattle.machine.specs.Spots.{is_swapped}
use Rattle.machine.specs.Views.{View, flags_at, has_for_map, path, shape_at}
use Rattle.view_steps.specs.KnownViews.{number_under}
use Rattle.view_steps.specs.Turning.{turned}

-- the facts of a view
abbrev pub facts_at : World → View → Facts
facts_at world v = record { base = number_under v; path = path v; shape = shape_at world v; flags = flags_at world v; window = window_at v; turned = turned v; swapped = is_swapped v; for_map = has_for_map v }

-- the facts of each node, in turn, are those of its view
pub record AreFactsOf (world : World) (nodes : List Made) (facts : List Facts) : Type 0 where
  pub as_many : length facts ≡ length nodes
  pub each : (n : ℕ) → n < length nodes → slice_get facts n ≡ Some (facts_at world (view_at nodes n))
