-- Nodes that stand over nodes before them.
use Rattle.std.specs.Prelude.{◌≡◌, ℕ, ◌<◌, List, slice_get, Some}
use Rattle.vocabulary.specs.declared.steps.Step.{Step}
use Rattle.base_store.specs.declared.store.Made.{Made}
use Rattle.base_store.specs.declared.store.Made.TheVariants.{Over}

-- each step stands over a node before it
abbrev pub StandBelow : List Made → Type 0
StandBelow nodes = (n parent : ℕ) (step : Step) → slice_get nodes n ≡ Some (Over step parent) → parent < n
