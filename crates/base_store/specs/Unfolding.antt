-- How a node unfolds into a view.
use Rattle.std.specs.Prelude.{◌≡◌, ℕ, ◌<◌, length}
use Rattle.base_store.specs.declared.refs.Node.{Node}
use Rattle.base_store.specs.declared.refs.Node.TheVariants as node
use Rattle.base_store.specs.Stored.{Stored, view_in}
use Rattle.machine.specs.Leaves.{stored}
use Rattle.machine.specs.Views.{base, over}

-- the view of a node, by how it was made: a base of the store, or a step over a node before it
abbrev pub Unfolds : Stored → ℕ → Node → Type 0
Unfolds s n (node.Base b) = (view_in s n ≡ base (stored b)) × (b < length s.world)
Unfolds s n (node.Step step parent) = (view_in s n ≡ over step (view_in s parent)) × (parent < n)
