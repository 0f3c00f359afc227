-- Nodes unfolded: what is made of each node from what is made of the nodes before it.
use Rattle.std.specs.Prelude.{ℕ, ◌<◌, List, [], ◌∷◌, ◌++◌, get_or, fold}
use Rattle.base_store.specs.declared.store.Made.{Made}
use Rattle.base_store.specs.declared.store.Made.TheVariants.{Base, Over}
use Rattle.machine.specs.Leaves.{stored}
use Rattle.machine.specs.Views.{View, base, over}

-- the list of what is made of the nodes in turn, where `make at node` may ask for what stands before it
abbrev pub made_of : {X : Type 0} → X → ((ℕ → X) → Made → X) → List Made → List X
made_of none make nodes = fold (λ made node. made ++ make (λ p. get_or made p none) node ∷ []) [] nodes

abbrev pub view_of : (ℕ → View) → Made → View
view_of at (Base b) = base (stored b)
view_of at (Over step parent) = over step (at parent)

-- the view of node n
unfoldable pub view_at : List Made → ℕ → View
view_at nodes n = get_or (made_of (base (stored 0)) view_of nodes) n (base (stored 0))

-- the base of node n is one of so many, and its parent stands before it
abbrev pub IsBelow : ℕ → ℕ → Made → Type 0
IsBelow bases n (Base b) = b < bases
IsBelow bases n (Over step parent) = parent < n
