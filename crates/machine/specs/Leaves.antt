-- What stands at the foot of a path: a base, or what steps there make of it, which is seen as a base, too.
use Rattle.std.specs.Prelude.{ℕ, Bool, true, List, [], ◌∷◌, filter, map, if◌then◌else◌}
use Rattle.vocabulary.specs.declared.items.Item.{Item}
use Rattle.vocabulary.specs.declared.kinds.Kind.{Kind}
use Rattle.vocabulary.specs.declared.kinds.Kind.TheVariants.{LinkedHashSet, TreeRangeMap, ValueGraph, Rows}
use Rattle.vocabulary.specs.declared.leaves.LeafStep.{LeafStep}
use Rattle.vocabulary.specs.declared.leaves.LeafStep.TheVariants as leaf
use Rattle.vocabulary.specs.declared.leaves.Near.{Near}
use Rattle.vocabulary.specs.declared.leaves.Near.TheVariants.{Incident}
use Rattle.vocabulary.specs.declared.shapes.RowSort.{RowSort}
use Rattle.vocabulary.specs.declared.shapes.RowSort.TheVariants as sort
use Rattle.machine.specs.Bases.{Base, World, base_at}
use Rattle.machine.specs.Graphs.{end_pair, is_edge, is_node, near_items, transposed}
use Rattle.machine.specs.RangeViews.{in_part, not_covered}

-- rows that are derived from those of a base, which nothing changes
abbrev pub derived : Base → Kind → List Item → Base
derived it kind rows = record { kind = kind; rows = rows; keys = []; change = it.change; frozen = true }

-- a base that shows other rows
abbrev pub reshown : Base → List Item → Base
reshown it rows = record { kind = it.kind; rows = rows; keys = []; change = it.change; frozen = it.frozen }

abbrev pub has_directions : Kind → Bool
has_directions (ValueGraph directed loops) = directed
has_directions other = true

abbrev pub sort_of_ranges : Kind → RowSort
sort_of_ranges TreeRangeMap = sort.RangeEntry
sort_of_ranges other = sort.Range

abbrev pub kind_near : Bool → Near → Kind
kind_near directed Incident = Rows (sort.Pair directed)
kind_near directed word = LinkedHashSet

-- what a step at the foot makes of what stands there
abbrev pub stepped : LeafStep → Base → Base
stepped leaf.Complement it = reshown it (not_covered it.rows)
stepped (leaf.Part w) it = reshown it (in_part w it.rows)
stepped leaf.Ranges it = derived it (Rows (sort_of_ranges it.kind)) it.rows
stepped leaf.Nodes it = derived it LinkedHashSet (filter is_node it.rows)
stepped leaf.Edges it = derived it (Rows (sort.Pair (has_directions it.kind))) (map end_pair (filter is_edge it.rows))
stepped leaf.Transpose it = derived it it.kind (if has_directions it.kind then map transposed it.rows else it.rows)
stepped (leaf.Near word a) it = derived it (kind_near (has_directions it.kind) word) (near_items (has_directions it.kind) word a it.rows)
stepped leaf.Lock it = derived it it.kind it.rows

-- a base by its number, and the steps at its foot, the last first
pub record Leaf : Type 0 where
  pub number : ℕ
  pub steps : List LeafStep

abbrev pub stored : ℕ → Leaf
stored b = record { number = b; steps = [] }

-- a leaf with one more step
abbrev pub with_step : Leaf → LeafStep → Leaf
with_step l step = record { number = l.number; steps = step ∷ l.steps }

abbrev pub stepped_all : List LeafStep → Base → Base
stepped_all [] it = it
stepped_all (step ∷ steps) it = stepped step (stepped_all steps it)

-- what stands at a leaf
abbrev pub leaf_at : World → Leaf → Base
leaf_at world l = stepped_all l.steps (base_at world l.number)
