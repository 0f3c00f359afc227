-- Groups: the view that they were made from, and what stands in one of them.
use Rattle.std.specs.Prelude.{◌-◌, List}
use Rattle.elem.specs.declared.elements.Elem.{Elem}
use Rattle.vocabulary.specs.declared.items.Item.{Item}
use Rattle.vocabulary.specs.declared.items.Side.{Side}
use Rattle.vocabulary.specs.declared.items.Side.TheVariants.{First}
use Rattle.vocabulary.specs.declared.steps.Step.TheVariants.{At, Group}
use Rattle.machine.specs.Bases.{World}
use Rattle.machine.specs.Views.{View, base, both, over, path, shown}

-- the view from which groups were made; filters of their keys and their set of rows are left aside
abbrev pub under_groups : View → View
under_groups (base l) = base l
under_groups (over (Group side made) v) = v
under_groups (over step v) = under_groups v
under_groups (both word v u) = both word v u

-- the part by which they were made
abbrev pub side_of_groups : View → Side
side_of_groups (base l) = First
side_of_groups (over (Group side made) v) = side
side_of_groups (over step v) = side_of_groups v
side_of_groups (both word v u) = First

-- what stands in the group of a key, as a view: the values of the key, or the cells of the row or column
abbrev pub group_view : View → Elem → View
group_view v k = over (At (side_of_groups v) k (path v - path (under_groups v))) (under_groups v)

abbrev pub members_shown : World → View → Elem → List Item
members_shown world v k = shown world (group_view v k)
