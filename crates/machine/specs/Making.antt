-- Making a view by a step: the tests of the step in their order, and what is kept.
use Rattle.std.specs.Prelude.{ℕ, ◌+◌, ◌-◌, ◌*◌, ◌&&◌, min, max, nat_lt, nat_le, if◌then◌else◌, length, Option, None, Some}
use Rattle.std.specs.List.{list_any}
use Rattle.elem.specs.declared.elements.Elem.{Elem}
use Rattle.vocabulary.specs.declared.items.Item.TheVariants.{Group}
use Rattle.vocabulary.specs.declared.leaves.LeafStep.{LeafStep}
use Rattle.vocabulary.specs.declared.refusals.Refusal.{Refusal}
use Rattle.vocabulary.specs.declared.refusals.Refusal.TheVariants.{IllegalArgument, IndexOutOfBounds, Limit}
use Rattle.vocabulary.specs.declared.steps.JoinStep.{JoinStep}
use Rattle.vocabulary.specs.declared.steps.Step.{Step}
use Rattle.vocabulary.specs.declared.steps.Step.TheVariants.{Sub, Partition, Piece}
use Rattle.vocabulary.specs.declared.sublists.Sublist.{Sublist}
use Rattle.machine.specs.Bases.{World}
use Rattle.machine.specs.Groups.{group_view}
use Rattle.machine.specs.KeptSteps.{kept, order_at, window_at}
use Rattle.machine.specs.Leaves.{leaf_at, with_step}
use Rattle.machine.specs.Reading.{first_refusal, lacking, reading_refusal}
use Rattle.machine.specs.Views.{View, base, base_under, both, over, path, root, shown, weight}
use Rattle.vocabulary.specs.Items.{same_item}
use Rattle.vocabulary.specs.Limits.{greatest_weight, longest_path}
use Rattle.vocabulary.specs.Windows.{takes_argument}

-- a step as a script asks for it, with its arguments; a number of it that is negative is none
pub data Asked : Type 0 where
  by : Step → Asked
  at_leaf : LeafStep → Asked
  with_view : JoinStep → View → Asked
  member : Elem → Asked
  sublist : Option ℕ → Option ℕ → Asked
  partition : Option ℕ → Asked
  piece : Option ℕ → Asked

-- what comes of it: a view, nothing, or a refusal
pub data Made : Type 0 where
  a_view : View → Made
  absent : Made
  refused : Refusal → Made

abbrev pub unless : Option Refusal → View → Made
unless None v = a_view v
unless (Some why) v = refused why

-- ---- paths and weights

abbrev pub path_refusal : View → Option Refusal
path_refusal v = if nat_lt (path v) longest_path then None else Some Limit

-- why a step over two views is refused: for the length of a path, or for the weight
abbrev pub join_refusal : View → View → Option Refusal
join_refusal v u = if nat_lt (max (path v) (path u)) longest_path && nat_le (weight v + weight u) greatest_weight then None else Some Limit

-- ---- steps with what they take

-- the refusal of a step's argument
abbrev pub argument_refusal : World → View → Step → Option Refusal
argument_refusal world v step = if takes_argument (order_at world v) (window_at v) step then None else Some IllegalArgument

-- why a step over a view is refused: for its argument, or for the length of the path
abbrev pub step_refusal : World → View → Step → Option Refusal
step_refusal world v step = first_refusal (argument_refusal world v step) (path_refusal v)

-- no view by another step has a shape with steps at the foot
abbrev pub leaf_over : View → LeafStep → View
leaf_over (base l) step = base (with_step l step)
leaf_over other step = other

-- a step that names a node needs the node to be there
abbrev pub leaf_refusal : World → View → LeafStep → Option Refusal
leaf_refusal world v step = first_refusal (lacking IllegalArgument step (leaf_at world (base_under v)).rows) (path_refusal v)

-- ---- groups

-- the group of a key that is shown stands on the view under the groups, but its path is that of the groups
abbrev pub member_of : World → View → Elem → Made
member_of world v k = if list_any (same_item (Group k)) (shown world v) then unless (path_refusal v) (group_view v k) else absent

abbrev pub after_reading : Option Refusal → Made → Made
after_reading None made = made
after_reading (Some why) made = refused why

-- ---- sublists and pieces

abbrev pub size_of_view : World → View → ℕ
size_of_view world v = length (shown world v)

-- a sublist that has seen the last change of the base
abbrev pub fresh_sublist : World → View → ℕ → ℕ → Sublist
fresh_sublist world v i j = record { start = i; len = j - i; seen = (root world v).change }

abbrev pub bounds_refusal : ℕ → Option ℕ → Option ℕ → Option Refusal
bounds_refusal size (Some i) (Some j) = if nat_le i j && nat_le j size then None else Some IndexOutOfBounds
bounds_refusal size i j = Some IndexOutOfBounds

abbrev pub sub_over : World → ℕ → View → Option ℕ → Option ℕ → Made
sub_over world number v (Some i) (Some j) =
    unless (first_refusal (reading_refusal world v) (first_refusal (bounds_refusal (size_of_view world v) (Some i) (Some j)) (path_refusal v))) (over (Sub number (fresh_sublist world v i j)) v)
sub_over world number v i j = after_reading (reading_refusal world v) (refused IndexOutOfBounds)

abbrev pub partition_over : View → Option ℕ → Made
partition_over v None = refused IllegalArgument
partition_over v (Some n) = unless (first_refusal (if nat_lt 0 n then None else Some IllegalArgument) (path_refusal v)) (over (Partition n) v)

abbrev pub piece_bounds : ℕ → ℕ → ℕ → Option Refusal
piece_bounds size n i = if nat_lt (i * n) size then None else Some IndexOutOfBounds

-- run number i of n of a list
abbrev pub run_number : World → View → ℕ → ℕ → Sublist
run_number world v n i = fresh_sublist world v (i * n) (min ((i + 1) * n) (size_of_view world v))

abbrev pub piece_in : World → ℕ → View → ℕ → Option ℕ → Made
piece_in world number v n (Some i) =
    unless (first_refusal (reading_refusal world v) (first_refusal (piece_bounds (size_of_view world v) n i) (path_refusal (over (Partition n) v)))) (over (Piece number (run_number world v n i)) v)
piece_in world number v n None = after_reading (reading_refusal world v) (refused IndexOutOfBounds)

-- a piece stands on the list under the partition; no other view has pieces
abbrev pub piece_over : World → ℕ → View → Option ℕ → Made
piece_over world number (over (Partition n) v) i = piece_in world number v n i
piece_over world number other i = refused IllegalArgument

-- ---- all steps: the view of a step over a view, where a sublist gets this number
abbrev pub made_over : World → ℕ → View → Asked → Made
made_over world number v (by step) = unless (step_refusal world v step) (over (kept world v step) v)
made_over world number v (at_leaf step) = unless (leaf_refusal world v step) (leaf_over v step)
made_over world number v (with_view word u) = unless (join_refusal v u) (both word v u)
made_over world number v (member k) = after_reading (reading_refusal world v) (member_of world v k)
made_over world number v (sublist i j) = sub_over world number v i j
made_over world number v (partition n) = partition_over v n
made_over world number v (piece i) = piece_over world number v i
