-- The table of steps, by columns: the family of each step, what it makes of an item, which items pass it, what an
-- added item is below it, and what it allows.
use Rattle.std.specs.Prelude.{ℕ, ◌+◌, Bool, true, false, not, Option, None, Some, if◌then◌else◌}
use Rattle.elem.specs.declared.elements.Elem.{Elem}
use Rattle.elem.specs.Elements.{same}
use Rattle.fn_lang.specs.Meaning.{pred_holds, pair_holds, func_value}
use Rattle.vocabulary.specs.declared.items.Item.{Item}
use Rattle.vocabulary.specs.declared.items.Item.TheVariants.{One, Entry, Counted, Group as Members}
use Rattle.vocabulary.specs.declared.items.Side.{Side}
use Rattle.vocabulary.specs.declared.items.Side.TheVariants.{First, Second}
use Rattle.vocabulary.specs.declared.shapes.Shape.{Shape}
use Rattle.vocabulary.specs.declared.shapes.Shape.TheVariants as shape
use Rattle.vocabulary.specs.declared.steps.PlainStep.TheVariants.{Reverse, KeySet, Values, EntrySet, Keys, Descending, Inverse, Transpose, ForMap, Unmodifiable}
use Rattle.vocabulary.specs.declared.steps.FilterStep.TheVariants as filter
use Rattle.vocabulary.specs.declared.steps.ChangeStep.TheVariants.{Transform, TransformValues, AsMap}
use Rattle.vocabulary.specs.declared.steps.GroupForm.{GroupForm}
use Rattle.vocabulary.specs.declared.steps.GroupForm.TheVariants as group
use Rattle.vocabulary.specs.declared.steps.Step.{Step}
use Rattle.vocabulary.specs.declared.steps.Step.TheVariants.{Plain, Filter, FilterPairs, Change, Within, At, Group, Sub, Partition, Piece}
use Rattle.vocabulary.specs.declared.steps.StepForm.{StepForm}
use Rattle.vocabulary.specs.declared.steps.StepForm.TheVariants as form
use Rattle.vocabulary.specs.declared.steps.Flags.{Flags}
use Rattle.vocabulary.specs.declared.steps.Needs.{Needs}
use Rattle.vocabulary.specs.declared.steps.Needs.TheVariants as needs
use Rattle.vocabulary.specs.declared.sublists.Sublist.{Sublist}
use Rattle.vocabulary.specs.declared.step_table.Family.{Family}
use Rattle.vocabulary.specs.declared.step_table.Family.TheVariants as family
use Rattle.vocabulary.specs.Items.{key_of, value_of, with_value, part_of, without_part, with_part, swapped}
use Rattle.vocabulary.specs.Orders.{lies_in}

-- the family of a step
abbrev pub family_of : Step → Family
family_of (Plain Reverse) = family.Turned
family_of (Plain KeySet) = family.Changed
family_of (Plain Values) = family.Changed
family_of (Plain EntrySet) = family.Same
family_of (Plain Keys) = family.Keyed
family_of (Plain Descending) = family.Turned
family_of (Plain Inverse) = family.Changed
family_of (Plain Transpose) = family.Changed
family_of (Plain ForMap) = family.Same
family_of (Plain Unmodifiable) = family.Same
family_of (Filter word p) = family.Hidden
family_of (FilterPairs q) = family.Hidden
family_of (Change word f) = family.Changed
family_of (Within order w) = family.Cut
family_of (At side k n) = family.Cut
family_of (Group side made) = family.Grouped
family_of (Sub n s) = family.Run
family_of (Partition n) = family.Pieces
family_of (Piece n s) = family.Run

-- what a step makes of an item
abbrev pub item_of : Step → Item → Item
item_of (Plain KeySet) item = One (key_of item)
item_of (Plain Values) item = One (value_of item)
item_of (Plain Keys) item = One (key_of item)
item_of (Plain Inverse) item = swapped item
item_of (Plain Transpose) item = swapped item
item_of (Change Transform f) item = One (func_value f (value_of item))
item_of (Change TransformValues f) item = with_value item (func_value f (value_of item))
item_of (Change AsMap f) item = Entry (key_of item) (func_value f (key_of item))
item_of (At side k n) item = without_part side item
item_of step item = item

-- whether an item passes a step: it is not hidden by it, and not left out
abbrev pub passes : Step → Item → Bool
passes (Filter filter.Filter p) item = pred_holds p (value_of item)
passes (Filter filter.FilterKeys p) item = pred_holds p (key_of item)
passes (Filter filter.FilterValues p) item = pred_holds p (value_of item)
passes (FilterPairs q) item = pair_holds q (key_of item) (value_of item)
passes (Within order w) item = lies_in order w (key_of item)
passes (At side k n) item = same k (part_of side item)
passes step item = true

-- what an item that is added above a step is below it, where the step lets it through
abbrev pub lifted : Step → Item → Option Item
lifted (Plain Inverse) item = Some (swapped item)
lifted (Plain Transpose) item = Some (swapped item)
lifted (At side k n) item = Some (with_part side k item)
lifted step item = if passes step item then Some item else None

-- the part by which a step groups
abbrev pub side_of : Step → Side
side_of (Group side made) = side
side_of step = First

-- what a step makes of a group with a key and so many items
abbrev pub group_of : GroupForm → Elem → ℕ → Item
group_of group.Keys k n = One k
group_of group.Counts k n = Counted k n
group_of group.Members k n = Members k

abbrev pub group_item : Step → Elem → ℕ → Item
group_item (Group side made) k n = group_of made k n
group_item step k n = One k

-- the run that a step shows, and into how long pieces it parts a list
abbrev pub no_run : Sublist
no_run = record { start = 0; len = 0; seen = 0 }

abbrev pub run_in : Step → Sublist
run_in (Sub n s) = s
run_in (Piece n s) = s
run_in step = no_run

abbrev pub length_of_pieces : Step → ℕ
length_of_pieces (Partition n) = n
length_of_pieces step = 1

-- how many steps a step stands for on the path: the group of a key stands for those that led to it, too, and a piece
-- for the partition
abbrev pub steps_in : Step → ℕ
steps_in (At side k n) = n + 1
steps_in (Piece n s) = 2
steps_in step = 1

-- a step without its arguments
abbrev pub form_of_step : Step → StepForm
form_of_step (Plain word) = form.Plain word
form_of_step (Filter word p) = form.Filter word
form_of_step (FilterPairs q) = form.FilterPairs
form_of_step (Change word f) = form.Change word
form_of_step (Within order w) = form.Within
form_of_step (At side k n) = form.At side
form_of_step (Group side made) = form.Group side made
form_of_step (Sub n s) = form.Sub
form_of_step (Partition n) = form.Partition
form_of_step (Piece n s) = form.Piece

-- ---- what a view by a step allows, where the view below has this shape and allows this

abbrev pub without_adding : Flags → Flags
without_adding below = record { add = false; remove = below.remove; iterate = below.iterate }

abbrev pub without_iterating : Flags → Flags
without_iterating below = record { add = below.add; remove = below.remove; iterate = false }

abbrev pub nothing : Flags
nothing = record { add = false; remove = false; iterate = false }

-- whether a side of a table is that of its columns, which a mirrored table has first
abbrev pub is_columns : Bool → Side → Bool
is_columns mirrored First = mirrored
is_columns mirrored Second = not mirrored

-- a walk along a column of a table cannot remove
abbrev pub along : Shape → Side → Flags → Flags
along (shape.Table mirrored sorted) side below = if is_columns mirrored side then without_iterating below else below
along other side below = below

abbrev pub flags_after : Shape → Step → Flags → Flags
flags_after of (Plain Reverse) below = below
flags_after of (Plain KeySet) below = without_adding below
flags_after of (Plain Values) below = without_adding below
flags_after of (Plain EntrySet) below = without_adding below
flags_after of (Plain Keys) below = without_adding below
flags_after of (Plain Descending) below = below
flags_after of (Plain Inverse) below = below
flags_after of (Plain Transpose) below = below
flags_after of (Plain ForMap) below = without_adding (without_iterating below)
flags_after of (Plain Unmodifiable) below = nothing
flags_after of (Filter word p) below = without_iterating below
flags_after of (FilterPairs q) below = without_iterating below
flags_after of (Change word f) below = without_adding below
flags_after of (Within order w) below = below
flags_after of (At side k n) below = along of side below
flags_after of (Group side made) below = along of side (without_adding below)
flags_after of (Sub n s) below = below
flags_after of (Partition n) below = nothing
flags_after of (Piece n s) below = below

-- whether a view that allows this lacks what a call asks for
abbrev pub lacks : Flags → Needs → Bool
lacks allowed needs.Nothing = false
lacks allowed needs.Add = not allowed.add
lacks allowed needs.Remove = not allowed.remove
lacks allowed needs.AddAndRemove = if allowed.add then not allowed.remove else true
