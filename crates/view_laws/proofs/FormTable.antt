-- The table of steps, read by its columns of shapes and items: a step makes items of the one form items of the other.
use Rattle.std.proofs.Common.{◌≡◌, ℕ, Bool, true, false, refl}
use Rattle.std.specs.Option.{IfSome}
use Rattle.elem.specs.declared.elements.Elem.{Elem}
use Rattle.vocabulary.specs.declared.items.Item.{Item}
use Rattle.vocabulary.specs.declared.items.Item.TheVariants.{One, Entry, Counted, Cell, Piece}
use Rattle.vocabulary.specs.declared.items.Side.{Side}
use Rattle.vocabulary.specs.declared.items.Side.TheVariants.{First, Second}
use Rattle.vocabulary.specs.declared.shapes.GroupSort.{GroupSort}
use Rattle.vocabulary.specs.declared.shapes.Shape.{Shape}
use Rattle.vocabulary.specs.declared.shapes.Shape.TheVariants as shape
use Rattle.vocabulary.specs.declared.shapes.ValueShape.{ValueShape}
use Rattle.vocabulary.specs.declared.shapes.ValueShape.TheVariants as values
use Rattle.vocabulary.specs.declared.step_table.Family.{Family}
use Rattle.vocabulary.specs.declared.step_table.Family.TheVariants as family
use Rattle.vocabulary.specs.declared.steps.ChangeStep.TheVariants.{Transform, TransformValues, AsMap}
use Rattle.vocabulary.specs.declared.steps.FilterStep.TheVariants.{Filter, FilterKeys, FilterValues}
use Rattle.vocabulary.specs.declared.steps.GroupForm.TheVariants as group
use Rattle.vocabulary.specs.declared.steps.StepForm.TheVariants as form
use Rattle.vocabulary.specs.declared.steps.JoinStep.{JoinStep}
use Rattle.vocabulary.specs.declared.steps.JoinStep.TheVariants.{Union, Intersection, Difference, SymmetricDifference, BagUnion, BagSum, BagIntersection, BagDifference}
use Rattle.vocabulary.specs.declared.steps.PlainStep.TheVariants.{Reverse, KeySet, Values, EntrySet, Keys, Descending, Inverse, Transpose, ForMap, Unmodifiable}
use Rattle.vocabulary.specs.declared.steps.Step.{Step}
use Rattle.vocabulary.specs.declared.steps.Step.TheVariants as step
use Rattle.vocabulary.specs.Items.{swapped, with_value, without_part}
use Rattle.vocabulary.specs.Shapes.{shape_of_values}
use Rattle.vocabulary.specs.StepShapes.{apply, apply_join, on_bag, on_bimap, on_coll, on_groups, on_leaf, on_list, on_map, on_multimap, on_set, on_table, where_sorted}
use Rattle.vocabulary.specs.Steps.{family_of, form_of_step, group_item, item_of}
use Rattle.view_laws.specs.ItemForms.{has_form, is_pieces}
use Rattle.view_laws.specs.LookUps.{is_one}
use Rattle.view_laws.specs.Narrowing.{is_cell, is_entry}

-- ---- items

valued_entry : (item : Item) (w : Elem) → is_entry item ≡ true → is_entry (with_value item w) ≡ true
valued_entry (Entry k v) w h = refl
valued_entry (One x) w h = h
valued_entry (Counted x n) w h = h
valued_entry (Cell r c v) w h = h
valued_entry other w h = h

valued_cell : (item : Item) (w : Elem) → is_cell item ≡ true → is_cell (with_value item w) ≡ true
valued_cell (Entry k v) w h = h
valued_cell (Cell r c v) w h = refl
valued_cell other w h = h

swapped_entry : (item : Item) → is_entry item ≡ true → is_entry (swapped item) ≡ true
swapped_entry (Entry k v) h = refl
swapped_entry (Cell r c v) h = h
swapped_entry other h = h

swapped_cell : (item : Item) → is_cell item ≡ true → is_cell (swapped item) ≡ true
swapped_cell (Entry k v) h = h
swapped_cell (Cell r c v) h = refl
swapped_cell other h = h

entry_left : (side : Side) (item : Item) → is_entry item ≡ true → is_one (without_part side item) ≡ true
entry_left First (Entry k v) h = refl
entry_left Second (Entry k v) h = refl
entry_left side other h = absurd (cc)

cell_left : (side : Side) (item : Item) → is_cell item ≡ true → is_entry (without_part side item) ≡ true
cell_left First (Cell r c v) h = refl
cell_left Second (Cell r c v) h = refl
cell_left side other h = absurd (cc)

-- ---- what a step of a family makes of items

abbrev pub Keeps : Shape → Shape → Type 0
Keeps of given = (item : Item) → has_form of item ≡ true → has_form given item ≡ true

abbrev pub Makes : Step → Shape → Shape → Type 0
Makes it of given = (item : Item) → has_form of item ≡ true → has_form given (item_of it item) ≡ true

abbrev pub FormIn : Family → Step → Shape → Shape → Type 0
FormIn family.Same it of given = Keeps of given
FormIn family.Changed it of given = Makes it of given
FormIn family.Turned it of given = Keeps of given
FormIn family.Keyed it of given = Makes it of given
FormIn family.Hidden it of given = Keeps of given
FormIn family.Cut it of given = Makes it of given
FormIn family.Grouped it of given = (k : Elem) (n : ℕ) → has_form given (group_item it k n) ≡ true
FormIn family.Run it of given = Keeps of given
FormIn family.Pieces it of given = (i : ℕ) → has_form given (Piece i) ≡ true

if_sorted : (sorted : Bool) (given : Shape) (P : Shape → Type 0) → P given → IfSome (where_sorted sorted given) P
if_sorted true given P h = h
if_sorted false given P h = tt

-- ---- the table, by shapes

on_list_form : (it : Step) → IfSome (on_list (form_of_step it)) (FormIn (family_of it) it shape.List)
on_list_form (step.Plain Reverse) = λ item h. h
on_list_form (step.Change Transform f) = λ item h. refl
on_list_form (step.Filter Filter p) = λ item h. h
on_list_form (step.Plain Unmodifiable) = λ item h. h
on_list_form (step.Sub n s) = λ item h. h
on_list_form (step.Partition n) = λ i. refl
on_list_form (step.Piece n s) = λ item h. h
on_list_form it = tt

on_coll_form : (it : Step) → IfSome (on_coll (form_of_step it)) (FormIn (family_of it) it shape.Coll)
on_coll_form (step.Filter Filter p) = λ item h. h
on_coll_form (step.Change Transform f) = λ item h. refl
on_coll_form (step.Plain Unmodifiable) = λ item h. h
on_coll_form it = tt

on_set_form : (sorted : Bool) (it : Step) → IfSome (on_set sorted (form_of_step it)) (FormIn (family_of it) it (shape.Set sorted))
on_set_form sorted (step.Change Transform f) = λ item h. refl
on_set_form sorted (step.Filter Filter p) = λ item h. h
on_set_form sorted (step.Within order w) = if_sorted sorted (shape.Set sorted) (Makes (step.Within order w) (shape.Set sorted)) (λ item h. h)
on_set_form sorted (step.Plain Descending) = if_sorted sorted (shape.Set sorted) (Keeps (shape.Set sorted)) (λ item h. h)
on_set_form sorted (step.Change AsMap f) = λ item h. refl
on_set_form sorted (step.Plain Unmodifiable) = λ item h. h
on_set_form sorted it = tt

on_bag_form : (sorted : Bool) (it : Step) → IfSome (on_bag sorted (form_of_step it)) (FormIn (family_of it) it (shape.Bag sorted))
on_bag_form sorted (step.Filter Filter p) = λ item h. h
on_bag_form sorted (step.Within order w) = if_sorted sorted (shape.Bag sorted) (Makes (step.Within order w) (shape.Bag sorted)) (λ item h. h)
on_bag_form sorted (step.Plain Descending) = if_sorted sorted (shape.Bag sorted) (Keeps (shape.Bag sorted)) (λ item h. h)
on_bag_form sorted (step.Group First group.Keys) = λ k n. refl
on_bag_form sorted (step.Group First group.Counts) = λ k n. refl
on_bag_form sorted (step.Plain Unmodifiable) = λ item h. h
on_bag_form sorted it = tt

on_map_form : (sorted : Bool) (it : Step) → IfSome (on_map sorted (form_of_step it)) (FormIn (family_of it) it (shape.Map sorted))
on_map_form sorted (step.Within order w) = if_sorted sorted (shape.Map sorted) (Makes (step.Within order w) (shape.Map sorted)) (λ item h. h)
on_map_form sorted (step.Plain Descending) = if_sorted sorted (shape.Map sorted) (Keeps (shape.Map sorted)) (λ item h. h)
on_map_form sorted (step.Plain KeySet) = λ item h. refl
on_map_form sorted (step.Plain Values) = λ item h. refl
on_map_form sorted (step.Plain EntrySet) = λ item h. h
on_map_form sorted (step.Filter FilterKeys p) = λ item h. h
on_map_form sorted (step.Filter FilterValues p) = λ item h. h
on_map_form sorted (step.FilterPairs q) = λ item h. h
on_map_form sorted (step.Change TransformValues f) = λ item h. valued_entry item _ h
on_map_form sorted (step.Plain ForMap) = λ item h. h
on_map_form sorted (step.Plain Unmodifiable) = λ item h. h
on_map_form sorted it = tt

on_bimap_form : (it : Step) → IfSome (on_bimap (form_of_step it)) (FormIn (family_of it) it shape.BiMap)
on_bimap_form (step.Plain KeySet) = λ item h. refl
on_bimap_form (step.Plain Values) = λ item h. refl
on_bimap_form (step.Plain EntrySet) = λ item h. h
on_bimap_form (step.Filter FilterKeys p) = λ item h. h
on_bimap_form (step.Filter FilterValues p) = λ item h. h
on_bimap_form (step.FilterPairs q) = λ item h. h
on_bimap_form (step.Change TransformValues f) = λ item h. valued_entry item _ h
on_bimap_form (step.Plain ForMap) = λ item h. h
on_bimap_form (step.Plain Inverse) = λ item h. swapped_entry item h
on_bimap_form (step.Plain Unmodifiable) = λ item h. h
on_bimap_form it = tt

on_groups_form : (of : GroupSort) (it : Step) → IfSome (on_groups of (form_of_step it)) (FormIn (family_of it) it (shape.Groups of))
on_groups_form of (step.Plain KeySet) = λ item h. refl
on_groups_form of (step.Plain EntrySet) = λ item h. h
on_groups_form of (step.Filter FilterKeys p) = λ item h. h
on_groups_form of it = tt

-- the values of a key are elements
values_form : (of : ValueShape) (item : Item) → is_one item ≡ true → has_form (shape_of_values of) item ≡ true
values_form values.List item h = h
values_form values.Set item h = h
values_form values.SortedSet item h = h
values_form values.Coll item h = h

on_multimap_form : (of : ValueShape) (sorted : Bool) (it : Step) → IfSome (on_multimap of sorted (form_of_step it)) (FormIn (family_of it) it (shape.Multimap of sorted))
on_multimap_form of sorted (step.At First k n) = λ item h. values_form of (without_part First item) (entry_left First item h)
on_multimap_form of sorted (step.Group First group.Keys) = λ k n. refl
on_multimap_form of sorted (step.Plain Keys) = λ item h. refl
on_multimap_form of sorted (step.Plain Values) = λ item h. refl
on_multimap_form of sorted (step.Plain EntrySet) = λ item h. h
on_multimap_form of sorted (step.Group First group.Members) = λ k n. refl
on_multimap_form of sorted (step.Filter FilterKeys p) = λ item h. h
on_multimap_form of sorted (step.Filter FilterValues p) = λ item h. h
on_multimap_form of sorted (step.FilterPairs q) = λ item h. h
on_multimap_form of sorted (step.Change TransformValues f) = λ item h. valued_entry item _ h
on_multimap_form of sorted (step.Plain Unmodifiable) = λ item h. h
on_multimap_form of sorted it = tt

on_table_form : (mirrored sorted : Bool) (it : Step) → IfSome (on_table mirrored sorted (form_of_step it)) (FormIn (family_of it) it (shape.Table mirrored sorted))
on_table_form mirrored sorted (step.At side k n) = λ item h. cell_left side item h
on_table_form mirrored sorted (step.Group side group.Keys) = λ k n. refl
on_table_form mirrored sorted (step.Group side group.Members) = λ k n. refl
on_table_form mirrored sorted (step.Plain EntrySet) = λ item h. h
on_table_form mirrored sorted (step.Plain Values) = λ item h. refl
on_table_form mirrored sorted (step.Plain Transpose) = λ item h. swapped_cell item h
on_table_form mirrored sorted (step.Change TransformValues f) = λ item h. valued_cell item _ h
on_table_form mirrored sorted (step.Plain Unmodifiable) = λ item h. h
on_table_form mirrored sorted it = tt

-- no step but those at the foot stands on ranges and graphs
no_form : (of : Shape) (it : Step) (P : Shape → Type 0) → IfSome (on_leaf of (form_of_step it)) P
no_form of (step.Plain word) P = tt
no_form of it P = tt

-- a step takes items of the form of a shape to items of the form of the shape that it gives
pub form_after : (of : Shape) (it : Step) → is_pieces of ≡ false → IfSome (apply of it) (FormIn (family_of it) it of)
form_after shape.List it h = on_list_form it
form_after (shape.Set sorted) it h = on_set_form sorted it
form_after shape.Coll it h = on_coll_form it
form_after (shape.Rows sort) it h = tt
form_after (shape.Map sorted) it h = on_map_form sorted it
form_after (shape.Groups of) it h = on_groups_form of it
form_after (shape.Bag sorted) it h = on_bag_form sorted it
form_after shape.BiMap it h = on_bimap_form it
form_after (shape.Multimap of sorted) it h = on_multimap_form of sorted it
form_after (shape.Table mirrored sorted) it h = on_table_form mirrored sorted it
form_after shape.Pieces it h = absurd (cc)
form_after shape.RangeSet it h = no_form shape.RangeSet it _
form_after shape.RangeMap it h = no_form shape.RangeMap it _
form_after (shape.Graph directed) it h = no_form (shape.Graph directed) it _
form_after (shape.Builder kind) it h = tt

-- ---- steps over two views

-- both are views of elements, and so is what they give
abbrev pub JoinForm : Shape → Shape → Shape → Type 0
JoinForm of other given = Keeps of given × Keeps other given × ((x : Elem) → has_form given (One x) ≡ true)

set_join : (sorted t : Bool) (word : JoinStep) → IfSome (on_set sorted (form.Join word)) (JoinForm (shape.Set sorted) (shape.Set t))
set_join sorted t Union = (λ item h. h, λ item h. h, λ x. refl)
set_join sorted t Intersection = (λ item h. h, λ item h. h, λ x. refl)
set_join sorted t Difference = (λ item h. h, λ item h. h, λ x. refl)
set_join sorted t SymmetricDifference = (λ item h. h, λ item h. h, λ x. refl)
set_join sorted t word = tt

bag_join : (sorted t : Bool) (word : JoinStep) → IfSome (on_bag sorted (form.Join word)) (JoinForm (shape.Bag sorted) (shape.Bag t))
bag_join sorted t BagUnion = (λ item h. h, λ item h. h, λ x. refl)
bag_join sorted t BagSum = (λ item h. h, λ item h. h, λ x. refl)
bag_join sorted t BagIntersection = (λ item h. h, λ item h. h, λ x. refl)
bag_join sorted t BagDifference = (λ item h. h, λ item h. h, λ x. refl)
bag_join sorted t word = tt

pub join_form : (of : Shape) (word : JoinStep) (other : Shape) → IfSome (apply_join of word other) (JoinForm of other)
join_form (shape.Set sorted) word (shape.Set t) = set_join sorted t word
join_form (shape.Bag sorted) word (shape.Bag t) = bag_join sorted t word
join_form of word other = tt
