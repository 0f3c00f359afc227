-- The table of steps, read by the parts that no two items of a view share: where the shape above a step has such a part,
-- the shape below it has one from which that part comes; and where the shape above is sorted, so is that below.
use Rattle.std.proofs.Common.{◌≡◌, Bool, true, false, IfSome, refl, ap}
use Rattle.std.specs.Prelude.{not, IsSome, Some}
use Rattle.elem.specs.declared.windows.Window.{Window}
use Rattle.vocabulary.specs.declared.items.Side.{Side}
use Rattle.vocabulary.specs.declared.items.Side.TheVariants.{First, Second}
use Rattle.vocabulary.specs.declared.orders.Order.{Order}
use Rattle.vocabulary.specs.declared.shapes.Shape.{Shape}
use Rattle.vocabulary.specs.declared.shapes.Shape.TheVariants as shape
use Rattle.vocabulary.specs.declared.steps.ChangeStep.TheVariants.{Transform, TransformValues, AsMap}
use Rattle.vocabulary.specs.declared.steps.FilterStep.TheVariants.{Filter, FilterKeys, FilterValues}
use Rattle.vocabulary.specs.declared.steps.PlainStep.TheVariants.{Reverse, KeySet, Values, EntrySet, Descending, Inverse, Transpose, ForMap, Unmodifiable}
use Rattle.vocabulary.specs.declared.steps.Step.{Step}
use Rattle.vocabulary.specs.declared.steps.Step.TheVariants as step
use Rattle.vocabulary.specs.Shapes.{is_bimap, is_keyed, is_sorted, is_unique}
use Rattle.vocabulary.specs.StepShapes.{apply, on_bimap, on_coll, on_list, on_map, on_set, where_sorted}
use Rattle.vocabulary.specs.Steps.{form_of_step}
use Rattle.machine.specs.Views.{shape_after}
use Rattle.view_laws.specs.Narrowing.{other, source_of}
use Rattle.view_laws.specs.ShapeNarrowing.{tells_on}
use Rattle.view_laws.proofs.FormLemmas.{given_shape}
use Rattle.view_steps.specs.KnownShapes.{is_known_shape}
use Rattle.view_steps.specs.KnownViews.{is_known}
use Rattle.view_steps.proofs.KnownShapes.{bimap_keyed, of_pairs, unique_keyed}
use Rattle.view_steps.proofs.ListLemmas.{never}

-- a part below a step from which a part above it comes, and that no two items share
pub record PartFrom (of : Shape) (it : Step) (side : Side) : Type 0 where
  pub below : Side
  pub from : source_of it side ≡ Some below
  pub unique : is_unique of below ≡ true
  pub told : tells_on of it side ≡ true

-- what the shape above a step says of that below it
record Parts (of : Shape) (it : Step) (above : Shape) : Type 0 where
  part : (side : Side) → is_unique above side ≡ true → PartFrom of it side
  sorted : is_sorted above ≡ true → is_sorted of ≡ true
  bimap : is_bimap above ≡ true → is_bimap of ≡ true

-- the three ways: no part above is such a one; or the keys alone are; or both are, in a bimap
loose : {of : Shape} {it : Step} {above : Shape} → is_keyed above ≡ false → is_sorted above ≡ false → Parts of it above
loose {of} {it} {above} none order = record {
  part = λ side h. absurd (never (is_keyed above) none (unique_keyed above side h));
  sorted = λ h. absurd (never (is_sorted above) order h);
  bimap = λ h. absurd (never (is_keyed above) none (bimap_keyed above h));
}

keys_alone : (of : Shape) (it : Step) (above : Shape) (side : Side) → is_bimap above ≡ false → PartFrom of it First → is_unique above side ≡ true → PartFrom of it side
keys_alone of it above First single p h = p
keys_alone of it above Second single p h = absurd (never (is_bimap above) single h)

keys : {of : Shape} {it : Step} {above : Shape} (below : Side) → source_of it First ≡ Some below → is_unique of below ≡ true → tells_on of it First ≡ true → is_bimap above ≡ false → (is_sorted above ≡ true → is_sorted of ≡ true) → Parts of it above
keys {of} {it} {above} below from unique told single sorted = record {
  part = λ side h. keys_alone of it above side single (record { below = below; from = from; unique = unique; told = told }) h;
  sorted = sorted;
  bimap = λ h. absurd (never (is_bimap above) single h);
}

keys_where : (it : Step) (sorted : Bool) (of : Shape) → source_of it First ≡ Some First → is_keyed of ≡ true → tells_on of it First ≡ true → is_bimap of ≡ false → IfSome (where_sorted sorted of) (Parts of it)
keys_where it true of from keyed told single = keys First from keyed told single (λ h. h)
keys_where it false of from keyed told single = tt

each_unique : (side : Side) → is_unique shape.BiMap side ≡ true
each_unique First = refl
each_unique Second = refl

pairs : {it : Step} (below : Side → Side) → ((side : Side) → source_of it side ≡ Some (below side)) → ((side : Side) → tells_on shape.BiMap it side ≡ true) → Parts shape.BiMap it shape.BiMap
pairs {it} below from told = record {
  part = λ side h. record { below = below side; from = from side; unique = each_unique (below side); told = told side };
  sorted = λ h. h;
  bimap = λ h. h;
}

-- ---- the table, by shapes

of_list : (it : Step) → IfSome (on_list (form_of_step it)) (Parts shape.List it)
of_list (step.Plain Reverse) = loose refl refl
of_list (step.Change Transform f) = loose refl refl
of_list (step.Filter Filter p) = loose refl refl
of_list (step.Plain Unmodifiable) = loose refl refl
of_list (step.Sub n s) = loose refl refl
of_list (step.Partition n) = loose refl refl
of_list (step.Piece n s) = loose refl refl
of_list _ = tt

of_coll : (it : Step) → IfSome (on_coll (form_of_step it)) (Parts shape.Coll it)
of_coll (step.Filter Filter p) = loose refl refl
of_coll (step.Change Transform f) = loose refl refl
of_coll (step.Plain Unmodifiable) = loose refl refl
of_coll _ = tt

of_set : (sorted : Bool) (it : Step) → IfSome (on_set sorted (form_of_step it)) (Parts (shape.Set sorted) it)
of_set sorted (step.Change Transform f) = loose refl refl
of_set sorted (step.Filter Filter p) = keys First refl refl refl refl (λ h. h)
of_set sorted (step.Within order w) = keys_where _ sorted (shape.Set sorted) refl refl refl refl
of_set sorted (step.Plain Descending) = keys_where _ sorted (shape.Set sorted) refl refl refl refl
of_set sorted (step.Change AsMap f) = keys First refl refl refl refl (λ h. h)
of_set sorted (step.Plain Unmodifiable) = keys First refl refl refl refl (λ h. h)
of_set sorted _ = tt

of_map : (sorted : Bool) (it : Step) → IfSome (on_map sorted (form_of_step it)) (Parts (shape.Map sorted) it)
of_map sorted (step.Within order w) = keys_where _ sorted (shape.Map sorted) refl refl refl refl
of_map sorted (step.Plain Descending) = keys_where _ sorted (shape.Map sorted) refl refl refl refl
of_map sorted (step.Plain KeySet) = keys First refl refl refl refl (λ h. h)
of_map sorted (step.Plain Values) = loose refl refl
of_map sorted (step.Plain EntrySet) = keys First refl refl refl refl (λ h. absurd (cc))
of_map sorted (step.Filter FilterKeys p) = keys First refl refl refl refl (λ h. h)
of_map sorted (step.Filter FilterValues p) = keys First refl refl refl refl (λ h. h)
of_map sorted (step.FilterPairs q) = keys First refl refl refl refl (λ h. h)
of_map sorted (step.Change TransformValues f) = keys First refl refl refl refl (λ h. h)
of_map sorted (step.Plain ForMap) = loose refl refl
of_map sorted (step.Plain Unmodifiable) = keys First refl refl refl refl (λ h. h)
of_map sorted _ = tt

of_bimap : (it : Step) → IfSome (on_bimap (form_of_step it)) (Parts shape.BiMap it)
of_bimap (step.Plain KeySet) = keys First refl refl refl refl (λ h. h)
of_bimap (step.Plain Values) = keys Second refl refl refl refl (λ h. h)
of_bimap (step.Plain EntrySet) = keys First refl refl refl refl (λ h. h)
of_bimap (step.Filter FilterKeys p) = pairs (λ side. side) (λ side. refl) (λ side. refl)
of_bimap (step.Filter FilterValues p) = pairs (λ side. side) (λ side. refl) (λ side. refl)
of_bimap (step.FilterPairs q) = pairs (λ side. side) (λ side. refl) (λ side. refl)
of_bimap (step.Change TransformValues f) = keys First refl refl refl refl (λ h. h)
of_bimap (step.Plain ForMap) = loose refl refl
of_bimap (step.Plain Inverse) = pairs other (λ side. refl) (λ side. refl)
of_bimap (step.Plain Unmodifiable) = pairs (λ side. side) (λ side. refl) (λ side. refl)
of_bimap _ = tt

parts : (of : Shape) (it : Step) → is_known_shape of ≡ true → IfSome (apply of it) (Parts of it)
parts shape.List it known = of_list it
parts (shape.Set sorted) it known = of_set sorted it
parts shape.Coll it known = of_coll it
parts (shape.Rows sort) it known = tt
parts (shape.Map sorted) it known = of_map sorted it
parts shape.BiMap it known = of_bimap it
parts _ it known = absurd (cc)

parts_over : (of : Shape) (it : Step) → is_known_shape of ≡ true → IsSome (apply of it) → Parts of it (shape_after of (apply of it))
parts_over of it known some = given_shape (Parts of it) of (apply of it) some (parts of it known)

pub part_down : (of : Shape) (it : Step) (side : Side) → is_known_shape of ≡ true → IsSome (apply of it) → is_unique (shape_after of (apply of it)) side ≡ true → PartFrom of it side
part_down of it side known some h = (parts_over of it known some).part side h

pub sorted_down : (of : Shape) (it : Step) → is_known_shape of ≡ true → IsSome (apply of it) → is_sorted (shape_after of (apply of it)) ≡ true → is_sorted of ≡ true
sorted_down of it known some h = (parts_over of it known some).sorted h

pub bimap_down : (of : Shape) (it : Step) → is_known_shape of ≡ true → IsSome (apply of it) → is_bimap (shape_after of (apply of it)) ≡ true → is_bimap of ≡ true
bimap_down of it known some h = (parts_over of it known some).bimap h

-- ---- steps on any shape

-- the first part above a known step comes from where the table says
pub first_told : (of : Shape) (it : Step) → is_known_shape of ≡ true → is_known it ≡ true → tells_on of it First ≡ true
first_told of (step.Plain Values) shape known = ap not (of_pairs of shape).0
first_told of (step.Plain Inverse) shape known = ap not (of_pairs of shape).1
first_told of (step.Plain Transpose) shape known = absurd (cc)
first_told of (step.Change Transform f) shape known = refl
first_told of (step.At side k n) shape known = absurd (cc)
first_told of _ shape known = refl

-- only a sorted view has windows
pub window_sorted : (of : Shape) (order : Order) (w : Window) → is_known_shape of ≡ true → IsSome (apply of (step.Within order w)) → is_sorted of ≡ true
window_sorted (shape.Set true) order w known some = refl
window_sorted (shape.Set false) order w known some = absurd (cc)
window_sorted (shape.Map true) order w known some = refl
window_sorted (shape.Map false) order w known some = absurd (cc)
window_sorted _ order w known some = absurd (cc)
