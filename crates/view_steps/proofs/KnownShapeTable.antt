-- The table of steps, read by the shapes of known views: a known step on a view of a known shape gives a known shape.
use Rattle.std.proofs.Common.{◌≡◌, Bool, true, false, IfSome, refl}
use Rattle.std.specs.Prelude.{Option, Some, None}
use Rattle.vocabulary.specs.declared.shapes.Shape.{Shape}
use Rattle.vocabulary.specs.declared.shapes.Shape.TheVariants as shape
use Rattle.vocabulary.specs.declared.steps.ChangeStep.TheVariants.{Transform, TransformValues, AsMap}
use Rattle.vocabulary.specs.declared.steps.FilterStep.TheVariants.{Filter, FilterKeys, FilterValues}
use Rattle.vocabulary.specs.declared.steps.PlainStep.TheVariants.{Reverse, KeySet, Values, EntrySet, Descending, Inverse, ForMap, Unmodifiable}
use Rattle.vocabulary.specs.declared.steps.Step.{Step}
use Rattle.vocabulary.specs.declared.steps.StepForm.{StepForm}
use Rattle.vocabulary.specs.declared.steps.StepForm.TheVariants as form
use Rattle.vocabulary.specs.Known.{is_known_step}
use Rattle.vocabulary.specs.StepShapes.{apply, apply_form, on_bimap, on_coll, on_list, on_map, on_set, where_sorted}
use Rattle.vocabulary.specs.Steps.{form_of_step}
use Rattle.machine.specs.Views.{shape_after}
use Rattle.view_steps.specs.KnownShapes.{is_known_shape}
use Rattle.view_steps.specs.KnownViews.{is_known}

-- a shape that is given is known
abbrev pub Known : Option Shape → Type 0
Known given = IfSome given (λ (next : Shape). is_known_shape next ≡ true)

where_known : (sorted : Bool) (given : Shape) → is_known_shape given ≡ true → Known (where_sorted sorted given)
where_known true given h = h
where_known false given h = tt

list_known : (it : StepForm) → is_known_step it ≡ true → Known (on_list it)
list_known (form.Plain Reverse) h = refl
list_known (form.Change Transform) h = refl
list_known (form.Filter Filter) h = refl
list_known (form.Plain Unmodifiable) h = refl
list_known form.Sub h = absurd (cc)
list_known form.Partition h = absurd (cc)
list_known form.Piece h = absurd (cc)
list_known _ h = tt

coll_known : (it : StepForm) → is_known_step it ≡ true → Known (on_coll it)
coll_known (form.Filter Filter) h = refl
coll_known (form.Change Transform) h = refl
coll_known (form.Plain Unmodifiable) h = refl
coll_known _ h = tt

set_known : (sorted : Bool) (it : StepForm) → is_known_step it ≡ true → Known (on_set sorted it)
set_known sorted (form.Change Transform) h = refl
set_known sorted (form.Filter Filter) h = refl
set_known sorted form.Within h = where_known sorted (shape.Set sorted) refl
set_known sorted (form.Plain Descending) h = where_known sorted (shape.Set sorted) refl
set_known sorted (form.Change AsMap) h = refl
set_known sorted (form.Plain Unmodifiable) h = refl
set_known sorted (form.Join word) h = absurd (cc)
set_known sorted _ h = tt

map_known : (sorted : Bool) (it : StepForm) → is_known_step it ≡ true → Known (on_map sorted it)
map_known sorted form.Within h = where_known sorted (shape.Map sorted) refl
map_known sorted (form.Plain Descending) h = where_known sorted (shape.Map sorted) refl
map_known sorted (form.Plain KeySet) h = refl
map_known sorted (form.Plain Values) h = refl
map_known sorted (form.Plain EntrySet) h = refl
map_known sorted (form.Filter FilterKeys) h = refl
map_known sorted (form.Filter FilterValues) h = refl
map_known sorted form.FilterPairs h = refl
map_known sorted (form.Change TransformValues) h = refl
map_known sorted (form.Plain ForMap) h = absurd (cc)
map_known sorted (form.Plain Unmodifiable) h = refl
map_known sorted _ h = tt

bimap_known : (it : StepForm) → is_known_step it ≡ true → Known (on_bimap it)
bimap_known (form.Plain KeySet) h = refl
bimap_known (form.Plain Values) h = refl
bimap_known (form.Plain EntrySet) h = refl
bimap_known (form.Filter FilterKeys) h = refl
bimap_known (form.Filter FilterValues) h = refl
bimap_known form.FilterPairs h = refl
bimap_known (form.Change TransformValues) h = refl
bimap_known (form.Plain ForMap) h = absurd (cc)
bimap_known (form.Plain Inverse) h = refl
bimap_known (form.Plain Unmodifiable) h = refl
bimap_known _ h = tt

pub given_known : (on : Shape) (it : StepForm) → is_known_shape on ≡ true → is_known_step it ≡ true → Known (apply_form on it)
given_known shape.List it k h = list_known it h
given_known (shape.Set sorted) it k h = set_known sorted it h
given_known shape.Coll it k h = coll_known it h
given_known (shape.Rows sort) it k h = tt
given_known (shape.Map sorted) it k h = map_known sorted it h
given_known shape.BiMap it k h = bimap_known it h
given_known _ it k h = absurd (cc)

-- so does one that is not there: the shape stays
stays_known : (on : Shape) (given : Option Shape) → is_known_shape on ≡ true → Known given → is_known_shape (shape_after on given) ≡ true
stays_known on None k h = k
stays_known on (Some next) k h = h

pub shape_over : (of : Shape) (it : Step) → is_known_shape of ≡ true → is_known it ≡ true → is_known_shape (shape_after of (apply of it)) ≡ true
shape_over of it k h = stays_known of (apply of it) k (given_known of (form_of_step it) k h)
