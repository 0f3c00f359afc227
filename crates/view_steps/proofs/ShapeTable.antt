-- The table of steps, read by the shapes that they give: a list comes of a list alone, by a step that shows each item,
-- and what items may be added to has the shape of what is below it, up to lists that are collections.
use Rattle.std.proofs.Common.{◌≡◌, Bool, true, false, IfSome, refl}
use Rattle.vocabulary.specs.declared.shapes.GroupSort.{GroupSort}
use Rattle.vocabulary.specs.declared.shapes.Shape.{Shape}
use Rattle.vocabulary.specs.declared.shapes.Shape.TheVariants as shape
use Rattle.vocabulary.specs.declared.shapes.ValueShape.{ValueShape}
use Rattle.vocabulary.specs.declared.steps.ChangeStep.TheVariants.{Transform, TransformValues, AsMap}
use Rattle.vocabulary.specs.declared.steps.FilterStep.TheVariants.{Filter, FilterKeys, FilterValues}
use Rattle.vocabulary.specs.declared.steps.Flags.{Flags}
use Rattle.vocabulary.specs.declared.steps.PlainStep.TheVariants.{Reverse, KeySet, Values, EntrySet, Keys, Descending, Inverse, Transpose, ForMap, Unmodifiable}
use Rattle.vocabulary.specs.declared.steps.Step.{Step}
use Rattle.vocabulary.specs.declared.steps.Step.TheVariants as step
use Rattle.vocabulary.specs.Shapes.{is_bimap, is_elements, is_list, is_map}
use Rattle.vocabulary.specs.StepShapes.{apply, on_bag, on_bimap, on_coll, on_groups, on_leaf, on_list, on_map, on_multimap, on_pieces, on_set, on_table, where_sorted}
use Rattle.vocabulary.specs.Steps.{family_of, flags_after, form_of_step}
use Rattle.view_steps.specs.KnownViews.{is_known}
use Rattle.view_steps.proofs.FamilyTable.{shows_each}
use Rattle.view_steps.proofs.ListLemmas.{never}

-- a shape whose views show rows of a base of another shape as they are
pub record IsLike (below above : Shape) : Type 0 where
  pub elements : is_elements above ≡ is_elements below
  pub map : is_map above ≡ is_map below
  pub bimap : is_bimap above ≡ is_bimap below
  pub list : is_list above ≡ true → is_list below ≡ true

pub like_itself : (of : Shape) → IsLike of of
like_itself of = record { elements = refl; map = refl; bimap = refl; list = λ h. h }

-- what the shape above a step says of that below it
pub record Comes (of : Shape) (it : Step) (above : Shape) : Type 0 where
  pub list : is_list above ≡ true → (is_list of ≡ true) × (shows_each (family_of it) ≡ true)
  pub like : (below : Flags) → (flags_after of it below).add ≡ true → IsLike of above

-- the four ways: a list stays one, or another shape does; or another shape is given, like the one below or not
listed : {it : Step} → shows_each (family_of it) ≡ true → Comes shape.List it shape.List
listed {it} each = record { list = λ h. (refl, each); like = λ below ok. like_itself shape.List }

stays : {of : Shape} {it : Step} → is_list of ≡ false → Comes of it of
stays {of} {it} none = record { list = λ h. absurd (never (is_list of) none h); like = λ below ok. like_itself of }

alike : {of : Shape} {it : Step} {above : Shape} → is_list above ≡ false → is_elements above ≡ is_elements of → is_map above ≡ is_map of → is_bimap above ≡ is_bimap of → Comes of it above
alike {of} {it} {above} none elements map bimap = record {
  list = λ h. absurd (never (is_list above) none h);
  like = λ below ok. record { elements = elements; map = map; bimap = bimap; list = λ h. absurd (never (is_list above) none h) };
}

other : {of : Shape} {it : Step} {above : Shape} → is_list above ≡ false → ((below : Flags) → (flags_after of it below).add ≡ false) → Comes of it above
other {of} {it} {above} none no_adding = record {
  list = λ h. absurd (never (is_list above) none h);
  like = λ below ok. absurd (never (flags_after of it below).add (no_adding below) ok);
}

where_it_is : (it : Step) (sorted : Bool) (of : Shape) → is_list of ≡ false → IfSome (where_sorted sorted of) (Comes of it)
where_it_is it true of none = stays none
where_it_is it false of none = tt

-- ---- the table, by shapes

from_list : (it : Step) → is_known it ≡ true → IfSome (on_list (form_of_step it)) (Comes shape.List it)
from_list (step.Plain Reverse) h = listed refl
from_list (step.Change Transform f) h = listed refl
from_list (step.Filter Filter p) h = alike refl refl refl refl
from_list (step.Plain Unmodifiable) h = listed refl
from_list (step.Sub n s) h = absurd (cc)
from_list (step.Partition n) h = absurd (cc)
from_list (step.Piece n s) h = absurd (cc)
from_list _ h = tt

from_coll : (it : Step) → IfSome (on_coll (form_of_step it)) (Comes shape.Coll it)
from_coll (step.Filter Filter p) = stays refl
from_coll (step.Change Transform f) = stays refl
from_coll (step.Plain Unmodifiable) = stays refl
from_coll _ = tt

from_set : (sorted : Bool) (it : Step) → IfSome (on_set sorted (form_of_step it)) (Comes (shape.Set sorted) it)
from_set sorted (step.Change Transform f) = other refl (λ below. refl)
from_set sorted (step.Filter Filter p) = stays refl
from_set sorted (step.Within order w) = where_it_is _ sorted (shape.Set sorted) refl
from_set sorted (step.Plain Descending) = where_it_is _ sorted (shape.Set sorted) refl
from_set sorted (step.Change AsMap f) = other refl (λ below. refl)
from_set sorted (step.Plain Unmodifiable) = stays refl
from_set sorted _ = tt

from_bag : (sorted : Bool) (it : Step) → is_known it ≡ true → IfSome (on_bag sorted (form_of_step it)) (Comes (shape.Bag sorted) it)
from_bag sorted (step.Filter Filter p) h = alike refl refl refl refl
from_bag sorted (step.Within order w) h = where_it_is _ sorted (shape.Bag sorted) refl
from_bag sorted (step.Plain Descending) h = where_it_is _ sorted (shape.Bag sorted) refl
from_bag sorted (step.Group side made) h = absurd (cc)
from_bag sorted (step.Plain Unmodifiable) h = stays refl
from_bag sorted _ h = tt

from_map : (sorted : Bool) (it : Step) → is_known it ≡ true → IfSome (on_map sorted (form_of_step it)) (Comes (shape.Map sorted) it)
from_map sorted (step.Within order w) h = where_it_is _ sorted (shape.Map sorted) refl
from_map sorted (step.Plain Descending) h = where_it_is _ sorted (shape.Map sorted) refl
from_map sorted (step.Plain KeySet) h = other refl (λ below. refl)
from_map sorted (step.Plain Values) h = other refl (λ below. refl)
from_map sorted (step.Plain EntrySet) h = other refl (λ below. refl)
from_map sorted (step.Filter FilterKeys p) h = stays refl
from_map sorted (step.Filter FilterValues p) h = stays refl
from_map sorted (step.FilterPairs q) h = stays refl
from_map sorted (step.Change TransformValues f) h = stays refl
from_map sorted (step.Plain ForMap) h = absurd (cc)
from_map sorted (step.Plain Unmodifiable) h = stays refl
from_map sorted _ h = tt

from_bimap : (it : Step) → is_known it ≡ true → IfSome (on_bimap (form_of_step it)) (Comes shape.BiMap it)
from_bimap (step.Plain KeySet) h = other refl (λ below. refl)
from_bimap (step.Plain Values) h = other refl (λ below. refl)
from_bimap (step.Plain EntrySet) h = other refl (λ below. refl)
from_bimap (step.Filter FilterKeys p) h = stays refl
from_bimap (step.Filter FilterValues p) h = stays refl
from_bimap (step.FilterPairs q) h = stays refl
from_bimap (step.Change TransformValues f) h = other refl (λ below. refl)
from_bimap (step.Plain ForMap) h = absurd (cc)
from_bimap (step.Plain Inverse) h = stays refl
from_bimap (step.Plain Unmodifiable) h = stays refl
from_bimap _ h = tt

from_groups : (of : GroupSort) (it : Step) → IfSome (on_groups of (form_of_step it)) (Comes (shape.Groups of) it)
from_groups of (step.Plain KeySet) = other refl (λ below. refl)
from_groups of (step.Plain EntrySet) = other refl (λ below. refl)
from_groups of (step.Filter FilterKeys p) = stays refl
from_groups of _ = tt

from_multimap : (of : ValueShape) (sorted : Bool) (it : Step) → is_known it ≡ true → IfSome (on_multimap of sorted (form_of_step it)) (Comes (shape.Multimap of sorted) it)
from_multimap of sorted (step.At side k n) h = absurd (cc)
from_multimap of sorted (step.Group side made) h = absurd (cc)
from_multimap of sorted (step.Plain Keys) h = absurd (cc)
from_multimap of sorted (step.Plain Values) h = other refl (λ below. refl)
from_multimap of sorted (step.Plain EntrySet) h = other refl (λ below. refl)
from_multimap of sorted (step.Filter FilterKeys p) h = alike refl refl refl refl
from_multimap of sorted (step.Filter FilterValues p) h = alike refl refl refl refl
from_multimap of sorted (step.FilterPairs q) h = alike refl refl refl refl
from_multimap of sorted (step.Change TransformValues f) h = other refl (λ below. refl)
from_multimap of sorted (step.Plain Unmodifiable) h = stays refl
from_multimap of sorted _ h = tt

from_table : (mirrored sorted : Bool) (it : Step) → is_known it ≡ true → IfSome (on_table mirrored sorted (form_of_step it)) (Comes (shape.Table mirrored sorted) it)
from_table mirrored sorted (step.At side k n) h = absurd (cc)
from_table mirrored sorted (step.Group side made) h = absurd (cc)
from_table mirrored sorted (step.Plain EntrySet) h = other refl (λ below. refl)
from_table mirrored sorted (step.Plain Values) h = other refl (λ below. refl)
from_table mirrored sorted (step.Plain Transpose) h = absurd (cc)
from_table mirrored sorted (step.Change TransformValues f) h = other refl (λ below. refl)
from_table mirrored sorted (step.Plain Unmodifiable) h = stays refl
from_table mirrored sorted _ h = tt

from_pieces : (it : Step) → is_known it ≡ true → IfSome (on_pieces (form_of_step it)) (Comes shape.Pieces it)
from_pieces (step.Piece n s) h = absurd (cc)
from_pieces _ h = tt

-- no step but those at the foot stands on ranges and graphs
from_leaf : (of : Shape) (it : Step) (P : Shape → Type 0) → IfSome (on_leaf of (form_of_step it)) P
from_leaf of (step.Plain word) P = tt
from_leaf of _ P = tt

pub comes : (of : Shape) (it : Step) → is_known it ≡ true → IfSome (apply of it) (Comes of it)
comes shape.List it h = from_list it h
comes (shape.Set sorted) it h = from_set sorted it
comes shape.Coll it h = from_coll it
comes (shape.Rows sort) it h = tt
comes (shape.Map sorted) it h = from_map sorted it h
comes (shape.Groups of) it h = from_groups of it
comes (shape.Bag sorted) it h = from_bag sorted it h
comes shape.BiMap it h = from_bimap it h
comes (shape.Multimap of sorted) it h = from_multimap of sorted it h
comes (shape.Table mirrored sorted) it h = from_table mirrored sorted it h
comes shape.Pieces it h = from_pieces it h
comes shape.RangeSet it h = from_leaf shape.RangeSet it (Comes shape.RangeSet it)
comes shape.RangeMap it h = from_leaf shape.RangeMap it (Comes shape.RangeMap it)
comes (shape.Graph directed) it h = from_leaf (shape.Graph directed) it (Comes (shape.Graph directed) it)
comes (shape.Builder kind) it h = tt
