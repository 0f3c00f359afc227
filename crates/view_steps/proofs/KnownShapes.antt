-- What holds of the shapes of known views.
use Rattle.std.proofs.Common.{◌≡◌, true, false, ◌&&◌, List, refl}
use Rattle.elem.specs.Elements.{same}
use Rattle.vocabulary.specs.declared.edits.Spot.{Spot}
use Rattle.vocabulary.specs.declared.items.Item.{Item}
use Rattle.vocabulary.specs.declared.items.Side.{Side}
use Rattle.vocabulary.specs.declared.items.Side.TheVariants.{First, Second}
use Rattle.vocabulary.specs.declared.shapes.RowSort.TheVariants as rows
use Rattle.vocabulary.specs.declared.shapes.Shape.{Shape}
use Rattle.vocabulary.specs.declared.shapes.Shape.TheVariants as shape
use Rattle.vocabulary.specs.Items.{key_of}
use Rattle.vocabulary.specs.Shapes.{is_bag, is_bimap, is_elements, is_keyed, is_list, is_ranges, is_sorted, is_unique}
use Rattle.machine.specs.Placing.{takes_place, takes_row_of}
use Rattle.view_laws.specs.ItemForms.{is_pieces}
use Rattle.view_laws.specs.ShapeNarrowing.{may_have_cells, may_lack_keys}
use Rattle.view_steps.specs.KnownShapes.{is_known_shape}
use Rattle.view_steps.proofs.ListLemmas.{never}

-- ---- parts

pub bimap_keyed : (of : Shape) → is_bimap of ≡ true → is_keyed of ≡ true
bimap_keyed shape.BiMap h = refl
bimap_keyed _ h = absurd (cc)

pub unique_keyed : (of : Shape) (side : Side) → is_unique of side ≡ true → is_keyed of ≡ true
unique_keyed of First h = h
unique_keyed of Second h = bimap_keyed of h

pub sorted_keyed : (of : Shape) → is_known_shape of ≡ true → is_sorted of ≡ true → is_keyed of ≡ true
sorted_keyed (shape.Set sorted) known h = refl
sorted_keyed (shape.Map sorted) known h = refl
sorted_keyed _ known h = absurd (cc)

-- a sorted view has its keys alone
sorted_single : (of : Shape) → is_sorted of ≡ true → is_bimap of ≡ false
sorted_single shape.BiMap h = absurd (cc)
sorted_single _ h = refl

pub sorted_first : (of : Shape) (side : Side) → is_sorted of ≡ true → is_unique of side ≡ true → side ≡ First
sorted_first of First sorted h = refl
sorted_first of Second sorted h = absurd (never (is_bimap of) (sorted_single of sorted) h)

-- known shapes have elements or entries
abbrev IsOfPairs : Shape → Type 0
IsOfPairs of = (may_have_cells of ≡ false) × (may_lack_keys of ≡ false)

pub of_pairs : (of : Shape) → is_known_shape of ≡ true → IsOfPairs of
of_pairs shape.List h = (refl, refl)
of_pairs (shape.Set sorted) h = (refl, refl)
of_pairs shape.Coll h = (refl, refl)
of_pairs (shape.Map sorted) h = (refl, refl)
of_pairs (shape.Rows rows.Entry) h = (refl, refl)
of_pairs shape.BiMap h = (refl, refl)
of_pairs _ h = absurd (cc)

-- ---- what they are not

pub no_pieces : (of : Shape) → is_known_shape of ≡ true → is_pieces of ≡ false
no_pieces shape.Pieces h = absurd (cc)
no_pieces _ h = refl

pub no_ranges : (of : Shape) → is_known_shape of ≡ true → is_ranges of ≡ false
no_ranges shape.RangeSet h = absurd (cc)
no_ranges shape.RangeMap h = absurd (cc)
no_ranges _ h = refl

pub no_bag : (of : Shape) → is_known_shape of ≡ true → is_bag of ≡ false
no_bag (shape.Bag sorted) h = absurd (cc)
no_bag _ h = refl

-- ---- lists

pub list_unkeyed : (of : Shape) → is_list of ≡ true → is_keyed of ≡ false
list_unkeyed shape.List h = refl
list_unkeyed _ h = absurd (cc)

pub list_unsorted : (of : Shape) → is_list of ≡ true → is_sorted of ≡ false
list_unsorted shape.List h = refl
list_unsorted _ h = absurd (cc)

pub list_elements : (of : Shape) → is_list of ≡ true → is_elements of ≡ true
list_elements shape.List h = refl
list_elements _ h = absurd (cc)

pub elements_no_bimap : (of : Shape) → is_elements of ≡ true → is_bimap of ≡ false
elements_no_bimap shape.BiMap h = absurd (cc)
elements_no_bimap _ h = refl

-- ---- rows of bases of these shapes

-- a row takes the place of that of its key
pub by_key : (of : Shape) → is_known_shape of ≡ true → (new old : Item) → takes_place of new old ≡ (is_keyed of && same (key_of new) (key_of old))
by_key (shape.Multimap values sorted) known new old = absurd (cc)
by_key (shape.Table mirrored sorted) known new old = absurd (cc)
by_key _ known new old = refl

-- and is taken, unless the shape is that of a bimap
pub each_taken : (of : Shape) → is_known_shape of ≡ true → is_bimap of ≡ false → (spot : Spot) (rows : List Item) (new : Item) → takes_row_of of spot rows new ≡ true
each_taken (shape.Bag sorted) known one spot rows new = absurd (cc)
each_taken shape.BiMap known one spot rows new = absurd (cc)
each_taken _ known one spot rows new = refl
