-- What is added to a view that allows adding fits its base.
use Rattle.std.proofs.Common.{◌≡◌, ℕ, Bool, true, false, cond, Some, refl, ap, sym, ◌∙◌, subst}
use Rattle.elem.specs.declared.elements.Elem.{Elem}
use Rattle.base_rows.specs.BaseRows.{IsRowIn, IsSpotIn}
use Rattle.vocabulary.specs.declared.edits.Spot.{Spot}
use Rattle.vocabulary.specs.declared.edits.Spot.TheVariants.{Own, Swapped}
use Rattle.vocabulary.specs.declared.items.Item.{Item}
use Rattle.vocabulary.specs.declared.items.Item.TheVariants.{One, Entry}
use Rattle.vocabulary.specs.declared.shapes.Shape.{Shape}
use Rattle.vocabulary.specs.declared.shapes.Shape.TheVariants as shape
use Rattle.vocabulary.specs.Fits.{is_plain_map}
use Rattle.vocabulary.specs.Items.{swapped}
use Rattle.vocabulary.specs.Known.{is_known_kind}
use Rattle.vocabulary.specs.Shapes.{is_bimap, is_elements, is_keyed, is_list, is_map}
use Rattle.vocabulary.specs.Kinds.{shape_of_kind}
use Rattle.machine.specs.Bases.{Base, World, base_at}
use Rattle.machine.specs.Leaves.{leaf_at, stored}
use Rattle.machine.specs.MadeViews.{IsMade}
use Rattle.machine.specs.Spots.{is_swapped, own_spot}
use Rattle.machine.specs.Views.{View, base, base_under, flags_at, lift, shape_at}
use Rattle.view_steps.specs.KnownViews.{is_known_view, number_under}
use Rattle.view_steps.proofs.KnownLemmas.{is_known_shape, known_base, known_shape}
use Rattle.view_steps.proofs.LiftLemmas.{lift_known}
use Rattle.view_steps.proofs.ShapeLemmas.{adds_bimap, adds_over, elements_no_bimap, list_base, list_elements}
use Rattle.view_steps.proofs.UniqueParts.{swapped_bimap}

-- ---- rows of a shape

element_row : (of : Shape) (x : Elem) → is_elements of ≡ true → IsRowIn of (One x)
element_row shape.List x h = tt
element_row (shape.Set sorted) x h = tt
element_row shape.Coll x h = tt
element_row (shape.Bag sorted) x h = tt
element_row _ x h = absurd (cc)

entry_row : (of : Shape) (k w : Elem) → is_known_shape of ≡ true → is_map of ≡ true → IsRowIn of (Entry k w)
entry_row (shape.Map sorted) k w known h = tt
entry_row shape.BiMap k w known h = tt
entry_row _ k w known h = absurd (cc)

-- an element that is added to a view, and an entry, fit its base
pub element_fits : (world : World) (v : View) (x : Elem) → is_known_view v ≡ true → (flags_at world v).add ≡ true → is_elements (shape_at world v) ≡ true → IsRowIn (shape_of_kind (base_at world (number_under v)).kind) (One x)
element_fits world v x known ok h =
    subst (λ (it : Base). IsRowIn (shape_of_kind it.kind) (One x)) (known_base world v known)
    (element_row (shape_of_kind (leaf_at world (base_under v)).kind) x (sym (adds_over world v known ok).elements ∙ h))

pub entry_fits : (world : World) (v : View) (k w : Elem) → is_known_view v ≡ true → is_known_kind (base_at world (number_under v)).kind ≡ true → (flags_at world v).add ≡ true → is_map (shape_at world v) ≡ true
    → IsRowIn (shape_of_kind (base_at world (number_under v)).kind) (Entry k w)
entry_fits world v k w known kind ok h =
    entry_row (shape_of_kind (base_at world (number_under v)).kind) k w (known_shape world (base (stored (number_under v))) refl kind)
    (ap (λ (it : Base). is_map (shape_of_kind it.kind)) (sym (known_base world v known)) ∙ sym (adds_over world v known ok).map ∙ h)

pub list_fits : (world : World) (v : View) (x : Elem) → is_known_view v ≡ true → (flags_at world v).add ≡ true → is_list (shape_at world v) ≡ true → IsRowIn (shape_of_kind (base_at world (number_under v)).kind) (One x)
list_fits world v x known ok h = element_fits world v x known ok (list_elements (shape_at world v) h)

-- a list stands on a list
pub list_under : (world : World) (v : View) → is_known_view v ≡ true → (flags_at world v).add ≡ true → is_list (shape_at world v) ≡ true → is_keyed (shape_of_kind (base_at world (number_under v)).kind) ≡ false
list_under world v known ok h = ap (λ (it : Base). is_keyed (shape_of_kind it.kind)) (sym (known_base world v known)) ∙ list_base world v known ok h

-- ---- bimaps

-- a view that allows adding stands on a bimap where it is one
pub base_alike : (world : World) (v : View) → is_known_view v ≡ true → (flags_at world v).add ≡ true → is_bimap (shape_of_kind (base_at world (number_under v)).kind) ≡ is_bimap (shape_at world v)
base_alike world v known ok = sym (adds_bimap world v known ok ∙ ap (λ (it : Base). is_bimap (shape_of_kind it.kind)) (known_base world v known))

-- elements stand on no bimap
pub elements_base : (world : World) (v : View) → is_known_view v ≡ true → (flags_at world v).add ≡ true → is_elements (shape_at world v) ≡ true → is_bimap (shape_of_kind (base_at world (number_under v)).kind) ≡ false
elements_base world v known ok h = base_alike world v known ok ∙ elements_no_bimap (shape_at world v) h

pub list_no_bimap : (world : World) (v : View) → is_known_view v ≡ true → (flags_at world v).add ≡ true → is_list (shape_at world v) ≡ true → is_bimap (shape_of_kind (base_at world (number_under v)).kind) ≡ false
list_no_bimap world v known ok h = elements_base world v known ok (list_elements (shape_at world v) h)

-- nor do the maps to which several entries come at once
pub plain_map : (of : Shape) → is_plain_map of ≡ true → is_map of ≡ true
plain_map (shape.Map sorted) h = refl
plain_map _ h = absurd (cc)

no_bimap : (of : Shape) → is_plain_map of ≡ true → is_bimap of ≡ false
no_bimap (shape.Map sorted) h = refl
no_bimap _ h = absurd (cc)

pub plain_base : (world : World) (v : View) → is_known_view v ≡ true → (flags_at world v).add ≡ true → is_plain_map (shape_at world v) ≡ true → is_bimap (shape_of_kind (base_at world (number_under v)).kind) ≡ false
plain_base world v known ok h = base_alike world v known ok ∙ no_bimap (shape_at world v) h

pub bimap_map : (of : Shape) → is_bimap of ≡ true → is_map of ≡ true
bimap_map shape.BiMap h = refl
bimap_map _ h = absurd (cc)

pub map_keyed : (of : Shape) → is_map of ≡ true → is_keyed of ≡ true
map_keyed (shape.Map sorted) h = refl
map_keyed shape.BiMap h = refl
map_keyed _ h = absurd (cc)

-- the row of the base that an added item is fits it, too
swapped_fits : (of : Shape) (item : Item) → IsRowIn of item → IsRowIn of (swapped item)
swapped_fits (shape.Map sorted) (Entry k w) fits = tt
swapped_fits (shape.Map sorted) _ fits = absurd fits
swapped_fits shape.BiMap (Entry k w) fits = tt
swapped_fits shape.BiMap _ fits = absurd fits
swapped_fits _ (One x) fits = fits
swapped_fits _ _ fits = absurd fits

pub lifted_fits : (v : View) (of : Shape) (item row : Item) → is_known_view v ≡ true → Some row ≡ lift v item → IsRowIn of item → IsRowIn of row
lifted_fits v of item row known e fits = subst (IsRowIn of) (sym (lift_known v known item row (sym e))) (by (is_swapped v))
  where
    by : (t : Bool) → IsRowIn of (cond t (swapped item) item)
    by true = swapped_fits of item fits
    by false = fits

-- each spot is one of the base where rows go by themselves
pub own_within : (world : World) (v : View) (size : ℕ) (spot : Spot) → is_known_view v ≡ true → is_known_kind (base_at world (number_under v)).kind ≡ true → IsMade world v → spot ≡ own_spot v → IsSpotIn (base_at world (number_under v)).kind size spot
own_within world v size spot known kind made is = subst (IsSpotIn (base_at world (number_under v)).kind size) (sym is) (by (is_swapped v) (swapped_bimap world v known kind made))
  where
    by : (t : Bool) → (t ≡ true → is_bimap (shape_of_kind (base_at world (number_under v)).kind) ≡ true) → IsSpotIn (base_at world (number_under v)).kind size (cond t Swapped Own)
    by true bimap = bimap refl
    by false bimap = tt
