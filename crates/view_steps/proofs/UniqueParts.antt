-- Parts that no two items of a view share come from such parts of its rows.
use Rattle.std.proofs.Common.{◌≡◌, Bool, true, false, cond, refl, ap, sym, ◌∙◌, subst}
use Rattle.std.specs.Prelude.{not, Option, Some}
use Rattle.vocabulary.specs.declared.items.Side.{Side}
use Rattle.vocabulary.specs.declared.items.Side.TheVariants.{First}
use Rattle.vocabulary.specs.declared.steps.Step.{Step}
use Rattle.vocabulary.specs.Kinds.{shape_of_kind}
use Rattle.vocabulary.specs.Known.{is_known_kind}
use Rattle.vocabulary.specs.Shapes.{is_bimap, is_keyed, is_sorted, is_unique}
use Rattle.machine.specs.Bases.{Base, World}
use Rattle.machine.specs.Leaves.{leaf_at}
use Rattle.machine.specs.MadeViews.{IsMade}
use Rattle.machine.specs.Spots.{is_swapped}
use Rattle.machine.specs.Views.{View, base, both, over, base_under, root, shape_at}
use Rattle.view_laws.specs.Narrowing.{source_of}
use Rattle.view_steps.specs.KnownLanes.{part_below, part_from}
use Rattle.view_steps.specs.KnownViews.{is_known_view}
use Rattle.view_steps.proofs.KnownLemmas.{known_base, known_over, known_shape}
use Rattle.view_steps.proofs.KnownShapes.{unique_keyed}
use Rattle.view_steps.proofs.ListLemmas.{never}
use Rattle.view_steps.proofs.PartTable.{bimap_down}
use Rattle.view_steps.proofs.SpotTable.{exchanged_bimap, exchanges, step_swaps}
pub use Rattle.view_steps.proofs.KnownShapes.{sorted_first, sorted_keyed}
pub use Rattle.view_steps.proofs.PartTable.{part_down, sorted_down, window_sorted}

pub part_from_below : (it : Step) (side : Side) (b : Side) → source_of it side ≡ Some b → part_from (source_of it side) side ≡ b
part_from_below it side b from = ap (λ (o : Option Side). part_from o side) from

-- a part that no two items of a view share comes from one that no two rows share
pub unique_below : (world : World) (v : View) (side : Side) → is_known_view v ≡ true → is_known_kind (leaf_at world (base_under v)).kind ≡ true → IsMade world v → is_unique (shape_at world v) side ≡ true
    → is_unique (shape_of_kind (leaf_at world (base_under v)).kind) (part_below v side) ≡ true
unique_below world (base l) side known kind made h = h
unique_below world (over it v) side known kind made h =
    let parts = known_over it v known in
    let p = part_down (shape_at world v) it side (known_shape world v parts.1 kind) made.0.given h in
    subst (λ (s : Side). is_unique (shape_of_kind (leaf_at world (base_under v)).kind) (part_below v s) ≡ true) (sym (part_from_below it side p.below p.from))
    (unique_below world v p.below parts.1 kind made.1 p.unique)
unique_below world (both word v u) side known kind made h = absurd (cc)

-- so over a base that does not go by key no view is sorted
pub unsorted_over : (world : World) (v : View) → is_known_view v ≡ true → is_known_kind (leaf_at world (base_under v)).kind ≡ true → IsMade world v → is_keyed (shape_of_kind (leaf_at world (base_under v)).kind) ≡ false → is_sorted (shape_at world v) ≡ false
unsorted_over world v known kind made none = by (is_sorted (shape_at world v)) refl
  where
    by : (t : Bool) → is_sorted (shape_at world v) ≡ t → is_sorted (shape_at world v) ≡ false
    by false e = e
    by true e =
        let unique = unique_below world v First known kind made (sorted_keyed (shape_at world v) (known_shape world v known kind) e) in
        absurd (never (is_keyed (shape_of_kind (leaf_at world (base_under v)).kind)) none (unique_keyed (shape_of_kind (leaf_at world (base_under v)).kind) (part_below v First) unique))

-- a view with the shape of a bimap stands on one
pub bimap_base : (world : World) (v : View) → is_known_view v ≡ true → is_known_kind (leaf_at world (base_under v)).kind ≡ true → IsMade world v → is_bimap (shape_at world v) ≡ true → is_bimap (shape_of_kind (leaf_at world (base_under v)).kind) ≡ true
bimap_base world (base l) known kind made h = h
bimap_base world (over it v) known kind made h =
    let parts = known_over it v known in
    bimap_base world v parts.1 kind made.1 (bimap_down (shape_at world v) it (known_shape world v parts.1 kind) made.0.given h)
bimap_base world (both word v u) known kind made h = absurd (cc)

swapped_over : (world : World) (v : View) → is_known_view v ≡ true → is_known_kind (leaf_at world (base_under v)).kind ≡ true → IsMade world v → is_swapped v ≡ true → is_bimap (shape_of_kind (leaf_at world (base_under v)).kind) ≡ true
swapped_over world (base l) known kind made h = absurd (cc)
swapped_over world (over it v) known kind made h =
    let parts = known_over it v known in
    by (bimap_base world v parts.1 kind made.1) (swapped_over world v parts.1 kind made.1) (exchanges it) refl (sym (step_swaps it v) ∙ h)
  where
    by : {P : Type 0} → (is_bimap (shape_at world v) ≡ true → P) → (is_swapped v ≡ true → P) → (t : Bool) → exchanges it ≡ t → cond (exchanges it) (not (is_swapped v)) (is_swapped v) ≡ true → P
    by there rest true e s = there (exchanged_bimap it (shape_at world v) made.0.given e)
    by there rest false e s = rest (sym (ap (λ t. cond t (not (is_swapped v)) (is_swapped v)) e) ∙ s)
swapped_over world (both word v u) known kind made h = absurd (cc)

-- a view that shows the parts of its base exchanged stands on a bimap
pub swapped_bimap : (world : World) (v : View) → is_known_view v ≡ true → is_known_kind (root world v).kind ≡ true → IsMade world v → is_swapped v ≡ true → is_bimap (shape_of_kind (root world v).kind) ≡ true
swapped_bimap world v known kind made h =
    let same = known_base world v known in
    sym (ap (λ (it : Base). is_bimap (shape_of_kind it.kind)) same) ∙ swapped_over world v known (ap (λ (it : Base). is_known_kind it.kind) same ∙ kind) made h

-- so over another base none does
pub never_swapped : (world : World) (v : View) → is_known_view v ≡ true → is_known_kind (root world v).kind ≡ true → IsMade world v → is_bimap (shape_of_kind (root world v).kind) ≡ false → is_swapped v ≡ false
never_swapped world v known kind made one = by (is_swapped v) refl
  where
    by : (t : Bool) → is_swapped v ≡ t → is_swapped v ≡ false
    by false e = e
    by true e = absurd (never (is_bimap (shape_of_kind (root world v).kind)) one (swapped_bimap world v known kind made e))
