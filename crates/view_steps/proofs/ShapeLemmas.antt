-- A view that allows adding has the shape of its base, up to lists that are collections.
use Rattle.std.proofs.Common.{◌≡◌, true, false, IfSome, ◌∙◌}
use Rattle.std.specs.Prelude.{Option, Some, None}
use Rattle.vocabulary.specs.declared.shapes.Shape.{Shape}
use Rattle.vocabulary.specs.declared.steps.Flags.{Flags}
use Rattle.vocabulary.specs.declared.steps.Step.{Step}
use Rattle.vocabulary.specs.Kinds.{shape_of_kind}
use Rattle.vocabulary.specs.Shapes.{is_bimap, is_keyed, is_list}
use Rattle.vocabulary.specs.StepShapes.{apply}
use Rattle.vocabulary.specs.Steps.{flags_after}
use Rattle.machine.specs.Bases.{World}
use Rattle.machine.specs.Leaves.{leaf_at}
use Rattle.machine.specs.Views.{View, base, both, over, base_under, flags_at, shape_after, shape_at}
use Rattle.view_laws.proofs.LiftTable.{adds_below}
use Rattle.view_steps.specs.KnownViews.{is_known, is_known_view}
use Rattle.view_steps.proofs.KnownLemmas.{known_over}
use Rattle.view_steps.proofs.KnownShapes.{list_unkeyed}
use Rattle.view_steps.proofs.ShapeTable.{Comes, IsLike, comes, like_itself}
pub use Rattle.view_steps.proofs.KnownShapes.{elements_no_bimap, list_elements}

like_both : (a b c : Shape) → IsLike a b → IsLike b c → IsLike a c
like_both a b c f g = record { elements = g.elements ∙ f.elements; map = g.map ∙ f.map; bimap = g.bimap ∙ f.bimap; list = λ h. f.list (g.list h) }

like_given : (of : Shape) (it : Step) (below : Flags) (given : Option Shape) → (flags_after of it below).add ≡ true → IfSome given (Comes of it) → IsLike of (shape_after of given)
like_given of it below None ok h = like_itself of
like_given of it below (Some above) ok h = h.like below ok

-- each known step that allows adding gives such a shape
step_like : (of : Shape) (below : Flags) (it : Step) → is_known it ≡ true → (flags_after of it below).add ≡ true → IsLike of (shape_after of (apply of it))
step_like of below it known ok = like_given of it below (apply of it) ok (comes of it known)

pub adds_over : (world : World) (v : View) → is_known_view v ≡ true → (flags_at world v).add ≡ true → IsLike (shape_of_kind (leaf_at world (base_under v)).kind) (shape_at world v)
adds_over world (base l) known ok = like_itself (shape_of_kind (leaf_at world l).kind)
adds_over world (over it v) known ok =
    let parts = known_over it v known in
    like_both (shape_of_kind (leaf_at world (base_under v)).kind) (shape_at world v) (shape_at world (over it v))
    (adds_over world v parts.1 (adds_below (shape_at world v) (flags_at world v) it ok))
    (step_like (shape_at world v) (flags_at world v) it parts.0 ok)
adds_over world (both word v u) known ok = absurd (cc)

-- so it stands on a bimap where it is one
pub adds_bimap : (world : World) (v : View) → is_known_view v ≡ true → (flags_at world v).add ≡ true → is_bimap (shape_at world v) ≡ is_bimap (shape_of_kind (leaf_at world (base_under v)).kind)
adds_bimap world v known ok = (adds_over world v known ok).bimap

-- a list that allows adding stands over a list
pub list_base : (world : World) (v : View) → is_known_view v ≡ true → (flags_at world v).add ≡ true → is_list (shape_at world v) ≡ true → is_keyed (shape_of_kind (leaf_at world (base_under v)).kind) ≡ false
list_base world v known ok h = list_unkeyed (shape_of_kind (leaf_at world (base_under v)).kind) ((adds_over world v known ok).list h)
