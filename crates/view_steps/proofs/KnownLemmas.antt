-- Known views: they stand on one base, go row by row, and have nothing on their way that a base refuses.
use Rattle.std.proofs.Common.{◌≡◌, true, List, [], ◌∷◌, refl, ap, ◌∙◌}
use Rattle.std.specs.Prelude.{Option, Some, None}
use Rattle.vocabulary.specs.declared.items.Item.{Item}
use Rattle.vocabulary.specs.declared.leaves.LeafStep.{LeafStep}
use Rattle.vocabulary.specs.declared.step_table.Family.{Family}
use Rattle.vocabulary.specs.declared.step_table.Family.TheVariants.{Same, Changed, Turned, Hidden, Cut}
use Rattle.vocabulary.specs.declared.steps.Step.{Step}
use Rattle.vocabulary.specs.Known.{is_known_kind}
use Rattle.vocabulary.specs.Steps.{family_of, lifted}
use Rattle.machine.specs.Bases.{World, base_at}
use Rattle.machine.specs.KeyOrders.{KeyOrder}
use Rattle.machine.specs.Leaves.{leaf_at, stored}
use Rattle.machine.specs.Reading.{first_refusal, own_refusal, reading_refusal, steps_refusal}
use Rattle.machine.specs.Sublists.{sublists_on}
use Rattle.machine.specs.Views.{View, base, both, over, base_under, order_over, root, shape_at}
use Rattle.view_laws.specs.RowForm.{goes_by_row, goes_down, is_by_row, room_in}
use Rattle.view_steps.specs.KnownViews.{has_none, is_known, is_known_view, number_under}
use Rattle.view_steps.proofs.KindTable.{kind_shape}
use Rattle.view_steps.proofs.ListLemmas as truth
use Rattle.view_steps.proofs.PathTable.{no_number, no_own_refusal, step_room}
-- the tables of known steps, passed on
pub use Rattle.view_steps.specs.KnownShapes.{is_known_shape}
pub use Rattle.view_steps.proofs.FamilyTable.{is_plain, known_family}
pub use Rattle.view_steps.proofs.KnownShapeTable.{shape_over}
pub use Rattle.view_steps.proofs.PathTable.{one_step}

-- what is known over a step
pub known_over : (step : Step) (v : View) → is_known_view (over step v) ≡ true → (is_known step ≡ true) × (is_known_view v ≡ true)
known_over step v h = truth.both (is_known step) (is_known_view v) h

-- ---- the base

pub none_there : (steps : List LeafStep) → has_none steps ≡ true → steps ≡ []
none_there [] h = refl
none_there (step ∷ steps) h = absurd (cc)

-- a known view stands on a base as it is stored
pub leaf_under : (v : View) → is_known_view v ≡ true → base_under v ≡ stored (number_under v)
leaf_under (base l) h = ap (λ steps. record { number = l.number; steps = steps }) (none_there l.steps h)
leaf_under (over step v) h = leaf_under v (known_over step v h).1
leaf_under (both word v u) h = absurd (cc)

pub known_base : (world : World) (v : View) → is_known_view v ≡ true → leaf_at world (base_under v) ≡ base_at world (number_under v)
known_base world v h = ap (leaf_at world) (leaf_under v h)

-- ---- the families of known steps

-- what holds of the five families that go row by row holds of that of a known step
pub of_families : (P : Family → Type 0) → P Same → P Changed → P Turned → P Hidden → P Cut → (family : Family) → is_plain family ≡ true → P family
of_families P same changed turned hidden cut Same h = same
of_families P same changed turned hidden cut Changed h = changed
of_families P same changed turned hidden cut Turned h = turned
of_families P same changed turned hidden cut Hidden h = hidden
of_families P same changed turned hidden cut Cut h = cut
of_families P same changed turned hidden cut _ h = absurd (cc)

-- a known step goes row by row, and so does a known view
pub step_by_row : (step : Step) (order : KeyOrder) → is_known step ≡ true → goes_by_row (family_of step) order ≡ true
step_by_row step order h = of_families (λ (family : Family). goes_by_row family order ≡ true) refl refl refl refl refl (family_of step) (known_family step h)

pub known_by_row : (world : World) (v : View) → is_known_view v ≡ true → is_by_row world v ≡ true
known_by_row world (base l) h = refl
known_by_row world (over step v) h =
    let parts = known_over step v h in
    rw (step_by_row step (order_over world v step) parts.0, known_by_row world v parts.1) refl
known_by_row world (both word v u) h = absurd (cc)

-- ---- the shapes of known views of known bases

-- a known view of a base of a known kind is a list, a set, a map, a bimap, or a view of their elements or entries
pub known_shape : (world : World) (v : View) → is_known_view v ≡ true → is_known_kind (leaf_at world (base_under v)).kind ≡ true → is_known_shape (shape_at world v) ≡ true
known_shape world (base l) h kind = kind_shape (leaf_at world l).kind kind
known_shape world (over step v) h kind =
    let parts = known_over step v h in
    shape_over (shape_at world v) step (known_shape world v parts.1 kind) parts.0
known_shape world (both word v u) h kind = absurd (cc)

-- ---- what known steps have nothing of

pub no_sublists : (v : View) → is_known_view v ≡ true → sublists_on v ≡ []
no_sublists (base l) h = refl
no_sublists (over step v) h =
    let parts = known_over step v h in
    rw (no_number step parts.0, no_sublists v parts.1) refl
no_sublists (both word v u) h = refl

-- reading a known view is never refused
pub is_read : (world : World) (v : View) → is_known_view v ≡ true → reading_refusal world v ≡ None
is_read world (base l) h = ap (λ steps. steps_refusal steps (base_at world l.number)) (none_there l.steps h)
is_read world (over step v) h =
    let parts = known_over step v h in
    ap (λ o. first_refusal o (own_refusal (root world v) step)) (is_read world v parts.1) ∙ no_own_refusal (root world v) step parts.0
is_read world (both word v u) h = absurd (cc)

-- there is room for any item on the whole way down
pub has_all_room : (v : View) (item : Item) → is_known_view v ≡ true → room_in v item ≡ true
has_all_room (base l) item h = refl
has_all_room (over step v) item h =
    let parts = known_over step v h in
    rw (step_room step item parts.0) (down (has_all_room v) (lifted step item) parts.1)
  where
    down : ((below : Item) → is_known_view v ≡ true → room_in v below ≡ true) → (o : Option Item) → is_known_view v ≡ true → goes_down (room_in v) o ≡ true
    down rest None k = refl
    down rest (Some below) k = rest below k
has_all_room (both word v u) item h = refl
