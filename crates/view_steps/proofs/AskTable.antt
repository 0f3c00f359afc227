-- The table of steps, read by what they ask of the parts of items: only a step that leaves items out asks for anything,
-- a known one for a window of keys, and a step that leaves items as they are moves no part.
use Rattle.std.proofs.Common.{◌≡◌, Bool, true, false, IfSome, refl}
use Rattle.std.specs.Prelude.{Option, Some, None}
use Rattle.elem.specs.declared.windows.Window.{Window}
use Rattle.vocabulary.specs.declared.items.Side.{Side}
use Rattle.vocabulary.specs.declared.orders.Order.{Order}
use Rattle.vocabulary.specs.declared.step_table.Family.{Family}
use Rattle.vocabulary.specs.declared.step_table.Family.TheVariants.{Cut}
use Rattle.vocabulary.specs.declared.steps.PlainStep.TheVariants.{KeySet, Values, Keys, Inverse, Transpose}
use Rattle.vocabulary.specs.declared.steps.Step.{Step}
use Rattle.vocabulary.specs.declared.steps.Step.TheVariants as step
use Rattle.vocabulary.specs.Orders.{encloses, upto}
use Rattle.vocabulary.specs.Shapes.{is_sorted}
use Rattle.vocabulary.specs.Steps.{family_of}
use Rattle.vocabulary.specs.Windows.{window_over}
use Rattle.machine.specs.Bases.{World}
use Rattle.machine.specs.KeptSteps.{order_at, window_at}
use Rattle.machine.specs.MadeViews.{IsStepOn}
use Rattle.machine.specs.Views.{View, shape_at}
use Rattle.view_laws.specs.declared.lanes.PartAsk.{PartAsk}
use Rattle.view_laws.specs.declared.lanes.PartAsk.TheVariants.{Any, Within}
use Rattle.view_laws.specs.Narrowing.{asked_by, asking, source_of}
use Rattle.view_laws.proofs.LiftTable.{leaves_items}
use Rattle.view_steps.specs.KnownShapes.{is_known_shape}
use Rattle.view_steps.specs.KnownViews.{is_known}
use Rattle.view_steps.proofs.PartTable.{window_sorted}

-- a step that leaves items as they are leaves each part where it is
pub source_kept : (it : Step) (side : Side) → is_known it ≡ true → leaves_items (family_of it) ≡ true → source_of it side ≡ Some side
source_kept (step.Plain KeySet) side known h = absurd (cc)
source_kept (step.Plain Values) side known h = absurd (cc)
source_kept (step.Plain Keys) side known h = absurd (cc)
source_kept (step.Plain Inverse) side known h = absurd (cc)
source_kept (step.Plain Transpose) side known h = absurd (cc)
source_kept (step.Change word f) side known h = absurd (cc)
source_kept (step.At given k n) side known h = absurd (cc)
source_kept _ side known h = refl

-- the families that leave items out
abbrev pub leaves_out : Family → Bool
leaves_out Cut = true
leaves_out family = false

pub asks_none : (it : Step) → leaves_out (family_of it) ≡ false → asked_by it ≡ asking Any Any
asks_none (step.Within order w) h = absurd (cc)
asks_none (step.At side k n) h = absurd (cc)
asks_none _ h = refl

-- the window in which a known step leaves the items below it
abbrev pub own_window : Step → Option (Order × Window)
own_window (step.Within order w) = Some (order, w)
own_window it = None

-- what it asks of their keys
abbrev pub ask_in : Option (Order × Window) → PartAsk
ask_in None = Any
ask_in (Some asked) = Within asked.0 asked.1

pub own_asked : (it : Step) → is_known it ≡ true → asked_by it ≡ asking (ask_in (own_window it)) Any
own_asked (step.At side k n) known = absurd (cc)
own_asked _ known = refl

-- the window above a step is its own, where it has one
abbrev pub window_in : Option (Order × Window) → Window → Window
window_in None below = below
window_in (Some asked) below = asked.1

pub window_above : (it : Step) (below : Window) → window_over it below ≡ window_in (own_window it) below
window_above (step.Within order w) below = refl
window_above _ below = refl

pub window_source : (it : Step) (side : Side) → IfSome (own_window it) (λ (asked : Order × Window). source_of it side ≡ Some side)
window_source (step.Within order w) side = refl
window_source _ side = tt

-- such a window is one of a sorted view, as the rule of `within` leaves it
abbrev pub IsWindowOn : World → View → Order → Window → Type 0
IsWindowOn world v order w = (is_sorted (shape_at world v) ≡ true) × (order ≡ order_at world v) × (upto order w.lo w.hi ≡ true) × (encloses order (window_at v) w ≡ true)

pub window_on : (world : World) (it : Step) (v : View) → is_known_shape (shape_at world v) ≡ true → IsStepOn world v it → IfSome (own_window it) (λ (asked : Order × Window). IsWindowOn world v asked.0 asked.1)
window_on world (step.Within order w) v shape on = (window_sorted (shape_at world v) order w shape on.given, on.kept.0, on.kept.1, on.kept.2)
window_on world _ v shape on = tt
