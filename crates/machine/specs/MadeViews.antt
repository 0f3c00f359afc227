-- Views as they are made: each step on the path is one that the view below it has.
use Rattle.std.specs.Prelude.{◌≡◌, ◌+◌, ◌<◌, true, None, IsSome}
use Rattle.vocabulary.specs.declared.steps.JoinStep.{JoinStep}
use Rattle.vocabulary.specs.declared.steps.Step.{Step}
use Rattle.vocabulary.specs.declared.steps.Step.TheVariants.{Within}
use Rattle.machine.specs.Bases.{World}
use Rattle.machine.specs.Making.{join_refusal}
use Rattle.machine.specs.Views.{View, base, both, over, path, shape_at}
use Rattle.machine.specs.KeptSteps.{order_at, window_at}
use Rattle.vocabulary.specs.Limits.{longest_path}
use Rattle.vocabulary.specs.Orders.{encloses, upto}
use Rattle.vocabulary.specs.StepShapes.{apply, apply_join}
use Rattle.vocabulary.specs.Steps.{steps_in}

-- a step is kept as the rule of `within` leaves it: in the order of the base, with a window inside that of the view
abbrev pub IsKept : World → View → Step → Type 0
IsKept world v (Within order w) = (order ≡ order_at world v) × (upto order w.lo w.hi ≡ true) × (encloses order (window_at v) w ≡ true)
IsKept world v step = Unit {0}

-- a step that a view has
pub record IsStepOn (world : World) (v : View) (step : Step) : Type 0 where
  pub given : IsSome (apply (shape_at world v) step)
  pub kept : IsKept world v step
  pub short : path v + steps_in step < longest_path + 1

-- a step that two views have
pub record IsJoinOn (world : World) (word : JoinStep) (v u : View) : Type 0 where
  pub given : IsSome (apply_join (shape_at world v) word (shape_at world u))
  pub fits : join_refusal v u ≡ None

-- each step on the path is one that the view below it has
abbrev pub IsMade : World → View → Type 0
IsMade world (base l) = Unit {0}
IsMade world (over step v) = IsStepOn world v step × IsMade world v
IsMade world (both word v u) = IsJoinOn world word v u × IsMade world v × IsMade world u
