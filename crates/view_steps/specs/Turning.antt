-- Whether a view is walked from the back of the rows under it.
use Rattle.std.specs.Prelude.{Bool, true, false, not, if◌then◌else◌}
use Rattle.vocabulary.specs.declared.steps.PlainStep.TheVariants.{Reverse, Descending}
use Rattle.vocabulary.specs.declared.steps.Step.{Step}
use Rattle.vocabulary.specs.declared.steps.Step.TheVariants as steps
use Rattle.machine.specs.Views.{View, base, both, over}

-- whether a step turns the walk round
abbrev pub turns : Step → Bool
turns (steps.Plain Reverse) = true
turns (steps.Plain Descending) = true
turns it = false

-- whether a view shows its items in the opposite order of the rows under it
abbrev pub turned : View → Bool
turned (base l) = false
turned (over it v) = if turns it then not (turned v) else turned v
turned (both word v u) = false
