-- The table of steps, read by what they do to the path of a view: a known step stands for itself alone, has no number of
-- a sublist, refuses nothing, and has room for every item.
use Rattle.std.proofs.Common.{◌≡◌, true, [], refl}
use Rattle.std.specs.Prelude.{None}
use Rattle.vocabulary.specs.declared.items.Item.{Item}
use Rattle.vocabulary.specs.declared.steps.Step.{Step}
use Rattle.vocabulary.specs.declared.steps.Step.TheVariants as step
use Rattle.vocabulary.specs.Steps.{steps_in}
use Rattle.machine.specs.Bases.{Base}
use Rattle.machine.specs.Reading.{own_refusal}
use Rattle.machine.specs.Sublists.{own_number}
use Rattle.view_laws.specs.RowForm.{has_room}
use Rattle.view_steps.specs.KnownViews.{is_known}

pub one_step : (it : Step) → is_known it ≡ true → steps_in it ≡ 1
one_step (step.At side k n) h = absurd (cc)
one_step (step.Piece n s) h = absurd (cc)
one_step _ h = refl

pub no_number : (it : Step) → is_known it ≡ true → own_number it ≡ []
no_number (step.Sub n s) h = absurd (cc)
no_number (step.Piece n s) h = absurd (cc)
no_number _ h = refl

pub no_own_refusal : (at : Base) (it : Step) → is_known it ≡ true → own_refusal at it ≡ None
no_own_refusal at (step.Sub n s) h = absurd (cc)
no_own_refusal at (step.Piece n s) h = absurd (cc)
no_own_refusal at _ h = refl

pub step_room : (it : Step) (item : Item) → is_known it ≡ true → has_room it item ≡ true
step_room (step.At side k n) item h = absurd (cc)
step_room _ item h = refl
