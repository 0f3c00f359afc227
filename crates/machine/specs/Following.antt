-- Where the steps of a line lead.
use Rattle.std.specs.Prelude.{ℕ, ◌+◌, List, [], ◌∷◌, codes, Result, Ok, Err}
use Rattle.vocabulary.specs.declared.refusals.Refusal.{Refusal}
use Rattle.machine.specs.Bases.{World}
use Rattle.machine.specs.Making.{Asked, Made, a_view, absent, made_over, refused}
use Rattle.machine.specs.Outcomes.{Outcome, refused_by, says}
use Rattle.machine.specs.State.{State}
use Rattle.machine.specs.Views.{View}

-- the view of a step over a view, or the refusal of its argument or of the step
abbrev pub step_over : World → ℕ → View → Result Asked Refusal → Made
step_over world number v (Err why) = refused why
step_over world number v (Ok it) = made_over world number v it

abbrev pub and_then : (View → Made) → Made → Made
and_then rest (a_view v) = rest v
and_then rest absent = absent
and_then rest (refused why) = refused why

-- the view that the steps lead to, or the first refusal; each step has the next number, by which its sublist is known
abbrev pub made : World → ℕ → View → List (Result Asked Refusal) → Made
made world number v [] = a_view v
made world number v (it ∷ steps) = and_then (λ next. made world (number + 1) next steps) (step_over world number v it)

-- the view that the steps lead to, from the next handle on
abbrev pub reached : State → View → List (Result Asked Refusal) → Made
reached state v steps = made state.bases state.handles v steps

-- what comes of a view, where the steps lead to one; a group that is not there ends the line
abbrev pub on_view : State → (View → Outcome) → Made → Outcome
on_view state rest (a_view v) = rest v
on_view state rest absent = says state (codes "null")
on_view state rest (refused why) = refused_by state why
