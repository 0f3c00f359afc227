-- What views make of a row of their base, step by step.
use Rattle.std.specs.Prelude.{◌≡◌, true}
use Rattle.vocabulary.specs.declared.items.Item.{Item}
use Rattle.vocabulary.specs.declared.step_table.Family.{Family}
use Rattle.vocabulary.specs.declared.step_table.Family.TheVariants.{Changed, Hidden, Cut}
use Rattle.vocabulary.specs.declared.steps.Step.{Step}
use Rattle.vocabulary.specs.Steps.{family_of, item_of, passes}
use Rattle.machine.specs.Views.{View, base, both, over}
use Rattle.view_laws.specs.declared.places.Found.{Found}
use Rattle.view_laws.specs.Places.{found_changed, found_if, found_row}
use Rattle.view_laws.specs.RowForm.{form_of, found_row_by}
use Rattle.view_steps.specs.KnownViews.{is_known_view}

-- what a view by a step has of a row, by what the view below has of it
abbrev pub found_in_family : Family → Step → Found → Found
found_in_family Changed step d = found_changed (item_of step) d
found_in_family Hidden step d = found_if (passes step) d
found_in_family Cut step d = found_changed (item_of step) d
found_in_family other step d = d

abbrev pub found_above : Step → Found → Found
found_above step d = found_in_family (family_of step) step d

-- and what a view has of it, by what its base has
abbrev pub found_through_steps : View → Found → Found
found_through_steps (base l) d = d
found_through_steps (over step v) d = found_above step (found_through_steps v d)
found_through_steps (both word v u) d = d

-- that is what its form makes of the row
abbrev pub FoundThroughSteps : Type 0
FoundThroughSteps = (v : View) (row : Item) → is_known_view v ≡ true → found_through_steps v (found_row row) ≡ found_row_by (form_of v) row
