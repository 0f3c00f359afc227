-- Views of which all steps are known: they stand on one base, and go row by row. And what an edit makes of that base.
use Rattle.std.specs.Prelude.{ℕ, Bool, true, false, ◌&&◌, List, [], ◌∷◌}
use Rattle.vocabulary.specs.declared.leaves.LeafStep.{LeafStep}
use Rattle.vocabulary.specs.declared.steps.Step.{Step}
use Rattle.vocabulary.specs.Known.{is_known_step}
use Rattle.vocabulary.specs.Steps.{form_of_step}
use Rattle.machine.specs.Bases.{World}
use Rattle.machine.specs.Edits.{Edit, an_edit, world_after}
use Rattle.machine.specs.Views.{View, base, base_under, both, over}

abbrev pub has_none : List LeafStep → Bool
has_none [] = true
has_none (step ∷ steps) = false

abbrev pub is_known : Step → Bool
is_known step = is_known_step (form_of_step step)

abbrev pub is_known_view : View → Bool
is_known_view (base l) = has_none l.steps
is_known_view (over step v) = is_known step && is_known_view v
is_known_view (both word v u) = false

-- the number of the base under a view
abbrev pub number_under : View → ℕ
number_under v = (base_under v).number

-- the bases after an edit of one of them
abbrev pub edited_at : World → ℕ → Edit → World
edited_at world b edit = world_after world b (an_edit edit)
