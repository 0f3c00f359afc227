-- What a write on a view of ranges is at its base.
use Rattle.std.specs.Prelude.{Bool, true, false, List, [], ◌∷◌}
use Rattle.elem.specs.declared.elements.Elem.{Elem}
use Rattle.elem.specs.declared.spans.Span.{Span}
use Rattle.elem.specs.Places.{place}
use Rattle.range_views.specs.Coalescing.{coalesced}
use Rattle.range_views.specs.Shown.{end_place}
use Rattle.range_views.specs.Writes.{reach}
use Rattle.range_views.specs.declared.reach.Reach.{Reach}
use Rattle.range_views.specs.declared.reach.Reach.TheVariants.{Refused, Nothing, Cover, Uncover}
use Rattle.range_views.specs.declared.steps.RangeStep.{RangeStep}
use Rattle.range_views.specs.declared.steps.RangeStep.TheVariants as path
use Rattle.vocabulary.specs.declared.leaves.LeafStep.{LeafStep}
use Rattle.vocabulary.specs.declared.leaves.LeafStep.TheVariants as leaf
use Rattle.machine.specs.Bases.{World}
use Rattle.machine.specs.RangeRows.{RangeWrite, covering, putting, taking, uncovering}
use Rattle.machine.specs.RangeViews.{map_rows}
use Rattle.machine.specs.Views.{View, base_under, shown}

-- the steps that change what is shown of ranges, the last first
abbrev pub range_steps : List LeafStep → List RangeStep
range_steps [] = []
range_steps (leaf.Complement ∷ steps) = path.Complement ∷ range_steps steps
range_steps (leaf.Part w ∷ steps) = path.Window (place w.lo) (place w.hi) ∷ range_steps steps
range_steps (step ∷ steps) = range_steps steps

abbrev pub path_of : View → List RangeStep
path_of v = range_steps (base_under v).steps

-- ---- what reaches a range set, and what a range map

abbrev pub is_refused : Reach → Bool
is_refused Refused = true
is_refused other = false

abbrev pub set_writes : Reach → List RangeWrite
set_writes Refused = []
set_writes Nothing = []
set_writes (Cover lo hi) = covering lo hi ∷ []
set_writes (Uncover lo hi) = uncovering lo hi ∷ []

abbrev pub put_writes : Elem → Reach → List RangeWrite
put_writes v (Cover lo hi) = putting lo hi v ∷ []
put_writes v other = []

abbrev pub take_writes : Reach → List RangeWrite
take_writes (Uncover lo hi) = taking lo hi ∷ []
take_writes other = []

-- what adding a range at a view is at its base, or removing it
abbrev pub reached : View → Bool → Span → Reach
reached v adds s = reach (path_of v) adds (place s.lo) (place s.hi)

abbrev pub cleared : View → Reach
cleared v = reach (path_of v) false 0 end_place

-- what a put is that first joins the range with the rows shown that have the value and are connected to it
abbrev pub reached_coalescing : World → View → Span → Elem → Reach
reached_coalescing world v s x =
    let joined = coalesced (place s.lo) (place s.hi) x (map_rows (shown world v)) in
    reach (path_of v) true joined.0 joined.1
