-- The table of steps, read by where added items go: which steps exchange the parts of an item, and which count from the
-- other end of a list.
use Rattle.std.proofs.Common.{◌≡◌, ℕ, ◌+◌, ◌-◌, Bool, true, false, cond, length, refl}
use Rattle.std.specs.Prelude.{not, IsSome, Some, None}
use Rattle.vocabulary.specs.declared.items.Item.{Item}
use Rattle.vocabulary.specs.declared.shapes.Shape.{Shape}
use Rattle.vocabulary.specs.declared.shapes.Shape.TheVariants as shape
use Rattle.vocabulary.specs.declared.steps.PlainStep.TheVariants.{Reverse, Descending, Inverse, Transpose}
use Rattle.vocabulary.specs.declared.steps.Step.{Step}
use Rattle.vocabulary.specs.declared.steps.Step.TheVariants as step
use Rattle.vocabulary.specs.Items.{swapped}
use Rattle.vocabulary.specs.Shapes.{is_bimap, is_list, is_sorted}
use Rattle.vocabulary.specs.StepShapes.{apply}
use Rattle.vocabulary.specs.Steps.{lifted, passes}
use Rattle.machine.specs.Bases.{World}
use Rattle.machine.specs.Spots.{end_spot, gap, is_swapped}
use Rattle.machine.specs.Views.{View, over, shown}
use Rattle.view_steps.specs.KnownViews.{is_known}
use Rattle.view_steps.specs.Turning.{turns}

-- ---- parts

-- whether a step exchanges the parts of each item
abbrev pub exchanges : Step → Bool
exchanges (step.Plain Inverse) = true
exchanges it = false

abbrev pub exchanged : Bool → Item → Item
exchanged t item = cond t (swapped item) item

-- what a known step makes of an added item on its way down
pub is_lifted : (it : Step) (item : Item) → is_known it ≡ true → lifted it item ≡ cond (passes it item) (Some (exchanged (exchanges it) item)) None
is_lifted (step.Plain Transpose) item h = absurd (cc)
is_lifted (step.At side k n) item h = absurd (cc)
is_lifted _ item h = refl

-- where a step exchanges them, they stand the other way round
pub step_swaps : (it : Step) (v : View) → is_swapped (over it v) ≡ cond (exchanges it) (not (is_swapped v)) (is_swapped v)
step_swaps (step.Plain Inverse) v = refl
step_swaps _ v = refl

-- only a bimap has them exchanged
pub exchanged_bimap : (it : Step) (of : Shape) → IsSome (apply of it) → exchanges it ≡ true → is_bimap of ≡ true
exchanged_bimap (step.Plain Inverse) shape.BiMap some h = refl
exchanged_bimap (step.Plain Inverse) _ some h = absurd (cc)
exchanged_bimap _ of some h = absurd (cc)

-- ---- ends

-- whether a step turns a list round
abbrev pub reverses : Step → Bool
reverses (step.Plain Reverse) = true
reverses it = false

pub reversed_list : (it : Step) (of : Shape) → IsSome (apply of it) → reverses it ≡ true → is_list of ≡ true
reversed_list (step.Plain Reverse) shape.List some h = refl
reversed_list (step.Plain Reverse) _ some h = absurd (cc)
reversed_list _ of some h = absurd (cc)

-- no other step turns what is not sorted
pub turned_unsorted : (it : Step) (of : Shape) → IsSome (apply of it) → is_sorted of ≡ false → turns it ≡ reverses it
turned_unsorted (step.Plain Descending) (shape.Set false) some h = absurd (cc)
turned_unsorted (step.Plain Descending) (shape.Map false) some h = absurd (cc)
turned_unsorted (step.Plain Descending) (shape.Bag false) some h = absurd (cc)
turned_unsorted (step.Plain Descending) _ some h = absurd (cc)
turned_unsorted _ of some h = refl

pub gap_over : (world : World) (it : Step) (v : View) (j i : ℕ) → is_known it ≡ true → gap world (over it v) j i ≡ gap world v j (cond (reverses it) (length (shown world v) + j - i) i)
gap_over world (step.Plain Reverse) v j i h = refl
gap_over world (step.At side k n) v j i h = absurd (cc)
gap_over world (step.Sub n s) v j i h = absurd (cc)
gap_over world (step.Piece n s) v j i h = absurd (cc)
gap_over world _ v j i h = refl

pub end_over : (world : World) (it : Step) (v : View) (j : ℕ) → is_known it ≡ true → end_spot world (over it v) j ≡ cond (reverses it) (gap world v j 0) (end_spot world v j)
end_over world (step.Plain Reverse) v j h = refl
end_over world (step.Sub n s) v j h = absurd (cc)
end_over world (step.Piece n s) v j h = absurd (cc)
end_over world _ v j h = refl
