-- The table of steps, read by families: those of known steps, that of the steps that turn the walk round, and those of
-- the steps that make other items.
use Rattle.std.proofs.Common.{◌≡◌, Bool, true, false, refl}
use Rattle.vocabulary.specs.declared.items.Item.{Item}
use Rattle.vocabulary.specs.declared.step_table.Family.{Family}
use Rattle.vocabulary.specs.declared.step_table.Family.TheVariants.{Same, Changed, Turned, Keyed, Cut, Grouped, Run, Pieces}
use Rattle.vocabulary.specs.declared.steps.PlainStep.TheVariants.{Reverse, KeySet, Values, Keys, Inverse, Transpose}
use Rattle.vocabulary.specs.declared.steps.Step.{Step}
use Rattle.vocabulary.specs.declared.steps.Step.TheVariants as step
use Rattle.vocabulary.specs.Steps.{family_of, item_of}
use Rattle.view_steps.specs.KnownViews.{is_known}
use Rattle.view_steps.specs.Turning.{turns}

-- the families that go row by row, however keys go
abbrev pub is_plain : Family → Bool
is_plain Keyed = false
is_plain Grouped = false
is_plain Run = false
is_plain Pieces = false
is_plain family = true

pub known_family : (it : Step) → is_known it ≡ true → is_plain (family_of it) ≡ true
known_family (step.Plain Keys) h = absurd (cc)
known_family (step.Group side made) h = absurd (cc)
known_family (step.Sub n s) h = absurd (cc)
known_family (step.Partition n) h = absurd (cc)
known_family (step.Piece n s) h = absurd (cc)
known_family _ h = refl

-- the family that turns the walk round
abbrev pub is_turned : Family → Bool
is_turned Turned = true
is_turned family = false

pub turned_family : (it : Step) → turns it ≡ is_turned (family_of it)
turned_family (step.Plain Reverse) = refl
turned_family _ = refl

-- the families that make other items
abbrev pub makes_items : Family → Bool
makes_items Changed = true
makes_items Keyed = true
makes_items Cut = true
makes_items family = false

pub unmade : (it : Step) (item : Item) → makes_items (family_of it) ≡ false → item_of it item ≡ item
unmade (step.Plain KeySet) item h = absurd (cc)
unmade (step.Plain Values) item h = absurd (cc)
unmade (step.Plain Keys) item h = absurd (cc)
unmade (step.Plain Inverse) item h = absurd (cc)
unmade (step.Plain Transpose) item h = absurd (cc)
unmade (step.Change word f) item h = absurd (cc)
unmade (step.At side k n) item h = absurd (cc)
unmade _ item h = refl

-- the families that show every item of the view below
abbrev pub shows_each : Family → Bool
shows_each Same = true
shows_each Changed = true
shows_each Turned = true
shows_each family = false
