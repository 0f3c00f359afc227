-- Why reading a view is refused: a sublist on its path is stale, or a graph lacks a node that a step names.
use Rattle.std.specs.Prelude.{Option, None, Some, List, [], ◌∷◌, if◌then◌else◌}
use Rattle.vocabulary.specs.declared.items.Item.{Item}
use Rattle.vocabulary.specs.declared.leaves.LeafStep.{LeafStep}
use Rattle.vocabulary.specs.declared.leaves.LeafStep.TheVariants.{Near}
use Rattle.vocabulary.specs.declared.refusals.Refusal.{Refusal}
use Rattle.vocabulary.specs.declared.refusals.Refusal.TheVariants.{ConcurrentModification, IllegalState}
use Rattle.vocabulary.specs.declared.steps.Step.{Step}
use Rattle.vocabulary.specs.declared.steps.Step.TheVariants.{Sub, Piece}
use Rattle.vocabulary.specs.declared.sublists.Sublist.{Sublist}
use Rattle.machine.specs.Bases.{Base, World, base_at}
use Rattle.machine.specs.Graphs.{has_node}
use Rattle.machine.specs.Leaves.{stepped_all}
use Rattle.machine.specs.Sublists.{is_stale}
use Rattle.machine.specs.Views.{View, base, both, over, root}

-- the first refusal of two that is there
abbrev pub first_refusal : Option Refusal → Option Refusal → Option Refusal
first_refusal None later = later
first_refusal (Some why) later = Some why

abbrev pub stale_refusal : Base → Sublist → Option Refusal
stale_refusal it s = if is_stale it s then Some ConcurrentModification else None

-- a step's own refusal, where the base under it is this one
abbrev pub own_refusal : Base → Step → Option Refusal
own_refusal it (Sub n s) = stale_refusal it s
own_refusal it (Piece n s) = stale_refusal it s
own_refusal it step = None

-- a node that is named among rows which lack it
abbrev pub lacking : Refusal → LeafStep → List Item → Option Refusal
lacking why (Near word a) rows = if has_node a rows then None else Some why
lacking why step rows = None

-- the refusal of reading what steps at the foot make of a base
abbrev pub steps_refusal : List LeafStep → Base → Option Refusal
steps_refusal [] it = None
steps_refusal (step ∷ steps) it = first_refusal (steps_refusal steps it) (lacking IllegalState step (stepped_all steps it).rows)

-- the refusal of reading a view: that of the views below it from left to right, and then its own
abbrev pub reading_refusal : World → View → Option Refusal
reading_refusal world (base l) = steps_refusal l.steps (base_at world l.number)
reading_refusal world (over step v) = first_refusal (reading_refusal world v) (own_refusal (root world v) step)
reading_refusal world (both word v u) = first_refusal (reading_refusal world v) (reading_refusal world u)
