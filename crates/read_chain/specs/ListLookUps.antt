-- Look-ups of elements in views of lists, which one call of the base answers.
use Rattle.std.specs.Prelude.{Bool, true, false, not, ◌&&◌}
use Rattle.vocabulary.specs.declared.calls.Call.{Call}
use Rattle.vocabulary.specs.declared.calls.Call.TheVariants as call
use Rattle.vocabulary.specs.declared.calls.OnElement.TheVariants.{Contains, IndexOf}
use Rattle.vocabulary.specs.declared.items.Item.{Item}
use Rattle.vocabulary.specs.declared.items.Item.TheVariants.{One}
use Rattle.vocabulary.specs.declared.step_table.Family.{Family}
use Rattle.vocabulary.specs.declared.step_table.Family.TheVariants.{Same, Turned, Hidden}
use Rattle.vocabulary.specs.Kinds.{shape_of_kind}
use Rattle.vocabulary.specs.Shapes.{is_list}
use Rattle.vocabulary.specs.Steps.{family_of}
use Rattle.machine.specs.Bases.{World}
use Rattle.machine.specs.Views.{View, base, both, over, root}
use Rattle.read_chain.specs.Reads.{shows_all}
use Rattle.view_steps.specs.Turning.{turned}

-- whether the views by a family of steps may show other items than those of the views below them
abbrev pub makes_others : Family → Bool
makes_others Same = false
makes_others Turned = false
makes_others Hidden = false
makes_others family = true

-- whether no step of a view makes other items
abbrev pub keeps_items : View → Bool
keeps_items (base l) = true
keeps_items (over step v) = not (makes_others (family_of step)) && keeps_items v
keeps_items (both word v u) = false

-- whether one look-up in a list tells if a view shows an item: it is an element, and no step makes other items
abbrev pub is_found_at_once : World → View → Item → Bool
is_found_at_once world v (One x) = is_list (shape_of_kind (root world v).kind) && keeps_items v
is_found_at_once world v other = false

-- whether it tells, too, where the first such item stands: the view is walked from the front
abbrev pub is_placed_at_once : World → View → Item → Bool
is_placed_at_once world v item = is_found_at_once world v item && not (turned v)

-- and at which index it is shown: nothing is left out before it
abbrev pub is_indexed_at_once : World → View → Item → Bool
is_indexed_at_once world v item = is_placed_at_once world v item && shows_all v

-- whether a call asks for one item, which is found at once
abbrev pub is_asked_at_once : World → View → Call → Bool
is_asked_at_once world v (call.Element Contains x) = is_found_at_once world v (One x)
is_asked_at_once world v (call.Element IndexOf x) = is_indexed_at_once world v (One x)
is_asked_at_once world v other = false
